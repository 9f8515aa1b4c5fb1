-- The names that several proofs of this crate take from elsewhere.
pub use Rattle.std.proofs.Common.{ℕ, ◌≡◌, ◌+◌, ◌<◌, ◌≤◌, ◌⊎◌, ◌++◌, Bool, true, false, Some, None, IfSome, List, [], ◌∷◌, length, refl, sym, ap, subst, ◌∙◌, inl, inr, arith, zero, suc, ◌*◌, ◌-◌, ◌==◌, Option, ◌≢◌, map, take, slice_index_or, slice_set, ◌%◌, ◌^◌, length-append, slice_get, Contains, append_assoc, ◌/◌, IsSome, drop}
pub use Rattle.std.specs.{List.AllByRecursion, Option.{option_map, option_map_or}, Prelude.{⊤, is_some, nat_lt, ◌&&◌, slice_index, if◌then◌else◌, ◌||◌}}
pub use Rattle.std.proofs.Math.Nat.{mul-le-mul_right, mul-le-mul_left}
pub use Rattle.std.proofs.lemmas.{Bool.{cases_lt, lt-ltb}, List.{append-nil, length-map, get_or-set_same, get_or-set_other, length-set, set-get_or, take_all, append_cancel_left, map-append, take-append-drop}}
pub use Rattle.std.proofs.lemmas.Bool.Decides.{eqb_tells}
pub use Rattle.partial_model.specs.declared.call.{Call.Call, Note.Note}
pub use Rattle.partial_model.specs.declared.history.{Applied.Applied, Opening.Opening}
pub use Rattle.partial_model.specs.{History.{IsHistory, stamp_of, value_of, last_entry, initial_stamp, HaveDistinctStamps}, Notes.{Noted, Fits, IsLegal, IsTrueOf, LegalNotes, place_of, seen_by, shown_by, AreCollects, IsEntryFor, seen_after}, Outcome.{EachOnce, places_by, places_written, wrote}}
pub use Rattle.partial_model.proofs.{AllLemmas.{all_at, all_weaker, all_take, all_append, all_map, all_back}, HistoryLemmas.{behind_both, stamp_all}, ListLemmas.some_same, NotesLemmas.{IsTrueOf-grows, LegalNotes-push, places_written-append, seen_by-push, LegalNotes-grows, LegalNotes-last}, StampsStay.{stamps_never_return, distinct_at, take_within}}
pub use Rattle.partial_words.specs.declared.step.Step.{Step}
pub use Rattle.partial_words.specs.declared.step.Step.TheVariants.{Load, Store, Exchange, Add}
pub use Rattle.partial_words.specs.{Announcement.announcement_size, Chain.opening_word, Layout.{Layout, IsLayout, slot_counter, slot_word, list_base, list_head, list_counter, pool_counter, first_free, total, pool_base, initial_record, pool_end, initial_words, most_ports}, Record.{value_word, view_word, plain_record_size, view_of, prev_word}, Step.{answer_of, word_of, words_after}}
pub use Rattle.partial_words.proofs.{ChainLemmas.{value_behind_stamp, records_within}, LayoutLemmas.{opening_component, initial_prev, initial_value, initial_view, opening_record}}
pub use Rattle.partial_active.specs.declared.join.JoinStage.{JoinStage}
pub use Rattle.partial_active.specs.declared.join.JoinStage.TheVariants.{Claiming, Joined, Spent, Storing}
pub use Rattle.partial_active.specs.Join.{join_step, join_after}
pub use Rattle.partial_machine.specs.declared.stage.{Change.Change, Reply.Reply, Stage.Stage}
pub use Rattle.partial_machine.specs.declared.stage.Stage.TheVariants.{ClaimingRecord, Exchanging, Finished, GettingSet, Idle, Joining, Leaving, LoadingValue, ReadBegun, ScanBegun, Scanning, StoringAnnouncement, StoringRecord, UpdateBegun, Viewing}
pub use Rattle.partial_machine.specs.{Calls.{is_begun, answer_for, is_at_rest}, Machine.{CoreState, claim_size, record_size, record_step, step_at, step_of, reply_of, advance, advance_at, after_joining, at_stage, begin_getting, expects, getting, scanning, with_getting, with_scanning}, Sound.{IsSound, is_sound_at}}
pub use Rattle.partial_machine.proofs.Sound.{record_cases, record_step_cases, size_few}
pub use Rattle.partial_state.specs.Holdings.Counted.{PoolWords, Slots}
pub use Rattle.partial_state.specs.{Holdings.{Holding, EachTwo, announcements, spares, unpublished}, LawfulWords.{IsOwn, IsTied, IsEntry, LawfulWords}}
pub use Rattle.partial_state.proofs.OpeningLaw.{counters_open, none_marked, pool_opens, slot_opens, slots_open, idle_all, idle_length, idle_ports, idle_slots, list_opens, lists_open, none_announced, none_spared, none_written, spares_open}
pub use Rattle.partial_core.specs.{Held.{holdings, joined_since, own_list}, Known.{AreAnswersKept, IsKnown}, Part.{Part, PartAmong, IsMachineOf, core_of, port_of, first_at, fresh_parts, fresh_part, with_seen}, Ports.RecordsAreWithin, Steps.{LeadsOn, added_by, AreNotesOf, IsNoteOf, kept_with, since_with, IsPlacedAt, FitsHistory}}
pub use Rattle.partial_core.proofs.{Added.not_below, Laws.{lawful_machines_are_ready, lawful_records_are_within, steps_stay_lawful, lawful_ports_fit, looks_stay_lawful}, MidCalls.view_loads, Steps.{holding_in, memory_at, sizes_here, sound_at, sound_here}}
pub use Rattle.partial_epochs.specs.{Control.{LawfulControl, IsOwner, IsSiteWord, IsEarlier, IsStillEntering, IsOld, IsOut, MayPut, NotInto}, Entering.{Arrives, ArrivalsStayLawful, EntriesLoad, LooksAreTrue, EnteringWordsStayLawful, arrived_port, having_passed}, Epochs.{Beside, FindsNone, HasClearRecords, HasClearSlots, IsArena, IsFinished, IsNewPart, IsSetting, IsStanding, LawfulEpochs, controls, next_epoch_word, numbers, site_now, IsPresent, awaits_slot, claims_no_more, IsEpochPlan, awaits_at, is_claiming}, EveryStep.{Becomes, MayMove, MayAdd, Move, is_applied, EveryStepStaysLawful, IsSiteAfter, MemoriesOpenLawful, MoveLeads, moved_words, noted_after, since_after}, History.{opened_after, carried_after, stamp_after, history_of, public_entry, public_log, public_stamp, EpochsContinue, stamp_limit}, Layout.{seal, greatest_claim_of, set_offset, slot_limit, Plan, Site, epoch_limit, IsSealed, IsToBeSet, packed, current_word, base, control_words, arena_words, component_words, carried_words, set_word, carried_word, IsSite, at_word, control_size, entering_from, plain, arena_limit, unsealed, based_step, span, whole, seals, entering_bit, own_word, unpacked}, Lists.{put, list_of, count}, MachineSteps.{MachineLeads, MachineStepsStayLawful, MayClaim, MayScan, MeetsSeal, ends_over, ClaimsHaveRoom, UnsealedIsPresent, HaveSlots, MachinesAreNeverRefused, MachinesAreNeverSpent}, Notes.{LawfulMemory, IsAside, having_seen, noting, one_history, ExpectedOne, IsEpochHistory, LawfulNotes, MayNote, NotesStayLawful, EpochReached, public_answer, public_call, public_note, public_noted, seen_of, EpochsFitOneHistory, PublicStampsAreUnique, public_of, ArrivalsKeepNotes, AsidesStayLawful, GlanceLeads, GlancesStayLawful, IsSight, PublishesKeepNotes, SightLeads, SightsStayLawful}, Opening.{OpensOver, OpensOverLawful, EpochsOpenLawful, OpensAll, first_beside, first_site, first_ports, first_epoch, nothing_held}, Owning.{at_next_port, having_given, having_loaded, having_looked, having_put, just_taken, owning_port, OwnersLook, PutsStayLawful, GivesStayLawful, EnteringWordsAreLoaded, OthersAreElsewhere, OwnersLookAway, TakesStayLawful}, Ports.{Port, Control, OwnedArena, Epoch, Entering}, Publishing.{ClearSlotsCountAsSet, ClearsSlots, having_published, having_set, next_beside, vacated, IsWholeArena, PublishesStayLawful, next_site, next_epoch, resting_arena, SetsStayLawful}, Reads.{ReadsAnswerOverEpochs, read_stamp, ComponentsNameRecords, LastWordsAreFinal, NameTheLast, IsSeenRecord, SeenRecordsStay}, Sealing.{IsBesideAs, passing_port, PassLeads, SealedPassesStayLawful, SealsStayLawful}, Time.{KeepsTime, ArrivalsKeepTime, AsidesKeepTime, EntriesKeepTime, IsBesideTime, LoadedEnteringWordsKeepTime, LooksKeepTime, EnteringWordsKeepTime, OpeningsKeepTime, PublishesKeepTime, PutsKeepTime, StepsKeepSites}}
pub use Rattle.partial_epochs.specs.EveryStep.Move.{FindsClear, Makes, Rests, Sees, Seals, PassesSealed, LooksAsOwner, StoresEnteringWord, LoadsCurrent, ExchangesEnteringWord, Takes, Gives, FindsElsewhere, LoadsEnteringWord, Puts, Sets, Notes}
pub use Rattle.partial_epochs.specs.Ports.Entering.{Stands, StoredEntering, Loaded}
