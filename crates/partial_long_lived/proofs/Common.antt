-- The names that several proofs of this crate take from elsewhere.
pub use Rattle.std.proofs.Common.{ℕ, zero, suc, ◌≡◌, ◌≢◌, ◌+◌, ◌<◌, ◌≤◌, ◌==◌, ◌⊎◌, Bool, true, false, if◌then◌else◌, List, [], ◌∷◌, ◌++◌, Contains, refl, sym, ◌∙◌, ap, subst, Some, slice_get, inl, inr, arith, None, append-nil, Option, IfSome, true≢false, length, take, ◌-◌, ◌*◌, ◌%◌, ◌^◌, Ok, map, length-append, slice_set, append_assoc, ◌&&◌, not, Result, Err, IfOk, IfErr, ◌||◌, drop, ◌/◌, rules}
pub use Rattle.std.specs.{List.{AllByRecursion, list_all}, Option.{option_map, option_map_or}, Prelude.{nat_lt, slice_index, is_some, ⊤}, Slots.slots_items, Vec.{vec_capacity, vec_len}}
pub use Rattle.std.proofs.Math.Seq.{take-append_seam}
pub use Rattle.std.proofs.lemmas.{Bool.{lt-ltb, cases_lt}, List.{length-map, get_or-set_other, nil_from_length, get_or-set_same, take-append-le, take_all, ext_get_or, get_or-map, length-set, get_or_push, get_or_append_left, take-append-drop, append_cancel_left}}
pub use Rattle.std.proofs.lemmas.Bool.Decides.{eqb_tells}
pub use lib.{ListN.get_elem?, Seq.set-get_or}
pub use mathlib.Core.Option.{some, some-injective, some-ne-none}
pub use prog.Atomic.{either}
pub use Rattle.partial_table.specs.{Seats.{first_port, flatten, further_ports}, Table.{TableId, Me, Allows, State, keeps, Joins, Splits, opening}}
pub use Rattle.partial_table.proofs.Seats.{around, dealt_first, dealt_none, first_dealt, made_next, of_last, others_left}
pub use Rattle.partial_model.specs.declared.call.{Answer.Answer, Call.Call, Note.Note}
pub use Rattle.partial_model.specs.declared.history.{Applied.Applied, Opening.Opening}
pub use Rattle.partial_model.specs.{History.{stamp_of, IsHistory, value_of, HaveDistinctStamps, initial_stamp, last_entry}, Notes.{LegalNotes, IsEntryFor, IsLegal, Noted, seen_by, place_of, Fits, IsTrueOf, AreCollects, seen_after}, Outcome.{places_written, EachOnce, places_by, wrote}}
pub use Rattle.partial_model.proofs.{AllLemmas.{all_after, all_append, all_at, all_back, all_before, all_front, all_weaker, all_join, all_take}, HistoryLemmas.{stamp_all, behind_both, place_below}, ListLemmas.some_same, NotesLemmas.{AllByRecursion-get, LegalNotes-last, legal_notes_are_shown, LegalNotes-push, LegalNotes-grows}, StampsStay.{stamps_never_return, take_within}}
pub use Rattle.partial_words.specs.declared.block.Block.{Block}
pub use Rattle.partial_words.specs.declared.step.Step.{Step}
pub use Rattle.partial_words.specs.declared.step.Step.TheVariants.{Load, Exchange, Store, Add}
pub use Rattle.partial_words.specs.{Announcement.announcement_size, Chain.{opening_word, initial_record_word}, Layout.{Layout, first_free, list_base, pool_base, IsLayout, most_ahead, no_spare, pool_end, list_counter, list_head, pool_counter, slot_counter, slot_word, total, initial_record, initial_words}, Record.{value_word, plain_record_size, view_word, prev_word}, Step.{answer_of, word_of, words_after}}
pub use Rattle.partial_machine.specs.declared.stage.{Change.Change, Reply.Reply, Stage.Stage}
pub use Rattle.partial_machine.specs.declared.stage.Stage.TheVariants.{Exchanging, Finished, UpdateBegun, Idle, ReadBegun, LoadingValue, GettingSet, Viewing, ClaimingRecord, StoringRecord, ScanBegun, StoringAnnouncement, Joining, Scanning, Leaving}
pub use Rattle.partial_machine.specs.{Bounds.{left_at, most_of_update, steps_left}, Behind.{refuses_pool, refuses_slots, IsAfterAnswer}, Calls.{is_at_rest, answer_for, call_of, update_call, is_begun}, Lines.scan_asked, Machine.{CoreState, fresh, advance_at, at_stage, begin_getting, lists_spent, overtaken_reply, reply_of, step_at, step_of, advance, after_joining, begin_joining, expects, fits_pool, getting, pool_refused, record_size, claim_size, into_spare, into_claim, record_step, with_getting, scanned_values, reply_at}, Possible.IsPossibleAt, Sound.{AreComponentIndices, IsInPool, IsSound, is_sound_at, IsRecord}}
pub use Rattle.partial_machine.proofs.Sound.{record_cases, record_step_cases}
pub use Rattle.partial_machine.proofs.Laws.{answers_lead_on, due_is_unreplied, due_words_are_there}
pub use Rattle.partial_core.specs.{Part.{IsBetween, fresh_part, IsMarkedLike, core_of, Part, first_at, KeptAnswer}, Steps.{AreNotesOf, IsNoteOf, IsPlacedAt, begun_with, since_with, StepShows, moved_part, CollectsStamps}}
pub use Rattle.partial_core.proofs.{Added.not_below, Laws.{lawful_records_are_within, ports_come_between, first_steps_make_calls, further_steps_make_calls}}
pub use Rattle.partial_epochs.specs.{FreeArenas.{Counts, HasSeenArrival, IsInUse, IsNamed, LeavesInUse, MayCount, Tally, first_tally, may_free, met_after, most_freed}, EveryStep.{Becomes, MayMove, Move, MoveLeads, moved_words, port_after, since_after}, Control.{IsSiteWord, IsOld}, Entering.{arrived_port, having_passed}, Epochs.{Beside, LawfulEpochs, site_now, IsEpochPlan, IsStanding, numbers, controls, next_epoch_word, HasClearRecords, awaits_at, is_claiming}, History.{public_stamp, history_of, public_entry, public_log, stamp_limit, opened_after, carried_after, stamp_after}, Layout.{Site, Plan, arena_limit, at_word, base, entering_bit, entering_from, own_word, packed, seal, set_offset, set_word, unsealed, current_word, IsSite, component_words, control_size, control_words, arena_words, IsSealed, plain, based_step, slot_limit, whole, span, IsToBeSet, unpacked}, Lists.{put, list_of}, MachineSteps.{HaveSlots, MachineLeads, MeetsSeal, ends_over, MayClaim}, Notes.{IsAside, IsSight, LawfulMemory, MayNote, public_noted, one_history, having_seen, public_of, EpochReached, noting, ExpectedOne, IsEpochHistory}, Opening.{OpensAll, first_beside, first_ports}, Owning.{at_next_port, having_given, having_loaded, just_taken, owning_port, having_looked}, Ports.{Port, OwnedArena, Control, Entering, Epoch}, Publishing.{next_site, IsWholeArena, having_published, next_beside, having_set, resting_arena}, Sealing.{passing_port, IsBesideAs}}
pub use Rattle.partial_epochs.specs.Ports.Entering.{Stands, StoredEntering, Loaded}
pub use Rattle.partial_epochs.proofs.{Continue.{epochs_continue, history_took, many, last_all}, Entering.{current_is, not_entering_word}, Laws.{every_step_counts, few_come_free, meetings_keep_tally, openings_keep_tally, own_sites_are_in_use, owned_arenas_are_in_use, some_arena_is_free, entries_load, components_name_records, epochs_are_histories, seen_records_stay, unsealed_is_present, machines_are_never_refused, memories_open_lawful, openings_keep_time, every_step_stays_lawful}, Lists.{put_other, put_same, at_of, put_all}, NotesStay.{legal_notes_seen, one_or_none, places_both}, OneHistory.{epochs_fit_one_history, history_grows, held_history, present_history, public_stamps_are_unique}, Offsets.{below_whole, set_index, packed_arena, bases_up, offset_after, offset_front, slot_offset, slot_set}, Present.{same_site, unpacked_is}, Public.{stamp_public, initial_low, value_public}, Seats.{history_longer, among, known}, Sights.ends}
pub use Rattle.partial_lines.specs.declared.exchange.Exchanged.{Exchanged}
pub use Rattle.partial_lines.specs.declared.whole_scan.Scanned.{Scanned}
pub use Rattle.partial_lines.specs.{Lines.{IsQuiet, StoresNoView}, Replies.{RestsLike, update_reply}}
pub use Rattle.partial_long_lived.specs.declared.answers.UpdatedIf.{UpdatedIf}
pub use Rattle.partial_long_lived.specs.declared.error.Refused.{Refused}
pub use Rattle.partial_long_lived.specs.declared.error.Refused.TheVariants.{Component, Overtaken, EpochsSpent}
pub use Rattle.partial_long_lived.specs.declared.rule.About.{About}
pub use Rattle.partial_long_lived.specs.declared.shape.Shape.{Shape}
pub use Rattle.partial_long_lived.specs.declared.stand.Stand.{Stand}
pub use Rattle.partial_long_lived.specs.declared.update_if.Asked.{Asked}
pub use Rattle.partial_long_lived.specs.{Bounds.{arena_steps, claim_steps, pass_steps, most_of_change, most_of_scan, most_of_scans, round_if_steps, round_steps}, Calls.{Differ, HasStampThen, StillStand, StoodTogether, IsRefused, Scans, Updates, ScansStamped}, Closing.{Closes, ClosesLawfully, IsPortOf}, Ports.{HasLawfulState, IsOf, MemoryView, PortView, new_ports, port_view, seen_in, AreByOpened, Knows}, Resting.IsResting, Rule.{newcomers, Began, Contention, Search, Reckoning, Reckons, IsSearching, SeatedPort, Found, BeganInTime, IsFinal, IsLast, IsSeat, IsSeen, IsSince, plan_of, IsRuleKept, one_of, seats_of, newcomer}, Shape.{bare, shape_plan, IsShapeOf}}
pub use Rattle.partial_long_lived.specs.Inner.{Calls.{EpochSettled, HasCome, HasNotedRead, IsIdle, StaysAt, EpochEntered, LookFound, HasValue, MayEnter}, Changing.{EpochChanged, NotChanged, GivesBack, MeetsBy, MeetsPort, PassBegun, SearchBegun, Searches, SearchesOn, search_at, IsCarriedStamp, IsRight, IsFixedWord, MayPutPort, OfOwned, Owns, PutsBy, SetsLists, SetsNext, TakesBy, HasSetWords, Stays, HasTaken, HoldsEnteringWord, IsPast, Remains, IsCause, HasSamePart, HasLoadedPort, HasPassed, SetsValue, after_value, after_values, FoundValue, HasControl, FindsSet}, Conditional.{EndedIf, HasLooked, IsExpected, IsPlaceOf, noted_if, outcome_of, HasUpdatedIf}, DoubleCollect.{AreCollected, HasGlanced, HasStayed, WasThere, AreInside, HadValue, HadValues, HasBegunCollect, MayNoteScan, NotesScan, noted_together, notes_scan}, Held.{IsHeld, epoch_at, port_at}, Last.{HaveLast, ReadsLast, value_now, arena_now, component_now}, Loads.{opening_of, SeatSees, IsFinding, Wish, noted_by, place_seen, stamp_seen, value_seen, Recalls, found_by, contention_by, component_at, sees}, Machine.{SeatMakes, MissesSeal, unsealed_answer, LeavesComponents, IsApart, MayMake, change_of, over_by, answer_found, makes, word_at, goes_on, Exchanges, begins, exchanges, SeatBegins, FindsZero, finds_zero}, Meeting.{AreComparable, Observes, HasMet, WereLawful, observes}, Moves.{becomes, BeginsPass, BeginsSearch, HasPassedArenas, contention_giving, meeting, passing, contention_taking, contention_there, contention_loading, contention_putting, FindsClear, SeatGives, LoadsPort, PassesSealed, SeatPublishes, PutsPort, Seals, Sets, Takes, passed_at, BeganBy, elsewhere, port_loaded, port_put, taken_at, LoadsCurrent, SeatLooks, StoresEnteringWord, having_found, loads, looked_at, stored_entering, SeatArrives, site_found}, Opening.OpensShape, Rests.{NotScanned, RestsAt}, Scans.{EnteredYoung, HasNotedScan, RestsUnmarked, ScanMade, noted_scan}, Stamped.{ScannedNamed, ArePublic, MadeNamed, NameStamps, ScannedStamped}, Steps.{SeatGoes, IsSeatKnown, IsOne, tells, BeginsWith, HasStampsInWords, HasRecordStamps}, Unchanged.{stamp_at, HadStamps, HadAnother, HadStamp, HasStamp}, Under.{claimed_end, CallMade, awaits, has_claimed, neither, record_claim, IsGoing, ComesTo, MayBegin, machine_at, before_claim, before_no_view, seat_left_at, seat_steps_left}, Updates.{UpdateAttempted, ExchangeDue, ExpectsOne, IsEntryOf, IsOwnMachine, NotesNothing, PortStayed, noted_where, word_from, MayCall, CameBy, IsLate, FoundSealed, UpdateEnded, noted_change, public_update, stamp_from, asked_change, ended_as}}
pub use Rattle.partial_long_lived.specs.Inner.Loads.Wish.{Glances, Reads, Expects, Finds}
