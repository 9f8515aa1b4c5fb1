-- The names that several proofs of this crate take from elsewhere.
pub use Rattle.std.proofs.Common.{subst, sym, ◌∙◌, List, ap, ℕ, ◌∷◌, ◌≡◌, arith, refl, ◌++◌, ◌≤◌, [], length, Some, true, ◌<◌, Bool, None, false, ◌+◌, Option, inl, inr, ◌==◌, ◌⊎◌, take, ◌≢◌, suc, IfSome, map, IsSome, slice_get, zero, append_assoc, length-append, min, MatchBool, drop, get_or-set_other, get_or-set_same, length-take, not, ◌&&◌, ◌-◌, ◌||◌}
pub use Rattle.std.specs.{List.{AllByRecursion, IsDistinct}, Option.option_map_or, Prelude.{nat_lt, slice_index, Contains, IsTrue, if◌then◌else◌, is_some, nat_eq, slice_index_or, replicate, ⊤}}
pub use Rattle.std.proofs.lemmas.{Bool.{false≢true, eqb-true, ltb-true, cond_both, eq-eqb, ltb-false, ne_eqb, eqb-false, lt-ltb, or_cases}, List.{append-nil, take_all, length-map, length-replicate, length_push, take-append-le, map_push, set-get_or, take-append-drop, take_at}}
pub use Rattle.std.proofs.lemmas.Bool.Decides.{eqb_tells}
pub use Rattle.partial_model.specs.declared.history.{Applied.Applied, Opening.Opening}
pub use Rattle.partial_model.specs.{History.{stamp_of, value_of}, Notes.{Noted, seen_by, IsLegal, LegalNotes, MayBeRefused, AreCollects, IsEntryFor, NamesComponents, SawTogether, seen_after}, Outcome.{places_by, places_written}}
pub use Rattle.partial_model.proofs.{HistoryLemmas.{place_below, overtaken_at}, NotesLemmas.{AllByRecursion-get, places_written-append, seen_by-push, LegalNotes-grows, LegalNotes-push, places_by-push, slice_get_last}}
pub use Rattle.partial_intervals.specs.Intervals.{Ranges, highest}
pub use Rattle.partial_words.specs.declared.step.Step.{Step}
pub use Rattle.partial_words.specs.declared.step.Step.TheVariants.{Store, Add, Load, Exchange}
pub use Rattle.partial_words.specs.{Announcement.{announcement_size, announcement_block, indices_word}, Layout.{Layout, IsLayout, slot_word, list_base, pool_counter, pool_end, list_counter, list_head, slot_counter, total, greatest_list, greatest_record, greatest_claim, most_ports, list_end}, Record.{view_word, plain_record_size, StandsAt, full_record_size, prev_of, record_block, value_word, view_of, ReadsBackRecord, next_word, own_view, prev_word, record_value, view_block}, Step.{words_after, answer_of, word_of, Answers}, VacatedList.{list_block, intervals_word, list_size}}
pub use Rattle.partial_words.proofs.{BlockLemmas.list_reads_back, RecordLemmas.{length-pairs, length-record_block, reads_back}}
pub use Rattle.partial_active.specs.declared.join.JoinStage.{JoinStage}
pub use Rattle.partial_active.specs.declared.join.JoinStage.TheVariants.{Claiming, Spent, Storing, Joined}
pub use Rattle.partial_active.specs.{Found.{AreFoundFor, begins_at}, IndexSet.{has_index, with_index}, Join.{join_step, fits_join, join_after}, Moments.{AreOrderly, AtSome, IsOrderlyEvent, IsOrderlyRun, MakesOwn, words_behind}, Orderly.{slot_at, IsAnnouncement, IsHeadOf, IsSlotMove, IsSlotOf, IsVacatedList, Orderly, Publishes, head_at}}
pub use Rattle.partial_machine.specs.declared.stage.{Change.Change, Reply.Reply, Stage.Stage}
pub use Rattle.partial_machine.specs.declared.stage.Stage.TheVariants.{Finished, ScanBegun, Exchanging, Idle, StoringAnnouncement, StoringRecord, ClaimingRecord, GettingSet, Joining, Leaving, ReadBegun, UpdateBegun}
pub use Rattle.partial_machine.specs.{Behind.{IsAfterAnswer, IsMarkedFor, refuses_pool, refuses_slots}, Bounds.most_steps, Calls.{call_at, is_at_rest, is_begun, update_call, begin_scan, begun_of}, Machine.{CoreState, step_at, advance_at, at_stage, step_of, advance, record_size, has_spare, claim_size, record_step, into_spare, into_claim, scanning, record_words, reply_of, expects, fits_pool, getting, lists_spent, pool_refused, reply_at, after_joining, after_scanning, begin_getting, begin_joining, with_getting, with_scanning, after_getting, overtaken_reply, own_pairs, scanned_reply, scanned_values, slots_refused, view_at}, Possible.{IsPossible, IsPossibleAt, IsRecordAnswer, IsPoolCount}, Sound.{is_sound_at, IsSound, AreComponentIndices, IsRecord}, Steps.{Run, AreOfScan, pairs_loaded}}
pub use Rattle.partial_machine.proofs.{Begins.{rests_are_sound, calls_begin}, Behind.{answers_lead_on, due_at, either}, Sound.{size_few, record_cases, record_step_cases}, StepCounts.{makes_few_steps, reads_in_two}}
pub use Rattle.partial_state.specs.{Effects.{IsKept, Keeps, State, idle_holdings, idle_holding}, Holdings.{Holding, unpublished, Own, IfJoined, ClaimedSlot, Due, HaveOtherPorts, without_block, EachTwo, Space, block_at, block_of, joined_in, space_begin}, LawfulWords.{LawfulWords, CoversAll, IsDue, IsEntry, IsOwn, IsTied, IsClaim}, Loads.{KeptAnswer, IsLoaded, IsPublished, IsSlotAnswer}, Views.{JoinedAnnouncement, Covers, HasPairs, IsBegunSince, IsHead, IsWithin, ViewNames, AreApart, Block, HasFreshView, IsAnnounced, IsApartFrom, IsPublishedList, IsView, IsViewOf}}
pub use Rattle.partial_state.specs.Holdings.{Counted.{PoolWords, Slots, ListWords}, Space.{Pool, Lists}}
pub use Rattle.partial_state.proofs.{Blocks.own_added, BlockLaws.{stores_are_kept, claims_are_kept, own_freed, publishings_are_kept}, Claimed.{entry_free, entry_published, unpublished_two}, Frames.{Frame, announcement_claimed, block_published, list_claimed, pairs_move, parts_apart, within_more}, HoldingLemmas.{own_in_pool, if_some_at, three_words, found_some, if_all, joined_weaker, unjoined_if, without_this}, ListLemmas.{all_weaker, all_after, all_before, all_append, two_after, two_before, all_at, all_back, all_front, all_join, all_map, all_unmap}, LoadLaw.loads_are_true, MarkLaws.{drops_are_kept, dues_are_kept, refusals_are_kept}, NoNewEntry.counter_bound, SpareLaws.{spares_are_kept, takes_are_kept}, SlotLaws.{joins_are_kept, leaves_are_kept, slot_claims_are_kept}, WinLaw.wins_are_kept}
pub use Rattle.partial_knowledge.specs.{Scans.{IsThird, AreStamps, HasValues}, Sets.{IsReadable, HasAll}}
pub use Rattle.partial_knowledge.proofs.{Chains.{stamp_within, begun_within, standing, standing_word}, Scans.{embedded_scans_know, got}, Sets.getsets_know}
pub use Rattle.partial_core.specs.{Held.{holdings, holding_of, joined_since, holding_at, joins_at, is_storing, joined_from, own_at, own_list, slot_claimed}, Known.{IsKnown, IsTrueYet, AreAnswersKept, notes_by}, Lawful.{Lawful, LawfulAmong, OpensLawful}, Orderly.{LawfulIsOrderly, StepsAreOrderly}, Part.{Part, PartAmong, all_parts, core_of, first_at, port_of, HasBegun, led_by, IsLedTo, has_no_step, IsMachineOf, IsMarkedLike, answers_of, with_seen, fresh_parts}, Ports.{HasFewSteps, IsReady, LawfulCallsAreBounded, LawfulMachinesAreReady, LawfulPortsFit, LawfulRecordsAreWithin, LooksStayLawful}, Steps.{AreNotesOf, LeadsOn, memory_after, added_by, FitsHistory, PublishesWithin, StepsStayLawful, StepShows, begun_with, kept_with, past_with, since_with}}
