-- The names that several proofs of this crate take from elsewhere.
pub use Rattle.std.proofs.Common.{ap, ◌∙◌, ◌≡◌, subst, sym, ℕ, arith, List, None, Some, length, Option, if◌then◌else◌, false, refl, true, ◌<◌, Bool, ◌==◌, ◌≤◌, [], not, ◌+◌, ◌∷◌, slice_index_or, slice_index, IsSome, ◌&&◌, ◌-◌, inl, inr, min, ◌||◌, ◌⊎◌, append-nil, append_assoc, drop, map, take, ◌%◌, ◌*◌, ◌++◌, ◌/◌}
pub use Rattle.std.specs.{List.{list_all, AllByRecursion, flat_map}, Option.{option_map_or, is_some}, Prelude.{nat_lt, IsTrue, IfSome, ⊤}, Vec.vec_capacity}
pub use Rattle.std.proofs.lemmas.{Bool.{false≢true, ltb-true, eqb-true, ltb-false, cond_both, eqb-false, ne_eqb}, List.{length-map, length-replicate}}
pub use Rattle.partial_model.specs.declared.call.{Call.Call, Refused.Refused}
pub use Rattle.partial_words.specs.declared.step.Step.{Step}
pub use Rattle.partial_words.specs.declared.step.Step.TheVariants.{Store, Add, Load}
pub use Rattle.partial_words.specs.{Announcement.{announcement_size, indices_word}, Layout.{IsLayout, Layout, most_ahead, slot_word, greatest_record, list_counter, pool_counter, pool_end, slot_counter, list_end, total}, Record.{next_word, pairs_size, full_record_size, pair_words, pairs_word, plain_record_size, view_size}, Step.{answer_of, word_of}}
pub use Rattle.partial_active.specs.declared.join.JoinStage.{JoinStage}
pub use Rattle.partial_active.specs.declared.join.JoinStage.TheVariants.{Claiming, Joined, Spent, Storing}
pub use Rattle.partial_active.specs.{Found.begins_at, IndexSet.{AreIndices, with_index}, Join.{join_step, advance_join, join_after, fits_join, join_left, step_of_join}}
pub use Rattle.partial_active.proofs.Distinct.{few_indices, no_index, found_kept}
pub use Rattle.partial_machine.specs.declared.stage.{Change.Change, Reply.Reply, Stage.Stage}
pub use Rattle.partial_machine.specs.declared.stage.Stage.TheVariants.{Finished, ReadBegun, ScanBegun, UpdateBegun, GettingSet, Idle, LoadingValue}
pub use Rattle.partial_machine.specs.{Behind.{AnswersLeadOn, CallsAreRefusedAtOnce, CallsBegin, ClaimsPastLists, DueIsUnreplied, DueWordsAreThere, IsBegunWith, IsMarkedFor, IsOldMark, IsRefusedBy, RestsAreSound, refuses_pool, refuses_slots}, Bounds.{steps_left, left_at, most_steps, most_of_update}, Calls.{call_at, is_begun, update_call, begin_scan, begun_like, begun_of, is_at_rest, makes_steps, refusal_of}, Machine.{CoreState, at_stage, advance, advance_at, scanning, after_joining, begin_joining, fits_pool, getting, pool_refused, with_scanning, begin_getting, expects, record_size, has_spare, claim_size, record_step, into_spare, into_claim, step_at, with_getting, reply_at, overtaken_reply, reply_of, scanned_reply, scanned_values, slots_refused, step_of}, Possible.{IsPossibleAt, IsRecordAnswer, IsPossible, IsPoolCount, MayPerform}, Sound.{is_sound_at, IsSound, IsMachine, AreComponentIndices, IsInPool, IsRecord}, Steps.{Run, AreOfScan, MakesFewSteps, ReadsInTwo, ScansMakeTheirSteps, StaysSound, is_len, loads_len, pairs_loaded}}
