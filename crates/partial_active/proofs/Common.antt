-- The names that several proofs of this crate take from elsewhere.
pub use Rattle.std.proofs.Common.{ℕ, ◌≡◌, ◌+◌, ◌*◌, ◌<◌, ◌≤◌, ◌⊎◌, Bool, Some, is_some, List, [], ◌∷◌, ◌++◌, length, slice_index, inl, inr, refl, sym, ap, subst, ◌∙◌, arith, ◌-◌, min, true, false, nat_eq, ◌==◌, nat_lt, if◌then◌else◌, IsSome, suc, slice_index_or, zero, slice_set, ◌||◌, None, ◌&&◌, not, take, ◌↔◌, count_by, Option, append_assoc, append-nil, map, MatchBool, vec_len, vec_capacity}
pub use Rattle.std.specs.List.{list_any, flat_map}
pub use Rattle.std.proofs.Math.Nat.{mul-le-mul_right}
pub use Rattle.std.proofs.lemmas.{Bool.{false≢true, cond_both, ltb-false, eqb-true, eqb-false, cases_lt, or_cases, cases_eq, and_parts, and_cases, ltb-true, or_left, or_right, eq-eqb, cases_Bool}, Cmp.nat_eq_equiv, List.{length_push, get_or_append_left, get_or_push, length-set, get_or_default, take_more, take_all, get_or-take, ext_get_or, map-append, length-map, get_or-map}}
pub use Rattle.std.proofs.lemmas.List.Folds.{list_any-append, Any-from_list_any}
pub use Rattle.std.proofs.lemmas.Map.Keys.{IsDistinct-push}
pub use Rattle.partial_intervals.specs.Intervals.{IsNormal, Ranges, lowest, highest, Holds, GoesOn}
pub use Rattle.partial_words.specs.declared.step.Step.{Step}
pub use Rattle.partial_words.specs.declared.step.Step.TheVariants.{Load, Add, Store, Exchange}
pub use Rattle.partial_words.specs.{Announcement.{announcement_block, announced_word, indices_word}, Layout.{Layout, IsLayout, slot_counter, list_head, list_counter, slot_word, list_end, list_base, pool_base, pool_end}, Record.{StandsAt, next_word}, Step.{answer_of, words_after}, VacatedList.{list_block, low_word, high_word, intervals_word}}
pub use Rattle.partial_words.proofs.{BlockLemmas.{announcement_reads_back, list_reads_back}, RecordLemmas.length-pairs}
pub use Rattle.partial_active.specs.declared.get_set.Stage.{Stage}
pub use Rattle.partial_active.specs.declared.get_set.Stage.TheVariants.{Head, ListLen, ListLow, ListHigh, Counter, Slot, Len, Index, Claim, Write, Publish, Done}
pub use Rattle.partial_active.specs.{ActiveSet.{GetSetsMakeFewSteps, OrderlyAnswersArePossible, Announcement, FindsAnnouncement, Names, FindsActiveSet, GetSetsFind, with_all, each_once, AreRising, AreInOrder, GetSetsFindInOrder}, Found.{Buffers, AreFoundFor, LiesAfter, begins_at, extended_list, touches, last_place}, GetSet.{SetPair, fresh_set, set_step_at, set_step_due, advance_set, set_left, advance_set_at, come_to, note_slot, in_stage, set_left_at, walk_left, after_walk, at_slot, pass_interval, next_words, publish_left, GetSetState}, GetSetAnswers.{set_goes_at, IsPossibleInSet, SetGoesTogether, EndsBelow, IsListHead, IsListLen, IsNextLow, IsSlotWord, IsAnnouncedLen, IsListClaim, is_possible_at, HasRead, IsWalking, IsAtSlot}, IndexSet.{with_index, AreIndices, has_index, IsMarked, IndexList}, Knowledge.{Facts, knows_by, HasFirst, AreVacated, HasEach, walks, has_found, KnowsBy, HasReadSo}, Making.IsAt, Moments.{OnEach, AtSome, words_behind, own_moments, AtSomeStep, answered_from, IsOrderlyEvent, AreOrderly, IsOrderlyRun, MakesOwn}, Orderly.{Orderly, slot_at, IsAnnouncement, IsVacatedList, head_at, Publishes}}
