-- The names that several proofs of this crate take from elsewhere.
pub use Rattle.std.proofs.Common.{List, Some, arith, subst, ℕ, ◌<◌, ◌≡◌, None, Option, [], ap, inl, inr, length, refl, slice_index, sym, ◌+◌, ◌∙◌, ◌∷◌, ◌≤◌, if◌then◌else◌, slice_index_or, slice_get, suc, take, true, zero, ◌≢◌, Bool, IfSome, IsSome, false, get_or-set_other, get_or-set_same, is_some, map, min, not, slice_set, ◌&&◌, ◌++◌, ◌-◌, ◌==◌, ◌||◌, ◌⊎◌}
pub use Rattle.std.specs.List.{AllByRecursion}
pub use Rattle.std.proofs.lemmas.Bool.{eq-eqb, false≢true, and_parts, cases_lt, cond_both, eqb-false, eqb-true, ltb-false, ltb-true, or_cases}
pub use Rattle.partial_model.specs.declared.history.{Applied.Applied, Opening.Opening}
pub use Rattle.partial_model.specs.History.{stamp_of, IsHistory, initial_stamp, last_entry, value_of}
pub use Rattle.partial_model.proofs.{HistoryLemmas.{last_at, last_from-push, overtaken_at, place_below}, NotesLemmas.AllByRecursion-get, StampsStay.{distinct_at, in_whole, stamp_told, stamps_never_return, take_within}}
pub use Rattle.partial_words.specs.declared.step.Step.TheVariants.{Load, Add, Exchange, Store}
pub use Rattle.partial_words.specs.{Layout.{Layout, list_base, pool_end, slot_counter, slot_word, IsLayout, initial_words, list_head, pool_base, pool_counter}, Record.{prev_of, StandsAt, next_word, pair_index_word, pair_value_word, pairs_word, plain_record_size, value_word, view_block, view_of, view_size, view_word}}
pub use Rattle.partial_words.proofs.{ChainLemmas.{prev_before_entry, value_behind_stamp}, RecordLemmas.length-pairs}
pub use Rattle.partial_state.specs.Holdings.Counted.{PoolWords}
pub use Rattle.partial_state.specs.{Holdings.{Holding, unpublished, ClaimedSlot, EachTwo, IfJoined, announcements, block_at}, LawfulWords.{LawfulWords, IsClaim, IsEntry}, Loads.{IsLoaded, KeptAnswer, IsSlotAnswer}, Views.{Block, IsAnnounced, IsApartFrom, IsBegunSince, IsWithin, JoinedAnnouncement, AreApart, HasFreshView, HasPairs, IsPublishedList, IsView}}
pub use Rattle.partial_knowledge.specs.{Joins.Joins, Scans.{HasEntry, CollectsAgreed, EmbeddedScansKnow, HasLoaded, HasValues, IsCollecting, IsLatest, IsThird, Loads, ScanKnows, knows_at}, Sets.{IsReadable, FindsIn, GetSetsKnow, IsKeptAnswer, facts_of_words}}
