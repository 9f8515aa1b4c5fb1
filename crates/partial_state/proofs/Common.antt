-- The names that several proofs of this crate take from elsewhere.
pub use Rattle.std.proofs.Common.{ℕ, ◌≡◌, ◌≢◌, ◌+◌, ◌-◌, ◌*◌, ◌<◌, ◌≤◌, ◌==◌, ◌++◌, ◌^◌, ◌%◌, Bool, true, false, if◌then◌else◌, List, ◌∷◌, length, slice_index, slice_set, Some, None, refl, sym, ◌∙◌, ap, subst, inl, inr, arith, get_or-set_other, get_or-set_same, length-set, [], map, Option, IfSome, MatchOption, slice_get, ◌⊎◌, IsSomeAnd, take, suc, filter_map, zero, append_assoc}
pub use Rattle.std.specs.{List.{cons_option, AllByRecursion}, Option.option_map}
pub use Rattle.std.proofs.lemmas.{Bool.{cases_lt, eqb-true, ne_eqb, eq-eqb, eqb-false}, List.{length_push, take_all, take-append-le}}
pub use Rattle.std.proofs.lemmas.Bool.Decides.{nat_tests, eqb_tells}
pub use Rattle.partial_model.specs.declared.history.{Applied.Applied, Opening.Opening}
pub use Rattle.partial_model.specs.History.{IsHistory, stamp_of, initial_stamp, value_of}
pub use Rattle.partial_model.proofs.{AllLemmas.all_where, HistoryLemmas.{place_below, stamp_of-push}, NotesLemmas.{AllByRecursion-get, slice_get_last, distinct_push, slice_get_grows, AllByRecursion-push}}
pub use Rattle.partial_words.specs.{Announcement.{announcement_size, announcement_block}, Chain.{Agrees, opening_word, IsLink, IsChain, chain_of}, Layout.{Layout, slot_counter, list_head, pool_counter, list_counter, slot_word, list_base, list_end, pool_end, total, pool_base, initial_record, IsLayout, greatest_claim, no_spare, greatest_list, most_ports, initial_words, first_free}, Record.{view_of, view_len, view_word, prev_of, record_value, StandsAt, view_block, own_view, plain_record_size, full_record_size, value_word, prev_word}, VacatedList.list_block}
pub use Rattle.partial_words.proofs.{ChainLemmas.{chain_all, chain_cons, links_from-push}, RecordLemmas.length-pairs}
pub use Rattle.partial_state.specs.{Effects.{IsKept, ClaimsAreKept, StoresAreKept, PublishingsAreKept, LoadsAreTrue, DuesAreKept, DropsAreKept, RefusalsAreKept, SparesAreKept, TakesAreKept, idle_holding, idle_holdings, OpeningIsLawful, SlotClaimsAreKept, JoinsAreKept, LeavesAreKept, WinsAreKept}, Holdings.{Own, Holding, Space, space_begin, end_of, counter_of, block_of, unpublished, blocks_in, without_block, written, spares, EachTwo, Counted, counter, is_marked, marked_for, marked_ports, block_at, announcements, joined_in, ClaimedSlot, Due, IfJoined, HaveOtherPorts, HaveOtherSlots}, LawfulWords.{LawfulWords, IsCounted, IsOwn, IsSpare, IsTied, IsDue, IsClaim, IsEntry, IsClaimedIn, CoversAll}, Loads.{IsPublished, KeptAnswer, IsLoaded, IsSlotAnswer}, Views.{Block, AreApart, IsApartFrom, IsPublishedList, IsHead, JoinedAnnouncement, HasPairs, IsAnnounced, HasFreshView, IsWithin, Covers, IsViewOf, IsView, IsBegunSince, ViewNames}}
pub use Rattle.partial_state.specs.Holdings.{Counted.{PoolWords, Slots, ListWords}, Space.{Pool, Lists}}
