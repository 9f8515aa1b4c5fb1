-- The names that several proofs of this crate take from elsewhere.
pub use Rattle.std.proofs.Common.{ℕ, zero, suc, ◌≡◌, ◌<◌, ◌++◌, List, [], ◌∷◌, Some, slice_get, length, map, take, slice_index_or, refl, arith, ◌≢◌, ◌+◌, ◌-◌, ◌*◌, ◌/◌, ◌%◌, ◌≤◌, inl, inr, ◌==◌, nat_le, nat_lt, Bool, true, false, not, ◌&&◌, ◌||◌, drop, sym, ap, ◌∙◌, subst, Decides, Contains, Option, None, IfSome, IsSome, IsSomeAnd, if◌then◌else◌, ◌⊎◌, nat_eq, is_some, append_assoc, append-nil, filter, filter_map, slice_index, MatchOption, rules, length-append}
pub use Rattle.std.specs.{List.{AllByRecursion, list_all, list_any}, Option.{option_map_or, is_none, option_map}}
pub use Rattle.std.proofs.lemmas.{Bool.{true≢false, or_cases, ltb-true, lt-ltb, leb-true, le-leb, eq-eqb, eqb-true, ne_eqb, cases_lt, lt-leb, ltb-false, false_from_ne_true, cases_eq}, List.{take_more, take_all, get_or_push, take-append-le, drop_more, length-set}, Option.{slice_get_past, get_or_from_slice_get, slice_get_within, slice_get-get_or}}
pub use Rattle.std.proofs.lemmas.Bool.Decides.{Decides-and, Decides-or, Decides-not, Decides-like, Decides-eqb, Decides-by_or, eqb_tells, same_from_decides, Decides-at}
pub use Rattle.std.proofs.lemmas.List.Elements.{All-contains, All-contains_itself, All-from_recursion, Decides-contains, recursion_from_All}
pub use Rattle.std.proofs.lemmas.Map.Keys.{any_passes_from_place}
pub use Rattle.partial_model.specs.declared.call.{Answer.Answer, Call.Call, Called.Called, Finish.Finish, Note.Note}
pub use Rattle.partial_model.specs.declared.history.{Applied.Applied, Opening.Opening}
pub use Rattle.partial_model.specs.{Entries.{EntriesAreNoted, entries_by, entry_of, applied_by, LastEntriesDecide, RisingNeverFalls}, History.{initial_stamp, value_of, stamp_of, HaveDistinctStamps, IsHistory, last_entry}, Notes.{ClaimsPool, ClaimsSlot, MayBeRefused, Fits, IsEntryFor, AreCollects, SawTogether, IsTrueOf, IsLegal, indices_of, place_of, shown_by, Noted, LegalNotes, seen_after, LegalNotesAreShown, seen_by}, Outcome.{Follows, IsInTime, RealTime, wrote, places_by, places_written, EachOnce, noted_of, notes_of, LegalOutcome}}
pub use Rattle.partial_model.specs.Inner.{Checks.{is_initial, are_distinct, is_history, names_components, claims_pool, claims_slot, may_be_refused, stands_at, is_entry_for, are_collects, hold, shows_stamp, saw_together, is_right, is_refusal, is_legal, follows, ends_in_time, is_in_time, are_in_time, call_is_legal, seen_behind, notes_are_legal, claim_of, places_left, no_place_left, none_between, none_above, claim_all, is_legal_outcome, places_from}, Indexed.{ArePlacesOf, AreStampsOf, AreListsOf, list_at, IsIndexOf}}
