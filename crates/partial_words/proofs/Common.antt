-- The names that several proofs of this crate take from elsewhere.
pub use Rattle.std.proofs.Common.{arith, ◌∙◌, ap, ℕ, List, length, sym, ◌+◌, ◌<◌, ◌≡◌, [], slice_index_or, refl, suc, ◌%◌, ◌*◌, ◌-◌, ◌/◌, ◌∷◌, ◌≤◌, if◌then◌else◌, inl, inr, zero, ◌==◌, Bool, None, Option, Some, false, length-set, lit<, slice_set, slice_get, slice_index, subst, take, true, ◌++◌, ◌⊎◌}
pub use Rattle.std.specs.List.{flat_map, AllByRecursion}
pub use Rattle.std.proofs.lemmas.Bool.{cases_lt, eq-eqb}
pub use Rattle.partial_model.specs.declared.history.Opening.{Opening}
pub use Rattle.partial_words.specs.Record.{StandsAt, pair_words, view_word, ReadsBackRecord, prev_of, record_block, record_value, view_of, view_pair}
