-- The names that several proofs of this crate take from elsewhere.
pub use Rattle.std.proofs.Common.{ap, arith, ℕ, ◌<◌, ◌∙◌, ◌≡◌, ◌≤◌, inl, inr, length, refl, ◌+◌, ◌-◌, [], slice_index_or, slice_set, subst, suc, sym, zero, ◌↔◌, ◌∷◌, ◌⊎◌}
pub use Rattle.std.specs.List.{insert, remove}
pub use Rattle.std.proofs.lemmas.Bool.{cases_lt, cases_eq, cases_order, false≢true, iff_false}
pub use Rattle.partial_intervals.specs.Intervals.{lowest, Holds, IsNormal, Ranges, IsCountUpTo, NormalFormsAreUnique, Set, highest}
