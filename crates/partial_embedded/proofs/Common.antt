-- The names that several proofs of this crate take from elsewhere.
pub use Rattle.std.proofs.Common.{◌≡◌, sym, ap, ℕ, ◌<◌, ◌∙◌, length, subst, List, arith, Bool, [], slice_index_or, refl, ◌+◌, ◌∷◌, if◌then◌else◌, false, true, ◌&&◌, ◌-◌, ◌==◌, ◌||◌, ◌≢◌, ◌≤◌, Some, append-nil, append_assoc, get_or-set_other, get_or-set_same, inl, inr, not, slice_set, suc, zero, ◌*◌, ◌++◌, ◌⊎◌, None, length-append, length-set, slice_index, take}
pub use Rattle.std.specs.Prelude.{nat_lt}
pub use Rattle.std.proofs.Math.Nat.{mul-le-mul_left}
pub use Rattle.std.proofs.lemmas.{Bool.{ltb-false, cases_lt, eq-eqb, eqb-false, false≢true, ne_eqb, eqb-true, ltb-true}, List.{get_or_append_left, length_push, set-get_or}}
pub use Rattle.std.proofs.lemmas.Bool.Decides.{eqb_tells}
pub use Rattle.partial_words.specs.{Layout.{Layout, pool_base, pool_end}, declared.step.Step.TheVariants.{Load}, Record.{next_word, pairs_word, pairs_size, view_size, view_word, value_word}}
pub use Rattle.partial_embedded.specs.declared.embedded.Stage.{Stage}
pub use Rattle.partial_embedded.specs.declared.embedded.Stage.TheVariants.{Collect, Done, Index, Len, PairValue, Value, View}
pub use Rattle.partial_embedded.specs.{Embedded.{ViewGoesTogether, ViewPair, IsPastCollects, advance_view, view_left, advance_view_at, view_goes_at, fresh_view, IsPossibleInViewAt, RowsState, after_load, after_view, borrow, buffers, differs, is_first, noted_load, pairs_from, view_at_stage, was_changed, with_value, EmbeddedState, IsPossibleInView, after_collect, go_on, AreLoaded, ArePositions, AreRowsFor, IsPlainRecord, changes, count_true, future, most_view_steps, view_left_at, view_step_at}, Runs.{ViewRun, LastTwoAreEqual, ShowsThirdRecord, Changes, EndsInEqualCollectsOrAThirdRecord, EndsWell, FinishedScansEndWell, IsOfPosition, LoadsItsPositionsAlone, LoadsValues, LoadsView, MakesFewCollects, RunsTo, load_in, written_values}}
