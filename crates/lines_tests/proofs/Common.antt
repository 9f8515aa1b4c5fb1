-- The names that several proofs of this crate take from elsewhere.
pub use Rattle.std.proofs.Common.{subst, ap, length, sym, ◌∙◌, arith, ℕ, ◌≡◌, ◌≤◌, List, ◌<◌, None, Option, Some, [], refl, ◌∷◌, if◌then◌else◌, inl, inr, rules, slice_index, true, ◌++◌}
pub use Rattle.std.specs.Prelude.{Err, IfErr, MatchOption, Ok, OnOk, Result}
pub use Rattle.std.proofs.lemmas.List.{with_items_is}
pub use Rattle.partial_words.specs.{Chain.{AreOpeningWords, opening_word}, Layout.{IsLayout, Layout, pool_base, total}, Step.{answer_of, word_of, words_after}}
pub use Rattle.partial_machine.specs.declared.stage.Stage.TheVariants.{Idle, Finished, ReadBegun, ScanBegun, UpdateBegun}
pub use Rattle.partial_machine.specs.{Lines.{scan_asked, asking_machine}, Machine.{CoreState, advance, at_stage, fresh, reply_at, reply_of, step_at, step_of}, Possible.IsPossible}
pub use Rattle.lines_tests.specs.Plain.{BeginsOn, IsPlain, Turned, MayTurn, Begun, IsOfPort}
pub use Rattle.lines_tests.specs.Plain.Turned.{Stayed, Stepped, Taken, Started}
