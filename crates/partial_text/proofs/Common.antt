-- The names that several proofs of this crate take from elsewhere.
pub use Rattle.std.proofs.Common.{◌≡◌, ℕ, ◌+◌, ◌*◌, ◌^◌, ◌<◌, ◌≤◌, Bool, true, false, if◌then◌else◌, nat_eq, ◌==◌, nat_le, nat_lt, ◌&&◌, List, [], ◌∷◌, ◌++◌, length, map, drop, codes, Result, Ok, Err, refl, sym, ap, subst, ◌∙◌, append_assoc, eq-eqb, arith, ◌-◌, take, Option, None, Some, slice_index, ◌⊎◌, inl, inr, zero, suc, ◌/◌, ◌%◌, ◌≢◌, slice_set, zero-add, add-one, add-zero}
pub use Rattle.std.specs.Io.KnownBytes.{Appends, Consumes, IsAtEnd}
pub use Rattle.std.specs.{List.{flat_map, AllByRecursion}, Option.{ok_or, option_map_or}, Prelude.{decimal, option_and_then, IfSome, IfOk}, Str.bytes_eq}
pub use Rattle.std.proofs.Math.Dec.{eqb-suc-zero, eqb_refl}
pub use Rattle.std.proofs.lemmas.{Bool.{ne_eqb, le-leb, lt-ltb, le-ltb, eqb-true, ltb-false, leb-true, ltb-true, eqb-false, cases_lt}, Fmt.{decimal_nonempty, decimal_by_steps, decimal_digit, decimal_step, first_decimal}, List.{append-nil, length-append, length-map, take_rest, drop-drop, length-drop, at_drop_more, at_drop_all, take_more, take_all, get_or-drop, get_or-set_same, get_or-set_other, length-set, ext_get_or}, Result.err_from_is_err_and}
pub use Rattle.std.proofs.lemmas.List.Folds.{flat_map-map}
pub use Rattle.std.proofs.lemmas.Slice.Eq.{bytes_eq-Decides}
pub use Rattle.partial_model.specs.declared.call.Call.{Call}
pub use Rattle.partial_words.specs.Layout.{IsLayout, Layout, initial_words}
pub use Rattle.partial_text.specs.declared.fault.PlanError.{PlanError}
pub use Rattle.partial_text.specs.{Fault.{◌>>=◌, Fails, Gives, IsReaderFault}, Judging.{Tail, greatest, greatest_index, fields_of, number_at, in_range, sizes_at, initial_at, call_text_at, calls_at, is_cut, call_texts, port_line_at, is_nil, is_rest, entries_at, line_at, more_ports, is_end, last_at, tail_at, judged_plan, call_texts_behind, exactly_one, exactly_two, exactly_three, numbers_at, exactly_four}, Number.{number_of, with_digit, number_from}, OutcomeText.{values_of, call_line, entry_lines}, Pieces.{until, from, onto_first, pieces, pieces_behind}, PlanText.{PlanView, field, number_field, sizes_line, initial_line, call_text, next_call, port_line, entry_text, rest_text, steps_line, ended_line, plan_text, IsCall, IsTurnEntry, IsPlan, PlansHaveFewCalls}, ReportText.{answer_lines, port_lines}, Replayed.calls_in_order}
