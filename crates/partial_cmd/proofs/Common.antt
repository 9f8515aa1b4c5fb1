-- The names that several proofs of this crate take from elsewhere.
pub use Rattle.std.proofs.Common.{subst, sym, ◌≡◌, ap, ◌∙◌, List, length, refl, Ok, [], ℕ, ◌∷◌, ◌≤◌, Bor, Err, Result, arith, map, ◌++◌, ◌<◌, ◌^◌, ◌≢◌}
pub use Rattle.std.specs.Prelude.{IfOk, codes}
pub use Rattle.partial_model.specs.declared.call.Call.{Call}
pub use Rattle.partial_model.specs.declared.history.Opening.{Opening}
pub use Rattle.partial_model.proofs.HistoryLemmas.{opening_is}
pub use Rattle.partial_words.specs.Layout.{Layout, pool_base}
pub use Rattle.partial_memory.specs.Reopening.{Continues, ContinuesAll, extended_values}
pub use Rattle.partial_text.specs.declared.outcome.Outcome.{Outcome}
pub use Rattle.partial_text.specs.declared.report.RunReport.{RunReport}
pub use Rattle.partial_text.specs.{OutcomeText.outcome_text, PlanText.{PlanView, IsPlan, IsCall, plan_text}}
pub use Rattle.partial_text.proofs.Laws.{judged_again, plans_have_few_calls}
pub use Rattle.partial_cmd.specs.declared.command.Verb.{Verb}
pub use Rattle.partial_cmd.specs.{Execution.{VerbWrites, PlansHaveOneAnswer}, Reports.{IsReportFrom, IsReportOf, report_of, run_opening}}
