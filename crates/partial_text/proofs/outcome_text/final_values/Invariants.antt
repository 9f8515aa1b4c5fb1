use Rattle.partial_text.proofs.{Common.{◌≡◌, drop}, Values.values_after}
use Rattle.partial_text.proofs.outcome_text.final_values.Given as goal

abbrev pub invariant-loop-entry : goal.invariant-loop-entry
invariant-loop-entry l = values_after l.values.items (drop l.entry-index l.history) ≡ values_after l.opening.values l.history
