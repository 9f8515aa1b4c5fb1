use Rattle.std.proofs.Common.{arith}
use Rattle.std.proofs.lemmas.Grind.{common_steps}
use Rattle.partial_text.proofs.{Common.{sym, ◌∙◌, at_drop_all}, Values.{values_after, values_after_is}}
use Rattle.partial_text.proofs.outcome_text.final_values.Goals as goal

pub returns : goal.returns
returns c =
    sym (at_drop_all (values_after c.loop-entry.values.items) c.args.history.now c.loop-entry.entry-index c.loop-entry-test.false) ∙ c.loop-entry.invariant ∙ values_after_is
    c.args.opening.now c.args.history.now

pub loop-entry-preserved : goal.loop-entry-preserved
loop-entry-preserved c = grind (arith, common_steps) steps 2000000
