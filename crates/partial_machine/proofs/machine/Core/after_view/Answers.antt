use Rattle.partial_machine.proofs.{Common.{not, ◌∙◌, ap}, Submachines.viewed_more}
use Rattle.partial_machine.proofs.machine.Core.after_view.Goals as goal

pub invariant_of-self-else-is_none : goal.invariant_of-self-else-is_none
invariant_of-self-else-is_none c =
    let requires = rw (← c.self.view_is) at c.requires in
    let due = rw c.indices-2.ensures at (rw c.step.ensures at (c.is_none.ensures ∙ ap not c.if-is_none.false)) in
    viewed_more _ _ _ c.self.invariant c.args.change c.args.old (c.answer.new.self, c.answer.new.rows) requires.stage requires.possible (rw c.indices.ensures at c.answer.ensures.state) due
