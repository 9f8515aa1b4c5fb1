use Rattle.partial_machine.proofs.{Common.{not, ◌∙◌, ap}, Submachines.{got_more, got_all}}
use Rattle.partial_machine.proofs.machine.Core.after_set.Goals as goal

pub invariant_of-self : goal.invariant_of-self
invariant_of-self c =
    let requires = rw (← c.self.view_is) at c.requires in
    got_all _ _ _ c.self.invariant c.args.change c.args.old (c.answer.new.self, c.answer.new.found) _ _ requires.stage requires.possible c.answer.ensures.state
    (rw c.step.ensures at (c.is_none.ensures ∙ ap not c.if-is_none.true)) c.new-self-inside.ensures.state c.behind_set-self-inside.ensures

pub invariant_of-self-else-is_none : goal.invariant_of-self-else-is_none
invariant_of-self-else-is_none c =
    let requires = rw (← c.self.view_is) at c.requires in
    got_more _ _ _ c.self.invariant c.args.change c.args.old (c.answer.new.self, c.answer.new.found) requires.stage requires.possible c.answer.ensures.state
    (rw c.step.ensures at (c.is_none.ensures ∙ ap not c.if-is_none.false))
