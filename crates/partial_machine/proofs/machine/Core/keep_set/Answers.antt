use Rattle.std.proofs.Common.{rules, tests}
use Rattle.partial_machine.proofs.Parts.{set_idle}
use Rattle.partial_machine.proofs.machine.Core.keep_set.Goals as goal

pub invariant_of-self : goal.invariant_of-self
invariant_of-self c =
    let requires = rw (← c.self.view_is) at c.requires in
    set_idle _ _ _ c.self.invariant requires

pub returns : goal.returns
returns c = search (tests, rules)
