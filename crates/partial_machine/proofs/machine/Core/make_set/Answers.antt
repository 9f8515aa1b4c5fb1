use Rattle.std.proofs.Common.{rules, tests}
use Rattle.partial_machine.proofs.{Common.{ap, ◌∙◌, CoreState}, Parts.found_idle}
use Rattle.partial_active.specs.GetSet.{GetSetState}
use Rattle.partial_machine.proofs.machine.Core.make_set.Goals as goal

pub invariant_of-self : goal.invariant_of-self
invariant_of-self g c =
    let sizes = ap (λ (s : GetSetState). s.sizes) c.new-begun.ensures.state in
    let idle = ap (λ (s : CoreState). s.stage) c.self.view_is ∙ c.requires.idle in
    found_idle _ _ _ c.make.new.found c.self.invariant idle sizes c.make.ensures.found c.make.ensures.indices

pub make-requires : goal.make-requires
make-requires g c = search (tests, rules)
