use Rattle.partial_pipeline.proofs.{Common.{◌≤◌, subst, arith, Updates, Updated}, Stages.{update_refused, works_applied, works_lost, works_on}}
use Rattle.partial_long_lived.specs.declared.answers.Updated.TheVariants.{Applied, Lost}
use Rattle.partial_pipeline.proofs.stage.Stage.set.Goals as goal

pub returns-in-Ok-Applied-clause-working : goal.returns-in-Ok-Applied-clause-working
returns-in-Ok-Applied-clause-working c =
    let x = c.args.self.now in
    let q = c.update.new.me in
    let v = c.args.next in
    let done = c.in-Ok-Applied in
    let answered : Updates x.port x.port.number v done.field-0 q = subst (λ i. Updates x.port i v done.field-0 q) c.number-stage.ensures.value done.ensures.answered in
    let updates : Updates x.port x.port.number v (Applied done.field-0-0) q = subst (λ (u : Updated). Updates x.port x.port.number v u q) done.field-0-is answered in
    let most : v ≤ x.seen = omega (arith, c.requires.next, c.requires.read) in
    let all : v ≤ x.items = omega (arith, c.requires.next, c.requires.more) in
    works_applied c.args.memory.now x q v done.field-0-0 c.requires.working c.update.ensures.same c.requires.next most all updates

pub returns-in-Ok-Lost-clause-working : goal.returns-in-Ok-Lost-clause-working
returns-in-Ok-Lost-clause-working c =
    let x = c.args.self.now in
    let q = c.update.new.me in
    let v = c.args.next in
    let lost = c.in-Ok-Lost in
    let answered : Updates x.port x.port.number v lost.field-0 q = subst (λ i. Updates x.port i v lost.field-0 q) c.number-stage.ensures.value lost.ensures.answered in
    let updates : Updates x.port x.port.number v (Lost lost.field-0-0) q = subst (λ (u : Updated). Updates x.port x.port.number v u q) lost.field-0-is answered in
    let most : v ≤ x.seen = omega (arith, c.requires.next, c.requires.read) in
    works_lost c.args.memory.now x q v lost.field-0-0 c.requires.working c.update.ensures.same c.requires.next most updates

pub returns-in-Err-Overtaken-clause-working : goal.returns-in-Err-Overtaken-clause-working
returns-in-Err-Overtaken-clause-working c =
    let x = c.args.self.now in
    let q = c.update.new.me in
    let late = c.in-Err-Overtaken in
    works_on c.args.memory.now x q c.requires.working c.update.ensures.same (update_refused x.port q c.number-stage.result c.args.next late.field-0 late.ensures.refused)
