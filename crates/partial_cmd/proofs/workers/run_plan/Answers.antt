use Rattle.partial_cmd.proofs.{Common.{◌≡◌, List, map, Bor, ap, ◌∙◌, Call, Layout}, Reported.{plan_makable, plan_ran}}
use Rattle.partial_cmd.proofs.workers.run_plan.Goals as goal

pub run_on-requires-clause-makable : goal.run_on-requires-clause-makable
run_on-requires-clause-makable g c =
    let p = c.args.plan.now in
    let given : List (List Call) = map (λ (b : Bor (List Call)). b.now) c.deref.result.now in
    let same : given ≡ p.ports = ap (λ (l : List (Bor (List Call))). map (λ (b : Bor (List Call)). b.now) l) c.deref.ensures.value ∙ c.in_ok-calls.ensures ∙ c.ports.ensures.value in
    λ κs lives. plan_makable c.args.memory.about.sizes.m p given c.ports.ensures.lawful (ap (λ (z : Layout). z.m) c.requires.sizes) same

pub returns : goal.returns
returns g c =
    let p = c.args.plan.now in
    let given : List (List Call) = map (λ (b : Bor (List Call)). b.now) c.deref.result.now in
    let same : given ≡ p.ports = ap (λ (l : List (Bor (List Call))). map (λ (b : Bor (List Call)). b.now) l) c.deref.ensures.value ∙ c.in_ok-calls.ensures ∙ c.ports.ensures.value in
    plan_ran c.args.memory.about.opening p given c.run_on.result same c.run_on.ensures.right
