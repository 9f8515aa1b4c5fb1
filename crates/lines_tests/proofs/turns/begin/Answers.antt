use Rattle.lines_tests.proofs.{Common.{rules, ◌≤◌, [], ◌∷◌}, Turning.{asked_scan, asked_update}}
use Rattle.lines_tests.proofs.turns.begin.Goals as goal

pub returns-then-pick-lt5 : goal.returns-then-pick-lt5
returns-then-pick-lt5 c = asked_update c.args.core.now _ _ c.args.pick c.begin_update-begun.result c.begin_update-begun.ensures.ok c.begin_update-begun.ensures.err

pub returns-then-m-gt1 : goal.returns-then-m-gt1
returns-then-m-gt1 c =
    let few : 2 ≤ c.args.core.now.sizes.m = search rules in
    asked_scan c.args.core.now _ (0 ∷ 1 ∷ []) c.begin_scan-begun.result few (λ e. search rules) c.begin_scan-begun.ensures.ok c.begin_scan-begun.ensures.err
