use Rattle.std.proofs.Common.{tests}
use Rattle.partial_pipeline.proofs.{Common.{rules, ◌≡◌, ◌<◌, ◌∙◌, List, ℕ, length, sym, subst, arith, Sees}, Stages.sees_scan}
use Rattle.partial_model.proofs.ListLemmas.{written_whole}
use Rattle.partial_pipeline.proofs.monitor.scan_into.Goals as goal

pub returns-in-Ok-clause-some : goal.returns-in-Ok-clause-some
returns-in-Ok-clause-some c =
    let p = c.args.port.now in
    let q = c.scan.new.me in
    let room = c.args.room in
    let into = c.scan.new.into in
    let stages = c.args.stages.now in
    let long : length into ≡ length room.items = search rules in
    let some : 0 < length stages = omega (arith, c.requires.stages.count, c.requires.some) in
    let each : length into ≡ length stages = long ∙ c.requires.room ∙ sym c.requires.stages.count in
    subst (λ (l : List ℕ). Sees p stages l q) (sym (written_whole room.len into room.items long (search rules))) (sees_scan p q stages into c.in-Ok._scanned some each c.in-Ok.ensures.answered)

pub returns-in-Ok-clause-none : goal.returns-in-Ok-clause-none
returns-in-Ok-clause-none c = search (tests, rules)
