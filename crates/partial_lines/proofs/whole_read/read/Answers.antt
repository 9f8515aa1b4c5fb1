use Rattle.std.proofs.Common.{rules, tests}
use Rattle.partial_lines.proofs.Common.{subst, arith, CoreState, is_sound_at}
use Rattle.partial_lines.proofs.whole_read.read.Goals as goal

pub load-requires-clause-due : goal.load-requires-clause-due
load-requires-clause-due c = search (tests, rules)

pub returns-clause-replies : goal.returns-clause-replies
returns-clause-replies c = search (tests, rules)

pub load-requires-clause-behind : goal.load-requires-clause-behind
load-requires-clause-behind g c =
    let s : CoreState = g.M.Makes.machine c.args.lines.now in
    let sound = g.met.M.Makes.sound c.args.lines.now c.requires.goes in
    let plain = subst (is_sound_at s) c.requires.stage sound.stage in
    let is = c.value_word.ensures in
    omega (arith, plain, is)
