use Rattle.std.proofs.Common.{rules, tests}
use Rattle.partial_long_lived.proofs.{Common.refl, Collects.glanced_itself, DoubleCollect.{begun_collect, fresh_looked, fresh_unsealed, look_same, look_stayed}}
use Rattle.partial_long_lived.proofs.double_collect.begin.Goals as goal

pub returns-then-found-lt-SEAL-clause-begun : goal.returns-then-found-lt-SEAL-clause-begun
returns-then-found-lt-SEAL-clause-begun c =
    let r = c.requires in
    let g = c.see-found.ensures in
    begun_collect _ _ _ _ _ r.held r.idle g.kept _ _ g.sees (glanced_itself _ _ _ g.held).kept refl
    (fresh_unsealed _ _ _ _ _ r.held r.idle g.kept _ _ g.sees (glanced_itself _ _ _ g.held).kept c.if-found-lt-SEAL.true)

pub returns-then-look-clause-begun : goal.returns-then-look-clause-begun
returns-then-look-clause-begun c =
    let r = c.requires in
    let g = c.see-found.ensures in
    let l = c.look.ensures in
    begun_collect _ _ _ _ _ r.held r.idle g.kept _ _ g.sees l.kept (look_same _ _ _ _ _ r.held r.idle g.kept _ _ g.sees l.kept _ l.looked c.if-look.true)
    (fresh_looked _ _ _ _ _ r.held r.idle g.kept _ _ g.sees l.kept _ l.looked c.if-look.true)

pub returns-else-look-clause-stayed : goal.returns-else-look-clause-stayed
returns-else-look-clause-stayed c =
    let r = c.requires in
    let g = c.see-found.ensures in
    let l = c.look.ensures in
    look_stayed _ _ _ _ _ r.held r.idle g.kept _ _ g.sees l.kept _ l.looked c.if-look.false

pub returns-else-look-clause-begun : goal.returns-else-look-clause-begun
returns-else-look-clause-begun c = search (tests, rules)
