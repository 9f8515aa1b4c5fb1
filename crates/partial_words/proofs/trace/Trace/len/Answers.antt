use Rattle.partial_words.proofs.Common.{arith, ap, length}
use Rattle.partial_words.proofs.TraceLemmas.{as_many}
use Rattle.partial_words.proofs.trace.Trace.len.Goals as goal

pub returns : goal.returns
returns c =
    let kept = c.self.inside.kept in
    let many = as_many kept.items c.self.inside.others.items c.self.invariant in
    let is = ap length c.self.view_is in
    omega (arith, many, is, c.len.ensures, kept.ok.0)
