use Rattle.partial_long_lived.proofs.{Common.{sym, ◌∙◌}, Collects.{glanced_stayed, stayed_on}, DoubleCollect.settled_on, Scans.has_named}
use Rattle.partial_long_lived.proofs.double_collect.double_collect.Goals as goal

pub collect-requires-clause-base : goal.collect-requires-clause-base
collect-requires-clause-base c = sym c.begin.ensures.base

pub confirm-requires-clause-base : goal.confirm-requires-clause-base
confirm-requires-clause-base c = sym (c.collect.ensures.glanced.kept.base ∙ c.begin.ensures.base)

pub returns-clause-stayed : goal.returns-clause-stayed
returns-clause-stayed c =
    let begun = rw c.in-Some.is at c.begin.ensures.begun in
    stayed_on _ _ _ (stayed_on _ _ _ begun.stayed (glanced_stayed _ _ begun.stayed.come.idle c.collect.ensures.glanced)) c.confirm.ensures.stayed

pub returns-clause-scanned : goal.returns-clause-scanned
returns-clause-scanned c = λ made.
    let begun = rw c.in-Some.is at c.begin.ensures.begun in
    has_named _ _ _ _ _ _ _ _ (settled_on _ _ _ begun.settled c.collect.ensures.glanced) (c.confirm.ensures.scanned made)
