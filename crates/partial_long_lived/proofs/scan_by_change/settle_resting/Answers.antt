use Rattle.partial_long_lived.proofs.Answering.{rests_anew, rests_here}
use Rattle.partial_long_lived.proofs.scan_by_change.settle_resting.Goals as goal

pub returns-then-stand-epoch-clause-rests : goal.returns-then-stand-epoch-clause-rests
returns-then-stand-epoch-clause-rests c =
    rests_anew _ _ _ _ c.requires.held.number c.requires.held.known.plan c.settle.ensures.settled.come c.requires.rests c.if-stand-epoch.true _ c.clear_marks.ensures

pub returns-else-stand-epoch-clause-rests : goal.returns-else-stand-epoch-clause-rests
returns-else-stand-epoch-clause-rests c = rests_here _ _ _ _ c.settle.ensures.settled.come c.requires.rests c.if-stand-epoch.false
