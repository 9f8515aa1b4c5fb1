use Rattle.partial_door.proofs.Common.{inr, if_ok_then, IfErr-weaker}
use Rattle.partial_door.proofs.held.Held.reopen.Goals as goal

pub returns-in-Closed-clause-ok : goal.returns-in-Closed-clause-ok
returns-in-Closed-clause-ok c =
    if_ok_then c.reopen_closed.result _ _ (λ b opened. (c.in-Closed.closed, c.in-Closed.is, opened)) c.reopen_closed.ensures.ok

pub returns-in-Closed-clause-err : goal.returns-in-Closed-clause-err
returns-in-Closed-clause-err c =
    IfErr-weaker c.reopen_closed.result _ _ (λ code refused. inr (c.in-Closed.closed, c.in-Closed.is, refused)) c.reopen_closed.ensures.err
