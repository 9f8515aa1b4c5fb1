use Rattle.partial_door.proofs.Common.{sym, subst, Held, IsUnclosedOpening, ClosesOpening}
use Rattle.core.specs.Result.{IfOk, IfErr}
use Rattle.partial_door.proofs.held.Held.close_opening.Goals as goal

pub returns-clause-ok : goal.returns-clause-ok
returns-clause-ok c =
    subst (λ (h : Held). IfOk c.closed-left.result.1 (λ _. ClosesOpening h c.replace-2.new.dest)) c.replace.ensures.value
    (subst (λ (h : Held). IfOk c.closed-left.result.1 (λ _. ClosesOpening c.replace.result h)) (sym c.replace-2.ensures.after) c.closed-left.ensures.ok)

pub returns-clause-err : goal.returns-clause-err
returns-clause-err c =
    subst (λ (h : Held). IfErr c.closed-left.result.1 (IsUnclosedOpening h c.replace-2.new.dest)) c.replace.ensures.value
    (subst (λ (h : Held). IfErr c.closed-left.result.1 (IsUnclosedOpening c.replace.result h)) (sym c.replace-2.ensures.after) c.closed-left.ensures.err)
