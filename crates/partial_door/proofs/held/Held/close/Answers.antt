use Rattle.partial_door.proofs.Common.{sym, subst, length, Held, IsUnclosed}
use Rattle.core.specs.Result.{IfOk, IfErr}
use Rattle.partial_door.specs.Memories.{ClosesAt}
use Rattle.partial_door.proofs.held.Held.close.Goals as goal

pub returns-clause-ok : goal.returns-clause-ok
returns-clause-ok c =
    subst (λ (h : Held). IfOk c.closed-left.result.1 (λ _. ClosesAt h c.closed-left.new.into)) c.replace.ensures.value c.closed-left.ensures.ok

pub returns-clause-err : goal.returns-clause-err
returns-clause-err c =
    subst (λ (h : Held). IfErr c.closed-left.result.1 (IsUnclosed h c.replace-2.new.dest (length c.args.into.now))) c.replace.ensures.value
    (subst (λ (h : Held). IfErr c.closed-left.result.1 (IsUnclosed c.replace.result h (length c.args.into.now))) (sym c.replace-2.ensures.after)
    c.closed-left.ensures.err)
