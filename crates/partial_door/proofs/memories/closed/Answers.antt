use Rattle.partial_door.proofs.Common.{refl, inl, inr}
use Rattle.partial_door.proofs.memories.closed.Goals as goal

pub returns-in-Err-clause-err : goal.returns-in-Err-clause-err
returns-in-Err-clause-err c = inl c.in-Err.ensures.err

pub returns-in-Err-close-clause-err : goal.returns-in-Err-close-clause-err
returns-in-Err-close-clause-err c =
    inr (refl, (c.in-Ok.closing, c.in-Err-close.kept, c.in-Ok.ensures.ok.0, c.in-Err-close.ensures.err.0, refl))
