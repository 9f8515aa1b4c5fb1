use Rattle.partial_door.proofs.{Common.{refl, inl, inr}, Opened.unclosed}
use Rattle.partial_door.proofs.exports.partial_door_memory_close.Goals as goal

pub returns-in-Ok : goal.returns-in-Ok
returns-in-Ok c = inr (inl (_, c.in-Some.ensures.lent, c.take.ensures.left, refl, c.in-Ok.ensures.ok))

pub returns-in-Err : goal.returns-in-Err
returns-in-Err c = unclosed _ _ _ _ _ _ _ c.in-Some.ensures.lent refl c.in-Err.ensures.unchanged c.in-Err.ensures.err
