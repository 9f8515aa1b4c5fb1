-- How the updates of a memory end, and what their machines reply then.
use Rattle.std.specs.Prelude.{ℕ, Option}
use Rattle.partial_model.specs.declared.call.Refused.{Refused}
use Rattle.partial_machine.specs.declared.stage.Change.{Change}
use Rattle.partial_machine.specs.declared.stage.Reply.{Reply}
use Rattle.partial_machine.specs.Machine.{overtaken_reply}
use Rattle.partial_memory.specs.declared.update.Ending.{Ending}
use Rattle.partial_memory.specs.declared.update.Ending.TheVariants.{Applied, Overtaken, PoolSpent}

-- component j is to be set to v, if it has the stamp that is expected
abbrev pub asked_change : ℕ → Option ℕ → ℕ → Change
asked_change j expected v = record { component = j; expected = expected; value = v }

-- the reply to an update that ended so
abbrev pub ending_reply : Change → Ending → Reply
ending_reply c (Applied stamp) = Reply.Applied stamp
ending_reply c (Overtaken by) = overtaken_reply c by
ending_reply c PoolSpent = Reply.Refused Refused.PoolSpent
