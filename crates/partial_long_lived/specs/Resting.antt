-- A port between two calls.
use Rattle.std.specs.Prelude.{Bool}
use Rattle.partial_machine.specs.Machine.{CoreState}
use Rattle.partial_long_lived.specs.declared.stand.Stand.{Stand}
use Rattle.partial_long_lived.specs.Inner.Held.{IsHeld, port_at}
use Rattle.partial_long_lived.specs.Inner.Rests.{RestsAt}

-- A port between two calls, with its machine: it stands in an epoch and owns no arena. A port is spent in its epoch once it has made a claim
-- past the limit, or its machine has met a seal; if it isn't, its machine may begin a call there.
pub record IsResting (s : Stand) (core : CoreState) (spent : Bool) : Type 0 where
  pub held : IsHeld s.seat.table_id (port_at s).about s
  pub rests : RestsAt s core spent
