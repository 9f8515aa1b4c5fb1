-- A port in a call where it could end: with a machine that may begin the next one.
use Rattle.std.specs.Prelude.{◌≡◌, ◌≤◌, Bool, false}
use Rattle.partial_machine.specs.declared.stage.Stage.TheVariants.{Idle}
use Rattle.partial_machine.specs.Machine.{CoreState}
use Rattle.partial_machine.specs.Sound.{IsSound}
use Rattle.partial_core.specs.Part.{IsBetween}
use Rattle.partial_long_lived.specs.declared.error.Refused.{Refused}
use Rattle.partial_long_lived.specs.declared.stand.Stand.{Stand}
use Rattle.partial_long_lived.specs.Inner.Calls.{IsIdle}
use Rattle.partial_long_lived.specs.Inner.Steps.{SeatGoes}
use Rattle.partial_long_lived.specs.Inner.Changing.{IsCause}
use Rattle.partial_long_lived.specs.Inner.Held.{port_at}
use Rattle.partial_long_lived.specs.Inner.Under.{claimed_end}

-- the port stands there between two calls, with that machine, and is spent in its epoch or not
pub record RestsAt (t : Stand) (core : CoreState) (spent : Bool) : Type 0 where
  pub free : IsIdle t
  pub idle : core.stage ≡ Idle
  pub sound : IsSound core
  pub sizes : core.sizes ≡ (port_at t).about.sizes
  pub port : core.port ≡ t.number
  pub between : spent ≡ false → IsBetween (port_at t).port.part core × ((port_at t).port.over ≡ false)
      × (core.pool_spent ≡ false) × (core.slots_spent ≡ false) × (claimed_end core ≤ (port_at t).about.limit)

-- The scan is refused, since the epoch can't be changed: the port has noted nothing.
pub record NotScanned (s t : Stand) (cause : Refused) : Type 0 where
  pub shape : t.shape ≡ s.shape
  pub goes : SeatGoes (port_at s) (port_at t)
  pub notes : (port_at t).notes ≡ (port_at s).notes
  pub why : IsCause t cause
