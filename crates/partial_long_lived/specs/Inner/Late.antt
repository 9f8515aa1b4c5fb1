-- A read that finds its component sealed.
use Rattle.std.specs.Prelude.{ℕ, ◌≤◌, true}
use Rattle.partial_epochs.specs.Layout.{seal}
use Rattle.partial_long_lived.specs.declared.stand.Stand.{Stand}
use Rattle.partial_long_lived.specs.Inner.Held.{port_at}
use Rattle.partial_long_lived.specs.Inner.Loads.{SeatSees}
use Rattle.partial_long_lived.specs.Inner.Loads.Wish.{Reads}

-- the first load of a read has found its component sealed
pub record HasFoundSeal (j : ℕ) (s t : Stand) : Type 0 where
  pub found : ℕ
  pub sees : SeatSees true Reads j (port_at s) found (port_at t)
  pub sealed : seal ≤ found
