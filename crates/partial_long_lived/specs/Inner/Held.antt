-- The seat of a port in a call, with where the port stands.
use Rattle.std.specs.Prelude.{ℕ, ◌≡◌}
use Rattle.partial_table.specs.Table.{TableId}
use Rattle.partial_epochs.specs.Layout.{base, whole}
use Rattle.partial_long_lived.specs.declared.rule.About.{About}
use Rattle.partial_long_lived.specs.declared.stand.Stand.{Stand}
use Rattle.partial_long_lived.specs.Rule.{SeatedPort, one_of, plan_of}
use Rattle.partial_long_lived.specs.Shape.{IsShapeOf}
use Rattle.partial_long_lived.specs.Inner.Steps.{IsSeatKnown, IsOne}

-- what is known of the seat's port
abbrev pub port_at : Stand → SeatedPort
port_at s = one_of s.seat.me.0

-- the epoch where the seat's port stands
abbrev pub epoch_at : Stand → ℕ
epoch_at s = (port_at s).port.control.here.epoch

-- The seat is one of the table, and of one port of that memory, which stands or enters from there.
pub record IsHeld (table : TableId) (about : About) (s : Stand) : Type 0 where
  pub fits : s.seat.table_id ≡ table
  pub words : table.words ≡ whole (plan_of about)
  pub shape : IsShapeOf s.shape about
  pub one : IsOne s.seat.me
  pub own : (port_at s).about ≡ about
  pub known : IsSeatKnown (port_at s)
  pub number : s.number ≡ (port_at s).number
  pub epoch : s.epoch ≡ (port_at s).port.control.here.epoch
  pub arena : s.arena ≡ (port_at s).port.control.here.arena
  pub base : s.base ≡ base (plan_of about) s.arena
  pub passed : s.passed ≡ (port_at s).port.passed
