-- Sizes that a long-lived memory may have.
use Rattle.std.specs.Prelude.{ℕ, ◌≡◌, ◌+◌, ◌*◌, ◌/◌, ◌≤◌, min, Bool, if◌then◌else◌}
use Rattle.partial_words.specs.Layout.{Layout, IsLayout, first_free, greatest_claim, most_ahead, most_ports, pool_end, total}
use Rattle.partial_words.specs.Record.{plain_record_size}

-- The sizes of an arena are in range, there is a port, no more than there may be, and twice as many arenas, above the limit there is room for the greatest
-- claim of each port, and there is a slot for each port.
pub record IsSized (sizes : Layout) (ports arenas limit : ℕ) (announces : Bool) : Type 0 where
  pub layout : IsLayout sizes
  pub some : 1 ≤ ports
  pub few : ports ≤ most_ports
  pub twice : arenas ≡ 2 * ports
  pub opens : first_free sizes ≤ limit
  pub room : limit + (if announces then greatest_claim sizes else plain_record_size + most_ahead) * ports ≤ pool_end sizes
  pub slots : ports ≤ sizes.slots

-- how many words more than those of its record an update claims, where so many are claimed in an epoch
abbrev pub ahead_for : ℕ → ℕ → ℕ
ahead_for claimed ports = min (claimed / 8 / ports) most_ahead

-- where an epoch's own records begin in an arena, and where the carried stamps do
pub record HasOffsets (sizes : Layout) (records stamps : ℕ) : Type 0 where
  pub own : records ≡ first_free sizes
  pub carried : stamps ≡ total sizes
