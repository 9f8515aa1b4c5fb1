-- What a scan knows of the stamps of its components.
use Rattle.std.specs.Prelude.{ℕ, ◌≡◌, ◌<◌, List, length, map, Option, None, slice_index}
use Rattle.partial_epochs.specs.Layout.{unsealed}
use Rattle.partial_epochs.specs.History.{stamp_limit}
use Rattle.partial_epochs.specs.Notes.{public_of}
use Rattle.partial_long_lived.specs.declared.stand.Stand.{Stand}
use Rattle.partial_long_lived.specs.Rule.{SeatedPort, plan_of}
use Rattle.partial_long_lived.specs.Inner.Held.{port_at}
use Rattle.partial_long_lived.specs.Inner.Scans.{HasNotedScan, ScanMade}
use Rattle.partial_long_lived.specs.Inner.Unchanged.{stamp_at}

-- The public stamps of the records that these words name are the stamps that these components had after the first n entries of the one
-- history. Each record lies below the limit of stamps.
abbrev pub NameStamps : SeatedPort → ℕ → List ℕ → List ℕ → Type 0
NameStamps x n js ws = (k : ℕ) → k < length js → (unsealed (slice_index ws k) < stamp_limit)
    × (public_of (plan_of x.about) x.port.before (slice_index js k) (unsealed (slice_index ws k)) ≡ stamp_at x n (slice_index js k))

-- The port has scanned where it stood. Unless it has taken a view, the words that it collected last name the stamps at the place of the scan.
pub record MadeNamed (s t : Stand) (which values : List ℕ) (collects : ℕ) (borrowed : Option ℕ) (ws : List ℕ) : Type 0 where
  pub made : ScanMade s t which values collects borrowed
  pub stamps : borrowed ≡ None → NameStamps (port_at t) made.place which ws

-- the same over a whole call
pub record ScannedNamed (s t : Stand) (which values : List ℕ) (collects : ℕ) (borrowed : Option ℕ) (ws : List ℕ) : Type 0 where
  pub scanned : HasNotedScan s t which values collects borrowed
  pub stamps : borrowed ≡ None → NameStamps (port_at t) scanned.place which ws

-- The port has scanned. Unless it has taken a view, these are the public stamps of its components at the place of the scan.
pub record ScannedStamped (s t : Stand) (which values : List ℕ) (collects : ℕ) (borrowed : Option ℕ) (stamps : List ℕ) : Type 0 where
  pub scanned : HasNotedScan s t which values collects borrowed
  pub stamps_are : borrowed ≡ None → stamps ≡ map (λ j. stamp_at (port_at t) scanned.place j) which

-- the first n of these are the public stamps of the records that these words name
abbrev pub ArePublic : SeatedPort → List ℕ → List ℕ → List ℕ → ℕ → Type 0
ArePublic x js ws ss n =
    (k : ℕ) → k < n → slice_index ss k ≡ public_of (plan_of x.about) x.port.before (slice_index js k) (unsealed (slice_index ws k))
