-- The ports that are joined.
use Rattle.std.specs.Prelude.{ℕ, ◌≡◌, List, Some, slice_get}
use Rattle.partial_state.specs.Views.{JoinedAnnouncement}
use Rattle.partial_state.specs.Holdings.{Holding}

-- a port is joined with this announcement in this slot
abbrev pub Joins : List Holding → ℕ → JoinedAnnouncement → Type 0
Joins hs l j = (i : ℕ) × (h : Holding) × (slice_get hs i ≡ Some h) × (h.claimed ≡ Some (record { slot = l; joined = Some j }))
