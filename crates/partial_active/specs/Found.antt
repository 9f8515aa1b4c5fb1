-- The buffers of a getSet, and the list of vacated slots that it makes.
use Rattle.std.specs.Prelude.{ℕ, ◌≡◌, ◌+◌, ◌-◌, ◌/◌, ◌<◌, ◌≤◌, ◌==◌, Bool, ◌&&◌, nat_lt, List, [], ◌∷◌, ◌++◌, length, slice_set, if◌then◌else◌}
use Rattle.partial_intervals.specs.Intervals.{Ranges, lowest, highest}
use Rattle.partial_words.specs.Layout.{Layout}

-- the indices found, the list that was read, the next list, and the room for indices and for intervals
pub record Buffers : Type 0 where
  pub limit : ℕ
  pub room : ℕ
  pub indices : List ℕ
  pub read : Ranges
  pub next : Ranges

-- the buffers were made for these sizes
pub record AreFoundFor (s : Layout) (f : Buffers) : Type 0 where
  pub limit : f.limit ≡ s.m
  pub room : f.room ≡ (s.slots + 1) / 2 + 1

-- whether there is an interval k and it begins at the slot
abbrev pub begins_at : Ranges → ℕ → ℕ → Bool
begins_at list k slot = nat_lt k (length list) && (lowest list k == slot)

-- the place of the last interval
abbrev pub last_place : Ranges → ℕ
last_place list = length list - 1

-- whether the last interval ends just before lo
abbrev pub touches : Ranges → ℕ → Bool
touches list lo = nat_lt 0 (length list) && (highest list (last_place list) + 1 == lo)

-- the list with the numbers from lo to hi after it: the last interval grows where they touch it
abbrev pub extended_list : Ranges → ℕ → ℕ → Ranges
extended_list list lo hi =
    if touches list lo then slice_set list (last_place list) (lowest list (last_place list), hi) else list ++ (lo, hi) ∷ []

-- the numbers from lo to hi lie after the list
pub record LiesAfter (list : Ranges) (lo hi : ℕ) : Type 0 where
  pub closed : lo ≤ hi
  pub bounded : hi < 4294967295
  pub beyond : (k : ℕ) → k < length list → highest list k < lo
