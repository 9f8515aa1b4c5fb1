-- Whether components still have stamps that they had.
use Rattle.std.specs.Prelude.{ℕ, ◌≡◌, ◌≢◌, ◌<◌, ◌≤◌, ◌⊎◌, List, length, take, slice_index}
use Rattle.partial_model.specs.History.{stamp_of}
use Rattle.partial_long_lived.specs.Rule.{SeatedPort}
use Rattle.partial_long_lived.specs.Ports.{seen_in}

-- the public stamp of component j after the first n entries of the one history that the port has seen
abbrev pub stamp_at : SeatedPort → ℕ → ℕ → ℕ
stamp_at x n j = stamp_of x.about.opening (take n (seen_in x.port)) j

-- the component has that stamp after all that the port has seen, which is no less than there was as the call began
pub record HasStamp (x : SeatedPort) (j s : ℕ) : Type 0 where
  pub is : s ≡ stamp_at x (length (seen_in x.port)) j
  pub time : x.began.length ≤ length (seen_in x.port)

-- component j is there, and had that stamp at a moment of the call
pub record HadStamp (x : SeatedPort) (j s : ℕ) : Type 0 where
  pub inside : j < x.about.sizes.m
  pub moment : ℕ
  pub from : x.began.length ≤ moment
  pub to : moment ≤ length (seen_in x.port)
  pub is : s ≡ stamp_at x moment j

-- so it is of the first n of these components
abbrev pub HadStamps : SeatedPort → List ℕ → List ℕ → ℕ → Type 0
HadStamps x js ss n = (k : ℕ) → k < n → HadStamp x (slice_index js k) (slice_index ss k)

-- one of them is missing, or had another stamp at a moment of the call
pub record HadAnother (x : SeatedPort) (js ss : List ℕ) : Type 0 where
  pub position : ℕ
  pub inside : position < length js
  pub why : (x.about.sizes.m ≤ slice_index js position)
      ⊎ ((s : ℕ) × HadStamp x (slice_index js position) s × (s ≢ slice_index ss position))
