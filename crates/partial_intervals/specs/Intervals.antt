-- A finite set of numbers as a list of closed intervals.
use Rattle.std.specs.Prelude.{ℕ, ◌≡◌, ◌↔◌, ◌+◌, ◌<◌, ◌≤◌, List, length, slice_index_or}

-- the intervals in order, each as its lowest and its highest number
abbrev pub Ranges : Type 0
Ranges = List (ℕ × ℕ)

-- where interval k begins
abbrev pub lowest : Ranges → ℕ → ℕ
lowest list k = let range = slice_index_or list k (0, 0) in range.0

-- where interval k ends
abbrev pub highest : Ranges → ℕ → ℕ
highest list k = let range = slice_index_or list k (0, 0) in range.1

-- the number is in one of the intervals
abbrev pub Holds : Ranges → ℕ → Type 0
Holds list l = (k : ℕ) × (k < length list) × (lowest list k ≤ l) × (l ≤ highest list k)

-- the one normal form of a set: closed intervals, rising, neither overlapping nor touching
pub record IsNormal (list : Ranges) : Type 0 where
  pub closed : (k : ℕ) → k < length list → lowest list k ≤ highest list k
  pub bounded : (k : ℕ) → k < length list → highest list k < 4294967295
  pub apart : (j k : ℕ) → j < k → k < length list → highest list j + 1 < lowest list k

-- the list goes on with the interval from lo to hi
pub record GoesOn (list : Ranges) (lo hi : ℕ) : Type 0 where
  pub closed : lo ≤ hi
  pub bounded : hi < 4294967295
  pub beyond : (k : ℕ) → k < length list → highest list k + 1 < lo

-- n is the least number from l on that is in no interval
pub record IsLeastOutside (list : Ranges) (l n : ℕ) : Type 0 where
  pub from : l ≤ n
  pub outside : ¬ Holds list n
  pub before : (x : ℕ) → l ≤ x → x < n → Holds list x

-- the set with room for a number of intervals
pub record Set : Type 0 where
  pub capacity : ℕ
  pub list : Ranges

-- the first count intervals begin at l or below, and the others beyond it
pub record IsCountUpTo (list : Ranges) (l count : ℕ) : Type 0 where
  pub in_range : count ≤ length list
  pub at_or_below : (j : ℕ) → j < count → lowest list j ≤ l
  pub beyond : (j : ℕ) → count ≤ j → j < length list → l < lowest list j

-- two lists in normal form that hold the same numbers are one
abbrev pub NormalFormsAreUnique : Type 0
NormalFormsAreUnique = (a b : Ranges) → IsNormal a → IsNormal b → ((x : ℕ) → Holds a x ↔ Holds b x) → a ≡ b
