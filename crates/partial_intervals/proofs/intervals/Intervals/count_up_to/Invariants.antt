use Rattle.partial_intervals.proofs.Common.{ℕ, ◌-◌, ◌<◌, ◌≤◌, length, lowest}
use Rattle.partial_intervals.proofs.intervals.Intervals.count_up_to.Given as goal

-- the intervals below low begin at l or below, and those from high on beyond it
abbrev pub invariant-loop-low : goal.invariant-loop-low
invariant-loop-low l = (l.low ≤ l.high) × (l.high ≤ length l.self.list) × ((j : ℕ) → j < l.low → lowest l.self.list j ≤ l.l) ×
    ((j : ℕ) → l.high ≤ j → j < length l.self.list → l.l < lowest l.self.list j)

abbrev pub decreases-loop-low : goal.decreases-loop-low
decreases-loop-low l = l.high - l.low
