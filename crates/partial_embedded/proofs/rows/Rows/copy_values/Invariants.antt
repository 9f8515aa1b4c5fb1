use Rattle.partial_embedded.proofs.Common.{◌≡◌, ℕ, ◌<◌, length, slice_index}
use Rattle.partial_embedded.proofs.rows.Rows.copy_values.Given as goal

-- the first values are there
abbrev pub invariant-loop-k : goal.invariant-loop-k
invariant-loop-k l = record {
  count : length l.into ≡ length l.components;
  each : (j : ℕ) → j < l.k → slice_index l.into j ≡ slice_index l.self.values (slice_index l.components j);
}
