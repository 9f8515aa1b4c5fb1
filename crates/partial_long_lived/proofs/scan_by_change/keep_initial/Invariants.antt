use Rattle.partial_long_lived.proofs.Common.{ℕ, ◌≡◌, ◌<◌, length, slice_index, initial_record}
use Rattle.partial_long_lived.proofs.scan_by_change.keep_initial.Given as goal

abbrev pub invariant-loop-k : goal.invariant-loop-k
invariant-loop-k l = record {
  room : length l.kept ≡ length l.fn.kept;
  kept : (k : ℕ) → k < l.k → slice_index l.kept k ≡ initial_record l.stand.shape.sizes (slice_index l.which k);
}
