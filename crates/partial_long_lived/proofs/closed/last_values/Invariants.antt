use Rattle.partial_long_lived.proofs.Common.{◌≡◌, ◌≤◌, ◌<◌, length, ℕ, vec_capacity, slots_items, base, bare, shape_plan, arena_now, value_now, slice_index}
use Rattle.partial_long_lived.proofs.closed.last_values.Given as goal

-- the values of the first j components
abbrev pub invariant-loop-j : goal.invariant-loop-j
invariant-loop-j l = record {
  base : l.base ≡ base (shape_plan l.shape bare) (arena_now (slots_items l.words.words));
  count : length l.values.items ≡ l.j;
  each : (k : ℕ) → k < l.j → slice_index l.values.items k ≡ slice_index (slots_items l.words.words) (value_now (shape_plan l.shape bare) (slots_items l.words.words) k);
  room : l.shape.sizes.m ≤ vec_capacity l.values;
}
