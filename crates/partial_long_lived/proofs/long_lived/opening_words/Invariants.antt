use Rattle.partial_long_lived.proofs.Common.{◌≡◌, ◌+◌, length, ℕ, ◌<◌, ◌≤◌, first_free, initial_record, total, opening_word, whole, bare, shape_plan, slice_index}
use Rattle.partial_long_lived.proofs.long_lived.opening_words.Given as goal

-- the first w words of the arena are those of an opening, and the control words and those of the other arenas are 0
abbrev pub invariant-loop-w : goal.invariant-loop-w
invariant-loop-w l = record {
  count : length l.words.items ≡ whole (shape_plan l.shape bare);
  room : l.base + total l.sizes + l.sizes.m ≤ length l.words.items;
  control : (k : ℕ) → k < l.base → slice_index l.words.items k ≡ 0;
  behind : (k : ℕ) → l.base + total l.sizes + l.sizes.m ≤ k → slice_index l.words.items k ≡ 0;
  each : (k : ℕ) → k < l.w → slice_index l.words.items (l.base + k) ≡ opening_word l.sizes l.initial' k;
}

-- so are all, and the first j carried stamps are the initial ones
abbrev pub invariant-loop-j : goal.invariant-loop-j
invariant-loop-j l = record {
  count : length l.words.items ≡ whole (shape_plan l.shape bare);
  room : l.base + total l.sizes + l.sizes.m ≤ length l.words.items;
  control : (k : ℕ) → k < l.base → slice_index l.words.items k ≡ 0;
  behind : (k : ℕ) → l.base + total l.sizes + l.sizes.m ≤ k → slice_index l.words.items k ≡ 0;
  each : (k : ℕ) → k < first_free l.sizes → slice_index l.words.items (l.base + k) ≡ opening_word l.sizes l.initial' k;
  carried : (k : ℕ) → k < l.j → slice_index l.words.items (l.carried + k) ≡ initial_record l.sizes k;
}
