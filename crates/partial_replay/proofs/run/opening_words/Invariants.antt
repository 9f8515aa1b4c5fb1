use Rattle.partial_replay.proofs.Common.{◌≡◌, ℕ, ◌<◌, ◌≤◌, length, slice_index, opening_word, total}
use Rattle.partial_replay.proofs.run.opening_words.Given as goal

-- the first w words are those of an opening, and the others 0
abbrev pub invariant-loop-w : goal.invariant-loop-w
invariant-loop-w l = record {
  count : length l.words ≡ total l.sizes;
  each : (k : ℕ) → k < l.w → slice_index l.words k ≡ opening_word l.sizes l.initial' k;
  rest : (k : ℕ) → l.w ≤ k → k < total l.sizes → slice_index l.words k ≡ 0;
}
