-- The words of the pairs of a record that has the values of a list of indices.
use Rattle.partial_machine.proofs.Common.{ℕ, ◌≡◌, ◌/◌, ◌%◌, ◌<◌, List, length, slice_index_or, slice_index, map, sym, ◌∙◌, ap, arith, length-map, flat_map, pair_words, pairs_size}
use Rattle.std.proofs.Math.ListN as lists
use Rattle.partial_words.proofs.RecordLemmas.{word_even, word_odd}

module _ (value : ℕ → ℕ) (l : List ℕ) (k : ℕ) (within : k < pairs_size (length l)) where
  abbrev pub pairs : List (ℕ × ℕ)
  pairs = map (λ j. (j, value j)) l

  inside : k < pairs_size (length pairs)
  inside = let same : length pairs ≡ length l = length-map l (λ j. (j, value j)) in omega (arith, within, same)

  here : slice_index_or pairs (k / 2) (0, value 0) ≡ (slice_index l (k / 2), value (slice_index l (k / 2)))
  here = lists.get_or-map (λ j. (j, value j)) l (k / 2) 0

  -- at an even place stands an index, at the odd one after it its value
  pub index_word : k % 2 ≡ 0 → slice_index l (k / 2) ≡ slice_index (flat_map pair_words pairs) k
  index_word even = sym (ap (λ (d : ℕ × ℕ). d.0) here) ∙ word_even pairs k (0, value 0) inside even

  pub value_word : (k % 2 ≡ 0 → ⊥) → value (slice_index l (k / 2)) ≡ slice_index (flat_map pair_words pairs) k
  value_word odd = sym (ap (λ (d : ℕ × ℕ). d.1) here) ∙ word_odd pairs k (0, value 0) inside odd
