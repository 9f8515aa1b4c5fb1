-- What is read back from announcements and lists.
use Rattle.partial_words.proofs.{Common.{ℕ, suc, ◌≡◌, ◌+◌, ◌-◌, ◌*◌, ◌/◌, ◌%◌, ◌<◌, List, ◌∷◌, length, slice_index_or, slice_index, ◌∙◌, sym, ap, arith, flat_map, pair_words, StandsAt}, RecordLemmas.{length-pairs, pairs_even, pairs_odd, word_even, word_odd}}
use Rattle.partial_words.specs.{Announcement.{announcement_block, ReadsBackAnnouncement}, VacatedList.{list_block, ReadsBackList}}

-- the word after the first
word_behind : (n k : ℕ) (rest : List ℕ) → slice_index (n ∷ rest) (k + 1) ≡ slice_index rest k
word_behind n k rest = let next : k + 1 ≡ suc k = omega arith in ap (λ i. slice_index (n ∷ rest) i) next

first_at : (words : List ℕ) (at n : ℕ) (rest : List ℕ) → StandsAt words at (n ∷ rest) → slice_index words at ≡ n
first_at words at n rest stands = ap (λ i. slice_index words i) (omega arith) ∙ (stands 0 (omega arith)).1

behind_at : (words : List ℕ) (at n k : ℕ) (rest : List ℕ) → StandsAt words at (n ∷ rest) → k < length rest → slice_index words (at + 1 + k) ≡ slice_index rest k
behind_at words at n k rest stands within =
    ap (λ i. slice_index words i) (omega arith) ∙ (stands (k + 1) (omega arith)).1 ∙ word_behind n k rest

pub announcement_reads_back : (words : List ℕ) (at : ℕ) (indices : List ℕ) → StandsAt words at (announcement_block indices) → ReadsBackAnnouncement words at indices
announcement_reads_back words at indices stands = record {
  count = first_at words at (length indices) indices stands;
  each = λ k within. behind_at words at (length indices) k indices stands within;
}

pub list_reads_back : (words : List ℕ) (at : ℕ) (intervals : List (ℕ × ℕ)) → StandsAt words at (list_block intervals) → ReadsBackList words at intervals
list_reads_back words at intervals stands = record {
  count = first_at words at (length intervals) (flat_map pair_words intervals) stands;
  each = λ k d within.
      let low : slice_index words (at + 1 + 2 * k) ≡ (slice_index_or intervals k d).0 = behind_at words at (length intervals) (2 * k) (flat_map pair_words intervals) stands
      (omega (arith, length-pairs intervals)) ∙ pairs_even intervals k d within in
      let high : slice_index words (at + 2 + 2 * k) ≡ (slice_index_or intervals k d).1 = ap (λ i. slice_index words i) (omega arith) ∙ behind_at words at (length intervals) (1 + 2 * k)
      (flat_map pair_words intervals) stands (omega (arith, length-pairs intervals)) ∙ pairs_odd intervals k d within in
      ap (λ n. (n, slice_index words (at + 2 + 2 * k))) low ∙ ap (λ n. ((slice_index_or intervals k d).0, n)) high;
}

-- the place of an interval's word is one of the list's
pub interval_within : (intervals : List (ℕ × ℕ)) (k : ℕ) → k < length (list_block intervals) → (k ≡ 0 → ⊥) → k - 1 < 2 * length intervals
interval_within intervals k within behind = omega (arith, length-pairs intervals)

pub interval_word_even : (intervals : List (ℕ × ℕ)) (k : ℕ) → k < length (list_block intervals) → (k ≡ 0 → ⊥) → (k - 1) % 2 ≡ 0 → (slice_index_or intervals ((k - 1) / 2) (0, 0)).0 ≡ slice_index_or
    (list_block intervals) k 0
interval_word_even intervals k within behind even =
    let back : k - 1 + 1 ≡ k = omega arith in
    word_even intervals (k - 1) (0, 0) (interval_within intervals k within behind) even ∙ sym (word_behind (length intervals) (k - 1) (flat_map pair_words intervals)) ∙
    ap (λ i. slice_index (list_block intervals) i) back

pub interval_word_odd : (intervals : List (ℕ × ℕ)) (k : ℕ) → k < length (list_block intervals) → (k ≡ 0 → ⊥) → ((k - 1) % 2 ≡ 0 → ⊥) → (slice_index_or intervals ((k - 1) / 2) (0, 0)).1 ≡ slice_index_or
    (list_block intervals) k 0
interval_word_odd intervals k within behind odd =
    let back : k - 1 + 1 ≡ k = omega arith in
    word_odd intervals (k - 1) (0, 0) (interval_within intervals k within behind) odd ∙ sym (word_behind (length intervals) (k - 1) (flat_map pair_words intervals)) ∙
    ap (λ i. slice_index (list_block intervals) i) back
