-- The words of pairs, one after the other, and what is read back from a record.
use Rattle.partial_words.proofs.Common.{ℕ, zero, suc, ◌≡◌, ◌+◌, ◌-◌, ◌*◌, ◌/◌, ◌%◌, ◌<◌, ◌≤◌, List, [], ◌∷◌, length, slice_index_or, slice_index, refl, sym, ◌∙◌, ap, lit<, arith, flat_map, pair_words, record_block, StandsAt, ReadsBackRecord, view_pair}

pub length-pairs : (ps : List (ℕ × ℕ)) → length (flat_map pair_words ps) ≡ 2 * length ps
length-pairs [] = refl
length-pairs (p ∷ ps) = omega (arith, length-pairs ps)

-- at an even place stands an index, at the odd one after it the value
pub pairs_even : (ps : List (ℕ × ℕ)) (i : ℕ) (d : ℕ × ℕ) → i < length ps → slice_index (flat_map pair_words ps) (2 * i) ≡ (slice_index_or ps i d).0
pairs_even [] i d within = absurd (omega arith)
pairs_even (p ∷ ps) zero d within = refl
pairs_even (p ∷ ps) (suc i) d within =
    let e : 2 * suc i ≡ suc (suc (2 * i)) = omega arith in
    ap (λ n. slice_index (flat_map pair_words (p ∷ ps)) n) e ∙ pairs_even ps i d (omega arith)

pub pairs_odd : (ps : List (ℕ × ℕ)) (i : ℕ) (d : ℕ × ℕ) → i < length ps → slice_index (flat_map pair_words ps) (1 + 2 * i) ≡ (slice_index_or ps i d).1
pairs_odd [] i d within = absurd (omega arith)
pairs_odd (p ∷ ps) zero d within = refl
pairs_odd (p ∷ ps) (suc i) d within =
    let e : 1 + 2 * suc i ≡ suc (suc (1 + 2 * i)) = omega arith in
    ap (λ n. slice_index (flat_map pair_words (p ∷ ps)) n) e ∙ pairs_odd ps i d (omega arith)

pub word_even : (ps : List (ℕ × ℕ)) (k : ℕ) (d : ℕ × ℕ) → k < 2 * length ps → k % 2 ≡ 0 → (slice_index_or ps (k / 2) d).0 ≡ slice_index (flat_map pair_words ps) k
word_even ps k d within even =
    let e : 2 * (k / 2) ≡ k = omega arith in
    sym (pairs_even ps (k / 2) d (omega arith)) ∙ ap (λ n. slice_index (flat_map pair_words ps) n) e

pub word_odd : (ps : List (ℕ × ℕ)) (k : ℕ) (d : ℕ × ℕ) → k < 2 * length ps → (k % 2 ≡ 0 → ⊥) → (slice_index_or ps (k / 2) d).1 ≡ slice_index (flat_map pair_words ps) k
word_odd ps k d within odd =
    let e : 1 + 2 * (k / 2) ≡ k = omega arith in
    sym (pairs_odd ps (k / 2) d (omega arith)) ∙ ap (λ n. slice_index (flat_map pair_words ps) n) e

-- after the first four words of a record stand its pairs
pub block_tail : (prev value view k : ℕ) (ps : List (ℕ × ℕ)) → 4 ≤ k → k < length (record_block prev value view ps) → k - 4 < 2 * length ps
block_tail prev value view k [] behind within = absurd (omega arith)
block_tail prev value view k (p ∷ ps) behind within = omega (arith, length-pairs ps)

-- word 1 + k of the view's words after a record
pub block_word : (prev value view k : ℕ) (ps : List (ℕ × ℕ)) → k < 2 * length ps → slice_index (record_block prev value view ps) (4 + k) ≡ slice_index (flat_map pair_words ps) k
block_word prev value view k [] within = absurd (omega arith)
block_word prev value view k (p ∷ ps) within =
    let e : 4 + k ≡ suc (suc (suc (suc k))) = omega arith in
    ap (λ n. slice_index (record_block prev value view (p ∷ ps)) n) e

pub length-record_block : (prev value view : ℕ) (p : ℕ × ℕ) (ps : List (ℕ × ℕ)) → length (record_block prev value view (p ∷ ps)) ≡ 4 + 2 * length (p ∷ ps)
length-record_block prev value view p ps = omega (arith, length-pairs ps)

-- the first three words of a record, with a view of its own or without
pub first_words : (words : List ℕ) (at prev value view : ℕ) (pairs : List (ℕ × ℕ)) → StandsAt words at (record_block prev value view pairs) → (slice_index words at ≡ prev) ×
    (slice_index words (at + 1) ≡ value) × (slice_index words (at + 2) ≡ view)
first_words words at prev value view [] stands =
    (ap (λ n. slice_index words n) (omega arith) ∙ (stands 0 (lit< tt)).1, (stands 1 (lit< tt)).1, (stands 2 (lit< tt)).1)
first_words words at prev value view (p ∷ ps) stands =
    (ap (λ n. slice_index words n) (omega arith) ∙ (stands 0 (omega arith)).1, (stands 1 (omega arith)).1, (stands 2 (omega arith)).1)

-- word i of the pairs of a record that stands in the words
pair_stands : (words : List ℕ) (at prev value view : ℕ) (pairs : List (ℕ × ℕ)) (i : ℕ) → StandsAt words at (record_block prev value view pairs) → i < 2 * length pairs →
    slice_index words (at + 4 + i) ≡ slice_index (flat_map pair_words pairs) i
pair_stands words at prev value view [] i stands within = absurd (omega arith)
pair_stands words at prev value view (p ∷ ps) i stands within =
    ap (λ n. slice_index words n) (omega arith) ∙ (stands (4 + i) (omega (arith, length-pairs ps))).1 ∙ block_word prev value view i (p ∷ ps) within

count_stands : (words : List ℕ) (at prev value view : ℕ) (pairs : List (ℕ × ℕ)) → StandsAt words at (record_block prev value view pairs) → 0 < length pairs → slice_index words (at + 3) ≡ length pairs
count_stands words at prev value view [] stands some = absurd (omega arith)
count_stands words at prev value view (p ∷ ps) stands some = (stands 3 (omega arith)).1

pair_read_back : (words : List ℕ) (at prev value view : ℕ) (pairs : List (ℕ × ℕ)) (k : ℕ) (d : ℕ × ℕ) → StandsAt words at (record_block prev value view pairs) → k < length pairs →
    view_pair words (at + 3) k ≡ slice_index_or pairs k d
pair_read_back words at prev value view pairs k d stands within =
    let index : slice_index words (at + 3 + 1 + 2 * k) ≡ (slice_index_or pairs k d).0 = ap (λ n. slice_index words n) (omega arith) ∙ pair_stands words at prev value view pairs (2 * k) stands
    (omega arith) ∙ pairs_even pairs k d within in
    let value' : slice_index words (at + 3 + 2 + 2 * k) ≡ (slice_index_or pairs k d).1 = ap (λ n. slice_index words n) (omega arith) ∙ pair_stands words at prev value view pairs (1 + 2 * k) stands
    (omega arith) ∙ pairs_odd pairs k d within in
    ap (λ n. (n, slice_index words (at + 3 + 2 + 2 * k))) index ∙ ap (λ n. ((slice_index_or pairs k d).0, n)) value'

pub reads_back : (words : List ℕ) (at prev value view : ℕ) (pairs : List (ℕ × ℕ)) → StandsAt words at (record_block prev value view pairs) → ReadsBackRecord words at prev value view pairs
reads_back words at prev value view pairs stands =
    let first = first_words words at prev value view pairs stands in
    record {
      prev = first.0;
      value = first.1;
      view = first.2;
      count = count_stands words at prev value view pairs stands;
      each = λ k d within. pair_read_back words at prev value view pairs k d stands within;
    }
