-- What a list of indices has once an index was put into it, and announcements at one word.
use Rattle.partial_active.proofs.Common.{ℕ, ◌≡◌, ◌+◌, ◌<◌, ◌⊎◌, true, false, ◌||◌, nat_eq, ◌==◌, List, [], ◌∷◌, ◌++◌, length, slice_index, inl, inr, refl, sym, ap, ◌∙◌, arith, false≢true, cases_eq, cond_both, or_cases, eqb-true, eq-eqb, list_any-append, StandsAt, announcement_block, announcement_reads_back, has_index, with_index, HasFirst}

-- what the list has once an index was put into it
pub with_index_has : (xs : List ℕ) (x j : ℕ) → has_index (with_index xs x) j ≡ true → (has_index xs j ≡ true) ⊎ (x ≡ j)
with_index_has xs x j = cond_both (has_index xs x) xs (xs ++ x ∷ []) (λ ys. has_index ys j ≡ true → (has_index xs j ≡ true) ⊎ (x ≡ j))
    (λ e h. inl h)
    (λ e h.
    let split : (has_index xs j || (nat_eq x j || false)) ≡ true = sym (list_any-append (λ i. nat_eq i j) xs (x ∷ [])) ∙ h in
    elim (or_cases (has_index xs j) (nat_eq x j || false) split) [
      | inl before ↦ inl before
      | inr last ↦ elim (or_cases (x == j) false last) [ inl same ↦ inr (eqb-true x j same) | inr never ↦ absurd (false≢true never) ]
    ])

pub with_index_keeps : (xs : List ℕ) (x j : ℕ) → has_index xs j ≡ true → has_index (with_index xs x) j ≡ true
with_index_keeps xs x j h = cond_both (has_index xs x) xs (xs ++ x ∷ []) (λ ys. has_index ys j ≡ true)
    (λ e. h)
    (λ e. list_any-append (λ i. nat_eq i j) xs (x ∷ []) ∙ ap (λ b. b || (nat_eq x j || false)) h)

pub with_index_new : (xs : List ℕ) (x : ℕ) → has_index (with_index xs x) x ≡ true
with_index_new xs x = cond_both (has_index xs x) xs (xs ++ x ∷ []) (λ ys. has_index ys x ≡ true)
    (λ e. e)
    (λ e. list_any-append (λ i. nat_eq i x) xs (x ∷ []) ∙ ap (λ b. b || (nat_eq x x || false)) e ∙ ap (λ b. b || false) (eq-eqb x x refl))

-- one more index of an announcement is found
pub first_more : (indices named : List ℕ) (i : ℕ) → HasFirst indices named i → HasFirst (with_index indices (slice_index named i)) named (i + 1)
first_more indices named i so_far k lt = elim (cases_eq k i) [
  | inl same ↦ rw same (with_index_new indices (slice_index named i))
  | inr other ↦ with_index_keeps indices (slice_index named i) (slice_index named k) (so_far k (omega (arith, lt, other)))
]

-- two announcements at one word name the same indices
pub same_named : (words : List ℕ) (at : ℕ) (a b : List ℕ) → StandsAt words at (announcement_block a) → StandsAt words at (announcement_block b) → (length a ≡ length b) ×
    ((k : ℕ) → k < length a → slice_index b k ≡ slice_index a k)
same_named words at a b stands_a stands_b =
    let ra = announcement_reads_back words at a stands_a in
    let rb = announcement_reads_back words at b stands_b in
    let same : length a ≡ length b = sym ra.count ∙ rb.count in
    (same, λ k lt. sym (rb.each k (omega (arith, same))) ∙ ra.each k lt)
