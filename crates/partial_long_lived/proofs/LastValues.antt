-- The values that are read in the arena of the current word.
use Rattle.partial_long_lived.proofs.Common.{ℕ, zero, suc, ◌≡◌, ◌+◌, ◌%◌, ◌<◌, List, [], ◌∷◌, ◌++◌, length, slice_index, sym, ap, ◌∙◌, inl, inr, arith, cases_lt, get_or_push, get_or_append_left, some, some-injective, some-ne-none, get_elem?, Plan, base, seal, arena_now, value_now, value_word}

-- a word that is there
pub word_there : (words : List ℕ) (i x : ℕ) → get_elem? words i ≡ some x → slice_index words i ≡ x
word_there [] i x is = absurd (some-ne-none x (sym is))
word_there (w ∷ words) zero x is = some-injective w x is
word_there (w ∷ words) (suc i) x is = word_there words i x is

module _ (e : Plan) (words : List ℕ) (b j w : ℕ) (at : b ≡ base e (arena_now words)) (there : get_elem? words (b + j) ≡ some w) where
  -- where the value of the component's record stands
  pub value_at : b + value_word (w % seal) ≡ value_now e words j
  value_at = ap (λ n. n + value_word (w % seal)) at ∙ ap (λ n. base e (arena_now words) + value_word (n % seal)) (sym (ap (λ n. slice_index words (n + j)) (sym at) ∙ word_there words (b + j) w there))

  -- the values of the components before this one, and its own
  pub value_more : (v at_value : ℕ) (values : List ℕ) → at_value ≡ value_word (w % seal) → get_elem? words (b + at_value) ≡ some v → length values ≡ j →
      ((k : ℕ) → k < j → slice_index values k ≡ slice_index words (value_now e words k)) → (k : ℕ) → k < j + 1 → slice_index (values ++ v ∷ []) k ≡ slice_index words (value_now e words k)
  value_more v at_value values is read long each k low = elim (cases_lt k j) [
    | inl less ↦ get_or_append_left values (v ∷ []) 0 k (omega (arith, less, long)) ∙ each k less
    | inr past ↦ let same : k ≡ j = omega (arith, low, past) in
        get_or_push values v 0 k (long ∙ sym same) ∙ sym (word_there words (b + at_value) v read) ∙ ap (λ n. slice_index words (b + n)) is ∙ ap (λ n. slice_index words n) value_at
        ∙ ap (λ n. slice_index words (value_now e words n)) (sym same)
  ]
