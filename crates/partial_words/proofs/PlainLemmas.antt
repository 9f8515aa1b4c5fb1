-- Words of which the zeros at the end aren't stored.
use Rattle.std.specs.Prelude.{◌^◌, replicate}
use Rattle.std.proofs.lemmas.List.{append_assoc, replicate-append-replicate, length-append, length-replicate, set-append_left}
use Rattle.partial_words.proofs.Common.{◌≡◌, ◌++◌, ◌+◌, ◌%◌, ◌==◌, ◌-◌, ◌≤◌, ◌<◌, ◌∙◌, if◌then◌else◌, ap, sym, arith, refl, length-set, ℕ, List, [], ◌∷◌, zero, suc, length, slice_index, slice_set}
use Rattle.partial_words.specs.Step.{word_of, words_after}
use Rattle.partial_words.specs.declared.step.Step.{Step}
use Rattle.partial_words.specs.declared.step.Step.TheVariants.{Load, Store, Exchange, Add}

-- how many zeros there are
length_zeros : (n : ℕ) → length {A = ℕ} (replicate n 0) ≡ n
length_zeros n = length-replicate {A = ℕ} n 0

-- how many words there are in all
pub all_words : (xs : List ℕ) (n : ℕ) → length xs ≤ n → length (xs ++ replicate (n - length xs) 0) ≡ n
all_words xs n f = omega (arith, length-append xs (replicate (n - length xs) 0), length_zeros (n - length xs))

-- zeros after a list change no element of it that is asked for, since one that isn't there counts as 0
zeros : (k j : ℕ) → ◌≡◌ {A = ℕ} (slice_index (replicate k 0) j) 0
zeros zero j = refl
zeros (suc k) zero = refl
zeros (suc k) (suc j) = zeros k j

pub zeros_behind : (words : List ℕ) (k j : ℕ) → slice_index (words ++ replicate k 0) j ≡ slice_index words j
zeros_behind [] k j = zeros k j
zeros_behind (w ∷ words) k zero = refl
zeros_behind (w ∷ words) k (suc j) = zeros_behind words k j

-- zeros after zeros
zeros_joined : (xs : List ℕ) (k l n : ℕ) → k + l ≡ n → (xs ++ replicate k 0) ++ replicate l 0 ≡ xs ++ replicate n 0
zeros_joined xs k l n f =
    append_assoc xs (replicate k 0) (replicate l 0) ∙ ap (λ zs. xs ++ zs) (replicate-append-replicate k l 0 ∙ ap (λ i. replicate i 0) f)

-- more zeros stored are the same words
pub zeros_stored : (xs : List ℕ) (m n : ℕ) → m ≤ n →
    (xs ++ replicate (m - length xs) 0) ++ replicate (n - length (xs ++ replicate (m - length xs) 0)) 0 ≡ xs ++ replicate (n - length xs) 0
zeros_stored xs m n f =
    zeros_joined xs (m - length xs) (n - length (xs ++ replicate (m - length xs) 0)) (n - length xs)
    (omega (arith, length-append xs (replicate (m - length xs) 0), length_zeros (m - length xs)))

-- a step on a stored word is a step on all words
pub step_stored : (xs : List ℕ) (n : ℕ) (step : Step) → word_of step < length xs →
    words_after (xs ++ replicate n 0) step ≡ words_after xs step ++ replicate n 0
step_stored xs n (Load w) f = refl
step_stored xs n (Store w v) f = set-append_left xs (replicate n 0) w v f
step_stored xs n (Exchange w old new) f =
    ap (λ x. slice_set (xs ++ replicate n 0) w (if x == old then new else x)) (zeros_behind xs n w) ∙ set-append_left xs (replicate n 0) w (if slice_index xs w == old then new else slice_index xs w) f
step_stored xs n (Add w k) f =
    ap (λ x. slice_set (xs ++ replicate n 0) w ((x + k) % 2 ^ 64)) (zeros_behind xs n w) ∙ set-append_left xs (replicate n 0) w ((slice_index xs w + k) % 2 ^ 64) f

-- a step leaves as many words
pub same_long : (xs : List ℕ) (step : Step) → length (words_after xs step) ≡ length xs
same_long xs (Load w) = refl
same_long xs (Store w v) = length-set xs w v
same_long xs (Exchange w old new) = length-set xs w (if slice_index xs w == old then new else slice_index xs w)
same_long xs (Add w k) = length-set xs w ((slice_index xs w + k) % 2 ^ 64)

-- a step on the stored ones of all words is a step on all
pub step_made : (all xs ws : List ℕ) (n : ℕ) (step : Step) → xs ++ replicate (n - length xs) 0 ≡ all → word_of step < length xs →
    ws ≡ words_after xs step → ws ++ replicate (n - length ws) 0 ≡ words_after all step
step_made all xs ws n step is f made =
    ap (λ zs. zs ++ replicate (n - length zs) 0) made
    ∙ ap (λ k. words_after xs step ++ replicate (n - k) 0) (same_long xs step)
    ∙ sym (step_stored xs (n - length xs) step f) ∙ ap (λ zs. words_after zs step) is
