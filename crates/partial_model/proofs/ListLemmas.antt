-- Elements of lists: those that are written into another list, and one that was looked up.
use Rattle.partial_model.proofs.Common.{ℕ, ◌≡◌, ◌++◌, List, length, take, drop, Some, sym, ◌∙◌, ap}
use Rattle.std.proofs.Math.Seq.{take-append_seam}

-- what is taken of a list that was written whole into another of the same length is the list
pub written_whole : (n : ℕ) (xs ys : List ℕ) → length xs ≡ length ys → n ≡ length ys → take n (xs ++ drop (length xs) ys) ≡ xs
written_whole n xs ys same is = ap (λ k. take k (xs ++ drop (length xs) ys)) (is ∙ sym same) ∙ take-append_seam xs (drop (length xs) ys)

-- what is found is one element
pub some_same : {A : Type 0} {a b : A} → Some a ≡ Some b → a ≡ b
some_same e = cc
