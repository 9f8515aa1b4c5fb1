-- The numbers of the stages, and the counts with which a pipeline begins.
use Rattle.partial_pipeline.proofs.Common.{ℕ, zero, suc, ◌≡◌, ◌+◌, ◌<◌, ◌++◌, List, [], ◌∷◌, length, replicate, slice_index, refl, sym, ◌∙◌, ap, inl, inr, arith, length_push, cases_lt, IsEachStage}

index_front : (xs : List ℕ) (x k : ℕ) → k < length xs → slice_index (xs ++ x ∷ []) k ≡ slice_index xs k
index_front [] x k within = absurd (omega arith)
index_front (y ∷ xs) x zero within = refl
index_front (y ∷ xs) x (suc k) within = index_front xs x k (omega arith)

index_last : (xs : List ℕ) (x : ℕ) → slice_index (xs ++ x ∷ []) (length xs) ≡ x
index_last [] x = refl
index_last (y ∷ xs) x = index_last xs x

-- one number more
pub numbers_more : (n : ℕ) (all : List ℕ) → IsEachStage n all → IsEachStage (n + 1) (all ++ n ∷ [])
numbers_more n all w =
    record {
      count = length_push all n ∙ ap (λ k. k + 1) w.count;
      each = λ k below. elim (cases_lt k n) [
        | inl sooner ↦ index_front all n k (omega (arith, w.count)) ∙ w.each k sooner
        | inr last ↦
            let at : k ≡ length all = omega (arith, w.count) in
            let is : k ≡ n = omega arith in
            ap (slice_index (all ++ n ∷ [])) at ∙ index_last all n ∙ sym is
      ];
    }

-- all counts begin at 0
pub zeros : (n k : ℕ) → ◌≡◌ {A = ℕ} (slice_index (replicate n 0) k) 0
zeros zero k = refl
zeros (suc n) zero = refl
zeros (suc n) (suc k) = zeros n k
