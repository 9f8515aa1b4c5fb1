-- The marks of a list of indices: how many there are, and what is left of them while it is emptied.
use Rattle.partial_active.proofs.Common.{ℕ, zero, suc, ◌≡◌, ◌+◌, ◌<◌, ◌≤◌, Bool, true, false, if◌then◌else◌, inl, inr, List, [], ◌∷◌, length, slice_index_or, slice_index, count_by, refl, sym, arith, false≢true, cases_Bool, has_index, IsMarked}
use Rattle.std.proofs.lemmas.List.Sums.{count_by-le-length, sum_by-cons}

marked_first : (marks : List Bool) → count_by (λ b. b) (true ∷ marks) ≡ 1 + count_by (λ b. b) marks
marked_first marks = sum_by-cons (λ b. if b then 1 else 0) true marks

free_first : (marks : List Bool) → count_by (λ b. b) (false ∷ marks) ≡ count_by (λ b. b) marks
free_first marks = omega (arith, sum_by-cons (λ b. if b then 1 else 0) false marks)

-- where one is not marked, fewer are marked than there are
pub count_lt-length : (marks : List Bool) (i : ℕ) (d : Bool) → i < length marks → slice_index_or marks i d ≡ false → count_by (λ b. b) marks < length marks
count_lt-length [] i d within free = absurd (omega arith)
count_lt-length (true ∷ marks) zero d within free = absurd (false≢true (sym free))
count_lt-length (false ∷ marks) zero d within free = omega (arith, free_first marks, count_by-le-length (λ b. b) marks)
count_lt-length (true ∷ marks) (suc i) d within free = omega (arith, marked_first marks, count_lt-length marks i d (omega arith) free)
count_lt-length (false ∷ marks) (suc i) d within free = omega (arith, free_first marks, count_lt-length marks i d (omega arith) free)

-- where none is marked, the count is 0
pub count_none : (marks : List Bool) → ((j : ℕ) → j < length marks → slice_index_or marks j false ≡ false) → count_by (λ b. b) marks ≡ 0
count_none [] none = refl
count_none (true ∷ marks) none = absurd (false≢true (sym (none 0 (omega arith))))
count_none (false ∷ marks) none = omega (arith, free_first marks, count_none marks (λ j lt. none (suc j) (omega arith)))

-- what holds while the list is emptied: each index that is still marked is still in the list
pub record IsEmptied (items : List ℕ) (marks : List Bool) (limit : ℕ) : Type 0 where
  pub kept : (j : ℕ) → j < length marks → slice_index_or marks j false ≡ true → has_index items j ≡ true
  pub below : (k : ℕ) → k < length items → slice_index items k < length marks
  pub same : length marks ≡ limit

pub emptied_all : (items left : List ℕ) (marks : List Bool) (limit room : ℕ) → IsEmptied items marks limit → length items ≡ 0 → length left ≡ 0 → limit ≤ room → IsMarked left marks room
emptied_all (x ∷ items) left marks limit room e empty gone fits = absurd (omega arith)
emptied_all [] (x ∷ left) marks limit room e empty gone fits = absurd (omega arith)
emptied_all [] [] marks limit room e empty gone fits =
    let none : (j : ℕ) → j < length marks → slice_index_or marks j false ≡ false = λ j lt. elim (cases_Bool (slice_index_or marks j false)) [
      | inl marked ↦ absurd (false≢true (e.kept j lt marked))
      | inr free ↦ free
    ] in
    record {
      marked = none;
      below = λ k lt. absurd (omega arith);
      count = count_none marks none;
      fits = omega (arith, e.same);
    }
