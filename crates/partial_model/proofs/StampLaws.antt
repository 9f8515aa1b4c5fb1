-- Stamps that are compared with those before them.
use Rattle.partial_model.proofs.{Common.{ℕ, zero, suc, ◌≡◌, ◌≢◌, ◌+◌, ◌<◌, ◌≤◌, ◌==◌, inl, inr, Bool, true, false, not, ◌&&◌, List, [], ◌∷◌, ◌++◌, length, take, slice_index_or, refl, sym, ap, ◌∙◌, subst, arith, AllByRecursion, list_any, true≢false, or_cases, take_more, take_all, slice_get-get_or, Decides-eqb, Applied, HaveDistinctStamps, are_distinct, any_passes_from_place}, CheckLaws.Decides-are_distinct, Decisions.Decides-list_none, NotesLemmas.{AllByRecursion-push, AllByRecursion-weaker, distinct_push}}

-- the first i entries have distinct stamps, of which none is above g
pub record AreDistinctUpTo (h : List Applied) (i g : ℕ) : Type 0 where
  pub distinct : HaveDistinctStamps (take i h)
  pub below : AllByRecursion (λ e. e.stamp ≤ g) (take i h)

-- a stamp above all before it is new
pub above_is_new : (h : List Applied) (i g : ℕ) (d : Applied) → AreDistinctUpTo h i g → i < length h → g < (slice_index_or h i d).stamp → AreDistinctUpTo h (i + 1) (slice_index_or h i d).stamp
above_is_new h i g d w within above =
    let e : Applied = slice_index_or h i d in
    let more : take (i + 1) h ≡ take i h ++ e ∷ [] = take_more h i d within in
    record {
      distinct = subst HaveDistinctStamps (sym more) (distinct_push (take i h) e w.distinct
          (AllByRecursion-weaker (λ (f : Applied). f.stamp ≤ g) (λ f. f.stamp ≢ e.stamp) (λ f le. omega arith) (take i h) w.below));
      below = subst (AllByRecursion (λ (f : Applied). f.stamp ≤ e.stamp)) (sym more)
          (AllByRecursion-push (λ (f : Applied). f.stamp ≤ e.stamp) (take i h) e
          (AllByRecursion-weaker (λ (f : Applied). f.stamp ≤ g) (λ f. f.stamp ≤ e.stamp) (λ f le. omega arith) (take i h) w.below) (omega arith));
    }

-- another stamp is new where no entry before has it
pub unseen_is_new : (h : List Applied) (i g : ℕ) (d : Applied) → AreDistinctUpTo h i g → i < length h → (slice_index_or h i d).stamp ≤ g → list_any (λ (f : Applied). f.stamp == (slice_index_or h i d).stamp)
    (take i h) ≡ false → AreDistinctUpTo h (i + 1) g
unseen_is_new h i g d w within le unseen =
    let e : Applied = slice_index_or h i d in
    let more : take (i + 1) h ≡ take i h ++ e ∷ [] = take_more h i d within in
    let new : AllByRecursion (λ (f : Applied). f.stamp ≢ e.stamp) (take i h) =
    (Decides-list_none (λ (f : Applied). f.stamp == e.stamp) (λ f. f.stamp ≡ e.stamp) (λ f. Decides-eqb f.stamp e.stamp) (take i h)).0 (ap not unseen) in
    record {
      distinct = subst HaveDistinctStamps (sym more) (distinct_push (take i h) e w.distinct new);
      below = subst (AllByRecursion (λ (f : Applied). f.stamp ≤ g)) (sym more) (AllByRecursion-push (λ (f : Applied). f.stamp ≤ g) (take i h) e w.below le);
    }

pub and_false : (b : Bool) → (b && false) ≡ false
and_false true = refl
and_false false = refl

-- a stamp that an entry before has is doubled
pub seen_is_doubled : (h : List Applied) (i : ℕ) (d : Applied) → i < length h → list_any (λ (f : Applied). f.stamp == (slice_index_or h i d).stamp) (take i h) ≡ true → are_distinct h ≡ false
seen_is_doubled [] i d within seen = absurd (omega arith)
seen_is_doubled (x ∷ h) zero d within seen = absurd (true≢false (sym seen))
seen_is_doubled (x ∷ h) (suc i) d within seen =
    let s : ℕ = (slice_index_or h i d).stamp in
    let here : i < length h = omega arith in
    elim (or_cases (x.stamp == s) (list_any (λ (f : Applied). f.stamp == s) (take i h)) seen) [
      | inl first ↦ ap (λ b. not b && are_distinct h) (any_passes_from_place (λ (f : Applied). x.stamp == f.stamp) h i (slice_index_or h i d) (slice_get-get_or h i d here) first)
      | inr later ↦ ap (λ b. not (list_any (λ (f : Applied). x.stamp == f.stamp) h) && b) (seen_is_doubled h i d here later) ∙ and_false (not (list_any (λ (f : Applied). x.stamp == f.stamp) h))
    ]

pub all_are_distinct : (h : List Applied) (i g : ℕ) → AreDistinctUpTo h i g → length h ≤ i → are_distinct h ≡ true
all_are_distinct h i g w over = (Decides-are_distinct h).1 (subst HaveDistinctStamps (take_all i h over) w.distinct)
