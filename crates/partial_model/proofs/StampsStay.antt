-- A stamp of a component never returns, since the stamps of a history are distinct.
use Rattle.partial_model.proofs.{Common.{ℕ, zero, suc, ◌≡◌, ◌≢◌, ◌<◌, ◌≤◌, List, [], ◌∷◌, length, map, take, slice_index, Option, Some, None, slice_get, refl, sym, ◌∙◌, ap, subst, inl, inr, arith, option_map_or, cases_lt, Applied, Opening, IsHistory, HaveDistinctStamps, last_entry, initial_stamp, value_of, stamp_of}, AllLemmas.all_where, HistoryLemmas.{last_at, stamp_all}, NotesLemmas.AllByRecursion-get}
use Rattle.partial_model.specs.Stamps.{HasThen, StampsNeverReturn, Twice, EqualCollectsStandTogether}

-- a prefix of a prefix
pub take_within : {A : Type 0} (n b : ℕ) (h : List A) → n ≤ b → take n (take b h) ≡ take n h
take_within zero b h le = refl
take_within (suc n) zero h le = absurd (omega (arith, le))
take_within (suc n) (suc b) [] le = refl
take_within (suc n) (suc b) (x ∷ h) le = ap (λ l. x ∷ l) (take_within n b h (omega (arith, le)))

-- an element of a prefix stands in the whole, at that place
pub in_whole : {A : Type 0} (n : ℕ) (h : List A) (k : ℕ) (e : A) → slice_get (take n h) k ≡ Some e → (k < n) × (slice_get h k ≡ Some e)
in_whole zero h k e s = let bad : None ≡ Some e = s in cc
in_whole (suc n) [] k e s = let bad : None ≡ Some e = s in cc
in_whole (suc n) (x ∷ h) zero e s = (omega arith, s)
in_whole (suc n) (x ∷ h) (suc k) e s = let w = in_whole n h k e s in let below = w.0 in (omega (arith, below), w.1)

-- entries at two places have two stamps
pub distinct_at : (h : List Applied) (k q : ℕ) (e f : Applied) → HaveDistinctStamps h → slice_get h k ≡ Some e → slice_get h q ≡ Some f → k < q → e.stamp ≢ f.stamp
distinct_at [] k q e f w s t less = let bad : None ≡ Some e = s in cc
distinct_at (x ∷ h) k zero e f w s t less = absurd (omega (arith, less))
distinct_at (x ∷ h) zero (suc q) e f w s t less = let is : x ≡ e = cc in subst (λ (d : Applied). d.stamp ≢ f.stamp) is (AllByRecursion-get (λ (g : Applied). x.stamp ≢ g.stamp) h q f w.0 t)
distinct_at (x ∷ h) (suc k) (suc q) e f w s t less = distinct_at h k q e f w.1 s t (omega (arith, less))

-- the stamp after the first a entries is none of an entry after them
stamp_before : (o : Opening) (h : List Applied) (j a q : ℕ) (f : Applied) → IsHistory o h → j < length o.values → slice_get h q ≡ Some f → a ≤ q → stamp_of o (take a h) j ≢ f.stamp
stamp_before o h j a q f w below t from =
    stamp_all (λ (s : ℕ). s ≢ f.stamp) o j (take a h)
    (all_where (λ (e : Applied). e.stamp ≢ f.stamp) (take a h) (λ k e s. let at = in_whole a h k e s in let less = at.0 in distinct_at h k q e f w.distinct at.1 t (omega (arith, less, from))))
    (λ same. AllByRecursion-get (λ (e : Applied). (i : ℕ) → i < length o.values → e.stamp ≢ initial_stamp o i) h q f w.not_initial t j below (sym same))

-- what the last entry says of the stamp and of the value
pub stamp_told : (o : Opening) (h : List Applied) (j : ℕ) (f : Option Applied) → last_entry j h ≡ f → stamp_of o h j ≡ option_map_or (λ (x : Applied). x.stamp) f (initial_stamp o j)
stamp_told o h j f e = ap (λ (g : Option Applied). option_map_or (λ (x : Applied). x.stamp) g (initial_stamp o j)) e

value_told : (o : Opening) (h : List Applied) (j : ℕ) (f : Option Applied) → last_entry j h ≡ f → value_of o h j ≡ option_map_or (λ (x : Applied). x.value) f (slice_index o.values j)
value_told o h j f e = ap (λ (g : Option Applied). option_map_or (λ (x : Applied). x.value) g (slice_index o.values j)) e

-- the same last entry at two lengths
same_last : (o : Opening) (h : List Applied) (j a n : ℕ) (f : Option Applied) → last_entry j (take a h) ≡ f → last_entry j (take n h) ≡ f → HasThen o h j n (stamp_of o (take a h) j)
    (value_of o (take a h) j)
same_last o h j a n f at_a at_n =
    (stamp_told o (take n h) j f at_n ∙ sym (stamp_told o (take a h) j f at_a), value_told o (take n h) j f at_n ∙ sym (value_told o (take a h) j f at_a))

pub stamps_never_return : StampsNeverReturn
stamps_never_return o h j a b n w below an nb same =
    let to_a : take a (take b h) ≡ take a h = take_within a b h (omega (arith, an, nb)) in
    let to_n : take n (take b h) ≡ take n h = take_within n b h nb in
    let to_b : take b (take b h) ≡ take b h = take_within b b h (omega arith) in
    elim (last_at None j (take b h)) [
      | inl all ↦ same_last o h j a n None (ap (last_entry j) (sym to_a) ∙ all a) (ap (last_entry j) (sym to_n) ∙ all n)
      | inr l ↦
          let at = in_whole b h l.place l.entry l.stands in
          let inside = at.0 in
          elim (cases_lt l.place a) [
            | inl before ↦ same_last o h j a n (Some l.entry) (ap (last_entry j) (sym to_a) ∙ l.from a before) (ap (last_entry j) (sym to_n) ∙ l.from n (omega (arith, before, an)))
            | inr from ↦ absurd (stamp_before o h j a l.place l.entry w below at.1 from (same ∙ stamp_told o (take b h) j (Some l.entry) (ap (last_entry j) (sym to_b) ∙ l.from b inside)))
          ]
    ]

pub equal_collects_stand_together : EqualCollectsStandTogether
equal_collects_stand_together o h n [] w all = refl
equal_collects_stand_together o h n (l ∷ ls) w all =
    let r = all.0 in
    let then = stamps_never_return o h l.component l.first l.second n w r.component r.before r.behind (r.first ∙ sym r.second) in
    ap (λ s. s ∷ map (λ (t : Twice). t.stamp) ls) (sym r.first ∙ sym then.0) ∙ ap (λ (m : List ℕ). stamp_of o (take n h) l.component ∷ m) (equal_collects_stand_together o h n ls w all.1)
