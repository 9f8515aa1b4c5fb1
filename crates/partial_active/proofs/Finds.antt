-- A finished getSet finds the active set: it misses no announcement that stood all the while, and names no index but those of
-- the announcements that it found.
use Rattle.partial_active.proofs.{Common.{ℕ, ◌≡◌, ◌≤◌, ◌⊎◌, true, ◌||◌, nat_eq, ◌==◌, Some, None, List, [], ◌∷◌, Bool, inl, inr, refl, sym, ap, ◌∙◌, arith, flat_map, list_any, false≢true, or_left, or_right, eqb-true, eq-eqb, get_or_default, list_any-append, Any-from_list_any, Load, Layout, IsLayout, list_head, Buffers, AreFoundFor, has_index, with_index, SetPair, fresh_set, set_step_due, slot_at, AtSome, AtSomeStep, answered_from, own_moments, Announcement, FindsAnnouncement, Names, FindsActiveSet, GetSetsFind, with_all}, Orders.{Past, IsPairwiseOrderly, LeadsTo, own_leads, moments_of}, Indices.with_index_has, Knowledge.finished, Known.facts_of_moments, Active.{onto, onto_each, reached_from}, Named.{Named, named_behind}}

-- an index of a list with others put after it is in one of the two
with_all_has : (xs ys : List ℕ) (j : ℕ) → has_index (with_all xs ys) j ≡ true → (has_index xs j ≡ true) ⊎ (has_index ys j ≡ true)
with_all_has xs [] j has = inl has
with_all_has xs (y ∷ ys) j has = elim (with_all_has (with_index xs y) ys j has) [
  | inl first ↦ elim (with_index_has xs y j first) [ inl old ↦ inl old | inr same ↦ inr (or_left (y == j) (has_index ys j) (eq-eqb y j same)) ]
  | inr more ↦ inr (or_right (y == j) (has_index ys j) more)
]

-- an index of all the announcements is one of one of them
has_of_some : (found : List Announcement) (j : ℕ) → has_index (flat_map (λ (a : Announcement). a.named) found) j ≡ list_any (λ (a : Announcement). has_index a.named j) found
has_of_some [] j = refl
has_of_some (a ∷ found) j =
    list_any-append (λ i. nat_eq i j) a.named (flat_map (λ (b : Announcement). b.named) found) ∙ ap (λ b. has_index a.named j || b) (has_of_some found j)

-- what the machine met at some step, it met at some moment
at_moment : (P : SetPair → List ℕ → Type 0) (Q : List ℕ → Type 0) (p : SetPair) (ms : Past) → ((r : SetPair) (w : List ℕ) → P r w → Q w) → AtSomeStep P p ms → AtSome Q ms
at_moment P Q p [] so some = absurd some
at_moment P Q p (w ∷ ws) so (inl here) = inl (so p w here)
at_moment P Q p (w ∷ ws) so (inr more) = inr (at_moment P Q (answered_from p w) ws so more)

-- each index that was found was named at some moment
sound : (s : Layout) (start : SetPair) (ms : Past) (n : ℕ) (indices : List ℕ) → n ≤ s.slots → Named s start ms n indices → (j : ℕ) → has_index indices j ≡ true → AtSome (Names s j) ms
sound s start ms n indices within k j has =
    let names : List ℕ = flat_map (λ (a : Announcement). a.named) k.found in
    let all : has_index names j ≡ true = elim (with_all_has [] names j (ap (λ (l : List ℕ). has_index l j) (sym k.gathered) ∙ has)) [
      | inl never ↦ absurd (false≢true never)
      | inr there ↦ there
    ] in
    let some = Any-from_list_any (λ (a : Announcement). has_index a.named j) k.found (sym (has_of_some k.found j) ∙ all) in
    let a : Announcement = some.1 in
    let place = Any-from_list_any (λ i. nat_eq i j) a.named some.4 in
    let below = k.below a (some.0, some.2, some.3) in
    at_moment (FindsAnnouncement s a) (Names s j) start ms (λ r w met. record {
      slot = a.slot;
      named = a.named;
      place = place.0;
      slot_within = omega (arith, within, below);
      announcement = met.1;
      place_within = place.2;
      index_there = get_or_default a.named place.0 0 place.1 place.2 ∙ place.3 ∙ eqb-true place.1 j place.4;
    }) ((k.loaded a).0 (some.0, some.2, some.3))

-- a finished getSet has found the active set over the moments of its steps
module _ (s : Layout) (spent : Bool) (f : Buffers) (layout : IsLayout s) (sizes : AreFoundFor s f) where
  finds : (ms : Past) (q : SetPair) → IsPairwiseOrderly s [] ms → LeadsTo (fresh_set s spent, f) ms q → set_step_due q.0 ≡ None → FindsActiveSet s ms q.1.indices
  finds [] q orderly leads done =
      let none : Some (Load (list_head s)) ≡ None = ap (λ (r : SetPair). set_step_due r.0) (sym leads) ∙ done in
      let never : ⊥ = cc in absurd never
  finds (first ∷ ms) q orderly leads done =
      let reached = reached_from s spent f layout sizes first ms q orderly leads in
      let found = finished (facts_of_moments s first (onto ms (first ∷ []))) q.0.sizes q.0.head q.0.stage q done reached.knows in
      let named = named_behind s spent f layout sizes first ms q orderly leads done in
      let within : named.0 ≤ s.slots = let slots = ap (λ (l : Layout). l.slots) reached.sizes in let below = named.1 in omega (arith, slots, below) in
      record {
        complete = λ slot names inside there each k lt. found.1 slot names inside there (onto_each (λ w. slot_at s w slot ≡ slot_at s first slot) ms (first ∷ []) (each.0, tt) each.1) k lt;
        sound = sound s (fresh_set s spent, f) (first ∷ ms) named.0 q.1.indices within named.2;
      }

-- the same by the events of a run
pub finds_by_events : GetSetsFind
finds_by_events s spent f own words events q layout sizes orderly makes done =
    finds s spent f layout sizes (own_moments own words events) q (moments_of s own words events orderly) (own_leads own (fresh_set s spent, f) q words events makes) done
