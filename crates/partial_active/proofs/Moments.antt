-- What holds at some of a getSet's steps, and an induction over the steps after the first.
use Rattle.partial_active.proofs.{Common.{ℕ, ◌≡◌, ◌++◌, ◌⊎◌, Bool, Option, Some, List, [], ◌∷◌, inl, inr, refl, sym, ◌∙◌, ap, subst, append_assoc, append-nil, Step, Load, Layout, IsLayout, list_head, answer_of, Buffers, AreFoundFor, SetPair, fresh_set, set_step_due, advance_set, SetGoesTogether, IsPossibleInSet, Orderly, head_at, OnEach, AtSomeStep, answered_from}, Orders.{Past, ComesFrom, IsPairwiseOrderly, LeadsTo, run_front}, Active.{onto, run_split, step_from, reached_from}}
use Rattle.std.specs.Option.{option_map_or}

-- what held at some step goes on to be so
pub at_later : (P : SetPair → List ℕ → Type 0) (p : SetPair) (ms : Past) (now : List ℕ) → AtSomeStep P p ms → AtSomeStep P p (ms ++ now ∷ [])
at_later P p [] now some = absurd some
at_later P p (w ∷ ws) now (inl h) = inl h
at_later P p (w ∷ ws) now (inr h) = inr (at_later P (answered_from p w) ws now h)

-- the steps lead the machine after its first step on
leads_on : (p q : SetPair) (w : List ℕ) (ws : Past) → LeadsTo p (w ∷ ws) q → LeadsTo (answered_from p w) ws q
leads_on p q w ws leads = subst (λ (r : SetPair). LeadsTo r ws q) (sym (ap (λ (o : Option Step). option_map_or (λ step. advance_set p (answer_of w step)) o p) leads.1)) leads.2

-- it holds of the machine to which the steps lead
pub at_here : (P : SetPair → List ℕ → Type 0) (p q : SetPair) (ms : Past) (now : List ℕ) → LeadsTo p ms q → P q now → AtSomeStep P p (ms ++ now ∷ [])
at_here P p q [] now leads h = inl (subst (λ (r : SetPair). P r now) leads h)
at_here P p q (w ∷ ws) now leads h = inr (at_here P (answered_from p w) q ws now (leads_on p q w ws leads) h)

-- what held at some step held before, or holds of that machine
pub at_split : (P : SetPair → List ℕ → Type 0) (p q : SetPair) (ms : Past) (now : List ℕ) → LeadsTo p ms q → AtSomeStep P p (ms ++ now ∷ []) → AtSomeStep P p ms ⊎ P q now
at_split P p q [] now leads (inl h) = inr (subst (λ (r : SetPair). P r now) (sym leads) h)
at_split P p q [] now leads (inr h) = absurd h
at_split P p q (w ∷ ws) now leads (inl h) = inl (inl h)
at_split P p q (w ∷ ws) now leads (inr h) = elim (at_split P (answered_from p w) q ws now (leads_on p q w ws leads) h) [ inl t ↦ inl (inr t) | inr t ↦ inr t ]

-- one step more
leads_push : (p q : SetPair) (ms : Past) (now : List ℕ) (step : Step) → LeadsTo p ms q → set_step_due q.0 ≡ Some step → LeadsTo p (ms ++ now ∷ []) (advance_set q (answer_of now step))
leads_push p q [] now step leads e = (step, ap (λ (r : SetPair). set_step_due r.0) (sym leads) ∙ e, ap (λ (r : SetPair). advance_set r (answer_of now step)) leads)
leads_push p q (w ∷ ws) now step leads e = (leads.0, leads.1, leads_push (advance_set p (answer_of w leads.0)) q ws now step leads.2 e)

-- what holds of the moments that are added holds of them
onto_back : (P : List ℕ → Type 0) (ms past : Past) → OnEach P (onto ms past) → OnEach P past × OnEach P ms
unfolding onto
onto_back P [] past each = (each, tt)
onto_back P (w ∷ ws) past each = let both = onto_back P ws (w ∷ past) each in (both.0.1, (both.0.0, both.1))

-- the machine after the first moment and some more, and the words that answer it now
pub record Behind (s : Layout) (spent : Bool) (f : Buffers) (done : Past) (p : SetPair) (now : List ℕ) : Type 0 where
  pub leads : LeadsTo (fresh_set s spent, f) done p
  pub sizes : p.0.sizes ≡ s
  pub together : SetGoesTogether p
  pub orderly : Orderly s now
  pub comes : OnEach (λ v. ComesFrom s v now) done
  pub possible : (st : Step) → set_step_due p.0 ≡ Some st → IsPossibleInSet p (answer_of now st)

-- what holds after the first step, and goes on to hold after each later one, holds after all of them
module _ (s : Layout) (layout : IsLayout s) (spent : Bool) (f : Buffers) (sizes : AreFoundFor s f) (first : List ℕ) (Holds : Past → SetPair → Type 0)
    (step : (done : Past) (p : SetPair) (now : List ℕ) (st : Step) → Behind s spent f (first ∷ done) p now → set_step_due p.0 ≡ Some st → Holds (first ∷ done) p →
    Holds ((first ∷ done) ++ now ∷ []) (advance_set p (answer_of now st))) where
  go : (done rest : Past) (p q : SetPair) → IsPairwiseOrderly s [] ((first ∷ done) ++ rest) → LeadsTo (fresh_set s spent, f) (first ∷ done) p → LeadsTo p rest q → Holds (first ∷ done) p →
      Holds ((first ∷ done) ++ rest) q
  unfolding onto
  go done [] p q orderly before leads holds = subst (λ (ms : Past). Holds ms q) (sym (append-nil (first ∷ done))) (subst (λ (r : SetPair). Holds (first ∷ done) r) (sym leads) holds)
  go done (w ∷ ws) p q orderly before leads holds =
      let joined : ((first ∷ done) ++ w ∷ []) ++ ws ≡ (first ∷ done) ++ w ∷ ws = append_assoc (first ∷ done) (w ∷ []) ws in
      let whole : IsPairwiseOrderly s [] (((first ∷ done) ++ w ∷ []) ++ ws) = subst (IsPairwiseOrderly s []) (sym joined) orderly in
      let split = run_split s (first ∷ done) [] w (run_front s [] ((first ∷ done) ++ w ∷ []) ws whole) in
      let reached = reached_from s spent f layout sizes first done p split.0 before in
      let behind : Behind s spent f (first ∷ done) p w = record {
        leads = before;
        sizes = reached.sizes;
        together = reached.together;
        orderly = split.1;
        comes = (onto_back (λ v. ComesFrom s v w) (first ∷ done) [] split.2).1;
        possible = λ st e. (step_from s layout first (onto done (first ∷ [])) p reached w split.1 split.2 st e).0;
      } in
      subst (λ (ms : Past). Holds ms q) joined
      (go (done ++ w ∷ []) ws (advance_set p (answer_of w leads.0)) q whole (leads_push (fresh_set s spent, f) p (first ∷ done) w leads.0 before leads.1) leads.2
      (step done p w leads.0 behind leads.1 holds))

  pub holds_behind : (ms : Past) (q : SetPair) → Holds (first ∷ []) (advance_set (fresh_set s spent, f) (head_at s first)) → IsPairwiseOrderly s [] (first ∷ ms) →
      LeadsTo (fresh_set s spent, f) (first ∷ ms) q → Holds (first ∷ ms) q
  holds_behind ms q base orderly leads =
      let is : leads.0 ≡ Load (list_head s) = cc in
      let begun : advance_set (fresh_set s spent, f) (head_at s first) ≡ advance_set (fresh_set s spent, f) (answer_of first leads.0) =
      ap (λ (st : Step). advance_set (fresh_set s spent, f) (answer_of first st))
      (sym is) in
      let begins : LeadsTo (fresh_set s spent, f) (first ∷ []) (advance_set (fresh_set s spent, f) (answer_of first leads.0)) = (leads.0, leads.1, refl) in
      go [] ms (advance_set (fresh_set s spent, f) (answer_of first leads.0)) q orderly begins leads.2 (subst (Holds (first ∷ [])) begun base)
