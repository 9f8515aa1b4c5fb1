-- A getSet that is answered from orderly words: its answers are possible, it makes few steps, and it misses no announcement.
use Rattle.partial_active.proofs.{Common.{ℕ, ◌≡◌, ◌+◌, ◌*◌, ◌<◌, ◌≤◌, ◌⊎◌, Bool, Some, is_some, List, [], ◌∷◌, ◌++◌, length, slice_index, inl, inr, refl, sym, ap, subst, ◌∙◌, arith, Step, Load, Add, Layout, IsLayout, slot_counter, list_head, list_counter, slot_word, answer_of, Stage, Head, ListLen, ListLow, ListHigh, Counter, Slot, Len, Index, Claim, Write, Publish, Done, Buffers, AreFoundFor, SetPair, fresh_set, set_step_at, set_step_due, advance_set, set_left, set_goes_at, IsPossibleInSet, SetGoesTogether, Facts, knows_by, Orderly, OnEach, AtSome, words_behind, own_moments, GetSetsMakeFewSteps, OrderlyAnswersArePossible}, Answered.keeps_at, Sizes.sizes_at, Orders.{Past, ComesFrom, IsPairwiseOrderly, LeadsTo, comes_at_once, own_leads, moments_of, moments_to_end}, Knowledge.{AreFacts, tells_at, ends_below, leads_at}, Known.{facts_of_moments, never_named, knows_later, facts_of_moments_hold, Knows}}

-- what the words of the last moment answer
module _ (p : SetPair) (first : List ℕ) (past : Past) (now : List ℕ) (orderly : Orderly p.0.sizes now) (hold : AreFacts p.0.sizes now (facts_of_moments p.0.sizes first (now ∷ past))) where
  abbrev Here : Facts
  Here = facts_of_moments p.0.sizes first (now ∷ past)

  loaded : (n : ℕ) (step : Step) → Some (Load n) ≡ Some step → answer_of now step ≡ slice_index now n
  loaded n step e = let same : Load n ≡ step = cc in ap (answer_of now) (sym same)

  told_at : (stage : Stage) (step : Step) → set_step_at p.0.sizes p.0.head stage ≡ Some step → set_goes_at stage p → knows_by Here stage p → tells_at now Here stage p (answer_of now step)
  told_at Head step e goes knows = subst (tells_at now Here Head p) (sym (loaded (list_head p.0.sizes) step e)) (elim orderly.head [
    | inl none ↦ inl none
    | inr there ↦ inr (there.0, inl (refl, there.1))
  ])
  told_at (ListLen at) step e goes knows = loaded at step e
  told_at (ListLow at left) step e goes knows = loaded at step e
  told_at (ListHigh at left lo) step e goes knows = loaded at step e
  told_at Counter step e goes knows = subst (tells_at now Here Counter p) (sym (loaded (slot_counter p.0.sizes) step e)) (
    ends_below p.0.sizes now Here hold p.1.read (slice_index now (slot_counter p.0.sizes)) goes.0.normal goes.0.within orderly.unclaimed knows,
    λ l from named within. never_named p.0.sizes first (now ∷ past) p.1.indices l 0 (omega arith) (inl (orderly.unclaimed l (omega (arith, from, within)) within)) named within,
  )
  told_at (Slot slot) step e goes knows =
      let less = goes.below in
      let bound = goes.walking.end_within in
      subst (tells_at now Here (Slot slot) p) (sym (loaded (slot_word p.0.sizes slot) step e)) (elim (orderly.slots slot (omega (arith, less, bound))) [
        | inl empty ↦ inl (empty, never_named p.0.sizes first (now ∷ past) p.1.indices slot 0 (omega arith) (inl empty))
        | inr (inl vacated) ↦ inr (inl (vacated, inl vacated))
        | inr (inr there) ↦ inr (inr (there.0, inl (refl, there.1)))
      ])
  told_at (Len slot at) step e goes knows = loaded at step e
  told_at (Index slot at left) step e goes knows = loaded at step e
  told_at (Claim count) step e goes knows =
      let same : Add (list_counter p.0.sizes) count ≡ step = cc in
      subst (λ st. tells_at now Here (Claim count) p (answer_of now st)) same (orderly.lists_from, orderly.lists_to)
  told_at (Write at k count word) step e goes knows = tt
  told_at (Publish at) step e goes knows = tt
  told_at Done step e goes knows = absurd cc

-- the machine and its buffers after these moments
pub record Reached (s : Layout) (first : List ℕ) (past : Past) (q : SetPair) : Type 0 where
  pub sizes : q.0.sizes ≡ s
  pub together : SetGoesTogether q
  pub knows : Knows s first past q
  pub first_in : AtSome (λ w. w ≡ first) past

-- what one step more leads to
abbrev pub StepsOn : Layout → List ℕ → Past → List ℕ → SetPair → Step → Type 0
StepsOn s first past now p step = IsPossibleInSet p (answer_of now step) × Reached s first (now ∷ past) (advance_set p (answer_of now step)) ×
    (set_left (advance_set p (answer_of now step)).0 < set_left p.0)

step_on : (s : Layout) (p : SetPair) → p.0.sizes ≡ s → IsLayout s → (first : List ℕ) (past : Past) (now : List ℕ) → Orderly s now → OnEach (λ v. ComesFrom s v now) past →
    AtSome (λ w. w ≡ first) (now ∷ past) → SetGoesTogether p → Knows s first past p → (step : Step) → set_step_due p.0 ≡ Some step → StepsOn s first past now p step
step_on s p same = subst (λ t. IsLayout t → (first : List ℕ) (past : Past) (now : List ℕ) → Orderly t now → OnEach (λ v. ComesFrom t v now) past →
    AtSome (λ w. w ≡ first) (now ∷ past) → SetGoesTogether p → Knows t first past p → (step : Step) → set_step_due p.0 ≡ Some step → StepsOn t first past now p step) same
    (λ layout first past now orderly comes first_in together before step e.
    let x = answer_of now step in
    let here : Facts = facts_of_moments p.0.sizes first (now ∷ past) in
    let hold = facts_of_moments_hold p.0.sizes first (now ∷ past) now (comes_at_once p.0.sizes now, comes) first_in in
    let knows : knows_by here p.0.stage p = knows_later p.0.sizes first past now p p.0.stage before in
    let known = leads_at p layout now here hold p.0.stage x together.stage knows (told_at p first past now orderly hold p.0.stage step e together.stage knows) in
    let keeps = keeps_at p.0.stage p x layout together.sizes (ap is_some e) together.stage known.0 in
    (known.0, record { sizes = sizes_at p.0.stage p x; together = keeps.together; knows = known.1; first_in = first_in }, keeps.fewer))

-- one step more, and the first one
pub step_from : (s : Layout) → IsLayout s → (first : List ℕ) (past : Past) (p : SetPair) → Reached s first past p → (now : List ℕ) → Orderly s now → OnEach (λ v. ComesFrom s v now) past →
    (step : Step) → set_step_due p.0 ≡ Some step → StepsOn s first past now p step
step_from s layout first past p reached now orderly comes step e =
    step_on s p reached.sizes layout first past now orderly comes (inr reached.first_in) reached.together reached.knows step e

first_step : (s : Layout) → IsLayout s → (spent : Bool) (f : Buffers) → AreFoundFor s f → (first : List ℕ) → Orderly s first → (step : Step) → set_step_due (fresh_set s spent) ≡ Some step →
    StepsOn s first [] first (fresh_set s spent, f) step
first_step s layout spent f sizes first orderly step e = step_on s (fresh_set s spent, f) refl layout first [] first orderly tt (inl refl) (record { sizes = sizes; stage = tt }) tt step e

-- the moments of a list added, one after another
unfoldable pub onto : Past → Past → Past
onto [] past = past
onto (w ∷ ws) past = onto ws (w ∷ past)

-- a run goes where it leads, and makes no more steps than were left
run : (s : Layout) → IsLayout s → (first : List ℕ) (ms past : Past) (p q : SetPair) → IsPairwiseOrderly s past ms → Reached s first past p → LeadsTo p ms q →
    Reached s first (onto ms past) q × (length ms + set_left q.0 ≤ set_left p.0)
unfolding onto
run s layout first [] past p q orderly reached leads =
    (subst (Reached s first past) (sym leads) reached, let same : set_left q.0 ≡ set_left p.0 = ap (λ (r : SetPair). set_left r.0) leads in omega (arith, same))
run s layout first (w ∷ ws) past p q orderly reached leads =
    let next = step_from s layout first past p reached w orderly.0 orderly.1 leads.0 leads.1 in
    let rest = run s layout first ws (w ∷ past) (advance_set p (answer_of w leads.0)) q orderly.2 next.1 leads.2 in
    let fewer = next.2 in
    let few = rest.1 in
    (rest.0, omega (arith, fewer, few))

pub onto_each : (P : List ℕ → Type 0) (ms past : Past) → OnEach P past → OnEach P ms → OnEach P (onto ms past)
unfolding onto
onto_each P [] past behind ahead = behind
onto_each P (w ∷ ws) past behind ahead = onto_each P ws (w ∷ past) (ahead.0, behind) ahead.1

pub onto_some : (P : List ℕ → Type 0) (ms past : Past) → AtSome P (onto ms past) → AtSome P past ⊎ AtSome P ms
unfolding onto
onto_some P [] past some = inl some
onto_some P (w ∷ ws) past some = elim (onto_some P ws (w ∷ past) some) [
  | inl behind ↦ elim behind [ inl here ↦ inr (inl here) | inr before ↦ inl before ]
  | inr ahead ↦ inr (inr ahead)
]

-- a run up to a moment, and that moment
pub run_split : (s : Layout) (ms past : Past) (now : List ℕ) → IsPairwiseOrderly s past (ms ++ now ∷ []) → IsPairwiseOrderly s past ms × Orderly s now × OnEach (λ v. ComesFrom s v now) (onto ms past)
unfolding onto
run_split s [] past now orderly = (tt, orderly.0, orderly.1)
run_split s (w ∷ ws) past now orderly =
    let rest = run_split s ws (w ∷ past) now orderly.2 in
    ((orderly.0, orderly.1, rest.0), rest.1, rest.2)

module _ (s : Layout) (spent : Bool) (f : Buffers) (layout : IsLayout s) (sizes : AreFoundFor s f) where
  -- a run from a fresh machine, wherever it is
  from_fresh : (first : List ℕ) (ms : Past) (q : SetPair) → IsPairwiseOrderly s [] (first ∷ ms) → LeadsTo (fresh_set s spent, f) (first ∷ ms) q →
      Reached s first (onto ms (first ∷ [])) q × (length (first ∷ ms) + set_left q.0 ≤ set_left (fresh_set s spent))
  from_fresh first ms q orderly leads =
      let begun = first_step s layout spent f sizes first orderly.0 leads.0 leads.1 in
      let rest = run s layout first ms (first ∷ []) (advance_set (fresh_set s spent, f) (answer_of first leads.0)) q orderly.2 begun.1 leads.2 in
      let fewer = begun.2 in
      let few = rest.1 in
      (rest.0, omega (arith, fewer, few))

  pub reached_from : (first : List ℕ) (ms : Past) (q : SetPair) → IsPairwiseOrderly s [] (first ∷ ms) → LeadsTo (fresh_set s spent, f) (first ∷ ms) q → Reached s first (onto ms (first ∷ [])) q
  reached_from first ms q orderly leads = (from_fresh first ms q orderly leads).0

  few_steps : (ms : Past) (q : SetPair) → IsPairwiseOrderly s [] ms → LeadsTo (fresh_set s spent, f) ms q → length ms ≤ s.slots * (s.m + 3) + s.lists + 6
  few_steps [] q orderly leads = omega arith
  few_steps (first ∷ ms) q orderly leads = let few = (from_fresh first ms q orderly leads).1 in omega (arith, few)

  -- orderly words give possible answers
  possible_next : (ms : Past) (now : List ℕ) (q : SetPair) (step : Step) → IsPairwiseOrderly s [] (ms ++ now ∷ []) → LeadsTo (fresh_set s spent, f) ms q → set_step_due q.0 ≡ Some step →
      IsPossibleInSet q (answer_of now step)
  possible_next [] now q step orderly leads e =
      let due : set_step_due (fresh_set s spent) ≡ Some step = ap (λ (r : SetPair). set_step_due r.0) (sym leads) ∙ e in
      subst (λ r. IsPossibleInSet r (answer_of now step)) (sym leads) (first_step s layout spent f sizes now orderly.0 step due).0
  possible_next (first ∷ ms) now q step orderly leads e =
      let split = run_split s ms (first ∷ []) now orderly.2 in
      let reached = reached_from first ms q (orderly.0, orderly.1, split.0) leads in
      (step_from s layout first (onto ms (first ∷ [])) q reached now split.1 split.2 step e).0

pub possible_by_events : OrderlyAnswersArePossible
possible_by_events s spent f own words events q step layout sizes orderly makes =
    possible_next s spent f layout sizes (own_moments own words events) (words_behind words events) q step (moments_to_end s own words events orderly)
    (own_leads own (fresh_set s spent, f) q words events makes)

pub steps_by_events : GetSetsMakeFewSteps
steps_by_events s spent f own words events q layout sizes orderly makes =
    few_steps s spent f layout sizes (own_moments own words events) q (moments_of s own words events orderly) (own_leads own (fresh_set s spent, f) q words events makes)
