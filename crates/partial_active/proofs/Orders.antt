-- The words of each two moments of an orderly run: the later ones come from the earlier ones.
use Rattle.partial_active.proofs.Common.{ℕ, ◌≡◌, ◌<◌, ◌⊎◌, ◌++◌, ◌==◌, Bool, true, false, if◌then◌else◌, Some, MatchBool, List, [], ◌∷◌, inl, inr, refl, sym, ◌∙◌, arith, Ranges, Step, Layout, StandsAt, answer_of, words_after, announcement_block, list_block, SetPair, set_step_due, advance_set, slot_at, head_at, IsAnnouncement, IsVacatedList, Orderly, Publishes, OnEach, AtSome, IsOrderlyEvent, AreOrderly, IsOrderlyRun, words_behind, own_moments, MakesOwn}
use Rattle.partial_words.specs.declared.step.Event.{Event}

-- the moments so far, the latest first
abbrev pub Past : Type 0
Past = List (List ℕ)

-- a slot holds what it held, was EMPTY, or is VACATED, and each block that was published stands yet
pub record ComesFrom (s : Layout) (earlier later : List ℕ) : Type 0 where
  pub slots : (slot : ℕ) → slot < s.slots → (slot_at s later slot ≡ slot_at s earlier slot) ⊎ ((slot_at s earlier slot ≡ 0) ⊎ (slot_at s later slot ≡ 1))
  pub announcements : (slot : ℕ) (named : List ℕ) → slot < s.slots → IsAnnouncement s earlier (slot_at s earlier slot) named → StandsAt later (slot_at s earlier slot) (announcement_block named)
  pub lists : (list : Ranges) → IsVacatedList s earlier (head_at s earlier) list → StandsAt later (head_at s earlier) (list_block list)

-- the words of each moment are orderly, and come from those of every earlier one
abbrev pub IsPairwiseOrderly : Layout → Past → Past → Type 0
IsPairwiseOrderly s past [] = Unit {0}
IsPairwiseOrderly s past (words ∷ more) = Orderly s words × OnEach (λ earlier. ComesFrom s earlier words) past × IsPairwiseOrderly s (words ∷ past) more

-- the machine's steps, each answered from the words of its moment, lead it from p to q
abbrev pub LeadsTo : SetPair → Past → SetPair → Type 0
LeadsTo p [] q = q ≡ p
LeadsTo p (words ∷ more) q = (step : Step) × (set_step_due p.0 ≡ Some step) × LeadsTo (advance_set p (answer_of words step)) more q

pub comes_at_once : (s : Layout) (words : List ℕ) → ComesFrom s words words
comes_at_once s words = record { slots = λ slot below. inl refl; announcements = λ slot named below there. there.stands; lists = λ list there. there.stands }

-- one event more, where the earlier moment is one of those that it keeps the blocks of
comes_on : (s : Layout) (past : Past) (earlier before after : List ℕ) → IsOrderlyEvent s past before after →
    ((at : ℕ) (block : List ℕ) → Publishes s at block earlier → AtSome (Publishes s at block) past) → ComesFrom s earlier before → ComesFrom s earlier after
comes_on s past earlier before after event within comes = record {
  slots = λ slot below. elim (event.slots slot below) [
    | inl same ↦ elim (comes.slots slot below) [
      | inl was ↦ inl (same ∙ was)
      | inr (inl empty) ↦ inr (inl empty)
      | inr (inr vacated) ↦ inr (inr (same ∙ vacated))
    ]
    | inr (inl joined) ↦ elim (comes.slots slot below) [
      | inl was ↦ inr (inl (sym was ∙ joined.0))
      | inr (inl empty) ↦ inr (inl empty)
      | inr (inr vacated) ↦ let empty = joined.0 in absurd (omega (arith, empty, vacated))
    ]
    | inr (inr left) ↦ inr (inr left.1)
  ];
  announcements = λ slot named below there.
      event.blocks (slot_at s earlier slot) (announcement_block named) (within (slot_at s earlier slot) (announcement_block named) (inl (slot, named, below, refl, there, refl)))
      (comes.announcements slot named below there);
  lists = λ list there.
      event.blocks (head_at s earlier) (list_block list) (within (head_at s earlier) (list_block list) (inr (list, refl, there, refl))) (comes.lists list there);
}

each_comes_on : (s : Layout) (all past : Past) (before after : List ℕ) → IsOrderlyEvent s all before after →
    ((at : ℕ) (block : List ℕ) → AtSome (Publishes s at block) past → AtSome (Publishes s at block) all) → OnEach (λ v. ComesFrom s v before) past → OnEach (λ v. ComesFrom s v after) past
each_comes_on s all [] before after event within comes = tt
each_comes_on s all (w ∷ ws) before after event within comes = (
  comes_on s all w before after event (λ at block h. within at block (inl h)) comes.0,
  each_comes_on s all ws before after event (λ at block h. within at block (inr h)) comes.1,
)

-- the words after an event come from those of every moment so far
event_comes : (s : Layout) (past : Past) (before after : List ℕ) → IsOrderlyEvent s (before ∷ past) before after → OnEach (λ v. ComesFrom s v before) past →
    OnEach (λ v. ComesFrom s v after) (before ∷ past)
event_comes s past before after event comes = each_comes_on s (before ∷ past) (before ∷ past) before after event (λ at block h. h) (comes_at_once s before, comes)

-- the moments of one port and the one after the events are so in pairs; fewer moments are after them than after the events
own_orderly : (s : Layout) (own : ℕ) (all past : Past) (words : List ℕ) (es : List Event) → ((w : List ℕ) → OnEach (λ v. ComesFrom s v w) all → OnEach (λ v. ComesFrom s v w) past) →
    Orderly s words → OnEach (λ v. ComesFrom s v words) all → AreOrderly s all words es → IsPairwiseOrderly s past (own_moments own words es ++ words_behind words es ∷ [])
own_orderly s own all past words [] fewer orderly comes run = (orderly, fewer words comes, tt)
own_orderly s own all past words (e ∷ es) fewer orderly comes run =
    let next = words_after words e.step in
    let behind = event_comes s all words next run.0 comes in
    elim (e.port == own) as (λ b. IsPairwiseOrderly s past ((if b then words ∷ own_moments own next es else own_moments own next es) ++ words_behind next es ∷ [])) [
      | true ↦ (orderly, fewer words comes, own_orderly s own (words ∷ all) (words ∷ past) next es (λ w h. (h.0, fewer w h.1)) run.0.orderly behind run.1)
      | false ↦ own_orderly s own (words ∷ all) past next es (λ w h. fewer w h.1) run.0.orderly behind run.1
    ]

-- the front of moments that are so is so
pub run_front : (s : Layout) (past ms more : Past) → IsPairwiseOrderly s past (ms ++ more) → IsPairwiseOrderly s past ms
run_front s past [] more run = tt
run_front s past (w ∷ ws) more run = (run.0, run.1, run_front s (w ∷ past) ws more run.2)

-- the moments of one port in an orderly run, and the one after the run
pub moments_to_end : (s : Layout) (own : ℕ) (words : List ℕ) (es : List Event) → IsOrderlyRun s words es → IsPairwiseOrderly s [] (own_moments own words es ++ words_behind words es ∷ [])
moments_to_end s own words es run = own_orderly s own [] [] words es (λ w h. h) run.0 tt run.1

pub moments_of : (s : Layout) (own : ℕ) (words : List ℕ) (es : List Event) → IsOrderlyRun s words es → IsPairwiseOrderly s [] (own_moments own words es)
moments_of s own words es run = run_front s [] (own_moments own words es) (words_behind words es ∷ []) (moments_to_end s own words es run)

-- the port's events lead the machine through the moments before them
pub own_leads : (own : ℕ) (p q : SetPair) (words : List ℕ) (es : List Event) → MakesOwn own p words es q → LeadsTo p (own_moments own words es) q
own_leads own p q words [] makes = makes
own_leads own p q words (e ∷ es) makes =
    let after = words_after words e.step in
    let rest = own_moments own after es in
    let Mine : Type 0 = (set_step_due p.0 ≡ Some e.step) × MakesOwn own (advance_set p (answer_of words e.step)) after es q in
    let Other : Type 0 = MakesOwn own p after es q in
    let by_port : (b : Bool) → MatchBool b Mine Other → LeadsTo p (if b then words ∷ rest else rest) q
    = λ b. elim b as (λ b. MatchBool b Mine Other → LeadsTo p (if b then words ∷ rest else rest) q) [
      | true ↦ λ h. (e.step, h.0, own_leads own (advance_set p (answer_of words e.step)) q after es h.1)
      | false ↦ λ h. own_leads own p q after es h
    ] in
    by_port (e.port == own) makes
