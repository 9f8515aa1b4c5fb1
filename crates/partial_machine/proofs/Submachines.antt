-- The machine after an answer to one of the machines in it, as the code makes it.
use Rattle.partial_machine.proofs.{Common.{ℕ, ◌≡◌, ◌<◌, ◌==◌, true, false, if◌then◌else◌, List, length, Option, Some, None, refl, sym, ◌∙◌, ap, subst, false≢true, option_map_or, is_some, Step, answer_of, Change, Stage, IsPossible, IsPossibleAt, MayPerform, IsMachine, steps_left}, Sound.{machine_on, fewer_on}}
use Rattle.partial_model.proofs.ListLemmas.{some_same}
use Rattle.partial_active.specs.GetSet as finding
use Rattle.partial_active.specs.GetSetAnswers as finding_answers
use Rattle.partial_embedded.specs.Embedded as viewing
use Rattle.partial_machine.specs.declared.stage.Stage.TheVariants.{GettingSet, Viewing, ClaimingRecord, Scanning, Leaving}
use Rattle.std.specs.Prelude.{slice_index}
use Rattle.partial_words.specs.declared.step.Step.TheVariants.{Load}
use Rattle.partial_machine.specs.Machine.{CoreState, getting, scanning, with_getting, with_scanning, after_getting, after_scanning, advance, advance_at, step_at, step_of}

-- where a step is due the machine goes on, and else it has reached the next stage
goes_on : {A B : Type 0} (o : Option A) (x y : B) → is_some o ≡ true → x ≡ option_map_or (λ _. x) o y
goes_on None x y due = absurd (false≢true due)
goes_on (Some a) x y due = refl

comes_to : {A B : Type 0} (o : Option A) (x y : B) → is_some o ≡ false → y ≡ option_map_or (λ _. x) o y
comes_to None x y done = refl
comes_to (Some a) x y done = absurd (false≢true (sym done))

-- what is performed has a possible answer
pub possible_from : (s : CoreState) (words : List ℕ) (step : Step) (x : ℕ) → MayPerform s words → step_of s ≡ Some step → x ≡ answer_of words step → IsPossible s x
possible_from s words step x may due is = subst (IsPossible s) (ap (answer_of words) (some_same (sym may.due ∙ due)) ∙ sym is) may.possible

-- the same where the stage is known
pub possible_at : (s : CoreState) (u : Stage) (words : List ℕ) (step : Step) (x : ℕ) → s.stage ≡ u → MayPerform s words → step_at s u ≡ Some step → x ≡ answer_of words step → IsPossibleAt s u x
possible_at s u words step x stage may due is = subst (λ t. IsPossibleAt s t x) stage (possible_from s words step x may (ap (step_at s) stage ∙ due) is)

-- it leaves fewer steps
pub performs_fewer : (s q : CoreState) (room : ℕ) (words : List ℕ) (step : Step) (x : ℕ) → IsMachine s room → MayPerform s words → step_of s ≡ Some step → x ≡ answer_of words step → q ≡ advance s x →
    steps_left q < steps_left s
performs_fewer s q room words step x w may due answer is = fewer_on s q room x s.stage w refl (possible_from s words step x may due answer) is

-- the load of a slot leaves fewer steps
pub set_fewer : (t s q : CoreState) (room : ℕ) (words : List ℕ) (w x : ℕ) (c : Change) (old : ℕ) → t ≡ s → IsMachine t room → MayPerform s words → t.stage ≡ GettingSet c old →
    finding.set_step_due t.get_set ≡ Some (Load w) → x ≡ slice_index words w → q ≡ advance_at t (GettingSet c old) x → steps_left q < steps_left s
set_fewer t s q room words w x c old same machine may stage due is led =
    subst (λ (r : CoreState). steps_left q < steps_left r) same
    (performs_fewer t q room words (Load w) x machine (subst (λ (r : CoreState). MayPerform r words) (sym same) may) (ap (step_at t) stage ∙ due) is
    (led ∙ sym (ap (λ (u : Stage). advance_at t u x) stage)))

module _ (s : CoreState) (room x : ℕ) (w : IsMachine s room) where
  pub got_more_is : (c : Change) (old : ℕ) (p : finding.SetPair) → p ≡ finding.advance_set (getting s) x → is_some (finding.set_step_due p.0) ≡ true →
      with_getting s p ≡ advance_at s (GettingSet c old) x
  got_more_is c old p is due =
      let on : with_getting s p ≡ after_getting (with_getting s p) c old = goes_on (finding.set_step_due p.0) (with_getting s p) _ due in
      on ∙ ap (λ q. after_getting (with_getting s q) c old) is

  pub got_more : (c : Change) (old : ℕ) (p : finding.SetPair) → s.stage ≡ GettingSet c old → finding_answers.IsPossibleInSet (getting s) x → p ≡ finding.advance_set (getting s) x →
      is_some (finding.set_step_due p.0) ≡ true → IsMachine (with_getting s p) room
  got_more c old p stage possible is due = machine_on s (with_getting s p) room x (GettingSet c old) w stage possible (got_more_is c old p is due)

  pub got_all_is : (c : Change) (old : ℕ) (p : finding.SetPair) (v : viewing.EmbeddedState) (u : Stage) → p ≡ finding.advance_set (getting s) x → is_some (finding.set_step_due p.0) ≡ false →
      v ≡ viewing.fresh_view s.sizes true → u ≡ (if length p.1.indices == 0 then ClaimingRecord c old else Viewing c old) →
      record (with_getting s p) { embedded = v; stage = u } ≡ advance_at s (GettingSet c old) x
  got_all_is c old p v u is done fresh next =
      let q : CoreState = record (with_getting s p) { embedded = v; stage = u } in
      let same : q ≡ record (with_getting s p) { embedded = viewing.fresh_view s.sizes true; stage = (if length p.1.indices == 0 then ClaimingRecord c old else Viewing c old) } =
      ap (λ e. record (with_getting s p) { embedded = e; stage = u }) fresh ∙ ap (λ t. record (with_getting s p) { embedded = viewing.fresh_view s.sizes true; stage = t }) next in
      let on : q ≡ after_getting (with_getting s p) c old = same ∙ comes_to (finding.set_step_due p.0) (with_getting s p) _ done in
      on ∙ ap (λ r. after_getting (with_getting s r) c old) is

  pub got_all : (c : Change) (old : ℕ) (p : finding.SetPair) (v : viewing.EmbeddedState) (u : Stage) → s.stage ≡ GettingSet c old → finding_answers.IsPossibleInSet (getting s) x →
      p ≡ finding.advance_set (getting s) x → is_some (finding.set_step_due p.0) ≡ false → v ≡ viewing.fresh_view s.sizes true →
      u ≡ (if length p.1.indices == 0 then ClaimingRecord c old else Viewing c old) →
      IsMachine (record (with_getting s p) { embedded = v; stage = u }) room
  got_all c old p v u stage possible is done fresh next =
      machine_on s (record (with_getting s p) { embedded = v; stage = u }) room x (GettingSet c old) w stage possible (got_all_is c old p v u is done fresh next)

  pub viewed_more : (c : Change) (old : ℕ) (p : viewing.ViewPair) → s.stage ≡ Viewing c old → viewing.IsPossibleInView (scanning s) x → p ≡ viewing.advance_view s.found.indices (scanning s) x →
      is_some (viewing.view_step_due s.found.indices p) ≡ true → IsMachine (with_scanning s p) room
  viewed_more c old p stage possible is due =
      let on : with_scanning s p ≡ after_scanning (with_scanning s p) s.found.indices (ClaimingRecord c old) = goes_on (viewing.view_step_due s.found.indices p) (with_scanning s p) _ due in
      machine_on s (with_scanning s p) room x (Viewing c old) w stage possible (on ∙ ap (λ q. after_scanning (with_scanning s q) s.found.indices (ClaimingRecord c old)) is)

  pub scanned_more : (p : viewing.ViewPair) → s.stage ≡ Scanning → viewing.IsPossibleInView (scanning s) x → p ≡ viewing.advance_view s.asked (scanning s) x →
      is_some (viewing.view_step_due s.asked p) ≡ true →
      IsMachine (with_scanning s p) room
  scanned_more p stage possible is due =
      let on : with_scanning s p ≡ after_scanning (with_scanning s p) s.asked Leaving = goes_on (viewing.view_step_due s.asked p) (with_scanning s p) _ due in
      machine_on s (with_scanning s p) room x Scanning w stage possible (on ∙ ap (λ q. after_scanning (with_scanning s q) s.asked Leaving) is)
