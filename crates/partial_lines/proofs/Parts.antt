-- The getSet and the embedded scan of a call in straight lines: where an answer leads its machine.
use Rattle.partial_lines.proofs.Common.{ℕ, ◌≡◌, ◌==◌, if◌then◌else◌, length, Option, Some, None, true, refl, sym, ap, subst, ◌∙◌, IsSome, false≢true, Stage, GettingSet, Viewing, ClaimingRecord, Scanning, Leaving, scan_begun, scan_step, set_begun, set_step, CoreState, advance, at_stage, getting, scanning, step_at, step_of, with_getting, with_scanning, IsSound, is_sound_at, GetsOn, IsScanStage, IsViewing, behind_scan, positions_at, set_kept, set_made, option_map_or, is_some, Change}
use Rattle.partial_words.specs.declared.step.Step.{Step}
use Rattle.partial_active.specs.GetSet as finding
use Rattle.partial_embedded.specs.Embedded as viewing
use Rattle.partial_embedded.specs.declared.embedded.Stage as viewed
use Rattle.partial_embedded.specs.declared.embedded.Stage.TheVariants.{Done}
use Rattle.partial_machine.specs.Possible.{IsPossible, IsPossibleAt}

-- what a getSet leaves that is over
module _ (s : CoreState) (c : Change) (old : ℕ) where
  pub set_over : set_step s ≡ None → set_made s c old ≡ at_stage (scan_begun s true) (if length s.found.indices == 0 then ClaimingRecord c old else Viewing c old)
  set_over over = ap (λ (o : Option Step). option_map_or (λ _. at_stage s (GettingSet c old)) o
      (at_stage (scan_begun s true) (if length s.found.indices == 0 then ClaimingRecord c old else Viewing c old))) over

  pub set_under_way : (step : Step) → set_step s ≡ Some step → set_made s c old ≡ at_stage s (GettingSet c old)
  set_under_way step due = ap (λ (o : Option Step). option_map_or (λ _. at_stage s (GettingSet c old)) o
      (at_stage (scan_begun s true) (if length s.found.indices == 0 then ClaimingRecord c old else Viewing c old))) due

  -- made so twice, it is as made so once
  pub set_twice : set_made (set_made s c old) c old ≡ set_made s c old
  set_twice = by_step (set_step s) refl
    where
      made : Option Step → CoreState
      made o = option_map_or (λ _. at_stage s (GettingSet c old)) o (at_stage (scan_begun s true) (if length s.found.indices == 0 then ClaimingRecord c old else Viewing c old))

      by_step : (o : Option Step) → set_step s ≡ o → set_made (made o) c old ≡ made o
      by_step (Some u) e = ap made e
      by_step None e =
          let over = made None in
          ap (λ (o : Option Step). option_map_or (λ _. at_stage over (GettingSet c old)) o over) e

-- a step of the getSet is due
module _ (s t : CoreState) (c : Change) (old : ℕ) (step : Step) (from : s ≡ set_made t c old) (due : set_step s ≡ Some step) where
  pub set_now : s ≡ at_stage t (GettingSet c old)
  set_now = from ∙ set_under_way t c old step (ap (λ (p : finding.SetPair). finding.set_step_due p.0) (sym (ap getting from ∙ set_kept t c old)) ∙ due)

  -- its answer changes the getSet and what it has found alone, until it is over
  module _ (d : CoreState) (a : ℕ) (thereafter : d ≡ advance s a) where
    abbrev next : CoreState
    next = with_getting t (finding.advance_set (getting t) a)

    led : d ≡ set_made next c old
    led = thereafter ∙ ap (λ (u : CoreState). advance u a) set_now

    pub set_goes : d ≡ set_made d c old
    set_goes = led ∙ sym (ap (λ (u : CoreState). set_made u c old) led ∙ set_twice next c old)

    pub set_follows : d ≡ set_made (with_getting t (getting d)) c old
    set_follows = led ∙ ap (λ (p : finding.SetPair). set_made (with_getting t p) c old) (sym (ap getting led ∙ set_kept next c old))

-- Where the call has come by its getSet, made to its end: to the record's claim where nothing was found, or else to the embedded scan.
pub set_ended : (core : CoreState) (c : Change) (old : ℕ) (x y : CoreState) (p : finding.SetPair) → x ≡ set_made (set_begun core) c old → GetsOn x y → getting y ≡ p →
    finding.set_step_due p.0 ≡ None →
    y ≡ at_stage (scan_begun (with_getting core p) true) (if length p.1.indices == 0 then ClaimingRecord c old else Viewing c old)
set_ended core c old x y p begun on at over =
    on c old (set_begun core) begun ∙ ap (λ (q : finding.SetPair). set_made (with_getting core q) c old) at ∙ set_over (with_getting core p) c old over

pub none_some : {A : Type 0} {x : A} → None ≡ Some x → ⊥
none_some {A} e = false≢true (ap is_some e)

-- a step of the embedded scan is due, so that it is the machine's
pub scan_due : (s : CoreState) (t : Stage) (step : Step) → s.stage ≡ t → IsScanStage s t → scan_step s (positions_at s t) ≡ Some step → step_of s ≡ Some step
scan_due s Scanning step e w due = ap (step_at s) e ∙ due
scan_due s (Viewing c old) step e w due = ap (step_at s) e ∙ due
scan_due s Leaving step e w due = absurd (none_some (sym w ∙ due))
scan_due s (ClaimingRecord c old) step e w due = absurd (none_some (sym w ∙ due))
scan_due s _ step e w due = absurd w

-- what may answer it
pub scan_possible : (s : CoreState) (t : Stage) (step : Step) (a : ℕ) → s.stage ≡ t → IsScanStage s t → scan_step s (positions_at s t) ≡ Some step → IsPossible s a →
    viewing.IsPossibleInView (scanning s) a
scan_possible s Scanning step a e w due possible = subst (λ (t : Stage). IsPossibleAt s t a) e possible
scan_possible s (Viewing c old) step a e w due possible = subst (λ (t : Stage). IsPossibleAt s t a) e possible
scan_possible s Leaving step a e w due possible = absurd (none_some (sym w ∙ due))
scan_possible s (ClaimingRecord c old) step a e w due possible = absurd (none_some (sym w ∙ due))
scan_possible s _ step a e w due possible = absurd w

-- where that answer leads the machine: nothing changes but the embedded scan, its rows and the stage
pub record Scanned (s d : CoreState) (a : ℕ) : Type 0 where
  pub scan : scanning d ≡ viewing.advance_view (positions_at s s.stage) (scanning s) a
  pub positions : positions_at d d.stage ≡ positions_at s s.stage
  pub rest : d ≡ at_stage (with_scanning s (scanning d)) d.stage
  pub after : behind_scan d.stage ≡ behind_scan s.stage
  pub stage : IsScanStage d d.stage

module _ (s : CoreState) (a : ℕ) where
  asked_on : (d : CoreState) → d ≡ advance (at_stage s Scanning) a → Scanned (at_stage s Scanning) d a
  asked_on d thereafter = by_step (scan_step q s.asked) refl
    where
      q : CoreState
      q = with_scanning (at_stage s Scanning) (viewing.advance_view s.asked (scanning s) a)

      by_step : (o : Option Step) → scan_step q s.asked ≡ o → Scanned (at_stage s Scanning) d a
      by_step (Some u) e =
          let is : d ≡ q = thereafter ∙ ap (λ (o : Option Step). option_map_or (λ _. q) o (at_stage q Leaving)) e in
          subst (λ (f : CoreState). Scanned (at_stage s Scanning) f a) (sym is) (record { scan = refl; positions = refl; rest = refl; after = refl; stage = subst IsSome (sym e) refl })
      by_step None e =
          let is : d ≡ at_stage q Leaving = thereafter ∙ ap (λ (o : Option Step). option_map_or (λ _. q) o (at_stage q Leaving)) e in
          subst (λ (f : CoreState). Scanned (at_stage s Scanning) f a) (sym is) (record { scan = refl; positions = refl; rest = refl; after = refl; stage = e })

  found_on : (c : Change) (old : ℕ) (d : CoreState) → d ≡ advance (at_stage s (Viewing c old)) a → Scanned (at_stage s (Viewing c old)) d a
  found_on c old d thereafter = by_step (scan_step q s.found.indices) refl
    where
      q : CoreState
      q = with_scanning (at_stage s (Viewing c old)) (viewing.advance_view s.found.indices (scanning s) a)

      by_step : (o : Option Step) → scan_step q s.found.indices ≡ o → Scanned (at_stage s (Viewing c old)) d a
      by_step (Some u) e =
          let is : d ≡ q = thereafter ∙ ap (λ (o : Option Step). option_map_or (λ _. q) o (at_stage q (ClaimingRecord c old))) e in
          subst (λ (f : CoreState). Scanned (at_stage s (Viewing c old)) f a) (sym is) (record { scan = refl; positions = refl; rest = refl; after = refl; stage = subst IsSome (sym e) refl })
      by_step None e =
          let is : d ≡ at_stage q (ClaimingRecord c old) = thereafter ∙ ap (λ (o : Option Step). option_map_or (λ _. q) o (at_stage q (ClaimingRecord c old))) e in
          subst (λ (f : CoreState). Scanned (at_stage s (Viewing c old)) f a) (sym is) (record { scan = refl; positions = refl; rest = refl; after = refl; stage = e })

pub scan_on : (s d : CoreState) (t : Stage) (step : Step) (a : ℕ) → s.stage ≡ t → IsScanStage s t → scan_step s (positions_at s t) ≡ Some step → d ≡ advance s a → Scanned s d a
scan_on s d Scanning step a e w due thereafter =
    let at : s ≡ at_stage s Scanning = ap (at_stage s) e in
    subst (λ (f : CoreState). Scanned f d a) (sym at) (asked_on s a d (thereafter ∙ ap (λ (f : CoreState). advance f a) at))
scan_on s d (Viewing c old) step a e w due thereafter =
    let at : s ≡ at_stage s (Viewing c old) = ap (at_stage s) e in
    subst (λ (f : CoreState). Scanned f d a) (sym at) (found_on s a c old d (thereafter ∙ ap (λ (f : CoreState). advance f a) at))
scan_on s d Leaving step a e w due thereafter = absurd (none_some (sym w ∙ due))
scan_on s d (ClaimingRecord c old) step a e w due thereafter = absurd (none_some (sym w ∙ due))
scan_on s d _ step a e w due thereafter = absurd w

-- a sound machine is at an embedded scan of which a step is due
pub record AtScan (s : CoreState) (t : Stage) : Type 0 where
  pub together : viewing.ViewGoesTogether (positions_at s t) (scanning s)
  pub sizes : s.embedded.sizes ≡ s.sizes
  pub stage : IsScanStage s t

pub at_asked : (s : CoreState) → IsSound s → s.stage ≡ Scanning → AtScan s Scanning
at_asked s w e = let h = subst (is_sound_at s) e w.stage in record { together = h.0; sizes = h.1; stage = h.2 }

pub at_found : (s : CoreState) (t : Stage) → IsSound s → s.stage ≡ t → IsViewing t → AtScan s t × (positions_at s t ≡ s.found.indices)
at_found s (Viewing c old) w e at = let h = subst (is_sound_at s) e w.stage in (record { together = h.1; sizes = h.2; stage = h.3 }, refl)
at_found s _ w e at = absurd at

-- where it is finished, the call has reached the stage after it
pub scan_over : (s : CoreState) (t : Stage) → s.stage ≡ t → IsScanStage s t → s.embedded.stage ≡ Done → s.stage ≡ behind_scan s.stage
scan_over s Leaving e w done = e ∙ sym (ap behind_scan e)
scan_over s (ClaimingRecord c old) e w done = e ∙ sym (ap behind_scan e)
scan_over s Scanning e w done = absurd (false≢true (sym (ap (λ (u : viewed.Stage). is_some (viewing.view_step_at s.embedded.sizes s.asked s.rows.last u)) done) ∙ w))
scan_over s (Viewing c old) e w done = absurd (false≢true (sym (ap (λ (u : viewed.Stage). is_some (viewing.view_step_at s.embedded.sizes s.found.indices s.rows.last u)) done) ∙ w))
scan_over s _ e w done = absurd w

pub scan_made : (g d : CoreState) (p : viewing.ViewPair) → d ≡ at_stage (with_scanning g (scanning d)) d.stage → scanning d ≡ p → d.stage ≡ behind_scan d.stage →
    behind_scan d.stage ≡ behind_scan g.stage → d ≡ at_stage (with_scanning g p) (behind_scan g.stage)
scan_made g d p rest at over after =
    rest
    ∙ ap (λ (u : Stage). at_stage (with_scanning g (scanning d)) u) (over ∙ after)
    ∙ ap (λ (q : viewing.ViewPair). at_stage (with_scanning g q) (behind_scan g.stage)) at
