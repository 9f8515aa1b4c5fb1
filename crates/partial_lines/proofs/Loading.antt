-- A load of an embedded scan, of a component word or of another one.
use Rattle.partial_lines.proofs.{Common.{ℕ, ◌≡◌, ◌∙◌, refl, sym, ap, subst, Some, Result, Ok, Err, IfOk, IfErr, Stage, Step, Load, Scanning, Viewing, ClaimingRecord, Leaving, CoreState, advance, scan_step, scanning, positions_at, is_sound_at, IsScanStage}, Parts.{Scanned, none_some, scan_on, scan_possible}}
use Rattle.partial_embedded.specs.Embedded.{IsPossibleInView, advance_view}
use Rattle.partial_lines.specs.Lines.{ScansOn, scans_itself}
use Rattle.partial_machine.specs.Possible.{IsPossible}

-- the embedded scan was made for the sizes of its machine
pub scan_sizes : (s : CoreState) (t : Stage) (step : Step) → IsScanStage s t → scan_step s (positions_at s t) ≡ Some step → is_sound_at s t → s.embedded.sizes ≡ s.sizes
scan_sizes s Scanning step w due sound = sound.1
scan_sizes s (Viewing c old) step w due sound = sound.2
scan_sizes s Leaving step w due sound = absurd (none_some (sym w ∙ due))
scan_sizes s (ClaimingRecord c old) step w due sound = absurd (none_some (sym w ∙ due))
scan_sizes s _ step w due sound = absurd w

-- The load was made, and has led from one machine to the other; or the call was broken off.
module _ {A : Type 0} (here there : CoreState) (word : ℕ) (stage : IsScanStage here here.stage) (due : scan_step here (positions_at here here.stage) ≡ Some (Load word)) where
  pub still_scans : (r : Result ℕ A) → IfOk r (λ answer. there ≡ advance here answer) → IfErr r (λ _. there ≡ here) → IsScanStage there there.stage
  still_scans (Ok answer) to stays = (scan_on here there here.stage (Load word) answer refl stage due to).stage
  still_scans (Err _) to stays = subst (λ (s : CoreState). IsScanStage s s.stage) (sym stays) stage

  pub may_answer : (r : Result ℕ A) → IfOk r (λ answer. IsPossible here answer) → IfOk r (λ answer. IsPossibleInView (scanning here) answer)
  may_answer (Ok answer) possible = scan_possible here here.stage (Load word) answer refl stage due possible
  may_answer (Err _) possible = tt

  pub scan_goes_on : (r : Result ℕ A) → IfOk r (λ answer. there ≡ advance here answer) →
      IfOk r (λ answer. scanning there ≡ advance_view (positions_at here here.stage) (scanning here) answer)
  scan_goes_on (Ok answer) to = (scan_on here there here.stage (Load word) answer refl stage due to).scan
  scan_goes_on (Err _) to = tt

  pub scan_stays : (r : Result ℕ A) → IfErr r (λ _. there ≡ here) → IfErr r (λ _. scanning there ≡ scanning here)
  scan_stays (Ok _) stays = tt
  scan_stays (Err _) stays = ap scanning stays

  pub same_positions : (r : Result ℕ A) → IfOk r (λ answer. there ≡ advance here answer) → IfErr r (λ _. there ≡ here) →
      positions_at there there.stage ≡ positions_at here here.stage
  same_positions (Ok answer) to stays = (scan_on here there here.stage (Load word) answer refl stage due to).positions
  same_positions (Err _) to stays = ap (λ (s : CoreState). positions_at s s.stage) stays

  pub scans_forth : (r : Result ℕ A) → IfOk r (λ answer. there ≡ advance here answer) → IfErr r (λ _. there ≡ here) → ScansOn here there
  scans_forth (Ok answer) to stays =
      let on : Scanned here there answer = scan_on here there here.stage (Load word) answer refl stage due to in
      record { rest = on.rest; stage = on.after }
  scans_forth (Err _) to stays = subst (ScansOn here) (sym stays) (scans_itself here)
