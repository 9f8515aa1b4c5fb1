-- The loads of a call are allowed.
use Rattle.partial_long_lived.proofs.{Common.{IsFinding, ℕ, ◌≡◌, ◌+◌, ◌<◌, Bool, List, slice_index, slice_set, refl, sym, ap, subst, ◌∙◌, arith, Me, Allows, Noted, Plan, base, Port, Stands, Beside, site_now, LawfulMemory, Reckons, Reckoning, About, IsRuleKept, IsSeat, SeatedPort, one_of, plan_of, IsSeatKnown, IsOne, tells, Recalls, SeatSees, Wish, MayNoteScan, NotesScan, notes_scan, IsSince, FindsSet, eqb_tells, inl, inr}, Control.{by_rest, load_same, moved_quietly}, Kept.{Moved, allowed}, Loads.{moved_note, moved_see, recalled, seat_is}}

-- nothing has changed
pub nothing_moved : (a : About) (words words' : List ℕ) (ports : ℕ → Port) (notes : ℕ → List Noted) (b : Beside) (reckoned : Reckoning) (w : LawfulMemory (plan_of a) words ports b notes) →
    Reckons (plan_of a) words ports (site_now b) reckoned → (x : SeatedPort) → IsSeat a words ports notes b reckoned x → x.about ≡ a → IsSeatKnown x → (ports x.number).control.entering ≡ Stands →
    words' ≡ words →
    (P : SeatedPort → Type 0) → P x → Moved a words words' ports notes b reckoned x P
nothing_moved a words words' ports notes b reckoned w time x s own known stands same P says =
    moved_quietly a words words' ports notes b reckoned x w s known (λ p. p) (record { part = λ p. refl; before = λ p. refl; here = λ p. refl; passed = λ p. omega arith }) x.began s.began
    (by_rest a words ports notes b reckoned w time x.number s.number x.began words' (sym same) (ports x.number) refl (subst (λ (p : Port). IsSince x.began p.control.entering (reckoned.since x.number)) s.port s.entering))
    P says

module _ {S : Type 0} (a : About) (slots id : ℕ) (me : Me S (List SeatedPort)) (one : IsOne me) (own : (one_of me.0).about ≡ a) (known : IsSeatKnown (one_of me.0)) (stands : (one_of me.0).port.control.entering ≡ Stands) where
  abbrev x : SeatedPort
  x = one_of me.0

  abbrev e : Plan
  e = plan_of a

  -- a load of a component word
  pub may_see : (first : Bool) (wish : Wish) (j : ℕ) → j < a.sizes.m → (IsFinding wish → j < x.port.passed) →
      Allows (IsRuleKept a) slots id me (base e x.port.control.here.arena + j) (λ n. n) (tells (SeatSees first wish j) me)
  may_see first wish j inside finds = allowed a slots id me (base e x.port.control.here.arena + j) (λ n. n) (SeatSees first wish j) one own (λ words ports notes b reckoned w time s small.
      let same = seat_is a ports notes b reckoned x s in
      let P : SeatedPort → Type 0 = λ z. Moved a words (slice_set words (base e z.port.control.here.arena + j) (slice_index words (base e z.port.control.here.arena + j))) ports notes b reckoned z
      (SeatSees first wish j z (slice_index words (base e z.port.control.here.arena + j))) in
      subst P (sym same) (moved_see a words ports notes b reckoned w time x.number s.number x.began x.found x.contention (ap (λ (p : Port). p.control.entering) (sym s.port) ∙ stands)
      (subst (IsSeat a words ports notes b reckoned) same s) (subst IsSeatKnown same known) j inside first wish (λ is. subst (λ (p : Port). j < p.passed) s.port (finds is))))

  -- a load of a word that is final
  pub may_recall : (i : ℕ) → Allows (IsRuleKept a) slots id me i (λ n. n) (tells (Recalls i) me)
  may_recall i = allowed a slots id me i (λ n. n) (Recalls i) one own (λ words ports notes b reckoned w time s small.
      let k : ℕ = x.number in
      let n : ℕ = slice_index words i in
      let same = seat_is a ports notes b reckoned x s in
      let stands' = ap (λ (p : Port). p.control.entering) (sym s.port) ∙ stands in
      nothing_moved a words (slice_set words i n) ports notes b reckoned w time x s own known stands' (sym (load_same words i)) (Recalls i x n)
      (subst (λ (z : SeatedPort). Recalls i z n z) (sym same) (recalled a words ports notes b reckoned w time k s.number x.began x.found x.contention stands' i)))

  -- so is one by which the port notes a scan by a double collect
  pub may_note : (js : List ℕ) (m : ℕ) → MayNoteScan js m x → (i : ℕ) → Allows (IsRuleKept a) slots id me i (λ n. n) (notes_scan js m i me)
  may_note js m may i = allowed a slots id me i (λ n. n) (NotesScan js m i) one own (λ words ports notes b reckoned w time s small.
      let same = seat_is a ports notes b reckoned x s in
      let P : SeatedPort → Type 0 = λ z. Moved a words (slice_set words i (slice_index words i)) ports notes b reckoned z (NotesScan js m i z (slice_index words i)) in
      subst P (sym same) (moved_note a words ports notes b reckoned w time x.number s.number x.began x.found x.contention (ap (λ (p : Port). p.control.entering) (sym s.port) ∙ stands)
      (subst (IsSeat a words ports notes b reckoned) same s) (subst IsSeatKnown same known) js m (subst (MayNoteScan js m) same may) i))

  -- one that shows nothing
  may_rest : (i : ℕ) → Allows (IsRuleKept a) slots id me i (λ n. n) (tells (λ x n y. y ≡ x) me)
  may_rest i = allowed a slots id me i (λ n. n) (λ x n y. y ≡ x) one own (λ words ports notes b reckoned w time s small.
      nothing_moved a words (slice_set words i (slice_index words i)) ports notes b reckoned w time x s own known (ap (λ (p : Port). p.control.entering) (sym s.port) ∙ stands) (sym (load_same words i))
      (λ y. y ≡ x) refl)

  -- one of a word that is to be set to v: the step that sets it, where it is v already
  pub may_find_set : (v i : ℕ) (R : SeatedPort → ℕ → SeatedPort → Type 0) → Allows (IsRuleKept a) slots id me i (λ n. v) (tells R me) →
      Allows (IsRuleKept a) slots id me i (λ n. n) (tells (FindsSet v R) me)
  may_find_set v i R sets table kept homes at small = elim (eqb_tells (slice_index table.words i) v) [
    | inl same ↦ let to = subst (λ u. Allows (IsRuleKept a) slots id me i (λ n. u) (tells R me)) (sym same.1) sets table kept homes at small in
        let says = to.4 in
        (to.0, to.1, to.2, to.3, (says.0, says.1, inl (same.1, says.2)))
    | inr other ↦ let to = may_rest i table kept homes at small in
        let says = to.4 in
        (to.0, to.1, to.2, to.3, (says.0, says.1, inr (other.1, says.2)))
  ]
