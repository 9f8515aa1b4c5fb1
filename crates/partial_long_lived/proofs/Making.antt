-- The steps of the machine of a seat's port are allowed.
use Rattle.partial_long_lived.proofs.{Common.{ℕ, ◌≡◌, ◌+◌, ◌<◌, ◌≤◌, Bool, false, if◌then◌else◌, List, length, slice_index, slice_set, refl, sym, ap, subst, ◌∙◌, inl, inr, arith, ◌⊎◌, set-get_or, Me, Allows, Step, Load, Store, Exchange, word_of, CoreState, IsSealed, Site, Plan, base, component_words, HaveSlots, MeetsSeal, unsealed_is_present, at_of, eqb_tells, About, IsRuleKept, IsSeat, SeatedPort, one_of, plan_of, IsSeatKnown, IsOne, tells, seal, unsealed, cases_lt, lt-ltb, Glances, Exchanges, FindsZero, IsApart, SeatMakes, MayMake, MissesSeal, unsealed_answer, change_of, makes}, Sights.nothing_moved, Kept.{Moved, allowed, moved_as, moved_says, moved_sealed}, Loads.{moved_see, seat_at, seat_is}, Machine.{moved_come, moved_make, never_met, words_then, made_or_met}}
use Rattle.partial_long_lived.specs.Inner.Machine.{SeatBegins as BeginsUpdate}

-- a word is the record old, sealed, or it isn't
seal_cases : (old n : ℕ) → (IsSealed n × unsealed n ≡ old) ⊎ MissesSeal old n
seal_cases old n = elim (cases_lt n seal) [
  | inl less ↦ inr (inl less)
  | inr from ↦ (elim (eqb_tells (unsealed n) old) [
    | inl same ↦ inl (from, same.1)
    | inr other ↦ inr (inr other.1)
  ])
]

-- an exchange leaves such a word as it is
stays_sealed : (step : Step) (j old new n : ℕ) → step ≡ Exchange j old new → IsSealed n → unsealed n ≡ old → change_of step n ≡ n
stays_sealed step j old new n is sealed same = ap (λ (t : Step). change_of t n) is ∙ (elim (eqb_tells n old) [
  | inl equal ↦ let low = equal.1 in absurd (omega (arith, low, sealed, same))
  | inr other ↦ ap (λ (c : Bool). if c then new else n) other.0
])

-- a step of the machine of a seat's port is allowed
module _ {S : Type 0} (a : About) (slots id : ℕ) (me : Me S (List SeatedPort)) (one : IsOne me) (own : (one_of me.0).about ≡ a) (known : IsSeatKnown (one_of me.0)) (room : HaveSlots (plan_of a))
    (c : CoreState) (step : Step) (may : MayMake (one_of me.0) c step) where
  abbrev x : SeatedPort
  x = one_of me.0

  abbrev e : Plan
  e = plan_of a

  pub may_make : (first : Bool) → IsApart a.sizes step → Allows (IsRuleKept a) slots id me (base e x.port.control.here.arena + word_of step) (change_of step) (makes first c step me)
  may_make first apart = allowed a slots id me (base e x.port.control.here.arena + word_of step) (change_of step) (λ x n y. SeatMakes first c step x (unsealed_answer (plan_of x.about) step n) y)
      one own
      (λ words ports notes b reckoned w time s small.
      let k : ℕ = x.number in
      let X : SeatedPort = seat_at a ports notes k x.began x.found x.contention in
      let same = seat_is a ports notes b reckoned x s in
      let P : SeatedPort → Type 0 = λ z. Moved a words (slice_set words (base e z.port.control.here.arena + word_of step) (change_of step (slice_index words (base e z.port.control.here.arena + word_of step)))) ports notes b reckoned z
      (λ y. SeatMakes first c step z (unsealed_answer (plan_of z.about) step (slice_index words (base e z.port.control.here.arena + word_of step))) y) in
      let may' : MayMake X c step = subst (λ (z : SeatedPort). MayMake z c step) same may in
      let seat = subst (IsSeat a words ports notes b reckoned) same s in
      let of_port = subst IsSeatKnown same known in
      subst P (sym same) (elim (made_or_met a words ports notes b reckoned w time k s.number x.began x.found x.contention seat of_port room c step may') [
        | inl met ↦ absurd (never_met e (component_words e words (ports k).control.here.arena) step apart met.0)
        | inr made ↦ moved_make a words ports notes b reckoned w time k s.number x.began x.found x.contention seat of_port room first c step may' made.lead made.lawful made.reckoned' made.met made.time
      ]))

  -- the exchange of its component
  pub may_exchange : (j old new : ℕ) → j < a.sizes.m → step ≡ Exchange j old new → Allows (IsRuleKept a) slots id me (base e x.port.control.here.arena + word_of step) (change_of step) (tells (Exchanges c old step) me)
  may_exchange j old new inside is = allowed a slots id me (base e x.port.control.here.arena + word_of step) (change_of step) (Exchanges c old step) one own
      (λ words ports notes b reckoned w time s small.
      let k : ℕ = x.number in
      let X : SeatedPort = seat_at a ports notes k x.began x.found x.contention in
      let same = seat_is a ports notes b reckoned x s in
      let i : ℕ = base e (ports k).control.here.arena + word_of step in
      let n : ℕ = slice_index words i in
      let P : SeatedPort → Type 0 = λ z. Moved a words (slice_set words (base e z.port.control.here.arena + word_of step) (change_of step (slice_index words (base e z.port.control.here.arena + word_of step)))) ports notes b reckoned z
      (Exchanges c old step z (slice_index words (base e z.port.control.here.arena + word_of step))) in
      let may' : MayMake X c step = subst (λ (z : SeatedPort). MayMake z c step) same may in
      let of_port = subst IsSeatKnown same known in
      let seat = subst (IsSeat a words ports notes b reckoned) same s in
      subst P (sym same) (elim (seal_cases old n) [
        | inl met ↦
            let m = nothing_moved a words (slice_set words i (change_of step n)) ports notes b reckoned w time X seat refl of_port may'.stands (ap (slice_set words i) (stays_sealed step j old new n is met.0 met.1) ∙ set-get_or words i 0)
            (λ (y : SeatedPort). y ≡ X) refl in
            moved_sealed m (X.contention.seals + 1) (omega arith) (inl (met.0, met.1, ap (λ (y : SeatedPort). record y { contention = record y.contention { seals = X.contention.seals + 1 } }) m.says))
        | inr misses ↦ (elim (made_or_met a words ports notes b reckoned w time k s.number x.began x.found x.contention seat of_port room c step may') [
          | inl met ↦
              let is_met = subst (λ (t : Step). MeetsSeal e (component_words e words (ports k).control.here.arena) t) is met.0 in
              let at : slice_index (component_words e words (ports k).control.here.arena) j ≡ n =
              at_of (λ i. slice_index words (base e (ports k).control.here.arena + i)) 0 a.sizes.m j inside ∙ ap (λ i. slice_index words (base e (ports k).control.here.arena + i)) (omega arith) ∙ ap (λ (t : Step). slice_index words (base e (ports k).control.here.arena + word_of t)) (sym is) in
              let m = nothing_moved a words (slice_set words i (change_of step n)) ports notes b reckoned w time X seat refl of_port may'.stands (sym (words_then words e (ports k).control.here.arena step) ∙ met.1)
              (λ (y : SeatedPort). y ≡ X) refl in
              moved_sealed m (X.contention.seals + 1) (omega arith)
              (inl (subst IsSealed at is_met.1, ap unsealed (sym at) ∙ is_met.2, ap (λ (y : SeatedPort). record y { contention = record y.contention { seals = X.contention.seals + 1 } }) m.says))
          | inr made ↦ moved_as (λ y m. inr (misses, m)) (moved_make a words ports notes b reckoned w time k s.number x.began x.found x.contention seat of_port room false c step may' made.lead made.lawful made.reckoned' made.met made.time)
        ])
      ]))

  -- the load of a word of which the store of 0 is due
  pub may_find_zero : (v : ℕ) → step ≡ Store v 0 → Allows (IsRuleKept a) slots id me (base e x.port.control.here.arena + v) (λ n. n) (tells (FindsZero c v) me)
  may_find_zero v is = allowed a slots id me (base e x.port.control.here.arena + v) (λ n. n) (FindsZero c v) one own
      (λ words ports notes b reckoned w time s small.
      let k : ℕ = x.number in
      let X : SeatedPort = seat_at a ports notes k x.began x.found x.contention in
      let same = seat_is a ports notes b reckoned x s in
      let i : ℕ = base e (ports k).control.here.arena + v in
      let n : ℕ = slice_index words i in
      let P : SeatedPort → Type 0 = λ z. Moved a words (slice_set words (base e z.port.control.here.arena + v) (slice_index words (base e z.port.control.here.arena + v))) ports notes b reckoned z
      (FindsZero c v z (slice_index words (base e z.port.control.here.arena + v))) in
      let may' : MayMake X c (Store v 0) = subst (λ (t : Step). MayMake X c t) is (subst (λ (z : SeatedPort). MayMake z c step) same may) in
      let of_port = subst IsSeatKnown same known in
      let seat = subst (IsSeat a words ports notes b reckoned) same s in
      subst P (sym same) (elim (eqb_tells n 0) [
        | inl zero ↦ subst (λ u. Moved a words (slice_set words i u) ports notes b reckoned X (FindsZero c v X n)) (sym zero.1)
            (elim (made_or_met a words ports notes b reckoned w time k s.number x.began x.found x.contention seat of_port room c (Store v 0) may') [
              | inl met ↦ absurd (never_met e (component_words e words (ports k).control.here.arena) (Store v 0) tt met.0)
              | inr made ↦ moved_as (λ y m. inl (zero.1, m)) (moved_make a words ports notes b reckoned w time k s.number x.began x.found x.contention seat of_port room false c (Store v 0) may' made.lead made.lawful made.reckoned' made.met made.time)
            ])
        | inr other ↦ nothing_moved a words (slice_set words i n) ports notes b reckoned w time X seat refl of_port may'.stands (set-get_or words i 0) (FindsZero c v X n) (inr (other.1, refl))
      ]))

  -- the load by which an update begins
  pub may_begin : (first : Bool) (j : ℕ) → j < a.sizes.m → step ≡ Load j → Allows (IsRuleKept a) slots id me (base e x.port.control.here.arena + j) (λ n. n) (tells (BeginsUpdate first c j) me)
  may_begin first j inside is = allowed a slots id me (base e x.port.control.here.arena + j) (λ n. n) (BeginsUpdate first c j) one own
      (λ words ports notes b reckoned w time s small.
      let k : ℕ = x.number in
      let X : SeatedPort = seat_at a ports notes k x.began x.found x.contention in
      let same = seat_is a ports notes b reckoned x s in
      let i : ℕ = base e (ports k).control.here.arena + j in
      let n : ℕ = slice_index words i in
      let P : SeatedPort → Type 0 = λ z. Moved a words (slice_set words (base e z.port.control.here.arena + j) (slice_index words (base e z.port.control.here.arena + j))) ports notes b reckoned z
      (BeginsUpdate first c j z (slice_index words (base e z.port.control.here.arena + j))) in
      let may' : MayMake X c (Load j) = subst (λ (t : Step). MayMake X c t) is (subst (λ (z : SeatedPort). MayMake z c step) same may) in
      let of_port = subst IsSeatKnown same known in
      let seat = subst (IsSeat a words ports notes b reckoned) same s in
      subst P (sym same) (elim (cases_lt n seal) [
        | inl less ↦
            let Q : Type 0 = Moved a words (slice_set words i n) ports notes b reckoned X (λ y. SeatMakes first c (Load j) X (unsealed_answer e (Load j) n) y × (y.began.epoch ≤ length b.before)) in
            let m : Q = (elim (made_or_met a words ports notes b reckoned w time k s.number x.began x.found x.contention seat of_port room c (Load j) may') [
              | inl met ↦ absurd (never_met e (component_words e words (ports k).control.here.arena) (Load j) tt met.0)
              | inr made ↦ moved_come a words ports notes b reckoned w time k s.number x.began x.found x.contention seat of_port room first c (Load j) may' made.lead made.lawful made.reckoned' made.met made.time
            ]) in
            let plain_is : unsealed_answer e (Load j) n ≡ n = ap (λ (t : Bool). if t then unsealed n else n) (lt-ltb j a.sizes.m inside) ∙ omega (arith, less) in
            let at : slice_index (component_words e words (ports k).control.here.arena) j ≡ n = at_of (λ i. slice_index words (base e (ports k).control.here.arena + i)) 0 a.sizes.m j inside ∙ ap (λ i. slice_index words (base e (ports k).control.here.arena + i)) (omega arith) in
            let here = ap (λ (d : Site). d.epoch) (unsealed_is_present e words ports b k j w.epochs s.number may'.stands inside (λ sealed. omega (arith, at, less, sealed))).here in
            let come = m.says.1 in
            moved_says m (inr (less, subst (λ t. SeatMakes first c (Load j) X t m.y) plain_is m.says.0, omega (arith, come, here)))
        | inr from ↦
            let m = moved_see a words ports notes b reckoned w time k s.number x.began x.found x.contention may'.stands seat of_port j inside first Glances (λ no. absurd no) in
            moved_sealed m (m.y.contention.seals + 1) (let more = m.seals in omega (arith, more)) (inl (m.y, from, m.says, refl))
      ]))
