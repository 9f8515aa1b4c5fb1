-- How a port enters an epoch, step by step.
use Rattle.partial_long_lived.proofs.{Common.{ℕ, ◌≡◌, ◌+◌, ◌==◌, List, sym, ap, subst, ◌∙◌, arith, either, Me, Allows, TableId, at_word, entering_from, packed, About, Stand, IsRuleKept, SeatedPort, one_of, tells, IsHeld, port_at, SeatArrives, LoadsCurrent, StoresEnteringWord, unpacked, MayEnter}, Control.{may_load, may_store_entering}, Enters.may_arrive, Standing.site_is}

module _ (table : TableId) (about : About) (s : Stand) (h : IsHeld table about s) where
  -- the entering word that is stored
  entering_is : (entering_word : ℕ) → entering_word ≡ packed (record { epoch = s.epoch; arena = s.arena }) → 9223372036854775808 + entering_word ≡ entering_from (port_at s).port.control.here
  entering_is entering_word is = let site = site_is table about s h in omega (arith, is, site)

  word_is : 1 + s.number ≡ at_word (port_at s).number
  word_is = ap (λ n. 1 + n) h.number

  pub entering_asked : MayEnter s → (slots id : ℕ) (entering_word : ℕ) → entering_word ≡ packed (record { epoch = s.epoch; arena = s.arena }) →
      Allows (IsRuleKept about) slots id s.seat.me (1 + s.number) (λ n. 9223372036854775808 + entering_word) (tells StoresEnteringWord s.seat.me)
  entering_asked may slots id entering_word is =
      subst (λ i. Allows (IsRuleKept about) slots id s.seat.me i (λ n. 9223372036854775808 + entering_word) (tells StoresEnteringWord s.seat.me)) (sym word_is)
      (subst (λ v. Allows (IsRuleKept about) slots id s.seat.me (at_word (port_at s).number) (λ n. v) (tells StoresEnteringWord s.seat.me)) (sym (entering_is entering_word is))
      (may_store_entering about slots id s.seat.me h.one h.own h.known may.stands may.past may.free))

  -- the port after the first step
  module _ (me : Me (Unit {0}) (List SeatedPort)) (a : ℕ) (told : tells StoresEnteringWord s.seat.me a me) where
    pub load_asked : (slots id : ℕ) → Allows (IsRuleKept about) slots id me 0 (λ n. n) (tells LoadsCurrent me)
    load_asked slots id = may_load about slots id me told.0 (told.1.about ∙ h.own) told.1.known (ap (λ (x : SeatedPort). x.port.control.entering) told.2)

    -- and after the second
    module _ (me' : Me (Unit {0}) (List SeatedPort)) (current : ℕ) (told' : tells LoadsCurrent me current me') where
      number_is : (one_of me'.0).number ≡ (port_at s).number
      number_is = told'.1.number ∙ told.1.number

      here_is : (one_of me'.0).port.control.here ≡ (port_at s).port.control.here
      here_is = ap (λ (x : SeatedPort). x.port.control.here) told'.2.2 ∙ ap (λ (x : SeatedPort). x.port.control.here) told.2

      pub arrive_asked : (slots id : ℕ) (entering_word : ℕ) → entering_word ≡ packed (record { epoch = s.epoch; arena = s.arena }) →
          Allows (IsRuleKept about) slots id me' (1 + s.number) (λ n. either (n == 9223372036854775808 + entering_word) current n) (tells (SeatArrives (unpacked current)) me')
      arrive_asked slots id entering_word is =
          subst (λ i. Allows (IsRuleKept about) slots id me' i (λ n. either (n == 9223372036854775808 + entering_word) current n) (tells (SeatArrives (unpacked current)) me'))
          (ap at_word number_is ∙ sym word_is)
          (subst (λ v. Allows (IsRuleKept about) slots id me' (at_word (one_of me'.0).number) (λ n. either (n == v) current n) (tells (SeatArrives (unpacked current)) me'))
          (ap entering_from here_is ∙ sym (entering_is entering_word is))
          (subst (λ v. Allows (IsRuleKept about) slots id me' (at_word (one_of me'.0).number) (λ n. either (n == entering_from (one_of me'.0).port.control.here) v n)
          (tells (SeatArrives (unpacked current)) me'))
          (sym told'.2.0)
          (may_arrive about slots id me' told'.0 (told'.1.about ∙ told.1.about ∙ h.own) told'.1.known (unpacked current) (ap (λ (x : SeatedPort). x.port.control.entering) told'.2.2))))
