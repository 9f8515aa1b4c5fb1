-- The first step of an update, and the exchange of its component.
use Rattle.partial_long_lived.proofs.{Common.{ℕ, ◌≡◌, ◌+◌, ◌-◌, ◌<◌, ◌==◌, Bool, Some, List, sym, ap, subst, ◌∙◌, refl, arith, either, Me, Allows, TableId, Load, Exchange, Change, UpdateBegun, Exchanging, CoreState, step_at, step_of, base, About, Stand, IsRuleKept, SeatedPort, one_of, plan_of, tells, IsHeld, port_at, component_at, Exchanges, MayMake, begins, change_of, exchanges, word_at, IsGoing, MayBegin, machine_at, SeatBegins}, Changes.either_cond, Making.{may_begin, may_exchange}, Standing.{base_is, room_of}, Straight.word_same, Under.{first_may, next_may}}

-- the load of the component's word by which an update begins
module _ (table : TableId) (about : About) (s : Stand) (h : IsHeld table about s) (b : CoreState) (may : MayBegin b (port_at s)) (d : Change) (stage : b.stage ≡ UpdateBegun d)
    (inside : d.component < about.sizes.m) where
  asked : (first : Bool) (slots id : ℕ) → Allows (IsRuleKept about) slots id s.seat.me (s.base + d.component) (λ n. n) (begins first b (s.base + d.component) s.seat.me)
  asked first slots id =
      let is = base_is table about s h in
      let at : component_at (port_at s) (s.base + d.component) ≡ d.component = ap (λ (a : About). s.base + d.component - base (plan_of a) (port_at s).port.control.here.arena) h.own ∙ omega (arith, is) in
      subst (λ i. Allows (IsRuleKept about) slots id s.seat.me (s.base + d.component) (λ n. n) (tells (SeatBegins first b i) s.seat.me)) (sym at)
      (subst (λ i. Allows (IsRuleKept about) slots id s.seat.me (i + d.component) (λ n. n) (tells (SeatBegins first b d.component) s.seat.me)) (sym is)
      (may_begin about slots id s.seat.me h.one h.own h.known (room_of table about s h) b (Load d.component) (first_may b (port_at s) may (Load d.component) (ap (step_at b) stage)) first d.component inside refl))

  pub begin_asked : (v : ℕ) → v ≡ d.component → (first : Bool) (slots id : ℕ) → Allows (IsRuleKept about) slots id s.seat.me (s.base + v) (λ n. n) (begins first b (s.base + v) s.seat.me)
  begin_asked v same first slots id = subst (λ v. Allows (IsRuleKept about) slots id s.seat.me (s.base + v) (λ n. n) (begins first b (s.base + v) s.seat.me)) (sym same) (asked first slots id)

  -- as the seat sees it
  seen_as : (first : Bool) (a : ℕ) (me : Me (Unit {0}) (List SeatedPort)) → begins first b (s.base + d.component) s.seat.me a me → SeatBegins first b d.component (port_at s) a (one_of me.0)
  seen_as first a me told =
      let is = base_is table about s h in
      let at : component_at (port_at s) (s.base + d.component) ≡ d.component = ap (λ (a : About). s.base + d.component - base (plan_of a) (port_at s).port.control.here.arena) h.own ∙ omega (arith, is) in
      subst (λ i. SeatBegins first b i (port_at s) a (one_of me.0)) at told.2

  pub begun_at : (v : ℕ) → v ≡ d.component → (first : Bool) (a : ℕ) (me : Me (Unit {0}) (List SeatedPort)) → begins first b (s.base + v) s.seat.me a me → SeatBegins first b d.component (port_at s) a (one_of me.0)
  begun_at v same first a me told = seen_as first a me (subst (λ v. begins first b (s.base + v) s.seat.me a me) same told)

-- the exchange of the component's word
module _ (table : TableId) (about : About) (s : Stand) (w : IsGoing table about s) (d : Change) (old new : ℕ) (stage : (machine_at s).stage ≡ Exchanging d old new) (inside : d.component < about.sizes.m) where
  due : step_of (machine_at s) ≡ Some (Exchange d.component old new)
  due = ap (step_at (machine_at s)) stage

  may : MayMake (port_at s) (machine_at s) (Exchange d.component old new)
  may = next_may w.under.0 w.under.1 w.under.2 (machine_at s) (port_at s) w.under.3 (Exchange d.component old new) due

  exchanges_asked : (slots id : ℕ) → Allows (IsRuleKept about) slots id s.seat.me (s.base + d.component) (λ n. either (n == old) new n)
      (exchanges old (Exchange (word_at s.seat.me (s.base + d.component)) old new) s.seat.me)
  exchanges_asked slots id =
      subst (λ u. Allows (IsRuleKept about) slots id s.seat.me (s.base + d.component) (λ n. either (n == old) new n) (exchanges old (Exchange u old new) s.seat.me)) (sym (word_same table about s w (Exchange d.component old new) due))
      (subst (λ (f : ℕ → ℕ). Allows (IsRuleKept about) slots id s.seat.me (s.base + d.component) f (exchanges old (Exchange d.component old new) s.seat.me)) (λ i n. either_cond (n == old) new n i)
      (subst (λ i. Allows (IsRuleKept about) slots id s.seat.me (i + d.component) (change_of (Exchange d.component old new)) (exchanges old (Exchange d.component old new) s.seat.me)) (sym (base_is table about s w.held))
      (may_exchange about slots id s.seat.me w.held.one w.held.own w.held.known (room_of table about s w.held) (machine_at s) (Exchange d.component old new) may d.component old new inside refl)))

  pub exchange_asked : (v : ℕ) → v ≡ d.component → (slots id : ℕ) → Allows (IsRuleKept about) slots id s.seat.me (s.base + v) (λ n. either (n == old) new n)
      (exchanges old (Exchange (word_at s.seat.me (s.base + v)) old new) s.seat.me)
  exchange_asked v same slots id = subst (λ v. Allows (IsRuleKept about) slots id s.seat.me (s.base + v) (λ n. either (n == old) new n) (exchanges old (Exchange (word_at s.seat.me (s.base + v)) old new) s.seat.me)) (sym same)
      (exchanges_asked slots id)

  -- as the seat sees it
  exchanges_at : (a : ℕ) (me : Me (Unit {0}) (List SeatedPort)) → exchanges old (Exchange (word_at s.seat.me (s.base + d.component)) old new) s.seat.me a me →
      Exchanges (machine_at s) old (Exchange d.component old new) (port_at s) a (one_of me.0)
  exchanges_at a me told = subst (λ u. Exchanges (machine_at s) old (Exchange u old new) (port_at s) a (one_of me.0)) (word_same table about s w (Exchange d.component old new) due) told.2

  pub exchanged_at : (v : ℕ) → v ≡ d.component → (a : ℕ) (me : Me (Unit {0}) (List SeatedPort)) → exchanges old (Exchange (word_at s.seat.me (s.base + v)) old new) s.seat.me a me →
      Exchanges (machine_at s) old (Exchange d.component old new) (port_at s) a (one_of me.0)
  exchanged_at v same a me told = exchanges_at a me (subst (λ v. exchanges old (Exchange (word_at s.seat.me (s.base + v)) old new) s.seat.me a me) same told)
