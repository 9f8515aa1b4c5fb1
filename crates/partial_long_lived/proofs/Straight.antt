-- A call under way: each step of its machine is allowed, and leads the call on.
use Rattle.partial_long_lived.proofs.{Common.{ℕ, ◌≡◌, ◌+◌, ◌-◌, ◌<◌, ◌≤◌, ◌==◌, ◌%◌, ◌^◌, Bool, true, false, if◌then◌else◌, Some, refl, sym, ap, subst, ◌∙◌, arith, nat_lt, either, Allows, TableId, Step, Load, Store, Exchange, Add, total, word_of, CoreState, advance, step_of, IsSound, core_of, seat_steps_left, StoresNoView, FindsZero, finds_zero, ◌≢◌, inl, inr, answers_lead_on, IsLayout, base, plain, unsealed, IsEpochPlan, not_below, About, Stand, IsRuleKept, SeatedPort, plan_of, SeatGoes, IsOne, port_at, component_at, IsApart, LeavesComponents, SeatMakes, MayMake, unsealed_answer, change_of, goes_on, makes, word_at, CallMade, IsGoing, ComesTo, MayBegin, awaits, before_claim, has_claimed, machine_at, over_by, ◌||◌, IsQuiet}, Claims.inner_word, Making.{may_make, may_find_zero}, Changes.either_cond, Standing.{arena_there, base_small, held_then, room_of}, Under.{next_made, next_over, next_may, next_waits, next_within}, Zeros.{last_stored, seat_fewer}}
use Rattle.partial_machine.specs.Possible.{IsPossible}
use Rattle.partial_long_lived.specs.Inner.Under.{IsUnderWay}

-- a word after the component words is another
apart_of : (a : About) (s : Step) → LeavesComponents a.sizes s → IsApart a.sizes s
apart_of a (Load v) h = tt
apart_of a (Store v x) h = tt
apart_of a (Exchange v old new) h = h
apart_of a (Add v k) h = tt

module _ (table : TableId) (about : About) (s : Stand) (w : IsGoing table about s) (step : Step) (due : step_of (machine_at s) ≡ Some step) where
  had : CallMade w.under.0 w.under.1 (machine_at s) (port_at s)
  had = w.under.3

  may : MayMake (port_at s) (machine_at s) step
  may = next_may w.under.0 w.under.1 w.under.2 (machine_at s) (port_at s) had step due

  pub step_within : word_of step < total about.sizes
  step_within =
      let m = had in
      let low = next_within w.under.0 w.under.1 w.under.2 (machine_at s) (port_at s) m step due in
      subst (λ (a : About). word_of step < total a.sizes) (sym m.goes.about ∙ w.held.own) low

  pub step_there : s.base + word_of step < table.words
  step_there = let low = step_within in arena_there table about s w.held (word_of step) (omega (arith, low))

  base_is : s.base ≡ base (plan_of about) (port_at s).port.control.here.arena
  base_is = w.held.base ∙ ap (base (plan_of about)) w.held.arena

  -- the word of the arena is the one of the table
  pub word_same : component_at (port_at s) (s.base + word_of step) ≡ word_of step
  word_same = let is = base_is in ap (λ (a : About). s.base + word_of step - base (plan_of a) (port_at s).port.control.here.arena) w.held.own ∙ omega (arith, is)

  -- the machine of a call under way is sound, and has the memory's sizes
  pub sound_there : IsSound (machine_at s) × (machine_at s).sizes ≡ about.sizes
  sound_there = let m = had in (m.made.sound, m.made.sizes ∙ ap (λ (a : About). a.sizes) (sym m.goes.about ∙ w.held.own))

  pub quiet_leaves : IsQuiet (machine_at s).stage → LeavesComponents (port_at s).about.sizes step
  quiet_leaves quiet = let m = had in inner_word (machine_at s) (port_at s).about.sizes m.made.sound (m.made.sizes ∙ ap (λ (a : About). a.sizes) (sym m.goes.about)) quiet step due

  -- a word after the component words is answered as it is
  pub plain_after : (v n : ℕ) → (port_at s).about.sizes.m ≤ v → plain (plan_of (port_at s).about) v n ≡ n
  plain_after v n from = ap (λ (c : Bool). if c then unsealed n else n) (not_below v (port_at s).about.sizes.m from)

  pub quiet_apart : IsQuiet (machine_at s).stage → IsApart about.sizes step
  quiet_apart quiet = let m = sound_there in apart_of about step (inner_word (machine_at s) about.sizes m.0 m.1 quiet step due)

  pub step_asked : IsApart about.sizes step → (slots id : ℕ) → Allows (IsRuleKept about) slots id s.seat.me (s.base + word_of step) (change_of step) (makes false (machine_at s) step s.seat.me)
  step_asked apart slots id =
      subst (λ i. Allows (IsRuleKept about) slots id s.seat.me (i + word_of step) (change_of step) (makes false (machine_at s) step s.seat.me)) (sym base_is)
      (may_make about slots id s.seat.me w.held.one w.held.own w.held.known (room_of table about s w.held) (machine_at s) step may false apart)

  -- the load of a word of which the store of 0 is due
  pub zero_there : (v : ℕ) → step ≡ Store v 0 → (slots id : ℕ) → Allows (IsRuleKept about) slots id s.seat.me (s.base + v) (λ n. n) (finds_zero v s.seat.me)
  zero_there v is slots id =
      subst (λ i. Allows (IsRuleKept about) slots id s.seat.me (i + v) (λ n. n) (finds_zero v s.seat.me)) (sym base_is)
      (may_find_zero about slots id s.seat.me w.held.one w.held.own w.held.known (room_of table about s w.held) (machine_at s) step may v is)

  -- the call goes on
  module _ (t : Stand) (id : t.seat.table_id ≡ s.seat.table_id) (one : IsOne t.seat.me) (goes : SeatGoes (port_at s) (port_at t)) (a : ℕ)
      (m : SeatMakes false (machine_at s) step (port_at s) a (port_at t))
      (shape : t.shape ≡ s.shape) (number : t.number ≡ s.number) (epoch : t.epoch ≡ s.epoch) (arena : t.arena ≡ s.arena) (base_same : t.base ≡ s.base) (passed_same : t.passed ≡ s.passed) where
    machine_is : machine_at t ≡ advance (machine_at s) a
    machine_is = sym m.told.machine.is

    call_on : (b : CoreState) (x : SeatedPort) → MayBegin b x → CallMade b x (machine_at s) (port_at s) → CallMade b x (machine_at t) (port_at t)
    call_on b x begins made = subst (λ (d : CoreState). CallMade b x d (port_at t)) (sym machine_is) (next_made b x begins (machine_at s) (port_at s) made step due a (port_at t) goes m)

    pub going_on : IsGoing table about t
    going_on = record {
      held = held_then table about s t w.held id one goes (ap (λ (x : SeatedPort). x.port.control.here) m.is) shape number epoch arena base_same (passed_same ∙ w.held.passed ∙ sym (ap (λ (x : SeatedPort). x.port.passed) m.is));
      under = (w.under.0, w.under.1, w.under.2, call_on w.under.0 w.under.1 w.under.2 had);
    }

    -- the seat has fewer steps left
    fewer : seat_steps_left (machine_at t) < seat_steps_left (machine_at s)
    fewer =
        let begins = w.under.2 in
        let layout : IsLayout (machine_at s).sizes = subst IsLayout (begins.sizes ∙ sym had.made.sizes) begins.layout in
        subst (λ (c : CoreState). seat_steps_left c < seat_steps_left (machine_at s)) (sym machine_is)
        (seat_fewer (machine_at s) a layout (answers_lead_on (machine_at s) a layout had.made.sound m.told.possible).fewer)

    pub leads_there : t.seat.steps ≡ s.seat.steps + 1 → ComesTo s t
    leads_there one_more = record {
      shape = shape;
      number = number;
      epoch = epoch;
      arena = arena;
      base = base_same;
      passed = passed_same;
      began = ap (λ (x : SeatedPort). x.began) m.is ∙ m.began;
      call = call_on;
      over = λ claimed.
          let next = next_over w.under.0 w.under.1 w.under.2 (machine_at s) (port_at s) had step due a (port_at t) goes m claimed in
          (ap has_claimed machine_is ∙ next.0, next.1);
      waits = λ behind.
          let next = next_waits w.under.0 w.under.1 w.under.2 (machine_at s) (port_at s) had step due a (port_at t) goes m behind in
          (ap (λ (d : CoreState). before_claim d.stage) machine_is ∙ next.0, λ on. next.1 (sym (ap awaits machine_is) ∙ on));
      steps = let less = fewer in omega (arith, one_more, less);
    }

    -- whether the port is over then
    pub over_there : (port_at t).port.over ≡ ((port_at s).port.over || over_by (plan_of about) step a)
    over_there = ap (λ (x : SeatedPort). x.port.over) m.is ∙ ap (λ (o : About). (port_at s).port.over || over_by (plan_of o) step a) w.held.own

-- after the store of the view word of a record without a view a seat has two steps fewer left
view_stored : (table : TableId) (about : About) (s : Stand) (w : IsGoing table about s) → (v : StoresNoView (machine_at s)) → (d : CoreState) → d ≡ advance (machine_at s) 0 → IsPossible (machine_at s) 0 →
    seat_steps_left d + 2 ≤ seat_steps_left (machine_at s)
view_stored table about s w v d is possible =
    let begins = w.under.2 in
    let made = w.under.3.made in
    let layout : IsLayout (machine_at s).sizes = subst IsLayout (begins.sizes ∙ sym made.sizes) begins.layout in
    last_stored (machine_at s) v d is (answers_lead_on (machine_at s) 0 layout made.sound possible).fewer

-- the steps of each kind, as the table makes them
module _ (table : TableId) (about : About) (s : Stand) (w : IsGoing table about s) where
  pub small_word : (v : ℕ) (step : Step) → step_of (machine_at s) ≡ Some step → word_of step ≡ v → s.base + v < 18446744073709551616
  small_word v step due is =
      let up = base_small table about s w.held in
      let low = step_within table about s w step due in
      let plan = subst (λ (a : About). IsEpochPlan (plan_of a)) w.held.own w.held.known.plan in
      let m = plan.sizes.components.1 in
      let slots = plan.sizes.slots.1 in
      let lists = plan.sizes.lists in
      let pool = plan.sizes.pool.1 in
      omega (arith, up, low, is, m, slots, lists, pool)

  pub load_asked : (v : ℕ) → step_of (machine_at s) ≡ Some (Load v) → (slots id : ℕ) → Allows (IsRuleKept about) slots id s.seat.me (s.base + v) (λ n. n) (goes_on (Load (word_at s.seat.me (s.base + v))) s.seat.me)
  load_asked v due slots id = subst (λ u. Allows (IsRuleKept about) slots id s.seat.me (s.base + v) (λ n. n) (goes_on (Load u) s.seat.me)) (sym (word_same table about s w (Load v) due))
      (step_asked table about s w (Load v) due tt slots id)

  pub load_told : (v : ℕ) → step_of (machine_at s) ≡ Some (Load v) → (n : ℕ) (y : SeatedPort) → SeatMakes false (machine_at s) (Load (word_at s.seat.me (s.base + v))) (port_at s) (unsealed_answer (plan_of (port_at s).about) (Load (word_at s.seat.me (s.base + v))) n) y →
      SeatMakes false (machine_at s) (Load v) (port_at s) (unsealed_answer (plan_of (port_at s).about) (Load v) n) y
  load_told v due n y m = subst (λ u. SeatMakes false (machine_at s) (Load u) (port_at s) (unsealed_answer (plan_of (port_at s).about) (Load u) n) y) (word_same table about s w (Load v) due) m

  pub store_asked : (v new : ℕ) → step_of (machine_at s) ≡ Some (Store v new) → (slots id : ℕ) →
      Allows (IsRuleKept about) slots id s.seat.me (s.base + v) (λ n. new) (λ n. goes_on (Store (word_at s.seat.me (s.base + v)) new) s.seat.me new)
  store_asked v new due slots id = subst (λ u. Allows (IsRuleKept about) slots id s.seat.me (s.base + v) (λ n. new) (λ n. goes_on (Store u new) s.seat.me new)) (sym (word_same table about s w (Store v new) due))
      (step_asked table about s w (Store v new) due tt slots id)

  pub store_told : (v new : ℕ) → step_of (machine_at s) ≡ Some (Store v new) → (n : ℕ) (y : SeatedPort) → SeatMakes false (machine_at s) (Store (word_at s.seat.me (s.base + v)) new) (port_at s) (unsealed_answer (plan_of (port_at s).about) (Store (word_at s.seat.me (s.base + v)) new) n) y →
      SeatMakes false (machine_at s) (Store v new) (port_at s) 0 y
  store_told v new due n y m =
      let told = subst (λ u. SeatMakes false (machine_at s) (Store u new) (port_at s) (unsealed_answer (plan_of (port_at s).about) (Store u new) n) y) (word_same table about s w (Store v new) due)
      m in
      subst (λ a. SeatMakes false (machine_at s) (Store v new) (port_at s) a y) (no_answer (nat_lt v (port_at s).about.sizes.m)) told
    where
      no_answer : (c : Bool) → (if c then 0 % 72057594037927936 else 0) ≡ 0
      no_answer true = omega arith
      no_answer false = refl

  pub zero_asked : (v : ℕ) → step_of (machine_at s) ≡ Some (Store v 0) → (slots id : ℕ) → Allows (IsRuleKept about) slots id s.seat.me (s.base + v) (λ n. n) (finds_zero (word_at s.seat.me (s.base + v)) s.seat.me)
  zero_asked v due slots id = subst (λ u. Allows (IsRuleKept about) slots id s.seat.me (s.base + v) (λ n. n) (finds_zero u s.seat.me)) (sym (word_same table about s w (Store v 0) due))
      (zero_there table about s w (Store v 0) due v refl slots id)

  -- a load that finds 0 is the store, and one that doesn't shows nothing
  pub zero_told : (v : ℕ) → step_of (machine_at s) ≡ Some (Store v 0) → (n : ℕ) (y : SeatedPort) → FindsZero (machine_at s) (word_at s.seat.me (s.base + v)) (port_at s) n y → n ≡ 0 →
      SeatMakes false (machine_at s) (Store v 0) (port_at s) 0 y
  zero_told v due n y told zero = elim told [
    | inl made ↦ store_told v 0 due n y made.1
    | inr other ↦ absurd (other.0 zero)
  ]

  pub other_told : (v n : ℕ) (y : SeatedPort) → FindsZero (machine_at s) (word_at s.seat.me (s.base + v)) (port_at s) n y → n ≢ 0 → y ≡ port_at s
  other_told v n y told other = elim told [
    | inl made ↦ absurd (other made.0)
    | inr rests ↦ rests.1
  ]

  -- such a load leaves the call where it is
  module _ (u : Stand) (id : u.seat.table_id ≡ s.seat.table_id) (one : IsOne u.seat.me) (goes : SeatGoes (port_at s) (port_at u)) (same : port_at u ≡ port_at s)
      (shape : u.shape ≡ s.shape) (number : u.number ≡ s.number) (epoch : u.epoch ≡ s.epoch) (arena : u.arena ≡ s.arena) (base_same : u.base ≡ s.base) (passed_same : u.passed ≡ s.passed) where
    pub still_going : IsGoing table about u
    still_going = record {
      held = held_then table about s u w.held id one goes (ap (λ (x : SeatedPort). x.port.control.here) same) shape number epoch arena base_same (passed_same ∙ w.held.passed ∙ sym (ap (λ (x : SeatedPort). x.port.passed) same));
      under = subst IsUnderWay (sym same) w.under;
    }

    machine_same : machine_at u ≡ machine_at s
    machine_same = ap (λ (x : SeatedPort). core_of x.port.part) same

    -- and the store after it leads on as the load and the store together
    pub leads_after : u.seat.steps ≡ s.seat.steps + 1 → StoresNoView (machine_at s) → (t : Stand) → ComesTo u t → machine_at t ≡ advance (machine_at u) 0 → IsPossible (machine_at u) 0 →
        t.seat.steps ≡ u.seat.steps + 1 → ComesTo s t
    leads_after loaded unviewed t leads machine possible stored = record {
      shape = leads.shape ∙ shape;
      number = leads.number ∙ number;
      epoch = leads.epoch ∙ epoch;
      arena = leads.arena ∙ arena;
      base = leads.base ∙ base_same;
      passed = leads.passed ∙ passed_same;
      began = leads.began ∙ ap (λ (x : SeatedPort). x.began) same;
      call = λ b x begins had. leads.call b x begins (subst (λ (y : SeatedPort). CallMade b x (core_of y.port.part) y) (sym same) had);
      over = λ claimed.
          let next = leads.over (ap has_claimed machine_same ∙ claimed) in
          (next.0, next.1 ∙ ap (λ (x : SeatedPort). x.port.over) same);
      waits = λ behind.
          let next = leads.waits (ap (λ (c : CoreState). before_claim c.stage) machine_same ∙ behind) in
          (next.0, λ on. let is = next.1 on in (sym (ap awaits machine_same) ∙ is.0, is.1 ∙ ap (λ (x : SeatedPort). x.port.over) same));
      steps =
          let less = view_stored table about s w unviewed (machine_at t) (machine ∙ ap (λ (c : CoreState). advance c 0) machine_same) (subst (λ (c : CoreState). IsPossible c 0) machine_same possible) in
          omega (arith, loaded, stored, less);
    }

  module _ (quiet : IsQuiet (machine_at s).stage) where
    pub exchange_asked : (v old new : ℕ) → step_of (machine_at s) ≡ Some (Exchange v old new) → (slots id : ℕ) →
        Allows (IsRuleKept about) slots id s.seat.me (s.base + v) (λ n. either (n == old) new n) (goes_on (Exchange (word_at s.seat.me (s.base + v)) old new) s.seat.me)
    exchange_asked v old new due slots id = subst (λ u. Allows (IsRuleKept about) slots id s.seat.me (s.base + v) (λ n. either (n == old) new n) (goes_on (Exchange u old new) s.seat.me)) (sym (word_same table about s w (Exchange v old new) due))
        (subst (λ (f : ℕ → ℕ). Allows (IsRuleKept about) slots id s.seat.me (s.base + v) f (goes_on (Exchange v old new) s.seat.me)) (λ i n. either_cond (n == old) new n i)
        (step_asked table about s w (Exchange v old new) due (quiet_apart table about s w (Exchange v old new) due quiet) slots id))

    pub exchange_told : (v old new : ℕ) → step_of (machine_at s) ≡ Some (Exchange v old new) → (n : ℕ) (y : SeatedPort) →
        SeatMakes false (machine_at s) (Exchange (word_at s.seat.me (s.base + v)) old new) (port_at s)
        (unsealed_answer (plan_of (port_at s).about) (Exchange (word_at s.seat.me (s.base + v)) old new) n) y →
        SeatMakes false (machine_at s) (Exchange v old new) (port_at s) n y
    exchange_told v old new due n y m =
        let told = subst (λ u. SeatMakes false (machine_at s) (Exchange u old new) (port_at s) (unsealed_answer (plan_of (port_at s).about) (Exchange u old new) n) y) (word_same table about s w (Exchange v old new) due) m in
        let behind = quiet_leaves table about s w (Exchange v old new) due quiet in
        subst (λ a. SeatMakes false (machine_at s) (Exchange v old new) (port_at s) a y) (plain_after table about s w (Exchange v old new) due v n behind) told

    pub add_asked : (v k : ℕ) → step_of (machine_at s) ≡ Some (Add v k) → (slots id : ℕ) →
        Allows (IsRuleKept about) slots id s.seat.me (s.base + v) (λ n. (n + k) % 2 ^ 64) (goes_on (Add (word_at s.seat.me (s.base + v)) k) s.seat.me)
    add_asked v k due slots id = subst (λ u. Allows (IsRuleKept about) slots id s.seat.me (s.base + v) (λ n. (n + k) % 2 ^ 64) (goes_on (Add u k) s.seat.me)) (sym (word_same table about s w (Add v k) due))
        (step_asked table about s w (Add v k) due tt slots id)

    pub add_told : (v k : ℕ) → step_of (machine_at s) ≡ Some (Add v k) → (n : ℕ) (y : SeatedPort) →
        SeatMakes false (machine_at s) (Add (word_at s.seat.me (s.base + v)) k) (port_at s) (unsealed_answer (plan_of (port_at s).about) (Add (word_at s.seat.me (s.base + v)) k) n) y →
        SeatMakes false (machine_at s) (Add v k) (port_at s) n y
    add_told v k due n y m =
        let told = subst (λ u. SeatMakes false (machine_at s) (Add u k) (port_at s) (unsealed_answer (plan_of (port_at s).about) (Add u k) n) y) (word_same table about s w (Add v k) due) m in
        let behind = quiet_leaves table about s w (Add v k) due quiet in
        subst (λ a. SeatMakes false (machine_at s) (Add v k) (port_at s) a y) (plain_after table about s w (Add v k) due v n behind) told
