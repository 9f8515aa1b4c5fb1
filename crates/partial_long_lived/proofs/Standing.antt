-- The seat of a port in a call, from step to step.
use Rattle.partial_long_lived.proofs.{Common.{IsFinding, ℕ, ◌≡◌, ◌+◌, ◌-◌, ◌*◌, ◌<◌, ◌≤◌, ◌⊎◌, Bool, None, IfSome, List, sym, ap, subst, ◌∙◌, arith, TableId, Me, Allows, Site, base, packed, span, whole, IsEpochPlan, below_whole, SeatSees, Wish, component_at, sees, HaveSlots, Stands, About, Shape, Stand, IsRuleKept, SeatedPort, one_of, plan_of, SeatGoes, IsOne, tells, IsHeld, port_at, IsShapeOf}, Sights.may_see}
use Rattle.std.proofs.Math.Nat.{mul-le-mul_right}
use Rattle.partial_long_lived.specs.Inner.Calls as Calls
use Rattle.partial_long_lived.proofs.Control as Control

-- a seat that stands where it stood
pub held_then : (table : TableId) (about : About) (s t : Stand) → IsHeld table about s → t.seat.table_id ≡ s.seat.table_id → IsOne t.seat.me → SeatGoes (port_at s) (port_at t) →
    (port_at t).port.control.here ≡ (port_at s).port.control.here → t.shape ≡ s.shape → t.number ≡ s.number → t.epoch ≡ s.epoch → t.arena ≡ s.arena → t.base ≡ s.base →
    t.passed ≡ (port_at t).port.passed → IsHeld table about t
held_then table about s t h id one goes here shape number epoch arena base_is passed = record {
  fits = id ∙ h.fits;
  words = h.words;
  shape = subst (λ (z : Shape). IsShapeOf z about) (sym shape) h.shape;
  one = one;
  own = goes.about ∙ h.own;
  known = goes.known;
  number = number ∙ h.number ∙ sym goes.number;
  epoch = epoch ∙ h.epoch ∙ sym (ap (λ (d : Site). d.epoch) here);
  arena = arena ∙ h.arena ∙ sym (ap (λ (d : Site). d.arena) here);
  base = base_is ∙ h.base ∙ ap (base (plan_of about)) (sym arena);
  passed = passed;
}

-- there are words
pub some_word : (table : TableId) (about : About) (s : Stand) → IsHeld table about s → 0 < table.words
some_word table about s h = let is = h.words in omega (arith, is)

-- the words of ports are there
pub port_word : (table : TableId) (about : About) (s : Stand) → IsHeld table about s → 1 + s.number < table.words
port_word table about s h =
    let is = h.words in
    let low = h.known.number in
    let same = h.number in
    let ports = ap (λ (a : About). a.ports) h.own in
    omega (arith, is, low, same, ports)

-- the site where the port stands
pub site_is : (table : TableId) (about : About) (s : Stand) → IsHeld table about s → packed (record { epoch = s.epoch; arena = s.arena }) ≡ packed (port_at s).port.control.here
site_is table about s h = let epoch = h.epoch in let arena = h.arena in omega (arith, epoch, arena)

-- the parts of a site are small
pub site_small : (table : TableId) (about : About) (s : Stand) → IsHeld table about s → (s.epoch < 2199023255552) × (s.arena < 65536)
site_small table about s h =
    let epoch = h.epoch in
    let arena = h.arena in
    let site = h.known.site in
    let low = site.epoch in
    let few = site.arena in
    let most = h.known.plan.arenas in
    (omega (arith, epoch, low), omega (arith, arena, few, most))

-- a port of the memory may look
pub own_look : (about : About) (s : Stand) → (port_at s).about ≡ about → Calls.MayLook s → Control.MayLook about (port_at s).port
own_look about s own may = (may.stands, subst (λ (a : About). IfSome (port_at s).port.control.owned (λ o. (o.entering_word ≡ None) ⊎ (o.clean < a.ports))) own may.entering_words)

-- words of the arena where the port stands
module _ (table : TableId) (about : About) (s : Stand) (h : IsHeld table about s) where
  pub base_is : s.base ≡ base (plan_of about) (port_at s).port.control.here.arena
  base_is = h.base ∙ ap (base (plan_of about)) h.arena

  -- the last word of an arena is there
  pub arena_word : (i : ℕ) → i < span (plan_of about) → s.base + i < whole (plan_of about)
  arena_word i low =
      let is = base_is in
      let site = subst (λ (a : About). (port_at s).port.control.here.arena < a.arenas) h.own h.known.site.arena in
      let up = below_whole (plan_of about) (port_at s).port.control.here.arena i site low in
      omega (arith, is, up)

  pub arena_there : (i : ℕ) → i < span (plan_of about) → s.base + i < table.words
  arena_there i low = let up = arena_word i low in let is = h.words in omega (arith, up, is)

  pub component_there : (j : ℕ) → j < about.sizes.m → s.base + j < table.words
  component_there j inside = arena_there j (omega (arith, inside))

  pub see_asked : (port_at s).port.control.entering ≡ Stands → (first : Bool) (wish : Wish) (j : ℕ) → j < about.sizes.m → (IsFinding wish → j < (port_at s).port.passed) → (slots id : ℕ) →
      Allows (IsRuleKept about) slots id s.seat.me (s.base + j) (λ n. n) (sees first wish (s.base + j) s.seat.me)
  see_asked stands first wish j inside finds slots id =
      let is = base_is in
      let own = h.own in
      let at : component_at (port_at s) (s.base + j) ≡ j = ap (λ (a : About). s.base + j - base (plan_of a) (port_at s).port.control.here.arena) own ∙ omega (arith, is) in
      subst (λ i. Allows (IsRuleKept about) slots id s.seat.me (s.base + j) (λ n. n) (tells (SeatSees first wish i) s.seat.me)) (sym at)
      (subst (λ i. Allows (IsRuleKept about) slots id s.seat.me (i + j) (λ n. n) (tells (SeatSees first wish j) s.seat.me)) (sym is)
      (may_see about slots id s.seat.me h.one h.own h.known stands first wish j inside finds))

  -- a load as the seat sees it
  pub seen_at : (first : Bool) (wish : Wish) (j a : ℕ) (me : Me (Unit {0}) (List SeatedPort)) → sees first wish (s.base + j) s.seat.me a me → SeatSees first wish j (port_at s) a (one_of me.0)
  seen_at first wish j a me told =
      let is = base_is in
      let at : component_at (port_at s) (s.base + j) ≡ j = ap (λ (a : About). s.base + j - base (plan_of a) (port_at s).port.control.here.arena) h.own ∙ omega (arith, is) in
      subst (λ i. SeatSees first wish i (port_at s) a (one_of me.0)) at told.2

-- there is a slot for each port
pub room_of : (table : TableId) (about : About) (s : Stand) → IsHeld table about s → HaveSlots (plan_of about)
room_of table about s h = subst HaveSlots (sym h.shape) s.shape.sized.slots

-- the first word of an arena is a small number
pub base_small : (table : TableId) (about : About) (s : Stand) → IsHeld table about s → s.base < 1099511627776
base_small table about s h =
    let is = h.base in
    let small = (site_small table about s h).1 in
    let up : s.arena * span (plan_of about) ≤ 65535 * span (plan_of about) = mul-le-mul_right (span (plan_of about)) (omega (arith, small)) in
    let plan = subst (λ (a : About). IsEpochPlan (plan_of a)) h.own h.known.plan in
    let ports = plan.few in
    let arenas = plan.arenas in
    let m = plan.sizes.components.1 in
    let slots = plan.sizes.slots.1 in
    let lists = plan.sizes.lists in
    let pool = plan.sizes.pool.1 in
    omega (arith, is, up, ports, arenas, m, slots, lists, pool)
