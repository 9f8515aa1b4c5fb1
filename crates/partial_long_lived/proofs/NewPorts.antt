-- A memory as it opens, and its ports.
use Rattle.partial_long_lived.proofs.{Common.{AllByRecursion, ℕ, zero, suc, ◌≡◌, ◌+◌, ◌<◌, false, List, [], ◌∷◌, length, refl, sym, ap, subst, ◌∙◌, arith, Me, TableId, Opening, Layout, pool_base, CoreState, fresh, IsBetween, ports_come_between, base, whole, OpensAll, About, Shape, Stand, SeatedPort, first_port, newcomer, newcomers, one_of, plan_of, IsShapeOf, shape_plan, IsOf, new_ports, IsResting, IsSeatKnown, port_at, OpensShape, most_ahead, IsLayout, fresh_part, claimed_end, ◌≤◌}, Opens.newcomer_known}
use Rattle.partial_long_lived.specs.Inner.Opening.{IsLaidOut}

-- the opening words are those of an opening with the same values and the same stamp
pub opens_as : (s : Shape) (o : Opening) (values : List ℕ) (words : List ℕ) → OpensShape s values words → o ≡ record { values = values; first = pool_base s.sizes } → OpensAll (shape_plan s o) words
opens_as s o values words w same = subst (λ (p : Opening). OpensAll (shape_plan s p) words) (sym same) w

-- openings with the same values and the same stamp are one
pub same_opening : (o p : Opening) → o.values ≡ p.values → o.first ≡ p.first → o ≡ p
same_opening o p values first = ap (λ (w : List ℕ). record { values = w; first = o.first }) values ∙ ap (λ (f : ℕ). record { values = p.values; first = f }) first

-- a table with the words of an opening, and with the seat of all its ports, whichever name what it was opened with has
pub is_opened : (a key : About) (words : List ℕ) (table seat : TableId) (me : Me (Unit {0}) (List SeatedPort)) (n : ℕ) → OpensAll (plan_of a) words → key ≡ a →
    table.words ≡ length words → table.slots ≡ 0 → seat ≡ table → me ≡ (newcomers a 0 n, []) → IsLaidOut table key n seat me
is_opened a key words table seat me n opens is count slots fits all = record {
  words = words;
  opens = subst (λ (b : About). OpensAll (plan_of b) words) (sym is) opens;
  count = count;
  slots = slots;
  fits = fits;
  all = all ∙ ap (λ (b : About). (newcomers b 0 n, [])) (sym is);
}

-- the ports of a new memory belong to it
pub new_own : (t : TableId) (a : About) (k n : ℕ) → AllByRecursion (IsOf (record { table = t; about = a })) (new_ports t (newcomers a k n))
new_own t a k zero = tt
new_own t a k (suc n) = (refl, new_own t a (k + 1) n)

-- so many words ahead make no other machine
ahead_between : (z : Layout) (i n : ℕ) → IsLayout z → n ≤ most_ahead → IsBetween (fresh_part z i) (record (fresh z i) { ahead = n })
ahead_between z i n layout few =
    let b = ports_come_between.0 z i layout in
    let w = b.sound in
    record {
      rest = b.rest;
      like = record { sizes = refl; port = refl; pool = refl; slots = refl; lists = refl; spare = refl };
      idle = refl;
      sound = record { asked = w.asked; found = w.found; indices = w.indices; distinct = w.distinct; rows = w.rows; ahead = few; spare = w.spare; stage = w.stage };
    }

-- a port that has made no call rests
newcomer_rests : (a : About) (words : List ℕ) → OpensAll (plan_of a) words → (i : ℕ) → i < a.ports → (s : Stand) (core : CoreState) → s.seat.table_id.words ≡ length words → s.seat.me ≡ (newcomer a i ∷ [], []) →
    IsShapeOf s.shape a → s.number ≡ i → s.epoch ≡ 0 → s.arena ≡ 0 → s.base ≡ base (plan_of a) 0 → s.passed ≡ 0 → (n : ℕ) → n ≤ most_ahead → core ≡ record (fresh a.sizes i) { ahead = n } → IsResting s core false
newcomer_rests a words w i low s core count me shape number epoch arena base_is passed n few machine =
    let is : port_at s ≡ newcomer a i = ap (λ (m : Me (Unit {0}) (List SeatedPort)). one_of m.0) me in
    let own : (port_at s).about ≡ a = ap (λ (x : SeatedPort). x.about) is in
    let between : IsBetween (newcomer a i).port.part core = subst (IsBetween (newcomer a i).port.part) (sym machine) (ahead_between a.sizes i n w.plan.sizes few) in
    record {
      held = record {
        fits = refl;
        words = count ∙ w.count ∙ ap (λ (b : About). whole (plan_of b)) (sym own);
        shape = subst (IsShapeOf s.shape) (sym own) shape;
        one = (ap (λ (m : Me (Unit {0}) (List SeatedPort)). m.0) me ∙ ap (λ (x : SeatedPort). x ∷ []) (sym is), ap (λ (m : Me (Unit {0}) (List SeatedPort)). m.1) me);
        own = refl;
        known = subst IsSeatKnown (sym is) (newcomer_known a words w i low);
        number = number ∙ ap (λ (x : SeatedPort). x.number) (sym is);
        epoch = epoch ∙ ap (λ (x : SeatedPort). x.port.control.here.epoch) (sym is);
        arena = arena ∙ ap (λ (x : SeatedPort). x.port.control.here.arena) (sym is);
        base = base_is ∙ ap (λ (b : About). base (plan_of b) 0) (sym own) ∙ ap (base (plan_of (port_at s).about)) (sym arena);
        passed = passed ∙ ap (λ (x : SeatedPort). x.port.passed) (sym is);
      };
      rests = record {
        free = record { stands = ap (λ (x : SeatedPort). x.port.control.entering) is; free = ap (λ (x : SeatedPort). x.port.control.owned) is };
        idle = between.idle;
        sound = between.sound;
        sizes = ap (λ (c : CoreState). c.sizes) machine ∙ ap (λ (b : About). b.sizes) (sym own);
        port = ap (λ (c : CoreState). c.port) machine ∙ sym number;
        between = λ fresh. (
          subst (λ (x : SeatedPort). IsBetween x.port.part core) (sym is) between,
          ap (λ (x : SeatedPort). x.port.over) is,
          ap (λ (c : CoreState). c.pool_spent) machine,
          ap (λ (c : CoreState). c.slots_spent) machine,
          (let opens = w.plan.opens in let limit = ap (λ (b : About). b.limit) own in let spare = ap claimed_end machine in omega (arith, opens, limit, spare)),
        );
      };
    }

pub rests_new : (a : About) (i : ℕ) (v : List SeatedPort) → first_port v ≡ newcomer a i ∷ [] → (words : List ℕ) → OpensAll (plan_of a) words → i < a.ports → (s : Stand) (core : CoreState) (z : Layout) →
    s.seat.table_id.words ≡ length words → s.seat.me ≡ (first_port v, []) →
    IsShapeOf s.shape a → s.number ≡ i → s.epoch ≡ 0 → s.arena ≡ 0 → s.base ≡ base (plan_of a) 0 → s.passed ≡ 0 → (n : ℕ) → n ≤ most_ahead → core ≡ record (fresh z i) { ahead = n } → a.sizes ≡ z → IsResting s core false
rests_new a i v first words w low s core z count me shape number epoch arena base_is passed n few machine sizes =
    newcomer_rests a words w i low s core count (me ∙ ap (λ (u : List SeatedPort). (u, [])) first) shape number epoch arena base_is passed n few (machine ∙ ap (λ (y : Layout). record (fresh y i) { ahead = n }) (sym sizes))
