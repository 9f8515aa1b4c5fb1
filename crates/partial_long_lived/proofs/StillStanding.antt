-- Components that still have the stamps that they had.
use Rattle.partial_long_lived.proofs.{Common.{true, ℕ, ◌≡◌, ◌+◌, ◌<◌, ◌≤◌, List, [], ◌∷◌, length, take, sym, ap, subst, ◌∙◌, inl, inr, arith, append-nil, slice_index, eqb_tells, take-append-le, TableId, Applied, stamp_of, stamps_never_return, About, Stand, SeatedPort, IsOf, MemoryView, PortView, port_view, seen_in, Differ, HasStampThen, StillStand, SeatGoes, IsHeld, port_at, EpochSettled, HasGlanced, HadAnother, HadStamp, HadStamps, HasStamp, stamp_at, StoodTogether}, Answering.{callers_see, goes_seen}, Coming.seen_more}

-- what the port had seen begins what it has seen then
taken_more : (x y : SeatedPort) → SeatGoes x y → (n : ℕ) → n ≤ length (seen_in x.port) → take n (seen_in y.port) ≡ take n (seen_in x.port)
taken_more x y g n few = ap (λ (l : List Applied). take n l) g.seen.1 ∙ take-append-le n (seen_in x.port) g.seen.0 few

-- a component that had a stamp had it
had_on : (s t : Stand) → HasGlanced s t → (j v : ℕ) → HadStamp (port_at s) j v → HadStamp (port_at t) j v
had_on s t g j v w =
    let same = ap (λ (z : SeatedPort). z.began.length) g.is in
    let from = w.from in
    let to = w.to in
    let more = seen_more (port_at s) (port_at t) g.kept.goes in record {
      inside = subst (λ (a : About). j < a.sizes.m) (sym g.kept.goes.about) w.inside;
      moment = w.moment;
      from = omega (arith, same, from);
      to = omega (arith, to, more);
      is = w.is ∙ ap (λ (a : About). stamp_of a.opening (take w.moment (seen_in (port_at s).port)) j) (sym g.kept.goes.about)
          ∙ ap (λ (l : List Applied). stamp_of (port_at t).about.opening l j) (sym (taken_more (port_at s) (port_at t) g.kept.goes w.moment to));
    }

pub had_now : (x : SeatedPort) (j v : ℕ) → j < x.about.sizes.m → HasStamp x j v → HadStamp x j v
had_now x j v inside w = record { inside = inside; moment = length (seen_in x.port); from = w.time; to = omega arith; is = w.is }

-- one component more
pub had_more : (s t : Stand) → HasGlanced s t → (js ss : List ℕ) (n v : ℕ) → slice_index js n < (port_at t).about.sizes.m →
    HasStamp (port_at t) (slice_index js n) v → v ≡ slice_index ss n → HadStamps (port_at s) js ss n →
    HadStamps (port_at t) js ss (n + 1)
had_more s t g js ss n v inside now same all k less = elim (eqb_tells k n) [
  | inl here ↦ subst (λ i. HadStamp (port_at t) (slice_index js i) (slice_index ss i)) (sym here.1)
      (subst (HadStamp (port_at t) (slice_index js n)) same (had_now (port_at t) (slice_index js n) v inside now))
  | inr other ↦ let ne = other.1 in had_on s t g (slice_index js k) (slice_index ss k) (all k (omega (arith, less, ne)))
]

-- the same, as callers see it
module _ (table : TableId) (s t : Stand) (settled : EpochSettled true s t) where
  abbrev x : SeatedPort
  x = port_at s

  abbrev y : SeatedPort
  y = port_at t

  goes : SeatGoes x y
  goes = settled.come.goes

  -- A component that had this stamp in what the port had seen before the call, and has it at a moment of the call, has it between.
  stood : (n j v : ℕ) → length (seen_in x.port) ≤ n → (h : HadStamp y j v) → n ≤ h.moment → (i : ℕ) → i ≤ length (seen_in x.port) →
      HasStampThen (port_view table s.seat.steps x) i j v → HasStampThen (port_view table t.seat.steps y) n j v
  stood n j v behind h early i few was =
      let values = goes.known.plan.values in
      let inside = h.inside in
      let before : stamp_at y i j ≡ v =
      ap (λ (l : List Applied). stamp_of y.about.opening l j) (taken_more x y goes i few) ∙ ap (λ (a : About). stamp_of a.opening (take i (seen_in x.port)) j) goes.about ∙ was in
      let then = stamps_never_return y.about.opening (seen_in y.port) j i h.moment n goes.known.knows.history (omega (arith, values, inside)) (omega (arith, few, behind)) early (before ∙ h.is) in
      then.0 ∙ before

  still_at : (js ss : List ℕ) → HadStamps y js ss (length js) → (n : ℕ) → y.began.length ≤ n → n ≤ length (seen_in y.port) →
      ((k v : ℕ) → k < length js → (h : HadStamp y (slice_index js k) v) → n ≤ h.moment) →
      StoodTogether (port_view table s.seat.steps x) (port_view table t.seat.steps y) js ss
  still_at js ss had n behind within early = record {
    goes = goes_seen table x y [] goes (settled.notes ∙ sym (append-nil x.notes));
    there = λ k low. subst (λ (a : About). slice_index js k < a.sizes.m) goes.about (had k low).inside;
    place = n;
    first = settled.began;
    behind = behind;
    within = within;
    each = λ k low. let h = had k low in (h.moment, early k (slice_index ss k) low h, h.to, sym h.is);
    together = λ k low i few was. stood n (slice_index js k) (slice_index ss k) (let first = settled.began in omega (arith, first, behind)) (had k low) (early k (slice_index ss k) low (had k low)) i few was;
  }

  pub still : (js ss : List ℕ) → HadStamps y js ss (length js) → StillStand (port_view table s.seat.steps x) (port_view table t.seat.steps y) js ss
  still [] ss had = goes_seen table x y [] goes (settled.notes ∙ sym (append-nil x.notes))
  still (j ∷ js) ss had =
      let first = had 0 (omega arith) in
      let from = first.from in
      let to = first.to in
      still_at (j ∷ js) ss had y.began.length (omega arith) (omega (arith, from, to)) (λ k v low h. h.from)

  pub differ : (js ss : List ℕ) → HadAnother y js ss → Differ (port_view table s.seat.steps x) (port_view table t.seat.steps y) js ss
  differ js ss w = record {
    goes = goes_seen table x y [] goes (settled.notes ∙ sym (append-nil x.notes));
    first = settled.began;
    position = w.position;
    inside = w.inside;
    why = elim w.why [
      | inl missing ↦ inl (subst (λ (a : About). a.sizes.m ≤ slice_index js w.position) goes.about missing)
      | inr other ↦
          let h = other.1 in
          inr (h.moment, h.from, h.to, λ same. other.2 (h.is ∙ same))
    ];
  }

-- the same, as callers see the port
module _ (m : MemoryView) (t u : Stand) (p : PortView) (view : port_view t.seat.table_id t.seat.steps (port_at t) ≡ p) (own : IsOf m p) (held : IsHeld m.table m.about u) (settled : EpochSettled true t u) (js ss : List ℕ) where
  pub still_seen : HadStamps (port_at u) js ss (length js) → StillStand p (port_view u.seat.table_id u.seat.steps (port_at u)) js ss
  still_seen had = callers_see m t u p view own held (λ (a b : PortView). StillStand a b js ss) (still m.table t u settled js ss had)

  pub differ_seen : HadAnother (port_at u) js ss → Differ p (port_view u.seat.table_id u.seat.steps (port_at u)) js ss
  differ_seen had = callers_see m t u p view own held (λ (a b : PortView). Differ a b js ss) (differ m.table t u settled js ss had)
