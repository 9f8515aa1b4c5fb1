-- How a meeting of two ports leaves each of them.
use Rattle.partial_long_lived.proofs.{Common.{false, ◌≡◌, ◌<◌, ◌≤◌, List, [], ◌∷◌, length, take, inl, sym, ap, subst, ◌∙◌, arith, append-nil, take-append_seam, Me, TableId, Applied, core_of, About, Stand, Began, SeatedPort, first_port, one_of, IsOf, MemoryView, PortView, port_view, seen_in, HasCome, IsIdle, StaysAt, EpochSettled, IsHeld, port_at, BeginsWith, IsOne, HasMet, Observes, Knows, HasLawfulState, WereLawful, inr, ◌⊎◌, AreComparable}, Answering.{callers_see, goes_seen, view_before, view_after}, Coming.{begins_on, come_on}}
use Rattle.partial_long_lived.specs.Calls as calls

-- a port that has seen all of its epoch stands where it stood
observed_come : (s t : Stand) (y : SeatedPort) → IsIdle s → StaysAt s t → Observes (port_at s) y (port_at t) → HasCome s t
observed_come s t y idle kept w = record {
  shape = kept.shape;
  number = kept.number;
  goes = kept.goes;
  idle = record { stands = ap (λ (z : SeatedPort). z.port.control.entering) w.is ∙ idle.stands; free = ap (λ (z : SeatedPort). z.port.control.owned) w.is ∙ idle.free };
  machine = inl (kept.epoch, ap (λ (z : SeatedPort). core_of z.port.part) w.is, ap (λ (z : SeatedPort). z.port.over) w.is);
}

-- and so does the other one
beside_come : (s t : Stand) → IsIdle s → StaysAt s t → port_at t ≡ port_at s → HasCome s t
beside_come s t idle kept is = record {
  shape = kept.shape;
  number = kept.number;
  goes = kept.goes;
  idle = record { stands = ap (λ (z : SeatedPort). z.port.control.entering) is ∙ idle.stands; free = ap (λ (z : SeatedPort). z.port.control.owned) is ∙ idle.free };
  machine = inl (kept.epoch, ap (λ (z : SeatedPort). core_of z.port.part) is, ap (λ (z : SeatedPort). z.port.over) is);
}

-- the two ports may be named in any order
pub swapped_lawful : {a : About} {x y : SeatedPort} → WereLawful a x y → WereLawful a y x
swapped_lawful w = record {
  log = w.log;
  notes = w.notes;
  state = w.state;
  first = w.second;
  second = w.first;
  first_noted = w.second_noted;
  second_noted = w.first_noted;
  first_began = w.second_began;
  second_began = w.first_began;
}

-- the first look of a meeting, of the port at s beside the one at o
module _ (table : TableId) (about : About) (s o u p : Stand) (h : IsHeld table about s) (g : IsHeld table about o) (idle : IsIdle s) (free : IsIdle o) (kept : StaysAt s u) (kept_other : StaysAt o p)
    (same : port_at p ≡ port_at o) (w : Observes (port_at s) (port_at o) (port_at u)) where
  come : HasCome s u
  come = observed_come s u (port_at o) idle kept w

  come_other : HasCome o p
  come_other = beside_come o p free kept_other same

  -- in one epoch the other port looks too
  module _ (v q : Stand) (one : s.epoch ≡ o.epoch) (kept_last : StaysAt p v) (kept_first : StaysAt u q) (same_first : port_at q ≡ port_at u) (w' : Observes (port_at p) (port_at u) (port_at v)) where
    epochs : (port_at s).port.control.here.epoch ≡ (port_at o).port.control.here.epoch
    epochs = sym h.epoch ∙ one ∙ g.epoch

    all_now : BeginsWith (seen_in (port_at o).port) (seen_in (port_at u).port)
    all_now = w.all (let e = epochs in omega (arith, e))

    pub together_first : HasMet s o q
    together_first = record {
      come = come_on s u q come (beside_come u q come.idle kept_first same_first);
      notes = ap (λ (z : SeatedPort). z.notes) same_first ∙ ap (λ (z : SeatedPort). z.notes) w.is;
      all = subst (λ (z : SeatedPort). BeginsWith (seen_in (port_at o).port) (seen_in z.port)) (sym same_first) all_now;
      knows = subst (λ (z : SeatedPort). Knows (port_at o).about (port_at o).number (seen_in z.port) (port_at o).notes) (sym same_first) (w.known all_now);
    }

    pub together_lawful : WereLawful about (port_at q) (port_at v)
    together_lawful = subst (λ (z : SeatedPort). WereLawful about z (port_at v)) (sym same_first)
        (swapped_lawful (subst (λ (d : About). WereLawful d (port_at v) (port_at u)) (ap (λ (z : SeatedPort). z.about) same ∙ g.own) w'.lawful))

    all_then : BeginsWith (seen_in (port_at u).port) (seen_in (port_at v).port)
    all_then = w'.all (let e = epochs in let here = ap (λ (z : SeatedPort). z.port.control.here.epoch) w.is in let there = ap (λ (z : SeatedPort). z.port.control.here.epoch) same in omega (arith, e, here, there))

    pub together_one : AreComparable q v
    together_one = inl (subst (λ (z : SeatedPort). BeginsWith (seen_in z.port) (seen_in (port_at v).port)) (sym same_first) all_then)

    pub together_second : HasMet o s v
    together_second = record {
      come = come_on o p v come_other (observed_come p v (port_at u) come_other.idle kept_last w');
      notes = ap (λ (z : SeatedPort). z.notes) w'.is ∙ ap (λ (z : SeatedPort). z.notes) same;
      all = begins_on (seen_in (port_at s).port) (seen_in (port_at u).port) (seen_in (port_at v).port) kept.goes.seen all_then;
      knows = subst (λ (z : SeatedPort). Knows z.about z.number (seen_in (port_at v).port) z.notes) w.is (w'.known all_then);
    }

  -- from an earlier epoch the port enters the current one, and looks again
  module _ (r t q : Stand) (early : s.epoch < o.epoch) (settled : EpochSettled false u r) (held : IsHeld table about r) (kept_last : StaysAt r t) (kept_beside : StaysAt p q) (same_beside : port_at q ≡ port_at p)
      (w' : Observes (port_at r) (port_at p) (port_at t)) where
    come_late : (port_at p).port.control.here.epoch ≤ (port_at r).port.control.here.epoch
    come_late =
        let late = w.late in
        let there = ap (λ (z : SeatedPort). z.port.control.here.epoch) same in
        let began = ap (λ (z : Began). z.epoch) (settled.began ∙ ap (λ (z : SeatedPort). z.began) w.is) in
        let fresh_now = settled.fresh in
        let epoch = held.epoch in
        omega (arith, late, there, began, fresh_now, epoch)

    pub apart_first : HasMet s o t
    apart_first = record {
      come = come_on s u t come (come_on u r t settled.come (observed_come r t (port_at p) settled.come.idle kept_last w'));
      notes = ap (λ (z : SeatedPort). z.notes) w'.is ∙ settled.notes ∙ ap (λ (z : SeatedPort). z.notes) w.is;
      all = subst (λ (z : SeatedPort). BeginsWith (seen_in z.port) (seen_in (port_at t).port)) same (w'.all come_late);
      knows = subst (λ (z : SeatedPort). Knows z.about z.number (seen_in (port_at t).port) z.notes) same (w'.known (w'.all come_late));
    }

    pub apart_one : AreComparable t q
    apart_one = inr (subst (λ (z : SeatedPort). BeginsWith (seen_in z.port) (seen_in (port_at t).port)) (sym same_beside) (w'.all come_late))

    pub apart_lawful : WereLawful about (port_at t) (port_at q)
    apart_lawful = subst (WereLawful about (port_at t)) (sym same_beside) (subst (λ (d : About). WereLawful d (port_at t) (port_at p)) held.own w'.lawful)

    all_before : BeginsWith (seen_in (port_at s).port) (seen_in (port_at o).port)
    all_before = w.before (let here = h.epoch in let there = g.epoch in omega (arith, early, here, there))

    pub apart_second : HasMet o s q
    apart_second = record {
      come = come_on o p q come_other (beside_come p q come_other.idle kept_beside same_beside);
      notes = ap (λ (z : SeatedPort). z.notes) (same_beside ∙ same);
      all = subst (λ (z : SeatedPort). BeginsWith (seen_in (port_at s).port) (seen_in z.port)) (sym (same_beside ∙ same)) all_before;
      knows = subst (λ (z : SeatedPort). Knows (port_at s).about (port_at s).number (seen_in z.port) (port_at s).notes) (sym (same_beside ∙ same)) (w.known_before all_before);
    }

-- what a port has seen that had seen no less than another one, as callers see both
pub all_seen : (m : MemoryView) (t : Stand) (p : PortView) → port_view t.seat.table_id t.seat.steps (port_at t) ≡ p → IsOf m p → (u : Stand) → IsHeld m.table m.about u →
    BeginsWith (seen_in (port_at t).port) (seen_in (port_at u).port) → p.seen ≡ take (length p.seen) (port_view u.seat.table_id u.seat.steps (port_at u)).seen
all_seen m t p view own u held all =
    subst (λ (a : PortView). a.seen ≡ take (length a.seen) (port_view u.seat.table_id u.seat.steps (port_at u)).seen) (view_before m t p view own)
    (subst (λ (b : PortView). seen_in (port_at t).port ≡ take (length (seen_in (port_at t).port)) b.seen) (view_after m u held)
    (sym (take-append_seam (seen_in (port_at t).port) all.0) ∙ ap (λ (l : List Applied). take (length (seen_in (port_at t).port)) l) (sym all.1)))

-- a port that has met another one, as callers see it
pub goes_met : (m : MemoryView) (t o u : Stand) (p : PortView) → port_view t.seat.table_id t.seat.steps (port_at t) ≡ p → IsOf m p → IsHeld m.table m.about u → HasMet t o u →
    calls.Goes p (port_view u.seat.table_id u.seat.steps (port_at u)) []
goes_met m t o u p view own held w =
    callers_see m t u p view own held (λ (a b : PortView). calls.Goes a b []) (goes_seen m.table (port_at t) (port_at u) [] w.come.goes (w.notes ∙ sym (append-nil (port_at t).notes)))

-- the port that is taken out of a seat of one is that port
pub taken_same : (v : List SeatedPort) (me : Me (Unit {0}) (List SeatedPort)) → v ≡ one_of v ∷ [] → me ≡ (first_port v, []) → one_of me.0 ≡ one_of v
taken_same v me one is = ap (λ (m : Me (Unit {0}) (List SeatedPort)). one_of m.0) is ∙ ap (λ (l : List SeatedPort). one_of (first_port l)) one

-- and its seat is of one port
pub taken_one : (v : List SeatedPort) (me : Me (Unit {0}) (List SeatedPort)) → v ≡ one_of v ∷ [] → me ≡ (first_port v, []) → IsOne me
taken_one v me one is = (
  ap (λ (m : Me (Unit {0}) (List SeatedPort)). m.0) is ∙ ap first_port one ∙ ap (λ (x : SeatedPort). x ∷ []) (sym (taken_same v me one is)),
  ap (λ (m : Me (Unit {0}) (List SeatedPort)). m.1) is,
)

-- a meeting of ports that were taken out for it is one of the ports as they stood before
pub met_out : (s t o p u : Stand) → IsIdle s → StaysAt s t → port_at t ≡ port_at s → port_at p ≡ port_at o → HasMet t p u → HasMet s o u
met_out s t o p u idle kept same beside w = record {
  come = come_on s t u (beside_come s t idle kept same) w.come;
  notes = w.notes ∙ ap (λ (z : SeatedPort). z.notes) same;
  all = subst (λ (z : SeatedPort). BeginsWith (seen_in z.port) (seen_in (port_at u).port)) beside w.all;
  knows = subst (λ (z : SeatedPort). Knows z.about z.number (seen_in (port_at u).port) z.notes) beside w.knows;
}

-- a history that begins another one, as callers see both
begins_seen : (h l : List Applied) → BeginsWith h l → h ≡ take (length h) l
begins_seen h l begins = sym (take-append_seam h begins.0) ∙ ap (λ (t : List Applied). take (length h) t) (sym begins.1)

-- two histories of which the one begins the other, as callers see both
pub comparable_seen : (s t : Stand) → AreComparable s t → (seen_in (port_at s).port ≡ take (length (seen_in (port_at s).port)) (seen_in (port_at t).port))
    ⊎ (seen_in (port_at t).port ≡ take (length (seen_in (port_at t).port)) (seen_in (port_at s).port))
comparable_seen s t (inl begins) = inl (begins_seen (seen_in (port_at s).port) (seen_in (port_at t).port) begins)
comparable_seen s t (inr begins) = inr (begins_seen (seen_in (port_at t).port) (seen_in (port_at s).port) begins)

-- in any order
pub swapped : {A B : Type 0} → A ⊎ B → B ⊎ A
swapped (inl first) = inr first
swapped (inr second) = inl second

-- the rule that held as two ports met, as callers see it
pub met_lawfully : (m : MemoryView) (u v : Stand) → IsHeld m.table m.about u → WereLawful m.about (port_at u) (port_at v) →
    calls.MeetByTheRule (port_view u.seat.table_id u.seat.steps (port_at u)) (port_view v.seat.table_id v.seat.steps (port_at v))
met_lawfully m u v held w = record {
  log = w.log;
  notes = w.notes;
  state = subst (λ (d : About). HasLawfulState d w.log w.notes) (sym held.own) w.state;
  first = record { seen = begins_seen (seen_in (port_at u).port) w.log w.first; noted = w.first_noted; began = w.first_began };
  second = record { seen = begins_seen (seen_in (port_at v).port) w.log w.second; noted = w.second_noted; began = w.second_began };
}
