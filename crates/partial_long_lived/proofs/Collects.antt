-- The loads of a collect: what they leave of a port, and what they show it.
use Rattle.partial_long_lived.proofs.{Common.{ℕ, ◌≡◌, ◌+◌, ◌<◌, ◌≤◌, ◌++◌, Bool, false, List, [], length, take, slice_set, refl, sym, ap, subst, ◌∙◌, inl, inr, arith, append-nil, length-append, slice_index, eqb_tells, get_or-set_other, get_or-set_same, take-append-le, take_all, TableId, Applied, stamp_of, Noted, total, core_of, having_seen, About, Stand, Began, SeatedPort, BeginsWith, IsHeld, port_at, HasCome, IsIdle, StaysAt, SeatSees, opening_of, Glances, AreCollected, HasGlanced, HasStayed, WasThere}, Coming.{begins_on, come_on, goes_same, kept_on}}

kept_same : (table : TableId) (about : About) (s : Stand) → IsHeld table about s → StaysAt s s
kept_same table about s h = record { shape = refl; number = refl; epoch = refl; arena = refl; base = refl; passed = refl; goes = goes_same (port_at s) h.known }

-- a load of a component word but the first
pub glanced_by : (s t : Stand) (j a : ℕ) → StaysAt s t → SeatSees false Glances j (port_at s) a (port_at t) → HasGlanced s t
glanced_by s t j a kept w = record {
  kept = kept;
  log = w.log;
  begins = w.begins;
  is = w.is ∙ ap (λ (n : Began). record (port_at s) { port = having_seen (port_at s).port w.log; began = n; notes = (port_at s).notes ++ [] }) w.began
      ∙ ap (λ (l : List Noted). record (port_at s) { port = having_seen (port_at s).port w.log; notes = l }) (append-nil (port_at s).notes);
}

pub glanced_itself : (table : TableId) (about : About) (s : Stand) → IsHeld table about s → HasGlanced s s
glanced_itself table about s h = record { kept = kept_same table about s h; log = (port_at s).port.part.seen; begins = ([], sym (append-nil (port_at s).port.part.seen)); is = refl }

pub glanced_on : (s t u : Stand) → HasGlanced s t → HasGlanced t u → HasGlanced s u
glanced_on s t u a c = record {
  kept = kept_on s t u a.kept c.kept;
  log = c.log;
  begins = begins_on (port_at s).port.part.seen a.log c.log a.begins (subst (λ (x : SeatedPort). BeginsWith x.port.part.seen c.log) a.is c.begins);
  is = c.is ∙ ap (λ (x : SeatedPort). record x { port = having_seen x.port c.log }) a.is;
}

-- the port has seen no less then
pub glanced_seen : (s t : Stand) → HasGlanced s t → length (port_at s).port.part.seen ≤ length (port_at t).port.part.seen
glanced_seen s t w =
    let is = ap (λ (x : SeatedPort). length x.port.part.seen) w.is in
    let long = ap (λ (l : List Applied). length l) w.begins.1 in
    let both = length-append (port_at s).port.part.seen w.begins.0 in
    omega (arith, is, long, both)

pub glanced_idle : (s t : Stand) → IsIdle s → HasGlanced s t → IsIdle t
glanced_idle s t idle w = record { stands = ap (λ (x : SeatedPort). x.port.control.entering) w.is ∙ idle.stands; free = ap (λ (x : SeatedPort). x.port.control.owned) w.is ∙ idle.free }

pub glanced_come : (s t : Stand) → IsIdle s → HasGlanced s t → HasCome s t
glanced_come s t idle w = record {
  shape = w.kept.shape;
  number = w.kept.number;
  goes = w.kept.goes;
  idle = glanced_idle s t idle w;
  machine = inl (w.kept.epoch, ap (λ (x : SeatedPort). core_of x.port.part) w.is, ap (λ (x : SeatedPort). x.port.over) w.is);
}

pub glanced_stayed : (s t : Stand) → IsIdle s → HasGlanced s t → HasStayed s t
glanced_stayed s t idle w = record { come = glanced_come s t idle w; epoch = w.kept.epoch }

pub glanced_notes : (s t : Stand) → HasGlanced s t → (port_at t).notes ≡ (port_at s).notes
glanced_notes s t w = ap (λ (x : SeatedPort). x.notes) w.is

pub stayed_on : (s t u : Stand) → HasStayed s t → HasStayed t u → HasStayed s u
stayed_on s t u a c = record { come = come_on s t u a.come c.come; epoch = c.epoch ∙ a.epoch }

-- a word that was there was there, whatever the port has seen since
there_on : (x : SeatedPort) (l : List Applied) (low high high' j w : ℕ) → BeginsWith x.port.part.seen l → high ≤ length x.port.part.seen → high ≤ high' → WasThere x low high j w →
    WasThere (record x { port = having_seen x.port l }) low high' j w
there_on x l low high high' j w begins few more r =
    let to = r.to in record {
      entries = r.entries;
      from = r.from;
      to = omega (arith, to, more);
      stamp = r.stamp ∙ ap (λ (h : List Applied). stamp_of (opening_of x) h j)
          (sym (take-append-le r.entries x.port.part.seen begins.0 (omega (arith, to, few))) ∙ ap (λ (h : List Applied). take r.entries h) (sym begins.1));
      within = r.within;
    }

pub glanced_there : (s t : Stand) → HasGlanced s t → (low high high' : ℕ) (js ws : List ℕ) (n : ℕ) → high ≤ length (port_at s).port.part.seen → high ≤ high' →
    AreCollected (port_at s) low high js ws n → AreCollected (port_at t) low high' js ws n
glanced_there s t w low high high' js ws n few more all k less =
    subst (λ (x : SeatedPort). WasThere x low high' (slice_index js k) (slice_index ws k)) (sym w.is)
    (there_on (port_at s) w.log low high high' (slice_index js k) (slice_index ws k) w.begins few more (all k less))

-- the word that a load has found names the record after all that the port has seen
pub there_now : (first : Bool) (x y : SeatedPort) (low j a : ℕ) → SeatSees first Glances j x a y → low ≤ length y.port.part.seen → WasThere y low (length y.port.part.seen) j a
there_now first x y low j a w few =
    let seen : y.port.part.seen ≡ w.log = ap (λ (z : SeatedPort). z.port.part.seen) w.is in record {
      entries = length y.port.part.seen;
      from = few;
      to = omega arith;
      stamp = w.stamp ∙ ap (λ (h : List Applied). stamp_of (opening_of x) h j) (sym (take_all (length y.port.part.seen) y.port.part.seen (omega arith) ∙ seen))
          ∙ ap (λ (z : SeatedPort). stamp_of (opening_of z) (take (length y.port.part.seen) y.port.part.seen) j) (sym w.is);
      within = let low = w.within in let about = ap (λ (z : SeatedPort). total z.about.sizes) w.is in omega (arith, low, about);
    }

-- one word more of a collect
collected_more : (x : SeatedPort) (low high : ℕ) (js ws : List ℕ) (n a : ℕ) → n < length ws → AreCollected x low high js ws n → WasThere x low high (slice_index js n) a →
    AreCollected x low high js (slice_set ws n a) (n + 1)
collected_more x low high js ws n a room all new k less = elim (eqb_tells k n) [
  | inl same ↦ subst (λ i. WasThere x low high (slice_index js i) (slice_index (slice_set ws n a) i)) (sym same.1) (subst (WasThere x low high (slice_index js n)) (sym (get_or-set_same ws n a 0 room)) new)
  | inr other ↦
      let ne = other.1 in
      subst (WasThere x low high (slice_index js k)) (sym (get_or-set_other ws n k a 0 ne)) (all k (omega (arith, less, ne)))
]

-- the next load of the first collect
pub collects_one : (s t : Stand) (js ws : List ℕ) (n a : ℕ) → n < length ws → StaysAt s t → SeatSees false Glances (slice_index js n) (port_at s) a (port_at t) →
    AreCollected (port_at s) 0 (length (port_at s).port.part.seen) js ws n → AreCollected (port_at t) 0 (length (port_at t).port.part.seen) js (slice_set ws n a) (n + 1)
collects_one s t js ws n a room kept w all =
    let g = glanced_by s t (slice_index js n) a kept w in
    collected_more (port_at t) 0 (length (port_at t).port.part.seen) js ws n a room
    (glanced_there s t g 0 (length (port_at s).port.part.seen) (length (port_at t).port.part.seen) js ws n (omega arith) (glanced_seen s t g) all)
    (there_now false (port_at s) (port_at t) 0 (slice_index js n) a w (omega arith))

-- and of the second one
pub collects_same : (s t : Stand) (low : ℕ) (js ws : List ℕ) (n a : ℕ) → StaysAt s t →
    SeatSees false Glances (slice_index js n) (port_at s) a (port_at t) → a ≡ slice_index ws n → low ≤ length (port_at s).port.part.seen →
    AreCollected (port_at s) low (length (port_at s).port.part.seen) js ws n → AreCollected (port_at t) low (length (port_at t).port.part.seen) js ws (n + 1)
collects_same s t low js ws n a kept w same few all k less = elim (eqb_tells k n) [
  | inl here ↦
      let more = glanced_seen s t (glanced_by s t (slice_index js n) a kept w) in
      subst (λ i. WasThere (port_at t) low (length (port_at t).port.part.seen) (slice_index js i) (slice_index ws i)) (sym here.1)
      (subst (WasThere (port_at t) low (length (port_at t).port.part.seen) (slice_index js n)) same (there_now false (port_at s) (port_at t) low (slice_index js n) a w (omega (arith, few, more))))
  | inr other ↦
      let ne = other.1 in
      let g = glanced_by s t (slice_index js n) a kept w in
      glanced_there s t g low (length (port_at s).port.part.seen) (length (port_at t).port.part.seen) js ws n (omega arith) (glanced_seen s t g) all k (omega (arith, less, ne))
]
