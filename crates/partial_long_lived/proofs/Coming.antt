-- A port between the parts of a call: it stands where it stood, or has entered a later epoch.
use Rattle.std.proofs.Common.{le_refl, le_trans}
use Rattle.partial_long_lived.proofs.{Common.{ℕ, ◌≡◌, ◌<◌, ◌≤◌, ◌&&◌, ◌++◌, not, Bool, true, false, if◌then◌else◌, Some, List, [], ◌∷◌, length, refl, sym, ap, subst, ◌∙◌, inl, inr, arith, lt-ltb, append-nil, append_assoc, length-append, nat_lt, TableId, Applied, value_of, Noted, fresh, core_of, seal, unsealed, not_below, public_of, About, Stand, Began, SeatedPort, plan_of, seen_in, BeginsWith, SeatGoes, IsHeld, port_at, SeatSees, Wish, noted_by, opening_of, place_seen, stamp_seen, value_seen, Reads, HasCome, HasNotedRead, HasValue, IsIdle, StaysAt, EpochSettled, Call, Answer, Note, IsSeatKnown}}

pub begins_on : (h l m : List Applied) → BeginsWith h l → BeginsWith l m → BeginsWith h m
begins_on h l m a c = (a.0 ++ c.0, c.1 ∙ ap (λ (t : List Applied). t ++ c.0) a.1 ∙ append_assoc h a.0 c.0)

-- by no step a seat stays that of its port
pub goes_same : (x : SeatedPort) → IsSeatKnown x → SeatGoes x x
goes_same x known = record { about = refl; number = refl; epoch = le_refl _; seals = le_refl _; seen = ([], sym (append-nil (seen_in x.port))); known = known }

-- steps follow on steps
pub goes_on : (x y z : SeatedPort) → SeatGoes x y → SeatGoes y z → SeatGoes x z
goes_on x y z a c = record {
  about = c.about ∙ a.about;
  number = c.number ∙ a.number;
  epoch = le_trans a.epoch c.epoch;
  seals = le_trans a.seals c.seals;
  seen = begins_on (seen_in x.port) (seen_in y.port) (seen_in z.port) a.seen c.seen;
  known = c.known;
}

-- a port has seen no less than before
pub seen_more : (x y : SeatedPort) → SeatGoes x y → length (seen_in x.port) ≤ length (seen_in y.port)
seen_more x y goes =
    let all = ap (λ (l : List Applied). length l) goes.seen.1 in
    let both = length-append (seen_in x.port) goes.seen.0 in
    omega (arith, all, both)

-- by no step a port stays where it is
pub come_itself : (table : TableId) (about : About) (s : Stand) → IsHeld table about s → IsIdle s → HasCome s s
come_itself table about s h idle = record {
  shape = refl;
  number = refl;
  goes = goes_same (port_at s) h.known;
  idle = idle;
  machine = inl (refl, refl, refl);
}

-- a port that has seen more stands where it stood
pub come_seen : (s u v : Stand) (first : Bool) (wish : Wish) (j a : ℕ) → HasCome s u → StaysAt u v → SeatSees first wish j (port_at u) a (port_at v) → HasCome s v
come_seen s u v first wish j a come kept w =
    let is = w.is in
    let core : core_of (port_at v).port.part ≡ core_of (port_at u).port.part = ap (λ (x : SeatedPort). core_of x.port.part) is in
    let over : (port_at v).port.over ≡ (port_at u).port.over = ap (λ (x : SeatedPort). x.port.over) is in
    record {
      shape = kept.shape ∙ come.shape;
      number = kept.number ∙ come.number;
      goes = goes_on (port_at s) (port_at u) (port_at v) come.goes kept.goes;
      idle = record { stands = ap (λ (x : SeatedPort). x.port.control.entering) is ∙ come.idle.stands; free = ap (λ (x : SeatedPort). x.port.control.owned) is ∙ come.idle.free };
      machine = elim come.machine [
        | inl same ↦ inl (kept.epoch ∙ same.0, core ∙ same.1, over ∙ same.2)
        | inr later ↦ inr (let up = later.0 in let epoch = kept.epoch in omega (arith, up, epoch), core ∙ later.1, over ∙ later.2)
      ];
    }

-- and so does one of which nothing has changed
pub come_same : (s u v : Stand) → HasCome s u → StaysAt u v → port_at v ≡ port_at u → HasCome s v
come_same s u v come kept is = record {
  shape = kept.shape ∙ come.shape;
  number = kept.number ∙ come.number;
  goes = goes_on (port_at s) (port_at u) (port_at v) come.goes kept.goes;
  idle = record { stands = ap (λ (x : SeatedPort). x.port.control.entering) is ∙ come.idle.stands; free = ap (λ (x : SeatedPort). x.port.control.owned) is ∙ come.idle.free };
  machine = elim come.machine [
    | inl same ↦ inl (kept.epoch ∙ same.0, ap (λ (x : SeatedPort). core_of x.port.part) is ∙ same.1, ap (λ (x : SeatedPort). x.port.over) is ∙ same.2)
    | inr later ↦ inr (
      let up = later.0 in let epoch = kept.epoch in omega (arith, up, epoch),
      ap (λ (x : SeatedPort). core_of x.port.part) is ∙ later.1,
      ap (λ (x : SeatedPort). x.port.over) is ∙ later.2,
    )
  ];
}

-- a port that has moved to another stand
pub come_on : (s u v : Stand) → HasCome s u → HasCome u v → HasCome s v
come_on s u v a c = record {
  shape = c.shape ∙ a.shape;
  number = c.number ∙ a.number;
  goes = goes_on (port_at s) (port_at u) (port_at v) a.goes c.goes;
  idle = c.idle;
  machine = elim c.machine [
    | inl same ↦ elim a.machine [
      | inl was ↦ inl (same.0 ∙ was.0, same.1 ∙ was.1, same.2 ∙ was.2)
      | inr later ↦ inr (let up = later.0 in let is = same.0 in omega (arith, up, is), same.1 ∙ later.1, same.2 ∙ later.2)
    ]
    | inr new ↦
        let up = new.0 in
        let low : s.epoch < v.epoch = (elim a.machine [
          | inl was ↦ let same = was.0 in omega (arith, up, same)
          | inr later ↦ let more = later.0 in omega (arith, up, more)
        ]) in
        inr (low, new.1 ∙ ap (λ (z : About). fresh z.sizes (port_at u).number) a.goes.about ∙ ap (fresh (port_at s).about.sizes) a.goes.number, new.2)
  ];
}

-- What a read has loaded last: it stands in an epoch that was the current one during the read, and has noted its answer.
module _ (table : TableId) (about : About) (s u v t : Stand) (h : IsHeld table about v) (come : HasCome s u) (kept : StaysAt u v) (first : Bool) (j a : ℕ)
    (w : SeatSees first Reads j (port_at u) a (port_at v))
    (fresh_now : (port_at v).began.epoch ≤ (port_at u).port.control.here.epoch) (noted : (first && not (nat_lt a seal)) ≡ false) (notes : (port_at u).notes ≡ (port_at s).notes)
    (began : length (seen_in (port_at s).port) ≤ (port_at v).began.length) (kept' : StaysAt v t) (same : port_at t ≡ port_at v) (value stamp : ℕ) (is_value : HasValue v j value)
    (is_stamp : stamp ≡ public_of (plan_of about) (port_at v).port.before j (unsealed a)) where
  before_is : (port_at v).port.before ≡ (port_at u).port.before
  before_is = ap (λ (x : SeatedPort). x.port.before) w.is

  answer_value : value ≡ value_seen (port_at u) w.log j
  answer_value = is_value ∙ ap (λ (x : SeatedPort). value_of (opening_of x) x.port.part.seen j) w.is

  answer_stamp : stamp ≡ stamp_seen (port_at u) w.log j
  answer_stamp =
      let own : about ≡ (port_at u).about = sym h.own ∙ kept.goes.about in
      is_stamp ∙ ap (λ (l : List (List Applied)). public_of (plan_of about) l j (unsealed a)) before_is ∙ ap (λ (z : About). public_of (plan_of z) (port_at u).port.before j (unsealed a)) own
      ∙ ap (public_of (plan_of (port_at u).about) (port_at u).port.before j) w.stamp

  place_is_seen : place_seen (port_at u) w.log ≡ length (seen_in (port_at v).port)
  place_is_seen = ap (λ (x : SeatedPort). length (seen_in x.port)) (sym w.is)

  noted_then : (port_at v).notes ≡ (port_at u).notes ++ record {
    call = Call.Read j;
    answer = Answer.Read (value_seen (port_at u) w.log j) (stamp_seen (port_at u) w.log j);
    note = Some (Note.Saw (place_seen (port_at u) w.log));
  } ∷ []
  noted_then = ap (λ (x : SeatedPort). x.notes) w.is ∙ ap (λ (c : Bool). (port_at u).notes ++ (if c then [] else noted_by Reads (port_at u) w.log j)) noted

  pub has_read : HasNotedRead s t j value stamp
  has_read =
      let n : (port_at v).began ≡ w.n = ap (λ (x : SeatedPort). x.began) w.is in
      let time = w.time (let f = fresh_now in let even = ap (λ (g : Began). g.epoch) n in omega (arith, f, even)) in
      let place = place_is_seen in
      let len = ap (λ (g : Began). g.length) n in
      record {
        come = come_same s v t (come_seen s u v first Reads j a come kept w) kept' same;
        notes = ap (λ (x : SeatedPort). x.notes) same ∙ noted_then
            ∙ ap (λ (l : List Noted). l ++ record {
              call = Call.Read j;
              answer = Answer.Read (value_seen (port_at u) w.log j) (stamp_seen (port_at u) w.log j);
              note = Some (Note.Saw (place_seen (port_at u) w.log));
            } ∷ []) notes
            ∙ ap (λ n. (port_at s).notes ++ record { call = Call.Read j; answer = Answer.Read n (stamp_seen (port_at u) w.log j); note = Some (Note.Saw (place_seen (port_at u) w.log)) } ∷ [])
            (sym answer_value)
            ∙ ap (λ n. (port_at s).notes ++ record { call = Call.Read j; answer = Answer.Read value n; note = Some (Note.Saw (place_seen (port_at u) w.log)) } ∷ []) (sym answer_stamp)
            ∙ ap (λ n. (port_at s).notes ++ record { call = Call.Read j; answer = Answer.Read value stamp; note = Some (Note.Saw n) } ∷ [])
            (place ∙ ap (λ (x : SeatedPort). length (seen_in x.port)) (sym same));
        first = let same_began = ap (λ (x : SeatedPort). x.began.length) same in omega (arith, began, same_began);
        behind =
            let same_began = ap (λ (x : SeatedPort). x.began.length) same in
            let same_seen = ap (λ (x : SeatedPort). length (seen_in x.port)) same in
            omega (arith, time, place, len, same_began, same_seen);
      }

pub kept_on : (u v t : Stand) → StaysAt u v → StaysAt v t → StaysAt u t
kept_on u v t a c = record {
  shape = c.shape ∙ a.shape;
  number = c.number ∙ a.number;
  epoch = c.epoch ∙ a.epoch;
  arena = c.arena ∙ a.arena;
  base = c.base ∙ a.base;
  passed = c.passed ∙ a.passed;
  goes = goes_on (port_at u) (port_at v) (port_at t) a.goes c.goes;
}

-- the end of a read, whose last load led to the stand v with the answer a
module _ (table : TableId) (about : About) (s u v : Stand) (h : IsHeld table about v) (come : HasCome s u) (kept : StaysAt u v) (first : Bool) (j a : ℕ)
    (w : SeatSees first Reads j (port_at u) a (port_at v))
    (fresh_now : (port_at v).began.epoch ≤ (port_at u).port.control.here.epoch) (noted : (first && not (nat_lt a seal)) ≡ false) (notes : (port_at u).notes ≡ (port_at s).notes)
    (began : length (seen_in (port_at s).port) ≤ (port_at v).began.length) where
  pub read_ends : (z t : Stand) (found value stamp : ℕ) → z ≡ v → found ≡ a → StaysAt z t → port_at t ≡ port_at z → HasValue z j value →
      stamp ≡ public_of (plan_of about) (port_at z).port.before j (unsealed found) → HasNotedRead s t j value stamp
  read_ends z t found value stamp is same kept_here same_port is_value is_stamp =
      has_read table about s u v t h come kept first j a w fresh_now noted notes began (subst (λ (y : Stand). StaysAt y t) is kept_here) (same_port ∙ ap port_at is) value stamp
      (subst (λ (y : Stand). HasValue y j value) is is_value)
      (is_stamp ∙ ap (λ (y : Stand). public_of (plan_of about) (port_at y).port.before j (unsealed found)) is ∙ ap (λ n. public_of (plan_of about) (port_at v).port.before j (unsealed n)) same)

-- a read whose first load, which led to the stand v, found no seal
pub first_read : (table : TableId) (about : About) (s v t : Stand) → IsHeld table about s → IsIdle s → IsHeld table about v → StaysAt s v → (j found value stamp : ℕ) →
    SeatSees true Reads j (port_at s) found (port_at v) → found < seal → StaysAt v t → port_at t ≡ port_at v → HasValue v j value →
    stamp ≡ public_of (plan_of about) (port_at v).port.before j found → HasNotedRead s t j value stamp
first_read table about s v t h idle held kept j found value stamp w less on same is_value is_stamp =
    let began_is = ap (λ (x : SeatedPort). x.began) w.is in
    let fresh_now : (port_at v).began.epoch ≤ (port_at s).port.control.here.epoch =
    (let young = w.present less in let epoch = ap (λ (g : Began). g.epoch) began_is in omega (arith, young, epoch)) in
    let began : length (seen_in (port_at s).port) ≤ (port_at v).began.length =
    (let few = w.began in let many = ap (λ (g : Began). g.length) began_is in omega (arith, few, many)) in
    let whole : found ≡ unsealed found = omega (arith, less) in
    read_ends table about s s v held (come_itself table about s h idle) kept true j found w fresh_now (ap not (lt-ltb found seal less)) refl began v t found value stamp refl refl on same is_value
    (is_stamp ∙ ap (public_of (plan_of about) (port_at v).port.before j) whole)

-- the first load of a read, which found its component sealed
module _ (table : TableId) (about : About) (s r u v : Stand) (h : IsHeld table about s) (idle : IsIdle s) (kept : StaysAt s r) (j a : ℕ) (w : SeatSees true Reads j (port_at s) a (port_at r))
    (sealed : seal ≤ a)
    (settled : EpochSettled false r u) (held : IsHeld table about u) (c : ℕ) (last : SeatSees false Reads j (port_at u) c (port_at v)) where
  pub settled_come : HasCome s u
  settled_come = come_on s r u (come_seen s s r true Reads j a (come_itself table about s h idle) kept w) settled.come

  pub settled_notes : (port_at u).notes ≡ (port_at s).notes
  settled_notes =
      let skip : (true && not (nat_lt a seal)) ≡ true = ap not (not_below a seal sealed) in
      settled.notes ∙ ap (λ (x : SeatedPort). x.notes) w.is ∙ ap (λ (t : Bool). (port_at s).notes ++ (if t then [] else noted_by Reads (port_at s) w.log j)) skip ∙ append-nil (port_at s).notes

  began_is : (port_at v).began ≡ (port_at r).began
  began_is = ap (λ (x : SeatedPort). x.began) last.is ∙ last.began ∙ settled.began

  pub settled_fresh : (port_at v).began.epoch ≤ (port_at u).port.control.here.epoch
  settled_fresh =
      let fresh_here = settled.fresh in
      let same = ap (λ (g : Began). g.epoch) (ap (λ (x : SeatedPort). x.began) last.is ∙ last.began) in
      let epoch = held.epoch in
      omega (arith, fresh_here, same, epoch)

  pub settled_began : length (seen_in (port_at s).port) ≤ (port_at v).began.length
  settled_began =
      let first = w.began in
      let n = ap (λ (x : SeatedPort). x.began.length) w.is in
      let same = ap (λ (g : Began). g.length) began_is in
      omega (arith, first, n, same)
