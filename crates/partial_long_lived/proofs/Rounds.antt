-- The rounds of an update: an attempt, and a change of epoch, and so on.
use Rattle.partial_long_lived.proofs.{Common.{ℕ, Option, None, Result, Ok, Err, IfOk, IfErr, ◌≡◌, ◌+◌, ◌<◌, ◌≤◌, ◌++◌, Bool, true, false, List, [], ◌∷◌, length, refl, sym, ap, subst, ◌∙◌, arith, TableId, Noted, Change, CoreState, Exchanged, About, Refused, Component, Overtaken, EpochsSpent, Stand, IsCause, Began, SeatedPort, seen_in, SeatGoes, BeganBy, IsHeld, epoch_at, port_at, IsIdle, UpdateAttempted, CameBy, IsEntryOf, IsLate, IsOwnMachine, MayCall, NotesNothing, UpdateEnded, noted_change, noted_where, FoundSealed, inl, inr, cases_lt}, Coming.{goes_on, goes_same, seen_more}}

-- whether the call began with its first step here, or as before, where the next step may still be its first one
abbrev pub BeganSo : Bool → Bool → Stand → Stand → Type 0
BeganSo first true s t = first ≡ true
BeganSo first false s t = BeganBy first (port_at s) (port_at t).began

-- a part of a call, after which the call goes on
pub record RoundsOn (table : TableId) (about : About) (first next : Bool) (s t : Stand) (core : CoreState) : Type 0 where
  pub held : IsHeld table about t
  pub idle : IsIdle t
  pub may : MayCall (port_at t) core
  pub shape : t.shape ≡ s.shape
  pub number : t.number ≡ s.number
  pub goes : SeatGoes (port_at s) (port_at t)
  pub notes : (port_at t).notes ≡ (port_at s).notes
  pub began : BeganSo first next s t

-- a port has gone nowhere yet
pub goes_nowhere : (table : TableId) (about : About) (s : Stand) → IsHeld table about s → SeatGoes (port_at s) (port_at s)
goes_nowhere table about s h = goes_same (port_at s) h.known

pub begins_so : (first : Bool) (s : Stand) → BeganSo first first s s
begins_so true s = refl
begins_so false s = refl

pub rounds_begin : (table : TableId) (about : About) (first : Bool) (s : Stand) (core : CoreState) → IsHeld table about s → IsIdle s → MayCall (port_at s) core → RoundsOn table about first first s s core
rounds_begin table about first s core h idle may = record {
  held = h;
  idle = idle;
  may = may;
  shape = refl;
  number = refl;
  goes = goes_nowhere table about s h;
  notes = refl;
  began = begins_so first s;
}

-- the call began when the next step says
pub began_on : (first next : Bool) (s t : Stand) (n : Began) → BeganSo first next s t → SeatGoes (port_at s) (port_at t) → BeganBy next (port_at t) n → BeganBy first (port_at s) n
began_on first true s t n is goes began = subst (λ f. BeganBy f (port_at s) n) (sym is) (let more = seen_more (port_at s) (port_at t) goes in omega (arith, began, more))
began_on first false s t n is goes began = subst (BeganBy first (port_at s)) (sym began) is

-- the machine of a port that may make a call is the port's
pub may_own : (x : SeatedPort) (core : CoreState) → MayCall x core → IsOwnMachine x core
may_own x core may = record { idle = may.rests.between.idle; sound = may.rests.between.sound; sizes = may.rests.sizes; port = may.rests.port }

module _ (table : TableId) (about : About) (first next : Bool) (s u : Stand) (core : CoreState) (on : RoundsOn table about first next s u core) (t : Stand) where
  -- the attempt has ended the update
  pub round_ended : (c : Change) → c.expected ≡ None → (r : Exchanged) → IsHeld table about t → UpdateAttempted next c r u t → UpdateEnded first c r s t
  round_ended c plain r held attempt =
      let goes = attempt.stayed.kept.goes in
      let epoch = held.known.epoch ∙ sym held.epoch in
      let noted : noted_where (port_at t) c.expected c r attempt.place ≡ noted_change t.epoch c r attempt.place =
      ap (λ (e : Option ℕ). noted_where (port_at t) e c r attempt.place) plain ∙ ap (λ n. noted_change n c r attempt.place) epoch in
      record {
        shape = attempt.stayed.kept.shape ∙ on.shape;
        number = attempt.stayed.kept.number ∙ on.number;
        goes = goes_on (port_at s) (port_at u) (port_at t) on.goes goes;
        began = began_on first next s u (port_at t).began on.began on.goes attempt.stayed.began;
        place = attempt.place;
        notes = attempt.notes ∙ ap (λ n. (port_at u).notes ++ n ∷ []) noted ∙ ap (λ (l : List Noted). l ++ noted_change t.epoch c r attempt.place ∷ []) on.notes;
        behind = attempt.behind;
        within = subst (λ (e : Option ℕ). IsEntryOf e r attempt.place (length (seen_in (port_at t).port))) plain attempt.within;
      }

  -- it has met a seal, and so has come so far
  pub round_met : NotesNothing next u t → CameBy first s t
  round_met met = record {
    shape = met.stayed.kept.shape ∙ on.shape;
    number = met.stayed.kept.number ∙ on.number;
    goes = goes_on (port_at s) (port_at u) (port_at t) on.goes met.stayed.kept.goes;
    notes = met.notes ∙ on.notes;
    began = began_on first next s u (port_at t).began on.began on.goes met.stayed.began;
  }

-- a further part of the call
pub came_on : (first : Bool) (s t v : Stand) → CameBy first s t → CameBy false t v → CameBy first s v
came_on first s t v a b = record {
  shape = b.shape ∙ a.shape;
  number = b.number ∙ a.number;
  goes = goes_on (port_at s) (port_at t) (port_at v) a.goes b.goes;
  notes = b.notes ∙ a.notes;
  began = subst (BeganBy first (port_at s)) (sym b.began) a.began;
}

-- the call goes on from there
pub came_rounds : (table : TableId) (about : About) (first : Bool) (s t : Stand) (core : CoreState) → IsHeld table about t → IsIdle t → MayCall (port_at t) core → CameBy first s t →
    RoundsOn table about first false s t core
came_rounds table about first s t core h idle may came = record {
  held = h;
  idle = idle;
  may = may;
  shape = came.shape;
  number = came.number;
  goes = came.goes;
  notes = came.notes;
  began = came.began;
}

-- so far the call has made a step, and noted nothing
pub rounds_came : (table : TableId) (about : About) (first next : Bool) (s t : Stand) (core : CoreState) → RoundsOn table about first next s t core → next ≡ false → CameBy first s t
rounds_came table about first next s t core on later = record {
  shape = on.shape;
  number = on.number;
  goes = on.goes;
  notes = on.notes;
  began = subst (λ (n : Bool). BeganSo first n s t) later on.began;
}

-- an update that ended after a part of its call
pub updated_after : (first : Bool) (c : Change) (r : Exchanged) (s t v : Stand) → CameBy first s t → UpdateEnded false c r t v → UpdateEnded first c r s v
updated_after first c r s t v came ended = record {
  shape = ended.shape ∙ came.shape;
  number = ended.number ∙ came.number;
  goes = goes_on (port_at s) (port_at t) (port_at v) came.goes ended.goes;
  began = subst (BeganBy first (port_at s)) (sym ended.began) came.began;
  place = ended.place;
  notes = ended.notes ∙ ap (λ (l : List Noted). l ++ noted_change v.epoch c r ended.place ∷ []) came.notes;
  behind = ended.behind;
  within = ended.within;
}

-- an update is refused where a change of epoch is
pub late_of : (times seals : ℕ) (s t v : Stand) (cause : Refused) → SeatGoes (port_at s) (port_at t) → IsCause v cause → IsLate times seals s cause v
late_of times seals s t v Component goes is = absurd is
late_of times seals s t v Overtaken goes is = absurd is
late_of times seals s t v EpochsSpent goes is = is

-- one that began with a change of epoch has entered one more
pub late_after : (times seals : ℕ) (s t v : Stand) (cause : Refused) → SeatGoes (port_at s) (port_at t) → epoch_at s < epoch_at t → IsLate times seals t cause v → IsLate (times + 1) seals s cause v
late_after times seals s t v Component goes later is = absurd is
late_after times seals s t v Overtaken goes later is =
    let first = is.0 in let second = is.1 in let more = goes.seals in (omega (arith, later, first), omega (arith, more, second))
late_after times seals s t v EpochsSpent goes later is = is

-- and one that began with an attempt to as many
pub late_from : (times seals : ℕ) (s t v : Stand) (cause : Refused) → SeatGoes (port_at s) (port_at t) → IsLate times seals t cause v → IsLate times seals s cause v
late_from times seals s t v Component goes is = absurd is
late_from times seals s t v Overtaken goes is =
    let first = is.0 in let second = is.1 in let up = goes.epoch in let more = goes.seals in (omega (arith, up, first), omega (arith, more, second))
late_from times seals s t v EpochsSpent goes is = is

-- after so many later epochs, a round that met a seal and a change of epoch lead to one more
pub one_later : (table : TableId) (about : About) (s u t v : Stand) (n : ℕ) → IsHeld table about u → IsHeld table about t → t.epoch ≡ u.epoch → epoch_at s + n ≤ epoch_at u →
    epoch_at t < epoch_at v → epoch_at s + (n + 1) ≤ epoch_at v
one_later table about s u t v n h k same so later =
    let before = h.epoch in
    let behind = k.epoch in
    omega (arith, before, behind, same, so, later)

-- and one seal more
pub one_seal : (s u t v : Stand) (n : ℕ) → (port_at s).contention.seals + n ≤ (port_at u).contention.seals → FoundSealed u t → SeatGoes (port_at t) (port_at v) →
    (port_at s).contention.seals + (n + 1) ≤ (port_at v).contention.seals
one_seal s u t v n so met goes = let more = goes.seals in omega (arith, so, met, more)

-- the same where a round meets a seal unless its port was spent, which it is in the first one at most
pub seals_more : (s u t v : Stand) (n : ℕ) (spent : Bool) {A : Type 0} → (0 < n → A × (spent ≡ false)) → (port_at s).contention.seals + n ≤ (port_at u).contention.seals + 1 →
    (spent ≡ false → FoundSealed u t) → SeatGoes (port_at s) (port_at u) → SeatGoes (port_at u) (port_at t) → SeatGoes (port_at t) (port_at v) → (port_at s).contention.seals + (n + 1) ≤ (port_at v).contention.seals + 1
seals_more s u t v n true later so met before goes on =
    let none : n ≤ 0 = (elim (cases_lt 0 n) [
      | inl some ↦ (let bad : true ≡ false = (later some).1 in cc)
      | inr few ↦ few
    ]) in
    let first = before.seals in
    let second = goes.seals in
    let third = on.seals in
    omega (arith, none, first, second, third)
seals_more s u t v n false later so met before goes on =
    let sealed = met refl in
    let more = on.seals in
    omega (arith, so, sealed, more)

-- what holds of an answer may be stated in another way
pub ok_as : (A E : Type 0) (r : Result A E) (P Q : A → Type 0) → ((a : A) → P a → Q a) → IfOk r P → IfOk r Q
ok_as A E (Ok a) P Q f w = f a w
ok_as A E (Err e) P Q f w = tt

pub err_as : (A E : Type 0) (r : Result A E) (P Q : E → Type 0) → ((e : E) → P e → Q e) → IfErr r P → IfErr r Q
err_as A E (Ok a) P Q f w = tt
err_as A E (Err e) P Q f w = f e w
