-- How a call begins at a machine, and why one is refused at once.
use Rattle.partial_machine.proofs.Common.{ℕ, ◌≡◌, ◌<◌, ◌≤◌, ◌==◌, Bool, true, false, if◌then◌else◌, Option, Some, None, List, [], ◌∷◌, length, refl, sym, ap, subst, ◌∙◌, arith, nat_lt, AllByRecursion, list_all, false≢true, ltb-true, ltb-false, ne_eqb, Call, Refused, Stage, ReadBegun, UpdateBegun, ScanBegun, Finished, CoreState, at_stage, call_at, is_begun, begun_like, begin_scan, begun_of, refusal_of, makes_steps, most_of_update, most_steps, left_at, steps_left, AreComponentIndices, IsSound, is_sound_at, IsBegunWith, IsOldMark, CallsBegin, RestsAreSound, CallsAreRefusedAtOnce, no_index, length-replicate, Reply}
use Rattle.partial_model.specs.Notes.{MayBeRefused}
use Rattle.partial_model.proofs.{Decisions.{Decides-list_all, Decides-nat_lt}, AllLemmas.position_below}

-- the components of a list are there, or some is not
all_below : (m : ℕ) (js : List ℕ) → list_all (λ i. nat_lt i m) js ≡ true → AllByRecursion (λ j. j < m) js
all_below m js e = (Decides-list_all (λ i. nat_lt i m) (λ j. j < m) (λ i. Decides-nat_lt i m) js).0 e

not_below : (m : ℕ) (js : List ℕ) → list_all (λ i. nat_lt i m) js ≡ false → ¬ AllByRecursion (λ j. j < m) js
not_below m js e all = false≢true (sym e ∙ (Decides-list_all (λ i. nat_lt i m) (λ j. j < m) (λ i. Decides-nat_lt i m) js).1 all)

some_position : (js : List ℕ) → (length js == 0) ≡ false → 0 < length js
some_position [] e = absurd (false≢true (sym e))
some_position (j ∷ js) e = omega arith

-- the machine with a call begun is sound
sound_with : (s : CoreState) (js : List ℕ) (t : Stage) → AreComponentIndices s.sizes js → is_sound_at (record s { asked = js; stage = t }) t → IsSound s → IsSound (record s { asked = js; stage = t })
sound_with s js t asked stage w = record { asked = asked; found = w.found; indices = w.indices; distinct = w.distinct; rows = w.rows; ahead = w.ahead; spare = w.spare; stage = stage }

-- what is known of an update that is begun, of a read, and of a scan
begins_update : (s : CoreState) (j : ℕ) (a b : Bool) → nat_lt j s.sizes.m ≡ a → s.pool_spent ≡ b → (if a then (if b then Some Refused.PoolSpent else None) else Some Refused.Component) ≡ None →
    (j < s.sizes.m) × (s.pool_spent ≡ false)
begins_update s j true true below spent is = let bad : Some Refused.PoolSpent ≡ None = is in absurd cc
begins_update s j true false below spent is = (ltb-true j s.sizes.m below, spent)
begins_update s j false b below spent is = let bad : Some Refused.Component ≡ None = is in absurd cc

begins_read : (s : CoreState) (j : ℕ) (a : Bool) → nat_lt j s.sizes.m ≡ a → (if a then None else Some Refused.Component) ≡ None → j < s.sizes.m
begins_read s j true below is = ltb-true j s.sizes.m below
begins_read s j false below is = let bad : Some Refused.Component ≡ None = is in absurd cc

-- what is known of a scan of some positions
record ScanMay (s : CoreState) (js : List ℕ) : Type 0 where
  asked : AreComponentIndices s.sizes js
  may : (0 < length js) × (s.pool_spent ≡ false) × (s.slots_spent ≡ false)

scan_may : (s : CoreState) (js : List ℕ) (a p q : Bool) → length js ≤ s.sizes.m → list_all (λ i. nat_lt i s.sizes.m) js ≡ a → s.pool_spent ≡ p → s.slots_spent ≡ q → 0 < length js →
    (if a then (if p then Some Refused.PoolSpent else (if q then Some Refused.SlotsSpent else None)) else Some Refused.Component) ≡ None → ScanMay s js
scan_may s js true true q few below pool slots some is = let bad : Some Refused.PoolSpent ≡ None = is in absurd cc
scan_may s js true false true few below pool slots some is = let bad : Some Refused.SlotsSpent ≡ None = is in absurd cc
scan_may s js true false false few below pool slots some is = record {
  asked = record { few = few; each = λ k. position_below js s.sizes.m k (all_below s.sizes.m js below) };
  may = (some, pool, slots);
}
scan_may s js false p q few below pool slots some is = let bad : Some Refused.Component ≡ None = is in absurd cc

begins_scan : (s : CoreState) (js : List ℕ) → length js ≤ s.sizes.m → refusal_of s (Call.Scan js) ≡ None → IsBegunWith s (Call.Scan js)
begins_scan s [] few is =
    let none : AreComponentIndices s.sizes [] = record { few = omega arith; each = λ k below. absurd (omega (arith, below)) } in
    record {
      like = refl;
      asked = none;
      may = tt;
      sound = sound_with s [] (Finished (Reply.Scanned 0 None)) none tt;
      few = omega arith;
      begun = refl;
      made = λ e. absurd (false≢true e);
      at_once = λ e. refl;
    }
begins_scan s (j ∷ js) few is =
    let none : (length (j ∷ js) == 0) ≡ false = ne_eqb (length (j ∷ js)) 0 (λ e. omega (arith, e)) in
    let stage : (if length (j ∷ js) == 0 then Finished (Reply.Scanned 0 None) else ScanBegun) ≡ ScanBegun = ap (λ (b : Bool). if b then Finished (Reply.Scanned 0 None) else ScanBegun) none in
    let allowed : (if list_all (λ i. nat_lt i s.sizes.m) (j ∷ js) then (if s.pool_spent then Some Refused.PoolSpent else (if s.slots_spent then Some Refused.SlotsSpent else None))
    else Some Refused.Component) ≡ None =
    sym (ap (λ (b : Bool). if list_all (λ i. nat_lt i s.sizes.m) (j ∷ js) then (if b then None
    else (if s.pool_spent then Some Refused.PoolSpent else (if s.slots_spent then Some Refused.SlotsSpent else None)))
    else Some Refused.Component) none) ∙ is in
    let m = scan_may s (j ∷ js) (list_all (λ i. nat_lt i s.sizes.m) (j ∷ js)) s.pool_spent s.slots_spent few refl refl refl (omega arith) allowed in
    let may : is_sound_at (begin_scan s (j ∷ js)) (begin_scan s (j ∷ js)).stage = subst (λ (u : Stage). is_sound_at (record s { asked = j ∷ js; stage = u }) u) (sym stage) m.may in
    record {
      like = refl;
      asked = m.asked;
      may = may;
      sound = sound_with s (j ∷ js) (begin_scan s (j ∷ js)).stage m.asked may;
      few = let left : steps_left (begin_scan s (j ∷ js)) ≡ left_at (begin_scan s (j ∷ js)) ScanBegun = ap (left_at (begin_scan s (j ∷ js))) stage in omega (arith, left);
      begun = ap is_begun stage;
      made = λ e. ap (call_at (begin_scan s (j ∷ js))) stage;
      at_once = λ e. absurd (false≢true (sym e));
    }

begins_change : (s : CoreState) (j v : ℕ) (e : Option ℕ) (c : Call) → AreComponentIndices s.sizes s.asked → (j < s.sizes.m) × (s.pool_spent ≡ false) →
    begun_of s c ≡ at_stage s (UpdateBegun (record { component = j; expected = e; value = v })) → call_at s (UpdateBegun (record { component = j; expected = e; value = v })) ≡ Some c →
    makes_steps c ≡ true → most_steps s.sizes c ≡ most_of_update s.sizes → IsBegunWith s c
begins_change s j v e c asked may is made makes most =
    let t : Stage = UpdateBegun (record { component = j; expected = e; value = v }) in
    let sound = sound_with s s.asked t asked may in
    record {
      like = subst (λ (d : CoreState). d ≡ begun_like s d) (sym is) refl;
      asked = subst (λ (d : CoreState). AreComponentIndices s.sizes d.asked) (sym is) asked;
      may = subst (λ (d : CoreState). is_sound_at d d.stage) (sym is) may;
      sound = λ w. subst IsSound (sym is) (sound w);
      few = let left : steps_left (begun_of s c) ≡ left_at s t = ap steps_left is in omega (arith, left, most);
      begun = ap (λ (d : CoreState). is_begun d.stage) is ∙ sym makes;
      made = λ _. ap (λ (d : CoreState). call_at d d.stage) is ∙ made;
      at_once = λ f. absurd (false≢true (sym f ∙ makes));
    }

pub calls_begin : CallsBegin
calls_begin s (Call.Update j v) asked served is = begins_change s j v None (Call.Update j v) asked (begins_update s j (nat_lt j s.sizes.m) s.pool_spent refl refl is) refl refl refl refl
calls_begin s (Call.Scan js) asked served is = begins_scan s js served is
calls_begin s (Call.Read j) asked served is =
    let may = begins_read s j (nat_lt j s.sizes.m) refl is in
    record {
      like = refl;
      asked = asked;
      may = may;
      sound = sound_with s s.asked (ReadBegun j) asked may;
      few = omega arith;
      begun = refl;
      made = λ e. refl;
      at_once = λ e. absurd (false≢true (sym e));
    }
calls_begin s (Call.UpdateIf j x v) asked served is = begins_change s j v (Some x) (Call.UpdateIf j x v) asked (begins_update s j (nat_lt j s.sizes.m) s.pool_spent refl refl is) refl refl refl refl

pub rests_are_sound : RestsAreSound
rests_are_sound = record {
  fresh = λ z port layout.
      let none = no_index z.m in
      record {
        asked = record { few = omega arith; each = none.each };
        found = record { limit = refl; room = refl };
        indices = record { few = omega arith; each = none.each };
        distinct = none.distinct;
        rows = record { last = length-replicate z.m 0; changed = length-replicate z.m false; values = length-replicate z.m 0 };
        ahead = omega arith;
        spare = let pool = layout.pool.0 in (omega arith, omega (arith, pool));
        stage = tt;
      };
  idle = λ s w. record { asked = w.asked; found = w.found; indices = w.indices; distinct = w.distinct; rows = w.rows; ahead = w.ahead; spare = w.spare; stage = tt };
}

-- a cause with what is said of it
abbrev IsWhy : CoreState → Call → Refused → Type 0
IsWhy s c cause = MayBeRefused s.sizes.m c cause × IsOldMark s cause

refused_update : (s : CoreState) (j : ℕ) (cause : Refused) (a b : Bool) → nat_lt j s.sizes.m ≡ a → s.pool_spent ≡ b → (if a then (if b then Some Refused.PoolSpent else None)
    else Some Refused.Component) ≡ Some cause → (c : Call) → ((k : j < s.sizes.m) → MayBeRefused s.sizes.m c Refused.PoolSpent) →
    (s.sizes.m ≤ j → MayBeRefused s.sizes.m c Refused.Component) → IsWhy s c cause
refused_update s j cause true true below spent is c pool out = let same : Refused.PoolSpent ≡ cause = cc in subst (IsWhy s c) same (pool (ltb-true j s.sizes.m below), spent)
refused_update s j cause true false below spent is c pool out = let bad : None ≡ Some cause = is in absurd cc
refused_update s j cause false b below spent is c pool out = let same : Refused.Component ≡ cause = cc in subst (IsWhy s c) same (out (ltb-false j s.sizes.m below), tt)

refused_scan : (s : CoreState) (js : List ℕ) (cause : Refused) (a b p q : Bool) → list_all (λ i. nat_lt i s.sizes.m) js ≡ a → (length js == 0) ≡ b → s.pool_spent ≡ p → s.slots_spent ≡ q →
    (if a then (if b then None else (if p then Some Refused.PoolSpent else (if q then Some Refused.SlotsSpent else None))) else Some Refused.Component) ≡ Some cause → IsWhy s (Call.Scan js) cause
refused_scan s js cause true true p q below none pool slots is = let bad : None ≡ Some cause = is in absurd cc
refused_scan s js cause true false true q below none pool slots is = let same : Refused.PoolSpent ≡ cause = cc in subst (IsWhy s (Call.Scan js)) same
    ((all_below s.sizes.m js below, some_position js none), pool)
refused_scan s js cause true false false true below none pool slots is = let same : Refused.SlotsSpent ≡ cause = cc in subst (IsWhy s (Call.Scan js)) same
    ((all_below s.sizes.m js below, some_position js none), slots)
refused_scan s js cause true false false false below none pool slots is = let bad : None ≡ Some cause = is in absurd cc
refused_scan s js cause false b p q below none pool slots is = let same : Refused.Component ≡ cause = cc in subst (IsWhy s (Call.Scan js)) same (not_below s.sizes.m js below, tt)

refused_read : (s : CoreState) (j : ℕ) (cause : Refused) (a : Bool) → nat_lt j s.sizes.m ≡ a → (if a then None else Some Refused.Component) ≡ Some cause → IsWhy s (Call.Read j) cause
refused_read s j cause true below is = let bad : None ≡ Some cause = is in absurd cc
refused_read s j cause false below is = let same : Refused.Component ≡ cause = cc in let out = ltb-false j s.sizes.m below in subst (IsWhy s (Call.Read j)) same
    ((λ w. let below' = w.0 in omega (arith, out, below')), tt)

pub calls_are_refused_at_once : CallsAreRefusedAtOnce
calls_are_refused_at_once s (Call.Update j v) cause is = refused_update s j cause (nat_lt j s.sizes.m) s.pool_spent refl refl is (Call.Update j v) (λ below. ((below, tt), tt))
    (λ out w. let below' = w.0 in omega (arith, out, below'))
calls_are_refused_at_once s (Call.Scan js) cause is = refused_scan s js cause (list_all (λ i. nat_lt i s.sizes.m) js) (length js == 0) s.pool_spent s.slots_spent refl refl refl refl is
calls_are_refused_at_once s (Call.Read j) cause is = refused_read s j cause (nat_lt j s.sizes.m) refl is
calls_are_refused_at_once s (Call.UpdateIf j x v) cause is = refused_update s j cause (nat_lt j s.sizes.m) s.pool_spent refl refl is (Call.UpdateIf j x v) (λ below. ((below, tt), tt))
    (λ out w. let below' = w.0 in omega (arith, out, below'))
