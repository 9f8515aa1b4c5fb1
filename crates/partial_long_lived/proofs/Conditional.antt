-- A conditional update of a port: the comparison, and how it ends in the port's epoch.
use Rattle.partial_long_lived.proofs.{Common.{ℕ, ◌≡◌, ◌<◌, ◌≤◌, ◌&&◌, ◌++◌, Bool, false, not, if◌then◌else◌, Some, List, [], ◌∷◌, length, sym, ap, subst, ◌∙◌, arith, nat_lt, TableId, Applied, Noted, total, Change, Exchanged, public_stamp, seal, public_of, About, UpdatedIf, Asked, Stand, SeatedPort, plan_of, seen_in, IsIdle, StaysAt, EndedIf, HasLooked, IsExpected, IsPlaceOf, noted_if, outcome_of, IsHeld, port_at, SeatSees, noted_by, Expects, BeganBy, UpdateAttempted, IsEntryOf, NotesNothing, PortStayed, noted_where, value_word, Call, Answer, Note, contention_by}, Coming.kept_on}
use Rattle.partial_lines.specs.declared.exchange.Exchanged.TheVariants.{Applied as IsApplied, Overtaken}

-- the word of a record is a small number
pub record_small : (table : TableId) (about : About) (s : Stand) (at : ℕ) → IsHeld table about s → value_word at < total (port_at s).about.sizes → at < 8388608
record_small table about s at h within =
    let plan = h.known.plan in
    let m = plan.sizes.components.1 in
    let slots = plan.sizes.slots.1 in
    let lists = plan.sizes.lists in
    let pool = plan.sizes.pool.1 in
    omega (arith, within, m, slots, lists, pool)

-- The load of a component's word by which its stamp is compared, and the stand after the comparison.
module _ (table : TableId) (about : About) (s u t : Stand) (h : IsHeld table about u) (idle : IsIdle s) (first : Bool) (asked : Asked) (a : ℕ) (kept : StaysAt s u)
    (w : SeatSees first (Expects asked.expected asked.value) asked.component (port_at s) a (port_at u)) (kept' : StaysAt u t) (same : port_at t ≡ port_at u) where
  abbrev x : SeatedPort
  x = port_at s

  abbrev j : ℕ
  j = asked.component

  is : port_at t ≡ record x {
    port = record x.port { part = record x.port.part { seen = w.log } };
    began = w.n;
    notes = x.notes ++ (if first && not (nat_lt a seal) then [] else noted_by (Expects asked.expected asked.value) x w.log j);
    found = x.found;
    contention = contention_by (Expects asked.expected asked.value) a x.contention;
  }
  is = same ∙ w.is

-- an attempt after the comparison
module _ (first : Bool) (s u v : Stand) (looked : HasLooked first s u) (same : (port_at u).notes ≡ (port_at s).notes) where
  stayed_on : PortStayed false u v → PortStayed first s v
  stayed_on w = record {
    kept = kept_on s u v looked.stayed.kept w.kept;
    idle = w.idle;
    began = subst (BeganBy first (port_at s)) (sym w.began) looked.stayed.began;
  }

  pub nothing_after : NotesNothing false u v → NotesNothing first s v
  nothing_after w = record { stayed = stayed_on w.stayed; notes = w.notes ∙ same }

  -- what it has noted, with public stamps
  module _ (asked : Asked) (at : ℕ) (r : Exchanged) (expected : IsExpected asked at u) (w : UpdateAttempted false (record { component = asked.component; expected = Some at; value = asked.value }) r u v) where
    abbrev d : Change
    d = record { component = asked.component; expected = Some at; value = asked.value }

    expected_then : public_of (plan_of (port_at v).about) (port_at v).port.before asked.component at ≡ asked.expected
    expected_then = ap (λ (a : About). public_of (plan_of a) (port_at v).port.before asked.component at) w.stayed.kept.goes.about
        ∙ ap (λ (l : List (List Applied)). public_of (plan_of (port_at u).about) l asked.component at) w.before ∙ expected.stamp

    noted_public : (r : Exchanged) (k : ℕ) → noted_where (port_at v) (Some at) d r k ≡ noted_if asked (outcome_of (port_at v) asked.component r) k
    noted_public (IsApplied stamp) k = ap (λ e. record { call = Call.UpdateIf asked.component e asked.value; answer = Answer.Applied (public_stamp (length (port_at v).port.before) stamp); note = Some (Note.Wrote k) }) expected_then
    noted_public (Overtaken by) k = ap (λ e. record { call = Call.UpdateIf asked.component e asked.value; answer = Answer.Changed (public_of (plan_of (port_at v).about) (port_at v).port.before asked.component by); note = Some (Note.Saw k) }) expected_then

    placed : (r : Exchanged) (k n : ℕ) → IsEntryOf (Some at) r k n → IsPlaceOf (outcome_of (port_at v) asked.component r) k n
    placed (IsApplied stamp) k n is = is
    placed (Overtaken by) k n is = is

    pub ended_after : (t : Stand) → StaysAt v t → port_at t ≡ port_at v → (o : UpdatedIf) → o ≡ outcome_of (port_at v) asked.component r → EndedIf first asked o s t
    ended_after t kept is o outcome = record {
      stayed = record {
        kept = kept_on s v t (stayed_on w.stayed).kept kept;
        idle = record { stands = ap (λ (y : SeatedPort). y.port.control.entering) is ∙ w.stayed.idle.stands; free = ap (λ (y : SeatedPort). y.port.control.owned) is ∙ w.stayed.idle.free };
        began = subst (λ (y : SeatedPort). BeganBy first (port_at s) y.began) (sym is) (stayed_on w.stayed).began;
      };
      place = w.place;
      notes = ap (λ (y : SeatedPort). y.notes) is ∙ w.notes ∙ ap (λ n. (port_at u).notes ++ n ∷ []) (noted_public r w.place ∙ ap (λ (q : UpdatedIf). noted_if asked q w.place) (sym outcome))
          ∙ ap (λ (l : List Noted). l ++ noted_if asked o w.place ∷ []) same;
      behind = subst (λ (y : SeatedPort). y.began.length ≤ w.place) (sym is) w.behind;
      within = subst (λ (y : SeatedPort). IsPlaceOf o w.place (length (seen_in y.port))) (sym is) (subst (λ (q : UpdatedIf). IsPlaceOf q w.place (length (seen_in (port_at v).port))) (sym outcome) (placed r w.place (length (seen_in (port_at v).port)) w.within));
    }
