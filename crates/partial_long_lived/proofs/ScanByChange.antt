-- A scan by a change of epoch: the port enters an epoch that opened during the call, and notes what its components had as it opened.
use Rattle.partial_long_lived.proofs.{Common.{true, ℕ, Option, option_map_or, initial_stamp, ◌≡◌, ◌+◌, ◌*◌, ◌-◌, false, ◌<◌, ◌≤◌, Result, Ok, Err, IfOk, IfErr, List, [], ◌∷◌, length, slice_index, refl, sym, ap, subst, ◌∙◌, inl, inr, arith, TableId, Applied, Opening, initial_record, value_word, total, stamp_of, core_of, opened_after, About, Stand, SeatedPort, seen_in, Refused, IsHeld, port_at, HasCome, IsIdle, StaysAt, EpochChanged, NotChanged, NotScanned, EpochSettled, EnteredYoung, opening_of, AreCollected, AreInside, HadValue, HadValues, HasStayed, MayNoteScan, NotesScan, MadeNamed, Scanned, ScannedNamed, None, IsLayout, plain_record_size, stamp_limit, unsealed, take_all, HasGlanced, slice_set, IsCause}, Coming.{come_on, goes_on}, Collects.glanced_itself, DoubleCollect.{come_named, come_refused, may_together, seen_long, together_named, together_stayed}, RecordStamps.unsealed_same}
use Rattle.partial_model.proofs.HistoryLemmas.{last_entry-nil}

-- the port of a stand has entered a later epoch
changed_come : (table : TableId) (about : About) (s t : Stand) → IsHeld table about s → EpochChanged false s t → HasCome s t
changed_come table about s t h changed = record {
  shape = changed.shape;
  number = changed.number;
  goes = changed.goes;
  idle = record { stands = ap (λ (x : SeatedPort). x.port.control.entering) changed.is; free = ap (λ (x : SeatedPort). x.port.control.owned) changed.is };
  machine = inr (
    (let up = changed.later in let here = h.epoch in omega (arith, up, here)),
    ap (λ (x : SeatedPort). core_of x.port.part) changed.is,
    ap (λ (x : SeatedPort). x.port.over) changed.is,
  );
}

-- or stands where it stood
refused_come : (s t : Stand) → NotChanged false s t → HasCome s t
refused_come s t w = record {
  shape = w.shape;
  number = w.number;
  goes = w.goes;
  idle = w.free;
  machine = inl (w.epoch, ap core_of w.same.part, w.same.over);
}

-- The first steps of the call have led to the stand u, and a change of epoch to t.
module _ (table : TableId) (about : About) (s u t : Stand) (h : IsHeld table about u) (settled : EpochSettled true s u) where
  young_then : EpochChanged false u t → EnteredYoung s t
  young_then changed =
      let began = changed.began in
      let is = ap (λ (x : SeatedPort). x.began) changed.is in
      let fresh = settled.fresh in
      let later = changed.later in
      let here = h.epoch in
      let length_is = ap (λ g. g.length) (is ∙ began) in
      let epoch_is = ap (λ g. g.epoch) (is ∙ began) in
      let up = changed.fresh in
      let same = ap (λ g. g.epoch) is in
      record {
        settled = record {
          come = come_on s u t settled.come (changed_come table about u t h changed);
          notes = ap (λ (x : SeatedPort). x.notes) changed.is ∙ settled.notes;
          began = let few = settled.began in omega (arith, few, length_is);
          fresh = omega (arith, up, same);
        };
        young = omega (arith, fresh, later, here, epoch_is);
        none = ap (λ (x : SeatedPort). x.port.part.seen) changed.is;
      }

  pub entered_come : {A : Type 0} → (r : Result A Refused) → IfOk r (λ _. EpochChanged false u t) → IfErr r (λ _. NotChanged false u t) → HasCome s t
  entered_come (Ok a) changed not = (young_then changed).settled.come
  entered_come (Err cause) changed not = come_on s u t settled.come (refused_come u t not)

  pub entered_young : {A : Type 0} → (r : Result A Refused) → IfOk r (λ _. EpochChanged false u t) → IfOk r (λ _. EnteredYoung s t)
  entered_young (Ok a) changed = young_then changed
  entered_young (Err cause) changed = tt

  pub entered_not : {A : Type 0} → (r : Result A Refused) → IfErr r (λ _. NotChanged false u t) → IfErr r (λ cause. IsCause t cause) → IfErr r (NotScanned s t)
  entered_not (Ok a) not why = tt
  entered_not (Err cause) not why = record {
    shape = not.shape ∙ settled.come.shape;
    goes = goes_on (port_at s) (port_at u) (port_at t) settled.come.goes not.goes;
    notes = not.notes ∙ settled.notes;
    why = why;
  }

-- the initial stamps are the initial records in each epoch
opened_first : (o : Opening) (before : List (List Applied)) → (opened_after o before).first ≡ o.first
opened_first o [] = refl
opened_first o (h ∷ before) = opened_first o before

-- In an epoch of which the port has seen nothing each component had its initial record.
module _ (table : TableId) (about : About) (s : Stand) (h : IsHeld table about s) (none : (port_at s).port.part.seen ≡ []) (js ws : List ℕ) (inside : AreInside about.sizes js)
    (kept : (k : ℕ) → k < length js → slice_index ws k ≡ initial_record about.sizes (slice_index js k)) where
  abbrev x : SeatedPort
  x = port_at s

  initial_is : (j : ℕ) → stamp_of (opening_of x) [] j ≡ initial_record about.sizes j
  initial_is j =
      ap (λ (t : Option Applied). option_map_or (λ (a : Applied). a.stamp) t (initial_stamp (opening_of x) j)) (last_entry-nil j)
      ∙ ap (λ n. n + plain_record_size * j) (opened_first x.about.opening x.port.before ∙ h.known.plan.first) ∙ ap (λ (a : About). initial_record a.sizes j) h.own

  -- so that the record lies in the arena
  initial_low : (j : ℕ) → j < about.sizes.m → (initial_record about.sizes j < stamp_limit) × (value_word (initial_record about.sizes j) < total about.sizes)
  initial_low j low =
      let z : IsLayout about.sizes = subst (λ (a : About). IsLayout a.sizes) h.own h.known.plan.sizes in
      let m = z.components.1 in
      let slots = z.slots.1 in
      let lists = z.lists in
      let room = z.pool.0 in
      let pool = z.pool.1 in
      (omega (arith, low, m, slots, lists, pool), omega (arith, low, room))

  pub initial_there : AreCollected x (length x.port.part.seen) (length x.port.part.seen) js ws (length js)
  initial_there k low =
      let j = slice_index js k in
      let is = kept k low in
      let within = initial_low j (inside k low) in
      let same : unsealed (slice_index ws k) ≡ initial_record about.sizes j = unsealed_same (slice_index ws k) (let small = within.0 in omega (arith, small, is)) ∙ is in
      record {
        entries = length x.port.part.seen;
        from = omega arith;
        to = omega arith;
        stamp = same ∙ sym (initial_is j) ∙ ap (λ (l : List Applied). stamp_of (opening_of x) l j) (sym (take_all (length x.port.part.seen) x.port.part.seen (omega arith) ∙ none));
        within = let inner = within.1 in let own = ap (λ (a : About). total a.sizes) h.own in omega (arith, same, inner, own);
      }

  -- the values of these records are words of the arena
  pub initial_within : (k : ℕ) → k < length js → value_word (unsealed (slice_index ws k)) < total about.sizes
  initial_within k low = let there = (initial_there k low).within in let own = ap (λ (a : About). total a.sizes) h.own in omega (arith, there, own)

  -- The values have been loaded, which has led to v, and the last one by the load that notes the scan, which has led to t.
  module _ (entered : (r : Stand) × EnteredYoung r s) (some : 0 < length js) (v : Stand) (kept_on : StaysAt s v) (same : port_at v ≡ port_at s) where
    idle : IsIdle s
    idle = (entered.1).settled.come.idle

    first : AreCollected x 0 (length x.port.part.seen) js ws (length js)
    first k low = let there = initial_there k low in record { entries = there.entries; from = omega arith; to = there.to; stamp = there.stamp; within = there.within }

    itself : HasGlanced s s
    itself = glanced_itself table about s h

    long : length x.port.part.seen ≡ 0
    long = ap (λ (l : List Applied). length l) none

    pub may_initial : (which : List ℕ) (entries : ℕ) → which ≡ js → entries ≡ 0 → MayNoteScan which entries (port_at v)
    may_initial which entries is zero =
        subst (λ n. MayNoteScan which n (port_at v)) (long ∙ sym zero) (subst (λ (l : List ℕ). MayNoteScan l (length x.port.part.seen) (port_at v)) (sym is)
        (may_together table about s s v h idle js ws inside some first itself kept_on same))

    module _ (t : Stand) (kept_then : StaysAt v t) (which : List ℕ) (entries : ℕ) (is : which ≡ js) (zero : entries ≡ 0) (i a : ℕ) (noted : NotesScan which entries i (port_at v) a (port_at t)) where
      noted_here : NotesScan js (length x.port.part.seen) i (port_at v) a (port_at t)
      noted_here = subst (λ n. NotesScan js n i (port_at v) a (port_at t)) (zero ∙ sym long) (subst (λ (l : List ℕ). NotesScan l entries i (port_at v) a (port_at t)) is noted)

      time : x.began.length ≤ length (seen_in x.port)
      time =
          let young = (entered.1).young in
          let here = h.epoch in
          let before = (subst (λ (z : SeatedPort). NotesScan which entries i z a (port_at t)) same noted).young (omega (arith, young, here)) in
          let all = seen_long x in
          omega (arith, before, all)

      pub initial_come : HasCome s t
      initial_come = (together_stayed table about s s v h idle js ws inside some first itself kept_on same t kept_then i a noted_here).come

      pub initial_named : (vs : List ℕ) → HadValues x js ws vs (length js - 1) → length vs ≡ length js → ((j : ℕ) → j < about.sizes.m → HadValue (port_at v) j (slice_index ws (length js - 1)) a) →
          MadeNamed s t js (slice_set vs (length js - 1) a) 2 None ws
      initial_named vs values many last =
          together_named table about s s v h idle js ws inside some first itself kept_on same t kept_then i a noted_here vs initial_there values many last time

-- The port has settled, which has led to u, has tried further double collects, which has led to v, and has scanned on, which has led to t.
module _ (s u v t : Stand) (settled : EpochSettled true s u) (stayed : HasStayed u v) (notes : (port_at v).notes ≡ (port_at u).notes) where
  come : HasCome s v
  come = come_on s u v settled.come stayed.come

  notes_are : (port_at v).notes ≡ (port_at s).notes
  notes_are = notes ∙ settled.notes

  pub further_named : (r : Result Scanned Refused) (which values ws : List ℕ) → IfOk r (λ q. ScannedNamed v t which values q.collects q.borrowed ws) →
      IfOk r (λ q. ScannedNamed s t which values q.collects q.borrowed ws)
  further_named (Ok q) which values ws w = come_named s v t come notes_are which values q.collects q.borrowed ws w
  further_named (Err cause) which values ws w = tt

  pub further_refused : (r : Result Scanned Refused) → IfErr r (NotScanned v t) → IfErr r (NotScanned s t)
  further_refused (Ok q) w = tt
  further_refused (Err cause) w = come_refused s v t come notes_are cause w
