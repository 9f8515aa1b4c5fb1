-- A scan by a double collect: two equal collects stood together between them.
use Rattle.partial_long_lived.proofs.{Common.{ℕ, suc, ◌≡◌, ◌+◌, ◌-◌, ◌<◌, ◌≤◌, ◌&&◌, ◌++◌, not, Bool, true, false, if◌then◌else◌, Option, None, Result, Ok, Err, IfOk, IfErr, List, [], ◌∷◌, length, map, take, slice_set, refl, sym, ap, subst, ◌∙◌, inl, inr, arith, append-nil, length-append, nat_lt, slice_index, option_map_or, AllByRecursion, eqb_tells, ext_get_or, get_or-map, get_or-set_other, get_or-set_same, length-map, length-set, TableId, Applied, IsHistory, value_of, Noted, seen_by, legal_notes_are_shown, stamps_never_return, core_of, packed, seal, having_passed, having_looked, history_of, public_entry, public_log, OwnedArena, Port, Refused, About, Stand, Began, SeatedPort, seen_in, IsHeld, port_at, having_found, looked_at, HasCome, IsIdle, StaysAt, LookFound, SeatSees, noted_by, opening_of, Glances, HasNotedScan, ScanMade, EpochSettled, noted_scan, NotScanned, AreCollected, AreInside, HadValue, HadValues, HasBegunCollect, HasGlanced, HasStayed, MayNoteScan, NotesScan, WasThere, stamp_of, Scanned, total, value_word, unsealed, public_of, plan_of, MadeNamed, NameStamps, ScannedNamed}, Coming.{come_itself, come_on, come_same, come_seen, goes_on, seen_more}, Looking.looked_away, Seen.begin_history, Conditional.record_small, Collects.{glanced_come, glanced_idle, glanced_notes, glanced_seen, glanced_stayed, glanced_there, stayed_on, there_now}}

-- The first step of the scan led from the stand s to u, and perhaps a look on to t, of which nothing is new.
module _ (table : TableId) (about : About) (s u t : Stand) (h : IsHeld table about s) (idle : IsIdle s) (kept : StaysAt s u) (j a : ℕ)
    (w : SeatSees true Glances j (port_at s) a (port_at u)) (kept' : StaysAt u t) where
  nothing : (c : Bool) → (if c then [] else noted_by Glances (port_at s) w.log j) ≡ []
  nothing true = refl
  nothing false = refl

  notes_are : (port_at u).notes ≡ (port_at s).notes
  notes_are = ap (λ (x : SeatedPort). x.notes) w.is ∙ ap (λ (l : List Noted). (port_at s).notes ++ l) (nothing (true && not (nat_lt a seal))) ∙ append-nil (port_at s).notes

  come_first : HasCome s u
  come_first = come_seen s s u true Glances j a (come_itself table about s h idle) kept w

  began_is : (port_at u).began ≡ w.n
  began_is = ap (λ (x : SeatedPort). x.began) w.is

  pub first_stayed : HasStayed s u
  first_stayed = record { come = come_first; epoch = kept.epoch }

  module _ (same : port_at t ≡ port_at u) (fresh : (port_at u).began.epoch ≤ (port_at s).port.control.here.epoch) where
    come_then : HasCome s t
    come_then = come_same s u t come_first kept' same

    pub begun_collect : HasBegunCollect s t j a
    begun_collect =
        let n_epoch = ap (λ (g : Began). g.epoch) began_is in
        let n_length = ap (λ (g : Began). g.length) began_is in
        let now = ap (λ (x : SeatedPort). x.began.length) same in
        let time = w.time (omega (arith, fresh, n_epoch)) in
        record {
          stayed = record { come = come_then; epoch = kept'.epoch ∙ kept.epoch };
          settled = record {
            come = come_then;
            notes = ap (λ (x : SeatedPort). x.notes) same ∙ notes_are;
            began = let few = w.began in omega (arith, few, n_length, now);
            fresh =
                let epoch = h.epoch in
                let here = kept'.epoch ∙ kept.epoch in
                let begun = ap (λ (x : SeatedPort). x.began.epoch) same in
                omega (arith, fresh, epoch, here, begun);
          };
          there = subst (λ (x : SeatedPort). WasThere x 0 (length x.port.part.seen) j a) (sym same) (there_now true (port_at s) (port_at u) 0 j a w (omega arith));
          time =
              let seen = ap (λ (x : SeatedPort). length (seen_in x.port)) same ∙ ap (λ (x : SeatedPort). length (seen_in x.port)) w.is in
              omega (arith, time, n_length, now, seen);
        }

  -- an unsealed word is one of the current epoch
  pub fresh_unsealed : a < seal → (port_at u).began.epoch ≤ (port_at s).port.control.here.epoch
  fresh_unsealed less = let young = w.present less in let same = ap (λ (g : Began). g.epoch) began_is in omega (arith, young, same)

  -- and a look that finds the port's own site says that its epoch is the current one
  module _ (b : Bool) (looked : LookFound false u b t) where
    pub look_same : b ≡ true → port_at t ≡ port_at u
    look_same here =
        let free : (port_at u).port.control.owned ≡ None = ap (λ (x : SeatedPort). x.port.control.owned) w.is ∙ idle.free in
        let port : looked_at looked.found (port_at u).port ≡ (port_at u).port =
        ap (λ (c : Bool). if c then having_found (port_at u).port else having_passed (port_at u).port) (sym looked.is ∙ here)
        ∙ ap (λ (o : Option OwnedArena). option_map_or (having_looked (port_at u).port) o (port_at u).port) free in
        looked.looks.2 ∙ ap (λ (n : Began). record (port_at u) { port = looked_at looked.found (port_at u).port; began = n }) looked.looks.1
        ∙ ap (λ (p : Port). record (port_at u) { port = p }) port

    pub fresh_looked : b ≡ true → (port_at u).began.epoch ≤ (port_at s).port.control.here.epoch
    fresh_looked here = elim (eqb_tells looked.found (packed (port_at u).port.control.here)) [
      | inl found ↦
          let young = looked.looks.3 found.1 in
          let same = ap (λ (g : Began). g.epoch) looked.looks.1 in
          let site = ap (λ (x : SeatedPort). x.port.control.here.epoch) w.is in
          omega (arith, young, same, site)
      | inr other ↦ let bad : true ≡ false = sym here ∙ looked.is ∙ other.0 in cc
    ]

    -- one that finds another site leaves the port where it stands
    pub look_stayed : b ≡ false → HasStayed s t
    look_stayed away =
        let port = looked_away false u t b looked away in
        stayed_on s u t first_stayed (record {
          come = record {
            shape = kept'.shape;
            number = kept'.number;
            goes = kept'.goes;
            idle = record {
              stands = ap (λ (p : Port). p.control.entering) port ∙ come_first.idle.stands;
              free = ap (λ (p : Port). p.control.owned) port ∙ come_first.idle.free;
            };
            machine = inl (kept'.epoch, ap (λ (p : Port). core_of p.part) port, ap (λ (p : Port). p.over) port);
          };
          epoch = kept'.epoch;
        })

-- what the first steps have settled stays so
pub settled_on : (s t u : Stand) → EpochSettled true s t → HasGlanced t u → EpochSettled true s u
settled_on s t u b g = record {
  come = come_on s t u b.come (glanced_come t u b.come.idle g);
  notes = ap (λ (x : SeatedPort). x.notes) g.is ∙ b.notes;
  began = let few = b.began in let same = ap (λ (x : SeatedPort). x.began.length) g.is in omega (arith, few, same);
  fresh = let young = b.fresh in let same = ap (λ (x : SeatedPort). x.began.epoch) g.is in let epoch = g.kept.epoch in omega (arith, young, same, epoch);
}

-- how much of the one history a port has seen
pub seen_long : (x : SeatedPort) → length (seen_in x.port) ≡ length (history_of x.port.before) + length x.port.part.seen
seen_long x =
    length-append (history_of x.port.before) (public_log (length x.port.before) x.port.part.seen)
    ∙ ap (λ n. length (history_of x.port.before) + n) (length-map x.port.part.seen (public_entry (length x.port.before)))

-- The two collects of a scan, at the stands s and u, have found the same words; the port has noted the scan by its last load, which led to t.
module _ (table : TableId) (about : About) (s u v : Stand) (h : IsHeld table about s) (idle : IsIdle s) (js ws : List ℕ) (inside : AreInside about.sizes js) (some : 0 < length js)
    (first : AreCollected (port_at s) 0 (length (port_at s).port.part.seen) js ws (length js)) (g : HasGlanced s u)
    (kept : StaysAt u v) (same : port_at v ≡ port_at u) where
  abbrev b : ℕ
  b = length (port_at s).port.part.seen

  abbrev x : SeatedPort
  x = port_at u

  about_is : x.about ≡ about
  about_is = ap (λ (z : SeatedPort). z.about) g.is ∙ h.own

  before_is : length (history_of x.port.before) ≡ length (history_of (port_at s).port.before)
  before_is = ap (λ (z : SeatedPort). length (history_of z.port.before)) g.is

  all_inside : (is : List ℕ) → AreInside about.sizes is → AllByRecursion (λ j. j < x.about.sizes.m) is
  all_inside [] each = tt
  all_inside (j ∷ is) each = (subst (λ (a : About). j < a.sizes.m) (sym about_is) (each 0 (omega arith)), all_inside is (λ k low. each (suc k) (omega (arith, low))))

  -- so it may note the scan
  pub may_together : MayNoteScan js b (port_at v)
  may_together = subst (MayNoteScan js b) (sym same) (record {
    some = some;
    inside = all_inside js inside;
    seen = glanced_seen s u g;
    behind =
        let shown = legal_notes_are_shown (port_at s).about.opening (seen_in (port_at s).port) (port_at s).number (port_at s).notes h.known.knows.legal in
        let notes = ap (seen_by 0) (glanced_notes s u g) in
        let long = seen_long (port_at s) in
        let before = before_is in
        omega (arith, shown, notes, long, before);
  })

  module _ (t : Stand) (kept' : StaysAt v t) (i a : ℕ) (noted : NotesScan js b i (port_at v) a (port_at t)) where
    told : NotesScan js b i x a (port_at t)
    told = subst (λ (z : SeatedPort). NotesScan js b i z a (port_at t)) same noted

    pub together_stayed : HasStayed s t
    together_stayed =
        let idle' = glanced_idle s u idle g in
        stayed_on s u t (glanced_stayed s u idle g) (record {
          come = record {
            shape = kept'.shape ∙ kept.shape;
            number = kept'.number ∙ kept.number;
            goes = goes_on x (port_at v) (port_at t) kept.goes kept'.goes;
            idle = record { stands = ap (λ (z : SeatedPort). z.port.control.entering) told.is ∙ idle'.stands; free = ap (λ (z : SeatedPort). z.port.control.owned) told.is ∙ idle'.free };
            machine = inl (kept'.epoch ∙ kept.epoch, ap (λ (z : SeatedPort). core_of z.port.part) told.is, ap (λ (z : SeatedPort). z.port.over) told.is);
          };
          epoch = kept'.epoch ∙ kept.epoch;
        })

    -- a position had between the two collects what it had in the first one
    stood_then : AreCollected x b (length x.port.part.seen) js ws (length js) → (k : ℕ) → (low : k < length js) →
        let n = (glanced_there s u g 0 b b js ws (length js) (omega arith) (omega arith) first k low).entries in
        (stamp_of (opening_of x) (take b x.port.part.seen) (slice_index js k) ≡ stamp_of (opening_of x) (take n x.port.part.seen) (slice_index js k))
        × (value_of (opening_of x) (take b x.port.part.seen) (slice_index js k) ≡ value_of (opening_of x) (take n x.port.part.seen) (slice_index js k))
    stood_then second k low =
        let one = glanced_there s u g 0 b b js ws (length js) (omega arith) (omega arith) first k low in
        let two = second k low in
        let values = told.values in
        let j = inside k low in
        let m = ap (λ (z : About). z.sizes.m) about_is in
        let history = begin_history (opening_of x) x.port.part.seen told.begins.0 (subst (IsHistory (opening_of x)) told.begins.1 told.history) in
        stamps_never_return (opening_of x) x.port.part.seen (slice_index js k) one.entries two.entries b history (omega (arith, values, j, m)) one.to two.from (sym one.stamp ∙ two.stamp)

    -- the value of a position stood between the two collects
    stood : AreCollected x b (length x.port.part.seen) js ws (length js) → (k v : ℕ) → k < length js → HadValue x (slice_index js k) (slice_index ws k) v →
        v ≡ value_of (opening_of x) (take b x.port.part.seen) (slice_index js k)
    stood second k v low had =
        let one = glanced_there s u g 0 b b js ws (length js) (omega arith) (omega arith) first k low in
        let up = one.to in
        let more = glanced_seen s u g in
        had one.entries (omega (arith, up, more)) one.stamp ∙ sym (stood_then second k low).1

    -- so did the stamp of its record
    stamp_stood : AreCollected x b (length x.port.part.seen) js ws (length js) → (k : ℕ) → k < length js →
        unsealed (slice_index ws k) ≡ stamp_of (opening_of x) (take b x.port.part.seen) (slice_index js k)
    stamp_stood second k low =
        let one = glanced_there s u g 0 b b js ws (length js) (omega arith) (omega arith) first k low in
        one.stamp ∙ sym (stood_then second k low).0

    module _ (vs : List ℕ) (second : AreCollected x b (length x.port.part.seen) js ws (length js)) (values : HadValues x js ws vs (length js - 1)) (many : length vs ≡ length js)
        (last : (j : ℕ) → j < about.sizes.m → HadValue (port_at v) j (slice_index ws (length js - 1)) a) (time : (port_at s).began.length ≤ length (seen_in (port_at s).port)) where
      abbrev vs' : List ℕ
      vs' = slice_set vs (length js - 1) a

      had_all : (k : ℕ) → k < length js → HadValue x (slice_index js k) (slice_index ws k) (slice_index vs' k)
      had_all k low = elim (eqb_tells k (length js - 1)) [
        | inl here ↦
            subst (λ n. HadValue x (slice_index js n) (slice_index ws n) (slice_index vs' n)) (sym here.1)
            (subst (HadValue x (slice_index js (length js - 1)) (slice_index ws (length js - 1))) (sym (get_or-set_same vs (length js - 1) a 0 (omega (arith, some, many))))
            (subst (λ (z : SeatedPort). HadValue z (slice_index js (length js - 1)) (slice_index ws (length js - 1)) a) same
            (last (slice_index js (length js - 1)) (inside (length js - 1) (omega (arith, some))))))
        | inr other ↦
            let ne = other.1 in
            subst (HadValue x (slice_index js k) (slice_index ws k)) (sym (get_or-set_other vs (length js - 1) k a 0 ne)) (values k (omega (arith, low, ne)))
      ]

      values_are : vs' ≡ map (λ j. value_of (opening_of x) (take b x.port.part.seen) j) js
      values_are =
          let long = length-set vs (length js - 1) a in
          let mapped = length-map js (λ j. value_of (opening_of x) (take b x.port.part.seen) j) in
          ext_get_or 0 vs' (map (λ j. value_of (opening_of x) (take b x.port.part.seen) j) js) (omega (arith, long, mapped, many))
          (λ k low. stood second k (slice_index vs' k) (omega (arith, low, long, many)) (had_all k (omega (arith, low, long, many)))
          ∙ sym (get_or-map (λ j. value_of (opening_of x) (take b x.port.part.seen) j) js k 0 0 (omega (arith, low, long, many))))

      pub together_scanned : ScanMade s t js vs' 2 None
      together_scanned = record {
        shape = kept'.shape ∙ kept.shape ∙ g.kept.shape;
        number = kept'.number ∙ kept.number ∙ g.kept.number;
        epoch = kept'.epoch ∙ kept.epoch ∙ g.kept.epoch;
        goes = goes_on (port_at s) x (port_at t) g.kept.goes (goes_on x (port_at v) (port_at t) kept.goes kept'.goes);
        idle = together_stayed.come.idle;
        began = ap (λ (z : SeatedPort). z.began) told.is ∙ ap (λ (z : SeatedPort). z.began) g.is;
        place = length (history_of x.port.before) + b;
        notes = ap (λ (z : SeatedPort). z.notes) told.is
            ∙ ap (λ (l : List ℕ). x.notes ++ noted_scan t.epoch js l 2 None (length (history_of x.port.before) + b) ∷ []) (sym values_are)
            ∙ ap (λ (l : List Noted). l ++ noted_scan t.epoch js vs' 2 None (length (history_of x.port.before) + b) ∷ []) (glanced_notes s u g);
        behind =
            let began = ap (λ (z : SeatedPort). z.began.length) told.is ∙ ap (λ (z : SeatedPort). z.began.length) g.is in
            let long = seen_long (port_at s) in
            let before = before_is in
            omega (arith, began, time, long, before);
        within =
            let long = seen_long (port_at t) in
            let seen = ap (λ (z : SeatedPort). length z.port.part.seen) told.is in
            let before = ap (λ (z : SeatedPort). length (history_of z.port.before)) told.is in
            let more = glanced_seen s u g in
            let whole = ap (λ (l : List Applied). length l) told.begins.1 in
            let both = length-append x.port.part.seen told.begins.0 in
            omega (arith, long, seen, before, more, whole, both);
      }

      pub together_named : MadeNamed s t js vs' 2 None ws
      unfolding together_scanned
      together_named = record {
        made = together_scanned;
        stamps = λ _. subst (λ (z : SeatedPort). NameStamps z (length (history_of x.port.before) + b) js ws) (sym told.is) (λ k low. (
          record_small table about s (unsealed (slice_index ws k)) h
              (subst (λ (a : About). value_word (unsealed (slice_index ws k)) < total a.sizes) (about_is ∙ sym h.own) (second k low).within),
          ap (public_of (plan_of x.about) x.port.before (slice_index js k)) (stamp_stood second k low)
              ∙ told.stamps (slice_index js k) (subst (λ (a : About). slice_index js k < a.sizes.m) (sym about_is) (inside k low)),
        ));
      }

-- a scan after a double collect that failed, and where the port is since
module _ (s u t : Stand) (come : HasCome s u) (notes : (port_at u).notes ≡ (port_at s).notes) where
  come_later : s.epoch ≤ u.epoch
  come_later = elim come.machine [
    | inl same ↦ let is = same.0 in omega (arith, is)
    | inr later ↦ let up = later.0 in omega (arith, up)
  ]

  come_scanned : (which values : List ℕ) (collects : ℕ) (borrowed : Option ℕ) → HasNotedScan u t which values collects borrowed → HasNotedScan s t which values collects borrowed
  come_scanned which values collects borrowed w = record {
    shape = w.shape ∙ come.shape;
    number = w.number ∙ come.number;
    later = let up = w.later in let low = come_later in omega (arith, up, low);
    goes = goes_on (port_at s) (port_at u) (port_at t) come.goes w.goes;
    idle = w.idle;
    place = w.place;
    notes = w.notes ∙ ap (λ (l : List Noted). l ++ noted_scan t.epoch which values collects borrowed w.place ∷ []) notes;
    first = let few = w.first in let more = seen_more (port_at s) (port_at u) come.goes in omega (arith, few, more);
    behind = w.behind;
    within = w.within;
  }

  -- what it has collected last names the same stamps for the whole call
  pub come_named : (which values : List ℕ) (collects : ℕ) (borrowed : Option ℕ) (ws : List ℕ) → ScannedNamed u t which values collects borrowed ws →
      ScannedNamed s t which values collects borrowed ws
  unfolding come_scanned
  come_named which values collects borrowed ws w = record { scanned = come_scanned which values collects borrowed w.scanned; stamps = w.stamps }

  pub come_refused : (cause : Refused) → NotScanned u t cause → NotScanned s t cause
  come_refused cause w = record {
    shape = w.shape ∙ come.shape;
    goes = goes_on (port_at s) (port_at u) (port_at t) come.goes w.goes;
    notes = w.notes ∙ notes;
    why = w.why;
  }

  -- what a further scan has ended with
  pub come_ok : (r : Result Scanned Refused) (which values : List ℕ) → IfOk r (λ q. HasNotedScan u t which values q.collects q.borrowed) →
      IfOk r (λ q. HasNotedScan s t which values q.collects q.borrowed)
  come_ok (Ok q) which values w = come_scanned which values q.collects q.borrowed w
  come_ok (Err cause) which values w = w

  pub come_err : (r : Result Scanned Refused) → IfErr r (NotScanned u t) → IfErr r (NotScanned s t)
  come_err (Ok q) w = w
  come_err (Err cause) w = come_refused cause w
