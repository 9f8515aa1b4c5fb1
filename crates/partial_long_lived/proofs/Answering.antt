-- A call of a port: how it begins at the seat that was taken out, and what it leaves once the seat is put back.
use Rattle.partial_long_lived.proofs.{Common.{ℕ, None, append-nil, ◌≡◌, ◌<◌, ◌≤◌, ◌++◌, ◌∷◌, [], Option, Some, IfSome, Bool, true, false, true≢false, List, length, ap, ◌+◌, take, refl, sym, subst, ◌∙◌, inl, inr, arith, nat_lt, AllByRecursion, list_all, option_map, take-append_seam, TableId, Applied, IsEntryFor, IsLegal, LegalNotes, Noted, seen_by, AllByRecursion-get, LegalNotes-last, Layout, CoreState, fresh, IsSound, is_sound_at, IsMarkedLike, is_at_rest, public_stamp, Refused, Component, Overtaken, EpochsSpent, About, Stand, Began, SeatedPort, IsOf, MemoryView, PortView, port_view, seen_in, SeatGoes, IsHeld, epoch_at, port_at, HasCome, HasNotedRead, EpochChanged, HasNotedScan, RestsUnmarked, ScanMade, noted_scan, NotScanned, RestsAt, MadeNamed, ScannedNamed, ScannedStamped, Contains, is_some, Call, Answer, Note, IsCause, no_spare, IsInPool, first_free, IsEpochPlan, plan_of}, Coming.goes_on}
use Rattle.partial_model.proofs.Decisions.{Decides-list_all, Decides-nat_lt}
use Rattle.partial_active.specs.GetSet.{fresh_set as unmarked}
use Rattle.partial_long_lived.specs.Calls as calls

-- the port of a seat in a call, as callers saw it before
pub view_before : (m : MemoryView) (t : Stand) (p : PortView) → port_view t.seat.table_id t.seat.steps (port_at t) ≡ p → IsOf m p → port_view m.table t.seat.steps (port_at t) ≡ p
view_before m t p view own =
    let table : t.seat.table_id ≡ m.table = ap (λ (q : PortView). q.memory.table) view ∙ ap (λ (v : MemoryView). v.table) own in
    ap (λ (i : TableId). port_view i t.seat.steps (port_at t)) (sym table) ∙ view

-- and as they see it after the call
pub view_after : (m : MemoryView) (t : Stand) → IsHeld m.table m.about t → port_view m.table t.seat.steps (port_at t) ≡ port_view t.seat.table_id t.seat.steps (port_at t)
view_after m t h = ap (λ (i : TableId). port_view i t.seat.steps (port_at t)) (sym h.fits)

-- how many steps a call has made, as callers see it
pub few_seen : (t u : Stand) (p : PortView) (n : ℕ) → port_view t.seat.table_id t.seat.steps (port_at t) ≡ p → u.seat.steps ≤ t.seat.steps + n → u.seat.steps ≤ p.steps + n
few_seen t u p n view few = subst (λ (q : PortView). u.seat.steps ≤ q.steps + n) view few

-- the same where the bound is one of what the memory was opened with
pub few_about : (f : About → ℕ) (t u : Stand) (p : PortView) (m n : MemoryView) → port_view t.seat.table_id t.seat.steps (port_at t) ≡ p → m ≡ n → u.seat.steps ≤ t.seat.steps + f m.about →
    u.seat.steps ≤ p.steps + f n.about
few_about f t u p m n view is few = subst (λ (x : MemoryView). u.seat.steps ≤ p.steps + f x.about) is (few_seen t u p (f m.about) view few)

-- what callers see of the steps of a call
pub goes_seen : {m n : ℕ} (table : TableId) (x y : SeatedPort) (new : List Noted) → SeatGoes x y → y.notes ≡ x.notes ++ new → calls.Goes (port_view table m x) (port_view table n y) new
goes_seen table x y new g notes = record {
  memory = ap (λ (a : About). record { table = table; about = a }) g.about;
  number = g.number;
  epoch = g.epoch;
  seals = g.seals;
  seen = sym (take-append_seam (seen_in x.port) g.seen.0) ∙ ap (λ (l : List Applied). take (length (seen_in x.port)) l) (sym g.seen.1);
  notes = notes;
  knows = g.known.knows;
}

-- why a change of epoch was refused, as callers see it
pub cause_seen : (table : TableId) (m n : ℕ) (s t : Stand) (cause : Refused) → epoch_at t ≡ t.epoch → IsCause t cause → calls.CantEnd (port_view table m (port_at s)) cause (port_view table n (port_at t))
cause_seen table m n s t Component is why = absurd why
cause_seen table m n s t Overtaken is why = absurd why
cause_seen table m n s t EpochsSpent is why = ap (λ (n : ℕ). n + 1) is ∙ why

-- a read, as callers see it
pub has_read_seen : (table : TableId) (s t : Stand) (j value stamp : ℕ) → HasNotedRead s t j value stamp → j < (port_at s).about.sizes.m →
    calls.Reads (port_view table s.seat.steps (port_at s)) j value stamp (port_view table t.seat.steps (port_at t))
has_read_seen table s t j value stamp w inside =
    let first = w.first in
    let behind = w.behind in (
      length (seen_in (port_at t).port),
      record {
        inside = (inside, tt);
        goes = goes_seen table (port_at s) (port_at t) _ w.come.goes w.notes;
        first = first;
        behind = behind;
        within = omega arith;
      },
    )

-- what holds of the port as its call begins and as it ends is what callers see
module _ (m : MemoryView) (t u : Stand) (p : PortView) (view : port_view t.seat.table_id t.seat.steps (port_at t) ≡ p) (own : IsOf m p) (held : IsHeld m.table m.about u) where
  pub callers_see : (P : PortView → PortView → Type 0) → P (port_view m.table t.seat.steps (port_at t)) (port_view m.table u.seat.steps (port_at u)) → P p (port_view u.seat.table_id u.seat.steps (port_at u))
  callers_see P is = subst (λ (a : PortView). P a (port_view u.seat.table_id u.seat.steps (port_at u))) (view_before m t p view own)
      (subst (λ (a : PortView). P (port_view m.table t.seat.steps (port_at t)) a) (view_after m u held) is)

  pub read_seen : (j value stamp : ℕ) → HasNotedRead t u j value stamp → j < m.about.sizes.m → calls.Reads p j value stamp (port_view u.seat.table_id u.seat.steps (port_at u))
  read_seen j value stamp w inside =
      let about : (port_at t).about ≡ m.about = sym w.come.goes.about ∙ held.own in
      callers_see (λ (a b : PortView). calls.Reads a j value stamp b) (has_read_seen m.table t u j value stamp w (subst (λ (a : About). j < a.sizes.m) (sym about) inside))

-- a port that has entered no later epoch rests with the machine that it had
pub rests_here : (s t : Stand) (core : CoreState) (spent : Bool) → HasCome s t → RestsAt s core spent → t.epoch ≡ s.epoch → RestsAt t core spent
rests_here s t core spent come w here = record {
  free = come.idle;
  idle = w.idle;
  sound = w.sound;
  sizes = w.sizes ∙ ap (λ (a : About). a.sizes) (sym come.goes.about);
  port = w.port ∙ sym come.number;
  between = λ no. elim come.machine [
    | inl same ↦
        let old = w.between no in
        let machine = sym same.1 in (
          record {
            rest = subst (λ (c : CoreState). is_at_rest c.stage ≡ true) machine old.0.rest;
            like = subst (λ (c : CoreState). IsMarkedLike c core) machine old.0.like;
            idle = old.0.idle;
            sound = old.0.sound;
          },
          same.2 ∙ old.1,
          old.2,
          old.3,
          (let low = old.4 in let limit = ap (λ (a : About). a.limit) come.goes.about in omega (arith, low, limit)),
        )
    | inr later ↦ let up = later.0 in absurd (omega (arith, up, here))
  ];
}

-- one that has entered a later epoch rests with a machine that is unspent again
module _ (s t : Stand) (core : CoreState) (spent : Bool) (own : s.number ≡ (port_at s).number) (plan : IsEpochPlan (plan_of (port_at s).about)) (come : HasCome s t) (w : RestsAt s core spent) (away : t.epoch ≡ s.epoch → ⊥) where
  abbrev last : CoreState
  last = record core { pool_spent = false; slots_spent = false; spare = no_spare core.sizes; get_set = unmarked core.sizes false }

  last_sound : IsSound last
  last_sound = record {
    asked = w.sound.asked;
    found = w.sound.found;
    indices = w.sound.indices;
    distinct = w.sound.distinct;
    rows = w.sound.rows;
    ahead = w.sound.ahead;
    spare = subst (λ (z : Layout). IsInPool z (first_free z) 0) (sym w.sizes) (let pool = plan.sizes.pool.0 in (omega arith, omega (arith, pool)));
    stage = subst (is_sound_at last) (sym w.idle) tt;
  }

  last_like : IsMarkedLike (fresh (port_at s).about.sizes (port_at s).number) last
  last_like = record { sizes = w.sizes; port = w.port ∙ own; pool = refl; slots = refl; lists = refl; spare = ap no_spare w.sizes }

  last_rests : RestsAt t last false
  last_rests = record {
    free = come.idle;
    idle = w.idle;
    sound = last_sound;
    sizes = w.sizes ∙ ap (λ (a : About). a.sizes) (sym come.goes.about);
    port = w.port ∙ sym come.number;
    between = λ no. elim come.machine [
      | inl same ↦ absurd (away same.0)
      | inr later ↦
          let machine = sym later.1 in (
            record {
              rest = subst (λ (c : CoreState). is_at_rest c.stage ≡ true) machine refl;
              like = subst (λ (c : CoreState). IsMarkedLike c last) machine last_like;
              idle = w.idle;
              sound = last_sound;
            },
            later.2,
            refl,
            refl,
            (let opens = plan.opens in let limit = ap (λ (a : About). a.limit) come.goes.about in let free = ap first_free w.sizes in omega (arith, opens, limit, free)),
          )
    ];
  }

  pub rests_anew : (c : CoreState) → c ≡ last → RestsAt t c false
  rests_anew c is = subst (λ (d : CoreState). RestsAt t d false) (sym is) last_rests

-- a port that isn't spent in its epoch has a machine that may begin a scan there
pub rests_unmarked : (table : TableId) (about : About) (s : Stand) (core : CoreState) (spent : Bool) → IsHeld table about s → RestsAt s core spent →
    spent ≡ false → RestsUnmarked (port_at s) core × ((port_at s).port.over ≡ false)
rests_unmarked table about s core spent h w spare =
    let b = w.between spare in
    (record { between = b.0; sizes = w.sizes; port = w.port ∙ h.number; pool = b.2; slots = b.3; kept = λ free. b.4 }, b.1)

-- the first steps of a call have changed the epoch
module _ (table : TableId) (about : About) (s u : Stand) (core : CoreState) (spent : Bool) (h : IsHeld table about s) (w : RestsAt s core spent) (changed : EpochChanged true s u) where
  changed_scanned : (t : Stand) (which values : List ℕ) (collects : ℕ) (borrowed : Option ℕ) → ScanMade u t which values collects borrowed → HasNotedScan s t which values collects borrowed
  changed_scanned t which values collects borrowed made = record {
    shape = made.shape ∙ changed.shape;
    number = made.number ∙ changed.number;
    later = let same = made.epoch in let up = changed.later in let epoch = h.epoch in omega (arith, same, up, epoch);
    goes = goes_on (port_at s) (port_at u) (port_at t) changed.goes made.goes;
    idle = made.idle;
    place = made.place;
    notes = made.notes ∙ ap (λ (x : SeatedPort). x.notes ++ noted_scan t.epoch which values collects borrowed made.place ∷ []) changed.is;
    first =
        let few = changed.began in
        let same = ap (λ (x : SeatedPort). x.began.length) changed.is in
        let then = ap (λ (g : Began). g.length) made.began in
        omega (arith, few, same, then);
    behind = made.behind;
    within = made.within;
  }

  -- and the words that it has collected last name the stamps at its place
  pub changed_named : (t : Stand) (which values : List ℕ) (collects : ℕ) (borrowed : Option ℕ) (ws : List ℕ) → MadeNamed u t which values collects borrowed ws →
      ScannedNamed s t which values collects borrowed ws
  unfolding changed_scanned
  changed_named t which values collects borrowed ws named = record { scanned = changed_scanned t which values collects borrowed named.made; stamps = named.stamps }

-- whether each index is below the number of components
pub are_below : (m : ℕ) (js : List ℕ) (b : Bool) → b ≡ list_all (λ i. nat_lt i m) js → b ≡ true → AllByRecursion (λ j. j < m) js
are_below m js b is all = (Decides-list_all (λ i. nat_lt i m) (λ j. j < m) (λ i. Decides-nat_lt i m) js).0 (sym is ∙ all)

pub not_below : (m : ℕ) (js : List ℕ) (b : Bool) → b ≡ list_all (λ i. nat_lt i m) js → b ≡ false → AllByRecursion (λ j. j < m) js → ⊥
not_below m js b is some all = true≢false (sym ((Decides-list_all (λ i. nat_lt i m) (λ j. j < m) (λ i. Decides-nat_lt i m) js).1 all) ∙ sym is ∙ some)

-- the public stamp of a view that a scan has borrowed fits a word
module _ (s t : Stand) (which values : List ℕ) (collects : ℕ) (borrowed : Option ℕ) (w : HasNotedScan s t which values collects borrowed) where
  legal_scan : IsLegal (port_at t).about.opening (seen_in (port_at t).port) (port_at t).number (seen_by 0 (port_at s).notes) (noted_scan t.epoch which values collects borrowed w.place)
  legal_scan = LegalNotes-last (port_at t).about.opening (seen_in (port_at t).port) (port_at t).number 0 (port_at s).notes (noted_scan t.epoch which values collects borrowed w.place)
      (subst (LegalNotes (port_at t).about.opening (seen_in (port_at t).port) (port_at t).number 0) w.notes w.goes.known.knows.legal)

  fits_by : (b : Option ℕ) → IfSome (option_map (public_stamp t.epoch) b) (λ v. (k j : ℕ) × (w.place ≤ k) × Contains which j × IsEntryFor (seen_in (port_at t).port) k j v) →
      IfSome b (λ at. public_stamp t.epoch at < 18446744073709551616)
  fits_by None is = tt
  fits_by (Some at) is =
      let entry = is.4 in
      let low = AllByRecursion-get (λ (a : Applied). a.stamp < 18446744073709551616) (seen_in (port_at t).port) is.0 entry.0 w.goes.known.fits.each entry.1 in
      subst (λ n. n < 18446744073709551616) entry.3 low

  pub borrowed_fits : IfSome borrowed (λ at. public_stamp t.epoch at < 18446744073709551616)
  borrowed_fits = fits_by borrowed legal_scan.1.0.borrowed

-- a scan, as callers see it
pub has_scanned_seen : (table : TableId) (s t : Stand) (which values : List ℕ) (collects : ℕ) (borrowed public : Option ℕ) → HasNotedScan s t which values collects borrowed →
    public ≡ option_map (public_stamp t.epoch) borrowed → 0 < length which → AllByRecursion (λ j. j < (port_at s).about.sizes.m) which →
    calls.Scans (port_view table s.seat.steps (port_at s)) which values (record { collects = collects; borrowed = public }) (port_view table t.seat.steps (port_at t))
has_scanned_seen table s t [] values collects borrowed public w is some inside = absurd (omega (arith, some))
has_scanned_seen table s t (j ∷ js) values collects borrowed public w is some inside =
    let first = w.first in
    let behind = w.behind in (
      w.place,
      record {
        inside = inside;
        goes = goes_seen table (port_at s) (port_at t) _ w.goes (w.notes ∙ ap (λ (b : Option ℕ). (port_at s).notes
            ++ record { call = Call.Scan (j ∷ js); answer = Answer.Scanned values collects b; note = Some (Note.Saw w.place) } ∷ []) (sym is));
        first = first;
        behind = behind;
        within = w.within;
      },
    )

-- a scan that returned stamps, as callers see it
pub has_stamped_seen : (table : TableId) (s t : Stand) (which values : List ℕ) (collects : ℕ) (borrowed public : Option ℕ) (stamps : List ℕ) →
    ScannedStamped s t which values collects borrowed stamps → public ≡ option_map (public_stamp t.epoch) borrowed → 0 < length which →
    AllByRecursion (λ j. j < (port_at s).about.sizes.m) which →
    calls.ScansStamped (port_view table s.seat.steps (port_at s)) which values stamps (record { collects = collects; borrowed = public }) (port_view table t.seat.steps (port_at t))
unfolding has_scanned_seen
has_stamped_seen table s t [] values collects borrowed public stamps w is some inside = absurd (omega (arith, some))
has_stamped_seen table s t (j ∷ js) values collects borrowed public stamps w is some inside =
    let scan = has_scanned_seen table s t (j ∷ js) values collects borrowed public w.scanned is some inside in
    (scan.0, scan.1, λ none. w.stamps_are (unborrowed borrowed (sym is ∙ none)))
  where
    unborrowed : (b : Option ℕ) → option_map (public_stamp t.epoch) b ≡ None → b ≡ None
    unborrowed None is_none = refl
    unborrowed (Some at) is_none = let bad : Some (public_stamp t.epoch at) ≡ None = is_none in cc

-- a view that was taken has a public stamp
pub borrowed_public : (epoch : ℕ) (borrowed public : Option ℕ) → public ≡ option_map (public_stamp epoch) borrowed → is_some public ≡ is_some borrowed
borrowed_public epoch None public is = ap is_some is
borrowed_public epoch (Some at) public is = ap is_some is

-- a scan that was refused, as callers see it
pub not_scanned_seen : (table : TableId) (s t : Stand) (which : List ℕ) (cause : Refused) → (epoch_at t ≡ t.epoch) → NotScanned s t cause → AllByRecursion (λ j. j < (port_at s).about.sizes.m) which →
    calls.IsRefused (port_view table s.seat.steps (port_at s)) (Call.Scan which) cause (port_view table t.seat.steps (port_at t))
not_scanned_seen table s t which Component is w inside = absurd w.why
not_scanned_seen table s t which Overtaken is w inside = absurd w.why
not_scanned_seen table s t which EpochsSpent is w inside = (inside, goes_seen table (port_at s) (port_at t) [] w.goes (w.notes ∙ sym (append-nil (port_at s).notes)), cause_seen table s.seat.steps t.seat.steps s t EpochsSpent is w.why)

-- the same, as callers see the port
module _ (m : MemoryView) (t u : Stand) (p : PortView) (view : port_view t.seat.table_id t.seat.steps (port_at t) ≡ p) (own : IsOf m p) (held : IsHeld m.table m.about u) (which : List ℕ) (below : AllByRecursion (λ j. j < m.about.sizes.m) which) where
  below_there : (port_at u).about ≡ (port_at t).about → AllByRecursion (λ j. j < (port_at t).about.sizes.m) which
  below_there same = subst (λ (a : About). AllByRecursion (λ j. j < a.sizes.m) which) (sym (sym same ∙ held.own)) below

  pub scan_answered : (values : List ℕ) (collects : ℕ) (borrowed public : Option ℕ) → HasNotedScan t u which values collects borrowed →
      public ≡ option_map (public_stamp u.epoch) borrowed → 0 < length which →
      calls.Scans p which values (record { collects = collects; borrowed = public }) (port_view u.seat.table_id u.seat.steps (port_at u))
  scan_answered values collects borrowed public w is some =
      callers_see m t u p view own held (λ (a b : PortView). calls.Scans a which values (record { collects = collects; borrowed = public }) b)
      (has_scanned_seen m.table t u which values collects borrowed public w is some (below_there w.goes.about))

  pub scan_refused : (cause : Refused) → NotScanned t u cause → calls.IsRefused p (Call.Scan which) cause (port_view u.seat.table_id u.seat.steps (port_at u))
  scan_refused cause w =
      callers_see m t u p view own held (λ (a b : PortView). calls.IsRefused a (Call.Scan which) cause b)
      (not_scanned_seen m.table t u which cause (sym held.epoch) w (below_there w.goes.about))

  pub stamped_answered : (values : List ℕ) (collects : ℕ) (borrowed public : Option ℕ) (stamps : List ℕ) → ScannedStamped t u which values collects borrowed stamps →
      public ≡ option_map (public_stamp u.epoch) borrowed → 0 < length which →
      calls.ScansStamped p which values stamps (record { collects = collects; borrowed = public }) (port_view u.seat.table_id u.seat.steps (port_at u))
  stamped_answered values collects borrowed public stamps w is some =
      callers_see m t u p view own held (λ (a b : PortView). calls.ScansStamped a which values stamps (record { collects = collects; borrowed = public }) b)
      (has_stamped_seen m.table t u which values collects borrowed public stamps w is some (below_there w.scanned.goes.about))
