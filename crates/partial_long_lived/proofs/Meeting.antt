-- The step by which one port of a seat of two sees all of its epoch.
use Rattle.partial_long_lived.proofs.{Common.{around, ℕ, ◌≡◌, ◌<◌, ◌≤◌, ◌++◌, List, [], ◌∷◌, length, slice_index, slice_set, refl, sym, ap, subst, ◌∙◌, arith, Option, append-nil, append_assoc, length-append, AllByRecursion, Me, Allows, keeps, Applied, Noted, all_at, all_after, history_of, public_log, Port, Stands, Beside, site_now, LawfulMemory, having_seen, one_history, Reckons, Reckoning, history_grows, history_longer, About, Began, Found, BeganInTime, IsRuleKept, IsSeat, SeatedPort, one_of, plan_of, seats_of, seen_in, BeginsWith, IsSeatKnown, IsOne, Observes, observes, Contention, Knows, LegalNotes}, Begins.{now, now_has_begun, seen_few}, Kept.{Moved, goes_then, once_then, seats_then}, Loads.{begun_place, moved_glance, seat_at, seat_is, standing, where_is}, Seen.seen_begins, Seen.{knows_of, legal_begins}}

-- of two beginnings of a history the longer one begins with the other
begins_within : (h l m : List Applied) → BeginsWith h m → BeginsWith l m → length h ≤ length l → BeginsWith h l
begins_within [] l m a c short = (l, refl)
begins_within (x ∷ h) [] m a c short = absurd (omega (arith, short))
begins_within (x ∷ h) (y ∷ l) [] a c short = let bad : [] ≡ x ∷ (h ++ a.0) = a.1 in absurd cc
begins_within (x ∷ h) (y ∷ l) (z ∷ m) a c short =
    let first : z ∷ m ≡ x ∷ (h ++ a.0) = a.1 in
    let second : z ∷ m ≡ y ∷ (l ++ c.0) = c.1 in
    let heads : y ≡ x = cc in
    let left : m ≡ h ++ a.0 = cc in
    let right : m ≡ l ++ c.0 = cc in
    let r = begins_within h l m (a.0, left) (c.0, right) (omega (arith, short)) in
    (r.0, ap (λ (t : Applied). t ∷ l) heads ∙ ap (λ (t : List Applied). x ∷ t) r.1)

-- what stands before ends of one length is the same, and so are the ends
same_end : (l m : List (List Applied)) (x y : List Applied) (t u : List (List Applied)) → l ++ x ∷ t ≡ m ++ y ∷ u → length t ≡ length u → (x ≡ y) × (t ≡ u)
same_end [] [] x y t u is long = (cc, cc)
same_end [] (c ∷ m) x y t u is long =
    let all = ap (λ (k : List (List Applied)). length k) is in
    let both = length-append (c ∷ m) (y ∷ u) in
    absurd (omega (arith, all, both, long))
same_end (c ∷ l) [] x y t u is long =
    let all = ap (λ (k : List (List Applied)). length k) is in
    let both = length-append (c ∷ l) (x ∷ t) in
    absurd (omega (arith, all, both, long))
same_end (c ∷ l) (d ∷ m) x y t u is long = let rest : l ++ x ∷ t ≡ m ++ y ∷ u = cc in same_end l m x y t u rest long

-- All that a port has seen was there in its epoch.
module _ (a : About) (words : List ℕ) (ports : ℕ → Port) (notes : ℕ → List Noted) (b : Beside) (reckoned : Reckoning) (w : LawfulMemory (plan_of a) words ports b notes) (y : SeatedPort)
    (s : IsSeat a words ports notes b reckoned y) where
  abbrev seen_then : Began
  seen_then = record { epoch = length y.port.before; length = length (seen_in y.port) }

  epoch_is : length y.port.before ≡ y.port.control.here.epoch
  epoch_is = subst (λ (p : Port). length p.before ≡ p.control.here.epoch) (sym s.port) (w.noted.reached y.number s.number).epoch

  where_seen : (later : List (List Applied)) × (log : List Applied) × (b.log ∷ b.before ≡ later ++ log ∷ y.port.before)
  where_seen =
      let r = w.noted.reached y.number s.number in
      (r.later, r.log, r.is ∙ ap (λ (p : Port). r.later ++ r.log ∷ p.before) (sym s.port))

  pub come_there : length y.port.before ≤ length b.before
  come_there =
      let at = where_seen in
      let all = ap (λ (l : List (List Applied)). length l) at.2 in
      let both = length-append at.0 (at.1 ∷ y.port.before) in
      omega (arith, all, both)

  seen_has_begun : BeganInTime b seen_then
  seen_has_begun = record {
    come = come_there;
    reached = λ later before log is long.
        let at = where_seen in
        let same = same_end later at.0 log at.1 before y.port.before (sym is ∙ at.2) long in
        let r = s.seen at.0 at.1 at.2 in
        let whole = ap (λ (l : List Applied). length (history_of (l ∷ y.port.before))) r.1 ∙ ap (λ (l : List Applied). length l) (history_longer y.port.part.seen r.0 y.port.before) in
        let both = length-append (seen_in y.port) (public_log (length y.port.before) r.0) in
        let here = ap (λ (l : List Applied). length (history_of (l ∷ before))) same.0 ∙ ap (λ (t : List (List Applied)). length (history_of (at.1 ∷ t))) same.1 in
        omega (arith, whole, both, here);
  }

  -- so it is there in each epoch that isn't before its own
  pub seen_there : (later before : List (List Applied)) (log : List Applied) → b.log ∷ b.before ≡ later ++ log ∷ before → y.port.control.here.epoch ≤ length before →
      length (seen_in y.port) ≤ length (history_of (log ∷ before))
  seen_there later before log is late = let e = epoch_is in begun_place b seen_then later before log seen_has_begun is (omega (arith, late, e))

  pub begins_all : BeginsWith (seen_in y.port) (one_history b)
  begins_all = let at = where_seen in seen_begins b y.port s.seen at.0 at.1 at.2

-- what a port has seen of an epoch a port of a later one has seen
seen_before : (a : About) (words : List ℕ) (ports : ℕ → Port) (notes : ℕ → List Noted) (b : Beside) (reckoned : Reckoning) (w : LawfulMemory (plan_of a) words ports b notes) (x : SeatedPort)
    (s : IsSeat a words ports notes b reckoned x) (y : SeatedPort) (t : IsSeat a words ports notes b reckoned y) → x.port.control.here.epoch < y.port.control.here.epoch →
    length (seen_in x.port) ≤ length (seen_in y.port)
seen_before a words ports notes b reckoned w x s y t early = by y.port.before refl
  where
    by : (before : List (List Applied)) → y.port.before ≡ before → length (seen_in x.port) ≤ length (seen_in y.port)
    by [] is =
        let none = ap (λ (l : List (List Applied)). length l) is in
        let own = epoch_is a words ports notes b reckoned w y t in
        absurd (omega (arith, early, none, own))
    by (h ∷ before) is =
        let at = where_seen a words ports notes b reckoned w y t in
        let own = epoch_is a words ports notes b reckoned w y t in
        let long = ap (λ (l : List (List Applied)). length l) is in
        let all : kept_log ≡ (at.0 ++ at.1 ∷ []) ++ h ∷ before = at.2 ∙ ap (λ (l : List (List Applied)). at.0 ++ at.1 ∷ l) is ∙ sym (append_assoc at.0 (at.1 ∷ []) (h ∷ before)) in
        let short = seen_there a words ports notes b reckoned w x s (at.0 ++ at.1 ∷ []) before h all (omega (arith, early, own, long)) in
        let same = ap (λ (l : List (List Applied)). length (history_of l)) is in
        let more = length-append (history_of y.port.before) (public_log (length y.port.before) y.port.part.seen) in
        omega (arith, short, same, more)
      where
        kept_log : List (List Applied)
        kept_log = b.log ∷ b.before

-- a port that stands sees all of its epoch, beside another one
observed : (a : About) (words : List ℕ) (ports : ℕ → Port) (notes : ℕ → List Noted) (b : Beside) (reckoned : Reckoning) (w : LawfulMemory (plan_of a) words ports b notes) →
    Reckons (plan_of a) words ports (site_now b) reckoned → (k : ℕ) → k < a.ports → (g : Began) → (f : Option Found) → (u : Contention) → (ports k).control.entering ≡ Stands →
    IsSeat a words ports notes b reckoned (seat_at a ports notes k g f u) → IsSeatKnown (seat_at a ports notes k g f u) → (y : SeatedPort) → IsSeat a words ports notes b reckoned y → IsSeatKnown y → (i : ℕ) →
    Moved a words (slice_set words i (slice_index words i)) ports notes b reckoned (seat_at a ports notes k g f u) (Observes (seat_at a ports notes k g f u) y)
observed a words ports notes b reckoned w time k below g f u stands s known y t other i =
    let x : SeatedPort = seat_at a ports notes k g f u in
    let there = standing a words ports notes b reckoned w time k below g f u stands in
    let log : List Applied = there.epoch.log in
    let at = where_is a words ports notes b reckoned w time k below g f u stands in
    let z : SeatedPort = record x { port = having_seen (ports k) log; began = now b; notes = notes k ++ [] } in
    let epoch = (w.noted.reached k below).epoch in
    let long = come_there a words ports notes b reckoned w y t in
    let own = epoch_is a words ports notes b reckoned w y t in
    let few = seen_few a words ports notes b reckoned x w s in
    let all_of_x : BeginsWith (history_of (log ∷ (ports k).before)) (one_history b) = (let grows = history_grows at.0 (log ∷ (ports k).before) in (grows.0, ap history_of at.1 ∙ grows.1)) in
    let knows_beside : (h : List Applied) → BeginsWith h (one_history b) → BeginsWith (seen_in y.port) h → Knows y.about y.number h y.notes = λ h all begins.
    subst (λ (d : About). Knows d y.number h y.notes) (sym t.about) (subst (Knows a y.number h) (sym t.noted)
    (knows_of a words ports b notes w y.number t.number h all (legal_begins a.opening (seen_in y.port) h y.number 0 (notes y.number) begins
    (subst (LegalNotes a.opening (seen_in y.port) y.number 0) t.noted (subst (λ (d : About). LegalNotes d.opening (seen_in y.port) y.number 0 y.notes) t.about other.knows.legal))))) in
    moved_glance a words ports notes b reckoned w time k below g f u stands s known i (now b) (now_has_begun b) (Observes x y) (record {
      n = now b;
      log = log;
      is = ap (λ (l : List Noted). record x { port = having_seen (ports k) log; began = now b; notes = l }) (append-nil (notes k));
      began = few;
      late = omega (arith, long, own);
      all = λ late. begins_within (seen_in y.port) (history_of (log ∷ (ports k).before)) (one_history b) (begins_all a words ports notes b reckoned w y t) all_of_x
          (seen_there a words ports notes b reckoned w y t at.0 (ports k).before log at.1 (omega (arith, late, epoch)));
      before = λ early. begins_within (seen_in x.port) (seen_in y.port) (one_history b) (begins_all a words ports notes b reckoned w x s) (begins_all a words ports notes b reckoned w y t)
          (seen_before a words ports notes b reckoned w x s y t early);
      known = λ begins. knows_beside (history_of (log ∷ (ports k).before)) all_of_x begins;
      known_before = λ begins. knows_of a words ports b notes w k below (seen_in y.port) (begins_all a words ports notes b reckoned w y t)
          (legal_begins a.opening (seen_in x.port) (seen_in y.port) k 0 (notes k) begins known.knows.legal);
      lawful = record {
        log = one_history b;
        notes = notes;
        state = record { words = words; ports = ports; beside = b; lawful = w; history = refl };
        first = all_of_x;
        second = begins_all a words ports notes b reckoned w y t;
        first_noted = sym (append-nil (notes k));
        second_noted = sym t.noted;
        first_began = omega arith;
        second_began = begun_place b y.began [] b.before b.log t.began refl (t.began.come);
      };
    })

-- the step is allowed to a seat of two ports, of which the first one stands
pub may_observe : {S : Type 0} (a : About) (slots id : ℕ) (me : Me S (List SeatedPort)) (x y : SeatedPort) (i : ℕ) → me ≡ (x ∷ y ∷ [], []) → x.about ≡ a → IsSeatKnown x → IsSeatKnown y →
    x.port.control.entering ≡ Stands →
    Allows (IsRuleKept a) slots id me i (λ n. n) (observes me)
may_observe {S} a slots id me x y i is own known other stands = subst (λ (m : Me S (List SeatedPort)). Allows {S = S} (IsRuleKept a) slots id m i (λ n. n) (observes m)) (sym is) here
  where
    pair : Me S (List SeatedPort)
    pair = (x ∷ y ∷ [], [])

    here : Allows {S = S} (IsRuleKept {S = S} a) slots id pair i (λ n. n) (observes {S = S} pair)
    here table kept homes at small =
        let P : SeatedPort → Type 0 = IsSeat a table.words kept.ports kept.notes kept.beside kept.reckoned in
        let one : Me S (List SeatedPort) = (x ∷ [], []) in
        let r = around table.views id (x ∷ y ∷ []) at in
        let seats : AllByRecursion P (r.before ++ x ∷ (y ∷ r.behind)) = subst (AllByRecursion P) r.now kept.seats in
        let once : (k : ℕ) → seats_of k (r.before ++ x ∷ (y ∷ r.behind)) ≤ 1 = λ k. subst (λ l. seats_of k l ≤ 1) r.now (kept.once k) in
        let s : P x = all_at P r.before x (y ∷ r.behind) seats in
        let t : P y = (all_after P r.before x (y ∷ r.behind) seats).0 in
        let same = seat_is a kept.ports kept.notes kept.beside kept.reckoned x s in
        let stands' = ap (λ (p : Port). p.control.entering) (sym s.port) ∙ stands in
        let m = subst (λ (z : SeatedPort). Moved a table.words (slice_set table.words i (slice_index table.words i)) kept.ports kept.notes kept.beside kept.reckoned z (Observes z y)) (sym same)
        (observed a table.words kept.ports kept.notes kept.beside kept.reckoned kept.lawful kept.reckons x.number s.number x.began x.found x.contention stands' (subst P same s) (subst IsSeatKnown same known) y t other i) in (
          m.y ∷ y ∷ [],
          keeps,
          tt,
          record {
            ports = m.ports';
            notes = m.notes';
            beside = m.beside;
            reckoned = m.reckoned';
            lawful = m.lawful;
            reckons = (m.time).reckons;
            seats = subst (AllByRecursion (IsSeat a (slice_set table.words i (slice_index table.words i)) m.ports' m.notes' m.beside m.reckoned')) (sym (r.renewed (m.y ∷ y ∷ [])))
                (seats_then a one (refl, refl) table.words (slice_set table.words i (slice_index table.words i)) kept.ports kept.notes kept.beside kept.reckoned (Observes x y) m r.before (y ∷ r.behind) once seats);
            once = λ k. subst (λ l. seats_of k l ≤ 1) (sym (r.renewed (m.y ∷ y ∷ [])))
                (once_then a one (refl, refl) table.words (slice_set table.words i (slice_index table.words i)) kept.ports kept.notes kept.beside kept.reckoned (Observes x y) m r.before (y ∷ r.behind) once k);
          },
          (refl, refl, goes_then a one (refl, refl) table.words (slice_set table.words i (slice_index table.words i)) kept.ports kept.notes kept.beside kept.reckoned (Observes x y) m own, m.says),
        )

-- the seat of two ports that were seats of one
pub together : {S : Type 0} (m n : Me S (List SeatedPort)) → IsOne m → IsOne n → (m.0 ++ n.0 ≡ one_of m.0 ∷ one_of n.0 ∷ [])
together m n one two = ap (λ (v : List SeatedPort). v ++ n.0) one.0 ∙ ap (λ (v : List SeatedPort). one_of m.0 ∷ v) two.0
