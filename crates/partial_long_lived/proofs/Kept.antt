-- A step of one seat keeps the rule.
use Rattle.partial_long_lived.proofs.{Common.{around, ℕ, ◌≡◌, ◌≢◌, ◌+◌, ◌<◌, ◌≤◌, ◌==◌, ◌++◌, if◌then◌else◌, Option, Some, None, IfSome, List, [], ◌∷◌, length, slice_index, slice_set, refl, sym, ap, subst, ◌∙◌, arith, append-nil, length-append, AllByRecursion, some, get_elem?, Me, Allows, keeps, Applied, LegalNotes, Noted, all_at, all_join, all_before, all_after, all_weaker, Port, Beside, IsEpochPlan, site_now, Reckons, Reckoning, history_longer, LawfulMemory, option_map_or, behind_both, IsSite, carried_after, stamp_after, history_of, opened_after, public_log, public_stamp, value_of, About, Began, Found, BeganInTime, IsFinal, IsRuleKept, IsSeat, IsSeen, IsSince, SeatedPort, one_of, plan_of, seats_of, Knows, seen_in, BeginsWith, SeatGoes, IsSeatKnown, IsOne, tells, HasRecordStamps, Search, IsSearching}, Seen.{fits_of, knows_of, own_of, seen_begins}, Views.{others_all, seat_own, seats_both}}
use Rattle.partial_epochs.proofs.Last.{none_here, stays}

-- The histories of all epochs have grown: that of the epoch after these has at most gained entries, for components of which that is so.
pub record Grows (P : ℕ → Type 0) (before : List (List Applied)) (b c : Beside) (later : List (List Applied)) (log : List Applied) : Type 0 where
  pub later' : List (List Applied)
  pub log' : List Applied
  pub entries : List Applied
  pub was : b.log ∷ b.before ≡ later' ++ log' ∷ before
  pub is : log ≡ log' ++ entries
  pub free : (j : ℕ) → P j → AllByRecursion (λ (a : Applied). a.component ≢ j) entries

abbrev pub HasGrown : Port → Beside → Beside → Type 0
HasGrown z b c = (later : List (List Applied)) (log : List Applied) → c.log ∷ c.before ≡ later ++ log ∷ z.before → Grows (λ j. j < z.passed) z.before b c later log

-- so has each of the epochs that have come
abbrev pub HaveGrown : Beside → Beside → Type 0
HaveGrown b c = (before later : List (List Applied)) (log : List Applied) → length before ≤ length b.before → c.log ∷ c.before ≡ later ++ log ∷ before →
    Grows (λ j. ⊥) before b c later log

-- nothing has been added
pub not_grown : (z : Port) (b c : Beside) → c.log ≡ b.log → c.before ≡ b.before → HasGrown z b c
not_grown z b c log before later l is = record {
  later' = later;
  log' = l;
  entries = [];
  was = sym (ap (λ (t : List Applied). t ∷ c.before) log ∙ ap (λ (t : List (List Applied)). b.log ∷ t) before) ∙ is;
  is = sym (append-nil l);
  free = λ j low. tt;
}

pub none_grown : (b c : Beside) → c.log ≡ b.log → c.before ≡ b.before → HaveGrown b c
none_grown b c log before behind later l low is = record {
  later' = later;
  log' = l;
  entries = [];
  was = sym (ap (λ (t : List Applied). t ∷ c.before) log ∙ ap (λ (t : List (List Applied)). b.log ∷ t) before) ∙ is;
  is = sym (append-nil l);
  free = λ j no. absurd no;
}

-- what is known of when a call began stays so
pub begun_grows : (b c : Beside) (g : Began) → length b.before ≤ length c.before → HaveGrown b c → BeganInTime b g → BeganInTime c g
begun_grows b c g more grown w = record {
  come = let come = w.come in omega (arith, come, more);
  reached = λ later before log is epoch.
      let come = w.come in
      let r = grown before later log (omega (arith, come, epoch)) is in
      let was = w.reached r.later' before r.log' r.was epoch in
      let long = ap (λ (l : List Applied). length (history_of (l ∷ before))) r.is ∙ ap (λ (l : List Applied). length l) (history_longer r.log' r.entries before) in
      let both = length-append (history_of (r.log' ∷ before)) (public_log (length before) r.entries) in
      omega (arith, was, long, both);
}

-- what a port has seen, and what it has found, stays so
pub seen_grows : (z : Port) (b c : Beside) → HasGrown z b c → IsSeen b z → IsSeen c z
seen_grows z b c grown seen later log is =
    let g = grown later log is in
    let s = seen g.later' g.log' g.was in
    (s.0 ++ g.entries, g.is ∙ ap (λ (l : List Applied). l ++ g.entries) s.1 ∙ assoc z.part.seen s.0 g.entries)
  where
    assoc : (x y t : List Applied) → (x ++ y) ++ t ≡ x ++ (y ++ t)
    assoc [] y t = refl
    assoc (a ∷ x) y t = ap (λ (l : List Applied). a ∷ l) (assoc x y t)

carried_stays : (n : ℕ) (carried : ℕ → ℕ) (log entries : List Applied) (j : ℕ) → AllByRecursion (λ (a : Applied). a.component ≢ j) entries →
    carried_after n carried (log ++ entries) j ≡ carried_after n carried log j
carried_stays n carried log entries j free =
    behind_both (λ (a : Applied). public_stamp n a.stamp) log entries j (carried j)
    ∙ ap (λ (t : Option Applied). option_map_or (λ (a : Applied). public_stamp n a.stamp) t (carried_after n carried log j)) (none_here j entries free)

pub final_grows : (a : About) (z : Port) (b c : Beside) → HasGrown z b c → (f : Option Found) → IfSome f (IsFinal (plan_of a) b z) → IfSome f (IsFinal (plan_of a) c z)
final_grows a z b c grown None w = tt
final_grows a z b c grown (Some f) w = record {
  inside = w.inside;
  passed = w.passed;
  last = λ later log is.
      let g = grown later log is in
      let was = w.last g.later' g.log' g.was in
      let o = opened_after (plan_of a).opening z.before in
      let kept = stays o g.log' g.entries f.component (g.free f.component w.passed) in
      record {
        value = ap (λ (l : List Applied). value_of o l f.component) g.is ∙ kept.0 ∙ was.value;
        stamp = ap (λ (l : List Applied). carried_after (length z.before) (stamp_after (plan_of a).opening z.before) l f.component) g.is
            ∙ carried_stays (length z.before) (stamp_after (plan_of a).opening z.before) g.log' g.entries f.component (g.free f.component w.passed) ∙ was.stamp;
      };
}

-- What a step of port k makes of what is counted beside the words: ports keep time and tally, the search of each port goes on, and what is
-- counted of other ports stays.
pub record GoesOn (a : About) (words words' : List ℕ) (ports ports' : ℕ → Port) (b c : Beside) (r r' : Reckoning) (k : ℕ) : Type 0 where
  pub reckons : Reckons (plan_of a) words' ports' (site_now c) r'
  pub freed : r.tally.freed ≤ r'.tally.freed
  pub searching : (q : ℕ) (s : Search) → q < a.ports → IsSearching (plan_of a) words ports (site_now b) r q s → IsSearching (plan_of a) words' ports' (site_now c) r' q s
  pub since : (q : ℕ) → q ≢ k → r'.since q ≡ r.since q
  pub met : (q : ℕ) → q ≢ k → r'.tally.met q ≡ r.tally.met q

-- What a step of the seat x leads to: another lawful memory, in which all other ports are as they were, and the seat as it is then.
pub record Moved (a : About) (words words' : List ℕ) (ports : ℕ → Port) (notes : ℕ → List Noted) (b : Beside) (reckoned : Reckoning) (x : SeatedPort) (P : SeatedPort → Type 0) : Type 0 where
  pub y : SeatedPort
  pub ports' : ℕ → Port
  pub notes' : ℕ → List Noted
  pub beside : Beside
  pub reckoned' : Reckoning
  pub lawful : LawfulMemory (plan_of a) words' ports' beside notes'
  pub time : GoesOn a words words' ports ports' b beside reckoned reckoned' x.number
  pub others : (q : ℕ) → q ≢ x.number → (ports' q ≡ ports q) × (notes' q ≡ notes q)
  pub number : y.number ≡ x.number
  pub epoch : x.port.control.here.epoch ≤ y.port.control.here.epoch
  pub seals : x.contention.seals ≤ y.contention.seals
  pub seat : IsSeat a words' ports' notes' beside reckoned' y
  pub grown : (q : ℕ) → q < a.ports → q ≢ x.number → HasGrown (ports q) b beside
  pub all_grown : HaveGrown b beside
  pub later : length b.before ≤ length beside.before
  pub reached : (later : List (List Applied)) × (log : List Applied) × (beside.log ∷ beside.before ≡ later ++ log ∷ y.port.before)
  pub seen : BeginsWith (seen_in x.port) (seen_in y.port)
  pub legal : LegalNotes a.opening (seen_in y.port) y.number 0 y.notes
  pub says : P y

-- what a step shows may be stated in another way
pub moved_says : {a : About} {words words' : List ℕ} {ports : ℕ → Port} {notes : ℕ → List Noted} {b : Beside} {reckoned : Reckoning} {x : SeatedPort} {P R : SeatedPort → Type 0} →
    (m : Moved a words words' ports notes b reckoned x P) → R m.y → Moved a words words' ports notes b reckoned x R
moved_says m says = record {
  y = m.y;
  ports' = m.ports';
  notes' = m.notes';
  beside = m.beside;
  reckoned' = m.reckoned';
  lawful = m.lawful;
  time = m.time;
  others = m.others;
  number = m.number;
  epoch = m.epoch;
  seals = m.seals;
  seat = m.seat;
  grown = m.grown;
  all_grown = m.all_grown;
  later = m.later;
  reached = m.reached;
  seen = m.seen;
  legal = m.legal;
  says = says;
}

pub moved_as : {a : About} {words words' : List ℕ} {ports : ℕ → Port} {notes : ℕ → List Noted} {b : Beside} {reckoned : Reckoning} {x : SeatedPort} {P R : SeatedPort → Type 0} → ((y : SeatedPort) → P y → R y) →
    Moved a words words' ports notes b reckoned x P → Moved a words words' ports notes b reckoned x R
moved_as f m = moved_says m (f m.y m.says)

-- and of a port that has met more seals
pub moved_sealed : {a : About} {words words' : List ℕ} {ports : ℕ → Port} {notes : ℕ → List Noted} {b : Beside} {reckoned : Reckoning} {x : SeatedPort} {P R : SeatedPort → Type 0} →
    (m : Moved a words words' ports notes b reckoned x P) → (n : ℕ) → x.contention.seals ≤ n → R (record m.y { contention = record (m.y).contention { seals = n } }) → Moved a words words' ports notes b reckoned x R
moved_sealed m n more says = record {
  y = record m.y { contention = record (m.y).contention { seals = n } };
  ports' = m.ports';
  notes' = m.notes';
  beside = m.beside;
  reckoned' = m.reckoned';
  lawful = m.lawful;
  time = m.time;
  others = m.others;
  number = m.number;
  epoch = m.epoch;
  seals = more;
  seat = let s = m.seat in record { about = s.about; number = s.number; port = s.port; noted = s.noted; seen = s.seen; began = s.began; entering = s.entering; found = s.found; search = s.search; met = s.met };
  grown = m.grown;
  all_grown = m.all_grown;
  later = m.later;
  reached = m.reached;
  seen = m.seen;
  legal = m.legal;
  says = says;
}

module _ {S : Type 0} (a : About) (me : Me S (List SeatedPort)) (one : IsOne me) (words words' : List ℕ) (ports : ℕ → Port) (notes : ℕ → List Noted) (b : Beside) (reckoned : Reckoning) (P : SeatedPort → Type 0)
    (m : Moved a words words' ports notes b reckoned (one_of me.0) P) where
  abbrev x : SeatedPort
  x = one_of me.0

  other_seat : (z : SeatedPort) → (z.number ≢ x.number) × IsSeat a words ports notes b reckoned z → IsSeat a words' m.ports' m.notes' m.beside m.reckoned' z
  other_seat z h =
      let s = h.1 in
      let same = m.others z.number h.0 in
      let grown : HasGrown z.port b m.beside = subst (λ (p : Port). HasGrown p b m.beside) (sym s.port) (m.grown z.number s.number h.0) in
      record {
        about = s.about;
        number = s.number;
        port = s.port ∙ sym same.0;
        noted = s.noted ∙ sym same.1;
        began = begun_grows b m.beside z.began m.later m.all_grown s.began;
        entering = subst (IsSince z.began z.port.control.entering) (sym ((m.time).since z.number h.0)) s.entering;
        seen = seen_grows z.port b m.beside grown s.seen;
        found = final_grows a z.port b m.beside grown z.found s.found;
        search = (m.time).searching z.number z.contention.search s.number s.search;
        met = λ is. (m.time).met z.number h.0 ∙ s.met is;
      }

  pub seats_then : (before behind : List SeatedPort) → ((k : ℕ) → seats_of k (before ++ x ∷ behind) ≤ 1) → AllByRecursion (IsSeat a words ports notes b reckoned) (before ++ x ∷ behind) →
      AllByRecursion (IsSeat a words' m.ports' m.notes' m.beside m.reckoned') (before ++ m.y ∷ behind)
  seats_then before behind once all =
      let own = seat_own x behind in
      let both = seats_both x.number before (x ∷ behind) in
      let most = once x.number in
      let front = others_all (IsSeat a words ports notes b reckoned) x.number before (omega (arith, own, both, most)) (all_before (IsSeat a words ports notes b reckoned) before x behind all) in
      let back = others_all (IsSeat a words ports notes b reckoned) x.number behind (omega (arith, own, both, most)) (all_after (IsSeat a words ports notes b reckoned) before x behind all) in
      all_join (IsSeat a words' m.ports' m.notes' m.beside m.reckoned') before m.y behind
      (all_weaker (λ (z : SeatedPort). (z.number ≢ x.number) × IsSeat a words ports notes b reckoned z) (IsSeat a words' m.ports' m.notes' m.beside m.reckoned') other_seat before front) m.seat
      (all_weaker (λ (z : SeatedPort). (z.number ≢ x.number) × IsSeat a words ports notes b reckoned z) (IsSeat a words' m.ports' m.notes' m.beside m.reckoned') other_seat behind back)

  pub once_then : (before behind : List SeatedPort) → ((k : ℕ) → seats_of k (before ++ x ∷ behind) ≤ 1) → (k : ℕ) → seats_of k (before ++ m.y ∷ behind) ≤ 1
  once_then before behind once k =
      let same = ap (λ n. (if n == k then 1 else 0) + seats_of k behind) m.number in
      let was = seats_both k before (x ∷ behind) in
      let is = seats_both k before (m.y ∷ behind) in
      let most = once k in
      omega (arith, same, was, is, most)

  pub known_then : IsSeatKnown m.y
  known_then =
      let s = m.seat in
      let about : m.y.about ≡ a = s.about in
      let r = m.reached in
      let noted : m.y.notes ≡ m.notes' m.y.number = s.noted in
      let knows = knows_of a words' m.ports' m.beside m.notes' m.lawful m.y.number s.number (seen_in m.y.port) (seen_begins m.beside m.y.port s.seen r.0 r.1 r.2)
      (subst (λ (ns : List Noted). LegalNotes a.opening (seen_in m.y.port) m.y.number 0 ns) noted m.legal) in
      record {
        plan = subst (λ (z : About). IsEpochPlan (plan_of z)) (sym about) m.lawful.epochs.plan;
        number = subst (λ (z : About). m.y.number < z.ports) (sym about) s.number;
        site = subst (λ (z : About). IsSite (plan_of z) m.y.port.control.here) (sym about)
            (subst (λ (p : Port). IsSite (plan_of a) p.control.here) (sym s.port) (m.lawful.epochs.control.sites m.y.number s.number));
        epoch = subst (λ (p : Port). length p.before ≡ p.control.here.epoch) (sym s.port) (m.lawful.noted.reached m.y.number s.number).epoch;
        knows = subst (λ (z : About). Knows z m.y.number (seen_in m.y.port) m.y.notes) (sym about)
            (subst (λ (ns : List Noted). Knows a m.y.number (seen_in m.y.port) ns) (sym noted) knows);
        fits = fits_of a words' m.ports' m.beside m.notes' m.lawful (seen_in m.y.port) (seen_begins m.beside m.y.port s.seen r.0 r.1 r.2);
        own = subst (λ (z : About). HasRecordStamps z.sizes m.y.port.part.seen) (sym about) (own_of a words' m.ports' m.beside m.notes' m.lawful m.y.port s.seen r.0 r.1 r.2);
      }

  pub goes_then : x.about ≡ a → SeatGoes x m.y
  goes_then own = record { about = (m.seat).about ∙ sym own; number = m.number; epoch = m.epoch; seals = m.seals; seen = m.seen; known = known_then }

-- a step is allowed where it leads on from each lawful memory
pub allowed : {S : Type 0} (a : About) (slots id : ℕ) (me : Me S (List SeatedPort)) (i : ℕ) (f : ℕ → ℕ) (R : SeatedPort → ℕ → SeatedPort → Type 0) → IsOne me → (one_of me.0).about ≡ a →
    ((words : List ℕ) (ports : ℕ → Port) (notes : ℕ → List Noted) (b : Beside) (reckoned : Reckoning) → LawfulMemory (plan_of a) words ports b notes → Reckons (plan_of a) words ports (site_now b) reckoned →
    IsSeat a words ports notes b reckoned (one_of me.0) →
    slice_index words i < 18446744073709551616 → Moved a words (slice_set words i (f (slice_index words i))) ports notes b reckoned (one_of me.0) (R (one_of me.0) (slice_index words i))) →
    Allows (IsRuleKept a) slots id me i f (tells R me)
allowed {S} a slots id me i f R one own leads table kept homes at small =
    let x : SeatedPort = one_of me.0 in
    let r = around table.views id (x ∷ []) (subst (λ v. get_elem? table.views id ≡ some v) one.0 at) in
    let seats : AllByRecursion (IsSeat a table.words kept.ports kept.notes kept.beside kept.reckoned) (r.before ++ x ∷ r.behind) =
    subst (AllByRecursion (IsSeat a table.words kept.ports kept.notes kept.beside kept.reckoned)) r.now kept.seats in
    let once : (k : ℕ) → seats_of k (r.before ++ x ∷ r.behind) ≤ 1 = λ k. subst (λ l. seats_of k l ≤ 1) r.now (kept.once k) in
    let here : IsSeat a table.words kept.ports kept.notes kept.beside kept.reckoned x = all_at (IsSeat a table.words kept.ports kept.notes kept.beside kept.reckoned) r.before x r.behind seats in
    let m = leads table.words kept.ports kept.notes kept.beside kept.reckoned kept.lawful kept.reckons here small in
    let words' : List ℕ = slice_set table.words i (f (slice_index table.words i)) in
    let P : SeatedPort → Type 0 = R x (slice_index table.words i) in (
      m.y ∷ [],
      keeps,
      tt,
      record {
        ports = m.ports';
        notes = m.notes';
        beside = m.beside;
        reckoned = m.reckoned';
        lawful = m.lawful;
        reckons = (m.time).reckons;
        seats = subst (AllByRecursion (IsSeat a words' m.ports' m.notes' m.beside m.reckoned')) (sym (r.renewed (m.y ∷ [])))
            (seats_then a me one table.words words' kept.ports kept.notes kept.beside kept.reckoned P m r.before r.behind once seats);
        once = λ k. subst (λ l. seats_of k l ≤ 1) (sym (r.renewed (m.y ∷ []))) (once_then a me one table.words words' kept.ports kept.notes kept.beside kept.reckoned P m r.before r.behind once k);
      },
      ((refl, one.1), goes_then a me one table.words words' kept.ports kept.notes kept.beside kept.reckoned P m own, m.says),
    )
