-- Loads of component words are allowed, and what they show.
use Rattle.partial_long_lived.proofs.{Common.{ℕ, ◌≡◌, ◌≢◌, ◌+◌, ◌<◌, ◌≤◌, ◌==◌, ◌⊎◌, ◌&&◌, ◌++◌, not, Bool, true, false, if◌then◌else◌, Option, Some, None, IfSome, List, [], ◌∷◌, length, map, take, slice_index, slice_set, refl, sym, ap, subst, ◌∙◌, inl, inr, arith, append-nil, append_assoc, length-append, nat_lt, AllByRecursion, eqb_tells, length-map, take-append-le, take_all, Applied, Opening, Note, stamp_of, value_of, Fits, IsTrueOf, LegalNotes, Noted, place_of, seen_by, AreCollects, LegalNotes-push, first_free, put, Site, Plan, base, component_words, seal, unsealed, carried_after, stamp_after, history_of, opened_after, public_entry, public_log, Port, Stands, Beside, IsStanding, site_now, LawfulMemory, having_seen, noting, public_of, IsBesideAs, Reckons, Reckoning, components_name_records, epochs_are_histories, seen_records_stay, unsealed_is_present, history_took, at_of, put_other, put_same, held_history, history_grows, among, history_longer, About, Began, Found, BeganInTime, IsFinal, IsSeat, SeatedPort, plan_of, seen_in, BeginsWith, IsSeatKnown, Recalls, SeatSees, IsFinding, Wish, found_by, noted_by, place_seen, stamp_seen, MayNoteScan, NotesScan, noted_together, Expects, Finds, Glances, Reads, epochs_continue, stamp_public, value_public, Call, Answer, Contention, contention_by, every_step_stays_lawful, IsSight, Search, IsSearching}, Begins.{began_by, seen_few}, Control.{load_same, stands_since, led_to, reckoned_after, unnoted}, Kept.{GoesOn, Moved, begun_grows, final_grows, none_grown, not_grown}, Lists.{cut, same_before}, Seen.legal_begins, Contention.{by_more, by_search}}
use Rattle.partial_epochs.specs.EveryStep.{Move as move}
use Rattle.partial_epochs.proofs.Last.{is_raw, within as arena_within}

-- what a port sees in an epoch no older than its call is no older than the call
pub begun_place : (b : Beside) (g : Began) (later before : List (List Applied)) (log : List Applied) → BeganInTime b g → b.log ∷ b.before ≡ later ++ log ∷ before → g.epoch ≤ length before →
    g.length ≤ length (history_of (log ∷ before))
begun_place b g later before log w is young = elim (eqb_tells (length before) g.epoch) [
  | inl same ↦ w.reached later before log is same.1
  | inr other ↦
      let ne = other.1 in
      let c = cut g.epoch before (omega (arith, young, ne)) in
      let all : b.log ∷ b.before ≡ (later ++ log ∷ c.0) ++ c.1 ∷ c.2 = is ∙ ap (λ (l : List (List Applied)). later ++ log ∷ l) c.3 ∙ sym (append_assoc later (log ∷ c.0) (c.1 ∷ c.2)) in
      let was = w.reached (later ++ log ∷ c.0) c.2 c.1 all c.4 in
      let grows = history_grows c.0 (c.1 ∷ c.2) in
      let long = ap (λ (l : List (List Applied)). length (history_of l)) c.3 ∙ ap (λ (l : List Applied). length l) grows.1 in
      let both = length-append (history_of (c.1 ∷ c.2)) grows.0 in
      let over = length-append (history_of before) (public_log (length before) log) in
      omega (arith, was, long, both, over)
]

-- an epoch younger than the call began when there was all of the history that the call began with
pub begun_before : (b : Beside) (g : Began) (later before : List (List Applied)) (log : List Applied) → BeganInTime b g → b.log ∷ b.before ≡ later ++ log ∷ before → g.epoch < length before →
    g.length ≤ length (history_of before)
begun_before b g later [] log w is young = absurd (omega (arith, young))
begun_before b g later (l ∷ before) log w is young =
    begun_place b g (later ++ log ∷ []) before l w (is ∙ sym (append_assoc later (log ∷ []) (l ∷ before))) (omega (arith, young))

-- a scan of some positions may make two collects
two_collects : (js : List ℕ) → 0 < length js → AreCollects (length js) 2 None
two_collects [] some = absurd (omega (arith, some))
two_collects (j ∷ js) some = (omega arith, omega arith, λ none. let bad : false ≡ true = none in cc)

-- the seat of a port of which all is known
abbrev pub seat_at : About → (ℕ → Port) → (ℕ → List Noted) → ℕ → Began → Option Found → Contention → SeatedPort
seat_at a ports notes k g f u = record { about = a; number = k; port = ports k; notes = notes k; began = g; found = f; contention = u }

pub seat_is : {words : List ℕ} → (a : About) (ports : ℕ → Port) (notes : ℕ → List Noted) (b : Beside) (reckoned : Reckoning) (x : SeatedPort) → IsSeat a words ports notes b reckoned x →
    x ≡ seat_at a ports notes x.number x.began x.found x.contention
seat_is a ports notes b reckoned x s =
    ap (λ (z : About). record { about = z; number = x.number; port = x.port; notes = x.notes; began = x.began; found = x.found; contention = x.contention }) s.about
    ∙ ap (λ (p : Port). record { about = a; number = x.number; port = p; notes = x.notes; began = x.began; found = x.found; contention = x.contention }) s.port
    ∙ ap (λ (l : List Noted). record { about = a; number = x.number; port = ports x.number; notes = l; began = x.began; found = x.found; contention = x.contention }) s.noted

module _ (a : About) (words : List ℕ) (ports : ℕ → Port) (notes : ℕ → List Noted) (b : Beside) (reckoned : Reckoning) (w : LawfulMemory (plan_of a) words ports b notes)
    (time : Reckons (plan_of a) words ports (site_now b) reckoned) (k : ℕ) (below : k < a.ports) (g : Began) (f : Option Found) (u : Contention) (stands : (ports k).control.entering ≡ Stands) where
  abbrev e : Plan
  e = plan_of a

  abbrev p : Port
  p = ports k

  abbrev X : SeatedPort
  X = seat_at a ports notes k g f u

  pub standing : IsStanding b k (ports k)
  standing = w.epochs.standing k below stands

  abbrev log : List Applied
  log = standing.epoch.log

  abbrev o : Opening
  o = opened_after a.opening (ports k).before

  all_taken : take (length log) log ≡ log
  all_taken = take_all (length log) log (omega arith)

  above : AllByRecursion (λ (c : Applied). first_free e.sizes ≤ c.stamp) log
  above = (held_history e words ports b w.epochs (ports k).control.here.arena standing.epoch standing.is).above

  pub where_is : (later : List (List Applied)) × (b.log ∷ b.before ≡ later ++ log ∷ (ports k).before)
  where_is = among e words ports b w.epochs k below (ports k) standing

  long : length (history_of (log ∷ (ports k).before)) ≡ length (history_of (ports k).before) + length log
  long = length-append (history_of (ports k).before) (public_log (length (ports k).before) log) ∙ ap (λ n. length (history_of (ports k).before) + n) (length-map log (public_entry (length (ports k).before)))

  -- a note that is true after the first i entries of the epoch's history, and after all of them
  abbrev IsTrueAt : ℕ → Noted → Type 0
  IsTrueAt i n = (n.note ≡ Some (Note.Saw (length (history_of (ports k).before) + i))) × Fits (length a.opening.values) n.call n.answer n.note
      × IsTrueOf a.opening (history_of (log ∷ (ports k).before)) k n.call n.answer (Note.Saw (length (history_of (ports k).before) + i))

  abbrev IsTrueHere : Noted → Type 0
  IsTrueHere n = IsTrueAt (length log) n

  -- what the port recalls of its epoch from word i of the table
  pub recalled : (i : ℕ) → Recalls i X (slice_index words i) X
  recalled i =
      let records = λ (j : ℕ) (inside : j < a.sizes.m). seen_records_stay e words ports b k j w.epochs below stands inside standing in
      record {
        same = refl;
        value = λ j m inside few is. ap (λ h. slice_index words h) is ∙ ((records j inside).each m few).value;
        carried = λ j inside is. ap (λ h. slice_index words h) is ∙ (records j inside).carried;
      }

  -- public values and stamps
  module _ (j : ℕ) (inside : j < a.sizes.m) where
    value_is : value_of o log j ≡ value_of a.opening (take (length (history_of (ports k).before) + length log) (history_of (log ∷ (ports k).before))) j
    value_is = ap (λ (l : List Applied). value_of o l j) (sym all_taken) ∙ value_public e w.epochs.plan (ports k).before log above (length log) j inside

    stamp_is : public_of e (ports k).before j (stamp_of o log j) ≡ stamp_of a.opening (take (length (history_of (ports k).before) + length log) (history_of (log ∷ (ports k).before))) j
    stamp_is = ap (λ (l : List Applied). public_of e (ports k).before j (stamp_of o l j)) (sym all_taken) ∙ stamp_public e w.epochs.plan (ports k).before log above (length log) j inside

    public_is : stamp_of a.opening (history_of (log ∷ (ports k).before)) j ≡ stamp_seen X log j
    public_is =
        sym (stamp_is ∙ ap (λ (l : List Applied). stamp_of a.opening l j)
        (take_all (length (history_of (ports k).before) + length log) (history_of (log ∷ (ports k).before)) (omega (arith, long))))

    carried_is : public_of e (ports k).before j (stamp_of o log j) ≡ carried_after (length (ports k).before) (stamp_after a.opening (ports k).before) log j
    carried_is =
        let values = w.epochs.plan.values in
        stamp_is ∙ ap (λ (l : List Applied). stamp_of a.opening l j) (history_took log (ports k).before (length log)) ∙ ap (λ (l : List Applied). stamp_of a.opening (history_of (l ∷ (ports k).before)) j) all_taken
        ∙ (epochs_continue a.opening log (ports k).before j (omega (arith, values, inside))).stamp

    abbrev changed_note : ℕ → ℕ → Noted
    changed_note expected v = record { call = Call.UpdateIf j expected v; answer = Answer.Changed (stamp_seen X log j); note = Some (Note.Saw (place_seen X log)) }

    -- what is noted is true
    notes_true : (wish : Wish) → AllByRecursion IsTrueHere (noted_by wish X log j)
    notes_true Glances = tt
    notes_true Finds = tt
    notes_true Reads =
        let values = w.epochs.plan.values in
        ((ap (λ n. Some (Note.Saw n)) long, omega (arith, values, inside), (omega (arith, long), value_is, stamp_is)), tt)
    notes_true (Expects expected v) = elim (eqb_tells (stamp_seen X log j) expected) [
      | inl same ↦ subst (λ (c : Bool). AllByRecursion IsTrueHere (if c then [] else changed_note expected v ∷ [])) (sym same.0) tt
      | inr ne ↦
          let values = w.epochs.plan.values in
          subst (λ (c : Bool). AllByRecursion IsTrueHere (if c then [] else changed_note expected v ∷ [])) (sym ne.0)
          ((ap (λ n. Some (Note.Saw n)) long, omega (arith, values, inside), (omega (arith, long), sym stamp_is, ne.1)), tt)
    ]

  -- the port once it has seen all of its epoch, and has noted these calls
  module _ (s : IsSeat a words ports notes b reckoned X) (known : IsSeatKnown X) where
    abbrev p' : Port
    p' = having_seen (ports k) log

    seen_rest : (rest : List Applied) × (log ≡ (ports k).part.seen ++ rest)
    seen_rest = s.seen where_is.0 log where_is.1

    seen_begins_then : BeginsWith (seen_in (ports k)) (seen_in p')
    seen_begins_then = let r = seen_rest in (
      public_log (length (ports k).before) r.0,
      ap (λ (l : List Applied). history_of (l ∷ (ports k).before)) r.1 ∙ history_longer (ports k).part.seen r.0 (ports k).before,
    )

    -- what it has found stays so
    final_seen : (f : Option Found) → IfSome f (IsFinal e b (ports k)) → IfSome f (IsFinal e b p')
    final_seen None h = tt
    final_seen (Some f) h = record { inside = h.inside; passed = h.passed; last = h.last }

    -- a lawful memory with what is noted
    pub record Seen (added : List Noted) : Type 0 where
      pub beside : Beside
      pub same : IsBesideAs b beside
      pub notes' : ℕ → List Noted
      pub own : notes' k ≡ notes k ++ added
      pub others : (q : ℕ) → q ≢ k → notes' q ≡ notes q
      pub lawful : LawfulMemory e words (put k p' ports) beside notes'
      pub reckoned' : Reckoning
      pub keeps : GoesOn a words words ports (put k p' ports) b beside reckoned reckoned' k
      pub met : reckoned'.tally.met k ≡ reckoned.tally.met k

    shown_few : seen_by 0 (notes k) ≤ length (history_of (ports k).before) + length log
    shown_few =
        let shown = w.noted.shown k below in
        let few = ap (λ (l : List Applied). length l) seen_rest.1 in
        let both = length-append (ports k).part.seen seen_rest.0 in
        omega (arith, shown, few, both)

    sees_nothing : Seen []
    sees_nothing =
        let l = every_step_stays_lawful e words ports b notes k (move.Sees log) w below (stands, (standing, refl)) in
        let same = ap (λ (l : List (List Applied)). length l) (l.becomes.1).before in
        let led = led_to a words ports notes b reckoned w time k below (move.Sees log) (stands, (standing, refl)) tt (λ q ne. refl) l (omega (arith, same)) words refl p' l.becomes.0 l.beside refl [] l.becomes.2 in
        record {
          beside = l.beside;
          same = l.becomes.1;
          notes' = notes;
          own = sym (append-nil (notes k));
          others = λ q ne. refl;
          lawful = unnoted a words ports notes b reckoned w time k below words (put k p' ports) l.beside led.lawful;
          reckoned' = reckoned_after b k (move.Sees log) reckoned led.there;
          keeps = led.time;
          met = led.met k;
        }

    sees_note : (i : ℕ) → i ≤ length log → seen_by 0 (notes k) ≤ length (history_of (ports k).before) + i → (n : Noted) → IsTrueAt i n → Seen (n ∷ [])
    sees_note i few behind n is =
        let sight : IsSight e k (ports k) log (notes k) n i = record { noted = is.0; within = few; behind = behind; fits = is.1; is_true = is.2 } in
        let l = every_step_stays_lawful e words ports b notes k (move.Notes n i log) w below (stands, (standing, refl, sight)) in
        let same = ap (λ (l : List (List Applied)). length l) (l.becomes.1).before in
        let led = led_to a words ports notes b reckoned w time k below (move.Notes n i log) (stands, (standing, refl, sight)) tt (λ q ne. refl) l (omega (arith, same)) words refl p' l.becomes.0 l.beside refl (n ∷ []) l.becomes.2 in
        record {
          beside = l.beside;
          same = l.becomes.1;
          notes' = noting k (n ∷ []) notes;
          own = put_same k (notes k ++ n ∷ []) notes;
          others = λ q ne. put_other k (notes k ++ n ∷ []) notes q ne;
          lawful = led.lawful;
          reckoned' = reckoned_after b k (move.Notes n i log) reckoned led.there;
          keeps = led.time;
          met = led.met k;
        }

    legal_then : LegalNotes a.opening (seen_in p') k 0 (notes k)
    legal_then = legal_begins a.opening (seen_in (ports k)) (seen_in p') k 0 (notes k) seen_begins_then known.knows.legal

    legal_note : (i : ℕ) → seen_by 0 (notes k) ≤ length (history_of (ports k).before) + i → (n : Noted) → IsTrueAt i n → LegalNotes a.opening (seen_in p') k 0 (notes k ++ n ∷ [])
    legal_note i behind n is = LegalNotes-push a.opening (seen_in p') k 0 (notes k) n legal_then
        (is.1, subst (λ (t : Option Note). IfSome t (λ m. IsTrueOf a.opening (seen_in p') k n.call n.answer m × (seen_by 0 (notes k) ≤ place_of m))) (sym is.0) (is.2, behind))

    -- what a load of word i leads to, by which the port sees all of its epoch
    moved_to : (i : ℕ) (n : Began) → BeganInTime b n → (added : List Noted) → Seen added → LegalNotes a.opening (seen_in p') k 0 (notes k ++ added) → (found : Option Found) →
        ((c : Beside) → c.log ≡ b.log → c.before ≡ b.before → IfSome found (IsFinal e c p')) → (contention : Contention) → u.seals ≤ contention.seals → contention.search ≡ u.search → (P : SeatedPort → Type 0) →
        P (record { about = a; number = k; port = p'; notes = notes k ++ added; began = n; found = found; contention = contention }) → Moved a words (slice_set words i (slice_index words i)) ports notes b reckoned X P
    moved_to i n has added to legal found final contention more same_search P says =
        let same_log = to.same.log in
        let same_before_is = to.same.before in
        let grown = not_grown p' b to.beside same_log same_before_is in
        let lawful' : LawfulMemory e (slice_set words i (slice_index words i)) (put k p' ports) to.beside to.notes' =
        subst (λ (l : List ℕ). LawfulMemory e l (put k p' ports) to.beside to.notes') (load_same words i) to.lawful in
        let time' : GoesOn a words (slice_set words i (slice_index words i)) ports (put k p' ports) b to.beside reckoned to.reckoned' k =
        subst (λ (l : List ℕ). GoesOn a words l ports (put k p' ports) b to.beside reckoned to.reckoned' k) (load_same words i) to.keeps in
        record {
          y = record { about = a; number = k; port = p'; notes = notes k ++ added; began = n; found = found; contention = contention };
          ports' = put k p' ports;
          notes' = to.notes';
          beside = to.beside;
          reckoned' = to.reckoned';
          lawful = lawful';
          time = time';
          others = λ q ne. (put_other k p' ports q ne, to.others q ne);
          number = refl;
          epoch = omega arith;
          seals = more;
          seat = record {
            about = refl;
            number = below;
            port = sym (put_same k p' ports);
            noted = sym to.own;
            seen = λ later l at.
                let all : b.log ∷ b.before ≡ later ++ l ∷ (ports k).before =
                ap (λ (t : List Applied). t ∷ b.before) (sym same_log) ∙ ap (λ (t : List (List Applied)). to.beside.log ∷ t) (sym same_before_is) ∙ at in
                ([], sym (same_before where_is.0 later log l (ports k).before (sym where_is.1 ∙ all)) ∙ sym (append-nil log));
            began = begun_grows b to.beside n (let longer = ap (λ (l : List (List Applied)). length l) same_before_is in omega (arith, longer)) (none_grown b to.beside same_log same_before_is) has;
            entering = stands_since n (ports k).control.entering ((to.reckoned').since k) stands;
            found = final to.beside same_log same_before_is;
            search = subst (IsSearching e (slice_set words i (slice_index words i)) (put k p' ports) (site_now to.beside) to.reckoned' k) (sym same_search) (time'.searching k u.search below s.search);
            met = λ is. to.met ∙ s.met (ap (λ (t : Search). t.met) (sym same_search) ∙ is);
          };
          grown = λ q low ne. not_grown (ports q) b to.beside same_log same_before_is;
          all_grown = none_grown b to.beside same_log same_before_is;
          later = let longer = ap (λ (l : List (List Applied)). length l) same_before_is in omega (arith, longer);
          reached = (where_is.0, log, ap (λ (t : List Applied). t ∷ to.beside.before) same_log ∙ ap (λ (t : List (List Applied)). b.log ∷ t) same_before_is ∙ where_is.1);
          seen = seen_begins_then;
          legal = legal;
          says = says;
        }

    -- a load of word i by which the port sees all of its epoch, in a call that began then
    pub moved_glance : (i : ℕ) (n : Began) → BeganInTime b n → (P : SeatedPort → Type 0) → P (record { about = a; number = k; port = p'; notes = notes k ++ []; began = n; found = f; contention = u }) →
        Moved a words (slice_set words i (slice_index words i)) ports notes b reckoned X P
    moved_glance i n has P says = moved_to i n has [] sees_nothing (subst (λ (l : List Noted). LegalNotes a.opening (seen_in p') k 0 l) (sym (append-nil (notes k))) legal_then) f
        (λ c same before. final_grows a p' b c (not_grown p' b c same before) f (final_seen f s.found)) u (omega arith) refl P says

    -- a load of word i by which the port notes a scan by a double collect
    module _ (js : List ℕ) (m : ℕ) (may : MayNoteScan js m X) where
      abbrev scan : Noted
      scan = noted_together js m X

      few_seen : m ≤ length log
      few_seen =
          let few = may.seen in
          let whole = ap (λ (l : List Applied). length l) seen_rest.1 in
          let both = length-append (ports k).part.seen seen_rest.0 in
          omega (arith, few, whole, both)

      taken_seen : take m (ports k).part.seen ≡ take m log
      taken_seen = sym (take-append-le m (ports k).part.seen seen_rest.0 may.seen) ∙ ap (λ (l : List Applied). take m l) (sym seen_rest.1)

      values_then : (is : List ℕ) → AllByRecursion (λ j. j < a.sizes.m) is →
          map (λ j. value_of o (take m log) j) is ≡ map (λ j. value_of a.opening (take (length (history_of (ports k).before) + m) (history_of (log ∷ (ports k).before))) j) is
      values_then [] all = refl
      values_then (j ∷ is) all =
          ap (λ v. v ∷ map (λ j. value_of o (take m log) j) is) (value_public e w.epochs.plan (ports k).before log above m j all.0)
          ∙ ap (λ (l : List ℕ). value_of a.opening (take (length (history_of (ports k).before) + m) (history_of (log ∷ (ports k).before))) j ∷ l) (values_then is all.1)

      scan_true : IsTrueAt m scan
      scan_true =
          let values = w.epochs.plan.values in
          let few = few_seen in (
            refl,
            subst (λ n. AllByRecursion (λ j. j < n) js) (sym values) may.inside,
            record {
              within = omega (arith, few, long);
              values = ap (λ (l : List Applied). map (λ j. value_of o l j) js) taken_seen ∙ values_then js may.inside;
              collects = two_collects js may.some;
              borrowed = tt;
            },
          )

      pub moved_note : (i : ℕ) → Moved a words (slice_set words i (slice_index words i)) ports notes b reckoned X (NotesScan js m i X (slice_index words i))
      moved_note i =
          let histories = epochs_are_histories e words ports b k w.epochs below stands standing in
          moved_to i g s.began (scan ∷ []) (sees_note m few_seen may.behind scan scan_true) (legal_note m may.behind scan scan_true) f
          (λ c same before. final_grows a p' b c (not_grown p' b c same before) f (final_seen f s.found)) u (omega arith) refl (NotesScan js m i X (slice_index words i))
          (record { recalls = recalled i; log = log; begins = seen_rest; is = refl; history = histories.0; values = histories.1; stamps = λ j inside. ap (λ (l : List Applied). public_of e (ports k).before j (stamp_of o l j)) taken_seen ∙ stamp_public e w.epochs.plan (ports k).before log above m j inside; young = λ fresh. begun_before b g where_is.0 (ports k).before log s.began where_is.1 (let epoch = (w.noted.reached k below).epoch in omega (arith, fresh, epoch)) })

    -- what a load of the component's word leads to
    module _ (j : ℕ) (inside : j < a.sizes.m) (first : Bool) (wish : Wish) (finds : IsFinding wish → j < (ports k).passed) where
      abbrev i : ℕ
      i = base e (ports k).control.here.arena + j

      abbrev n : ℕ
      n = slice_index words i

      names : unsealed n ≡ stamp_of o log j
      names = (components_name_records e words ports b k j w.epochs below stands inside standing).names

      -- an unsealed word is one of the current epoch
      young : n < seal → length b.before ≡ (ports k).control.here.epoch
      young less =
          let at : slice_index (component_words e words (ports k).control.here.arena) j ≡ n =
          at_of (λ i. slice_index words (base e (ports k).control.here.arena + i)) 0 a.sizes.m j inside ∙ ap (λ i. slice_index words (base e (ports k).control.here.arena + i)) (omega arith) in
          let here = (unsealed_is_present e words ports b k j w.epochs below stands inside (λ sealed. omega (arith, at, less, sealed))).here in
          sym (ap (λ (d : Site). d.epoch) here)

      found_final : (wish : Wish) → (IsFinding wish → j < (ports k).passed) → (c : Beside) → c.log ≡ b.log → c.before ≡ b.before → IfSome (found_by wish X log j) (IsFinal e c p')
      found_final Finds passed c same before = record {
        inside = inside;
        passed = passed tt;
        last = λ later l is.
            let all : b.log ∷ b.before ≡ later ++ l ∷ (ports k).before = ap (λ (t : List Applied). t ∷ b.before) (sym same) ∙ ap (λ (t : List (List Applied)). c.log ∷ t) (sym before) ∙ is in
            let one = same_before where_is.0 later log l (ports k).before (sym where_is.1 ∙ all) in
            record {
              value = ap (λ (t : List Applied). value_of o t j) (sym one);
              stamp = ap (λ (t : List Applied). carried_after (length (ports k).before) (stamp_after a.opening (ports k).before) t j) (sym one) ∙ sym (carried_is j inside);
            };
      }
      found_final Glances passed c same before = final_grows a p' b c (not_grown p' b c same before) f (final_seen f s.found)
      found_final Reads passed c same before = final_grows a p' b c (not_grown p' b c same before) f (final_seen f s.found)
      found_final (Expects x v) passed c same before = final_grows a p' b c (not_grown p' b c same before) f (final_seen f s.found)

      pub moved_by : (added : List Noted) → Seen added → LegalNotes a.opening (seen_in p') k 0 (notes k ++ added) → added ≡ (if first && not (nat_lt n seal) then [] else noted_by wish X log j) →
          Moved a words (slice_set words i n) ports notes b reckoned X (SeatSees first wish j X n)
      moved_by added to legal is =
          let d = began_by first X b (seen_few a words ports notes b reckoned X w s) s.began in
          moved_to i d.0 d.2 added to legal (found_by wish X log j) (found_final wish finds) (contention_by wish n u) (by_more wish n u) (by_search wish n u) (SeatSees first wish j X n) (record {
            n = d.0;
            began = d.1;
            log = log;
            begins = seen_rest;
            is = ap (λ (l : List Noted). record { about = a; number = k; port = p'; notes = notes k ++ l; began = d.0; found = found_by wish X log j; contention = contention_by wish n u }) is;
            stamp = names;
            within = let is_here = is_raw e words ports b k j w.epochs below stands inside standing in let low = arena_within e words ports b k j w.epochs below stands inside standing in omega (arith, is_here, low);
            public = public_is j inside;
            present = λ less. let come = (d.2).come in let here = young less in omega (arith, come, here);
            time = λ fresh. begun_place b d.0 where_is.0 (ports k).before log d.2 where_is.1 (let epoch = (w.noted.reached k below).epoch in omega (arith, fresh, epoch));
          })

      -- what is noted is nothing or one call
      one_note : (wish : Wish) → (noted_by wish X log j ≡ []) ⊎ ((m : Noted) × (noted_by wish X log j ≡ m ∷ []))
      one_note Glances = inl refl
      one_note Finds = inl refl
      one_note Reads = inr (_, refl)
      one_note (Expects expected v) = by (stamp_seen X log j == expected)
        where
          by : (c : Bool) → ((if c then [] else changed_note j inside expected v ∷ []) ≡ []) ⊎ ((m : Noted) × ((if c then [] else changed_note j inside expected v ∷ []) ≡ m ∷ []))
          by true = inl refl
          by false = inr (_, refl)

      pub moved_see : Moved a words (slice_set words i n) ports notes b reckoned X (SeatSees first wish j X n)
      moved_see = by (first && not (nat_lt n seal)) refl (one_note wish)
        where
          nothing : [] ≡ (if first && not (nat_lt n seal) then [] else noted_by wish X log j) → Moved a words (slice_set words i n) ports notes b reckoned X (SeatSees first wish j X n)
          nothing is = moved_by [] sees_nothing (subst (λ (l : List Noted). LegalNotes a.opening (seen_in p') k 0 l) (sym (append-nil (notes k))) legal_then) is

          by : (c : Bool) → (first && not (nat_lt n seal)) ≡ c → ((noted_by wish X log j ≡ []) ⊎ ((m : Noted) × (noted_by wish X log j ≡ m ∷ []))) → Moved a words (slice_set words i n) ports notes b reckoned X (SeatSees first wish j X n)
          by true skip some = nothing (sym (ap (λ (c : Bool). if c then [] else noted_by wish X log j) skip))
          by false skip (inl none) = nothing (sym (ap (λ (c : Bool). if c then [] else noted_by wish X log j) skip ∙ none))
          by false skip (inr one) =
              let is_true = (subst (AllByRecursion IsTrueHere) one.1 (notes_true j inside wish)).0 in
              moved_by (one.0 ∷ []) (sees_note (length log) (omega arith) shown_few one.0 is_true) (legal_note (length log) shown_few one.0 is_true)
              (sym (ap (λ (c : Bool). if c then [] else noted_by wish X log j) skip ∙ one.1))
