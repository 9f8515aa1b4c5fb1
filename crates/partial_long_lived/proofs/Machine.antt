-- The steps of a port's machine are allowed.
use Rattle.partial_long_lived.proofs.{Common.{ℕ, ◌≡◌, ◌≢◌, ◌+◌, ◌<◌, ◌≤◌, ◌||◌, ◌++◌, Bool, true, false, if◌then◌else◌, Option, Some, None, IfSome, List, [], ◌∷◌, length, map, take, drop, slice_index, slice_set, refl, sym, ap, subst, ◌∙◌, inl, inr, arith, append-nil, append_assoc, length-append, AllByRecursion, length-map, take-append-drop, take-append-le, set-get_or, Applied, Call, Answer, stamp_of, LegalNotes, Noted, seen_by, Step, Load, Store, Exchange, Add, answer_of, word_of, words_after, CoreState, advance, reply_of, answer_for, call_of, is_begun, Part, core_of, begun_with, since_with, put, IsSealed, Site, Plan, arena_words, base, component_words, plain, based_step, history_of, opened_after, public_entry, public_log, among, history_longer, known, Control, Entering, Epoch, Port, Stands, StoredEntering, Loaded, IsOld, option_map, present_history, all_back, Beside, IsStanding, LawfulEpochs, numbers, site_now, HaveSlots, MachineLeads, MeetsSeal, ends_over, ExpectedOne, LawfulMemory, EpochReached, noting, public_noted, Reckons, Reckoning, machines_are_never_refused, put_other, put_same, About, Began, Found, IsFinal, IsLast, IsSeat, SeatedPort, plan_of, seen_in, BeginsWith, IsSeatKnown, IsApart, SeatMakes, MayMake, unsealed_answer, change_of, over_by, answer_found, legal_notes_seen, one_or_none, Contention, every_step_stays_lawful, MayNote, ◌⊎◌, MayMove}, Begins.{began_by, seen_few}, Control.{stands_since, led_to, reckoned_after}, Kept.{GoesOn, Grows, HasGrown, HaveGrown, Moved, begun_grows, final_grows, moved_says}, Lists.same_before, Seen.legal_begins, Loads.{begun_place, seat_at}}
use Rattle.partial_epochs.specs.EveryStep.{Move as move}

-- a step does the same to plain words as to those of a table
pub words_then : (words : List ℕ) (e : Plan) (x : ℕ) (s : Step) → words_after words (based_step e x s) ≡ slice_set words (base e x + word_of s) (change_of s (slice_index words (base e x + word_of s)))
words_then words e x (Load w) = sym (set-get_or words (base e x + w) 0)
words_then words e x (Store w v) = refl
words_then words e x (Exchange w old new) = refl
words_then words e x (Add w k) = refl

told_then : (words : List ℕ) (e : Plan) (x : ℕ) (s : Step) → answer_of words (based_step e x s) ≡ answer_found s (slice_index words (base e x + word_of s))
told_then words e x (Load w) = refl
told_then words e x (Store w v) = refl
told_then words e x (Exchange w old new) = refl
told_then words e x (Add w k) = refl

over_then : (e : Plan) (words : List ℕ) (s : Step) → ends_over e words s ≡ over_by e s (answer_of words s)
over_then e words (Load w) = refl
over_then e words (Store w v) = refl
over_then e words (Exchange w old new) = refl
over_then e words (Add w k) = refl

pub never_met : (e : Plan) (components : List ℕ) (s : Step) → IsApart e.sizes s → MeetsSeal e components s → ⊥
never_met e components (Load w) apart meets = meets
never_met e components (Store w v) apart meets = meets
never_met e components (Exchange w old new) apart meets = let low = meets.0 in omega (arith, apart, low)
never_met e components (Add w k) apart meets = meets

-- how the histories grow by a machine's step
module _ (e : Plan) (words : List ℕ) (ports : ℕ → Port) (b : Beside) (w : LawfulEpochs e words ports b) (k : ℕ) (c : CoreState) (step : Step) (lead : MachineLeads e words ports b k c step) where
  -- a port that has entered the current epoch stands there
  stands_now : (q : ℕ) → q < e.ports → length (ports q).before ≡ (ports q).control.here.epoch → (ports q).before ≡ b.before → (ports q).control.entering ≡ Stands
  stands_now q low epoch same = by (ports q).control.entering refl (w.control.old q low)
    where
      by : (t : Entering) → (ports q).control.entering ≡ t → IsOld e (length b.before) (ports q).control.here t → (ports q).control.entering ≡ Stands
      by Stands is old = is
      by StoredEntering is old = let long = ap (λ (l : List (List Applied)). length l) same in absurd (omega (arith, epoch, long, old))
      by (Loaded d) is old =
          let long = ap (λ (l : List (List Applied)). length l) same in
          let up = old.0 in
          let now = old.1 in
          absurd (omega (arith, epoch, long, up, now))

  -- what it has passed there is sealed, so the entries are for other components
  free_of : (q : ℕ) → q < e.ports → length (ports q).before ≡ (ports q).control.here.epoch → (ports q).before ≡ b.before → (j : ℕ) → j < (ports q).passed →
      AllByRecursion (λ (a : Applied). a.component ≢ j) lead.entries
  free_of q low epoch same j passed = elim lead.present [
    | inl none ↦ subst (AllByRecursion (λ (a : Applied). a.component ≢ j)) (sym none) tt
    | inr here ↦
        let stands = stands_now q low epoch same in
        let s = w.standing q low stands in
        let long = ap (λ (l : List (List Applied)). length l) (s.before ∙ same) in
        let number : numbers b (ports q).control.here.arena ≡ Some (length s.epoch.before) = ap (option_map (λ (r : Epoch). length r.before)) s.is in
        let arena : (ports q).control.here.arena ≡ b.arena = (elim (w.control.earlier (ports q).control.here.arena (length s.epoch.before) number) [
          | inl less ↦ absurd (omega (arith, less, long))
          | inr now ↦ now.1
        ]) in
        let mine : (ports k).control.here.arena ≡ b.arena = ap (λ (d : Site). d.arena) here.here in
        let sealed : (a : Applied) → a.component < e.sizes.m → a.component ≡ j → IsSealed (slice_index (component_words e words (ports k).control.here.arena) a.component) = λ a inside is.
        subst (λ z. IsSealed (slice_index (component_words e words z) a.component)) (arena ∙ sym mine)
        ((w.arenas (ports q).control.here.arena s.epoch s.is).passed q a.component low (let count = s.passed in omega (arith, count, passed, is)) inside) in
        all_free sealed lead.entries inside_all lead.free
  ]
    where
      inside_all : AllByRecursion (λ (a : Applied). a.component < e.sizes.m) lead.entries
      inside_all = all_back (λ (a : Applied). a.component < e.sizes.m) b.log lead.entries
          (subst (AllByRecursion (λ (a : Applied). a.component < e.sizes.m)) lead.log (present_history e (words_after words (based_step e (ports k).control.here.arena step)) (put k lead.port ports) lead.beside lead.lawful).components)

      all_free : ((a : Applied) → a.component < e.sizes.m → a.component ≡ j → IsSealed (slice_index (component_words e words (ports k).control.here.arena) a.component)) → (h : List Applied) →
          AllByRecursion (λ (a : Applied). a.component < e.sizes.m) h → AllByRecursion (λ (a : Applied). ¬ IsSealed (slice_index (component_words e words (ports k).control.here.arena) a.component)) h →
          AllByRecursion (λ (a : Applied). a.component ≢ j) h
      all_free sealed [] inside free = tt
      all_free sealed (a ∷ h) inside free = (λ is. free.0 (sealed a inside.0 is), all_free sealed h inside.1 free.1)

  -- the histories have grown, where the entries are free of these components
  grown_by : (P : ℕ → Type 0) (before : List (List Applied)) → (before ≡ b.before → (j : ℕ) → P j → AllByRecursion (λ (a : Applied). a.component ≢ j) lead.entries) →
      (later : List (List Applied)) (log : List Applied) → lead.beside.log ∷ lead.beside.before ≡ later ++ log ∷ before → Grows P before b lead.beside later log
  grown_by P before free [] log is =
      let first : lead.beside.log ≡ log = cc in
      let rest : lead.beside.before ≡ before = cc in
      let same : b.before ≡ before = sym lead.epochs ∙ rest in
      record {
        later' = [];
        log' = b.log;
        entries = lead.entries;
        was = ap (λ (l : List (List Applied)). b.log ∷ l) same;
        is = sym first ∙ lead.log;
        free = free (sym same);
      }
  grown_by P before free (h ∷ later) log is =
      let rest : lead.beside.before ≡ later ++ log ∷ before = cc in
      record {
        later' = b.log ∷ later;
        log' = log;
        entries = [];
        was = ap (λ (l : List (List Applied)). b.log ∷ l) (sym lead.epochs ∙ rest);
        is = sym (append-nil log);
        free = λ j low. tt;
      }

  pub port_grown : (q : ℕ) → q < e.ports → length (ports q).before ≡ (ports q).control.here.epoch → HasGrown (ports q) b lead.beside
  port_grown q low epoch = grown_by (λ j. j < (ports q).passed) (ports q).before (λ same j passed. free_of q low epoch same j passed)

  pub all_grown : HaveGrown b lead.beside
  all_grown before later log few is = grown_by (λ j. ⊥) before (λ same j no. absurd no) later log is

module _ (a : About) (words : List ℕ) (ports : ℕ → Port) (notes : ℕ → List Noted) (b : Beside) (reckoned : Reckoning) (w : LawfulMemory (plan_of a) words ports b notes)
    (time : Reckons (plan_of a) words ports (site_now b) reckoned) (k : ℕ) (below : k < a.ports) (g : Began) (f : Option Found) (u : Contention) (s : IsSeat a words ports notes b reckoned (seat_at a ports notes k g f u))
    (of_port : IsSeatKnown (seat_at a ports notes k g f u)) (slots : HaveSlots (plan_of a)) (first : Bool) (c : CoreState) (step : Step) (may : MayMake (seat_at a ports notes k g f u) c step)
    (lead : MachineLeads (plan_of a) words ports b k c step) where
  abbrev e : Plan
  e = plan_of a

  abbrev X : SeatedPort
  X = seat_at a ports notes k g f u

  abbrev i : ℕ
  i = base e (ports k).control.here.arena + word_of step

  abbrev n : ℕ
  n = slice_index words i

  abbrev A : ℕ
  A = answer_of (arena_words e words (ports k).control.here.arena) step

  answer_is : unsealed_answer e step n ≡ A
  answer_is = ap (plain e (word_of step)) (sym (told_then words e (ports k).control.here.arena step)) ∙ lead.gives

  -- the port after the step
  port_is : lead.port ≡ record (ports k) { part = lead.port.part; over = (ports k).over || over_by e step A }
  port_is =
      let over : lead.port.over ≡ ((ports k).over || over_by e step A) = lead.over ∙ ap (λ t. (ports k).over || t) (over_then e (arena_words e words (ports k).control.here.arena) step) in
      ap (λ (t : Control). record { control = t; part = lead.port.part; passed = lead.port.passed; over = lead.port.over; before = lead.port.before }) lead.control
      ∙ ap (λ t. record { control = (ports k).control; part = lead.port.part; passed = t; over = lead.port.over; before = lead.port.before }) lead.passed
      ∙ ap (λ t. record { control = (ports k).control; part = lead.port.part; passed = (ports k).passed; over = t; before = lead.port.before }) over
      ∙ ap (λ (t : List (List Applied)). record { control = (ports k).control; part = lead.port.part; passed = (ports k).passed; over = (ports k).over || over_by e step A; before = t }) lead.before

  seen_is : lead.port.part.seen ≡ lead.standing.epoch.log ++ lead.entries
  seen_is = ap (λ (t : Part). t.seen) lead.tells.part

  -- what had been seen is a beginning of what is seen
  seen_rest : (rest : List Applied) × (lead.port.part.seen ≡ (ports k).part.seen ++ rest)
  seen_rest =
      let was = lead.tells.seen in (
        drop (length (ports k).part.seen) lead.standing.epoch.log ++ lead.entries,
        seen_is ∙ ap (λ (l : List Applied). l ++ lead.entries) (sym (take-append-drop (length (ports k).part.seen) lead.standing.epoch.log) ∙ ap (λ (l : List Applied). l ++ drop (length (ports k).part.seen) lead.standing.epoch.log) (sym was))
            ∙ append_assoc (ports k).part.seen (drop (length (ports k).part.seen) lead.standing.epoch.log) lead.entries,
      )

  begins_then : BeginsWith (seen_in (ports k)) (seen_in lead.port)
  begins_then = let r = seen_rest in (
    public_log (length (ports k).before) r.0,
    ap (λ (l : List (List Applied)). history_of (lead.port.part.seen ∷ l)) lead.before ∙ ap (λ (l : List Applied). history_of (l ∷ (ports k).before)) r.1 ∙ history_longer (ports k).part.seen r.0 (ports k).before,
  )

  shown_then : seen_by 0 (notes k) ≤ length (history_of (ports k).before) + since_with c (ports k).part
  shown_then = elim may.shown [
    | inl begun ↦
        let is : since_with c (ports k).part ≡ length (ports k).part.seen = ap (λ t. if t then length (ports k).part.seen else (ports k).part.since) begun in
        let shown = w.noted.shown k below in
        omega (arith, is, shown)
    | inr low ↦ by_begun low
  ]
    where
      by_begun : seen_by 0 (notes k) ≤ length (history_of (ports k).before) + (ports k).part.since → seen_by 0 (notes k) ≤ length (history_of (ports k).before) + since_with c (ports k).part
      by_begun low = by (is_begun c.stage) refl
        where
          by : (t : Bool) → is_begun c.stage ≡ t → seen_by 0 (notes k) ≤ length (history_of (ports k).before) + since_with c (ports k).part
          by true is =
              let same : since_with c (ports k).part ≡ length (ports k).part.seen = ap (λ t. if t then length (ports k).part.seen else (ports k).part.since) is in
              let shown = w.noted.shown k below in
              omega (arith, same, shown)
          by false is =
              let same : since_with c (ports k).part ≡ (ports k).part.since = ap (λ t. if t then length (ports k).part.seen else (ports k).part.since) is in
              omega (arith, same, low)

  -- a conditional update that found another stamp expected one of the epoch's
  expected_one : (l : List Noted) → lead.tells.new ≡ l → AllByRecursion (λ (m : Noted). ExpectedOne (opened_after a.opening (ports k).before) lead.port.part.seen m.call m.answer) l
  expected_one l is = elim (one_or_none (opened_after a.opening (ports k).before) lead.port.part (reply_of (advance c A)) lead.tells.new lead.tells.noted) [
    | inl none ↦ subst (AllByRecursion (λ (m : Noted). ExpectedOne (opened_after a.opening (ports k).before) lead.port.part.seen m.call m.answer)) (sym none ∙ is) tt
    | inr some ↦
        let m = some.1 in
        subst (AllByRecursion (λ (m : Noted). ExpectedOne (opened_after a.opening (ports k).before) lead.port.part.seen m.call m.answer)) (sym m.is ∙ is)
        (by m.call (answer_for (core_of lead.port.part) some.0) (ap call_of (sym (ap (λ (t : Part). t.begun) lead.tells.part)) ∙ m.made), tt)
  ]
    where
      by : (d : Call) (r : Answer) → call_of (begun_with c (ports k).part) ≡ Some d → ExpectedOne (opened_after a.opening (ports k).before) lead.port.part.seen d r
      by (Call.UpdateIf j x v) (Answer.Changed t) made =
          let had = may.expects j x v made in
          let r = seen_rest in
          let long = ap (λ (l : List Applied). length l) r.1 in
          let both = length-append (ports k).part.seen r.0 in
          let few = had.1 in
          (had.0, omega (arith, long, both, few), had.2 ∙ ap (λ (l : List Applied). stamp_of (opened_after a.opening (ports k).before) l j) (sym (take-append-le had.0 (ports k).part.seen r.0 few) ∙ ap (take had.0) (sym r.1)))
      by (Call.UpdateIf j x v) (Answer.Applied t) made = tt
      by (Call.UpdateIf j x v) (Answer.Lost t) made = tt
      by (Call.UpdateIf j x v) (Answer.Scanned vs n b) made = tt
      by (Call.UpdateIf j x v) (Answer.Read y t) made = tt
      by (Call.UpdateIf j x v) (Answer.Refused cause) made = tt
      by (Call.Update j v) r made = tt
      by (Call.Scan js) r made = tt
      by (Call.Read j) r made = tt

  abbrev words' : List ℕ
  words' = words_after words (based_step e (ports k).control.here.arena step)

  abbrev ports' : ℕ → Port
  ports' = put k lead.port ports

  -- where the port stands then
  there_then : IsStanding lead.beside k lead.port
  there_then =
      let there = lead.lawful.standing k below in
      subst (λ (p : Port). p.control.entering ≡ Stands → IsStanding lead.beside k p) (put_same k lead.port ports) there (ap (λ (t : Control). t.entering) lead.control ∙ may.stands)

  -- what it has found stays so
  final_then : (f : Option Found) → IfSome f (IsFinal e b (ports k)) → IfSome f (IsFinal e lead.beside lead.port)
  final_then None h = tt
  final_then (Some f) h =
      let was = final_grows a (ports k) b lead.beside (port_grown e words ports b w.epochs k c step lead k below (w.noted.reached k below).epoch) (Some f) h in
      record {
        inside = was.inside;
        passed = let low = was.passed in let same = lead.passed in omega (arith, low, same);
        last = subst (λ (before : List (List Applied)). (later : List (List Applied)) (log : List Applied) → lead.beside.log ∷ lead.beside.before ≡ later ++ log ∷ before → IsLast e before log f) (sym lead.before) was.last;
      }

  -- the port's notes are legal in what it has seen
  legal_then : LegalNotes a.opening (seen_in lead.port) k 0 (notes k ++ map (public_noted e (ports k).before) lead.tells.new)
  legal_then =
      let expected = expected_one lead.tells.new refl in
      let is : seen_in lead.port ≡ history_of (lead.port.part.seen ∷ (ports k).before) = ap (λ (l : List (List Applied)). history_of (lead.port.part.seen ∷ l)) lead.before in
      let was = subst (λ (l : List Applied). LegalNotes a.opening l k 0 (notes k)) is (legal_begins a.opening (seen_in (ports k)) (seen_in lead.port) k 0 (notes k) begins_then of_port.knows.legal) in
      subst (λ (l : List Applied). LegalNotes a.opening l k 0 (notes k ++ map (public_noted e (ports k).before) lead.tells.new)) (sym is)
      (legal_notes_seen e words ports b notes k c step w below may.stands lead (map (public_noted e (ports k).before) lead.tells.new) (inr (refl, shown_then, expected)) was shown_then expected)

  -- what the port may note, whatever answer its machine gets
  pub may_note_all : MayNote e (ports k) (notes k) (since_with c (ports k).part) lead.port.part.seen lead.tells.new (map (public_noted e (ports k).before) lead.tells.new)
  may_note_all = inr (refl, shown_then, expected_one lead.tells.new refl)

  -- the step that is due leads on
  pub moved_make : LawfulMemory e words' ports' lead.beside (noting k (map (public_noted e (ports k).before) lead.tells.new) notes) → (reckoned' : Reckoning) → (reckoned.tally.met k ≡ true → reckoned'.tally.met k ≡ true) → GoesOn a words words' ports ports' b lead.beside reckoned reckoned' k →
      Moved a words (slice_set words i (change_of step n)) ports notes b reckoned X (λ y. SeatMakes first c step X (unsealed_answer e step n) y)
  moved_make whole reckoned' met in_time =
      let stands = may.stands in
      let words_is = words_then words e (ports k).control.here.arena step in
      let added : List Noted = map (public_noted e (ports k).before) lead.tells.new in
      let lawful' : LawfulMemory e (slice_set words i (change_of step n)) (put k lead.port ports) lead.beside (noting k added notes) =
      subst (λ (l : List ℕ). LawfulMemory e l (put k lead.port ports) lead.beside (noting k added notes)) words_is whole in
      let time' : GoesOn a words (slice_set words i (change_of step n)) ports (put k lead.port ports) b lead.beside reckoned reckoned' k =
      subst (λ (l : List ℕ). GoesOn a words l ports (put k lead.port ports) b lead.beside reckoned reckoned' k) words_is in_time in
      let r = w.noted.reached k below in
      let again = whole.noted.reached k below in
      let there : EpochReached lead.beside lead.port = subst (λ (p : Port). EpochReached lead.beside p) (put_same k lead.port ports) again in
      let d = began_by first X b (seen_few a words ports notes b reckoned X w s) s.began in
      let longer = ap (λ (l : List (List Applied)). length l) lead.epochs in
      let more : length b.before ≤ length lead.beside.before = omega (arith, longer) in
      let began' = begun_grows b lead.beside d.0 more (all_grown e words ports b w.epochs k c step lead) d.2 in
      let grown = port_grown e words ports b w.epochs k c step lead k below r.epoch in
      let young : d.0.epoch ≤ (ports k).control.here.epoch → d.0.length ≤ length (history_of (ports k).before) + length (lead.standing.epoch.log ++ lead.entries) = λ fresh.
      let at = among e words ports b w.epochs k below (ports k) lead.standing in
      let epoch = r.epoch in
      let was = begun_place b d.0 at.0 (ports k).before lead.standing.epoch.log d.2 at.1 (omega (arith, fresh, epoch)) in
      let both = length-append (history_of (ports k).before) (public_log (length (ports k).before) lead.standing.epoch.log) in
      let same = length-map lead.standing.epoch.log (public_entry (length (ports k).before)) in
      let all = length-append lead.standing.epoch.log lead.entries in
      omega (arith, was, both, same, all) in
      record {
        y = record { about = a; number = k; port = lead.port; notes = notes k ++ added; began = d.0; found = f; contention = u };
        ports' = put k lead.port ports;
        notes' = noting k added notes;
        beside = lead.beside;
        reckoned' = reckoned';
        lawful = lawful';
        time = time';
        others = λ q ne. (put_other k lead.port ports q ne, put_other k (notes k ++ added) notes q ne);
        number = refl;
        epoch = (let same = ap (λ (t : Control). t.here.epoch) lead.control in omega (arith, same));
        seals = omega arith;
        seat = record {
          about = refl;
          number = below;
          port = sym (put_same k lead.port ports);
          noted = sym (put_same k (notes k ++ added) notes);
          seen = λ later log is.
              let at = among e words' ports' lead.beside lead.lawful k below lead.port there_then in
              let one = same_before at.0 later there_then.epoch.log log lead.port.before (sym at.1 ∙ is) in
              let kept = (known e words' ports' lead.beside lead.lawful k below lead.port there_then).seen in
              (drop (length lead.port.part.seen) log, sym (take-append-drop (length lead.port.part.seen) log) ∙ ap (λ (l : List Applied). l ++ drop (length lead.port.part.seen) log) (ap (take (length lead.port.part.seen)) (sym one) ∙ sym kept));
          began = began';
          entering = stands_since d.0 lead.port.control.entering (reckoned'.since k) (ap (λ (t : Control). t.entering) lead.control ∙ stands);
          found = final_then f s.found;
          search = time'.searching k u.search below s.search;
          met = λ is. met (s.met is);
        };
        grown = λ q low ne. port_grown e words ports b w.epochs k c step lead q low (w.noted.reached q low).epoch;
        all_grown = all_grown e words ports b w.epochs k c step lead;
        later = more;
        reached = (there.later, there.log, there.is);
        seen = begins_then;
        legal = legal_then;
        says = subst (λ t. SeatMakes first c step X t (record { about = a; number = k; port = lead.port; notes = notes k ++ added; began = d.0; found = f; contention = u })) (sym answer_is) (record {
          n = d.0;
          began = d.1;
          log = lead.standing.epoch.log;
          entries = lead.entries;
          told = lead.tells;
          is = ap (λ (p : Port). record { about = a; number = k; port = p; notes = notes k ++ added; began = d.0; found = f; contention = u }) port_is;
          shown = shown_then;
          unrefused = λ cause is. machines_are_never_refused e words ports b k c step below stands slots lead cause is;
          time = young;
        });
      }

  -- its call began in an epoch that has come
  pub moved_come : LawfulMemory e words' ports' lead.beside (noting k (map (public_noted e (ports k).before) lead.tells.new) notes) → (reckoned' : Reckoning) → (reckoned.tally.met k ≡ true → reckoned'.tally.met k ≡ true) → GoesOn a words words' ports ports' b lead.beside reckoned reckoned' k → Moved a words (slice_set words i (change_of step n)) ports notes b reckoned X (λ y. SeatMakes first c step X (unsealed_answer e step n) y × (y.began.epoch ≤ length b.before))
  unfolding moved_make
  moved_come whole reckoned' met in_time = moved_says (moved_make whole reckoned' met in_time) ((moved_make whole reckoned' met in_time).says, (began_by first X b (seen_few a words ports notes b reckoned X w s) s.began).2.come)

-- What the machine's step leads to: the machine gets the answer that the law says, and what is counted beside the words goes on.
pub record Made (a : About) (words : List ℕ) (ports : ℕ → Port) (notes : ℕ → List Noted) (b : Beside) (reckoned : Reckoning) (k : ℕ) (c : CoreState) (step : Step) : Type 0 where
  pub lead : MachineLeads (plan_of a) words ports b k c step
  pub lawful : LawfulMemory (plan_of a) (words_after words (based_step (plan_of a) (ports k).control.here.arena step)) (put k lead.port ports) lead.beside
      (noting k (map (public_noted (plan_of a) (ports k).before) lead.tells.new) notes)
  pub reckoned' : Reckoning
  pub met : reckoned.tally.met k ≡ true → reckoned'.tally.met k ≡ true
  pub time : GoesOn a words (words_after words (based_step (plan_of a) (ports k).control.here.arena step)) ports (put k lead.port ports) b lead.beside reckoned reckoned' k

-- What a due step of a port's machine leads to, by the one law of all moves: it meets a seal, or the machine gets the answer that the law says.
pub made_or_met : (a : About) (words : List ℕ) (ports : ℕ → Port) (notes : ℕ → List Noted) (b : Beside) (reckoned : Reckoning) (w : LawfulMemory (plan_of a) words ports b notes) →
    Reckons (plan_of a) words ports (site_now b) reckoned → (k : ℕ) → k < a.ports → (g : Began) (f : Option Found) (u : Contention) → IsSeat a words ports notes b reckoned (seat_at a ports notes k g f u) →
    IsSeatKnown (seat_at a ports notes k g f u) → HaveSlots (plan_of a) → (c : CoreState) (step : Step) → MayMake (seat_at a ports notes k g f u) c step →
    (MeetsSeal (plan_of a) (component_words (plan_of a) words (ports k).control.here.arena) step × (words_after words (based_step (plan_of a) (ports k).control.here.arena step) ≡ words))
    ⊎ Made a words ports notes b reckoned k c step
made_or_met a words ports notes b reckoned w time k below g f u s known slots c step may =
    let e : Plan = plan_of a in
    let words' : List ℕ = words_after words (based_step e (ports k).control.here.arena step) in
    let may_move : MayMove e words ports b notes k (move.Makes c step true) =
    (may.stands, may.machine, may.due, may.claim, may.scan, λ lead. may_note_all a words ports notes b reckoned w time k below g f u s known slots true c step may lead) in
    let l = every_step_stays_lawful e words ports b notes k (move.Makes c step true) w below may_move in
    elim l.becomes [
      | inl met ↦ inl (met.0, met.1)
      | inr made ↦
          let same = ap (λ (d : Beside). length d.before) made.2 in
          let epochs = ap (λ (l : List (List Applied)). length l) (made.0).epochs in
          let led = led_to a words ports notes b reckoned w time k below (move.Makes c step true) may_move tt (λ q ne. refl) l (omega (arith, same, epochs)) words' refl made.0.port made.1 made.0.beside made.2
          (map (public_noted e (ports k).before) made.0.tells.new) made.3 in
          inr (record {
            lead = made.0;
            lawful = led.lawful;
            reckoned' = reckoned_after b k (move.Makes c step true) reckoned led.there;
            met = λ is. led.met k ∙ is;
            time = led.time;
          })
    ]
