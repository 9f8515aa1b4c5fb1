-- A scan where a port stands: its first step is allowed, and what it leaves of its port.
use Rattle.partial_long_lived.proofs.{Common.{None, true, nat_lt, ◌==◌, ◌&&◌, StoringAnnouncement, at_stage, slot_limit, IsEpochPlan, awaits, before_claim, has_claimed, answers_lead_on, most_of_scan, seat_steps_left, ℕ, ◌≡◌, ◌+◌, ◌-◌, ◌%◌, ◌^◌, ◌<◌, ◌≤◌, ◌||◌, ◌++◌, Bool, false, if◌then◌else◌, Option, Some, List, [], ◌∷◌, length, map, refl, sym, ap, subst, ◌∙◌, inl, inr, arith, length-append, is_some, slice_index, length-map, Allows, TableId, Applied, Call, Note, Noted, place_of, Add, Layout, IsLayout, pool_counter, total, Reply, call_of, CoreState, advance, reply_of, scanned_values, step_of, AreComponentIndices, IsSound, AreNotesOf, IsNoteOf, IsPlacedAt, Plan, base, plain, unsealed, history_of, public_entry, public_log, public_noted, Control, not_below, RestsLike, About, Stand, Began, IsRuleKept, SeatedPort, plan_of, SeatGoes, IsOne, IsHeld, port_at, IsIdle, component_at, SeatMakes, unsealed_answer, makes, over_by, word_at, HasNotedScan, RestsUnmarked, ScanMade, EpochSettled, noted_scan, CallMade, IsGoing, ComesTo, MayBegin, machine_at, take, Opening, stamp_of, CollectsStamps, opened_after, stamp_limit, public_of, stamp_public, opening_of, MadeNamed, NameStamps, ScannedNamed, stamp_at, announcement_size, scan_asked, Answer, Block}, RecordStamps.{stamp_small, unsealed_same}, Coming.goes_on, Making.may_make, Standing.{arena_there, held_then, room_of}, Under.{first_made, first_may}, Unmarked.marks_stay, Zeros.seat_fewer}
use Rattle.std.proofs.lemmas.Bool.{eq-eqb, ltb-true, ne_eqb}
use Rattle.partial_model.specs.declared.call.Refused.{Refused}
use Rattle.partial_active.specs.declared.join.JoinStage.TheVariants.{Storing, Spent}
use Rattle.partial_words.specs.Layout.{pool_end, slot_counter}
use Rattle.partial_machine.specs.Machine.{after_joining, begin_joining, fits_pool, pool_refused}
use Rattle.partial_knowledge.specs.Scans.{AreStamps}
use Rattle.partial_embedded.specs.Embedded.{RowsState}
use Rattle.partial_long_lived.specs.Inner.Scans.{ScanBegun}

-- a machine without marks may begin a scan of some components
pub scan_begins : (table : TableId) (about : About) (s : Stand) (core : CoreState) (which : List ℕ) → IsHeld table about s → IsIdle s → RestsUnmarked (port_at s) core → (port_at s).port.over ≡ false →
    AreComponentIndices core.sizes which → 0 < length which → about.announces ≡ true → MayBegin (scan_asked core which) (port_at s)
scan_begins table about s core which h idle rests spare asked some announces =
    let between = rests.between in
    let like = between.like in
    let old = between.sound in
    let sound : IsSound (scan_asked core which) = record {
      asked = asked;
      found = old.found;
      indices = old.indices;
      distinct = old.distinct;
      rows = old.rows;
      ahead = old.ahead;
      spare = old.spare;
      stage = (some, rests.pool, rests.slots);
    } in
    record {
      stands = idle.stands;
      begun = record { begun = refl; rest = between.rest; like = record { sizes = like.sizes; port = like.port; pool = like.pool; slots = like.slots; lists = like.lists; spare = like.spare }; sound = sound };
      sound = sound;
      layout = subst IsLayout (sym rests.sizes) h.known.plan.sizes;
      sizes = rests.sizes;
      spare = spare;
      kept = rests.kept spare;
      scan = λ no _. (let bad : true ≡ false = sym announces ∙ ap (λ (a : About). a.announces) (sym h.own) ∙ no in absurd cc);
      unmarked = (rests.pool, rests.slots);
      expects = λ j t v is. (let bad : Some (Call.Scan which) ≡ Some (Call.UpdateIf j t v) = is in cc);
    }

-- the first step, the claim of n words by the add to word w of the arena
module _ (table : TableId) (about : About) (s : Stand) (h : IsHeld table about s) (b core : CoreState) (which : List ℕ) (moment : b ≡ scan_asked core which) (begins : MayBegin b (port_at s))
    (w n : ℕ) (at : w ≡ pool_counter s.shape.sizes) (many : n ≡ announcement_size (length which)) where
  sizes_same : s.shape.sizes ≡ (port_at s).about.sizes
  sizes_same = sym (ap (λ (e : Plan). e.sizes) h.shape) ∙ ap (λ (a : About). a.sizes) (sym h.own)

  at_there : w ≡ pool_counter (port_at s).about.sizes
  at_there = at ∙ ap pool_counter sizes_same

  due : step_of b ≡ Some (Add w n)
  due = ap step_of moment ∙ ap (λ (z : Layout). Some (Add (pool_counter z) (announcement_size (length which)))) (sym (ap (λ (c : CoreState). c.sizes) moment) ∙ begins.sizes)
      ∙ ap (λ v. Some (Add v (announcement_size (length which)))) (sym at_there) ∙ ap (λ k. Some (Add w k)) (sym many)

  base_is : s.base ≡ base (plan_of about) (port_at s).port.control.here.arena
  base_is = h.base ∙ ap (base (plan_of about)) h.arena

  word_same : component_at (port_at s) (s.base + w) ≡ w
  word_same = let is = base_is in ap (λ (a : About). s.base + w - base (plan_of a) (port_at s).port.control.here.arena) h.own ∙ omega (arith, is)

  pub claim_there : s.base + w < table.words
  claim_there =
      let is = at_there in
      let own = ap (λ (a : About). a.sizes) h.own in
      let low : w < total about.sizes = subst (λ (z : Layout). w < total z) own (subst (λ v. v < total (port_at s).about.sizes) (sym is) (omega arith)) in
      arena_there table about s h w (omega (arith, low))

  pub claim_asked : (slots id : ℕ) → Allows (IsRuleKept about) slots id s.seat.me (s.base + w) (λ v. (v + n) % 2 ^ 64) (makes false b (Add (word_at s.seat.me (s.base + w)) n) s.seat.me)
  claim_asked slots id =
      subst (λ u. Allows (IsRuleKept about) slots id s.seat.me (s.base + w) (λ v. (v + n) % 2 ^ 64) (makes false b (Add u n) s.seat.me)) (sym word_same)
      (subst (λ i. Allows (IsRuleKept about) slots id s.seat.me (i + w) (λ v. (v + n) % 2 ^ 64) (makes false b (Add w n) s.seat.me)) (sym base_is)
      (may_make about slots id s.seat.me h.one h.own h.known (room_of table about s h) b (Add w n) (first_may b (port_at s) begins (Add w n) due) false tt))

  -- the claim after the component words is answered as it is
  module _ (t : Stand) (id : t.seat.table_id ≡ s.seat.table_id) (one : IsOne t.seat.me) (goes : SeatGoes (port_at s) (port_at t)) (a : ℕ)
      (told : SeatMakes false b (Add (word_at s.seat.me (s.base + w)) n) (port_at s) (unsealed_answer (plan_of (port_at s).about) (Add (word_at s.seat.me (s.base + w)) n) a) (port_at t))
      (shape : t.shape ≡ s.shape) (number : t.number ≡ s.number) (epoch : t.epoch ≡ s.epoch) (arena : t.arena ≡ s.arena) (base_same : t.base ≡ s.base) (passed : t.passed ≡ s.passed) where
    claim_told : SeatMakes false b (Add w n) (port_at s) a (port_at t)
    claim_told =
        let is = at_there in
        let plain_is : plain (plan_of (port_at s).about) w a ≡ a = ap (λ (c : Bool). if c then unsealed a else a) (not_below w (port_at s).about.sizes.m (omega (arith, is))) in
        subst (λ x. SeatMakes false b (Add w n) (port_at s) x (port_at t)) plain_is
        (subst (λ u. SeatMakes false b (Add u n) (port_at s) (unsealed_answer (plan_of (port_at s).about) (Add u n) a) (port_at t)) word_same told)

    machine_is : machine_at t ≡ advance b a
    machine_is = sym claim_told.told.machine.is

    call_made : CallMade b (port_at s) (machine_at t) (port_at t)
    call_made = subst (λ (d : CoreState). CallMade b (port_at s) d (port_at t)) (sym machine_is) (first_made b (port_at s) begins false (Add w n) due a (port_at t) goes claim_told)

    pub scan_going : IsGoing table about t
    scan_going = record {
      held = held_then table about s t h id one goes (ap (λ (x : SeatedPort). x.port.control.here) claim_told.is) shape number epoch arena base_same
          (passed ∙ h.passed ∙ sym (ap (λ (x : SeatedPort). x.port.passed) claim_told.is));
      under = (b, port_at s, begins, call_made);
    }

    pub scan_begun : ScanBegun b (length which) s a t
    scan_begun = record {
      kept = record { shape = shape; number = number; epoch = epoch; arena = arena; base = base_same; passed = passed; goes = goes };
      made = call_made;
      machine = machine_is;
      possible = claim_told.told.possible;
      began = ap (λ (x : SeatedPort). x.began) claim_told.is ∙ claim_told.began;
      over = ap (λ (x : SeatedPort). x.port.over) claim_told.is ∙ ap (λ c. c || over_by (plan_of (port_at s).about) (Add w n) a) begins.spare
          ∙ ap (λ v. over_by (plan_of (port_at s).about) (Add v n) a) at_there ∙ ap (λ k. over_by (plan_of (port_at s).about) (Add (pool_counter (port_at s).about.sizes) k) a) many;
    }

-- A call under way isn't refused, so its announcement fits the pool, and its first store is due.
module _ (table : TableId) (about : About) (u : Stand) (w : IsGoing table about u) (core : CoreState) (which : List ℕ) (at : ℕ) (machine : machine_at u ≡ advance (scan_asked core which) at) where
  fits_is : fits_pool core.sizes (announcement_size (length which)) at ≡ true
  fits_is = by (fits_pool core.sizes (announcement_size (length which)) at) refl
    where
      by : (b : Bool) → fits_pool core.sizes (announcement_size (length which)) at ≡ b → fits_pool core.sizes (announcement_size (length which)) at ≡ true
      by true is = is
      by false is =
          let refused : machine_at u ≡ pool_refused (scan_asked core which) =
          machine ∙ ap (λ (b : Bool). if b then at_stage (scan_asked core which) (StoringAnnouncement at 0) else pool_refused (scan_asked core which)) is in
          absurd (w.under.3.unrefused Refused.PoolSpent (ap reply_of refused))

  pub first_store : machine_at u ≡ at_stage (scan_asked core which) (StoringAnnouncement at 0)
  first_store = machine ∙ ap (λ (b : Bool). if b then at_stage (scan_asked core which) (StoringAnnouncement at 0) else pool_refused (scan_asked core which)) fits_is

  pub announcement_fits : core.sizes ≡ about.sizes → at + announcement_size (length which) < 2 ^ 32
  announcement_fits sizes =
      let within = ltb-true (at + announcement_size (length which)) (pool_end core.sizes + 1) fits_is in
      let plan = subst (λ (a : About). IsEpochPlan (plan_of a)) w.held.own w.held.known.plan in
      let same = ap pool_end sizes in
      let m = plan.sizes.components.1 in
      let slots = plan.sizes.slots.1 in
      let lists = plan.sizes.lists in
      let pool = plan.sizes.pool.1 in
      omega (arith, within, same, m, slots, lists, pool)

-- after the claim of its slot a scan has claimed all
pub slot_taken : (s : CoreState) (at slot : ℕ) → has_claimed (advance (begin_joining s at) slot) ≡ true
slot_taken s at slot = by (nat_lt slot s.sizes.slots)
  where
    by : (b : Bool) → has_claimed (after_joining (record (begin_joining s at) { join = record { sizes = s.sizes; announcement = at; stage = (if b then Storing slot else Spent) } }) (if b then Storing slot else Spent)) ≡ true
    by true = refl
    by false = refl

-- whether a claim of the pool, or of a slot, is over
pub pool_over : (e : Plan) (n a : ℕ) → over_by e (Add (pool_counter e.sizes) n) a ≡ nat_lt e.limit (a + n)
pool_over e n a =
    ap (λ (b : Bool). (b && nat_lt e.limit (a + n)) || ((pool_counter e.sizes == slot_counter e.sizes) && nat_lt (slot_limit e) (a + n))) (eq-eqb (pool_counter e.sizes) (pool_counter e.sizes) refl)
    ∙ ap (λ (b : Bool). nat_lt e.limit (a + n) || (b && nat_lt (slot_limit e) (a + n))) (ne_eqb (pool_counter e.sizes) (slot_counter e.sizes) (λ bad. omega (arith, bad)))
    ∙ or_none (nat_lt e.limit (a + n))
  where
    or_none : (b : Bool) → (b || false) ≡ b
    or_none true = refl
    or_none false = refl

pub slot_over : (e : Plan) (w a : ℕ) → w ≡ slot_counter e.sizes → over_by e (Add w 1) a ≡ nat_lt (slot_limit e) (a + 1)
slot_over e w a is =
    ap (λ (b : Bool). (b && nat_lt e.limit (a + 1)) || ((w == slot_counter e.sizes) && nat_lt (slot_limit e) (a + 1))) (ne_eqb w (pool_counter e.sizes) (λ bad. omega (arith, bad, is)))
    ∙ ap (λ (b : Bool). b && nat_lt (slot_limit e) (a + 1)) (eq-eqb w (slot_counter e.sizes) is)

-- Whether the port is over once its scan has ended: after its first step it was as the claim of the pool says, and then as that of the slot says.
pub scan_over : (table : TableId) (about : About) (s u v w t : Stand) (core : CoreState) (which : List ℕ) (at slot : ℕ) → IsHeld table about s → ScanBegun (scan_asked core which) (length which) s at u →
    machine_at u ≡ at_stage (scan_asked core which) (StoringAnnouncement at 0) → ComesTo u v → machine_at v ≡ begin_joining (scan_asked core which) at →
    (port_at w).port.over ≡ ((port_at v).port.over || nat_lt (slot_limit (plan_of about)) (slot + 1)) → machine_at w ≡ advance (machine_at v) slot → ComesTo w t →
    (port_at t).port.over ≡ (nat_lt about.limit (at + announcement_size (length which)) || nat_lt (about.sizes.slots - about.ports) (slot + 1))
scan_over table about s u v w t core which at slot h begun stored first joining claimed led last =
    let same : (port_at v).port.over ≡ (port_at u).port.over =
    ((first.waits (ap (λ (c : CoreState). before_claim c.stage) stored)).1 (ap awaits joining)).1 in
    let over : (port_at u).port.over ≡ nat_lt about.limit (at + announcement_size (length which)) =
    begun.over ∙ pool_over (plan_of (port_at s).about) (announcement_size (length which)) at ∙ ap (λ (a : About). nat_lt a.limit (at + announcement_size (length which))) h.own in
    let taken : has_claimed (machine_at w) ≡ true = ap has_claimed (led ∙ ap (λ (c : CoreState). advance c slot) joining) ∙ slot_taken (scan_asked core which) at slot in
    (last.over taken).1 ∙ claimed ∙ ap (λ (b : Bool). b || nat_lt (slot_limit (plan_of about)) (slot + 1)) (same ∙ over)

-- a scan is noted at a place that it has seen
saw_at : (collects : ℕ) (borrowed : Option ℕ) (n : Note) (seen : ℕ) → IsPlacedAt (Reply.Scanned collects borrowed) n seen → (k : ℕ) × (n ≡ Note.Saw k) × (k ≤ seen)
saw_at collects borrowed (Note.Saw k) seen based_step = (k, refl, based_step)
saw_at collects borrowed (Note.Wrote k) seen based_step = absurd based_step
saw_at collects borrowed (Note.Lost k) seen based_step = absurd based_step

-- The scan that the machine b began at the stand s, whose first step led to the stand u, has its reply at the stand t.
module _ (table : TableId) (about : About) (s u t : Stand) (h : IsHeld table about s) (idle : IsIdle s) (core : CoreState) (which : List ℕ) (begins : MayBegin (scan_asked core which) (port_at s))
    (a : ℕ) (begun : ScanBegun (scan_asked core which) (length which) s a u) (leads : ComesTo u t) (collects : ℕ) (borrowed : Option ℕ)
    (replies : reply_of (machine_at t) ≡ Some (Reply.Scanned collects borrowed)) where
  abbrev x : SeatedPort
  x = port_at s

  abbrev y : SeatedPort
  y = port_at t

  abbrev b : CoreState
  b = scan_asked core which

  -- all in all it has made no more steps than a scan
  pub scan_steps : u.seat.steps ≤ s.seat.steps + 1 → t.seat.steps ≤ s.seat.steps + most_of_scan about.sizes (length which)
  scan_steps one =
      let fewer = seat_fewer b a begins.layout (answers_lead_on b a begins.layout begins.sound begun.possible).fewer in
      let machine = ap seat_steps_left begun.machine in
      let later = leads.steps in
      let left : seat_steps_left b ≡ most_of_scan b.sizes (length which) = omega arith in
      subst (λ (z : Layout). t.seat.steps ≤ s.seat.steps + most_of_scan z (length which)) (begins.sizes ∙ ap (λ (o : About). o.sizes) h.own) (omega (arith, one, fewer, machine, later, left))

  call_over : CallMade b x (machine_at t) y
  call_over = leads.call b x begins begun.made

  note_of : IsNoteOf (opening_of x) y.port.part (Reply.Scanned collects borrowed) call_over.made.new
  note_of = subst (λ (r : Option Reply). AreNotesOf (opening_of x) y.port.part r call_over.made.new) replies call_over.made.noted

  saw : (k : ℕ) × (note_of.note ≡ Note.Saw k) × (k ≤ length y.port.part.seen)
  saw = saw_at collects borrowed note_of.note (length y.port.part.seen) note_of.placed

  call_is : note_of.call ≡ Call.Scan which
  call_is = let same : Some note_of.call ≡ Some (Call.Scan which) = sym note_of.made ∙ ap call_of call_over.made.begun in cc

  before_same : y.port.before ≡ x.port.before
  before_same = call_over.before

  began_same : y.began ≡ x.began
  began_same = leads.began ∙ begun.began

  epoch_same : t.epoch ≡ s.epoch
  epoch_same = leads.epoch ∙ begun.kept.epoch

  epochs_before : length x.port.before ≡ t.epoch
  epochs_before = h.known.epoch ∙ sym h.epoch ∙ sym epoch_same

  module _ (values : List ℕ) (rows : RowsState) (is_values : values ≡ map (slice_index rows.values) which) (asked : (machine_at t).asked ≡ which) (rows_are : rows ≡ (machine_at t).rows) where
    values_are : values ≡ scanned_values (machine_at t)
    values_are = is_values ∙ ap (λ (r : RowsState). map (slice_index r.values) which) rows_are ∙ ap (map (slice_index (machine_at t).rows.values)) (sym asked)

    new_is : call_over.made.new ≡ record { call = Call.Scan which; answer = Answer.Scanned values collects borrowed; note = Some (Note.Saw saw.0) } ∷ []
    new_is = note_of.is
        ∙ ap (λ (c : Call). record { call = c; answer = Answer.Scanned (scanned_values (machine_at t)) collects borrowed; note = Some note_of.note } ∷ []) call_is
        ∙ ap (λ (n : Note). record { call = Call.Scan which; answer = Answer.Scanned (scanned_values (machine_at t)) collects borrowed; note = Some n } ∷ []) saw.1
        ∙ ap (λ (v : List ℕ). record { call = Call.Scan which; answer = Answer.Scanned v collects borrowed; note = Some (Note.Saw saw.0) } ∷ []) (sym values_are)

    notes_are : y.notes ≡ x.notes ++ noted_scan t.epoch which values collects borrowed (length (history_of x.port.before) + saw.0) ∷ []
    notes_are = call_over.notes ∙ ap (λ (l : List Noted). x.notes ++ map (public_noted (plan_of x.about) x.port.before) l) new_is
        ∙ ap (λ e. x.notes ++ noted_scan e which values collects borrowed (length (history_of x.port.before) + saw.0) ∷ []) epochs_before

    -- the port has scanned
    pub scan_made : x.began.epoch ≤ s.epoch → ScanMade s t which values collects borrowed
    scan_made young = record {
      shape = leads.shape ∙ begun.kept.shape;
      number = leads.number ∙ begun.kept.number;
      epoch = epoch_same;
      goes = call_over.goes;
      idle = record { stands = ap (λ (c : Control). c.entering) call_over.control ∙ idle.stands; free = ap (λ (c : Control). c.owned) call_over.control ∙ idle.free };
      began = began_same;
      place = length (history_of x.port.before) + saw.0;
      notes = notes_are;
      behind =
          let began = ap (λ (g : Began). g.epoch) began_same in
          let here = ap (λ (c : Control). c.here.epoch) call_over.control in
          let epoch = h.epoch in
          let early = call_over.time (omega (arith, young, began, here, epoch)) in
          let behind = note_of.behind in
          let place = ap place_of saw.1 in
          let before = ap (λ (l : List (List Applied)). length (history_of l)) before_same in
          omega (arith, early, behind, place, before);
      within =
          let few = saw.2 in
          let before = ap (λ (l : List (List Applied)). length (history_of l)) before_same in
          let all = length-append (history_of y.port.before) (public_log (length y.port.before) y.port.part.seen) in
          let len = length-map y.port.part.seen (public_entry (length y.port.before)) in
          omega (arith, few, before, all, len);
    }

    -- and unless it has taken a view, the words that it loaded last name the stamps at its place
    pub scan_named : x.began.epoch ≤ s.epoch → MadeNamed s t which values collects borrowed rows.last
    unfolding scan_made
    scan_named young = record { made = scan_made young; stamps = λ none. names none }
      where
        opening_same : opening_of x ≡ opening_of y
        opening_same = ap (λ (a : About). opened_after a.opening x.port.before) (sym call_over.goes.about) ∙ ap (opened_after y.about.opening) (sym before_same)

        collected : borrowed ≡ None → (k : ℕ) → k < length which → slice_index rows.last k ≡ stamp_of (opening_of y) (take saw.0 y.port.part.seen) (slice_index which k)
        collected none k low =
            let finds : CollectsStamps (opening_of x) y.port.part (Reply.Scanned collects borrowed) (Note.Saw saw.0) =
            subst (CollectsStamps (opening_of x) y.port.part (Reply.Scanned collects borrowed)) saw.1 note_of.stamps in
            let own : AreStamps (opening_of x) (take saw.0 y.port.part.seen) which rows.last =
            subst (λ (l : List ℕ). AreStamps (opening_of x) (take saw.0 y.port.part.seen) which l) (sym (ap (λ (r : RowsState). r.last) rows_are))
            (subst (λ (js : List ℕ). AreStamps (opening_of x) (take saw.0 y.port.part.seen) js (machine_at t).rows.last) asked (finds none)) in
            own k low ∙ ap (λ (o : Opening). stamp_of o (take saw.0 y.port.part.seen) (slice_index which k)) opening_same

        names : borrowed ≡ None → NameStamps y (length (history_of x.port.before) + saw.0) which rows.last
        names none k low =
            let j = slice_index which k in
            let known = call_over.goes.known in
            let each = begins.sound.asked.each k low in
            let sizes = ap (λ (z : Layout). z.m) begins.sizes in
            let about = ap (λ (a : About). a.sizes.m) call_over.goes.about in
            let inside : j < y.about.sizes.m = omega (arith, each, sizes, about) in
            let is = collected none k low in
            let small : slice_index rows.last k < stamp_limit = subst (λ n. n < stamp_limit) (sym is) (stamp_small y known saw.0 j inside) in
            let bare : unsealed (slice_index rows.last k) ≡ slice_index rows.last k = unsealed_same (slice_index rows.last k) small in (
              subst (λ n. n < stamp_limit) (sym bare) small,
              ap (public_of (plan_of y.about) y.port.before j) (bare ∙ is)
                  ∙ stamp_public (plan_of y.about) known.plan y.port.before y.port.part.seen known.own.above saw.0 j inside
                  ∙ ap (λ n. stamp_at y (n + saw.0) j) (ap (λ (l : List (List Applied)). length (history_of l)) before_same),
            )

  -- its machine is at rest, and has no mark
  pub scan_rests : (last : CoreState) → RestsUnmarked x core → RestsLike (machine_at t) last → RestsUnmarked y last
  scan_rests last rests end =
      let like = end.like in
      let made = call_over.made in
      let marks = marks_stay b (machine_at t) _ begins.layout begins.sound made.run call_over.unrefused in
      record {
        between = record {
          rest = made.rests ∙ ap is_some replies;
          like = like;
          idle = end.idle;
          sound = end.sound;
        };
        sizes = like.sizes ∙ made.sizes ∙ sym (ap (λ (o : About). o.sizes) call_over.goes.about);
        port = like.port ∙ made.number ∙ ap (λ (c : CoreState). c.port) made.begun ∙ rests.port ∙ sym call_over.goes.number;
        pool = like.pool ∙ marks.0 ∙ rests.pool;
        slots = like.slots ∙ marks.1 ∙ rests.slots;
        kept = λ free.
            let low = call_over.kept free in
            let same = ap (λ (b : Block). b.at + b.size) like.spare in
            let limit = ap (λ (o : About). o.limit) call_over.goes.about in
            omega (arith, low, same, limit);
      }

-- a scan in an epoch to which the port came as the scan began
pub has_scanned : (s u t : Stand) (which values : List ℕ) (collects : ℕ) (borrowed : Option ℕ) → EpochSettled true s u → ScanMade u t which values collects borrowed →
    HasNotedScan s t which values collects borrowed
has_scanned s u t which values collects borrowed settled made = record {
  shape = made.shape ∙ settled.come.shape;
  number = made.number ∙ settled.come.number;
  later =
      let same = made.epoch in
      (elim settled.come.machine [
        | inl here ↦ let is = here.0 in omega (arith, same, is)
        | inr later ↦ let up = later.0 in omega (arith, same, up)
      ]);
  goes = goes_on (port_at s) (port_at u) (port_at t) settled.come.goes made.goes;
  idle = made.idle;
  place = made.place;
  notes = made.notes ∙ ap (λ (l : List Noted). l ++ noted_scan t.epoch which values collects borrowed made.place ∷ []) settled.notes;
  first = let few = settled.began in let same = ap (λ (g : Began). g.length) made.began in omega (arith, few, same);
  behind = made.behind;
  within = made.within;
}

-- and the words that it has collected last name the stamps at its place
pub has_named : (s u t : Stand) (which values : List ℕ) (collects : ℕ) (borrowed : Option ℕ) (ws : List ℕ) → EpochSettled true s u → MadeNamed u t which values collects borrowed ws →
    ScannedNamed s t which values collects borrowed ws
unfolding has_scanned
has_named s u t which values collects borrowed ws settled named = record { scanned = has_scanned s u t which values collects borrowed settled named.made; stamps = named.stamps }
