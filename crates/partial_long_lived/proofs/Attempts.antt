-- An attempt of an update in the epoch where a port stands.
use Rattle.partial_long_lived.proofs.{Common.{Opening, ℕ, ◌≡◌, ◌≢◌, ◌+◌, ◌<◌, ◌≤◌, ◌==◌, ◌++◌, Bool, true, false, if◌then◌else◌, Option, None, Some, Ok, List, [], ◌∷◌, length, map, refl, sym, ap, subst, ◌∙◌, inl, inr, arith, option_map_or, nat_lt, is_some, lt-ltb, eqb_tells, length-map, TableId, Applied, Call, Answer, Note, stamp_of, Noted, place_of, Load, Exchange, IsLayout, Layout, pool_end, Change, Reply, Stage, Exchanging, Finished, UpdateBegun, ScanBegun, CoreState, advance_at, answers_lead_on, at_stage, begin_getting, seat_left_at, most_of_update, seat_steps_left, lists_spent, overtaken_reply, reply_of, step_at, step_of, answer_for, call_of, update_call, IsRecord, IsSound, is_sound_at, Part, AreNotesOf, IsNoteOf, IsPlacedAt, Exchanged, RestsLike, update_reply, Plan, seal, unsealed, history_of, public_entry, public_log, stamp_limit, public_noted, Control, About, Shape, Stand, Began, SeatedPort, plan_of, seen_in, SeatGoes, BeganBy, IsHeld, port_at, IsIdle, StaysAt, opening_of, SeatMakes, MissesSeal, unsealed_answer, RestsUnmarked, CallMade, record_claim, IsGoing, ComesTo, MayBegin, machine_at, UpdateAttempted, ExchangeDue, ExpectsOne, IsEntryOf, IsOwnMachine, NotesNothing, PortStayed, noted_where, word_from, ◌||◌, IfSome, take, length-append, IsPossibleAt, SeatBegins, FoundSealed, Block, claimed_end}, Coming.goes_on, Under.{first_made, next_made, notes_same}, Zeros.seat_fewer}
use Rattle.std.proofs.Math.Bool.{or-false}
use Rattle.partial_lines.specs.declared.exchange.Exchanged.TheVariants.{Applied as IsApplied, Overtaken}

-- a machine without marks may begin an update of a component
pub update_begins : (table : TableId) (about : About) (s : Stand) (core : CoreState) (d : Change) → IsHeld table about s → IsIdle s → RestsUnmarked (port_at s) core → (port_at s).port.over ≡ false →
    d.component < about.sizes.m → ExpectsOne (port_at s) d → MayBegin (at_stage core (UpdateBegun d)) (port_at s)
update_begins table about s core d h idle rests spare inside one =
    let between = rests.between in
    let like = between.like in
    let old = between.sound in
    let sizes = rests.sizes ∙ ap (λ (a : About). a.sizes) h.own in
    let sound : IsSound (at_stage core (UpdateBegun d)) = record {
      asked = old.asked;
      found = old.found;
      indices = old.indices;
      distinct = old.distinct;
      rows = old.rows;
      ahead = old.ahead;
      spare = old.spare;
      stage = (subst (λ (z : Layout). d.component < z.m) (sym sizes) inside, rests.pool);
    } in
    record {
      stands = idle.stands;
      begun = record { begun = refl; rest = between.rest; like = record { sizes = like.sizes; port = like.port; pool = like.pool; slots = like.slots; lists = like.lists; spare = like.spare }; sound = sound };
      sound = sound;
      layout = subst IsLayout (sym rests.sizes) h.known.plan.sizes;
      sizes = rests.sizes;
      spare = spare;
      kept = rests.kept spare;
      scan = λ _ is. (let bad : UpdateBegun d ≡ ScanBegun = is in absurd cc);
      unmarked = (rests.pool, rests.slots);
      expects = λ j t v is. by d.expected j t v one is;
    }
  where
    by : (e : Option ℕ) (j t v : ℕ) → IfSome e (λ at. (n : ℕ) × (n ≤ length (port_at s).port.part.seen) × (at ≡ stamp_of (opening_of (port_at s)) (take n (port_at s).port.part.seen) d.component)) →
        Some (update_call d.component e d.value) ≡ Some (Call.UpdateIf j t v) → (n : ℕ) × (n ≤ length (port_at s).port.part.seen) × (t ≡ stamp_of (opening_of (port_at s)) (take n (port_at s).port.part.seen) j)
    by None j t v one is = (let bad : Some (Call.Update d.component d.value) ≡ Some (Call.UpdateIf j t v) = is in cc)
    by (Some at) j t v one is =
        let same : Call.UpdateIf d.component at d.value ≡ Call.UpdateIf j t v = (let all : Some (Call.UpdateIf d.component at d.value) ≡ Some (Call.UpdateIf j t v) = is in cc) in
        (one.0, one.1, (let stamp : at ≡ t = cc in let component : d.component ≡ j = cc in sym stamp ∙ one.2 ∙ ap (stamp_of (opening_of (port_at s)) (take one.0 (port_at s).port.part.seen)) component))

-- the reply to an update that expects that much
abbrev reply_as : Option ℕ → Exchanged → Reply
reply_as e (IsApplied stamp) = Reply.Applied stamp
reply_as e (Overtaken by) = option_map_or (λ _. Reply.Changed by) e (Reply.Lost by)

reply_is : (d : Change) (r : Exchanged) → update_reply d (Ok r) ≡ reply_as d.expected r
reply_is d (IsApplied stamp) = refl
reply_is d (Overtaken by) = refl

-- the word of its record
word_is : (r : Exchanged) (c : Bool) (at found : ℕ) → ((d : Change) → update_reply d (Ok r) ≡ (if c then Reply.Applied at else overtaken_reply d found)) → word_from r ≡ (if c then at else found)
word_is (IsApplied stamp) true at found ends = let is = ends (record { component = 0; expected = None; value = 0 }) in cc
word_is (IsApplied stamp) false at found ends = let is : Reply.Applied stamp ≡ Reply.Lost found = ends (record { component = 0; expected = None; value = 0 }) in cc
word_is (Overtaken by) true at found ends = let is : Reply.Lost by ≡ Reply.Applied at = ends (record { component = 0; expected = None; value = 0 }) in cc
word_is (Overtaken by) false at found ends = let is : Reply.Lost by ≡ Reply.Lost found = ends (record { component = 0; expected = None; value = 0 }) in cc

-- a word of the pool is a small number
pool_small : (z : Layout) (n : ℕ) → IsLayout z → n ≤ pool_end z → n < stamp_limit
pool_small z n w low =
    let m = w.components.1 in
    let slots = w.slots.1 in
    let lists = w.lists in
    let pool = w.pool.1 in
    omega (arith, low, m, slots, lists, pool)

-- what is noted of an update that ended so, and where its entry lies
module _ (x : SeatedPort) (d : Change) where
  abbrev before : List (List Applied)
  before = x.port.before

  -- as the port notes it over all epochs
  abbrev as_public : Option ℕ → Answer → Note → Noted
  as_public e a n = public_noted (plan_of x.about) before (record { call = update_call d.component e d.value; answer = a; note = Some n })

  -- where its entry lies, and that its note is the public one
  abbrev NotedAt : Option ℕ → CoreState → Exchanged → Note → ℕ → Type 0
  NotedAt e c r n seen = (k : ℕ) × IsEntryOf e r k seen × (place_of n ≡ k) × (as_public e (answer_for c (reply_as e r)) n ≡ noted_where x e d r (length (history_of before) + k))

  noted_as : (e : Option ℕ) (c : CoreState) (r : Exchanged) (n : Note) (seen : ℕ) → IsPlacedAt (reply_as e r) n seen → NotedAt e c r n seen
  noted_as None c (IsApplied stamp) (Note.Wrote k) seen placed = (k, placed, refl, refl)
  noted_as (Some at) c (IsApplied stamp) (Note.Wrote k) seen placed = (k, placed, refl, refl)
  noted_as None c (Overtaken by) (Note.Lost k) seen placed = (k, placed, refl, refl)
  noted_as (Some at) c (Overtaken by) (Note.Saw k) seen placed = (k, placed, refl, refl)
  noted_as None c (IsApplied stamp) (Note.Lost k) seen placed = absurd placed
  noted_as None c (IsApplied stamp) (Note.Saw k) seen placed = absurd placed
  noted_as (Some at) c (IsApplied stamp) (Note.Lost k) seen placed = absurd placed
  noted_as (Some at) c (IsApplied stamp) (Note.Saw k) seen placed = absurd placed
  noted_as None c (Overtaken by) (Note.Wrote k) seen placed = absurd placed
  noted_as None c (Overtaken by) (Note.Saw k) seen placed = absurd placed
  noted_as (Some at) c (Overtaken by) (Note.Wrote k) seen placed = absurd placed
  noted_as (Some at) c (Overtaken by) (Note.Lost k) seen placed = absurd placed

-- the entry lies in the one history after the epochs before
entry_in : (e : Option ℕ) (r : Exchanged) (n k seen all : ℕ) → IsEntryOf e r k seen → all ≡ n + seen → IsEntryOf e r (n + k) all
entry_in None (IsApplied stamp) n k seen all is same = omega (arith, is, same)
entry_in (Some at) (IsApplied stamp) n k seen all is same = omega (arith, is, same)
entry_in None (Overtaken by) n k seen all is same = omega (arith, is, same)
entry_in (Some at) (Overtaken by) n k seen all is same = omega (arith, is, same)

-- an update that has ended is noted
note_case : (o : Opening) (y : Part) (new : List Noted) (e : Option ℕ) (r : Exchanged) → AreNotesOf o y (Some (reply_as e r)) new → IsNoteOf o y (reply_as e r) new
note_case o y new None (IsApplied stamp) w = w
note_case o y new (Some at) (IsApplied stamp) w = w
note_case o y new None (Overtaken by) w = w
note_case o y new (Some at) (Overtaken by) w = w

-- The update of a port that stands at s, whose first step led to the stand u.
module _ (table : TableId) (about : About) (s : Stand) (h : IsHeld table about s) (idle : IsIdle s) (core : CoreState) (d : Change) (begins : MayBegin (at_stage core (UpdateBegun d)) (port_at s))
    (first : Bool) (u : Stand) (held : IsHeld table about u) (kept : StaysAt s u) (old : ℕ) (begun : SeatBegins first (at_stage core (UpdateBegun d)) d.component (port_at s) old (port_at u)) (less : old < seal) where
  abbrev b : CoreState
  b = at_stage core (UpdateBegun d)

  makes : SeatMakes first b (Load d.component) (port_at s) old (port_at u) × ((port_at u).began.epoch ≤ (port_at s).port.control.here.epoch)
  makes = elim begun [
    | inl met ↦ let from = met.0 in absurd (omega (arith, from, less))
    | inr m ↦ (m.1, m.2)
  ]

  made : CallMade b (port_at s) (machine_at u) (port_at u)
  made = subst (λ (c : CoreState). CallMade b (port_at s) c (port_at u)) makes.0.told.machine.is
      (first_made b (port_at s) begins first (Load d.component) refl old (port_at u) kept.goes makes.0)

  -- after its first step the seat has fewer steps left than an update may make
  steps_after : seat_steps_left (machine_at u) + 1 ≤ most_of_update about.sizes
  steps_after =
      let fewer = seat_fewer b old begins.layout (answers_lead_on b old begins.layout begins.sound makes.0.told.possible).fewer in
      let machine = ap seat_steps_left makes.0.told.machine.is in
      let left : seat_steps_left b ≡ most_of_update b.sizes = omega arith in
      subst (λ (z : Layout). seat_steps_left (machine_at u) + 1 ≤ most_of_update z) (begins.sizes ∙ ap (λ (a : About). a.sizes) h.own) (omega (arith, fewer, machine, left))

  pub attempt_going : IsGoing table about u
  attempt_going = record { held = held; under = (b, port_at s, begins, made) }

  -- where the call stands at t, in the call that its first step began
  module _ (t : Stand) (here : StaysAt s t) (began : (port_at t).began ≡ makes.0.n) where
    stayed_as : (port_at t).port.control ≡ (port_at s).port.control → PortStayed first s t
    stayed_as control = record {
      kept = here;
      idle = record { stands = ap (λ (c : Control). c.entering) control ∙ idle.stands; free = ap (λ (c : Control). c.owned) control ∙ idle.free };
      began = subst (BeganBy first (port_at s)) (sym began) makes.0.began;
    }

    -- and has ended
    module _ (over : CallMade b (port_at s) (machine_at t) (port_at t)) (r : Exchanged) (replies : reply_of (machine_at t) ≡ Some (reply_as d.expected r)) where
      abbrev x : SeatedPort
      x = port_at s

      abbrev y : SeatedPort
      y = port_at t

      note_of : IsNoteOf (opening_of x) y.port.part (reply_as d.expected r) over.made.new
      note_of = note_case (opening_of x) y.port.part over.made.new d.expected r (subst (λ (q : Option Reply). AreNotesOf (opening_of x) y.port.part q over.made.new) replies over.made.noted)

      call_is : note_of.call ≡ update_call d.component d.expected d.value
      call_is =
          let same : Some note_of.call ≡ Some (update_call d.component d.expected d.value) = sym note_of.made ∙ ap call_of over.made.begun in
          cc

      noted : NotedAt x d d.expected (machine_at t) r note_of.note (length y.port.part.seen)
      noted = noted_as x d d.expected (machine_at t) r note_of.note (length y.port.part.seen) note_of.placed

      new_is : over.made.new ≡ record { call = update_call d.component d.expected d.value; answer = answer_for (machine_at t) (reply_as d.expected r); note = Some note_of.note } ∷ []
      new_is = note_of.is ∙ ap (λ (c : Call). record { call = c; answer = answer_for (machine_at t) (reply_as d.expected r); note = Some note_of.note } ∷ []) call_is

      before_same : length (history_of y.port.before) ≡ length (history_of x.port.before)
      before_same = ap (λ (l : List (List Applied)). length (history_of l)) over.before

      -- the port's memory and its epochs before are the same
      noted_same : (e : Option ℕ) (k : ℕ) → noted_where x e d r k ≡ noted_where y e d r k
      noted_same e k = ap (λ (a : About). noted_where (record x { about = a }) e d r k) (sym over.goes.about)
          ∙ ap (λ (l : List (List Applied)). noted_where (record x { about = y.about; port = record x.port { before = l } }) e d r k) (sym over.before)
          ∙ at_before e r
        where
          at_before : (e : Option ℕ) (r : Exchanged) → noted_where (record x { about = y.about; port = record x.port { before = y.port.before } }) e d r k ≡ noted_where y e d r k
          at_before None r = refl
          at_before (Some at) (IsApplied stamp) = refl
          at_before (Some at) (Overtaken by) = refl

      ended_as : word_from r < stamp_limit → UpdateAttempted first d r s t
      ended_as small = record {
        stayed = stayed_as over.control;
        place = length (history_of x.port.before) + noted.0;
        notes = over.notes ∙ ap (λ (l : List Noted). x.notes ++ map (public_noted (plan_of x.about) x.port.before) l) new_is ∙ ap (λ (n : Noted). x.notes ++ n ∷ []) noted.3
            ∙ ap (λ n. x.notes ++ n ∷ []) (noted_same d.expected (length (history_of x.port.before) + noted.0));
        behind =
            let young = makes.1 in
            let early_epoch = ap (λ (g : Began). g.epoch) (began ∙ sym (ap (λ (z : SeatedPort). z.began) makes.0.is)) in
            let here_epoch = ap (λ (c : Control). c.here.epoch) over.control in
            let early = over.time (omega (arith, young, early_epoch, here_epoch)) in
            let late = note_of.behind in
            let place = noted.2 in
            let before = before_same in
            omega (arith, early, late, place, before);
        within =
            let before = before_same in
            let all = length-append (history_of y.port.before) (public_log (length y.port.before) y.port.part.seen) in
            let len = length-map y.port.part.seen (public_entry (length y.port.before)) in
            entry_in d.expected r (length (history_of x.port.before)) noted.0 (length y.port.part.seen) (length (seen_in y.port)) noted.1 (omega (arith, before, all, len));
        before = over.before;
        small = small;
      }

      -- the port's machine is at rest, and has no mark
      ended_between : (last : CoreState) → RestsUnmarked x core → RestsLike (machine_at t) last → RestsUnmarked y last
      ended_between last rests end =
          let like = end.like in
          record {
            between = record {
              rest = over.made.rests ∙ ap is_some replies;
              like = like;
              idle = end.idle;
              sound = end.sound;
            };
            sizes = like.sizes ∙ over.made.sizes ∙ sym (ap (λ (o : About). o.sizes) over.goes.about);
            port = like.port ∙ over.made.number ∙ ap (λ (c : CoreState). c.port) over.made.begun ∙ rests.port ∙ sym over.goes.number;
            pool = like.pool ∙ over.unmarked.0;
            slots = like.slots ∙ over.unmarked.1;
            kept = λ free.
                let low = over.kept free in
                let same = ap (λ (b : Block). b.at + b.size) like.spare in
                let limit = ap (λ (o : About). o.limit) over.goes.about in
                omega (arith, low, same, limit);
          }

  -- The update has found another record than the one that it expects, and has ended with its first step.
  module _ (e : ℕ) (expected : d.expected ≡ Some e) (other : e ≢ old) where
    unequal : (e == old) ≡ false
    unequal = elim (eqb_tells e old) [
      | inl same ↦ absurd (other same.1)
      | inr ne ↦ ne.0
    ]

    began_first : (port_at u).began ≡ makes.0.n
    began_first = ap (λ (z : SeatedPort). z.began) makes.0.is

    machine_first : machine_at u ≡ at_stage b (Finished (Reply.Changed old))
    machine_first = sym makes.0.told.machine.is
        ∙ ap (λ (q : Option ℕ). if option_map_or (λ e. e == old) q true then begin_getting b d old else at_stage b (Finished (Reply.Changed old))) expected
        ∙ ap (λ c. if c then begin_getting b d old else at_stage b (Finished (Reply.Changed old))) unequal

    replies_first : reply_of (machine_at u) ≡ Some (reply_as d.expected (Overtaken old))
    replies_first = ap reply_of machine_first ∙ ap (λ q. Some (option_map_or (λ _. Reply.Changed old) q (Reply.Lost old))) (sym expected)

    pub first_ends : UpdateAttempted first d (Overtaken old) s u
    first_ends =
        let record_is : IsRecord b.sizes old = makes.0.told.possible in
        let low = record_is.1 in
        ended_as u kept began_first made (Overtaken old) replies_first (pool_small b.sizes old begins.layout (omega (arith, low)))

    pub first_between : RestsUnmarked (port_at s) core → RestsUnmarked (port_at u) core
    first_between rests =
        let like = rests.between.like in
        ended_between u kept began_first made (Overtaken old) replies_first core rests (record {
          like = record {
            sizes = sym (ap (λ (c : CoreState). c.sizes) machine_first);
            port = sym (ap (λ (c : CoreState). c.port) machine_first);
            pool = sym (ap (λ (c : CoreState). c.pool_spent) machine_first);
            slots = sym (ap (λ (c : CoreState). c.slots_spent) machine_first);
            lists = sym (ap (λ (c : CoreState). lists_spent c) machine_first);
            spare = sym (ap (λ (c : CoreState). c.spare) machine_first);
          };
          ahead = sym (ap (λ (c : CoreState). c.ahead) machine_first);
          idle = rests.between.idle;
          sound = rests.between.sound;
        })

    -- it has made no claim
    pub first_spares : (port_at u).port.over ≡ false
    first_spares = ap (λ (z : SeatedPort). z.port.over) makes.0.is ∙ ap (λ t. t || false) begins.spare

  -- its steps up to the exchange of the component led to the stand v, and the exchange to the stand t
  module _ (v : Stand) (leads : ComesTo u v) (at found : ℕ) (stage : (machine_at v).stage ≡ Exchanging d old at) (t : Stand) (kept_last : StaysAt v t) where
    -- all in all it has made no more steps than an update
    pub attempt_steps : u.seat.steps ≤ s.seat.steps + 1 → t.seat.steps ≤ v.seat.steps + 1 → t.seat.steps ≤ s.seat.steps + most_of_update about.sizes
    attempt_steps one last =
        let later = leads.steps in
        let few = steps_after in
        let left : seat_steps_left (machine_at v) ≡ 1 = ap (seat_left_at (machine_at v)) stage in
        omega (arith, one, last, later, few, left)

    over_call : CallMade b (port_at s) (machine_at v) (port_at v)
    over_call = leads.call b (port_at s) begins made

    due : step_of (machine_at v) ≡ Some (Exchange d.component old at)
    due = ap (step_at (machine_at v)) stage

    kept_all : SeatGoes (port_at s) (port_at t) → StaysAt s t
    kept_all goes = record {
      shape = kept_last.shape ∙ leads.shape ∙ kept.shape;
      number = kept_last.number ∙ leads.number ∙ kept.number;
      epoch = kept_last.epoch ∙ leads.epoch ∙ kept.epoch;
      arena = kept_last.arena ∙ leads.arena ∙ kept.arena;
      base = kept_last.base ∙ leads.base ∙ kept.base;
      passed = kept_last.passed ∙ leads.passed ∙ kept.passed;
      goes = goes;
    }

    began_then : (port_at v).began ≡ makes.0.n
    began_then = leads.began ∙ ap (λ (x : SeatedPort). x.began) makes.0.is

    -- the component is sealed
    pub met_seal : ExchangeDue v d old at found t → seal ≤ found → unsealed found ≡ old → NotesNothing first s t
    met_seal exchanged sealed same = elim exchanged [
      | inl met ↦ (let is = met.2 in record {
        stayed = stayed_as t (kept_all (goes_on (port_at s) (port_at v) (port_at t) over_call.goes kept_last.goes)) (ap (λ (x : SeatedPort). x.began) is ∙ began_then)
            (ap (λ (x : SeatedPort). x.port.control) is ∙ over_call.control);
        notes = ap (λ (x : SeatedPort). x.notes) is ∙ notes_same b (port_at s) begins (machine_at v) (port_at v) over_call (Exchange d.component old at) due;
      })
      | inr missed ↦ absurd (elim missed.0 [
        | inl low ↦ omega (arith, low, sealed)
        | inr other ↦ other same
      ])
    ]

    -- that is one seal more
    pub met_again : ExchangeDue v d old at found t → seal ≤ found → unsealed found ≡ old → FoundSealed s t
    met_again exchanged sealed same = elim exchanged [
      | inl met ↦ (let one = ap (λ (x : SeatedPort). x.contention.seals) met.2 in let more = over_call.goes.seals in omega (arith, one, more))
      | inr missed ↦ absurd (elim missed.0 [
        | inl low ↦ omega (arith, low, sealed)
        | inr other ↦ other same
      ])
    ]

    -- it isn't, or its record is another
    module _ (exchanged : ExchangeDue v d old at found t) (misses : MissesSeal old found) (r : Exchanged)
        (ends : (c : Change) → update_reply c (Ok r) ≡ (if unsealed found == old then Reply.Applied at else overtaken_reply c (unsealed found))) where
      inside : d.component < (port_at v).about.sizes.m
      inside = subst (λ (z : Layout). d.component < z.m) (begins.sizes ∙ ap (λ (a : About). a.sizes) (sym over_call.goes.about)) begins.sound.stage.0

      answered_is : unsealed_answer (plan_of (port_at v).about) (Exchange d.component old at) found ≡ unsealed found
      answered_is = ap (λ (c : Bool). if c then unsealed found else found) (lt-ltb d.component (port_at v).about.sizes.m inside)

      makes_last : SeatMakes false (machine_at v) (Exchange d.component old at) (port_at v) (unsealed found) (port_at t)
      makes_last = elim exchanged [
        | inl met ↦ absurd (elim misses [
          | inl low ↦ (let from = met.0 in omega (arith, low, from))
          | inr other ↦ other met.1
        ])
        | inr m ↦ subst (λ a. SeatMakes false (machine_at v) (Exchange d.component old at) (port_at v) a (port_at t)) answered_is m.1
      ]

      call_end : CallMade b (port_at s) (machine_at t) (port_at t)
      call_end = subst (λ (c : CoreState). CallMade b (port_at s) c (port_at t)) makes_last.told.machine.is
          (next_made b (port_at s) begins (machine_at v) (port_at v) over_call (Exchange d.component old at) due (unsealed found) (port_at t) kept_last.goes makes_last)

      machine_end : machine_at t ≡ advance_at (machine_at v) (Exchanging d old at) (unsealed found)
      machine_end = sym makes_last.told.machine.is ∙ ap (λ (q : Stage). advance_at (machine_at v) q (unsealed found)) stage

      replies : reply_of (machine_at t) ≡ Some (reply_as d.expected r)
      replies = ap reply_of machine_end ∙ ap (λ (q : Reply). Some q) (sym (ends d)) ∙ ap (λ (q : Reply). Some q) (reply_is d r)

      began_same : (port_at t).began ≡ makes.0.n
      began_same = ap (λ (z : SeatedPort). z.began) makes_last.is ∙ makes_last.began ∙ began_then

      sizes_then : (machine_at v).sizes ≡ b.sizes
      sizes_then = over_call.made.sizes ∙ sym begins.sizes

      small : word_from r < stamp_limit
      small =
          let sound : is_sound_at (machine_at v) (Exchanging d old at) = subst (is_sound_at (machine_at v)) stage over_call.made.sound.stage in
          let found_is : IsPossibleAt (machine_at v) (Exchanging d old at) (unsealed found) = subst (λ (q : Stage). IsPossibleAt (machine_at v) q (unsealed found)) stage makes_last.told.possible in
          let up = sound.1.1 in
          let low = found_is.1 in
          let end = ap (λ (z : Layout). pool_end z) sizes_then in
          subst (λ n. n < stamp_limit) (sym (word_is r (unsealed found == old) at (unsealed found) ends))
          (by (unsealed found == old) (pool_small b.sizes at begins.layout (omega (arith, up, end))) (pool_small b.sizes (unsealed found) begins.layout (omega (arith, low, end))))
        where
          by : (c : Bool) → at < stamp_limit → unsealed found < stamp_limit → (if c then at else unsealed found) < stamp_limit
          by true a f = a
          by false a f = f

      pub attempt_ends : UpdateAttempted first d r s t
      attempt_ends = ended_as t (kept_all call_end.goes) began_same call_end r replies small

      -- the port's machine is at rest, and has no mark
      pub attempt_between : (last : CoreState) → RestsUnmarked (port_at s) core → RestsLike (machine_at v) last → RestsUnmarked (port_at t) last
      attempt_between last rests end =
          let like = end.like in
          ended_between t (kept_all call_end.goes) began_same call_end r replies last rests (record {
            like = record {
              sizes = like.sizes ∙ sym (ap (λ (c : CoreState). c.sizes) machine_end);
              port = like.port ∙ sym (ap (λ (c : CoreState). c.port) machine_end);
              pool = like.pool ∙ sym (ap (λ (c : CoreState). c.pool_spent) machine_end);
              slots = like.slots ∙ sym (ap (λ (c : CoreState). c.slots_spent) machine_end);
              lists = like.lists ∙ sym (ap (λ (c : CoreState). lists_spent c) machine_end);
              spare = like.spare ∙ sym (ap (λ (c : CoreState). c.spare) machine_end);
            };
            ahead = end.ahead ∙ sym (ap (λ (c : CoreState). c.ahead) machine_end);
            idle = end.idle;
            sound = end.sound;
          })

      -- the port is over exactly where what it has claimed for its records ends past the limit
      pub attempt_over : (limit end : ℕ) → limit ≡ t.shape.limit → end ≡ claimed_end (machine_at v) → nat_lt limit end ≡ (port_at t).port.over
      attempt_over limit end limit_is end_is =
          let same : (port_at s).about.limit ≡ limit = ap (λ (a : About). a.limit) h.own ∙ ap (λ (e : Plan). e.limit) h.shape ∙ sym (ap (λ (z : Shape). z.limit) (kept_all call_end.goes).shape) ∙ sym limit_is in
          let kept_over : (port_at t).port.over ≡ (port_at v).port.over = ap (λ (z : SeatedPort). z.port.over) makes_last.is ∙ or-false (port_at v).port.over in
          sym (kept_over ∙ over_call.claimed at (ap record_claim stage) ∙ ap (λ n. nat_lt n (claimed_end (machine_at v))) same ∙ ap (nat_lt limit) (sym end_is))

    -- the machine that is kept is the port's
    pub attempt_rests : (last : CoreState) → RestsUnmarked (port_at s) core → RestsLike (machine_at v) last → IsOwnMachine (port_at t) last
    attempt_rests last rests end =
        let like = end.like in
        let goes = goes_on (port_at s) (port_at v) (port_at t) over_call.goes kept_last.goes in
        record {
          idle = end.idle;
          sound = end.sound;
          sizes = like.sizes ∙ over_call.made.sizes ∙ sym (ap (λ (o : About). o.sizes) goes.about);
          port = like.port ∙ over_call.made.number ∙ ap (λ (c : CoreState). c.port) over_call.made.begun ∙ rests.port ∙ sym goes.number;
        }
