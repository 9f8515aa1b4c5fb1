-- What a call that has ended leaves of its port, by its reply.
use Rattle.partial_memory.proofs.{Common.{ℕ, ◌≡◌, ◌≤◌, ◌<◌, ◌+◌, ◌++◌, ◌||◌, false, if◌then◌else◌, Option, Some, None, List, [], ◌∷◌, length, map, slice_index, refl, sym, ap, subst, ◌∙◌, arith, inr, Result, Err, IfOk, IfErr, ne_eqb, TableId, Call, Refused, Finished, ReadBegun, ScanBegun, CoreState, at_stage, reply_of, scanned_values, answer_for, begin_scan, begun_of, call_of, core_scan_refusal, core_update_refusal, IsRefusedBy, refuses_pool, refuses_slots, KeptAnswer, answers_of, core_of, AreNotesOf, IsNoteOf, IsPlacedAt, IsRefusal, made_calls_make_their_steps, Layout, IsLayout, greatest_record, pool_end, About, scan_reply, SeatedPort, one_in, CallMade, CallEnded, HasCounted, PortView, port_view, refusal, IsResting, Knows, Goes, CountsSteps, Answered, IsPastEnd, RefusedLate, IsRefused, is_pool, is_slots, Updates, UpdatesIf, Reads, Scans, Ok, Note, LegalNotes-last, Noted, LegalNotes, Reply, run_sizes, BeganAs, IsLed, IsLedToAnswer, IsLedToRefusal, IsLedWhereLate, ScanIsLed, ScansLed}, Ahead.{run_ahead, few_claimed}, Resting.{CallBegins, call_begins, read_begins, scan_begins}}
use Rattle.partial_model.specs.declared.call.Answer.{Answer}
use Rattle.partial_model.specs.Notes.{Fits as NoteFits, MayBeRefused}
use Rattle.partial_embedded.specs.Embedded.{RowsState}
use Rattle.partial_machine.specs.Steps.{Run, AreOfScan, pairs_loaded}
use Rattle.partial_lines.specs.declared.whole_scan.Scanned.{Scanned}
use Rattle.partial_memory.specs.declared.answers.{Updated.Updated, UpdatedIf.UpdatedIf}

-- a call that was answered: its note fits and has its place in what is seen now, and its answers led it there
pub record IsAnswered (p q : PortView) (c : Call) (machine : CoreState) (r : Reply) : Type 0 where
  pub note : Note
  pub led : IsLedToAnswer p q c (answer_for machine r)
  pub answered : Answered p q c (answer_for machine r) note
  pub fits : NoteFits (length q.memory.about.opening.values) c (answer_for machine r) (Some note)
  pub placed : IsPlacedAt r note (length q.seen)

pool_refused_is : (cause : Refused) → refuses_pool (Some (Reply.Refused cause)) ≡ is_pool cause
pool_refused_is Refused.Component = refl
pool_refused_is Refused.SlotsSpent = refl
pool_refused_is Refused.PoolSpent = refl

slots_refused_is : (cause : Refused) → refuses_slots (Some (Reply.Refused cause)) ≡ is_slots cause
slots_refused_is Refused.Component = refl
slots_refused_is Refused.SlotsSpent = refl
slots_refused_is Refused.PoolSpent = refl

-- the last of some kept answers
last_kept : (kept : List KeptAnswer) (front : List ℕ) (last : ℕ) → answers_of kept ≡ front ++ last ∷ [] → (f : List KeptAnswer) × (k : KeptAnswer) × (kept ≡ f ++ k ∷ []) × (k.answer ≡ last)
last_kept [] [] last e = cc
last_kept [] (y ∷ ys) last e = cc
last_kept (k ∷ []) [] last e = let same : k.answer ≡ last = cc in ([], k, refl, same)
last_kept (k ∷ j ∷ ks) [] last e = cc
last_kept (k ∷ ks) (y ∷ ys) last e =
    let rest : answers_of ks ≡ ys ++ last ∷ [] = cc in
    let more = last_kept ks ys last rest in
    (k ∷ more.0, more.1, ap (λ l. k ∷ l) more.2, more.3)

module _ (t : TableId) (before behind : ℕ) (b : CoreState) (x : SeatedPort) (c : CoreState) (y : SeatedPort) (m : CallMade b x c y) (counted : HasCounted before y behind) (call : Call) (w : CallBegins t x b call) where
  abbrev p : PortView
  p = port_view t before x

  abbrev q : PortView
  q = port_view t behind y

  knows_here : Knows q
  knows_here = subst (λ (o : About). Knows (port_view t behind (record { about = o; part = y.part }))) (sym m.about) (record {
    history = m.made.fits.history;
    legal = m.made.fits.legal;
    once = m.made.fits.once;
    others = m.others;
  })

  goes_with : (new : List Noted) → y.part.notes ≡ x.part.notes ++ new → Goes p q new
  goes_with new is = record {
    memory = ap (λ (o : About). record { table = t; about = o }) m.about;
    number = m.made.port;
    seen = m.made.seen;
    notes = is;
    knows = knows_here;
  }

  counts_here : CountsSteps p q call
  counts_here =
      let z : Layout = x.about.sizes in
      let layout : IsLayout z = subst IsLayout w.begins.sizes w.begins.layout in
      let few = (made_calls_make_their_steps z x.about.opening b x.part c y.part layout m.made).few call w.call in
      record { first = m.made.first; steps = counted; few = omega (arith, few) }

  -- the marks of the port before and after the call
  pool_before : b.pool_spent ≡ p.pool_spent
  pool_before = w.begins.begun.like.pool

  slots_before : b.slots_spent ≡ p.slots_spent
  slots_before = w.begins.begun.like.slots

  began_here : BeganAs p call b
  began_here = record {
    sizes = w.begins.sizes;
    layout = w.begins.layout;
    number = ap (λ (s : CoreState). s.port) (sym m.made.begun) ∙ m.made.port;
    pool = pool_before;
    slots = slots_before;
    ahead = w.begins.ahead;
    sound = w.begins.sound;
    call = w.call;
  }

  abbrev led_here : (r : Reply) → reply_of c ≡ Some r → IsLed p q call r
  led_here r is = record { begun = b; began = began_here; machine = c; run = m.made.run; replies = is }

  -- the claim that was refused, in numbers
  past_end : (front : List ℕ) (last : ℕ) (claims : CoreState) (cause : Refused) → Run b front claims → IsRefusedBy claims last cause → IsPastEnd x.about.sizes last cause
  past_end front last claims cause run past =
      let same : claims.sizes ≡ x.about.sizes = run_sizes b claims front w.begins.layout w.begins.sound run ∙ w.begins.sizes in by cause past
    where
      by : (d : Refused) → IsRefusedBy claims last d → IsPastEnd x.about.sizes last d
      by Refused.Component h = absurd h
      by Refused.SlotsSpent h = let here : claims.sizes ≡ x.about.sizes = run_sizes b claims front w.begins.layout w.begins.sound run ∙ w.begins.sizes in
          subst (λ (z : Layout). z.slots ≤ last) here h.past
      by Refused.PoolSpent h = let here : claims.sizes ≡ x.about.sizes = run_sizes b claims front w.begins.layout w.begins.sound run ∙ w.begins.sizes in
          subst (λ (z : Layout). (size : ℕ) × (size ≤ greatest_record z) × (pool_end z < last + size)) here
          (h.size, few_claimed claims last h (run_ahead b claims front w.begins.layout w.begins.sound run ∙ w.begins.ahead), h.past)

  pool_behind : (r : Reply) → reply_of c ≡ Some r → q.pool_spent ≡ (refuses_pool (Some r) || p.pool_spent)
  pool_behind r is = ap (λ (s : CoreState). s.pool_spent) (sym m.made.machine.is) ∙ m.pool ∙ ap (λ o. refuses_pool o || b.pool_spent) is ∙ ap (λ s. refuses_pool (Some r) || s) pool_before

  slots_behind : (r : Reply) → reply_of c ≡ Some r → q.slots_spent ≡ (refuses_slots (Some r) || p.slots_spent)
  slots_behind r is = ap (λ (s : CoreState). s.slots_spent) (sym m.made.machine.is) ∙ m.slots ∙ ap (λ o. refuses_slots o || b.slots_spent) is ∙ ap (λ s. refuses_slots (Some r) || s) slots_before

  pub refusal_led : (cause : Refused) → reply_of c ≡ Some (Reply.Refused cause) → IsLedToRefusal p q call cause
  refusal_led cause is = record { led = led_here (Reply.Refused cause) is; last = m.made.refused_by cause is }

  pub refused_with : (cause : Refused) → reply_of c ≡ Some (Reply.Refused cause) → RefusedLate p q call cause
  refused_with cause is =
      let n : IsRefusal y.part cause m.made.new = subst (λ f. AreNotesOf x.about.opening y.part f m.made.new) is m.made.noted in
      let same : Some n.call ≡ Some call = sym n.made ∙ ap call_of m.made.begun ∙ w.call in
      let one : n.call ≡ call = cc in
      let size : y.part.begun.sizes ≡ x.about.sizes = ap (λ (s : CoreState). s.sizes) m.made.begun ∙ m.made.begun_sizes in
      let last = m.made.refused_by cause is in
      let end = last_kept y.part.kept last.front last.last last.is in
      record {
        allowed = w.allowed;
        goes = goes_with [] (m.made.notes ∙ ap (λ l. x.part.notes ++ l) n.none);
        counts = counts_here;
        may = subst (λ (d : Call). MayBeRefused x.about.sizes.m d cause) one (subst (λ (z : Layout). MayBeRefused z.m n.call cause) size n.may);
        past = (end.0, end.1, end.2, subst (λ v. IsPastEnd x.about.sizes v cause) (sym end.3) (past_end last.front last.last last.claims cause last.led last.past));
        pool = pool_behind (Reply.Refused cause) is ∙ ap (λ f. f || p.pool_spent) (pool_refused_is cause);
        slots = slots_behind (Reply.Refused cause) is ∙ ap (λ f. f || p.slots_spent) (slots_refused_is cause);
      }

  pub answered_with : (r : Reply) → reply_of c ≡ Some r → refuses_pool (Some r) ≡ false → refuses_slots (Some r) ≡ false → IsNoteOf x.about.opening y.part r m.made.new → IsAnswered p q call c r
  answered_with r is plain plain' n =
      let same : Some n.call ≡ Some call = sym n.made ∙ ap call_of m.made.begun ∙ w.call in
      let one : n.call ≡ call = cc in
      let noted : Noted = record { call = call; answer = answer_for c r; note = Some n.note } in
      let new : m.made.new ≡ noted ∷ [] =
      n.is ∙ ap (λ (d : Call). record { call = d; answer = answer_for (core_of y.part) r; note = Some n.note } ∷ []) one
      ∙ ap (λ (s : CoreState). record { call = call; answer = answer_for s r; note = Some n.note } ∷ []) (sym m.made.machine.is) in
      let notes : y.part.notes ≡ x.part.notes ++ noted ∷ [] = m.made.notes ∙ ap (λ l. x.part.notes ++ l) new in
      let legal = LegalNotes-last q.memory.about.opening q.seen q.number 0 x.part.notes noted (subst (LegalNotes q.memory.about.opening q.seen q.number 0) notes knows_here.legal) in
      record {
        note = n.note;
        led = record { reply = r; led = led_here r is; answer = refl };
        answered = record {
          allowed = w.allowed;
          goes = goes_with (noted ∷ []) notes;
          counts = counts_here;
          behind = n.behind;
          within = n.within;
          pool = pool_behind r is ∙ ap (λ f. f || p.pool_spent) plain;
          slots = slots_behind r is ∙ ap (λ f. f || p.slots_spent) plain';
        };
        fits = legal.0;
        placed = n.placed;
      }

-- how an update ends, by its reply
abbrev pub UpdateTold : PortView → ℕ → ℕ → Reply → PortView → Type 0
UpdateTold p j v (Reply.Applied stamp) q = Updates p j v (Updated.Applied stamp) q × IsLedToAnswer p q (Call.Update j v) (Answer.Applied stamp)
UpdateTold p j v (Reply.Lost by) q = Updates p j v (Updated.Lost by) q × IsLedToAnswer p q (Call.Update j v) (Answer.Lost by)
UpdateTold p j v (Reply.Refused cause) q = RefusedLate p q (Call.Update j v) cause × IsLedToRefusal p q (Call.Update j v) cause
UpdateTold p j v _ q = ⊥

-- a conditional one
abbrev pub UpdateIfTold : PortView → ℕ → ℕ → ℕ → Reply → PortView → Type 0
UpdateIfTold p j x v (Reply.Applied stamp) q = UpdatesIf p j x v (UpdatedIf.Applied stamp) q × IsLedToAnswer p q (Call.UpdateIf j x v) (Answer.Applied stamp)
UpdateIfTold p j x v (Reply.Changed by) q = UpdatesIf p j x v (UpdatedIf.Changed by) q × IsLedToAnswer p q (Call.UpdateIf j x v) (Answer.Changed by)
UpdateIfTold p j x v (Reply.Refused cause) q = RefusedLate p q (Call.UpdateIf j x v) cause × IsLedToRefusal p q (Call.UpdateIf j x v) cause
UpdateIfTold p j x v _ q = ⊥

-- a read is never refused after a step
abbrev pub ReadTold : PortView → ℕ → Reply → PortView → Type 0
ReadTold p j (Reply.Read v s) q = Reads p j v s q × IsLedToAnswer p q (Call.Read j) (Answer.Read v s)
ReadTold p j _ q = ⊥

-- a scan: its values are the machine's
abbrev pub ScanTold : PortView → List ℕ → CoreState → Reply → PortView → Type 0
ScanTold p which machine (Reply.Scanned k s) q =
    ((n : ℕ) × Answered p q (Call.Scan which) (Answer.Scanned (scanned_values machine) k s) (Note.Saw n)) × ScanIsLed p which (scanned_values machine) (record { collects = k; borrowed = s }) q
ScanTold p which machine (Reply.Refused cause) q = RefusedLate p q (Call.Scan which) cause × IsLedToRefusal p q (Call.Scan which) cause
ScanTold p which machine _ q = ⊥

module _ (p q : PortView) (c : CoreState) where
  wrote_note : (j v s : ℕ) (n : Note) → Answered p q (Call.Update j v) (Answer.Applied s) n → NoteFits (length q.memory.about.opening.values) (Call.Update j v) (Answer.Applied s) (Some n) →
      IsPlacedAt (Reply.Applied s) n (length q.seen) →
      Updates p j v (Updated.Applied s) q
  wrote_note j v s (Note.Wrote k) a f e = (k, a, e)
  wrote_note j v s (Note.Saw k) a f e = absurd f
  wrote_note j v s (Note.Lost k) a f e = absurd f

  lost_note : (j v s : ℕ) (n : Note) → Answered p q (Call.Update j v) (Answer.Lost s) n → NoteFits (length q.memory.about.opening.values) (Call.Update j v) (Answer.Lost s) (Some n) →
      Updates p j v (Updated.Lost s) q
  lost_note j v s (Note.Lost k) a f = (k, a)
  lost_note j v s (Note.Saw k) a f = absurd f
  lost_note j v s (Note.Wrote k) a f = absurd f

  wrote_if_note : (j x v s : ℕ) (n : Note) → Answered p q (Call.UpdateIf j x v) (Answer.Applied s) n →
      NoteFits (length q.memory.about.opening.values) (Call.UpdateIf j x v) (Answer.Applied s) (Some n) → IsPlacedAt (Reply.Applied s) n (length q.seen) →
      UpdatesIf p j x v (UpdatedIf.Applied s) q
  wrote_if_note j x v s (Note.Wrote k) a f e = (k, a, e)
  wrote_if_note j x v s (Note.Saw k) a f e = absurd f
  wrote_if_note j x v s (Note.Lost k) a f e = absurd f

  changed_note : (j x v s : ℕ) (n : Note) → Answered p q (Call.UpdateIf j x v) (Answer.Changed s) n →
      NoteFits (length q.memory.about.opening.values) (Call.UpdateIf j x v) (Answer.Changed s) (Some n) → UpdatesIf p j x v (UpdatedIf.Changed s) q
  changed_note j x v s (Note.Saw n) a f = (n, a)
  changed_note j x v s (Note.Wrote n) a f = absurd f
  changed_note j x v s (Note.Lost n) a f = absurd f

  read_note : (j v s : ℕ) (n : Note) → Answered p q (Call.Read j) (Answer.Read v s) n → NoteFits (length q.memory.about.opening.values) (Call.Read j) (Answer.Read v s) (Some n) → Reads p j v s q
  read_note j v s (Note.Saw n) a f = (n, a)
  read_note j v s (Note.Wrote n) a f = absurd f
  read_note j v s (Note.Lost n) a f = absurd f

module _ (t : TableId) (before behind : ℕ) (b : CoreState) (x : SeatedPort) (c : CoreState) (y : SeatedPort) (m : CallMade b x c y) (counted : HasCounted before y behind) where
  noted_by : (r : Reply) → reply_of c ≡ Some r → AreNotesOf x.about.opening y.part (Some r) m.made.new
  noted_by r is = subst (λ f. AreNotesOf x.about.opening y.part f m.made.new) is m.made.noted

  pub update_told : (j v : ℕ) → CallBegins t x b (Call.Update j v) → (r : Reply) → reply_of c ≡ Some r → UpdateTold (port_view t before x) j v r (port_view t behind y)
  update_told j v w (Reply.Applied s) is =
      let a = answered_with t before behind b x c y m counted (Call.Update j v) w (Reply.Applied s) is refl refl (noted_by (Reply.Applied s) is) in
      (wrote_note (port_view t before x) (port_view t behind y) c j v s a.note a.answered a.fits a.placed, a.led)
  update_told j v w (Reply.Lost s) is =
      let a = answered_with t before behind b x c y m counted (Call.Update j v) w (Reply.Lost s) is refl refl (noted_by (Reply.Lost s) is) in
      (lost_note (port_view t before x) (port_view t behind y) c j v s a.note a.answered a.fits, a.led)
  update_told j v w (Reply.Refused cause) is = (refused_with t before behind b x c y m counted (Call.Update j v) w cause is, refusal_led t before behind b x c y m counted (Call.Update j v) w cause is)
  update_told j v w (Reply.Read u s) is = let a = answered_with t before behind b x c y m counted (Call.Update j v) w (Reply.Read u s) is refl refl (noted_by (Reply.Read u s) is) in absurd a.fits
  update_told j v w (Reply.Scanned k s) is = let a = answered_with t before behind b x c y m counted (Call.Update j v) w (Reply.Scanned k s) is refl refl (noted_by (Reply.Scanned k s) is) in absurd a.fits
  update_told j v w (Reply.Changed s) is = let a = answered_with t before behind b x c y m counted (Call.Update j v) w (Reply.Changed s) is refl refl (noted_by (Reply.Changed s) is) in absurd a.fits

  pub update_if_told : (j e v : ℕ) → CallBegins t x b (Call.UpdateIf j e v) → (r : Reply) → reply_of c ≡ Some r → UpdateIfTold (port_view t before x) j e v r (port_view t behind y)
  update_if_told j e v w (Reply.Applied s) is =
      let a = answered_with t before behind b x c y m counted (Call.UpdateIf j e v) w (Reply.Applied s) is refl refl (noted_by (Reply.Applied s) is) in
      (wrote_if_note (port_view t before x) (port_view t behind y) c j e v s a.note a.answered a.fits a.placed, a.led)
  update_if_told j e v w (Reply.Changed s) is =
      let a = answered_with t before behind b x c y m counted (Call.UpdateIf j e v) w (Reply.Changed s) is refl refl (noted_by (Reply.Changed s) is) in
      (changed_note (port_view t before x) (port_view t behind y) c j e v s a.note a.answered a.fits, a.led)
  update_if_told j e v w (Reply.Refused cause) is = (refused_with t before behind b x c y m counted (Call.UpdateIf j e v) w cause is, refusal_led t before behind b x c y m counted (Call.UpdateIf j e v) w cause is)
  update_if_told j e v w (Reply.Read u s) is = let a = answered_with t before behind b x c y m counted (Call.UpdateIf j e v) w (Reply.Read u s) is refl refl (noted_by (Reply.Read u s) is) in absurd a.fits
  update_if_told j e v w (Reply.Scanned k s) is = let a = answered_with t before behind b x c y m counted (Call.UpdateIf j e v) w (Reply.Scanned k s) is refl refl (noted_by (Reply.Scanned k s) is) in absurd a.fits
  update_if_told j e v w (Reply.Lost s) is = let a = answered_with t before behind b x c y m counted (Call.UpdateIf j e v) w (Reply.Lost s) is refl refl (noted_by (Reply.Lost s) is) in absurd a.fits

  pub read_told : (j : ℕ) → CallBegins t x b (Call.Read j) → (r : Reply) → reply_of c ≡ Some r → ReadTold (port_view t before x) j r (port_view t behind y)
  read_told j w (Reply.Read u s) is =
      let a = answered_with t before behind b x c y m counted (Call.Read j) w (Reply.Read u s) is refl refl (noted_by (Reply.Read u s) is) in
      (read_note (port_view t before x) (port_view t behind y) c j u s a.note a.answered a.fits, a.led)
  read_told j w (Reply.Refused Refused.Component) is = let a = (refusal_led t before behind b x c y m counted (Call.Read j) w Refused.Component is).last in absurd a.past
  read_told j w (Reply.Refused Refused.PoolSpent) is = let a = refused_with t before behind b x c y m counted (Call.Read j) w Refused.PoolSpent is in absurd a.may.1
  read_told j w (Reply.Refused Refused.SlotsSpent) is = let a = refused_with t before behind b x c y m counted (Call.Read j) w Refused.SlotsSpent is in absurd a.may.1
  read_told j w (Reply.Applied s) is = let a = answered_with t before behind b x c y m counted (Call.Read j) w (Reply.Applied s) is refl refl (noted_by (Reply.Applied s) is) in absurd a.fits
  read_told j w (Reply.Lost s) is = let a = answered_with t before behind b x c y m counted (Call.Read j) w (Reply.Lost s) is refl refl (noted_by (Reply.Lost s) is) in absurd a.fits
  read_told j w (Reply.Scanned k s) is = let a = answered_with t before behind b x c y m counted (Call.Read j) w (Reply.Scanned k s) is refl refl (noted_by (Reply.Scanned k s) is) in absurd a.fits
  read_told j w (Reply.Changed s) is = let a = answered_with t before behind b x c y m counted (Call.Read j) w (Reply.Changed s) is refl refl (noted_by (Reply.Changed s) is) in absurd a.fits

  saw_note : (which : List ℕ) → CallBegins t x b (Call.Scan which) → b.stage ≡ ScanBegun → b.asked ≡ which → (k : ℕ) (s : Option ℕ) (n : Note) → reply_of c ≡ Some (Reply.Scanned k s) →
      NoteFits (length y.about.opening.values) (Call.Scan which) (Answer.Scanned (scanned_values c) k s) (Some n)
      → Answered (port_view t before x) (port_view t behind y) (Call.Scan which) (Answer.Scanned (scanned_values c) k s) n
      → ScanTold (port_view t before x) which c (Reply.Scanned k s) (port_view t behind y)
  saw_note which w stage asked k s (Note.Saw n) is f a =
      let z : Layout = x.about.sizes in
      let layout : IsLayout z = subst IsLayout w.begins.sizes w.begins.layout in
      let steps = (made_calls_make_their_steps z x.about.opening b x.part c y.part layout m.made).scan k s stage is in (
        (n, a),
        record {
          to = record { reply = Reply.Scanned k s; led = led_here t before behind b x c y m counted (Call.Scan which) w (Reply.Scanned k s) is; answer = refl };
          steps = subst (λ (l : List ℕ). AreOfScan (length l) k (pairs_loaded b (answers_of y.part.kept)) (length y.part.kept) s) asked steps;
        },
      )
  saw_note which w stage asked k s (Note.Wrote n) is f a = absurd f
  saw_note which w stage asked k s (Note.Lost n) is f a = absurd f

  pub scan_told : (which : List ℕ) → CallBegins t x b (Call.Scan which) → b.stage ≡ ScanBegun → b.asked ≡ which → (r : Reply) → reply_of c ≡ Some r →
      ScanTold (port_view t before x) which c r (port_view t behind y)
  scan_told which w stage asked (Reply.Scanned k s) is =
      let a = answered_with t before behind b x c y m counted (Call.Scan which) w (Reply.Scanned k s) is refl refl (noted_by (Reply.Scanned k s) is) in saw_note which w stage asked k s a.note is a.fits a.answered
  scan_told which w stage asked (Reply.Refused cause) is = (refused_with t before behind b x c y m counted (Call.Scan which) w cause is, refusal_led t before behind b x c y m counted (Call.Scan which) w cause is)
  scan_told which w stage asked (Reply.Applied s) is = let a = answered_with t before behind b x c y m counted (Call.Scan which) w (Reply.Applied s) is refl refl (noted_by (Reply.Applied s) is) in absurd a.fits
  scan_told which w stage asked (Reply.Lost s) is = let a = answered_with t before behind b x c y m counted (Call.Scan which) w (Reply.Lost s) is refl refl (noted_by (Reply.Lost s) is) in absurd a.fits
  scan_told which w stage asked (Reply.Read u s) is = let a = answered_with t before behind b x c y m counted (Call.Scan which) w (Reply.Read u s) is refl refl (noted_by (Reply.Read u s) is) in absurd a.fits
  scan_told which w stage asked (Reply.Changed s) is = let a = answered_with t before behind b x c y m counted (Call.Scan which) w (Reply.Changed s) is refl refl (noted_by (Reply.Changed s) is) in absurd a.fits

-- the same at a call, from a port between calls that callers see as p, to one that they see as q
module _ (views : List (List SeatedPort)) (core : CoreState) (number : ℕ) (w : IsResting views core number) (t t' : TableId) (same : t' ≡ t) (before behind : ℕ) (p : PortView) (seen : port_view t before (one_in views) ≡ p)
    (b : CoreState) (r : Reply) (next : CoreState) (y : SeatedPort) (e : CallEnded b (one_in views) r next y) (counted : HasCounted before y behind) where
  seen_as : (P : PortView → PortView → Type 0) → P (port_view t before (one_in views)) (port_view t behind y) → P p (port_view t' behind y)
  seen_as P h = subst (λ (u : TableId). P p (port_view u behind y)) (sym same) (subst (λ (v : PortView). P v (port_view t behind y)) seen h)

  pub update_ended : (j v : ℕ) → core_update_refusal core j ≡ None → b ≡ begun_of core (Call.Update j v) → (s : Reply) → r ≡ s → UpdateTold p j v s (port_view t' behind y)
  update_ended j v none is s told = seen_as (λ a z. UpdateTold a j v s z)
      (update_told t before behind b (one_in views) e.machine y e.made counted j v (call_begins views core number w t b (Call.Update j v) tt none refl is) s (e.replies ∙ ap Some told))

  pub update_if_ended : (j x v : ℕ) → core_update_refusal core j ≡ None → b ≡ begun_of core (Call.UpdateIf j x v) → (s : Reply) → r ≡ s → UpdateIfTold p j x v s (port_view t' behind y)
  update_if_ended j x v none is s told = seen_as (λ a z. UpdateIfTold a j x v s z)
      (update_if_told t before behind b (one_in views) e.machine y e.made counted j x v (call_begins views core number w t b (Call.UpdateIf j x v) tt none refl is) s (e.replies ∙ ap Some told))

  pub read_ended : (j : ℕ) → j < core.sizes.m → b ≡ at_stage core (ReadBegun j) → (s : Reply) → r ≡ s → ReadTold p j s (port_view t' behind y)
  read_ended j below is s told = seen_as (λ a z. ReadTold a j s z)
      (read_told t before behind b (one_in views) e.machine y e.made counted j (read_begins views core number w t b j below is) s (e.replies ∙ ap Some told))

  pub scan_ended : (which : List ℕ) → length which ≤ core.sizes.m → (length which ≡ 0 → ⊥) → core_scan_refusal core which ≡ None → b ≡ begin_scan core which → (s : Reply) → r ≡ s →
      ScanTold p which e.machine s (port_view t' behind y)
  scan_ended which served some none is s told =
      let begins = scan_begins views core number w t b which served some none is in
      let stage : b.stage ≡ ScanBegun = ap (λ (d : CoreState). d.stage) is ∙ ap (λ f. if f then Finished (Reply.Scanned 0 None) else ScanBegun) (ne_eqb (length which) 0 some) in
      seen_as (λ a z. ScanTold a which e.machine s z) (scan_told t before behind b (one_in views) e.machine y e.made counted which begins stage (ap (λ (d : CoreState). d.asked) is) s (e.replies ∙ ap Some told))

-- the values that a scan copied are those of the machine that replied
pub scan_copied : (p q : PortView) (which into : List ℕ) (machine : CoreState) (rows : RowsState) (k : ℕ) (s : Option ℕ) → (length which ≡ 0 → ⊥) → machine.asked ≡ which → rows ≡ machine.rows →
    into ≡ map (slice_index rows.values) which → ScanTold p which machine (Reply.Scanned k s) q →
    Scans p which into (record { collects = k; borrowed = s }) q × ScansLed p which into (record { collects = k; borrowed = s }) q
scan_copied p q [] into machine rows k s some asked same is w = absurd (some refl)
scan_copied p q (j ∷ js) into machine rows k s some asked same is w =
    let values : into ≡ scanned_values machine = is ∙ ap (λ (r : RowsState). map (slice_index r.values) (j ∷ js)) same ∙ ap (map (slice_index machine.rows.values)) (sym asked) in
    subst (λ (l : List ℕ). Scans p (j ∷ js) l (record { collects = k; borrowed = s }) q × ScanIsLed p (j ∷ js) l (record { collects = k; borrowed = s }) q) (sym values) w

-- what a scan that was not refused at once leaves, answered or refused
pub record ScanLeaves (p q : PortView) (which into : List ℕ) (res : Result Scanned Refused) : Type 0 where
  pub answered : IfOk res (λ s. Scans p which into s q)
  pub led : IfOk res (λ s. ScansLed p which into s q)
  pub refused : IfErr res (λ cause. IsRefused p (Call.Scan which) cause q)
  pub led_to_refusal : IfErr res (λ cause. IsLedWhereLate p q (Call.Scan which) cause)

pub scan_answered : (p q : PortView) (which into : List ℕ) (machine : CoreState) (rows : RowsState) (res : Result Scanned Refused) → (length which ≡ 0 → ⊥) →
    machine.asked ≡ which → rows ≡ machine.rows →
    IfOk res (λ _. into ≡ map (slice_index rows.values) which) → ((r : Reply) → scan_reply res ≡ r → ScanTold p which machine r q) → ScanLeaves p q which into res
scan_answered p q which into machine rows (Ok s) some asked same copied told =
    let w = scan_copied p q which into machine rows s.collects s.borrowed some asked same copied (told (Reply.Scanned s.collects s.borrowed) refl) in
    record { answered = w.0; led = w.1; refused = tt; led_to_refusal = tt }
scan_answered p q which into machine rows (Err cause) some asked same copied told =
    let w = told (Reply.Refused cause) refl in
    record { answered = tt; led = tt; refused = inr w.0; led_to_refusal = λ _. w.1 }

-- a call that is refused at once has no steps that led it there
pub at_once : (p q : PortView) (c : Call) (cause : Refused) → refusal p c ≡ Some cause → IsLedWhereLate p q c cause
at_once p q c cause is none = let bad : Some cause ≡ None = sym is ∙ none in absurd cc

-- where a result is the answer or the refusal
pub ok_ok : {A E : Type 0} (res : Result A E) (a : A) (P : A → Type 0) → res ≡ Ok a → P a → IfOk res P
ok_ok res a P is h = subst (λ (v : Result _ _). IfOk v P) (sym is) h

pub err_ok : {A E : Type 0} (res : Result A E) (e : E) (P : A → Type 0) → res ≡ Err e → IfOk res P
err_ok res e P is = subst (λ (v : Result _ _). IfOk v P) (sym is) tt

pub err_err : {A E : Type 0} (res : Result A E) (e : E) (P : E → Type 0) → res ≡ Err e → P e → IfErr res P
err_err res e P is h = subst (λ (v : Result _ _). IfErr v P) (sym is) h

pub ok_err : {A E : Type 0} (res : Result A E) (a : A) (P : E → Type 0) → res ≡ Ok a → IfErr res P
ok_err res a P is = subst (λ (v : Result _ _). IfErr v P) (sym is) tt
