-- A step of a port keeps a replay's state lawful.
use Rattle.partial_replay.proofs.{Common.{ℕ, ◌≡◌, ◌<◌, ◌≤◌, ◌++◌, Bool, true, false, if◌then◌else◌, List, [], ◌∷◌, length, Option, Some, None, IfSome, MatchOption, slice_get, inr, refl, sym, ◌∙◌, ap, subst, arith, length-append, append-nil, length-map, Applied, Opening, Call, Refused, Note, Called, Noted, LegalNotes, IsLegal, MayBeRefused, seen_by, shown_by, place_of, Fits, IsTrueOf, places_written, wrote, places_written-append, AllByRecursion-push, AllByRecursion-weaker, LegalNotes-last, Step, Event, Layout, Answers, Leads, answer_of, words_after, Reply, Idle, CoreState, at_stage, scanned_values, advance, step_of, reply_of, IsSound, rests_are_sound, steps_left, most_steps, Part, KeptAnswer, core_of, port_of, IsBetween, IsMarkedLike, first_at, is_begun, is_at_rest, call_of, answer_for, Port, UnderWay, ends_of, notes_in, IsCallUnderWay, PortFits, AreWithin, ScanHasValues, MayAnswer, one_step_more, ended_call, CallGoesOn, Ends, AreFew, IsNoteFrom, IsLeastFrom, view_word, lawful_records_are_within, initial_stamp, AllByRecursion, value_word, is_some, Lawful, begun_with, kept_with, added_by, LeadsOn, IsNoteOf, IsRefusal, AreNotesOf, slice_set, steps_stay_lawful, ReplayState, PortsFit, Answer}, ScanPlaces.{has_records, has_record}, Places.finds_place, PortLaws.{some_is, DoneFits, EndedCall, done_of, done_grows, push_fits, fits_with, under_way}}
use Rattle.partial_core.specs.{Lawful.LawfulAmong, Part.PartAmong}

-- the due step of a machine that isn't at rest
pub due_step : (s : CoreState) → is_some (step_of s) ≡ true → (step : Step) × (step_of s ≡ Some step)
due_step s h = some_is (step_of s) h

first_kept : (began n : ℕ) (ks : List KeptAnswer) (k : KeptAnswer) → (ks ≡ [] → began ≤ k.at) → (began ≤ k.at) → (began ≤ first_at ks) → began ≤ first_at (ks ++ k ∷ [])
first_kept began n [] k none last h = last
first_kept began n (x ∷ ks) k none last h = h

first_moved : (c : CoreState) (x : Part) (began at a : ℕ) (b : Bool) → began ≤ at → (b ≡ false → began ≤ first_at x.kept) →
    began ≤ first_at ((if b then [] else x.kept) ++ record { answer = a; at = at } ∷ [])
first_moved c x began at a true last h = last
first_moved c x began at a false last h = first_kept began at x.kept (record { answer = a; at = at }) (λ _. last) last (h refl)

pub leads_push : (words last : List ℕ) (trace : List Event) (e : Event) → Leads words trace last → Answers last e.step e.answer → Leads words (trace ++ e ∷ []) (words_after last e.step)
leads_push words last [] e w a = (subst (λ (l : List ℕ). Answers l e.step e.answer) w a, ap (λ (l : List ℕ). words_after l e.step) w)
leads_push words last (x ∷ trace) e w a = (w.0, leads_push (words_after words x.step) last trace e w.1 a)

-- the records that are read to find the place of a scan lie within lawful words
pub lawful_within : (z : Layout) (o : Opening) (words : List ℕ) (parts : List Part) (log : List Applied) → Lawful z o words parts log → AreWithin (length o.values) words log
lawful_within z o words parts log w =
    let r = lawful_records_are_within z o words parts log w in
    let values = r.values in
    let own : AllByRecursion (λ (e : Applied). value_word e.stamp < length words) log = AllByRecursion-weaker (λ (e : Applied). (z.m ≤ e.stamp) × (view_word e.stamp < length words))
    (λ (e : Applied). value_word e.stamp < length words) (λ e both. let within = both.1 in omega (arith, within)) log r.entries in
    let first : (j : ℕ) → j < length o.values → value_word (initial_stamp o j) < length words = λ j below. let within = r.initial j (omega (arith, below, values)) in omega (arith, within) in
    record {
      components = has_records o words log r.agrees own first;
      entries = has_record o words log r.agrees own (r.history).components first;
    }

-- only a scan answers values: those of components that are there
scan_values : (o : Opening) (h : List Applied) (p m : ℕ) (c : Call) (vs : List ℕ) (k : ℕ) (b : Option ℕ) (n : Note) → Fits m c (Answer.Scanned vs k b) (Some n) →
    IsTrueOf o h p c (Answer.Scanned vs k b) n → ScanHasValues m c vs
scan_values o h p m (Call.Scan js) vs k b (Note.Saw n) fits is = (fits, ap length is.values ∙ length-map js _)
scan_values o h p m (Call.Scan js) vs k b (Note.Wrote n) fits is = absurd is
scan_values o h p m (Call.Scan js) vs k b (Note.Lost n) fits is = absurd is
scan_values o h p m (Call.Update j v) vs k b n fits is = absurd is
scan_values o h p m (Call.Read j) vs k b n fits is = absurd is
scan_values o h p m (Call.UpdateIf j x v) vs k b n fits is = absurd is

-- the memory of a replay, with a port's part between those of the others
abbrev pub among : ReplayState → List Part → Part → List Part → PartAmong
among s before x after = record { words = s.memory.words; before = before; part = x; after = after; log = s.memory.history.items }

-- a port of a run, with its part among those of the others, and with another state of it in its place
pub record PartAt (plans : List (List Call)) (s : ReplayState) (p : ℕ) (calls : List Call) (port : Port) : Type 0 where
  pub before : List Part
  pub x : Part
  pub after : List Part
  pub lawful : LawfulAmong s.sizes s.opening (among s before x after)
  pub fits : PortFits s.opening s.memory.history.items calls p x port
  pub replace : (es : List Applied) (y : Part) (new : Port) → PortFits s.opening (s.memory.history.items ++ es) calls p y new →
      PortsFit s.opening (s.memory.history.items ++ es) 0 plans (before ++ y ∷ after) (slice_set s.ports p new)

-- What a step makes of its port: it goes on as the port of the moved part.
module _ {plans : List (List Call)} {s : ReplayState} {p : ℕ} {calls : List Call} {port : Port} (at : PartAt plans s p calls port) {way : UnderWay} (was : port.under_way ≡ Some way) (step : Step)
    (due : step_of port.core ≡ Some step) where
  open s use {sizes as z, opening as o}
  open at use {x, fits as w}

  abbrev words : List ℕ
  words = s.memory.words

  abbrev log : List Applied
  log = s.memory.history.items

  abbrev u : IsCallUnderWay (length log) calls x port.core port.finished.items way
  u = under_way w was

  -- the law of steps, at this one
  abbrev pub leads : LeadsOn z o (among s at.before x at.after) port.core step
  leads = steps_stay_lawful z o (among s at.before x at.after) port.core step at.lawful u.machine due

  abbrev a : ℕ
  a = answer_of words step

  abbrev words2 : List ℕ
  words2 = words_after words step

  abbrev log2 : List Applied
  log2 = log ++ added_by z (port_of x) words step

  abbrev core2 : CoreState
  core2 = advance port.core (answer_of words step)

  abbrev y : Part
  y = leads.y

  pub sizes_y : core2.sizes ≡ port.core.sizes
  sizes_y = leads.tells.behind.sizes

  module _ (new : Port) where
    notes_y : y.notes ≡ x.notes ++ leads.tells.new
    notes_y = ap (λ (v : Part). v.notes) leads.tells.part

    seen_y : y.seen ≡ log2
    seen_y = ap (λ (v : Part). v.seen) leads.tells.part

    begun_y : y.begun ≡ begun_with port.core x
    begun_y = ap (λ (v : Part). v.begun) leads.tells.part

    core_y : core_of y ≡ core2
    core_y = sym leads.tells.machine.is

    port_y : port_of y ≡ p
    port_y = leads.tells.port ∙ w.part

    longer : length log ≤ length log2
    longer = let n = length-append log (added_by z (port_of x) words step) in omega arith

    first_y : way.began ≤ first_at y.kept
    first_y =
        let kept : y.kept ≡ kept_with port.core x ++ record { answer = a; at = length log2 } ∷ [] = ap (λ (v : Part). v.kept) leads.tells.part in
        subst (λ (ks : List KeptAnswer). way.began ≤ first_at ks) (sym kept)
        (first_moved port.core x way.began (length log2) a (is_begun port.core.stage) (let n = longer in omega (arith, n, u.within)) u.first)

    components_y : (s : CoreState) → s ≡ core2 → s.sizes.m ≡ length o.values
    components_y s e = ap (λ (t : CoreState). t.sizes.m) e ∙ ap (λ (t : Layout). t.m) sizes_y ∙ w.sizes

    places_y : (ns : List Noted) → leads.tells.new ≡ ns → places_written y.notes ≡ places_written x.notes ++ places_written ns
    places_y ns e = ap places_written notes_y ∙ places_written-append x.notes leads.tells.new ∙ ap (λ (m : List Noted). places_written x.notes ++ places_written m) e

    few_y : (s : CoreState) → s ≡ core2 → AreFew s.sizes port.finished.items
    few_y s e = subst (λ (t : Layout). AreFew t port.finished.items) (sym (ap (λ (t : CoreState). t.sizes) e ∙ sizes_y)) w.bounded

    most_y : (s : CoreState) (c : Call) → s ≡ core2 → most_steps s.sizes c ≡ most_steps port.core.sizes c
    most_y s c e = ap (λ (t : Layout). most_steps t c) (ap (λ (t : CoreState). t.sizes) e ∙ sizes_y)

    goes_on_fits : new.number ≡ port.number → reply_of core2 ≡ None → steps_left core2 < steps_left port.core → CallGoesOn port new way core2 → PortFits o log2 calls p y new
    goes_on_fits number none falls g =
        let no_new : leads.tells.new ≡ [] = subst (λ (r : Option Reply). AreNotesOf o y r leads.tells.new) none leads.tells.noted in
        let b = leads.tells.behind in
        let begun : is_begun new.core.stage ≡ false = ap (λ (s : CoreState). is_begun s.stage) g.machine ∙ b.begun in
        let core : new.core ≡ core_of y = g.machine ∙ sym core_y in
        let going : IsCallUnderWay (length log2) calls y new.core new.finished.items (one_step_more way) = record {
          call = u.call;
          next = ap (λ (d : List Called). slice_get calls (length d)) g.finished ∙ u.next;
          begun = ap (λ (b : Bool). call_of (if b then new.core else y.begun)) begun ∙ ap call_of begun_y ∙ u.begun;
          behind = subst (λ (d : List Called). ends_of 0 d ≤ way.began) (sym g.finished) u.behind;
          within = let n = longer in omega (arith, n, u.within);
          first = λ _. first_y;
          machine = inr (record { going = begun; is = core });
          due = ap (λ (s : CoreState). is_at_rest s.stage) g.machine ∙ b.rests ∙ ap is_some none;
          steps = let left : steps_left new.core ≡ steps_left core2 = ap steps_left g.machine in let most = most_y new.core u.call g.machine in omega (arith, left, falls, u.steps, most);
        } in
        fits_with (number ∙ w.number) port_y (components_y new.core g.machine)
        (subst (λ (d : List Called). DoneFits o log2 calls p d (places_written x.notes)) (sym g.finished)
        (done_grows (added_by z (port_of x) words step) (done_of w)))
        (subst (λ (d : List Called). AreFew new.core.sizes d) (sym g.finished) (few_y new.core g.machine))
        (sym (places_y [] no_new ∙ append-nil (places_written x.notes)))
        (subst (λ (f : Option UnderWay). MatchOption f (IsBetween y new.core) (IsCallUnderWay (length log2) calls y new.core new.finished.items)) (sym g.way') going)

    -- the call that has ended, as it is listed
    abbrev last_call : (r : Reply) → Ends calls words2 log2 port new way core2 r → Called
    last_call r e = ended_call port.number (length port.finished.items) e.call (one_step_more way) (length log2) (answer_for core2 r) e.note

    -- the call under way is the one that ends
    call_under_way : (r : Reply) (e : Ends calls words2 log2 port new way core2 r) → u.call ≡ e.call
    call_under_way r e = let one : Some u.call ≡ Some e.call = sym u.next ∙ e.next in cc

    -- between calls
    rests_y : (r : Reply) → reply_of core2 ≡ Some r → new.core ≡ at_stage core2 Idle → IsBetween y new.core
    rests_y r replied e =
        let b = leads.tells.behind in
        let is : new.core ≡ at_stage (core_of y) Idle = e ∙ ap (λ (s : CoreState). at_stage s Idle) (sym core_y) in
        let sound : IsSound (core_of y) = subst IsSound (sym core_y) b.sound in
        record {
          rest = ap (λ (s : CoreState). is_at_rest s.stage) core_y ∙ b.rests ∙ ap is_some replied;
          like = subst (λ (s : CoreState). IsMarkedLike (core_of y) s) (sym is) (record { sizes = refl; port = refl; pool = refl; slots = refl; lists = refl; spare = refl });
          idle = ap (λ (s : CoreState). s.stage) is;
          sound = subst IsSound (sym is) (rests_are_sound.idle (core_of y) sound);
        }

    -- the call is finished
    ends_fits : (r : Reply) (ns : List Noted) → new.number ≡ port.number → steps_left core2 < steps_left port.core → reply_of core2 ≡ Some r → (e : Ends calls words2 log2 port new way core2 r) →
        leads.tells.new ≡ ns → (d : EndedCall o log2 p (length port.finished.items) (ends_of 0 port.finished.items) (seen_by 0 (notes_in port.finished.items)) e.call (last_call r e)) →
        wrote (d.note) ≡ places_written ns → PortFits o log2 calls p y new
    ends_fits r ns number falls replied e news d places =
        let c = last_call r e in
        let grown = done_grows (added_by z (port_of x) words step) (done_of w) in
        let pushed = push_fits grown e.next d in
        let sizes : new.core.sizes ≡ core2.sizes = ap (λ (s : CoreState). s.sizes) e.machine in
        let few : AreFew core2.sizes (port.finished.items ++ c ∷ []) = AllByRecursion-push (λ (f : Called). f.steps ≤ most_steps core2.sizes f.call) port.finished.items c (few_y core2 refl)
        (let most = most_y core2 u.call refl in let same : most_steps core2.sizes e.call ≡ most_steps core2.sizes u.call =
        ap (most_steps core2.sizes) (sym (call_under_way r e)) in omega (arith, most, same, falls, u.steps)) in
        fits_with (number ∙ w.number) port_y (ap (λ (t : Layout). t.m) sizes ∙ components_y core2 refl)
        (subst (λ (f : List Called). DoneFits o log2 calls p f (places_written x.notes ++ wrote (d.note))) (sym e.finished) pushed)
        (subst (λ (f : List Called). AreFew new.core.sizes f) (sym e.finished) (subst (λ (t : Layout). AreFew t (port.finished.items ++ c ∷ [])) (sym sizes) few))
        (ap (λ (k : List ℕ). places_written x.notes ++ k) places ∙ sym (places_y ns news))
        (subst (λ (f : Option UnderWay). MatchOption f (IsBetween y new.core) (IsCallUnderWay (length log2) calls y new.core new.finished.items)) (sym e.none) (rests_y r replied e.machine))

    -- the call that the part has begun is the one under way
    same_call : (c : Call) → call_of y.begun ≡ Some c → c ≡ u.call
    same_call c made = let two : Some c ≡ Some (u.call) = sym made ∙ ap call_of begun_y ∙ u.begun in cc

    refused_fits_step : (cause : Refused) → new.number ≡ port.number → steps_left core2 < steps_left port.core → reply_of core2 ≡ Some (Reply.Refused cause) →
        Ends calls words2 log2 port new way core2 (Reply.Refused cause) → IsRefusal y cause leads.tells.new → PortFits o log2 calls p y new
    refused_fits_step cause number falls replied e n =
        let call' : n.call ≡ e.call = same_call n.call n.made ∙ call_under_way (Reply.Refused cause) e in
        let m : (y.begun).sizes.m ≡ length o.values = ap (λ (t : Layout). t.m) leads.tells.begun_sizes ∙ sym (leads.lawful.memory.values) in
        let may : MayBeRefused (length o.values) (e.call) cause = subst (λ (k : ℕ). MayBeRefused k (e.call) cause) m (subst (λ (c : Call). MayBeRefused (y.begun).sizes.m c cause) call' n.may) in
        let more = longer in
        ends_fits (Reply.Refused cause) [] number falls replied e n.none (record {
          answer = Answer.Refused cause;
          note = None;
          port = w.number;
          number' = refl;
          call' = refl;
          behind = u.behind;
          within = omega (arith, more, u.within);
          finish = ap (λ (f : Option Note). Some (record { ended = length log2; answer = Answer.Refused cause; note = f })) e.noted;
          placed = tt;
          legal = (may, tt);
          least = tt;
        }) refl

    -- the note of the part is legal after the others
    legal_y : (r : Reply) (n : IsNoteOf o y r leads.tells.new) → IsLegal o log2 p (seen_by 0 x.notes) (record { call = n.call; answer = answer_for core2 r; note = Some (n.note) })
    legal_y r n =
        let is : leads.tells.new ≡ record { call = n.call; answer = answer_for core2 r; note = Some (n.note) } ∷ [] =
        n.is ∙ ap (λ (s : CoreState). record { call = n.call; answer = answer_for s r; note = Some (n.note) } ∷ []) core_y in
        subst (λ (q : ℕ). IsLegal o log2 q (seen_by 0 x.notes) (record { call = n.call; answer = answer_for core2 r; note = Some (n.note) })) port_y
        (LegalNotes-last o log2 (port_of y) 0 x.notes (record { call = n.call; answer = answer_for core2 r; note = Some (n.note) })
        (subst (λ (ns : List Noted). LegalNotes o log2 (port_of y) 0 (x.notes ++ ns)) is
        (subst (λ (ns : List Noted). LegalNotes o log2 (port_of y) 0 ns) notes_y (subst (λ (h : List Applied). LegalNotes o h (port_of y) 0 y.notes) seen_y leads.tells.fits.legal))))

    noted_fits : (r : Reply) → new.number ≡ port.number → steps_left core2 < steps_left port.core → reply_of core2 ≡ Some r → Ends calls words2 log2 port new way core2 r →
        IsNoteOf o y r leads.tells.new → PortFits o log2 calls p y new
    noted_fits r number falls replied e n =
        let c = n.call in
        let answered = answer_for core2 r in
        let call' : c ≡ e.call = same_call c n.made ∙ call_under_way r e in
        let is : leads.tells.new ≡ record { call = c; answer = answered; note = Some (n.note) } ∷ [] =
        n.is ∙ ap (λ (s : CoreState). record { call = c; answer = answer_for s r; note = Some (n.note) } ∷ []) core_y in
        let legal = legal_y r n in
        let first = first_y in
        let more = longer in
        let found = finds_place o log2 p way.began words2 c answered (n.note) e.note leads.lawful.memory.history leads.lawful.memory.agrees legal.0 (legal.1.0) (omega (arith, first, n.behind))
        (subst (λ (d : Call). IsNoteFrom words2 log2 way.began d answered e.note) (sym call') e.noted) in
        let top : shown_by n.note ≤ length log2 = let seen_long : length y.seen ≡ length log2 = ap length seen_y in omega (arith, n.within, seen_long) in
        let placed : (way.began ≤ place_of (found.note)) × (shown_by (found.note) ≤ length log2) = (found.behind, omega (arith, found.within, top)) in
        ends_fits r (record { call = c; answer = answered; note = Some (n.note) } ∷ []) number falls replied e is (record {
          answer = answered;
          note = Some (found.note);
          port = w.number;
          number' = refl;
          call' = refl;
          behind = u.behind;
          within = omega (arith, more, u.within);
          finish = ap (λ (f : Option Note). Some (record { ended = length log2; answer = answered; note = f })) (found.is);
          placed = placed;
          least = subst (λ (d : Call). IsLeastFrom o log2 way.began d answered (found.note)) call' (found.least);
          legal = subst (λ (d : Call). IsLegal o log2 p (seen_by 0 (notes_in port.finished.items)) (record { call = d; answer = answered; note = Some (found.note) })) call'
              (found.fits, (found.true', omega (arith, w.shown, u.behind, found.behind)));
        }) (found.wrote' ∙ sym (append-nil (wrote (Some (n.note)))))

    replied_fits : (r : Reply) → new.number ≡ port.number → steps_left core2 < steps_left port.core → reply_of core2 ≡ Some r → Ends calls words2 log2 port new way core2 r →
        AreNotesOf o y (Some r) leads.tells.new → PortFits o log2 calls p y new
    replied_fits (Reply.Refused cause) number falls replied e n = refused_fits_step cause number falls replied e n
    replied_fits (Reply.Applied s) number falls replied e n = noted_fits (Reply.Applied s) number falls replied e n
    replied_fits (Reply.Lost by) number falls replied e n = noted_fits (Reply.Lost by) number falls replied e n
    replied_fits (Reply.Scanned k b) number falls replied e n = noted_fits (Reply.Scanned k b) number falls replied e n
    replied_fits (Reply.Read v s) number falls replied e n = noted_fits (Reply.Read v s) number falls replied e n
    replied_fits (Reply.Changed by) number falls replied e n = noted_fits (Reply.Changed by) number falls replied e n

    pub step_fits : (found : Option Reply) → reply_of core2 ≡ found → new.number ≡ port.number → steps_left core2 < steps_left port.core → MatchOption found (CallGoesOn port new way core2)
        (Ends calls words2 log2 port new way core2) → PortFits o log2 calls p leads.y new
    step_fits None is number falls g = goes_on_fits number is falls g
    step_fits (Some r) is number falls e = replied_fits r number falls is e (subst (λ (f : Option Reply). AreNotesOf o y f leads.tells.new) is leads.tells.noted)

    -- the answer of a call that ends is one that it may have
    answer_may : (r : Reply) → AreNotesOf o y (Some r) leads.tells.new → MayAnswer port.core.sizes.m u.call (answer_for core2 r)
    answer_may (Reply.Scanned k b) n =
        let legal = legal_y (Reply.Scanned k b) n in
        let values = scan_values o log2 p (length o.values) n.call (scanned_values core2) k b n.note legal.0 (legal.1.0) in
        subst (λ m. ScanHasValues m u.call (scanned_values core2)) (sym w.sizes) (subst (λ (c : Call). ScanHasValues (length o.values) c (scanned_values core2)) (same_call n.call n.made) values)
    answer_may (Reply.Applied s) n = tt
    answer_may (Reply.Lost by) n = tt
    answer_may (Reply.Read v s) n = tt
    answer_may (Reply.Refused cause) n = tt
    answer_may (Reply.Changed by) n = tt

    ends_may : (found : Option Reply) → AreNotesOf o y found leads.tells.new → IfSome found (λ r. MayAnswer port.core.sizes.m u.call (answer_for core2 r))
    ends_may None n = tt
    ends_may (Some r) n = answer_may r n

    pub end_may : IfSome (reply_of core2) (λ r. MayAnswer port.core.sizes.m u.call (answer_for core2 r))
    end_may = ends_may (reply_of core2) leads.tells.noted
