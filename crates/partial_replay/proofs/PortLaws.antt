-- How a port of a replay goes on as its part's port.
use Rattle.partial_replay.proofs.Common.{ℕ, ◌==◌, ◌≢◌, slice_set, inl, inr, zero, suc, ◌≡◌, ◌+◌, ◌<◌, ◌≤◌, ◌++◌, Bool, true, false, if◌then◌else◌, List, [], ◌∷◌, length, take, map, slice_index_or, Option, Some, None, IfSome, IsSomeAnd, MatchOption, slice_get, refl, sym, ◌∙◌, ap, subst, arith, length-append, AllByRecursion, cons_option, option_map, option_map_or, eqb_tells, false≢true, append-nil, length_push, map_push, take-append-le, Applied, Opening, Call, Refused, Answer, Note, Shows, IsLeastFrom, HasLeastPlace, Called, Finish, Noted, LegalNotes, IsLegal, MayBeRefused, seen_by, seen_after, shown_by, place_of, noted_of, places_written, wrote, AllByRecursion-push, LegalNotes-push, LegalNotes-grows, seen_by-push, places_written-push, Step, Layout, answer_of, words_after, Reply, Idle, ReadBegun, UpdateBegun, ScanBegun, Finished, CoreState, at_stage, advance, step_of, reply_at, reply_of, AreComponentIndices, IsSound, IsPossible, begin_scan, is_begun, is_at_rest, makes_steps, call_of, answer_for, begun_of, refusal_of, IsServed, steps_left, most_steps, Part, port_of, IsMachineOf, IsBetween, calls_begin, calls_are_refused_at_once, calls_begin_between, Port, UnderWay, IsRefusedAtOnce, IsFinishedAtOnce, end_of_call, ends_of, IsFinishedCall, AreFinished, notes_in, IsCallUnderWay, PortFits, IsDoneAtOnce, entry_at, one_step_more, IsEndedCall, CallGoesOn, Ends, StepMade, AreFew, place_below, IsSome, Vec, Global, HasBegun, Stage, some_same, Memory, core_behind, PortAt}

pub same_eqb : (a b : ℕ) → a ≡ b → (a == b) ≡ true
same_eqb a b h = elim (eqb_tells a b) [ inl w ↦ w.0 | inr w ↦ absurd (w.1 h) ]

-- what holds by cases of an option that is known
pub match_none : {A : Type 0} (f : Option A) (P : Type 0) (Q : A → Type 0) → MatchOption f P Q → f ≡ None → P
match_none None P Q m is = m
match_none (Some a) P Q m is = cc

pub match_some : {A : Type 0} (f : Option A) (P : Type 0) (Q : A → Type 0) (a : A) → MatchOption f P Q → f ≡ Some a → Q a
match_some f P Q a m is = subst (λ g. MatchOption g P Q) is m

pub some_is : {A : Type 0} (f : Option A) → IsSome f → (a : A) × (f ≡ Some a)
some_is None w = absurd (false≢true w)
some_is (Some a) w = (a, refl)

-- the element at a place
pub get_is : {A : Type 0} (xs : List A) (k : ℕ) (d : A) → k < length xs → slice_get xs k ≡ Some (slice_index_or xs k d)
get_is [] k d below = absurd (omega arith)
get_is (x ∷ xs) zero d below = refl
get_is (x ∷ xs) (suc k) d below = get_is xs k d (omega arith)

pub take_next : {A : Type 0} (xs : List A) (k : ℕ) (x : A) → slice_get xs k ≡ Some x → take (k + 1) xs ≡ take k xs ++ x ∷ []
take_next [] k x s = let bad : None ≡ Some x = s in cc
take_next {A} (y ∷ ys) zero x s = let same : y ≡ x = cc in ap (λ (v : A). v ∷ []) same
take_next {A} (y ∷ ys) (suc k) x s =
    let e : suc k + 1 ≡ suc (k + 1) = omega arith in
    ap (λ n. take n (y ∷ ys)) e ∙ ap (λ (l : List A). y ∷ l) (take_next ys k x s)

-- another element at a place
pub get_set : {A : Type 0} (xs : List A) (i : ℕ) (a b : A) → slice_get xs i ≡ Some a → slice_get (slice_set xs i b) i ≡ Some b
get_set [] i a b s = let bad : None ≡ Some a = s in cc
get_set (x ∷ xs) zero a b s = refl
get_set (x ∷ xs) (suc i) a b s = get_set xs i a b s

pub get_set_other : {A : Type 0} (xs : List A) (i q : ℕ) (b : A) → q ≢ i → slice_get (slice_set xs i b) q ≡ slice_get xs q
get_set_other [] i q b d = refl
get_set_other (x ∷ xs) zero zero b d = absurd (d refl)
get_set_other (x ∷ xs) zero (suc q) b d = refl
get_set_other (x ∷ xs) (suc i) zero b d = refl
get_set_other (x ∷ xs) (suc i) (suc q) b d = get_set_other xs i q b (λ h. d (ap suc h))

-- what holds of the port that was set, and of the others as they were, holds of each port then
pub port_set : (ports : List Port) (i : ℕ) {port : Port} (new : Port) → slice_get ports i ≡ Some port → (q : ℕ) (R : Port → Type 0) → (q ≡ i → R new) →
    (q ≢ i → (u : Port) → slice_get ports q ≡ Some u → R u) → (u : Port) → slice_get (slice_set ports i new) q ≡ Some u → R u
port_set ports i {port} new t q R own others u is = elim (eqb_tells q i) [
  | inl same ↦ subst R (some_same (sym (get_set ports i port new t) ∙ ap (slice_get (slice_set ports i new)) (sym same.1) ∙ is)) (own same.1)
  | inr other ↦ others other.1 u (sym (get_set_other ports i q new other.1) ∙ is)
]

-- the same of a port and its calls
pub at_set : {plans : List (List Call)} {ports : List Port} {i : ℕ} {calls : List Call} {port : Port} (new : Port) → PortAt plans ports i calls port → (q : ℕ) (R : List Call → Port → Type 0) →
    (q ≡ i → PortAt plans ports q calls port → R calls new) → (q ≢ i → (ds : List Call) (u : Port) → PortAt plans ports q ds u → R ds u) →
    (ds : List Call) (u : Port) → PortAt plans (slice_set ports i new) q ds u → R ds u
at_set {plans} {ports} {i} {calls} {port} new at q R own others ds u now = port_set ports i new at.is q (R ds)
    (λ same. subst (λ (l : List Call). R l new) (some_same (sym at.plan ∙ ap (slice_get plans) (sym same) ∙ now.plan))
    (own same (subst (λ n. PortAt plans ports n calls port) (sym same) at)))
    (λ other v t. others other ds v (record { plan = now.plan; is = t })) u now.is

-- one port stands at a place, with its calls
pub same_at : {plans : List (List Call)} {ports : List Port} {p q : ℕ} {calls ds : List Call} {port u : Port} → PortAt plans ports p calls port → PortAt plans ports q ds u → q ≡ p →
    (calls ≡ ds) × (port ≡ u)
same_at {plans} {ports} a b same = (some_same (sym a.plan ∙ ap (slice_get plans) (sym same) ∙ b.plan), some_same (sym a.is ∙ ap (slice_get ports) (sym same) ∙ b.is))

-- the finished calls with one more
ended_here : (n low : ℕ) (c : Called) → low ≤ n → IsFinishedCall n low c → end_of_call low c ≤ n
ended_here n low c within w = here c.finish w.ended
  where
    here : (f : Option Finish) → IsSomeAnd f (λ (f : Finish). (c.began ≤ f.ended) × (f.ended ≤ n) × IfSome f.note (λ note. (c.began ≤ place_of note) × (shown_by note ≤ f.ended))) →
        option_map_or (λ (f : Finish). f.ended) f low ≤ n
    here None h = absurd h
    here (Some f) h = h.1

pub ends_within : (n p k low : ℕ) (cs : List Called) → low ≤ n → AreFinished n p k low cs → ends_of low cs ≤ n
ends_within n p k low [] within w = within
ends_within n p k low (c ∷ cs) within w = ends_within n p (k + 1) (end_of_call low c) cs (ended_here n low c within w.2) w.3

pub finished_push : (n p k low : ℕ) (cs : List Called) (c : Called) → AreFinished n p k low cs → c.port ≡ p → c.number ≡ k + length cs → IsFinishedCall n (ends_of low cs) c →
    AreFinished n p k low (cs ++ c ∷ [])
finished_push n p k low [] c w port number f = (port, number ∙ omega arith, f, tt)
finished_push n p k low (x ∷ cs) c w port number f = (w.0, w.1, w.2, finished_push n p (k + 1) (end_of_call low x) cs c w.3 port (omega (arith, number)) f)

pub ends_of-push : (low : ℕ) (cs : List Called) (c : Called) → ends_of low (cs ++ c ∷ []) ≡ end_of_call (ends_of low cs) c
ends_of-push low [] c = refl
ends_of-push low (x ∷ cs) c = ends_of-push (end_of_call low x) cs c

notes_push_step : (a : Option Noted) (ns ms rest : List Noted) → ns ≡ ms ++ rest → cons_option a ns ≡ cons_option a ms ++ rest
notes_push_step None ns ms rest e = e
notes_push_step (Some a) ns ms rest e = ap (λ (l : List Noted). a ∷ l) e

pub notes_in-push : (cs : List Called) (c : Called) (n : Noted) → noted_of c ≡ Some n → notes_in (cs ++ c ∷ []) ≡ notes_in cs ++ n ∷ []
notes_in-push [] c n e = ap (λ (a : Option Noted). cons_option a []) e
notes_in-push (x ∷ cs) c n e = notes_push_step (noted_of x) (notes_in (cs ++ c ∷ [])) (notes_in cs) (n ∷ []) (notes_in-push cs c n e)

-- the history grows: finished calls stay so
finished_grows_here : (n m low : ℕ) (c : Called) → n ≤ m → IsFinishedCall n low c → IsFinishedCall m low c
finished_grows_here n m low c more w = record { behind = w.behind; ended = here c.finish w.ended }
  where
    here : (f : Option Finish) → IsSomeAnd f (λ (f : Finish). (c.began ≤ f.ended) × (f.ended ≤ n) × IfSome f.note (λ note. (c.began ≤ place_of note) × (shown_by note ≤ f.ended))) →
        IsSomeAnd f (λ (f : Finish). (c.began ≤ f.ended) × (f.ended ≤ m) × IfSome f.note (λ note. (c.began ≤ place_of note) × (shown_by note ≤ f.ended)))
    here None h = absurd h
    here (Some f) h = (h.0, omega (arith, h.1), h.2)

pub finished_grows : (n m p k low : ℕ) (cs : List Called) → n ≤ m → AreFinished n p k low cs → AreFinished m p k low cs
finished_grows n m p k low [] more w = tt
finished_grows n m p k low (c ∷ cs) more w = (w.0, w.1, finished_grows_here n m low c more w.2, finished_grows n m p (k + 1) (end_of_call low c) cs more w.3)

-- the history grows: what a call saw is still the least
least_from_grows : (o : Opening) (h es : List Applied) (began n : ℕ) (c : Call) (a : Answer) (note : Note) → shown_by note ≤ n → n ≤ length h → IsLeastFrom o h began c a note →
    IsLeastFrom o (h ++ es) began c a note
least_from_grows o h es began n c a (Note.Wrote k) within below w = tt
least_from_grows o h es began n c a (Note.Lost k) within below w = tt
least_from_grows o h es began n c a (Note.Saw m) within below w = λ i from less shows.
    let front : take i (h ++ es) ≡ take i h = take-append-le i h es (omega (arith, less, within, below)) in
    w i from less (subst (λ (l : List Applied). Shows o l c a) front shows)

least_note_grows : (o : Opening) (h es : List Applied) (began n : ℕ) (c : Call) (a : Answer) (note : Option Note) → n ≤ length h → IfSome note (λ m. (began ≤ place_of m) × (shown_by m ≤ n)) →
    IfSome note (IsLeastFrom o h began c a) → IfSome note (IsLeastFrom o (h ++ es) began c a)
least_note_grows o h es began n c a None below w l = tt
least_note_grows o h es began n c a (Some m) below w l = least_from_grows o h es began n c a m w.1 below l

least_place_grows : (o : Opening) (h es : List Applied) (began : ℕ) (c : Call) (f : Option Finish) →
    IsSomeAnd f (λ (g : Finish). (began ≤ g.ended) × (g.ended ≤ length h) × IfSome g.note (λ m. (began ≤ place_of m) × (shown_by m ≤ g.ended))) →
    IfSome f (λ (g : Finish). IfSome g.note (IsLeastFrom o h began c g.answer)) → IfSome f (λ (g : Finish). IfSome g.note (IsLeastFrom o (h ++ es) began c g.answer))
least_place_grows o h es began c None w l = absurd w
least_place_grows o h es began c (Some g) w l = least_note_grows o h es began g.ended c g.answer g.note w.1 w.2 l

pub least_grow : (o : Opening) (log es : List Applied) (p k low : ℕ) (cs : List Called) → AreFinished (length log) p k low cs → AllByRecursion (HasLeastPlace o log) cs →
    AllByRecursion (HasLeastPlace o (log ++ es)) cs
least_grow o log es p k low [] w l = tt
least_grow o log es p k low (c ∷ cs) w l = (least_place_grows o log es c.began c.call c.finish w.2.ended l.0, least_grow o log es p (k + 1) (end_of_call low c) cs w.3 l.1)

-- a call that has ended
pub record EndedCall (o : Opening) (log : List Applied) (p : ℕ) (number : ℕ) (low seen : ℕ) (call : Call) (c : Called) : Type 0 where
  pub answer : Answer
  pub note : Option Note
  pub port : c.port ≡ p
  pub number' : c.number ≡ number
  pub call' : c.call ≡ call
  pub behind : low ≤ c.began
  pub within : c.began ≤ length log
  pub finish : c.finish ≡ Some (record { ended = length log; answer = answer; note = note })
  pub placed : IfSome note (λ n. (c.began ≤ place_of n) × (shown_by n ≤ length log))
  pub legal : IsLegal o log p seen (record { call = call; answer = answer; note = note })
  pub least : IfSome note (IsLeastFrom o log c.began call answer)

-- the finished calls of a port, and the places that they have written
pub record DoneFits (o : Opening) (log : List Applied) (calls : List Call) (p : ℕ) (done : List Called) (places : List ℕ) : Type 0 where
  pub finished : AreFinished (length log) p 0 0 done
  pub legal : LegalNotes o log p 0 (notes_in done)
  pub shown : seen_by 0 (notes_in done) ≤ ends_of 0 done
  pub written : places_written (notes_in done) ≡ places
  pub made : map (λ (c : Called). c.call) done ≡ take (length done) calls
  pub few : length done ≤ length calls
  pub least : AllByRecursion (HasLeastPlace o log) done

pub done_of : {o : Opening} {log : List Applied} {calls : List Call} {p : ℕ} {x : Part} {port : Port} → PortFits o log calls p x port →
    DoneFits o log calls p port.finished.items (places_written x.notes)
done_of w = record { finished = w.finished; legal = w.legal; shown = w.shown; written = w.written; made = w.made; few = w.few; least = w.least }

pub done_grows : {o : Opening} {log : List Applied} {calls : List Call} {p : ℕ} {done : List Called} {places : List ℕ} (es : List Applied) → DoneFits o log calls p done places →
    DoneFits o (log ++ es) calls p done places
done_grows {o} {log} {p} {done} es w =
    record {
      finished = finished_grows (length log) (length (log ++ es)) p 0 0 done (omega (arith, length-append log es)) w.finished;
      legal = LegalNotes-grows o log es p 0 (notes_in done) w.legal;
      shown = w.shown;
      written = w.written;
      made = w.made;
      few = w.few;
      least = least_grow o log es p 0 0 done w.finished w.least;
    }

ended_finish : {o : Opening} {log : List Applied} {p number low seen : ℕ} {call : Call} {c : Called} → EndedCall o log p number low seen call c → IsFinishedCall (length log) low c
ended_finish {log} {c} e =
    record {
      behind = e.behind;
      ended = subst (λ (f : Option Finish). IsSomeAnd f
          (λ (f : Finish). (c.began ≤ f.ended) × (f.ended ≤ length log) × IfSome f.note (λ note. (c.began ≤ place_of note) × (shown_by note ≤ f.ended)))) (sym (e.finish))
          (e.within, omega arith, e.placed);
    }

seen_next : (seen low n began : ℕ) (note : Option Note) → seen ≤ low → low ≤ n → IfSome note (λ a. (began ≤ place_of a) × (shown_by a ≤ n)) → seen_after seen note ≤ n
seen_next seen low n began None s l w = omega arith
seen_next seen low n began (Some a) s l w = w.1

pub push_fits : {o : Opening} {log : List Applied} {calls : List Call} {p : ℕ} {done : List Called} {places : List ℕ} {call : Call} {c : Called} → DoneFits o log calls p done places →
    slice_get calls (length done) ≡ Some call → (e : EndedCall o log p (length done) (ends_of 0 done) (seen_by 0 (notes_in done)) call c) → DoneFits o log calls p (done ++ c ∷ [])
    (places ++ wrote (e.note))
push_fits {o} {log} {calls} {p} {done} {call} {c} w next e =
    let n : Noted = record { call = call; answer = e.answer; note = e.note } in
    let noted : noted_of c ≡ Some n = ap (λ (f : Option Finish). option_map (λ (f : Finish). record { call = c.call; answer = f.answer; note = f.note }) f)
    (e.finish) ∙ ap (λ (d : Call). Some (record { call = d; answer = e.answer; note = e.note })) (e.call') in
    let pushed = notes_in-push done c n noted in
    let longer = length_push done c in
    let low = ends_within (length log) p 0 0 done (omega arith) w.finished in
    let end : ends_of 0 (done ++ c ∷ []) ≡ length log = ends_of-push 0 done c ∙ ap (λ (f : Option Finish). option_map_or (λ (f : Finish). f.ended) f (ends_of 0 done)) (e.finish) in
    let seen : seen_by 0 (notes_in (done ++ c ∷ [])) ≡ seen_after (seen_by 0 (notes_in done)) (e.note) = ap (seen_by 0) pushed ∙ seen_by-push 0 (notes_in done) n in
    let below = place_below calls (length done) call next in
    record {
      finished = finished_push (length log) p 0 0 done c w.finished (e.port) (e.number' ∙ omega arith) (ended_finish e);
      legal = subst (LegalNotes o log p 0) (sym pushed) (LegalNotes-push o log p 0 (notes_in done) n w.legal (e.legal));
      shown = let top = seen_next (seen_by 0 (notes_in done)) (ends_of 0 done) (length log) c.began (e.note) w.shown low (e.placed) in omega (arith, end, seen, top);
      written = ap places_written pushed ∙ places_written-push (notes_in done) n ∙ ap (λ (l : List ℕ). l ++ wrote (e.note)) w.written;
      made = map_push (λ (c : Called). c.call) done c ∙ ap (λ (d : Call). map (λ (c : Called). c.call) done ++ d ∷ []) (e.call') ∙ ap (λ (l : List Call). l ++ call ∷ []) w.made ∙
          sym (ap (λ n. take n calls) longer ∙ take_next calls (length done) call next);
      few = omega (arith, longer, below);
      least = AllByRecursion-push (HasLeastPlace o log) done c w.least (subst (λ (f : Option Finish). IfSome f (λ (f : Finish). IfSome f.note (IsLeastFrom o log c.began c.call f.answer)))
          (sym (e.finish)) (subst (λ (d : Call). IfSome e.note (IsLeastFrom o log c.began d e.answer)) (sym (e.call')) e.least));
    }

-- a port with these finished calls
pub fits_with : {o : Opening} {log : List Applied} {calls : List Call} {p : ℕ} {x : Part} {port : Port} {places : List ℕ} → port.number ≡ p → port_of x ≡ p → port.core.sizes.m ≡ length o.values →
    DoneFits o log calls p port.finished.items places → AreFew port.core.sizes port.finished.items → places ≡ places_written x.notes → MatchOption port.under_way (IsBetween x port.core)
    (IsCallUnderWay (length log) calls x port.core port.finished.items) → PortFits o log calls p x port
fits_with number part sizes w bounded same way =
    record {
      number = number;
      part = part;
      sizes = sizes;
      finished = w.finished;
      legal = w.legal;
      shown = w.shown;
      written = w.written ∙ same;
      made = w.made;
      few = w.few;
      bounded = bounded;
      least = w.least;
      way = way;
    }

no_position : (js : List ℕ) → (length js == 0) ≡ true → js ≡ []
no_position [] e = refl
no_position (j ∷ js) e = elim (eqb_tells (length (j ∷ js)) 0) [
  | inl none ↦ let n = none.1 in absurd (omega (arith, n))
  | inr some ↦ absurd (false≢true (sym some.0 ∙ e))
]

pub may_be_refused : (s : CoreState) (c : Call) (cause : Refused) → refusal_of s c ≡ Some cause → MayBeRefused s.sizes.m c cause
may_be_refused s c cause is = (calls_are_refused_at_once s c cause is).0

-- the machine has begun a call, and a step of it is due
pub record Begins (s : CoreState) (c : Call) : Type 0 where
  pub begun : is_begun (begun_of s c).stage ≡ true
  pub due : is_at_rest (begun_of s c).stage ≡ false
  pub makes : makes_steps c ≡ true
  pub called : call_of (begun_of s c) ≡ Some c
  pub few : steps_left (begun_of s c) ≤ most_steps s.sizes c
  pub sound : IsSound s → IsSound (begun_of s c)

-- a call that is begun isn't at rest
begun_due : (t : Stage) → is_begun t ≡ true → is_at_rest t ≡ false
begun_due (ReadBegun j) h = refl
begun_due (UpdateBegun c) h = refl
begun_due ScanBegun h = refl
begun_due _ h = absurd (false≢true h)

pub begins : (s : CoreState) (c : Call) → AreComponentIndices s.sizes s.asked → IsServed s.sizes.m c → refusal_of s c ≡ None → reply_of (begun_of s c) ≡ None → Begins s c
begins s c asked served is unreplied =
    let b = calls_begin s c asked served is in
    let makes : makes_steps c ≡ true = either (makes_steps c) refl b.at_once in
    let begun : is_begun (begun_of s c).stage ≡ true = b.begun ∙ makes in
    record { begun = begun; due = begun_due (begun_of s c).stage begun; makes = makes; called = b.made makes; few = b.few; sound = b.sound }
  where
    either : (f : Bool) → makes_steps c ≡ f → (makes_steps c ≡ false → reply_of (begun_of s c) ≡ Some (Reply.Scanned 0 None)) → makes_steps c ≡ true
    either true e g = e
    either false e g = let bad : Some (Reply.Scanned 0 None) ≡ None = sym (g e) ∙ unreplied in absurd cc

pub begun_sizes : (s : CoreState) (c : Call) → (begun_of s c).sizes ≡ s.sizes
begun_sizes s (Call.Update j v) = refl
begun_sizes s (Call.Scan js) = refl
begun_sizes s (Call.Read j) = refl
begun_sizes s (Call.UpdateIf j x v) = refl

-- what is between calls
pub between_of : {o : Opening} {log : List Applied} {calls : List Call} {p : ℕ} {x : Part} {port : Port} → PortFits o log calls p x port → port.under_way ≡ None → IsBetween x port.core
between_of {log} {calls} {x} {port} w none = subst (λ (f : Option UnderWay). MatchOption f (IsBetween x port.core) (IsCallUnderWay (length log) calls x port.core port.finished.items)) none w.way

-- the call under way of a port
pub under_way : {o : Opening} {log : List Applied} {calls : List Call} {p : ℕ} {x : Part} {port : Port} {way : UnderWay} → PortFits o log calls p x port → port.under_way ≡ Some way →
    IsCallUnderWay (length log) calls x port.core port.finished.items way
under_way {log} {calls} {x} {port} w is = subst (λ (f : Option UnderWay). MatchOption f (IsBetween x port.core) (IsCallUnderWay (length log) calls x port.core port.finished.items)) is w.way

-- a call begins at a port between calls
pub begun_fits : {o : Opening} {log : List Applied} {calls : List Call} {p : ℕ} {x : Part} {port new : Port} {call : Call} → PortFits o log calls p x port → port.under_way ≡ None →
    slice_get calls (length port.finished.items) ≡ Some call → IsServed port.core.sizes.m call → refusal_of port.core call ≡ None → reply_of (begun_of port.core call) ≡ None →
    new.number ≡ port.number → new.core ≡ begun_of port.core call → new.finished ≡ port.finished → new.under_way ≡ Some (record { began = length log; steps = 0 }) → PortFits o log calls p x new
begun_fits {o} {log} {calls} {p} {x} {port} {new} {call} w none next served refusal reply number core finished way =
    let between = between_of w none in
    let done : new.finished.items ≡ port.finished.items = ap (λ (v : Vec Called Global). v.items) finished in
    let c = new.core in
    let b = begins port.core call between.sound.asked served refusal reply in
    let begun : is_begun c.stage ≡ true = ap (λ (s : CoreState). is_begun s.stage) core ∙ b.begun in
    let sizes : c.sizes ≡ port.core.sizes = ap (λ (s : CoreState). s.sizes) core ∙ begun_sizes port.core call in
    let h : HasBegun (begun_of port.core call) x = (calls_begin_between x port.core between).begins call served refusal b.makes in
    let machine : IsMachineOf c x = inl (subst (λ (d : CoreState). HasBegun d x) (sym core) h) in
    let low = ends_within (length log) p 0 0 port.finished.items (omega arith) w.finished in
    let going : IsCallUnderWay (length log) calls x c new.finished.items (record { began = length log; steps = 0 }) = record {
      call = call;
      next = ap (λ (l : List Called). slice_get calls (length l)) done ∙ next;
      begun = ap (λ (b : Bool). call_of (if b then c else x.begun)) begun ∙ ap call_of core ∙ b.called;
      behind = subst (λ (l : List Called). ends_of 0 l ≤ length log) (sym done) low;
      within = omega arith;
      first = λ b. absurd (false≢true (sym b ∙ begun));
      machine = machine;
      due = ap (λ (s : CoreState). is_at_rest s.stage) core ∙ b.due;
      steps = let left : steps_left c ≡ steps_left (begun_of port.core call) = ap steps_left core in let few = b.few in let most : most_steps c.sizes call ≡ most_steps port.core.sizes call =
          ap (λ (z : Layout). most_steps z call) sizes in omega (arith, left, few, most);
    } in
    fits_with (number ∙ w.number) w.part (ap (λ (z : Layout). z.m) sizes ∙ w.sizes)
    (subst (λ (l : List Called). DoneFits o log calls p l (places_written x.notes)) (sym done) (done_of w))
    (subst (λ (l : List Called). AreFew c.sizes l) (sym done) (subst (λ (z : Layout). AreFew z port.finished.items) (sym sizes) w.bounded)) refl
    (subst (λ (f : Option UnderWay). MatchOption f (IsBetween x c) (IsCallUnderWay (length log) calls x c new.finished.items)) (sym way) going)

-- a call that is finished at once, and the machine after it
record OnceEnded (o : Opening) (log : List Applied) (p number low seen : ℕ) (call : Call) (c : Called) (s t : CoreState) (x : Part) : Type 0 where
  ended : EndedCall o log p number low seen call c
  writes : wrote ended.note ≡ []
  between : IsBetween x t
  sizes : t.sizes ≡ s.sizes

-- only a scan of no position is finished at once
pub once_empty : (s : CoreState) (c : Call) (r : Reply) → reply_of (begun_of s c) ≡ Some r → (c ≡ Call.Scan []) × (r ≡ Reply.Scanned 0 None)
once_empty s (Call.Update j v) r is = let bad : None ≡ Some r = is in cc
once_empty s (Call.Scan js) r is = at (length js == 0) refl
  where
    at : (b : Bool) → (length js == 0) ≡ b → (Call.Scan js ≡ Call.Scan []) × (r ≡ Reply.Scanned 0 None)
    at true e = (
      ap Call.Scan (no_position js e),
      (let same : Some (Reply.Scanned 0 None) ≡ Some r =
          ap (λ (b : Bool). reply_at (if b then Finished (Reply.Scanned 0 None) else ScanBegun)) (sym e) ∙ is in cc),
    )
    at false e = let bad : None ≡ Some r = ap (λ (b : Bool). reply_at (if b then Finished (Reply.Scanned 0 None) else ScanBegun)) (sym e) ∙ is in cc
once_empty s (Call.Read j) r is = let bad : None ≡ Some r = is in cc
once_empty s (Call.UpdateIf j x v) r is = let bad : None ≡ Some r = is in cc

once_refused : {o : Opening} {log : List Applied} {p number low seen : ℕ} {call : Call} {c : Called} {s t : CoreState} {x : Part} → IsDoneAtOnce p number call (length log) s t c →
    IsRefusedAtOnce s c t → low ≤ length log → s.sizes.m ≡ length o.values → IsBetween x s → OnceEnded o log p number low seen call c s t x
once_refused {o} {call} {s} {x} d r behind sizes between =
    let may : MayBeRefused (length o.values) call r.cause = subst (λ m. MayBeRefused m call r.cause) sizes (may_be_refused s call r.cause (ap (refusal_of s) (sym d.call') ∙ r.refused)) in
    record {
      ended = record {
        answer = Answer.Refused r.cause;
        note = None;
        port = d.port;
        number' = d.number';
        call' = d.call';
        behind = let at = d.began in omega (arith, at, behind);
        within = let at = d.began in omega (arith, at);
        finish = r.finish ∙ ap (λ n. Some (record { ended = n; answer = Answer.Refused r.cause; note = None })) d.began;
        placed = tt;
        legal = (may, tt);
        least = tt;
      };
      writes = refl;
      between = subst (IsBetween x) (sym r.rests) between;
      sizes = ap (λ (v : CoreState). v.sizes) r.rests;
    }

once_finished : {o : Opening} {log : List Applied} {p number low seen : ℕ} {made : Call} {c : Called} {s t : CoreState} {x : Part} → IsDoneAtOnce p number made (length log) s t c →
    IsFinishedAtOnce s c t → low ≤ length log → seen ≤ low → IsBetween x s → OnceEnded o log p number low seen made c s t x
once_finished {o} {log} {p} {seen} {made} {c} {s} {t} {x} d f behind earlier between =
    let e = once_empty s c.call f.reply f.replied in
    let is : made ≡ Call.Scan [] = sym d.call' ∙ e.0 in
    let a : answer_for (begun_of s c.call) f.reply ≡ Answer.Scanned [] 0 None = ap (λ (v : Call). answer_for (begun_of s v) f.reply) e.0 ∙ ap (answer_for (begin_scan s [])) e.1 in
    let at_once = (calls_begin_between x s between).at_once in
    let rests : t ≡ at_stage (begin_scan s []) Idle = f.rests ∙ ap (λ (v : Call). at_stage (begun_of s v) Idle) e.0 in
    let nil : List ℕ = [] in
    record {
      ended = record {
        answer = Answer.Scanned [] 0 None;
        note = Some (Note.Saw (length log));
        port = d.port;
        number' = d.number';
        call' = d.call';
        behind = let at = d.began in omega (arith, at, behind);
        within = let at = d.began in omega (arith, at);
        finish = f.finish ∙ ap (λ (v : Answer). Some (record { ended = c.began; answer = v; note = Some (Note.Saw c.began) })) a ∙
            ap (λ n. Some (record { ended = n; answer = Answer.Scanned [] 0 None; note = Some (Note.Saw n) })) d.began;
        placed = (let at = d.began in omega (arith, at), omega arith);
        legal = subst (λ (v : Call). IsLegal o log p seen (record { call = v; answer = Answer.Scanned [] 0 None; note = Some (Note.Saw (length log)) })) (sym is)
            (tt, (record { within = omega arith; values = refl; collects = (refl, refl); borrowed = tt }, omega (arith, earlier, behind)));
        least = λ i from below shows. let at = d.began in omega (arith, at, from, below);
      };
      writes = refl;
      between = subst (IsBetween x) (sym rests) at_once;
      sizes = ap (λ (v : CoreState). v.sizes) rests;
    }

-- the machine after such a call is idle, and has the same sizes
pub once_idle : {p number : ℕ} {made : Call} {seen : ℕ} {s t : CoreState} {c : Called} → IsDoneAtOnce p number made seen s t c → s.stage ≡ Idle → t.stage ≡ Idle
once_idle d idle = elim d.done [
  | inl r ↦ ap (λ (v : CoreState). v.stage) r.rests ∙ idle
  | inr f ↦ ap (λ (v : CoreState). v.stage) f.rests
]

pub once_sizes : {p number : ℕ} {made : Call} {seen : ℕ} {s t : CoreState} {c : Called} → IsDoneAtOnce p number made seen s t c → t.sizes ≡ s.sizes
once_sizes {s} {c} d = elim d.done [
  | inl r ↦ ap (λ (v : CoreState). v.sizes) r.rests
  | inr f ↦ ap (λ (v : CoreState). v.sizes) f.rests ∙ begun_sizes s c.call
]

-- a call is finished at once at a port between calls
pub once_fits : {o : Opening} {log : List Applied} {calls : List Call} {p : ℕ} {x : Part} {port new : Port} {call : Call} {c : Called} → PortFits o log calls p x port → port.under_way ≡ None →
    slice_get calls (length port.finished.items) ≡ Some call → IsDoneAtOnce port.number (length port.finished.items) call (length log) port.core new.core c → new.number ≡ port.number →
    new.finished.items ≡ port.finished.items ++ c ∷ [] → new.under_way ≡ None → PortFits o log calls p x new
once_fits {o} {log} {calls} {p} {x} {port} {new} {call} {c} w none next d number finished way =
    let between = between_of w none in
    let low = ends_within (length log) p 0 0 port.finished.items (omega arith) w.finished in
    let at : IsDoneAtOnce p (length port.finished.items) call (length log) port.core new.core c =
    subst (λ n. IsDoneAtOnce n (length port.finished.items) call (length log) port.core new.core c) w.number d in
    let e : OnceEnded o log p (length port.finished.items) (ends_of 0 port.finished.items) (seen_by 0 (notes_in port.finished.items)) call c port.core new.core x = elim d.done [
      | inl r ↦ once_refused at r low w.sizes between
      | inr f ↦ once_finished at f low w.shown between
    ] in
    let pushed : DoneFits o log calls p (port.finished.items ++ c ∷ []) (places_written x.notes ++ wrote (e.ended).note) = push_fits (done_of w) next e.ended in
    let bounded : AreFew new.core.sizes (port.finished.items ++ c ∷ []) = AllByRecursion-push (λ (f : Called). f.steps ≤ most_steps new.core.sizes f.call) port.finished.items c
    (subst (λ (z : Layout). AreFew z port.finished.items) (sym e.sizes) w.bounded) (let steps = d.steps in omega (arith, steps)) in
    fits_with (number ∙ w.number) w.part (ap (λ (z : Layout). z.m) e.sizes ∙ w.sizes)
    (subst (λ (l : List Called). DoneFits o log calls p l (places_written x.notes ++ wrote (e.ended).note)) (sym finished) pushed)
    (subst (λ (l : List Called). AreFew new.core.sizes l) (sym finished) bounded)
    (ap (λ (l : List ℕ). places_written x.notes ++ l) e.writes ∙ append-nil (places_written x.notes))
    (subst (λ (f : Option UnderWay). MatchOption f (IsBetween x new.core) (IsCallUnderWay (length log) calls x new.core new.finished.items)) (sym way) e.between)

-- the call that stands after the finished ones
pub call_at_place : (calls : List Call) (done : List Called) (n : ℕ) (call : Call) → n ≡ length done → n < length calls → call ≡ slice_index_or calls n call → slice_get calls (length done) ≡ Some call
call_at_place calls done n call same below is = ap (slice_get calls) (sym same) ∙ get_is calls n call below ∙ ap Some (sym is)

-- a machine between calls still has the values of its last scan
pub answer_idle : (s : CoreState) (r : Reply) → answer_for (at_stage s Idle) r ≡ answer_for s r
answer_idle s (Reply.Applied stamp) = refl
answer_idle s (Reply.Lost by) = refl
answer_idle s (Reply.Scanned collects borrowed) = refl
answer_idle s (Reply.Read v stamp) = refl
answer_idle s (Reply.Refused cause) = refl
answer_idle s (Reply.Changed by) = refl

-- a step that ends its call
pub step_ended : (calls : List Call) (old now : Memory) (port new : Port) (step : Step) (way : UnderWay) (a : ℕ) (core' core'' : CoreState) (r : Reply) (call : Call) (called : Called) →
    step_of port.core ≡ Some step → port.under_way ≡ Some way → IsPossible port.core (answer_of old.words step) → a ≡ answer_of old.words step →
    now.words ≡ words_after old.words step → now.trace ≡ old.trace ++ record { port = port.number; step = step; answer = a } ∷ [] →
    now.history.items ≡ old.history.items ++ entry_at port.core.sizes.m now.words port.number step a → core' ≡ advance port.core a → steps_left core' < steps_left port.core →
    reply_of core' ≡ Some r → core'' ≡ at_stage core' Idle → slice_get calls (length port.finished.items) ≡ Some call →
    IsEndedCall port.number (length port.finished.items) call (one_step_more way) now.words now.history.items (answer_for core' r) called → new.number ≡ port.number → new.core ≡ core'' →
    new.under_way ≡ None → new.finished.items ≡ port.finished.items ++ called ∷ [] → StepMade calls old now port new
step_ended calls old now port new step way a core' core'' r call called due was possible answer words_are trace_is log_is core falls replied taken next ended number machine none finished =
    let moved : core' ≡ core_behind old step port = core ∙ ap (advance port.core) answer in
    let reply' : reply_of (core_behind old step port) ≡ Some r = ap reply_of (sym moved) ∙ replied in
    let ended' : IsEndedCall port.number (length port.finished.items) call (one_step_more way) now.words now.history.items (answer_for (core_behind old step port) r) called =
    subst (λ (s : CoreState). IsEndedCall port.number (length port.finished.items) call (one_step_more way) now.words now.history.items (answer_for s r) called) moved ended in
    let after : Ends calls now.words now.history.items port new way (core_behind old step port) r = record {
      machine = machine ∙ taken ∙ ap (λ (s : CoreState). at_stage s Idle) moved;
      none = none;
      call = call;
      next = next;
      note = ended'.0;
      noted = ended'.1;
      finished = finished ∙ ap (λ (c : Called). port.finished.items ++ c ∷ []) (ended'.2);
    } in
    record {
      step = step;
      way = way;
      due = due;
      was = was;
      possible = possible;
      words_are = words_are;
      trace_is = trace_is ∙ ap (λ n. old.trace ++ record { port = port.number; step = step; answer = n } ∷ []) answer;
      log_is = log_is ∙ ap (λ n. old.history.items ++ entry_at port.core.sizes.m now.words port.number step n) answer;
      number = number;
      falls = subst (λ (s : CoreState). steps_left s < steps_left port.core) moved falls;
      after = subst (λ (f : Option Reply). MatchOption f (CallGoesOn port new way (core_behind old step port))
          (Ends calls now.words now.history.items port new way (core_behind old step port))) (sym reply') after;
    }

-- a step's call goes on, or it ends
pub step_cases : {calls : List Call} {old now : Memory} {port new : Port} (m : StepMade calls old now port new) (P : Type 0) → (CallGoesOn port new m.way (core_behind old m.step port) → P) →
    ((r : Reply) → reply_of (core_behind old m.step port) ≡ Some r → Ends calls now.words now.history.items port new m.way (core_behind old m.step port) r → P) → P
step_cases {calls} {old} {now} {port} {new} m P goes ends = at (reply_of (core_behind old m.step port)) refl m.after
  where
    at : (found : Option Reply) → reply_of (core_behind old m.step port) ≡ found → MatchOption found (CallGoesOn port new m.way (core_behind old m.step port))
        (Ends calls now.words now.history.items port new m.way (core_behind old m.step port)) → P
    at None is g = goes g
    at (Some r) is e = ends r is e
