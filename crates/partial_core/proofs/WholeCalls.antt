-- A whole call, step by step.
use Rattle.partial_core.proofs.{Common.{ℕ, ◌≡◌, ◌+◌, ◌<◌, ◌≤◌, ◌++◌, ◌||◌, Bool, true, false, if◌then◌else◌, Option, Some, None, List, [], ◌∷◌, length, take, refl, sym, ap, subst, ◌∙◌, arith, length-append, append-nil, length-map, length_push, map_push, take-append-le, Applied, Opening, Noted, Layout, IsLayout, Reply, Stage, Idle, Finished, CoreState, at_stage, advance, reply_at, reply_of, is_begun, is_at_rest, begun_of, begin_scan, IsSound, IsPossible, IsPossibleAt, Run, AreOfScan, pairs_loaded, most_steps, IsMarkedFor, refuses_pool, refuses_slots, IsAfterAnswer, calls_begin, rests_are_sound, makes_few_steps, reads_in_two, KeptAnswer, Part, core_of, answers_of, first_at, HasBegun, IsMarkedLike, AreNotesOf, StepShows}, Parts.seen_within}
use Rattle.partial_model.specs.declared.call.{Call.Call, Refused.Refused}
use Rattle.partial_machine.proofs.ScanCounts.{scans_make_their_steps}
use Rattle.partial_core.specs.Calls.{IsRefusedLast, Made, FirstStepsMakeCalls, FurtherStepsMakeCalls, MadeCallsMakeTheirSteps, CallsBeginBetween, PortsComeBetween}
use Rattle.partial_model.proofs.StampsStay.{take_within}

-- where no step is due no answer is possible
idle_none : (s : CoreState) (t : Stage) (a : ℕ) → IsPossibleAt s t a → reply_at t ≡ None
idle_none s (Finished r) a p = absurd p
idle_none s _ a p = refl

run_push : (s t : CoreState) (xs : List ℕ) (a : ℕ) → Run s xs t → IsPossible t a → Run s (xs ++ a ∷ []) (advance t a)
run_push s t [] a m possible = (subst (λ (v : CoreState). IsPossible v a) m possible, ap (λ (v : CoreState). advance v a) m)
run_push s t (x ∷ xs) a m possible = (m.0, run_push (advance s x) t xs a m.1 possible)

pub first_push : (ks : List KeptAnswer) (k : KeptAnswer) → 0 < length ks → first_at (ks ++ k ∷ []) ≡ first_at ks
first_push [] k some = absurd (omega (arith, some))
first_push (x ∷ ks) k some = refl

-- a beginning of a list is one of a longer list
take_on : {A : Type 0} (xs ys es : List A) → xs ≡ take (length xs) ys → xs ≡ take (length xs) (ys ++ es)
take_on xs ys es e = e ∙ sym (take-append-le (length xs) ys es (seen_within xs ys e))

take_through : {A : Type 0} (xs ys zs : List A) → xs ≡ take (length xs) ys → ys ≡ take (length ys) zs → xs ≡ take (length xs) zs
take_through xs ys zs e f = e ∙ ap (take (length xs)) f ∙ take_within (length xs) (length ys) zs (seen_within xs ys e)

-- a refused call has marked its port
marked_for : (s : CoreState) (a : ℕ) (cause : Refused) → IsAfterAnswer s a → reply_of (advance s a) ≡ Some (Reply.Refused cause) → IsMarkedFor (advance s a) cause
marked_for s a Refused.Component b is = let r = b.refused_by Refused.Component is in r.0
marked_for s a Refused.SlotsSpent b is = b.slots ∙ ap (λ (f : Option Reply). refuses_slots f || s.slots_spent) is
marked_for s a Refused.PoolSpent b is = b.pool ∙ ap (λ (f : Option Reply). refuses_pool f || s.pool_spent) is

-- a step of the machine c that came from the part y to the part v
module _ (z : Layout) (o : Opening) (log entries : List Applied) (y : Part) (c : CoreState) (a : ℕ) (v : Part) (t : StepShows z o log entries y c a v) where
  abbrev k : KeptAnswer
  k = record { answer = a; at = length (log ++ entries) }

  then_seen : v.seen ≡ log ++ entries
  then_seen = ap (λ (p : Part). p.seen) t.part

  then_begun : (flag : Bool) → is_begun c.stage ≡ flag → v.begun ≡ (if flag then c else y.begun)
  then_begun flag is = ap (λ (p : Part). p.begun) t.part ∙ ap (λ f. if f then c else y.begun) is

  then_kept : (flag : Bool) → is_begun c.stage ≡ flag → v.kept ≡ (if flag then [] else y.kept) ++ k ∷ []
  then_kept flag is = ap (λ (p : Part). p.kept) t.part ∙ ap (λ f. (if f then [] else y.kept) ++ k ∷ []) is

  grown : length y.seen ≤ length (log ++ entries)
  grown = let n = seen_within y.seen log t.seen in let m = length-append log entries in omega (arith, n, m)

  more_seen : y.seen ≡ take (length y.seen) v.seen
  more_seen = take_on y.seen log entries t.seen ∙ ap (take (length y.seen)) (sym then_seen)

  refused_last : (b : CoreState) (front : List ℕ) → Run b front c → (cause : Refused) → reply_of (advance c a) ≡ Some (Reply.Refused cause) → IsRefusedLast b (front ++ a ∷ []) (advance c a) cause
  refused_last b front led cause is =
      let r = t.behind.refused_by cause is in
      record { front = front; last = a; is = refl; claims = c; led = led; ends = refl; past = r.0; unmarked = r.1; marked = marked_for c a cause t.behind is }

  pub made_first : HasBegun c y → IsSound c → Made z o c y (advance c a) v
  made_first h sound =
      let behind = t.behind in
      let kept : v.kept ≡ k ∷ [] = then_kept true h.begun in
      let count : length v.kept ≡ 1 = ap length kept in
      let at : first_at v.kept ≡ length (log ++ entries) = ap first_at kept in
      let answers : answers_of v.kept ≡ a ∷ [] = ap answers_of kept in
      record {
        sizes = behind.sizes ∙ t.sizes;
        number = behind.port ∙ t.number ∙ sym t.port;
        port = t.port;
        machine = t.machine;
        sound = behind.sound;
        begun = then_begun true h.begun;
        begun_sizes = t.sizes;
        begun_sound = sound;
        some = omega (arith, count);
        run = subst (λ (xs : List ℕ). Run c xs (advance c a)) (sym answers) (t.possible, refl);
        first = let g = grown in omega (arith, at, g);
        seen = more_seen;
        new = t.new;
        notes = ap (λ (p : Part). p.notes) t.part;
        noted = t.noted;
        fits = t.fits;
        rests = behind.rests;
        due = behind.due;
        refused_by = λ cause is. subst (λ (xs : List ℕ). IsRefusedLast c xs (advance c a) cause) (sym answers) (refused_last c [] refl cause is);
      }

  pub made_next : (b : CoreState) (x : Part) → Made z o b x c y → Made z o b x (advance c a) v
  made_next b x m =
      let behind = t.behind in
      let kept : v.kept ≡ y.kept ++ k ∷ [] = then_kept false m.machine.going in
      let count : length v.kept ≡ length y.kept + 1 = ap length kept ∙ length_push y.kept k in
      let at : first_at v.kept ≡ first_at y.kept = ap first_at kept ∙ first_push y.kept k m.some in
      let answers : answers_of v.kept ≡ answers_of y.kept ++ a ∷ [] = ap answers_of kept ∙ map_push (λ (j : KeptAnswer). j.answer) y.kept k in
      let nothing : m.new ≡ [] = subst (λ (f : Option Reply). AreNotesOf o y f m.new) (idle_none c c.stage a t.possible) m.noted in
      let before : y.notes ≡ x.notes = m.notes ∙ ap (λ (l : List Noted). x.notes ++ l) nothing ∙ append-nil x.notes in
      let first = m.first in
      record {
        sizes = behind.sizes ∙ t.sizes;
        number = behind.port ∙ t.number ∙ sym t.port;
        port = t.port ∙ m.port;
        machine = t.machine;
        sound = behind.sound;
        begun = then_begun false m.machine.going ∙ m.begun;
        begun_sizes = m.begun_sizes;
        begun_sound = m.begun_sound;
        some = omega (arith, count);
        run = subst (λ (xs : List ℕ). Run b xs (advance c a)) (sym answers) (run_push b c (answers_of y.kept) a m.run t.possible);
        first = omega (arith, at, first);
        seen = take_through x.seen y.seen v.seen m.seen more_seen;
        new = t.new;
        notes = ap (λ (p : Part). p.notes) t.part ∙ ap (λ (l : List Noted). l ++ t.new) before;
        noted = t.noted;
        fits = t.fits;
        rests = behind.rests;
        due = behind.due;
        refused_by = λ cause is. subst (λ (xs : List ℕ). IsRefusedLast b xs (advance c a) cause) (sym answers) (refused_last b (answers_of y.kept) m.run cause is);
      }

pub first_steps_make_calls : FirstStepsMakeCalls
first_steps_make_calls z o log entries b x a y h sound t = made_first z o log entries x b a y t h sound

pub further_steps_make_calls : FurtherStepsMakeCalls
further_steps_make_calls z o log entries b x c y a v m t = made_next z o log entries y c a v t b x m

pub made_calls_make_their_steps : MadeCallsMakeTheirSteps
made_calls_make_their_steps z o b x c y layout m =
    let long : length (answers_of y.kept) ≡ length y.kept = length-map y.kept (λ (k : KeptAnswer). k.answer) in
    let there : IsLayout b.sizes = subst IsLayout (sym m.begun_sizes) layout in
    record {
      few = λ call made.
          let counts = makes_few_steps b c call (answers_of y.kept) there m.begun_sound made m.run in
          let same : most_steps b.sizes call ≡ most_steps z call = ap (λ (l : Layout). most_steps l call) m.begun_sizes in
          omega (arith, counts, same, long);
      read = λ j r e replied. sym long ∙ reads_in_two b c j (answers_of y.kept) r e m.run replied;
      scan = λ n borrowed e replied.
          let steps = scans_make_their_steps b c (answers_of y.kept) n borrowed there m.begun_sound e m.run replied in
          subst (λ (k : ℕ). AreOfScan (length b.asked) n (pairs_loaded b (answers_of y.kept)) k borrowed) long steps;
    }

-- a machine that has begun a call has the marks of the one between calls
begun_from : (s d : CoreState) (c : Call) → IsMarkedLike d s → IsMarkedLike d (begun_of s c)
begun_from s d (Call.Update j v) like = record { sizes = like.sizes; port = like.port; pool = like.pool; slots = like.slots; lists = like.lists; spare = like.spare }
begun_from s d (Call.Scan js) like = record { sizes = like.sizes; port = like.port; pool = like.pool; slots = like.slots; lists = like.lists; spare = like.spare }
begun_from s d (Call.Read j) like = record { sizes = like.sizes; port = like.port; pool = like.pool; slots = like.slots; lists = like.lists; spare = like.spare }
begun_from s d (Call.UpdateIf j x v) like = record { sizes = like.sizes; port = like.port; pool = like.pool; slots = like.slots; lists = like.lists; spare = like.spare }

pub calls_begin_between : CallsBeginBetween
calls_begin_between x core between = record {
  begins = λ c served is makes.
      let b = calls_begin core c between.sound.asked served is in
      record {
        begun = b.begun ∙ makes;
        rest = between.rest;
        like = begun_from core (core_of x) c between.like;
        sound = b.sound between.sound;
      };
  at_once =
      let b = calls_begin core (Call.Scan []) between.sound.asked (omega arith) refl in
      let like = between.like in
      record {
        rest = between.rest;
        like = record { sizes = like.sizes; port = like.port; pool = like.pool; slots = like.slots; lists = like.lists; spare = like.spare };
        idle = refl;
        sound = rests_are_sound.idle (begin_scan core []) (b.sound between.sound);
      };
}

pub ports_come_between : PortsComeBetween
ports_come_between = (
  (λ z port layout. record {
    rest = refl;
    like = record { sizes = refl; port = refl; pool = refl; slots = refl; lists = refl; spare = refl };
    idle = refl;
    sound = rests_are_sound.fresh z port layout;
  }),
  (λ z o b x c y m replied. record {
    rest = ap (λ (d : CoreState). is_at_rest d.stage) (sym m.machine.is) ∙ m.rests ∙ replied;
    like = subst (λ (d : CoreState). IsMarkedLike d (at_stage c Idle)) m.machine.is (record { sizes = refl; port = refl; pool = refl; slots = refl; lists = refl; spare = refl });
    idle = refl;
    sound = rests_are_sound.idle c m.sound;
  }),
)
