-- What one step of a port's machine leads to, from what it does to the words and to what the port holds.
use Rattle.partial_core.proofs.{Common.{ℕ, ◌≡◌, ◌<◌, ◌≤◌, ◌++◌, true, false, if◌then◌else◌, Option, Some, List, [], ◌∷◌, length, slice_index, refl, sym, ap, subst, ◌∙◌, arith, false≢true, append-nil, take_all, Applied, Opening, Noted, IsLegal, seen_by, seen_after, places_by, places_written, seen_by-push, places_written-append, Step, Load, Layout, Answers, answer_of, words_after, word_of, Stage, CoreState, lists_spent, advance_at, step_at, step_of, reply_of, IsSound, is_sound_at, IsPossible, IsPossibleAt, Holding, LawfulWords, KeptAnswer, IsLoaded, loads_are_true, IsReadable, Part, core_of, port_of, led_by, first_at, holding_of, holding_at, holdings, joined_from, joined_since, joins_at, own_at, is_begun, is_at_rest, IsTrueYet, IsKnown, AreAnswersKept, AreNotesOf, has_no_step, PartAmong, LawfulAmong, all_parts}, Added.added_at, MidCalls.{knows_at, Knows}, Calls.{led, IsLed, called_on, last_at, joined_push}, Parts.{LawfulWith, IsKeptAmong, seen_within, known_grows, gone, gone_core, known_on, known_end, holdings_split, all_at, changed, once_same}}
use Rattle.partial_machine.specs.declared.stage.Stage.TheVariants.{Idle, ReadBegun, LoadingValue, UpdateBegun, GettingSet, Viewing, ClaimingRecord, StoringRecord, Exchanging, ScanBegun, StoringAnnouncement, Joining, Scanning, Leaving, Finished}
use Rattle.partial_core.specs.Held.{claimed_at, due_at}

-- the memory after a step of the part's machine at a stage, with what is noted
abbrev pub memory_gone : PartAmong → Stage → Step → List Noted → PartAmong
memory_gone m s step new =
    let a = answer_of m.words step in
    let log = m.log ++ added_at (core_of m.part).port s a in
    record m { words = words_after m.words step; part = gone m.part log a new; log = log }

-- what a step of the part's machine at a stage leads to
pub record LeadsAt (z : Layout) (o : Opening) (m : PartAmong) (s : Stage) (step : Step) : Type 0 where
  pub answers : Answers m.words step (answer_of m.words step)
  pub possible : IsPossibleAt (core_of m.part) s (answer_of m.words step)
  pub new : List Noted
  pub noted : AreNotesOf o (memory_gone m s step new).part (reply_of (advance_at (core_of m.part) s (answer_of m.words step))) new
  pub lawful : LawfulAmong z o (memory_gone m s step new)
  pub loads : (n : ℕ) (k : KeptAnswer) → IsLoaded z o m.words (holdings (all_parts m)) m.log n k → IsLoaded z o (words_after m.words step)
      (holdings (all_parts (memory_gone m s step new))) (memory_gone m s step new).log n k

-- a machine with a due step isn't at rest
pub busy : (s : CoreState) (t : Stage) (step : Step) → step_at s t ≡ Some step → is_at_rest t ≡ false
busy s Idle step e = absurd cc
busy s (Finished r) step e = absurd cc
busy s _ step e = refl

-- what a machine holds at a stage that is named
abbrev pub holding_in : CoreState → Stage → ℕ → Holding
holding_in s stage since = record {
  port = s.port;
  claimed = claimed_at s stage since;
  own = own_at s stage;
  due = due_at stage;
  spare = s.spare;
  pool_spent = s.pool_spent;
  slots_spent = s.slots_spent;
  lists_spent = lists_spent s;
}

-- a note that claims no entry leaves the places that are written
pub written_same : (ns new : List Noted) → places_written new ≡ [] → places_written (ns ++ new) ≡ places_written ns
written_same ns new e = places_written-append ns new ∙ ap (λ (l : List ℕ). places_written ns ++ l) e ∙ append-nil (places_written ns)

module _ (z : Layout) (o : Opening) (m : PartAmong) (w : LawfulAmong z o m) where
  open m use {words, before, part as x, after, log}

  -- what all ports hold
  abbrev pub all_hold : List Holding
  all_hold = holdings (all_parts m)

  pub known_here : IsKnown z o words all_hold log x
  known_here = all_at (IsKnown z o words all_hold log) before x after w.known

  pub led_here : IsLed z x.begun (core_of x)
  led_here = let k = known_here in led z o words all_hold log x.since x.begun x.kept w.memory.sizes k.sizes k.sound k.kept

  pub sizes_here : (core_of x).sizes ≡ z
  sizes_here = let l = led_here in l.sizes

  pub sound_here : IsSound (core_of x)
  sound_here = let l = led_here in l.sound

  pub port_here : (core_of x).port ≡ port_of x
  port_here = let l = led_here in l.port

  pub sound_at : (s : Stage) → (core_of x).stage ≡ s → is_sound_at (core_of x) s
  sound_at s e = let sound = sound_here in subst (is_sound_at (core_of x)) e sound.stage

  pub seen_here : seen_by 0 x.notes ≤ length log
  seen_here = let k = known_here in let seen = seen_within x.seen log k.seen in let shown = k.shown in omega (arith, shown, seen)

  -- the words with what this port holds beside the others
  pub memory_here : LawfulWith z o m (holding_of x)
  memory_here = subst (λ (hs : List Holding). LawfulWords z o words hs log) (holdings_split before x after) w.memory

  pub memory_at : (s : Stage) → (core_of x).stage ≡ s → LawfulWith z o m (holding_in (core_of x) s (joined_since x))
  memory_at s e = subst (λ (t : Stage). LawfulWith z o m (holding_in (core_of x) t (joined_since x))) e memory_here

  -- what the part holds after one answer more
  pub holding_gone : (s : Stage) (t : CoreState) (l : List Applied) (a : ℕ) (new : List Noted) → (core_of x).stage ≡ s → advance_at (core_of x) s a ≡ t → holding_of (gone x l a new) ≡ holding_at t
      (if joins_at (core_of x) s then length l else joined_since x)
  holding_gone s t l a new e leads =
      let core = gone_core x l a new ∙ ap (λ (u : Stage). advance_at (core_of x) u a) e ∙ leads in
      let since = joined_push 0 x.begun x.kept (record { answer = a; at = length l }) ∙ ap (λ (u : Stage). if joins_at (core_of x) u then length l else joined_since x) e in
      ap (λ (c : CoreState). holding_at c (joined_since (gone x l a new))) core ∙ ap (λ (n : ℕ). holding_at t n) since

  -- a step that adds no entry leads to a state in which the part holds h'
  module _ (s : Stage) (step : Step) (t : CoreState) (h' : Holding) (e : (core_of x).stage ≡ s) (due : step_at (core_of x) s ≡ Some step) (leads : advance_at (core_of x) s (answer_of words step) ≡ t)
      (added : added_at (core_of x).port s (answer_of words step) ≡ []) (within : word_of step < length words) (possible : IsPossibleAt (core_of x) s (answer_of words step))
      (holds : holding_at t (if joins_at (core_of x) s then length log else joined_since x) ≡ h')
      (keeps : IsKeptAmong z o m (holding_of x) (words_after words step) h' log)
      (yet : (hs : List Holding) → hs ≡ holdings before ++ h' ∷ holdings after → IsTrueYet z o (words_after words step) hs log (Some step)
      (record { answer = answer_of words step; at = length log })) where
    a : ℕ
    a = answer_of words step

    possible_here : IsPossible (core_of x) (answer_of words step)
    possible_here = subst (λ (u : Stage). IsPossibleAt (core_of x) u (answer_of words step)) (sym e) possible

    due_here : step_of (core_of x) ≡ Some step
    due_here = ap (step_at (core_of x)) e ∙ due

    holding_then : (new : List Noted) → holding_of (gone x log (answer_of words step) new) ≡ h'
    holding_then new = holding_gone s t log (answer_of words step) new e leads ∙ holds

    -- the state after the step, with what is noted
    lawful_then : (new : List Noted) → places_written new ≡ [] → ((hs : List Holding) → IsKnown z o (words_after words step) hs log x → IsTrueYet z o (words_after words step) hs log
        (step_of (core_of x)) (record { answer = answer_of words step; at = length log }) → IsKnown z o (words_after words step) hs log (gone x log (answer_of words step) new)) →
        LawfulAmong z o (record m { words = words_after words step; part = gone x log (answer_of words step) new })
    lawful_then new written known =
        let y = gone x log (answer_of words step) new in
        let split = holdings_split before y after ∙ ap (λ (h : Holding). holdings before ++ h ∷ holdings after) (holding_then new) in
        let nil = append-nil log in
        let grown = known_grows z o words (words_after words step) all_hold (holdings (before ++ y ∷ after)) log []
        (λ n k l. subst (λ (hs : List Holding). IsLoaded z o (words_after words step) hs (log ++ []) n k) (sym split)
        (subst (λ (es : List Applied). IsLoaded z o (words_after words step) (holdings before ++ h' ∷ holdings after) es n k) (sym nil)
        (keeps.loads n k (subst (λ (hs : List Holding). IsLoaded z o words hs log n k) (holdings_split before x after) l)))) x known_here in
        let here : IsKnown z o (words_after words step) (holdings (before ++ y ∷ after)) log x =
        subst (λ (l : List Applied). IsKnown z o (words_after words step) (holdings (before ++ y ∷ after)) l x) nil grown in
        let true_now : IsTrueYet z o (words_after words step) (holdings (before ++ y ∷ after)) log (step_of (core_of x)) (record { answer = answer_of words step; at = length log }) =
        subst (λ (f : Option Step). IsTrueYet z o (words_after words step) (holdings (before ++ y ∷ after)) log f (record { answer = answer_of words step; at = length log })) (sym due_here)
        (yet (holdings (before ++ y ∷ after)) split) in
        let keeps_nil : IsKeptAmong z o m (holding_of x) (words_after words step) (holding_of y) (log ++ []) =
        subst (λ (h : Holding). IsKeptAmong z o m (holding_of x) (words_after words step) h (log ++ [])) (sym (holding_then new))
        (subst (λ (l : List Applied). IsKeptAmong z o m (holding_of x) (words_after words step) h' l) (sym nil) keeps) in
        subst (λ (l : List Applied). LawfulAmong z o (record m { words = words_after words step; part = y; log = l })) nil
        (changed z o m (words_after words step) y [] w keeps_nil
        (λ p. ap (places_by p 0) nil ∙ w.once p ∙ sym (once_same p before x y after refl (written_same x.notes new written)))
        (subst (λ (l : List Applied). IsKnown z o (words_after words step) (holdings (before ++ y ∷ after)) l y) (sym nil) (known (holdings (before ++ y ∷ after)) here true_now)))

    -- what was loaded goes on being true
    loads_then : (new : List Noted) (n : ℕ) (k : KeptAnswer) → IsLoaded z o words all_hold log n k → IsLoaded z o (words_after words step)
        (holdings (before ++ gone x log (answer_of words step) new ∷ after)) log n k
    loads_then new n k l =
        let split = holdings_split before (gone x log (answer_of words step) new) after ∙ ap (λ (h : Holding). holdings before ++ h ∷ holdings after) (holding_then new) in
        subst (λ (hs : List Holding). IsLoaded z o (words_after words step) hs log n k) (sym split)
        (keeps.loads n k (subst (λ (hs : List Holding). IsLoaded z o words hs log n k) (holdings_split before x after) l))

    made : (new : List Noted) → LawfulAmong z o (record m { words = words_after words step; part = gone x log (answer_of words step) new }) →
        AreNotesOf o (gone x log (answer_of words step) new) (reply_of t) new → LeadsAt z o m s step
    made new lawful noted =
        let nothing : log ++ added_at (core_of x).port s (answer_of words step) ≡ log = ap (λ (es : List Applied). log ++ es) added ∙ append-nil log in
        record {
          answers = record { within = within; gives = refl };
          possible = possible;
          new = new;
          noted = subst (λ (l : List Applied). AreNotesOf o (gone x l (answer_of words step) new) (reply_of (advance_at (core_of x) s (answer_of words step))) new) (sym nothing)
              (subst (λ (c : CoreState). AreNotesOf o (gone x log (answer_of words step) new) (reply_of c) new) (sym leads) noted);
          lawful = subst (λ (l : List Applied). LawfulAmong z o (record m { words = words_after words step; part = gone x l (answer_of words step) new; log = l })) (sym nothing) lawful;
          loads = λ n k l. subst (λ (es : List Applied). IsLoaded z o (words_after words step) (holdings (before ++ gone x es (answer_of words step) new ∷ after)) es n k) (sym nothing)
              (loads_then new n k l);
        }

    -- nothing is noted: the call goes on, or it is refused
    pub quiet : is_at_rest s ≡ false → AreNotesOf o (gone x log (answer_of words step) []) (reply_of t) [] → LeadsAt z o m s step
    quiet going noted = made [] (lawful_then [] refl (λ hs here true_now. known_on z o (words_after words step) hs log x (answer_of words step) here
        (ap is_at_rest e ∙ going) possible_here true_now)) noted

    -- the call ends with a note that claims no entry
    pub ends : (n : Noted) → places_written (n ∷ []) ≡ [] → IsLegal o log (port_of x) (seen_by 0 x.notes) n → seen_after (seen_by 0 x.notes) n.note ≤ length log → is_at_rest t.stage ≡ true →
        AreNotesOf o (gone x log (answer_of words step) (n ∷ [])) (reply_of t) (n ∷ []) → LeadsAt z o m s step
    ends n written legal shown rest noted =
        let pushed = seen_by-push 0 x.notes n in
        made (n ∷ []) (lawful_then (n ∷ []) written (λ hs here true_now. known_end z o (words_after words step) hs log x (answer_of words step) n here (ap is_at_rest e ∙ busy (core_of x) s step due)
        possible_here true_now legal (omega (arith, pushed, shown))
        (ap (λ (u : Stage). is_at_rest (advance_at (core_of x) u (answer_of words step)).stage) e ∙ ap (λ (c : CoreState). is_at_rest c.stage) leads ∙ rest))) noted

  -- a load changes no word, and what the port holds stays
  module _ (s : Stage) (n : ℕ) (t : CoreState) (e : (core_of x).stage ≡ s) (due : step_at (core_of x) s ≡ Some (Load n)) (leads : advance_at (core_of x) s (slice_index words n) ≡ t)
      (added : added_at (core_of x).port s (slice_index words n) ≡ []) (readable : IsReadable z words all_hold n) (possible : IsPossibleAt (core_of x) s (slice_index words n))
      (holds : holding_at t (if joins_at (core_of x) s then length log else joined_since x) ≡ holding_in (core_of x) s (joined_since x)) where
    load_keeps : IsKeptAmong z o m (holding_of x) words (holding_in (core_of x) s (joined_since x)) log
    load_keeps = subst (λ (u : Stage). IsKeptAmong z o m (holding_of x) words (holding_in (core_of x) u (joined_since x)) log) e
        (record { lawful = memory_here; loads = λ m k l. l })

    load_yet : (hs : List Holding) → hs ≡ holdings before ++ holding_in (core_of x) s (joined_since x) ∷ holdings after →
        IsLoaded z o words hs log n (record { answer = slice_index words n; at = length log })
    load_yet hs is =
        let same : all_hold ≡ hs = holdings_split before x after ∙ ap (λ (u : Stage). holdings before ++ holding_in (core_of x) u (joined_since x) ∷ holdings after) e ∙ sym is in
        subst (λ (ks : List Holding). IsLoaded z o words ks log n (record { answer = slice_index words n; at = length log })) same (loads_are_true z o words all_hold log n w.memory readable.0 readable.1)

    load_within : n < length words
    load_within = let count = w.memory.count in let below = readable.0 in omega (arith, count, below)

    pub load_quiet : is_at_rest s ≡ false → AreNotesOf o (gone x log (slice_index words n) []) (reply_of t) [] → LeadsAt z o m s (Load n)
    load_quiet going noted = quiet s (Load n) t (holding_in (core_of x) s (joined_since x)) e due leads added load_within possible holds load_keeps load_yet going noted

    pub load_ends : (note : Noted) → places_written (note ∷ []) ≡ [] → IsLegal o log (port_of x) (seen_by 0 x.notes) note → seen_after (seen_by 0 x.notes) note.note ≤ length log →
        is_at_rest t.stage ≡ true → AreNotesOf o (gone x log (slice_index words n) (note ∷ [])) (reply_of t) (note ∷ []) → LeadsAt z o m s (Load n)
    load_ends note written legal shown rest noted = ends s (Load n) t (holding_in (core_of x) s (joined_since x)) e due leads added load_within possible holds load_keeps load_yet note
        written legal shown rest noted

-- a machine that has made no step is begun or idle
no_begin : (s : CoreState) (t : Stage) → has_no_step t ≡ true → is_begun t ≡ false → is_at_rest t ≡ false → ⊥
no_begin s Idle w begun rest = cc
no_begin s (ReadBegun j) w begun rest = cc
no_begin s (UpdateBegun c) w begun rest = cc
no_begin s ScanBegun w begun rest = cc
no_begin s _ w begun rest = false≢true w

-- what a port in the middle of a call knows
pub record IsGoing (z : Layout) (o : Opening) (words : List ℕ) (hs : List Holding) (log : List Applied) (x : Part) (s : Stage) : Type 0 where
  pub high : ℕ
  pub order : first_at x.kept ≤ high
  pub inside : high ≤ length log
  pub behind : x.since ≤ first_at x.kept
  pub low : seen_by 0 x.notes ≤ first_at x.kept
  pub more : (k : KeptAnswer) → first_at (x.kept ++ k ∷ []) ≡ first_at x.kept
  pub knows : knows_at z o words hs log x.begun (first_at x.kept) (joined_since x) high (core_of x) s

going_from : (z : Layout) (o : Opening) (words : List ℕ) (hs : List Holding) (log : List Applied) (x : Part) (ks : List KeptAnswer) (s : Stage) → x.kept ≡ ks → LawfulWords z o words hs log →
    IsKnown z o words hs log x → (core_of x).stage ≡ s → is_begun s ≡ false → is_at_rest s ≡ false → IsGoing z o words hs log x s
going_from z o words hs log x [] s is w k e begun rest =
    let same : core_of x ≡ x.begun = ap (led_by x.begun) is in
    absurd (no_begin x.begun x.begun.stage k.begun (ap (λ (c : CoreState). is_begun c.stage) (sym same) ∙ ap is_begun e ∙ begun)
    (ap (λ (c : CoreState). is_at_rest c.stage) (sym same) ∙ ap is_at_rest e ∙ rest))
going_from z o words hs log x (f ∷ ks) s is w k e begun rest =
    let kept : AreAnswersKept z o words hs log x.since x.begun (f ∷ ks) = subst (AreAnswersKept z o words hs log x.since x.begun) is k.kept in
    let first : first_at x.kept ≡ f.at = ap first_at is in
    let gone_on = called_on z o words hs log w x.begun x.since f ks k.sizes k.sound k.begun kept in
    let order = gone_on.order in
    let behind = kept.0.behind in
    let past = k.going (ap is_at_rest e ∙ rest) in
    let earlier : seen_by 0 x.notes ≤ x.since = subst (λ (ns : List Noted). seen_by 0 ns ≤ x.since) (take_all x.past x.notes (omega (arith, past))) k.earlier in
    let knows : Knows z o words hs log x.begun f.at (joined_from 0 x.begun (f ∷ ks)) (last_at x.since (f ∷ ks)) (led_by x.begun (f ∷ ks)) = gone_on.knows in
    let knows_x : Knows z o words hs log x.begun f.at (joined_since x) (last_at x.since (f ∷ ks)) (core_of x) =
    subst (λ (l : List KeptAnswer). Knows z o words hs log x.begun f.at (joined_from 0 x.begun l) (last_at x.since (f ∷ ks)) (led_by x.begun l)) (sym is) knows in
    record {
      high = last_at x.since (f ∷ ks);
      order = omega (arith, first, order);
      inside = gone_on.inside;
      behind = omega (arith, first, behind);
      low = omega (arith, first, behind, earlier);
      more = λ n. ap (λ (l : List KeptAnswer). first_at (l ++ n ∷ [])) is ∙ sym first;
      knows = subst (λ (n : ℕ). knows_at z o words hs log x.begun n (joined_since x) (last_at x.since (f ∷ ks)) (core_of x) s) (sym first)
          (subst (λ (t : Stage). knows_at z o words hs log x.begun f.at (joined_since x) (last_at x.since (f ∷ ks)) (core_of x) t) e knows_x);
    }

module _ (z : Layout) (o : Opening) (m : PartAmong) (w : LawfulAmong z o m) where
  open m use {words, before, part as x, after, log}

  pub going : (s : Stage) → (core_of x).stage ≡ s → is_begun s ≡ false → is_at_rest s ≡ false → IsGoing z o words (holdings (before ++ x ∷ after)) log x s
  going s e begun rest = going_from z o words (holdings (before ++ x ∷ after)) log x x.kept s refl w.memory (known_here z o m w) e begun rest

-- a machine after its first answer isn't begun
not_begun : (z : Layout) (o : Opening) (words : List ℕ) (hs : List Holding) (log : List Applied) (begun : CoreState) (first since high : ℕ) (s : CoreState) (t : Stage) →
    knows_at z o words hs log begun first since high s t → is_begun t ≡ false
not_begun z o words hs log begun first since high s Idle w = refl
not_begun z o words hs log begun first since high s (ReadBegun j) w = absurd w
not_begun z o words hs log begun first since high s (LoadingValue stamp) w = refl
not_begun z o words hs log begun first since high s (UpdateBegun c) w = absurd w
not_begun z o words hs log begun first since high s (GettingSet c old) w = refl
not_begun z o words hs log begun first since high s (Viewing c old) w = refl
not_begun z o words hs log begun first since high s (ClaimingRecord c old) w = refl
not_begun z o words hs log begun first since high s (StoringRecord c old at k) w = refl
not_begun z o words hs log begun first since high s (Exchanging c old at) w = refl
not_begun z o words hs log begun first since high s ScanBegun w = absurd w
not_begun z o words hs log begun first since high s (StoringAnnouncement at k) w = refl
not_begun z o words hs log begun first since high s Joining w = refl
not_begun z o words hs log begun first since high s Scanning w = refl
not_begun z o words hs log begun first since high s Leaving w = refl
not_begun z o words hs log begun first since high s (Finished r) w = refl

starting_from : (z : Layout) (o : Opening) (words : List ℕ) (hs : List Holding) (log : List Applied) (x : Part) (ks : List KeptAnswer) → x.kept ≡ ks → LawfulWords z o words hs log →
    IsKnown z o words hs log x → is_begun (core_of x).stage ≡ true → x.kept ≡ []
starting_from z o words hs log x [] is w k begun = is
starting_from z o words hs log x (f ∷ ks) is w k begun =
    let kept : AreAnswersKept z o words hs log x.since x.begun (f ∷ ks) = subst (AreAnswersKept z o words hs log x.since x.begun) is k.kept in
    let gone_on = called_on z o words hs log w x.begun x.since f ks k.sizes k.sound k.begun kept in
    let no : is_begun (led_by x.begun (f ∷ ks)).stage ≡ false = not_begun z o words hs log x.begun f.at (joined_from 0 x.begun (f ∷ ks)) (last_at x.since (f ∷ ks)) (led_by x.begun (f ∷ ks))
    (led_by x.begun (f ∷ ks)).stage gone_on.knows in
    absurd (false≢true (sym no ∙ ap (λ (l : List KeptAnswer). is_begun (led_by x.begun l).stage) (sym is) ∙ begun))

-- a port whose call has made no step keeps no answer
pub starting : (z : Layout) (o : Opening) (words : List ℕ) (hs : List Holding) (log : List Applied) (x : Part) → LawfulWords z o words hs log → IsKnown z o words hs log x →
    is_begun (core_of x).stage ≡ true → x.kept ≡ []
starting z o words hs log x w k begun = starting_from z o words hs log x x.kept refl w k begun
