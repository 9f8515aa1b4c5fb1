-- Runs of lawful states are orderly, and the getSet of an update is one of a port's events in such a run.
use Rattle.partial_core.proofs.{Common.{ℕ, ◌≡◌, ◌≢◌, ◌⊎◌, ◌++◌, Bool, Some, None, MatchBool, List, [], ◌∷◌, inl, inr, refl, sym, ap, subst, ◌∙◌, AllByRecursion, false≢true, eqb_tells, Opening, Layout, answer_of, words_after, AreFoundFor, AreOrderly, IsOrderlyRun, words_behind, MakesOwn, all_weaker, all_join, Change, Stage, GettingSet, CoreState, step_of, step_at, advance, advance_at, getting, with_getting, lists_spent, is_begun, Part, HasBegun, IsLedTo, core_of, port_of, with_seen, holdings, PartAmong, LawfulAmong, all_parts, memory_after, IsOrderlyEvent}, Parts.{all_at, all_changed, holdings_split}, Steps.{sizes_here, sound_at}, Ports.{others, looks_stay_lawful}, GetSetSteps.by_due, Ordered.lawful_is_orderly, Published.{KeepsPublished, keeps_now, keeps_on, step_orderly}}
use Rattle.partial_words.specs.declared.step.Event.{Event}
use Rattle.partial_active.specs.GetSet as finding
use Rattle.partial_active.specs.{VacatedLists.KeepsLists, ActiveSet.{FindsActiveSet, AreInOrder}}
use Rattle.partial_active.proofs.{Finds.finds_by_events, Named.names_by_events, Lists.lists_by_events}
use Rattle.partial_core.specs.{ActiveSet.{MemoryState, IsLawfulMemory, whole_memory, PortMove, HasPart, MakesStep, MakesLook, IsRun, events_of, LawfulRunsAreOrderly, IsGetting, OnlyGets, RunsGetSet, moments_in, UpdatesFind, UpdatesFindInOrder, UpdatesKeepLists}}
use Rattle.partial_core.specs.ActiveSet.PortMove.{Makes, Looks}

-- the state, with the port's part in its place
lawful_at : (z : Layout) (o : Opening) (s : MemoryState) (own : ℕ) (p : HasPart own s) → IsLawfulMemory z o s → LawfulAmong z o p.among
lawful_at z o s own p w = subst (IsLawfulMemory z o) p.is w

-- what is published after a state is so yet
abbrev Keeps : Layout → List (List ℕ) → MemoryState → Type 0
Keeps z past s = KeepsPublished z past s.words (holdings s.parts)

module _ (z : Layout) (o : Opening) (e : Event) (s u : MemoryState) (m : MakesStep z o e s u) where
  step_lawful : IsLawfulMemory z o u
  step_lawful = subst (IsLawfulMemory z o) (sym m.next) m.leads.lawful

  step_words : u.words ≡ words_after s.words e.step
  step_words = ap (λ (v : MemoryState). v.words) m.next ∙ ap (λ (v : MemoryState). words_after v.words e.step) (sym m.own.is)

  step_keeps : (past : List (List ℕ)) → Keeps z past s → Keeps z past u
  step_keeps past keeps = subst (Keeps z past) (sym m.next) (keeps_on z o m.own.among m.machine e.step m.leads past (subst (Keeps z past) m.own.is keeps))

  event_orderly : (past : List (List ℕ)) → IsLawfulMemory z o s → Keeps z past s → IsOrderlyEvent z past s.words (words_after s.words e.step)
  event_orderly past w keeps = subst (λ (v : MemoryState). IsOrderlyEvent z past v.words (words_after v.words e.step)) (sym m.own.is)
      (step_orderly z o m.own.among m.machine e.step m.leads past (lawful_at z o s e.port m.own w) m.its m.due (subst (Keeps z past) m.own.is keeps))

module _ (z : Layout) (o : Opening) (number : ℕ) (s u : MemoryState) (m : MakesLook number s u) where
  look_lawful : IsLawfulMemory z o s → IsLawfulMemory z o u
  look_lawful w = subst (IsLawfulMemory z o) (sym m.next) (looks_stay_lawful z o m.own.among (lawful_at z o s number m.own w)).lawful

  look_words : u.words ≡ s.words
  look_words = ap (λ (v : MemoryState). v.words) m.next ∙ ap (λ (v : MemoryState). v.words) (sym m.own.is)

  look_keeps : (past : List (List ℕ)) → Keeps z past s → Keeps z past u
  look_keeps past keeps =
      let same : holdings (all_parts m.own.among) ≡ holdings (before ++ with_seen log part ∷ after) = holdings_split before part after ∙ sym (holdings_split before (with_seen log part) after) in
      subst (Keeps z past) (sym m.next) (subst (KeepsPublished z past words) same (subst (Keeps z past) m.own.is keeps))
    where
      open m.own.among use {words, before, part, after, log}

-- the events of a run are orderly
events_orderly : (z : Layout) (o : Opening) (moves : List PortMove) (s t : MemoryState) (past : List (List ℕ)) → IsLawfulMemory z o s → Keeps z past s → IsRun z o moves s t →
    AreOrderly z past s.words (events_of moves)
events_orderly z o [] s t past w keeps run = tt
events_orderly z o (Makes e ∷ moves) s t past w keeps run =
    let u = run.0 in
    let m = run.1 in
    let now : Keeps z (s.words ∷ past) s = keeps_now z o s.words (holdings s.parts) s.log past w.memory keeps in (
      event_orderly z o e s u m (s.words ∷ past) w now,
      subst (λ (ws : List ℕ). AreOrderly z (s.words ∷ past) ws (events_of moves)) (step_words z o e s u m)
          (events_orderly z o moves u t (s.words ∷ past) (step_lawful z o e s u m) (step_keeps z o e s u m (s.words ∷ past) now) run.2),
    )
events_orderly z o (Looks port ∷ moves) s t past w keeps run =
    let u = run.0 in
    let m = run.1 in
    subst (λ (ws : List ℕ). AreOrderly z past ws (events_of moves)) (look_words z o port s u m)
    (events_orderly z o moves u t past (look_lawful z o port s u m w) (look_keeps z o port s u m past keeps) run.2)

-- where a run ends
run_ends : (z : Layout) (o : Opening) (moves : List PortMove) (s t : MemoryState) → IsLawfulMemory z o s → IsRun z o moves s t → (t.words ≡ words_behind s.words (events_of moves)) ×
    IsLawfulMemory z o t
run_ends z o [] s t w run = (ap (λ (v : MemoryState). v.words) run, subst (IsLawfulMemory z o) (sym run) w)
run_ends z o (Makes e ∷ moves) s t w run =
    let rest = run_ends z o moves run.0 t (step_lawful z o e s run.0 run.1) run.2 in
    (rest.0 ∙ ap (λ (ws : List ℕ). words_behind ws (events_of moves)) (step_words z o e s run.0 run.1), rest.1)
run_ends z o (Looks port ∷ moves) s t w run =
    let rest = run_ends z o moves run.0 t (look_lawful z o port s run.0 run.1 w) run.2 in
    (rest.0 ∙ ap (λ (ws : List ℕ). words_behind ws (events_of moves)) (look_words z o port s run.0 run.1), rest.1)

pub lawful_runs_are_orderly : LawfulRunsAreOrderly
lawful_runs_are_orderly z o moves s t w run =
    let ends = run_ends z o moves s t w run in
    record {
      orderly = (lawful_is_orderly z o s.words s.parts s.log w, events_orderly z o moves s t [] w (λ at block some. absurd some) run);
      words = ends.0;
      lawful = ends.1;
    }

-- each part of the port has this machine
abbrev Has : ℕ → CoreState → Part → Type 0
Has own c x = port_of x ≡ own → core_of x ≡ c

abbrev AllHave : ℕ → CoreState → List Part → Type 0
AllHave own c parts = AllByRecursion (Has own c) parts

-- a port has one machine
one_machine : (z : Layout) (o : Opening) (m : PartAmong) → LawfulAmong z o m → (own : ℕ) → port_of m.part ≡ own → AllHave own (core_of m.part) (all_parts m)
one_machine z o m w own is =
    let apart = others z o m w in
    let other : (y : Part) → port_of x ≢ port_of y → Has own (core_of x) y = λ y differs same. absurd (differs (is ∙ sym same)) in
    all_join (Has own (core_of x)) before x after (all_weaker (λ (y : Part). port_of x ≢ port_of y) (Has own (core_of x)) other before apart.0) (λ same. refl)
    (all_weaker (λ (y : Part). port_of x ≢ port_of y) (Has own (core_of x)) other after apart.1)
  where
    open m use {before, part as x, after}

-- the machine is at a getSet, or its getSet is finished
abbrev IsAtGetSet : CoreState → Type 0
IsAtGetSet c = IsGetting c ⊎ (finding.set_step_due c.get_set ≡ None)

-- an answer to the getSet goes to its machine
answer_goes : (c : CoreState) (change : Change) (old a : ℕ) → c.stage ≡ GettingSet change old → (getting (advance c a) ≡ finding.advance_set (getting c) a) × IsAtGetSet (advance c a)
answer_goes c change old a is =
    let p : finding.SetPair = finding.advance_set (getting c) a in
    subst (λ (v : Stage). (getting (advance_at c v a) ≡ p) × IsAtGetSet (advance_at c v a)) (sym is)
    (by_due (with_getting c p) change old is (λ (d : CoreState). (getting d ≡ p) × IsAtGetSet d) (refl, inl (change, old, is)) (λ v ended next. (refl, inr ended)))

module _ (z : Layout) (o : Opening) (own : ℕ) (e : Event) (s u : MemoryState) (m : MakesStep z o e s u) (w : IsLawfulMemory z o s) (c : CoreState) (has : AllHave own c s.parts) where
  open m.own.among use {words, before, part as x, after}

  has_here : AllHave own c (all_parts m.own.among)
  has_here = subst (λ (v : MemoryState). AllHave own c v.parts) m.own.is has

  -- another port's step
  other_has : e.port ≢ own → AllHave own c u.parts
  other_has other =
      let port : port_of m.leads.y ≡ e.port = m.leads.tells.port ∙ m.own.port in
      let changed : AllHave own c (before ++ m.leads.y ∷ after) = all_changed (Has own c) (Has own c) (λ y h. h) before x m.leads.y after has_here (λ same. absurd (other (sym port ∙ same))) in
      subst (λ (v : MemoryState). AllHave own c v.parts) (sym m.next) changed

  -- its own step, which is one of a getSet
  module _ (mine : e.port ≡ own) (at : IsGetting m.machine) where
    machine_is : m.machine ≡ c
    machine_is = by m.its ∙ all_at (Has own c) before x after has_here (m.own.port ∙ mine)
      where
        by : HasBegun m.machine x ⊎ IsLedTo m.machine x → m.machine ≡ core_of x
        by (inl begun) = absurd (false≢true (sym (ap is_begun at.2) ∙ begun.begun))
        by (inr led) = led.is

    at_stage : c.stage ≡ GettingSet at.0 at.1
    at_stage = ap (λ (d : CoreState). d.stage) (sym machine_is) ∙ at.2

    own_due : finding.set_step_due (getting c).0 ≡ Some e.step
    own_due = sym (ap (step_at c) at_stage) ∙ ap step_of (sym machine_is) ∙ m.due

    own_goes : (getting (core_of m.leads.y) ≡ finding.advance_set (getting c) (answer_of s.words e.step)) × IsAtGetSet (core_of m.leads.y)
    own_goes =
        let next : advance c (answer_of words e.step) ≡ core_of m.leads.y = ap (λ (d : CoreState). advance d (answer_of words e.step)) (sym machine_is) ∙ m.leads.tells.machine.is in
        subst (λ (v : MemoryState). (getting (core_of m.leads.y) ≡ finding.advance_set (getting c) (answer_of v.words e.step)) × IsAtGetSet (core_of m.leads.y)) (sym m.own.is)
        (subst (λ (d : CoreState). (getting d ≡ finding.advance_set (getting c) (answer_of words e.step)) × IsAtGetSet d) next (answer_goes c at.0 at.1 (answer_of words e.step) at_stage))

    own_has : AllHave own (core_of m.leads.y) u.parts
    own_has = subst (λ (v : MemoryState). AllHave own (core_of m.leads.y) v.parts) (sym m.next)
        (one_machine z o (memory_after z m.own.among e.step m.leads.y) m.leads.lawful own (m.leads.tells.port ∙ m.own.port ∙ mine))

look_has : (own number : ℕ) (s u : MemoryState) (m : MakesLook number s u) (c : CoreState) → AllHave own c s.parts → AllHave own c u.parts
look_has own number s u m c has =
    let here : AllHave own c (all_parts m.own.among) = subst (λ (v : MemoryState). AllHave own c v.parts) m.own.is has in
    subst (λ (v : MemoryState). AllHave own c v.parts) (sym m.next) (all_changed (Has own c) (Has own c) (λ y h. h) before x (with_seen log x) after here (all_at (Has own c) before x after here))
  where
    open m.own.among use {before, part as x, after, log}

-- the port's events are its getSet's steps
makes_own : (z : Layout) (o : Opening) (own : ℕ) (moves : List PortMove) (s t : MemoryState) (run : IsRun z o moves s t) (c : CoreState) →
    IsLawfulMemory z o s → AllHave own c s.parts → OnlyGets z o own moves s t run → IsAtGetSet c → (last : HasPart own t) →
    MakesOwn own (getting c) s.words (events_of moves) (getting (core_of last.part)) × IsAtGetSet (core_of last.part)
makes_own z o own [] s t run c w has only at last =
    let there : s ≡ whole_memory last.among = sym run ∙ last.is in
    let same : core_of last.part ≡ c = all_at (Has own c) last.among.before last.part last.among.after (subst (λ (v : MemoryState). AllHave own c v.parts) there has) last.port in
    (ap getting same, subst IsAtGetSet (sym same) at)
makes_own z o own (Makes e ∷ moves) s t run c w has only at last =
    let u = run.0 in
    let m = run.1 in
    let a = answer_of s.words e.step in
    let Q : finding.SetPair = getting (core_of last.part) in
    let Mine : Type 0 = (finding.set_step_due (getting c).0 ≡ Some e.step) × MakesOwn own (finding.advance_set (getting c) a) (words_after s.words e.step) (events_of moves) Q in
    let Other : Type 0 = MakesOwn own (getting c) (words_after s.words e.step) (events_of moves) Q in
    let words = step_words z o e s u m in
    elim (eqb_tells e.port own) [
      | inl same ↦
          let gets = only.0 same.1 in
          let goes = own_goes z o own e s u m w c has same.1 gets in
          let rest = makes_own z o own moves u t run.2 (core_of m.leads.y) (step_lawful z o e s u m) (own_has z o own e s u m w c has same.1 gets) only.1 goes.1 last in
          let there : MakesOwn own (getting (core_of m.leads.y)) (words_after s.words e.step) (events_of moves) Q
          = subst (λ (ws : List ℕ). MakesOwn own (getting (core_of m.leads.y)) ws (events_of moves) Q) words rest.0 in
          let moved : MakesOwn own (finding.advance_set (getting c) a) (words_after s.words e.step) (events_of moves) Q
          = subst (λ (p : finding.SetPair). MakesOwn own p (words_after s.words e.step) (events_of moves) Q) goes.0 there in
          let both : Mine = (own_due z o own e s u m w c has same.1 gets, moved) in
          (subst (λ (b : Bool). MatchBool b Mine Other) (sym same.0) both, rest.1)
      | inr other ↦
          let rest = makes_own z o own moves u t run.2 c (step_lawful z o e s u m) (other_has z o own e s u m w c has other.1) only.1 at last in
          let moved : Other = subst (λ (ws : List ℕ). MakesOwn own (getting c) ws (events_of moves) Q) words rest.0 in
          (subst (λ (b : Bool). MatchBool b Mine Other) (sym other.0) moved, rest.1)
    ]
makes_own z o own (Looks port ∷ moves) s t run c w has only at last =
    let u = run.0 in
    let m = run.1 in
    let rest = makes_own z o own moves u t run.2 c (look_lawful z o port s u m w) (look_has own port s u m c has) only at last in
    (subst (λ (ws : List ℕ). MakesOwn own (getting c) ws (events_of moves) (getting (core_of last.part))) (look_words z o port s u m) rest.0, rest.1)

module _ (z : Layout) (o : Opening) (own : ℕ) (moves : List PortMove) (s t : MemoryState) (gets : RunsGetSet z o own moves s t) where
  abbrev c : CoreState
  c = core_of gets.first.part

  abbrev d : CoreState
  d = core_of gets.last.part

  at_first : LawfulAmong z o gets.first.among
  at_first = lawful_at z o s own gets.first gets.lawful

  made : MakesOwn own (getting c) s.words (events_of moves) (getting d) × IsAtGetSet d
  made =
      let one = one_machine z o gets.first.among at_first own gets.first.port in
      makes_own z o own moves s t gets.run c gets.lawful (subst (λ (v : MemoryState). AllHave own c v.parts) (sym gets.first.is) one) gets.only (inl gets.begins.getting) gets.last

  sizes : c.sizes ≡ z
  sizes = sizes_here z o gets.first.among at_first

  begun : getting c ≡ (finding.fresh_set z (lists_spent c), c.found)
  begun = ap (λ (g : finding.GetSetState). (g, c.found)) (gets.begins.first ∙ ap (λ (y : Layout). finding.fresh_set y (lists_spent c)) sizes)

  for_sizes : AreFoundFor z c.found
  for_sizes =
      let at = gets.begins.getting in
      let sound = sound_at z o gets.first.among at_first (GettingSet at.0 at.1) at.2 in
      subst (λ (y : Layout). AreFoundFor y c.found) (sound.2 ∙ sizes) sound.1.sizes

  from_fresh : MakesOwn own (finding.fresh_set z (lists_spent c), c.found) s.words (events_of moves) (getting d)
  from_fresh = subst (λ (p : finding.SetPair). MakesOwn own p s.words (events_of moves) (getting d)) begun made.0

  done : ¬ IsGetting d → finding.set_step_due (getting d).0 ≡ None
  done ended = elim made.1 [ inl getting_yet ↦ absurd (ended getting_yet) | inr none ↦ none ]

  orderly : IsOrderlyRun z s.words (events_of moves)
  orderly = (lawful_runs_are_orderly z o moves s t gets.lawful gets.run).orderly

  found_here : ¬ IsGetting d → FindsActiveSet z (moments_in own moves s) d.found.indices
  found_here ended = finds_by_events z (lists_spent c) c.found own s.words (events_of moves) (getting d) gets.lawful.memory.sizes for_sizes orderly from_fresh (done ended)

  in_order_here : ¬ IsGetting d → AreInOrder z (getting c) (moments_in own moves s) d.found.indices
  in_order_here ended = subst (λ (p : finding.SetPair). AreInOrder z p (moments_in own moves s) d.found.indices) (sym begun)
      (names_by_events z (lists_spent c) c.found own s.words (events_of moves) (getting d) gets.lawful.memory.sizes for_sizes orderly from_fresh (done ended))

  lists_here : KeepsLists z (getting c) (moments_in own moves s) (getting d)
  lists_here = subst (λ (p : finding.SetPair). KeepsLists z p (moments_in own moves s) (getting d)) (sym begun)
      (lists_by_events z (lists_spent c) c.found own s.words (events_of moves) (getting d) gets.lawful.memory.sizes for_sizes orderly from_fresh)

pub updates_find : UpdatesFind
updates_find = found_here

pub updates_find_in_order : UpdatesFindInOrder
updates_find_in_order = in_order_here

pub updates_keep_lists : UpdatesKeepLists
updates_keep_lists = lists_here
