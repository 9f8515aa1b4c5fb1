-- Runs of lawful states, and what the getSet of an update finds in them.
use Rattle.std.specs.Prelude.{ℕ, ◌≡◌, ⊤, List, [], ◌∷◌, Some}
use Rattle.partial_model.specs.declared.history.Applied.{Applied}
use Rattle.partial_model.specs.declared.history.Opening.{Opening}
use Rattle.partial_words.specs.declared.step.Event.{Event}
use Rattle.partial_words.specs.Layout.{Layout}
use Rattle.partial_words.specs.Step.{answer_of}
use Rattle.partial_active.specs.GetSet as finding
use Rattle.partial_active.specs.Moments.{IsOrderlyRun, words_behind, own_moments}
use Rattle.partial_active.specs.ActiveSet.{FindsActiveSet, AreInOrder}
use Rattle.partial_active.specs.VacatedLists.{KeepsLists}
use Rattle.partial_machine.specs.declared.stage.Change.{Change}
use Rattle.partial_machine.specs.declared.stage.Stage.TheVariants.{GettingSet}
use Rattle.partial_machine.specs.Machine.{CoreState, step_of, getting, lists_spent}
use Rattle.partial_core.specs.Part.{Part, PartAmong, all_parts, core_of, port_of, IsMachineOf, with_seen}
use Rattle.partial_core.specs.Lawful.{Lawful}
use Rattle.partial_core.specs.Steps.{LeadsOn, memory_after}

-- the words, the parts of the ports, and the history
pub record MemoryState : Type 0 where
  pub words : List ℕ
  pub parts : List Part
  pub log : List Applied

-- the state is lawful
abbrev pub IsLawfulMemory : Layout → Opening → MemoryState → Type 0
IsLawfulMemory z o s = Lawful z o s.words s.parts s.log

-- a memory as one of its ports stands in it, with all parts in one list
abbrev pub whole_memory : PartAmong → MemoryState
whole_memory m = record { words = m.words; parts = all_parts m; log = m.log }

-- What a port does in a run: it makes the step that is due, or it looks at the whole history. To begin a call, and to
-- take its reply, changes nothing in a state.
pub data PortMove : Type 0 where
  Makes : (event : Event) → PortMove
  Looks : (port : ℕ) → PortMove

-- the port of that number has a part in the state
pub record HasPart (number : ℕ) (s : MemoryState) : Type 0 where
  pub among : PartAmong
  pub open among use {part}
  pub is : s ≡ whole_memory among
  pub port : port_of part ≡ number

-- the event is the due step of the machine of its port, and leads from s to t as the law of steps has it
pub record MakesStep (z : Layout) (o : Opening) (e : Event) (s t : MemoryState) : Type 0 where
  pub own : HasPart e.port s
  pub machine : CoreState
  pub its : IsMachineOf machine own.part
  pub due : step_of machine ≡ Some e.step
  pub answer : e.answer ≡ answer_of s.words e.step
  pub leads : LeadsOn z o own.among machine e.step
  pub next : t ≡ whole_memory (memory_after z own.among e.step leads.y)

-- a look by that port leads from s to t: the port has seen the whole history then
pub record MakesLook (number : ℕ) (s t : MemoryState) : Type 0 where
  pub own : HasPart number s
  pub next : t ≡ whole_memory (record own.among { part = with_seen own.among.log own.part })

-- the move leads from s to t
abbrev pub IsMove : Layout → Opening → PortMove → MemoryState → MemoryState → Type 0
IsMove z o (Makes event) s t = MakesStep z o event s t
IsMove z o (Looks port) s t = MakesLook port s t

-- the moves lead from s to t
abbrev pub IsRun : Layout → Opening → List PortMove → MemoryState → MemoryState → Type 0
IsRun z o [] s t = t ≡ s
IsRun z o (move ∷ moves) s t = (u : MemoryState) × IsMove z o move s u × IsRun z o moves u t

-- the events of a run: a look is none
abbrev pub events_of : List PortMove → List Event
events_of [] = []
events_of (Makes event ∷ moves) = event ∷ events_of moves
events_of (Looks port ∷ moves) = events_of moves

-- what a run from a lawful state is: its words are those of an orderly run, and it ends in a lawful state
pub record IsLawfulRun (z : Layout) (o : Opening) (moves : List PortMove) (s t : MemoryState) : Type 0 where
  pub orderly : IsOrderlyRun z s.words (events_of moves)
  pub words : t.words ≡ words_behind s.words (events_of moves)
  pub lawful : IsLawfulMemory z o t

-- every run from a lawful state is so
abbrev pub LawfulRunsAreOrderly : Type 0
LawfulRunsAreOrderly = (z : Layout) (o : Opening) (moves : List PortMove) (s t : MemoryState) →
    IsLawfulMemory z o s → IsRun z o moves s t → IsLawfulRun z o moves s t

-- the machine is at the getSet of an update
abbrev pub IsGetting : CoreState → Type 0
IsGetting c = (change : Change) × (old : ℕ) × (c.stage ≡ GettingSet change old)

-- it is at the first step of the getSet
pub record BeginsGetSet (c : CoreState) : Type 0 where
  pub getting : IsGetting c
  pub first : c.get_set ≡ finding.fresh_set c.sizes (lists_spent c)

-- each step that the port makes in the run is one of a getSet
abbrev pub OnlyGets : (z : Layout) (o : Opening) (own : ℕ) (moves : List PortMove) (s t : MemoryState) → IsRun z o moves s t → Type 0
OnlyGets z o own [] s t run = ⊤
OnlyGets z o own (Makes event ∷ moves) s t run = (event.port ≡ own → IsGetting run.1.machine) × OnlyGets z o own moves run.0 t run.2
OnlyGets z o own (Looks port ∷ moves) s t run = OnlyGets z o own moves run.0 t run.2

-- a run from a lawful state in which a port is at the first step of an update's getSet, and makes steps of that getSet alone
pub record RunsGetSet (z : Layout) (o : Opening) (own : ℕ) (moves : List PortMove) (s t : MemoryState) : Type 0 where
  pub lawful : IsLawfulMemory z o s
  pub first : HasPart own s
  pub begins : BeginsGetSet (core_of first.part)
  pub run : IsRun z o moves s t
  pub only : OnlyGets z o own moves s t run
  pub last : HasPart own t

-- the moments of the port's steps
abbrev pub moments_in : ℕ → List PortMove → MemoryState → List (List ℕ)
moments_in own moves s = own_moments own s.words (events_of moves)

-- once the getSet has ended it has found the active set over the moments of its steps
abbrev pub UpdatesFind : Type 0
UpdatesFind = (z : Layout) (o : Opening) (own : ℕ) (moves : List PortMove) (s t : MemoryState) (gets : RunsGetSet z o own moves s t) →
    ¬ IsGetting (core_of gets.last.part) → FindsActiveSet z (moments_in own moves s) (core_of gets.last.part).found.indices

-- and names the indices in order
abbrev pub UpdatesFindInOrder : Type 0
UpdatesFindInOrder = (z : Layout) (o : Opening) (own : ℕ) (moves : List PortMove) (s t : MemoryState)
    (gets : RunsGetSet z o own moves s t) →
    ¬ IsGetting (core_of gets.last.part) →
    AreInOrder z (getting (core_of gets.first.part)) (moments_in own moves s) (core_of gets.last.part).found.indices

-- it keeps the lists of vacated slots at each of its stages
abbrev pub UpdatesKeepLists : Type 0
UpdatesKeepLists = (z : Layout) (o : Opening) (own : ℕ) (moves : List PortMove) (s t : MemoryState) (gets : RunsGetSet z o own moves s t) →
    KeepsLists z (getting (core_of gets.first.part)) (moments_in own moves s) (getting (core_of gets.last.part))
