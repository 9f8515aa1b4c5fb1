-- Memories and ports as callers see them, and what a call leaves of its port.
use Rattle.std.specs.Prelude.{ℕ, ◌≡◌, ◌+◌, ◌<◌, ◌≤◌, ◌⊎◌, Bool, true, false, ◌||◌, List, [], ◌∷◌, ◌++◌, length, take, map, Option, Some, None}
use Rattle.partial_table.specs.Table.{TableId}
use Rattle.partial_model.specs.declared.history.Applied.{Applied}
use Rattle.partial_model.specs.declared.call.Call.{Call}
use Rattle.partial_model.specs.declared.call.Answer.{Answer}
use Rattle.partial_model.specs.declared.call.Note.{Note}
use Rattle.partial_model.specs.declared.call.Refused.{Refused}
use Rattle.partial_model.specs.History.{IsHistory}
use Rattle.partial_model.specs.Notes.{Noted, LegalNotes, MayBeRefused, place_of, shown_by}
use Rattle.partial_model.specs.Outcome.{EachOnce}
use Rattle.partial_model.specs.Refusals.{refusal_at_once}
use Rattle.partial_words.specs.Layout.{Layout, IsLayout, greatest_record, pool_end}
use Rattle.partial_machine.specs.Machine.{CoreState}
use Rattle.partial_machine.specs.Bounds.{most_steps}
use Rattle.partial_core.specs.Part.{KeptAnswer, core_of, first_at, port_of, IsBetween}
use Rattle.partial_core.specs.Steps.{FitsHistory}
use Rattle.partial_memory.specs.declared.rule.About.{About}
use Rattle.partial_memory.specs.declared.error.OpenError.{OpenError}
use Rattle.partial_memory.specs.declared.error.OpenError.TheVariants.{Ports, TooSmall, OutOfMemory}
use Rattle.partial_memory.specs.Rule.{SeatedPort, IsBadgeOfOne, AreByOpened, one_in}

-- which memory it is, and what it was opened with
pub record MemoryView : Type 0 where
  pub table : TableId
  pub about : About

-- A port: the memory that it belongs to, its number, the history that it has seen, the notes of its calls, its marks for the pool and
-- the slots, how many steps its seat has made, and the answers to those of its last call that made any, each with the history's length
-- then.
pub record PortView : Type 0 where
  pub memory : MemoryView
  pub number : ℕ
  pub seen : List Applied
  pub notes : List Noted
  pub pool_spent : Bool
  pub slots_spent : Bool
  pub steps : ℕ
  pub kept : List KeptAnswer

-- a port as a contract sees it, by the table, the steps of its seat and what that knows
abbrev pub port_view : TableId → ℕ → SeatedPort → PortView
port_view table steps x = record {
  memory = record { table = table; about = x.about };
  number = port_of x.part;
  seen = x.part.seen;
  notes = x.part.notes;
  pool_spent = (core_of x.part).pool_spent;
  slots_spent = (core_of x.part).slots_spent;
  steps = steps;
  kept = x.part.kept;
}

-- the ports of a new memory: the seat of each was made by one load
abbrev pub new_ports : TableId → List SeatedPort → List PortView
new_ports table xs = map (port_view table 1) xs

-- the port without the count of its steps
abbrev pub without_steps : PortView → PortView
without_steps p = record p { steps = 0 }

-- the port belongs to the memory
abbrev pub IsOf : MemoryView → PortView → Type 0
IsOf m p = p.memory ≡ m

-- What a port knows of the history that it has seen: its stamps are distinct, the port's notes are legal there, the port's entries are
-- those that its notes wrote, in their order, and each entry is by a port that was opened.
pub record Knows (p : PortView) : Type 0 where
  pub history : IsHistory p.memory.about.opening p.seen
  pub legal : LegalNotes p.memory.about.opening p.seen p.number 0 p.notes
  pub once : EachOnce p.seen p.number p.notes
  pub others : AreByOpened p.memory.about p.seen

-- a port between two calls, with its machine, which claims no words ahead
pub record IsResting (views : List (List SeatedPort)) (core : CoreState) (named : ℕ) : Type 0 where
  pub one : IsBadgeOfOne views
  pub between : IsBetween (one_in views).part core
  pub ahead : core.ahead ≡ 0
  pub layout : IsLayout core.sizes
  pub sizes : core.sizes ≡ (one_in views).about.sizes
  pub number : named ≡ port_of (one_in views).part
  pub fits : FitsHistory (one_in views).about.opening (one_in views).part.seen (one_in views).part
  pub others : AreByOpened (one_in views).about (one_in views).part.seen

-- what every call does to its port: the history that it has observed grows, and it has noted these calls more
pub record Goes (p q : PortView) (new : List Noted) : Type 0 where
  pub memory : q.memory ≡ p.memory
  pub number : q.number ≡ p.number
  pub seen : p.seen ≡ take (length p.seen) q.seen
  pub notes : q.notes ≡ p.notes ++ new
  pub knows : Knows q

-- The steps of a call: all that had been seen before lies before the first of them, and they are no more than such a call may make.
pub record CountsSteps (p q : PortView) (c : Call) : Type 0 where
  pub first : length p.seen ≤ first_at q.kept
  pub steps : q.steps ≡ p.steps + length q.kept
  pub few : length q.kept ≤ most_steps p.memory.about.sizes c

-- why a call of the port is refused before any step
abbrev pub refusal : PortView → Call → Option Refused
refusal p c = refusal_at_once p.memory.about.sizes.m p.pool_spent p.slots_spent c

-- a call that was answered with a note: after all that had been seen before the first of its steps, within what is seen now
pub record Answered (p q : PortView) (c : Call) (a : Answer) (n : Note) : Type 0 where
  pub allowed : refusal p c ≡ None
  pub goes : Goes p q (record { call = c; answer = a; note = Some n } ∷ [])
  pub counts : CountsSteps p q c
  pub behind : first_at q.kept ≤ place_of n
  pub within : shown_by n ≤ length q.seen
  pub pool : q.pool_spent ≡ p.pool_spent
  pub slots : q.slots_spent ≡ p.slots_spent

-- whether a cause is the mark for the pool
abbrev pub is_pool : Refused → Bool
is_pool Refused.PoolSpent = true
is_pool _ = false

-- whether a cause is the mark for the slots
abbrev pub is_slots : Refused → Bool
is_slots Refused.SlotsSpent = true
is_slots _ = false

-- The answer x to a claim puts it past the end of its region: some words of the pool, no more than the greatest record has, or a slot.
abbrev pub IsPastEnd : Layout → ℕ → Refused → Type 0
IsPastEnd z x Refused.Component = ⊥
IsPastEnd z x Refused.SlotsSpent = z.slots ≤ x
IsPastEnd z x Refused.PoolSpent = (size : ℕ) × (size ≤ greatest_record z) × (pool_end z < x + size)

-- the last of the answers puts a claim past the end
abbrev pub EndsPastEnd : Layout → List KeptAnswer → Refused → Type 0
EndsPastEnd z kept cause = (front : List KeptAnswer) × (last : KeptAnswer) × (kept ≡ front ++ last ∷ []) × IsPastEnd z last.answer cause

-- A call that was refused after some steps: by the last of them, its claim, which went past the end of its region. Nothing is noted,
-- and the port is marked for the region.
pub record RefusedLate (p q : PortView) (c : Call) (cause : Refused) : Type 0 where
  pub allowed : refusal p c ≡ None
  pub goes : Goes p q []
  pub counts : CountsSteps p q c
  pub may : MayBeRefused p.memory.about.sizes.m c cause
  pub past : EndsPastEnd p.memory.about.sizes q.kept cause
  pub pool : q.pool_spent ≡ (is_pool cause || p.pool_spent)
  pub slots : q.slots_spent ≡ (is_slots cause || p.slots_spent)

-- a call that was refused: before any step, and then nothing has changed, or after some
abbrev pub IsRefused : PortView → Call → Refused → PortView → Type 0
IsRefused p c cause q = ((refusal p c ≡ Some cause) × (q ≡ p)) ⊎ RefusedLate p q c cause

-- why a memory may not open with that many ports: Ports when there are not 1 to 64, and OutOfMemory only when there are; TooSmall never
abbrev pub MayNotOpen : ℕ → OpenError → Type 0
MayNotOpen ports Ports = (ports ≡ 0) ⊎ (64 < ports)
MayNotOpen ports TooSmall = ⊥
MayNotOpen ports OutOfMemory = (1 ≤ ports) × (ports ≤ 64)

-- the numbers of the refusals
abbrev pub open_code : OpenError → ℕ
open_code Ports = 5
open_code TooSmall = 13
open_code OutOfMemory = 6
