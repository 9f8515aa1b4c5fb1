-- How the answers that are kept of a call came about: a machine of a port began the call, and they lead it to its reply.
use Rattle.std.specs.Prelude.{ℕ, ◌≡◌, ◌+◌, ◌≤◌, ◌<◌, ⊤, List, [], ◌∷◌, ◌++◌, length, Some, None, true}
use Rattle.partial_model.specs.declared.call.Call.{Call}
use Rattle.partial_model.specs.declared.call.Answer.{Answer}
use Rattle.partial_model.specs.declared.call.Refused.{Refused}
use Rattle.partial_model.specs.Notes.{MayBeRefused}
use Rattle.partial_words.specs.declared.step.Step.TheVariants.{Add}
use Rattle.partial_words.specs.Layout.{Layout, IsLayout, greatest_record, pool_counter, pool_end, slot_counter}
use Rattle.partial_machine.specs.declared.stage.Reply.{Reply}
use Rattle.partial_machine.specs.Machine.{CoreState, reply_of, step_of}
use Rattle.partial_machine.specs.Calls.{answer_for, call_of}
use Rattle.partial_machine.specs.Claims.{claims_of}
use Rattle.partial_machine.specs.Sound.{IsSound}
use Rattle.partial_machine.specs.Steps.{Run, AreOfScan, pairs_loaded}
use Rattle.partial_core.specs.Part.{answers_of}
use Rattle.partial_core.specs.Calls.{IsRefusedLast}
use Rattle.partial_lines.specs.declared.whole_scan.Scanned.{Scanned}
use Rattle.partial_memory.specs.Ports.{PortView, refusal}

-- The machine with which the port p began a call: of the port's memory, with its number and its marks, sound, and with that call. It
-- claims no words ahead.
pub record BeganAs (p : PortView) (c : Call) (begun : CoreState) : Type 0 where
  pub sizes : begun.sizes ≡ p.memory.about.sizes
  pub layout : IsLayout begun.sizes
  pub number : begun.port ≡ p.number
  pub pool : begun.pool_spent ≡ p.pool_spent
  pub slots : begun.slots_spent ≡ p.slots_spent
  pub ahead : begun.ahead ≡ 0
  pub sound : IsSound begun
  pub call : call_of begun ≡ Some c

-- The answers kept of the call lead the machine with which it began to a reply.
pub record IsLed (p q : PortView) (c : Call) (r : Reply) : Type 0 where
  pub begun : CoreState
  pub began : BeganAs p c begun
  pub machine : CoreState
  pub run : Run begun (answers_of q.kept) machine
  pub replies : reply_of machine ≡ Some r

-- they lead it to this answer
pub record IsLedToAnswer (p q : PortView) (c : Call) (a : Answer) : Type 0 where
  pub reply : Reply
  pub led : IsLed p q c reply
  pub answer : a ≡ answer_for led.machine reply

-- they lead it to a claim that went past the end of its region, and so to this refusal
pub record IsLedToRefusal (p q : PortView) (c : Call) (cause : Refused) : Type 0 where
  pub led : IsLed p q c (Reply.Refused cause)
  pub last : IsRefusedLast led.begun (answers_of q.kept) led.machine cause

-- a call that wasn't refused at once is led to its refusal
abbrev pub IsLedWhereLate : PortView → PortView → Call → Refused → Type 0
IsLedWhereLate p q c cause = refusal p c ≡ None → IsLedToRefusal p q c cause

-- a scan of some positions, with the number of steps that it makes
pub record ScanIsLed (p : PortView) (which values : List ℕ) (s : Scanned) (q : PortView) : Type 0 where
  pub to : IsLedToAnswer p q (Call.Scan which) (Answer.Scanned values s.collects s.borrowed)
  pub steps : AreOfScan (length which) s.collects (pairs_loaded to.led.begun (answers_of q.kept)) (length q.kept) s.borrowed

-- a scan of no position makes no step
abbrev pub ScansLed : PortView → List ℕ → List ℕ → Scanned → PortView → Type 0
ScansLed p [] values s q = ⊤
ScansLed p (j ∷ js) values s q = ScanIsLed p (j ∷ js) values s q

-- however a call ended, it made one claim of pool words at most, and one of a slot
abbrev pub LedCallsClaimOnce : Type 0
LedCallsClaimOnce = (p q : PortView) (c : Call) (r : Reply) → (w : IsLed p q c r) →
    (claims_of pool_counter w.begun (answers_of q.kept) ≤ 1) × (claims_of slot_counter w.begun (answers_of q.kept) ≤ 1)

-- The last step of a refused call was its claim in the port's own memory, and the answer put it past the end there.
pub record ClaimedPastEnd (z : Layout) (answers : List ℕ) (cause : Refused) : Type 0 where
  pub front : List ℕ
  pub last : ℕ
  pub is : answers ≡ front ++ last ∷ []
  pub claims : CoreState
  pub pool : cause ≡ Refused.PoolSpent →
      (size : ℕ) × (step_of claims ≡ Some (Add (pool_counter z) size)) × (size ≤ greatest_record z) × (pool_end z < last + size)
  pub slots : cause ≡ Refused.SlotsSpent → (step_of claims ≡ Some (Add (slot_counter z) 1)) × (z.slots ≤ last)

-- a call that is refused after some steps claimed past the end of its own memory's pool or slots
abbrev pub LateRefusalsArePastEnd : Type 0
LateRefusalsArePastEnd = (p q : PortView) (c : Call) (cause : Refused) → IsLedToRefusal p q c cause →
    ClaimedPastEnd p.memory.about.sizes (answers_of q.kept) cause

-- the port has the mark for which a call is refused at once; an index needs none
abbrev pub HasMark : PortView → Refused → Type 0
HasMark p Refused.Component = ⊤
HasMark p Refused.SlotsSpent = p.slots_spent ≡ true
HasMark p Refused.PoolSpent = p.pool_spent ≡ true

-- a call is refused at once for a cause for which it may be refused, and for a mark that its port has
abbrev pub RefusalsAtOnceFit : Type 0
RefusalsAtOnceFit = (p : PortView) (c : Call) (cause : Refused) → refusal p c ≡ Some cause →
    MayBeRefused p.memory.about.sizes.m c cause × HasMark p cause
