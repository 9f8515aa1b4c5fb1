-- How a call is begun at a machine, why it is refused at once, and the answer that a reply means.
use Rattle.std.specs.Prelude.{ℕ, ◌≤◌, ◌==◌, ⊤, Bool, true, false, List, [], length, Option, Some, None, if◌then◌else◌}
use Rattle.partial_model.specs.declared.call.Call.{Call}
use Rattle.partial_model.specs.declared.call.Refused.{Refused}
use Rattle.partial_model.specs.declared.call.Answer.{Answer}
use Rattle.partial_model.specs.Refusals.{refusal_at_once}
use Rattle.partial_machine.specs.declared.stage.Reply.{Reply}
use Rattle.partial_machine.specs.declared.stage.Stage.{Stage}
use Rattle.partial_machine.specs.declared.stage.Stage.TheVariants.{Idle, ReadBegun, UpdateBegun, ScanBegun, Finished}
use Rattle.partial_machine.specs.Machine.{CoreState, at_stage, scanned_values}

-- why a call is refused at once
abbrev pub refusal_of : CoreState → Call → Option Refused
refusal_of s c = refusal_at_once s.sizes.m s.pool_spent s.slots_spent c

-- why a read is refused at once
abbrev pub core_read_refusal : CoreState → ℕ → Option Refused
core_read_refusal s i = refusal_of s (Call.Read i)

-- why an update is refused at once, whatever its value
abbrev pub core_update_refusal : CoreState → ℕ → Option Refused
core_update_refusal s i = refusal_of s (Call.Update i 0)

-- why a scan is refused at once
abbrev pub core_scan_refusal : CoreState → List ℕ → Option Refused
core_scan_refusal s indices = refusal_of s (Call.Scan indices)

-- a scan is begun; one of no position is finished at once
abbrev pub begin_scan : CoreState → List ℕ → CoreState
begin_scan s indices = record s { asked = indices; stage = if length indices == 0 then Finished (Reply.Scanned 0 None) else ScanBegun }

-- the machine after it has begun the call
abbrev pub begun_of : CoreState → Call → CoreState
begun_of s (Call.Update j v) = at_stage s (UpdateBegun (record { component = j; expected = None; value = v }))
begun_of s (Call.Scan js) = begin_scan s js
begun_of s (Call.Read j) = at_stage s (ReadBegun j)
begun_of s (Call.UpdateIf j x v) = at_stage s (UpdateBegun (record { component = j; expected = Some x; value = v }))

-- a call that a machine serves: a scan has at most m positions
abbrev pub IsServed : ℕ → Call → Type 0
IsServed m (Call.Scan js) = length js ≤ m
IsServed m _ = ⊤

-- whether a call makes a step when it isn't refused at once: all but a scan of no position
abbrev pub makes_steps : Call → Bool
makes_steps (Call.Scan []) = false
makes_steps _ = true

-- a call is begun and has made no step
abbrev pub is_begun : Stage → Bool
is_begun (ReadBegun j) = true
is_begun (UpdateBegun c) = true
is_begun ScanBegun = true
is_begun _ = false

-- no step is due
abbrev pub is_at_rest : Stage → Bool
is_at_rest Idle = true
is_at_rest (Finished r) = true
is_at_rest _ = false

-- the machine s with the call that c has begun
abbrev pub begun_like : CoreState → CoreState → CoreState
begun_like s c = record s { asked = c.asked; stage = c.stage }

-- an update, which is conditional when a stamp is expected
abbrev pub update_call : ℕ → Option ℕ → ℕ → Call
update_call j None v = Call.Update j v
update_call j (Some e) v = Call.UpdateIf j e v

-- the call that a machine has begun
abbrev pub call_at : CoreState → Stage → Option Call
call_at s (ReadBegun j) = Some (Call.Read j)
call_at s (UpdateBegun c) = Some (update_call c.component c.expected c.value)
call_at s ScanBegun = Some (Call.Scan s.asked)
call_at s _ = None

-- the call that the machine has begun and made no step of
abbrev pub call_of : CoreState → Option Call
call_of s = call_at s s.stage

-- the answer that a reply means: a scan's values are read off the machine
abbrev pub answer_for : CoreState → Reply → Answer
answer_for s (Reply.Applied stamp) = Answer.Applied stamp
answer_for s (Reply.Lost by) = Answer.Lost by
answer_for s (Reply.Scanned collects borrowed) = Answer.Scanned (scanned_values s) collects borrowed
answer_for s (Reply.Read v stamp) = Answer.Read v stamp
answer_for s (Reply.Refused cause) = Answer.Refused cause
answer_for s (Reply.Changed by) = Answer.Changed by
