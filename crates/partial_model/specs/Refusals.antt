-- Why a call is refused before any step, and the numbers of the causes.
use Rattle.std.specs.Prelude.{ℕ, ◌==◌, Bool, List, length, nat_lt, Option, Some, None, if◌then◌else◌}
use Rattle.std.specs.List.{list_all}
use Rattle.partial_model.specs.declared.call.Call.{Call}
use Rattle.partial_model.specs.declared.call.Refused.{Refused}

-- the number of a refusal
abbrev pub refused_code : Refused → ℕ
refused_code Refused.Component = 7
refused_code Refused.SlotsSpent = 8
refused_code Refused.PoolSpent = 9

-- a read looks at no mark
abbrev pub read_refusal : ℕ → ℕ → Option Refused
read_refusal m j = if nat_lt j m then None else Some Refused.Component

-- an update looks at its component first, and then at the port's mark for the pool
abbrev pub update_refusal : ℕ → Bool → ℕ → Option Refused
update_refusal m pool j = if nat_lt j m then (if pool then Some Refused.PoolSpent else None) else Some Refused.Component

-- a scan looks at the mark for the pool, and then at that for the slots
abbrev pub mark_refusal : Bool → Bool → Option Refused
mark_refusal pool slots = if pool then Some Refused.PoolSpent else (if slots then Some Refused.SlotsSpent else None)

-- a scan looks at its components first, and then, when it has positions, at the marks
abbrev pub scan_refusal : ℕ → Bool → Bool → List ℕ → Option Refused
scan_refusal m pool slots js =
    if list_all (λ j. nat_lt j m) js then (if length js == 0 then None else mark_refusal pool slots) else Some Refused.Component

-- why a call is refused before any step, in a memory of m components and by a port with these marks for the pool and the slots
abbrev pub refusal_at_once : ℕ → Bool → Bool → Call → Option Refused
refusal_at_once m pool slots (Call.Update j v) = update_refusal m pool j
refusal_at_once m pool slots (Call.Scan js) = scan_refusal m pool slots js
refusal_at_once m pool slots (Call.Read j) = read_refusal m j
refusal_at_once m pool slots (Call.UpdateIf j x v) = update_refusal m pool j
