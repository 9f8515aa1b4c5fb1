-- What the calls of a port of a single opening leave of what its handle holds.
use Rattle.std.specs.Prelude.{ℕ, ◌≡◌, ◌⊎◌, ◌<◌, Bool, true, false, List, length, Option, Some, None}
use Rattle.std.specs.Arc.{arc_value}
use Rattle.partial_model.specs.declared.call.Call.{Call}
use Rattle.partial_model.specs.declared.call.Refused.{Refused}
use Rattle.partial_memory.specs.declared.answers.Updated.{Updated}
use Rattle.partial_memory.specs.declared.answers.Updated.TheVariants.{Applied, Lost}
use Rattle.partial_memory.specs.declared.answers.UpdatedIf.{UpdatedIf}
use Rattle.partial_memory.specs.Ports.{PortView, IsRefused, refusal}
use Rattle.partial_memory.specs.Calls.{Scanned, Updates, UpdatesIf, Reads, Scans}
use Rattle.partial_door.specs.declared.answers.UpdateAnswer.{UpdateAnswer}
use Rattle.partial_door.specs.declared.answers.ReadAnswer.{ReadAnswer}
use Rattle.partial_door.specs.declared.answers.ScanAnswer.{ScanAnswer}
use Rattle.partial_door.specs.declared.answers.PortState.{PortState}
use Rattle.partial_door.specs.declared.held.OpeningPort.{OpeningPort}
use Rattle.partial_door.specs.declared.held.Held.{Held}
use Rattle.partial_model.specs.Refusals.{refused_code}

-- the port's reference of its memory stays
pub record IsSameOpeningReference (p q : OpeningPort) : Type 0 where
  pub opening : q.opening ≡ p.opening
  pub memory : arc_value q.memory ≡ arc_value p.memory

-- no port is held
abbrev pub HoldsNoOpeningPort : Held → Type 0
HoldsNoOpeningPort (Held.OpeningPort p) = ⊥
HoldsNoOpeningPort _ = Unit {0}

-- A call of a port on what is held: when that is no port the number is 17, nothing changes, and the caller's answer stays; otherwise
-- the port is of the same memory, and the call did to it what is said.
abbrev pub AtOpeningPort : Type 0 → (PortView → ℕ → PortView → Type 0) → Held → ℕ → Held → Type 0
AtOpeningPort stays done h code k =
    (HoldsNoOpeningPort h × (code ≡ 17) × (k ≡ h) × stays)
    ⊎ ((p : OpeningPort) × (q : OpeningPort) × (h ≡ Held.OpeningPort p) × (k ≡ Held.OpeningPort q)
    × IsSameOpeningReference p q × done p.port code q.port)

-- what an update answers, as the caller sees it
abbrev pub opening_update_answer : Updated → UpdateAnswer
opening_update_answer (Applied stamp) = record { stamp = stamp; applied = 1 }
opening_update_answer (Lost by) = record { stamp = by; applied = 0 }

-- an update was answered, or refused with its number, and then the answer stays
abbrev pub OpeningUpdateEnds : ℕ → ℕ → UpdateAnswer → UpdateAnswer → PortView → ℕ → PortView → Type 0
OpeningUpdateEnds j v before after p code q =
    ((r : Updated) × (code ≡ 0) × (after ≡ opening_update_answer r) × Updates p j v r q)
    ⊎ ((cause : Refused) × (code ≡ refused_code cause) × (after ≡ before) × IsRefused p (Call.Update j v) cause q)

-- what a conditional update answers
abbrev pub opening_update_if_answer : UpdatedIf → UpdateAnswer
opening_update_if_answer (UpdatedIf.Applied stamp) = record { stamp = stamp; applied = 1 }
opening_update_if_answer (UpdatedIf.Changed by) = record { stamp = by; applied = 0 }

-- a conditional update likewise
abbrev pub OpeningUpdateIfEnds : ℕ → ℕ → ℕ → UpdateAnswer → UpdateAnswer → PortView → ℕ → PortView → Type 0
OpeningUpdateIfEnds j expected v before after p code q =
    ((r : UpdatedIf) × (code ≡ 0) × (after ≡ opening_update_if_answer r) × UpdatesIf p j expected v r q)
    ⊎ ((cause : Refused) × (code ≡ refused_code cause) × (after ≡ before) × IsRefused p (Call.UpdateIf j expected v) cause q)

-- a read likewise; a refused one changes nothing of the port
abbrev pub OpeningReadEnds : ℕ → ReadAnswer → ReadAnswer → PortView → ℕ → PortView → Type 0
OpeningReadEnds j before after p code q =
    ((code ≡ 0) × Reads p j after.value after.stamp q)
    ⊎ ((cause : Refused) × (code ≡ refused_code cause) × (after ≡ before) × (refusal p (Call.Read j) ≡ Some cause) × (q ≡ p))

-- the stamp, or 0 when there is none
abbrev pub stamp_or_zero : Option ℕ → ℕ
stamp_or_zero None = 0
stamp_or_zero (Some stamp) = stamp

-- 1 when there is a stamp
abbrev pub one_for_some : Option ℕ → ℕ
one_for_some None = 0
one_for_some (Some stamp) = 1

-- how a scan was made, as the caller sees it
abbrev pub scan_answer : Scanned → ScanAnswer
scan_answer s = record { stamp = stamp_or_zero s.borrowed; collects = s.collects; borrowed = one_for_some s.borrowed }

-- the lengths of a scan don't fit, of a memory of m components
abbrev pub IsMismatch : ℕ → List ℕ → List ℕ → Type 0
IsMismatch m which into = (length which ≡ length into → ⊥) ⊎ (m < length which)

-- a scan was answered, or refused for its lengths or for a cause, and then the answer and the values stay
abbrev pub OpeningScanEnds : List ℕ → List ℕ → List ℕ → ScanAnswer → ScanAnswer → PortView → ℕ → PortView → Type 0
OpeningScanEnds which before values old new p code q =
    ((s : Scanned) × (code ≡ 0) × (new ≡ scan_answer s) × Scans p which values s q)
    ⊎ ((values ≡ before) × (new ≡ old)
    × (((code ≡ 19) × IsMismatch p.memory.about.sizes.m which before × (q ≡ p))
    ⊎ ((cause : Refused) × (code ≡ refused_code cause) × IsRefused p (Call.Scan which) cause q)))

-- 1 for a mark that is set
abbrev pub one_for_true : Bool → ℕ
one_for_true true = 1
one_for_true false = 0

-- the number and the marks of a port, as the caller sees them
abbrev pub port_state : PortView → PortState
port_state p = record { number = p.number; pool_spent = one_for_true p.pool_spent; slots_spent = one_for_true p.slots_spent }

-- the state of a port was given, and the port is as it was
abbrev pub OpeningStateEnds : PortState → PortView → ℕ → PortView → Type 0
OpeningStateEnds after p code q = (code ≡ 0) × (after ≡ port_state p) × (q ≡ p)
