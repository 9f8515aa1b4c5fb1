-- What the calls of a port of a long-lived memory leave of what its handle holds.
use Rattle.std.specs.Prelude.{ℕ, ◌≡◌, ◌+◌, ◌*◌, ◌≤◌, ◌⊎◌, true, List, length, is_some}
use Rattle.std.specs.Arc.{arc_value}
use Rattle.partial_model.specs.declared.call.Call.{Call}
use Rattle.partial_long_lived.specs.declared.answers.Updated.{Updated}
use Rattle.partial_long_lived.specs.declared.answers.Updated.TheVariants.{Applied, Lost}
use Rattle.partial_long_lived.specs.declared.answers.UpdatedIf.{UpdatedIf}
use Rattle.partial_long_lived.specs.declared.error.Refused.{Refused}
use Rattle.partial_long_lived.specs.Refusals.{refusal_code}
use Rattle.partial_long_lived.specs.Bounds.{most_of_scans, round_if_steps, round_steps}
use Rattle.partial_long_lived.specs.Ports.{PortView}
use Rattle.partial_long_lived.specs.Calls.{Differ, IsRefused, Reads, Scanned, Scans, ScansStamped, StillStand, Updates, UpdatesIf}
use Rattle.partial_door.specs.declared.answers.UpdateAnswer.{UpdateAnswer}
use Rattle.partial_door.specs.declared.answers.ReadAnswer.{ReadAnswer}
use Rattle.partial_door.specs.declared.answers.ScanAnswer.{ScanAnswer}
use Rattle.partial_door.specs.declared.held.OwnedPort.{OwnedPort}
use Rattle.partial_door.specs.declared.held.Held.{Held}
use Rattle.partial_door.specs.OpeningCalls.{IsMismatch, scan_answer}

-- the port's reference of its memory stays
pub record IsSameReference (p q : OwnedPort) : Type 0 where
  pub number : q.number ≡ p.number
  pub memory : arc_value q.memory ≡ arc_value p.memory

-- no port of a long-lived memory is held
abbrev pub HoldsNoPort : Held → Type 0
HoldsNoPort (Held.Port p) = ⊥
HoldsNoPort _ = Unit {0}

-- A call of a port on what is held: when that is no port of a long-lived memory the number is 17, nothing changes, and the caller's answer
-- stays; otherwise the port is of the same memory, and the call did to it what is said.
abbrev pub AtPort : Type 0 → (PortView → ℕ → PortView → Type 0) → Held → ℕ → Held → Type 0
AtPort stays done h code k =
    (HoldsNoPort h × (code ≡ 17) × (k ≡ h) × stays)
    ⊎ ((p : OwnedPort) × (q : OwnedPort) × (h ≡ Held.Port p) × (k ≡ Held.Port q) × IsSameReference p q × done p.port code q.port)

-- the port has made so many steps more at most
abbrev pub MadeAtMost : ℕ → PortView → PortView → Type 0
MadeAtMost n p q = q.steps ≤ p.steps + n

-- what an update answers, as the caller sees it
abbrev pub update_answer : Updated → UpdateAnswer
update_answer (Applied stamp) = record { stamp = stamp; applied = 1 }
update_answer (Lost by) = record { stamp = by; applied = 0 }

-- an update was answered, or refused with its number, and then the answer stays; in so many steps at most
abbrev pub UpdateEnds : ℕ → ℕ → UpdateAnswer → UpdateAnswer → PortView → ℕ → PortView → Type 0
UpdateEnds j v before after p code q = MadeAtMost (16 * round_steps p.memory.about) p q
    × (((r : Updated) × (code ≡ 0) × (after ≡ update_answer r) × Updates p j v r q)
    ⊎ ((cause : Refused) × (code ≡ refusal_code cause) × (after ≡ before) × IsRefused p (Call.Update j v) cause q))

-- what a conditional update answers, as the caller sees it
abbrev pub update_if_answer : UpdatedIf → UpdateAnswer
update_if_answer (UpdatedIf.Applied stamp) = record { stamp = stamp; applied = 1 }
update_if_answer (UpdatedIf.Changed by) = record { stamp = by; applied = 0 }

-- a conditional update likewise
abbrev pub UpdateIfEnds : ℕ → ℕ → ℕ → UpdateAnswer → UpdateAnswer → PortView → ℕ → PortView → Type 0
UpdateIfEnds j expected v before after p code q = MadeAtMost (16 * round_if_steps p.memory.about) p q
    × (((r : UpdatedIf) × (code ≡ 0) × (after ≡ update_if_answer r) × UpdatesIf p j expected v r q)
    ⊎ ((cause : Refused) × (code ≡ refusal_code cause) × (after ≡ before) × IsRefused p (Call.UpdateIf j expected v) cause q))

-- a read likewise
abbrev pub ReadEnds : ℕ → ReadAnswer → ReadAnswer → PortView → ℕ → PortView → Type 0
ReadEnds j before after p code q = MadeAtMost 8 p q
    × (((code ≡ 0) × Reads p j after.value after.stamp q)
    ⊎ ((cause : Refused) × (code ≡ refusal_code cause) × (after ≡ before) × IsRefused p (Call.Read j) cause q))

-- a scan was answered, or refused for its lengths or for a cause, and then the answer and the values stay
abbrev pub ScanEnds : List ℕ → List ℕ → List ℕ → ScanAnswer → ScanAnswer → PortView → ℕ → PortView → Type 0
ScanEnds which before values old new p code q = MadeAtMost (most_of_scans p.memory.about (length which)) p q
    × (((s : Scanned) × (code ≡ 0) × (new ≡ scan_answer s) × Scans p which values s q)
    ⊎ ((values ≡ before) × (new ≡ old)
    × (((code ≡ 19) × IsMismatch p.memory.about.sizes.m which before × (q ≡ p))
    ⊎ ((cause : Refused) × (code ≡ refusal_code cause) × IsRefused p (Call.Scan which) cause q))))

-- why a scan with stamps was refused: the lengths don't fit, of a memory of m components, or it has a cause as other scans have
abbrev pub NotScannedStamped : List ℕ → List ℕ → List ℕ → PortView → ℕ → PortView → Type 0
NotScannedStamped which values stamps p code q =
    ((code ≡ 19) × (IsMismatch p.memory.about.sizes.m which values ⊎ (length stamps ≡ length which → ⊥)) × (q ≡ p))
    ⊎ ((cause : Refused) × (code ≡ refusal_code cause) × IsRefused p (Call.Scan which) cause q)

-- A scan was answered, with stamps unless it took the view of an update, and then they stay; or it was refused, and then the answer and both
-- arrays stay.
abbrev pub ScanStampedEnds : List ℕ → List ℕ → List ℕ → List ℕ → List ℕ → ScanAnswer → ScanAnswer → PortView → ℕ → PortView → Type 0
ScanStampedEnds which before values before_stamps stamps old new p code q =
    MadeAtMost (length which + most_of_scans p.memory.about (length which)) p q
    × (((s : Scanned) × (code ≡ 0) × (new ≡ scan_answer s) × ScansStamped p which values stamps s q
    × (is_some s.borrowed ≡ true → stamps ≡ before_stamps))
    ⊎ ((values ≡ before) × (stamps ≡ before_stamps) × (new ≡ old) × NotScannedStamped which before before_stamps p code q))

-- an answer was given whether components still have stamps, or the two lengths differ, and then the answer and the port are as they were
abbrev pub UnchangedEnds : List ℕ → List ℕ → ℕ → ℕ → PortView → ℕ → PortView → Type 0
UnchangedEnds which stamps before after p code q = MadeAtMost (4 + 2 * length which) p q
    × (((length stamps ≡ length which) × (code ≡ 0) × (after ≡ 1) × StillStand p q which stamps)
    ⊎ ((length stamps ≡ length which) × (code ≡ 0) × (after ≡ 0) × Differ p q which stamps)
    ⊎ ((code ≡ 19) × (length stamps ≡ length which → ⊥) × (after ≡ before) × (q ≡ p)))

-- the number of a port was given, and the port is as it was
abbrev pub NumberEnds : ℕ → PortView → ℕ → PortView → Type 0
NumberEnds after p code q = (code ≡ 0) × (after ≡ p.number) × (q ≡ p)
