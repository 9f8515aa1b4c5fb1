-- What each call of a memory leaves of its port.
use Rattle.std.specs.Prelude.{ℕ, ◌≡◌, ◌+◌, List, [], ◌∷◌, length, take, None}
use Rattle.partial_model.specs.declared.history.Applied.{Applied}
use Rattle.partial_model.specs.declared.call.Call.{Call}
use Rattle.partial_model.specs.declared.call.Answer.{Answer}
use Rattle.partial_model.specs.declared.call.Note.{Note}
pub use Rattle.partial_lines.specs.declared.whole_scan.Scanned.{Scanned}
use Rattle.partial_memory.specs.declared.answers.Updated.{Updated}
use Rattle.partial_memory.specs.declared.answers.Updated.TheVariants.{Applied as IsApplied, Lost}
use Rattle.partial_memory.specs.declared.answers.UpdatedIf.{UpdatedIf}
use Rattle.partial_memory.specs.Ports.{PortView, Answered, Knows}

-- An update that ended: an applied one is the last entry of all that is seen, a lost one was overwritten by an entry that had not been
-- seen before.
abbrev pub Updates : PortView → ℕ → ℕ → Updated → PortView → Type 0
Updates p j v (IsApplied stamp) q = (k : ℕ) × Answered p q (Call.Update j v) (Answer.Applied stamp) (Note.Wrote k) × (k + 1 ≡ length q.seen)
Updates p j v (Lost by) q = (k : ℕ) × Answered p q (Call.Update j v) (Answer.Lost by) (Note.Lost k)

-- a conditional update that ended: applied likewise, or it saw another stamp than the expected one
abbrev pub UpdatesIf : PortView → ℕ → ℕ → ℕ → UpdatedIf → PortView → Type 0
UpdatesIf p j expected v (UpdatedIf.Applied stamp) q =
    (k : ℕ) × Answered p q (Call.UpdateIf j expected v) (Answer.Applied stamp) (Note.Wrote k) × (k + 1 ≡ length q.seen)
UpdatesIf p j expected v (UpdatedIf.Changed by) q = (n : ℕ) × Answered p q (Call.UpdateIf j expected v) (Answer.Changed by) (Note.Saw n)

-- a read that ended: the value and the stamp of the component after a prefix of what is seen now
abbrev pub Reads : PortView → ℕ → ℕ → ℕ → PortView → Type 0
Reads p j value stamp q = (n : ℕ) × Answered p q (Call.Read j) (Answer.Read value stamp) (Note.Saw n)

-- a scan that ended: the values after one prefix of what is seen now; one of no position makes no step and isn't noted
abbrev pub Scans : PortView → List ℕ → List ℕ → Scanned → PortView → Type 0
Scans p [] values s q = (values ≡ []) × (s.collects ≡ 0) × (s.borrowed ≡ None) × (q ≡ p)
Scans p (j ∷ js) values s q =
    (n : ℕ) × Answered p q (Call.Scan (j ∷ js)) (Answer.Scanned values s.collects s.borrowed) (Note.Saw n)

-- how many loads a meeting makes: one as the seats are joined, one to look, and one as they are split
abbrev pub meeting_steps : ℕ
meeting_steps = 3

-- the port after it has observed that history in a meeting, with so many steps
abbrev pub met_port : List Applied → ℕ → PortView → PortView
met_port log n p = record p { seen = log; steps = n }

-- Two ports that met: both have seen one history, which begins with all that each had seen, and of which each one's entries are those
-- of its notes. All their steps and those of the meeting count for the first one from then on. Nothing else has changed.
pub record Meets (a b c d : PortView) : Type 0 where
  pub log : List Applied
  pub first : c ≡ met_port log (a.steps + b.steps + meeting_steps) a
  pub second : d ≡ met_port log 0 b
  pub first_seen : a.seen ≡ take (length a.seen) log
  pub second_seen : b.seen ≡ take (length b.seen) log
  pub first_knows : Knows c
  pub second_knows : Knows d
