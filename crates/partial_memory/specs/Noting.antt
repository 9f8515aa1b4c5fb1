-- What a call leaves in the notes of its port, in one shape for all calls.
use Rattle.std.specs.Prelude.{ℕ, ◌≡◌, List, [], ◌∷◌, ◌++◌, Some}
use Rattle.partial_model.specs.declared.call.Call.{Call}
use Rattle.partial_model.specs.declared.call.Answer.{Answer}
use Rattle.partial_model.specs.declared.call.Note.{Note}
use Rattle.partial_model.specs.declared.call.Refused.{Refused}
use Rattle.partial_model.specs.Notes.{Noted}
use Rattle.partial_lines.specs.declared.whole_scan.Scanned.{Scanned}
use Rattle.partial_memory.specs.declared.answers.Updated.{Updated}
use Rattle.partial_memory.specs.declared.answers.Updated.TheVariants.{Applied, Lost}
use Rattle.partial_memory.specs.declared.answers.UpdatedIf.{UpdatedIf}
use Rattle.partial_memory.specs.Ports.{PortView, IsRefused}
use Rattle.partial_memory.specs.Calls.{Updates, UpdatesIf, Reads, Scans, Meets}

-- the port is of the same memory and number, and has noted these calls more
pub record NotesMore (p q : PortView) (new : List Noted) : Type 0 where
  pub memory : q.memory ≡ p.memory
  pub number : q.number ≡ p.number
  pub notes : q.notes ≡ p.notes ++ new

-- the port has noted this call with that answer, at some place
abbrev pub NotesCall : PortView → Call → Answer → PortView → Type 0
NotesCall p c a q = (n : Note) × NotesMore p q (record { call = c; answer = a; note = Some n } ∷ [])

-- the answer that is noted of how an update ended
abbrev pub noted_update : Updated → Answer
noted_update (Applied stamp) = Answer.Applied stamp
noted_update (Lost by) = Answer.Lost by

-- the answer that is noted of how a conditional update ended
abbrev pub noted_update_if : UpdatedIf → Answer
noted_update_if (UpdatedIf.Applied stamp) = Answer.Applied stamp
noted_update_if (UpdatedIf.Changed by) = Answer.Changed by

-- an answered call is noted once, with its answer; a refused one, a scan of no position and a meeting note nothing
pub record CallsNoteOnce : Type 0 where
  pub update : (p q : PortView) (j v : ℕ) (r : Updated) → Updates p j v r q → NotesCall p (Call.Update j v) (noted_update r) q
  pub update_if : (p q : PortView) (j x v : ℕ) (r : UpdatedIf) → UpdatesIf p j x v r q
      → NotesCall p (Call.UpdateIf j x v) (noted_update_if r) q
  pub read : (p q : PortView) (j value stamp : ℕ) → Reads p j value stamp q → NotesCall p (Call.Read j) (Answer.Read value stamp) q
  pub scan : (p q : PortView) (j : ℕ) (js values : List ℕ) (s : Scanned) → Scans p (j ∷ js) values s q
      → NotesCall p (Call.Scan (j ∷ js)) (Answer.Scanned values s.collects s.borrowed) q
  pub no_scan : (p q : PortView) (values : List ℕ) (s : Scanned) → Scans p [] values s q → NotesMore p q []
  pub refused : (p q : PortView) (c : Call) (cause : Refused) → IsRefused p c cause q → NotesMore p q []
  pub meet : (a b c d : PortView) → Meets a b c d → NotesMore a c [] × NotesMore b d []
