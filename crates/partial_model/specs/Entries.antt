-- The entries of a port, and the updates that its notes say were applied. And values that never fall.
use Rattle.std.specs.Prelude.{ℕ, ◌≡◌, ◌≤◌, ◌==◌, List, [], ◌∷◌, ◌++◌, length, take, slice_get, slice_index, Option, Some, if◌then◌else◌}
use Rattle.partial_model.specs.declared.history.Applied.{Applied}
use Rattle.partial_model.specs.declared.history.Opening.{Opening}
use Rattle.partial_model.specs.declared.call.Call.{Call}
use Rattle.partial_model.specs.declared.call.Answer.{Answer}
use Rattle.partial_model.specs.declared.call.Note.{Note}
use Rattle.partial_model.specs.History.{initial_stamp, stamp_of, value_of}
use Rattle.partial_model.specs.Notes.{Noted, LegalNotes}
use Rattle.partial_model.specs.Outcome.{EachOnce}

-- the entries by port p, in order
abbrev pub entries_by : ℕ → List Applied → List Applied
entries_by p [] = []
entries_by p (e ∷ h) = if e.port == p then e ∷ entries_by p h else entries_by p h

-- the entry that a call of port p made, if it applied an update
abbrev pub entry_of : ℕ → Option Note → Call → Answer → List Applied
entry_of p (Some (Note.Wrote k)) (Call.Update j v) (Answer.Applied s) = record { port = p; component = j; value = v; stamp = s } ∷ []
entry_of p (Some (Note.Wrote k)) (Call.UpdateIf j x v) (Answer.Applied s) = record { port = p; component = j; value = v; stamp = s } ∷ []
entry_of p _ _ _ = []

-- the updates that the notes of port p say were applied, in order
abbrev pub applied_by : ℕ → List Noted → List Applied
applied_by p [] = []
applied_by p (n ∷ ns) = entry_of p n.note n.call n.answer ++ applied_by p ns

-- when a port's notes are legal and its entries are those that they claim, the entries are the updates that the notes say were applied
abbrev pub EntriesAreNoted : Type 0
EntriesAreNoted =
    (o : Opening) (h : List Applied) (p : ℕ) (ns : List Noted) → LegalNotes o h p 0 ns → EachOnce h p ns → entries_by p h ≡ applied_by p ns

-- The last entry of a history decides what its component holds, and leaves the others as they were; after none of them each component
-- holds what it was opened with.
pub record LastEntriesDecide : Type 0 where
  pub value : (o : Opening) (h : List Applied) (e : Applied) (j : ℕ) →
      value_of o (h ++ e ∷ []) j ≡ (if e.component == j then e.value else value_of o h j)
  pub stamp : (o : Opening) (h : List Applied) (e : Applied) (j : ℕ) →
      stamp_of o (h ++ e ∷ []) j ≡ (if e.component == j then e.stamp else stamp_of o h j)
  pub no_value : (o : Opening) (j : ℕ) → value_of o [] j ≡ slice_index o.values j
  pub no_stamp : (o : Opening) (j : ℕ) → stamp_of o [] j ≡ initial_stamp o j

-- each entry for component j leaves its value or raises it
abbrev pub OnlyRises : Opening → List Applied → ℕ → Type 0
OnlyRises o h j = (k : ℕ) (e : Applied) → slice_get h k ≡ Some e → e.component ≡ j → value_of o (take k h) j ≤ e.value

-- the value of a component that only rises never falls
abbrev pub RisingNeverFalls : Type 0
RisingNeverFalls =
    (o : Opening) (h : List Applied) (j m n : ℕ) → OnlyRises o h j → m ≤ n → n ≤ length h
    → value_of o (take m h) j ≤ value_of o (take n h) j
