-- Which answers and notes fit a call, and when the notes of a port are legal in a history.
use Rattle.std.specs.Prelude.{ℕ, ◌≡◌, ◌≢◌, ◌+◌, ◌<◌, ◌≤◌, ⊤, zero, suc, List, [], ◌∷◌, length, map, take, Contains, slice_get, Option, Some, None, IsSome, IfSome}
use Rattle.std.specs.List.{AllByRecursion}
use Rattle.partial_model.specs.declared.history.Applied.{Applied}
use Rattle.partial_model.specs.declared.history.Opening.{Opening}
use Rattle.partial_model.specs.declared.call.Call.{Call}
use Rattle.partial_model.specs.declared.call.Refused.{Refused}
use Rattle.partial_model.specs.declared.call.Answer.{Answer}
use Rattle.partial_model.specs.declared.call.Note.{Note}
use Rattle.partial_model.specs.History.{value_of, stamp_of}

-- what a port knows of a finished call
pub record Noted : Type 0 where
  pub call : Call
  pub answer : Answer
  pub note : Option Note

-- the components that a call names
abbrev pub indices_of : Call → List ℕ
indices_of (Call.Update j v) = j ∷ []
indices_of (Call.Scan js) = js
indices_of (Call.Read j) = j ∷ []
indices_of (Call.UpdateIf j s v) = j ∷ []

-- each component that the call names is there
abbrev pub NamesComponents : ℕ → Call → Type 0
NamesComponents m c = AllByRecursion (λ j. j < m) (indices_of c)

-- the call claims words of the pool
abbrev pub ClaimsPool : Call → Type 0
ClaimsPool (Call.Update j v) = ⊤
ClaimsPool (Call.Scan js) = 0 < length js
ClaimsPool (Call.Read j) = ⊥
ClaimsPool (Call.UpdateIf j s v) = ⊤

-- the call claims a slot
abbrev pub ClaimsSlot : Call → Type 0
ClaimsSlot (Call.Scan js) = 0 < length js
ClaimsSlot _ = ⊥

-- the causes for which a call may be refused: an index that isn't below m comes first
abbrev pub MayBeRefused : ℕ → Call → Refused → Type 0
MayBeRefused m c Refused.Component = ¬ NamesComponents m c
MayBeRefused m c Refused.SlotsSpent = NamesComponents m c × ClaimsSlot c
MayBeRefused m c Refused.PoolSpent = NamesComponents m c × ClaimsPool c

-- the answers that a call may have, each with its note; no other fits
abbrev pub Fits : ℕ → Call → Answer → Option Note → Type 0
Fits m c (Answer.Refused cause) None = MayBeRefused m c cause
Fits m (Call.Update j v) (Answer.Applied s) (Some (Note.Wrote k)) = j < m
Fits m (Call.Update j v) (Answer.Lost by) (Some (Note.Lost k)) = j < m
Fits m (Call.Scan js) (Answer.Scanned vs c b) (Some (Note.Saw n)) = NamesComponents m (Call.Scan js)
Fits m (Call.Read j) (Answer.Read v s) (Some (Note.Saw n)) = j < m
Fits m (Call.UpdateIf j x v) (Answer.Applied s) (Some (Note.Wrote k)) = j < m
Fits m (Call.UpdateIf j x v) (Answer.Changed t) (Some (Note.Saw n)) = j < m
Fits m _ _ _ = ⊥

-- how many entries of the history a note shows
abbrev pub shown_by : Note → ℕ
shown_by (Note.Wrote k) = k + 1
shown_by (Note.Lost k) = k + 1
shown_by (Note.Saw n) = n

-- before how many entries the call has its place
abbrev pub place_of : Note → ℕ
place_of (Note.Wrote k) = k
place_of (Note.Lost k) = k
place_of (Note.Saw n) = n

-- the entry at place k is for component j and has stamp t
abbrev pub IsEntryFor : List Applied → ℕ → ℕ → ℕ → Type 0
IsEntryFor h k j t = (e : Applied) × (slice_get h k ≡ Some e) × (e.component ≡ j) × (e.stamp ≡ t)

-- a scan of no position makes no collect; one of r makes 2 to r + 2, and at least 3 when it borrows a view
abbrev pub AreCollects : ℕ → ℕ → Option ℕ → Type 0
AreCollects zero c b = (c ≡ 0) × (b ≡ None)
AreCollects (suc r) c b = (2 ≤ c) × (c ≤ r + 3) × (IsSome b → 3 ≤ c)

-- what a scan of the components js saw: their values after n entries
pub record SawTogether (o : Opening) (h : List Applied) (js vs : List ℕ) (c : ℕ) (b : Option ℕ) (n : ℕ) : Type 0 where
  pub within : n ≤ length h
  pub values : vs ≡ map (λ j. value_of o (take n h) j) js
  pub collects : AreCollects (length js) c b
  -- a borrowed stamp is that of an entry for one of the components, at place n or later
  pub borrowed : IfSome b (λ t. (k j : ℕ) × (n ≤ k) × Contains js j × IsEntryFor h k j t)

-- what the answer and note of a call of port p say of the history h
abbrev pub IsTrueOf : Opening → List Applied → ℕ → Call → Answer → Note → Type 0
IsTrueOf o h p (Call.Update j v) (Answer.Applied s) (Note.Wrote k) =
    slice_get h k ≡ Some (record { port = p; component = j; value = v; stamp = s })
IsTrueOf o h p (Call.Update j v) (Answer.Lost by) (Note.Lost k) = IsEntryFor h k j by
IsTrueOf o h p (Call.Scan js) (Answer.Scanned vs c b) (Note.Saw n) = SawTogether o h js vs c b n
IsTrueOf o h p (Call.Read j) (Answer.Read v s) (Note.Saw n) = (n ≤ length h) × (v ≡ value_of o (take n h) j) × (s ≡ stamp_of o (take n h) j)
IsTrueOf o h p (Call.UpdateIf j x v) (Answer.Applied s) (Note.Wrote k) =
    (slice_get h k ≡ Some (record { port = p; component = j; value = v; stamp = s })) × (stamp_of o (take k h) j ≡ x)
IsTrueOf o h p (Call.UpdateIf j x v) (Answer.Changed t) (Note.Saw n) = (n ≤ length h) × (stamp_of o (take n h) j ≡ t) × (t ≢ x)
IsTrueOf o h p _ _ _ = ⊥

-- the triple fits, and its note is true of the history and lies after all that was seen before
abbrev pub IsLegal : Opening → List Applied → ℕ → ℕ → Noted → Type 0
IsLegal o h p seen n = Fits (length o.values) n.call n.answer n.note ×
    IfSome n.note (λ note. IsTrueOf o h p n.call n.answer note × (seen ≤ place_of note))

-- how many entries a port has seen once a call is noted
abbrev pub seen_after : ℕ → Option Note → ℕ
seen_after seen None = seen
seen_after seen (Some note) = shown_by note

-- how many entries a port has seen after these notes, when it had seen that many before
abbrev pub seen_by : ℕ → List Noted → ℕ
seen_by seen [] = seen
seen_by seen (n ∷ ns) = seen_by (seen_after seen n.note) ns

-- the notes of port p, in the order of its calls, when it had seen that many entries before
abbrev pub LegalNotes : Opening → List Applied → ℕ → ℕ → List Noted → Type 0
LegalNotes o h p seen [] = ⊤
LegalNotes o h p seen (n ∷ ns) = IsLegal o h p seen n × LegalNotes o h p (seen_after seen n.note) ns

-- legal notes show no more entries than the history has
abbrev pub LegalNotesAreShown : Type 0
LegalNotesAreShown = (o : Opening) (h : List Applied) (p : ℕ) (ns : List Noted) → LegalNotes o h p 0 ns → seen_by 0 ns ≤ length h
