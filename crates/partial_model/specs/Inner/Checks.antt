-- The clauses of a legal outcome as tests. The laws of proofs/ show that each decides its clause.
use Rattle.std.specs.Prelude.{ℕ, ◌+◌, ◌-◌, ◌/◌, ◌%◌, ◌==◌, nat_le, nat_lt, zero, suc, Bool, true, false, not, ◌&&◌, ◌||◌, List, [], ◌∷◌, length, take, drop, slice_get, Option, Some, None, if◌then◌else◌}
use Rattle.std.specs.List.{list_all, list_any}
use Rattle.std.specs.Option.{option_map_or, is_none}
use Rattle.partial_model.specs.declared.history.Applied.{Applied}
use Rattle.partial_model.specs.declared.history.Opening.{Opening}
use Rattle.partial_model.specs.declared.call.Call.{Call}
use Rattle.partial_model.specs.declared.call.Refused.{Refused}
use Rattle.partial_model.specs.declared.call.Answer.{Answer}
use Rattle.partial_model.specs.declared.call.Note.{Note}
use Rattle.partial_model.specs.declared.call.Finish.{Finish}
use Rattle.partial_model.specs.declared.call.Called.{Called}
use Rattle.partial_model.specs.History.{value_of, stamp_of}
use Rattle.partial_model.specs.Notes.{indices_of, place_of, shown_by, seen_after}
use Rattle.partial_model.specs.Outcome.{wrote, places_by}

-- s is the initial stamp of a component below m
abbrev pub is_initial : Opening → ℕ → ℕ → Bool
is_initial o m s = nat_le o.first s && ((s - o.first) % 3 == 0) && nat_lt ((s - o.first) / 3) m

-- no two entries have one stamp
abbrev pub are_distinct : List Applied → Bool
are_distinct [] = true
are_distinct (e ∷ h) = not (list_any (λ f. e.stamp == f.stamp) h) && are_distinct h

-- `IsHistory`
abbrev pub is_history : Opening → List Applied → Bool
is_history o h = list_all (λ e. nat_lt e.component (length o.values)) h && are_distinct h && not
    (list_any (λ e. is_initial o (length o.values) e.stamp) h)

-- `NamesComponents`
abbrev pub names_components : ℕ → List ℕ → Bool
names_components m js = list_all (λ j. nat_lt j m) js

-- `ClaimsPool`
abbrev pub claims_pool : Call → Bool
claims_pool (Call.Update j v) = true
claims_pool (Call.Scan js) = nat_lt 0 (length js)
claims_pool (Call.Read j) = false
claims_pool (Call.UpdateIf j s v) = true

-- `ClaimsSlot`
abbrev pub claims_slot : Call → Bool
claims_slot (Call.Update j v) = false
claims_slot (Call.Scan js) = nat_lt 0 (length js)
claims_slot (Call.Read j) = false
claims_slot (Call.UpdateIf j s v) = false

-- `MayBeRefused`
abbrev pub may_be_refused : ℕ → Call → Refused → Bool
may_be_refused m c Refused.Component = not (names_components m (indices_of c))
may_be_refused m c Refused.SlotsSpent = names_components m (indices_of c) && claims_slot c
may_be_refused m c Refused.PoolSpent = names_components m (indices_of c) && claims_pool c

-- the entry at place k is that one
abbrev pub stands_at : List Applied → ℕ → Applied → Bool
stands_at h k a = option_map_or (λ e. (e.port == a.port) && (e.component == a.component) && (e.value == a.value) &&
    (e.stamp == a.stamp)) (slice_get h k) false

-- `IsEntryFor`
abbrev pub is_entry_for : List Applied → ℕ → ℕ → ℕ → Bool
is_entry_for h k j t = option_map_or (λ e. (e.component == j) && (e.stamp == t)) (slice_get h k) false

-- `AreCollects`
abbrev pub are_collects : ℕ → ℕ → Option ℕ → Bool
are_collects zero c b = (c == 0) && is_none b
are_collects (suc r) c b = nat_le 2 c && nat_le c (r + 3) && (is_none b || nat_le 3 c)

-- the components hold these values
abbrev pub hold : (ℕ → ℕ) → List ℕ → List ℕ → Bool
hold value [] [] = true
hold value (j ∷ js) (v ∷ vs) = (value j == v) && hold value js vs
hold value _ _ = false

-- one of the entries is for one of the components and has stamp t
abbrev pub shows_stamp : List ℕ → ℕ → List Applied → Bool
shows_stamp js t h = list_any (λ e. (e.stamp == t) && list_any (λ j. j == e.component) js) h

-- `SawTogether`
abbrev pub saw_together : Opening → List Applied → List ℕ → List ℕ → ℕ → Option ℕ → ℕ → Bool
saw_together o h js vs c b n = nat_le n (length h) && hold (value_of o (take n h)) js vs && are_collects (length js) c b && option_map_or
    (λ t. shows_stamp js t (drop n h)) b true

-- `Fits` and `IsTrueOf` of an answer with a note
abbrev pub is_right : Opening → List Applied → ℕ → Call → Answer → Note → Bool
is_right o h p (Call.Update j v) (Answer.Applied s) (Note.Wrote k) = nat_lt j (length o.values) && stands_at h k
    (record { port = p; component = j; value = v; stamp = s })
is_right o h p (Call.Update j v) (Answer.Lost by) (Note.Lost k) = nat_lt j (length o.values) && is_entry_for h k j by
is_right o h p (Call.Scan js) (Answer.Scanned vs c b) (Note.Saw n) = names_components (length o.values) js && saw_together o h js vs c b n
is_right o h p (Call.Read j) (Answer.Read v s) (Note.Saw n) = nat_lt j (length o.values) && nat_le n (length h) &&
    (value_of o (take n h) j == v) && (stamp_of o (take n h) j == s)
is_right o h p (Call.UpdateIf j x v) (Answer.Applied s) (Note.Wrote k) = nat_lt j (length o.values) && stands_at h k
    (record { port = p; component = j; value = v; stamp = s }) && (stamp_of o (take k h) j == x)
is_right o h p (Call.UpdateIf j x v) (Answer.Changed t) (Note.Saw n) = nat_lt j (length o.values) && nat_le n (length h) &&
    (stamp_of o (take n h) j == t) && not (t == x)
is_right o h p _ _ _ = false

-- `Fits` of an answer without a note
abbrev pub is_refusal : ℕ → Call → Answer → Bool
is_refusal m c (Answer.Refused cause) = may_be_refused m c cause
is_refusal m c _ = false

-- `IsLegal`, where the port had seen so many entries before
abbrev pub is_legal : Opening → List Applied → ℕ → ℕ → Call → Answer → Option Note → Bool
is_legal o h p seen c a None = is_refusal (length o.values) c a
is_legal o h p seen c a (Some n) = is_right o h p c a n && nat_le seen (place_of n)

-- the call is unfinished, or `IsLegal`
abbrev pub call_is_legal : Opening → List Applied → ℕ → Called → Bool
call_is_legal o h seen c = option_map_or (λ f. is_legal o h c.port seen c.call f.answer f.note) c.finish true

-- how many entries the port of a call has seen after it
abbrev pub seen_behind : ℕ → Option Finish → ℕ
seen_behind seen None = seen
seen_behind seen (Some f) = seen_after seen f.note

-- the notes of the calls are legal, where port q had seen so many entries before and no other port has
abbrev pub notes_are_legal : Opening → List Applied → ℕ → ℕ → List Called → Bool
notes_are_legal o h q seen [] = true
notes_are_legal o h q seen (c ∷ cs) = let before = if c.port == q then seen else 0 in call_is_legal o h before c && notes_are_legal o h
    c.port (seen_behind before c.finish) cs

-- the places of the entries by port p, from place k on
abbrev pub places_from : List Applied → ℕ → ℕ → List ℕ
places_from h p k = places_by p k (drop k h)

-- the place that a call claims as its own entry
abbrev pub claim_of : Option Finish → List ℕ
claim_of None = []
claim_of (Some f) = wrote f.note

-- what is left of the places once the claimed ones were taken from their front
abbrev pub places_left : List ℕ → List ℕ → Option (List ℕ)
places_left places [] = Some places
places_left [] (k ∷ ks) = None
places_left (i ∷ places) (k ∷ ks) = if i == k then places_left places ks else None

-- no place is left
abbrev pub no_place_left : List ℕ → Bool
no_place_left [] = true
no_place_left (k ∷ ks) = false

-- no entry is by a port between these two
abbrev pub none_between : ℕ → ℕ → List Applied → Bool
none_between q p h = list_all (λ e. nat_le e.port q || nat_le p e.port) h

-- no entry is by a port above that one
abbrev pub none_above : ℕ → List Applied → Bool
none_above q h = list_all (λ e. nat_le e.port q) h

-- Port q has these places left when the calls of port p begin: none, unless they are the same.
abbrev pub may_go_on : List Applied → ℕ → List ℕ → ℕ → Bool
may_go_on h q places p = (p == q) || (no_place_left places && none_between q p h)

-- the places by p that are still to be claimed, where port q has these left
abbrev pub to_claim : List Applied → ℕ → List ℕ → ℕ → List ℕ
to_claim h q places p = if p == q then places else places_by p 0 h

-- The calls claim these places of port q, and all places of the ports above it.
abbrev pub claim_all : List Applied → ℕ → List ℕ → List Called → Bool
claim_all h q places [] = no_place_left places && none_above q h
claim_all h q places (c ∷ cs) = may_go_on h q places c.port && option_map_or (λ left. claim_all h c.port left cs)
    (places_left (to_claim h q places c.port) (claim_of c.finish)) false

-- `Follows`
abbrev pub follows : Option Called → Called → Bool
follows None c = c.number == 0
follows (Some b) c = (nat_lt b.port c.port && (c.number == 0)) ||
    ((c.port == b.port) && (c.number == b.number + 1) && option_map_or (λ f. nat_le f.ended c.began) b.finish false)

-- `IsInTime` of a finish
abbrev pub ends_in_time : ℕ → ℕ → Finish → Bool
ends_in_time n began f = nat_le began f.ended && nat_le f.ended n && option_map_or
    (λ note. nat_le began (place_of note) && nat_le (shown_by note) f.ended) f.note true

-- `IsInTime`
abbrev pub is_in_time : ℕ → Called → Bool
is_in_time n c = nat_le c.began n && option_map_or (ends_in_time n c.began) c.finish true

-- `RealTime`
abbrev pub are_in_time : ℕ → Option Called → List Called → Bool
are_in_time n before [] = true
are_in_time n before (c ∷ cs) = follows before c && is_in_time n c && are_in_time n (Some c) cs

-- `LegalOutcome`
abbrev pub is_legal_outcome : Opening → List Applied → List Called → Bool
is_legal_outcome o h calls = is_history o h && are_in_time (length h) None calls && notes_are_legal o h 0 0 calls && claim_all h 0
    (places_by 0 0 h) calls
