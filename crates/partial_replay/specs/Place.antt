-- Where in the history a call has its place: the entry with a stamp, from the call's begin on.
use Rattle.std.specs.Prelude.{ℕ, length, ◌≡◌, ◌≢◌, ◌+◌, ◌<◌, ◌≤◌, ⊤, List, map, take, Option, Some, None, IfSome, MatchOption, slice_get}
use Rattle.std.specs.Option.{option_map}
use Rattle.partial_model.specs.declared.history.Applied.{Applied}
use Rattle.partial_model.specs.declared.history.Opening.{Opening}
use Rattle.partial_model.specs.declared.call.Call.{Call}
use Rattle.partial_model.specs.declared.call.Answer.{Answer}
use Rattle.partial_model.specs.declared.call.Called.{Called}
use Rattle.partial_model.specs.History.{value_of, stamp_of}
use Rattle.partial_model.specs.declared.call.Note.{Note}
use Rattle.std.specs.List.{AllByRecursion}
use Rattle.partial_words.specs.Chain.{Agrees}
use Rattle.partial_replay.specs.ScanPlace.{ShowsValues, IsLeast}

-- the entry at a place has that stamp
abbrev pub HasStampAt : List Applied → ℕ → ℕ → Type 0
HasStampAt h k s = (e : Applied) × (slice_get h k ≡ Some e) × (e.stamp ≡ s)

-- no entry from that place on has the stamp
abbrev pub HasNoneFrom : List Applied → ℕ → ℕ → Type 0
HasNoneFrom h began s = (k : ℕ) (e : Applied) → began ≤ k → slice_get h k ≡ Some e → e.stamp ≢ s

-- the place from `began` on of the entry with that stamp, if there is one
abbrev pub IsPlaceFrom : List Applied → ℕ → ℕ → Option ℕ → Type 0
IsPlaceFrom h began s found = MatchOption found (HasNoneFrom h began s) (λ k. (began ≤ k) × HasStampAt h k s)

-- the least prefix from `began` on that shows the stamp
abbrev pub prefix_from : ℕ → Option ℕ → ℕ
prefix_from began None = began
prefix_from began (Some k) = k + 1

-- The place of a scan from `began` on, in a history with which the words agree: the least prefix that shows
-- its values, if one does.
abbrev pub IsScanPlace : List ℕ → List Applied → ℕ → List ℕ → List ℕ → ℕ → Type 0
IsScanPlace words h began js vs n = (o : Opening) (shown : ℕ) → Agrees o words h → AllByRecursion (λ j. j < length o.values) js →
    began ≤ shown → shown ≤ length h → ShowsValues o h js vs shown → IsLeast (ShowsValues o h js vs) began (length h) n

-- the note of a call that began at that length of the history and ended with that answer
abbrev pub IsNoteFrom : List ℕ → List Applied → ℕ → Call → Answer → Option Note → Type 0
IsNoteFrom words h began c (Answer.Applied s) result = (found : Option ℕ) × IsPlaceFrom h began s found ×
    (result ≡ option_map Note.Wrote found)
IsNoteFrom words h began c (Answer.Lost by) result = (found : Option ℕ) × IsPlaceFrom h began by found ×
    (result ≡ option_map Note.Lost found)
IsNoteFrom words h began c (Answer.Read v s) result = (found : Option ℕ) × IsPlaceFrom h began s found ×
    (result ≡ Some (Note.Saw (prefix_from began found)))
IsNoteFrom words h began c (Answer.Changed by) result = (found : Option ℕ) × IsPlaceFrom h began by found ×
    (result ≡ Some (Note.Saw (prefix_from began found)))
IsNoteFrom words h began (Call.Scan js) (Answer.Scanned vs collects borrowed) result = (n : ℕ) × IsScanPlace words h began js vs n ×
    (result ≡ Some (Note.Saw n))
IsNoteFrom words h began c _ result = result ≡ None

-- the history shows the answer: the values, of a read the stamp too, and of a changed component the stamp
abbrev pub Shows : Opening → List Applied → Call → Answer → Type 0
Shows o h (Call.Scan js) (Answer.Scanned vs c b) = vs ≡ map (λ j. value_of o h j) js
Shows o h (Call.Read j) (Answer.Read v s) = (v ≡ value_of o h j) × (s ≡ stamp_of o h j)
Shows o h (Call.UpdateIf j x v) (Answer.Changed t) = stamp_of o h j ≡ t
Shows o h _ _ = ⊤

-- what a call saw is the least prefix from its begin on that shows its answer
abbrev pub IsLeastFrom : Opening → List Applied → ℕ → Call → Answer → Note → Type 0
IsLeastFrom o h began c a (Note.Saw n) = (i : ℕ) → began ≤ i → i < n → ¬ Shows o (take i h) c a
IsLeastFrom o h began c a _ = ⊤

-- what a finished call saw is the least prefix from its begin on that shows its answer
abbrev pub HasLeastPlace : Opening → List Applied → Called → Type 0
HasLeastPlace o h c = IfSome c.finish (λ f. IfSome f.note (IsLeastFrom o h c.began c.call f.answer))
