-- When a history and a list of calls are a legal outcome: the partial snapshot object, linearized.
use Rattle.std.specs.Prelude.{ℕ, ◌≡◌, ◌+◌, ◌<◌, ◌≤◌, ◌⊎◌, ◌==◌, ⊤, List, [], ◌∷◌, length, Option, Some, None, IfSome, IsSomeAnd, if◌then◌else◌, filter}
use Rattle.std.specs.List.{filter_map, flat_map}
use Rattle.std.specs.Option.{option_map}
use Rattle.partial_model.specs.declared.history.Applied.{Applied}
use Rattle.partial_model.specs.declared.history.Opening.{Opening}
use Rattle.partial_model.specs.declared.call.Note.{Note}
use Rattle.partial_model.specs.declared.call.Called.{Called}
use Rattle.partial_model.specs.History.{IsHistory}
use Rattle.partial_model.specs.Notes.{Noted, LegalNotes, place_of, shown_by}

-- what is known of a finished call
abbrev pub noted_of : Called → Option Noted
noted_of c = option_map (λ f. record { call = c.call; answer = f.answer; note = f.note }) c.finish

-- the finished calls of port p, in order
abbrev pub notes_of : ℕ → List Called → List Noted
notes_of p calls = filter_map noted_of (filter (λ c. c.port == p) calls)

-- the place that a note claims as the call's own entry
abbrev pub wrote : Option Note → List ℕ
wrote (Some (Note.Wrote k)) = k ∷ []
wrote _ = []

-- the places of the entries that the notes claim
abbrev pub places_written : List Noted → List ℕ
places_written ns = flat_map (λ n. wrote n.note) ns

-- the places of the entries by port p, when the first entry stands at place k
abbrev pub places_by : ℕ → ℕ → List Applied → List ℕ
places_by p k [] = []
places_by p k (e ∷ h) = if e.port == p then k ∷ places_by p (k + 1) h else places_by p (k + 1) h

-- a port's entries are those that its notes claim, each once and in the order of its calls
abbrev pub EachOnce : List Applied → ℕ → List Noted → Type 0
EachOnce h p ns = places_by p 0 h ≡ places_written ns

-- The call may stand after that one: a port's calls are numbered from 0 without gaps, each begins
-- once the one before has ended, and the ports rise.
abbrev pub Follows : Option Called → Called → Type 0
Follows None c = c.number ≡ 0
Follows (Some b) c = ((b.port < c.port) × (c.number ≡ 0)) ⊎
    ((c.port ≡ b.port) × (c.number ≡ b.number + 1) × IsSomeAnd b.finish (λ f. f.ended ≤ c.began))

-- a call begins, has its place and ends in this order, while the history has at most n entries
abbrev pub IsInTime : ℕ → Called → Type 0
IsInTime n c = (c.began ≤ n) × IfSome c.finish (λ f. (c.began ≤ f.ended) × (f.ended ≤ n) ×
    IfSome f.note (λ note. (c.began ≤ place_of note) × (shown_by note ≤ f.ended)))

-- the calls after that one, in a history of n entries
abbrev pub RealTime : ℕ → Option Called → List Called → Type 0
RealTime n before [] = ⊤
RealTime n before (c ∷ cs) = Follows before c × IsInTime n c × RealTime n (Some c) cs

-- There is one history of applied updates, each in it once and in its port's order; each call has its
-- place in it, between its begin and its end, and its answer is right there.
pub record LegalOutcome (o : Opening) (h : List Applied) (calls : List Called) : Type 0 where
  pub history : IsHistory o h
  pub notes : (p : ℕ) → LegalNotes o h p 0 (notes_of p calls)
  pub once : (p : ℕ) → EachOnce h p (notes_of p calls)
  pub time : RealTime (length h) None calls
