-- What each call of a memory leaves of its port.
use Rattle.std.specs.Prelude.{ℕ, ◌≡◌, ◌+◌, ◌<◌, ◌≤◌, ◌⊎◌, List, [], ◌∷◌, ◌++◌, length, map, take, None, Some, slice_index}
use Rattle.partial_model.specs.declared.call.Call.{Call}
use Rattle.partial_model.specs.declared.call.Answer.{Answer}
use Rattle.partial_model.specs.declared.call.Note.{Note}
use Rattle.partial_model.specs.declared.history.Applied.{Applied}
use Rattle.partial_model.specs.History.{stamp_of}
use Rattle.partial_model.specs.Notes.{NamesComponents, Noted, place_of, shown_by}
pub use Rattle.partial_lines.specs.declared.whole_scan.Scanned.{Scanned}
use Rattle.partial_epochs.specs.Layout.{epoch_limit}
use Rattle.partial_long_lived.specs.declared.answers.Updated.{Updated}
use Rattle.partial_long_lived.specs.declared.answers.Updated.TheVariants.{Applied as IsApplied, Lost}
use Rattle.partial_long_lived.specs.declared.answers.UpdatedIf.{UpdatedIf}
use Rattle.partial_long_lived.specs.declared.error.Refused.{Refused}
use Rattle.partial_long_lived.specs.declared.error.Refused.TheVariants.{Component, EpochsSpent, Overtaken}
use Rattle.partial_long_lived.specs.Ports.{HasLawfulState, Knows, PortView}

-- what every call does to its port: it stands in no earlier epoch, the history that it has observed grows, it has met no less, and it has noted
-- these calls more
pub record Goes (p q : PortView) (new : List Noted) : Type 0 where
  pub memory : q.memory ≡ p.memory
  pub number : q.number ≡ p.number
  pub epoch : p.epoch ≤ q.epoch
  pub seals : p.seals ≤ q.seals
  pub seen : p.seen ≡ take (length p.seen) q.seen
  pub notes : q.notes ≡ p.notes ++ new
  pub knows : Knows q.memory.about q.number q.seen q.notes

-- A call that was answered with a note. It began when the history held all that the port had seen before; its place is not before that, and
-- within what the port has seen now.
pub record Answered (p q : PortView) (c : Call) (a : Answer) (n : Note) : Type 0 where
  pub inside : NamesComponents p.memory.about.sizes.m c
  pub goes : Goes p q (record { call = c; answer = a; note = Some n } ∷ [])
  pub first : length p.seen ≤ q.began
  pub behind : q.began ≤ place_of n
  pub within : shown_by n ≤ length q.seen

-- a read that ended: the value and the stamp of the component after a prefix of what is seen now
abbrev pub Reads : PortView → ℕ → ℕ → ℕ → PortView → Type 0
Reads p j value stamp q = (n : ℕ) × Answered p q (Call.Read j) (Answer.Read value stamp) (Note.Saw n)

-- An update that ended: an applied one is the last entry of all that is seen, a lost one was overwritten by an entry that had not been seen
-- before.
abbrev pub Updates : PortView → ℕ → ℕ → Updated → PortView → Type 0
Updates p j v (IsApplied stamp) q = (k : ℕ) × Answered p q (Call.Update j v) (Answer.Applied stamp) (Note.Wrote k) × (k + 1 ≡ length q.seen)
Updates p j v (Lost by) q = (k : ℕ) × Answered p q (Call.Update j v) (Answer.Lost by) (Note.Lost k)

-- a conditional update that ended: applied likewise, or it saw another stamp than the expected one
abbrev pub UpdatesIf : PortView → ℕ → ℕ → ℕ → UpdatedIf → PortView → Type 0
UpdatesIf p j expected v (UpdatedIf.Applied stamp) q =
    (k : ℕ) × Answered p q (Call.UpdateIf j expected v) (Answer.Applied stamp) (Note.Wrote k) × (k + 1 ≡ length q.seen)
UpdatesIf p j expected v (UpdatedIf.Changed by) q = (n : ℕ) × Answered p q (Call.UpdateIf j expected v) (Answer.Changed by) (Note.Saw n)

-- a scan that ended: the values after one prefix of what is seen now; one of no position makes no step and isn't noted
abbrev pub Scans : PortView → List ℕ → List ℕ → Scanned → PortView → Type 0
Scans p [] values s q = (values ≡ []) × (s.collects ≡ 0) × (s.borrowed ≡ None) × (q ≡ p)
Scans p (j ∷ js) values s q =
    (n : ℕ) × Answered p q (Call.Scan (j ∷ js)) (Answer.Scanned values s.collects s.borrowed) (Note.Saw n)

-- the component j has that stamp after the first n entries that the port has seen
abbrev pub HasStampThen : PortView → ℕ → ℕ → ℕ → Type 0
HasStampThen p n j s = stamp_of p.memory.about.opening (take n p.seen) j ≡ s

-- a scan with stamps that ended: a scan, and unless it took the view of an update, the stamps after the same prefix
abbrev pub ScansStamped : PortView → List ℕ → List ℕ → List ℕ → Scanned → PortView → Type 0
ScansStamped p [] values stamps s q = Scans p [] values s q × (stamps ≡ [])
ScansStamped p (j ∷ js) values stamps s q =
    (n : ℕ) × Answered p q (Call.Scan (j ∷ js)) (Answer.Scanned values s.collects s.borrowed) (Note.Saw n)
    × (s.borrowed ≡ None → stamps ≡ map (λ i. stamp_of q.memory.about.opening (take n q.seen) i) (j ∷ js))

-- Each of these components is there, and had this stamp at a place of the call. There is one place, not before the call began, at which those
-- stood together whose stamps the port had seen.
pub record StoodTogether (p q : PortView) (js stamps : List ℕ) : Type 0 where
  pub goes : Goes p q []
  pub there : (k : ℕ) → k < length js → slice_index js k < p.memory.about.sizes.m
  pub place : ℕ
  pub first : length p.seen ≤ q.began
  pub behind : q.began ≤ place
  pub within : place ≤ length q.seen
  pub each : (k : ℕ) → k < length js → (n : ℕ) × (place ≤ n) × (n ≤ length q.seen) ×
      HasStampThen q n (slice_index js k) (slice_index stamps k)
  pub together : (k : ℕ) → k < length js → (n : ℕ) → n ≤ length p.seen → HasStampThen p n (slice_index js k) (slice_index stamps k) →
      HasStampThen q place (slice_index js k) (slice_index stamps k)

-- so it is of some components; of none nothing is said
abbrev pub StillStand : PortView → PortView → List ℕ → List ℕ → Type 0
StillStand p q [] stamps = Goes p q []
StillStand p q (j ∷ js) stamps = StoodTogether p q (j ∷ js) stamps

-- One of these components is missing, or had another stamp than this at a place of the call.
pub record Differ (p q : PortView) (js stamps : List ℕ) : Type 0 where
  pub goes : Goes p q []
  pub first : length p.seen ≤ q.began
  pub position : ℕ
  pub inside : position < length js
  pub why : (p.memory.about.sizes.m ≤ slice_index js position)
      ⊎ ((n : ℕ) × (q.began ≤ n) × (n ≤ length q.seen) × ¬ HasStampThen q n (slice_index js position) (slice_index stamps position))

-- Two ports that met: each has noted nothing, and has seen all that either had seen before. What the one has seen begins what the other one has
-- seen, and in what each has seen the other one's notes are legal, and its entries are those of its notes.
pub record Meets (a b c d : PortView) : Type 0 where
  pub first : Goes a c []
  pub second : Goes b d []
  pub first_all : b.seen ≡ take (length b.seen) c.seen
  pub second_all : a.seen ≡ take (length a.seen) d.seen
  pub first_knows : Knows b.memory.about b.number c.seen b.notes
  pub second_knows : Knows a.memory.about a.number d.seen a.notes
  pub one : (c.seen ≡ take (length c.seen) d.seen) ⊎ (d.seen ≡ take (length d.seen) c.seen)

-- A port as a state with this history and these notes has it: what it has seen begins the history, which is no shorter than when its last
-- call began, and its notes are its own.
pub record IsPortThen (log : List Applied) (notes : ℕ → List Noted) (p : PortView) : Type 0 where
  pub seen : p.seen ≡ take (length p.seen) log
  pub noted : notes p.number ≡ p.notes
  pub began : p.began ≤ length log

-- The rule of the table as two ports met: at the last look of the meeting there was a lawful state, whose one history begins with all that
-- each of them has seen now, and which has the notes of both.
pub record MeetByTheRule (c d : PortView) : Type 0 where
  pub log : List Applied
  pub notes : ℕ → List Noted
  pub state : HasLawfulState c.memory.about log notes
  pub first : IsPortThen log notes c
  pub second : IsPortThen log notes d

-- Why a call that changes the epoch can't end: its port has entered 16 later epochs and has found its component sealed in 15 of them at
-- least (in its first epoch it may have no room left); or its epoch is the last one that a word can name.
abbrev pub CantEnd : PortView → Refused → PortView → Type 0
CantEnd p Component q = ⊥
CantEnd p Overtaken q = (p.epoch + 16 ≤ q.epoch) × (p.seals + 15 ≤ q.seals)
CantEnd p EpochsSpent q = q.epoch + 1 ≡ epoch_limit

-- Why a call is refused, and what is left of its port. For a component that isn't there nothing has changed; otherwise nothing is noted,
-- and the port may have seen more. A read has no other cause, and only updates are overtaken.
abbrev pub IsRefused : PortView → Call → Refused → PortView → Type 0
IsRefused p c Component q = (¬ NamesComponents p.memory.about.sizes.m c) × (q ≡ p)
IsRefused p (Call.Read j) cause q = ⊥
IsRefused p (Call.Scan js) Overtaken q = ⊥
IsRefused p c cause q = NamesComponents p.memory.about.sizes.m c × Goes p q [] × CantEnd p cause q
