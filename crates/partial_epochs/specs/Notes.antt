-- The one history, and what the ports note in it over all epochs.
use Rattle.std.specs.Prelude.{ℕ, ◌≡◌, ◌+◌, ◌<◌, ◌≤◌, ◌++◌, ◌⊎◌, ⊤, nat_lt, List, [], ◌∷◌, length, map, take, slice_get, Some, if◌then◌else◌}
use Rattle.std.specs.List.{AllByRecursion}
use Rattle.std.specs.Option.{option_map}
use Rattle.partial_model.specs.declared.history.Applied.{Applied}
use Rattle.partial_model.specs.declared.history.Opening.{Opening}
use Rattle.partial_model.specs.declared.call.Call.{Call}
use Rattle.partial_model.specs.declared.call.Answer.{Answer}
use Rattle.partial_model.specs.declared.call.Note.{Note}
use Rattle.partial_model.specs.History.{HaveDistinctStamps, IsHistory, stamp_of}
use Rattle.partial_model.specs.Notes.{Fits, IsTrueOf, Noted, LegalNotes, seen_by}
use Rattle.partial_model.specs.Outcome.{EachOnce, places_written}
use Rattle.partial_words.specs.Layout.{first_free}
use Rattle.partial_words.specs.Step.{words_after}
use Rattle.partial_words.specs.declared.step.Step.{Step}
use Rattle.partial_words.specs.declared.step.Step.TheVariants.{Exchange}
use Rattle.partial_machine.specs.Machine.{CoreState}
use Rattle.partial_core.specs.Part.{with_seen}
use Rattle.partial_core.specs.Steps.{since_with}
use Rattle.partial_epochs.specs.Lists.{put}
use Rattle.partial_epochs.specs.Layout.{Site, Plan, at_word, entering_from, packed, based_step}
use Rattle.partial_epochs.specs.History.{stamp_after, history_of, opened_after, public_stamp, stamp_limit}
use Rattle.partial_epochs.specs.Ports.{OwnedArena, Port}
use Rattle.partial_epochs.specs.Ports.Entering.{Stands}
use Rattle.partial_epochs.specs.Epochs.{Beside, IsStanding, LawfulEpochs}
use Rattle.partial_epochs.specs.MachineSteps.{MachineLeads}
use Rattle.partial_epochs.specs.Sealing.{IsBesideAs}
use Rattle.partial_epochs.specs.Entering.{Arrives, arrived_port}
use Rattle.partial_epochs.specs.Publishing.{having_published, next_beside}

-- the one history: the histories of all epochs, one after the other, with public stamps
abbrev pub one_history : Beside → List Applied
one_history b = history_of (b.log ∷ b.before)

-- what is so of the history of an epoch
pub record IsEpochHistory (e : Plan) (h : List Applied) : Type 0 where
  -- each entry is for a component, and by a port
  pub components : AllByRecursion (λ a. a.component < e.sizes.m) h
  pub ports : AllByRecursion (λ a. a.port < e.ports) h
  -- each stamp is of one entry
  pub distinct : HaveDistinctStamps h
  -- it is that of a record after the initial ones, and fits below the epoch's number
  pub above : AllByRecursion (λ a. first_free e.sizes ≤ a.stamp) h
  pub below : AllByRecursion (λ a. a.stamp < stamp_limit) h

-- how many entries of the one history a port has seen
abbrev pub seen_of : Port → ℕ
seen_of p = length (history_of p.before) + length p.part.seen

-- What a port has seen lies in the one history: its epoch is the current one or a finished one.
pub record EpochReached (b : Beside) (p : Port) : Type 0 where
  pub later : List (List Applied)
  pub log : List Applied
  pub is : b.log ∷ b.before ≡ later ++ log ∷ p.before
  -- the port has seen no more of its epoch than there is
  pub seen : length p.part.seen ≤ length log
  -- so many epochs come before
  pub epoch : length p.before ≡ p.control.here.epoch

-- The notes of each port are lawful, over all epochs.
pub record LawfulNotes (e : Plan) (ports : ℕ → Port) (b : Beside) (notes : ℕ → List Noted) : Type 0 where
  -- the histories of the finished epochs are those of epochs
  pub finished : AllByRecursion (IsEpochHistory e) b.before
  -- what a port has seen lies in the one history
  pub reached : (k : ℕ) → k < e.ports → EpochReached b (ports k)
  -- a port's notes are legal in the one history
  pub legal : (k : ℕ) → k < e.ports → LegalNotes e.opening (one_history b) k 0 (notes k)
  -- they show no more than the port has seen
  pub shown : (k : ℕ) → k < e.ports → seen_by 0 (notes k) ≤ seen_of (ports k)
  -- the port's entries are those of its notes, each once and in their order
  pub once : (k : ℕ) → k < e.ports → EachOnce (one_history b) k (notes k)

-- The lawful state of a memory, with what its ports have noted.
pub record LawfulMemory (e : Plan) (words : List ℕ) (ports : ℕ → Port) (b : Beside) (notes : ℕ → List Noted) : Type 0 where
  pub epochs : LawfulEpochs e words ports b
  pub noted : LawfulNotes e ports b notes

-- the public stamp of the record at s of component j, in the epoch after these: a record of the epoch's own, or the carried stamp
abbrev pub public_of : Plan → List (List Applied) → ℕ → ℕ → ℕ
public_of e before j s = if nat_lt s (first_free e.sizes) then stamp_after e.opening before j else public_stamp (length before) s

-- a call in an epoch as callers see it: a conditional update expects a public stamp
abbrev pub public_call : Plan → List (List Applied) → Call → Call
public_call e before (Call.UpdateIf j x v) = Call.UpdateIf j (public_of e before j x) v
public_call e before c = c

-- its answer, with public stamps
abbrev pub public_answer : Plan → List (List Applied) → Call → Answer → Answer
public_answer e before (Call.UpdateIf j x v) (Answer.Changed t) = Answer.Changed (public_of e before j t)
public_answer e before (Call.Read j) (Answer.Read v s) = Answer.Read v (public_of e before j s)
public_answer e before c (Answer.Applied s) = Answer.Applied (public_stamp (length before) s)
public_answer e before c (Answer.Lost by) = Answer.Lost (public_stamp (length before) by)
public_answer e before c (Answer.Scanned vs n b) = Answer.Scanned vs n (option_map (public_stamp (length before)) b)
public_answer e before c a = a

-- its place in the one history, after so many entries of the epochs before
abbrev pub public_note : ℕ → Note → Note
public_note n (Note.Wrote k) = Note.Wrote (n + k)
public_note n (Note.Lost k) = Note.Lost (n + k)
public_note n (Note.Saw k) = Note.Saw (n + k)

-- what a port notes over all epochs of a call that it has noted in its epoch
abbrev pub public_noted : Plan → List (List Applied) → Noted → Noted
public_noted e before n = record {
  call = public_call e before n.call;
  answer = public_answer e before n.call n.answer;
  note = option_map (public_note (length (history_of before))) n.note;
}

-- a conditional update that found another stamp expected one that its component had had in the epoch
abbrev pub ExpectedOne : Opening → List Applied → Call → Answer → Type 0
ExpectedOne o h (Call.UpdateIf j x v) (Answer.Changed t) = (n : ℕ) × (n ≤ length h) × (x ≡ stamp_of o (take n h) j)
ExpectedOne o h c a = ⊤

-- What a port notes over all epochs where its machine's step has noted `new` in its epoch: just that, if its earlier notes show no more than
-- it had seen as this call began; or nothing, as with a scan that is made again in a later epoch, but never nothing where it has
-- an entry in the history.
abbrev pub MayNote : Plan → Port → List Noted → ℕ → List Applied → List Noted → List Noted → Type 0
MayNote e p notes since seen new added =
    ((added ≡ []) × (places_written new ≡ []))
    ⊎ ((added ≡ map (public_noted e p.before) new) × (seen_by 0 notes ≤ length (history_of p.before) + since)
    × AllByRecursion (λ n. ExpectedOne (opened_after e.opening p.before) seen n.call n.answer) new)

-- the notes with those of port k after its own
abbrev pub noting : ℕ → List Noted → (ℕ → List Noted) → ℕ → List Noted
noting k added notes = put k (notes k ++ added) notes

-- each step of a machine keeps the memory lawful, with what its port notes then
abbrev pub NotesStayLawful : Type 0
NotesStayLawful = (e : Plan) (words : List ℕ) (ports : ℕ → Port) (b : Beside) (notes : ℕ → List Noted) (k : ℕ) (c : CoreState)
    (step : Step) → LawfulMemory e words ports b notes → k < e.ports → (ports k).control.entering ≡ Stands →
    (lead : MachineLeads e words ports b k c step) → (added : List Noted) →
    MayNote e (ports k) (notes k) (since_with c (ports k).part) lead.port.part.seen lead.tells.new added →
    LawfulMemory e (words_after words (based_step e (ports k).control.here.arena step)) (put k lead.port ports) lead.beside
    (noting k added notes)

-- A step that changes neither histories nor what its port has seen, its site or its notes: a seal, a step of setting up the next epoch,
-- and the first two steps of entering.
pub record IsAside (b c : Beside) (p q : Port) : Type 0 where
  pub log : c.log ≡ b.log
  pub epochs : c.before ≡ b.before
  pub part : q.part ≡ p.part
  pub before : q.before ≡ p.before
  pub here : q.control.here ≡ p.control.here

-- such a step keeps a memory lawful with its notes, if it keeps its lawful state of all epochs
abbrev pub AsidesStayLawful : Type 0
AsidesStayLawful = (e : Plan) (words words' : List ℕ) (ports : ℕ → Port) (b c : Beside) (notes : ℕ → List Noted) (k : ℕ) (p : Port) →
    LawfulMemory e words ports b notes → k < e.ports → IsAside b c (ports k) p → LawfulEpochs e words' (put k p ports) c →
    LawfulMemory e words' (put k p ports) c notes

-- so does the exchange by which a port enters a later epoch
abbrev pub ArrivalsKeepNotes : Type 0
ArrivalsKeepNotes = (e : Plan) (words : List ℕ) (ports : ℕ → Port) (b : Beside) (notes : ℕ → List Noted) (k : ℕ) (c : Site) →
    LawfulMemory e words ports b notes → k < e.ports → (a : Arrives e words ports b k c) →
    LawfulMemory e (words_after words (Exchange (at_word k) (entering_from (ports k).control.here) (packed c)))
    (put k (arrived_port e k a.site a.before) ports) b notes

-- so does the exchange that opens the next epoch: in the one history nothing changes
abbrev pub PublishesKeepNotes : Type 0
PublishesKeepNotes = (e : Plan) (words words' : List ℕ) (ports : ℕ → Port) (b : Beside) (notes : ℕ → List Noted) (k : ℕ) (o : OwnedArena) →
    LawfulMemory e words ports b notes → k < e.ports →
    LawfulEpochs e words' (put k (having_published (ports k) o) ports) (next_beside e b o.arena) →
    LawfulMemory e words' (put k (having_published (ports k) o) ports) (next_beside e b o.arena) notes
    × (one_history (next_beside e b o.arena) ≡ one_history b)

-- a port that has seen that much of its epoch
abbrev pub having_seen : Port → List Applied → Port
having_seen p log = record p { part = with_seen log p.part }

-- What a port may note that has looked at its epoch, with this history, after i entries of it: an answer that is true there, at a place
-- after all that its notes show.
pub record IsSight (e : Plan) (k : ℕ) (p : Port) (log : List Applied) (notes : List Noted) (n : Noted) (i : ℕ) : Type 0 where
  pub noted : n.note ≡ Some (Note.Saw (length (history_of p.before) + i))
  pub within : i ≤ length log
  pub behind : seen_by 0 notes ≤ length (history_of p.before) + i
  pub fits : Fits (length e.opening.values) n.call n.answer n.note
  pub is_true : IsTrueOf e.opening (history_of (log ∷ p.before)) k n.call n.answer (Note.Saw (length (history_of p.before) + i))

-- A sight leads to a lawful memory: its port has seen the whole history of its epoch, and has noted the call.
pub record SightLeads (e : Plan) (words : List ℕ) (ports : ℕ → Port) (b : Beside) (notes : ℕ → List Noted) (k : ℕ) (log : List Applied)
    (n : Noted) : Type 0 where
  pub beside : Beside
  pub same : IsBesideAs b beside
  pub lawful : LawfulMemory e words (put k (having_seen (ports k) log) ports) beside (noting k (n ∷ []) notes)

-- each sight of a port that stands in an epoch leads to a lawful memory, with its note
abbrev pub SightsStayLawful : Type 0
SightsStayLawful = (e : Plan) (words : List ℕ) (ports : ℕ → Port) (b : Beside) (notes : ℕ → List Noted) (k i : ℕ) (n : Noted) →
    LawfulMemory e words ports b notes → k < e.ports → (s : IsStanding b k (ports k)) →
    (ports k).control.entering ≡ Stands → IsSight e k (ports k) s.epoch.log (notes k) n i →
    SightLeads e words ports b notes k s.epoch.log n

-- A look that notes nothing leads to a lawful memory: its port has seen the whole history of its epoch.
pub record GlanceLeads (e : Plan) (words : List ℕ) (ports : ℕ → Port) (b : Beside) (notes : ℕ → List Noted) (k : ℕ) (log : List Applied) :
    Type 0 where
  pub beside : Beside
  pub same : IsBesideAs b beside
  pub lawful : LawfulMemory e words (put k (having_seen (ports k) log) ports) beside notes

-- so it is for each port that stands
abbrev pub GlancesStayLawful : Type 0
GlancesStayLawful = (e : Plan) (words : List ℕ) (ports : ℕ → Port) (b : Beside) (notes : ℕ → List Noted) (k : ℕ) →
    LawfulMemory e words ports b notes → k < e.ports → (ports k).control.entering ≡ Stands → (s : IsStanding b k (ports k)) →
    GlanceLeads e words ports b notes k s.epoch.log

-- what a lawful memory says of the one history: it is a history over the opening, by the ports, and their notes fit it
pub record FitsOneHistory (e : Plan) (b : Beside) (notes : ℕ → List Noted) : Type 0 where
  pub history : IsHistory e.opening (one_history b)
  pub by_ports : AllByRecursion (λ a. a.port < e.ports) (one_history b)
  pub legal : (k : ℕ) → k < e.ports → LegalNotes e.opening (one_history b) k 0 (notes k)
  pub shown : (k : ℕ) → k < e.ports → seen_by 0 (notes k) ≤ length (one_history b)
  pub once : (k : ℕ) → k < e.ports → EachOnce (one_history b) k (notes k)

-- the epochs of a lawful memory fit one history
abbrev pub EpochsFitOneHistory : Type 0
EpochsFitOneHistory = (e : Plan) (words : List ℕ) (ports : ℕ → Port) (b : Beside) (notes : ℕ → List Noted) →
    LawfulMemory e words ports b notes → FitsOneHistory e b notes

-- no two entries of the one history have one public stamp, and each fits a word
pub record AreUnique (h : List Applied) : Type 0 where
  pub one : (i k : ℕ) (a c : Applied) → slice_get h i ≡ Some a → slice_get h k ≡ Some c → a.stamp ≡ c.stamp → i ≡ k
  pub fits : AllByRecursion (λ a. a.stamp < 18446744073709551616) h

-- public stamps are unique as long as the memory lives
abbrev pub PublicStampsAreUnique : Type 0
PublicStampsAreUnique = (e : Plan) (words : List ℕ) (ports : ℕ → Port) (b : Beside) (notes : ℕ → List Noted) →
    LawfulMemory e words ports b notes → AreUnique (one_history b)
