-- The law of steps: what the due step of a port leads to, and what the port learns by it.
use Rattle.std.specs.Prelude.{ℕ, ◌≡◌, ◌+◌, ◌<◌, ◌≤◌, ◌==◌, ⊤, List, [], ◌∷◌, ◌++◌, length, take, slice_index, nat_lt, Option, Some, None, if◌then◌else◌}
use Rattle.partial_model.specs.declared.history.Applied.{Applied}
use Rattle.partial_model.specs.declared.history.Opening.{Opening}
use Rattle.partial_model.specs.declared.call.Call.{Call}
use Rattle.partial_model.specs.declared.call.Refused.{Refused}
use Rattle.partial_model.specs.declared.call.Note.{Note}
use Rattle.partial_model.specs.History.{IsHistory}
use Rattle.partial_model.specs.Notes.{Noted, LegalNotes, MayBeRefused, seen_by, shown_by, place_of}
use Rattle.partial_model.specs.Outcome.{places_by, places_written}
use Rattle.partial_words.specs.declared.step.Step.{Step}
use Rattle.partial_words.specs.declared.step.Step.TheVariants.{Exchange}
use Rattle.partial_words.specs.Layout.{Layout, list_base, total}
use Rattle.partial_words.specs.Record.{record_value, view_word}
use Rattle.partial_words.specs.Step.{Answers, answer_of, words_after}
use Rattle.partial_machine.specs.declared.stage.Reply.{Reply}
use Rattle.partial_machine.specs.Machine.{CoreState, advance, step_of, reply_of}
use Rattle.partial_machine.specs.Calls.{is_begun, call_of, answer_for}
use Rattle.partial_machine.specs.Possible.{IsPossible}
use Rattle.partial_machine.specs.Behind.{IsAfterAnswer}
use Rattle.partial_state.specs.Holdings.{unpublished}
use Rattle.partial_state.specs.Loads.{KeptAnswer, IsPublished}
use Rattle.partial_knowledge.specs.Scans.{AreStamps}
use Rattle.partial_core.specs.Part.{Part, PartAmong, all_parts, port_of, core_of, first_at, IsLedTo, IsMachineOf}
use Rattle.partial_core.specs.Held.{holdings}
use Rattle.partial_core.specs.Lawful.{LawfulAmong}

-- The entries that a step of that port adds to the history: a won exchange of a component word adds the record that it
-- publishes, and no other step adds any.
abbrev pub added_by : Layout → ℕ → List ℕ → Step → List Applied
added_by z port words (Exchange w old at) =
    if nat_lt w z.m then (if slice_index words w == old then record
    { port = port; component = w; value = record_value words at; stamp = at } ∷ [] else []) else []
added_by z port words _ = []

-- a record that the step would publish lies within the words
abbrev pub PublishesWithin : Layout → List ℕ → Step → Type 0
PublishesWithin z words (Exchange w old at) = w < z.m → view_word at < length words
PublishesWithin z words _ = ⊤

-- the machine as the call began of which the machine c makes the next step
abbrev pub begun_with : CoreState → Part → CoreState
begun_with c x = if is_begun c.stage then c else x.begun

-- the answers that were kept before the machine's next one: none when the call makes its first step
abbrev pub kept_with : CoreState → Part → List KeptAnswer
kept_with c x = if is_begun c.stage then [] else x.kept

-- the length that the port had seen as its call began
abbrev pub since_with : CoreState → Part → ℕ
since_with c x = if is_begun c.stage then length x.seen else x.since

-- how many calls the port had noted as its call began
abbrev pub past_with : CoreState → Part → ℕ
past_with c x = if is_begun c.stage then length x.notes else x.past

-- The part once the machine's step has this answer: its port has seen the whole history, `log`, and has noted more.
abbrev pub moved_part : CoreState → ℕ → List Applied → List Noted → Part → Part
moved_part c a log new x = record {
  seen = log;
  notes = x.notes ++ new;
  begun = begun_with c x;
  kept = kept_with c x ++ record { answer = a; at = length log } ∷ [];
  since = since_with c x;
  past = past_with c x;
}

-- Where a reply has its place, of a port that has seen n entries: an applied update is the last of them, a lost one names
-- one of them, and the others see a prefix of them.
abbrev pub IsPlacedAt : Reply → Note → ℕ → Type 0
IsPlacedAt (Reply.Applied stamp) (Note.Wrote k) n = k + 1 ≡ n
IsPlacedAt (Reply.Lost by) (Note.Lost k) n = k < n
IsPlacedAt (Reply.Scanned collects borrowed) (Note.Saw k) n = k ≤ n
IsPlacedAt (Reply.Read v stamp) (Note.Saw k) n = k ≤ n
IsPlacedAt (Reply.Changed by) (Note.Saw k) n = k ≤ n
IsPlacedAt _ _ n = ⊥

-- a scan that took no view has collected the stamps that its positions had together at its place
abbrev pub CollectsStamps : Opening → Part → Reply → Note → Type 0
CollectsStamps o y (Reply.Scanned collects borrowed) (Note.Saw k) =
    borrowed ≡ None → AreStamps o (take k y.seen) (core_of y).asked (core_of y).rows.last
CollectsStamps o y _ _ = ⊤

-- what a port notes of a finished call: the call, the answer, and a place in the history within the call
pub record IsNoteOf (o : Opening) (y : Part) (r : Reply) (new : List Noted) : Type 0 where
  pub call : Call
  pub note : Note
  pub is : new ≡ record { call = call; answer = answer_for (core_of y) r; note = Some note } ∷ []
  pub made : call_of y.begun ≡ Some call
  pub behind : first_at y.kept ≤ place_of note
  pub within : shown_by note ≤ length y.seen
  pub placed : IsPlacedAt r note (length y.seen)
  pub stamps : CollectsStamps o y r note

-- a refused call isn't noted; it is one that may be refused for that cause
pub record IsRefusal (y : Part) (cause : Refused) (new : List Noted) : Type 0 where
  pub none : new ≡ []
  pub call : Call
  pub made : call_of y.begun ≡ Some call
  pub may : MayBeRefused y.begun.sizes.m call cause

-- nothing is noted while the call goes on, nor when it is refused
abbrev pub AreNotesOf : Opening → Part → Option Reply → List Noted → Type 0
AreNotesOf o y None new = new ≡ []
AreNotesOf o y (Some (Reply.Refused cause)) new = IsRefusal y cause new
AreNotesOf o y (Some r) new = IsNoteOf o y r new

-- a port's notes are legal in that history, and its entries there are those of its notes, each once and in their order
pub record FitsHistory (o : Opening) (log : List Applied) (x : Part) : Type 0 where
  pub history : IsHistory o log
  pub legal : LegalNotes o log (port_of x) 0 x.notes
  pub shown : seen_by 0 x.notes ≤ length log
  pub once : places_by (port_of x) 0 log ≡ places_written x.notes

-- What a step of the machine c shows its port, where its answer is a and the history had been `log` and has gained these
-- entries: it leads from the part x to the part y.
pub record StepShows (z : Layout) (o : Opening) (log entries : List Applied) (x : Part) (c : CoreState) (a : ℕ) (y : Part) : Type 0 where
  pub new : List Noted
  pub part : y ≡ moved_part c a (log ++ entries) new x
  -- the history begins with all that the port had seen
  pub seen : x.seen ≡ take (length x.seen) log
  -- the answer was possible, and the machine after it is the part's
  pub possible : IsPossible c a
  pub behind : IsAfterAnswer c a
  pub machine : IsLedTo (advance c a) y
  pub sizes : c.sizes ≡ z
  pub begun_sizes : y.begun.sizes ≡ z
  pub number : c.port ≡ port_of x
  pub port : port_of y ≡ port_of x
  -- what is noted, and what the port knows then
  pub noted : AreNotesOf o y (reply_of (advance c a)) new
  pub fits : FitsHistory o y.seen y

-- the memory after the port's step, with the part that the step leads to
abbrev pub memory_after : Layout → PartAmong → Step → Part → PartAmong
memory_after z m step y =
    record m { words = words_after m.words step; part = y; log = m.log ++ added_by z (port_of m.part) m.words step }

-- what the due step of a machine leads to, answered by the plain meaning of the step
pub record LeadsOn (z : Layout) (o : Opening) (m : PartAmong) (c : CoreState) (step : Step) : Type 0 where
  pub answers : Answers m.words step (answer_of m.words step)
  pub publishes : PublishesWithin z m.words step
  pub y : Part
  pub tells : StepShows z o m.log (added_by z (port_of m.part) m.words step) m.part c (answer_of m.words step) y
  pub lawful : LawfulAmong z o (memory_after z m step y)
  -- a published word stays the same forever
  pub keeps : (w : ℕ) → list_base z ≤ w → w < total z → IsPublished z m.words (unpublished (holdings (all_parts m))) w →
      (slice_index (words_after m.words step) w ≡ slice_index m.words w)
      × IsPublished z (words_after m.words step) (unpublished (holdings (all_parts (memory_after z m step y)))) w

-- the one law of steps: from a lawful state the due step of any port leads to a lawful state
abbrev pub StepsStayLawful : Type 0
StepsStayLawful = (z : Layout) (o : Opening) (m : PartAmong) (c : CoreState) (step : Step) →
    LawfulAmong z o m → IsMachineOf c m.part → step_of c ≡ Some step → LeadsOn z o m c step
