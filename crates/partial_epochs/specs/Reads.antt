-- What a read answers is true of the one history.
use Rattle.std.specs.Prelude.{◌++◌, ℕ, ◌+◌, ◌<◌, ◌≤◌, nat_lt, List, ◌∷◌, slice_index, if◌then◌else◌, length, ◌≡◌, take}
use Rattle.partial_words.specs.Layout.{first_free, total}
use Rattle.partial_words.specs.Record.{value_word}
use Rattle.partial_words.specs.declared.step.Step.{Step}
use Rattle.partial_machine.specs.Machine.{CoreState}
use Rattle.partial_model.specs.declared.history.Applied.{Applied}
use Rattle.partial_model.specs.declared.history.Opening.{Opening}
use Rattle.partial_model.specs.History.{value_of, stamp_of}
use Rattle.partial_model.specs.Notes.{IsTrueOf}
use Rattle.partial_model.specs.declared.call.Call.{Call}
use Rattle.partial_model.specs.declared.call.Answer.{Answer}
use Rattle.partial_model.specs.declared.call.Note.{Note}
use Rattle.partial_epochs.specs.Layout.{Plan, IsSealed, base, carried_word, component_words, seal, unsealed}
use Rattle.partial_epochs.specs.History.{stamp_after, public_stamp, history_of, opened_after}
use Rattle.partial_epochs.specs.Ports.{Port}
use Rattle.partial_epochs.specs.Epochs.{Beside, IsStanding, LawfulEpochs}
use Rattle.partial_epochs.specs.Ports.Entering.{Stands}
use Rattle.partial_epochs.specs.MachineSteps.{MachineLeads}

-- the public stamp of the record at s of component j, as a port reads it in its arena
abbrev pub read_stamp : Plan → List ℕ → Port → ℕ → ℕ → ℕ
read_stamp e words p j s =
    if nat_lt s (first_free e.sizes) then slice_index words (carried_word e p.control.here.arena j) else public_stamp p.control.here.epoch s

-- what a read answers that saw n entries of its epoch is true of the history of all epochs, at the place after those entries
abbrev pub ReadsAnswerOverEpochs : Type 0
ReadsAnswerOverEpochs = (e : Plan) (words : List ℕ) (ports : ℕ → Port) (b : Beside) (k j n : ℕ) → LawfulEpochs e words ports b → k < e.ports →
    (ports k).control.entering ≡ Stands → j < e.sizes.m → (s : IsStanding b k (ports k)) → n ≤ length s.epoch.log →
    IsTrueOf e.opening (history_of (s.epoch.log ∷ (ports k).before)) k (Call.Read j)
    (Answer.Read (value_of (opened_after e.opening (ports k).before) (take n s.epoch.log) j)
    (read_stamp e words (ports k) j (stamp_of (opened_after e.opening (ports k).before) (take n s.epoch.log) j)))
    (Note.Saw (length (history_of (ports k).before) + n))

-- what the words of the arena where a port stands say of component j, of an epoch with this history: its record is the last one, with the
-- value and the public stamp that the component has in the one history
pub record NameTheLast (e : Plan) (words : List ℕ) (p : Port) (log : List Applied) (j : ℕ) : Type 0 where
  pub stamp : unsealed (slice_index words (base e p.control.here.arena + j)) ≡ stamp_of (opened_after e.opening p.before) log j
  pub value : slice_index words (base e p.control.here.arena + value_word (unsealed (slice_index words (base e p.control.here.arena + j))))
      ≡ value_of e.opening (history_of (log ∷ p.before)) j
  pub public : read_stamp e words p j (unsealed (slice_index words (base e p.control.here.arena + j)))
      ≡ stamp_of e.opening (history_of (log ∷ p.before)) j

-- No step of a machine applies anything to a component that is sealed, so what its words say then stays.
abbrev pub LastWordsAreFinal : Type 0
LastWordsAreFinal = (e : Plan) (words : List ℕ) (ports : ℕ → Port) (b : Beside) (k j : ℕ) → LawfulEpochs e words ports b → k < e.ports →
    (ports k).control.entering ≡ Stands → j < e.sizes.m → (s : IsStanding b k (ports k)) →
    NameTheLast e words (ports k) s.epoch.log j
    × ((q : ℕ) (c : CoreState) (step : Step) (lead : MachineLeads e words ports b q c step) →
    IsSealed (slice_index (component_words e words (ports q).control.here.arena) j) → (o : Opening) (log : List Applied) →
    (value_of o (log ++ lead.entries) j ≡ value_of o log j) × (stamp_of o (log ++ lead.entries) j ≡ stamp_of o log j))

-- the component word of the arena where a port stands names the record that the component has after its epoch's history
pub record NamesRecord (e : Plan) (words : List ℕ) (p : Port) (log : List Applied) (j : ℕ) : Type 0 where
  pub there : base e p.control.here.arena + j < length words
  pub names : unsealed (slice_index words (base e p.control.here.arena + j)) ≡ stamp_of (opened_after e.opening p.before) log j

-- so it is for each port that stands, and each component
abbrev pub ComponentsNameRecords : Type 0
ComponentsNameRecords = (e : Plan) (words : List ℕ) (ports : ℕ → Port) (b : Beside) (k j : ℕ) → LawfulEpochs e words ports b → k < e.ports →
    (ports k).control.entering ≡ Stands → j < e.sizes.m → (s : IsStanding b k (ports k)) → NamesRecord e words (ports k) s.epoch.log j

-- the stamp of component j after the first n entries that a port has seen of its epoch
abbrev pub seen_stamp : Plan → Port → ℕ → ℕ → ℕ
seen_stamp e p j n = stamp_of (opened_after e.opening p.before) (take n p.part.seen) j

-- The record of component j after the first n entries that a port has seen of its epoch, in the words of its arena: it lies after the
-- component words, below the seals and within the arena, and holds the value that the component had there.
pub record IsSeenRecord (e : Plan) (words : List ℕ) (p : Port) (j n : ℕ) : Type 0 where
  pub some : 0 < seen_stamp e p j n
  pub small : seen_stamp e p j n < seal
  pub within : value_word (seen_stamp e p j n) < total e.sizes
  pub there : base e p.control.here.arena + value_word (seen_stamp e p j n) < length words
  pub value : slice_index words (base e p.control.here.arena + value_word (seen_stamp e p j n))
      ≡ value_of (opened_after e.opening p.before) (take n p.part.seen) j

-- what a port that stands finds of component j in its arena, of an epoch with this history
pub record AreSeenRecords (e : Plan) (words : List ℕ) (p : Port) (log : List Applied) (j : ℕ) : Type 0 where
  -- what it has seen is a beginning of the epoch's history
  pub seen : p.part.seen ≡ take (length p.part.seen) log
  pub few : length p.part.seen ≤ length log
  -- so many epochs come before, and they have left a value for each component
  pub epoch : length p.before ≡ p.control.here.epoch
  pub values : length (opened_after e.opening p.before).values ≡ e.sizes.m
  -- its record at each length of what the port has seen
  pub each : (n : ℕ) → n ≤ length p.part.seen → IsSeenRecord e words p j n
  -- its carried stamp
  pub there : carried_word e p.control.here.arena j < length words
  pub carried : slice_index words (carried_word e p.control.here.arena j) ≡ stamp_after e.opening p.before j

-- what a port has seen of its epoch it can read there, whatever other ports have done since
abbrev pub SeenRecordsStay : Type 0
SeenRecordsStay = (e : Plan) (words : List ℕ) (ports : ℕ → Port) (b : Beside) (k j : ℕ) → LawfulEpochs e words ports b → k < e.ports →
    (ports k).control.entering ≡ Stands → j < e.sizes.m → (s : IsStanding b k (ports k)) → AreSeenRecords e words (ports k) s.epoch.log j
