-- A port and its memory as callers see them.
use Rattle.std.specs.Prelude.{ℕ, ◌≡◌, ◌<◌, List, ◌∷◌, map}
use Rattle.std.specs.List.{AllByRecursion}
use Rattle.partial_table.specs.Table.{TableId}
use Rattle.partial_model.specs.declared.history.Applied.{Applied}
use Rattle.partial_model.specs.History.{IsHistory}
use Rattle.partial_model.specs.Notes.{LegalNotes, Noted}
use Rattle.partial_model.specs.Outcome.{EachOnce}
use Rattle.partial_epochs.specs.History.{history_of}
use Rattle.partial_epochs.specs.Epochs.{Beside}
use Rattle.partial_epochs.specs.Notes.{LawfulMemory, one_history}
use Rattle.partial_epochs.specs.Ports.{Port}
use Rattle.partial_long_lived.specs.declared.rule.About.{About}
use Rattle.partial_long_lived.specs.Rule.{SeatedPort, plan_of}

-- a memory as a contract sees it: which one it is, and what it was opened with
pub record MemoryView : Type 0 where
  pub table : TableId
  pub about : About

-- A port as a contract sees it: its memory, its number, how many atomic steps its seat has made, how long the one history was when its last call
-- made its first step, the epoch and the arena where it stands and how many components of that epoch it knows to be sealed, how often it has
-- found a component sealed that it was to update, the beginning of the one history over all epochs that it has seen, and the notes of its calls.
pub record PortView : Type 0 where
  pub memory : MemoryView
  pub number : ℕ
  pub steps : ℕ
  pub began : ℕ
  pub epoch : ℕ
  pub arena : ℕ
  pub sealed : ℕ
  pub seals : ℕ
  pub seen : List Applied
  pub notes : List Noted

-- what a port has seen of the one history: the epochs before its own, and what it has seen of that
abbrev pub seen_in : Port → List Applied
seen_in p = history_of (p.part.seen ∷ p.before)

-- a port as a contract sees it, by the table, the steps of its seat and what that knows
abbrev pub port_view : TableId → ℕ → SeatedPort → PortView
port_view table steps x = record {
  memory = record { table = table; about = x.about };
  number = x.number;
  steps = steps;
  began = x.began.length;
  epoch = x.port.control.here.epoch;
  arena = x.port.control.here.arena;
  sealed = x.port.passed;
  seals = x.contention.seals;
  seen = seen_in x.port;
  notes = x.notes;
}

-- the ports of a new memory: the seat of each was made by one load
abbrev pub new_ports : TableId → List SeatedPort → List PortView
new_ports table xs = map (port_view table 1) xs

-- the port belongs to the memory
abbrev pub IsOf : MemoryView → PortView → Type 0
IsOf m p = p.memory ≡ m

-- each entry is by one of the ports that were opened
abbrev pub AreByOpened : About → List Applied → Type 0
AreByOpened about h = AllByRecursion (λ e. e.port < about.ports) h

-- The rule of the table: a lawful state of the memory over all epochs, with that one history and these notes of its ports.
pub record HasLawfulState (about : About) (log : List Applied) (notes : ℕ → List Noted) : Type 0 where
  pub words : List ℕ
  pub ports : ℕ → Port
  pub beside : Beside
  pub lawful : LawfulMemory (plan_of about) words ports beside notes
  pub history : one_history beside ≡ log

-- What a port knows of the history that it has seen: its stamps are distinct, the port's notes are legal there, the port's entries are
-- those that its notes wrote, in their order, and each entry is by a port that was opened.
pub record Knows (about : About) (number : ℕ) (seen : List Applied) (notes : List Noted) : Type 0 where
  pub history : IsHistory about.opening seen
  pub legal : LegalNotes about.opening seen number 0 notes
  pub once : EachOnce seen number notes
  pub others : AreByOpened about seen
