-- What is known of a closed memory: its last values, and what its history says of the ports that were handed in.
use Rattle.std.specs.Prelude.{ℕ, ◌≡◌, ◌<◌, List, length, take, slice_index}
use Rattle.std.specs.List.{AllByRecursion}
use Rattle.partial_model.specs.declared.history.Applied.{Applied}
use Rattle.partial_model.specs.declared.history.Opening.{Opening}
use Rattle.partial_model.specs.History.{IsHistory, value_of}
use Rattle.partial_model.specs.Notes.{LegalNotes, Noted}
use Rattle.partial_model.specs.Outcome.{EachOnce}
use Rattle.partial_long_lived.specs.Ports.{AreByOpened, HasLawfulState, MemoryView, PortView}

-- the values of all components after the history
pub record AreLast (o : Opening) (log : List Applied) (values : List ℕ) : Type 0 where
  pub count : length values ≡ length o.values
  pub each : (j : ℕ) → j < length o.values → slice_index values j ≡ value_of o log j

-- what the history says of a port that was handed in: it begins with all that the port had seen, the port's notes are legal in it, and
-- the port's entries are those that its notes wrote, in their order
pub record IsPortOf (log : List Applied) (p : PortView) : Type 0 where
  pub seen : p.seen ≡ take (length p.seen) log
  pub legal : LegalNotes p.memory.about.opening log p.number 0 p.notes
  pub once : EachOnce log p.number p.notes

-- A memory that was closed with these ports: there is one history over all epochs, of distinct stamps and with entries by opened ports
-- alone, of which these are the ports, and after which these are the values.
pub record Closes (m : MemoryView) (ports : List PortView) (values : List ℕ) : Type 0 where
  pub log : List Applied
  pub history : IsHistory m.about.opening log
  pub others : AreByOpened m.about log
  pub each : AllByRecursion (IsPortOf log) ports
  pub last : AreLast m.about.opening log values

-- so it was in a lawful state, with that history
abbrev pub ClosesLawfully : MemoryView → List PortView → List ℕ → Type 0
ClosesLawfully m ports values = (w : Closes m ports values) × (notes : ℕ → List Noted) × HasLawfulState m.about w.log notes
