-- The lawful state: words, the ports that work on them, and one history of applied updates.
use Rattle.std.specs.Prelude.{ℕ, ◌≡◌, ◌≤◌, List, []}
use Rattle.std.specs.List.{AllByRecursion}
use Rattle.partial_model.specs.declared.history.Applied.{Applied}
use Rattle.partial_model.specs.declared.history.Opening.{Opening}
use Rattle.partial_model.specs.Outcome.{places_by, places_written}
use Rattle.partial_words.specs.Layout.{Layout, most_ports}
use Rattle.partial_words.specs.Chain.{OpensWith}
use Rattle.partial_state.specs.LawfulWords.{LawfulWords}
use Rattle.partial_core.specs.Part.{Part, PartAmong, all_parts, fresh_parts}
use Rattle.partial_core.specs.Held.{holdings}
use Rattle.partial_core.specs.Known.{IsKnown, notes_by}

-- The lawful state: words, no more ports than there may be, with one part each, and the history of all that was applied.
pub record Lawful (z : Layout) (o : Opening) (words : List ℕ) (parts : List Part) (log : List Applied) : Type 0 where
  -- the words are lawful with what the ports hold in them
  pub memory : LawfulWords z o words (holdings parts) log
  -- each entry is in the notes of its port, once and in the order of its calls
  pub once : (p : ℕ) → places_by p 0 log ≡ places_written (notes_by p parts)
  -- each port has seen a beginning of the history, its notes are legal, and its machine is where its answers lead it
  pub known : AllByRecursion (IsKnown z o words (holdings parts) log) parts

-- the memory, as one of its ports stands in it, is lawful
abbrev pub LawfulAmong : Layout → Opening → PartAmong → Type 0
LawfulAmong z o m = Lawful z o m.words (all_parts m) m.log

-- an opened memory of no more ports than there may be is lawful, with nothing applied
abbrev pub OpensLawful : Type 0
OpensLawful = (z : Layout) (o : Opening) (words : List ℕ) (n : ℕ) → OpensWith z o words → n ≤ most_ports → Lawful z o words (fresh_parts z 0 n) []
