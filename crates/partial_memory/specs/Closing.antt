-- What a closed memory holds, and what its history says of the ports that were handed in.
use Rattle.std.specs.Prelude.{ℕ, ◌≡◌, ◌+◌, ◌<◌, ◌≤◌, suc, List, [], ◌∷◌, length, take, slice_index}
use Rattle.std.specs.List.{AllByRecursion}
use Rattle.std.specs.declared.alloc.Global.{Global}
use Rattle.std.specs.declared.vec.Vec.{Vec}
use Rattle.partial_model.specs.declared.history.Applied.{Applied}
use Rattle.partial_model.specs.declared.history.Opening.{Opening}
use Rattle.partial_model.specs.History.{IsHistory, value_of}
use Rattle.partial_model.specs.Notes.{LegalNotes}
use Rattle.partial_model.specs.Outcome.{EachOnce}
use Rattle.partial_words.specs.declared.record.Link.{Link}
use Rattle.partial_words.specs.Chain.{IsChain, chain_of}
use Rattle.partial_words.specs.Layout.{Layout}
use Rattle.partial_core.specs.Ports.{RecordsAreWithin}
use Rattle.partial_memory.specs.declared.closed.Closed.{Closed}
use Rattle.partial_memory.specs.Rule.{AreByOpened}
use Rattle.partial_memory.specs.Ports.{MemoryView, PortView}

-- the links are the chain of records from that word on, none of which stands at word 0
pub record IsWholeChain (words : List ℕ) (at : ℕ) (links : List Link) : Type 0 where
  pub chain : IsChain words at links
  pub stands : AllByRecursion (λ l. 0 < l.stamp) links

-- the values of m components after the history
pub record AreValues (o : Opening) (log : List Applied) (m : ℕ) (values : List ℕ) : Type 0 where
  pub count : length values ≡ m
  pub each : (j : ℕ) → j < m → slice_index values j ≡ value_of o log j

-- the chains of the components from j on: each one's entries, newest first, and then its initial record
abbrev pub AreChainsFrom : Opening → List Applied → ℕ → List (Vec Link Global) → Type 0
AreChainsFrom o log j [] = Unit {0}
AreChainsFrom o log j (c ∷ cs) = (c.items ≡ chain_of o j log) × AreChainsFrom o log (suc j) cs

-- those of m components
pub record AreChains (o : Opening) (log : List Applied) (m : ℕ) (chains : List (Vec Link Global)) : Type 0 where
  pub count : length chains ≡ m
  pub each : AreChainsFrom o log 0 chains

-- the words have a whole chain from that word on, of at most n + 1 links
abbrev pub HaveChain : List ℕ → ℕ → ℕ → Type 0
HaveChain words at n = (links : List Link) × IsWholeChain words at links × (length links ≤ n + 1)

-- these are the links of the whole chain from that word on
abbrev pub AreLinks : List ℕ → ℕ → List Link → Type 0
AreLinks words at found = (links : List Link) → IsWholeChain words at links → found ≡ links

-- the words have the records of a history of m components
abbrev pub HaveRecords : List ℕ → ℕ → Type 0
HaveRecords words m = (z : Layout) × (o : Opening) × (log : List Applied) × RecordsAreWithin z o words log × (z.m ≡ m)

-- these are the values and the chains after each history of which the words have the records
abbrev pub HoldsClosed : List ℕ → ℕ → Closed → Type 0
HoldsClosed words m c =
    (z : Layout) (o : Opening) (log : List Applied)
    → RecordsAreWithin z o words log → z.m ≡ m → AreValues o log m c.values.items × AreChains o log m c.chains.items

-- what the history says of a port that was handed in: it begins with all that the port had seen, the port's notes are legal in it, and
-- the port's entries are those that its notes wrote, in their order
pub record IsPortOf (log : List Applied) (p : PortView) : Type 0 where
  pub seen : p.seen ≡ take (length p.seen) log
  pub legal : LegalNotes p.memory.about.opening log p.number 0 p.notes
  pub once : EachOnce log p.number p.notes

-- A memory that was closed with these ports: there is one history, of distinct stamps and with entries by opened ports alone, of which
-- these are the ports, and after which these are the values and the chains.
pub record Closes (m : MemoryView) (ports : List PortView) (closed : Closed) : Type 0 where
  pub log : List Applied
  pub history : IsHistory m.about.opening log
  pub others : AreByOpened m.about log
  pub each : AllByRecursion (IsPortOf log) ports
  pub values : AreValues m.about.opening log (length m.about.opening.values) closed.values.items
  pub chains : AreChains m.about.opening log (length m.about.opening.values) closed.chains.items
