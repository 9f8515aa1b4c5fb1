-- What the rule of the table says of a memory at a moment of a meeting or as it is closed.
use Rattle.std.specs.Prelude.{ℕ, ◌≡◌, List, [], ◌∷◌, ◌++◌, map}
use Rattle.partial_model.specs.declared.history.Applied.{Applied}
use Rattle.partial_core.specs.Lawful.{Lawful}
use Rattle.partial_memory.specs.declared.closed.Closed.{Closed}
use Rattle.partial_memory.specs.Rule.{SeatedPort, AreOpened, IsShuffle, parts_of}
use Rattle.partial_memory.specs.Ports.{MemoryView, PortView, port_view, without_steps}
use Rattle.partial_memory.specs.Closing.{Closes}

-- The memory was in a lawful state with that history: words, and the parts of all its ports in some order, these among them.
pub record WasLawful (m : MemoryView) (log : List Applied) (ports : List PortView) : Type 0 where
  pub words : List ℕ
  pub here : List SeatedPort
  pub others : List SeatedPort
  pub all : List SeatedPort
  pub shown : map (port_view m.table 0) here ≡ map without_steps ports
  pub shuffle : IsShuffle (here ++ others) all
  pub opened : AreOpened m.about.ports all
  pub lawful : Lawful m.about.sizes m.about.opening words (parts_of all) log

-- two ports that met, in a lawful state with the history that both have seen
abbrev pub MeetsLawfully : MemoryView → PortView → PortView → Type 0
MeetsLawfully m c d = (c.seen ≡ d.seen) × WasLawful m c.seen (c ∷ d ∷ [])

-- a memory that is closed, in a lawful state with its history, among whose ports are those that were handed in
abbrev pub ClosesLawfully : MemoryView → List PortView → Closed → Type 0
ClosesLawfully m ports closed = (w : Closes m ports closed) × WasLawful m w.log ports
