-- A port seals the components of its epoch, one after the other.
use Rattle.std.specs.Prelude.{ℕ, ◌+◌, ◌<◌, List, slice_index, length, ◌≡◌}
use Rattle.partial_words.specs.declared.step.Step.TheVariants.{Add}
use Rattle.partial_words.specs.Step.{words_after}
use Rattle.partial_epochs.specs.Lists.{put}
use Rattle.partial_epochs.specs.Layout.{Plan, base, component_words, seal, IsSealed}
use Rattle.partial_epochs.specs.Ports.{Port}
use Rattle.partial_epochs.specs.Epochs.{Beside, LawfulEpochs}
use Rattle.partial_epochs.specs.Ports.Entering.{Stands}

-- the port has passed one component more
abbrev pub passing_port : Port → Port
passing_port p = record p { passed = p.passed + 1 }

-- what stands beside them has the same histories, and the same current epoch
pub record IsBesideAs (b c : Beside) : Type 0 where
  pub log : c.log ≡ b.log
  pub before : c.before ≡ b.before
  pub arena : c.arena ≡ b.arena

-- a port's seal on the next component in a change of epoch leads to a lawful state
pub record PassLeads (e : Plan) (words words' : List ℕ) (ports : ℕ → Port) (b : Beside) (k : ℕ) : Type 0 where
  pub within : base e (ports k).control.here.arena + (ports k).passed < length words
  pub beside : Beside
  pub same : IsBesideAs b beside
  pub lawful : LawfulEpochs e words' (put k (passing_port (ports k)) ports) beside

-- the seal of a port that stands in its epoch, and has a component left to seal, leads to such a state
abbrev pub SealsStayLawful : Type 0
SealsStayLawful = (e : Plan) (words : List ℕ) (ports : ℕ → Port) (b : Beside) (k : ℕ) → LawfulEpochs e words ports b → k < e.ports →
    (ports k).control.entering ≡ Stands → (ports k).passed < e.sizes.m →
    PassLeads e words (words_after words (Add (base e (ports k).control.here.arena + (ports k).passed) seal)) ports b k

-- and so does a load that finds the component sealed already
abbrev pub SealedPassesStayLawful : Type 0
SealedPassesStayLawful = (e : Plan) (words : List ℕ) (ports : ℕ → Port) (b : Beside) (k : ℕ) → LawfulEpochs e words ports b → k < e.ports →
    (ports k).control.entering ≡ Stands → (ports k).passed < e.sizes.m →
    IsSealed (slice_index (component_words e words (ports k).control.here.arena) (ports k).passed) →
    PassLeads e words words ports b k
