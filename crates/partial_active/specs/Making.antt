-- A getSet that is made to its end, with steps that the caller supplies.
use Rattle.std.specs.Prelude.{◌≡◌}
use Rattle.partial_active.specs.IndexSet.{AreIndices}
use Rattle.partial_active.specs.GetSet.{SetPair}
use Rattle.partial_active.specs.GetSetAnswers.{SetGoesTogether}

-- A call is under way that makes the steps, and it is at this getSet with these buffers. What they name are indices of components.
pub record IsAt {A : Type 0} (goes : A → Type 0) (set : A → SetPair) (steps : A) (p : SetPair) : Type 0 where
  pub going : goes steps
  pub there : set steps ≡ p
  pub together : SetGoesTogether p
  pub indices : AreIndices p.0.sizes.m p.1.indices
