-- How many steps calls make at most, in numbers, in memories of two sizes.
use Rattle.std.specs.Prelude.{ℕ, ◌≡◌, ◌+◌, ◌*◌}
use Rattle.partial_long_lived.specs.Bounds.{most_of_change, most_of_scans, round_if_steps, round_steps}
use Rattle.partial_long_lived.specs.Options.{IsUsual, announces_for, layout_for}
use Rattle.partial_long_lived.specs.declared.options.Options.{Options}
use Rattle.partial_long_lived.specs.declared.rule.About.{About}

-- what a memory is opened with that has so many components, n ports, and these options
pub record IsOpenedWith (count n : ℕ) (o : Options) (a : About) : Type 0 where
  pub sizes : a.sizes ≡ layout_for count n o
  pub ports : a.ports ≡ n
  pub arenas : a.arenas ≡ 2 * n
  pub announces : a.announces ≡ announces_for count n o

-- how many steps a change of epoch makes at most, an update, a conditional update, and a scan of all components; and how many a scan of r
-- positions makes besides r (r + 6)
pub record MostSteps : Type 0 where
  pub change : ℕ
  pub update : ℕ
  pub update_if : ℕ
  pub whole_scan : ℕ
  pub scan : ℕ

-- these are the bounds of the calls of a memory, by the clauses of their contracts
pub record AreSteps (a : About) (n : MostSteps) : Type 0 where
  pub change : most_of_change a ≡ n.change
  pub update : 16 * round_steps a ≡ n.update
  pub update_if : 16 * round_if_steps a ≡ n.update_if
  pub whole_scan : most_of_scans a a.sizes.m ≡ n.whole_scan
  pub scan : (r : ℕ) → most_of_scans a r ≡ r * (r + 6) + n.scan

-- so it is in each memory with so many components and ports, and the usual options
abbrev pub MakesAtMost : ℕ → ℕ → MostSteps → Type 0
MakesAtMost count ports n = (o : Options) (a : About) → IsUsual o → IsOpenedWith count ports o a → AreSteps a n

-- the numbers of 3 components and 2 ports
abbrev pub few_components : MostSteps
few_components = record { change = 4901; update = 490128; update_if = 490176; whole_scan = 4942; scan = 4915 }

-- the numbers of 64 components and 4 ports
abbrev pub more_components : MostSteps
more_components = record { change = 14298; update = 4716560; update_if = 4716608; whole_scan = 18914; scan = 14434 }

-- the bounds of the calls in memories of these two sizes are these numbers
abbrev pub MostStepsInNumbers : Type 0
MostStepsInNumbers = MakesAtMost 3 2 few_components × MakesAtMost 64 4 more_components
