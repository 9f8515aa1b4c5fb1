-- How many claims of pool words and of slots a call makes.
use Rattle.std.specs.Prelude.{ℕ, ◌+◌, ◌≤◌, ◌==◌, Bool, false, List, [], ◌∷◌, Option, Some, if◌then◌else◌}
use Rattle.partial_words.specs.declared.step.Step.{Step}
use Rattle.partial_words.specs.declared.step.Step.TheVariants.{Add}
use Rattle.partial_words.specs.Layout.{Layout, IsLayout, slot_counter, pool_counter}
use Rattle.partial_machine.specs.Machine.{CoreState, advance, step_of}
use Rattle.partial_machine.specs.Sound.{IsSound}
use Rattle.partial_machine.specs.Steps.{Run}

-- the step is a claim at that counter
abbrev pub claims : ℕ → Option Step → Bool
claims counter (Some (Add w k)) = w == counter
claims counter _ = false

-- how many steps of a run are claims at that counter
abbrev pub claims_of : (Layout → ℕ) → CoreState → List ℕ → ℕ
claims_of counter s [] = 0
claims_of counter s (x ∷ xs) = (if claims (counter s.sizes) (step_of s) then 1 else 0) + claims_of counter (advance s x) xs

-- a call makes one claim of pool words at most, and one of a slot
abbrev pub CallsClaimOnce : Type 0
CallsClaimOnce = (s t : CoreState) (xs : List ℕ) → IsLayout s.sizes → IsSound s → Run s xs t →
    (claims_of pool_counter s xs ≤ 1) × (claims_of slot_counter s xs ≤ 1)
