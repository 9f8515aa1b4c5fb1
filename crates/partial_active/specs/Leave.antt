-- A leave: one store that marks the slot as vacated.
use Rattle.std.specs.Prelude.{ℕ, Bool, true, Option, Some, None, if◌then◌else◌}
use Rattle.partial_words.specs.declared.step.Step.{Step}
use Rattle.partial_words.specs.declared.step.Step.TheVariants.{Store}
use Rattle.partial_words.specs.Layout.{Layout, slot_word}

-- the sizes, the slot, and whether it was left
pub record LeaveState : Type 0 where
  pub sizes : Layout
  pub slot : ℕ
  pub left : Bool

-- the step that is due: 1 marks a slot that was left
abbrev pub step_of_leave : LeaveState → Option Step
step_of_leave s = if s.left then None else Some (Store (slot_word s.sizes s.slot) 1)

-- what the answer makes of it
abbrev pub advance_leave : LeaveState → LeaveState
advance_leave s = record s { left = true }
