-- A join: one claim of a slot, and one store of the announcement's reference into it.
use Rattle.std.specs.Prelude.{ℕ, Bool, true, false, Option, Some, None, nat_lt, if◌then◌else◌}
use Rattle.partial_words.specs.declared.step.Step.{Step}
use Rattle.partial_words.specs.declared.step.Step.TheVariants.{Store, Add}
use Rattle.partial_words.specs.Layout.{Layout, slot_counter, slot_word}
use Rattle.partial_active.specs.declared.join.JoinStage.{JoinStage}
use Rattle.partial_active.specs.declared.join.JoinStage.TheVariants.{Claiming, Storing, Joined, Spent}

-- the sizes, the reference of the announcement, and the stage of the join
pub record JoinState : Type 0 where
  pub sizes : Layout
  pub announcement : ℕ
  pub stage : JoinStage

-- a slot that is to be stored into is one of the slots
abbrev pub fits_join : Layout → JoinStage → Bool
fits_join s Claiming = true
fits_join s (Storing slot) = nat_lt slot s.slots
fits_join s (Joined slot) = true
fits_join s Spent = true

-- the step that is due at a stage
abbrev pub join_step : Layout → ℕ → JoinStage → Option Step
join_step s announcement Claiming = Some (Add (slot_counter s) 1)
join_step s announcement (Storing slot) = Some (Store (slot_word s slot) announcement)
join_step s announcement (Joined slot) = None
join_step s announcement Spent = None

-- the step that is due
abbrev pub step_of_join : JoinState → Option Step
step_of_join j = join_step j.sizes j.announcement j.stage

-- what an answer makes of it: a claim past the slots is refused
abbrev pub join_after : Layout → JoinStage → ℕ → JoinStage
join_after s Claiming x = if nat_lt x s.slots then Storing x else Spent
join_after s (Storing slot) x = Joined slot
join_after s (Joined slot) x = Joined slot
join_after s Spent x = Spent

-- what the answer x makes of a join
abbrev pub advance_join : JoinState → ℕ → JoinState
advance_join j x = record j { stage = join_after j.sizes j.stage x }

-- the slot, once the announcement stands in it
abbrev pub slot_joined : JoinStage → Option ℕ
slot_joined Claiming = None
slot_joined (Storing slot) = None
slot_joined (Joined slot) = Some slot
slot_joined Spent = None

-- whether the claim was refused
abbrev pub is_spent : JoinStage → Bool
is_spent Claiming = false
is_spent (Storing slot) = false
is_spent (Joined slot) = false
is_spent Spent = true

-- how many steps are left at most
abbrev pub join_left : JoinStage → ℕ
join_left Claiming = 2
join_left (Storing slot) = 1
join_left (Joined slot) = 0
join_left Spent = 0
