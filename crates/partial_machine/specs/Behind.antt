-- What is known of a machine after an answer: where it is, why its call is refused, and its marks.
use Rattle.std.specs.Prelude.{ℕ, ◌≡◌, ◌+◌, ◌<◌, ◌≤◌, ◌||◌, ⊤, Bool, true, false, not, Option, Some, None, is_some}
use Rattle.partial_model.specs.declared.call.Call.{Call}
use Rattle.partial_model.specs.declared.call.Refused.{Refused}
use Rattle.partial_model.specs.Notes.{MayBeRefused}
use Rattle.partial_words.specs.declared.step.Step.{Step}
use Rattle.partial_words.specs.declared.step.Step.TheVariants.{Add}
use Rattle.partial_words.specs.Layout.{Layout, IsLayout, slot_counter, pool_counter, list_counter, list_end, pool_end, total, greatest_record, greatest_list}
use Rattle.partial_words.specs.Step.{word_of}
use Rattle.partial_machine.specs.declared.stage.Reply.{Reply}
use Rattle.partial_machine.specs.declared.stage.Stage.TheVariants.{Idle}
use Rattle.partial_machine.specs.Machine.{CoreState, fresh, at_stage, lists_spent, advance, step_of, reply_of}
use Rattle.partial_machine.specs.Calls.{is_begun, is_at_rest, begun_like, makes_steps, call_of, refusal_of, begun_of, IsServed}
use Rattle.partial_machine.specs.Sound.{AreComponentIndices, IsSound, is_sound_at}
use Rattle.partial_machine.specs.Possible.{IsPossible}
use Rattle.partial_machine.specs.Bounds.{most_steps, steps_left}

-- the step is a claim of pool words, no more than those of the greatest record and those ahead, and this answer puts it past the end of the pool
pub record ClaimsPastPool (s : CoreState) (x : ℕ) : Type 0 where
  pub size : ℕ
  pub step : step_of s ≡ Some (Add (pool_counter s.sizes) size)
  pub few : size ≤ greatest_record s.sizes + s.ahead
  pub past : pool_end s.sizes < x + size

-- the step is the claim of a slot, and this answer puts it past the last one
pub record ClaimsPastSlots (s : CoreState) (x : ℕ) : Type 0 where
  pub step : step_of s ≡ Some (Add (slot_counter s.sizes) 1)
  pub past : s.sizes.slots ≤ x

-- the step is a claim of list words, no more than the greatest one, and this answer puts it past their end
pub record ClaimsPastLists (s : CoreState) (x : ℕ) : Type 0 where
  pub size : ℕ
  pub step : step_of s ≡ Some (Add (list_counter s.sizes) size)
  pub few : size ≤ greatest_list s.sizes
  pub past : list_end s.sizes < x + size

-- why a step ends its call with a refusal: its claim went past the end
abbrev pub IsRefusedBy : CoreState → ℕ → Refused → Type 0
IsRefusedBy s x Refused.Component = ⊥
IsRefusedBy s x Refused.SlotsSpent = ClaimsPastSlots s x
IsRefusedBy s x Refused.PoolSpent = ClaimsPastPool s x

-- the machine is marked for the region for which a call is refused
abbrev pub IsMarkedFor : CoreState → Refused → Type 0
IsMarkedFor s Refused.Component = ⊥
IsMarkedFor s Refused.SlotsSpent = s.slots_spent ≡ true
IsMarkedFor s Refused.PoolSpent = s.pool_spent ≡ true

-- whether the reply is a refusal for the pool
abbrev pub refuses_pool : Option Reply → Bool
refuses_pool (Some (Reply.Refused Refused.PoolSpent)) = true
refuses_pool _ = false

-- whether the reply is a refusal for the slots
abbrev pub refuses_slots : Option Reply → Bool
refuses_slots (Some (Reply.Refused Refused.SlotsSpent)) = true
refuses_slots _ = false

-- what is known of the machine after a possible answer
pub record IsAfterAnswer (s : CoreState) (x : ℕ) : Type 0 where
  -- it is sound, with the same sizes, port and positions, and as many words ahead
  pub sound : IsSound (advance s x)
  pub sizes : (advance s x).sizes ≡ s.sizes
  pub port : (advance s x).port ≡ s.port
  pub asked : (advance s x).asked ≡ s.asked
  pub ahead : (advance s x).ahead ≡ s.ahead
  -- its call has made a step; it rests exactly with a reply, and else a step is due; there are fewer steps left
  pub begun : is_begun (advance s x).stage ≡ false
  pub rests : is_at_rest (advance s x).stage ≡ is_some (reply_of (advance s x))
  pub due : is_some (step_of (advance s x)) ≡ not (is_some (reply_of (advance s x)))
  pub fewer : steps_left (advance s x) < steps_left s
  -- a call is refused only by its claim that went past the end, and it wasn't marked before
  pub refused_by : (cause : Refused) → reply_of (advance s x) ≡ Some (Reply.Refused cause) → IsRefusedBy s x cause × (¬ IsMarkedFor s cause)
  -- the marks stay, and the port gets a mark exactly when its call is refused
  pub pool : (advance s x).pool_spent ≡ (refuses_pool (reply_of (advance s x)) || s.pool_spent)
  pub slots : (advance s x).slots_spent ≡ (refuses_slots (reply_of (advance s x)) || s.slots_spent)
  -- the mark for the list words stays, and comes by a claim that went past their end
  pub lists : lists_spent s ≡ true → lists_spent (advance s x) ≡ true
  pub lists_by : lists_spent s ≡ false → lists_spent (advance s x) ≡ true → ClaimsPastLists s x

-- over a possible answer a sound machine leads on
abbrev pub AnswersLeadOn : Type 0
AnswersLeadOn = (s : CoreState) (x : ℕ) → IsLayout s.sizes → IsSound s → IsPossible s x → IsAfterAnswer s x

-- the word of a step that is due is one of the words
abbrev pub DueWordsAreThere : Type 0
DueWordsAreThere = (s : CoreState) (step : Step) → IsLayout s.sizes → IsSound s → step_of s ≡ Some step → word_of step < total s.sizes

-- a machine with a due step has no reply
abbrev pub DueIsUnreplied : Type 0
DueIsUnreplied = (s : CoreState) (step : Step) → step_of s ≡ Some step → reply_of s ≡ None

-- A call that isn't refused at once: the machine has begun it, and makes its steps; or it has none to make. But for the
-- call the machine is as it was.
pub record IsBegunWith (s : CoreState) (c : Call) : Type 0 where
  pub like : begun_of s c ≡ begun_like s (begun_of s c)
  pub asked : AreComponentIndices s.sizes (begun_of s c).asked
  pub may : is_sound_at (begun_of s c) (begun_of s c).stage
  pub sound : IsSound s → IsSound (begun_of s c)
  pub few : steps_left (begun_of s c) ≤ most_steps s.sizes c
  pub begun : is_begun (begun_of s c).stage ≡ makes_steps c
  pub made : makes_steps c ≡ true → call_of (begun_of s c) ≡ Some c
  pub at_once : makes_steps c ≡ false → reply_of (begun_of s c) ≡ Some (Reply.Scanned 0 None)

-- a call that isn't refused at once is begun
abbrev pub CallsBegin : Type 0
CallsBegin = (s : CoreState) (c : Call) → AreComponentIndices s.sizes s.asked → IsServed s.sizes.m c → refusal_of s c ≡ None →
    IsBegunWith s c

-- a machine that has made no call is sound, and so is one whose reply was taken
pub record RestsAreSound : Type 0 where
  pub fresh : (z : Layout) (port : ℕ) → IsLayout z → IsSound (fresh z port)
  pub idle : (s : CoreState) → IsSound s → IsSound (at_stage s Idle)

-- the mark for which a call is refused at once; an index needs none
abbrev pub IsOldMark : CoreState → Refused → Type 0
IsOldMark s Refused.Component = ⊤
IsOldMark s cause = IsMarkedFor s cause

-- a call is refused at once for an index, or for an old mark; either is a cause for which it may be refused
abbrev pub CallsAreRefusedAtOnce : Type 0
CallsAreRefusedAtOnce = (s : CoreState) (c : Call) (cause : Refused) → refusal_of s c ≡ Some cause →
    MayBeRefused s.sizes.m c cause × IsOldMark s cause
