-- The steps of a port's calls, call by call.
use Rattle.std.specs.Prelude.{◌≡◌, ◌⊎◌, List, [], ◌∷◌, ◌++◌, length, Some, None, IfSome}
use Rattle.std.specs.Option.{option_map}
use Rattle.partial_model.specs.declared.call.Refused.{Refused}
use Rattle.partial_model.specs.declared.call.Answer.{Answer}
use Rattle.partial_model.specs.declared.call.Note.{Note}
use Rattle.partial_model.specs.declared.call.Called.{Called}
use Rattle.partial_machine.specs.declared.stage.Reply.{Reply}
use Rattle.partial_machine.specs.declared.stage.Stage.TheVariants.{Idle}
use Rattle.partial_machine.specs.Machine.{CoreState, at_stage, advance, step_of, reply_of}
use Rattle.partial_machine.specs.Possible.{IsPossible}
use Rattle.partial_machine.specs.Calls.{refusal_of, begun_of, answer_for}
use Rattle.partial_replay.specs.Trace.{Moment, last_behind}

-- the machine makes these events, each of them its due step with an answer that words may give, and reaches that state
abbrev pub Makes : CoreState → List Moment → CoreState → Type 0
Makes s [] t = t ≡ s
Makes s (x ∷ xs) t = (step_of s ≡ Some x.event.step) × IsPossible s x.event.answer × Makes (advance s x.event.answer) xs t

-- a call without steps: the machine refuses it at once
pub record IsRefusedAtOnce (s : CoreState) (c : Called) (t : CoreState) : Type 0 where
  pub cause : Refused
  pub refused : refusal_of s c.call ≡ Some cause
  pub finish : c.finish ≡ Some (record { ended = c.began; answer = Answer.Refused cause; note = None })
  pub rests : t ≡ s

-- A call without steps: the machine has finished it as it is begun, as it does a scan of no position. It
-- saw the history that it began with.
pub record IsFinishedAtOnce (s : CoreState) (c : Called) (t : CoreState) : Type 0 where
  pub begins : refusal_of s c.call ≡ None
  pub reply : Reply
  pub replied : reply_of (begun_of s c.call) ≡ Some reply
  pub finish : c.finish ≡ Some (record { ended = c.began; answer = answer_for (begun_of s c.call) reply; note = Some (Note.Saw c.began) })
  pub rests : t ≡ at_stage (begun_of s c.call) Idle

-- A call with steps: the machine begins it and makes its events. It begins with the history before the
-- first one. When it has ended, its answer is the machine's, and it has ended after the last one.
pub record HasSteps (s : CoreState) (c : Called) (first : Moment) (more : List Moment) (t : CoreState) : Type 0 where
  pub begins : refusal_of s c.call ≡ None
  pub last : CoreState
  pub makes : Makes (begun_of s c.call) (first ∷ more) last
  pub began : c.began ≡ first.before
  pub answered : option_map (λ f. f.answer) c.finish ≡ option_map (answer_for last) (reply_of last)
  pub ended : IfSome c.finish (λ f. f.ended ≡ last_behind first.behind more)
  pub rests : t ≡ at_stage last Idle

-- a call of the machine s with its events, and the machine after it
abbrev pub IsCallRun : CoreState → Called → List Moment → CoreState → Type 0
IsCallRun s c [] t = IsRefusedAtOnce s c t ⊎ IsFinishedAtOnce s c t
IsCallRun s c (x ∷ xs) t = HasSteps s c x xs t

-- the events are the steps of the calls of the machine s, call by call, and lead to t
abbrev pub AreStepsOf : CoreState → List Called → List Moment → CoreState → Type 0
AreStepsOf s [] xs t = (xs ≡ []) × (t ≡ s)
AreStepsOf s (c ∷ cs) xs t = (own behind : List Moment) × (u : CoreState) × (xs ≡ own ++ behind) × (length own ≡ c.steps) ×
    IsCallRun s c own u × AreStepsOf u cs behind t
