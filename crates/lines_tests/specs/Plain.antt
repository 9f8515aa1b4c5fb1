-- Plain words on which three ports work, in a lawful state.
use Rattle.std.specs.Prelude.{ℕ, ◌≡◌, ◌<◌, ◌⊎◌, true, List, [], ◌∷◌, length, Some, None}
use Rattle.partial_model.specs.declared.history.Applied.{Applied}
use Rattle.partial_model.specs.declared.history.Opening.{Opening}
use Rattle.partial_model.specs.declared.call.Call.{Call}
use Rattle.partial_words.specs.declared.step.Step.{Step}
use Rattle.partial_words.specs.Layout.{Layout}
use Rattle.partial_words.specs.Step.{answer_of, word_of, words_after}
use Rattle.partial_machine.specs.declared.stage.Reply.{Reply}
use Rattle.partial_machine.specs.declared.stage.Stage.TheVariants.{Idle}
use Rattle.partial_machine.specs.Calls.{IsServed, begun_of, makes_steps, refusal_of}
use Rattle.partial_machine.specs.Machine.{CoreState, advance, at_stage, reply_of, step_of}
use Rattle.partial_machine.specs.Possible.{IsPossible}
use Rattle.partial_machine.specs.Sound.{IsSound}
use Rattle.partial_core.specs.Lawful.{Lawful}
use Rattle.partial_core.specs.Part.{Part, IsBetween, IsMachineOf}

-- the machine is the port's, in a call or between two
abbrev pub IsOfPort : CoreState → Part → Type 0
IsOfPort c x = IsMachineOf c x ⊎ IsBetween x c

-- The words and the ports are in a lawful state. The first port has begun a call.
pub record IsPlain (words : List ℕ) (beside left right : CoreState) : Type 0 where
  pub sizes : Layout
  pub opening : Opening
  pub log : List Applied
  pub x : Part
  pub y : Part
  pub z : Part
  pub lawful : Lawful sizes opening words (x ∷ y ∷ z ∷ []) log
  pub first : IsMachineOf beside x
  pub sound : IsSound beside
  pub second : IsOfPort left y
  pub third : IsOfPort right z

-- the second machine has begun a call on the first
pub record BeginsOn (c d : CoreState) : Type 0 where
  pub call : Call
  pub served : IsServed c.sizes.m call
  pub allowed : refusal_of c call ≡ None
  pub steps : makes_steps call ≡ true
  pub is : d ≡ begun_of c call

-- an idle machine has begun a call, or was refused
abbrev pub Begun : CoreState → CoreState → Type 0
Begun c d = (d ≡ c) ⊎ BeginsOn c d

-- the due step of the machine, if there is one, is about one of the words, and its answer is possible
abbrev pub MayTurn : CoreState → List ℕ → Type 0
MayTurn c words = (s : Step) → step_of c ≡ Some s → (word_of s < length words) × IsPossible c (answer_of words s)

-- a turn: a step, a reply that is taken, a call that is begun, or nothing
pub data Turned (c : CoreState) (words : List ℕ) (d : CoreState) (words' : List ℕ) : Type 0 where
  Stepped : (s : Step) → step_of c ≡ Some s → d ≡ advance c (answer_of words s) → words' ≡ words_after words s → Turned c words d words'
  Taken : (r : Reply) → reply_of c ≡ Some r → d ≡ at_stage c Idle → words' ≡ words → Turned c words d words'
  Started : c.stage ≡ Idle → BeginsOn c d → words' ≡ words → Turned c words d words'
  Stayed : d ≡ c → words' ≡ words → Turned c words d words'
