-- The words of a lawful state are orderly, as the active set asks, and each step of a port keeps them so.
use Rattle.std.specs.Prelude.{ℕ, ◌≡◌, List, [], ◌∷◌, Some}
use Rattle.partial_model.specs.declared.history.Applied.{Applied}
use Rattle.partial_model.specs.declared.history.Opening.{Opening}
use Rattle.partial_words.specs.declared.step.Step.{Step}
use Rattle.partial_words.specs.Layout.{Layout}
use Rattle.partial_words.specs.Step.{words_after}
use Rattle.partial_active.specs.Orderly.{Orderly}
use Rattle.partial_active.specs.Moments.{IsOrderlyEvent}
use Rattle.partial_machine.specs.Machine.{CoreState, step_of}
use Rattle.partial_core.specs.Part.{Part, PartAmong, IsMachineOf}
use Rattle.partial_core.specs.Lawful.{Lawful, LawfulAmong}

-- lawful words are orderly
abbrev pub LawfulIsOrderly : Type 0
LawfulIsOrderly = (z : Layout) (o : Opening) (words : List ℕ) (parts : List Part) (log : List Applied) →
    Lawful z o words parts log → Orderly z words

-- the due step of any port is an orderly event, after the words that it changes
abbrev pub StepsAreOrderly : Type 0
StepsAreOrderly = (z : Layout) (o : Opening) (m : PartAmong) (c : CoreState) (step : Step) →
    LawfulAmong z o m → IsMachineOf c m.part → step_of c ≡ Some step →
    IsOrderlyEvent z (m.words ∷ []) m.words (words_after m.words step)
