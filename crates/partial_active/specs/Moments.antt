-- A run of the ports' events, its moments, and a getSet that is answered from them.
use Rattle.std.specs.Prelude.{ℕ, ◌≡◌, ◌<◌, ◌==◌, ◌⊎◌, Some, List, [], ◌∷◌, MatchBool, if◌then◌else◌}
use Rattle.std.specs.Option.{option_map_or}
use Rattle.partial_words.specs.declared.step.Event.{Event}
use Rattle.partial_words.specs.Layout.{Layout}
use Rattle.partial_words.specs.Record.{StandsAt}
use Rattle.partial_words.specs.Step.{answer_of, words_after}
use Rattle.partial_active.specs.GetSet.{SetPair, set_step_due, advance_set}
use Rattle.partial_active.specs.Orderly.{Orderly, Publishes, IsSlotMove}

-- the property holds of the words at each of the moments
abbrev pub OnEach : (List ℕ → Type 0) → List (List ℕ) → Type 0
OnEach P [] = Unit {0}
OnEach P (words ∷ more) = P words × OnEach P more

-- the property holds of the words at some of the moments
abbrev pub AtSome : (List ℕ → Type 0) → List (List ℕ) → Type 0
AtSome P [] = ⊥
AtSome P (words ∷ more) = P words ⊎ AtSome P more

-- an event leaves orderly words, moves a slot in no other way, and changes no block that was published at a moment so far
pub record IsOrderlyEvent (s : Layout) (past : List (List ℕ)) (before after : List ℕ) : Type 0 where
  pub orderly : Orderly s after
  pub slots : (slot : ℕ) → slot < s.slots → IsSlotMove s before after slot
  pub blocks : (at : ℕ) (block : List ℕ) → AtSome (Publishes s at block) past → StandsAt before at block → StandsAt after at block

-- each of the events is orderly, after these moments
abbrev pub AreOrderly : Layout → List (List ℕ) → List ℕ → List Event → Type 0
AreOrderly s past words [] = Unit {0}
AreOrderly s past words (e ∷ es) =
    IsOrderlyEvent s (words ∷ past) words (words_after words e.step) × AreOrderly s (words ∷ past) (words_after words e.step) es

-- the words are orderly, and each of the events from them on is so
abbrev pub IsOrderlyRun : Layout → List ℕ → List Event → Type 0
IsOrderlyRun s words events = Orderly s words × AreOrderly s [] words events

-- the words after the events
abbrev pub words_behind : List ℕ → List Event → List ℕ
words_behind words [] = words
words_behind words (e ∷ es) = words_behind (words_after words e.step) es

-- the words before each event of the port
abbrev pub own_moments : ℕ → List ℕ → List Event → List (List ℕ)
own_moments own words [] = []
own_moments own words (e ∷ es) =
    if e.port == own then words ∷ own_moments own (words_after words e.step) es else own_moments own (words_after words e.step) es

-- the events of the port are the machine's steps, and they lead it from p to q
abbrev pub MakesOwn : ℕ → SetPair → List ℕ → List Event → SetPair → Type 0
MakesOwn own p words [] q = q ≡ p
MakesOwn own p words (e ∷ es) q = MatchBool (e.port == own)
    ((set_step_due p.0 ≡ Some e.step) × MakesOwn own (advance_set p (answer_of words e.step)) (words_after words e.step) es q)
    (MakesOwn own p (words_after words e.step) es q)

-- the machine after its step is answered from the words
abbrev pub answered_from : SetPair → List ℕ → SetPair
answered_from p words = option_map_or (λ step. advance_set p (answer_of words step)) (set_step_due p.0) p

-- P holds of the machine as it was at some of the moments, and of the words of that moment
abbrev pub AtSomeStep : (SetPair → List ℕ → Type 0) → SetPair → List (List ℕ) → Type 0
AtSomeStep P p [] = ⊥
AtSomeStep P p (words ∷ more) = P p words ⊎ AtSomeStep P (answered_from p words) more
