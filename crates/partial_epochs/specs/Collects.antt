-- Two equal collects of a scan stood together at each moment between them.
use Rattle.std.specs.Prelude.{ℕ, ◌≡◌, ◌<◌, ◌≤◌, ⊤, List, [], ◌∷◌, length, map, take}
use Rattle.partial_model.specs.declared.history.Applied.{Applied}
use Rattle.partial_model.specs.declared.history.Opening.{Opening}
use Rattle.partial_model.specs.History.{IsHistory, stamp_of, value_of}
use Rattle.partial_epochs.specs.Layout.{Plan}
use Rattle.partial_epochs.specs.History.{opened_after}
use Rattle.partial_epochs.specs.Ports.{Port}
use Rattle.partial_epochs.specs.Ports.Entering.{Stands}
use Rattle.partial_epochs.specs.Epochs.{Beside, IsStanding, LawfulEpochs}

-- the stamps that a collect loads of these components: each at a moment, which is a length of the history
abbrev pub collected_stamps : Opening → List Applied → List ℕ → List ℕ → List ℕ
collected_stamps o h (j ∷ js) (n ∷ ns) = stamp_of o (take n h) j ∷ collected_stamps o h js ns
collected_stamps o h js ns = []

-- the values after them
abbrev pub collected_values : Opening → List Applied → List ℕ → List ℕ → List ℕ
collected_values o h (j ∷ js) (n ∷ ns) = value_of o (take n h) j ∷ collected_values o h js ns
collected_values o h js ns = []

-- each of these components is one of m, and has a moment in the first collect up to b, and one in the second collect from b on
abbrev pub AreAround : ℕ → ℕ → List ℕ → List ℕ → List ℕ → Type 0
AreAround m b [] [] [] = ⊤
AreAround m b (j ∷ js) (a ∷ firsts) (c ∷ seconds) = (j < m) × (a ≤ b) × (b ≤ c) × AreAround m b js firsts seconds
AreAround m b js firsts seconds = ⊥

-- the components have at the moment b what the collect found
pub record StandTogether (o : Opening) (h : List Applied) (js ns : List ℕ) (b : ℕ) : Type 0 where
  pub stamps : map (λ j. stamp_of o (take b h) j) js ≡ collected_stamps o h js ns
  pub values : map (λ j. value_of o (take b h) j) js ≡ collected_values o h js ns

-- what two collects found that have equal stamps stood together at each moment between them
abbrev pub CollectsStandTogether : Type 0
CollectsStandTogether = (o : Opening) (h : List Applied) (b : ℕ) (js firsts seconds : List ℕ) → IsHistory o h →
    AreAround (length o.values) b js firsts seconds → collected_stamps o h js firsts ≡ collected_stamps o h js seconds →
    StandTogether o h js firsts b

-- the history of the epoch where a port stands is one over what the epochs before have left
abbrev pub EpochsAreHistories : Type 0
EpochsAreHistories = (e : Plan) (words : List ℕ) (ports : ℕ → Port) (b : Beside) (k : ℕ) → LawfulEpochs e words ports b → k < e.ports →
    (ports k).control.entering ≡ Stands → (s : IsStanding b k (ports k)) →
    IsHistory (opened_after e.opening (ports k).before) s.epoch.log
    × (length (opened_after e.opening (ports k).before).values ≡ e.sizes.m)
