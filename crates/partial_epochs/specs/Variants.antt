-- What a broken variant of the steps leads to is no lawful state, whatever else holds.
use Rattle.std.specs.Prelude.{ℕ, ◌≡◌, ◌≢◌, ◌<◌, List, slice_index, Some, None}
use Rattle.partial_epochs.specs.Layout.{IsSite, IsSealed, Site, Plan, at_word, component_words, packed}
use Rattle.partial_epochs.specs.Ports.{Epoch, Port}
use Rattle.partial_epochs.specs.Ports.Entering.{Stands}
use Rattle.partial_epochs.specs.Epochs.{Beside, LawfulEpochs}
use Rattle.partial_epochs.specs.Publishing.{next_beside, vacated}

-- a component of a finished epoch has lost its seal
abbrev pub UnsealingIsUnlawful : Type 0
UnsealingIsUnlawful = (e : Plan) (words : List ℕ) (ports : ℕ → Port) (b : Beside) (x j : ℕ) (r : Epoch) → b.holds x ≡ Some r → x ≢ b.arena →
    j < e.sizes.m → ¬ IsSealed (slice_index (component_words e words x) j) → ¬ LawfulEpochs e words ports b

-- the next epoch is published while a component of the one before isn't sealed
abbrev pub PublishingUnsealedIsUnlawful : Type 0
PublishingUnsealedIsUnlawful = (e : Plan) (words : List ℕ) (ports : ℕ → Port) (b : Beside) (x j : ℕ) (r : Epoch) →
    b.holds b.arena ≡ Some r → b.arena ≢ x → j < e.sizes.m →
    ¬ IsSealed (slice_index (component_words e words b.arena) j) → ¬ LawfulEpochs e words ports (next_beside e b x)

-- an arena is reset while a port stands in it
abbrev pub ResettingPinnedIsUnlawful : Type 0
ResettingPinnedIsUnlawful = (e : Plan) (words : List ℕ) (ports : ℕ → Port) (b : Beside) (k : ℕ) → k < e.ports →
    (ports k).control.entering ≡ Stands → ¬ LawfulEpochs e words ports (vacated b (ports k).control.here.arena)

-- the current arena is reset, as by an owner that didn't look
abbrev pub ResettingCurrentIsUnlawful : Type 0
ResettingCurrentIsUnlawful = (e : Plan) (words : List ℕ) (ports : ℕ → Port) (b : Beside) → ¬ LawfulEpochs e words ports (vacated b b.arena)

-- a port is put into an arena that holds no epoch, as by a helper that didn't look again
abbrev pub PuttingIntoResetIsUnlawful : Type 0
PuttingIntoResetIsUnlawful = (e : Plan) (words : List ℕ) (ports : ℕ → Port) (b : Beside) (k : ℕ) (c : Site) → k < e.ports → IsSite e c →
    b.holds c.arena ≡ None → slice_index words (at_word k) ≡ packed c → ¬ LawfulEpochs e words ports b
