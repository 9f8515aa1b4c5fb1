-- What one atomic step of a call shows its port.
use Rattle.std.specs.Prelude.{ℕ, ◌≡◌, ◌<◌, ◌≤◌, ◌++◌, List, [], ◌∷◌, length}
use Rattle.std.specs.List.{AllByRecursion}
use Rattle.partial_table.specs.Table.{Me}
use Rattle.partial_model.specs.declared.history.Applied.{Applied}
use Rattle.partial_words.specs.Layout.{Layout, first_free}
use Rattle.partial_epochs.specs.Layout.{IsSite}
use Rattle.partial_epochs.specs.History.{stamp_limit}
use Rattle.partial_epochs.specs.Epochs.{IsEpochPlan}
use Rattle.partial_long_lived.specs.Rule.{SeatedPort, one_of, plan_of}
use Rattle.partial_long_lived.specs.Ports.{Knows, seen_in}

-- each public stamp fits a word
pub record HasStampsInWords (h : List Applied) : Type 0 where
  pub each : AllByRecursion (λ e. e.stamp < 18446744073709551616) h

-- each entry of an epoch has the stamp of a record after the initial ones, which fits below the epoch's number
pub record HasRecordStamps (z : Layout) (h : List Applied) : Type 0 where
  pub above : AllByRecursion (λ e. first_free z ≤ e.stamp) h
  pub below : AllByRecursion (λ e. e.stamp < stamp_limit) h

-- what is known of a seat, whatever its port does
pub record IsSeatKnown (x : SeatedPort) : Type 0 where
  pub plan : IsEpochPlan (plan_of x.about)
  pub number : x.number < x.about.ports
  pub site : IsSite (plan_of x.about) x.port.control.here
  pub epoch : length x.port.before ≡ x.port.control.here.epoch
  pub knows : Knows x.about x.number (seen_in x.port) x.notes
  pub fits : HasStampsInWords (seen_in x.port)
  pub own : HasRecordStamps x.about.sizes x.port.part.seen

-- the second history begins with the first
abbrev pub BeginsWith : List Applied → List Applied → Type 0
BeginsWith h l = (rest : List Applied) × (l ≡ h ++ rest)

-- by a step a seat stays that of its port, which stands in no earlier epoch, and has seen and met no less than before
pub record SeatGoes (x y : SeatedPort) : Type 0 where
  pub about : y.about ≡ x.about
  pub number : y.number ≡ x.number
  pub epoch : x.port.control.here.epoch ≤ y.port.control.here.epoch
  pub seals : x.contention.seals ≤ y.contention.seals
  pub seen : BeginsWith (seen_in x.port) (seen_in y.port)
  pub known : IsSeatKnown y

-- the seat is of one port, and has no slot
abbrev pub IsOne : {S : Type 0} → Me S (List SeatedPort) → Type 0
IsOne me = (me.0 ≡ one_of me.0 ∷ []) × (me.1 ≡ [])

-- what a step shows the seat of one port: it goes on, and what the step says in particular
abbrev pub tells : {S : Type 0} → (SeatedPort → ℕ → SeatedPort → Type 0) → Me S (List SeatedPort) → ℕ → Me S (List SeatedPort) → Type 0
tells R me a me' = IsOne me' × SeatGoes (one_of me.0) (one_of me'.0) × R (one_of me.0) a (one_of me'.0)
