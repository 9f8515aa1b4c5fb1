-- What two ports show each other that meet.
use Rattle.std.specs.Prelude.{ℕ, ◌≡◌, ◌<◌, ◌≤◌, ◌⊎◌, List, [], ◌∷◌, length}
use Rattle.partial_table.specs.Seats.{further_ports}
use Rattle.partial_table.specs.Table.{Me}
use Rattle.partial_model.specs.declared.history.Applied.{Applied}
use Rattle.partial_model.specs.Notes.{Noted}
use Rattle.partial_epochs.specs.Notes.{having_seen}
use Rattle.partial_long_lived.specs.declared.rule.About.{About}
use Rattle.partial_long_lived.specs.Rule.{Began, SeatedPort, one_of}
use Rattle.partial_long_lived.specs.Ports.{HasLawfulState, Knows, seen_in}
use Rattle.partial_long_lived.specs.declared.stand.Stand.{Stand}
use Rattle.partial_long_lived.specs.Inner.Calls.{HasCome}
use Rattle.partial_long_lived.specs.Inner.Held.{port_at}
use Rattle.partial_long_lived.specs.Inner.Steps.{BeginsWith, SeatGoes}

-- At a step the rule of the table held with one history, which begins with all that each of two ports has seen then and is no shorter than
-- when their calls began, and with notes of which each port has its own.
pub record WereLawful (about : About) (x y : SeatedPort) : Type 0 where
  pub log : List Applied
  pub notes : ℕ → List Noted
  pub state : HasLawfulState about log notes
  pub first : BeginsWith (seen_in x.port) log
  pub second : BeginsWith (seen_in y.port) log
  pub first_noted : notes x.number ≡ x.notes
  pub second_noted : notes y.number ≡ y.notes
  pub first_began : x.began.length ≤ length log
  pub second_began : y.began.length ≤ length log

-- The port x sees all of its epoch by the first step of a call, beside the port y, and is z then.
pub record Observes (x y z : SeatedPort) : Type 0 where
  pub n : Began
  pub log : List Applied
  pub is : z ≡ record x { port = having_seen x.port log; began = n }
  pub began : length (seen_in x.port) ≤ n.length
  -- the call begins in no epoch before that of y
  pub late : y.port.control.here.epoch ≤ n.epoch
  -- where y stands in no later epoch, x has seen all that y has seen
  pub all : y.port.control.here.epoch ≤ x.port.control.here.epoch → BeginsWith (seen_in y.port) (seen_in z.port)
  -- where it stands in a later one, y has seen all that x had seen
  pub before : x.port.control.here.epoch < y.port.control.here.epoch → BeginsWith (seen_in x.port) (seen_in y.port)
  -- what the one knows of its own calls it knows in what the other one has seen, where that is no less
  pub known : BeginsWith (seen_in y.port) (seen_in z.port) → Knows y.about y.number (seen_in z.port) y.notes
  pub known_before : BeginsWith (seen_in x.port) (seen_in y.port) → Knows x.about x.number (seen_in y.port) x.notes
  pub lawful : WereLawful x.about z y

-- the second port of a view
abbrev pub second_of : List SeatedPort → SeatedPort
second_of v = one_of (further_ports v)

-- the step of a seat of two ports by which the first one sees all of its epoch
abbrev pub observes : {S : Type 0} → Me S (List SeatedPort) → ℕ → Me S (List SeatedPort) → Type 0
observes me a me' = (me'.0 ≡ one_of me'.0 ∷ second_of me.0 ∷ []) × (me'.1 ≡ []) × SeatGoes (one_of me.0) (one_of me'.0)
    × Observes (one_of me.0) (second_of me.0) (one_of me'.0)

-- A port that has met another one stands where it stood, or in a later epoch, and has noted nothing. It has seen all that the other one had seen,
-- and the other one's notes are legal there, with its entries.
pub record HasMet (s other t : Stand) : Type 0 where
  pub come : HasCome s t
  pub notes : (port_at t).notes ≡ (port_at s).notes
  pub all : BeginsWith (seen_in (port_at other).port) (seen_in (port_at t).port)
  pub knows : Knows (port_at other).about (port_at other).number (seen_in (port_at t).port) (port_at other).notes

-- what the one port has seen begins what the other one has seen
abbrev pub AreComparable : Stand → Stand → Type 0
AreComparable s t = BeginsWith (seen_in (port_at s).port) (seen_in (port_at t).port) ⊎ BeginsWith (seen_in (port_at t).port) (seen_in (port_at s).port)
