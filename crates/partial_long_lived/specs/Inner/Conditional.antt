-- Parts of a conditional update.
use Rattle.std.specs.Prelude.{ℕ, ◌≡◌, ◌+◌, ◌≤◌, ◌++◌, Bool, true, [], ◌∷◌, length, Some}
use Rattle.partial_model.specs.declared.call.Call.{Call}
use Rattle.partial_model.specs.declared.call.Answer.{Answer}
use Rattle.partial_model.specs.declared.call.Note.{Note}
use Rattle.partial_model.specs.History.{stamp_of}
use Rattle.partial_model.specs.Notes.{Noted}
use Rattle.partial_core.specs.Part.{core_of}
use Rattle.partial_epochs.specs.History.{public_stamp}
use Rattle.partial_epochs.specs.Notes.{public_of}
use Rattle.partial_lines.specs.declared.exchange.Exchanged.{Exchanged}
use Rattle.partial_lines.specs.declared.exchange.Exchanged.TheVariants.{Applied, Overtaken}
use Rattle.partial_long_lived.specs.declared.answers.UpdatedIf.{UpdatedIf}
use Rattle.partial_long_lived.specs.declared.stand.Stand.{Stand}
use Rattle.partial_long_lived.specs.declared.update_if.Asked.{Asked}
use Rattle.partial_long_lived.specs.declared.update_if.Compared.{Compared}
use Rattle.partial_long_lived.specs.declared.update_if.Compared.TheVariants.{Sealed, Same, Other}
use Rattle.partial_long_lived.specs.Rule.{SeatedPort, plan_of}
use Rattle.partial_long_lived.specs.Ports.{seen_in}
use Rattle.partial_long_lived.specs.Inner.Held.{port_at}
use Rattle.partial_long_lived.specs.Inner.Loads.{opening_of}
use Rattle.partial_long_lived.specs.Inner.Moves.{BeganBy}
use Rattle.partial_long_lived.specs.Inner.Steps.{SeatGoes}
use Rattle.partial_long_lived.specs.Inner.Updates.{PortStayed}

-- what a port notes of a conditional update that ended so, at that place
abbrev pub noted_if : Asked → UpdatedIf → ℕ → Noted
noted_if a (UpdatedIf.Applied stamp) place =
    record { call = Call.UpdateIf a.component a.expected a.value; answer = Answer.Applied stamp; note = Some (Note.Wrote place) }
noted_if a (UpdatedIf.Changed by) place =
    record { call = Call.UpdateIf a.component a.expected a.value; answer = Answer.Changed by; note = Some (Note.Saw place) }

-- how it ended, as its caller is answered, where it ended so in the port's epoch
abbrev pub outcome_of : SeatedPort → ℕ → Exchanged → UpdatedIf
outcome_of x j (Applied stamp) = UpdatedIf.Applied (public_stamp (length x.port.before) stamp)
outcome_of x j (Overtaken by) = UpdatedIf.Changed (public_of (plan_of x.about) x.port.before j by)

-- where it has its place among n entries that the port has seen: an applied one is the last of them, another one sees some of them
abbrev pub IsPlaceOf : UpdatedIf → ℕ → ℕ → Type 0
IsPlaceOf (UpdatedIf.Applied stamp) place n = place + 1 ≡ n
IsPlaceOf (UpdatedIf.Changed by) place n = place ≤ n

-- The port has compared a component's stamp where it stood, with the same machine.
pub record HasLooked (first : Bool) (s t : Stand) : Type 0 where
  pub stayed : PortStayed first s t
  pub machine : core_of (port_at t).port.part ≡ core_of (port_at s).port.part
  pub over : (port_at t).port.over ≡ (port_at s).port.over

-- the component's record lies at that word of the port's arena, and has the expected public stamp
pub record IsExpected (a : Asked) (at : ℕ) (t : Stand) : Type 0 where
  pub last : at ≡ stamp_of (opening_of (port_at t)) (port_at t).port.part.seen a.component
  pub stamp : public_of (plan_of (port_at t).about) (port_at t).port.before a.component at ≡ a.expected

-- What the comparison has found: nothing, where the component is sealed; the expected stamp; or another one, of which the port has noted the
-- answer, at the end of all that it has seen.
abbrev pub HasCompared : Asked → Stand → Compared → Stand → Type 0
HasCompared a s Sealed t = (port_at t).notes ≡ (port_at s).notes
HasCompared a s (Same at) t = ((port_at t).notes ≡ (port_at s).notes) × IsExpected a at t
HasCompared a s (Other stamp) t =
    ((port_at t).notes ≡ (port_at s).notes ++ noted_if a (UpdatedIf.Changed stamp) (length (seen_in (port_at t).port)) ∷ [])
    × ((port_at t).began.length ≤ length (seen_in (port_at t).port))

-- The conditional update has ended in the port's epoch: the port has noted this answer, at a place that is not before the call began.
pub record EndedIf (first : Bool) (a : Asked) (r : UpdatedIf) (s t : Stand) : Type 0 where
  pub stayed : PortStayed first s t
  pub place : ℕ
  pub notes : (port_at t).notes ≡ (port_at s).notes ++ noted_if a r place ∷ []
  pub behind : (port_at t).began.length ≤ place
  pub within : IsPlaceOf r place (length (seen_in (port_at t).port))

-- It has ended there or in a later epoch.
pub record HasUpdatedIf (a : Asked) (r : UpdatedIf) (s t : Stand) : Type 0 where
  pub shape : t.shape ≡ s.shape
  pub number : t.number ≡ s.number
  pub goes : SeatGoes (port_at s) (port_at t)
  pub began : BeganBy true (port_at s) (port_at t).began
  pub place : ℕ
  pub notes : (port_at t).notes ≡ (port_at s).notes ++ noted_if a r place ∷ []
  pub behind : (port_at t).began.length ≤ place
  pub within : IsPlaceOf r place (length (seen_in (port_at t).port))
