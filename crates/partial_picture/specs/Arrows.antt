-- The arrows of calls that met an entry.
use Rattle.std.specs.Prelude.{ℕ, ◌<◌, ◌-◌, ◌==◌, nat_lt, Bool, false, ◌&&◌, List, length, map, reverse, slice_get, Option, Some, None, if◌then◌else◌}
use Rattle.std.specs.Borrow.{Bor}
use Rattle.std.specs.List.{filter_map, find, zip}
use Rattle.std.specs.Map.{update_all}
use Rattle.std.specs.Option.{option_and_then, option_map, option_map_or}
use Rattle.std.specs.Ordering.{eq_by_cmp, nat_cmp}
use Rattle.partial_model.specs.declared.call.Answer.{Answer}
use Rattle.partial_model.specs.declared.call.Called.{Called}
use Rattle.partial_model.specs.declared.call.Finish.{Finish}
use Rattle.partial_model.specs.declared.history.Applied.{Applied}
use Rattle.partial_words.specs.declared.step.Event.{Event}
use Rattle.partial_words.specs.declared.step.Step.{Step}
use Rattle.partial_picture.specs.Bars.{is_in}
use Rattle.partial_picture.specs.Made.{CallSpan, made_seen}
use Rattle.partial_picture.specs.declared.picture.Arrow.{Arrow}
use Rattle.partial_picture.specs.declared.picture.ArrowKind.{ArrowKind}
use Rattle.partial_picture.specs.declared.spans.Made.{Made}
use Rattle.partial_picture.specs.declared.window.Span.{Span}

-- both ends of the arrow are marks, of which there are so many
abbrev pub IsArrowWithin : ℕ → Arrow → Type 0
IsArrowWithin marks a = (a.from < marks) × (a.to < marks)

-- an arrow: what it says, the stamp of the entry, the marks at its ends, and its call
pub record ArrowView : Type 0 where
  pub kind : ArrowKind
  pub stamp : ℕ
  pub from : ℕ
  pub to : ℕ
  pub called : Called

-- what an arrow shows
abbrev pub arrow_seen : Arrow → ArrowView
arrow_seen a = record { kind = a.kind; stamp = a.stamp; from = a.from; to = a.to; called = a.called.now }

-- the step of the entry with this stamp, of a history whose entries have these steps
abbrev pub entry_step : List Applied → List ℕ → ℕ → Option ℕ
entry_step history steps stamp = update_all (eq_by_cmp nat_cmp) (λ _. None) (map (λ x. (x.0.stamp, x.1)) (zip history steps)) stamp

-- an answer says that an entry overtook the call, or that the call took its view
abbrev pub met_in : Answer → Option (ArrowKind × ℕ)
met_in (Answer.Lost by) = Some (ArrowKind.Overtook, by)
met_in (Answer.Changed by) = Some (ArrowKind.Overtook, by)
met_in (Answer.Scanned values collects (Some stamp)) = Some (ArrowKind.Lent, stamp)
met_in _ = None

-- the same of the end of a call
abbrev pub met_of : Option Finish → Option (ArrowKind × ℕ)
met_of finish = option_and_then (λ f. met_in f.answer) finish

-- the step is a load of one of m component words that returned the stamp
abbrev pub loads_stamp : ℕ → ℕ → Step → ℕ → Bool
loads_stamp m stamp (Step.Load w) answer = nat_lt w m && answer == stamp
loads_stamp m stamp _ answer = false

-- so is the step with this number
abbrev pub loads_at : ℕ → ℕ → List Event → ℕ → Bool
loads_at m stamp trace step = option_map_or (λ e. loads_stamp m stamp e.step e.answer) (slice_get trace step) false

-- the last of these steps that is
abbrev pub last_load : ℕ → ℕ → List Event → List ℕ → Option ℕ
last_load m stamp trace steps = find (loads_at m stamp trace) (reverse steps)

-- the step of a call that met the entry: where it was overtaken its last one, and where it took a view its last load of the stamp
abbrev pub met_at : ArrowKind → ℕ → ℕ → List Event → List ℕ → Option ℕ
met_at ArrowKind.Overtook m stamp trace steps = slice_get steps (length steps - 1)
met_at ArrowKind.Lent m stamp trace steps = last_load m stamp trace steps

-- the arrow between two steps, when the window has both and the first one comes after the call's first step
abbrev pub arrow_between : Span → CallSpan → ArrowKind × ℕ → ℕ → ℕ → Option ArrowView
arrow_between window c met from to = if is_in c.span from && is_in window from && is_in window to
    then Some (record { kind = met.0; stamp = met.1; from = from - window.first; to = to - window.first; called = c.called }) else None

-- the arrow to a call, from the step of the entry that it met, when there is one
abbrev pub arrow_at : ℕ → Span → List Event → (ℕ → Option ℕ) → CallSpan → Option ArrowView
arrow_at m window trace entry c = option_and_then (λ met. option_and_then (λ from. option_and_then (arrow_between window c met from)
    (met_at met.0 m met.1 trace c.steps)) (entry met.1)) (met_of c.called.finish)

-- the arrows to these calls of a replay with this history, whose entries have these steps
abbrev pub arrows_in : ℕ → Span → List Event → List Applied → List ℕ → List CallSpan → List ArrowView
arrows_in m window trace history steps calls = filter_map (arrow_at m window trace (entry_step history steps)) calls

-- an arrow of the code, with a reference to its call
abbrev pub arrow_with : Bor Called → ArrowView → Arrow
arrow_with called a = record { kind = a.kind; stamp = a.stamp; from = a.from; to = a.to; called = called }

-- the arrow to a call of the code
abbrev pub arrow_of : ℕ → Span → List Event → (ℕ → Option ℕ) → Made → Option Arrow
arrow_of m window trace entry made = option_map (arrow_with made.called) (arrow_at m window trace entry (made_seen made))
