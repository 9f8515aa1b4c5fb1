-- What a replay of a plan returns: a legal outcome of one history, with the words and the steps that led to them.
use Rattle.std.specs.Prelude.{ℕ, ◌≡◌, ◌<◌, List, [], length, slice_index_or, filter_map, sum_by}
use Rattle.partial_model.specs.Outcome.{LegalOutcome}
use Rattle.partial_words.specs.Layout.{pool_base}
use Rattle.partial_words.specs.Record.{record_value}
use Rattle.partial_words.specs.Step.{Leads}
use Rattle.partial_words.specs.Chain.{Agrees, AreOpeningWords}
use Rattle.partial_machine.specs.Machine.{CoreState, fresh}
use Rattle.partial_text.specs.PlanText.{PlanView}
use Rattle.partial_model.specs.declared.history.Applied.{Applied}
use Rattle.partial_model.specs.declared.history.Opening.{Opening}
use Rattle.partial_model.specs.declared.call.Called.{Called}
use Rattle.partial_words.specs.declared.step.Event.{Event}
use Rattle.partial_text.specs.declared.outcome.Outcome.{Outcome}
use Rattle.partial_text.specs.declared.replayed.Replayed.{Replayed}
use Rattle.partial_text.specs.Replayed.{calls_in_order}
use Rattle.std.specs.List.{AllByRecursion}
use Rattle.partial_replay.specs.Place.{HasLeastPlace}
use Rattle.partial_replay.specs.Trace.{event_entry, moments_by, ports_of, moments_from}
use Rattle.partial_replay.specs.CallSteps.{AreStepsOf}
use Rattle.partial_machine.specs.Bounds.{most_steps}
use Rattle.partial_replay.specs.Turns.{turns_of, turns_by, ports_in, lengths_in, BeginInTurns}
use Rattle.partial_replay.specs.Listed.{calls_by, steps_by, AreFirstOf, AreAllMade, HaveMade, AreFew}

-- what an outcome says: the opening, the history, the calls, the words at the end, the trace, and how many steps it has
pub record OutcomeView : Type 0 where
  pub opening : Opening
  pub history : List Applied
  pub calls : List Called
  pub words : List ℕ
  pub trace : List Event
  pub steps : ℕ

-- what an outcome says
abbrev pub outcome_view : Outcome → OutcomeView
outcome_view outcome = record {
  opening = outcome.opening;
  history = outcome.history.items;
  calls = outcome.calls.items;
  words = outcome.words.items;
  trace = outcome.trace.items;
  steps = outcome.steps;
}

-- what a replay has made, as its outcome says it
abbrev pub replayed_view : Replayed → OutcomeView
replayed_view replayed = record {
  opening = replayed.opening;
  history = replayed.history.items;
  calls = calls_in_order replayed.calls.items;
  words = replayed.words;
  trace = replayed.trace;
  steps = replayed.steps;
}

-- how long the history is at each turn of port q in the plan's turns
abbrev pub turn_lengths : PlanView → OutcomeView → ℕ → List ℕ
turn_lengths p outcome q = lengths_in q (turns_of p) (λ r. steps_by r outcome.calls) 0 (moments_from p.sizes.m 0 outcome.trace)

-- the outcome of a replay of the plan
pub record IsReplayOf (p : PlanView) (outcome : OutcomeView) : Type 0 where
  -- it opened with the plan's values, each with a record's word number for its first stamp
  pub values : outcome.opening.values ≡ p.initial
  pub first : outcome.opening.first ≡ pool_base p.sizes
  -- the calls are a legal outcome of the history, and the words agree with it
  pub legal : LegalOutcome outcome.opening outcome.history outcome.calls
  pub agrees : Agrees outcome.opening outcome.words outcome.history
  -- what a call saw is the least prefix from its begin on that shows its answer
  pub places : AllByRecursion (HasLeastPlace outcome.opening outcome.history) outcome.calls
  -- the calls of each port are the first of the plan's, in order
  pub calls : (q : ℕ) → AreFirstOf (slice_index_or p.ports q []) (calls_by q outcome.calls)
  -- the trace leads from the words at opening to the words
  pub opened : List ℕ
  pub opens : AreOpeningWords p.sizes p.initial opened
  pub leads : Leads opened outcome.trace outcome.words
  pub steps : outcome.steps ≡ length outcome.trace
  -- its won exchanges of component words are the history, in order
  pub entries : outcome.history ≡ filter_map (event_entry p.sizes.m (record_value outcome.words)) outcome.trace
  -- each port's events are the steps of its calls, call by call
  pub events : (q : ℕ) → (last : CoreState) × AreStepsOf (fresh p.sizes q) (calls_by q outcome.calls)
      (moments_by p.sizes.m q outcome.trace) last
  -- the trace's events are of the plan's turns in order, of each port the first ones, as many as its calls have steps
  pub turns : ports_of outcome.trace ≡ ports_in (turns_of p) (λ q. steps_by q outcome.calls)
  -- each call begins in the turn of its port that comes after the steps of the calls in front of it, with the history as it is then
  pub begins : (q : ℕ) → BeginInTurns (turn_lengths p outcome q) 0 (calls_by q outcome.calls)
  -- each port makes a step in each of its turns until all its calls are made, and with the rest all are
  pub made : (q : ℕ) → HaveMade p.rest (turns_by q p.steps) (steps_by q outcome.calls) (slice_index_or p.ports q [])
      (calls_by q outcome.calls)
  -- no call makes more steps than such a call may
  pub few : AreFew p.sizes outcome.calls
  -- Nothing waits for a stopped port: when a port has more turns than its calls make steps at most, they
  -- are all made, wherever the others stopped.
  pub waits : (q : ℕ) → sum_by (most_steps p.sizes) (slice_index_or p.ports q []) < turns_by q p.steps →
      AreAllMade (slice_index_or p.ports q []) (calls_by q outcome.calls)
