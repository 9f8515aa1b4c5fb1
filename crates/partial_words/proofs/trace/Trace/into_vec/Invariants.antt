use Rattle.partial_words.proofs.Common.{◌≡◌, ◌++◌, length}
use Rattle.std.specs.Prelude.{drop}
use Rattle.partial_words.specs.Kept.{kept_events, others_in}
use Rattle.partial_words.proofs.trace.Trace.into_vec.Given as goal

-- what is left to give, and how many of it are others
abbrev pub invariant-loop-step : goal.invariant-loop-step
invariant-loop-step l = record {
  told : l.events.items ++ kept_events (drop l.step-index l.step-items) (drop l.next l.others.items) ≡ l.fn.self;
  left : others_in (drop l.step-index l.step-items) ≡ length (drop l.next l.others.items);
}
