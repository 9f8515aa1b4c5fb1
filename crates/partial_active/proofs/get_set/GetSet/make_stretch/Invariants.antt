use Rattle.partial_active.proofs.Common.{◌≡◌, set_left, IsAt}
use Rattle.partial_active.proofs.get_set.GetSet.make_stretch.Given as goal

-- the steps are at this getSet and its buffers, and no others were made
abbrev pub invariant-loop-step : goal.invariant-loop-step
invariant-loop-step g l = record {
  at : IsAt g.S.Steps.goes g.S.Steps.set l.steps (l.self, l.found);
  follows : g.S.Steps.follows l.fn.steps l.steps;
  sizes : l.self.sizes ≡ l.fn.self.sizes;
}

abbrev pub decreases-loop-step : goal.decreases-loop-step
decreases-loop-step g l = set_left l.self
