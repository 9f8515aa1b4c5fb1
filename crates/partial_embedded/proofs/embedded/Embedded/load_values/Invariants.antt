use Rattle.partial_embedded.proofs.Common.{◌≡◌, ViewPair, ViewGoesTogether, IsPastCollects, buffers, view_left}
use Rattle.partial_embedded.proofs.embedded.Embedded.load_values.Given as goal

-- the loads are at this scan and its buffers, they have made no others, and the collects are over
abbrev pub invariant-loop-position : goal.invariant-loop-position
invariant-loop-position g l =
    let loads = g.L.Loads in
    let here : ViewPair = (l.self, buffers l.last l.changed l.values) in
    record {
      goes : loads.goes l.loads;
      together : ViewGoesTogether l.indices here;
      scan : loads.scan l.loads ≡ here;
      positions : loads.positions l.loads ≡ l.indices;
      follows : loads.follows l.fn.loads l.loads;
      sizes : l.self.sizes ≡ l.fn.self.sizes;
      past : IsPastCollects l.self.stage;
    }

abbrev pub decreases-loop-position : goal.decreases-loop-position
decreases-loop-position g l = view_left l.indices (l.self, buffers l.last l.changed l.values)
