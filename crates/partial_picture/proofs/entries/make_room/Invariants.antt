use Rattle.std.proofs.Common.{◌≡◌, ◌≤◌, length, map}
use Rattle.partial_picture.specs.Labels.{label_places}
use Rattle.partial_picture.proofs.Tiers.{HaveRoom}
use Rattle.partial_picture.proofs.entries.make_room.Given as goal

abbrev pub invariant-loop-at : goal.invariant-loop-at
invariant-loop-at l = record {
  within : l.at ≤ length l.labels;
  three : length l.ends ≡ 3;
  same : map (λ x. x.tier) l.labels ≡ map (λ x. x.tier) l.fn.labels;
  rooms : HaveRoom l.fn.width.0 (label_places l.fn.labels l.fn.places) l.at (map (λ x. x.room.0) l.labels) l.ends;
}

abbrev pub decreases-loop-at : goal.decreases-loop-at
decreases-loop-at l = l.at
