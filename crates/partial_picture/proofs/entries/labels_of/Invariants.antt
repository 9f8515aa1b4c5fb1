use Rattle.std.proofs.Common.{◌≡◌, ◌<◌, [], All, length, take}
use Rattle.partial_picture.specs.Labels.{AreTiered, ends_in, label_places}
use Rattle.partial_picture.proofs.entries.labels_of.Given as goal

abbrev pub invariant-loop-place : goal.invariant-loop-place
invariant-loop-place l = record {
  many : length l.labels.items ≡ l.place-index;
  below : All (λ x. x.tier < 3) l.labels.items;
  tiers : AreTiered [] (label_places l.labels.items (take l.place-index l.places));
  ends : l.ends ≡ ends_in (label_places l.labels.items (take l.place-index l.places));
}
