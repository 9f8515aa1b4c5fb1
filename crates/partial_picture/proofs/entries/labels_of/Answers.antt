use Rattle.partial_picture.proofs.Common.{arith, ◌++◌, ◌∷◌, [], ◌≡◌}
use Rattle.std.proofs.lemmas.List.{length_push}
use Rattle.partial_picture.specs.declared.entries.Label.{Label}
use Rattle.partial_picture.specs.declared.pixels.Pixels.{Pixels}
use Rattle.partial_picture.proofs.Tiers.{below_more, label_pushed}
use Rattle.partial_picture.proofs.entries.labels_of.Goals as goal

pub loop-place-preserved : goal.loop-place-preserved
loop-place-preserved c =
    let i = c.loop-place.invariant in
    let labels = c.loop-place.labels.items in
    let e : Pixels = record { 0 = 0 } in
    let new : Label = record { tier = c.tier_at-tier.result; room = c.args.width } in
    let pushed : c.push.new.self.items ≡ labels ++ new ∷ [] = c.in_ok-push.ensures.items in
    let both = label_pushed labels c.args.places.now c.loop-place.place-index e new c.loop-place.ends c.add.result.0 i.many c.loop-place-test.true i.tiers i.ends
    c.tier_at-tier.ensures.value c.tier_at-tier.ensures.below c.add.ensures in
    rw pushed (record {
      many = omega (arith, length_push labels new, i.many);
      below = below_more labels new i.below c.tier_at-tier.ensures.below;
      tiers = both.0;
      ends = both.1;
    })
