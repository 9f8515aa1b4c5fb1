use Rattle.partial_picture.proofs.Common.{arith, ◌-◌, ◌<◌, length, ◌∙◌}
use Rattle.std.proofs.Common.{slice_index_or, map, refl}
use Rattle.std.proofs.lemmas.List.{length-map, length-set}
use Rattle.partial_picture.specs.Labels.{label_places}
use Rattle.partial_picture.specs.declared.entries.Label.{Label}
use Rattle.partial_picture.specs.declared.pixels.Pixels.{Pixels}
use Rattle.partial_picture.proofs.Tiers.{label_more, length_of_places, rooms_begin, tier_below, tiers_kept}
use Rattle.partial_picture.proofs.entries.make_room.Goals as goal

pub loop-at-init : goal.loop-at-init
loop-at-init c =
    let all = length_of_places c.args.labels.now c.args.places.now c.requires.many in
    let rooms = length-map c.args.labels.now (λ (l : Label). l.room.0) in
    record {
      within = omega arith;
      three = refl;
      same = refl;
      rooms = rooms_begin c.args.width.0 (length c.args.labels.now) (label_places c.args.labels.now c.args.places.now) (map (λ l. l.room.0) c.args.labels.now) (omega (arith, all)) (omega (arith, rooms));
    }

pub bounds-ends-tier : goal.bounds-ends-tier
bounds-ends-tier c = tier_below c.loop-at.labels c.args.labels.now (c.loop-at.at - 1) _ c.loop-at.invariant.same c.requires.tiers (omega (arith, c.loop-at-test.true, c.loop-at.invariant.within))

pub bounds-ends-tier-in-loop-at : goal.bounds-ends-tier-in-loop-at
bounds-ends-tier-in-loop-at c = tier_below c.loop-at.labels c.args.labels.now (c.loop-at.at - 1) _ c.loop-at.invariant.same c.requires.tiers (omega (arith, c.loop-at-test.true, c.loop-at.invariant.within))

pub offset_bounds-ends-tier : goal.offset_bounds-ends-tier
offset_bounds-ends-tier c =
    let b : (slice_index_or c.loop-at.labels (c.loop-at.at - 1) (record { tier = 0; room = record { 0 = 0 } })).tier < 3 =
    tier_below c.loop-at.labels c.args.labels.now (c.loop-at.at - 1) _ c.loop-at.invariant.same c.requires.tiers (omega (arith, c.loop-at-test.true, c.loop-at.invariant.within)) in
    omega (arith, b)

pub offset_bounds-ends-tier-in-loop-at : goal.offset_bounds-ends-tier-in-loop-at
offset_bounds-ends-tier-in-loop-at c =
    let b : (slice_index_or c.loop-at.labels (c.loop-at.at - 1) (record { tier = 0; room = record { 0 = 0 } })).tier < 3 =
    tier_below c.loop-at.labels c.args.labels.now (c.loop-at.at - 1) _ c.loop-at.invariant.same c.requires.tiers (omega (arith, c.loop-at-test.true, c.loop-at.invariant.within)) in
    omega (arith, b)

pub loop-at-preserved : goal.loop-at-preserved
loop-at-preserved c =
    let at = c.loop-at.at - 1 in
    let i = c.loop-at.invariant in
    let d : Label = record { tier = 0; room = record { 0 = 0 } } in
    let e : Pixels = record { 0 = 0 } in
    let new : Label = record { tier = (slice_index_or c.loop-at.labels at d).tier; room = record { 0 = c.saturating_sub.result } } in
    let less : at < length c.loop-at.labels = omega (arith, c.loop-at-test.true, i.within) in
    let same = tiers_kept c.loop-at.labels at d new less refl ∙ i.same in
    record {
      within = omega (arith, i.within, length-set c.loop-at.labels at new);
      three = length-set c.loop-at.ends (slice_index_or c.loop-at.labels at d).tier (slice_index_or c.args.places.now at e).0 ∙ i.three;
      same = same;
      rooms = label_more c.args.width.0 c.loop-at.labels c.args.labels.now c.args.places.now at c.loop-at.at c.loop-at.ends d new e (omega (arith, c.loop-at-test.true)) less
          c.requires.many i.same c.requires.tiers i.three i.rooms refl c.saturating_sub.ensures;
    }
