use Rattle.partial_replay.proofs.{Common.{◌<◌, length, slice_index, refl, arith, rules, values_now, position_below, record_value, ◌∙◌, ap}, ScanPlaces.{wanted_more, marked_more}}
use Rattle.partial_replay.proofs.wanted.want.Goals as goal

pub loop-k-preserved : goal.loop-k-preserved
loop-k-preserved c =
    let j = slice_index c.args.components.now c.loop-k.k in
    let v = slice_index c.args.values.now c.loop-k.k in
    let within : j < length c.loop-k.wanted = omega (
      arith,
      position_below c.args.components.now (length c.args.wanted.now) c.loop-k.k c.requires.components c.loop-k-test.true,
      c.loop-k.invariant.wanted_room,
    ) in
    let room : j < length c.loop-k.differing = omega (arith, within, c.requires.room, c.loop-k.invariant.wanted_room, c.loop-k.invariant.differing_room) in
    record {
      wanted_room = search rules;
      differing_room = search rules;
      wanted = wanted_more c.loop-k.wanted c.args.components.now c.args.values.now c.loop-k.k j v refl refl within c.loop-k.invariant.wanted;
      marked = marked_more c.loop-k.wanted c.loop-k.differing c.set.new.self (values_now c.args.words.now) j v c.value_of-now.result c.set.ensures
          (c.value_of-now.ensures ∙ ap (record_value c.args.words.now) c.word.ensures) within room
          c.loop-k.invariant.marked;
    }
