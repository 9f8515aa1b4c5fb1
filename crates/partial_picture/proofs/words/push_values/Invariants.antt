use Rattle.partial_picture.proofs.Common.{◌≡◌, ◌++◌, take, string_bytes, flat_map, number_field}
use Rattle.partial_picture.proofs.words.push_values.Given as goal

abbrev pub invariant-loop-value : goal.invariant-loop-value
invariant-loop-value l = string_bytes l.words ≡ string_bytes l.initial.words ++ flat_map number_field (take l.value-index l.values)
