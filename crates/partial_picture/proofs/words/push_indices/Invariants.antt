use Rattle.partial_picture.proofs.Common.{◌≡◌, ◌++◌, take, string_bytes, flat_map, number_field}
use Rattle.partial_picture.proofs.words.push_indices.Given as goal

abbrev pub invariant-loop-index : goal.invariant-loop-index
invariant-loop-index l = string_bytes l.words ≡ string_bytes l.initial.words ++ flat_map number_field (take l.index-index l.indices)
