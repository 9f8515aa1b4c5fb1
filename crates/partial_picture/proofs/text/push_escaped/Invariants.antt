use Rattle.partial_picture.proofs.Common.{◌≡◌, ◌++◌, string_bytes, flat_map}
use Rattle.partial_picture.specs.Texts.{escaped_letter}
use Rattle.partial_picture.proofs.text.push_escaped.Given as goal

abbrev pub invariant-loop-letter : goal.invariant-loop-letter
invariant-loop-letter l = string_bytes l.text ≡ string_bytes l.initial.text ++ flat_map escaped_letter l.yielded
