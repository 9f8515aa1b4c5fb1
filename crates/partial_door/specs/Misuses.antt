-- The numbers of refusals before a memory is asked.
use Rattle.std.specs.Prelude.{ℕ}
use Rattle.partial_door.specs.declared.codes.Misuse.{Misuse}
use Rattle.partial_door.specs.declared.codes.Misuse.TheVariants.{HoldsNone, Length}

-- the numbers of these refusals
abbrev pub misuse_code : Misuse → ℕ
misuse_code HoldsNone = 17
misuse_code Length = 19
