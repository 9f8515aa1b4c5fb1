-- What a handle ends as, of which what it holds was lent.
use Rattle.std.specs.Borrow.{LendsIf, MutBor, Fml}
use Rattle.std.specs.declared.option.Option.{Option}
use Rattle.std.specs.declared.option.Option.TheVariants.{Some}
use Rattle.partial_door.specs.declared.held.Held.{Held}
use Rattle.partial_door.specs.contracts.held.Held as held
use Rattle.partial_door.specs.declared.handle.Handle.{Handle}
use Rattle.partial_door.specs.contracts.handle.Handle as handle

-- the handle with that in it
abbrev pub with_held : Handle → Held → Handle
with_held h x = record h { held = Some x }

-- it ends with the last value of what was lent, and as it was when it holds nothing
abbrev pub LendsHeld : MutBor Handle → Option (MutBor Held) → Fml
LendsHeld h r = LendsIf handle.the_row held.the_row h r (with_held h.now) h.now
