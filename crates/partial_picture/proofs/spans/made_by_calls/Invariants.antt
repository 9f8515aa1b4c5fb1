use Rattle.std.proofs.Common.{map, take}
use Rattle.partial_picture.specs.Made.{made_seen}
use Rattle.partial_picture.proofs.Made.{IsWalked}
use Rattle.partial_picture.proofs.spans.made_by_calls.Given as goal

abbrev pub invariant-loop-called : goal.invariant-loop-called
invariant-loop-called l =
    IsWalked (map (λ own. own.items) l.ports) l.entries l.taken.items (take l.called-index l.called-items) (map made_seen l.made.items)
