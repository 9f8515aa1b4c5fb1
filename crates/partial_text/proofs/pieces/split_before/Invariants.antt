use Rattle.partial_text.proofs.Common.{◌≡◌, ◌++◌, take, drop, until, from}
use Rattle.partial_text.proofs.pieces.split_before.Given as goal

abbrev pub invariant-loop-index : goal.invariant-loop-index
invariant-loop-index l =
    record { front : until l.separator l.bytes ≡ take l.index l.bytes ++ until l.separator (drop l.index l.bytes); rest : from l.separator l.bytes ≡ from l.separator (drop l.index l.bytes) }
