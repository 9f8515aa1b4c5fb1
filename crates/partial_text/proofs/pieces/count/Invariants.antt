use Rattle.partial_text.proofs.Common.{◌≡◌, ◌+◌, ◌≤◌, length, drop, pieces}
use Rattle.partial_text.proofs.pieces.count.Given as goal

abbrev pub invariant-loop-byte : goal.invariant-loop-byte
invariant-loop-byte l = (l.found + length (pieces l.separator (drop l.byte-index l.bytes)) ≡ length (pieces l.separator l.bytes)) × (l.found ≤ l.byte-index)
