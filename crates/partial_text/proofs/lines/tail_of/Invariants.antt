use Rattle.partial_text.proofs.Common.{◌≡◌, ◌+◌, ◌≤◌, [], length, pieces, tail_at}
use Rattle.partial_text.proofs.lines.tail_of.Given as goal

abbrev pub invariant-loop-ports : goal.invariant-loop-ports
invariant-loop-ports l =
    record { few : length l.ports.items ≤ 64; line : l.line ≡ 3 + length l.ports.items; so_far : tail_at l.m l.line l.ports.items (pieces 10 l.left) ≡ tail_at l.m 3 [] (pieces 10 l.text) }

abbrev pub decreases-loop-ports : goal.decreases-loop-ports
decreases-loop-ports l = length l.left
