use Rattle.partial_replay.proofs.Common.{◌≡◌, length, AreMarksOf, IsLeft}
use Rattle.partial_replay.proofs.wanted.forget.Given as goal

-- what is still wanted stands at a position from the k-th on, and nothing else is marked
abbrev pub invariant-loop-k : goal.invariant-loop-k
invariant-loop-k l = record {
  wanted_room : length l.wanted ≡ length l.fn.wanted;
  differing_room : length l.differing ≡ length l.fn.differing;
  left : IsLeft l.wanted l.components l.k;
  marks : AreMarksOf l.wanted l.differing;
}
