use Rattle.partial_replay.proofs.Common.{◌≡◌, length, AreMarked, AreWanted, values_now}
use Rattle.partial_replay.proofs.wanted.want.Given as goal

-- the components of the first k positions are wanted, and those that differ are marked
abbrev pub invariant-loop-k : goal.invariant-loop-k
invariant-loop-k l = record {
  wanted_room : length l.wanted ≡ length l.fn.wanted;
  differing_room : length l.differing ≡ length l.fn.differing;
  wanted : AreWanted l.wanted l.components l.values l.k;
  marked : AreMarked l.wanted l.differing (values_now l.words);
}
