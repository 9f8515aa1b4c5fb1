use Rattle.partial_memory.proofs.{Common.{◌+◌, ◌-◌, length, slots_len, slots_items}, Chains.Walked}
use Rattle.partial_memory.proofs.closed.chain.Given as goal

abbrev pub invariant-loop-at : goal.invariant-loop-at
invariant-loop-at l = record {
  walked : Walked (slots_items l.words.words) l.newest l.links.items l.at;
}

-- a chain has no more links than there are words, and one
abbrev pub decreases-loop-at : goal.decreases-loop-at
decreases-loop-at l = slots_len l.words.words + 2 - length l.links.items
