use Rattle.partial_memory.proofs.Common.{◌≡◌, ◌≤◌, List, slots_items, vec_capacity, Applied, Opening, Layout, RecordsAreWithin, AreValues, AreChains}
use Rattle.partial_memory.proofs.closed.closed_of.Given as goal

abbrev pub invariant-loop-j : goal.invariant-loop-j
invariant-loop-j l = record {
  tells : (z : Layout) (o : Opening) (log : List Applied) → RecordsAreWithin z o (slots_items l.words.words) log → z.m ≡ l.m → AreValues o log l.j l.values.items × AreChains o log l.j l.chains.items;
  room : l.m ≤ vec_capacity l.values;
  space : l.m ≤ vec_capacity l.chains;
}
