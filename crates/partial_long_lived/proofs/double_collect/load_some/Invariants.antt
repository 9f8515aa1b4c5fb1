use Rattle.partial_long_lived.proofs.Common.{◌≡◌, ◌+◌, ◌≤◌, length, IsHeld, port_at, StaysAt, HadValues}
use Rattle.partial_long_lived.proofs.double_collect.load_some.Given as goal

abbrev pub invariant-loop-k : goal.invariant-loop-k
invariant-loop-k l = record {
  held : IsHeld l.words.table_id l.words.key l.stand;
  base : l.base ≡ l.stand.base;
  kept : StaysAt l.fn.stand l.stand;
  same : port_at l.stand ≡ port_at l.fn.stand;
  many : length l.into ≡ length l.fn.into;
  values : HadValues (port_at l.fn.stand) l.which l.kept l.into (l.from + l.k);
  steps : l.stand.seat.steps ≤ l.fn.stand.seat.steps + l.k;
}
