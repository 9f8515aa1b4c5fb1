use Rattle.partial_memory.proofs.Common.{◌≡◌, ◌-◌, ◌≤◌, [], ◌++◌, vec_len, vec_capacity, newcomers, new_ports}
use Rattle.partial_memory.proofs.memory.deal.Given as goal

abbrev pub invariant-loop-number : goal.invariant-loop-number
invariant-loop-number l = record {
  table : l.seat.table_id ≡ l.words.table_id;
  parts : l.seat.me.0 ≡ newcomers l.words.key l.number (l.ports - l.number);
  none : l.seat.me.1 ≡ [];
  steps : l.seat.steps ≡ 0;
  made : new_ports l.words.table_id (newcomers l.words.key 0 l.ports) ≡ l.all.items ++ new_ports l.words.table_id l.seat.me.0;
  many : vec_len l.all ≡ l.number;
  room : l.ports ≤ vec_capacity l.all;
}
