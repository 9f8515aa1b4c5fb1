use Rattle.partial_memory.proofs.{Common.{◌≡◌, AllByRecursion, IsOf, AreSeatedOf}, Closes.Taken}
use Rattle.partial_memory.proofs.memory.Memory.close.Given as goal

abbrev pub invariant-loop-port : goal.invariant-loop-port
invariant-loop-port l = record {
  table : l.seat.table_id ≡ l.table.table_id;
  own : AreSeatedOf l.table.key l.seat.me.0;
  left : AllByRecursion (IsOf l.fn.self) l.rest.items;
  taken : Taken l.fn.self.table l.fn.port l.fn.rest.items l.rest.items l.seat.me.0;
}

abbrev pub decreases-loop-port : goal.decreases-loop-port
decreases-loop-port l = goal.left-loop-port l
