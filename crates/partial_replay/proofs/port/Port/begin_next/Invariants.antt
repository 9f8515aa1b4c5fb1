use Rattle.partial_replay.proofs.Common.{◌≡◌, ◌≤◌, ◌-◌, length, None, Idle, BeginsInTurn, KeepsFit, KeepsMade}
use Rattle.partial_replay.proofs.port.Port.begin_next.Given as goal

-- the machine is idle and of the same sizes, and the port goes on as its part's port
abbrev pub invariant-loop-alloc : goal.invariant-loop-alloc
invariant-loop-alloc l = record {
  idle : l.self.core.stage ≡ Idle;
  none : l.self.under_way ≡ None;
  sizes : l.self.core.sizes ≡ l.fn.self.core.sizes;
  few : length l.self.finished.items ≤ length l.calls;
  more : length l.fn.self.finished.items ≤ length l.self.finished.items;
  fits : KeepsFit l.calls l.seen l.fn.self l.self;
  made : KeepsMade l.calls l.seen l.fn.self l.self;
  turn : BeginsInTurn l.calls l.seen l.fn.self l.self;
}

abbrev pub decreases-loop-alloc : goal.decreases-loop-alloc
decreases-loop-alloc l = length l.calls - length l.self.finished.items
