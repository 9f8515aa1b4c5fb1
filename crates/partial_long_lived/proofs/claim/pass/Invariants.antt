use Rattle.partial_long_lived.proofs.Passing.{OnePass}
use Rattle.partial_long_lived.proofs.claim.pass.Given as goal

abbrev pub invariant-loop-arena : goal.invariant-loop-arena
invariant-loop-arena l = OnePass l.words.table_id l.words.key l.fn.stand l.arena l.stand
