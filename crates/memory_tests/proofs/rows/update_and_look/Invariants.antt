use Rattle.memory_tests.proofs.Common.{◌≡◌, IsOf}
use Rattle.memory_tests.proofs.rows.update_and_look.Given as goal

abbrev pub invariant-loop-value : goal.invariant-loop-value
invariant-loop-value g l = record {
  first : IsOf l.memory l.first;
  second : IsOf l.memory l.second;
}
