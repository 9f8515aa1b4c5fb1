use Rattle.lines_tests.proofs.{Common.{subst, CoreState, BeginsOn}, Turning.update_begins}
use Rattle.lines_tests.proofs.beside.update_beside.Goals as goal

pub open-requires-clause-begins : goal.open-requires-clause-begins
open-requires-clause-begins c =
    let change = c.args.change in
    subst (λ (s : CoreState). BeginsOn s c.begin.new.core) c.in_ok-beside.ensures
    (update_begins c.in_ok-beside.beside c.begin.new.core change.component change.expected change.value c.in_default.ensures.0 c.in_default.ensures.1)
