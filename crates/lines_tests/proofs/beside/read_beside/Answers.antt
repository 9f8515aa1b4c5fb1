use Rattle.lines_tests.proofs.{Common.{subst, CoreState, BeginsOn}, Turning.read_begins}
use Rattle.lines_tests.proofs.beside.read_beside.Goals as goal

pub open-requires-clause-begins : goal.open-requires-clause-begins
open-requires-clause-begins c =
    subst (λ (s : CoreState). BeginsOn s c.begin_read.new.self) c.in_ok-beside.ensures
    (read_begins c.in_ok-beside.beside c.begin_read.new.self c.args.component c.in_default.ensures.ok.0 c.in_default.ensures.ok.1)
