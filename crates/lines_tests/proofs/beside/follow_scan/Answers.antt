use Rattle.lines_tests.proofs.Common.{ap, subst, ◌∙◌, CoreState, advance, IsPossible}
use Rattle.lines_tests.proofs.beside.follow_scan.Goals as goal

pub scan-requires-clause-possible : goal.scan-requires-clause-possible
scan-requires-clause-possible c = subst (λ (d : CoreState). IsPossible d c.follow-at.result) c.requires.begun c.follow-at.ensures.possible

pub scan-requires-clause-machine : goal.scan-requires-clause-machine
scan-requires-clause-machine c = c.follow-at.ensures.machine ∙ ap (λ (d : CoreState). advance d c.follow-at.result) c.requires.begun
