use Rattle.partial_long_lived.proofs.Common.{IsFinding, subst}
use Rattle.partial_long_lived.proofs.update_if.see_asked.Goals as goal

pub see-requires-clause-passed : goal.see-requires-clause-passed
see-requires-clause-passed g c = λ no. absurd (subst IsFinding c.requires.wish no)

pub see-requires-else-first-clause-passed : goal.see-requires-else-first-clause-passed
see-requires-else-first-clause-passed g c = λ no. absurd (subst IsFinding c.requires.wish no)
