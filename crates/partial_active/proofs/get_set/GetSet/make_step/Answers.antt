use Rattle.partial_active.proofs.Making.{made_on}
use Rattle.partial_active.proofs.get_set.GetSet.make_step.Goals as goal

pub returns-clause-at : goal.returns-clause-at
returns-clause-at g c =
    let told = c.in_ok-answer.ensures in
    made_on g.S.Steps.goes g.S.Steps.set c.args.steps.now c.make.new.self (c.args.self.now, c.args.found.now) (c.answer.new.self, c.answer.new.found)
    c.in_ok-answer.answer c.requires.at told.goes told.possible told.set c.answer.ensures.state c.answer.ensures.together
