use Rattle.partial_pipeline.proofs.Stages.{works_look}
use Rattle.partial_pipeline.proofs.stage.Stage.look.Goals as goal

pub returns-in-Ok-clause-working : goal.returns-in-Ok-clause-working
returns-in-Ok-clause-working c =
    works_look c.args.memory.now c.args.self.now c.read.new.me c.args.before c.in-Ok.count c.in-Ok._stamp c.requires.working c.read.ensures.same c.requires.before c.in-Ok.ensures.answered
