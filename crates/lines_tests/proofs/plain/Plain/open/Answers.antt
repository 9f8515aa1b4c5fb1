use Rattle.lines_tests.proofs.Turning.{opens}
use Rattle.lines_tests.proofs.plain.Plain.open.Goals as goal

pub others-requires-clause-going : goal.others-requires-clause-going
others-requires-clause-going c = opens c.args.sizes c.args.initial.now _ _ _ _ c.requires.sizes c.requires.values c.in-Ok.ensures.words c.requires.begins c.in-Ok.ensures.machines.0 c.in-Ok.ensures.machines.1
