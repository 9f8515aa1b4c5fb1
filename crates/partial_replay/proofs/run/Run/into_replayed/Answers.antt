use Rattle.partial_replay.proofs.{Common.{refl}, Opens.run_listed}
use Rattle.partial_replay.proofs.run.Run.into_replayed.Goals as goal

pub calls_of-requires : goal.calls_of-requires
calls_of-requires c = run_listed c.args.self.memory.sizes.m c.requires.state.fit c.requires.served

pub returns : goal.returns
returns c =
    record {
      opening = refl;
      history = refl;
      calls = c.in_ok-calls_of.ensures;
      words = refl;
      trace = refl;
      steps = c.len-steps.ensures;
    }
