use Rattle.partial_replay.proofs.{Common.{◌∙◌, ◌+◌, Bool, None, refl, subst, TurnMade}, RunTurns.{no_steps, step_more, turns_end}}
use Rattle.partial_replay.proofs.run.Run.to_the_end.Goals as goal

pub loop-init : goal.loop-init
loop-init c = record { between = c.requires.between; same = record { sizes = refl; opening = refl }; ending = λ q e. e; steps = (0, no_steps c.args.plans.now c.args.p c.args.self.now) }

pub loop-preserved : goal.loop-preserved
loop-preserved c =
    let plans = c.args.plans.now in
    let old = c.loop.invariant in
    let turn = subst (λ (b : Bool). TurnMade plans c.args.p c.loop.self b c.turn.new.self) c.if-branch.true c.in_ok-turn.ensures.turn in
    let same = c.in_ok-turn.ensures.same in
    record {
      between = c.in_ok-turn.ensures.between;
      same = record { sizes = same.sizes ∙ old.same.sizes; opening = same.opening ∙ old.same.opening };
      ending = λ q e. turn.ending q (old.ending q e);
      steps = (old.steps.0 + 1, step_more plans c.args.p (old.steps.0) c.args.self.now c.loop.self c.turn.new.self c.requires.between.replay.state old.between.replay.state old.same old.steps.1 turn);
    }

pub returns-clause-turns : goal.returns-clause-turns
returns-clause-turns c =
    let plans = c.args.plans.now in
    let old = c.loop.invariant in
    let turn = subst (λ (b : Bool). TurnMade plans c.args.p c.loop.self b c.turn.new.self) c.if-branch.false c.in_ok-turn.ensures.turn in
    turns_end plans c.args.p (old.steps.0) None c.args.self.now c.loop.self c.turn.new.self c.requires.between.replay.state old.between.replay.state old.same old.steps.1 old.ending turn tt
