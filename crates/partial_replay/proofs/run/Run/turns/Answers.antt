use Rattle.partial_replay.proofs.{Common.{◌≡◌, ◌∙◌, ℕ, Bool, Some, refl, subst, arith, TurnMade, TurnsMade}, RunTurns.{no_steps, step_more, turns_all, turns_end}}
use Rattle.partial_replay.proofs.run.Run.turns.Goals as goal

pub loop-init : goal.loop-init
loop-init c = record { between = c.requires.between; same = record { sizes = refl; opening = refl }; ending = λ q e. e; steps = no_steps c.args.plans.now c.args.p c.args.self.now }

pub loop-preserved : goal.loop-preserved
loop-preserved c =
    let plans = c.args.plans.now in
    let first = c.args.self.now in
    let mid = c.loop.self in
    let old = c.loop.invariant in
    let turn = subst (λ (b : Bool). TurnMade plans c.args.p mid b c.turn.new.self) c.if-not-branch.false c.in_ok-turn.ensures.turn in
    let same = c.in_ok-turn.ensures.same in
    record {
      between = c.in_ok-turn.ensures.between;
      same = record { sizes = same.sizes ∙ old.same.sizes; opening = same.opening ∙ old.same.opening };
      ending = λ q e. turn.ending q (old.ending q e);
      steps = step_more plans c.args.p c.loop.counter first mid c.turn.new.self c.requires.between.replay.state old.between.replay.state old.same old.steps turn;
    }

pub returns-then-not-branch-clause-turns : goal.returns-then-not-branch-clause-turns
returns-then-not-branch-clause-turns c =
    let plans = c.args.plans.now in
    let old = c.loop.invariant in
    let turn = subst (λ (b : Bool). TurnMade plans c.args.p c.loop.self b c.turn.new.self) c.if-not-branch.true c.in_ok-turn.ensures.turn in
    turns_end plans c.args.p c.loop.counter (Some c.args.count) c.args.self.now c.loop.self c.turn.new.self c.requires.between.replay.state old.between.replay.state old.same old.steps old.ending turn
    (omega (arith, c.loop-test.true))

pub returns-after-loop-clause-turns : goal.returns-after-loop-clause-turns
returns-after-loop-clause-turns c =
    let old = c.loop.invariant in
    let all : c.loop.counter ≡ c.args.count = omega (arith, c.loop-test.false, c.loop.auto.counter-end) in
    subst (λ (k : ℕ). TurnsMade c.args.plans.now c.args.p (Some k) c.args.self.now c.loop.self) all
    (turns_all c.args.plans.now c.args.p c.loop.counter c.args.self.now c.loop.self old.steps old.ending)
