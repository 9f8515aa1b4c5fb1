use Rattle.partial_replay.proofs.{Common.{Bool, subst, AreStarted, IsTurnReady, IsPortDone, MatchBool}, RunTurns.{turn_done, turn_stepped}}
use Rattle.partial_replay.proofs.run.Run.turn.Goals as goal

pub returns-then-not-branch-clause-turn : goal.returns-then-not-branch-clause-turn
returns-then-not-branch-clause-turn c =
    let plans = c.args.plans.now in
    let mid = c.get_ready.new.self in
    let before = c.in_ok-get_ready.ensures in
    let done = subst (λ (b : Bool). MatchBool b (IsTurnReady c.args.p mid) (IsPortDone plans mid.ports.items c.args.p × AreStarted mid.ports.items)) c.if-not-branch.true before.ready in
    turn_done plans c.args.p c.args.self.now mid before.same before.begun before.done done.0 before.ending

pub returns-clause-turn : goal.returns-clause-turn
returns-clause-turn c =
    let plans = c.args.plans.now in
    let mid = c.get_ready.new.self in
    let ready : IsTurnReady c.args.p mid = subst (λ (b : Bool). MatchBool b (IsTurnReady c.args.p mid) (IsPortDone plans mid.ports.items c.args.p × AreStarted mid.ports.items)) c.if-not-branch.false
    c.in_ok-get_ready.ensures.ready in
    let before = c.in_ok-get_ready.ensures in
    let behind = c.in_ok-make_step.ensures in
    turn_stepped plans c.args.p c.args.self.now mid c.make_step.new.self before.same before.begun before.done ready behind.trace behind.begun behind.done before.ending behind.ending
