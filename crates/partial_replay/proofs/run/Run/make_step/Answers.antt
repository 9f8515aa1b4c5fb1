use Rattle.partial_replay.proofs.{Common.{◌∙◌, slice_set, sym, ap, subst, arith, Layout, ArePlans, PortAt}, RunSteps.{port_here, part_at, may_step, ready_way, ready_below, step_keeps, left_is, left_falls, components_here, on_ok_both}, RunLaws.sizes_y, PortLaws.get_set, PortSteps.{ending_with, started_set, step_ending, step_started}, TurnLaws.{done_set, by_step, stepped_done}, RunTurns.steps_at}
use Rattle.std.proofs.lemmas.Result.{on_ok_weaker}
use Rattle.partial_replay.proofs.run.Run.make_step.Goals.{After-index_mut-port}
use Rattle.partial_replay.proofs.run.Run.make_step.Goals as goal

-- the port whose turn it is, and its calls
here : (c : After-index_mut-port) → PortAt c.args.plans.now c.args.self.now.ports.items c.args.p c.as_slice-calls.result.now c.index_mut-port.result.now
here c = port_here c.args.p c.requires.replay.state c.requires.port c.index-plans-p.is c.as_slice-calls.ensures c.index_mut-port.ensures.value

pub make_step-requires-clause-may : goal.make_step-requires-clause-may
make_step-requires-clause-may c =
    let at = here (goal.at.make_step-requires-clause-may c).After-index_mut-port in
    may_step c.requires.replay.state c.requires.replay.served at (ready_way at c.requires.ready)

-- the machine has the sizes of the memory
pub make_step-requires-clause-sizes : goal.make_step-requires-clause-sizes
make_step-requires-clause-sizes c =
    let at = here (goal.at.make_step-requires-clause-sizes c).After-index_mut-port in
    components_here c.requires.replay.state at

pub make_step-requires-clause-room : goal.make_step-requires-clause-room
make_step-requires-clause-room c =
    let at = here (goal.at.make_step-requires-clause-room c).After-index_mut-port in
    c.requires.replay.room ∙ components_here c.requires.replay.state at

pub returns-clause-between : goal.returns-clause-between
returns-clause-between c =
    let at = here (goal.at.returns-clause-between c).After-index_mut-port in
    let old = c.requires.replay in
    on_ok_both c.make_step.result (λ m same. record {
      replay = record {
        state = step_keeps same.0 old.state at c.requires.ready.started m;
        room = same.1 ∙ old.room ∙ ap (λ (z : Layout). z.m) (sym same.0);
        served = subst (λ (z : Layout). ArePlans z.m c.args.plans.now) (sym same.0) old.served;
      };
      started = started_set c.make_step.new.self at c.requires.ready.started (step_started m);
    }) c.make_step.ensures.made c.make_step.ensures.same

pub returns-clause-begun : goal.returns-clause-begun
returns-clause-begun c =
    let at = here (goal.at.returns-clause-begun c).After-index_mut-port in
    let more = ready_below c.requires.replay.state at c.requires.ready in
    on_ok_weaker c.make_step.result (λ m. steps_at c.make_step.new.self at more m) c.make_step.ensures.made

pub returns-clause-progress : goal.returns-clause-progress
returns-clause-progress c =
    let at = here (goal.at.returns-clause-progress c).After-index_mut-port in
    let more = ready_below c.requires.replay.state at c.requires.ready in
    let ports = c.args.self.now.ports.items in
    let new = c.make_step.new.self in
    on_ok_weaker c.make_step.result (λ m.
    let less = left_falls more m (sizes_y (part_at c.requires.replay.state at) m.was m.step m.due) in
    let now = left_is c.args.plans.now (slice_set ports c.args.p new) c.args.p (record { plan = at.plan; is = get_set ports c.args.p c.index_mut-port.result.now new at.is }) in
    let old = left_is c.args.plans.now ports c.args.p at in
    omega (arith, less, now, old)) c.make_step.ensures.made

pub returns-clause-trace : goal.returns-clause-trace
returns-clause-trace c =
    let at = here (goal.at.returns-clause-trace c).After-index_mut-port in
    on_ok_weaker c.make_step.result (λ m. by_step (part_at c.requires.replay.state at).fits.number m) c.make_step.ensures.made

pub returns-clause-done : goal.returns-clause-done
returns-clause-done c =
    let at = here (goal.at.returns-clause-done c).After-index_mut-port in
    on_ok_weaker c.make_step.result (λ m. done_set c.make_step.new.self at (λ none all. absurd (stepped_done none m))) c.make_step.ensures.made

pub returns-clause-ending : goal.returns-clause-ending
returns-clause-ending c =
    let at = here (goal.at.returns-clause-ending c).After-index_mut-port in
    on_ok_weaker c.make_step.result (λ m. ending_with c.make_step.new.self at (step_ending m)) c.make_step.ensures.made
