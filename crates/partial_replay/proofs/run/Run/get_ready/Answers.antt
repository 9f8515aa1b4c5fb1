use Rattle.partial_replay.proofs.{Common.{◌≡◌, length, sym, ◌∙◌, subst, arith, slice_set, KeepsMade, BeginsIn, PortAt}, RunSteps.{port_here, part_at, begin_keeps, ports_length, none_of, some_of, match_bool, begun_done, idle_between, left_is, left_ready, served_here}, PortLaws.{get_set, some_is}, PortSteps.{ending_but, started_but, started_idle}, TurnLaws.done_set, PortTurns.turn_comes, RunTurns.begins_at}
use Rattle.partial_replay.proofs.run.Run.get_ready.Goals.{After-index_mut-port}
use Rattle.partial_replay.proofs.run.Run.get_ready.Goals as goal

-- the port whose turn it is, and its calls
here : (c : After-index_mut-port) → PortAt c.args.plans.now c.args.self.now.ports.items c.args.p c.as_slice-calls.result.now c.index_mut-port.result.now
here c = port_here c.args.p c.requires.between.replay.state c.requires.port c.index-plans-p.is c.as_slice-calls.ensures c.index_mut-port.ensures.value

-- how many ports there are
pub index_mut-port-requires : goal.index_mut-port-requires
index_mut-port-requires c = let many = ports_length c.requires.between.replay.state.fit in omega (arith, many, c.args.self.now.ports.ok.0, c.requires.port)

pub returns-then-is_some-clause-ready : goal.returns-then-is_some-clause-ready
returns-then-is_some-clause-ready c =
    let at = here (goal.at.returns-then-is_some-clause-ready c).After-index_mut-port in
    let port = c.index_mut-port.result.now in
    let way = some_of port.under_way (sym c.is_some.ensures ∙ c.if-is_some.true) in
    let ports = c.args.self.now.ports.items in
    record { port = port; way = way.0; is = get_set ports c.args.p port port at.is; under = way.1; started = started_but ports c.args.p port c.requires.between.started }

pub begin_next-requires-clause-idle : goal.begin_next-requires-clause-idle
begin_next-requires-clause-idle c =
    let at = here (goal.at.begin_next-requires-clause-idle c).After-index_mut-port in
    idle_between (part_at c.requires.between.replay.state at).fits (none_of c.index_mut-port.result.now.under_way (sym c.is_some.ensures ∙ c.if-is_some.false))

pub begin_next-requires-clause-few : goal.begin_next-requires-clause-few
begin_next-requires-clause-few c =
    let at = here (goal.at.begin_next-requires-clause-few c).After-index_mut-port in
    (part_at c.requires.between.replay.state at).fits.few

pub begin_next-requires-clause-served : goal.begin_next-requires-clause-served
begin_next-requires-clause-served c =
    let at = here (goal.at.begin_next-requires-clause-served c).After-index_mut-port in
    served_here c.requires.between.replay.state c.requires.between.replay.served at

pub returns-then-is_some-clause-begun : goal.returns-then-is_some-clause-begun
returns-then-is_some-clause-begun c =
    let at = here (goal.at.returns-then-is_some-clause-begun c).After-index_mut-port in
    let seen = length c.args.self.now.memory.history.items in
    begins_at seen c.index_mut-port.result.now at (λ lengths w. turn_comes c.as_slice-calls.result.now lengths seen c.index_mut-port.result.now w)

pub returns-clause-begun : goal.returns-clause-begun
returns-clause-begun c =
    let at = here (goal.at.returns-clause-begun c).After-index_mut-port in
    let seen : c.len-seen.result ≡ length c.args.self.now.memory.history.items = omega (arith, c.len-seen.ensures, c.args.self.now.memory.history.ok.0) in
    subst (λ n. BeginsIn c.args.plans.now c.args.p n c.args.self.now.ports.items (slice_set c.args.self.now.ports.items c.args.p c.begin_next.new.self)) seen
    (begins_at c.len-seen.result c.begin_next.new.self at c.in_ok-begun.ensures.turn)

pub returns-clause-replay : goal.returns-clause-replay
returns-clause-replay c =
    let at = here (goal.at.returns-clause-replay c).After-index_mut-port in
    let old = c.requires.between.replay in
    let seen : c.len-seen.result ≡ length c.args.self.now.memory.history.items = omega (arith, c.len-seen.ensures, c.args.self.now.memory.history.ok.0) in
    record {
      state = begin_keeps c.begin_next.new.self old.state at (λ o l q x n f. c.in_ok-begun.ensures.fits o l q x (n ∙ sym seen) f)
          (subst (λ n. KeepsMade c.as_slice-calls.result.now n c.index_mut-port.result.now c.begin_next.new.self) seen c.in_ok-begun.ensures.made);
      room = old.room;
      served = old.served;
    }

pub returns-clause-ready : goal.returns-clause-ready
returns-clause-ready c =
    let at = here (goal.at.returns-clause-ready c).After-index_mut-port in
    let ports = c.args.self.now.ports.items in
    let port = c.index_mut-port.result.now in
    let new = c.begin_next.new.self in
    let here = get_set ports c.args.p port new at.is in
    match_bool c.in_ok-begun.begun _ _ _ _ c.in_ok-begun.ensures.begun
    (λ b. let way = some_is new.under_way b.0 in record { port = new; way = way.0; is = here; under = way.1; started = started_but ports c.args.p new c.requires.between.started })
    (λ b. (
      record { calls = c.as_slice-calls.result.now; port = new; at = record { plan = at.plan; is = here }; idle = b.0; all = b.1 },
      started_idle new at c.requires.between.started b.0,
    ))

pub returns-clause-done : goal.returns-clause-done
returns-clause-done c =
    let at = here (goal.at.returns-clause-done c).After-index_mut-port in
    done_set c.begin_next.new.self at (λ none all. begun_done c.in_ok-begun.begun c.as_slice-calls.result.now c.index_mut-port.result.now c.begin_next.new.self all c.in_ok-begun.ensures.more
    c.in_ok-begun.ensures.begun)

pub returns-clause-left : goal.returns-clause-left
returns-clause-left c =
    let at = here (goal.at.returns-clause-left c).After-index_mut-port in
    let plans = c.args.plans.now in
    let ports = c.args.self.now.ports.items in
    let port = c.index_mut-port.result.now in
    let new = c.begin_next.new.self in
    let run = c.requires.between.replay in
    let part = part_at run.state at in
    let seen : c.len-seen.result ≡ length c.args.self.now.memory.history.items = omega (arith, c.len-seen.ensures, c.args.self.now.memory.history.ok.0) in
    let fits = c.in_ok-begun.ensures.fits c.args.self.now.opening c.args.self.now.memory.history.items c.args.p part.x (sym seen) part.fits in
    let none = none_of port.under_way (sym c.is_some.ensures ∙ c.if-is_some.false) in
    let less = left_ready port (served_here run.state run.served at) c.in_ok-begun.ensures.sizes fits none c.in_ok-begun.ensures.more in
    let now = left_is plans (slice_set ports c.args.p new) c.args.p (record { plan = at.plan; is = get_set ports c.args.p port new at.is }) in
    let old = left_is plans ports c.args.p at in
    omega (arith, less, now, old)

pub returns-then-is_some-clause-ending : goal.returns-then-is_some-clause-ending
returns-then-is_some-clause-ending c q other ends = ending_but c.args.self.now.ports.items c.args.p c.index_mut-port.result.now q other ends

pub returns-clause-ending : goal.returns-clause-ending
returns-clause-ending c q other ends = ending_but c.args.self.now.ports.items c.args.p c.begin_next.new.self q other ends
