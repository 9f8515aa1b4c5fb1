use Rattle.partial_pipeline.proofs.{Common.{rules, ◌≡◌, ◌<◌, ◌≤◌, [], arith, sym, subst, length, vec_capacity, AreFrom, IsNewStage}, Watching.opened_stages}
use Rattle.partial_pipeline.proofs.run.run_stages.Goals as goal

pub overflow_cast-stages : goal.overflow_cast-stages
overflow_cast-stages g c =
    let all = opened_stages c.args.memory.now c.args.ports.items c.pop.new.self.items c.in-Some.port c.requires c.in-Some.ensures.items in
    omega (arith, all.1, c.requires.opens.few, c.len-stages.ensures)

pub new-requires-clause-new : goal.new-requires-clause-new
new-requires-clause-new g c =
    let all = opened_stages c.args.memory.now c.args.ports.items c.pop.new.self.items c.in-Some.port c.requires c.in-Some.ensures.items in
    let count : c.len-stages.result ≡ c.args.memory.now.about.sizes.m = omega (arith, c.len-stages.ensures, c.pop.new.self.ok.0, all.1) in
    subst (λ i. IsNewStage c.args.memory.now i c.in-Some.port) (sym count) all.2

pub new-requires-clause-stages : goal.new-requires-clause-stages
new-requires-clause-stages g c =
    let all = opened_stages c.args.memory.now c.args.ports.items c.pop.new.self.items c.in-Some.port c.requires c.in-Some.ensures.items in
    omega (arith, c.len-stages.ensures, c.pop.new.self.ok.0, all.1)

pub scoped-requires : goal.scoped-requires
scoped-requires g c =
    let m = c.args.memory.now in
    let ports = c.pop.new.self.items in
    let all = opened_stages m c.args.ports.items ports c.in-Some.port c.requires c.in-Some.ensures.items in
    let count : c.len-stages.result ≡ length ports = omega (arith, c.len-stages.ensures, c.pop.new.self.ok.0) in
    let new : AreFrom (IsNewStage m) 0 ports = all.0 in
    let some : (0 < m.about.sizes.m) × (length ports ≡ m.about.sizes.m) = (c.requires.opens.some, all.1) in
    let room = c.in_ok-ended.field-0 in
    let fits = c.in_ok-ended.ensures in
    let started : (room.started.items ≡ []) × (length ports ≤ vec_capacity room.started) = (fits.started.0, omega (arith, count, fits.started.1)) in
    let met : (room.ports.items ≡ []) × (length ports ≤ vec_capacity room.ports) = (fits.ports.0, omega (arith, count, fits.ports.1)) in
    let ends : (room.ends.items ≡ []) × (length ports ≤ vec_capacity room.ends) = (fits.ends.0, omega (arith, count, fits.ends.1)) in
    record { at = λ a. (new, (some, (started, (c.in_ok-monitor.ensures, (met, (ends, search rules)))))) }
