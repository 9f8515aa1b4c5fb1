use Rattle.partial_workers.proofs.{Common.{rules, List, map, Bor, arith, Call}, Reported.{closed_lawfully, come_many, last_own, opened_new, ran}}
use Rattle.std.proofs.lemmas.Bool.{false≢true}
use Rattle.partial_workers.proofs.workers.run_on.Goals as goal

pub hire-requires : goal.hire-requires
hire-requires g c =
    opened_new c.args.memory (map (λ (b : Bor (List Call)). b.now) c.args.calls.now) c.args.ports.items c.requires.opened c.requires.makable

pub unreachable-requires : goal.unreachable-requires
unreachable-requires g c =
    let many = come_many c.args.memory (map (λ (b : Bor (List Call)). b.now) c.args.calls.now) c.in_ok-ports.field-0 c.in_ok-ports.ensures.1 in
    let some = c.requires.opened.some_port in
    false≢true (c.in_default.ensures.variant.1 (omega (arith, many, some, c.in_ok-ports.field-0.ports.ok.0)))

pub close-requires-clause-port : goal.close-requires-clause-port
close-requires-clause-port g c =
    (last_own c.args.memory (map (λ (b : Bor (List Call)). b.now) c.args.calls.now) c.in_ok-ports.field-0 c.pop.new.self.items c.in-Some.last
    c.in_ok-ports.ensures.1 (search rules)).1

pub close-requires-clause-rest : goal.close-requires-clause-rest
close-requires-clause-rest g c =
    (last_own c.args.memory (map (λ (b : Bor (List Call)). b.now) c.args.calls.now) c.in_ok-ports.field-0 c.pop.new.self.items c.in-Some.last
    c.in_ok-ports.ensures.1 (search rules)).0

pub returns-clause-right : goal.returns-clause-right
returns-clause-right g c =
    ran c.args.memory (map (λ (b : Bor (List Call)). b.now) c.args.calls.now) c.args.ports.items c.in_ok-ports.field-0 c.pop.new.self.items c.in-Some.last c.in_ok-closed.closed
    c.requires.opened c.in_ok-ports.ensures.1 (search rules) c.in_ok-closed.ensures.closed

pub returns-clause-lawful : goal.returns-clause-lawful
returns-clause-lawful g c =
    closed_lawfully c.args.memory (map (λ (b : Bor (List Call)). b.now) c.args.calls.now) c.in_ok-ports.field-0 c.pop.new.self.items c.in-Some.last c.in_ok-closed.closed
    c.in_ok-ports.ensures.1 (search rules) c.in_ok-closed.ensures.lawful
