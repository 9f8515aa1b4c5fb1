use Rattle.partial_workers.proofs.{Common.{List, map, Bor, arith, length-map, Call, IsWorkStarted}, Pairs.each_length}
use Rattle.partial_workers.proofs.workers.fn.run_on.scope.Goals as goal

pub join-requires : goal.join-requires
join-requires g c =
    let given = c.captures.calls.now in
    let same = length-map given (λ (b : Bor (List Call)). b.now) in
    let long = each_length (IsWorkStarted c.captures.lent.now) 0 (map (λ (b : Bor (List Call)). b.now) given) c.in_ok-started.started.items c.in_ok-started.ensures in
    record { empty = c.requires.empty; room = (omega (arith, long, same, c.requires.ports), omega (arith, long, same, c.requires.answers)) }
