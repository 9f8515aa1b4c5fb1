use Rattle.partial_pipeline.proofs.{Common.{◌≡◌, ◌∙◌, ℕ, List, length, subst, IsOf, HasMetMonitor}, Stages.from_all, Reports.{LastSees, ended, last_number, last_sees, orderly}}
use Rattle.partial_pipeline.proofs.run.close.Goals as goal

pub close-requires-clause-rest : goal.close-requires-clause-rest
close-requires-clause-rest c =
    let m = c.args.memory in
    let seen = length c.args.joined.monitor.port.seen in
    from_all (HasMetMonitor m seen) (IsOf m) (λ k p w. w.own) 0 c.args.joined.ports.items c.requires.met.each

pub returns : goal.returns
returns c =
    let m = c.args.memory in
    let x = c.args.joined.monitor in
    let q = c.scan_into-last.new.port in
    let last = c.scan_into-last.result in
    let watching = c.requires.met.watching in
    let met = c.requires.met in
    let ports = c.args.joined.ports.items in
    let ends = c.args.joined.ends in
    let same : c.deref.result.now ≡ x.stages.items = c.deref.ensures.value in
    let sees : LastSees x.port x.stages.items q last = subst (λ (l : List ℕ). LastSees x.port l q last) same
    (last_sees x.port q c.deref.result.now last c.scan_into-last.ensures.some c.scan_into-last.ensures.none) in
    let number = last_number x.port q x.stages.items last sees ∙ watching.number in
    let own = c.scan_into-last.ensures.own in
    let closes = c.in-Ok.ensures.closed in
    record {
      orderly = orderly m x.port q ports x.stages.items x.scans last c.in-Ok.counts ends c.requires.opens met.each met.count own number watching.each watching.watched sees closes;
      ended = ended m x.port q ports x.stages.items x.scans last c.in-Ok.counts ends c.args.items c.requires.opens met.each met.count own number watching.each watching.watched sees closes met.ended;
    }
