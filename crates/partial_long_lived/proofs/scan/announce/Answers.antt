use Rattle.std.proofs.Common.{rules, tests}
use Rattle.partial_long_lived.proofs.{Common.{CoreState, ap, arith, machine_at, scan_asked, ◌≡◌, ◌∙◌}, Scans.{announcement_fits, first_store}}
use Rattle.partial_machine.specs.Machine.{begin_joining}
use Rattle.partial_long_lived.proofs.scan.announce.Goals as goal

pub announce-requires-clause-asked : goal.announce-requires-clause-asked
announce-requires-clause-asked g c =
    let r = c.requires in
    ap (λ (s : CoreState). s.asked) (first_store _ _ _ r.going c.args.core.now c.args.which.now _ r.machine)

pub announce-requires-clause-stage : goal.announce-requires-clause-stage
announce-requires-clause-stage g c =
    let r = c.requires in
    ap (λ (s : CoreState). s.stage) (first_store _ _ _ r.going c.args.core.now c.args.which.now _ r.machine)

pub announce-requires-clause-fits : goal.announce-requires-clause-fits
announce-requires-clause-fits g c =
    let r = c.requires in
    let fits = announcement_fits _ _ _ r.going c.args.core.now c.args.which.now _ r.machine r.sizes in
    let size = c.announcement_size-size.ensures in
    omega (arith, fits, size)

pub returns-clause-machine : goal.returns-clause-machine
returns-clause-machine g c =
    let r = c.requires in
    let led = rw c.in-Ok.is at c.announce.ensures.machine in
    let joining : machine_at c.announce.new.lines.stand.now ≡ begin_joining (scan_asked c.args.core.now c.args.which.now) c.args.at =
    led ∙ ap (λ (s : CoreState). begin_joining s c.args.at) (first_store _ _ _ r.going c.args.core.now c.args.which.now _ r.machine) in
    search (tests, rules)
