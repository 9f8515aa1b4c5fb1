use Rattle.std.proofs.Common.{rules, tests}
use Rattle.partial_long_lived.proofs.Common.{◌≡◌, ◌+◌, ◌*◌, Bool, if◌then◌else◌, length, sym, ap, ◌∙◌, arith, first_free, Plan, stamp_after, public_stamp, not_below, port_at}
use Rattle.partial_long_lived.proofs.arena.public_stamp.Goals as goal

pub returns-else-at-own-clause-stamp : goal.returns-else-at-own-clause-stamp
returns-else-at-own-clause-stamp c =
    let h = c.requires.held in
    let epoch = h.known.epoch in
    let same = h.epoch in
    let sizes = ap (λ (e : Plan). first_free e.sizes) h.shape in
    let first = c.args.stand.now.shape.offsets.own in
    let above = c.if-at-own.false in
    let own = c.requires.own in
    let before = (port_at c.args.stand.now).port.before in
    let is : c.args.stand.now.epoch * 8388608 + c.args.at ≡ public_stamp (length before) c.args.at = omega (arith, epoch, same) in
    is ∙ sym (ap (λ (t : Bool). if t then stamp_after c.args.words.now.key.opening before c.args.component else public_stamp (length before) c.args.at)
    (not_below c.args.at (first_free c.args.words.now.key.sizes) (omega (arith, sizes, first, above, own))))

pub returns-then-at-own-clause-stamp : goal.returns-then-at-own-clause-stamp
returns-then-at-own-clause-stamp c = search (tests, rules)
