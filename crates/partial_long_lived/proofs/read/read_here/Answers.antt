use Rattle.partial_long_lived.proofs.{Common.arith, Coming.first_read}
use Rattle.partial_long_lived.proofs.read.read_here.Goals as goal

pub returns-then-found-own-clause-read : goal.returns-then-found-own-clause-read
returns-then-found-own-clause-read c =
    let first = c.see-found.ensures in
    let record_is = c.load_record.ensures in
    let low = c.if-found-own.true in
    let shape = c.args.stand.now.shape in
    let own = shape.offsets.own in
    let m = shape.sized.layout.components.1 in
    let slots = shape.sized.layout.slots.1 in
    let lists = shape.sized.layout.lists in
    first_read _ _ c.args.stand.now _ _ c.requires.held c.requires.idle first.held first.kept _ _ _ _ first.sees (omega (arith, low, own, m, slots, lists)) record_is.kept record_is.same record_is.value record_is.stamp

pub returns-clause-read : goal.returns-clause-read
returns-clause-read c =
    let first = c.see-found.ensures in
    let record_is = c.load_record-2.ensures in
    let low = c.if-found-ge-SEAL.false in
    first_read _ _ c.args.stand.now _ _ c.requires.held c.requires.idle first.held first.kept _ _ _ _ first.sees (omega (arith, low)) record_is.kept record_is.same record_is.value record_is.stamp

pub returns-then-found-ge-SEAL-clause-sealed : goal.returns-then-found-ge-SEAL-clause-sealed
returns-then-found-ge-SEAL-clause-sealed c = let high = c.if-found-ge-SEAL.true in record { found = c.see-found.result; sees = c.see-found.ensures.sees; sealed = omega (arith, high) }
