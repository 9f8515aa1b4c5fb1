use Rattle.partial_long_lived.proofs.{Common.{◌≡◌, ◌+◌, ap, arith, Plan, About, base, bare, shape_plan, slot_counter}, Asked.{clear_there, find_clear_asked}, Working.find_clear_works}
use Rattle.partial_long_lived.proofs.fill.find_clear.Goals as goal

pub load-claimed-requires : goal.load-claimed-requires
load-claimed-requires c =
    let h = c.requires.held in
    let first = c.requires.first in
    let shape = ap (λ (e : Plan). base e c.args.arena) h.shape in
    let counter = c.slot_counter.ensures in
    let widened = c.from.ensures in
    let at : c.args.first + c.from.result ≡ base (shape_plan c.args.stand.now.shape bare) c.args.arena + slot_counter c.args.stand.now.shape.sizes =
    omega (arith, first, shape, counter, widened) in (
      h.fits,
      clear_there _ _ _ h c.args.arena _ c.requires.inside at,
      find_clear_asked _ _ _ h c.args.arena c.requires.works c.requires.sealed _ _ _ at,
    )

pub returns-then-claimed-from-clause-works : goal.returns-then-claimed-from-clause-works
returns-then-claimed-from-clause-works c =
    let slots = c.slots-slots.ensures.value in
    let same = ap (λ (e : Plan). e.sizes.slots) c.requires.held.shape in
    find_clear_works c.args.stand.now _ c.args.arena _ 0 c.load-claimed.result c.requires.works c.args.words.now.key.sizes (ap (λ (a : About). a.sizes) c.requires.held.own) _
    (omega (arith, slots, same)) c.load-claimed.ensures.2.2

pub returns-else-claimed-from-clause-works : goal.returns-else-claimed-from-clause-works
returns-else-claimed-from-clause-works c =
    let slots = c.slots-slots.ensures.value in
    let same = ap (λ (e : Plan). e.sizes.slots) c.requires.held.shape in
    let widened = c.from-2.ensures in
    let all = c.if-claimed-from.false in
    find_clear_works c.args.stand.now _ c.args.arena _ 0 c.load-claimed.result c.requires.works c.args.words.now.key.sizes (ap (λ (a : About). a.sizes) c.requires.held.own) _
    (omega (arith, slots, same, widened, all)) c.load-claimed.ensures.2.2
