use Rattle.partial_active.proofs.{Common.arith, Extended.length_normal}
use Rattle.partial_active.proofs.get_set.GetSet.after_walk.Goals as goal

pub overflow_cast-self : goal.overflow_cast-self
overflow_cast-self c =
    let within = rw (← c.self.view_is) at c.requires in
    omega (arith, c.self.invariant.0.slots, c.next_len.ensures.count, length_normal c.args.found.now.next c.self.inside.sizes.slots c.next_len.ensures.normal within)

pub list_size-requires : goal.list_size-requires
list_size-requires c =
    let within = rw (← c.self.view_is) at c.requires in
    omega (arith, c.self.invariant.0.slots, c.next_len.ensures.count, length_normal c.args.found.now.next c.self.inside.sizes.slots c.next_len.ensures.normal within)
