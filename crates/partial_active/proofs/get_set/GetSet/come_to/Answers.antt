use Rattle.partial_active.proofs.{Common.{◌≡◌, true, sym, ◌∙◌, arith, begins_at}, Extended.length_normal, Walk.{next_room, walking_on}}
use Rattle.partial_active.proofs.get_set.GetSet.come_to.Goals as goal

pub note-requires-clause-room : goal.note-requires-clause-room
note-requires-clause-room c = next_room _ _ c.requires.walking c.requires.sizes

pub overflow_add-self : goal.overflow_add-self
overflow_add-self c =
    let walking = rw (← c.self.view_is) at c.requires.walking in
    omega (arith, c.self.invariant.0.slots, walking.passed, length_normal c.args.found.now.read c.self.inside.sizes.slots walking.list.normal walking.list.within)

pub at_slot-requires : goal.at_slot-requires
at_slot-requires c =
    let walking = rw (← c.self.view_is) at c.requires.walking in
    let begins : begins_at c.args.found.now.read c.self.inside.passed c.args.slot ≡ true = sym c.begins_at.ensures ∙ c.if-begins_at.true in
    rw (c.note.ensures, c.interval-lo.ensures.interval) (walking_on _ c.args.slot walking begins)
