use Rattle.std.proofs.Common.{rules, tests}
use Rattle.partial_active.proofs.{Walk.next_room, Answered.walk_noted}
use Rattle.partial_active.proofs.get_set.GetSet.after_slot.Goals as goal

pub note-requires-clause-room : goal.note-requires-clause-room
note-requires-clause-room c = next_room _ _ c.requires.at_slot.walking c.requires.sizes

pub come_to-requires-in-1-clause-walking : goal.come_to-requires-in-1-clause-walking
come_to-requires-in-1-clause-walking c =
    let at_slot = rw (← c.self.view_is) at c.requires.at_slot in
    rw c.note.ensures (walk_noted _ c.args.slot c.self.invariant.0 at_slot)

pub returns-in-1 : goal.returns-in-1
returns-in-1 c = search (tests, rules)
