use Rattle.partial_active.proofs.{Common.{◌≤◌, vec_len, vec_capacity}, Marks.IsEmptied}
use Rattle.partial_active.proofs.index_set.IndexSet.clear.Given as goal

-- what is still marked is still in the list, and the room stays
abbrev pub invariant-loop-index : goal.invariant-loop-index
invariant-loop-index l = IsEmptied l.self-inside.items.items l.self-inside.marks.items l.fn.self.limit × (l.fn.self.limit ≤ vec_capacity l.self-inside.items)

abbrev pub decreases-loop-index : goal.decreases-loop-index
decreases-loop-index l = vec_len l.self-inside.items
