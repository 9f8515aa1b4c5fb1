use Rattle.partial_words.proofs.Common.{◌≡◌, ◌++◌, ◌-◌, ◌≤◌, length}
use Rattle.std.specs.Prelude.{replicate}
use Rattle.std.specs.Vec.{vec_capacity}
use Rattle.partial_words.proofs.plain.store_up_to.Given as goal

-- how many words are missing
abbrev pub decreases-loop-stored : goal.decreases-loop-stored
decreases-loop-stored l = l.count - length l.stored.items

-- zeros have been stored after the words
abbrev pub invariant-loop-stored : goal.invariant-loop-stored
invariant-loop-stored l = record {
  items : l.stored.items ≡ l.initial.stored.items ++ replicate (length l.stored.items - length l.initial.stored.items) 0;
  few : length l.stored.items - length l.initial.stored.items ≤ l.count - length l.initial.stored.items;
  capacity : vec_capacity l.stored ≡ vec_capacity l.initial.stored;
}
