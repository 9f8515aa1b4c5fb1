use Rattle.partial_model.proofs.Common.{◌≡◌, take, last_entry}
use Rattle.partial_model.proofs.history.last_entry.Given as goal

-- no entry from the index on is for the component
abbrev pub invariant-loop-index : goal.invariant-loop-index
invariant-loop-index l = last_entry l.component l.history ≡ last_entry l.component (take l.index l.history)
