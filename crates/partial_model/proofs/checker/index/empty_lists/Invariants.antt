use Rattle.partial_model.proofs.Common.{ℕ, ◌≡◌, [], length, list_at}
use Rattle.partial_model.proofs.checker.index.empty_lists.Given as goal

-- each list so far is empty
abbrev pub invariant-loop : goal.invariant-loop
invariant-loop l = record { len : length l.lists.items ≡ l.counter; empty : (j : ℕ) → list_at l.lists.items j ≡ [] }
