-- How steps are counted beside the views of seats.
use Rattle.std.specs.Prelude.{ℕ, ◌≡◌, ◌+◌, map}
use Rattle.atomic_table.specs.Table.{Me, State}
use Rattle.partial_table.specs.declared.counted.Counted.{Counted}

-- a view for which so many steps were counted
abbrev pub counted : {V : Type 0} → V → ℕ → Counted V
counted v n = record { view = v; steps = n }

-- the view without its count
abbrev pub plain_view : {V : Type 0} → Counted V → V
plain_view c = c.view

-- the state of a table without what is counted
abbrev pub uncounted : {S V : Type 0} → State S (Counted V) → State S V
uncounted s = record { words = s.words; homes = s.homes; views = map plain_view s.views }

-- what a seat knows and has without what is counted
abbrev pub uncounted_me : {S V : Type 0} → Me S (Counted V) → Me S V
uncounted_me me = (me.0.view, me.1)

-- a step shows the seat this, and is counted
abbrev pub counts : {S V : Type 0} → (Me S V → ℕ → Me S V → Type 0) → Me S (Counted V) → ℕ → Me S (Counted V) → Type 0
counts then me found me' = then (uncounted_me me) found (uncounted_me me') × (me'.0.steps ≡ me.0.steps + 1)
