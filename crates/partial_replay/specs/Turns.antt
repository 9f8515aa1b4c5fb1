-- The turns of a plan, and whose events they make.
use Rattle.std.specs.Prelude.{ℕ, ◌≡◌, ◌+◌, ◌-◌, ◌==◌, ⊤, ◌++◌, min, List, [], ◌∷◌, length, map, take, drop, replicate, slice_get, sum_by, Option, Some, None, if◌then◌else◌}
use Rattle.std.specs.List.{range_with_len}
use Rattle.partial_model.specs.declared.call.Called.{Called}
use Rattle.partial_text.specs.PlanText.{PlanView}
use Rattle.partial_replay.specs.Trace.{Moment, last_behind}

-- so many turns of a port in a row
abbrev pub so_many : ℕ × ℕ → ℕ × Option ℕ
so_many e = (e.0, Some e.1)

-- turns of a port until it has no call left
abbrev pub to_its_end : ℕ → ℕ × Option ℕ
to_its_end q = (q, None)

-- the plan's turns, and after them the rest of each port in order, if it is asked for
abbrev pub turns_of : PlanView → List (ℕ × Option ℕ)
turns_of p = map so_many p.steps ++ (if p.rest then map to_its_end (range_with_len 0 (length p.ports)) else [])

-- how many steps are made in the turns of a port that has so many left
abbrev pub made_in : Option ℕ → ℕ → ℕ
made_in None left = left
made_in (Some k) left = min k left

-- how many steps port q has left after an entry
abbrev pub left_behind : ℕ × Option ℕ → (ℕ → ℕ) → ℕ → ℕ
left_behind e left q = if q == e.0 then left q - made_in e.1 (left q) else left q

-- whose events the turns make, when each port has that many steps to make: of each port's turns the first ones, as many as its steps
abbrev pub ports_in : List (ℕ × Option ℕ) → (ℕ → ℕ) → List ℕ
ports_in [] left = []
ports_in (e ∷ es) left = replicate (made_in e.1 (left e.0)) e.0 ++ ports_in es (left_behind e left)

-- how many turns of an entry make no step, when that many of them make one: a port reaches its end in a turn without one
abbrev pub idle_in : Option ℕ → ℕ → ℕ
idle_in None made = 1
idle_in (Some k) made = k - made

-- How long the history is at each turn of an entry, with n entries at the first one: the turns that make these
-- steps come first, and those that make none after them.
abbrev pub lengths_of : Option ℕ → ℕ → List Moment → List ℕ
lengths_of turns n own = map (λ x. x.before) own ++ replicate (idle_in turns (length own)) (last_behind n own)

-- How long the history is at each turn of port q: in these turns, with n entries at the first one, where each port
-- has so many steps to make and the turns make these.
abbrev pub lengths_in : ℕ → List (ℕ × Option ℕ) → (ℕ → ℕ) → ℕ → List Moment → List ℕ
lengths_in q [] left n xs = []
lengths_in q (e ∷ es) left n xs =
    let own = take (made_in e.1 (left e.0)) xs in
    (if e.0 == q then lengths_of e.1 n own else []) ++ lengths_in q es (left_behind e left) (last_behind n own)
    (drop (made_in e.1 (left e.0)) xs)

-- Each call begins in a turn of its port: the one after as many as the calls in front of it have steps. It begins
-- with the history that there is at that turn.
abbrev pub BeginInTurns : List ℕ → ℕ → List Called → Type 0
BeginInTurns lengths turn [] = ⊤
BeginInTurns lengths turn (c ∷ cs) = (slice_get lengths turn ≡ Some c.began) × BeginInTurns lengths (turn + c.steps) cs

-- how many turns port q has in the plan's entries
abbrev pub turns_by : ℕ → List (ℕ × ℕ) → ℕ
turns_by q steps = sum_by (λ e. if e.0 == q then e.1 else 0) steps
