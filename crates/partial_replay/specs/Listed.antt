-- The calls that a replay lists, port by port.
use Rattle.std.specs.Prelude.{ℕ, ◌≡◌, ◌<◌, ◌≤◌, ◌==◌, ⊤, [], ◌∷◌, Bool, true, false, List, length, map, take, filter, sum_by, IsSome}
use Rattle.std.specs.List.{AllByRecursion}
use Rattle.partial_model.specs.declared.call.Call.{Call}
use Rattle.partial_model.specs.declared.call.Called.{Called}
use Rattle.partial_words.specs.Layout.{Layout}
use Rattle.partial_machine.specs.Bounds.{most_steps}

-- the calls of port q, in order
abbrev pub calls_by : ℕ → List Called → List Called
calls_by q calls = filter (λ c. c.port == q) calls

-- how many steps these calls have made
abbrev pub steps_in : List Called → ℕ
steps_in calls = sum_by (λ c. c.steps) calls

-- how many steps the calls of the port with number q have made
abbrev pub steps_by : ℕ → List Called → ℕ
steps_by q calls = steps_in (calls_by q calls)

-- the calls have made no more steps than such calls may
abbrev pub AreFew : Layout → List Called → Type 0
AreFew z calls = AllByRecursion (λ c. c.steps ≤ most_steps z c.call) calls

-- they are the first of the plan's calls
abbrev pub AreFirstOf : List Call → List Called → Type 0
AreFirstOf plan calls = map (λ c. c.call) calls ≡ take (length calls) plan

-- each call of the plan is made, to its end
abbrev pub AreAllMade : List Call → List Called → Type 0
AreAllMade plan calls = (length calls ≡ length plan) × AllByRecursion (λ c. IsSome c.finish) calls

-- the last of them has made a step
abbrev pub EndInStep : List Called → Type 0
EndInStep [] = ⊤
EndInStep (c ∷ []) = 0 < c.steps
EndInStep (c ∷ d ∷ cs) = EndInStep (d ∷ cs)

-- With the rest all calls are made. Without it so many turns make as many steps, and then no call is begun
-- after the last step; or they make fewer, and then all calls are made.
abbrev pub HaveMade : Bool → ℕ → ℕ → List Call → List Called → Type 0
HaveMade true turns steps plan calls = AreAllMade plan calls
HaveMade false turns steps plan calls = (steps ≤ turns) × (steps ≡ turns → EndInStep calls) × (steps < turns → AreAllMade plan calls)
