-- What a plan is, and its one text.
use Rattle.std.specs.Prelude.{ℕ, ◌≡◌, ◌<◌, ◌≤◌, ◌^◌, List, [], ◌∷◌, ◌++◌, length, Bool, true, false, codes, decimal}
use Rattle.std.specs.List.{flat_map, AllByRecursion}
use Rattle.partial_model.specs.declared.call.Call.{Call}
use Rattle.partial_words.specs.Layout.{Layout, IsLayout}

-- a plan: the sizes, the value of each component, the calls of each port, the turns, and whether the rest runs after them
pub record PlanView : Type 0 where
  pub sizes : Layout
  pub initial : List ℕ
  pub ports : List (List Call)
  pub steps : List (ℕ × ℕ)
  pub rest : Bool

-- a field after one space
abbrev pub field : List ℕ → List ℕ
field f = 32 ∷ f

-- a number after one space
abbrev pub number_field : ℕ → List ℕ
number_field n = 32 ∷ decimal n

-- the first line, without its newline
abbrev pub sizes_line : Layout → List ℕ
sizes_line s = codes "sizes" ++ flat_map number_field (s.m ∷ s.slots ∷ s.lists ∷ s.pool ∷ [])

-- the second line, likewise
abbrev pub initial_line : List ℕ → List ℕ
initial_line values = codes "initial" ++ flat_map number_field values

-- a call in a port's line
abbrev pub call_text : Call → List ℕ
call_text (Call.Update j v) = codes "update" ++ flat_map number_field (j ∷ v ∷ [])
call_text (Call.Scan js) = codes "scan" ++ flat_map number_field js
call_text (Call.Read j) = codes "read" ++ flat_map number_field (j ∷ [])
call_text (Call.UpdateIf j s v) = codes "updateif" ++ flat_map number_field (j ∷ s ∷ v ∷ [])

-- a further call of a port: it stands after a semicolon and a space
abbrev pub next_call : Call → List ℕ
next_call c = 59 ∷ 32 ∷ call_text c

-- the line of a port, without its newline: its calls with a semicolon and a space between two
abbrev pub port_line : List Call → List ℕ
port_line [] = codes "port"
port_line (c ∷ cs) = codes "port" ++ field (call_text c) ++ flat_map next_call cs

-- turns of a port: its number, an asterisk, and how many
abbrev pub entry_text : ℕ × ℕ → List ℕ
entry_text e = decimal e.0 ++ 42 ∷ decimal e.1

-- the last word of the steps, if the plan has it
abbrev pub rest_text : Bool → List ℕ
rest_text true = field (codes "rest")
rest_text false = []

-- the last line, without its newline
abbrev pub steps_line : List (ℕ × ℕ) → Bool → List ℕ
steps_line es rest = codes "steps" ++ flat_map (λ e. field (entry_text e)) es ++ rest_text rest

-- a line, ended by its newline
abbrev pub ended_line : List ℕ → List ℕ
ended_line l = l ++ 10 ∷ []

-- the text of a plan
abbrev pub plan_text : PlanView → List ℕ
plan_text p = ended_line (sizes_line p.sizes) ++ ended_line (initial_line p.initial) ++ flat_map (λ cs. ended_line (port_line cs)) p.ports ++
    ended_line (steps_line p.steps p.rest)

-- a call that may stand in a plan of m components; an index beyond them is refused when the call is made
abbrev pub IsCall : ℕ → Call → Type 0
IsCall m (Call.Update j v) = (j < 2 ^ 32) × (v < 2 ^ 64)
IsCall m (Call.Scan js) = (length js ≤ m) × AllByRecursion (λ j. j < 2 ^ 32) js
IsCall m (Call.Read j) = j < 2 ^ 32
IsCall m (Call.UpdateIf j s v) = (j < 2 ^ 32) × (s < 2 ^ 64) × (v < 2 ^ 64)

-- at least one turn of a port of the plan
abbrev pub IsTurnEntry : ℕ → ℕ × ℕ → Type 0
IsTurnEntry ports e = (e.0 < ports) × (1 ≤ e.1) × (e.1 < 2 ^ 32)

-- all that a plan text asks for
pub record IsPlan (p : PlanView) : Type 0 where
  pub sizes : IsLayout p.sizes
  pub initial : length p.initial ≡ p.sizes.m
  pub values : AllByRecursion (λ v. v < 2 ^ 64) p.initial
  pub some_port : 1 ≤ length p.ports
  pub few_ports : length p.ports ≤ 64
  pub calls : AllByRecursion (λ cs. AllByRecursion (IsCall p.sizes.m) cs) p.ports
  pub steps : AllByRecursion (IsTurnEntry (length p.ports)) p.steps
  pub short : length (plan_text p) ≤ 4194304

-- the text of a plan has room for fewer than 2^32 calls of a port
abbrev pub PlansHaveFewCalls : Type 0
PlansHaveFewCalls = (p : PlanView) → IsPlan p → AllByRecursion (λ cs. length cs < 2 ^ 32) p.ports
