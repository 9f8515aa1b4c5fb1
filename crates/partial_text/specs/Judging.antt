-- How a plan text is judged: line by line and field by field from the left, with the first fault that is met.
use Rattle.std.specs.Prelude.{ℕ, ◌+◌, List, [], ◌∷◌, ◌++◌, length, drop, Bool, true, false, codes, nat_lt, nat_le, ◌==◌, ◌&&◌, if◌then◌else◌, Option, Some, None, Result, Ok, Err}
use Rattle.std.specs.Option.{ok_or, option_map}
use Rattle.std.specs.Str.{bytes_eq}
use Rattle.partial_model.specs.declared.call.Call.{Call}
use Rattle.partial_words.specs.Layout.{Layout, initial_words}
use Rattle.partial_words.specs.declared.sizes.SizeError.{SizeError}
use Rattle.partial_text.specs.declared.fault.Cause.{Cause}
use Rattle.partial_text.specs.declared.fault.PlanError.{PlanError}
use Rattle.partial_text.specs.Pieces.{until, from, onto_first, pieces, pieces_behind}
use Rattle.partial_text.specs.Number.{number_of}
use Rattle.partial_text.specs.Fault.{◌>>=◌}
use Rattle.partial_text.specs.PlanText.{PlanView}

-- ---- fields

-- the greatest number of a field
abbrev pub greatest : ℕ
greatest = 18446744073709551615

-- the greatest size, index, and number of a port or of its turns
abbrev pub greatest_index : ℕ
greatest_index = 4294967295

-- the fields after the first one of a line or a call
abbrev pub fields_of : List ℕ → List (List ℕ)
fields_of text = pieces_behind 32 (from 32 text)

-- the one field of a list of one
abbrev pub exactly_one : List (List ℕ) → Option (List ℕ)
exactly_one (a ∷ []) = Some a
exactly_one _ = None

-- the two fields of a list of two
abbrev pub exactly_two : List (List ℕ) → Option (List ℕ × List ℕ)
exactly_two (a ∷ b ∷ []) = Some (a, b)
exactly_two _ = None

-- the three fields of a list of three
abbrev pub exactly_three : List (List ℕ) → Option (List ℕ × List ℕ × List ℕ)
exactly_three (a ∷ b ∷ c ∷ []) = Some (a, b, c)
exactly_three _ = None

-- the four fields of a list of four
abbrev pub exactly_four : List (List ℕ) → Option (List ℕ × List ℕ × List ℕ × List ℕ)
exactly_four [] = None
exactly_four (a ∷ fs) = option_map (λ x. (a, x.0, x.1, x.2)) (exactly_three fs)

-- a field that has to be a number
abbrev pub number_at : ℕ → ℕ → List ℕ → Result ℕ PlanError
number_at line most field = ok_or (number_of most field) (PlanError.Line line Cause.Number)

-- fields that have to be numbers, after the numbers so far
unfoldable pub numbers_at : ℕ → ℕ → List ℕ → List (List ℕ) → Result (List ℕ) PlanError
numbers_at line most found [] = Ok found
numbers_at line most found (f ∷ fs) = do
  n ← number_at line most f
  numbers_at line most (found ++ n ∷ []) fs

-- ---- the first two lines

-- the first size that is out of its range
abbrev pub in_range : Layout → Result Layout PlanError
in_range s =
    if nat_le 1 s.m && nat_le s.m 65536 then (if nat_le 1 s.slots && nat_le s.slots 65536 then
    (if nat_le s.lists 65536 then
    (if nat_le (initial_words s) s.pool && nat_le s.pool 4194304 then Ok s else Err (PlanError.Size SizeError.Pool)) else
    Err (PlanError.Size SizeError.Lists)) else Err (PlanError.Size SizeError.Slots)) else Err (PlanError.Size SizeError.Components)

-- four sizes in their ranges, as the fields of the first line
unfoldable pub sizes_from : List (List ℕ) → Result Layout PlanError
sizes_from fields = do
  f ← ok_or (exactly_four fields) (PlanError.Line 1 Cause.Count)
  m ← number_at 1 greatest_index f.0
  slots ← number_at 1 greatest_index f.1
  lists ← number_at 1 greatest_index f.2
  pool ← number_at 1 greatest_index f.3
  in_range (record { m = m; slots = slots; lists = lists; pool = pool })

-- the sizes that the first line is, by its word
unfoldable pub sizes_at : List ℕ → Result Layout PlanError
sizes_at l = if bytes_eq (until 32 l) (codes "sizes") then sizes_from (fields_of l) else Err (PlanError.Line 1 Cause.Word)

-- the values that the second line is, one for each of m components
unfoldable pub initial_at : ℕ → List ℕ → Result (List ℕ) PlanError
initial_at m l = if bytes_eq (until 32 l) (codes "initial") then
    (if length (fields_of l) == m then numbers_at 2 greatest [] (fields_of l) else Err (PlanError.Line 2 Cause.Count)) else Err
    (PlanError.Line 2 Cause.Word)

-- ---- calls

-- an update, by its two fields
unfoldable pub update_from : ℕ → List (List ℕ) → Result Call PlanError
update_from line fields = do
  f ← ok_or (exactly_two fields) (PlanError.Line line Cause.Count)
  j ← number_at line greatest_index f.0
  v ← number_at line greatest f.1
  Ok (Call.Update j v)

-- a scan of no more positions than there are components
unfoldable pub scan_from : ℕ → ℕ → List (List ℕ) → Result Call PlanError
scan_from m line fields =
    if nat_lt m (length fields) then Err (PlanError.Line line Cause.Count) else
    (numbers_at line greatest_index [] fields >>= λ js. Ok (Call.Scan js))

-- a read, by its one field
unfoldable pub read_from : ℕ → List (List ℕ) → Result Call PlanError
read_from line fields = do
  f ← ok_or (exactly_one fields) (PlanError.Line line Cause.Count)
  j ← number_at line greatest_index f
  Ok (Call.Read j)

-- a conditional update, by its three fields
unfoldable pub update_if_from : ℕ → List (List ℕ) → Result Call PlanError
update_if_from line fields = do
  f ← ok_or (exactly_three fields) (PlanError.Line line Cause.Count)
  j ← number_at line greatest_index f.0
  s ← number_at line greatest f.1
  v ← number_at line greatest f.2
  Ok (Call.UpdateIf j s v)

-- the call that a text is, by its first field, in a plan of m components
unfoldable pub call_text_at : ℕ → ℕ → List ℕ → Result Call PlanError
call_text_at m line text =
    if bytes_eq (until 32 text) (codes "update") then update_from line (fields_of text) else
    (if bytes_eq (until 32 text) (codes "scan") then scan_from m line (fields_of text) else
    (if bytes_eq (until 32 text) (codes "read") then read_from line (fields_of text) else
    (if bytes_eq (until 32 text) (codes "updateif") then update_if_from line (fields_of text) else Err (PlanError.Line line Cause.Word))))

-- the calls that texts are, after the calls so far
unfoldable pub calls_at : ℕ → ℕ → List Call → List (List ℕ) → Result (List Call) PlanError
calls_at m line found [] = Ok found
calls_at m line found (t ∷ ts) = do
  c ← call_text_at m line t
  calls_at m line (found ++ c ∷ []) ts

-- the texts between one semicolon with a space and the next
abbrev pub call_texts : List ℕ → List (List ℕ)
call_texts [] = [] ∷ []
call_texts (x ∷ []) = (x ∷ []) ∷ []
call_texts (x ∷ y ∷ xs) = if (x == 59) && (y == 32) then [] ∷ call_texts xs else onto_first x (call_texts (y ∷ xs))

-- a semicolon and a space stand at the front
abbrev pub is_cut : List ℕ → Bool
is_cut [] = false
is_cut (x ∷ []) = false
is_cut (x ∷ y ∷ xs) = (x == 59) && (y == 32)

-- the texts after a semicolon and a space
abbrev pub call_texts_behind : List ℕ → List (List ℕ)
call_texts_behind [] = []
call_texts_behind (x ∷ []) = []
call_texts_behind (x ∷ y ∷ xs) = call_texts xs

-- the calls after the word of a port line: none, or a space and their texts
unfoldable pub port_line_at : ℕ → ℕ → List ℕ → Result (List Call) PlanError
port_line_at m line [] = Ok []
port_line_at m line (x ∷ text) = calls_at m line [] (call_texts text)

-- ---- the turns

-- the turns that a field gives to one of the ports
unfoldable pub entry_text_at : ℕ → ℕ → List ℕ → Result (ℕ × ℕ) PlanError
entry_text_at line ports f = do
  p ← number_at line greatest_index (until 42 f)
  k ← number_at line greatest_index (drop 1 (from 42 f))
  if nat_lt p ports && nat_lt 0 k then Ok (p, k) else Err (PlanError.Line line Cause.Range)

-- whether there is no field
abbrev pub is_nil : List (List ℕ) → Bool
is_nil [] = true
is_nil (f ∷ fs) = false

-- the field is the last one, and is the word for the rest
abbrev pub is_rest : List ℕ → List (List ℕ) → Bool
is_rest f fs = is_nil fs && bytes_eq f (codes "rest")

-- the turns after those so far, and whether the rest runs after them
unfoldable pub entries_at : ℕ → ℕ → List (ℕ × ℕ) → List (List ℕ) → Result (List (ℕ × ℕ) × Bool) PlanError
entries_at line ports found [] = Ok (found, false)
entries_at line ports found (f ∷ fs) = if is_rest f fs then Ok (found, true) else
    (entry_text_at line ports f >>= λ e. entries_at line ports (found ++ e ∷ []) fs)

-- ---- the lines

-- the first line, and what stands after it
unfoldable pub line_at : ℕ → List (List ℕ) → Result (List ℕ × List (List ℕ)) PlanError
line_at line [] = Err (PlanError.Line line Cause.End)
line_at line (l ∷ []) = Err (PlanError.Line line Cause.End)
line_at line (l ∷ k ∷ ls) = Ok (l, k ∷ ls)

-- the ports with one more, of which these are the bytes after the word
unfoldable pub more_ports : ℕ → ℕ → List (List Call) → List ℕ → Result (List (List Call)) PlanError
more_ports m line found calls = if nat_lt (length found) 64 then (port_line_at m line calls >>= λ cs. Ok (found ++ cs ∷ [])) else
    Err PlanError.Ports

-- nothing stands after the last line
abbrev pub is_end : List (List ℕ) → Bool
is_end ([] ∷ []) = true
is_end _ = false

-- the last line of a plan of that many ports, with what follows it
unfoldable pub last_at : ℕ → ℕ → List ℕ → List (List ℕ) → Result (List (ℕ × ℕ) × Bool) PlanError
last_at line ports l behind =
    if bytes_eq (until 32 l) (codes "steps") then
    (if ports == 0 then Err PlanError.Ports else (entries_at line ports [] (fields_of l) >>= λ steps. if is_end behind then Ok steps else
    Err (PlanError.Line (line + 1) Cause.Extra))) else Err (PlanError.Line line Cause.Word)

-- what stands after the second line
pub record Tail : Type 0 where
  pub ports : List (List Call)
  pub steps : List (ℕ × ℕ)
  pub rest : Bool

-- the port lines after those so far, and the last line, in a plan of m components
unfoldable pub tail_at : ℕ → ℕ → List (List Call) → List (List ℕ) → Result Tail PlanError
tail_at m line found [] = Err (PlanError.Line line Cause.End)
tail_at m line found (l ∷ []) = Err (PlanError.Line line Cause.End)
tail_at m line found (l ∷ k ∷ ls) =
    if bytes_eq (until 32 l) (codes "port") then (more_ports m line found (from 32 l) >>= λ ports. tail_at m (line + 1) ports (k ∷ ls))
    else (last_at line (length found) l (k ∷ ls) >>= λ steps. Ok (record { ports = found; steps = steps.0; rest = steps.1 }))

-- the plan that these lines are, or their first fault
unfoldable pub lines_judged : List (List ℕ) → Result PlanView PlanError
lines_judged lines = do
  first ← line_at 1 lines
  sizes ← sizes_at first.0
  second ← line_at 2 first.1
  initial ← initial_at sizes.m second.0
  tail ← tail_at sizes.m 3 [] second.1
  Ok (record { sizes = sizes; initial = initial; ports = tail.ports; steps = tail.steps; rest = tail.rest })

-- The plan that a text is, or its first fault.
unfoldable pub judged_plan : List ℕ → Result PlanView PlanError
judged_plan text = if nat_lt 4194304 (length text) then Err (PlanError.Line 0 Cause.Size) else lines_judged (pieces 10 text)
