-- The one text of a report.
use Rattle.std.specs.Prelude.{ℕ, ◌+◌, List, [], ◌∷◌, ◌++◌, codes}
use Rattle.std.specs.declared.alloc.Global.{Global}
use Rattle.std.specs.declared.vec.Vec.{Vec}
use Rattle.partial_model.specs.declared.call.Answer.{Answer}
use Rattle.partial_text.specs.PlanText.{number_field}
use Rattle.partial_text.specs.OutcomeText.{answer_front, answer_back, values_line}

-- the answer of the call of a port with this number
abbrev pub answer_line : ℕ → ℕ → Answer → List ℕ
answer_line port number a = codes "call" ++ number_field port ++ number_field number ++ answer_front a ++ answer_back a ++ 10 ∷ []

-- the answers of a port, of which the first is that of the call with this number
abbrev pub answer_lines : ℕ → ℕ → List Answer → List ℕ
answer_lines port number [] = []
answer_lines port number (a ∷ more) = answer_line port number a ++ answer_lines port (number + 1) more

-- the answers of ports, of which the first has this number, each port's from its call 0 on
abbrev pub port_lines : ℕ → List (Vec Answer Global) → List ℕ
port_lines port [] = []
port_lines port (calls ∷ ports) = answer_lines port 0 calls.items ++ port_lines (port + 1) ports

-- a report: the answers of the ports, and the values at the end
abbrev pub report_text : List (Vec Answer Global) → List ℕ → List ℕ
report_text answers values = port_lines 0 answers ++ values_line values
