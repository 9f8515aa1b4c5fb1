-- The calls of a port are fewer than the bytes of its line, so their numbers fit 32 bits.
use Rattle.partial_text.proofs.Common.{ℕ, ◌+◌, ◌<◌, ◌≤◌, ◌^◌, ◌≡◌, ◌++◌, List, [], ◌∷◌, length, arith, flat_map, AllByRecursion, Call, PlansHaveFewCalls, sizes_line, initial_line, call_text, next_call, field, port_line, steps_line, ended_line, plan_text, length-append, codes}

next_long : (cs : List Call) → length cs ≤ length (flat_map next_call cs)
next_long [] = omega arith
next_long (c ∷ cs) =
    let rest = next_long cs in
    let all : length (next_call c ++ flat_map next_call cs) ≡ length (next_call c) + length (flat_map next_call cs) = length-append (next_call c) (flat_map next_call cs) in
    let one : length (next_call c) ≡ length (call_text c) + 2 = omega arith in
    omega (arith, rest, all, one)

line_long : (cs : List Call) → length cs ≤ length (port_line cs)
line_long [] = omega arith
line_long (c ∷ cs) =
    let rest = next_long cs in
    let behind : length (field (call_text c) ++ flat_map next_call cs) ≡ length (field (call_text c)) + length (flat_map next_call cs) =
    length-append (field (call_text c)) (flat_map next_call cs) in
    let one : length (field (call_text c)) ≡ length (call_text c) + 1 = omega arith in
    let all : length (port_line (c ∷ cs)) ≡ 4 + length (field (call_text c) ++ flat_map next_call cs) =
    length-append (codes "port") (field (call_text c) ++ flat_map next_call cs) in
    omega (arith, rest, behind, one, all)

lines_fit : (n : ℕ) (ports : List (List Call)) → length (flat_map (λ cs. ended_line (port_line cs)) ports) ≤ n → n < 2 ^ 32 → AllByRecursion (λ cs. length cs < 2 ^ 32) ports
lines_fit n [] l s = tt
lines_fit n (cs ∷ ports) l s =
    let rest = flat_map (λ ds. ended_line (port_line ds)) ports in
    let all : length (ended_line (port_line cs) ++ rest) ≡ length (ended_line (port_line cs)) + length rest = length-append (ended_line (port_line cs)) rest in
    let one : length (ended_line (port_line cs)) ≡ length (port_line cs) + 1 = length-append (port_line cs) (10 ∷ []) in
    let long = line_long cs in
    (omega (arith, all, one, long, l, s), lines_fit n ports (omega (arith, all, l)) s)

pub plans_have_few_calls : PlansHaveFewCalls
plans_have_few_calls p w =
    let ports = flat_map (λ cs. ended_line (port_line cs)) p.ports in
    let last = ended_line (steps_line p.steps p.rest) in
    let first = ended_line (sizes_line p.sizes) ++ ended_line (initial_line p.initial) in
    let all : length (plan_text p) ≡ length (first ++ ports) + length last = length-append (first ++ ports) last in
    let front : length (first ++ ports) ≡ length first + length ports = length-append first ports in
    lines_fit 4194304 p.ports (omega (arith, all, front, w.short)) (omega arith)
