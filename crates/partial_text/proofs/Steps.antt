-- What an error says, and how one line of a plan text leads to the next.
use Rattle.partial_text.proofs.Common.{◌≡◌, ℕ, ◌+◌, true, false, if◌then◌else◌, List, [], ◌∷◌, length, codes, Result, Ok, refl, sym, ap, ◌∙◌, bytes_eq, Call, PlanError, until, from, ◌>>=◌, Fails, Tail, more_ports, last_at}
use Rattle.partial_text.specs.Judging.{line_at, tail_at}

-- a step that fails fails the whole
pub Fails_first : {A B : Type 0} (e : PlanError) (r : Result A PlanError) (f : A → Result B PlanError) (judged : Result B PlanError) → Fails e r → (r >>= f) ≡ judged → Fails e judged
Fails_first PlanError.OutOfMemory r f judged h e = tt
Fails_first PlanError.Read r f judged h e = absurd h
Fails_first (PlanError.Size x) r f judged h e = sym e ∙ rw h refl
Fails_first PlanError.Ports r f judged h e = sym e ∙ rw h refl
Fails_first (PlanError.Line l c) r f judged h e = sym e ∙ rw h refl

-- what one line makes of the ports so far
abbrev pub tail_by : ℕ → ℕ → List (List Call) → List ℕ × List (List ℕ) → Result Tail PlanError
tail_by m line found x =
    if bytes_eq (until 32 x.0) (codes "port") then (more_ports m line found (from 32 x.0) >>= λ ports. tail_at m (line + 1) ports x.1)
    else (last_at line (length found) x.0 x.1 >>= λ steps. Ok (record { ports = found; steps = steps.0; rest = steps.1 }))

pub tail_step : (m line : ℕ) (found : List (List Call)) (ls : List (List ℕ)) → tail_at m line found ls ≡ (line_at line ls >>= tail_by m line found)
unfolding tail_at line_at
tail_step m line found [] = refl
tail_step m line found (l ∷ []) = refl
tail_step m line found (l ∷ k ∷ ls) = refl

pub at_port_line : (m line : ℕ) (found : List (List Call)) (ls : List (List ℕ)) (x : List ℕ × List (List ℕ)) (judged : Result Tail PlanError) → line_at line ls ≡ Ok x →
    bytes_eq (until 32 x.0) (codes "port") ≡ true
    → tail_at m line found ls ≡ judged → (more_ports m line found (from 32 x.0) >>= λ ports. tail_at m (line + 1) ports x.1) ≡ judged
at_port_line m line found ls x judged is_line is_port so_far =
    let e : tail_at m line found ls ≡ tail_by m line found x = tail_step m line found ls ∙ ap (λ (r : Result (List ℕ × List (List ℕ)) PlanError). r >>= tail_by m line found) is_line in
    let f : tail_by m line found x ≡ (more_ports m line found (from 32 x.0) >>= λ ports. tail_at m (line + 1) ports x.1) = rw is_port refl in
    sym f ∙ sym e ∙ so_far

pub at_last_line : (m line : ℕ) (found : List (List Call)) (ls : List (List ℕ)) (x : List ℕ × List (List ℕ)) (judged : Result Tail PlanError) → line_at line ls ≡ Ok x →
    bytes_eq (until 32 x.0) (codes "port") ≡ false
    → tail_at m line found ls ≡ judged → (last_at line (length found) x.0 x.1 >>= λ steps. Ok (record { ports = found; steps = steps.0; rest = steps.1 })) ≡ judged
at_last_line m line found ls x judged is_line not_port so_far =
    let e : tail_at m line found ls ≡ tail_by m line found x = tail_step m line found ls ∙ ap (λ (r : Result (List ℕ × List (List ℕ)) PlanError). r >>= tail_by m line found) is_line in
    let f : tail_by m line found x ≡ (last_at line (length found) x.0 x.1 >>= λ steps. Ok (record { ports = found; steps = steps.0; rest = steps.1 })) = rw not_port refl in
    sym f ∙ sym e ∙ so_far
