use Rattle.partial_text.proofs.{Common.{◌≡◌, ℕ, true, false, ◌+◌, List, [], length, codes, Result, Ok, refl, sym, ap, ◌∙◌, arith, bytes_eq, Call, PlanError, until, from, pieces, ◌>>=◌, line_at, more_ports, last_at, tail_at, err_from_is_err_and}, Steps.{Fails_first, tail_step, tail_by, at_port_line, at_last_line}}
use Rattle.partial_text.proofs.lines.tail_of.Goals as goal

pub returns-in_err-front : goal.returns-in_err-front
returns-in_err-front c =
    let p = err_from_is_err_and c.from_residual.result c.from_residual.ensures.1 in
    let found = c.loop-ports.ports.items in
    let ls = pieces 10 c.loop-ports.left.now in
    rw (p.1, p.2) (Fails_first c.in_err-front.field-0.0 (line_at c.loop-ports.line ls) (tail_by c.args.m c.loop-ports.line found) (tail_at c.args.m 3 [] (pieces 10 c.args.text.now))
    c.in_err-front.ensures.value (sym (tail_step c.args.m c.loop-ports.line found ls) ∙ c.loop-ports.invariant.so_far))

pub returns-in_err-steps : goal.returns-in_err-steps
returns-in_err-steps c =
    let p = err_from_is_err_and c.from_residual-in_err-steps.result c.from_residual-in_err-steps.ensures.1 in
    let found = c.loop-ports.ports.items in
    let x : List ℕ × List (List ℕ) = (c.in_ok-front.front.now, pieces 10 c.in_ok-front.behind.now) in
    let not_port : bytes_eq (until 32 x.0) (codes "port") ≡ false = ap (λ (w : List ℕ). bytes_eq w (codes "port")) (sym c.split_before.ensures.front) ∙ sym c.is_port.ensures ∙ c.if-not-is_port.true in
    let many : length found ≡ c.len.result = omega (arith, c.len.ensures, c.loop-ports.ports.ok.0) in
    let given = at_last_line c.args.m c.loop-ports.line found (pieces 10 c.loop-ports.left.now) x (tail_at c.args.m 3 [] (pieces 10 c.args.text.now)) c.in_ok-front.ensures.value not_port
    c.loop-ports.invariant.so_far in
    rw (p.1, p.2) (Fails_first c.in_err-steps.field-0.0 (last_at c.loop-ports.line (length found) x.0 x.1) (λ steps. Ok (record { ports = found; steps = steps.0; rest = steps.1 }))
    (tail_at c.args.m 3 [] (pieces 10 c.args.text.now)) (rw many c.in_err-steps.ensures) given)

pub returns-then-not-is_port : goal.returns-then-not-is_port
returns-then-not-is_port c =
    let found = c.loop-ports.ports.items in
    let x : List ℕ × List (List ℕ) = (c.in_ok-front.front.now, pieces 10 c.in_ok-front.behind.now) in
    let not_port : bytes_eq (until 32 x.0) (codes "port") ≡ false = ap (λ (w : List ℕ). bytes_eq w (codes "port")) (sym c.split_before.ensures.front) ∙ sym c.is_port.ensures ∙ c.if-not-is_port.true in
    let many : length found ≡ c.len.result = omega (arith, c.len.ensures, c.loop-ports.ports.ok.0) in
    let given = at_last_line c.args.m c.loop-ports.line found (pieces 10 c.loop-ports.left.now) x (tail_at c.args.m 3 [] (pieces 10 c.args.text.now)) c.in_ok-front.ensures.value not_port
    c.loop-ports.invariant.so_far in
    sym given ∙ rw (many, c.in_ok-steps.ensures) refl

pub returns-in_err-push_port : goal.returns-in_err-push_port
returns-in_err-push_port c =
    let p = err_from_is_err_and c.from_residual-in_err-push_port.result c.from_residual-in_err-push_port.ensures.1 in
    let found = c.loop-ports.ports.items in
    let x : List ℕ × List (List ℕ) = (c.in_ok-front.front.now, pieces 10 c.in_ok-front.behind.now) in
    let is_port : bytes_eq (until 32 x.0) (codes "port") ≡ true = ap (λ (w : List ℕ). bytes_eq w (codes "port")) (sym c.split_before.ensures.front) ∙ sym c.is_port.ensures ∙ c.if-not-is_port.false in
    let given = at_port_line c.args.m c.loop-ports.line found (pieces 10 c.loop-ports.left.now) x (tail_at c.args.m 3 [] (pieces 10 c.args.text.now)) c.in_ok-front.ensures.value is_port
    c.loop-ports.invariant.so_far in
    rw (p.1, p.2) (Fails_first c.in_err-push_port.field-0.0 (more_ports c.args.m c.loop-ports.line found (from 32 x.0)) (λ ports. tail_at c.args.m (c.loop-ports.line + 1) ports x.1)
    (tail_at c.args.m 3 [] (pieces 10 c.args.text.now)) (rw (← c.split_before.ensures.rest) c.in_err-push_port.ensures.value) given)

pub loop-ports-preserved : goal.loop-ports-preserved
loop-ports-preserved c =
    let found = c.loop-ports.ports.items in
    let x : List ℕ × List (List ℕ) = (c.in_ok-front.front.now, pieces 10 c.in_ok-front.behind.now) in
    let is_port : bytes_eq (until 32 x.0) (codes "port") ≡ true = ap (λ (w : List ℕ). bytes_eq w (codes "port")) (sym c.split_before.ensures.front) ∙ sym c.is_port.ensures ∙ c.if-not-is_port.false in
    let given = at_port_line c.args.m c.loop-ports.line found (pieces 10 c.loop-ports.left.now) x (tail_at c.args.m 3 [] (pieces 10 c.args.text.now)) c.in_ok-front.ensures.value is_port
    c.loop-ports.invariant.so_far in
    let pushed : more_ports c.args.m c.loop-ports.line found (from 32 x.0) ≡ Ok c.push_port.new.ports.items = rw (← c.split_before.ensures.rest) c.in_ok-push_port.ensures.value in
    record {
      few = c.in_ok-push_port.ensures.few;
      line = omega (arith, c.in_ok-push_port.ensures.one);
      so_far = ap (λ (r : Result (List (List Call)) PlanError). r >>= λ ports. tail_at c.args.m (c.loop-ports.line + 1) ports x.1) (sym pushed) ∙ given;
    }
