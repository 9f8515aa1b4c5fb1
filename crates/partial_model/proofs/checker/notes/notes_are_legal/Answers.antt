use Rattle.std.proofs.Common.{rules, tests}
use Rattle.partial_model.proofs.{Common.{ℕ, ◌≡◌, ◌+◌, ◌≤◌, ◌==◌, if◌then◌else◌, true, length, drop, sym, ap, ◌∙◌, subst, arith, eq-eqb, ne_eqb, call_is_legal, notes_are_legal}, WalkLaws.{notes_more, seen_within}}
use Rattle.partial_model.proofs.checker.notes.notes_are_legal.Goals as goal
use Rattle.partial_model.proofs.checker.notes.notes_are_legal.Goals.{then-call-port, else-call-port}

pub loop-call-preserved : goal.loop-call-preserved
loop-call-preserved c =
    let seen : ℕ = c.loop-call.seen in
    let before : ℕ = c.if-call-port.before in
    let known : before ≡ (if c.call-item.result.port == c.loop-call.port then seen else 0) =
    elim c.if-call-port.branch [
      | then-call-port w ↦ w.before-is ∙ ap (λ b. if b then seen else 0) (sym (eq-eqb _ _ w.if-call-port.true))
      | else-call-port w ↦ w.before-is ∙ ap (λ b. if b then seen else 0) (sym (ne_eqb _ _ w.if-call-port.false))
    ] in
    let within : before ≤ length c.args.history.now =
    elim c.if-call-port.branch [
      | then-call-port w ↦ omega (arith, w.before-is, c.loop-call.invariant.within)
      | else-call-port w ↦ omega (arith, w.before-is)
    ] in
    let legal : call_is_legal c.args.opening.now c.args.history.now before c.call-item.result ≡ true = sym c.call_is_legal.ensures ∙ c.if-not-call_is_legal.false in
    record {
      rest = ap (λ n. notes_are_legal c.args.opening.now c.args.history.now c.call-item.result.port n (drop (c.loop-call.call-index + 1) c.args.calls.now)) c.seen_behind-seen.ensures ∙ notes_more
          c.args.opening.now c.args.history.now c.loop-call.port seen c.args.calls.now c.loop-call.call-index c.call-item.result before c.loop-call-test.true c.call-item.is known legal ∙
          c.loop-call.invariant.rest;
      within = subst (λ (n : ℕ). n ≤ length c.args.history.now) (sym c.seen_behind-seen.ensures) (seen_within c.args.opening.now c.args.history.now before c.call-item.result legal within);
    }

pub loop-call-init : goal.loop-call-init
loop-call-init c = search (tests, rules)
