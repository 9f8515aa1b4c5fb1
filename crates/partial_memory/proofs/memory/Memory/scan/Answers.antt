use Rattle.std.proofs.Common.{arith}
use Rattle.std.proofs.lemmas.Grind.{common_steps}
use Rattle.partial_memory.proofs.{Common.{rules, ◌≡◌, ◌≤◌, refl, sym, ap, ◌∙◌, subst, length, Some, inl, err_from_is_err_and, Layout, PortView, refusal, one_in, Call}, Resting.{asked_begins, refusal_here, rests, scan_begins, same_memory}, Replies.{scan_ended, scan_answered, at_once, err_err}}
use Rattle.partial_memory.proofs.memory.Memory.scan.Goals as goal

pub scan-requires : goal.scan-requires
scan-requires c =
    let some : length c.args.which.now ≡ 0 → ⊥ = search rules in
    let sizes : c.me.inside.core.sizes ≡ c.args.self.now.about.sizes = search rules in
    let few : length c.args.which.now ≤ c.me.inside.core.sizes.m = subst (λ (z : Layout). length c.args.which.now ≤ z.m) (sym sizes) c.requires.lengths.1 in
    let begins = scan_begins _ _ _ c.me.invariant c.me.inside.badge.table_id _ _ few some c.in_ok-may_scan.ensures.ok (asked_begins c.me.inside.core _ some) in
    let between = c.me.invariant.between in
    record {
      one = c.me.invariant.one;
      rest = record { fits = search rules; words = search rules; own = search rules; idle = between.idle; sound = between.sound };
      begins = begins.begins;
      lengths = c.requires.lengths.0;
    }

pub invariant_of-me : goal.invariant_of-me
invariant_of-me c =
    let some : length c.args.which.now ≡ 0 → ⊥ = search rules in
    let sizes : c.me.inside.core.sizes ≡ c.args.self.now.about.sizes = search rules in
    let few : length c.args.which.now ≤ c.me.inside.core.sizes.m = subst (λ (z : Layout). length c.args.which.now ≤ z.m) (sym sizes) c.requires.lengths.1 in
    let begins = scan_begins _ _ _ c.me.invariant c.me.inside.badge.table_id _ _ few some c.in_ok-may_scan.ensures.ok (asked_begins c.me.inside.core _ some) in
    rests _ _ _ _ _ _ c.scan.ensures.one begins.begins c.scan.ensures.ended.ended c.me.invariant.number

pub returns-clause-answered : goal.returns-clause-answered
returns-clause-answered c =
    let some : length c.args.which.now ≡ 0 → ⊥ = search rules in
    let sizes : c.me.inside.core.sizes ≡ c.args.self.now.about.sizes = search rules in
    let few : length c.args.which.now ≤ c.me.inside.core.sizes.m = subst (λ (z : Layout). length c.args.which.now ≤ z.m) (sym sizes) c.requires.lengths.1 in
    let ok = c.in_ok-may_scan.ensures.ok in
    let told = scan_ended _ _ _ c.me.invariant _ _ c.scan.ensures.table _ _ _ c.me.view_is _ _ _ _ c.scan.ensures.ended.ended c.scan.ensures.counted _ few some ok (asked_begins c.me.inside.core _ some) in
    let ended = c.scan.ensures.ended in
    (scan_answered _ _ _ _ ended.ended.machine _ c.scan.result some ended.asked ended.rows c.scan.ensures.copied told).answered

pub returns-clause-led : goal.returns-clause-led
returns-clause-led c =
    let some : length c.args.which.now ≡ 0 → ⊥ = search rules in
    let sizes : c.me.inside.core.sizes ≡ c.args.self.now.about.sizes = search rules in
    let few : length c.args.which.now ≤ c.me.inside.core.sizes.m = subst (λ (z : Layout). length c.args.which.now ≤ z.m) (sym sizes) c.requires.lengths.1 in
    let ok = c.in_ok-may_scan.ensures.ok in
    let told = scan_ended _ _ _ c.me.invariant _ _ c.scan.ensures.table _ _ _ c.me.view_is _ _ _ _ c.scan.ensures.ended.ended c.scan.ensures.counted _ few some ok (asked_begins c.me.inside.core _ some) in
    let ended = c.scan.ensures.ended in
    (scan_answered _ _ _ _ ended.ended.machine _ c.scan.result some ended.asked ended.rows c.scan.ensures.copied told).led

pub returns-clause-refused : goal.returns-clause-refused
returns-clause-refused c =
    let some : length c.args.which.now ≡ 0 → ⊥ = search rules in
    let sizes : c.me.inside.core.sizes ≡ c.args.self.now.about.sizes = search rules in
    let few : length c.args.which.now ≤ c.me.inside.core.sizes.m = subst (λ (z : Layout). length c.args.which.now ≤ z.m) (sym sizes) c.requires.lengths.1 in
    let ok = c.in_ok-may_scan.ensures.ok in
    let told = scan_ended _ _ _ c.me.invariant _ _ c.scan.ensures.table _ _ _ c.me.view_is _ _ _ _ c.scan.ensures.ended.ended c.scan.ensures.counted _ few some ok (asked_begins c.me.inside.core _ some) in
    let ended = c.scan.ensures.ended in
    (scan_answered _ _ _ _ ended.ended.machine _ c.scan.result some ended.asked ended.rows c.scan.ensures.copied told).refused

pub returns-clause-led_to_refusal : goal.returns-clause-led_to_refusal
returns-clause-led_to_refusal c =
    let some : length c.args.which.now ≡ 0 → ⊥ = search rules in
    let sizes : c.me.inside.core.sizes ≡ c.args.self.now.about.sizes = search rules in
    let few : length c.args.which.now ≤ c.me.inside.core.sizes.m = subst (λ (z : Layout). length c.args.which.now ≤ z.m) (sym sizes) c.requires.lengths.1 in
    let ok = c.in_ok-may_scan.ensures.ok in
    let told = scan_ended _ _ _ c.me.invariant _ _ c.scan.ensures.table _ _ _ c.me.view_is _ _ _ _ c.scan.ensures.ended.ended c.scan.ensures.counted _ few some ok (asked_begins c.me.inside.core _ some) in
    let ended = c.scan.ensures.ended in
    (scan_answered _ _ _ _ ended.ended.machine _ c.scan.result some ended.asked ended.rows c.scan.ensures.copied told).led_to_refusal

pub returns-clause-same : goal.returns-clause-same
returns-clause-same c = same_memory _ _ _ (one_in c.me.inside.badge.views) (one_in c.scan.new.badge.views) _ _ c.me.view_is c.requires.own c.scan.ensures.table c.scan.ensures.ended.ended.made.about

pub returns-in_err-may_scan-clause-refused : goal.returns-in_err-may_scan-clause-refused
returns-in_err-may_scan-clause-refused c =
    let refused = refusal_here _ _ _ c.me.invariant c.me.inside.badge.table_id (Call.Scan c.args.which.now) ∙ c.in_err-may_scan.ensures.err in
    let seen : refusal c.args.me.now (Call.Scan c.args.which.now) ≡ Some c.in_err-may_scan.field-0.0 =
    ap (λ (p : PortView). refusal p (Call.Scan c.args.which.now)) (sym c.me.view_is) ∙ refused in
    let p = err_from_is_err_and c.from_residual.result c.from_residual.ensures.1 in
    err_err _ _ _ p.1 (inl (seen ∙ ap Some (sym p.2), refl))

pub returns-in_err-may_scan-clause-led_to_refusal : goal.returns-in_err-may_scan-clause-led_to_refusal
returns-in_err-may_scan-clause-led_to_refusal c =
    let refused = refusal_here _ _ _ c.me.invariant c.me.inside.badge.table_id (Call.Scan c.args.which.now) ∙ c.in_err-may_scan.ensures.err in
    let seen : refusal c.args.me.now (Call.Scan c.args.which.now) ≡ Some c.in_err-may_scan.field-0.0 =
    ap (λ (p : PortView). refusal p (Call.Scan c.args.which.now)) (sym c.me.view_is) ∙ refused in
    let p = err_from_is_err_and c.from_residual.result c.from_residual.ensures.1 in
    err_err _ _ _ p.1 (at_once _ _ _ _ (seen ∙ ap Some (sym p.2)))

pub returns-then-is_empty-clause-answered : goal.returns-then-is_empty-clause-answered
returns-then-is_empty-clause-answered c = grind (arith, common_steps) steps 2000000
