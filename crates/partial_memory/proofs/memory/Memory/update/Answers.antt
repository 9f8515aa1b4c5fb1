use Rattle.partial_memory.proofs.{Common.{rules, ◌≡◌, refl, sym, ap, ◌∙◌, Some, None, inl, inr, err_from_is_err_and, PortView, refusal, one_in, asked_change, ending_reply, Call, Reply}, Resting.{call_begins, refusal_here, rests, same_memory}, Replies.{update_ended, at_once, ok_ok, err_ok, err_err, ok_err}}
use Rattle.partial_memory.proofs.memory.Memory.update.Goals as goal
use Rattle.partial_memory.proofs.memory.Memory.update.Goals.{in-Applied, in-Overtaken, in-PoolSpent}

pub update-requires : goal.update-requires
update-requires c =
    let ok = c.in_ok-may_update.ensures.ok in
    let begins = call_begins _ _ _ c.me.invariant c.me.inside.badge.table_id _ (Call.Update c.args.component c.args.value) tt ok refl refl in
    let between = c.me.invariant.between in
    record {
      one = c.me.invariant.one;
      rest = record { fits = search rules; words = search rules; own = search rules; idle = between.idle; sound = between.sound };
      begins = begins.begins;
    }

pub invariant_of-me : goal.invariant_of-me
invariant_of-me c =
    let ok = c.in_ok-may_update.ensures.ok in
    let begins = call_begins _ _ _ c.me.invariant c.me.inside.badge.table_id _ (Call.Update c.args.component c.args.value) tt ok refl refl in
    rests _ _ _ _ _ _ c.update.ensures.one begins.begins c.update.ensures.ended c.me.invariant.number

pub returns-clause-answered : goal.returns-clause-answered
returns-clause-answered c =
    let ok = c.in_ok-may_update.ensures.ok in
    let told = update_ended _ _ _ c.me.invariant _ _ c.update.ensures.table _ _ _ c.me.view_is _ _ _ _ c.update.ensures.ended c.update.ensures.counted c.args.component c.args.value ok refl in
    elim c.match-update.branch [
      | in-Applied w ↦ ok_ok _ _ _ w.result-is (told (Reply.Applied _) (ap (ending_reply (asked_change c.args.component None c.args.value)) w.in-Applied.is)).0
      | in-Overtaken w ↦ ok_ok _ _ _ w.result-is (told (Reply.Lost _) (ap (ending_reply (asked_change c.args.component None c.args.value)) w.in-Overtaken.is)).0
      | in-PoolSpent w ↦ err_ok _ _ _ w.result-is
    ]

pub returns-clause-led : goal.returns-clause-led
returns-clause-led c =
    let ok = c.in_ok-may_update.ensures.ok in
    let told = update_ended _ _ _ c.me.invariant _ _ c.update.ensures.table _ _ _ c.me.view_is _ _ _ _ c.update.ensures.ended c.update.ensures.counted c.args.component c.args.value ok refl in
    elim c.match-update.branch [
      | in-Applied w ↦ ok_ok _ _ _ w.result-is (told (Reply.Applied _) (ap (ending_reply (asked_change c.args.component None c.args.value)) w.in-Applied.is)).1
      | in-Overtaken w ↦ ok_ok _ _ _ w.result-is (told (Reply.Lost _) (ap (ending_reply (asked_change c.args.component None c.args.value)) w.in-Overtaken.is)).1
      | in-PoolSpent w ↦ err_ok _ _ _ w.result-is
    ]

pub returns-clause-refused : goal.returns-clause-refused
returns-clause-refused c =
    let ok = c.in_ok-may_update.ensures.ok in
    let told = update_ended _ _ _ c.me.invariant _ _ c.update.ensures.table _ _ _ c.me.view_is _ _ _ _ c.update.ensures.ended c.update.ensures.counted c.args.component c.args.value ok refl in
    elim c.match-update.branch [
      | in-Applied w ↦ ok_err _ _ _ w.result-is
      | in-Overtaken w ↦ ok_err _ _ _ w.result-is
      | in-PoolSpent w ↦ err_err _ _ _ w.result-is (inr (told (Reply.Refused _) (ap (ending_reply (asked_change c.args.component None c.args.value)) w.in-PoolSpent.is)).0)
    ]

pub returns-clause-led_to_refusal : goal.returns-clause-led_to_refusal
returns-clause-led_to_refusal c =
    let ok = c.in_ok-may_update.ensures.ok in
    let told = update_ended _ _ _ c.me.invariant _ _ c.update.ensures.table _ _ _ c.me.view_is _ _ _ _ c.update.ensures.ended c.update.ensures.counted c.args.component c.args.value ok refl in
    elim c.match-update.branch [
      | in-Applied w ↦ ok_err _ _ _ w.result-is
      | in-Overtaken w ↦ ok_err _ _ _ w.result-is
      | in-PoolSpent w ↦ err_err _ _ _ w.result-is (λ _. (told (Reply.Refused _) (ap (ending_reply (asked_change c.args.component None c.args.value)) w.in-PoolSpent.is)).1)
    ]

pub returns-in_err-may_update-clause-refused : goal.returns-in_err-may_update-clause-refused
returns-in_err-may_update-clause-refused c =
    let refused = refusal_here _ _ _ c.me.invariant c.me.inside.badge.table_id (Call.Update c.args.component c.args.value) ∙ c.in_err-may_update.ensures.err in
    let seen : refusal c.args.me.now (Call.Update c.args.component c.args.value) ≡ Some c.in_err-may_update.field-0.0 =
    ap (λ (p : PortView). refusal p (Call.Update c.args.component c.args.value)) (sym c.me.view_is) ∙ refused in
    let p = err_from_is_err_and c.from_residual.result c.from_residual.ensures.1 in
    err_err _ _ _ p.1 (inl (seen ∙ ap Some (sym p.2), refl))

pub returns-in_err-may_update-clause-led_to_refusal : goal.returns-in_err-may_update-clause-led_to_refusal
returns-in_err-may_update-clause-led_to_refusal c =
    let refused = refusal_here _ _ _ c.me.invariant c.me.inside.badge.table_id (Call.Update c.args.component c.args.value) ∙ c.in_err-may_update.ensures.err in
    let seen : refusal c.args.me.now (Call.Update c.args.component c.args.value) ≡ Some c.in_err-may_update.field-0.0 =
    ap (λ (p : PortView). refusal p (Call.Update c.args.component c.args.value)) (sym c.me.view_is) ∙ refused in
    let p = err_from_is_err_and c.from_residual.result c.from_residual.ensures.1 in
    err_err _ _ _ p.1 (at_once _ _ _ _ (seen ∙ ap Some (sym p.2)))

pub returns-clause-same : goal.returns-clause-same
returns-clause-same c = same_memory _ _ _ (one_in c.me.inside.badge.views) (one_in c.update.new.badge.views) _ _ c.me.view_is c.requires c.update.ensures.table c.update.ensures.ended.made.about
