use Rattle.partial_text.proofs.{Common.{Err, sym, subst, ap, ◌∙◌, PlanView, Fails, Gives, judged_plan, err_from_is_err_and}, ReaderLaws.{judged_all, only_memory, found_from, exact_from, only_from, always, true_not_false}}
use Rattle.partial_text.proofs.plan.Plan.read.Goals as goal

pub returns-in_err-text-clause-exact : goal.returns-in_err-text-clause-exact
returns-in_err-text-clause-exact g c = λ clean.
    let p = err_from_is_err_and c.from_residual.result c.from_residual.ensures.1 in
    rw (p.1, p.2) (always (g.R.Read.remaining c.args.reader.now.inner) (λ bytes. Fails c.in_err-text.field-0.0 (judged_plan bytes))
    (λ bytes. only_memory c.in_err-text.field-0.0 (judged_plan bytes) c.in_err-text.ensures.kind (λ same. absurd (true_not_false (sym (c.in_err-text.ensures.fault.0 (ap Err same)) ∙ clean)))))

pub returns-clause-found : goal.returns-clause-found
returns-clause-found g c =
    let same = judged_all (g.R.Read.remaining c.args.reader.now.inner) (g.R.Read.remaining c.read_text.new.reader.inner) c.in_ok-text.text.items c.in_ok-text.ensures.taken c.in_ok-text.ensures.end in
    found_from c.plan_of.result (g.R.Read.remaining c.args.reader.now.inner) c.in_ok-text.text.items
    (subst (λ t. Gives (λ (p : PlanView). p) c.plan_of.result (judged_plan t)) c.deref.ensures.value c.plan_of.ensures) same

pub returns-clause-exact : goal.returns-clause-exact
returns-clause-exact g c = λ clean.
    let same = judged_all (g.R.Read.remaining c.args.reader.now.inner) (g.R.Read.remaining c.read_text.new.reader.inner) c.in_ok-text.text.items c.in_ok-text.ensures.taken c.in_ok-text.ensures.end in
    exact_from c.plan_of.result (g.R.Read.remaining c.args.reader.now.inner) c.in_ok-text.text.items
    (subst (λ t. Gives (λ (p : PlanView). p) c.plan_of.result (judged_plan t)) c.deref.ensures.value c.plan_of.ensures) same

pub returns-clause-only : goal.returns-clause-only
returns-clause-only g c = λ clean.
    let same = judged_all (g.R.Read.remaining c.args.reader.now.inner) (g.R.Read.remaining c.read_text.new.reader.inner) c.in_ok-text.text.items c.in_ok-text.ensures.taken c.in_ok-text.ensures.end in
    let exact = exact_from c.plan_of.result (g.R.Read.remaining c.args.reader.now.inner) c.in_ok-text.text.items
    (subst (λ t. Gives (λ (p : PlanView). p) c.plan_of.result (judged_plan t)) c.deref.ensures.value c.plan_of.ensures) same in
    only_from c.plan_of.result (g.R.Read.remaining c.args.reader.now.inner) exact
