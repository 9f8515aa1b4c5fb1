-- What a reader gave decides what is answered.
use Rattle.partial_text.proofs.{Common.{◌≡◌, ℕ, ◌<◌, ◌≤◌, true, false, List, ◌++◌, length, Option, None, Some, Result, Ok, Err, refl, sym, ap, subst, ◌∙◌, inl, inr, arith, IfSome, IfOk, Consumes, IsAtEnd, cases_lt, lt-ltb, append-nil, length-append, PlanError, Fails, Gives, IsReaderFault, PlanView, IsPlan, plan_text}, PlanLaws.judged_ok, AgainLaws.judged_again}
use Rattle.partial_text.specs.declared.fault.Cause.{Cause}
use Rattle.partial_text.specs.Judging.{judged_plan}

pub each_some : {A : Type 0} (o : Option A) (P Q : A → Type 0) → ((x : A) → P x → Q x) → IfSome o P → IfSome o Q
each_some None P Q h p = tt
each_some (Some x) P Q h p = h x p

too_long : (text : List ℕ) → 4194304 < length text → judged_plan text ≡ Err (PlanError.Line 0 Cause.Size)
unfolding judged_plan
too_long text long = rw (lt-ltb 4194304 (length text) long) refl

-- the text that was taken is judged as all that the reader gives
pub judged_all : (a b : Option (List ℕ)) (text : List ℕ) → Consumes a b text → (length text ≤ 4194304 → IsAtEnd b) → IfSome a (λ bytes. judged_plan text ≡ judged_plan bytes)
judged_all None b text taken end = tt
judged_all (Some x) None text taken end = absurd taken
judged_all (Some x) (Some y) text taken end =
    elim (cases_lt 4194304 (length text)) [
      | inl long ↦ too_long text long ∙ sym (too_long x (omega (arith, ap length taken, length-append text y)))
      | inr short ↦ ap judged_plan (sym (taken ∙ ap (λ (l : List ℕ). text ++ l) (end short) ∙ append-nil text))
    ]

-- where the reader did not fail, no memory was left
pub only_memory : (e : PlanError) (judged_plan : Result PlanView PlanError) → IsReaderFault e → (e ≡ PlanError.Read → ⊥) → Fails e judged_plan
only_memory PlanError.OutOfMemory judged_plan h other = tt
only_memory PlanError.Read judged_plan h other = absurd (other refl)
only_memory (PlanError.Size x) judged_plan h other = absurd h
only_memory PlanError.Ports judged_plan h other = absurd h
only_memory (PlanError.Line l c) judged_plan h other = absurd h

pub found_from : (r : Result PlanView PlanError) (a : Option (List ℕ)) (text : List ℕ) → Gives (λ (p : PlanView). p) r (judged_plan text) → IfSome a (λ bytes. judged_plan text ≡ judged_plan bytes) →
    IfOk r (λ (p : PlanView). IfSome a (λ bytes. bytes ≡ plan_text p))
found_from (Ok p) a text given same = each_some a (λ bytes. judged_plan text ≡ judged_plan bytes) (λ bytes. bytes ≡ plan_text p) (λ bytes e. (judged_ok bytes p (sym e ∙ given)).1) same
found_from (Err e) a text given same = tt

pub exact_from : (r : Result PlanView PlanError) (a : Option (List ℕ)) (text : List ℕ) → Gives (λ (p : PlanView). p) r (judged_plan text) → IfSome a (λ bytes. judged_plan text ≡ judged_plan bytes) →
    IfSome a (λ bytes. Gives (λ (p : PlanView). p) r (judged_plan bytes))
exact_from r a text given same = each_some a (λ bytes. judged_plan text ≡ judged_plan bytes) (λ bytes. Gives (λ (p : PlanView). p) r (judged_plan bytes))
    (λ bytes e. subst (Gives (λ (p : PlanView). p) r) e given) same

pub always : {A : Type 0} (o : Option A) (P : A → Type 0) → ((x : A) → P x) → IfSome o P
always None P h = tt
always (Some x) P h = h x

pub true_not_false : true ≡ false → ⊥
true_not_false e = cc

pub only_from : (r : Result PlanView PlanError) (a : Option (List ℕ)) → IfSome a (λ bytes. Gives (λ (p : PlanView). p) r (judged_plan bytes)) →
    IfSome a (λ bytes. (p : PlanView) → IsPlan p → bytes ≡ plan_text p → Gives (λ (q : PlanView). q) r (Ok p))
only_from r a exact =
    each_some a (λ bytes. Gives (λ (p : PlanView). p) r (judged_plan bytes)) (λ bytes. (p : PlanView) → IsPlan p → bytes ≡ plan_text p → Gives (λ (q : PlanView). q) r (Ok p))
    (λ bytes given p fits same. subst (Gives (λ (q : PlanView). q) r) (ap judged_plan same ∙ judged_again p fits) given) exact
