-- A call that is not refused leaves its machine unspent.
use Rattle.partial_long_lived.proofs.Common.{ℕ, ◌≡◌, ◌≢◌, ◌||◌, false, Option, Some, None, List, [], ◌∷◌, refl, sym, ap, subst, ◌∙◌, IsLayout, Reply, Stage, Finished, CoreState, advance, reply_at, reply_of, IsSound, refuses_pool, refuses_slots, IsPossibleAt, answers_lead_on}
use Rattle.partial_model.specs.declared.call.Refused.{Refused}
use Rattle.partial_machine.specs.Steps.{Run}

-- the reply is no refusal
abbrev IsUnrefused : Option Reply → Type 0
IsUnrefused r = (cause : Refused) → r ≢ Some (Reply.Refused cause)

-- so it is none for a region
no_refusal : (r : Option Reply) → IsUnrefused r → (refuses_pool r ≡ false) × (refuses_slots r ≡ false)
no_refusal None h = (refl, refl)
no_refusal (Some (Reply.Refused Refused.Component)) h = (refl, refl)
no_refusal (Some (Reply.Refused Refused.PoolSpent)) h = absurd (h Refused.PoolSpent refl)
no_refusal (Some (Reply.Refused Refused.SlotsSpent)) h = absurd (h Refused.SlotsSpent refl)
no_refusal (Some (Reply.Applied s)) h = (refl, refl)
no_refusal (Some (Reply.Lost by)) h = (refl, refl)
no_refusal (Some (Reply.Read v s)) h = (refl, refl)
no_refusal (Some (Reply.Scanned n b)) h = (refl, refl)
no_refusal (Some (Reply.Changed by)) h = (refl, refl)

-- a machine with a possible answer is not refused
going_on : (s : CoreState) (t : Stage) (a : ℕ) → IsPossibleAt s t a → IsUnrefused (reply_at t)
going_on s (Finished r) a p = absurd p
going_on s _ a p = λ cause is. (let bad : None ≡ Some (Reply.Refused cause) = is in cc)

-- a run that ends with no refusal has met none
met_none : (s t : CoreState) (xs : List ℕ) → Run s xs t → IsUnrefused (reply_of t) → IsUnrefused (reply_of s)
met_none s t [] is h = subst (λ (c : CoreState). IsUnrefused (reply_of c)) is h
met_none s t (x ∷ xs) run h = going_on s s.stage x run.0

-- and leaves what is spent as it was
pub marks_stay : (s t : CoreState) (xs : List ℕ) → IsLayout s.sizes → IsSound s → Run s xs t → IsUnrefused (reply_of t) → (t.pool_spent ≡ s.pool_spent) × (t.slots_spent ≡ s.slots_spent)
marks_stay s t [] layout sound is h = (ap (λ (c : CoreState). c.pool_spent) is, ap (λ (c : CoreState). c.slots_spent) is)
marks_stay s t (x ∷ xs) layout sound run h =
    let on = answers_lead_on s x layout sound run.0 in
    let rest = marks_stay (advance s x) t xs (subst IsLayout (sym on.sizes) layout) on.sound run.1 h in
    let none = no_refusal (reply_of (advance s x)) (met_none (advance s x) t xs run.1 h) in
    (rest.0 ∙ on.pool ∙ ap (λ b. b || s.pool_spent) none.0, rest.1 ∙ on.slots ∙ ap (λ b. b || s.slots_spent) none.1)
