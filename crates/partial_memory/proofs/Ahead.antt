-- A call's steps leave it as it is how many words ahead the port claims: none.
use Rattle.partial_memory.proofs.Common.{ℕ, ◌≡◌, ◌≤◌, List, [], ◌∷◌, sym, ap, subst, ◌∙◌, arith, IsLayout, greatest_record, CoreState, advance}
use Rattle.partial_machine.specs.{Behind.ClaimsPastPool, Sound.IsSound, Steps.Run}
use Rattle.partial_machine.proofs.Laws.{answers_lead_on}

pub run_ahead : (s t : CoreState) (xs : List ℕ) → IsLayout s.sizes → IsSound s → Run s xs t → t.ahead ≡ s.ahead
run_ahead s t [] layout sound run = ap (λ (v : CoreState). v.ahead) run
run_ahead s t (x ∷ xs) layout sound run =
    let on = answers_lead_on s x layout sound run.0 in
    run_ahead (advance s x) t xs (subst IsLayout (sym on.sizes) layout) on.sound run.1 ∙ on.ahead

-- so a claim of pool words has no more than the greatest record
pub few_claimed : (s : CoreState) (x : ℕ) (past : ClaimsPastPool s x) → s.ahead ≡ 0 → past.size ≤ greatest_record s.sizes
few_claimed s x past none = let few = past.few in omega (arith, few, none)
