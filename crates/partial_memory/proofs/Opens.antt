-- A memory as it opens, and its ports.
use Rattle.partial_memory.proofs.{Common.{ℕ, zero, suc, ◌≡◌, ◌+◌, ◌≤◌, List, [], ◌∷◌, refl, sym, ap, subst, ◌∙◌, arith, append-nil, opening, Layout, IsLayout, OpensWith, CoreState, fresh, fresh_parts, Lawful, opens_lawful, ports_come_between, About, SeatedPort, AreOpened, IsRuleKept, IsShuffle, newcomer, newcomers, parts_of, first_port, IsResting}, Shuffles.same_order}

newcomers_parts : (about : About) (port n : ℕ) → parts_of (newcomers about port n) ≡ fresh_parts about.sizes port n
newcomers_parts about port zero = refl
newcomers_parts about port (suc n) = ap (λ l. (newcomer about port).part ∷ l) (newcomers_parts about (port + 1) n)

newcomers_below : (about : About) (port n most : ℕ) → port + n ≤ most → AreOpened most (newcomers about port n)
newcomers_below about port zero most far = tt
newcomers_below about port (suc n) most far = (omega (arith, far), newcomers_below about (port + 1) n most (omega (arith, far)))

pub opens : {S : Type 0} (about : About) (words : List ℕ) → OpensWith about.sizes about.opening words → about.ports ≤ 64 →
    IsRuleKept {S = S} about (opening words [] (newcomers about 0 about.ports))
opens about words opened few = record {
  log = [];
  all = newcomers about 0 about.ports;
  shuffle = subst (λ l. IsShuffle l (newcomers about 0 about.ports)) (sym (append-nil (newcomers about 0 about.ports))) (same_order (newcomers about 0 about.ports));
  lawful = subst (λ l. Lawful about.sizes about.opening words l []) (sym (newcomers_parts about 0 about.ports)) (opens_lawful about.sizes about.opening words about.ports opened (omega (arith, few)));
  opened = newcomers_below about 0 about.ports about.ports (omega arith);
}

newcomer_rests : (about : About) (i : ℕ) → IsLayout about.sizes → IsResting ((newcomer about i ∷ []) ∷ []) (fresh about.sizes i) i
newcomer_rests about i layout = record {
  one = refl;
  between = ports_come_between.0 about.sizes i layout;
  ahead = refl;
  layout = layout;
  sizes = refl;
  number = refl;
  fits = record { history = record { components = tt; distinct = tt; not_initial = tt }; legal = tt; shown = omega arith; once = refl };
  others = tt;
}

pub rests_new : (about : About) (i : ℕ) (v : List SeatedPort) → first_port v ≡ newcomer about i ∷ [] → (views : List (List SeatedPort)) (core : CoreState) (z : Layout) → IsLayout z →
    views ≡ first_port v ∷ [] → core ≡ fresh z i → about.sizes ≡ z → IsResting views core i
rests_new about i v first views core z layout is idle sizes =
    let e : views ≡ (newcomer about i ∷ []) ∷ [] = is ∙ ap (λ (w : List SeatedPort). w ∷ []) first in
    let rest = newcomer_rests about i (subst IsLayout (sym sizes) layout) in
    let core_is = idle ∙ ap (λ (y : Layout). fresh y i) (sym sizes) in
    let here = subst (λ (s : CoreState). IsResting ((newcomer about i ∷ []) ∷ []) s i) (sym core_is) rest in
    subst (λ (w : List (List SeatedPort)). IsResting w core i) (sym e) here
