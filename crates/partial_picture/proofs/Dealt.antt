-- The steps of all ports are found in one pass over the trace.
use Rattle.std.proofs.Common.{ℕ, ◌≡◌, ◌+◌, ◌<◌, ◌≤◌, ◌==◌, ◌++◌, ◌∷◌, [], List, length, map, filter, slice_index_or, slice_set, refl, sym, ap, ◌∙◌, inl, inr, arith, suc}
use Rattle.std.proofs.lemmas.Bool.{cases_eq}
use Rattle.std.proofs.lemmas.Grind.{common_steps}
use Rattle.std.proofs.lemmas.List.{ext_get_or, get_or-set_other, get_or-set_same, length-set}
use Rattle.std.proofs.lemmas.List.FromFn.{get_or-map-range_with_len, length-map-range_with_len}
use Rattle.std.specs.List.{enumerate_from}
use Rattle.partial_words.specs.declared.step.Event.{Event}
use Rattle.partial_picture.specs.Made.{port_steps, steps_by_port}

-- the steps of port q in a trace that begins with step n
steps_from : ℕ → ℕ → List Event → List ℕ
steps_from q n trace = map (λ x. x.0) (filter (λ x. x.1.port == q) (enumerate_from n trace))

-- one event more, of that port or of another
own_on : (q n : ℕ) (trace : List Event) (e : Event) → e.port ≡ q → steps_from q n (trace ++ e ∷ []) ≡ steps_from q n trace ++ (n + length trace) ∷ []
unfolding steps_from
own_on q n [] e own = grind (arith, common_steps)
own_on q n (d ∷ trace) e own =
    let rest = own_on q (suc n) trace e own in
    elim (cases_eq d.port q) [
      | inl is ↦ grind (arith, common_steps, rest)
      | inr not ↦ grind (arith, common_steps, rest)
    ]

other_on : (q n : ℕ) (trace : List Event) (e : Event) → (e.port ≡ q → ⊥) → steps_from q n (trace ++ e ∷ []) ≡ steps_from q n trace
unfolding steps_from
other_on q n [] e other = grind (arith, common_steps)
other_on q n (d ∷ trace) e other =
    let rest = other_on q (suc n) trace e other in
    elim (cases_eq d.port q) [
      | inl is ↦ grind (arith, common_steps, rest)
      | inr not ↦ grind (arith, common_steps, rest)
    ]

-- these are the steps of so many ports
pub record AreDealt (ports : ℕ) (steps : List (List ℕ)) (trace : List Event) : Type 0 where
  pub many : length steps ≡ ports
  pub each : (q : ℕ) → q < ports → slice_index_or steps q [] ≡ port_steps q trace

pub dealt : (ports : ℕ) (steps : List (List ℕ)) (trace : List Event) → AreDealt ports steps trace → steps ≡ steps_by_port ports trace
dealt ports steps trace w =
    let many = w.many in
    let all = length-map-range_with_len (λ q. port_steps q trace) 0 ports in
    ext_get_or [] steps (steps_by_port ports trace) (omega (arith, many, all))
    (λ q low. w.each q (omega (arith, low, many)) ∙ sym (get_or-map-range_with_len (λ q. port_steps q trace) 0 ports q q [] (omega (arith, low, many)) (omega arith)))

pub none_dealt : (ports : ℕ) (steps : List (List ℕ)) → steps ≡ steps_by_port ports [] → AreDealt ports steps []
none_dealt ports steps is = record {
  many = ap (λ (l : List (List ℕ)). length l) is ∙ length-map-range_with_len (λ q. port_steps q []) 0 ports;
  each = λ q low. ap (λ (l : List (List ℕ)). slice_index_or l q []) is ∙ get_or-map-range_with_len (λ q. port_steps q []) 0 ports q q [] low (omega arith);
}

-- one event more, of one of the ports, or of none
pub deals_on : (ports : ℕ) (steps : List (List ℕ)) (trace : List Event) (e : Event) → AreDealt ports steps trace → e.port < ports →
    AreDealt ports (slice_set steps e.port (slice_index_or steps e.port [] ++ length trace ∷ [])) (trace ++ e ∷ [])
unfolding steps_from
deals_on ports steps trace e w below = record {
  many = length-set steps e.port (slice_index_or steps e.port [] ++ length trace ∷ []) ∙ w.many;
  each = λ q low. elim (cases_eq q e.port) [
    | inl is ↦ rw is (get_or-set_same steps e.port (slice_index_or steps e.port [] ++ length trace ∷ []) [] (omega (arith, below, w.many))
        ∙ ap (λ (l : List ℕ). l ++ length trace ∷ []) (w.each e.port below) ∙ ap (λ n. steps_from e.port 0 trace ++ n ∷ []) (omega arith) ∙ sym (own_on e.port 0 trace e refl))
    | inr not ↦ get_or-set_other steps e.port q (slice_index_or steps e.port [] ++ length trace ∷ []) [] not ∙ w.each q low ∙ sym (other_on q 0 trace e (λ is. not (sym is)))
  ];
}

pub deals_past : (ports : ℕ) (steps : List (List ℕ)) (trace : List Event) (e : Event) → AreDealt ports steps trace → ports ≤ e.port → AreDealt ports steps (trace ++ e ∷ [])
unfolding steps_from
deals_past ports steps trace e w past = record { many = w.many; each = λ q low. w.each q low ∙ sym (other_on q 0 trace e (λ is. absurd (omega (arith, low, past, is)))) }
