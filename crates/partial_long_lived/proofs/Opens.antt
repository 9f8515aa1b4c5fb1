-- The rule holds as a memory opens.
use Rattle.partial_long_lived.proofs.{Common.{ℕ, zero, suc, ◌≡◌, ◌+◌, ◌<◌, ◌≤◌, Bool, if◌then◌else◌, List, [], refl, sym, ap, subst, inl, inr, arith, append-nil, AllByRecursion, eqb_tells, opening, OpensAll, first_beside, first_ports, memories_open_lawful, openings_keep_time, About, IsRuleKept, IsSeat, SeatedPort, newcomer, newcomers, plan_of, seats_of, IsSeatKnown, first_tally, true, false, openings_keep_tally, few_come_free}}

-- what is so of the seat of each port is so of all
newcomers_all : (P : SeatedPort → Type 0) (a : About) (k n : ℕ) → ((i : ℕ) → i < k + n → P (newcomer a i)) → AllByRecursion P (newcomers a k n)
newcomers_all P a k zero each = tt
newcomers_all P a k (suc n) each = (each k (omega arith), newcomers_all P a (k + 1) n (λ i low. each i (omega (arith, low))))

-- no port has two seats, and none before the first has one
newcomers_once : (a : About) (q k n : ℕ) → (seats_of q (newcomers a k n) ≤ 1) × (q < k → seats_of q (newcomers a k n) ≡ 0)
newcomers_once a q k zero = (omega arith, λ low. refl)
newcomers_once a q k (suc n) =
    let rest = newcomers_once a q (k + 1) n in
    let most = rest.0 in
    let none = rest.1 in
    (elim (eqb_tells k q) [
      | inl same ↦
          let one = ap (λ (t : Bool). (if t then 1 else 0) + seats_of q (newcomers a (k + 1) n)) same.0 in
          let is = same.1 in
          let no_more = none (omega (arith, is)) in
          (omega (arith, one, no_more), λ low. absurd (omega (arith, low, is)))
      | inr other ↦
          let zero_more = ap (λ (t : Bool). (if t then 1 else 0) + seats_of q (newcomers a (k + 1) n)) other.0 in
          (omega (arith, zero_more, most), λ low. let no_more = none (omega (arith, low)) in omega (arith, zero_more, no_more))
    ])

-- the rule holds of the words of an opening, with one seat for all ports
pub opens : {S : Type 0} (a : About) (words : List ℕ) → OpensAll (plan_of a) words → IsRuleKept {S = S} a (opening words [] (newcomers a 0 a.ports))
opens a words w = record {
  ports = first_ports (plan_of a);
  notes = λ k. [];
  beside = first_beside (plan_of a);
  reckoned = record { since = λ k. 0; tally = first_tally };
  lawful = memories_open_lawful (plan_of a) words w;
  reckons = record { time = openings_keep_time (plan_of a) words; tally = openings_keep_tally (plan_of a) words w };
  seats = subst (AllByRecursion (IsSeat a words (first_ports (plan_of a)) (λ k. []) (first_beside (plan_of a)) (record { since = λ k. 0; tally = first_tally }))) (sym (append-nil (newcomers a 0 a.ports)))
      (newcomers_all (IsSeat a words (first_ports (plan_of a)) (λ k. []) (first_beside (plan_of a)) (record { since = λ k. 0; tally = first_tally })) a 0 a.ports (λ i low. record {
        about = refl;
        number = omega (arith, low);
        port = refl;
        noted = refl;
        seen = λ later log is. (log, refl);
        began = record { come = omega arith; reached = λ later before log is epoch. omega arith };
        entering = tt;
        found = tt;
        search = record {
          come = omega arith;
          begun = omega arith;
          within = omega arith;
          bound = λ is. let few = few_come_free (plan_of a) words (first_ports (plan_of a)) 0 (λ k. 0) first_tally in omega (arith, few);
          busy = λ is none x low. absurd (omega (arith, low));
        };
        met = λ is. let bad : false ≡ true = is in cc;
      }));
  once = λ k. subst (λ l. seats_of k l ≤ 1) (sym (append-nil (newcomers a 0 a.ports))) (newcomers_once a k 0 a.ports).0;
}

-- what is known of a port as the memory opens
pub newcomer_known : (a : About) (words : List ℕ) → OpensAll (plan_of a) words → (k : ℕ) → k < a.ports → IsSeatKnown (newcomer a k)
newcomer_known a words w k low = record {
  plan = w.plan;
  number = low;
  site = let some = w.some in record { epoch = omega arith; arena = omega (arith, some) };
  epoch = refl;
  knows = record { history = record { components = tt; distinct = tt; not_initial = tt }; legal = tt; once = refl; others = tt };
  fits = record { each = tt };
  own = record { above = tt; below = tt };
}
