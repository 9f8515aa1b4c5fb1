-- A memory opens lawful.
use Rattle.partial_epochs.proofs.{Common.{ℕ, ◌≡◌, ◌≢◌, ◌+◌, ◌<◌, ◌≤◌, ◌⊎◌, Some, None, List, [], length, slice_index, refl, sym, ap, subst, ◌∙◌, inl, inr, arith, option_map, cases_lt, eqb_tells, some_same, first_free, pool_counter, total, Part, Plan, arena_words, base, carried_word, carried_words, component_words, control_size, control_words, plain, seal, Epoch, LawfulControl, Beside, IsArena, LawfulEpochs, controls, numbers, site_now, EpochsOpenLawful, OpensAll, first_beside, first_site, first_ports, first_epoch, nothing_held, OpensOver, opening_component, pool_opens}, Lists.{at_of, length_of, put_other, put_same}, Opens.{no_slot_claimed, opens_over}, Offsets.packed_arena, Publishes.fresh_list, Worded.{component_at, plain_at, plain_component, plain_other}}
use Rattle.partial_core.specs.Lawful as one

module _ (e : Plan) (words : List ℕ) (w : OpensAll e words) where
  small : (j : ℕ) → j < e.sizes.m → slice_index words (base e 0 + j) < seal
  small j low =
      let is = w.each j (omega (arith, low)) (inl (omega (arith, low))) ∙ opening_component e.sizes e.opening.values j low in
      let m = w.plan.sizes.components.1 in
      let slots = w.plan.sizes.slots.1 in
      let lists = w.plan.sizes.lists in
      omega (arith, is, low, m, slots, lists)

  opens : OpensOver e.sizes e.opening (arena_words e words 0)
  opens = record {
    sizes = w.plan.sizes;
    values = w.plan.values;
    stamps = w.plan.first;
    count = length_of (λ i. plain e i (slice_index words (base e 0 + i))) 0 (total e.sizes);
    each = λ i low asked. let pool = w.plan.sizes.pool.0 in plain_at e words 0 i (omega (arith, low, pool)) ∙ as_is i low (cases_lt i e.sizes.m) ∙ w.each i low asked;
  }
    where
      as_is : (i : ℕ) → i < first_free e.sizes → (i < e.sizes.m) ⊎ (e.sizes.m ≤ i) → plain e i (slice_index words (base e 0 + i)) ≡ slice_index words (base e 0 + i)
      as_is i low (inl inside) = let less = small i inside in plain_component e words 0 i (slice_index words (base e 0 + i)) inside ∙ omega (arith, less)
      as_is i low (inr from) = plain_other e words 0 i (slice_index words (base e 0 + i)) from

  first_arena : IsArena e (arena_words e words 0) (component_words e words 0) (carried_words e words 0) (first_epoch e) (◌≢◌ {A = ℕ} 0 0)
  first_arena = record {
    lawful = subst (λ (l : List Part). one.Lawful e.sizes e.opening (arena_words e words 0) l []) (sym (fresh_list e.sizes 0 e.ports))
        (opens_over e.sizes e.opening (arena_words e words 0) e.ports opens w.plan.few);
    numbers = λ q low. refl;
    stamps = λ j low. at_of (λ j. slice_index words (carried_word e 0 j)) 0 e.sizes.m j low ∙ ap (λ i. slice_index words (carried_word e 0 i)) (omega arith) ∙ w.carried j low;
    few = λ j low. let less = small j low in let at = component_at e words 0 j low in omega (arith, less, at);
    passed = λ q j low less. absurd (omega (arith, less));
    sealed = λ ne. absurd (ne refl);
    reserve =
        let some_slots = w.plan.sizes.slots.0 in
        let some_components = w.plan.sizes.components.0 in
        let room = w.plan.opens in
        let is : slice_index (arena_words e words 0) (pool_counter e.sizes) ≡ first_free e.sizes =
        opens.each (pool_counter e.sizes) (omega (arith, some_slots, some_components)) (inl (omega (arith, some_slots))) ∙ pool_opens e.sizes e.opening.values in
        omega (arith, is, room);
    slots = let claimed = no_slot_claimed e.sizes e.opening (arena_words e words 0) opens in omega (arith, claimed);
    silent = λ off. record { unclaimed = no_slot_claimed e.sizes e.opening (arena_words e words 0) opens; finds = λ q low. tt };
  }

  abbrev b : Beside
  b = first_beside e

  held : (P : ℕ → Epoch → Type 0) (y : ℕ) (r : Epoch) → b.holds y ≡ Some r → P 0 (first_epoch e) → P y r
  held P y r is first = elim (eqb_tells y 0) [
    | inl same ↦ subst (λ z. P z r) (sym same.1) (subst (P 0) (some_same (sym (put_same 0 (Some (first_epoch e)) nothing_held) ∙ sym (ap b.holds same.1) ∙ is)) first)
    | inr other ↦ let none : None ≡ Some r = sym (put_other 0 (Some (first_epoch e)) nothing_held y other.1) ∙ is in absurd cc
  ]

  zero_at : (i : ℕ) → i < control_size e → slice_index (control_words e words) i ≡ 0
  zero_at i low = at_of (λ i. slice_index words i) 0 (control_size e) i low ∙ ap (λ j. slice_index words j) (omega arith) ∙ w.control i low

  number_first : numbers b 0 ≡ Some 0
  number_first = ap (option_map (λ (r : Epoch). length r.before)) (put_same 0 (Some (first_epoch e)) nothing_held)

  number_held : (P : ℕ → ℕ → Type 0) (y g : ℕ) → numbers b y ≡ Some g → P 0 0 → P y g
  number_held P y g is first = elim (eqb_tells y 0) [
    | inl same ↦ subst (λ z. P z g) (sym same.1) (subst (P 0) (some_same (sym number_first ∙ sym (ap (numbers b) same.1) ∙ is)) first)
    | inr other ↦
        let none : None ≡ Some g = sym (ap (option_map (λ (r : Epoch). length r.before)) (put_other 0 (Some (first_epoch e)) nothing_held y other.1)) ∙ is in
        absurd cc
  ]

  first_control : LawfulControl e (control_words e words) (controls (first_ports e)) (site_now b) (numbers b)
  first_control = record {
    current = zero_at 0 (omega arith);
    site = record { epoch = omega arith; arena = w.some };
    present = number_first;
    earlier = λ y g is. number_held (λ y g. (g < 0) ⊎ ((g ≡ 0) × (y ≡ 0))) y g is (inr (refl, refl));
    within = λ y g is. number_held (λ y g. y < e.arenas) y g is w.some;
    sites = λ q low. record { epoch = omega arith; arena = w.some };
    at = λ q low. zero_at (1 + q) (omega (arith, low));
    old = λ q low. omega arith;
    past = λ q low is. absurd cc;
    stands = λ q d low site at.
        let zero_word = zero_at (1 + q) (omega (arith, low)) in
        let both = packed_arena e first_site d w.plan.arenas w.some site.arena (sym zero_word ∙ at) in
        ap (numbers b) (sym both.1) ∙ number_first ∙ ap Some both.0;
    comes = λ q d low is at. absurd cc;
    owners = λ q low. tt;
  }

  pub first_lawful : LawfulEpochs e words (first_ports e) (first_beside e)
  first_lawful = record {
    plan = w.plan;
    count = w.count;
    control = first_control;
    now = (first_epoch e, put_same 0 (Some (first_epoch e)) nothing_held, refl, refl);
    finished = λ y r is ne. absurd (ne (held (λ y r. y ≡ 0) y r is refl));
    arenas = λ y r is. held (λ y r. IsArena e (arena_words e words y) (component_words e words y) (carried_words e words y) r (y ≢ 0)) y r is first_arena;
    standing = λ q low is. record { epoch = first_epoch e; is = put_same 0 (Some (first_epoch e)) nothing_held; before = refl; part = refl; passed = refl; over = refl };
    new = λ q y r low is less. absurd (held (λ y r. 0 < length r.before → ⊥) y r is (λ less. omega (arith, less)) less);
    setting = λ q low. tt;
    clear = λ y inside is l from less. elim (eqb_tells y 0) [
      | inl same ↦ let none : Some (first_epoch e) ≡ None = sym (put_same 0 (Some (first_epoch e)) nothing_held) ∙ sym (ap b.holds same.1) ∙ is in absurd cc
      | inr ne ↦ let other = ne.1 in w.clear y l (omega (arith, other)) inside less
    ];
    records = λ y inside is. elim (eqb_tells y 0) [
      | inl same ↦ let none : Some (first_epoch e) ≡ None = sym (put_same 0 (Some (first_epoch e)) nothing_held) ∙ sym (ap b.holds same.1) ∙ is in absurd cc
      | inr ne ↦ let other = ne.1 in w.records y (omega (arith, other)) inside
    ];
  }

pub epochs_open_lawful : EpochsOpenLawful
epochs_open_lawful e words w = first_lawful e words w
