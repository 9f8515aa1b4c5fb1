-- A seal, and the load of a component that is sealed already.
use Rattle.partial_epochs.proofs.{Common.{ℕ, ◌≡◌, ◌≢◌, ◌+◌, ◌/◌, ◌%◌, ◌^◌, ◌<◌, ◌≤◌, ◌⊎◌, true, List, [], length, slice_index, slice_set, refl, sym, ap, subst, ◌∙◌, inl, inr, arith, nat_lt, cases_lt, lt-ltb, eqb_tells, append-nil, get_or-set_same, get_or-set_other, length-set, set-get_or, Add, total, most_ports, words_after, count, put, Plan, IsSealed, arena_words, base, carried_words, component_words, plain, seal, seals, Port, Epoch, Beside, IsArena, IsStanding, LawfulEpochs, Stands, not_below, PassLeads, SealsStayLawful, SealedPassesStayLawful, passing_port}, Change.{Changes, beside_then, change_kept}, Lists.{count_few, count_more, count_same, put_all, put_other, put_same}, Offsets.below_whole, Present.standing, Worded.{component_at, plain_at, plain_component, set_arena, set_outside}}

module _ (e : Plan) (words : List ℕ) (ports : ℕ → Port) (b : Beside) (k : ℕ) (w : LawfulEpochs e words ports b) (below : k < e.ports)
    (stands : (ports k).control.entering ≡ Stands) (inside : (ports k).passed < e.sizes.m) where
  abbrev s : IsStanding b k (ports k)
  s = standing e words ports b k w below stands

  abbrev x : ℕ
  x = (ports k).control.here.arena

  abbrev r : Epoch
  r = s.epoch

  abbrev j : ℕ
  j = (ports k).passed

  abbrev passed' : ℕ → ℕ
  passed' = put k ((ports k).passed + 1) r.passed

  abbrev r' : Epoch
  r' = record r { passed = passed' }

  arena : IsArena e (arena_words e words x) (component_words e words x) (carried_words e words x) r (x ≢ b.arena)
  arena = w.arenas x r s.is

  within : base e x + j < length words
  within = let up = below_whole e x j (w.control.sites k below).arena (omega (arith, inside)) in let count = w.count in omega (arith, up, count)

  test_below : (a c : ℕ) → a < c → nat_lt a c ≡ true
  test_below a c h = lt-ltb a c h

  -- how many have passed a component
  own_before : r.passed k ≡ j
  own_before = s.passed

  passed_more : count (λ q. nat_lt j (passed' q)) 0 e.ports ≡ count (λ q. nat_lt j (r.passed q)) 0 e.ports + 1
  passed_more =
      let was = own_before in
      let is = put_same k (j + 1) r.passed in
      count_more (λ q. nat_lt j (r.passed q)) (λ q. nat_lt j (passed' q)) 0 e.ports k (omega arith) (omega (arith, below))
      (not_below j (r.passed k) (omega (arith, was))) (test_below j (passed' k) (omega (arith, is)))
      (λ q ne. ap (nat_lt j) (put_other k (j + 1) r.passed q ne))

  passed_other : (i : ℕ) → i ≢ j → count (λ q. nat_lt i (passed' q)) 0 e.ports ≡ count (λ q. nat_lt i (r.passed q)) 0 e.ports
  passed_other i ne = count_same (λ q. nat_lt i (passed' q)) (λ q. nat_lt i (r.passed q)) 0 e.ports
      (λ q low high. put_all (λ q (n : ℕ). nat_lt i n ≡ nat_lt i (r.passed q)) k (j + 1) r.passed q (λ _. here) (λ _. refl))
    where
      here : nat_lt i (j + 1) ≡ nat_lt i (r.passed k)
      here = let was = own_before in elim (cases_lt i j) [
        | inl low ↦ test_below i (j + 1) (omega (arith, low)) ∙ sym (test_below i (r.passed k) (omega (arith, low, was)))
        | inr from ↦ not_below i (j + 1) (omega (arith, from, ne)) ∙ sym (not_below i (r.passed k) (omega (arith, from, was)))
      ]

  module _ (words' : List ℕ) (count_is : length words' ≡ length words)
      (outside : (i : ℕ) → (i < base e x) ⊎ (base e x + total e.sizes ≤ i) → slice_index words' i ≡ slice_index words i)
      (same : arena_words e words' x ≡ arena_words e words x)
      (here : (seals (slice_index (component_words e words' x) j) ≤ count (λ q. nat_lt j (passed' q)) 0 e.ports) × IsSealed (slice_index (component_words e words' x) j))
      (there : (i : ℕ) → i < e.sizes.m → i ≢ j → slice_index (component_words e words' x) i ≡ slice_index (component_words e words x) i) where
    arena_then : IsArena e (arena_words e words' x) (component_words e words' x) (carried_words e words x) r' (x ≢ b.arena)
    arena_then = subst (λ (l : List ℕ). IsArena e l (component_words e words' x) (carried_words e words x) r' (x ≢ b.arena)) (sym same) (record {
      lawful = arena.lawful;
      numbers = arena.numbers;
      stamps = arena.stamps;
      few = λ i low. few i low;
      passed = λ q i in_ports in_passed low. elim (eqb_tells i j) [
        | inl is ↦ subst (λ n. IsSealed (slice_index (component_words e words' x) n)) (sym is.1) here.1
        | inr ne ↦ subst IsSealed (sym (there i low ne.1)) (arena.passed q i in_ports (before q i in_passed ne.1) low)
      ];
      sealed = λ finished i low. elim (eqb_tells i j) [
        | inl is ↦ subst (λ n. IsSealed (slice_index (component_words e words' x) n)) (sym is.1) here.1
        | inr ne ↦ subst IsSealed (sym (there i low ne.1)) (arena.sealed finished i low)
      ];
      reserve = arena.reserve;
      slots = arena.slots;
      silent = arena.silent;
    })
      where
        few : (i : ℕ) → i < e.sizes.m → seals (slice_index (component_words e words' x) i) ≤ count (λ q. nat_lt i (passed' q)) 0 e.ports
        few i low = elim (eqb_tells i j) [
          | inl is ↦ subst (λ n. seals (slice_index (component_words e words' x) n) ≤ count (λ q. nat_lt n (passed' q)) 0 e.ports) (sym is.1) here.0
          | inr ne ↦
              let old = arena.few i low in
              let counted = passed_other i ne.1 in
              subst (λ n. seals n ≤ count (λ q. nat_lt i (passed' q)) 0 e.ports) (sym (there i low ne.1)) (omega (arith, old, counted))
        ]

        before : (q i : ℕ) → i < passed' q → i ≢ j → i < r.passed q
        before q i = put_all (λ q (n : ℕ). i < n → i ≢ j → i < r.passed q) k (j + 1) r.passed q (λ _ low ne. let was = own_before in omega (arith, low, ne, was)) (λ _ low ne. low)

    changes : Changes e words b k x (ports k) r words' (passing_port (ports k)) r' []
    changes = record {
      count = count_is;
      outside = outside;
      log = sym (append-nil r.log);
      before = refl;
      parts = λ q ne. refl;
      passes = λ q ne. put_other k (j + 1) r.passed q ne;
      overs = λ q ne. refl;
      part = s.part;
      passed = put_same k (j + 1) r.passed;
      over = s.over;
      more = omega arith;
      control = refl;
      earlier = refl;
      grows = inl refl;
      arena = arena_then;
    }

    pass_leads : PassLeads e words words' ports b k
    pass_leads = record {
      within = within;
      beside = beside_then b x r' [];
      same = record { log = append-nil b.log; before = refl; arena = refl };
      lawful = change_kept e words ports b k w below stands words' (passing_port (ports k)) r' [] changes;
    }

  pub sealed_passes : IsSealed (slice_index (component_words e words x) j) → PassLeads e words words ports b k
  sealed_passes sealed =
      let old = arena.few j inside in
      let more = passed_more in
      pass_leads words refl (λ i out. refl) refl (omega (arith, old, more), sealed) (λ i low ne. refl)

  abbrev raw : ℕ
  raw = slice_index words (base e x + j)

  abbrev next : ℕ
  next = (raw + seal) % 2 ^ 64

  pub seals_on : PassLeads e words (words_after words (Add (base e x + j) seal)) ports b k
  seals_on =
      let low : j < total e.sizes = omega (arith, inside) in
      let at = component_at e words x j inside in
      let old = arena.few j inside in
      let more = passed_more in
      let most = count_few (λ q. nat_lt j (passed' q)) 0 e.ports in
      let few = w.plan.few in
      let small : raw / seal < most_ports = omega (arith, at, old, more, most, few) in
      let is : next ≡ raw + seal = omega (arith, small) in
      let words' : List ℕ = slice_set words (base e x + j) next in
      let at' = component_at e words' x j inside in
      let now : slice_index words' (base e x + j) ≡ next = get_or-set_same words (base e x + j) next 0 within in
      let found : slice_index (component_words e words' x) j ≡ raw + seal = at' ∙ now ∙ is in
      let plain_is : plain e j next ≡ slice_index (arena_words e words x) j =
      plain_component e words x j next inside ∙ omega (arith, is) ∙ sym (plain_component e words x j raw inside) ∙ sym (plain_at e words x j low) in
      pass_leads words' (length-set words (base e x + j) next) (set_outside e words x j next low within)
      (set_arena e words x j next low within ∙ ap (slice_set (arena_words e words x) j) plain_is ∙ set-get_or (arena_words e words x) j 0)
      (omega (arith, found, old, at, more), omega (arith, found))
      (λ i low_i ne. component_at e words' x i low_i ∙ get_or-set_other words (base e x + j) (base e x + i) next 0 (omega (arith, ne)) ∙ sym (component_at e words x i low_i))

pub seals_stay_lawful : SealsStayLawful
seals_stay_lawful e words ports b k w below stands inside = seals_on e words ports b k w below stands inside

pub sealed_passes_stay_lawful : SealedPassesStayLawful
sealed_passes_stay_lawful e words ports b k w below stands inside sealed = sealed_passes e words ports b k w below stands inside sealed
