-- Arenas come free a bounded number of times in an epoch, and not all arenas are in use.
use Rattle.partial_epochs.proofs.{Common.{ℕ, ◌≡◌, ◌≢◌, ◌+◌, ◌*◌, ◌%◌, ◌<◌, ◌≤◌, ◌==◌, ◌⊎◌, Bool, true, false, if◌then◌else◌, nat_lt, Option, Some, None, List, slice_index, refl, sym, ap, subst, ◌∙◌, inl, inr, arith, cases_lt, eqb_tells, some_same, put, Plan, arena_limit, at_word, control_words, entering_bit, packed, unpacked, Entering, OwnedArena, Port, Stands, StoredEntering, Loaded, IsSiteWord}, Entering.cw_at, Lists.{put_all, put_other, put_same}, Sums.{pigeonhole, sum_few}, Weights.credit_few}
use Rattle.partial_epochs.specs.FreeArenas.{FewComeFree, IsInUse, KeepsTally, OwnSitesAreInUse, OwnedArenasAreInUse, SomeArenaIsFree, Tally, credit, gives_at, gives_left, weight}

-- a port that comes from another epoch gives back at most two arenas first
gives_few : (at : Entering) (past : Bool) (o : Option OwnedArena) → gives_at at past o ≤ 2
gives_few Stands true None = omega arith
gives_few Stands true (Some o) = omega arith
gives_few Stands false None = omega arith
gives_few Stands false (Some o) = by o.looked
  where
    by : (c : Bool) → (if c then 2 else 1) ≤ 2
    by true = omega arith
    by false = omega arith
gives_few StoredEntering past o = omega arith
gives_few (Loaded c) past o = omega arith

-- by one port arenas come free at most so often
weight_few : (e : Plan) (words : List ℕ) (ports : ℕ → Port) (now : ℕ) (since : ℕ → ℕ) (t : Tally) (k : ℕ) → weight e words ports now since t k ≤ 2 * e.ports + 3
weight_few e words ports now since t k = by (nat_lt (slice_index words (at_word k)) entering_bit) ((unpacked (slice_index words (at_word k))).epoch == now) (nat_lt (since k) now)
  where
    by : (stands here older : Bool) → (if stands then (if here then credit t k (ports k).control.owned else (e.ports + 1) + gives_left (ports k).control)
        else (if older then 2 * e.ports + 3 else e.ports + 1)) ≤ 2 * e.ports + 3
    by true true older = let few = credit_few t k (ports k).control.owned in omega (arith, few)
    by true false older = let few = gives_few (ports k).control.entering (ports k).control.past (ports k).control.owned in omega (arith, few)
    by false here true = omega arith
    by false here false = omega arith

-- the law of few: the sum of these over all ports
pub few_come_free : FewComeFree
few_come_free e words ports now since t = sum_few (weight e words ports now since t) (2 * e.ports + 3) e.ports (λ i low. weight_few e words ports now since t i)

-- the owner that the word names isn't the port k, which owns none
pub owned_arenas_are_in_use : OwnedArenasAreInUse
owned_arenas_are_in_use e words ports t k x keeps free low taken =
    let s = keeps.owners x low taken in
    inr (
      taken,
      λ own.
          let even : s.owner + 1 ≡ k + 1 = sym s.word ∙ own in
          let same : s.owner ≡ k = omega (arith, even) in
          let bad : None ≡ Some s.owned = sym free ∙ sym (ap (λ i. (ports i).control.owned) same) ∙ s.is in
          absurd cc,
    )

-- the word of a port that stands names its arena
pub own_sites_are_in_use : OwnSitesAreInUse
own_sites_are_in_use e words ports b k w low stands = inl (record { port = k; inside = low; names = ap (λ n. n % arena_limit) word ∙ rest })
  where
    word : slice_index words (at_word k) ≡ packed (ports k).control.here
    word = sym (cw_at e words ports b k (ports k) 0 w low (at_word k) (omega (arith, low)))
        ∙ subst (IsSiteWord e (control_words e words) k (ports k).control.here) stands (w.control.at k low)

    rest : packed (ports k).control.here % arena_limit ≡ (ports k).control.here.arena
    rest = let small = (w.control.sites k low).arena in let few = w.plan.arenas in omega (arith, small, few)

-- port q owns arena x, and isn't the port k
record IsOtherOwner (ports : ℕ → Port) (k x q : ℕ) : Type 0 where
  other : q ≢ k
  owned : OwnedArena
  is : (ports q).control.owned ≡ Some owned
  arena : owned.arena ≡ x

module _ (e : Plan) (words : List ℕ) (ports : ℕ → Port) (k : ℕ) where
  -- the reason why arena x is in use by others than the port k, as a number: the port that names it, or an owner above all ports
  abbrev Reason : ℕ → ℕ → Type 0
  Reason x j = ((j < e.ports) × (slice_index words (at_word j) % arena_limit ≡ x))
      ⊎ ((q : ℕ) × (q < e.ports) × (j ≡ e.ports + q) × IsOtherOwner ports k x q)

  -- a number is the reason of one arena alone
  one_arena : (x y j : ℕ) → Reason x j → Reason y j → x ≡ y
  one_arena x y j (inl (low, names)) (inl (below, same)) = sym names ∙ same
  one_arena x y j (inl (low, names)) (inr (q, below, is, h)) = absurd (omega (arith, low, is))
  one_arena x y j (inr (q, below, is, h)) (inl (low, names)) = absurd (omega (arith, low, is))
  one_arena x y j (inr (q, below, is, h)) (inr (r, under, so, g)) =
      let same : q ≡ r = omega (arith, is, so) in
      let even : h.owned ≡ g.owned = some_same (sym h.is ∙ ap (λ i. (ports i).control.owned) same ∙ g.is) in
      sym h.arena ∙ ap (λ (o : OwnedArena). o.arena) even ∙ g.arena

  -- it is never that of k as an owner
  not_own : (x j : ℕ) → Reason x j → j ≢ e.ports + k
  not_own x j (inl (low, names)) same = absurd (omega (arith, low, same))
  not_own x j (inr (q, below, is, h)) same = absurd (h.other (omega (arith, is, same)))

  -- there are two such numbers for each port
  few_reasons : (x j : ℕ) → Reason x j → j < 2 * e.ports
  few_reasons x j (inl (low, names)) = omega (arith, low)
  few_reasons x j (inr (q, below, is, h)) = omega (arith, is, below)

  -- each arena that is in use has one
  reason_of : (t : Tally) (x : ℕ) → KeepsTally e words ports t → x < e.arenas → IsInUse e words k x → (j : ℕ) × Reason x j
  reason_of t x keeps low (inl named) = (named.port, inl (named.inside, named.names))
  reason_of t x keeps low (inr (taken, other)) =
      let s = keeps.owners x low taken in
      (e.ports + s.owner, inr (s.owner, s.inside, refl, record { other = λ same. other (s.word ∙ ap (λ n. n + 1) same); owned = s.owned; is = s.is; arena = s.arena }))

-- the reasons of 2 n arenas, and k as an owner, would be 2 n + 1 numbers below 2 n
pub some_arena_is_free : SomeArenaIsFree
some_arena_is_free e words ports t k keeps low many all = pigeonhole (2 * e.ports) f f_low f_one
  where
    picked : (x : ℕ) → (j : ℕ) × (x < e.arenas → Reason e words ports k x j)
    picked x = elim (cases_lt x e.arenas) [
      | inl inside ↦ let r = reason_of e words ports k t x keeps inside (all x inside) in (r.0, λ _. r.1)
      | inr from ↦ (0, λ inside. absurd (omega (arith, from, inside)))
    ]

    number : ℕ → ℕ
    number x = (picked x).0

    of : (x : ℕ) → x < 2 * e.ports → Reason e words ports k x (number x)
    of x below = (picked x).1 (omega (arith, below, many))

    f : ℕ → ℕ
    f = put (2 * e.ports) (e.ports + k) number

    f_low : (i : ℕ) → i ≤ 2 * e.ports → f i < 2 * e.ports
    f_low i up = put_all (λ x j. x ≤ 2 * e.ports → j < 2 * e.ports) (2 * e.ports) (e.ports + k) number i (λ _ _. omega (arith, low))
        (λ ne up. few_reasons e words ports k i (number i) (of i (omega (arith, up, ne)))) up

    f_one : (i j : ℕ) → i ≤ 2 * e.ports → j ≤ 2 * e.ports → f i ≡ f j → i ≡ j
    f_one i j up to same = by (eqb_tells i (2 * e.ports)) (eqb_tells j (2 * e.ports))
      where
        last : (x : ℕ) → x ≡ 2 * e.ports → f x ≡ e.ports + k
        last x is = ap f is ∙ put_same (2 * e.ports) (e.ports + k) number

        other : (x : ℕ) → x ≤ 2 * e.ports → x ≢ 2 * e.ports → number x ≢ e.ports + k
        other x up ne = not_own e words ports k x (number x) (of x (omega (arith, up, ne)))

        by : (((i == 2 * e.ports) ≡ true) × (i ≡ 2 * e.ports)) ⊎ (((i == 2 * e.ports) ≡ false) × (i ≢ 2 * e.ports)) →
            (((j == 2 * e.ports) ≡ true) × (j ≡ 2 * e.ports)) ⊎ (((j == 2 * e.ports) ≡ false) × (j ≢ 2 * e.ports)) → i ≡ j
        by (inl p) (inl q) = p.1 ∙ sym q.1
        by (inl p) (inr q) = absurd (other j to q.1 (sym (put_other (2 * e.ports) (e.ports + k) number j q.1) ∙ sym same ∙ last i p.1))
        by (inr p) (inl q) = absurd (other i up p.1 (sym (put_other (2 * e.ports) (e.ports + k) number i p.1) ∙ same ∙ last j q.1))
        by (inr p) (inr q) =
            let first = p.1 in
            let second = q.1 in
            one_arena e words ports k i j (number i) (of i (omega (arith, up, first)))
            (subst (Reason e words ports k j) (sym (put_other (2 * e.ports) (e.ports + k) number j q.1) ∙ sym same ∙ put_other (2 * e.ports) (e.ports + k) number i p.1)
            (of j (omega (arith, to, second))))
