-- Sums of weights, and how weights change.
use Rattle.partial_epochs.proofs.{Common.{ℕ, zero, suc, ◌≡◌, ◌≢◌, ◌+◌, ◌*◌, ◌<◌, ◌≤◌, ◌==◌, ◌/◌, nat_lt, Bool, true, false, if◌then◌else◌, Option, Some, None, refl, sym, ap, subst, ◌∙◌, inl, inr, arith, eqb_tells, lt-ltb, arena_limit, entering_bit, OwnedArena}}
use Rattle.std.proofs.lemmas.Bool.{le-ltb}
use Rattle.partial_epochs.specs.FreeArenas.{Tally, credit, sum_below}

-- a sum whose terms are no greater
pub sum_within : (f g : ℕ → ℕ) (n : ℕ) → ((q : ℕ) → q < n → g q ≤ f q) → sum_below g n ≤ sum_below f n
sum_within f g zero le = omega arith
sum_within f g (suc n) le =
    let rest = sum_within f g n (λ q low. le q (omega (arith, low))) in
    let here = le n (omega arith) in
    omega (arith, rest, here)

-- one term is less by d, and no other one is greater
pub sum_less : (f g : ℕ → ℕ) (n r d : ℕ) → r < n → g r + d ≤ f r → ((q : ℕ) → q < n → q ≢ r → g q ≤ f q) → sum_below g n + d ≤ sum_below f n
sum_less f g zero r d low less le = absurd (omega (arith, low))
sum_less f g (suc n) r d low less le = elim (eqb_tells n r) [
  | inl same ↦
      let rest = sum_within f g n (λ q below. le q (omega (arith, below)) (λ is. let to = same.1 in omega (arith, below, is, to))) in
      let here : g n + d ≤ f n = subst (λ i. g i + d ≤ f i) (sym same.1) less in
      omega (arith, rest, here)
  | inr other ↦
      let ne = other.1 in
      let rest = sum_less f g n r d (omega (arith, low, ne)) less (λ q below. le q (omega (arith, below))) in
      let here = le n (omega arith) ne in
      omega (arith, rest, here)
]

-- a sum whose terms are greater by 1 at most
sum_more : (f g : ℕ → ℕ) (n : ℕ) → ((q : ℕ) → q < n → g q ≤ f q + 1) → sum_below g n ≤ sum_below f n + n
sum_more f g zero le = omega arith
sum_more f g (suc n) le =
    let rest = sum_more f g n (λ q low. le q (omega (arith, low))) in
    let here = le n (omega arith) in
    omega (arith, rest, here)

-- one term is less by d, and each other one greater by 1 at most
sum_one : (f g : ℕ → ℕ) (n r d : ℕ) → r < n → g r + d ≤ f r → ((q : ℕ) → q < n → q ≢ r → g q ≤ f q + 1) → sum_below g n + d + 1 ≤ sum_below f n + n
sum_one f g zero r d low less le = absurd (omega (arith, low))
sum_one f g (suc n) r d low less le = elim (eqb_tells n r) [
  | inl same ↦
      let rest = sum_more f g n (λ q below. le q (omega (arith, below)) (λ is. let to = same.1 in omega (arith, below, is, to))) in
      let here : g n + d ≤ f n = subst (λ i. g i + d ≤ f i) (sym same.1) less in
      omega (arith, rest, here)
  | inr other ↦
      let ne = other.1 in
      let rest = sum_one f g n r d (omega (arith, low, ne)) less (λ q below. le q (omega (arith, below))) in
      let here = le n (omega arith) ne in
      omega (arith, rest, here)
]

-- one term is less by the number of terms, and each other one greater by 1 at most
pub sum_arrived : (f g : ℕ → ℕ) (n r : ℕ) → r < n → g r + n ≤ f r → ((q : ℕ) → q < n → q ≢ r → g q ≤ f q + 1) → sum_below g n + 1 ≤ sum_below f n
sum_arrived f g n r low less le = let all = sum_one f g n r n low less le in omega (arith, all)

-- the weight of a port with the word w, among n ports
abbrev pub weigh : (n w now since credit gives : ℕ) → ℕ
weigh n w now since credit gives =
    if nat_lt w entering_bit then (if w / arena_limit == now then credit else (n + 1) + gives) else (if nat_lt since now then 2 * n + 3 else n + 1)

-- what holds of both branches holds of the choice between them
pub pick : (P : ℕ → Type 0) (c : Bool) (x y : ℕ) → (c ≡ true → P x) → (c ≡ false → P y) → P (if c then x else y)
pick P true x y one other = one refl
pick P false x y one other = other refl

-- a weight with less credit and fewer gives is no greater, but for the difference d
pub weigh_within : (n w now since c g c' g' d : ℕ) → c' ≤ c + d → g' ≤ g + d → weigh n w now since c' g' ≤ weigh n w now since c g + d
weigh_within n w now since c g c' g' d credit gives = by (nat_lt w entering_bit) (w / arena_limit == now) (nat_lt since now)
  where
    by : (entering_words here earlier : Bool) → ◌≤◌ (if entering_words then (if here then c' else (n + 1) + g') else (if earlier then 2 * n + 3 else n + 1))
        ((if entering_words then (if here then c else (n + 1) + g) else (if earlier then 2 * n + 3 else n + 1)) + d)
    by true true earlier = credit
    by true false earlier = omega (arith, gives)
    by false here true = omega arith
    by false here false = omega arith

-- the weight of a port whose word names the current epoch
pub weigh_here : (n w now since c g : ℕ) → w < entering_bit → w / arena_limit ≡ now → weigh n w now since c g ≡ c
weigh_here n w now since c g low is = ap (λ (m : Bool). if m then (if w / arena_limit == now then c else (n + 1) + g) else (if nat_lt since now then 2 * n + 3 else n + 1)) (lt-ltb w entering_bit low)
    ∙ elim (eqb_tells (w / arena_limit) now) [
      | inl same ↦ ap (λ (m : Bool). if m then c else (n + 1) + g) same.0
      | inr ne ↦ absurd (ne.1 is)
    ]

-- the weight of one whose word names another epoch
pub weigh_away : (n w now since c g : ℕ) → w < entering_bit → w / arena_limit ≢ now → weigh n w now since c g ≡ (n + 1) + g
weigh_away n w now since c g low other = ap (λ (m : Bool). if m then (if w / arena_limit == now then c else (n + 1) + g) else (if nat_lt since now then 2 * n + 3 else n + 1)) (lt-ltb w entering_bit low)
    ∙ elim (eqb_tells (w / arena_limit) now) [
      | inl same ↦ absurd (other same.1)
      | inr ne ↦ ap (λ (m : Bool). if m then c else (n + 1) + g) ne.0
    ]

-- the weight of a port whose word has the entering bit
weigh_entering : (n w now since c g : ℕ) → entering_bit ≤ w → weigh n w now since c g ≡ (if nat_lt since now then 2 * n + 3 else n + 1)
weigh_entering n w now since c g high = ap (λ (m : Bool). if m then (if w / arena_limit == now then c else (n + 1) + g) else (if nat_lt since now then 2 * n + 3 else n + 1)) (le-ltb w entering_bit high)

-- it is at least one more than there are ports
pub weigh_entering_word : (n w now since c g : ℕ) → entering_bit ≤ w → n + 1 ≤ weigh n w now since c g
weigh_entering_word n w now since c g high = subst (λ m. n + 1 ≤ m) (sym (weigh_entering n w now since c g high))
    (pick (λ m. n + 1 ≤ m) (nat_lt since now) (2 * n + 3) (n + 1) (λ _. omega arith) (λ _. omega arith))

-- the entering word was stored in an earlier epoch
pub weigh_since : (n w now since c g : ℕ) → entering_bit ≤ w → since < now → weigh n w now since c g ≡ 2 * n + 3
weigh_since n w now since c g high less = weigh_entering n w now since c g high ∙ ap (λ (m : Bool). if m then 2 * n + 3 else n + 1) (lt-ltb since now less)

-- the entering word was stored in the current epoch
pub weigh_not_since : (n w now since c g : ℕ) → entering_bit ≤ w → now ≤ since → weigh n w now since c g ≡ n + 1
weigh_not_since n w now since c g high from = weigh_entering n w now since c g high ∙ ap (λ (m : Bool). if m then 2 * n + 3 else n + 1) (le-ltb since now from)

-- an arrival, at a site no older than the entering word, takes n from the weight of the port that arrives
pub weigh_arrived : (n w w' epoch now since c g c' g' : ℕ) → entering_bit ≤ w → w' < entering_bit → w' / arena_limit ≡ epoch → since ≤ epoch → epoch ≤ now →
    c' ≤ 1 → g' ≤ 2 → weigh n w' now since c' g' + n ≤ weigh n w now since c g
weigh_arrived n w w' epoch now since c g c' g' high low is late old few most = elim (eqb_tells (w' / arena_limit) now) [
  | inl same ↦
      let was = weigh_entering_word n w now since c g high in
      let here = weigh_here n w' now since c' g' low same.1 in
      omega (arith, was, here, few)
  | inr ne ↦
      let other = ne.1 in
      let was = weigh_since n w now since c g high (omega (arith, other, is, late, old)) in
      let here = weigh_away n w' now since c' g' low other in
      omega (arith, was, here, most)
]

-- credit is 0 or 1
pub credit_few : (t : Tally) (k : ℕ) (o : Option OwnedArena) → credit t k o ≤ 1
credit_few t k None = omega arith
credit_few t k (Some o) = pick (λ m. m ≤ 1) (nat_lt (t.taken k) t.arrivals) 1 0 (λ _. omega arith) (λ _. omega arith)
