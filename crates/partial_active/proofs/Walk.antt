-- The walk along the slots: the machine and its buffers go on together, and the steps left fall.
use Rattle.partial_active.proofs.{Common.{ℕ, ◌≡◌, ◌+◌, ◌-◌, ◌<◌, ◌≤◌, true, false, ◌&&◌, not, ◌==◌, nat_lt, length, inl, inr, refl, arith, cases_eq, cond_both, and_parts, and_cases, ltb-true, ltb-false, eqb-true, eqb-false, lowest, highest, Layout, AreFoundFor, begins_at, LiesAfter, Slot, Claim, Done, SetPair, after_walk, at_slot, come_to, pass_interval, next_words, set_left, walk_left, publish_left, EndsBelow, SetGoesTogether, IsWalking, mul-le-mul_right}, Extended.{length_normal, normal-extended, below-extended}}

-- fewer slots, fewer steps
pub walk_left_mono : (s : Layout) (a b : ℕ) → a ≤ b → walk_left s b ≤ walk_left s a
walk_left_mono s a b le =
    let fewer : s.slots - b ≤ s.slots - a = omega arith in
    omega (arith, mul-le-mul_right (s.m + 2) fewer)

module _ (p : SetPair) (slot : ℕ) (walking : IsWalking p slot) where
  -- the next list lies within the slots
  pub next_within : EndsBelow p.1.next p.0.sizes.slots
  next_within k lt = omega (arith, walking.next_below k lt, walking.slot_within)

  -- and it has room for one more interval
  pub next_room : AreFoundFor p.0.sizes p.1 → length p.1.next < p.1.room
  next_room sizes = omega (arith, sizes.room, length_normal p.1.next p.0.sizes.slots walking.next next_within)

  -- what begins at the slot
  pub begun : begins_at p.1.read p.0.passed slot ≡ true → (p.0.passed < length p.1.read) × (lowest p.1.read p.0.passed ≡ slot)
  begun e =
      let both = and_parts (nat_lt p.0.passed (length p.1.read)) ((lowest p.1.read p.0.passed) == slot) e in
      (ltb-true p.0.passed (length p.1.read) both.0, eqb-true (lowest p.1.read p.0.passed) slot both.1)

  -- that interval lies after the next list
  pub interval_behind : begins_at p.1.read p.0.passed slot ≡ true → LiesAfter p.1.next (lowest p.1.read p.0.passed) (highest p.1.read p.0.passed)
  interval_behind e =
      let b = begun e in
      record {
        closed = walking.list.normal.closed p.0.passed b.0;
        bounded = walking.list.normal.bounded p.0.passed b.0;
        beyond = λ k lt. omega (arith, walking.next_below k lt, b.1);
      }

  pub walking_on : begins_at p.1.read p.0.passed slot ≡ true → IsWalking (pass_interval p) (highest p.1.read p.0.passed + 1)
  walking_on e =
      let b = begun e in
      let behind = interval_behind e in
      let closed = walking.list.normal.closed p.0.passed b.0 in
      record {
        list = walking.list;
        end_within = walking.end_within;
        list_before_end = walking.list_before_end;
        next = normal-extended p.1.next (lowest p.1.read p.0.passed) (highest p.1.read p.0.passed) walking.next behind;
        next_below = below-extended p.1.next (lowest p.1.read p.0.passed) (highest p.1.read p.0.passed) walking.next behind (highest p.1.read p.0.passed + 1)
            (λ k lt. omega (arith, walking.next_below k lt, b.1, closed)) (omega arith);
        slot_within = omega (arith, walking.list.within p.0.passed b.0);
        passed = omega (arith, b.0);
        before = λ k lt. elim (cases_eq k p.0.passed) [
          | inl here ↦ rw here (omega arith)
          | inr earlier ↦ omega (arith, walking.before k (omega arith), b.1, closed)
        ];
        behind = λ k le lt. omega (arith, walking.list.normal.apart p.0.passed k (omega arith) lt);
      }

  pub outside_on : begins_at p.1.read p.0.passed slot ≡ true → (k : ℕ) → p.0.passed + 1 ≤ k → k < length p.1.read → highest p.1.read p.0.passed + 1 < lowest p.1.read k
  outside_on e k le lt = walking.list.normal.apart p.0.passed k (omega arith) lt

  pub outside_here : begins_at p.1.read p.0.passed slot ≡ false → (k : ℕ) → p.0.passed ≤ k → k < length p.1.read → slot < lowest p.1.read k
  outside_here e k le lt = elim (and_cases (nat_lt p.0.passed (length p.1.read)) ((lowest p.1.read p.0.passed) == slot) e) [
    | inl none ↦ absurd (omega (arith, ltb-false p.0.passed (length p.1.read) none))
    | inr apart ↦ elim (cases_eq k p.0.passed) [
      | inl here ↦ elim (cases_eq (lowest p.1.read p.0.passed) slot) [
        | inl same ↦ absurd (eqb-false (lowest p.1.read p.0.passed) slot apart same)
        | inr other ↦ rw here (omega (arith, walking.behind p.0.passed (omega arith) (omega arith)))
      ]
      | inr later ↦ omega (arith, walking.behind p.0.passed (omega arith) (omega arith), walking.list.normal.closed p.0.passed (omega arith), walking.list.normal.apart p.0.passed k (omega arith) lt)
    ]
  ]

  pub after_walk_goes : AreFoundFor p.0.sizes p.1 → SetGoesTogether (after_walk p)
  after_walk_goes sizes = cond_both (p.0.noted && not p.0.lists_spent) (Claim (next_words p.1)) Done (λ stage. SetGoesTogether (record p.0 { stage = stage }, p.1))
      (λ e. record { sizes = sizes; stage = record { next = walking.next; within = next_within; count = refl } })
      (λ e. record { sizes = sizes; stage = tt })

  pub after_walk_left : set_left (after_walk p).0 ≤ publish_left p.0.sizes
  after_walk_left = cond_both (p.0.noted && not p.0.lists_spent) (Claim (next_words p.1)) Done (λ stage. set_left (record p.0 { stage = stage }) ≤ publish_left p.0.sizes)
      (λ e. omega (arith, length_normal p.1.next p.0.sizes.slots walking.next next_within))
      (λ e. omega arith)

  pub at_slot_goes : AreFoundFor p.0.sizes p.1 → ((k : ℕ) → p.0.passed ≤ k → k < length p.1.read → slot < lowest p.1.read k) → SetGoesTogether (at_slot p slot)
  at_slot_goes sizes outside = cond_both (nat_lt slot p.0.end) (record p.0 { stage = Slot slot }, p.1) (after_walk p) (λ q. SetGoesTogether q)
      (λ e. record {
        sizes = sizes;
        stage = record {
          walking = record {
            list = walking.list;
            end_within = walking.end_within;
            list_before_end = walking.list_before_end;
            next = walking.next;
            next_below = walking.next_below;
            slot_within = walking.slot_within;
            passed = walking.passed;
            before = walking.before;
            behind = walking.behind;
          };
          below = ltb-true slot p.0.end e;
          outside = outside;
        };
      })
      (λ e. after_walk_goes sizes)

  pub at_slot_left : set_left (at_slot p slot).0 ≤ walk_left p.0.sizes slot
  at_slot_left = cond_both (nat_lt slot p.0.end) (record p.0 { stage = Slot slot }, p.1) (after_walk p) (λ (q : SetPair). set_left q.0 ≤ walk_left p.0.sizes slot)
      (λ e. omega arith)
      (λ e. omega (arith, after_walk_left))

-- wherever the walk is, the machine and its buffers go together
pub come_to_goes : (p : SetPair) (slot : ℕ) → IsWalking p slot → AreFoundFor p.0.sizes p.1 → SetGoesTogether (come_to p slot)
come_to_goes p slot walking sizes = cond_both (begins_at p.1.read p.0.passed slot) (at_slot (pass_interval p) (highest p.1.read p.0.passed + 1)) (at_slot p slot) (λ q. SetGoesTogether q)
    (λ e. at_slot_goes (pass_interval p) (highest p.1.read p.0.passed + 1) (walking_on p slot walking e) (record { limit = sizes.limit; room = sizes.room }) (outside_on p slot walking e))
    (λ e. at_slot_goes p slot walking sizes (outside_here p slot walking e))

pub come_to_left : (p : SetPair) (slot : ℕ) → IsWalking p slot → set_left (come_to p slot).0 ≤ walk_left p.0.sizes slot
come_to_left p slot walking = cond_both (begins_at p.1.read p.0.passed slot) (at_slot (pass_interval p) (highest p.1.read p.0.passed + 1)) (at_slot p slot)
    (λ (q : SetPair). set_left q.0 ≤ walk_left p.0.sizes slot)
    (λ e.
    let b = begun p slot walking e in
    omega (
      arith,
      at_slot_left (pass_interval p) (highest p.1.read p.0.passed + 1) (walking_on p slot walking e),
      walk_left_mono p.0.sizes slot (highest p.1.read p.0.passed + 1)
          (omega (arith, b.1, walking.list.normal.closed p.0.passed b.0)),
    ))
    (λ e. at_slot_left p slot walking)
