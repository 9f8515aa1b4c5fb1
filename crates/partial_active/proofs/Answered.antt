-- What an answer keeps: the machine and its buffers go together, and the steps left fall.
use Rattle.partial_active.proofs.{Common.{ℕ, ◌≡◌, ◌+◌, ◌-◌, ◌<◌, ◌≤◌, min, true, false, nat_eq, ◌==◌, nat_lt, [], ◌∷◌, ◌++◌, length, if◌then◌else◌, IsSome, slice_index, inl, inr, refl, sym, ap, subst, arith, false≢true, cond_both, ltb-false, eqb-true, eqb-false, length_push, IsNormal, Layout, IsLayout, list_end, list_base, pool_base, pool_end, list_block, AreFoundFor, LiesAfter, with_index, Stage, Head, ListLen, ListLow, ListHigh, Counter, Slot, Len, Index, Claim, Write, Publish, Done, SetPair, set_step_at, set_step_due, advance_set_at, come_to, note_slot, in_stage, set_left_at, set_left, walk_left, EndsBelow, IsListHead, IsListLen, IsNextLow, IsSlotWord, IsAnnouncedLen, IsListClaim, is_possible_at, IsPossibleInSet, HasRead, IsWalking, IsAtSlot, set_goes_at, SetGoesTogether, next_word, indices_word, intervals_word, mul-le-mul_right}, Extended.{normal-extended, below-extended, normal_push, below_push}, Walk.{come_to_goes, come_to_left}}

-- the empty list
normal_nil : IsNormal []
normal_nil = record {
  closed = λ k lt. absurd (omega arith);
  bounded = λ k lt. absurd (omega arith);
  apart = λ j k below lt. absurd (omega arith);
}

below_nil : (n : ℕ) → EndsBelow [] n
below_nil n k lt = absurd (omega arith)

-- what is kept of the machine and its buffers once a step was answered
pub record Keeps (q : SetPair) (left : ℕ) : Type 0 where
  pub together : SetGoesTogether q
  pub fewer : set_left q.0 < left

-- the first step of the walk
pub walk_begins : (p : SetPair) (x : ℕ) → HasRead p.0.sizes p.1.read → EndsBelow p.1.read x → p.1.next ≡ [] → IsWalking (record p.0 { end = min x p.0.sizes.slots; passed = 0 }, p.1) 0
walk_begins p x list below empty = record {
  list = list;
  end_within = omega arith;
  list_before_end = λ k lt. omega (arith, below k lt, list.within k lt);
  next = rw empty normal_nil;
  next_below = rw empty (below_nil 0);
  slot_within = omega arith;
  passed = omega arith;
  before = λ k lt. absurd (omega arith);
  behind = λ k le lt. omega arith;
}

-- the walk goes on after a slot in no interval
pub walk_next : (p : SetPair) (slot : ℕ) → IsAtSlot p slot → IsWalking p (slot + 1)
walk_next p slot here = record {
  list = here.walking.list;
  end_within = here.walking.end_within;
  list_before_end = here.walking.list_before_end;
  next = here.walking.next;
  next_below = λ k lt. omega (arith, here.walking.next_below k lt);
  slot_within = omega (arith, here.below, here.walking.end_within);
  passed = here.walking.passed;
  before = λ k lt. omega (arith, here.walking.before k lt);
  behind = λ k le lt. omega (arith, here.outside k le lt);
}

-- a slot that is noted lies after the next list
pub slot_behind : (s : Layout) (p : SetPair) (slot : ℕ) → IsLayout s → p.0.sizes ≡ s → IsAtSlot p slot → LiesAfter p.1.next slot slot
slot_behind s p slot layout same here =
    let slots : p.0.sizes.slots ≡ s.slots = ap (λ (l : Layout). l.slots) same in
    record {
      closed = omega arith;
      bounded = omega (arith, here.below, here.walking.end_within, layout.slots.1);
      beyond = here.walking.next_below;
    }

pub walk_noted : (p : SetPair) (slot : ℕ) → IsLayout p.0.sizes → IsAtSlot p slot → IsWalking (note_slot p slot) (slot + 1)
walk_noted p slot layout here =
    let behind = slot_behind p.0.sizes p slot layout refl here in
    record {
      list = here.walking.list;
      end_within = here.walking.end_within;
      list_before_end = here.walking.list_before_end;
      next = normal-extended p.1.next slot slot here.walking.next behind;
      next_below = below-extended p.1.next slot slot here.walking.next behind (slot + 1) (λ k lt. omega (arith, here.walking.next_below k lt)) (omega arith);
      slot_within = omega (arith, here.below, here.walking.end_within);
      passed = here.walking.passed;
      before = λ k lt. omega (arith, here.walking.before k lt);
      behind = λ k le lt. omega (arith, here.outside k le lt);
    }

-- the walk takes at least one step for each slot
slot_steps : (s : Layout) (slot : ℕ) → slot < s.slots → walk_left s (slot + 1) + s.m + 2 ≤ walk_left s slot
slot_steps s slot lt =
    let one_more : s.slots - (slot + 1) + 1 ≤ s.slots - slot = omega arith in
    omega (arith, mul-le-mul_right (s.m + 2) one_more)

module _ (p : SetPair) (layout : IsLayout p.0.sizes) (sizes : AreFoundFor p.0.sizes p.1) where
  -- all steps but those for the list
  walk_whole : walk_left p.0.sizes 0 + p.0.sizes.lists + 2 ≡ set_left_at p.0.sizes Head
  walk_whole = let all : p.0.sizes.slots - 0 ≡ p.0.sizes.slots = omega arith in rw all (omega arith)

  head_word : (x : ℕ) → IsListHead p.0.sizes x → nat_eq x 0 ≡ false → (list_base p.0.sizes ≤ x) × (x < list_end p.0.sizes)
  head_word x possible e = elim possible [ inl none ↦ absurd (eqb-false x 0 e none) | inr some ↦ some ]

  pub keeps_head : (x : ℕ) → IsListHead p.0.sizes x → Keeps (advance_set_at Head p x) (set_left_at p.0.sizes Head)
  keeps_head x possible = cond_both (x == 0) Counter (ListLen x) (λ stage. Keeps (record p.0 { head = x; stage = stage }, record p.1 { indices = []; read = []; next = [] })
      (set_left_at p.0.sizes Head))
      (λ e. record {
        together = record { sizes = record { limit = sizes.limit; room = sizes.room }; stage = (record { normal = normal_nil; within = below_nil p.0.sizes.slots }, refl) };
        fewer = omega (arith, walk_whole);
      })
      (λ e. record {
        together = record { sizes = record { limit = sizes.limit; room = sizes.room }; stage = (refl, refl, (head_word x possible e).0, (head_word x possible e).1) };
        fewer = omega (arith, walk_whole, head_word x possible e);
      })

  pub keeps_list_len : (at x : ℕ) → set_goes_at (ListLen at) p → IsListLen p.0.sizes at x → Keeps (advance_set_at (ListLen at) p x) (set_left_at p.0.sizes (ListLen at))
  keeps_list_len at x goes possible =
      let none : length p.1.read ≡ 0 = ap length goes.0 in
      let list : HasRead p.0.sizes p.1.read = rw goes.0 (record { normal = normal_nil; within = below_nil p.0.sizes.slots }) in
      cond_both (x == 0) Counter (ListLow (intervals_word at) x) (λ stage. Keeps (in_stage p stage) (set_left_at p.0.sizes (ListLen at)))
      (λ e. record {
        together = record { sizes = sizes; stage = (list, goes.1) };
        fewer = omega (arith, goes.3);
      })
      (λ e. record {
        together = record {
          sizes = sizes;
          stage = (
            record {
              list = list;
              next = goes.1;
              some = omega (arith, eqb-false x 0 e);
              room = omega (arith, none, possible.1);
            },
            omega (arith, possible.0),
          );
        };
        fewer = omega (arith, possible.0);
      })

  pub keeps_list_low : (at left x : ℕ) → set_goes_at (ListLow at left) p → IsNextLow p.0.sizes p.1.read x → Keeps (advance_set_at (ListLow at left) p x) (set_left_at p.0.sizes (ListLow at left))
  keeps_list_low at left x goes possible = record {
    together = record {
      sizes = sizes;
      stage = (
        record {
          list = goes.0.list;
          next = goes.0.next;
          some = goes.0.some;
          room = goes.0.room;
        },
        omega (arith, goes.1),
        possible,
      );
    };
    fewer = omega arith;
  }

  pub keeps_list_high : (at left lo x : ℕ) → set_goes_at (ListHigh at left lo) p → (lo ≤ x) × (x < p.0.sizes.slots) →
      Keeps (advance_set_at (ListHigh at left lo) p x) (set_left_at p.0.sizes (ListHigh at left lo))
  keeps_list_high at left lo x goes possible =
      let list : HasRead p.0.sizes (p.1.read ++ (lo, x) ∷ []) = record {
        normal = normal_push p.1.read lo x goes.0.list.normal (record { closed = possible.0; bounded = omega (arith, possible.1, layout.slots.1); beyond = goes.2.1 });
        within = below_push p.1.read lo x p.0.sizes.slots goes.0.list.within possible.1;
      } in
      let longer = length_push p.1.read (lo, x) in
      cond_both (left == 1) Counter (ListLow (next_word at) (left - 1)) (λ stage. Keeps (record p.0 { stage = stage }, record p.1 { read = p.1.read ++ (lo, x) ∷ [] })
      (set_left_at p.0.sizes (ListHigh at left lo)))
      (λ e. record {
        together = record { sizes = record { limit = sizes.limit; room = sizes.room }; stage = (list, goes.0.next) };
        fewer = omega (arith, eqb-true left 1 e);
      })
      (λ e.
      let more : 1 < left = omega (arith, eqb-false left 1 e, goes.0.some) in
      record {
        together = record {
          sizes = record { limit = sizes.limit; room = sizes.room };
          stage = (
            record {
              list = list;
              next = goes.0.next;
              some = omega (arith, more);
              room = omega (arith, longer, goes.0.room, more);
            },
            omega (arith, goes.1, more),
          );
        };
        fewer = omega (arith, more);
      })

  pub keeps_counter : (x : ℕ) → set_goes_at Counter p → EndsBelow p.1.read x → Keeps (advance_set_at Counter p x) (set_left_at p.0.sizes Counter)
  keeps_counter x goes possible =
      let q : SetPair = (record p.0 { end = min x p.0.sizes.slots; passed = 0 }, p.1) in
      let walking = walk_begins p x goes.0 possible goes.1 in
      record {
        together = come_to_goes q 0 walking sizes;
        fewer = omega (arith, come_to_left q 0 walking);
      }

  -- the walk goes on at the next slot
  keeps_next : (slot left : ℕ) → IsWalking p (slot + 1) → walk_left p.0.sizes (slot + 1) < left → Keeps (come_to p (slot + 1)) left
  keeps_next slot left walking more = record {
    together = come_to_goes p (slot + 1) walking sizes;
    fewer = omega (arith, come_to_left p (slot + 1) walking);
  }

  at_in_stage : (slot : ℕ) (stage : Stage) → IsAtSlot p slot → IsAtSlot (in_stage p stage) slot
  at_in_stage slot stage here = record {
    walking = record {
      list = here.walking.list;
      end_within = here.walking.end_within;
      list_before_end = here.walking.list_before_end;
      next = here.walking.next;
      next_below = here.walking.next_below;
      slot_within = here.walking.slot_within;
      passed = here.walking.passed;
      before = here.walking.before;
      behind = here.walking.behind;
    };
    below = here.below;
    outside = here.outside;
  }

  fewer_at : (slot : ℕ) → IsAtSlot p slot → walk_left p.0.sizes (slot + 1) + p.0.sizes.m + 2 ≤ walk_left p.0.sizes slot
  fewer_at slot here = slot_steps p.0.sizes slot (omega (arith, here.below, here.walking.end_within))

  pub keeps_len : (slot at x : ℕ) → set_goes_at (Len slot at) p → IsAnnouncedLen p.0.sizes at x → Keeps (advance_set_at (Len slot at) p x) (set_left_at p.0.sizes (Len slot at))
  keeps_len slot at x goes possible = cond_both (x == 0) (come_to p (slot + 1)) (in_stage p (Index slot (indices_word at) x)) (λ q. Keeps q (set_left_at p.0.sizes (Len slot at)))
      (λ e. keeps_next slot (set_left_at p.0.sizes (Len slot at)) (walk_next p slot goes.0) (omega arith))
      (λ e. record {
        together = record { sizes = sizes; stage = (at_in_stage slot (Index slot (indices_word at) x) goes.0, omega (arith, eqb-false x 0 e), possible.1, omega (arith, possible.0)) };
        fewer = omega (arith, possible.1);
      })

  pub keeps_claim : (words x : ℕ) → set_goes_at (Claim words) p → IsListClaim p.0.sizes x → Keeps (advance_set_at (Claim words) p x) (set_left_at p.0.sizes (Claim words))
  keeps_claim words x goes possible = cond_both (nat_lt (list_end p.0.sizes) (x + words)) (record p.0 { lists_spent = true; stage = Done }, p.1) (in_stage p (Write x 0 words (length p.1.next)))
      (λ q. Keeps q (set_left_at p.0.sizes (Claim words)))
      (λ e. record { together = record { sizes = record { limit = sizes.limit; room = sizes.room }; stage = tt }; fewer = omega arith })
      (λ e. record {
        together = record {
          sizes = sizes;
          stage = (
            record { next = goes.next; within = goes.within; count = goes.count },
            omega (arith, goes.count),
            ltb-false (list_end p.0.sizes) (x + words) e,
            refl,
          );
        };
        fewer = omega arith;
      })

  pub keeps_write : (at k words word x : ℕ) → set_goes_at (Write at k words word) p → Keeps (advance_set_at (Write at k words word) p x) (set_left_at p.0.sizes (Write at k words word))
  keeps_write at k words word x goes = cond_both ((k + 1) == words) (Publish at) (Write at (k + 1) words (slice_index (list_block p.1.next) (k + 1)))
      (λ stage. Keeps (in_stage p stage) (set_left_at p.0.sizes (Write at k words word)))
      (λ e. record { together = record { sizes = sizes; stage = (goes.0.next, goes.0.within) }; fewer = omega (arith, goes.1) })
      (λ e. record {
        together = record { sizes = sizes; stage = (record { next = goes.0.next; within = goes.0.within; count = goes.0.count }, omega (arith, goes.1, eqb-false (k + 1) words e), goes.2, refl) };
        fewer = omega (arith, goes.1);
      })

  pub keeps_publish : (at x : ℕ) → Keeps (advance_set_at (Publish at) p x) (set_left_at p.0.sizes (Publish at))
  keeps_publish at x = record { together = record { sizes = sizes; stage = tt }; fewer = omega arith }

-- an index that is put at the end changes nothing else
pub at_with : (p : SetPair) (slot index : ℕ) → IsAtSlot p slot → IsAtSlot (p.0, record p.1 { indices = with_index p.1.indices index }) slot
at_with p slot index here = record {
  walking = record {
    list = here.walking.list;
    end_within = here.walking.end_within;
    list_before_end = here.walking.list_before_end;
    next = here.walking.next;
    next_below = here.walking.next_below;
    slot_within = here.walking.slot_within;
    passed = here.walking.passed;
    before = here.walking.before;
    behind = here.walking.behind;
  };
  below = here.below;
  outside = here.outside;
}

module _ (p : SetPair) (layout : IsLayout p.0.sizes) (sizes : AreFoundFor p.0.sizes p.1) where
  pub keeps_index : (slot at left x : ℕ) → set_goes_at (Index slot at left) p → x < p.0.sizes.m → Keeps (advance_set_at (Index slot at left) p x) (set_left_at p.0.sizes (Index slot at left))
  keeps_index slot at left x goes possible =
      let q : SetPair = (p.0, record p.1 { indices = with_index p.1.indices x }) in
      let q_sizes : AreFoundFor p.0.sizes q.1 = record { limit = sizes.limit; room = sizes.room } in
      let here = at_with p slot x goes.0 in
      cond_both (left == 1) (come_to q (slot + 1)) (in_stage q (Index slot (next_word at) (left - 1))) (λ r. Keeps r (set_left_at p.0.sizes (Index slot at left)))
      (λ e. keeps_next q layout q_sizes slot (set_left_at p.0.sizes (Index slot at left)) (walk_next q slot here) (omega (arith, goes.1)))
      (λ e.
      let more : 1 < left = omega (arith, eqb-false left 1 e, goes.1) in
      record {
        together = record {
          sizes = q_sizes;
          stage = (
            at_in_stage q layout q_sizes slot (Index slot (next_word at) (left - 1)) here,
            omega (arith, more),
            omega (arith, goes.2),
            omega (arith, goes.3, more),
          );
        };
        fewer = omega (arith, more);
      })

  pub keeps_slot : (slot x : ℕ) → set_goes_at (Slot slot) p → IsSlotWord p.0.sizes x → Keeps (advance_set_at (Slot slot) p x) (set_left_at p.0.sizes (Slot slot))
  keeps_slot slot x goes possible =
      let fewer = fewer_at p layout sizes slot goes in
      let noted = note_slot p slot in
      let noted_sizes : AreFoundFor p.0.sizes noted.1 = record { limit = sizes.limit; room = sizes.room } in
      cond_both (x == 0) (come_to p (slot + 1)) (if x == 1 then come_to noted (slot + 1) else in_stage p (Len slot x)) (λ q. Keeps q (set_left_at p.0.sizes (Slot slot)))
      (λ e. keeps_next p layout sizes slot (set_left_at p.0.sizes (Slot slot)) (walk_next p slot goes) (omega (arith, fewer)))
      (λ not_empty. cond_both (x == 1) (come_to noted (slot + 1)) (in_stage p (Len slot x)) (λ q. Keeps q (set_left_at p.0.sizes (Slot slot)))
      (λ e. keeps_next noted layout noted_sizes slot (set_left_at p.0.sizes (Slot slot)) (walk_noted p slot layout goes) (omega (arith, fewer)))
      (λ not_vacated.
      let word : (pool_base p.0.sizes ≤ x) × (x < pool_end p.0.sizes) = elim possible [
        | inl empty ↦ absurd (eqb-false x 0 not_empty empty)
        | inr some ↦ elim some [ inl vacated ↦ absurd (eqb-false x 1 not_vacated vacated) | inr is ↦ is ]
      ] in
      record {
        together = record { sizes = sizes; stage = (at_in_stage p layout sizes slot (Len slot x) goes, word.0, word.1) };
        fewer = omega (arith, fewer);
      }))

-- a due step with a possible answer keeps the machine and its buffers together, and leaves fewer steps
pub keeps_at : (stage : Stage) (p : SetPair) (x : ℕ) → IsLayout p.0.sizes → AreFoundFor p.0.sizes p.1 → IsSome (set_step_at p.0.sizes p.0.head stage) → set_goes_at stage p → is_possible_at stage p x →
    Keeps (advance_set_at stage p x) (set_left_at p.0.sizes stage)
keeps_at Head p x layout sizes due goes possible = keeps_head p layout sizes x possible
keeps_at (ListLen at) p x layout sizes due goes possible = keeps_list_len p layout sizes at x goes possible
keeps_at (ListLow at left) p x layout sizes due goes possible = keeps_list_low p layout sizes at left x goes possible
keeps_at (ListHigh at left lo) p x layout sizes due goes possible = keeps_list_high p layout sizes at left lo x goes possible
keeps_at Counter p x layout sizes due goes possible = keeps_counter p layout sizes x goes possible
keeps_at (Slot slot) p x layout sizes due goes possible = keeps_slot p layout sizes slot x goes possible
keeps_at (Len slot at) p x layout sizes due goes possible = keeps_len p layout sizes slot at x goes possible
keeps_at (Index slot at left) p x layout sizes due goes possible = keeps_index p layout sizes slot at left x goes possible
keeps_at (Claim words) p x layout sizes due goes possible = keeps_claim p layout sizes words x goes possible
keeps_at (Write at k words word) p x layout sizes due goes possible = keeps_write p layout sizes at k words word x goes
keeps_at (Publish at) p x layout sizes due goes possible = keeps_publish p layout sizes at x
keeps_at Done p x layout sizes due goes possible = absurd (false≢true due)

-- the same for the next machine and its buffers, whatever the stage is called
pub kept : (p q : SetPair) (x : ℕ) (stage : Stage) → p.0.stage ≡ stage → q ≡ advance_set_at stage p x → IsLayout p.0.sizes → SetGoesTogether p → IsPossibleInSet p x → IsSome (set_step_due p.0) →
    Keeps q (set_left p.0)
kept p q x stage is same layout together possible due =
    subst (λ r. Keeps r (set_left p.0)) (sym same) (subst (λ s. Keeps (advance_set_at s p x) (set_left p.0)) is (keeps_at p.0.stage p x layout together.sizes due together.stage possible))
