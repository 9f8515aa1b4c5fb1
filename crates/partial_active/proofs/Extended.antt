-- The list that a walk makes: it stays a normal form, and gains the numbers that were put after it.
use Rattle.partial_active.proofs.Common.{ℕ, zero, suc, ◌≡◌, ◌+◌, ◌-◌, ◌*◌, ◌<◌, ◌≤◌, ◌⊎◌, true, false, ◌==◌, nat_lt, [], ◌∷◌, ◌++◌, length, slice_set, inl, inr, refl, sym, ap, arith, cases_eq, cases_lt, cond_both, and_parts, and_cases, ltb-true, ltb-false, eqb-true, eqb-false, length_push, get_or_append_left, get_or_push, length-set, Ranges, lowest, highest, Holds, IsNormal, GoesOn, extended_list, touches, last_place, LiesAfter, EndsBelow}
use Rattle.partial_intervals.proofs.Edits.{normal_set, highest_here, highest_other, lowest_here, lowest_other}

-- intervals that lie apart take two numbers each, but for the last
starts_late : (list : Ranges) → IsNormal list → (k : ℕ) → k < length list → 2 * k ≤ lowest list k
starts_late list normal zero lt = omega arith
starts_late list normal (suc k) lt = omega (arith, starts_late list normal k (omega arith), normal.closed k (omega arith), normal.apart k (suc k) (omega arith) lt)

pub length_normal : (list : Ranges) (n : ℕ) → IsNormal list → EndsBelow list n → 2 * length list ≤ n + 1
length_normal list n normal below = elim (cases_eq (length list) 0) [
  | inl none ↦ omega arith
  | inr some ↦
      let last : length list - 1 < length list = omega arith in
      omega (arith, starts_late list normal (length list - 1) last, normal.closed (length list - 1) last, below (length list - 1) last)
]

module _ (list : Ranges) (lo hi : ℕ) where
  pushed : length (list ++ (lo, hi) ∷ []) ≡ length list + 1
  pushed = length_push list (lo, hi)

  low_before : (k : ℕ) → k < length list → lowest (list ++ (lo, hi) ∷ []) k ≡ lowest list k
  low_before k lt = ap (λ (r : ℕ × ℕ). r.0) (get_or_append_left list ((lo, hi) ∷ []) (0, 0) k lt)

  high_before : (k : ℕ) → k < length list → highest (list ++ (lo, hi) ∷ []) k ≡ highest list k
  high_before k lt = ap (λ (r : ℕ × ℕ). r.1) (get_or_append_left list ((lo, hi) ∷ []) (0, 0) k lt)

  low_last : (k : ℕ) → k ≡ length list → lowest (list ++ (lo, hi) ∷ []) k ≡ lo
  low_last k e = ap (λ (r : ℕ × ℕ). r.0) (get_or_push list (lo, hi) (0, 0) k (sym e))

  high_last : (k : ℕ) → k ≡ length list → highest (list ++ (lo, hi) ∷ []) k ≡ hi
  high_last k e = ap (λ (r : ℕ × ℕ). r.1) (get_or_push list (lo, hi) (0, 0) k (sym e))

  pub normal_push : IsNormal list → GoesOn list lo hi → IsNormal (list ++ (lo, hi) ∷ [])
  normal_push normal goes = record {
    closed = λ k lt. elim (cases_lt k (length list)) [
      | inl before ↦ omega (arith, low_before k before, high_before k before, normal.closed k before)
      | inr last ↦ omega (arith, low_last k (omega (arith, pushed)), high_last k (omega (arith, pushed)), goes.closed)
    ];
    bounded = λ k lt. elim (cases_lt k (length list)) [
      | inl before ↦ omega (arith, high_before k before, normal.bounded k before)
      | inr last ↦ omega (arith, high_last k (omega (arith, pushed)), goes.bounded)
    ];
    apart = λ j k below lt.
        let j_before : j < length list = omega (arith, pushed) in
        elim (cases_lt k (length list)) [
          | inl before ↦ omega (arith, high_before j j_before, low_before k before, normal.apart j k below before)
          | inr last ↦ omega (arith, high_before j j_before, low_last k (omega (arith, pushed)), goes.beyond j j_before)
        ];
  }

  pub below_push : (n : ℕ) → EndsBelow list n → hi < n → EndsBelow (list ++ (lo, hi) ∷ []) n
  below_push n below last_below k lt = elim (cases_lt k (length list)) [
    | inl before ↦ omega (arith, high_before k before, below k before)
    | inr last ↦ omega (arith, high_last k (omega (arith, pushed)))
  ]

  -- what touching and not touching mean
  touching : touches list lo ≡ true → (0 < length list) × (highest list (last_place list) + 1 ≡ lo)
  touching e =
      let both = and_parts (nat_lt 0 (length list)) ((highest list (last_place list) + 1) == lo) e in
      (ltb-true 0 (length list) both.0, eqb-true (highest list (last_place list) + 1) lo both.1)

  apart_from : IsNormal list → LiesAfter list lo hi → touches list lo ≡ false → GoesOn list lo hi
  apart_from normal behind e = record {
    closed = behind.closed;
    bounded = behind.bounded;
    beyond = λ k lt. elim (and_cases (nat_lt 0 (length list)) ((highest list (last_place list) + 1) == lo) e) [
      | inl none ↦ absurd (omega (arith, ltb-false 0 (length list) none))
      | inr apart ↦ elim (cases_eq k (last_place list)) [
        | inl here ↦ elim (cases_eq (highest list (last_place list) + 1) lo) [
          | inl same ↦ absurd (eqb-false (highest list (last_place list) + 1) lo apart same)
          | inr other ↦ rw here (omega (arith, behind.beyond (last_place list) (omega arith)))
        ]
        | inr before ↦ omega (arith, normal.apart k (last_place list) (omega arith) (omega arith), normal.closed (last_place list) (omega arith), behind.beyond (last_place list) (omega arith))
      ]
    ];
  }

module _ (list : Ranges) (lo hi : ℕ) (normal : IsNormal list) (behind : LiesAfter list lo hi) where
  pub normal-extended : IsNormal (extended_list list lo hi)
  normal-extended = cond_both (touches list lo) (slice_set list (last_place list) (lowest list (last_place list), hi)) (list ++ (lo, hi) ∷ []) (λ l. IsNormal l)
      (λ e.
      let t = touching list lo hi e in
      let last : last_place list < length list = omega (arith, t.0) in
      normal_set list normal (last_place list) (lowest list (last_place list)) hi last
      (omega (arith, normal.closed (last_place list) last, behind.closed, t.1))
      behind.bounded
      (λ j lt. normal.apart j (last_place list) lt last)
      (λ k lt inside. absurd (omega arith)))
      (λ e. normal_push list lo hi normal (apart_from list lo hi normal behind e))

  pub below-extended : (n : ℕ) → EndsBelow list n → hi < n → EndsBelow (extended_list list lo hi) n
  below-extended n below last_below = cond_both (touches list lo) (slice_set list (last_place list) (lowest list (last_place list), hi)) (list ++ (lo, hi) ∷ []) (λ l. EndsBelow l n)
      (λ e k lt.
      let t = touching list lo hi e in
      let last : last_place list < length list = omega (arith, t.0) in
      elim (cases_eq k (last_place list)) [
        | inl here ↦ rw here (omega (arith, highest_here list (last_place list) (lowest list (last_place list), hi) last))
        | inr other ↦ omega (
          arith,
          highest_other list (last_place list) (lowest list (last_place list), hi) last k other,
          below k (omega (arith, length-set list (last_place list) (lowest list (last_place list), hi))),
        )
      ])
      (λ e. below_push list lo hi n below last_below)

-- it holds what the list held, and the new numbers
pub held_extended : (list : Ranges) (lo hi : ℕ) → IsNormal list → (x : ℕ) → Holds (extended_list list lo hi) x → Holds list x ⊎ ((lo ≤ x) × (x ≤ hi))
held_extended list lo hi normal x = cond_both (touches list lo) (slice_set list (last_place list) (lowest list (last_place list), hi)) (list ++ (lo, hi) ∷ [])
    (λ l. Holds l x → Holds list x ⊎ ((lo ≤ x) × (x ≤ hi)))
    (λ e h.
    let t = touching list lo hi e in
    let last : last_place list < length list = omega (arith, t.0) in
    let same = length-set list (last_place list) (lowest list (last_place list), hi) in
    elim (cases_eq h.0 (last_place list)) [
      | inl here ↦
          let from : lowest list (last_place list) ≤ x = omega (arith, lowest_here list (last_place list) (lowest list (last_place list), hi) last, rw here at h.2) in
          let to : x ≤ hi = omega (arith, highest_here list (last_place list) (lowest list (last_place list), hi) last, rw here at h.3) in
          elim (cases_lt x lo) [
            | inl below ↦ inl (last_place list, last, from, omega (arith, t.1))
            | inr above ↦ inr (above, to)
          ]
      | inr other ↦ inl (
        h.0,
        omega (arith, same),
        omega (arith, lowest_other list (last_place list) (lowest list (last_place list), hi) last h.0 other),
        omega (arith, highest_other list (last_place list) (lowest list (last_place list), hi) last h.0 other),
      )
    ])
    (λ e h. elim (cases_lt h.0 (length list)) [
      | inl before ↦ inl (h.0, before, omega (arith, low_before list lo hi h.0 before), omega (arith, high_before list lo hi h.0 before))
      | inr last ↦ inr (omega (arith, low_last list lo hi h.0 (omega (arith, pushed list lo hi))), omega (arith, high_last list lo hi h.0 (omega (arith, pushed list lo hi))))
    ])

-- and it holds what the list held and the new numbers
pub holds_extended : (list : Ranges) (lo hi : ℕ) → IsNormal list → LiesAfter list lo hi → (x : ℕ) → Holds list x ⊎ ((lo ≤ x) × (x ≤ hi)) → Holds (extended_list list lo hi) x
holds_extended list lo hi normal behind x = cond_both (touches list lo) (slice_set list (last_place list) (lowest list (last_place list), hi)) (list ++ (lo, hi) ∷ [])
    (λ l. Holds list x ⊎ ((lo ≤ x) × (x ≤ hi)) → Holds l x)
    (λ e.
    let t = touching list lo hi e in
    let last : last_place list < length list = omega (arith, t.0) in
    let same = length-set list (last_place list) (lowest list (last_place list), hi) in
    let low = lowest_here list (last_place list) (lowest list (last_place list), hi) last in
    let high = highest_here list (last_place list) (lowest list (last_place list), hi) last in
    λ h. elim h [
      | inl held ↦ elim (cases_eq held.0 (last_place list)) [
        | inl here ↦
            let from : lowest list (last_place list) ≤ x = rw here at held.2 in
            let to : x ≤ highest list (last_place list) = rw here at held.3 in
            let closed = behind.closed in
            (last_place list, omega (arith, same, last), omega (arith, low, from), omega (arith, high, to, t.1, closed))
        | inr other ↦ (
          held.0,
          omega (arith, same, held.1),
          omega (arith, lowest_other list (last_place list) (lowest list (last_place list), hi) last held.0 other, held.2),
          omega (arith, highest_other list (last_place list) (lowest list (last_place list), hi) last held.0 other, held.3),
        )
      ]
      | inr new ↦
          let from : lowest list (last_place list) ≤ x = omega (arith, new.0, t.1, normal.closed (last_place list) last) in
          (last_place list, omega (arith, same, last), omega (arith, low, from), omega (arith, high, new.1))
    ])
    (λ e h. elim h [
      | inl held ↦ (held.0, omega (arith, pushed list lo hi, held.1), omega (arith, low_before list lo hi held.0 held.1, held.2), omega (arith, high_before list lo hi held.0 held.1, held.3))
      | inr new ↦ (length list, omega (arith, pushed list lo hi), omega (arith, low_last list lo hi (length list) refl, new.0), omega (arith, high_last list lo hi (length list) refl, new.1))
    ])
