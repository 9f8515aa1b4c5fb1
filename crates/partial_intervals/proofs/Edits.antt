-- What each edit of `add` makes of the list: a normal form of the set with one number more.
use Rattle.partial_intervals.proofs.Common.{◌≡◌, ℕ, ◌+◌, ◌-◌, ◌<◌, ◌≤◌, ◌↔◌, ◌⊎◌, length, slice_index_or, slice_set, inl, inr, ap, subst, ◌∙◌, arith, insert, remove, cases_eq, cases_lt, cases_order, Ranges, lowest, highest, Holds, IsNormal, IsCountUpTo}
use Rattle.std.proofs.lemmas.List.{length-set, get_or_read, get_or-set_same, get_or-set_other}
use Rattle.std.proofs.lemmas.List.Edits.{length-insert, get_or-insert_below, get_or-insert_at, get_or-insert_above, length-remove, get_or-remove_below, get_or-remove_above}

-- the new list is the normal form of the old set with l
pub record Adds (old new : Ranges) (l : ℕ) : Type 0 where
  pub normal : IsNormal new
  pub held : (x : ℕ) → Holds new x ↔ (Holds old x ⊎ (x ≡ l))

module _ (list : Ranges) (i : ℕ) (range : ℕ × ℕ) (within : i < length list) where
  -- the interval that was written
  pub lowest_here : lowest (slice_set list i range) i ≡ range.0
  lowest_here = ap (λ (r : ℕ × ℕ). r.0) (get_or-set_same list i range (0, 0) within)

  pub highest_here : highest (slice_set list i range) i ≡ range.1
  highest_here = ap (λ (r : ℕ × ℕ). r.1) (get_or-set_same list i range (0, 0) within)

  -- another one stays
  pub lowest_other : (k : ℕ) → (k ≡ i → ⊥) → lowest (slice_set list i range) k ≡ lowest list k
  lowest_other k other = ap (λ (r : ℕ × ℕ). r.0) (get_or-set_other list i k range (0, 0) other)

  pub highest_other : (k : ℕ) → (k ≡ i → ⊥) → highest (slice_set list i range) k ≡ highest list k
  highest_other k other = ap (λ (r : ℕ × ℕ). r.1) (get_or-set_other list i k range (0, 0) other)

module _ (list : Ranges) (normal : IsNormal list) (i lo hi : ℕ) (within : i < length list) (closed : lo ≤ hi) (bounded : hi < 4294967295) (before : (j : ℕ) → j < i → highest list j + 1 < lo)
    (after : (k : ℕ) → i < k → k < length list → hi + 1 < lowest list k) where
  -- an interval may grow where it touches no other
  pub normal_set : IsNormal (slice_set list i (lo, hi))
  normal_set = record {
    closed = λ k lt. elim (cases_eq k i) [
      | inl here ↦ rw here (omega (arith, lowest_here list i (lo, hi) within, highest_here list i (lo, hi) within))
      | inr other ↦ omega (arith, lowest_other list i (lo, hi) within k other, highest_other list i (lo, hi) within k other, normal.closed k (omega (arith, length-set list i (lo, hi))))
    ];
    bounded = λ k lt. elim (cases_eq k i) [
      | inl here ↦ rw here (omega (arith, highest_here list i (lo, hi) within))
      | inr other ↦ omega (arith, highest_other list i (lo, hi) within k other, normal.bounded k (omega (arith, length-set list i (lo, hi))))
    ];
    apart = λ j k below lt.
        let k_within : k < length list = omega (arith, length-set list i (lo, hi)) in
        elim (cases_eq j i) [
          | inl here ↦ rw here (omega (arith, highest_here list i (lo, hi) within, lowest_other list i (lo, hi) within k (λ e. omega arith), after k (omega arith) k_within))
          | inr j_other ↦ elim (cases_eq k i) [
            | inl here ↦ rw here (omega (arith, lowest_here list i (lo, hi) within, highest_other list i (lo, hi) within j j_other, before j (omega arith)))
            | inr k_other ↦ omega (arith, highest_other list i (lo, hi) within j j_other, lowest_other list i (lo, hi) within k k_other, normal.apart j k below k_within)
          ]
        ];
  }

  -- it then holds what it held, and what the interval gained
  pub held_set : (l : ℕ) → (lo ≤ l) × (l ≤ hi) → lo ≤ lowest list i → highest list i ≤ hi → ((x : ℕ) → lo ≤ x → x ≤ hi → ((lowest list i ≤ x) × (x ≤ highest list i)) ⊎ (x ≡ l)) → (x : ℕ) →
      Holds (slice_set list i (lo, hi)) x ↔ (Holds list x ⊎ (x ≡ l))
  held_set l gained low high grows x = (
    λ h. elim (cases_eq h.0 i) [
      | inl here ↦
          let at = h.2 in
          elim (grows x (omega (arith, lowest_here list i (lo, hi) within, rw here at h.2)) (omega (arith, highest_here list i (lo, hi) within, rw here at h.3))) [
            | inl was ↦ inl (i, within, was.0, was.1)
            | inr is ↦ inr is
          ]
      | inr other ↦ inl (h.0, omega (arith, length-set list i (lo, hi)), omega (arith, lowest_other list i (lo, hi) within h.0 other), omega (arith, highest_other list i (lo, hi) within h.0 other))
    ],
    λ h. elim h [
      | inl was ↦ elim (cases_eq was.0 i) [
        | inl here ↦ (
          i,
          omega (arith, length-set list i (lo, hi)),
          omega (arith, lowest_here list i (lo, hi) within, rw here at was.2),
          omega (arith, highest_here list i (lo, hi) within, rw here at was.3),
        )
        | inr other ↦ (
          was.0,
          omega (arith, length-set list i (lo, hi)),
          omega (arith, lowest_other list i (lo, hi) within was.0 other),
          omega (arith, highest_other list i (lo, hi) within was.0 other),
        )
      ]
      | inr is ↦ (i, omega (arith, length-set list i (lo, hi)), omega (arith, lowest_here list i (lo, hi) within), omega (arith, highest_here list i (lo, hi) within))
    ],
  )

module _ (list : Ranges) (normal : IsNormal list) (l : ℕ) (small : l < 4294967295) (count : ℕ) (counted : IsCountUpTo list l count)
    (beyond_last : (0 < count) × (l ≤ highest list (count - 1)) → ⊥) where
  -- the intervals before the place end below l, since they lie apart
  ends_below : (j : ℕ) → j < count → highest list j < l
  ends_below j lt = elim (cases_lt (highest list (count - 1)) l) [
    | inl below ↦ elim (cases_eq j (count - 1)) [
      | inl here ↦ rw here below
      | inr other ↦ omega (arith, normal.apart j (count - 1) (omega arith) (omega (arith, counted.in_range)), normal.closed (count - 1) (omega (arith, counted.in_range)))
    ]
    | inr above ↦ absurd (beyond_last (omega arith, above))
  ]

  -- those before the last of them do not touch it
  ends_apart : (j : ℕ) → j + 1 < count → highest list j + 1 < l
  ends_apart j lt = omega (
    arith,
    ends_below (count - 1) (omega arith),
    normal.apart j (count - 1) (omega arith) (omega (arith, counted.in_range)),
    normal.closed (count - 1) (omega (arith, counted.in_range)),
  )

  -- where the interval before does not touch l either, all of them end apart from it
  all_apart : ((0 < count) × (highest list (count - 1) + 1 ≡ l) → ⊥) → (j : ℕ) → j < count → highest list j + 1 < l
  all_apart apart j lt = elim (cases_eq j (count - 1)) [
    | inl here ↦ elim (cases_eq (highest list (count - 1) + 1) l) [
      | inl touching ↦ absurd (apart (omega arith, touching))
      | inr other ↦ rw here (omega (arith, ends_below (count - 1) (omega arith)))
    ]
    | inr other ↦ ends_apart j (omega arith)
  ]

  -- and the same after l
  begin_apart : ((count < length list) × (l + 1 ≡ lowest list count) → ⊥) → (k : ℕ) → count ≤ k → k < length list → l + 1 < lowest list k
  begin_apart apart k le inside = elim (cases_eq k count) [
    | inl here ↦ elim (cases_eq (l + 1) (lowest list count)) [
      | inl touching ↦ absurd (apart (omega arith, touching))
      | inr other ↦ rw here (omega (arith, counted.beyond count (omega arith) (omega arith)))
    ]
    | inr later ↦ omega (arith, counted.beyond count (omega arith) (omega arith), normal.closed count (omega arith), normal.apart count k (omega arith) inside)
  ]

  -- the interval before the place grows by l
  pub adds_before : (range : ℕ × ℕ) → range ≡ slice_index_or list (count - 1) range → (0 < count) × (highest list (count - 1) + 1 ≡ l) → ((count < length list) × (l + 1 ≡ lowest list count) → ⊥) →
      Adds list (slice_set list (count - 1) (range.0, l)) l
  adds_before range read touches apart_after =
      let within : count - 1 < length list = omega (arith, counted.in_range, touches.0) in
      let low : range.0 ≡ lowest list (count - 1) = ap (λ (r : ℕ × ℕ). r.0) (get_or_read list (count - 1) range within read (0, 0)) in
      let closed = normal.closed (count - 1) within in
      record {
        normal = normal_set list normal (count - 1) range.0 l within (omega arith) small
            (λ j lt. omega (arith, normal.apart j (count - 1) lt within))
            (λ k lt inside. begin_apart apart_after k (omega arith) inside);
        held = held_set list normal (count - 1) range.0 l within (omega arith) small
            (λ j lt. omega (arith, normal.apart j (count - 1) lt within))
            (λ k lt inside. begin_apart apart_after k (omega arith) inside)
            l (omega arith, omega arith) (omega arith) (omega arith)
            (λ x from to. elim (cases_eq x l) [ inl is ↦ inr is | inr other ↦ inl (omega arith, omega arith) ]);
      }

  -- the interval at the place grows by l
  pub adds_after : (range : ℕ × ℕ) → range ≡ slice_index_or list count range → ((0 < count) × (highest list (count - 1) + 1 ≡ l) → ⊥) → (count < length list) × (l + 1 ≡ lowest list count) →
      Adds list (slice_set list count (l, range.1)) l
  adds_after range read apart_before touches =
      let within : count < length list = touches.0 in
      let high : range.1 ≡ highest list count = ap (λ (r : ℕ × ℕ). r.1) (get_or_read list count range within read (0, 0)) in
      let closed = normal.closed count within in
      let bounded = normal.bounded count within in
      record {
        normal = normal_set list normal count l range.1 within (omega arith) (omega arith)
            (λ j lt. all_apart apart_before j lt)
            (λ k lt inside. omega (arith, normal.apart count k lt inside));
        held = held_set list normal count l range.1 within (omega arith) (omega arith)
            (λ j lt. all_apart apart_before j lt)
            (λ k lt inside. omega (arith, normal.apart count k lt inside))
            l (omega arith, omega arith) (omega arith) (omega arith)
            (λ x from to. elim (cases_eq x l) [ inl is ↦ inr is | inr other ↦ inl (omega arith, omega arith) ]);
      }

  -- l stands alone in an interval of its own
  pub adds_alone : ((0 < count) × (highest list (count - 1) + 1 ≡ l) → ⊥) → ((count < length list) × (l + 1 ≡ lowest list count) → ⊥) → Adds list (insert list count (l, l)) l
  adds_alone apart_before apart_after = record {
    normal = record {
      closed = λ k lt. elim (cases_order k count) [
        | inl here ↦ rw here (omega (arith, low_here, high_here))
        | inr (inl below) ↦ omega (arith, low_below k below, high_below k below, normal.closed k (omega (arith, counted.in_range)))
        | inr (inr above) ↦ omega (arith, low_above k above, high_above k above, normal.closed (k - 1) (omega (arith, grown)))
      ];
      bounded = λ k lt. elim (cases_order k count) [
        | inl here ↦ rw here (omega (arith, high_here))
        | inr (inl below) ↦ omega (arith, high_below k below, normal.bounded k (omega (arith, counted.in_range)))
        | inr (inr above) ↦ omega (arith, high_above k above, normal.bounded (k - 1) (omega (arith, grown)))
      ];
      apart = λ j k below lt. elim (cases_order j count) [
        | inl here ↦ rw here (omega (arith, high_here, low_above k (omega arith), begin_apart apart_after (k - 1) (omega arith) (omega (arith, grown))))
        | inr (inl j_below) ↦ elim (cases_order k count) [
          | inl here ↦ rw here (omega (arith, low_here, high_below j j_below, all_apart apart_before j j_below))
          | inr (inl k_below) ↦ omega (arith, high_below j j_below, low_below k k_below, normal.apart j k below (omega (arith, counted.in_range)))
          | inr (inr k_above) ↦ omega (arith, high_below j j_below, low_above k k_above, all_apart apart_before j j_below, begin_apart apart_after (k - 1) (omega arith) (omega (arith, grown)))
        ]
        | inr (inr j_above) ↦ omega (arith, high_above j j_above, low_above k (omega arith), normal.apart (j - 1) (k - 1) (omega arith) (omega (arith, grown)))
      ];
    };
    held = λ x. (
      λ h. elim (cases_order h.0 count) [
        | inl here ↦ inr (omega (arith, low_here, high_here, rw here at h.2, rw here at h.3))
        | inr (inl below) ↦ inl (h.0, omega (arith, counted.in_range), omega (arith, low_below h.0 below), omega (arith, high_below h.0 below))
        | inr (inr above) ↦ inl (h.0 - 1, omega (arith, grown), omega (arith, low_above h.0 above), omega (arith, high_above h.0 above))
      ],
      λ h. elim h [
        | inl was ↦ elim (cases_lt was.0 count) [
          | inl below ↦ (was.0, omega (arith, grown), omega (arith, low_below was.0 below), omega (arith, high_below was.0 below))
          | inr above ↦ (was.0 + 1, omega (arith, grown), omega (arith, low_moved was.0 above), omega (arith, high_moved was.0 above))
        ]
        | inr is ↦ (count, omega (arith, grown, counted.in_range), omega (arith, low_here), omega (arith, high_here))
      ],
    );
  }
    where
      grown : length (insert list count (l, l)) ≡ length list + 1
      grown = length-insert list count (l, l) counted.in_range

      low_here : lowest (insert list count (l, l)) count ≡ l
      low_here = ap (λ (r : ℕ × ℕ). r.0) (get_or-insert_at list count (l, l) (0, 0) counted.in_range)

      high_here : highest (insert list count (l, l)) count ≡ l
      high_here = ap (λ (r : ℕ × ℕ). r.1) (get_or-insert_at list count (l, l) (0, 0) counted.in_range)

      low_below : (k : ℕ) → k < count → lowest (insert list count (l, l)) k ≡ lowest list k
      low_below k lt = ap (λ (r : ℕ × ℕ). r.0) (get_or-insert_below list count (l, l) (0, 0) k lt counted.in_range)

      high_below : (k : ℕ) → k < count → highest (insert list count (l, l)) k ≡ highest list k
      high_below k lt = ap (λ (r : ℕ × ℕ). r.1) (get_or-insert_below list count (l, l) (0, 0) k lt counted.in_range)

      low_moved : (k : ℕ) → count ≤ k → lowest (insert list count (l, l)) (k + 1) ≡ lowest list k
      low_moved k le = ap (λ (r : ℕ × ℕ). r.0) (get_or-insert_above list count (l, l) (0, 0) k le counted.in_range)

      high_moved : (k : ℕ) → count ≤ k → highest (insert list count (l, l)) (k + 1) ≡ highest list k
      high_moved k le = ap (λ (r : ℕ × ℕ). r.1) (get_or-insert_above list count (l, l) (0, 0) k le counted.in_range)

      low_above : (k : ℕ) → count < k → lowest (insert list count (l, l)) k ≡ lowest list (k - 1)
      low_above k lt = subst (λ q. lowest (insert list count (l, l)) q ≡ lowest list (k - 1)) {x = k - 1 + 1} (omega arith) (low_moved (k - 1) (omega arith))

      high_above : (k : ℕ) → count < k → highest (insert list count (l, l)) k ≡ highest list (k - 1)
      high_above k lt = subst (λ q. highest (insert list count (l, l)) q ≡ highest list (k - 1)) {x = k - 1 + 1} (omega arith) (high_moved (k - 1) (omega arith))

  -- the intervals on both sides become one
  pub adds_between : (range after : ℕ × ℕ) → range ≡ slice_index_or (remove list count) (count - 1) range → after ≡ slice_index_or list count after → (0 < count) × (highest list (count - 1) + 1 ≡ l) →
      (count < length list) × (l + 1 ≡ lowest list count) → Adds list (slice_set (remove list count) (count - 1) (range.0, after.1)) l
  adds_between range after read read_after touches_before touches_after =
      let rest = remove list count in
      let place = count - 1 in
      let within : count < length list = touches_after.0 in
      let shrunk : length rest + 1 ≡ length list = length-remove list count within in
      let place_in : place < length rest = omega (arith, touches_before.0) in
      let low_below : (k : ℕ) → k < count → lowest rest k ≡ lowest list k = λ k lt. ap (λ (r : ℕ × ℕ). r.0) (get_or-remove_below list count (0, 0) k lt within) in
      let high_below : (k : ℕ) → k < count → highest rest k ≡ highest list k = λ k lt. ap (λ (r : ℕ × ℕ). r.1) (get_or-remove_below list count (0, 0) k lt within) in
      let low_above : (k : ℕ) → count ≤ k → lowest rest k ≡ lowest list (k + 1) = λ k le. ap (λ (r : ℕ × ℕ). r.0) (get_or-remove_above list count (0, 0) k le within) in
      let high_above : (k : ℕ) → count ≤ k → highest rest k ≡ highest list (k + 1) = λ k le. ap (λ (r : ℕ × ℕ). r.1) (get_or-remove_above list count (0, 0) k le within) in
      let rest_normal : IsNormal rest = record {
        closed = λ k lt. elim (cases_lt k count) [
          | inl below ↦ omega (arith, low_below k below, high_below k below, normal.closed k (omega arith))
          | inr above ↦ omega (arith, low_above k above, high_above k above, normal.closed (k + 1) (omega arith))
        ];
        bounded = λ k lt. elim (cases_lt k count) [
          | inl below ↦ omega (arith, high_below k below, normal.bounded k (omega arith))
          | inr above ↦ omega (arith, high_above k above, normal.bounded (k + 1) (omega arith))
        ];
        apart = λ j k below lt. elim (cases_lt j count) [
          | inl j_below ↦ elim (cases_lt k count) [
            | inl k_below ↦ omega (arith, high_below j j_below, low_below k k_below, normal.apart j k below (omega arith))
            | inr k_above ↦ omega (arith, high_below j j_below, low_above k k_above, normal.apart j (k + 1) (omega arith) (omega arith))
          ]
          | inr j_above ↦ omega (arith, high_above j j_above, low_above k (omega arith), normal.apart (j + 1) (k + 1) (omega arith) (omega arith))
        ];
      } in
      let low : range.0 ≡ lowest list place = ap (λ (r : ℕ × ℕ). r.0) (get_or_read rest place range place_in read (0, 0)) ∙ low_below place (omega (arith, touches_before.0)) in
      let high : after.1 ≡ highest list count = ap (λ (r : ℕ × ℕ). r.1) (get_or_read list count after within read_after (0, 0)) in
      let closed_before = normal.closed place (omega (arith, touches_before.0)) in
      let closed_after = normal.closed count within in
      let bounded = normal.bounded count within in
      let joined = slice_set rest place (range.0, after.1) in
      let same_length : length joined ≡ length rest = length-set rest place (range.0, after.1) in
      record {
        normal = normal_set rest rest_normal place range.0 after.1 place_in (omega (arith, touches_before.1, touches_after.1)) (omega arith)
            (λ j lt. omega (arith, high_below j (omega arith), normal.apart j place lt (omega arith)))
            (λ k lt inside. omega (arith, low_above k (omega arith), normal.apart count (k + 1) (omega arith) (omega arith)));
        held = λ x. (
          λ h. elim (cases_order h.0 place) [
            | inl here ↦
                let from : range.0 ≤ x = omega (arith, lowest_here rest place (range.0, after.1) place_in, rw here at h.2) in
                let to : x ≤ after.1 = omega (arith, highest_here rest place (range.0, after.1) place_in, rw here at h.3) in
                elim (cases_order x l) [
                  | inl is ↦ inr is
                  | inr (inl below) ↦ inl (place, omega arith, omega arith, omega (arith, touches_before.1))
                  | inr (inr above) ↦ inl (count, within, omega (arith, touches_after.1), omega arith)
                ]
            | inr (inl below) ↦ inl (
              h.0,
              omega arith,
              omega (arith, lowest_other rest place (range.0, after.1) place_in h.0 (λ e. omega arith), low_below h.0 (omega arith)),
              omega (arith, highest_other rest place (range.0, after.1) place_in h.0 (λ e. omega arith), high_below h.0 (omega arith)),
            )
            | inr (inr above) ↦ inl (
              h.0 + 1,
              omega arith,
              omega (arith, lowest_other rest place (range.0, after.1) place_in h.0 (λ e. omega arith), low_above h.0 (omega arith)),
              omega (arith, highest_other rest place (range.0, after.1) place_in h.0 (λ e. omega arith), high_above h.0 (omega arith)),
            )
          ],
          λ h. elim h [
            | inl was ↦ elim (cases_lt was.0 place) [
              | inl below ↦ (
                was.0,
                omega arith,
                omega (arith, lowest_other rest place (range.0, after.1) place_in was.0 (λ e. omega arith), low_below was.0 (omega arith)),
                omega (arith, highest_other rest place (range.0, after.1) place_in was.0 (λ e. omega arith), high_below was.0 (omega arith)),
              )
              | inr from_place ↦ elim (cases_lt count was.0) [
                | inl above ↦
                    let back : was.0 - 1 + 1 ≡ was.0 = omega arith in (
                      was.0 - 1,
                      omega arith,
                      omega (
                        arith,
                        lowest_other rest place (range.0, after.1) place_in (was.0 - 1) (λ e. omega arith),
                        low_above (was.0 - 1) (omega arith),
                        ap (lowest list) back,
                      ),
                      omega (
                        arith,
                        highest_other rest place (range.0, after.1) place_in (was.0 - 1) (λ e. omega arith),
                        high_above (was.0 - 1) (omega arith),
                        ap (highest list) back,
                      ),
                    )
                | inr up_to ↦ elim (cases_eq was.0 count) [
                  | inl here ↦ (
                    place,
                    omega arith,
                    omega (arith, lowest_here rest place (range.0, after.1) place_in, touches_before.1, touches_after.1, rw here at was.2),
                    omega (arith, highest_here rest place (range.0, after.1) place_in, rw here at was.3),
                  )
                  | inr other ↦
                      let here : was.0 ≡ place = omega arith in (
                        place,
                        omega arith,
                        omega (arith, lowest_here rest place (range.0, after.1) place_in, rw here at was.2),
                        omega (arith, highest_here rest place (range.0, after.1) place_in, touches_before.1, touches_after.1, rw here at was.3),
                      )
                ]
              ]
            ]
            | inr is ↦ (
              place,
              omega arith,
              omega (arith, lowest_here rest place (range.0, after.1) place_in, touches_before.1),
              omega (arith, highest_here rest place (range.0, after.1) place_in, touches_after.1),
            )
          ],
        );
      }
