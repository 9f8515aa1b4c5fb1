-- What a getSet that is answered from orderly words knows of the list that it reads and of the one that it makes.
use Rattle.partial_active.proofs.{Common.{ℕ, ◌≡◌, ◌+◌, ◌-◌, ◌<◌, ◌≤◌, ◌⊎◌, ◌↔◌, min, Bool, true, false, ◌&&◌, not, ◌==◌, nat_lt, if◌then◌else◌, Some, None, List, [], ◌∷◌, ◌++◌, length, take, slice_index_or, slice_index, inl, inr, refl, sym, ap, subst, ◌∙◌, arith, false≢true, cases_eq, cases_lt, cond_both, ltb-false, eqb-true, eqb-false, take_more, take_all, length_push, Ranges, lowest, highest, Holds, IsNormal, Step, Load, Store, Exchange, Add, Layout, IsLayout, list_head, list_counter, slot_word, list_end, StandsAt, list_block, low_word, high_word, answer_of, list_reads_back, Stage, Head, ListLen, ListLow, ListHigh, Counter, Slot, Len, Index, Claim, Write, Publish, Done, with_index, Buffers, AreFoundFor, begins_at, SetPair, fresh_set, set_step_at, set_step_due, advance_set, advance_set_at, after_walk, at_slot, come_to, pass_interval, note_slot, in_stage, next_words, EndsBelow, is_possible_at, IsPossibleInSet, IsWalking, IsAtSlot, set_goes_at, SetGoesTogether, AreVacated, knows_by, slot_at, head_at, IsVacatedList, Orderly, AtSome, AtSomeStep, own_moments, next_word, indices_word, intervals_word, length-pairs}, Extended.{held_extended, holds_extended}, Walk.{interval_behind, walking_on}, Answered.{walk_begins, walk_next, walk_noted, slot_behind, at_with}, Known.{facts_of_moments, Knows}, Orders.{Past, IsPairwiseOrderly, LeadsTo, own_leads, moments_of}, Active.{Reached, onto, onto_some, reached_from}, Moments.{at_later, at_here, at_split, Behind, holds_behind}}
use Rattle.partial_active.specs.VacatedLists.{GetSetsKeepLists, WasVacated, IsListOf, FindsVacated, ClaimsWords, StoresWord, IsStored, KeepsLists, is_reading}

-- the first n intervals hold the number
abbrev HoldsFirst : Ranges → ℕ → ℕ → Type 0
HoldsFirst list n x = (k : ℕ) × (k < n) × (lowest list k ≤ x) × (x ≤ highest list k)

-- a slot that the machine has found VACATED
abbrev Noted : Layout → SetPair → Past → ℕ → Type 0
Noted s start ms x = AtSomeStep (FindsVacated s x) start ms

-- the next list holds the intervals that the walk has passed, and the slots that it has noted
abbrev Gathered : (ℕ → Type 0) → SetPair → Type 0
Gathered N p = (x : ℕ) → Holds p.1.next x ↔ (HoldsFirst p.1.read p.0.passed x ⊎ N x)

-- it holds the whole list read, and the slots that were noted
abbrev Whole : (ℕ → Type 0) → SetPair → Type 0
Whole N p = (x : ℕ) → Holds p.1.next x ↔ (Holds p.1.read x ⊎ N x)

-- so much of the list at the list head is read
record ReadsSo (s : Layout) (first : List ℕ) (p : SetPair) (left : ℕ) (list : Ranges) : Type 0 where
  head : p.0.head ≡ head_at s first
  whole : IsVacatedList s first (head_at s first) list
  read_is : p.1.read ≡ take (length p.1.read) list
  count : length p.1.read + left ≡ length list

-- that list is read
record HasReadFirst (s : Layout) (first : List ℕ) (p : SetPair) : Type 0 where
  head : p.0.head ≡ head_at s first
  list : IsListOf s first p.1.read

module _ (s : Layout) (start : SetPair) (first : List ℕ) (ms : Past) where
  -- what is known of the lists at a stage after the first one
  abbrev lists_at : Stage → SetPair → Type 0
  lists_at Head p = ⊥
  lists_at (ListLen at) p = ((x : ℕ) → Noted s start ms x → ⊥) × (at ≡ head_at s first) × (p.0.head ≡ head_at s first) × ((list : Ranges) × IsVacatedList s first (head_at s first) list)
  lists_at (ListLow at left) p = ((x : ℕ) → Noted s start ms x → ⊥) × (at ≡ low_word (head_at s first) (length p.1.read)) × ((list : Ranges) × ReadsSo s first p left list)
  lists_at (ListHigh at left lo) p = ((x : ℕ) → Noted s start ms x → ⊥) × (at ≡ high_word (head_at s first) (length p.1.read))
      × ((list : Ranges) × ReadsSo s first p left list × (lo ≡ lowest list (length p.1.read)))
  lists_at Counter p = ((x : ℕ) → Noted s start ms x → ⊥) × HasReadFirst s first p
  lists_at (Slot slot) p = HasReadFirst s first p × Gathered (Noted s start ms) p
  lists_at (Len slot at) p = HasReadFirst s first p × Gathered (Noted s start ms) p
  lists_at (Index slot at left) p = HasReadFirst s first p × Gathered (Noted s start ms) p
  lists_at (Claim count) p = HasReadFirst s first p × Whole (Noted s start ms) p
  lists_at (Write at k count word) p = HasReadFirst s first p × Whole (Noted s start ms) p × IsStored s start ms p at k
  lists_at (Publish at) p = HasReadFirst s first p × Whole (Noted s start ms) p × IsStored s start ms p at (length (list_block p.1.next))
  lists_at Done p = HasReadFirst s first p × Whole (Noted s start ms) p

  abbrev ListsOf : SetPair → Type 0
  ListsOf p = lists_at p.0.stage p

  -- the walk is over: all of the list read is passed
  lists_after_walk : (p : SetPair) (slot : ℕ) → p.0.end ≤ slot → IsWalking p slot → HasReadFirst s first p → Gathered (Noted s start ms) p → ListsOf (after_walk p)
  lists_after_walk p slot over walking read gathered =
      let all : Whole (Noted s start ms) p = λ x. (
        λ h. elim ((gathered x).0 h) [
          | inl first ↦ let passed = walking.passed in let below = first.1 in inl
              (first.0, omega (arith, passed, below), first.2, first.3)
          | inr noted ↦ inr noted
        ],
        λ h. (gathered x).1 (elim h [
          | inr noted ↦ inr noted
          | inl held ↦ elim (cases_lt held.0 p.0.passed) [
            | inl before ↦ inl (held.0, before, held.2, held.3)
            | inr ahead ↦
                let from = walking.behind held.0 ahead held.1 in
                let below = walking.list_before_end held.0 held.1 in
                let closed = walking.list.normal.closed held.0 held.1 in
                absurd (omega (arith, over, from, below, closed))
          ]
        ]),
      ) in
      cond_both (p.0.noted && not p.0.lists_spent) (Claim (next_words p.1)) Done (λ stage. ListsOf (record p.0 { stage = stage }, p.1))
      (λ e. (record { head = read.head; list = read.list }, all))
      (λ e. (record { head = read.head; list = read.list }, all))

  lists_at_slot : (p : SetPair) (slot : ℕ) → IsWalking p slot → HasReadFirst s first p → Gathered (Noted s start ms) p → ListsOf (at_slot p slot)
  lists_at_slot p slot walking read gathered = cond_both (nat_lt slot p.0.end) (record p.0 { stage = Slot slot }, p.1) (after_walk p) ListsOf
      (λ e. (record { head = read.head; list = read.list }, gathered))
      (λ e. lists_after_walk p slot (ltb-false slot p.0.end e) walking read gathered)

  -- the walk reaches a slot, and may pass an interval
  lists_come_to : (p : SetPair) (slot : ℕ) → IsWalking p slot → HasReadFirst s first p → Gathered (Noted s start ms) p → ListsOf (come_to p slot)
  lists_come_to p slot walking read gathered = cond_both (begins_at p.1.read p.0.passed slot) (at_slot (pass_interval p) (highest p.1.read p.0.passed + 1)) (at_slot p slot) ListsOf
      (λ e.
      let lo = lowest p.1.read p.0.passed in
      let hi = highest p.1.read p.0.passed in
      let behind = interval_behind p slot walking e in
      lists_at_slot (pass_interval p) (highest p.1.read p.0.passed + 1) (walking_on p slot walking e) (record { head = read.head; list = read.list })
      (λ x. (
        λ h. elim (held_extended p.1.next lo hi walking.next x h) [
          | inr here ↦ inl (p.0.passed, omega arith, here.0, here.1)
          | inl old ↦ elim ((gathered x).0 old) [ inl before ↦ let below = before.1 in inl (before.0, omega (arith, below), before.2, before.3) | inr noted ↦ inr noted ]
        ],
        λ h. holds_extended p.1.next lo hi walking.next behind x (elim h [
          | inr noted ↦ inl ((gathered x).1 (inr noted))
          | inl some ↦ elim (cases_lt some.0 p.0.passed) [
            | inl before ↦ inl ((gathered x).1 (inl (some.0, before, some.2, some.3)))
            | inr last ↦
                let below = some.1 in
                let is : some.0 ≡ p.0.passed = omega (arith, last, below) in
                inr (subst (λ k. lowest p.1.read k ≤ x) is some.2, subst (λ k. x ≤ highest p.1.read k) is some.3)
          ]
        ]),
      )))
      (λ e. lists_at_slot p slot walking read gathered)

nothing_read : (read list : Ranges) → read ≡ [] → read ≡ take (length read) list
nothing_read read list e = rw e refl

-- a list without intervals
no_interval : (list : Ranges) → length list ≡ 0 → list ≡ []
no_interval [] e = refl
no_interval (r ∷ list) e = absurd (omega (arith, e))

-- what the next moment shows
module _ (s : Layout) (layout : IsLayout s) (spent : Bool) (f : Buffers) (first : List ℕ) (done : Past) (p : SetPair) (now : List ℕ) (b : Behind s spent f (first ∷ done) p now) where
  abbrev Old : ℕ → Type 0
  Old = Noted s (fresh_set s spent, f) (first ∷ done)

  abbrev New : ℕ → Type 0
  New = Noted s (fresh_set s spent, f) ((first ∷ done) ++ now ∷ [])

  abbrev Before : Stage → SetPair → Type 0
  Before stage q = lists_at s (fresh_set s spent, f) first (first ∷ done) stage q

  abbrev After : SetPair → Type 0
  After q = ListsOf s (fresh_set s spent, f) first ((first ∷ done) ++ now ∷ []) q

  -- no slot that is VACATED is loaded
  abbrev IsQuiet : Type 0
  IsQuiet = (x : ℕ) → p.0.stage ≡ Slot x → slot_at s now x ≡ 1 → ⊥

  noted_on : (x : ℕ) → Old x → New x
  noted_on x h = at_later (FindsVacated s x) (fresh_set s spent, f) (first ∷ done) now h

  noted_back : (x : ℕ) → (p.0.stage ≡ Slot x → slot_at s now x ≡ 1 → ⊥) → New x → Old x
  noted_back x quiet h = elim (at_split (FindsVacated s x) (fresh_set s spent, f) p (first ∷ done) now b.leads h) [ inl t ↦ t | inr t ↦ absurd (quiet t.0 t.1) ]

  none_noted : IsQuiet → ((x : ℕ) → Old x → ⊥) → (x : ℕ) → New x → ⊥
  none_noted quiet none x h = none x (noted_back x (quiet x) h)

  gathered_on : (q : SetPair) → q.1.next ≡ p.1.next → q.1.read ≡ p.1.read → q.0.passed ≡ p.0.passed → IsQuiet → Gathered Old p → Gathered New q
  gathered_on q next read passed quiet gathered x = (
    λ h. elim ((gathered x).0 (subst (λ (l : Ranges). Holds l x) next h)) [
      | inl held ↦ inl (subst (λ (l : Ranges). HoldsFirst l q.0.passed x) (sym read) (subst (λ n. HoldsFirst p.1.read n x) (sym passed) held))
      | inr noted ↦ inr (noted_on x noted)
    ],
    λ h. subst (λ (l : Ranges). Holds l x) (sym next) ((gathered x).1 (elim h [
      | inl held ↦ inl (subst (λ (l : Ranges). HoldsFirst l p.0.passed x) read (subst (λ n. HoldsFirst q.1.read n x) passed held))
      | inr noted ↦ inr (noted_back x (quiet x) noted)
    ])),
  )

  whole_on : IsQuiet → Whole Old p → Whole New p
  whole_on quiet whole x = (
    λ h. elim ((whole x).0 h) [ inl held ↦ inl held | inr noted ↦ inr (noted_on x noted) ],
    λ h. (whole x).1 (elim h [ inl held ↦ inl held | inr noted ↦ inr (noted_back x (quiet x) noted) ]),
  )

  -- what is stored stays so
  stored_on : (at k : ℕ) → IsStored s (fresh_set s spent, f) (first ∷ done) p at k → IsStored s (fresh_set s spent, f) ((first ∷ done) ++ now ∷ []) p at k
  stored_on at k w = record {
    claimed = at_later (ClaimsWords s (length (list_block p.1.next)) at) (fresh_set s spent, f) (first ∷ done) now w.claimed;
    from = w.from;
    to = w.to;
    stored = λ i below. at_later (StoresWord (at + i) (slice_index (list_block p.1.next) i)) (fresh_set s spent, f) (first ∷ done) now (w.stored i below);
  }

  -- the list that stood at the list head stands yet
  list_stands : (list : Ranges) → IsVacatedList s first (head_at s first) list → StandsAt now (head_at s first) (list_block list)
  list_stands list whole = b.comes.0.lists list whole

  Steps : Stage → ℕ → Type 0
  Steps stage x = After (advance_set_at stage p x)

  step_list_len : (at : ℕ) → p.0.stage ≡ ListLen at → set_goes_at (ListLen at) p → Before (ListLen at) p → Steps (ListLen at) (slice_index now at)
  unfolding Steps
  step_list_len at stage goes knows =
      let list = knows.3.0 in
      let whole = knows.3.1 in
      let count : slice_index now at ≡ length list = ap (slice_index now) knows.1 ∙ (list_reads_back now (head_at s first) list (list_stands list whole)).count in
      let none : length p.1.read ≡ 0 = ap length goes.0 in
      let unnoted = none_noted (λ x at one. let never : ⊥ = cc in never) knows.0 in
      rw count (cond_both ((length list) == 0) Counter (ListLow (intervals_word at) (length list)) (λ stage. After (in_stage p stage))
      (λ e.
      let same : list ≡ p.1.read = no_interval list (eqb-true (length list) 0 e) ∙ sym goes.0 in
      (unnoted, record { head = knows.2; list = inr (subst (IsVacatedList s first (head_at s first)) same whole) }))
      (λ e. (unnoted, omega (arith, knows.1, none), (list, record { head = knows.2; whole = whole; read_is = nothing_read p.1.read list goes.0; count = omega (arith, none) }))))

  step_list_low : (at left : ℕ) → p.0.stage ≡ ListLow at left → set_goes_at (ListLow at left) p → Before (ListLow at left) p → Steps (ListLow at left) (slice_index now at)
  unfolding Steps
  step_list_low at left stage goes knows =
      let list = knows.2.0 in
      let k = knows.2.1 in
      let count = k.count in
      let some = goes.0.some in
      let lt : length p.1.read < length list = omega (arith, count, some) in
      let low : slice_index now at ≡ lowest list (length p.1.read) = ap (slice_index now) knows.1
      ∙ ap (λ (r : ℕ × ℕ). r.0) ((list_reads_back now (head_at s first) list (list_stands list k.whole)).each (length p.1.read) (0, 0) lt) in
      (none_noted (λ x at one. let never : ⊥ = cc in never) knows.0, omega (arith, knows.1), (list, record { head = k.head; whole = k.whole; read_is = k.read_is; count = k.count }, low))

  step_list_high : (at left lo : ℕ) → p.0.stage ≡ ListHigh at left lo → set_goes_at (ListHigh at left lo) p → Before (ListHigh at left lo) p → Steps (ListHigh at left lo) (slice_index now at)
  unfolding Steps
  step_list_high at left lo stage goes knows =
      let list = knows.2.0 in
      let k = knows.2.1 in
      let i = length p.1.read in
      let count = k.count in
      let some = goes.0.some in
      let lt : i < length list = omega (arith, count, some) in
      let high : slice_index now at ≡ highest list i = ap (slice_index now) knows.1
      ∙ ap (λ (r : ℕ × ℕ). r.1) ((list_reads_back now (head_at s first) list (list_stands list k.whole)).each i (0, 0) lt) in
      let longer : length (p.1.read ++ (lo, highest list i) ∷ []) ≡ i + 1 = length_push p.1.read (lo, highest list i) in
      let so_far : p.1.read ++ (lo, highest list i) ∷ [] ≡ take (i + 1) list = ap (λ n. p.1.read ++ (n, highest list i) ∷ []) knows.2.2
      ∙ ap (λ (l : Ranges). l ++ slice_index_or list i (0, 0) ∷ []) k.read_is ∙ sym (take_more list i (0, 0) lt) in
      let unnoted = none_noted (λ x at one. let never : ⊥ = cc in never) knows.0 in
      rw high (cond_both (left == 1) Counter (ListLow (next_word at) (left - 1)) (λ stage. After (record p.0 { stage = stage }, record p.1 { read = p.1.read ++ (lo, highest list i) ∷ [] }))
      (λ e.
      let all : p.1.read ++ (lo, highest list i) ∷ [] ≡ list = so_far ∙ take_all (i + 1) list (omega (arith, count, eqb-true left 1 e)) in
      (unnoted, record { head = k.head; list = inr (subst (IsVacatedList s first (head_at s first)) (sym all) k.whole) }))
      (λ e. (
        unnoted,
        omega (arith, knows.1, longer),
        (list, record { head = k.head; whole = k.whole; read_is = so_far ∙ ap (λ n. take n list) (sym longer); count = omega (arith, count, longer, eqb-false left 1 e, some) }),
      )))

  step_counter : (x : ℕ) → p.0.stage ≡ Counter → set_goes_at Counter p → EndsBelow p.1.read x → Before Counter p → Steps Counter x
  unfolding Steps
  step_counter x stage goes below knows =
      let q : SetPair = (record p.0 { end = min x p.0.sizes.slots; passed = 0 }, p.1) in
      let unnoted = none_noted (λ x at one. let never : ⊥ = cc in never) knows.0 in
      let empty : length p.1.next ≡ 0 = ap length goes.1 in
      lists_come_to s (fresh_set s spent, f) first ((first ∷ done) ++ now ∷ []) q 0 (walk_begins p x goes.0 below goes.1) (record { head = knows.1.head; list = knows.1.list })
      (λ y. (
        λ h. let inside = h.1 in absurd (omega (arith, empty, inside)),
        λ h. absurd (elim h [ inl held ↦ let inside = held.1 in omega (arith, inside) | inr noted ↦ unnoted y noted ]),
      ))

  step_slot : (slot : ℕ) → p.0.stage ≡ Slot slot → IsLayout p.0.sizes → set_goes_at (Slot slot) p → Before (Slot slot) p → Steps (Slot slot) (slot_at s now slot)
  unfolding Steps
  step_slot slot stage good goes knows =
      let a = slot_at s now slot in
      let read : (q : SetPair) → q.0.head ≡ p.0.head → q.1.read ≡ p.1.read →
      HasReadFirst s first q = λ q head same. record { head = head ∙ knows.0.head; list = subst (IsListOf s first) (sym same) knows.0.list } in
      let here : (x : ℕ) → p.0.stage ≡ Slot x → x ≡ slot = λ x is. let same : Slot x ≡ Slot slot = sym is ∙ stage in cc in
      let quiet : (a ≡ 1 → ⊥) → (x : ℕ) → p.0.stage ≡ Slot x → slot_at s now x ≡ 1 → ⊥ = λ other x is one. other (ap (slot_at s now) (sym (here x is)) ∙ one) in
      let passes : (a ≡ 1 → ⊥) → Steps' = λ other. lists_come_to s (fresh_set s spent, f) first ((first ∷ done) ++ now ∷ []) p (slot + 1) (walk_next p slot goes) (read p refl refl)
      (gathered_on p refl refl refl (quiet other) knows.1) in
      let notes : a ≡ 1 → After (come_to (note_slot p slot) (slot + 1)) = λ one.
      lists_come_to s (fresh_set s spent, f) first ((first ∷ done) ++ now ∷ []) (note_slot p slot) (slot + 1) (walk_noted p slot good goes) (read (note_slot p slot) refl refl) (λ x. (
        λ h. elim (held_extended p.1.next slot slot goes.walking.next x h) [
          | inl old ↦ elim ((knows.1 x).0 old) [ inl held ↦ inl held | inr noted ↦ inr (noted_on x noted) ]
          | inr new ↦ let is : x ≡ slot = omega (arith, new.0, new.1) in inr
              (at_here (FindsVacated s x) (fresh_set s spent, f) p (first ∷ done) now b.leads (stage ∙ ap Slot (sym is), ap (slot_at s now) is ∙ one))
        ],
        λ h. holds_extended p.1.next slot slot goes.walking.next (slot_behind s p slot layout b.sizes goes) x (elim h [
          | inl held ↦ inl ((knows.1 x).1 (inl held))
          | inr noted ↦ elim (at_split (FindsVacated s x) (fresh_set s spent, f) p (first ∷ done) now b.leads noted) [
            | inl old ↦ inl ((knows.1 x).1 (inr old))
            | inr new ↦ let is = here x new.0 in inr (omega (arith, is), omega (arith, is))
          ]
        ]),
      )) in
      cond_both (a == 0) (come_to p (slot + 1)) (if a == 1 then come_to (note_slot p slot) (slot + 1) else in_stage p (Len slot a)) (After)
      (λ e. let none = eqb-true a 0 e in passes (λ one. omega (arith, none, one)))
      (λ not_empty. cond_both (a == 1) (come_to (note_slot p slot) (slot + 1)) (in_stage p (Len slot a)) (After)
      (λ e. notes (eqb-true a 1 e))
      (λ e. (read (in_stage p (Len slot a)) refl refl, gathered_on p refl refl refl (quiet (eqb-false a 1 e)) knows.1)))
    where
      Steps' : Type 0
      Steps' = After (come_to p (slot + 1))

  -- the walk goes on, or stays at the slot
  step_on : (slot : ℕ) (q : SetPair) (stage : Stage) → p.0.stage ≡ stage → ((x : ℕ) → stage ≡ Slot x → ⊥) → q.1.next ≡ p.1.next → q.1.read ≡ p.1.read → q.0.passed ≡ p.0.passed →
      q.0.head ≡ p.0.head → HasReadFirst s first p × Gathered Old p → HasReadFirst s first q × Gathered New q
  step_on slot q stage is other next read passed head knows = (
    record { head = head ∙ knows.0.head; list = subst (IsListOf s first) (sym read) knows.0.list },
    gathered_on q next read passed (λ x at one. other x (sym is ∙ at)) knows.1,
  )

  step_len : (slot at x : ℕ) → p.0.stage ≡ Len slot at → set_goes_at (Len slot at) p → Before (Len slot at) p → Steps (Len slot at) x
  unfolding Steps
  step_len slot at x stage goes knows =
      let on = step_on slot p (Len slot at) stage (λ x is. let never : ⊥ = cc in never) refl refl refl refl knows in
      cond_both (x == 0) (come_to p (slot + 1)) (in_stage p (Index slot (indices_word at) x)) (After)
      (λ e. lists_come_to s (fresh_set s spent, f) first ((first ∷ done) ++ now ∷ []) p (slot + 1) (walk_next p slot goes.0) on.0 on.1)
      (λ e. (record { head = on.0.head; list = on.0.list }, on.1))

  step_index : (slot at left x : ℕ) → p.0.stage ≡ Index slot at left → set_goes_at (Index slot at left) p → Before (Index slot at left) p → Steps (Index slot at left) x
  unfolding Steps
  step_index slot at left x stage goes knows =
      let q : SetPair = (p.0, record p.1 { indices = with_index p.1.indices x }) in
      let on = step_on slot q (Index slot at left) stage (λ x is. let never : ⊥ = cc in never) refl refl refl refl knows in
      cond_both (left == 1) (come_to q (slot + 1)) (in_stage q (Index slot (next_word at) (left - 1))) (After)
      (λ e. lists_come_to s (fresh_set s spent, f) first ((first ∷ done) ++ now ∷ []) q (slot + 1) (walk_next q slot (at_with p slot x goes.0)) on.0 on.1)
      (λ e. (record { head = on.0.head; list = on.0.list }, on.1))

  step_claim : (count : ℕ) → p.0.stage ≡ Claim count → set_goes_at (Claim count) p → Before (Claim count) p → Steps (Claim count) (slice_index now (list_counter s))
  unfolding Steps
  step_claim count stage goes knows =
      let x = slice_index now (list_counter s) in
      let whole = whole_on (λ x at one. let never : ⊥ = cc in never) knows.1 in
      let length_is : length (list_block p.1.next) ≡ count = let c = goes.count in let size = length-pairs p.1.next in omega (arith, c, size) in
      let end : list_end p.0.sizes ≡ list_end s = ap list_end b.sizes in
      cond_both (nat_lt (list_end p.0.sizes) (x + count)) (record p.0 { lists_spent = true; stage = Done }, p.1) (in_stage p (Write x 0 count (length p.1.next))) (After)
      (λ e. (record { head = knows.0.head; list = knows.0.list }, whole))
      (λ e. (
        record { head = knows.0.head; list = knows.0.list },
        whole,
        record {
          claimed = at_here (ClaimsWords s (length (list_block p.1.next)) x) (fresh_set s spent, f) p (first ∷ done) now b.leads (stage ∙ ap Claim (sym length_is), refl);
          from = b.orderly.lists_from;
          to = let within = ltb-false (list_end p.0.sizes) (x + count) e in omega (arith, within, end, length_is);
          stored = λ k below. absurd (omega (arith, below));
        },
      ))

  step_write : (at k count word x : ℕ) → p.0.stage ≡ Write at k count word → set_goes_at (Write at k count word) p → Before (Write at k count word) p → Steps (Write at k count word) x
  unfolding Steps
  step_write at k count word x stage goes knows =
      let whole = whole_on (λ x at one. let never : ⊥ = cc in never) knows.1 in
      let old = stored_on at k knows.2 in
      let stores : set_step_due p.0 ≡ Some (Store (at + k) word) = ap (λ st. set_step_at p.0.sizes p.0.head st) stage in
      let one_more : IsStored s (fresh_set s spent, f) ((first ∷ done) ++ now ∷ []) p at (k + 1) = record {
        claimed = old.claimed;
        from = old.from;
        to = old.to;
        stored = λ i below. elim (cases_eq i k) [
          | inl is ↦ at_here (StoresWord (at + i) (slice_index (list_block p.1.next) i)) (fresh_set s spent, f) p (first ∷ done) now b.leads
              (stores ∙ ap (λ n. Some (Store (at + n) word)) (sym is) ∙ ap (λ v. Some (Store (at + i) v)) (goes.3 ∙ ap (slice_index (list_block p.1.next)) (sym is)))
          | inr other ↦ old.stored i (omega (arith, below, other))
        ];
      } in
      let length_is : length (list_block p.1.next) ≡ count = let c = goes.0.count in let size = length-pairs p.1.next in omega (arith, c, size) in
      let read : (q : SetPair) → q.0.head ≡ p.0.head → q.1.read ≡ p.1.read →
      HasReadFirst s first q = λ q head same. record { head = head ∙ knows.0.head; list = subst (IsListOf s first) (sym same) knows.0.list } in
      cond_both ((k + 1) == count) (Publish at) (Write at (k + 1) count (slice_index (list_block p.1.next) (k + 1))) (λ stage. After (in_stage p stage))
      (λ e.
      let all : k + 1 ≡ length (list_block p.1.next) = eqb-true (k + 1) count e ∙ sym length_is in
      let stored : IsStored s (fresh_set s spent, f) ((first ∷ done) ++ now ∷ []) p at (length (list_block p.1.next)) = subst
      (IsStored s (fresh_set s spent, f) ((first ∷ done) ++ now ∷ []) p at) all one_more in
      (read (in_stage p (Publish at)) refl refl, whole, record { claimed = stored.claimed; from = stored.from; to = stored.to; stored = stored.stored }))
      (λ e. (
        read (in_stage p (Write at (k + 1) count (slice_index (list_block p.1.next) (k + 1)))) refl refl,
        whole,
        record { claimed = one_more.claimed; from = one_more.from; to = one_more.to; stored = one_more.stored },
      ))

  -- the answer that the words give to a step that is known
  answered : (C : ℕ → Type 0) (a c : Step) → Some a ≡ Some c → C (answer_of now a) → C (answer_of now c)
  answered C a c e h = let same : a ≡ c = cc in subst (λ step. C (answer_of now step)) same h

  step_known : (stage : Stage) (step : Step) → p.0.stage ≡ stage → IsPossibleInSet p (answer_of now step) → set_step_at p.0.sizes p.0.head stage ≡ Some step → set_goes_at stage p → Before stage p →
      Steps stage (answer_of now step)
  unfolding Steps
  step_known Head step is possible e goes knows = absurd knows
  step_known (ListLen at) step is possible e goes knows = answered (Steps (ListLen at)) (Load at) step e (step_list_len at is goes knows)
  step_known (ListLow at left) step is possible e goes knows = answered (Steps (ListLow at left)) (Load at) step e (step_list_low at left is goes knows)
  step_known (ListHigh at left lo) step is possible e goes knows = answered (Steps (ListHigh at left lo)) (Load at) step e (step_list_high at left lo is goes knows)
  step_known Counter step is possible e goes knows = step_counter (answer_of now step) is goes (subst (λ st. is_possible_at st p (answer_of now step)) is possible) knows
  step_known (Slot slot) step is possible e goes knows =
      let due : Load (slot_word p.0.sizes slot) ≡ step = cc in
      let word : slot_at s now slot ≡ answer_of now step = ap (λ (l : Layout). slot_at l now slot) (sym b.sizes) ∙ ap (answer_of now) due in
      subst (Steps (Slot slot)) word (step_slot slot is (subst IsLayout (sym b.sizes) layout) goes knows)
  step_known (Len slot at) step is possible e goes knows = step_len slot at (answer_of now step) is goes knows
  step_known (Index slot at left) step is possible e goes knows = step_index slot at left (answer_of now step) is goes knows
  step_known (Claim count) step is possible e goes knows =
      let due : Add (list_counter p.0.sizes) count ≡ step = cc in
      let word : slice_index now (list_counter s) ≡ answer_of now step = ap (λ (l : Layout). slice_index now (list_counter l)) (sym b.sizes) ∙ ap (answer_of now) due in
      subst (Steps (Claim count)) word (step_claim count is goes knows)
  step_known (Write at k count word) step is possible e goes knows = step_write at k count word (answer_of now step) is goes knows
  step_known (Publish at) step is possible e goes knows = (record { head = knows.0.head; list = knows.0.list }, whole_on (λ x at one. let never : ⊥ = cc in never) knows.1)
  step_known Done step is possible e goes knows = let never : ⊥ = cc in absurd never

-- after the first step
lists_begin : (s : Layout) (spent : Bool) (f : Buffers) (first : List ℕ) → Orderly s first → ListsOf s (fresh_set s spent, f) first (first ∷ []) (advance_set (fresh_set s spent, f) (head_at s first))
lists_begin s spent f first orderly =
    let x = head_at s first in
    let p : SetPair = (fresh_set s spent, f) in
    let none : (y : ℕ) → AtSomeStep (FindsVacated s y) p (first ∷ []) → ⊥ = λ y h. elim h [ inl now ↦ let bad : Head ≡ Slot y = now.0 in cc | inr never ↦ never ] in
    cond_both (x == 0) Counter (ListLen x) (λ stage. ListsOf s p first (first ∷ []) (record p.0 { head = x; stage = stage }, record p.1 { indices = []; read = []; next = [] }))
    (λ e. (none, record { head = refl; list = inl (eqb-true x 0 e, refl) }))
    (λ e. (none, refl, refl, elim orderly.head [ inl empty ↦ absurd (eqb-false x 0 e empty) | inr there ↦ there ]))

-- wherever a run is
lists_behind : (s : Layout) (spent : Bool) (f : Buffers) (first : List ℕ) (ms : Past) (q : SetPair) → IsLayout s → AreFoundFor s f → IsPairwiseOrderly s [] (first ∷ ms) →
    LeadsTo (fresh_set s spent, f) (first ∷ ms) q → ListsOf s (fresh_set s spent, f) first (first ∷ ms) q
unfolding Steps
lists_behind s spent f first ms q layout sizes orderly leads =
    holds_behind s layout spent f sizes first (λ past p. ListsOf s (fresh_set s spent, f) first past p)
    (λ done p now st b due knows. step_known s layout spent f first done p now b p.0.stage st refl (b.possible st due) due b.together.stage knows)
    ms q (lists_begin s spent f first orderly.0) orderly leads

-- no interval of the list read has the slot at which the walk stands
pub at_slot_outside : (p : SetPair) (slot : ℕ) → IsAtSlot p slot → Holds p.1.read slot → ⊥
at_slot_outside p slot here holds = elim (cases_lt holds.0 p.0.passed) [
  | inl passed ↦ omega (arith, here.walking.before holds.0 passed, holds.3)
  | inr ahead ↦ omega (arith, here.outside holds.0 ahead holds.1, holds.2)
]

goes_in : (q : SetPair) (stage : Stage) → SetGoesTogether q → q.0.stage ≡ stage → set_goes_at stage q
goes_in q stage together is = subst (λ st. set_goes_at st q) is together.stage

knows_in : (s : Layout) (first : List ℕ) (past : Past) (q : SetPair) (stage : Stage) → Knows s first past q → q.0.stage ≡ stage → knows_by (facts_of_moments s first past) stage q
knows_in s first past q stage knows is = subst (λ st. knows_by (facts_of_moments s first past) st q) is knows

-- what is past was at one of the moments of the run
from_onto : (P : List ℕ → Type 0) (first : List ℕ) (ms : Past) → AtSome P (onto ms (first ∷ [])) → AtSome P (first ∷ ms)
from_onto P first ms some = elim (onto_some P ms (first ∷ []) some) [
  | inl behind ↦ elim behind [ inl here ↦ inl here | inr never ↦ absurd never ]
  | inr ahead ↦ inr ahead
]

module _ (s : Layout) (first : List ℕ) (ms : Past) (q : SetPair) (reached : Reached s first (onto ms (first ∷ [])) q) where
  vacated_list : IsNormal q.1.next → EndsBelow q.1.next q.0.sizes.slots → AreVacated (facts_of_moments s first (onto ms (first ∷ []))) q.1.next → WasVacated s (first ∷ ms) q.1.next
  vacated_list normal below listed = record {
    normal = normal;
    within = λ x holds. omega (arith, below holds.0 holds.1, holds.3, ap (λ (l : Layout). l.slots) reached.sizes);
    vacated = λ x holds. from_onto (λ w. slot_at s w x ≡ 1) first ms (listed x holds);
  }

-- the list read, once it is
list_read : (s : Layout) (start : SetPair) (first : List ℕ) (ms : Past) (stage : Stage) (q : SetPair) → is_reading stage ≡ false → lists_at s start first ms stage q → IsListOf s first q.1.read
list_read s start first ms Head q e lists = absurd (false≢true (sym e))
list_read s start first ms (ListLen at) q e lists = absurd (false≢true (sym e))
list_read s start first ms (ListLow at left) q e lists = absurd (false≢true (sym e))
list_read s start first ms (ListHigh at left lo) q e lists = absurd (false≢true (sym e))
list_read s start first ms Counter q e lists = lists.1.list
list_read s start first ms (Slot slot) q e lists = lists.0.list
list_read s start first ms (Len slot at) q e lists = lists.0.list
list_read s start first ms (Index slot at left) q e lists = lists.0.list
list_read s start first ms (Claim count) q e lists = lists.0.list
list_read s start first ms (Write at k count word) q e lists = lists.0.list
list_read s start first ms (Publish at) q e lists = lists.0.list
list_read s start first ms Done q e lists = lists.0.list

-- the lists of vacated slots, for each machine that a run has reached
keeps_lists : (s : Layout) (spent : Bool) (f : Buffers) (moments : Past) (q : SetPair) → IsLayout s → AreFoundFor s f → IsPairwiseOrderly s [] moments → LeadsTo (fresh_set s spent, f) moments q →
    KeepsLists s (fresh_set s spent, f) moments q
keeps_lists s spent f [] q layout sizes orderly leads =
    let fresh_stage : q.0.stage ≡ Head = ap (λ (r : SetPair). r.0.stage) leads in
    record {
      reads = λ e. absurd (false≢true (sym e ∙ ap is_reading fresh_stage));
      loads_none = λ slot is holds. let never : ⊥ = cc in never;
      claims = λ count is. let never : ⊥ = cc in absurd never;
      writes = λ at k count word is. let never : ⊥ = cc in absurd never;
      publishes = λ at is. let never : ⊥ = cc in absurd never;
      exchange = λ at x y is. let never : ⊥ = cc in absurd never;
      refused = λ count x is past_end. let never : ⊥ = cc in absurd never;
    }
keeps_lists s spent f (first ∷ ms) q layout sizes orderly leads =
    let reached = reached_from s spent f layout sizes first ms q orderly leads in
    let lists = lists_behind s spent f first ms q layout sizes orderly leads in
    let in_stage' : (stage : Stage) → q.0.stage ≡ stage →
    lists_at s (fresh_set s spent, f) first (first ∷ ms) stage q = λ stage is. subst (λ st. lists_at s (fresh_set s spent, f) first (first ∷ ms) st q) is lists in
    record {
      reads = λ e. list_read s (fresh_set s spent, f) first (first ∷ ms) q.0.stage q e lists;
      loads_none = λ slot is. at_slot_outside q slot (goes_in q (Slot slot) reached.together is);
      claims = λ count is.
          let goes = goes_in q (Claim count) reached.together is in
          let knows = knows_in s first (onto ms (first ∷ [])) q (Claim count) reached.knows is in
          let c = goes.count in
          let size = length-pairs q.1.next in
          (record { vacated = vacated_list s first ms q reached goes.next goes.within knows.0.0; slots = (in_stage' (Claim count) is).1 }, omega (arith, c, size));
      writes = λ at k count word is.
          let goes = goes_in q (Write at k count word) reached.together is in
          let knows = knows_in s first (onto ms (first ∷ [])) q (Write at k count word) reached.knows is in
          let here = in_stage' (Write at k count word) is in
          (record { vacated = vacated_list s first ms q reached goes.0.next goes.0.within knows.0; slots = here.1 }, here.2, goes.3);
      publishes = λ at is.
          let goes = goes_in q (Publish at) reached.together is in
          let knows = knows_in s first (onto ms (first ∷ [])) q (Publish at) reached.knows is in
          let here = in_stage' (Publish at) is in
          let due : set_step_due q.0 ≡ Some (Exchange (list_head s) (head_at s first) at) = ap (λ st. set_step_at q.0.sizes q.0.head st) is
          ∙ ap (λ (l : Layout). Some (Exchange (list_head l) q.0.head at)) reached.sizes ∙ ap (λ n. Some (Exchange (list_head s) n at)) here.0.head in
          (record { vacated = vacated_list s first ms q reached goes.0 goes.1 knows.0; slots = here.1 }, here.2, due);
      exchange = λ at x y is. subst (λ st. advance_set_at st q x ≡ advance_set_at st q y) (sym is) refl;
      refused = λ count x is past_end. subst (λ st. (set_step_due (advance_set_at st q x).0 ≡ None) × ((advance_set_at st q x).0.lists_spent ≡ true) × ((advance_set_at st q x).1 ≡ q.1)) (sym is)
          (cond_both (nat_lt (list_end q.0.sizes) (x + count)) (record q.0 { lists_spent = true; stage = Done }, q.1) (in_stage q (Write x 0 count (length q.1.next)))
          (λ (r : SetPair). (set_step_due r.0 ≡ None) × (r.0.lists_spent ≡ true) × (r.1 ≡ q.1))
          (λ e. (refl, refl, refl))
          (λ e. absurd (omega (arith, ltb-false (list_end q.0.sizes) (x + count) e, past_end))));
    }

pub lists_by_events : GetSetsKeepLists
lists_by_events s spent f own words events q layout sizes orderly makes =
    keeps_lists s spent f (own_moments own words events) q layout sizes (moments_of s own words events orderly) (own_leads own (fresh_set s spent, f) q words events makes)
