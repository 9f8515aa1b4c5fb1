-- The offsets of the control words and of the words of arenas.
use Rattle.partial_epochs.proofs.{Common.{ℕ, ◌≡◌, ◌≢◌, ◌+◌, ◌-◌, ◌*◌, ◌<◌, ◌≤◌, ◌⊎◌, Bool, if◌then◌else◌, List, ap, ◌∙◌, inl, inr, arith, slice_index, mul-le-mul_right, cases_lt, lt-ltb, total, first_free, not_below, Plan, Site, packed, base, span, whole, control_words, control_size, arena_words, component_words, carried_words, carried_word, plain, set_word, arena_limit, initial_words, Layout, list_base, slot_counter, slot_word, IsToBeSet, set_offset, eqb_tells, sym}, Lists.same_of}

-- arenas lie one after the other
pub bases_up : (e : Plan) (x y : ℕ) → x < y → base e x + span e ≤ base e y
bases_up e x y below =
    let le : x + 1 ≤ y = omega (arith, below) in
    let more : (x + 1) * span e ≤ y * span e = mul-le-mul_right (span e) le in
    omega (arith, more)

-- a word of another arena isn't one of the inner memory of arena x
pub other_arena : (e : Plan) (x y i : ℕ) → y ≢ x → i < span e → (base e y + i < base e x) ⊎ (base e x + total e.sizes ≤ base e y + i)
other_arena e x y i other inside = elim (cases_lt y x) [
  | inl below ↦ let up = bases_up e y x below in inl (omega (arith, up, inside))
  | inr from ↦ let up = bases_up e x y (omega (arith, from, other)) in inr (omega (arith, up))
]

pub below_whole : (e : Plan) (x i : ℕ) → x < e.arenas → i < span e → base e x + i < whole e
below_whole e x i below inside = let up = bases_up e x e.arenas below in omega (arith, up, inside)

-- the words before the list words are set from the last one down, and the later ones in their order
pub offset_front : (s : Layout) (i : ℕ) → i < list_base s → set_offset s i ≡ list_base s - (i + 1)
offset_front s i low = ap (λ (c : Bool). if c then list_base s - (i + 1) else i) (lt-ltb i (list_base s) low)

pub offset_after : (s : Layout) (i : ℕ) → list_base s ≤ i → set_offset s i ≡ i
offset_after s i from = ap (λ (c : Bool). if c then list_base s - (i + 1) else i) (not_below i (list_base s) from)

-- the word of that number is of the same kind, and its number is the first one again
pub offset_low : (s : Layout) (i : ℕ) → i < first_free s → set_offset s i < first_free s
offset_low s i low = elim (cases_lt i (list_base s)) [
  | inl front ↦ let at = offset_front s i front in omega (arith, at, front)
  | inr behind ↦ let at = offset_after s i behind in omega (arith, at, low)
]

pub offset_to_be_set : (s : Layout) (i : ℕ) → IsToBeSet s i → IsToBeSet s (set_offset s i)
offset_to_be_set s i (inl front) = let at = offset_front s i front in inl (omega (arith, at, front))
offset_to_be_set s i (inr (inl high)) = let at = offset_after s i (omega (arith, high)) in inr (inl (omega (arith, at, high)))
offset_to_be_set s i (inr (inr (j, less, is))) = let at = offset_after s i (omega (arith, is)) in inr (inr (j, less, at ∙ is))

pub offset_back : (s : Layout) (i : ℕ) → set_offset s (set_offset s i) ≡ i
offset_back s i = elim (cases_lt i (list_base s)) [
  | inl front ↦
      let at = offset_front s i front in
      let back = offset_front s (set_offset s i) (omega (arith, at, front)) in
      back ∙ omega (arith, at, front)
  | inr behind ↦ let at = offset_after s i behind in ap (set_offset s) at ∙ at
]

pub offset_apart : (s : Layout) (i j : ℕ) → i ≢ j → set_offset s i ≢ set_offset s j
offset_apart s i j ne same = ne (sym (offset_back s i) ∙ ap (set_offset s) same ∙ offset_back s j)

-- the words of an opening among those that are set, and the carried stamps after them
pub set_low : (e : Plan) (x i : ℕ) → i < first_free e.sizes → set_word e x i ≡ base e x + set_offset e.sizes i
set_low e x i below = ap (λ (c : Bool). if c then base e x + set_offset e.sizes i else (base e x + total e.sizes + (i - first_free e.sizes))) (lt-ltb i (first_free e.sizes) below)

pub set_high : (e : Plan) (x i : ℕ) → first_free e.sizes ≤ i → set_word e x i ≡ base e x + total e.sizes + (i - first_free e.sizes)
set_high e x i from = ap (λ (c : Bool). if c then base e x + set_offset e.sizes i else (base e x + total e.sizes + (i - first_free e.sizes))) (not_below i (first_free e.sizes) from)

-- the words that are set lie in the arena
pub set_index : (e : Plan) (x i : ℕ) → initial_words e.sizes ≤ e.sizes.pool → i < first_free e.sizes + e.sizes.m → (j : ℕ) × (j < span e) × (set_word e x i ≡ base e x + j)
set_index e x i room low = elim (cases_lt i (first_free e.sizes)) [
  | inl below ↦ let less = offset_low e.sizes i below in (set_offset e.sizes i, omega (arith, less, room), set_low e x i below)
  | inr from ↦ (total e.sizes + (i - first_free e.sizes), omega (arith, low, from), set_high e x i from ∙ omega arith)
]

-- each of them is set once
pub set_apart : (e : Plan) (x i j : ℕ) → initial_words e.sizes ≤ e.sizes.pool → i ≢ j → set_word e x i ≢ set_word e x j
set_apart e x i j room ne same = elim (cases_lt i (first_free e.sizes)) [
  | inl below ↦ elim (cases_lt j (first_free e.sizes)) [
    | inl below' ↦ let a = set_low e x i below in let c = set_low e x j below' in offset_apart e.sizes i j ne (omega (arith, a, c, same))
    | inr from ↦ let a = set_low e x i below in let c = set_high e x j from in let less = offset_low e.sizes i below in absurd (omega (arith, a, c, same, less, room))
  ]
  | inr from ↦ elim (cases_lt j (first_free e.sizes)) [
    | inl below ↦ let a = set_high e x i from in let c = set_low e x j below in let less = offset_low e.sizes j below in absurd (omega (arith, a, c, same, less, room))
    | inr from' ↦ let a = set_high e x i from in let c = set_high e x j from' in ne (omega (arith, a, c, same, from, from'))
  ]
]

-- the slots come first, from the last one down
pub slot_offset : (s : Layout) (i : ℕ) → i < s.slots → set_offset s i ≡ slot_word s (s.slots - (i + 1))
slot_offset s i low = let at = offset_front s i (omega (arith, low)) in omega (arith, at, low)

pub slot_set : (e : Plan) (x i : ℕ) → i < e.sizes.slots → set_word e x i ≡ base e x + slot_word e.sizes (e.sizes.slots - (i + 1))
slot_set e x i low = let a = set_low e x i (omega (arith, low)) in let at = slot_offset e.sizes i low in omega (arith, a, at)

pub slot_number : (e : Plan) (x l i : ℕ) → initial_words e.sizes ≤ e.sizes.pool → l < e.sizes.slots → set_word e x i ≡ base e x + slot_word e.sizes l → l + i + 1 ≡ e.sizes.slots
slot_number e x l i room low same = elim (eqb_tells i (e.sizes.slots - (l + 1))) [
  | inl is ↦ let n = is.1 in omega (arith, n, low)
  | inr ne ↦
      let slot = slot_set e x (e.sizes.slots - (l + 1)) (omega (arith, low)) in
      absurd (set_apart e x i (e.sizes.slots - (l + 1)) room ne.1 (omega (arith, same, slot, low)))
]

-- the slot counter comes after them
pub counter_number : (e : Plan) (x i : ℕ) → initial_words e.sizes ≤ e.sizes.pool → set_word e x i ≡ base e x + slot_counter e.sizes → e.sizes.slots ≤ i
counter_number e x i room same = elim (cases_lt i e.sizes.slots) [
  | inl low ↦ let slot = slot_set e x i low in absurd (omega (arith, same, slot, low))
  | inr from ↦ from
]

-- the sites that two words name
pub packed_arena : (e : Plan) (p q : Site) → e.arenas ≤ arena_limit → p.arena < e.arenas → q.arena < e.arenas → packed p ≡ packed q → (p.epoch ≡ q.epoch) × (p.arena ≡ q.arena)
packed_arena e p q few a b same = (omega (arith, few, a, b, same), omega (arith, few, a, b, same))

module _ (e : Plan) (words words' : List ℕ) (x : ℕ) (outside : (i : ℕ) → (i < base e x) ⊎ (base e x + total e.sizes ≤ i) → slice_index words' i ≡ slice_index words i) where
  pub control_same : control_words e words' ≡ control_words e words
  control_same = same_of (slice_index words') (slice_index words) 0 (control_size e) (λ i low high. outside i (inl (omega (arith, high))))

  pub carried_same : (y : ℕ) → carried_words e words' y ≡ carried_words e words y
  carried_same y = same_of (λ j. slice_index words' (carried_word e y j)) (λ j. slice_index words (carried_word e y j)) 0 e.sizes.m (λ j low high. outside (carried_word e y j) (away j high))
    where
      away : (j : ℕ) → j < 0 + e.sizes.m → (carried_word e y j < base e x) ⊎ (base e x + total e.sizes ≤ carried_word e y j)
      away j high = elim (cases_lt y x) [
        | inl below ↦ let up = bases_up e y x below in inl (omega (arith, up, high))
        | inr from ↦ let le : x * span e ≤ y * span e = mul-le-mul_right (span e) from in inr (omega (arith, le))
      ]

  module _ (y : ℕ) (other : y ≢ x) where
    pub arena_same : arena_words e words' y ≡ arena_words e words y
    arena_same = same_of (λ i. plain e i (slice_index words' (base e y + i))) (λ i. plain e i (slice_index words (base e y + i))) 0 (total e.sizes)
        (λ i low high. ap (plain e i) (outside (base e y + i) (other_arena e x y i other (omega (arith, high)))))

    pub components_same : component_words e words' y ≡ component_words e words y
    components_same = same_of (λ j. slice_index words' (base e y + j)) (λ j. slice_index words (base e y + j)) 0 e.sizes.m
        (λ j low high. outside (base e y + j) (other_arena e x y j other (omega (arith, high))))
