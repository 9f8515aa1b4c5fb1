-- What initial records have beside their values is 0 in every arena.
use Rattle.partial_epochs.proofs.{Common.{ℕ, ◌≡◌, ◌≢◌, ◌+◌, ◌-◌, ◌*◌, ◌%◌, ◌/◌, ◌<◌, ◌≤◌, ◌==◌, ◌⊎◌, Bool, true, false, if◌then◌else◌, Option, Some, None, List, [], ◌∷◌, slice_index, slice_set, refl, sym, ap, ◌∙◌, inl, inr, arith, cases_lt, get_or-set_other, Applied, Opening, initial_stamp, Layout, list_base, pool_base, first_free, initial_record, initial_words, plain_record_size, prev_word, value_word, view_word, opening_word, opening_record, initial_prev, initial_view, IsToBeSet, Plan, arena_words, base, Port, Epoch, Beside, HasClearRecords, LawfulEpochs, opened_after, set_word}, Offsets.{offset_after, set_apart, set_low}, Worded.{plain_at, plain_other}}
use Rattle.partial_words.specs.{Record.prev_of, Chain.{IsChain, links_from}}
use Rattle.partial_words.specs.declared.record.Link.{Link}

-- the last of these links is this one
EndsWith : Link → List Link → Type 0
EndsWith l [] = ⊥
EndsWith l (k ∷ []) = k ≡ l
EndsWith l (k ∷ m ∷ ls) = EndsWith l (m ∷ ls)

-- the record at the end of a chain has none before it
chain_ends : (words : List ℕ) (at : ℕ) (l : Link) (ls : List Link) → IsChain words at ls → EndsWith l ls → prev_of words l.stamp ≡ 0
unfolding EndsWith
chain_ends words at l [] chain ends = absurd chain
chain_ends words at l (k ∷ []) chain ends = ap (λ (n : Link). prev_of words n.stamp) (sym ends) ∙ ap (prev_of words) chain.0.stamp ∙ chain.1
chain_ends words at l (k ∷ m ∷ ls) chain ends = chain_ends words (prev_of words at) l (m ∷ ls) chain.1 ends

still_ends : (l k : Link) (ls : List Link) (b : Bool) → EndsWith l ls → EndsWith l (if b then k ∷ ls else ls)
unfolding EndsWith
still_ends l k [] b ends = absurd ends
still_ends l k (m ∷ ls) true ends = ends
still_ends l k (m ∷ ls) false ends = ends

links_end : (l : Link) (found : List Link) (j : ℕ) (h : List Applied) → EndsWith l found → EndsWith l (links_from found j h)
unfolding links_from
links_end l found j [] ends = ends
links_end l found j (e ∷ h) ends = links_end l (if e.component == j then (record { stamp = e.stamp; value = e.value } ∷ found) else found) j h
    (still_ends l (record { stamp = e.stamp; value = e.value }) found (e.component == j) ends)

-- the initial record of component j
abbrev first_link : Opening → ℕ → Link
first_link o j = record { stamp = initial_stamp o j; value = slice_index o.values j }

first_ends : (o : Opening) (j : ℕ) (h : List Applied) → EndsWith (first_link o j) (links_from (first_link o j ∷ []) j h)
unfolding EndsWith
first_ends o j h = links_end (first_link o j) (first_link o j ∷ []) j h refl

-- an opening has 0 there
prev_opens : (s : Layout) (l : List ℕ) (j : ℕ) → j < s.m → opening_word s l (prev_word (initial_record s j)) ≡ 0
prev_opens s l j low = ap (opening_word s l) (omega arith) ∙ opening_record s l (plain_record_size * j) (omega (arith, low)) ∙ initial_prev l j

view_opens : (s : Layout) (l : List ℕ) (j : ℕ) → j < s.m → opening_word s l (view_word (initial_record s j)) ≡ 0
view_opens s l j low = ap (opening_word s l) (omega arith) ∙ opening_record s l (view_word (plain_record_size * j)) (omega (arith, low)) ∙ initial_view l j

-- a word of an initial record is the first one, the value or the view of a component's
word_of_record : (s : Layout) (i : ℕ) → pool_base s ≤ i → i < first_free s →
    (j : ℕ) × (j < s.m) × ((i ≡ prev_word (initial_record s j)) ⊎ ((i ≡ value_word (initial_record s j)) ⊎ (i ≡ view_word (initial_record s j))))
word_of_record s i from low = ((i - pool_base s) / plain_record_size, omega (arith, from, low), by (cases_lt ((i - pool_base s) % plain_record_size) 1))
  where
    by : ((i - pool_base s) % plain_record_size < 1) ⊎ (1 ≤ (i - pool_base s) % plain_record_size) →
        ((i ≡ prev_word (initial_record s ((i - pool_base s) / plain_record_size))) ⊎ ((i ≡ value_word (initial_record s ((i - pool_base s) / plain_record_size)))
        ⊎ (i ≡ view_word (initial_record s ((i - pool_base s) / plain_record_size)))))
    by (inl first) = inl (omega (arith, from, first))
    by (inr behind) = elim (cases_lt ((i - pool_base s) % plain_record_size) 2) [
      | inl second ↦ inr (inl (omega (arith, from, behind, second)))
      | inr third ↦ inr (inr (omega (arith, from, third)))
    ]

-- the words that are set, and those that are 0, are those of an opening
pub opens_by_set : (e : Plan) (words values : List ℕ) (x i : ℕ) → HasClearRecords e words x → i < first_free e.sizes → (i < list_base e.sizes) ⊎ (pool_base e.sizes ≤ i) →
    (IsToBeSet e.sizes i → slice_index words (base e x + i) ≡ opening_word e.sizes values i) → slice_index words (base e x + i) ≡ opening_word e.sizes values i
opens_by_set e words values x i clear low (inl front) is_set = is_set (inl front)
opens_by_set e words values x i clear low (inr from) is_set = by (word_of_record e.sizes i from low)
  where
    by : (j : ℕ) × (j < e.sizes.m) × ((i ≡ prev_word (initial_record e.sizes j)) ⊎ ((i ≡ value_word (initial_record e.sizes j)) ⊎ (i ≡ view_word (initial_record e.sizes j)))) →
        slice_index words (base e x + i) ≡ opening_word e.sizes values i
    by (j, less, inl is) = ap (λ n. slice_index words (base e x + n)) is ∙ (clear j less).0 ∙ sym (ap (opening_word e.sizes values) is ∙ prev_opens e.sizes values j less)
    by (j, less, inr (inl is)) = is_set (inr (inr (j, less, is)))
    by (j, less, inr (inr is)) = ap (λ n. slice_index words (base e x + n)) is ∙ (clear j less).1 ∙ sym (ap (opening_word e.sizes values) is ∙ view_opens e.sizes values j less)

-- words that are the same there
pub records_same : (e : Plan) (words words' : List ℕ) (x : ℕ) → ((i : ℕ) → pool_base e.sizes ≤ i → i < first_free e.sizes → slice_index words' (base e x + i) ≡ slice_index words (base e x + i)) →
    HasClearRecords e words x → HasClearRecords e words' x
records_same e words words' x same clear j low = (
  same (prev_word (initial_record e.sizes j)) (omega arith) (omega (arith, low)) ∙ (clear j low).0,
  same (view_word (initial_record e.sizes j)) (omega arith) (omega (arith, low)) ∙ (clear j low).1,
)

-- none of these words is one that is set
apart_from_set : (s : Layout) (i : ℕ) → IsToBeSet s i → (j : ℕ) → j < s.m → (prev_word (initial_record s j) ≢ i) × (view_word (initial_record s j) ≢ i)
apart_from_set s i (inl front) j low = ((λ same. omega (arith, front, same)), (λ same. omega (arith, front, same)))
apart_from_set s i (inr (inl high)) j low = ((λ same. omega (arith, high, low, same)), (λ same. omega (arith, high, low, same)))
apart_from_set s i (inr (inr (k, less, is))) j low = ((λ same. omega (arith, is, same)), (λ same. omega (arith, is, same)))

-- the store of a word that is set leaves them as they are
pub records_kept : (e : Plan) (words : List ℕ) (x i v : ℕ) → initial_words e.sizes ≤ e.sizes.pool → IsToBeSet e.sizes i → HasClearRecords e words x → HasClearRecords e (slice_set words (set_word e x i) v) x
records_kept e words x i v room to_set clear j low =
    let apart = apart_from_set e.sizes i to_set j low in (
      other (prev_word (initial_record e.sizes j)) (omega arith) (omega (arith, low)) apart.0 ∙ (clear j low).0,
      other (view_word (initial_record e.sizes j)) (omega arith) (omega (arith, low)) apart.1 ∙ (clear j low).1,
    )
  where
    other : (n : ℕ) → pool_base e.sizes ≤ n → n < first_free e.sizes → n ≢ i → slice_index (slice_set words (set_word e x i) v) (base e x + n) ≡ slice_index words (base e x + n)
    other n from less ne =
        let at : set_word e x n ≡ base e x + n = set_low e x n less ∙ ap (λ m. base e x + m) (offset_after e.sizes n (omega (arith, from))) in
        get_or-set_other words (set_word e x i) (base e x + n) v 0 (λ same. set_apart e x n i room ne (at ∙ same))

-- the initial records of an arena are clear whether it holds an epoch or none
pub records_before : (e : Plan) (words : List ℕ) (ports : ℕ → Port) (b : Beside) → LawfulEpochs e words ports b → (y : ℕ) → y < e.arenas → HasClearRecords e words y
records_before e words ports b w y inside = by (b.holds y) refl
  where
    by : (t : Option Epoch) → b.holds y ≡ t → HasClearRecords e words y
    by None is = w.records y inside is
    by (Some r) is = λ j low.
        let m = (w.arenas y r is).lawful.memory in
        let pool = w.plan.sizes.pool.0 in
        let long = m.values in
        let first = m.stamps in
        let o : Opening = opened_after e.opening r.before in
        let bw : List ℕ = arena_words e words y in
        let stamp : initial_stamp o j ≡ initial_record e.sizes j = omega (arith, first) in
        let prev : prev_of bw (initial_stamp o j) ≡ 0 =
        chain_ends bw (slice_index bw j) (first_link o j) (links_from (first_link o j ∷ []) j r.log) (m.agrees j (omega (arith, long, low))).1 (first_ends o j r.log) in
        let seen : (i : ℕ) → pool_base e.sizes ≤ i → i < first_free e.sizes → slice_index bw i ≡ slice_index words (base e y + i) =
        λ i from less. plain_at e words y i (omega (arith, less, pool)) ∙ plain_other e words y i (slice_index words (base e y + i)) (omega (arith, from)) in (
          sym (seen (prev_word (initial_record e.sizes j)) (omega arith) (omega (arith, low))) ∙ ap (prev_of bw) (sym stamp) ∙ prev,
          sym (seen (view_word (initial_record e.sizes j)) (omega arith) (omega (arith, low))) ∙ m.initial j low,
        )
