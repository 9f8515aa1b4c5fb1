-- The regions of the words, and the words at opening.
use Rattle.partial_words.proofs.Common.{ℕ, ◌≡◌, ◌+◌, ◌-◌, ◌*◌, ◌/◌, ◌%◌, ◌<◌, ◌≤◌, ◌==◌, if◌then◌else◌, List, [], length, slice_index, refl, sym, ◌∙◌, ap, inl, inr, arith, cases_lt, Opening, view_word, view_of}
use Rattle.std.proofs.lemmas.Bool.Decides.{nat_tests}
use Rattle.partial_model.specs.History.{last_from}
use Rattle.partial_words.specs.{Layout.{Layout, Region, Components, SlotCounter, ListHead, PoolCounter, ListCounter, Slots, Lists, Pool, StandsIn, AreRegionsOf, total, pool_base, initial_record}, Chain.{OpensWith, Agrees, opening_word, initial_record_word, links_from}}

region_cover : (s : Layout) (w : ℕ) → w < total s → (region : Region) × StandsIn s w region
region_cover s w below =
    elim (cases_lt w s.m) [
      | inl h ↦ (Components, (omega arith, h))
      | inr h0 ↦
          elim (cases_lt w (s.m + 1)) [
            | inl h ↦ (SlotCounter, (omega arith, omega arith))
            | inr h1 ↦
                elim (cases_lt w (s.m + 2)) [
                  | inl h ↦ (ListHead, (omega arith, omega arith))
                  | inr h2 ↦
                      elim (cases_lt w (s.m + 3)) [
                        | inl h ↦ (PoolCounter, (omega arith, omega arith))
                        | inr h3 ↦
                            elim (cases_lt w (s.m + 4)) [
                              | inl h ↦ (ListCounter, (omega arith, omega arith))
                              | inr h4 ↦
                                  elim (cases_lt w (s.m + 4 + s.slots)) [
                                    | inl h ↦ (Slots, (omega arith, omega arith))
                                    | inr h5 ↦
                                        elim (cases_lt w (s.m + 4 + s.slots + s.lists)) [
                                          | inl h ↦ (Lists, (omega arith, omega arith))
                                          | inr h6 ↦
                                              (Pool, (omega arith, omega arith))
                                        ]
                                  ]
                            ]
                      ]
                ]
          ]
    ]

region_disjoint : (s : Layout) (w : ℕ) (a b : Region) → StandsIn s w a → StandsIn s w b → a ≡ b
region_disjoint s w Components Components x y = refl
region_disjoint s w SlotCounter SlotCounter x y = refl
region_disjoint s w ListHead ListHead x y = refl
region_disjoint s w PoolCounter PoolCounter x y = refl
region_disjoint s w ListCounter ListCounter x y = refl
region_disjoint s w Slots Slots x y = refl
region_disjoint s w Lists Lists x y = refl
region_disjoint s w Pool Pool x y = refl
region_disjoint s w a b x y = absurd (omega arith)

region_within : (s : Layout) (w : ℕ) (region : Region) → StandsIn s w region → w < total s
region_within s w Components x = omega arith
region_within s w SlotCounter x = omega arith
region_within s w ListHead x = omega arith
region_within s w PoolCounter x = omega arith
region_within s w ListCounter x = omega arith
region_within s w Slots x = omega arith
region_within s w Lists x = omega arith
region_within s w Pool x = omega arith

pub regions_apart : (s : Layout) → AreRegionsOf s
regions_apart s = record { cover = region_cover s; disjoint = region_disjoint s; within = region_within s }

pub opening_component : (s : Layout) (initial : List ℕ) (w : ℕ) → w < s.m → opening_word s initial w ≡ pool_base s + 3 * w
opening_component s initial w below = grind (arith, nat_tests)

pub opening_record : (s : Layout) (initial : List ℕ) (k : ℕ) → k < 3 * s.m → opening_word s initial (pool_base s + k) ≡ initial_record_word initial k
opening_record s initial k below =
    let e : pool_base s + k - pool_base s ≡ k = omega arith in
    let f : opening_word s initial (pool_base s + k) ≡ initial_record_word initial (pool_base s + k - pool_base s) = grind (arith, nat_tests) in
    f ∙ ap (initial_record_word initial) e

pub initial_value : (initial : List ℕ) (j : ℕ) → initial_record_word initial (3 * j + 1) ≡ slice_index initial j
initial_value initial j =
    let e : (3 * j + 1) % 3 ≡ 1 = omega arith in
    let f : (3 * j + 1) / 3 ≡ j = omega arith in
    ap (λ n. if n == 1 then slice_index initial ((3 * j + 1) / 3) else 0) e ∙ ap (slice_index initial) f

pub initial_prev : (initial : List ℕ) (j : ℕ) → initial_record_word initial (3 * j) ≡ 0
initial_prev initial j =
    let e : (3 * j) % 3 ≡ 0 = omega arith in
    ap (λ n. if n == 1 then slice_index initial (3 * j / 3) else 0) e

pub initial_view : (initial : List ℕ) (j : ℕ) → initial_record_word initial (3 * j + 2) ≡ 0
initial_view initial j =
    let e : (3 * j + 2) % 3 ≡ 2 = omega arith in
    ap (λ n. if n == 1 then slice_index initial ((3 * j + 2) / 3) else 0) e

-- the view of the initial record of component j is the empty one
pub view_opens : (s : Layout) (o : Opening) (words : List ℕ) (j : ℕ) → OpensWith s o words → j < s.m → view_of words (initial_record s j) ≡ 0
view_opens s o words j opens below =
    let pool : 3 * s.m ≤ s.pool = opens.sizes.pool.0 in
    let at : view_word (initial_record s j) ≡ pool_base s + (3 * j + 2) = omega arith in
    ap (slice_index words) at ∙ opens.words.each (pool_base s + (3 * j + 2)) (omega (arith, pool, below)) ∙ opening_record s o.values (3 * j + 2) (omega (arith, below)) ∙ initial_view o.values j

-- component j of an opening names its initial record, which holds its value and has none before it
pub opening_agrees : (s : Layout) (o : Opening) (words : List ℕ) → OpensWith s o words → Agrees o words []
unfolding last_from links_from
opening_agrees s o words opens j below =
    let in' : j < s.m = omega (arith, opens.values, below) in
    let pool : 3 * s.m ≤ s.pool = opens.sizes.pool.0 in
    let named : slice_index words j ≡ pool_base s + 3 * j = opens.words.each j (omega arith) ∙ opening_component s o.values j in' in
    let prev : slice_index words (pool_base s + 3 * j) ≡ 0 = opens.words.each (pool_base s + 3 * j) (omega arith) ∙ opening_record s o.values (3 * j) (omega arith) ∙ initial_prev o.values j in
    let value : slice_index words (pool_base s + (3 * j + 1)) ≡ slice_index o.values j = opens.words.each (pool_base s + (3 * j + 1)) (omega arith) ∙ opening_record s o.values (3 * j + 1)
    (omega arith) ∙ initial_value o.values j in
    let stamp : o.first + 3 * j ≡ pool_base s + 3 * j = ap (λ n. n + 3 * j) opens.stamps in
    let next : slice_index words j + 1 ≡ pool_base s + (3 * j + 1) = omega (arith, named) in
    let count : length words ≡ total s = opens.words.count in
    (named ∙ sym stamp, (record { stamp = stamp ∙ sym named; within = omega (arith, named, count, pool, in'); value = ap (slice_index words) next ∙ value }, ap (slice_index words) named ∙ prev))
