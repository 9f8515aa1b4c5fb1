-- Records of a history in lawful words: what stands before a record, and which words may be loaded.
use Rattle.partial_knowledge.proofs.Common.{ℕ, zero, suc, ◌≡◌, ◌≢◌, ◌+◌, ◌<◌, ◌≤◌, ◌++◌, if◌then◌else◌, List, [], ◌∷◌, length, map, take, slice_index, slice_get, Some, None, refl, sym, ◌∙◌, ap, subst, inl, inr, arith, AllByRecursion, cases_lt, eq-eqb, Applied, Opening, IsHistory, initial_stamp, stamp_of, last_entry, last_from-push, last_at, overtaken_at, take_within, in_whole, distinct_at, stamp_told, Layout, pool_base, pool_end, pool_counter, initial_words, prev_of, plain_record_size, prev_before_entry, Block, AreApart, IsApartFrom, IsWithin, IsBegunSince, Holding, unpublished, announcements, block_at, EachTwo, LawfulWords, IsEntry, IsReadable, HasEntry, AllByRecursion-get, PoolWords}
use Rattle.partial_model.proofs.AllLemmas.{all_back}
use Rattle.partial_words.specs.Chain.{Agrees}
use Rattle.partial_state.proofs.HoldingLemmas.{three_words}

-- a changed stamp is that of an entry between
pub record IsNewer (log : List Applied) (component a b stamp : ℕ) : Type 0 where
  pub place : ℕ
  pub entry : Applied
  pub stands : slice_get log place ≡ Some entry
  pub component_is : entry.component ≡ component
  pub stamp_is : entry.stamp ≡ stamp
  pub from : a ≤ place
  pub below : place < b

pub newer : (o : Opening) (log : List Applied) (j a b : ℕ) → a ≤ b → stamp_of o (take a log) j ≢ stamp_of o (take b log) j → IsNewer log j a b (stamp_of o (take b log) j)
newer o log j a b le changed =
    let found_at = overtaken_at o (take b log) j a (λ same. changed (sym (same ∙ ap (λ h. stamp_of o h j) (take_within a b log le)))) in
    let whole = in_whole b log found_at.place found_at.entry found_at.stands in
    record { place = found_at.place; entry = found_at.entry; stands = whole.1; component_is = found_at.component; stamp_is = found_at.stamp; from = found_at.behind; below = whole.0 }

-- the first k + 1 entries are the first k and the one at place k
take_one : {A : Type 0} (h : List A) (k : ℕ) (e : A) → slice_get h k ≡ Some e → take (suc k) h ≡ take k h ++ e ∷ []
take_one [] k e s = let bad : None ≡ Some e = s in cc
take_one (x ∷ h) zero e s = let is : x ≡ e = cc in ap (λ y. y ∷ []) is
take_one (x ∷ h) (suc k) e s = ap (λ l. x ∷ l) (take_one h k e s)

last_there : (log : List Applied) (k : ℕ) (e : Applied) → slice_get log k ≡ Some e → last_entry e.component (take (k + 1) log) ≡ Some e
last_there log k e stands = let next : k + 1 ≡ suc k = omega arith in ap (last_entry e.component) (ap (λ n. take n log) next ∙ take_one log k e stands) ∙ last_from-push None e.component
    (take k log) e ∙ ap (λ b. if b then Some e else last_entry e.component (take k log)) (eq-eqb e.component e.component refl)

-- after an entry for the component, its stamp is that of an entry at that place or later
pub entry_since : (o : Opening) (log : List Applied) (j low b : ℕ) → HasEntry log low b j → IsBegunSince log low (stamp_of o (take b log) j)
entry_since o log j low b has =
    let k = has.0 in
    let e = has.1 in
    let stands = has.2 in
    let from = has.4 in
    let below = has.5 in
    let inner : take (k + 1) (take b log) ≡ take (k + 1) log = take_within (k + 1) b log (omega (arith, below)) in
    let there : last_entry j (take (k + 1) (take b log)) ≡ Some e = ap (last_entry j) inner ∙ subst (λ c. last_entry c (take (k + 1) log) ≡ Some e) has.3 (last_there log k e stands) in
    let whole : take b (take b log) ≡ take b log = take_within b b log (omega arith) in
    elim (last_at None j (take b log)) [
      | inl all ↦ let bad : None ≡ Some e = sym (all (k + 1)) ∙ there in absurd cc
      | inr l ↦
          let at = in_whole b log l.place l.entry l.stands in
          let inside = at.0 in
          let stamp : stamp_of o (take b log) j ≡ l.entry.stamp = stamp_told o (take b log) j (Some l.entry) (ap (last_entry j) (sym whole) ∙ l.from b inside) in
          elim (cases_lt l.place k) [
            | inl before ↦ let same : Some l.entry ≡ Some e = sym (l.from (k + 1) (omega (arith, before))) ∙ there in let is : l.entry ≡ e =
                cc in (k, e, from, stands, ap (λ (x : Applied). x.stamp) (sym is) ∙ sym stamp)
            | inr later ↦ (l.place, l.entry, omega (arith, from, later), at.1, sym stamp)
          ]
    ]

-- a stamp is an initial one or that of an entry before
pub stamp_within : (o : Opening) (log : List Applied) (n j : ℕ) → j < length o.values → IsWithin o log n (stamp_of o (take n log) j)
stamp_within o log n j below = elim (last_at None j (take n log)) [
  | inl all ↦ inl (j, below, stamp_told o (take n log) j None (ap (last_entry j) (sym whole) ∙ all n))
  | inr l ↦
      let at = in_whole n log l.place l.entry l.stands in
      let inside = at.0 in
      inr (l.place, l.entry, inside, at.1, sym (stamp_told o (take n log) j (Some l.entry) (ap (last_entry j) (sym whole) ∙ l.from n inside)))
]
  where
    whole : take n (take n log) ≡ take n log
    whole = take_within n n log (omega arith)

-- a prefix that contains the record of an entry at `low` or later is longer than `low`
pub begun_within : (o : Opening) (log : List Applied) (low n stamp : ℕ) → IsHistory o log → IsBegunSince log low stamp → IsWithin o log n stamp → low < n
begun_within o log low n stamp history begun (inl initial) =
    let j = initial.0 in
    absurd (AllByRecursion-get (λ (e : Applied). (i : ℕ) → i < length o.values → e.stamp ≢ initial_stamp o i) log begun.0 begun.1 history.not_initial begun.3 j initial.1 (begun.4 ∙ initial.2))
begun_within o log low n stamp history begun (inr entry) =
    let from = begun.2 in
    let below = entry.2 in
    elim (cases_lt begun.0 entry.0) [
      | inl less ↦ omega (arith, from, below, less)
      | inr other ↦ elim (cases_lt entry.0 begun.0) [
        | inl less ↦ absurd (distinct_at log entry.0 begun.0 entry.1 begun.1 history.distinct entry.3 begun.3 less (entry.4 ∙ sym begun.4))
        | inr same ↦ omega (arith, from, below, same, other)
      ]
    ]

-- where an entry for its component stands before it, an entry's record was begun since that one
pub begun_since : (o : Opening) (words : List ℕ) (log : List Applied) (low k : ℕ) (e : Applied) → Agrees o words log → e.component < length o.values → slice_get log k ≡ Some e →
    HasEntry log low k e.component → IsBegunSince log low (prev_of words e.stamp)
begun_since o words log low k e agrees below stands has = subst (IsBegunSince log low) (sym (prev_before_entry o words log k e agrees below stands)) (entry_since o log e.component low k has)

-- the blocks of the entries are apart from those after them
entry_blocks : (f : Applied → Block) (log : List Applied) (rest : List Block) → EachTwo AreApart (map f log ++ rest) → AllByRecursion (λ e. AllByRecursion (AreApart (f e)) rest) log
entry_blocks f [] rest w = tt
entry_blocks f (e ∷ log) rest w = (all_back (AreApart (f e)) (map f log) rest w.0, entry_blocks f log rest w.1)

-- a part of a block is apart from what the block is apart from
pub apart_part : (us : List Block) (at size from count : ℕ) → at ≤ from → from + count ≤ at + size → IsApartFrom us (record { at = at; size = size }) →
    IsApartFrom us (record { at = from; size = count })
apart_part [] at size from count low high apart = tt
apart_part (b ∷ us) at size from count low high apart = (
  elim apart.0 [ inl before ↦ inl (omega (arith, high, before)) | inr behind ↦ inr (omega (arith, low, behind)) ],
  apart_part us at size from count low high apart.1,
)

-- a record of the history lies in the pool, below the counter, and no block that isn't published shares a word with it
pub record IsStanding (z : Layout) (words : List ℕ) (hs : List Holding) (stamp : ℕ) : Type 0 where
  pub above : pool_base z ≤ stamp
  pub within : stamp + plain_record_size ≤ pool_end z
  pub below : stamp + plain_record_size ≤ slice_index words (pool_counter z)
  pub apart : IsApartFrom (unpublished hs) (record { at = stamp; size = plain_record_size })

module _ (z : Layout) (o : Opening) (words : List ℕ) (hs : List Holding) (log : List Applied) (w : LawfulWords z o words hs log) where
  pub standing : (n stamp : ℕ) → IsWithin o log n stamp → IsStanding z words hs stamp
  standing n stamp (inl initial) =
      let blocks = w.apart in
      let j = initial.0 in
      let below = initial.1 in
      let is = initial.2 in
      let values = w.values in
      let stamps = w.stamps in
      let low = (w.counters PoolWords).low in
      let pool = w.sizes.pool.0 in
      let free : IsApartFrom (unpublished hs) (record { at = pool_base z; size = initial_words z }) =
      all_back (AreApart (record { at = pool_base z; size = initial_words z })) (announcements hs) (unpublished hs)
      (all_back (AreApart (record { at = pool_base z; size = initial_words z })) (map (λ (e : Applied). block_at words e.stamp) log) (announcements hs ++ unpublished hs) blocks.0) in
      record {
        above = omega (arith, is, stamps);
        within = omega (arith, is, stamps, below, values, pool);
        below = omega (arith, is, stamps, below, values, low);
        apart = apart_part (unpublished hs) (pool_base z) (initial_words z) stamp plain_record_size (omega (arith, is, stamps)) (omega (arith, is, stamps, below, values)) free;
      }
  standing n stamp (inr entry) =
      let blocks = w.apart in
      let e = entry.1 in
      let is : e.stamp ≡ stamp = entry.4 in
      let of : IsEntry z words e = AllByRecursion-get (IsEntry z words) log entry.0 e w.entries entry.3 in
      let above = of.above in
      let within = of.within in
      let below = of.below in
      let all = AllByRecursion-get (λ (f : Applied). AllByRecursion (AreApart (block_at words f.stamp)) (announcements hs ++ unpublished hs)) log entry.0 e
      (entry_blocks (λ (f : Applied). block_at words f.stamp) log (announcements hs ++ unpublished hs) blocks.1) entry.3 in
      let free : IsApartFrom (unpublished hs) (block_at words e.stamp) = all_back (AreApart (block_at words e.stamp)) (announcements hs) (unpublished hs) all in
      record {
        above = omega (arith, is, above);
        within = omega (arith, is, within);
        below = omega (arith, is, below);
        apart = apart_part (unpublished hs) e.stamp ((block_at words e.stamp).size) stamp plain_record_size (omega (arith, is))
            (let three = three_words words e.stamp in omega (arith, is, three)) free;
      }

  -- each of its words may be loaded
  pub standing_word : (stamp i : ℕ) → i < plain_record_size → IsStanding z words hs stamp → IsReadable z words hs (stamp + i)
  standing_word stamp i lt s =
      let above = s.above in
      let within = s.within in
      let below = s.below in (
        omega (arith, lt, within),
        λ far. record {
          claimed = inr (omega (arith, above), omega (arith, lt, below));
          apart = apart_part (unpublished hs) stamp plain_record_size (stamp + i) 1 (omega arith)
              (omega (arith, lt)) s.apart;
        },
      )
