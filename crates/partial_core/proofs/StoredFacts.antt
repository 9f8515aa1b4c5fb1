-- The record that an update writes: how many words it has, and what its view shows once all of them stand.
use Rattle.partial_core.proofs.Common.{ℕ, ◌≡◌, ◌≢◌, ◌+◌, ◌<◌, ◌≤◌, ◌==◌, ◌++◌, ◌⊎◌, Bool, true, false, if◌then◌else◌, suc, zero, Option, Some, None, List, [], ◌∷◌, length, slice_index, slice_get, take, map, inl, inr, refl, sym, ap, subst, ◌∙◌, arith, Contains, nat_eq, AllByRecursion, IsDistinct, option_map_or, ne_eqb, eq-eqb, eqb-true, eqb-false, or_cases, false≢true, length-map, Applied, Opening, stamp_of, value_of, place_below, Layout, record_block, view_block, StandsAt, ReadsBackRecord, prev_of, view_of, own_view, plain_record_size, full_record_size, length-record_block, reads_back, has_index, Change, CoreState, record_words, record_size, own_pairs, view_at, scanning, AreComponentIndices, IsViewOf, Block, JoinedAnnouncement, HasPairs, IsView, HasFreshView, IsWithin, IsBegunSince, Covers, ViewNames, AreApart, IsApartFrom, Own, Holding, EachTwo, IfJoined, block_of, block_at, joined_in, without_block, without_this, unpublished, Pool, LawfulWords, IsTied, IsOwn, IsDue, CoversAll, all_weaker, all_at, all_before, all_after, all_append, all_front, all_back, all_map, if_some_at, joined_weaker, found_some, three_words, own_freed, entry_free, unpublished_two, Frame, parts_apart, within_more, pairs_move, own_in_pool, HasAll, HasValues, IsThird, stamp_within, begun_within, AllByRecursion-get, own_added, unjoined_if, all_join}

length_by : (f : Option ℕ) (js : List ℕ) (value : ℕ → ℕ) (old v view : ℕ) → length (record_block old v view (option_map_or (λ _. []) f (map (λ j. (j, value j)) js)))
    ≡ option_map_or (λ _. plain_record_size) f
    (if length js == 0 then plain_record_size else full_record_size (length js))
length_by (Some n) js value old v view = refl
length_by None [] value old v view = refl
length_by None (j ∷ js) value old v view = length-record_block old v view (j, value j) (map (λ j. (j, value j)) js) ∙ ap (λ n. full_record_size n) (length-map (j ∷ js) (λ j. (j, value j)))
    ∙ sym (ap (λ (b : Bool). if b then plain_record_size else full_record_size (length (j ∷ js))) (ne_eqb (length (j ∷ js)) 0 (λ e. omega (arith, e))))

-- so many words has the record that an update writes
pub length_record : (s : CoreState) (c : Change) (old at : ℕ) → length (record_words s c old at) ≡ record_size s
length_record s c old at = length_by s.embedded.borrowed s.found.indices (λ j. slice_index s.rows.values j) old c.value _

-- what holds at each place of a list
each_index : (P : ℕ → Type 0) (js : List ℕ) → ((i : ℕ) → i < length js → P (slice_index js i)) → AllByRecursion P js
each_index P [] f = tt
each_index P (j ∷ js) f = (f 0 (omega arith), each_index P js (λ i lt. f (suc i) (omega (arith, lt))))

-- an index that was found is in the list
has_contains : (l : List ℕ) (i : ℕ) → has_index l i ≡ true → Contains l i
has_contains [] i e = absurd (false≢true e)
has_contains (j ∷ l) i e = elim (or_cases (j == i) (has_index l i) e) [
  | inl here ↦ (0, omega arith, eqb-true j i here)
  | inr more ↦ let at = has_contains l i more in let lt = at.1 in (suc at.0, omega (arith, lt), at.2)
]

-- the components of pairs that were made from them
firsts : (value : ℕ → ℕ) (js : List ℕ) → map (λ (q : ℕ × ℕ). q.0) (map (λ j. (j, value j)) js) ≡ js
firsts value [] = refl
firsts value (j ∷ js) = ap (λ l. j ∷ l) (firsts value js)

no_pairs : (value : ℕ → ℕ) (js : List ℕ) → length js ≡ 0 → map {B = ℕ × ℕ} (λ j. (j, value j)) js ≡ []
no_pairs value [] e = refl
no_pairs value (j ∷ js) e = absurd (omega (arith, e))

-- a record with pairs has the words of its view after the first three
behind_three : (old v view : ℕ) (ps : List (ℕ × ℕ)) → 0 < length ps → length (record_block old v view ps) ≡ plain_record_size + length (view_block ps)
behind_three old v view [] some = absurd (omega (arith, some))
behind_three old v view (p ∷ ps) some = omega arith

view_stands : (words : List ℕ) (at old v view : ℕ) (ps : List (ℕ × ℕ)) → 0 < length ps → StandsAt words at (record_block old v view ps) → StandsAt words (own_view at) (view_block ps)
view_stands words at old v view [] some stands = absurd (omega (arith, some))
view_stands words at old v view (p ∷ ps) some stands = λ k lt.
    let h = stands (suc (suc (suc k))) (omega (arith, lt)) in
    let inside = h.0 in
    (omega (arith, inside), ap (λ n. slice_index words n) (omega arith) ∙ h.1)

-- a view stands after the record of an entry, or is none
abbrev IsOwned : List Applied → ℕ → Type 0
IsOwned log v = (v ≡ 0) ⊎ ((k : ℕ) × (e : Applied) × (slice_get log k ≡ Some e) × (v ≡ own_view e.stamp))

-- an entry's view is of such a kind
entry_owned : (log : List Applied) (k : ℕ) (e : Applied) (v : ℕ) → slice_get log k ≡ Some e → IsViewOf log e.stamp v → IsOwned log v
entry_owned log k e v is (inl none) = inl none
entry_owned log k e v is (inr (inl own)) = inr (k, e, is, own)
entry_owned log k e v is (inr (inr its)) = inr its

-- a record's view that is none or its own, and one that it shares
own_or_none : (log : List Applied) (at v : ℕ) (b : Bool) → v ≡ (if b then 0 else own_view at) → IsViewOf log at v
own_or_none log at v true e = inl e
own_or_none log at v false e = inr (inl e)

shared_view : (log : List Applied) (stamp v u : ℕ) → v ≡ u → IsOwned log u → IsViewOf log stamp v
shared_view log stamp v u same (inl none) = inl (same ∙ none)
shared_view log stamp v u same (inr its) = inr (inr (its.0, its.1, its.2, same ∙ its.3))

-- what an update has viewed: the values after one prefix, or a third record with its view
pub record HasViewed (o : Opening) (words : List ℕ) (log : List Applied) (first : ℕ) (s : CoreState) : Type 0 where
  pub own : s.embedded.borrowed ≡ None → (n : ℕ) × HasValues o log s.found.indices first (length log) s.rows n (length s.found.indices)
  pub borrowed : (stamp : ℕ) → s.embedded.borrowed ≡ Some stamp → IsThird words log s.found.indices first (scanning s) stamp × (s.embedded.view ≡ view_of words stamp)

module _ (z : Layout) (o : Opening) (words : List ℕ) (before : List Holding) (h : Holding) (after : List Holding) (log : List Applied) (w : LawfulWords z o words (before ++ h ∷ after) log)
    (s : CoreState) (c : Change) (old at : ℕ) (own : h.own ≡ Some (record { space = Pool; at = at; words = record_words s c old at; stored = length (record_words s c old at) })) (first : ℕ)
    (inside : first ≤ length log) (below : c.component < z.m) (loaded : old ≡ stamp_of o (take first log) c.component)
    (finds : AllByRecursion (λ v. IfJoined v (λ l j. j.since < first → HasAll s.found.indices j)) (before ++ after)) where
  abbrev hs : List Holding
  hs = before ++ h ∷ after

  -- the blocks of the others
  abbrev us : List Block
  us = unpublished (before ++ record h { own = None } ∷ after)

  abbrev block : Own
  block = record { space = Pool; at = at; words = record_words s c old at; stored = length (record_words s c old at) }

  abbrev gone : Holding
  gone = record h { own = None }

  others_are : without_block h.port hs ≡ before ++ gone ∷ after
  others_are = without_this before h after w.ports

  is_own : IsOwn z words block
  is_own = let tied = all_at (IsTied z words) before h after w.tied in if_some_at (IsOwn z words) h.own block own tied.own

  stands : StandsAt words at (record_words s c old at)
  stands = λ k lt. let within = is_own.within in let count = w.count in (omega (arith, within, count, lt), is_own.stands k lt)

  apart_own : IsApartFrom us (block_of block)
  apart_own = own_freed before h gone after block own refl refl two_here
    where
      two_here : EachTwo AreApart (unpublished hs)
      two_here = unpublished_two z o words hs log w

  -- what is apart from all blocks is apart from those of the others and from the port's own
  apart_less : (b : Block) → IsApartFrom (unpublished hs) b → IsApartFrom us b × AreApart b (block_of block)
  apart_less b apart =
      let added = own_added before h gone after block refl own refl in
      let all = subst (AllByRecursion (AreApart b)) added.3 apart in (
        subst (AllByRecursion (AreApart b)) (sym added.2)
            (all_append (AreApart b) added.0 added.1 (all_before (AreApart b) added.0 (block_of block) added.1 all) (all_after (AreApart b) added.0 (block_of block) added.1 all)),
        all_at (AreApart b) added.0 (block_of block) added.1 all,
      )

  frame : Frame z words words (unpublished hs) us
  frame = record { count = refl; rises = λ c. omega arith; same = λ n far p. refl; apart = λ b claimed apart. (apart_less b apart).0; vacated = λ l room one. one }

  old_within : IsWithin o log first old
  old_within = let values = w.values in let b = below in subst (IsWithin o log first) (sym loaded) (stamp_within o log first c.component (omega (arith, values, b)))

  reads : ReadsBackRecord words at old c.value (view_at s at) (own_pairs s)
  reads = reads_back words at old c.value (view_at s at) (own_pairs s) stands

  prev_is : prev_of words at ≡ old
  prev_is = let r = reads in r.prev

  prev_within : (n : ℕ) → first ≤ n → IsWithin o log n (prev_of words at)
  prev_within n from = subst (IsWithin o log n) (sym prev_is) (within_more o log first n old from old_within)

  -- a port that the record was begun since has joined below the update's first length
  joined_below : (since : ℕ) → IsBegunSince log since (prev_of words at) → since < first
  joined_below since begun = begun_within o log since first old w.history (subst (IsBegunSince log since) prev_is begun) old_within

  -- what the record shows once its exchange is due
  record Shows : Type 0 where
    size : length (record_words s c old at) ≡ (block_at words at).size
    fresh : HasFreshView z o words us log (length log) at
    covers : AllByRecursion (λ v. IfJoined v (λ l j. Covers z words us log at j)) (before ++ after)

  due_of : joined_in h.claimed ≡ None → Shows → IsDue z o words h (without_block h.port hs) log (record { component = c.component; old = old; value = c.value; at = at })
  due_of free shows = let P : Holding → Type 0 = λ v. IfJoined v (λ l j. Covers z words us log at j) in subst (λ (l : List Holding). IsDue z o words h l log (record { component = c.component; old = old; value = c.value; at = at })) (sym others_are) (record {
    component = below;
    own = found_some (λ (b : Own). (b.space ≡ Pool) × (block_of b ≡ block_at words at) × (b.stored ≡ length b.words)) h.own block own (refl, ap (λ n. record { at = at; size = n }) shows.size, refl);
    prev = prev_is;
    value = let r = reads in r.value;
    before = within_more o log first (length log) old inside old_within;
    unjoined = free;
    would = λ now. (shows.fresh, all_join P before gone after (all_front P before after shows.covers) (unjoined_if (λ l j. Covers z words us log at j) h.claimed free) (all_back P before after shows.covers));
  })

  -- nothing is borrowed: the view is the record's own, with the values after one prefix
  module _ (none : s.embedded.borrowed ≡ None) (n : ℕ) (values : HasValues o log s.found.indices first (length log) s.rows n (length s.found.indices)) (few : length s.found.indices ≤ z.m)
      (each : (i : ℕ) → i < length s.found.indices → slice_index s.found.indices i < z.m) (distinct : IsDistinct nat_eq s.found.indices) where
    abbrev pairs : List (ℕ × ℕ)
    pairs = map (λ j. (j, slice_index s.rows.values j)) s.found.indices

    pairs_are : own_pairs s ≡ pairs
    pairs_are = ap (λ (f : Option ℕ). option_map_or (λ _. []) f pairs) none

    count_is : length pairs ≡ length s.found.indices
    count_is = length-map s.found.indices (λ j. (j, slice_index s.rows.values j))

    view_is : (b : Bool) → (length s.found.indices == 0) ≡ b → view_of words at ≡ (if b then 0 else own_view at)
    view_is b e = let r = reads in r.view ∙ ap (λ (f : Option ℕ). option_map_or (λ _. s.embedded.view) f (if length s.found.indices == 0 then 0 else own_view at)) none
        ∙ ap (λ (t : Bool). if t then 0 else own_view at) e

    length_is : length (record_words s c old at) ≡ length (record_block old c.value (view_at s at) pairs)
    length_is = ap (λ (ps : List (ℕ × ℕ)). length (record_block old c.value (view_at s at) ps)) pairs_are

    own_stands : (length s.found.indices == 0) ≡ false → IsView z words us (own_view at) pairs
    own_stands e =
        let count = count_is in
        let not_none = eqb-false (length s.found.indices) 0 e in
        let some : 0 < length pairs = let positive = not_zero (length s.found.indices) not_none in omega (arith, count, positive) in
        let size = behind_three old c.value (view_at s at) pairs some in
        let total = length_is in
        let in_pool = own_in_pool z words block refl is_own in
        let a = in_pool.0 in
        let t = in_pool.1 in
        let l = in_pool.2 in
        record {
          above = omega (arith, a);
          within = omega (arith, t, size, total);
          below = omega (arith, l, size, total);
          few = omega (arith, few, count);
          components = all_map (λ (q : ℕ × ℕ). q.0 < z.m) (λ j. (j, slice_index s.rows.values j)) s.found.indices (each_index (λ j. j < z.m) s.found.indices each);
          distinct = subst (IsDistinct nat_eq) (sym (firsts (λ j. slice_index s.rows.values j) s.found.indices)) distinct;
          stands = view_stands words at old c.value (view_at s at) pairs some (subst (λ (ps : List (ℕ × ℕ)). StandsAt words at (record_block old c.value (view_at s at) ps)) pairs_are stands);
          apart = parts_apart us (record { at = own_view at; size = length (view_block pairs) }) (block_of block) (omega arith) (omega (arith, size, total)) apart_own;
        }
      where
        not_zero : (k : ℕ) → k ≢ 0 → 0 < k
        not_zero zero d = absurd (d refl)
        not_zero (suc k) d = omega arith

    shown_by : (b : Bool) → (length s.found.indices == 0) ≡ b → HasPairs z words us at pairs
    shown_by true e = inl (view_is true e, no_pairs (λ j. slice_index s.rows.values j) s.found.indices (eqb-true (length s.found.indices) 0 e))
    shown_by false e = inr (subst (λ v. IsView z words us v pairs) (sym (view_is false e)) (own_stands e))

    shown : HasPairs z words us at pairs
    shown = shown_by (length s.found.indices == 0) refl

    names_found : (j : JoinedAnnouncement) → HasAll s.found.indices j → ViewNames z words us at j.indices
    names_found j all = (
      pairs,
      shown,
      each_index (λ i. Contains (map (λ (q : ℕ × ℕ). q.0) pairs) i) j.indices
          (λ k lt. subst (λ (l : List ℕ). Contains l (slice_index j.indices k)) (sym (firsts (λ i. slice_index s.rows.values i) s.found.indices))
          (has_contains s.found.indices (slice_index j.indices k) (all k lt))),
    )

    size_by : (b : Bool) → (length s.found.indices == 0) ≡ b → length (record_words s c old at) ≡ (block_at words at).size
    size_by true e =
        let empty = no_pairs (λ j. slice_index s.rows.values j) s.found.indices (eqb-true (length s.found.indices) 0 e) in
        let view = view_is true e in
        length_is ∙ ap (λ (ps : List (ℕ × ℕ)). length (record_block old c.value (view_at s at) ps)) empty ∙
        sym (ap (λ (t : Bool). if t then full_record_size (slice_index words (own_view at)) else plain_record_size) (ne_eqb (view_of words at) (own_view at) (λ same. omega (arith, view, same))))
    size_by false e =
        let v = own_stands e in
        let len : slice_index words (own_view at) ≡ length pairs = ap (λ i. slice_index words i) (omega arith) ∙ (v.stands 0 (omega arith)).1 in
        let count = count_is in
        let not_none = eqb-false (length s.found.indices) 0 e in
        let record_is : length (record_words s c old at) ≡ full_record_size (length pairs) =
        length_record s c old at
        ∙ ap (λ (f : Option ℕ). option_map_or (λ _. plain_record_size) f (if length s.found.indices == 0 then plain_record_size else full_record_size (length s.found.indices))) none ∙
        ap (λ (t : Bool). if t then plain_record_size else full_record_size (length s.found.indices)) e ∙ ap (λ k. full_record_size k) (sym count) in
        record_is ∙ ap (λ k. full_record_size k) (sym len)
        ∙ sym (ap (λ (t : Bool). if t then full_record_size (slice_index words (own_view at)) else plain_record_size) (eq-eqb (view_of words at) (own_view at) (view_is false e)))

    shows_own : Shows
    shows_own = record {
      size = size_by (length s.found.indices == 0) refl;
      fresh = record {
        pairs = pairs;
        shown = shown;
        owner = own_or_none log at (view_of words at) (length s.found.indices == 0) (view_is (length s.found.indices == 0) refl);
        prefix = n;
        contains = prev_within n values.from;
        without = values.to;
        values = all_map (λ (q : ℕ × ℕ). q.1 ≡ value_of o (take n log) q.0) (λ j. (j, slice_index s.rows.values j)) s.found.indices
            (each_index (λ j. slice_index s.rows.values j ≡ value_of o (take n log) j) s.found.indices values.values);
      };
      covers = all_weaker (λ (v : Holding). IfJoined v (λ l j. j.since < first → HasAll s.found.indices j)) (λ v. IfJoined v (λ l j. Covers z words us log at j))
          (λ v k. joined_weaker v (λ l j. j.since < first → HasAll s.found.indices j) (λ l j. Covers z words us log at j) (λ l j all begun. names_found j (all (joined_below j.since begun))) k)
          (before ++ after) finds;
    }

  -- the view of a third record is borrowed: it is fresh and covering as that record's is
  module _ (stamp : ℕ) (some : s.embedded.borrowed ≡ Some stamp) (third : IsThird words log s.found.indices first (scanning s) stamp) (shared : s.embedded.view ≡ view_of words stamp) where
    bare : own_pairs s ≡ []
    bare = ap (λ (f : Option ℕ). option_map_or (λ _. []) f (map {B = ℕ × ℕ} (λ j. (j, slice_index s.rows.values j)) s.found.indices)) some

    three_long : length (record_words s c old at) ≡ 3
    three_long = ap (λ (ps : List (ℕ × ℕ)). length (record_block old c.value (view_at s at) ps)) bare

    view_same : view_of words at ≡ view_of words third.entry.stamp
    view_same = let r = reads in r.view ∙ ap (λ (f : Option ℕ). option_map_or (λ _. s.embedded.view) f (if length s.found.indices == 0 then 0 else own_view at)) some ∙ shared ∙
        ap (view_of words) (sym third.is)

    theirs : HasFreshView z o words (unpublished hs) log third.place third.entry.stamp
    theirs = w.fresh third.place third.entry third.stands

    -- what the third record shows, this one shows
    shown_here : (ps : List (ℕ × ℕ)) → HasPairs z words (unpublished hs) third.entry.stamp ps → HasPairs z words us at ps
    shown_here ps shows = subst (λ v. ((v ≡ 0) × (ps ≡ [])) ⊎ IsView z words us v ps) (sym view_same) (pairs_move z words words (unpublished hs) us frame third.entry.stamp ps refl shows)

    third_since : (since : ℕ) → since ≤ first → IsBegunSince log since (prev_of words third.entry.stamp)
    third_since since order =
        let begun = subst (λ t. IsBegunSince log first (prev_of words t)) (sym third.is) third.begun in
        let from = begun.2 in
        (begun.0, begun.1, omega (arith, order, from), begun.3, begun.4)

    -- no entry's record begins where the port's own does
    elsewhere : (k : ℕ) (e : Applied) → slice_get log k ≡ Some e → e.stamp ≢ at
    elsewhere k e is same =
        let apart = (apart_less (block_at words e.stamp) (entry_free z o words hs log w k e is)).1 in
        let size = three_words words e.stamp in
        let own_size = three_long in
        elim apart [ inl front ↦ omega (arith, front, size, same) | inr behind ↦ omega (arith, behind, own_size, same) ]

    owned : IsOwned log (view_of words third.entry.stamp)
    owned = let fresh = theirs in entry_owned log third.place third.entry (view_of words third.entry.stamp) third.stands fresh.owner

    view_elsewhere : view_of words at ≢ own_view at
    view_elsewhere e = elim owned [
      | inl none ↦ let same = view_same in omega (arith, e, same, none)
      | inr its ↦ let same = view_same in let is = its.3 in elsewhere its.0 its.1 its.2 (omega (arith, e, same, is))
    ]

    shows_borrowed : Shows
    shows_borrowed =
        let fresh = theirs in
        let within = place_below log third.place third.entry third.stands in
        let without = fresh.without in
        let from : first < fresh.prefix = begun_within o log first fresh.prefix (prev_of words third.entry.stamp) w.history (third_since first (omega arith)) fresh.contains in
        let covering = AllByRecursion-get (λ (d : Applied). CoversAll z words hs log d.stamp) log third.place third.entry w.covering third.stands in
        let P : Holding → Type 0 = λ v. IfJoined v (λ l j. Covers z words (unpublished hs) log third.entry.stamp j) in
        let others : AllByRecursion P (before ++ after) = all_append P before after (all_before P before h after covering) (all_after P before h after covering) in
        record {
          size = three_long ∙ sym (ap (λ (t : Bool). if t then full_record_size (slice_index words (own_view at)) else plain_record_size) (ne_eqb (view_of words at) (own_view at) view_elsewhere));
          fresh = record {
            pairs = fresh.pairs;
            shown = shown_here fresh.pairs fresh.shown;
            owner = shared_view log at (view_of words at) (view_of words third.entry.stamp) view_same owned;
            prefix = fresh.prefix;
            contains = prev_within fresh.prefix (omega (arith, from));
            without = omega (arith, within, without);
            values = fresh.values;
          };
          covers = all_weaker P (λ v. IfJoined v (λ l j. Covers z words us log at j))
              (λ v k. joined_weaker v (λ l j. Covers z words (unpublished hs) log third.entry.stamp j) (λ l j. Covers z words us log at j) (λ l j covers begun.
              let since = joined_below j.since begun in
              let names = covers (third_since j.since (omega (arith, since))) in
              (names.0, shown_here names.0 names.1, names.2)) k) (before ++ after) others;
        }

  -- the record's exchange may be due
  pub record_due : joined_in h.claimed ≡ None → HasViewed o words log first s → AreComponentIndices z s.found.indices → IsDistinct nat_eq s.found.indices →
      IsDue z o words h (without_block h.port hs) log
      (record { component = c.component; old = old; value = c.value; at = at })
  record_due free viewed indices distinct = due_of free (by_borrowed s.embedded.borrowed refl)
    where
      by_borrowed : (f : Option ℕ) → s.embedded.borrowed ≡ f → Shows
      by_borrowed None is = let own = viewed.own is in shows_own is own.0 own.1 indices.few indices.each distinct
      by_borrowed (Some stamp) is = let third = viewed.borrowed stamp is in shows_borrowed stamp is third.0 third.1
