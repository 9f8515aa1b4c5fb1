-- What an embedded scan knows leads on, in lawful words.
use Rattle.partial_knowledge.proofs.{Common.{ℕ, zero, suc, ◌≡◌, ◌≢◌, ◌+◌, ◌-◌, ◌<◌, ◌≤◌, ◌==◌, Bool, true, false, ◌&&◌, ◌||◌, not, if◌then◌else◌, Option, Some, None, List, [], ◌∷◌, length, take, slice_set, slice_get, inl, inr, refl, sym, ap, subst, ◌∙◌, arith, get_or-set_other, get_or-set_same, slice_index, false≢true, eq-eqb, cond_both, or_cases, and_parts, ltb-true, ltb-false, eqb-true, eqb-false, Applied, Opening, value_of, stamp_of, place_below, stamps_never_return, Load, Layout, list_base, pool_end, prev_of, view_of, view_block, view_size, view_word, pairs_word, next_word, pair_index_word, pair_value_word, value_word, value_behind_stamp, length-pairs, IsWithin, IsBegunSince, HasPairs, IsView, HasFreshView, Holding, unpublished, LawfulWords, KeptAnswer, IsLoaded, IsReadable, HasEntry, IsLatest, IsCollecting, HasValues, CollectsAgreed, IsThird, HasLoaded, Loads, knows_at, ScanKnows, EmbeddedScansKnow, AllByRecursion-get}, Chains.{newer, begun_since, begun_within, stamp_within, standing, standing_word, IsStanding, apart_part}}
use Rattle.std.specs.{Option.option_map_or, Prelude.{nat_lt, slice_index_or}}
use Rattle.std.proofs.lemmas.Bool.Decides.{eqb_tells}
use Rattle.partial_words.proofs.BlockLemmas.{list_reads_back}
use Rattle.partial_embedded.specs.declared.embedded.Stage.{Stage}
use Rattle.partial_embedded.specs.declared.embedded.Stage.TheVariants.{Collect, View, Len, Index, PairValue, Value, Done}
use Rattle.partial_embedded.specs.Embedded.{ViewPair, RowsState, ViewGoesTogether, IsPossibleInViewAt, view_goes_at, is_first, differs, was_changed, borrow, noted_load, go_on, after_collect, after_load, after_view, view_at_stage, with_value, pairs_from, view_step_at, advance_view_at}
use Rattle.partial_embedded.proofs.Keeps.{neither}
use Rattle.partial_model.proofs.Values.{element_at}

-- an entry between two lengths stands between wider ones
wider : (log : List Applied) (low a b c : ℕ) → a ≤ b → HasEntry log low a c → HasEntry log low b c
wider log low a b c le h = let below = h.5 in (h.0, h.1, h.2, h.3, h.4, omega (arith, below, le))

pub got : {A : Type 0} (xs : List A) (i : ℕ) (x d : A) → slice_get xs i ≡ Some x → slice_index_or xs i d ≡ x
got [] i x d e = let bad : None ≡ Some x = e in absurd cc
got (y ∷ xs) zero x d e = let is : y ≡ x = cc in is
got (y ∷ xs) (suc i) x d e = got xs i x d e

-- a word of a view may be loaded
view_readable : (z : Layout) (words : List ℕ) (hs : List Holding) (at i : ℕ) (pairs : List (ℕ × ℕ)) → IsView z words (unpublished hs) at pairs → i < length (view_block pairs) →
    IsReadable z words hs (at + i)
view_readable z words hs at i pairs view lt =
    let above = view.above in
    let within = view.within in
    let below = view.below in (
      omega (arith, lt, within),
      λ far. record {
        claimed = inr (omega (arith, above), omega (arith, lt, below));
        apart = apart_part (unpublished hs) at (length (view_block pairs)) (at + i) 1
            (omega arith) (omega (arith, lt)) view.apart;
      },
    )

-- what a position's load shows where it differs from the latest one
differs_tells : (p : ViewPair) (k x : ℕ) → differs p k x ≡ true → (is_first p ≡ false) × (slice_index p.1.last k ≢ x)
differs_tells p k x d =
    let both = and_parts (not (is_first p)) (not (slice_index p.1.last k == x)) d in
    (unless (is_first p) both.0, λ same. elim (eqb_tells (slice_index p.1.last k) x) [ inl t ↦ false≢true (ap not (sym t.0) ∙ both.1) | inr t ↦ t.1 same ])
  where
    unless : (b : Bool) → not b ≡ true → b ≡ false
    unless true e = absurd (false≢true e)
    unless false e = refl

agrees_tells : (p : ViewPair) (k x : ℕ) → is_first p ≡ false → differs p k x ≡ false → slice_index p.1.last k ≡ x
agrees_tells p k x first d = elim (eqb_tells (slice_index p.1.last k) x) [
  | inl t ↦ t.1
  | inr t ↦ absurd (false≢true (sym d ∙ ap (λ b. not b && not (slice_index p.1.last k == x)) first ∙ ap not t.0))
]

changed_tells : (p : ViewPair) (k : ℕ) → was_changed p k ≡ true → (is_first p ≡ false) × (slice_index_or p.1.changed k false ≡ true)
changed_tells p k c =
    let both = and_parts (not (is_first p)) (slice_index_or p.1.changed k false) c in
    (unless (is_first p) both.0, both.1)
  where
    unless : (b : Bool) → not b ≡ true → b ≡ false
    unless true e = absurd (false≢true e)
    unless false e = refl

module _ (o : Opening) (words : List ℕ) (hs : List Holding) (log : List Applied) (indices : List ℕ) (low high : ℕ) (p : ViewPair) (w : LawfulWords p.0.sizes o words hs log)
    (together : ViewGoesTogether indices p) (order : low ≤ high) where
  -- what is known once the answer given at length t leads to q
  pub Known : ℕ → ViewPair → Type 0
  Known t q = ScanKnows p.0.sizes o words hs log indices low t q

  there_is : (i : ℕ) → i < length indices → slice_index indices i < length o.values
  there_is i lt = let below = together.positions.components i lt in let values = w.values in omega (arith, below, values)

  module _ (k : ℕ) (x t : ℕ) (stage : p.0.stage ≡ Collect k) (knows : IsCollecting o log indices low high p k) (after : high ≤ t) (inside : t ≤ length log)
      (is : x ≡ stamp_of o (take t log) (slice_index indices k)) where
    here : k < length indices
    here = let g = subst (view_goes_at indices p) stage together.stage in g.0

    begun : 1 ≤ p.0.collects
    begun = let g = subst (view_goes_at indices p) stage together.stage in g.2

    in_last : k < length p.1.last
    in_last = let few = together.positions.few in let rows = together.rows.last in omega (arith, here, few, rows)

    in_changed : k < length p.1.changed
    in_changed = let few = together.positions.few in let rows = together.rows.changed in omega (arith, here, few, rows)

    -- another stamp than the latest one is that of an entry between
    changes : differs p k x ≡ true → (s : ℕ) → IsLatest o log indices low p.1 k s → s ≤ high → HasEntry log low t (slice_index indices k)
    changes d s latest early =
        let tells = differs_tells p k x d in
        let n = newer o log (slice_index indices k) s t (omega (arith, early, after)) (λ same. tells.1 (latest.stamp ∙ same ∙ sym is)) in
        let from = n.from in
        let low_from = latest.from in
        (n.place, n.entry, n.stands, n.component_is, omega (arith, from, low_from), n.below)

    -- the load is noted
    noted_other : (i s : ℕ) → i ≢ k → IsLatest o log indices low p.1 i s → IsLatest o log indices low (noted_load p k x).1 i s
    noted_other i s other l = record {
      from = l.from;
      stamp = get_or-set_other p.1.last k i x 0 other ∙ l.stamp;
      change = λ c. l.change (sym (get_or-set_other p.1.changed k i (differs p k x || was_changed p k) false other) ∙ c);
    }

    noted_here : IsLatest o log indices low (noted_load p k x).1 k t
    noted_here = record {
      from = omega (arith, order, after);
      stamp = get_or-set_same p.1.last k x 0 in_last ∙ is;
      change = λ c. elim (or_cases (differs p k x) (was_changed p k) (sym (get_or-set_same p.1.changed k (differs p k x || was_changed p k) false in_changed) ∙ c)) [
        | inl d ↦
            let first = (differs_tells p k x d).0 in
            let b = knows.before first k (omega arith) here in
            let early = b.2 in
            let to = knows.to in
            changes d b.0 b.1 (omega (arith, early, to))
        | inr was ↦
            let tells = changed_tells p k was in
            let b = knows.before tells.0 k (omega arith) here in
            let early = b.2 in
            let to = knows.to in
            wider log low b.0 t (slice_index indices k) (omega (arith, early, to, after)) (b.1.change tells.1)
      ];
    }

    -- the loads of this collect, up to this one
    noted_loaded : (i : ℕ) → i < k + 1 → (s : ℕ) × IsLatest o log indices low (noted_load p k x).1 i s × (knows.middle ≤ s) × (s ≤ t)
    noted_loaded i lt = elim (eqb_tells i k) [
      | inl e ↦ let to = knows.to in subst (λ n. (s : ℕ) × IsLatest o log indices low (noted_load p k x).1 n s × (knows.middle ≤ s) × (s ≤ t)) (sym e.1)
          (t, noted_here, omega (arith, to, after), omega arith)
      | inr e ↦ let other = e.1 in let l = knows.loaded i (omega (arith, lt, other)) in let early = l.3 in (l.0, noted_other i l.0 other l.1, l.2, omega (arith, early, after))
    ]

    noted_same : is_first p ≡ false → (p.0.moved || differs p k x) ≡ false → (i : ℕ) → i < k + 1 → slice_index (noted_load p k x).1.last i ≡ stamp_of o (take knows.middle log) (slice_index indices i)
    noted_same first unmoved i lt =
        let both = neither p.0.moved (differs p k x) unmoved in
        elim (eqb_tells i k) [
          | inl e ↦
              let b = knows.before first k (omega arith) here in
              let to = knows.to in
              let latest : slice_index p.1.last k ≡ x = agrees_tells p k x first both.1 in
              let thereafter = stamps_never_return o log (slice_index indices k) b.0 t knows.middle w.history (there_is k here) b.2 (omega (arith, to, after)) (sym b.1.stamp ∙ latest ∙ is) in
              subst (λ n. slice_index (noted_load p k x).1.last n ≡ stamp_of o (take knows.middle log) (slice_index indices n)) (sym e.1)
              (get_or-set_same p.1.last k x 0 in_last ∙ sym latest ∙ b.1.stamp ∙ sym thereafter.0)
          | inr e ↦ let other = e.1 in get_or-set_other p.1.last k i x 0 other ∙ knows.same first both.0 i (omega (arith, lt, other))
        ]

    -- in the first collect the load is no change
    noted_calm : is_first p ≡ true → (i : ℕ) → i < k + 1 → slice_index_or (noted_load p k x).1.changed i false ≡ false
    noted_calm first i lt = elim (eqb_tells i k) [
      | inl e ↦ ap (λ n. slice_index_or (noted_load p k x).1.changed n false) e.1 ∙ get_or-set_same p.1.changed k (differs p k x || was_changed p k) false in_changed ∙
          ap (λ (b : Bool). (not b && not (slice_index p.1.last k == x)) || (not b && slice_index_or p.1.changed k false)) first
      | inr e ↦ let other = e.1 in get_or-set_other p.1.changed k i (differs p k x || was_changed p k) false other ∙ knows.calm_first first i (omega (arith, lt, other))
    ]

    -- the collect goes on
    collects_on : k + 1 < length indices → Known t (view_at_stage (noted_load p k x) (Collect (k + 1)))
    unfolding Known
    collects_on more = record {
      none = knows.none;
      middle = knows.middle;
      from = knows.from;
      to = let to = knows.to in omega (arith, to, after);
      loaded = noted_loaded;
      same = noted_same;
      calm_first = noted_calm;
      calm_second = λ second i from lt. get_or-set_other p.1.changed k i (differs p k x || was_changed p k) false (omega (arith, from)) ∙ knows.calm_second second i (omega (arith, from)) lt;
      before = λ first i from lt. let b = knows.before first i (omega (arith, from)) lt in (b.0, noted_other i b.0 (omega (arith, from)) b.1, b.2);
    }

    -- another collect begins
    collects_again : length indices ≤ k + 1 → Known t (record (noted_load p k x).0 { collects = p.0.collects + 1; moved = false; stage = Collect 0 }, (noted_load p k x).1)
    unfolding Known
    collects_again last = record {
      none = knows.none;
      middle = t;
      from = omega (arith, order, after);
      to = omega arith;
      loaded = λ i lt. absurd (omega (arith, lt));
      same = λ first unmoved i lt. absurd (omega (arith, lt));
      calm_first = λ first i lt. absurd (omega (arith, lt));
      calm_second = λ second i from lt. noted_calm (eq-eqb p.0.collects 1 (omega (arith, second))) i (omega (arith, lt, last));
      before = λ first i from lt. let l = noted_loaded i (omega (arith, lt, last)) in (l.0, l.1, l.3);
    }

    -- two collects agreed
    agreed : length indices ≤ k + 1 → is_first p ≡ false → (p.0.moved || differs p k x) ≡ false → Known t (view_at_stage (noted_load p k x) (Value 0))
    unfolding Known
    agreed last first unmoved = record {
      none = knows.none;
      two = let one = eqb-false p.0.collects 1 first in let some = begun in omega (arith, one, some);
      prefix = knows.middle;
      stamps = λ i lt. noted_same first unmoved i (omega (arith, lt, last));
      values = record { from = knows.from; to = let to = knows.to in omega (arith, to, after); values = λ i lt. absurd (omega (arith, lt)) };
    }

    -- a third record
    third : (differs p k x && was_changed p k) ≡ true → Known t (borrow p x)
    unfolding Known
    third both =
        let parts = and_parts (differs p k x) (was_changed p k) both in
        let tells = changed_tells p k parts.1 in
        let b = knows.before tells.0 k (omega arith) here in
        let early = b.2 in
        let to = knows.to in
        let n = newer o log (slice_index indices k) b.0 t (omega (arith, early, to, after)) (λ same. (differs_tells p k x parts.0).1 (b.1.stamp ∙ same ∙ sym is)) in
        let stamp_is : n.entry.stamp ≡ x = n.stamp_is ∙ sym is in
        let has : HasEntry log low n.place n.entry.component = subst (HasEntry log low n.place) (sym n.component_is) (wider log low b.0 n.place (slice_index indices k) n.from (b.1.change tells.1)) in
        record {
          borrowed = refl;
          three =
              let one = eqb-false p.0.collects 1 tells.0 in
              let some = begun in
              elim (eqb_tells p.0.collects 2) [
                | inl second ↦ absurd (false≢true (sym (knows.calm_second second.1 k (omega arith) here) ∙ tells.1))
                | inr more ↦ let two = more.1 in omega (arith, one, two, some)
              ];
          place = n.place;
          entry = n.entry;
          stands = n.stands;
          is = stamp_is;
          position = k;
          within = here;
          component = n.component_is;
          begun = subst (λ s. IsBegunSince log low (prev_of words s)) stamp_is
              (begun_since o words log low n.place n.entry w.agrees (subst (λ c. c < length o.values) (sym n.component_is) (there_is k here)) n.stands has);
        }

    whole_collect : length indices ≤ k + 1 → Known t (after_collect (noted_load p k x))
    whole_collect last = cond_both (is_first p || (p.0.moved || differs p k x)) (record (noted_load p k x).0 { collects = p.0.collects + 1; moved = false; stage = Collect 0 }, (noted_load p k x).1)
        (view_at_stage (noted_load p k x) (Value 0)) (λ q. Known t q)
        (λ e. collects_again last)
        (λ e. let none = neither (is_first p) (p.0.moved || differs p k x) e in agreed last none.0 none.1)

    pub step_collect : Known t (after_load (length indices) p k x)
    step_collect = cond_both (differs p k x && was_changed p k) (borrow p x) (go_on (length indices) (noted_load p k x) k) (λ q. Known t q)
        third
        (λ e. cond_both (nat_lt (k + 1) (length indices)) (view_at_stage (noted_load p k x) (Collect (k + 1))) (after_collect (noted_load p k x)) (λ q. Known t q)
        (λ more. collects_on (ltb-true (k + 1) (length indices) more))
        (λ last. whole_collect (ltb-false (k + 1) (length indices) last)))

-- two views at one word have the same pairs
same_pairs : (words : List ℕ) (z : Layout) (hs : List Holding) (at : ℕ) (pairs : List (ℕ × ℕ)) (i : ℕ) (c v : ℕ) → IsView z words (unpublished hs) at pairs → slice_get pairs i ≡ Some (c, v) →
    (slice_index words (pair_index_word at i) ≡ c) × (slice_index words (pair_value_word at i) ≡ v)
same_pairs words z hs at pairs i c v view stands =
    let back = (list_reads_back words at pairs view.stands).each i (0, 0) (place_below pairs i (c, v) stands) in
    let is = back ∙ got pairs i (c, v) (0, 0) stands in
    (ap (λ (q : ℕ × ℕ). q.0) is, ap (λ (q : ℕ × ℕ). q.1) is)

module _ (o : Opening) (words : List ℕ) (hs : List Holding) (log : List Applied) (indices : List ℕ) (low high : ℕ) (p : ViewPair) (w : LawfulWords p.0.sizes o words hs log)
    (together : ViewGoesTogether indices p) (order : low ≤ high) where
  pub Knows_at : ℕ → ViewPair → Type 0
  Knows_at t q = ScanKnows p.0.sizes o words hs log indices low t q

  -- a third record is one of the history
  third_stands : (stamp : ℕ) → IsThird words log indices low p stamp → IsStanding p.0.sizes words hs stamp
  third_stands stamp third = standing p.0.sizes o words hs log w (length log) stamp (inr (third.place, third.entry, place_below log third.place third.entry third.stands, third.stands, third.is))

  -- its view is fresh
  third_fresh : (stamp : ℕ) (third : IsThird words log indices low p stamp) → HasFreshView p.0.sizes o words (unpublished hs) log third.place stamp
  third_fresh stamp third = subst (HasFreshView p.0.sizes o words (unpublished hs) log third.place) third.is (w.fresh third.place third.entry third.stands)

  -- none of its pairs is loaded yet
  none_loaded : (stamp : ℕ) (rows : RowsState) (third : IsThird words log indices low p stamp) (f : HasFreshView p.0.sizes o words (unpublished hs) log third.place stamp) →
      HasLoaded p.0.sizes o words hs log low third.place rows stamp f.pairs 0
  none_loaded stamp rows third f = record {
    shown = f.shown;
    prefix = f.prefix;
    from = let more = begun_within o log low f.prefix (prev_of words stamp) w.history third.begun f.contains in omega (arith, more);
    to = f.without;
    fresh = f.values;
    loaded = λ i lt c v e. absurd (omega (arith, lt));
  }

  -- the third record's facts, for the machine at another stage
  abbrev third_on : (stamp : ℕ) (q : ViewPair) → q.0.borrowed ≡ p.0.borrowed → q.0.collects ≡ p.0.collects → IsThird words log indices low p stamp → IsThird words log indices low q stamp
  third_on stamp q same count third = record {
    borrowed = same ∙ third.borrowed;
    three = let three = third.three in omega (arith, three, count);
    place = third.place;
    entry = third.entry;
    stands = third.stands;
    is = third.is;
    position = third.position;
    within = third.within;
    component = third.component;
    begun = third.begun;
  }

  -- no pair, no word
  no_pairs : (pairs : List (ℕ × ℕ)) (stamp : ℕ) → view_of words stamp ≡ 0 → HasPairs p.0.sizes words (unpublished hs) stamp pairs → length pairs ≡ 0
  no_pairs pairs stamp none (inl empty) = ap length empty.1
  no_pairs pairs stamp none (inr view) = let above = view.above in absurd (omega (arith, above, none))

  -- the one stamp that is borrowed
  one_stamp : (a b : ℕ) → p.0.borrowed ≡ Some a → p.0.borrowed ≡ Some b → a ≡ b
  one_stamp a b f g = let same : Some a ≡ Some b = sym f ∙ g in cc

  pub step_view : (stamp t x : ℕ) → IsThird words log indices low p stamp → x ≡ view_of words stamp → Knows_at t (after_view p.0 x, p.1)
  unfolding Knows_at
  step_view stamp t x third is = cond_both ((x == 0) || p.0.shares) Done (Len x) (λ stage. ScanKnows p.0.sizes o words hs log indices low t (record p.0 { view = x; stage = stage }, p.1))
      (λ e. (
        λ none. let bad : None ≡ Some stamp = sym none ∙ third.borrowed in absurd cc,
        λ s borrowed. subst (λ n. IsThird words log indices low (record p.0 { view = x; stage = Done }, p.1) n × (x ≡ view_of words n)) (one_stamp stamp s third.borrowed borrowed)
            (third_on stamp (record p.0 { view = x; stage = Done }, p.1) refl refl third, is),
        λ s borrowed shares. subst (λ n. Loads p.0.sizes o words hs log indices low (record p.0 { view = x; stage = Done }, p.1) 0) (one_stamp stamp s third.borrowed borrowed)
            (empty (nothing e shares)),
      ))
      (λ e. let none = neither (x == 0) p.0.shares e in (stamp, third_on stamp (record p.0 { view = x; stage = Len x }, p.1) refl refl third, is, is, eqb-false x 0 none.0, none.1))
    where
      nothing : ((x == 0) || p.0.shares) ≡ true → p.0.shares ≡ false → x ≡ 0
      nothing e shares = elim (or_cases (x == 0) p.0.shares e) [ inl zero_is ↦ eqb-true x 0 zero_is | inr shared ↦ absurd (false≢true (sym shares ∙ shared)) ]

      empty : x ≡ 0 → Loads p.0.sizes o words hs log indices low (record p.0 { view = x; stage = Done }, p.1) 0
      empty zero_is =
          let f = third_fresh stamp third in
          let none = no_pairs f.pairs stamp (sym is ∙ zero_is) f.shown in
          (stamp, third_on stamp (record p.0 { view = x; stage = Done }, p.1) refl refl third, is, f.pairs, 0, omega (arith, none), none_loaded stamp p.1 third f)

  -- the view of the third record, where it isn't the empty one
  view_here : (stamp : ℕ) (pairs : List (ℕ × ℕ)) → view_of words stamp ≢ 0 → HasPairs p.0.sizes words (unpublished hs) stamp pairs → IsView p.0.sizes words (unpublished hs) (view_of words stamp) pairs
  view_here stamp pairs some (inl empty) = absurd (some empty.0)
  view_here stamp pairs some (inr view) = view

  pub step_len : (at t x : ℕ) → knows_at p.0.sizes o words hs log indices low high (Len at) p → x ≡ slice_index words at → ((x ≤ p.0.sizes.m) × (at + view_size x ≤ pool_end p.0.sizes)) ×
      Knows_at t (view_at_stage p (pairs_from (pairs_word at) x))
  unfolding Knows_at
  step_len at t x knows is =
      let stamp = knows.0 in
      let third = knows.1 in
      let view_is = knows.2 in
      let at_is = knows.3 in
      let f = third_fresh stamp third in
      let view = view_here stamp f.pairs (λ none. knows.4 (at_is ∙ none)) f.shown in
      let count : x ≡ length f.pairs = is ∙ ap (λ n. slice_index words n) at_is ∙ (list_reads_back words (view_of words stamp) f.pairs view.stands).count in
      let few = view.few in
      let within = view.within in
      let size = length-pairs f.pairs in (
        (omega (arith, count, few), omega (arith, count, within, size, at_is)),
        cond_both (x == 0) Done (Index (pairs_word at) x) (λ stage. ScanKnows p.0.sizes o words hs log indices low t (view_at_stage p stage))
            (λ e.
            let none = eqb-true x 0 e in
            let all : Loads p.0.sizes o words hs log indices low (view_at_stage p Done) 0 =
            (stamp, third_on stamp (view_at_stage p Done) refl refl third, view_is, f.pairs, 0, omega (arith, none, count), none_loaded stamp p.1 third f) in (
              λ nothing. let bad : None ≡ Some stamp = sym nothing ∙ third.borrowed in absurd cc,
              λ s borrowed. subst (λ n. IsThird words log indices low (view_at_stage p Done) n × (p.0.view ≡ view_of words n)) (one_stamp stamp s third.borrowed borrowed)
                  (third_on stamp (view_at_stage p Done) refl refl third, view_is),
              λ s borrowed shares. all,
            ))
            (λ e.
            let some = eqb-false x 0 e in (
              knows.5,
              (stamp, third_on stamp (view_at_stage p (Index (pairs_word at) x)) refl refl third, view_is, f.pairs, 0, omega (arith, count), none_loaded stamp p.1 third f),
              omega (arith, at_is, view_is),
              omega (arith, some),
            )),
      )

  -- the word of the pair that is next
  next_pair : (left : ℕ) (l : Loads p.0.sizes o words hs log indices low p left) → 0 < left → p.0.view ≢ 0 → (pair : ℕ × ℕ) × (slice_get l.3 l.4 ≡ Some pair) ×
      (slice_index words (pair_index_word p.0.view l.4) ≡ pair.0) × (slice_index words (pair_value_word p.0.view l.4) ≡ pair.1) × (pair.0 < p.0.sizes.m)
  next_pair left l some shown =
      let sum = l.5 in
      let pair = element_at l.3 l.4 (omega (arith, sum, some)) in
      let view = view_here l.0 l.3 (λ none. shown (l.2 ∙ none)) l.6.shown in
      let read = same_pairs words p.0.sizes hs (view_of words l.0) l.3 l.4 pair.0.0 pair.0.1 view pair.1 in (
        pair.0,
        pair.1,
        ap (λ n. slice_index words (pair_index_word n l.4)) l.2 ∙ read.0,
        ap (λ n. slice_index words (pair_value_word n l.4)) l.2 ∙ read.1,
        AllByRecursion-get (λ (q : ℕ × ℕ). q.0 < p.0.sizes.m) l.3 l.4 pair.0 view.components pair.1,
      )

  -- where pairs are left, the view isn't the empty one
  view_shown : (left : ℕ) (l : Loads p.0.sizes o words hs log indices low p left) → 0 < left → p.0.view ≢ 0
  view_shown left l some none = let sum = l.5 in let no = no_pairs l.3 l.0 (sym l.2 ∙ none) l.6.shown in omega (arith, sum, some, no)

  pub step_index : (at left t x : ℕ) → knows_at p.0.sizes o words hs log indices low high (Index at left) p → x ≡ slice_index words at → (x < p.0.sizes.m) ×
      Knows_at t (view_at_stage p (PairValue (next_word at) left x))
  unfolding Knows_at
  step_index at left t x knows is =
      let l = knows.1 in
      let at_is = knows.2 in
      let next = next_pair left l knows.3 (view_shown left l knows.3) in
      let index : x ≡ next.0.0 = is ∙ ap (λ n. slice_index words n) at_is ∙ next.2 in (
        subst (λ n. n < p.0.sizes.m) (sym index) next.4,
        (
          knows.0,
          (l.0, third_on l.0 (view_at_stage p (PairValue (next_word at) left x)) refl refl l.1, l.2, l.3, l.4, l.5, l.6),
          omega (arith, at_is),
          knows.3,
          (next.0.1, next.1 ∙ ap (λ n. Some (n, next.0.1)) (sym index)),
        ),
      )

  pub step_pair : (at left index t x : ℕ) → index < length p.1.values → knows_at p.0.sizes o words hs log indices low high (PairValue at left index) p → x ≡ slice_index words at →
      Knows_at t (view_at_stage (with_value p index x) (pairs_from (next_word at) (left - 1)))
  unfolding Knows_at
  step_pair at left index t x room knows is =
      let l = knows.1 in
      let at_is = knows.2 in
      let some = knows.3 in
      let sum = l.5 in
      let pair = knows.4 in
      let view = view_here l.0 l.3 (λ none. view_shown left l some (l.2 ∙ none)) l.6.shown in
      let read = same_pairs words p.0.sizes hs (view_of words l.0) l.3 l.4 index pair.0 view pair.1 in
      let value : x ≡ pair.0 = is ∙ ap (λ n. slice_index words n) at_is ∙ ap (λ n. slice_index words (pair_value_word n l.4)) l.2 ∙ read.1 in
      let h = l.6 in
      let fresh_here : pair.0 ≡ value_of o (take h.prefix log) index = AllByRecursion-get (λ (q : ℕ × ℕ). q.1 ≡ value_of o (take h.prefix log) q.0) l.3 l.4 (index, pair.0) h.fresh pair.1 in
      let next : HasLoaded p.0.sizes o words hs log low l.1.place (with_value p index x).1 l.0 l.3 (l.4 + 1) = record {
        shown = h.shown;
        prefix = h.prefix;
        from = h.from;
        to = h.to;
        fresh = h.fresh;
        loaded = λ i lt c v e. elim (eqb_tells c index) [
          | inl same ↦ subst (λ n. slice_index (slice_set p.1.values index x) n ≡ value_of o (take h.prefix log) n) (sym same.1) (get_or-set_same p.1.values index x 0 room ∙ value ∙ fresh_here)
          | inr other ↦ elim (eqb_tells i l.4) [
            | inl last ↦ absurd (other.1 (ap (λ (f : Option (ℕ × ℕ)). option_map_or (λ (q : ℕ × ℕ). q.0) f 0) (sym e ∙ ap (slice_get l.3) last.1 ∙ pair.1)))
            | inr before ↦ let earlier = before.1 in get_or-set_other p.1.values index c x 0 other.1 ∙ h.loaded i (omega (arith, lt, earlier)) c v e
          ]
        ];
      } in
      cond_both (left - 1 == 0) Done (Index (next_word at) (left - 1)) (λ stage. ScanKnows p.0.sizes o words hs log indices low t (view_at_stage (with_value p index x) stage))
      (λ e.
      let none = eqb-true (left - 1) 0 e in (
        λ nothing. let bad : None ≡ Some l.0 = sym nothing ∙ l.1.borrowed in absurd cc,
        λ s borrowed. subst (λ n. IsThird words log indices low (view_at_stage (with_value p index x) Done) n × (p.0.view ≡ view_of words n)) (one_stamp l.0 s l.1.borrowed borrowed)
            (third_on l.0 (view_at_stage (with_value p index x) Done) refl refl l.1, l.2),
        λ s borrowed shares. (l.0, third_on l.0 (view_at_stage (with_value p index x) Done) refl refl l.1, l.2, l.3, l.4 + 1, omega (arith, sum, some, none), next),
      ))
      (λ e.
      let more = eqb-false (left - 1) 0 e in (
        knows.0,
        (l.0, third_on l.0 (view_at_stage (with_value p index x) (Index (next_word at) (left - 1))) refl refl l.1, l.2, l.3, l.4 + 1, omega (arith, sum, some), next),
        omega (arith, at_is),
        omega (arith, more),
      ))

  pub step_value : (k t x : ℕ) → k < length indices → slice_index indices k < length p.1.values → high ≤ t → CollectsAgreed o log indices low high p k → x ≡ slice_index words (value_word (slice_index p.1.last k)) →
      Knows_at t (view_at_stage (with_value p (slice_index indices k) x) (if nat_lt (k + 1) (length indices) then Value (k + 1) else Done))
  unfolding Knows_at
  step_value k t x here room after knows is =
      let j = slice_index indices k in
      let below : j < length o.values = let b = together.positions.components k here in let values = w.values in omega (arith, b, values) in
      let value : x ≡ value_of o (take knows.prefix log) j = is ∙ ap (λ n. slice_index words (value_word n)) (knows.stamps k here) ∙ value_behind_stamp o words log j knows.prefix w.agrees below in
      let next : HasValues o log indices low t (with_value p j x).1 knows.prefix (k + 1) = record {
        from = knows.values.from;
        to = let to = knows.values.to in omega (arith, to, after);
        values = λ i lt. elim (eqb_tells (slice_index indices i) j) [
          | inl same ↦ subst (λ n. slice_index (slice_set p.1.values j x) n ≡ value_of o (take knows.prefix log) n) (sym same.1) (get_or-set_same p.1.values j x 0 room ∙ value)
          | inr other ↦ elim (eqb_tells i k) [
            | inl last ↦ absurd (other.1 (ap (slice_index indices) last.1))
            | inr before ↦ let earlier = before.1 in get_or-set_other p.1.values j (slice_index indices i) x 0 other.1 ∙ knows.values.values i (omega (arith, lt, earlier))
          ]
        ];
      } in
      cond_both (nat_lt (k + 1) (length indices)) (Value (k + 1)) Done (λ stage. ScanKnows p.0.sizes o words hs log indices low t (view_at_stage (with_value p j x) stage))
      (λ e. record { none = knows.none; two = knows.two; prefix = knows.prefix; stamps = knows.stamps; values = next })
      (λ e.
      let last = ltb-false (k + 1) (length indices) e in (
        λ none. (knows.two, knows.prefix, record { from = next.from; to = next.to; values = λ i lt. next.values i (omega (arith, lt, last)) }, knows.stamps),
        λ s borrowed. let bad : None ≡ Some s = sym knows.none ∙ borrowed in absurd cc,
        λ s borrowed shares. let bad : None ≡ Some s = sym knows.none ∙ borrowed in absurd cc,
      ))

module _ (o : Opening) (words : List ℕ) (hs : List Holding) (log : List Applied) (indices : List ℕ) (low high : ℕ) (p : ViewPair) (w : LawfulWords p.0.sizes o words hs log)
    (together : ViewGoesTogether indices p) (order : low ≤ high) where
  -- the words that are to be loaded
  readable_at : (stage : Stage) (n : ℕ) → view_step_at p.0.sizes indices p.1.last stage ≡ Some (Load n) → view_goes_at indices p stage → knows_at p.0.sizes o words hs log indices low high stage p →
      IsReadable p.0.sizes words hs n
  readable_at (Collect k) n e goes knows =
      let is : slice_index indices k ≡ n = cc in
      let here = goes.0 in
      let below = together.positions.components k here in
      (omega (arith, is, below), λ far. absurd (omega (arith, is, below, far)))
  readable_at (View stamp) n e goes knows = let is : view_word stamp ≡ n = cc in subst (IsReadable p.0.sizes words hs) is
      (standing_word p.0.sizes o words hs log w stamp (view_word 0) (omega arith) (third_stands o words hs log indices low high p w together order stamp knows))
  readable_at (Len at) n e goes knows =
      let is : at ≡ n = cc in
      let f = third_fresh o words hs log indices low high p w together order knows.0 knows.1 in
      let at_is = knows.3 in
      let view = view_here o words hs log indices low high p w together order knows.0 f.pairs (λ none. knows.4 (at_is ∙ none)) f.shown in
      subst (IsReadable p.0.sizes words hs) (omega (arith, is, at_is)) (view_readable p.0.sizes words hs (view_of words knows.0) 0 f.pairs view (omega arith))
  readable_at (Index at left) n e goes knows =
      let is : at ≡ n = cc in
      let l = knows.1 in
      let at_is = knows.2 in
      let some = knows.3 in
      let sum = l.5 in
      let view_is = l.2 in
      let view = view_here o words hs log indices low high p w together order l.0 l.3 (λ none. view_shown o words hs log indices low high p w together order left l some (view_is ∙ none)) l.6.shown in
      subst (IsReadable p.0.sizes words hs) (omega (arith, is, at_is, view_is))
      (view_readable p.0.sizes words hs (view_of words l.0) (pair_index_word 0 l.4) l.3 view (let size = length-pairs l.3 in omega (arith, sum, some, size)))
  readable_at (PairValue at left index) n e goes knows =
      let is : at ≡ n = cc in
      let l = knows.1 in
      let at_is = knows.2 in
      let some = knows.3 in
      let sum = l.5 in
      let view_is = l.2 in
      let view = view_here o words hs log indices low high p w together order l.0 l.3 (λ none. view_shown o words hs log indices low high p w together order left l some (view_is ∙ none)) l.6.shown in
      subst (IsReadable p.0.sizes words hs) (omega (arith, is, at_is, view_is))
      (view_readable p.0.sizes words hs (view_of words l.0) (pair_value_word 0 l.4) l.3 view (let size = length-pairs l.3 in omega (arith, sum, some, size)))
  readable_at (Value k) n e goes knows =
      let is : value_word (slice_index p.1.last k) ≡ n = cc in
      let here = goes.0 in
      let below : slice_index indices k < length o.values = let b = together.positions.components k here in let values = w.values in omega (arith, b, values) in
      let within : IsWithin o log knows.prefix (slice_index p.1.last k) = subst (IsWithin o log knows.prefix) (sym (knows.stamps k here))
      (stamp_within o log knows.prefix (slice_index indices k) below) in
      subst (IsReadable p.0.sizes words hs) (omega (arith, is)) (standing_word p.0.sizes o words hs log w (slice_index p.1.last k) (value_word 0) (omega arith)
      (standing p.0.sizes o words hs log w knows.prefix (slice_index p.1.last k) within))
  readable_at Done n e goes knows = absurd cc

  -- what a load of a block's word answered stands element_at
  still : (n : ℕ) (k : KeptAnswer) → list_base p.0.sizes ≤ n → IsLoaded p.0.sizes o words hs log n k → k.answer ≡ slice_index words n
  still n k far l = (l.block far).0

  -- the reference of a view
  view_reference : (stamp : ℕ) (pairs : List (ℕ × ℕ)) → HasPairs p.0.sizes words (unpublished hs) stamp pairs → IsPossibleInViewAt p.0.sizes (View stamp) (view_of words stamp)
  view_reference stamp pairs (inl empty) = inl empty.0
  view_reference stamp pairs (inr view) = let above = view.above in let within = view.within in inr (omega (arith, above), omega (arith, within))

  -- and what they answer now is possible
  possible_at : (stage : Stage) (n : ℕ) → view_step_at p.0.sizes indices p.1.last stage ≡ Some (Load n) → view_goes_at indices p stage → knows_at p.0.sizes o words hs log indices low high stage p →
      IsLoaded p.0.sizes o words hs log n (record { answer = slice_index words n; at = length log }) → IsPossibleInViewAt p.0.sizes stage (slice_index words n)
  possible_at (Collect k) n e goes knows l =
      let is : slice_index indices k ≡ n = cc in
      let here = goes.0 in
      let component = together.positions.components k here in
      let below : slice_index indices k < length o.values = let values = w.values in omega (arith, component, values) in
      let stamp : slice_index words n ≡ stamp_of o (take (length log) log) (slice_index indices k) = subst (λ m. slice_index words n ≡ stamp_of o (take (length log) log) m) (sym is)
      (l.component (omega (arith, is, component))) in
      let s = standing p.0.sizes o words hs log w (length log) (slice_index words n)
      (subst (IsWithin o log (length log)) (sym stamp) (stamp_within o log (length log) (slice_index indices k) below)) in
      (s.above, s.within)
  possible_at (View stamp) n e goes knows l =
      let is : view_word stamp ≡ n = cc in
      let f = third_fresh o words hs log indices low high p w together order stamp knows in
      subst (λ m. IsPossibleInViewAt p.0.sizes (View stamp) (slice_index words m)) is (view_reference stamp f.pairs f.shown)
  possible_at (Len at) n e goes knows l = let is : n ≡ at = cc in (step_len o words hs log indices low high p w together order at high (slice_index words n) knows (ap (λ m. slice_index words m) is)).0
  possible_at (Index at left) n e goes knows l = let is : n ≡ at = cc in
      (step_index o words hs log indices low high p w together order at left high (slice_index words n) knows (ap (λ m. slice_index words m) is)).0
  possible_at (PairValue at left index) n e goes knows l = tt
  possible_at (Value k) n e goes knows l = tt
  possible_at Done n e goes knows l = absurd cc

  -- an answer leads to what is known next
  on_at : (stage : Stage) (n : ℕ) (k : KeptAnswer) → p.0.stage ≡ stage → view_step_at p.0.sizes indices p.1.last stage ≡ Some (Load n) → view_goes_at indices p stage →
      knows_at p.0.sizes o words hs log indices low high stage p → IsLoaded p.0.sizes o words hs log n k → high ≤ k.at → ScanKnows p.0.sizes o words hs log indices low k.at
      (advance_view_at indices p stage k.answer)
  unfolding Known Knows_at
  on_at (Collect i) n k at e goes knows l after =
      let is : slice_index indices i ≡ n = cc in
      let component = together.positions.components i goes.0 in
      let stamp : k.answer ≡ stamp_of o (take k.at log) (slice_index indices i) = subst (λ m. k.answer ≡ stamp_of o (take k.at log) m) (sym is) (l.component (omega (arith, is, component))) in
      step_collect o words hs log indices low high p w together order i k.answer k.at at knows after l.within stamp
  on_at (View stamp) n k at e goes knows l after =
      let is : view_word stamp ≡ n = cc in
      let s = third_stands o words hs log indices low high p w together order stamp knows in
      let above = s.above in
      step_view o words hs log indices low high p w together order stamp k.at k.answer knows (still n k (omega (arith, is, above)) l ∙ ap (λ m. slice_index words m) (sym is))
  on_at (Len at) n k stage e goes knows l after = let is : at ≡ n = cc in let above =
      goes.0 in (step_len o words hs log indices low high p w together order at k.at k.answer knows (still n k (omega (arith, is, above)) l ∙ ap (λ m. slice_index words m) (sym is))).1
  on_at (Index at left) n k stage e goes knows l after = let is : at ≡ n = cc in let above =
      goes.3 in (step_index o words hs log indices low high p w together order at left k.at k.answer knows (still n k (omega (arith, is, above)) l ∙ ap (λ m. slice_index words m) (sym is))).1
  on_at (PairValue at left index) n k stage e goes knows l after =
      let is : at ≡ n = cc in
      let above = goes.4 in
      let below = goes.3 in
      let room = together.rows.values in
      step_pair o words hs log indices low high p w together order at left index k.at k.answer (omega (arith, below, room)) knows
      (still n k (omega (arith, is, above)) l ∙ ap (λ m. slice_index words m) (sym is))
  on_at (Value i) n k stage e goes knows l after =
      let is : value_word (slice_index p.1.last i) ≡ n = cc in
      let here = goes.0 in
      let component = together.positions.components i here in
      let room = together.rows.values in
      let above = (goes.1 i here).0 in
      step_value o words hs log indices low high p w together order i k.at k.answer here (omega (arith, component, room)) after knows
      (still n k (omega (arith, is, above)) l ∙ ap (λ m. slice_index words m) (sym is))
  on_at Done n k stage e goes knows l after = absurd cc

pub embedded_scans_know : EmbeddedScansKnow
embedded_scans_know o words hs log indices low high p w together order inside knows = record {
  readable = λ n e. readable_at o words hs log indices low high p w together order p.0.stage n e together.stage knows;
  possible = λ n e l. possible_at o words hs log indices low high p w together order p.0.stage n e together.stage knows l;
  on = λ n k e l after. on_at o words hs log indices low high p w together order p.0.stage n k refl e together.stage knows l after;
}
