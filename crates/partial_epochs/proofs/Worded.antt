-- A step of an inner memory that is made in the words of its arena, seen with the seals taken off.
use Rattle.partial_epochs.proofs.{Common.{ℕ, ◌≡◌, ◌≢◌, ◌+◌, ◌%◌, ◌^◌, ◌<◌, ◌≤◌, ◌==◌, ◌⊎◌, Bool, true, false, if◌then◌else◌, List, [], ◌∷◌, length, slice_index, slice_set, refl, sym, ap, subst, ◌∙◌, inl, inr, arith, nat_lt, AllByRecursion, cases_lt, lt-ltb, eqb_tells, get_or-set_same, get_or-set_other, length-set, set-get_or, Applied, Step, Load, Store, Exchange, Add, total, answer_of, word_of, words_after, added_by, Plan, IsSealed, arena_words, base, component_words, based_step, plain, seal, seals, unsealed, MeetsSeal, not_below, value_word}, Apart.IsApart, Lists.{at_of, same_of, set_of}, Offsets.below_whole}

-- what the step does to the arena
pub record Words (e : Plan) (words : List ℕ) (x : ℕ) (step : Step) (words' : List ℕ) : Type 0 where
  pub count : length words' ≡ length words
  pub outside : (i : ℕ) → (i < base e x) ⊎ (base e x + total e.sizes ≤ i) → slice_index words' i ≡ slice_index words i
  pub arena : arena_words e words' x ≡ words_after (arena_words e words x) step
  pub seals : (j : ℕ) → j < e.sizes.m → (seals (slice_index (component_words e words' x) j) ≡ seals (slice_index (component_words e words x) j))
      × (IsSealed (slice_index (component_words e words x) j) → IsSealed (slice_index (component_words e words' x) j))
  pub gives : plain e (word_of step) (answer_of words (based_step e x step)) ≡ answer_of (arena_words e words x) step
  pub grows : (p : ℕ) → (added_by e.sizes p (arena_words e words x) step ≡ []) ⊎ ((j : ℕ) × (j < e.sizes.m) × (¬ IsSealed (slice_index (component_words e words x) j)))
  pub free : (p : ℕ) → AllByRecursion (λ (a : Applied). ¬ IsSealed (slice_index (component_words e words x) a.component)) (added_by e.sizes p (arena_words e words x) step)

pub component_at : (e : Plan) (words : List ℕ) (x j : ℕ) → j < e.sizes.m → slice_index (component_words e words x) j ≡ slice_index words (base e x + j)
component_at e words x j low = at_of (λ j. slice_index words (base e x + j)) 0 e.sizes.m j low ∙ ap (λ i. slice_index words (base e x + i)) (omega arith)

module _ (e : Plan) (words : List ℕ) (x : ℕ) where
  pub plain_at : (w : ℕ) → w < total e.sizes → slice_index (arena_words e words x) w ≡ plain e w (slice_index words (base e x + w))
  plain_at w low = at_of (λ w. plain e w (slice_index words (base e x + w))) 0 (total e.sizes) w low
      ∙ ap (λ i. plain e i (slice_index words (base e x + i))) (omega arith)

  -- a word that is no component word is as it is
  pub plain_other : (w v : ℕ) → e.sizes.m ≤ w → plain e w v ≡ v
  plain_other w v from = ap (λ (c : Bool). if c then unsealed v else v) (not_below w e.sizes.m from)

  pub plain_component : (w v : ℕ) → w < e.sizes.m → plain e w v ≡ unsealed v
  plain_component w v below = ap (λ (c : Bool). if c then unsealed v else v) (lt-ltb w e.sizes.m below)

  -- one word of the arena is set
  module _ (w v : ℕ) (low : w < total e.sizes) (there : base e x + w < length words) where
    abbrev words' : List ℕ
    words' = slice_set words (base e x + w) v

    pub set_outside : (i : ℕ) → (i < base e x) ⊎ (base e x + total e.sizes ≤ i) → slice_index words' i ≡ slice_index words i
    set_outside i out = let ne : i ≢ base e x + w = (λ same. elim out [ inl below ↦ omega (arith, below, same) | inr from ↦ omega (arith, from, same, low) ]) in
        get_or-set_other words (base e x + w) i v 0 ne

    pub set_arena : arena_words e words' x ≡ slice_set (arena_words e words x) w (plain e w v)
    set_arena =
        let f : ℕ → ℕ = λ i. plain e i (slice_index words (base e x + i)) in
        let g : ℕ → ℕ = λ i. plain e i (slice_index words' (base e x + i)) in
        let zero_here : 0 + w ≡ w = omega arith in
        let same : slice_index words' (base e x + w) ≡ v = get_or-set_same words (base e x + w) v 0 there in
        set_of f g 0 (total e.sizes) w low (λ j ne. ap (plain e j) (get_or-set_other words (base e x + w) (base e x + j) v 0 (omega (arith, ne))))
        ∙ ap (λ i. slice_set (arena_words e words x) w (g i)) zero_here ∙ ap (λ u. slice_set (arena_words e words x) w (plain e w u)) same

    set_components : e.sizes.m ≤ w → component_words e words' x ≡ component_words e words x
    set_components from = same_of (λ j. slice_index words' (base e x + j)) (λ j. slice_index words (base e x + j)) 0 e.sizes.m
        (λ j _ high. get_or-set_other words (base e x + w) (base e x + j) v 0 (omega (arith, from, high)))

    abbrev same_seals : Type 0
    same_seals = (j : ℕ) → j < e.sizes.m → (seals (slice_index (component_words e words' x) j) ≡ seals (slice_index (component_words e words x) j))
        × (IsSealed (slice_index (component_words e words x) j) → IsSealed (slice_index (component_words e words' x) j))

    seals_other : e.sizes.m ≤ w → same_seals
    seals_other from j inside = let is = set_components from in
        (ap (λ (l : List ℕ). seals (slice_index l j)) is, subst (λ (l : List ℕ). IsSealed (slice_index l j)) (sym is))

  -- a word is set to what it is
  keeps_same : (after_it : List ℕ) (step : Step) → after_it ≡ words → words_after (arena_words e words x) step ≡ arena_words e words x →
      plain e (word_of step) (answer_of words (based_step e x step)) ≡ answer_of (arena_words e words x) step → ((p : ℕ) → added_by e.sizes p (arena_words e words x) step ≡ []) →
      Words e words x step after_it
  keeps_same after_it step same after gives none = subst (Words e words x step) (sym same) (record {
    count = refl;
    outside = λ i out. refl;
    arena = sym after;
    seals = λ j inside. (refl, λ h. h);
    gives = gives;
    grows = λ p. inl (none p);
    free = λ p. subst (AllByRecursion (λ (a : Applied). ¬ IsSealed (slice_index (component_words e words x) a.component))) (sym (none p)) tt;
  })

  -- a step that sets a word which is no component word
  keeps_other : (step : Step) (v : ℕ) (low : word_of step < total e.sizes) (there : base e x + word_of step < length words) → e.sizes.m ≤ word_of step →
      words_after (arena_words e words x) step ≡ slice_set (arena_words e words x) (word_of step) v →
      plain e (word_of step) (answer_of words (based_step e x step)) ≡ answer_of (arena_words e words x) step → ((p : ℕ) → added_by e.sizes p (arena_words e words x) step ≡ []) →
      Words e words x step (slice_set words (base e x + word_of step) v)
  keeps_other step v low there from after gives none = record {
    count = length-set words (base e x + word_of step) v;
    outside = set_outside (word_of step) v low there;
    arena = set_arena (word_of step) v low there ∙ ap (λ u. slice_set (arena_words e words x) (word_of step) u) (plain_other (word_of step) v from) ∙ sym after;
    seals = seals_other (word_of step) v low there from;
    gives = gives;
    grows = λ p. inl (none p);
    free = λ p. subst (AllByRecursion (λ (a : Applied). ¬ IsSealed (slice_index (component_words e words x) a.component))) (sym (none p)) tt;
  }

  -- the exchange of a component word
  module _ (w old new : ℕ) (inside : w < e.sizes.m) (low : w < total e.sizes) (there : base e x + w < length words) (small : old < seal) (small' : new < seal) where
    abbrev raw : ℕ
    raw = slice_index words (base e x + w)

    found : slice_index (arena_words e words x) w ≡ unsealed raw
    found = plain_at w low ∙ plain_component w raw inside

    gives_here : plain e w raw ≡ slice_index (arena_words e words x) w
    gives_here = plain_component w raw inside ∙ sym found

    -- where it is sealed nothing is set
    lost : IsSealed raw → slice_set words (base e x + w) (if raw == old then new else raw) ≡ words
    lost sealed = elim (eqb_tells raw old) [
      | inl is ↦ let same = is.1 in absurd (omega (arith, sealed, small, same))
      | inr other ↦ ap (λ (b : Bool). slice_set words (base e x + w) (if b then new else raw)) other.0 ∙ set-get_or words (base e x + w) 0
    ]

    sealed_other : IsSealed raw → unsealed raw ≢ old → Words e words x (Exchange w old new) (words_after words (based_step e x (Exchange w old new)))
    sealed_other sealed other =
        let found_is = found in
        let plain_lost : (slice_index (arena_words e words x) w == old) ≡ false = (elim (eqb_tells (slice_index (arena_words e words x) w) old) [
          | inl is ↦ let same = is.1 in absurd (other (sym found_is ∙ same))
          | inr apart ↦ apart.0
        ]) in
        keeps_same (words_after words (based_step e x (Exchange w old new))) (Exchange w old new) (lost sealed)
        (ap (λ (b : Bool). slice_set (arena_words e words x) w (if b then new else slice_index (arena_words e words x) w)) plain_lost ∙ set-get_or (arena_words e words x) w 0)
        gives_here
        (λ p. ap (λ (b : Bool). if nat_lt w e.sizes.m then (if b then record { port = p; component = w; value = slice_index (arena_words e words x) (value_word new); stamp = new } ∷ [] else [])
        else []) plain_lost
        ∙ both (nat_lt w e.sizes.m) [])
      where
        both : (b : Bool) (none : List Applied) → (if b then none else none) ≡ none
        both true none = refl
        both false none = refl

    free : raw < seal → Words e words x (Exchange w old new) (words_after words (based_step e x (Exchange w old new)))
    free unsealed_raw =
        let is : unsealed raw ≡ raw = omega (arith, unsealed_raw) in
        let found_is : slice_index (arena_words e words x) w ≡ raw = found ∙ is in
        let v : ℕ = (if raw == old then new else raw) in
        let v_small : v < seal = less (raw == old) in
        let v_is : plain e w v ≡ v = plain_component w v inside ∙ omega (arith, v_small) in
        record {
          count = length-set words (base e x + w) v;
          outside = set_outside w v low there;
          arena = set_arena w v low there ∙ ap (λ u. slice_set (arena_words e words x) w u) (v_is ∙ ap (λ u. if u == old then new else u) (sym found_is));
          seals = λ j low_j. seals_here j low_j v_small unsealed_raw;
          gives = gives_here;
          grows = λ p. inr (w, inside, (λ s. let at = component_at e words x w inside in omega (arith, s, at, unsealed_raw)));
          free = λ p. added_free p (nat_lt w e.sizes.m) (slice_index (arena_words e words x) w == old) (λ s. let at = component_at e words x w inside in omega (arith, s, at, unsealed_raw));
        }
      where
        added_free : (p : ℕ) (b c : Bool) → (¬ IsSealed (slice_index (component_words e words x) w)) →
            AllByRecursion (λ (a : Applied). ¬ IsSealed (slice_index (component_words e words x) a.component))
            (if b then (if c then record { port = p; component = w; value = slice_index (arena_words e words x) (value_word new); stamp = new } ∷ [] else []) else [])
        added_free p true true not_sealed = (not_sealed, tt)
        added_free p true false not_sealed = tt
        added_free p false c not_sealed = tt

        less : (b : Bool) → (if b then new else raw) < seal
        less true = small'
        less false = unsealed_raw

        seals_here : (j : ℕ) → j < e.sizes.m → (if raw == old then new else raw) < seal → raw < seal →
            (seals (slice_index (component_words e (words_after words (based_step e x (Exchange w old new))) x) j) ≡ seals (slice_index (component_words e words x) j))
            × (IsSealed (slice_index (component_words e words x) j) → IsSealed (slice_index (component_words e (words_after words (based_step e x (Exchange w old new))) x) j))
        seals_here j low_j v_small raw_small =
            let v : ℕ = (if raw == old then new else raw) in
            let next : List ℕ = slice_set words (base e x + w) v in
            let was = component_at e words x j low_j in
            let is = component_at e next x j low_j in
            elim (eqb_tells j w) [
              | inl same ↦
                  let at : slice_index next (base e x + j) ≡ v = ap (λ i. slice_index next (base e x + i)) same.1 ∙ get_or-set_same words (base e x + w) v 0 there in
                  let at' : slice_index words (base e x + j) ≡ raw = ap (λ i. slice_index words (base e x + i)) same.1 in
                  let now : slice_index (component_words e next x) j ≡ v = is ∙ at in
                  let thereafter : slice_index (component_words e words x) j ≡ raw = was ∙ at' in
                  (omega (arith, now, thereafter, v_small, raw_small), λ s. absurd (omega (arith, s, thereafter, raw_small)))
              | inr other ↦
                  let ne = other.1 in
                  let at = get_or-set_other words (base e x + w) (base e x + j) v 0 (omega (arith, ne)) in
                  let now : slice_index (component_words e next x) j ≡ slice_index (component_words e words x) j = is ∙ at ∙ sym was in
                  (ap seals now, subst IsSealed (sym now))
            ]

  -- each step but one that meets a seal
  pub worded : (step : Step) → x < e.arenas → length words ≡ base e e.arenas → word_of step < total e.sizes → IsApart e.sizes step → 1 ≤ e.sizes.slots →
      (MeetsSeal e (component_words e words x) step × (words_after words (based_step e x step) ≡ words))
      ⊎ ((¬ MeetsSeal e (component_words e words x) step) × Words e words x step (words_after words (based_step e x step)))
  worded (Load w) within count low apart some = inr (λ h. h, keeps_same words (Load w) refl refl (sym (plain_at w low)) (λ p. refl))
  worded (Store w v) within count low apart some =
      let there = below_whole e x w within (omega (arith, low)) in
      let from : e.sizes.m ≤ w = omega (arith, apart) in
      inr (λ h. h, keeps_other (Store w v) v low (omega (arith, there, count)) from refl (plain_other w 0 from) (λ p. refl))
  worded (Add w n) within count low apart some =
      let there = below_whole e x w within (omega (arith, low)) in
      let from : e.sizes.m ≤ w = omega (arith, apart) in
      let found : slice_index (arena_words e words x) w ≡ slice_index words (base e x + w) = plain_at w low ∙ plain_other w (slice_index words (base e x + w)) from in
      inr (
        λ h. h,
        keeps_other (Add w n) ((slice_index words (base e x + w) + n) % 2 ^ 64) low (omega (arith, there, count)) from
            (ap (λ v. slice_set (arena_words e words x) w ((v + n) % 2 ^ 64)) found) (plain_other w (slice_index words (base e x + w)) from ∙ sym found) (λ p. refl),
      )
  worded (Exchange w old new) within count low (inr head) some =
      let there = below_whole e x w within (omega (arith, low)) in
      let from : e.sizes.m ≤ w = omega (arith, head) in
      let raw : ℕ = slice_index words (base e x + w) in
      let found : slice_index (arena_words e words x) w ≡ raw = plain_at w low ∙ plain_other w raw from in
      inr (
        λ h. let inside = h.0 in omega (arith, inside, from),
        keeps_other (Exchange w old new) (if raw == old then new else raw) low (omega (arith, there, count)) from
            (ap (λ v. slice_set (arena_words e words x) w (if v == old then new else v)) found) (plain_other w raw from ∙ sym found)
            (λ p. ap (λ (c : Bool). if c then (if slice_index (arena_words e words x) w == old
            then record { port = p; component = w; value = slice_index (arena_words e words x) (value_word new); stamp = new } ∷ [] else []) else [])
            (not_below w e.sizes.m from)),
      )
  worded (Exchange w old new) within count low (inl (inside, small, small')) some =
      let there' = below_whole e x w within (omega (arith, low)) in
      let there : base e x + w < length words = omega (arith, there', count) in
      let at = component_at e words x w inside in
      let raw_at : ℕ = slice_index words (base e x + w) in
      elim (cases_lt raw_at seal) [
        | inl below ↦ inr (λ h. let sealed = h.1 in omega (arith, sealed, at, below), free w old new inside low there small small' below)
        | inr from ↦ elim (eqb_tells (unsealed raw_at) old) [
          | inl same ↦ inl ((inside, subst IsSealed (sym at) from, ap unsealed at ∙ same.1), lost w old new inside low there small small' from)
          | inr other ↦ inr (λ h. other.1 (sym (ap unsealed at) ∙ h.2), sealed_other w old new inside low there small small' from other.1)
        ]
      ]
