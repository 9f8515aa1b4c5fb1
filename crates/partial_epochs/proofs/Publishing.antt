-- The control words as the next epoch is published.
use Rattle.partial_epochs.proofs.{Common.{ℕ, ◌≡◌, ◌≢◌, ◌+◌, ◌<◌, ◌≤◌, ◌⊎◌, true, false, Option, Some, None, IfSome, List, length, slice_index, slice_set, refl, sym, ap, subst, ◌∙◌, inl, inr, arith, eqb_tells, get_or-set_same, get_or-set_other, some_same, put, Plan, Site, IsSite, at_word, control_size, current_word, packed, arena_limit, epoch_limit, Control, Entering, OwnedArena, IsSiteWord, IsStillEntering, IsOld, IsOut, IsOwner, LawfulControl, NotInto, Stands, StoredEntering, Loaded}, Offsets.packed_arena, Lists.{put_all, put_other, put_same}}

-- the next epoch is published in the arena x, of which all ports but k are out, and in which k isn't
module _ (e : Plan) (words : List ℕ) (cs : ℕ → Control) (now : Site) (holds : ℕ → Option ℕ) (w : LawfulControl e words cs now holds) (k : ℕ) (below : k < e.ports) (x : ℕ) (inside : x < e.arenas)
    (few : e.arenas ≤ arena_limit)
    (stands : (cs k).entering ≡ Stands) (here : (cs k).here ≡ now) (room : now.epoch + 1 < epoch_limit) (apart : now.arena ≢ x)
    (out : (q : ℕ) → q < e.ports → q ≢ k → IsOut e words cs x q) (long : length words ≡ control_size e)
    (owns : (q : ℕ) (o : OwnedArena) → q < e.ports → (cs q).owned ≡ Some o → (o.arena ≢ x) ⊎ ((o.looked ≡ false) × (o.set ≡ 0))) where
  abbrev next : Site
  next = record { epoch = now.epoch + 1; arena = x }

  abbrev words' : List ℕ
  words' = slice_set words current_word (packed next)

  abbrev holds' : ℕ → Option ℕ
  holds' = put x (Some (now.epoch + 1)) holds

  other : (i : ℕ) → i ≢ current_word → slice_index words' i ≡ slice_index words i
  other i ne = get_or-set_other words current_word i (packed next) 0 ne

  -- the arena where a port is, or that it enters, isn't the arena x
  not_stood : (q : ℕ) (d : Site) → q < e.ports → IsSite e d → slice_index words (at_word q) ≡ packed d → d.arena ≢ x
  not_stood q d low site at = elim (eqb_tells q k) [
    | inl same ↦ own (subst (λ i. slice_index words (at_word i) ≡ packed d) same.1 at)
    | inr ne ↦ (out q low ne.1).without_bit d site at
  ]
    where
      own : slice_index words (at_word k) ≡ packed d → d.arena ≢ x
      own at =
          let mine : slice_index words (at_word k) ≡ packed (cs k).here = subst (IsSiteWord e words k (cs k).here) stands (w.at k below) in
          let arena : (cs k).here.arena ≡ now.arena = ap (λ (d : Site). d.arena) here in
          let same = packed_arena e (cs k).here d few (w.sites k below).arena site.arena (sym mine ∙ at) in
          λ is. apart (sym arena ∙ same.1 ∙ is)

  out_then : (y q : ℕ) → IsOut e words cs y q → IsOut e words' cs y q
  out_then y q h = record {
    without_bit = λ d site at. h.without_bit d site (sym (other (at_word q) (omega arith)) ∙ at);
    loaded = λ at. h.loaded (sym (other (at_word q) (omega arith)) ∙ at);
    put = λ p a low may at. h.put p a low may (sym (other (at_word q) (omega arith)) ∙ at);
  }

  owner_then : (q : ℕ) (o : OwnedArena) → q < e.ports → (cs q).owned ≡ Some o → IsOwner e words cs now holds q o → IsOwner e words' cs next holds' q o
  owner_then q o low is h = record {
    stands = h.stands;
    arena = h.arena;
    apart = h.apart;
    word = other (1 + e.ports + o.arena) (omega arith) ∙ h.word;
    looked = elim (owns q o low is) [
      | inl ne ↦ λ _ same. ne (sym same)
      | inr unseen ↦ λ seen. let bad : true ≡ false = sym seen ∙ unseen.0 in absurd cc
    ];
    order = h.order;
    few = h.few;
    out = λ p less within ne. out_then o.arena p (h.out p less within ne);
    older = h.older;
    held = h.held;
    all = h.all;
    none = elim (owns q o low is) [
      | inl ne ↦ λ some. put_other x (Some (now.epoch + 1)) holds o.arena ne ∙ h.none some
      | inr unseen ↦ λ some. let none = unseen.1 in absurd (omega (arith, some, none))
    ];
  }

  owner_of : (q : ℕ) (t : Option OwnedArena) → q < e.ports → (cs q).owned ≡ t → IfSome t (IsOwner e words cs now holds q) → IfSome t (IsOwner e words' cs next holds' q)
  owner_of q None low is h = tt
  owner_of q (Some o) low is h = owner_then q o low is h

  at_then : (q : ℕ) (d : Site) (t : Entering) → IsSiteWord e words q d t → IsSiteWord e words' q d t
  at_then q d Stands h = other (at_word q) (omega arith) ∙ h
  at_then q d StoredEntering (inl h) = inl (other (at_word q) (omega arith) ∙ h)
  at_then q d StoredEntering (inr h) = inr (h.0, h.1, other (at_word q) (omega arith) ∙ h.2, h.3)
  at_then q d (Loaded f) (inl h) = inl (other (at_word q) (omega arith) ∙ h)
  at_then q d (Loaded f) (inr h) = inr (h.0, h.1, other (at_word q) (omega arith) ∙ h.2, h.3)

  old_then : (d : Site) (t : Entering) → IsOld e now.epoch d t → IsOld e (now.epoch + 1) d t
  old_then d Stands h = omega (arith, h)
  old_then d StoredEntering h = omega (arith, h)
  old_then d (Loaded f) h = let less = h.1 in (h.0, omega (arith, less), h.2)

  -- where a port is about to come isn't the arena x
  not_coming : (q : ℕ) (d : Site) → q < e.ports → (cs q).entering ≡ Loaded d → IsStillEntering words (cs q) q → d.arena ≢ x
  not_coming q d low is at = elim (eqb_tells q k) [
    | inl same ↦ let bad : Stands ≡ Loaded d = sym stands ∙ sym (ap (λ i. (cs i).entering) same.1) ∙ is in absurd cc
    | inr ne ↦ subst (NotInto x) is ((out q low ne.1).loaded at)
  ]

  pub published : LawfulControl e words' cs next holds'
  published = record {
    current = get_or-set_same words current_word (packed next) 0 (omega (arith, long));
    site = record { epoch = room; arena = inside };
    present = put_same x (Some (now.epoch + 1)) holds;
    earlier = λ y g. put_all (λ i (t : Option ℕ). t ≡ Some g → (g < now.epoch + 1) ⊎ ((g ≡ now.epoch + 1) × (i ≡ x))) x (Some (now.epoch + 1)) holds y
        (λ _ is. inr (sym (some_same is), refl))
        (λ ne is. elim (w.earlier y g is) [ inl less ↦ inl (omega (arith, less)) | inr same ↦ let even = same.0 in inl (omega (arith, even)) ]);
    within = λ y g. put_all (λ i (t : Option ℕ). t ≡ Some g → i < e.arenas) x (Some (now.epoch + 1)) holds y (λ _ _. inside) (λ ne is. w.within y g is);
    sites = w.sites;
    at = λ q low. at_then q (cs q).here (cs q).entering (w.at q low);
    old = λ q low. old_then (cs q).here (cs q).entering (w.old q low);
    past = λ q low is. let less = w.past q low is in omega (arith, less);
    stands = λ q d low site at. let was = sym (other (at_word q) (omega arith)) ∙ at in
        put_other x (Some (now.epoch + 1)) holds d.arena (not_stood q d low site was) ∙ w.stands q d low site was;
    comes = λ q d low is at. let was = sym (other (at_word q) (omega arith)) ∙ at in
        put_other x (Some (now.epoch + 1)) holds d.arena (not_coming q d low is was) ∙ w.comes q d low is was;
    owners = λ q low. owner_of q (cs q).owned low refl (w.owners q low);
  }
