-- A port puts another one where it stands itself.
use Rattle.partial_epochs.proofs.{Common.{ℕ, ◌≡◌, ◌≢◌, ◌+◌, ◌<◌, ◌≤◌, ◌==◌, ◌⊎◌, Bool, true, false, if◌then◌else◌, Option, Some, None, IfSome, List, length, slice_index, slice_set, refl, sym, ap, subst, ◌∙◌, inl, inr, arith, eqb_tells, get_or-set_same, get_or-set_other, length-set, put, Plan, Site, IsSite, at_word, control_size, control_words, current_word, entering_from, packed, arena_limit, Control, Entering, OwnedArena, Port, IsSiteWord, IsEarlier, IsStillEntering, IsOut, IsOwner, LawfulControl, MayPut, Beside, LawfulEpochs, controls, numbers, site_now, PutsStayLawful, at_next_port, having_put, Stands, StoredEntering, Loaded}, Entering.{control_lifted, cw_at, cw_long, entering_epoch, not_entering_word}, Lists.set_of, Owning.knows_more, Offsets.packed_arena, Present.same_site}

-- the word of port q is set, which port k holds the entering word of
module _ (e : Plan) (words : List ℕ) (cs : ℕ → Control) (now : Site) (holds : ℕ → Option ℕ) (w : LawfulControl e words cs now holds) (k : ℕ) (below : k < e.ports) (o : OwnedArena) (a : Site)
    (few : e.arenas ≤ arena_limit) (long : length words ≡ control_size e) (owned : (cs k).owned ≡ Some o) (within : o.clean < e.ports) (none : o.set ≡ 0) (looked : o.looked ≡ true)
    (entering_word : o.entering_word ≡ Some a) (again : o.again ≡ true) (there : slice_index words (at_word o.clean) ≡ entering_from a) where
  abbrev words' : List ℕ
  words' = slice_set words (at_word o.clean) (packed (cs k).here)

  own : IsOwner e words cs now holds k o
  own = subst (λ (t : Option OwnedArena). IfSome t (IsOwner e words cs now holds k)) owned (w.owners k below)

  site : IsSite e (cs k).here
  site = w.sites k below

  mine : slice_index words (at_word k) ≡ packed (cs k).here
  mine = subst (IsSiteWord e words k (cs k).here) own.stands (w.at k below)

  may : MayPut (cs k) o.clean a
  may = record { owned = o; is = owned; port = refl; entering_word = entering_word; again = again }

  held : IsSite e a × IsEarlier a (cs o.clean).here (cs o.clean).entering
  held = subst (λ (m : Option Site). IfSome m (λ a. IsSite e a × IsEarlier a (cs o.clean).here (cs o.clean).entering)) entering_word own.held

  older : a.epoch < (cs k).here.epoch
  older = subst (λ (m : Option Site). IfSome m (λ a. a.epoch < (cs k).here.epoch)) entering_word (own.older again)

  set_at : slice_index words' (at_word o.clean) ≡ packed (cs k).here
  set_at = get_or-set_same words (at_word o.clean) (packed (cs k).here) 0 (omega (arith, long, within))

  other : (i : ℕ) → i ≢ at_word o.clean → slice_index words' i ≡ slice_index words i
  other i ne = get_or-set_other words (at_word o.clean) i (packed (cs k).here) 0 ne

  other_at : (r : ℕ) → r ≢ o.clean → slice_index words' (at_word r) ≡ slice_index words (at_word r)
  other_at r ne = other (at_word r) (omega (arith, ne))

  is_here : (d : Site) → IsSite e d → packed (cs k).here ≡ packed d → (cs k).here ≡ d
  is_here d there is = let both = packed_arena e (cs k).here d few site.arena there.arena is in same_site (cs k).here d both.0 both.1

  out_q : (x : ℕ) → (cs k).here.arena ≢ x → IsOut e words' cs x o.clean
  out_q x ne = record {
    without_bit = λ d there is. subst (λ (d : Site). d.arena ≢ x) (is_here d there (sym set_at ∙ is)) ne;
    loaded = λ is. absurd (not_entering_word e (cs k).here (cs o.clean).here few site (sym set_at ∙ is));
    put = λ p a low may is. absurd (not_entering_word e (cs k).here a few site (sym set_at ∙ is));
  }

  out_then : (x r : ℕ) → IsOut e words cs x r → IsOut e words' cs x r
  out_then x r h = elim (eqb_tells r o.clean) [
    | inl same ↦
        let was : IsOut e words cs x o.clean = subst (IsOut e words cs x) same.1 h in
        subst (IsOut e words' cs x) (sym same.1) (out_q x (was.put k a below may there))
    | inr ne ↦ record {
      without_bit = λ d site at. h.without_bit d site (sym (other_at r ne.1) ∙ at);
      loaded = λ at. h.loaded (sym (other_at r ne.1) ∙ at);
      put = λ p a low may at. h.put p a low may (sym (other_at r ne.1) ∙ at);
    }
  ]

  owner_then : (r : ℕ) (t : OwnedArena) → IsOwner e words cs now holds r t → IsOwner e words' cs now holds r t
  owner_then r t h = record {
    stands = h.stands;
    arena = h.arena;
    apart = h.apart;
    word = other (1 + e.ports + t.arena) (omega (arith, within)) ∙ h.word;
    looked = h.looked;
    order = h.order;
    few = h.few;
    out = λ p less low ne. out_then t.arena p (h.out p less low ne);
    older = h.older;
    held = h.held;
    all = h.all;
    none = h.none;
  }

  owner_of : (r : ℕ) (t : Option OwnedArena) → IfSome t (IsOwner e words cs now holds r) → IfSome t (IsOwner e words' cs now holds r)
  owner_of r None h = tt
  owner_of r (Some t) h = owner_then r t h

  at_q : (t : Entering) → (cs o.clean).entering ≡ t → IsSiteWord e words o.clean (cs o.clean).here t → IsSiteWord e words' o.clean (cs o.clean).here t
  at_q Stands is h = absurd (not_entering_word e (cs o.clean).here a few (w.sites o.clean within) (sym h ∙ there))
  at_q StoredEntering is (inl h) = let same = entering_epoch e a (cs o.clean).here few held.0 (w.sites o.clean within) (sym there ∙ h) in let less = older in
      inr ((cs k).here, site, set_at, omega (arith, same, less))
  at_q StoredEntering is (inr h) = absurd (not_entering_word e h.0 a few h.1 (sym h.2 ∙ there))
  at_q (Loaded d) is (inl h) = let same = entering_epoch e a (cs o.clean).here few held.0 (w.sites o.clean within) (sym there ∙ h) in let less = older in
      inr ((cs k).here, site, set_at, omega (arith, same, less))
  at_q (Loaded d) is (inr h) = absurd (not_entering_word e h.0 a few h.1 (sym h.2 ∙ there))

  at_other : (r : ℕ) (d : Site) (t : Entering) → r ≢ o.clean → IsSiteWord e words r d t → IsSiteWord e words' r d t
  at_other r d Stands ne h = other_at r ne ∙ h
  at_other r d StoredEntering ne (inl h) = inl (other_at r ne ∙ h)
  at_other r d StoredEntering ne (inr h) = inr (h.0, h.1, other_at r ne ∙ h.2, h.3)
  at_other r d (Loaded f) ne (inl h) = inl (other_at r ne ∙ h)
  at_other r d (Loaded f) ne (inr h) = inr (h.0, h.1, other_at r ne ∙ h.2, h.3)

  at_then : (r : ℕ) → r < e.ports → IsSiteWord e words' r (cs r).here (cs r).entering
  at_then r low = elim (eqb_tells r o.clean) [
    | inl same ↦ subst (λ i. IsSiteWord e words' i (cs i).here (cs i).entering) (sym same.1) (at_q (cs o.clean).entering refl (w.at o.clean within))
    | inr ne ↦ at_other r (cs r).here (cs r).entering ne.1 (w.at r low)
  ]

  stands_then : (r : ℕ) (d : Site) → r < e.ports → IsSite e d → slice_index words' (at_word r) ≡ packed d → holds d.arena ≡ Some d.epoch
  stands_then r d low there at = elim (eqb_tells r o.clean) [
    | inl same ↦ subst (λ (d : Site). holds d.arena ≡ Some d.epoch) (is_here d there (sym set_at ∙ sym (ap (λ i. slice_index words' (at_word i)) same.1) ∙ at)) (w.stands k (cs k).here below site mine)
    | inr ne ↦ w.stands r d low there (sym (other_at r ne.1) ∙ at)
  ]

  comes_then : (r : ℕ) (d : Site) → r < e.ports → (cs r).entering ≡ Loaded d → IsStillEntering words' (cs r) r → holds d.arena ≡ Some d.epoch
  comes_then r d low is at = elim (eqb_tells r o.clean) [
    | inl same ↦ absurd (not_entering_word e (cs k).here (cs r).here few site (sym set_at ∙ sym (ap (λ i. slice_index words' (at_word i)) same.1) ∙ at))
    | inr ne ↦ w.comes r d low is (sym (other_at r ne.1) ∙ at)
  ]

  helped : LawfulControl e words' cs now holds
  helped = record {
    current = other current_word (omega arith) ∙ w.current;
    site = w.site;
    present = w.present;
    earlier = w.earlier;
    within = w.within;
    sites = w.sites;
    at = at_then;
    old = w.old;
    past = w.past;
    stands = stands_then;
    comes = comes_then;
    owners = λ r low. owner_of r (cs r).owned (w.owners r low);
  }

  abbrev c : Control
  c = record (cs k) { owned = Some (at_next_port o) }

  own_at_next_port : IsOwner e words' cs now holds k (at_next_port o)
  own_at_next_port = record {
    stands = own.stands;
    arena = own.arena;
    apart = own.apart;
    word = other (1 + e.ports + o.arena) (omega (arith, within)) ∙ own.word;
    looked = own.looked;
    order = λ _. looked;
    few = omega (arith, within);
    out = λ p less low ne. last p less low ne (eqb_tells p o.clean);
    older = λ _. tt;
    held = tt;
    all = λ some. absurd (omega (arith, some, none));
    none = λ some. absurd (omega (arith, some, none));
  }
    where
      last : (p : ℕ) → p < o.clean + 1 → p < e.ports → p ≢ k → (((p == o.clean) ≡ true) × (p ≡ o.clean)) ⊎ (((p == o.clean) ≡ false) × (p ≢ o.clean)) → IsOut e words' cs o.arena p
      last p less low ne (inl same) = subst (IsOut e words' cs o.arena) (sym same.1) (out_q o.arena own.apart)
      last p less low ne (inr apart) = let other = apart.1 in out_then o.arena p (own.out p (omega (arith, less, other)) low ne)

  no_puts : (j : ℕ) (d : Site) → MayPut c j d → ⊥
  no_puts j d may =
      let same : at_next_port o ≡ may.owned = cc in
      let bad : None ≡ Some d = ap (λ (t : OwnedArena). t.entering_word) same ∙ may.entering_word in
      cc

  pub puts_on : LawfulControl e words' (put k c cs) now holds
  puts_on = knows_more e words' cs now holds helped k below c refl refl (w.past k below) (λ j d may. absurd (no_puts j d may)) own_at_next_port

module _ (e : Plan) (words : List ℕ) (ports : ℕ → Port) (b : Beside) (k : ℕ) (o : OwnedArena) (a : Site) (w : LawfulEpochs e words ports b) (below : k < e.ports) (owned : (ports k).control.owned ≡ Some o)
    (looked : o.looked ≡ true) (within : o.clean < e.ports) (none : o.set ≡ 0) (entering_word : o.entering_word ≡ Some a) (again : o.again ≡ true) (there : slice_index words (at_word o.clean) ≡ entering_from a) where
  abbrev put_to : ℕ
  put_to = packed (ports k).control.here

  abbrev words_put : List ℕ
  words_put = slice_set words (at_word o.clean) put_to

  set_control : control_words e words_put ≡ slice_set (control_words e words) (at_word o.clean) put_to
  set_control =
      let count = w.count in
      let zero_here : 0 + at_word o.clean ≡ at_word o.clean = omega arith in
      set_of (λ i. slice_index words i) (λ i. slice_index words_put i) 0 (control_size e) (at_word o.clean) (omega (arith, within))
      (λ j ne. get_or-set_other words (at_word o.clean) j put_to 0 (omega (arith, ne)))
      ∙ ap (λ i. slice_set (control_words e words) (at_word o.clean) (slice_index words_put i)) zero_here
      ∙ ap (λ u. slice_set (control_words e words) (at_word o.clean) u) (get_or-set_same words (at_word o.clean) put_to 0 (omega (arith, count, within)))

  pub put_kept : LawfulEpochs e words_put (put k (having_put (ports k) o) ports) b
  put_kept =
      let p' : Port = having_put (ports k) o in
      let at = cw_at e words ports b k (ports k) 0 w below (at_word o.clean) (omega (arith, within)) in
      let control = puts_on e (control_words e words) (controls ports) (site_now b) (numbers b) w.control k below o a w.plan.arenas (cw_long e words) owned within none looked entering_word again
      (at ∙ there) in
      let own : IsOwner e (control_words e words) (controls ports) (site_now b) (numbers b) k o =
      subst (λ (t : Option OwnedArena). IfSome t (IsOwner e (control_words e words) (controls ports) (site_now b) (numbers b) k)) owned (w.control.owners k below) in
      control_lifted e words words_put (λ i from. get_or-set_other words (at_word o.clean) i put_to 0 (omega (arith, from, within))) ports b k p' w (length-set words (at_word o.clean) put_to)
      (get_or-set_other words (at_word o.clean) current_word put_to 0 (omega arith))
      (record { few = omega (arith, none); sealed = λ some. absurd (omega (arith, some, none)); each = λ at i less. absurd (omega (arith, less, none)); cleared = λ l less set. absurd (omega (arith, less, set, none)) })
      (subst (λ (l : List ℕ). LawfulControl e l (put k p'.control (controls ports)) (site_now b) (numbers b)) (sym set_control) control)
      (λ _. let s = w.standing k below own.stands in record { epoch = s.epoch; is = s.is; before = s.before; part = s.part; passed = s.passed; over = s.over })
      (omega arith) below

pub puts_stay_lawful : PutsStayLawful
puts_stay_lawful e words ports b k o a w below owned looked within none entering_word again there =
    let won : (slice_index words (at_word o.clean) == entering_from a) ≡ true = (elim (eqb_tells (slice_index words (at_word o.clean)) (entering_from a)) [ inl t ↦ t.0 | inr f ↦ absurd (f.1 there) ]) in
    subst (λ (t : Bool). LawfulEpochs e (slice_set words (at_word o.clean) (if t then packed (ports k).control.here
    else slice_index words (at_word o.clean))) (put k (having_put (ports k) o) ports) b) (sym won)
    (put_kept e words ports b k o a w below owned looked within none entering_word again there)
