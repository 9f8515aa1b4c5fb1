-- A step on the control words alone.
use Rattle.partial_epochs.proofs.{Common.{ℕ, ◌≡◌, ◌≢◌, ◌+◌, ◌<◌, ◌==◌, ◌⊎◌, true, false, Option, Some, None, IfSome, List, length, slice_index, slice_set, sym, ap, subst, ◌∙◌, inl, inr, arith, eqb_tells, get_or-set_same, get_or-set_other, put, Plan, Site, IsSite, at_word, control_size, current_word, entering_from, packed, Control, Entering, OwnedArena, IsSiteWord, IsEarlier, IsStillEntering, IsOld, IsOut, IsOwner, LawfulControl, MayPut, NotInto, Stands, StoredEntering, Loaded}, Lists.{put_all, put_other, put_same}}

-- port k, which owns no arena, changes what it does, and its word
module _ (e : Plan) (words : List ℕ) (cs : ℕ → Control) (now : Site) (holds : ℕ → Option ℕ) (w : LawfulControl e words cs now holds) (k : ℕ) (below : k < e.ports) (c : Control) (v : ℕ)
    (free : (cs k).owned ≡ None) (free' : c.owned ≡ None) (long : length words ≡ control_size e) where
  abbrev words' : List ℕ
  words' = slice_set words (at_word k) v

  abbrev cs' : ℕ → Control
  cs' = put k c cs

  pub own : slice_index words' (at_word k) ≡ v
  own = get_or-set_same words (at_word k) v 0 (omega (arith, long, below))

  other : (i : ℕ) → i ≢ at_word k → slice_index words' i ≡ slice_index words i
  other i ne = get_or-set_other words (at_word k) i v 0 ne

  other_at : (q : ℕ) → q ≢ k → slice_index words' (at_word q) ≡ slice_index words (at_word q)
  other_at q ne = other (at_word q) (omega (arith, ne))

  none_some : (o : OwnedArena) → None ≡ Some o → ⊥
  none_some o e = cc

  -- a port that may put another isn't k
  pub putter : (q j : ℕ) (a : Site) → MayPut (cs' q) j a → MayPut (cs q) j a × (q ≢ k)
  putter q j a = put_all (λ i (d : Control). MayPut d j a → MayPut (cs i) j a × (i ≢ k)) k c cs q
      (λ _ may. absurd (none_some may.owned (sym free' ∙ may.is))) (λ ne may. (may, ne))

  -- another port is out as before
  out_other : (x q : ℕ) → q ≢ k → IsOut e words cs x q → IsOut e words' cs' x q
  out_other x q ne h = record {
    without_bit = λ d site at. h.without_bit d site (sym (other_at q ne) ∙ at);
    loaded = λ at. subst (λ (d : Control). NotInto x d.entering) (sym (put_other k c cs q ne))
        (h.loaded (sym (other_at q ne) ∙ at ∙ ap (λ (d : Control). entering_from d.here) (put_other k c cs q ne)));
    put = λ p a inside may at.
        let was = putter p q a may in
        subst (λ (d : Control). d.here.arena ≢ x) (sym (put_other k c cs p was.1)) (h.put p a inside was.0 (sym (other_at q ne) ∙ at));
  }

  -- what is asked of k
  pub record Goes : Type 0 where
    pub site : IsSite e c.here
    pub at : IsSiteWord e words' k c.here c.entering
    pub old : IsOld e now.epoch c.here c.entering
    pub past : c.past ≡ true → c.here.epoch < now.epoch
    pub stands : (d : Site) → IsSite e d → v ≡ packed d → holds d.arena ≡ Some d.epoch
    pub comes : (d : Site) → c.entering ≡ Loaded d → v ≡ entering_from c.here → holds d.arena ≡ Some d.epoch
    pub out : (x : ℕ) → now.arena ≢ x → IsOut e words cs x k → IsOut e words' cs' x k
    pub earlier : (a : Site) → IsEarlier a (cs k).here (cs k).entering → IsEarlier a c.here c.entering

  module _ (g : Goes) where
    owner_then : (q : ℕ) (o : OwnedArena) → q < e.ports → q ≢ k → IsOwner e words cs now holds q o → IsOwner e words' cs' now holds q o
    owner_then q o inside ne h = record {
      stands = subst (λ (d : Control). d.entering ≡ Stands) (sym (put_other k c cs q ne)) h.stands;
      arena = h.arena;
      apart = subst (λ (d : Control). d.here.arena ≢ o.arena) (sym (put_other k c cs q ne)) h.apart;
      word = other (1 + e.ports + o.arena) (omega (arith, below)) ∙ h.word;
      looked = h.looked;
      order = h.order;
      few = h.few;
      out = λ p low within apart. by (eqb_tells p k) low within (h.out p low within apart) h;
      older = subst (λ (d : Control). o.again ≡ true → IfSome o.entering_word (λ a. a.epoch < d.here.epoch)) (sym (put_other k c cs q ne)) h.older;
      held = held (eqb_tells o.clean k) o.entering_word h.held;
      all = h.all;
      none = h.none;
    }
      where
        by : {p : ℕ} → (((p == k) ≡ true) × (p ≡ k)) ⊎ (((p == k) ≡ false) × (p ≢ k)) → p < o.clean → p < e.ports → IsOut e words cs o.arena p → IsOwner e words cs now holds q o →
            IsOut e words' cs' o.arena p
        by (inl same) low within h own =
            let looked = own.looked (own.order (omega (arith, low))) in
            subst (IsOut e words' cs' o.arena) (sym same.1) (g.out o.arena looked (subst (IsOut e words cs o.arena) same.1 h))
        by {p} (inr ne) low within h own = out_other o.arena p ne.1 h

        held : (((o.clean == k) ≡ true) × (o.clean ≡ k)) ⊎ (((o.clean == k) ≡ false) × (o.clean ≢ k)) → (m : Option Site) →
            IfSome m (λ a. IsSite e a × IsEarlier a (cs o.clean).here (cs o.clean).entering) →
            IfSome m (λ a. IsSite e a × IsEarlier a (cs' o.clean).here (cs' o.clean).entering)
        held t None h = tt
        held (inl same) (Some a) h =
            let here : IsEarlier a (cs k).here (cs k).entering = subst (λ i. IsEarlier a (cs i).here (cs i).entering) same.1 h.1 in
            (h.0, subst (λ i. IsEarlier a (cs' i).here (cs' i).entering) (sym same.1) (subst (λ (d : Control). IsEarlier a d.here d.entering) (sym (put_same k c cs)) (g.earlier a here)))
        held (inr ne) (Some a) h = (h.0, subst (λ (d : Control). IsEarlier a d.here d.entering) (sym (put_other k c cs o.clean ne.1)) h.1)

    pub control_goes : LawfulControl e words' cs' now holds
    control_goes = record {
      current = other current_word (omega arith) ∙ w.current;
      site = w.site;
      present = w.present;
      earlier = w.earlier;
      within = w.within;
      sites = λ q inside. put_all (λ i (d : Control). i < e.ports → IsSite e d.here) k c cs q (λ _ _. g.site) (λ _ inside. w.sites q inside) inside;
      at = λ q inside. put_all (λ i (d : Control). i < e.ports → IsSiteWord e words' i d.here d.entering) k c cs q (λ _ _. g.at)
          (λ ne inside. at_other q (cs q).here (cs q).entering ne (w.at q inside)) inside;
      old = λ q inside. put_all (λ i (d : Control). i < e.ports → IsOld e now.epoch d.here d.entering) k c cs q (λ _ _. g.old) (λ _ inside. w.old q inside) inside;
      past = λ q inside. put_all (λ i (d : Control). i < e.ports → d.past ≡ true → d.here.epoch < now.epoch) k c cs q (λ _ _. g.past) (λ _ inside. w.past q inside) inside;
      stands = λ q d inside site at. stands (eqb_tells q k) d inside site at;
      comes = λ q d inside. put_all (λ i (f : Control). i < e.ports → f.entering ≡ Loaded d → IsStillEntering words' f i → holds d.arena ≡ Some d.epoch) k c cs q
          (λ _ _ is at. g.comes d is (sym own ∙ at)) (λ ne inside is at. w.comes q d inside is (sym (other_at q ne) ∙ at)) inside;
      owners = λ q inside. put_all (λ i (d : Control). i < e.ports → IfSome d.owned (IsOwner e words' cs' now holds i)) k c cs q
          (λ _ _. subst (λ (o : Option OwnedArena). IfSome o (IsOwner e words' cs' now holds k)) (sym free') tt)
          (λ ne inside. owners q (cs q).owned ne inside (w.owners q inside)) inside;
    }
      where
        at_other : (q : ℕ) (here : Site) (t : Entering) → q ≢ k → IsSiteWord e words q here t → IsSiteWord e words' q here t
        at_other q here Stands ne h = other_at q ne ∙ h
        at_other q here StoredEntering ne (inl h) = inl (other_at q ne ∙ h)
        at_other q here StoredEntering ne (inr h) = inr (h.0, h.1, other_at q ne ∙ h.2, h.3)
        at_other q here (Loaded d) ne (inl h) = inl (other_at q ne ∙ h)
        at_other q here (Loaded d) ne (inr h) = inr (h.0, h.1, other_at q ne ∙ h.2, h.3)

        stands : {q : ℕ} → (((q == k) ≡ true) × (q ≡ k)) ⊎ (((q == k) ≡ false) × (q ≢ k)) → (d : Site) → q < e.ports → IsSite e d → slice_index words' (at_word q) ≡ packed d →
            holds d.arena ≡ Some d.epoch
        stands (inl same) d inside site at = g.stands d site (sym own ∙ sym (ap (λ i. slice_index words' (at_word i)) same.1) ∙ at)
        stands {q} (inr ne) d inside site at = w.stands q d inside site (sym (other_at q ne.1) ∙ at)

        owners : (q : ℕ) (t : Option OwnedArena) → q ≢ k → q < e.ports → IfSome t (IsOwner e words cs now holds q) → IfSome t (IsOwner e words' cs' now holds q)
        owners q None ne inside h = tt
        owners q (Some o) ne inside h = owner_then q o inside ne h
