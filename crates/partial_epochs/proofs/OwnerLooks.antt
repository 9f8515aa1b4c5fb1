-- A port that owns an arena looks; and the claims of a port that is within the limit have room.
use Rattle.partial_epochs.proofs.{Common.{ℕ, zero, suc, ◌≡◌, ◌≢◌, ◌+◌, ◌*◌, ◌<◌, ◌≤◌, ◌==◌, ◌⊎◌, Bool, true, false, if◌then◌else◌, Option, Some, None, IfSome, List, slice_index, refl, sym, ap, subst, ◌∙◌, inl, inr, arith, eqb_tells, mul-le-mul_left, greatest_claim_of, count, put, Plan, Site, IsSite, at_word, control_words, entering_from, Control, Entering, OwnedArena, IsSiteWord, IsEarlier, IsOld, IsOut, IsOwner, LawfulControl, MayPut, NotInto, IsSetting, controls, numbers, site_now, ClaimsHaveRoom, OwnersLook, having_looked, Stands, StoredEntering, Loaded}, Entering.{control_lifted, current_is}, Lists.{put_all, put_other}, Offsets.packed_arena, Present.present}

module _ (e : Plan) (words : List ℕ) (cs : ℕ → Control) (now : Site) (holds : ℕ → Option ℕ) (w : LawfulControl e words cs now holds) (k : ℕ) (below : k < e.ports) (o : OwnedArena)
    (owned : (cs k).owned ≡ Some o) (is_now : (cs k).here ≡ now) (entering_words : (o.entering_word ≡ None) ⊎ (o.clean < e.ports)) where
  abbrev c : Control
  c = record (cs k) { owned = Some (record o { looked = true; again = true }) }

  abbrev cs' : ℕ → Control
  cs' = put k c cs

  own : IsOwner e words cs now holds k o
  own = subst (λ (t : Option OwnedArena). IfSome t (IsOwner e words cs now holds k)) owned (w.owners k below)

  same_here : (q : ℕ) → (cs' q).here ≡ (cs q).here
  same_here q = put_all (λ i (d : Control). d.here ≡ (cs i).here) k c cs q (λ _. refl) (λ _. refl)

  same_entering : (q : ℕ) → (cs' q).entering ≡ (cs q).entering
  same_entering q = put_all (λ i (d : Control). d.entering ≡ (cs i).entering) k c cs q (λ _. refl) (λ _. refl)

  out_then : (x q : ℕ) → now.arena ≢ x → IsOut e words cs x q → IsOut e words cs' x q
  out_then x q ne h = record {
    without_bit = h.without_bit;
    loaded = λ at. subst (NotInto x) (sym (same_entering q)) (h.loaded (at ∙ ap entering_from (same_here q)));
    put = λ p a low may at. by p a low may at (eqb_tells p k);
  }
    where
      by : (p : ℕ) (a : Site) → p < e.ports → MayPut (cs' p) q a → slice_index words (at_word q) ≡ entering_from a → (((p == k) ≡ true) × (p ≡ k)) ⊎ (((p == k) ≡ false) × (p ≢ k)) → (cs' p).here.arena ≢ x
      by p a low may at (inl same) = subst (λ (d : Site). d.arena ≢ x) (sym (same_here p ∙ ap (λ i. (cs i).here) same.1 ∙ is_now)) ne
      by p a low may at (inr other) = subst (λ (d : Site). d.arena ≢ x) (sym (same_here p)) (h.put p a low (subst (λ (d : Control). MayPut d q a) (put_other k c cs p other.1) may) at)

  owner_then : (q : ℕ) (t : OwnedArena) → IsOwner e words cs now holds q t → IsOwner e words cs' now holds q t
  owner_then q t h = record {
    stands = same_entering q ∙ h.stands;
    arena = h.arena;
    apart = subst (λ (d : Site). d.arena ≢ t.arena) (sym (same_here q)) h.apart;
    word = h.word;
    looked = h.looked;
    order = h.order;
    few = h.few;
    out = λ p less low ne. out_then t.arena p (h.looked (h.order (omega (arith, less)))) (h.out p less low ne);
    older = λ again. subst (λ (d : Site). IfSome t.entering_word (λ a. a.epoch < d.epoch)) (sym (same_here q)) (h.older again);
    held = subst (λ (d : Site). IfSome t.entering_word (λ a. IsSite e a × IsEarlier a d (cs' t.clean).entering)) (sym (same_here t.clean))
        (subst (λ (u : Entering). IfSome t.entering_word (λ a. IsSite e a × IsEarlier a (cs t.clean).here u)) (sym (same_entering t.clean)) h.held);
    all = h.all;
    none = h.none;
  }

  owner_of : (q : ℕ) (t : Option OwnedArena) → IfSome t (IsOwner e words cs now holds q) → IfSome t (IsOwner e words cs' now holds q)
  owner_of q None h = tt
  owner_of q (Some t) h = owner_then q t h

  earlier_now : (a d : Site) (t : Entering) → IsEarlier a d t → IsOld e now.epoch d t → a.epoch < now.epoch
  earlier_now a d Stands h old = omega (arith, h, old)
  earlier_now a d StoredEntering h old = omega (arith, h, old)
  earlier_now a d (Loaded f) h old = let x = old.0 in let y = old.1 in omega (arith, h, x, y)

  older_now : IfSome o.entering_word (λ a. a.epoch < (cs k).here.epoch)
  older_now = by o.entering_word refl own.held entering_words
    where
      by : (m : Option Site) → o.entering_word ≡ m → IfSome m (λ a. IsSite e a × IsEarlier a (cs o.clean).here (cs o.clean).entering) → (o.entering_word ≡ None) ⊎ (o.clean < e.ports) →
          IfSome o.entering_word (λ a. a.epoch < (cs k).here.epoch)
      by None is h t = subst (λ (m : Option Site). IfSome m (λ a. a.epoch < (cs k).here.epoch)) (sym is) tt
      by (Some a) is h (inl none) = let bad : Some a ≡ None = sym is ∙ none in absurd cc
      by (Some a) is h (inr low) = subst (λ (m : Option Site). IfSome m (λ a. a.epoch < (cs k).here.epoch)) (sym is)
          (subst (λ (d : Site). a.epoch < d.epoch) (sym is_now) (earlier_now a (cs o.clean).here (cs o.clean).entering h.1 (w.old o.clean low)))

  own_looked : IsOwner e words cs now holds k (record o { looked = true; again = true })
  own_looked = let h = own in record {
    stands = h.stands;
    arena = h.arena;
    apart = h.apart;
    word = h.word;
    looked = λ _. subst (λ (d : Site). d.arena ≢ o.arena) is_now h.apart;
    order = λ _. refl;
    few = h.few;
    out = h.out;
    older = λ _. older_now;
    held = h.held;
    all = h.all;
    none = h.none;
  }

  pub looked_on : LawfulControl e words cs' now holds
  looked_on = record {
    current = w.current;
    site = w.site;
    present = w.present;
    earlier = w.earlier;
    within = w.within;
    sites = λ q low. subst (IsSite e) (sym (same_here q)) (w.sites q low);
    at = λ q low. subst (λ (d : Site). IsSiteWord e words q d (cs' q).entering) (sym (same_here q)) (subst (IsSiteWord e words q (cs q).here) (sym (same_entering q)) (w.at q low));
    old = λ q low. subst (λ (d : Site). IsOld e now.epoch d (cs' q).entering) (sym (same_here q)) (subst (IsOld e now.epoch (cs q).here) (sym (same_entering q)) (w.old q low));
    past = λ q low. put_all (λ i (d : Control). i < e.ports → d.past ≡ true → d.here.epoch < now.epoch) k c cs q (λ _ low. w.past k low) (λ _ low. w.past q low) low;
    stands = w.stands;
    comes = λ q d low is at. w.comes q d low (sym (same_entering q) ∙ is) (at ∙ ap entering_from (same_here q));
    owners = λ q low. put_all (λ i (d : Control). i < e.ports → IfSome d.owned (IsOwner e words cs' now holds i)) k c cs q
        (λ _ _. owner_then k (record o { looked = true; again = true }) own_looked) (λ _ low. owner_of q (cs q).owned (w.owners q low)) low;
  }

pub owners_look : OwnersLook
owners_look e words ports b k o w below owned entering_words at =
    let own_epochs : IsOwner e (control_words e words) (controls ports) (site_now b) (numbers b) k o =
    subst (λ (t : Option OwnedArena). IfSome t (IsOwner e (control_words e words) (controls ports) (site_now b) (numbers b) k)) owned (w.control.owners k below) in
    let both = packed_arena e (ports k).control.here (site_now b) w.plan.arenas (w.control.sites k below).arena w.control.site.arena (sym at ∙ current_is e words ports b k w below) in
    let is = present e words ports b k w below own_epochs.stands both.1 in
    let h : IsSetting e words b (ports k) o = subst (λ (t : Option OwnedArena). IfSome t (IsSetting e words b (ports k))) owned (w.setting k below) in (
      is,
      control_lifted e words words (λ i from. refl) ports b k (having_looked (ports k) o) w refl refl (record { few = h.few; sealed = h.sealed; each = h.each; cleared = h.cleared })
          (looked_on e (control_words e words) (controls ports) (site_now b) (numbers b) w.control k below o owned is.here entering_words)
          (λ _. let s = w.standing k below own_epochs.stands in record { epoch = s.epoch; is = s.is; before = s.before; part = s.part; passed = s.passed; over = s.over })
          (omega arith) below,
    )

-- a count that misses one
count_less : (f : ℕ → Bool) (p n k : ℕ) → p ≤ k → k < p + n → f k ≡ false → count f p n + 1 ≤ n
count_less f p zero k low high off = absurd (omega (arith, low, high))
count_less f p (suc n) k low high off = elim (eqb_tells p k) [
  | inl same ↦
      let none : ◌≡◌ {A = ℕ} (if f p then 1 else 0) 0 = ap (λ (c : Bool). if c then 1 else 0) (ap f same.1 ∙ off) in
      let rest = few f (p + 1) n in
      omega (arith, none, rest)
  | inr ne ↦
      let other = ne.1 in
      let rest = count_less f (p + 1) n k (omega (arith, low, other)) (omega (arith, high)) off in
      let one = most (f p) in
      omega (arith, rest, one)
]
  where
    most : (c : Bool) → (if c then 1 else 0) ≤ 1
    most true = omega arith
    most false = omega arith

    few : (f : ℕ → Bool) (p n : ℕ) → count f p n ≤ n
    few f p zero = omega arith
    few f p (suc n) = let rest = few f (p + 1) n in let one = most (f p) in omega (arith, rest, one)

pub claims_have_room : ClaimsHaveRoom
claims_have_room e words ports b k w below stands free =
    let s = w.standing k below stands in
    let arena = w.arenas (ports k).control.here.arena s.epoch s.is in
    let reserve = arena.reserve in
    let limit = w.plan.limit in
    let less : count s.epoch.over 0 e.ports + 1 ≤ e.ports = count_less s.epoch.over 0 e.ports k (omega arith) (omega (arith, below)) (s.over ∙ free) in
    let times : greatest_claim_of e * (count s.epoch.over 0 e.ports + 1) ≤ greatest_claim_of e * e.ports = mul-le-mul_left (greatest_claim_of e) less in
    omega (arith, reserve, limit, times)
