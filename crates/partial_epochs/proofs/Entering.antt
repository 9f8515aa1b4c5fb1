-- The steps by which a port enters the current epoch.
use Rattle.partial_epochs.proofs.{Common.{ℕ, ◌≡◌, ◌≢◌, ◌+◌, ◌<◌, ◌≤◌, ◌==◌, ◌⊎◌, Bool, true, false, if◌then◌else◌, Option, Some, None, IfSome, List, length, slice_index, slice_set, refl, sym, ap, subst, ◌∙◌, inl, inr, arith, option_map, eqb_tells, get_or-set_same, get_or-set_other, length-set, set-get_or, Applied, some_same, total, slot_counter, slot_word, HasClearRecords, HasClearSlots, put, Plan, Site, IsSite, at_word, arena_words, base, carried_word, carried_words, component_words, control_size, control_words, current_word, entering_from, packed, plain, set_word, arena_limit, Control, OwnedArena, Port, Epoch, IsSiteWord, IsEarlier, IsOld, IsOut, IsOwner, LawfulControl, MayPut, NotInto, Beside, IsArena, IsNewPart, IsSetting, IsStanding, LawfulEpochs, controls, numbers, site_now, IsPresent, Arrives, ArrivalsStayLawful, EntriesLoad, LooksAreTrue, EnteringWordsStayLawful, arrived_port, Stands, StoredEntering, Loaded}, ClearRecords.records_same, ControlChange.{Goes, control_goes, own, putter}, Lists.{at_of, length_of, put_all, put_other, put_same, same_of, set_of}, Offsets.{packed_arena, set_index}, Present.{present, same_site}}

-- words that differ in control words alone
module _ (e : Plan) (words words' : List ℕ) (high : (i : ℕ) → control_size e ≤ i → slice_index words' i ≡ slice_index words i) where
  pub high_arena : (y : ℕ) → arena_words e words' y ≡ arena_words e words y
  high_arena y = same_of (λ i. plain e i (slice_index words' (base e y + i))) (λ i. plain e i (slice_index words (base e y + i))) 0 (total e.sizes)
      (λ i low up. ap (plain e i) (high (base e y + i) (omega arith)))

  pub high_components : (y : ℕ) → component_words e words' y ≡ component_words e words y
  high_components y = same_of (λ j. slice_index words' (base e y + j)) (λ j. slice_index words (base e y + j)) 0 e.sizes.m (λ j low up. high (base e y + j) (omega arith))

  pub high_carried : (y : ℕ) → carried_words e words' y ≡ carried_words e words y
  high_carried y = same_of (λ j. slice_index words' (carried_word e y j)) (λ j. slice_index words (carried_word e y j)) 0 e.sizes.m (λ j low up. high (carried_word e y j) (omega arith))

  pub high_arenaed : (y : ℕ) (r : Epoch) (F : Type 0) → IsArena e (arena_words e words y) (component_words e words y) (carried_words e words y) r F →
      IsArena e (arena_words e words' y) (component_words e words' y) (carried_words e words' y) r F
  high_arenaed y r F h =
      subst (λ (l : List ℕ). IsArena e (arena_words e words' y) (component_words e words' y) l r F) (sym (high_carried y))
      (subst (λ (l : List ℕ). IsArena e (arena_words e words' y) l (carried_words e words y) r F) (sym (high_components y))
      (subst (λ (l : List ℕ). IsArena e l (component_words e words y) (carried_words e words y) r F) (sym (high_arena y)) h))

  pub high_clear : (y : ℕ) → HasClearSlots e words y → HasClearSlots e words' y
  high_clear y clear l from less = high (base e y + slot_word e.sizes l) (omega arith) ∙ clear l (subst (λ n. n ≤ l) (high (base e y + slot_counter e.sizes) (omega arith)) from) less

  pub high_records : (y : ℕ) → HasClearRecords e words y → HasClearRecords e words' y
  high_records y = records_same e words words' y (λ i from low. high (base e y + i) (omega arith))

-- port k becomes p'
module _ (e : Plan) (words words' : List ℕ) (high : (i : ℕ) → control_size e ≤ i → slice_index words' i ≡ slice_index words i) (ports : ℕ → Port) (b : Beside) (k : ℕ) (p' : Port)
    (w : LawfulEpochs e words ports b) (long : length words' ≡ length words) (first : slice_index words' current_word ≡ slice_index words current_word)
    (settled : IfSome p'.control.owned (IsSetting e words' b p')) (control : LawfulControl e (control_words e words') (put k p'.control (controls ports)) (site_now b) (numbers b))
    (stand : p'.control.entering ≡ Stands → IsStanding b k p') (later : (ports k).control.here.epoch ≤ p'.control.here.epoch) (inside : k < e.ports) where
  same_controls : (q : ℕ) → put k p'.control (controls ports) q ≡ controls (put k p' ports) q
  same_controls q = put_all (λ i (p : Port). put k p'.control (controls ports) i ≡ p.control) k p' ports q (λ is. put_same k p'.control (controls ports))
      (λ ne. put_other k p'.control (controls ports) q ne)

  pub control_lifted : LawfulEpochs e words' (put k p' ports) b
  control_lifted = record {
    plan = w.plan;
    count = long ∙ w.count;
    control = subst (λ (c : ℕ → Control). LawfulControl e (control_words e words') c (site_now b) (numbers b)) (λ i q. same_controls q i) control;
    now = w.now;
    finished = w.finished;
    arenas = λ x r is. high_arenaed e words words' high x r (x ≢ b.arena) (w.arenas x r is);
    standing = λ q low. put_all (λ i (p : Port). i < e.ports → p.control.entering ≡ Stands → IsStanding b i p) k p' ports q (λ _ _. stand) (λ _ low. w.standing q low) low;
    new = λ q x r low is. put_all (λ i (p : Port). i < e.ports → p.control.here.epoch < length r.before → IsNewPart e i r) k p' ports q
        (λ _ _ less. w.new k x r inside is (omega (arith, less, later))) (λ _ low. w.new q x r low is) low;
    setting = λ q low. put_all (λ i (p : Port). i < e.ports → IfSome p.control.owned (IsSetting e words' b p)) k p' ports q
        (λ _ _. settled)
        (λ _ low. set_on q (ports q).control.owned refl low (w.setting q low)) low;
    clear = λ y inside is. high_clear e words words' high y (w.clear y inside is);
    records = λ y inside is. high_records e words words' high y (w.records y inside is);
  }
    where
      set_on : (q : ℕ) (t : Option OwnedArena) → (ports q).control.owned ≡ t → q < e.ports → IfSome t (IsSetting e words b (ports q)) → IfSome t (IsSetting e words' b (ports q))
      set_on q None is low h = tt
      set_on q (Some o) is low h = record {
        few = h.few;
        sealed = h.sealed;
        each = λ at i less asked.
            let few = h.few in
            let pool = w.plan.sizes.pool.0 in
            let spot = set_index e o.arena i pool (omega (arith, less, few)) in
            high (set_word e o.arena i) (subst (λ n. control_size e ≤ n) (sym spot.2) (omega arith)) ∙ h.each (sym first ∙ at) i less asked;
        cleared = λ l less set. high (base e o.arena + slot_word e.sizes l) (omega arith) ∙ h.cleared l less set;
      }

pub cw_long : (e : Plan) (words : List ℕ) → length (control_words e words) ≡ control_size e
cw_long e words = length_of (λ i. slice_index words i) 0 (control_size e)

-- the word of port k is set
module _ (e : Plan) (words : List ℕ) (ports : ℕ → Port) (b : Beside) (k : ℕ) (p' : Port) (v : ℕ) (w : LawfulEpochs e words ports b) (inside : k < e.ports) where
  abbrev cw : List ℕ
  cw = control_words e words

  pub cw_at : (i : ℕ) → i < control_size e → slice_index cw i ≡ slice_index words i
  cw_at i low = at_of (λ i. slice_index words i) 0 (control_size e) i low ∙ ap (λ j. slice_index words j) (omega arith)

  long_words : control_size e ≤ length words
  long_words = let count = w.count in omega (arith, count)

  abbrev words' : List ℕ
  words' = slice_set words (at_word k) v

  set_control : control_words e words' ≡ slice_set cw (at_word k) v
  set_control =
      let zero_here : 0 + at_word k ≡ at_word k = omega arith in
      let long = long_words in
      set_of (λ i. slice_index words i) (λ i. slice_index words' i) 0 (control_size e) (at_word k) (omega (arith, inside))
      (λ j ne. get_or-set_other words (at_word k) j v 0 (omega (arith, ne)))
      ∙ ap (λ i. slice_set cw (at_word k) (slice_index words' i)) zero_here
      ∙ ap (λ u. slice_set cw (at_word k) u) (get_or-set_same words (at_word k) v 0 (omega (arith, inside, long)))

  module _ (free : (ports k).control.owned ≡ None) (free' : p'.control.owned ≡ None)
      (goes : Goes e cw (controls ports) (site_now b) (numbers b) w.control k inside p'.control v free free' (cw_long e words))
      (stand : p'.control.entering ≡ Stands → IsStanding b k p') (later : (ports k).control.here.epoch ≤ p'.control.here.epoch) where
    pub at_set : LawfulEpochs e words' (put k p' ports) b
    at_set = control_lifted e words words' (λ i from. get_or-set_other words (at_word k) i v 0 (omega (arith, from, inside))) ports b k p' w (length-set words (at_word k) v)
        (get_or-set_other words (at_word k) current_word v 0 (omega arith)) (subst (λ (o : Option OwnedArena). IfSome o (IsSetting e words' b p')) (sym free') tt)
        (subst (λ (l : List ℕ). LawfulControl e l (put k p'.control (controls ports)) (site_now b) (numbers b)) (sym set_control)
        (control_goes e cw (controls ports) (site_now b) (numbers b) w.control k inside p'.control v free free' (cw_long e words) goes))
        stand later inside

pub not_entering_word : (e : Plan) (p q : Site) → e.arenas ≤ arena_limit → IsSite e p → packed p ≡ entering_from q → ⊥
not_entering_word e p q few h same = let r = h.epoch in let b = h.arena in omega (arith, few, r, b, same)

pub entering_epoch : (e : Plan) (p q : Site) → e.arenas ≤ arena_limit → IsSite e p → IsSite e q → entering_from p ≡ entering_from q → p.epoch ≡ q.epoch
entering_epoch e p q few g h same = let b = g.arena in let c = h.arena in omega (arith, few, b, c, same)

module _ (e : Plan) (words : List ℕ) (ports : ℕ → Port) (b : Beside) (k : ℕ) (w : LawfulEpochs e words ports b) (inside : k < e.ports) where
  abbrev at_now : ℕ
  at_now = slice_index (control_words e words) (at_word k)

  abbrev cs : ℕ → Control
  cs = controls ports

  at_is : at_now ≡ slice_index words (at_word k)
  at_is = cw_at e words ports b k (ports k) 0 w inside (at_word k) (omega (arith, inside))

  pub current_is : slice_index words current_word ≡ packed (site_now b)
  current_is = sym (cw_at e words ports b k (ports k) 0 w inside current_word (omega arith)) ∙ w.control.current

  abbrev long : length (control_words e words) ≡ control_size e
  long = cw_long e words

  -- the entering word that another port holds of port k
  pub held_entering : (p : ℕ) (a : Site) → p < e.ports → MayPut (cs p) k a → IsSite e a × IsEarlier a (cs k).here (cs k).entering
  held_entering p a low may =
      let own : IsOwner e (control_words e words) cs (site_now b) (numbers b) p may.owned =
      subst (λ (o : Option OwnedArena). IfSome o (IsOwner e (control_words e words) cs (site_now b) (numbers b) p)) may.is (w.control.owners p low) in
      let h = subst (λ (m : Option Site). IfSome m (λ a. IsSite e a × IsEarlier a (cs may.owned.clean).here (cs may.owned.clean).entering)) may.entering_word own.held in
      (h.0, subst (λ i. IsEarlier a (cs i).here (cs i).entering) may.port h.1)

  -- a change that leaves the words
  module _ (p' : Port) (free : (ports k).control.owned ≡ None) (free' : p'.control.owned ≡ None)
      (goes : Goes e (control_words e words) cs (site_now b) (numbers b) w.control k inside p'.control (slice_index words (at_word k)) free free' long)
      (stand : p'.control.entering ≡ Stands → IsStanding b k p') (later : (ports k).control.here.epoch ≤ p'.control.here.epoch) where
    at_same : LawfulEpochs e words (put k p' ports) b
    at_same = subst (λ (l : List ℕ). LawfulEpochs e l (put k p' ports) b) (set-get_or words (at_word k) 0)
        (at_set e words ports b k p' (slice_index words (at_word k)) w inside free free' goes stand later)

  module _ (c : Control) (v : ℕ) (free : (ports k).control.owned ≡ None) (free' : c.owned ≡ None) where
    set_at : slice_index (slice_set (control_words e words) (at_word k) v) (at_word k) ≡ v
    set_at = own e (control_words e words) cs (site_now b) (numbers b) w.control k inside c v free free' long

    was_putter : (q j : ℕ) (a : Site) → MayPut (put k c cs q) j a → MayPut (cs q) j a × (q ≢ k)
    was_putter = putter e (control_words e words) cs (site_now b) (numbers b) w.control k inside c v free free' long

  -- a look
  pub looks : (ports k).control.entering ≡ Stands → (ports k).control.owned ≡ None →
      ((slice_index words current_word ≡ packed (ports k).control.here) × IsPresent b k (ports k))
      ⊎ ((slice_index words current_word ≢ packed (ports k).control.here) × LawfulEpochs e words (put k (record (ports k) { control = record (ports k).control { past = true } }) ports) b)
  looks stands free = by (eqb_tells (slice_index words current_word) (packed (ports k).control.here))
    where
      here : Site
      here = (ports k).control.here

      site_at : at_now ≡ packed (ports k).control.here
      site_at = subst (IsSiteWord e (control_words e words) k (ports k).control.here) stands (w.control.at k inside)

      older : slice_index words current_word ≢ packed (ports k).control.here → (ports k).control.here.epoch < length b.before
      older ne = elim (w.control.earlier (ports k).control.here.arena (ports k).control.here.epoch (w.control.stands k (ports k).control.here inside (w.control.sites k inside) site_at)) [
        | inl less ↦ less
        | inr same ↦ absurd (ne (current_is ∙ ap packed (sym (same_site (ports k).control.here (site_now b) same.0 same.1))))
      ]

      by : (((slice_index words current_word == packed (ports k).control.here) ≡ true) × (slice_index words current_word ≡ packed (ports k).control.here))
          ⊎ (((slice_index words current_word == packed (ports k).control.here) ≡ false) × (slice_index words current_word ≢ packed (ports k).control.here)) →
          ((slice_index words current_word ≡ packed (ports k).control.here) × IsPresent b k (ports k))
          ⊎ ((slice_index words current_word ≢ packed (ports k).control.here) × LawfulEpochs e words (put k (record (ports k) { control = record (ports k).control { past = true } }) ports) b)
      by (inl same) =
          let both = packed_arena e (ports k).control.here (site_now b) w.plan.arenas (w.control.sites k inside).arena w.control.site.arena (sym same.1 ∙ current_is) in
          inl (same.1, present e words ports b k w inside stands both.1)
      by (inr ne) =
          let less = older ne.1 in
          let c : Control = record (ports k).control { past = true } in
          let v : ℕ = slice_index words (at_word k) in
          let at : slice_index (slice_set (control_words e words) (at_word k) v) (at_word k) ≡ at_now = set_at c v free free ∙ sym at_is in
          inr (
            ne.1,
            at_same (record (ports k) { control = c }) free free
                (record {
                  site = w.control.sites k inside;
                  at = subst (IsSiteWord e (slice_set (control_words e words) (at_word k) v) k (ports k).control.here) (sym stands) (at ∙ site_at);
                  old = w.control.old k inside;
                  past = λ _. less;
                  stands = λ d site is. w.control.stands k d inside site (at_is ∙ is);
                  comes = λ d is entering_word. w.control.comes k d inside is (at_is ∙ entering_word);
                  out = λ x ne h. record {
                    without_bit = λ d site is. h.without_bit d site (sym at ∙ is);
                    loaded = λ is. subst (λ (f : Control). NotInto x f.entering) (sym (put_same k c cs)) (h.loaded (sym at ∙ is ∙ ap (λ (f : Control). entering_from f.here) (put_same k c cs)));
                    put = λ p a low may is. let was = was_putter c v free free p k a may in
                        subst (λ (f : Control). f.here.arena ≢ x) (sym (put_other k c cs p was.1)) (h.put p a low was.0 (sym at ∙ is));
                  };
                  earlier = λ a h. h;
                })
                (λ _. let s = w.standing k inside stands in record { epoch = s.epoch; is = s.is; before = s.before; part = s.part; passed = s.passed; over = s.over }) (omega arith),
          )

  -- the entering word is stored
  pub entering_words : (ports k).control.entering ≡ Stands → (ports k).control.past ≡ true → (ports k).control.owned ≡ None →
      LawfulEpochs e (slice_set words (at_word k) (entering_from (ports k).control.here)) (put k (record (ports k) { control = record (ports k).control { entering = StoredEntering } }) ports) b
  entering_words stands past free =
      let c : Control = record (ports k).control { entering = StoredEntering } in
      let v : ℕ = entering_from (ports k).control.here in
      let less = w.control.past k inside past in
      let at : slice_index (slice_set (control_words e words) (at_word k) v) (at_word k) ≡ v = set_at c v free free in
      let none : (d : Site) → IsSite e d → v ≡ packed d → ⊥ = λ d site is. not_entering_word e d (ports k).control.here w.plan.arenas site (sym is) in
      at_set e words ports b k (record (ports k) { control = c }) v w inside free free
      (record {
        site = w.control.sites k inside;
        at = inl at;
        old = less;
        past = λ _. less;
        stands = λ d site is. absurd (none d site is);
        comes = λ d is entering_word. absurd cc;
        out = λ x ne h. record {
          without_bit = λ d site is. absurd (none d site (sym at ∙ is));
          loaded = λ is. subst (λ (f : Control). NotInto x f.entering) (sym (put_same k c cs)) tt;
          put = λ p a low may is.
              let was = was_putter c v free free p k a may in
              let entering_word = held_entering p a low was.0 in
              let early : a.epoch < (ports k).control.here.epoch = subst (IsEarlier a (ports k).control.here) stands entering_word.1 in
              let same = entering_epoch e a (ports k).control.here w.plan.arenas entering_word.0 (w.control.sites k inside) (sym is ∙ at) in
              absurd (omega (arith, early, same));
        };
        earlier = λ a h. let early : a.epoch < (ports k).control.here.epoch = subst (IsEarlier a (ports k).control.here) stands h in omega (arith, early);
      })
      (λ is. absurd cc) (omega arith)

  -- the current site is loaded
  pub loads : (ports k).control.entering ≡ StoredEntering → LawfulEpochs e words (put k (record (ports k) { control = record (ports k).control { entering = Loaded (site_now b) } }) ports) b
  loads entering =
      let free = owns_none (ports k).control.owned refl (w.control.owners k inside) in
      let c : Control = record (ports k).control { entering = Loaded (site_now b) } in
      let v : ℕ = slice_index words (at_word k) in
      let at : slice_index (slice_set (control_words e words) (at_word k) v) (at_word k) ≡ at_now = set_at c v free free ∙ sym at_is in
      let less : (ports k).control.here.epoch < length b.before = subst (IsOld e (length b.before) (ports k).control.here) entering (w.control.old k inside) in
      at_same (record (ports k) { control = c }) free free
      (record {
        site = w.control.sites k inside;
        at = at_as v (subst (IsSiteWord e (control_words e words) k (ports k).control.here) entering (w.control.at k inside)) at;
        old = (less, omega arith, w.control.site);
        past = w.control.past k inside;
        stands = λ d site is. w.control.stands k d inside site (at_is ∙ is);
        comes = λ d is entering_word. let same : site_now b ≡ d = cc in subst (λ (d : Site). numbers b d.arena ≡ Some d.epoch) same w.control.present;
        out = λ x ne h. record {
          without_bit = λ d site is. h.without_bit d site (sym at ∙ is);
          loaded = λ is. subst (λ (f : Control). NotInto x f.entering) (sym (put_same k c cs)) ne;
          put = λ p a low may is. let was = was_putter c v free free p k a may in
              subst (λ (f : Control). f.here.arena ≢ x) (sym (put_other k c cs p was.1)) (h.put p a low was.0 (sym at ∙ is));
        };
        earlier = λ a h. subst (IsEarlier a (ports k).control.here) entering h;
      })
      (λ is. absurd cc) (omega arith)
    where
      owns_none : (t : Option OwnedArena) → (ports k).control.owned ≡ t → IfSome t (IsOwner e (control_words e words) cs (site_now b) (numbers b) k) → (ports k).control.owned ≡ None
      owns_none None is h = is
      owns_none (Some o) is h = let stands = h.stands in absurd cc

      at_as : (v : ℕ) → IsSiteWord e (control_words e words) k (ports k).control.here StoredEntering → slice_index (slice_set (control_words e words) (at_word k) v) (at_word k) ≡ at_now →
          IsSiteWord e (slice_set (control_words e words) (at_word k) v) k (ports k).control.here (Loaded (site_now b))
      at_as v (inl h) at = inl (at ∙ h)
      at_as v (inr h) at = inr (h.0, h.1, at ∙ h.2, h.3)

-- the epoch that an arena holds
epoch_at : (b : Beside) (x g : ℕ) → numbers b x ≡ Some g → (r : Epoch) × (b.holds x ≡ Some r) × (length r.before ≡ g)
epoch_at b x g is = by (b.holds x) refl is
  where
    by : (t : Option Epoch) → b.holds x ≡ t → option_map (λ (r : Epoch). length r.before) t ≡ Some g → (r : Epoch) × (b.holds x ≡ Some r) × (length r.before ≡ g)
    by None e is = absurd cc
    by (Some r) e is = (r, e, some_same is)

module _ (e : Plan) (words : List ℕ) (ports : ℕ → Port) (b : Beside) (k : ℕ) (w : LawfulEpochs e words ports b) (inside : k < e.ports) (c : Site)
    (entering : (ports k).control.entering ≡ Loaded c) where
  abbrev entering_word : ℕ
  entering_word = entering_from (ports k).control.here

  free : (ports k).control.owned ≡ None
  free = by (ports k).control.owned refl (w.control.owners k inside)
    where
      by : (t : Option OwnedArena) → (ports k).control.owned ≡ t → IfSome t (IsOwner e (control_words e words) (controls ports) (site_now b) (numbers b) k) → (ports k).control.owned ≡ None
      by None is h = is
      by (Some o) is h = let stands = h.stands in absurd cc

  old : ((ports k).control.here.epoch < c.epoch) × (c.epoch ≤ length b.before) × IsSite e c
  old = subst (IsOld e (length b.before) (ports k).control.here) entering (w.control.old k inside)

  -- the port enters the site p
  module _ (p : Site) (v : ℕ) (v_is : v ≡ packed p) (site : IsSite e p) (later : (ports k).control.here.epoch < p.epoch) (within : p.epoch ≤ length b.before)
      (holds : numbers b p.arena ≡ Some p.epoch) (away : (x : ℕ) → IsOut e (control_words e words) (controls ports) x k → p.arena ≢ x) where
    comes_to : (before : List (List Applied)) × (length before ≡ p.epoch) × LawfulEpochs e (slice_set words (at_word k) v) (put k (arrived_port e k p before) ports) b
    comes_to =
        let held = epoch_at b p.arena p.epoch holds in
        let r : Epoch = held.0 in
        let c' : Control = record { here = p; entering = Stands; past = false; owned = None } in
        let at : slice_index (slice_set (control_words e words) (at_word k) v) (at_word k) ≡ v =
        own e (control_words e words) (controls ports) (site_now b) (numbers b) w.control k inside c' v free refl (cw_long e words) in
        let is_p : (d : Site) → IsSite e d → v ≡ packed d → p ≡ d = λ d there is.
        let both = packed_arena e p d w.plan.arenas site.arena there.arena (sym v_is ∙ is) in same_site p d both.0 both.1 in
        let number = held.2 in (
          r.before,
          held.2,
          at_set e words ports b k (arrived_port e k p r.before) v w inside free refl
              (record {
                site = site;
                at = at ∙ v_is;
                old = within;
                past = λ is. absurd cc;
                stands = λ d there is. subst (λ (d : Site). numbers b d.arena ≡ Some d.epoch) (is_p d there is) holds;
                comes = λ d is entering_word. absurd cc;
                out = λ x ne h. record {
                  without_bit = λ d there is. subst (λ (d : Site). d.arena ≢ x) (is_p d there (sym at ∙ is)) (away x h);
                  loaded = λ is. subst (λ (f : Control). NotInto x f.entering) (sym (put_same k c' (controls ports))) tt;
                  put = λ q a low may is. absurd (not_entering_word e p a w.plan.arenas site (sym v_is ∙ sym at ∙ is));
                };
                earlier = λ a h. let early : a.epoch ≤ (ports k).control.here.epoch = subst (IsEarlier a (ports k).control.here) entering h in omega (arith, early, later);
              })
              (λ _. let new = w.new k p.arena r inside held.1 (omega (arith, number, later)) in
              record { epoch = r; is = held.1; before = refl; part = new.part; passed = new.passed; over = new.over })
              (omega (arith, later)),
        )

  arrives : Arrives e words ports b k c
  arrives = by (subst (IsSiteWord e (control_words e words) k (ports k).control.here) entering (w.control.at k inside)) (at_is e words ports b k w inside)
    where
      by : IsSiteWord e (control_words e words) k (ports k).control.here (Loaded c) → slice_index (control_words e words) (at_word k) ≡ slice_index words (at_word k) → Arrives e words ports b k c
      by (inl is) same =
          let raw : slice_index words (at_word k) ≡ entering_word = sym same ∙ is in
          let won : (slice_index words (at_word k) == entering_word) ≡ true = (elim (eqb_tells (slice_index words (at_word k)) entering_word) [ inl t ↦ t.0 | inr f ↦ absurd (f.1 raw) ]) in
          let holds = w.control.comes k c inside entering is in
          let away : (x : ℕ) → IsOut e (control_words e words) (controls ports) x k → c.arena ≢ x = λ x h. subst (NotInto x) entering (h.loaded is) in
          let g = comes_to c (packed c) refl old.2 old.0 old.1 holds away in
          record {
            site = c;
            is = inl (raw, refl);
            before = g.0;
            epoch = g.1;
            later = old.0;
            lawful = subst (λ (t : Bool). LawfulEpochs e (slice_set words (at_word k) (if t then packed c else slice_index words (at_word k))) (put k (arrived_port e k c g.0) ports) b) (sym won) g.2;
          }
      by (inr found) same =
          let p : Site = found.0 in
          let raw : slice_index words (at_word k) ≡ packed p = sym same ∙ found.2 in
          let lost : (slice_index words (at_word k) == entering_word) ≡ false = (elim (eqb_tells (slice_index words (at_word k)) entering_word) [
            | inl t ↦ absurd (not_entering_word e p (ports k).control.here w.plan.arenas found.1 (sym raw ∙ t.1))
            | inr f ↦ f.0
          ]) in
          let holds = w.control.stands k p inside found.1 found.2 in
          let within : p.epoch ≤ length b.before = (elim (w.control.earlier p.arena p.epoch holds) [ inl less ↦ omega (arith, less) | inr even ↦ let n = even.0 in omega (arith, n) ]) in
          let away : (x : ℕ) → IsOut e (control_words e words) (controls ports) x k → p.arena ≢ x = λ x h. h.without_bit p found.1 found.2 in
          let g = comes_to p (slice_index words (at_word k)) raw found.1 found.3 within holds away in
          record {
            site = p;
            is = inr raw;
            before = g.0;
            epoch = g.1;
            later = found.3;
            lawful = subst (λ (t : Bool). LawfulEpochs e (slice_set words (at_word k) (if t then packed c else slice_index words (at_word k))) (put k (arrived_port e k p g.0) ports) b) (sym lost) g.2;
          }

pub arrivals_stay_lawful : ArrivalsStayLawful
arrivals_stay_lawful e words ports b k c w inside entering = arrives e words ports b k w inside c entering

pub looks_are_true : LooksAreTrue
looks_are_true e words ports b k w inside stands free = looks e words ports b k w inside stands free

pub entering_words_stay_lawful : EnteringWordsStayLawful
entering_words_stay_lawful e words ports b k w inside stands past free = entering_words e words ports b k w inside stands past free

pub entries_load : EntriesLoad
entries_load e words ports b k w inside entering = (current_is e words ports b k w inside, loads e words ports b k w inside entering)
