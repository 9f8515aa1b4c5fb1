-- What a step in the arena of an epoch leaves of all the others.
use Rattle.partial_epochs.proofs.{Common.{ℕ, ◌≡◌, ◌≢◌, ◌+◌, ◌<◌, ◌≤◌, ◌==◌, ◌⊎◌, ◌++◌, true, false, Option, Some, None, IfSome, List, [], ◌∷◌, length, refl, sym, ap, subst, ◌∙◌, inl, inr, arith, slice_index, option_map, append-nil, eqb_tells, Applied, some_same, total, put, IsToBeSet, Plan, IsSealed, packed, current_word, base, control_words, control_size, arena_words, component_words, carried_words, set_word, Control, OwnedArena, Port, Epoch, LawfulControl, IsOwner, Beside, IsArena, IsFinished, IsNewPart, IsSetting, IsStanding, LawfulEpochs, controls, next_epoch_word, numbers, site_now, Stands, HasClearRecords, HasClearSlots, slot_counter, slot_word}, ClearRecords.records_same, Lists.{at_of, put_all, put_other, put_same}, Offsets.{arena_same, carried_same, components_same, control_same, other_arena, packed_arena, set_index}, Present.{standing, numbered}}

-- The port k, which stands in an epoch that the arena x holds, becomes p', and the epoch becomes r'. The words of the inner memory in x
-- alone have changed, and the history grows only where a component isn't sealed.
pub record Changes (e : Plan) (words : List ℕ) (b : Beside) (k x : ℕ) (p : Port) (r : Epoch) (words' : List ℕ) (p' : Port) (r' : Epoch) (entries : List Applied) : Type 0 where
  pub count : length words' ≡ length words
  pub outside : (i : ℕ) → (i < base e x) ⊎ (base e x + total e.sizes ≤ i) → slice_index words' i ≡ slice_index words i
  pub log : r'.log ≡ r.log ++ entries
  pub before : r'.before ≡ r.before
  pub parts : (q : ℕ) → q ≢ k → r'.part q ≡ r.part q
  pub passes : (q : ℕ) → q ≢ k → r'.passed q ≡ r.passed q
  pub overs : (q : ℕ) → q ≢ k → r'.over q ≡ r.over q
  pub part : r'.part k ≡ p'.part
  pub passed : r'.passed k ≡ p'.passed
  pub over : r'.over k ≡ p'.over
  pub more : p.passed ≤ p'.passed
  pub control : p'.control ≡ p.control
  pub earlier : p'.before ≡ p.before
  pub grows : (entries ≡ []) ⊎ ((j : ℕ) × (j < e.sizes.m) × (¬ IsSealed (slice_index (component_words e words x) j)))
  pub arena : IsArena e (arena_words e words' x) (component_words e words' x) (carried_words e words x) r' (x ≢ b.arena)

abbrev pub beside_then : Beside → ℕ → Epoch → List Applied → Beside
beside_then b x r' entries = record b { log = b.log ++ entries; holds = put x (Some r') b.holds }

module _ (e : Plan) (words : List ℕ) (ports : ℕ → Port) (b : Beside) (k : ℕ) (w : LawfulEpochs e words ports b) (below : k < e.ports)
    (stands : (ports k).control.entering ≡ Stands) where
  abbrev s : IsStanding b k (ports k)
  s = standing e words ports b k w below stands

  abbrev x : ℕ
  x = (ports k).control.here.arena

  module _ (words' : List ℕ) (p' : Port) (r' : Epoch) (entries : List Applied)
      (h : Changes e words b k (ports k).control.here.arena (ports k) (w.standing k below stands).epoch words' p' r' entries) where
    abbrev ports' : ℕ → Port
    ports' = put k p' ports

    abbrev b' : Beside
    b' = beside_then b x r' entries

    -- nothing of the control changes
    same_control : (q : ℕ) → (ports' q).control ≡ (ports q).control
    same_control q = put_all (λ i (p : Port). p.control ≡ (ports i).control) k p' ports q (λ _. h.control) (λ _. refl)

    same_number : (y : ℕ) → numbers b' y ≡ numbers b y
    same_number y = put_all (λ i (o : Option Epoch). option_map (λ r. length r.before) o ≡ numbers b i) x (Some r') b.holds y
        (λ _. ap (λ (l : List (List Applied)). Some (length l)) h.before ∙ sym (ap (option_map (λ (r : Epoch). length r.before)) s.is)) (λ _. refl)

    -- what an arena holds then
    held : (P : Epoch → Type 0) (y : ℕ) (r : Epoch) → b'.holds y ≡ Some r → (y ≡ x → P r') → (y ≢ x → b.holds y ≡ Some r → P r) → P r
    held P y r is here there = elim (eqb_tells y x) [
      | inl same ↦ subst P (some_same (sym (put_same x (Some r') b.holds) ∙ sym (ap b'.holds same.1) ∙ is)) (here same.1)
      | inr other ↦ there other.1 (sym (put_other x (Some r') b.holds y other.1) ∙ is)
    ]

    -- a finished epoch doesn't grow
    none : x ≢ b.arena → entries ≡ []
    none other = elim h.grows [
      | inl is ↦ is
      | inr free ↦ absurd (free.2 ((w.arenas x s.epoch s.is).sealed other free.0 free.1))
    ]

    control_then : LawfulControl e (control_words e words') (controls ports') (site_now b') (numbers b')
    control_then =
        let cs : controls ports ≡ controls ports' = λ i q. sym (same_control q) i in
        let ns : numbers b ≡ numbers b' = λ i y. sym (same_number y) i in
        subst (λ (n : ℕ → Option ℕ). LawfulControl e (control_words e words') (controls ports') (site_now b) n) ns
        (subst (λ (c : ℕ → Control). LawfulControl e (control_words e words') c (site_now b) (numbers b)) cs
        (subst (λ (l : List ℕ). LawfulControl e l (controls ports) (site_now b) (numbers b)) (sym (control_same e words words' x h.outside)) w.control))

    now_then : (r : Epoch) × (b'.holds b.arena ≡ Some r) × (r.log ≡ b.log ++ entries) × (r.before ≡ b.before)
    now_then = elim (eqb_tells b.arena x) [
      | inl same ↦
          let is : s.epoch ≡ w.now.0 = some_same (sym s.is ∙ ap b.holds (sym same.1) ∙ w.now.1) in (
            r',
            ap b'.holds same.1 ∙ put_same x (Some r') b.holds,
            h.log ∙ ap (λ (r : Epoch). r.log ++ entries) is ∙ ap (λ (l : List Applied). l ++ entries) w.now.2,
            h.before ∙ ap (λ (r : Epoch). r.before) is ∙ w.now.3,
          )
      | inr other ↦ (
        w.now.0,
        put_other x (Some r') b.holds b.arena other.1 ∙ w.now.1,
        w.now.2 ∙ sym (append-nil b.log) ∙ ap (λ (l : List Applied). b.log ++ l) (sym (none (λ e. other.1 (sym e)))),
        w.now.3,
      )
    ]

    finished_then : (y : ℕ) (r : Epoch) → b'.holds y ≡ Some r → y ≢ b.arena → IsFinished b' r
    finished_then y r is other = held (IsFinished b') y r is
        (λ same.
        let old = w.finished x s.epoch s.is (λ e. other (same ∙ e)) in
        let log : r'.log ≡ s.epoch.log = h.log ∙ ap (λ (l : List Applied). s.epoch.log ++ l) (none (λ e. other (same ∙ e))) ∙ append-nil s.epoch.log in
        (old.0, old.1 ∙ ap (λ (l : List Applied). old.0 ++ l ∷ s.epoch.before) (sym log) ∙ ap (λ (l : List (List Applied)). old.0 ++ r'.log ∷ l) (sym h.before)))
        (λ apart was. w.finished y r was other)

    abbrev Arenaed : ℕ → Epoch → Type 0
    Arenaed y r = IsArena e (arena_words e words' y) (component_words e words' y) (carried_words e words' y) r (y ≢ b.arena)

    arenas_then : (y : ℕ) (r : Epoch) → b'.holds y ≡ Some r → Arenaed y r
    arenas_then y r is = held (Arenaed y) y r is
        (λ same. subst (λ z. Arenaed z r') (sym same)
        (subst (λ (l : List ℕ). IsArena e (arena_words e words' x) (component_words e words' x) l r' (x ≢ b.arena)) (sym (carried_same e words words' x h.outside x)) h.arena))
        (λ apart was.
        subst (λ (l : List ℕ). IsArena e (arena_words e words' y) (component_words e words' y) l r (y ≢ b.arena)) (sym (carried_same e words words' x h.outside y))
        (subst (λ (l : List ℕ). IsArena e (arena_words e words' y) l (carried_words e words y) r (y ≢ b.arena)) (sym (components_same e words words' x h.outside y apart))
        (subst (λ (l : List ℕ). IsArena e l (component_words e words y) (carried_words e words y) r (y ≢ b.arena)) (sym (arena_same e words words' x h.outside y apart)) (w.arenas y r was))))

    -- another port that stands
    other_stands : (q : ℕ) → q ≢ k → IsStanding b q (ports q) → IsStanding b' q (ports q)
    other_stands q apart t = elim (eqb_tells (ports q).control.here.arena x) [
      | inl same ↦
          let is : t.epoch ≡ s.epoch = some_same (sym t.is ∙ ap b.holds same.1 ∙ s.is) in
          record {
            epoch = r';
            is = ap b'.holds same.1 ∙ put_same x (Some r') b.holds;
            before = h.before ∙ sym (ap (λ (r : Epoch). r.before) is) ∙ t.before;
            part = h.parts q apart ∙ sym (ap (λ (r : Epoch). r.part q) is) ∙ t.part;
            passed = h.passes q apart ∙ sym (ap (λ (r : Epoch). r.passed q) is) ∙ t.passed;
            over = h.overs q apart ∙ sym (ap (λ (r : Epoch). r.over q) is) ∙ t.over;
          }
      | inr other ↦ record {
        epoch = t.epoch;
        is = put_other x (Some r') b.holds (ports q).control.here.arena other.1 ∙ t.is;
        before = t.before;
        part = t.part;
        passed = t.passed;
        over = t.over;
      }
    ]

    own_stands : IsStanding b' k p'
    own_stands = record {
      epoch = r';
      is = ap (λ (c : Control). b'.holds c.here.arena) h.control ∙ put_same x (Some r') b.holds;
      before = h.before ∙ s.before ∙ sym h.earlier;
      part = h.part;
      passed = h.passed;
      over = h.over;
    }

    standing_then : (q : ℕ) → q < e.ports → (ports' q).control.entering ≡ Stands → IsStanding b' q (ports' q)
    standing_then q inside = put_all (λ i (p : Port). i < e.ports → p.control.entering ≡ Stands → IsStanding b' i p) k p' ports q
        (λ _ _ _. own_stands) (λ apart inside is. other_stands q apart (w.standing q inside is)) inside

    new_then : (q y : ℕ) (r : Epoch) → q < e.ports → b'.holds y ≡ Some r → (ports' q).control.here.epoch < length r.before → IsNewPart e q r
    new_then q y r inside is later =
        let later' : (ports q).control.here.epoch < length r.before = subst (λ (c : Control). c.here.epoch < length r.before) (same_control q) later in
        held (λ r. (ports q).control.here.epoch < length r.before → IsNewPart e q r) y r is
        (λ same late.
        let late' : (ports q).control.here.epoch < length s.epoch.before = subst (λ (l : List (List Applied)). (ports q).control.here.epoch < length l) h.before late in
        elim (eqb_tells q k) [
          | inl own ↦
              let n = numbered e words ports b k w below stands in
              let l : (ports k).control.here.epoch < length s.epoch.before = subst (λ i. (ports i).control.here.epoch < length s.epoch.before) own.1 late' in
              absurd (omega (arith, n, l))
          | inr apart ↦
              let old = w.new q x s.epoch inside s.is late' in
              record { part = h.parts q apart.1 ∙ old.part; passed = h.passes q apart.1 ∙ old.passed; over = h.overs q apart.1 ∙ old.over }
        ])
        (λ apart was late. w.new q y r inside was late) later'

    -- the arena that a port sets isn't x
    sets_other : (q : ℕ) (o : OwnedArena) → q < e.ports → (ports q).control.owned ≡ Some o → 0 < o.set → o.arena ≢ x
    sets_other q o inside is some same =
        let owner : IsOwner e (control_words e words) (controls ports) (site_now b) (numbers b) q o =
        subst (λ (t : Option OwnedArena). IfSome t (IsOwner e (control_words e words) (controls ports) (site_now b) (numbers b) q)) is (w.control.owners q inside) in
        let none : Some (length s.epoch.before) ≡ None = sym (ap (option_map (λ (r : Epoch). length r.before)) s.is) ∙ ap (numbers b) (sym same) ∙ owner.none some in
        cc

    -- a port that sets words while its epoch is the present one has found all components of it sealed
    settled : (q : ℕ) (o : OwnedArena) → q < e.ports → (ports q).control.owned ≡ Some o → IsSetting e words b (ports q) o → 0 < o.set →
        slice_index words current_word ≡ packed (ports q).control.here → (j : ℕ) → j < e.sizes.m → (¬ IsSealed (slice_index (component_words e words x) j)) →
        IsSealed (slice_index (component_words e words x) j)
    settled q o inside is t some at j low free =
        let owner : IsOwner e (control_words e words) (controls ports) (site_now b) (numbers b) q o =
        subst (λ (t : Option OwnedArena). IfSome t (IsOwner e (control_words e words) (controls ports) (site_now b) (numbers b) q)) is (w.control.owners q inside) in
        let now : slice_index words current_word ≡ packed (site_now b) = sym (at_of (slice_index words) 0 (control_size e) 0 (omega arith)) ∙ w.control.current in
        let same = packed_arena e (site_now b) (ports q).control.here w.plan.arenas w.control.site.arena (w.control.sites q inside).arena (sym now ∙ at) in
        let st = w.standing q inside owner.stands in
        let all = t.sealed some in
        by (eqb_tells x b.arena) same.1 st all
      where
        by : (((x == b.arena) ≡ true) × (x ≡ b.arena)) ⊎ (((x == b.arena) ≡ false) × (x ≢ b.arena)) → b.arena ≡ (ports q).control.here.arena → IsStanding b q (ports q) →
            e.sizes.m ≤ (ports q).passed → IsSealed (slice_index (component_words e words x) j)
        by (inr other) same st all = (w.arenas x s.epoch s.is).sealed other.1 j low
        by (inl own) same st all =
            let is : st.epoch ≡ s.epoch = some_same (sym st.is ∙ ap b.holds (sym (own.1 ∙ same)) ∙ s.is) in
            let passed : s.epoch.passed q ≡ (ports q).passed = sym (ap (λ (r : Epoch). r.passed q) is) ∙ st.passed in
            (w.arenas x s.epoch s.is).passed q j inside (omega (arith, passed, all, low)) low

    setting_old : (q : ℕ) (o : OwnedArena) (p : Port) → q < e.ports → (ports q).control.owned ≡ Some o → p.control ≡ (ports q).control → (ports q).passed ≤ p.passed →
        IsSetting e words b (ports q) o → IsSetting e words' b' p o
    setting_old q o p inside is control more t = record {
      few = t.few;
      sealed = λ some. let all = t.sealed some in omega (arith, all, more);
      each = each;
      cleared = λ l less set. h.outside (base e o.arena + slot_word e.sizes l) (other_arena e x o.arena (slot_word e.sizes l) (sets_other q o inside is (omega (arith, less, set))) (omega (arith, less)))
          ∙ t.cleared l less set;
    }
      where
        first : slice_index words' current_word ≡ slice_index words current_word
        first = h.outside current_word (inl (omega arith))

        set_same : (i : ℕ) → i < o.set → slice_index words' (set_word e o.arena i) ≡ slice_index words (set_word e o.arena i)
        set_same i low =
            let pool = w.plan.sizes.pool.0 in
            let few = t.few in
            let at = set_index e o.arena i pool (omega (arith, low, few)) in
            let other = sets_other q o inside is (omega (arith, low)) in
            ap (slice_index words') at.2 ∙ h.outside (base e o.arena + at.0) (other_arena e x o.arena at.0 other at.1) ∙ ap (slice_index words) (sym at.2)

        each : slice_index words' current_word ≡ packed p.control.here → (i : ℕ) → i < o.set → IsToBeSet e.sizes i → slice_index words' (set_word e o.arena i) ≡ next_epoch_word e b' i
        each at i low asked = elim h.grows [
          | inl is ↦
              let log : b.log ≡ b.log ++ entries = sym (append-nil b.log) ∙ ap (λ (l : List Applied). b.log ++ l) (sym is) in
              set_same i low ∙ t.each (sym first ∙ at ∙ ap (λ (c : Control). packed c.here) control) i low asked ∙ ap (λ (l : List Applied). next_epoch_word e (record b { log = l }) i) log
          | inr free ↦ absurd (free.2 (settled q o inside is t (omega (arith, low)) (sym first ∙ at ∙ ap (λ (c : Control). packed c.here) control) free.0 free.1 free.2))
        ]

    setting_then : (q : ℕ) → q < e.ports → IfSome (ports' q).control.owned (IsSetting e words' b' (ports' q))
    setting_then q inside = put_all (λ i (p : Port). i < e.ports → IfSome p.control.owned (IsSetting e words' b' p)) k p' ports q
        (λ _ inside. by k p' inside h.control h.more (ports k).control.owned refl (w.setting k inside))
        (λ apart inside. by q (ports q) inside refl (omega arith) (ports q).control.owned refl (w.setting q inside)) inside
      where
        by : (i : ℕ) (p : Port) → i < e.ports → p.control ≡ (ports i).control → (ports i).passed ≤ p.passed → (t : Option OwnedArena) → (ports i).control.owned ≡ t →
            IfSome t (IsSetting e words b (ports i)) → IfSome p.control.owned (IsSetting e words' b' p)
        by i p inside control more None is old = subst (λ (u : Option OwnedArena). IfSome u (IsSetting e words' b' p)) (sym (ap (λ (c : Control). c.owned) control ∙ is)) tt
        by i p inside control more (Some o) is old = subst (λ (u : Option OwnedArena). IfSome u (IsSetting e words' b' p)) (sym (ap (λ (c : Control). c.owned) control ∙ is))
            (setting_old i o p inside is control more old)

    clear_then : (y : ℕ) → y < e.arenas → b'.holds y ≡ None → HasClearSlots e words' y
    clear_then y inside is l from less = elim (eqb_tells y x) [
      | inl same ↦ let none : Some r' ≡ None = sym (put_same x (Some r') b.holds) ∙ sym (ap b'.holds same.1) ∙ is in absurd cc
      | inr other ↦
          let count = h.outside (base e y + slot_counter e.sizes) (other_arena e x y (slot_counter e.sizes) other.1 (omega arith)) in
          h.outside (base e y + slot_word e.sizes l) (other_arena e x y (slot_word e.sizes l) other.1 (omega (arith, less)))
          ∙ w.clear y inside (sym (put_other x (Some r') b.holds y other.1) ∙ is) l (subst (λ n. n ≤ l) count from) less
    ]

    records_then : (y : ℕ) → y < e.arenas → b'.holds y ≡ None → HasClearRecords e words' y
    records_then y inside is = elim (eqb_tells y x) [
      | inl same ↦ let none : Some r' ≡ None = sym (put_same x (Some r') b.holds) ∙ sym (ap b'.holds same.1) ∙ is in absurd cc
      | inr other ↦
          let pool = w.plan.sizes.pool.0 in
          records_same e words words' y (λ i from low. h.outside (base e y + i) (other_arena e x y i other.1 (omega (arith, low, pool))))
          (w.records y inside (sym (put_other x (Some r') b.holds y other.1) ∙ is))
    ]

    pub change_kept : LawfulEpochs e words' ports' b'
    change_kept = record {
      plan = w.plan;
      count = h.count ∙ w.count;
      control = control_then;
      now = now_then;
      finished = finished_then;
      arenas = arenas_then;
      standing = standing_then;
      new = new_then;
      setting = setting_then;
      clear = clear_then;
      records = records_then;
    }
