-- What the steps make of the tally that change no owner word, and by which no port moves to another site.
use Rattle.partial_epochs.proofs.{Common.{ℕ, ◌≡◌, ◌≢◌, ◌+◌, ◌<◌, ◌≤◌, ◌/◌, ◌%◌, ◌^◌, ◌==◌, ◌⊎◌, Bool, true, if◌then◌else◌, Option, Some, IfSome, List, slice_index, slice_set, refl, sym, ap, subst, ◌∙◌, inl, inr, arith, eqb_tells, get_or-set_same, get_or-set_other, some_same, words_after, Step, Load, Store, Exchange, Add, put, IsSite, Site, Plan, arena_limit, at_word, base, control_size, current_word, entering_bit, entering_from, own_word, packed, based_step, set_word, Control, Entering, OwnedArena, Port, Stands, StoredEntering, Loaded, Beside, LawfulEpochs, site_now, having_passed, owning_port, having_published, next_site, resting_arena, Move, StoresEnteringWord}, Entering.{not_entering_word}, Lists.{put_all, put_other, put_same}, Tally.{IsBesideTally, IsHeld, NameAsBefore, counts_beside, gives_looked, gives_owned, gives_passed, held_within, met_stays, site_epoch, site_low, owners_stay, some_to, stands_at, use_stays, weight_as}, Weights.{sum_within, weigh, weigh_away, weigh_here, weigh_not_since, weigh_within}}
use Rattle.partial_epochs.specs.FreeArenas.{Counts, HasMetPort, HasSeenArrival, IsNamed, KeepsTally, LeavesInUse, Tally, credit, gives_at, gives_left, may_free, met_after, weight}

-- a control word is another one than each word of an arena
control_stays : (e : Plan) (words : List ℕ) (j i v : ℕ) → j < control_size e → control_size e ≤ i → slice_index (slice_set words i v) j ≡ slice_index words j
control_stays e words j i v low from = get_or-set_other words i j v 0 (omega (arith, low, from))

-- an owner word stays by a step in an arena
pub own_stays : (e : Plan) (words : List ℕ) (y x : ℕ) (step : Step) → y < e.arenas → slice_index (words_after words (based_step e x step)) (own_word e y) ≡ slice_index words (own_word e y)
own_stays e words y x (Load w) low = refl
own_stays e words y x (Store w v) low = control_stays e words (own_word e y) (base e x + w) v (omega (arith, low)) (omega arith)
own_stays e words y x (Exchange w old new) low =
    control_stays e words (own_word e y) (base e x + w) (if slice_index words (base e x + w) == old then new else slice_index words (base e x + w)) (omega (arith, low)) (omega arith)
own_stays e words y x (Add w n) low = control_stays e words (own_word e y) (base e x + w) ((slice_index words (base e x + w) + n) % 2 ^ 64) (omega (arith, low)) (omega arith)

-- and by the store of a word that an owner sets
pub own_stays_set : (e : Plan) (words : List ℕ) (y x i v : ℕ) → y < e.arenas → slice_index (words_after words (Store (set_word e x i) v)) (own_word e y) ≡ slice_index words (own_word e y)
own_stays_set e words y x i v low = control_stays e words (own_word e y) (set_word e x i) v (omega (arith, low)) from
  where
    from : control_size e ≤ set_word e x i
    from = search arith

module _ (e : Plan) (words : List ℕ) (ports : ℕ → Port) (b : Beside) (k : ℕ) (w : LawfulEpochs e words ports b) (below : k < e.ports) (since : ℕ → ℕ) (t : Tally)
    (s : KeepsTally e words ports t) where
  abbrev here : Site
  here = (ports k).control.here

  abbrev now : ℕ
  now = (site_now b).epoch

  -- what the move makes of the tally, as port k becomes p, with c beside the words
  abbrev Goal : Move → List ℕ → Port → Beside → (ℕ → ℕ) → Type 0
  Goal m words' p c since' = Counts e words words' ports (put k p ports) (site_now b) (site_now c) since since' t k m

  -- no word of a port or owner changes, and port k becomes p
  abbrev Keeps : List ℕ → Port → Type 0
  Keeps words' p = IsBesideTally e words words' ports k p t

  -- it weighs no more
  abbrev WeighsNoMore : Port → Type 0
  WeighsNoMore p = weight_as e words p now since t k ≤ weight_as e words (ports k) now since t k

  site_here : IsSite e here
  site_here = w.control.sites k below

  low_here : packed here < entering_bit
  low_here = site_low e here w.plan.arenas site_here

  -- less credit and fewer gives
  within : (p : Port) → credit t k p.control.owned ≤ credit t k (ports k).control.owned → gives_left p.control ≤ gives_left (ports k).control → WeighsNoMore p
  within p few fewer =
      let le = weigh_within e.ports (slice_index words (at_word k)) now (since k) (credit t k (ports k).control.owned) (gives_left (ports k).control) (credit t k p.control.owned) (gives_left p.control) 0
      (omega (arith, few)) (omega (arith, fewer)) in
      omega (arith, le)

  -- credit is that of an owner, whatever the state of its arena
  credit_owned : (o o' : OwnedArena) → (ports k).control.owned ≡ Some o → credit t k (Some o') ≡ credit t k (ports k).control.owned
  credit_owned o o' is = sym (ap (credit t k) is)

  -- the port's control stays as it is
  pub same_control : (m : Move) (words' : List ℕ) (p : Port) (c : Beside) → ((q : ℕ) → q < e.ports → slice_index words' (at_word q) ≡ slice_index words (at_word q)) →
      ((x : ℕ) → x < e.arenas → slice_index words' (own_word e x) ≡ slice_index words (own_word e x)) → p.control ≡ (ports k).control →
      ((q : ℕ) → t.met q ≡ met_after k m t.met q) → LeavesInUse e words' t t m → Goal m words' p c since
  same_control m words' p c at own same met leaves = counts_beside e words words' ports b k p t w s
      (record {
        at = at;
        own = own;
        owned = λ o is. (o, ap (λ (d : Control). d.owned) same ∙ is, refl);
        entering_words = subst (λ (d : Control). IfSome d.owned (λ o. IfSome o.entering_word (IsHeld e words t k o))) (sym same) (held_within e words ports b w t s k below);
        met = λ is. subst (λ (d : Control). IfSome d.owned (HasMetPort e words d t k)) (sym same) (s.met k below is);
      }) (site_now b) (site_now c) since m
      (λ _. subst (λ (d : Control). weigh e.ports (slice_index words (at_word k)) now (since k) (credit t k d.owned) (gives_left d) ≤ weight_as e words (ports k) now since t k) (sym same) (omega arith))
      met leaves

  -- no word of a port or owner changes, and the port's control changes without effect
  pub aside : (m : Move) (words' : List ℕ) (p : Port) (c : Beside) → Keeps words' p → ((site_now c).epoch ≡ now → WeighsNoMore p) → ((q : ℕ) → t.met q ≡ met_after k m t.met q) →
      LeavesInUse e words' t t m → Goal m words' p c since
  aside m words' p c a less met leaves = counts_beside e words words' ports b k p t w s a (site_now b) (site_now c) since m less met leaves

  -- the port has seen its epoch's end
  pub passed : Keeps words (having_passed (ports k))
  passed = record {
    at = λ q low. refl;
    own = λ x low. refl;
    owned = λ o is. (o, is, refl);
    entering_words = held_within e words ports b w t s k below;
    met = λ is. some_to (HasMetPort e words (ports k).control t k) (HasMetPort e words (having_passed (ports k)).control t k) (ports k).control.owned (λ o _ h. record { looked = inl refl; cause = h.cause })
        (s.met k below is);
  }

  -- it weighs no more
  pub passed_less : WeighsNoMore (having_passed (ports k))
  passed_less = within (having_passed (ports k)) (omega arith) (gives_passed (ports k).control.entering (ports k).control.past (ports k).control.owned)

  -- the port loads the current word
  pub looks : (m : Move) (p q : Port) (c : Beside) → q ≡ (if slice_index words current_word == packed here then p else having_passed (ports k)) →
      (slice_index words current_word ≡ packed here → Goal m words p c since) → Goal m words (having_passed (ports k)) c since → Goal m words q c since
  looks m p q c is present away = elim (eqb_tells (slice_index words current_word) (packed here)) [
    | inl same ↦ subst (λ (r : Port). Goal m words r c since) (sym (is ∙ ap (λ (v : Bool). if v then p else having_passed (ports k)) same.0)) (present same.1)
    | inr ne ↦ subst (λ (r : Port). Goal m words r c since) (sym (is ∙ ap (λ (v : Bool). if v then p else having_passed (ports k)) ne.0)) away
  ]

  -- what an owner has met
  was_met : (o : OwnedArena) → (ports k).control.owned ≡ Some o → t.met k ≡ true → HasMetPort e words (ports k).control t k o
  was_met o is met = subst (λ (d : Option OwnedArena). IfSome d (HasMetPort e words (ports k).control t k)) is (s.met k below met)

  -- the port owns the same arena in another state
  module _ (o o' : OwnedArena) (is : (ports k).control.owned ≡ Some o) (arena : o'.arena ≡ o.arena) (looked : o.looked ≡ true → o'.looked ≡ true)
      (entering_word : IfSome o'.entering_word (IsHeld e words t k o')) (words' : List ℕ) (at : (q : ℕ) → q < e.ports → slice_index words' (at_word q) ≡ slice_index words (at_word q))
      (own : (x : ℕ) → x < e.arenas → slice_index words' (own_word e x) ≡ slice_index words (own_word e x)) where
    -- the tally says of it what it said
    pub owner : Keeps words' (owning_port (ports k) o')
    owner = record {
      at = at;
      own = own;
      owned = λ d was. (o', refl, arena ∙ ap (λ (f : OwnedArena). f.arena) (some_same (sym is ∙ was)));
      entering_words = entering_word;
      met = λ met.
          let h = was_met o is met in
          record {
            looked = elim h.looked [
              | inl past ↦ inl past
              | inr so ↦ inr (looked so)
            ];
            cause = elim h.cause [
              | inl named ↦ inl (subst (λ x. IsNamed e words x) (sym arena) named)
              | inr has ↦ inr has
            ];
          };
    }

    -- it weighs no more, if it has looked as before
    pub owner_less : o'.looked ≡ o.looked → WeighsNoMore (owning_port (ports k) o')
    owner_less same =
        let few = credit_owned o o' is in
        within (owning_port (ports k) o') (omega (arith, few))
        (subst (λ (d : Option OwnedArena). gives_at (ports k).control.entering (ports k).control.past (Some o') ≤ gives_at (ports k).control.entering (ports k).control.past d) (sym is)
        (gives_looked (ports k).control.entering (ports k).control.past o o' same))

    -- where it stands in the current epoch
    pub owner_here : (ports k).control.entering ≡ Stands → here.epoch ≡ now → WeighsNoMore (owning_port (ports k) o')
    owner_here stands even =
        let at = stands_at e words ports b w k below stands in
        let low : slice_index words (at_word k) < entering_bit = subst (λ v. v < entering_bit) (sym at) low_here in
        let epoch : slice_index words (at_word k) / arena_limit ≡ now = ap (λ v. v / arena_limit) at ∙ site_epoch e here w.plan.arenas site_here ∙ even in
        let before = weigh_here e.ports (slice_index words (at_word k)) now (since k) (credit t k (ports k).control.owned) (gives_left (ports k).control) low epoch in
        let after = weigh_here e.ports (slice_index words (at_word k)) now (since k) (credit t k (Some o')) (gives_left (owning_port (ports k) o').control) low epoch in
        let few = credit_owned o o' is in
        omega (arith, before, after, few)

  -- a port that enters loads the current site
  module _ (entering : (ports k).control.entering ≡ StoredEntering) (c : Site) where
    abbrev loaded_port : Port
    loaded_port = record (ports k) { control = record (ports k).control { entering = Loaded c } }

    pub loads : Keeps words loaded_port
    loads = record {
      at = λ q low. refl;
      own = λ x low. refl;
      owned = λ o is. (o, is, refl);
      entering_words = held_within e words ports b w t s k below;
      met = λ is. some_to (HasMetPort e words (ports k).control t k) (HasMetPort e words loaded_port.control t k) (ports k).control.owned (λ o _ h. record { looked = h.looked; cause = h.cause }) (s.met k below is);
    }

    pub loads_less : WeighsNoMore loaded_port
    loads_less = within loaded_port (omega arith) (subst (λ (n : Entering). 1 ≤ gives_at n (ports k).control.past (ports k).control.owned) (sym entering) (omega arith))

  -- an owner publishes
  module _ (o : OwnedArena) (is : (ports k).control.owned ≡ Some o) where
    abbrev published_word : ℕ
    published_word = if slice_index words current_word == packed here then packed (next_site here o.arena) else slice_index words current_word

    pub publishes : Keeps (slice_set words current_word published_word) (having_published (ports k) o)
    publishes = record {
      at = λ q low. get_or-set_other words current_word (at_word q) published_word 0 (omega arith);
      own = λ x low. get_or-set_other words current_word (own_word e x) published_word 0 (omega arith);
      owned = λ d was. (resting_arena o, refl, ap (λ (f : OwnedArena). f.arena) (some_same (sym is ∙ was)));
      entering_words = tt;
      met = λ met. record { looked = inl refl; cause = (was_met o is met).cause };
    }

    pub publishes_less : WeighsNoMore (having_published (ports k) o)
    publishes_less =
        let few = credit_owned o (resting_arena o) is in
        let owned = gives_owned (ports k).control.entering o (resting_arena o) in
        let passed = gives_passed (ports k).control.entering (ports k).control.past (Some o) in
        within (having_published (ports k) o) (omega (arith, few))
        (subst (λ (d : Option OwnedArena). gives_at (ports k).control.entering true (Some (resting_arena o)) ≤ gives_at (ports k).control.entering (ports k).control.past d) (sym is) (omega (arith, owned, passed)))

  -- a port stores its entering word
  module _ (stands : (ports k).control.entering ≡ Stands) (past : (ports k).control.past ≡ true) where
    abbrev stores_entering_word : Port
    stores_entering_word = record (ports k) { control = record (ports k).control { entering = StoredEntering } }

    abbrev entering_stored : List ℕ
    entering_stored = slice_set words (at_word k) (entering_from here)

    entering_other : (q : ℕ) → q ≢ k → slice_index entering_stored (at_word q) ≡ slice_index words (at_word q)
    entering_other q ne = get_or-set_other words (at_word k) (at_word q) (entering_from here) 0 (omega (arith, ne))

    entering_same : slice_index entering_stored (at_word k) ≡ entering_from here
    entering_same = let count = w.count in get_or-set_same words (at_word k) (entering_from here) 0 (omega (arith, count, below))

    entering_own : (x : ℕ) → x < e.arenas → slice_index entering_stored (own_word e x) ≡ slice_index words (own_word e x)
    entering_own x low = get_or-set_other words (at_word k) (own_word e x) (entering_from here) 0 (omega (arith, below))

    word_was : slice_index words (at_word k) ≡ packed here
    word_was = stands_at e words ports b w k below stands

    -- the entering word names the arena that the word named
    entering_alike : NameAsBefore e words entering_stored
    entering_alike q low = elim (eqb_tells q k) [
      | inl same ↦ subst (λ i. slice_index entering_stored (at_word i) % arena_limit ≡ slice_index words (at_word i) % arena_limit) (sym same.1)
          (let is = entering_same in let was = word_was in omega (arith, is, was))
      | inr ne ↦ ap (λ v. v % arena_limit) (entering_other q ne.1)
    ]

    -- the tally is kept
    tally_entering : KeepsTally e entering_stored (put k stores_entering_word ports) t
    tally_entering = record {
      owners = owners_stay e words entering_stored ports k stores_entering_word entering_own (λ o is. (o, is, refl)) s.owners;
      taken = s.taken;
      entering_words = λ q low. put_all (λ i (r : Port). i < e.ports → IfSome r.control.owned (λ o. IfSome o.entering_word (λ d. (slice_index entering_stored (at_word o.clean) ≡ entering_from d) ⊎ HasSeenArrival t i))) k stores_entering_word ports q
          (λ _ _. held k below) (λ _ low. held q low) low;
      met = λ q low. put_all (λ i (r : Port). i < e.ports → t.met i ≡ true → IfSome r.control.owned (HasMetPort e entering_stored r.control t i)) k stores_entering_word ports q
          (λ _ _ is. some_to (HasMetPort e words (ports k).control t k) (HasMetPort e entering_stored stores_entering_word.control t k) (ports k).control.owned
          (λ o _ h. let there = met_stays e words entering_stored (ports k).control t k o entering_alike h in record { looked = there.looked; cause = there.cause }) (s.met k below is))
          (λ _ low is. some_to (HasMetPort e words (ports q).control t q) (HasMetPort e entering_stored (ports q).control t q) (ports q).control.owned (λ o _. met_stays e words entering_stored (ports q).control t q o entering_alike)
          (s.met q low is)) low;
    }
      where
        held : (q : ℕ) → q < e.ports → IfSome (ports q).control.owned (λ o. IfSome o.entering_word (λ d. (slice_index entering_stored (at_word o.clean) ≡ entering_from d) ⊎ HasSeenArrival t q))
        held q low = some_to (λ (o : OwnedArena). IfSome o.entering_word (IsHeld e words t q o)) (λ (o : OwnedArena). IfSome o.entering_word (λ d. (slice_index entering_stored (at_word o.clean) ≡ entering_from d) ⊎ HasSeenArrival t q))
            (ports q).control.owned (λ o _. some_to (IsHeld e words t q o) (λ d. (slice_index entering_stored (at_word o.clean) ≡ entering_from d) ⊎ HasSeenArrival t q) o.entering_word (λ d _ h. elim h [
              | inl is ↦ elim (eqb_tells o.clean k) [
                | inl same ↦ absurd (not_entering_word e here d w.plan.arenas site_here (sym word_was ∙ ap (λ i. slice_index words (at_word i)) (sym same.1) ∙ is.1))
                | inr ne ↦ inl (entering_other o.clean ne.1 ∙ is.1)
              ]
              | inr has ↦ inr has
            ])) (held_within e words ports b w t s q low)

    -- no port weighs more: the one that stores its entering word stood in an earlier epoch
    weights_entering : (q : ℕ) → q < e.ports → weight e entering_stored (put k stores_entering_word ports) now (put k now since) t q ≤ weight e words ports now since t q
    weights_entering q low = elim (eqb_tells q k) [
      | inl same ↦ subst (λ i. weight e entering_stored (put k stores_entering_word ports) now (put k now since) t i ≤ weight e words ports now since t i) (sym same.1) own_weight
      | inr ne ↦
          subst (λ v. weigh e.ports v now (put k now since q) (credit t q (put k stores_entering_word ports q).control.owned) (gives_left (put k stores_entering_word ports q).control) ≤ weight e words ports now since t q)
          (sym (entering_other q ne.1))
          (subst (λ u. weigh e.ports (slice_index words (at_word q)) now u (credit t q (put k stores_entering_word ports q).control.owned) (gives_left (put k stores_entering_word ports q).control) ≤ weight e words ports now since t q)
          (sym (put_other k now since q ne.1))
          (subst (λ (r : Port). weight_as e words r now since t q ≤ weight e words ports now since t q) (sym (put_other k stores_entering_word ports q ne.1)) (omega arith)))
    ]
      where
        own_weight : weight e entering_stored (put k stores_entering_word ports) now (put k now since) t k ≤ weight e words ports now since t k
        own_weight =
            let c : Control = (put k stores_entering_word ports k).control in
            let is = entering_same in
            let low = low_here in
            let was = word_was in
            let epoch = site_epoch e here w.plan.arenas site_here in
            let old = w.control.past k below past in
            let since_now = put_same k now since in
            let after = weigh_not_since e.ports (slice_index entering_stored (at_word k)) now (put k now since k) (credit t k c.owned) (gives_left c) (omega (arith, is)) (omega (arith, since_now)) in
            let before = weigh_away e.ports (slice_index words (at_word k)) now (since k) (credit t k (ports k).control.owned) (gives_left (ports k).control) (omega (arith, was, low))
            (λ even. let same = ap (λ v. v / arena_limit) was in omega (arith, even, same, epoch, old)) in
            omega (arith, after, before)

    -- so the step counts
    pub counts_entering : (c : Beside) → Goal StoresEnteringWord entering_stored stores_entering_word c (put k now since)
    counts_entering c = record {
      there = t;
      keeps = tally_entering;
      grows = omega arith;
      met = λ q. refl;
      less = λ same. subst (λ n. t.freed + may_free e entering_stored (put k stores_entering_word ports) n (put k now since) t ≤ t.freed + may_free e words ports now since t) (sym same)
          (let all = sum_within (weight e words ports now since t) (weight e entering_stored (put k stores_entering_word ports) now (put k now since) t) e.ports weights_entering in omega (arith, all));
      stays = λ _ q x _ low h. use_stays e words entering_stored q x entering_alike (entering_own x low) h;
      leaves = tt;
    }
