-- A port takes an arena and gives it back, finds the others elsewhere, and loads their entering words.
use Rattle.partial_epochs.proofs.{Common.{ℕ, ◌≡◌, ◌≢◌, ◌+◌, ◌<◌, ◌≤◌, ◌==◌, ◌⊎◌, Bool, true, false, if◌then◌else◌, Option, Some, None, IfSome, List, length, slice_index, slice_set, refl, sym, ap, subst, ◌∙◌, inl, inr, arith, eqb_tells, get_or-set_same, get_or-set_other, length-set, put, Plan, Site, IsSite, at_word, control_size, control_words, current_word, entering_bit, entering_from, own_word, packed, arena_limit, Control, Entering, OwnedArena, Port, Stands, StoredEntering, Loaded, IsSiteWord, IsEarlier, IsOut, IsOwner, LawfulControl, MayPut, Beside, IsSetting, IsStanding, LawfulEpochs, controls, numbers, site_now, GivesStayLawful, EnteringWordsAreLoaded, OthersAreElsewhere, OwnersLookAway, TakesStayLawful, at_next_port, having_given, having_loaded, having_put, just_taken, owning_port, having_passed}, Entering.{control_lifted, current_is, cw_at, cw_long, not_entering_word}, Lists.{put_all, set_of}, Owning.knows_more, Offsets.packed_arena, Present.same_site}

-- the owner word of an arena that nobody owns is set
module _ (e : Plan) (words : List ℕ) (cs : ℕ → Control) (now : Site) (holds : ℕ → Option ℕ) (w : LawfulControl e words cs now holds) (x v : ℕ)
    (nobody : (q : ℕ) (o : OwnedArena) → q < e.ports → (cs q).owned ≡ Some o → o.arena ≢ x) where
  abbrev words' : List ℕ
  words' = slice_set words (own_word e x) v

  other : (i : ℕ) → i ≢ own_word e x → slice_index words' i ≡ slice_index words i
  other i ne = get_or-set_other words (own_word e x) i v 0 ne

  at_same : (q : ℕ) → q < e.ports → slice_index words' (at_word q) ≡ slice_index words (at_word q)
  at_same q low = other (at_word q) (omega (arith, low))

  out_then : (y q : ℕ) → q < e.ports → IsOut e words cs y q → IsOut e words' cs y q
  out_then y q low h = record {
    without_bit = λ c site at. h.without_bit c site (sym (at_same q low) ∙ at);
    loaded = λ at. h.loaded (sym (at_same q low) ∙ at);
    put = λ p a inside may at. h.put p a inside may (sym (at_same q low) ∙ at);
  }

  at_then : (q : ℕ) (d : Site) (t : Entering) → q < e.ports → IsSiteWord e words q d t → IsSiteWord e words' q d t
  at_then q d Stands low h = at_same q low ∙ h
  at_then q d StoredEntering low (inl h) = inl (at_same q low ∙ h)
  at_then q d StoredEntering low (inr h) = inr (h.0, h.1, at_same q low ∙ h.2, h.3)
  at_then q d (Loaded f) low (inl h) = inl (at_same q low ∙ h)
  at_then q d (Loaded f) low (inr h) = inr (h.0, h.1, at_same q low ∙ h.2, h.3)

  owner_then : (q : ℕ) (o : OwnedArena) → o.arena ≢ x → IsOwner e words cs now holds q o → IsOwner e words' cs now holds q o
  owner_then q o ne h = record {
    stands = h.stands;
    arena = h.arena;
    apart = h.apart;
    word = other (own_word e o.arena) (omega (arith, ne)) ∙ h.word;
    looked = h.looked;
    order = h.order;
    few = h.few;
    out = λ p less low ne. out_then o.arena p low (h.out p less low ne);
    older = h.older;
    held = h.held;
    all = h.all;
    none = h.none;
  }

  owner_of : (q : ℕ) (t : Option OwnedArena) → q < e.ports → (cs q).owned ≡ t → IfSome t (IsOwner e words cs now holds q) → IfSome t (IsOwner e words' cs now holds q)
  owner_of q None low is h = tt
  owner_of q (Some o) low is h = owner_then q o (nobody q o low is) h

  pub own_word_set : LawfulControl e words' cs now holds
  own_word_set = record {
    current = other current_word (omega arith) ∙ w.current;
    site = w.site;
    present = w.present;
    earlier = w.earlier;
    within = w.within;
    sites = w.sites;
    at = λ q low. at_then q (cs q).here (cs q).entering low (w.at q low);
    old = w.old;
    past = w.past;
    stands = λ q d low site at. w.stands q d low site (sym (at_same q low) ∙ at);
    comes = λ q d low is at. w.comes q d low is (sym (at_same q low) ∙ at);
    owners = λ q low. owner_of q (cs q).owned low refl (w.owners q low);
  }

-- a port takes an arena
module _ (e : Plan) (words : List ℕ) (cs : ℕ → Control) (now : Site) (holds : ℕ → Option ℕ) (w : LawfulControl e words cs now holds) (k x : ℕ) (below : k < e.ports)
    (long : length words ≡ control_size e) (stands : (cs k).entering ≡ Stands) (inside : x < e.arenas) (apart : (cs k).here.arena ≢ x)
    (zero_there : slice_index words (own_word e x) ≡ 0) where
  nobody : (q : ℕ) (o : OwnedArena) → q < e.ports → (cs q).owned ≡ Some o → o.arena ≢ x
  nobody q o low is same =
      let own : IsOwner e words cs now holds q o = subst (λ (t : Option OwnedArena). IfSome t (IsOwner e words cs now holds q)) is (w.owners q low) in
      let word = own.word in
      let there = ap (λ y. slice_index words (own_word e y)) same in
      omega (arith, word, there, zero_there)

  abbrev c : Control
  c = record (cs k) { owned = Some (just_taken x) }

  no_puts : (j : ℕ) (a : Site) → MayPut c j a → ⊥
  no_puts j a may =
      let same : just_taken x ≡ may.owned = cc in
      let bad : None ≡ Some a = ap (λ (t : OwnedArena). t.entering_word) same ∙ may.entering_word in
      cc

  abbrev taken_words : List ℕ
  taken_words = slice_set words (own_word e x) (k + 1)

  pub taken_on : LawfulControl e taken_words (put k c cs) now holds
  taken_on = knows_more e taken_words cs now holds (own_word_set e words cs now holds w x (k + 1) nobody) k below c refl refl (w.past k below) (λ j a may. absurd (no_puts j a may))
      (record {
        stands = stands;
        arena = inside;
        apart = apart;
        word = get_or-set_same words (own_word e x) (k + 1) 0 (omega (arith, long, inside));
        looked = λ is. absurd cc;
        order = λ some. absurd (omega (arith, some));
        few = omega arith;
        out = λ q less low ne. absurd (omega (arith, less));
        older = λ is. absurd cc;
        held = tt;
        all = λ some. absurd (omega (arith, some));
        none = λ some. absurd (omega (arith, some));
      })

-- a port gives its arena back
module _ (e : Plan) (words : List ℕ) (cs : ℕ → Control) (now : Site) (holds : ℕ → Option ℕ) (w : LawfulControl e words cs now holds) (k : ℕ) (below : k < e.ports) (o : OwnedArena)
    (owned : (cs k).owned ≡ Some o) where
  abbrev freed : Control
  freed = record (cs k) { owned = None }

  own : IsOwner e words cs now holds k o
  own = subst (λ (t : Option OwnedArena). IfSome t (IsOwner e words cs now holds k)) owned (w.owners k below)

  no_puts_freed : (j : ℕ) (a : Site) → MayPut freed j a → ⊥
  no_puts_freed j a may = let bad : None ≡ Some may.owned = may.is in cc

  freed_on : LawfulControl e words (put k freed cs) now holds
  freed_on = knows_more e words cs now holds w k below freed refl refl (w.past k below) (λ j a may. absurd (no_puts_freed j a may)) tt

  others_own : (q : ℕ) (t : OwnedArena) → q < e.ports → (put k freed cs q).owned ≡ Some t → t.arena ≢ o.arena
  others_own q t low = put_all (λ i (d : Control). i < e.ports → d.owned ≡ Some t → t.arena ≢ o.arena) k freed cs q
      (λ _ _ is. let bad : None ≡ Some t = is in cc)
      (λ ne low is same.
      let theirs : IsOwner e words cs now holds q t = subst (λ (u : Option OwnedArena). IfSome u (IsOwner e words cs now holds q)) is (w.owners q low) in
      let mine = own.word in
      let word = theirs.word in
      let there = ap (λ y. slice_index words (own_word e y)) same in
      ne (omega (arith, word, mine, there))) low

  pub given_on : LawfulControl e (slice_set words (own_word e o.arena) 0) (put k freed cs) now holds
  given_on = own_word_set e words (put k freed cs) now holds freed_on o.arena 0 others_own

-- a port that owns an arena finds another one elsewhere, or loads its entering word
module _ (e : Plan) (words : List ℕ) (cs : ℕ → Control) (now : Site) (holds : ℕ → Option ℕ) (w : LawfulControl e words cs now holds) (k : ℕ) (below : k < e.ports) (o : OwnedArena)
    (few : e.arenas ≤ arena_limit) (owned : (cs k).owned ≡ Some o) (within : o.clean < e.ports) where
  own_here : IsOwner e words cs now holds k o
  own_here = subst (λ (t : Option OwnedArena). IfSome t (IsOwner e words cs now holds k)) owned (w.owners k below)

  module _ (looked : o.looked ≡ true) (none : o.set ≡ 0) (d : Site) (site : IsSite e d) (there : slice_index words (at_word o.clean) ≡ packed d) (apart : d.arena ≢ o.arena) where
    abbrev done : Control
    done = record (cs k) { owned = Some (at_next_port o) }

    no_puts_done : (j : ℕ) (a : Site) → MayPut done j a → ⊥
    no_puts_done j a may =
        let same : at_next_port o ≡ may.owned = cc in
        let bad : None ≡ Some a = ap (λ (t : OwnedArena). t.entering_word) same ∙ may.entering_word in
        cc

    is_d : (c : Site) → IsSite e c → packed d ≡ packed c → d ≡ c
    is_d c is same = let both = packed_arena e d c few site.arena is.arena same in same_site d c both.0 both.1

    out_clean : IsOut e words cs o.arena o.clean
    out_clean = record {
      without_bit = λ c is at. subst (λ (f : Site). f.arena ≢ o.arena) (is_d c is (sym there ∙ at)) apart;
      loaded = λ at. absurd (not_entering_word e d (cs o.clean).here few site (sym there ∙ at));
      put = λ p a low may at. absurd (not_entering_word e d a few site (sym there ∙ at));
    }

    pub elsewhere_on : LawfulControl e words (put k done cs) now holds
    elsewhere_on = knows_more e words cs now holds w k below done refl refl (w.past k below) (λ j a may. absurd (no_puts_done j a may))
        (record {
          stands = own_here.stands;
          arena = own_here.arena;
          apart = own_here.apart;
          word = own_here.word;
          looked = own_here.looked;
          order = λ _. looked;
          few = omega (arith, within);
          out = λ p less low ne. last p less low ne (eqb_tells p o.clean);
          older = λ _. tt;
          held = tt;
          all = λ some. absurd (omega (arith, some, none));
          none = λ some. absurd (omega (arith, some, none));
        })
      where
        last : (p : ℕ) → p < o.clean + 1 → p < e.ports → p ≢ k → (((p == o.clean) ≡ true) × (p ≡ o.clean)) ⊎ (((p == o.clean) ≡ false) × (p ≢ o.clean)) → IsOut e words cs o.arena p
        last p less low ne (inl same) = subst (IsOut e words cs o.arena) (sym same.1) out_clean
        last p less low ne (inr apart) = let other = apart.1 in own_here.out p (omega (arith, less, other)) low ne

  -- a word with the entering bit is that of a port that is entering
  entering_is : (t : Entering) → (cs o.clean).entering ≡ t → entering_bit ≤ slice_index words (at_word o.clean) → IsSiteWord e words o.clean (cs o.clean).here t →
      (slice_index words (at_word o.clean) ≡ entering_from (cs o.clean).here) × IsEarlier (cs o.clean).here (cs o.clean).here t
  entering_is Stands is high h = let site = w.sites o.clean within in let r = site.epoch in let x = site.arena in absurd (omega (arith, high, h, few, r, x))
  entering_is StoredEntering is high (inl h) = (h, omega arith)
  entering_is (Loaded f) is high (inl h) = (h, omega arith)
  entering_is StoredEntering is high (inr h) = let site = h.1 in let r = site.epoch in let x = site.arena in let at = h.2 in absurd (omega (arith, high, at, few, r, x))
  entering_is (Loaded f) is high (inr h) = let site = h.1 in let r = site.epoch in let x = site.arena in let at = h.2 in absurd (omega (arith, high, at, few, r, x))

  module _ (high : entering_bit ≤ slice_index words (at_word o.clean)) where
    abbrev loaded_owned : OwnedArena
    loaded_owned = having_loaded o (cs o.clean).here

    abbrev loading : Control
    loading = record (cs k) { owned = Some loaded_owned }

    pub found_entering : slice_index words (at_word o.clean) ≡ entering_from (cs o.clean).here
    found_entering = (entering_is (cs o.clean).entering refl high (w.at o.clean within)).0

    no_puts_loading : (j : ℕ) (a : Site) → MayPut loading j a → ⊥
    no_puts_loading j a may =
        let same : loaded_owned ≡ may.owned = cc in
        let bad : false ≡ true = ap (λ (t : OwnedArena). t.again) same ∙ may.again in
        cc

    pub loading_on : LawfulControl e words (put k loading cs) now holds
    loading_on = knows_more e words cs now holds w k below loading refl refl (w.past k below) (λ j a may. absurd (no_puts_loading j a may))
        (record {
          stands = own_here.stands;
          arena = own_here.arena;
          apart = own_here.apart;
          word = own_here.word;
          looked = own_here.looked;
          order = own_here.order;
          few = own_here.few;
          out = own_here.out;
          older = λ is. absurd cc;
          held = (w.sites o.clean within, (entering_is (cs o.clean).entering refl high (w.at o.clean within)).1);
          all = own_here.all;
          none = own_here.none;
        })

-- a control word is set, and port k becomes p'
module _ (e : Plan) (words : List ℕ) (ports : ℕ → Port) (b : Beside) (k i v : ℕ) (p' : Port) (w : LawfulEpochs e words ports b) (below : k < e.ports) (inside : i < control_size e)
    (later : 0 < i) where
  abbrev word_set : List ℕ
  word_set = slice_set words i v

  set_control : control_words e word_set ≡ slice_set (control_words e words) i v
  set_control =
      let count = w.count in
      let zero_here : 0 + i ≡ i = omega arith in
      set_of (λ j. slice_index words j) (λ j. slice_index word_set j) 0 (control_size e) i inside (λ j ne. get_or-set_other words i j v 0 (omega (arith, ne)))
      ∙ ap (λ j. slice_set (control_words e words) i (slice_index word_set j)) zero_here
      ∙ ap (λ u. slice_set (control_words e words) i u) (get_or-set_same words i v 0 (omega (arith, count, inside)))

  pub word_lifted : LawfulControl e (slice_set (control_words e words) i v) (put k p'.control (controls ports)) (site_now b) (numbers b) → IfSome p'.control.owned (IsSetting e word_set b p') →
      (p'.control.entering ≡ Stands → IsStanding b k p') → (ports k).control.here.epoch ≤ p'.control.here.epoch → LawfulEpochs e word_set (put k p' ports) b
  word_lifted control settled stand up =
      control_lifted e words word_set (λ j from. get_or-set_other words i j v 0 (omega (arith, from, inside))) ports b k p' w (length-set words i v)
      (get_or-set_other words i current_word v 0 (omega (arith, later))) settled
      (subst (λ (l : List ℕ). LawfulControl e l (put k p'.control (controls ports)) (site_now b) (numbers b)) (sym set_control) control) stand up below

-- a port that stands goes on standing, with another arena of its own
still : (b : Beside) (k : ℕ) (p : Port) (t : Option OwnedArena) → IsStanding b k p → IsStanding b k (record p { control = record p.control { owned = t } })
still b k p t s = record { epoch = s.epoch; is = s.is; before = s.before; part = s.part; passed = s.passed; over = s.over }

nothing_set : (e : Plan) (words : List ℕ) (b : Beside) (p : Port) (o : OwnedArena) → o.set ≡ 0 → IsSetting e words b p o
nothing_set e words b p o none = record { few = omega (arith, none); sealed = λ some. absurd (omega (arith, some, none)); each = λ at i less _. absurd (omega (arith, less, none)); cleared = λ l less set. absurd (omega (arith, less, set, none)) }

owner_is : (e : Plan) (words : List ℕ) (ports : ℕ → Port) (b : Beside) (k : ℕ) (o : OwnedArena) → LawfulEpochs e words ports b → k < e.ports → (ports k).control.owned ≡ Some o →
    IsOwner e (control_words e words) (controls ports) (site_now b) (numbers b) k o
owner_is e words ports b k o w below owned = subst (λ (t : Option OwnedArena). IfSome t (IsOwner e (control_words e words) (controls ports) (site_now b) (numbers b) k)) owned (w.control.owners k below)

setting_is : (e : Plan) (words : List ℕ) (ports : ℕ → Port) (b : Beside) (k : ℕ) (o : OwnedArena) → LawfulEpochs e words ports b → k < e.ports → (ports k).control.owned ≡ Some o →
    IsSetting e words b (ports k) o
setting_is e words ports b k o w below owned = subst (λ (t : Option OwnedArena). IfSome t (IsSetting e words b (ports k))) owned (w.setting k below)

pub takes_stay_lawful : TakesStayLawful
takes_stay_lawful e words ports b k x w below stands free inside apart empty =
    let at = cw_at e words ports b k (ports k) 0 w below (own_word e x) (omega (arith, inside)) in
    let won : (slice_index words (own_word e x) == 0) ≡ true = (elim (eqb_tells (slice_index words (own_word e x)) 0) [ inl t ↦ t.0 | inr f ↦ absurd (f.1 empty) ]) in
    let p' : Port = owning_port (ports k) (just_taken x) in
    subst (λ (t : Bool). LawfulEpochs e (slice_set words (own_word e x) (if t then k + 1 else slice_index words (own_word e x))) (put k p' ports) b) (sym won)
    (word_lifted e words ports b k (own_word e x) (k + 1) p' w below (omega (arith, inside)) (omega arith)
    (taken_on e (control_words e words) (controls ports) (site_now b) (numbers b) w.control k x below (cw_long e words) stands inside apart (at ∙ empty))
    (nothing_set e (slice_set words (own_word e x) (k + 1)) b p' (just_taken x) refl) (λ _. still b k (ports k) (Some (just_taken x)) (w.standing k below stands)) (omega arith))

pub gives_stay_lawful : GivesStayLawful
gives_stay_lawful e words ports b k o w below owned =
    let own = owner_is e words ports b k o w below owned in
    word_lifted e words ports b k (own_word e o.arena) 0 (having_given (ports k)) w below (let x = own.arena in omega (arith, x)) (omega arith)
    (given_on e (control_words e words) (controls ports) (site_now b) (numbers b) w.control k below o owned) tt
    (λ _. still b k (ports k) None (w.standing k below own.stands)) (omega arith)

-- the words stay, and port k changes what it knows of its arena
module _ (e : Plan) (words : List ℕ) (ports : ℕ → Port) (b : Beside) (k : ℕ) (p' : Port) (w : LawfulEpochs e words ports b) (below : k < e.ports) where
  pub known_lifted : LawfulControl e (control_words e words) (put k p'.control (controls ports)) (site_now b) (numbers b) → IfSome p'.control.owned (IsSetting e words b p') →
      (p'.control.entering ≡ Stands → IsStanding b k p') → (ports k).control.here.epoch ≤ p'.control.here.epoch → LawfulEpochs e words (put k p' ports) b
  known_lifted control settled stand up = control_lifted e words words (λ i from. refl) ports b k p' w refl refl settled control stand up below

pub others_are_elsewhere : OthersAreElsewhere
others_are_elsewhere e words ports b k o d w below owned looked none within site there apart =
    let own = owner_is e words ports b k o w below owned in
    let at = cw_at e words ports b k (ports k) 0 w below (at_word o.clean) (omega (arith, within)) in
    known_lifted e words ports b k (having_put (ports k) o) w below
    (elsewhere_on e (control_words e words) (controls ports) (site_now b) (numbers b) w.control k below o w.plan.arenas owned within looked none d site (at ∙ there) apart)
    (nothing_set e words b (having_put (ports k) o) (at_next_port o) none) (λ _. still b k (ports k) (Some (at_next_port o)) (w.standing k below own.stands)) (omega arith)

pub entering_words_are_loaded : EnteringWordsAreLoaded
entering_words_are_loaded e words ports b k o w below owned within high =
    let own = owner_is e words ports b k o w below owned in
    let at = cw_at e words ports b k (ports k) 0 w below (at_word o.clean) (omega (arith, within)) in
    let raised : entering_bit ≤ slice_index (control_words e words) (at_word o.clean) = omega (arith, high, at) in
    let s = setting_is e words ports b k o w below owned in
    let n : OwnedArena = having_loaded o (ports o.clean).control.here in (
      sym at ∙ found_entering e (control_words e words) (controls ports) (site_now b) (numbers b) w.control k below o w.plan.arenas owned within raised,
      known_lifted e words ports b k (owning_port (ports k) n) w below
          (loading_on e (control_words e words) (controls ports) (site_now b) (numbers b) w.control k below o w.plan.arenas owned within raised)
          (record { few = s.few; sealed = s.sealed; each = s.each; cleared = s.cleared }) (λ _. still b k (ports k) (Some n) (w.standing k below own.stands)) (omega arith),
    )

pub owners_look_away : OwnersLookAway
owners_look_away e words ports b k o w below owned other =
    let own = owner_is e words ports b k o w below owned in
    let s = w.standing k below own.stands in
    let t = w.setting k below in
    let at : slice_index (control_words e words) (at_word k) ≡ packed (ports k).control.here = subst (IsSiteWord e (control_words e words) k (ports k).control.here) own.stands (w.control.at k below) in
    let c : Control = record (ports k).control { past = true } in
    let earlier : (ports k).control.here.epoch < length b.before = (elim (w.control.earlier (ports k).control.here.arena (ports k).control.here.epoch
    (w.control.stands k (ports k).control.here below (w.control.sites k below) at)) [
      | inl less ↦ less
      | inr same ↦ absurd (other (current_is e words ports b k w below ∙ ap packed (sym (same_site (ports k).control.here (site_now b) same.0 same.1))))
    ]) in
    known_lifted e words ports b k (having_passed (ports k)) w below
    (knows_more e (control_words e words) (controls ports) (site_now b) (numbers b) w.control k below c refl refl (λ _. earlier)
    (λ j a may. record { owned = may.owned; is = may.is; port = may.port; entering_word = may.entering_word; again = may.again })
    (w.control.owners k below))
    (passed (ports k).control.owned refl t) (λ _. record { epoch = s.epoch; is = s.is; before = s.before; part = s.part; passed = s.passed; over = s.over }) (omega arith)
  where
    passed : (u : Option OwnedArena) → (ports k).control.owned ≡ u → IfSome u (IsSetting e words b (ports k)) → IfSome u (IsSetting e words b (having_passed (ports k)))
    passed None is h = tt
    passed (Some v) is h = record { few = h.few; sealed = h.sealed; each = h.each; cleared = h.cleared }
