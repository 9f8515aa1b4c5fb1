-- The steps of a change of epoch, as its code asks for them.
use Rattle.partial_long_lived.proofs.{Common.{ℕ, ◌≡◌, ◌≢◌, ◌+◌, ◌-◌, ◌*◌, ◌%◌, ◌^◌, ◌<◌, ◌≤◌, ◌==◌, Option, Some, IfSome, List, [], ◌∷◌, sym, ap, subst, ◌∙◌, inl, inr, arith, either, Me, Allows, TableId, first_free, list_base, opening_word, Site, Plan, arena_limit, at_word, base, entering_bit, entering_from, own_word, packed, seal, set_word, OwnedArena, Stands, next_site, below_whole, set_index, About, Stand, IsRuleKept, SeatedPort, one_of, plan_of, bare, shape_plan, SeatGoes, IsOne, tells, IsHeld, port_at, SeatGives, LoadsPort, PassesSealed, SeatPublishes, PutsPort, Seals, Sets, Takes, unpacked, IsIdle, IsCarriedStamp, IsRight, IsFixedWord, MayPutPort, OfOwned, Owns, PutsBy, SetsLists, SetsNext, TakesBy, HasSetWords, initial_words, slot_counter, FindsClear, after_value, after_values, value_word, initial_record, SetsValue, FoundValue, Searches, GivesBack, HasPassedArenas, BeginsSearch, BeginsPass, None, true, false, ◌⊎◌, FindsSet}, Changes.{may_give, may_load_port, may_pass, may_put, may_seal, may_take}, Sets.{may_find_clear, may_set_over_lists, may_set_same, may_set_stamp, may_set_value, value_at}, Publishes.may_publish, Sights.may_find_set, Standing.{base_is, site_is}, Searching.{may_begin_pass, may_begin_search}, Working.found_other}
use Rattle.partial_long_lived.proofs.Control as Control

-- a step by the arena that the port owns
of_owned : (about : About) (slots id i : ℕ) (f : ℕ → ℕ) (me : Me (Unit {0}) (List SeatedPort)) (R : OwnedArena → SeatedPort → ℕ → SeatedPort → Type 0) (o : OwnedArena) →
    (one_of me.0).port.control.owned ≡ Some o →
    Allows (IsRuleKept about) slots id me i f (tells (R o) me) → Allows (IsRuleKept about) slots id me i f (tells (OfOwned R) me)
of_owned about slots id i f me R o is asked =
    subst (λ (t : Option OwnedArena). Allows (IsRuleKept about) slots id me i f (λ a me'. IsOne me' × SeatGoes (one_of me.0) (one_of me'.0) × IfSome t (λ o. R o (one_of me.0) a (one_of me'.0))))
    (sym is) asked

-- a port that owns no arena may look
idle_looks : (about : About) (s : Stand) → IsIdle s → Control.MayLook about (port_at s).port
idle_looks about s free =
    (free.stands, subst (λ (t : Option OwnedArena). IfSome t (λ o. (o.entering_word ≡ None) ⊎ (o.clean < about.ports))) (sym free.free) tt)

module _ (table : TableId) (about : About) (s : Stand) (h : IsHeld table about s) where
  abbrev x : SeatedPort
  x = port_at s

  abbrev e : Plan
  e = plan_of about

  -- how many ports there are
  pub ports_are : s.shape.ports ≡ about.ports
  ports_are = sym (ap (λ (e : Plan). e.ports) h.shape)

  pub arenas_are : s.shape.arenas ≡ about.arenas
  arenas_are = sym (ap (λ (e : Plan). e.arenas) h.shape)

  module _ (stands : x.port.control.entering ≡ Stands) (more : s.passed < about.sizes.m) where
    left : x.port.passed < about.sizes.m
    left = subst (λ n. n < about.sizes.m) h.passed more

    pub pass_asked : (slots id i : ℕ) → i ≡ s.base + s.passed → Allows (IsRuleKept about) slots id s.seat.me i (λ n. n) (tells PassesSealed s.seat.me)
    pass_asked slots id i at =
        let here = base_is table about s h in
        let passed = h.passed in
        subst (λ i. Allows (IsRuleKept about) slots id s.seat.me i (λ n. n) (tells PassesSealed s.seat.me)) (sym (at ∙ omega (arith, here, passed)))
        (may_pass about slots id s.seat.me h.one h.own h.known stands left)

    pub seal_asked : (slots id i : ℕ) → i ≡ s.base + s.passed → Allows (IsRuleKept about) slots id s.seat.me i (λ n. (n + seal) % 2 ^ 64) (tells Seals s.seat.me)
    seal_asked slots id i at =
        let here = base_is table about s h in
        let passed = h.passed in
        subst (λ i. Allows (IsRuleKept about) slots id s.seat.me i (λ n. (n + seal) % 2 ^ 64) (tells Seals s.seat.me)) (sym (at ∙ omega (arith, here, passed)))
        (may_seal about slots id s.seat.me h.one h.own h.known stands left)

  -- the owner words
  pub own_is : (y w : ℕ) → w ≡ own_word (shape_plan s.shape bare) y → w ≡ own_word e y
  own_is y w is = is ∙ ap (λ n. 1 + n + y) ports_are

  pub own_there : (y w : ℕ) → y < about.arenas → w ≡ own_word (shape_plan s.shape bare) y → w < table.words
  own_there y w low is = let at = own_is y w is in let words = h.words in omega (arith, low, at, words)

  pub take_asked : (y : ℕ) → IsIdle s → y < about.arenas → s.arena ≢ y → Searches false y s → (slots id w v : ℕ) → w ≡ own_word (shape_plan s.shape bare) y → v ≡ 1 + s.number →
      Allows (IsRuleKept about) slots id s.seat.me w (λ n. either (n == 0) v n) (tells (TakesBy w) s.seat.me)
  take_asked y free low apart searches slots id w v word owner =
      let at = own_is y w word in
      let ports = ap (λ (a : About). a.ports) h.own in
      let number : v ≡ x.number + 1 = (let is = h.number in omega (arith, owner, is)) in
      let arena : w - (1 + x.about.ports) ≡ y = omega (arith, at, ports) in
      subst (λ i. Allows (IsRuleKept about) slots id s.seat.me w (λ n. either (n == 0) v n) (tells (Takes i) s.seat.me)) (sym arena)
      (subst (λ v. Allows (IsRuleKept about) slots id s.seat.me w (λ n. either (n == 0) v n) (tells (Takes y) s.seat.me)) (sym number)
      (subst (λ i. Allows (IsRuleKept about) slots id s.seat.me i (λ n. either (n == 0) (x.number + 1) n) (tells (Takes y) s.seat.me)) (sym at)
      (may_take about slots id s.seat.me h.one h.own h.known y free.stands free.free low (λ same. apart (h.arena ∙ same)) searches.past searches.met_is searches.passed)))

  pub give_asked : (y : ℕ) → Owns s y → (x.port.control.past ≡ true) ⊎ Searches true y s → (slots id w : ℕ) → w ≡ own_word (shape_plan s.shape bare) y →
      Allows (IsRuleKept about) slots id s.seat.me w (λ n. 0) (tells GivesBack s.seat.me)
  give_asked y owns cause slots id w word =
      let o = owns.owned in
      of_owned about slots id w (λ n. 0) s.seat.me SeatGives o owns.is
      (subst (λ i. Allows (IsRuleKept about) slots id s.seat.me i (λ n. 0) (tells (SeatGives o) s.seat.me)) (ap (own_word e) owns.arena ∙ sym (own_is y w word))
      (may_give about slots id s.seat.me h.one h.own h.known o owns.is
      (elim cause [
        | inl past ↦ inl past
        | inr met ↦ inr (met.past, met.met_is, subst (λ i. HasPassedArenas i x) (sym owns.arena) met.passed)
      ])))

  -- the looks of a search
  pub begin_search_asked : IsIdle s → (slots id : ℕ) → Allows (IsRuleKept about) slots id s.seat.me 0 (λ n. n) (tells BeginsSearch s.seat.me)
  begin_search_asked free slots id = may_begin_search about slots id s.seat.me h.one h.own h.known (idle_looks about s free)

  pub begin_pass_asked : IsIdle s → (slots id : ℕ) → Allows (IsRuleKept about) slots id s.seat.me 0 (λ n. n) (tells BeginsPass s.seat.me)
  begin_pass_asked free slots id =
      let twice = (s.shape.sized).twice in
      let ports = ports_are in
      let arenas = arenas_are in
      may_begin_pass about slots id s.seat.me h.one h.own h.known (idle_looks about s free) free.free (omega (arith, twice, ports, arenas))

  -- the words of ports
  pub port_there : (q : ℕ) → q < about.ports → 1 + q < table.words
  port_there q low = let words = h.words in omega (arith, low, words)

  pub load_port_asked : (y q : ℕ) → HasSetWords s y q 0 → q < about.ports → (slots id : ℕ) → Allows (IsRuleKept about) slots id s.seat.me (1 + q) (λ n. n) (tells (OfOwned LoadsPort) s.seat.me)
  load_port_asked y q works low slots id =
      let o = works.owned in
      of_owned about slots id (1 + q) (λ n. n) s.seat.me LoadsPort o works.is
      (subst (λ i. Allows (IsRuleKept about) slots id s.seat.me i (λ n. n) (tells (LoadsPort o) s.seat.me)) (ap at_word works.clean)
      (may_load_port about slots id s.seat.me h.one h.own h.known o works.is works.looked works.set (subst (λ n. n < about.ports) (sym works.clean) low)))

  pub put_asked : (y q a : ℕ) → MayPutPort s y q a → entering_bit ≤ a → q < about.ports → (slots id v : ℕ) → v ≡ packed (record { epoch = s.epoch; arena = s.arena }) →
      Allows (IsRuleKept about) slots id s.seat.me (1 + q) (λ n. either (n == a) v n) (tells (PutsBy a) s.seat.me)
  put_asked y q a may from low slots id v here =
      let holds = may.holds in
      let o = holds.owned in
      let m : Site = unpacked (a - entering_bit) in
      let named : entering_from m ≡ a = omega (arith, from) in
      let put : ℕ → OwnedArena → SeatedPort → ℕ → SeatedPort → Type 0 = λ w o. PutsPort o (unpacked (w - entering_bit)) in
      of_owned about slots id (1 + q) (λ n. either (n == a) v n) s.seat.me (λ o. PutsPort o m) o holds.is
      (subst (λ i. Allows (IsRuleKept about) slots id s.seat.me i (λ n. either (n == a) v n) (tells (PutsPort o m) s.seat.me)) (ap at_word holds.clean)
      (subst (λ t. Allows (IsRuleKept about) slots id s.seat.me (at_word o.clean) (λ n. either (n == t) v n) (tells (PutsPort o m) s.seat.me)) named
      (subst (λ v. Allows (IsRuleKept about) slots id s.seat.me (at_word o.clean) (λ n. either (n == entering_from m) v n) (tells (PutsPort o m) s.seat.me)) (sym (here ∙ site_is table about s h))
      (may_put about slots id s.seat.me h.one h.own h.known o m holds.is holds.looked holds.set (subst (λ n. n < about.ports) (sym holds.clean) low) holds.entering_word may.again))))

  -- the words of the owned arena
  set_is : (y i w : ℕ) → w ≡ set_word (shape_plan s.shape bare) y i → w ≡ set_word e y i
  set_is y i w is = is ∙ sym (ap (λ (e : Plan). set_word e y i) h.shape)

  clear_is : (y w : ℕ) → w ≡ base (shape_plan s.shape bare) y + slot_counter s.shape.sizes → w ≡ base e y + slot_counter about.sizes
  clear_is y w is = is ∙ sym (ap (λ (e : Plan). base e y + slot_counter e.sizes) h.shape)

  pub set_there : (y i w : ℕ) → y < about.arenas → i < first_free about.sizes + about.sizes.m → w ≡ set_word (shape_plan s.shape bare) y i → w < table.words
  set_there y i w low inside is =
      let at = set_is y i w is in
      let plan = subst (λ (a : About). initial_words a.sizes ≤ a.sizes.pool) h.own (let pool = h.known.plan.sizes.pool.0 in omega (arith, pool)) in
      let spot = set_index e y i (omega (arith, plan)) inside in
      let there = spot.2 in
      let up = below_whole e y spot.0 low spot.1 in
      let words = h.words in
      omega (arith, at, there, up, words)

  pub set_asked : (y i v : ℕ) → HasSetWords s y about.ports i → about.sizes.m ≤ x.port.passed → IsRight x v i → (slots id w : ℕ) → w ≡ set_word (shape_plan s.shape bare) y i →
      Allows (IsRuleKept about) slots id s.seat.me w (λ n. v) (tells SetsNext s.seat.me)
  set_asked y i v works passed right slots id w word =
      let o = works.owned in
      of_owned about slots id w (λ n. v) s.seat.me (λ o. Sets o (o.set + 1)) o works.is
      (subst (λ i. Allows (IsRuleKept about) slots id s.seat.me i (λ n. v) (tells (Sets o (o.set + 1)) s.seat.me))
      (ap (λ y. set_word e y o.set) works.arena ∙ ap (set_word e y) works.set ∙ sym (set_is y i w word))
      (by (subst (IsRight x v) (sym works.set) right)))
    where
      o : OwnedArena
      o = works.owned

      by : IsRight x v o.set → Allows (IsRuleKept about) slots id s.seat.me (set_word e o.arena o.set) (λ n. v) (tells (Sets o (o.set + 1)) s.seat.me)
      by (inl r) =
          let own = h.own in
          let t : IsFixedWord about.sizes v o.set = subst (λ (a : About). IsFixedWord a.sizes v o.set) own r in
          may_set_same about slots id s.seat.me h.one h.own h.known o v works.is works.clean passed t.within t.is
      by (inr r) =
          let t : IsCarriedStamp about.sizes x.found v o.set = subst (λ (a : About). IsCarriedStamp a.sizes x.found v o.set) h.own r in
          subst (λ v. Allows (IsRuleKept about) slots id s.seat.me (set_word e o.arena o.set) (λ n. v) (tells (Sets o (o.set + 1)) s.seat.me)) (sym t.is)
          (may_set_stamp about slots id s.seat.me h.one h.own h.known o t.f works.is works.clean passed t.found_is t.at t.inside)

  pub set_lists_asked : (y i : ℕ) → HasSetWords s y about.ports i → about.sizes.m ≤ x.port.passed → i + 1 ≡ list_base about.sizes → (v : ℕ) → v ≡ opening_word about.sizes [] 0 → (slots id w : ℕ) →
      w ≡ set_word (shape_plan s.shape bare) y i → Allows (IsRuleKept about) slots id s.seat.me w (λ n. v) (tells SetsLists s.seat.me)
  set_lists_asked y i works passed last v right slots id w word =
      let o = works.owned in
      of_owned about slots id w (λ n. v) s.seat.me (λ o. Sets o (after_values x.about.sizes 0)) o works.is
      (subst (λ i. Allows (IsRuleKept about) slots id s.seat.me i (λ n. v) (tells (Sets o (after_values x.about.sizes 0)) s.seat.me))
      (ap (λ y. set_word e y o.set) works.arena ∙ ap (set_word e y) works.set ∙ sym (set_is y i w word))
      (subst (λ (a : About). Allows (IsRuleKept about) slots id s.seat.me (set_word e o.arena o.set) (λ n. v) (tells (Sets o (after_values a.sizes 0)) s.seat.me)) (sym h.own)
      (may_set_over_lists about slots id s.seat.me h.one h.own h.known o v works.is works.clean passed (ap (λ n. n + 1) works.set ∙ last) right)))

  pub set_value_asked : (y j v : ℕ) → HasSetWords s y about.ports (after_values about.sizes j) → about.sizes.m ≤ x.port.passed → j < about.sizes.m → FoundValue s j v → (slots id w : ℕ) →
      w ≡ set_word (shape_plan s.shape bare) y (value_word (initial_record about.sizes j)) → Allows (IsRuleKept about) slots id s.seat.me w (λ n. v) (tells SetsValue s.seat.me)
  set_value_asked y j v works passed low found slots id w word =
      let o = works.owned in
      let at : o.set ≡ value_word (initial_record about.sizes j) = works.set ∙ value_at about.sizes j low in
      let component = found.component in
      of_owned about slots id w (λ n. v) s.seat.me (λ o. Sets o (after_value x.about.sizes o.set)) o works.is
      (subst (λ i. Allows (IsRuleKept about) slots id s.seat.me i (λ n. v) (tells (Sets o (after_value x.about.sizes o.set)) s.seat.me))
      (ap (λ y. set_word e y o.set) works.arena ∙ ap (set_word e y) at ∙ sym (set_is y (value_word (initial_record about.sizes j)) w word))
      (subst (λ (a : About). Allows (IsRuleKept about) slots id s.seat.me (set_word e o.arena o.set) (λ n. v) (tells (Sets o (after_value a.sizes o.set)) s.seat.me)) (sym h.own)
      (subst (λ v. Allows (IsRuleKept about) slots id s.seat.me (set_word e o.arena o.set) (λ n. v) (tells (Sets o (after_value about.sizes o.set)) s.seat.me)) (sym found.value)
      (may_set_value about slots id s.seat.me h.one h.own h.known o found.found works.is works.clean passed found.is
      (at ∙ ap (λ j. value_word (initial_record about.sizes j)) (sym component)) (omega (arith, component, low))))))

  -- the word of the value of an initial record
  pub value_word_is : (y j r n i w : ℕ) → w ≡ set_word (shape_plan s.shape bare) y i → i ≡ value_word n → n ≡ r → r ≡ initial_record s.shape.sizes j →
      w ≡ set_word (shape_plan s.shape bare) y (value_word (initial_record about.sizes j))
  value_word_is y j r n i w at word widened record_is =
      at ∙ ap (set_word (shape_plan s.shape bare) y) (word ∙ ap value_word (widened ∙ record_is ∙ ap (λ (e : Plan). initial_record e.sizes j) (sym h.shape)))

  -- the load of a word that is to be set to v, where the store may set it; and the store, where the load has found another number
  pub find_set_asked : (R : SeatedPort → ℕ → SeatedPort → Type 0) (v u : ℕ) → u ≡ v → x.port.control.entering ≡ Stands → (slots id w : ℕ) →
      Allows (IsRuleKept about) slots id s.seat.me w (λ n. v) (tells R s.seat.me) → Allows (IsRuleKept about) slots id s.seat.me w (λ n. n) (tells (FindsSet u R) s.seat.me)
  find_set_asked R v u wanted stands slots id w asked = subst (λ u. Allows (IsRuleKept about) slots id s.seat.me w (λ n. n) (tells (FindsSet u R) s.seat.me)) (sym wanted)
      (may_find_set about slots id s.seat.me h.one h.own h.known stands v w R asked)

  pub set_other_asked : (R : SeatedPort → ℕ → SeatedPort → Type 0) (v u : ℕ) → u ≡ v → (me : Me (Unit {0}) (List SeatedPort)) (a : ℕ) → tells (FindsSet u R) s.seat.me a me → a ≢ v → (slots id w : ℕ) →
      Allows (IsRuleKept about) slots id s.seat.me w (λ n. v) (tells R s.seat.me) → Allows (IsRuleKept about) slots id me w (λ n. v) (tells R me)
  set_other_asked R v u wanted me a told ne slots id w asked =
      let same : one_of me.0 ≡ x = found_other R v u wanted x a (one_of me.0) told.2 ne in
      let views : me.0 ≡ s.seat.me.0 = told.0.0 ∙ ap (λ (y : SeatedPort). y ∷ []) same ∙ sym h.one.0 in
      let carried : me.1 ≡ s.seat.me.1 = told.0.1 ∙ sym h.one.1 in
      let all : me ≡ s.seat.me = ap (λ (v : List SeatedPort). (v, me.1)) views ∙ ap (λ c. (s.seat.me.0, c)) carried in
      subst (λ me. Allows (IsRuleKept about) slots id me w (λ n. v) (tells R me)) (sym all) asked

  -- the load of the slot counter
  pub clear_there : (y w : ℕ) → y < about.arenas → w ≡ base (shape_plan s.shape bare) y + slot_counter s.shape.sizes → w < table.words
  clear_there y w low is =
      let at = clear_is y w is in
      let up = below_whole e y (slot_counter about.sizes) low (omega arith) in
      let words = h.words in
      omega (arith, at, up, words)

  pub find_clear_asked : (y : ℕ) → HasSetWords s y about.ports 0 → about.sizes.m ≤ x.port.passed → (slots id w : ℕ) → w ≡ base (shape_plan s.shape bare) y + slot_counter s.shape.sizes →
      Allows (IsRuleKept about) slots id s.seat.me w (λ n. n) (tells (OfOwned FindsClear) s.seat.me)
  find_clear_asked y works passed slots id w is =
      let o = works.owned in
      of_owned about slots id w (λ n. n) s.seat.me FindsClear o works.is
      (subst (λ i. Allows (IsRuleKept about) slots id s.seat.me i (λ n. n) (tells (FindsClear o) s.seat.me))
      (ap (λ y. base e y + slot_counter about.sizes) works.arena ∙ sym (clear_is y w is))
      (may_find_clear about slots id s.seat.me h.one h.own h.known o works.is works.clean works.set passed))

  -- the exchange of the current word
  pub publish_asked : (y : ℕ) → HasSetWords s y about.ports (first_free about.sizes + about.sizes.m) → s.epoch + 1 < 2199023255552 → (slots id here next : ℕ) →
      here ≡ packed (record { epoch = s.epoch; arena = s.arena }) → next ≡ (s.epoch + 1) * arena_limit + y →
      Allows (IsRuleKept about) slots id s.seat.me 0 (λ n. either (n == here) next n) (tells (OfOwned SeatPublishes) s.seat.me)
  publish_asked y works room slots id here next here_is next_is =
      let o = works.owned in
      let epoch = h.epoch in
      let arena = works.arena in
      let word : next ≡ packed (next_site x.port.control.here o.arena) = omega (arith, next_is, epoch, arena) in
      of_owned about slots id 0 (λ n. either (n == here) next n) s.seat.me SeatPublishes o works.is
      (subst (λ t. Allows (IsRuleKept about) slots id s.seat.me 0 (λ n. either (n == t) next n) (tells (SeatPublishes o) s.seat.me)) (sym (here_is ∙ site_is table about s h))
      (subst (λ v. Allows (IsRuleKept about) slots id s.seat.me 0 (λ n. either (n == packed x.port.control.here) v n) (tells (SeatPublishes o) s.seat.me)) (sym word)
      (may_publish about slots id s.seat.me h.one h.own h.known o (record { owned = works.is; set = works.set; room = subst (λ n. n + 1 < 2199023255552) epoch room }))))
