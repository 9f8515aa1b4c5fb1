-- The exchange of the current word opens the next epoch.
use Rattle.partial_epochs.proofs.{Common.{ℕ, zero, suc, ◌≡◌, ◌≢◌, ◌+◌, ◌-◌, ◌<◌, ◌≤◌, ◌==◌, ◌⊎◌, Bool, true, false, if◌then◌else◌, Option, Some, None, IfSome, List, [], ◌∷◌, length, slice_index, slice_set, refl, sym, ap, subst, ◌∙◌, inl, inr, arith, option_map, cases_lt, lt-ltb, eqb_tells, get_or-set_same, get_or-set_other, length-set, set-get_or, Applied, Opening, some_same, Layout, total, first_free, pool_counter, slot_counter, slot_word, set_offset, HasClearRecords, HasClearSlots, Part, fresh_part, fresh_parts, list_of, put, IsToBeSet, Plan, Site, IsSealed, at_word, arena_words, base, carried_word, carried_words, component_words, control_size, control_words, current_word, packed, plain, seal, stamp_after, opened_after, Control, OwnedArena, Port, Epoch, IsSiteWord, IsOut, IsOwner, LawfulControl, MayPut, Beside, IsArena, IsFinished, IsNewPart, IsSetting, IsStanding, LawfulEpochs, controls, numbers, site_now, IsPresent, IsWholeArena, PublishesStayLawful, having_published, next_beside, next_site, next_epoch, resting_arena, OpensOver, Stands, not_below, opening_word, opening_component, pool_opens}, Continue.many, ClearRecords.{opens_by_set, records_before}, Entering.{control_lifted, current_is, cw_long, high_arenaed, high_clear, high_records}, Lists.{at_of, length_of, put_all, put_other, put_same, set_of}, Opens.{no_slot_claimed, opens_over}, Owning.{knows_more, out_then}, Offsets.{offset_back, offset_low, offset_to_be_set, packed_arena, set_high, set_low}, Present.{present, same_site}, Publishing.published, Worded.{component_at, plain_at, plain_component, plain_other}}
use Rattle.partial_core.specs.Lawful as one

-- what an epoch opens with has the same first stamp
first_same : (o : Opening) (before : List (List Applied)) → (opened_after o before).first ≡ o.first
first_same o [] = refl
first_same o (h ∷ before) = first_same o before

pub fresh_list : (z : Layout) (p n : ℕ) → list_of (fresh_part z) p n ≡ fresh_parts z p n
fresh_list z p zero = refl
fresh_list z p (suc n) = ap (λ (l : List Part). fresh_part z p ∷ l) (fresh_list z (p + 1) n)

module _ (e : Plan) (words : List ℕ) (ports : ℕ → Port) (b : Beside) (k : ℕ) (o : OwnedArena) (w : LawfulEpochs e words ports b) (below : k < e.ports) (whole : IsWholeArena e (ports k) o) where
  abbrev cw : List ℕ
  cw = control_words e words

  abbrev cs : ℕ → Control
  cs = controls ports

  own : IsOwner e (control_words e words) (controls ports) (site_now b) (numbers b) k o
  own = subst (λ (t : Option OwnedArena). IfSome t (IsOwner e (control_words e words) (controls ports) (site_now b) (numbers b) k)) whole.owned (w.control.owners k below)

  setting : IsSetting e words b (ports k) o
  setting = subst (λ (t : Option OwnedArena). IfSome t (IsSetting e words b (ports k))) whole.owned (w.setting k below)

  some : 0 < o.set
  some = let set = whole.set in omega (arith, set)

  looked : b.arena ≢ o.arena
  looked = let clean = own.all some in let ports_some = w.plan.some in own.looked (own.order (omega (arith, clean, ports_some)))

  out : (q : ℕ) → q < e.ports → q ≢ k → IsOut e (control_words e words) (controls ports) o.arena q
  out q low ne = let clean = own.all some in own.out q (omega (arith, clean, low)) low ne

  own_rests : IsOwner e (control_words e words) (controls ports) (site_now b) (numbers b) k (resting_arena o)
  own_rests = record {
    stands = own.stands;
    arena = own.arena;
    apart = own.apart;
    word = own.word;
    looked = λ seen. absurd cc;
    order = λ less. absurd (omega (arith, less));
    few = omega arith;
    out = λ p less within ne. absurd (omega (arith, less));
    older = λ again. absurd cc;
    held = tt;
    all = λ less. absurd (omega (arith, less));
    none = λ less. absurd (omega (arith, less));
  }

  no_puts : (c : Control) (j : ℕ) (a : Site) → c.owned ≡ Some (resting_arena o) → MayPut c j a → ⊥
  no_puts c j a is may =
      let same : resting_arena o ≡ may.owned = some_same (sym is ∙ may.is) in
      let bad : None ≡ Some a = ap (λ (t : OwnedArena). t.entering_word) same ∙ may.entering_word in
      cc

  rests_setting : (l : List ℕ) (d : Beside) (p : Port) → IsSetting e l d p (resting_arena o)
  rests_setting l d p = record { few = omega arith; sealed = λ less. absurd (omega (arith, less)); each = λ at i less _. absurd (omega (arith, less)); cleared = λ l less set. absurd (omega (arith, less, set)) }

  site_word_here : slice_index (control_words e words) (at_word k) ≡ packed (ports k).control.here
  site_word_here = subst (IsSiteWord e (control_words e words) k (ports k).control.here) own.stands (w.control.at k below)

  abbrev p' : Port
  p' = having_published (ports k) o

  -- the exchange is lost
  lost : slice_index words current_word ≢ packed (ports k).control.here → LawfulEpochs e words (put k (having_published (ports k) o) ports) b
  lost ne =
      let older : (ports k).control.here.epoch < length b.before =
      (elim (w.control.earlier (ports k).control.here.arena (ports k).control.here.epoch (w.control.stands k (ports k).control.here below (w.control.sites k below) site_word_here)) [
        | inl less ↦ less
        | inr same ↦ absurd (ne (current_is e words ports b k w below ∙ ap packed (sym (same_site (ports k).control.here (site_now b) same.0 same.1))))
      ]) in
      control_lifted e words words (λ i from. refl) ports b k p' w refl refl (rests_setting words b p')
      (knows_more e cw cs (site_now b) (numbers b) w.control k below p'.control refl refl (λ _. older) (λ j a may. absurd (no_puts p'.control j a refl may)) own_rests)
      (λ _. let s = w.standing k below own.stands in record { epoch = s.epoch; is = s.is; before = s.before; part = s.part; passed = s.passed; over = s.over })
      (omega arith) below

  -- the exchange is won
  module _ (at : slice_index words current_word ≡ packed (ports k).control.here) where
    here_arena : ((ports k).control.here.epoch ≡ length b.before) × ((ports k).control.here.arena ≡ b.arena)
    here_arena = packed_arena e (ports k).control.here (site_now b) w.plan.arenas (w.control.sites k below).arena w.control.site.arena (sym at ∙ current_is e words ports b k w below)

    is_present : IsPresent b k (ports k)
    is_present = present e words ports b k w below own.stands here_arena.1

    abbrev v : ℕ
    v = packed (next_site (ports k).control.here o.arena)

    abbrev words' : List ℕ
    words' = slice_set words current_word v

    abbrev b' : Beside
    b' = next_beside e b o.arena

    high : (i : ℕ) → control_size e ≤ i → slice_index words' i ≡ slice_index words i
    high i from = get_or-set_other words current_word i v 0 (omega (arith, from))

    set_control : control_words e words' ≡ slice_set (control_words e words) current_word v
    set_control =
        let count = w.count in
        set_of (λ i. slice_index words i) (λ i. slice_index words' i) 0 (control_size e) current_word (omega arith) (λ j ne. get_or-set_other words current_word j v 0 (omega (arith, ne)))
        ∙ ap (λ u. slice_set (control_words e words) current_word u) (get_or-set_same words current_word v 0 (omega (arith, count)))

    -- no port stands in the arena
    not_stood : (q : ℕ) → q < e.ports → (ports q).control.entering ≡ Stands → (ports q).control.here.arena ≢ o.arena
    not_stood q low stands =
        let mine : slice_index (control_words e words) (at_word q) ≡ packed (ports q).control.here = subst (IsSiteWord e (control_words e words) q (ports q).control.here) stands (w.control.at q low) in
        elim (eqb_tells q k) [
          | inl same ↦ λ is. looked (sym here_arena.1 ∙ ap (λ i. (ports i).control.here.arena) (sym same.1) ∙ is)
          | inr ne ↦ (out q low ne.1).without_bit (ports q).control.here (w.control.sites q low) mine
        ]

    -- each other arena that is owned isn't this one
    owns1 : (q : ℕ) (t : OwnedArena) → q < e.ports → (put k (record (ports k).control { owned = Some (resting_arena o) }) (controls ports) q).owned ≡ Some t →
        (t.arena ≢ o.arena) ⊎ ((t.looked ≡ false) × (t.set ≡ 0))
    owns1 q t low = put_all (λ i (d : Control). i < e.ports → d.owned ≡ Some t → (t.arena ≢ o.arena) ⊎ ((t.looked ≡ false) × (t.set ≡ 0)))
        k (record (ports k).control { owned = Some (resting_arena o) }) (controls ports) q
        (λ _ _ is. let same : resting_arena o ≡ t = some_same is in inr (sym (ap (λ (t : OwnedArena). t.looked) same), sym (ap (λ (t : OwnedArena). t.set) same)))
        (λ ne low is.
        let other : IsOwner e (control_words e words) (controls ports) (site_now b) (numbers b) q t =
        subst (λ (t : Option OwnedArena). IfSome t (IsOwner e (control_words e words) (controls ports) (site_now b) (numbers b) q)) is (w.control.owners q low) in
        let theirs = other.word in
        let ours = own.word in
        inl (λ same. let moved = ap (λ y. slice_index (control_words e words) (1 + e.ports + y)) same in ne (omega (arith, theirs, ours, moved))))
        low

    -- the control words
    control_then : LawfulControl e (control_words e words') (controls (put k (having_published (ports k) o) ports)) (site_now (next_beside e b o.arena)) (numbers (next_beside e b o.arena))
    control_then =
        let now : Site = site_now b in
        let ns : ℕ → Option ℕ = numbers b in
        let c1 : Control = record (ports k).control { owned = Some (resting_arena o) } in
        let c' : Control = record (ports k).control { past = true; owned = Some (resting_arena o) } in
        let cs1 : ℕ → Control = put k c1 (controls ports) in
        let is1 : cs1 k ≡ c1 = put_same k c1 (controls ports) in
        let none1 : (j : ℕ) (a : Site) → MayPut c1 j a → MayPut (controls ports k) j a = λ j a may. absurd (no_puts c1 j a refl may) in
        let w1 : LawfulControl e (control_words e words) cs1 now ns =
        knows_more e (control_words e words) (controls ports) now ns w.control k below c1 refl refl (w.control.past k below) none1 own_rests in
        let here1 : (cs1 k).here ≡ now = ap (λ (c : Control). c.here) is1 ∙ is_present.here in
        let stands1 : (cs1 k).entering ≡ Stands = ap (λ (c : Control). c.entering) is1 ∙ own.stands in
        let out1 : (q : ℕ) → q < e.ports → q ≢ k → IsOut e (control_words e words) cs1 o.arena q = λ q low ne.
        out_then e (control_words e words) (controls ports) now ns w.control k below c1 refl refl (w.control.past k below) none1 o.arena q (out q low ne) in
        let even = here_arena.0 in
        let room = whole.room in
        let w2 = published e (control_words e words) cs1 now ns w1 k below o.arena own.arena w.plan.arenas stands1 here1 (omega (arith, even, room)) looked out1 (cw_long e words) owns1 in
        let next : Site = record { epoch = length b.before + 1; arena = o.arena } in
        let holds1 : ℕ → Option ℕ = put o.arena (Some (length b.before + 1)) ns in
        let here_epoch : (cs1 k).here.epoch ≡ length b.before = ap (λ (d : Site). d.epoch) here1 in
        let own2 : IsOwner e (slice_set (control_words e words) current_word (packed next)) cs1 next holds1 k (resting_arena o) =
        subst (λ (t : Option OwnedArena). IfSome t (IsOwner e (slice_set (control_words e words) current_word (packed next)) cs1 next holds1 k)) (ap (λ (c : Control). c.owned) is1) (w2.owners k below) in
        let w3 : LawfulControl e (slice_set (control_words e words) current_word (packed next)) (put k c' cs1) next holds1 =
        knows_more e (slice_set (control_words e words) current_word (packed next)) cs1 next holds1 w2 k below c' (sym (ap (λ (c : Control). c.here) is1)) (sym (ap (λ (c : Control). c.entering) is1))
        (λ _. omega (arith, here_epoch)) (λ j a may. absurd (no_puts c' j a refl may)) own2 in
        let epoch_is : length b.before + 1 ≡ suc (length b.before) = omega arith in
        let packed_is : packed next ≡ v = ap (λ n. packed (record { epoch = n + 1; arena = o.arena })) (sym even) in
        let cs_is : (q : ℕ) → put k c' cs1 q ≡ controls (put k p' ports) q = λ q. put_all (λ i (d : Control). d ≡ (put k p' ports i).control) k c' cs1 q
        (λ _. sym (ap (λ (p : Port). p.control) (put_same k p' ports))) (λ ne. put_other k c1 (controls ports) q ne ∙ sym (ap (λ (p : Port). p.control) (put_other k p' ports q ne))) in
        let holds_is : (y : ℕ) → holds1 y ≡ numbers b' y = λ y. put_all (λ i (t : Option ℕ). t ≡ numbers b' i) o.arena (Some (length b.before + 1)) ns y
        (λ _. ap Some epoch_is ∙ sym (ap (option_map (λ (r : Epoch). length r.before)) (put_same o.arena (Some (next_epoch e b)) b.holds)))
        (λ ne. sym (ap (option_map (λ (r : Epoch). length r.before)) (put_other o.arena (Some (next_epoch e b)) b.holds y ne))) in
        let w4 : LawfulControl e (slice_set (control_words e words) current_word v) (put k c' cs1) next holds1 =
        subst (λ n. LawfulControl e (slice_set (control_words e words) current_word n) (put k c' cs1) next holds1) packed_is w3 in
        let w5 : LawfulControl e (control_words e words') (put k c' cs1) next holds1 = subst (λ (l : List ℕ). LawfulControl e l (put k c' cs1) next holds1) (sym set_control) w4 in
        let w6 : LawfulControl e (control_words e words') (controls (put k p' ports)) next holds1 =
        subst (λ (f : ℕ → Control). LawfulControl e (control_words e words') f next holds1) (λ i q. cs_is q i) w5 in
        let w7 : LawfulControl e (control_words e words') (controls (put k p' ports)) next (numbers b') =
        subst (λ (f : ℕ → Option ℕ). LawfulControl e (control_words e words') (controls (put k p' ports)) next f) (λ i y. holds_is y i) w6 in
        subst (λ (d : Site). LawfulControl e (control_words e words') (controls (put k p' ports)) d (numbers b')) (same_site next (site_now b') epoch_is refl) w7

    -- the arena that was set
    word_set : (i : ℕ) → i < first_free e.sizes → IsToBeSet e.sizes i → slice_index words (base e o.arena + i) ≡ opening_word e.sizes (opened_after e.opening (b.log ∷ b.before)).values i
    word_set i low to_set =
        let set = whole.set in
        let j : ℕ = set_offset e.sizes i in
        let less = offset_low e.sizes i low in
        let back = offset_back e.sizes i in
        ap (λ n. slice_index words (base e o.arena + n)) (sym back) ∙ ap (λ n. slice_index words n) (sym (set_low e o.arena j less))
        ∙ setting.each at j (omega (arith, set, less)) (offset_to_be_set e.sizes i to_set)
        ∙ ap (λ (c : Bool). if c then opening_word e.sizes (opened_after e.opening (b.log ∷ b.before)).values (set_offset e.sizes j)
        else stamp_after e.opening (b.log ∷ b.before) (j - first_free e.sizes)) (lt-ltb j (first_free e.sizes) less)
        ∙ ap (opening_word e.sizes (opened_after e.opening (b.log ∷ b.before)).values) back

    carried_set : (j : ℕ) → j < e.sizes.m → slice_index words (carried_word e o.arena j) ≡ stamp_after e.opening (b.log ∷ b.before) j
    carried_set j low =
        let set = whole.set in
        let i : ℕ = first_free e.sizes + j in
        let off : i - first_free e.sizes ≡ j = omega arith in
        let test = not_below i (first_free e.sizes) (omega arith) in
        sym (ap (λ n. slice_index words n) (set_high e o.arena i (omega arith)) ∙ ap (λ n. slice_index words (base e o.arena + total e.sizes + n)) off)
        ∙ setting.each at i (omega (arith, set, low)) (inr (inl (omega arith)))
        ∙ ap (λ (c : Bool). if c then opening_word e.sizes (opened_after e.opening (b.log ∷ b.before)).values (set_offset e.sizes i)
        else stamp_after e.opening (b.log ∷ b.before) (i - first_free e.sizes)) test
        ∙ ap (stamp_after e.opening (b.log ∷ b.before)) off

    component_small : (j : ℕ) → j < e.sizes.m → slice_index words (base e o.arena + j) < seal
    component_small j low =
        let is = word_set j (omega (arith, low)) (inl (omega (arith, low))) ∙ opening_component e.sizes (opened_after e.opening (b.log ∷ b.before)).values j low in
        let m = w.plan.sizes.components.1 in
        let slots = w.plan.sizes.slots.1 in
        let lists = w.plan.sizes.lists in
        omega (arith, is, low, m, slots, lists)

    opens : OpensOver e.sizes (opened_after e.opening (b.log ∷ b.before)) (arena_words e words o.arena)
    opens = record {
      sizes = w.plan.sizes;
      values = many e.opening (b.log ∷ b.before) ∙ w.plan.values;
      stamps = first_same e.opening (b.log ∷ b.before) ∙ w.plan.first;
      count = length_of (λ i. plain e i (slice_index words (base e o.arena + i))) 0 (total e.sizes);
      each = λ i low asked. let pool = w.plan.sizes.pool.0 in plain_at e words o.arena i (omega (arith, low, pool)) ∙ as_is i low (cases_lt i e.sizes.m)
          ∙ opens_by_set e words (opened_after e.opening (b.log ∷ b.before)).values o.arena i (records_before e words ports b w o.arena own.arena) low asked (word_set i low);
    }
      where
        as_is : (i : ℕ) → i < first_free e.sizes → (i < e.sizes.m) ⊎ (e.sizes.m ≤ i) → plain e i (slice_index words (base e o.arena + i)) ≡ slice_index words (base e o.arena + i)
        as_is i low (inl inside) = let small = component_small i inside in plain_component e words o.arena i (slice_index words (base e o.arena + i)) inside ∙ omega (arith, small)
        as_is i low (inr from) = plain_other e words o.arena i (slice_index words (base e o.arena + i)) from

    no_slot : slice_index (arena_words e words o.arena) (slot_counter e.sizes) ≡ 0
    no_slot = no_slot_claimed e.sizes (opened_after e.opening (b.log ∷ b.before)) (arena_words e words o.arena) opens

    arena_new : IsArena e (arena_words e words o.arena) (component_words e words o.arena) (carried_words e words o.arena) (next_epoch e b) (o.arena ≢ o.arena)
    arena_new = record {
      lawful = subst (λ (l : List Part). one.Lawful e.sizes (opened_after e.opening (b.log ∷ b.before)) (arena_words e words o.arena) l []) (sym (fresh_list e.sizes 0 e.ports))
          (opens_over e.sizes (opened_after e.opening (b.log ∷ b.before)) (arena_words e words o.arena) e.ports opens w.plan.few);
      numbers = λ q low. refl;
      stamps = λ j low. at_of (λ j. slice_index words (carried_word e o.arena j)) 0 e.sizes.m j low ∙ ap (λ i. slice_index words (carried_word e o.arena i)) (omega arith) ∙ carried_set j low;
      few = λ j low. let small = component_small j low in let at = component_at e words o.arena j low in omega (arith, small, at);
      passed = λ q j low less. absurd (omega (arith, less));
      sealed = λ ne. absurd (ne refl);
      reserve =
          let pool = w.plan.sizes.pool.0 in
          let some_slots = w.plan.sizes.slots.0 in
          let some_components = w.plan.sizes.components.0 in
          let room = w.plan.opens in
          let is : slice_index (arena_words e words o.arena) (pool_counter e.sizes) ≡ first_free e.sizes =
          opens.each (pool_counter e.sizes) (omega (arith, some_slots, some_components)) (inl (omega (arith, some_slots)))
          ∙ pool_opens e.sizes (opened_after e.opening (b.log ∷ b.before)).values in
          omega (arith, is, room);
      slots = omega (arith, no_slot);
      silent = λ off. record { unclaimed = no_slot; finds = λ q low. tt };
    }

    held : (P : Epoch → Type 0) (y : ℕ) (r : Epoch) → b'.holds y ≡ Some r → (y ≡ o.arena → P (next_epoch e b)) → (y ≢ o.arena → b.holds y ≡ Some r → P r) → P r
    held P y r is new_one there = elim (eqb_tells y o.arena) [
      | inl same ↦ subst P (some_same (sym (put_same o.arena (Some (next_epoch e b)) b.holds) ∙ sym (ap b'.holds same.1) ∙ is)) (new_one same.1)
      | inr other ↦ there other.1 (sym (put_other o.arena (Some (next_epoch e b)) b.holds y other.1) ∙ is)
    ]

    finished_then : (y : ℕ) (r : Epoch) → b'.holds y ≡ Some r → y ≢ o.arena → IsFinished b' r
    finished_then y r is ne =
        let was : b.holds y ≡ Some r = sym (put_other o.arena (Some (next_epoch e b)) b.holds y ne) ∙ is in
        elim (eqb_tells y b.arena) [
          | inl same ↦
              let now : w.now.0 ≡ r = some_same (sym w.now.1 ∙ sym (ap b.holds same.1) ∙ was) in
              ([], ap (λ (l : List Applied). l ∷ b.before) (sym w.now.2 ∙ ap (λ (r : Epoch). r.log) now) ∙ ap (λ (l : List (List Applied)). r.log ∷ l) (sym w.now.3 ∙ ap (λ (r : Epoch). r.before) now))
          | inr other ↦ let old = w.finished y r was other.1 in (b.log ∷ old.0, ap (λ (l : List (List Applied)). b.log ∷ l) old.1)
        ]

    arenas_then : (y : ℕ) (r : Epoch) → b'.holds y ≡ Some r → IsArena e (arena_words e words' y) (component_words e words' y) (carried_words e words' y) r (y ≢ o.arena)
    arenas_then y r is = held (λ r. IsArena e (arena_words e words' y) (component_words e words' y) (carried_words e words' y) r (y ≢ o.arena)) y r is
        (λ same. subst (λ z. IsArena e (arena_words e words' z) (component_words e words' z) (carried_words e words' z) (next_epoch e b) (z ≢ o.arena)) (sym same)
        (high_arenaed e words words' high o.arena (next_epoch e b) (o.arena ≢ o.arena) arena_new))
        (λ ne was. high_arenaed e words words' high y r (y ≢ o.arena) (let t = w.arenas y r was in
        record {
          lawful = t.lawful;
          numbers = t.numbers;
          stamps = t.stamps;
          few = t.few;
          passed = t.passed;
          sealed = λ _ j low. all y r was t (eqb_tells y b.arena) j low;
          reserve = t.reserve;
          slots = t.slots;
          silent = t.silent;
        }))
      where
        all : (y : ℕ) (r : Epoch) → b.holds y ≡ Some r → IsArena e (arena_words e words y) (component_words e words y) (carried_words e words y) r (y ≢ b.arena) →
            (((y == b.arena) ≡ true) × (y ≡ b.arena)) ⊎ (((y == b.arena) ≡ false) × (y ≢ b.arena)) → (j : ℕ) → j < e.sizes.m → IsSealed (slice_index (component_words e words y) j)
        all y r was t (inr other) j low = t.sealed other.1 j low
        all y r was t (inl same) j low =
            let s = w.standing k below own.stands in
            let is : s.epoch ≡ r = some_same (sym s.is ∙ ap b.holds (here_arena.1 ∙ sym same.1) ∙ was) in
            let passed : r.passed k ≡ (ports k).passed = sym (ap (λ (r : Epoch). r.passed k) is) ∙ s.passed in
            let sealed = setting.sealed some in
            t.passed k j below (omega (arith, passed, sealed, low)) low

    stands_then : (q : ℕ) (p : Port) → p.control.here.arena ≢ o.arena → IsStanding b q p → IsStanding b' q p
    stands_then q p ne s = record {
      epoch = s.epoch;
      is = put_other o.arena (Some (next_epoch e b)) b.holds p.control.here.arena ne ∙ s.is;
      before = s.before;
      part = s.part;
      passed = s.passed;
      over = s.over;
    }

    standing_then : (q : ℕ) → q < e.ports → (put k p' ports q).control.entering ≡ Stands → IsStanding b' q (put k p' ports q)
    standing_then q low = put_all (λ i (p : Port). i < e.ports → p.control.entering ≡ Stands → IsStanding b' i p) k p' ports q
        (λ _ _ _. let s = w.standing k below own.stands in stands_then k p' (not_stood k below own.stands)
        (record { epoch = s.epoch; is = s.is; before = s.before; part = s.part; passed = s.passed; over = s.over }))
        (λ ne low stands. stands_then q (ports q) (not_stood q low stands) (w.standing q low stands)) low

    new_then : (q y : ℕ) (r : Epoch) → q < e.ports → b'.holds y ≡ Some r → (put k p' ports q).control.here.epoch < length r.before → IsNewPart e q r
    new_then q y r low is less =
        let same : (put k p' ports q).control.here ≡ (ports q).control.here = put_all (λ i (p : Port). p.control.here ≡ (ports i).control.here) k p' ports q (λ _. refl) (λ _. refl) in
        held (λ r. (put k p' ports q).control.here.epoch < length r.before → IsNewPart e q r) y r is
        (λ _ _. record { part = refl; passed = refl; over = refl })
        (λ _ was less. w.new q y r low was (subst (λ (d : Site). d.epoch < length r.before) same less)) less

    setting_then : (q : ℕ) → q < e.ports → IfSome (put k p' ports q).control.owned (IsSetting e words' b' (put k p' ports q))
    setting_then q low = put_all (λ i (p : Port). i < e.ports → IfSome p.control.owned (IsSetting e words' b' p)) k p' ports q
        (λ _ _. rests_setting words' b' p') (λ ne low. by q (ports q).control.owned refl low (w.setting q low)) low
      where
        by : (q : ℕ) (t : Option OwnedArena) → (ports q).control.owned ≡ t → q < e.ports → IfSome t (IsSetting e words b (ports q)) → IfSome t (IsSetting e words' b' (ports q))
        by q None is low h = tt
        by q (Some t) is low h =
            let mine : IsOwner e (control_words e words) (controls ports) (site_now b) (numbers b) q t =
            subst (λ (t : Option OwnedArena). IfSome t (IsOwner e (control_words e words) (controls ports) (site_now b) (numbers b) q)) is (w.control.owners q low) in
            let count = w.count in
            record {
              few = h.few;
              sealed = h.sealed;
              each = λ at' i less asked.
                  let now : slice_index words' current_word ≡ v = get_or-set_same words current_word v 0 (omega (arith, count)) in
                  let both = packed_arena e (next_site (ports k).control.here o.arena) (ports q).control.here w.plan.arenas own.arena (w.control.sites q low).arena (sym now ∙ at') in
                  absurd (not_stood q low mine.stands (sym both.1));
              cleared = λ l less set. high (base e t.arena + slot_word e.sizes l) (omega arith) ∙ h.cleared l less set;
            }

    clear_then : (y : ℕ) → y < e.arenas → b'.holds y ≡ None → HasClearSlots e words' y
    clear_then y inside is l from less = elim (eqb_tells y o.arena) [
      | inl same ↦ let none : Some (next_epoch e b) ≡ None = sym (put_same o.arena (Some (next_epoch e b)) b.holds) ∙ sym (ap b'.holds same.1) ∙ is in absurd cc
      | inr ne ↦ high_clear e words words' high y (w.clear y inside (sym (put_other o.arena (Some (next_epoch e b)) b.holds y ne.1) ∙ is)) l from less
    ]

    records_then : (y : ℕ) → y < e.arenas → b'.holds y ≡ None → HasClearRecords e words' y
    records_then y inside is = elim (eqb_tells y o.arena) [
      | inl same ↦ let none : Some (next_epoch e b) ≡ None = sym (put_same o.arena (Some (next_epoch e b)) b.holds) ∙ sym (ap b'.holds same.1) ∙ is in absurd cc
      | inr ne ↦ high_records e words words' high y (w.records y inside (sym (put_other o.arena (Some (next_epoch e b)) b.holds y ne.1) ∙ is))
    ]

    won : LawfulEpochs e words' (put k (having_published (ports k) o) ports) (next_beside e b o.arena)
    won = record {
      plan = w.plan;
      count = length-set words current_word v ∙ w.count;
      control = control_then;
      now = (next_epoch e b, put_same o.arena (Some (next_epoch e b)) b.holds, refl, refl);
      finished = finished_then;
      arenas = arenas_then;
      standing = standing_then;
      new = new_then;
      setting = setting_then;
      clear = clear_then;
      records = records_then;
    }

  pub publishes : ((slice_index words current_word ≡ packed (ports k).control.here) × IsPresent b k (ports k)
      × LawfulEpochs e (slice_set words current_word (if slice_index words current_word == packed (ports k).control.here then packed (next_site (ports k).control.here o.arena)
      else slice_index words current_word))
      (put k (having_published (ports k) o) ports) (next_beside e b o.arena))
      ⊎ ((slice_index words current_word ≢ packed (ports k).control.here)
      × LawfulEpochs e (slice_set words current_word (if slice_index words current_word == packed (ports k).control.here then packed (next_site (ports k).control.here o.arena)
      else slice_index words current_word))
      (put k (having_published (ports k) o) ports) b)
  publishes = elim (eqb_tells (slice_index words current_word) (packed (ports k).control.here)) [
    | inl same ↦ inl (
      same.1,
      is_present same.1,
      subst (λ (t : Bool). LawfulEpochs e (slice_set words current_word (if t then packed (next_site (ports k).control.here o.arena) else slice_index words current_word))
          (put k (having_published (ports k) o) ports) (next_beside e b o.arena))
          (sym same.0) (won same.1),
    )
    | inr other ↦ inr (
      other.1,
      subst (λ (t : Bool). LawfulEpochs e (slice_set words current_word (if t then packed (next_site (ports k).control.here o.arena) else slice_index words current_word))
          (put k (having_published (ports k) o) ports) b)
          (sym other.0) (subst (λ (l : List ℕ). LawfulEpochs e l (put k (having_published (ports k) o) ports) b) (sym (set-get_or words current_word 0)) (lost other.1)),
    )
  ]

pub publishes_stay_lawful : PublishesStayLawful
publishes_stay_lawful e words ports b k o w below whole = publishes e words ports b k o w below whole
