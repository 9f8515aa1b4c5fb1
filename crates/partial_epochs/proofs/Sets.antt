-- A word of an owned arena is set.
use Rattle.partial_epochs.proofs.{Common.{ℕ, ◌≡◌, ◌≢◌, ◌+◌, ◌-◌, ◌<◌, ◌≤◌, Bool, if◌then◌else◌, Option, Some, None, IfSome, List, length, slice_index, slice_set, refl, sym, ap, subst, ◌∙◌, inl, inr, arith, option_map, cases_lt, lt-ltb, eqb_tells, get_or-set_other, length-set, first_free, total, put, IsToBeSet, Plan, Site, IsSite, at_word, arena_words, base, carried_word, carried_words, component_words, control_size, control_words, current_word, packed, plain, span, set_word, Control, OwnedArena, Port, Epoch, IsSiteWord, IsStillEntering, IsOwner, LawfulControl, MayPut, NotInto, Beside, IsArena, IsNewPart, IsSetting, IsStanding, LawfulEpochs, controls, next_epoch_word, numbers, site_now, SetsStayLawful, having_set, vacated, Stands, Loaded, ClearSlotsCountAsSet, ClearsSlots, HasClearRecords, HasClearSlots, set-get_or, slot_counter, slot_word, ◌∷◌, stamp_after, opened_after, set_offset, opening_word, slots_open}, ClearRecords.{records_before, records_same}, Lists.{put_all, put_other, put_same, same_of}, Owning.knows_more, Offsets.{bases_up, counter_number, packed_arena, set_apart, set_index, slot_number, slot_offset, slot_set}, Worded.{plain_at, plain_other}}

-- an arena that port k owns, of which all ports are out, holds no epoch
module _ (e : Plan) (words : List ℕ) (cs : ℕ → Control) (now : Site) (holds : ℕ → Option ℕ) (w : LawfulControl e words cs now holds) (k : ℕ) (below : k < e.ports) (o : OwnedArena)
    (owned : (cs k).owned ≡ Some o) (done : o.clean ≡ e.ports) where
  pub own : IsOwner e words cs now holds k o
  own = subst (λ (t : Option OwnedArena). IfSome t (IsOwner e words cs now holds k)) owned (w.owners k below)

  pub unlike : now.arena ≢ o.arena
  unlike = let h = own in h.looked (h.order (omega (arith, done, below)))

  pub not_stood : (q : ℕ) (d : Site) → q < e.ports → IsSite e d → slice_index words (at_word q) ≡ packed d → q ≢ k → d.arena ≢ o.arena
  not_stood q d low site at ne = let h = own in (h.out q (omega (arith, done, low)) low ne).without_bit d site at

  abbrev holds' : ℕ → Option ℕ
  holds' = put o.arena None holds

  keeps : (x g : ℕ) → holds' x ≡ Some g → holds x ≡ Some g
  keeps x g = put_all (λ i (t : Option ℕ). t ≡ Some g → holds i ≡ Some g) o.arena None holds x (λ _ is. absurd cc) (λ _ is. is)

  -- of the words where ports stand: their sites aren't in the arena
  module _ (own_site : (d : Site) → IsSite e d → slice_index words (at_word k) ≡ packed d → d.arena ≢ o.arena) where
    stood : (q : ℕ) (d : Site) → q < e.ports → IsSite e d → slice_index words (at_word q) ≡ packed d → d.arena ≢ o.arena
    stood q d low site at = elim (eqb_tells q k) [
      | inl same ↦ own_site d site (ap (λ i. slice_index words (at_word i)) (sym same.1) ∙ at)
      | inr ne ↦ not_stood q d low site at ne.1
    ]

    coming : (q : ℕ) (d : Site) → q < e.ports → (cs q).entering ≡ Loaded d → IsStillEntering words (cs q) q → d.arena ≢ o.arena
    coming q d low is at = elim (eqb_tells q k) [
      | inl same ↦ let h = own in let bad : Stands ≡ Loaded d = sym h.stands ∙ sym (ap (λ i. (cs i).entering) same.1) ∙ is in absurd cc
      | inr ne ↦ let h = own in subst (NotInto o.arena) is ((h.out q (omega (arith, done, low)) low ne.1).loaded at)
    ]

    owner_then : (q : ℕ) (t : OwnedArena) → IsOwner e words cs now holds q t → IsOwner e words cs now holds' q t
    owner_then q t h = record {
      stands = h.stands;
      arena = h.arena;
      apart = h.apart;
      word = h.word;
      looked = h.looked;
      order = h.order;
      few = h.few;
      out = h.out;
      older = h.older;
      held = h.held;
      all = h.all;
      none = λ some. put_all (λ i (u : Option ℕ). holds i ≡ None → u ≡ None) o.arena None holds t.arena (λ _ _. refl) (λ _ is. is) (h.none some);
    }

    owner_of : (q : ℕ) (t : Option OwnedArena) → IfSome t (IsOwner e words cs now holds q) → IfSome t (IsOwner e words cs now holds' q)
    owner_of q None h = tt
    owner_of q (Some t) h = owner_then q t h

    emptied : LawfulControl e words cs now holds'
    emptied = record {
      current = w.current;
      site = w.site;
      present = put_other o.arena None holds now.arena unlike ∙ w.present;
      earlier = λ x g is. w.earlier x g (keeps x g is);
      within = λ x g is. w.within x g (keeps x g is);
      sites = w.sites;
      at = w.at;
      old = w.old;
      past = w.past;
      stands = λ q d low site at. put_other o.arena None holds d.arena (stood q d low site at) ∙ w.stands q d low site at;
      comes = λ q d low is at. put_other o.arena None holds d.arena (coming q d low is at) ∙ w.comes q d low is at;
      owners = λ q low. owner_of q (cs q).owned (w.owners q low);
    }

    abbrev c : ℕ → Control
    c next = record (cs k) { owned = Some (record o { set = next }) }

    same_put : (next j : ℕ) (a : Site) → MayPut (c next) j a → MayPut (cs k) j a
    same_put next j a may =
        let same : record o { set = next } ≡ may.owned = cc in
        record {
          owned = o;
          is = owned;
          port = ap (λ (t : OwnedArena). t.clean) same ∙ may.port;
          entering_word = ap (λ (t : OwnedArena). t.entering_word) same ∙ may.entering_word;
          again = ap (λ (t : OwnedArena). t.again) same ∙ may.again;
        }

    own_more : (next : ℕ) → IsOwner e words cs now holds' k (record o { set = next })
    own_more next = let h = own in record {
      stands = h.stands;
      arena = h.arena;
      apart = h.apart;
      word = h.word;
      looked = h.looked;
      order = h.order;
      few = h.few;
      out = h.out;
      older = h.older;
      held = h.held;
      all = λ _. done;
      none = λ _. put_same o.arena None holds;
    }

    pub set_control : (next : ℕ) → LawfulControl e words (put k (c next) cs) now holds'
    set_control next = knows_more e words cs now holds' emptied k below (c next) refl refl (w.past k below) (same_put next) (own_more next)

module _ (e : Plan) (words : List ℕ) (ports : ℕ → Port) (b : Beside) (w : LawfulEpochs e words ports b) where
  -- the slots of an arena that weren't claimed are 0, whether it holds an epoch or none
  clear_before : (y : ℕ) → y < e.arenas → HasClearSlots e words y
  clear_before y inside = by (b.holds y) refl
    where
      by : (t : Option Epoch) → b.holds y ≡ t → HasClearSlots e words y
      by None is = w.clear y inside is
      by (Some r) is = λ l from less.
          let a = w.arenas y r is in
          let m = a.lawful.memory in
          let pool = w.plan.sizes.pool.0 in
          let claimed : slice_index (arena_words e words y) (slot_counter e.sizes) ≡ slice_index words (base e y + slot_counter e.sizes) =
          plain_at e words y (slot_counter e.sizes) (omega arith) ∙ plain_other e words y (slot_counter e.sizes) (slice_index words (base e y + slot_counter e.sizes)) (omega arith) in
          sym (plain_at e words y (slot_word e.sizes l) (omega (arith, less))
          ∙ plain_other e words y (slot_word e.sizes l) (slice_index words (base e y + slot_word e.sizes l)) (omega arith))
          ∙ m.unclaimed l (omega (arith, claimed, from)) less

module _ (e : Plan) (words : List ℕ) (ports : ℕ → Port) (b : Beside) (k : ℕ) (o : OwnedArena) (v next : ℕ) (w : LawfulEpochs e words ports b) (below : k < e.ports)
    (owned : (ports k).control.owned ≡ Some o)
    (done : o.clean ≡ e.ports) (goes : o.set < next) (most : next ≤ first_free e.sizes + e.sizes.m) (passed : e.sizes.m ≤ (ports k).passed)
    (value : slice_index words current_word ≡ packed (ports k).control.here → (i : ℕ) → o.set ≤ i → i < next → IsToBeSet e.sizes i →
    slice_index (slice_set words (set_word e o.arena o.set) v) (set_word e o.arena i) ≡ next_epoch_word e b i)
    (clears : ClearsSlots e o next (slice_set words (set_word e o.arena o.set) v)) (records : HasClearRecords e (slice_set words (set_word e o.arena o.set) v) o.arena) where
  more : o.set < first_free e.sizes + e.sizes.m
  more = omega (arith, goes, most)

  mine : IsOwner e (control_words e words) (controls ports) (site_now b) (numbers b) k o
  mine = own e (control_words e words) (controls ports) (site_now b) (numbers b) w.control k below o owned done

  spot_is : (j : ℕ) × (j < span e) × (set_word e o.arena o.set ≡ base e o.arena + j)
  spot_is = let pool = w.plan.sizes.pool.0 in set_index e o.arena o.set pool more

  abbrev after : List ℕ
  after = slice_set words (set_word e o.arena o.set) v

  spot_high : control_size e ≤ set_word e o.arena o.set
  spot_high = let p = spot_is in let at = p.2 in omega (arith, at)

  other : (i : ℕ) → i ≢ set_word e o.arena o.set → slice_index after i ≡ slice_index words i
  other i ne = get_or-set_other words (set_word e o.arena o.set) i v 0 ne

  control_is : control_words e after ≡ control_words e words
  control_is = same_of (λ i. slice_index after i) (λ i. slice_index words i) 0 (control_size e) (λ i _ high. let up = spot_high in other i (omega (arith, up, high)))

  -- a word of another arena
  away : (y i : ℕ) → y ≢ o.arena → i < span e → base e y + i ≢ set_word e o.arena o.set
  away y i ne low = let p = spot_is in let at = p.2 in let less = p.1 in (λ same. far y i p.0 ne low less (same ∙ at))
    where
      far : (y i j : ℕ) → y ≢ o.arena → i < span e → j < span e → base e y + i ≡ base e o.arena + j → ⊥
      far y i j ne low less same = elim (cases_lt y o.arena) [
        | inl under ↦ let up = bases_up e y o.arena under in omega (arith, up, low, same)
        | inr over ↦ let up = bases_up e o.arena y (omega (arith, over, ne)) in omega (arith, up, less, same)
      ]

  -- another arena is as it was
  arena_kept : (y : ℕ) → y ≢ o.arena → (r : Epoch) (F : Type 0) → IsArena e (arena_words e words y) (component_words e words y) (carried_words e words y) r F →
      IsArena e (arena_words e after y) (component_words e after y) (carried_words e after y) r F
  arena_kept y ne r F h =
      let ws : arena_words e after y ≡ arena_words e words y = same_of (λ i. plain e i (slice_index after (base e y + i))) (λ i. plain e i (slice_index words (base e y + i))) 0 (total e.sizes)
      (λ i _ high. ap (plain e i) (other (base e y + i) (away y i ne (omega (arith, high))))) in
      let cs : component_words e after y ≡ component_words e words y = same_of (λ j. slice_index after (base e y + j)) (λ j. slice_index words (base e y + j)) 0 e.sizes.m
      (λ j _ high. other (base e y + j) (away y j ne (omega (arith, high)))) in
      let ss : carried_words e after y ≡ carried_words e words y = same_of (λ j. slice_index after (carried_word e y j)) (λ j. slice_index words (carried_word e y j)) 0 e.sizes.m
      (λ j _ high. other (carried_word e y j) (λ is. away y (total e.sizes + j) ne (omega (arith, high)) (omega (arith, is)))) in
      subst (λ (l : List ℕ). IsArena e (arena_words e after y) (component_words e after y) l r F) (sym ss)
      (subst (λ (l : List ℕ). IsArena e (arena_words e after y) l (carried_words e words y) r F) (sym cs)
      (subst (λ (l : List ℕ). IsArena e l (component_words e words y) (carried_words e words y) r F) (sym ws) h))

  abbrev q' : Port
  q' = having_set (ports k) o next

  abbrev b' : Beside
  b' = vacated b o.arena

  held : (y : ℕ) (r : Epoch) → b'.holds y ≡ Some r → (y ≢ o.arena) × (b.holds y ≡ Some r)
  held y r is = elim (eqb_tells y o.arena) [
    | inl same ↦ let none : None ≡ Some r = sym (put_same o.arena None b.holds) ∙ sym (ap b'.holds same.1) ∙ is in absurd cc
    | inr ne ↦ (ne.1, sym (put_other o.arena None b.holds y ne.1) ∙ is)
  ]

  site_word : (q : ℕ) → q < e.ports → (ports q).control.entering ≡ Stands → slice_index (control_words e words) (at_word q) ≡ packed (ports q).control.here
  site_word q low is = subst (IsSiteWord e (control_words e words) q (ports q).control.here) is (w.control.at q low)

  own_site : (d : Site) → IsSite e d → slice_index (control_words e words) (at_word k) ≡ packed d → d.arena ≢ o.arena
  own_site d there at =
      let h = mine in
      let both = packed_arena e (ports k).control.here d w.plan.arenas (w.control.sites k below).arena there.arena (sym (site_word k below h.stands) ∙ at) in
      λ is. h.apart (both.1 ∙ is)

  not_here : (q : ℕ) → q < e.ports → (ports q).control.entering ≡ Stands → (ports q).control.here.arena ≢ o.arena
  not_here q low is = elim (eqb_tells q k) [
    | inl same ↦ let h = mine in λ same_arena. h.apart (ap (λ i. (ports i).control.here.arena) (sym same.1) ∙ same_arena)
    | inr ne ↦ not_stood e (control_words e words) (controls ports) (site_now b) (numbers b) w.control k below o owned done q (ports q).control.here low (w.control.sites q low)
        (site_word q low is) ne.1
  ]

  control_then : LawfulControl e (control_words e after) (controls (put k q' ports)) (site_now b') (numbers b')
  control_then =
      let c : Control = record (ports k).control { owned = Some (record o { set = next }) } in
      let h = set_control e (control_words e words) (controls ports) (site_now b) (numbers b) w.control k below o owned done own_site next in
      let cs_is : (q : ℕ) → put k c (controls ports) q ≡ controls (put k q' ports) q = λ q. put_all (λ i (d : Control). d ≡ (put k q' ports i).control) k c (controls ports) q
      (λ _. sym (ap (λ (p : Port). p.control) (put_same k q' ports))) (λ ne. sym (ap (λ (p : Port). p.control) (put_other k q' ports q ne))) in
      let ns_is : (y : ℕ) → put o.arena None (numbers b) y ≡ numbers b' y = λ y. put_all (λ i (t : Option ℕ). t ≡ numbers b' i) o.arena None (numbers b) y
      (λ _. sym (ap (option_map (λ (r : Epoch). length r.before)) (put_same o.arena None b.holds)))
      (λ ne. sym (ap (option_map (λ (r : Epoch). length r.before)) (put_other o.arena None b.holds y ne))) in
      subst (λ (l : List ℕ). LawfulControl e l (controls (put k q' ports)) (site_now b') (numbers b')) (sym control_is)
      (subst (λ (f : ℕ → Option ℕ). LawfulControl e (control_words e words) (controls (put k q' ports)) (site_now b) f) (λ i y. ns_is y i)
      (subst (λ (f : ℕ → Control). LawfulControl e (control_words e words) f (site_now b) (put o.arena None (numbers b))) (λ i q. cs_is q i) h))

  stands_on : (q : ℕ) (p : Port) → p.control.here.arena ≢ o.arena → IsStanding b q p → IsStanding b' q p
  stands_on q p ne s = record { epoch = s.epoch; is = put_other o.arena None b.holds p.control.here.arena ne ∙ s.is; before = s.before; part = s.part; passed = s.passed; over = s.over }

  -- what another port has set is as it was
  set_other : (q : ℕ) (t : OwnedArena) → q < e.ports → q ≢ k → (ports q).control.owned ≡ Some t → IsSetting e words b (ports q) t → IsSetting e after b' (ports q) t
  set_other q t low ne is h =
      let theirs : IsOwner e (control_words e words) (controls ports) (site_now b) (numbers b) q t =
      subst (λ (t : Option OwnedArena). IfSome t (IsOwner e (control_words e words) (controls ports) (site_now b) (numbers b) q)) is (w.control.owners q low) in
      let m = mine in
      let a = theirs.word in
      let c = m.word in
      let apart : t.arena ≢ o.arena = (λ same. let moved = ap (λ y. slice_index (control_words e words) (1 + e.ports + y)) same in ne (omega (arith, a, c, moved))) in
      let up = spot_high in
      record {
        few = h.few;
        sealed = h.sealed;
        each = λ at i less asked.
            let few = h.few in
            let pool = w.plan.sizes.pool.0 in
            let p = set_index e t.arena i pool (omega (arith, less, few)) in
            other (set_word e t.arena i) (λ same. away t.arena p.0 apart p.1 (sym p.2 ∙ same)) ∙ h.each (sym (other current_word (omega (arith, up))) ∙ at) i less asked;
        cleared = λ l less set. other (base e t.arena + slot_word e.sizes l) (away t.arena (slot_word e.sizes l) apart (omega (arith, less))) ∙ h.cleared l less set;
      }

  own_setting : IsSetting e words b (ports k) o
  own_setting = subst (λ (t : Option OwnedArena). IfSome t (IsSetting e words b (ports k))) owned (w.setting k below)

  -- each slot that counts as set is 0
  cleared_then : (l : ℕ) → l < e.sizes.slots → e.sizes.slots ≤ l + next → slice_index after (base e o.arena + slot_word e.sizes l) ≡ 0
  cleared_then l less set = elim (cases_lt (l + o.set) e.sizes.slots) [
    | inl now ↦ clears l now set
    | inr thereafter ↦
        let pool = w.plan.sizes.pool.0 in
        let h = own_setting in
        other (base e o.arena + slot_word e.sizes l) (λ same. let number = slot_number e o.arena l o.set pool less (sym same) in omega (arith, number, thereafter)) ∙ h.cleared l less thereafter
  ]

  -- the slots that weren't claimed are 0 after the store too
  clear_then : (y : ℕ) → y < e.arenas → HasClearSlots e after y
  clear_then y inside l from less = elim (eqb_tells y o.arena) [
    | inl same ↦ subst (λ z. slice_index after (base e z + slot_word e.sizes l) ≡ 0) (sym same.1) (own_clear l (subst (λ z. slice_index after (base e z + slot_counter e.sizes) ≤ l) same.1 from) less)
    | inr ne ↦
        let count = other (base e y + slot_counter e.sizes) (away y (slot_counter e.sizes) ne.1 (omega arith)) in
        other (base e y + slot_word e.sizes l) (away y (slot_word e.sizes l) ne.1 (omega (arith, less))) ∙ clear_before e words ports b w y inside l (omega (arith, count, from)) less
  ]
    where
      own_clear : (l : ℕ) → slice_index after (base e o.arena + slot_counter e.sizes) ≤ l → l < e.sizes.slots → slice_index after (base e o.arena + slot_word e.sizes l) ≡ 0
      own_clear l from less = elim (cases_lt (l + next) e.sizes.slots) [
        | inr set ↦ cleared_then l less set
        | inl free ↦
            let pool = w.plan.sizes.pool.0 in
            let m = mine in
            let count = other (base e o.arena + slot_counter e.sizes) (λ same. let number = counter_number e o.arena o.set pool (sym same) in omega (arith, number, free, goes)) in
            other (base e o.arena + slot_word e.sizes l) (λ same. let number = slot_number e o.arena l o.set pool less (sym same) in omega (arith, number, free, goes))
            ∙ clear_before e words ports b w o.arena m.arena l (omega (arith, count, from)) less
      ]

  -- and so are the initial records
  records_then : (y : ℕ) → y < e.arenas → HasClearRecords e after y
  records_then y inside = elim (eqb_tells y o.arena) [
    | inl same ↦ subst (HasClearRecords e after) (sym same.1) records
    | inr ne ↦
        let pool = w.plan.sizes.pool.0 in
        records_same e words after y (λ i from low. other (base e y + i) (away y i ne.1 (omega (arith, low, pool)))) (records_before e words ports b w y inside)
  ]

  set_more : IsSetting e after b' q' (record o { set = next })
  set_more =
      let h = own_setting in
      let up = spot_high in
      let pool = w.plan.sizes.pool.0 in
      record {
        few = most;
        sealed = λ _. passed;
        each = λ at i less asked.
            let was : slice_index words current_word ≡ packed (ports k).control.here = sym (other current_word (omega (arith, up))) ∙ at in
            elim (cases_lt i o.set) [
              | inl low ↦ other (set_word e o.arena i) (set_apart e o.arena i o.set pool (omega (arith, low))) ∙ h.each was i low asked
              | inr from ↦ value was i from less asked
            ];
        cleared = cleared_then;
      }

  setting_then : (q : ℕ) → q < e.ports → IfSome (put k q' ports q).control.owned (IsSetting e after b' (put k q' ports q))
  setting_then q low = put_all (λ i (p : Port). i < e.ports → IfSome p.control.owned (IsSetting e after b' p)) k q' ports q
      (λ _ _. set_more) (λ ne low. by q ne (ports q).control.owned refl low (w.setting q low)) low
    where
      by : (q : ℕ) → q ≢ k → (t : Option OwnedArena) → (ports q).control.owned ≡ t → q < e.ports → IfSome t (IsSetting e words b (ports q)) → IfSome t (IsSetting e after b' (ports q))
      by q ne None is low h = tt
      by q ne (Some t) is low h = set_other q t low ne is h

  pub sets_on : LawfulEpochs e after (put k q' ports) b'
  sets_on =
      let apart = unlike e (control_words e words) (controls ports) (site_now b) (numbers b) w.control k below o owned done in
      record {
        plan = w.plan;
        count = length-set words (set_word e o.arena o.set) v ∙ w.count;
        control = control_then;
        now = (w.now.0, put_other o.arena None b.holds b.arena apart ∙ w.now.1, w.now.2, w.now.3);
        finished = λ y r is ne. w.finished y r (held y r is).1 ne;
        arenas = λ y r is. arena_kept y (held y r is).0 r (y ≢ b.arena) (w.arenas y r (held y r is).1);
        standing = λ q low. put_all (λ i (p : Port). i < e.ports → p.control.entering ≡ Stands → IsStanding b' i p) k q' ports q
            (λ _ _ is. let s = w.standing k below is in stands_on k q' (not_here k below is)
            (record { epoch = s.epoch; is = s.is; before = s.before; part = s.part; passed = s.passed; over = s.over }))
            (λ _ low is. stands_on q (ports q) (not_here q low is) (w.standing q low is)) low;
        new = λ q y r low is. put_all (λ i (p : Port). i < e.ports → p.control.here.epoch < length r.before → IsNewPart e i r) k q' ports q
            (λ _ low less. w.new k y r low (held y r is).1 less) (λ _ low less. w.new q y r low (held y r is).1 less) low;
        setting = setting_then;
        clear = λ y inside _. clear_then y inside;
        records = λ y inside _. records_then y inside;
      }

pub sets_stay_lawful : SetsStayLawful
sets_stay_lawful e words ports b k o v next w below owned done goes most passed value clears records = sets_on e words ports b k o v next w below owned done goes most passed value clears records

-- a store of 0 in a slot that is 0 changes nothing
pub clear_slots_count_as_set : ClearSlotsCountAsSet
clear_slots_count_as_set e words ports b k o next w below owned done goes free passed =
    subst (λ (l : List ℕ). LawfulEpochs e l (put k (having_set (ports k) o next) ports) (vacated b o.arena)) same
    (sets_on e words ports b k o (slice_index words (set_word e o.arena o.set)) next w below owned done goes (omega (arith, free)) passed
    (λ at i from less asked. ap (λ (l : List ℕ). slice_index l (set_word e o.arena i)) same ∙ ap (λ n. slice_index words n) (slot_set e o.arena i (omega (arith, free, less)))
    ∙ zero (e.sizes.slots - (i + 1)) (omega (arith, free, less)) (omega (arith, free, less)) ∙ sym (slot_next i (omega (arith, free, less))))
    (λ l now set. ap (λ (l' : List ℕ). slice_index l' (base e o.arena + slot_word e.sizes l)) same ∙ zero l (omega (arith, now)) (omega (arith, set, free)))
    (subst (λ (l : List ℕ). HasClearRecords e l o.arena) (sym same) (records_before e words ports b w o.arena mine.arena)))
  where
    mine : IsOwner e (control_words e words) (controls ports) (site_now b) (numbers b) k o
    mine = own e (control_words e words) (controls ports) (site_now b) (numbers b) w.control k below o owned done

    same : slice_set words (set_word e o.arena o.set) (slice_index words (set_word e o.arena o.set)) ≡ words
    same = set-get_or words (set_word e o.arena o.set) 0

    zero : (l : ℕ) → l < e.sizes.slots → slice_index words (base e o.arena + slot_counter e.sizes) ≤ l → slice_index words (base e o.arena + slot_word e.sizes l) ≡ 0
    zero l less from =
        let m = mine in
        clear_before e words ports b w o.arena m.arena l from less

    slot_next : (i : ℕ) → i < e.sizes.slots → next_epoch_word e b i ≡ 0
    slot_next i less =
        ap (λ (c : Bool). if c then opening_word e.sizes (opened_after e.opening (b.log ∷ b.before)).values (set_offset e.sizes i)
        else stamp_after e.opening (b.log ∷ b.before) (i - first_free e.sizes)) (lt-ltb i (first_free e.sizes) (omega (arith, less)))
        ∙ ap (opening_word e.sizes (opened_after e.opening (b.log ∷ b.before)).values) (slot_offset e.sizes i less)
        ∙ slots_open e.sizes (opened_after e.opening (b.log ∷ b.before)).values (e.sizes.slots - (i + 1)) (omega (arith, less))
