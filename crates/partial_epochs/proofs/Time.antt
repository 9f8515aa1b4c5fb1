-- An entering port enters no older epoch than the one that was the current one as it stored its entering word.
use Rattle.partial_epochs.proofs.{Common.{ℕ, ◌≡◌, ◌≢◌, ◌+◌, ◌%◌, ◌^◌, ◌<◌, ◌≤◌, ◌==◌, ◌⊎◌, Bool, true, false, if◌then◌else◌, Some, None, List, slice_index, slice_set, refl, sym, ap, subst, ◌∙◌, inl, inr, arith, eqb_tells, get_or-set_same, get_or-set_other, some_same, words_after, Step, Load, Store, Exchange, Add, put, IsSite, Site, Plan, at_word, base, control_words, current_word, entering_from, packed, based_step, set_word, Control, OwnedArena, Port, StoredEntering, Loaded, IsSiteWord, IsEarlier, MayPut, Beside, LawfulEpochs, site_now, arrived_port, having_loaded, having_looked, having_put, owning_port, having_published, next_site, ArrivalsKeepTime, AsidesKeepTime, EntriesKeepTime, IsBesideTime, KeepsTime, LoadedEnteringWordsKeepTime, LooksKeepTime, EnteringWordsKeepTime, OpeningsKeepTime, PublishesKeepTime, PutsKeepTime, StepsKeepSites}, Entering.{cw_at, current_is, held_entering, entering_epoch, not_entering_word}, Lists.{put_all, put_other, put_same}, Offsets.packed_arena}

-- an arena that a port owns, and none
none_some : (o : OwnedArena) → None ≡ Some o → ⊥
none_some o is = cc

-- a port that owns no arena, or holds no entering word after which it has looked, puts nobody
pub puts_nobody : (c : Control) (j : ℕ) (a : Site) → c.owned ≡ None → MayPut c j a → ⊥
puts_nobody c j a free may = none_some may.owned (sym free ∙ may.is)

-- an owned arena whose port has not looked again
pub not_again : (c : Control) (o : OwnedArena) (j : ℕ) (a : Site) → c.owned ≡ Some o → o.again ≡ false → MayPut c j a → ⊥
not_again c o j a owned off may =
    let same : o ≡ may.owned = some_same (sym owned ∙ may.is) in
    let bad : false ≡ true = sym off ∙ ap (λ (t : OwnedArena). t.again) same ∙ may.again in
    absurd cc

-- an owner that has set one word more puts whom it might put before
pub set_puts : (c d : Control) (o : OwnedArena) (next j : ℕ) (a : Site) → c.owned ≡ Some o → d.owned ≡ Some (record o { set = next }) → MayPut d j a → MayPut c j a
set_puts c d o next j a was is may =
    let same : record o { set = next } ≡ may.owned = some_same (sym is ∙ may.is) in
    record {
      owned = o;
      is = was;
      port = ap (λ (t : OwnedArena). t.clean) same ∙ may.port;
      entering_word = ap (λ (t : OwnedArena). t.entering_word) same ∙ may.entering_word;
      again = ap (λ (t : OwnedArena). t.again) same ∙ may.again;
    }

pub asides_keep_time : AsidesKeepTime
asides_keep_time e words words' ports ports' now thereafter since s t = record {
  past = λ k low. let was = t.past k low in let up = s.later in omega (arith, was, up);
  loaded = λ k c low is. t.loaded k c low (sym (s.entering k low) ∙ is);
  put = λ k c low site at. t.put k c low site (sym (s.at k low) ∙ at);
  may_put = λ q k a inside low may at.
      subst (λ (d : Site). since k ≤ d.epoch) (sym (s.here q inside)) (t.may_put q k a inside low (s.puts q k a inside may) (sym (s.at k low) ∙ at));
}

-- port k alone changes, and stays where it is
module _ (e : Plan) (words words' : List ℕ) (ports : ℕ → Port) (k : ℕ) (p : Port) (now thereafter : Site) (at : (q : ℕ) → q < e.ports → slice_index words' (at_word q) ≡ slice_index words (at_word q))
    (here : p.control.here ≡ (ports k).control.here) (entering : p.control.entering ≡ (ports k).control.entering) (puts : (j : ℕ) (a : Site) → MayPut p.control j a → MayPut (ports k).control j a)
    (later : now.epoch ≤ thereafter.epoch) where
  pub one_aside : IsBesideTime e words words' ports (put k p ports) now thereafter
  one_aside = record {
    at = at;
    here = λ q _. put_all (λ i (r : Port). r.control.here ≡ (ports i).control.here) k p ports q (λ _. here) (λ _. refl);
    entering = λ q _. put_all (λ i (r : Port). r.control.entering ≡ (ports i).control.entering) k p ports q (λ _. entering) (λ _. refl);
    puts = λ q j a _. put_all (λ i (r : Port). MayPut r.control j a → MayPut (ports i).control j a) k p ports q (λ _. puts j a) (λ _ may. may);
    later = later;
  }

pub openings_keep_time : OpeningsKeepTime
openings_keep_time e words = record {
  past = λ k low. omega arith;
  loaded = λ k c low is. omega arith;
  put = λ k c low site at. omega arith;
  may_put = λ q k a inside low may at. omega arith;
}

pub entering_words_keep_time : EnteringWordsKeepTime
entering_words_keep_time e words ports b k since w below stands free t = record {
  past = λ q low. put_all (λ i (n : ℕ). i < e.ports → n ≤ (site_now b).epoch) k (site_now b).epoch since q (λ _ _. omega arith) (λ _ low. t.past q low) low;
  loaded = λ q c low is. loaded_then q c low is (eqb_tells q k);
  put = λ q c low site at. put_then q c low site at (eqb_tells q k);
  may_put = λ q j a inside low may at. put_all (λ i (r : Port). i < e.ports → MayPut r.control j a → since' j ≤ r.control.here.epoch) k p ports q
      (λ _ _ may. absurd (puts_nobody p.control j a free may)) (λ _ inside may. may_then q j a inside low may at (eqb_tells j k)) inside may;
}
  where
    p : Port
    p = record (ports k) { control = record (ports k).control { entering = StoredEntering } }

    since' : ℕ → ℕ
    since' = put k (site_now b).epoch since

    words' : List ℕ
    words' = slice_set words (at_word k) (entering_from (ports k).control.here)

    other : (q : ℕ) → q ≢ k → slice_index words' (at_word q) ≡ slice_index words (at_word q)
    other q ne = get_or-set_other words (at_word k) (at_word q) (entering_from (ports k).control.here) 0 (omega (arith, ne))

    own_word_is : slice_index words' (at_word k) ≡ entering_from (ports k).control.here
    own_word_is = let count = w.count in get_or-set_same words (at_word k) (entering_from (ports k).control.here) 0 (omega (arith, count, below))

    loaded_then : (q : ℕ) (c : Site) → q < e.ports → (put k p ports q).control.entering ≡ Loaded c → (((q == k) ≡ true) × (q ≡ k)) ⊎ (((q == k) ≡ false) × (q ≢ k)) → since' q ≤ c.epoch
    loaded_then q c low is (inl same) =
        let bad : StoredEntering ≡ Loaded c = sym (ap (λ (r : Port). r.control.entering) (ap (put k p ports) same.1 ∙ put_same k p ports)) ∙ is in
        absurd cc
    loaded_then q c low is (inr ne) =
        let was = t.loaded q c low (sym (ap (λ (r : Port). r.control.entering) (put_other k p ports q ne.1)) ∙ is) in
        let so = put_other k (site_now b).epoch since q ne.1 in
        omega (arith, was, so)

    put_then : (q : ℕ) (c : Site) → q < e.ports → IsSite e c → slice_index words' (at_word q) ≡ packed c → (((q == k) ≡ true) × (q ≡ k)) ⊎ (((q == k) ≡ false) × (q ≢ k)) → since' q ≤ c.epoch
    put_then q c low site at (inl same) = absurd (not_entering_word e c (ports k).control.here w.plan.arenas site (sym at ∙ ap (λ i. slice_index words' (at_word i)) same.1 ∙ own_word_is))
    put_then q c low site at (inr ne) =
        let was = t.put q c low site (sym (other q ne.1) ∙ at) in
        let so = put_other k (site_now b).epoch since q ne.1 in
        omega (arith, was, so)

    may_then : (q j : ℕ) (a : Site) → q < e.ports → j < e.ports → MayPut (ports q).control j a → slice_index words' (at_word j) ≡ entering_from a →
        (((j == k) ≡ true) × (j ≡ k)) ⊎ (((j == k) ≡ false) × (j ≢ k)) → since' j ≤ (ports q).control.here.epoch
    may_then q j a inside low may at (inl same) =
        let entering_word = held_entering e words ports b k w below q a inside (subst (λ i. MayPut (ports q).control i a) same.1 may) in
        let early : a.epoch < (ports k).control.here.epoch = subst (IsEarlier a (ports k).control.here) stands entering_word.1 in
        let even = entering_epoch e a (ports k).control.here w.plan.arenas entering_word.0 (w.control.sites k below) (sym at ∙ ap (λ i. slice_index words' (at_word i)) same.1 ∙ own_word_is) in
        absurd (omega (arith, early, even))
    may_then q j a inside low may at (inr ne) =
        let was = t.may_put q j a inside low may (sym (other j ne.1) ∙ at) in
        let so = put_other k (site_now b).epoch since j ne.1 in
        omega (arith, was, so)

pub entries_keep_time : EntriesKeepTime
entries_keep_time e words ports b k since below t = record {
  past = t.past;
  loaded = λ q c low. put_all (λ i (r : Port). i < e.ports → r.control.entering ≡ Loaded c → since i ≤ c.epoch) k p ports q
      (λ _ low is. let same : site_now b ≡ c = cc in subst (λ (d : Site). since k ≤ d.epoch) same (t.past k low)) (λ _ low is. t.loaded q c low is) low;
  put = t.put;
  may_put = λ q j a inside low may at. put_all (λ i (r : Port). i < e.ports → MayPut r.control j a → since j ≤ r.control.here.epoch) k p ports q
      (λ _ inside may. t.may_put k j a inside low (record { owned = may.owned; is = may.is; port = may.port; entering_word = may.entering_word; again = may.again }) at)
      (λ _ inside may. t.may_put q j a inside low may at) inside may;
}
  where
    p : Port
    p = record (ports k) { control = record (ports k).control { entering = Loaded (site_now b) } }

pub looks_keep_time : LooksKeepTime
looks_keep_time e words ports b k o since w below here t = record {
  past = t.past;
  loaded = λ q c low. put_all (λ i (r : Port). i < e.ports → r.control.entering ≡ Loaded c → since i ≤ c.epoch) k p ports q
      (λ _ low is. t.loaded k c low is) (λ _ low is. t.loaded q c low is) low;
  put = t.put;
  may_put = λ q j a inside low may at. put_all (λ i (r : Port). i < e.ports → MayPut r.control j a → since j ≤ r.control.here.epoch) k p ports q
      (λ _ _ _. let was = t.past j low in let even = now_here in omega (arith, was, even))
      (λ _ inside may. t.may_put q j a inside low may at) inside may;
}
  where
    p : Port
    p = having_looked (ports k) o

    now_here : (site_now b).epoch ≡ (ports k).control.here.epoch
    now_here = (packed_arena e (site_now b) (ports k).control.here w.plan.arenas w.control.site.arena (w.control.sites k below).arena (sym (current_is e words ports b k w below) ∙ here)).0

pub loaded_entering_words_keep_time : LoadedEnteringWordsKeepTime
loaded_entering_words_keep_time e words ports now a k o since below t =
    let p : Port = owning_port (ports k) (having_loaded o a) in
    asides_keep_time e words words ports (put k p ports) now now since
    (one_aside e words words ports k p now now (λ q low. refl) refl refl (λ j d may. absurd (not_again p.control (having_loaded o a) j d refl refl may)) (omega arith)) t

-- the word of port q names the site d from then on, which no port leaves for an older one
module _ (e : Plan) (words words' : List ℕ) (ports : ℕ → Port) (b : Beside) (k q : ℕ) (p : Port) (d : Site) (since : ℕ → ℕ)
    (w : LawfulEpochs e words ports b) (t : KeepsTime e words ports (site_now b) since)
    (other : (i : ℕ) → i ≢ q → slice_index words' (at_word i) ≡ slice_index words (at_word i)) (there : slice_index words' (at_word q) ≡ packed d) (site : IsSite e d) (late : since q ≤ d.epoch)
    (entering : (c : Site) → p.control.entering ≡ Loaded c → (ports k).control.entering ≡ Loaded c) (nobody : (j : ℕ) (a : Site) → MayPut p.control j a → ⊥) where
  put_there : (i : ℕ) (c : Site) → i < e.ports → IsSite e c → slice_index words' (at_word i) ≡ packed c → (((i == q) ≡ true) × (i ≡ q)) ⊎ (((i == q) ≡ false) × (i ≢ q)) → since i ≤ c.epoch
  put_there i c low in_range at (inl same) =
      let both = packed_arena e d c w.plan.arenas site.arena in_range.arena (sym there ∙ sym (ap (λ n. slice_index words' (at_word n)) same.1) ∙ at) in
      let even = both.0 in
      subst (λ n. since n ≤ c.epoch) (sym same.1) (omega (arith, late, even))
  put_there i c low in_range at (inr ne) = t.put i c low in_range (sym (other i ne.1) ∙ at)

  may_there : (r j : ℕ) (a : Site) → r < e.ports → j < e.ports → MayPut (ports r).control j a → slice_index words' (at_word j) ≡ entering_from a →
      (((j == q) ≡ true) × (j ≡ q)) ⊎ (((j == q) ≡ false) × (j ≢ q)) → since j ≤ (ports r).control.here.epoch
  may_there r j a inside low may at (inl same) = absurd (not_entering_word e d a w.plan.arenas site (sym there ∙ sym (ap (λ n. slice_index words' (at_word n)) same.1) ∙ at))
  may_there r j a inside low may at (inr ne) = t.may_put r j a inside low may (sym (other j ne.1) ∙ at)

  named : KeepsTime e words' (put k p ports) (site_now b) since
  named = record {
    past = t.past;
    loaded = λ i c low. put_all (λ n (r : Port). n < e.ports → r.control.entering ≡ Loaded c → since n ≤ c.epoch) k p ports i
        (λ _ low is. t.loaded k c low (entering c is)) (λ _ low is. t.loaded i c low is) low;
    put = λ i c low in_range at. put_there i c low in_range at (eqb_tells i q);
    may_put = λ r j a inside low may at. put_all (λ n (s : Port). n < e.ports → MayPut s.control j a → since j ≤ s.control.here.epoch) k p ports r
        (λ _ _ may. absurd (nobody j a may)) (λ _ inside may. may_there r j a inside low may at (eqb_tells j q)) inside may;
  }

pub arrivals_keep_time : ArrivalsKeepTime
arrivals_keep_time e words ports b k c since w below entering t a = (
  late,
  named e words words' ports b k k p a.site since w t (λ i ne. get_or-set_other words (at_word k) (at_word i) v 0 (omega (arith, ne))) there site late
      (λ d is. absurd cc) (λ j d may. puts_nobody p.control j d refl may),
)
  where
    p : Port
    p = arrived_port e k a.site a.before

    v : ℕ
    v = if slice_index words (at_word k) == entering_from (ports k).control.here then packed c else slice_index words (at_word k)

    words' : List ℕ
    words' = slice_set words (at_word k) v

    site : IsSite e a.site
    site = subst (λ (q : Port). IsSite e q.control.here) (put_same k p ports) (a.lawful.control.sites k below)

    there : slice_index words' (at_word k) ≡ packed a.site
    there = sym (cw_at e words' (put k p ports) b k p 0 a.lawful below (at_word k) (omega (arith, below)))
        ∙ subst (λ (q : Port). IsSiteWord e (control_words e words') k q.control.here q.control.entering) (put_same k p ports) (a.lawful.control.at k below)

    late : since k ≤ a.site.epoch
    late = elim a.is [
      | inl won ↦ subst (λ (d : Site). since k ≤ d.epoch) (sym won.1) (t.loaded k c below entering)
      | inr lost ↦ t.put k a.site below site lost
    ]

pub puts_keep_time : PutsKeepTime
puts_keep_time e words ports b k o a since w below owned low entering_word again there t =
    named e words words' ports b k o.clean (having_put (ports k) o) (ports k).control.here since w t (λ i ne. get_or-set_other words (at_word o.clean) (at_word i) v 0 (omega (arith, ne))) put_there
    (w.control.sites k below) (t.may_put k o.clean a below low (record { owned = o; is = owned; port = refl; entering_word = entering_word; again = again }) there) (λ d is. is)
    (λ j d may. not_again (having_put (ports k) o).control (record o { clean = o.clean + 1; entering_word = None; again = false }) j d refl refl may)
  where
    v : ℕ
    v = if slice_index words (at_word o.clean) == entering_from a then packed (ports k).control.here else slice_index words (at_word o.clean)

    words' : List ℕ
    words' = slice_set words (at_word o.clean) v

    won : v ≡ packed (ports k).control.here
    won = elim (eqb_tells (slice_index words (at_word o.clean)) (entering_from a)) [
      | inl is ↦ ap (λ (t : Bool). if t then packed (ports k).control.here else slice_index words (at_word o.clean)) is.0
      | inr ne ↦ absurd (ne.1 there)
    ]

    put_there : slice_index words' (at_word o.clean) ≡ packed (ports k).control.here
    put_there = let count = w.count in get_or-set_same words (at_word o.clean) v 0 (omega (arith, count, low)) ∙ won

pub publishes_keep_time : PublishesKeepTime
publishes_keep_time e words ports now thereafter k o since below later t =
    let p : Port = having_published (ports k) o in
    let v : ℕ = (if slice_index words current_word == packed (ports k).control.here then packed (next_site (ports k).control.here o.arena) else slice_index words current_word) in
    asides_keep_time e words (slice_set words current_word v) ports (put k p ports) now thereafter since
    (one_aside e words (slice_set words current_word v) ports k p now thereafter (λ q low. get_or-set_other words current_word (at_word q) v 0 (omega arith)) refl refl
    (λ j d may. absurd (not_again p.control (record o { looked = false; clean = 0; entering_word = None; again = false; set = 0 }) j d refl refl may)) later) t

-- a word after those of the ports is another than each of them
behind : (e : Plan) (words : List ℕ) (k i v : ℕ) → k < e.ports → 1 + e.ports ≤ i → slice_index (slice_set words i v) (at_word k) ≡ slice_index words (at_word k)
behind e words k i v low from = get_or-set_other words i (at_word k) v 0 (omega (arith, low, from))

pub steps_keep_sites : StepsKeepSites
steps_keep_sites e words k low = record {
  arena = arena;
  set = λ x i v. behind e words k (set_word e x i) v low (set_from x i);
  taken = λ x old new. behind e words k (1 + e.ports + x) (if slice_index words (1 + e.ports + x) == old then new else slice_index words (1 + e.ports + x)) low (omega arith);
  given = λ x v. behind e words k (1 + e.ports + x) v low (omega arith);
}
  where
    arena : (x : ℕ) (step : Step) → slice_index (words_after words (based_step e x step)) (at_word k) ≡ slice_index words (at_word k)
    arena x (Load w) = refl
    arena x (Store w v) = behind e words k (base e x + w) v low (omega arith)
    arena x (Exchange w old new) = behind e words k (base e x + w) (if slice_index words (base e x + w) == old then new else slice_index words (base e x + w)) low (omega arith)
    arena x (Add w n) = behind e words k (base e x + w) ((slice_index words (base e x + w) + n) % 2 ^ 64) low (omega arith)

    set_from : (x i : ℕ) → 1 + e.ports ≤ set_word e x i
    set_from x i = search arith
