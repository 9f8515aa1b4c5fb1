-- What the steps make of the tally by which a port moves to another site, and those on owner words.
use Rattle.partial_epochs.proofs.{Common.{ℕ, ◌≡◌, ◌≢◌, ◌+◌, ◌<◌, ◌≤◌, ◌/◌, ◌%◌, ◌==◌, ◌⊎◌, nat_lt, Bool, true, false, if◌then◌else◌, Option, Some, None, IfSome, List, length, slice_index, slice_set, refl, sym, ap, subst, ◌∙◌, inl, inr, arith, eqb_tells, get_or-set_same, get_or-set_other, lt-ltb, some_same, put, IsSite, Site, Plan, arena_limit, at_word, control_words, entering_bit, entering_from, own_word, packed, Entering, OwnedArena, Port, Stands, Loaded, IsOld, IsOwner, Beside, LawfulEpochs, controls, numbers, site_now, arrived_port, Arrives, at_next_port, having_given, having_put, just_taken, owning_port, Takes, Gives, ExchangesEnteringWord, Puts, KeepsTime}, Lists.{put_all, put_other, put_same}, Tally.{IsBesideTally, IsHeld, NameAsBefore, OwnsAsBefore, counts_arrival, counts_beside, gives_looked, held_within, named_stays, owner_is, site_epoch, site_low, some_to, stands_at, use_stays, weight_as}, Weights.{sum_less, sum_within, weigh, weigh_away, weigh_here, weigh_within}}
use Rattle.std.proofs.lemmas.Bool.{le-ltb}
use Rattle.partial_epochs.specs.FreeArenas.{Counts, HasMetPort, HasSeenArrival, IsNamed, IsOwnedBySome, KeepsTally, Tally, credit, gives_at, gives_left, may_free, weight}

-- credit depends on the arrivals alone, then and at the take
credit_same : (t t' : Tally) (q : ℕ) → t'.taken q ≡ t.taken q → t'.arrivals ≡ t.arrivals → (o : Option OwnedArena) → credit t' q o ≡ credit t q o
credit_same t t' q taken arrivals None = refl
credit_same t t' q taken arrivals (Some o) = ap (λ n. if nat_lt n t'.arrivals then 1 else 0) taken ∙ ap (λ n. if nat_lt (t.taken q) n then 1 else 0) arrivals

module _ (e : Plan) (words : List ℕ) (ports : ℕ → Port) (b : Beside) (k : ℕ) (w : LawfulEpochs e words ports b) (below : k < e.ports) (since : ℕ → ℕ) (t : Tally)
    (s : KeepsTally e words ports t) where
  abbrev here : Site
  here = (ports k).control.here

  abbrev now : ℕ
  now = (site_now b).epoch

  site_here : IsSite e here
  site_here = w.control.sites k below

  low_here : packed here < entering_bit
  low_here = site_low e here w.plan.arenas site_here

  own_inside : (x : ℕ) → x < e.arenas → own_word e x < length words
  own_inside x inside = let count = w.count in omega (arith, count, inside)

  -- what an owner has met
  was_met : (o : OwnedArena) → (ports k).control.owned ≡ Some o → t.met k ≡ true → HasMetPort e words (ports k).control t k o
  was_met o is met = subst (λ (d : Option OwnedArena). IfSome d (HasMetPort e words (ports k).control t k)) is (s.met k below met)

  -- the third step of entering
  module _ (c : Site) (entering : (ports k).control.entering ≡ Loaded c) (a : Arrives e words ports b k c) (late : since k ≤ a.site.epoch) where
    abbrev arriving : Port
    arriving = arrived_port e k a.site a.before

    abbrev v : ℕ
    v = if slice_index words (at_word k) == entering_from here then packed c else slice_index words (at_word k)

    abbrev entered_words : List ℕ
    entered_words = slice_set words (at_word k) v

    -- a port that enters owns no arena
    owns_none : (o : OwnedArena) → (ports k).control.owned ≡ Some o → ⊥
    owns_none o is = let bad : Stands ≡ Loaded c = sym (owner_is e words ports b w k below o is).stands ∙ entering in absurd cc

    owned : OwnsAsBefore (ports k).control.owned arriving.control.owned
    owned o is = absurd (owns_none o is)

    site : IsSite e a.site
    site = subst (λ (q : Port). IsSite e q.control.here) (put_same k arriving ports) (a.lawful.control.sites k below)

    there : slice_index entered_words (at_word k) ≡ packed a.site
    there = stands_at e entered_words (put k arriving ports) b a.lawful k below (ap (λ (q : Port). q.control.entering) (put_same k arriving ports))
        ∙ ap (λ (q : Port). packed q.control.here) (put_same k arriving ports)

    old : a.site.epoch ≤ now
    old = subst (λ (q : Port). IsOld e now q.control.here q.control.entering) (put_same k arriving ports) (a.lawful.control.old k below)

    other : (q : ℕ) → q ≢ k → slice_index entered_words (at_word q) ≡ slice_index words (at_word q)
    other q ne = get_or-set_other words (at_word k) (at_word q) v 0 (omega (arith, ne))

    own : (x : ℕ) → x < e.arenas → slice_index entered_words (own_word e x) ≡ slice_index words (own_word e x)
    own x low = get_or-set_other words (at_word k) (own_word e x) v 0 (omega (arith, below))

    -- no word changes where the exchange is lost
    lost_word : slice_index words (at_word k) ≢ entering_from here → (q : ℕ) → slice_index entered_words (at_word q) ≡ slice_index words (at_word q)
    lost_word lost q = elim (eqb_tells q k) [
      | inl same ↦ subst (λ i. slice_index entered_words (at_word i) ≡ slice_index words (at_word i)) (sym same.1)
          (elim (eqb_tells (slice_index words (at_word k)) (entering_from here)) [
            | inl won ↦ absurd (lost won.1)
            | inr ne ↦ (let count = w.count in get_or-set_same words (at_word k) v 0 (omega (arith, count, below))) ∙ ap (λ (y : Bool). if y then packed c else slice_index words (at_word k)) ne.0
          ])
      | inr ne ↦ other q ne.1
    ]

    lost_beside : slice_index words (at_word k) ≢ entering_from here → IsBesideTally e words entered_words ports k arriving t
    lost_beside lost = record {
      at = λ q _. lost_word lost q;
      own = own;
      owned = owned;
      entering_words = tt;
      met = λ _. tt;
    }

    -- it weighs no more
    lost_less : weight_as e words arriving now since t k ≤ weight_as e words (ports k) now since t k
    lost_less =
        let one : 1 ≤ gives_left (ports k).control = subst (λ (n : Entering). 1 ≤ gives_at n (ports k).control.past (ports k).control.owned) (sym entering) (omega arith) in
        let le = weigh_within e.ports (slice_index words (at_word k)) now (since k) (credit t k (ports k).control.owned) (gives_left (ports k).control) (credit t k arriving.control.owned)
        (gives_left arriving.control) 0 (omega arith) (omega (arith, one)) in
        omega (arith, le)

    -- the step counts, won or lost
    pub counts_entry : (now' : Site) → Counts e words entered_words ports (put k arriving ports) (site_now b) now' since since t k (ExchangesEnteringWord c)
    counts_entry now' = elim (eqb_tells (slice_index words (at_word k)) (entering_from here)) [
      | inl won ↦
          let is = won.1 in
          counts_arrival e words entered_words ports k k arriving t s below other own owned (λ _. tt) (site_now b) now' since (ExchangesEnteringWord c) a.site.epoch (omega (arith, is))
          (subst (λ u. u < entering_bit) (sym there) (site_low e a.site w.plan.arenas site)) (ap (λ u. u / arena_limit) there ∙ site_epoch e a.site w.plan.arenas site) late old
          (λ ne. absurd (ne refl)) (λ q. refl) tt
      | inr lost ↦ counts_beside e words entered_words ports b k arriving t w s (lost_beside lost.1) (site_now b) now' since (ExchangesEnteringWord c) (λ _. lost_less) (λ q. refl) tt
    ]

  -- an owner puts the next port where it stands itself
  module _ (o : OwnedArena) (a : Site) (is : (ports k).control.owned ≡ Some o) (looked : o.looked ≡ true) (low : o.clean < e.ports) (entering_word : o.entering_word ≡ Some a) (again : o.again ≡ true)
      (at : slice_index words (at_word o.clean) ≡ entering_from a) (time : KeepsTime e words ports (site_now b) since) where
    abbrev put_word : ℕ
    put_word = if slice_index words (at_word o.clean) == entering_from a then packed here else slice_index words (at_word o.clean)

    abbrev put_words : List ℕ
    put_words = slice_set words (at_word o.clean) put_word

    won : put_word ≡ packed here
    won = elim (eqb_tells (slice_index words (at_word o.clean)) (entering_from a)) [
      | inl is ↦ ap (λ (y : Bool). if y then packed here else slice_index words (at_word o.clean)) is.0
      | inr ne ↦ absurd (ne.1 at)
    ]

    put_there : slice_index put_words (at_word o.clean) ≡ packed here
    put_there = (let count = w.count in get_or-set_same words (at_word o.clean) put_word 0 (omega (arith, count, low))) ∙ won

    -- the step counts
    pub counts_put : (now' : Site) → Counts e words put_words ports (put k (having_put (ports k) o) ports) (site_now b) now' since since t k (Puts o a)
    counts_put now' =
        let stands = (owner_is e words ports b w k below o is).stands in
        counts_arrival e words put_words ports k o.clean (having_put (ports k) o) t s low (λ q ne. get_or-set_other words (at_word o.clean) (at_word q) put_word 0 (omega (arith, ne)))
        (λ x _. get_or-set_other words (at_word o.clean) (own_word e x) put_word 0 (omega (arith, low)))
        (λ d was. (at_next_port o, refl, ap (λ (f : OwnedArena). f.arena) (some_same (sym is ∙ was)))) (λ _. inr looked) (site_now b) now' since (Puts o a) here.epoch (omega (arith, at))
        (subst (λ u. u < entering_bit) (sym put_there) low_here) (ap (λ u. u / arena_limit) put_there ∙ site_epoch e here w.plan.arenas site_here)
        (time.may_put k o.clean a below low (record { owned = o; is = is; port = refl; entering_word = entering_word; again = again }) at)
        (subst (IsOld e now here) stands (w.control.old k below))
        (λ _. subst (λ (d : Option OwnedArena). gives_at (ports k).control.entering (ports k).control.past (Some (at_next_port o)) ≤ gives_at (ports k).control.entering (ports k).control.past d) (sym is)
        (gives_looked (ports k).control.entering (ports k).control.past o (at_next_port o) refl))
        (λ q. refl) tt

  -- a port takes an arena
  module _ (x : ℕ) (stands : (ports k).control.entering ≡ Stands) (free : (ports k).control.owned ≡ None) (inside : x < e.arenas) (zero_there : slice_index words (own_word e x) ≡ 0)
      (present : (ports k).control.past ≡ false) where
    abbrev taker : Port
    taker = owning_port (ports k) (just_taken x)

    abbrev taken_word : ℕ
    taken_word = if slice_index words (own_word e x) == 0 then k + 1 else slice_index words (own_word e x)

    abbrev taken_words : List ℕ
    taken_words = slice_set words (own_word e x) taken_word

    abbrev taken_tally : Tally
    taken_tally = record t { taken = put k t.arrivals t.taken; met = put k false t.met }

    taken_at : (q : ℕ) → q < e.ports → slice_index taken_words (at_word q) ≡ slice_index words (at_word q)
    taken_at q low = get_or-set_other words (own_word e x) (at_word q) taken_word 0 (omega (arith, low))

    taken_alike : NameAsBefore e words taken_words
    taken_alike q low = ap (λ u. u % arena_limit) (taken_at q low)

    taken_other : (y : ℕ) → y ≢ x → slice_index taken_words (own_word e y) ≡ slice_index words (own_word e y)
    taken_other y ne = get_or-set_other words (own_word e x) (own_word e y) taken_word 0 (omega (arith, ne))

    taken_own : slice_index taken_words (own_word e x) ≡ k + 1
    taken_own = get_or-set_same words (own_word e x) taken_word 0 (own_inside x inside) ∙ elim (eqb_tells (slice_index words (own_word e x)) 0) [
      | inl none ↦ ap (λ (y : Bool). if y then k + 1 else slice_index words (own_word e x)) none.0
      | inr some ↦ absurd (some.1 zero_there)
    ]

    -- the tally is kept
    tally_taken : KeepsTally e taken_words (put k taker ports) taken_tally
    tally_taken = record {
      owners = λ y low some. elim (eqb_tells y x) [
        | inl same ↦ subst (λ i. IsOwnedBySome e taken_words (put k taker ports) i) (sym same.1)
            (record { owner = k; inside = below; word = taken_own; owned = just_taken x; is = ap (λ (r : Port). r.control.owned) (put_same k taker ports); arena = refl })
        | inr ne ↦
            let was = s.owners y low (λ none. some (taken_other y ne.1 ∙ none)) in
            record {
              owner = was.owner;
              inside = was.inside;
              word = taken_other y ne.1 ∙ was.word;
              owned = was.owned;
              is = put_all (λ i (r : Port). (ports i).control.owned ≡ Some was.owned → r.control.owned ≡ Some was.owned) k taker ports was.owner
                  (λ _ is. let bad : None ≡ Some was.owned = sym free ∙ is in absurd cc) (λ _ is. is) was.is;
              arena = was.arena;
            }
      ];
      taken = λ q low. put_all (λ i (n : ℕ). i < e.ports → n ≤ t.arrivals) k t.arrivals t.taken q (λ _ _. omega arith) (λ _ low. s.taken q low) low;
      entering_words = λ q low. put_all (λ i (r : Port). i < e.ports → IfSome r.control.owned (λ o. IfSome o.entering_word (λ d. (slice_index taken_words (at_word o.clean) ≡ entering_from d) ⊎ HasSeenArrival taken_tally i))) k taker ports q
          (λ _ _. tt)
          (λ ne low. some_to (λ (o : OwnedArena). IfSome o.entering_word (IsHeld e words t q o)) (λ (o : OwnedArena). IfSome o.entering_word (λ d. (slice_index taken_words (at_word o.clean) ≡ entering_from d) ⊎ HasSeenArrival taken_tally q))
          (ports q).control.owned (λ o _. some_to (IsHeld e words t q o) (λ d. (slice_index taken_words (at_word o.clean) ≡ entering_from d) ⊎ HasSeenArrival taken_tally q) o.entering_word (λ d _ h. elim h [
            | inl is ↦ inl (taken_at o.clean is.0 ∙ is.1)
            | inr has ↦ inr (seen q ne has)
          ])) (held_within e words ports b w t s q low)) low;
      met = λ q low. put_all (λ i (r : Port). i < e.ports → put k false t.met i ≡ true → IfSome r.control.owned (HasMetPort e taken_words r.control taken_tally i)) k taker ports q
          (λ _ _ is. let bad : false ≡ true = sym (put_same k false t.met) ∙ is in absurd cc)
          (λ ne low is. some_to (HasMetPort e words (ports q).control t q) (HasMetPort e taken_words (ports q).control taken_tally q) (ports q).control.owned (λ o _ h. record {
            looked = h.looked;
            cause = elim h.cause [
              | inl named ↦ inl (named_stays e words taken_words o.arena taken_alike named)
              | inr has ↦ inr (seen q ne has)
            ];
          }) (s.met q low (sym (put_other k false t.met q ne) ∙ is))) low;
    }
      where
        seen : (q : ℕ) → q ≢ k → HasSeenArrival t q → HasSeenArrival taken_tally q
        seen q ne has = subst (λ n. n < t.arrivals) (sym (put_other k t.arrivals t.taken q ne)) has

    -- the port weighs no more, as there has been no arrival since
    taker_weighs : weigh e.ports (slice_index taken_words (at_word k)) now (since k) (credit taken_tally k taker.control.owned) (gives_left taker.control) ≤ weight e words ports now since t k
    taker_weighs = subst (λ u. weigh e.ports u now (since k) (credit taken_tally k taker.control.owned) (gives_left taker.control) ≤ weight e words ports now since t k) (sym (taken_at k below))
        (let le = weigh_within e.ports (slice_index words (at_word k)) now (since k) (credit t k (ports k).control.owned) (gives_left (ports k).control) (credit taken_tally k taker.control.owned) (gives_left taker.control) 0
        (omega (arith, nothing)) (omega (arith, gives)) in omega (arith, le))
      where
        nothing : credit taken_tally k taker.control.owned ≡ 0
        nothing = ap (λ n. if nat_lt n t.arrivals then 1 else 0) (put_same k t.arrivals t.taken) ∙ ap (λ (y : Bool). if y then 1 else 0) (le-ltb t.arrivals t.arrivals (omega arith))

        gives : gives_left taker.control ≤ gives_left (ports k).control
        gives = subst (λ (d : Option OwnedArena). gives_at (ports k).control.entering (ports k).control.past (Some (just_taken x)) ≤ gives_at (ports k).control.entering (ports k).control.past d) (sym free)
            (subst (λ (n : Entering). gives_at n (ports k).control.past (Some (just_taken x)) ≤ gives_at n (ports k).control.past None) (sym stands)
            (subst (λ (y : Bool). gives_at Stands y (Some (just_taken x)) ≤ gives_at Stands y None) (sym present) (omega arith)))

    -- no port weighs more
    weights_taken : (q : ℕ) → q < e.ports → weight e taken_words (put k taker ports) now since taken_tally q ≤ weight e words ports now since t q
    weights_taken q low = put_all (λ i (r : Port). i < e.ports → weigh e.ports (slice_index taken_words (at_word i)) now (since i) (credit taken_tally i r.control.owned) (gives_left r.control)
        ≤ weight e words ports now since t i) k taker ports q (λ _ _. taker_weighs)
        (λ ne low. subst (λ u. weigh e.ports u now (since q) (credit taken_tally q (ports q).control.owned) (gives_left (ports q).control) ≤ weight e words ports now since t q) (sym (taken_at q low))
        (subst (λ c. weigh e.ports (slice_index words (at_word q)) now (since q) c (gives_left (ports q).control) ≤ weight e words ports now since t q)
        (sym (credit_same t taken_tally q (put_other k t.arrivals t.taken q ne) refl (ports q).control.owned)) (omega arith))) low

    -- the step counts
    pub counts_take : (now' : Site) → Counts e words taken_words ports (put k taker ports) (site_now b) now' since since t k (Takes x)
    counts_take now' = record {
      there = taken_tally;
      keeps = tally_taken;
      grows = omega arith;
      met = λ q. refl;
      less = λ same. subst (λ n. t.freed + may_free e taken_words (put k taker ports) n since taken_tally ≤ t.freed + may_free e words ports now since t) (sym same)
          (let all = sum_within (weight e words ports now since t) (weight e taken_words (put k taker ports) now since taken_tally) e.ports weights_taken in omega (arith, all));
      stays = λ _ q y _ low h. elim (eqb_tells y x) [
        | inl same ↦ elim h [
          | inl named ↦ inl (named_stays e words taken_words y taken_alike named)
          | inr other ↦ absurd (other.0 (ap (λ i. slice_index words (own_word e i)) same.1 ∙ zero_there))
        ]
        | inr ne ↦ use_stays e words taken_words q y taken_alike (taken_other y ne.1) h
      ];
      leaves = tt;
    }

  -- an owner gives its arena back
  module _ (o : OwnedArena) (is : (ports k).control.owned ≡ Some o) (may : ((ports k).control.past ≡ true) ⊎ (t.met k ≡ true)) where
    abbrev giver : Port
    giver = having_given (ports k)

    abbrev given_words : List ℕ
    given_words = slice_set words (own_word e o.arena) 0

    abbrev given_tally : ℕ → Tally
    given_tally d = record t { freed = t.freed + d }

    as_owner : IsOwner e (control_words e words) (controls ports) (site_now b) (numbers b) k o
    as_owner = owner_is e words ports b w k below o is

    given_at : (q : ℕ) → q < e.ports → slice_index given_words (at_word q) ≡ slice_index words (at_word q)
    given_at q low = get_or-set_other words (own_word e o.arena) (at_word q) 0 0 (omega (arith, low))

    given_alike : NameAsBefore e words given_words
    given_alike q low = ap (λ u. u % arena_limit) (given_at q low)

    given_other : (y : ℕ) → y ≢ o.arena → slice_index given_words (own_word e y) ≡ slice_index words (own_word e y)
    given_other y ne = get_or-set_other words (own_word e o.arena) (own_word e y) 0 0 (omega (arith, ne))

    given_own : slice_index given_words (own_word e o.arena) ≡ 0
    given_own = get_or-set_same words (own_word e o.arena) 0 0 (own_inside o.arena as_owner.arena)

    -- the tally is kept, however many arenas it counts as freed
    tally_given : (d : ℕ) → KeepsTally e given_words (put k giver ports) (given_tally d)
    tally_given d = record {
      owners = λ y low some.
          let ne : y ≢ o.arena = λ same. some (ap (λ i. slice_index given_words (own_word e i)) same ∙ given_own) in
          let was = s.owners y low (λ none. some (given_other y ne ∙ none)) in
          record {
            owner = was.owner;
            inside = was.inside;
            word = given_other y ne ∙ was.word;
            owned = was.owned;
            is = put_all (λ i (r : Port). (ports i).control.owned ≡ Some was.owned → r.control.owned ≡ Some was.owned) k giver ports was.owner
                (λ _ held. absurd (ne (sym was.arena ∙ ap (λ (f : OwnedArena). f.arena) (some_same (sym held ∙ is))))) (λ _ held. held) was.is;
            arena = was.arena;
          };
      taken = s.taken;
      entering_words = λ q low. put_all (λ i (r : Port). i < e.ports → IfSome r.control.owned (λ f. IfSome f.entering_word (λ d. (slice_index given_words (at_word f.clean) ≡ entering_from d) ⊎ HasSeenArrival t i))) k giver ports q
          (λ _ _. tt)
          (λ ne low. some_to (λ (f : OwnedArena). IfSome f.entering_word (IsHeld e words t q f)) (λ (f : OwnedArena). IfSome f.entering_word (λ d. (slice_index given_words (at_word f.clean) ≡ entering_from d) ⊎ HasSeenArrival t q))
          (ports q).control.owned (λ f _. some_to (IsHeld e words t q f) (λ d. (slice_index given_words (at_word f.clean) ≡ entering_from d) ⊎ HasSeenArrival t q) f.entering_word (λ d _ h. elim h [
            | inl held ↦ inl (given_at f.clean held.0 ∙ held.1)
            | inr has ↦ inr has
          ])) (held_within e words ports b w t s q low)) low;
      met = λ q low. put_all (λ i (r : Port). i < e.ports → t.met i ≡ true → IfSome r.control.owned (HasMetPort e given_words r.control (given_tally d) i)) k giver ports q
          (λ _ _ _. tt)
          (λ ne low met. some_to (HasMetPort e words (ports q).control t q) (HasMetPort e given_words (ports q).control (given_tally d) q) (ports q).control.owned (λ f _ h. record {
            looked = h.looked;
            cause = elim h.cause [
              | inl named ↦ inl (named_stays e words given_words f.arena given_alike named)
              | inr has ↦ inr has
            ];
          }) (s.met q low met)) low;
    }

    -- d arenas are counted as freed, and the port weighs less by d
    module _ (d : ℕ) (leaves : t.freed + d ≡ t.freed → IsNamed e given_words o.arena) (less : weight_as e words giver now since t k + d ≤ weight_as e words (ports k) now since t k) (now' : Site) where
      giver_weighs : weight e given_words (put k giver ports) now since (given_tally d) k + d ≤ weight e words ports now since t k
      giver_weighs = subst (λ u. weigh e.ports u now (since k) (credit t k (put k giver ports k).control.owned) (gives_left (put k giver ports k).control) + d ≤ weight e words ports now since t k)
          (sym (given_at k below)) (subst (λ (r : Port). weight_as e words r now since t k + d ≤ weight e words ports now since t k) (sym (put_same k giver ports)) less)

      others_weigh : (q : ℕ) → q < e.ports → q ≢ k → weight e given_words (put k giver ports) now since (given_tally d) q ≤ weight e words ports now since t q
      others_weigh q low ne = subst (λ u. weigh e.ports u now (since q) (credit t q (put k giver ports q).control.owned) (gives_left (put k giver ports q).control) ≤ weight e words ports now since t q)
          (sym (given_at q low)) (subst (λ (r : Port). weight_as e words r now since t q ≤ weight e words ports now since t q) (sym (put_other k giver ports q ne)) (omega arith))

      counts_so : Counts e words given_words ports (put k giver ports) (site_now b) now' since since t k (Gives o)
      counts_so = record {
        there = given_tally d;
        keeps = tally_given d;
        grows = omega arith;
        met = λ q. refl;
        less = λ same. subst (λ n. t.freed + d + may_free e given_words (put k giver ports) n since (given_tally d) ≤ t.freed + may_free e words ports now since t) (sym same)
            (let all = sum_less (weight e words ports now since t) (weight e given_words (put k giver ports) now since (given_tally d)) e.ports k d below giver_weighs others_weigh in omega (arith, all));
        stays = λ same q y _ low h. elim (eqb_tells y o.arena) [
          | inl even ↦ inl (subst (IsNamed e given_words) (sym even.1) (leaves same))
          | inr ne ↦ use_stays e words given_words q y given_alike (given_other y ne.1) h
        ];
        leaves = leaves;
      }

    word_here : slice_index words (at_word k) ≡ packed here
    word_here = stands_at e words ports b w k below as_owner.stands

    low_word : slice_index words (at_word k) < entering_bit
    low_word = subst (λ u. u < entering_bit) (sym word_here) low_here

    epoch_word : slice_index words (at_word k) / arena_limit ≡ here.epoch
    epoch_word = ap (λ u. u / arena_limit) word_here ∙ site_epoch e here w.plan.arenas site_here

    -- a port gives back one arena fewer then
    gives_one : gives_left giver.control + 1 ≤ gives_left (ports k).control
    gives_one = subst (λ (f : Option OwnedArena). gives_at (ports k).control.entering (ports k).control.past None + 1 ≤ gives_at (ports k).control.entering (ports k).control.past f) (sym is)
        (subst (λ (n : Entering). gives_at n (ports k).control.past None + 1 ≤ gives_at n (ports k).control.past (Some o)) (sym as_owner.stands) (by (ports k).control.past refl))
      where
        by : (past : Bool) → (ports k).control.past ≡ past → gives_at Stands past None + 1 ≤ gives_at Stands past (Some o)
        by true same = omega arith
        by false same =
            let looked : o.looked ≡ true = elim may [
              | inl past ↦ let bad : false ≡ true = sym same ∙ past in absurd cc
              | inr met ↦ elim (was_met o is met).looked [
                | inl past ↦ let bad : false ≡ true = sym same ∙ past in absurd cc
                | inr so ↦ so
              ]
            ] in
            subst (λ (y : Bool). ◌≤◌ 2 (if y then 2 else 1)) (sym looked) (omega arith)

    -- the step counts: in the current epoch an arena comes free by credit alone
    pub counts_give : (now' : Site) → Counts e words given_words ports (put k giver ports) (site_now b) now' since since t k (Gives o)
    counts_give now' = elim (eqb_tells here.epoch now) [
      | inl even ↦
          let epoch : slice_index words (at_word k) / arena_limit ≡ now = epoch_word ∙ even.1 in
          let before = weigh_here e.ports (slice_index words (at_word k)) now (since k) (credit t k (ports k).control.owned) (gives_left (ports k).control) low_word epoch in
          let after = weigh_here e.ports (slice_index words (at_word k)) now (since k) (credit t k giver.control.owned) (gives_left giver.control) low_word epoch in
          elim may [
            | inl past ↦ let less = w.control.past k below past in let same = even.1 in absurd (omega (arith, less, same))
            | inr met ↦ elim (was_met o is met).cause [
              | inl named ↦ counts_so 0 (λ _. named_stays e words given_words o.arena given_alike named) (omega (arith, before, after)) now'
              | inr has ↦
                  let one : credit t k (ports k).control.owned ≡ 1 = ap (credit t k) is ∙ ap (λ (y : Bool). if y then 1 else 0) (lt-ltb (t.taken k) t.arrivals has) in
                  counts_so 1 (λ same. absurd (omega (arith, same))) (omega (arith, before, after, one)) now'
            ]
          ]
      | inr ne ↦
          let off : slice_index words (at_word k) / arena_limit ≢ now = λ same. ne.1 (sym epoch_word ∙ same) in
          let before = weigh_away e.ports (slice_index words (at_word k)) now (since k) (credit t k (ports k).control.owned) (gives_left (ports k).control) low_word off in
          let after = weigh_away e.ports (slice_index words (at_word k)) now (since k) (credit t k giver.control.owned) (gives_left giver.control) low_word off in
          let one = gives_one in
          counts_so 1 (λ same. absurd (omega (arith, same))) (omega (arith, before, after, one)) now'
    ]
