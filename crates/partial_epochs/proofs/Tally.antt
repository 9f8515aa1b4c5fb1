-- What each kind of step makes of the tally of arrivals, and of the arenas that are in use.
use Rattle.partial_epochs.proofs.{Common.{ℕ, ◌≡◌, ◌≢◌, ◌+◌, ◌<◌, ◌≤◌, ◌/◌, ◌%◌, ◌⊎◌, Bool, true, false, if◌then◌else◌, Option, Some, None, IfSome, List, slice_index, refl, sym, ap, subst, ◌∙◌, inl, inr, arith, eqb_tells, cases_lt, put, IsSite, Site, Plan, arena_limit, at_word, control_words, entering_bit, entering_from, own_word, packed, Control, Entering, OwnedArena, Port, Stands, StoredEntering, Loaded, IsOwner, IsSiteWord, Beside, LawfulEpochs, controls, numbers, site_now, Move}, Entering.cw_at, Lists.{put_all}, Weights.{credit_few, pick, sum_arrived, sum_within, weigh, weigh_arrived, weigh_within}}
use Rattle.partial_epochs.specs.FreeArenas.{Counts, HasMetPort, HasSeenArrival, IsInUse, IsNamed, IsOwnedBySome, KeepsTally, LeavesInUse, Tally, credit, gives_at, gives_left, may_free, met_after, weight}

-- what follows for the value, if there is one
pub some_to : {A : Type 0} (P Q : A → Type 0) (o : Option A) → ((a : A) → o ≡ Some a → P a → Q a) → IfSome o P → IfSome o Q
some_to P Q None f h = tt
some_to P Q (Some a) f h = f a refl h

-- what holds of each value
pub some_all : {A : Type 0} (P : A → Type 0) (o : Option A) → ((a : A) → P a) → IfSome o P
some_all P None f = tt
some_all P (Some a) f = f a

-- a port gives back at most two arenas before it enters the current epoch
pub gives_few : (n : Entering) (past : Bool) (o : Option OwnedArena) → gives_at n past o ≤ 2
gives_few Stands true None = omega arith
gives_few Stands true (Some o) = omega arith
gives_few Stands false None = omega arith
gives_few Stands false (Some o) = pick (λ m. m ≤ 2) o.looked 2 1 (λ _. omega arith) (λ _. omega arith)
gives_few StoredEntering past o = omega arith
gives_few (Loaded c) past o = omega arith

-- one that has seen its epoch's end gives back no more than before
pub gives_passed : (n : Entering) (past : Bool) (o : Option OwnedArena) → gives_at n true o ≤ gives_at n past o
gives_passed Stands true None = omega arith
gives_passed Stands true (Some o) = omega arith
gives_passed Stands false None = omega arith
gives_passed Stands false (Some o) = pick (λ m. 1 ≤ m) o.looked 2 1 (λ _. omega arith) (λ _. omega arith)
gives_passed StoredEntering past o = omega arith
gives_passed (Loaded c) past o = omega arith

-- of an arena that is owned it matters only whether the port has looked
pub gives_looked : (n : Entering) (past : Bool) (o o' : OwnedArena) → o'.looked ≡ o.looked → gives_at n past (Some o') ≤ gives_at n past (Some o)
gives_looked Stands true o o' same = omega arith
gives_looked Stands false o o' same = subst (λ (c : Bool). ◌≤◌ (if o'.looked then 2 else 1) (if c then 2 else 1)) same (omega arith)
gives_looked StoredEntering past o o' same = omega arith
gives_looked (Loaded c) past o o' same = omega arith

-- and nothing of it once the port has seen its epoch's end
pub gives_owned : (n : Entering) (o o' : OwnedArena) → gives_at n true (Some o') ≤ gives_at n true (Some o)
gives_owned Stands o o' = omega arith
gives_owned StoredEntering o o' = omega arith
gives_owned (Loaded c) o o' = omega arith

-- the word of a site is no entering word
pub site_low : (e : Plan) (c : Site) → e.arenas ≤ arena_limit → IsSite e c → packed c < entering_bit
site_low e c few h = let r = h.epoch in let a = h.arena in omega (arith, few, r, a)

-- and it has the site's epoch
pub site_epoch : (e : Plan) (c : Site) → e.arenas ≤ arena_limit → IsSite e c → packed c / arena_limit ≡ c.epoch
site_epoch e c few h = let a = h.arena in omega (arith, few, a)

-- an entering word that the owner q holds is its port's word yet, or it has seen an arrival
abbrev pub IsHeld : Plan → List ℕ → Tally → ℕ → OwnedArena → Site → Type 0
IsHeld e words t q o a = ((o.clean < e.ports) × (slice_index words (at_word o.clean) ≡ entering_from a)) ⊎ HasSeenArrival t q

-- the weight of port k, were it p
abbrev pub weight_as : Plan → List ℕ → Port → ℕ → (ℕ → ℕ) → Tally → ℕ → ℕ
weight_as e words p now since t k = weigh e.ports (slice_index words (at_word k)) now (since k) (credit t k p.control.owned) (gives_left p.control)

module _ (e : Plan) (words : List ℕ) (ports : ℕ → Port) (b : Beside) (w : LawfulEpochs e words ports b) where
  -- what is so of an owner
  pub owner_is : (q : ℕ) → q < e.ports → (o : OwnedArena) → (ports q).control.owned ≡ Some o → IsOwner e (control_words e words) (controls ports) (site_now b) (numbers b) q o
  owner_is q low o is = subst (λ (o : Option OwnedArena). IfSome o (IsOwner e (control_words e words) (controls ports) (site_now b) (numbers b) q)) is (w.control.owners q low)

  -- the word of a port that stands
  pub stands_at : (q : ℕ) → q < e.ports → (ports q).control.entering ≡ Stands → slice_index words (at_word q) ≡ packed (ports q).control.here
  stands_at q low stands = sym (cw_at e words ports b q (ports q) 0 w low (at_word q) (omega (arith, low)))
      ∙ subst (IsSiteWord e (control_words e words) q (ports q).control.here) stands (w.control.at q low)

  module _ (t : Tally) (s : KeepsTally e words ports t) where
    -- an owner word is no entering word
    own_low : (x : ℕ) → x < e.arenas → slice_index words (own_word e x) < entering_bit
    own_low x low = elim (eqb_tells (slice_index words (own_word e x)) 0) [
      | inl none ↦ let is = none.1 in omega (arith, is)
      | inr some ↦
          let o = s.owners x low some.1 in
          let is = o.word in
          let inside = o.inside in
          let few = w.plan.few in
          omega (arith, is, inside, few)
    ]

    -- the entering words that owners hold are those of ports
    pub held_within : (q : ℕ) → q < e.ports → IfSome (ports q).control.owned (λ o. IfSome o.entering_word (IsHeld e words t q o))
    held_within q low = some_to (λ (o : OwnedArena). IfSome o.entering_word (λ a. (slice_index words (at_word o.clean) ≡ entering_from a) ⊎ HasSeenArrival t q)) (λ (o : OwnedArena). IfSome o.entering_word (IsHeld e words t q o))
        (ports q).control.owned (λ o is. some_to (λ a. (slice_index words (at_word o.clean) ≡ entering_from a) ⊎ HasSeenArrival t q) (IsHeld e words t q o) o.entering_word (λ a _ h. elim h [
          | inl at ↦ elim (cases_lt o.clean e.ports) [
            | inl inside ↦ inl (inside, at)
            | inr from ↦
                let few = (owner_is q low o is).few in
                let some = w.control.site.arena in
                let own = own_low 0 (omega (arith, some)) in
                let same : slice_index words (at_word o.clean) ≡ slice_index words (own_word e 0) = ap (slice_index words) (omega (arith, few, from)) in
                absurd (omega (arith, own, same, at))
          ]
          | inr has ↦ inr has
        ])) (s.entering_words q low)

-- each port's word names the arena that it named
abbrev pub NameAsBefore : Plan → List ℕ → List ℕ → Type 0
NameAsBefore e words words' = (q : ℕ) → q < e.ports → slice_index words' (at_word q) % arena_limit ≡ slice_index words (at_word q) % arena_limit

-- a port's word that names arena x does so then
pub named_stays : (e : Plan) (words words' : List ℕ) (x : ℕ) → NameAsBefore e words words' → IsNamed e words x → IsNamed e words' x
named_stays e words words' x alike h = record { port = h.port; inside = h.inside; names = alike h.port h.inside ∙ h.names }

-- an owner that has met another port has done so then
pub met_stays : (e : Plan) (words words' : List ℕ) (c : Control) (t : Tally) (q : ℕ) (o : OwnedArena) → NameAsBefore e words words' → HasMetPort e words c t q o → HasMetPort e words' c t q o
met_stays e words words' c t q o alike h = record {
  looked = h.looked;
  cause = elim h.cause [
    | inl named ↦ inl (named_stays e words words' o.arena alike named)
    | inr has ↦ inr has
  ];
}

-- an arena that is in use is so then
pub use_stays : (e : Plan) (words words' : List ℕ) (q x : ℕ) → NameAsBefore e words words' → slice_index words' (own_word e x) ≡ slice_index words (own_word e x) → IsInUse e words q x → IsInUse e words' q x
use_stays e words words' q x alike own h = elim h [
  | inl named ↦ inl (named_stays e words words' x alike named)
  | inr other ↦ inr (λ is. other.0 (sym own ∙ is), λ is. other.1 (sym own ∙ is))
]

-- port k owns the same arena then
abbrev pub OwnsAsBefore : Option OwnedArena → Option OwnedArena → Type 0
OwnsAsBefore was is = (o : OwnedArena) → was ≡ Some o → (o' : OwnedArena) × (is ≡ Some o') × (o'.arena ≡ o.arena)

module _ (e : Plan) (words words' : List ℕ) (ports : ℕ → Port) (k : ℕ) (p : Port)
    (own : (x : ℕ) → x < e.arenas → slice_index words' (own_word e x) ≡ slice_index words (own_word e x))
    (owned : OwnsAsBefore (ports k).control.owned p.control.owned) where
  -- each arena that is owned is so then
  pub owners_stay : ((x : ℕ) → x < e.arenas → slice_index words (own_word e x) ≢ 0 → IsOwnedBySome e words ports x) →
      (x : ℕ) → x < e.arenas → slice_index words' (own_word e x) ≢ 0 → IsOwnedBySome e words' (put k p ports) x
  owners_stay owners x low some =
      let was = owners x low (λ none. some (own x low ∙ none)) in
      let o = put_all (λ i (r : Port). (ports i).control.owned ≡ Some was.owned → (o' : OwnedArena) × (r.control.owned ≡ Some o') × (o'.arena ≡ was.owned.arena)) k p ports was.owner
      (λ _. owned was.owned) (λ _ is. (was.owned, is, refl)) was.is in
      record { owner = was.owner; inside = was.inside; word = own x low ∙ was.word; owned = o.0; is = o.1; arena = o.2 ∙ was.arena }

-- A step by which no port's word and no owner word changes, and port k becomes p: it owns the same arena.
pub record IsBesideTally (e : Plan) (words words' : List ℕ) (ports : ℕ → Port) (k : ℕ) (p : Port) (t : Tally) : Type 0 where
  pub at : (q : ℕ) → q < e.ports → slice_index words' (at_word q) ≡ slice_index words (at_word q)
  pub own : (x : ℕ) → x < e.arenas → slice_index words' (own_word e x) ≡ slice_index words (own_word e x)
  pub owned : OwnsAsBefore (ports k).control.owned p.control.owned
  pub entering_words : IfSome p.control.owned (λ o. IfSome o.entering_word (IsHeld e words t k o))
  pub met : t.met k ≡ true → IfSome p.control.owned (HasMetPort e words p.control t k)

-- such a step keeps the tally as it is
module _ (e : Plan) (words words' : List ℕ) (ports : ℕ → Port) (b : Beside) (k : ℕ) (p : Port) (t : Tally) (w : LawfulEpochs e words ports b) (s : KeepsTally e words ports t)
    (a : IsBesideTally e words words' ports k p t) where
  as_before : NameAsBefore e words words'
  as_before q low = ap (λ v. v % arena_limit) (a.at q low)

  -- the tally is kept
  tally_stays : KeepsTally e words' (put k p ports) t
  tally_stays = record {
    owners = owners_stay e words words' ports k p a.own a.owned s.owners;
    taken = s.taken;
    entering_words = λ q low. some_to (λ (o : OwnedArena). IfSome o.entering_word (IsHeld e words t q o)) (λ (o : OwnedArena). IfSome o.entering_word (λ d. (slice_index words' (at_word o.clean) ≡ entering_from d) ⊎ HasSeenArrival t q))
        (put k p ports q).control.owned
        (λ o _. some_to (IsHeld e words t q o) (λ d. (slice_index words' (at_word o.clean) ≡ entering_from d) ⊎ HasSeenArrival t q) o.entering_word (λ d _ h. elim h [
          | inl is ↦ inl (a.at o.clean is.0 ∙ is.1)
          | inr has ↦ inr has
        ])) (put_all (λ i (r : Port). i < e.ports → IfSome r.control.owned (λ o. IfSome o.entering_word (IsHeld e words t i o))) k p ports q (λ _ _. a.entering_words) (λ _ low. held_within e words ports b w t s q low) low);
    met = λ q low met. some_to (HasMetPort e words (put k p ports q).control t q) (HasMetPort e words' (put k p ports q).control t q) (put k p ports q).control.owned
        (λ o _. met_stays e words words' (put k p ports q).control t q o as_before)
        (put_all (λ i (r : Port). i < e.ports → t.met i ≡ true → IfSome r.control.owned (HasMetPort e words r.control t i)) k p ports q (λ _ _. a.met) (λ _ low met. s.met q low met) low met);
  }

  module _ (now now' : Site) (since : ℕ → ℕ) (m : Move) (less : now'.epoch ≡ now.epoch → weight_as e words p now.epoch since t k ≤ weight_as e words (ports k) now.epoch since t k)
      (met : (q : ℕ) → t.met q ≡ met_after k m t.met q) (leaves : LeavesInUse e words' t t m) where
    -- no port weighs more
    weights_within : now'.epoch ≡ now.epoch → (q : ℕ) → q < e.ports → weight e words' (put k p ports) now.epoch since t q ≤ weight e words ports now.epoch since t q
    weights_within same q low =
        subst (λ v. weigh e.ports v now.epoch (since q) (credit t q (put k p ports q).control.owned) (gives_left (put k p ports q).control) ≤ weight e words ports now.epoch since t q) (sym (a.at q low))
        (put_all (λ i (r : Port). weight_as e words r now.epoch since t i ≤ weight_as e words (ports i) now.epoch since t i) k p ports q (λ _. less same) (λ _. omega arith))

    -- so the step counts
    pub counts_beside : Counts e words words' ports (put k p ports) now now' since since t k m
    counts_beside = record {
      there = t;
      keeps = tally_stays;
      grows = omega arith;
      met = met;
      less = λ same. subst (λ n. t.freed + may_free e words' (put k p ports) n since t ≤ t.freed + may_free e words ports now.epoch since t) (sym same)
          (let all = sum_within (weight e words ports now.epoch since t) (weight e words' (put k p ports) now.epoch since t) e.ports (weights_within same) in omega (arith, all));
      stays = λ _ q x _ low h. use_stays e words words' q x as_before (a.own x low) h;
      leaves = leaves;
    }

-- the tally after an arrival
abbrev pub having_arrived : Tally → Tally
having_arrived t = record t { arrivals = t.arrivals + 1; freed = t.freed + 1 }

-- a step by which port r moves to another site, in the epoch of that number, and port k becomes p: it owns the same arena
module _ (e : Plan) (words words' : List ℕ) (ports : ℕ → Port) (k r : ℕ) (p : Port) (t : Tally) (s : KeepsTally e words ports t) (inside : r < e.ports)
    (at : (q : ℕ) → q ≢ r → slice_index words' (at_word q) ≡ slice_index words (at_word q))
    (own : (x : ℕ) → x < e.arenas → slice_index words' (own_word e x) ≡ slice_index words (own_word e x))
    (owned : OwnsAsBefore (ports k).control.owned p.control.owned)
    (met : t.met k ≡ true → IfSome p.control.owned (λ o. (p.control.past ≡ true) ⊎ (o.looked ≡ true))) where
  -- every owner has seen an arrival then
  tally_arrives : KeepsTally e words' (put k p ports) (having_arrived t)
  tally_arrives = record {
    owners = owners_stay e words words' ports k p own owned s.owners;
    taken = λ q low. let few = s.taken q low in omega (arith, few);
    entering_words = λ q low. some_all (λ (o : OwnedArena). IfSome o.entering_word (λ d. (slice_index words' (at_word o.clean) ≡ entering_from d) ⊎ HasSeenArrival (having_arrived t) q)) (put k p ports q).control.owned
        (λ o. some_all (λ d. (slice_index words' (at_word o.clean) ≡ entering_from d) ⊎ HasSeenArrival (having_arrived t) q) o.entering_word (λ d. inr (seen q low)));
    met = λ q low is. some_to (λ (o : OwnedArena). ((put k p ports q).control.past ≡ true) ⊎ (o.looked ≡ true)) (HasMetPort e words' (put k p ports q).control (having_arrived t) q) (put k p ports q).control.owned
        (λ o _ looked. record { looked = looked; cause = inr (seen q low) })
        (put_all (λ i (r : Port). i < e.ports → t.met i ≡ true → IfSome r.control.owned (λ o. (r.control.past ≡ true) ⊎ (o.looked ≡ true))) k p ports q (λ _ _. met)
        (λ _ low is. some_to (HasMetPort e words (ports q).control t q) (λ (o : OwnedArena). ((ports q).control.past ≡ true) ⊎ (o.looked ≡ true)) (ports q).control.owned (λ o _ h. h.looked) (s.met q low is)) low is);
  }
    where
      seen : (q : ℕ) → q < e.ports → t.taken q < t.arrivals + 1
      seen q low = let few = s.taken q low in omega (arith, few)

  module _ (now now' : Site) (since : ℕ → ℕ) (m : Move) (epoch : ℕ) (high : entering_bit ≤ slice_index words (at_word r)) (low' : slice_index words' (at_word r) < entering_bit)
      (is : slice_index words' (at_word r) / arena_limit ≡ epoch) (late : since r ≤ epoch) (old : epoch ≤ now.epoch) (gives : k ≢ r → gives_left p.control ≤ gives_left (ports k).control)
      (met' : (q : ℕ) → t.met q ≡ met_after k m t.met q) (leaves : LeavesInUse e words' t (having_arrived t) m) where
    -- port r weighs less, by the number of ports
    weight_arrived : weight e words' (put k p ports) now.epoch since (having_arrived t) r + e.ports ≤ weight e words ports now.epoch since t r
    weight_arrived =
        let c = (put k p ports r).control in
        weigh_arrived e.ports (slice_index words (at_word r)) (slice_index words' (at_word r)) epoch now.epoch (since r) (credit t r (ports r).control.owned) (gives_left (ports r).control)
        (credit (having_arrived t) r c.owned) (gives_left c) high low' is late old (credit_few (having_arrived t) r c.owned) (gives_few c.entering c.past c.owned)

    -- each other port weighs at most 1 more
    weights_more : (q : ℕ) → q < e.ports → q ≢ r → weight e words' (put k p ports) now.epoch since (having_arrived t) q ≤ weight e words ports now.epoch since t q + 1
    weights_more q low ne =
        let c = (put k p ports q).control in
        let few = credit_few (having_arrived t) q c.owned in
        let fewer : gives_left c ≤ gives_left (ports q).control = put_all (λ i (d : Port). i ≢ r → gives_left d.control ≤ gives_left (ports i).control) k p ports q (λ _. gives) (λ _ _. omega arith) ne in
        subst (λ v. weigh e.ports v now.epoch (since q) (credit (having_arrived t) q c.owned) (gives_left c) ≤ weight e words ports now.epoch since t q + 1) (sym (at q ne))
        (weigh_within e.ports (slice_index words (at_word q)) now.epoch (since q) (credit t q (ports q).control.owned) (gives_left (ports q).control) (credit (having_arrived t) q c.owned) (gives_left c) 1
        (omega (arith, few)) (omega (arith, fewer)))

    -- so the step counts
    pub counts_arrival : Counts e words words' ports (put k p ports) now now' since since t k m
    counts_arrival = record {
      there = having_arrived t;
      keeps = tally_arrives;
      grows = omega arith;
      met = met';
      less = λ same. subst (λ n. t.freed + 1 + may_free e words' (put k p ports) n since (having_arrived t) ≤ t.freed + may_free e words ports now.epoch since t) (sym same)
          (let all = sum_arrived (weight e words ports now.epoch since t) (weight e words' (put k p ports) now.epoch since (having_arrived t)) e.ports r inside weight_arrived weights_more in omega (arith, all));
      stays = λ even. absurd (omega (arith, even));
      leaves = leaves;
    }
