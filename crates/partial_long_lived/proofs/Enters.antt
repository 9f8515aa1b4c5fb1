-- The exchange of the entering word is allowed.
use Rattle.partial_long_lived.proofs.{Common.{ℕ, ◌≡◌, ◌<◌, ◌≤◌, ◌==◌, ◌++◌, if◌then◌else◌, None, List, [], ◌∷◌, length, slice_index, slice_set, refl, sym, ap, subst, ◌∙◌, inl, inr, arith, append-nil, append_assoc, eqb_tells, either, Me, Allows, Applied, LegalNotes, Noted, put, IsSite, Site, Plan, at_word, entering_from, packed, history_of, public_log, Entering, Port, Loaded, arrived_port, Beside, LawfulEpochs, site_now, Reckons, Reckoning, LawfulMemory, EpochReached, not_entering_word, put_other, put_same, history_grows, history_longer, About, IsRuleKept, IsSeat, IsSeen, IsSince, SeatedPort, one_of, plan_of, seen_in, BeginsWith, IsSeatKnown, IsOne, tells, SeatArrives, site_found, unpacked, ends, every_step_stays_lawful, unpacked_is}, Seen.legal_begins, Kept.{Moved, allowed, none_grown, not_grown}, Control.{led_to, reckoned_after, unnoted}, Changes.either_cond}
use Rattle.partial_epochs.specs.EveryStep.{Move as move}
use Rattle.partial_epochs.specs.Entering as law

-- the site that the port enters is the one that its word names
arrival_site : (e : Plan) (words : List ℕ) (ports : ℕ → Port) (b : Beside) (k : ℕ) (c : Site) → LawfulEpochs e words ports b → k < e.ports → (w : law.Arrives e words ports b k c) →
    site_found (ports k) c (slice_index words (at_word k)) ≡ w.site
arrival_site e words ports b k c lawful below w = elim w.is [
  | inl won ↦ (elim (eqb_tells n (entering_from here)) [
    | inl same ↦ ap (λ t. if t then c else unpacked n) same.0 ∙ sym won.1
    | inr other ↦ absurd (other.1 won.0)
  ])
  | inr lost ↦ (elim (eqb_tells n (entering_from here)) [
    | inl same ↦ absurd (not_entering_word e w.site here lawful.plan.arenas there (sym lost ∙ same.1))
    | inr other ↦ ap (λ t. if t then c else unpacked n) other.0 ∙ ap unpacked lost ∙ unpacked_is w.site lawful.plan.arenas there.arena
  ])
]
  where
    n : ℕ
    n = slice_index words (at_word k)

    here : Site
    here = (ports k).control.here

    there : IsSite e w.site
    there = subst (λ (p : Port). IsSite e p.control.here) (put_same k (arrived_port e k w.site w.before) ports) (w.lawful.control.sites k below)

-- what the port has seen is a beginning of what lies before its new epoch
arrival_seen : (b : Beside) (p q : Port) → IsSeen b p → EpochReached b p → EpochReached b q → length p.before < length q.before → q.part.seen ≡ [] → BeginsWith (seen_in p) (seen_in q)
arrival_seen b p q seen old new later none =
    let rest = seen old.later old.log old.is in
    let mid = ends old.later (old.log ∷ p.before) (new.later ++ new.log ∷ []) q.before (sym old.is ∙ new.is ∙ split new.later new.log q.before) (omega (arith, later)) in
    let g = history_grows mid.0 (old.log ∷ p.before) in (
      public_log (length p.before) rest.0 ++ g.0,
      ap (λ (l : List Applied). history_of (l ∷ q.before)) none ∙ append-nil (history_of q.before) ∙ ap history_of mid.1 ∙ g.1
          ∙ ap (λ (l : List Applied). l ++ g.0) (ap (λ (l : List Applied). history_of (l ∷ p.before)) rest.1 ∙ history_longer p.part.seen rest.0 p.before)
          ∙ append_assoc (seen_in p) (public_log (length p.before) rest.0) g.0,
    )
  where
    split : (l : List (List Applied)) (x : List Applied) (t : List (List Applied)) → l ++ x ∷ t ≡ (l ++ x ∷ []) ++ t
    split [] x t = refl
    split (y ∷ l) x t = ap (λ (m : List (List Applied)). y ∷ m) (split l x t)

arrival : (a : About) (words : List ℕ) (ports : ℕ → Port) (notes : ℕ → List Noted) (b : Beside) (reckoned : Reckoning) (x : SeatedPort) → LawfulMemory (plan_of a) words ports b notes →
    Reckons (plan_of a) words ports (site_now b) reckoned → IsSeat a words ports notes b reckoned x → IsSeatKnown x → (c : Site) → x.port.control.entering ≡ Loaded c → (v : ℕ) →
    (if slice_index words (at_word x.number) == entering_from (ports x.number).control.here then packed c else slice_index words (at_word x.number)) ≡ v →
    Moved a words (slice_set words (at_word x.number) v) ports notes b reckoned x (SeatArrives c x (slice_index words (at_word x.number)))
arrival a words ports notes b reckoned x w time s known c loaded v word =
    let e : Plan = plan_of a in
    let k : ℕ = x.number in
    let n : ℕ = slice_index words (at_word k) in
    let own : x.about ≡ a = s.about in
    let loaded' : (ports k).control.entering ≡ Loaded c = ap (λ (p : Port). p.control.entering) (sym s.port) ∙ loaded in
    let l = every_step_stays_lawful e words ports b notes k (move.ExchangesEnteringWord c) w s.number loaded' in
    let to : law.Arrives (plan_of a) words ports b k c = l.becomes.0 in
    let p : Port = arrived_port e k to.site to.before in
    let led = led_to a words ports notes b reckoned w time k s.number (move.ExchangesEnteringWord c) loaded' tt (λ q ne. refl) l (let same = ap (λ (d : Beside). length d.before) l.becomes.2 in omega (arith, same)) (slice_set words (at_word k) v) (ap (λ v. slice_set words (at_word k) v) word) p l.becomes.1 b l.becomes.2 [] l.becomes.3 in
    let lawful : LawfulMemory e (slice_set words (at_word k) v) (put k p ports) b notes = unnoted a words ports notes b reckoned w time k s.number (slice_set words (at_word k) v) (put k p ports) b led.lawful in
    let site : site_found x.port c n ≡ to.site = ap (λ (q : Port). site_found q c n) s.port ∙ arrival_site e words ports b k c w.epochs s.number to in
    let old : EpochReached b x.port = subst (EpochReached b) (sym s.port) (w.noted.reached k s.number) in
    let new : EpochReached b p = subst (EpochReached b) (put_same k p ports) (lawful.noted.reached k s.number) in
    let later : x.port.control.here.epoch < to.site.epoch = subst (λ (q : Port). q.control.here.epoch < to.site.epoch) (sym s.port) to.later in
    let few = old.epoch in
    let many = to.epoch in
    let seen : BeginsWith (seen_in x.port) (seen_in p) = arrival_seen b x.port p s.seen old new (omega (arith, few, many, later)) refl in
    let knows = known.knows in
    let began : x.began.epoch ≤ reckoned.since k = subst (λ (t : Entering). IsSince x.began t (reckoned.since k)) loaded s.entering in
    let up = l.becomes.4 reckoned.since time.time in
    record {
      y = record x { port = p; found = None };
      ports' = put k p ports;
      notes' = notes;
      beside = b;
      reckoned' = reckoned_after b k (move.ExchangesEnteringWord c) reckoned led.there;
      lawful = lawful;
      time = led.time;
      others = λ q ne. (put_other k p ports q ne, refl);
      number = refl;
      epoch = omega (arith, later);
      seals = omega arith;
      seat = record {
        about = own;
        number = s.number;
        port = sym (put_same k p ports);
        noted = s.noted;
        seen = λ later log is. (log, refl);
        began = s.began;
        entering = tt;
        found = tt;
        search = (led.time).searching k x.contention.search s.number s.search;
        met = λ is. led.met k ∙ s.met is;
      };
      grown = λ q low ne. not_grown (ports q) b b refl refl;
      all_grown = none_grown b b refl refl;
      later = omega arith;
      reached = (new.later, new.log, new.is);
      seen = seen;
      legal = legal_begins a.opening (seen_in x.port) (seen_in p) k 0 x.notes seen (subst (λ (z : About). LegalNotes z.opening (seen_in x.port) k 0 x.notes) own knows.legal);
      says = (
        to.before,
        subst (λ (d : Site). x.port.control.here.epoch < d.epoch) (sym site) later,
        subst (λ (d : Site). x.began.epoch ≤ d.epoch) (sym site) (omega (arith, began, up)),
        ap (λ (z : About). record x { port = arrived_port (plan_of z) k to.site to.before; found = None }) (sym own)
            ∙ ap (λ (d : Site). record x { port = arrived_port (plan_of x.about) k d to.before; found = None }) (sym site),
      );
    }

-- the third step of entering
module _ {S : Type 0} (a : About) (slots id : ℕ) (me : Me S (List SeatedPort)) (one : IsOne me) (own : (one_of me.0).about ≡ a) (known : IsSeatKnown (one_of me.0)) where
  abbrev x : SeatedPort
  x = one_of me.0

  pub may_arrive : (c : Site) → x.port.control.entering ≡ Loaded c →
      Allows (IsRuleKept a) slots id me (at_word x.number) (λ n. either (n == entering_from x.port.control.here) (packed c) n) (tells (SeatArrives c) me)
  may_arrive c loaded = allowed a slots id me (at_word x.number) (λ n. either (n == entering_from x.port.control.here) (packed c) n) (SeatArrives c) one own (λ words ports notes b reckoned w time s small.
      let n : ℕ = slice_index words (at_word x.number) in
      arrival a words ports notes b reckoned x w time s known c loaded (either (n == entering_from x.port.control.here) (packed c) n)
      (ap (λ (p : Port). if n == entering_from p.control.here then packed c else n) (sym s.port) ∙ either_cond (n == entering_from x.port.control.here) (packed c) n))
