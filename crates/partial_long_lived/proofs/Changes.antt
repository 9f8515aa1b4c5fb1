-- The steps of a change of epoch are allowed.
use Rattle.partial_long_lived.proofs.{Common.{ℕ, control_size, ◌≡◌, ◌≢◌, ◌+◌, ◌-◌, ◌%◌, ◌^◌, ◌<◌, ◌≤◌, ◌==◌, ◌⊎◌, Bool, true, false, if◌then◌else◌, Option, Some, None, List, slice_index, slice_set, refl, sym, ap, subst, ◌∙◌, inl, inr, arith, nat_lt, cases_lt, lt-ltb, eqb_tells, either, Me, Allows, IsSite, Site, Plan, at_word, base, component_words, control_words, entering_bit, entering_from, own_word, packed, seal, Entering, OwnedArena, Port, Stands, StoredEntering, Loaded, IsSiteWord, Beside, LawfulEpochs, site_now, Reckons, Reckoning, passing_port, at_next_port, having_given, having_loaded, just_taken, owning_port, at_of, not_below, About, Began, IsRuleKept, IsSince, SeatedPort, one_of, plan_of, IsSeatKnown, IsOne, tells, SeatGives, LoadsPort, PassesSealed, PutsPort, contention_loading, contention_putting, contention_taking, Seals, Takes, elsewhere, passed_at, port_loaded, port_put, taken_at, unpacked, MayMove, LawfulMemory, Noted, unpacked_is, Contention, IsSearching, HasSeenArrival, IsNamed, IsInUse, MayCount, arena_limit, put_same, HasPassedArenas, contention_there, contention_giving, meeting, passing, owned_arenas_are_in_use, IfSome, controls, numbers}, Asides.IsQuiet, Control.{OwnSearch, QuietlyBy, Still, load_same, quietly, quietly_searching, by_count, by_move, by_rest}, Contention.{giving_seals, loading_seals, putting_seals, taking_seals}, Searching.{leaves_search, meets_another, passes_to}}
use Rattle.partial_epochs.specs.EveryStep.{Move as move}
use Rattle.partial_epochs.specs.Control.{IsOwner}

-- an exchange as a table makes it
pub either_cond : (c : Bool) (x y : ℕ) → (if c then x else y) ≡ either c x y
either_cond true x y = refl
either_cond false x y = refl

-- a port that owns this arena owns it
pub owning_same : (p : Port) (o : OwnedArena) → p.control.owned ≡ Some o → owning_port p o ≡ p
owning_same p o is = ap (λ (t : Option OwnedArena). record p { control = record p.control { owned = t } }) (sym is)

passed_quiet : (n : ℕ) → IsQuiet (passed_at n)
passed_quiet n = record { part = λ p. by_part p (nat_lt n seal); before = λ p. by_before p (nat_lt n seal); here = λ p. by_here p (nat_lt n seal); passed = λ p. by_passed p (nat_lt n seal) }
  where
    by_part : (p : Port) (c : Bool) → (if c then p else passing_port p).part ≡ p.part
    by_part p true = refl
    by_part p false = refl

    by_before : (p : Port) (c : Bool) → (if c then p else passing_port p).before ≡ p.before
    by_before p true = refl
    by_before p false = refl

    by_here : (p : Port) (c : Bool) → (if c then p else passing_port p).control.here ≡ p.control.here
    by_here p true = refl
    by_here p false = refl

    by_passed : (p : Port) (c : Bool) → p.passed ≤ (if c then p else passing_port p).passed
    by_passed p true = omega arith
    by_passed p false = omega arith

owned_quiet : (g : Port → OwnedArena) → IsQuiet (λ p. owning_port p (g p))
owned_quiet g = record { part = λ p. refl; before = λ p. refl; here = λ p. refl; passed = λ p. omega arith }

taken_quiet : (i n : ℕ) → IsQuiet (taken_at i n)
taken_quiet i n = record { part = λ p. by_part p (n == 0); before = λ p. by_before p (n == 0); here = λ p. by_here p (n == 0); passed = λ p. by_passed p (n == 0) }
  where
    thereafter : Port → Bool → Port
    thereafter p c = if c then owning_port p (just_taken i) else p

    by_part : (p : Port) (c : Bool) → (thereafter p c).part ≡ p.part
    by_part p true = refl
    by_part p false = refl

    by_before : (p : Port) (c : Bool) → (thereafter p c).before ≡ p.before
    by_before p true = refl
    by_before p false = refl

    by_here : (p : Port) (c : Bool) → (thereafter p c).control.here ≡ p.control.here
    by_here p true = refl
    by_here p false = refl

    by_passed : (p : Port) (c : Bool) → p.passed ≤ (thereafter p c).passed
    by_passed p true = omega arith
    by_passed p false = omega arith

-- the word of a port without the entering bit names a site
module _ (e : Plan) (words : List ℕ) (ports : ℕ → Port) (b : Beside) (w : LawfulEpochs e words ports b) (q : ℕ) (low : q < e.ports) where
  word_is : slice_index (control_words e words) (at_word q) ≡ slice_index words (at_word q)
  word_is = at_of (λ i. slice_index words i) 0 (control_size e) (at_word q) (omega (arith, low)) ∙ ap (λ i. slice_index words i) (omega arith)

  pub site_without_bit : slice_index words (at_word q) < entering_bit → (slice_index words (at_word q) ≡ packed (unpacked (slice_index words (at_word q)))) × IsSite e (unpacked (slice_index words (at_word q)))
  site_without_bit less = by (ports q).control.entering (w.control.at q low)
    where
      named : (c : Site) → IsSite e c → slice_index words (at_word q) ≡ packed c →
          (slice_index words (at_word q) ≡ packed (unpacked (slice_index words (at_word q)))) × IsSite e (unpacked (slice_index words (at_word q)))
      named c site at =
          let same : unpacked (slice_index words (at_word q)) ≡ c = ap unpacked at ∙ unpacked_is c w.plan.arenas site.arena in
          (at ∙ ap packed (sym same), subst (IsSite e) (sym same) site)

      entering : (slice_index (control_words e words) (at_word q) ≡ entering_from (ports q).control.here) ⊎
          ((c : Site) × IsSite e c × (slice_index (control_words e words) (at_word q) ≡ packed c) × ((ports q).control.here.epoch < c.epoch)) →
          (slice_index words (at_word q) ≡ packed (unpacked (slice_index words (at_word q)))) × IsSite e (unpacked (slice_index words (at_word q)))
      entering (inl at) = let is = word_is in absurd (omega (arith, at, is, less))
      entering (inr c) = named c.0 c.1 (sym word_is ∙ c.2)

      by : (t : Entering) → IsSiteWord e (control_words e words) q (ports q).control.here t →
          (slice_index words (at_word q) ≡ packed (unpacked (slice_index words (at_word q)))) × IsSite e (unpacked (slice_index words (at_word q)))
      by Stands at = named (ports q).control.here (w.control.sites q low) (sym word_is ∙ at)
      by StoredEntering at = entering at
      by (Loaded c) at = entering at

-- what becomes of an owner that looks for the next port
module _ (a : About) (words : List ℕ) (ports : ℕ → Port) (notes : ℕ → List Noted) (b : Beside) (reckoned : Reckoning) (w : LawfulMemory (plan_of a) words ports b notes)
    (time : Reckons (plan_of a) words ports (site_now b) reckoned) (k : ℕ) (below : k < a.ports) (g : Began) (old : IsSince g (ports k).control.entering (reckoned.since k)) (o : OwnedArena)
    (owned : (ports k).control.owned ≡ Some o) (looked : o.looked ≡ true) (none : o.set ≡ 0) (more : o.clean < a.ports) (u : Contention)
    (search : IsSearching (plan_of a) words ports (site_now b) reckoned k u.search) (met : u.search.met ≡ true → reckoned.tally.met k ≡ true) where
  abbrev Owns : List ℕ → OwnedArena → Contention → Type 0
  Owns words' p m = OwnSearch a words words' ports notes b reckoned k g (owning_port (ports k) p) m

  -- it owns the arena as it did
  still_owns : (words' : List ℕ) → words ≡ words' → Still a words words' ports notes b reckoned k g (owning_port (ports k) o)
  still_owns words' same = by_rest a words ports notes b reckoned w time k below g words' same (owning_port (ports k) o) (sym (owning_same (ports k) o owned)) old

  -- it finds a port there
  finds_there : (words' : List ℕ) → words ≡ words' → slice_index words (at_word o.clean) % arena_limit ≡ o.arena → Owns words' o (meeting u)
  finds_there words' same there =
      meets_another a words words' ports notes b reckoned k below g (owning_port (ports k) o) u search (still_owns words' same).to o refl looked
      (inl (subst (λ (l : List ℕ). IsNamed (plan_of a) l o.arena) same (record { port = o.clean; inside = more; names = there })))

  -- it finds another word than the entering word that it holds
  pub finds_another : (m : Site) → o.entering_word ≡ Some m → slice_index words (at_word o.clean) ≢ entering_from m → (words' : List ℕ) → words ≡ words' → Owns words' o (meeting u)
  finds_another m entering_word other words' same =
      let to = (still_owns words' same).to in
      let held = (((to.time).reckons).tally).entering_words k below in
      let arrived = subst (λ (t : Option Site). IfSome t (λ m. (slice_index words' (at_word o.clean) ≡ entering_from m) ⊎ HasSeenArrival (to.reckoned').tally k)) entering_word
      (subst (λ (t : Option OwnedArena). IfSome t (λ o. IfSome o.entering_word (λ m. (slice_index words' (at_word o.clean) ≡ entering_from m) ⊎ HasSeenArrival (to.reckoned').tally k)))
      (ap (λ (q : Port). q.control.owned) (put_same k (owning_port (ports k) o) ports)) held) in
      meets_another a words words' ports notes b reckoned k below g (owning_port (ports k) o) u search to o refl looked
      (inr (elim arrived [
        | inl same_word ↦ absurd (other (ap (λ (l : List ℕ). slice_index l (at_word o.clean)) same ∙ same_word))
        | inr seen ↦ seen
      ]))

  pub finds_elsewhere : (words' : List ℕ) → words ≡ words' → slice_index words (at_word o.clean) < entering_bit →
      Owns words' (elsewhere (slice_index words (at_word o.clean)) o) (contention_there (slice_index words (at_word o.clean)) o u)
  finds_elsewhere words' same less =
      let n : ℕ = slice_index words (at_word o.clean) in
      let there = site_without_bit (plan_of a) words ports b w.epochs o.clean more less in
      let P : Bool → Type 0 = λ t. Owns words' (if t then o else at_next_port o) (if t then meeting u else u) in
      (elim (eqb_tells (unpacked n).arena o.arena) [
        | inl is ↦ subst P (sym is.0) (finds_there words' same is.1)
        | inr ne ↦ subst P (sym ne.0)
            (leaves_search a words words' ports notes b reckoned k below g (owning_port (ports k) (at_next_port o)) u search
            (by_move a words ports notes b reckoned w time k below g (move.FindsElsewhere o (unpacked n)) (owned, looked, none, more, there.1, there.0, ne.1) tt refl (λ p c n is. is) (λ q ne. refl) words' same
            (owning_port (ports k) (at_next_port o)) refl old) met)
      ])

module _ {S : Type 0} (a : About) (slots id : ℕ) (me : Me S (List SeatedPort)) (one : IsOne me) (own : (one_of me.0).about ≡ a) (known : IsSeatKnown (one_of me.0)) where
  abbrev x : SeatedPort
  x = one_of me.0

  abbrev e : Plan
  e = plan_of a

  -- a load of the next component of the port's epoch
  pub may_pass : x.port.control.entering ≡ Stands → x.port.passed < a.sizes.m →
      Allows (IsRuleKept a) slots id me (base e x.port.control.here.arena + x.port.passed) (λ n. n) (tells PassesSealed me)
  may_pass stands more = quietly a slots id me one own known (base e x.port.control.here.arena + x.port.passed) (λ n. n) passed_at PassesSealed passed_quiet
      (λ words ports notes b reckoned w time below is old come.
      let k : ℕ = x.number in
      let i : ℕ = base e x.port.control.here.arena + x.port.passed in
      let n : ℕ = slice_index words i in
      let P : Bool → Port = λ t. (if t then ports k else passing_port (ports k)) in
      (elim (cases_lt n seal) [
        | inl less ↦ subst (λ (t : Bool). Still a words (slice_set words i n) ports notes b reckoned k x.began (P t)) (sym (lt-ltb n seal less))
            (by_rest a words ports notes b reckoned w time k below x.began (slice_set words i n) (load_same words i) (ports k) refl old)
        | inr from ↦
            let here = ap (λ (p : Port). p.control.here.arena) is in
            let passed = ap (λ (p : Port). p.passed) is in
            let at : slice_index (component_words e words (ports k).control.here.arena) (ports k).passed ≡ n =
            at_of (λ j. slice_index words (base e (ports k).control.here.arena + j)) 0 e.sizes.m (ports k).passed (omega (arith, more, passed))
            ∙ ap (λ j. slice_index words (base e (ports k).control.here.arena + j)) (omega (arith, passed)) ∙ ap (λ z. slice_index words (base e z + x.port.passed)) (sym here) in
            let may : MayMove e words ports b notes k move.PassesSealed =
            (ap (λ (p : Port). p.control.entering) (sym is) ∙ stands, omega (arith, more, passed), omega (arith, at, from)) in
            subst (λ (t : Bool). Still a words (slice_set words i n) ports notes b reckoned k x.began (P t)) (sym (not_below n seal from))
            (by_move a words ports notes b reckoned w time k below x.began move.PassesSealed may tt refl (λ p c n is. is) (λ q ne. refl) (slice_set words i n) (load_same words i) (passing_port (ports k)) refl old)
      ]))
      (λ words ports b w below is. refl)

  -- a seal on it
  pub may_seal : x.port.control.entering ≡ Stands → x.port.passed < a.sizes.m →
      Allows (IsRuleKept a) slots id me (base e x.port.control.here.arena + x.port.passed) (λ n. (n + seal) % 2 ^ 64) (tells Seals me)
  may_seal stands more = quietly a slots id me one own known (base e x.port.control.here.arena + x.port.passed) (λ n. (n + seal) % 2 ^ 64) (λ n. passing_port) Seals
      (λ n. record { part = λ p. refl; before = λ p. refl; here = λ p. refl; passed = λ p. omega arith })
      (λ words ports notes b reckoned w time below is old come.
      let k : ℕ = x.number in
      let i : ℕ = base e x.port.control.here.arena + x.port.passed in
      let passed = ap (λ (p : Port). p.passed) is in
      let may : MayMove e words ports b notes k move.Seals = (ap (λ (p : Port). p.control.entering) (sym is) ∙ stands, omega (arith, more, passed)) in
      by_move a words ports notes b reckoned w time k below x.began move.Seals may tt refl (λ p c n is. is) (λ q ne. refl) (slice_set words i ((slice_index words i + seal) % 2 ^ 64))
      (ap (λ (p : Port). slice_set words (base e p.control.here.arena + p.passed) ((slice_index words (base e p.control.here.arena + p.passed) + seal) % 2 ^ 64)) (sym is)) (passing_port (ports k)) refl old)
      (λ words ports b w below is. refl)

  -- the exchange of the owner word of arena i
  pub may_take : (i : ℕ) → x.port.control.entering ≡ Stands → x.port.control.owned ≡ None → i < a.arenas → x.port.control.here.arena ≢ i → x.port.control.past ≡ false → x.contention.search.met ≡ false →
      HasPassedArenas i x → Allows (IsRuleKept a) slots id me (own_word e i) (λ n. either (n == 0) (x.number + 1) n) (tells (Takes i) me)
  may_take i stands none inside apart past unmet passed =
      quietly_searching a slots id me one own known (own_word e i) (λ n. either (n == 0) (x.number + 1) n) (taken_at i) (contention_taking i) (Takes i) (taken_quiet i) (taking_seals i)
      (λ words ports notes b reckoned w time s.
      let k : ℕ = x.number in
      let n : ℕ = slice_index words (own_word e i) in
      let v : ℕ = either (n == 0) (k + 1) n in
      let words' : List ℕ = slice_set words (own_word e i) v in
      let P : Bool → Type 0 = λ t. OwnSearch a words words' ports notes b reckoned k x.began (if t then owning_port (ports k) (just_taken i) else ports k) (if t then x.contention else passing i x.contention) in
      let old = subst (λ (p : Port). IsSince x.began p.control.entering (reckoned.since k)) s.port s.entering in
      (elim (eqb_tells n 0) [
        | inl free ↦
            let may : MayMove e words ports b notes k (move.Takes i) = (
              ap (λ (p : Port). p.control.entering) (sym s.port) ∙ stands,
              ap (λ (p : Port). p.control.owned) (sym s.port) ∙ none,
              inside,
              (λ same. apart (ap (λ (p : Port). p.control.here.arena) s.port ∙ same)),
              free.1,
            ) in
            let by = by_count a words ports notes b reckoned w time k s.number x.began (move.Takes i) may (ap (λ (p : Port). p.control.past) (sym s.port) ∙ past) (λ p c n is. is) (λ q ne. refl) words'
            (ap (λ v. slice_set words (own_word e i) v) (either_cond (n == 0) (k + 1) n)) (owning_port (ports k) (just_taken i)) refl old in
            subst P (sym free.0) (record { to = by.to; search = ((by.to).time).searching k x.contention.search s.number s.search; met = λ is. let bad : false ≡ true = sym unmet ∙ is in cc })
        | inr held ↦
            let still = by_rest a words ports notes b reckoned w time k s.number x.began words'
            (load_same words (own_word e i) ∙ ap (λ t. slice_set words (own_word e i) (either t (k + 1) n)) (sym held.0)) (ports k) refl old in
            let same : words ≡ words' = load_same words (own_word e i) ∙ ap (λ t. slice_set words (own_word e i) (either t (k + 1) n)) (sym held.0) in
            subst P (sym held.0)
            (passes_to a words words' ports notes b reckoned k s.number x.began (ports k) x.contention s.search still.to (ap (λ (p : Port). p.control.entering) (sym s.port) ∙ stands) i inside
            (λ y low. subst (λ (p : Port). (y < x.contention.search.below) ⊎ (y ≡ p.control.here.arena)) s.port (passed y low))
            (λ none_freed. subst (λ (l : List ℕ). IsInUse e l k i) same (owned_arenas_are_in_use e words ports reckoned.tally k i time.tally (ap (λ (p : Port). p.control.owned) (sym s.port) ∙ none) inside held.1)))
      ]))
      (λ n. refl)

  -- the store that gives the arena back
  pub may_give : (o : OwnedArena) → x.port.control.owned ≡ Some o → (x.port.control.past ≡ true) ⊎ ((x.port.control.past ≡ false) × (x.contention.search.met ≡ true) × HasPassedArenas o.arena x) →
      Allows (IsRuleKept a) slots id me (own_word e o.arena) (λ n. 0) (tells (SeatGives o) me)
  may_give o owned cause = quietly_searching a slots id me one own known (own_word e o.arena) (λ n. 0) (λ n. having_given) (λ n. contention_giving x.port.control.past o) (SeatGives o)
      (λ n. record { part = λ p. refl; before = λ p. refl; here = λ p. refl; passed = λ p. omega arith }) (λ n. giving_seals x.port.control.past o)
      (λ words ports notes b reckoned w time s.
      let k : ℕ = x.number in
      let words' : List ℕ = slice_set words (own_word e o.arena) 0 in
      let owned' : (ports k).control.owned ≡ Some o = ap (λ (p : Port). p.control.owned) (sym s.port) ∙ owned in
      let old = subst (λ (p : Port). IsSince x.began p.control.entering (reckoned.since k)) s.port s.entering in
      let P : Bool → Type 0 = λ t. OwnSearch a words words' ports notes b reckoned k x.began (having_given (ports k)) (if t then x.contention else passing o.arena x.contention) in
      let given : MayCount (ports k) reckoned.tally k (move.Gives o) → QuietlyBy a words words' ports notes b reckoned k x.began (having_given (ports k)) (move.Gives o) = λ may.
      by_count a words ports notes b reckoned w time k s.number x.began (move.Gives o) owned' may (λ p c n is. is) (λ q ne. refl) words' refl (having_given (ports k)) refl old in
      (elim cause [
        | inl past ↦
            let by = given (inl (ap (λ (p : Port). p.control.past) (sym s.port) ∙ past)) in
            subst P (sym past) (leaves_search a words words' ports notes b reckoned k s.number x.began (having_given (ports k)) x.contention s.search (record { to = by.to; met = λ is. by.met ∙ is }) s.met)
        | inr found ↦
            let by = given (inr (s.met found.1)) in
            let owner = subst (λ (t : Option OwnedArena). IfSome t (IsOwner e (control_words e words) (controls ports) (site_now b) (numbers b) k)) owned' (w.epochs.control.owners k s.number) in
            subst P (sym found.0)
            (passes_to a words words' ports notes b reckoned k s.number x.began (having_given (ports k)) x.contention s.search by.to owner.stands o.arena owner.arena
            (λ y low. subst (λ (p : Port). (y < x.contention.search.below) ⊎ (y ≡ p.control.here.arena)) s.port (found.2 y low))
            (λ none_freed. inl (by.leaves none_freed)))
      ]))
      (λ n. refl)

  -- the load of the next port's word
  pub may_load_port : (o : OwnedArena) → x.port.control.owned ≡ Some o → o.looked ≡ true → o.set ≡ 0 → o.clean < a.ports →
      Allows (IsRuleKept a) slots id me (at_word o.clean) (λ n. n) (tells (LoadsPort o) me)
  may_load_port o owned looked none more =
      quietly_searching a slots id me one own known (at_word o.clean) (λ n. n) (λ n p. owning_port p (port_loaded n o)) (λ n m. contention_loading n o m) (LoadsPort o)
      (λ n. owned_quiet (λ p. port_loaded n o)) (λ n m. loading_seals n o m)
      (λ words ports notes b reckoned w time s.
      let k : ℕ = x.number in
      let n : ℕ = slice_index words (at_word o.clean) in
      let words' : List ℕ = slice_set words (at_word o.clean) n in
      let owned' : (ports k).control.owned ≡ Some o = ap (λ (p : Port). p.control.owned) (sym s.port) ∙ owned in
      let old = subst (λ (p : Port). IsSince x.began p.control.entering (reckoned.since k)) s.port s.entering in
      let P : Bool → Type 0 = λ t. OwnSearch a words words' ports notes b reckoned k x.began (owning_port (ports k) (if t then elsewhere n o else having_loaded o (unpacked (n - entering_bit))))
      (if t then contention_there n o x.contention else x.contention) in
      (elim (cases_lt n entering_bit) [
        | inl less ↦ subst P (sym (lt-ltb n entering_bit less))
            (finds_elsewhere a words ports notes b reckoned w time k s.number x.began old o owned' looked none more x.contention s.search s.met words' (load_same words (at_word o.clean)) less)
        | inr from ↦ subst P (sym (not_below n entering_bit from))
            (leaves_search a words words' ports notes b reckoned k s.number x.began (owning_port (ports k) (having_loaded o (unpacked (n - entering_bit)))) x.contention s.search
            (by_move a words ports notes b reckoned w time k s.number x.began (move.LoadsEnteringWord o) (owned', more, from) tt refl (λ p c n is. is) (λ q ne. refl) words' (load_same words (at_word o.clean))
            (owning_port (ports k) (having_loaded o (unpacked (n - entering_bit)))) refl old) s.met)
      ]))
      (λ n. refl)

  -- the exchange of its entering word
  pub may_put : (o : OwnedArena) (m : Site) → x.port.control.owned ≡ Some o → o.looked ≡ true → o.set ≡ 0 → o.clean < a.ports → o.entering_word ≡ Some m → o.again ≡ true →
      Allows (IsRuleKept a) slots id me (at_word o.clean) (λ n. either (n == entering_from m) (packed x.port.control.here) n) (tells (PutsPort o m) me)
  may_put o m owned looked none more entering_word again = quietly_searching a slots id me one own known (at_word o.clean) (λ n. either (n == entering_from m) (packed x.port.control.here) n)
      (λ n p. owning_port p (port_put m n o)) (λ n w. contention_putting m n o w)
      (PutsPort o m)
      (λ n. owned_quiet (λ p. port_put m n o)) (λ n w. putting_seals m n o w)
      (λ words ports notes b reckoned w time s.
      let k : ℕ = x.number in
      let i : ℕ = at_word o.clean in
      let n : ℕ = slice_index words i in
      let there : ℕ = packed x.port.control.here in
      let v : ℕ = either (n == entering_from m) there n in
      let words' : List ℕ = slice_set words i v in
      let u : Contention = x.contention in
      let owned' : (ports k).control.owned ≡ Some o = ap (λ (p : Port). p.control.owned) (sym s.port) ∙ owned in
      let old = subst (λ (p : Port). IsSince x.began p.control.entering (reckoned.since k)) s.port s.entering in
      let Q : OwnedArena → Contention → Type 0 = λ p m. OwnSearch a words words' ports notes b reckoned k x.began (owning_port (ports k) p) m in
      let P : Bool → Type 0 = λ t. Q (if t then at_next_port o else (if nat_lt n entering_bit then elsewhere n o else o)) (if t then u else (if nat_lt n entering_bit then contention_there n o u else meeting u)) in
      (elim (eqb_tells n (entering_from m)) [
        | inl won ↦
            let word : (if n == entering_from m then packed (ports k).control.here else n) ≡ v = ap (λ (p : Port). if n == entering_from m then packed p.control.here else n) (sym s.port)
            ∙ either_cond (n == entering_from m) there n in
            subst P (sym won.0)
            (leaves_search a words words' ports notes b reckoned k s.number x.began (owning_port (ports k) (at_next_port o)) u s.search
            (by_move a words ports notes b reckoned w time k s.number x.began (move.Puts o m) (owned', looked, more, none, entering_word, again, won.1) tt refl (λ p c n is. is) (λ q ne. refl) words'
            (ap (λ v. slice_set words i v) word) (owning_port (ports k) (at_next_port o)) refl old) s.met)
        | inr lost ↦
            let R : Bool → Type 0 = λ t. Q (if t then elsewhere n o else o) (if t then contention_there n o u else meeting u) in
            let same : words ≡ words' = load_same words i ∙ ap (λ t. slice_set words i (either t there n)) (sym lost.0) in
            let stays : R (nat_lt n entering_bit) =
            (elim (cases_lt n entering_bit) [
              | inl less ↦ subst R (sym (lt-ltb n entering_bit less))
                  (finds_elsewhere a words ports notes b reckoned w time k s.number x.began old o owned' looked none more u s.search s.met words' same less)
              | inr from ↦ subst R (sym (not_below n entering_bit from))
                  (finds_another a words ports notes b reckoned w time k s.number x.began old o owned' looked none more u s.search s.met m entering_word lost.1 words' same)
            ]) in
            subst P (sym lost.0) stays
      ]))
      (λ n. refl)
