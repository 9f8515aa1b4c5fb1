-- Calls in straight lines: each step is allowed, and leads the call on.
use Rattle.partial_memory.proofs.{Common.{ℕ, ◌≡◌, ◌<◌, Some, List, refl, sym, subst, ◌∙◌, inl, inr, Me, Allows, TableId, Step, total, word_of, CoreState, advance, step_of, IsMachineOf, core_of, About, SeatedPort, IsRuleKept, IsOne, SeatShows, makes, one_of, ◌+◌, Begins, CallMade, IsGoing, IsUnderWay, ComesTo, CountsOn, HasCounted, machine_of}, Calls.{first_counted, next_counted, runs_machine, runs_on, runs_within}, Steps.{step_asked, change_of, answer_found}}

-- a call in its middle at the port x, whose next step is answered
module _ (x : SeatedPort) (under : IsUnderWay x) (s : Step) (due : step_of (core_of x.part) ≡ Some s) where
  next_machine : IsMachineOf (core_of x.part) x.part
  next_machine = let m = under.3 in runs_machine under.0 under.1 (core_of x.part) x under.2 (inr m)

  next_within : word_of s < total x.about.sizes
  next_within = let m = under.3 in subst (λ (o : About). word_of s < total o.sizes) (sym m.about) (runs_within under.0 under.1 (core_of x.part) x s under.2 (inr m) due)

  module _ (a : ℕ) (y : SeatedPort) (told : SeatShows (core_of x.part) x a y) where
    pub next_is : core_of y.part ≡ advance (core_of x.part) a
    next_is = sym told.tells.machine.is

    pub next_leads : ComesTo x y
    next_leads b h begins m = subst (λ (d : CoreState). CallMade b h d y) (sym next_is) (runs_on b h (core_of x.part) x a y s begins (inr m) due told)

    pub next_counts : (n m : ℕ) → m ≡ n + 1 → CountsOn n x m y
    next_counts = let m = under.3 in next_counted (core_of x.part) x a y m.made.machine.going told

    pub next_under : IsUnderWay y
    next_under = (under.0, under.1, under.2, next_leads under.0 under.1 under.2 under.3)

-- a further step is allowed, and leaves its seat going
module _ {S : Type 0} (table : TableId) (about : About) (here : TableId) (me : Me S (List SeatedPort)) (w : IsGoing table about here me) (s : Step) (due : step_of (machine_of me) ≡ Some s) where
  pub next_asked : (slots id : ℕ) → (word_of s < table.words) × Allows (IsRuleKept about) slots id me (word_of s) (change_of s) (λ n. makes (machine_of me) me (answer_found s n))
  next_asked slots id =
      let x = one_of me.0 in
      let c = machine_of me in
      let within : word_of s < table.words = subst (λ n. word_of s < n) (sym w.words) (subst (λ (o : About). word_of s < total o.sizes) w.own (next_within x w.under s due)) in
      step_asked about slots table.words id me c c s s within w.one w.own refl (next_machine x w.under s due, due) refl

  pub next_going : {R : Type 0} (there : TableId) (a : ℕ) (me' : Me R (List SeatedPort)) → there ≡ here → IsOne me' → SeatShows (machine_of me) (one_of me.0) a (one_of me'.0) →
      IsGoing table about there me'
  next_going there a me' same one told = record {
    fits = same ∙ w.fits;
    words = w.words;
    one = one;
    own = told.about ∙ w.own;
    under = next_under (one_of me.0) w.under s due a (one_of me'.0) told;
  }

-- the first step
module _ (b : CoreState) (x : SeatedPort) (begins : Begins b x) (s : Step) (due : step_of b ≡ Some s) (a : ℕ) (y : SeatedPort) (told : SeatShows b x a y) where
  pub first_is : core_of y.part ≡ advance b a
  first_is = sym told.tells.machine.is

  pub first_leads : CallMade b x (core_of y.part) y
  first_leads = subst (λ (d : CoreState). CallMade b x d y) (sym first_is) (runs_on b x b x a y s begins (inl (refl, refl)) due told)

  pub first_counts : (n m : ℕ) → m ≡ n + 1 → HasCounted n y m
  first_counts = first_counted b x a y begins told
