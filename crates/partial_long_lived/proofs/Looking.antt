-- What a look leaves of a port.
use Rattle.partial_long_lived.proofs.{Common.{ℕ, ◌≡◌, ◌==◌, Bool, true, false, if◌then◌else◌, Option, Some, None, refl, sym, ap, ◌∙◌, option_map_or, packed, OwnedArena, Port, having_passed, having_looked, Stand, SeatedPort, port_at, having_found, looked_at, StaysAt, LookFound, HasTaken, HoldsEnteringWord, IsPast, MayPutPort, Owns, Remains, HasSetWords, Began, Contention, becomes, Searches, SearchesOn, PassBegun, BeginsPass, HasPassedArenas, arith, subst}, Working.searches_still}
use Rattle.std.proofs.lemmas.Bool.{eqb-true as eqb_true}

-- what a look leaves as it was, whatever it finds
looked_same : {A : Type 0} (f : Port → A) (n : ℕ) (p : Port) → ((o : OwnedArena) → f (having_looked p o) ≡ f p) → f (having_passed p) ≡ f p → f (looked_at n p) ≡ f p
looked_same {A} f n p here away = by (n == packed p.control.here) p.control.owned
  where
    by : (c : Bool) (o : Option OwnedArena) → f (if c then option_map_or (having_looked p) o p else having_passed p) ≡ f p
    by true None = refl
    by true (Some o) = here o
    by false o = away

module _ (first : Bool) (s t : Stand) (b : Bool) (w : LookFound first s b t) where
  port_is : (port_at t).port ≡ looked_at w.found (port_at s).port
  port_is = ap (λ (z : SeatedPort). z.port) w.looks.2

  pub looked_keeps : {A : Type 0} (f : Port → A) → ((o : OwnedArena) → f (having_looked (port_at s).port o) ≡ f (port_at s).port) → f (having_passed (port_at s).port) ≡ f (port_at s).port →
      f (port_at t).port ≡ f (port_at s).port
  looked_keeps f here away = ap f port_is ∙ looked_same f w.found (port_at s).port here away

  -- it has found the port's own site, or another one
  pub looked_own : b ≡ true → (o : OwnedArena) → (port_at s).port.control.owned ≡ Some o → (port_at t).port ≡ having_looked (port_at s).port o
  looked_own here o is =
      port_is ∙ ap (λ (c : Bool). if c then having_found (port_at s).port else having_passed (port_at s).port) (sym w.is ∙ here)
      ∙ ap (λ (o : Option OwnedArena). option_map_or (having_looked (port_at s).port) o (port_at s).port) is

  pub looked_away : b ≡ false → (port_at t).port ≡ having_passed (port_at s).port
  looked_away away = port_is ∙ ap (λ (c : Bool). if c then having_found (port_at s).port else having_passed (port_at s).port) (sym w.is ∙ away)

  pub away_past : b ≡ false → IsPast t
  away_past away = ap (λ (p : Port). p.control.past) (looked_away away)

  pub away_owns : (y : ℕ) → b ≡ false → Owns s y → Owns t y
  away_owns y away own = record {
    stands = ap (λ (p : Port). p.control.entering) (looked_away away) ∙ own.stands;
    owned = own.owned;
    is = ap (λ (p : Port). p.control.owned) (looked_away away) ∙ own.is;
    arena = own.arena;
  }

-- whether the port has seen its epoch's end, after a look that finds its own site the current one, or another
pub past_kept : (n : ℕ) (p : Port) → (n == packed p.control.here) ≡ true → (looked_at n p).control.past ≡ p.control.past
past_kept n p here = ap (λ (c : Bool). (if c then having_found p else having_passed p).control.past) here ∙ by p.control.owned
  where
    by : (o : Option OwnedArena) → (option_map_or (having_looked p) o p).control.past ≡ p.control.past
    by None = refl
    by (Some o) = refl

pub past_seen : (n : ℕ) (p : Port) → (n == packed p.control.here) ≡ false → (looked_at n p).control.past ≡ true
past_seen n p away = ap (λ (c : Bool). (if c then having_found p else having_passed p).control.past) away

-- a search goes on by a look, unless the port sees that its epoch has ended
pub looked_searching : (s t : Stand) (b : Bool) (met : Bool) (n : ℕ) → LookFound false s b t → b ≡ true → Searches met n s → SearchesOn met n s t
looked_searching s t b met n w here searches =
    searches_still s t met n searches (looked_at w.found (port_at s).port) (w.looks.2 ∙ ap (λ (g : Began). becomes (port_at s) g (looked_at w.found (port_at s).port)) w.looks.1)
    (looked_same (λ (p : Port). p.control.here) w.found (port_at s).port (λ o. refl) refl) (past_kept w.found (port_at s).port (sym w.is ∙ here))

-- what a look leaves of a port by which its search begins, or another pass
module _ (s t : Stand) (a : ℕ) (m : Contention) (is : port_at t ≡ record (becomes (port_at s) (port_at s).began (looked_at a (port_at s).port)) { contention = m }) where
  pub search_keeps : {A : Type 0} (f : Port → A) → ((o : OwnedArena) → f (having_looked (port_at s).port o) ≡ f (port_at s).port) → f (having_passed (port_at s).port) ≡ f (port_at s).port → f (port_at t).port ≡ f (port_at s).port
  search_keeps f here away = ap (λ (z : SeatedPort). f z.port) is ∙ looked_same f a (port_at s).port here away

-- whether a pass begins by a look that finds the port's own site the current one, or another
pub pass_begun : (s t : Stand) (a n : ℕ) → BeginsPass (port_at s) a (port_at t) → Searches false n s → n ≡ (port_at s).about.arenas → (b : Bool) → b ≡ (a == packed (port_at s).port.control.here) → PassBegun b s t
pass_begun s t a n w searches all true is =
    let at : a ≡ packed (port_at s).port.control.here = eqb_true a (packed (port_at s).port.control.here) (sym is) in
    let more = w.more at searches.epoch (subst (λ n. HasPassedArenas n (port_at s)) all searches.passed) in
    let freed = ap (λ (z : SeatedPort). z.contention.search.freed) w.is in
    let most = ap (λ (z : SeatedPort). z.contention.search.most) w.is in
    let low = more.0 in
    let few = more.1 in (
      record {
        epoch = ap (λ (z : SeatedPort). z.contention.search.epoch) w.is ∙ searches.epoch ∙ sym (search_keeps s t a _ w.is (λ (p : Port). p.control.here.epoch) (λ o. refl) refl);
        past = ap (λ (z : SeatedPort). z.port.control.past) w.is ∙ past_kept a (port_at s).port (sym is) ∙ searches.past;
        met_is = ap (λ (z : SeatedPort). z.contention.search.met) w.is ∙ searches.met_is;
        passed = λ i low. absurd (omega (arith, low));
      },
      most,
      omega (arith, freed, low),
      omega (arith, freed, most, few),
    )
pass_begun s t a n w searches all false is = ap (λ (z : SeatedPort). z.port.control.past) w.is ∙ past_seen a (port_at s).port (sym is)

-- a look but the first step of a call
pub looked_remains : (s t : Stand) (b : Bool) → StaysAt s t → LookFound false s b t → Remains s t
looked_remains s t b k w = record {
  stays = record {
    shape = k.shape;
    number = k.number;
    epoch = k.epoch;
    arena = k.arena;
    base = k.base;
    goes = k.goes;
    here = looked_keeps false s t b w (λ (p : Port). p.control.here) (λ o. refl) refl;
    entering = looked_keeps false s t b w (λ (p : Port). p.control.entering) (λ o. refl) refl;
    notes = ap (λ (z : SeatedPort). z.notes) w.looks.2;
    began = ap (λ (z : SeatedPort). z.began) w.looks.2 ∙ w.looks.1;
  };
  same = record {
    part = looked_keeps false s t b w (λ (p : Port). p.part) (λ o. refl) refl;
    before = looked_keeps false s t b w (λ (p : Port). p.before) (λ o. refl) refl;
    over = looked_keeps false s t b w (λ (p : Port). p.over) (λ o. refl) refl;
  };
  passed = looked_keeps false s t b w (λ (p : Port). p.passed) (λ o. refl) refl;
}

-- the first look of an owner
pub taken_works : (s t : Stand) (b : Bool) (y : ℕ) → HasTaken s y → LookFound false s b t → b ≡ true → HasSetWords t y 0 0
taken_works s t b y taken w here =
    let is = looked_own false s t b w here _ taken.is in record {
      stands = ap (λ (p : Port). p.control.entering) is ∙ taken.stands;
      owned = record { arena = y; looked = true; clean = 0; entering_word = None; again = true; set = 0 };
      is = ap (λ (p : Port). p.control.owned) is;
      arena = refl;
      looked = refl;
      clean = refl;
      entering_word = refl;
      set = refl;
    }

-- and the look once it has loaded an entering word
pub entering_puts : (s t : Stand) (b : Bool) (y q a : ℕ) → HoldsEnteringWord s y q a → LookFound false s b t → b ≡ true → MayPutPort t y q a
entering_puts s t b y q a holds w here =
    let is = looked_own false s t b w here holds.owned holds.is in record {
      holds = record {
        stands = ap (λ (p : Port). p.control.entering) is ∙ holds.stands;
        owned = record holds.owned { looked = true; again = true };
        is = ap (λ (p : Port). p.control.owned) is;
        arena = holds.arena;
        looked = refl;
        clean = holds.clean;
        entering_word = holds.entering_word;
        set = holds.set;
      };
      again = refl;
    }
