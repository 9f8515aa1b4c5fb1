-- What the owner of an arena has after its steps.
use Rattle.std.proofs.Common.{le-ltb}
use Rattle.partial_long_lived.specs.declared.claim.Claimed.{Claimed}
use Rattle.partial_long_lived.specs.declared.claim.Claimed.TheVariants.{Clean, Taken, Ended}
use Rattle.partial_long_lived.proofs.{Common.{ℕ, value_word, initial_record, ◌≡◌, ◌≢◌, ◌+◌, ◌-◌, ◌%◌, ◌<◌, ◌≤◌, Bool, true, if◌then◌else◌, Option, Some, None, IfSome, refl, sym, ap, subst, ◌∙◌, inl, inr, arith, nat_lt, lt-ltb, Layout, first_free, Site, arena_limit, entering_bit, entering_from, OwnedArena, Stands, at_next_port, having_loaded, owning_port, resting_arena, not_below, About, Stand, SeatedPort, port_at, LoadsPort, SeatPublishes, PutsPort, Sets, becomes, elsewhere, port_loaded, port_put, unpacked, HasLoadedPort, IsRight, MayPutPort, OfOwned, Owns, PutsBy, SetsLists, SetsValue, HasControl, Control, after_value, after_values, SetsNext, HasSetWords, FindsClear, Contention, Takes, contention_loading, contention_putting, contention_there, cases_lt, ◌⊎◌, TakesBy, Searches, SearchesOn, search_at, MeetsPort, HasPassedArenas, passing, meeting, GivesBack, SeatGives, having_given, just_taken, taken_at, contention_taking, Port, false, eqb_tells, ◌&&◌, ◌==◌, MeetsBy, FindsSet}, Sets.{alike, unlike, value_behind}}

-- a step by the arena that the port owns
own_told : (R : OwnedArena → SeatedPort → ℕ → SeatedPort → Type 0) (x : SeatedPort) (a : ℕ) (y : SeatedPort) (o : OwnedArena) → x.port.control.owned ≡ Some o → OfOwned R x a y → R o x a y
own_told R x a y o is told = subst (λ (t : Option OwnedArena). IfSome t (λ o. R o x a y)) is told

-- the load of a word that is to be set to v: it has found that, or another number
module _ (R : SeatedPort → ℕ → SeatedPort → Type 0) (v u : ℕ) (wanted : u ≡ v) (x : SeatedPort) (a : ℕ) (y : SeatedPort) (found : FindsSet u R x a y) where
  pub found_set : a ≡ v → R x a y
  found_set at = elim found [ inl set ↦ set.1 | inr other ↦ absurd (other.0 (at ∙ sym wanted)) ]

  pub found_other : a ≢ v → y ≡ x
  found_other ne = elim found [ inl set ↦ absurd (ne (set.0 ∙ wanted)) | inr other ↦ other.1 ]

-- the words that are set are those of an opening, and carried stamps
pub right_low : (about : About) (x : SeatedPort) (v i : ℕ) → x.about ≡ about → IsRight x v i → i < first_free about.sizes + about.sizes.m
right_low about x v i own right = subst (λ (a : About). i < first_free a.sizes + a.sizes.m) own (by x.about.sizes right)
  where
    by : (z : Layout) → IsRight x v i → i < first_free x.about.sizes + x.about.sizes.m
    by z (inl r) = let low = r.within in omega (arith, low)
    by z (inr r) = let low = r.inside in let at = r.at in omega (arith, low, at)

-- the port with the same control has set as much
pub set_kept : (s t : Stand) (y q i : ℕ) → HasControl s t → HasSetWords s y q i → HasSetWords t y q i
set_kept s t y q i same w = record {
  stands = ap (λ (c : Control). c.entering) same ∙ w.stands;
  owned = w.owned;
  is = ap (λ (c : Control). c.owned) same ∙ w.is;
  arena = w.arena;
  looked = w.looked;
  clean = w.clean;
  entering_word = w.entering_word;
  set = w.set;
}

-- what a step leaves of a search: the port stands where it stood, and has seen its epoch's end no more than before
module _ (s t : Stand) (met met' : Bool) (n n' : ℕ) (w : Searches met n s) (p : Port) (m : Contention) (is : port_at t ≡ record (becomes (port_at s) (port_at s).began p) { contention = m })
    (here : p.control.here ≡ (port_at s).port.control.here) (past : p.control.past ≡ (port_at s).port.control.past) (epoch : m.search.epoch ≡ (search_at s).epoch) (freed : m.search.freed ≡ (search_at s).freed)
    (most : m.search.most ≡ (search_at s).most) (met_is : m.search.met ≡ met') (passed : (i : ℕ) → i < n' → (i < m.search.below) ⊎ (i ≡ (port_at s).port.control.here.arena)) where
  pub searches_on : SearchesOn met' n' s t
  searches_on = record {
    searches = record {
      epoch = ap (λ (x : SeatedPort). x.contention.search.epoch) is ∙ epoch ∙ w.epoch ∙ sym (ap (λ (x : SeatedPort). x.port.control.here.epoch) is ∙ ap (λ (d : Site). d.epoch) here);
      past = ap (λ (x : SeatedPort). x.port.control.past) is ∙ past ∙ w.past;
      met_is = ap (λ (x : SeatedPort). x.contention.search.met) is ∙ met_is;
      passed = subst (HasPassedArenas n') (sym is) (λ i low. subst (λ (d : Site). (i < m.search.below) ⊎ (i ≡ d.arena)) (sym here) (passed i low));
    };
    same = record { freed = ap (λ (x : SeatedPort). x.contention.search.freed) is ∙ freed; most = ap (λ (x : SeatedPort). x.contention.search.most) is ∙ most };
  }

-- one that leaves what the port has met as it was
pub searches_still : (s t : Stand) (met : Bool) (n : ℕ) → Searches met n s → (p : Port) → port_at t ≡ record (becomes (port_at s) (port_at s).began p) { contention = (port_at s).contention } →
    p.control.here ≡ (port_at s).port.control.here → p.control.past ≡ (port_at s).port.control.past → SearchesOn met n s t
searches_still s t met n w p is here past = searches_on s t met met n n w p (port_at s).contention is here past refl refl refl w.met_is w.passed

-- one by which it passes an arena
pub searches_past : (s t : Stand) (met : Bool) (n i : ℕ) → Searches met n s → (p : Port) → port_at t ≡ record (becomes (port_at s) (port_at s).began p) { contention = passing i (port_at s).contention } →
    p.control.here ≡ (port_at s).port.control.here → p.control.past ≡ (port_at s).port.control.past → SearchesOn false (i + 1) s t
searches_past s t met n i w p is here past = searches_on s t met false n (i + 1) w p (passing i (port_at s).contention) is here past refl refl refl refl (λ y low. inl low)

-- one by which it meets another port
pub searches_met : (s t : Stand) (met : Bool) (n : ℕ) → Searches met n s → (p : Port) → port_at t ≡ record (becomes (port_at s) (port_at s).began p) { contention = meeting (port_at s).contention } →
    p.control.here ≡ (port_at s).port.control.here → p.control.past ≡ (port_at s).port.control.past → SearchesOn true n s t
searches_met s t met n w p is here past = searches_on s t met true n n w p (meeting (port_at s).contention) is here past refl refl refl refl w.passed

-- a search that goes on twice
pub on_then : (s t u : Stand) (met met' : Bool) (n n' : ℕ) → SearchesOn met n s t → SearchesOn met' n' t u → SearchesOn met' n' s u
on_then s t u met met' n n' a b = record { searches = b.searches; same = record { freed = (b.same).freed ∙ (a.same).freed; most = (b.same).most ∙ (a.same).most } }

-- so does what has come of an arena
pub meets_then : (r : Claimed) (x : ℕ) (s t u : Stand) → SearchesOn false x s t → MeetsBy r x t u → MeetsBy r x s u
meets_then (Clean y) x s t u a b = on_then s t u false false x x a b
meets_then Taken x s t u a b = on_then s t u false true x x a b
meets_then Ended x s t u a b = tt

-- what the load of the next port's word shows of the search
pub loaded_there : (s t : Stand) (y a : ℕ) → a < entering_bit → a % arena_limit ≡ y → MeetsPort y a s t → SearchesOn true y s t
loaded_there s t y a low same = subst (λ (c : Bool). SearchesOn c y s t) (ap (λ (c : Bool). c && (a % arena_limit == y)) (lt-ltb a entering_bit low) ∙ alike (a % arena_limit) y same)

pub loaded_away : (s t : Stand) (y a : ℕ) → a < entering_bit → a % arena_limit ≢ y → MeetsPort y a s t → SearchesOn false y s t
loaded_away s t y a low ne = subst (λ (c : Bool). SearchesOn c y s t) (ap (λ (c : Bool). c && (a % arena_limit == y)) (lt-ltb a entering_bit low) ∙ unlike (a % arena_limit) y ne)

pub loaded_entering : (s t : Stand) (y a : ℕ) → entering_bit ≤ a → MeetsPort y a s t → SearchesOn false y s t
loaded_entering s t y a from = subst (λ (c : Bool). SearchesOn c y s t) (ap (λ (c : Bool). c && (a % arena_limit == y)) (not_below a entering_bit from))

-- the exchange of the owner word of an arena
pub take_passes : (s t : Stand) (y w a : ℕ) → w ≡ 1 + (port_at s).about.ports + y → TakesBy w (port_at s) a (port_at t) → Searches false y s → SearchesOn false (if a == 0 then y else y + 1) s t
take_passes s t y w a word says searches = by (eqb_tells a 0)
  where
    told : port_at t ≡ record (becomes (port_at s) (port_at s).began (taken_at y a (port_at s).port)) { contention = contention_taking y a (port_at s).contention }
    told = subst (λ i. Takes i (port_at s) a (port_at t)) (omega (arith, word)) says

    x : SeatedPort
    x = port_at s

    after : Bool → SeatedPort
    after c = record (becomes x x.began (if c then owning_port x.port (just_taken y) else x.port)) { contention = if c then x.contention else passing y x.contention }

    by : (((a == 0) ≡ true) × (a ≡ 0)) ⊎ (((a == 0) ≡ false) × (a ≢ 0)) → SearchesOn false (if a == 0 then y else y + 1) s t
    by (inl free) = subst (λ (c : Bool). SearchesOn false (if c then y else y + 1) s t) (sym free.0) (searches_still s t false y searches (owning_port x.port (just_taken y)) (told ∙ ap after free.0) refl refl)
    by (inr held) = subst (λ (c : Bool). SearchesOn false (if c then y else y + 1) s t) (sym held.0) (searches_past s t false y y searches x.port (told ∙ ap after held.0) refl refl)

-- the store that gives it back
pub give_passes : (s t : Stand) (y a : ℕ) → (owns : Owns s y) → GivesBack (port_at s) a (port_at t) → Searches true y s → SearchesOn false (y + 1) s t
give_passes s t y a owns says searches =
    let x : SeatedPort = port_at s in
    let o = owns.owned in
    let told : SeatGives o x a (port_at t) = own_told SeatGives x a (port_at t) o owns.is says in
    let after : Bool → SeatedPort = λ c. record (becomes x x.began (having_given x.port)) { contention = if c then x.contention else passing o.arena x.contention } in
    subst (λ i. SearchesOn false (i + 1) s t) owns.arena (searches_past s t true y o.arena searches (having_given x.port) (told ∙ ap after searches.past) refl refl)

-- the port with another state of its arena
module _ (s t : Stand) (o : OwnedArena) (m : Contention) (is : port_at t ≡ record (becomes (port_at s) (port_at s).began (owning_port (port_at s).port o)) { contention = m }) (stands : (port_at s).port.control.entering ≡ Stands) where
  stands_then : (port_at t).port.control.entering ≡ Stands
  stands_then = ap (λ (z : SeatedPort). z.port.control.entering) is ∙ stands

  owned_then : (port_at t).port.control.owned ≡ Some o
  owned_then = ap (λ (z : SeatedPort). z.port.control.owned) is

  works_then : (y q i : ℕ) → o.arena ≡ y → o.looked ≡ true → o.clean ≡ q → o.entering_word ≡ None → o.set ≡ i → HasSetWords t y q i
  works_then y q i arena looked clean entering_word set = record { stands = stands_then; owned = o; is = owned_then; arena = arena; looked = looked; clean = clean; entering_word = entering_word; set = set }

module _ (s t : Stand) (y q i a : ℕ) (w : HasSetWords s y q i) where
  abbrev o : OwnedArena
  o = w.owned

  pub set_works : SetsNext (port_at s) a (port_at t) → HasSetWords t y q (i + 1)
  set_works told =
      let r : Sets o (o.set + 1) (port_at s) a (port_at t) = own_told (λ o. Sets o (o.set + 1)) (port_at s) a (port_at t) o w.is told in
      works_then s t (record o { set = o.set + 1 }) (port_at s).contention r w.stands y q (i + 1) w.arena w.looked w.clean w.entering_word (ap (λ n. n + 1) w.set)

  pub set_lists_works : (z : Layout) → (port_at s).about.sizes ≡ z → SetsLists (port_at s) a (port_at t) → HasSetWords t y q (after_values z 0)
  set_lists_works z same told =
      let n : Layout → ℕ = λ z. after_values z 0 in
      let r : Sets o (n (port_at s).about.sizes) (port_at s) a (port_at t) = own_told (λ o. Sets o (n (port_at s).about.sizes)) (port_at s) a (port_at t) o w.is told in
      works_then s t (record o { set = n (port_at s).about.sizes }) (port_at s).contention r w.stands y q (n z) w.arena w.looked w.clean w.entering_word (ap n same)

  pub set_value_works : (z : Layout) → (port_at s).about.sizes ≡ z → (j : ℕ) → j < z.m → i ≡ after_values z j → SetsValue (port_at s) a (port_at t) → HasSetWords t y q (after_values z (j + 1))
  set_value_works z same j low at told =
      let n : OwnedArena → ℕ = λ o. after_value (port_at s).about.sizes o.set in
      let r : Sets o (n o) (port_at s) a (port_at t) = own_told (λ o. Sets o (n o)) (port_at s) a (port_at t) o w.is told in
      works_then s t (record o { set = n o }) (port_at s).contention r w.stands y q (after_values z (j + 1)) w.arena w.looked w.clean w.entering_word
      (ap (λ (z : Layout). after_value z o.set) same ∙ ap (after_value z) (w.set ∙ at) ∙ value_behind z j low)

  pub find_clear_works : (z : Layout) → (port_at s).about.sizes ≡ z → (n : ℕ) → n ≡ z.slots - a → OfOwned FindsClear (port_at s) a (port_at t) → HasSetWords t y q n
  find_clear_works z same n is told =
      let r : FindsClear o (port_at s) a (port_at t) = own_told FindsClear (port_at s) a (port_at t) o w.is told in
      works_then s t (record o { set = (port_at s).about.sizes.slots - a }) (port_at s).contention r w.stands y q n w.arena w.looked w.clean w.entering_word (ap (λ (z : Layout). z.slots - a) same ∙ sym is)

  pub publish_owns : OfOwned SeatPublishes (port_at s) a (port_at t) → Owns t y
  publish_owns told =
      let r : SeatPublishes o (port_at s) a (port_at t) = own_told SeatPublishes (port_at s) a (port_at t) o w.is told in
      record { stands = ap (λ (z : SeatedPort). z.port.control.entering) r ∙ w.stands; owned = resting_arena o; is = ap (λ (z : SeatedPort). z.port.control.owned) r; arena = w.arena }

-- the load of the word of the next port
module _ (s t : Stand) (y q a : ℕ) (w : HasSetWords s y q 0) (told : OfOwned LoadsPort (port_at s) a (port_at t)) where
  abbrev own : OwnedArena
  own = w.owned

  abbrev holding : OwnedArena
  holding = having_loaded own (unpacked (a - entering_bit))

  abbrev met : Contention
  met = contention_loading a own (port_at s).contention

  told_is : port_at t ≡ record (becomes (port_at s) (port_at s).began (owning_port (port_at s).port (port_loaded a own))) { contention = met }
  told_is = own_told LoadsPort (port_at s) a (port_at t) own w.is told

  loaded_as : (o' : OwnedArena) → port_loaded a own ≡ o' → port_at t ≡ record (becomes (port_at s) (port_at s).began (owning_port (port_at s).port o')) { contention = met }
  loaded_as o' same = told_is ∙ ap (λ (o : OwnedArena). record (becomes (port_at s) (port_at s).began (owning_port (port_at s).port o)) { contention = met }) same

  unmarked : a < entering_bit → port_loaded a own ≡ elsewhere a own
  unmarked low = ap (λ (c : Bool). if c then elsewhere a own else holding) (lt-ltb a entering_bit low)

  is_away : a < entering_bit → a % arena_limit ≢ y → port_loaded a own ≡ at_next_port own
  is_away low ne = unmarked low ∙ ap (λ (c : Bool). if c then own else at_next_port own) (unlike (unpacked a).arena own.arena (λ same. ne (same ∙ w.arena)))

  is_there : a < entering_bit → a % arena_limit ≡ y → port_loaded a own ≡ own
  is_there low same = unmarked low ∙ ap (λ (c : Bool). if c then own else at_next_port own) (alike (unpacked a).arena own.arena (same ∙ sym w.arena))

  is_entering : entering_bit ≤ a → port_loaded a own ≡ holding
  is_entering from = ap (λ (c : Bool). if c then elsewhere a own else holding) (not_below a entering_bit from)

  pub port_load : HasLoadedPort t y q a
  port_load = record {
    away = λ low ne. works_then s t (at_next_port own) met (loaded_as (at_next_port own) (is_away low ne)) w.stands y (q + 1) 0 w.arena w.looked (ap (λ n. n + 1) w.clean) refl w.set;
    there = λ low same. works_then s t own met (loaded_as own (is_there low same)) w.stands y q 0 w.arena w.looked w.clean w.entering_word w.set;
    entering_from = λ from.
        let now = loaded_as holding (is_entering from) in
        record {
          stands = stands_then s t holding met now w.stands;
          owned = holding;
          is = owned_then s t holding met now w.stands;
          arena = w.arena;
          looked = w.looked;
          clean = w.clean;
          entering_word = refl;
          set = w.set;
        };
  }

  -- the search goes on, and a port that stands in the arena is met there
  pub port_meets : Searches false y s → MeetsPort y a s t
  port_meets searches = by (cases_lt a entering_bit)
    where
      x : SeatedPort
      x = port_at s

      G : Bool → Type 0
      G c = SearchesOn c y s t

      stays : (m : Contention) → met ≡ m → port_at t ≡ record (becomes x x.began (owning_port x.port (port_loaded a own))) { contention = m }
      stays m same = told_is ∙ ap (λ (m : Contention). record (becomes x x.began (owning_port x.port (port_loaded a own))) { contention = m }) same

      low_met : a < entering_bit → met ≡ contention_there a own x.contention
      low_met low = ap (λ (c : Bool). if c then contention_there a own x.contention else x.contention) (lt-ltb a entering_bit low)

      by : (a < entering_bit) ⊎ (entering_bit ≤ a) → MeetsPort y a s t
      by (inr from) = subst G (sym (ap (λ (c : Bool). c && (a % arena_limit == y)) (not_below a entering_bit from)))
          (searches_still s t false y searches (owning_port x.port (port_loaded a own)) (stays x.contention (ap (λ (c : Bool). if c then contention_there a own x.contention else x.contention) (not_below a entering_bit from))) refl refl)
      by (inl low) = (elim (eqb_tells (unpacked a).arena own.arena) [
        | inl same ↦ subst G (sym (ap (λ (c : Bool). c && (a % arena_limit == y)) (lt-ltb a entering_bit low) ∙ alike (a % arena_limit) y (same.1 ∙ w.arena)))
            (searches_met s t false y searches (owning_port x.port (port_loaded a own)) (stays (meeting x.contention) (low_met low ∙ ap (λ (c : Bool). if c then meeting x.contention else x.contention) same.0)) refl refl)
        | inr ne ↦ subst G (sym (ap (λ (c : Bool). c && (a % arena_limit == y)) (lt-ltb a entering_bit low) ∙ unlike (a % arena_limit) y (λ is. ne.1 (is ∙ sym w.arena))))
            (searches_still s t false y searches (owning_port x.port (port_loaded a own)) (stays x.contention (low_met low ∙ ap (λ (c : Bool). if c then meeting x.contention else x.contention) ne.0)) refl refl)
      ])

-- the exchange of its entering word m
module _ (s t : Stand) (y q m a : ℕ) (w : MayPutPort s y q m) (from : entering_bit ≤ m) (told : PutsBy m (port_at s) a (port_at t)) where
  abbrev put : OwnedArena
  put = w.holds.owned

  abbrev entering_word : Site
  entering_word = unpacked (m - entering_bit)

  abbrev met_then : Contention
  met_then = contention_putting entering_word a put (port_at s).contention

  put_is : port_at t ≡ record (becomes (port_at s) (port_at s).began (owning_port (port_at s).port (port_put entering_word a put))) { contention = met_then }
  put_is = own_told (λ o. PutsPort o entering_word) (port_at s) a (port_at t) put w.holds.is told

  named : entering_from entering_word ≡ m
  named = omega (arith, from)

  put_as : port_put entering_word a put ≡ at_next_port put → HasSetWords t y (q + 1) 0
  put_as same = works_then s t (at_next_port put) met_then (put_is ∙ ap (λ (o : OwnedArena). record (becomes (port_at s) (port_at s).began (owning_port (port_at s).port o)) { contention = met_then }) same) w.holds.stands
      y (q + 1) 0 w.holds.arena w.holds.looked (ap (λ n. n + 1) w.holds.clean) refl w.holds.set

  abbrev others : Bool → OwnedArena
  others c = if c then elsewhere a put else put

  pub put_won : a ≡ m → HasSetWords t y (q + 1) 0
  put_won same = put_as (ap (λ (c : Bool). if c then at_next_port put else others (nat_lt a entering_bit)) (alike a (entering_from entering_word) (same ∙ sym named)))

  pub put_away : a < entering_bit → a % arena_limit ≢ y → HasSetWords t y (q + 1) 0
  put_away low ne = put_as (ap (λ (c : Bool). if c then at_next_port put else others (nat_lt a entering_bit)) (unlike a (entering_from entering_word) (λ same. absurd (omega (arith, same, low))))
      ∙ ap others (lt-ltb a entering_bit low) ∙ ap (λ (c : Bool). if c then put else at_next_port put) (unlike (unpacked a).arena put.arena (λ same. ne (same ∙ w.holds.arena))))

  abbrev x : SeatedPort
  x = port_at s

  put_stays : (m : Contention) → met_then ≡ m → port_at t ≡ record (becomes x x.began (owning_port x.port (port_put entering_word a put))) { contention = m }
  put_stays m same = put_is ∙ ap (λ (m : Contention). record (becomes x x.began (owning_port x.port (port_put entering_word a put))) { contention = m }) same

  abbrev met_by : Bool → Contention
  met_by c = if c then contention_there a put x.contention else meeting x.contention

  lost_met : a ≢ m → met_then ≡ met_by (nat_lt a entering_bit)
  lost_met other = ap (λ (c : Bool). if c then x.contention else met_by (nat_lt a entering_bit)) (unlike a (entering_from entering_word) (λ same. other (same ∙ named)))

  -- the search goes on where the port is put, or is in another arena
  pub put_clean : Searches false y s → (a ≡ m) ⊎ ((a < entering_bit) × (a % arena_limit ≢ y)) → SearchesOn false y s t
  put_clean searches (inl same) = searches_still s t false y searches (owning_port x.port (port_put entering_word a put))
      (put_stays x.contention (ap (λ (c : Bool). if c then x.contention else met_by (nat_lt a entering_bit)) (alike a (entering_from entering_word) (same ∙ sym named)))) refl refl
  put_clean searches (inr away) = searches_still s t false y searches (owning_port x.port (port_put entering_word a put))
      (put_stays x.contention (lost_met (λ same. (let low = away.0 in absurd (omega (arith, same, low)))) ∙ ap met_by (lt-ltb a entering_bit away.0)
      ∙ ap (λ (c : Bool). if c then meeting x.contention else x.contention) (unlike (unpacked a).arena put.arena (λ is. away.1 (is ∙ w.holds.arena))))) refl refl

  -- an exchange that finds another word, which isn't the site of another arena, meets a port there
  pub put_meets : Searches false y s → a ≢ m → (a < entering_bit → a % arena_limit ≡ y) → SearchesOn true y s t
  put_meets searches other there = searches_met s t false y searches (owning_port x.port (port_put entering_word a put)) (put_stays (meeting x.contention) (lost_met other ∙ by (cases_lt a entering_bit))) refl refl
    where
      by : (a < entering_bit) ⊎ (entering_bit ≤ a) → met_by (nat_lt a entering_bit) ≡ meeting x.contention
      by (inl low) = ap met_by (lt-ltb a entering_bit low) ∙ ap (λ (c : Bool). if c then meeting x.contention else x.contention) (alike (unpacked a).arena put.arena (there low ∙ sym w.holds.arena))
      by (inr from) = ap met_by (not_below a entering_bit from)

-- after the last value come the carried stamps
pub after_last : (z : Layout) (n : ℕ) → z.m ≤ n → after_values z n ≡ first_free z + 0
after_last z n all =
    let here : after_values z n ≡ first_free z = ap (λ (b : Bool). if b then value_word (initial_record z n) else first_free z) (le-ltb n z.m all) in
    omega (arith, here)
