-- The stores of an owner are allowed.
use Rattle.partial_long_lived.proofs.{Common.{ℕ, ◌≡◌, ◌≢◌, ◌+◌, ◌-◌, ◌/◌, ◌%◌, ◌<◌, ◌≤◌, ◌==◌, ◌⊎◌, ◌++◌, true, false, if◌then◌else◌, Option, Some, IfSome, List, [], ◌∷◌, length, slice_index, slice_set, refl, sym, ap, subst, ◌∙◌, inl, inr, arith, length-append, nat_lt, lt-ltb, eqb_tells, get_or-set_same, Me, Allows, Applied, Opening, value_of, Noted, Layout, first_free, initial_record, list_base, list_counter, pool_base, pool_counter, initial_record_word, opening_word, list_of, IsToBeSet, after_value, after_values, Site, Plan, control_words, current_word, packed, set_word, stamp_after, opened_after, OwnedArena, Port, Beside, controls, next_epoch_word, numbers, site_now, having_set, LawfulMemory, many, at_of, below_whole, not_below, set_index, About, Found, IsFinal, IsRuleKept, IsLast, IsSeat, SeatedPort, one_of, plan_of, IsSeatKnown, IsOne, tells, Sets, FindsClear, becomes, cases_lt, offset_after, offset_front, slot_offset, slot_set, base, set_offset, slot_counter, slot_word, value_word, plain_record_size, MayMove, IsSince, Reckoning}, Asides.IsQuiet, Begins.here_is, Changes.owning_same, Control.{load_same, quietly, by_move, by_rest, moved_quietly}, Kept.allowed}
use Rattle.partial_epochs.specs.EveryStep.{Move as move}
use Rattle.partial_epochs.proofs.ClearRecords.{records_before, records_kept}
use Rattle.partial_epochs.proofs.Sets as law
use Rattle.partial_state.proofs.OpeningLaw.{slots_open}

-- a word of an opening before the list words is the same whatever the values are
same_word : (s : Layout) (l : List ℕ) (i : ℕ) → i < list_base s → opening_word s l i ≡ opening_word s [] i
same_word s l i low = ap (λ t. if nat_lt i s.m then initial_record s i else (if i == pool_counter s then first_free s else (if i == list_counter s then list_base s else t)))
    (ap (λ c. if c then 0 else rest l) below ∙ sym (ap (λ c. if c then 0 else rest []) below))
  where
    rest : List ℕ → ℕ
    rest l = if nat_lt i (first_free s) then initial_record_word l (i - pool_base s) else 0

    below : nat_lt i (pool_base s) ≡ true
    below = lt-ltb i (pool_base s) (omega (arith, low))

-- and the same by the number with which it is set
same_set : (s : Layout) (l : List ℕ) (i : ℕ) → i < list_base s → opening_word s l (set_offset s i) ≡ opening_word s [] (set_offset s i)
same_set s l i front = let at = offset_front s i front in same_word s l (set_offset s i) (omega (arith, at, front))

-- where the next value is set, or the first carried stamp
pub after_values_is : (z : Layout) (n : ℕ) → ((n < z.m) × (after_values z n ≡ value_word (initial_record z n))) ⊎ ((z.m ≤ n) × (after_values z n ≡ first_free z))
after_values_is z n = elim (cases_lt n z.m) [
  | inl low ↦ inl (low, ap (λ c. if c then value_word (initial_record z n) else first_free z) (lt-ltb n z.m low))
  | inr from ↦ inr (from, ap (λ c. if c then value_word (initial_record z n) else first_free z) (not_below n z.m from))
]

after_value_is : (z : Layout) (i : ℕ) → ((i + plain_record_size < first_free z) × (after_value z i ≡ i + plain_record_size)) ⊎ ((first_free z ≤ i + plain_record_size) × (after_value z i ≡ first_free z))
after_value_is z i = elim (cases_lt (i + plain_record_size) (first_free z)) [
  | inl low ↦ inl (low, ap (λ c. if c then i + plain_record_size else first_free z) (lt-ltb (i + plain_record_size) (first_free z) low))
  | inr from ↦ inr (from, ap (λ c. if c then i + plain_record_size else first_free z) (not_below (i + plain_record_size) (first_free z) from))
]

pub value_at : (z : Layout) (j : ℕ) → j < z.m → after_values z j ≡ value_word (initial_record z j)
value_at z j low = elim (after_values_is z j) [ inl here ↦ here.1 | inr all ↦ let from = all.0 in absurd (omega (arith, from, low)) ]

pub value_behind : (z : Layout) (j : ℕ) → j < z.m → after_value z (after_values z j) ≡ after_values z (j + 1)
value_behind z j low = by (after_value_is z (after_values z j)) (after_values_is z (j + 1))
  where
    at : after_values z j ≡ value_word (initial_record z j)
    at = value_at z j low

    by : ((after_values z j + plain_record_size < first_free z) × (after_value z (after_values z j) ≡ after_values z j + plain_record_size))
        ⊎ ((first_free z ≤ after_values z j + plain_record_size) × (after_value z (after_values z j) ≡ first_free z)) →
        ((j + 1 < z.m) × (after_values z (j + 1) ≡ value_word (initial_record z (j + 1)))) ⊎ ((z.m ≤ j + 1) × (after_values z (j + 1) ≡ first_free z)) →
        after_value z (after_values z j) ≡ after_values z (j + 1)
    by (inl (a, is)) (inl (c, next)) = let here = at in omega (arith, here, is, next)
    by (inl (a, is)) (inr (c, next)) = let here = at in absurd (omega (arith, here, a, c))
    by (inr (a, is)) (inl (c, next)) = let here = at in absurd (omega (arith, here, a, c))
    by (inr (a, is)) (inr (c, next)) = is ∙ sym next

-- nothing has to be set between the words before the list words and the first value
lists_before : (z : Layout) → (list_base z ≤ after_values z 0) × (after_values z 0 ≤ first_free z)
lists_before z = elim (after_values_is z 0) [
  | inl here ↦ let some = here.0 in let is = here.1 in (omega (arith, is), omega (arith, is, some))
  | inr none ↦ let is = none.1 in (omega (arith, is), omega (arith, is))
]

none_over_lists : (z : Layout) (i : ℕ) → list_base z ≤ i → i < after_values z 0 → ¬ IsToBeSet z i
none_over_lists z i from up to_set = by (after_values_is z 0) to_set
  where
    by : ((0 < z.m) × (after_values z 0 ≡ value_word (initial_record z 0))) ⊎ ((z.m ≤ 0) × (after_values z 0 ≡ first_free z)) → IsToBeSet z i → ⊥
    by all (inl front) = omega (arith, from, front)
    by (inl (some, is)) (inr (inl high)) = omega (arith, some, is, high, up)
    by (inl (some, is)) (inr (inr (j, less, at))) = omega (arith, is, at, up)
    by (inr (none, is)) (inr (inl high)) = omega (arith, is, high, up)
    by (inr (none, is)) (inr (inr (j, less, at))) = omega (arith, none, less)

-- nor between two values, or after the last one
values_before : (z : Layout) (j i : ℕ) → j < z.m → i ≡ value_word (initial_record z j) → (i < after_value z i) × (after_value z i ≤ first_free z)
values_before z j i low at = elim (after_value_is z i) [
  | inl here ↦ let less = here.0 in let is = here.1 in (omega (arith, is), omega (arith, is, less))
  | inr last ↦ let is = last.1 in (omega (arith, is, at, low), omega (arith, is))
]

none_over_value : (z : Layout) (j i n : ℕ) → i ≡ value_word (initial_record z j) → i < n → n < after_value z i → ¬ IsToBeSet z n
none_over_value z j i n at from up to_set = by (after_value_is z i) to_set
  where
    by : ((i + plain_record_size < first_free z) × (after_value z i ≡ i + plain_record_size)) ⊎ ((first_free z ≤ i + plain_record_size) × (after_value z i ≡ first_free z)) → IsToBeSet z n → ⊥
    by all (inl front) = omega (arith, at, from, front)
    by (inl (less, is)) (inr (inl high)) = omega (arith, less, is, high, up)
    by (inl (less, is)) (inr (inr (k, inside, at'))) = omega (arith, is, at, at', from, up)
    by (inr (most, is)) (inr (inl high)) = omega (arith, is, high, up)
    by (inr (most, is)) (inr (inr (k, inside, at'))) = omega (arith, most, is, at, at', from, up)

pub unlike : (n m : ℕ) → n ≢ m → (n == m) ≡ false
unlike n m ne = elim (eqb_tells n m) [ inl same ↦ absurd (ne same.1) | inr other ↦ other.0 ]

pub alike : (n m : ℕ) → n ≡ m → (n == m) ≡ true
alike n m is = elim (eqb_tells n m) [ inl same ↦ same.0 | inr other ↦ absurd (other.1 is) ]

-- the value word of an initial record
value_opens : (s : Layout) (l : List ℕ) (j i : ℕ) → j < s.m → i ≡ value_word (initial_record s j) → opening_word s l i ≡ slice_index l j
value_opens s l j i low is =
    ap (λ c. if c then initial_record s i else others) (not_below i s.m (omega (arith, is)))
    ∙ ap (λ c. if c then first_free s else lists) (unlike i (pool_counter s) (omega (arith, is)))
    ∙ ap (λ c. if c then list_base s else pool) (unlike i (list_counter s) (omega (arith, is)))
    ∙ ap (λ c. if c then 0 else records) (not_below i (pool_base s) (omega (arith, is)))
    ∙ ap (λ c. if c then initial_record_word l (i - pool_base s) else 0) (lt-ltb i (first_free s) (omega (arith, is, low)))
    ∙ ap (λ c. if c then slice_index l ((i - pool_base s) / plain_record_size) else 0) (alike ((i - pool_base s) % plain_record_size) (value_word 0) (omega (arith, is)))
    ∙ ap (λ k. slice_index l k) (omega (arith, is))
  where
    records : ℕ
    records = if nat_lt i (first_free s) then initial_record_word l (i - pool_base s) else 0

    pool : ℕ
    pool = if nat_lt i (pool_base s) then 0 else records

    lists : ℕ
    lists = if i == list_counter s then list_base s else pool

    others : ℕ
    others = if i == pool_counter s then first_free s else lists

-- the word of a value, and that of a carried stamp, in the next epoch
module _ (e : Plan) (b : Beside) (i j : ℕ) where
  next_below : i < first_free e.sizes → next_epoch_word e b i ≡ opening_word e.sizes (opened_after e.opening (b.log ∷ b.before)).values (set_offset e.sizes i)
  next_below low = ap (λ c. if c then opening_word e.sizes (opened_after e.opening (b.log ∷ b.before)).values (set_offset e.sizes i)
      else stamp_after e.opening (b.log ∷ b.before) (i - first_free e.sizes))
      (lt-ltb i (first_free e.sizes) low)

  next_value : length e.opening.values ≡ e.sizes.m → j < e.sizes.m → i ≡ value_word (initial_record e.sizes j) → next_epoch_word e b i ≡ value_of (opened_after e.opening b.before) b.log j
  next_value long low is =
      let o : Opening = opened_after e.opening b.before in
      let n = many e.opening b.before in
      next_below (omega (arith, low, is)) ∙ ap (opening_word e.sizes (list_of (value_of o b.log) 0 (length o.values))) (offset_after e.sizes i (omega (arith, is)))
      ∙ value_opens e.sizes (list_of (value_of o b.log) 0 (length o.values)) j i low is
      ∙ at_of (value_of o b.log) 0 (length o.values) j (omega (arith, low, n, long)) ∙ ap (value_of o b.log) (omega arith)

  next_stamp : i ≡ first_free e.sizes + j → next_epoch_word e b i ≡ stamp_after e.opening (b.log ∷ b.before) j
  next_stamp is = ap (λ c. if c then opening_word e.sizes (opened_after e.opening (b.log ∷ b.before)).values (set_offset e.sizes i)
      else stamp_after e.opening (b.log ∷ b.before) (i - first_free e.sizes))
      (not_below i (first_free e.sizes) (omega (arith, is))) ∙ ap (stamp_after e.opening (b.log ∷ b.before)) (omega (arith, is))

-- a port whose epoch is the current one comes after all finished epochs
before_is : (a : About) (words : List ℕ) (ports : ℕ → Port) (notes : ℕ → List Noted) (b : Beside) (k : ℕ) → LawfulMemory (plan_of a) words ports b notes → k < a.ports →
    slice_index words current_word ≡ packed (ports k).control.here → (ports k).before ≡ b.before
before_is a words ports notes b k w below at =
    let r = w.noted.reached k below in
    by r.later r.log (ports k).before r.is (r.epoch ∙ ap (λ (d : Site). d.epoch) (here_is a words ports b w.epochs k below at))
  where
    by : (later : List (List Applied)) (log : List Applied) (before : List (List Applied)) → b.log ∷ b.before ≡ later ++ log ∷ before → length before ≡ length b.before → before ≡ b.before
    by [] log before is same = let rest : b.before ≡ before = cc in sym rest
    by (h ∷ later) log before is same =
        let long = ap (λ (l : List (List Applied)). length l) is in
        let both = length-append later (log ∷ before) in
        absurd (omega (arith, long, both, same))

set_quiet : (o : OwnedArena) (next : ℕ) → IsQuiet (λ p. having_set p o next)
set_quiet o next = record { part = λ p. refl; before = λ p. refl; here = λ p. refl; passed = λ p. omega arith }

-- what a port has found in its own epoch is the last of all epochs, while that is the current one
found_last : (a : About) (b : Beside) (x : Port) (t : Option Found) (f : Found) → t ≡ Some f → IfSome t (IsFinal (plan_of a) b x) → x.before ≡ b.before →
    (f.component < a.sizes.m) × IsLast (plan_of a) b.before b.log f
found_last a b x t f is w before =
    let final : IsFinal (plan_of a) b x f = subst (λ t. IfSome t (IsFinal (plan_of a) b x)) is w in
    (final.inside, subst (λ (l : List (List Applied)). IsLast (plan_of a) l b.log f) before (final.last [] b.log (ap (λ (l : List (List Applied)). b.log ∷ l) (sym before))))

module _ {S : Type 0} (a : About) (slots id : ℕ) (me : Me S (List SeatedPort)) (one : IsOne me) (own : (one_of me.0).about ≡ a) (known : IsSeatKnown (one_of me.0)) where
  abbrev x : SeatedPort
  x = one_of me.0

  abbrev e : Plan
  e = plan_of a

  -- the words that count as set after the store are those of the next epoch, while the port's epoch is the current one
  abbrev Right : OwnedArena → ℕ → ℕ → Type 0
  Right o v next = (words : List ℕ) (ports : ℕ → Port) (notes : ℕ → List Noted) (b : Beside) (reckoned : Reckoning) → LawfulMemory (plan_of a) words ports b notes → IsSeat a words ports notes b reckoned x →
      slice_index words current_word ≡ packed (ports x.number).control.here → (i : ℕ) → o.set ≤ i → i < next → IsToBeSet a.sizes i →
      slice_index (slice_set words (set_word e o.arena o.set) v) (set_word e o.arena i) ≡ next_epoch_word e b i

  pub may_set : (o : OwnedArena) (v next : ℕ) → x.port.control.owned ≡ Some o → o.clean ≡ a.ports → o.set < next → next ≤ first_free a.sizes + a.sizes.m → a.sizes.m ≤ x.port.passed →
      Right o v next → (o.set < a.sizes.slots → (v ≡ 0) × (next ≡ o.set + 1)) → IsToBeSet a.sizes o.set →
      Allows (IsRuleKept a) slots id me (set_word e o.arena o.set) (λ n. v) (tells (Sets o next) me)
  may_set o v next owned clean less most passed right zero to_set = allowed a slots id me (set_word e o.arena o.set) (λ n. v) (Sets o next) one own (λ words ports notes b reckoned w time s small.
      let k : ℕ = x.number in
      let i : ℕ = set_word e o.arena o.set in
      let owned' : (ports k).control.owned ≡ Some o = ap (λ (p : Port). p.control.owned) (sym s.port) ∙ owned in
      let pool = w.epochs.plan.sizes.pool.0 in
      let may : MayMove e words ports b notes k (move.Sets o v next) = (
        owned',
        clean,
        less,
        most,
        subst (λ (p : Port). a.sizes.m ≤ p.passed) s.port passed,
        (λ current i from up asked. right words ports notes b reckoned w s current i from up asked),
        (λ l now set. let both = zero (omega (arith, now)) in let only = both.1 in clears words ports notes b w l owned' s.number now (omega (arith, now, set, only)) both.0),
        (let mine = law.own e (control_words e words) (controls ports) (site_now b) (numbers b) w.epochs.control k s.number o owned' clean in
            records_kept e words o.arena o.set v pool to_set (records_before e words ports b w.epochs o.arena mine.arena)),
      ) in
      moved_quietly a words (slice_set words i v) ports notes b reckoned x w s known (λ p. having_set p o next) (set_quiet o next) x.began s.began
      (by_move a words ports notes b reckoned w time k s.number x.began (move.Sets o v next) may tt refl (λ p c n is. is) (λ q ne. refl) (slice_set words i v) refl (having_set (ports k) o next) refl
      (subst (λ (p : Port). IsSince x.began p.control.entering (reckoned.since k)) s.port s.entering)) (Sets o next x (slice_index words i)) refl)
    where
      clears : (words : List ℕ) (ports : ℕ → Port) (notes : ℕ → List Noted) (b : Beside) → LawfulMemory (plan_of a) words ports b notes → (l : ℕ) → (ports x.number).control.owned ≡ Some o →
          x.number < a.ports → l + o.set < a.sizes.slots → l + o.set + 1 ≡ a.sizes.slots → v ≡ 0 → slice_index (slice_set words (set_word e o.arena o.set) v) (base e o.arena + slot_word a.sizes l) ≡ 0
      clears words ports notes b w l owned' number now only zero =
          let mine = law.own e (control_words e words) (controls ports) (site_now b) (numbers b) w.epochs.control x.number number o owned' clean in
          let at = slot_set e o.arena o.set (omega (arith, now)) in
          let inside = below_whole e o.arena (slot_word a.sizes l) mine.arena (omega (arith, now)) in
          let count = w.epochs.count in
          ap (λ i. slice_index (slice_set words (set_word e o.arena o.set) v) i) (omega (arith, at, only))
          ∙ get_or-set_same words (set_word e o.arena o.set) v 0 (omega (arith, at, only, inside, count)) ∙ zero

  -- where the store is that of a word of the next epoch, and none of the words after it that count as set has to be set
  may_set_word : (o : OwnedArena) (v next : ℕ) → x.port.control.owned ≡ Some o → o.clean ≡ a.ports → o.set < next → next ≤ first_free a.sizes + a.sizes.m → a.sizes.m ≤ x.port.passed →
      ((i : ℕ) → o.set < i → i < next → ¬ IsToBeSet a.sizes i) →
      ((b : Beside) → length a.opening.values ≡ a.sizes.m → IfSome x.found (IsFinal (plan_of a) b x.port) → x.port.before ≡ b.before → v ≡ next_epoch_word e b o.set) →
      (o.set < a.sizes.slots → (v ≡ 0) × (next ≡ o.set + 1)) → IsToBeSet a.sizes o.set →
      Allows (IsRuleKept a) slots id me (set_word e o.arena o.set) (λ n. v) (tells (Sets o next) me)
  may_set_word o v next owned clean less most passed between value zero to_set = may_set o v next owned clean less most passed (λ words ports notes b reckoned w s current i from up asked.
      let k : ℕ = x.number in
      (elim (eqb_tells i o.set) [
        | inl same ↦
            let owned' : (ports k).control.owned ≡ Some o = ap (λ (p : Port). p.control.owned) (sym s.port) ∙ owned in
            let mine = law.own e (control_words e words) (controls ports) (site_now b) (numbers b) w.epochs.control k s.number o owned' clean in
            let pool = w.epochs.plan.sizes.pool.0 in
            let spot = set_index e o.arena o.set pool (omega (arith, less, most)) in
            let at = spot.2 in
            let inside = below_whole e o.arena spot.0 mine.arena spot.1 in
            let count = w.epochs.count in
            ap (λ j. slice_index (slice_set words (set_word e o.arena o.set) v) (set_word e o.arena j)) same.1 ∙ get_or-set_same words (set_word e o.arena o.set) v 0 (omega (arith, at, inside, count))
            ∙ value b w.epochs.plan.values s.found (ap (λ (p : Port). p.before) s.port ∙ before_is a words ports notes b k w s.number current) ∙ ap (next_epoch_word e b) (sym same.1)
        | inr other ↦ let ne = other.1 in absurd (between i (omega (arith, from, ne)) up asked)
      ])) zero to_set

  -- a word before the list words
  pub may_set_same : (o : OwnedArena) (v : ℕ) → x.port.control.owned ≡ Some o → o.clean ≡ a.ports → a.sizes.m ≤ x.port.passed → o.set < list_base a.sizes →
      v ≡ opening_word a.sizes [] (set_offset a.sizes o.set) → Allows (IsRuleKept a) slots id me (set_word e o.arena o.set) (λ n. v) (tells (Sets o (o.set + 1)) me)
  may_set_same o v owned clean passed low is = may_set_word o v (o.set + 1) owned clean (omega arith) (omega (arith, low)) passed (λ i from up. absurd (omega (arith, from, up)))
      (λ b long found before. is ∙ sym (same_set a.sizes (opened_after a.opening (b.log ∷ b.before)).values o.set low) ∙ sym (next_below e b o.set 0 (omega (arith, low))))
      (λ slot. (is ∙ ap (opening_word a.sizes []) (slot_offset a.sizes o.set slot) ∙ slots_open a.sizes [] (a.sizes.slots - (o.set + 1)) (omega (arith, slot)), refl)) (inl low)

  -- the last one of them
  pub may_set_over_lists : (o : OwnedArena) (v : ℕ) → x.port.control.owned ≡ Some o → o.clean ≡ a.ports → a.sizes.m ≤ x.port.passed → o.set + 1 ≡ list_base a.sizes → v ≡ opening_word a.sizes [] 0 →
      Allows (IsRuleKept a) slots id me (set_word e o.arena o.set) (λ n. v) (tells (Sets o (after_values a.sizes 0)) me)
  may_set_over_lists o v owned clean passed last is =
      let around = lists_before a.sizes in
      let low = around.0 in
      let high = around.1 in
      may_set_word o v (after_values a.sizes 0) owned clean (omega (arith, last, low)) (omega (arith, high)) passed
      (λ i from up. none_over_lists a.sizes i (omega (arith, from, last)) up)
      (λ b long found before.
      let first = offset_front a.sizes o.set (omega (arith, last)) in
      let at : set_offset a.sizes o.set ≡ 0 = omega (arith, first, last) in
      is ∙ ap (opening_word a.sizes []) (sym at) ∙ sym (same_set a.sizes (opened_after a.opening (b.log ∷ b.before)).values o.set (omega (arith, last)))
      ∙ sym (next_below e b o.set 0 (omega (arith, last)))) (λ slot. absurd (omega (arith, slot, last))) (inl (omega (arith, last)))

  -- the value that the port has found last of component j, in its initial record
  pub may_set_value : (o : OwnedArena) (f : Found) → x.port.control.owned ≡ Some o → o.clean ≡ a.ports → a.sizes.m ≤ x.port.passed → x.found ≡ Some f →
      o.set ≡ value_word (initial_record a.sizes f.component) → f.component < a.sizes.m →
      Allows (IsRuleKept a) slots id me (set_word e o.arena o.set) (λ n. f.value) (tells (Sets o (after_value a.sizes o.set)) me)
  may_set_value o f owned clean passed found at inside =
      let around = values_before a.sizes f.component o.set inside at in
      let high = around.1 in
      may_set_word o f.value (after_value a.sizes o.set) owned clean around.0 (omega (arith, high)) passed
      (λ i from up. none_over_value a.sizes f.component o.set i at from up)
      (λ b long final before.
      let last = found_last a b x.port x.found f found final before in
      sym last.1.value ∙ sym (next_value e b o.set f.component long inside at)) (λ slot. absurd (omega (arith, slot, at))) (inr (inr (f.component, inside, at)))

  -- the public stamp that it has found
  pub may_set_stamp : (o : OwnedArena) (f : Found) → x.port.control.owned ≡ Some o → o.clean ≡ a.ports → a.sizes.m ≤ x.port.passed → x.found ≡ Some f →
      o.set ≡ first_free a.sizes + f.component → f.component < a.sizes.m →
      Allows (IsRuleKept a) slots id me (set_word e o.arena o.set) (λ n. f.stamp) (tells (Sets o (o.set + 1)) me)
  may_set_stamp o f owned clean passed found at inside = may_set_word o f.stamp (o.set + 1) owned clean (omega arith) (omega (arith, at, inside)) passed (λ i from up. absurd (omega (arith, from, up)))
      (λ b long final before.
      let last = found_last a b x.port x.found f found final before in
      sym last.1.stamp ∙ sym (next_stamp e b o.set f.component at)) (λ slot. absurd (omega (arith, slot, at))) (inr (inl (omega (arith, at))))

  -- the load of the slot counter of the arena, where no word is set yet
  pub may_find_clear : (o : OwnedArena) → x.port.control.owned ≡ Some o → o.clean ≡ a.ports → o.set ≡ 0 → a.sizes.m ≤ x.port.passed →
      Allows (IsRuleKept a) slots id me (base e o.arena + slot_counter a.sizes) (λ n. n) (tells (FindsClear o) me)
  may_find_clear o owned clean none passed = quietly a slots id me one own known (base e o.arena + slot_counter a.sizes) (λ n. n) (λ n p. having_set p o (a.sizes.slots - n)) (FindsClear o)
      (λ n. set_quiet o (a.sizes.slots - n))
      (λ words ports notes b reckoned w time below is old come.
      let k : ℕ = x.number in
      let i : ℕ = base e o.arena + slot_counter a.sizes in
      let n : ℕ = slice_index words i in
      let next : ℕ = a.sizes.slots - n in
      let owned' : (ports k).control.owned ≡ Some o = ap (λ (p : Port). p.control.owned) (sym is) ∙ owned in
      (elim (cases_lt n a.sizes.slots) [
        | inl less ↦
            let may : MayMove e words ports b notes k (move.FindsClear o next) =
            (owned', clean, omega (arith, none, less), omega (arith, less), subst (λ (p : Port). a.sizes.m ≤ p.passed) is passed) in
            by_move a words ports notes b reckoned w time k below x.began (move.FindsClear o next) may tt refl (λ p c n is. is) (λ q ne. refl) (slice_set words i n) (load_same words i) (having_set (ports k) o next) refl old
        | inr from ↦
            let same : having_set (ports k) o next ≡ ports k =
            ap (λ (m : ℕ). having_set (ports k) o m) (omega (arith, from, none)) ∙ owning_same (ports k) o owned' in
            by_rest a words ports notes b reckoned w time k below x.began (slice_set words i n) (load_same words i) (having_set (ports k) o next) (sym same) old
      ]))
      (λ words ports b w below is. ap (λ (z : About). becomes x x.began (having_set x.port o (z.sizes.slots - slice_index words (base e o.arena + slot_counter a.sizes)))) (sym own))
