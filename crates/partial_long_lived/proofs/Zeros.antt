-- The steps that a seat makes for those of its machine: the view word of a record without a view may be loaded before it is stored.
use Rattle.partial_long_lived.proofs.Common.{ℕ, ◌≡◌, ◌+◌, ◌<◌, ◌≤◌, ◌==◌, List, StoresNoView, ◌&&◌, Bool, true, false, if◌then◌else◌, Option, Some, None, length, refl, sym, ap, ◌∙◌, inl, inr, arith, nat_lt, cases_lt, lt-ltb, not_below, option_map_or, Step, IsLayout, plain_record_size, Change, Stage, Idle, ReadBegun, LoadingValue, UpdateBegun, GettingSet, Viewing, ClaimingRecord, StoringRecord, Exchanging, ScanBegun, StoringAnnouncement, Joining, Scanning, Leaving, Finished, CoreState, advance, advance_at, after_joining, at_stage, begin_getting, begin_joining, expects, fits_pool, getting, pool_refused, record_size, with_getting, announcement_size, left_at, steps_left, before_no_view, seat_left_at, seat_steps_left, Reply, record_cases, into_spare, into_claim}
use Rattle.partial_active.specs.declared.join.JoinStage.{JoinStage}
use Rattle.partial_active.specs.declared.join.JoinStage.TheVariants.{Claiming, Storing, Joined, Spent}
use Rattle.partial_words.specs.Record.{full_record_size}
use Rattle.partial_active.specs.GetSet as finding
use Rattle.partial_embedded.specs.Embedded as viewing

-- a machine that may add a step has fewer left than one that may add one, or than any other that has more left
on : (n m : ℕ) (a b : Bool) → (a ≡ true → b ≡ true) → n < m → n + (if a then 1 else 0) < m + (if b then 1 else 0)
on n m true true f less = omega (arith, less)
on n m true false f less = let bad : false ≡ true = f refl in cc
on n m false true f less = omega (arith, less)
on n m false false f less = omega (arith, less)

-- what is stored after a word lies after it
and_before : (a b e : Bool) → (a ≡ true → b ≡ true) → (a && e) ≡ true → (b && e) ≡ true
and_before true b e f h = ap (λ t. t && e) (f refl) ∙ h
and_before false b e f h = cc

earlier : (k n : ℕ) → nat_lt (k + 1) n ≡ true → nat_lt k n ≡ true
earlier k n h = elim (cases_lt k n) [
  | inl less ↦ lt-ltb k n less
  | inr from ↦ let bad : false ≡ true = sym (not_below (k + 1) n (omega (arith, from))) ∙ h in cc
]

module _ (c : CoreState) (x : ℕ) (layout : IsLayout c.sizes) where
  abbrev Falls : CoreState → Stage → Type 0
  Falls d t = steps_left d < left_at c t → seat_steps_left d < seat_left_at c t

  -- the machine d may add a step only where c may
  follows : (d : CoreState) (t : Stage) → (before_no_view d d.stage ≡ true → before_no_view c t ≡ true) → Falls d t
  follows d t f less = on (steps_left d) (left_at c t) (before_no_view d d.stage) (before_no_view c t) f less

  adds_none : (d : CoreState) (t : Stage) → before_no_view d d.stage ≡ false → Falls d t
  adds_none d t none = follows d t (λ is. let bad : false ≡ true = sym none ∙ is in cc)

  two : (b : Bool) (d e : CoreState) (t : Stage) → Falls d t → Falls e t → Falls (if b then d else e) t
  two true d e t p q = p
  two false d e t p q = q

  joins : (d : CoreState) (j : JoinStage) → d.stage ≡ Joining → Falls (after_joining d j) Joining
  joins d Claiming is = adds_none d Joining (ap (before_no_view d) is)
  joins d (Storing slot) is = adds_none d Joining (ap (before_no_view d) is)
  joins d (Joined slot) is = adds_none (after_joining d (Joined slot)) Joining refl
  joins d Spent is = adds_none (after_joining d Spent) Joining refl

  scans : (d : CoreState) (o : Option Step) → d.stage ≡ Scanning → Falls (option_map_or (λ _. d) o (at_stage d Leaving)) Scanning
  scans d None is = adds_none (at_stage d Leaving) Scanning refl
  scans d (Some u) is = adds_none d Scanning (ap (before_no_view d) is)

  views : (d : CoreState) (o : Option Step) (h : Change) (old : ℕ) → d.stage ≡ Viewing h old → d.found ≡ c.found → Falls (option_map_or (λ _. d) o (at_stage d (ClaimingRecord h old))) (Viewing h old)
  views d None h old is found = follows (at_stage d (ClaimingRecord h old)) (Viewing h old) (λ e. ap (λ f. length f.indices == 0) (sym found) ∙ e)
  views d (Some u) h old is found = follows d (Viewing h old) (λ e. ap (λ f. length f.indices == 0) (sym found) ∙ sym (ap (before_no_view d) is) ∙ e)

  -- where the getSet has found nothing, no embedded scan is made, which is more than the step that is added
  abbrev got : CoreState → Change → ℕ → Bool → CoreState
  got d h old b = record d { embedded = viewing.fresh_view d.sizes true; stage = if b then ClaimingRecord h old else Viewing h old }

  gets : (d : CoreState) (o : Option Step) (h : Change) (old : ℕ) → d.stage ≡ GettingSet h old → Falls (option_map_or (λ _. d) o (got d h old (length d.found.indices == 0))) (GettingSet h old)
  gets d (Some u) h old is = adds_none d (GettingSet h old) (ap (before_no_view d) is)
  gets d None h old is = by (length d.found.indices == 0) refl
    where
      by : (b : Bool) → (length d.found.indices == 0) ≡ b → Falls (got d h old (length d.found.indices == 0)) (GettingSet h old)
      by false none = adds_none (got d h old (length d.found.indices == 0)) (GettingSet h old)
          (ap (λ b. before_no_view (got d h old b) (got d h old b).stage) none ∙ none)
      by true none = λ less.
          let few : seat_steps_left (got d h old (length d.found.indices == 0)) ≡ plain_record_size + 3 =
          ap (λ b. seat_steps_left (got d h old b)) none
          ∙ ap (λ b. (if b then plain_record_size else full_record_size (length d.found.indices)) + 2 + (if b then 1 else 0)) none in
          let some = layout.components.0 in
          omega (arith, few, some)

  by : (t : Stage) → c.stage ≡ t → Falls (advance_at c t x) t
  by Idle is = λ less. absurd (omega (arith, less))
  by (ReadBegun j) is = adds_none (at_stage c (LoadingValue x)) (ReadBegun j) refl
  by (LoadingValue stamp) is = adds_none (at_stage c (Finished (Reply.Read x stamp))) (LoadingValue stamp) refl
  by (UpdateBegun d) is = two (expects d x) (begin_getting c d x) (at_stage c (Finished (Reply.Changed x))) (UpdateBegun d)
      (adds_none (begin_getting c d x) (UpdateBegun d) refl) (adds_none (at_stage c (Finished (Reply.Changed x))) (UpdateBegun d) refl)
  by (GettingSet d old) is = gets (with_getting c (finding.advance_set (getting c) x)) (finding.set_step_due (finding.advance_set (getting c) x).0) d old is
  by (Viewing d old) is = views _ _ d old is refl
  by (ClaimingRecord d old) is = record_cases c d old x (λ q. Falls q (ClaimingRecord d old)) (λ _. follows (into_spare c d old) (ClaimingRecord d old) (λ e. e))
      (λ _ _. follows (into_claim c d old x) (ClaimingRecord d old) (λ e. e)) (λ _ _. adds_none (pool_refused c) (ClaimingRecord d old) refl)
  by (StoringRecord d old at k) is = stores (k + 1 == record_size c)
    where
      stores : (b : Bool) → Falls (at_stage c (if b then Exchanging d old at else StoringRecord d old at (k + 1))) (StoringRecord d old at k)
      stores true = adds_none (at_stage c (Exchanging d old at)) (StoringRecord d old at k) refl
      stores false = follows (at_stage c (StoringRecord d old at (k + 1))) (StoringRecord d old at k)
          (and_before (nat_lt (k + 1) plain_record_size) (nat_lt k plain_record_size) (length c.found.indices == 0) (earlier k plain_record_size))
  by (Exchanging d old at) is = adds_none (advance_at c (Exchanging d old at) x) (Exchanging d old at) refl
  by ScanBegun is = two (fits_pool c.sizes (announcement_size (length c.asked)) x) (at_stage c (StoringAnnouncement x 0)) (pool_refused c) ScanBegun
      (adds_none (at_stage c (StoringAnnouncement x 0)) ScanBegun refl) (adds_none (pool_refused c) ScanBegun refl)
  by (StoringAnnouncement at k) is = two (k == length c.asked) (begin_joining c at) (at_stage c (StoringAnnouncement at (k + 1))) (StoringAnnouncement at k)
      (adds_none (begin_joining c at) (StoringAnnouncement at k) refl) (adds_none (at_stage c (StoringAnnouncement at (k + 1))) (StoringAnnouncement at k) refl)
  by Joining is = joins _ _ is
  by Scanning is = scans _ _ is
  by Leaving is = adds_none (advance_at c Leaving x) Leaving refl
  by (Finished r) is = λ less. absurd (omega (arith, less))

  -- with each answer a seat has fewer steps left, as its machine has
  pub seat_fewer : steps_left (advance c x) < steps_left c → seat_steps_left (advance c x) < seat_steps_left c
  seat_fewer = by c.stage refl

-- where the last word of a record without a view is stored, the seat has two fewer: one for the store, and one for a load
pub last_stored : (c : CoreState) → StoresNoView c → (d : CoreState) → d ≡ advance c 0 → steps_left (advance c 0) < steps_left c → seat_steps_left d + 2 ≤ seat_steps_left c
last_stored c v d is fewer =
    let mine : seat_steps_left c ≡ steps_left c + 1 =
    ap (λ (t : Stage). steps_left c + (if before_no_view c t then 1 else 0)) v.stage
    ∙ ap (λ b. steps_left c + (if b && (length c.found.indices == 0) then 1 else 0)) (lt-ltb v.k plain_record_size (let last = v.last in omega (arith, last)))
    ∙ ap (λ (l : List ℕ). steps_left c + (if length l == 0 then 1 else 0)) v.none in
    let other : seat_steps_left d ≡ steps_left d + 0 = ap (λ b. steps_left d + (if b then 1 else 0)) stored in
    let same = ap steps_left is in
    omega (arith, fewer, mine, other, same)
  where
    by : (b : Bool) → before_no_view (at_stage c (if b then Exchanging v.change v.old v.at else StoringRecord v.change v.old v.at (v.k + 1))) (if b then Exchanging v.change v.old v.at else StoringRecord v.change v.old v.at (v.k + 1)) ≡ false
    by true = refl
    by false = ap (λ b. b && (length c.found.indices == 0)) (not_below (v.k + 1) plain_record_size (let last = v.last in omega (arith, last)))

    stored : before_no_view d d.stage ≡ false
    stored = ap (λ (e : CoreState). before_no_view e e.stage) (is ∙ ap (λ (t : Stage). advance_at c t 0) v.stage) ∙ by (v.k + 1 == record_size c)
