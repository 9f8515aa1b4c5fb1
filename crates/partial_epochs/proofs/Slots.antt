-- Slots past the slot limit are claimed by ports that claim no more.
use Rattle.partial_epochs.proofs.{Common.{ℕ, ◌≡◌, ◌+◌, ◌*◌, ◌%◌, ◌^◌, ◌<◌, ◌≤◌, ◌==◌, ◌⊎◌, Bool, true, false, if◌then◌else◌, Option, Some, None, List, length, slice_index, refl, sym, ap, subst, ◌∙◌, inl, inr, arith, ⊤, nat_lt, is_some, option_map_or, cases_lt, lt-ltb, get_or-set_same, get_or-set_other, mul-le-mul_left, some_same, Step, Load, Store, Exchange, Add, Layout, list_counter, pool_counter, pool_end, slot_counter, slot_word, words_after, CoreState, advance, advance_at, after_joining, at_stage, begin_getting, expects, claim_size, getting, record_size, scanning, step_at, step_of, with_getting, with_scanning, is_at_rest, is_begun, IsSound, is_sound_at, IsMachineOf, Part, core_of, Plan, count, greatest_claim_of, Epoch, IsArena, IsEpochPlan, awaits_at, awaits_slot, is_claiming, announcement_size, join_after, join_step, JoinStage, Claiming, Storing, Joined, Spent, Stage, Idle, ReadBegun, LoadingValue, UpdateBegun, GettingSet, Viewing, ClaimingRecord, StoringRecord, Exchanging, ScanBegun, StoringAnnouncement, Joining, Scanning, Leaving, Finished, record_cases, record_step_cases, view_loads, Reply}, Apart.IsApart, Lists.count_few}
use Rattle.partial_active.specs.declared.get_set.Stage.{Stage as SetStage}
use Rattle.partial_active.specs.declared.get_set.Stage.TheVariants as set_stage
use Rattle.partial_active.specs.GetSet as finding
use Rattle.partial_embedded.specs.declared.embedded.Stage.{Stage as ViewStage}
use Rattle.partial_embedded.specs.Embedded as viewing

-- whether a machine has yet to claim a slot
abbrev pub awaits : CoreState → Bool
awaits s = awaits_at s s.stage

abbrev pub one : Bool → ℕ
one b = if b then 1 else 0

-- a step that claims neither a slot nor words of the pool
abbrev pub IsQuiet : Layout → Step → Type 0
IsQuiet z (Add w n) = w ≡ list_counter z
IsQuiet z _ = ⊤

pub getting_quiet : (y : Layout) (head : ℕ) (t : SetStage) (step : Step) → finding.set_step_at y head t ≡ Some step → IsQuiet y step
getting_quiet y head set_stage.Head step e = subst (IsQuiet y) (some_same e) tt
getting_quiet y head (set_stage.ListLen at) step e = subst (IsQuiet y) (some_same e) tt
getting_quiet y head (set_stage.ListLow at left) step e = subst (IsQuiet y) (some_same e) tt
getting_quiet y head (set_stage.ListHigh at left lo) step e = subst (IsQuiet y) (some_same e) tt
getting_quiet y head set_stage.Counter step e = subst (IsQuiet y) (some_same e) tt
getting_quiet y head (set_stage.Slot slot) step e = subst (IsQuiet y) (some_same e) tt
getting_quiet y head (set_stage.Len slot at) step e = subst (IsQuiet y) (some_same e) tt
getting_quiet y head (set_stage.Index slot at left) step e = subst (IsQuiet y) (some_same e) tt
getting_quiet y head (set_stage.Claim count) step e = subst (IsQuiet y) (some_same e) refl
getting_quiet y head (set_stage.Write at k count word) step e = subst (IsQuiet y) (some_same e) tt
getting_quiet y head (set_stage.Publish at) step e = subst (IsQuiet y) (some_same e) tt
getting_quiet y head set_stage.Done step e = absurd cc

viewing_quiet : (z y : Layout) (indices last : List ℕ) (t : ViewStage) (step : Step) → viewing.view_step_at y indices last t ≡ Some step → IsQuiet z step
viewing_quiet z y indices last t step e = let load = view_loads y indices last t (ap is_some e) in subst (IsQuiet z) (some_same (sym load.1 ∙ e)) tt

-- a machine that begins a call, or is at rest, has no slot to claim
begun_none : (s : CoreState) (t : Stage) → is_begun t ≡ true → awaits_at s t ≡ false
begun_none s (StoringAnnouncement at k) b = absurd cc
begun_none s Joining b = absurd cc
begun_none s _ b = refl

rest_none : (s : CoreState) (t : Stage) → is_at_rest t ≡ true → awaits_at s t ≡ false
rest_none s (StoringAnnouncement at k) b = absurd cc
rest_none s Joining b = absurd cc
rest_none s _ b = refl

pub awaits_same : (c : CoreState) (x : Part) → IsMachineOf c x → awaits c ≡ awaits_slot x
awaits_same c x (inl begun) = begun_none c c.stage begun.begun ∙ sym (rest_none (core_of x) (core_of x).stage begun.rest)
awaits_same c x (inr led) = ap awaits led.is

-- which of two machines comes next
either_none : (b : Bool) (s t : CoreState) → awaits s ≡ false → awaits t ≡ false → awaits (if b then s else t) ≡ false
either_none true s t h g = h
either_none false s t h g = g

stage_none : (b : Bool) (s : CoreState) (t u : Stage) → awaits_at s t ≡ false → awaits_at s u ≡ false → awaits_at s (if b then t else u) ≡ false
stage_none true s t u h g = h
stage_none false s t u h g = g

goes_on : (o : Option Step) (s t : CoreState) → awaits s ≡ false → awaits t ≡ false → awaits (option_map_or (λ _. s) o t) ≡ false
goes_on None s t h g = g
goes_on (Some step) s t h g = h

-- whether a port that is over or not claims no more, where it awaits a slot or not
abbrev pub done : Bool → Bool → Bool
done over waits = if waits then false else over

done_few : (over after waits : Bool) → (over ≡ true → after ≡ true) → one (done over waits) ≤ one after
done_few over after true rises = omega arith
done_few false after false rises = omega arith
done_few true after false rises = let on : ◌≡◌ {A = ℕ} (one after) 1 = ap one (rises refl) in omega (arith, on)

-- only a port that is not over claims words of the pool
abbrev pub MayClaimWords : Layout → Bool → Step → Type 0
MayClaimWords z over (Add w n) = w ≡ pool_counter z → over ≡ false
MayClaimWords z over _ = ⊤

module _ (z : Layout) (words : List ℕ) (slots_there : slot_counter z < length words) (limit : ℕ) (over after : Bool) (rises : over ≡ true → after ≡ true) where
  -- the slots that are claimed after a step are within the limit, or it has added as many as ports that claim no more
  abbrev pub Counted : Bool → Bool → List ℕ → Type 0
  Counted before behind words' = (slice_index words' (slot_counter z) ≤ limit)
      ⊎ (slice_index words' (slot_counter z) + one (done over before) ≤ slice_index words (slot_counter z) + one (done after behind))

  counted_same : (words' : List ℕ) (b : Bool) → slice_index words' (slot_counter z) ≡ slice_index words (slot_counter z) → Counted b false words'
  counted_same words' b slots = let few = done_few over after b rises in inr (omega (arith, slots, few))

  counted_on : (words' : List ℕ) (c : Bool) → slice_index words' (slot_counter z) ≡ slice_index words (slot_counter z) → Counted true c words'
  counted_on words' c slots = inr (omega (arith, slots))

  -- a quiet step claims no slot
  quiet : (step : Step) → IsApart z step → IsQuiet z step → slice_index (words_after words step) (slot_counter z) ≡ slice_index words (slot_counter z)
  quiet (Load w) apart h = refl
  quiet (Store w v) apart h = get_or-set_other words w (slot_counter z) v 0 (omega (arith, apart))
  quiet (Exchange w old new) apart h = get_or-set_other words w (slot_counter z) (if slice_index words w == old then new else slice_index words w) 0 (omega (arith, apart))
  quiet (Add w n) apart h = get_or-set_other words w (slot_counter z) ((slice_index words w + n) % 2 ^ 64) 0 (omega (arith, h))

  quiet_none : (step : Step) (b : Bool) → IsApart z step → IsQuiet z step → Counted b false (words_after words step)
  quiet_none step b apart h = counted_same (words_after words step) b (quiet step apart h)

  -- a claim of pool words
  pool_claimed : (n : ℕ) (b : Bool) → over ≡ false → Counted false b (words_after words (Add (pool_counter z) n))
  pool_claimed n b free =
      let none : ◌≡◌ {A = ℕ} (one over) 0 = ap one free in
      let slots : slice_index (words_after words (Add (pool_counter z) n)) (slot_counter z) ≡ slice_index words (slot_counter z) =
      get_or-set_other words (pool_counter z) (slot_counter z) ((slice_index words (pool_counter z) + n) % 2 ^ 64) 0 (omega arith) in
      inr (omega (arith, none, slots))

  -- the claim of a slot
  slot_claimed : (nat_lt limit (slice_index words (slot_counter z) + 1) ≡ true → after ≡ true) → Counted true false (words_after words (Add (slot_counter z) 1))
  slot_claimed past =
      let slots : slice_index (words_after words (Add (slot_counter z) 1)) (slot_counter z) ≡ (slice_index words (slot_counter z) + 1) % 2 ^ 64 =
      get_or-set_same words (slot_counter z) ((slice_index words (slot_counter z) + 1) % 2 ^ 64) 0 slots_there in
      let less : (slice_index words (slot_counter z) + 1) % 2 ^ 64 ≤ slice_index words (slot_counter z) + 1 = omega arith in
      elim (cases_lt limit (slice_index words (slot_counter z) + 1)) [
        | inl over_it ↦
            let on : ◌≡◌ {A = ℕ} (one after) 1 = ap one (past (lt-ltb limit (slice_index words (slot_counter z) + 1) over_it)) in
            inr (omega (arith, slots, less, on))
        | inr within ↦ inl (omega (arith, slots, less, within))
      ]

module _ (s : CoreState) (sound : IsSound s) (words : List ℕ) (slots_there : slot_counter s.sizes < length words) (limit : ℕ) (over after : Bool)
    (rises : over ≡ true → after ≡ true) (x : ℕ) where
  abbrev C : Bool → Bool → List ℕ → Type 0
  C = Counted s.sizes words slots_there limit over after rises

  silent : (t : Stage) (step : Step) (b : Bool) → awaits (advance_at s t x) ≡ false → IsApart s.sizes step → IsQuiet s.sizes step → C b (awaits (advance_at s t x)) (words_after words step)
  silent t step b none apart h = subst (λ v. C b v (words_after words step)) (sym none) (quiet_none s.sizes words slots_there limit over after rises step b apart h)

  claims_pool : (t : Stage) (n : ℕ) (step : Step) → Add (pool_counter s.sizes) n ≡ step → MayClaimWords s.sizes over step → C false (awaits (advance_at s t x)) (words_after words step)
  claims_pool t n step is may =
      let free : over ≡ false = subst (MayClaimWords s.sizes over) (sym is) may refl in
      subst (λ (u : Step). C false (awaits (advance_at s t x)) (words_after words u)) is (pool_claimed s.sizes words slots_there limit over after rises n (awaits (advance_at s t x)) free)

  -- where the port awaits a slot before, a quiet step may leave what it will
  loud : (t : Stage) (step : Step) → IsApart s.sizes step → IsQuiet s.sizes step → C true (awaits (advance_at s t x)) (words_after words step)
  loud t step apart h = counted_on s.sizes words slots_there limit over after rises (words_after words step) (awaits (advance_at s t x)) (quiet s.sizes words slots_there limit over after rises step apart h)

  joined_none : (j : JoinStage) → is_claiming j ≡ false → s.stage ≡ Joining → awaits (after_joining (record s { join = record s.join { stage = j } }) j) ≡ false
  joined_none Claiming none is = absurd cc
  joined_none (Storing slot) none is = ap (awaits_at (record s { join = record s.join { stage = Storing slot } })) is
  joined_none (Joined slot) none is = refl
  joined_none Spent none is = refl

  claimed_none : (b : Bool) → is_claiming (if b then Storing x else Spent) ≡ false
  claimed_none true = refl
  claimed_none false = refl

  -- where the step claims a slot past the limit the port is over
  abbrev Passes : Step → Type 0
  Passes step = step ≡ Add (slot_counter s.sizes) 1 → nat_lt limit (slice_index words (slot_counter s.sizes) + 1) ≡ true → after ≡ true

  joining : (j : JoinStage) → s.join.stage ≡ j → s.stage ≡ Joining → s.join.sizes ≡ s.sizes → (step : Step) → join_step s.join.sizes s.join.announcement j ≡ Some step → IsApart s.sizes step → Passes step →
      C (is_claiming j) (awaits (after_joining (record s { join = record s.join { stage = join_after s.join.sizes j x } }) (join_after s.join.sizes j x))) (words_after words step)
  joining Claiming at is same step due apart past =
      let none = joined_none (if nat_lt x s.join.sizes.slots then Storing x else Spent) (claimed_none (nat_lt x s.join.sizes.slots)) is in
      let here = some_same (ap (λ (y : Layout). Some (Add (slot_counter y) 1)) (sym same) ∙ due) in
      subst (λ v. C true v (words_after words step)) (sym none)
      (subst (λ (t : Step). C true false (words_after words t)) here (slot_claimed s.sizes words slots_there limit over after rises (past (sym here))))
  joining (Storing slot) at is same step due apart past =
      let h : IsQuiet s.sizes step = subst (IsQuiet s.sizes) (some_same due) tt in
      subst (λ v. C false v (words_after words step)) (sym (joined_none (Joined slot) refl is)) (quiet_none s.sizes words slots_there limit over after rises step false apart h)
  joining (Joined slot) at is same step due apart past = absurd cc
  joining Spent at is same step due apart past = absurd cc

  leaving_quiet : (b : Bool) (w : ℕ) (step : Step) → (if b then None else Some (Store w 1)) ≡ Some step → IsQuiet s.sizes step
  leaving_quiet true w step e = absurd cc
  leaving_quiet false w step e = subst (IsQuiet s.sizes) (some_same e) tt

  counted_at : (t : Stage) → s.stage ≡ t → is_sound_at s t → (step : Step) → step_at s t ≡ Some step → IsApart s.sizes step → MayClaimWords s.sizes over step → Passes step → C (awaits_at s t) (awaits (advance_at s t x)) (words_after words step)
  counted_at Idle is here step due apart may past = absurd cc
  counted_at (ReadBegun j) is here step due apart may past = silent (ReadBegun j) step false refl apart (subst (IsQuiet s.sizes) (some_same due) tt)
  counted_at (LoadingValue stamp) is here step due apart may past = silent (LoadingValue stamp) step false refl apart (subst (IsQuiet s.sizes) (some_same due) tt)
  counted_at (UpdateBegun c) is here step due apart may past = silent (UpdateBegun c) step false (either_none (expects c x) (begin_getting s c x) (at_stage s (Finished (Reply.Changed x))) refl refl) apart
      (subst (IsQuiet s.sizes) (some_same due) tt)
  counted_at (GettingSet c old) is here step due apart may past =
      let t : CoreState = with_getting s (finding.advance_set (getting s) x) in
      silent (GettingSet c old) step false
      (goes_on (finding.set_step_due t.get_set) t (record t { embedded = viewing.fresh_view t.sizes true; stage = (if length t.found.indices == 0 then ClaimingRecord c old else Viewing c old) })
      (ap (awaits_at t) is)
      (stage_none (length t.found.indices == 0) (record t { embedded = viewing.fresh_view t.sizes true }) (ClaimingRecord c old) (Viewing c old) refl refl)) apart
      (subst (λ (y : Layout). IsQuiet y step) here.2 (getting_quiet s.get_set.sizes s.get_set.head s.get_set.stage step due))
  counted_at (Viewing c old) is here step due apart may past =
      let t : CoreState = with_scanning s (viewing.advance_view s.found.indices (scanning s) x) in
      silent (Viewing c old) step false (goes_on (viewing.view_step_due s.found.indices (scanning t)) t (at_stage t (ClaimingRecord c old)) (ap (awaits_at t) is) refl) apart
      (viewing_quiet s.sizes s.embedded.sizes s.found.indices s.rows.last s.embedded.stage step due)
  counted_at (ClaimingRecord c old) is here step due apart may past =
      let none : awaits (advance_at s (ClaimingRecord c old) x) ≡ false = record_cases s c old x (λ t. awaits t ≡ false) (λ some. refl) (λ small fits. refl) (λ small fails. refl) in
      record_step_cases s old (λ (t : Step). t ≡ step → C false (awaits (advance_at s (ClaimingRecord c old) x)) (words_after words step))
      (λ some is. silent (ClaimingRecord c old) step false none apart (subst (IsQuiet s.sizes) is tt)) (λ small is. claims_pool (ClaimingRecord c old) (claim_size s) step is may) (some_same due)
  counted_at (StoringRecord c old at k) is here step due apart may past = silent (StoringRecord c old at k) step false
      (stage_none (k + 1 == record_size s) s (Exchanging c old at) (StoringRecord c old at (k + 1)) refl refl) apart (subst (IsQuiet s.sizes) (some_same due) tt)
  counted_at (Exchanging c old at) is here step due apart may past = silent (Exchanging c old at) step false refl apart (subst (IsQuiet s.sizes) (some_same due) tt)
  counted_at ScanBegun is here step due apart may past =
      claims_pool ScanBegun (announcement_size (length s.asked)) step (some_same due) may
  counted_at (StoringAnnouncement at k) is here step due apart may past = loud (StoringAnnouncement at k) step apart (subst (IsQuiet s.sizes) (some_same due) tt)
  counted_at Joining is here step due apart may past = joining s.join.stage refl is here.2 step due apart past
  counted_at Scanning is here step due apart may past =
      let t : CoreState = with_scanning s (viewing.advance_view s.asked (scanning s) x) in
      silent Scanning step false (goes_on (viewing.view_step_due s.asked (scanning t)) t (at_stage t Leaving) (ap (awaits_at t) is) refl) apart
      (viewing_quiet s.sizes s.embedded.sizes s.asked s.rows.last s.embedded.stage step due)
  counted_at Leaving is here step due apart may past = silent Leaving step false refl apart (leaving_quiet s.leave.left (slot_word s.leave.sizes s.leave.slot) step due)
  counted_at (Finished r) is here step due apart may past = absurd cc

  -- what the due step leaves of the slot counter
  pub counted : (step : Step) → step_of s ≡ Some step → IsApart s.sizes step → MayClaimWords s.sizes over step → Passes step → C (awaits s) (awaits (advance s x)) (words_after words step)
  counted step due apart may past = counted_at s.stage refl sound.stage step due apart may past

-- what is claimed of the pool lies within it
pub pool_within : (e : Plan) (words components carried : List ℕ) (r : Epoch) (f : Type 0) → IsEpochPlan e → IsArena e words components carried r f →
    slice_index words (pool_counter e.sizes) ≤ pool_end e.sizes
pool_within e words components carried r f plan arena =
    let reserve = arena.reserve in
    let limit = plan.limit in
    let times : greatest_claim_of e * count r.over 0 e.ports ≤ greatest_claim_of e * e.ports = mul-le-mul_left (greatest_claim_of e) (count_few r.over 0 e.ports) in
    omega (arith, reserve, limit, times)
