-- Where scans don't announce themselves no slot is claimed, no update finds a scan, and each claim is that of a record without a view.
use Rattle.partial_epochs.proofs.{Common.{ℕ, ◌≡◌, ◌≢◌, ◌+◌, ◌-◌, ◌≤◌, ◌==◌, ◌⊎◌, Bool, true, false, if◌then◌else◌, Option, Some, None, List, [], length, slice_index, refl, sym, ap, subst, ◌∙◌, inl, inr, arith, ⊤, ◌&&◌, nat_lt, option_map_or, some_same, get_or-set_other, ◌%◌, ◌^◌, Step, Load, Store, Exchange, Add, Layout, list_counter, pool_counter, slot_counter, plain_record_size, answer_of, words_after, CoreState, advance, advance_at, begin_getting, expects, getting, record_size, record_step, step_at, step_of, with_getting, is_begun, IsSound, is_sound_at, IsMachineOf, Part, core_of, Plan, greatest_claim_of, FindsNone, Change, Reply, Stage, Idle, ReadBegun, LoadingValue, UpdateBegun, GettingSet, Viewing, ClaimingRecord, StoringRecord, Exchanging, ScanBegun, StoringAnnouncement, Joining, Scanning, Leaving, Finished, at_stage, not_below, record_cases, record_step_cases}, Apart.IsApart, Slots.{IsQuiet, getting_quiet}}
use Rattle.std.specs.Prelude.{min, not}
use Rattle.std.proofs.lemmas.Bool.{cond_both}
use Rattle.partial_words.specs.Layout.{list_end, most_ahead}
use Rattle.partial_words.specs.Record.{full_record_size, next_word}
use Rattle.partial_words.specs.VacatedList.{intervals_word, list_block}
use Rattle.partial_active.specs.declared.get_set.Stage.{Stage as SetStage}
use Rattle.partial_active.specs.declared.get_set.Stage.TheVariants as set_stage
use Rattle.partial_active.specs.Found.{begins_at}
use Rattle.partial_active.specs.GetSet as finding
use Rattle.partial_intervals.specs.Intervals.{highest}
use Rattle.partial_embedded.specs.Embedded as viewing
use Rattle.partial_machine.specs.Machine.{after_getting}
use Rattle.partial_epochs.specs.Epochs.{FindsNoIndex, finds_none_at}

-- a step that claims no slot, and words of the pool for no more than a record without a view
abbrev pub ClaimsPlainly : Layout → Step → Type 0
ClaimsPlainly z (Add w n) = (w ≡ list_counter z) ⊎ ((w ≡ pool_counter z) × (n ≤ plain_record_size + most_ahead))
ClaimsPlainly z _ = ⊤

-- a claim of the pool is no greater than the greatest one
abbrev pub ClaimsWithin : Plan → Step → Type 0
ClaimsWithin e (Add w n) = w ≡ pool_counter e.sizes → n ≤ greatest_claim_of e
ClaimsWithin e _ = ⊤

-- the answer to a load of the slot counter is 0
abbrev pub ShowsNoSlot : Layout → ℕ → Step → Type 0
ShowsNoSlot z x (Load w) = w ≡ slot_counter z → x ≡ 0
ShowsNoSlot z x _ = ⊤

pub shows_no_slot : (z : Layout) (words : List ℕ) → slice_index words (slot_counter z) ≡ 0 → (step : Step) → ShowsNoSlot z (answer_of words step) step
shows_no_slot z words none (Load w) = λ same. ap (λ i. slice_index words i) same ∙ none
shows_no_slot z words none (Store w v) = tt
shows_no_slot z words none (Exchange w old new) = tt
shows_no_slot z words none (Add w n) = tt

-- such a step leaves the slot counter as it is
pub plain_keeps : (z : Layout) (words : List ℕ) (step : Step) → IsApart z step → ClaimsPlainly z step →
    slice_index (words_after words step) (slot_counter z) ≡ slice_index words (slot_counter z)
plain_keeps z words (Load w) apart h = refl
plain_keeps z words (Store w v) apart h = get_or-set_other words w (slot_counter z) v 0 (omega (arith, apart))
plain_keeps z words (Exchange w old new) apart h = get_or-set_other words w (slot_counter z) (if slice_index words w == old then new else slice_index words w) 0 (omega (arith, apart))
plain_keeps z words (Add w n) apart h = get_or-set_other words w (slot_counter z) ((slice_index words w + n) % 2 ^ 64) 0 (omega (arith, h))

-- the claim of a step is within the greatest one, where scans announce themselves, and where they don't
pub apart_within : (e : Plan) → e.announces ≡ true → (step : Step) → IsApart e.sizes step → ClaimsWithin e step
apart_within e is (Add w n) apart = λ same. subst (λ (v : Bool). n ≤ greatest_claim_of (record e { announces = v })) (sym is) (omega (arith, apart, same))
apart_within e is (Load w) apart = tt
apart_within e is (Store w v) apart = tt
apart_within e is (Exchange w old new) apart = tt

pub plain_within : (e : Plan) → e.announces ≡ false → (step : Step) → ClaimsPlainly e.sizes step → ClaimsWithin e step
plain_within e is (Add w n) plain = λ same. subst (λ (v : Bool). n ≤ greatest_claim_of (record e { announces = v })) (sym is) (omega (arith, plain, same))
plain_within e is (Load w) plain = tt
plain_within e is (Store w v) plain = tt
plain_within e is (Exchange w old new) plain = tt

-- a machine that begins a call finds none, but for a scan
begun_finds : (s : CoreState) (t : Stage) → is_begun t ≡ true → t ≢ ScanBegun → finds_none_at s t
begun_finds s (ReadBegun j) b ne = tt
begun_finds s (UpdateBegun c) b ne = tt
begun_finds s ScanBegun b ne = absurd (ne refl)
begun_finds s Idle b ne = absurd cc
begun_finds s (LoadingValue stamp) b ne = absurd cc
begun_finds s (GettingSet c old) b ne = absurd cc
begun_finds s (Viewing c old) b ne = absurd cc
begun_finds s (ClaimingRecord c old) b ne = absurd cc
begun_finds s (StoringRecord c old at k) b ne = absurd cc
begun_finds s (Exchanging c old at) b ne = absurd cc
begun_finds s (StoringAnnouncement at k) b ne = absurd cc
begun_finds s Joining b ne = absurd cc
begun_finds s Scanning b ne = absurd cc
begun_finds s Leaving b ne = absurd cc
begun_finds s (Finished r) b ne = absurd cc

pub machine_finds : (c : CoreState) (x : Part) → IsMachineOf c x → FindsNone (core_of x) → c.stage ≢ ScanBegun → FindsNone c
machine_finds c x (inl begun) h ne = begun_finds c c.stage begun.begun ne
machine_finds c x (inr led) h ne = subst FindsNone (sym led.is) h

-- a getSet with its buffers finds no index
abbrev SetFinds : finding.SetPair → Type 0
SetFinds p = FindsNoIndex p.1.indices p.0.stage

-- it does at each of two stages
either_stage : (b : Bool) (l : List ℕ) (t u : SetStage) → FindsNoIndex l t → FindsNoIndex l u → FindsNoIndex l (if b then t else u)
either_stage b l t u h g = cond_both b t u (FindsNoIndex l) (λ _. h) (λ _. g)

-- a walk with no slots is over
no_slot : (p : finding.SetPair) (slot : ℕ) → p.0.end ≡ 0 → p.1.indices ≡ [] → SetFinds (finding.at_slot p slot)
no_slot p slot end none =
    let past : nat_lt slot p.0.end ≡ false = not_below slot p.0.end (omega (arith, end)) in
    subst (λ (v : Bool). SetFinds (if v then (record p.0 { stage = set_stage.Slot slot }, p.1) else finding.after_walk p)) (sym past)
    (either_stage (p.0.noted && not p.0.lists_spent) p.1.indices (set_stage.Claim (finding.next_words p.1)) set_stage.Done none none)

no_walk : (p : finding.SetPair) → p.0.end ≡ 0 → p.1.indices ≡ [] → SetFinds (finding.come_to p 0)
no_walk p end none = cond_both (begins_at p.1.read p.0.passed 0) (finding.at_slot (finding.pass_interval p) (highest p.1.read p.0.passed + 1)) (finding.at_slot p 0) SetFinds
    (λ _. no_slot (finding.pass_interval p) (highest p.1.read p.0.passed + 1) end none) (λ _. no_slot p 0 end none)

set_then : (z : Layout) (p : finding.SetPair) (x : ℕ) (t : SetStage) → FindsNoIndex p.1.indices t → (step : Step) → finding.set_step_at z p.0.head t ≡ Some step →
    ShowsNoSlot z x step → SetFinds (finding.advance_set_at t p x)
set_then z p x set_stage.Head h step due shows = either_stage (x == 0) [] set_stage.Counter (set_stage.ListLen x) refl refl
set_then z p x (set_stage.ListLen at) h step due shows = either_stage (x == 0) p.1.indices set_stage.Counter (set_stage.ListLow (intervals_word at) x) h h
set_then z p x (set_stage.ListLow at left) h step due shows = h
set_then z p x (set_stage.ListHigh at left lo) h step due shows = either_stage (left == 1) p.1.indices set_stage.Counter (set_stage.ListLow (next_word at) (left - 1)) h h
set_then z p x set_stage.Counter h step due shows =
    let none : x ≡ 0 = subst (ShowsNoSlot z x) (sym (some_same due)) shows refl in
    no_walk (record p.0 { end = min x p.0.sizes.slots; passed = 0 }, p.1) (omega (arith, none)) h
set_then z p x (set_stage.Slot slot) h step due shows = absurd h
set_then z p x (set_stage.Len slot at) h step due shows = absurd h
set_then z p x (set_stage.Index slot at left) h step due shows = absurd h
set_then z p x (set_stage.Claim words) h step due shows = cond_both (nat_lt (list_end p.0.sizes) (x + words)) (record p.0 { lists_spent = true; stage = set_stage.Done }, p.1)
    (finding.in_stage p (set_stage.Write x 0 words (length p.1.next))) SetFinds (λ _. h) (λ _. h)
set_then z p x (set_stage.Write at k words word) h step due shows =
    either_stage (k + 1 == words) p.1.indices (set_stage.Publish at) (set_stage.Write at (k + 1) words (slice_index (list_block p.1.next) (k + 1))) h h
set_then z p x (set_stage.Publish at) h step due shows = h
set_then z p x set_stage.Done h step due shows = absurd cc

-- where a getSet has no step left it has found no index
set_over : (z : Layout) (head : ℕ) (l : List ℕ) (t : SetStage) → finding.set_step_at z head t ≡ None → FindsNoIndex l t → l ≡ []
set_over z head l set_stage.Done due h = h
set_over z head l set_stage.Head due h = absurd cc
set_over z head l (set_stage.ListLen at) due h = absurd cc
set_over z head l (set_stage.ListLow at left) due h = absurd cc
set_over z head l (set_stage.ListHigh at left lo) due h = absurd cc
set_over z head l set_stage.Counter due h = absurd cc
set_over z head l (set_stage.Slot slot) due h = absurd cc
set_over z head l (set_stage.Len slot at) due h = absurd cc
set_over z head l (set_stage.Index slot at left) due h = absurd cc
set_over z head l (set_stage.Claim words) due h = absurd cc
set_over z head l (set_stage.Write at k words word) due h = absurd cc
set_over z head l (set_stage.Publish at) due h = absurd cc

quiet_plain : (z : Layout) (step : Step) → IsQuiet z step → ClaimsPlainly z step
quiet_plain z (Add w n) h = inl h
quiet_plain z (Load w) h = tt
quiet_plain z (Store w v) h = tt
quiet_plain z (Exchange w old new) h = tt

-- a record of no indices has no view
plain_size : (s : CoreState) → s.found.indices ≡ [] → record_size s ≡ plain_record_size
plain_size s none = by s.embedded.borrowed
  where
    by : (o : Option ℕ) → option_map_or (λ _. plain_record_size) o (if length s.found.indices == 0 then plain_record_size else full_record_size (length s.found.indices)) ≡ plain_record_size
    by None = ap (λ (l : List ℕ). if length l == 0 then plain_record_size else full_record_size (length l)) none
    by (Some view) = refl

module _ (z : Layout) (s : CoreState) (sizes : s.sizes ≡ z) (sound : IsSound s) where
  -- the claims of such a machine
  plain_at : (t : Stage) → is_sound_at s t → finds_none_at s t → (step : Step) → step_at s t ≡ Some step → ClaimsPlainly z step
  plain_at Idle here h step due = absurd cc
  plain_at (ReadBegun j) here h step due = subst (ClaimsPlainly z) (some_same due) tt
  plain_at (LoadingValue stamp) here h step due = subst (ClaimsPlainly z) (some_same due) tt
  plain_at (UpdateBegun c) here h step due = subst (ClaimsPlainly z) (some_same due) tt
  plain_at (GettingSet c old) here h step due = quiet_plain z step
      (subst (λ (y : Layout). IsQuiet y step) (here.2 ∙ sizes) (getting_quiet s.get_set.sizes s.get_set.head s.get_set.stage step due))
  plain_at (Viewing c old) here h step due = absurd h
  plain_at (ClaimingRecord c old) here h step due =
      let size = plain_size s h in
      let ahead = sound.ahead in
      subst (ClaimsPlainly z) (some_same due) (subst (λ (y : Layout). ClaimsPlainly y (record_step s old)) sizes
      (record_step_cases s old (ClaimsPlainly s.sizes) (λ some. tt) (λ none. inr (refl, omega (arith, size, ahead)))))
  plain_at (StoringRecord c old at k) here h step due = subst (ClaimsPlainly z) (some_same due) tt
  plain_at (Exchanging c old at) here h step due = subst (ClaimsPlainly z) (some_same due) tt
  plain_at ScanBegun here h step due = absurd h
  plain_at (StoringAnnouncement at k) here h step due = absurd h
  plain_at Joining here h step due = absurd h
  plain_at Scanning here h step due = absurd h
  plain_at Leaving here h step due = absurd h
  plain_at (Finished r) here h step due = absurd cc

  pub plain_due : FindsNone s → (step : Step) → step_of s ≡ Some step → ClaimsPlainly z step
  plain_due h step due = plain_at s.stage sound.stage h step due

  module _ (x : ℕ) where
    -- the getSet goes on, or the record needs words
    after_set : (c : Change) (old : ℕ) (q : finding.SetPair) → s.stage ≡ GettingSet c old → SetFinds q → FindsNone (after_getting (with_getting s q) c old)
    after_set c old q is h = by (finding.set_step_due q.0) refl
      where
        u : CoreState
        u = record (with_getting s q) { embedded = viewing.fresh_view s.sizes true }

        next : CoreState
        next = at_stage u (if length q.1.indices == 0 then ClaimingRecord c old else Viewing c old)

        by : (o : Option Step) → finding.set_step_due q.0 ≡ o → FindsNone (option_map_or (λ _. with_getting s q) o next)
        by (Some step) due = subst (finds_none_at (with_getting s q)) (sym is) h
        by None due =
            let none = set_over q.0.sizes q.0.head q.1.indices q.0.stage due h in
            let test : (length q.1.indices == 0) ≡ true = ap (λ (l : List ℕ). length l == 0) none in
            subst (λ (v : Bool). FindsNone (at_stage u (if v then ClaimingRecord c old else Viewing c old))) (sym test) none

    finds_at : (t : Stage) → s.stage ≡ t → is_sound_at s t → finds_none_at s t → (step : Step) → step_at s t ≡ Some step → ShowsNoSlot z x step → FindsNone (advance_at s t x)
    finds_at Idle is here h step due shows = absurd cc
    finds_at (ReadBegun j) is here h step due shows = tt
    finds_at (LoadingValue stamp) is here h step due shows = tt
    finds_at (UpdateBegun c) is here h step due shows = cond_both (expects c x) (begin_getting s c x) (at_stage s (Finished (Reply.Changed x))) FindsNone (λ _. tt) (λ _. tt)
    finds_at (GettingSet c old) is here h step due shows = after_set c old (finding.advance_set (getting s) x) is
        (set_then s.get_set.sizes (getting s) x s.get_set.stage h step due (subst (λ (y : Layout). ShowsNoSlot y x step) (sym (here.2 ∙ sizes)) shows))
    finds_at (Viewing c old) is here h step due shows = absurd h
    finds_at (ClaimingRecord c old) is here h step due shows = record_cases s c old x FindsNone (λ some. h) (λ small fits. h) (λ small fails. tt)
    finds_at (StoringRecord c old at k) is here h step due shows =
        cond_both (k + 1 == record_size s) (Exchanging c old at) (StoringRecord c old at (k + 1)) (finds_none_at s) (λ _. h) (λ _. h)
    finds_at (Exchanging c old at) is here h step due shows = tt
    finds_at ScanBegun is here h step due shows = absurd h
    finds_at (StoringAnnouncement at k) is here h step due shows = absurd h
    finds_at Joining is here h step due shows = absurd h
    finds_at Scanning is here h step due shows = absurd h
    finds_at Leaving is here h step due shows = absurd h
    finds_at (Finished r) is here h step due shows = absurd cc

    pub finds_then : FindsNone s → (step : Step) → step_of s ≡ Some step → ShowsNoSlot z x step → FindsNone (advance s x)
    finds_then h step due shows = finds_at s.stage refl sound.stage h step due shows
