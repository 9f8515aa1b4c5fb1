-- A machine claims words of the pool once in a call.
use Rattle.partial_long_lived.proofs.Common.{ℕ, ◌≡◌, ◌+◌, ◌≤◌, ◌==◌, ◌⊎◌, Bool, true, false, if◌then◌else◌, Option, Some, None, List, length, refl, sym, ap, subst, ◌∙◌, inl, inr, arith, option_map_or, some_same, Step, Load, Store, Exchange, Add, Layout, list_counter, list_head, pool_counter, slot_counter, slot_word, Change, Stage, Idle, ReadBegun, LoadingValue, UpdateBegun, GettingSet, Viewing, ClaimingRecord, StoringRecord, Exchanging, ScanBegun, StoringAnnouncement, Joining, Scanning, Leaving, Finished, CoreState, advance, advance_at, after_joining, at_stage, begin_getting, begin_joining, expects, fits_pool, getting, pool_refused, record_size, step_at, step_of, with_getting, IsSound, is_sound_at, LeavesComponents, awaits, awaits_at, is_claiming, nat_lt, word_of, before_claim, record_claim, announcement_size, IsQuiet, Reply, record_cases, record_step_cases, Block, claimed_end, claim_size}
use Rattle.std.proofs.lemmas.Bool.{ltb-true}
use Rattle.partial_machine.specs.Machine.{scanning, with_scanning}
use Rattle.partial_active.specs.declared.join.JoinStage.{JoinStage}
use Rattle.partial_active.specs.declared.join.JoinStage.TheVariants.{Claiming, Storing, Joined, Spent}
use Rattle.partial_active.specs.declared.get_set.Stage.{Stage as SetStage}
use Rattle.partial_active.specs.declared.get_set.Stage.TheVariants as set
use Rattle.partial_active.specs.GetSet as finding
use Rattle.partial_active.specs.Join.{advance_join, join_after, join_step}
use Rattle.partial_embedded.specs.Embedded as viewing
use Rattle.partial_embedded.specs.declared.embedded.Stage.{Stage as ScanStage}
use Rattle.partial_embedded.specs.declared.embedded.Stage.TheVariants as scan

-- a machine that has yet to claim had yet to claim before
pub unclaimed_before : (s : CoreState) (x : ℕ) → before_claim (advance s x).stage ≡ true → before_claim s.stage ≡ true
unclaimed_before s x = by s.stage refl
  where
    two : (c : Bool) (a b : Stage) → before_claim a ≡ false → before_claim b ≡ false → before_claim (if c then a else b) ≡ false
    two true a b p q = p
    two false a b p q = q

    two_of : (c : Bool) (a b : CoreState) → before_claim a.stage ≡ false → before_claim b.stage ≡ false → before_claim (if c then a else b).stage ≡ false
    two_of true a b p q = p
    two_of false a b p q = q

    never : (b : Bool) (t : Stage) → b ≡ false → b ≡ true → before_claim t ≡ true
    never b t p q = let bad : false ≡ true = sym p ∙ q in cc

    scans : (s : CoreState) (o : Option Step) (a b : Stage) → s.stage ≡ a → before_claim a ≡ false → before_claim b ≡ false → before_claim (option_map_or (λ _. s) o (at_stage s b)).stage ≡ false
    scans s None a b is p q = q
    scans s (Some u) a b is p q = ap before_claim is ∙ p

    joins : (s : CoreState) (j : JoinStage) → s.stage ≡ Joining → before_claim (after_joining s j).stage ≡ false
    joins s Claiming is = ap before_claim is
    joins s (Storing slot) is = ap before_claim is
    joins s (Joined slot) is = refl
    joins s Spent is = refl

    by : (t : Stage) → s.stage ≡ t → before_claim (advance_at s t x).stage ≡ true → before_claim t ≡ true
    by Idle is h = sym (ap before_claim is) ∙ h
    by (ReadBegun j) is h = h
    by (LoadingValue stamp) is h = h
    by (UpdateBegun c) is h = refl
    by (GettingSet c old) is h = refl
    by (Viewing c old) is h = refl
    by (ClaimingRecord c old) is h = refl
    by (StoringRecord c old at k) is h = never (before_claim (if k + 1 == record_size s then Exchanging c old at else StoringRecord c old at (k + 1))) (StoringRecord c old at k)
        (two (k + 1 == record_size s) (Exchanging c old at) (StoringRecord c old at (k + 1)) refl refl) h
    by (Exchanging c old at) is h = h
    by ScanBegun is h = refl
    by (StoringAnnouncement at k) is h = never _ (StoringAnnouncement at k) (two_of (k == length s.asked) (begin_joining s at) (at_stage s (StoringAnnouncement at (k + 1))) refl refl) h
    by Joining is h = never _ Joining (joins _ _ is) h
    by Scanning is h = never _ Scanning (scans _ _ Scanning Leaving is refl refl) h
    by Leaving is h = h
    by (Finished r) is h = sym (ap before_claim is) ∙ h

-- a machine that has no slot to claim, after its claim of the pool, has none to claim then
pub unawaited : (s : CoreState) (x : ℕ) → before_claim s.stage ≡ false → awaits s ≡ false → awaits (advance s x) ≡ false
unawaited s x = by s.stage refl
  where
    stage_none : (b : Bool) (s : CoreState) (t u : Stage) → awaits_at s t ≡ false → awaits_at s u ≡ false → awaits_at s (if b then t else u) ≡ false
    stage_none true s t u h g = h
    stage_none false s t u h g = g

    scans : (s : CoreState) (o : Option Step) (a b : Stage) → s.stage ≡ a → awaits_at s a ≡ false → awaits (at_stage s b) ≡ false → awaits (option_map_or (λ _. s) o (at_stage s b)) ≡ false
    scans s None a b is p q = q
    scans s (Some u) a b is p q = ap (awaits_at s) is ∙ p

    joins : (s : CoreState) (j : JoinStage) → s.stage ≡ Joining → s.join.stage ≡ j → is_claiming j ≡ false → awaits (after_joining s j) ≡ false
    joins s Claiming is at none = absurd cc
    joins s (Storing slot) is at none = ap (awaits_at s) is ∙ ap is_claiming at
    joins s (Joined slot) is at none = refl
    joins s Spent is at none = refl

    joined : (j : JoinStage) → s.join.stage ≡ j → s.stage ≡ Joining → is_claiming j ≡ false → awaits (advance_at s Joining x) ≡ false
    joined Claiming at is none = absurd cc
    joined (Storing slot) at is none = subst (λ (j : JoinStage). awaits (after_joining (record s { join = record s.join { stage = join_after s.join.sizes j x } }) (join_after s.join.sizes j x)) ≡ false) (sym at) refl
    joined (Joined slot) at is none = subst (λ (j : JoinStage). awaits (after_joining (record s { join = record s.join { stage = join_after s.join.sizes j x } }) (join_after s.join.sizes j x)) ≡ false) (sym at) refl
    joined Spent at is none = subst (λ (j : JoinStage). awaits (after_joining (record s { join = record s.join { stage = join_after s.join.sizes j x } }) (join_after s.join.sizes j x)) ≡ false) (sym at) refl

    by : (t : Stage) → s.stage ≡ t → before_claim t ≡ false → awaits_at s t ≡ false → awaits (advance_at s t x) ≡ false
    by Idle is b h = ap (awaits_at s) is
    by (ReadBegun j) is b h = refl
    by (LoadingValue stamp) is b h = refl
    by (UpdateBegun c) is b h = absurd cc
    by (GettingSet c old) is b h = absurd cc
    by (Viewing c old) is b h = absurd cc
    by (ClaimingRecord c old) is b h = absurd cc
    by (StoringRecord c old at k) is b h = stage_none (k + 1 == record_size s) s (Exchanging c old at) (StoringRecord c old at (k + 1)) refl refl
    by (Exchanging c old at) is b h = refl
    by ScanBegun is b h = absurd cc
    by (StoringAnnouncement at k) is b h = absurd cc
    by Joining is b h = joined s.join.stage refl is h
    by Scanning is b h =
        let t : CoreState = with_scanning s (viewing.advance_view s.asked (scanning s) x) in
        scans t (viewing.view_step_due s.asked (scanning t)) Scanning Leaving is refl refl
    by Leaving is b h = refl
    by (Finished r) is b h = ap (awaits_at s) is

-- where a record lies that has words: it has just got them, or had them before
pub claimed_from : (s : CoreState) (x at : ℕ) → record_claim (advance s x).stage ≡ Some at → ((c : Change) × (old : ℕ) × (s.stage ≡ ClaimingRecord c old)) ⊎ (record_claim s.stage ≡ Some at)
claimed_from s x at = by s.stage refl
  where
    R : Stage → Type 0
    R t = ((c : Change) × (old : ℕ) × (t ≡ ClaimingRecord c old)) ⊎ (record_claim t ≡ Some at)

    none : (t : Stage) (o : Option ℕ) → o ≡ None → o ≡ Some at → ((c : Change) × (old : ℕ) × (t ≡ ClaimingRecord c old)) ⊎ (record_claim t ≡ Some at)
    none t o is h = let bad : None ≡ Some at = sym is ∙ h in cc

    two : (c : Bool) (a b : CoreState) → record_claim a.stage ≡ None → record_claim b.stage ≡ None → record_claim (if c then a else b).stage ≡ None
    two true a b p q = p
    two false a b p q = q

    two_stages : (c : Bool) (a b : Stage) → record_claim a ≡ None → record_claim b ≡ None → record_claim (if c then a else b) ≡ None
    two_stages true a b p q = p
    two_stages false a b p q = q

    scans : (s : CoreState) (o : Option Step) (a b : Stage) → s.stage ≡ a → record_claim a ≡ None → record_claim b ≡ None → record_claim (option_map_or (λ _. s) o (at_stage s b)).stage ≡ None
    scans s None a b is p q = q
    scans s (Some u) a b is p q = ap record_claim is ∙ p

    gets : (s : CoreState) (o : Option Step) (c : Change) (old : ℕ) → s.stage ≡ GettingSet c old →
        record_claim (option_map_or (λ _. s) o (record s { embedded = viewing.fresh_view s.sizes true; stage = (if length s.found.indices == 0 then ClaimingRecord c old else Viewing c old) })).stage
        ≡ None
    gets s None c old is = two_stages (length s.found.indices == 0) (ClaimingRecord c old) (Viewing c old) refl refl
    gets s (Some u) c old is = ap record_claim is

    joins : (s : CoreState) (j : JoinStage) → s.stage ≡ Joining → record_claim (after_joining s j).stage ≡ None
    joins s Claiming is = ap record_claim is
    joins s (Storing slot) is = ap record_claim is
    joins s (Joined slot) is = refl
    joins s Spent is = refl

    by : (t : Stage) → s.stage ≡ t → record_claim (advance_at s t x).stage ≡ Some at → ((c : Change) × (old : ℕ) × (t ≡ ClaimingRecord c old)) ⊎ (record_claim t ≡ Some at)
    by Idle is h = inr (sym (ap record_claim is) ∙ h)
    by (ReadBegun j) is h = none (ReadBegun j) _ refl h
    by (LoadingValue stamp) is h = none (LoadingValue stamp) _ refl h
    by (UpdateBegun c) is h = none (UpdateBegun c) _ (two (expects c x) (begin_getting s c x) (at_stage s (Finished (Reply.Changed x))) refl refl) h
    by (GettingSet c old) is h =
        let p : CoreState = with_getting s (finding.advance_set (getting s) x) in
        none (GettingSet c old) (record_claim (advance_at s (GettingSet c old) x).stage) (gets p (finding.set_step_due p.get_set) c old is) h
    by (Viewing c old) is h = none (Viewing c old) _ (scans _ _ (Viewing c old) (ClaimingRecord c old) is refl refl) h
    by (ClaimingRecord c old) is h = inl (c, old, refl)
    by (StoringRecord c old at' k) is h = stores (k + 1 == record_size s) h
      where
        stores : (b : Bool) → record_claim (if b then Exchanging c old at' else StoringRecord c old at' (k + 1)) ≡ Some at →
            ((d : Change) × (o : ℕ) × (StoringRecord c old at' k ≡ ClaimingRecord d o)) ⊎ (Some at' ≡ Some at)
        stores true h = inr h
        stores false h = inr h
    by (Exchanging c old at') is h = none (Exchanging c old at') _ refl h
    by ScanBegun is h = none ScanBegun _ (two (fits_pool s.sizes (announcement_size (length s.asked)) x) (at_stage s (StoringAnnouncement x 0)) (pool_refused s) refl refl) h
    by (StoringAnnouncement at' k) is h = none (StoringAnnouncement at' k) _ (two (k == length s.asked) (begin_joining s at') (at_stage s (StoringAnnouncement at' (k + 1))) refl refl) h
    by Joining is h = none Joining _ (joins _ _ is) h
    by Scanning is h = none Scanning _ (scans _ _ Scanning Leaving is refl refl) h
    by Leaving is h = none Leaving _ refl h
    by (Finished r) is h = inr (sym (ap record_claim is) ∙ h)

-- a step that begins no record leaves the spare words
pub spare_stays : (s : CoreState) (x : ℕ) (t : Stage) → ((c : Change) (old : ℕ) → t ≡ ClaimingRecord c old → ⊥) → (advance_at s t x).spare ≡ s.spare
spare_stays s x t other = by t other
  where
    two : (c : Bool) (a b : CoreState) → a.spare ≡ s.spare → b.spare ≡ s.spare → (if c then a else b).spare ≡ s.spare
    two true a b p q = p
    two false a b p q = q

    some : (o : Option Step) (a b : CoreState) → a.spare ≡ s.spare → b.spare ≡ s.spare → (option_map_or (λ _. a) o b).spare ≡ s.spare
    some None a b p q = q
    some (Some u) a b p q = p

    joins : (q : CoreState) (j : JoinStage) → q.spare ≡ s.spare → (after_joining q j).spare ≡ s.spare
    joins q Claiming is = is
    joins q (Storing slot) is = is
    joins q (Joined slot) is = is
    joins q Spent is = is

    by : (t : Stage) → ((c : Change) (old : ℕ) → t ≡ ClaimingRecord c old → ⊥) → (advance_at s t x).spare ≡ s.spare
    by Idle other = refl
    by (ReadBegun j) other = refl
    by (LoadingValue stamp) other = refl
    by (UpdateBegun c) other = two (expects c x) (begin_getting s c x) (at_stage s (Finished (Reply.Changed x))) refl refl
    by (GettingSet c old) other =
        let p : CoreState = with_getting s (finding.advance_set (getting s) x) in
        some (finding.set_step_due p.get_set) p (record p { embedded = viewing.fresh_view p.sizes true; stage = (if length p.found.indices == 0 then ClaimingRecord c old else Viewing c old) }) refl refl
    by (Viewing c old) other =
        let p : CoreState = with_scanning s (viewing.advance_view s.found.indices (scanning s) x) in
        some (viewing.view_step_due s.found.indices (scanning p)) p (at_stage p (ClaimingRecord c old)) refl refl
    by (ClaimingRecord c old) other = absurd (other c old refl)
    by (StoringRecord c old at k) other = refl
    by (Exchanging c old at) other = refl
    by ScanBegun other = two (fits_pool s.sizes (announcement_size (length s.asked)) x) (at_stage s (StoringAnnouncement x 0)) (pool_refused s) refl refl
    by (StoringAnnouncement at k) other = two (k == length s.asked) (begin_joining s at) (at_stage s (StoringAnnouncement at (k + 1))) refl refl
    by Joining other = joins (record s { join = advance_join s.join x }) (advance_join s.join x).stage refl
    by Scanning other =
        let p : CoreState = with_scanning s (viewing.advance_view s.asked (scanning s) x) in
        some (viewing.view_step_due s.asked (scanning p)) p (at_stage p Leaving) refl refl
    by Leaving other = refl
    by (Finished r) other = refl

-- what is claimed for records ends where it did, or with the claim that the step was
abbrev pub EndsOn : CoreState → ℕ → CoreState → Type 0
EndsOn s x q = (claimed_end q ≡ claimed_end s) ⊎ ((n : ℕ) × (step_of s ≡ Some (Add (pool_counter s.sizes) n)) × (claimed_end q ≡ x + n))

pub claims_on : (s : CoreState) (x : ℕ) → EndsOn s x (advance s x)
claims_on s x = by s.stage refl
  where
    stays : (t : Stage) → ((c : Change) (old : ℕ) → t ≡ ClaimingRecord c old → ⊥) → EndsOn s x (advance_at s t x)
    stays t other = inl (ap (λ (b : Block). b.at + b.size) (spare_stays s x t other))

    by : (t : Stage) → s.stage ≡ t → EndsOn s x (advance_at s t x)
    by (ClaimingRecord c old) is = record_cases s c old x (EndsOn s x)
        (λ some. let room = ltb-true (record_size s) (s.spare.size + 1) some in inl (omega (arith, room)))
        (λ none fits. inr (claim_size s, ap (step_at s) is ∙ ap (λ (b : Bool). Some (if b then Store s.spare.at old else Add (pool_counter s.sizes) (claim_size s))) none, omega arith))
        (λ none past. inl refl)
    by Idle is = stays Idle (λ c o same. cc)
    by (ReadBegun j) is = stays (ReadBegun j) (λ c o same. cc)
    by (LoadingValue stamp) is = stays (LoadingValue stamp) (λ c o same. cc)
    by (UpdateBegun d) is = stays (UpdateBegun d) (λ c o same. cc)
    by (GettingSet d old) is = stays (GettingSet d old) (λ c o same. cc)
    by (Viewing d old) is = stays (Viewing d old) (λ c o same. cc)
    by (StoringRecord d old at k) is = stays (StoringRecord d old at k) (λ c o same. cc)
    by (Exchanging d old at) is = stays (Exchanging d old at) (λ c o same. cc)
    by ScanBegun is = stays ScanBegun (λ c o same. cc)
    by (StoringAnnouncement at k) is = stays (StoringAnnouncement at k) (λ c o same. cc)
    by Joining is = stays Joining (λ c o same. cc)
    by Scanning is = stays Scanning (λ c o same. cc)
    by Leaving is = stays Leaving (λ c o same. cc)
    by (Finished r) is = stays (Finished r) (λ c o same. cc)

-- a step of an embedded scan is no claim
scan_never : (z : Layout) (indices last : List ℕ) (t : ScanStage) (w n : ℕ) (R : Type 0) → viewing.view_step_at z indices last t ≡ Some (Add w n) → R
scan_never z indices last (scan.Collect k) w n R is = let bad : Load _ ≡ Add w n = some_same is in cc
scan_never z indices last (scan.View stamp) w n R is = let bad : Load _ ≡ Add w n = some_same is in cc
scan_never z indices last (scan.Len at) w n R is = let bad : Load _ ≡ Add w n = some_same is in cc
scan_never z indices last (scan.Index at left) w n R is = let bad : Load _ ≡ Add w n = some_same is in cc
scan_never z indices last (scan.PairValue at left index) w n R is = let bad : Load _ ≡ Add w n = some_same is in cc
scan_never z indices last (scan.Value k) w n R is = let bad : Load _ ≡ Add w n = some_same is in cc
scan_never z indices last scan.Done w n R is = cc

-- a claim of a getSet is one of list words
set_claims : (y : Layout) (head : ℕ) (t : SetStage) (w n : ℕ) → finding.set_step_at y head t ≡ Some (Add w n) → w ≡ list_counter y
set_claims y head set.Head w n is = cc
set_claims y head (set.ListLen at) w n is = cc
set_claims y head (set.ListLow at left) w n is = cc
set_claims y head (set.ListHigh at left lo) w n is = cc
set_claims y head set.Counter w n is = cc
set_claims y head (set.Slot slot) w n is = cc
set_claims y head (set.Len slot at) w n is = cc
set_claims y head (set.Index slot at left) w n is = cc
set_claims y head (set.Claim words) w n is = let same : Add (list_counter y) words ≡ Add w n = some_same is in cc
set_claims y head (set.Write at k words word) w n is = cc
set_claims y head (set.Publish at) w n is = cc
set_claims y head set.Done w n is = cc

-- the word to which a step adds
added_word : {v w k n : ℕ} → Add v k ≡ Add w n → v ≡ w
added_word e = ap word_of e

-- a claim of a join is one of a slot
join_claims : (y : Layout) (at : ℕ) (t : JoinStage) (w n : ℕ) → join_step y at t ≡ Some (Add w n) → w ≡ slot_counter y
join_claims y at Claiming w n is = let same : Add (slot_counter y) 1 ≡ Add w n = some_same is in cc
join_claims y at (Storing slot) w n is = cc
join_claims y at (Joined slot) w n is = cc
join_claims y at Spent w n is = cc

-- a claim of pool words is that of a record or of an announcement, and after it the machine has claimed
pub record Claims (c : CoreState) : Type 0 where
  pub now : before_claim c.stage ≡ true
  pub after_claim : (a : ℕ) → before_claim (advance c a).stage ≡ false

pub pool_claims : (c : CoreState) (z : Layout) → IsSound c → c.sizes ≡ z → (w n : ℕ) → step_of c ≡ Some (Add w n) → w ≡ pool_counter z → Claims c
pool_claims c z sound sizes w n due pool = by c.stage refl sound.stage due
  where
    two_of : (b : Bool) (x y : CoreState) → before_claim x.stage ≡ false → before_claim y.stage ≡ false → before_claim (if b then x else y).stage ≡ false
    two_of true x y p q = p
    two_of false x y p q = q

    m_same : (y : Layout) → y ≡ c.sizes → y.m ≡ z.m
    m_same y is = ap (λ (s : Layout). s.m) (is ∙ sizes)

    by : (t : Stage) → c.stage ≡ t → is_sound_at c t → step_at c t ≡ Some (Add w n) → Claims c
    by Idle at ok is = let bad : None ≡ Some (Add w n) = is in cc
    by (ReadBegun j) at ok is = let bad : Load _ ≡ Add w n = some_same is in cc
    by (LoadingValue stamp) at ok is = let bad : Load _ ≡ Add w n = some_same is in cc
    by (UpdateBegun d) at ok is = let bad : Load _ ≡ Add w n = some_same is in cc
    by (GettingSet d old) at ok is =
        let same = m_same c.get_set.sizes ok.2 in
        let list = set_claims c.get_set.sizes c.get_set.head c.get_set.stage w n is in
        absurd (omega (arith, same, list, pool))
    by (Viewing d old) at ok is = scan_never c.embedded.sizes c.found.indices c.rows.last c.embedded.stage w n (Claims c) is
    by (ClaimingRecord d old) at ok is = record {
      now = ap before_claim at;
      after_claim = λ a. subst (λ (t : Stage). before_claim (advance_at c t a).stage ≡ false) (sym at)
          (record_cases c d old a (λ (q : CoreState). before_claim q.stage ≡ false) (λ _. refl) (λ _ _. refl) (λ _ _. refl));
    }
    by (StoringRecord d old at' k) at ok is = let bad : Store _ _ ≡ Add w n = some_same is in cc
    by (Exchanging d old at') at ok is = let bad : Exchange _ _ _ ≡ Add w n = some_same is in cc
    by ScanBegun at ok is = record {
      now = ap before_claim at;
      after_claim = λ a. subst (λ (t : Stage). before_claim (advance_at c t a).stage ≡ false) (sym at)
          (two_of (fits_pool c.sizes (announcement_size (length c.asked)) a) (at_stage c (StoringAnnouncement a 0)) (pool_refused c) refl refl);
    }
    by (StoringAnnouncement at' k) at ok is = let bad : Store _ _ ≡ Add w n = some_same is in cc
    by Joining at ok is =
        let same = m_same c.join.sizes ok.2 in
        let slot = join_claims c.join.sizes c.join.announcement c.join.stage w n is in
        absurd (omega (arith, same, slot, pool))
    by Scanning at ok is = scan_never c.embedded.sizes c.asked c.rows.last c.embedded.stage w n (Claims c) is
    by Leaving at ok is = leaves c.leave.left is
      where
        leaves : (b : Bool) → (if b then None else Some (Store (slot_word c.leave.sizes c.leave.slot) 1)) ≡ Some (Add w n) → Claims c
        leaves true is = let bad : None ≡ Some (Add w n) = is in cc
        leaves false is = let bad : Store _ _ ≡ Add w n = some_same is in cc
    by (Finished r) at ok is = let bad : None ≡ Some (Add w n) = is in cc

-- nor an exchange
scan_exchanges : (z : Layout) (indices last : List ℕ) (t : ScanStage) (w old new : ℕ) (R : Type 0) → viewing.view_step_at z indices last t ≡ Some (Exchange w old new) → R
scan_exchanges z indices last (scan.Collect k) w old new R is = let bad : Load _ ≡ Exchange w old new = some_same is in cc
scan_exchanges z indices last (scan.View stamp) w old new R is = let bad : Load _ ≡ Exchange w old new = some_same is in cc
scan_exchanges z indices last (scan.Len at) w old new R is = let bad : Load _ ≡ Exchange w old new = some_same is in cc
scan_exchanges z indices last (scan.Index at left) w old new R is = let bad : Load _ ≡ Exchange w old new = some_same is in cc
scan_exchanges z indices last (scan.PairValue at left index) w old new R is = let bad : Load _ ≡ Exchange w old new = some_same is in cc
scan_exchanges z indices last (scan.Value k) w old new R is = let bad : Load _ ≡ Exchange w old new = some_same is in cc
scan_exchanges z indices last scan.Done w old new R is = cc

-- a getSet exchanges the list head
set_exchanges : (y : Layout) (head : ℕ) (t : SetStage) (w old new : ℕ) → finding.set_step_at y head t ≡ Some (Exchange w old new) → w ≡ list_head y
set_exchanges y head set.Head w old new is = cc
set_exchanges y head (set.ListLen at) w old new is = cc
set_exchanges y head (set.ListLow at left) w old new is = cc
set_exchanges y head (set.ListHigh at left lo) w old new is = cc
set_exchanges y head set.Counter w old new is = cc
set_exchanges y head (set.Slot slot) w old new is = cc
set_exchanges y head (set.Len slot at) w old new is = cc
set_exchanges y head (set.Index slot at left) w old new is = cc
set_exchanges y head (set.Claim words) w old new is = cc
set_exchanges y head (set.Write at k words word) w old new is = cc
set_exchanges y head (set.Publish at) w old new is = let same : Exchange (list_head y) head at ≡ Exchange w old new = some_same is in cc
set_exchanges y head set.Done w old new is = cc

-- a join exchanges nothing
join_exchanges : (y : Layout) (at : ℕ) (t : JoinStage) (w old new : ℕ) (R : Type 0) → join_step y at t ≡ Some (Exchange w old new) → R
join_exchanges y at Claiming w old new R is = cc
join_exchanges y at (Storing slot) w old new R is = cc
join_exchanges y at (Joined slot) w old new R is = cc
join_exchanges y at Spent w old new R is = cc

-- a step that exchanges no component word or adds to a word stands after the component words
pub inner_word : (c : CoreState) (z : Layout) → IsSound c → c.sizes ≡ z → IsQuiet c.stage → (s : Step) → step_of c ≡ Some s → LeavesComponents z s
inner_word c z sound sizes quiet (Load w) due = tt
inner_word c z sound sizes quiet (Store w v) due = tt
inner_word c z sound sizes quiet (Exchange w old new) due = by c.stage refl sound.stage quiet due
  where
    m_same : (y : Layout) → y ≡ c.sizes → y.m ≡ z.m
    m_same y is = ap (λ (s : Layout). s.m) (is ∙ sizes)

    by : (t : Stage) → c.stage ≡ t → is_sound_at c t → IsQuiet t → step_at c t ≡ Some (Exchange w old new) → z.m ≤ w
    by Idle at ok q is = let bad : None ≡ Some (Exchange w old new) = is in cc
    by (ReadBegun j) at ok q is = let bad : Load _ ≡ Exchange w old new = some_same is in cc
    by (LoadingValue stamp) at ok q is = let bad : Load _ ≡ Exchange w old new = some_same is in cc
    by (UpdateBegun d) at ok q is = let bad : Load _ ≡ Exchange w old new = some_same is in cc
    by (GettingSet d o) at ok q is = let same = m_same c.get_set.sizes ok.2 in let list = set_exchanges c.get_set.sizes c.get_set.head c.get_set.stage w old new is in omega (arith, same, list)
    by (Viewing d o) at ok q is = scan_exchanges c.embedded.sizes c.found.indices c.rows.last c.embedded.stage w old new (z.m ≤ w) is
    by (ClaimingRecord d o) at ok q is = record_step_cases c o (λ (t : Step). Some t ≡ Some (Exchange w old new) → z.m ≤ w) (λ _ bad. cc) (λ _ bad. cc) is
    by (StoringRecord d o at' k) at ok q is = let bad : Store _ _ ≡ Exchange w old new = some_same is in cc
    by (Exchanging d o at') at ok q is = absurd q
    by ScanBegun at ok q is = let bad : Add _ _ ≡ Exchange w old new = some_same is in cc
    by (StoringAnnouncement at' k) at ok q is = let bad : Store _ _ ≡ Exchange w old new = some_same is in cc
    by Joining at ok q is = join_exchanges c.join.sizes c.join.announcement c.join.stage w old new (z.m ≤ w) is
    by Scanning at ok q is = scan_exchanges c.embedded.sizes c.asked c.rows.last c.embedded.stage w old new (z.m ≤ w) is
    by Leaving at ok q is = leaves c.leave.left is
      where
        leaves : (b : Bool) → (if b then None else Some (Store (slot_word c.leave.sizes c.leave.slot) 1)) ≡ Some (Exchange w old new) → z.m ≤ w
        leaves true is = let bad : None ≡ Some (Exchange w old new) = is in cc
        leaves false is = let bad : Store _ _ ≡ Exchange w old new = some_same is in cc
    by (Finished r) at ok q is = let bad : None ≡ Some (Exchange w old new) = is in cc
inner_word c z sound sizes quiet (Add w k) due = by c.stage refl sound.stage due
  where
    m_same : (y : Layout) → y ≡ c.sizes → y.m ≡ z.m
    m_same y is = ap (λ (s : Layout). s.m) (is ∙ sizes)

    pool : (n : ℕ) → Add (pool_counter c.sizes) n ≡ Add w k → z.m ≤ w
    pool n is = let same : pool_counter c.sizes ≡ w = cc in let m = m_same c.sizes refl in omega (arith, same, m)

    by : (t : Stage) → c.stage ≡ t → is_sound_at c t → step_at c t ≡ Some (Add w k) → z.m ≤ w
    by Idle at ok is = let bad : None ≡ Some (Add w k) = is in cc
    by (ReadBegun j) at ok is = let bad : Load _ ≡ Add w k = some_same is in cc
    by (LoadingValue stamp) at ok is = let bad : Load _ ≡ Add w k = some_same is in cc
    by (UpdateBegun d) at ok is = let bad : Load _ ≡ Add w k = some_same is in cc
    by (GettingSet d o) at ok is = let same = m_same c.get_set.sizes ok.2 in let list = set_claims c.get_set.sizes c.get_set.head c.get_set.stage w k is in omega (arith, same, list)
    by (Viewing d o) at ok is = scan_never c.embedded.sizes c.found.indices c.rows.last c.embedded.stage w k (z.m ≤ w) is
    by (ClaimingRecord d o) at ok is = record_step_cases c o (λ (t : Step). Some t ≡ Some (Add w k) → z.m ≤ w) (λ _ bad. cc) (λ _ is. pool (claim_size c) (some_same is)) is
    by (StoringRecord d o at' i) at ok is = let bad : Store _ _ ≡ Add w k = some_same is in cc
    by (Exchanging d o at') at ok is = let bad : Exchange _ _ _ ≡ Add w k = some_same is in cc
    by ScanBegun at ok is = pool (announcement_size (length c.asked)) (some_same is)
    by (StoringAnnouncement at' i) at ok is = let bad : Store _ _ ≡ Add w k = some_same is in cc
    by Joining at ok is = let same = m_same c.join.sizes ok.2 in let slot = join_claims c.join.sizes c.join.announcement c.join.stage w k is in omega (arith, same, slot)
    by Scanning at ok is = scan_never c.embedded.sizes c.asked c.rows.last c.embedded.stage w k (z.m ≤ w) is
    by Leaving at ok is = leaves c.leave.left is
      where
        leaves : (b : Bool) → (if b then None else Some (Store (slot_word c.leave.sizes c.leave.slot) 1)) ≡ Some (Add w k) → z.m ≤ w
        leaves true is = let bad : None ≡ Some (Add w k) = is in cc
        leaves false is = let bad : Store _ _ ≡ Add w k = some_same is in cc
    by (Finished r) at ok is = let bad : None ≡ Some (Add w k) = is in cc

-- a claim of a slot is that of a join, which claims no more then
pub record ClaimsSlot (c : CoreState) : Type 0 where
  pub behind : before_claim c.stage ≡ false
  pub now : awaits c ≡ true
  pub last : (a : ℕ) → awaits (advance c a) ≡ false

pub slot_claims : (c : CoreState) (z : Layout) → IsSound c → c.sizes ≡ z → (w n : ℕ) → step_of c ≡ Some (Add w n) → w ≡ slot_counter z → ClaimsSlot c
slot_claims c z sound sizes w n due slot = by c.stage refl sound.stage due
  where
    m_same : (y : Layout) → y ≡ c.sizes → y.m ≡ z.m
    m_same y is = ap (λ (s : Layout). s.m) (is ∙ sizes)

    taken : (b : Bool) (a : ℕ) → (s : CoreState) → s.stage ≡ Joining → awaits (after_joining (record s { join = record s.join { stage = if b then Storing a else Spent } }) (if b then Storing a else Spent)) ≡ false
    taken true a s is = ap (awaits_at (record s { join = record s.join { stage = Storing a } })) is
    taken false a s is = refl

    joins : (j : JoinStage) → c.join.stage ≡ j → c.stage ≡ Joining → join_step c.join.sizes c.join.announcement j ≡ Some (Add w n) → ClaimsSlot c
    joins Claiming at is due = record {
      behind = ap before_claim is;
      now = ap (awaits_at c) is ∙ ap is_claiming at;
      last = λ a. subst (λ (t : Stage). awaits (advance_at c t a) ≡ false) (sym is)
          (subst (λ (j : JoinStage). awaits (after_joining (record c { join = record c.join { stage = join_after c.join.sizes j a } }) (join_after c.join.sizes j a)) ≡ false) (sym at)
          (taken (nat_lt a c.join.sizes.slots) a c is));
    }
    joins (Storing slot) at is due = let bad : Store _ _ ≡ Add w n = some_same due in cc
    joins (Joined slot) at is due = cc
    joins Spent at is due = cc

    by : (t : Stage) → c.stage ≡ t → is_sound_at c t → step_at c t ≡ Some (Add w n) → ClaimsSlot c
    by Idle at ok is = let bad : None ≡ Some (Add w n) = is in cc
    by (ReadBegun j) at ok is = let bad : Load _ ≡ Add w n = some_same is in cc
    by (LoadingValue stamp) at ok is = let bad : Load _ ≡ Add w n = some_same is in cc
    by (UpdateBegun d) at ok is = let bad : Load _ ≡ Add w n = some_same is in cc
    by (GettingSet d old) at ok is =
        let same = m_same c.get_set.sizes ok.2 in
        let list = set_claims c.get_set.sizes c.get_set.head c.get_set.stage w n is in
        absurd (omega (arith, same, list, slot))
    by (Viewing d old) at ok is = scan_never c.embedded.sizes c.found.indices c.rows.last c.embedded.stage w n (ClaimsSlot c) is
    by (ClaimingRecord d old) at ok is = record_step_cases c old (λ (t : Step). Some t ≡ Some (Add w n) → ClaimsSlot c) (λ _ bad. cc)
        (λ _ is. let same = m_same c.sizes refl in let pool : pool_counter c.sizes ≡ w = added_word (some_same is) in absurd (omega (arith, same, pool, slot))) is
    by (StoringRecord d old at' k) at ok is = let bad : Store _ _ ≡ Add w n = some_same is in cc
    by (Exchanging d old at') at ok is = let bad : Exchange _ _ _ ≡ Add w n = some_same is in cc
    by ScanBegun at ok is =
        let same = m_same c.sizes refl in
        let pool : pool_counter c.sizes ≡ w = added_word (some_same is) in
        absurd (omega (arith, same, pool, slot))
    by (StoringAnnouncement at' k) at ok is = let bad : Store _ _ ≡ Add w n = some_same is in cc
    by Joining at ok is = joins c.join.stage refl at is
    by Scanning at ok is = scan_never c.embedded.sizes c.asked c.rows.last c.embedded.stage w n (ClaimsSlot c) is
    by Leaving at ok is = leaves c.leave.left is
      where
        leaves : (b : Bool) → (if b then None else Some (Store (slot_word c.leave.sizes c.leave.slot) 1)) ≡ Some (Add w n) → ClaimsSlot c
        leaves true is = let bad : None ≡ Some (Add w n) = is in cc
        leaves false is = let bad : Store _ _ ≡ Add w n = some_same is in cc
    by (Finished r) at ok is = let bad : None ≡ Some (Add w n) = is in cc
