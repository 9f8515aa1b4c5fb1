-- A possible answer leaves a sound machine, with fewer steps to make.
use Rattle.partial_machine.proofs.Common.{ℕ, ◌≡◌, ◌+◌, ◌<◌, ◌≤◌, ◌==◌, Bool, true, false, if◌then◌else◌, length, Option, Some, None, IsSome, refl, sym, ◌∙◌, ap, subst, arith, false≢true, eqb-true, eqb-false, ltb-true, IsTrue, nat_lt, option_map_or, Step, Layout, IsLayout, pool_end, greatest_record, plain_record_size, full_record_size, announcement_size, fits_join, join_step, join_after, join_left, step_of_join, advance_join, JoinStage, Claiming, Storing, Joined, Spent, Change, Stage, CoreState, at_stage, getting, scanning, with_getting, with_scanning, record_size, expects, overtaken_reply, fits_pool, pool_refused, slots_refused, begin_getting, begin_joining, after_joining, scanned_reply, advance_at, advance, AreComponentIndices, IsRecord, IsInPool, IsSound, is_sound_at, IsMachine, IsPoolCount, IsPossible, IsPossibleAt, IsRecordAnswer, left_at, steps_left, AreIndices, few_indices, found_kept, Refused, Reply, Store, Add, pool_counter, cond_both, most_ahead, has_spare, claim_size, record_step, into_spare, into_claim}
use Rattle.std.proofs.Math.Nat.{mul-le-mul}
use Rattle.partial_active.specs.Found.{AreFoundFor as AreBuffersFor}
use Rattle.partial_active.specs.GetSet as finding
use Rattle.partial_active.specs.GetSetAnswers as finding_answers
use Rattle.partial_active.proofs.Answered as answered
use Rattle.partial_active.proofs.Sizes.{sizes_kept}
use Rattle.partial_embedded.specs.Embedded as viewing
use Rattle.partial_embedded.proofs.Keeps as viewed
use Rattle.partial_machine.specs.declared.stage.Stage.TheVariants.{Idle, ReadBegun, LoadingValue, UpdateBegun, GettingSet, Viewing, ClaimingRecord, StoringRecord, Exchanging, ScanBegun, StoringAnnouncement, Joining, Scanning, Leaving, Finished}

-- what an answer leaves of a machine
pub record Keeps (s q : CoreState) : Type 0 where
  pub sound : IsSound q
  pub fewer : steps_left q < steps_left s
  pub sizes : q.sizes ≡ s.sizes
  pub port : q.port ≡ s.port
  pub positions : q.asked ≡ s.asked
  pub ahead : q.ahead ≡ s.ahead

-- a record has 3 words, or those of its pairs
size_by : (o : Option ℕ) (b : Bool) (n m : ℕ) → n ≤ m → let z = option_map_or (λ _. plain_record_size) o (if b then plain_record_size else full_record_size n) in (plain_record_size ≤ z)
    × (z ≤ full_record_size m)
size_by (Some v) b n m few = (omega arith, omega arith)
size_by None true n m few = (omega arith, omega arith)
size_by None false n m few = (omega arith, omega (arith, few))

pub size_few : (s : CoreState) → length s.found.indices ≤ s.sizes.m → (plain_record_size ≤ record_size s) × (record_size s ≤ greatest_record s.sizes)
size_few s few = size_by s.embedded.borrowed (length s.found.indices == 0) (length s.found.indices) s.sizes.m few

-- fewer positions, fewer steps
most_mono : (z : Layout) (r n : ℕ) → r ≤ n → viewing.most_view_steps z r ≤ viewing.most_view_steps z n
most_mono z r n few = let more : r + 2 ≤ n + 2 = omega (arith, few) in let times = mul-le-mul few more in omega (arith, times)

-- what holds of a machine whose record goes into spare words, of one whose claim went in, and of one whose claim went past the end
pub record_cases : (s : CoreState) (c : Change) (old x : ℕ) (P : CoreState → Type 0) → (has_spare s ≡ true → P (into_spare s c old)) →
    (has_spare s ≡ false → fits_pool s.sizes (claim_size s) x ≡ true → P (into_claim s c old x)) →
    (has_spare s ≡ false → fits_pool s.sizes (claim_size s) x ≡ false → P (pool_refused s)) → P (advance_at s (ClaimingRecord c old) x)
record_cases s c old x P taken claimed refused = cond_both (has_spare s) (into_spare s c old) (if fits_pool s.sizes (claim_size s) x then into_claim s c old x else pool_refused s) P taken
    (λ none. cond_both (fits_pool s.sizes (claim_size s) x) (into_claim s c old x) (pool_refused s) P (claimed none) (refused none))

-- the step that is due for the record
pub record_step_cases : (s : CoreState) (old : ℕ) (P : Step → Type 0) → (has_spare s ≡ true → P (Store s.spare.at old)) → (has_spare s ≡ false → P (Add (pool_counter s.sizes) (claim_size s))) → P (record_step s old)
record_step_cases s old P = cond_both (has_spare s) (Store s.spare.at old) (Add (pool_counter s.sizes) (claim_size s)) P

-- a claim within the pool
in_pool : (z : Layout) (size at : ℕ) → IsPoolCount z at → fits_pool z size at ≡ true → IsInPool z at size
in_pool z size at possible e = let room = ltb-true (at + size) (pool_end z + 1) e in (possible.0, omega (arith, room))

module _ (s : CoreState) (layout : IsLayout s.sizes) (w : IsSound s) where
  here : (t : Stage) → s.stage ≡ t → is_sound_at s t
  here t e = subst (is_sound_at s) e w.stage

  few : length s.found.indices ≤ s.sizes.m
  few = w.indices.few

  -- the machine at another stage, of which something is known
  kept_as : (q : CoreState) (t u : Stage) → s.stage ≡ t → q.stage ≡ u → q.sizes ≡ s.sizes → q.port ≡ s.port → q.asked ≡ s.asked → q.ahead ≡ s.ahead → IsInPool q.sizes q.spare.at q.spare.size → AreComponentIndices q.sizes q.asked → AreBuffersFor q.sizes q.found →
      AreIndices q.sizes.m q.found.indices → viewing.AreRowsFor q.sizes q.rows → is_sound_at q u → left_at q u < left_at s t → Keeps s q
  kept_as q t u e f sizes port positions ahead spare asked found indices rows stage fewer =
      let before : steps_left s ≡ left_at s t = ap (left_at s) e in
      let after : steps_left q ≡ left_at q u = ap (left_at q) f in
      record {
        sound = record {
          asked = asked;
          found = found;
          indices = record { few = few_indices q.sizes.m q.found.indices indices; each = indices.each };
          distinct = indices.distinct;
          rows = rows;
          ahead = subst (λ n. n ≤ most_ahead) (sym ahead) w.ahead;
          spare = spare;
          stage = subst (is_sound_at q) (sym f) stage;
        };
        fewer = omega (arith, before, after, fewer);
        sizes = sizes;
        port = port;
        positions = positions;
        ahead = ahead;
      }

  same_indices : AreIndices s.sizes.m s.found.indices
  same_indices = record { each = w.indices.each; distinct = w.distinct }

  staying : (t u : Stage) → s.stage ≡ t → is_sound_at (at_stage s u) u → left_at (at_stage s u) u < left_at s t → Keeps s (at_stage s u)
  staying t u e stage fewer = kept_as (at_stage s u) t u e refl refl refl refl refl w.spare w.asked w.found same_indices w.rows stage fewer

  refused_pool : (t : Stage) → s.stage ≡ t → 0 < left_at s t → Keeps s (pool_refused s)
  refused_pool t e fewer = kept_as (pool_refused s) t (Finished (Reply.Refused Refused.PoolSpent)) e refl refl refl refl refl w.spare w.asked w.found same_indices w.rows tt fewer

  begun_kept : (c : Change) (x : ℕ) → s.stage ≡ UpdateBegun c → IsRecord s.sizes x → (b : Bool) → Keeps s (if b then begin_getting s c x else at_stage s (Finished (Reply.Changed x)))
  begun_kept c x e rec true =
      let h = here (UpdateBegun c) e in
      let fresh = finding.fresh_set s.sizes s.get_set.lists_spent in
      kept_as (begin_getting s c x) (UpdateBegun c) (GettingSet c x) e refl refl refl refl refl w.spare w.asked w.found same_indices w.rows
      ((h.0, rec, h.1), record { sizes = w.found; stage = tt }, refl, refl) (omega arith)
  begun_kept c x e rec false = staying (UpdateBegun c) (Finished (Reply.Changed x)) e tt (omega arith)

  getting_kept : (c : Change) (old x : ℕ) → s.stage ≡ GettingSet c old → finding_answers.IsPossibleInSet (getting s) x → Keeps s (advance_at s (GettingSet c old) x)
  getting_kept c old x e possible = either (finding.set_step_due q.0) refl
    where
      q : finding.SetPair
      q = finding.advance_set (getting s) x

      h : is_sound_at s (GettingSet c old)
      h = here (GettingSet c old) e

      layout_there : IsLayout s.get_set.sizes
      layout_there = subst IsLayout (sym h.2) layout

      k : answered.Keeps q (finding.set_left s.get_set)
      k = answered.kept (getting s) q x s.get_set.stage refl refl layout_there h.1 possible h.3

      same : q.0.sizes ≡ s.sizes
      same = sizes_kept (getting s) q x refl ∙ h.2

      buffers : AreBuffersFor s.sizes q.1
      buffers = subst (λ z. AreBuffersFor z q.1) same k.together.sizes

      named : AreIndices s.sizes.m q.1.indices
      named =
          let before : AreIndices s.get_set.sizes.m s.found.indices = subst (λ (z : Layout). AreIndices z.m s.found.indices) (sym h.2) same_indices in
          subst (λ (z : Layout). AreIndices z.m q.1.indices) h.2 (found_kept s.get_set.stage (getting s) x possible before)

      on : CoreState
      on = with_getting s q

      next : Stage → CoreState
      next u = record on { embedded = viewing.fresh_view s.sizes true; stage = u }

      -- the getSet is finished
      found_some : (b : Bool) → (length q.1.indices == 0) ≡ b → Keeps s (next (if b then ClaimingRecord c old else Viewing c old))
      found_some true none =
          let size = (size_few (next (ClaimingRecord c old)) (few_indices s.sizes.m q.1.indices named)).1 in
          kept_as (next (ClaimingRecord c old)) (GettingSet c old) (ClaimingRecord c old) e refl refl refl refl refl w.spare w.asked buffers named w.rows h.0 (omega (arith, size, k.fewer))
      found_some false some =
          let at_least : 0 < length q.1.indices = let not_none = eqb-false (length q.1.indices) 0 some in omega (arith, not_none) in
          let at_most = few_indices s.sizes.m q.1.indices named in
          let positions : viewing.ArePositions s.sizes q.1.indices = record { some = at_least; few = at_most; components = named.each } in
          let together = viewed.fresh_together s.sizes true q.1.indices s.rows positions w.rows in
          let left = viewed.fresh_left s.sizes true q.1.indices s.rows in
          let most = most_mono s.sizes (length q.1.indices) s.sizes.m at_most in
          kept_as (next (Viewing c old)) (GettingSet c old) (Viewing c old) e refl refl refl refl refl w.spare w.asked buffers named w.rows (h.0, together, refl, refl) (omega (arith, left, most, k.fewer))

      either : (o : Option Step) → finding.set_step_due q.0 ≡ o → Keeps s (option_map_or (λ _. on) o (next (if length q.1.indices == 0 then ClaimingRecord c old else Viewing c old)))
      either (Some step) due = kept_as on (GettingSet c old) (GettingSet c old) e e refl refl refl refl w.spare w.asked buffers named w.rows (h.0, k.together, same, subst IsSome (sym due) refl)
          (omega (arith, k.fewer))
      either None done = found_some (length q.1.indices == 0) refl

  viewing_kept : (c : Change) (old x : ℕ) → s.stage ≡ Viewing c old → viewing.IsPossibleInView (scanning s) x → Keeps s (advance_at s (Viewing c old) x)
  viewing_kept c old x e possible = either (viewing.view_step_due s.found.indices q) refl
    where
      q : viewing.ViewPair
      q = viewing.advance_view s.found.indices (scanning s) x

      h : is_sound_at s (Viewing c old)
      h = here (Viewing c old) e

      k : viewed.Keeps s.found.indices (scanning s) q
      k = viewed.kept s.found.indices (scanning s) x h.1 possible

      same : q.0.sizes ≡ s.sizes
      same = viewed.sizes_stay s.found.indices (scanning s) x ∙ h.2

      rows : viewing.AreRowsFor s.sizes q.1
      rows = subst (λ z. viewing.AreRowsFor z q.1) same k.together.rows

      on : CoreState
      on = with_scanning s q

      either : (o : Option Step) → viewing.view_step_due s.found.indices q ≡ o → Keeps s (option_map_or (λ _. on) o (at_stage on (ClaimingRecord c old)))
      either (Some step) due = kept_as on (Viewing c old) (Viewing c old) e e refl refl refl refl w.spare w.asked w.found same_indices rows (h.0, k.together, same, subst IsSome (sym due) refl)
          (omega (arith, k.fewer))
      either None done =
          let size = (size_few (at_stage on (ClaimingRecord c old)) few).1 in
          kept_as (at_stage on (ClaimingRecord c old)) (Viewing c old) (ClaimingRecord c old) e refl refl refl refl refl w.spare w.asked w.found same_indices rows h.0 (omega (arith, size, k.fewer))

  scanning_kept : (x : ℕ) → s.stage ≡ Scanning → viewing.IsPossibleInView (scanning s) x → Keeps s (advance_at s Scanning x)
  scanning_kept x e possible = either (viewing.view_step_due s.asked q) refl
    where
      q : viewing.ViewPair
      q = viewing.advance_view s.asked (scanning s) x

      h : is_sound_at s Scanning
      h = here Scanning e

      k : viewed.Keeps s.asked (scanning s) q
      k = viewed.kept s.asked (scanning s) x h.0 possible

      same : q.0.sizes ≡ s.sizes
      same = viewed.sizes_stay s.asked (scanning s) x ∙ h.1

      rows : viewing.AreRowsFor s.sizes q.1
      rows = subst (λ z. viewing.AreRowsFor z q.1) same k.together.rows

      on : CoreState
      on = with_scanning s q

      either : (o : Option Step) → viewing.view_step_due s.asked q ≡ o → Keeps s (option_map_or (λ _. on) o (at_stage on Leaving))
      either (Some step) due = kept_as on Scanning Scanning e e refl refl refl refl w.spare w.asked w.found same_indices rows (k.together, same, subst IsSome (sym due) refl, h.3) (omega (arith, k.fewer))
      either None done = kept_as (at_stage on Leaving) Scanning Leaving e refl refl refl refl refl w.spare w.asked w.found same_indices rows h.3 (omega (arith, k.fewer))

  -- the record goes into spare words, or into words that are claimed for it and for those ahead
  record_placed : (c : Change) (old x : ℕ) → s.stage ≡ ClaimingRecord c old → IsPossibleAt s (ClaimingRecord c old) x → Keeps s (advance_at s (ClaimingRecord c old) x)
  record_placed c old x e possible = record_cases s c old x (Keeps s) taken claimed (λ none past. refused_pool (ClaimingRecord c old) e (omega arith))
    where
      h : is_sound_at s (ClaimingRecord c old)
      h = here (ClaimingRecord c old) e

      size : plain_record_size ≤ record_size s
      size = (size_few s few).0

      taken : has_spare s ≡ true → Keeps s (into_spare s c old)
      taken some =
          let room = ltb-true (record_size s) (s.spare.size + 1) some in
          let from = w.spare.0 in
          let to = w.spare.1 in
          kept_as (into_spare s c old) (ClaimingRecord c old) (StoringRecord c old s.spare.at 1) e refl refl refl refl refl (omega (arith, from), omega (arith, room, to)) w.asked w.found same_indices w.rows
          (h, (from, omega (arith, room, to)), omega (arith, size)) (omega (arith, size))

      claimed : has_spare s ≡ false → fits_pool s.sizes (claim_size s) x ≡ true → Keeps s (into_claim s c old x)
      claimed none fits =
          let count : IsPoolCount s.sizes x = subst (λ (b : Bool). IsRecordAnswer b s.sizes x) none possible in
          let room = in_pool s.sizes (claim_size s) x count fits in
          let from = room.0 in
          let to = room.1 in
          kept_as (into_claim s c old x) (ClaimingRecord c old) (StoringRecord c old x 0) e refl refl refl refl refl (omega (arith, from), omega (arith, to)) w.asked w.found same_indices w.rows
          (h, (from, omega (arith, to)), omega (arith, size)) (omega arith)

  record_stored : (c : Change) (old at k : ℕ) → s.stage ≡ StoringRecord c old at k → (b : Bool) → (k + 1 == record_size s) ≡ b →
      Keeps s (at_stage s (if b then Exchanging c old at else StoringRecord c old at (k + 1)))
  record_stored c old at k e true last = let h = here (StoringRecord c old at k) e in let within = h.2 in staying (StoringRecord c old at k) (Exchanging c old at) e (h.0, h.1) (omega (arith, within))
  record_stored c old at k e false more =
      let h = here (StoringRecord c old at k) e in
      let within = h.2 in
      let not_last = eqb-false (k + 1) (record_size s) more in
      staying (StoringRecord c old at k) (StoringRecord c old at (k + 1)) e (h.0, h.1, omega (arith, within, not_last)) (omega (arith, within))

  announcement_claimed : (x : ℕ) → s.stage ≡ ScanBegun → IsPoolCount s.sizes x → (b : Bool) → fits_pool s.sizes (announcement_size (length s.asked)) x ≡ b →
      Keeps s (if b then at_stage s (StoringAnnouncement x 0) else pool_refused s)
  announcement_claimed x e possible true fits =
      let h = here ScanBegun e in
      staying ScanBegun (StoringAnnouncement x 0) e (h.0, h.2, in_pool s.sizes (announcement_size (length s.asked)) x possible fits, omega arith) (omega arith)
  announcement_claimed x e possible false past = refused_pool ScanBegun e (omega arith)

  announcement_stored : (at k : ℕ) → s.stage ≡ StoringAnnouncement at k → (b : Bool) → (k == length s.asked) ≡ b →
      Keeps s (if b then begin_joining s at else at_stage s (StoringAnnouncement at (k + 1)))
  announcement_stored at k e true last =
      let h = here (StoringAnnouncement at k) e in
      let whole = eqb-true k (length s.asked) last in
      kept_as (begin_joining s at) (StoringAnnouncement at k) Joining e refl refl refl refl refl w.spare w.asked w.found same_indices w.rows (h.0, h.1, refl, h.2, refl, refl) (omega (arith, whole))
  announcement_stored at k e false more =
      let h = here (StoringAnnouncement at k) e in
      let within = h.3 in
      let not_last = eqb-false k (length s.asked) more in
      staying (StoringAnnouncement at k) (StoringAnnouncement at (k + 1)) e (h.0, h.1, h.2, omega (arith, within, not_last)) (omega (arith, within))

  joining_kept : (x : ℕ) → s.stage ≡ Joining → Keeps s (advance_at s Joining x)
  joining_kept x e = by s.join.stage refl
    where
      h : is_sound_at s Joining
      h = here Joining e

      q : CoreState
      q = record s { join = advance_join s.join x }

      -- the claim
      claimed : s.join.stage ≡ Claiming → (b : Bool) → nat_lt x s.join.sizes.slots ≡ b → Keeps s (after_joining q (if b then Storing x else Spent))
      claimed j true within =
          let is : q.join.stage ≡ Storing x = ap (λ t. join_after s.join.sizes t x) j ∙ ap (λ b. if b then Storing x else Spent) within in
          let before : join_left s.join.stage ≡ 2 = ap join_left j in
          let after : join_left q.join.stage ≡ 1 = ap join_left is in
          let due : IsSome (step_of_join q.join) = subst (λ t. IsSome (join_step s.join.sizes s.join.announcement t)) (sym is) refl in
          let fits : IsTrue (fits_join s.join.sizes q.join.stage) = subst (λ t. IsTrue (fits_join s.join.sizes t)) (sym is) within in
          kept_as q Joining Joining e e refl refl refl refl w.spare w.asked w.found same_indices w.rows (h.0, h.1, h.2, h.3, due, fits) (omega (arith, before, after))
      claimed j false past = kept_as (slots_refused q) Joining (Finished (Reply.Refused Refused.SlotsSpent)) e refl refl refl refl refl w.spare w.asked w.found same_indices w.rows tt (omega arith)

      -- the store
      stored : (slot : ℕ) → s.join.stage ≡ Storing slot → Keeps s (after_joining q (Joined slot))
      stored slot j =
          let fits : nat_lt slot s.join.sizes.slots ≡ true = subst (λ t. IsTrue (fits_join s.join.sizes t)) j h.5 in
          let below = ltb-true slot s.join.sizes.slots fits in
          let slots : s.join.sizes.slots ≡ s.sizes.slots = ap (λ (z : Layout). z.slots) h.2 in
          let before : join_left s.join.stage ≡ 1 = ap join_left j in
          let positions : viewing.ArePositions s.sizes s.asked = record { some = h.0; few = w.asked.few; components = w.asked.each } in
          let together = viewed.fresh_together s.sizes false s.asked s.rows positions w.rows in
          let left = viewed.fresh_left s.sizes false s.asked s.rows in
          kept_as (after_joining q (Joined slot)) Joining Scanning e refl refl refl refl refl w.spare w.asked w.found same_indices w.rows (together, refl, refl, (refl, omega (arith, below, slots), refl))
          (omega (arith, before, left))

      by : (j : JoinStage) → s.join.stage ≡ j → Keeps s (after_joining q (join_after s.join.sizes j x))
      by Claiming j = claimed j (nat_lt x s.join.sizes.slots) refl
      by (Storing slot) j = stored slot j
      by (Joined slot) j = absurd (false≢true (subst (λ t. IsSome (join_step s.join.sizes s.join.announcement t)) j h.4))
      by Spent j = absurd (false≢true (subst (λ t. IsSome (join_step s.join.sizes s.join.announcement t)) j h.4))

  kept_at : (t : Stage) (x : ℕ) → s.stage ≡ t → IsPossibleAt s t x → Keeps s (advance_at s t x)
  kept_at Idle x e possible = absurd possible
  kept_at (ReadBegun j) x e possible = staying (ReadBegun j) (LoadingValue x) e possible (omega arith)
  kept_at (LoadingValue stamp) x e possible = staying (LoadingValue stamp) (Finished (Reply.Read x stamp)) e tt (omega arith)
  kept_at (UpdateBegun c) x e possible = begun_kept c x e possible (expects c x)
  kept_at (GettingSet c old) x e possible = getting_kept c old x e possible
  kept_at (Viewing c old) x e possible = viewing_kept c old x e possible
  kept_at (ClaimingRecord c old) x e possible = record_placed c old x e possible
  kept_at (StoringRecord c old at k) x e possible = record_stored c old at k e (k + 1 == record_size s) refl
  kept_at (Exchanging c old at) x e possible = staying (Exchanging c old at) (Finished (if x == old then Reply.Applied at else overtaken_reply c x)) e tt (omega arith)
  kept_at ScanBegun x e possible = announcement_claimed x e possible (fits_pool s.sizes (announcement_size (length s.asked)) x) refl
  kept_at (StoringAnnouncement at k) x e possible = announcement_stored at k e (k == length s.asked) refl
  kept_at Joining x e possible = joining_kept x e
  kept_at Scanning x e possible = scanning_kept x e possible
  kept_at Leaving x e possible = kept_as (advance_at s Leaving x) Leaving (Finished (scanned_reply s)) e refl refl refl refl refl w.spare w.asked w.found same_indices w.rows tt (omega arith)
  kept_at (Finished r) x e possible = absurd possible

-- over a possible answer a machine stays sound, and it has fewer steps left
pub kept : (s : CoreState) (x : ℕ) → IsLayout s.sizes → IsSound s → IsPossible s x → Keeps s (advance s x)
kept s x layout w possible = kept_at s layout w s.stage x refl possible

-- the same of all that holds of a machine, at a stage that is known
pub machine_on : (s q : CoreState) (room x : ℕ) (t : Stage) → IsMachine s room → s.stage ≡ t → IsPossibleAt s t x → q ≡ advance_at s t x → IsMachine q room
machine_on s q room x t w e possible is =
    let k = kept_at s w.sizes w.sound t x e possible in
    let same : q.sizes ≡ s.sizes = ap (λ (v : CoreState). v.sizes) is ∙ k.sizes in
    let port : q.port ≡ s.port = ap (λ (v : CoreState). v.port) is ∙ k.port in
    record {
      sizes = subst IsLayout (sym same) w.sizes;
      port = let below = w.port in omega (arith, port, below);
      sound = subst IsSound (sym is) k.sound;
      enough = subst (λ (z : Layout). z.m ≤ room) (sym same) w.enough;
    }

pub fewer_on : (s q : CoreState) (room x : ℕ) (t : Stage) → IsMachine s room → s.stage ≡ t → IsPossibleAt s t x → q ≡ advance_at s t x → steps_left q < steps_left s
fewer_on s q room x t w e possible is = subst (λ (v : CoreState). steps_left v < steps_left s) (sym is) (kept_at s w.sizes w.sound t x e possible).fewer
