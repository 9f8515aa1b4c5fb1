-- A call makes one claim of pool words at most, and one of a slot.
use Rattle.partial_machine.proofs.{Common.{ℕ, ◌≡◌, ◌+◌, ◌≤◌, ◌==◌, Bool, true, false, if◌then◌else◌, Some, None, List, [], ◌∷◌, length, refl, sym, ap, subst, ◌∙◌, arith, nat_lt, cond_both, ne_eqb, Store, Layout, IsLayout, slot_word, slot_counter, pool_counter, list_counter, announcement_size, join_step, join_after, advance_join, JoinStage, Claiming, Storing, Joined, Spent, Change, Stage, CoreState, at_stage, getting, scanning, with_getting, with_scanning, record_size, expects, fits_pool, pool_refused, begin_getting, begin_joining, after_joining, advance_at, advance, step_at, IsSound, is_sound_at, IsPossibleAt, Run, Reply}, Sound.{kept, record_cases, record_step_cases}, Behind.either}
use Rattle.partial_active.specs.declared.get_set.Stage.{Stage as SetStage}
use Rattle.partial_active.specs.declared.get_set.Stage.TheVariants as set
use Rattle.partial_active.specs.GetSet as finding
use Rattle.partial_embedded.specs.declared.embedded.Stage.{Stage as ViewStage}
use Rattle.partial_embedded.specs.declared.embedded.Stage.TheVariants as view
use Rattle.partial_embedded.specs.Embedded as viewing
use Rattle.partial_machine.specs.declared.stage.Stage.TheVariants.{Idle, ReadBegun, LoadingValue, UpdateBegun, GettingSet, Viewing, ClaimingRecord, StoringRecord, Exchanging, ScanBegun, StoringAnnouncement, Joining, Scanning, Leaving, Finished}
use Rattle.partial_machine.specs.Claims.{claims, claims_of, CallsClaimOnce}

-- the claims that are left at a stage
abbrev pool_left : CoreState → Stage → ℕ
pool_left s (UpdateBegun c) = 1
pool_left s (GettingSet c old) = 1
pool_left s (Viewing c old) = 1
pool_left s (ClaimingRecord c old) = 1
pool_left s ScanBegun = 1
pool_left s _ = 0

abbrev join_claims : JoinStage → ℕ
join_claims Claiming = 1
join_claims _ = 0

abbrev slots_left : CoreState → Stage → ℕ
slots_left s ScanBegun = 1
slots_left s (StoringAnnouncement at k) = 1
slots_left s Joining = join_claims s.join.stage
slots_left s _ = 0

count : Bool → ℕ
count b = if b then 1 else 0

few : (b : Bool) → count b ≤ 1
unfolding count
few true = omega arith
few false = omega arith

-- the claims of a step, with those that are left after it
abbrev Falls : (Layout → ℕ) → (CoreState → Stage → ℕ) → CoreState → Stage → CoreState → Type 0
Falls counter left s t q = count (claims (counter s.sizes) (step_at s t)) + left q q.stage ≤ left s t

-- a step that is no claim at the counter
quiet : (b : Bool) (n m : ℕ) → b ≡ false → n ≤ m → count b + n ≤ m
unfolding count
quiet b n m e less = let none : count b ≡ 0 = ap count e in omega (arith, none, less)

-- the claims of a getSet are of list words, and an embedded scan makes none
set_quiet : (z : Layout) (counter head : ℕ) (t : SetStage) → (list_counter z ≡ counter → ⊥) → claims counter (finding.set_step_at z head t) ≡ false
set_quiet z counter head set.Head other = refl
set_quiet z counter head (set.ListLen at) other = refl
set_quiet z counter head (set.ListLow at left) other = refl
set_quiet z counter head (set.ListHigh at left lo) other = refl
set_quiet z counter head set.Counter other = refl
set_quiet z counter head (set.Slot slot) other = refl
set_quiet z counter head (set.Len slot at) other = refl
set_quiet z counter head (set.Index slot at left) other = refl
set_quiet z counter head (set.Claim words) other = ne_eqb (list_counter z) counter other
set_quiet z counter head (set.Write at k words word) other = refl
set_quiet z counter head (set.Publish at) other = refl
set_quiet z counter head set.Done other = refl

view_quiet : (z : Layout) (indices last : List ℕ) (counter : ℕ) (t : ViewStage) → claims counter (viewing.view_step_at z indices last t) ≡ false
view_quiet z indices last counter (view.Collect k) = refl
view_quiet z indices last counter (view.View stamp) = refl
view_quiet z indices last counter (view.Len at) = refl
view_quiet z indices last counter (view.Index at left) = refl
view_quiet z indices last counter (view.PairValue at left index) = refl
view_quiet z indices last counter (view.Value k) = refl
view_quiet z indices last counter view.Done = refl

leave_quiet : (z : Layout) (slot counter : ℕ) (b : Bool) → claims counter (if b then None else Some (Store (slot_word z slot) 1)) ≡ false
leave_quiet z slot counter true = refl
leave_quiet z slot counter false = refl

-- the claims that a machine has left, at a stage that is known
left_is : (left : CoreState → Stage → ℕ) (q : CoreState) (t : Stage) (n : ℕ) → q.stage ≡ t → left q t ≤ n → left q q.stage ≤ n
left_is left q t n e less = subst (λ (u : Stage). left q u ≤ n) (sym e) less

module _ (s : CoreState) (x : ℕ) (w : IsSound s) where
  here : (t : Stage) → s.stage ≡ t → is_sound_at s t
  here t e = subst (is_sound_at s) e w.stage

  set_step : (counter : ℕ) (c : Change) (old : ℕ) → s.stage ≡ GettingSet c old → (list_counter s.sizes ≡ counter → ⊥) → claims counter (step_at s (GettingSet c old)) ≡ false
  set_step counter c old e other = set_quiet s.get_set.sizes counter s.get_set.head s.get_set.stage (λ same. other (ap list_counter (sym (here (GettingSet c old) e).2) ∙ same))

  join_step_quiet : s.stage ≡ Joining → (j : JoinStage) → claims (pool_counter s.sizes) (join_step s.join.sizes s.join.announcement j) ≡ false
  join_step_quiet e Claiming = ne_eqb (slot_counter s.join.sizes) (pool_counter s.sizes)
      (λ same. let h : slot_counter s.join.sizes ≡ slot_counter s.sizes = ap slot_counter (here Joining e).2 in omega (arith, same, h))
  join_step_quiet e (Storing slot) = refl
  join_step_quiet e (Joined slot) = refl
  join_step_quiet e Spent = refl

  joined_pool : (q : CoreState) (j : JoinStage) → q.stage ≡ Joining → pool_left (after_joining q j) (after_joining q j).stage ≤ 0
  joined_pool q Claiming e = left_is pool_left q Joining 0 e (omega arith)
  joined_pool q (Storing slot) e = left_is pool_left q Joining 0 e (omega arith)
  joined_pool q (Joined slot) e = omega arith
  joined_pool q Spent e = omega arith

  pool_at : (t : Stage) → s.stage ≡ t → IsPossibleAt s t x → Falls pool_counter pool_left s t (advance_at s t x)
  pool_at Idle e p = absurd p
  pool_at (ReadBegun j) e p = quiet false 0 0 refl (omega arith)
  pool_at (LoadingValue stamp) e p = quiet false 0 0 refl (omega arith)
  pool_at (UpdateBegun c) e p = quiet false _ 1 refl (cond_both (expects c x) (begin_getting s c x) (at_stage s (Finished (Reply.Changed x))) (λ (q : CoreState). pool_left q q.stage ≤ 1)
      (λ _. omega arith) (λ _. omega arith))
  pool_at (GettingSet c old) e p =
      let q = with_getting s (finding.advance_set (getting s) x) in
      quiet (claims (pool_counter s.sizes) (step_at s (GettingSet c old))) _ 1 (set_step (pool_counter s.sizes) c old e (λ same. omega (arith, same)))
      (either (finding.set_step_due q.get_set) q (record q { embedded = viewing.fresh_view q.sizes true; stage = (if length q.found.indices == 0 then ClaimingRecord c old else Viewing c old) })
      (λ (v : CoreState). pool_left v v.stage ≤ 1)
      (left_is pool_left q (GettingSet c old) 1 e (omega arith))
      (cond_both (length q.found.indices == 0) (ClaimingRecord c old) (Viewing c old) (λ (u : Stage). pool_left (record q { embedded = viewing.fresh_view q.sizes true; stage = u }) u ≤ 1)
      (λ _. omega arith) (λ _. omega arith)))
  pool_at (Viewing c old) e p =
      let q = with_scanning s (viewing.advance_view s.found.indices (scanning s) x) in
      quiet (claims (pool_counter s.sizes) (step_at s (Viewing c old))) _ 1 (view_quiet s.embedded.sizes s.found.indices s.rows.last (pool_counter s.sizes) s.embedded.stage)
      (either (viewing.view_step_due s.found.indices (scanning q)) q (at_stage q (ClaimingRecord c old)) (λ (v : CoreState). pool_left v v.stage ≤ 1)
      (left_is pool_left q (Viewing c old) 1 e (omega arith)) (omega arith))
  pool_at (ClaimingRecord c old) e p =
      let one = few (claims (pool_counter s.sizes) (step_at s (ClaimingRecord c old))) in
      record_cases s c old x (λ (q : CoreState). count (claims (pool_counter s.sizes) (step_at s (ClaimingRecord c old))) + pool_left q q.stage ≤ 1) (λ _. omega (arith, one)) (λ _ _. omega (arith, one)) (λ _ _. omega (arith, one))
  pool_at (StoringRecord c old at k) e p = quiet false _ 0 refl (cond_both (k + 1 == record_size s) (Exchanging c old at) (StoringRecord c old at (k + 1))
      (λ (u : Stage). pool_left (at_stage s u) u ≤ 0) (λ _. omega arith) (λ _. omega arith))
  pool_at (Exchanging c old at) e p = quiet false 0 0 refl (omega arith)
  pool_at ScanBegun e p =
      let one = few (claims (pool_counter s.sizes) (step_at s ScanBegun)) in
      cond_both (fits_pool s.sizes (announcement_size (length s.asked)) x) (at_stage s (StoringAnnouncement x 0)) (pool_refused s)
      (λ (q : CoreState). count (claims (pool_counter s.sizes) (step_at s ScanBegun)) + pool_left q q.stage ≤ 1) (λ _. omega (arith, one)) (λ _. omega (arith, one))
  pool_at (StoringAnnouncement at k) e p = quiet false _ 0 refl (cond_both (k == length s.asked) (begin_joining s at) (at_stage s (StoringAnnouncement at (k + 1)))
      (λ (q : CoreState). pool_left q q.stage ≤ 0) (λ _. omega arith) (λ _. omega arith))
  pool_at Joining e p = quiet (claims (pool_counter s.sizes) (step_at s Joining)) _ 0 (join_step_quiet e s.join.stage)
      (joined_pool (record s { join = advance_join s.join x }) (advance_join s.join x).stage e)
  pool_at Scanning e p =
      let q = with_scanning s (viewing.advance_view s.asked (scanning s) x) in
      quiet (claims (pool_counter s.sizes) (step_at s Scanning)) _ 0 (view_quiet s.embedded.sizes s.asked s.rows.last (pool_counter s.sizes) s.embedded.stage)
      (either (viewing.view_step_due s.asked (scanning q)) q (at_stage q Leaving) (λ (v : CoreState). pool_left v v.stage ≤ 0) (left_is pool_left q Scanning 0 e (omega arith)) (omega arith))
  pool_at Leaving e p = quiet (claims (pool_counter s.sizes) (step_at s Leaving)) 0 0 (leave_quiet s.leave.sizes s.leave.slot (pool_counter s.sizes) s.leave.left) (omega arith)
  pool_at (Finished r) e p = absurd p

  -- a join claims its slot once
  joined_slots : (j : JoinStage) → s.stage ≡ Joining → s.join.stage ≡ j →
      (let q : CoreState = record s { join = advance_join s.join x } in count (claims (slot_counter s.sizes) (join_step s.join.sizes s.join.announcement j)) + slots_left
      (after_joining q (join_after s.join.sizes j x)) (after_joining q (join_after s.join.sizes j x)).stage ≤ join_claims j)
  joined_slots Claiming e at = by (nat_lt x s.join.sizes.slots) refl
    where
      by : (b : Bool) → nat_lt x s.join.sizes.slots ≡ b → count (slot_counter s.join.sizes == slot_counter s.sizes) + slots_left
          (after_joining (record s { join = advance_join s.join x }) (if b then Storing x else Spent)) (after_joining (record s { join = advance_join s.join x }) (if b then Storing x
          else Spent)).stage ≤ 1
      by true within =
          let one = few (slot_counter s.join.sizes == slot_counter s.sizes) in
          let is : (advance_join s.join x).stage ≡ Storing x = ap (λ t. join_after s.join.sizes t x) at ∙ ap (λ b. if b then Storing x else Spent) within in
          let none : slots_left (record s { join = advance_join s.join x }) s.stage ≤ 0 = left_is slots_left (record s { join = advance_join s.join x }) Joining 0 e
          (let zero_is : join_claims (advance_join s.join x).stage ≡ 0 = ap join_claims is in omega (arith, zero_is)) in
          omega (arith, one, none)
      by false past = let one = few (slot_counter s.join.sizes == slot_counter s.sizes) in omega (arith, one)
  joined_slots (Storing slot) e at = quiet false 0 0 refl (omega arith)
  joined_slots (Joined slot) e at = quiet false 0 0 refl (omega arith)
  joined_slots Spent e at = quiet false 0 0 refl (omega arith)

  slots_at : (t : Stage) → s.stage ≡ t → IsPossibleAt s t x → Falls slot_counter slots_left s t (advance_at s t x)
  slots_at Idle e p = absurd p
  slots_at (ReadBegun j) e p = quiet false 0 0 refl (omega arith)
  slots_at (LoadingValue stamp) e p = quiet false 0 0 refl (omega arith)
  slots_at (UpdateBegun c) e p = quiet false _ 0 refl (cond_both (expects c x) (begin_getting s c x) (at_stage s (Finished (Reply.Changed x))) (λ (q : CoreState). slots_left q q.stage ≤ 0)
      (λ _. omega arith) (λ _. omega arith))
  slots_at (GettingSet c old) e p =
      let q = with_getting s (finding.advance_set (getting s) x) in
      quiet (claims (slot_counter s.sizes) (step_at s (GettingSet c old))) _ 0 (set_step (slot_counter s.sizes) c old e (λ same. omega (arith, same)))
      (either (finding.set_step_due q.get_set) q (record q { embedded = viewing.fresh_view q.sizes true; stage = (if length q.found.indices == 0 then ClaimingRecord c old else Viewing c old) })
      (λ (v : CoreState). slots_left v v.stage ≤ 0)
      (left_is slots_left q (GettingSet c old) 0 e (omega arith))
      (cond_both (length q.found.indices == 0) (ClaimingRecord c old) (Viewing c old) (λ (u : Stage). slots_left (record q { embedded = viewing.fresh_view q.sizes true; stage = u }) u ≤ 0)
      (λ _. omega arith) (λ _. omega arith)))
  slots_at (Viewing c old) e p =
      let q = with_scanning s (viewing.advance_view s.found.indices (scanning s) x) in
      quiet (claims (slot_counter s.sizes) (step_at s (Viewing c old))) _ 0 (view_quiet s.embedded.sizes s.found.indices s.rows.last (slot_counter s.sizes) s.embedded.stage)
      (either (viewing.view_step_due s.found.indices (scanning q)) q (at_stage q (ClaimingRecord c old)) (λ (v : CoreState). slots_left v v.stage ≤ 0)
      (left_is slots_left q (Viewing c old) 0 e (omega arith)) (omega arith))
  slots_at (ClaimingRecord c old) e p =
      quiet (claims (slot_counter s.sizes) (step_at s (ClaimingRecord c old))) _ 0
      (record_step_cases s old (λ t. claims (slot_counter s.sizes) (Some t) ≡ false) (λ _. refl) (λ _. ne_eqb (pool_counter s.sizes) (slot_counter s.sizes) (λ same. omega (arith, same))))
      (record_cases s c old x (λ (q : CoreState). slots_left q q.stage ≤ 0) (λ _. omega arith) (λ _ _. omega arith) (λ _ _. omega arith))
  slots_at (StoringRecord c old at k) e p = quiet false _ 0 refl (cond_both (k + 1 == record_size s) (Exchanging c old at) (StoringRecord c old at (k + 1))
      (λ (u : Stage). slots_left (at_stage s u) u ≤ 0) (λ _. omega arith) (λ _. omega arith))
  slots_at (Exchanging c old at) e p = quiet false 0 0 refl (omega arith)
  slots_at ScanBegun e p =
      quiet (pool_counter s.sizes == slot_counter s.sizes) _ 1 (ne_eqb (pool_counter s.sizes) (slot_counter s.sizes) (λ same. omega (arith, same)))
      (cond_both (fits_pool s.sizes (announcement_size (length s.asked)) x) (at_stage s (StoringAnnouncement x 0)) (pool_refused s) (λ (q : CoreState). slots_left q q.stage ≤ 1)
      (λ _. omega arith) (λ _. omega arith))
  slots_at (StoringAnnouncement at k) e p = quiet false _ 1 refl (cond_both (k == length s.asked) (begin_joining s at) (at_stage s (StoringAnnouncement at (k + 1)))
      (λ (q : CoreState). slots_left q q.stage ≤ 1) (λ _. omega arith) (λ _. omega arith))
  slots_at Joining e p = joined_slots s.join.stage e refl
  slots_at Scanning e p =
      let q = with_scanning s (viewing.advance_view s.asked (scanning s) x) in
      quiet (claims (slot_counter s.sizes) (step_at s Scanning)) _ 0 (view_quiet s.embedded.sizes s.asked s.rows.last (slot_counter s.sizes) s.embedded.stage)
      (either (viewing.view_step_due s.asked (scanning q)) q (at_stage q Leaving) (λ (v : CoreState). slots_left v v.stage ≤ 0) (left_is slots_left q Scanning 0 e (omega arith)) (omega arith))
  slots_at Leaving e p = quiet (claims (slot_counter s.sizes) (step_at s Leaving)) 0 0 (leave_quiet s.leave.sizes s.leave.slot (slot_counter s.sizes) s.leave.left) (omega arith)
  slots_at (Finished r) e p = absurd p

-- over a run
run_claims : (counter : Layout → ℕ) (left : CoreState → Stage → ℕ) → ((s : CoreState) (x : ℕ) → IsSound s → IsPossibleAt s s.stage x → Falls counter left s s.stage (advance s x)) →
    (s t : CoreState) (xs : List ℕ) → IsLayout s.sizes → IsSound s → Run s xs t → claims_of counter s xs ≤ left s s.stage
unfolding count
run_claims counter left falls s t [] layout w run = omega arith
run_claims counter left falls s t (x ∷ xs) layout w run =
    let k = kept s x layout w run.0 in
    let rest = run_claims counter left falls (advance s x) t xs (subst IsLayout (sym k.sizes) layout) k.sound run.1 in
    let step = falls s x w run.0 in
    omega (arith, rest, step)

pool_one : (s : CoreState) (t : Stage) → pool_left s t ≤ 1
pool_one s (UpdateBegun c) = omega arith
pool_one s (GettingSet c old) = omega arith
pool_one s (Viewing c old) = omega arith
pool_one s (ClaimingRecord c old) = omega arith
pool_one s ScanBegun = omega arith
pool_one s _ = omega arith

slots_one : (s : CoreState) (t : Stage) → slots_left s t ≤ 1
slots_one s ScanBegun = omega arith
slots_one s (StoringAnnouncement at k) = omega arith
slots_one s Joining = by s.join.stage
  where
    by : (j : JoinStage) → join_claims j ≤ 1
    by Claiming = omega arith
    by _ = omega arith
slots_one s _ = omega arith

pub calls_claim_once : CallsClaimOnce
calls_claim_once s t xs layout w run =
    let pool = run_claims pool_counter pool_left (λ q x sound p. pool_at q x sound q.stage refl p) s t xs layout w run in
    let slots = run_claims slot_counter slots_left (λ q x sound p. slots_at q x sound q.stage refl p) s t xs layout w run in
    let one = pool_one s s.stage in
    let one_slot = slots_one s s.stage in
    (omega (arith, pool, one), omega (arith, slots, one_slot))
