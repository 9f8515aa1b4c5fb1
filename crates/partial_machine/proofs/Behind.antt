-- What is known of a machine after a possible answer.
use Rattle.partial_machine.proofs.{Common.{ℕ, ◌≡◌, ◌+◌, ◌-◌, ◌<◌, ◌≤◌, ◌==◌, ◌⊎◌, Bool, true, false, if◌then◌else◌, not, ◌||◌, min, Option, Some, None, IsSome, List, [], ◌∷◌, length, refl, sym, ap, subst, ◌∙◌, inl, inr, arith, is_some, nat_lt, option_map_or, false≢true, cond_both, ltb-true, ltb-false, Refused, Step, Store, Add, Layout, IsLayout, slot_counter, slot_word, pool_counter, list_counter, list_end, pool_end, greatest_record, announcement_size, indices_word, next_word, with_index, begins_at, join_step, join_after, advance_join, JoinStage, Claiming, Storing, Joined, Spent, Change, Reply, Stage, is_begun, is_at_rest, IsSound, is_sound_at, IsPossibleAt, Run, ClaimsPastLists, IsRefusedBy, IsMarkedFor, refuses_pool, refuses_slots, AnswersLeadOn, DueIsUnreplied, claim_size, into_spare, into_claim}, Sound.{kept, size_few, record_cases}}
use Rattle.partial_intervals.specs.Intervals.{highest}
use Rattle.partial_active.specs.declared.get_set.Stage.{Stage as SetStage}
use Rattle.partial_active.specs.declared.get_set.Stage.TheVariants as set
use Rattle.partial_active.specs.GetSet as finding
use Rattle.partial_active.specs.GetSetAnswers as finding_answers
use Rattle.partial_active.proofs.Extended.{length_normal}
use Rattle.partial_embedded.specs.Embedded as viewing
use Rattle.partial_machine.specs.declared.stage.Stage.TheVariants.{Idle, ReadBegun, LoadingValue, UpdateBegun, GettingSet, Viewing, ClaimingRecord, StoringRecord, Exchanging, ScanBegun, StoringAnnouncement, Joining, Scanning, Leaving, Finished}
use Rattle.partial_machine.specs.Machine.{CoreState, at_stage, getting, scanning, with_getting, with_scanning, record_size, expects, overtaken_reply, fits_pool, pool_refused, slots_refused, begin_getting, begin_joining, after_joining, scanned_reply, lists_spent, advance_at, advance, step_at, reply_at}

-- a call that has made a step
abbrev is_behind : Stage → Bool
is_behind Idle = false
is_behind (ReadBegun j) = false
is_behind (UpdateBegun c) = false
is_behind ScanBegun = false
is_behind _ = true

not_begun : (t : Stage) → is_behind t ≡ true → is_begun t ≡ false
not_begun Idle h = refl
not_begun (ReadBegun j) h = absurd (false≢true h)
not_begun (UpdateBegun c) h = absurd (false≢true h)
not_begun ScanBegun h = absurd (false≢true h)
not_begun _ h = refl

rests_replied : (t : Stage) → is_behind t ≡ true → is_at_rest t ≡ is_some (reply_at t)
rests_replied Idle h = absurd (false≢true h)
rests_replied (ReadBegun j) h = refl
rests_replied (UpdateBegun c) h = refl
rests_replied ScanBegun h = refl
rests_replied (Finished r) h = refl
rests_replied _ h = refl

-- a sound machine has a step due where it isn't at rest
pub due_at : (s : CoreState) (t : Stage) → is_sound_at s t → is_some (step_at s t) ≡ not (is_at_rest t)
due_at s Idle h = refl
due_at s (ReadBegun j) h = refl
due_at s (LoadingValue stamp) h = refl
due_at s (UpdateBegun c) h = refl
due_at s (GettingSet c old) h = h.3
due_at s (Viewing c old) h = h.3
due_at s (ClaimingRecord c old) h = refl
due_at s (StoringRecord c old at k) h = refl
due_at s (Exchanging c old at) h = refl
due_at s ScanBegun h = refl
due_at s (StoringAnnouncement at k) h = refl
due_at s Joining h = h.4
due_at s Scanning h = h.2
due_at s Leaving h = ap (λ (b : Bool). is_some (if b then None else Some (Store (slot_word s.leave.sizes s.leave.slot) 1))) h.2
due_at s (Finished r) h = refl

-- a refusal
abbrev is_refusal : Option Reply → Bool
is_refusal (Some (Reply.Refused cause)) = true
is_refusal _ = false

no_pool : (f : Option Reply) → is_refusal f ≡ false → refuses_pool f ≡ false
no_pool None h = refl
no_pool (Some (Reply.Refused cause)) h = absurd (false≢true (sym h))
no_pool (Some (Reply.Applied stamp)) h = refl
no_pool (Some (Reply.Lost by)) h = refl
no_pool (Some (Reply.Scanned c b)) h = refl
no_pool (Some (Reply.Read v stamp)) h = refl
no_pool (Some (Reply.Changed by)) h = refl

no_slots : (f : Option Reply) → is_refusal f ≡ false → refuses_slots f ≡ false
no_slots None h = refl
no_slots (Some (Reply.Refused cause)) h = absurd (false≢true (sym h))
no_slots (Some (Reply.Applied stamp)) h = refl
no_slots (Some (Reply.Lost by)) h = refl
no_slots (Some (Reply.Scanned c b)) h = refl
no_slots (Some (Reply.Read v stamp)) h = refl
no_slots (Some (Reply.Changed by)) h = refl

-- what the machine t is after an answer to s
record After (s : CoreState) (x : ℕ) (t : CoreState) : Type 0 where
  ahead : is_behind t.stage ≡ true
  refused_by : (cause : Refused) → reply_at t.stage ≡ Some (Reply.Refused cause) → IsRefusedBy s x cause × (¬ IsMarkedFor s cause)
  pool : t.pool_spent ≡ (refuses_pool (reply_at t.stage) || s.pool_spent)
  slots : t.slots_spent ≡ (refuses_slots (reply_at t.stage) || s.slots_spent)

-- the call goes on, or it is answered
plain : (s : CoreState) (x : ℕ) (t : CoreState) (u : Stage) → t.stage ≡ u → is_behind u ≡ true → is_refusal (reply_at u) ≡ false → t.pool_spent ≡ s.pool_spent →
    t.slots_spent ≡ s.slots_spent → After s x t
plain s x t u e ahead answered pool slots = record {
  ahead = ap is_behind e ∙ ahead;
  refused_by = λ cause is. let bad : true ≡ false = sym (ap is_refusal is) ∙ ap (λ (v : Stage). is_refusal (reply_at v)) e ∙ answered in absurd (false≢true (sym bad));
  pool = pool ∙ ap (λ b. b || s.pool_spent) (sym (ap (λ (v : Stage). refuses_pool (reply_at v)) e ∙ no_pool (reply_at u) answered));
  slots = slots ∙ ap (λ b. b || s.slots_spent) (sym (ap (λ (v : Stage). refuses_slots (reply_at v)) e ∙ no_slots (reply_at u) answered));
}

-- what holds of both holds of the one that an option picks
pub either : {A : Type 0} (f : Option A) (s t : CoreState) (P : CoreState → Type 0) → P s → P t → P (option_map_or (λ _. s) f t)
either None s t P p q = q
either (Some a) s t P p q = p

-- the reply to an exchange refuses nothing
exchanged : (c : Change) (at x : ℕ) (b : Bool) (f : Option ℕ) → c.expected ≡ f → is_refusal (Some (if b then Reply.Applied at else overtaken_reply c x)) ≡ false
exchanged c at x true f e = refl
exchanged c at x false None e = ap (λ (g : Option ℕ). is_refusal (Some (option_map_or (λ _. Reply.Changed x) g (Reply.Lost x)))) e
exchanged c at x false (Some v) e = ap (λ (g : Option ℕ). is_refusal (Some (option_map_or (λ _. Reply.Changed x) g (Reply.Lost x)))) e

module _ (s : CoreState) (x : ℕ) (w : IsSound s) where
  here : (t : Stage) → s.stage ≡ t → is_sound_at s t
  here t e = subst (is_sound_at s) e w.stage

  -- a claim of pool words that went past the end
  pool_after : (t : Stage) (size : ℕ) → s.stage ≡ t → step_at s t ≡ Some (Add (pool_counter s.sizes) size) → size ≤ greatest_record s.sizes + s.ahead → s.pool_spent ≡ false → fits_pool s.sizes size x ≡ false →
      After s x (pool_refused s)
  pool_after t size e due few unmarked past = record {
    ahead = refl;
    refused_by = λ cause is. let same : Refused.PoolSpent ≡ cause = cc in subst (λ (f : Refused). IsRefusedBy s x f × (¬ IsMarkedFor s f)) same (
      record { size = size; step = ap (step_at s) e ∙ due; few = few; past = let over = ltb-false (x + size) (pool_end s.sizes + 1) past in omega (arith, over) },
      λ marked. false≢true (sym unmarked ∙ marked),
    );
    pool = refl;
    slots = refl;
  }

  getting_after : (c : Change) (old : ℕ) → s.stage ≡ GettingSet c old → After s x (advance_at s (GettingSet c old) x)
  getting_after c old e =
      let q = with_getting s (finding.advance_set (getting s) x) in
      let next : Stage → CoreState = λ u. record q { embedded = viewing.fresh_view q.sizes true; stage = u } in
      either (finding.set_step_due q.get_set) q (next (if length q.found.indices == 0 then ClaimingRecord c old else Viewing c old)) (After s x) (plain s x q (GettingSet c old) e refl refl refl refl)
      (cond_both (length q.found.indices == 0) (ClaimingRecord c old) (Viewing c old) (λ (u : Stage). After s x (next u))
      (λ _. plain s x (next (ClaimingRecord c old)) (ClaimingRecord c old) refl refl refl refl refl) (λ _. plain s x (next (Viewing c old)) (Viewing c old) refl refl refl refl refl))

  joining_after : (j : JoinStage) → s.stage ≡ Joining → s.join.stage ≡ j → After s x (let q : CoreState = record s { join = advance_join s.join x } in after_joining q (join_after s.join.sizes j x))
  joining_after Claiming e at = by (nat_lt x s.join.sizes.slots) refl
    where
      q : CoreState
      q = record s { join = advance_join s.join x }

      h : is_sound_at s Joining
      h = here Joining e

      by : (b : Bool) → nat_lt x s.join.sizes.slots ≡ b → After s x (after_joining q (if b then Storing x else Spent))
      by true within = plain s x q Joining e refl refl refl refl
      by false past = record {
        ahead = refl;
        refused_by = λ cause is. let same : Refused.SlotsSpent ≡ cause = cc in subst (λ (f : Refused). IsRefusedBy s x f × (¬ IsMarkedFor s f)) same (
          record {
            step = ap (step_at s) e ∙ ap (join_step s.join.sizes s.join.announcement) at ∙ ap (λ (y : Layout). Some (Add (slot_counter y) 1)) h.2;
            past = subst (λ (y : Layout). y.slots ≤ x) h.2 (ltb-false x s.join.sizes.slots past);
          },
          λ marked. false≢true (sym h.1 ∙ marked),
        );
        pool = refl;
        slots = refl;
      }
  joining_after (Storing slot) e at = let q : CoreState = record s { join = advance_join s.join x } in plain s x (after_joining q (Joined slot)) Scanning refl refl refl refl refl
  joining_after (Joined slot) e at = let due = (here Joining e).4 in absurd (false≢true (subst (λ t. IsSome (join_step s.join.sizes s.join.announcement t)) at due))
  joining_after Spent e at = let due = (here Joining e).4 in absurd (false≢true (subst (λ t. IsSome (join_step s.join.sizes s.join.announcement t)) at due))

  after_at : (t : Stage) → s.stage ≡ t → IsPossibleAt s t x → After s x (advance_at s t x)
  after_at Idle e p = absurd p
  after_at (ReadBegun j) e p = plain s x (at_stage s (LoadingValue x)) (LoadingValue x) refl refl refl refl refl
  after_at (LoadingValue stamp) e p = plain s x (at_stage s (Finished (Reply.Read x stamp))) (Finished (Reply.Read x stamp)) refl refl refl refl refl
  after_at (UpdateBegun c) e p = cond_both (expects c x) (begin_getting s c x) (at_stage s (Finished (Reply.Changed x))) (After s x)
      (λ _. plain s x (begin_getting s c x) (GettingSet c x) refl refl refl refl refl)
      (λ _. plain s x (at_stage s (Finished (Reply.Changed x))) (Finished (Reply.Changed x)) refl refl refl refl refl)
  after_at (GettingSet c old) e p = getting_after c old e
  after_at (Viewing c old) e p =
      let q = with_scanning s (viewing.advance_view s.found.indices (scanning s) x) in
      either (viewing.view_step_due s.found.indices (scanning q)) q (at_stage q (ClaimingRecord c old)) (After s x) (plain s x q (Viewing c old) e refl refl refl refl)
      (plain s x (at_stage q (ClaimingRecord c old)) (ClaimingRecord c old) refl refl refl refl refl)
  after_at (ClaimingRecord c old) e p = record_cases s c old x (After s x) (λ some. plain s x (into_spare s c old) (StoringRecord c old s.spare.at 1) refl refl refl refl refl)
      (λ none fits. plain s x (into_claim s c old x) (StoringRecord c old x 0) refl refl refl refl refl)
      (λ none past. let few = (size_few s w.indices.few).1 in pool_after (ClaimingRecord c old) (claim_size s) e
      (ap (λ (b : Bool). Some (if b then Store s.spare.at old else Add (pool_counter s.sizes) (claim_size s))) none) (omega (arith, few)) (here (ClaimingRecord c old) e).2 past)
  after_at (StoringRecord c old at k) e p = cond_both (k + 1 == record_size s) (Exchanging c old at) (StoringRecord c old at (k + 1)) (λ (u : Stage). After s x (at_stage s u))
      (λ _. plain s x (at_stage s (Exchanging c old at)) (Exchanging c old at) refl refl refl refl refl)
      (λ _. plain s x (at_stage s (StoringRecord c old at (k + 1))) (StoringRecord c old at (k + 1)) refl refl refl refl refl)
  after_at (Exchanging c old at) e p =
      let u : Stage = Finished (if x == old then Reply.Applied at else overtaken_reply c x) in
      plain s x (at_stage s u) u refl refl (exchanged c at x (x == old) c.expected refl) refl refl
  after_at ScanBegun e p = by (fits_pool s.sizes (announcement_size (length s.asked)) x) refl
    where
      by : (b : Bool) → fits_pool s.sizes (announcement_size (length s.asked)) x ≡ b → After s x (if b then at_stage s (StoringAnnouncement x 0) else pool_refused s)
      by true fits = plain s x (at_stage s (StoringAnnouncement x 0)) (StoringAnnouncement x 0) refl refl refl refl refl
      by false past = let few = w.asked.few in pool_after ScanBegun (announcement_size (length s.asked)) e refl (omega (arith, few)) (here ScanBegun e).1 past
  after_at (StoringAnnouncement at k) e p = cond_both (k == length s.asked) (begin_joining s at) (at_stage s (StoringAnnouncement at (k + 1))) (After s x)
      (λ _. plain s x (begin_joining s at) Joining refl refl refl refl refl)
      (λ _. plain s x (at_stage s (StoringAnnouncement at (k + 1))) (StoringAnnouncement at (k + 1)) refl refl refl refl refl)
  after_at Joining e p = joining_after s.join.stage e refl
  after_at Scanning e p =
      let q = with_scanning s (viewing.advance_view s.asked (scanning s) x) in
      either (viewing.view_step_due s.asked (scanning q)) q (at_stage q Leaving) (After s x) (plain s x q Scanning e refl refl refl refl)
      (plain s x (at_stage q Leaving) Leaving refl refl refl refl refl)
  after_at Leaving e p = plain s x (advance_at s Leaving x) (Finished (scanned_reply s)) refl refl refl refl refl
  after_at (Finished r) e p = absurd p

-- the mark for the list words after an answer to a getSet
abbrev MarksLists : SetStage → finding.SetPair → ℕ → finding.SetPair → Type 0
MarksLists t p x q = (q.0.lists_spent ≡ p.0.lists_spent) ⊎ ((words : ℕ) × (t ≡ set.Claim words) × (list_end p.0.sizes < x + words) × (q.0.lists_spent ≡ true))

same_at_slot : (p : finding.SetPair) (slot : ℕ) → (finding.at_slot p slot).0.lists_spent ≡ p.0.lists_spent
same_at_slot p slot = cond_both (nat_lt slot p.0.end) (record p.0 { stage = set.Slot slot }, p.1) (finding.after_walk p) (λ (q : finding.SetPair). q.0.lists_spent ≡ p.0.lists_spent) (λ e. refl)
    (λ e. refl)

same_come_to : (p : finding.SetPair) (slot : ℕ) → (finding.come_to p slot).0.lists_spent ≡ p.0.lists_spent
same_come_to p slot = cond_both (begins_at p.1.read p.0.passed slot) (finding.at_slot (finding.pass_interval p) (highest p.1.read p.0.passed + 1)) (finding.at_slot p slot)
    (λ (q : finding.SetPair). q.0.lists_spent ≡ p.0.lists_spent)
    (λ e. same_at_slot (finding.pass_interval p) (highest p.1.read p.0.passed + 1))
    (λ e. same_at_slot p slot)

marks_lists : (t : SetStage) (p : finding.SetPair) (x : ℕ) → MarksLists t p x (finding.advance_set_at t p x)
marks_lists set.Head p x = inl refl
marks_lists (set.ListLen at) p x = inl refl
marks_lists (set.ListLow at left) p x = inl refl
marks_lists (set.ListHigh at left lo) p x = inl refl
marks_lists set.Counter p x = inl (same_come_to (record p.0 { end = min x p.0.sizes.slots; passed = 0 }, p.1) 0)
marks_lists (set.Slot slot) p x = inl (cond_both (x == 0) (finding.come_to p (slot + 1))
    (if x == 1 then finding.come_to (finding.note_slot p slot) (slot + 1) else finding.in_stage p (set.Len slot x)) (λ (q : finding.SetPair). q.0.lists_spent ≡ p.0.lists_spent)
    (λ e. same_come_to p (slot + 1))
    (λ other. cond_both (x == 1) (finding.come_to (finding.note_slot p slot) (slot + 1)) (finding.in_stage p (set.Len slot x)) (λ (q : finding.SetPair). q.0.lists_spent ≡ p.0.lists_spent)
    (λ e. same_come_to (finding.note_slot p slot) (slot + 1)) (λ e. refl)))
marks_lists (set.Len slot at) p x =
    inl (cond_both (x == 0) (finding.come_to p (slot + 1)) (finding.in_stage p (set.Index slot (indices_word at) x)) (λ (q : finding.SetPair). q.0.lists_spent ≡ p.0.lists_spent)
    (λ e. same_come_to p (slot + 1)) (λ e. refl))
marks_lists (set.Index slot at left) p x =
    let q : finding.SetPair = (p.0, record p.1 { indices = with_index p.1.indices x }) in
    inl (cond_both (left == 1) (finding.come_to q (slot + 1)) (finding.in_stage q (set.Index slot (next_word at) (left - 1))) (λ (r : finding.SetPair). r.0.lists_spent ≡ p.0.lists_spent)
    (λ e. same_come_to q (slot + 1)) (λ e. refl))
marks_lists (set.Claim words) p x = by (nat_lt (list_end p.0.sizes) (x + words)) refl
  where
    by : (b : Bool) → nat_lt (list_end p.0.sizes) (x + words) ≡ b → MarksLists (set.Claim words) p x
        (if b then (record p.0 { lists_spent = true; stage = set.Done }, p.1) else finding.in_stage p (set.Write x 0 words (length p.1.next)))
    by true over = inr (words, refl, ltb-true (list_end p.0.sizes) (x + words) over, refl)
    by false fits = inl refl
marks_lists (set.Write at k words word) p x = inl refl
marks_lists (set.Publish at) p x = inl refl
marks_lists set.Done p x = inl refl

-- the marks for the list words after an answer
abbrev KeepsLists : CoreState → ℕ → CoreState → Type 0
KeepsLists s x t = (lists_spent s ≡ true → lists_spent t ≡ true) × (lists_spent s ≡ false → lists_spent t ≡ true → ClaimsPastLists s x)

same_lists : (s : CoreState) (x : ℕ) (t : CoreState) → lists_spent t ≡ lists_spent s → KeepsLists s x t
same_lists s x t same = ((λ marked. same ∙ marked), (λ unmarked marked. absurd (false≢true (sym unmarked ∙ sym same ∙ marked))))

module _ (s : CoreState) (x : ℕ) (layout : IsLayout s.sizes) (w : IsSound s) where
  getting_lists : (c : Change) (old : ℕ) → s.stage ≡ GettingSet c old → KeepsLists s x (with_getting s (finding.advance_set (getting s) x))
  getting_lists c old e = elim (marks_lists s.get_set.stage (getting s) x) [
    | inl same ↦ same_lists s x (with_getting s (finding.advance_set (getting s) x)) same
    | inr m ↦ ((λ _. m.3), (λ _ _. past m.0 m.1 m.2))
  ]
    where
      past : (words : ℕ) → s.get_set.stage ≡ set.Claim words → list_end s.get_set.sizes < x + words → ClaimsPastLists s x
      past words at over =
          let h = subst (is_sound_at s) e w.stage in
          let has = subst (λ (t : SetStage). finding_answers.set_goes_at t (getting s)) at h.1.stage in
          let counts = has.count in
          let most = length_normal s.found.next s.get_set.sizes.slots has.next has.within in
          let slots : s.get_set.sizes.slots ≡ s.sizes.slots = ap (λ (y : Layout). y.slots) h.2 in
          let end : list_end s.get_set.sizes ≡ list_end s.sizes = ap list_end h.2 in
          record {
            size = words;
            step = ap (step_at s) e ∙ ap (finding.set_step_at s.get_set.sizes s.get_set.head) at ∙ ap (λ (y : Layout). Some (Add (list_counter y) words)) h.2;
            few = omega (arith, counts, most, slots);
            past = omega (arith, over, end);
          }

  lists_at : (t : Stage) → s.stage ≡ t → KeepsLists s x (advance_at s t x)
  lists_at Idle e = same_lists s x s refl
  lists_at (ReadBegun j) e = same_lists s x (at_stage s (LoadingValue x)) refl
  lists_at (LoadingValue stamp) e = same_lists s x (at_stage s (Finished (Reply.Read x stamp))) refl
  lists_at (UpdateBegun c) e = cond_both (expects c x) (begin_getting s c x) (at_stage s (Finished (Reply.Changed x))) (KeepsLists s x) (λ _. same_lists s x (begin_getting s c x) refl)
      (λ _. same_lists s x (at_stage s (Finished (Reply.Changed x))) refl)
  lists_at (GettingSet c old) e =
      let q = with_getting s (finding.advance_set (getting s) x) in
      either (finding.set_step_due q.get_set) q (record q { embedded = viewing.fresh_view q.sizes true; stage = (if length q.found.indices == 0 then ClaimingRecord c old else Viewing c old) })
      (KeepsLists s x)
      (getting_lists c old e) (getting_lists c old e)
  lists_at (Viewing c old) e =
      let q = with_scanning s (viewing.advance_view s.found.indices (scanning s) x) in
      either (viewing.view_step_due s.found.indices (scanning q)) q (at_stage q (ClaimingRecord c old)) (KeepsLists s x) (same_lists s x q refl)
      (same_lists s x (at_stage q (ClaimingRecord c old)) refl)
  lists_at (ClaimingRecord c old) e = record_cases s c old x (KeepsLists s x) (λ _. same_lists s x (into_spare s c old) refl)
      (λ _ _. same_lists s x (into_claim s c old x) refl) (λ _ _. same_lists s x (pool_refused s) refl)
  lists_at (StoringRecord c old at k) e = same_lists s x (advance_at s (StoringRecord c old at k) x) refl
  lists_at (Exchanging c old at) e = same_lists s x (advance_at s (Exchanging c old at) x) refl
  lists_at ScanBegun e = cond_both (fits_pool s.sizes (announcement_size (length s.asked)) x) (at_stage s (StoringAnnouncement x 0)) (pool_refused s) (KeepsLists s x)
      (λ _. same_lists s x (at_stage s (StoringAnnouncement x 0)) refl) (λ _. same_lists s x (pool_refused s) refl)
  lists_at (StoringAnnouncement at k) e = cond_both (k == length s.asked) (begin_joining s at) (at_stage s (StoringAnnouncement at (k + 1))) (KeepsLists s x)
      (λ _. same_lists s x (begin_joining s at) refl) (λ _. same_lists s x (at_stage s (StoringAnnouncement at (k + 1))) refl)
  lists_at Joining e = by (advance_join s.join x).stage
    where
      q : CoreState
      q = record s { join = advance_join s.join x }

      by : (j : JoinStage) → KeepsLists s x (after_joining q j)
      by Claiming = same_lists s x q refl
      by (Storing slot) = same_lists s x q refl
      by (Joined slot) = same_lists s x (after_joining q (Joined slot)) refl
      by Spent = same_lists s x (slots_refused q) refl
  lists_at Scanning e =
      let q = with_scanning s (viewing.advance_view s.asked (scanning s) x) in
      either (viewing.view_step_due s.asked (scanning q)) q (at_stage q Leaving) (KeepsLists s x) (same_lists s x q refl) (same_lists s x (at_stage q Leaving) refl)
  lists_at Leaving e = same_lists s x (advance_at s Leaving x) refl
  lists_at (Finished r) e = same_lists s x s refl

pub answers_lead_on : AnswersLeadOn
answers_lead_on s x layout w possible =
    let k = kept s x layout w possible in
    let a : After s x (advance s x) = after_at s x w s.stage refl possible in
    let l = lists_at s x layout w s.stage refl in
    let t = advance s x in
    let rests = rests_replied t.stage a.ahead in
    record {
      sound = k.sound;
      sizes = k.sizes;
      port = k.port;
      asked = k.positions;
      ahead = k.ahead;
      begun = not_begun t.stage a.ahead;
      rests = rests;
      due = due_at t t.stage k.sound.stage ∙ ap not rests;
      fewer = k.fewer;
      refused_by = a.refused_by;
      pool = a.pool;
      slots = a.slots;
      lists = l.0;
      lists_by = l.1;
    }

-- a run keeps the sizes of its machine
pub run_sizes : (s t : CoreState) (xs : List ℕ) → IsLayout s.sizes → IsSound s → Run s xs t → t.sizes ≡ s.sizes
run_sizes s t [] layout sound run = ap (λ (v : CoreState). v.sizes) run
run_sizes s t (x ∷ xs) layout sound run =
    let on = answers_lead_on s x layout sound run.0 in
    run_sizes (advance s x) t xs (subst IsLayout (sym on.sizes) layout) on.sound run.1 ∙ on.sizes

unreplied_at : (s : CoreState) (t : Stage) (step : Step) → step_at s t ≡ Some step → reply_at t ≡ None
unreplied_at s (Finished r) step e = let bad : None ≡ Some step = e in cc
unreplied_at s _ step e = refl

pub due_is_unreplied : DueIsUnreplied
due_is_unreplied s step e = unreplied_at s s.stage step e
