-- Lawful words are orderly, and the due step of a port moves a slot only as it may.
use Rattle.partial_core.proofs.{Common.{ℕ, ◌≡◌, ◌≢◌, ◌+◌, ◌<◌, ◌≤◌, ◌==◌, ◌⊎◌, ◌++◌, if◌then◌else◌, Option, Some, None, IfSome, IsSome, List, ◌∷◌, length, inl, inr, refl, sym, ap, subst, ◌∙◌, arith, get_or-set_other, get_or-set_same, IsTrue, nat_lt, slice_index, ltb-true, eqb_tells, Applied, Opening, Step, Load, Store, Exchange, Add, Layout, slot_counter, list_head, pool_counter, list_counter, slot_word, list_base, word_of, words_after, announcement_block, announcement_size, list_block, length-pairs, value_word, Orderly, IsSlotMove, IsSlotOf, IsHeadOf, slot_at, JoinedAnnouncement, IsHead, Pool, Lists, Holding, ClaimedSlot, Own, Space, space_begin, unpublished, LawfulWords, IsOwn, IsTied, IsClaim, IsSlotAnswer, loads_are_true, if_some_at, join_step, fits_join, JoinStage, Claiming, Storing, Spent, Stage, CoreState, getting, record_words, step_at, step_of, is_sound_at, HasBegun, IsLedTo, IsMachineOf, core_of, holding_of, holdings, joined_since, own_list, own_at, slot_claimed, LawfulIsOrderly, PartAmong, LawfulAmong, ListWords, counter_bound, record_step, record_step_cases}, MidCalls.view_loads, Steps.{holding_in, sizes_here, sound_at, memory_here, memory_at, sound_here}, StoredFacts.length_record, Leaves.leave_due, AllSteps.{fresh_call, begin_lawful}, Parts.all_at}
use Rattle.partial_active.specs.declared.join.JoinStage.TheVariants.{Joined as JoinedIn}
use Rattle.partial_active.specs.GetSet as finding
use Rattle.partial_active.specs.GetSetAnswers.{set_goes_at}
use Rattle.partial_active.specs.declared.get_set.Stage.{Stage as SetStage}
use Rattle.partial_active.specs.declared.get_set.Stage.TheVariants.{Head, ListLen, ListLow, ListHigh, Counter, Slot, Len as NamedLen, Index as NamedIndex, Claim, Write, Publish, Done as SetDone}
use Rattle.partial_machine.specs.declared.stage.Stage.TheVariants.{Idle, ReadBegun, LoadingValue, UpdateBegun, GettingSet, Viewing, ClaimingRecord, StoringRecord, Exchanging, ScanBegun, StoringAnnouncement, Joining, Scanning, Leaving, Finished}

module _ (z : Layout) (o : Opening) (words : List ℕ) (hs : List Holding) (log : List Applied) (w : LawfulWords z o words hs log) where
  -- what stands in a slot now
  pub slot_now : (l : ℕ) → l < z.slots → IsSlotAnswer z words (unpublished hs) l (slice_index words (slot_word z l))
  slot_now l below = (loads_are_true z o words hs log (slot_word z l) w (omega (arith, below)) (λ far. absurd (omega (arith, below, far)))).slot l below refl

  slot_of : (l a : ℕ) → IsSlotAnswer z words (unpublished hs) l a → IsSlotOf z words a
  slot_of l a (inl empty) = inl empty
  slot_of l a (inr (inl vacated)) = inr (inl vacated.0)
  slot_of l a (inr (inr there)) = inr (inr (there.0, there.1.whole))

  head_of : (a : ℕ) → IsHead z words (unpublished hs) a → IsHeadOf z words a
  head_of a (inl none) = inl none
  head_of a (inr list) = inr (list.0, list.1.whole)

  pub orderly_words : Orderly z words
  orderly_words = record {
    slots = λ l below. slot_of l (slice_index words (slot_word z l)) (slot_now l below);
    unclaimed = w.unclaimed;
    head = head_of (slice_index words (list_head z)) w.head;
    lists_from = (w.counters ListWords).low;
    lists_to = counter_bound z o words hs log w ListWords;
  }

pub lawful_is_orderly : LawfulIsOrderly
lawful_is_orderly z o words parts log w = orderly_words z o words (holdings parts) log w.memory

-- What a step touches: nothing, a word before the slots, the next word of a block of its port's own, a slot that is EMPTY
-- and takes a reference, or that holds one and becomes VACATED, or a word of the lists or the pool.
abbrev pub Touches : Layout → List ℕ → Option Own → Step → Type 0
Touches z words own step =
    ((n : ℕ) × (step ≡ Load n))
    ⊎ (word_of step < slot_word z 0)
    ⊎ ((b : Own) × (v : ℕ) × (own ≡ Some b) × (b.stored < length b.words) × (step ≡ Store (b.at + b.stored) v))
    ⊎ ((l v : ℕ) × (l < z.slots) × (step ≡ Store (slot_word z l) v) × (((slice_index words (slot_word z l) ≡ 0) × (1 < v)) ⊎ ((v ≡ 1) × (1 < slice_index words (slot_word z l)))))
    ⊎ (list_base z ≤ word_of step)

-- a word that a step isn't about stays
elsewhere : (words : List ℕ) (step : Step) (n : ℕ) → n ≢ word_of step → slice_index (words_after words step) n ≡ slice_index words n
elsewhere words (Load m) n other = refl
elsewhere words (Store m v) n other = get_or-set_other words m n v 0 other
elsewhere words (Exchange m old new) n other = get_or-set_other words m n (if slice_index words m == old then new else slice_index words m) 0 other
elsewhere words (Add m k) n other = get_or-set_other words m n _ 0 other

-- a slot that was EMPTY, and one that held a reference, in orderly words
module _ (z : Layout) (words later : List ℕ) (l : ℕ) (below : l < z.slots) where
  joins : Orderly z later → slot_at z words l ≡ 0 → 1 < slot_at z later l → IsSlotMove z words later l
  joins orderly empty far = elim (orderly.slots l below) [
    | inl none ↦ absurd (omega (arith, far, none))
    | inr some ↦ elim some [ inl vacated ↦ absurd (omega (arith, far, vacated)) | inr there ↦ inr (inl (empty, there)) ]
  ]

  leaves : Orderly z words → 1 < slot_at z words l → slot_at z later l ≡ 1 → IsSlotMove z words later l
  leaves orderly far vacated = elim (orderly.slots l below) [
    | inl none ↦ absurd (omega (arith, far, none))
    | inr some ↦ elim some [ inl one ↦ absurd (omega (arith, far, one)) | inr there ↦ inr (inr (there, vacated)) ]
  ]

module _ (z : Layout) (o : Opening) (words : List ℕ) (before : List Holding) (h : Holding) (after : List Holding) (log : List Applied) (w : LawfulWords z o words (before ++ h ∷ after) log) where
  -- a word of one's own block lies among the list words or the pool's
  own_far : (b : Own) → h.own ≡ Some b → list_base z ≤ b.at
  own_far b is =
      let tied = all_at (IsTied z words) before h after w.tied in
      let own : IsOwn z words b = if_some_at (IsOwn z words) h.own b is tied.own in
      far b.space own.above
    where
      far : (s : Space) → space_begin z s ≤ b.at → list_base z ≤ b.at
      far Pool above = omega (arith, above)
      far Lists above = above

  pub slot_moves : (step : Step) → Orderly z (words_after words step) → Touches z words h.own step → (l : ℕ) → l < z.slots → IsSlotMove z words (words_after words step) l
  slot_moves step later (inl load) l below = inl (ap (λ (s : Step). slot_at z (words_after words s) l) load.1)
  slot_moves step later (inr (inl low)) l below = inl (elsewhere words step (slot_word z l) (λ same. omega (arith, low, same)))
  slot_moves step later (inr (inr (inl own))) l below =
      let from = own_far own.0 own.2 in
      let is : word_of step ≡ own.0.at + own.0.stored = ap word_of own.4 in
      inl (elsewhere words step (slot_word z l) (λ same. omega (arith, from, is, below, same)))
  slot_moves step later (inr (inr (inr (inr far)))) l below = inl (elsewhere words step (slot_word z l) (λ same. omega (arith, far, below, same)))
  slot_moves step later (inr (inr (inr (inl slot)))) l below =
      let n = slot.0 in
      let v = slot.1 in
      let inside = slot.2 in
      let is : word_of step ≡ slot_word z n = ap word_of slot.3 in
      let count = w.count in
      elim (eqb_tells l n) [
        | inl same ↦
            let stored : slot_at z (words_after words step) l ≡ v = ap (λ m. slice_index (words_after words step) (slot_word z m)) same.1
            ∙ ap (λ (s : Step). slice_index (words_after words s) (slot_word z n)) slot.3 ∙ get_or-set_same words (slot_word z n) v 0 (omega (arith, inside, count)) in
            let was : slot_at z words l ≡ slice_index words (slot_word z n) = ap (λ m. slice_index words (slot_word z m)) same.1 in
            elim slot.4 [
              | inl join ↦ let far = join.1 in joins z words (words_after words step) l below later (was ∙ join.0) (omega (arith, stored, far))
              | inr leave ↦ let far = leave.1 in leaves z words (words_after words step) l below (orderly_words z o words (before ++ h ∷ after) log w) (omega (arith, was, far)) (stored ∙ leave.0)
            ]
        | inr other ↦ let differs = other.1 in inl (elsewhere words step (slot_word z l) (λ same. differs (omega (arith, is, same))))
      ]

-- two names of a step that touches something
touches_same : (z : Layout) (words : List ℕ) (own : Option Own) (a b : Step) → Some a ≡ Some b → Touches z words own a → Touches z words own b
touches_same z words own a b e w = let is : a ≡ b = cc in subst (Touches z words own) is w

-- what a getSet's step touches
set_touches : (z y : Layout) (words : List ℕ) (head : ℕ) (st : SetStage) (p : finding.SetPair) (step : Step) → y ≡ z → set_goes_at st p → finding.set_step_at y head st ≡ Some step →
    Touches z words (own_list p.1.next st) step
set_touches z y words head Head p step e goes due = touches_same z words None (Load (list_head y)) step due (inl (list_head y, refl))
set_touches z y words head (ListLen at) p step e goes due = touches_same z words None (Load at) step due (inl (at, refl))
set_touches z y words head (ListLow at left) p step e goes due = touches_same z words None (Load at) step due (inl (at, refl))
set_touches z y words head (ListHigh at left lo) p step e goes due = touches_same z words None (Load at) step due (inl (at, refl))
set_touches z y words head Counter p step e goes due = touches_same z words None (Load (slot_counter y)) step due (inl (slot_counter y, refl))
set_touches z y words head (Slot slot) p step e goes due = touches_same z words None (Load (slot_word y slot)) step due (inl (slot_word y slot, refl))
set_touches z y words head (NamedLen slot at) p step e goes due = touches_same z words None (Load at) step due (inl (at, refl))
set_touches z y words head (NamedIndex slot at left) p step e goes due = touches_same z words None (Load at) step due (inl (at, refl))
set_touches z y words head (Claim count) p step e goes due = touches_same z words None (Add (list_counter y) count) step due (inr (inl (let m = ap (λ (l : Layout). l.m) e in omega (arith, m))))
set_touches z y words head (Write at k count word) p step e goes due =
    let next : Option Own = Some (record { space = Lists; at = at; words = list_block p.1.next; stored = k }) in
    let size = length-pairs p.1.next in
    let total_is = goes.0.count in
    let less = goes.1 in
    touches_same z words next (Store (at + k) word) step due (inr (inr
    (inl (record { space = Lists; at = at; words = list_block p.1.next; stored = k }, word, refl, omega (arith, size, total_is, less), refl))))
set_touches z y words head (Publish at) p step e goes due = touches_same z words (own_list p.1.next (Publish at)) (Exchange (list_head y) head at) step due
    (inr (inl (let m = ap (λ (l : Layout). l.m) e in omega (arith, m))))
set_touches z y words head SetDone p step e goes due = let bad : None ≡ Some step = due in absurd cc

module _ (z : Layout) (o : Opening) (m : PartAmong) (w : LawfulAmong z o m) where
  open m use {words, before, part as x, after, log}

  abbrev s : CoreState
  s = core_of x

  sizes : s.sizes ≡ z
  sizes = sizes_here z o m w

  of_size : (P : Layout → Type 0) → P s.sizes → P z
  of_size P p = subst P sizes p

  -- a join's step touches a counter, or the slot that it has claimed
  join_touches : (step : Step) (i : JoinStage) → s.stage ≡ Joining → s.join.stage ≡ i → step_at s Joining ≡ Some step → Touches z words (own_at s Joining) step
  join_touches step i e at due = by_stage i at
    where
      sound : is_sound_at (core_of x) Joining
      sound = sound_at z o m w Joining e

      join_sizes : (core_of x).join.sizes ≡ z
      join_sizes = sound.2 ∙ sizes_here z o m w

      by_stage : (i : JoinStage) → s.join.stage ≡ i → Touches z words (own_at s Joining) step
      by_stage Claiming is =
          let due' : Some (Add (slot_counter s.join.sizes) 1) ≡ Some step = sym (ap (λ (j : JoinStage). join_step s.join.sizes s.join.announcement j) is) ∙ due in
          touches_same z words (own_at s Joining) (Add (slot_counter s.join.sizes) 1) step due' (inr (inl (let m = ap (λ (l : Layout). l.m) join_sizes in omega (arith, m))))
      by_stage (Storing slot) is =
          let due' : Some (Store (slot_word s.join.sizes slot) s.join.announcement) ≡ Some step = sym (ap (λ (j : JoinStage). join_step s.join.sizes s.join.announcement j) is) ∙ due in
          let fits : IsTrue (nat_lt slot s.join.sizes.slots) = subst (λ (j : JoinStage). IsTrue (fits_join s.join.sizes j)) is sound.5 in
          let below : slot < z.slots = subst (λ (y : Layout). slot < y.slots) join_sizes (ltb-true slot s.join.sizes.slots fits) in
          let memory = memory_at z o m w Joining e in
          let held = holding_in s Joining (joined_since x) in
          let claim : IfSome held.claimed (IsClaim z words (holdings before ++ held ∷ holdings after) log) =
          all_at (λ (g : Holding). IfSome g.claimed (IsClaim z words (holdings before ++ held ∷ holdings after) log)) (holdings before) held (holdings after) memory.claims in
          let mine : IsClaim z words (holdings before ++ held ∷ holdings after) log (record { slot = slot; joined = None }) =
          if_some_at (IsClaim z words (holdings before ++ held ∷ holdings after) log) held.claimed (record { slot = slot; joined = None }) (ap slot_claimed is) claim in
          let block : Own = record { space = Pool; at = s.join.announcement; words = announcement_block s.asked; stored = announcement_size (length s.asked) } in
          let far : list_base z ≤ s.join.announcement = own_far z o words (holdings before) held (holdings after) log memory block refl in
          let is' : Store (slot_word s.join.sizes slot) s.join.announcement ≡ Store (slot_word z slot) s.join.announcement
          = ap (λ (y : Layout). Store (slot_word y slot) s.join.announcement) join_sizes in
          touches_same z words (own_at s Joining) (Store (slot_word s.join.sizes slot) s.join.announcement) step due'
          (inr (inr (inr (inl (slot, s.join.announcement, below, is', inl (mine.holds, omega (arith, far)))))))
      by_stage (JoinedIn slot) is = let bad : None ≡ Some step = sym (ap (λ (j : JoinStage). join_step s.join.sizes s.join.announcement j) is) ∙ due in absurd cc
      by_stage Spent is = let bad : None ≡ Some step = sym (ap (λ (j : JoinStage). join_step s.join.sizes s.join.announcement j) is) ∙ due in absurd cc

  touches_at : (t : Stage) (step : Step) → s.stage ≡ t → step_at s t ≡ Some step → Touches z words (own_at s t) step
  touches_at Idle step e due = let bad : None ≡ Some step = due in absurd cc
  touches_at (ReadBegun j) step e due = touches_same z words None (Load j) step due (inl (j, refl))
  touches_at (LoadingValue stamp) step e due = touches_same z words None (Load (value_word stamp)) step due (inl (value_word stamp, refl))
  touches_at (UpdateBegun c) step e due = touches_same z words None (Load c.component) step due (inl (c.component, refl))
  touches_at (GettingSet c old) step e due = let sound = sound_at z o m w (GettingSet c old) e in set_touches z s.get_set.sizes words s.get_set.head s.get_set.stage
      (getting s) step (sound.2 ∙ sizes) sound.1.stage due
  touches_at (Viewing c old) step e due = let load = view_loads s.embedded.sizes s.found.indices s.rows.last s.embedded.stage (subst (λ (f : Option Step). IsSome f) (sym due) refl) in touches_same z
      words None (Load load.0) step (sym load.1 ∙ due) (inl (load.0, refl))
  touches_at (ClaimingRecord c old) step e due = touches_same z words None (record_step s old) step due
      (record_step_cases s old (Touches z words None)
      (λ some. inr (inr (inr (inr (let from = (sound_here z o m w).spare.0 in of_size (λ (y : Layout). list_base y ≤ (core_of x).spare.at) (omega (arith, from)))))))
      (λ none. inr (inl (let m = ap (λ (l : Layout). l.m) sizes in omega (arith, m)))))
  touches_at (StoringRecord c old at k) step e due =
      let sound = sound_at z o m w (StoringRecord c old at k) e in
      let less = sound.2 in
      let size = length_record s c old at in
      touches_same z words (own_at s (StoringRecord c old at k)) (Store (at + k) (slice_index (record_words s c old at) k)) step due
      (inr (inr (inl (record { space = Pool; at = at; words = record_words s c old at; stored = k }, slice_index (record_words s c old at) k, refl, omega (arith, size, less), refl))))
  touches_at (Exchanging c old at) step e due =
      let below : c.component < z.m = of_size (λ (y : Layout). c.component < y.m) (sound_at z o m w (Exchanging c old at) e).0.0 in
      touches_same z words (own_at s (Exchanging c old at)) (Exchange c.component old at) step due (inr (inl (omega (arith, below))))
  touches_at ScanBegun step e due = touches_same z words None (Add (pool_counter s.sizes) (announcement_size (length s.asked))) step due
      (inr (inl (let m = ap (λ (l : Layout). l.m) sizes in omega (arith, m))))
  touches_at (StoringAnnouncement at k) step e due =
      let sound = sound_at z o m w (StoringAnnouncement at k) e in
      let less = sound.3 in
      touches_same z words (own_at s (StoringAnnouncement at k)) (Store (at + k) (slice_index (announcement_block s.asked) k)) step due
      (inr (inr (inl (record { space = Pool; at = at; words = announcement_block s.asked; stored = k }, slice_index (announcement_block s.asked) k, refl, omega (arith, less), refl))))
  touches_at Joining step e due = join_touches step s.join.stage e refl due
  touches_at Scanning step e due = let load = view_loads s.embedded.sizes s.asked s.rows.last s.embedded.stage (subst (λ (f : Option Step). IsSome f) (sym due) refl) in touches_same z words None
      (Load load.0) step (sym load.1 ∙ due) (inl (load.0, refl))
  touches_at Leaving step e due =
      let sound = sound_at z o m w Leaving e in
      let below : s.leave.slot < z.slots = of_size (λ (y : Layout). s.leave.slot < y.slots) sound.1 in
      let memory = memory_at z o m w Leaving e in
      let held = holding_in s Leaving (joined_since x) in
      let hs = holdings before ++ held ∷ holdings after in
      let announced : JoinedAnnouncement = record { at = s.join.announcement; indices = s.asked; since = joined_since x } in
      let claim : IfSome held.claimed (IsClaim z words hs log)
      = all_at (λ (g : Holding). IfSome g.claimed (IsClaim z words hs log)) (holdings before) held (holdings after) memory.claims in
      let taken : ClaimedSlot = record { slot = s.leave.slot; joined = Some announced } in
      let mine : IsClaim z words hs log taken = if_some_at (IsClaim z words hs log) held.claimed taken refl claim in
      let stands = mine.holds in
      let same = stands.0 in
      let from = stands.2.whole.from in
      touches_same z words None (Store (slot_word z s.leave.slot) 1) step (sym (leave_due z o m w e) ∙ due)
      (inr (inr (inr (inl (s.leave.slot, 1, below, refl, inr (refl, omega (arith, same, from)))))))
  touches_at (Finished r) step e due = let bad : None ≡ Some step = due in absurd cc

  core_moves : (step : Step) → step_of s ≡ Some step → Orderly z (words_after words step) → (l : ℕ) → l < z.slots → IsSlotMove z words (words_after words step) l
  core_moves step due later = slot_moves z o words (holdings before) (holding_of x) (holdings after) log (memory_here z o m w) step later (touches_at s.stage step refl due)

-- the due step of a port moves a slot only as it may
pub steps_move_slots : (z : Layout) (o : Opening) (m : PartAmong) (c : CoreState) (step : Step) → LawfulAmong z o m → IsMachineOf c m.part → step_of c ≡ Some step →
    Orderly z (words_after m.words step) → (l : ℕ) → l < z.slots → IsSlotMove z m.words (words_after m.words step) l
steps_move_slots z o m c step w its due later = by its
  where
    by : HasBegun c m.part ⊎ IsLedTo c m.part → (l : ℕ) → l < z.slots → IsSlotMove z m.words (words_after m.words step) l
    by (inl h) = core_moves z o (record m { part = fresh_call c m.part }) (begin_lawful z o m w c h) step due later
    by (inr l) = core_moves z o m w step (ap step_of (sym l.is) ∙ due) later
