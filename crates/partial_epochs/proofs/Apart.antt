-- No due step stores or adds to a component word, and an exchange of one is of two references; the pool's counter grows by claims alone.
use Rattle.partial_epochs.proofs.Common.{ℕ, ◌≡◌, ◌<◌, ◌≤◌, ◌⊎◌, Bool, true, false, if◌then◌else◌, Some, None, IfSome, List, [], length, refl, sym, ap, subst, ◌∙◌, inl, inr, arith, ⊤, is_some, Opening, all_at, some_same, Step, Load, Store, Exchange, Add, Layout, IsLayout, slot_counter, slot_word, list_base, list_head, list_counter, pool_counter, CoreState, record_step, step_at, step_of, is_begun, IsSound, is_sound_at, Holding, IsOwn, IsTied, IsMachineOf, core_of, PartAmong, holdings, joined_since, own_list, lawful_machines_are_ready, seal, announcement_size, join_step, JoinStage, Claiming, Storing, Joined, Spent, Change, Stage, Idle, ReadBegun, LoadingValue, UpdateBegun, GettingSet, Viewing, ClaimingRecord, StoringRecord, Exchanging, ScanBegun, StoringAnnouncement, Joining, Scanning, Leaving, Finished, record_step_cases, size_few, view_loads, holding_in, memory_at, sizes_here, sound_at, sound_here}
use Rattle.partial_words.specs.Layout.{greatest_claim}
use Rattle.partial_active.specs.declared.get_set.Stage.{Stage as SetStage}
use Rattle.partial_active.specs.declared.get_set.Stage.TheVariants as set
use Rattle.partial_active.specs.GetSet as finding
use Rattle.partial_embedded.specs.declared.embedded.Stage.{Stage as ViewStage}
use Rattle.partial_embedded.specs.Embedded as viewing
use Rattle.partial_core.specs.Lawful.{LawfulAmong}

abbrev pub IsApart : Layout → Step → Type 0
IsApart z (Load w) = ⊤
IsApart z (Store w v) = slot_word z 0 ≤ w
IsApart z (Exchange w old new) = ((w < z.m) × (old < seal) × (new < seal)) ⊎ (w ≡ list_head z)
IsApart z (Add w n) = (w ≡ slot_counter z) ⊎ (w ≡ list_counter z) ⊎ ((w ≡ pool_counter z) × (n ≤ greatest_claim z))

-- a call that begins
begun_apart : (s : CoreState) (t : Stage) (step : Step) → is_begun t ≡ true → IsSound s → step_at s t ≡ Some step → IsApart s.sizes step
begun_apart s (ReadBegun j) step b w e = subst (IsApart s.sizes) (some_same e) tt
begun_apart s (UpdateBegun c) step b w e = subst (IsApart s.sizes) (some_same e) tt
begun_apart s ScanBegun step b w e = let few = w.asked.few in subst (IsApart s.sizes) (some_same e) (inr (inr (refl, omega (arith, few))))
begun_apart s Idle step b w e = absurd cc
begun_apart s (LoadingValue stamp) step b w e = absurd cc
begun_apart s (GettingSet c old) step b w e = absurd cc
begun_apart s (Viewing c old) step b w e = absurd cc
begun_apart s (ClaimingRecord c old) step b w e = absurd cc
begun_apart s (StoringRecord c old at k) step b w e = absurd cc
begun_apart s (Exchanging c old at) step b w e = absurd cc
begun_apart s (StoringAnnouncement at k) step b w e = absurd cc
begun_apart s Joining step b w e = absurd cc
begun_apart s Scanning step b w e = absurd cc
begun_apart s Leaving step b w e = absurd cc
begun_apart s (Finished r) step b w e = absurd cc

getting_apart : (y : Layout) (head : ℕ) (t : SetStage) (step : Step) → ((at k count word : ℕ) → t ≡ set.Write at k count word → list_base y ≤ at) → finding.set_step_at y head t ≡ Some step →
    IsApart y step
getting_apart y head set.Head step own e = subst (IsApart y) (some_same e) tt
getting_apart y head (set.ListLen at) step own e = subst (IsApart y) (some_same e) tt
getting_apart y head (set.ListLow at left) step own e = subst (IsApart y) (some_same e) tt
getting_apart y head (set.ListHigh at left lo) step own e = subst (IsApart y) (some_same e) tt
getting_apart y head set.Counter step own e = subst (IsApart y) (some_same e) tt
getting_apart y head (set.Slot slot) step own e = subst (IsApart y) (some_same e) tt
getting_apart y head (set.Len slot at) step own e = subst (IsApart y) (some_same e) tt
getting_apart y head (set.Index slot at left) step own e = subst (IsApart y) (some_same e) tt
getting_apart y head (set.Claim count) step own e = subst (IsApart y) (some_same e) (inr (inl refl))
getting_apart y head (set.Write at k count word) step own e = let above = own at k count word refl in subst (IsApart y) (some_same e) (omega (arith, above))
getting_apart y head (set.Publish at) step own e = subst (IsApart y) (some_same e) (inr refl)
getting_apart y head set.Done step own e = absurd cc

viewing_apart : (z y : Layout) (indices last : List ℕ) (t : ViewStage) (step : Step) → viewing.view_step_at y indices last t ≡ Some step → IsApart z step
viewing_apart z y indices last t step e = let load = view_loads y indices last t (ap is_some e) in subst (IsApart z) (some_same (sym load.1 ∙ e)) tt

joining_apart : (y : Layout) (at : ℕ) (t : JoinStage) (step : Step) → join_step y at t ≡ Some step → IsApart y step
joining_apart y at Claiming step e = subst (IsApart y) (some_same e) (inl refl)
joining_apart y at (Storing slot) step e = subst (IsApart y) (some_same e) (omega arith)
joining_apart y at (Joined slot) step e = absurd cc
joining_apart y at Spent step e = absurd cc

leaving_apart : (y : Layout) (slot : ℕ) (b : Bool) (step : Step) → (if b then None else Some (Store (slot_word y slot) 1)) ≡ Some step → IsApart y step
leaving_apart y slot true step e = absurd cc
leaving_apart y slot false step e = subst (IsApart y) (some_same e) (omega arith)

module _ (z : Layout) (o : Opening) (m : PartAmong) (w : LawfulAmong z o m) where
  open m use {words, before, part as x, after}

  -- the list that a getSet writes lies in the list words
  list_above : (c : Change) (old : ℕ) → (core_of x).stage ≡ GettingSet c old → (at k count word : ℕ) → (core_of x).get_set.stage ≡ set.Write at k count word → list_base z ≤ at
  list_above c old e at k count word is =
      let memory = memory_at z o m w (GettingSet c old) e in
      let held : Holding = holding_in (core_of x) (GettingSet c old) (joined_since x) in
      let tied = all_at (IsTied z words) (holdings before) held (holdings after) memory.tied in
      let own : IfSome (own_list (core_of x).found.next (set.Write at k count word)) (IsOwn z words) =
      subst (λ (t : SetStage). IfSome (own_list (core_of x).found.next t) (IsOwn z words)) is tied.own in
      own.above

  apart_at : (t : Stage) (step : Step) → (core_of x).stage ≡ t → step_at (core_of x) t ≡ Some step → IsApart z step
  apart_at t step is e =
      let sizes = sizes_here z o m w in
      let sound = sound_here z o m w in
      let here = sound_at z o m w t is in
      by t is here sizes sound e
    where
      to : (y : Layout) → y ≡ z → (u : Step) → Some u ≡ Some step → IsApart y u → IsApart z step
      to y sizes u e h = subst (λ (l : Layout). IsApart l step) sizes (subst (IsApart y) (some_same e) h)

      by : (t : Stage) → (core_of x).stage ≡ t → is_sound_at (core_of x) t → (core_of x).sizes ≡ z → IsSound (core_of x) → step_at (core_of x) t ≡ Some step → IsApart z step
      by Idle is here sizes sound e = absurd cc
      by (ReadBegun j) is here sizes sound e = subst (IsApart z) (some_same e) tt
      by (LoadingValue stamp) is here sizes sound e = subst (IsApart z) (some_same e) tt
      by (UpdateBegun c) is here sizes sound e = subst (IsApart z) (some_same e) tt
      by (GettingSet c old) is here sizes sound e =
          let same : (core_of x).get_set.sizes ≡ z = here.2 ∙ sizes in
          subst (λ (l : Layout). IsApart l step) same (getting_apart (core_of x).get_set.sizes (core_of x).get_set.head (core_of x).get_set.stage step
          (λ at k count word u. subst (λ (l : Layout). list_base l ≤ at) (sym same) (list_above c old is at k count word u)) e)
      by (Viewing c old) is here sizes sound e = viewing_apart z (core_of x).embedded.sizes (core_of x).found.indices (core_of x).rows.last (core_of x).embedded.stage step e
      by (ClaimingRecord c old) is here sizes sound e =
          let few = (size_few (core_of x) sound.indices.few).1 in
          let ahead = sound.ahead in
          let from = sound.spare.0 in
          to (core_of x).sizes sizes (record_step (core_of x) old) e
          (record_step_cases (core_of x) old (IsApart (core_of x).sizes) (λ some. omega (arith, from)) (λ none. inr (inr (refl, omega (arith, few, ahead)))))
      by (StoringRecord c old at k) is here sizes sound e =
          let low = here.1.0 in
          let s : List ℕ = [] in
          subst (λ (l : Layout). IsApart l step) sizes (subst (IsApart (core_of x).sizes) (some_same e) (omega (arith, low)))
      by (Exchanging c old at) is here sizes sound e =
          let size = (size_few (core_of x) sound.indices.few).0 in
          let inside = here.0.0 in
          let record_in = here.0.1.1 in
          let block_in = here.1.1 in
          let layout : IsLayout (core_of x).sizes = subst IsLayout (sym sizes) w.memory.sizes in
          let m = layout.components.1 in
          let slots = layout.slots.1 in
          let lists = layout.lists in
          let pool = layout.pool.1 in
          subst (λ (l : Layout). IsApart l step) sizes (subst (IsApart (core_of x).sizes) (some_same e)
          (inl (inside, omega (arith, record_in, m, slots, lists, pool), omega (arith, block_in, size, m, slots, lists, pool))))
      by ScanBegun is here sizes sound e =
          let few = sound.asked.few in
          to (core_of x).sizes sizes (Add (pool_counter (core_of x).sizes) (announcement_size (length (core_of x).asked))) e (inr (inr (refl, omega (arith, few))))
      by (StoringAnnouncement at k) is here sizes sound e =
          let low = here.2.0 in
          subst (λ (l : Layout). IsApart l step) sizes (subst (IsApart (core_of x).sizes) (some_same e) (omega (arith, low)))
      by Joining is here sizes sound e =
          subst (λ (l : Layout). IsApart l step) (here.2 ∙ sizes) (joining_apart (core_of x).join.sizes (core_of x).join.announcement (core_of x).join.stage step e)
      by Scanning is here sizes sound e = viewing_apart z (core_of x).embedded.sizes (core_of x).asked (core_of x).rows.last (core_of x).embedded.stage step e
      by Leaving is here sizes sound e =
          subst (λ (l : Layout). IsApart l step) (here.0 ∙ sizes) (leaving_apart (core_of x).leave.sizes (core_of x).leave.slot (core_of x).leave.left step e)
      by (Finished r) is here sizes sound e = absurd cc

  -- of each machine of a port
  pub due_apart : (c : CoreState) (step : Step) → IsMachineOf c x → step_of c ≡ Some step → IsApart z step
  due_apart c step (inl begun) due =
      let ready = lawful_machines_are_ready z o m c w (inl begun) in
      subst (λ (l : Layout). IsApart l step) ready.sizes (begun_apart c c.stage step begun.begun ready.sound due)
  due_apart c step (inr led) due = apart_at (core_of x).stage step refl (ap step_of (sym led.is) ∙ due)
