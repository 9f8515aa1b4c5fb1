-- The steps of a join: the claim of a slot, and the store of the announcement in it.
use Rattle.partial_core.proofs.{Common.{ℕ, ◌≡◌, ◌+◌, ◌<◌, ◌≤◌, ◌++◌, Bool, true, false, if◌then◌else◌, Some, None, List, [], ◌∷◌, length, slice_index, refl, sym, ap, subst, ◌∙◌, arith, nat_lt, IsTrue, ltb-true, ltb-false, Applied, Opening, MayBeRefused, Step, Store, Add, Layout, slot_word, slot_counter, words_after, join_step, join_after, fits_join, JoinStage, Claiming, Storing, Spent, Stage, ScanBegun, Joining, CoreState, advance_at, step_at, after_joining, slots_refused, reply_at, IsSound, is_sound_at, Holding, State, Keeps, drops_are_kept, slot_claims_are_kept, joins_are_kept, core_of, holding_of, holding_at, holdings, joined_since, is_storing, joins_at, call_at, AreNotesOf, PartAmong, LawfulAmong, Slots, counter_bound, most_ports, refusals_are_kept}, Parts.{LawfulWith, IsKeptAmong, gone}, Leaves.names_all, Steps.{LeadsAt, holding_in, known_here, sizes_here, sound_here, sound_at, memory_at, going, quiet}}
use Rattle.partial_model.specs.declared.call.{Call.Call, Refused.Refused}
use Rattle.partial_active.specs.declared.join.JoinStage.TheVariants.{Joined as JoinedIn}

-- one kind of step after another
pub keeps_then : (z : Layout) (o : Opening) (a b c : State) → Keeps z o a b → Keeps z o b c → Keeps z o a c
keeps_then z o a b c f g = record { lawful = g.lawful; loads = λ n k l. g.loads n k (f.loads n k l) }

-- two names of one step
pub same_step : {a b : Step} → Some a ≡ Some b → a ≡ b
same_step {a} {b} e = cc

-- a scan of some positions may be refused for want of slots
scan_refused : (s : CoreState) → IsSound s → is_sound_at s ScanBegun → MayBeRefused s.sizes.m (Call.Scan s.asked) Refused.SlotsSpent
scan_refused s sound may = (names_all s.sizes.m s.asked sound.asked.each, may.0)

module _ (z : Layout) (o : Opening) (m : PartAmong) (w : LawfulAmong z o m)
    (e : (core_of m.part).stage ≡ Joining) where
  open m use {words, before, part as x, after, log}

  abbrev s : CoreState
  s = core_of x

  -- the join's sizes are the memory's
  join_sizes : s.join.sizes ≡ z
  join_sizes = (sound_at z o m w Joining e).2 ∙ sizes_here z o m w

  -- what the part holds, with its stage named
  kept_here : (words' : List ℕ) (h : Holding) (log' : List Applied) → IsKeptAmong z o m (holding_in s Joining (joined_since x)) words' h log' →
      IsKeptAmong z o m (holding_of x) words' h log'
  kept_here words' h log' k = subst (λ (u : Stage). IsKeptAmong z o m (holding_in s u (joined_since x)) words' h log') (sym e) k

  -- what the join at a stage holds
  abbrev held : JoinStage → Holding
  held i = holding_in (record s { join = record s.join { stage = i } }) Joining (joined_since x)

  -- the slot counter is claimed
  module _ (at : s.join.stage ≡ Claiming) where
    due : step_at s Joining ≡ Some (Add (slot_counter z) 1)
    due = ap (λ (i : JoinStage). join_step s.join.sizes s.join.announcement i) at ∙ ap (λ (y : Layout). Some (Add (slot_counter y) 1)) join_sizes

    leads : (b : Bool) → nat_lt (slice_index words (slot_counter z)) s.join.sizes.slots ≡ b →
        advance_at s Joining (slice_index words (slot_counter z))
        ≡ (let j = (if b then Storing (slice_index words (slot_counter z)) else Spent) in after_joining (record s { join = record s.join { stage = j } }) j)
    leads b is = ap (λ (i : JoinStage). let j = join_after s.join.sizes i (slice_index words (slot_counter z)) in after_joining (record s { join = record s.join { stage = j } }) j) at
        ∙ ap (λ (c : Bool). let j = (if c then Storing (slice_index words (slot_counter z)) else Spent) in after_joining (record s { join = record s.join { stage = j } }) j) is

    not_storing : joins_at s Joining ≡ false
    not_storing = ap is_storing at

    possible : slice_index words (slot_counter z) ≤ s.sizes.slots + most_ports
    possible = subst (λ (y : Layout). slice_index words (slot_counter z) ≤ y.slots + most_ports) (sym (sizes_here z o m w))
        (counter_bound z o words (holdings (before ++ x ∷ after)) log w.memory Slots)

    inside : slot_counter z < length words
    inside = let count = w.memory.count in omega (arith, count)

    since_same : (t : CoreState) → holding_at t (if joins_at s Joining then length log else joined_since x) ≡ holding_at t (joined_since x)
    since_same t = ap (λ (b : Bool). holding_at t (if b then length log else joined_since x)) not_storing

    -- a slot is there
    claimed : nat_lt (slice_index words (slot_counter z)) s.join.sizes.slots ≡ true → LeadsAt z o m Joining (Add (slot_counter z) 1)
    claimed room =
        let n = slice_index words (slot_counter z) in
        let t : CoreState = record s { join = record s.join { stage = Storing n } } in
        let below : n < z.slots = subst (λ (y : Layout). n < y.slots) join_sizes (ltb-true n s.join.sizes.slots room) in
        let memory = subst (λ (h : Holding). LawfulWith z o m h) (ap held at) (memory_at z o m w Joining e) in
        let keeps = slot_claims_are_kept z o words (holdings before) (held Claiming) (holdings after) log memory refl below in
        let keeps_x = kept_here (words_after words (Add (slot_counter z) 1)) (held (Storing n)) log
        (subst (λ (h : Holding). IsKeptAmong z o m h (words_after words (Add (slot_counter z) 1)) (held (Storing n)) log) (sym (ap held at)) keeps) in
        quiet z o m w Joining (Add (slot_counter z) 1) t (held (Storing n)) e due (leads true room) refl inside possible
        (since_same t ∙ ap (λ (u : Stage). holding_in t u (joined_since x)) e) keeps_x (λ ks is. tt) refl
        (subst (λ (u : Stage). AreNotesOf o (gone x log n []) (reply_at u) []) (sym e) refl)

    -- all slots were claimed before
    spent : nat_lt (slice_index words (slot_counter z)) s.join.sizes.slots ≡ false → LeadsAt z o m Joining (Add (slot_counter z) 1)
    spent over =
        let n = slice_index words (slot_counter z) in
        let t : CoreState = slots_refused (record s { join = record s.join { stage = Spent } }) in
        let above : z.slots ≤ n = subst (λ (y : Layout). y.slots ≤ n) join_sizes (ltb-false n s.join.sizes.slots over) in
        let memory = subst (λ (h : Holding). LawfulWith z o m h) (ap held at) (memory_at z o m w Joining e) in
        let words' = words_after words (Add (slot_counter z) 1) in
        let marked : Holding = record (held Claiming) { slots_spent = true } in
        let dropped : Holding = record marked { own = None; due = None } in
        let marks = refusals_are_kept z o words (holdings before) (held Claiming) (holdings after) log Slots 1 memory (sound_at z o m w Joining e).1 (omega arith) (omega (arith, above)) in
        let drops = drops_are_kept z o words' (holdings before) marked (holdings after) log marks.lawful in
        let keeps : IsKeptAmong z o m (held Claiming) words' dropped log =
        keeps_then z o (record { words = words; holdings = holdings before ++ held Claiming ∷ holdings after; log = log })
        (record { words = words'; holdings = holdings before ++ marked ∷ holdings after; log = log })
        (record { words = words'; holdings = holdings before ++ dropped ∷ holdings after; log = log }) marks drops in
        let keeps_x = kept_here words' dropped log (subst (λ (h : Holding). IsKeptAmong z o m h words' dropped log) (sym (ap held at)) keeps) in
        let g = going z o m w Joining e refl refl in
        let known = g.knows in
        let k = known_here z o m w in
        let begun = subst (is_sound_at x.begun) known.called k.sound.stage in
        quiet z o m w Joining (Add (slot_counter z) 1) t dropped e due (leads false over) refl inside possible (since_same t) keeps_x (λ ks is. tt) refl
        (record { none = refl; call = Call.Scan x.begun.asked; made = ap (call_at x.begun) known.called; may = scan_refused x.begun k.sound begun })

    pub slot_claimed : LeadsAt z o m Joining (Add (slot_counter z) 1)
    slot_claimed = either (nat_lt (slice_index words (slot_counter z)) s.join.sizes.slots) refl
      where
        either : (b : Bool) → nat_lt (slice_index words (slot_counter z)) s.join.sizes.slots ≡ b → LeadsAt z o m Joining (Add (slot_counter z) 1)
        either true is = claimed is
        either false is = spent is

  -- the announcement is stored in the slot: the port joins
  pub announcement_joined : (slot : ℕ) → s.join.stage ≡ Storing slot → LeadsAt z o m Joining (Store (slot_word z slot) s.join.announcement)
  announcement_joined slot at =
      let t : CoreState = after_joining (record s { join = record s.join { stage = JoinedIn slot } }) (JoinedIn slot) in
      let sound = sound_at z o m w Joining e in
      let fits : IsTrue (nat_lt slot s.join.sizes.slots) = subst (λ (i : JoinStage). IsTrue (fits_join s.join.sizes i)) at sound.5 in
      let below : slot < z.slots = subst (λ (y : Layout). slot < y.slots) join_sizes (ltb-true slot s.join.sizes.slots fits) in
      let memory = subst (λ (h : Holding). LawfulWith z o m h) (ap held at) (memory_at z o m w Joining e) in
      let all = sound_here z o m w in
      let sizes = sizes_here z o m w in
      let few : length s.asked ≤ z.m = subst (λ (y : Layout). length s.asked ≤ y.m) sizes all.asked.few in
      let words' = words_after words (Store (slot_word z slot) s.join.announcement) in
      let keeps = joins_are_kept z o words (holdings before) (held (Storing slot)) (holdings after) log slot s.join.announcement s.asked memory refl refl refl few
      (λ i lt. subst (λ (y : Layout). slice_index s.asked i < y.m) sizes (all.asked.each i lt)) in
      let keeps_x = kept_here words' (holding_at t (length log)) log (subst (λ (h : Holding). IsKeptAmong z o m h words' (holding_at t (length log)) log)
      (sym (ap held at)) keeps) in
      let count = w.memory.count in
      let due : step_at s Joining ≡ Some (Store (slot_word z slot) s.join.announcement) = ap (λ (i : JoinStage). join_step s.join.sizes s.join.announcement i) at ∙
      ap (λ (y : Layout). Some (Store (slot_word y slot) s.join.announcement)) join_sizes in
      quiet z o m w Joining (Store (slot_word z slot) s.join.announcement) t (holding_at t (length log)) e due
      (ap (λ (i : JoinStage). let j = join_after s.join.sizes i 0 in after_joining (record s { join = record s.join { stage = j } }) j) at) refl (omega (arith, below, count)) (omega arith)
      (ap (λ (b : Bool). holding_at t (if b then length log else joined_since x)) (ap is_storing at)) keeps_x (λ ks is. tt) refl refl

  -- a join that isn't finished
  pub joining_leads : (step : Step) → step_at s Joining ≡ Some step → LeadsAt z o m Joining step
  joining_leads step due = by_stage s.join.stage refl
    where
      by_stage : (i : JoinStage) → s.join.stage ≡ i → LeadsAt z o m Joining step
      by_stage Claiming at = let is : Add (slot_counter z) 1 ≡ step = same_step
          (sym (ap (λ (i : JoinStage). join_step s.join.sizes s.join.announcement i) at ∙ ap (λ (y : Layout). Some (Add (slot_counter y) 1)) join_sizes) ∙ due) in
          subst (LeadsAt z o m Joining) is (slot_claimed at)
      by_stage (Storing slot) at = let is : Store (slot_word z slot) s.join.announcement ≡ step =
          same_step (sym (ap (λ (i : JoinStage). join_step s.join.sizes s.join.announcement i) at ∙ ap (λ (y : Layout). Some (Store (slot_word y slot) s.join.announcement)) join_sizes) ∙ due) in
          subst (LeadsAt z o m Joining) is (announcement_joined slot at)
      by_stage (JoinedIn slot) at = let bad : None ≡ Some step = sym (ap (λ (i : JoinStage). join_step s.join.sizes s.join.announcement i) at) ∙ due in absurd cc
      by_stage Spent at = let bad : None ≡ Some step = sym (ap (λ (i : JoinStage). join_step s.join.sizes s.join.announcement i) at) ∙ due in absurd cc
