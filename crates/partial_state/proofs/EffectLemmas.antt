-- What a step changes, and that lawful words stay lawful by it and what was loaded true.
use Rattle.partial_state.proofs.{Common.{ℕ, ◌≡◌, ◌≢◌, ◌+◌, ◌*◌, ◌<◌, ◌≤◌, ◌⊎◌, ◌++◌, List, [], ◌∷◌, length, slice_index, Option, Some, None, IfSome, IsSomeAnd, MatchOption, slice_get, refl, sym, ◌∙◌, ap, subst, inl, inr, arith, AllByRecursion, ne_eqb, cases_lt, Applied, Opening, IsHistory, stamp_of, place_below, Layout, slot_counter, list_head, slot_word, initial_record, view_word, prev_of, record_value, view_of, Agrees, Block, AreApart, JoinedAnnouncement, HasFreshView, IsWithin, Covers, IsAnnounced, IsHead, ClaimedSlot, Own, Due, Holding, block_of, block_at, unpublished, blocks_in, without_block, IfJoined, joined_in, EachTwo, HaveOtherPorts, HaveOtherSlots, Pool, LawfulWords, IsOwn, IsTied, IsClaimedIn, IsClaim, CoversAll, IsDue, IsEntry, KeptAnswer, IsLoaded, IsKept, AllByRecursion-get, all_where, prev_word, value_word, Counted, PoolWords, Slots, counter, marked_ports}, ListLemmas.{all_at, all_before, all_after, all_join, all_weaker, two_before, two_after, two_join, length_same}, Frames.{Frame, Grows, within_more, within_grows, published_moves, announced_moves, head_moves, slot_moves, fresh_moves, covers_moves, covers_newer}, HoldingLemmas.{own_far, if_some, if_some_at, some_found, found_some, joined_weaker, HaveOtherBlocks, blocks_turn, ports_turn, slots_turn, without_other, block_stays, three_words}, Rebuild.{Moves, frame_of, tied_moves, other_word, initial_word, entry_three, entry_prev, own_before, own_after}}

-- an entry of the new history that the old one hadn't
pub record IsNew (z : Layout) (o : Opening) (words : List ℕ) (hs : List Holding) (log : List Applied) (k : ℕ) (e : Applied) : Type 0 where
  pub entry : IsEntry z words e
  pub fresh : HasFreshView z o words (unpublished hs) log k e.stamp
  pub covering : CoversAll z words hs log e.stamp

-- What a step changes of lawful words, where its port holds h before and h' after it.
pub record Changes (z : Layout) (o : Opening) (words words' : List ℕ) (before : List Holding) (h h' : Holding) (after : List Holding) (log log' : List Applied) : Type 0 where
  pub moves : Moves z words words' h h'
  pub grows : Grows o log log'
  pub history : IsHistory o log'
  pub agrees : Agrees o words' log'
  -- a component names no record of the old history that it didn't name before
  pub named : (j old : ℕ) → j < z.m → IsWithin o log (length log) old → slice_index words' j ≡ old → slice_index words j ≡ old
  pub newest : (k : ℕ) (e : Applied) → slice_get log' k ≡ Some e → length log ≤ k → IsNew z o words' (before ++ h' ∷ after) log' k e
  pub tied : IsTied z words' h'
  pub apart : EachTwo AreApart (blocks_in z words' (before ++ h' ∷ after) log')
  pub due : IfSome h'.due (IsDue z o words' h' (without_block h'.port (before ++ h' ∷ after)) log')
  pub taken : (l : ℕ) → l < slice_index words' (slot_counter z) → l < z.slots → IsSomeAnd h.claimed (λ c. c.slot ≡ l) ⊎ (slice_index words (slot_counter z) ≤ l) → (slice_index words' (slot_word z l) ≡ 1) ⊎
      IsSomeAnd h'.claimed (λ c. c.slot ≡ l)
  pub claim : IfSome h'.claimed (IsClaim z words' (before ++ h' ∷ after) log')
  pub owners : (v : Holding) → IfSome v.claimed (IsClaim z words (before ++ h ∷ after) log) → HaveOtherSlots h v → HaveOtherSlots h' v
  -- the port has joined just now, or it has what it had
  pub joined : (h'.claimed ≡ h.claimed) ⊎ IfJoined h' (λ l j. length log ≤ j.since)
  pub head : IsHead z words' (unpublished (before ++ h' ∷ after)) (slice_index words' (list_head z))
  pub counters : (c : Counted) → slice_index words' (counter z c).word ≤ (counter z c).end + (counter z c).greatest * marked_ports c (before ++ h' ∷ after)

-- the port joined now, or has what it had: what holds of those joined before it, and of those since
pub joined_moves : (h h' : Holding) (n : ℕ) (P Q : ℕ → JoinedAnnouncement → Type 0) → ((l : ℕ) (j : JoinedAnnouncement) → P l j → Q l j) → ((l : ℕ) (j : JoinedAnnouncement) → n ≤ j.since → Q l j) → (h'.claimed ≡ h.claimed) ⊎
    IfJoined h' (λ l j. n ≤ j.since) → IfJoined h P → IfJoined h' Q
joined_moves h h' n P Q f g (inl same) w = subst (λ (c : Option ClaimedSlot). IfSome c (λ c. IfSome c.joined (Q c.slot))) (sym same) (joined_weaker h P Q f w)
joined_moves h h' n P Q f g (inr late) w = joined_weaker h' (λ l j. n ≤ j.since) Q g late

-- a record that is due, where its words and what it covers stay
pub due_moves : (z : Layout) (o : Opening) (words words' : List ℕ) (v v' : Holding) (others others' : List Holding) (log log' : List Applied) (d : Due) → Frame z words words' (unpublished others)
    (unpublished others') → Grows o log log' → v'.own ≡ v.own → joined_in v'.claimed ≡ None →
    ((j old : ℕ) → j < z.m → IsWithin o log (length log) old → slice_index words' j ≡ old → slice_index words j ≡ old) →
    ((n : ℕ) → n < (block_at words d.at).size → slice_index words' (d.at + n) ≡ slice_index words (d.at + n)) →
    (prev_of words' d.at ≡ prev_of words d.at → view_of words' d.at ≡ view_of words d.at → IsWithin o log (length log) (prev_of words d.at) → CoversAll z words others log d.at →
    CoversAll z words' others' log' d.at) → IsDue z o words v others log d → IsDue z o words' v' others' log' d
due_moves z o words words' v v' others others' log log' d f g own unjoined named same covers w =
    let size = three_words words d.at in
    let none : prev_word d.at ≡ d.at + prev_word 0 = omega arith in
    let there : value_word d.at ≡ d.at + value_word 0 = omega arith in
    let prev : prev_of words' d.at ≡ prev_of words d.at = ap (λ n. slice_index words' n) none ∙ same (prev_word 0) (omega (arith, size)) ∙ ap (λ n. slice_index words n) (sym none) in
    let view : view_of words' d.at ≡ view_of words d.at = same (view_word 0) (omega (arith, size)) in
    let value : record_value words' d.at ≡ record_value words d.at = ap (λ n. slice_index words' n) there ∙ same (value_word 0) (omega (arith, size)) ∙ ap (λ n. slice_index words n) (sym there) in
    let block : block_at words' d.at ≡ block_at words d.at = block_stays words words' d.at same in
    let found = some_found (λ (b : Own). (b.space ≡ Pool) × (block_of b ≡ block_at words d.at) × (b.stored ≡ length b.words)) v.own w.own in
    let more = g.more in
    let before : IsWithin o log (length log) (prev_of words d.at) = subst (IsWithin o log (length log)) (sym w.prev) w.before in
    record {
      component = w.component;
      own = found_some (λ (b : Own). (b.space ≡ Pool) × (block_of b ≡ block_at words' d.at) × (b.stored ≡ length b.words)) v'.own found.0 (own ∙ found.1) (found.2.0, found.2.1 ∙ sym block, found.2.2);
      prev = prev ∙ w.prev;
      value = value ∙ w.value;
      before = within_more o log' (length log) (length log') d.old more (within_grows o log log' (length log) d.old g w.before);
      unjoined = unjoined;
      would = λ is.
          let both = w.would (named d.component d.old w.component w.before is) in
          (fresh_moves z words words' (unpublished others) (unpublished others') f o log log' g d.at prev view (length log) (length log') more (omega arith) both.0, covers prev view before both.1);
    }

-- a claim whose slot stays
pub claim_moves : (z : Layout) (words words' : List ℕ) (hs hs' : List Holding) (log log' : List Applied) (d : ClaimedSlot) → Frame z words words' (unpublished hs) (unpublished hs') →
    length log ≤ length log' → slice_index words' (slot_word z d.slot) ≡ slice_index words (slot_word z d.slot) → IsClaim z words hs log d → IsClaim z words' hs' log' d
claim_moves z words words' hs hs' log log' d f longer same k =
    let more = f.rises Slots in
    let below = k.below in
    record { slot = k.slot; below = omega (arith, below, more); holds = holds z words words' hs hs' log log' f longer d.slot d.joined same k.holds }
  where
    holds : (z : Layout) (words words' : List ℕ) (hs hs' : List Holding) (log log' : List Applied) → Frame z words words' (unpublished hs) (unpublished hs') → length log ≤ length log' →
        (l : ℕ) (j : Option JoinedAnnouncement) → slice_index words' (slot_word z l) ≡ slice_index words (slot_word z l) → MatchOption j (slice_index words (slot_word z l) ≡ 0)
        (λ j. (slice_index words (slot_word z l) ≡ j.at) × (j.since ≤ length log) × IsAnnounced z words (unpublished hs) j.at j.indices) → MatchOption j (slice_index words' (slot_word z l) ≡ 0)
        (λ j. (slice_index words' (slot_word z l) ≡ j.at) × (j.since ≤ length log') × IsAnnounced z words' (unpublished hs') j.at j.indices)
    holds z words words' hs hs' log log' f longer l None same k = same ∙ k
    holds z words words' hs hs' log log' f longer l (Some j) same k =
        let since = k.1 in
        (same ∙ k.0, omega (arith, since, longer), announced_moves z words words' (unpublished hs) (unpublished hs') f j.at j.indices k.2)

module _ (z : Layout) (o : Opening) (words words' : List ℕ) (before : List Holding) (h h' : Holding) (after : List Holding) (log log' : List Applied)
    (w : LawfulWords z o words (before ++ h ∷ after) log) (c : Changes z o words words' before h h' after log log') where
  -- what a record covers, whatever the others hold
  covers_all : (front back : List Holding) (stamp n : ℕ) → prev_of words' stamp ≡ prev_of words stamp → view_of words' stamp ≡ view_of words stamp → IsWithin o log n (prev_of words stamp) →
      CoversAll z words (front ++ h ∷ back) log stamp → CoversAll z words' (front ++ h' ∷ back) log' stamp
  covers_all front back stamp n prev view within all =
      let us = unpublished (front ++ h ∷ back) in
      let us' = unpublished (front ++ h' ∷ back) in
      let f = frame_of z words words' h h' c.moves front back in
      let P : Holding → Type 0 = λ v. IfJoined v (λ l j. Covers z words us log stamp j) in
      let Q : Holding → Type 0 = λ v. IfJoined v (λ l j. Covers z words' us' log' stamp j) in
      let step : (j : JoinedAnnouncement) → Covers z words us log stamp j → Covers z words' us' log' stamp j = λ j. covers_moves z words words' us us' f o log log' c.grows stamp prev view n j within in
      let each : (v : Holding) → P v → Q v = λ v. joined_weaker v (λ l j. Covers z words us log stamp j) (λ l j. Covers z words' us' log' stamp j) (λ l j. step j) in
      all_join Q front h' back (all_weaker P Q each front (all_before P front h back all))
      (joined_moves h h' (length log) (λ l j. Covers z words us log stamp j) (λ l j. Covers z words' us' log' stamp j) (λ l j. step j)
      (λ l j late. covers_newer z words words' us us' f o log log' c.grows stamp prev view n j within late) c.joined (all_at P front h back all))
      (all_weaker P Q each back (all_after P front h back all))

  here : Frame z words words' (unpublished (before ++ h ∷ after)) (unpublished (before ++ h' ∷ after))
  here = frame_of z words words' h h' c.moves before after

  -- what is due of another port
  other_due : (v : Holding) → h.port ≢ v.port → HaveOtherBlocks v h → IsTied z words v → (d : Due) → IsDue z o words v (without_block v.port (before ++ h ∷ after)) log d →
      IsDue z o words' v (without_block v.port (before ++ h' ∷ after)) log' d
  other_due v port apart tied d due =
      let front = without_block v.port before in
      let back = without_block v.port after in
      let is = without_other v.port before h after (ne_eqb h.port v.port port) in
      let is' = without_other v.port before h' after (ne_eqb h'.port v.port (λ e. port (sym c.moves.port ∙ e))) in
      let due' : IsDue z o words v (front ++ h ∷ back) log d = subst (λ (l : List Holding). IsDue z o words v l log d) is due in
      let found = some_found (λ (b : Own). (b.space ≡ Pool) × (block_of b ≡ block_at words d.at) × (b.stored ≡ length b.words)) v.own due'.own in
      let b = found.0 in
      let block = found.2.1 in
      let own : IsOwn z words b = if_some_at (IsOwn z words) v.own b found.1 tied.own in
      let free : IfSome h.own (λ c. AreApart (block_of b) (block_of c)) = if_some_at (λ b. IfSome h.own (λ c. AreApart (block_of b) (block_of c))) v.own b found.1 apart in
      let at : b.at ≡ d.at = ap (λ (x : Block). x.at) block in
      let size : length b.words ≡ (block_at words d.at).size = ap (λ (x : Block). x.size) block in
      let moved : IsDue z o words' v (front ++ h' ∷ back) log' d = due_moves z o words words' v v (front ++ h ∷ back) (front ++ h' ∷ back) log log' d (frame_of z words words' h h' c.moves front back)
      c.grows refl due'.unjoined c.named
      (λ n below. subst (λ t. slice_index words' (t + n) ≡ slice_index words (t + n)) at (other_word z words words' h h' c.moves b n (own_far z words b own) (omega (arith, below, size)) free))
      (λ prev view within all. covers_all front back d.at (length log) prev view within all) due' in
      subst (λ (l : List Holding). IsDue z o words' v l log' d) (sym is') moved

  -- a claim of another port
  other_claim : (v : Holding) → HaveOtherSlots h v → IfSome v.claimed (IsClaim z words (before ++ h ∷ after) log) → IfSome v.claimed (IsClaim z words' (before ++ h' ∷ after) log')
  other_claim v other claim =
      if_some (IsClaim z words (before ++ h ∷ after) log) (IsClaim z words' (before ++ h' ∷ after) log') v.claimed (λ d e k.
      let free : IfSome h.claimed (λ b. b.slot ≢ d.slot) = if_some (λ b. IfSome v.claimed (λ d. b.slot ≢ d.slot)) (λ b. b.slot ≢ d.slot) h.claimed
      (λ b e' s. if_some_at (λ d. b.slot ≢ d.slot) v.claimed d e s) other in
      claim_moves z words words' (before ++ h ∷ after) (before ++ h' ∷ after) log log' d here c.grows.more (c.moves.slot d.slot k.slot free) k) claim

  -- the claims of slots, one holding apart
  claimed_or : (l : ℕ) (front : List Holding) → IsClaimedIn l (front ++ h ∷ after) → IsClaimedIn l (front ++ h' ∷ after) ⊎ IsSomeAnd h.claimed (λ c. c.slot ≡ l)
  claimed_or l [] (inl k) = inr k
  claimed_or l [] (inr k) = inl (inr k)
  claimed_or l (b ∷ front) (inl k) = inl (inl k)
  claimed_or l (b ∷ front) (inr k) = elim (claimed_or l front k) [ inl t ↦ inl (inr t) | inr t ↦ inr t ]

  claimed_here : (l : ℕ) (front : List Holding) → IsSomeAnd h'.claimed (λ c. c.slot ≡ l) → IsClaimedIn l (front ++ h' ∷ after)
  claimed_here l [] k = inl k
  claimed_here l (b ∷ front) k = inr (claimed_here l front k)

  taken_now : (l : ℕ) → l < slice_index words' (slot_counter z) → l < z.slots → IsSomeAnd h.claimed (λ c. c.slot ≡ l) ⊎ (slice_index words (slot_counter z) ≤ l) → (slice_index words' (slot_word z l) ≡ 1) ⊎
      IsClaimedIn l (before ++ h' ∷ after)
  taken_now l below room k = elim (c.taken l below room k) [ inl t ↦ inl t | inr t ↦ inr (claimed_here l before t) ]

  taken_all : (l : ℕ) → l < slice_index words' (slot_counter z) → l < z.slots → (slice_index words' (slot_word z l) ≡ 1) ⊎ IsClaimedIn l (before ++ h' ∷ after)
  taken_all l below room = elim (cases_lt l (slice_index words (slot_counter z))) [
    | inr from ↦ taken_now l below room (inr from)
    | inl old ↦ elim (w.taken l old room) [
      | inl one ↦ inl (c.moves.vacated l room one)
      | inr k ↦ elim (claimed_or l before k) [ inl t ↦ inr t | inr t ↦ taken_now l below room (inl t) ]
    ]
  ]

  -- a slot from the counter on isn't the port's
  unclaimed_now : (l : ℕ) → slice_index words' (slot_counter z) ≤ l → l < z.slots → slice_index words' (slot_word z l) ≡ 0
  unclaimed_now l from room =
      let more = c.moves.rises Slots in
      let claim = all_at (λ v. IfSome v.claimed (IsClaim z words (before ++ h ∷ after) log)) before h after w.claims in
      c.moves.slot l room (if_some (IsClaim z words (before ++ h ∷ after) log) (λ c. c.slot ≢ l) h.claimed (λ d e k. let below = k.below in λ is. omega (arith, below, more, from, is)) claim) ∙
      w.unclaimed l (omega (arith, from, more)) room

  entry_within : (k : ℕ) (e : Applied) → slice_get log k ≡ Some e → IsWithin o log k (prev_of words e.stamp)
  entry_within k e s = let fresh = w.fresh k e s in within_more o log fresh.prefix k (prev_of words e.stamp) fresh.without fresh.contains

  old_entry : (k : ℕ) (e : Applied) → slice_get log k ≡ Some e → IsNew z o words' (before ++ h' ∷ after) log' k e
  old_entry k e s =
      let entry : IsEntry z words e = AllByRecursion-get (IsEntry z words) log k e w.entries s in
      let below = entry.below in
      let more = c.moves.rises PoolWords in
      let prev = entry_prev z o words words' before h h' after log w c.moves k e s in
      let view = entry_three z o words words' before h h' after log w c.moves k e (view_word 0) s (omega arith) in
      let within = place_below log k e s in
      record {
        entry = record { above = entry.above; within = entry.within; below = omega (arith, below, more) };
        fresh = fresh_moves z words words' (unpublished (before ++ h ∷ after)) (unpublished (before ++ h' ∷ after)) here o log log' c.grows e.stamp prev view k k (omega arith)
            (omega (arith, within)) (w.fresh k e s);
        covering = covers_all before after e.stamp k prev view (entry_within k e s) (AllByRecursion-get (λ (e : Applied). CoversAll z words (before ++ h ∷ after) log e.stamp) log k e w.covering s);
      }

  each_entry : (k : ℕ) (e : Applied) → slice_get log' k ≡ Some e → IsNew z o words' (before ++ h' ∷ after) log' k e
  each_entry k e s = elim (cases_lt k (length log)) [ inl below ↦ old_entry k e (c.grows.older k e s below) | inr from ↦ c.newest k e s from ]

  port_b : AllByRecursion (HaveOtherPorts h) before
  port_b = two_before HaveOtherPorts ports_turn before h after w.ports

  port_a : AllByRecursion (HaveOtherPorts h) after
  port_a = two_after HaveOtherPorts ports_turn before h after w.ports

  slot_b : AllByRecursion (HaveOtherSlots h) before
  slot_b = two_before HaveOtherSlots slots_turn before h after w.owners

  slot_a : AllByRecursion (HaveOtherSlots h) after
  slot_a = two_after HaveOtherSlots slots_turn before h after w.owners

  apart_b : AllByRecursion (HaveOtherBlocks h) before
  apart_b = own_before z o words words' before h h' after log w c.moves

  apart_a : AllByRecursion (HaveOtherBlocks h) after
  apart_a = own_after z o words words' before h h' after log w c.moves

  -- what is to be shown of each other holding, from what is known of it
  abbrev IsOther : Holding → Type 0
  IsOther v = HaveOtherPorts h v × HaveOtherSlots h v × HaveOtherBlocks h v × IsTied z words v × IfSome v.due (IsDue z o words v (without_block v.port (before ++ h ∷ after)) log) ×
      IfSome v.claimed (IsClaim z words (before ++ h ∷ after) log)

  five : (vs : List Holding) → AllByRecursion (HaveOtherPorts h) vs → AllByRecursion (HaveOtherSlots h) vs → AllByRecursion (HaveOtherBlocks h) vs → AllByRecursion (IsTied z words) vs →
      AllByRecursion (λ v. IfSome v.due (IsDue z o words v (without_block v.port (before ++ h ∷ after)) log)) vs →
      AllByRecursion (λ v. IfSome v.claimed (IsClaim z words (before ++ h ∷ after) log)) vs →
      AllByRecursion IsOther vs
  five [] p s b t d k = tt
  five (v ∷ vs) p s b t d k = ((p.0, s.0, b.0, t.0, d.0, k.0), five vs p.1 s.1 b.1 t.1 d.1 k.1)

  others_before : AllByRecursion IsOther before
  others_before = five before port_b slot_b apart_b (all_before (IsTied z words) before h after w.tied)
      (all_before (λ v. IfSome v.due (IsDue z o words v (without_block v.port (before ++ h ∷ after)) log)) before h after w.due)
      (all_before (λ v. IfSome v.claimed (IsClaim z words (before ++ h ∷ after) log)) before h after w.claims)

  others_after : AllByRecursion IsOther after
  others_after = five after port_a slot_a apart_a (all_after (IsTied z words) before h after w.tied)
      (all_after (λ v. IfSome v.due (IsDue z o words v (without_block v.port (before ++ h ∷ after)) log)) before h after w.due)
      (all_after (λ v. IfSome v.claimed (IsClaim z words (before ++ h ∷ after) log)) before h after w.claims)

  -- each other holding, and the port's new one
  each : (R : Holding → Type 0) → ((v : Holding) → IsOther v → R v) → R h' → AllByRecursion R (before ++ h' ∷ after)
  each R f r = all_join R before h' after (all_weaker IsOther R f before others_before) r (all_weaker IsOther R f after others_after)

  pub rebuild : LawfulWords z o words' (before ++ h' ∷ after) log'
  rebuild =
      let port = c.moves.port in
      record {
        sizes = w.sizes;
        values = w.values;
        stamps = w.stamps;
        count = c.moves.count ∙ w.count;
        few = omega (arith, length_same before h h' after, w.few);
        ports = two_join HaveOtherPorts ports_turn before h h' after w.ports (all_weaker (HaveOtherPorts h) (HaveOtherPorts h') (λ v k e. k (sym port ∙ e)) before port_b)
            (all_weaker (HaveOtherPorts h) (HaveOtherPorts h') (λ v k e. k (sym port ∙ e)) after port_a);
        history = c.history;
        agrees = c.agrees;
        initial = λ j below. initial_word z o words words' before h h' after log w c.moves (view_word (initial_record z j)) (omega arith) (omega (arith, below)) ∙ w.initial j below;
        entries = all_where (IsEntry z words') log' (λ k e s. (each_entry k e s).entry);
        tied = each (IsTied z words') (λ v t. tied_moves z words words' h h' c.moves v t.3 (blocks_turn h v t.2)) c.tied;
        apart = c.apart;
        fresh = λ k e s. (each_entry k e s).fresh;
        covering = all_where (λ (e : Applied). CoversAll z words' (before ++ h' ∷ after) log' e.stamp) log' (λ k e s. (each_entry k e s).covering);
        due = each (λ v. IfSome v.due (IsDue z o words' v (without_block v.port (before ++ h' ∷ after)) log'))
            (λ v t. if_some (IsDue z o words v (without_block v.port (before ++ h ∷ after)) log) (IsDue z o words' v (without_block v.port (before ++ h' ∷ after)) log') v.due
            (λ d e due. other_due v t.0 (blocks_turn h v t.2) t.3 d due) t.4) c.due;
        unclaimed = unclaimed_now;
        taken = taken_all;
        claims = each (λ v. IfSome v.claimed (IsClaim z words' (before ++ h' ∷ after) log')) (λ v t. other_claim v t.1 t.5) c.claim;
        owners = two_join HaveOtherSlots slots_turn before h h' after w.owners (all_weaker IsOther (HaveOtherSlots h') (λ v t. c.owners v t.5 t.1) before others_before)
            (all_weaker IsOther (HaveOtherSlots h') (λ v t. c.owners v t.5 t.1) after others_after);
        head = c.head;
        counters = λ d. let low = (w.counters d).low in let up = c.moves.rises d in record { low = omega (arith, low, up); high = c.counters d };
      }

  -- what was loaded goes on being true
  loads : (n : ℕ) (k : KeptAnswer) → IsLoaded z o words (before ++ h ∷ after) log n k → IsLoaded z o words' (before ++ h' ∷ after) log' n k
  loads n k l =
      let us = unpublished (before ++ h ∷ after) in
      let us' = unpublished (before ++ h' ∷ after) in
      let within = l.within in
      let more = c.grows.more in
      let C : ℕ → JoinedAnnouncement → Type 0 = λ l j. j.since < k.at → l < k.answer in
      let J : ℕ → JoinedAnnouncement → Type 0 = λ l j. j.since < k.at → n ≡ slot_word z l → k.answer ≡ j.at in
      record {
        within = omega (arith, within, more);
        component = λ below. l.component below ∙ ap (λ (t : List Applied). stamp_of o t n) (sym (c.grows.takes k.at within));
        head = λ is. head_moves z words words' us us' here k.answer (l.head is);
        slot = λ s below is. slot_moves z words words' us us' here s k.answer below (l.slot s below is);
        block = λ far. let b = l.block far in (b.0 ∙ sym (here.same n far b.1), published_moves z words words' us us' here n b.1);
        counter = λ is. moved C (λ s j late since. absurd (omega (arith, late, since, within))) (l.counter is);
        joined = moved J (λ s j late since. absurd (omega (arith, late, since, within))) l.joined;
      }
    where
      moved : (P : ℕ → JoinedAnnouncement → Type 0) → ((s : ℕ) (j : JoinedAnnouncement) → length log ≤ j.since → P s j) → AllByRecursion (λ v. IfJoined v P) (before ++ h ∷ after) →
          AllByRecursion (λ v. IfJoined v P) (before ++ h' ∷ after)
      moved P late all = let Q : Holding → Type 0 = λ v. IfJoined v P in all_join Q before h' after (all_before Q before h after all)
          (joined_moves h h' (length log) P P (λ s j p. p) late c.joined (all_at Q before h after all)) (all_after Q before h after all)

  pub keeps : IsKept z o words before h after log words' h' log'
  keeps = record { lawful = rebuild; loads = loads }
