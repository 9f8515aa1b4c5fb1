-- The steps that add nothing to the history, and what most steps leave as it was.
use Rattle.partial_state.proofs.{Common.{ℕ, ◌≡◌, ◌≢◌, ◌+◌, ◌*◌, ◌<◌, ◌≤◌, ◌⊎◌, ◌++◌, ◌^◌, ◌%◌, true, false, List, ◌∷◌, length, slice_index, Option, None, IfSome, IsSomeAnd, refl, sym, ◌∙◌, ap, subst, inl, inr, arith, eq-eqb, Applied, Opening, place_below, Layout, IsLayout, slot_counter, list_head, pool_counter, list_counter, slot_word, list_base, pool_end, Block, AreApart, IsApartFrom, Covers, IsHead, ClaimedSlot, Own, Due, Holding, block_of, block_at, unpublished, blocks_in, without_block, IfJoined, joined_in, EachTwo, HaveOtherSlots, Pool, LawfulWords, IsOwn, IsTied, IsClaim, IsDue, IsKept, greatest_claim, greatest_list, most_ports, Counted, IsCounted, ListWords, PoolWords, Slots, counter, is_marked, marked_ports}, ListLemmas.{all_at, all_before, all_after, all_join, all_weaker}, Frames.{Frame, stays, head_moves, covers_moves}, Blocks.unpublished_same, HoldingLemmas.{own_far, if_some, if_some_at, some_found, joined_weaker, unjoined_if, without_own, marks_same, marks_more, marks_few}, Rebuild.{Moves, frame_of, agrees_stay, blocks_stay}, EffectLemmas.{due_moves, claim_moves, keeps}}
use Rattle.std.proofs.Math.Nat.{mul-le-mul_left}

-- what a step changes that adds nothing to the history
pub record Quiet (z : Layout) (o : Opening) (words words' : List ℕ) (before : List Holding) (h h' : Holding) (after : List Holding) (log : List Applied) : Type 0 where
  pub moves : Moves z words words' h h'
  pub components : (j : ℕ) → j < z.m → slice_index words' j ≡ slice_index words j
  pub tied : IsTied z words' h'
  pub apart : EachTwo AreApart (blocks_in z words (before ++ h' ∷ after) log)
  pub due : IfSome h'.due (IsDue z o words' h' (without_block h'.port (before ++ h' ∷ after)) log)
  pub taken : (l : ℕ) → l < slice_index words' (slot_counter z) → l < z.slots → IsSomeAnd h.claimed (λ c. c.slot ≡ l) ⊎ (slice_index words (slot_counter z) ≤ l) → (slice_index words' (slot_word z l) ≡ 1) ⊎
      IsSomeAnd h'.claimed (λ c. c.slot ≡ l)
  pub claim : IfSome h'.claimed (IsClaim z words' (before ++ h' ∷ after) log)
  pub owners : (v : Holding) → IfSome v.claimed (IsClaim z words (before ++ h ∷ after) log) → HaveOtherSlots h v → HaveOtherSlots h' v
  pub joined : (h'.claimed ≡ h.claimed) ⊎ IfJoined h' (λ l j. length log ≤ j.since)
  pub head : IsHead z words' (unpublished (before ++ h' ∷ after)) (slice_index words' (list_head z))
  pub counters : (c : Counted) → slice_index words' (counter z c).word ≤ (counter z c).end + (counter z c).greatest * marked_ports c (before ++ h' ∷ after)

pub quiet : (z : Layout) (o : Opening) (words words' : List ℕ) (before : List Holding) (h h' : Holding) (after : List Holding) (log : List Applied) → LawfulWords z o words (before ++ h ∷ after) log →
    Quiet z o words words' before h h' after log → IsKept z o words before h after log words' h' log
quiet z o words words' before h h' after log w q =
    keeps z o words words' before h h' after log log w (record {
      moves = q.moves;
      grows = stays o log;
      history = w.history;
      agrees = agrees_stay z o words words' before h h' after log w q.moves q.components;
      named = λ j old below within is. sym (q.components j below) ∙ is;
      newest = λ k e s from. let below = place_below log k e s in absurd (omega (arith, below, from));
      tied = q.tied;
      apart = blocks_stay z o words words' before h h' after log w q.moves (before ++ h' ∷ after) q.apart;
      due = q.due;
      taken = q.taken;
      claim = q.claim;
      owners = q.owners;
      joined = q.joined;
      head = q.head;
      counters = q.counters;
    })

-- one holding in the place of another
module _ (z : Layout) (words words' : List ℕ) (before : List Holding) (h h' : Holding) (after : List Holding) where
  -- a counter with the same mark
  pub high_stays : (c : Counted) → is_marked c h' ≡ is_marked c h →
      slice_index words' (counter z c).word ≤ (counter z c).end + (counter z c).greatest * marked_ports c (before ++ h ∷ after) →
      slice_index words' (counter z c).word ≤ (counter z c).end + (counter z c).greatest * marked_ports c (before ++ h' ∷ after)
  high_stays c same w = subst (λ m. slice_index words' (counter z c).word ≤ (counter z c).end + (counter z c).greatest * m) (sym (marks_same c before h h' after same)) w

  -- and one for which the port becomes marked
  pub high_rises : (c : Counted) → is_marked c h ≡ false → is_marked c h' ≡ true →
      slice_index words' (counter z c).word ≤ (counter z c).end + (counter z c).greatest * marked_ports c (before ++ h ∷ after) + (counter z c).greatest →
      slice_index words' (counter z c).word ≤ (counter z c).end + (counter z c).greatest * marked_ports c (before ++ h' ∷ after)
  high_rises c off on w = subst (λ m. slice_index words' (counter z c).word ≤ (counter z c).end + (counter z c).greatest * m) (sym (marks_more c before h h' after off on)) (omega (arith, w))

  -- where no counter falls, the counter of a marked port stays past its end
  pub marked_stays : ((c : Counted) → is_marked c h' ≡ is_marked c h) → ((c : Counted) → slice_index words (counter z c).word ≤ slice_index words' (counter z c).word) →
      ((c : Counted) → is_marked c h ≡ true → (counter z c).end < slice_index words (counter z c).word) →
      (c : Counted) → is_marked c h' ≡ true → (counter z c).end < slice_index words' (counter z c).word
  marked_stays same rises marked c on = let past = marked c (sym (same c) ∙ on) in let up = rises c in omega (arith, past, up)

  -- where no counter changes, and no mark
  pub counters_stay : ((c : Counted) → is_marked c h' ≡ is_marked c h) → ((c : Counted) → slice_index words' (counter z c).word ≡ slice_index words (counter z c).word) →
      ((c : Counted) → IsCounted z words (before ++ h ∷ after) c) →
      (c : Counted) → slice_index words' (counter z c).word ≤ (counter z c).end + (counter z c).greatest * marked_ports c (before ++ h' ∷ after)
  counters_stay same counts counters c = let now = counts c in let high = (counters c).high in high_stays c (same c) (omega (arith, now, high))

-- the three counters are as they were
pub counters_same : (z : Layout) (words words' : List ℕ) → slice_index words' (pool_counter z) ≡ slice_index words (pool_counter z) → slice_index words' (slot_counter z) ≡ slice_index words (slot_counter z) →
    slice_index words' (list_counter z) ≡ slice_index words (list_counter z) → (c : Counted) → slice_index words' (counter z c).word ≡ slice_index words (counter z c).word
counters_same z words words' pool slots lists PoolWords = pool
counters_same z words words' pool slots lists Slots = slots
counters_same z words words' pool slots lists ListWords = lists

-- none of them falls
pub counters_rise : (z : Layout) (words words' : List ℕ) → slice_index words (pool_counter z) ≤ slice_index words' (pool_counter z) → slice_index words (slot_counter z) ≤ slice_index words' (slot_counter z) →
    slice_index words (list_counter z) ≤ slice_index words' (list_counter z) → (c : Counted) → slice_index words (counter z c).word ≤ slice_index words' (counter z c).word
counters_rise z words words' pool slots lists PoolWords = pool
counters_rise z words words' pool slots lists Slots = slots
counters_rise z words words' pool slots lists ListWords = lists

-- the counters stay far below 2 ^ 64
pub counter_bound : (z : Layout) (o : Opening) (words : List ℕ) (hs : List Holding) (log : List Applied) → LawfulWords z o words hs log → (c : Counted) →
    slice_index words (counter z c).word ≤ (counter z c).end + most_ports * (counter z c).greatest
counter_bound z o words hs log w c =
    let few = marks_few c hs in
    let all = w.few in
    let high = (w.counters c).high in
    let bound : (counter z c).greatest * marked_ports c hs ≤ (counter z c).greatest * most_ports = mul-le-mul_left (counter z c).greatest (omega (arith, few, all)) in
    omega (arith, bound, high)

pub fits_word : (z : Layout) (n : ℕ) → IsLayout z → n ≤ pool_end z + 256 * greatest_claim z + 256 * greatest_list z → n % 2 ^ 64 ≡ n
fits_word z n s most = let m = s.components.1 in let l = s.slots.1 in let t = s.lists in let p = s.pool.1 in omega arith

-- what stays where the port's claim does
pub taken_stays : (z : Layout) (words words' : List ℕ) (h h' : Holding) → h'.claimed ≡ h.claimed →
    ((l : ℕ) → l < slice_index words' (slot_counter z) → l < z.slots → l < slice_index words (slot_counter z)) → (l : ℕ) → l < slice_index words' (slot_counter z) → l < z.slots →
    IsSomeAnd h.claimed (λ c. c.slot ≡ l) ⊎ (slice_index words (slot_counter z) ≤ l) → (slice_index words' (slot_word z l) ≡ 1) ⊎ IsSomeAnd h'.claimed (λ c. c.slot ≡ l)
taken_stays z words words' h h' same f l below room (inl k) = inr (subst (λ (c : Option ClaimedSlot). IsSomeAnd c (λ c. c.slot ≡ l)) (sym same) k)
taken_stays z words words' h h' same f l below room (inr k) = let old = f l below room in absurd (omega (arith, old, k))

module _ (z : Layout) (o : Opening) (words words' : List ℕ) (before : List Holding) (h h' : Holding) (after : List Holding) (log : List Applied) (w : LawfulWords z o words (before ++ h ∷ after) log)
    (m : Moves z words words' h h') where
  frame : Frame z words words' (unpublished (before ++ h ∷ after)) (unpublished (before ++ h' ∷ after))
  frame = frame_of z words words' h h' m before after

  pub claim_stays : (log' : List Applied) → length log ≤ length log' → h'.claimed ≡ h.claimed → ((l : ℕ) → l < z.slots → slice_index words' (slot_word z l) ≡ slice_index words (slot_word z l)) →
      IfSome h'.claimed (IsClaim z words' (before ++ h' ∷ after) log')
  claim_stays log' longer same slots =
      subst (λ (c : Option ClaimedSlot). IfSome c (IsClaim z words' (before ++ h' ∷ after) log')) (sym same)
      (if_some (IsClaim z words (before ++ h ∷ after) log) (IsClaim z words' (before ++ h' ∷ after) log') h.claimed
      (λ d e k. claim_moves z words words' (before ++ h ∷ after) (before ++ h' ∷ after) log log' d frame longer (slots d.slot k.slot) k)
      (all_at (λ v. IfSome v.claimed (IsClaim z words (before ++ h ∷ after) log)) before h after w.claims))

  pub owners_stay : h'.claimed ≡ h.claimed → (v : Holding) → HaveOtherSlots h v → HaveOtherSlots h' v
  owners_stay same v k = subst (λ (c : Option ClaimedSlot). IfSome c (λ c. IfSome v.claimed (λ d. c.slot ≢ d.slot))) (sym same) k

  pub head_stays : slice_index words' (list_head z) ≡ slice_index words (list_head z) → IsHead z words' (unpublished (before ++ h' ∷ after)) (slice_index words' (list_head z))
  head_stays same = subst (IsHead z words' (unpublished (before ++ h' ∷ after))) (sym same)
      (head_moves z words words' (unpublished (before ++ h ∷ after)) (unpublished (before ++ h' ∷ after)) frame (slice_index words (list_head z)) w.head)

  -- the port's own exchange that is due, where no word of a block changes
  pub due_here : h'.own ≡ h.own → h'.spare ≡ h.spare → (joined_in h.claimed ≡ None → joined_in h'.claimed ≡ None) → ((n : ℕ) → list_base z ≤ n → slice_index words' n ≡ slice_index words n) →
      ((j : ℕ) → j < z.m → slice_index words' j ≡ slice_index words j) → (d : Due) → IsDue z o words h (without_block h.port (before ++ h ∷ after)) log d →
      IsDue z o words' h' (without_block h'.port (before ++ h' ∷ after)) log d
  due_here own spare unjoined far components d due =
      let front = without_block h.port before in
      let back = without_block h.port after in
      let g : Holding = record h { own = None } in
      let g' : Holding = record h' { own = None } in
      let us = unpublished (front ++ g ∷ back) in
      let us' = unpublished (front ++ g' ∷ back) in
      let is : without_block h.port (before ++ h ∷ after) ≡ front ++ g ∷ back = without_own h.port before h after (eq-eqb h.port h.port refl) in
      let is' : without_block h'.port (before ++ h' ∷ after) ≡ front ++ g' ∷ back =
      ap (λ p. without_block p (before ++ h' ∷ after)) m.port ∙ without_own h.port before h' after (eq-eqb h'.port h.port m.port) in
      let k : IsDue z o words h (front ++ g ∷ back) log d = subst (λ (l : List Holding). IsDue z o words h l log d) is due in
      let same : us' ≡ us = unpublished_same front g g' back refl spare in
      let f : Frame z words words' us us' = record {
        count = m.count;
        rises = m.rises;
        same = λ n above p. far n above;
        apart = λ b c a. subst (λ (us : List Block). IsApartFrom us b) (sym same) a;
        vacated = m.vacated;
      } in
      let found = some_found (λ (b : Own). (b.space ≡ Pool) × (block_of b ≡ block_at words d.at) × (b.stored ≡ length b.words)) h.own k.own in
      let b = found.0 in
      let tied = all_at (IsTied z words) before h after w.tied in
      let at : b.at ≡ d.at = ap (λ (x : Block). x.at) found.2.1 in
      let above = own_far z words b (if_some_at (IsOwn z words) h.own b found.1 tied.own) in
      let P : Holding → Type 0 = λ v. IfJoined v (λ l j. Covers z words us log d.at j) in
      let Q : Holding → Type 0 = λ v. IfJoined v (λ l j. Covers z words' us' log d.at j) in
      let moved : IsDue z o words' h' (front ++ g' ∷ back) log d = due_moves z o words words' h h' (front ++ g ∷ back) (front ++ g' ∷ back) log log d f (stays o log) own (unjoined k.unjoined)
      (λ j old below within is. sym (components j below) ∙ is) (λ n below. far (d.at + n) (omega (arith, above, at)))
      (λ prev view within all.
      let each : (v : Holding) → P v → Q v = λ v. joined_weaker v (λ l j. Covers z words us log d.at j) (λ l j. Covers z words' us' log d.at j)
      (λ l j. covers_moves z words words' us us' f o log log (stays o log) d.at prev view (length log) j within) in
      all_join Q front g' back (all_weaker P Q each front (all_before P front g back all)) (unjoined_if (λ l j. Covers z words' us' log d.at j) h'.claimed (unjoined k.unjoined))
      (all_weaker P Q each back (all_after P front g back all))) k in
      subst (λ (l : List Holding). IsDue z o words' h' l log d) (sym is') moved

  pub due_stays : h'.own ≡ h.own → h'.spare ≡ h.spare → h'.due ≡ h.due → (joined_in h.claimed ≡ None → joined_in h'.claimed ≡ None) → ((n : ℕ) → list_base z ≤ n → slice_index words' n ≡ slice_index words n) →
      ((j : ℕ) → j < z.m → slice_index words' j ≡ slice_index words j) → IfSome h'.due (IsDue z o words' h' (without_block h'.port (before ++ h' ∷ after)) log)
  due_stays own spare due unjoined far components =
      subst (λ (d : Option Due). IfSome d (IsDue z o words' h' (without_block h'.port (before ++ h' ∷ after)) log)) (sym due)
      (if_some (IsDue z o words h (without_block h.port (before ++ h ∷ after)) log) (IsDue z o words' h' (without_block h'.port (before ++ h' ∷ after)) log) h.due
      (λ d e k. due_here own spare unjoined far components d k)
      (all_at (λ v. IfSome v.due (IsDue z o words v (without_block v.port (before ++ h ∷ after)) log)) before h after w.due))

-- what a step changes that leaves the slots and the port's claim as they were
pub record Calm (z : Layout) (o : Opening) (words words' : List ℕ) (before : List Holding) (h h' : Holding) (after : List Holding) (log : List Applied) : Type 0 where
  pub moves : Moves z words words' h h'
  pub components : (j : ℕ) → j < z.m → slice_index words' j ≡ slice_index words j
  pub tied : IsTied z words' h'
  pub apart : EachTwo AreApart (blocks_in z words (before ++ h' ∷ after) log)
  pub due : IfSome h'.due (IsDue z o words' h' (without_block h'.port (before ++ h' ∷ after)) log)
  pub claimed : h'.claimed ≡ h.claimed
  pub slot_words : (l : ℕ) → l < z.slots → slice_index words' (slot_word z l) ≡ slice_index words (slot_word z l)
  pub counts : (l : ℕ) → l < slice_index words' (slot_counter z) → l < z.slots → l < slice_index words (slot_counter z)
  pub head : IsHead z words' (unpublished (before ++ h' ∷ after)) (slice_index words' (list_head z))
  pub counters : (c : Counted) → slice_index words' (counter z c).word ≤ (counter z c).end + (counter z c).greatest * marked_ports c (before ++ h' ∷ after)

pub calm : (z : Layout) (o : Opening) (words words' : List ℕ) (before : List Holding) (h h' : Holding) (after : List Holding) (log : List Applied) → LawfulWords z o words (before ++ h ∷ after) log →
    Calm z o words words' before h h' after log → IsKept z o words before h after log words' h' log
calm z o words words' before h h' after log w c =
    quiet z o words words' before h h' after log w (record {
      moves = c.moves;
      components = c.components;
      tied = c.tied;
      apart = c.apart;
      due = c.due;
      taken = taken_stays z words words' h h' c.claimed c.counts;
      claim = claim_stays z o words words' before h h' after log w c.moves log (omega arith) c.claimed c.slot_words;
      owners = λ v k s. owners_stay z o words words' before h h' after log w c.moves c.claimed v s;
      joined = inl c.claimed;
      head = c.head;
      counters = c.counters;
    })
