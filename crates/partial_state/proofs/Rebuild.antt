-- Lawful words with one port's holding in the place of another, and with other words.
use Rattle.partial_state.proofs.{Common.{ℕ, ◌≡◌, ◌≢◌, ◌+◌, ◌<◌, ◌≤◌, ◌++◌, List, [], ◌∷◌, length, map, slice_index, Option, Some, IfSome, slice_get, sym, ◌∙◌, ap, subst, arith, AllByRecursion, Applied, Opening, initial_stamp, Layout, slot_word, list_base, pool_base, prev_of, Agrees, IsLink, IsChain, chain_of, Block, AreApart, Own, Holding, Space, counter_of, block_of, block_at, announcements, unpublished, blocks_in, EachTwo, Pool, Lists, LawfulWords, IsOwn, IsSpare, IsTied, IsEntry, AllByRecursion-get, all_where, initial_words, first_free, value_word, record_value, prev_word, plain_record_size, chain_all, Counted, ListWords, PoolWords, counter}, ListLemmas.{all_at, all_before, all_after, all_join, two_before, two_after, map_same}, Frames.{Frame, IsClaimedBlock, word_at, part_apart}, Claimed.{unpublished_two, entry_free, initial_free}, HoldingLemmas.{IsFreeOf, own_far, if_some, if_some_at, all_unpublished, unpublished_all, HaveOtherBlocks, apart_others, blocks_turn, three_words, block_stays}}
use Rattle.partial_words.specs.declared.record.Link.{Link}

-- What a step does to the words of others, where its port holds h before and h' after it.
pub record Moves (z : Layout) (words words' : List ℕ) (h h' : Holding) : Type 0 where
  pub port : h'.port ≡ h.port
  pub count : length words' ≡ length words
  pub rises : (c : Counted) → slice_index words (counter z c).word ≤ slice_index words' (counter z c).word
  -- of the words of blocks none changes but those of its own block
  pub same : (w : ℕ) → list_base z ≤ w → IfSome h.own (λ b. AreApart (word_at w) (block_of b)) → slice_index words' w ≡ slice_index words w
  pub apart : (b : Block) → IsClaimedBlock z words b → IsFreeOf h b → IsFreeOf h' b
  -- of the slots none changes but its own
  pub slot : (l : ℕ) → l < z.slots → IfSome h.claimed (λ c. c.slot ≢ l) → slice_index words' (slot_word z l) ≡ slice_index words (slot_word z l)
  pub vacated : (l : ℕ) → l < z.slots → slice_index words (slot_word z l) ≡ 1 → slice_index words' (slot_word z l) ≡ 1

module _ (z : Layout) (words words' : List ℕ) (h h' : Holding) (m : Moves z words words' h h') where
  -- the frame, whatever the others hold
  pub frame_of : (before after : List Holding) → Frame z words words' (unpublished (before ++ h ∷ after)) (unpublished (before ++ h' ∷ after))
  frame_of before after =
      record {
        count = m.count;
        rises = m.rises;
        same = λ w far p. m.same w far (all_at (λ v. IsFreeOf v (word_at w)) before h after (unpublished_all (AreApart (word_at w)) (before ++ h ∷ after) p.apart)).0;
        apart = λ b claimed apart.
            let P : Holding → Type 0 = λ v. IsFreeOf v b in
            let all = unpublished_all (AreApart b) (before ++ h ∷ after) apart in
            all_unpublished (AreApart b) (before ++ h' ∷ after) (all_join P before h' after (all_before P before h after all) (m.apart b claimed (all_at P before h after all))
            (all_after P before h after all));
        vacated = m.vacated;
      }

  -- a word of another's own block stays
  pub other_word : (b : Own) (n : ℕ) → list_base z ≤ b.at → n < length b.words → IfSome h.own (λ c. AreApart (block_of b) (block_of c)) → slice_index words' (b.at + n) ≡ slice_index words (b.at + n)
  other_word b n far below apart =
      m.same (b.at + n) (omega (arith, far)) (if_some (λ c. AreApart (block_of b) (block_of c)) (λ c. AreApart (word_at (b.at + n)) (block_of c)) h.own
      (λ c e a. part_apart (word_at (b.at + n)) (block_of b) (block_of c) (omega arith) (omega (arith, below)) a) apart)

  counter_grows : (s : Space) → slice_index words (counter_of z s) ≤ slice_index words' (counter_of z s)
  counter_grows Pool = m.rises PoolWords
  counter_grows Lists = m.rises ListWords

  pub own_moves : (b : Own) → IfSome h.own (λ c. AreApart (block_of b) (block_of c)) → IsOwn z words b → IsOwn z words' b
  own_moves b apart w =
      let below = w.below in
      let few = w.few in
      let more = counter_grows b.space in
      record {
        above = w.above;
        within = w.within;
        below = omega (arith, below, more);
        few = w.few;
        stands = λ i stored. other_word b i (own_far z words b w) (omega (arith, stored, few)) apart ∙ w.stands i stored;
      }

  -- an own block stays where no word of a block changes
  pub own_stays : ((n : ℕ) → list_base z ≤ n → slice_index words' n ≡ slice_index words n) → (f : Option Own) → IfSome f (IsOwn z words) → IfSome f (IsOwn z words')
  own_stays far f w =
      if_some (IsOwn z words) (IsOwn z words') f (λ b e own.
      let above = own_far z words b own in
      let below = own.below in
      let more = counter_grows b.space in
      record {
        above = own.above;
        within = own.within;
        below = omega (arith, below, more);
        few = own.few;
        stands = λ i stored. far (b.at + i) (omega (arith, above)) ∙ own.stands i stored;
      }) w

  -- spare words stay below the counter
  pub spare_moves : (b : Block) → IsSpare z words b → IsSpare z words' b
  spare_moves b w = let below = w.below in let more = m.rises PoolWords in record { above = w.above; within = w.within; below = omega (arith, below, more) }

  pub marked_moves : (v : Holding) → IfSome v.own (IsOwn z words') → IsTied z words v → IsTied z words' v
  marked_moves v own w =
      record {
        own = own;
        spare = spare_moves v.spare w.spare;
        marked = λ c on. let past = w.marked c on in let up = m.rises c in omega (arith, past, up);
      }

  pub tied_moves : (v : Holding) → IsTied z words v → HaveOtherBlocks v h → IsTied z words' v
  tied_moves v w other =
      marked_moves v (if_some (IsOwn z words) (IsOwn z words') v.own (λ b e own. own_moves b (if_some_at (λ b. IfSome h.own (λ c. AreApart (block_of b) (block_of c))) v.own b e other) own) w.own) w

-- a record whose words stay
link_stays : (words words' : List ℕ) → length words' ≡ length words → (at : ℕ) (l : Link) → record_value words' at ≡ record_value words at → IsLink words at l → IsLink words' at l
link_stays words words' count at l same c = record { stamp = c.stamp; within = let within = c.within in omega (arith, count, within); value = same ∙ c.value }

-- a chain whose words stay
pub chain_stays : (words words' : List ℕ) → length words' ≡ length words → (at : ℕ) (links : List Link) →
    AllByRecursion (λ l. (prev_of words' l.stamp ≡ prev_of words l.stamp) × (record_value words' l.stamp ≡ record_value words l.stamp)) links → IsChain words at links → IsChain words' at links
chain_stays words words' count at [] all c = c
chain_stays words words' count at (l ∷ []) all c =
    let both : (prev_of words' at ≡ prev_of words at) × (record_value words' at ≡ record_value words at) =
    subst (λ n. (prev_of words' n ≡ prev_of words n) × (record_value words' n ≡ record_value words n)) c.0.stamp all.0 in
    (link_stays words words' count at l both.1 c.0, both.0 ∙ c.1)
chain_stays words words' count at (l ∷ k ∷ ls) all c =
    let both : (prev_of words' at ≡ prev_of words at) × (record_value words' at ≡ record_value words at) =
    subst (λ n. (prev_of words' n ≡ prev_of words n) × (record_value words' n ≡ record_value words n)) c.0.stamp all.0 in
    (link_stays words words' count at l both.1 c.0, subst (λ n. IsChain words' n (k ∷ ls)) (sym both.0) (chain_stays words words' count (prev_of words at) (k ∷ ls) all.1 c.1))

module _ (z : Layout) (o : Opening) (words words' : List ℕ) (before : List Holding) (h h' : Holding) (after : List Holding) (log : List Applied) (w : LawfulWords z o words (before ++ h ∷ after) log)
    (m : Moves z words words' h h') where
  -- what is apart from each block that isn't published is apart from the port's own
  from_own : (b : Block) → AllByRecursion (AreApart b) (unpublished (before ++ h ∷ after)) → IfSome h.own (λ c. AreApart b (block_of c))
  from_own b all = (all_at (λ v. IsFreeOf v b) before h after (unpublished_all (AreApart b) (before ++ h ∷ after) all)).0

  -- the words of records of the history stay
  pub entry_word : (k : ℕ) (e : Applied) (n : ℕ) → slice_get log k ≡ Some e → n < (block_at words e.stamp).size → slice_index words' (e.stamp + n) ≡ slice_index words (e.stamp + n)
  entry_word k e n s below =
      let entry : IsEntry z words e = AllByRecursion-get (IsEntry z words) log k e w.entries s in
      let above = entry.above in
      let b = block_at words e.stamp in
      m.same (e.stamp + n) (omega (arith, above)) (if_some (λ c. AreApart (block_at words e.stamp) (block_of c)) (λ c. AreApart (word_at (e.stamp + n)) (block_of c)) h.own
      (λ c is a. part_apart (word_at (e.stamp + n)) (block_at words e.stamp) (block_of c) (omega arith) (omega (arith, below)) a)
      (from_own b (entry_free z o words (before ++ h ∷ after) log w k e s)))

  pub entry_three : (k : ℕ) (e : Applied) (n : ℕ) → slice_get log k ≡ Some e → n < plain_record_size → slice_index words' (e.stamp + n) ≡ slice_index words (e.stamp + n)
  entry_three k e n s below = let size = three_words words e.stamp in entry_word k e n s (omega (arith, size, below))

  pub entry_prev : (k : ℕ) (e : Applied) → slice_get log k ≡ Some e → prev_of words' e.stamp ≡ prev_of words e.stamp
  entry_prev k e s = let none : prev_word e.stamp ≡ e.stamp + prev_word 0 = omega arith in ap (λ n. slice_index words' n) none ∙ entry_three k e (prev_word 0) s (omega arith)
      ∙ ap (λ n. slice_index words n) (sym none)

  pub entry_value : (k : ℕ) (e : Applied) → slice_get log k ≡ Some e → record_value words' e.stamp ≡ record_value words e.stamp
  entry_value k e s = let there : value_word e.stamp ≡ e.stamp + value_word 0 = omega arith in ap (λ n. slice_index words' n) there ∙ entry_three k e (value_word 0) s (omega arith)
      ∙ ap (λ n. slice_index words n) (sym there)

  pub initial_word : (n : ℕ) → pool_base z ≤ n → n < first_free z → slice_index words' n ≡ slice_index words n
  initial_word n from to =
      let b : Block = record { at = pool_base z; size = initial_words z } in
      m.same n (omega (arith, from)) (if_some (λ c. AreApart (record { at = pool_base z; size = initial_words z }) (block_of c)) (λ c. AreApart (word_at n) (block_of c)) h.own
      (λ c is a. part_apart (word_at n) (record { at = pool_base z; size = initial_words z }) (block_of c) from (omega (arith, to)) a)
      (from_own b (initial_free z o words (before ++ h ∷ after) log w)))

  -- the chains stay
  pub chain_moves : (j : ℕ) → j < length o.values → IsChain words' (slice_index words j) (chain_of o j log)
  chain_moves j below =
      let base = w.stamps in
      let values = w.values in
      let P : ℕ → Type 0 = λ s. (prev_of words' s ≡ prev_of words s) × (record_value words' s ≡ record_value words s) in
      chain_stays words words' m.count (slice_index words j) (chain_of o j log)
      (chain_all P o j log (all_where (λ (e : Applied). P e.stamp) log (λ k e s. (entry_prev k e s, entry_value k e s))) (
        initial_word (prev_word (initial_stamp o j)) (omega (arith, base)) (omega (arith, base, values, below)),
        initial_word (value_word (initial_stamp o j)) (omega (arith, base))
            (omega (arith, base, values, below)),
      ))
      (w.agrees j below).1

  pub agrees_stay : ((j : ℕ) → j < z.m → slice_index words' j ≡ slice_index words j) → Agrees o words' log
  agrees_stay same j below =
      let values = w.values in
      let now = same j (omega (arith, values, below)) in
      (now ∙ (w.agrees j below).0, subst (λ n. IsChain words' n (chain_of o j log)) (sym now) (chain_moves j below))

  -- the blocks of the records of the history stay
  pub entries_stay : map (λ e. block_at words' e.stamp) log ≡ map (λ e. block_at words e.stamp) log
  entries_stay = map_same (λ (e : Applied). block_at words' e.stamp) (λ (e : Applied). block_at words e.stamp) log
      (all_where (λ (e : Applied). block_at words' e.stamp ≡ block_at words e.stamp) log (λ k e s. block_stays words words' e.stamp (λ n below. entry_word k e n s below)))

  pub blocks_stay : (hs : List Holding) → EachTwo AreApart (blocks_in z words hs log) → EachTwo AreApart (blocks_in z words' hs log)
  blocks_stay hs two = subst (λ (l : List Block). EachTwo AreApart (record { at = pool_base z; size = initial_words z } ∷ (l ++ (announcements hs ++ unpublished hs)))) (sym entries_stay) two

  -- what the ports of the other holdings own is apart from what the port owns
  pub own_before : AllByRecursion (HaveOtherBlocks h) before
  own_before = two_before HaveOtherBlocks blocks_turn before h after (apart_others (before ++ h ∷ after) (unpublished_two z o words (before ++ h ∷ after) log w))

  pub own_after : AllByRecursion (HaveOtherBlocks h) after
  own_after = two_after HaveOtherBlocks blocks_turn before h after (apart_others (before ++ h ∷ after) (unpublished_two z o words (before ++ h ∷ after) log w))
