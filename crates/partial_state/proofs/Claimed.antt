-- The blocks of lawful words: all their words are claimed, and those that are published are apart from the others.
use Rattle.partial_state.proofs.{Common.{ℕ, ◌≡◌, ◌+◌, ◌<◌, ◌≤◌, ◌==◌, ◌++◌, Bool, true, false, if◌then◌else◌, List, [], ◌∷◌, length, map, slice_index, Option, Some, None, IfSome, MatchOption, slice_get, refl, ◌∙◌, ap, subst, inl, inr, arith, AllByRecursion, cons_option, option_map, eqb-true, Applied, Opening, Layout, pool_counter, slot_word, pool_base, view_of, view_len, length-pairs, Block, AreApart, JoinedAnnouncement, HasPairs, IsAnnounced, IsApartFrom, ClaimedSlot, Holding, Space, space_begin, end_of, counter_of, block_of, block_at, announcements, unpublished, blocks_in, joined_in, EachTwo, Pool, Lists, LawfulWords, IsOwn, IsSpare, IsTied, IsClaim, IsEntry, IsPublished, AllByRecursion-get, all_where, own_view, plain_record_size, full_record_size, initial_words, PoolWords}, ListLemmas.{all_append, all_back, all_map, all_unmap, all_weaker, two_back, two_across}, Frames.{IsClaimedBlock, announcement_claimed, block_published}, HoldingLemmas.{if_some, if_all, all_unpublished}, Blocks.announcement_of}

-- what holds of the value that stands there
pub match_some : {A : Type 0} (P : Type 0) (Q : A → Type 0) (f : Option A) (a : A) → f ≡ Some a → MatchOption f P Q → Q a
match_some P Q f a e w = let h : MatchOption (Some a) P Q = subst (λ (f : Option _). MatchOption f P Q) e w in h

-- a record of the history with its view lies below the pool's counter
entry_below : (z : Layout) (words : List ℕ) (us : List Block) (stamp : ℕ) (pairs : List (ℕ × ℕ)) → HasPairs z words us stamp pairs → stamp + plain_record_size ≤ slice_index words (pool_counter z) →
    stamp + (block_at words stamp).size ≤ slice_index words (pool_counter z)
entry_below z words us stamp pairs shown low = either (view_of words stamp == own_view stamp) refl shown
  where
    sized : (b : Bool) (n : ℕ) → stamp + plain_record_size ≤ slice_index words (pool_counter z) → (b ≡ true → stamp + full_record_size n ≤ slice_index words (pool_counter z)) →
        stamp + (if b then full_record_size n else plain_record_size) ≤ slice_index words (pool_counter z)
    sized true n low f = f refl
    sized false n low f = low

    either : (b : Bool) → (view_of words stamp == own_view stamp) ≡ b → HasPairs z words us stamp pairs → stamp + (block_at words stamp).size ≤ slice_index words (pool_counter z)
    either b e (inl h) = sized (view_of words stamp == own_view stamp) (view_len words (own_view stamp)) low
        (λ t. let is = eqb-true (view_of words stamp) (own_view stamp) t in let none = h.0 in absurd (omega (arith, is, none)))
    either b e (inr h) = sized (view_of words stamp == own_view stamp) (view_len words (own_view stamp)) low (λ t.
        let is : view_of words stamp ≡ own_view stamp = eqb-true (view_of words stamp) (own_view stamp) t in
        let first : slice_index words (view_of words stamp + 0) ≡ length pairs = (h.stands 0 (omega arith)).1 in
        let count : slice_index words (own_view stamp) ≡ length pairs = ap (λ n. slice_index words n) (omega (arith, is)) ∙ first in
        let below = h.below in
        let long = length-pairs pairs in
        omega (arith, is, count, below, long))

-- what holds of each announcement holds of each port's
all_announcements : (P : Block → Type 0) (hs : List Holding) → AllByRecursion (λ h. IfSome h.claimed (λ c. IfSome c.joined (λ j. P (announcement_of j)))) hs → AllByRecursion P (announcements hs)
all_announcements P [] w = tt
all_announcements P (h ∷ hs) w = more P (joined_in h.claimed) (announcements hs) (joined P h.claimed w.0) (all_announcements P hs w.1)
  where
    joined : (P : Block → Type 0) (f : Option ClaimedSlot) → IfSome f (λ c. IfSome c.joined (λ j. P (announcement_of j))) → IfSome (joined_in f) (λ j. P (announcement_of j))
    joined P None w = tt
    joined P (Some c) w = w

    more : (P : Block → Type 0) (f : Option JoinedAnnouncement) (rest : List Block) → IfSome f (λ j. P (announcement_of j)) → AllByRecursion P rest →
        AllByRecursion P (cons_option (option_map announcement_of f) rest)
    more P None rest w v = v
    more P (Some j) rest w v = (w, v)

-- all words of a port's own block are claimed
own_claimed : (z : Layout) (words : List ℕ) (s : Space) (at n : ℕ) → space_begin z s ≤ at → at + n ≤ end_of z s → at + n ≤ slice_index words (counter_of z s) →
    IsClaimedBlock z words (record { at = at; size = n })
own_claimed z words Pool at n above within below = inr (omega (arith, above), below)
own_claimed z words Lists at n above within below = inl (within, below)

pub spare_claimed : (z : Layout) (words : List ℕ) (b : Block) → IsSpare z words b → IsClaimedBlock z words b
spare_claimed z words b w = let above = w.above in inr (omega (arith, above), w.below)

module _ (z : Layout) (o : Opening) (words : List ℕ) (hs : List Holding) (log : List Applied) (w : LawfulWords z o words hs log) where
  -- no two blocks that aren't published share a word
  pub unpublished_two : EachTwo AreApart (unpublished hs)
  unpublished_two = two_back AreApart (announcements hs) (unpublished hs) (two_back AreApart (map (λ e. block_at words e.stamp) log) (announcements hs ++ unpublished hs) w.apart.1)

  -- the records of the history share no word with them, nor do the initial ones
  pub entry_free : (k : ℕ) (e : Applied) → slice_get log k ≡ Some e → IsApartFrom (unpublished hs) (block_at words e.stamp)
  entry_free k e s =
      let across = two_across AreApart (map (λ e. block_at words e.stamp) log) (announcements hs ++ unpublished hs) w.apart.1 in
      let each = all_unmap (λ b. AllByRecursion (AreApart b) (announcements hs ++ unpublished hs)) (λ e. block_at words e.stamp) log across in
      all_back (AreApart (block_at words e.stamp)) (announcements hs) (unpublished hs)
      (AllByRecursion-get (λ (e : Applied). AllByRecursion (AreApart (block_at words e.stamp)) (announcements hs ++ unpublished hs)) log k e each s)

  pub initial_free : IsApartFrom (unpublished hs) (record { at = pool_base z; size = initial_words z })
  initial_free =
      let b : Block = record { at = pool_base z; size = initial_words z } in
      all_back (AreApart b) (announcements hs) (unpublished hs) (all_back (AreApart b) (map (λ e. block_at words e.stamp) log) (announcements hs ++ unpublished hs) w.apart.0)

  -- all words of blocks are claimed
  pub entry_claimed : (k : ℕ) (e : Applied) → slice_get log k ≡ Some e → IsClaimedBlock z words (block_at words e.stamp)
  entry_claimed k e s =
      let entry : IsEntry z words e = AllByRecursion-get (IsEntry z words) log k e w.entries s in
      let above = entry.above in
      let fresh = w.fresh k e s in
      inr (omega (arith, above), entry_below z words (unpublished hs) e.stamp fresh.pairs fresh.shown entry.below)

  announcements_claimed : AllByRecursion (IsClaimedBlock z words) (announcements hs)
  announcements_claimed =
      let P : JoinedAnnouncement → Type 0 = λ j. IsClaimedBlock z words (announcement_of j) in
      all_announcements (IsClaimedBlock z words) hs (all_weaker (λ (h : Holding). IfSome h.claimed (IsClaim z words hs log)) (λ h. IfSome h.claimed (λ c. IfSome c.joined P))
      (λ h k. if_some (IsClaim z words hs log) (λ c. IfSome c.joined P) h.claimed (λ c e claim. if_all P c.joined (λ j is.
      announcement_claimed z words (unpublished hs) j.at j.indices (match_some (slice_index words (slot_word z c.slot) ≡ 0)
      (λ j. (slice_index words (slot_word z c.slot) ≡ j.at) × (j.since ≤ length log) × IsAnnounced z words (unpublished hs) j.at j.indices) c.joined j is claim.holds).2)) k) hs w.claims)

  unpublished_claimed : AllByRecursion (IsClaimedBlock z words) (unpublished hs)
  unpublished_claimed =
      all_unpublished (IsClaimedBlock z words) hs (all_weaker (IsTied z words) (λ h. IfSome h.own (λ b. IsClaimedBlock z words (block_of b)) × IsClaimedBlock z words h.spare)
      (λ h t. (
        if_some (IsOwn z words) (λ b. IsClaimedBlock z words (block_of b)) h.own
            (λ b e own. own_claimed z words b.space b.at (length b.words) own.above own.within own.below) t.own,
        spare_claimed z words h.spare t.spare,
      )) hs w.tied)

  pub all_claimed : AllByRecursion (IsClaimedBlock z words) (blocks_in z words hs log)
  all_claimed = (
    inr (omega arith, (w.counters PoolWords).low),
    all_append (IsClaimedBlock z words) (map (λ e. block_at words e.stamp) log) (announcements hs ++ unpublished hs)
        (all_map (IsClaimedBlock z words) (λ (e : Applied). block_at words e.stamp) log (all_where (λ (e : Applied). IsClaimedBlock z words (block_at words e.stamp)) log entry_claimed))
        (all_append (IsClaimedBlock z words) (announcements hs) (unpublished hs) announcements_claimed unpublished_claimed),
  )

  -- a word of a record of the history, or of an initial one, is published
  pub entry_published : (k : ℕ) (e : Applied) (n : ℕ) → slice_get log k ≡ Some e → n < (block_at words e.stamp).size → IsPublished z words (unpublished hs) (e.stamp + n)
  entry_published k e n s below = block_published z words (unpublished hs) (block_at words e.stamp) (e.stamp + n) (entry_claimed k e s) (entry_free k e s) (omega arith) (omega (arith, below))
