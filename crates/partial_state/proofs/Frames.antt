-- What a step leaves of all that is published: blocks, and all that is said by them.
use Rattle.partial_state.proofs.{Common.{ℕ, ◌≡◌, ◌+◌, ◌<◌, ◌≤◌, ◌⊎◌, List, length, take, slice_index, slice_get, Some, refl, sym, ◌∙◌, ap, subst, inl, inr, arith, cases_lt, Applied, Opening, place_below, Layout, pool_counter, list_counter, slot_word, list_base, list_end, pool_base, StandsAt, view_block, prev_of, view_of, length-pairs, IsViewOf, Block, AreApart, JoinedAnnouncement, HasFreshView, HasPairs, IsView, IsWithin, IsBegunSince, Covers, ViewNames, IsAnnounced, IsPublishedList, IsApartFrom, IsHead, IsPublished, IsSlotAnswer, value_of, announcement_block, announcement_size, list_block, Counted, ListWords, PoolWords, counter}, ListLemmas.all_weaker}
use Rattle.partial_intervals.specs.Intervals.{Ranges}

-- one word
abbrev pub word_at : ℕ → Block
word_at w = record { at = w; size = 1 }

-- all words of the block are claimed
abbrev pub IsClaimedBlock : Layout → List ℕ → Block → Type 0
IsClaimedBlock z words b = ((b.at + b.size ≤ list_end z) × (b.at + b.size ≤ slice_index words (list_counter z))) ⊎ ((pool_base z ≤ b.at) × (b.at + b.size ≤ slice_index words (pool_counter z)))

-- A step leads from words to words', and the blocks that aren't published are us before and us' after it: the
-- counters don't fall, no published word changes nor is any more one of an unpublished block, and a vacated slot stays so.
pub record Frame (z : Layout) (words words' : List ℕ) (us us' : List Block) : Type 0 where
  pub count : length words' ≡ length words
  pub rises : (c : Counted) → slice_index words (counter z c).word ≤ slice_index words' (counter z c).word
  pub same : (w : ℕ) → list_base z ≤ w → IsPublished z words us w → slice_index words' w ≡ slice_index words w
  pub apart : (b : Block) → IsClaimedBlock z words b → IsApartFrom us b → IsApartFrom us' b
  pub vacated : (l : ℕ) → l < z.slots → slice_index words (slot_word z l) ≡ 1 → slice_index words' (slot_word z l) ≡ 1

-- the history grows: its places stay, and the stamps of newer entries are not within the old one
pub record Grows (o : Opening) (log log' : List Applied) : Type 0 where
  pub more : length log ≤ length log'
  pub longer : (k : ℕ) (e : Applied) → slice_get log k ≡ Some e → slice_get log' k ≡ Some e
  pub older : (k : ℕ) (e : Applied) → slice_get log' k ≡ Some e → k < length log → slice_get log k ≡ Some e
  pub takes : (n : ℕ) → n ≤ length log → take n log' ≡ take n log
  pub newer : (k : ℕ) (e : Applied) → slice_get log' k ≡ Some e → length log ≤ k → (n : ℕ) → IsWithin o log n e.stamp → ⊥

-- a history that stays
pub stays : (o : Opening) (log : List Applied) → Grows o log log
stays o log = record {
  more = omega arith;
  longer = λ k e s. s;
  older = λ k e s below. s;
  takes = λ n below. refl;
  newer = λ k e s from n h. let below =
      place_below log k e s in absurd (omega (arith, below, from));
}

-- a part of a block is apart from what the block is apart from
pub part_apart : (a b c : Block) → b.at ≤ a.at → a.at + a.size ≤ b.at + b.size → AreApart b c → AreApart a c
part_apart a b c from to (inl h) = inl (omega (arith, from, to, h))
part_apart a b c from to (inr h) = inr (omega (arith, from, to, h))

pub parts_apart : (us : List Block) (a b : Block) → b.at ≤ a.at → a.at + a.size ≤ b.at + b.size → IsApartFrom us b → IsApartFrom us a
parts_apart us a b from to w = all_weaker (AreApart b) (AreApart a) (λ c h. part_apart a b c from to h) us w

pub apart_turns : (a b : Block) → AreApart a b → AreApart b a
apart_turns a b (inl h) = inr h
apart_turns a b (inr h) = inl h

pub within_more : (o : Opening) (log : List Applied) (n k stamp : ℕ) → n ≤ k → IsWithin o log n stamp → IsWithin o log k stamp
within_more o log n k stamp le (inl h) = inl h
within_more o log n k stamp le (inr h) = let below = h.2 in inr (h.0, h.1, omega (arith, below, le), h.3, h.4)

pub within_grows : (o : Opening) (log log' : List Applied) (n stamp : ℕ) → Grows o log log' → IsWithin o log n stamp → IsWithin o log' n stamp
within_grows o log log' n stamp g (inl h) = inl h
within_grows o log log' n stamp g (inr h) = inr (h.0, h.1, h.2, g.longer h.0 h.1 h.3, h.4)

-- an entry whose stamp is within the old history is one of it
pub begun_back : (o : Opening) (log log' : List Applied) (since n prev : ℕ) → Grows o log log' → IsWithin o log n prev → IsBegunSince log' since prev → IsBegunSince log since prev
begun_back o log log' since n prev g within w = elim (cases_lt w.0 (length log)) [
  | inl below ↦ (w.0, w.1, w.2, g.older w.0 w.1 w.3 below, w.4)
  | inr from ↦ absurd (g.newer w.0 w.1 w.3 from n (subst (IsWithin o log n) (sym w.4) within))
]

-- all words of what is published are claimed
pub view_claimed : (z : Layout) (words : List ℕ) (us : List Block) (at : ℕ) (pairs : List (ℕ × ℕ)) → IsView z words us at pairs →
    IsClaimedBlock z words (record { at = at; size = length (view_block pairs) })
view_claimed z words us at pairs w = let above = w.above in inr (omega (arith, above), w.below)

pub announcement_claimed : (z : Layout) (words : List ℕ) (us : List Block) (at : ℕ) (indices : List ℕ) → IsAnnounced z words us at indices →
    IsClaimedBlock z words (record { at = at; size = announcement_size (length indices) })
announcement_claimed z words us at indices w = let above = w.above in let below = w.below in inr (omega (arith, above), omega (arith, below))

pub list_claimed : (z : Layout) (words : List ℕ) (us : List Block) (at : ℕ) (list : Ranges) → IsPublishedList z words us at list →
    IsClaimedBlock z words (record { at = at; size = length (list_block list) })
list_claimed z words us at list w = let to = w.whole.to in let pairs = length-pairs list in inl (omega (arith, to, pairs), w.below)

-- a word of a published block is published
pub block_published : (z : Layout) (words : List ℕ) (us : List Block) (b : Block) (w : ℕ) → IsClaimedBlock z words b → IsApartFrom us b → b.at ≤ w → w < b.at + b.size → IsPublished z words us w
block_published z words us b w claimed apart from to =
    record {
      claimed = elim claimed [
        | inl h ↦ let a = h.0 in let c = h.1 in inl (omega (arith, a, to), omega (arith, c, to))
        | inr h ↦ let a = h.0 in let c =
            h.1 in inr (omega (arith, a, from), omega (arith, c, to))
      ];
      apart = parts_apart us (word_at w) b from (omega (arith, to)) apart;
    }

-- whose block a view stands in
owned_moves : (o : Opening) (log log' : List Applied) (stamp v v' : ℕ) → Grows o log log' → v' ≡ v → IsViewOf log stamp v → IsViewOf log' stamp v'
owned_moves o log log' stamp v v' g same (inl none) = inl (same ∙ none)
owned_moves o log log' stamp v v' g same (inr (inl own)) = inr (inl (same ∙ own))
owned_moves o log log' stamp v v' g same (inr (inr its)) = inr (inr (its.0, its.1, g.longer its.0 its.1 its.2, same ∙ its.3))

module _ (z : Layout) (words words' : List ℕ) (us us' : List Block) (f : Frame z words words' us us') where
  pub published_moves : (w : ℕ) → IsPublished z words us w → IsPublished z words' us' w
  published_moves w p =
      let more = f.rises ListWords in
      let most = f.rises PoolWords in
      let claimed : IsClaimedBlock z words (word_at w) = elim (p.claimed) [
        | inl h ↦ let a = h.0 in let b = h.1 in inl (omega (arith, a), omega (arith, b))
        | inr h ↦ let b =
            h.1 in inr (h.0, omega (arith, b))
      ] in
      record {
        claimed = elim (p.claimed) [ inl h ↦ let b = h.1 in inl (h.0, omega (arith, b, more)) | inr h ↦ let b = h.1 in inr (h.0, omega (arith, b, most)) ];
        apart = f.apart (word_at w) claimed p.apart;
      }

  -- no word of a published block changes
  pub block_same : (b : Block) (w : ℕ) → list_base z ≤ b.at → IsClaimedBlock z words b → IsApartFrom us b → b.at ≤ w → w < b.at + b.size → slice_index words' w ≡ slice_index words w
  block_same b w far claimed apart from to = f.same w (omega (arith, far, from)) (block_published z words us b w claimed apart from to)

  pub stands_moves : (at : ℕ) (block : List ℕ) → list_base z ≤ at → IsClaimedBlock z words (record { at = at; size = length block }) → IsApartFrom us (record { at = at; size = length block }) →
      StandsAt words at block → StandsAt words' at block
  stands_moves at block far claimed apart w k below =
      let h = w k below in
      let count = f.count in
      let room = h.0 in
      (omega (arith, count, room), block_same (record { at = at; size = length block }) (at + k) far claimed apart (omega arith) (omega (arith, below)) ∙ h.1)

  pub view_moves : (at : ℕ) (pairs : List (ℕ × ℕ)) → IsView z words us at pairs → IsView z words' us' at pairs
  view_moves at pairs w =
      let block : Block = record { at = at; size = length (view_block pairs) } in
      let above = w.above in
      let below = w.below in
      let more = f.rises PoolWords in
      let claimed = view_claimed z words us at pairs w in
      record {
        above = w.above;
        within = w.within;
        below = omega (arith, below, more);
        few = w.few;
        components = w.components;
        distinct = w.distinct;
        stands = stands_moves at (view_block pairs) (omega (arith, above)) claimed w.apart w.stands;
        apart = f.apart block claimed w.apart;
      }

  pub pairs_move : (stamp : ℕ) (pairs : List (ℕ × ℕ)) → view_of words' stamp ≡ view_of words stamp → HasPairs z words us stamp pairs → HasPairs z words' us' stamp pairs
  pairs_move stamp pairs view (inl h) = inl (view ∙ h.0, h.1)
  pairs_move stamp pairs view (inr h) = inr (subst (λ n. IsView z words' us' n pairs) (sym view) (view_moves (view_of words stamp) pairs h))

  pub announced_moves : (at : ℕ) (indices : List ℕ) → IsAnnounced z words us at indices → IsAnnounced z words' us' at indices
  announced_moves at indices w =
      let block : Block = record { at = at; size = announcement_size (length indices) } in
      let above = w.above in
      let below = w.below in
      let more = f.rises PoolWords in
      let claimed = announcement_claimed z words us at indices w in
      let size : length (announcement_block indices) ≡ announcement_size (length indices) = omega arith in
      let a = w.whole in
      record {
        whole = record {
          from = a.from;
          to = a.to;
          count = a.count;
          each = a.each;
          stands = stands_moves at (announcement_block indices) (omega (arith, above)) (subst (λ n. IsClaimedBlock z words (record { at = at; size = n })) (sym size) claimed)
              (subst (λ n. IsApartFrom us (record { at = at; size = n })) (sym size) w.apart) a.stands;
        };
        above = w.above;
        below = omega (arith, below, more);
        apart = f.apart block claimed w.apart;
      }

  pub list_moves : (at : ℕ) (list : Ranges) → IsPublishedList z words us at list → IsPublishedList z words' us' at list
  list_moves at list w =
      let block : Block = record { at = at; size = length (list_block list) } in
      let below = w.below in
      let more = f.rises ListWords in
      let a = w.whole in
      let from = a.from in
      let claimed = list_claimed z words us at list w in
      record {
        whole = record {
          from = a.from;
          to = a.to;
          normal = a.normal;
          stands = stands_moves at (list_block list) from claimed w.apart a.stands;
          within = a.within;
          vacated = λ x holds. f.vacated x (a.within x holds) (a.vacated x holds);
        };
        below = omega (arith, below, more);
        apart = f.apart block claimed w.apart;
      }

  pub head_moves : (x : ℕ) → IsHead z words us x → IsHead z words' us' x
  head_moves x (inl h) = inl h
  head_moves x (inr h) = inr (h.0, list_moves x h.0 h.1)

  pub slot_moves : (l x : ℕ) → l < z.slots → IsSlotAnswer z words us l x → IsSlotAnswer z words' us' l x
  slot_moves l x below (inl h) = inl h
  slot_moves l x below (inr (inl h)) = inr (inl (h.0, f.vacated l below h.1))
  slot_moves l x below (inr (inr h)) = inr (inr (h.0, announced_moves x h.0 h.1))

  pub names_move : (stamp : ℕ) (indices : List ℕ) → view_of words' stamp ≡ view_of words stamp → ViewNames z words us stamp indices → ViewNames z words' us' stamp indices
  names_move stamp indices view w = (w.0, pairs_move stamp w.0 view w.1, w.2)

  module _ (o : Opening) (log log' : List Applied) (g : Grows o log log') (stamp : ℕ) (prev : prev_of words' stamp ≡ prev_of words stamp) (view : view_of words' stamp ≡ view_of words stamp) where
    pub fresh_moves : (k k' : ℕ) → k ≤ k' → k ≤ length log → HasFreshView z o words us log k stamp → HasFreshView z o words' us' log' k' stamp
    fresh_moves k k' later within w =
        let without = w.without in
        let same : take w.prefix log' ≡ take w.prefix log = g.takes w.prefix (omega (arith, without, within)) in
        record {
          pairs = w.pairs;
          shown = pairs_move stamp w.pairs view w.shown;
          owner = owned_moves o log log' stamp (view_of words stamp) (view_of words' stamp) g view w.owner;
          prefix = w.prefix;
          contains = subst (IsWithin o log' w.prefix) (sym prev) (within_grows o log log' w.prefix (prev_of words stamp) g w.contains);
          without = omega (arith, without, later);
          values = all_weaker (λ pair. pair.1 ≡ value_of o (take w.prefix log) pair.0) (λ pair. pair.1 ≡ value_of o (take w.prefix log') pair.0)
              (λ pair h. h ∙ ap (λ (l : List Applied). value_of o l pair.0) (sym same)) w.pairs w.values;
        }

    pub covers_moves : (n : ℕ) (j : JoinedAnnouncement) → IsWithin o log n (prev_of words stamp) → Covers z words us log stamp j → Covers z words' us' log' stamp j
    covers_moves n j within w begun = names_move stamp j.indices view (w (begun_back o log log' j.since n (prev_of words stamp) g within (subst (IsBegunSince log' j.since) prev begun)))

    -- an announcement whose port has joined since is covered by each record of the old history
    pub covers_newer : (n : ℕ) (j : JoinedAnnouncement) → IsWithin o log n (prev_of words stamp) → length log ≤ j.since → Covers z words' us' log' stamp j
    covers_newer n j within late begun =
        let back = begun_back o log log' j.since n (prev_of words stamp) g within (subst (IsBegunSince log' j.since) prev begun) in
        let below = place_below log back.0 back.1 back.3 in
        let since = back.2 in
        absurd (omega (arith, late, below, since))
