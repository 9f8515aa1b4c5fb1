-- The steps by which a block is claimed and written, and by which a list is published.
use Rattle.partial_state.proofs.{Common.{ℕ, ◌≡◌, ◌≢◌, ◌+◌, ◌*◌, ◌<◌, ◌≤◌, ◌==◌, ◌++◌, ◌^◌, ◌%◌, Bool, true, false, if◌then◌else◌, option_map, List, ◌∷◌, length, slice_index, slice_set, Option, Some, None, refl, sym, ◌∙◌, ap, subst, inl, inr, arith, get_or-set_other, get_or-set_same, length-set, cases_lt, Applied, Opening, Layout, slot_counter, list_head, pool_counter, list_counter, slot_word, list_base, pool_end, total, length-pairs, Block, AreApart, IsApartFrom, IsPublishedList, IsHead, Own, Holding, Space, space_begin, end_of, counter_of, block_of, unpublished, blocks_in, without_block, EachTwo, Pool, Lists, LawfulWords, IsOwn, IsTied, IsDue, IsKept, ClaimsAreKept, StoresAreKept, PublishingsAreKept, list_block, Counted, ListWords, PoolWords, Slots, counter, marked_ports}, ListLemmas.{all_at, all_weaker, two_take, two_put}, Frames.{IsClaimedBlock, word_at, apart_turns, head_moves}, Claimed.{unpublished_two, all_claimed}, HoldingLemmas.{own_far, if_some_at, none_here, marks_kept}, Blocks.{unpublished_like, announced_same, own_added, blocks_same, own_block_added}, Rebuild.{Moves, spare_moves, frame_of}, NoNewEntry.{calm, fits_word, head_stays, high_stays, marked_stays, counters_stay, counters_same}, MarkLaws.block_given_up}

module _ (z : Layout) (o : Opening) (words : List ℕ) (before : List Holding) (h : Holding) (after : List Holding) (log : List Applied) (w : LawfulWords z o words (before ++ h ∷ after) log) where
  -- a block from the counter on is apart from each that is claimed
  fresh_apart : (s : Space) (n : ℕ) → slice_index words (counter_of z s) + n ≤ end_of z s → (b : Block) → IsClaimedBlock z words b → AreApart b (record { at = slice_index words (counter_of z s); size = n })
  fresh_apart Pool n room b (inl k) = let low = (w.counters PoolWords).low in let a = k.0 in inl (omega (arith, low, a))
  fresh_apart Pool n room b (inr k) = inl k.1
  fresh_apart Lists n room b (inl k) = inl k.1
  fresh_apart Lists n room b (inr k) = let a = k.0 in inr (omega (arith, room, a))

  module _ (space : Space) (block : List ℕ) (unowned : h.own ≡ None) (idle : h.due ≡ None) (room : slice_index words (counter_of z space) + length block ≤ end_of z space) where
    -- the claimed words
    claimed : List ℕ
    claimed = slice_set words (counter_of z space) ((slice_index words (counter_of z space) + length block) % 2 ^ 64)

    counter_low : (s : Space) → pool_counter z ≤ counter_of z s
    counter_low Pool = omega arith
    counter_low Lists = omega arith

    counter_high : (s : Space) → counter_of z s ≤ list_counter z
    counter_high Pool = omega arith
    counter_high Lists = omega arith

    end_high : (s : Space) → end_of z s ≤ pool_end z
    end_high Pool = omega arith
    end_high Lists = omega arith

    start_low : (s : Space) → space_begin z s ≤ slice_index words (counter_of z s)
    start_low Pool = (w.counters PoolWords).low
    start_low Lists = (w.counters ListWords).low

    now : slice_index claimed (counter_of z space) ≡ slice_index words (counter_of z space) + length block
    unfolding claimed
    now =
        let count = w.count in
        let some = w.sizes.slots.0 in
        let most = counter_high space in
        let end = end_high space in
        get_or-set_same words (counter_of z space) ((slice_index words (counter_of z space) + length block) % 2 ^ 64) 0 (omega (arith, count, some, most)) ∙ fits_word z
        (slice_index words (counter_of z space) + length block) w.sizes (omega (arith, room, end))

    other : (k : ℕ) → k ≢ counter_of z space → slice_index claimed k ≡ slice_index words k
    unfolding claimed
    other k differs = get_or-set_other words (counter_of z space) k ((slice_index words (counter_of z space) + length block) % 2 ^ 64) 0 differs

    -- a counter is where it was, or after the block
    counter_now : (c : Counted) (s : Space) → (slice_index claimed (counter_of z s) ≡ slice_index words (counter_of z s) + length block) → ((k : ℕ) → k ≢ counter_of z s → slice_index claimed k ≡ slice_index words k) →
        slice_index words (counter_of z s) + length block ≤ end_of z s → (slice_index words (counter z c).word ≤ slice_index claimed (counter z c).word) ×
        ((n : ℕ) → slice_index words (counter z c).word ≤ (counter z c).end + n → slice_index claimed (counter z c).word ≤ (counter z c).end + n)
    counter_now PoolWords Pool now other room = (omega (arith, now), λ n high. omega (arith, now, room))
    counter_now ListWords Lists now other room = (omega (arith, now), λ n high. omega (arith, now, room))
    counter_now PoolWords Lists now other room = let same = other (pool_counter z) (λ e. omega (arith, e)) in (omega (arith, same), λ n high. omega (arith, same, high))
    counter_now ListWords Pool now other room = let same = other (list_counter z) (λ e. omega (arith, e)) in (omega (arith, same), λ n high. omega (arith, same, high))
    counter_now Slots Pool now other room = let same = other (slot_counter z) (λ e. omega (arith, e)) in (omega (arith, same), λ n high. omega (arith, same, high))
    counter_now Slots Lists now other room = let same = other (slot_counter z) (λ e. omega (arith, e)) in (omega (arith, same), λ n high. omega (arith, same, high))

    pub claim_is_kept : IsKept z o words before h after log (slice_set words (counter_of z space) ((slice_index words (counter_of z space) + length block) % 2 ^ 64))
        (record h { own = Some (record { space = space; at = slice_index words (counter_of z space); words = block; stored = 0 }) }) log
    unfolding claimed
    claim_is_kept =
        let h' : Holding = record h { own = Some (record { space = space; at = slice_index words (counter_of z space); words = block; stored = 0 }) } in
        let b : Own = record { space = space; at = slice_index words (counter_of z space); words = block; stored = 0 } in
        let most = counter_high space in
        let least = counter_low space in
        let slots : slice_index claimed (slot_counter z) ≡ slice_index words (slot_counter z) = other (slot_counter z) (λ e. omega (arith, e, least)) in
        let slot_words : (l : ℕ) → l < z.slots → slice_index claimed (slot_word z l) ≡ slice_index words (slot_word z l) = λ l inside. other (slot_word z l) (λ e. omega (arith, e, most)) in
        let far : (k : ℕ) → list_base z ≤ k → slice_index claimed k ≡ slice_index words k = λ k above. other k (λ e. omega (arith, above, e, most)) in
        let m : Moves z words claimed h h' = record {
          port = refl;
          count = length-set words (counter_of z space) ((slice_index words (counter_of z space) + length block) % 2 ^ 64);
          rises = λ c. (counter_now c space now other room).0;
          same = λ k above free. far k above;
          apart = λ x taken free. (fresh_apart space (length block) room x taken, free.1);
          slot = λ l inside free. slot_words l inside;
          vacated = λ l inside one. slot_words l inside ∙ one;
        } in
        let tied = all_at (IsTied z words) before h after w.tied in
        let added = own_block_added z words (before ++ h' ∷ after) (before ++ h ∷ after) log (block_of b) (announced_same before h' h after refl) (own_added before h' h after b unowned refl refl) in
        let free = all_weaker (IsClaimedBlock z words) (AreApart (block_of b)) (λ x taken. apart_turns x (block_of b) (fresh_apart space (length block) room x taken))
        (blocks_in z words (before ++ h ∷ after) log) (all_claimed z o words (before ++ h ∷ after) log w) in
        calm z o words claimed before h h' after log w (record {
          moves = m;
          components = λ j below. other j (λ e. omega (arith, below, e, least));
          tied = record {
            own = record { above = start_low space; within = room; below = omega (arith, now); few = omega arith; stands = λ i stored. absurd (omega (arith, stored)) };
            spare = spare_moves z words claimed h h' m h.spare tied.spare;
            marked = marked_stays z words claimed before h h' after (marks_kept h h' refl refl refl) m.rises tied.marked;
          };
          apart = two_put AreApart apart_turns (block_of b) (blocks_in z words (before ++ h ∷ after) log) (blocks_in z words (before ++ h' ∷ after) log) added w.apart free;
          due = none_here (IsDue z o claimed h' (without_block h'.port (before ++ h' ∷ after)) log) h.due idle;
          claimed = refl;
          slot_words = slot_words;
          counts = λ l below inside. omega (arith, below, slots);
          head = head_stays z o words claimed before h h' after log w m (other (list_head z) (λ e. omega (arith, e, least)));
          counters = λ c. high_stays z words claimed before h h' after c (marks_kept h h' refl refl refl c)
              ((counter_now c space now other room).1 ((counter z c).greatest * marked_ports c (before ++ h ∷ after)) (w.counters c).high);
        })

pub claims_are_kept : ClaimsAreKept
claims_are_kept z o words before h after log space block w unowned idle room = claim_is_kept z o words before h after log w space block unowned idle room

-- a port's own block lies within the words
own_within : (z : Layout) (words : List ℕ) (b : Own) → IsOwn z words b → b.at + length b.words ≤ total z
own_within z words b w = within b.space b.at (length b.words) w.within
  where
    within : (s : Space) (at n : ℕ) → at + n ≤ end_of z s → at + n ≤ total z
    within Pool at n w = w
    within Lists at n w = omega (arith, w)

-- a word apart from the block isn't one of it
not_inside : (n at k size : ℕ) → k < size → AreApart (word_at n) (record { at = at; size = size }) → n ≢ at + k
not_inside n at k size below (inl h) = λ e. omega (arith, h, e)
not_inside n at k size below (inr h) = λ e. omega (arith, h, e, below)

counter_before : (z : Layout) (s : Space) → counter_of z s < list_base z
counter_before z Pool = omega arith
counter_before z Lists = omega arith

pub stores_are_kept : StoresAreKept
stores_are_kept z o words before h after log b w is idle more =
    let b' : Own = record b { stored = b.stored + 1 } in
    let h' : Holding = record h { own = Some (record b { stored = b.stored + 1 }) } in
    let n = b.at + b.stored in
    let v = slice_index b.words b.stored in
    let words' = slice_set words n v in
    let count = w.count in
    let tied = all_at (IsTied z words) before h after w.tied in
    let own : IsOwn z words b = if_some_at (IsOwn z words) h.own b is tied.own in
    let within = own_within z words b own in
    let above = own_far z words b own in
    let other : (k : ℕ) → k ≢ n → slice_index words' k ≡ slice_index words k = λ k differs. get_or-set_other words n k v 0 differs in
    let low : (k : ℕ) → k < list_base z → slice_index words' k ≡ slice_index words k = λ k below. other k (λ e. omega (arith, above, below, e)) in
    let pool = low (pool_counter z) (omega arith) in
    let lists = low (list_counter z) (omega arith) in
    let slots = low (slot_counter z) (omega arith) in
    let counts = counters_same z words words' pool slots lists in
    let slot_words : (l : ℕ) → l < z.slots → slice_index words' (slot_word z l) ≡ slice_index words (slot_word z l) = λ l room. low (slot_word z l) (omega (arith, room)) in
    let m : Moves z words words' h h' = record {
      port = refl;
      count = length-set words n v;
      rises = λ c. let now = counts c in omega (arith, now);
      same = λ k far free. other k (not_inside k b.at b.stored (length b.words) more (if_some_at (λ c. AreApart (word_at k) (block_of c)) h.own b is free));
      apart = λ x claimed free. (if_some_at (λ c. AreApart x (block_of c)) h.own b is free.0, free.1);
      slot = λ l room free. slot_words l room;
      vacated = λ l room one. slot_words l room ∙ one;
    } in
    let counter = low (counter_of z b.space) (counter_before z b.space) in
    let below = own.below in
    calm z o words words' before h h' after log w (record {
      moves = m;
      components = λ j inside. low j (omega (arith, inside));
      tied = record {
        own = record {
          above = own.above;
          within = own.within;
          below = omega (arith, below, counter);
          few = omega (arith, more);
          stands = λ i stored. elim (cases_lt i b.stored) [
            | inl old ↦ other (b.at + i) (λ e. omega (arith, old, e)) ∙ own.stands i old
            | inr from ↦ let last : i ≡ b.stored = omega (arith, from, stored) in ap (λ t. slice_index words' (b.at + t)) last ∙ get_or-set_same words n v 0 (omega (arith, count, within, more)) ∙
                ap (λ t. slice_index b.words t) (sym last)
          ];
        };
        spare = spare_moves z words words' h h' m h.spare tied.spare;
        marked = marked_stays z words words' before h h' after (marks_kept h h' refl refl refl) m.rises tied.marked;
      };
      apart = subst (EachTwo AreApart) (sym (blocks_same z words (before ++ h ∷ after) (before ++ h' ∷ after) log (announced_same before h h' after refl)
          (unpublished_like before h h' after (ap (λ (f : Option Own). option_map block_of f) (sym is)) refl))) w.apart;
      due = none_here (IsDue z o words' h' (without_block h'.port (before ++ h' ∷ after)) log) h.due idle;
      claimed = refl;
      slot_words = slot_words;
      counts = λ l inside room. omega (arith, inside, slots);
      head = head_stays z o words words' before h h' after log w m (low (list_head z) (omega arith));
      counters = counters_stay z words words' before h h' after (marks_kept h h' refl refl refl) counts w.counters;
    })

-- a block that is published is apart from all that aren't
pub own_freed : (before : List Holding) (h h' : Holding) (after : List Holding) (b : Own) → h.own ≡ Some b → h'.own ≡ None → h'.spare ≡ h.spare → EachTwo AreApart (unpublished (before ++ h ∷ after)) →
    IsApartFrom (unpublished (before ++ h' ∷ after)) (block_of b)
own_freed before h h' after b is none spare two = (two_take AreApart apart_turns (block_of b) (unpublished (before ++ h' ∷ after)) (unpublished (before ++ h ∷ after))
    (own_added before h h' after b none is spare) two).1

pub publishings_are_kept : PublishingsAreKept
publishings_are_kept z o words before h after log old at list w idle is normal holds =
    let b : Own = record { space = Lists; at = at; words = list_block list; stored = length (list_block list) } in
    let h' : Holding = record h { own = None } in
    let n = list_head z in
    let v = (if slice_index words n == old then at else slice_index words n) in
    let words' = slice_set words n v in
    let count = w.count in
    let some = w.sizes.slots.0 in
    let tied = all_at (IsTied z words) before h after w.tied in
    let own : IsOwn z words b = if_some_at (IsOwn z words) h.own b is tied.own in
    let other : (k : ℕ) → k ≢ n → slice_index words' k ≡ slice_index words k = λ k differs. get_or-set_other words n k v 0 differs in
    let now : slice_index words' (list_head z) ≡ v = get_or-set_same words n v 0 (omega (arith, count, some)) in
    let pool : slice_index words' (pool_counter z) ≡ slice_index words (pool_counter z) = other (pool_counter z) (λ e. omega (arith, e)) in
    let lists : slice_index words' (list_counter z) ≡ slice_index words (list_counter z) = other (list_counter z) (λ e. omega (arith, e)) in
    let slots : slice_index words' (slot_counter z) ≡ slice_index words (slot_counter z) = other (slot_counter z) (λ e. omega (arith, e)) in
    let counts = counters_same z words words' pool slots lists in
    let slot_words : (l : ℕ) → l < z.slots → slice_index words' (slot_word z l) ≡ slice_index words (slot_word z l) = λ l room. other (slot_word z l) (λ e. omega (arith, e)) in
    let far : (k : ℕ) → list_base z ≤ k → slice_index words' k ≡ slice_index words k = λ k above. other k (λ e. omega (arith, above, e)) in
    let m : Moves z words words' h h' = record {
      port = refl;
      count = length-set words n v;
      rises = λ c. let now = counts c in omega (arith, now);
      same = λ k above free. far k above;
      apart = λ x claimed free. (tt, free.1);
      slot = λ l room free. slot_words l room;
      vacated = λ l room one. slot_words l room ∙ one;
    } in
    let frame = frame_of z words words' h h' m before after in
    let above = own.above in
    let within = own.within in
    let below = own.below in
    let long = length-pairs list in
    let published : IsPublishedList z words' (unpublished (before ++ h' ∷ after)) at list = record {
      whole = record {
        from = own.above;
        to = omega (arith, within, long);
        normal = normal;
        stands = λ k inside. (omega (arith, within, inside, count, frame.count), far (at + k) (omega (arith, above)) ∙ own.stands k inside);
        within = λ x held. (holds x held).0;
        vacated = λ x held. slot_words x (holds x held).0 ∙ (holds x held).1;
      };
      below = omega (arith, below, lists);
      apart = own_freed before h h' after b is refl refl (unpublished_two z o words (before ++ h ∷ after) log w);
    } in
    let head : IsHead z words' (unpublished (before ++ h' ∷ after)) (slice_index words (list_head z)) = head_moves z words words' (unpublished (before ++ h ∷ after)) (unpublished (before ++ h' ∷ after))
    frame (slice_index words (list_head z)) w.head in
    calm z o words words' before h h' after log w (record {
      moves = m;
      components = λ j inside. other j (λ e. omega (arith, inside, e));
      tied = record {
        own = tt;
        spare = spare_moves z words words' h h' m h.spare tied.spare;
        marked = marked_stays z words words' before h h' after (marks_kept h h' refl refl refl) m.rises tied.marked;
      };
      apart = block_given_up z words before h h' after log h.own refl refl refl refl w.apart;
      due = none_here (IsDue z o words' h' (without_block h'.port (before ++ h' ∷ after)) log) h.due idle;
      claimed = refl;
      slot_words = slot_words;
      counts = λ l inside room. omega (arith, inside, slots);
      head = subst (IsHead z words' (unpublished (before ++ h' ∷ after))) (sym now)
          (either z words' (unpublished (before ++ h' ∷ after)) (slice_index words n == old) at (slice_index words n) (inr (list, published)) head);
      counters = counters_stay z words words' before h h' after (marks_kept h h' refl refl refl) counts w.counters;
    })
  where
    either : (z : Layout) (words : List ℕ) (us : List Block) (t : Bool) (x y : ℕ) → IsHead z words us x → IsHead z words us y → IsHead z words us (if t then x else y)
    either z words us true x y p q = p
    either z words us false x y p q = q
