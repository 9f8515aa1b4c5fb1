-- The steps that change no block and no slot: an exchange becomes due, a block is given up, and claims that are refused.
use Rattle.partial_state.proofs.{Common.{ℕ, ◌≡◌, ◌≢◌, ◌+◌, ◌<◌, ◌≤◌, ◌++◌, ◌^◌, ◌%◌, true, List, ◌∷◌, slice_index, slice_set, Option, Some, None, IfSome, refl, sym, ◌∙◌, ap, subst, arith, get_or-set_other, get_or-set_same, length-set, Applied, Layout, slot_counter, list_head, slot_word, list_base, pool_end, Block, AreApart, Own, Holding, block_of, blocks_in, joined_in, EachTwo, IsSpare, IsTied, DuesAreKept, DropsAreKept, greatest_claim, greatest_list, Counted, ListWords, PoolWords, RefusalsAreKept, Slots, counter, is_marked, marked_for, marked_ports, ◌*◌, ◌⊎◌, Opening, inl, inr, false, IsOwn, LawfulWords, IsKept}, ListLemmas.{all_at, two_take}, Frames.apart_turns, HoldingLemmas.{IsFreeOf, marks_kept}, Blocks.{unpublished_same, announced_same, own_added, blocks_same, own_block_added}, Rebuild.{Moves, own_stays, spare_moves}, NoNewEntry.{calm, fits_word, head_stays, due_here, due_stays, high_stays, high_rises, marked_stays, counter_bound}}

-- the words stay
pub still_moves : (z : Layout) (words : List ℕ) (h h' : Holding) → h'.port ≡ h.port → ((b : Block) → IsFreeOf h b → IsFreeOf h' b) →
    Moves z words words h h'
still_moves z words h h' port apart = record {
  port = port;
  count = refl;
  rises = λ c. omega arith;
  same = λ n far free. refl;
  apart = λ b claimed free. apart b free;
  slot = λ l room free. refl;
  vacated = λ l room one. one;
}

-- a block fewer
pub block_given_up : (z : Layout) (words : List ℕ) (before : List Holding) (h h' : Holding) (after : List Holding) (log : List Applied) (f : Option Own) → h.own ≡ f → h'.own ≡ None →
    h'.spare ≡ h.spare → h'.claimed ≡ h.claimed → EachTwo AreApart (blocks_in z words (before ++ h ∷ after) log) → EachTwo AreApart (blocks_in z words (before ++ h' ∷ after) log)
block_given_up z words before h h' after log None e none spare claimed two =
    subst (EachTwo AreApart) (sym (blocks_same z words (before ++ h ∷ after) (before ++ h' ∷ after) log (announced_same before h h' after (ap joined_in claimed))
    (unpublished_same before h h' after (none ∙ sym e) spare))) two
block_given_up z words before h h' after log (Some b) e none spare claimed two =
    (two_take AreApart apart_turns (block_of b) (blocks_in z words (before ++ h' ∷ after) log) (blocks_in z words (before ++ h ∷ after) log)
    (own_block_added z words (before ++ h ∷ after) (before ++ h' ∷ after) log (block_of b) (announced_same before h h' after (ap joined_in claimed)) (own_added before h h' after b none e spare)) two).0

pub drops_are_kept : DropsAreKept
drops_are_kept z o words before h after log w =
    let h' : Holding = record h { own = None; due = None } in
    let m = still_moves z words h h' refl (λ b free. (tt, free.1)) in
    let tied = all_at (IsTied z words) before h after w.tied in
    calm z o words words before h h' after log w (record {
      moves = m;
      components = λ j below. refl;
      tied = record { own = tt; spare = tied.spare; marked = marked_stays z words words before h h' after (marks_kept h h' refl refl refl) m.rises tied.marked };
      apart = block_given_up z words before h h' after log h.own refl refl refl refl w.apart;
      due = tt;
      claimed = refl;
      slot_words = λ l room. refl;
      counts = λ l below room. below;
      head = head_stays z o words words before h h' after log w m refl;
      counters = λ c. high_stays z words words before h h' after c (marks_kept h h' refl refl refl c) (w.counters c).high;
    })

-- where neither blocks nor announcements change
pub blocks_kept : (z : Layout) (words : List ℕ) (before : List Holding) (h h' : Holding) (after : List Holding) (log : List Applied) → h'.own ≡ h.own → h'.spare ≡ h.spare →
    joined_in h'.claimed ≡ joined_in h.claimed → EachTwo AreApart (blocks_in z words (before ++ h ∷ after) log) → EachTwo AreApart (blocks_in z words (before ++ h' ∷ after) log)
blocks_kept z words before h h' after log own spare joined two =
    subst (EachTwo AreApart) (sym (blocks_same z words (before ++ h ∷ after) (before ++ h' ∷ after) log (announced_same before h h' after joined) (unpublished_same before h h' after own spare))) two

pub dues_are_kept : DuesAreKept
dues_are_kept z o words before h after log d w due =
    let h' : Holding = record h { due = Some d } in
    let m = still_moves z words h h' refl (λ b free. free) in
    let tied = all_at (IsTied z words) before h after w.tied in
    calm z o words words before h h' after log w (record {
      moves = m;
      components = λ j below. refl;
      tied = record { own = tied.own; spare = tied.spare; marked = marked_stays z words words before h h' after (marks_kept h h' refl refl refl) m.rises tied.marked };
      apart = blocks_kept z words before h h' after log refl refl refl w.apart;
      due = due_here z o words words before h h' after log w m refl refl (λ e. e) (λ n above. refl) (λ j below. refl) d due;
      claimed = refl;
      slot_words = λ l room. refl;
      counts = λ l below room. below;
      head = head_stays z o words words before h h' after log w m refl;
      counters = λ c. high_stays z words words before h h' after c (marks_kept h h' refl refl refl c) (w.counters c).high;
    })

-- where the counters stand, and how far they can come
word_of_counter : (z : Layout) (c : Counted) → (z.m ≤ (counter z c).word) × ((counter z c).word < list_base z) × (list_head z ≢ (counter z c).word) × ((l : ℕ) → slot_word z l ≢ (counter z c).word)
word_of_counter z PoolWords = (omega arith, omega arith, (λ e. omega (arith, e)), (λ l e. omega (arith, e)))
word_of_counter z Slots = (omega arith, omega arith, (λ e. omega (arith, e)), (λ l e. omega (arith, e)))
word_of_counter z ListWords = (omega arith, omega arith, (λ e. omega (arith, e)), (λ l e. omega (arith, e)))

end_of_counter : (z : Layout) (c : Counted) → (counter z c).end + 256 * (counter z c).greatest ≤ pool_end z + 256 * greatest_claim z + 256 * greatest_list z
end_of_counter z PoolWords = omega arith
end_of_counter z Slots = omega arith
end_of_counter z ListWords = omega arith

-- a port that becomes marked for one counter has the same marks for the others
other_marks : (z : Layout) (c : Counted) (h : Holding) (d : Counted) → (d ≡ c) ⊎ (((counter z d).word ≢ (counter z c).word) × (is_marked d (marked_for c h) ≡ is_marked d h))
other_marks z PoolWords h PoolWords = inl refl
other_marks z PoolWords h Slots = inr ((λ e. omega (arith, e)), refl)
other_marks z PoolWords h ListWords = inr ((λ e. omega (arith, e)), refl)
other_marks z Slots h PoolWords = inr ((λ e. omega (arith, e)), refl)
other_marks z Slots h Slots = inl refl
other_marks z Slots h ListWords = inr ((λ e. omega (arith, e)), refl)
other_marks z ListWords h PoolWords = inr ((λ e. omega (arith, e)), refl)
other_marks z ListWords h Slots = inr ((λ e. omega (arith, e)), refl)
other_marks z ListWords h ListWords = inl refl

-- the holding h' is h, marked for the counter
module _ (z : Layout) (o : Opening) (words : List ℕ) (before : List Holding) (h h' : Holding) (after : List Holding) (log : List Applied) (c : Counted) (size : ℕ)
    (w : LawfulWords z o words (before ++ h ∷ after) log) (unmarked : is_marked c h ≡ false) (small : size ≤ (counter z c).greatest)
    (past : (counter z c).end < slice_index words (counter z c).word + size) (port : h'.port ≡ h.port) (own : h'.own ≡ h.own) (spare : h'.spare ≡ h.spare) (claimed : h'.claimed ≡ h.claimed) (due : h'.due ≡ h.due)
    (on : is_marked c h' ≡ true) (others : (d : Counted) → (d ≡ c) ⊎ (((counter z d).word ≢ (counter z c).word) × (is_marked d h' ≡ is_marked d h))) where
  abbrev n : ℕ
  n = (counter z c).word

  abbrev words' : List ℕ
  words' = slice_set words n ((slice_index words n + size) % 2 ^ 64)

  at : (z.m ≤ n) × (n < list_base z) × (list_head z ≢ n) × ((l : ℕ) → slot_word z l ≢ n)
  at = word_of_counter z c

  now : slice_index words' n ≡ slice_index words n + size
  now =
      let count = w.count in
      let low = at.1 in
      let bound = counter_bound z o words (before ++ h ∷ after) log w c in
      let most = end_of_counter z c in
      get_or-set_same words n ((slice_index words n + size) % 2 ^ 64) 0 (omega (arith, count, low)) ∙ fits_word z (slice_index words n + size) w.sizes (omega (arith, bound, small, most))

  other : (k : ℕ) → k ≢ n → slice_index words' k ≡ slice_index words k
  other k differs = get_or-set_other words n k ((slice_index words n + size) % 2 ^ 64) 0 differs

  far : (k : ℕ) → list_base z ≤ k → slice_index words' k ≡ slice_index words k
  far k above = let low = at.1 in other k (λ e. omega (arith, above, low, e))

  components : (j : ℕ) → j < z.m → slice_index words' j ≡ slice_index words j
  components j below = let from = at.0 in other j (λ e. omega (arith, below, from, e))

  slot_words : (l : ℕ) → l < z.slots → slice_index words' (slot_word z l) ≡ slice_index words (slot_word z l)
  slot_words l room = other (slot_word z l) (at.3 l)

  moves : Moves z words words' h h'
  moves = record {
    port = port;
    count = length-set words n ((slice_index words n + size) % 2 ^ 64);
    rises = λ d. elim (others d) [
      | inl same ↦ subst (λ d. slice_index words (counter z d).word ≤ slice_index words' (counter z d).word) (sym same) (let is = now in omega (arith, is))
      | inr apart ↦ let is = other (counter z d).word apart.0 in omega (arith, is)
    ];
    same = λ k above free. far k above;
    apart = λ b taken free. (subst (λ (f : Option Own). IfSome f (λ a. AreApart b (block_of a))) (sym own) free.0, subst (AreApart b) (sym spare) free.1);
    slot = λ l room free. slot_words l room;
    vacated = λ l room one. slot_words l room ∙ one;
  }

  pub refused : IsKept z o words before h after log words' h' log
  refused =
      let tied = all_at (IsTied z words) before h after w.tied in
      calm z o words words' before h h' after log w (record {
        moves = moves;
        components = components;
        tied = record {
          own = subst (λ (f : Option Own). IfSome f (IsOwn z words')) (sym own) (own_stays z words words' h h' moves far h.own tied.own);
          spare = subst (IsSpare z words') (sym spare) (spare_moves z words words' h h' moves h.spare tied.spare);
          marked = λ d is. elim (others d) [
            | inl same ↦ subst (λ d. (counter z d).end < slice_index words' (counter z d).word) (sym same) (let is' = now in omega (arith, is', past))
            | inr apart ↦ let old = tied.marked d (sym apart.1 ∙ is) in let is' = other (counter z d).word apart.0 in omega (arith, old, is')
          ];
        };
        apart = blocks_kept z words before h h' after log own spare (ap joined_in claimed) w.apart;
        due = due_stays z o words words' before h h' after log w moves own spare due (λ e. ap joined_in claimed ∙ e) far components;
        claimed = claimed;
        slot_words = slot_words;
        counts = λ l below room. elim (others Slots) [
          | inl same ↦
              let over = subst (λ d. (counter z d).end < slice_index words (counter z d).word + size) (sym same) past in
              let one = subst (λ d. size ≤ (counter z d).greatest) (sym same) small in
              omega (arith, room, over, one)
          | inr apart ↦ let is = other (slot_counter z) apart.0 in omega (arith, below, is)
        ];
        head = head_stays z o words words' before h h' after log w moves (other (list_head z) at.2);
        counters = λ d. elim (others d) [
          | inl same ↦ subst (λ d. slice_index words' (counter z d).word ≤ (counter z d).end + (counter z d).greatest * marked_ports d (before ++ h' ∷ after)) (sym same)
              (high_rises z words words' before h h' after c unmarked on (let high = (w.counters c).high in let is = now in omega (arith, is, high, small)))
          | inr apart ↦ high_stays z words words' before h h' after d apart.1 (let high = (w.counters d).high in let is = other (counter z d).word apart.0 in omega (arith, is, high))
        ];
      })

pub refusals_are_kept : RefusalsAreKept
refusals_are_kept z o words before h after log PoolWords size w unmarked small past =
    refused z o words before h (marked_for PoolWords h) after log PoolWords size w unmarked small past refl refl refl refl refl refl (other_marks z PoolWords h)
refusals_are_kept z o words before h after log Slots size w unmarked small past =
    refused z o words before h (marked_for Slots h) after log Slots size w unmarked small past refl refl refl refl refl refl (other_marks z Slots h)
refusals_are_kept z o words before h after log ListWords size w unmarked small past =
    refused z o words before h (marked_for ListWords h) after log ListWords size w unmarked small past refl refl refl refl refl refl (other_marks z ListWords h)
