-- The steps on spare words, by which no word changes: a block becomes them, and a block is taken from them.
use Rattle.partial_state.proofs.{Common.{ℕ, ◌≡◌, ◌+◌, ◌-◌, ◌≤◌, ◌++◌, List, ◌∷◌, length, Option, Some, None, refl, ◌∙◌, ap, subst, inl, arith, option_map, joined_in, AllByRecursion, Applied, Layout, Block, AreApart, Own, Holding, block_of, announcements, unpublished, blocks_in, EachTwo, Pool, IsOwn, IsTied, IsDue, without_block, SparesAreKept, TakesAreKept}, ListLemmas.{Adds, all_at, all_less, all_more, all_weaker, two_take, two_put}, Frames.{apart_turns, part_apart}, HoldingLemmas.{if_some_at, none_here, own_in_pool, marks_kept}, Blocks.{announced_same, unspared, spare_added, unspared_same, blocks_with, block_added, own_added, own_block_added}, NoNewEntry.{calm, head_stays, high_stays, marked_stays}, MarkLaws.still_moves}

-- what is apart from a block is apart from each part of it
apart_from_part : (x part whole : Block) → whole.at ≤ part.at → part.at + part.size ≤ whole.at + whole.size → AreApart x whole → AreApart x part
apart_from_part x part whole from to w = apart_turns part x (part_apart part whole x from to (apart_turns x whole w))

module _ (z : Layout) (words : List ℕ) (before : List Holding) (h : Holding) (after : List Holding) (log : List Applied) where
  -- all blocks but the port's spare words
  all_but : List Block
  all_but = blocks_with z words log (announcements (before ++ h ∷ after)) (unspared before h after)

  -- and all blocks are those with them
  spare_among : Adds h.spare all_but (blocks_in z words (before ++ h ∷ after) log)
  unfolding all_but
  spare_among = block_added z words log (announcements (before ++ h ∷ after)) h.spare (unspared before h after) (unpublished (before ++ h ∷ after)) (spare_added before h after)

  spare_taken : EachTwo AreApart (blocks_in z words (before ++ h ∷ after) log) → EachTwo AreApart all_but × AllByRecursion (AreApart h.spare) all_but
  spare_taken two = two_take AreApart apart_turns h.spare all_but (blocks_in z words (before ++ h ∷ after) log) spare_among two

  spare_put : EachTwo AreApart all_but → AllByRecursion (AreApart h.spare) all_but → EachTwo AreApart (blocks_in z words (before ++ h ∷ after) log)
  spare_put two all = two_put AreApart apart_turns h.spare all_but (blocks_in z words (before ++ h ∷ after) log) spare_among two all

-- they stay where only the spare words change
but_same : (z : Layout) (words : List ℕ) (before : List Holding) (h h' : Holding) (after : List Holding) (log : List Applied) → option_map block_of h'.own ≡ option_map block_of h.own →
    h'.claimed ≡ h.claimed → all_but z words before h' after log ≡ all_but z words before h after log
unfolding all_but
but_same z words before h h' after log own claimed =
    ap (λ (l : List Block). blocks_with z words log l (unspared before h' after)) (announced_same before h h' after (ap joined_in claimed)) ∙
    ap (λ (l : List Block). blocks_with z words log (announcements (before ++ h ∷ after)) l) (unspared_same before h h' after own)

pub spares_are_kept : SparesAreKept
spares_are_kept z o words before h after log b w is pool =
    let h' : Holding = record h { own = None; due = None; spare = block_of b } in
    let between : Holding = record h { own = None; due = None } in
    let m = still_moves z words h h' refl (λ x free. (tt, if_some_at (λ c. AreApart x (block_of c)) h.own b is free.0)) in
    let tied = all_at (IsTied z words) before h after w.tied in
    let own : IsOwn z words b = if_some_at (IsOwn z words) h.own b is tied.own in
    let within = own_in_pool z words b pool own in
    let taken = two_take AreApart apart_turns (block_of b) (blocks_in z words (before ++ between ∷ after) log) (blocks_in z words (before ++ h ∷ after) log)
    (own_block_added z words (before ++ h ∷ after) (before ++ between ∷ after) log (block_of b) (announced_same before h between after refl)
    (own_added before h between after b refl is refl)) w.apart in
    let same : all_but z words before between after log ≡ all_but z words before h' after log = but_same z words before h' between after log refl refl in
    let two = (spare_taken z words before between after log taken.0).0 in
    let free = all_less (AreApart (block_of b)) between.spare (all_but z words before between after log) (blocks_in z words (before ++ between ∷ after) log)
    (spare_among z words before between after log) taken.1 in
    calm z o words words before h h' after log w (record {
      moves = m;
      components = λ j below. refl;
      tied = record {
        own = tt;
        spare = record { above = within.0; within = within.1; below = within.2 };
        marked = marked_stays z words words before h h' after (marks_kept h h' refl refl refl) m.rises tied.marked;
      };
      apart = spare_put z words before h' after log (subst (EachTwo AreApart) same two) (subst (AllByRecursion (AreApart (block_of b))) same free);
      due = tt;
      claimed = refl;
      slot_words = λ l room. refl;
      counts = λ l below room. below;
      head = head_stays z o words words before h h' after log w m refl;
      counters = λ c. high_stays z words words before h h' after c (marks_kept h h' refl refl refl c) (w.counters c).high;
    })

pub takes_are_kept : TakesAreKept
takes_are_kept z o words before h after log block w unowned idle room =
    let b : Own = record { space = Pool; at = h.spare.at; words = block; stored = 0 } in
    let rest : Block = record { at = h.spare.at + length block; size = h.spare.size - length block } in
    let h' : Holding = record h {
      own = Some (record { space = Pool; at = h.spare.at; words = block; stored = 0 });
      spare = record { at = h.spare.at + length block; size = h.spare.size - length block };
    } in
    let between : Holding = record h { own = None; spare = record { at = h.spare.at + length block; size = h.spare.size - length block } } in
    let of_block : (x : Block) → AreApart x h.spare → AreApart x (block_of b) = λ x k. apart_from_part x (block_of b) h.spare (omega arith) (omega (arith, room)) k in
    let of_rest : (x : Block) → AreApart x h.spare → AreApart x rest = λ x k. apart_from_part x rest h.spare (omega arith) (omega (arith, room)) k in
    let m = still_moves z words h h' refl (λ x free. (of_block x free.1, of_rest x free.1)) in
    let tied = all_at (IsTied z words) before h after w.tied in
    let above = tied.spare.above in
    let within = tied.spare.within in
    let below = tied.spare.below in
    let same : all_but z words before h after log ≡ all_but z words before between after log =
    but_same z words before between h after log (ap (λ (f : Option Own). option_map block_of f) unowned) refl in
    let taken = spare_taken z words before h after log w.apart in
    let two : EachTwo AreApart (all_but z words before between after log) = subst (EachTwo AreApart) same taken.0 in
    let free : AllByRecursion (AreApart h.spare) (all_but z words before between after log) = subst (AllByRecursion (AreApart h.spare)) same taken.1 in
    let rest_free = all_weaker (AreApart h.spare) (AreApart rest) (λ x k. apart_turns x rest (of_rest x (apart_turns h.spare x k))) (all_but z words before between after log) free in
    let block_free = all_weaker (AreApart h.spare) (AreApart (block_of b)) (λ x k. apart_turns x (block_of b) (of_block x (apart_turns h.spare x k)))
    (all_but z words before between after log) free in
    let put = spare_put z words before between after log two rest_free in
    let all_free = all_more (AreApart (block_of b)) rest (all_but z words before between after log) (blocks_in z words (before ++ between ∷ after) log)
    (spare_among z words before between after log) (inl (omega arith)) block_free in
    calm z o words words before h h' after log w (record {
      moves = m;
      components = λ j below. refl;
      tied = record {
        own = record { above = above; within = omega (arith, within, room); below = omega (arith, below, room); few = omega arith; stands = λ i stored. absurd (omega (arith, stored)) };
        spare = record { above = omega (arith, above); within = omega (arith, within, room); below = omega (arith, below, room) };
        marked = marked_stays z words words before h h' after (marks_kept h h' refl refl refl) m.rises tied.marked;
      };
      apart = two_put AreApart apart_turns (block_of b) (blocks_in z words (before ++ between ∷ after) log) (blocks_in z words (before ++ h' ∷ after) log)
          (own_block_added z words (before ++ h' ∷ after) (before ++ between ∷ after) log (block_of b) (announced_same before h' between after refl)
          (own_added before h' between after b refl refl refl)) put all_free;
      due = none_here (IsDue z o words h' (without_block h'.port (before ++ h' ∷ after)) log) h.due idle;
      claimed = refl;
      slot_words = λ l room. refl;
      counts = λ l below room. below;
      head = head_stays z o words words before h h' after log w m refl;
      counters = λ c. high_stays z words words before h h' after c (marks_kept h h' refl refl refl c) (w.counters c).high;
    })
