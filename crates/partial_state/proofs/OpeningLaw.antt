-- Words as they open are lawful.
use Rattle.partial_state.proofs.Common.{ℕ, zero, suc, ◌≡◌, ◌+◌, ◌<◌, ◌≤◌, ◌++◌, List, [], ◌∷◌, length, slice_index, Some, None, IfSome, refl, sym, ap, subst, inl, arith, ◌∙◌, AllByRecursion, nat_tests, Layout, slot_counter, list_head, pool_counter, list_counter, slot_word, list_base, pool_base, opening_word, Block, AreApart, Holding, EachTwo, HaveOtherPorts, HaveOtherSlots, announcements, unpublished, written, spares, IsTied, no_spare, idle_holding, idle_holdings, OpeningIsLawful, initial_words, first_free, Counted, IsCounted, ListWords, PoolWords, Slots, is_marked, true}
use Rattle.partial_state.proofs.ListLemmas.{all_map}
use Rattle.partial_words.proofs.LayoutLemmas.{opening_agrees, view_opens}

pub idle_length : (z : Layout) (p n : ℕ) → length (idle_holdings z p n) ≡ n
idle_length z p zero = refl
idle_length z p (suc n) = ap suc (idle_length z (p + 1) n)

-- what holds of each of them
pub idle_all : (z : Layout) (P : Holding → Type 0) → ((p : ℕ) → P (idle_holding z p)) → (p n : ℕ) → AllByRecursion P (idle_holdings z p n)
idle_all z P f p zero = tt
idle_all z P f p (suc n) = (f p, idle_all z P f (p + 1) n)

pub idle_other : (z : Layout) (q p n : ℕ) → q < p → AllByRecursion (HaveOtherPorts (idle_holding z q)) (idle_holdings z p n)
idle_other z q p zero below = tt
idle_other z q p (suc n) below = (λ e. omega (arith, below, e), idle_other z q (p + 1) n (omega arith))

pub idle_ports : (z : Layout) (p n : ℕ) → EachTwo HaveOtherPorts (idle_holdings z p n)
idle_ports z p zero = tt
idle_ports z p (suc n) = (idle_other z p (p + 1) n (omega arith), idle_ports z (p + 1) n)

pub idle_slots : (z : Layout) (p n : ℕ) → EachTwo HaveOtherSlots (idle_holdings z p n)
idle_slots z p zero = tt
idle_slots z p (suc n) = (idle_all z (HaveOtherSlots (idle_holding z p)) (λ q. tt) (p + 1) n, idle_slots z (p + 1) n)

pub none_marked : (z : Layout) (p : ℕ) (c : Counted) → is_marked c (idle_holding z p) ≡ true → ⊥
none_marked z p PoolWords on = cc
none_marked z p Slots on = cc
none_marked z p ListWords on = cc

-- none of them writes a block, and their spare words are none
pub none_written : (z : Layout) (p n : ℕ) → written (idle_holdings z p n) ≡ []
none_written z p zero = refl
none_written z p (suc n) = none_written z (p + 1) n

pub none_announced : (z : Layout) (p n : ℕ) → announcements (idle_holdings z p n) ≡ []
none_announced z p zero = refl
none_announced z p (suc n) = none_announced z (p + 1) n

pub none_spared : (z : Layout) (b : Block) → AreApart b (no_spare z) → (p n : ℕ) → AllByRecursion (AreApart b) (spares (idle_holdings z p n))
none_spared z b w p n = all_map (AreApart b) (λ (h : Holding). h.spare) (idle_holdings z p n) (idle_all z (λ h. AreApart b h.spare) (λ p. w) p n)

pub spares_open : (z : Layout) (p n : ℕ) → EachTwo AreApart (spares (idle_holdings z p n))
spares_open z p zero = tt
spares_open z p (suc n) = (none_spared z (no_spare z) (inl (omega arith)) (p + 1) n, spares_open z (p + 1) n)

pub pool_opens : (z : Layout) (initial : List ℕ) → opening_word z initial (pool_counter z) ≡ first_free z
pool_opens z initial = grind (arith, nat_tests)

pub slot_opens : (z : Layout) (initial : List ℕ) → 1 ≤ z.slots → opening_word z initial (slot_counter z) ≡ 0
slot_opens z initial some = grind (arith, nat_tests)

pub list_opens : (z : Layout) (initial : List ℕ) → 1 ≤ z.slots → opening_word z initial (list_head z) ≡ 0
list_opens z initial some = grind (arith, nat_tests)

pub lists_open : (z : Layout) (initial : List ℕ) → 1 ≤ z.slots → opening_word z initial (list_counter z) ≡ list_base z
lists_open z initial some = grind (arith, nat_tests)

pub slots_open : (z : Layout) (initial : List ℕ) (l : ℕ) → l < z.slots → opening_word z initial (slot_word z l) ≡ 0
slots_open z initial l below = grind (arith, nat_tests)

-- the counters are where they begin
pub counters_open : (z : Layout) (words : List ℕ) (hs : List Holding) → slice_index words (pool_counter z) ≡ first_free z → slice_index words (slot_counter z) ≡ 0 →
    slice_index words (list_counter z) ≡ list_base z → initial_words z ≤ z.pool → (c : Counted) → IsCounted z words hs c
counters_open z words hs pool slots lists room PoolWords = record { low = omega (arith, pool); high = omega (arith, pool, room) }
counters_open z words hs pool slots lists room Slots = record { low = omega arith; high = omega (arith, slots) }
counters_open z words hs pool slots lists room ListWords = record { low = omega (arith, lists); high = omega (arith, lists) }

pub opening_is_lawful : OpeningIsLawful
opening_is_lawful z o words n opens few =
    let some = opens.sizes.slots.0 in
    let pool : slice_index words (pool_counter z) ≡ first_free z = opens.words.each (pool_counter z) (omega (arith, some)) ∙ pool_opens z o.values in
    let slots : slice_index words (slot_counter z) ≡ 0 = opens.words.each (slot_counter z) (omega (arith, some)) ∙ slot_opens z o.values some in
    let head : slice_index words (list_head z) ≡ 0 = opens.words.each (list_head z) (omega (arith, some)) ∙ list_opens z o.values some in
    let lists : slice_index words (list_counter z) ≡ list_base z = opens.words.each (list_counter z) (omega (arith, some)) ∙ lists_open z o.values some in
    let room = opens.sizes.pool.0 in
    let count = idle_length z 0 n in
    let blocks : announcements (idle_holdings z 0 n) ++ unpublished (idle_holdings z 0 n) ≡ spares (idle_holdings z 0 n) = ap (λ (l : List Block). l ++ unpublished (idle_holdings z 0 n))
    (none_announced z 0 n) ∙ ap (λ (l : List Block). l ++ spares (idle_holdings z 0 n)) (none_written z 0 n) in
    record {
      sizes = opens.sizes;
      values = opens.values;
      stamps = opens.stamps;
      count = opens.words.count;
      few = omega (arith, count, few);
      ports = idle_ports z 0 n;
      history = record { components = tt; distinct = tt; not_initial = tt };
      agrees = opening_agrees z o words opens;
      initial = λ j below. view_opens z o words j opens below;
      entries = tt;
      tied = idle_all z (IsTied z words) (λ p. record {
        own = tt;
        spare = record { above = omega arith; within = omega (arith, room); below = omega (arith, pool) };
        marked = λ c m. absurd (none_marked z p c m);
      }) 0 n;
      apart = subst (λ (l : List Block). EachTwo AreApart (record { at = pool_base z; size = initial_words z } ∷ l)) (sym blocks)
          (none_spared z (record { at = pool_base z; size = initial_words z }) (inl (omega arith)) 0 n, spares_open z 0 n);
      fresh = λ k e s. let bad : None ≡ Some e = s in cc;
      covering = tt;
      due = idle_all z (λ h. IfSome h.due _) (λ p. tt) 0 n;
      unclaimed = λ l from below. opens.words.each (slot_word z l) (omega (arith, below)) ∙ slots_open z o.values l below;
      taken = λ l below inside. absurd (omega (arith, slots, below));
      claims = idle_all z (λ h. IfSome h.claimed _) (λ p. tt) 0 n;
      owners = idle_slots z 0 n;
      head = inl head;
      counters = counters_open z words (idle_holdings z 0 n) pool slots lists room;
    }
