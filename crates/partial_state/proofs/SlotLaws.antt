-- The steps on slots: a claim, a join and a leave.
use Rattle.partial_state.proofs.{Common.{ℕ, ◌≡◌, ◌≢◌, ◌+◌, ◌<◌, ◌≤◌, ◌++◌, ◌^◌, ◌%◌, ◌∷◌, length, slice_index, slice_set, Option, Some, None, IfSome, IsSomeAnd, refl, sym, ◌∙◌, ap, subst, inl, inr, arith, get_or-set_other, get_or-set_same, length-set, AllByRecursion, eqb_tells, slot_counter, list_head, pool_counter, list_counter, slot_word, list_base, Block, AreApart, JoinedAnnouncement, IsAnnounced, IsApartFrom, ClaimedSlot, Own, Holding, block_of, unpublished, blocks_in, without_block, joined_in, Pool, IsOwn, IsTied, IsClaim, IsDue, SlotClaimsAreKept, JoinsAreKept, LeavesAreKept, announcement_block, announcement_size, ListWords, PoolWords, Slots, ◌*◌, counter, marked_ports}, ListLemmas.{all_at, two_take, two_put}, Frames.apart_turns, Claimed.unpublished_two, HoldingLemmas.{if_some, if_some_at, none_here, marks_kept}, Blocks.{announcement_of, unpublished_same, announced_same, own_added, announcement_added, own_block_added, announced_block_added}, Rebuild.{Moves, own_stays, spare_moves}, NoNewEntry.{quiet, fits_word, head_stays, due_stays, high_stays, marked_stays, counters_stay, counters_same, counters_rise}, MarkLaws.blocks_kept, BlockLaws.own_freed}

-- no slot is claimed where there is no claim, and where there is one it is its own
none_claimed : (P : ClaimedSlot → Type 0) (f : Option ClaimedSlot) → f ≡ None → IsSomeAnd f P → ⊥
none_claimed P f e k = let h : IsSomeAnd None P = subst (λ (f : Option ClaimedSlot). IsSomeAnd f P) e k in h

one_claimed : (P : ClaimedSlot → Type 0) (f : Option ClaimedSlot) (c : ClaimedSlot) → f ≡ Some c → IsSomeAnd f P → P c
one_claimed P f c e k = let h : IsSomeAnd (Some c) P = subst (λ (f : Option ClaimedSlot). IsSomeAnd f P) e k in h

pub slot_claims_are_kept : SlotClaimsAreKept
slot_claims_are_kept z o words before h after log w unclaimed room =
    let n = slot_counter z in
    let first = slice_index words (slot_counter z) in
    let c : ClaimedSlot = record { slot = slice_index words (slot_counter z); joined = None } in
    let h' : Holding = record h { claimed = Some (record { slot = slice_index words (slot_counter z); joined = None }) } in
    let v = (slice_index words n + 1) % 2 ^ 64 in
    let words' = slice_set words n v in
    let count = w.count in
    let some = w.sizes.slots.0 in
    let now : slice_index words' (slot_counter z) ≡ slice_index words (slot_counter z) + 1 = get_or-set_same words (slot_counter z) v 0 (omega (arith, count, some)) ∙ fits_word z
    (slice_index words (slot_counter z) + 1) w.sizes (omega (arith, room)) in
    let other : (k : ℕ) → k ≢ n → slice_index words' k ≡ slice_index words k = λ k differs. get_or-set_other words n k v 0 differs in
    let lists : slice_index words' (list_counter z) ≡ slice_index words (list_counter z) = other (list_counter z) (λ e. omega (arith, e)) in
    let pool : slice_index words' (pool_counter z) ≡ slice_index words (pool_counter z) = other (pool_counter z) (λ e. omega (arith, e)) in
    let slot_words : (l : ℕ) → l < z.slots → slice_index words' (slot_word z l) ≡ slice_index words (slot_word z l) = λ l room. other (slot_word z l) (λ e. omega (arith, e)) in
    let far : (k : ℕ) → list_base z ≤ k → slice_index words' k ≡ slice_index words k = λ k above. other k (λ e. omega (arith, above, e)) in
    let components : (j : ℕ) → j < z.m → slice_index words' j ≡ slice_index words j = λ j below. other j (λ e. omega (arith, below, e)) in
    let m : Moves z words words' h h' = record {
      port = refl;
      count = length-set words n v;
      rises = counters_rise z words words' (omega (arith, pool)) (omega (arith, now)) (omega (arith, lists));
      same = λ k above free. far k above;
      apart = λ b claimed free. free;
      slot = λ l room free. slot_words l room;
      vacated = λ l room one. slot_words l room ∙ one;
    } in
    let tied = all_at (IsTied z words) before h after w.tied in
    quiet z o words words' before h h' after log w (record {
      moves = m;
      components = components;
      tied = record {
        own = own_stays z words words' h h' m far h.own tied.own;
        spare = spare_moves z words words' h h' m h.spare tied.spare;
        marked = marked_stays z words words' before h h' after (marks_kept h h' refl refl refl) m.rises tied.marked;
      };
      apart = blocks_kept z words before h h' after log refl refl (sym (ap joined_in unclaimed)) w.apart;
      due = due_stays z o words words' before h h' after log w m refl refl refl (λ e. refl) far components;
      taken = λ l below inside k. elim k [
        | inl t ↦ absurd (none_claimed (λ c. c.slot ≡ l) h.claimed unclaimed t)
        | inr from ↦ let is : slice_index words (slot_counter z) ≡ l =
            omega (arith, from, below, now) in inr is
      ];
      claim = record { slot = room; below = omega (arith, now); holds = slot_words (slice_index words (slot_counter z)) room ∙ w.unclaimed (slice_index words (slot_counter z)) (omega arith) room };
      owners = λ v k other. if_some (IsClaim z words (before ++ h ∷ after) log) (λ d. slice_index words (slot_counter z) ≢ d.slot) v.claimed
          (λ d e claim. let below = claim.below in λ is. omega (arith, is, below)) k;
      joined = inr tt;
      head = head_stays z o words words' before h h' after log w m (other (list_head z) (λ e. omega (arith, e)));
      counters = λ c. high_stays z words words' before h h' after c (marks_kept h h' refl refl refl c) (elim c as (λ k. slice_index words' (counter z k).word ≤ (counter z k).end + (counter z k).greatest * marked_ports k (before ++ h ∷ after)) [
        | PoolWords ↦ let high = (w.counters PoolWords).high in omega (arith, pool, high)
        | Slots ↦ omega (arith, now, room)
        | ListWords ↦ let high = (w.counters ListWords).high in omega (arith, lists, high)
      ]);
    })

pub leaves_are_kept : LeavesAreKept
leaves_are_kept z o words before h after log slot j w is =
    let c : ClaimedSlot = record { slot = slot; joined = Some j } in
    let h' : Holding = record h { claimed = None } in
    let n = slot_word z slot in
    let words' = slice_set words n 1 in
    let count = w.count in
    let claim : IsClaim z words (before ++ h ∷ after) log c = if_some_at (IsClaim z words (before ++ h ∷ after) log) h.claimed c is
    (all_at (λ v. IfSome v.claimed (IsClaim z words (before ++ h ∷ after) log)) before h after w.claims) in
    let room : slot < z.slots = claim.slot in
    let now : slice_index words' (slot_word z slot) ≡ 1 = get_or-set_same words (slot_word z slot) 1 0 (omega (arith, count, room)) in
    let other : (k : ℕ) → k ≢ n → slice_index words' k ≡ slice_index words k = λ k differs. get_or-set_other words n k 1 0 differs in
    let lists : slice_index words' (list_counter z) ≡ slice_index words (list_counter z) = other (list_counter z) (λ e. omega (arith, e)) in
    let pool : slice_index words' (pool_counter z) ≡ slice_index words (pool_counter z) = other (pool_counter z) (λ e. omega (arith, e)) in
    let slots : slice_index words' (slot_counter z) ≡ slice_index words (slot_counter z) = other (slot_counter z) (λ e. omega (arith, e)) in
    let counts = counters_same z words words' pool slots lists in
    let far : (k : ℕ) → list_base z ≤ k → slice_index words' k ≡ slice_index words k = λ k above. other k (λ e. omega (arith, above, e, room)) in
    let components : (i : ℕ) → i < z.m → slice_index words' i ≡ slice_index words i = λ i below. other i (λ e. omega (arith, below, e)) in
    let left : (l : ℕ) → slot ≡ l → slice_index words' (slot_word z l) ≡ 1 = λ l e. ap (λ t. slice_index words' (slot_word z t)) (sym e) ∙ now in
    let m : Moves z words words' h h' = record {
      port = refl;
      count = length-set words n 1;
      rises = λ c. let now = counts c in omega (arith, now);
      same = λ k above free. far k above;
      apart = λ b claimed free. free;
      slot = λ l inside free. let differs = if_some_at (λ c. c.slot ≢ l) h.claimed c is free in other (slot_word z l) (λ e. differs (omega (arith, e)));
      vacated = λ l inside one. elim (eqb_tells slot l) [ inl t ↦ left l t.1 | inr t ↦ let differs : slot ≢ l = t.1 in other (slot_word z l) (λ e. differs (omega (arith, e))) ∙ one ];
    } in
    let tied = all_at (IsTied z words) before h after w.tied in
    quiet z o words words' before h h' after log w (record {
      moves = m;
      components = components;
      tied = record {
        own = own_stays z words words' h h' m far h.own tied.own;
        spare = spare_moves z words words' h h' m h.spare tied.spare;
        marked = marked_stays z words words' before h h' after (marks_kept h h' refl refl refl) m.rises tied.marked;
      };
      apart = (two_take AreApart apart_turns (announcement_of j) (blocks_in z words (before ++ h' ∷ after) log) (blocks_in z words (before ++ h ∷ after) log)
          (announced_block_added z words (before ++ h ∷ after) (before ++ h' ∷ after) log (announcement_of j) (unpublished_same before h h' after refl refl)
          (announcement_added before h h' after j refl (ap joined_in is))) w.apart).0;
      due = due_stays z o words words' before h h' after log w m refl refl refl (λ e. refl) far components;
      taken = λ l below inside k. elim k [ inl t ↦ inl (left l (one_claimed (λ c. c.slot ≡ l) h.claimed c is t)) | inr from ↦ absurd (omega (arith, from, below, slots)) ];
      claim = tt;
      owners = λ v k other. tt;
      joined = inr tt;
      head = head_stays z o words words' before h h' after log w m (other (list_head z) (λ e. omega (arith, e)));
      counters = counters_stay z words words' before h h' after (marks_kept h h' refl refl refl) counts w.counters;
    })

pub joins_are_kept : JoinsAreKept
joins_are_kept z o words before h after log slot at indices w is idle owned few each =
    let c : ClaimedSlot = record { slot = slot; joined = None } in
    let b : Own = record { space = Pool; at = at; words = announcement_block indices; stored = announcement_size (length indices) } in
    let j : JoinedAnnouncement = record { at = at; indices = indices; since = length log } in
    let h' : Holding = record h { own = None; claimed = Some (record { slot = slot; joined = Some (record { at = at; indices = indices; since = length log }) }) } in
    let between : Holding = record h { own = None } in
    let n = slot_word z slot in
    let words' = slice_set words n at in
    let count = w.count in
    let claim : IsClaim z words (before ++ h ∷ after) log c = if_some_at (IsClaim z words (before ++ h ∷ after) log) h.claimed c is
    (all_at (λ v. IfSome v.claimed (IsClaim z words (before ++ h ∷ after) log)) before h after w.claims) in
    let room : slot < z.slots = claim.slot in
    let empty : slice_index words (slot_word z slot) ≡ 0 = claim.holds in
    let now : slice_index words' (slot_word z slot) ≡ at = get_or-set_same words (slot_word z slot) at 0 (omega (arith, count, room)) in
    let other : (k : ℕ) → k ≢ n → slice_index words' k ≡ slice_index words k = λ k differs. get_or-set_other words n k at 0 differs in
    let lists : slice_index words' (list_counter z) ≡ slice_index words (list_counter z) = other (list_counter z) (λ e. omega (arith, e)) in
    let pool : slice_index words' (pool_counter z) ≡ slice_index words (pool_counter z) = other (pool_counter z) (λ e. omega (arith, e)) in
    let slots : slice_index words' (slot_counter z) ≡ slice_index words (slot_counter z) = other (slot_counter z) (λ e. omega (arith, e)) in
    let counts = counters_same z words words' pool slots lists in
    let far : (k : ℕ) → list_base z ≤ k → slice_index words' k ≡ slice_index words k = λ k above. other k (λ e. omega (arith, above, e, room)) in
    let m : Moves z words words' h h' = record {
      port = refl;
      count = length-set words n at;
      rises = λ c. let now = counts c in omega (arith, now);
      same = λ k above free. far k above;
      apart = λ b claimed free. (tt, free.1);
      slot = λ l inside free. let differs = if_some_at (λ c. c.slot ≢ l) h.claimed c is free in other (slot_word z l) (λ e. differs (omega (arith, e)));
      vacated = λ l inside one. elim (eqb_tells slot l) [
        | inl t ↦ let none : slice_index words (slot_word z l) ≡ 0 = ap (λ t. slice_index words (slot_word z t)) (sym t.1) ∙ empty in absurd
            (omega (arith, none, one))
        | inr t ↦ let differs : slot ≢ l = t.1 in other (slot_word z l) (λ e. differs (omega (arith, e))) ∙ one
      ];
    } in
    let tied = all_at (IsTied z words) before h after w.tied in
    let own : IsOwn z words b = if_some_at (IsOwn z words) h.own b owned tied.own in
    let above = own.above in
    let within = own.within in
    let below = own.below in
    let size : length (announcement_block indices) ≡ announcement_size (length indices) = omega arith in
    let same : block_of b ≡ announcement_of j = ap (λ n. record { at = at; size = n }) size in
    let taken = two_take AreApart apart_turns (block_of b) (blocks_in z words (before ++ between ∷ after) log) (blocks_in z words (before ++ h ∷ after) log)
    (own_block_added z words (before ++ h ∷ after) (before ++ between ∷ after) log (block_of b) (announced_same before h between after refl)
    (own_added before h between after b refl owned refl)) w.apart in
    let free : AllByRecursion (AreApart (announcement_of j)) (blocks_in z words (before ++ between ∷ after) log) =
    subst (λ (x : Block). AllByRecursion (AreApart x) (blocks_in z words (before ++ between ∷ after) log)) same taken.1 in
    let added = announced_block_added z words (before ++ h' ∷ after) (before ++ between ∷ after) log (announcement_of j) (unpublished_same before h' between after refl refl)
    (announcement_added before h' between after j (ap joined_in is) refl) in
    let announced : IsAnnounced z words' (unpublished (before ++ h' ∷ after)) at indices = record {
      whole = record {
        from = omega (arith, above);
        to = omega (arith, within, size);
        count = few;
        each = each;
        stands = λ k inside. (let long = m.count in omega (arith, within, inside, count, long), far (at + k) (omega (arith, above)) ∙ own.stands k (omega (arith, inside, size)));
      };
      above = own.above;
      below = omega (arith, below, size, pool);
      apart = subst (IsApartFrom (unpublished (before ++ h' ∷ after))) same (own_freed before h h' after b owned refl refl (unpublished_two z o words (before ++ h ∷ after) log w));
    } in
    let inside = claim.below in
    quiet z o words words' before h h' after log w (record {
      moves = m;
      components = λ i below. other i (λ e. omega (arith, below, e));
      tied = record {
        own = tt;
        spare = spare_moves z words words' h h' m h.spare tied.spare;
        marked = marked_stays z words words' before h h' after (marks_kept h h' refl refl refl) m.rises tied.marked;
      };
      apart = two_put AreApart apart_turns (announcement_of j) (blocks_in z words (before ++ between ∷ after) log) (blocks_in z words (before ++ h' ∷ after) log) added taken.0 free;
      due = none_here (IsDue z o words' h' (without_block h'.port (before ++ h' ∷ after)) log) h.due idle;
      taken = λ l below room k. elim k [ inl t ↦ let e : slot ≡ l = one_claimed (λ c. c.slot ≡ l) h.claimed c is t in inr e | inr from ↦ absurd (omega (arith, from, below, slots)) ];
      claim = record { slot = room; below = omega (arith, inside, slots); holds = (now, omega arith, announced) };
      owners = λ v k other. if_some_at (λ c. IfSome v.claimed (λ d. c.slot ≢ d.slot)) h.claimed c is other;
      joined = inr (let late : length log ≤ length log = omega arith in late);
      head = head_stays z o words words' before h h' after log w m (other (list_head z) (λ e. omega (arith, e)));
      counters = counters_stay z words words' before h h' after (marks_kept h h' refl refl refl) counts w.counters;
    })
