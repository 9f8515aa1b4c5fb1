-- A won exchange of a component: its record is published, and the history gains its entry.
use Rattle.partial_state.proofs.{Common.{ℕ, ◌≡◌, ◌≢◌, ◌+◌, ◌<◌, ◌≤◌, ◌==◌, ◌++◌, Bool, true, false, if◌then◌else◌, List, [], ◌∷◌, length, map, slice_index, slice_set, Some, None, IfSome, slice_get, refl, sym, ◌∙◌, ap, subst, inl, inr, arith, append_assoc, get_or-set_other, get_or-set_same, length-set, AllByRecursion, eq-eqb, eqb-true, eqb-false, eqb_tells, length_push, take-append-le, Applied, Opening, IsHistory, initial_stamp, stamp_of, stamp_of-push, distinct_push, slice_get_grows, AllByRecursion-push, AllByRecursion-get, Layout, slot_counter, list_head, pool_counter, list_counter, slot_word, pool_base, pool_end, prev_word, prev_of, view_of, IsLink, IsChain, chain_of, Block, AreApart, HasFreshView, Covers, IsWithin, Own, Due, Holding, block_of, block_at, announcements, unpublished, blocks_in, without_block, IfJoined, EachTwo, Pool, LawfulWords, IsOwn, IsTied, IsDue, IsKept, WinsAreKept, all_where, initial_words, first_free, view_word, value_word, plain_record_size, record_value, chain_cons, links_from-push, Counted, counter}, ListLemmas.{all_at, all_before, all_after, all_front, all_join, all_weaker, all_unmap, two_take, two_put, Adds, adds_behind, found_before, found_last}, Frames.{Frame, Grows, apart_turns, fresh_moves, covers_moves}, HoldingLemmas.{if_some_at, some_found, joined_weaker, unjoined_if, own_in_pool, without_this, three_words, block_stays, marks_kept}, Blocks.{unpublished_same, announced_same, own_added, own_block_added}, Rebuild.{Moves, spare_moves, chain_moves, entries_stay}, EffectLemmas.{IsNew, keeps}, NoNewEntry.{taken_stays, claim_stays, head_stays, marked_stays, counters_stay, counters_same}}

map_push : {A B : Type 0} (f : A → B) (xs : List A) (y : A) → map f (xs ++ y ∷ []) ≡ map f xs ++ f y ∷ []
map_push f [] y = refl
map_push f (x ∷ xs) y = ap (λ (l : List _). f x ∷ l) (map_push f xs y)

-- records that share no word have two stamps
other_stamps : (words : List ℕ) (s t : ℕ) → AreApart (block_at words s) (block_at words t) → t ≢ s
other_stamps words s t (inl h) = let size = three_words words s in λ e. omega (arith, h, size, e)
other_stamps words s t (inr h) = let size = three_words words t in λ e. omega (arith, h, size, e)

module _ (z : Layout) (o : Opening) (words : List ℕ) (before : List Holding) (h : Holding) (after : List Holding) (log : List Applied) (d : Due) (w : LawfulWords z o words (before ++ h ∷ after) log)
    (is : h.due ≡ Some d) (won : slice_index words d.component ≡ d.old) where
  abbrev behind : Holding
  behind = record h { own = None; due = None }

  abbrev entry : Applied
  entry = record { port = h.port; component = d.component; value = d.value; stamp = d.at }

  abbrev longer : List Applied
  longer = log ++ record { port = h.port; component = d.component; value = d.value; stamp = d.at } ∷ []

  abbrev holdings_after : List Holding
  holdings_after = before ++ record h { own = None; due = None } ∷ after

  abbrev exchanged : List ℕ
  exchanged = slice_set words d.component (if slice_index words d.component == d.old then d.at else slice_index words d.component)

  due : IsDue z o words h (without_block h.port (before ++ h ∷ after)) log d
  due = if_some_at (IsDue z o words h (without_block h.port (before ++ h ∷ after)) log) h.due d is
      (all_at (λ v. IfSome v.due (IsDue z o words v (without_block v.port (before ++ h ∷ after)) log)) before h after w.due)

  tied : IsTied z words h
  tied = all_at (IsTied z words) before h after w.tied

  record Published : Type 0 where
    pub own : Own
    pub here : h.own ≡ Some own
    pub block : block_of own ≡ block_at words d.at
    pub far : first_free z ≤ d.at
    pub within : d.at + (block_at words d.at).size ≤ pool_end z
    pub below : d.at + (block_at words d.at).size ≤ slice_index words (pool_counter z)

  published : Published
  published =
      let found = some_found (λ (b : Own). (b.space ≡ Pool) × (block_of b ≡ block_at words d.at) × (b.stored ≡ length b.words)) h.own due.own in
      let b = found.0 in
      let in' = own_in_pool z words b found.2.0 (if_some_at (IsOwn z words) h.own b found.1 tied.own) in
      let at : b.at ≡ d.at = ap (λ (x : Block). x.at) found.2.1 in
      let size : length b.words ≡ (block_at words d.at).size = ap (λ (x : Block). x.size) found.2.1 in
      let a = in'.0 in
      let t = in'.1 in
      let l = in'.2 in
      record { own = b; here = found.1; block = found.2.1; far = omega (arith, a, at); within = omega (arith, t, at, size); below = omega (arith, l, at, size) }

  three : plain_record_size ≤ (block_at words d.at).size
  three = three_words words d.at

  inside : d.component < z.m
  inside = due.component

  now : slice_index exchanged d.component ≡ d.at
  now =
      let count = w.count in
      let below = inside in
      get_or-set_same words d.component (if slice_index words d.component == d.old then d.at else slice_index words d.component) 0
      (omega (arith, count, below)) ∙ ap (λ (t : Bool). if t then d.at else slice_index words d.component) (eq-eqb (slice_index words d.component) d.old won)

  other : (k : ℕ) → k ≢ d.component → slice_index exchanged k ≡ slice_index words k
  other k differs = get_or-set_other words d.component k (if slice_index words d.component == d.old then d.at else slice_index words d.component) 0 differs

  higher : (k : ℕ) → z.m ≤ k → slice_index exchanged k ≡ slice_index words k
  higher k from = let below = inside in other k (λ e. omega (arith, from, below, e))

  counts : (c : Counted) → slice_index exchanged (counter z c).word ≡ slice_index words (counter z c).word
  counts = counters_same z words exchanged (higher (pool_counter z) (omega arith)) (higher (slot_counter z) (omega arith)) (higher (list_counter z) (omega arith))

  moves : Moves z words exchanged h behind
  moves =
      record {
        port = refl;
        count = length-set words d.component (if slice_index words d.component == d.old then d.at else slice_index words d.component);
        rises = λ c. let now = counts c in omega (arith, now);
        same = λ k far free. higher k (omega (arith, far));
        apart = λ b claimed free. (tt, free.1);
        slot = λ l room free. higher (slot_word z l) (omega arith);
        vacated = λ l room one. higher (slot_word z l) (omega arith) ∙ one;
      }

  -- the blocks without the port's own, and that it is apart from all of them
  freed : EachTwo AreApart (blocks_in z words holdings_after log) × AllByRecursion (AreApart (block_at words d.at)) (blocks_in z words holdings_after log)
  freed =
      let b = published.own in
      let both = two_take AreApart apart_turns (block_of b) (blocks_in z words holdings_after log) (blocks_in z words (before ++ h ∷ after) log)
      (own_block_added z words (before ++ h ∷ after) holdings_after log (block_of b) (announced_same before h behind after refl) (own_added before h behind after b refl published.here refl)) w.apart in
      (both.0, subst (λ (x : Block). AllByRecursion (AreApart x) (blocks_in z words holdings_after log)) published.block both.1)

  differs : (k : ℕ) (e : Applied) → slice_get log k ≡ Some e → e.stamp ≢ d.at
  differs k e s =
      let each = all_unmap (AreApart (block_at words d.at)) (λ (e : Applied). block_at words e.stamp) log
      (all_front (AreApart (block_at words d.at)) (map (λ (e : Applied). block_at words e.stamp) log) (announcements holdings_after ++ unpublished holdings_after) freed.1.1) in
      other_stamps words d.at e.stamp (AllByRecursion-get (λ (e : Applied). AreApart (block_at words d.at) (block_at words e.stamp)) log k e each s)

  not_initial : (j : ℕ) → j < length o.values → d.at ≢ initial_stamp o j
  not_initial j below = let far = published.far in let base = w.stamps in let values = w.values in λ e. omega (arith, far, base, values, below, e)

  -- the stamp is a new one
  is_new : (n : ℕ) → IsWithin o log n d.at → ⊥
  is_new n (inl k) = not_initial k.0 k.1 k.2
  is_new n (inr k) = differs k.0 k.1 k.3 k.4

  grows : Grows o log longer
  grows =
      let more = length_push log entry in
      record {
        more = omega (arith, more);
        longer = λ k e s. slice_get_grows log (entry ∷ []) k e s;
        older = λ k e s below. found_before log (entry ∷ []) k e s below;
        takes = λ n below. take-append-le n log (entry ∷ []) below;
        newer = λ k e s from. found_last (λ k (e : Applied). (n : ℕ) → IsWithin o log n e.stamp → ⊥) log entry k e is_new s from;
      }

  history : IsHistory o longer
  history =
      let below = inside in
      let values = w.values in
      record {
        components = AllByRecursion-push (λ (e : Applied). e.component < length o.values) log entry w.history.components (omega (arith, below, values));
        distinct = distinct_push log entry w.history.distinct (all_where (λ (e : Applied). e.stamp ≢ d.at) log differs);
        not_initial = AllByRecursion-push (λ (e : Applied). (j : ℕ) → j < length o.values → e.stamp ≢ initial_stamp o j) log entry w.history.not_initial not_initial;
      }

  agrees_at : (i : ℕ) → i < length o.values → (b : Bool) → (d.component == i) ≡ b → (slice_index exchanged i ≡ stamp_of o longer i) × IsChain exchanged (slice_index exchanged i) (chain_of o i longer)
  agrees_at i below true same =
      let j = d.component in
      let at = d.at in
      let old = d.old in
      let far = published.far in
      let is' : j ≡ i = eqb-true j i same in
      let now' : slice_index exchanged i ≡ at = ap (λ n. slice_index exchanged n) (sym is') ∙ now in
      let stamp : stamp_of o longer i ≡ at = stamp_of-push o log entry i ∙ ap (λ (b : Bool). if b then at else stamp_of o log i) same in
      let chain : chain_of o i longer ≡ record { stamp = at; value = d.value } ∷ chain_of o i log = links_from-push (record { stamp = initial_stamp o i; value = slice_index o.values i } ∷ []) i log
      entry ∙ ap (λ (b : Bool). if b then (record { stamp = at; value = d.value } ∷ chain_of o i log) else chain_of o i log) same in
      let value : record_value exchanged at ≡ d.value = higher (value_word at) (omega (arith, far)) ∙ due.value in
      let prev : prev_of exchanged at ≡ old = higher (prev_word at) (omega (arith, far)) ∙ due.prev in
      let count : length exchanged ≡ length words = moves.count in
      let size = three in
      let whole = published.within in
      let all = w.count in
      let here : IsLink exchanged at (record { stamp = at; value = d.value }) = record { stamp = refl; within = omega (arith, count, size, whole, all); value = value } in
      let before' : IsChain exchanged old (chain_of o i log) = subst (λ n. IsChain exchanged n (chain_of o i log)) (ap (λ n. slice_index words n) (sym is') ∙ won)
      (chain_moves z o words exchanged before h behind after log w moves i below) in (
        now' ∙ sym stamp,
        subst (λ (n : ℕ). IsChain exchanged n (chain_of o i longer)) (sym now')
            (subst (IsChain exchanged at) (sym chain) (chain_cons exchanged at old (record { stamp = at; value = d.value }) (chain_of o i log) here prev before')),
      )
  agrees_at i below false same =
      let j = d.component in
      let at = d.at in
      let differs' = eqb-false j i same in
      let now' : slice_index exchanged i ≡ slice_index words i = other i (λ e. differs' (sym e)) in
      let stamp : stamp_of o longer i ≡ stamp_of o log i = stamp_of-push o log entry i ∙ ap (λ (b : Bool). if b then at else stamp_of o log i) same in
      let chain : chain_of o i longer ≡ chain_of o i log = links_from-push (record { stamp = initial_stamp o i; value = slice_index o.values i } ∷ []) i log entry ∙
      ap (λ (b : Bool). if b then (record { stamp = at; value = d.value } ∷ chain_of o i log) else chain_of o i log) same in (
        now' ∙ (w.agrees i below).0 ∙ sym stamp,
        subst (λ (n : ℕ). IsChain exchanged n (chain_of o i longer)) (sym now')
            (subst (IsChain exchanged (slice_index words i)) (sym chain) (chain_moves z o words exchanged before h behind after log w moves i below)),
      )

  -- no component names the new record but the one that it is for
  named : (j old : ℕ) → j < z.m → IsWithin o log (length log) old → slice_index exchanged j ≡ old → slice_index words j ≡ old
  named j old below within same = elim (eqb_tells d.component j) [
    | inl t ↦ let at : d.at ≡ old = sym now ∙ ap (λ n. slice_index exchanged n) t.1 ∙ same in absurd (is_new (length log) (subst (IsWithin o log (length log)) (sym at) within))
    | inr t ↦ sym (other j (λ e. t.1 (sym e))) ∙ same
  ]

  others_are : without_block h.port (before ++ h ∷ after) ≡ before ++ record h { own = None } ∷ after
  others_are = without_this before h after w.ports

  unpublished_now : unpublished (without_block h.port (before ++ h ∷ after)) ≡ unpublished holdings_after
  unpublished_now = ap unpublished others_are ∙ unpublished_same before behind (record h { own = None }) after refl refl

  here : Frame z words exchanged (unpublished holdings_after) (unpublished holdings_after)
  here =
      let m = moves in
      record { count = m.count; rises = m.rises; same = λ k far p. higher k (omega (arith, far)); apart = λ b claimed apart. apart; vacated = m.vacated }

  would : HasFreshView z o words (unpublished holdings_after) log (length log) d.at ×
      AllByRecursion (λ v. IfJoined v (λ l j. Covers z words (unpublished holdings_after) log d.at j)) (before ++ record h { own = None } ∷ after)
  would =
      let both = due.would won in
      let U : List Block → Type 0 = λ us. AllByRecursion (λ v. IfJoined v (λ l j. Covers z words us log d.at j)) (without_block h.port (before ++ h ∷ after)) in (
        subst (λ (us : List Block). HasFreshView z o words us log (length log) d.at) unpublished_now both.0,
        subst (AllByRecursion (λ v. IfJoined v (λ l j. Covers z words (unpublished holdings_after) log d.at j))) others_are (subst U unpublished_now both.1),
      )

  prev_now : prev_of exchanged d.at ≡ prev_of words d.at
  prev_now = let far = published.far in higher (prev_word d.at) (omega (arith, far))

  view_now : view_of exchanged d.at ≡ view_of words d.at
  view_now = let far = published.far in higher (view_word d.at) (omega (arith, far))

  new : IsNew z o exchanged holdings_after longer (length log) entry
  new =
      let far = published.far in
      let size = three in
      let within = published.within in
      let below = published.below in
      let pool = higher (pool_counter z) (omega arith) in
      let more = length_push log entry in
      let us = unpublished holdings_after in
      let P : Holding → Type 0 = λ v. IfJoined v (λ l j. Covers z words us log d.at j) in
      let Q : Holding → Type 0 = λ v. IfJoined v (λ l j. Covers z exchanged us longer d.at j) in
      let old : IsWithin o log (length log) (prev_of words d.at) = subst (IsWithin o log (length log)) (sym due.prev) due.before in
      let each : (v : Holding) → P v → Q v = λ v. joined_weaker v (λ l j. Covers z words us log d.at j) (λ l j. Covers z exchanged us longer d.at j)
      (λ l j. covers_moves z words exchanged us us here o log longer grows d.at prev_now view_now (length log) j old) in
      record {
        entry = record { above = far; within = omega (arith, within, size); below = omega (arith, below, size, pool) };
        fresh = fresh_moves z words exchanged us us here o log longer grows d.at prev_now view_now (length log) (length log) (omega arith) (omega arith) would.0;
        covering = all_join Q before behind after (all_weaker P Q each before (all_before P before (record h { own = None }) after would.1))
            (unjoined_if (λ l j. Covers z exchanged us longer d.at j) h.claimed due.unjoined)
            (all_weaker P Q each after (all_after P before (record h { own = None }) after would.1));
      }

  blocks_now : EachTwo AreApart (blocks_in z exchanged holdings_after longer)
  blocks_now =
      let far = published.far in
      let E = map (λ (e : Applied). block_at words e.stamp) log in
      let initial : List Block = record { at = pool_base z; size = initial_words z } ∷ [] in
      let rest = announcements holdings_after ++ unpublished holdings_after in
      let block : block_at exchanged d.at ≡ block_at words d.at = block_stays words exchanged d.at (λ n below. higher (d.at + n) (omega (arith, far))) in
      let entries : map (λ (e : Applied). block_at exchanged e.stamp) longer ≡ E ++ block_at words d.at ∷ [] =
      map_push (λ (e : Applied). block_at exchanged e.stamp) log entry ∙ ap (λ (l : List Block). l ++ block_at exchanged d.at ∷ [])
      (entries_stay z o words exchanged before h behind after log w moves) ∙ ap (λ (x : Block). E ++ x ∷ []) block in
      let added : Adds (block_at words d.at) (E ++ rest) ((E ++ block_at words d.at ∷ []) ++ rest) = (E, rest, refl, append_assoc E (block_at words d.at ∷ []) rest) in
      subst (λ (l : List Block). EachTwo AreApart (initial ++ (l ++ rest))) (sym entries)
      (two_put AreApart apart_turns (block_at words d.at) (initial ++ (E ++ rest)) (initial ++ ((E ++ block_at words d.at ∷ []) ++ rest))
      (adds_behind (block_at words d.at) initial (E ++ rest) ((E ++ block_at words d.at ∷ []) ++ rest) added) freed.0 freed.1)

  pub win_is_kept : IsKept z o words before h after log exchanged behind longer
  win_is_kept =
      let pool = higher (pool_counter z) (omega arith) in
      let lists = higher (list_counter z) (omega arith) in
      let slots = higher (slot_counter z) (omega arith) in
      let t = tied in
      let more = length_push log entry in
      keeps z o words exchanged before h behind after log longer w (record {
        moves = moves;
        grows = grows;
        history = history;
        agrees = λ i below. agrees_at i below (d.component == i) refl;
        named = named;
        newest = λ k e s from. found_last (λ k (e : Applied). IsNew z o exchanged holdings_after longer k e) log entry k e new s from;
        tied = record {
          own = tt;
          spare = spare_moves z words exchanged h behind moves h.spare t.spare;
          marked = marked_stays z words exchanged before h behind after (marks_kept h behind refl refl refl) moves.rises t.marked;
        };
        apart = blocks_now;
        due = tt;
        taken = taken_stays z words exchanged h behind refl (λ l below room. omega (arith, below, slots));
        claim = claim_stays z o words exchanged before h behind after log w moves longer (omega (arith, more)) refl (λ l room. higher (slot_word z l) (omega arith));
        owners = λ v k s. s;
        joined = inl refl;
        head = head_stays z o words exchanged before h behind after log w moves (higher (list_head z) (omega arith));
        counters = counters_stay z words exchanged before h behind after (marks_kept h behind refl refl refl) counts w.counters;
      })

pub wins_are_kept : WinsAreKept
wins_are_kept z o words before h after log d w is won = win_is_kept z o words before h after log d w is won
