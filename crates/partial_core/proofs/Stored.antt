-- The store of a word of an update's record: after the last one the exchange is due.
use Rattle.partial_core.proofs.{Common.{ℕ, ◌≡◌, ◌+◌, ◌<◌, ◌≤◌, ◌==◌, ◌++◌, Bool, true, false, if◌then◌else◌, Option, Some, None, IfSome, List, ◌∷◌, length, slice_index, slice_get, inl, inr, refl, sym, ap, subst, ◌∙◌, arith, AllByRecursion, eqb-true, Applied, Opening, Step, Store, Layout, pool_end, words_after, prev_of, prev_word, view_word, plain_record_size, Change, Stage, StoringRecord, Exchanging, CoreState, at_stage, record_words, record_size, scanning, AreComponentIndices, is_sound_at, JoinedAnnouncement, IsBegunSince, ClaimedSlot, Holding, Own, Due, IfJoined, unpublished, Pool, IsEntry, IsPublished, stores_are_kept, dues_are_kept, loads_are_true, entry_published, if_all, three_words, all_before, all_after, all_append, IsThird, core_of, first_at, holding_of, holdings, joined_since, AllByRecursion-get, PartAmong, LawfulAmong}, MidCalls.IsViewed, Parts.{IsKeptAmong, holdings_split}, Steps.{LeadsAt, holding_in, sizes_here, sound_here, sound_at, memory_at, going, quiet}, Joins.keeps_then, StoredFacts.{HasViewed, length_record, record_due}}
use Rattle.partial_knowledge.specs.Sets as sets
use Rattle.partial_model.proofs.AllLemmas.{all_where}

-- the announcement of each port that had joined was AllByRecursion-get
finds_all : (hs : List Holding) (low : ℕ) (indices : List ℕ) → sets.FindsJoined hs low indices → AllByRecursion (λ v. IfJoined v (λ l j. j.since < low → sets.HasAll indices j)) hs
finds_all hs low indices finds =
    all_where (λ (v : Holding). IfJoined v (λ l j. j.since < low → sets.HasAll indices j)) hs (λ i v is.
    if_all (λ (c : ClaimedSlot). IfSome c.joined (λ j. j.since < low → sets.HasAll indices j)) v.claimed (λ c claimed.
    if_all (λ (j : JoinedAnnouncement). j.since < low → sets.HasAll indices j) c.joined (λ j joined.
    finds c.slot j (i, v, is, claimed ∙ ap (λ (f : Option JoinedAnnouncement). Some (record { slot = c.slot; joined = f })) joined))))

-- what an update has viewed, in words in which the entries' records are the same
viewed_then : (z : Layout) (o : Opening) (words words' : List ℕ) (hs : List Holding) (log : List Applied) (first : ℕ) (s : CoreState) → first ≤ length log →
    ((q : ℕ) (d : Applied) (n : ℕ) → slice_get log q ≡ Some d → n < plain_record_size → slice_index words' (d.stamp + n) ≡ slice_index words (d.stamp + n)) → IsViewed z o words hs log first s →
    HasViewed o words' log first s
viewed_then z o words words' hs log first s inside same viewed = elim viewed.1 [
  | inl nothing ↦ record {
    own = λ none. (first, record { from = omega arith; to = inside; values = λ i lt. let empty = nothing.0 in absurd (omega (arith, lt, empty)) });
    borrowed = λ stamp some. let bad : None ≡ Some stamp = sym nothing.1 ∙ some in absurd cc;
  }
  | inr finished ↦ record {
    own = λ none. let own = finished.0 none in (own.1, own.2);
    borrowed = λ stamp some.
        let known = finished.1 stamp some in
        let third : IsThird words log s.found.indices first (scanning s) stamp = known.0 in
        let at : (n : ℕ) → n < plain_record_size → slice_index words' (stamp + n) ≡ slice_index words (stamp + n) = λ n lt. subst (λ t. slice_index words' (t + n) ≡ slice_index words (t + n)) third.is
        (same third.place third.entry n third.stands lt) in
        let prev : prev_of words' stamp ≡ prev_of words stamp = ap (λ n. slice_index words' n) (omega arith) ∙ at (prev_word 0) (omega arith) ∙ ap (λ n. slice_index words n) (omega arith) in
        let now : IsThird words' log s.found.indices first (scanning s) stamp = record {
          borrowed = third.borrowed;
          three = third.three;
          place = third.place;
          entry = third.entry;
          stands = third.stands;
          is = third.is;
          position = third.position;
          within = third.within;
          component = third.component;
          begun = subst (IsBegunSince log first) (sym prev) third.begun;
        } in
        (now, known.1 ∙ sym (at (view_word 0) (omega arith)));
  }
]

module _ (z : Layout) (o : Opening) (m : PartAmong) (w : LawfulAmong z o m) (c : Change)
    (old at k : ℕ) (e : (core_of m.part).stage ≡ StoringRecord c old at k) where
  open m use {words, before, part as x, after, log}

  abbrev s : CoreState
  s = core_of x

  abbrev held : Holding
  held = holding_in s (StoringRecord c old at k) (joined_since x)

  abbrev step : Step
  step = Store (at + k) (slice_index (record_words s c old at) k)

  abbrev words' : List ℕ
  words' = words_after words step

  -- the block with so many words stored
  abbrev block : ℕ → Own
  block n = record { space = Pool; at = at; words = record_words s c old at; stored = n }

  sound : is_sound_at s (StoringRecord c old at k)
  sound = sound_at z o m w (StoringRecord c old at k) e

  -- what the part holds, with its stage named
  kept_here : (h : Holding) → IsKeptAmong z o m held words' h log → IsKeptAmong z o m (holding_of x) words' h log
  kept_here h kept = subst (λ (u : Stage). IsKeptAmong z o m (holding_in s u (joined_since x)) words' h log) (sym e) kept

  stored : IsKeptAmong z o m held words' (record held { own = Some (block (k + 1)) }) log
  stored =
      let size = length_record s c old at in
      let more = sound.2 in
      stores_are_kept z o words (holdings before) held (holdings after) log (block k) (memory_at z o m w (StoringRecord c old at k) e) refl refl (omega (arith, size, more))

  inside : at + k < length words
  inside =
      let count = w.memory.count in
      let more = sound.2 in
      let room : at + record_size s ≤ pool_end z = subst (λ (y : Layout). at + record_size s ≤ pool_end y) (sizes_here z o m w) sound.1.1 in
      omega (arith, count, more, room)

  -- more words follow
  word_stored : (k + 1 == record_size s) ≡ false → LeadsAt z o m (StoringRecord c old at k) step
  word_stored more =
      let t : CoreState = at_stage s (StoringRecord c old at (k + 1)) in
      quiet z o m w (StoringRecord c old at k) step t (record held { own = Some (block (k + 1)) }) e refl
      (ap (λ (b : Bool). at_stage s (if b then Exchanging c old at else StoringRecord c old at (k + 1))) more) refl inside refl refl (kept_here (record held { own = Some (block (k + 1)) }) stored)
      (λ ks is. tt) refl refl

  -- all that is held before the store
  abbrev hs : List Holding
  hs = holdings before ++ held ∷ holdings after

  -- the store leaves the words of the entries' records
  entry_stays : (q : ℕ) (d : Applied) (n : ℕ) → slice_get log q ≡ Some d → n < plain_record_size → slice_index words' (d.stamp + n) ≡ slice_index words (d.stamp + n)
  entry_stays q d n is few =
      let memory = memory_at z o m w (StoringRecord c old at k) e in
      let size = three_words words d.stamp in
      let published : IsPublished z words (unpublished hs) (d.stamp + n) = entry_published z o words hs log memory q d n is (omega (arith, few, size)) in
      let entry = AllByRecursion-get (IsEntry z words) log q d memory.entries is in
      let above = entry.above in
      let within = entry.within in
      let then' = stored.loads (d.stamp + n) (record { answer = slice_index words (d.stamp + n); at = length log })
      (loads_are_true z o words hs log (d.stamp + n) memory (omega (arith, within, few)) (λ far. published)) in
      sym (then'.block (omega (arith, above))).0

  -- the last word is stored: the exchange is due
  module _ (last : (k + 1 == record_size s) ≡ true) where
    abbrev due : Due
    due = record { component = c.component; old = old; value = c.value; at = at }

    abbrev whole : Own
    whole = block (length (record_words s c old at))

    all_stored : IsKeptAmong z o m held words' (record held { own = Some whole }) log
    all_stored = subst (λ n. IsKeptAmong z o m held words' (record held { own = Some (block n) }) log)
        (eqb-true (k + 1) (record_size s) last ∙ sym (length_record s c old at)) stored

    others_found : (first : ℕ) → sets.FindsJoined (holdings (before ++ x ∷ after)) first s.found.indices → AllByRecursion (λ v. IfJoined v (λ l j. j.since < first → sets.HasAll s.found.indices j))
        (holdings before ++ holdings after)
    others_found first finds =
        let P : Holding → Type 0 = λ v. IfJoined v (λ l j. j.since < first → sets.HasAll s.found.indices j) in
        let all : AllByRecursion P (holdings before ++ holding_of x ∷ holdings after) = subst (AllByRecursion P) (holdings_split before x after)
        (finds_all (holdings (before ++ x ∷ after)) first s.found.indices finds) in
        all_append P (holdings before) (holdings after) (all_before P (holdings before) (holding_of x) (holdings after) all) (all_after P (holdings before) (holding_of x) (holdings after) all)

    comes_due : IsKeptAmong z o m held words' (record held { own = Some whole; due = Some due }) log
    comes_due =
        let g = going z o m w (StoringRecord c old at k) e refl refl in
        let first = first_at x.kept in
        let known = g.knows in
        let order = g.order in
        let end = g.inside in
        let inside : first ≤ length log = omega (arith, order, end) in
        let sizes = sizes_here z o m w in
        let below : c.component < z.m = subst (λ (y : Layout). c.component < y.m) sizes sound.0.0 in
        let sound_part = sound_here z o m w in
        let indices : AreComponentIndices z s.found.indices = subst (λ (y : Layout). AreComponentIndices y s.found.indices) sizes sound_part.indices in
        let viewed : HasViewed o words' log first s = viewed_then z o words words' (holdings (before ++ x ∷ after)) log first s inside entry_stays known.1 in
        let dues = dues_are_kept z o words' (holdings before) (record held { own = Some whole }) (holdings after) log due all_stored.lawful
        (record_due z o words' (holdings before) (record held { own = Some whole }) (holdings after) log all_stored.lawful s c old at refl first inside below known.0.stamp
        (others_found first known.1.0) refl viewed indices sound_part.distinct) in
        keeps_then z o (record { words = words; holdings = hs; log = log }) (record { words = words'; holdings = holdings before ++ record held { own = Some whole } ∷ holdings after; log = log })
        (record { words = words'; holdings = holdings before ++ record held { own = Some whole; due = Some due } ∷ holdings after; log = log }) all_stored dues

    last_stored : LeadsAt z o m (StoringRecord c old at k) step
    last_stored =
        let t : CoreState = at_stage s (Exchanging c old at) in
        let h' : Holding = record held { own = Some whole; due = Some due } in
        quiet z o m w (StoringRecord c old at k) step t h' e refl (ap (λ (b : Bool). at_stage s (if b then Exchanging c old at else StoringRecord c old at (k + 1))) last) refl
        inside refl refl (kept_here h' comes_due) (λ ks is. tt) refl refl

  -- a word of the record is stored
  pub record_stored : LeadsAt z o m (StoringRecord c old at k) step
  record_stored = either (k + 1 == record_size s) refl
    where
      either : (b : Bool) → (k + 1 == record_size s) ≡ b → LeadsAt z o m (StoringRecord c old at k) step
      either true last = last_stored last
      either false more = word_stored more
