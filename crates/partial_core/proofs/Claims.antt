-- The claims of pool words, and the stores of an announcement.
use Rattle.partial_core.proofs.{Common.{ℕ, ◌≡◌, ◌+◌, ◌<◌, ◌≤◌, ◌==◌, ◌++◌, Bool, true, false, if◌then◌else◌, Option, Some, None, List, [], ◌∷◌, length, refl, sym, ap, subst, ◌∙◌, arith, slice_index, ltb-true, ltb-false, eqb-true, Opening, MayBeRefused, Store, Add, Layout, pool_counter, pool_end, greatest_record, greatest_claim, words_after, announcement_block, announcement_size, record_block, Change, Stage, ClaimingRecord, ScanBegun, StoringAnnouncement, CoreState, at_stage, step_at, record_size, record_words, fits_pool, pool_refused, begin_joining, IsPoolCount, size_few, Holding, Own, Pool, claims_are_kept, stores_are_kept, is_sound_at, core_of, holding_of, holding_at, holdings, joined_since, call_at, update_call, PartAmong, LawfulAmong, PoolWords, counter_bound, refusals_are_kept, replicate, length-replicate, ◌-◌, has_spare, claim_size, record_step, into_spare, into_claim, IsRecordAnswer, IsPossibleAt, advance_at, view_at, own_pairs, spares_are_kept, takes_are_kept, Block, block_of, LawfulWords, IsKept}, Leaves.names_all, Parts.{LawfulWith, IsKeptAmong}, Steps.{LeadsAt, holding_in, known_here, sizes_here, sound_here, sound_at, memory_at, going, quiet}, Reading.begun_here, StoredFacts.length_record, Joins.keeps_then}
use Rattle.partial_model.specs.declared.call.{Call.Call, Refused.Refused}

-- the first word of a record is the record before it
first_word : (old v view : ℕ) (pairs : List (ℕ × ℕ)) → slice_index (record_block old v view pairs) 0 ≡ old
first_word old v view [] = refl
first_word old v view (p ∷ pairs) = refl

module _ (z : Layout) (o : Opening) (m : PartAmong) (w : LawfulAmong z o m) where
  open m use {words, before, part as x, after, log}

  abbrev s : CoreState
  s = core_of x

  abbrev a : ℕ
  a = slice_index words (pool_counter z)

  pool_possible : IsPoolCount s.sizes a
  pool_possible =
      let low = (w.memory.counters PoolWords).low in
      subst (λ (y : Layout). IsPoolCount y a) (sym (sizes_here z o m w)) (omega (arith, low), counter_bound z o words (holdings (before ++ x ∷ after)) log w.memory PoolWords)

  -- what the part holds, with its stage named
  kept_here : (t : Stage) → s.stage ≡ t → (words' : List ℕ) (h : Holding) → IsKeptAmong z o m (holding_in s t (joined_since x)) words' h log →
      IsKeptAmong z o m (holding_of x) words' h log
  kept_here t e words' h k = subst (λ (u : Stage). IsKeptAmong z o m (holding_in s u (joined_since x)) words' h log) (sym e) k

  counter_inside : pool_counter z < length words
  counter_inside = let count = w.memory.count in let some = w.memory.sizes.slots.0 in omega (arith, count, some)

  -- within the pool: the claimed words are the port's own
  claim_keeps : (h : Holding) (size : ℕ) (block : List ℕ) → LawfulWith z o m h → h.own ≡ None → h.due ≡ None → length block ≡ size →
      fits_pool s.sizes size a ≡ true → IsKeptAmong z o m h (words_after words (Add (pool_counter z) size))
      (record h { own = Some (record { space = Pool; at = a; words = block; stored = 0 }) }) log
  claim_keeps h size block memory free none counts fits =
      let room = ltb-true (a + size) (pool_end s.sizes + 1) fits in
      let end : pool_end s.sizes ≡ pool_end z = ap pool_end (sizes_here z o m w) in
      subst (λ n. IsKeptAmong z o m h (words_after words (Add (pool_counter z) n))
      (record h { own = Some (record { space = Pool; at = a; words = block; stored = 0 }) }) log) counts
      (claims_are_kept z o words (holdings before) h (holdings after) log Pool block memory free none (omega (arith, room, end, counts)))

  -- past its end: the port is marked
  refusal_keeps : (h : Holding) (size : ℕ) → LawfulWith z o m h → h.pool_spent ≡ false → size ≤ greatest_claim z → fits_pool s.sizes size a ≡ false →
      IsKeptAmong z o m h (words_after words (Add (pool_counter z) size)) (record h { pool_spent = true }) log
  refusal_keeps h size memory unmarked few over =
      let past = ltb-false (a + size) (pool_end s.sizes + 1) over in
      let end : pool_end s.sizes ≡ pool_end z = ap pool_end (sizes_here z o m w) in
      refusals_are_kept z o words (holdings before) h (holdings after) log PoolWords size memory unmarked few (omega (arith, past, end))

  -- the record of an update goes into words that are claimed for it, or into spare words
  module _ (c : Change) (old : ℕ) (e : s.stage ≡ ClaimingRecord c old) where
    abbrev held : Holding
    held = holding_in (core_of x) (ClaimingRecord c old) (joined_since x)

    -- the machine after the step, by what its tests say
    abbrev on : Bool → Bool → CoreState
    on some fits = if some then into_spare s c old else (if fits then into_claim s c old a else pool_refused s)

    -- the record's words are taken from spare words that have room for them
    takes : (ws : List ℕ) (h : Holding) (at size rest : ℕ) → LawfulWords z o ws (holdings before ++ h ∷ holdings after) log → h.own ≡ None → h.due ≡ None → h.spare ≡ record { at = at; size = size } →
        size ≡ record_size s + rest →
        IsKept z o ws (holdings before) h (holdings after) log ws
        (record h { own = Some (record { space = Pool; at = at; words = record_words s c old at; stored = 0 }); spare = record { at = at + record_size s; size = rest } }) log
    takes ws h at size rest lawful free none is room =
        let words_are = length_record s c old at in
        let at_is : h.spare.at ≡ at = ap (λ (b : Block). b.at) is in
        let size_is : h.spare.size ≡ size = ap (λ (b : Block). b.size) is in
        let taken = takes_are_kept z o ws (holdings before) h (holdings after) log (record_words s c old at) lawful free none (omega (arith, words_are, size_is, room)) in
        let rest_is : h.spare.size - length (record_words s c old at) ≡ rest = omega (arith, words_are, size_is, room) in
        subst (λ (b : Block). IsKept z o ws (holdings before) h (holdings after) log ws (record h { own = Some (record { space = Pool; at = at; words = record_words s c old at; stored = 0 }); spare = b }) log)
        (ap (λ n. record { at = n + length (record_words s c old at); size = h.spare.size - length (record_words s c old at) }) at_is
        ∙ ap (λ n. record { at = at + n; size = h.spare.size - length (record_words s c old at) }) words_are ∙ ap (λ n. record { at = at + record_size s; size = n }) rest_is)
        (subst (λ n. IsKept z o ws (holdings before) h (holdings after) log ws (record h {
          own = Some (record { space = Pool; at = n; words = record_words s c old at; stored = 0 });
          spare = record { at = h.spare.at + length (record_words s c old at); size = h.spare.size - length (record_words s c old at) };
        }) log) at_is taken)

    -- the first word of the record is stored in spare words
    taken : has_spare s ≡ true → LeadsAt z o m (ClaimingRecord c old) (Store s.spare.at old)
    taken some =
        let room = ltb-true (record_size s) (s.spare.size + 1) some in
        let sound = sound_here z o m w in
        let count = w.memory.count in
        let to = sound.spare.1 in
        let end : pool_end s.sizes ≡ pool_end z = ap pool_end (sizes_here z o m w) in
        let size = (size_few s sound.indices.few).0 in
        let at = s.spare.at in
        let words_are = length_record s c old at in
        let own : ℕ → Own = λ n. record { space = Pool; at = at; words = record_words s c old at; stored = n } in
        let spare : Block = record { at = at + record_size s; size = s.spare.size - record_size s } in
        let first : Holding = record held { own = Some (own 0); spare = spare } in
        let last : Holding = record held { own = Some (own 1); spare = spare } in
        let take = takes words held at s.spare.size (s.spare.size - record_size s) (memory_at z o m w (ClaimingRecord c old) e) refl refl refl (omega (arith, room)) in
        let word : slice_index (record_words s c old at) 0 ≡ old = first_word old c.value (view_at s at) (own_pairs s) in
        let store : IsKept z o words (holdings before) first (holdings after) log (words_after words (Store at old)) last log =
        let here : at + 0 ≡ at = omega arith in
        subst (λ n. IsKept z o words (holdings before) first (holdings after) log (words_after words (Store at n)) last log) word
        (subst (λ n. IsKept z o words (holdings before) first (holdings after) log (words_after words (Store n (slice_index (record_words s c old at) 0))) last log) here
        (stores_are_kept z o words (holdings before) first (holdings after) log (own 0) take.lawful refl refl (omega (arith, words_are, size)))) in
        let keeps : IsKeptAmong z o m held (words_after words (Store at old)) last log =
        keeps_then z o (record { words = words; holdings = holdings before ++ held ∷ holdings after; log = log }) (record { words = words; holdings = holdings before ++ first ∷ holdings after; log = log })
        (record { words = words_after words (Store at old); holdings = holdings before ++ last ∷ holdings after; log = log }) take store in
        quiet z o m w (ClaimingRecord c old) (Store at old) (into_spare s c old) last e
        (ap (λ b. Some (if b then Store s.spare.at old else Add (pool_counter s.sizes) (claim_size s))) some) (ap (λ b. if b then into_spare s c old else (if fits_pool s.sizes (claim_size s) 0 then into_claim s c old 0 else pool_refused s)) some) refl
        (omega (arith, room, to, end, count, size)) (subst (λ b. IsRecordAnswer b s.sizes 0) (sym some) refl) refl
        (kept_here (ClaimingRecord c old) e (words_after words (Store at old)) last keeps) (λ ks is. tt) refl refl

    -- what is due where they have none
    due_claim : has_spare s ≡ false → step_at s (ClaimingRecord c old) ≡ Some (Add (pool_counter z) (claim_size s))
    due_claim none = ap (λ b. Some (if b then Store s.spare.at old else Add (pool_counter s.sizes) (claim_size s))) none ∙
        ap (λ (y : Layout). Some (Add (pool_counter y) (claim_size s))) (sizes_here z o m w)

    leads_claim : (b : Bool) → has_spare s ≡ false → fits_pool s.sizes (claim_size s) a ≡ b → advance_at s (ClaimingRecord c old) a ≡ on false b
    leads_claim b none fits = ap (λ v. on v (fits_pool s.sizes (claim_size s) a)) none ∙ ap (on false) fits

    possible_claim : has_spare s ≡ false → IsPossibleAt s (ClaimingRecord c old) a
    possible_claim none = subst (λ b. IsRecordAnswer b s.sizes a) (sym none) pool_possible

    -- words are claimed for the record, and words ahead
    claimed : has_spare s ≡ false → fits_pool s.sizes (claim_size s) a ≡ true → LeadsAt z o m (ClaimingRecord c old) (Add (pool_counter z) (claim_size s))
    claimed none fits =
        let words' = words_after words (Add (pool_counter z) (claim_size s)) in
        let all : List ℕ = replicate (claim_size s) 0 in
        let count : length all ≡ claim_size s = length-replicate (claim_size s) 0 in
        let whole : Own = record { space = Pool; at = a; words = all; stored = 0 } in
        let owned : Holding = record held { own = Some whole } in
        let spared : Holding = record held { own = None; due = None; spare = block_of whole } in
        let last : Holding = record held { own = Some (record { space = Pool; at = a; words = record_words s c old a; stored = 0 }); spare = record { at = a + record_size s; size = s.ahead } } in
        let claim : IsKept z o words (holdings before) held (holdings after) log words' owned log =
        claim_keeps held (claim_size s) all (memory_at z o m w (ClaimingRecord c old) e) refl refl count fits in
        let spare = spares_are_kept z o words' (holdings before) owned (holdings after) log whole claim.lawful refl refl in
        let take = takes words' spared a (length all) s.ahead spare.lawful refl refl refl count in
        let both = keeps_then z o (record { words = words; holdings = holdings before ++ held ∷ holdings after; log = log }) (record { words = words'; holdings = holdings before ++ owned ∷ holdings after; log = log })
        (record { words = words'; holdings = holdings before ++ spared ∷ holdings after; log = log }) claim spare in
        let keeps : IsKeptAmong z o m held words' last log =
        keeps_then z o (record { words = words; holdings = holdings before ++ held ∷ holdings after; log = log }) (record { words = words'; holdings = holdings before ++ spared ∷ holdings after; log = log })
        (record { words = words'; holdings = holdings before ++ last ∷ holdings after; log = log }) both take in
        quiet z o m w (ClaimingRecord c old) (Add (pool_counter z) (claim_size s)) (into_claim s c old a) last e (due_claim none) (leads_claim true none fits) refl counter_inside
        (possible_claim none) refl (kept_here (ClaimingRecord c old) e words' last keeps) (λ ks is. tt) refl refl

    -- the claim goes past the end of the pool
    refused : has_spare s ≡ false → fits_pool s.sizes (claim_size s) a ≡ false → LeadsAt z o m (ClaimingRecord c old) (Add (pool_counter z) (claim_size s))
    refused none over =
        let sound = sound_at z o m w (ClaimingRecord c old) e in
        let all = sound_here z o m w in
        let sizes = sizes_here z o m w in
        let ahead = all.ahead in
        let few : record_size s ≤ greatest_record z = subst (λ (y : Layout). record_size s ≤ greatest_record y) sizes (size_few s all.indices.few).1 in
        let keeps = kept_here (ClaimingRecord c old) e (words_after words (Add (pool_counter z) (claim_size s))) (holding_at (pool_refused s) (joined_since x))
        (refusal_keeps held (claim_size s) (memory_at z o m w (ClaimingRecord c old) e) sound.2 (omega (arith, few, ahead)) over) in
        let g = going z o m w (ClaimingRecord c old) e refl refl in
        let known = g.knows in
        let called = known.0.called in
        let k = known_here z o m w in
        let below : c.component < x.begun.sizes.m = (subst (is_sound_at x.begun) called k.sound.stage).0 in
        quiet z o m w (ClaimingRecord c old) (Add (pool_counter z) (claim_size s)) (pool_refused s) (holding_at (pool_refused s) (joined_since x)) e (due_claim none)
        (leads_claim false none over) refl counter_inside (possible_claim none) refl keeps (λ ks is. tt) refl
        (record { none = refl; call = update_call c.component c.expected c.value; made = ap (call_at x.begun) called; may = may_refuse c.expected below })
      where
        may_refuse : (f : Option ℕ) → c.component < x.begun.sizes.m → MayBeRefused x.begun.sizes.m (update_call c.component f c.value) Refused.PoolSpent
        may_refuse None below = ((below, tt), tt)
        may_refuse (Some t) below = ((below, tt), tt)

    -- the step that is due, whichever it is
    pub record_begun : LeadsAt z o m (ClaimingRecord c old) (record_step s old)
    record_begun = by (has_spare s) refl
      where
        by : (b : Bool) → has_spare s ≡ b → LeadsAt z o m (ClaimingRecord c old) (record_step s old)
        by true some = subst (λ b. LeadsAt z o m (ClaimingRecord c old) (if b then Store s.spare.at old else Add (pool_counter s.sizes) (claim_size s))) (sym some) (taken some)
        by false none = subst (λ b. LeadsAt z o m (ClaimingRecord c old) (if b then Store s.spare.at old else Add (pool_counter s.sizes) (claim_size s))) (sym none)
            (subst (λ (y : Layout). LeadsAt z o m (ClaimingRecord c old) (Add (pool_counter y) (claim_size s))) (sym (sizes_here z o m w)) (by_room (fits_pool s.sizes (claim_size s) a) refl))
          where
            by_room : (b : Bool) → fits_pool s.sizes (claim_size s) a ≡ b → LeadsAt z o m (ClaimingRecord c old) (Add (pool_counter z) (claim_size s))
            by_room true fits = claimed none fits
            by_room false over = refused none over

  -- a scan claims the words of its announcement
  pub announcement_claimed : s.stage ≡ ScanBegun → LeadsAt z o m ScanBegun (Add (pool_counter z) (announcement_size (length s.asked)))
  announcement_claimed e = either (fits_pool s.sizes (announcement_size (length s.asked)) a) refl
    where
      due : step_at s ScanBegun ≡ Some (Add (pool_counter z) (announcement_size (length s.asked)))
      due = ap (λ (y : Layout). Some (Add (pool_counter y) (announcement_size (length s.asked)))) (sizes_here z o m w)

      either : (b : Bool) → fits_pool s.sizes (announcement_size (length s.asked)) a ≡ b → LeadsAt z o m ScanBegun (Add (pool_counter z) (announcement_size (length s.asked)))
      either true fits =
          let t = at_stage s (StoringAnnouncement a 0) in
          let keeps = kept_here ScanBegun e (words_after words (Add (pool_counter z) (announcement_size (length s.asked)))) (holding_at t (joined_since x))
          (claim_keeps (holding_in s ScanBegun (joined_since x)) (announcement_size (length s.asked)) (announcement_block s.asked) (memory_at z o m w ScanBegun e) refl
          refl (omega arith) fits) in
          quiet z o m w ScanBegun (Add (pool_counter z) (announcement_size (length s.asked))) t (holding_at t (joined_since x)) e due
          (ap (λ (b : Bool). if b then at_stage s (StoringAnnouncement a 0) else pool_refused s) fits) refl counter_inside pool_possible refl keeps (λ ks is. tt) refl refl
      either false over =
          let t = pool_refused s in
          let sound = sound_at z o m w ScanBegun e in
          let all = sound_here z o m w in
          let sizes = sizes_here z o m w in
          let few : length s.asked ≤ z.m = subst (λ (y : Layout). length s.asked ≤ y.m) sizes all.asked.few in
          let keeps = kept_here ScanBegun e (words_after words (Add (pool_counter z) (announcement_size (length s.asked)))) (holding_at t (joined_since x))
          (refusal_keeps (holding_in s ScanBegun (joined_since x)) (announcement_size (length s.asked)) (memory_at z o m w ScanBegun e) sound.1 (omega (arith, few)) over) in
          let begun = begun_here z o m w ScanBegun e refl in
          let called : x.begun.stage ≡ ScanBegun = ap (λ (d : CoreState). d.stage) (sym begun) ∙ e in
          let k = known_here z o m w in
          let may = subst (is_sound_at x.begun) called k.sound.stage in
          quiet z o m w ScanBegun (Add (pool_counter z) (announcement_size (length s.asked))) t (holding_at t (joined_since x)) e due
          (ap (λ (b : Bool). if b then at_stage s (StoringAnnouncement a 0) else pool_refused s) over) refl counter_inside pool_possible refl keeps (λ ks is. tt) refl
          (record { none = refl; call = Call.Scan x.begun.asked; made = ap (call_at x.begun) called; may = (names_all x.begun.sizes.m x.begun.asked k.sound.asked.each, may.0) })

  -- a word of the announcement is stored
  pub announcement_stored : (at k : ℕ) → s.stage ≡ StoringAnnouncement at k → LeadsAt z o m (StoringAnnouncement at k)
      (Store (at + k) (slice_index (announcement_block s.asked) k))
  announcement_stored at k e = either (k == length s.asked) refl
    where
      own : Own
      own = record { space = Pool; at = at; words = announcement_block (core_of x).asked; stored = k }

      inside : at + k < length words
      inside =
          let sound = sound_at z o m w (StoringAnnouncement at k) e in
          let place = sound.2 in
          let less = sound.3 in
          let end : pool_end s.sizes ≡ pool_end z = ap pool_end (sizes_here z o m w) in
          let count = w.memory.count in
          let last = place.1 in
          omega (arith, last, less, end, count)

      stores : IsKeptAmong z o m (holding_in s (StoringAnnouncement at k) (joined_since x))
          (words_after words (Store (at + k) (slice_index (announcement_block s.asked) k)))
          (record (holding_in s (StoringAnnouncement at k) (joined_since x)) { own = Some (record { space = Pool; at = at; words = announcement_block s.asked; stored = k + 1 }) }) log
      stores =
          let sound = sound_at z o m w (StoringAnnouncement at k) e in
          let less = sound.3 in
          stores_are_kept z o words (holdings before) (holding_in s (StoringAnnouncement at k) (joined_since x)) (holdings after) log
          (record { space = Pool; at = at; words = announcement_block s.asked; stored = k }) (memory_at z o m w (StoringAnnouncement at k) e) refl refl (omega (arith, less))

      kept_stores : IsKeptAmong z o m (holding_of x) (words_after words (Store (at + k) (slice_index (announcement_block s.asked) k)))
          (record (holding_in s (StoringAnnouncement at k) (joined_since x)) { own = Some (record { space = Pool; at = at; words = announcement_block s.asked; stored = k + 1 }) }) log
      kept_stores = kept_here (StoringAnnouncement at k) e (words_after words (Store (at + k) (slice_index (announcement_block s.asked) k)))
          (record (holding_in s (StoringAnnouncement at k) (joined_since x)) { own = Some (record { space = Pool; at = at; words = announcement_block s.asked; stored = k + 1 }) }) stores

      either : (b : Bool) → (k == length s.asked) ≡ b → LeadsAt z o m (StoringAnnouncement at k) (Store (at + k) (slice_index (announcement_block s.asked) k))
      either true last =
          let all : announcement_size (length s.asked) ≡ k + 1 = let is = eqb-true k (length s.asked) last in omega (arith, is) in
          quiet z o m w (StoringAnnouncement at k) (Store (at + k) (slice_index (announcement_block s.asked) k)) (begin_joining s at)
          (record (holding_in s (StoringAnnouncement at k) (joined_since x)) { own = Some (record { space = Pool; at = at; words = announcement_block s.asked; stored = k + 1 }) }) e refl
          (ap (λ (b : Bool). if b then begin_joining s at else at_stage s (StoringAnnouncement at (k + 1))) last) refl inside refl
          (ap (λ n. record (holding_in s (StoringAnnouncement at k) (joined_since x)) { own = Some (record { space = Pool; at = at; words = announcement_block s.asked; stored = n }) }) all)
          kept_stores (λ ks is. tt) refl refl
      either false more =
          quiet z o m w (StoringAnnouncement at k) (Store (at + k) (slice_index (announcement_block s.asked) k)) (at_stage s (StoringAnnouncement at (k + 1)))
          (record (holding_in s (StoringAnnouncement at k) (joined_since x)) { own = Some (record { space = Pool; at = at; words = announcement_block s.asked; stored = k + 1 }) }) e refl
          (ap (λ (b : Bool). if b then begin_joining s at else at_stage s (StoringAnnouncement at (k + 1))) more) refl inside refl
          refl kept_stores (λ ks is. tt) refl refl
