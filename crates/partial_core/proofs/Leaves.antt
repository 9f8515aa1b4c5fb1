-- The last step of a scan: what it answers stood together after one prefix of the history.
use Rattle.partial_core.proofs.{Common.{ℕ, zero, suc, ◌≡◌, ◌+◌, ◌<◌, ◌≤◌, ◌++◌, Bool, true, false, if◌then◌else◌, Option, Some, None, IfSome, IsSome, List, [], ◌∷◌, length, map, slice_get, take, inl, inr, refl, sym, ap, subst, ◌∙◌, arith, Contains, slice_index, slice_index_or, AllByRecursion, Applied, Opening, value_of, Noted, NamesComponents, SawTogether, AreCollects, IsEntryFor, place_below, Store, Layout, slot_word, view_of, list_reads_back, Leaving, Finished, CoreState, scanning, scanned_values, scanned_reply, advance_at, step_at, HasPairs, Covers, ViewNames, Holding, IfJoined, unpublished, CoversAll, leaves_are_kept, words_after, AreStamps, got, is_sound_at, core_of, holding_of, holdings, joined_since, call_at, AllByRecursion-get, PartAmong, LawfulAmong}, MidCalls.is_finished, Parts.{IsKeptAmong, gone, gone_core, all_at, holdings_split}, Steps.{LeadsAt, holding_in, known_here, sizes_here, sound_here, sound_at, memory_at, going, ends}}
use Rattle.partial_model.specs.declared.call.{Call.Call, Answer.Answer, Note.Note}
use Rattle.partial_knowledge.specs.Scans as scans
use Rattle.partial_model.proofs.Values.{element_at}

-- each of the indices names a component
pub names_all : (m : ℕ) (js : List ℕ) → ((k : ℕ) → k < length js → slice_index js k < m) → AllByRecursion (λ j. j < m) js
names_all m [] f = tt
names_all m (j ∷ js) f = (f 0 (omega arith), names_all m js (λ k lt. f (suc k) (omega (arith, lt))))

-- two functions that agree on a list give the same
pub same_map : (f g : ℕ → ℕ) (js : List ℕ) → ((i : ℕ) → i < length js → f (slice_index js i) ≡ g (slice_index js i)) → map f js ≡ map g js
same_map f g [] h = refl
same_map f g (j ∷ js) h = ap (λ v. v ∷ map f js) (h 0 (omega arith)) ∙ ap (λ vs. g j ∷ vs) (same_map f g js (λ i lt. h (suc i) (omega (arith, lt))))

-- a component that a view names has a pair element_at
pair_of : (pairs : List (ℕ × ℕ)) (k j : ℕ) → k < length (map (λ (q : ℕ × ℕ). q.0) pairs) → slice_index_or (map (λ (q : ℕ × ℕ). q.0) pairs) k j ≡ j → (v : ℕ) × (slice_get pairs k ≡ Some (j, v))
pair_of [] k j lt is = absurd (omega (arith, lt))
pair_of (p ∷ pairs) zero j lt is = (p.1, ap (λ c. Some (c, p.1)) is)
pair_of (p ∷ pairs) (suc k) j lt is = pair_of pairs k j (omega (arith, lt)) is

-- what is named at each place of a list
named_at : (P : ℕ → Type 0) (js : List ℕ) → AllByRecursion P js → (i : ℕ) → i < length js → P (slice_index js i)
named_at P [] w i lt = absurd (omega (arith, lt))
named_at P (j ∷ js) w zero lt = w.0
named_at P (j ∷ js) w (suc i) lt = named_at P js w.1 i (omega (arith, lt))

-- the pairs of one view at two tellings
same_length : (z : Layout) (words : List ℕ) (hs : List Holding) (stamp : ℕ) (a b : List (ℕ × ℕ)) → HasPairs z words (unpublished hs) stamp a → HasPairs z words (unpublished hs) stamp b →
    (k c v : ℕ) → slice_get a k ≡ Some (c, v) → (u : ℕ) × (slice_get b k ≡ Some (c, u))
same_length z words hs stamp a b (inl none) other k c v s = let bad : None ≡ Some (c, v) = ap (λ (l : List (ℕ × ℕ)). slice_get l k) (sym none.1) ∙ s in absurd cc
same_length z words hs stamp a b (inr view) (inl none) k c v s = let above = view.above in let is = none.0 in absurd (omega (arith, above, is))
same_length z words hs stamp a b (inr view) (inr other) k c v s =
    let ra = list_reads_back words (view_of words stamp) a view.stands in
    let rb = list_reads_back words (view_of words stamp) b other.stands in
    let ca = ra.count in
    let cb = rb.count in
    let lt = place_below a k (c, v) s in
    let inside : k < length b = omega (arith, ca, cb, lt) in
    let in_a = ra.each k (0, 0) lt in
    let in_b = rb.each k (0, 0) inside in
    let same : slice_index_or a k (0, 0) ≡ slice_index_or b k (0, 0) = sym in_a ∙ in_b in
    let at_a : slice_index_or a k (0, 0) ≡ (c, v) = got a k (c, v) (0, 0) s in
    let at_b = element_at b k inside in
    let is : at_b.0 ≡ (c, v) = sym (got b k at_b.0 (0, 0) at_b.1) ∙ sym same ∙ at_a in
    (v, at_b.1 ∙ ap (λ (q : ℕ × ℕ). Some q) is)

-- a scan of some positions makes so many collects
are_collects : (r c : ℕ) (b : Option ℕ) → 0 < r → 2 ≤ c → c ≤ r + 2 → (IsSome b → 3 ≤ c) → AreCollects r c b
are_collects zero c b some two few three = absurd (omega (arith, some))
are_collects (suc r) c b some two few three = (two, omega (arith, few), three)

module _ (z : Layout) (o : Opening) (m : PartAmong) (w : LawfulAmong z o m)
    (e : (core_of m.part).stage ≡ Leaving) where
  open m use {words, before, part as x, after, log}

  abbrev hs : List Holding
  hs = holdings (before ++ x ∷ after)

  abbrev s : CoreState
  s = core_of x

  -- what the scan saw
  record Saw : Type 0 where
    prefix : ℕ
    from : joined_since x ≤ prefix
    together : SawTogether o log s.asked (scanned_values s) s.embedded.collects s.embedded.borrowed prefix
    stamps : s.embedded.borrowed ≡ None → AreStamps o (take prefix log) s.asked s.rows.last

  -- the indices that the third record's view names, of this port's own announcement
  names_own : (stamp : ℕ) → scans.IsThird words log s.asked (joined_since x) (scanning s) stamp → ViewNames z words (unpublished hs) stamp s.asked
  names_own stamp third =
      let covers = AllByRecursion-get (λ (d : Applied). CoversAll z words hs log d.stamp) log third.place third.entry w.memory.covering third.stands in
      let split : AllByRecursion (λ (h : Holding). IfJoined h (λ l j. Covers z words (unpublished hs) log third.entry.stamp j)) (holdings before ++ holding_of x ∷ holdings after) =
      subst (λ (ks : List Holding). AllByRecursion (λ (h : Holding). IfJoined h (λ l j. Covers z words (unpublished hs) log third.entry.stamp j)) ks) (holdings_split before x after) covers in
      let own : IfJoined (holding_of x) (λ l j. Covers z words (unpublished hs) log third.entry.stamp j) =
      all_at (λ (h : Holding). IfJoined h (λ l j. Covers z words (unpublished hs) log third.entry.stamp j)) (holdings before) (holding_of x) (holdings after) split in
      let here : IfJoined (holding_in s Leaving (joined_since x)) (λ l j. Covers z words (unpublished hs) log third.entry.stamp j) =
      subst (λ t. IfJoined (holding_in s t (joined_since x)) (λ l j. Covers z words (unpublished hs) log third.entry.stamp j)) e own in
      let at : Covers z words (unpublished hs) log stamp (record { at = s.join.announcement; indices = s.asked; since = joined_since x }) =
      subst (λ n. Covers z words (unpublished hs) log n (record { at = s.join.announcement; indices = s.asked; since = joined_since x })) third.is here in
      at third.begun

  -- nothing was borrowed: two collects agreed
  saw_own : (known : is_finished z o words hs log s.asked (joined_since x) (scanning s)) → 0 < length s.asked → s.embedded.collects ≤ length s.asked + 2 → s.embedded.borrowed ≡ None → Saw
  saw_own known some few none =
      let own = known.0 none in
      let values = own.2 in
      record {
        prefix = own.1;
        from = values.from;
        together = record {
          within = values.to;
          values = same_map (slice_index s.rows.values) (value_of o (take own.1 log)) s.asked values.values;
          collects = are_collects (length s.asked) s.embedded.collects s.embedded.borrowed some own.0 few (λ is. absurd (no_some s.embedded.borrowed none is));
          borrowed = subst (λ (f : Option ℕ). IfSome f (λ t. (k j : ℕ) × (own.1 ≤ k) × Contains s.asked j × IsEntryFor log k j t)) (sym none) tt;
        };
        stamps = λ _. own.3;
      }
    where
      no_some : (f : Option ℕ) → f ≡ None → IsSome f → ⊥
      no_some None is some = cc
      no_some (Some a) is some = let bad : Some a ≡ None = is in cc

  -- a view was borrowed: its pairs are the values after one prefix, and it names what the scan asks for
  saw_borrowed : (stamp : ℕ) (known : is_finished z o words hs log s.asked (joined_since x) (scanning s)) → 0 < length s.asked → s.embedded.collects ≤ length s.asked + 2 → s.embedded.shares ≡ false →
      s.embedded.borrowed ≡ Some stamp → Saw
  saw_borrowed stamp known some few shares is =
      let l = known.2 stamp is shares in
      let third = l.1 in
      let loaded = l.6 in
      let all : l.4 ≡ length l.3 = let sum = l.5 in omega (arith, sum) in
      let named = names_own l.0 third in
      let stamp_is : Some l.0 ≡ s.embedded.borrowed = sym third.borrowed in
      let to = loaded.to in
      let inside = place_below log third.place third.entry third.stands in
      let three = third.three in
      record {
        prefix = loaded.prefix;
        from = loaded.from;
        together = record {
          within = omega (arith, to, inside);
          values = same_map (slice_index s.rows.values) (value_of o (take loaded.prefix log)) s.asked (λ i lt.
              let at = named_at (λ j. Contains (map (λ (q : ℕ × ℕ). q.0) named.0) j) s.asked named.2 i lt in
              let pair = pair_of named.0 at.0 (slice_index s.asked i) at.1 at.2 in
              let mine = same_length z words hs l.0 named.0 l.3 named.1 loaded.shown at.0 (slice_index s.asked i) pair.0 pair.1 in
              loaded.loaded at.0 (let below = place_below l.3 at.0 (slice_index s.asked i, mine.0) mine.1 in omega (arith, all, below)) (slice_index s.asked i) mine.0 mine.1);
          collects = are_collects (length s.asked) s.embedded.collects s.embedded.borrowed some (omega (arith, three)) few (λ _. three);
          borrowed = subst (λ (f : Option ℕ). IfSome f (λ t. (k j : ℕ) × (loaded.prefix ≤ k) × Contains s.asked j × IsEntryFor log k j t)) stamp_is (
            third.place,
            slice_index s.asked third.position,
            to,
            (third.position, third.within, in_list s.asked third.position third.within),
            (third.entry, third.stands, third.component, third.is),
          );
        };
        stamps = λ none. let bad : None ≡ Some stamp = sym none ∙ is in absurd cc;
      }
    where
      in_list : (js : List ℕ) (i : ℕ) → i < length js → slice_index_or js i (slice_index js i) ≡ slice_index js i
      in_list [] i lt = absurd (omega (arith, lt))
      in_list (j ∷ js) zero lt = refl
      in_list (j ∷ js) (suc i) lt = in_list js i (omega (arith, lt))

  saw : Saw
  saw =
      let g = going z o m w Leaving e refl refl in
      let known = g.knows in
      let k = known_here z o m w in
      let begun = subst (is_sound_at x.begun) known.0.called k.sound.stage in
      let some : 0 < length s.asked = let same : length s.asked ≡ length x.begun.asked = ap length known.0.asked in let first = begun.0 in omega (arith, same, first) in
      by_borrowed s.embedded.borrowed refl known.5 some known.4 known.3
    where
      by_borrowed : (f : Option ℕ) → s.embedded.borrowed ≡ f → is_finished z o words hs log s.asked (joined_since x) (scanning s) → 0 < length s.asked → s.embedded.collects ≤ length s.asked + 2 →
          s.embedded.shares ≡ false → Saw
      by_borrowed None is known some few shares = saw_own known some few is
      by_borrowed (Some stamp) is known some few shares = saw_borrowed stamp known some few shares is

  -- the step that is due
  pub leave_due : step_at s Leaving ≡ Some (Store (slot_word z s.leave.slot) 1)
  leave_due =
      let sound = sound_at z o m w Leaving e in
      let leave_sizes : s.leave.sizes ≡ z = sound.0 ∙ sizes_here z o m w in
      ap (λ (b : Bool). if b then None else Some (Store (slot_word s.leave.sizes s.leave.slot) 1)) sound.2 ∙ ap (λ (y : Layout). Some (Store (slot_word y s.leave.slot) 1)) leave_sizes

  -- the scan's store that leaves its slot
  pub leaves : LeadsAt z o m Leaving (Store (slot_word z s.leave.slot) 1)
  leaves =
      let seen = saw in
      let g = going z o m w Leaving e refl refl in
      let known = g.knows in
      let k = known_here z o m w in
      let sound = sound_at z o m w Leaving e in
      let sizes = sizes_here z o m w in
      let slot : s.leave.slot < z.slots = subst (λ (y : Layout). s.leave.slot < y.slots) sizes sound.1 in
      let t : CoreState = record s { leave = record s.leave { left = true }; stage = Finished (scanned_reply s) } in
      let held = holding_in s Leaving (joined_since x) in
      let keeps = leaves_are_kept z o words (holdings before) held (holdings after) log s.leave.slot (record { at = s.join.announcement; indices = s.asked; since = joined_since x })
      (memory_at z o m w Leaving e) refl in
      let keeps_x : IsKeptAmong z o m (holding_of x) (words_after words (Store (slot_word z s.leave.slot) 1)) (record held { claimed = None }) log =
      subst (λ u. IsKeptAmong z o m (holding_in s u (joined_since x)) (words_after words (Store (slot_word z s.leave.slot) 1))
      (record held { claimed = None }) log) (sym e) keeps in
      let n : Noted = record { call = Call.Scan s.asked; answer = Answer.Scanned (scanned_values s) s.embedded.collects s.embedded.borrowed; note = Some (Note.Saw seen.prefix) } in
      let each = sound_here z o m w in
      let m_is = ap (λ (y : Layout). y.m) sizes in
      let values = w.memory.values in
      let names : NamesComponents (length o.values) (Call.Scan s.asked) = names_all (length o.values) s.asked (λ i lt. let below = each.asked.each i lt in omega (arith, below, m_is, values)) in
      let low = g.low in
      let first = known.1 in
      let from = seen.from in
      let inside = seen.together.within in
      let count = w.memory.count in
      ends z o m w Leaving (Store (slot_word z s.leave.slot) 1) t (record held { claimed = None }) e leave_due refl refl
      (omega (arith, slot, count)) refl refl keeps_x (λ ks is. tt)
      n refl (names, (seen.together, omega (arith, low, first, from))) inside refl
      (record {
        call = Call.Scan s.asked;
        note = Note.Saw seen.prefix;
        is = ap (λ (c : CoreState). record { call = Call.Scan s.asked; answer = Answer.Scanned (scanned_values c) s.embedded.collects s.embedded.borrowed; note = Some (Note.Saw seen.prefix) }
            ∷ []) (sym (core_is n));
        made = ap (call_at x.begun) known.0.called ∙ ap (λ js. Some (Call.Scan js)) (sym known.0.asked);
        behind = let more = g.more (record { answer = 0; at = length log }) in omega (arith, more, first, from);
        within = inside;
        placed = inside;
        stamps = λ none. subst (λ (c : CoreState). AreStamps o (take seen.prefix log) c.asked c.rows.last) (sym (core_is n)) (seen.stamps none);
      })
    where
      core_is : (n : Noted) → core_of (gone x log 0 (n ∷ [])) ≡ record s { leave = record s.leave { left = true }; stage = Finished (scanned_reply s) }
      core_is n = gone_core x log 0 (n ∷ []) ∙ ap (λ u. advance_at s u 0) e
