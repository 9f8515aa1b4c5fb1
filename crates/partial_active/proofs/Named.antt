-- What a getSet that is answered from orderly words knows of the announcements that it has found, and in which order it
-- names their indices.
use Rattle.partial_active.proofs.{Common.{ℕ, ◌≡◌, ◌+◌, ◌-◌, ◌<◌, ◌≤◌, ◌⊎◌, ◌↔◌, min, Bool, true, ◌||◌, ◌&&◌, not, ◌==◌, nat_lt, if◌then◌else◌, Some, None, List, [], ◌∷◌, ◌++◌, length, map, take, slice_index_or, slice_index, inl, inr, refl, sym, ap, subst, ◌∙◌, arith, append-nil, flat_map, list_any, cases_lt, cond_both, eqb-true, eqb-false, take_more, take_all, length_push, ext_get_or, get_or_append_left, get_or_push, map-append, length-map, get_or-map, highest, Step, Load, Layout, IsLayout, list_head, slot_word, list_end, StandsAt, announcement_block, announced_word, list_block, answer_of, announcement_reads_back, Stage, Head, ListLen, ListLow, ListHigh, Counter, Slot, Len, Index, Claim, Write, Publish, Done, has_index, with_index, Buffers, AreFoundFor, begins_at, SetPair, fresh_set, set_step_at, set_step_due, advance_set, advance_set_at, after_walk, at_slot, come_to, pass_interval, note_slot, in_stage, next_words, EndsBelow, is_possible_at, IsPossibleInSet, IsWalking, IsAtSlot, set_goes_at, slot_at, head_at, IsAnnouncement, AtSome, AtSomeStep, own_moments, Announcement, FindsAnnouncement, with_all, each_once, AreRising, AreInOrder, GetSetsFindInOrder, next_word, indices_word, intervals_word, nat_eq_equiv, IsDistinct-push}, Walk.begun, Answered.{walk_begins, walk_next, walk_noted, at_with}, Orders.{Past, IsPairwiseOrderly, LeadsTo, own_leads, moments_of}, Indices.same_named, Known.{IsLoaded, announced_yet}, Moments.{at_later, at_here, at_split, Behind, holds_behind}}
use Rattle.std.specs.{Prelude.{nat_eq, Contains}, List.IsDistinct}
use Rattle.std.proofs.lemmas.Grind.{flat_map-append}
use Rattle.std.proofs.lemmas.List.Elements.{Contains-append_left, Contains-push, Contains-push_cases, Contains-get_or}

-- indices put at the end in two parts
with_all-append : (xs ys zs : List ℕ) → with_all xs (ys ++ zs) ≡ with_all (with_all xs ys) zs
with_all-append xs [] zs = refl
with_all-append xs (y ∷ ys) zs = with_all-append (with_index xs y) ys zs

-- none is there twice
pub same_test : (l : List ℕ) (x : ℕ) → list_any (nat_eq x) l ≡ has_index l x
same_test [] x = refl
same_test (y ∷ l) x = ap (λ b. b || list_any (nat_eq x) l) (nat_eq_equiv.symm x y) ∙ ap (λ b. nat_eq y x || b) (same_test l x)

with_index_distinct : (l : List ℕ) (x : ℕ) → IsDistinct nat_eq l → IsDistinct nat_eq (with_index l x)
with_index_distinct l x distinct = cond_both (has_index l x) l (l ++ x ∷ []) (IsDistinct nat_eq) (λ e. distinct) (λ e. IsDistinct-push nat_eq_equiv l x distinct (same_test l x ∙ e))

with_all_distinct : (xs ys : List ℕ) → IsDistinct nat_eq xs → IsDistinct nat_eq (with_all xs ys)
with_all_distinct xs [] distinct = distinct
with_all_distinct xs (y ∷ ys) distinct = with_all_distinct (with_index xs y) ys (with_index_distinct xs y distinct)

each_once_distinct : (ys : List ℕ) → IsDistinct nat_eq (each_once ys)
unfolding IsDistinct
each_once_distinct ys = with_all_distinct [] ys tt

-- one more number after those that rise
rising_push : (xs : List ℕ) (n : ℕ) → AreRising xs → ((k : ℕ) → k < length xs → slice_index xs k < n) → AreRising (xs ++ n ∷ [])
rising_push xs n rising below j k less inside =
    let longer = length_push xs n in
    let first : slice_index (xs ++ n ∷ []) j ≡ slice_index xs j = get_or_append_left xs (n ∷ []) 0 j (omega (arith, longer, less, inside)) in
    elim (cases_lt k (length xs)) [
      | inl before ↦ let second = get_or_append_left xs (n ∷ []) 0 k before in let old = rising j k less before in omega (arith, first, second, old)
      | inr last ↦
          let second = get_or_push xs n 0 k (omega (arith, longer, inside, last)) in
          let old = below j (omega (arith, longer, less, inside)) in
          omega (arith, first, second, old)
    ]

-- the announcements found so far, all in slots below
pub record Named (s : Layout) (start : SetPair) (ms : Past) (slot : ℕ) (indices : List ℕ) : Type 0 where
  pub found : List Announcement
  pub rising : AreRising (map (λ (a : Announcement). a.slot) found)
  pub below : (a : Announcement) → Contains found a → a.slot < slot
  pub loaded : (a : Announcement) → Contains found a ↔ AtSomeStep (FindsAnnouncement s a) start ms
  pub gathered : indices ≡ each_once (flat_map (λ (a : Announcement). a.named) found)

-- the same, and one more announcement, of which i indices are read
record Reading (s : Layout) (start : SetPair) (ms : Past) (a : Announcement) (i : ℕ) (indices : List ℕ) : Type 0 where
  found : List Announcement
  rising : AreRising (map (λ (b : Announcement). b.slot) found)
  below : (b : Announcement) → Contains found b → b.slot < a.slot
  loaded : (b : Announcement) → (Contains found b ⊎ (a ≡ b)) ↔ AtSomeStep (FindsAnnouncement s b) start ms
  gathered : indices ≡ with_all (each_once (flat_map (λ (b : Announcement). b.named) found)) (take i a.named)

-- the announcements found in all slots
abbrev NamedAll : Layout → SetPair → Past → SetPair → Type 0
NamedAll s start ms p = (n : ℕ) × (n ≤ p.0.sizes.slots) × Named s start ms n p.1.indices

-- what is known of them at a stage after the first one
named_at : Layout → SetPair → Past → Stage → SetPair → Type 0
named_at s start ms Head p = ⊥
named_at s start ms (ListLen at) p = (p.1.indices ≡ []) × ((a : Announcement) → AtSomeStep (FindsAnnouncement s a) start ms → ⊥)
named_at s start ms (ListLow at left) p = (p.1.indices ≡ []) × ((a : Announcement) → AtSomeStep (FindsAnnouncement s a) start ms → ⊥)
named_at s start ms (ListHigh at left lo) p = (p.1.indices ≡ []) × ((a : Announcement) → AtSomeStep (FindsAnnouncement s a) start ms → ⊥)
named_at s start ms Counter p = (p.1.indices ≡ []) × ((a : Announcement) → AtSomeStep (FindsAnnouncement s a) start ms → ⊥)
named_at s start ms (Slot slot) p = Named s start ms slot p.1.indices
named_at s start ms (Len slot at) p = (a : Announcement) × (a.slot ≡ slot) × Reading s start ms a 0 p.1.indices × AtSome (IsLoaded s slot at a.named) ms
named_at s start ms (Index slot at left) p =
    (a : Announcement) × (a.slot ≡ slot) × (from : ℕ) × (i : ℕ) × Reading s start ms a i p.1.indices × AtSome (IsLoaded s slot from a.named) ms
    × (at ≡ announced_word from i) × (i + left ≡ length a.named)
named_at s start ms (Claim count) p = NamedAll s start ms p
named_at s start ms (Write at k count word) p = NamedAll s start ms p
named_at s start ms (Publish at) p = NamedAll s start ms p
named_at s start ms Done p = NamedAll s start ms p

abbrev NamedBy : Layout → SetPair → Past → SetPair → Type 0
NamedBy s start ms p = named_at s start ms p.0.stage p

-- the walk goes on
named_higher : (s : Layout) (start : SetPair) (ms : Past) (slot n : ℕ) (indices : List ℕ) → slot ≤ n → Named s start ms slot indices → Named s start ms n indices
named_higher s start ms slot n indices le w =
    record { found = w.found; rising = w.rising; below = λ a h. let b = w.below a h in omega (arith, b, le); loaded = w.loaded; gathered = w.gathered }

named_after_walk : (s : Layout) (start : SetPair) (ms : Past) (p : SetPair) (slot : ℕ) → slot ≤ p.0.sizes.slots → Named s start ms slot p.1.indices → NamedBy s start ms (after_walk p)
unfolding named_at
named_after_walk s start ms p slot within w = cond_both (p.0.noted && not p.0.lists_spent) (Claim (next_words p.1)) Done (λ stage. NamedBy s start ms (record p.0 { stage = stage }, p.1))
    (λ e. (slot, within, w)) (λ e. (slot, within, w))

named_at_slot : (s : Layout) (start : SetPair) (ms : Past) (p : SetPair) (slot : ℕ) → slot ≤ p.0.sizes.slots → Named s start ms slot p.1.indices → NamedBy s start ms (at_slot p slot)
unfolding named_at
named_at_slot s start ms p slot within w = cond_both (nat_lt slot p.0.end) (record p.0 { stage = Slot slot }, p.1) (after_walk p) (NamedBy s start ms) (λ e. w)
    (λ e. named_after_walk s start ms p slot within w)

named_come_to : (s : Layout) (start : SetPair) (ms : Past) (p : SetPair) (slot : ℕ) → IsWalking p slot → Named s start ms slot p.1.indices → NamedBy s start ms (come_to p slot)
named_come_to s start ms p slot walking w = cond_both (begins_at p.1.read p.0.passed slot) (at_slot (pass_interval p) (highest p.1.read p.0.passed + 1)) (at_slot p slot) (NamedBy s start ms)
    (λ e.
    let b = begun p slot walking e in
    let closed = walking.list.normal.closed p.0.passed b.0 in
    let inside = walking.list.within p.0.passed b.0 in
    named_at_slot s start ms (pass_interval p) (highest p.1.read p.0.passed + 1) (omega (arith, inside))
    (named_higher s start ms slot (highest p.1.read p.0.passed + 1) p.1.indices (omega (arith, b.1, closed)) w))
    (λ e. named_at_slot s start ms p slot walking.slot_within w)

-- an announcement that is read whole is one more that is found
named_more : (s : Layout) (start : SetPair) (ms : Past) (a : Announcement) (i : ℕ) (indices : List ℕ) → length a.named ≤ i → Reading s start ms a i indices →
    Named s start ms (a.slot + 1) indices
named_more s start ms a i indices whole w =
    let f : Announcement → List ℕ = λ b. b.named in
    let g : Announcement → ℕ = λ b. b.slot in
    let slots : map g (w.found ++ a ∷ []) ≡ map g w.found ++ a.slot ∷ [] = map-append g w.found (a ∷ []) in
    let names : flat_map f (w.found ++ a ∷ []) ≡ flat_map f w.found ++ a.named = flat_map-append f w.found (a ∷ []) ∙ ap (λ (l : List ℕ). flat_map f w.found ++ l) (append-nil a.named) in
    let all : take i a.named ≡ a.named = take_all i a.named whole in
    record {
      found = w.found ++ a ∷ [];
      rising = subst AreRising (sym slots) (rising_push (map g w.found) a.slot w.rising (λ k inside.
          let place : k < length w.found = let size = length-map w.found g in omega (arith, size, inside) in
          let is = get_or-map g w.found k a 0 place in
          let below = w.below (slice_index_or w.found k a) (Contains-get_or w.found k a place) in
          omega (arith, is, below)));
      below = λ b h. elim (Contains-push_cases w.found a b h) [
        | inl old ↦ let below = w.below b old in omega (arith, below)
        | inr new ↦ let is : a.slot ≡ b.slot = ap (λ (c : Announcement). c.slot) new in omega (arith, is)
      ];
      loaded = λ b. (
        λ h. (w.loaded b).0 (Contains-push_cases w.found a b h),
        λ h. elim ((w.loaded b).1 h) [
          | inl old ↦ Contains-append_left w.found (a ∷ []) b old
          | inr new ↦ subst (λ (c : Announcement). Contains (w.found ++ a ∷ []) c) new (Contains-push w.found a)
        ],
      );
      gathered = w.gathered ∙ ap (λ (l : List ℕ). with_all (each_once (flat_map f w.found)) l) all ∙ sym (with_all-append [] (flat_map f w.found) a.named) ∙ ap each_once (sym names);
    }

some_later : (P : List ℕ → Type 0) (ms : Past) (now : List ℕ) → AtSome P ms → AtSome P (ms ++ now ∷ [])
some_later P [] now some = absurd some
some_later P (w ∷ ws) now (inl h) = inl h
some_later P (w ∷ ws) now (inr h) = inr (some_later P ws now h)

some_now : (P : List ℕ → Type 0) (ms : Past) (now : List ℕ) → P now → AtSome P (ms ++ now ∷ [])
some_now P [] now h = inl h
some_now P (w ∷ ws) now h = inr (some_now P ws now h)

-- one word refers to one announcement
one_announcement : (s : Layout) (words : List ℕ) (a b : Announcement) → a.slot ≡ b.slot → IsAnnouncement s words (slot_at s words a.slot) a.named →
    IsAnnouncement s words (slot_at s words b.slot) b.named → a ≡ b
one_announcement s words a b slot there here =
    let at = slot_at s words b.slot in
    let stands = subst (λ n. IsAnnouncement s words (slot_at s words n) a.named) slot there in
    let same = same_named words at a.named b.named stands.stands here.stands in
    let named : a.named ≡ b.named = ext_get_or 0 a.named b.named same.0 (λ k below. sym (same.1 k below)) in
    ap (λ n. record { slot = n; named = a.named }) slot ∙ ap (λ l. record { slot = b.slot; named = l }) named

-- what the next moment shows
module _ (s : Layout) (layout : IsLayout s) (spent : Bool) (f : Buffers) (first : List ℕ) (done : Past) (p : SetPair) (now : List ℕ) (b : Behind s spent f (first ∷ done) p now) where
  abbrev Old : Announcement → Type 0
  Old a = AtSomeStep (FindsAnnouncement s a) (fresh_set s spent, f) (first ∷ done)

  abbrev New : Announcement → Type 0
  New a = AtSomeStep (FindsAnnouncement s a) (fresh_set s spent, f) ((first ∷ done) ++ now ∷ [])

  abbrev Before : Stage → SetPair → Type 0
  Before stage q = named_at s (fresh_set s spent, f) (first ∷ done) stage q

  abbrev After : SetPair → Type 0
  After q = NamedBy s (fresh_set s spent, f) ((first ∷ done) ++ now ∷ []) q

  -- no announcement is found
  abbrev IsQuiet : Type 0
  IsQuiet = (a : Announcement) → FindsAnnouncement s a p now → ⊥

  found_on : (a : Announcement) → Old a → New a
  found_on a h = at_later (FindsAnnouncement s a) (fresh_set s spent, f) (first ∷ done) now h

  found_back : IsQuiet → (a : Announcement) → New a → Old a
  found_back quiet a h = elim (at_split (FindsAnnouncement s a) (fresh_set s spent, f) p (first ∷ done) now b.leads h) [ inl t ↦ t | inr t ↦ absurd (quiet a t) ]

  named_on : IsQuiet → (slot : ℕ) (indices : List ℕ) → Named s (fresh_set s spent, f) (first ∷ done) slot indices → Named s (fresh_set s spent, f) ((first ∷ done) ++ now ∷ []) slot indices
  named_on quiet slot indices w = record {
    found = w.found;
    rising = w.rising;
    below = w.below;
    loaded = λ a. ((λ h. found_on a ((w.loaded a).0 h)), (λ h. (w.loaded a).1 (found_back quiet a h)));
    gathered = w.gathered;
  }

  reading_on : IsQuiet → (a : Announcement) (i j : ℕ) (indices more : List ℕ) → ((l : List ℕ) → indices ≡ with_all l (take i a.named) → more ≡ with_all l (take j a.named)) →
      Reading s (fresh_set s spent, f) (first ∷ done) a i indices → Reading s (fresh_set s spent, f) ((first ∷ done) ++ now ∷ []) a j more
  reading_on quiet a i j indices more is w = record {
    found = w.found;
    rising = w.rising;
    below = w.below;
    loaded = λ c. ((λ h. found_on c ((w.loaded c).0 h)), (λ h. (w.loaded c).1 (found_back quiet c h)));
    gathered = is (each_once (flat_map (λ (c : Announcement). c.named) w.found)) w.gathered;
  }

  -- a step at a stage that loads no slot finds none
  quiet_at : (stage : Stage) → p.0.stage ≡ stage → ((slot : ℕ) → stage ≡ Slot slot → ⊥) → IsQuiet
  quiet_at stage is other a h = other a.slot (sym is ∙ h.0)

  nothing_on : IsQuiet → (indices : List ℕ) → (p.1.indices ≡ []) × ((a : Announcement) → Old a → ⊥) → indices ≡ p.1.indices → (indices ≡ []) × ((a : Announcement) → New a → ⊥)
  nothing_on quiet indices w same = (same ∙ w.0, λ a h. w.1 a (found_back quiet a h))

  Steps : Stage → ℕ → Type 0
  Steps stage x = NamedBy s (fresh_set s spent, f) ((first ∷ done) ++ now ∷ []) (advance_set_at stage p x)

  step_list_len : (at x : ℕ) → p.0.stage ≡ ListLen at → Before (ListLen at) p → Steps (ListLen at) x
  unfolding Steps named_at
  step_list_len at x stage knows =
      let on = nothing_on (quiet_at (ListLen at) stage (λ slot is. let never : ⊥ = cc in never)) p.1.indices knows refl in
      cond_both (x == 0) Counter (ListLow (intervals_word at) x) (λ stage. After (in_stage p stage)) (λ e. on) (λ e. on)

  step_list_high : (at left lo x : ℕ) → p.0.stage ≡ ListHigh at left lo → Before (ListHigh at left lo) p → Steps (ListHigh at left lo) x
  unfolding Steps named_at
  step_list_high at left lo x stage knows =
      let on = nothing_on (quiet_at (ListHigh at left lo) stage (λ slot is. let never : ⊥ = cc in never)) p.1.indices knows refl in
      cond_both (left == 1) Counter (ListLow (next_word at) (left - 1)) (λ stage. After (record p.0 { stage = stage }, record p.1 { read = p.1.read ++ (lo, x) ∷ [] })) (λ e. on) (λ e. on)

  step_counter : (x : ℕ) → p.0.stage ≡ Counter → set_goes_at Counter p → EndsBelow p.1.read x → Before Counter p → Steps Counter x
  unfolding Steps named_at IsDistinct
  step_counter x stage goes below knows =
      let q : SetPair = (record p.0 { end = min x p.0.sizes.slots; passed = 0 }, p.1) in
      let on = nothing_on (quiet_at Counter stage (λ slot is. let never : ⊥ = cc in never)) p.1.indices knows refl in
      named_come_to s (fresh_set s spent, f) ((first ∷ done) ++ now ∷ []) q 0 (walk_begins p x goes.0 below goes.1) (record {
        found = [];
        rising = λ j k less inside. absurd (omega (arith, inside));
        below = λ a h. let inside = h.1 in absurd (omega (arith, inside));
        loaded = λ a. ((λ h. let inside = h.1 in absurd (omega (arith, inside))), (λ h. absurd (on.1 a h)));
        gathered = on.0;
      })

  -- an announcement is found
  announced : (slot : ℕ) (named : List ℕ) → p.0.stage ≡ Slot slot → IsAnnouncement s now (slot_at s now slot) named → Named s (fresh_set s spent, f) (first ∷ done) slot p.1.indices →
      Reading s (fresh_set s spent, f) ((first ∷ done) ++ now ∷ []) (record { slot = slot; named = named }) 0 p.1.indices
  announced slot named stage there w =
      let a : Announcement = record { slot = slot; named = named } in
      let finds : FindsAnnouncement s a p now = (stage, there) in
      record {
        found = w.found;
        rising = w.rising;
        below = w.below;
        loaded = λ c. (
          λ h. elim h [
            | inl old ↦ found_on c ((w.loaded c).0 old)
            | inr same ↦ at_here (FindsAnnouncement s c) (fresh_set s spent, f) p (first ∷ done) now b.leads (subst (λ (d : Announcement). FindsAnnouncement s d p now) same finds)
          ],
          λ h. elim (at_split (FindsAnnouncement s c) (fresh_set s spent, f) p (first ∷ done) now b.leads h) [
            | inl old ↦ inl ((w.loaded c).1 old)
            | inr new ↦
                let same : Slot slot ≡ Slot c.slot = sym stage ∙ new.0 in
                let is : slot ≡ c.slot = cc in
                inr (one_announcement s now a c is there new.1)
          ],
        );
        gathered = w.gathered;
      }

  step_slot : (slot : ℕ) → p.0.stage ≡ Slot slot → IsLayout p.0.sizes → set_goes_at (Slot slot) p → Before (Slot slot) p → Steps (Slot slot) (slot_at s now slot)
  unfolding Steps named_at
  step_slot slot stage good goes w =
      let a = slot_at s now slot in
      let within : slot < s.slots = let below = goes.below in let end = goes.walking.end_within in let slots = ap (λ (l : Layout). l.slots) b.sizes in omega (arith, below, end, slots) in
      let quiet : a ≤ 1 → IsQuiet = λ small c h.
      let same : Slot slot ≡ Slot c.slot = sym stage ∙ h.0 in
      let is : slot ≡ c.slot = cc in
      let from = h.1.from in
      let word : slot_at s now c.slot ≡ a = ap (slot_at s now) (sym is) in
      omega (arith, from, word, small) in
      let passes : (q : SetPair) → IsWalking q (slot + 1) → q.1.indices ≡ p.1.indices → a ≤ 1 → After (come_to q (slot + 1)) = λ q walking same small.
      named_come_to s (fresh_set s spent, f) ((first ∷ done) ++ now ∷ []) q (slot + 1) walking
      (subst (Named s (fresh_set s spent, f) ((first ∷ done) ++ now ∷ []) (slot + 1)) (sym same)
      (named_higher s (fresh_set s spent, f) ((first ∷ done) ++ now ∷ []) slot (slot + 1) p.1.indices (omega arith) (named_on (quiet small) slot p.1.indices w))) in
      cond_both (a == 0) (come_to p (slot + 1)) (if a == 1 then come_to (note_slot p slot) (slot + 1) else in_stage p (Len slot a)) After
      (λ e. passes p (walk_next p slot goes) refl (let none = eqb-true a 0 e in omega (arith, none)))
      (λ not_empty. cond_both (a == 1) (come_to (note_slot p slot) (slot + 1)) (in_stage p (Len slot a)) After
      (λ e. passes (note_slot p slot) (walk_noted p slot good goes) refl (let one = eqb-true a 1 e in omega (arith, one)))
      (λ not_vacated. elim (b.orderly.slots slot within) [
        | inl empty ↦ absurd (eqb-false a 0 not_empty empty)
        | inr some ↦ elim some [
          | inl vacated ↦ absurd (eqb-false a 1 not_vacated vacated)
          | inr there ↦ (record { slot = slot; named = there.0 }, refl, announced slot there.0 stage there.1 w, some_now (IsLoaded s slot a there.0) (first ∷ done) now (refl, there.1))
        ]
      ]))

  -- the announcement stands yet
  stands : (slot from : ℕ) (named : List ℕ) → IsAtSlot p slot → AtSome (IsLoaded s slot from named) (first ∷ done) → StandsAt now from (announcement_block named)
  stands slot from named here was =
      let below = here.below in
      let end = here.walking.end_within in
      let slots = ap (λ (l : Layout). l.slots) b.sizes in
      (announced_yet s (first ∷ done) now b.comes slot from named (omega (arith, below, end, slots)) was).stands

  step_len : (slot at : ℕ) → p.0.stage ≡ Len slot at → set_goes_at (Len slot at) p → Before (Len slot at) p → Steps (Len slot at) (slice_index now at)
  unfolding Steps named_at
  step_len slot at stage goes knows =
      let a = knows.0 in
      let same = knows.1 in
      let was = knows.3 in
      let count : slice_index now at ≡ length a.named = (announcement_reads_back now at a.named (stands slot at a.named goes.0 was)).count in
      let quiet = quiet_at (Len slot at) stage (λ slot is. let never : ⊥ = cc in never) in
      let on = reading_on quiet a 0 0 p.1.indices p.1.indices (λ l e. e) knows.2 in
      rw count (cond_both ((length a.named) == 0) (come_to p (slot + 1)) (in_stage p (Index slot (indices_word at) (length a.named))) After
      (λ e. let none = eqb-true (length a.named) 0 e in named_come_to s (fresh_set s spent, f) ((first ∷ done) ++ now ∷ []) p (slot + 1) (walk_next p slot goes.0)
      (subst (λ n. Named s (fresh_set s spent, f) ((first ∷ done) ++ now ∷ []) (n + 1) p.1.indices) same
      (named_more s (fresh_set s spent, f) ((first ∷ done) ++ now ∷ []) a 0 p.1.indices (omega (arith, none)) on)))
      (λ e. (a, same, at, 0, on, some_later (IsLoaded s slot at a.named) (first ∷ done) now was, omega arith, omega arith)))

  step_index : (slot at left : ℕ) → p.0.stage ≡ Index slot at left → set_goes_at (Index slot at left) p → Before (Index slot at left) p → Steps (Index slot at left) (slice_index now at)
  unfolding Steps named_at
  step_index slot at left stage goes knows =
      let a = knows.0 in
      let same = knows.1 in
      let from = knows.2 in
      let i = knows.3 in
      let was = knows.5 in
      let place = knows.6 in
      let count = knows.7 in
      let some = goes.1 in
      let lt : i < length a.named = omega (arith, count, some) in
      let word : slice_index now at ≡ slice_index a.named i = ap (slice_index now) place ∙ (announcement_reads_back now from a.named (stands slot from a.named goes.0 was)).each i lt in
      let x = slice_index a.named i in
      let q : SetPair = (p.0, record p.1 { indices = with_index p.1.indices x }) in
      let quiet = quiet_at (Index slot at left) stage (λ slot is. let never : ⊥ = cc in never) in
      let one_more : (l : List ℕ) → p.1.indices ≡ with_all l (take i a.named) → with_index p.1.indices x ≡ with_all l (take (i + 1) a.named) = λ l e.
      ap (λ (m : List ℕ). with_index m x) e ∙ sym (with_all-append l (take i a.named) (x ∷ [])) ∙ ap (with_all l) (sym (take_more a.named i 0 lt)) in
      let on = reading_on quiet a i (i + 1) p.1.indices (with_index p.1.indices x) one_more knows.4 in
      rw word (cond_both (left == 1) (come_to q (slot + 1)) (in_stage q (Index slot (next_word at) (left - 1))) After
      (λ e. let last = eqb-true left 1 e in named_come_to s (fresh_set s spent, f) ((first ∷ done) ++ now ∷ []) q (slot + 1) (walk_next q slot (at_with p slot x goes.0))
      (subst (λ n. Named s (fresh_set s spent, f) ((first ∷ done) ++ now ∷ []) (n + 1) (with_index p.1.indices x)) same
      (named_more s (fresh_set s spent, f) ((first ∷ done) ++ now ∷ []) a (i + 1) (with_index p.1.indices x) (omega (arith, last, count)) on)))
      (λ e. let more = eqb-false left 1 e in
      (a, same, from, i + 1, on, some_later (IsLoaded s slot from a.named) (first ∷ done) now was, omega (arith, place), omega (arith, count, some, more))))

  ended_on : (stage : Stage) → p.0.stage ≡ stage → ((slot : ℕ) → stage ≡ Slot slot → ⊥) → NamedAll s (fresh_set s spent, f) (first ∷ done) p →
      NamedAll s (fresh_set s spent, f) ((first ∷ done) ++ now ∷ []) p
  ended_on stage is other w = (w.0, w.1, named_on (quiet_at stage is other) w.0 p.1.indices w.2)

  -- the answer that the words give to a step that is known
  answered : (C : ℕ → Type 0) (c d : Step) → Some c ≡ Some d → C (answer_of now c) → C (answer_of now d)
  answered C c d e h = let same : c ≡ d = cc in subst (λ step. C (answer_of now step)) same h

  step_known : (stage : Stage) (step : Step) → p.0.stage ≡ stage → IsPossibleInSet p (answer_of now step) → set_step_at p.0.sizes p.0.head stage ≡ Some step → set_goes_at stage p → Before stage p →
      Steps stage (answer_of now step)
  unfolding Steps named_at
  step_known Head step is possible e goes knows = absurd knows
  step_known (ListLen at) step is possible e goes knows = step_list_len at (answer_of now step) is knows
  step_known (ListLow at left) step is possible e goes knows = nothing_on (quiet_at (ListLow at left) is (λ slot same. let never : ⊥ = cc in never)) p.1.indices knows refl
  step_known (ListHigh at left lo) step is possible e goes knows = step_list_high at left lo (answer_of now step) is knows
  step_known Counter step is possible e goes knows = step_counter (answer_of now step) is goes (subst (λ st. is_possible_at st p (answer_of now step)) is possible) knows
  step_known (Slot slot) step is possible e goes knows =
      let due : Load (slot_word p.0.sizes slot) ≡ step = cc in
      let word : slot_at s now slot ≡ answer_of now step = ap (λ (l : Layout). slot_at l now slot) (sym b.sizes) ∙ ap (answer_of now) due in
      subst (Steps (Slot slot)) word (step_slot slot is (subst IsLayout (sym b.sizes) layout) goes knows)
  step_known (Len slot at) step is possible e goes knows = answered (Steps (Len slot at)) (Load at) step e (step_len slot at is goes knows)
  step_known (Index slot at left) step is possible e goes knows = answered (Steps (Index slot at left)) (Load at) step e (step_index slot at left is goes knows)
  step_known (Claim count) step is possible e goes knows =
      let on = ended_on (Claim count) is (λ slot same. let never : ⊥ = cc in never) knows in
      cond_both (nat_lt (list_end p.0.sizes) (answer_of now step + count)) (record p.0 { lists_spent = true; stage = Done }, p.1)
      (in_stage p (Write (answer_of now step) 0 count (length p.1.next))) After (λ e. on) (λ e. on)
  step_known (Write at k count word) step is possible e goes knows =
      let on = ended_on (Write at k count word) is (λ slot same. let never : ⊥ = cc in never) knows in
      cond_both ((k + 1) == count) (Publish at) (Write at (k + 1) count (slice_index (list_block p.1.next) (k + 1))) (λ stage. After (in_stage p stage)) (λ e. on) (λ e. on)
  step_known (Publish at) step is possible e goes knows = ended_on (Publish at) is (λ slot same. let never : ⊥ = cc in never) knows
  step_known Done step is possible e goes knows = let never : ⊥ = cc in absurd never

-- after the first step
named_begin : (s : Layout) (spent : Bool) (f : Buffers) (first : List ℕ) → NamedBy s (fresh_set s spent, f) (first ∷ []) (advance_set (fresh_set s spent, f) (head_at s first))
unfolding named_at
named_begin s spent f first =
    let x = head_at s first in
    let p : SetPair = (fresh_set s spent, f) in
    let none : (a : Announcement) → AtSomeStep (FindsAnnouncement s a) p (first ∷ []) → ⊥ = λ a h. elim h [ inl here ↦ let bad : Head ≡ Slot a.slot = here.0 in cc | inr never ↦ never ] in
    cond_both (x == 0) Counter (ListLen x) (λ stage. NamedBy s p (first ∷ []) (record p.0 { head = x; stage = stage }, record p.1 { indices = []; read = []; next = [] }))
    (λ e. (refl, none)) (λ e. (refl, none))

-- a finished getSet
named_ended : (s : Layout) (start : SetPair) (ms : Past) (stage : Stage) (q : SetPair) → set_step_at q.0.sizes q.0.head stage ≡ None → named_at s start ms stage q → NamedAll s start ms q
unfolding named_at
named_ended s start ms Head q e w = absurd w
named_ended s start ms Done q e w = w
named_ended s start ms stage q e w = absurd cc

module _ (s : Layout) (spent : Bool) (f : Buffers) (layout : IsLayout s) (sizes : AreFoundFor s f) where
  pub named_behind : (first : List ℕ) (ms : Past) (q : SetPair) → IsPairwiseOrderly s [] (first ∷ ms) → LeadsTo (fresh_set s spent, f) (first ∷ ms) q → set_step_due q.0 ≡ None →
      NamedAll s (fresh_set s spent, f) (first ∷ ms) q
  unfolding Steps
  named_behind first ms q orderly leads done =
      let known = holds_behind s layout spent f sizes first (λ past p. NamedBy s (fresh_set s spent, f) past p)
      (λ done p now st b due knows. step_known s layout spent f first done p now b p.0.stage st refl (b.possible st due) due b.together.stage knows)
      ms q (named_begin s spent f first) orderly leads in
      named_ended s (fresh_set s spent, f) (first ∷ ms) q.0.stage q done known

  -- a finished getSet names the indices in order
  names_in_order : (ms : Past) (q : SetPair) → IsPairwiseOrderly s [] ms → LeadsTo (fresh_set s spent, f) ms q → set_step_due q.0 ≡ None → AreInOrder s (fresh_set s spent, f) ms q.1.indices
  names_in_order [] q orderly leads done =
      let none : Some (Load (list_head s)) ≡ None = ap (λ (r : SetPair). set_step_due r.0) (sym leads) ∙ done in
      let never : ⊥ = cc in absurd never
  names_in_order (first ∷ ms) q orderly leads done =
      let w = (named_behind first ms q orderly leads done).2 in
      record {
        found = w.found;
        rising = w.rising;
        loaded = w.loaded;
        gathered = w.gathered;
        distinct = subst (IsDistinct nat_eq) (sym w.gathered) (each_once_distinct (flat_map (λ (a : Announcement). a.named) w.found));
      }

pub names_by_events : GetSetsFindInOrder
names_by_events s spent f own words events q layout sizes orderly makes done =
    names_in_order s spent f layout sizes (own_moments own words events) q (moments_of s own words events orderly)
    (own_leads own (fresh_set s spent, f) q words events makes) done
