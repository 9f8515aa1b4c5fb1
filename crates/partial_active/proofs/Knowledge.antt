-- What a getSet knows by facts leads on, from stage to stage.
use Rattle.partial_active.proofs.{Common.{ℕ, ◌≡◌, ◌+◌, ◌-◌, ◌<◌, ◌≤◌, ◌⊎◌, min, Bool, true, false, ◌&&◌, not, ◌==◌, nat_lt, None, List, [], ◌∷◌, ◌++◌, length, take, slice_index_or, slice_index, if◌then◌else◌, inl, inr, refl, sym, ap, subst, ◌∙◌, arith, false≢true, and_parts, cases_eq, cases_lt, cond_both, ltb-false, eqb-true, eqb-false, take_more, take_all, get_or-take, length_push, Ranges, lowest, highest, Holds, IsNormal, Layout, IsLayout, list_end, list_block, announcement_reads_back, list_reads_back, Stage, Head, ListLen, ListLow, ListHigh, Counter, Slot, Len, Index, Claim, Write, Publish, Done, with_index, begins_at, SetPair, set_step_at, advance_set_at, after_walk, at_slot, come_to, pass_interval, note_slot, in_stage, next_words, EndsBelow, IsListClaim, is_possible_at, IsWalking, set_goes_at, Facts, AreVacated, HasEach, walks, has_found, knows_by, KnowsBy, slot_at, IsAnnouncement, IsVacatedList, next_word, indices_word, intervals_word}, Extended.{length_normal, held_extended}, Walk.begun, Answered.{walk_begins, walk_next, walk_noted, at_with}, Indices.first_more}

-- the facts are those of the words, and a slot is done that is VACATED, or of which the announcement was read
pub record AreFacts (s : Layout) (words : List ℕ) (t : Facts) : Type 0 where
  pub vacated : (x : ℕ) → x < s.slots → t.vacated x → slot_at s words x ≡ 1
  pub list : (at : ℕ) (list : Ranges) → t.lists at list → IsVacatedList s words at list
  pub listed : (at : ℕ) (list : Ranges) → t.lists at list → AreVacated t list
  pub announcement : (slot at : ℕ) (named : List ℕ) → slot < s.slots → t.announces slot at named → IsAnnouncement s words at named
  pub gone : (indices : List ℕ) (slot : ℕ) → t.vacated slot → t.complete indices slot
  pub read : (indices : List ℕ) (slot at : ℕ) (named : List ℕ) → slot < s.slots → t.announces slot at named → HasEach indices named → t.complete indices slot
  pub kept : (indices : List ℕ) (x slot : ℕ) → t.complete indices slot → t.complete (with_index indices x) slot

-- What an answer shows at a stage: at the list head and at a slot a fact, and of a block its word; at the slot counter that
-- the list read ends below it, and that nothing is missing from there on.
abbrev pub tells_at : List ℕ → Facts → Stage → SetPair → ℕ → Type 0
tells_at words t Head p x = (x ≡ 0) ⊎ ((list : Ranges) × t.lists x list)
tells_at words t (ListLen at) p x = x ≡ slice_index words at
tells_at words t (ListLow at left) p x = x ≡ slice_index words at
tells_at words t (ListHigh at left lo) p x = x ≡ slice_index words at
tells_at words t Counter p x = EndsBelow p.1.read x × ((l : ℕ) → min x p.0.sizes.slots ≤ l → t.complete p.1.indices l)
tells_at words t (Slot slot) p x = ((x ≡ 0) × t.complete p.1.indices slot) ⊎ ((x ≡ 1) × t.vacated slot) ⊎ ((named : List ℕ) × t.announces slot x named)
tells_at words t (Len slot at) p x = x ≡ slice_index words at
tells_at words t (Index slot at left) p x = x ≡ slice_index words at
tells_at words t (Claim count) p x = IsListClaim p.0.sizes x
tells_at words t (Write at k count word) p x = Unit {0}
tells_at words t (Publish at) p x = Unit {0}
tells_at words t Done p x = ⊥

module _ (s : Layout) (words : List ℕ) (t : Facts) (w : AreFacts s words t) where
  -- the slots that the list read has lie below the slot counter
  pub ends_below : (read : Ranges) (x : ℕ) → IsNormal read → EndsBelow read s.slots → ((l : ℕ) → x ≤ l → l < s.slots → slot_at s words l ≡ 0) → AreVacated t read → EndsBelow read x
  ends_below read x normal within unclaimed vacated k lt = elim (cases_lt (highest read k) x) [
    | inl less ↦ less
    | inr above ↦
        let empty = unclaimed (highest read k) above (within k lt) in
        let one = w.vacated (highest read k) (within k lt) (vacated (highest read k) (k, lt, normal.closed k lt, omega arith)) in
        absurd (omega (arith, empty, one))
  ]

  known_after_walk : (p : SetPair) (slot : ℕ) → p.0.end ≤ slot → walks t p slot → KnowsBy t (after_walk p)
  known_after_walk p slot over k =
      let found : has_found t p = (k.noted, λ l. elim (cases_lt l slot) [ inl below ↦ k.below l below | inr from ↦ k.beyond l (omega (arith, over, from)) ]) in
      cond_both (p.0.noted && not p.0.lists_spent) (Claim (next_words p.1)) Done (λ stage. KnowsBy t (record p.0 { stage = stage }, p.1))
      (λ e. (found, unmarked p.0.lists_spent (and_parts p.0.noted (not p.0.lists_spent) e).1))
      (λ e. found)
    where
      unmarked : (b : Bool) → not b ≡ true → b ≡ false
      unmarked true e = absurd (false≢true e)
      unmarked false e = refl

  known_at_slot : (p : SetPair) (slot : ℕ) → walks t p slot → KnowsBy t (at_slot p slot)
  known_at_slot p slot k = cond_both (nat_lt slot p.0.end) (record p.0 { stage = Slot slot }, p.1) (after_walk p) (KnowsBy t)
      (λ e. k)
      (λ e. known_after_walk p slot (ltb-false slot p.0.end e) k)

  -- the walk reaches a slot, and may pass an interval
  known_come_to : (p : SetPair) (slot : ℕ) → IsWalking p slot → walks t p slot → KnowsBy t (come_to p slot)
  known_come_to p slot walking k = cond_both (begins_at p.1.read p.0.passed slot) (at_slot (pass_interval p) (highest p.1.read p.0.passed + 1)) (at_slot p slot) (KnowsBy t)
      (λ e.
      let b = begun p slot walking e in
      known_at_slot (pass_interval p) (highest p.1.read p.0.passed + 1) (record {
        listed = k.listed;
        noted = λ x holds. elim (held_extended p.1.next (lowest p.1.read p.0.passed) (highest p.1.read p.0.passed) walking.next x holds) [
          | inl before ↦ k.noted x before
          | inr here ↦ k.listed x (p.0.passed, b.0, here.0, here.1)
        ];
        below = λ l lt. elim (cases_lt l slot) [
          | inl below ↦ k.below l below
          | inr from ↦ let first = b.1 in w.gone p.1.indices l (k.listed l (p.0.passed, b.0, omega (arith, first, from), omega (arith, lt)))
        ];
        beyond = k.beyond;
      }))
      (λ e. known_at_slot p slot k)

  -- the walk goes on after a slot that is done
  walks_next : (p : SetPair) (slot : ℕ) → walks t p slot → t.complete p.1.indices slot → walks t p (slot + 1)
  walks_next p slot k here = record {
    listed = k.listed;
    noted = k.noted;
    below = λ l lt. elim (cases_eq l slot) [ inl same ↦ subst (t.complete p.1.indices) (sym same) here | inr other ↦ k.below l (omega (arith, lt, other)) ];
    beyond = k.beyond;
  }

module _ (p : SetPair) (layout : IsLayout p.0.sizes) (words : List ℕ) (t : Facts) (w : AreFacts p.0.sizes words t) where
  -- the number is possible at the stage, and what is known then
  Leads : Stage → ℕ → Type 0
  Leads stage x = is_possible_at stage p x × KnowsBy t (advance_set_at stage p x)

  -- the walk goes on to the next slot
  goes_on : (q : SetPair) (slot : ℕ) → IsWalking q (slot + 1) → walks t q slot → t.complete q.1.indices slot → KnowsBy t (come_to q (slot + 1))
  goes_on q slot walking k here = known_come_to p.0.sizes words t w q (slot + 1) walking (walks_next p.0.sizes words t w q slot k here)

  step_head : (x : ℕ) → tells_at words t Head p x → Leads Head x
  unfolding Leads
  step_head x (inl none) = rw none (inl refl, λ y holds. let inside = holds.1 in absurd (omega (arith, inside)))
  step_head x (inr there) =
      let whole = w.list x there.0 there.1 in
      let from = whole.from in
      let to = whole.to in (
        inr (from, omega (arith, to)),
        cond_both (x == 0) Counter (ListLen x) (λ stage. KnowsBy t (record p.0 { head = x; stage = stage }, record p.1 { indices = []; read = []; next = [] }))
            (λ e. λ y holds. let inside = holds.1 in absurd (omega (arith, inside)))
            (λ e. there),
      )

  step_list_len : (at x : ℕ) → set_goes_at (ListLen at) p → knows_by t (ListLen at) p → tells_at words t (ListLen at) p x → Leads (ListLen at) x
  unfolding Leads
  step_list_len at x goes knows told =
      let list = knows.0 in
      let whole = w.list at list knows.1 in
      let count : x ≡ length list = told ∙ (list_reads_back words at list whole.stands).count in
      let none : length p.1.read ≡ 0 = ap length goes.0 in
      rw count (
        (whole.to, length_normal list p.0.sizes.slots whole.normal (λ i lt. whole.within (highest list i) (i, lt, whole.normal.closed i lt, omega arith))),
        cond_both ((length list) == 0) Counter (ListLow (intervals_word at) (length list)) (λ stage. KnowsBy t (in_stage p stage))
            (λ e. λ y holds. let inside = holds.1 in absurd (omega (arith, none, inside)))
            (λ e. (at, list, record { stands = knows.1; read_is = nothing_read p.1.read list goes.0; sum = omega (arith, none) }, omega (arith, none))),
      )
    where
      nothing_read : (read list : Ranges) → read ≡ [] → read ≡ take (length read) list
      nothing_read read list e = rw e refl

  step_list_low : (at left x : ℕ) → set_goes_at (ListLow at left) p → knows_by t (ListLow at left) p → tells_at words t (ListLow at left) p x → Leads (ListLow at left) x
  unfolding Leads
  step_list_low at left x goes knows told =
      let from = knows.0 in
      let list = knows.1 in
      let r = knows.2 in
      let place = knows.3 in
      let i = length p.1.read in
      let whole = w.list from list r.stands in
      let normal = whole.normal in
      let sum = r.sum in
      let some = goes.0.some in
      let lt : i < length list = omega (arith, sum, some) in
      let low : x ≡ lowest list i = told ∙ ap (slice_index words) place ∙ ap (λ (v : ℕ × ℕ). v.0) ((list_reads_back words from list whole.stands).each i (0, 0) lt) in
      rw low (
        (
          whole.within (lowest list i) (i, lt, omega arith, normal.closed i lt),
          λ j below. let is = read_high list j r.read_is below in let apart = normal.apart j i below lt in omega (arith, is, apart),
        ),
        (from, list, record { stands = r.stands; read_is = r.read_is; sum = r.sum }, omega (arith, place), refl),
      )
    where
      read_high : (list : Ranges) (k : ℕ) → p.1.read ≡ take (length p.1.read) list → k < length p.1.read → highest p.1.read k ≡ highest list k
      read_high list k is lt = ap (λ (l : Ranges). highest l k) is ∙ ap (λ (v : ℕ × ℕ). v.1) (get_or-take (length p.1.read) list k (0, 0) lt)

  step_list_high : (at left lo x : ℕ) → set_goes_at (ListHigh at left lo) p → knows_by t (ListHigh at left lo) p → tells_at words t (ListHigh at left lo) p x → Leads (ListHigh at left lo) x
  unfolding Leads
  step_list_high at left lo x goes knows told =
      let from = knows.0 in
      let list = knows.1 in
      let r = knows.2 in
      let place = knows.3 in
      let low = knows.4 in
      let i = length p.1.read in
      let whole = w.list from list r.stands in
      let sum = r.sum in
      let some = goes.0.some in
      let lt : i < length list = omega (arith, sum, some) in
      let closed = whole.normal.closed i lt in
      let high : x ≡ highest list i = told ∙ ap (slice_index words) place ∙ ap (λ (v : ℕ × ℕ). v.1) ((list_reads_back words from list whole.stands).each i (0, 0) lt) in
      let read : Ranges = p.1.read ++ (lo, highest list i) ∷ [] in
      let longer : length read ≡ i + 1 = length_push p.1.read (lo, highest list i) in
      let so_far : read ≡ take (i + 1) list = ap (λ n. p.1.read ++ (n, highest list i) ∷ []) low ∙ ap (λ (l : Ranges). l ++ slice_index_or list i (0, 0) ∷ []) r.read_is
      ∙ sym (take_more list i (0, 0) lt) in
      rw high (
        (omega (arith, low, closed), whole.within (highest list i) (i, lt, closed, omega arith)),
        cond_both (left == 1) Counter (ListLow (next_word at) (left - 1)) (λ stage. KnowsBy t (record p.0 { stage = stage }, record p.1 { read = read }))
            (λ e.
            let one = eqb-true left 1 e in
            let all : read ≡ list = so_far ∙ take_all (i + 1) list (omega (arith, sum, one)) in
            λ y holds. w.listed from list r.stands y (subst (λ (l : Ranges). Holds l y) all holds))
            (λ e.
            let more = eqb-false left 1 e in
            (from, list, record { stands = r.stands; read_is = so_far ∙ ap (λ n. take n list) (sym longer); sum = omega (arith, sum, longer, more, some) }, omega (arith, place, longer))),
      )

  step_counter : (x : ℕ) → set_goes_at Counter p → knows_by t Counter p → tells_at words t Counter p x → Leads Counter x
  unfolding Leads
  step_counter x goes knows told =
      let q : SetPair = (record p.0 { end = min x p.0.sizes.slots; passed = 0 }, p.1) in (
        told.0,
        known_come_to p.0.sizes words t w q 0 (walk_begins p x goes.0 told.0 goes.1) (record {
          listed = knows;
          noted = λ y holds. let empty : length p.1.next ≡ 0 = ap length goes.1 in let inside = holds.1 in absurd (omega (arith, empty, inside));
          below = λ l lt. absurd (omega (arith, lt));
          beyond = told.1;
        }),
      )

  step_slot : (slot x : ℕ) → set_goes_at (Slot slot) p → knows_by t (Slot slot) p → tells_at words t (Slot slot) p x → Leads (Slot slot) x
  unfolding Leads
  step_slot slot x goes k (inl none) = rw none.0 (inl refl, goes_on p slot (walk_next p slot goes) k none.1)
  step_slot slot x goes k (inr (inl vacated)) =
      let noted : walks t (note_slot p slot) slot = record {
        listed = k.listed;
        noted = λ y holds. elim (held_extended p.1.next slot slot goes.walking.next y holds) [
          | inl before ↦ k.noted y before
          | inr here ↦ let from = here.0 in let to = here.1 in subst t.vacated (omega (arith, from, to)) vacated.1
        ];
        below = k.below;
        beyond = k.beyond;
      } in
      rw vacated.0 (inr (inl refl), goes_on (note_slot p slot) slot (walk_noted p slot layout goes) noted (w.gone p.1.indices slot vacated.1))
  step_slot slot x goes k (inr (inr there)) =
      let less = goes.below in
      let bound = goes.walking.end_within in
      let whole = w.announcement slot x there.0 (omega (arith, less, bound)) there.1 in
      let from = whole.from in
      let to = whole.to in (
        inr (inr (from, omega (arith, to))),
        cond_both (x == 0) (come_to p (slot + 1)) (if x == 1 then come_to (note_slot p slot) (slot + 1) else in_stage p (Len slot x)) (KnowsBy t)
            (λ e. let zero_is = eqb-true x 0 e in absurd (omega (arith, from, zero_is)))
            (λ e. cond_both (x == 1) (come_to (note_slot p slot) (slot + 1)) (in_stage p (Len slot x)) (KnowsBy t)
            (λ f. let one = eqb-true x 1 f in absurd (omega (arith, from, one)))
            (λ f. (k, there))),
      )

  step_len : (slot at x : ℕ) → set_goes_at (Len slot at) p → knows_by t (Len slot at) p → tells_at words t (Len slot at) p x → Leads (Len slot at) x
  unfolding Leads
  step_len slot at x goes knows told =
      let named = knows.1.0 in
      let shown = knows.1.1 in
      let less = goes.0.below in
      let bound = goes.0.walking.end_within in
      let within : slot < p.0.sizes.slots = omega (arith, less, bound) in
      let whole = w.announcement slot at named within shown in
      let count : x ≡ length named = told ∙ (announcement_reads_back words at named whole.stands).count in
      rw count (
        (whole.to, whole.count),
        cond_both ((length named) == 0) (come_to p (slot + 1)) (in_stage p (Index slot (indices_word at) (length named))) (KnowsBy t)
            (λ e. let none = eqb-true (length named) 0 e in
            goes_on p slot (walk_next p slot goes.0) knows.0 (w.read p.1.indices slot at named within shown (λ i lt. absurd (omega (arith, none, lt)))))
            (λ e. (knows.0, (at, named, 0, record { shown = shown; place = omega arith; sum = omega arith; so_far = λ i lt. absurd (omega (arith, lt)) }))),
      )

  step_index : (slot at left x : ℕ) → set_goes_at (Index slot at left) p → knows_by t (Index slot at left) p → tells_at words t (Index slot at left) p x → Leads (Index slot at left) x
  unfolding Leads
  step_index slot at left x goes knows told =
      let from = knows.1.0 in
      let named = knows.1.1 in
      let i = knows.1.2 in
      let r = knows.1.3 in
      let place = r.place in
      let sum = r.sum in
      let some = goes.1 in
      let less = goes.0.below in
      let bound = goes.0.walking.end_within in
      let within : slot < p.0.sizes.slots = omega (arith, less, bound) in
      let whole = w.announcement slot from named within r.shown in
      let lt : i < length named = omega (arith, sum, some) in
      let word : x ≡ slice_index named i = told ∙ ap (slice_index words) place ∙ (announcement_reads_back words from named whole.stands).each i lt in
      let y = slice_index named i in
      let q : SetPair = (p.0, record p.1 { indices = with_index p.1.indices y }) in
      let walked : walks t q slot = record {
        listed = knows.0.listed;
        noted = knows.0.noted;
        below = λ l below. w.kept p.1.indices y l (knows.0.below l below);
        beyond = λ l from_end. w.kept p.1.indices y l (knows.0.beyond l from_end);
      } in
      let so_far = first_more p.1.indices named i r.so_far in
      rw word (
        whole.each i lt,
        cond_both (left == 1) (come_to q (slot + 1)) (in_stage q (Index slot (next_word at) (left - 1))) (KnowsBy t)
            (λ e. let one = eqb-true left 1 e in
            let all : HasEach (with_index p.1.indices y) named = λ j below. so_far j (omega (arith, sum, one, below)) in
            goes_on q slot (walk_next q slot (at_with p slot y goes.0)) walked (w.read (with_index p.1.indices y) slot from named within r.shown all))
            (λ e. let more = eqb-false left 1 e in
            (walked, (from, named, i + 1, record { shown = r.shown; place = omega (arith, place); sum = omega (arith, sum, more, some); so_far = so_far }))),
      )

  -- an answer is possible, and leads to what is known next
  pub leads_at : (stage : Stage) (x : ℕ) → set_goes_at stage p → knows_by t stage p → tells_at words t stage p x → is_possible_at stage p x × KnowsBy t (advance_set_at stage p x)
  unfolding Leads
  leads_at Head x goes knows told = step_head x told
  leads_at (ListLen at) x goes knows told = step_list_len at x goes knows told
  leads_at (ListLow at left) x goes knows told = step_list_low at left x goes knows told
  leads_at (ListHigh at left lo) x goes knows told = step_list_high at left lo x goes knows told
  leads_at Counter x goes knows told = step_counter x goes knows told
  leads_at (Slot slot) x goes knows told = step_slot slot x goes knows told
  leads_at (Len slot at) x goes knows told = step_len slot at x goes knows told
  leads_at (Index slot at left) x goes knows told = step_index slot at left x goes knows told
  leads_at (Claim count) x goes knows told = (
    told,
    cond_both (nat_lt (list_end p.0.sizes) (x + count)) (record p.0 { lists_spent = true; stage = Done }, p.1) (in_stage p (Write x 0 count (length p.1.next))) (KnowsBy t) (λ e. knows.0) (λ e. knows.0),
  )
  leads_at (Write at k count word) x goes knows told = (
    tt,
    cond_both ((k + 1) == count) (Publish at) (Write at (k + 1) count (slice_index (list_block p.1.next) (k + 1))) (λ stage. KnowsBy t (in_stage p stage)) (λ e. knows) (λ e. knows),
  )
  leads_at (Publish at) x goes knows told = (tt, knows)
  leads_at Done x goes knows told = absurd told

-- a getSet without a due step is finished
pub finished : (t : Facts) (y : Layout) (head : ℕ) (stage : Stage) (p : SetPair) → set_step_at y head stage ≡ None → knows_by t stage p → has_found t p
finished t y head Done p e knows = knows
finished t y head stage p e knows = absurd cc
