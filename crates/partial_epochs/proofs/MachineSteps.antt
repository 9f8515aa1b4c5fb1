-- Each due step of a machine in the arena where its port stands keeps the lawful state of all epochs.
use Rattle.std.proofs.lemmas.Bool.{eq-eqb, ne_eqb}
use Rattle.partial_epochs.proofs.{Common.{ℕ, ◌≡◌, ◌≢◌, ◌+◌, ◌*◌, ◌%◌, ◌^◌, ◌<◌, ◌≤◌, ◌==◌, ◌⊎◌, ◌++◌, Bool, true, false, if◌then◌else◌, Some, List, [], ◌∷◌, length, slice_index, slice_set, refl, sym, ap, subst, ◌∙◌, inl, inr, arith, ◌&&◌, ◌||◌, nat_lt, AllByRecursion, cases_lt, lt-ltb, eqb_tells, get_or-set_same, get_or-set_other, Applied, Opening, Step, Load, Store, Exchange, Add, Layout, total, pool_counter, slot_counter, answer_of, word_of, words_after, CoreState, advance, step_of, Part, PartAmong, IsMachineOf, port_of, LeadsOn, added_by, lawful_machines_are_ready, steps_stay_lawful, count, list_of, put, Plan, greatest_claim_of, arena_words, carried_words, component_words, based_step, opened_after, Port, Epoch, Beside, FindsNone, IsArena, IsStanding, LawfulEpochs, IsPresent, awaits_slot, claims_no_more, slot_limit, mul-le-mul_left, MachineLeads, MachineStepsStayLawful, MayClaim, MeetsSeal, ends_over, MayScan, Stands, core_of, not_below, value_word}, Apart.{IsApart, due_apart}, Change.{Changes, beside_then, change_kept}, Lists.{Around, around_of, count_more, count_one, count_same, length_of, put_all, put_other, put_same}, Offsets.below_whole, Present.{by_seal, standing}, Silent.{ClaimsPlainly, ClaimsWithin, apart_within, finds_then, machine_finds, plain_due, plain_keeps, plain_within, shows_no_slot}, Slots.{MayClaimWords, awaits, awaits_same, counted, done, one}, Worded.{Words, worded}}
use Rattle.partial_core.specs.Lawful as one
use Rattle.partial_core.specs.Steps.{StepShows}
use Rattle.partial_epochs.specs.Epochs.{IsSilent}

or_none : (b c : Bool) → c ≡ false → (b || c) ≡ b
or_none true c e = refl
or_none false c e = e

or_more : (b c : Bool) → b ≡ true → (b || c) ≡ true
or_more true c e = refl
or_more false c e = absurd cc

or_last : (a b c : Bool) → c ≡ true → (a || (b || c)) ≡ true
or_last true b c e = refl
or_last false true c e = refl
or_last false false c e = e

-- The reserve: a claim that ends past the limit is its port's last.
module _ (e : Plan) (words : List ℕ) (over : ℕ → Bool) (k : ℕ) (below : k < e.ports) (there : pool_counter e.sizes < length words)
    (reserve : slice_index words (pool_counter e.sizes) ≤ e.limit + greatest_claim_of e * count over 0 e.ports) where
  abbrev Reserved : Bool → List ℕ → Type 0
  Reserved v words' = slice_index words' (pool_counter e.sizes) ≤ e.limit + greatest_claim_of e * count (put k v over) 0 e.ports

  unchanged : (v : Bool) → v ≡ over k → count (put k v over) 0 e.ports ≡ count over 0 e.ports
  unchanged v is = count_same (put k v over) over 0 e.ports (λ i low high. put_all (λ j u. u ≡ over j) k v over i (λ _. is) (λ _. refl))

  -- of a port that is over no fewer are over
  rises : (v : Bool) → (over k ≡ true → v ≡ true) → count over 0 e.ports ≤ count (put k v over) 0 e.ports
  rises v up = by (over k) v refl refl
    where
      by : (b c : Bool) → over k ≡ b → v ≡ c → count over 0 e.ports ≤ count (put k v over) 0 e.ports
      by true true was is = let same = unchanged v (is ∙ sym was) in omega (arith, same)
      by false false was is = let same = unchanged v (is ∙ sym was) in omega (arith, same)
      by true false was is = let bad : true ≡ false = sym (up was) ∙ is in absurd cc
      by false true was is =
          let more : count (put k v over) 0 e.ports ≡ count over 0 e.ports + 1 =
          count_more over (put k v over) 0 e.ports k (omega arith) (omega (arith, below)) was (put_same k v over ∙ is) (λ i ne. put_other k v over i ne) in
          omega (arith, more)

  reserved_same : (v : Bool) (words' : List ℕ) → (over k ≡ true → v ≡ true) → slice_index words' (pool_counter e.sizes) ≡ slice_index words (pool_counter e.sizes) → Reserved v words'
  reserved_same v words' up same =
      let times : greatest_claim_of e * count over 0 e.ports ≤ greatest_claim_of e * count (put k v over) 0 e.ports = mul-le-mul_left (greatest_claim_of e) (rises v up) in
      omega (arith, times, same, reserve)

  reserved_by : (step : Step) → IsApart e.sizes step → MayClaim e (over k) step → ClaimsWithin e step → Reserved (over k || ends_over e words step) (words_after words step)
  reserved_by (Load w) apart may within = reserved_same (over k || false) words (or_more (over k) false) refl
  reserved_by (Store w v) apart may within = reserved_same (over k || false) (slice_set words w v) (or_more (over k) false)
      (get_or-set_other words w (pool_counter e.sizes) v 0 (omega (arith, apart)))
  reserved_by (Exchange w old new) apart may within = reserved_same (over k || false) (words_after words (Exchange w old new)) (or_more (over k) false)
      (get_or-set_other words w (pool_counter e.sizes) (if slice_index words w == old then new else slice_index words w) 0 (omega (arith, apart)))
  reserved_by (Add w n) apart may within = elim (eqb_tells w (pool_counter e.sizes)) [
    | inl same ↦ claimed same.0 same.1
    | inr other ↦
        let ne = other.1 in
        reserved_same (over k || ends_over e words (Add w n)) (words_after words (Add w n))
        (or_more (over k) (ends_over e words (Add w n)))
        (get_or-set_other words w (pool_counter e.sizes) ((slice_index words w + n) % 2 ^ 64) 0 (omega (arith, ne)))
  ]
    where
      claimed : (w == pool_counter e.sizes) ≡ true → w ≡ pool_counter e.sizes → Reserved (over k || ends_over e words (Add w n)) (words_after words (Add w n))
      claimed test is =
          let at : slice_index words w ≡ slice_index words (pool_counter e.sizes) = ap (λ i. slice_index words i) is in
          let few : n ≤ greatest_claim_of e = within is in
          let found : slice_index (words_after words (Add w n)) (pool_counter e.sizes) ≡ (slice_index words w + n) % 2 ^ 64 =
          ap (λ i. slice_index (words_after words (Add w n)) i) (sym is) ∙ get_or-set_same words w ((slice_index words w + n) % 2 ^ 64) 0 (subst (λ i. i < length words) (sym is) there) in
          let less : (slice_index words w + n) % 2 ^ 64 ≤ slice_index words w + n = omega arith in
          let free = may is in
          let v : Bool = over k || ends_over e words (Add w n) in
          let apart_from : (w == slot_counter e.sizes) ≡ false = ne_eqb w (slot_counter e.sizes) (λ (bad : w ≡ slot_counter e.sizes). omega (arith, bad, is)) in
          let v_is : v ≡ nat_lt e.limit (slice_index words w + n) = ap (λ (b : Bool). b || ends_over e words (Add w n)) free
          ∙ ap (λ (b : Bool). (b && nat_lt e.limit (slice_index words w + n)) || ((w == slot_counter e.sizes) && nat_lt (slot_limit e) (slice_index words w + n))) test
          ∙ ap (λ (b : Bool). nat_lt e.limit (slice_index words w + n) || (b && nat_lt (slot_limit e) (slice_index words w + n))) apart_from
          ∙ or_none (nat_lt e.limit (slice_index words w + n)) false refl in
          elim (cases_lt e.limit (slice_index words w + n)) [
            | inl past ↦
                let on : put k v over k ≡ true = put_same k v over ∙ v_is ∙ lt-ltb e.limit (slice_index words w + n) past in
                let more : count (put k v over) 0 e.ports ≡ count over 0 e.ports + 1 =
                count_more over (put k v over) 0 e.ports k (omega arith) (omega (arith, below)) free on (λ i ne. put_other k v over i ne) in
                let times : greatest_claim_of e * count (put k v over) 0 e.ports ≡ greatest_claim_of e * (count over 0 e.ports + 1) = ap (λ q. greatest_claim_of e * q) more in
                omega (arith, found, less, reserve, at, few, times)
            | inr within ↦
                let off : v ≡ over k = v_is ∙ not_below e.limit (slice_index words w + n) within ∙ sym free in
                let times : greatest_claim_of e * count (put k v over) 0 e.ports ≡ greatest_claim_of e * count over 0 e.ports = ap (λ q. greatest_claim_of e * q) (unchanged v off) in
                omega (arith, found, less, within, times)
          ]

-- the entries of a step are by its port
added_own : (z : Layout) (p : ℕ) (words : List ℕ) (step : Step) → AllByRecursion (λ (a : Applied). a.port ≡ p) (added_by z p words step)
added_own z p words (Load v) = tt
added_own z p words (Store v u) = tt
added_own z p words (Add v u) = tt
added_own z p words (Exchange v old new) = by (nat_lt v z.m) (slice_index words v == old)
  where
    by : (b c : Bool) → AllByRecursion (λ (a : Applied). a.port ≡ p) (if b then (if c then record { port = p; component = v; value = slice_index words (value_word new); stamp = new } ∷ [] else [])
        else [])
    by true true = (refl, tt)
    by true false = tt
    by false c = tt

module _ (e : Plan) (words : List ℕ) (ports : ℕ → Port) (b : Beside) (k : ℕ) (c : CoreState) (step : Step) (w : LawfulEpochs e words ports b) (below : k < e.ports)
    (stands : (ports k).control.entering ≡ Stands) (machine : IsMachineOf c (ports k).part) (due : step_of c ≡ Some step) (may : MayClaim e (ports k).over step)
    (scans : MayScan e c) where
  abbrev s : IsStanding b k (ports k)
  s = standing e words ports b k w below stands

  abbrev x : ℕ
  x = (ports k).control.here.arena

  abbrev r : Epoch
  r = s.epoch

  abbrev o : Opening
  o = opened_after e.opening r.before

  abbrev bw : List ℕ
  bw = arena_words e words x

  arena : IsArena e bw (component_words e words x) (carried_words e words x) r (x ≢ b.arena)
  arena = w.arenas x r s.is

  around : Around r.part 0 e.ports k
  around = around_of r.part 0 e.ports k (omega arith) (omega (arith, below))

  -- the memory of that arena, as the port stands in it
  abbrev m : PartAmong
  m = record { words = bw; before = around.before; part = r.part k; after = around.after; log = r.log }

  lawful_here : one.LawfulAmong e.sizes o m
  lawful_here = subst (λ (l : List Part). one.Lawful e.sizes o bw l r.log) around.is arena.lawful

  machine_here : IsMachineOf c (r.part k)
  machine_here = subst (IsMachineOf c) (sym s.part) machine

  leads : LeadsOn e.sizes o m c step
  leads = steps_stay_lawful e.sizes o m c step lawful_here machine_here due

  apart : IsApart e.sizes step
  apart = due_apart e.sizes o m lawful_here c step machine_here due

  low : word_of step < total e.sizes
  low = let within = leads.answers.within in let count = length_of (λ i. i) 0 0 in subst (λ n. word_of step < n) lawful_here.memory.count within

  -- where scans don't announce themselves the machine finds none, and what holds there is kept
  finds : e.announces ≡ false → FindsNone c
  finds off = machine_finds c (r.part k) machine_here ((arena.silent off).finds k below) (scans off)

  plain_step : e.announces ≡ false → ClaimsPlainly e.sizes step
  plain_step off = let ready = lawful_machines_are_ready e.sizes o m c lawful_here machine_here in plain_due e.sizes c ready.sizes ready.sound (finds off) step due

  claims_within : ClaimsWithin e step
  claims_within = by e.announces refl
    where
      by : (v : Bool) → e.announces ≡ v → ClaimsWithin e step
      by true on = apart_within e on step apart
      by false off = plain_within e off step (plain_step off)

  silent_then : e.announces ≡ false → IsSilent e (words_after bw step) (put k leads.y r.part)
  silent_then off =
      let was = arena.silent off in
      let ready = lawful_machines_are_ready e.sizes o m c lawful_here machine_here in
      let on : FindsNone (core_of leads.y) = subst FindsNone leads.tells.machine.is
      (finds_then e.sizes c ready.sizes ready.sound (answer_of bw step) (finds off) step due (shows_no_slot e.sizes bw was.unclaimed step)) in
      record {
        unclaimed = plain_keeps e.sizes bw step apart (plain_step off) ∙ was.unclaimed;
        finds = λ q inside. put_all (λ i (y : Part). i < e.ports → FindsNone (core_of y)) k leads.y r.part q (λ _ _. on) (λ _ inside. was.finds q inside) inside;
      }

  abbrev entries : List Applied
  entries = added_by e.sizes (port_of (r.part k)) bw step

  -- whether the port is over after the step
  abbrev over_then : Bool
  over_then = r.over k || ends_over e bw step

  -- what the step leaves of the slot counter, in a memory of these sizes
  abbrev Counts : Layout → Bool → Bool → Type 0
  Counts z before behind = (slice_index (words_after bw step) (slot_counter z) ≤ slot_limit e)
      ⊎ (slice_index (words_after bw step) (slot_counter z) + one (done (r.over k) before) ≤ slice_index bw (slot_counter z) + one (done over_then behind))

  -- it may claim words of the pool, in a memory of these sizes
  may_words : (t : Step) → MayClaim e (r.over k) t → MayClaimWords e.sizes (r.over k) t
  may_words (Add v n) h = h
  may_words (Load v) h = tt
  may_words (Store v u) h = tt
  may_words (Exchange v u n) h = tt

  -- a slot that it claims past the limit is the last one
  passes : step ≡ Add (slot_counter e.sizes) 1 → nat_lt (slot_limit e) (slice_index bw (slot_counter e.sizes) + 1) ≡ true → over_then ≡ true
  passes is past = subst (λ (t : Step). (r.over k || ends_over e bw t) ≡ true) (sym is)
      (or_last (r.over k) ((slot_counter e.sizes == pool_counter e.sizes) && nat_lt e.limit (slice_index bw (slot_counter e.sizes) + 1))
      ((slot_counter e.sizes == slot_counter e.sizes) && nat_lt (slot_limit e) (slice_index bw (slot_counter e.sizes) + 1))
      (ap (λ (b : Bool). b && nat_lt (slot_limit e) (slice_index bw (slot_counter e.sizes) + 1)) (eq-eqb (slot_counter e.sizes) (slot_counter e.sizes) refl) ∙ past))

  counts : Counts e.sizes (awaits_slot (r.part k)) (awaits_slot leads.y)
  counts =
      let ready = lawful_machines_are_ready e.sizes o m c lawful_here machine_here in
      let long = lawful_here.memory.count in
      let z = w.plan.sizes in
      let pool = z.pool.0 in
      let some = z.slots.0 in
      let m = z.components.0 in
      let slots_there : slot_counter e.sizes < length bw = omega (arith, long, pool, some, m) in
      let back : c.sizes ≡ e.sizes = ready.sizes in
      let claim : MayClaim e (r.over k) step = subst (λ (v : Bool). MayClaim e v step) (sym s.over) may in
      subst (λ (v : Bool). Counts e.sizes v (awaits_slot leads.y)) (awaits_same c (r.part k) machine_here)
      (subst (λ (v : Bool). Counts e.sizes (awaits c) v) (ap awaits leads.tells.machine.is)
      (subst (λ (l : Layout). Counts l (awaits c) (awaits (advance c (answer_of bw step)))) back
      (counted c ready.sound bw (subst (λ (l : Layout). slot_counter l < length bw) (sym back) slots_there) (slot_limit e) (r.over k) over_then
      (or_more (r.over k) (ends_over e bw step)) (answer_of bw step) step due (subst (λ (l : Layout). IsApart l step) (sym back) apart)
      (subst (λ (l : Layout). MayClaimWords l (r.over k) step) (sym back) (may_words step claim))
      (subst (λ (l : Layout). step ≡ Add (slot_counter l) 1 → nat_lt (slot_limit e) (slice_index bw (slot_counter l) + 1) ≡ true → over_then ≡ true) (sym back) passes))))

  slots_then : slice_index (words_after bw step) (slot_counter e.sizes)
      ≤ slot_limit e + count (λ q. claims_no_more (put k over_then r.over q) (put k leads.y r.part q)) 0 e.ports
  slots_then =
      let was = arena.slots in
      let changed = count_one (λ q. claims_no_more (r.over q) (r.part q)) (λ q. claims_no_more (put k over_then r.over q) (put k leads.y r.part q)) 0 e.ports k
      (omega arith) (omega (arith, below))
      (λ i ne. ap (λ (v : Bool). claims_no_more v (put k leads.y r.part i)) (put_other k over_then r.over i ne) ∙ ap (claims_no_more (r.over i)) (put_other k leads.y r.part i ne)) in
      let now : ◌≡◌ {A = ℕ} (one (claims_no_more (put k over_then r.over k) (put k leads.y r.part k))) (one (done over_then (awaits_slot leads.y))) =
      ap (λ (v : Bool). one (claims_no_more v (put k leads.y r.part k))) (put_same k over_then r.over) ∙ ap (λ (y : Part). one (claims_no_more over_then y)) (put_same k leads.y r.part) in
      elim counts [
        | inl within ↦ omega (arith, within)
        | inr added ↦ omega (arith, was, changed, now, added)
      ]

  abbrev words' : List ℕ
  words' = words_after words (based_step e x step)

  module _ (h : Words e words x step (words_after words (based_step e (ports k).control.here.arena step))) where
    abbrev over' : Bool
    over' = (ports k).over || ends_over e bw step

    abbrev p' : Port
    p' = record (ports k) { part = leads.y; over = over' }

    abbrev r' : Epoch
    r' = record r { log = r.log ++ entries; part = put k leads.y r.part; over = put k over' r.over }

    same_over : over' ≡ (r.over k || ends_over e bw step)
    same_over = ap (λ (v : Bool). v || ends_over e bw step) (sym s.over)

    arena_then : IsArena e (arena_words e words' x) (component_words e words' x) (carried_words e words x) r' (x ≢ b.arena)
    arena_then =
        let list : list_of (put k leads.y r.part) 0 e.ports ≡ around.before ++ leads.y ∷ around.after =
        around.renewed (put k leads.y r.part) (λ i ne. put_other k leads.y r.part i ne) ∙ ap (λ (y : Part). around.before ++ y ∷ around.after) (put_same k leads.y r.part) in
        let there : pool_counter e.sizes < length bw = let count = lawful_here.memory.count in let pool = lawful_here.memory.sizes.pool.0 in let some = lawful_here.memory.sizes.slots.0 in
        let m = lawful_here.memory.sizes.components.0 in omega (arith, count, pool, some, m) in
        let claim : MayClaim e (r.over k) step = subst (λ (v : Bool). MayClaim e v step) (sym s.over) may in
        record {
          lawful = subst (λ (l : List ℕ). one.Lawful e.sizes o l (list_of (put k leads.y r.part) 0 e.ports) (r.log ++ entries)) (sym h.arena)
              (subst (λ (l : List Part). one.Lawful e.sizes o (words_after bw step) l (r.log ++ entries)) (sym list) leads.lawful);
          numbers = λ q inside. put_all (λ i (y : Part). i < e.ports → port_of y ≡ i) k leads.y r.part q (λ _ _. leads.tells.port ∙ arena.numbers k below) (λ _ inside. arena.numbers q inside) inside;
          stamps = arena.stamps;
          few = λ j inside. let same = (h.seals j inside).0 in let few = arena.few j inside in omega (arith, same, few);
          passed = λ q j in_ports in_passed inside. (h.seals j inside).1 (arena.passed q j in_ports in_passed inside);
          sealed = λ finished j inside. (h.seals j inside).1 (arena.sealed finished j inside);
          reserve = subst (λ (l : List ℕ). slice_index l (pool_counter e.sizes) ≤ e.limit + greatest_claim_of e * count (put k over' r.over) 0 e.ports) (sym h.arena)
              (subst (λ (v : Bool). slice_index (words_after bw step) (pool_counter e.sizes) ≤ e.limit + greatest_claim_of e * count (put k v r.over) 0 e.ports) (sym same_over)
              (reserved_by e bw r.over k below there arena.reserve step apart claim claims_within));
          slots = subst (λ (l : List ℕ). slice_index l (slot_counter e.sizes)
              ≤ slot_limit e + count (λ q. claims_no_more (put k over' r.over q) (put k leads.y r.part q)) 0 e.ports) (sym h.arena)
              (subst (λ (v : Bool). slice_index (words_after bw step) (slot_counter e.sizes)
              ≤ slot_limit e + count (λ q. claims_no_more (put k v r.over q) (put k leads.y r.part q)) 0 e.ports) (sym same_over) slots_then);
          silent = λ off. subst (λ (l : List ℕ). IsSilent e l (put k leads.y r.part)) (sym h.arena) (silent_then off);
        }

    changes : Changes e words b k x (ports k) r words' p' r' entries
    changes = record {
      count = h.count;
      outside = h.outside;
      log = refl;
      before = refl;
      parts = λ q ne. put_other k leads.y r.part q ne;
      passes = λ q ne. refl;
      overs = λ q ne. put_other k over' r.over q ne;
      part = put_same k leads.y r.part;
      passed = s.passed;
      over = put_same k over' r.over;
      more = omega arith;
      control = refl;
      earlier = refl;
      grows = h.grows (port_of (r.part k));
      arena = arena_then;
    }

    present : (entries ≡ []) ⊎ IsPresent b k (ports k)
    present = elim (h.grows (port_of (r.part k))) [
      | inl none ↦ inl none
      | inr free ↦ inr (by_seal e words ports b k w below stands free.0 free.1 free.2)
    ]

    tells : StepShows e.sizes (opened_after e.opening (ports k).before) r.log entries (ports k).part c (answer_of bw step) leads.y
    tells = subst (λ (l : List (List Applied)). StepShows e.sizes (opened_after e.opening l) r.log entries (ports k).part c (answer_of bw step) leads.y) s.before
        (subst (λ (y : Part). StepShows e.sizes o r.log entries y c (answer_of bw step) leads.y) s.part leads.tells)

    pub machine_leads : (¬ MeetsSeal e (component_words e words x) step) → MachineLeads e words ports b k c step
    machine_leads unmet = record {
      standing = s;
      unmet = unmet;
      within = there step low;
      gives = h.gives;
      port = p';
      entries = entries;
      control = refl;
      before = refl;
      passed = refl;
      over = refl;
      tells = tells;
      present = present;
      own = subst (λ n. AllByRecursion (λ (a : Applied). a.port ≡ n) entries) (arena.numbers k below) (added_own e.sizes (port_of (r.part k)) bw step);
      free = h.free (port_of (r.part k));
      beside = beside_then b x r' entries;
      log = refl;
      epochs = refl;
      lawful = change_kept e words ports b k w below stands words' p' r' entries changes;
    }
      where
        there : (t : Step) → word_of t < total e.sizes → word_of (based_step e x t) < length words
        there (Load v) low = let up = below_whole e x v (w.control.sites k below).arena (omega (arith, low)) in let count = w.count in omega (arith, up, count)
        there (Store v u) low = let up = below_whole e x v (w.control.sites k below).arena (omega (arith, low)) in let count = w.count in omega (arith, up, count)
        there (Exchange v u n) low = let up = below_whole e x v (w.control.sites k below).arena (omega (arith, low)) in let count = w.count in omega (arith, up, count)
        there (Add v u) low = let up = below_whole e x v (w.control.sites k below).arena (omega (arith, low)) in let count = w.count in omega (arith, up, count)

  pub machine_kept : (MeetsSeal e (component_words e words (ports k).control.here.arena) step × (words_after words (based_step e (ports k).control.here.arena step) ≡ words))
      ⊎ MachineLeads e words ports b k c step
  machine_kept = elim (worded e words x step (w.control.sites k below).arena w.count low apart w.plan.sizes.slots.0) [
    | inl met ↦ inl met
    | inr h ↦ inr (machine_leads h.1 h.0)
  ]

pub machine_steps_stay_lawful : MachineStepsStayLawful
machine_steps_stay_lawful e words ports b k c step w below stands machine due may scans = machine_kept e words ports b k c step w below stands machine due may scans
