-- What a lawful state says of its ports: they are distinct, fit the history, may look, and make few steps.
use Rattle.partial_core.proofs.{Common.{ℕ, suc, ◌≡◌, ◌≢◌, ◌+◌, ◌<◌, ◌≤◌, ◌==◌, ◌++◌, ◌⊎◌, Bool, true, false, if◌then◌else◌, List, [], ◌∷◌, length, map, refl, sym, ap, subst, ◌∙◌, inl, inr, arith, append_assoc, Contains, AllByRecursion, eq-eqb, eqb_tells, take_all, length-map, Applied, Opening, places_by, places_written, Layout, IsLayout, view_word, CoreState, advance, most_steps, Run, makes_few_steps, Holding, HaveOtherPorts, LawfulWords, IsEntry, KeptAnswer, all_unmap, all_before, all_after, all_weaker, two_before, two_after, Part, led_by, core_of, port_of, answers_of, with_seen, holding_of, holdings, AreAnswersKept, IsKnown, notes_by, Lawful, FitsHistory, LawfulPortsFit, LawfulRecordsAreWithin, LooksStayLawful, HasFewSteps, LawfulCallsAreBounded, PartAmong, LawfulAmong}, Calls.led, Parts.{seen_within, legal_on, all_changed, holdings_split, once_same, once_own}, Steps.{known_here, memory_here, port_here}}

-- what holds of each element in two ways
both_all : {A : Type 0} (P Q R : A → Type 0) → ((x : A) → P x → Q x → R x) → (xs : List A) → AllByRecursion P xs → AllByRecursion Q xs → AllByRecursion R xs
both_all P Q R f [] v w = tt
both_all P Q R f (x ∷ xs) v w = (f x v.0 w.0, both_all P Q R f xs v.1 w.1)

module _ (z : Layout) (o : Opening) (m : PartAmong) (w : LawfulAmong z o m) where
  open m use {words, before, part as x, after, log}

  abbrev hs : List Holding
  hs = holdings (before ++ x ∷ after)

  -- the port of each other part
  other_ports : (xs : List Part) → AllByRecursion (λ y. HaveOtherPorts (holding_of x) (holding_of y)) xs → AllByRecursion (IsKnown z o words hs log) xs → AllByRecursion (λ y. port_of x ≢ port_of y) xs
  other_ports xs others known = both_all (λ y. HaveOtherPorts (holding_of x) (holding_of y)) (IsKnown z o words hs log) (λ y. port_of x ≢ port_of y)
      (λ y other k same. other (port_here z o m w ∙ same ∙ sym (led z o words hs log y.since y.begun y.kept w.memory.sizes k.sizes k.sound k.kept).port)) xs others known

  pub others : AllByRecursion (λ y. port_of x ≢ port_of y) before × AllByRecursion (λ y. port_of x ≢ port_of y) after
  others =
      let memory = memory_here z o m w in
      let turn : (a b : Holding) → HaveOtherPorts a b → HaveOtherPorts b a = λ a b other same. other (sym same) in (
        other_ports before (all_unmap (HaveOtherPorts (holding_of x)) holding_of before (two_before HaveOtherPorts turn (holdings before) (holding_of x) (holdings after) memory.ports))
            (all_before (IsKnown z o words hs log) before x after w.known),
        other_ports after (all_unmap (HaveOtherPorts (holding_of x)) holding_of after (two_after HaveOtherPorts turn (holdings before) (holding_of x) (holdings after) memory.ports))
            (all_after (IsKnown z o words hs log) before x after w.known),
      )

  pub fits_here : FitsHistory o log x
  fits_here =
      let k = known_here z o m w in
      let seen = seen_within x.seen log k.seen in
      let shown = k.shown in
      let apart = others in
      record {
        history = w.memory.history;
        legal = legal_on o x.seen log (port_of x) 0 x.notes k.seen k.notes;
        shown = omega (arith, shown, seen);
        once = w.once (port_of x) ∙ once_own before x after apart.0 apart.1;
      }

-- each part in its place
each_fits : (z : Layout) (o : Opening) (words : List ℕ) (before xs : List Part) (log : List Applied) → Lawful z o words (before ++ xs) log → AllByRecursion (FitsHistory o log) xs
each_fits z o words before [] log w = tt
each_fits z o words before (x ∷ xs) log w = (
  fits_here z o (record { words = words; before = before; part = x; after = xs; log = log }) w,
  each_fits z o words (before ++ x ∷ []) xs log
      (subst (λ (l : List Part). Lawful z o words l log) (sym (append_assoc before (x ∷ []) xs)) w),
)

-- a port is that of a part, or no part has its notes
is_part : (p : ℕ) (xs : List Part) → Contains (map port_of xs) p ⊎ (notes_by p xs ≡ [])
is_part p [] = inr refl
is_part p (x ∷ xs) = elim (eqb_tells (port_of x) p) [
  | inl same ↦ inl (0, omega arith, same.1)
  | inr other ↦ elim (is_part p xs) [
    | inl c ↦ let k = c.0 in let within = c.1 in inl (suc k, omega (arith, within), c.2)
    | inr none ↦ inr (ap (λ (b : Bool). (if b then x.notes else []) ++ notes_by p xs) other.0 ∙ none)
  ]
]

-- where a port has no entry
taken : (k : ℕ) (l : List ℕ) (b : Bool) → b ≡ true → (if b then k ∷ l else l) ≡ [] → ⊥
taken k l true e f = absurd cc
taken k l false e f = absurd cc

left : (k : ℕ) (l : List ℕ) (b : Bool) → (if b then k ∷ l else l) ≡ [] → l ≡ []
left k l true f = absurd cc
left k l false f = f

-- each entry is by a port of which P holds, where a port of which it doesn't hold has no entry
entries_by : (P : ℕ → Type 0) (k : ℕ) (log : List Applied) → ((p : ℕ) → P p ⊎ (places_by p k log ≡ [])) → AllByRecursion (λ (e : Applied). P e.port) log
entries_by P k [] each = tt
entries_by P k (e ∷ log) each = (first (each e.port), entries_by P (k + 1) log (λ p. rest p (each p)))
  where
    first : P e.port ⊎ (places_by e.port k (e ∷ log) ≡ []) → P e.port
    first (inl h) = h
    first (inr none) = absurd (taken k (places_by e.port (k + 1) log) (e.port == e.port) (eq-eqb e.port e.port refl) none)

    rest : (p : ℕ) → P p ⊎ (places_by p k (e ∷ log) ≡ []) → P p ⊎ (places_by p (k + 1) log ≡ [])
    rest p (inl h) = inl h
    rest p (inr none) = inr (left k (places_by p (k + 1) log) (e.port == p) none)

pub lawful_ports_fit : LawfulPortsFit
lawful_ports_fit z o words parts log w = record {
  each = each_fits z o words [] parts log w;
  sizes = all_weaker (IsKnown z o words (holdings parts) log) (λ x. (core_of x).sizes ≡ z)
      (λ x k. (led z o words (holdings parts) log x.since x.begun x.kept w.memory.sizes k.sizes k.sound k.kept).sizes) parts w.known;
  others = entries_by (Contains (map port_of parts)) 0 log (λ p. either p (is_part p parts));
}
  where
    either : (p : ℕ) → Contains (map port_of parts) p ⊎ (notes_by p parts ≡ []) → Contains (map port_of parts) p ⊎ (places_by p 0 log ≡ [])
    either p (inl h) = inl h
    either p (inr none) = inr (w.once p ∙ ap places_written none)

pub looks_stay_lawful : LooksStayLawful
looks_stay_lawful z o m w =
    let y : Part = with_seen log x in
    let same : holdings (before ++ x ∷ after) ≡ holdings (before ++ y ∷ after) = holdings_split before x after ∙ sym (holdings_split before y after) in
    let P : Part → Type 0 = IsKnown z o words (holdings (before ++ x ∷ after)) log in
    let k : IsKnown z o words (holdings (before ++ x ∷ after)) log x = known_here z o m w in
    let seen = seen_within x.seen log k.seen in
    let shown = k.shown in
    let since = k.since in
    let here : P y = record {
      port = k.port;
      sizes = k.sizes;
      seen = sym (take_all (length log) log (omega arith));
      notes = legal_on o x.seen log (port_of x) 0 x.notes k.seen k.notes;
      shown = omega (arith, shown, seen);
      sound = k.sound;
      begun = k.begun;
      since = omega (arith, since, seen);
      earlier = k.earlier;
      past = k.past;
      one = k.one;
      going = k.going;
      kept = k.kept;
    } in
    let count = w.memory.count in
    let some = w.memory.sizes.components.0 in
    let lawful : LawfulAmong z o (record m { part = y }) = record {
      memory = subst (λ (hs : List Holding). LawfulWords z o words hs log) same w.memory;
      once = λ p. w.once p ∙ sym (once_same p before x y after refl refl);
      known = subst (λ (hs : List Holding). AllByRecursion (IsKnown z o words hs log) (before ++ y ∷ after)) same (all_changed P P (λ v h. h) before x y after w.known here);
    } in
    record {
      there = omega (arith, count, some);
      seen = k.seen;
      fits = fits_here z o (record m { part = y }) lawful;
      lawful = lawful;
    }
  where
    open m use {words, before, part as x, after, log}

pub lawful_records_are_within : LawfulRecordsAreWithin
lawful_records_are_within z o words parts log w =
    let values = w.memory.values in
    let count = w.memory.count in
    let stamps = w.memory.stamps in
    let pool = w.memory.sizes.pool.0 in
    record {
      sizes = w.memory.sizes;
      values = values;
      history = w.memory.history;
      agrees = w.memory.agrees;
      initial = λ j below. (omega (arith, stamps), omega (arith, below, count, stamps, pool));
      entries = all_weaker (IsEntry z words) (λ (e : Applied). (z.m ≤ e.stamp) × (view_word e.stamp < length words))
          (λ e entry. let above = entry.above in let within = entry.within in (omega (arith, above), omega (arith, within, count))) log w.memory.entries;
    }

-- the answers that are kept lead to the part's machine
pub kept_run : (z : Layout) (o : Opening) (words : List ℕ) (hs : List Holding) (log : List Applied) (low : ℕ) (s : CoreState) (ks : List KeptAnswer) → AreAnswersKept z o words hs log low s ks →
    Run s (answers_of ks) (led_by s ks)
kept_run z o words hs log low s [] w = refl
kept_run z o words hs log low s (k ∷ ks) w = (w.0.possible, kept_run z o words hs log k.at (advance s k.answer) ks w.1)

pub lawful_calls_are_bounded : LawfulCallsAreBounded
lawful_calls_are_bounded z o words parts log w = all_weaker (IsKnown z o words (holdings parts) log) (HasFewSteps z) few parts w.known
  where
    few : (x : Part) → IsKnown z o words (holdings parts) log x → HasFewSteps z x
    few x k c made =
        let layout : IsLayout x.begun.sizes = subst IsLayout (sym k.sizes) w.memory.sizes in
        let run = kept_run z o words (holdings parts) log x.since x.begun x.kept k.kept in
        let counts = makes_few_steps x.begun (core_of x) c (answers_of x.kept) layout k.sound made run in
        let long : length (answers_of x.kept) ≡ length x.kept = length-map x.kept (λ (k : KeptAnswer). k.answer) in
        let same : most_steps x.begun.sizes c ≡ most_steps z c = ap (λ (y : Layout). most_steps y c) k.sizes in
        omega (arith, counts, long, same)
