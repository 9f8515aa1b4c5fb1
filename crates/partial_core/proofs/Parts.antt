-- A lawful state with one part in the place of another, and with other words.
use Rattle.partial_core.proofs.{Common.{ℕ, ◌+◌, ◌≡◌, ◌≢◌, ◌≤◌, ◌==◌, ◌++◌, Bool, true, false, if◌then◌else◌, Option, Some, None, List, [], ◌∷◌, length, take, drop, min, refl, sym, ap, subst, ◌∙◌, arith, append_assoc, length-append, length-take, AllByRecursion, false≢true, ne_eqb, eq-eqb, append-nil, take_all, take-append-drop, take-append-le, Applied, Opening, Noted, LegalNotes, IsLegal, seen_by, places_by, places_written, LegalNotes-push, LegalNotes-grows, places_written-append, Step, Load, Store, Exchange, Add, Layout, CoreState, advance, step_of, IsPossible, Holding, LawfulWords, KeptAnswer, IsLoaded, all_weaker, Part, led_by, core_of, port_of, holding_of, holdings, is_at_rest, IsTrueYet, AreAnswersKept, IsKnown, notes_by, PartAmong, LawfulAmong, IsKept}, Calls.led_push}

-- a beginning of a list is no longer than the list
pub seen_within : {A : Type 0} (seen log : List A) → seen ≡ take (length seen) log → length seen ≤ length log
seen_within seen log e = let n : length seen ≡ min (length seen) (length log) = ap length e ∙ length-take (length seen) log in omega arith

-- what a load answered goes on being true where loads stay true
yet_grows : (z : Layout) (o : Opening) (words words' : List ℕ) (hs hs' : List Holding) (log log' : List Applied) →
    ((n : ℕ) (k : KeptAnswer) → IsLoaded z o words hs log n k → IsLoaded z o words' hs' log' n k) → (f : Option Step) (k : KeptAnswer) → IsTrueYet z o words hs log f k →
    IsTrueYet z o words' hs' log' f k
yet_grows z o words words' hs hs' log log' loads None k w = w
yet_grows z o words words' hs hs' log log' loads (Some (Load n)) k w = loads n k w
yet_grows z o words words' hs hs' log log' loads (Some (Store n v)) k w = w
yet_grows z o words words' hs hs' log log' loads (Some (Exchange n a b)) k w = w
yet_grows z o words words' hs hs' log log' loads (Some (Add n v)) k w = w

kept_grows : (z : Layout) (o : Opening) (words words' : List ℕ) (hs hs' : List Holding) (log es : List Applied) →
    ((n : ℕ) (k : KeptAnswer) → IsLoaded z o words hs log n k → IsLoaded z o words' hs' (log ++ es) n k) → (low : ℕ) (s : CoreState) (ks : List KeptAnswer) → AreAnswersKept z o words hs log low s ks →
    AreAnswersKept z o words' hs' (log ++ es) low s ks
kept_grows z o words words' hs hs' log es loads low s [] w = tt
kept_grows z o words words' hs hs' log es loads low s (k ∷ ks) w = (
  record {
    possible = w.0.possible;
    behind = w.0.behind;
    within = let within = w.0.within in omega (arith, length-append log es, within);
    true_yet = yet_grows z o words words' hs hs' log
        (log ++ es) loads (step_of s) k w.0.true_yet;
  },
  kept_grows z o words words' hs hs' log es loads k.at (advance s k.answer) ks w.1,
)

-- what a port knows it goes on knowing
pub known_grows : (z : Layout) (o : Opening) (words words' : List ℕ) (hs hs' : List Holding) (log es : List Applied) →
    ((n : ℕ) (k : KeptAnswer) → IsLoaded z o words hs log n k → IsLoaded z o words' hs' (log ++ es) n k) → (x : Part) → IsKnown z o words hs log x → IsKnown z o words' hs' (log ++ es) x
known_grows z o words words' hs hs' log es loads x w = record {
  port = w.port;
  sizes = w.sizes;
  seen = w.seen ∙ sym (take-append-le (length x.seen) log es (seen_within x.seen log w.seen));
  notes = w.notes;
  shown = w.shown;
  sound = w.sound;
  begun = w.begun;
  since = w.since;
  earlier = w.earlier;
  past = w.past;
  one = w.one;
  going = w.going;
  kept = kept_grows z o words words' hs hs' log es loads x.since x.begun x.kept w.kept;
}

-- one kept answer more
kept_push : (z : Layout) (o : Opening) (words : List ℕ) (hs : List Holding) (log : List Applied) (low : ℕ) (s : CoreState) (ks : List KeptAnswer) (k : KeptAnswer) →
    AreAnswersKept z o words hs log low s ks →
    low ≤ k.at → ((n : ℕ) → n ≤ length log → n ≤ k.at) → IsPossible (led_by s ks) k.answer → k.at ≤ length log → IsTrueYet z o words hs log (step_of (led_by s ks)) k →
    AreAnswersKept z o words hs log low s (ks ++ k ∷ [])
kept_push z o words hs log low s [] k w behind all possible within yet = (record { possible = possible; behind = behind; within = within; true_yet = yet }, tt)
kept_push z o words hs log low s (x ∷ ks) k w behind all possible within yet =
    let inside = w.0.within in
    (w.0, kept_push z o words hs log x.at (advance s x.answer) ks k w.1 (all x.at inside) all possible within yet)

-- the part after one answer more
abbrev pub gone : Part → List Applied → ℕ → List Noted → Part
gone x l a new = record { seen = l; notes = x.notes ++ new; begun = x.begun; kept = x.kept ++ record { answer = a; at = length l } ∷ []; since = x.since; past = x.past }

pub gone_core : (x : Part) (l : List Applied) (a : ℕ) (new : List Noted) → core_of (gone x l a new) ≡ advance (core_of x) a
gone_core x l a new = led_push x.begun x.kept (record { answer = a; at = length l })

-- notes that are legal in a beginning of the history are legal in the history
pub legal_on : (o : Opening) (seen log : List Applied) (p n : ℕ) (ns : List Noted) → seen ≡ take (length seen) log → LegalNotes o seen p n ns → LegalNotes o log p n ns
legal_on o seen log p n ns is w =
    let all : seen ++ drop (length seen) log ≡ log = ap (λ (l : List Applied). l ++ drop (length seen) log) is ∙ take-append-drop (length seen) log in
    subst (λ (l : List Applied). LegalNotes o l p n ns) all (LegalNotes-grows o seen (drop (length seen) log) p n ns w)

known_gone : (z : Layout) (o : Opening) (words : List ℕ) (hs : List Holding) (l : List Applied) (x : Part) (a : ℕ) (new : List Noted) → IsKnown z o words hs l x →
    is_at_rest (core_of x).stage ≡ false → IsPossible (core_of x) a → IsTrueYet z o words hs l (step_of (core_of x)) (record { answer = a; at = length l }) →
    LegalNotes o l (port_of x) 0 (x.notes ++ new) → seen_by 0 (x.notes ++ new) ≤ length l → length new ≤ 1 → (is_at_rest (advance (core_of x) a).stage ≡ false → new ≡ []) →
    IsKnown z o words hs l (gone x l a new)
known_gone z o words hs l x a new w going possible yet legal shown one none =
    let seen = seen_within x.seen l w.seen in
    let since = w.since in
    let past = w.going going in
    let long : length (x.notes ++ new) ≡ length x.notes + length new = length-append x.notes new in
    record {
      port = w.port;
      sizes = w.sizes;
      seen = sym (take_all (length l) l (omega arith));
      notes = legal;
      shown = shown;
      sound = w.sound;
      begun = w.begun;
      since = omega (arith, since, seen);
      earlier = subst (λ (ns : List Noted). seen_by 0 ns ≤ x.since) (sym (take-append-le x.past x.notes new w.past)) w.earlier;
      past = omega (arith, past, long);
      one = omega (arith, past, long, one);
      going = λ rest. let empty = none (ap (λ (s : CoreState). is_at_rest s.stage) (sym (gone_core x l a new)) ∙ rest) in let zero_long : length new ≡ 0 =
          ap length empty in omega (arith, past, long, zero_long);
      kept = kept_push z o words hs l x.since x.begun x.kept (record { answer = a; at = length l }) w.kept (omega (arith, since, seen)) (λ n h. h) possible (omega arith) yet;
    }

-- the call goes on, or it is refused: nothing is noted
pub known_on : (z : Layout) (o : Opening) (words : List ℕ) (hs : List Holding) (l : List Applied) (x : Part) (a : ℕ) → IsKnown z o words hs l x → is_at_rest (core_of x).stage ≡ false →
    IsPossible (core_of x) a → IsTrueYet z o words hs l (step_of (core_of x)) (record { answer = a; at = length l }) → IsKnown z o words hs l (gone x l a [])
known_on z o words hs l x a w going possible yet =
    let same = append-nil x.notes in
    let seen = seen_within x.seen l w.seen in
    let shown : seen_by 0 (x.notes ++ []) ≡ seen_by 0 x.notes = ap (seen_by 0) same in
    let less = w.shown in
    known_gone z o words hs l x a [] w going possible yet (subst (LegalNotes o l (port_of x) 0) (sym same) (legal_on o x.seen l (port_of x) 0 x.notes w.seen w.notes))
    (omega (arith, shown, less, seen)) (omega arith) (λ _. refl)

-- the call ends with a note
pub known_end : (z : Layout) (o : Opening) (words : List ℕ) (hs : List Holding) (l : List Applied) (x : Part) (a : ℕ) (n : Noted) → IsKnown z o words hs l x → is_at_rest (core_of x).stage ≡ false →
    IsPossible (core_of x) a → IsTrueYet z o words hs l (step_of (core_of x)) (record { answer = a; at = length l }) → IsLegal o l (port_of x) (seen_by 0 x.notes) n →
    seen_by 0 (x.notes ++ n ∷ []) ≤ length l → is_at_rest (advance (core_of x) a).stage ≡ true → IsKnown z o words hs l (gone x l a (n ∷ []))
known_end z o words hs l x a n w going possible yet legal shown rest =
    known_gone z o words hs l x a (n ∷ []) w going possible yet (LegalNotes-push o l (port_of x) 0 x.notes n (legal_on o x.seen l (port_of x) 0 x.notes w.seen w.notes) legal) shown (omega arith)
    (λ r. absurd (false≢true (sym r ∙ rest)))

-- what the ports before, here and after hold
pub holdings_split : (before : List Part) (x : Part) (after : List Part) → holdings (before ++ x ∷ after) ≡ holdings before ++ holding_of x ∷ holdings after
holdings_split [] x after = refl
holdings_split (b ∷ before) x after = ap (λ (hs : List Holding). holding_of b ∷ hs) (holdings_split before x after)

-- what holds of all parts holds of those before, of this one and of those after
pub all_at : {A : Type 0} (P : A → Type 0) (before : List A) (x : A) (after : List A) → AllByRecursion P (before ++ x ∷ after) → P x
all_at P [] x after w = w.0
all_at P (b ∷ before) x after w = all_at P before x after w.1

pub all_changed : {A : Type 0} (P Q : A → Type 0) → ((x : A) → P x → Q x) → (before : List A) (x y : A) (after : List A) → AllByRecursion P (before ++ x ∷ after) → Q y →
    AllByRecursion Q (before ++ y ∷ after)
all_changed P Q f [] x y after w here = (here, all_weaker P Q f after w.1)
all_changed P Q f (b ∷ before) x y after w here = (f b w.0, all_changed P Q f before x y after w.1 here)

-- the memory's words are lawful when its port holds that
abbrev pub LawfulWith : Layout → Opening → PartAmong → Holding → Type 0
LawfulWith z o m h = LawfulWords z o m.words (holdings m.before ++ h ∷ holdings m.after) m.log

-- from its port's holding h, the words, what it holds and the history become these others: the words stay lawful, and what was loaded true
abbrev pub IsKeptAmong : Layout → Opening → PartAmong → Holding → List ℕ → Holding → List Applied → Type 0
IsKeptAmong z o m h words' h' log' = IsKept z o m.words (holdings m.before) h (holdings m.after) m.log words' h' log'

-- the memory with the part y in the place of its port's, and with other words
pub changed : (z : Layout) (o : Opening) (m : PartAmong) (words' : List ℕ) (y : Part) (es : List Applied) → LawfulAmong z o m →
    IsKeptAmong z o m (holding_of m.part) words' (holding_of y) (m.log ++ es) →
    ((p : ℕ) → places_by p 0 (m.log ++ es) ≡ places_written (notes_by p (m.before ++ y ∷ m.after))) →
    IsKnown z o words' (holdings (m.before ++ y ∷ m.after)) (m.log ++ es) y →
    LawfulAmong z o (record m { words = words'; part = y; log = m.log ++ es })
changed z o m words' y es w keeps once known =
    let old = holdings_split before x after in
    let new = holdings_split before y after in
    record {
      memory = subst (λ (hs : List Holding). LawfulWords z o words' hs (log ++ es)) (sym new) keeps.lawful;
      once = once;
      known = all_changed (IsKnown z o words (holdings (before ++ x ∷ after)) log) (IsKnown z o words' (holdings (before ++ y ∷ after)) (log ++ es))
          (λ v h. known_grows z o words words' (holdings (before ++ x ∷ after)) (holdings (before ++ y ∷ after)) log es
          (λ n k l. subst (λ (hs : List Holding). IsLoaded z o words' hs (log ++ es) n k) (sym new) (keeps.loads n k (subst (λ (hs : List Holding). IsLoaded z o words hs log n k) old l))) v h)
          before x y after w.known known;
    }
  where
    open m use {words, before, part as x, after, log}

-- no other part has the port
notes_none : (p : ℕ) (xs : List Part) → AllByRecursion (λ y. p ≢ port_of y) xs → notes_by p xs ≡ []
notes_none p [] w = refl
notes_none p (y ∷ ys) w =
    ap (λ b. (if b then y.notes else []) ++ notes_by p ys) (ne_eqb (port_of y) p (λ e. w.0 (sym e))) ∙ notes_none p ys w.1

-- the notes of a port, with one part taken out
pub notes_split : (p : ℕ) (before : List Part) (x : Part) (after : List Part) → places_written (notes_by p (before ++ x ∷ after)) ≡ places_written (notes_by p before) ++
    (places_written (if port_of x == p then x.notes else []) ++ places_written (notes_by p after))
notes_split p [] x after = places_written-append (if port_of x == p then x.notes else []) (notes_by p after)
notes_split p (b ∷ before) x after =
    places_written-append (if port_of b == p then b.notes else []) (notes_by p (before ++ x ∷ after))
    ∙ ap (λ (l : List ℕ). places_written (if port_of b == p then b.notes else []) ++ l) (notes_split p before x after)
    ∙ sym (append_assoc (places_written (if port_of b == p then b.notes else [])) (places_written (notes_by p before))
    (places_written (if port_of x == p then x.notes else []) ++ places_written (notes_by p after)))
    ∙ ap (λ (l : List ℕ). l ++ (places_written (if port_of x == p then x.notes else []) ++ places_written (notes_by p after)))
    (sym (places_written-append (if port_of b == p then b.notes else []) (notes_by p before)))

-- the same places are written where the part's notes write the same places
pub once_same : (p : ℕ) (before : List Part) (x y : Part) (after : List Part) → port_of y ≡ port_of x → places_written y.notes ≡ places_written x.notes →
    places_written (notes_by p (before ++ y ∷ after)) ≡ places_written (notes_by p (before ++ x ∷ after))
once_same p before x y after port same =
    notes_split p before y after
    ∙ ap (λ (l : List ℕ). places_written (notes_by p before) ++ (l ++ places_written (notes_by p after))) (chosen p (port_of y) (port_of x) x.notes y.notes port same)
    ∙ sym (notes_split p before x after)
  where
    picked : (b : Bool) (ms ns : List Noted) → places_written ns ≡ places_written ms → places_written (if b then ns else []) ≡ places_written (if b then ms else [])
    picked true ms ns e = e
    picked false ms ns e = refl

    chosen : (p q r : ℕ) (ms ns : List Noted) → q ≡ r → places_written ns ≡ places_written ms → places_written (if q == p then ns else []) ≡ places_written (if r == p then ms else [])
    chosen p q r ms ns port e = ap (λ n. places_written (if n == p then ns else [])) port ∙ picked (r == p) ms ns e

-- the places of the port that writes one more, and those of each other port
pub once_own : (before : List Part) (x : Part) (after : List Part) → AllByRecursion (λ y. port_of x ≢ port_of y) before → AllByRecursion (λ y. port_of x ≢ port_of y) after →
    places_written (notes_by (port_of x) (before ++ x ∷ after)) ≡ places_written x.notes
once_own before x after b a =
    notes_split (port_of x) before x after
    ∙ ap (λ (ns : List Noted). places_written ns ++ (places_written (if port_of x == port_of x then x.notes else []) ++ places_written (notes_by (port_of x) after))) (notes_none (port_of x) before b)
    ∙ ap (λ (ns : List Noted). places_written (if port_of x == port_of x then x.notes else []) ++ places_written ns) (notes_none (port_of x) after a)
    ∙ append-nil (places_written (if port_of x == port_of x then x.notes else []))
    ∙ ap (λ t. places_written (if t then x.notes else [])) (eq-eqb (port_of x) (port_of x) refl)

pub once_other : (p : ℕ) (before : List Part) (x y : Part) (after : List Part) → port_of y ≡ port_of x → (port_of x ≡ p → ⊥) → places_written (notes_by p (before ++ y ∷ after)) ≡ places_written
    (notes_by p (before ++ x ∷ after))
once_other p before x y after port other =
    notes_split p before y after
    ∙ ap (λ t. places_written (notes_by p before) ++ (places_written (if t then y.notes else []) ++ places_written (notes_by p after))) (ne_eqb (port_of y) p (λ e. other (sym port ∙ e)))
    ∙ ap (λ t. places_written (notes_by p before) ++ (places_written (if t then x.notes else []) ++ places_written (notes_by p after))) (sym (ne_eqb (port_of x) p other))
    ∙ sym (notes_split p before x after)
