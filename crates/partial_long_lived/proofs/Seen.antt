-- What a port knows of the history that it has seen.
use Rattle.partial_long_lived.proofs.Common.{ℕ, ◌≡◌, ◌≢◌, ◌+◌, ◌<◌, ◌≤◌, ◌==◌, ◌++◌, Bool, true, false, if◌then◌else◌, Option, Some, None, IfSome, List, [], ◌∷◌, length, refl, sym, ap, subst, ◌∙◌, arith, append_assoc, AllByRecursion, Applied, Opening, Call, Answer, Note, HaveDistinctStamps, IsHistory, IsTrueOf, LegalNotes, Noted, place_of, seen_after, EachOnce, places_by, places_written, wrote, all_append, all_front, place_below, LegalNotes-grows, history_of, public_log, Port, Beside, LawfulMemory, one_history, epochs_fit_one_history, public_stamps_are_unique, history_grows, history_longer, About, IsSeen, plan_of, Knows, seen_in, BeginsWith, HasStampsInWords, initial_stamp, first_free, IsEpochHistory, places_both, present_history, stamp_limit, HasRecordStamps}
use Rattle.partial_core.proofs.Parts.{all_at}

distinct_front : (h rest : List Applied) → HaveDistinctStamps (h ++ rest) → HaveDistinctStamps h
distinct_front [] rest w = tt
distinct_front (a ∷ h) rest w = (all_front (λ (f : Applied). a.stamp ≢ f.stamp) h rest w.0, distinct_front h rest w.1)

-- a beginning of a history is a history
pub begin_history : (o : Opening) (h rest : List Applied) → IsHistory o (h ++ rest) → IsHistory o h
begin_history o h rest w = record {
  components = all_front (λ (e : Applied). e.component < length o.values) h rest w.components;
  distinct = distinct_front h rest w.distinct;
  not_initial = all_front (λ (e : Applied). (j : ℕ) → j < length o.values → e.stamp ≢ initial_stamp o j) h rest w.not_initial;
}

-- what is written stands within a history in which the notes are legal
written_true : (o : Opening) (h : List Applied) (p : ℕ) (c : Call) (a : Answer) (n : Note) → IsTrueOf o h p c a n → AllByRecursion (λ k. k < length h) (wrote (Some n))
written_true o h p (Call.Update j v) (Answer.Applied s) (Note.Wrote k) w = (place_below h k _ w, tt)
written_true o h p (Call.Update j v) (Answer.Lost by) (Note.Lost k) w = tt
written_true o h p (Call.Scan js) (Answer.Scanned vs c b) (Note.Saw n) w = tt
written_true o h p (Call.Read j) (Answer.Read v s) (Note.Saw n) w = tt
written_true o h p (Call.UpdateIf j x v) (Answer.Applied s) (Note.Wrote k) w = (place_below h k _ w.0, tt)
written_true o h p (Call.UpdateIf j x v) (Answer.Changed t) (Note.Saw n) w = tt
written_true o h p _ _ _ w = absurd w

written_within : (o : Opening) (h : List Applied) (p seen : ℕ) (ns : List Noted) → LegalNotes o h p seen ns → AllByRecursion (λ k. k < length h) (places_written ns)
written_within o h p seen [] w = tt
written_within o h p seen (n ∷ ns) w = all_append (λ k. k < length h) (wrote n.note) (places_written ns) (by n.note w.0.1) (written_within o h p (seen_after seen n.note) ns w.1)
  where
    by : (t : Option Note) → IfSome t (λ m. IsTrueOf o h p n.call n.answer m × (seen ≤ place_of m)) → AllByRecursion (λ k. k < length h) (wrote t)
    by None legal = tt
    by (Some m) legal = written_true o h p n.call n.answer m legal.0

-- the last of a front and a place after it is one of the places
last_of : (n : ℕ) (front rest : List ℕ) (x : ℕ) (ps : List ℕ) → front ++ x ∷ rest ≡ ps → AllByRecursion (λ i. i < n) ps → x < n
last_of n [] rest x [] is all = let bad : x ∷ rest ≡ [] = is in absurd cc
last_of n [] rest x (y ∷ ps) is all = let same : x ≡ y = cc in let low = all.0 in omega (arith, same, low)
last_of n (f ∷ front) rest x [] is all = let bad : f ∷ (front ++ x ∷ rest) ≡ [] = is in absurd cc
last_of n (f ∷ front) rest x (y ∷ ps) is all = let same : front ++ x ∷ rest ≡ ps = cc in last_of n front rest x ps same all.1

-- no place below n is one of those from n on
places_from : (p k : ℕ) (h : List Applied) (places : List ℕ) (n : ℕ) → n ≤ k → (front : List ℕ) → front ++ places_by p k h ≡ places → AllByRecursion (λ i. i < n) places → places_by p k h ≡ []
places_from p k [] places n low front is all = refl
places_from p k (a ∷ h) places n low front is all = by (a.port == p) refl (λ same. places_from p (k + 1) h places n (omega (arith, low)) front same all)
  where
    by : (b : Bool) → (a.port == p) ≡ b → (front ++ places_by p (k + 1) h ≡ places → places_by p (k + 1) h ≡ []) → places_by p k (a ∷ h) ≡ []
    by true t rest =
        let here : places_by p k (a ∷ h) ≡ k ∷ places_by p (k + 1) h = ap (λ c. if c then k ∷ places_by p (k + 1) h else places_by p (k + 1) h) t in
        let less = last_of n front (places_by p (k + 1) h) k places (ap (λ l. front ++ l) (sym here) ∙ is) all in
        absurd (omega (arith, less, low))
    by false t rest =
        let here : places_by p k (a ∷ h) ≡ places_by p (k + 1) h = ap (λ c. if c then k ∷ places_by p (k + 1) h else places_by p (k + 1) h) t in
        here ∙ rest (ap (λ l. front ++ l) (sym here) ∙ is)

-- the entries of a port in a beginning of the history are those of its notes, where the notes are legal there
once_front : (o : Opening) (h rest : List Applied) (p : ℕ) (ns : List Noted) → LegalNotes o h p 0 ns → EachOnce (h ++ rest) p ns → EachOnce h p ns
once_front o h rest p ns legal once =
    let zero_on : 0 + length h ≡ length h = omega arith in
    let both : places_by p 0 h ++ places_by p (length h) rest ≡ places_written ns = ap (λ n. places_by p 0 h ++ places_by p n rest) (sym zero_on) ∙ sym (places_both p 0 h rest) ∙ once in
    let none = places_from p (length h) rest (places_written ns) (length h) (omega arith) (places_by p 0 h) both (written_within o h p 0 ns legal) in
    sym (nothing (places_by p 0 h)) ∙ ap (λ l. places_by p 0 h ++ l) (sym none) ∙ both
  where
    nothing : (l : List ℕ) → l ++ [] ≡ l
    nothing [] = refl
    nothing (x ∷ l) = ap (λ t. x ∷ t) (nothing l)

-- what a port has seen is a beginning of the one history
pub seen_begins : (b : Beside) (p : Port) → IsSeen b p → (later : List (List Applied)) (log : List Applied) → b.log ∷ b.before ≡ later ++ log ∷ p.before → BeginsWith (seen_in p) (one_history b)
seen_begins b p seen later log is =
    let s = seen later log is in
    let g = history_grows later (log ∷ p.before) in (
      public_log (length p.before) s.0 ++ g.0,
      ap history_of is ∙ g.1 ∙ ap (λ (l : List Applied). l ++ g.0) (ap (λ (l : List Applied). history_of (l ∷ p.before)) s.1 ∙ history_longer p.part.seen s.0 p.before)
          ∙ append_assoc (seen_in p) (public_log (length p.before) s.0) g.0,
    )

-- so the port knows it, if its notes are legal there
pub knows_of : (about : About) (words : List ℕ) (ports : ℕ → Port) (b : Beside) (notes : ℕ → List Noted) → LawfulMemory (plan_of about) words ports b notes → (k : ℕ) → k < about.ports →
    (h : List Applied) → BeginsWith h (one_history b) → LegalNotes about.opening h k 0 (notes k) → Knows about k h (notes k)
knows_of about words ports b notes w k below h begins legal =
    let f = epochs_fit_one_history (plan_of about) words ports b notes w in
    record {
      history = begin_history about.opening h begins.0 (subst (IsHistory about.opening) begins.1 f.history);
      legal = legal;
      once = once_front about.opening h begins.0 k (notes k) legal (subst (λ (l : List Applied). EachOnce l k (notes k)) begins.1 (f.once k below));
      others = all_front (λ (a : Applied). a.port < about.ports) h begins.0 (subst (AllByRecursion (λ (a : Applied). a.port < about.ports)) begins.1 f.by_ports);
    }

-- and its stamps fit words
pub fits_of : (about : About) (words : List ℕ) (ports : ℕ → Port) (b : Beside) (notes : ℕ → List Noted) → LawfulMemory (plan_of about) words ports b notes →
    (h : List Applied) → BeginsWith h (one_history b) → HasStampsInWords h
fits_of about words ports b notes w h begins = record {
  each = all_front (λ (a : Applied). a.stamp < 18446744073709551616) h begins.0
      (subst (AllByRecursion (λ (a : Applied). a.stamp < 18446744073709551616)) begins.1 (public_stamps_are_unique (plan_of about) words ports b notes w).fits);
}

-- and those of its epoch are stamps of records
pub own_of : (about : About) (words : List ℕ) (ports : ℕ → Port) (b : Beside) (notes : ℕ → List Noted) → LawfulMemory (plan_of about) words ports b notes →
    (p : Port) → IsSeen b p → (later : List (List Applied)) (log : List Applied) → b.log ∷ b.before ≡ later ++ log ∷ p.before → HasRecordStamps about.sizes p.part.seen
own_of about words ports b notes w p seen later log is =
    let s = seen later log is in
    let h = all_at (IsEpochHistory (plan_of about)) later log p.before
    (subst (AllByRecursion (IsEpochHistory (plan_of about))) is (present_history (plan_of about) words ports b w.epochs, w.noted.finished)) in
    record {
      above = all_front (λ (e : Applied). first_free about.sizes ≤ e.stamp) p.part.seen s.0 (subst (AllByRecursion (λ (e : Applied). first_free about.sizes ≤ e.stamp)) s.1 h.above);
      below = all_front (λ (e : Applied). e.stamp < stamp_limit) p.part.seen s.0 (subst (AllByRecursion (λ (e : Applied). e.stamp < stamp_limit)) s.1 h.below);
    }

pub legal_begins : (o : Opening) (h l : List Applied) (k n : ℕ) (ns : List Noted) → BeginsWith h l → LegalNotes o h k n ns → LegalNotes o l k n ns
legal_begins o h l k n ns begins w = subst (λ (t : List Applied). LegalNotes o t k n ns) (sym begins.1) (LegalNotes-grows o h begins.0 k n ns w)
