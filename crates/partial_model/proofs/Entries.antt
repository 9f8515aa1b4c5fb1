-- The entries of a port in a history are the updates of its notes; and what holds of its places and entries.
use Rattle.partial_model.proofs.{Common.{ℕ, zero, suc, ◌≡◌, ◌+◌, ◌==◌, ◌++◌, Bool, true, false, if◌then◌else◌, List, [], ◌∷◌, map, slice_index_or, refl, sym, ◌∙◌, ap, subst, Option, Some, None, slice_get, arith, ◌≤◌, Contains, AllByRecursion, get_or_from_slice_get, eq-eqb, eqb-true, Applied, Opening, Call, Answer, Note, Noted, IsTrueOf, IsLegal, LegalNotes, seen_after, wrote, places_by, places_written, EachOnce, EntriesAreNoted, entries_by, entry_of, applied_by, All-contains, All-contains_itself, All-from_recursion, recursion_from_All}, AllLemmas.all_weaker}

-- the function f gives the entry at each place of the list, whose first entry stands at place k
abbrev pub GivesEntries : (ℕ → Applied) → ℕ → List Applied → Type 0
GivesEntries f k t = (i : ℕ) (e : Applied) → slice_get t i ≡ Some e → f (k + i) ≡ e

keep : (b : Bool) (f : ℕ → Applied) (k : ℕ) (e : Applied) (es : List Applied) (ks : List ℕ) → f k ≡ e → es ≡ map f ks → (if b then e ∷ es else es) ≡ map f (if b then k ∷ ks else ks)
keep true f k e es ks x y = cc
keep false f k e es ks x y = y

at_places : (p k : ℕ) (f : ℕ → Applied) (t : List Applied) → GivesEntries f k t → entries_by p t ≡ map f (places_by p k t)
at_places p k f [] at = refl
at_places p k f (e ∷ t) at =
    let plus : k ≡ k + 0 = omega arith in
    let rest : GivesEntries f (k + 1) t = λ i x s. next f k i x (at (suc i) x s) in
    keep (e.port == p) f k e (entries_by p t) (places_by p (k + 1) t) (ap f plus ∙ at 0 e refl) (at_places p (k + 1) f t rest)
  where
    next : (f : ℕ → Applied) (k i : ℕ) (x : Applied) → f (k + suc i) ≡ x → f (k + 1 + i) ≡ x
    next f k i x e = let same : k + 1 + i ≡ k + suc i = omega arith in ap f same ∙ e

map_both : (f : ℕ → Applied) (a : List Applied) (ks : List ℕ) (b : List Applied) (ls : List ℕ) → a ≡ map f ks → b ≡ map f ls → a ++ b ≡ map f (ks ++ ls)
map_both f a [] b ls x y = ap (λ (l : List Applied). l ++ b) x ∙ y
map_both f a (k ∷ ks) b ls x y = ap (λ (l : List Applied). l ++ b) x ∙ ap (λ (l : List Applied). f k ∷ l) (map_both f (map f ks) ks b ls refl y)

module _ (o : Opening) (h : List Applied) (p : ℕ) (f : ℕ → Applied) (at : (i : ℕ) (e : Applied) → slice_get h i ≡ Some e → f i ≡ e) where
  one_entry : (c : Call) (a : Answer) (n : Note) → IsTrueOf o h p c a n → entry_of p (Some n) c a ≡ map f (wrote (Some n))
  one_entry (Call.Update j v) (Answer.Applied s) (Note.Wrote k) w = ap (λ (e : Applied). e ∷ []) (sym (at k (record { port = p; component = j; value = v; stamp = s }) w))
  one_entry (Call.UpdateIf j x v) (Answer.Applied s) (Note.Wrote k) w = ap (λ (e : Applied). e ∷ []) (sym (at k (record { port = p; component = j; value = v; stamp = s }) w.0))
  one_entry _ _ (Note.Lost k) w = refl
  one_entry _ _ (Note.Saw k) w = refl
  one_entry (Call.Scan js) (Answer.Scanned vs c b) (Note.Wrote k) w = absurd w
  one_entry (Call.Read j) (Answer.Read v s) (Note.Wrote k) w = absurd w
  one_entry _ _ (Note.Wrote k) w = absurd w

  note_entry : (seen : ℕ) (c : Call) (a : Answer) (n : Option Note) → IsLegal o h p seen (record { call = c; answer = a; note = n }) → entry_of p n c a ≡ map f (wrote n)
  note_entry seen c a None w = refl
  note_entry seen c a (Some n) w = one_entry c a n w.1.0

  noted_places : (seen : ℕ) (ns : List Noted) → LegalNotes o h p seen ns → applied_by p ns ≡ map f (places_written ns)
  noted_places seen [] w = refl
  noted_places seen (n ∷ ns) w =
      let rest = noted_places (seen_after seen n.note) ns w.1 in
      map_both f (entry_of p n.note n.call n.answer) (wrote n.note) (applied_by p ns) (places_written ns) (note_entry seen n.call n.answer n.note w.0) rest

pub entries_are_noted : EntriesAreNoted
entries_are_noted o h p ns legal once =
    let none : Applied = record { port = 0; component = 0; value = 0; stamp = 0 } in
    let f : ℕ → Applied = λ i. slice_index_or h i none in
    let at : (i : ℕ) (e : Applied) → slice_get h i ≡ Some e → f i ≡ e = λ i e s. get_or_from_slice_get h i e none s in
    at_places p 0 f h (λ i e s. from_zero f i e (at i e s)) ∙ ap (map f) once ∙ sym (noted_places o h p f at 0 ns legal)
  where
    from_zero : (f : ℕ → Applied) (i : ℕ) (e : Applied) → f i ≡ e → f (0 + i) ≡ e
    from_zero f i e s = let same : 0 + i ≡ i = omega arith in ap f same ∙ s

-- the head and the tail of a list whose head may be left out
module _ {A : Type 0} (P : A → Type 0) where
  tail_holds : (b : Bool) (x : A) (xs : List A) → AllByRecursion P (if b then x ∷ xs else xs) → AllByRecursion P xs
  tail_holds true x xs w = w.1
  tail_holds false x xs w = w

  head_holds : (b : Bool) (x : A) (xs : List A) → b ≡ true → AllByRecursion P (if b then x ∷ xs else xs) → P x
  head_holds true x xs is w = w.0
  head_holds false x xs is w = absurd cc

is_by : (x e : Applied) (p : ℕ) → x ≡ e → e.port ≡ p → (x.port == p) ≡ true
is_by x e p same by = eq-eqb x.port p (ap (λ (y : Applied). y.port) same ∙ by)

-- what holds at each place of a port's entries holds where one of them stands
place_holds : (P : ℕ → Type 0) (p k : ℕ) (t : List Applied) (i : ℕ) (e : Applied) → AllByRecursion P (places_by p k t) → slice_get t i ≡ Some e → e.port ≡ p → P (k + i)
place_holds P p k [] i e w s by = let bad : None ≡ Some e = s in cc
place_holds P p k (x ∷ t) zero e w s by =
    let same : x ≡ e = cc in
    let plus : k ≡ k + 0 = omega arith in
    subst P plus (head_holds P (x.port == p) k (places_by p (k + 1) t) (is_by x e p same by) w)
place_holds P p k (x ∷ t) (suc i) e w s by =
    let plus : k + 1 + i ≡ k + suc i = omega arith in
    subst P plus (place_holds P p (k + 1) t i e (tail_holds P (x.port == p) k (places_by p (k + 1) t) w) s by)

pub noted_at : (P : ℕ → Type 0) (h : List Applied) (p : ℕ) (ns : List Noted) (i : ℕ) (e : Applied) → EachOnce h p ns → AllByRecursion P (places_written ns) → slice_get h i ≡ Some e → e.port ≡ p → P i
noted_at P h p ns i e once w s by =
    let plus : 0 + i ≡ i = omega arith in
    subst P plus (place_holds P p 0 h i e (subst (AllByRecursion P) (sym once) w) s by)

-- what holds of each of a port's entries holds of one of them
pub entry_holds : (Q : Applied → Type 0) (p : ℕ) (t : List Applied) (i : ℕ) (e : Applied) → AllByRecursion Q (entries_by p t) → slice_get t i ≡ Some e → e.port ≡ p → Q e
entry_holds Q p [] i e w s by = let bad : None ≡ Some e = s in cc
entry_holds Q p (x ∷ t) zero e w s by =
    let same : x ≡ e = cc in
    subst Q same (head_holds Q (x.port == p) x (entries_by p t) (is_by x e p same by) w)
entry_holds Q p (x ∷ t) (suc i) e w s by = entry_holds Q p t i e (tail_holds Q (x.port == p) x (entries_by p t) w) s by

-- a port's entry stands where its notes claim one, and only there
pub written_at : (h : List Applied) (p : ℕ) (ns : List Noted) (k : ℕ) (e : Applied) → EachOnce h p ns → slice_get h k ≡ Some e → e.port ≡ p → Contains (places_written ns) k
written_at h p ns k e once s by =
    let P : ℕ → Type 0 = Contains (places_written ns) in
    noted_at P h p ns k e once (recursion_from_All P (places_written ns) (All-contains_itself (places_written ns))) s by

-- an entry at place n of a list whose first entry stands at place k is by port p
abbrev pub IsPlaceOf : ℕ → ℕ → List Applied → ℕ → Type 0
IsPlaceOf p k t n = (k ≤ n) × ((i : ℕ) (e : Applied) → n ≡ k + i → slice_get t i ≡ Some e → e.port ≡ p)

join_holds : (P : ℕ → Type 0) (b : Bool) (k : ℕ) (ks : List ℕ) → (b ≡ true → P k) → AllByRecursion P ks → AllByRecursion P (if b then k ∷ ks else ks)
join_holds P true k ks here rest = (here refl, rest)
join_holds P false k ks here rest = rest

are_places : (p k : ℕ) (t : List Applied) → AllByRecursion (IsPlaceOf p k t) (places_by p k t)
are_places p k [] = tt
are_places p k (x ∷ t) =
    join_holds (IsPlaceOf p k (x ∷ t)) (x.port == p) k (places_by p (k + 1) t) (λ is. (omega arith, first (eqb-true x.port p is)))
    (all_weaker (IsPlaceOf p (k + 1) t) (IsPlaceOf p k (x ∷ t)) (λ n w. (further n w.0, later n w)) (places_by p (k + 1) t) (are_places p (k + 1) t))
  where
    further : (n : ℕ) → k + 1 ≤ n → k ≤ n
    further n w = omega arith

    first : x.port ≡ p → (i : ℕ) (e : Applied) → k ≡ k + i → slice_get (x ∷ t) i ≡ Some e → e.port ≡ p
    first by zero e at s = let same : x ≡ e = cc in ap (λ (y : Applied). y.port) (sym same) ∙ by
    first by (suc i) e at s = absurd (omega arith)

    later : (n : ℕ) → IsPlaceOf p (k + 1) t n → (i : ℕ) (e : Applied) → n ≡ k + i → slice_get (x ∷ t) i ≡ Some e → e.port ≡ p
    later n w zero e at s = let past = w.0 in absurd (omega arith)
    later n w (suc i) e at s = w.1 i e (omega arith) s

pub written_by : (h : List Applied) (p : ℕ) (ns : List Noted) (k : ℕ) (e : Applied) → EachOnce h p ns → Contains (places_written ns) k → slice_get h k ≡ Some e → e.port ≡ p
written_by h p ns k e once wrote s =
    let all = subst (AllByRecursion (IsPlaceOf p 0 h)) once (are_places p 0 h) in
    let at = All-contains (IsPlaceOf p 0 h) (places_written ns) k (All-from_recursion (IsPlaceOf p 0 h) (places_written ns) all) wrote in
    at.1 k e (omega arith) s
