-- What a longer history and one note more leave of a port's notes.
use Rattle.partial_model.proofs.{Common.{ℕ, zero, suc, ◌≡◌, ◌≢◌, ◌+◌, ◌≤◌, ◌==◌, ◌++◌, Bool, true, false, if◌then◌else◌, List, [], ◌∷◌, length, map, refl, sym, ◌∙◌, ap, subst, Option, Some, None, slice_get, IfSome, Contains, arith, append_assoc, append-nil, AllByRecursion, take-append-le, Applied, Opening, Call, Answer, Note, HaveDistinctStamps, value_of, stamp_of, Noted, IsEntryFor, IsTrueOf, IsLegal, LegalNotes, LegalNotesAreShown, seen_after, seen_by, place_of, shown_by, wrote, places_by, places_written, length-append}, HistoryLemmas.place_below}
pub use Rattle.partial_model.proofs.AllLemmas.{all_append as AllByRecursion-append, all_weaker as AllByRecursion-weaker}

-- an entry stays where it stands
pub slice_get_grows : {A : Type 0} (h es : List A) (k : ℕ) (e : A) → slice_get h k ≡ Some e → slice_get (h ++ es) k ≡ Some e
slice_get_grows [] es k e s = let bad : None ≡ Some e = s in cc
slice_get_grows (x ∷ h) es zero e s = s
slice_get_grows (x ∷ h) es (suc k) e s = slice_get_grows h es k e s

pub slice_get_last : {A : Type 0} (h : List A) (e : A) → slice_get (h ++ e ∷ []) (length h) ≡ Some e
slice_get_last [] e = refl
slice_get_last (x ∷ h) e = slice_get_last h e

place_within : {A : Type 0} (h : List A) (k : ℕ) (e : A) → slice_get h k ≡ Some e → k ≤ length h
place_within h k e s = let below = place_below h k e s in omega arith

entry_grows : (h es : List Applied) (k j t : ℕ) → IsEntryFor h k j t → IsEntryFor (h ++ es) k j t
entry_grows h es k j t w = (w.0, slice_get_grows h es k w.0 w.1, w.2, w.3)

within_grows : (h es : List Applied) (n : ℕ) → n ≤ length h → n ≤ length (h ++ es)
within_grows h es n w = omega (arith, length-append h es)

borrowed_grows : (h es : List Applied) (js : List ℕ) (n : ℕ) (b : Option ℕ) → IfSome b (λ t. (k j : ℕ) × (n ≤ k) × Contains js j × IsEntryFor h k j t) →
    IfSome b (λ t. (k j : ℕ) × (n ≤ k) × Contains js j × IsEntryFor (h ++ es) k j t)
borrowed_grows h es js n None w = w
borrowed_grows h es js n (Some t) w = (w.0, w.1, w.2, w.3, entry_grows h es w.0 w.1 t w.4)

-- what is true of a history is true of a longer one
pub IsTrueOf-grows : (o : Opening) (h es : List Applied) (p : ℕ) (c : Call) (a : Answer) (n : Note) → IsTrueOf o h p c a n → IsTrueOf o (h ++ es) p c a n
IsTrueOf-grows o h es p (Call.Update j v) (Answer.Applied s) (Note.Wrote k) w = slice_get_grows h es k (record { port = p; component = j; value = v; stamp = s }) w
IsTrueOf-grows o h es p (Call.Update j v) (Answer.Lost by) (Note.Lost k) w = entry_grows h es k j by w
IsTrueOf-grows o h es p (Call.Scan js) (Answer.Scanned vs c b) (Note.Saw n) w =
    record {
      within = within_grows h es n w.within;
      values = w.values ∙ ap (λ (k : List Applied). map (λ j. value_of o k j) js) (sym (take-append-le n h es w.within));
      collects = w.collects;
      borrowed = borrowed_grows h es js n b w.borrowed;
    }
IsTrueOf-grows o h es p (Call.Read j) (Answer.Read v s) (Note.Saw n) w =
    (within_grows h es n w.0, w.1 ∙ ap (λ (k : List Applied). value_of o k j) (sym (take-append-le n h es w.0)), w.2 ∙ ap (λ (k : List Applied). stamp_of o k j) (sym (take-append-le n h es w.0)))
IsTrueOf-grows o h es p (Call.UpdateIf j x v) (Answer.Applied s) (Note.Wrote k) w = (
  slice_get_grows h es k (record { port = p; component = j; value = v; stamp = s }) w.0,
  ap (λ (l : List Applied). stamp_of o l j)
      (take-append-le k h es (place_within h k (record { port = p; component = j; value = v; stamp = s }) w.0)) ∙ w.1,
)
IsTrueOf-grows o h es p (Call.UpdateIf j x v) (Answer.Changed t) (Note.Saw n) w =
    (within_grows h es n w.0, ap (λ (k : List Applied). stamp_of o k j) (take-append-le n h es w.0) ∙ w.1, w.2)
IsTrueOf-grows o h es p _ _ _ w = absurd w

legal_note_grows : (o : Opening) (h es : List Applied) (p seen : ℕ) (c : Call) (a : Answer) (n : Option Note) → IfSome n (λ note. IsTrueOf o h p c a note × (seen ≤ place_of note)) →
    IfSome n (λ note. IsTrueOf o (h ++ es) p c a note × (seen ≤ place_of note))
legal_note_grows o h es p seen c a None w = w
legal_note_grows o h es p seen c a (Some n) w = (IsTrueOf-grows o h es p c a n w.0, w.1)

pub LegalNotes-grows : (o : Opening) (h es : List Applied) (p seen : ℕ) (ns : List Noted) → LegalNotes o h p seen ns → LegalNotes o (h ++ es) p seen ns
LegalNotes-grows o h es p seen [] w = w
LegalNotes-grows o h es p seen (n ∷ ns) w =
    ((w.0.0, legal_note_grows o h es p seen n.call n.answer n.note w.0.1), LegalNotes-grows o h es p (seen_after seen n.note) ns w.1)

pub seen_by-push : (seen : ℕ) (ns : List Noted) (n : Noted) → seen_by seen (ns ++ n ∷ []) ≡ seen_after (seen_by seen ns) n.note
seen_by-push seen [] n = refl
seen_by-push seen (x ∷ ns) n = seen_by-push (seen_after seen x.note) ns n

pub LegalNotes-push : (o : Opening) (h : List Applied) (p seen : ℕ) (ns : List Noted) (n : Noted) → LegalNotes o h p seen ns → IsLegal o h p (seen_by seen ns) n → LegalNotes o h p seen (ns ++ n ∷ [])
LegalNotes-push o h p seen [] n w legal = (legal, tt)
LegalNotes-push o h p seen (x ∷ ns) n w legal = (w.0, LegalNotes-push o h p (seen_after seen x.note) ns n w.1 legal)

-- the last of a port's notes
pub LegalNotes-last : (o : Opening) (h : List Applied) (p seen : ℕ) (ns : List Noted) (n : Noted) → LegalNotes o h p seen (ns ++ n ∷ []) → IsLegal o h p (seen_by seen ns) n
LegalNotes-last o h p seen [] n w = w.0
LegalNotes-last o h p seen (x ∷ ns) n w = LegalNotes-last o h p (seen_after seen x.note) ns n w.1

places_step : (p k : ℕ) (x : Applied) (all rest last : List ℕ) (b : Bool) → all ≡ rest ++ last → (if b then k ∷ all else all) ≡ (if b then k ∷ rest else rest) ++ last
places_step p k x all rest last true e = ap (λ (l : List ℕ). k ∷ l) e
places_step p k x all rest last false e = e

-- an entry more stands after a port's other places
pub places_by-push : (p k : ℕ) (h : List Applied) (e : Applied) → places_by p k (h ++ e ∷ []) ≡ places_by p k h ++ (if e.port == p then (k + length h) ∷ [] else [])
places_by-push p k [] e = ap (λ n. if e.port == p then n ∷ [] else []) (omega arith)
places_by-push p k (x ∷ h) e =
    let one : k + 1 + length h ≡ k + suc (length h) = omega arith in
    let rest : places_by p (k + 1) (h ++ e ∷ []) ≡ places_by p (k + 1) h ++ (if e.port == p then (k + suc (length h)) ∷ [] else []) =
    places_by-push p (k + 1) h e ∙ ap (λ n. places_by p (k + 1) h ++ (if e.port == p then n ∷ [] else [])) one in
    places_step p k x (places_by p (k + 1) (h ++ e ∷ [])) (places_by p (k + 1) h) (if e.port == p then (k + suc (length h)) ∷ [] else []) (x.port == p) rest

pub places_written-push : (ns : List Noted) (n : Noted) → places_written (ns ++ n ∷ []) ≡ places_written ns ++ wrote n.note
places_written-push [] n = append-nil (wrote n.note)
places_written-push (x ∷ ns) n = ap (λ (l : List ℕ). wrote x.note ++ l) (places_written-push ns n) ∙ sym (append_assoc (wrote x.note) (places_written ns) (wrote n.note))

pub places_written-append : (ms ns : List Noted) → places_written (ms ++ ns) ≡ places_written ms ++ places_written ns
places_written-append [] ns = refl
places_written-append (m ∷ ms) ns = ap (λ (l : List ℕ). wrote m.note ++ l) (places_written-append ms ns) ∙ sym (append_assoc (wrote m.note) (places_written ms) (places_written ns))

pub AllByRecursion-push : {A : Type 0} (P : A → Type 0) (xs : List A) (x : A) → AllByRecursion P xs → P x → AllByRecursion P (xs ++ x ∷ [])
AllByRecursion-push P [] x w p = (p, tt)
AllByRecursion-push P (y ∷ ys) x w p = (w.0, AllByRecursion-push P ys x w.1 p)

pub AllByRecursion-get : {A : Type 0} (P : A → Type 0) (xs : List A) (k : ℕ) (x : A) → AllByRecursion P xs → slice_get xs k ≡ Some x → P x
AllByRecursion-get P [] k x w s = let bad : None ≡ Some x = s in cc
AllByRecursion-get {A} P (y ∷ ys) zero x w s = let same : y ≡ x = cc in subst P same w.0
AllByRecursion-get P (y ∷ ys) (suc k) x w s = AllByRecursion-get P ys k x w.1 s

-- a stamp that no entry has may be added at the end
pub distinct_push : (h : List Applied) (e : Applied) → HaveDistinctStamps h → AllByRecursion (λ f. f.stamp ≢ e.stamp) h → HaveDistinctStamps (h ++ e ∷ [])
distinct_push [] e w new = (tt, tt)
distinct_push (x ∷ h) e w new = (AllByRecursion-push (λ f. x.stamp ≢ f.stamp) h e w.0 new.0, distinct_push h e w.1 new.1)

-- what is true of a history shows no more than it has
pub shown_within : (o : Opening) (h : List Applied) (p : ℕ) (c : Call) (a : Answer) (n : Note) → IsTrueOf o h p c a n → shown_by n ≤ length h
shown_within o h p (Call.Update j v) (Answer.Applied s) (Note.Wrote k) w = let below = place_below h k (record { port = p; component = j; value = v; stamp = s }) w in omega arith
shown_within o h p (Call.Update j v) (Answer.Lost by) (Note.Lost k) w = let below = place_below h k w.0 w.1 in omega arith
shown_within o h p (Call.Scan js) (Answer.Scanned vs c b) (Note.Saw n) w = w.within
shown_within o h p (Call.Read j) (Answer.Read v s) (Note.Saw n) w = w.0
shown_within o h p (Call.UpdateIf j x v) (Answer.Applied s) (Note.Wrote k) w = let below = place_below h k (record { port = p; component = j; value = v; stamp = s }) w.0 in omega arith
shown_within o h p (Call.UpdateIf j x v) (Answer.Changed t) (Note.Saw n) w = w.0
shown_within o h p _ _ _ w = absurd w

pub note_within : (o : Opening) (h : List Applied) (p seen : ℕ) (c : Call) (a : Answer) (n : Option Note) → seen ≤ length h → IfSome n (λ note. IsTrueOf o h p c a note × (seen ≤ place_of note)) →
    seen_after seen n ≤ length h
note_within o h p seen c a None less w = less
note_within o h p seen c a (Some n) less w = shown_within o h p c a n w.0

notes_within : (o : Opening) (h : List Applied) (p seen : ℕ) (ns : List Noted) → seen ≤ length h → LegalNotes o h p seen ns → seen_by seen ns ≤ length h
notes_within o h p seen [] less w = less
notes_within o h p seen (n ∷ ns) less w = notes_within o h p (seen_after seen n.note) ns (note_within o h p seen n.call n.answer n.note less w.0.1) w.1

pub legal_notes_are_shown : LegalNotesAreShown
legal_notes_are_shown o h p ns w = notes_within o h p 0 ns (omega arith) w
