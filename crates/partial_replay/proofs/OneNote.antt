-- A finished call has one note: the entry with its stamp, or the least prefix that shows its answer.
use Rattle.partial_replay.proofs.Common.{ℕ, ◌≡◌, ◌<◌, ◌≤◌, List, [], ◌∷◌, length, take, Option, Some, None, IfSome, slice_get, refl, sym, ◌∙◌, ap, subst, inl, inr, arith, AllByRecursion, filter_map, cons_option, option_map, cases_lt, Applied, Opening, Call, Answer, Refused, Note, Called, Finish, HaveDistinctStamps, Noted, Fits, IsTrueOf, IsLegal, LegalNotes, seen_after, shown_by, place_of, noted_of, IsInTime, Shows, IsLeastFrom, HasLeastPlace}
use Rattle.partial_model.proofs.StampsStay.{distinct_at}

-- the note is right for a call of port p that began when the history had so many entries
pub record IsRightNote (o : Opening) (h : List Applied) (p began : ℕ) (c : Call) (a : Answer) (note : Option Note) : Type 0 where
  pub fits : Fits (length o.values) c a note
  pub is : IfSome note (IsTrueOf o h p c a)
  pub behind : IfSome note (λ n. began ≤ place_of n)
  pub least : IfSome note (IsLeastFrom o h began c a)

-- no stamp is that of two places
same_place : (h : List Applied) (k i : ℕ) (e f : Applied) → HaveDistinctStamps h → slice_get h k ≡ Some e → slice_get h i ≡ Some f → e.stamp ≡ f.stamp → k ≡ i
same_place h k i e f distinct a b same = elim (cases_lt k i) [
  | inl less ↦ absurd (distinct_at h k i e f distinct a b less same)
  | inr from ↦ elim (cases_lt i k) [
    | inl less ↦ absurd (distinct_at h i k f e distinct b a less (sym same))
    | inr back ↦ omega (arith, from, back)
  ]
]

-- one number is the least from another on
same_least : (P : ℕ → Type 0) (began n m : ℕ) → began ≤ n → began ≤ m → P n → P m → ((i : ℕ) → began ≤ i → i < n → P i → ⊥) → ((i : ℕ) → began ≤ i → i < m → P i → ⊥) → n ≡ m
same_least P began n m from from' at at' least least' = elim (cases_lt n m) [
  | inl less ↦ absurd (least' n from less at)
  | inr back ↦ elim (cases_lt m n) [
    | inl less ↦ absurd (least m from' less at')
    | inr forth ↦ omega (arith, back, forth)
  ]
]

-- only a refused call has no note
unnoted : (m : ℕ) (c : Call) (a : Answer) → Fits m c a None → (cause : Refused) × (a ≡ Answer.Refused cause)
unnoted m c (Answer.Refused cause) fits = (cause, refl)
unnoted m (Call.Update j v) _ fits = absurd fits
unnoted m (Call.Scan js) _ fits = absurd fits
unnoted m (Call.Read j) _ fits = absurd fits
unnoted m (Call.UpdateIf j x v) _ fits = absurd fits

noted_unrefused : (m : ℕ) (c : Call) (cause : Refused) (n : Note) → Fits m c (Answer.Refused cause) (Some n) → ⊥
noted_unrefused m _ cause n fits = absurd fits

module _ (o : Opening) (h : List Applied) (p began : ℕ) (distinct : HaveDistinctStamps h) where
  abbrev Right : Call → Answer → Note → Type 0
  Right c a n = IsRightNote o h p began c a (Some n)

  applied_same : (j v s : ℕ) (n m : Note) → Right (Call.Update j v) (Answer.Applied s) n → Right (Call.Update j v) (Answer.Applied s) m → n ≡ m
  applied_same j v s (Note.Wrote k) (Note.Wrote i) a b = ap Note.Wrote (same_place h k i _ _ distinct a.is b.is refl)
  applied_same j v s (Note.Wrote k) _ a b = absurd b.fits
  applied_same j v s _ m a b = absurd a.fits

  lost_same : (j v by : ℕ) (n m : Note) → Right (Call.Update j v) (Answer.Lost by) n → Right (Call.Update j v) (Answer.Lost by) m → n ≡ m
  lost_same j v by (Note.Lost k) (Note.Lost i) a b = ap Note.Lost (same_place h k i (a.is.0) (b.is.0) distinct a.is.1 b.is.1 (a.is.3 ∙ sym b.is.3))
  lost_same j v by (Note.Lost k) _ a b = absurd b.fits
  lost_same j v by _ m a b = absurd a.fits

  changes_same : (j x v s : ℕ) (n m : Note) → Right (Call.UpdateIf j x v) (Answer.Applied s) n → Right (Call.UpdateIf j x v) (Answer.Applied s) m → n ≡ m
  changes_same j x v s (Note.Wrote k) (Note.Wrote i) a b = ap Note.Wrote (same_place h k i _ _ distinct a.is.0 b.is.0 refl)
  changes_same j x v s (Note.Wrote k) _ a b = absurd b.fits
  changes_same j x v s _ m a b = absurd a.fits

  scanned_same : (js vs : List ℕ) (c : ℕ) (w : Option ℕ) (n m : Note) → Right (Call.Scan js) (Answer.Scanned vs c w) n → Right (Call.Scan js) (Answer.Scanned vs c w) m → n ≡ m
  scanned_same js vs c w (Note.Saw n) (Note.Saw m) a b = ap Note.Saw (same_least (λ i. Shows o (take i h) (Call.Scan js) (Answer.Scanned vs c w)) began n m a.behind b.behind a.is.values
      b.is.values a.least b.least)
  scanned_same js vs c w (Note.Saw n) _ a b = absurd b.fits
  scanned_same js vs c w _ m a b = absurd a.fits

  read_same : (j v s : ℕ) (n m : Note) → Right (Call.Read j) (Answer.Read v s) n → Right (Call.Read j) (Answer.Read v s) m → n ≡ m
  read_same j v s (Note.Saw n) (Note.Saw m) a b = ap Note.Saw (same_least (λ i. Shows o (take i h) (Call.Read j) (Answer.Read v s)) began n m a.behind b.behind (a.is.1, a.is.2)
      (b.is.1, b.is.2) a.least b.least)
  read_same j v s (Note.Saw n) _ a b = absurd b.fits
  read_same j v s _ m a b = absurd a.fits

  changed_same : (j x v t : ℕ) (n m : Note) → Right (Call.UpdateIf j x v) (Answer.Changed t) n → Right (Call.UpdateIf j x v) (Answer.Changed t) m → n ≡ m
  changed_same j x v t (Note.Saw n) (Note.Saw m) a b = ap Note.Saw (same_least (λ i. Shows o (take i h) (Call.UpdateIf j x v) (Answer.Changed t)) began n m a.behind b.behind a.is.1
      b.is.1 a.least b.least)
  changed_same j x v t (Note.Saw n) _ a b = absurd b.fits
  changed_same j x v t _ m a b = absurd a.fits

  some_same : (c : Call) (a : Answer) (n m : Note) → Right c a n → Right c a m → n ≡ m
  some_same (Call.Update j v) (Answer.Applied s) n m a b = applied_same j v s n m a b
  some_same (Call.Update j v) (Answer.Lost by) n m a b = lost_same j v by n m a b
  some_same (Call.Scan js) (Answer.Scanned vs c w) n m a b = scanned_same js vs c w n m a b
  some_same (Call.Read j) (Answer.Read v s) n m a b = read_same j v s n m a b
  some_same (Call.UpdateIf j x v) (Answer.Applied s) n m a b = changes_same j x v s n m a b
  some_same (Call.UpdateIf j x v) (Answer.Changed t) n m a b = changed_same j x v t n m a b
  some_same _ _ n m a b = absurd a.fits

  -- two right notes of one answer are the same
  pub notes_same : (c : Call) (a : Answer) (n m : Option Note) → IsRightNote o h p began c a n → IsRightNote o h p began c a m → n ≡ m
  notes_same c a None None x y = refl
  notes_same c a None (Some m) x y = let r = unnoted (length o.values) c a x.fits in absurd
      (noted_unrefused (length o.values) c (r.0) m (subst (λ (b : Answer). Fits (length o.values) c b (Some m)) r.1 y.fits))
  notes_same c a (Some n) None x y = let r = unnoted (length o.values) c a y.fits in absurd
      (noted_unrefused (length o.values) c (r.0) n (subst (λ (b : Answer). Fits (length o.values) c b (Some n)) r.1 x.fits))
  notes_same c a (Some n) (Some m) x y = ap Some (some_same c a n m x y)

-- each finished call of a port has a right note
abbrev pub AreRight : Opening → List Applied → ℕ → List Called → Type 0
AreRight o h p cs = AllByRecursion (λ c. IfSome c.finish (λ f. IsRightNote o h p c.began c.call f.answer f.note)) cs

right_note : (o : Opening) (h : List Applied) (p seen began : ℕ) (c : Call) (f : Finish) → IsLegal o h p seen (record { call = c; answer = f.answer; note = f.note }) →
    IfSome f.note (λ n. began ≤ place_of n) → IfSome f.note (IsLeastFrom o h began c f.answer) → IsRightNote o h p began c f.answer f.note
right_note o h p seen began c f legal behind least = record { fits = legal.0; is = of f.note legal.1; behind = behind; least = least }
  where
    of : (n : Option Note) → IfSome n (λ note. IsTrueOf o h p c f.answer note × (seen ≤ place_of note)) → IfSome n (IsTrueOf o h p c f.answer)
    of None w = tt
    of (Some n) w = w.0

in_time : (n began : ℕ) (f : Option Finish) → IfSome f (λ g. (began ≤ g.ended) × (g.ended ≤ n) × IfSome g.note (λ note. (began ≤ place_of note) × (shown_by note ≤ g.ended))) →
    IfSome f (λ g. IfSome g.note (λ m. began ≤ place_of m))
in_time n began None w = tt
in_time n began (Some g) w = of g.note w.2
  where
    of : (m : Option Note) → IfSome m (λ note. (began ≤ place_of note) × (shown_by note ≤ g.ended)) → IfSome m (λ k. began ≤ place_of k)
    of None v = tt
    of (Some k) v = v.0

first_right : (o : Opening) (h : List Applied) (p seen began : ℕ) (c : Call) (f : Option Finish) (rest : List Noted) (R : Type 0) → ((seen' : ℕ) → LegalNotes o h p seen' rest → R) →
    LegalNotes o h p seen (cons_option (option_map (λ (g : Finish). record { call = c; answer = g.answer; note = g.note }) f) rest) → IfSome f (λ g. IfSome g.note (λ n. began ≤ place_of n)) →
    IfSome f (λ g. IfSome g.note (IsLeastFrom o h began c g.answer)) →
    IfSome f (λ g. IsRightNote o h p began c g.answer g.note) × R
first_right o h p seen began c None rest R more w behind few = (tt, more seen w)
first_right o h p seen began c (Some f) rest R more w behind few = (right_note o h p seen began c f w.0 behind few, more (seen_after seen f.note) w.1)

pub notes_right : (o : Opening) (h : List Applied) (p seen : ℕ) (cs : List Called) → LegalNotes o h p seen (filter_map noted_of cs) → AllByRecursion (IsInTime (length h)) cs →
    AllByRecursion (HasLeastPlace o h) cs → AreRight o h p cs
notes_right o h p seen [] legal time least = tt
notes_right o h p seen (c ∷ cs) legal time least =
    first_right o h p seen c.began c.call c.finish (filter_map noted_of cs) (AreRight o h p cs) (λ seen' w. notes_right o h p seen' cs w time.1 least.1) legal
    (in_time (length h) c.began c.finish time.0.1) least.0
