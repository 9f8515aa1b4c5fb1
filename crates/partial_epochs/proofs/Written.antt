-- What a reply's note writes, and the places of a port's own entries.
use Rattle.partial_epochs.proofs.Common.{ℕ, ◌≡◌, ◌+◌, ◌++◌, Bool, if◌then◌else◌, Option, Some, List, [], ◌∷◌, refl, sym, ap, ◌∙◌, inl, inr, AllByRecursion, eqb_tells, Applied, Note, places_by, wrote, IsPlacedAt, Reply}

-- a reply that isn't that of an applied update writes none
pub lost_none : (s : ℕ) (n : Note) (i : ℕ) → IsPlacedAt (Reply.Lost s) n i → wrote (Some n) ++ [] ≡ []
lost_none s (Note.Wrote k) i h = absurd h
lost_none s (Note.Lost k) i h = refl
lost_none s (Note.Saw k) i h = refl

pub scanned_none : (c : ℕ) (t : Option ℕ) (n : Note) (i : ℕ) → IsPlacedAt (Reply.Scanned c t) n i → wrote (Some n) ++ [] ≡ []
scanned_none c t (Note.Wrote k) i h = absurd h
scanned_none c t (Note.Lost k) i h = refl
scanned_none c t (Note.Saw k) i h = refl

pub read_none : (v s : ℕ) (n : Note) (i : ℕ) → IsPlacedAt (Reply.Read v s) n i → wrote (Some n) ++ [] ≡ []
read_none v s (Note.Wrote k) i h = absurd h
read_none v s (Note.Lost k) i h = refl
read_none v s (Note.Saw k) i h = refl

pub changed_none : (s : ℕ) (n : Note) (i : ℕ) → IsPlacedAt (Reply.Changed s) n i → wrote (Some n) ++ [] ≡ []
changed_none s (Note.Wrote k) i h = absurd h
changed_none s (Note.Lost k) i h = refl
changed_none s (Note.Saw k) i h = refl

-- its own entries have places
pub no_places : (p n : ℕ) (h : List Applied) → AllByRecursion (λ (a : Applied). a.port ≡ p) h → places_by p n h ≡ [] → h ≡ []
no_places p n [] own is = refl
no_places p n (x ∷ h) own is = elim (eqb_tells x.port p) [
  | inl same ↦
      let bad : n ∷ places_by p (n + 1) h ≡ [] = sym (ap (λ (c : Bool). if c then n ∷ places_by p (n + 1) h else places_by p (n + 1) h) same.0) ∙ is in
      absurd cc
  | inr other ↦ absurd (other.1 own.0)
]
