-- Seats whose views are lists of ports: around one view, and ports that get seats of their own.
use Rattle.std.proofs.Common.{ℕ, zero, suc, ◌≡◌, ◌+◌, ◌-◌, ◌<◌, List, [], ◌∷◌, ◌++◌, map, slice_set, refl, sym, ap, subst, ◌∙◌, arith, append_assoc, append-nil}
use Rattle.std.specs.List.{AllByRecursion}
use mathlib.Core.Option.{some, some-injective, some-ne-none}
use lib.ListN.{get_elem?}
use Rattle.atomic_table.specs.Table.{Me}
use Rattle.partial_table.specs.Seats.{first_port, flatten, further_ports, numbered}

-- the ports before and behind those of one view, whatever that view becomes
pub record Around {X : Type 0} (views : List (List X)) (id : ℕ) (v : List X) : Type 0 where
  pub before : List X
  pub behind : List X
  pub now : flatten views ≡ before ++ (v ++ behind)
  pub renewed : (w : List X) → flatten (slice_set views id w) ≡ before ++ (w ++ behind)

pub around : {X : Type 0} (views : List (List X)) (id : ℕ) (v : List X) → get_elem? views id ≡ some v → Around views id v
around [] id v e = absurd (some-ne-none v (sym e))
around (u ∷ us) zero v e = record {
  before = [];
  behind = flatten us;
  now = ap (λ w. w ++ flatten us) (some-injective u v e);
  renewed = λ w. refl;
}
around (u ∷ us) (suc id) v e = let r = around us id v e in record {
  before = u ++ r.before;
  behind = r.behind;
  now = ap (λ l. u ++ l) r.now ∙ sym (append_assoc u r.before (v ++ r.behind));
  renewed = λ w. ap (λ l. u ++ l) (r.renewed w) ∙ sym (append_assoc u r.before (w ++ r.behind));
}

-- one view more
flatten-snoc : {X : Type 0} (views : List (List X)) (v : List X) → flatten (views ++ v ∷ []) ≡ flatten views ++ (v ++ [])
flatten-snoc [] v = refl
flatten-snoc (u ∷ us) v = ap (λ l. u ++ l) (flatten-snoc us v) ∙ sym (append_assoc u (flatten us) (v ++ []))

-- a view without ports gives a new seat none
pub dealt_none : {X : Type 0} (views : List (List X)) (id : ℕ) → Around views id [] → flatten (slice_set views id [] ++ [] ∷ []) ≡ flatten views
dealt_none views id r = flatten-snoc (slice_set views id []) [] ∙ append-nil (flatten (slice_set views id [])) ∙ r.renewed [] ∙ sym r.now

-- the first port of a view comes to a new seat, and so behind all others
pub dealt_first : {X : Type 0} (views : List (List X)) (id : ℕ) (x : X) (xs : List X) → (r : Around views id (x ∷ xs)) →
    flatten (slice_set views id xs ++ (x ∷ []) ∷ []) ≡ (r.before ++ (xs ++ r.behind)) ++ x ∷ []
dealt_first views id x xs r = flatten-snoc (slice_set views id xs) (x ∷ []) ∙ ap (λ l. l ++ x ∷ []) (r.renewed xs)

-- what holds of all ports holds of the last one and of those before it
all_last : {A : Type 0} (P : A → Type 0) (less : List A) (x : A) → AllByRecursion P (less ++ x ∷ []) → AllByRecursion P less × P x
all_last P [] x w = (tt, w.0)
all_last P (y ∷ less) x w = let rest = all_last P less x w.1 in ((w.0, rest.0), rest.1)

pub of_last : {A : Type 0} (P : A → Type 0) (rest less : List A) (x : A) → AllByRecursion P rest → rest ≡ less ++ x ∷ [] → AllByRecursion P less × P x
of_last P rest less x w is = all_last P less x (subst (AllByRecursion P) is w)

next_numbered : {X : Type 0} (port : ℕ → X) (i n : ℕ) → i < n → numbered port i (n - i) ≡ port i ∷ numbered port (i + 1) (n - (i + 1))
next_numbered port i n l = let e : n - i ≡ suc (n - (i + 1)) = omega arith in ap (numbered port i) e

-- the seats of numbered ports are split off, one after the other
module _ {X : Type 0} (port : ℕ → X) (i n : ℕ) (inside : i < n) (v : List X) (left : v ≡ numbered port i (n - i)) where
  some_left : v ≡ port i ∷ numbered port (i + 1) (n - (i + 1))
  some_left = left ∙ next_numbered port i n inside

  pub first_dealt : first_port v ≡ port i ∷ []
  first_dealt = ap first_port some_left

  pub others_left : {S : Type 0} (me : Me S (List X)) (at : List (ℕ × S)) → me ≡ (further_ports v, at) → at ≡ [] → (me.0 ≡ numbered port (i + 1) (n - (i + 1))) × (me.1 ≡ [])
  others_left {S} me at is none = (ap (λ (m : Me S (List X)). m.0) is ∙ ap further_ports some_left, ap (λ (m : Me S (List X)). m.1) is ∙ none)

  -- what is shown of the ports that have seats, and of those that wait for one
  pub made_next : {S P : Type 0} (shown : X → P) (all old new : List P) (p : P) (me : Me S (List X)) (at : List (ℕ × S)) →
      all ≡ old ++ map shown v → new ≡ old ++ p ∷ [] → p ≡ shown (port i) → me ≡ (further_ports v, at) → all ≡ new ++ map shown me.0
  made_next {S} {P} shown all old new p me at made is here less =
      let rest : me.0 ≡ numbered port (i + 1) (n - (i + 1)) = ap (λ (m : Me S (List X)). m.0) less ∙ ap further_ports some_left in
      let this : map shown v ≡ p ∷ map shown me.0 =
      ap (map shown) some_left ∙ ap (λ (q : P). q ∷ map shown (numbered port (i + 1) (n - (i + 1)))) (sym here) ∙ ap (λ (l : List X). p ∷ map shown l) (sym rest) in
      made ∙ ap (λ l. old ++ l) this ∙ sym (append_assoc old (p ∷ []) (map shown me.0)) ∙ ap (λ l. l ++ map shown me.0) (sym is)
