-- The history of a pipeline: each stage's count only rises, and never passes that of the stage before it.
use Rattle.partial_pipeline.proofs.Common.{ℕ, zero, suc, ◌≡◌, ◌+◌, ◌<◌, ◌≤◌, ◌==◌, ◌++◌, Bool, true, false, if◌then◌else◌, List, [], ◌∷◌, length, take, slice_index, refl, sym, ◌∙◌, ap, subst, inl, inr, Option, Some, None, slice_get, arith, AllByRecursion, eq-eqb, ne_eqb, Applied, Opening, Call, Answer, Note, Noted, IsLegal, LegalNotes, seen_after, wrote, places_written, all_append, AllByRecursion-get, AreFrom, IsPipeline, IsStageIn, Works, CountsStayOrdered, CountsNeverFall, last_value, published_count, OnlyRises, entries_by, entry_of, applied_by, entries_are_noted, entry_holds, noted_at, value_at_first, value_set, value_kept, element_at, rising_never_falls}
use Rattle.std.specs.Option.{option_map_or}
use Rattle.std.proofs.lemmas.Bool.Decides.{eqb_tells}
use Rattle.partial_model.specs.History.{last_from, value_of}

-- ---- the entries of stage k: component k alone, to values that never fall

abbrev pub Rising : ℕ → ℕ → List Applied → Type 0
Rising k a [] = Unit {0}
Rising k a (e ∷ es) = (e.component ≡ k) × (a ≤ e.value) × Rising k e.value es

from_below : (k a b : ℕ) (es : List Applied) → a ≤ b → Rising k b es → Rising k a es
from_below k a b [] le w = tt
from_below k a b (e ∷ es) le w = (w.0, omega (arith, w.1), w.2)

set_rises : (k a v : ℕ) (n : Option Note) (x : Answer) (es : List Applied) → a ≤ v → Rising k v es → Rising k a (entry_of k n (Call.Update k v) x ++ es)
set_rises k a v (Some (Note.Wrote i)) (Answer.Applied s) es le w = (refl, le, w)
set_rises k a v _ _ es le w = from_below k a v es le w

pub read_makes_none : (p j : ℕ) (n : Option Note) (x : Answer) → entry_of p n (Call.Read j) x ≡ []
read_makes_none p j (Some (Note.Wrote i)) x = refl
read_makes_none p j _ x = refl

works_rise : (k r a : ℕ) (ns : List Noted) (r' a' : ℕ) → Works k r a ns r' a' → Rising k a (applied_by k ns)
works_rise k r a [] r' a' w = tt
works_rise k r a (n ∷ ns) r' a' w =
    elim w [
      | inl t ↦
          let none : entry_of k n.note n.call n.answer ≡ [] = ap (λ (c : Call). entry_of k n.note c n.answer) t.4 ∙ read_makes_none k t.0 n.note n.answer in
          subst (λ (l : List Applied). Rising k a (l ++ applied_by k ns)) (sym none) (works_rise k t.1 a ns r' a' t.6)
      | inr t ↦
          subst (λ (c : Call). Rising k a (entry_of k n.note c n.answer ++ applied_by k ns)) (sym t.1) (set_rises k a t.0 n.note n.answer (applied_by k ns) t.2 (works_rise k r t.0 ns r' a' t.4))
    ]

all_component : (k a : ℕ) (es : List Applied) → Rising k a es → AllByRecursion (λ (e : Applied). e.component ≡ k) es
all_component k a [] w = tt
all_component k a (e ∷ es) w = (w.0, all_component k e.value es w.2)

-- each entry of a stage is at least what its component was
abbrev held : ℕ → Option Applied → ℕ
held d found = option_map_or (λ (e : Applied). e.value) found d

head_rises : (p : ℕ) (x : Applied) (b : Bool) (a : ℕ) (es : List Applied) → b ≡ true → Rising p a (if b then x ∷ es else es) → a ≤ x.value
head_rises p x true a es is w = w.1
head_rises p x false a es is w = absurd cc

risen : (p d k : ℕ) (h : List Applied) (found : Option Applied) (e : Applied) → ((i : ℕ) (x : Applied) → slice_get h i ≡ Some x → x.component ≡ x.port) → Rising p (held d found) (entries_by p h) →
    slice_get h k ≡ Some e → e.port ≡ p → held d (last_from found p (take k h)) ≤ e.value
unfolding last_from
risen p d k [] found e kinds w s by = let bad : None ≡ Some e = s in cc
risen p d zero (x ∷ h) found e kinds w s by =
    let same : x ≡ e = cc in
    let port : x.port ≡ p = ap (λ (y : Applied). y.port) same ∙ by in
    subst (λ (y : Applied). held d found ≤ y.value) same (head_rises p x (x.port == p) (held d found) (entries_by p h) (eq-eqb x.port p port) w)
risen p d (suc k) (x ∷ h) found e kinds w s by =
    elim (eqb_tells x.port p) [
      | inl t ↦
          let r : (x.component ≡ p) × (held d found ≤ x.value) × Rising p x.value (entries_by p h) = subst (λ b. Rising p (held d found) (if b then x ∷ entries_by p h else entries_by p h)) t.0 w in
          let one : (if x.component == p then Some x else found) ≡ Some x = ap (λ b. if b then Some x else found) (eq-eqb x.component p r.0) in
          subst (λ (f : Option Applied). held d (last_from f p (take k h)) ≤ e.value) (sym one) (risen p d k h (Some x) e (λ i y. kinds (suc i) y) r.2 s by)
      | inr t ↦
          let r : Rising p (held d found) (entries_by p h) = subst (λ b. Rising p (held d found) (if b then x ∷ entries_by p h else entries_by p h)) t.0 w in
          let other : x.component ≡ p → ⊥ = λ c. t.1 (sym (kinds 0 x refl) ∙ c) in
          let one : (if x.component == p then Some x else found) ≡ found = ap (λ b. if b then Some x else found) (ne_eqb x.component p other) in
          subst (λ (f : Option Applied). held d (last_from f p (take k h)) ≤ e.value) (sym one) (risen p d k h found e (λ i y. kinds (suc i) y) r s by)
    ]

-- after all entries a stage's component has the value of its last one
held_last : (d k : ℕ) (h : List Applied) (found : Option Applied) → ((i : ℕ) (x : Applied) → slice_get h i ≡ Some x → x.component ≡ x.port) →
    held d (last_from found k h) ≡ last_value (held d found) (entries_by k h)
unfolding last_from
held_last d k [] found kinds = refl
held_last d k (x ∷ h) found kinds =
    let rest = entries_by k h in
    elim (eqb_tells x.port k) [
      | inl t ↦
          let one : (if x.component == k then Some x else found) ≡ Some x = ap (λ b. if b then Some x else found) (eq-eqb x.component k (kinds 0 x refl ∙ t.1)) in
          let two : (if x.port == k then x ∷ rest else rest) ≡ x ∷ rest = ap (λ b. if b then x ∷ rest else rest) t.0 in
          ap (λ (f : Option Applied). held d (last_from f k h)) one ∙ held_last d k h (Some x) (λ i y. kinds (suc i) y) ∙ ap (last_value (held d found)) (sym two)
      | inr t ↦
          let other : x.component ≡ k → ⊥ = λ c. t.1 (sym (kinds 0 x refl) ∙ c) in
          let one : (if x.component == k then Some x else found) ≡ found = ap (λ b. if b then Some x else found) (ne_eqb x.component k other) in
          let two : (if x.port == k then x ∷ rest else rest) ≡ rest = ap (λ b. if b then x ∷ rest else rest) t.0 in
          ap (λ (f : Option Applied). held d (last_from f k h)) one ∙ held_last d k h found (λ i y. kinds (suc i) y) ∙ ap (last_value (held d found)) (sym two)
    ]

-- ---- what a stage sets its count to, the stage before has reached

-- an entry at that place is at most what component j was at some length before
abbrev IsReached : Opening → List Applied → ℕ → ℕ → Type 0
IsReached o h j i = (e : Applied) → slice_get h i ≡ Some e → (m : ℕ) × (m ≤ i) × (e.value ≤ value_of o (take m h) j)

-- what was read before the first so many entries ended
abbrev HasRead : Opening → List Applied → ℕ → ℕ → ℕ → Type 0
HasRead o h j seen a = (m : ℕ) × (m ≤ seen) × (a ≤ value_of o (take m h) j)

abbrev Reached : Opening → List Applied → ℕ → ℕ → Option Note → ℕ → Type 0
Reached o h j seen n a = AllByRecursion (IsReached o h j) (wrote n) × HasRead o h j (seen_after seen n) a

one_of : (f : Option Applied) (x y : Applied) → f ≡ Some x → f ≡ Some y → x ≡ y
one_of f x y a b = cc

set_reached : (o : Opening) (h : List Applied) (k j seen a v : ℕ) (x : Answer) (n : Option Note) → v ≤ a → HasRead o h j seen a →
    IsLegal o h k seen (record { call = Call.Update k v; answer = x; note = n }) → Reached o h j seen n a
set_reached o h k j seen a v (Answer.Applied s) (Some (Note.Wrote i)) le r w =
    let before : seen ≤ i = w.1.1 in
    let at = w.1.0 in (
      (
        (λ (e : Applied) (is : slice_get h i ≡ Some e).
            let same : record { port = k; component = k; value = v; stamp = s } ≡ e = one_of _ _ _ at is in
            (r.0, omega (arith, r.1), subst (λ (y : Applied). y.value ≤ value_of o (take r.0 h) j) same (omega (arith, r.2)))),
        tt,
      ),
      (r.0, omega (arith, r.1), r.2),
    )
set_reached o h k j seen a v (Answer.Lost by) (Some (Note.Lost i)) le r w =
    let before : seen ≤ i = w.1.1 in
    (tt, (r.0, omega (arith, r.1), r.2))
set_reached o h k j seen a v (Answer.Refused cause) None le r w = (tt, r)
set_reached o h k j seen a v _ _ le r w = absurd w.0

read_reached : (o : Opening) (h : List Applied) (k j seen x s : ℕ) (n : Option Note) → IsLegal o h k seen (record { call = Call.Read j; answer = Answer.Read x s; note = n }) → Reached o h j seen n x
read_reached o h k j seen x s (Some (Note.Saw i)) w = (tt, (i, omega arith, subst (λ v. x ≤ v) (w.1.0.1) (omega arith)))
read_reached o h k j seen x s _ w = absurd w.0

before_is : (k i j : ℕ) → k ≡ i + 1 → k ≡ j + 1 → i ≡ j
before_is k i j a b = omega arith

reached : (o : Opening) (h : List Applied) (k j seen r c : ℕ) (ns : List Noted) (r' c' : ℕ) → k ≡ j + 1 → LegalNotes o h k seen ns → Works k r c ns r' c' → HasRead o h j seen r →
    AllByRecursion (IsReached o h j) (places_written ns)
reached o h k j seen r c [] r' c' is legal w had = tt
reached o h k j seen r c (n ∷ ns) r' c' is legal w had =
    elim w [
      | inl t ↦
          let read : n.call ≡ Call.Read j = t.4 ∙ ap Call.Read (before_is k t.0 j t.3 is) in
          let one : IsLegal o h k seen (record { call = Call.Read j; answer = Answer.Read t.1 t.2; note = n.note }) =
          subst (λ (y : Answer). IsLegal o h k seen (record { call = Call.Read j; answer = y; note = n.note })) t.5
          (subst (λ (y : Call). IsLegal o h k seen (record { call = y; answer = n.answer; note = n.note })) read legal.0) in
          let got = read_reached o h k j seen t.1 t.2 n.note one in
          all_append (IsReached o h j) (wrote n.note) (places_written ns) got.0 (reached o h k j (seen_after seen n.note) t.1 c ns r' c' is legal.1 t.6 got.1)
      | inr t ↦
          let one : IsLegal o h k seen (record { call = Call.Update k t.0; answer = n.answer; note = n.note }) =
          subst (λ (y : Call). IsLegal o h k seen (record { call = y; answer = n.answer; note = n.note })) t.1 legal.0 in
          let got = set_reached o h k j seen r t.0 n.answer n.note t.3 had one in
          all_append (IsReached o h j) (wrote n.note) (places_written ns) got.0 (reached o h k j (seen_after seen n.note) r t.0 ns r' c' is legal.1 t.4 got.1)
    ]

-- ---- all stages

-- the element of a number
pub from_at : {A : Type 0} (P : ℕ → A → Type 0) (k i : ℕ) (xs : List A) → AreFrom P k xs → i < length xs → (x : A) × P (k + i) x
from_at P k i [] w within = absurd (omega arith)
from_at P k zero (x ∷ xs) w within = let same : k ≡ k + 0 = omega arith in (x, subst (λ n. P n x) same w.0)
from_at P k (suc i) (x ∷ xs) w within =
    let rest = from_at P (k + 1) i xs w.1 (omega arith) in
    let same : k + 1 + i ≡ k + suc i = omega arith in
    (rest.0, subst (λ n. P n rest.0) same rest.1)

module _ (o : Opening) (h : List Applied) (stages : List (List Noted)) (w : IsPipeline o h stages) where
  stage_at : (k : ℕ) → k < length stages → (ns : List Noted) × IsStageIn o h k ns
  stage_at k within =
      let at = from_at (IsStageIn o h) 0 k stages w.each within in
      let same : 0 + k ≡ k = omega arith in
      (at.0, subst (λ i. IsStageIn o h i at.0) same at.1)

  rising : (k : ℕ) (ns : List Noted) → IsStageIn o h k ns → Rising k 0 (entries_by k h)
  rising k ns s = subst (Rising k 0) (sym (entries_are_noted o h k ns s.legal s.once)) (works_rise k s.worked.from 0 ns s.worked.read s.worked.count s.worked.works)

  by_stage : (i : ℕ) (e : Applied) → slice_get h i ≡ Some e → e.port < length stages
  by_stage i e s = AllByRecursion-get (λ (x : Applied). x.port < length stages) h i e w.below s

  -- each stage sets its own component
  kinds : (i : ℕ) (e : Applied) → slice_get h i ≡ Some e → e.component ≡ e.port
  kinds i e s =
      let at = stage_at e.port (by_stage i e s) in
      entry_holds (λ (x : Applied). x.component ≡ e.port) e.port h i e (all_component e.port 0 (entries_by e.port h) (rising e.port at.0 at.1)) s refl

  only_rises : (k : ℕ) → OnlyRises o h k
  only_rises k i e s is =
      let port : e.port ≡ k = sym (kinds i e s) ∙ is in
      let at = stage_at k (subst (λ p. p < length stages) port (by_stage i e s)) in
      risen k (slice_index o.values k) i h None e kinds (subst (λ d. Rising k d (entries_by k h)) (sym (w.zero k)) (rising k at.0 at.1)) s port

  -- what a stage sets its count to, the stage before had reached
  was_reached : (j i : ℕ) (e : Applied) → slice_get h i ≡ Some e → e.component ≡ j + 1 → (m : ℕ) × (m ≤ i) × (e.value ≤ value_of o (take m h) j)
  was_reached j i e s is =
      let port : e.port ≡ j + 1 = sym (kinds i e s) ∙ is in
      let at = stage_at (j + 1) (subst (λ p. p < length stages) port (by_stage i e s)) in
      let none : at.1.worked.from ≡ 0 = at.1.worked.none (omega arith) in
      let had : HasRead o h j 0 at.1.worked.from = (0, omega arith, omega arith) in
      noted_at (IsReached o h j) h (j + 1) at.0 i e at.1.once (reached o h (j + 1) j 0 at.1.worked.from 0 at.0 at.1.worked.read at.1.worked.count refl at.1.legal at.1.worked.works had) s port e s

  -- after all entries each stage's component has what the stage published last
  pub stage_value : (k : ℕ) (ns : List Noted) → IsStageIn o h k ns → value_of o h k ≡ published_count k ns
  stage_value k ns s =
      let first = slice_index o.values k in
      let all : entries_by k h ≡ applied_by k ns = entries_are_noted o h k ns s.legal s.once in
      held_last first k h None kinds ∙ ap (last_value first) all ∙ ap (λ d. last_value d (applied_by k ns)) (w.zero k)

  never_fall : (m n k : ℕ) → m ≤ n → n ≤ length h → value_of o (take m h) k ≤ value_of o (take n h) k
  never_fall m n k before within = rising_never_falls o h k m n (only_rises k) before within

  stay_ordered : (n k : ℕ) → n ≤ length h → value_of o (take n h) (k + 1) ≤ value_of o (take n h) k
  stay_ordered zero k within =
      let x = value_at_first o k ∙ w.zero k in
      let y = value_at_first o (k + 1) ∙ w.zero (k + 1) in
      rw y (omega arith)
  stay_ordered (suc n) k within =
      let at = element_at h n (omega arith) in
      let e = at.0 in
      let rest = stay_ordered n k (omega arith) in
      let plus : suc n ≡ n + 1 = omega arith in
      rw plus (elim (eqb_tells e.component (k + 1)) [
        | inl t ↦
            let left = value_set o h n e (k + 1) at.1 t.1 in
            let right = value_kept o h n e k at.1 (λ d. absurd (omega (arith, t.1))) in
            let was = was_reached k n e at.1 t.1 in
            let grown = never_fall was.0 n k was.1 (omega arith) in
            omega (arith, was.2)
        | inr t ↦ elim (eqb_tells e.component k) [
          | inl u ↦
              let left = value_kept o h n e (k + 1) at.1 t.1 in
              let right = value_set o h n e k at.1 u.1 in
              let rises = only_rises k n e at.1 u.1 in
              omega arith
          | inr u ↦
              let left = value_kept o h n e (k + 1) at.1 t.1 in
              let right = value_kept o h n e k at.1 u.1 in
              omega arith
        ]
      ])

pub counts_stay_ordered : CountsStayOrdered
counts_stay_ordered o h stages w n k within below = stay_ordered o h stages w n k within

pub counts_never_fall : CountsNeverFall
counts_never_fall o h stages w m n k before within below = never_fall o h stages w m n k before within
