-- Each line is read exactly from its text.
use Rattle.partial_text.proofs.{Common.{◌≡◌, ℕ, ◌^◌, ◌<◌, ◌≤◌, Bool, true, false, if◌then◌else◌, nat_eq, ◌==◌, nat_le, nat_lt, ◌&&◌, List, [], ◌∷◌, ◌++◌, length, map, drop, codes, Ok, Err, refl, sym, ap, subst, ◌∙◌, append_assoc, ◌⊎◌, inl, inr, arith, decimal, ok_or, flat_map, AllByRecursion, bytes_eq, eqb-true, leb-true, ltb-true, append-nil, length-map, bytes_eq-Decides, until, from, ◌>>=◌, field, sizes_line, initial_line, entry_text, rest_text, IsTurnEntry, greatest, greatest_index, fields_of, exactly_four, number_at, numbers_at, in_range, is_nil, is_rest, decimal_nonempty, Layout, IsLayout, initial_words, PlanError}, NumberLaws.and_both, PieceLaws.{behind_each, until_from}, FieldLaws.{bind_ok, if_ok, ok_is, found_ok, number_at_ok, numbers_ok, behind_numbers, four_is, with_word}, CallLaws.chosen}
use Rattle.partial_words.specs.declared.sizes.SizeError.{SizeError}
use Rattle.partial_text.specs.declared.fault.Cause.{Cause}
use Rattle.partial_text.specs.Judging.{sizes_from, sizes_at, initial_at, entry_text_at, entries_at}

pub in_range_ok : (s t : Layout) → in_range s ≡ Ok t → (s ≡ t) × IsLayout s
in_range_ok s t e =
    let a = if_ok (nat_le 1 s.m && nat_le s.m 65536) _ (PlanError.Size SizeError.Components) t e in
    let b = if_ok (nat_le 1 s.slots && nat_le s.slots 65536) _ (PlanError.Size SizeError.Slots) t a.1 in
    let c = if_ok (nat_le s.lists 65536) _ (PlanError.Size SizeError.Lists) t b.1 in
    let d = if_ok (nat_le (initial_words s) s.pool && nat_le s.pool 4194304) (Ok s) (PlanError.Size SizeError.Pool) t c.1 in
    let p = and_both (nat_le 1 s.m) (nat_le s.m 65536) a.0 in
    let q = and_both (nat_le 1 s.slots) (nat_le s.slots 65536) b.0 in
    let r = and_both (nat_le (initial_words s) s.pool) (nat_le s.pool 4194304) d.0 in (
      ok_is s t d.1,
      record {
        components = (leb-true 1 s.m p.0, leb-true s.m 65536 p.1);
        slots = (leb-true 1 s.slots q.0, leb-true s.slots 65536 q.1);
        lists = leb-true s.lists 65536 c.0;
        pool = (leb-true (initial_words s) s.pool r.0, leb-true s.pool 4194304 r.1);
      },
    )

sizes_from_ok : (fs : List (List ℕ)) (s : Layout) → sizes_from fs ≡ Ok s → (codes "sizes" ++ behind_each 32 fs ≡ sizes_line s) × IsLayout s
unfolding sizes_from
sizes_from_ok fs s e =
    let a = bind_ok (ok_or (exactly_four fs) (PlanError.Line 1 Cause.Count))
    (λ f. number_at 1 greatest_index f.0 >>= λ m. number_at 1 greatest_index f.1 >>= λ slots. number_at 1 greatest_index f.2 >>= λ lists. number_at 1 greatest_index f.3 >>= λ pool. in_range
    (record { m = m; slots = slots; lists = lists; pool = pool })) s e in
    let f = a.0 in
    let b = bind_ok (number_at 1 greatest_index f.0) (λ m. number_at 1 greatest_index f.1 >>= λ slots. number_at 1 greatest_index f.2 >>= λ lists. number_at 1 greatest_index f.3 >>= λ pool. in_range
    (record { m = m; slots = slots; lists = lists; pool = pool })) s a.2 in
    let c = bind_ok (number_at 1 greatest_index f.1) (λ slots. number_at 1 greatest_index f.2 >>= λ lists. number_at 1 greatest_index f.3 >>= λ pool. in_range
    (record { m = b.0; slots = slots; lists = lists; pool = pool })) s b.2 in
    let d = bind_ok (number_at 1 greatest_index f.2) (λ lists. number_at 1 greatest_index f.3 >>= λ pool. in_range (record { m = b.0; slots = c.0; lists = lists; pool = pool })) s c.2 in
    let g = bind_ok (number_at 1 greatest_index f.3) (λ pool. in_range (record { m = b.0; slots = c.0; lists = d.0; pool = pool })) s d.2 in
    let is = four_is fs f (found_ok (exactly_four fs) (PlanError.Line 1 Cause.Count) f a.1) in
    let n0 = number_at_ok 1 greatest_index f.0 b.0 (omega arith) b.1 in
    let n1 = number_at_ok 1 greatest_index f.1 c.0 (omega arith) c.1 in
    let n2 = number_at_ok 1 greatest_index f.2 d.0 (omega arith) d.1 in
    let n3 = number_at_ok 1 greatest_index f.3 g.0 (omega arith) g.1 in
    let made : Layout = record { m = b.0; slots = c.0; lists = d.0; pool = g.0 } in
    let r = in_range_ok made s g.2 in
    let fields : fs ≡ decimal b.0 ∷ decimal c.0 ∷ decimal d.0 ∷ decimal g.0 ∷ [] = cc (is, n0.0, n1.0, n2.0, n3.0) in
    let text : codes "sizes" ++ behind_each 32 fs ≡ sizes_line made = ap (λ (l : List (List ℕ)). codes "sizes" ++ behind_each 32 l) fields in
    subst (λ (x : Layout). (codes "sizes" ++ behind_each 32 fs ≡ sizes_line x) × IsLayout x) r.0 (text, r.1)

pub sizes_ok : (l : List ℕ) (s : Layout) → sizes_at l ≡ Ok s → (l ≡ sizes_line s) × IsLayout s
unfolding sizes_at
sizes_ok l s e =
    let a = if_ok (bytes_eq (until 32 l) (codes "sizes")) (sizes_from (fields_of l)) (PlanError.Line 1 Cause.Word) s e in
    let b = sizes_from_ok (fields_of l) s a.1 in
    (with_word (codes "sizes") l a.0 ∙ b.0, b.1)

-- what is at most the greatest fits 64 bits
values_fit : (ns : List ℕ) → AllByRecursion (λ (n : ℕ). n ≤ greatest) ns → AllByRecursion (λ (n : ℕ). n < 2 ^ 64) ns
values_fit [] h = tt
values_fit (n ∷ ns) h = (omega (arith, h.0), values_fit ns h.1)

length_fields : (fs : List (List ℕ)) (ns : List ℕ) → fs ≡ map decimal ns → length fs ≡ length ns
length_fields fs ns e = ap length e ∙ length-map ns decimal

pub initial_ok : (m : ℕ) (l : List ℕ) (vs : List ℕ) → initial_at m l ≡ Ok vs → (l ≡ initial_line vs) × (length vs ≡ m) × AllByRecursion (λ (v : ℕ). v < 2 ^ 64) vs
unfolding initial_at
initial_ok m l vs e =
    let fs = fields_of l in
    let a = if_ok (bytes_eq (until 32 l) (codes "initial")) _ (PlanError.Line 2 Cause.Word) vs e in
    let b = if_ok ((length fs) == m) (numbers_at 2 greatest [] fs) (PlanError.Line 2 Cause.Count) vs a.1 in
    let r = numbers_ok 2 greatest [] fs vs (omega arith) b.1 in
    let fields : fs ≡ map decimal vs = r.2 ∙ ap (map decimal) (sym r.1) in (
      with_word (codes "initial") l a.0 ∙ ap (λ (t : List ℕ). codes "initial" ++ t) (ap (behind_each 32) fields ∙ behind_numbers vs),
      sym (length_fields fs vs fields) ∙ eqb-true (length fs) m b.0,
      subst (AllByRecursion (λ (v : ℕ). v < 2 ^ 64)) (sym r.1) (values_fit r.0 r.3),
    )

-- ---- the turns

from_head : (b : Bool) (c x : ℕ) (xs : List ℕ) → nat_eq x c ≡ b → ((from c xs ≡ []) ⊎ (from c xs ≡ c ∷ drop 1 (from c xs))) → ((if b then x ∷ xs else from c xs) ≡ []) ⊎
    ((if b then x ∷ xs else from c xs) ≡ c ∷ drop 1 (if b then x ∷ xs else from c xs))
from_head true c x xs same h = inr (ap (λ (y : ℕ). y ∷ xs) (eqb-true x c same))
from_head false c x xs same h = h

-- what begins at a separator is empty or begins with it
pub from_is : (c : ℕ) (xs : List ℕ) → (from c xs ≡ []) ⊎ (from c xs ≡ c ∷ drop 1 (from c xs))
from_is c [] = inl refl
from_is c (x ∷ xs) = from_head (x == c) c x xs refl (from_is c xs)

entry_ok : (line ports : ℕ) (f : List ℕ) (e : ℕ × ℕ) → entry_text_at line ports f ≡ Ok e → (f ≡ entry_text e) × IsTurnEntry ports e
unfolding entry_text_at
entry_ok line ports f e h =
    let a = bind_ok (number_at line greatest_index (until 42 f)) (λ p. number_at line greatest_index (drop 1 (from 42 f)) >>= λ k. if nat_lt p ports && nat_lt 0 k then Ok (p, k)
    else Err (PlanError.Line line Cause.Range)) e h in
    let b = bind_ok (number_at line greatest_index (drop 1 (from 42 f))) (λ k. if nat_lt a.0 ports && nat_lt 0 k then Ok (a.0, k) else Err (PlanError.Line line Cause.Range)) e a.2 in
    let c = if_ok (nat_lt a.0 ports && nat_lt 0 b.0) (Ok (a.0, b.0)) (PlanError.Line line Cause.Range) e b.2 in
    let d = and_both (nat_lt a.0 ports) (nat_lt 0 b.0) c.0 in
    let p = number_at_ok line greatest_index (until 42 f) a.0 (omega arith) a.1 in
    let k = number_at_ok line greatest_index (drop 1 (from 42 f)) b.0 (omega arith) b.1 in
    let star : from 42 f ≡ 42 ∷ drop 1 (from 42 f) = elim (from_is 42 f) [
      | inl none ↦ absurd (omega (arith, decimal_nonempty b.0 (omega (arith, k.1)), ap length k.0, ap (λ (l : List ℕ). length (drop 1 l)) none))
      | inr some ↦ some
    ] in
    let text : f ≡ entry_text (a.0, b.0) = sym (until_from 42 f) ∙ ap (λ (l : List ℕ). l ++ from 42 f) p.0 ∙ ap (λ (l : List ℕ). decimal a.0 ++ l) (star ∙ ap (λ (l : List ℕ). 42 ∷ l) k.0) in
    subst (λ (x : ℕ × ℕ). (f ≡ entry_text x) × IsTurnEntry ports x) (ok_is (a.0, b.0) e c.1) (text, (ltb-true a.0 ports d.0, omega (arith, ltb-true 0 b.0 d.1), omega (arith, k.1)))

nil_is : (fs : List (List ℕ)) → is_nil fs ≡ true → fs ≡ []
nil_is [] h = refl
nil_is (f ∷ fs) h = absurd cc

pub record Turns (ports : ℕ) (found all : List (ℕ × ℕ)) (rest : Bool) (fs : List (List ℕ)) : Type 0 where
  pub more : List (ℕ × ℕ)
  pub whole : all ≡ found ++ more
  pub text : behind_each 32 fs ≡ flat_map (λ (e : ℕ × ℕ). field (entry_text e)) more ++ rest_text rest
  pub each : AllByRecursion (IsTurnEntry ports) more

pub entries_ok : (line ports : ℕ) (found : List (ℕ × ℕ)) (fs : List (List ℕ)) (x : List (ℕ × ℕ) × Bool) → entries_at line ports found fs ≡ Ok x → Turns ports found x.0 x.1 fs
unfolding entries_at
entries_ok line ports found [] x e =
    subst (λ (y : List (ℕ × ℕ) × Bool). Turns ports found y.0 y.1 []) (ok_is (found, false) x e) (record { more = []; whole = sym (append-nil found); text = refl; each = tt })
entries_ok line ports found (f ∷ fs) x e =
    elim (chosen (is_rest f fs) (Ok (found, true)) (entry_text_at line ports f >>= λ e. entries_at line ports (found ++ e ∷ []) fs) (Ok x) e) [
      | inl h ↦
          let both = and_both (is_nil fs) (bytes_eq f (codes "rest")) h.0 in
          let word : f ≡ codes "rest" = (bytes_eq-Decides f (codes "rest")).0 both.1 in
          let last : fs ≡ [] = nil_is fs both.0 in
          let text : behind_each 32 (f ∷ fs) ≡ rest_text true = rw (word, last) refl in
          subst (λ (y : List (ℕ × ℕ) × Bool). Turns ports found y.0 y.1 (f ∷ fs)) (ok_is (found, true) x h.1) (record { more = []; whole = sym (append-nil found); text = text; each = tt })
      | inr h ↦
          let b = bind_ok (entry_text_at line ports f) (λ (e : ℕ × ℕ). entries_at line ports (found ++ e ∷ []) fs) x h.1 in
          let k = entry_ok line ports f b.0 b.1 in
          let r = entries_ok line ports (found ++ b.0 ∷ []) fs x b.2 in
          record {
            more = b.0 ∷ r.more;
            whole = r.whole ∙ append_assoc found (b.0 ∷ []) r.more;
            text = ap (λ (l : List ℕ). 32 ∷ (l ++ behind_each 32 fs)) k.0 ∙ ap (λ (l : List ℕ). field (entry_text b.0) ++ l) r.text ∙
                sym (append_assoc (field (entry_text b.0)) (flat_map (λ (e : ℕ × ℕ). field (entry_text e)) r.more) (rest_text x.1));
            each = (k.1, r.each);
          }
    ]
