-- A call is read exactly from its text, and calls from their texts in a row.
use Rattle.partial_text.proofs.{Common.{◌≡◌, ℕ, ◌^◌, ◌<◌, ◌≤◌, Bool, true, false, if◌then◌else◌, nat_eq, ◌==◌, nat_lt, ◌&&◌, List, [], ◌∷◌, ◌++◌, length, map, codes, Ok, Err, refl, sym, ap, subst, ◌∙◌, append_assoc, drop, ◌⊎◌, inl, inr, arith, decimal, ok_or, flat_map, AllByRecursion, bytes_eq, eqb-true, ltb-false, append-nil, length-map, flat_map-map, Call, until, onto_first, ◌>>=◌, call_text, next_call, port_line, IsCall, greatest, greatest_index, fields_of, exactly_one, exactly_two, exactly_three, number_at, numbers_at, call_texts, PlanError}, NumberLaws.and_both, PieceLaws.behind_each, FieldLaws.{bind_ok, if_ok, unless_ok, ok_is, found_ok, number_at_ok, numbers_ok, behind_numbers, one_is, two_is, three_is, with_word}}
use Rattle.partial_text.specs.declared.fault.Cause.{Cause}
use Rattle.partial_text.specs.Judging.{update_from, scan_from, read_from, update_if_from, call_text_at, calls_at, port_line_at}

update_ok : (line m : ℕ) (fs : List (List ℕ)) (c : Call) → update_from line fs ≡ Ok c → (call_text c ≡ codes "update" ++ behind_each 32 fs) × IsCall m c
unfolding update_from
update_ok line m fs c e =
    let a = bind_ok (ok_or (exactly_two fs) (PlanError.Line line Cause.Count)) (λ f. number_at line greatest_index f.0 >>= λ j. number_at line greatest f.1 >>= λ v. Ok (Call.Update j v)) c e in
    let b = bind_ok (number_at line greatest_index a.0.0) (λ j. number_at line greatest a.0.1 >>= λ v. Ok (Call.Update j v)) c a.2 in
    let d = bind_ok (number_at line greatest a.0.1) (λ v. Ok (Call.Update b.0 v)) c b.2 in
    let is = two_is fs a.0 (found_ok (exactly_two fs) (PlanError.Line line Cause.Count) a.0 a.1) in
    let j = number_at_ok line greatest_index a.0.0 b.0 (omega arith) b.1 in
    let v = number_at_ok line greatest a.0.1 d.0 (omega arith) d.1 in
    let same = ok_is (Call.Update b.0 d.0) c d.2 in
    let fields : fs ≡ decimal b.0 ∷ decimal d.0 ∷ [] = cc (is, j.0, v.0) in
    let text : codes "update" ++ behind_each 32 fs ≡ call_text (Call.Update b.0 d.0) = ap (λ (l : List (List ℕ)). codes "update" ++ behind_each 32 l) fields in
    subst (λ (x : Call). (call_text x ≡ codes "update" ++ behind_each 32 fs) × IsCall m x) same (sym text, (omega (arith, j.1), omega (arith, v.1)))

-- indices that are not above the greatest
indices_fit : (js : List ℕ) → AllByRecursion (λ (j : ℕ). j ≤ greatest_index) js → AllByRecursion (λ (j : ℕ). j < 2 ^ 32) js
indices_fit [] fits = tt
indices_fit (j ∷ js) fits = (omega (arith, fits.0), indices_fit js fits.1)

scan_ok : (line m : ℕ) (fs : List (List ℕ)) (c : Call) → scan_from m line fs ≡ Ok c → (call_text c ≡ codes "scan" ++ behind_each 32 fs) × IsCall m c
unfolding scan_from
scan_ok line m fs c e =
    let a = unless_ok (nat_lt m (length fs)) (numbers_at line greatest_index [] fs >>= λ js. Ok (Call.Scan js)) (PlanError.Line line Cause.Count) c e in
    let b = bind_ok (numbers_at line greatest_index [] fs) (λ js. Ok (Call.Scan js)) c a.1 in
    let r = numbers_ok line greatest_index [] fs b.0 (omega arith) b.1 in
    let fields : fs ≡ map decimal b.0 = r.2 ∙ ap (map decimal) (sym r.1) in
    let same = ok_is (Call.Scan b.0) c b.2 in
    let text : codes "scan" ++ behind_each 32 fs ≡ call_text (Call.Scan b.0) = ap (λ (l : List ℕ). codes "scan" ++ l) (ap (behind_each 32) fields ∙ behind_numbers b.0) in
    let few : length b.0 ≤ m = omega (arith, ltb-false m (length fs) a.0, ap length fields, length-map b.0 decimal) in
    let fits = subst (AllByRecursion (λ (j : ℕ). j < 2 ^ 32)) (sym r.1) (indices_fit r.0 r.3) in
    subst (λ (x : Call). (call_text x ≡ codes "scan" ++ behind_each 32 fs) × IsCall m x) same (sym text, (few, fits))

read_ok : (line m : ℕ) (fs : List (List ℕ)) (c : Call) → read_from line fs ≡ Ok c → (call_text c ≡ codes "read" ++ behind_each 32 fs) × IsCall m c
unfolding read_from
read_ok line m fs c e =
    let a = bind_ok (ok_or (exactly_one fs) (PlanError.Line line Cause.Count)) (λ f. number_at line greatest_index f >>= λ j. Ok (Call.Read j)) c e in
    let b = bind_ok (number_at line greatest_index a.0) (λ j. Ok (Call.Read j)) c a.2 in
    let is = one_is fs a.0 (found_ok (exactly_one fs) (PlanError.Line line Cause.Count) a.0 a.1) in
    let j = number_at_ok line greatest_index a.0 b.0 (omega arith) b.1 in
    let same = ok_is (Call.Read b.0) c b.2 in
    let fields : fs ≡ decimal b.0 ∷ [] = cc (is, j.0) in
    let text : codes "read" ++ behind_each 32 fs ≡ call_text (Call.Read b.0) = ap (λ (l : List (List ℕ)). codes "read" ++ behind_each 32 l) fields in
    subst (λ (x : Call). (call_text x ≡ codes "read" ++ behind_each 32 fs) × IsCall m x) same (sym text, omega (arith, j.1))

update_if_ok : (line m : ℕ) (fs : List (List ℕ)) (c : Call) → update_if_from line fs ≡ Ok c → (call_text c ≡ codes "updateif" ++ behind_each 32 fs) × IsCall m c
unfolding update_if_from
update_if_ok line m fs c e =
    let a = bind_ok (ok_or (exactly_three fs) (PlanError.Line line Cause.Count))
    (λ f. number_at line greatest_index f.0 >>= λ j. number_at line greatest f.1 >>= λ s. number_at line greatest f.2 >>= λ v. Ok (Call.UpdateIf j s v)) c e in
    let b = bind_ok (number_at line greatest_index a.0.0) (λ j. number_at line greatest a.0.1 >>= λ s. number_at line greatest a.0.2 >>= λ v. Ok (Call.UpdateIf j s v)) c a.2 in
    let d = bind_ok (number_at line greatest a.0.1) (λ s. number_at line greatest a.0.2 >>= λ v. Ok (Call.UpdateIf b.0 s v)) c b.2 in
    let g = bind_ok (number_at line greatest a.0.2) (λ v. Ok (Call.UpdateIf b.0 d.0 v)) c d.2 in
    let is = three_is fs a.0 (found_ok (exactly_three fs) (PlanError.Line line Cause.Count) a.0 a.1) in
    let j = number_at_ok line greatest_index a.0.0 b.0 (omega arith) b.1 in
    let s = number_at_ok line greatest a.0.1 d.0 (omega arith) d.1 in
    let v = number_at_ok line greatest a.0.2 g.0 (omega arith) g.1 in
    let same = ok_is (Call.UpdateIf b.0 d.0 g.0) c g.2 in
    let fields : fs ≡ decimal b.0 ∷ decimal d.0 ∷ decimal g.0 ∷ [] = cc (is, j.0, s.0, v.0) in
    let text : codes "updateif" ++ behind_each 32 fs ≡ call_text (Call.UpdateIf b.0 d.0 g.0) = ap (λ (l : List (List ℕ)). codes "updateif" ++ behind_each 32 l) fields in
    subst (λ (x : Call). (call_text x ≡ codes "updateif" ++ behind_each 32 fs) × IsCall m x) same (sym text, (omega (arith, j.1), omega (arith, s.1), omega (arith, v.1)))

pub chosen : {A : Type 0} (b : Bool) (x y : A) (z : A) → (if b then x else y) ≡ z → ((b ≡ true) × (x ≡ z)) ⊎ ((b ≡ false) × (y ≡ z))
chosen true x y z e = inl (refl, e)
chosen false x y z e = inr (refl, e)

from_word : (line m : ℕ) (word text : List ℕ) (c : Call) → bytes_eq (until 32 text) word ≡ true → (call_text c ≡ word ++ behind_each 32 (fields_of text)) × IsCall m c →
    (call_text c ≡ text) × IsCall m c
from_word line m word text c same h = (h.0 ∙ sym (with_word word text same), h.1)

-- what is read as a call is its text
pub call_ok : (line m : ℕ) (text : List ℕ) (c : Call) → call_text_at m line text ≡ Ok c → (call_text c ≡ text) × IsCall m c
unfolding call_text_at
call_ok line m text c e =
    let fs = fields_of text in
    let w = until 32 text in
    elim (chosen (bytes_eq w (codes "update")) (update_from line fs) (if bytes_eq w (codes "scan") then scan_from m line fs
    else (if bytes_eq w (codes "read") then read_from line fs else (if bytes_eq w (codes "updateif") then update_if_from line fs else Err (PlanError.Line line Cause.Word)))) (Ok c) e) [
      | inl h ↦ from_word line m (codes "update") text c h.0 (update_ok line m fs c h.1)
      | inr h ↦ elim (chosen (bytes_eq w (codes "scan")) (scan_from m line fs)
          (if bytes_eq w (codes "read") then read_from line fs else (if bytes_eq w (codes "updateif") then update_if_from line fs else Err (PlanError.Line line Cause.Word))) (Ok c) h.1) [
            | inl k ↦ from_word line m (codes "scan") text c k.0 (scan_ok line m fs c k.1)
            | inr k ↦ elim (chosen (bytes_eq w (codes "read")) (read_from line fs) (if bytes_eq w (codes "updateif") then update_if_from line fs
                else Err (PlanError.Line line Cause.Word)) (Ok c) k.1) [
                  | inl l ↦ from_word line m (codes "read") text c l.0 (read_ok line m fs c l.1)
                  | inr l ↦ let n = if_ok (bytes_eq w (codes "updateif")) (update_if_from line fs) (PlanError.Line line Cause.Word) c l.1 in from_word line m (codes "updateif") text c n.0
                      (update_if_ok line m fs c n.1)
                ]
          ]
    ]

pub calls_ok : (line m : ℕ) (found : List Call) (ts : List (List ℕ)) (all : List Call) → calls_at m line found ts ≡ Ok all → (cs : List Call) × (all ≡ found ++ cs) × (map call_text cs ≡ ts) ×
    AllByRecursion (IsCall m) cs
unfolding calls_at
calls_ok line m found [] all e = ([], sym (append-nil found ∙ ok_is found all e), refl, tt)
calls_ok line m found (t ∷ ts) all e =
    let b = bind_ok (call_text_at m line t) (λ (c : Call). calls_at m line (found ++ c ∷ []) ts) all e in
    let k = call_ok line m t b.0 b.1 in
    let r = calls_ok line m (found ++ b.0 ∷ []) ts all b.2 in
    (b.0 ∷ r.0, r.1 ∙ append_assoc found (b.0 ∷ []) r.0, cc (k.0, r.2), (k.1, r.3))

-- ---- texts in a row

abbrev pub behind_cuts : List (List ℕ) → List ℕ
behind_cuts ts = flat_map (λ (t : List ℕ). 59 ∷ 32 ∷ t) ts

cuts_onto : (x : ℕ) (ts : List (List ℕ)) (xs : List ℕ) → behind_cuts ts ≡ 59 ∷ 32 ∷ xs → behind_cuts (onto_first x ts) ≡ 59 ∷ 32 ∷ x ∷ xs
cuts_onto x [] xs h = absurd cc
cuts_onto x (t ∷ ts) xs h = ap (λ (l : List ℕ). 59 ∷ 32 ∷ x ∷ l) cc

cuts_step : (b : Bool) (x y : ℕ) (xs : List ℕ) → (nat_eq x 59 && nat_eq y 32) ≡ b → behind_cuts (call_texts xs) ≡ 59 ∷ 32 ∷ xs → behind_cuts (call_texts (y ∷ xs)) ≡ 59 ∷ 32 ∷ y ∷ xs
    → behind_cuts (if b then [] ∷ call_texts xs else onto_first x (call_texts (y ∷ xs))) ≡ 59 ∷ 32 ∷ x ∷ y ∷ xs
cuts_step true x y xs same h k =
    let both = and_both (x == 59) (y == 32) same in
    ap (λ (l : List ℕ). 59 ∷ 32 ∷ l) (h ∙ rw (eqb-true x 59 both.0, eqb-true y 32 both.1) refl)
cuts_step false x y xs same h k = cuts_onto x (call_texts (y ∷ xs)) (y ∷ xs) k

behind_texts : (xs : List ℕ) → behind_cuts (call_texts xs) ≡ 59 ∷ 32 ∷ xs
behind_texts [] = refl
behind_texts (x ∷ []) = refl
behind_texts (x ∷ y ∷ xs) = cuts_step (nat_eq x 59 && nat_eq y 32) x y xs refl (behind_texts xs) (behind_texts (y ∷ xs))

-- calls with these texts are the calls of this port line
port_by : (cs : List Call) (text : List ℕ) → behind_cuts (map call_text cs) ≡ 59 ∷ 32 ∷ text → port_line cs ≡ codes "port" ++ 32 ∷ text
port_by [] text h = absurd cc
port_by (c ∷ cs) text h =
    let rest : flat_map next_call cs ≡ behind_cuts (map call_text cs) = sym (flat_map-map (λ (t : List ℕ). 59 ∷ 32 ∷ t) call_text cs) in
    let same : call_text c ++ behind_cuts (map call_text cs) ≡ text = cc in
    ap (λ (l : List ℕ). codes "port" ++ 32 ∷ (call_text c ++ l)) rest ∙ ap (λ (l : List ℕ). codes "port" ++ 32 ∷ l) same

pub port_ok : (line m : ℕ) (behind : List ℕ) (cs : List Call) → port_line_at m line behind ≡ Ok cs → (behind ≡ [] ⊎ behind ≡ 32 ∷ drop 1 behind) → (port_line cs ≡ codes "port" ++ behind) ×
    AllByRecursion (IsCall m) cs
unfolding port_line_at
port_ok line m [] cs e head = subst (λ (x : List Call). (port_line x ≡ codes "port" ++ []) × AllByRecursion (IsCall m) x) (ok_is [] cs e) (refl, tt)
port_ok line m (x ∷ text) cs e head =
    let r = calls_ok line m [] (call_texts text) cs e in
    let texts : behind_cuts (map call_text r.0) ≡ 59 ∷ 32 ∷ text = ap behind_cuts r.2 ∙ behind_texts text in
    let space : x ∷ text ≡ 32 ∷ text = elim head [ inl h ↦ absurd cc | inr h ↦ h ] in
    (ap port_line r.1 ∙ port_by r.0 text texts ∙ ap (λ (l : List ℕ). codes "port" ++ l) (sym space), subst (AllByRecursion (IsCall m)) (sym r.1) r.3)
