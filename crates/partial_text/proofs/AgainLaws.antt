-- The text of a plan is read as the plan.
use Rattle.partial_text.proofs.{Common.{◌≡◌, ℕ, ◌+◌, ◌^◌, ◌<◌, ◌≤◌, Bool, true, false, if◌then◌else◌, nat_eq, ◌==◌, nat_le, nat_lt, ◌&&◌, List, [], ◌∷◌, ◌++◌, length, map, drop, codes, Result, Ok, Err, refl, sym, ap, subst, ◌∙◌, append_assoc, eq-eqb, arith, decimal, flat_map, AllByRecursion, bytes_eq, ne_eqb, le-leb, lt-ltb, le-ltb, append-nil, length-append, length-map, flat_map-map, bytes_eq-Decides, Call, PlanError, until, from, onto_first, pieces, ◌>>=◌, PlanView, field, number_field, sizes_line, initial_line, call_text, next_call, port_line, entry_text, rest_text, steps_line, ended_line, plan_text, IsCall, IsTurnEntry, IsPlan, Tail, greatest, greatest_index, fields_of, number_at, in_range, call_texts, is_nil, is_rest, is_end, tail_at, Layout, IsLayout, initial_words}, CallCuts.{cut_more, no_semicolon}, Steps.{tail_by, tail_step}, NumberLaws.{both_and, HasNo, HasNo-append, HasNo-decimal, IsNoDigit}, PieceLaws.{behind_each, until_joined, pieces_before}, FieldLaws.{number_at_again, numbers_again, behind_numbers, word_again, fields_again, HasNo-numbers, HasNo-fields, space_no_digit, newline_no_digit, star_no_digit, semicolon_no_digit}, CallLaws.behind_cuts, PlanLaws.ended_port}
use Rattle.partial_text.specs.declared.fault.Cause.{Cause}
use Rattle.partial_text.specs.Judging.{sizes_from, sizes_at, initial_at, update_from, scan_from, read_from, update_if_from, call_text_at, calls_at, port_line_at, entry_text_at, entries_at, line_at, more_ports, last_at, lines_judged, judged_plan}

-- ---- calls

update_again : (line j v : ℕ) → j ≤ greatest_index → v ≤ greatest → update_from line (decimal j ∷ decimal v ∷ []) ≡ Ok (Call.Update j v)
unfolding update_from
update_again line j v a b = rw (number_at_again line greatest_index j (omega arith) a, number_at_again line greatest v (omega arith) b) refl

indices_within : (js : List ℕ) → AllByRecursion (λ (j : ℕ). j < 2 ^ 32) js → AllByRecursion (λ (j : ℕ). j ≤ greatest_index) js
indices_within [] fits = tt
indices_within (j ∷ js) fits = (omega (arith, fits.0), indices_within js fits.1)

indices_small : (js : List ℕ) → AllByRecursion (λ (j : ℕ). j < 2 ^ 32) js → AllByRecursion (λ (j : ℕ). j < 2 ^ 64) js
indices_small [] fits = tt
indices_small (j ∷ js) fits = (omega (arith, fits.0), indices_small js fits.1)

scan_again : (m line : ℕ) (js : List ℕ) → length js ≤ m → AllByRecursion (λ (j : ℕ). j < 2 ^ 32) js → scan_from m line (map decimal js) ≡ Ok (Call.Scan js)
unfolding scan_from
scan_again m line js few fits =
    let within : nat_lt m (length (map decimal js)) ≡ false = le-ltb m (length (map decimal js)) (omega (arith, length-map js decimal)) in
    rw (within, numbers_again line greatest_index [] js (omega arith) (indices_within js fits)) refl

read_again : (line j : ℕ) → j ≤ greatest_index → read_from line (decimal j ∷ []) ≡ Ok (Call.Read j)
unfolding read_from
read_again line j a = rw (number_at_again line greatest_index j (omega arith) a) refl

update_if_again : (line j s v : ℕ) → j ≤ greatest_index → s ≤ greatest → v ≤ greatest → update_if_from line (decimal j ∷ decimal s ∷ decimal v ∷ []) ≡ Ok (Call.UpdateIf j s v)
unfolding update_if_from
update_if_again line j s v a b c =
    rw (number_at_again line greatest_index j (omega arith) a, number_at_again line greatest s (omega arith) b, number_at_again line greatest v (omega arith) c) refl

abbrev call_by : ℕ → ℕ → List ℕ → List (List ℕ) → Result Call PlanError
call_by m line w fs =
    if bytes_eq w (codes "update") then update_from line fs else (if bytes_eq w (codes "scan") then scan_from m line fs
    else (if bytes_eq w (codes "read") then read_from line fs else (if bytes_eq w (codes "updateif") then update_if_from line fs else Err (PlanError.Line line Cause.Word))))

call_is : (m line : ℕ) (text : List ℕ) → call_text_at m line text ≡ call_by m line (until 32 text) (fields_of text)
unfolding call_text_at
call_is m line text = refl

call_parts : (m line : ℕ) (word : List ℕ) (fs : List (List ℕ)) → HasNo 32 word → AllByRecursion (HasNo 32) fs → call_text_at m line (word ++ behind_each 32 fs) ≡ call_by m line word fs
call_parts m line word fs none nones =
    let text = word ++ behind_each 32 fs in
    call_is m line text ∙ ap (λ (w : List ℕ). call_by m line w (fields_of text)) (until_joined 32 word fs none).0 ∙ ap (call_by m line word) (fields_again word fs none nones)

pub call_again : (m line : ℕ) (c : Call) → IsCall m c → call_text_at m line (call_text c) ≡ Ok c
call_again m line (Call.Update j v) fits =
    call_parts m line (codes "update") (decimal j ∷ decimal v ∷ []) (refl, (refl, (refl, (refl, (refl, (refl, tt))))))
    (HasNo-decimal 32 j space_no_digit (omega (arith, fits.0)), (HasNo-decimal 32 v space_no_digit fits.1, tt)) ∙ update_again line j v (omega (arith, fits.0)) (omega (arith, fits.1))
call_again m line (Call.Scan js) fits =
    ap (λ (l : List ℕ). call_text_at m line (codes "scan" ++ l)) (sym (behind_numbers js)) ∙ call_parts m line (codes "scan") (map decimal js) (refl, (refl, (refl, (refl, tt))))
    (HasNo-numbers 32 js space_no_digit (indices_small js fits.1)) ∙ scan_again m line js fits.0 fits.1
call_again m line (Call.Read j) fits =
    call_parts m line (codes "read") (decimal j ∷ []) (refl, (refl, (refl, (refl, tt)))) (HasNo-decimal 32 j space_no_digit (omega (arith, fits)), tt) ∙ read_again line j (omega (arith, fits))
call_again m line (Call.UpdateIf j s v) fits =
    call_parts m line (codes "updateif") (decimal j ∷ decimal s ∷ decimal v ∷ []) (refl, (refl, (refl, (refl, (refl, (refl, (refl, (refl, tt))))))))
    (HasNo-decimal 32 j space_no_digit (omega (arith, fits.0)), (HasNo-decimal 32 s space_no_digit fits.1, (HasNo-decimal 32 v space_no_digit fits.2, tt))) ∙ update_if_again line j s v
    (omega (arith, fits.0)) (omega (arith, fits.1)) (omega (arith, fits.2))

calls_again : (m line : ℕ) (found cs : List Call) → AllByRecursion (IsCall m) cs → calls_at m line found (map call_text cs) ≡ Ok (found ++ cs)
unfolding calls_at
calls_again m line found [] fits = ap Ok (sym (append-nil found))
calls_again m line found (c ∷ cs) fits =
    rw (call_again m line c fits.0) (calls_again m line (found ++ c ∷ []) cs fits.1 ∙ ap Ok (append_assoc found (c ∷ []) cs))

-- no byte of a call's text is the newline or the semicolon
HasNo-call : (c m : ℕ) (x : Call) → IsNoDigit c → nat_eq 32 c ≡ false → HasNo c (codes "update") → HasNo c (codes "scan") → HasNo c (codes "read") → HasNo c (codes "updateif") →
    IsCall m x → HasNo c (call_text x)
HasNo-call c m (Call.Update j v) none space a s b d fits =
    HasNo-append c (codes "update") (flat_map number_field (j ∷ v ∷ [])) a (HasNo-fields c (j ∷ v ∷ []) none space (omega (arith, fits.0), (fits.1, tt)))
HasNo-call c m (Call.Scan js) none space a s b d fits =
    HasNo-append c (codes "scan") (flat_map number_field js) s (HasNo-fields c js none space (indices_small js fits.1))
HasNo-call c m (Call.Read j) none space a s b d fits =
    HasNo-append c (codes "read") (flat_map number_field (j ∷ [])) b (HasNo-fields c (j ∷ []) none space (omega (arith, fits), tt))
HasNo-call c m (Call.UpdateIf j e v) none space a s b d fits =
    HasNo-append c (codes "updateif") (flat_map number_field (j ∷ e ∷ v ∷ [])) d (HasNo-fields c (j ∷ e ∷ v ∷ []) none space (omega (arith, fits.0), (fits.1, (fits.2, tt))))

semicolon_call : (m : ℕ) (x : Call) → IsCall m x → HasNo 59 (call_text x)
semicolon_call m x fits =
    HasNo-call 59 m x semicolon_no_digit refl (refl, (refl, (refl, (refl, (refl, (refl, tt)))))) (refl, (refl, (refl, (refl, tt)))) (refl, (refl, (refl, (refl, tt))))
    (refl, (refl, (refl, (refl, (refl, (refl, (refl, (refl, tt)))))))) fits

newline_call : (m : ℕ) (x : Call) → IsCall m x → HasNo 10 (call_text x)
newline_call m x fits =
    HasNo-call 10 m x newline_no_digit refl (refl, (refl, (refl, (refl, (refl, (refl, tt)))))) (refl, (refl, (refl, (refl, tt)))) (refl, (refl, (refl, (refl, tt))))
    (refl, (refl, (refl, (refl, (refl, (refl, (refl, (refl, tt)))))))) fits

first_text : (t zs : List ℕ) (ts : List (List ℕ)) → HasNo 59 t → call_texts zs ≡ [] ∷ ts → call_texts (t ++ zs) ≡ t ∷ ts
first_text [] zs ts none h = h
first_text (x ∷ t) zs ts none h = cut_more x (t ++ zs) (no_semicolon x (t ++ zs) none.0) ∙ ap (onto_first x) (first_text t zs ts none.1 h)

texts_again : (t : List ℕ) (ts : List (List ℕ)) → HasNo 59 t → AllByRecursion (HasNo 59) ts → call_texts (t ++ behind_cuts ts) ≡ t ∷ ts
texts_again t [] none nones = first_text t [] [] none refl
texts_again t (u ∷ us) none nones =
    first_text t (59 ∷ 32 ∷ (u ++ behind_cuts us)) (u ∷ us) none (ap (λ (l : List (List ℕ)). [] ∷ l) (texts_again u us nones.0 nones.1))

semicolon_calls : (m : ℕ) (cs : List Call) → AllByRecursion (IsCall m) cs → AllByRecursion (HasNo 59) (map call_text cs)
semicolon_calls m [] fits = tt
semicolon_calls m (c ∷ cs) fits = (semicolon_call m c fits.0, semicolon_calls m cs fits.1)

-- the bytes after the word of a port line
abbrev port_behind : List Call → List ℕ
port_behind [] = []
port_behind (c ∷ cs) = 32 ∷ (call_text c ++ flat_map next_call cs)

port_parts : (cs : List Call) → (until 32 (port_line cs) ≡ codes "port") × (from 32 (port_line cs) ≡ port_behind cs)
port_parts [] = (refl, refl)
port_parts (c ∷ cs) = (refl, refl)

port_again : (m line : ℕ) (cs : List Call) → AllByRecursion (IsCall m) cs → port_line_at m line (port_behind cs) ≡ Ok cs
unfolding port_line_at
port_again m line [] fits = refl
port_again m line (c ∷ cs) fits =
    let rest : flat_map next_call cs ≡ behind_cuts (map call_text cs) = sym (flat_map-map (λ (t : List ℕ). 59 ∷ 32 ∷ t) call_text cs) in
    ap (λ (l : List ℕ). calls_at m line [] (call_texts (call_text c ++ l))) rest ∙ ap (calls_at m line [])
    (texts_again (call_text c) (map call_text cs) (semicolon_call m c fits.0) (semicolon_calls m cs fits.1)) ∙ calls_again m line [] (c ∷ cs) fits

-- ---- turns

HasNo-entry : (c : ℕ) (e : ℕ × ℕ) (ports : ℕ) → IsNoDigit c → nat_eq 42 c ≡ false → ports ≤ 2 ^ 64 → IsTurnEntry ports e → HasNo c (entry_text e)
HasNo-entry c e ports none star few fits =
    HasNo-append c (decimal e.0) (42 ∷ decimal e.1) (HasNo-decimal c e.0 none (omega (arith, fits.0))) (star, HasNo-decimal c e.1 none (omega (arith, fits.2)))

entry_again : (line ports : ℕ) (e : ℕ × ℕ) → ports ≤ 64 → IsTurnEntry ports e → entry_text_at line ports (entry_text e) ≡ Ok e
unfolding entry_text_at
entry_again line ports e few fits =
    let parts = until_joined 42 (decimal e.0) (decimal e.1 ∷ []) (HasNo-decimal 42 e.0 star_no_digit (omega (arith, fits.0))) in
    let same : decimal e.0 ++ behind_each 42 (decimal e.1 ∷ []) ≡ entry_text e = ap (λ (l : List ℕ). decimal e.0 ++ 42 ∷ l) (append-nil (decimal e.1)) in
    let front : until 42 (entry_text e) ≡ decimal e.0 = ap (until 42) (sym same) ∙ parts.0 in
    let back : drop 1 (from 42 (entry_text e)) ≡ decimal e.1 = ap (λ (l : List ℕ). drop 1 (from 42 l)) (sym same) ∙ ap (drop 1) parts.1 ∙ append-nil (decimal e.1) in
    let a : number_at line greatest_index (until 42 (entry_text e)) ≡ Ok e.0 = ap (number_at line greatest_index) front ∙ number_at_again line greatest_index e.0 (omega arith)
    (omega (arith, fits.0)) in
    let b : number_at line greatest_index (drop 1 (from 42 (entry_text e))) ≡ Ok e.1 = ap (number_at line greatest_index) back ∙ number_at_again line greatest_index e.1 (omega arith)
    (omega (arith, fits.2)) in
    let within : (nat_lt e.0 ports && nat_lt 0 e.1) ≡ true = both_and (nat_lt e.0 ports) (nat_lt 0 e.1) (lt-ltb e.0 ports fits.0) (lt-ltb 0 e.1 (omega (arith, fits.1))) in
    rw (a, b, within) refl

-- an entry is not the word for the rest
entry_no_rest : (e : ℕ × ℕ) → e.0 < 2 ^ 64 → bytes_eq (entry_text e) (codes "rest") ≡ true → ⊥
entry_no_rest e small h =
    let same : entry_text e ≡ codes "rest" = (bytes_eq-Decides (entry_text e) (codes "rest")).0 h in
    let parts = until_joined 42 (decimal e.0) (decimal e.1 ∷ []) (HasNo-decimal 42 e.0 star_no_digit small) in
    let whole : decimal e.0 ++ behind_each 42 (decimal e.1 ∷ []) ≡ codes "rest" = ap (λ (l : List ℕ). decimal e.0 ++ 42 ∷ l) (append-nil (decimal e.1)) ∙ same in
    let star : 42 ∷ (decimal e.1 ++ []) ≡ [] = sym parts.1 ∙ ap (from 42) whole in
    absurd cc

not_rest : (b : Bool) (c : Bool) → (c ≡ true → ⊥) → (b && c) ≡ false
not_rest true true h = absurd (h refl)
not_rest true false h = refl
not_rest false c h = refl

abbrev rest_fields : Bool → List (List ℕ)
rest_fields true = codes "rest" ∷ []
rest_fields false = []

abbrev turn_fields : List (ℕ × ℕ) → Bool → List (List ℕ)
turn_fields es rest = map entry_text es ++ rest_fields rest

entries_again : (line ports : ℕ) (found es : List (ℕ × ℕ)) (rest : Bool) → ports ≤ 64 → AllByRecursion (IsTurnEntry ports) es →
    entries_at line ports found (turn_fields es rest) ≡ Ok (found ++ es, rest)
unfolding entries_at
entries_again line ports found [] true few fits = ap (λ (l : List (ℕ × ℕ)). Ok (l, true)) (sym (append-nil found))
entries_again line ports found [] false few fits = ap (λ (l : List (ℕ × ℕ)). Ok (l, false)) (sym (append-nil found))
entries_again line ports found (e ∷ es) rest few fits =
    let fs = turn_fields es rest in
    let goes_on : is_rest (entry_text e) fs ≡ false = not_rest (is_nil fs) (bytes_eq (entry_text e) (codes "rest")) (entry_no_rest e (omega (arith, fits.0.0))) in
    rw (goes_on, entry_again line ports e few fits.0) (entries_again line ports (found ++ e ∷ []) es rest few fits.1 ∙ ap (λ (l : List (ℕ × ℕ)). Ok (l, rest)) (append_assoc found (e ∷ []) es))

behind_turns : (es : List (ℕ × ℕ)) (rest : Bool) → behind_each 32 (turn_fields es rest) ≡ flat_map (λ (e : ℕ × ℕ). field (entry_text e)) es ++ rest_text rest
behind_turns [] true = refl
behind_turns [] false = refl
behind_turns (e ∷ es) rest =
    ap (λ (l : List ℕ). field (entry_text e) ++ l) (behind_turns es rest) ∙ sym (append_assoc (field (entry_text e)) (flat_map (λ (e : ℕ × ℕ). field (entry_text e)) es) (rest_text rest))

steps_is : (es : List (ℕ × ℕ)) (rest : Bool) → steps_line es rest ≡ codes "steps" ++ behind_each 32 (turn_fields es rest)
steps_is es rest =
    append_assoc (codes "steps") (flat_map (λ (e : ℕ × ℕ). field (entry_text e)) es) (rest_text rest) ∙ ap (λ (l : List ℕ). codes "steps" ++ l) (sym (behind_turns es rest))

HasNo-turns : (c ports : ℕ) (es : List (ℕ × ℕ)) (rest : Bool) → IsNoDigit c → nat_eq 42 c ≡ false → HasNo c (codes "rest") → ports ≤ 64 → AllByRecursion (IsTurnEntry ports) es →
    AllByRecursion (HasNo c) (turn_fields es rest)
HasNo-turns c ports [] true none star word few fits = (word, tt)
HasNo-turns c ports [] false none star word few fits = tt
HasNo-turns c ports (e ∷ es) rest none star word few fits = (HasNo-entry c e ports none star (omega arith) fits.0, HasNo-turns c ports es rest none star word few fits.1)

HasNo-behind : (c : ℕ) (fs : List (List ℕ)) → nat_eq 32 c ≡ false → AllByRecursion (HasNo c) fs → HasNo c (behind_each 32 fs)
HasNo-behind c [] space nones = tt
HasNo-behind c (f ∷ fs) space nones = (space, HasNo-append c f (behind_each 32 fs) nones.0 (HasNo-behind c fs space nones.1))

-- ---- the first two lines

in_range_again : (s : Layout) → IsLayout s → in_range s ≡ Ok s
in_range_again s fits =
    let a = both_and (nat_le 1 s.m) (nat_le s.m 65536) (le-leb 1 s.m fits.components.0) (le-leb s.m 65536 fits.components.1) in
    let b = both_and (nat_le 1 s.slots) (nat_le s.slots 65536) (le-leb 1 s.slots fits.slots.0) (le-leb s.slots 65536 fits.slots.1) in
    let d = both_and (nat_le (initial_words s) s.pool) (nat_le s.pool 4194304) (le-leb (initial_words s) s.pool fits.pool.0) (le-leb s.pool 4194304 fits.pool.1) in
    rw (a, b, le-leb s.lists 65536 fits.lists, d) refl

sizes_from_again : (s : Layout) → IsLayout s → sizes_from (decimal s.m ∷ decimal s.slots ∷ decimal s.lists ∷ decimal s.pool ∷ []) ≡ Ok s
unfolding sizes_from
sizes_from_again s fits =
    rw (
      number_at_again 1 greatest_index s.m (omega arith) (omega (arith, fits.components)),
      number_at_again 1 greatest_index s.slots (omega arith) (omega (arith, fits.slots)),
      number_at_again 1 greatest_index s.lists (omega arith) (omega (arith, fits.lists)),
      number_at_again 1 greatest_index s.pool (omega arith) (omega (arith, fits.pool)),
    ) (in_range_again s fits)

abbrev size_numbers : Layout → List ℕ
size_numbers s = s.m ∷ s.slots ∷ s.lists ∷ s.pool ∷ []

sizes_small : (s : Layout) → IsLayout s → AllByRecursion (λ (n : ℕ). n < 2 ^ 64) (size_numbers s)
sizes_small s fits = (omega (arith, fits.components), (omega (arith, fits.slots), (omega (arith, fits.lists), (omega (arith, fits.pool), tt))))

sizes_word : HasNo 32 (codes "sizes")
sizes_word = (refl, (refl, (refl, (refl, (refl, tt)))))

abbrev sizes_by : Bool → List (List ℕ) → Result Layout PlanError
sizes_by word fs = if word then sizes_from fs else Err (PlanError.Line 1 Cause.Word)

sizes_is : (l : List ℕ) → sizes_at l ≡ sizes_by (bytes_eq (until 32 l) (codes "sizes")) (fields_of l)
unfolding sizes_at
sizes_is l = refl

sizes_again : (s : Layout) → IsLayout s → sizes_at (sizes_line s) ≡ Ok s
sizes_again s fits =
    let fs = map decimal (size_numbers s) in
    let l = codes "sizes" ++ behind_each 32 fs in
    let nones = HasNo-numbers 32 (size_numbers s) space_no_digit (sizes_small s fits) in
    sizes_is l ∙ ap (λ (w : Bool). sizes_by w (fields_of l)) (word_again (codes "sizes") fs sizes_word) ∙ ap (sizes_by true) (fields_again (codes "sizes") fs sizes_word nones) ∙
    sizes_from_again s fits

initial_word : HasNo 32 (codes "initial")
initial_word = (refl, (refl, (refl, (refl, (refl, (refl, (refl, tt)))))))

values_within : (vs : List ℕ) → AllByRecursion (λ (v : ℕ). v < 2 ^ 64) vs → AllByRecursion (λ (v : ℕ). v ≤ greatest) vs
values_within [] fits = tt
values_within (v ∷ vs) fits = (omega (arith, fits.0), values_within vs fits.1)

initial_is : (vs : List ℕ) → initial_line vs ≡ codes "initial" ++ behind_each 32 (map decimal vs)
initial_is vs = ap (λ (l : List ℕ). codes "initial" ++ l) (sym (behind_numbers vs))

initial_by : (m : ℕ) (vs : List ℕ) → length vs ≡ m → AllByRecursion (λ (v : ℕ). v < 2 ^ 64) vs → initial_at m (codes "initial" ++ behind_each 32 (map decimal vs)) ≡ Ok vs
unfolding initial_at
initial_by m vs many fits =
    let fs = map decimal vs in
    let nones = HasNo-numbers 32 vs space_no_digit fits in
    let counted : nat_eq (length fs) m ≡ true = eq-eqb (length fs) m (length-map vs decimal ∙ many) in
    rw (word_again (codes "initial") fs initial_word, fields_again (codes "initial") fs initial_word nones, counted) (numbers_again 2 greatest [] vs (omega arith) (values_within vs fits))

initial_again : (m : ℕ) (vs : List ℕ) → length vs ≡ m → AllByRecursion (λ (v : ℕ). v < 2 ^ 64) vs → initial_at m (initial_line vs) ≡ Ok vs
initial_again m vs many fits = ap (initial_at m) (initial_is vs) ∙ initial_by m vs many fits

-- ---- the lines

HasNo-sizes : (s : Layout) → IsLayout s → HasNo 10 (sizes_line s)
HasNo-sizes s fits =
    HasNo-append 10 (codes "sizes") (flat_map number_field (size_numbers s)) (refl, (refl, (refl, (refl, (refl, tt))))) (HasNo-fields 10 (size_numbers s) newline_no_digit refl (sizes_small s fits))

HasNo-initial : (vs : List ℕ) → AllByRecursion (λ (v : ℕ). v < 2 ^ 64) vs → HasNo 10 (initial_line vs)
HasNo-initial vs fits =
    HasNo-append 10 (codes "initial") (flat_map number_field vs) (refl, (refl, (refl, (refl, (refl, (refl, (refl, tt))))))) (HasNo-fields 10 vs newline_no_digit refl fits)

HasNo-calls : (m : ℕ) (cs : List Call) → AllByRecursion (IsCall m) cs → HasNo 10 (flat_map next_call cs)
HasNo-calls m [] fits = tt
HasNo-calls m (c ∷ cs) fits = (refl, (refl, HasNo-append 10 (call_text c) (flat_map next_call cs) (newline_call m c fits.0) (HasNo-calls m cs fits.1)))

HasNo-port : (m : ℕ) (cs : List Call) → AllByRecursion (IsCall m) cs → HasNo 10 (port_line cs)
HasNo-port m [] fits = (refl, (refl, (refl, (refl, tt))))
HasNo-port m (c ∷ cs) fits =
    (refl, (refl, (refl, (refl, (refl, HasNo-append 10 (call_text c) (flat_map next_call cs) (newline_call m c fits.0) (HasNo-calls m cs fits.1))))))

HasNo-steps : (ports : ℕ) (es : List (ℕ × ℕ)) (rest : Bool) → ports ≤ 64 → AllByRecursion (IsTurnEntry ports) es → HasNo 10 (steps_line es rest)
HasNo-steps ports es rest few fits =
    subst (HasNo 10) (sym (steps_is es rest)) (HasNo-append 10 (codes "steps") (behind_each 32 (turn_fields es rest)) (refl, (refl, (refl, (refl, (refl, tt)))))
    (HasNo-behind 10 (turn_fields es rest) refl (HasNo-turns 10 ports es rest newline_no_digit refl (refl, (refl, (refl, (refl, tt)))) few fits)))

-- the lines of ports and turns, with nothing after the last newline
abbrev last_lines : List (List Call) → List ℕ → List (List ℕ)
last_lines ports last = map port_line ports ++ last ∷ [] ∷ []

pieces_last : (m : ℕ) (ports : List (List Call)) (last : List ℕ) → AllByRecursion (λ cs. AllByRecursion (IsCall m) cs) ports → HasNo 10 last →
    pieces 10 (flat_map ended_port ports ++ ended_line last) ≡ last_lines ports last
pieces_last m [] last fits none = pieces_before 10 last [] none
pieces_last m (cs ∷ ports) last fits none =
    let behind = flat_map ended_port ports ++ ended_line last in
    let regroup : flat_map ended_port (cs ∷ ports) ++ ended_line last ≡ port_line cs ++ 10 ∷ behind = append_assoc (ended_port cs) (flat_map ended_port ports) (ended_line last) ∙ append_assoc
    (port_line cs) (10 ∷ []) behind in
    ap (pieces 10) regroup ∙ pieces_before 10 (port_line cs) behind (HasNo-port m cs fits.0) ∙ ap (λ (ls : List (List ℕ)). port_line cs ∷ ls) (pieces_last m ports last fits.1 none)

line_again : (line : ℕ) (l : List ℕ) (ports : List (List Call)) (last : List ℕ) → line_at line (l ∷ last_lines ports last) ≡ Ok (l, last_lines ports last)
unfolding line_at
line_again line l [] last = refl
line_again line l (cs ∷ ports) last = refl

line_last : (line : ℕ) (l : List ℕ) → line_at line (l ∷ [] ∷ []) ≡ Ok (l, [] ∷ [])
unfolding line_at
line_last line l = refl

steps_word : HasNo 32 (codes "steps")
steps_word = (refl, (refl, (refl, (refl, (refl, tt)))))

abbrev last_by : ℕ → ℕ → Bool → List (List ℕ) → List (List ℕ) → Result (List (ℕ × ℕ) × Bool) PlanError
last_by line ports word fs behind =
    if word then (if ports == 0 then Err PlanError.Ports else (entries_at line ports [] fs >>= λ steps. if is_end behind then Ok steps else Err (PlanError.Line (line + 1) Cause.Extra)))
    else Err (PlanError.Line line Cause.Word)

last_is : (line ports : ℕ) (l : List ℕ) (behind : List (List ℕ)) → last_at line ports l behind ≡ last_by line ports (bytes_eq (until 32 l) (codes "steps")) (fields_of l) behind
unfolding last_at
last_is line ports l behind = refl

last_again : (line ports : ℕ) (es : List (ℕ × ℕ)) (rest : Bool) → 1 ≤ ports → ports ≤ 64 → AllByRecursion (IsTurnEntry ports) es → last_at line ports (steps_line es rest) ([] ∷ []) ≡ Ok (es, rest)
last_again line ports es rest some few fits =
    let fs = turn_fields es rest in
    let l = codes "steps" ++ behind_each 32 fs in
    let nones = HasNo-turns 32 ports es rest space_no_digit refl (refl, (refl, (refl, (refl, tt)))) few fits in
    let there : nat_eq ports 0 ≡ false = ne_eqb ports 0 (λ e. omega arith) in
    let whole : last_by line ports true fs ([] ∷ []) ≡ Ok (es, rest) = rw (there, entries_again line ports [] es rest few fits) refl in
    ap (λ (x : List ℕ). last_at line ports x ([] ∷ [])) (steps_is es rest) ∙ last_is line ports l ([] ∷ []) ∙ ap (λ (w : Bool). last_by line ports w (fields_of l) ([] ∷ []))
    (word_again (codes "steps") fs steps_word) ∙ ap (λ (x : List (List ℕ)). last_by line ports true x ([] ∷ [])) (fields_again (codes "steps") fs steps_word nones) ∙ whole

-- the last line is no port line
not_port : (es : List (ℕ × ℕ)) (rest : Bool) → bytes_eq (until 32 (steps_line es rest)) (codes "port") ≡ false
not_port es rest =
    ap (λ (x : List ℕ). bytes_eq (until 32 x) (codes "port")) (steps_is es rest) ∙ ap (λ (w : List ℕ). bytes_eq w (codes "port")) (until_joined 32 (codes "steps") (turn_fields es rest) steps_word).0

more_again : (m line : ℕ) (found : List (List Call)) (cs : List Call) → length found < 64 → AllByRecursion (IsCall m) cs → more_ports m line found (port_behind cs) ≡ Ok (found ++ cs ∷ [])
unfolding more_ports
more_again m line found cs few fits = rw (lt-ltb (length found) 64 few, port_again m line cs fits) refl

port_step : (m line : ℕ) (found : List (List Call)) (l : List ℕ) (ls : List (List ℕ)) (all : List (List Call)) → bytes_eq (until 32 l) (codes "port") ≡ true →
    more_ports m line found (from 32 l) ≡ Ok all → tail_by m line found (l, ls) ≡ tail_at m (line + 1) all ls
port_step m line found l ls all port taken = rw (port, taken) refl

last_step : (m line : ℕ) (found : List (List Call)) (l : List ℕ) (behind : List (List ℕ)) (s : List (ℕ × ℕ) × Bool) → bytes_eq (until 32 l) (codes "port") ≡ false →
    last_at line (length found) l behind ≡ Ok s → tail_by m line found (l, behind) ≡ Ok (record { ports = found; steps = s.0; rest = s.1 })
last_step m line found l behind s other taken = rw (other, taken) refl

tail_again : (m line : ℕ) (found more : List (List Call)) (es : List (ℕ × ℕ)) (rest : Bool) → AllByRecursion (λ cs. AllByRecursion (IsCall m) cs) more → 1 ≤ length (found ++ more) →
    length (found ++ more) ≤ 64 → AllByRecursion (IsTurnEntry (length (found ++ more))) es
    → tail_at m line found (last_lines more (steps_line es rest)) ≡ Ok (record { ports = found ++ more; steps = es; rest = rest })
tail_again m line found [] es rest calls some few fits =
    let l = steps_line es rest in
    let all : found ++ [] ≡ found = append-nil found in
    let many : length (found ++ []) ≡ length found = ap length all in
    let step : tail_at m line found (l ∷ [] ∷ []) ≡ tail_by m line found (l, [] ∷ []) =
    tail_step m line found (l ∷ [] ∷ []) ∙ ap (λ (r : Result (List ℕ × List (List ℕ)) PlanError). r >>= tail_by m line found) (line_last line l) in
    let last : last_at line (length found) l ([] ∷ []) ≡ Ok (es, rest) = last_again line (length found) es rest (omega (arith, many)) (omega (arith, many))
    (subst (λ (n : ℕ). AllByRecursion (IsTurnEntry n) es) many fits) in
    step ∙ last_step m line found l ([] ∷ []) (es, rest) (not_port es rest) last ∙ ap (λ (x : List (List Call)). Ok (record { ports = x; steps = es; rest = rest })) (sym all)
tail_again m line found (cs ∷ more) es rest calls some few fits =
    let l = port_line cs in
    let ls = last_lines more (steps_line es rest) in
    let parts = port_parts cs in
    let regroup : (found ++ cs ∷ []) ++ more ≡ found ++ cs ∷ more = append_assoc found (cs ∷ []) more in
    let many : length found < 64 = omega (arith, length-append found (cs ∷ more)) in
    let port : bytes_eq (until 32 l) (codes "port") ≡ true = ap (λ (w : List ℕ). bytes_eq w (codes "port")) parts.0 in
    let taken : more_ports m line found (from 32 l) ≡ Ok (found ++ cs ∷ []) = ap (more_ports m line found) parts.1 ∙ more_again m line found cs many calls.0 in
    let step : tail_at m line found (l ∷ ls) ≡ tail_by m line found (l, ls) = tail_step m line found (l ∷ ls) ∙ ap (λ (r : Result (List ℕ × List (List ℕ)) PlanError). r >>= tail_by m line found)
    (line_again line l more (steps_line es rest)) in
    let rest_is = tail_again m (line + 1) (found ++ cs ∷ []) more es rest calls.1 (subst (λ (x : List (List Call)). 1 ≤ length x) (sym regroup) some)
    (subst (λ (x : List (List Call)). length x ≤ 64) (sym regroup) few) (subst (λ (x : List (List Call)). AllByRecursion (IsTurnEntry (length x)) es) (sym regroup) fits) in
    step ∙ port_step m line found l ls (found ++ cs ∷ []) port taken ∙ rest_is ∙ ap (λ (x : List (List Call)). Ok (record { ports = x; steps = es; rest = rest })) regroup

-- the text of a plan is cut into its lines
lines_are : (p : PlanView) → IsPlan p → pieces 10 (plan_text p) ≡ sizes_line p.sizes ∷ initial_line p.initial ∷ last_lines p.ports (steps_line p.steps p.rest)
lines_are p fits =
    let one = sizes_line p.sizes in
    let two = initial_line p.initial in
    let three = flat_map ended_port p.ports in
    let four = ended_line (steps_line p.steps p.rest) in
    let regroup : plan_text p ≡ one ++ 10 ∷ (two ++ 10 ∷ (three ++ four)) =
    append_assoc (ended_line one ++ ended_line two) three four ∙ append_assoc (ended_line one) (ended_line two) (three ++ four) ∙ append_assoc one (10 ∷ [])
    (ended_line two ++ (three ++ four)) ∙ ap (λ (l : List ℕ). one ++ 10 ∷ l) (append_assoc two (10 ∷ []) (three ++ four)) in
    let none = HasNo-steps (length p.ports) p.steps p.rest fits.few_ports fits.steps in
    ap (pieces 10) regroup ∙ pieces_before 10 one (two ++ 10 ∷ (three ++ four)) (HasNo-sizes p.sizes fits.sizes) ∙ ap (λ (ls : List (List ℕ)). one ∷ ls)
    (pieces_before 10 two (three ++ four) (HasNo-initial p.initial fits.values) ∙ ap (λ (ls : List (List ℕ)). two ∷ ls) (pieces_last p.sizes.m p.ports (steps_line p.steps p.rest) fits.calls none))

first_line : (l k : List ℕ) (ls : List (List ℕ)) → line_at 1 (l ∷ k ∷ ls) ≡ Ok (l, k ∷ ls)
unfolding line_at
first_line l k ls = refl

abbrev with_tail : Layout → List ℕ → List (List ℕ) → Result PlanView PlanError
with_tail sizes initial ls = tail_at sizes.m 3 [] ls >>= λ tail. Ok (record { sizes = sizes; initial = initial; ports = tail.ports; steps = tail.steps; rest = tail.rest })

abbrev with_initial : Layout → List ℕ → List (List ℕ) → Result PlanView PlanError
with_initial sizes l ls = initial_at sizes.m l >>= λ initial. with_tail sizes initial ls

abbrev with_second : Layout → List (List ℕ) → Result PlanView PlanError
with_second sizes ls = line_at 2 ls >>= λ second. with_initial sizes second.0 second.1

abbrev with_sizes : List ℕ → List (List ℕ) → Result PlanView PlanError
with_sizes l ls = sizes_at l >>= λ sizes. with_second sizes ls

lines_step : (ls : List (List ℕ)) → lines_judged ls ≡ (line_at 1 ls >>= λ first. with_sizes first.0 first.1)
unfolding lines_judged
lines_step ls = refl

-- a step that passed
passed : {A B : Type 0} (r : Result A PlanError) (x : A) (f : A → Result B PlanError) → r ≡ Ok x → (r >>= f) ≡ f x
passed r x f e = ap (λ (q : Result _ PlanError). q >>= f) e

lines_again : (p : PlanView) → IsPlan p → lines_judged (sizes_line p.sizes ∷ initial_line p.initial ∷ last_lines p.ports (steps_line p.steps p.rest)) ≡ Ok p
lines_again p fits =
    let one = sizes_line p.sizes in
    let two = initial_line p.initial in
    let ls = last_lines p.ports (steps_line p.steps p.rest) in
    let tail : Tail = record { ports = p.ports; steps = p.steps; rest = p.rest } in
    lines_step (one ∷ two ∷ ls) ∙ passed (line_at 1 (one ∷ two ∷ ls)) (one, two ∷ ls) (λ first. with_sizes first.0 first.1) (first_line one two ls) ∙ passed (sizes_at one) p.sizes
    (λ sizes. with_second sizes (two ∷ ls)) (sizes_again p.sizes fits.sizes)
    ∙ passed (line_at 2 (two ∷ ls)) (two, ls) (λ second. with_initial p.sizes second.0 second.1) (line_again 2 two p.ports (steps_line p.steps p.rest)) ∙ passed (initial_at p.sizes.m two) p.initial
    (λ initial. with_tail p.sizes initial ls) (initial_again p.sizes.m p.initial fits.initial fits.values)
    ∙ passed (tail_at p.sizes.m 3 [] ls) tail (λ tail. Ok (record { sizes = p.sizes; initial = p.initial; ports = tail.ports; steps = tail.steps; rest = tail.rest }))
    (tail_again p.sizes.m 3 [] p.ports p.steps p.rest fits.calls fits.some_port fits.few_ports fits.steps)

-- the text of a plan is read as the plan
pub judged_again : (p : PlanView) → IsPlan p → judged_plan (plan_text p) ≡ Ok p
unfolding judged_plan
judged_again p fits =
    rw (le-ltb 4194304 (length (plan_text p)) fits.short) (ap lines_judged (lines_are p fits) ∙ lines_again p fits)
