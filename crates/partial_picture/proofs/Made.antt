-- What calls made, one call after another.
use Rattle.partial_picture.proofs.Common.{arith, ℕ, ◌≡◌, ◌++◌, ◌∷◌, [], ◌<◌, List, length, take, sym, ap, ◌∙◌}
use Rattle.std.proofs.Common.{◌+◌, ◌≤◌, ◌==◌, nat_lt, min, filter, slice_index_or, slice_set, drop, refl, inl, inr}
use Rattle.std.proofs.lemmas.Bool.{cases_eq}
use Rattle.std.proofs.lemmas.Grind.{common_steps}
use Rattle.std.proofs.lemmas.List.{append_assoc, append-nil, drop_min, get_or-set_other, get_or-set_same, length-set}
use Rattle.std.proofs.lemmas.List.Elements.{filter-append}
use Rattle.std.proofs.lemmas.List.Sums.{sum_by-append}
use Rattle.partial_model.specs.declared.call.Called.{Called}
use Rattle.partial_replay.specs.Listed.{steps_by}
use Rattle.partial_picture.specs.Made.{CallSpan, between_of, call_span, made_after, made_by_ports, span_of}

-- one call more
after_more : (ports : List (List ℕ)) (entries : List ℕ) (front calls : List Called) (c : Called) →
    made_after ports entries front (calls ++ c ∷ []) ≡ made_after ports entries front calls ++ call_span (slice_index_or ports c.port []) (steps_by c.port (front ++ calls)) entries c ∷ []
after_more ports entries front [] c = ap (λ (l : List Called). call_span (slice_index_or ports c.port []) (steps_by c.port l) entries c ∷ []) (sym (append-nil front))
after_more ports entries front (d ∷ calls) c =
    ap (λ (l : List CallSpan). call_span (slice_index_or ports d.port []) (steps_by d.port front) entries d ∷ l) (after_more ports entries (front ++ d ∷ []) calls c
    ∙ ap (λ (l : List Called). made_after ports entries (front ++ d ∷ []) calls ++ call_span (slice_index_or ports c.port []) (steps_by c.port l) entries c ∷ [])
    (append_assoc front (d ∷ []) calls))

-- the calls of so many ports
abbrev pub of_ports : ℕ → List Called → List Called
of_ports n calls = filter (λ c. nat_lt c.port n) calls

of_ports_kept : (n : ℕ) (calls : List Called) (c : Called) → c.port < n → of_ports n (calls ++ c ∷ []) ≡ of_ports n calls ++ c ∷ []
of_ports_kept n calls c below = grind (arith, common_steps, filter-append (λ (d : Called). nat_lt d.port n) calls (c ∷ []))

of_ports_past : (n : ℕ) (calls : List Called) (c : Called) → n ≤ c.port → of_ports n (calls ++ c ∷ []) ≡ of_ports n calls
of_ports_past n calls c past = grind (arith, common_steps, append-nil, filter-append (λ (d : Called). nat_lt d.port n) calls (c ∷ []))

steps_by_own : (q : ℕ) (front : List Called) (c : Called) → c.port ≡ q → steps_by q (front ++ c ∷ []) ≡ steps_by q front + c.steps
steps_by_own q front c own = grind (arith, common_steps, filter-append (λ (d : Called). d.port == q) front (c ∷ []), sum_by-append (λ (d : Called). d.steps))

steps_by_other : (q : ℕ) (front : List Called) (c : Called) → (c.port ≡ q → ⊥) → steps_by q (front ++ c ∷ []) ≡ steps_by q front
steps_by_other q front c other = grind (arith, common_steps, append-nil, filter-append (λ (d : Called). d.port == q) front (c ∷ []))

-- how far the calls have come: how many steps of each port were taken, and what they made
pub record IsWalked (ports : List (List ℕ)) (entries taken : List ℕ) (calls : List Called) (made : List CallSpan) : Type 0 where
  pub same : length taken ≡ length ports
  pub places : (q : ℕ) → q < length ports → slice_index_or taken q 0 ≡ min (steps_by q (of_ports (length ports) calls)) (length (slice_index_or ports q []))
  pub spans : made ≡ made_by_ports ports entries calls

-- a call is the same after a number of steps that is cut to those that are there
span_same : (own : List ℕ) (t s : ℕ) (entries : List ℕ) (c : Called) → t ≡ min s (length own) → call_span own t entries c ≡ call_span own s entries c
span_same own t s entries c cut = ap (λ (rest : List ℕ). record { called = c; span = span_of (take c.steps rest) (between_of own (drop c.steps rest) entries c.began); steps = take c.steps rest }) (ap (λ n. drop n own) cut ∙ drop_min s own)

cut_more : (t s k n : ℕ) → t ≡ min s n → min (t + k) n ≡ min (s + k) n
cut_more t s k n cut = omega arith

place_after : (ports : List (List ℕ)) (taken : List ℕ) (front : List Called) (c : Called) → c.port < length ports → length taken ≡ length ports → (t : ℕ) (own : List ℕ) →
    own ≡ slice_index_or ports c.port [] → t ≡ min (steps_by c.port front) (length own) → (q : ℕ) → slice_index_or taken q 0 ≡ min (steps_by q front) (length (slice_index_or ports q [])) →
    slice_index_or (slice_set taken c.port (min (t + c.steps) (length own))) q 0 ≡ min (steps_by q (front ++ c ∷ [])) (length (slice_index_or ports q []))
place_after ports taken front c below same t own has had q was = elim (cases_eq q c.port) [
  | inl is ↦ rw is (get_or-set_same taken c.port (min (t + c.steps) (length own)) 0 (omega (arith, below, same)) ∙ cut_more t (steps_by c.port front) c.steps (length own) had
      ∙ ap (λ n. min n (length own)) (sym (steps_by_own c.port front c refl)) ∙ ap (λ (l : List ℕ). min (steps_by c.port (front ++ c ∷ [])) (length l)) has)
  | inr not ↦ get_or-set_other taken c.port q (min (t + c.steps) (length own)) 0 not ∙ was ∙ ap (λ n. min n (length (slice_index_or ports q []))) (sym (steps_by_other q front c (λ is. not (sym is))))
]

-- a call of one of the ports
pub walked_on : (ports : List (List ℕ)) (entries taken : List ℕ) (calls : List Called) (made : List CallSpan) (c : Called) → IsWalked ports entries taken calls made →
    c.port < length ports → (t : ℕ) → t ≡ slice_index_or taken c.port 0 → (own : List ℕ) → own ≡ slice_index_or ports c.port [] →
    IsWalked ports entries (slice_set taken c.port (min (t + c.steps) (length own))) (calls ++ c ∷ []) (made ++ call_span own t entries c ∷ [])
walked_on ports entries taken calls made c w below t is own has =
    let front = of_ports (length ports) calls in
    let kept : of_ports (length ports) (calls ++ c ∷ []) ≡ front ++ c ∷ [] = of_ports_kept (length ports) calls c below in
    let had : t ≡ min (steps_by c.port front) (length own) = is ∙ w.places c.port below ∙ ap (λ (l : List ℕ). min (steps_by c.port front) (length l)) (sym has) in
    let spans : made ++ call_span own t entries c ∷ [] ≡ made_after ports entries [] (front ++ c ∷ []) =
    ap (λ (l : List CallSpan). l ++ call_span own t entries c ∷ []) w.spans
    ∙ ap (λ (s : CallSpan). made_after ports entries [] front ++ s ∷ []) (span_same own t (steps_by c.port front) entries c had
    ∙ ap (λ (l : List ℕ). call_span l (steps_by c.port front) entries c) has)
    ∙ sym (after_more ports entries [] front c) in
    record {
      same = length-set taken c.port (min (t + c.steps) (length own)) ∙ w.same;
      places = λ q h. rw kept (place_after ports taken front c below (w.same) t own has had q (w.places q h));
      spans = rw kept spans;
    }

-- a call of no port
pub walked_past : (ports : List (List ℕ)) (entries taken : List ℕ) (calls : List Called) (made : List CallSpan) (c : Called) → IsWalked ports entries taken calls made →
    length ports ≤ c.port → IsWalked ports entries taken (calls ++ c ∷ []) made
walked_past ports entries taken calls made c w past =
    let kept = of_ports_past (length ports) calls c past in
    record { same = w.same; places = λ q h. rw kept (w.places q h); spans = rw kept w.spans }
