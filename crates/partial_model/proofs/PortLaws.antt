-- The calls of one port after the other: what the tests of all calls decide of each port.
use Rattle.partial_model.proofs.{Common.{ℕ, zero, suc, ◌≡◌, ◌≢◌, ◌+◌, ◌<◌, ◌≤◌, ◌⊎◌, inl, inr, ◌==◌, nat_le, Bool, true, false, if◌then◌else◌, ◌&&◌, ◌||◌, List, [], ◌∷◌, ◌++◌, length, refl, sym, ap, ◌∙◌, subst, Decides, Option, Some, None, IfSome, filter, filter_map, arith, list_all, option_map_or, true≢false, eq-eqb, ne_eqb, cases_lt, Decides-and, Decides-or, Decides-like, eqb_tells, Applied, Opening, Called, Finish, IsHistory, Noted, LegalNotes, IsLegal, Follows, RealTime, noted_of, notes_of, places_by, places_written, EachOnce, LegalOutcome, call_is_legal, seen_behind, notes_are_legal, claim_of, places_left, no_place_left, none_between, none_above, claim_all, is_legal_outcome, is_history, are_in_time}, Decisions.{Decides-nat_le, Decides-and3, Decides-never, Decides-always}, CheckLaws.{Decides-is_legal, Decides-is_history, Decides-are_in_time}}

-- the ports of the calls rise from that one on
abbrev pub Rises : ℕ → List Called → Type 0
Rises q [] = Unit {0}
Rises q (c ∷ cs) = (q ≤ c.port) × Rises c.port cs

rises_behind : (b c : Called) → Follows (Some b) c → b.port ≤ c.port
rises_behind b c (inl w) = let above : b.port < c.port = w.0 in omega arith
rises_behind b c (inr w) = let same : c.port ≡ b.port = w.0 in omega arith

rises_after : (n : ℕ) (b : Called) (cs : List Called) → RealTime n (Some b) cs → Rises b.port cs
rises_after n b [] w = tt
rises_after n b (c ∷ cs) w = (rises_behind b c w.0, rises_after n c cs w.2)

pub rises_in_time : (n : ℕ) (cs : List Called) → RealTime n None cs → Rises 0 cs
rises_in_time n [] w = tt
rises_in_time n (c ∷ cs) w = (omega arith, rises_after n c cs w.2)

-- ---- the notes of a port

-- what is known of a call, if it is finished
abbrev known : Option Noted → List Noted
known None = []
known (Some n) = n ∷ []

filtered : (b : Bool) (c : Called) (cs : List Called) → filter_map noted_of (if b then c ∷ cs else cs) ≡ (if b then known (noted_of c) else []) ++ filter_map noted_of cs
filtered true c cs = noted c.finish
  where
    noted : (f : Option Finish) → filter_map noted_of (record c { finish = f } ∷ cs) ≡ known (noted_of (record c { finish = f })) ++ filter_map noted_of cs
    noted None = refl
    noted (Some f) = refl
filtered false c cs = refl

pub notes_of-own : (p : ℕ) (c : Called) (cs : List Called) → c.port ≡ p → notes_of p (c ∷ cs) ≡ known (noted_of c) ++ notes_of p cs
notes_of-own p c cs own =
    filtered (c.port == p) c (filter (λ (x : Called). x.port == p) cs) ∙ ap (λ b. (if b then known (noted_of c) else []) ++ notes_of p cs) (eq-eqb c.port p own)

pub notes_of-other : (p : ℕ) (c : Called) (cs : List Called) → c.port ≢ p → notes_of p (c ∷ cs) ≡ notes_of p cs
notes_of-other p c cs other =
    filtered (c.port == p) c (filter (λ (x : Called). x.port == p) cs) ∙ ap (λ b. (if b then known (noted_of c) else []) ++ notes_of p cs) (ne_eqb c.port p other)

-- ports below the rising ones have no notes
pub notes_of-below : (p q : ℕ) (cs : List Called) → Rises q cs → p < q → notes_of p cs ≡ []
notes_of-below p q [] w below = refl
notes_of-below p q (c ∷ cs) w below =
    let above : q ≤ c.port = w.0 in
    notes_of-other p c cs (omega arith) ∙ notes_of-below p c.port cs w.1 (omega arith)

-- the call is unfinished, or legal where its port had seen so many entries before
abbrev pub CallIsLegal : Opening → List Applied → ℕ → Called → Type 0
CallIsLegal o h seen c = IfSome c.finish (λ f. IsLegal o h c.port seen (record { call = c.call; answer = f.answer; note = f.note }))

pub Decides-call_is_legal : (o : Opening) (h : List Applied) (seen : ℕ) (c : Called) → Decides (call_is_legal o h seen c) (CallIsLegal o h seen c)
Decides-call_is_legal o h seen c = finished c.finish
  where
    finished : (f : Option Finish) → Decides (call_is_legal o h seen (record c { finish = f })) (CallIsLegal o h seen (record c { finish = f }))
    finished None = Decides-always tt
    finished (Some f) = Decides-is_legal o h c.port seen c.call f.answer f.note

first_is_legal : (o : Opening) (h : List Applied) (seen : ℕ) (c : Called) (ns : List Noted) → LegalNotes o h c.port seen (known (noted_of c) ++ ns) → CallIsLegal o h seen c ×
    LegalNotes o h c.port (seen_behind seen c.finish) ns
first_is_legal o h seen c ns = finished c.finish
  where
    finished : (f : Option Finish) → LegalNotes o h c.port seen (known (noted_of (record c { finish = f })) ++ ns) → CallIsLegal o h seen (record c { finish = f }) ×
        LegalNotes o h c.port (seen_behind seen f) ns
    finished None w = (tt, w)
    finished (Some f) w = (w.0, w.1)

with_first_legal : (o : Opening) (h : List Applied) (seen : ℕ) (c : Called) (ns : List Noted) → CallIsLegal o h seen c → LegalNotes o h c.port (seen_behind seen c.finish) ns →
    LegalNotes o h c.port seen (known (noted_of c) ++ ns)
with_first_legal o h seen c ns = finished c.finish
  where
    finished : (f : Option Finish) → CallIsLegal o h seen (record c { finish = f }) → LegalNotes o h c.port (seen_behind seen f) ns →
        LegalNotes o h c.port seen (known (noted_of (record c { finish = f })) ++ ns)
    finished None w rest = rest
    finished (Some f) w rest = (w, rest)

-- the notes of port q are legal where it had seen so many entries, and those of each port above it
abbrev AreLegalFrom : Opening → List Applied → ℕ → ℕ → List Called → Type 0
AreLegalFrom o h q seen cs = LegalNotes o h q seen (notes_of q cs) × ((p : ℕ) → q < p → LegalNotes o h p 0 (notes_of p cs))

-- a call of the port itself
own_is_legal : (o : Opening) (h : List Applied) (seen : ℕ) (c : Called) (cs : List Called) (rest : Bool) → Decides rest (AreLegalFrom o h c.port (seen_behind seen c.finish) cs) →
    Decides (call_is_legal o h seen c && rest) (AreLegalFrom o h c.port seen (c ∷ cs))
own_is_legal o h seen c cs rest d =
    Decides-like (call_is_legal o h seen c && rest)
    (λ w. (
      subst (LegalNotes o h c.port seen) (sym (notes_of-own c.port c cs refl)) (with_first_legal o h seen c (notes_of c.port cs) w.0 w.1.0),
      λ p above. subst (LegalNotes o h p 0) (sym (notes_of-other p c cs (omega arith))) (w.1.1 p above),
    ))
    (λ w.
    let first = first_is_legal o h seen c (notes_of c.port cs) (subst (LegalNotes o h c.port seen) (notes_of-own c.port c cs refl) w.0) in
    (first.0, (first.1, λ p above. subst (LegalNotes o h p 0) (notes_of-other p c cs (omega arith)) (w.1 p above))))
    (Decides-and (call_is_legal o h seen c) rest (Decides-call_is_legal o h seen c) d)

-- the first call of a later port
next_is_legal : (o : Opening) (h : List Applied) (q seen : ℕ) (c : Called) (cs : List Called) (rest : Bool) → q < c.port → Rises c.port cs →
    Decides rest (AreLegalFrom o h c.port (seen_behind 0 c.finish) cs) → Decides (call_is_legal o h 0 c && rest) (AreLegalFrom o h q seen (c ∷ cs))
next_is_legal o h q seen c cs rest below rises d =
    let whole : Decides (call_is_legal o h 0 c && rest) (AreLegalFrom o h c.port 0 (c ∷ cs)) = own_is_legal o h 0 c cs rest d in
    let up : Rises c.port (c ∷ cs) = (omega arith, rises) in
    let between : (p : ℕ) → p < c.port → LegalNotes o h p 0 (notes_of p (c ∷ cs)) = λ p lt. subst (LegalNotes o h p 0) (sym (notes_of-below p c.port (c ∷ cs) up lt)) tt in
    let at : AreLegalFrom o h c.port 0 (c ∷ cs) → (p : ℕ) → LegalNotes o h p 0 (notes_of p (c ∷ cs)) = λ w p.
    elim (cases_lt p c.port) [
      | inl lt ↦ between p lt
      | inr le ↦ elim (cases_lt c.port p) [
        | inl above ↦ w.1 p above
        | inr ge ↦ let same : c.port ≡ p = omega arith in subst (λ (x : ℕ). LegalNotes o h x 0 (notes_of x (c ∷ cs))) same w.0
      ]
    ] in
    Decides-like (call_is_legal o h 0 c && rest)
    (λ w. (subst (LegalNotes o h q seen) (sym (notes_of-below q c.port (c ∷ cs) up below)) tt, λ p above. at w p))
    (λ w. (w.1 c.port below, λ p above. w.1 p (omega arith)))
    whole

pub Decides-notes_are_legal : (o : Opening) (h : List Applied) (q seen : ℕ) (cs : List Called) → Rises q cs → Decides (notes_are_legal o h q seen cs) (AreLegalFrom o h q seen cs)
Decides-notes_are_legal o h q seen [] w = Decides-always (tt, λ p above. tt)
Decides-notes_are_legal o h q seen (c ∷ cs) w =
    let test : Bool → Bool = λ b. call_is_legal o h (if b then seen else 0) c && notes_are_legal o h c.port (seen_behind (if b then seen else 0) c.finish) cs in
    elim (cases_lt q c.port) [
      | inl below ↦
          let other : (c.port == q) ≡ false = ne_eqb c.port q (omega arith) in
          subst (λ (b : Bool). Decides (test b) (AreLegalFrom o h q seen (c ∷ cs))) (sym other)
          (next_is_legal o h q seen c cs (notes_are_legal o h c.port (seen_behind 0 c.finish) cs) below w.1 (Decides-notes_are_legal o h c.port (seen_behind 0 c.finish) cs w.1))
      | inr le ↦
          let rising : q ≤ c.port = w.0 in
          let same : c.port ≡ q = omega arith in
          subst (λ (b : Bool). Decides (test b) (AreLegalFrom o h q seen (c ∷ cs))) (sym (eq-eqb c.port q same))
          (subst (λ (x : ℕ). Decides (test true) (AreLegalFrom o h x seen (c ∷ cs))) same
          (own_is_legal o h seen c cs (notes_are_legal o h c.port (seen_behind seen c.finish) cs) (Decides-notes_are_legal o h c.port (seen_behind seen c.finish) cs w.1)))
    ]

-- ---- the entries of a port

-- the places that the notes of a port claim
abbrev pub written_by : ℕ → List Called → List ℕ
written_by p cs = places_written (notes_of p cs)

written_first : (c : Called) (ns : List Noted) → places_written (known (noted_of c) ++ ns) ≡ claim_of c.finish ++ places_written ns
written_first c ns = finished c.finish
  where
    finished : (f : Option Finish) → places_written (known (noted_of (record c { finish = f })) ++ ns) ≡ claim_of f ++ places_written ns
    finished None = refl
    finished (Some f) = refl

written_by-own : (c : Called) (cs : List Called) → written_by c.port (c ∷ cs) ≡ claim_of c.finish ++ written_by c.port cs
written_by-own c cs = ap places_written (notes_of-own c.port c cs refl) ∙ written_first c (notes_of c.port cs)

written_by-other : (p : ℕ) (c : Called) (cs : List Called) → c.port ≢ p → written_by p (c ∷ cs) ≡ written_by p cs
written_by-other p c cs other = ap places_written (notes_of-other p c cs other)

written_by-below : (p q : ℕ) (cs : List Called) → Rises q cs → p < q → written_by p cs ≡ []
written_by-below p q cs w below = ap places_written (notes_of-below p q cs w below)

Decides-is_spent : (places : List ℕ) → Decides (no_place_left places) (places ≡ [])
Decides-is_spent [] = Decides-always refl
Decides-is_spent (k ∷ ks) = Decides-never (λ w. cc)

places_tail : (b : Bool) (k : ℕ) (l : List ℕ) → (if b then k ∷ l else l) ≡ [] → l ≡ []
places_tail true k l w = let no : k ∷ l ≡ [] = w in cc
places_tail false k l w = w

-- no entry is by a port in a range exactly where none of these ports has a place
Decides-none_in : (outside : ℕ → Bool) (Within : ℕ → Type 0) → ((x : ℕ) → Decides (outside x) (Within x → ⊥)) → (k : ℕ) (h : List Applied) → Decides (list_all (λ (e : Applied). outside e.port) h)
    ((x : ℕ) → Within x → places_by x k h ≡ [])
Decides-none_in outside Within each k [] = Decides-always (λ x w. refl)
Decides-none_in outside Within each k (e ∷ h) =
    let rest : ℕ → List ℕ = λ x. places_by x (k + 1) h in
    Decides-like (outside e.port && list_all (λ (f : Applied). outside f.port) h)
    (λ w x within. elim (eqb_tells e.port x) [
      | inl own ↦ absurd (w.0 (subst Within (sym own.1) within))
      | inr other ↦ ap (λ b. if b then k ∷ rest x else rest x) other.0 ∙ w.1 x within
    ])
    (λ w. (
      λ within. let no : k ∷ rest e.port ≡ [] = sym (ap (λ b. if b then k ∷ rest e.port else rest e.port) (eq-eqb e.port e.port refl)) ∙ w e.port within in cc,
      λ x within. places_tail (e.port == x) k (rest x) (w x within),
    ))
    (Decides-and (outside e.port) (list_all (λ (f : Applied). outside f.port) h) (each e.port) (Decides-none_in outside Within each (k + 1) h))

Decides-none_above : (q : ℕ) (h : List Applied) → Decides (none_above q h) ((x : ℕ) → q < x → places_by x 0 h ≡ [])
Decides-none_above q h =
    Decides-none_in (λ x. nat_le x q) (λ x. q < x) (λ x. Decides-like (nat_le x q) (λ le lt. omega arith) (λ n. elim (cases_lt q x) [ inl lt ↦ absurd (n lt) | inr le ↦ le ]) (Decides-nat_le x q)) 0 h

outside_range : (q p x : ℕ) → ((q < x) × (x < p) → ⊥) → (x ≤ q) ⊎ (p ≤ x)
outside_range q p x n =
    elim (cases_lt q x) [
      | inl above ↦ elim (cases_lt x p) [ inl below ↦ absurd (n (above, below)) | inr le ↦ inr le ]
      | inr le ↦ inl le
    ]

not_within : (q p x : ℕ) → (x ≤ q) ⊎ (p ≤ x) → (q < x) × (x < p) → ⊥
not_within q p x (inl le) w = let lt : q < x = w.0 in omega arith
not_within q p x (inr le) w = let lt : x < p = w.1 in omega arith

Decides-none_between : (q p : ℕ) (h : List Applied) → Decides (none_between q p h) ((x : ℕ) → (q < x) × (x < p) → places_by x 0 h ≡ [])
Decides-none_between q p h =
    Decides-none_in (λ x. nat_le x q || nat_le p x) (λ x. (q < x) × (x < p))
    (λ x. Decides-like (nat_le x q || nat_le p x) (not_within q p x) (outside_range q p x) (Decides-or (nat_le x q) (nat_le p x) (Decides-nat_le x q) (Decides-nat_le p x))) 0 h

-- what is left once the claimed places were taken from the front
Decides-taken : (places ks tail : List ℕ) (R : Type 0) (rest : List ℕ → Bool) → ((l : List ℕ) → Decides (rest l) ((l ≡ tail) × R)) → Decides (option_map_or rest (places_left places ks) false)
    ((places ≡ ks ++ tail) × R)
Decides-taken places [] tail R rest each = each places
Decides-taken [] (k ∷ ks) tail R rest each = Decides-never (λ w. let no : [] ≡ k ∷ (ks ++ tail) = w.0 in cc)
Decides-taken (i ∷ places) (k ∷ ks) tail R rest each =
    elim (eqb_tells i k) [
      | inl same ↦
          subst (λ (b : Bool). Decides (option_map_or rest (if b then places_left places ks else None) false) ((i ∷ places ≡ k ∷ (ks ++ tail)) × R)) (sym same.0)
          (Decides-like (option_map_or rest (places_left places ks) false)
          (λ w. (let first : i ≡ k = same.1 in let more : places ≡ ks ++ tail = w.0 in let whole : i ∷ places ≡ k ∷ (ks ++ tail) = cc in whole, w.1))
          (λ w. (let whole : i ∷ places ≡ k ∷ (ks ++ tail) = w.0 in let more : places ≡ ks ++ tail = cc in more, w.1))
          (Decides-taken places ks tail R rest each))
      | inr other ↦
          subst (λ (b : Bool). Decides (option_map_or rest (if b then places_left places ks else None) false) ((i ∷ places ≡ k ∷ (ks ++ tail)) × R)) (sym other.0)
          (Decides-never (λ w. other.1 (let whole : i ∷ places ≡ k ∷ (ks ++ tail) = w.0 in let first : i ≡ k = cc in first)))
    ]

-- the calls claim these places of port q, and all places of each port above it
abbrev AreClaimedFrom : List Applied → ℕ → List ℕ → List Called → Type 0
AreClaimedFrom h q places cs = (places ≡ written_by q cs) × ((p : ℕ) → q < p → places_by p 0 h ≡ written_by p cs)

-- a call of the port itself
own_is_claimed : (h : List Applied) (places : List ℕ) (c : Called) (cs : List Called) (rest : List ℕ → Bool) → ((left : List ℕ) → Decides (rest left) (AreClaimedFrom h c.port left cs)) →
    Decides (option_map_or rest (places_left places (claim_of c.finish)) false) (AreClaimedFrom h c.port places (c ∷ cs))
own_is_claimed h places c cs rest each =
    Decides-like (option_map_or rest (places_left places (claim_of c.finish)) false)
    (λ w. (w.0 ∙ sym (written_by-own c cs), λ p above. w.1 p above ∙ sym (written_by-other p c cs (omega arith))))
    (λ w. (w.0 ∙ written_by-own c cs, λ p above. w.1 p above ∙ written_by-other p c cs (omega arith)))
    (Decides-taken places (claim_of c.finish) (written_by c.port cs) ((p : ℕ) → c.port < p → places_by p 0 h ≡ written_by p cs) rest each)

-- the first call of a later port
next_is_claimed : (h : List Applied) (q : ℕ) (places : List ℕ) (c : Called) (cs : List Called) (rest : Bool) → q < c.port → Rises c.port cs →
    Decides rest (AreClaimedFrom h c.port (places_by c.port 0 h) (c ∷ cs)) → Decides (no_place_left places && none_between q c.port h && rest) (AreClaimedFrom h q places (c ∷ cs))
next_is_claimed h q places c cs rest below rises d =
    let up : Rises c.port (c ∷ cs) = (omega arith, rises) in
    let none : (p : ℕ) → p < c.port → written_by p (c ∷ cs) ≡ [] = λ p lt. written_by-below p c.port (c ∷ cs) up lt in
    Decides-like (no_place_left places && none_between q c.port h && rest)
    (λ w. (
      w.0 ∙ sym (none q below),
      λ p above.
          elim (cases_lt p c.port) [
            | inl lt ↦ w.1 p (above, lt) ∙ sym (none p lt)
            | inr le ↦ elim (cases_lt c.port p) [
              | inl later ↦ w.2.1 p later
              | inr ge ↦ let same : c.port ≡ p = omega arith in subst (λ (x : ℕ). places_by x 0 h ≡ written_by x (c ∷ cs)) same w.2.0
            ]
          ],
    ))
    (λ w. (w.0 ∙ none q below, (λ x range. w.1 x range.0 ∙ none x range.1), (w.1 c.port below, λ p above. w.1 p (omega arith))))
    (Decides-and3 (no_place_left places) (none_between q c.port h) rest (Decides-is_spent places) (Decides-none_between q c.port h) d)

pub Decides-claim_all : (h : List Applied) (q : ℕ) (places : List ℕ) (cs : List Called) → Rises q cs → Decides (claim_all h q places cs) (AreClaimedFrom h q places cs)
Decides-claim_all h q places [] w = Decides-and (no_place_left places) (none_above q h) (Decides-is_spent places) (Decides-none_above q h)
Decides-claim_all h q places (c ∷ cs) w =
    let rest : List ℕ → Bool = λ left. claim_all h c.port left cs in
    let each : (left : List ℕ) → Decides (rest left) (AreClaimedFrom h c.port left cs) = λ left. Decides-claim_all h c.port left cs w.1 in
    let test : Bool → Bool = λ b. (b || (no_place_left places && none_between q c.port h)) && option_map_or rest (places_left (if b then places else places_by c.port 0 h) (claim_of c.finish)) false in
    elim (cases_lt q c.port) [
      | inl below ↦
          let other : (c.port == q) ≡ false = ne_eqb c.port q (omega arith) in
          subst (λ (b : Bool). Decides (test b) (AreClaimedFrom h q places (c ∷ cs))) (sym other)
          (next_is_claimed h q places c cs (option_map_or rest (places_left (places_by c.port 0 h) (claim_of c.finish)) false) below w.1 (own_is_claimed h (places_by c.port 0 h) c cs rest each))
      | inr le ↦
          let rising : q ≤ c.port = w.0 in
          let same : c.port ≡ q = omega arith in
          subst (λ (b : Bool). Decides (test b) (AreClaimedFrom h q places (c ∷ cs))) (sym (eq-eqb c.port q same))
          (subst (λ (x : ℕ). Decides (test true) (AreClaimedFrom h x places (c ∷ cs))) same (own_is_claimed h places c cs rest each))
    ]

-- ---- the whole outcome

at_each_port : (P : ℕ → Type 0) → P 0 → ((p : ℕ) → 0 < p → P p) → (p : ℕ) → P p
at_each_port P first rest zero = first
at_each_port P first rest (suc p) = rest (suc p) (omega arith)

-- the test of an outcome passes exactly where it is legal
pub Decides-is_legal_outcome : (o : Opening) (h : List Applied) (calls : List Called) → Decides (is_legal_outcome o h calls) (LegalOutcome o h calls)
Decides-is_legal_outcome o h calls =
    let ordered : Bool = is_history o h && are_in_time (length h) None calls in
    let known : Decides ordered (IsHistory o h × RealTime (length h) None calls) = Decides-and (is_history o h) (are_in_time (length h) None calls) (Decides-is_history o h)
    (Decides-are_in_time (length h) None calls) in (
      λ w.
          let parts = and_true (ordered && notes_are_legal o h 0 0 calls) (claim_all h 0 (places_by 0 0 h) calls) w in
          let front = and_true ordered (notes_are_legal o h 0 0 calls) parts.0 in
          let times = known.0 front.0 in
          let rises : Rises 0 calls = rises_in_time (length h) calls times.1 in
          let notes = (Decides-notes_are_legal o h 0 0 calls rises).0 front.1 in
          let claims = (Decides-claim_all h 0 (places_by 0 0 h) calls rises).0 parts.1 in
          record {
            history = times.0;
            notes = at_each_port (λ p. LegalNotes o h p 0 (notes_of p calls)) notes.0 notes.1;
            once = at_each_port (λ p. EachOnce h p (notes_of p calls)) claims.0 claims.1;
            time = times.1;
          },
      λ w.
          let rises : Rises 0 calls = rises_in_time (length h) calls w.time in
          let front : ordered ≡ true = known.1 (w.history, w.time) in
          let notes : notes_are_legal o h 0 0 calls ≡ true = (Decides-notes_are_legal o h 0 0 calls rises).1 (w.notes 0, λ p above. w.notes p) in
          let claims : claim_all h 0 (places_by 0 0 h) calls ≡ true = (Decides-claim_all h 0 (places_by 0 0 h) calls rises).1 (w.once 0, λ p above. w.once p) in
          true_and (ordered && notes_are_legal o h 0 0 calls) (claim_all h 0 (places_by 0 0 h) calls) (true_and ordered (notes_are_legal o h 0 0 calls) front notes) claims,
    )
  where
    and_true : (x y : Bool) → (x && y) ≡ true → (x ≡ true) × (y ≡ true)
    and_true true y w = (refl, w)
    and_true false y w = absurd (true≢false (sym w))

    true_and : (x y : Bool) → x ≡ true → y ≡ true → (x && y) ≡ true
    true_and true y w v = v
    true_and false y w v = absurd (true≢false (sym w))
