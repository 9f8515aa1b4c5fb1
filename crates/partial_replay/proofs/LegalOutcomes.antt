-- The calls that a replay lists are a legal outcome.
use Rattle.partial_replay.proofs.{Common.{ℕ, zero, suc, ◌⊎◌, map, take, ◌≡◌, ◌≢◌, ◌+◌, ◌<◌, ◌≤◌, ◌++◌, ◌==◌, Bool, true, false, if◌then◌else◌, List, [], ◌∷◌, length, Option, Some, None, IfSome, IsSomeAnd, MatchOption, slice_get, refl, sym, ◌∙◌, ap, subst, inl, inr, arith, append_assoc, filter, filter_map, AllByRecursion, filter-append, filter_map-append, append-nil, length_push, map_push, ne_eqb, eqb_tells, Applied, Opening, Call, Called, Finish, Noted, LegalNotes, shown_by, place_of, noted_of, notes_of, places_written, Follows, RealTime, LegalOutcome, Layout, CoreState, most_steps, AllByRecursion-append, Part, core_of, port_of, IsBetween, IsMachineOf, Port, UnderWay, HasLeastPlace, calls_by, AreFirstOf, AreAllMade, AreFew, IsSome, AreFinished, IsCallUnderWay, PortFits, end_of_call, ends_of, notes_in, unfinished_call, PortsFit, IsRunOf, left_over, calls_in, ReplayState, some_same, no_ports, first_port}, PortLaws.{take_next, same_eqb}, Opens.{over_none, none_over}}
use Rattle.partial_core.specs.Known.{notes_by}

notes_split : (p : ℕ) (xs ys : List Called) → notes_of p (xs ++ ys) ≡ notes_of p xs ++ notes_of p ys
notes_split p xs ys = ap (filter_map noted_of) (filter-append (λ (c : Called). c.port == p) xs ys) ∙ filter_map-append noted_of (filter (λ (c : Called). c.port == p) xs)
    (filter (λ (c : Called). c.port == p) ys)

own_filter : (n p k low : ℕ) (cs : List Called) → AreFinished n p k low cs → filter (λ (c : Called). c.port == p) cs ≡ cs
own_filter n p k low [] w = refl
own_filter n p k low (c ∷ cs) w =
    ap (λ (b : Bool). if b then c ∷ filter (λ (d : Called). d.port == p) cs else filter (λ (d : Called). d.port == p) cs) (same_eqb c.port p w.0)
    ∙ ap (λ (l : List Called). c ∷ l) (own_filter n p (k + 1) (end_of_call low c) cs w.3)

other_filter : (n q p k low : ℕ) (cs : List Called) → AreFinished n q k low cs → q ≢ p → filter (λ (c : Called). c.port == p) cs ≡ []
other_filter n q p k low [] w d = refl
other_filter n q p k low (c ∷ cs) w d =
    let away : c.port ≢ p = λ h. d (sym w.0 ∙ h) in
    ap (λ (b : Bool). if b then c ∷ filter (λ (e : Called). e.port == p) cs else filter (λ (e : Called). e.port == p) cs) (ne_eqb c.port p away)
    ∙ other_filter n q p (k + 1) (end_of_call low c) cs w.3 d

over_kept : (c : Called) (b : Bool) → c.finish ≡ None → filter_map noted_of (if b then c ∷ [] else []) ≡ []
over_kept c false h = refl
over_kept c true h = ap (λ (f : Option Finish). filter_map noted_of (record { port = c.port; number = c.number; call = c.call; began = c.began; steps = c.steps; finish = f } ∷ [])) h

over_notes : (p : ℕ) (port : Port) (call : Option Call) (way : Option UnderWay) → notes_of p (left_over port call way) ≡ []
over_notes p port (Some call) (Some way) = over_kept (unfinished_call port.number (length port.finished.items) call way) (port.number == p) refl
over_notes p port None way = refl
over_notes p port (Some call) None = refl

-- the calls that are listed for a port
split_calls : (p : ℕ) (calls : List Call) (plans : List (List Call)) (port : Port) (ports : List Port) →
    calls_by p (calls_in (calls ∷ plans) (port ∷ ports)) ≡ (calls_by p port.finished.items ++ calls_by p (left_over port (slice_get calls (length port.finished.items)) port.under_way)) ++
    calls_by p (calls_in plans ports)
split_calls p calls plans port ports =
    let over = left_over port (slice_get calls (length port.finished.items)) port.under_way in
    filter-append (λ (c : Called). c.port == p) (port.finished.items ++ over) (calls_in plans ports)
    ∙ ap (λ (l : List Called). l ++ calls_by p (calls_in plans ports)) (filter-append (λ (c : Called). c.port == p) port.finished.items over)

over_own : (p : ℕ) (port : Port) (call : Option Call) (way : Option UnderWay) → port.number ≡ p → calls_by p (left_over port call way) ≡ left_over port call way
over_own p port (Some call) (Some way) h = ap (λ (b : Bool). if b then left_over port (Some call) (Some way) else []) (same_eqb port.number p h)
over_own p port None way h = refl
over_own p port (Some call) None h = refl

over_other : (p : ℕ) (port : Port) (call : Option Call) (way : Option UnderWay) → port.number ≢ p → calls_by p (left_over port call way) ≡ []
over_other p port (Some call) (Some way) h = ap (λ (b : Bool). if b then left_over port (Some call) (Some way) else []) (ne_eqb port.number p h)
over_other p port None way h = refl
over_other p port (Some call) None h = refl

-- a port that isn't p lists no call of port p
split_other : {o : Opening} {log : List Applied} {q : ℕ} {calls : List Call} {x : Part} {port : Port} (p : ℕ) (plans : List (List Call)) (ports : List Port) → q ≢ p → PortFits o log calls q x port →
    calls_by p (calls_in (calls ∷ plans) (port ∷ ports)) ≡ calls_by p (calls_in plans ports)
split_other {log} {q} {calls} {port} p plans ports away w =
    split_calls p calls plans port ports
    ∙ ap (λ (l : List Called). (l ++ calls_by p (left_over port (slice_get calls (length port.finished.items)) port.under_way)) ++ calls_by p (calls_in plans ports))
    (other_filter (length log) q p 0 0 port.finished.items w.finished away)
    ∙ ap (λ (l : List Called). l ++ calls_by p (calls_in plans ports)) (over_other p port (slice_get calls (length port.finished.items)) port.under_way (λ h. away (sym w.number ∙ h)))

-- ports after number p list no call of port p, and neither do those before it
pub none_listed : {o : Opening} {log : List Applied} {q : ℕ} {plans : List (List Call)} {parts : List Part} {ports : List Port} (p : ℕ) → (p < q) ⊎ (q + length plans ≤ p) →
    PortsFit o log q plans parts ports → calls_by p (calls_in plans ports) ≡ []
none_listed p out no_ports = refl
none_listed {q} p out (first_port {plans = plans} {ports = ports} f rest) =
    let away : q ≢ p = λ h. elim out [ inl less ↦ omega (arith, less, h) | inr more ↦ omega (arith, more, h) ] in
    let behind : (p < q + 1) ⊎ (q + 1 + length plans ≤ p) = elim out [ inl less ↦ inl (omega (arith, less)) | inr more ↦ inr (omega (arith, more)) ] in
    split_other p plans ports away f ∙ none_listed p behind rest

-- the calls that a port has begun: the finished ones, and the one under way
abbrev pub begun_by : List Call → Port → List Called
begun_by calls port = port.finished.items ++ left_over port (slice_get calls (length port.finished.items)) port.under_way

pub listed_at : {o : Opening} {log : List Applied} {q : ℕ} {plans : List (List Call)} {parts : List Part} {ports : List Port} (i p : ℕ) {calls : List Call} {port : Port} →
    PortsFit o log q plans parts ports → p ≡ q + i → slice_get plans i ≡ Some calls → slice_get ports i ≡ Some port → calls_by p (calls_in plans ports) ≡ begun_by calls port
listed_at i p {calls} no_ports n c t = let bad : None ≡ Some calls = c in cc
listed_at {log} {q} zero p {calls} (first_port {calls = d} {plans = plans} {port = u} {ports = ports} f rest) n c t =
    let here : p ≡ q = omega (arith, n) in
    ap (λ k. calls_by k (calls_in (d ∷ plans) (u ∷ ports))) here
    ∙ split_calls q d plans u ports
    ∙ ap (λ (l : List Called). (l ++ calls_by q (left_over u (slice_get d (length u.finished.items)) u.under_way)) ++ calls_by q (calls_in plans ports))
    (own_filter (length log) q 0 0 u.finished.items f.finished)
    ∙ ap (λ (l : List Called). (u.finished.items ++ l) ++ calls_by q (calls_in plans ports)) (over_own q u (slice_get d (length u.finished.items)) u.under_way f.number)
    ∙ ap (λ (l : List Called). begun_by d u ++ l) (none_listed q (inl (omega arith)) rest)
    ∙ append-nil (begun_by d u)
    ∙ ap (λ (e : List Call). begun_by e u) (some_same c) ∙ ap (begun_by calls) (some_same t)
listed_at (suc i) p (first_port {plans = plans} {ports = ports} f rest) n c t =
    split_other p plans ports (λ h. omega (arith, n, h)) f ∙ listed_at i p rest (omega (arith, n)) c t

-- the calls that a port has begun are the first of the plan's
first_over : (n : ℕ) (calls : List Call) (x : Part) (port : Port) (way : Option UnderWay) → map (λ (c : Called). c.call) port.finished.items ≡ take (length port.finished.items) calls →
    MatchOption way (IsBetween x port.core) (IsCallUnderWay n calls x port.core port.finished.items) →
    AreFirstOf calls (port.finished.items ++ left_over port (slice_get calls (length port.finished.items)) way)
first_over n calls x port None made w =
    let none : port.finished.items ++ left_over port (slice_get calls (length port.finished.items)) None ≡ port.finished.items = ap (λ (l : List Called). port.finished.items ++ l)
    (over_none port (slice_get calls (length port.finished.items))) ∙ append-nil port.finished.items in
    subst (AreFirstOf calls) (sym none) made
first_over n calls x port (Some way) made w =
    let c = unfinished_call port.number (length port.finished.items) w.call way in
    let over : left_over port (slice_get calls (length port.finished.items)) (Some way) ≡ c ∷ [] = ap (λ (f : Option Call). left_over port f (Some way)) w.next in
    subst (λ (l : List Called). AreFirstOf calls (port.finished.items ++ l)) (sym over)
    (map_push (λ (d : Called). d.call) port.finished.items c
    ∙ ap (λ (l : List Call). l ++ w.call ∷ []) made
    ∙ sym (ap (λ k. take k calls) (length_push port.finished.items c) ∙ take_next calls (length port.finished.items) (w.call) w.next))

pub first_begun : {o : Opening} {log : List Applied} {calls : List Call} {p : ℕ} {x : Part} {port : Port} → PortFits o log calls p x port → AreFirstOf calls (begun_by calls port)
first_begun {log} {calls} {x} {port} w = first_over (length log) calls x port port.under_way w.made w.way

-- where no call is under way, the calls that a port has begun are finished
ended_calls : (n p k low : ℕ) (cs : List Called) → AreFinished n p k low cs → AllByRecursion (λ (c : Called). IsSome c.finish) cs
ended_calls n p k low [] w = tt
ended_calls n p k low (c ∷ cs) w = (has_ended c.finish _ w.2.ended, ended_calls n p (k + 1) (end_of_call low c) cs w.3)
  where
    has_ended : (f : Option Finish) (P : Finish → Type 0) → IsSomeAnd f P → IsSome f
    has_ended None P h = absurd h
    has_ended (Some g) P h = refl

pub all_made : {o : Opening} {log : List Applied} {calls : List Call} {p : ℕ} {x : Part} {port : Port} → PortFits o log calls p x port → port.under_way ≡ None →
    length port.finished.items ≡ length calls → AreAllMade calls (begun_by calls port)
all_made {log} {calls} {p} {port} w none all =
    let is : begun_by calls port ≡ port.finished.items = ap (λ (l : List Called). port.finished.items ++ l) (sym (none_over port (slice_get calls (length port.finished.items)) none)) ∙
    append-nil port.finished.items in
    subst (AreAllMade calls) (sym is) (all, ended_calls (length log) p 0 0 port.finished.items w.finished)

-- what is noted of one port's calls and of those after it
head_notes : (p : ℕ) (calls : List Call) (plans : List (List Call)) (port : Port) (ports : List Port) (own : List Noted) → notes_of p port.finished.items ≡ own →
    notes_of p (calls_in (calls ∷ plans) (port ∷ ports)) ≡ own ++ notes_of p (calls_in plans ports)
head_notes p calls plans port ports own h =
    let over = left_over port (slice_get calls (length port.finished.items)) port.under_way in
    notes_split p (port.finished.items ++ over) (calls_in plans ports)
    ∙ ap (λ (l : List Noted). l ++ notes_of p (calls_in plans ports)) (notes_split p port.finished.items over ∙ ap (λ (l : List Noted). notes_of p port.finished.items ++ l)
    (over_notes p port (slice_get calls (length port.finished.items)) port.under_way) ∙ append-nil (notes_of p port.finished.items) ∙ h)

-- ports after number p have no note of port p
none_behind : {o : Opening} {log : List Applied} {q : ℕ} {plans : List (List Call)} {parts : List Part} {ports : List Port} (p : ℕ) → p < q → PortsFit o log q plans parts ports →
    (notes_of p (calls_in plans ports) ≡ []) × (notes_by p parts ≡ [])
none_behind p less no_ports = (refl, refl)
none_behind {log} {q} p less (first_port {calls = c} {plans = plans} {x = x} {parts = parts} {port = t} {ports = ports} f rest) =
    let behind = none_behind p (omega (arith, less)) rest in
    let away : q ≢ p = λ h. omega (arith, less, h) in
    let part : port_of x ≢ p = λ h. away (sym f.part ∙ h) in (
      head_notes p c plans t ports [] (ap (filter_map noted_of) (other_filter (length log) q p 0 0 t.finished.items f.finished away)) ∙ behind.0,
      ap (λ (b : Bool). (if b then x.notes else []) ++ notes_by p parts) (ne_eqb (port_of x) p part) ∙ behind.1,
    )

-- a port's notes are legal, and claim what its part's notes claim
abbrev NotesTold : Opening → List Applied → ℕ → List Noted → List Noted → Type 0
NotesTold o log p ns ms = LegalNotes o log p 0 ns × (places_written ns ≡ places_written ms)

notes_told : {o : Opening} {log : List Applied} {q : ℕ} {plans : List (List Call)} {parts : List Part} {ports : List Port} (p : ℕ) → PortsFit o log q plans parts ports →
    NotesTold o log p (notes_of p (calls_in plans ports)) (notes_by p parts)
notes_told p no_ports = (tt, refl)
notes_told {o} {log} {q} p (first_port {calls = c} {plans = plans} {x = x} {parts = parts} {port = t} {ports = ports} f tail) = elim (eqb_tells q p) [
  | inl same ↦
      let behind = none_behind p (let e = same.1 in omega (arith, e)) tail in
      let fits : PortFits o log c p x t = subst (λ (i : ℕ). PortFits o log c i x t) same.1 f in
      let own : notes_of p (calls_in (c ∷ plans) (t ∷ ports)) ≡ notes_in t.finished.items =
      head_notes p c plans t ports (notes_in t.finished.items) (ap (filter_map noted_of) (own_filter (length log) p 0 0 t.finished.items fits.finished))
      ∙ ap (λ (l : List Noted). notes_in t.finished.items ++ l) behind.0 ∙ append-nil (notes_in t.finished.items) in
      let part : notes_by p (x ∷ parts) ≡ x.notes =
      ap (λ (b : Bool). (if b then x.notes else []) ++ notes_by p parts) (same_eqb (port_of x) p fits.part)
      ∙ ap (λ (l : List Noted). x.notes ++ l) behind.1 ∙ append-nil x.notes in (
        subst (λ (l : List Noted). LegalNotes o log p 0 l) (sym own) fits.legal,
        ap places_written own ∙ fits.written ∙ ap places_written (sym part),
      )
  | inr other ↦
      let rest = notes_told p tail in
      let away : q ≢ p = other.1 in
      let part : port_of x ≢ p = λ h. away (sym f.part ∙ h) in
      let own : notes_of p (calls_in (c ∷ plans) (t ∷ ports)) ≡ notes_of p (calls_in plans ports) =
      head_notes p c plans t ports [] (ap (filter_map noted_of) (other_filter (length log) q p 0 0 t.finished.items f.finished away)) in
      let left : notes_by p (x ∷ parts) ≡ notes_by p parts = ap (λ (b : Bool). (if b then x.notes else []) ++ notes_by p parts) (ne_eqb (port_of x) p part) in (
        subst (λ (l : List Noted). LegalNotes o log p 0 l) (sym own) rest.0,
        ap places_written own ∙ rest.1 ∙ ap places_written (sym left),
      )
]

-- the calls that may stand after that one: the first of a port from q on, or a port's call number k that begins at that length or later
abbrev BeginsPort : Option Called → ℕ → Type 0
BeginsPort b q = (c : Called) → q ≤ c.port → c.number ≡ 0 → Follows b c

abbrev GoesBehind : Option Called → ℕ → ℕ → ℕ → Type 0
GoesBehind b p k low = (c : Called) → c.port ≡ p → c.number ≡ k → low ≤ c.began → Follows b c

behind_call : (c : Called) (p k low : ℕ) (f : Option Finish) → c.finish ≡ f → c.port ≡ p → c.number ≡ k → IsSomeAnd f (λ g. c.began ≤ g.ended) → GoesBehind (Some c) p (k + 1) (end_of_call low c)
behind_call c p k low None is port number w = absurd w
behind_call c p k low (Some f) is port number w = λ d at num late.
    let ends : end_of_call low c ≡ f.ended = ap (λ (g : Option Finish). end_of_call low (record { port = c.port; number = c.number; call = c.call; began = c.began; steps = c.steps; finish = g }))
    is in
    inr (at ∙ sym port, num ∙ ap (λ (m : ℕ). m + 1) (sym number), subst (λ (g : Option Finish). IsSomeAnd g (λ h. h.ended ≤ d.began)) (sym is) (omega (arith, ends, late)))

next_port : (c : Called) (p : ℕ) → c.port ≡ p → BeginsPort (Some c) (p + 1)
next_port c p port = λ d at number. inl (omega (arith, at, port), number)

finish_ends : (c : Called) (n : ℕ) (f : Option Finish) → IsSomeAnd f (λ g. (c.began ≤ g.ended) × (g.ended ≤ n) × IfSome g.note (λ note. (c.began ≤ place_of note) × (shown_by note ≤ g.ended))) →
    IsSomeAnd f (λ g. c.began ≤ g.ended) × IfSome f (λ g. (c.began ≤ g.ended) × (g.ended ≤ n) × IfSome g.note (λ note. (c.began ≤ place_of note) × (shown_by note ≤ g.ended))) × (c.began ≤ n)
finish_ends c n None w = absurd w
finish_ends c n (Some f) w = let a = w.0 in let b = w.1 in (w.0, w, omega (arith, a, b))

-- the finished calls are in time where those after them are
finished_time : (n p k low : ℕ) (cs : List Called) (b : Option Called) (tail : List Called) → AreFinished n p k low cs → GoesBehind b p k low → BeginsPort b (p + 1) →
    ((d : Option Called) → GoesBehind d p (k + length cs) (ends_of low cs) → BeginsPort d (p + 1) → RealTime n d tail) → RealTime n b (cs ++ tail)
finished_time n p k low [] b tail w goes begins on = on b (subst (λ (m : ℕ). GoesBehind b p m low) (omega arith) goes) begins
finished_time n p k low (c ∷ cs) b tail w goes begins on =
    let ends = finish_ends c n c.finish w.2.ended in (
      goes c w.0 w.1 w.2.behind,
      (ends.2, ends.1),
      finished_time n p (k + 1) (end_of_call low c) cs (Some c) tail w.3 (behind_call c p k low c.finish refl w.0 w.1 ends.0) (next_port c p w.0)
          (λ d g n2. on d (subst (λ (m : ℕ). GoesBehind d p m (ends_of (end_of_call low c) cs)) (omega arith) g) n2),
    )

over_time : (n p : ℕ) (calls : List Call) (x : Part) (port : Port) (call : Option Call) (way : Option UnderWay) (b : Option Called) (tail : List Called) → port.number ≡ p →
    MatchOption way (IsBetween x port.core) (IsCallUnderWay n calls x port.core port.finished.items) → GoesBehind b p (length port.finished.items) (ends_of 0 port.finished.items) →
    BeginsPort b (p + 1) →
    ((d : Option Called) → BeginsPort d (p + 1) → RealTime n d tail) → RealTime n b (left_over port call way ++ tail)
over_time n p calls x port (Some call) (Some way) b tail number w goes begins on =
    let c = unfinished_call port.number (length port.finished.items) call way in
    (goes c number refl w.behind, (w.within, tt), on (Some c) (next_port c p number))
over_time n p calls x port None way b tail number w goes begins on = on b begins
over_time n p calls x port (Some call) None b tail number w goes begins on = on b begins

time_told : {o : Opening} {log : List Applied} {q : ℕ} {plans : List (List Call)} {parts : List Part} {ports : List Port} (b : Option Called) → PortsFit o log q plans parts ports → BeginsPort b q →
    RealTime (length log) b (calls_in plans ports)
time_told b no_ports begins = tt
time_told {log} {q} b (first_port {calls = c} {plans = plans} {x = x} {port = t} {ports = ports} f rest) begins =
    let n = length log in
    let call = slice_get c (length t.finished.items) in
    let over = left_over t call t.under_way in
    let tail = calls_in plans ports in
    subst (λ (l : List Called). RealTime n b l) (sym (append_assoc t.finished.items over tail))
    (finished_time n q 0 0 t.finished.items b (over ++ tail) f.finished
    (λ d at number late. begins d (omega (arith, at)) number)
    (λ d at number. begins d (omega (arith, at)) number)
    (λ d goes next. over_time n q c x t call t.under_way d tail f.number f.way (subst (λ (m : ℕ). GoesBehind d q m (ends_of 0 t.finished.items)) (omega arith) goes) next
    (λ e more. time_told e rest more)))

-- what each call saw is the least prefix that shows it
least_over : (o : Opening) (log : List Applied) (port : Port) (call : Option Call) (way : Option UnderWay) → AllByRecursion (HasLeastPlace o log) (left_over port call way)
least_over o log port (Some call) (Some way) = (tt, tt)
least_over o log port None way = tt
least_over o log port (Some call) None = tt

pub least_told : {o : Opening} {log : List Applied} {q : ℕ} {plans : List (List Call)} {parts : List Part} {ports : List Port} → PortsFit o log q plans parts ports →
    AllByRecursion (HasLeastPlace o log) (calls_in plans ports)
least_told no_ports = tt
least_told {o} {log} (first_port {calls = c} {plans = plans} {port = t} {ports = ports} f rest) =
    let over = left_over t (slice_get c (length t.finished.items)) t.under_way in
    AllByRecursion-append (HasLeastPlace o log) (t.finished.items ++ over) (calls_in plans ports)
    (AllByRecursion-append (HasLeastPlace o log) t.finished.items over f.least (least_over o log t (slice_get c (length t.finished.items)) t.under_way)) (least_told rest)

-- the machine of a port has the sizes of its part's
sizes_at : (z : Layout) (core : CoreState) (x : Part) → (core_of x).sizes ≡ z → IsMachineOf core x → core.sizes ≡ z
sizes_at z core x led (inl h) = h.like.sizes ∙ led
sizes_at z core x led (inr l) = ap (λ (s : CoreState). s.sizes) l.is ∙ led

port_sizes : (z : Layout) (n : ℕ) (calls : List Call) (x : Part) (core : CoreState) (done : List Called) (way : Option UnderWay) → (core_of x).sizes ≡ z → MatchOption way (IsBetween x core)
    (IsCallUnderWay n calls x core done) → core.sizes ≡ z
port_sizes z n calls x core done None led w = w.like.sizes ∙ led
port_sizes z n calls x core done (Some way) led w = sizes_at z core x led w.machine

-- the call that is left unfinished has made no more steps than it may
few_over : (z : Layout) (n : ℕ) (calls : List Call) (x : Part) (port : Port) (way : Option UnderWay) → port.core.sizes ≡ z → MatchOption way (IsBetween x port.core)
    (IsCallUnderWay n calls x port.core port.finished.items) → AreFew z (left_over port (slice_get calls (length port.finished.items)) way)
few_over z n calls x port None sizes w = subst (AreFew z) (sym (over_none port (slice_get calls (length port.finished.items)))) tt
few_over z n calls x port (Some way) sizes w =
    let most : most_steps port.core.sizes w.call ≡ most_steps z w.call = ap (λ (y : Layout). most_steps y w.call) sizes in
    let steps = w.steps in
    subst (λ (f : Option Call). AreFew z (left_over port f (Some way))) (sym w.next) (omega (arith, steps, most), tt)

-- no call that is listed has made more steps than it may
pub few_told : {o : Opening} {log : List Applied} {q : ℕ} {plans : List (List Call)} {parts : List Part} {ports : List Port} (z : Layout) → PortsFit o log q plans parts ports →
    AllByRecursion (λ (x : Part). (core_of x).sizes ≡ z) parts → AreFew z (calls_in plans ports)
few_told z no_ports same = tt
few_told {log} z (first_port {calls = c} {plans = plans} {x = x} {port = t} {ports = ports} f rest) same =
    let sizes = port_sizes z (length log) c x t.core t.finished.items t.under_way same.0 f.way in
    let over = left_over t (slice_get c (length t.finished.items)) t.under_way in
    AllByRecursion-append (λ (d : Called). d.steps ≤ most_steps z d.call) (t.finished.items ++ over) (calls_in plans ports)
    (AllByRecursion-append (λ (d : Called). d.steps ≤ most_steps z d.call) t.finished.items over (subst (λ (y : Layout). AreFew y t.finished.items) sizes f.bounded)
    (few_over z (length log) c x t t.under_way sizes f.way)) (few_told z rest same.1)

-- the calls of a replay are a legal outcome of its history
pub run_legal : {plans : List (List Call)} {s : ReplayState} → IsRunOf plans s → LegalOutcome s.opening s.memory.history.items (calls_in plans s.ports)
run_legal w = record {
  history = w.lawful.memory.history;
  notes = λ p. (notes_told p w.fit).0;
  once = λ p. w.lawful.once p ∙ sym ((notes_told p w.fit).1);
  time = time_told None w.fit (λ c at number. number);
}
