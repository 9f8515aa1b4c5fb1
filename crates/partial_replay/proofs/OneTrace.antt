-- A plan has one trace: its machine determines each port's next step, the words its answer, and the turns the next port.
use Rattle.partial_replay.proofs.{Common.{ℕ, zero, suc, ◌≡◌, ◌≢◌, ◌+◌, ◌-◌, ◌<◌, ◌≤◌, ◌==◌, ◌++◌, min, Bool, true, false, if◌then◌else◌, List, [], ◌∷◌, length, map, replicate, Option, Some, None, refl, sym, ◌∙◌, ap, subst, inl, inr, arith, filter, range_with_len, ne_eqb, eqb_tells, sum_by-cons, Step, Event, Leads, answer_of, words_after, step_of, Moment, adds, moments_from, ports_of, events_in, so_many, to_its_end, made_in, left_behind, ports_in, turns_by, turns_of, PlanView, HasTurns, MakeTurns}, PortLaws.same_eqb, TurnLaws.{events_own, events_other}, PortRuns.{PortAt, PortRun, port_behind}}

-- the events of port q
abbrev pub events_of : ℕ → List Event → List Event
events_of q es = filter (λ e. e.port == q) es

pub moments_events : (m n q : ℕ) (es : List Event) → map (λ (x : Moment). x.event) (filter (λ (x : Moment). x.event.port == q) (moments_from m n es)) ≡ events_of q es
moments_events m n q [] = refl
moments_events m n q (e ∷ es) = kept (e.port == q) (record { event = e; before = n; behind = n + adds m e }) (filter (λ (x : Moment). x.event.port == q) (moments_from m (n + adds m e) es))
    (events_of q es) (moments_events m (n + adds m e) q es)
  where
    kept : (b : Bool) (x : Moment) (xs : List Moment) (fs : List Event) → map (λ (y : Moment). y.event) xs ≡ fs → map (λ (y : Moment). y.event) (if b then x ∷ xs else xs)
        ≡ (if b then x.event ∷ fs else fs)
    kept true x xs fs same = ap (λ (l : List Event). x.event ∷ l) same
    kept false x xs fs same = same

own_first : (e : Event) (es : List Event) (q : ℕ) → e.port ≡ q → events_of q (e ∷ es) ≡ e ∷ events_of q es
own_first e es q same = ap (λ (b : Bool). if b then e ∷ events_of q es else events_of q es) (same_eqb e.port q same)

other_first : (e : Event) (es : List Event) (q : ℕ) → e.port ≢ q → events_of q (e ∷ es) ≡ events_of q es
other_first e es q other = ap (λ (b : Bool). if b then e ∷ events_of q es else events_of q es) (ne_eqb e.port q other)

-- the ports, of which one is at another place
abbrev pub with_port : ℕ → PortAt → (ℕ → PortAt) → ℕ → PortAt
with_port p at ports q = if q == p then at else ports q

-- these events lead the ports and the words to the last ones: each is the due step of its port, with the answer that the words give
pub record Goes (ports : ℕ → PortAt) (words : List ℕ) (es : List Event) (last : List ℕ) (final : ℕ → PortAt) : Type 0 where
  pub leads : Leads words es last
  pub runs : (q : ℕ) → PortRun (ports q) (events_of q es) (final q)

-- the first of them
record First (ports : ℕ → PortAt) (words : List ℕ) (e : Event) (es : List Event) (last : List ℕ) (final : ℕ → PortAt) : Type 0 where
  due : step_of (ports e.port).core ≡ Some e.step
  gives : e.answer ≡ answer_of words e.step
  goes : Goes (with_port e.port (port_behind e.answer (ports e.port)) ports) (words_after words e.step) es last final

first_of : (ports : ℕ → PortAt) (words : List ℕ) (e : Event) (es : List Event) (last : List ℕ) (final : ℕ → PortAt) → Goes ports words (e ∷ es) last final → First ports words e es last final
first_of ports words e es last final g =
    let p = e.port in
    let own : PortRun (ports p) (e ∷ events_of p es) (final p) = subst (λ (l : List Event). PortRun (ports p) l (final p)) (own_first e es p refl) (g.runs p) in
    let next = port_behind e.answer (ports p) in
    record {
      due = own.0;
      gives = (g.leads.0).gives;
      goes = record {
        leads = g.leads.1;
        runs = λ q. elim (eqb_tells q p) [
          | inl same ↦
              let here : next ≡ with_port p next ports q = sym (ap (λ (b : Bool). if b then next else ports q) same.0) in
              subst (λ (a : PortAt). PortRun a (events_of q es) (final q)) here (subst (λ r. PortRun next (events_of r es) (final r)) (sym same.1) own.1)
          | inr other ↦
              let here : ports q ≡ with_port p next ports q = sym (ap (λ (b : Bool). if b then next else ports q) other.0) in
              subst (λ (a : PortAt). PortRun a (events_of q es) (final q)) here (subst (λ (l : List Event). PortRun (ports q) l (final q)) (other_first e es q (λ h. other.1 (sym h))) (g.runs q))
        ];
      };
    }

-- two first events of one port are the same
same_first : (ports : ℕ → PortAt) (words : List ℕ) (e f : Event) (es fs : List Event) (last last' : List ℕ) (final final' : ℕ → PortAt) → e.port ≡ f.port → First ports words e es last final →
    First ports words f fs last' final' → e ≡ f
same_first ports words e f es fs last last' final final' same a b =
    let one : Some e.step ≡ Some f.step = sym a.due ∙ ap (λ q. step_of (ports q).core) same ∙ b.due in
    let step : e.step ≡ f.step = cc in
    let answer : e.answer ≡ f.answer = a.gives ∙ ap (answer_of words) step ∙ sym b.gives in
    ap (λ q. record { port = q; step = e.step; answer = e.answer }) same ∙ ap (λ (s : Step). record { port = f.port; step = s; answer = e.answer }) step ∙
    ap (λ n. record { port = f.port; step = f.step; answer = n }) answer

-- a port that has no event left is where it ends
stopped : (ports : ℕ → PortAt) (words : List ℕ) (es : List Event) (last : List ℕ) (final : ℕ → PortAt) (p : ℕ) → Goes ports words es last final → events_in p (ports_of es) ≡ 0 →
    step_of (final p).core ≡ None → step_of (ports p).core ≡ None
stopped ports words es last final p g none done =
    let empty : events_of p es ≡ [] = none_of (events_of p es) (own_count p es ∙ none) in
    let is : final p ≡ ports p = subst (λ (l : List Event). PortRun (ports p) l (final p)) empty (g.runs p) in
    ap (λ (a : PortAt). step_of a.core) (sym is) ∙ done
  where
    none_of : (l : List Event) → length l ≡ 0 → l ≡ []
    none_of [] h = refl
    none_of (e ∷ l) h = absurd (omega (arith, h))

    own_count : (q : ℕ) (l : List Event) → length (events_of q l) ≡ events_in q (ports_of l)
    own_count q [] = refl
    own_count q (e ∷ l) = kept (e.port == q) e (events_of q l) (filter (λ r. r == q) (ports_of l)) (own_count q l)
      where
        kept : (b : Bool) (x : Event) (xs : List Event) (ps : List ℕ) → length xs ≡ length ps → length (if b then x ∷ xs else xs) ≡ length (if b then x.port ∷ ps else ps)
        kept true x xs ps same = ap suc same
        kept false x xs ps same = same

-- the turns of one entry, in which two traces make these numbers of steps
abbrev IsStopped : (ℕ → PortAt) → ℕ → List ℕ → Type 0
IsStopped final p behind = (step_of (final p).core ≡ None) × (events_in p behind ≡ 0)

abbrev SameBehind : (ℕ → Type 0) → (ℕ → Type 0) → List (ℕ × Option ℕ) → List ℕ → List ℕ → (ℕ → PortAt) → (ℕ → PortAt) → Type 0
SameBehind D E es last last' final final' = (ports : ℕ → PortAt) (words : List ℕ) (xs ys : List Event) → Goes ports words xs last final → Goes ports words ys last' final' →
    MakeTurns D es (ports_of xs) → MakeTurns E es (ports_of ys) → xs ≡ ys

entry_same : (D E : ℕ → Type 0) (es : List (ℕ × Option ℕ)) (last last' : List ℕ) (final final' : ℕ → PortAt) (p i j : ℕ) (ports : ℕ → PortAt) (words : List ℕ) (xs ys : List Event)
    (behind behind' : List ℕ) →
    SameBehind D E es last last' final final' → Goes ports words xs last final → Goes ports words ys last' final' → ports_of xs ≡ replicate i p ++ behind → ports_of ys ≡ replicate j p ++ behind' →
    (i < j → IsStopped final p behind) → (j < i → IsStopped final' p behind') → MakeTurns D es behind → MakeTurns E es behind' → xs ≡ ys
entry_same D E es last last' final final' p zero zero ports words xs ys behind behind' same g h is is' less less' f f' = same ports words xs ys g h (subst (MakeTurns D es) (sym is) f)
    (subst (MakeTurns E es) (sym is') f')
entry_same D E es last last' final final' p zero (suc j) ports words xs [] behind behind' same g h is is' less less' f f' = let bad : [] ≡ p ∷ (replicate j p ++ behind') = is' in cc
entry_same D E es last last' final final' p zero (suc j) ports words xs (y ∷ ys) behind behind' same g h is is' less less' f f' =
    let stop = less (omega arith) in
    let none = stopped ports words xs last final p g (ap (events_in p) is ∙ stop.1) stop.0 in
    let both : y.port ∷ ports_of ys ≡ p ∷ (replicate j p ++ behind') = is' in
    let port : y.port ≡ p = cc in
    let bad : None ≡ Some y.step = sym none ∙ ap (λ q. step_of (ports q).core) (sym port) ∙ (first_of ports words y ys last' final' h).due in
    cc
entry_same D E es last last' final final' p (suc i) zero ports words [] ys behind behind' same g h is is' less less' f f' = let bad : [] ≡ p ∷ (replicate i p ++ behind) = is in cc
entry_same D E es last last' final final' p (suc i) zero ports words (x ∷ xs) ys behind behind' same g h is is' less less' f f' =
    let stop = less' (omega arith) in
    let none = stopped ports words ys last' final' p h (ap (events_in p) is' ∙ stop.1) stop.0 in
    let both : x.port ∷ ports_of xs ≡ p ∷ (replicate i p ++ behind) = is in
    let port : x.port ≡ p = cc in
    let bad : None ≡ Some x.step = sym none ∙ ap (λ q. step_of (ports q).core) (sym port) ∙ (first_of ports words x xs last final g).due in
    cc
entry_same D E es last last' final final' p (suc i) (suc j) ports words [] ys behind behind' same g h is is' less less' f f' = let bad : [] ≡ p ∷ (replicate i p ++ behind) = is in cc
entry_same D E es last last' final final' p (suc i) (suc j) ports words (x ∷ xs) [] behind behind' same g h is is' less less' f f' = let bad : [] ≡ p ∷ (replicate j p ++ behind') = is' in cc
entry_same D E es last last' final final' p (suc i) (suc j) ports words (x ∷ xs) (y ∷ ys) behind behind' same g h is is' less less' f f' =
    let a = first_of ports words x xs last final g in
    let b = first_of ports words y ys last' final' h in
    let both : x.port ∷ ports_of xs ≡ p ∷ (replicate i p ++ behind) = is in
    let both' : y.port ∷ ports_of ys ≡ p ∷ (replicate j p ++ behind') = is' in
    let port : x.port ≡ y.port = cc in
    let rest : ports_of xs ≡ replicate i p ++ behind = cc in
    let rest' : ports_of ys ≡ replicate j p ++ behind' = cc in
    let first : x ≡ y = same_first ports words x y xs ys last last' final final' port a b in
    let next = with_port x.port (port_behind x.answer (ports x.port)) ports in
    let goes : Goes next (words_after words x.step) ys last' final' = subst (λ (e : Event). Goes (with_port e.port (port_behind e.answer (ports e.port)) ports) (words_after words e.step) ys last'
    final') (sym first) b.goes in
    let tail = entry_same D E es last last' final final' p i j next (words_after words x.step) xs ys behind behind' same a.goes goes rest rest' (λ l. less (omega (arith, l)))
    (λ l. less' (omega (arith, l))) f f' in
    ap (λ (e : Event). e ∷ xs) first ∙ ap (λ (l : List Event). y ∷ l) tail

-- where a port has made fewer steps in an entry, it has stopped
fewer_stopped : (D : ℕ → Type 0) (final : ℕ → PortAt) (p i j : ℕ) (k : Option ℕ) (behind behind' : List ℕ) → ((q : ℕ) → D q → step_of (final q).core ≡ None) → (E : ℕ → Type 0) →
    HasTurns D p k i behind → HasTurns E p k j behind' → i < j → IsStopped final p behind
fewer_stopped D final p i j None behind behind' done E h h' less = (done p h.0, h.1)
fewer_stopped D final p i j (Some k) behind behind' done E h h' less = let within = h'.0 in let stop = h.1 (omega (arith, less, within)) in (done p stop.0, stop.1)

-- two traces of the same turns, from the same ports and words, are the same
pub traces_same : (D E : ℕ → Type 0) (es : List (ℕ × Option ℕ)) (last last' : List ℕ) (final final' : ℕ → PortAt) → ((q : ℕ) → D q → step_of (final q).core ≡ None) →
    ((q : ℕ) → E q → step_of (final' q).core ≡ None) → SameBehind D E es last last' final final'
traces_same D E [] last last' final final' done done' ports words xs ys g h f f' = no_ports xs f ∙ sym (no_ports ys f')
  where
    no_ports : (l : List Event) → ports_of l ≡ [] → l ≡ []
    no_ports [] is = refl
    no_ports (e ∷ l) is = let bad : e.port ∷ ports_of l ≡ [] = is in cc
traces_same D E (e ∷ es) last last' final final' done done' ports words xs ys g h f f' =
    entry_same D E es last last' final final' e.0 (f.0) (f'.0) ports words xs ys (f.1) (f'.1) (traces_same D E es last last' final final' done done') g h f.2 f'.2
    (fewer_stopped D final e.0 (f.0) (f'.0) e.1 (f.1) (f'.1) done E f.3 f'.3) (fewer_stopped E final' e.0 (f'.0) (f.0) e.1 (f'.1) (f.1) done' D f'.3 f.3) f.4 f'.4

-- ---- the turns that a trace has made, by how many steps each port has made

-- no more events of a port stand in the turns than it makes steps
made_few : (k : Option ℕ) (left : ℕ) → made_in k left ≤ left
made_few None left = omega arith
made_few (Some k) left = omega arith

left_own : (e : ℕ × Option ℕ) (left : ℕ → ℕ) → left_behind e left e.0 ≡ left e.0 - made_in e.1 (left e.0)
left_own e left = ap (λ (b : Bool). if b then left e.0 - made_in e.1 (left e.0) else left e.0) (same_eqb e.0 e.0 refl)

left_other : (e : ℕ × Option ℕ) (left : ℕ → ℕ) (q : ℕ) → q ≢ e.0 → left_behind e left q ≡ left q
left_other e left q other = ap (λ (b : Bool). if b then left q - made_in e.1 (left q) else left q) (ne_eqb q e.0 other)

ports_few : (es : List (ℕ × Option ℕ)) (left : ℕ → ℕ) (q : ℕ) → events_in q (ports_in es left) ≤ left q
ports_few [] left q = omega arith
ports_few (e ∷ es) left q =
    let n = made_in e.1 (left e.0) in
    let behind = ports_in es (left_behind e left) in
    let rest = ports_few es (left_behind e left) q in
    let few = made_few e.1 (left e.0) in
    elim (eqb_tells q e.0) [
      | inl same ↦
          let all : events_in q (replicate n e.0 ++ behind) ≡ n + events_in q behind = ap (λ r. events_in r (replicate n e.0 ++ behind)) same.1 ∙ events_own n e.0 behind ∙
          ap (λ r. n + events_in r behind) (sym same.1) in
          let left' : left_behind e left q ≡ left e.0 - n = ap (left_behind e left) same.1 ∙ left_own e left in
          let here : left q ≡ left e.0 = ap left same.1 in
          omega (arith, all, left', here, rest, few)
      | inr other ↦
          let all : events_in q (replicate n e.0 ++ behind) ≡ events_in q behind = events_other q n e.0 behind other.1 in
          let left' = left_other e left q other.1 in
          omega (arith, all, left', rest)
    ]

-- after an entry in which a port makes all its steps it has no event
none_behind : (e : ℕ × Option ℕ) (es : List (ℕ × Option ℕ)) (left : ℕ → ℕ) → made_in e.1 (left e.0) ≡ left e.0 → events_in e.0 (ports_in es (left_behind e left)) ≡ 0
none_behind e es left all =
    let few = ports_few es (left_behind e left) e.0 in
    let own = left_own e left in
    omega (arith, few, own, all)

-- the rest of each port, where all have made their calls
ends_made : (D : ℕ → Type 0) → ((q : ℕ) → D q) → (qs : List ℕ) (left : ℕ → ℕ) → MakeTurns D (map to_its_end qs) (ports_in (map to_its_end qs) left)
ends_made D done [] left = refl
ends_made D done (q ∷ qs) left = (
  left q,
  ports_in (map to_its_end qs) (left_behind (to_its_end q) left),
  refl,
  (done q, none_behind (to_its_end q) (map to_its_end qs) left refl),
  ends_made D done qs (left_behind (to_its_end q) left),
)

-- so many turns of each port, where one that makes fewer steps than it has turns has made its calls
turns_left : (e : ℕ × ℕ) (steps : List (ℕ × ℕ)) (left : ℕ → ℕ) (q : ℕ) → left_behind (so_many e) left q < turns_by q steps → left q < turns_by q (e ∷ steps)
turns_left e steps left q less =
    let sum = sum_by-cons (λ (d : ℕ × ℕ). if d.0 == q then d.1 else 0) e steps in
    elim (eqb_tells q e.0) [
      | inl same ↦
          let left' : left_behind (so_many e) left q ≡ left q - min e.1 (left q) = ap (left_behind (so_many e) left) same.1 ∙ left_own
          (so_many e) left ∙ ap (λ r. left r - min e.1 (left r)) (sym same.1) in
          let own : (if e.0 == q then e.1 else 0) ≡ e.1 = ap (λ (b : Bool). if b then e.1 else 0) (same_eqb e.0 q (sym same.1)) in
          omega (arith, sum, left', own, less)
      | inr other ↦
          let left' = left_other (so_many e) left q other.1 in
          let own : (if e.0 == q then e.1 else 0) ≡ 0 = ap (λ (b : Bool). if b then e.1 else 0) (ne_eqb e.0 q (λ h. other.1 (sym h))) in
          omega (arith, sum, left', own, less)
    ]

turns_here : (e : ℕ × ℕ) (steps : List (ℕ × ℕ)) (left : ℕ → ℕ) → min e.1 (left e.0) < e.1 → left e.0 < turns_by e.0 (e ∷ steps)
turns_here e steps left less =
    let sum = sum_by-cons (λ (d : ℕ × ℕ). if d.0 == e.0 then d.1 else 0) e steps in
    let own : (if e.0 == e.0 then e.1 else 0) ≡ e.1 = ap (λ (b : Bool). if b then e.1 else 0) (same_eqb e.0 e.0 refl) in
    omega (arith, sum, own, less)

some_made : (D : ℕ → Type 0) (steps : List (ℕ × ℕ)) (ends : List (ℕ × Option ℕ)) (left : ℕ → ℕ) → ((q : ℕ) → left q < turns_by q steps → D q) →
    ((left' : ℕ → ℕ) → MakeTurns D ends (ports_in ends left')) →
    MakeTurns D (map so_many steps ++ ends) (ports_in (map so_many steps ++ ends) left)
some_made D [] ends left stops tail = tail left
some_made D (e ∷ steps) ends left stops tail =
    let n = min e.1 (left e.0) in
    let es = map so_many steps ++ ends in (
      n,
      ports_in es (left_behind (so_many e) left),
      refl,
      (omega arith, λ less. (stops e.0 (turns_here e steps left less), none_behind (so_many e) es left (omega (arith, less)))),
      some_made D steps ends (left_behind (so_many e) left) (λ q less. stops q (turns_left e steps left q less)) tail,
    )

-- the turns of a plan
pub plan_turns : (D : ℕ → Type 0) (p : PlanView) (left : ℕ → ℕ) → (p.rest ≡ true → (q : ℕ) → D q) → (p.rest ≡ false → (q : ℕ) → left q < turns_by q p.steps → D q) →
    MakeTurns D (turns_of p) (ports_in (turns_of p) left)
plan_turns D p left rest stops = at p.rest refl
  where
    at : (b : Bool) → p.rest ≡ b →
        MakeTurns D (map so_many p.steps ++ (if b then map to_its_end (range_with_len 0 (length p.ports)) else []))
        (ports_in (map so_many p.steps ++ (if b then map to_its_end (range_with_len 0 (length p.ports)) else [])) left)
    at true is = some_made D p.steps (map to_its_end (range_with_len 0 (length p.ports))) left (λ q less. rest is q) (ends_made D (rest is) (range_with_len 0 (length p.ports)))
    at false is = some_made D p.steps [] left (stops is) (λ left'. refl)
