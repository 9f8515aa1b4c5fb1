-- How long the history is at each turn of a port, and the calls that the port begins in its turns.
use Rattle.partial_replay.proofs.{Common.{ℕ, zero, suc, ◌≡◌, ◌≢◌, ◌+◌, ◌-◌, ◌≤◌, ◌==◌, ◌++◌, Bool, true, false, if◌then◌else◌, List, [], ◌∷◌, length, map, take, drop, replicate, slice_get, Option, Some, refl, sym, ◌∙◌, ap, subst, arith, append_assoc, length-append, append-nil, length-map, length-replicate, map-append, take-append-drop, take-append-le, drop-append-le, sum_by-cons, ne_eqb, Called, slice_get_grows, Event, Moment, adds, moments_from, last_behind, ports_of, events_in, made_in, left_behind, lengths_of, lengths_in, BeginInTurns, steps_in, HasTurns, MakeTurns, own_turns}, PortLaws.same_eqb, TurnLaws.{own_events, made_is, left_same, turns_grow}}

-- whose these moments are
abbrev pub ports_at : List Moment → List ℕ
ports_at xs = map (λ x. x.event.port) xs

abbrev pub befores_of : List Moment → List ℕ
befores_of xs = map (λ x. x.before) xs

pub ports_moments : (m n : ℕ) (es : List Event) → ports_at (moments_from m n es) ≡ ports_of es
ports_moments m n [] = refl
ports_moments m n (e ∷ es) = ap (λ (l : List ℕ). e.port ∷ l) (ports_moments m (n + adds m e) es)

pub moments-append : (m n : ℕ) (es fs : List Event) → moments_from m n (es ++ fs) ≡ moments_from m n es ++ moments_from m (last_behind n (moments_from m n es)) fs
moments-append m n [] fs = refl
moments-append m n (e ∷ es) fs = ap (λ (l : List Moment). record { event = e; before = n; behind = n + adds m e } ∷ l) (moments-append m (n + adds m e) es fs)

pub behind-append : (n : ℕ) (xs ys : List Moment) → last_behind n (xs ++ ys) ≡ last_behind (last_behind n xs) ys
behind-append n [] ys = refl
behind-append n (x ∷ xs) ys = behind-append x.behind xs ys

-- the turns of one port
pub own_is : (q p : ℕ) (ls : List ℕ) → q ≡ p → own_turns q p ls ≡ ls
own_is q p ls same = ap (λ (b : Bool). if b then ls else []) (same_eqb p q (sym same))

pub own_other : (q p : ℕ) (ls : List ℕ) → q ≢ p → own_turns q p ls ≡ []
own_other q p ls other = ap (λ (b : Bool). if b then ls else []) (ne_eqb p q (λ h. other (sym h)))

pub own_more : (q p : ℕ) (front ls ks : List ℕ) → (front ++ own_turns q p ls) ++ own_turns q p ks ≡ front ++ own_turns q p (ls ++ ks)
own_more q p front ls ks = append_assoc front (own_turns q p ls) (own_turns q p ks) ∙ ap (λ (l : List ℕ). front ++ l) (both (p == q))
  where
    both : (b : Bool) → (if b then ls else []) ++ (if b then ks else []) ≡ (if b then ls ++ ks else [])
    both b = elim b as (λ c. (if c then ls else []) ++ (if c then ks else []) ≡ (if c then ls ++ ks else [])) [ true ↦ refl | false ↦ refl ]

-- further turns change nothing for the calls that have begun
pub begin_longer : (ls more : List ℕ) (turn : ℕ) (cs : List Called) → BeginInTurns ls turn cs → BeginInTurns (ls ++ more) turn cs
begin_longer ls more turn [] w = tt
begin_longer ls more turn (c ∷ cs) w = (slice_get_grows ls more turn c.began w.0, begin_longer ls more (turn + c.steps) cs w.1)

-- one call more
pub begin_push : (ls : List ℕ) (turn : ℕ) (cs : List Called) (c : Called) → BeginInTurns ls turn cs → slice_get ls (turn + steps_in cs) ≡ Some c.began → BeginInTurns ls turn (cs ++ c ∷ [])
begin_push ls turn [] c w here = (let same : turn + 0 ≡ turn = omega arith in ap (slice_get ls) (sym same) ∙ here, tt)
begin_push ls turn (d ∷ cs) c w here =
    let sum = sum_by-cons (λ (e : Called). e.steps) d cs in
    let same : turn + d.steps + steps_in cs ≡ turn + steps_in (d ∷ cs) = omega (arith, sum) in
    (w.0, begin_push ls (turn + d.steps) cs c w.1 (ap (slice_get ls) same ∙ here))

-- the moments at the front, and those after them
front_of : (xs ys : List ℕ) (n p : ℕ) → xs ≡ replicate n p ++ ys → n ≤ length xs
front_of xs ys n p is =
    let all : length xs ≡ length (replicate n p) + length ys = ap length is ∙ length-append (replicate n p) ys in
    let own = length-replicate n p in
    omega (arith, all, own)

ports_dropped : (xs : List Moment) (n p : ℕ) (behind : List ℕ) → ports_at xs ≡ replicate n p ++ behind → ports_at (drop n xs) ≡ behind
ports_dropped xs zero p behind is = is
ports_dropped [] (suc n) p behind is = let bad : [] ≡ p ∷ (replicate n p ++ behind) = is in cc
ports_dropped (x ∷ xs) (suc n) p behind is = ports_dropped xs n p behind (let same : x.event.port ∷ ports_at xs ≡ p ∷ (replicate n p ++ behind) = is in cc)

no_ports : (xs : List Moment) → ports_at xs ≡ [] → xs ≡ []
no_ports [] is = refl
no_ports (x ∷ xs) is = let bad : x.event.port ∷ ports_at xs ≡ [] = is in cc

take_own : (own : List Moment) (n p : ℕ) → ports_at own ≡ replicate n p → take n own ≡ own
take_own [] zero p is = refl
take_own [] (suc n) p is = refl
take_own (x ∷ own) zero p is = let bad : x.event.port ∷ ports_at own ≡ [] = is in cc
take_own (x ∷ own) (suc n) p is = ap (λ (l : List Moment). x ∷ l) (take_own own n p (let same : x.event.port ∷ ports_at own ≡ p ∷ replicate n p = is in cc))

-- one entry of turns more
pub lengths_push : (D E : ℕ → Type 0) (es : List (ℕ × Option ℕ)) (xs own : List Moment) (s p n : ℕ) (k : Option ℕ) (q : ℕ) (left left' : ℕ → ℕ) →
    ((r : ℕ) → left r ≡ events_in r (ports_at xs)) → ((r : ℕ) → left' r ≡ events_in r (ports_at (xs ++ own))) → ports_at own ≡ replicate n p → (D p → n ≡ 0) →
    HasTurns E p k n [] → MakeTurns D es (ports_at xs) →
    lengths_in q (es ++ (p, k) ∷ []) left' s (xs ++ own) ≡ lengths_in q es left s xs ++ own_turns q p (lengths_of k (last_behind s xs) own)
lengths_push D E [] xs own s p n k q left left' same same' ports none last f =
    let empty : xs ≡ [] = no_ports xs f in
    let all : xs ++ own ≡ own = ap (λ (l : List Moment). l ++ own) empty in
    let own_left : left' p ≡ n + events_in p [] = same' p ∙ ap (λ (l : List Moment). events_in p (ports_at l)) all ∙ ap (events_in p) ports ∙ ap length
    (own_events n p) ∙ length-replicate n p ∙ omega arith in
    let made : made_in k (left' p) ≡ n = made_is E p k n (left' p) [] own_left last in
    let taken : take (made_in k (left' p)) (xs ++ own) ≡ own = ap (λ (l : List Moment). take (made_in k (left' p)) l) all ∙ ap (λ i. take i own) made ∙ take_own own n p ports in
    append-nil (own_turns q p (lengths_of k s (take (made_in k (left' p)) (xs ++ own))))
    ∙ ap (λ (l : List Moment). own_turns q p (lengths_of k s l)) taken
    ∙ ap (λ (l : List Moment). own_turns q p (lengths_of k (last_behind s l) own)) (sym empty)
lengths_push D E (e ∷ es) xs own s p n k q left left' same same' ports none last f =
    let i = f.0 in
    let behind = f.1 in
    let all' : ports_at (xs ++ own) ≡ replicate i e.0 ++ (behind ++ replicate n p) = map-append (λ (x : Moment). x.event.port) xs own ∙ ap (λ (l : List ℕ). ports_at xs ++ l) ports ∙
    ap (λ (l : List ℕ). l ++ replicate n p) f.2 ∙ append_assoc (replicate i e.0) behind (replicate n p) in
    let next = left_same D e i behind left (λ r. same r ∙ ap (events_in r) f.2) f.3 in
    let next' = left_same D e i (behind ++ replicate n p) left' (λ r. same' r ∙ ap (events_in r) all') (turns_grow D D e.0 e.1 i n p behind (λ r d. d) none f.3) in
    let within : i ≤ length xs = let long = front_of (ports_at xs) behind i e.0 f.2 in let same_long = length-map xs (λ (x : Moment). x.event.port) in omega (arith, long, same_long) in
    let front = take i xs in
    let rest = drop i xs in
    let rest_ports : ports_at rest ≡ behind = ports_dropped xs i e.0 behind f.2 in
    let rest_ports' : ports_at (rest ++ own) ≡ behind ++ replicate n p = map-append (λ (x : Moment). x.event.port) rest own ∙ ap (λ (l : List ℕ). l ++ ports_at own) rest_ports ∙
    ap (λ (l : List ℕ). behind ++ l) ports in
    let tail = lengths_push D E es rest own (last_behind s front) p n k q (left_behind e left) (left_behind e left') (λ r. next.1 r ∙ ap (events_in r) (sym rest_ports))
    (λ r. next'.1 r ∙ ap (events_in r) (sym rest_ports')) ports none last (subst (MakeTurns D es) (sym rest_ports) f.4) in
    let whole : last_behind (last_behind s front) rest ≡ last_behind s xs = sym (behind-append s front rest) ∙ ap (last_behind s) (take-append-drop i xs) in
    let head : take (made_in e.1 (left' e.0)) (xs ++ own) ≡ front = ap (λ j. take j (xs ++ own)) next'.0 ∙ take-append-le i xs own within in
    let tail' : drop (made_in e.1 (left' e.0)) (xs ++ own) ≡ rest ++ own = ap (λ j. drop j (xs ++ own)) next'.0 ∙ drop-append-le i xs own within in
    let head_is : take (made_in e.1 (left e.0)) xs ≡ front = ap (λ j. take j xs) next.0 in
    let tail_is : drop (made_in e.1 (left e.0)) xs ≡ rest = ap (λ j. drop j xs) next.0 in
    ap (λ (l : List Moment). own_turns q e.0 (lengths_of e.1 s l) ++ lengths_in q (es ++ (p, k) ∷ []) (left_behind e left') (last_behind s l) (drop (made_in e.1 (left' e.0)) (xs ++ own))) head
    ∙ ap (λ (l : List Moment). own_turns q e.0 (lengths_of e.1 s front) ++ lengths_in q (es ++ (p, k) ∷ []) (left_behind e left') (last_behind s front) l) tail'
    ∙ ap (λ (l : List ℕ). own_turns q e.0 (lengths_of e.1 s front) ++ l) tail
    ∙ sym (append_assoc (own_turns q e.0 (lengths_of e.1 s front)) (lengths_in q es (left_behind e left) (last_behind s front) rest)
    (own_turns q p (lengths_of k (last_behind (last_behind s front) rest) own)))
    ∙ ap (λ j. (own_turns q e.0 (lengths_of e.1 s front) ++ lengths_in q es (left_behind e left) (last_behind s front) rest) ++ own_turns q p (lengths_of k j own)) whole
    ∙ ap (λ (l : List Moment). (own_turns q e.0 (lengths_of e.1 s front) ++ lengths_in q es (left_behind e left) (last_behind s front) l) ++
    own_turns q p (lengths_of k (last_behind s xs) own)) (sym tail_is)
    ∙ ap (λ (l : List Moment). (own_turns q e.0 (lengths_of e.1 s l) ++ lengths_in q es (left_behind e left) (last_behind s l) (drop (made_in e.1 (left e.0)) xs)) ++
    own_turns q p (lengths_of k (last_behind s xs) own)) (sym head_is)

-- what each port has left determines the lengths
pub lengths_same : (q : ℕ) (es : List (ℕ × Option ℕ)) (left left' : ℕ → ℕ) (n : ℕ) (xs : List Moment) → ((r : ℕ) → left r ≡ left' r) → lengths_in q es left n xs ≡ lengths_in q es left' n xs
lengths_same q [] left left' n xs same = refl
lengths_same q (e ∷ es) left left' n xs same =
    let i = made_in e.1 (left' e.0) in
    let rest : (r : ℕ) → left_behind e left r ≡ left_behind e left' r = λ r. ap (λ k. if r == e.0 then k - made_in e.1 k else k) (same r) in
    ap (λ k. own_turns q e.0 (lengths_of e.1 n (take (made_in e.1 k) xs)) ++ lengths_in q es (left_behind e left) (last_behind n (take (made_in e.1 k) xs)) (drop (made_in e.1 k) xs)) (same e.0)
    ∙ ap (λ (l : List ℕ). own_turns q e.0 (lengths_of e.1 n (take i xs)) ++ l) (lengths_same q es (left_behind e left) (left_behind e left') (last_behind n (take i xs)) (drop i xs) rest)
