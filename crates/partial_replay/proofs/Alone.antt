-- In the replay of a plan with one port each call is alone.
use Rattle.partial_replay.proofs.{Common.{ℕ, zero, suc, ◌≡◌, ◌+◌, ◌<◌, ◌≤◌, ◌==◌, ◌++◌, Bool, true, false, if◌then◌else◌, List, [], ◌∷◌, length, map, take, Option, Some, None, IfSome, IsSomeAnd, refl, sym, ◌∙◌, ap, subst, inl, inr, arith, AllByRecursion, filter_map, cons_option, range_with_len, option_map, option_map_or, eqb_tells, Applied, Opening, Call, Answer, Note, Called, Finish, stamp_of, Noted, Fits, IsTrueOf, IsLegal, LegalNotes, seen_after, shown_by, place_of, noted_of, places_by, places_written, wrote, Follows, RealTime, LegalOutcome, calls_by, AreFirstOf, value_of}, PortLaws.same_eqb, Replays.past_get}
use Rattle.partial_replay.specs.Alone.{AddsAlone, AnswersAlone, IsAlone, OnePortIsAlone}

-- all calls are of port 0
kept_none : {A : Type 0} (b : Bool) (x : A) (xs : List A) → (if b then x ∷ xs else xs) ≡ [] → (b ≡ false) × (xs ≡ [])
kept_none true x xs h = let bad : x ∷ xs ≡ [] = h in cc
kept_none false x xs h = (refl, h)

all_zero : (cs : List Called) → ((q : ℕ) → 0 < q → calls_by q cs ≡ []) → AllByRecursion (λ (c : Called). c.port ≡ 0) cs
all_zero [] none = tt
all_zero (c ∷ cs) none = (
  elim (eqb_tells c.port 0) [
    | inl zero' ↦ zero'.1
    | inr other ↦
        let away = other.1 in
        let gone = kept_none (c.port == c.port) c (calls_by c.port cs) (none c.port (omega (arith, away))) in
        let bad : true ≡ false = sym (same_eqb c.port c.port refl) ∙ gone.0 in
        cc
  ],
  all_zero cs (λ q some. (kept_none (c.port == q) c (calls_by q cs) (none q some)).1),
)

zero_calls : (cs : List Called) → AllByRecursion (λ (c : Called). c.port ≡ 0) cs → calls_by 0 cs ≡ cs
zero_calls [] w = refl
zero_calls (c ∷ cs) w = ap (λ (b : Bool). if b then c ∷ calls_by 0 cs else calls_by 0 cs) (same_eqb c.port 0 w.0) ∙ ap (λ (l : List Called). c ∷ l) (zero_calls cs w.1)

-- all entries are of port 0
zero_places : (h : List Applied) (k : ℕ) → ((q : ℕ) → 0 < q → places_by q k h ≡ []) → places_by 0 k h ≡ range_with_len k (length h)
zero_places [] k none = refl
zero_places (e ∷ h) k none =
    let rest : places_by 0 (k + 1) h ≡ range_with_len (k + 1) (length h) = zero_places h (k + 1) (λ q some. (kept_none (e.port == q) k (places_by q (k + 1) h) (none q some)).1) in
    elim (eqb_tells e.port 0) [
      | inl zero' ↦ ap (λ (b : Bool). if b then k ∷ places_by 0 (k + 1) h else places_by 0 (k + 1) h) zero'.0 ∙ ap (λ (l : List ℕ). k ∷ l) rest
      | inr other ↦
          let away = other.1 in
          let gone = kept_none (e.port == e.port) k (places_by e.port (k + 1) h) (none e.port (omega (arith, away))) in
          let bad : true ≡ false = sym (same_eqb e.port e.port refl) ∙ gone.0 in
          cc
    ]

-- a call of port 0 after that one begins at that length or later
abbrev GoesFrom : Option Called → ℕ → Type 0
GoesFrom b low = (c : Called) → c.port ≡ 0 → Follows b c → low ≤ c.began

abbrev end_with : ℕ → Option Finish → ℕ
end_with low f = option_map_or (λ (g : Finish). g.ended) f low

goes_next : (c : Called) (low : ℕ) → c.port ≡ 0 → GoesFrom (Some c) (end_with low c.finish)
goes_next c low zero' d at f = elim f [
  | inl more ↦ let less = more.0 in absurd (omega (arith, less, zero', at))
  | inr same ↦ here c.finish same.2
]
  where
    here : (g : Option Finish) → IsSomeAnd g (λ (g : Finish). g.ended ≤ d.began) → end_with low g ≤ d.began
    here None w = absurd w
    here (Some g) w = w

-- what the notes claim lies after the begin
abbrev InTime : ℕ → ℕ → Option Finish → Type 0
InTime n began f = IfSome f (λ (f : Finish). (began ≤ f.ended) × (f.ended ≤ n) × IfSome f.note (λ note. (began ≤ place_of note) × (shown_by note ≤ f.ended)))

abbrev noted_with : Call → Option Finish → Option Noted
noted_with c f = option_map (λ (g : Finish). record { call = c; answer = g.answer; note = g.note }) f

AllByRecursion-above : (a b : ℕ) (ks : List ℕ) → a ≤ b → AllByRecursion (λ k. b ≤ k) ks → AllByRecursion (λ k. a ≤ k) ks
AllByRecursion-above a b [] less w = tt
AllByRecursion-above a b (k ∷ ks) less w = (let here = w.0 in omega (arith, less, here), AllByRecursion-above a b ks less w.1)

claimed_from : (n low began : ℕ) (c : Call) (f : Option Finish) (rest : List Noted) → low ≤ began → InTime n began f → AllByRecursion (λ k. end_with low f ≤ k) (places_written rest) →
    AllByRecursion (λ k. low ≤ k) (places_written (cons_option (noted_with c f) rest))
claimed_from n low began c None rest from time behind = behind
claimed_from n low began c (Some g) rest from time behind =
    let here = time.0 in
    let tail = AllByRecursion-above low g.ended (places_written rest) (omega (arith, from, here)) behind in
    of g.note time.2 tail
  where
    of : (a : Option Note) → IfSome a (λ note. (began ≤ place_of note) × (shown_by note ≤ g.ended)) → AllByRecursion (λ k. low ≤ k) (places_written rest) →
        AllByRecursion (λ k. low ≤ k) (wrote a ++ places_written rest)
    of None t tail = tail
    of (Some (Note.Wrote k)) t tail = (let place = t.0 in omega (arith, from, place), tail)
    of (Some (Note.Lost k)) t tail = tail
    of (Some (Note.Saw k)) t tail = tail

places_from : (n low : ℕ) (b : Option Called) (cs : List Called) → GoesFrom b low → AllByRecursion (λ (c : Called). c.port ≡ 0) cs → RealTime n b cs →
    AllByRecursion (λ k. low ≤ k) (places_written (filter_map noted_of cs))
places_from n low b [] goes zeros w = tt
places_from n low b (c ∷ cs) goes zeros w =
    claimed_from n low c.began c.call c.finish (filter_map noted_of cs) (goes c zeros.0 w.0) w.1.1 (places_from n (end_with low c.finish) (Some c) cs (goes_next c low zeros.0) zeros.1 w.2)

-- where the places claimed are all from `low` on, and none is below the end, the end isn't above `low`
reaches : (e low d n : ℕ) (ks : List ℕ) → ks ≡ range_with_len low d → low + d ≡ n → e ≤ n → AllByRecursion (λ k. e ≤ k) ks → e ≤ low
reaches e low zero n ks is sum within all = omega (arith, sum, within)
reaches e low (suc d) n ks is sum within all = (subst (AllByRecursion (λ k. e ≤ k)) is all).0

-- what a call alone answers
answers_alone : (o : Opening) (h : List Applied) (p m began ended : ℕ) (c : Call) (a : Answer) (n : Option Note) → Fits m c a n → IfSome n (IsTrueOf o h p c a) → AddsAlone began ended n →
    AnswersAlone o (take began h) c a
answers_alone o h p m began ended (Call.Update j v) (Answer.Lost by) (Some (Note.Lost k)) fits is alone = alone
answers_alone o h p m began ended (Call.Scan js) (Answer.Scanned vs c b) (Some (Note.Saw n)) fits is alone = is.values ∙ ap (λ i. map (λ j. value_of o (take i h) j) js) alone.0
answers_alone o h p m began ended (Call.Read j) (Answer.Read v s) (Some (Note.Saw n)) fits is alone =
    (is.1 ∙ ap (λ i. value_of o (take i h) j) alone.0, is.2 ∙ ap (λ i. stamp_of o (take i h) j) alone.0)
answers_alone o h p m began ended (Call.UpdateIf j x v) (Answer.Applied s) (Some (Note.Wrote k)) fits is alone = ap (λ i. stamp_of o (take i h) j) (sym alone.0) ∙ is.1
answers_alone o h p m began ended (Call.UpdateIf j x v) (Answer.Changed t) (Some (Note.Saw n)) fits is alone = (ap (λ i. stamp_of o (take i h) j) (sym alone.0) ∙ is.1, is.2)
answers_alone o h p m began ended (Call.Update j v) (Answer.Applied s) n fits is alone = tt
answers_alone o h p m began ended _ (Answer.Refused cause) n fits is alone = tt
answers_alone o h p m began ended _ _ _ fits is alone = absurd fits

-- one call, and where the places of those after it begin
record GoesAlone (o : Opening) (h : List Applied) (low n began : ℕ) (c : Call) (f : Option Finish) (rest : List Noted) : Type 0 where
  alone : IfSome f (λ g. AddsAlone began g.ended g.note × AnswersAlone o (take began h) c g.answer)
  left : ℕ
  places : places_written rest ≡ range_with_len (end_with low f) left
  sum : end_with low f + left ≡ n
  later : ℕ
  legal : LegalNotes o h 0 later rest

-- a call that adds no entry of its own
adds_none : (o : Opening) (h : List Applied) (low n began ended d later : ℕ) (c : Call) (a : Answer) (b : Option Note) (rest : List Noted) → wrote b ≡ [] → low ≤ began → began ≤ ended → ended ≤ n →
    LegalNotes o h 0 later rest → places_written rest ≡ range_with_len low d → low + d ≡ n → AllByRecursion (λ k. ended ≤ k) (places_written rest) →
    (began ≡ ended → began ≡ low → AddsAlone began ended b × AnswersAlone o (take began h) c a) → GoesAlone o h low n began c (Some (record { ended = ended; answer = a; note = b })) rest
adds_none o h low n began ended d later c a b rest none from time within legal places sum behind alone =
    let e = reaches ended low d n (places_written rest) places sum within behind in
    let same : low ≡ ended = omega (arith, from, time, e) in
    record {
      alone = alone (omega (arith, from, time, e)) (omega (arith, from, time, e));
      left = d;
      places = places ∙ ap (λ k. range_with_len k d) same;
      sum = omega (arith, same, sum);
      later = later;
      legal = legal;
    }

-- a call that adds its own entry
adds_own : (o : Opening) (h : List Applied) (low n began ended k d later : ℕ) (c : Call) (a : Answer) (rest : List Noted) → low ≤ began → began ≤ k → k + 1 ≤ ended → ended ≤ n →
    LegalNotes o h 0 later rest → k ∷ places_written rest ≡ range_with_len low d → low + d ≡ n → AllByRecursion (λ i. ended ≤ i) (places_written rest) →
    (AddsAlone began ended (Some (Note.Wrote k)) → AnswersAlone o (take began h) c a) → GoesAlone o h low n began c (Some (record { ended = ended; answer = a; note = Some (Note.Wrote k) })) rest
adds_own o h low n began ended k zero later c a rest from place shown within legal places sum behind alone = let bad : k ∷ places_written rest ≡ [] = places in cc
adds_own o h low n began ended k (suc d) later c a rest from place shown within legal places sum behind alone =
    let both : k ∷ places_written rest ≡ low ∷ range_with_len (low + 1) d = places in
    let first : k ≡ low = cc in
    let tail : places_written rest ≡ range_with_len (low + 1) d = cc in
    let e = reaches ended (low + 1) d n (places_written rest) tail (omega (arith, sum)) within behind in
    let same : low + 1 ≡ ended = omega (arith, from, place, first, shown, e) in
    let adds : AddsAlone began ended (Some (Note.Wrote k)) = (omega (arith, from, place, first), omega (arith, from, place, first, same)) in
    record {
      alone = (adds, alone adds);
      left = d;
      places = tail ∙ ap (λ i. range_with_len i d) same;
      sum = omega (arith, same, sum);
      later = later;
      legal = legal;
    }

goes_noted : (o : Opening) (h : List Applied) (low n began ended d seen : ℕ) (c : Call) (a : Answer) (b : Option Note) (rest : List Noted) → low ≤ began → began ≤ ended → ended ≤ n →
    IfSome b (λ note. (began ≤ place_of note) × (shown_by note ≤ ended)) → IsLegal o h 0 seen (record { call = c; answer = a; note = b }) → LegalNotes o h 0 (seen_after seen b) rest → wrote b ++
    places_written rest ≡ range_with_len low d → low + d ≡ n → AllByRecursion (λ k. ended ≤ k) (places_written rest) →
    GoesAlone o h low n began c (Some (record { ended = ended; answer = a; note = b })) rest
goes_noted o h low n began ended d seen c a None rest from time within placed legal later places sum behind =
    adds_none o h low n began ended d seen c a None rest refl from time within later places sum behind
    (λ same here. (sym same, answers_alone o h 0 (length o.values) began ended c a None legal.0 tt (sym same)))
goes_noted o h low n began ended d seen c a (Some (Note.Lost k)) rest from time within placed legal later places sum behind =
    adds_none o h low n began ended d (k + 1) c a (Some (Note.Lost k)) rest refl from time within later places sum behind
    (λ same here. let place = placed.0 in let shown = placed.1 in absurd (omega (arith, same, place, shown)))
goes_noted o h low n began ended d seen c a (Some (Note.Saw m)) rest from time within placed legal later places sum behind =
    adds_none o h low n began ended d m c a (Some (Note.Saw m)) rest refl from time within later places sum behind
    (λ same here.
    let place = placed.0 in
    let shown = placed.1 in
    let adds : AddsAlone began ended (Some (Note.Saw m)) = (omega (arith, same, place, shown), sym same) in
    (adds, answers_alone o h 0 (length o.values) began ended c a (Some (Note.Saw m)) legal.0 (legal.1.0) adds))
goes_noted o h low n began ended d seen c a (Some (Note.Wrote k)) rest from time within placed legal later places sum behind =
    adds_own o h low n began ended k d (k + 1) c a rest from placed.0 placed.1 within later places sum behind
    (λ adds. answers_alone o h 0 (length o.values) began ended c a (Some (Note.Wrote k)) legal.0 (legal.1.0) adds)

goes_alone : (o : Opening) (h : List Applied) (low n began d seen : ℕ) (c : Call) (f : Option Finish) (rest : List Noted) → low ≤ began → InTime n began f →
    LegalNotes o h 0 seen (cons_option (noted_with c f) rest) → places_written (cons_option (noted_with c f) rest) ≡ range_with_len low d → low + d ≡ n → AllByRecursion (λ k. end_with low f ≤ k)
    (places_written rest) → GoesAlone o h low n began c f rest
goes_alone o h low n began d seen c None rest from time legal places sum behind =
    record { alone = tt; left = d; places = places; sum = sum; later = seen; legal = legal }
goes_alone o h low n began d seen c (Some g) rest from time legal places sum behind =
    goes_noted o h low n began g.ended d seen c g.answer g.note rest from time.0 time.1 time.2 legal.0 legal.1 places sum behind

all_alone : (o : Opening) (h : List Applied) (n low d seen : ℕ) (b : Option Called) (cs : List Called) → GoesFrom b low → AllByRecursion (λ (c : Called). c.port ≡ 0) cs → RealTime n b cs →
    LegalNotes o h 0 seen (filter_map noted_of cs) → places_written (filter_map noted_of cs) ≡ range_with_len low d → low + d ≡ n → AllByRecursion (IsAlone o h) cs
all_alone o h n low d seen b [] goes zeros time legal places sum = tt
all_alone o h n low d seen b (c ∷ cs) goes zeros time legal places sum =
    let next = goes_next c low zeros.0 in
    let behind = places_from n (end_with low c.finish) (Some c) cs next zeros.1 time.2 in
    let g = goes_alone o h low n c.began d seen c.call c.finish (filter_map noted_of cs) (goes c zeros.0 time.0) time.1.1 legal places sum behind in
    (g.alone, all_alone o h n (end_with low c.finish) g.left g.later (Some c) cs next zeros.1 time.2 g.legal g.places g.sum)

-- the calls of one port are alone in a legal outcome
calls_alone : (o : Opening) (h : List Applied) (cs : List Called) → LegalOutcome o h cs → ((q : ℕ) → 0 < q → calls_by q cs ≡ []) → AllByRecursion (IsAlone o h) cs
calls_alone o h cs w none =
    let zeros = all_zero cs none in
    let own = zero_calls cs zeros in
    let places : places_by 0 0 h ≡ range_with_len 0 (length h) = zero_places h 0 (λ q some. w.once q ∙ ap (λ (l : List Called). places_written (filter_map noted_of l)) (none q some)) in
    all_alone o h (length h) 0 (length h) 0 None cs (λ c at f. omega arith) zeros w.time
    (subst (λ (l : List Called). LegalNotes o h 0 0 (filter_map noted_of l)) own (w.notes 0))
    (sym (ap (λ (l : List Called). places_written (filter_map noted_of l)) own) ∙ sym (w.once 0) ∙ places)
    (omega arith)

first_none : (cs : List Called) → AreFirstOf [] cs → cs ≡ []
first_none [] w = refl
first_none (c ∷ cs) w = let bad : c.call ∷ map (λ (d : Called). d.call) cs ≡ [] = w in cc

pub one_port_is_alone : OnePortIsAlone
one_port_is_alone p outcome one w =
    calls_alone outcome.opening outcome.history outcome.calls w.legal
    (λ q some. first_none (calls_by q outcome.calls) (subst (λ (l : List Call). AreFirstOf l (calls_by q outcome.calls)) (past_get p.ports q [] (omega (arith, one, some))) (w.calls q)))
