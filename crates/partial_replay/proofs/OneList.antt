-- The calls of a port are determined by the plan, the events and the lengths of the history at the port's turns.
use Rattle.partial_replay.proofs.{Common.{ℕ, ◌⊎◌, ◌≡◌, ◌≢◌, ◌+◌, ◌<◌, ◌≤◌, ◌++◌, Bool, if◌then◌else◌, List, [], ◌∷◌, length, map, take, Option, Some, None, IfSome, IsSomeAnd, refl, sym, ◌∙◌, ap, subst, inl, inr, arith, length-append, option_map, ne_eqb, eqb_tells, Applied, Opening, Answer, Call, Called, Finish, Note, Refused, HaveDistinctStamps, Follows, RealTime, Reply, Idle, CoreState, at_stage, advance, reply_of, answer_for, begun_of, refusal_of, Moment, last_behind, Makes, HasSteps, IsFinishedAtOnce, IsRefusedAtOnce, IsCallRun, AreStepsOf, calls_by, AreFirstOf, EndInStep, BeginInTurns, due_is_unreplied}, PortLaws.same_eqb, PortRuns.{AreFinishedBut, none_map}, OneNote.{IsRightNote, AreRight, notes_same}}

-- ---- the calls of one port, numbered

-- the calls are port q's, numbered from k on, and only the last may be unfinished
abbrev pub AreListedFrom : ℕ → ℕ → List Called → Type 0
AreListedFrom q k [] = Unit {0}
AreListedFrom q k (c ∷ cs) = (c.port ≡ q) × (c.number ≡ k) × (c.finish ≡ None → cs ≡ []) × AreListedFrom q (k + 1) cs

pub own_call : (q : ℕ) (c : Called) (cs : List Called) → c.port ≡ q → calls_by q (c ∷ cs) ≡ c ∷ calls_by q cs
own_call q c cs same = ap (λ (b : Bool). if b then c ∷ calls_by q cs else calls_by q cs) (same_eqb c.port q same)

pub other_call : (q : ℕ) (c : Called) (cs : List Called) → c.port ≢ q → calls_by q (c ∷ cs) ≡ calls_by q cs
other_call q c cs other = ap (λ (b : Bool). if b then c ∷ calls_by q cs else calls_by q cs) (ne_eqb c.port q other)

-- after a call of a later port there is none of port q
none_past : (n q : ℕ) (b : Called) (cs : List Called) → q < b.port → RealTime n (Some b) cs → calls_by q cs ≡ []
none_past n q b [] past w = refl
none_past n q b (c ∷ cs) past w =
    let above : b.port ≤ c.port = elim w.0 [ inl later ↦ (let less = later.0 in omega (arith, less)) | inr same ↦ (let port = same.0 in omega (arith, port)) ] in
    other_call q c cs (λ h. omega (arith, h, above, past)) ∙ none_past n q c cs (omega (arith, above, past)) w.2

none_finished : (f : Option Finish) (began : ℕ) → f ≡ None → IsSomeAnd f (λ g. g.ended ≤ began) → ⊥
none_finished f began none w = let v : IsSomeAnd None (λ (g : Finish). g.ended ≤ began) = subst (λ (g : Option Finish). IsSomeAnd g (λ e. e.ended ≤ began)) none w in absurd v

-- the calls after one of port q
listed_behind : (n q : ℕ) (b : Called) (cs : List Called) → b.port ≡ q → RealTime n (Some b) cs → (b.finish ≡ None → calls_by q cs ≡ []) × AreListedFrom q (b.number + 1) (calls_by q cs)
listed_behind n q b [] own w = ((λ none. refl), tt)
listed_behind n q b (c ∷ cs) own w = elim w.0 [
  | inl later ↦
      let less = later.0 in
      let empty : calls_by q (c ∷ cs) ≡ [] = other_call q c cs (λ h. omega (arith, h, less, own)) ∙ none_past n q c cs (omega (arith, less, own)) w.2 in
      ((λ none. empty), subst (AreListedFrom q (b.number + 1)) (sym empty) tt)
  | inr same ↦
      let port : c.port ≡ q = same.0 ∙ own in
      let rest = listed_behind n q c cs port w.2 in
      let here : AreListedFrom q (b.number + 1) (c ∷ calls_by q cs) = (port, same.1, rest.0, subst (λ k. AreListedFrom q (k + 1) (calls_by q cs)) same.1 rest.1) in
      ((λ none. absurd (none_finished b.finish c.began none same.2)), subst (AreListedFrom q (b.number + 1)) (sym (own_call q c cs port)) here)
]

-- all calls of port q, where none has come yet
abbrev IsOfAnother : ℕ → Option Called → Type 0
IsOfAnother q before = IfSome before (λ b. b.port ≢ q)

first_number : (q : ℕ) (before : Option Called) (c : Called) → IsOfAnother q before → c.port ≡ q → Follows before c → c.number ≡ 0
first_number q None c other own w = w
first_number q (Some b) c other own w = elim w [ inl later ↦ later.1 | inr same ↦ absurd (other (sym same.0 ∙ own)) ]

pub calls_listed : (n q : ℕ) (before : Option Called) (cs : List Called) → IsOfAnother q before → RealTime n before cs → AreListedFrom q 0 (calls_by q cs)
calls_listed n q before [] other w = tt
calls_listed n q before (c ∷ cs) other w = elim (eqb_tells c.port q) [
  | inl own ↦
      let rest = listed_behind n q c cs own.1 w.2 in
      let number = first_number q before c other own.1 w.0 in
      subst (AreListedFrom q 0) (sym (own_call q c cs own.1)) (own.1, number, rest.0, subst (λ k. AreListedFrom q (k + 1) (calls_by q cs)) number rest.1)
  | inr away ↦ subst (AreListedFrom q 0) (sym (other_call q c cs away.1)) (calls_listed n q (Some c) cs away.1 w.2)
]

pub finished_but : (q k : ℕ) (cs : List Called) → AreListedFrom q k cs → AreFinishedBut cs
finished_but q k [] w = tt
finished_but q k (c ∷ cs) w = (w.2, finished_but q (k + 1) cs w.3)

-- ---- two calls of one machine, over the same events

makes_same : (s t v : CoreState) (xs ys behind behind' : List Moment) → Makes s xs t → Makes s ys v → xs ++ behind ≡ ys ++ behind' → (reply_of t ≡ None → behind ≡ []) →
    (reply_of v ≡ None → behind' ≡ []) → (xs ≡ ys) × (behind ≡ behind') × (t ≡ v)
makes_same s t v [] [] behind behind' m k all last last' = (refl, all, m ∙ sym k)
makes_same s t v [] (y ∷ ys) behind behind' m k all last last' =
    let empty : behind ≡ [] = last (ap reply_of m ∙ due_is_unreplied s y.event.step k.0) in
    let bad : [] ≡ y ∷ (ys ++ behind') = sym empty ∙ all in
    cc
makes_same s t v (x ∷ xs) [] behind behind' m k all last last' =
    let empty : behind' ≡ [] = last' (ap reply_of k ∙ due_is_unreplied s x.event.step m.0) in
    let bad : x ∷ (xs ++ behind) ≡ [] = all ∙ empty in
    cc
makes_same s t v (x ∷ xs) (y ∷ ys) behind behind' m k all last last' =
    let both : x ∷ (xs ++ behind) ≡ y ∷ (ys ++ behind') = all in
    let one : x ≡ y = cc in
    let more : xs ++ behind ≡ ys ++ behind' = cc in
    let next : Makes (advance s x.event.answer) ys v = subst (λ (z : Moment). Makes (advance s z.event.answer) ys v) (sym one) k.2 in
    let rest = makes_same (advance s x.event.answer) t v xs ys behind behind' m.2 next more last last' in
    (ap (λ (z : Moment). z ∷ xs) one ∙ ap (λ (l : List Moment). y ∷ l) rest.0, rest.1, rest.2)

-- what becomes of a call, except its note
record SameCall (c d : Called) (own own' behind behind' : List Moment) (u v : CoreState) : Type 0 where
  events : own ≡ own'
  rest : behind ≡ behind'
  next : u ≡ v
  answers : option_map (λ (f : Finish). f.answer) c.finish ≡ option_map (λ (f : Finish). f.answer) d.finish
  end : (n : ℕ) × IfSome c.finish (λ f. f.ended ≡ n) × IfSome d.finish (λ f. f.ended ≡ n)

ended_is : (f : Option Finish) (n : ℕ) (g : Finish) → f ≡ Some g → g.ended ≡ n → IfSome f (λ e. e.ended ≡ n)
ended_is f n g is ends = subst (λ (e : Option Finish). IfSome e (λ x. x.ended ≡ n)) (sym is) ends

module _ (s : CoreState) (c d : Called) (u v : CoreState) (behind behind' : List Moment) (same : c.call ≡ d.call) (began : c.began ≡ d.began) where
  refused_same : IsRefusedAtOnce s c u → IsRefusedAtOnce s d v → behind ≡ behind' → SameCall c d [] [] behind behind' u v
  refused_same a b all =
      let one : Some a.cause ≡ Some b.cause = sym a.refused ∙ ap (refusal_of s) same ∙ b.refused in
      let cause : a.cause ≡ b.cause = cc in
      record {
        events = refl;
        rest = all;
        next = a.rests ∙ sym b.rests;
        answers = ap (option_map (λ (f : Finish). f.answer)) a.finish ∙ ap (λ (r : Refused). Some (Answer.Refused r)) cause ∙ sym (ap (option_map (λ (f : Finish). f.answer)) b.finish);
        end = (c.began, ended_is c.finish c.began _ a.finish refl, ended_is d.finish c.began _ b.finish (sym began));
      }

  finished_same : IsFinishedAtOnce s c u → IsFinishedAtOnce s d v → behind ≡ behind' → SameCall c d [] [] behind behind' u v
  finished_same a b all =
      let one : Some a.reply ≡ Some b.reply = sym a.replied ∙ ap (λ (e : Call). reply_of (begun_of s e)) same ∙ b.replied in
      let reply : a.reply ≡ b.reply = cc in
      record {
        events = refl;
        rest = all;
        next = a.rests ∙ ap (λ (e : Call). at_stage (begun_of s e) Idle) same ∙ sym b.rests;
        answers = ap (option_map (λ (f : Finish). f.answer)) a.finish ∙ ap (λ (e : Call). Some (answer_for (begun_of s e) a.reply)) same ∙ ap (λ (r : Reply). Some (answer_for (begun_of s d.call) r))
            reply ∙ sym (ap (option_map (λ (f : Finish). f.answer)) b.finish);
        end = (c.began, ended_is c.finish c.began _ a.finish refl, ended_is d.finish c.began _ b.finish (sym began));
      }

  steps_same : (x y : Moment) (xs ys : List Moment) → HasSteps s c x xs u → HasSteps s d y ys v → (x ∷ xs) ++ behind ≡ (y ∷ ys) ++ behind' → (c.finish ≡ None → behind ≡ []) →
      (d.finish ≡ None → behind' ≡ []) → SameCall c d (x ∷ xs) (y ∷ ys) behind behind' u v
  steps_same x y xs ys a b all last last' =
      let makes : Makes (begun_of s d.call) (x ∷ xs) a.last = subst (λ (e : Call). Makes (begun_of s e) (x ∷ xs) a.last) same a.makes in
      let w = makes_same (begun_of s d.call) a.last b.last (x ∷ xs) (y ∷ ys) behind behind' makes b.makes all (λ none. last (none_map c.finish a.last (reply_of a.last) none a.answered))
      (λ none. last' (none_map d.finish b.last (reply_of b.last) none b.answered)) in
      let ends : last_behind y.behind ys ≡ last_behind x.behind xs = ap (last_behind 0) (sym w.0) in
      record {
        events = w.0;
        rest = w.1;
        next = a.rests ∙ ap (λ (t : CoreState). at_stage t Idle) w.2 ∙ sym b.rests;
        answers = a.answered ∙ ap (λ (t : CoreState). option_map (answer_for t) (reply_of t)) w.2 ∙ sym b.answered;
        end = (last_behind x.behind xs, a.ended, subst (λ n. IfSome d.finish (λ f. f.ended ≡ n)) ends b.ended);
      }

  call_same : (own own' : List Moment) → IsCallRun s c own u → IsCallRun s d own' v → own ++ behind ≡ own' ++ behind' → (c.finish ≡ None → behind ≡ []) → (d.finish ≡ None → behind' ≡ []) →
      SameCall c d own own' behind behind' u v
  call_same [] [] a b all last last' = elim a [
    | inl r ↦ elim b [
      | inl q ↦ refused_same r q all
      | inr f ↦ let bad : Some r.cause ≡ None = sym r.refused ∙ ap (refusal_of s) same ∙ f.begins in cc
    ]
    | inr f ↦ elim b [
      | inl q ↦ let bad : None ≡ Some q.cause = sym f.begins ∙ ap (refusal_of s) same ∙ q.refused in cc
      | inr g ↦ finished_same f g all
    ]
  ]
  call_same [] (y ∷ ys) a b all last last' = elim a [
    | inl r ↦ let bad : Some r.cause ≡ None = sym r.refused ∙ ap (refusal_of s) same ∙ b.begins in cc
    | inr f ↦ let bad : Some f.reply ≡ None = sym f.replied ∙ ap (λ (e : Call). reply_of (begun_of s e)) same ∙ due_is_unreplied (begun_of s d.call) y.event.step b.makes.0 in cc
  ]
  call_same (x ∷ xs) [] a b all last last' = elim b [
    | inl q ↦ let bad : None ≡ Some q.cause = sym a.begins ∙ ap (refusal_of s) same ∙ q.refused in cc
    | inr g ↦ let bad : None ≡ Some g.reply = sym (due_is_unreplied (begun_of s c.call) x.event.step a.makes.0) ∙ ap (λ (e : Call). reply_of (begun_of s e)) same ∙ g.replied in cc
  ]
  call_same (x ∷ xs) (y ∷ ys) a b all last last' = steps_same x y xs ys a b all last last'

-- ---- the calls of a port, one after the other

-- what is known of a port's calls, from a machine, a turn and a number on
pub record AreMade (o : Opening) (h : List Applied) (q : ℕ) (ls : List ℕ) (plan : List Call) (turn k : ℕ) (s : CoreState) (xs : List Moment) (cs : List Called) : Type 0 where
  pub first : AreFirstOf plan cs
  pub listed : AreListedFrom q k cs
  pub begins : BeginInTurns ls turn cs
  pub right : AreRight o h q cs
  pub last : CoreState
  pub steps : AreStepsOf s cs xs last

-- both end alike: all calls are made, or the last has made a step
abbrev pub EndAlike : List Call → List Called → List Called → Type 0
EndAlike plan cs ds = ((length cs ≡ length plan) × (length ds ≡ length plan)) ⊎ (EndInStep cs × EndInStep ds)

finish_same : (o : Opening) (h : List Applied) (q began : ℕ) (e : Call) (f g : Option Finish) (n : ℕ) → HaveDistinctStamps h →
    option_map (λ (x : Finish). x.answer) f ≡ option_map (λ (x : Finish). x.answer) g → IfSome f (λ x. x.ended ≡ n) → IfSome g (λ x. x.ended ≡ n) →
    IfSome f (λ x. IsRightNote o h q began e x.answer x.note) → IfSome g (λ x. IsRightNote o h q began e x.answer x.note) → f ≡ g
finish_same o h q began e None None n distinct answers end end' right right' = refl
finish_same o h q began e None (Some g) n distinct answers end end' right right' = let bad : None ≡ Some g.answer = answers in cc
finish_same o h q began e (Some f) None n distinct answers end end' right right' = let bad : Some f.answer ≡ None = answers in cc
finish_same o h q began e (Some f) (Some g) n distinct answers end end' right right' =
    let one : Some f.answer ≡ Some g.answer = answers in
    let same : f.answer ≡ g.answer = cc in
    let right'' : IsRightNote o h q began e f.answer g.note = subst (λ (a : Answer). IsRightNote o h q began e a g.note) (sym same) right' in
    let note : f.note ≡ g.note = notes_same o h q began distinct e f.answer f.note g.note right right'' in
    ap (λ k. Some (record { ended = k; answer = f.answer; note = f.note })) (end ∙ sym end') ∙ ap (λ (a : Answer). Some (record { ended = g.ended; answer = a; note = f.note })) same ∙
    ap (λ (m : Option Note). Some (record { ended = g.ended; answer = g.answer; note = m })) note

called_same : (c d : Called) → c.port ≡ d.port → c.number ≡ d.number → c.call ≡ d.call → c.began ≡ d.began → c.steps ≡ d.steps → c.finish ≡ d.finish → c ≡ d
called_same c d port number call' began steps finish =
    ap (λ k. record { port = k; number = c.number; call = c.call; began = c.began; steps = c.steps; finish = c.finish }) port
    ∙ ap (λ k. record { port = d.port; number = k; call = c.call; began = c.began; steps = c.steps; finish = c.finish }) number
    ∙ ap (λ (e : Call). record { port = d.port; number = d.number; call = e; began = c.began; steps = c.steps; finish = c.finish }) call'
    ∙ ap (λ k. record { port = d.port; number = d.number; call = d.call; began = k; steps = c.steps; finish = c.finish }) began
    ∙ ap (λ k. record { port = d.port; number = d.number; call = d.call; began = d.began; steps = k; finish = c.finish }) steps
    ∙ ap (λ (f : Option Finish). record { port = d.port; number = d.number; call = d.call; began = d.began; steps = d.steps; finish = f }) finish

-- calls without events have made no step
no_steps : (s last : CoreState) (c : Called) (cs : List Called) (xs : List Moment) → xs ≡ [] → AreStepsOf s (c ∷ cs) xs last → EndInStep (c ∷ cs) → ⊥
no_steps s last c [] xs none w ends =
    let long : length xs ≡ length (w.0) + length (w.1) = ap length w.3 ∙ length-append (w.0) (w.1) in
    let empty : length xs ≡ 0 = ap length none in
    let own = w.4 in
    omega (arith, long, empty, own, ends)
no_steps s last c (d ∷ cs) xs none w ends =
    let long : length xs ≡ length (w.0) + length (w.1) = ap length w.3 ∙ length-append (w.0) (w.1) in
    let empty : length xs ≡ 0 = ap length none in
    let zero' : length (w.1) ≡ 0 = omega (arith, long, empty) in
    no_steps (w.2) last d cs (w.1) (nothing (w.1) zero') w.6 ends
  where
    nothing : (l : List Moment) → length l ≡ 0 → l ≡ []
    nothing [] h = refl
    nothing (y ∷ l) h = absurd (omega (arith, h))

ends_behind : (c : Called) (cs : List Called) → EndInStep (c ∷ cs) → EndInStep cs
ends_behind c [] w = tt
ends_behind c (d ∷ cs) w = w

alike_behind : (p : Call) (plan : List Call) (c d : Called) (cs ds : List Called) → EndAlike (p ∷ plan) (c ∷ cs) (d ∷ ds) → EndAlike plan cs ds
alike_behind p plan c d cs ds (inl all) = let one = all.0 in let two = all.1 in inl (omega (arith, one), omega (arith, two))
alike_behind p plan c d cs ds (inr ends) = inr (ends_behind c cs ends.0, ends_behind d ds ends.1)

alone : (o : Opening) (h : List Applied) (q : ℕ) (ls : List ℕ) (plan : List Call) (turn k : ℕ) (s : CoreState) (xs : List Moment) (c : Called) (cs : List Called) →
    AreMade o h q ls plan turn k s xs (c ∷ cs) → xs ≡ [] → (length plan ≡ 0) ⊎ EndInStep (c ∷ cs) → ⊥
alone o h q ls [] turn k s xs c cs m none ends = let bad : c.call ∷ map (λ (d : Called). d.call) cs ≡ [] = m.first in cc
alone o h q ls (p ∷ plan) turn k s xs c cs m none (inl all) = omega (arith, all)
alone o h q ls (p ∷ plan) turn k s xs c cs m none (inr ends) = no_steps s m.last c cs xs none m.steps ends

made_behind : (o : Opening) (h : List Applied) (q : ℕ) (ls : List ℕ) (p : Call) (plan : List Call) (turn k : ℕ) (s : CoreState) (xs : List Moment) (c : Called) (cs : List Called) →
    (m : AreMade o h q ls (p ∷ plan) turn k s xs (c ∷ cs)) →
    AreMade o h q ls plan (turn + c.steps) (k + 1) ((m.steps).2) ((m.steps).1) cs
made_behind o h q ls p plan turn k s xs c cs m =
    let both : c.call ∷ map (λ (d : Called). d.call) cs ≡ p ∷ take (length cs) plan = m.first in
    record { first = cc; listed = m.listed.3; begins = m.begins.1; right = m.right.1; last = m.last; steps = (m.steps).6 }

pub calls_same : (o : Opening) (h : List Applied) (q : ℕ) (ls : List ℕ) (plan : List Call) (turn k : ℕ) (s : CoreState) (xs : List Moment) (cs ds : List Called) → HaveDistinctStamps h →
    AreMade o h q ls plan turn k s xs cs → AreMade o h q ls plan turn k s xs ds → EndAlike plan cs ds → cs ≡ ds
calls_same o h q ls plan turn k s xs [] [] distinct a b alike = refl
calls_same o h q ls plan turn k s xs [] (d ∷ ds) distinct a b (inl all) = let none = all.0 in absurd (alone o h q ls plan turn k s xs d ds b a.steps.0 (inl (omega (arith, none))))
calls_same o h q ls plan turn k s xs [] (d ∷ ds) distinct a b (inr ends) = absurd (alone o h q ls plan turn k s xs d ds b a.steps.0 (inr ends.1))
calls_same o h q ls plan turn k s xs (c ∷ cs) [] distinct a b (inl all) = let none = all.1 in absurd (alone o h q ls plan turn k s xs c cs a b.steps.0 (inl (omega (arith, none))))
calls_same o h q ls plan turn k s xs (c ∷ cs) [] distinct a b (inr ends) = absurd (alone o h q ls plan turn k s xs c cs a b.steps.0 (inr ends.0))
calls_same o h q ls [] turn k s xs (c ∷ cs) (d ∷ ds) distinct a b alike = let bad : c.call ∷ map (λ (e : Called). e.call) cs ≡ [] = a.first in cc
calls_same o h q ls (p ∷ plan) turn k s xs (c ∷ cs) (d ∷ ds) distinct a b alike =
    let mine : c.call ∷ map (λ (e : Called). e.call) cs ≡ p ∷ take (length cs) plan = a.first in
    let yours : d.call ∷ map (λ (e : Called). e.call) ds ≡ p ∷ take (length ds) plan = b.first in
    let same : c.call ≡ d.call = cc in
    let turns : Some c.began ≡ Some d.began = sym a.begins.0 ∙ b.begins.0 in
    let began : c.began ≡ d.began = cc in
    let x = a.steps in
    let y = b.steps in
    let none : (e : Called) (es : List Called) (t last : CoreState) (l : List Moment) → (e.finish ≡ None → es ≡ []) → AreStepsOf t es l last → e.finish ≡ None → l ≡ [] =
    λ e es t last l ends w f. (subst (λ (es' : List Called). AreStepsOf t es' l last) (ends f) w).0 in
    let w = call_same s c d (x.2) (y.2) (x.1) (y.1) same began (x.0) (y.0) x.5 y.5 (sym x.3 ∙ y.3) (none c cs (x.2) a.last (x.1) (a.listed).2 x.6) (none d ds (y.2) b.last (y.1) (b.listed).2 y.6) in
    let steps : c.steps ≡ d.steps = sym x.4 ∙ ap length w.events ∙ y.4 in
    let right : IfSome d.finish (λ f. IsRightNote o h q c.began c.call f.answer f.note) = subst (λ n. IfSome d.finish (λ f. IsRightNote o h q n c.call f.answer f.note)) (sym began)
    (subst (λ (e : Call). IfSome d.finish (λ f. IsRightNote o h q d.began e f.answer f.note)) (sym same) (b.right).0) in
    let finish : c.finish ≡ d.finish = finish_same o h q c.began c.call c.finish d.finish (w.end.0) distinct w.answers w.end.1 w.end.2 (a.right).0 right in
    let head : c ≡ d = called_same c d ((a.listed).0 ∙ sym (b.listed).0) ((a.listed).1 ∙ sym (b.listed).1) same began steps finish in
    let more : AreMade o h q ls plan (turn + c.steps) (k + 1) (x.2) (x.1) ds =
    subst (λ n. AreMade o h q ls plan (turn + n) (k + 1) (x.2) (x.1) ds) (sym steps)
    (subst (λ (v : CoreState). AreMade o h q ls plan (turn + d.steps) (k + 1) v (x.1) ds) (sym w.next)
    (subst (λ (l : List Moment). AreMade o h q ls plan (turn + d.steps) (k + 1) (y.2) l ds) (sym w.rest) (made_behind o h q ls p plan turn k s xs d ds b))) in
    ap (λ (e : Called). e ∷ cs) head ∙ ap (λ (l : List Called). d ∷ l)
    (calls_same o h q ls plan (turn + c.steps) (k + 1) (x.2) (x.1) cs ds distinct (made_behind o h q ls p plan turn k s xs c cs a) more (alike_behind p plan c d cs ds alike))
