-- A port of a plan as a machine of its own: which step it makes next, whatever was answered so far.
use Rattle.partial_replay.proofs.Common.{ℕ, ◌≡◌, ◌++◌, List, [], ◌∷◌, length, map, take, Option, Some, None, refl, sym, ◌∙◌, ap, subst, inl, inr, true, arith, IsSome, is_some, option_map, option_map_or, false≢true, map-append, Call, Called, Finish, Refused, Event, Reply, Idle, CoreState, at_stage, advance, step_at, step_of, reply_of, answer_for, begun_of, refusal_of, due_is_unreplied, Moment, Makes, HasSteps, IsCallRun, AreStepsOf, AreFirstOf, AreAllMade}

-- the machine of a port, in the call under way or idle after the last one, and the plan's calls after it
pub record PortAt : Type 0 where
  pub core : CoreState
  pub calls : List Call

-- where a call that comes next leads: it is refused at once, finished at once, or begun
abbrev chosen : Option Refused → Option Reply → PortAt → PortAt → PortAt → PortAt
chosen (Some cause) reply refused finished begun = refused
chosen None (Some r) refused finished begun = finished
chosen None None refused finished begun = begun

-- the port begins the next of its calls that makes a step
abbrev pub next_at : CoreState → List Call → PortAt
next_at s [] = record { core = s; calls = [] }
next_at s (c ∷ cs) = chosen (refusal_of s c) (reply_of (begun_of s c)) (next_at s cs) (next_at (at_stage (begun_of s c) Idle) cs) (record { core = begun_of s c; calls = cs })

-- the call goes on at the machine, or with a reply the next one begins
abbrev pub goes_at : CoreState → List Call → PortAt
goes_at s cs = option_map_or (λ r. next_at (at_stage s Idle) cs) (reply_of s) (record { core = s; calls = cs })

-- the port after an answer
abbrev pub port_behind : ℕ → PortAt → PortAt
port_behind x p = goes_at (advance p.core x) p.calls

-- these events are the port's due steps, one after the other
abbrev pub PortRun : PortAt → List Event → PortAt → Type 0
PortRun p [] t = t ≡ p
PortRun p (e ∷ es) t = (step_of p.core ≡ Some e.step) × PortRun (port_behind e.answer p) es t

-- an idle machine has no step due
pub idle_none : (s : CoreState) → s.stage ≡ Idle → step_of s ≡ None
idle_none s idle = ap (step_at s) idle

-- where a call goes on
pub goes_on : (s : CoreState) (cs : List Call) → reply_of s ≡ None → goes_at s cs ≡ record { core = s; calls = cs }
goes_on s cs none = ap (λ (f : Option Reply). option_map_or (λ (r : Reply). next_at (at_stage s Idle) cs) f (record { core = s; calls = cs })) none

pub goes_next : (s : CoreState) (cs : List Call) (r : Reply) → reply_of s ≡ Some r → goes_at s cs ≡ next_at (at_stage s Idle) cs
goes_next s cs r some = ap (λ (f : Option Reply). option_map_or (λ (q : Reply). next_at (at_stage s Idle) cs) f (record { core = s; calls = cs })) some

-- where the next call leads
next_refused : (s : CoreState) (c : Call) (cs : List Call) (cause : Refused) → refusal_of s c ≡ Some cause → next_at s (c ∷ cs) ≡ next_at s cs
next_refused s c cs cause is = ap (λ (f : Option Refused). chosen f (reply_of (begun_of s c)) (next_at s cs) (next_at (at_stage (begun_of s c) Idle) cs)
    (record { core = begun_of s c; calls = cs })) is

next_chosen : (s : CoreState) (c : Call) (cs : List Call) (found : Option Reply) → refusal_of s c ≡ None → reply_of (begun_of s c) ≡ found →
    next_at s (c ∷ cs) ≡ chosen None found (next_at s cs) (next_at (at_stage (begun_of s c) Idle) cs) (record { core = begun_of s c; calls = cs })
next_chosen s c cs found none is =
    ap (λ (f : Option Refused). chosen f (reply_of (begun_of s c)) (next_at s cs) (next_at (at_stage (begun_of s c) Idle) cs) (record { core = begun_of s c; calls = cs })) none
    ∙ ap (λ (f : Option Reply). chosen None f (next_at s cs) (next_at (at_stage (begun_of s c) Idle) cs) (record { core = begun_of s c; calls = cs })) is

-- the steps of one call
makes_run : (s last : CoreState) (x : Moment) (xs : List Moment) (cs : List Call) (behind : List Event) (t : PortAt) → Makes s (x ∷ xs) last → PortRun (goes_at last cs) behind t →
    PortRun (record { core = s; calls = cs }) (map (λ (m : Moment). m.event) (x ∷ xs) ++ behind) t
makes_run s last x [] cs behind t m run = (m.0, subst (λ (v : CoreState). PortRun (goes_at v cs) behind t) m.2 run)
makes_run s last x (y ∷ ys) cs behind t m run =
    let next = advance s x.event.answer in
    let here : goes_at next cs ≡ record { core = next; calls = cs } = goes_on next cs (due_is_unreplied next y.event.step m.2.0) in
    (m.0, subst (λ (p : PortAt). PortRun p (map (λ (n : Moment). n.event) (y ∷ ys) ++ behind) t) (sym here) (makes_run next last y ys cs behind t m.2 run))

-- only the last of the calls may be unfinished
abbrev pub AreFinishedBut : List Called → Type 0
AreFinishedBut [] = Unit {0}
AreFinishedBut (c ∷ cs) = (c.finish ≡ None → cs ≡ []) × AreFinishedBut cs

-- the calls that a port has made, run by its events
pub record RunOf (s : CoreState) (plan : List Call) (cs : List Called) (es : List Event) : Type 0 where
  pub final : PortAt
  pub run : PortRun (next_at s plan) es final
  -- where all calls of the plan are made no step is due
  pub done : AreAllMade plan cs → step_of final.core ≡ None

pub none_map : (f : Option Finish) (s : CoreState) (found : Option Reply) → found ≡ None → option_map (λ (g : Finish). g.answer) f ≡ option_map (answer_for s) found → f ≡ None
none_map None s found none e = refl
none_map (Some g) s found none e = let bad : Some g.answer ≡ None = e ∙ ap (option_map (answer_for s)) none in cc

-- the events of no calls
none_run : (s last : CoreState) (plan : List Call) (xs : List Moment) → AreStepsOf s [] xs last → PortRun (next_at s plan) (map (λ (m : Moment). m.event) xs) (next_at s plan)
none_run s last plan xs w = subst (λ (l : List Moment). PortRun (next_at s plan) (map (λ (m : Moment). m.event) l) (next_at s plan)) (sym w.0) refl

-- all but the first call are made too
fewer_made : (p : Call) (plan : List Call) (c : Called) (cs : List Called) → AreAllMade (p ∷ plan) (c ∷ cs) → AreAllMade plan cs
fewer_made p plan c cs all = (let same = all.0 in omega (arith, same), all.1.1)

finished : (f : Option Finish) → f ≡ None → IsSome f → ⊥
finished f none some = false≢true (subst (λ (g : Option Finish). is_some g ≡ true) none some)

module _ (s u last : CoreState) (p : Call) (plan : List Call) (c : Called) (cs : List Called) (behind : List Moment) (same : c.call ≡ p) (rest : AreStepsOf u cs behind last) where
  -- a call that is refused or finished as it is begun
  run_at_once : IsCallRun s c [] u → RunOf u plan cs (map (λ (m : Moment). m.event) behind) → RunOf s (p ∷ plan) (c ∷ cs) (map (λ (m : Moment). m.event) behind)
  run_at_once h ih = elim h [
    | inl r ↦
        let here : next_at u plan ≡ next_at s (p ∷ plan) = ap (λ (v : CoreState). next_at v plan) r.rests ∙ sym (next_refused s p plan r.cause (ap (refusal_of s) (sym same) ∙ r.refused)) in
        record { final = ih.final; run = subst (λ (q : PortAt). PortRun q (map (λ (m : Moment). m.event) behind) ih.final) here ih.run; done = λ all. ih.done (fewer_made p plan c cs all) }
    | inr f ↦
        let here : next_at u plan ≡ next_at s (p ∷ plan) = ap (λ (v : CoreState). next_at v plan) (f.rests ∙ ap (λ (d : Call). at_stage (begun_of s d) Idle) same)
        ∙ sym (next_chosen s p plan (Some f.reply) (ap (refusal_of s) (sym same) ∙ f.begins) (ap (λ (d : Call). reply_of (begun_of s d)) (sym same) ∙ f.replied)) in
        record { final = ih.final; run = subst (λ (q : PortAt). PortRun q (map (λ (m : Moment). m.event) behind) ih.final) here ih.run; done = λ all. ih.done (fewer_made p plan c cs all) }
  ]

  -- a call with steps
  run_steps : (x : Moment) (xs : List Moment) → (h : HasSteps s c x xs u) → (c.finish ≡ None → cs ≡ []) → (found : Option Reply) → reply_of h.last ≡ found →
      RunOf u plan cs (map (λ (m : Moment). m.event) behind) → RunOf s (p ∷ plan) (c ∷ cs) (map (λ (m : Moment). m.event) ((x ∷ xs) ++ behind))
  run_steps x xs h ends found is ih =
      let begun : begun_of s c.call ≡ begun_of s p = ap (begun_of s) same in
      let none : reply_of (begun_of s p) ≡ None = ap reply_of (sym begun) ∙ due_is_unreplied (begun_of s c.call) x.event.step h.makes.0 in
      let start : next_at s (p ∷ plan) ≡ record { core = begun_of s p; calls = plan } = next_chosen s p plan None (ap (refusal_of s) (sym same) ∙ h.begins) none in
      let makes : Makes (begun_of s p) (x ∷ xs) h.last = subst (λ (v : CoreState). Makes v (x ∷ xs) h.last) begun h.makes in
      let whole : (es : List Event) (t : PortAt) → PortRun (goes_at h.last plan) es t → PortRun (next_at s (p ∷ plan)) (map (λ (m : Moment). m.event) (x ∷ xs) ++ es) t = λ es t run.
      subst (λ (q : PortAt). PortRun q (map (λ (m : Moment). m.event) (x ∷ xs) ++ es) t) (sym start) (makes_run (begun_of s p) h.last x xs plan es t makes run) in
      let split : map (λ (m : Moment). m.event) (x ∷ xs) ++ map (λ (m : Moment). m.event) behind ≡ map (λ (m : Moment). m.event) ((x ∷ xs) ++ behind) =
      sym (map-append (λ (m : Moment). m.event) (x ∷ xs) behind) in
      at found is whole split
    where
      at : (found : Option Reply) → reply_of h.last ≡ found →
          ((es : List Event) (t : PortAt) → PortRun (goes_at h.last plan) es t → PortRun (next_at s (p ∷ plan)) (map (λ (m : Moment). m.event) (x ∷ xs) ++ es) t) →
          map (λ (m : Moment). m.event) (x ∷ xs) ++ map (λ (m : Moment). m.event) behind ≡ map (λ (m : Moment). m.event) ((x ∷ xs) ++ behind) →
          RunOf s (p ∷ plan) (c ∷ cs) (map (λ (m : Moment). m.event) ((x ∷ xs) ++ behind))
      at None none whole split =
          let unfinished : c.finish ≡ None = none_map c.finish h.last (reply_of h.last) none h.answered in
          let empty : behind ≡ [] = (subst (λ (l : List Called). AreStepsOf u l behind last) (ends unfinished) rest).0 in
          record {
            final = goes_at h.last plan;
            run = subst (λ (es : List Event). PortRun (next_at s (p ∷ plan)) es (goes_at h.last plan)) split
                (whole (map (λ (m : Moment). m.event) behind) (goes_at h.last plan)
                (subst (λ (l : List Moment). PortRun (goes_at h.last plan) (map (λ (m : Moment). m.event) l) (goes_at h.last plan)) (sym empty) refl));
            done = λ all. absurd (finished c.finish unfinished all.1.0);
          }
      at (Some r) some whole split =
          let here : next_at u plan ≡ goes_at h.last plan = ap (λ (v : CoreState). next_at v plan) h.rests ∙ sym (goes_next h.last plan r some) in
          record {
            final = ih.final;
            run = subst (λ (es : List Event). PortRun (next_at s (p ∷ plan)) es ih.final) split
                (whole (map (λ (m : Moment). m.event) behind) ih.final (subst (λ (q : PortAt). PortRun q (map (λ (m : Moment). m.event) behind) ih.final) here ih.run));
            done = λ all. ih.done (fewer_made p plan c cs all);
          }

  run_call : (own : List Moment) → IsCallRun s c own u → (c.finish ≡ None → cs ≡ []) → RunOf u plan cs (map (λ (m : Moment). m.event) behind) →
      RunOf s (p ∷ plan) (c ∷ cs) (map (λ (m : Moment). m.event) (own ++ behind))
  run_call [] h ends ih = run_at_once h ih
  run_call (x ∷ xs) h ends ih = run_steps x xs h ends (reply_of h.last) refl ih

-- a call leaves the machine idle
idle_behind : (s u : CoreState) (c : Called) (own : List Moment) → s.stage ≡ Idle → IsCallRun s c own u → u.stage ≡ Idle
idle_behind s u c [] idle h = elim h [ inl r ↦ ap (λ (v : CoreState). v.stage) r.rests ∙ idle | inr f ↦ ap (λ (v : CoreState). v.stage) f.rests ]
idle_behind s u c (x ∷ xs) idle h = ap (λ (v : CoreState). v.stage) h.rests

pub runs_of : (s last : CoreState) (plan : List Call) (cs : List Called) (xs : List Moment) → s.stage ≡ Idle → AreFirstOf plan cs → AreFinishedBut cs → AreStepsOf s cs xs last →
    RunOf s plan cs (map (λ (m : Moment). m.event) xs)
runs_of s last [] [] xs idle first ends w = record { final = next_at s []; run = none_run s last [] xs w; done = λ all. idle_none s idle }
runs_of s last (p ∷ plan) [] xs idle first ends w = record { final = next_at s (p ∷ plan); run = none_run s last (p ∷ plan) xs w; done = λ all. let none = all.0 in absurd (omega (arith, none)) }
runs_of s last [] (c ∷ cs) xs idle first ends w = let bad : c.call ∷ map (λ (d : Called). d.call) cs ≡ [] = first in cc
runs_of s last (p ∷ plan) (c ∷ cs) xs idle first ends w =
    let both : c.call ∷ map (λ (d : Called). d.call) cs ≡ p ∷ take (length cs) plan = first in
    let same : c.call ≡ p = cc in
    let more : map (λ (d : Called). d.call) cs ≡ take (length cs) plan = cc in
    let ih = runs_of (w.2) last plan cs (w.1) (idle_behind s (w.2) c (w.0) idle w.5) more ends.1 w.6 in
    subst (λ (l : List Moment). RunOf s (p ∷ plan) (c ∷ cs) (map (λ (m : Moment). m.event) l)) (sym w.3) (run_call s (w.2) last p plan c cs (w.1) same w.6 (w.0) w.5 ends.0 ih)
