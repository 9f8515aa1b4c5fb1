use Rattle.std.proofs.Common.{map, take, sym, ap, ◌∙◌, ◌≡◌, ◌+◌, ◌<◌, ◌++◌, ◌∷◌, [], List, arith, Vec, Global, ℕ, length, slice_index_or, slice_set}
use Rattle.std.proofs.lemmas.List.{take_all, take_more, length-map, length-take, map-set, get_or-map}
use Rattle.partial_words.specs.declared.step.Event.{Event}
use Rattle.partial_words.specs.declared.step.Step.TheVariants.{Load}
use Rattle.partial_picture.proofs.Dealt.{dealt, deals_on, deals_past, none_dealt}
use Rattle.partial_picture.proofs.spans.port_steps.Goals.{then-port-ports+in_ok-push, else-port-ports}
use Rattle.partial_picture.proofs.spans.port_steps.Goals as goal

pub loop-step-init : goal.loop-step-init
loop-step-init c = none_dealt c.args.ports (map (λ own. own.items) c.in_ok-steps.steps.items) c.in_ok-steps.ensures

pub loop-step-preserved : goal.loop-step-preserved
loop-step-preserved c =
    let trace = c.args.trace.now in
    let i = c.loop-step.step in
    let none : Event = record { port = 0; step = Load 0; answer = 0 } in
    let event : Event = slice_index_or trace i none in
    let items : Vec ℕ Global → List ℕ = λ own. own.items in
    let steps = map items c.loop-step.steps.items in
    let next : take (i + 1) trace ≡ take i trace ++ event ∷ [] = take_more trace i none c.loop-step-test.true in
    let long : length (take i trace) ≡ i = (let cut = length-take i trace in let below = c.loop-step-test.true in omega (arith, cut, below)) in
    elim c.if-port-ports.branch [
      | then-port-ports+in_ok-push w ↦
          let below : event.port < c.args.ports = w.if-port-ports.true in
          let many = c.loop-step.invariant.many in
          let same = length-map c.loop-step.steps.items items in
          let own : slice_index_or steps event.port [] ≡ w.index_mut.result.now.items =
          get_or-map items c.loop-step.steps.items event.port w.index_mut.result.now [] (omega (arith, below, many, same)) ∙ ap items (sym w.index_mut.ensures.value) in
          let pushed : w.push.new.self.items ≡ slice_index_or steps event.port [] ++ length (take i trace) ∷ [] =
          w.in_ok-push.ensures.items ∙ ap (λ (l : List ℕ). l ++ i ∷ []) (sym own) ∙ ap (λ n. slice_index_or steps event.port [] ++ n ∷ []) (sym long) in
          let set : map items c.if-port-ports.steps.items ≡ slice_set steps event.port (slice_index_or steps event.port [] ++ length (take i trace) ∷ []) =
          ap (λ (v : Vec (Vec ℕ Global) Global). map items v.items) w.steps-is ∙ map-set items c.loop-step.steps.items event.port w.push.new.self ∙ ap (slice_set steps event.port) pushed in
          rw next (rw set (deals_on c.args.ports steps (take i trace) event c.loop-step.invariant below))
      | else-port-ports w ↦ rw next (rw w.steps-is (deals_past c.args.ports steps (take i trace) event c.loop-step.invariant w.if-port-ports.false))
    ]

pub returns : goal.returns
returns c =
    let all : take c.loop-step.step c.args.trace.now ≡ c.args.trace.now = take_all c.loop-step.step c.args.trace.now c.loop-step-test.false in
    dealt c.args.ports (map (λ own. own.items) c.loop-step.steps.items) c.args.trace.now (rw all at c.loop-step.invariant)
