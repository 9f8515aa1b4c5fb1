use Rattle.partial_replay.proofs.{Common.{◌≡◌, ◌++◌, List, length, slice_get, sym, ◌∙◌, ap, arith, append-nil, is_some, Call, Called, unfinished_call}, Opens.{over_is, none_over}, PortLaws.call_at_place}
use Rattle.std.specs.declared.alloc.Global.{Global}
use Rattle.std.specs.declared.vec.Vec.{Vec}
use Rattle.partial_replay.proofs.run.calls_of_port.Goals.{in-Some+in_ok-call+in_ok-push, in_default}
use Rattle.partial_replay.proofs.run.calls_of_port.Goals as goal

abbrev items_of : Vec Called Global → List Called
items_of v = v.items

pub bounds-plan-done : goal.bounds-plan-done
bounds-plan-done c = let within = c.requires.within (ap is_some c.in-Some.is) in omega (arith, within, c.args.port.finished.ok.0, c.len-done.ensures)

pub overflow_cast-done : goal.overflow_cast-done
overflow_cast-done c =
    let within = c.requires.within (ap is_some c.in-Some.is) in
    omega (arith, within, c.requires.short, c.args.port.finished.ok.0, c.len-done.ensures)

pub returns : goal.returns
returns c =
    let port = c.args.port in
    let plan = c.args.plan.now in
    let done : List Called = port.finished.items in
    elim c.match-under_way.branch [
      | in-Some+in_ok-call+in_ok-push w ↦
          let call : Call = w.index-plan-done.result in
          let ended : Called = w.in_ok-call.call in
          let way = w.in-Some.way in
          let within = c.requires.within (ap is_some w.in-Some.is) in
          let same : w.len-done.result ≡ length done = omega (arith, port.finished.ok.0, w.len-done.ensures) in
          let get = call_at_place plan done w.len-done.result call same (omega (arith, same, within)) w.index-plan-done.is in
          let over = over_is port plan way call ended w.in-Some.is get (w.in_ok-call.ensures ∙ ap (λ i. unfinished_call port.number i call way) same) in
          ap items_of w.finished-is ∙ w.in_ok-push.ensures.items ∙ ap (λ (l : List Called). done ++ l) over
      | in_default w ↦
          let over = none_over port (slice_get plan (length done)) w.in_default.is in
          ap items_of w.finished-is ∙ sym (append-nil done) ∙ ap (λ (l : List Called). done ++ l) over
    ]
