use Rattle.std.proofs.Common.{Vec, Global}
use Rattle.std.proofs.lemmas.List.{get_or_default, get_or-map, length-map, map_push, take_more}
use Rattle.partial_picture.proofs.Common.{arith, ℕ, ◌≡◌, ◌++◌, ◌∷◌, [], sym, ap, ◌∙◌, take}
use Rattle.std.proofs.Common.{map, slice_index_or, ◌+◌}
use Rattle.partial_model.specs.declared.call.Called.{Called}
use Rattle.partial_picture.specs.Made.{made_seen}
use Rattle.partial_picture.proofs.Made.{walked_on, walked_past}
use Rattle.partial_picture.proofs.spans.made_by_calls.Goals as goal
use Rattle.partial_picture.proofs.spans.made_by_calls.Goals.{then-port-ports+in_ok-push, else-port-ports}

pub loop-called-preserved : goal.loop-called-preserved
loop-called-preserved c =
    let calls = c.deref-called-items.result.now in
    let i = c.loop-called.called-index in
    let called = c.called-item.result in
    let ports = map (λ (own : Vec ℕ Global). own.items) c.args.ports.now in
    let next : take (i + 1) calls ≡ take i calls ++ called ∷ [] =
    take_more calls i called c.loop-called-test.true ∙ ap (λ (d : Called). take i calls ++ d ∷ []) (sym c.called-item.is) in
    let many = length-map c.args.ports.now (λ (own : Vec ℕ Global). own.items) in
    elim c.if-port-ports.branch [
      | then-port-ports+in_ok-push w ↦
          let own = w.as_slice-own.result.now in
          let below = w.if-port-ports.true in
          let has : own ≡ slice_index_or ports called.port [] = w.as_slice-own.ensures.value ∙ ap (λ (v : Vec ℕ Global). v.items) w.index-ports-port.is
          ∙ sym (get_or-map (λ (v : Vec ℕ Global). v.items) c.args.ports.now called.port w.index-ports-port.result [] below) in
          let on = walked_on ports c.args.entries.now c.loop-called.taken.items (take i calls) (map made_seen c.loop-called.made.items) called c.loop-called.invariant
          (omega (arith, below, many)) w.index-count.result.now (w.index-count.ensures
          ∙ get_or_default c.loop-called.taken.items called.port w.index-count.result.now 0 (omega (arith, below, many, c.loop-called.invariant.same))) own has in
          let pushed : map made_seen w.push.new.self.items ≡ map made_seen c.loop-called.made.items ++ made_seen w.made_next.result ∷ [] =
          ap (map made_seen) w.in_ok-push.ensures.items ∙ map_push made_seen c.loop-called.made.items w.made_next.result in
          rw next (rw w.taken-is (rw w.made-is (rw pushed (rw w.made_next.ensures (rw w.taken_with.ensures on)))))
      | else-port-ports w ↦
          let past = walked_past ports c.args.entries.now c.loop-called.taken.items (take i calls) (map made_seen c.loop-called.made.items) called c.loop-called.invariant
          (omega (arith, w.if-port-ports.false, many)) in
          rw next (rw w.taken-is (rw w.made-is past))
    ]
