use Rattle.partial_replay.proofs.{Common.{◌+◌, length, ap, ◌∙◌, subst, sym, arith, refl, List, length_push, Port, FreshFrom}, Opens.fresh_push}
use Rattle.partial_replay.proofs.run.fresh_ports.Goals as goal

pub loop-number-preserved : goal.loop-number-preserved
loop-number-preserved c =
    let pushed = c.in_ok-push.ensures.items in
    record {
      count = ap length pushed ∙ length_push c.loop-number.ports.items _ ∙ ap (λ n. n + 1) c.loop-number.invariant.count;
      fresh = subst (λ (l : List Port). FreshFrom c.args.sizes 0 l) (sym pushed)
          (fresh_push c.args.sizes 0 c.loop-number.ports.items _ c.loop-number.invariant.fresh (omega (arith, c.loop-number.invariant.count)) c.in_ok-new.ensures
          c.in_ok-with_capacity.ensures.items refl);
    }
