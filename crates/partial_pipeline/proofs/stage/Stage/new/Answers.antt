use Rattle.partial_pipeline.proofs.Common.{◌≡◌, ◌<◌, refl, sym, ap, subst, arith, Works, published_count}
use Rattle.partial_pipeline.proofs.stage.Stage.new.Goals as goal
use Rattle.partial_pipeline.proofs.stage.Stage.new.Goals.{then-number-eq0, else-number-eq0}

pub returns-clause-working : goal.returns-clause-working
returns-clause-working c =
    let p = c.args.port in
    let seen = c.if-number-eq0.seen in
    let begins : (0 < p.number → seen ≡ 0) × (p.number ≡ 0 → seen ≡ c.args.items) =
    elim c.if-number-eq0.branch [
      | then-number-eq0 w ↦ (λ some. absurd (omega (arith, c.number.ensures.value, w.if-number-eq0.true, some)), λ zero. w.seen-is)
      | else-number-eq0 w ↦ (λ some. w.seen-is, λ zero. absurd (omega (arith, c.number.ensures.value, w.if-number-eq0.false, zero)))
    ] in
    record {
      own = c.requires.new.own;
      inside = c.requires.inside;
      from = seen;
      none = begins.0;
      tried = 0;
      works = subst (λ ns. Works p.number seen 0 ns seen 0) (sym c.requires.new.fresh) (refl, refl);
      next = omega arith;
      held = ap (published_count p.number) c.requires.new.fresh;
      most = omega arith;
      all = begins.1;
    }
