use Rattle.std.proofs.Common.{rules, tests}
use Rattle.std.proofs.lemmas.Iterator.{YieldsList-from_map, YieldsList-from_slice, YieldsList-from_zip}
use Rattle.std.proofs.lemmas.Iterator.Adapters.{fact_from_collect}
use Rattle.std.proofs.lemmas.Result.{IfOk-weaker}
use Rattle.std.specs.BTreeMap.{IsFromIterResult}
use Rattle.std.specs.Ordering.{nat_cmp}
use Rattle.partial_picture.proofs.arrows.steps_by_stamp.Goals as goal

pub returns : goal.returns
returns c =
    let road = YieldsList-from_map _ (λ x. (x.0.stamp, x.1)) (YieldsList-from_zip (YieldsList-from_slice c.args.history.now cc) (YieldsList-from_slice c.args.steps.now cc)) c.map.ensures.closure
    (λ x r q k. search (rules, tests)) in
    IfOk-weaker c.collect.result _ _ (λ found h stamp. h.0 stamp) (fact_from_collect (IsFromIterResult nat_cmp) c.collect.result c.collect.ensures.ran road)
