use Rattle.std.proofs.Common.{arith, []}
use Rattle.std.proofs.lemmas.Grind.{common_steps}
use Rattle.std.proofs.lemmas.List.{map_push}
use Rattle.std.proofs.lemmas.List.FromFn.{map-range_with_len_more}
use Rattle.partial_picture.specs.Made.{port_steps}
use Rattle.partial_picture.proofs.spans.no_steps.Goals as goal

pub loop-port-preserved : goal.loop-port-preserved
loop-port-preserved c =
    let more = map-range_with_len_more (λ q. port_steps q []) 0 c.loop-port._port c.loop-port._port (omega arith) in
    grind (arith, common_steps, more, map_push)
