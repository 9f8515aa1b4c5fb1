use Rattle.partial_text.specs.SeenParts.{seen_parts}
use Rattle.partial_text.proofs.PlanLaws.{judged_ok}
use Rattle.partial_text.proofs.reading.plan_of.Goals as goal

pub from_parts-requires : goal.from_parts-requires
from_parts-requires c = (judged_ok c.args.text.now (seen_parts c.in_ok-parts.parts) c.in_ok-parts.ensures).0
