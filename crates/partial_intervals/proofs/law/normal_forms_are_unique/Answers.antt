use Rattle.partial_intervals.proofs.Unique.{normal_forms_are_unique}
use Rattle.partial_intervals.proofs.law.normal_forms_are_unique.Goals as goal

pub returns : goal.returns
returns c = normal_forms_are_unique
