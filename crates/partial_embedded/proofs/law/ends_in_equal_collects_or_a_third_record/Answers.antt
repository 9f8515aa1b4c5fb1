use Rattle.partial_embedded.proofs.Traces.{ends_in_equal_collects_or_a_third_record}
use Rattle.partial_embedded.proofs.law.ends_in_equal_collects_or_a_third_record.Goals as goal

pub returns : goal.returns
returns c = ends_in_equal_collects_or_a_third_record
