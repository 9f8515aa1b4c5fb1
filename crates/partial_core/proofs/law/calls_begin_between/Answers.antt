use Rattle.partial_core.proofs.WholeCalls.{calls_begin_between}
use Rattle.partial_core.proofs.law.calls_begin_between.Goals as goal

pub returns : goal.returns
returns c = calls_begin_between
