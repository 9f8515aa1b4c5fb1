use Rattle.partial_machine.proofs.Begins.{calls_begin}
use Rattle.partial_machine.proofs.law.calls_begin.Goals as goal

pub returns : goal.returns
returns c = calls_begin
