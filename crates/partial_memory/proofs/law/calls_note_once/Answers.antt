use Rattle.partial_memory.proofs.Noting.{calls_note_once}
use Rattle.partial_memory.proofs.law.calls_note_once.Goals as goal

pub returns : goal.returns
returns c = calls_note_once
