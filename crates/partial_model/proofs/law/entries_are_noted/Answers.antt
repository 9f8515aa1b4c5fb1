use Rattle.partial_model.proofs.Entries.{entries_are_noted}
use Rattle.partial_model.proofs.law.entries_are_noted.Goals as goal

pub returns : goal.returns
returns c = entries_are_noted
