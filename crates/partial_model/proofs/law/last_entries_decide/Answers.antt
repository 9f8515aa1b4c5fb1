use Rattle.partial_model.proofs.HistoryLemmas.{last_entries_decide}
use Rattle.partial_model.proofs.law.last_entries_decide.Goals as goal

pub returns : goal.returns
returns c = last_entries_decide
