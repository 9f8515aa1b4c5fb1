use Rattle.partial_text.proofs.outcome_text.tell_finish.Goals as goal

pub returns-in-None : goal.returns-in-None
returns-in-None g c = rw c.in-None.is c.tell.ensures
