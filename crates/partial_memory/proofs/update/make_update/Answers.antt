use Rattle.partial_memory.proofs.update.make_update.Goals as goal

pub returns-clause-ended : goal.returns-clause-ended
returns-clause-ended c = c.replace.ensures.ended _ _ c.requires.begins c.begin_update-old.ensures.made

pub returns-clause-counted : goal.returns-clause-counted
returns-clause-counted c = c.replace.ensures.counted _ c.begin_update-old.ensures.counted
