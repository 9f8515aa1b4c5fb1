use Rattle.partial_machine.proofs.DueWords.{due_words_are_there}
use Rattle.partial_machine.proofs.law.due_words_are_there.Goals as goal

pub returns : goal.returns
returns c = due_words_are_there
