use Rattle.std.proofs.Common.{rules, tests}
use Rattle.partial_memory.proofs.memory.opening_words.Goals as goal

pub loop-w-preserved : goal.loop-w-preserved
loop-w-preserved c = search (tests, rules)
