use Rattle.partial_active.proofs.Common.{arith, length-pairs}
use Rattle.partial_active.proofs.get_set.GetSet.after_write.Goals as goal

pub next_word-requires : goal.next_word-requires
next_word-requires c =
    omega (arith, c.if-k-words.false, c.requires.next.count, length-pairs c.args.found.now.next)
