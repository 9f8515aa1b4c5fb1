use Rattle.partial_text.proofs.Common.{◌≡◌, ◌-◌, ◌≤◌, false, length, take, drop, Appends}
use Rattle.partial_text.proofs.writing.write_text.Given as goal

abbrev pub invariant-loop-rest : goal.invariant-loop-rest
invariant-loop-rest g l =
    record {
      clean : l.writer.failed ≡ false;
      short : length l.rest ≤ length l.text;
      left : l.rest ≡ drop (length l.text - length l.rest) l.text;
      written : Appends (g.W.Write.contents l.initial.writer.inner) (g.W.Write.contents l.writer.inner) (take (length l.text - length l.rest) l.text);
    }

abbrev pub decreases-loop-rest : goal.decreases-loop-rest
decreases-loop-rest g l = length l.rest
