use Rattle.partial_text.proofs.{Common.{eq-eqb, arith, ne_eqb}, Cuts.{length-pieces-here, length-pieces-more}}
use Rattle.partial_text.proofs.pieces.count.Goals as goal
use Rattle.partial_text.proofs.pieces.count.Goals.{then-byte-separator, else-byte-separator}

pub loop-byte-preserved : goal.loop-byte-preserved
loop-byte-preserved c =
    elim c.if-byte-separator.branch [
      | then-byte-separator w ↦ (omega (arith, length-pieces-here c.args.separator c.args.bytes.now c.loop-byte.byte-index c.loop-byte-test.true (eq-eqb _ _ w.if-byte-separator.true)), omega arith)
      | else-byte-separator w ↦ (omega (arith, length-pieces-more c.args.separator c.args.bytes.now c.loop-byte.byte-index c.loop-byte-test.true (ne_eqb _ _ w.if-byte-separator.false)), omega arith)
    ]
