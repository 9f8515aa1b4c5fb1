use Rattle.partial_text.proofs.{Common.eq-eqb, Cuts.{pieces_here, pieces_end}}
use Rattle.partial_text.proofs.pieces.split_before.Goals as goal

pub returns-then-byte-separator-clause-split : goal.returns-then-byte-separator-clause-split
returns-then-byte-separator-clause-split c =
    rw (c.split_at.ensures.front, c.split_at.ensures.back) (pieces_here c.args.separator c.args.bytes.now c.loop-index.index c.loop-index-test.true (eq-eqb _ _ c.if-byte-separator.true)
    c.loop-index.invariant.front c.loop-index.invariant.rest)

pub returns-clause-split : goal.returns-clause-split
returns-clause-split c =
    pieces_end c.args.separator c.args.bytes.now c.loop-index.index c.loop-index-test.false c.loop-index.invariant.front c.loop-index.invariant.rest
