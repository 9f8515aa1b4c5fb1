use Rattle.partial_text.proofs.{Common.{refl, sym, ◌∙◌}, Cuts.{cut_at, cut_nowhere, pieces-cut}}
use Rattle.partial_text.proofs.pieces.split_at_first.Goals as goal

pub returns-in-Some-clause-front : goal.returns-in-Some-clause-front
returns-in-Some-clause-front c =
    let cut = cut_at c.args.separator c.args.bytes.now c.in-Some.index c.in-Some.ensures in c.split_at.ensures.front ∙ sym cut.0

pub returns-in-Some-clause-rest : goal.returns-in-Some-clause-rest
returns-in-Some-clause-rest c =
    let cut = cut_at c.args.separator c.args.bytes.now c.in-Some.index c.in-Some.ensures in c.split_at.ensures.back ∙ sym cut.1

pub returns-in-Some-clause-split : goal.returns-in-Some-clause-split
returns-in-Some-clause-split c =
    let cut = cut_at c.args.separator c.args.bytes.now c.in-Some.index c.in-Some.ensures in
    rw (c.split_at.ensures.front, c.split_at.ensures.back) (pieces-cut c.args.separator c.args.bytes.now ∙ rw (cut.0, cut.1) refl)

pub returns-in-None-clause-front : goal.returns-in-None-clause-front
returns-in-None-clause-front c = let cut = cut_nowhere c.args.separator c.args.bytes.now c.in-None.ensures in sym cut.0

pub returns-in-None-clause-rest : goal.returns-in-None-clause-rest
returns-in-None-clause-rest c = let cut = cut_nowhere c.args.separator c.args.bytes.now c.in-None.ensures in sym cut.1

pub returns-in-None-clause-split : goal.returns-in-None-clause-split
returns-in-None-clause-split c =
    let cut = cut_nowhere c.args.separator c.args.bytes.now c.in-None.ensures in pieces-cut c.args.separator c.args.bytes.now ∙ rw (cut.0, cut.1) refl
