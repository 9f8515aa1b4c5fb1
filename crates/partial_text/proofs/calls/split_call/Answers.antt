use Rattle.partial_text.proofs.{Common.{◌≡◌, ◌+◌, true, false, drop, sym, ap, ◌∙◌, take_rest, is_cut, arith}, CallCuts.{texts_found, texts_here, texts_more, texts_not_found}}
use Rattle.partial_text.proofs.calls.split_call.Goals as goal

pub returns-then-is_cut-clause-split : goal.returns-then-is_cut-clause-split
returns-then-is_cut-clause-split c =
    let semicolon = c.loop-ahead.from + c.in-Some.ahead in
    let found = texts_found c.args.text.now c.loop-ahead.from c.in-Some.ahead c.loop-ahead.invariant.within c.in-Some.ensures c.loop-ahead.invariant.so_far in
    let cut : is_cut (drop semicolon c.args.text.now) ≡ true = ap is_cut (sym (take_rest c.args.text.now semicolon)) ∙ sym c.is_cut.ensures ∙ c.if-is_cut.true in
    rw (c.split_at.ensures.front, c.split_at.ensures.back) (texts_here c.args.text.now semicolon cut found.1)

pub loop-ahead-preserved : goal.loop-ahead-preserved
loop-ahead-preserved c =
    let semicolon = c.loop-ahead.from + c.in-Some.ahead in
    let found = texts_found c.args.text.now c.loop-ahead.from c.in-Some.ahead c.loop-ahead.invariant.within c.in-Some.ensures c.loop-ahead.invariant.so_far in
    let not_cut : is_cut (drop semicolon c.args.text.now) ≡ false = ap is_cut (sym (take_rest c.args.text.now semicolon)) ∙ sym c.is_cut.ensures ∙ c.if-is_cut.false in
    record { within = omega (arith, found.0); so_far = texts_more c.args.text.now semicolon found.0 not_cut found.1 }

pub returns-clause-split : goal.returns-clause-split
returns-clause-split c =
    texts_not_found c.args.text.now c.loop-ahead.from c.loop-ahead.invariant.within c.in_default.ensures c.loop-ahead.invariant.so_far
