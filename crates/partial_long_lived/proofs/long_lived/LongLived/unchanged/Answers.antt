use Rattle.std.proofs.Common.{rules, tests}
use Rattle.partial_long_lived.proofs.{Common.{sym, ◌∙◌}, Answering.few_seen, StillStanding.{differ_seen, still_seen}}
use Rattle.partial_long_lived.proofs.long_lived.LongLived.unchanged.Goals as goal

pub returns-then-me-epoch-clause-still : goal.returns-then-me-epoch-clause-still
returns-then-me-epoch-clause-still c = λ is.
    let u = c.unchanged-answer.ensures in
    still_seen _ c.me.inside.stand c.unchanged-answer.new.stand _ c.me.view_is (c.requires.own ∙ sym c.self.view_is) u.held u.settled _ _ (u.had is)

pub returns-else-me-epoch-clause-still : goal.returns-else-me-epoch-clause-still
returns-else-me-epoch-clause-still c = λ is.
    let u = c.unchanged-answer.ensures in
    still_seen _ c.me.inside.stand c.unchanged-answer.new.stand _ c.me.view_is (c.requires.own ∙ sym c.self.view_is) u.held u.settled _ _ (u.had is)

pub returns-then-me-epoch-clause-differ : goal.returns-then-me-epoch-clause-differ
returns-then-me-epoch-clause-differ c = λ is.
    let u = c.unchanged-answer.ensures in
    differ_seen _ c.me.inside.stand c.unchanged-answer.new.stand _ c.me.view_is (c.requires.own ∙ sym c.self.view_is) u.held u.settled _ _ (u.another is)

pub returns-else-me-epoch-clause-differ : goal.returns-else-me-epoch-clause-differ
returns-else-me-epoch-clause-differ c = λ is.
    let u = c.unchanged-answer.ensures in
    differ_seen _ c.me.inside.stand c.unchanged-answer.new.stand _ c.me.view_is (c.requires.own ∙ sym c.self.view_is) u.held u.settled _ _ (u.another is)

pub invariant_of-me-else-me-epoch : goal.invariant_of-me-else-me-epoch
invariant_of-me-else-me-epoch c = search (tests, rules)

pub returns-then-me-epoch-clause-steps : goal.returns-then-me-epoch-clause-steps
returns-then-me-epoch-clause-steps c = few_seen c.me.inside.stand c.unchanged-answer.new.stand _ _ c.me.view_is c.unchanged-answer.ensures.steps

pub returns-else-me-epoch-clause-steps : goal.returns-else-me-epoch-clause-steps
returns-else-me-epoch-clause-steps c = few_seen c.me.inside.stand c.unchanged-answer.new.stand _ _ c.me.view_is c.unchanged-answer.ensures.steps
