use Rattle.std.proofs.Common.{rules, tests}
use Rattle.partial_long_lived.proofs.{Common.{◌∙◌}, Counts.{sealed_only, all_opened}, Staying.{stays_then}}
use Rattle.partial_long_lived.proofs.change.open_next.Goals as goal

pub publish-requires-clause-works : goal.publish-requires-clause-works
publish-requires-clause-works c = search (tests, rules)

pub returns-in-Some-clause-stays : goal.returns-in-Some-clause-stays
returns-in-Some-clause-stays c =
    let published = stays_then _ _ _ c.publish.ensures.stays c.give.ensures.remains.stays in
    stays_then _ _ _ c.seal_unless_ended.ensures.stays (stays_then _ _ _ c.claim.ensures.remains.stays (stays_then _ _ _ c.fill.ensures.stays published))

pub returns-in-Some-clause-past : goal.returns-in-Some-clause-past
returns-in-Some-clause-past c = c.give.ensures.past ∙ c.publish.ensures.past

pub returns-in-Some-clause-steps : goal.returns-in-Some-clause-steps
returns-in-Some-clause-steps c = all_opened _ _ _ _ _ _ _ _ _ c.seal_unless_ended.ensures.steps c.claim.ensures.steps c.fill.ensures.steps c.publish.ensures.steps c.give.ensures.steps

pub returns-in-None-clause-stays : goal.returns-in-None-clause-stays
returns-in-None-clause-stays c = stays_then _ _ _ c.seal_unless_ended.ensures.stays c.claim.ensures.remains.stays

pub returns-in-None-clause-past : goal.returns-in-None-clause-past
returns-in-None-clause-past c = c.in-None.ensures.claimed.1

pub returns-in-None-clause-steps : goal.returns-in-None-clause-steps
returns-in-None-clause-steps c = sealed_only _ _ _ _ _ _ c.seal_unless_ended.ensures.steps c.claim.ensures.steps

pub returns-then-stand-eq-EPOCHS-clause-cause : goal.returns-then-stand-eq-EPOCHS-clause-cause
returns-then-stand-eq-EPOCHS-clause-cause c = search (tests, rules)
