use Rattle.partial_long_lived.proofs.{Counts.{round_more, rounds_all, rounds_within}, Common.{true, refl, arith, round_if_steps}, ConditionalRounds.{compares_again, compares_begin, compares_came, compares_ended, compares_met}, Rounds.{came_on, late_of, one_later, seals_more}, Updates.own_rests}
use Rattle.partial_long_lived.proofs.update_if.update_if.Goals as goal

pub loop-init : goal.loop-init
loop-init c = let r = c.requires in (compares_begin _ _ c.args.stand.now _ c.args.spent.now r.held r.rests, λ some. absurd (omega (arith, some)), omega (arith), omega (arith), omega (arith))

pub returns-in-Some-clause-updated : goal.returns-in-Some-clause-updated
returns-in-Some-clause-updated c =
    compares_ended _ _ c.loop.first c.loop.spent c.args.stand.now c.loop.stand _ c.loop.invariant.0 _ c.args.asked c.in-Some.updated (rw c.in-Some.is at c.round.ensures.ended)

pub returns-in-Err-clause-refused : goal.returns-in-Err-clause-refused
returns-in-Err-clause-refused c =
    let met = rw c.in_default.is at c.round.ensures.none in
    let so_far = compares_met _ _ c.loop.first c.loop.spent c.args.stand.now c.loop.stand _ c.loop.invariant.0 _ met in (
      late_of 16 15 c.args.stand.now c.round.new.stand c.renew.new.stand c.in-Err.cause so_far.goes (rw c.in-Err.is at c.renew.ensures.cause),
      came_on true c.args.stand.now c.round.new.stand _ so_far c.renew.ensures.came,
    )

pub loop-preserved : goal.loop-preserved
loop-preserved c =
    let met = rw c.in_default.is at c.round.ensures.none in
    let came = came_on true c.args.stand.now c.round.new.stand _ (compares_met _ _ c.loop.first c.loop.spent c.args.stand.now c.loop.stand _ c.loop.invariant.0 _ met) c.renew.ensures.came in (
      compares_again _ _ c.args.stand.now _ _ c.renew.ensures.held c.renew.ensures.idle (rw c.in_default-renew.is at c.renew.ensures.spare) came (rw c.in_default-renew.is at c.renew.ensures.fresh),
      λ some. (refl, refl),
      one_later _ _ c.args.stand.now c.loop.stand c.round.new.stand c.renew.new.stand _ c.loop.invariant.0.held c.round.ensures.held met.stayed.kept.epoch c.loop.invariant.2 (rw c.in_default-renew.is at c.renew.ensures.later),
      seals_more c.args.stand.now c.loop.stand c.round.new.stand c.renew.new.stand _ c.loop.spent c.loop.invariant.1 c.loop.invariant.3 (rw c.in_default.is at c.round.ensures.met) c.loop.invariant.0.goes met.stayed.kept.goes c.renew.ensures.came.goes,
      round_more _ _ _ _ _ c.loop.invariant.4 (let a = c.round.ensures.steps in let r = c.renew.ensures.steps in omega (arith, a, r)),
    )

pub returns-clause-rests : goal.returns-clause-rests
returns-clause-rests c =
    let over = c.loop-test.false in
    let on = c.loop.invariant.0 in
    own_rests _ _ _ _ _ on.held on.idle on.own (λ _. on.may (c.loop.invariant.1 (omega (arith, over))).1)

pub returns-clause-refused : goal.returns-clause-refused
returns-clause-refused c =
    let over = c.loop-test.false in
    let later = c.loop.invariant.2 in
    let seals = c.loop.invariant.3 in
    ((omega (arith, over, later), omega (arith, over, seals)), compares_came _ _ c.loop.first c.loop.spent c.args.stand.now c.loop.stand _ c.loop.invariant.0 (c.loop.invariant.1 (omega (arith, over))).0)

pub returns-in-Some-clause-steps : goal.returns-in-Some-clause-steps
returns-in-Some-clause-steps c = rounds_within c.loop.counter 16 (round_if_steps c.args.words.now.key) _ _ _ c.loop-test.true c.loop.invariant.4 (let a = c.round.ensures.steps in omega (arith, a))

pub returns-in-Err-clause-steps : goal.returns-in-Err-clause-steps
returns-in-Err-clause-steps c =
    rounds_within c.loop.counter 16 (round_if_steps c.args.words.now.key) _ _ _ c.loop-test.true c.loop.invariant.4
    (let a = c.round.ensures.steps in let r = c.renew.ensures.steps in omega (arith, a, r))

pub returns-clause-steps : goal.returns-clause-steps
returns-clause-steps c = rounds_all c.loop.counter 16 (round_if_steps c.args.words.now.key) _ _ c.loop.auto.counter-end c.loop.invariant.4
