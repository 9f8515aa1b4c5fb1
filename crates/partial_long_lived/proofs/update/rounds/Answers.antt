use Rattle.partial_long_lived.proofs.{Counts.{round_more, rounds_all, rounds_within}, Common.{round_steps, rules, refl, arith, false, FoundSealed, UpdateAttempted, NotesNothing, asked_change, None}, Rounds.{came_on, came_rounds, late_of, may_own, one_later, one_seal, round_ended, round_met, rounds_begin, rounds_came}}
use Rattle.partial_long_lived.proofs.update.rounds.Goals as goal

pub loop-init : goal.loop-init
loop-init c = let r = c.requires in (rounds_begin _ _ false c.args.stand.now _ r.held r.idle r.may, omega (arith), omega (arith), omega (arith))

pub attempt-attempted-requires-clause-held : goal.attempt-attempted-requires-clause-held
attempt-attempted-requires-clause-held c = c.loop.invariant.0.held

pub attempt-attempted-requires-clause-idle : goal.attempt-attempted-requires-clause-idle
attempt-attempted-requires-clause-idle c = c.loop.invariant.0.idle

pub attempt-attempted-requires-clause-may : goal.attempt-attempted-requires-clause-may
attempt-attempted-requires-clause-may c = c.loop.invariant.0.may

pub returns-in-Some-clause-updated : goal.returns-in-Some-clause-updated
returns-in-Some-clause-updated c =
    let ended : UpdateAttempted false (asked_change c.args.component None c.args.value) c.in-Some.exchanged c.loop.stand c.attempt-attempted.new.stand = search rules in
    round_ended _ _ false false c.args.stand.now c.loop.stand _ c.loop.invariant.0 _ _ refl _ c.attempt-attempted.ensures.held ended

pub returns-in-Err-clause-refused : goal.returns-in-Err-clause-refused
returns-in-Err-clause-refused c =
    let met : NotesNothing false c.loop.stand c.attempt-attempted.new.stand = search rules in
    let so_far = round_met _ _ false false c.args.stand.now c.loop.stand _ c.loop.invariant.0 _ met in (
      late_of c.args.times c.args.times c.args.stand.now c.attempt-attempted.new.stand c.renew.new.stand c.in-Err.cause so_far.goes (rw c.in-Err.is at c.renew.ensures.cause),
      came_on false c.args.stand.now c.attempt-attempted.new.stand _ so_far c.renew.ensures.came,
    )

pub loop-preserved : goal.loop-preserved
loop-preserved c =
    let met : NotesNothing false c.loop.stand c.attempt-attempted.new.stand = search rules in
    let sealed : FoundSealed c.loop.stand c.attempt-attempted.new.stand = search rules in
    let came = came_on false c.args.stand.now c.attempt-attempted.new.stand _ (round_met _ _ false false c.args.stand.now c.loop.stand _ c.loop.invariant.0 _ met) c.renew.ensures.came in (
      came_rounds _ _ false c.args.stand.now _ _ c.renew.ensures.held c.renew.ensures.idle (search rules) came,
      one_later _ _ c.args.stand.now c.loop.stand c.attempt-attempted.new.stand c.renew.new.stand _ c.loop.invariant.0.held c.attempt-attempted.ensures.held met.stayed.kept.epoch c.loop.invariant.1 (search rules),
      one_seal c.args.stand.now c.loop.stand c.attempt-attempted.new.stand c.renew.new.stand _ c.loop.invariant.2 sealed c.renew.ensures.came.goes,
      round_more _ _ _ _ _ c.loop.invariant.3 (let a = c.attempt-attempted.ensures.steps in let r = c.renew.ensures.steps in omega (arith, a, r)),
    )

pub returns-clause-held : goal.returns-clause-held
returns-clause-held c = c.loop.invariant.0.held

pub returns-clause-idle : goal.returns-clause-idle
returns-clause-idle c = c.loop.invariant.0.idle

pub returns-clause-rests : goal.returns-clause-rests
returns-clause-rests c = may_own _ _ c.loop.invariant.0.may

pub returns-clause-spare : goal.returns-clause-spare
returns-clause-spare c = λ _. c.loop.invariant.0.may

pub returns-clause-refused : goal.returns-clause-refused
returns-clause-refused c =
    let over = c.loop-test.false in
    let later = c.loop.invariant.1 in
    let seals = c.loop.invariant.2 in
    ((omega (arith, over, later), omega (arith, over, seals)), rounds_came _ _ false false c.args.stand.now c.loop.stand _ c.loop.invariant.0 refl)

pub returns-in-Some-clause-steps : goal.returns-in-Some-clause-steps
returns-in-Some-clause-steps c = rounds_within c.loop.counter c.args.times (round_steps c.args.words.now.key) _ _ _ c.loop-test.true c.loop.invariant.3 (let a = c.attempt-attempted.ensures.steps in omega (arith, a))

pub returns-in-Err-clause-steps : goal.returns-in-Err-clause-steps
returns-in-Err-clause-steps c =
    rounds_within c.loop.counter c.args.times (round_steps c.args.words.now.key) _ _ _ c.loop-test.true c.loop.invariant.3
    (let a = c.attempt-attempted.ensures.steps in let r = c.renew.ensures.steps in omega (arith, a, r))

pub returns-clause-steps : goal.returns-clause-steps
returns-clause-steps c = rounds_all c.loop.counter c.args.times (round_steps c.args.words.now.key) _ _ c.loop.auto.counter-end c.loop.invariant.3
