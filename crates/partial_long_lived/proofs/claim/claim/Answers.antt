use Rattle.partial_long_lived.proofs.{Common.{Bool, ◌<◌, subst, sym}, Passing.{SearchedSo, begins_so, ended_within, ends_within, fewer_left, passes_left, passes_on}, Staying.{remains_then}}
use Rattle.partial_long_lived.proofs.claim.claim.Goals as goal

pub pass-requires-clause-searches : goal.pass-requires-clause-searches
pass-requires-clause-searches c = (subst (λ (b : Bool). SearchedSo b c.args.words.now.key c.args.stand.now c.loop-current.stand) c.loop-current-test.true c.loop-current.invariant.searched).so.0

pub loop-current-init : goal.loop-current-init
loop-current-init c =
    let begun = c.begin_search-current.ensures in record {
      held = begun.held;
      remains = begun.remains;
      idle = begun.idle;
      searched = begins_so c.begin_search-current.result c.args.words.now.key c.args.stand.now c.begin_search-current.new.stand begun.begun begun.held.own begun.steps;
    }

pub loop-current-preserved : goal.loop-current-preserved
loop-current-preserved c =
    let about = c.args.words.now.key in
    let inv = c.loop-current.invariant in
    let so = subst (λ (b : Bool). SearchedSo b about c.args.stand.now c.loop-current.stand) c.loop-current-test.true inv.searched in
    let pass = c.pass.ensures in
    let next = c.begin_pass-current.ensures in record {
      held = next.held;
      remains = remains_then _ _ _ inv.remains (remains_then _ _ _ pass.remains next.remains);
      idle = next.idle;
      searched = passes_on about c.args.stand.now c.loop-current.stand c.pass.new.stand c.begin_pass-current.new.stand so (rw c.in-Taken.is at pass.passes) pass.steps next.steps c.begin_pass-current.result next.begun;
    }

pub loop-current-smaller : goal.loop-current-smaller
loop-current-smaller c =
    let about = c.args.words.now.key in
    let so = subst (λ (b : Bool). SearchedSo b about c.args.stand.now c.loop-current.stand) c.loop-current-test.true c.loop-current.invariant.searched in
    let pass = c.pass.ensures in
    let next = c.begin_pass-current.ensures in
    let fewer = fewer_left about c.args.stand.now c.loop-current.stand c.pass.new.stand c.begin_pass-current.new.stand so (rw c.in-Taken.is at pass.passes) pass.steps next.steps c.begin_pass-current.result next.begun in
    subst (λ (b : Bool). passes_left c.begin_pass-current.result c.begin_pass-current.new.stand < passes_left b c.loop-current.stand) (sym c.loop-current-test.true) fewer

pub returns-in-Clean-clause-steps : goal.returns-in-Clean-clause-steps
returns-in-Clean-clause-steps c =
    let so = subst (λ (b : Bool). SearchedSo b c.args.words.now.key c.args.stand.now c.loop-current.stand) c.loop-current-test.true c.loop-current.invariant.searched in
    ends_within c.args.words.now.key c.args.stand.now c.loop-current.stand c.pass.new.stand so c.pass.ensures.steps

pub returns-in-Ended-clause-steps : goal.returns-in-Ended-clause-steps
returns-in-Ended-clause-steps c =
    let so = subst (λ (b : Bool). SearchedSo b c.args.words.now.key c.args.stand.now c.loop-current.stand) c.loop-current-test.true c.loop-current.invariant.searched in
    ends_within c.args.words.now.key c.args.stand.now c.loop-current.stand c.pass.new.stand so c.pass.ensures.steps

pub returns-clause-steps : goal.returns-clause-steps
returns-clause-steps c =
    ended_within c.args.words.now.key c.args.stand.now c.loop-current.stand
    (subst (λ (b : Bool). SearchedSo b c.args.words.now.key c.args.stand.now c.loop-current.stand) c.loop-current-test.false c.loop-current.invariant.searched)
