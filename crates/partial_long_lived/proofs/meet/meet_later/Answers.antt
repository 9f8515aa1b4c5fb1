use Rattle.partial_long_lived.proofs.{Common.{◌<◌, arith}, Meetings.{apart_first, apart_lawful, apart_one, apart_second, together_first, together_lawful, together_one, together_second}}
use Rattle.partial_long_lived.proofs.meet.meet_later.Goals as goal

pub returns-then-is_one-clause-met : goal.returns-then-is_one-clause-met
returns-then-is_one-clause-met c =
    let r = c.requires in
    let a = c.observe-first.ensures in
    let b = c.observe-second.ensures in (
      together_first _ _ c.args.earlier c.args.later c.observe-first.result.0 c.observe-first.result.1 r.earlier r.later r.idle.0 r.idle.1 a.kept.0 a.kept.1 a.same a.observed
          c.observe-second.result.0 c.observe-second.result.1 c.if-is_one.true b.kept.0 b.kept.1 b.same b.observed,
      together_second _ _ c.args.earlier c.args.later c.observe-first.result.0 c.observe-first.result.1 r.earlier r.later r.idle.0 r.idle.1 a.kept.0 a.kept.1 a.same a.observed
          c.observe-second.result.0 c.observe-second.result.1 c.if-is_one.true b.kept.0 b.kept.1 b.same b.observed,
    )

pub returns-clause-met : goal.returns-clause-met
returns-clause-met c =
    let r = c.requires in
    let a = c.observe-first.ensures in
    let b = c.observe.ensures in
    let order = r.order in
    let other = c.if-is_one.false in
    let early : c.args.earlier.epoch < c.args.later.epoch = omega (arith, order, other) in (
      apart_first _ _ c.args.earlier c.args.later c.observe-first.result.0 c.observe-first.result.1 r.earlier r.later r.idle.0 r.idle.1 a.kept.0 a.kept.1 a.same a.observed
          c.settle.new.stand c.observe.result.0 c.observe.result.1 early c.settle.ensures.settled c.settle.ensures.held b.kept.0 b.kept.1 b.same b.observed,
      apart_second _ _ c.args.earlier c.args.later c.observe-first.result.0 c.observe-first.result.1 r.earlier r.later r.idle.0 r.idle.1 a.kept.0 a.kept.1 a.same a.observed
          c.settle.new.stand c.observe.result.0 c.observe.result.1 early c.settle.ensures.settled c.settle.ensures.held b.kept.0 b.kept.1 b.same b.observed,
    )

pub returns-then-is_one-clause-order : goal.returns-then-is_one-clause-order
returns-then-is_one-clause-order c =
    let r = c.requires in
    let a = c.observe-first.ensures in
    let b = c.observe-second.ensures in
    together_one _ _ c.args.earlier c.args.later c.observe-first.result.0 c.observe-first.result.1 r.earlier r.later r.idle.0 r.idle.1 a.kept.0 a.kept.1 a.same a.observed
    c.observe-second.result.0 c.observe-second.result.1 c.if-is_one.true b.kept.0 b.kept.1 b.same b.observed

pub returns-clause-order : goal.returns-clause-order
returns-clause-order c =
    let r = c.requires in
    let a = c.observe-first.ensures in
    let b = c.observe.ensures in
    let order = r.order in
    let other = c.if-is_one.false in
    let early : c.args.earlier.epoch < c.args.later.epoch = omega (arith, order, other) in
    apart_one _ _ c.args.earlier c.args.later c.observe-first.result.0 c.observe-first.result.1 r.earlier r.later r.idle.0 r.idle.1 a.kept.0 a.kept.1 a.same a.observed
    c.settle.new.stand c.observe.result.0 c.observe.result.1 early c.settle.ensures.settled c.settle.ensures.held b.kept.0 b.kept.1 b.same b.observed

pub returns-then-is_one-clause-lawful : goal.returns-then-is_one-clause-lawful
returns-then-is_one-clause-lawful c =
    let r = c.requires in
    let a = c.observe-first.ensures in
    let b = c.observe-second.ensures in
    together_lawful _ _ c.args.earlier c.args.later c.observe-first.result.0 c.observe-first.result.1 r.earlier r.later r.idle.0 r.idle.1 a.kept.0 a.kept.1 a.same a.observed
    c.observe-second.result.0 c.observe-second.result.1 c.if-is_one.true b.kept.0 b.kept.1 b.same b.observed

pub returns-clause-lawful : goal.returns-clause-lawful
returns-clause-lawful c =
    let r = c.requires in
    let a = c.observe-first.ensures in
    let b = c.observe.ensures in
    let order = r.order in
    let other = c.if-is_one.false in
    let early : c.args.earlier.epoch < c.args.later.epoch = omega (arith, order, other) in
    apart_lawful _ _ c.args.earlier c.args.later c.observe-first.result.0 c.observe-first.result.1 r.earlier r.later r.idle.0 r.idle.1 a.kept.0 a.kept.1 a.same a.observed
    c.settle.new.stand c.observe.result.0 c.observe.result.1 early c.settle.ensures.settled c.settle.ensures.held b.kept.0 b.kept.1 b.same b.observed
