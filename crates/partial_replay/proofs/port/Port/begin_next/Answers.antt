use Rattle.partial_replay.proofs.{Common.{◌≡◌, ◌+◌, ◌<◌, ◌++◌, refl, ◌∷◌, [], ℕ, length, Some, slice_get, sym, ◌∙◌, ap, subst, arith, length_push, AllByRecursion-get, Called, Layout, IsServed, IsDoneAtOnce}, PortLaws.{begun_fits, once_fits, once_idle, once_sizes, call_at_place, match_none, match_some}, PortSteps.{begun_made, once_made}, PortTurns.{turn_comes, turn_once, turn_begins}}
use Rattle.partial_replay.proofs.port.Port.begin_next.Goals as goal

-- the call is one that the machine serves
pub begin_call-requires-clause-served : goal.begin_call-requires-clause-served
begin_call-requires-clause-served c =
    let port = c.loop-alloc.self in
    let call = c.index-calls-number.result in
    let calls = c.args.calls.now in
    let next = call_at_place calls port.finished.items c.len-number.result call (omega (arith, port.finished.ok.0)) (omega (arith, port.finished.ok.0)) c.index-calls-number.is in
    subst (λ (z : Layout). IsServed z.m call) (sym c.loop-alloc.invariant.sizes)
    (AllByRecursion-get (IsServed c.args.self.now.core.sizes.m) calls (length port.finished.items) call c.requires.served next)

pub returns-in-None-clause-fits : goal.returns-in-None-clause-fits
returns-in-None-clause-fits c o log p x n w =
    let port = c.loop-alloc.self in
    let call = c.index-calls-number.result in
    let calls = c.args.calls.now in
    let next = call_at_place calls port.finished.items c.len-number.result call (omega (arith, port.finished.ok.0)) (omega (arith, port.finished.ok.0)) c.index-calls-number.is in
    let served = subst (λ (z : Layout). IsServed z.m call) (sym c.loop-alloc.invariant.sizes)
    (AllByRecursion-get (IsServed c.args.self.now.core.sizes.m) calls (length port.finished.items) call c.requires.served next) in
    let begun = match_none c.in_ok-called.field-0 _ _ c.in_ok-called.ensures c.in-None.is in
    begun_fits (c.loop-alloc.invariant.fits o log p x n w) c.loop-alloc.invariant.none next served begun.0 begun.1 refl begun.2 refl
    (ap (λ m. Some (record { began = m; steps = 0 })) (sym n))

pub returns-in-None-clause-made : goal.returns-in-None-clause-made
returns-in-None-clause-made c z p xs m =
    let port = c.loop-alloc.self in
    let call = c.index-calls-number.result in
    let calls = c.args.calls.now in
    let next = call_at_place calls port.finished.items c.len-number.result call (omega (arith, port.finished.ok.0)) (omega (arith, port.finished.ok.0)) c.index-calls-number.is in
    let begun = match_none c.in_ok-called.field-0 _ _ c.in_ok-called.ensures c.in-None.is in
    begun_made (c.loop-alloc.invariant.made z p xs m) c.loop-alloc.invariant.none next begun.0 begun.2 refl refl

pub returns-in-None-clause-turn : goal.returns-in-None-clause-turn
returns-in-None-clause-turn c lengths w =
    let port = c.loop-alloc.self in
    let below : length port.finished.items < length c.args.calls.now = omega (arith, port.finished.ok.0) in
    turn_begins c.args.calls.now lengths c.args.seen port _ below c.loop-alloc.invariant.none refl refl (c.loop-alloc.invariant.turn lengths w)

pub returns-clause-turn : goal.returns-clause-turn
returns-clause-turn c = c.loop-alloc.invariant.turn

pub loop-alloc-init : goal.loop-alloc-init
loop-alloc-init c = record {
  idle = c.requires.idle;
  none = c.requires.none;
  sizes = refl;
  few = c.requires.few;
  more = omega arith;
  fits = λ o log p x n w. w;
  made = λ z p xs m. m;
  turn = λ lengths w. turn_comes c.args.calls.now lengths c.args.seen c.args.self.now w;
}

pub loop-alloc-preserved : goal.loop-alloc-preserved
loop-alloc-preserved c =
    let port = c.loop-alloc.self in
    let core = c.begin_call.new.core in
    let call = c.index-calls-number.result in
    let calls = c.args.calls.now in
    let called : Called = c.in-Some.called in
    let below : c.len-number.result < length calls = omega (arith, port.finished.ok.0) in
    let same : c.len-number.result ≡ length port.finished.items = omega (arith, port.finished.ok.0) in
    let next : slice_get calls (length port.finished.items) ≡ Some call = call_at_place calls port.finished.items c.len-number.result call same below c.index-calls-number.is in
    let done : IsDoneAtOnce port.number c.len-number.result call c.args.seen port.core core called = match_some c.in_ok-called.field-0 _ _ called c.in_ok-called.ensures c.in-Some.is in
    let here : IsDoneAtOnce port.number (length port.finished.items) call c.args.seen port.core core called =
    subst (λ (n : ℕ). IsDoneAtOnce port.number n call c.args.seen port.core core called) same done in
    let pushed : c.push.new.self.items ≡ port.finished.items ++ called ∷ [] = c.in_ok-push-in-Some.ensures.items in
    let longer : length c.push.new.self.items ≡ length port.finished.items + 1 = ap length pushed ∙ length_push port.finished.items called in
    record {
      idle = once_idle done c.loop-alloc.invariant.idle;
      none = c.loop-alloc.invariant.none;
      sizes = once_sizes done ∙ c.loop-alloc.invariant.sizes;
      few = omega (arith, longer, below, same);
      more = let grown = c.loop-alloc.invariant.more in omega (arith, longer, grown);
      fits = λ o log p x n w. once_fits (c.loop-alloc.invariant.fits o log p x n w) c.loop-alloc.invariant.none next
          (subst (λ (m : ℕ). IsDoneAtOnce port.number (length port.finished.items) call m port.core core called) (sym n) here) refl pushed c.loop-alloc.invariant.none;
      turn = λ lengths w. turn_once calls lengths c.args.seen port _ called (omega (arith, below, same)) c.loop-alloc.invariant.none c.loop-alloc.invariant.none done.began done.steps pushed
          (c.loop-alloc.invariant.turn lengths w);
      made = λ z p xs m. once_made (c.loop-alloc.invariant.made z p xs m) c.loop-alloc.invariant.none here pushed c.loop-alloc.invariant.none;
    }
