use Rattle.partial_long_lived.proofs.{Common.{◌≡◌, ◌<◌, false, refl, ap, subst, sym, arith, just_taken, Plan, HasSetWords}, Counts.{threes_all, threes_more, threes_within}, Staying.{remains_then}, Looking.{away_owns, away_past, looked_remains, looked_searching, taken_works}, Working.on_then}
use Rattle.partial_long_lived.proofs.clear.clear.Goals as goal

pub returns-then-not-look-clause-cleared : goal.returns-then-not-look-clause-cleared
returns-then-not-look-clause-cleared c =
    let taken = c.requires.taken in
    let looked = c.look.ensures.looked in (
      away_owns false c.args.stand.now c.look.new.stand c.look.result looked c.args.arena c.if-not-look.true
          (record { stands = taken.stands; owned = just_taken c.args.arena; is = taken.is; arena = refl }),
      away_past false c.args.stand.now c.look.new.stand c.look.result looked c.if-not-look.true,
    )

pub loop-port-init : goal.loop-port-init
loop-port-init c =
    let look = c.look.ensures in record {
      held = look.held;
      remains = looked_remains _ _ _ look.kept look.looked;
      works = taken_works _ _ _ _ c.requires.taken look.looked c.if-not-look.false;
      searches = looked_searching _ _ _ _ _ look.looked c.if-not-look.false c.requires.searches;
      steps = let one = look.steps in omega (arith, one);
    }

pub loop-port-preserved : goal.loop-port-preserved
loop-port-preserved c =
    let so_far = c.loop-port.invariant in
    let one = c.clear_port.ensures in record {
      held = one.held;
      remains = remains_then _ _ _ so_far.remains one.remains;
      works = c.in-Clean.ensures.cleared.1;
      searches = on_then _ _ _ _ _ _ _ so_far.searches c.in-Clean.ensures.meets;
      steps = threes_more _ _ _ _ _ so_far.steps one.steps;
    }

pub returns-in-Taken : goal.returns-in-Taken
returns-in-Taken c =
    let so_far = c.loop-port.invariant in
    let one = c.clear_port.ensures in record {
      held = one.held;
      remains = remains_then _ _ _ so_far.remains one.remains;
      cleared = c.in-Taken.ensures.cleared;
      meets = on_then _ _ _ _ _ _ _ so_far.searches c.in-Taken.ensures.meets;
      steps = threes_within _ _ _ _ _ _ (subst (λ (e : Plan). c.loop-port.port < e.ports) (sym c.look.ensures.held.shape) c.loop-port-test.true) so_far.steps one.steps;
    }

pub returns-in-Ended : goal.returns-in-Ended
returns-in-Ended c =
    let so_far = c.loop-port.invariant in
    let one = c.clear_port.ensures in record {
      held = one.held;
      remains = remains_then _ _ _ so_far.remains one.remains;
      cleared = c.in-Ended.ensures.cleared;
      meets = tt;
      steps = threes_within _ _ _ _ _ _ (subst (λ (e : Plan). c.loop-port.port < e.ports) (sym c.look.ensures.held.shape) c.loop-port-test.true) so_far.steps one.steps;
    }

pub returns : goal.returns
returns c =
    let so_far = c.loop-port.invariant in
    let test = c.loop-port-test.false in
    let end = c.loop-port.auto.port-end in
    let ports = ap (λ (e : Plan). e.ports) c.look.ensures.held.shape in
    let all : c.loop-port.port ≡ c.args.words.now.key.ports = omega (arith, test, end, ports) in record {
      held = so_far.held;
      remains = so_far.remains;
      cleared = (refl, subst (λ q. HasSetWords c.loop-port.stand c.args.arena q 0) all so_far.works);
      meets = so_far.searches;
      steps = threes_all _ _ _ _ _ (omega (arith, all)) so_far.steps;
    }
