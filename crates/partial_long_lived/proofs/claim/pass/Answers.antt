use Rattle.partial_long_lived.proofs.{Common.{◌≡◌, ◌+◌, ◌∙◌, false, ap, subst, sym, arith, Plan, Stand, SearchesOn, arena_steps}, Passing.{OnePass, none_passed, own_passed}, Staying.{remains_same, remains_then}, Counts.{round_more, rounds_all, rounds_within}, Working.on_then}
use Rattle.partial_long_lived.proofs.claim.pass.Goals.{then-arena-stand+in-Taken, else-arena-stand}
use Rattle.partial_long_lived.proofs.claim.pass.Goals as goal

pub try_arena-requires-clause-searches : goal.try_arena-requires-clause-searches
try_arena-requires-clause-searches c = c.loop-arena.invariant.searches.searches

pub loop-arena-init : goal.loop-arena-init
loop-arena-init c = record {
  held = c.requires.held;
  remains = remains_same _ _ c.args.stand.now c.requires.held;
  idle = c.requires.may;
  searches = none_passed c.args.stand.now c.requires.searches;
  steps = omega arith;
}

pub loop-arena-preserved : goal.loop-arena-preserved
loop-arena-preserved c =
    let so_far = c.loop-arena.invariant in
    elim c.if-arena-stand.branch [
      | then-arena-stand+in-Taken w ↦
          let tried = w.try_arena.ensures in
          subst (λ (t : Stand). OnePass c.args.words.now.table_id c.args.words.now.key c.args.stand.now (c.loop-arena.arena + 1) t) (sym w.stand-is) (record {
            held = tried.held;
            remains = remains_then _ _ _ so_far.remains tried.remains;
            idle = rw w.in-Taken.is at tried.tried;
            searches = on_then _ _ _ _ _ _ _ so_far.searches (rw w.in-Taken.is at tried.passes);
            steps = round_more _ _ _ _ _ so_far.steps tried.steps;
          })
      | else-arena-stand w ↦ subst (λ (t : Stand). OnePass c.args.words.now.table_id c.args.words.now.key c.args.stand.now (c.loop-arena.arena + 1) t) (sym w.stand-is) (record {
        held = so_far.held;
        remains = so_far.remains;
        idle = so_far.idle;
        searches = own_passed c.args.stand.now c.loop-arena.stand c.loop-arena.arena (w.if-arena-stand.false ∙ so_far.held.arena) so_far.searches;
        steps = round_more _ _ _ _ _ so_far.steps (omega arith);
      })
    ]

pub returns-in-Clean-clause-steps : goal.returns-in-Clean-clause-steps
returns-in-Clean-clause-steps c =
    let arenas = ap (λ (e : Plan). e.arenas) c.requires.held.shape in
    let test = c.loop-arena-test.true in
    let few = rounds_within c.loop-arena.arena c.args.words.now.key.arenas (arena_steps c.args.words.now.key) _ _ _ (omega (arith, arenas, test)) c.loop-arena.invariant.steps c.try_arena.ensures.steps in
    omega (arith, few)

pub returns-in-Ended-clause-steps : goal.returns-in-Ended-clause-steps
returns-in-Ended-clause-steps c =
    let arenas = ap (λ (e : Plan). e.arenas) c.requires.held.shape in
    let test = c.loop-arena-test.true in
    let few = rounds_within c.loop-arena.arena c.args.words.now.key.arenas (arena_steps c.args.words.now.key) _ _ _ (omega (arith, arenas, test)) c.loop-arena.invariant.steps c.try_arena.ensures.steps in
    omega (arith, few)

pub returns-in-Clean-clause-remains : goal.returns-in-Clean-clause-remains
returns-in-Clean-clause-remains c = remains_then _ _ _ c.loop-arena.invariant.remains c.try_arena.ensures.remains

pub returns-in-Ended-clause-remains : goal.returns-in-Ended-clause-remains
returns-in-Ended-clause-remains c = remains_then _ _ _ c.loop-arena.invariant.remains c.try_arena.ensures.remains

pub returns-clause-passes : goal.returns-clause-passes
returns-clause-passes c =
    let arenas = ap (λ (e : Plan). e.arenas) c.requires.held.shape in
    let past = c.loop-arena-test.false in
    let end = c.loop-arena.auto.arena-end in
    let all : c.loop-arena.arena ≡ c.args.words.now.key.arenas = omega (arith, past, end, arenas) in
    subst (λ n. SearchesOn false n c.args.stand.now c.loop-arena.stand) all c.loop-arena.invariant.searches

pub returns-clause-steps : goal.returns-clause-steps
returns-clause-steps c =
    let arenas = ap (λ (e : Plan). e.arenas) c.requires.held.shape in
    let end = c.loop-arena.auto.arena-end in
    rounds_all c.loop-arena.arena c.args.words.now.key.arenas (arena_steps c.args.words.now.key) _ _ (omega (arith, arenas, end)) c.loop-arena.invariant.steps
