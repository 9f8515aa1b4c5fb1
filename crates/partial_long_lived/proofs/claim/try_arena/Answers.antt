use Rattle.partial_long_lived.proofs.{Common.{ℕ, ◌<◌, ◌∙◌, sym, subst, About, HasSetWords, Stand, Bool, true, false, if◌then◌else◌, ◌+◌, ◌≡◌, SearchesOn, inl, inr}, Counts.{arena_kept, arena_missed, arena_within}, Staying.{remains_then}, Working.on_then}
use Rattle.partial_long_lived.specs.Inner.Changing.{Tried}
use Rattle.partial_long_lived.proofs.claim.try_arena.Goals as goal

taken_searches : (y : ℕ) (s t : Stand) (b : Bool) → b ≡ true → SearchesOn false (if b then y else y + 1) s t → SearchesOn false y s t
taken_searches y s t b taken = subst (λ (b : Bool). SearchesOn false (if b then y else y + 1) s t) taken

pub returns-then-not-take : goal.returns-then-not-take
returns-then-not-take c =
    let take = c.take.ensures in record {
      held = take.held;
      remains = take.remains;
      tried = subst (λ b. Tried c.args.arena b c.take.new.stand) c.if-not-take.true take.tried;
      passes = subst (λ (b : Bool). SearchesOn false (if b then c.args.arena else c.args.arena + 1) c.args.stand.now c.take.new.stand) c.if-not-take.true take.passes;
      steps = arena_missed _ _ _ take.steps;
    }

pub returns-in-Clean : goal.returns-in-Clean
returns-in-Clean c =
    let take = c.take.ensures in
    let clear = c.clear.ensures in
    let own : ℕ = c.in-Clean.own in
    let stand : Stand = c.clear.new.stand in
    let cleared = c.in-Clean.ensures.cleared in record {
      held = clear.held;
      remains = remains_then _ _ _ take.remains clear.remains;
      tried = subst (λ (a : About). (own < a.arenas) × HasSetWords stand own a.ports 0) (sym clear.held.own)
          (subst (λ y. (y < c.args.words.now.key.arenas) × HasSetWords stand y c.args.words.now.key.ports 0) (sym cleared.0) (c.requires.inside, cleared.1));
      passes = tt;
      steps = arena_kept _ _ _ _ take.steps clear.steps;
    }

pub returns-in-Taken : goal.returns-in-Taken
returns-in-Taken c =
    let take = c.take.ensures in
    let clear = c.clear.ensures in
    let give = c.give.ensures in record {
      held = give.held;
      remains = remains_then _ _ _ take.remains (remains_then _ _ _ clear.remains give.remains);
      tried = give.free;
      passes = on_then _ _ _ _ _ _ _ (taken_searches c.args.arena c.args.stand.now c.take.new.stand _ c.if-not-take.false take.passes) (on_then _ _ _ _ _ _ _ c.in-Taken.ensures.meets (give.passes c.in-Taken.ensures.meets.searches));
      steps = arena_within _ _ _ _ _ take.steps clear.steps give.steps;
    }

pub returns-in-Ended : goal.returns-in-Ended
returns-in-Ended c =
    let take = c.take.ensures in
    let clear = c.clear.ensures in
    let give = c.give-in-Ended.ensures in record {
      held = give.held;
      remains = remains_then _ _ _ take.remains (remains_then _ _ _ clear.remains give.remains);
      tried = (give.free, give.past ∙ c.in-Ended.ensures.cleared.1);
      passes = tt;
      steps = arena_within _ _ _ _ _ take.steps clear.steps give.steps;
    }

pub clear-requires-clause-searches : goal.clear-requires-clause-searches
clear-requires-clause-searches c = (taken_searches c.args.arena c.args.stand.now c.take.new.stand _ c.if-not-take.false c.take.ensures.passes).searches

pub give-requires-clause-cause : goal.give-requires-clause-cause
give-requires-clause-cause c = inr c.in-Taken.ensures.meets.searches

pub give-requires-in-Ended-clause-cause : goal.give-requires-in-Ended-clause-cause
give-requires-in-Ended-clause-cause c = inl c.in-Ended.ensures.cleared.1
