use Rattle.std.proofs.Common.{subst}
use Rattle.partial_long_lived.proofs.{Common.{ℕ, ◌≡◌, ◌+◌, ◌<◌, arith, sees}, Standing.{component_there, see_asked, seen_at}}
use Rattle.partial_long_lived.proofs.arena.see.Goals as goal

pub load-requires : goal.load-requires
load-requires g c =
    let h = c.requires.held in
    let is = c.from.ensures in
    let inside : c.from.result < c.args.words.now.key.sizes.m = (let low = c.requires.inside in omega (arith, is, low)) in
    rw c.requires.base (h.fits, component_there _ _ _ h _ inside, see_asked _ _ _ h c.requires.stands g.F.When.first g.G.Wishes.wish _ inside (rw is c.requires.passed) _ _)

pub returns-clause-sees : goal.returns-clause-sees
returns-clause-sees g c =
    let own = c.requires.base in
    let is = c.from.ensures in
    let at : c.args.base + c.from.result ≡ c.args.stand.now.base + c.args.component = omega (arith, own, is) in
    seen_at _ _ _ c.requires.held g.F.When.first g.G.Wishes.wish c.args.component c.load.result c.load.new.seat.me
    (subst (λ (i : ℕ). sees g.F.When.first g.G.Wishes.wish i c.args.stand.now.seat.me c.load.result c.load.new.seat.me) at c.load.ensures.2)

pub returns-clause-steps : goal.returns-clause-steps
returns-clause-steps g c = let one = c.load.ensures.3 in omega (arith, one)
