use Rattle.partial_long_lived.proofs.{Changed.changed, Staying.stays_same}
use Rattle.partial_long_lived.proofs.change.change.Goals as goal

pub returns-then-not-look-clause-changed : goal.returns-then-not-look-clause-changed
returns-then-not-look-clause-changed g c =
    let look = c.look.ensures in
    changed g.F.When.first c.args.stand.now c.look.new.stand _ c.enter.new.stand c.look.result look.kept look.looked (stays_same _ _ _ look.held) c.enter.ensures.entered

pub returns-clause-changed : goal.returns-clause-changed
returns-clause-changed g c =
    let look = c.look.ensures in
    changed g.F.When.first c.args.stand.now c.look.new.stand _ c.enter-2.new.stand c.look.result look.kept look.looked c.open_next.ensures.stays c.enter-2.ensures.entered
