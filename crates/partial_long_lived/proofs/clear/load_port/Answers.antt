use Rattle.std.proofs.Common.{arith}
use Rattle.partial_long_lived.proofs.{Asked.{load_port_asked, port_there}, Working.{port_load, port_meets}}
use Rattle.partial_long_lived.proofs.clear.load_port.Goals as goal

pub load-requires : goal.load-requires
load-requires c = let h = c.requires.held in (h.fits, port_there _ _ _ h c.args.port c.requires.inside, load_port_asked _ _ _ h c.args.arena c.args.port c.requires.works c.requires.inside _ _)

pub returns-clause-loaded : goal.returns-clause-loaded
returns-clause-loaded c = port_load c.args.stand.now _ c.args.arena c.args.port c.load.result c.requires.works c.load.ensures.2.2

pub returns-clause-steps : goal.returns-clause-steps
returns-clause-steps c = let one = c.load.ensures.3 in omega (arith, one)

pub returns-clause-meets : goal.returns-clause-meets
returns-clause-meets c = port_meets c.args.stand.now (record c.args.stand.now { seat = c.load.new.seat }) c.args.arena c.args.port c.load.result c.requires.works c.load.ensures.2.2 c.requires.searches
