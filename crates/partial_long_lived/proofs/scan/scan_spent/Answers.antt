use Rattle.partial_long_lived.proofs.{Common.rules, Answering.changed_named}
use Rattle.partial_long_lived.proofs.scan.scan_spent.Goals as goal

pub returns-clause-scanned : goal.returns-clause-scanned
returns-clause-scanned c = changed_named _ _ c.args.stand.now c.change.new.stand c.args.core.now c.args.spent.now c.requires.held c.requires.rests (search rules) _ _ _ _ _ _ c.make_scan.ensures.scanned
