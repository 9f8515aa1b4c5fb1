use Rattle.partial_long_lived.specs.Inner.Under.{leads_on}
use Rattle.partial_long_lived.proofs.attempt.write.Goals as goal

pub returns-in-Found-clause-leads : goal.returns-in-Found-clause-leads
returns-in-Found-clause-leads g c = leads_on c.args.stand.now c.begin_write.new.stand c.write_found-written.new.stand c.begin_write.ensures.leads c.write_found-written.ensures.leads
