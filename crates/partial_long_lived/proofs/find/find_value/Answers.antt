use Rattle.partial_long_lived.proofs.Common.{refl, ap, ◌∙◌, SeatedPort, port_at, stamp_seen, value_seen}
use Rattle.partial_long_lived.proofs.find.find_value.Goals as goal

pub returns-clause-found : goal.returns-clause-found
returns-clause-found c =
    let x : SeatedPort = port_at c.find-at.new.stand in record {
      found = record { component = c.args.component; value = value_seen x x.port.part.seen c.args.component; stamp = stamp_seen x x.port.part.seen c.args.component };
      is = ap (λ (z : SeatedPort). z.found) c.load_value.ensures.same ∙ c.find-at.ensures.found;
      component = refl;
      value = c.load_value.ensures.value;
    }
