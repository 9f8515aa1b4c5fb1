use Rattle.partial_long_lived.proofs.Common.{refl, sym, ap, ◌∙◌, public_of, About, SeatedPort, plan_of, port_at, stamp_seen, value_seen}
use Rattle.partial_long_lived.proofs.find.find_stamp.Goals as goal

pub returns-clause-found : goal.returns-clause-found
returns-clause-found c =
    let x : SeatedPort = port_at c.find-at.new.stand in
    let find = c.find-at.ensures in record {
      found = record { component = c.args.component; value = value_seen x x.port.part.seen c.args.component; stamp = stamp_seen x x.port.part.seen c.args.component };
      is = ap (λ (z : SeatedPort). z.found) c.public_stamp.ensures.same ∙ find.found;
      component = refl;
      stamp = c.public_stamp.ensures.stamp ∙ ap (λ (a : About). public_of (plan_of a) x.port.before c.args.component c.find-at.result) (sym find.held.own)
          ∙ ap (public_of (plan_of x.about) x.port.before c.args.component) find.loaded.record_is;
    }
