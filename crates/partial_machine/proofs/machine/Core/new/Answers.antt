use Rattle.std.proofs.Common.{rules, tests}
use Rattle.partial_machine.proofs.Common.{arith, no_index}
use Rattle.partial_machine.proofs.machine.Core.new.Goals as goal

pub invariant_of-result : goal.invariant_of-result
invariant_of-result c =
    let none = no_index c.args.sizes.m in
    record {
      sizes = c.m-room.ensures.sizes;
      port = c.requires;
      sound = record {
        asked = rw c.in_ok-with_capacity.ensures.items (record { few = omega arith; each = none.each });
        found = c.in_ok-new.ensures.sizes;
        indices = rw c.in_ok-new.ensures.indices (record { few = omega arith; each = none.each });
        distinct = rw c.in_ok-new.ensures.indices none.distinct;
        rows = c.in_ok-new-2.ensures.sizes;
        ahead = omega arith;
        spare = rw (c.no_spare.ensures) (let pool = c.m-room.ensures.sizes.pool.0 in (omega arith, omega (arith, pool)));
        stage = tt;
      };
      enough = omega (arith, c.in_ok-with_capacity.ensures.capacity, c.m-room.ensures.value);
    }

pub returns : goal.returns
returns c = search (tests, rules)
