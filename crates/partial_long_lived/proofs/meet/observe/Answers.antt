use Rattle.partial_long_lived.proofs.{Common.{refl, sym, subst, SeatGoes, port_at}, Coming.goes_same}
use Rattle.partial_long_lived.proofs.meet.observe.Goals as goal

pub returns-clause-kept : goal.returns-clause-kept
returns-clause-kept c =
    let look = c.look_together-seat.ensures in
    let other = port_at c.args.other in (
      record { shape = refl; number = refl; epoch = refl; arena = refl; base = refl; passed = refl; goes = look.goes },
      record {
        shape = refl;
        number = refl;
        epoch = refl;
        arena = refl;
        base = refl;
        passed = refl;
        goes = subst (SeatGoes other) (sym look.same) (goes_same other c.requires.other.known);
      },
    )
