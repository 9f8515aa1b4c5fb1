use Rattle.partial_door.proofs.Common.{rules, refl, sym, inl, inr}
use Rattle.partial_door.proofs.held.Held.meet.Goals as goal

pub returns : goal.returns
returns c =
    inl (
      refl,
      (
        c.in-Port.first,
        c.in-Port-other.second,
        _,
        _,
        c.in-Port.is,
        c.in-Port-other.is,
        refl,
        refl,
        search rules,
        record { number = refl; memory = refl },
        record { number = refl; memory = refl },
        c.meet.ensures.met,
        c.meet.ensures.lawful,
        c.meet.ensures.steps,
      ),
    )

pub returns-then-second-first : goal.returns-then-second-first
returns-then-second-first c =
    inr (inr (inr (c.in-Port.first, c.in-Port-other.second, c.in-Port.is, c.in-Port-other.is, search rules, refl)), sym c.in-Port.is, sym c.in-Port-other.is)
