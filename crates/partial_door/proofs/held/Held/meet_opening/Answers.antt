use Rattle.partial_door.proofs.Common.{rules, refl, sym, inl, inr}
use Rattle.partial_door.proofs.held.Held.meet_opening.Goals as goal

pub returns : goal.returns
returns c =
    inl (
      refl,
      (
        c.in-OpeningPort.first,
        c.in-OpeningPort-other.second,
        _,
        _,
        c.in-OpeningPort.is,
        c.in-OpeningPort-other.is,
        refl,
        refl,
        search rules,
        record { opening = refl; memory = refl },
        record { opening = refl; memory = refl },
        c.meet.ensures.met,
      ),
    )

pub returns-then-second-first : goal.returns-then-second-first
returns-then-second-first c =
    inr (inr (inr (c.in-OpeningPort.first, c.in-OpeningPort-other.second, c.in-OpeningPort.is, c.in-OpeningPort-other.is, search rules, refl)), sym c.in-OpeningPort.is, sym c.in-OpeningPort-other.is)
