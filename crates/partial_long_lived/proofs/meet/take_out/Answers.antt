use Rattle.partial_long_lived.proofs.{Common.{arith, refl, sym, ap, ◌∙◌, subst, SeatedPort, IsSeatKnown, SeatGoes, port_at}, Meetings.{taken_one, taken_same}, Coming.goes_same, Meets.deals}
use Rattle.partial_long_lived.proofs.meet.take_out.Goals as goal

pub split_seat-requires : goal.split_seat-requires
split_seat-requires c = let h = c.requires.held in let words = h.words in (h.fits, omega (arith, words), deals _ _ _)

pub returns-clause-same : goal.returns-clause-same
returns-clause-same c = taken_same _ _ c.requires.held.one.0 c.split_seat.ensures.4

pub returns-clause-held : goal.returns-clause-held
returns-clause-held c =
    let h = c.requires.held in
    let me = c.split_seat.ensures.4 in
    let same = sym (taken_same _ _ h.one.0 me) in
    record {
      fits = c.split_seat.ensures.3 ∙ h.fits;
      words = h.words;
      shape = h.shape;
      one = taken_one _ _ h.one.0 me;
      own = sym (ap (λ (x : SeatedPort). x.about) same) ∙ h.own;
      known = subst IsSeatKnown same h.known;
      number = h.number ∙ ap (λ (x : SeatedPort). x.number) same;
      epoch = h.epoch ∙ ap (λ (x : SeatedPort). x.port.control.here.epoch) same;
      arena = h.arena ∙ ap (λ (x : SeatedPort). x.port.control.here.arena) same;
      base = h.base;
      passed = h.passed ∙ ap (λ (x : SeatedPort). x.port.passed) same;
    }

pub returns-clause-kept : goal.returns-clause-kept
returns-clause-kept c =
    let h = c.requires.held in
    let same = sym (taken_same _ _ h.one.0 c.split_seat.ensures.4) in
    record {
      shape = refl;
      number = refl;
      epoch = refl;
      arena = refl;
      base = refl;
      passed = refl;
      goes = subst (SeatGoes (port_at c.args.stand.now)) same (goes_same (port_at c.args.stand.now) h.known);
    }

pub returns-clause-steps : goal.returns-clause-steps
returns-clause-steps c = let all = c.split_seat.ensures.6 in omega (arith, all)
