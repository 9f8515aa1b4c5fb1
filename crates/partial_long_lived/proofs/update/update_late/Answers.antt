use Rattle.partial_long_lived.proofs.{Common.{rules, subst, sym, IfOk, IfErr, Exchanged, Refused, CameBy, IsLate, UpdateEnded, false, asked_change, None, Change}, Coming.goes_same, Rounds.{came_on, err_as, late_after, late_of, ok_as, updated_after}}
use Rattle.partial_long_lived.proofs.update.update_late.Goals as goal

pub returns-clause-updated : goal.returns-clause-updated
returns-clause-updated g c =
    let change : Change = asked_change c.args.component None c.args.value in
    subst (λ r. IfOk r (λ q. UpdateEnded g.F.When.first change q c.args.stand.now c.rounds.new.stand)) (sym c.of-2.ensures)
    (ok_as Exchanged Refused c.rounds.result (λ r. UpdateEnded false change r c.renew.new.stand c.rounds.new.stand) (λ r. UpdateEnded g.F.When.first change r c.args.stand.now c.rounds.new.stand)
    (λ r w. updated_after g.F.When.first change r c.args.stand.now c.renew.new.stand c.rounds.new.stand c.renew.ensures.came w) c.rounds.ensures.updated)

pub returns-clause-refused : goal.returns-clause-refused
returns-clause-refused g c = subst (λ r. IfErr r (λ cause. IsLate 16 15 c.args.stand.now cause c.rounds.new.stand × CameBy g.F.When.first c.args.stand.now c.rounds.new.stand)) (sym c.of-2.ensures)
    (err_as Exchanged Refused c.rounds.result (λ cause. IsLate 15 15 c.renew.new.stand cause c.rounds.new.stand × CameBy false c.renew.new.stand c.rounds.new.stand)
    (λ cause. IsLate 16 15 c.args.stand.now cause c.rounds.new.stand × CameBy g.F.When.first c.args.stand.now c.rounds.new.stand)
    (λ cause w. (late_after 15 15 c.args.stand.now c.renew.new.stand c.rounds.new.stand cause c.renew.ensures.came.goes (search rules) w.0, came_on g.F.When.first c.args.stand.now c.renew.new.stand c.rounds.new.stand c.renew.ensures.came w.1)) c.rounds.ensures.refused)

pub returns-in-Err-clause-refused : goal.returns-in-Err-clause-refused
returns-in-Err-clause-refused g c = subst (λ r. IfErr r (λ cause. IsLate 16 15 c.args.stand.now cause c.renew.new.stand × CameBy g.F.When.first c.args.stand.now c.renew.new.stand)) (sym c.of.ensures)
    (late_of 16 15 c.args.stand.now c.args.stand.now c.renew.new.stand c.in-Err.cause (goes_same _ c.requires.held.known) (rw c.in-Err.is at c.renew.ensures.cause), c.renew.ensures.came)
