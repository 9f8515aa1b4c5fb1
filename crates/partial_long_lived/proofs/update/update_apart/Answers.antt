use Rattle.partial_long_lived.proofs.{Common.{rules, subst, sym, IfOk, true, false, Exchanged, Refused, CameBy, IsLate, NotesNothing, UpdateAttempted, UpdateEnded, asked_change, ended_as, None, refl, Change}, Rounds.{came_on, err_as, late_from, ok_as, round_ended, round_met, rounds_begin, updated_after}, Updates.{rests_may, rests_own}}
use Rattle.partial_long_lived.proofs.update.update_apart.Goals as goal

pub update_late-requires-clause-rests : goal.update_late-requires-clause-rests
update_late-requires-clause-rests c = let r = c.requires in rests_own _ _ c.args.stand.now _ _ r.held r.rests

pub attempt_as-attempted-requires-clause-may : goal.attempt_as-attempted-requires-clause-may
attempt_as-attempted-requires-clause-may c = let r = c.requires in rests_may _ _ c.args.stand.now _ _ r.held r.rests c.if-spent.false

pub returns-in-Some-clause-updated : goal.returns-in-Some-clause-updated
returns-in-Some-clause-updated c =
    let r = c.requires in
    let ended : UpdateAttempted true (asked_change c.args.component None c.args.value) c.in-Some.exchanged c.args.stand.now c.attempt_as-attempted.new.stand = search rules in
    subst (λ r. IfOk r (λ q. UpdateEnded true (asked_change c.args.component None c.args.value) q c.args.stand.now c.attempt_as-attempted.new.stand)) (sym c.of.ensures)
    (round_ended _ _ true true c.args.stand.now c.args.stand.now _
    (rounds_begin _ _ true c.args.stand.now _ r.held r.rests.free (rests_may _ _ c.args.stand.now _ _ r.held r.rests c.if-spent.false)) _ _ refl _ c.attempt_as-attempted.ensures.held ended)

pub returns-clause-updated : goal.returns-clause-updated
returns-clause-updated c =
    let r = c.requires in
    let met : NotesNothing true c.args.stand.now c.attempt_as-attempted.new.stand = search rules in
    let on = rounds_begin _ _ true c.args.stand.now _ r.held r.rests.free (rests_may _ _ c.args.stand.now _ _ r.held r.rests c.if-spent.false) in
    let came = round_met _ _ true true c.args.stand.now c.args.stand.now _ on c.attempt_as-attempted.new.stand met in
    let change : Change = asked_change c.args.component None c.args.value in
    ok_as Exchanged Refused (ended_as c.update_late-2.result) (λ r. UpdateEnded false change r c.attempt_as-attempted.new.stand c.update_late-2.new.stand)
    (λ r. UpdateEnded true change r c.args.stand.now c.update_late-2.new.stand)
    (λ r w. updated_after true change r c.args.stand.now c.attempt_as-attempted.new.stand c.update_late-2.new.stand came w) c.update_late-2.ensures.updated

pub returns-clause-refused : goal.returns-clause-refused
returns-clause-refused c =
    let r = c.requires in
    let met : NotesNothing true c.args.stand.now c.attempt_as-attempted.new.stand = search rules in
    let on = rounds_begin _ _ true c.args.stand.now _ r.held r.rests.free (rests_may _ _ c.args.stand.now _ _ r.held r.rests c.if-spent.false) in
    let came = round_met _ _ true true c.args.stand.now c.args.stand.now _ on c.attempt_as-attempted.new.stand met in
    err_as Exchanged Refused (ended_as c.update_late-2.result)
    (λ cause. IsLate 16 15 c.attempt_as-attempted.new.stand cause c.update_late-2.new.stand × CameBy false c.attempt_as-attempted.new.stand c.update_late-2.new.stand)
    (λ cause. IsLate 16 15 c.args.stand.now cause c.update_late-2.new.stand × CameBy true c.args.stand.now c.update_late-2.new.stand)
    (λ cause w. (
      late_from 16 15 c.args.stand.now c.attempt_as-attempted.new.stand c.update_late-2.new.stand cause came.goes w.0,
      came_on true c.args.stand.now c.attempt_as-attempted.new.stand c.update_late-2.new.stand came w.1,
    ))
    c.update_late-2.ensures.refused
