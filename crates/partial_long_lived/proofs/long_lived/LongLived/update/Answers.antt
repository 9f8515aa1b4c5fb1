use Rattle.std.proofs.Common.{tests}
use Rattle.partial_long_lived.proofs.{Answering.few_about, Common.{◌*◌, round_steps, About, rules, ◌<◌, sym, ◌∙◌, subst, IfOk, IfErr, IsRefused, Updates, port_view, port_at, Call}, Updates.{update_answered, update_fits, update_refused}}
use Rattle.partial_long_lived.proofs.long_lived.LongLived.update.Goals.{in-Ok, in-Err}
use Rattle.partial_long_lived.proofs.long_lived.LongLived.update.Goals as goal

pub of-requires : goal.of-requires
of-requires c = update_fits _ _ _ _ (rw c.in-Ok.is at c.update-ended.ensures.updated)

pub returns-clause-answered : goal.returns-clause-answered
returns-clause-answered c =
    let own = c.requires ∙ sym c.self.view_is in
    let inside : c.args.component < c.self.inside.table.key.sizes.m = search rules in
    let new = c.update-ended.new.stand in
    let held = c.update-ended.ensures.held in
    elim c.match-ended.branch [
      | in-Ok w ↦
          let ended = rw w.in-Ok.is at c.update-ended.ensures.updated in
          subst (λ r. IfOk r (λ q. Updates c.args.me.now c.args.component c.args.value q (port_view new.seat.table_id new.seat.steps (port_at new)))) (sym w.result-is)
          (subst (λ q. Updates c.args.me.now c.args.component c.args.value q (port_view new.seat.table_id new.seat.steps (port_at new))) (sym w.of.ensures)
          (update_answered _ c.me.inside.stand new _ c.me.view_is own held _ _ ended inside))
      | in-Err w ↦ subst (λ r. IfOk r (λ q. Updates c.args.me.now c.args.component c.args.value q (port_view new.seat.table_id new.seat.steps (port_at new)))) (sym w.result-is) tt
    ]

pub returns-clause-refused : goal.returns-clause-refused
returns-clause-refused c =
    let own = c.requires ∙ sym c.self.view_is in
    let inside : c.args.component < c.self.inside.table.key.sizes.m = search rules in
    let new = c.update-ended.new.stand in
    let held = c.update-ended.ensures.held in
    elim c.match-ended.branch [
      | in-Ok w ↦ subst (λ r. IfErr r (λ cause. IsRefused c.args.me.now (Call.Update c.args.component c.args.value) cause (port_view new.seat.table_id new.seat.steps (port_at new)))) (sym w.result-is) tt
      | in-Err w ↦
          let not = rw w.in-Err.is at c.update-ended.ensures.refused in
          subst (λ r. IfErr r (λ cause. IsRefused c.args.me.now (Call.Update c.args.component c.args.value) cause (port_view new.seat.table_id new.seat.steps (port_at new)))) (sym w.result-is)
          (update_refused _ c.me.inside.stand new _ c.me.view_is own held c.args.component c.args.value _ not.0 not.1 inside)
    ]

pub update-ended-requires-clause-rests : goal.update-ended-requires-clause-rests
update-ended-requires-clause-rests c = search (tests, rules)

pub returns-clause-steps : goal.returns-clause-steps
returns-clause-steps c = few_about (λ (a : About). 16 * round_steps a) c.me.inside.stand c.update-ended.new.stand _ _ _ c.me.view_is c.self.view_is c.update-ended.ensures.steps
