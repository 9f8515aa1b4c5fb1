use Rattle.partial_long_lived.proofs.{Answering.few_about, Common.{◌*◌, round_if_steps, About, rules, ◌<◌, sym, ◌∙◌}, Rounds.{err_as, ok_as}, Updates.{update_if_answered, update_if_refused}}
use Rattle.partial_long_lived.proofs.long_lived.LongLived.update_if.Goals as goal

pub returns-clause-answered : goal.returns-clause-answered
returns-clause-answered c =
    let own = c.requires ∙ sym c.self.view_is in
    let inside : c.args.component < c.self.inside.table.key.sizes.m = search rules in
    ok_as _ _ c.update_if.result _ _ (λ r w. update_if_answered _ c.me.inside.stand c.update_if.new.stand _ c.me.view_is own c.update_if.ensures.held _ r w inside) c.update_if.ensures.updated

pub returns-clause-refused : goal.returns-clause-refused
returns-clause-refused c =
    let own = c.requires ∙ sym c.self.view_is in
    let inside : c.args.component < c.self.inside.table.key.sizes.m = search rules in
    err_as _ _ c.update_if.result _ _ (λ cause w. update_if_refused _ c.me.inside.stand c.update_if.new.stand _ c.me.view_is own c.update_if.ensures.held
    c.args.component c.args.expected c.args.value cause w.0 w.1 inside) c.update_if.ensures.refused

pub returns-clause-steps : goal.returns-clause-steps
returns-clause-steps c = few_about (λ (a : About). 16 * round_if_steps a) c.me.inside.stand c.update_if.new.stand _ _ _ c.me.view_is c.self.view_is c.update_if.ensures.steps
