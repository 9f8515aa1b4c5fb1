use Rattle.std.proofs.Common.{rules, tests}
use Rattle.partial_machine.proofs.{Common.{vec_capacity, sym, ◌∙◌, ap, subst, CoreState, IsMachine, IsPossibleAt}, Sound.fewer_on}
use Rattle.partial_machine.specs.declared.stage.Stage.TheVariants.{GettingSet, Viewing, Joining, Scanning}
use Rattle.partial_machine.proofs.machine.Core.answer.Goals as goal

pub returns-in-GettingSet-clause-falls : goal.returns-in-GettingSet-clause-falls
returns-in-GettingSet-clause-falls c =
    let machine = subst (λ (s : CoreState). IsMachine s (vec_capacity c.self.inside.asked)) c.self.view_is c.self.invariant in
    let stage = sym (ap (λ (s : CoreState). s.stage) c.self.view_is) ∙ c.in-GettingSet.is in
    fewer_on c.args.self.now c.after_set.new.self _ c.args.answer (GettingSet c.in-GettingSet.change c.in-GettingSet.old) machine stage
    (subst (λ t. IsPossibleAt c.args.self.now t c.args.answer) stage c.requires) c.after_set.ensures

pub returns-in-Viewing-clause-falls : goal.returns-in-Viewing-clause-falls
returns-in-Viewing-clause-falls c =
    let machine = subst (λ (s : CoreState). IsMachine s (vec_capacity c.self.inside.asked)) c.self.view_is c.self.invariant in
    let stage = sym (ap (λ (s : CoreState). s.stage) c.self.view_is) ∙ c.in-Viewing.is in
    fewer_on c.args.self.now c.after_view.new.self _ c.args.answer (Viewing c.in-Viewing.change c.in-Viewing.old) machine stage
    (subst (λ t. IsPossibleAt c.args.self.now t c.args.answer) stage c.requires) c.after_view.ensures

pub returns-in-Joining-clause-falls : goal.returns-in-Joining-clause-falls
returns-in-Joining-clause-falls c =
    let machine = subst (λ (s : CoreState). IsMachine s (vec_capacity c.self.inside.asked)) c.self.view_is c.self.invariant in
    let stage = sym (ap (λ (s : CoreState). s.stage) c.self.view_is) ∙ c.in-Joining.is in
    fewer_on c.args.self.now c.after_join.new.self _ c.args.answer Joining machine stage (subst (λ t. IsPossibleAt c.args.self.now t c.args.answer) stage c.requires) c.after_join.ensures

pub returns-in-Scanning-clause-falls : goal.returns-in-Scanning-clause-falls
returns-in-Scanning-clause-falls c =
    let machine = subst (λ (s : CoreState). IsMachine s (vec_capacity c.self.inside.asked)) c.self.view_is c.self.invariant in
    let stage = sym (ap (λ (s : CoreState). s.stage) c.self.view_is) ∙ c.in-Scanning.is in
    fewer_on c.args.self.now c.after_collect.new.self _ c.args.answer Scanning machine stage (subst (λ t. IsPossibleAt c.args.self.now t c.args.answer) stage c.requires) c.after_collect.ensures

pub returns-in-ReadBegun-clause-state : goal.returns-in-ReadBegun-clause-state
returns-in-ReadBegun-clause-state c = search (tests, rules)
