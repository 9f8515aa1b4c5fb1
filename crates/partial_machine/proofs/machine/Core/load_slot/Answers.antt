use Rattle.partial_machine.proofs.{Common.{not, ◌∙◌, ap, GettingSet, Load}, Submachines.{got_more, got_more_is, got_all, got_all_is, set_fewer, possible_at}}
use Rattle.partial_machine.proofs.machine.Core.load_slot.Goals as goal

pub invariant_of-self-then-is_none : goal.invariant_of-self-then-is_none
invariant_of-self-then-is_none c =
    let requires = rw (← c.self.view_is) at c.requires in
    let set = c.in-GettingSet in
    let made = c.in_ok-made in
    let possible = possible_at _ (GettingSet set.change set.old) c.args.words.now (Load made.made.0) made.made.1 set.is requires made.ensures.made.0 made.ensures.made.1 in
    got_all _ _ _ c.self.invariant set.change set.old (c.load_slot.new.self, c.load_slot.new.found) _ _ set.is possible made.ensures.made.2
    (rw c.step.ensures at (c.is_none.ensures ∙ ap not c.if-is_none.true)) c.new-self-inside.ensures.state c.behind_set-self-inside.ensures

pub invariant_of-self-else-is_none : goal.invariant_of-self-else-is_none
invariant_of-self-else-is_none c =
    let requires = rw (← c.self.view_is) at c.requires in
    let set = c.in-GettingSet in
    let made = c.in_ok-made in
    let possible = possible_at _ (GettingSet set.change set.old) c.args.words.now (Load made.made.0) made.made.1 set.is requires made.ensures.made.0 made.ensures.made.1 in
    got_more _ _ _ c.self.invariant set.change set.old (c.load_slot.new.self, c.load_slot.new.found) set.is possible made.ensures.made.2
    (rw c.step.ensures at (c.is_none.ensures ∙ ap not c.if-is_none.false))

pub returns-then-is_none-clause-falls : goal.returns-then-is_none-clause-falls
returns-then-is_none-clause-falls c =
    let set = c.in-GettingSet in
    let made = c.in_ok-made in
    let led = got_all_is _ _ _ c.self.invariant set.change set.old (c.load_slot.new.self, c.load_slot.new.found) _ _ made.ensures.made.2
    (rw c.step.ensures at (c.is_none.ensures ∙ ap not c.if-is_none.true)) c.new-self-inside.ensures.state c.behind_set-self-inside.ensures in
    set_fewer _ c.args.self.now _ _ c.args.words.now made.made.0 made.made.1 set.change set.old c.self.view_is c.self.invariant c.requires set.is made.ensures.made.0 made.ensures.made.1 led

pub returns-else-is_none-clause-falls : goal.returns-else-is_none-clause-falls
returns-else-is_none-clause-falls c =
    let set = c.in-GettingSet in
    let made = c.in_ok-made in
    let led = got_more_is _ _ _ c.self.invariant set.change set.old (c.load_slot.new.self, c.load_slot.new.found) made.ensures.made.2
    (rw c.step.ensures at (c.is_none.ensures ∙ ap not c.if-is_none.false)) in
    set_fewer _ c.args.self.now _ _ c.args.words.now made.made.0 made.made.1 set.change set.old c.self.view_is c.self.invariant c.requires set.is made.ensures.made.0 made.ensures.made.1 led
