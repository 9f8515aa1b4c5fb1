use Rattle.partial_long_lived.proofs.{Common.{rules, arith, ◌<◌, sym, ap, ◌∙◌, MemoryView, PortView, IsHeld}, Answering.{few_seen, read_seen}, Resting.held_resting}
use Rattle.partial_long_lived.proofs.long_lived.LongLived.read.Goals as goal

pub returns-in-Some-clause-answered : goal.returns-in-Some-clause-answered
returns-in-Some-clause-answered c =
    let own = c.requires ∙ sym c.self.view_is in
    let inside : c.args.component < c.self.inside.table.key.sizes.m = search rules in
    read_seen _ c.me.inside.stand c.read_here.new.stand _ c.me.view_is own c.read_here.ensures.held _ _ _ c.in-Some.ensures.read inside

pub returns-clause-answered : goal.returns-clause-answered
returns-clause-answered c =
    let m : MemoryView = record { table = c.self.inside.table.table_id; about = c.self.inside.table.key } in
    let own = c.requires ∙ sym c.self.view_is in
    let inside : c.args.component < c.self.inside.table.key.sizes.m = search rules in
    let held : IsHeld m.table m.about c.me.inside.stand = held_resting m c.me.inside.stand _ _ c.me.invariant.0 (ap (λ (q : PortView). q.memory) c.me.view_is ∙ own) in
    let late = c.read_late-late.ensures.read c.me.inside.stand held c.me.invariant.0.rests.free c.read_here.ensures.kept c.in_default.ensures.sealed in
    read_seen m c.me.inside.stand c.read_late-late.new.stand _ c.me.view_is own c.read_late-late.ensures.held _ _ _ late inside

pub returns-in-Some-clause-steps : goal.returns-in-Some-clause-steps
returns-in-Some-clause-steps c = let here = c.in-Some.ensures.steps in few_seen c.me.inside.stand c.read_here.new.stand _ 8 c.me.view_is (omega (arith, here))

pub returns-clause-steps : goal.returns-clause-steps
returns-clause-steps c =
    let here = c.in_default.ensures.few in
    let late = c.read_late-late.ensures.steps in
    few_seen c.me.inside.stand c.read_late-late.new.stand _ 8 c.me.view_is (omega (arith, here, late))
