use Rattle.std.proofs.lemmas.Grind.{common_steps}
use Rattle.partial_active.proofs.{Common.arith, Marks.emptied_all}
use Rattle.partial_active.proofs.index_set.IndexSet.clear.Goals as goal

-- nothing is left, so nothing is marked
pub invariant_of-self : goal.invariant_of-self
invariant_of-self c =
    emptied_all c.loop-index.self-inside.items.items c.pop.new.self.items c.loop-index.self-inside.marks.items c.args.self.now.limit _ c.loop-index.invariant.0
    (omega (arith, c.in_default.ensures.cases, c.loop-index.self-inside.items.ok.0)) (omega (arith, c.in_default.ensures.cases, c.pop.new.self.ok.0)) (omega (arith, c.pop.ensures.capacity))

pub loop-index-preserved : goal.loop-index-preserved
loop-index-preserved c = grind (arith, common_steps) steps 2000000
