use Rattle.partial_pipeline.proofs.{Common.{rules, ◌+◌, sym, subst, IsEachStage}, Rooms.numbers_more}
use Rattle.partial_pipeline.proofs.monitor.numbers.Goals as goal

pub loop-stage-preserved : goal.loop-stage-preserved
loop-stage-preserved c = record {
  each = subst (IsEachStage (c.loop-stage.stage + 1)) (sym c.push_reserved.ensures.items) (numbers_more c.loop-stage.stage c.loop-stage.all.items c.loop-stage.invariant.each);
  room = search rules;
}
