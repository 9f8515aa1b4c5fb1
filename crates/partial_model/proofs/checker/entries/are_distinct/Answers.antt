use Rattle.partial_model.proofs.{Common.{◌+◌, sym, ◌∙◌, subst}, StampLaws.{AreDistinctUpTo, above_is_new, unseen_is_new, seen_is_doubled, all_are_distinct}}
use Rattle.partial_model.proofs.checker.entries.are_distinct.Goals as goal
use Rattle.partial_model.proofs.checker.entries.are_distinct.Goals.{then-entry-greatest, else-entry-greatest+else-has_stamp}

pub returns-then-has_stamp : goal.returns-then-has_stamp
returns-then-has_stamp c =
    sym (seen_is_doubled c.args.history.now c.loop-place.place _ c.loop-place-test.true (sym c.has_stamp.ensures ∙ c.if-has_stamp.true))

pub loop-place-preserved : goal.loop-place-preserved
loop-place-preserved c =
    elim c.if-entry-greatest.branch [
      | then-entry-greatest w ↦
          subst (AreDistinctUpTo c.args.history.now (c.loop-place.place + 1)) (sym w.greatest-is)
          (above_is_new c.args.history.now c.loop-place.place c.loop-place.greatest _ c.loop-place.invariant c.loop-place-test.true w.if-entry-greatest.true)
      | else-entry-greatest+else-has_stamp w ↦
          subst (AreDistinctUpTo c.args.history.now (c.loop-place.place + 1)) (sym w.greatest-is)
          (unseen_is_new c.args.history.now c.loop-place.place c.loop-place.greatest _ c.loop-place.invariant c.loop-place-test.true w.if-entry-greatest.false
          (sym w.has_stamp.ensures ∙ w.if-has_stamp.false))
    ]

pub returns : goal.returns
returns c = sym (all_are_distinct c.args.history.now c.loop-place.place c.loop-place.greatest c.loop-place.invariant c.loop-place-test.false)
