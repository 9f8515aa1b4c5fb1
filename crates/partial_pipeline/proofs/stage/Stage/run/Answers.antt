use Rattle.std.proofs.Common.{rules, tests}
use Rattle.partial_pipeline.proofs.{Common.{ℕ, ◌≡◌, ◌∙◌, refl, sym, ap, subst, Some, MemoryView, IsStageDone, IsWorking, StageEnd, Finished, Stopped, Stage}, Stages.is_done}
use Rattle.partial_pipeline.proofs.stage.Stage.run.Goals as goal
use Rattle.partial_pipeline.proofs.stage.Stage.run.Goals.{else-loop-turn-test, then-loop-turn-test+in-Some}

-- a stage at work of this number, with so many items, that has published all of them if it has finished
abbrev Ends : MemoryView → ℕ → ℕ → Stage → StageEnd → Type 0
Ends m k items x end = IsWorking m x × (x.port.number ≡ k) × (x.items ≡ items) × (end ≡ Finished → x.count ≡ x.items)

pub returns : goal.returns
returns g c =
    let m = c.args.memory.now in
    let k = c.args.self.port.number in
    let items = c.args.self.items in
    let x : Stage = c.loop-turn-test.self in
    let end : StageEnd = c.loop-turn-test.end in
    let ends : Ends m k items x end =
    elim c.loop-turn-test.branch [
      | else-loop-turn-test w ↦
          let at = c.loop-turn.invariant in
          subst (Ends m k items x) (sym w.end-is)
          (subst (λ (y : Stage). Ends m k items y c.loop-turn.end-1) (sym w.self-is) (at.working, at.number, at.items, λ is. let bad : Stopped ≡ Finished = sym at.end ∙ is in cc))
      | then-loop-turn-test+in-Some w ↦
          let at = c.loop-turn.invariant in
          subst (Ends m k items x) (sym w.end-is)
          (subst (λ (y : Stage). Ends m k items y w.in-Some.reason) (sym w.self-is)
          (w.turn.ensures.working, w.turn.ensures.number ∙ at.number, w.turn.ensures.items ∙ at.items, λ is. w.turn.ensures.finished (w.in-Some.is ∙ ap Some is)))
    ] in
    subst (λ i. IsStageDone m i k (record { port = x.port; end = end })) ends.2 (is_done m x k (record { port = x.port; end = end }) ends.0 c.number.ensures.knows ends.1 refl ends.3)

pub loop-turn-init : goal.loop-turn-init
loop-turn-init g c = search (tests, rules)
