use Rattle.partial_words.proofs.Common.{◌≡◌, ◌++◌, ◌∷◌, ◌-◌, ◌+◌, ℕ, [], List, ap, arith, ◌∙◌, refl, sym, slice_index_or}
use Rattle.std.specs.Prelude.{drop, length}
use Rattle.partial_words.specs.declared.step.Event.{Event}
use Rattle.partial_words.specs.declared.step.Step.TheVariants.{Load, Store}
use Rattle.partial_words.specs.declared.trace.Kept.{Kept}
use Rattle.partial_words.specs.Kept.{kept_events}
use Rattle.partial_words.proofs.TraceLemmas.{kept_is_told, others_from_kept, other_is_told, others_behind_next}
use Rattle.partial_words.proofs.trace.Trace.into_vec.Goals as goal
use Rattle.partial_words.proofs.trace.Trace.into_vec.Goals.{in-Load, in-Store, in-Other}

pub loop-step-preserved : goal.loop-step-preserved
loop-step-preserved c =
    let kept : List Kept = c.deref-step-items.result.now in
    let others : List Event = c.self.inside.others.items in
    let i : ℕ = c.loop-step.step-index in
    let n : ℕ = c.loop-step.next in
    let k0 : Kept = Kept.Load 0 0 0 in
    let told : List Event = c.loop-step.events.items in
    let more : List Event = c.push.new.self.items in
    let all : List Event = c.args.self in
    let rest : List Event = drop c.match-step.next others in
    let pushed : more ≡ told ++ c.match-step.event ∷ [] = c.in_ok-push.ensures.items in
    elim c.match-step.branch [
      | in-Load w ↦
          let e : Event = record { port = w.in-Load.port; step = Load w.in-Load.word; answer = w.in-Load.answer } in
          let is : c.match-step.event ≡ e = w.event-is ∙ ap (λ (p : ℕ). record { port = p; step = Load w.in-Load.word; answer = w.in-Load.answer }) w.from.ensures in
          let same : rest ≡ drop n others = ap (λ (m : ℕ). drop m others) w.next-is in
          record {
            told = kept_is_told kept (drop n others) rest i k0 (Kept.Load w.in-Load.port w.in-Load.word w.in-Load.answer) e told more all
                c.loop-step-test.true w.in-Load.is refl (pushed ∙ ap (λ (d : Event). told ++ d ∷ []) is) same c.loop-step.invariant.told;
            left = others_from_kept kept i k0 (Kept.Load w.in-Load.port w.in-Load.word w.in-Load.answer) e (length (drop n others)) c.loop-step-test.true w.in-Load.is refl
                c.loop-step.invariant.left ∙ sym (ap length same);
          }
      | in-Store w ↦
          let e : Event = record { port = w.in-Store.port; step = Store w.in-Store.word w.in-Store.value; answer = 0 } in
          let is : c.match-step.event ≡ e = w.event-is ∙ ap (λ (p : ℕ). record { port = p; step = Store w.in-Store.word w.in-Store.value; answer = 0 }) w.from-in-Store.ensures in
          let same : rest ≡ drop n others = ap (λ (m : ℕ). drop m others) w.next-is in
          record {
            told = kept_is_told kept (drop n others) rest i k0 (Kept.Store w.in-Store.port w.in-Store.word w.in-Store.value) e told more all
                c.loop-step-test.true w.in-Store.is refl (pushed ∙ ap (λ (d : Event). told ++ d ∷ []) is) same c.loop-step.invariant.told;
            left = others_from_kept kept i k0 (Kept.Store w.in-Store.port w.in-Store.word w.in-Store.value) e (length (drop n others)) c.loop-step-test.true w.in-Store.is refl
                c.loop-step.invariant.left ∙ sym (ap length same);
          }
      | in-Other w ↦
          let here : n + 1 - 1 ≡ n = omega arith in
          let d0 : Event = w.index.result.now in
          let is : c.match-step.event ≡ slice_index_or others n d0 = w.event-is ∙ w.index.ensures ∙ ap (λ (m : ℕ). slice_index_or others m d0) here in
          let same : rest ≡ drop (n + 1) others = ap (λ (m : ℕ). drop m others) w.next-is in
          record {
            told = ap (λ (s : List Event). more ++ kept_events (drop (i + 1) kept) s) same
                ∙ other_is_told kept others i n k0 d0 told more all c.loop-step-test.true w.in-Other.is c.loop-step.invariant.left
                (pushed ∙ ap (λ (d : Event). told ++ d ∷ []) is) c.loop-step.invariant.told;
            left = others_behind_next kept others i n k0 c.loop-step-test.true w.in-Other.is c.loop-step.invariant.left ∙ sym (ap length same);
          }
    ]
