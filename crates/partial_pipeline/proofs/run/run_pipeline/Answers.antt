use Rattle.std.proofs.Common.{tests}
use Rattle.partial_pipeline.proofs.{Common.{rules, ℕ, ◌≡◌, ◌∙◌, List, replicate, slice_index, sym, subst, IsOpened}, Rooms.zeros}
use Rattle.partial_pipeline.proofs.run.run_pipeline.Goals as goal

pub run_on-requires : goal.run_on-requires
run_on-requires g c =
    let m = c.in_ok-memory.memory in
    let values : m.about.opening.values ≡ replicate c.args.pipeline.stages 0 = c.in_ok-memory.ensures.values ∙ c.deref.ensures.value ∙ c.in_ok-zeros.ensures.items_if_clones_equal (λ y is. is) in
    let opened : IsOpened m c.in_ok-memory.ports.items = record {
      opens = record {
        zero = λ k. subst (λ (l : List ℕ). slice_index l k ≡ 0) (sym values) (zeros c.args.pipeline.stages k);
        values = search rules;
        some = search rules;
        few = search rules;
        count = search rules;
      };
      ports = search rules;
    } in
    (search rules, (search rules, opened))

pub returns-in_err-zeros-clause-err : goal.returns-in_err-zeros-clause-err
returns-in_err-zeros-clause-err g c = search (tests, rules)
