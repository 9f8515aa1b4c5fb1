use Rattle.std.proofs.lemmas.Grind.{common_steps}
use Rattle.partial_active.proofs.{Common.{◌≡◌, vec_len, ap, sym, ◌∙◌, arith, IndexList}, Marks.count_lt-length}
use Rattle.partial_active.proofs.index_set.IndexSet.insert.Goals as goal

-- the index is not marked, so there are fewer than there is room for
pub push_reserved-requires : goal.push_reserved-requires
push_reserved-requires c =
    let limit : vec_len c.self.inside.marks ≡ c.args.self.now.limit = ap (λ (s : IndexList). s.limit) c.self.view_is in
    let free = count_lt-length c.self.inside.marks.items c.args.index c.index.result.now (omega (arith, c.self.inside.marks.ok.0)) (sym c.index.ensures ∙ c.if-not-index.true) in
    omega (arith, free, c.self.inside.items.ok.0)

pub invariant_of-self : goal.invariant_of-self
invariant_of-self c = grind (arith, common_steps) steps 2000000
