use Rattle.partial_long_lived.specs.Options.{claimed_pool}
use Rattle.partial_long_lived.proofs.{Common.{ℕ, length, refl, sym, ap, ◌+◌, ◌∙◌, subst, AllByRecursion, About, first_free, pool_base, newcomers, new_ports, IsShapeOf, IsOf}, NewPorts.new_own}
use Rattle.partial_long_lived.proofs.long_lived.LongLived.open.Goals as goal

pub deal-requires-clause-shape : goal.deal-requires-clause-shape
deal-requires-clause-shape c = subst (IsShapeOf c.in_ok-shape.shape) (sym c.in_ok-table.ensures.about) refl

pub returns-clause-sizes : goal.returns-clause-sizes
returns-clause-sizes c = ap (λ (a : About). a.sizes) c.in_ok-table.ensures.about ∙ c.in_ok-shape.ensures.ok.sizes

pub returns-clause-limit : goal.returns-clause-limit
returns-clause-limit c =
    let is = c.in_ok-table.ensures.about in
    ap (λ (a : About). a.limit) is ∙ c.in_ok-shape.ensures.ok.limit ∙ ap (λ (a : About). first_free a.sizes + claimed_pool (length c.args.initial.now) c.args.ports c.args.options) (sym is)

pub returns-clause-about : goal.returns-clause-about
returns-clause-about c =
    let is = c.in_ok-table.ensures.about in
    let shape = c.in_ok-shape.ensures.ok in
    (ap (λ (a : About). a.ports) is ∙ shape.ports, ap (λ (a : About). a.arenas) is ∙ shape.arenas)

pub returns-clause-announces : goal.returns-clause-announces
returns-clause-announces c = ap (λ (a : About). a.announces) c.in_ok-table.ensures.about ∙ c.in_ok-shape.ensures.ok.announces

pub returns-clause-values : goal.returns-clause-values
returns-clause-values c = ap (λ (a : About). a.opening.values) c.in_ok-table.ensures.about

pub returns-clause-first : goal.returns-clause-first
returns-clause-first c =
    let is = c.in_ok-table.ensures.about in
    ap (λ (a : About). a.opening.first) is ∙ ap (λ (a : About). pool_base a.sizes) (sym is)

pub returns-clause-ports : goal.returns-clause-ports
returns-clause-ports c = c.in_ok-all.ensures ∙ ap (λ (n : ℕ). new_ports c.in_ok-table.table.table_id (newcomers c.in_ok-table.table.key 0 n)) c.in_ok-shape.ensures.ok.ports

pub returns-clause-own : goal.returns-clause-own
returns-clause-own c = subst (AllByRecursion (IsOf _)) (sym c.in_ok-all.ensures) (new_own c.in_ok-table.table.table_id c.in_ok-table.table.key 0 _)
