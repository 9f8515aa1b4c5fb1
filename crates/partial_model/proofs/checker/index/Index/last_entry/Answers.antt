use Rattle.partial_model.proofs.{Common.{ℕ, ◌<◌, nat_lt, length, List, sym, subst, rules, arith, ArePlacesOf}, IndexLaws.{Parts, parts_at, nothing_last, last_listed}}
use Rattle.std.proofs.lemmas.List.Sorted.{IsPartitionPoint-from_clause, IsPartitionedBy-ltb, IsNonDecreasingBy-from_default}
use Rattle.partial_model.proofs.checker.index.Index.last_entry.Goals as goal

pub returns-then-count-eq0 : goal.returns-then-count-eq0
returns-then-count-eq0 c =
    let ls : List ℕ = c.places_for-places.result.now in
    let w : ArePlacesOf c.args.history.now (length c.args.history.now) c.args.component ls = subst (ArePlacesOf c.args.history.now (length c.args.history.now) c.args.component)
    (sym c.places_for-places.ensures) (c.requires.index.places c.args.component) in
    let parted = IsPartitionedBy-ltb (λ (x : ℕ). x) ls c.args.prefix (IsNonDecreasingBy-from_default (λ (x : ℕ). x) ls 0 w.rises) in
    let point = IsPartitionPoint-from_clause (λ p. nat_lt p c.args.prefix) ls c.partition_point-count.result c.partition_point-count.ensures.partitioned parted (λ a r q k. search rules) in
    let parts : Parts ls 0 c.args.prefix = subst (λ (i : ℕ). Parts ls i c.args.prefix) c.if-count-eq0.true (parts_at ls c.partition_point-count.result c.args.prefix point) in
    sym (nothing_last c.args.history.now c.args.component c.args.prefix ls w parts c.requires.prefix)

pub returns-else-count-eq0 : goal.returns-else-count-eq0
returns-else-count-eq0 c =
    let ls : List ℕ = c.places_for-places.result.now in
    let w : ArePlacesOf c.args.history.now (length c.args.history.now) c.args.component ls = subst (ArePlacesOf c.args.history.now (length c.args.history.now) c.args.component)
    (sym c.places_for-places.ensures) (c.requires.index.places c.args.component) in
    let parted = IsPartitionedBy-ltb (λ (x : ℕ). x) ls c.args.prefix (IsNonDecreasingBy-from_default (λ (x : ℕ). x) ls 0 w.rises) in
    let point = IsPartitionPoint-from_clause (λ p. nat_lt p c.args.prefix) ls c.partition_point-count.result c.partition_point-count.ensures.partitioned parted (λ a r q k. search rules) in
    let some : 0 < c.partition_point-count.result = omega arith in
    sym (last_listed c.args.history.now c.args.component c.args.prefix c.partition_point-count.result ls _ w (parts_at ls c.partition_point-count.result c.args.prefix point) c.requires.prefix some
    c.partition_point-count.ensures.bound)
