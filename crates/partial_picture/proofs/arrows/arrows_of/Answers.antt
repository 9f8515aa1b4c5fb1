use Rattle.std.proofs.Common.{rules, tests, IfOk, ap, ◌≡◌, ◌∙◌, ℕ, Option}
use Rattle.std.proofs.lemmas.Iterator.{YieldsList-from_slice, items_from_collect}
use Rattle.std.proofs.lemmas.Iterator.Consumers.{YieldsList-from_filter_map}
use Rattle.std.proofs.lemmas.Result.{IfOk-weaker}
use Rattle.std.specs.BTreeMap.{get}
use Rattle.std.specs.List.{filter_map}
use Rattle.std.specs.Ordering.{nat_cmp}
use Rattle.partial_picture.specs.Arrows.{arrow_of, entry_step}
use Rattle.partial_picture.proofs.arrows.arrows_of.Goals as goal

pub returns-clause-items : goal.returns-clause-items
returns-clause-items c =
    let m = c.args.m in
    let window = c.args.window in
    let trace = c.args.outcome.now.trace.items in
    let steps = entry_step c.args.outcome.now.history.items c.args.entries.now in
    let found = get nat_cmp c.in_ok-by_stamp.by_stamp in
    let known : (stamp : ℕ) → found stamp ≡ steps stamp = search (rules, tests) in
    let same : found ≡ steps = λ i stamp. known stamp i in
    let road : IfOk c.collect.result (λ arrows. arrows.items ≡ filter_map (arrow_of m window trace found) c.args.made.now) =
    items_from_collect _ c.collect.ensures.ran (YieldsList-from_filter_map _ _ (YieldsList-from_slice c.args.made.now cc) c.filter_map.ensures.closure (λ x r q k. search (rules, tests))) in
    IfOk-weaker c.collect.result _ _ (λ arrows is. is ∙ ap (λ (e : ℕ → Option ℕ). filter_map (arrow_of m window trace e) c.args.made.now) same) road
