use Rattle.partial_memory.proofs.{Common.{newcomer, first_dealt, others_left, made_next, ℕ, rules, [], ◌∷◌, ◌≡◌, ◌+◌, ap, ◌∙◌, List, Me, TableId, IsLayout, SeatedPort, one_in, port_view}, Opens.rests_new, Views.deals}
use Rattle.partial_memory.proofs.memory.deal.Goals as goal

pub split_seat-place-requires : goal.split_seat-place-requires
split_seat-place-requires c = (c.loop-number.invariant.table, c.requires.table.1, deals _ _ _)

pub invariant_of-push_reserved : goal.invariant_of-push_reserved
invariant_of-push_reserved c =
    let layout : IsLayout c.args.sizes = search rules in
    let place = ap (λ (m : Me (Unit {0}) (List SeatedPort)). m.0) c.split_seat-place.ensures.4 in
    let here = c.into_badge.ensures.1 ∙ ap (λ (v : List SeatedPort). v ∷ []) place in
    let first = first_dealt (newcomer c.args.words.now.key) _ _ c.loop-number-test.true _ c.loop-number.invariant.parts in
    rests_new _ _ _ first _ _ _ layout here c.in_ok-core.ensures c.requires.sizes

pub loop-number-preserved : goal.loop-number-preserved
loop-number-preserved c =
    let split = c.split_seat-place.ensures in
    let inv = c.loop-number.invariant in
    let new = newcomer c.args.words.now.key in
    let first = first_dealt new _ _ c.loop-number-test.true _ inv.parts in
    let left = others_left new _ _ c.loop-number-test.true _ inv.parts _ _ split.2 inv.none in
    let place = ap (λ (m : Me (Unit {0}) (List SeatedPort)). m.0) split.4 in
    let here : c.into_badge.result.table_id ≡ c.args.words.now.table_id = c.into_badge.ensures.0 ∙ split.3 ∙ inv.table in
    let one = c.into_badge.ensures.1 ∙ ap (λ (v : List SeatedPort). v ∷ []) (place ∙ first) in
    let count = c.into_badge.ensures.2 ∙ split.6 ∙ ap (λ (n : ℕ). n + 1) inv.steps in
    let seen = ap (λ (t : TableId). port_view t c.into_badge.result.steps (one_in c.into_badge.result.views)) here ∙ ap (λ (n : ℕ). port_view c.args.words.now.table_id n (one_in c.into_badge.result.views)) count
    ∙ ap (λ (w : List (List SeatedPort)). port_view c.args.words.now.table_id 1 (one_in w)) one in
    record {
      table = split.0 ∙ inv.table;
      parts = left.0;
      none = left.1;
      steps = split.5;
      made = made_next new _ _ c.loop-number-test.true _ inv.parts (port_view c.args.words.now.table_id 1) _ _ _ _ _ _ inv.made c.push_reserved.ensures.items seen split.2;
      many = search rules;
      room = search rules;
    }
