use Rattle.partial_long_lived.proofs.{Common.{newcomer, first_dealt, others_left, made_next, CoreState, rules, ◌≡◌, ◌+◌, ◌<◌, ℕ, refl, ap, sym, ◌∙◌, subst, List, Me, TableId, base, Plan, SeatedPort, one_of, port_view}, NewPorts.rests_new, Meets.deals}
use Rattle.partial_long_lived.proofs.long_lived.deal.Goals as goal

pub split_seat-token-requires : goal.split_seat-token-requires
split_seat-token-requires c = (c.loop-number.invariant.table, search rules, deals _ _ _)

pub invariant_of-push_reserved : goal.invariant_of-push_reserved
invariant_of-push_reserved c =
    let inv = c.loop-number.invariant in
    let shape = c.requires.shape in
    let opened = c.requires.opened in
    let low = subst (λ (n : ℕ). c.loop-number.number < n) (sym (ap (λ (e : Plan). e.ports) shape)) c.loop-number-test.true in
    let first = c.base-base.ensures ∙ ap (λ e. base e 0) (sym shape) in
    let count = ap (λ (t : TableId). t.words) (c.split_seat-token.ensures.3 ∙ inv.table) ∙ opened.count in (
      rests_new _ _ _ (first_dealt (newcomer c.args.words.now.key) _ _ c.loop-number-test.true _ inv.parts) _ opened.opens low _ _ _ count c.split_seat-token.ensures.4 shape refl refl refl first refl _ c.ahead.ensures.few (c.claim_ahead.ensures ∙ ap (λ (s : CoreState). record s { ahead = c.ahead.result }) c.in_ok-core.ensures)
          (ap (λ (e : Plan). e.sizes) shape),
      search rules,
    )

pub loop-number-preserved : goal.loop-number-preserved
loop-number-preserved c =
    let split = c.split_seat-token.ensures in
    let inv = c.loop-number.invariant in
    let new = newcomer c.args.words.now.key in
    let first = first_dealt new _ _ c.loop-number-test.true _ inv.parts in
    let left = others_left new _ _ c.loop-number-test.true _ inv.parts _ _ split.2 inv.none in
    let place = ap (λ (m : Me (Unit {0}) (List SeatedPort)). m.0) split.4 ∙ first in
    let here : c.split_seat-token.result.table_id ≡ c.args.words.now.table_id = split.3 ∙ inv.table in
    let seen = ap (λ (t : TableId). port_view t c.split_seat-token.result.steps (one_of c.split_seat-token.result.me.0)) here ∙ ap (λ (n : ℕ). port_view c.args.words.now.table_id n (one_of c.split_seat-token.result.me.0)) (split.6 ∙ ap (λ (n : ℕ). n + 1) inv.steps)
    ∙ ap (λ (w : List SeatedPort). port_view c.args.words.now.table_id 1 (one_of w)) place in
    record {
      table = split.0 ∙ inv.table;
      parts = left.0;
      none = left.1;
      steps = split.5;
      made = made_next new _ _ c.loop-number-test.true _ inv.parts (port_view c.args.words.now.table_id 1) _ _ _ _ _ _ inv.made c.push_reserved.ensures.items seen split.2;
      many = search rules;
      room = search rules;
    }
