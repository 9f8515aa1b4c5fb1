use Rattle.partial_memory.proofs.{Common.{ap, sym, ◌∙◌, subst, length, slice_index, refl, arith, slots_items, length_push}, Chains.{Walked, elem_or, walked_none, walked_more, walked_all, walked_within}}
use Rattle.partial_memory.proofs.closed.chain.Goals as goal

pub loop-at-init : goal.loop-at-init
loop-at-init c = record { walked = walked_none _ _ _ c.new-links.ensures.items }

pub value_word-requires : goal.value_word-requires
value_word-requires c =
    let within = (walked_within _ _ _ _ _ c.loop-at.invariant.walked c.loop-at-test.true c.requires.chain.1).0 in
    let same = c.requires.count in
    let small = c.requires.full.1 in
    omega (arith, within, same, small)

pub word-value-requires : goal.word-value-requires
word-value-requires c =
    let within = (walked_within _ _ _ _ _ c.loop-at.invariant.walked c.loop-at-test.true c.requires.chain.1).0 in
    let same = c.requires.count in
    let is = c.value_word.ensures in
    (omega (arith, within, same, is), c.requires.full.0)

pub prev_word-requires : goal.prev_word-requires
prev_word-requires c =
    let within = (walked_within _ _ _ _ _ c.loop-at.invariant.walked c.loop-at-test.true c.requires.chain.1).0 in
    let same = c.requires.count in
    let small = c.requires.full.1 in
    omega (arith, within, same, small)

pub word-at-requires : goal.word-at-requires
word-at-requires c =
    let within = (walked_within _ _ _ _ _ c.loop-at.invariant.walked c.loop-at-test.true c.requires.chain.1).0 in
    let same = c.requires.count in
    let is = c.prev_word.ensures in
    (omega (arith, within, same, is), c.requires.full.0)

pub loop-at-preserved : goal.loop-at-preserved
loop-at-preserved c =
    let words = slots_items c.args.words.now.words in
    let value = sym (elem_or words c.value_word.result _ c.word-value.ensures) ∙ ap (λ k. slice_index words k) c.value_word.ensures in
    let prev = sym (ap (λ k. slice_index words k) c.prev_word.ensures) ∙ elem_or words c.prev_word.result _ c.word-at.ensures in
    let more = walked_more words _ _ _ (record { stamp = c.loop-at.at; value = c.word-value.result }) c.loop-at.invariant.walked c.loop-at-test.true refl value in
    record { walked = subst (λ l. Walked words c.args.newest l c.word-at.result) (sym c.in_ok-push.ensures.items) (subst (Walked words c.args.newest _) prev more) }

pub loop-at-smaller : goal.loop-at-smaller
loop-at-smaller c =
    let within = (walked_within _ _ _ _ _ c.loop-at.invariant.walked c.loop-at-test.true c.requires.chain.1).1 in
    let most = c.requires.chain.2 in
    let one = ap length c.in_ok-push.ensures.items ∙ length_push _ _ in
    omega (arith, within, most, one)

pub returns : goal.returns
returns c = walked_all _ _ _ _ c.loop-at.invariant.walked c.loop-at-test.false
