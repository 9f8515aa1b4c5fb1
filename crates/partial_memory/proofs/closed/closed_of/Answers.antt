use Rattle.partial_memory.proofs.{Common.{rules, ◌≡◌, ◌<◌, ◌≤◌, ap, sym, subst, length, arith, slots_items, chain_of, AreChains, AreChainsFrom, AreValues, IsWholeChain}, Chains.{elem_or, whole_chain, values_more, chains_more, first_value, links_some}}
use Rattle.partial_memory.proofs.closed.closed_of.Goals as goal

pub chain-requires-clause-chain : goal.chain-requires-clause-chain
chain-requires-clause-chain c =
    let words = slots_items c.args.words.now.words in
    let r = c.requires.records in
    let test = c.loop-j-test.true in
    let sizes = r.4 in
    let whole = whole_chain r.0 r.1 words r.2 r.3 c.loop-j.j (omega (arith, test, sizes)) in
    let same = c.requires.count in
    let bound = whole.1 in
    (chain_of r.1 c.loop-j.j r.2, subst (λ k. IsWholeChain words k (chain_of r.1 c.loop-j.j r.2)) (elem_or words c.loop-j.j _ c.word.ensures) whole.0, omega (arith, same, bound))

pub index-requires : goal.index-requires
index-requires c =
    let words = slots_items c.args.words.now.words in
    let r = c.requires.records in
    let test = c.loop-j-test.true in
    let sizes = r.4 in
    let whole = whole_chain r.0 r.1 words r.2 r.3 c.loop-j.j (omega (arith, test, sizes)) in
    let links = c.in_ok-links.ensures (chain_of r.1 c.loop-j.j r.2) (subst (λ k. IsWholeChain words k (chain_of r.1 c.loop-j.j r.2)) (elem_or words c.loop-j.j _ c.word.ensures) whole.0) in
    let some : 0 < length c.in_ok-links.links.items = links_some r.1 r.2 c.loop-j.j _ links in
    search rules

pub loop-j-init : goal.loop-j-init
loop-j-init c = record {
  tells = λ z o log r is. (
    record { count = ap length c.in_ok-values.ensures.items; each = λ k below. absurd (omega (arith, below)) },
    record { count = ap length c.in_ok-chains.ensures.items; each = subst (AreChainsFrom o log 0) (sym c.in_ok-chains.ensures.items) tt },
  );
  room = search rules;
  space = search rules;
}

pub loop-j-preserved : goal.loop-j-preserved
loop-j-preserved c =
    let words = slots_items c.args.words.now.words in
    let test = c.loop-j-test.true in
    record {
      tells = λ z o log r is.
          let had = c.loop-j.invariant.tells z o log r is in
          let whole = whole_chain z o words log r c.loop-j.j (omega (arith, test, is)) in
          let links = c.in_ok-links.ensures (chain_of o c.loop-j.j log) (subst (λ k. IsWholeChain words k (chain_of o c.loop-j.j log)) (elem_or words c.loop-j.j _ c.word.ensures) whole.0) in
          let first = first_value o log c.loop-j.j _ _ links c.index.ensures in
          (values_more o log c.loop-j.j _ _ _ had.0 c.push_reserved.ensures.items first, chains_more o log c.loop-j.j _ _ _ had.1 c.push_reserved-in-loop-j.ensures.items links);
      room = search rules;
      space = search rules;
    }

pub push_reserved-requires : goal.push_reserved-requires
push_reserved-requires c =
    let r = c.requires.records in
    let had = c.loop-j.invariant.tells r.0 r.1 r.2 r.3 r.4 in
    let count = had.0.count in
    let room = c.loop-j.invariant.room in
    let test = c.loop-j-test.true in
    search rules

pub push_reserved-requires-in-loop-j : goal.push_reserved-requires-in-loop-j
push_reserved-requires-in-loop-j c =
    let r = c.requires.records in
    let had = c.loop-j.invariant.tells r.0 r.1 r.2 r.3 r.4 in
    let count = had.1.count in
    let room = c.loop-j.invariant.space in
    let test = c.loop-j-test.true in
    search rules

pub returns : goal.returns
returns c =
    let far = c.loop-j-test.false in
    let near : c.loop-j.j ≤ c.args.m = c.loop-j.auto.j-end in
    let end : c.loop-j.j ≡ c.args.m = omega (arith, far, near) in
    λ z o log r is.
    let had = c.loop-j.invariant.tells z o log r is in
    (subst (λ k. AreValues o log k c.loop-j.values.items) end had.0, subst (λ k. AreChains o log k c.loop-j.chains.items) end had.1)
