-- The chains of a closed memory, read from its words.
use Rattle.partial_memory.proofs.Common.{ℕ, zero, suc, ◌≡◌, ◌+◌, ◌≢◌, ◌<◌, ◌≤◌, ◌++◌, ◌⊎◌, Bool, true, false, List, [], ◌∷◌, length, map, slice_index_or, slice_index, refl, sym, ap, subst, ◌∙◌, inl, inr, arith, append_assoc, append-nil, length-append, AllByRecursion, list_any, eqb-true, false≢true, ltb-false, ltb-true, ne_eqb, or_cases, nat_lt, get_or_append_left, get_or_push, length-map, length_push, some, some-injective, some-ne-none, get_elem?, Applied, Opening, all_map, all_weaker, IsLink, chain_of, Layout, RecordsAreWithin, IsWholeChain, AreValues, AreChains, AreChainsFrom}
use Rattle.std.specs.{List.IsDistinct, Prelude.{nat_eq, ◌==◌}}
use Rattle.std.specs.declared.alloc.Global.{Global}
use Rattle.std.specs.declared.vec.Vec.{Vec}
use Rattle.std.proofs.lemmas.Map.{Keys.IsDistinct-cons, Steps.length-le_from_distinct_below}
use Rattle.partial_model.specs.History.{HaveDistinctStamps, value_of as value_after}
use Rattle.partial_words.specs.declared.record.Link.{Link}
use Rattle.partial_words.specs.Record.{prev_of, record_value, view_word}
use Rattle.partial_words.proofs.ChainLemmas.{chain_all, chain_count, chain_head}

-- a word of a closed table
pub elem_or : (ws : List ℕ) (k x : ℕ) → get_elem? ws k ≡ some x → slice_index ws k ≡ x
elem_or [] k x e = absurd (some-ne-none x (sym e))
elem_or (w ∷ ws) zero x e = some-injective w x e
elem_or (w ∷ ws) (suc k) x e = elem_or ws k x e

link_same : (a b : Link) → a.stamp ≡ b.stamp → a.value ≡ b.value → a ≡ b
link_same a b s v = ap (λ n. record { stamp = n; value = a.value }) s ∙ ap (λ n. record { stamp = b.stamp; value = n }) v

-- what is left of a chain: nothing at 0, or a whole chain from that word on
abbrev pub IsRest : List ℕ → ℕ → List Link → Type 0
IsRest words at rest = ((at ≡ 0) × (rest ≡ [])) ⊎ IsWholeChain words at rest

-- the first link of a chain, and the rest
record Front (words : List ℕ) (at : ℕ) (links : List Link) : Type 0 where
  pub first : Link
  pub rest : List Link
  pub is : links ≡ first ∷ rest
  pub link : IsLink words at first
  pub stands : 0 < first.stamp
  pub goes : IsRest words (prev_of words at) rest

front : (words : List ℕ) (at : ℕ) (links : List Link) → IsWholeChain words at links → Front words at links
front words at [] w = absurd w.chain
front words at (l ∷ []) w = record { first = l; rest = []; is = refl; link = w.chain.0; stands = w.stands.0; goes = inl (w.chain.1, refl) }
front words at (l ∷ k ∷ ls) w = record { first = l; rest = k ∷ ls; is = refl; link = w.chain.0; stands = w.stands.0; goes = inr (record { chain = w.chain.1; stands = w.stands.1 }) }

whole_some : (words : List ℕ) (at : ℕ) (links : List Link) → IsWholeChain words at links → at ≡ 0 → ⊥
whole_some words at links w none =
    let f = front words at links w in
    let stands = f.stands in
    let is = f.link.stamp in
    absurd (omega (arith, stands, is, none))

-- so many links were found of each whole chain from that word, and the rest is at that one
abbrev pub Walked : List ℕ → ℕ → List Link → ℕ → Type 0
Walked words newest found at = (links : List Link) → IsWholeChain words newest links → (rest : List Link) × (links ≡ found ++ rest) × IsRest words at rest

pub walked_none : (words : List ℕ) (newest : ℕ) (found : List Link) → found ≡ [] → Walked words newest found newest
walked_none words newest found none links w = (links, ap (λ l. l ++ links) (sym none), inr w)

pub walked_more : (words : List ℕ) (newest : ℕ) (found : List Link) (at : ℕ) (l : Link) → Walked words newest found at → (at ≡ 0 → ⊥) → l.stamp ≡ at → l.value ≡ record_value words at →
    Walked words newest (found ++ l ∷ []) (prev_of words at)
walked_more words newest found at l walked busy stamp value links w =
    let had = walked links w in
    elim had.2 [
      | inl none ↦ absurd (busy none.0)
      | inr whole ↦
          let f = front words at had.0 whole in
          let same : f.first ≡ l = link_same f.first l (f.link.stamp ∙ sym stamp) (sym f.link.value ∙ sym value) in
          (f.rest, had.1 ∙ ap (λ r. found ++ r) (f.is ∙ ap (λ k. k ∷ f.rest) same) ∙ sym (append_assoc found (l ∷ []) f.rest), f.goes)
    ]

pub walked_all : (words : List ℕ) (newest : ℕ) (found : List Link) (at : ℕ) → Walked words newest found at → at ≡ 0 → (links : List Link) → IsWholeChain words newest links → found ≡ links
walked_all words newest found at walked none links w =
    let had = walked links w in
    elim had.2 [
      | inl over ↦ sym (had.1 ∙ ap (λ r. found ++ r) over.1 ∙ append-nil found)
      | inr whole ↦ absurd (whole_some words at had.0 whole none)
    ]

-- where something is left, its first record stands in the words, and the chain is longer than what was found
pub walked_within : (words : List ℕ) (newest : ℕ) (found : List Link) (at : ℕ) (links : List Link) → Walked words newest found at → (at ≡ 0 → ⊥) → IsWholeChain words newest links →
    (view_word at < length words) × (length found < length links)
walked_within words newest found at links walked busy w =
    let had = walked links w in
    elim had.2 [
      | inl none ↦ absurd (busy none.0)
      | inr whole ↦
          let f = front words at had.0 whole in
          let long : length links ≡ length found + length had.0 = ap length had.1 ∙ length-append found had.0 in
          let one : length had.0 ≡ suc (length f.rest) = ap length f.is in
          (f.link.within, omega (arith, long, one))
    ]

-- a history has no more entries than there are words, since its stamps are distinct numbers of words
stamps_of : List Applied → List ℕ
stamps_of log = map (λ e. e.stamp) log

stamps_distinct : (log : List Applied) → HaveDistinctStamps log → IsDistinct nat_eq (stamps_of log)
unfolding stamps_of IsDistinct
stamps_distinct [] w = tt
stamps_distinct (e ∷ log) w =
    let other = all_weaker (λ (f : Applied). e.stamp ≢ f.stamp) (λ (f : Applied). nat_eq e.stamp f.stamp ≡ false) (λ f apart. ne_eqb e.stamp f.stamp apart) log w.0 in
    IsDistinct-cons nat_eq e.stamp (stamps_of log) (all_map (λ y. nat_eq e.stamp y ≡ false) (λ f. f.stamp) log other) (stamps_distinct log w.1)

stamps_below : (n : ℕ) (log : List Applied) → AllByRecursion (λ e. e.stamp < n) log → (q : ℕ) → list_any (nat_eq q) (stamps_of log) ≡ true → q < n
unfolding stamps_of
stamps_below n [] w q e = absurd (false≢true e)
stamps_below n (x ∷ log) w q e =
    let below = w.0 in
    elim (or_cases (q == x.stamp) (list_any (nat_eq q) (stamps_of log)) e) [
      | inl here ↦ let same = eqb-true q x.stamp here in omega (arith, below, same)
      | inr there ↦ stamps_below n log w.1 q there
    ]

entries_few : (z : Layout) (o : Opening) (words : List ℕ) (log : List Applied) → RecordsAreWithin z o words log → length log ≤ length words
unfolding stamps_of
entries_few z o words log r =
    let below : AllByRecursion (λ (e : Applied). e.stamp < length words) log =
    all_weaker (λ (e : Applied). (z.m ≤ e.stamp) × (view_word e.stamp < length words)) (λ (e : Applied). e.stamp < length words) (λ e w. let within = w.1 in omega (arith, within)) log r.entries in
    let few = length-le_from_distinct_below (stamps_of log) (length words) (stamps_distinct log r.history.distinct) (stamps_below (length words) log below) in
    let same : length (stamps_of log) ≡ length log = length-map log (λ (e : Applied). e.stamp) in
    omega (arith, few, same)

-- the chain of a component is whole, and has no more links than there are words, and one
pub whole_chain : (z : Layout) (o : Opening) (words : List ℕ) (log : List Applied) → RecordsAreWithin z o words log → (j : ℕ) → j < z.m →
    IsWholeChain words (slice_index words j) (chain_of o j log) × (length (chain_of o j log) ≤ length words + 1)
whole_chain z o words log r j below =
    let values = r.values in
    let m = r.sizes.components in
    let low : AllByRecursion (λ (e : Applied). 0 < e.stamp) log =
    all_weaker (λ (e : Applied). (z.m ≤ e.stamp) × (view_word e.stamp < length words)) (λ (e : Applied). 0 < e.stamp) (λ e w. let above = w.0 in omega (arith, above, m.0)) log r.entries in
    let first = r.initial j below in
    let agrees = r.agrees j (omega (arith, below, values)) in
    let count = chain_count o j log in
    let few = entries_few z o words log r in
    (record { chain = agrees.1; stands = chain_all (λ n. 0 < n) o j log low (omega (arith, first.0, m.0)) }, omega (arith, count, few))

-- one component more
pub values_more : (o : Opening) (log : List Applied) (j : ℕ) (values more : List ℕ) (v : ℕ) → AreValues o log j values → more ≡ values ++ v ∷ [] → v ≡ value_after o log j →
    AreValues o log (j + 1) more
values_more o log j values more v w is value = record {
  count = let count = w.count in let one = length_push values v in let long = ap length is in omega (arith, count, one, long);
  each = λ k below. subst (λ (l : List ℕ). slice_index l k ≡ value_after o log k) (sym is) (values_at k below (nat_lt k j) refl);
}
  where
    values_at : (k : ℕ) → k < j + 1 → (b : Bool) → nat_lt k j ≡ b → slice_index (values ++ v ∷ []) k ≡ value_after o log k
    values_at k below true e =
        let less = ltb-true k j e in
        let count = w.count in
        get_or_append_left values (v ∷ []) 0 k (omega (arith, less, count)) ∙ w.each k less
    values_at k below false e =
        let more = ltb-false k j e in
        let same : k ≡ j = omega (arith, below, more) in
        get_or_push values v 0 k (w.count ∙ sym same) ∙ value ∙ ap (value_after o log) (sym same)

chains_from : (o : Opening) (log : List Applied) (j : ℕ) (chains : List (Vec Link Global)) (c : Vec Link Global) → AreChainsFrom o log j chains → c.items ≡ chain_of o (j + length chains) log →
    AreChainsFrom o log j (chains ++ c ∷ [])
chains_from o log j [] c w is = (subst (λ k. c.items ≡ chain_of o k log) (omega arith) is, tt)
chains_from o log j (d ∷ ds) c w is = (w.0, chains_from o log (suc j) ds c w.1 (subst (λ k. c.items ≡ chain_of o k log) (omega arith) is))

pub chains_more : (o : Opening) (log : List Applied) (j : ℕ) (chains more : List (Vec Link Global)) (c : Vec Link Global) → AreChains o log j chains → more ≡ chains ++ c ∷ [] →
    c.items ≡ chain_of o j log → AreChains o log (j + 1) more
chains_more o log j chains more c w is chain =
    let count = w.count in
    record {
      count = let one = length_push chains c in let long = ap length is in omega (arith, count, one, long);
      each = subst (AreChainsFrom o log 0) (sym is) (chains_from o log 0 chains c w.each (subst (λ k. c.items ≡ chain_of o k log) (omega (arith, count)) chain));
    }

-- the newest link of a component has its value
pub first_value : (o : Opening) (log : List Applied) (j : ℕ) (links : List Link) (l : Link) → links ≡ chain_of o j log → l ≡ slice_index_or links 0 l → l.value ≡ value_after o log j
first_value o log j links l is first =
    let h = chain_head o j log in
    ap (λ (k : Link). k.value) (first ∙ ap (λ (ls : List Link). slice_index_or ls 0 l) (is ∙ h.1))

pub links_some : (o : Opening) (log : List Applied) (j : ℕ) (links : List Link) → links ≡ chain_of o j log → 0 < length links
links_some o log j links is = let h = chain_head o j log in let long = ap length (is ∙ h.1) in omega (arith, long)
