-- Chains of records: what a step elsewhere leaves of them, what one entry more adds, and what they hold.
use Rattle.partial_words.proofs.Common.{◌≤◌, ℕ, zero, suc, ◌≡◌, ◌+◌, ◌<◌, ◌==◌, ◌++◌, ◌⊎◌, Bool, true, false, if◌then◌else◌, List, [], ◌∷◌, length, take, slice_index, slice_get, refl, sym, ◌∙◌, ap, subst, inl, inr, Option, Some, None, arith, eq-eqb, AllByRecursion, Opening, view_word, prev_of, record_value}
use Rattle.std.proofs.lemmas.List.{take_all}
use Rattle.std.specs.Option.{option_map_or}
use Rattle.partial_model.specs.declared.history.Applied.{Applied}
use Rattle.partial_model.specs.History.{last_from, initial_stamp, stamp_of, value_of as value_after}
use Rattle.partial_model.proofs.HistoryLemmas.{stamp_of-push}
use Rattle.partial_words.specs.declared.record.Link.{Link}
use Rattle.partial_words.specs.Chain.{IsLink, IsChain, links_from, chain_of, Agrees, LastEntriesHeadChains, LieWithin}

-- a record before a chain is a chain
pub chain_cons : (words : List ℕ) (at prev : ℕ) (l : Link) (links : List Link) → IsLink words at l → prev_of words at ≡ prev → IsChain words prev links → IsChain words at (l ∷ links)
chain_cons words at prev l [] here before c = absurd c
chain_cons words at prev l (k ∷ ls) here before c = (here, subst (λ n. IsChain words n (k ∷ ls)) (sym before) c)

-- the chain with one entry more
pub links_from-push : (found : List Link) (j : ℕ) (h : List Applied) (e : Applied) → links_from found j (h ++ e ∷ []) ≡ (if e.component == j
    then (record { stamp = e.stamp; value = e.value } ∷ links_from found j h) else links_from found j h)
unfolding links_from
links_from-push found j [] e = refl
links_from-push found j (x ∷ h) e = links_from-push (if x.component == j then (record { stamp = x.stamp; value = x.value } ∷ found) else found) j h e

no_links : (found : List Link) (j : ℕ) → links_from found j [] ≡ found
unfolding links_from
no_links found j = refl

pub last_entries_head_chains : LastEntriesHeadChains
last_entries_head_chains = record {
  entry = λ o j h e. links_from-push (record { stamp = initial_stamp o j; value = slice_index o.values j } ∷ []) j h e;
  none = λ o j. no_links (record { stamp = initial_stamp o j; value = slice_index o.values j } ∷ []) j;
}

-- what holds of each entry's stamp and of the links before holds of each link
links_all_step : (P : ℕ → Type 0) (found : List Link) (x : Applied) (b : Bool) → P x.stamp → AllByRecursion (λ l. P l.stamp) found →
    AllByRecursion (λ l. P l.stamp) (if b then (record { stamp = x.stamp; value = x.value } ∷ found) else found)
links_all_step P found x true p w = (p, w)
links_all_step P found x false p w = w

pub links_all : (P : ℕ → Type 0) (found : List Link) (j : ℕ) (h : List Applied) → AllByRecursion (λ (e : Applied). P e.stamp) h → AllByRecursion (λ (l : Link). P l.stamp) found →
    AllByRecursion (λ (l : Link). P l.stamp) (links_from found j h)
unfolding links_from
links_all P found j [] all w = w
links_all P found j (x ∷ h) all w = links_all P (if x.component == j then (record { stamp = x.stamp; value = x.value } ∷ found)
    else found) j h all.1 (links_all_step P found x (x.component == j) all.0 w)

pub chain_all : (P : ℕ → Type 0) (o : Opening) (j : ℕ) (h : List Applied) → AllByRecursion (λ (e : Applied). P e.stamp) h → P (initial_stamp o j) →
    AllByRecursion (λ (l : Link). P l.stamp) (chain_of o j h)
chain_all P o j h all first = links_all P (record { stamp = initial_stamp o j; value = slice_index o.values j } ∷ []) j h all (first, tt)

-- the link is one of the links
Among : Link → List Link → Type 0
Among l [] = ⊥
Among l (x ∷ xs) = (x ≡ l) ⊎ Among l xs

among_step : (l : Link) (found : List Link) (x : Link) (b : Bool) → Among l found → Among l (if b then x ∷ found else found)
unfolding Among
among_step l found x true w = inr w
among_step l found x false w = w

among_kept : (l : Link) (found : List Link) (j : ℕ) (h : List Applied) → Among l found → Among l (links_from found j h)
unfolding links_from
among_kept l found j [] w = w
among_kept l found j (x ∷ h) w = among_kept l (if x.component == j then (record { stamp = x.stamp; value = x.value } ∷ found) else found) j h
    (among_step l found (record { stamp = x.stamp; value = x.value }) (x.component == j) w)

among_later : (l : Link) (found : List Link) (j : ℕ) (h : List Applied) (a : ℕ) → Among l (links_from found j (take a h)) → Among l (links_from found j h)
unfolding links_from
among_later l found j h zero w = among_kept l found j h w
among_later l found j [] (suc a) w = w
among_later l found j (x ∷ h) (suc a) w = among_later l (if x.component == j then (record { stamp = x.stamp; value = x.value } ∷ found) else found) j h a w

-- the newest link is the last entry's
newest : Opening → ℕ → Option Applied → Link
newest o j found = record { stamp = option_map_or (λ (e : Applied). e.stamp) found (initial_stamp o j); value = option_map_or (λ (e : Applied). e.value) found (slice_index o.values j) }

newest_step : (o : Opening) (j : ℕ) (found : Option Applied) (links : List Link) (x : Applied) (b : Bool) → ((ls : List Link) × (links ≡ newest o j found ∷ ls)) → (ls : List Link) ×
    ((if b then (record { stamp = x.stamp; value = x.value } ∷ links) else links) ≡ newest o j (if b then Some x else found) ∷ ls)
unfolding newest
newest_step o j found links x true w = (links, refl)
newest_step o j found links x false w = w

newest_leads : (o : Opening) (j : ℕ) (h : List Applied) (found : Option Applied) (links : List Link) → ((ls : List Link) × (links ≡ newest o j found ∷ ls)) → (ls : List Link) ×
    (links_from links j h ≡ newest o j (last_from found j h) ∷ ls)
unfolding links_from last_from
newest_leads o j [] found links w = w
newest_leads o j (x ∷ h) found links w = newest_leads o j h (if x.component == j then Some x else found) (if x.component == j then (record { stamp = x.stamp; value = x.value } ∷ links) else links)
    (newest_step o j found links x (x.component == j) w)

newest_first : (o : Opening) (j : ℕ) (h : List Applied) → (ls : List Link) × (chain_of o j h ≡ newest o j (last_from None j h) ∷ ls)
unfolding newest
newest_first o j h = newest_leads o j h None (record { stamp = initial_stamp o j; value = slice_index o.values j } ∷ []) ([], refl)

-- it has the stamp and the value of the component
pub chain_head : (o : Opening) (j : ℕ) (h : List Applied) → (ls : List Link) × (chain_of o j h ≡ record { stamp = stamp_of o h j; value = value_after o h j } ∷ ls)
unfolding newest
chain_head o j h = newest_first o j h

-- a chain has no more links than the history has entries, and the initial one
links_count_step : (found : List Link) (x : Link) (b : Bool) → length (if b then x ∷ found else found) ≤ length found + 1
links_count_step found x true = omega arith
links_count_step found x false = omega arith

links_count : (found : List Link) (j : ℕ) (h : List Applied) → length (links_from found j h) ≤ length found + length h
unfolding links_from
links_count found j [] = omega arith
links_count found j (x ∷ h) =
    let now : List Link = (if x.component == j then (record { stamp = x.stamp; value = x.value } ∷ found) else found) in
    let one = links_count_step found (record { stamp = x.stamp; value = x.value }) (x.component == j) in
    let rest = links_count now j h in
    omega (arith, one, rest)

pub chain_count : (o : Opening) (j : ℕ) (h : List Applied) → length (chain_of o j h) ≤ length h + 1
chain_count o j h = let count = links_count (record { stamp = initial_stamp o j; value = slice_index o.values j } ∷ []) j h in omega (arith, count)

newest_among : (o : Opening) (j : ℕ) (h : List Applied) → Among (newest o j (last_from None j h)) (chain_of o j h)
unfolding Among
newest_among o j h = let w = newest_first o j h in subst (Among (newest o j (last_from None j h))) (sym w.1) (inl refl)

-- a link stands at its own stamp
own_link : (words : List ℕ) (at : ℕ) (k l : Link) → k ≡ l → IsLink words at k → IsLink words l.stamp l
own_link words at k l same c = subst (λ (x : Link). IsLink words x.stamp x) same (subst (λ n. IsLink words n k) (sym c.stamp) c)

-- each link of a chain stands in the words
link_stands : (words : List ℕ) (at : ℕ) (links : List Link) (l : Link) → IsChain words at links → Among l links → IsLink words l.stamp l
unfolding Among
link_stands words at [] l c w = absurd w
link_stands words at (k ∷ []) l c (inl same) = own_link words at k l same c.0
link_stands words at (k ∷ []) l c (inr w) = absurd w
link_stands words at (k ∷ m ∷ ls) l c (inl same) = own_link words at k l same c.0
link_stands words at (k ∷ m ∷ ls) l c (inr w) = link_stands words (prev_of words at) (m ∷ ls) l c.1 w

-- the record of each stamp that a component has had stands in the words
stamp_stands : (o : Opening) (words : List ℕ) (h : List Applied) (j a : ℕ) → Agrees o words h → j < length o.values → IsLink words (stamp_of o (take a h) j)
    (record { stamp = stamp_of o (take a h) j; value = value_after o (take a h) j })
unfolding newest
stamp_stands o words h j a agrees below =
    link_stands words (slice_index words j) (chain_of o j h) (newest o j (last_from None j (take a h))) (agrees j below).1
    (among_later (newest o j (last_from None j (take a h))) (record { stamp = initial_stamp o j; value = slice_index o.values j } ∷ []) j h a (newest_among o j (take a h)))

-- after each stamp that a component has had is the value that it had with it
pub value_behind_stamp : (o : Opening) (words : List ℕ) (h : List Applied) (j a : ℕ) → Agrees o words h → j < length o.values →
    record_value words (stamp_of o (take a h) j) ≡ value_after o (take a h) j
value_behind_stamp o words h j a agrees below = (stamp_stands o words h j a agrees below).value

-- the record of each stamp that a component has had lies within the words
record_within : (o : Opening) (words : List ℕ) (h : List Applied) (j a : ℕ) → Agrees o words h → j < length o.values → view_word (stamp_of o (take a h) j) < length words
record_within o words h j a agrees below = (stamp_stands o words h j a agrees below).within

-- the older part of a chain is a chain
older_chain : (words : List ℕ) (at : ℕ) (l : Link) (found : List Link) (j : ℕ) (h : List Applied) → IsChain words at (links_from (l ∷ found) j h) → (from : ℕ) × IsChain words from (l ∷ found)
unfolding links_from
older_chain words at l found j [] c = (at, c)
older_chain words at l found j (x ∷ h) c = step (x.component == j) (older_chain words at (record { stamp = x.stamp; value = x.value }) (l ∷ found) j h) (older_chain words at l found j h) c
  where
    step : (b : Bool) → (IsChain words at (links_from (record { stamp = x.stamp; value = x.value } ∷ l ∷ found) j h) → (from : ℕ) ×
        IsChain words from (record { stamp = x.stamp; value = x.value } ∷ l ∷ found)) → (IsChain words at (links_from (l ∷ found) j h) → (from : ℕ) × IsChain words from (l ∷ found)) →
        IsChain words at (links_from (if b then (record { stamp = x.stamp; value = x.value } ∷ l ∷ found) else l ∷ found) j h) → (from : ℕ) × IsChain words from (l ∷ found)
    step true one none c = let more = one c in (prev_of words more.0, more.1.1)
    step false one none c = none c

-- the chain after the first n entries is a part of the chain
chain_then : (words : List ℕ) (at : ℕ) (l : Link) (found : List Link) (j n : ℕ) (h : List Applied) → IsChain words at (links_from (l ∷ found) j h) → (from : ℕ) ×
    IsChain words from (links_from (l ∷ found) j (take n h))
unfolding links_from
chain_then words at l found j zero h c = older_chain words at l found j h c
chain_then words at l found j (suc n) [] c = (at, c)
chain_then words at l found j (suc n) (x ∷ h) c = step (x.component == j) (chain_then words at (record { stamp = x.stamp; value = x.value }) (l ∷ found) j n h) (chain_then words at l found j n h) c
  where
    Then : List Link → Type 0
    Then links = IsChain words at (links_from links j h) → (from : ℕ) × IsChain words from (links_from links j (take n h))

    step : (b : Bool) → Then (record { stamp = x.stamp; value = x.value } ∷ l ∷ found) → Then (l ∷ found) → Then (if b then (record { stamp = x.stamp; value = x.value } ∷ l ∷ found) else l ∷ found)
    step true one none = one
    step false one none = none

-- the first two records of a chain
first_two : (words : List ℕ) (at : ℕ) (l k : Link) (ls : List Link) → IsChain words at (l ∷ k ∷ ls) → prev_of words l.stamp ≡ k.stamp
first_two words at l k [] c = ap (prev_of words) c.0.stamp ∙ sym c.1.0.stamp
first_two words at l k (m ∷ ls) c = ap (prev_of words) c.0.stamp ∙ sym c.1.0.stamp

take_one : (h : List Applied) (k : ℕ) (e : Applied) → slice_get h k ≡ Some e → take (suc k) h ≡ take k h ++ e ∷ []
take_one [] k e s = let bad : None ≡ Some e = s in cc
take_one (x ∷ h) zero e s = let is : x ≡ e = cc in ap (λ (y : Applied). y ∷ []) is
take_one (x ∷ h) (suc k) e s = ap (λ l. x ∷ l) (take_one h k e s)

-- before each entry's record stands the stamp that its component had before
pub prev_before_entry : (o : Opening) (words : List ℕ) (h : List Applied) (k : ℕ) (e : Applied) → Agrees o words h → e.component < length o.values → slice_get h k ≡ Some e →
    prev_of words e.stamp ≡ stamp_of o (take k h) e.component
unfolding newest
prev_before_entry o words h k e agrees below stands =
    let j = e.component in
    let initial : Link = record { stamp = initial_stamp o j; value = slice_index o.values j } in
    let part = chain_then words (slice_index words j) initial [] j (k + 1) h (agrees j below).1 in
    let next : k + 1 ≡ suc k = omega arith in
    let one_more : take (k + 1) h ≡ take k h ++ e ∷ [] = ap (λ n. take n h) next ∙ take_one h k e stands in
    let links : chain_of o j (take (k + 1) h) ≡ record { stamp = e.stamp; value = e.value } ∷ chain_of o j (take k h) = ap (chain_of o j) one_more ∙ links_from-push (initial ∷ []) j
    (take k h) e ∙ ap (λ b. if b then (record { stamp = e.stamp; value = e.value } ∷ chain_of o j (take k h)) else chain_of o j (take k h)) (eq-eqb j j refl) in
    let first = newest_first o j (take k h) in
    first_two words part.0 (record { stamp = e.stamp; value = e.value }) (newest o j (last_from None j (take k h))) first.0
    (subst (IsChain words part.0) (links ∙ ap (λ ls. record { stamp = e.stamp; value = e.value } ∷ ls) first.1) part.1)

-- the records of the components, of the entries, and those before them lie within the words
pub records_within : (o : Opening) (words : List ℕ) (h : List Applied) → Agrees o words h → LieWithin o words h
records_within o words h agrees = record {
  components = λ j below.
      let now : slice_index words j ≡ stamp_of o (take (length h) h) j = (agrees j below).0 ∙ ap (λ (l : List Applied). stamp_of o l j) (sym (take_all (length h) h (omega arith))) in
      let within = record_within o words h j (length h) agrees below in
      omega (arith, now, within);
  entries = λ k e stands below.
      let next : k + 1 ≡ suc k = omega arith in
      let one_more : take (k + 1) h ≡ take k h ++ e ∷ [] = ap (λ n. take n h) next ∙ take_one h k e stands in
      let stamp : stamp_of o (take (k + 1) h) e.component ≡ e.stamp = ap (λ (l : List Applied). stamp_of o l e.component) one_more ∙ stamp_of-push o
      (take k h) e e.component ∙ ap (λ b. if b then e.stamp else stamp_of o (take k h) e.component) (eq-eqb e.component e.component refl) in
      let within = record_within o words h e.component (k + 1) agrees below in
      omega (arith, stamp, within);
  before = λ k e stands below.
      let prev = prev_before_entry o words h k e agrees below stands in
      let within = record_within o words h e.component k agrees below in
      omega (arith, prev, within);
}
