-- A memory that opens with the values of a closed one goes on where its history ended.
use Rattle.partial_memory.proofs.Common.{ℕ, ◌≡◌, ◌-◌, ◌<◌, ◌≤◌, ◌++◌, Bool, if◌then◌else◌, List, [], ◌∷◌, length, replicate, take, slice_index, refl, sym, ◌∙◌, ap, inl, inr, Option, Some, None, arith, AllByRecursion, ne_eqb, cases_lt, get_or_past, take_all, Applied, Opening, AreValues, ClosedMemoriesContinue, extended_values, with_zeros}
use Rattle.std.specs.Option.{option_map_or}
use Rattle.partial_model.proofs.HistoryLemmas.{behind_both}
use Rattle.partial_model.specs.History.{IsHistory, last_from, last_entry, value_of}
use Rattle.partial_words.proofs.PlainLemmas.{zeros_behind}

-- values to which zeros were added
pub grown_is_extended : (m n : ℕ) (all old values : List ℕ) → all ≡ take m old ++ replicate (m - n) 0 → old ≡ values → n ≡ length values → length values ≤ m → all ≡ extended_values m values
grown_is_extended m n all old values grown same count fits =
    grown ∙ ap (λ (l : List ℕ). take m l ++ replicate (m - n) 0) same ∙ ap (λ (l : List ℕ). l ++ replicate (m - n) 0) (take_all m values fits) ∙ ap (λ (k : ℕ). values ++ replicate (m - k) 0) count

-- the value of the entry found, or the one given
abbrev value_in : Option Applied → ℕ → ℕ
value_in found d = option_map_or (λ (x : Applied). x.value) found d

-- the value after both histories is that after the second one, over the value after the first
value_behind_both : (o : Opening) (log h : List Applied) (j : ℕ) → value_of o (log ++ h) j ≡ value_in (last_entry j h) (value_of o log j)
value_behind_both o log h j = behind_both (λ (x : Applied). x.value) log h j (slice_index o.values j)

-- no entry for a component that isn't there
none_there : (m j : ℕ) (log : List Applied) → m ≤ j → AllByRecursion (λ (e : Applied). e.component < m) log → last_entry j log ≡ None
unfolding last_from
none_there m j [] past all = refl
none_there m j (e ∷ log) past all =
    let other : e.component ≡ j → ⊥ = λ same. absurd (omega (arith, past, all.0, same)) in
    ap (λ (b : Bool). last_from (if b then Some e else None) j log) (ne_eqb e.component j other) ∙ none_there m j log past all.1

-- the value of each component when the memory was closed
closed_value : (values : List ℕ) (o : Opening) (log : List Applied) → IsHistory o log → AreValues o log (length o.values) values → (j : ℕ) → slice_index values j ≡ value_of o log j
closed_value values o log history are j =
    elim (cases_lt j (length o.values)) [
      | inl there ↦ are.each j there
      | inr past ↦
          let none = ap (λ (found : Option Applied). value_in found (slice_index o.values j)) (none_there (length o.values) j log past history.components) in
          let short : length values ≤ j = rw are.count past in
          get_or_past values j 0 short ∙ sym (get_or_past o.values j 0 past) ∙ sym none
    ]

pub closed_memories_continue : ClosedMemoriesContinue
closed_memories_continue values m second opened o log history are h j there =
    let zeros_here = zeros_behind o.values (length second.values - length o.values) j in
    let begin : slice_index second.values j ≡ value_of (with_zeros (length second.values) o) log j =
    ap (λ (l : List ℕ). slice_index l j) opened ∙ zeros_behind values (m - length values) j ∙ closed_value values o log history are j
    ∙ ap (λ (d : ℕ). value_in (last_entry j log) d) (sym zeros_here) in
    ap (λ (d : ℕ). value_in (last_entry j h) d) begin ∙ sym (value_behind_both (with_zeros (length second.values) o) log h j)
