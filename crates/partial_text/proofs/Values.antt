-- The values after a history, entry by entry.
use Rattle.partial_text.proofs.Common.{◌≡◌, ℕ, ◌<◌, ◌≢◌, Bool, true, false, if◌then◌else◌, nat_eq, ◌==◌, List, [], ◌∷◌, length, slice_index, slice_set, Option, None, Some, refl, sym, ◌∙◌, zero-add, arith, option_map_or, eqb-true, eqb-false, get_or-set_same, get_or-set_other, length-set, ext_get_or, values_of}
use Rattle.std.proofs.lemmas.List.FromFn.{length-map-range_with_len, get_or-map-range_with_len}
use Rattle.partial_model.specs.declared.history.{Applied.Applied, Opening.Opening}
use Rattle.partial_model.specs.History.{last_from, value_of}

-- each entry sets its component
abbrev pub values_after : List ℕ → List Applied → List ℕ
values_after vs [] = vs
values_after vs (e ∷ h) = values_after (slice_set vs e.component e.value) h

value_set : (b : Bool) (x : Applied) (vs : List ℕ) (j base : ℕ) (found : Option Applied) → nat_eq x.component j ≡ b → j < length vs → slice_index vs j ≡ option_map_or (λ (e : Applied). e.value) found base
    → slice_index (slice_set vs x.component x.value) j ≡ option_map_or (λ (e : Applied). e.value) (if b then Some x else found) base
value_set true x vs j base found same lt e = rw (eqb-true x.component j same) (get_or-set_same vs j x.value 0 lt)
value_set false x vs j base found other lt e =
    let ne : j ≢ x.component = λ q. eqb-false x.component j other (sym q) in
    get_or-set_other vs x.component j x.value 0 ne ∙ e

value_after : (h : List Applied) (vs : List ℕ) (j base : ℕ) (found : Option Applied) → j < length vs → slice_index vs j ≡ option_map_or (λ (e : Applied). e.value) found base
    → slice_index (values_after vs h) j ≡ option_map_or (λ (e : Applied). e.value) (last_from found j h) base
unfolding last_from
value_after [] vs j base found lt e = e
value_after (x ∷ h) vs j base found lt e =
    value_after h (slice_set vs x.component x.value) j base (if x.component == j then Some x else found) (omega (arith, length-set vs x.component x.value))
    (value_set (x.component == j) x vs j base found refl lt e)

length_after : (h : List Applied) (vs : List ℕ) → length (values_after vs h) ≡ length vs
length_after [] vs = refl
length_after (x ∷ h) vs = length_after h (slice_set vs x.component x.value) ∙ length-set vs x.component x.value

-- what the components hold after a history
pub values_after_is : (o : Opening) (h : List Applied) → values_after o.values h ≡ values_of o h
values_after_is o h =
    let many : length (values_after o.values h) ≡ length (values_of o h) = length_after h o.values ∙ sym (length-map-range_with_len (value_of o h) 0 (length o.values)) in
    ext_get_or 0 (values_after o.values h) (values_of o h) many (λ j lt.
    let within : j < length o.values = omega (arith, length_after h o.values) in
    value_after h o.values j (slice_index o.values j) None within refl ∙ sym (get_or-map-range_with_len (value_of o h) 0 (length o.values) j j 0 within (zero-add j)))
