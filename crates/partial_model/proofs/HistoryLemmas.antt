-- What one entry more does to the last entry for a component.
use Rattle.partial_model.proofs.Common.{ℕ, zero, suc, ◌≡◌, ◌+◌, ◌-◌, ◌<◌, ◌≤◌, ◌==◌, ◌++◌, ◌⊎◌, Bool, true, false, if◌then◌else◌, List, [], ◌∷◌, length, take, slice_index_or, slice_index, refl, sym, ◌∙◌, ap, inl, inr, Option, Some, None, slice_get, arith, AllByRecursion, option_map_or, eq-eqb, ne_eqb, cases_lt, eqb_tells, take_more, take_all, Applied, Opening, LastEntriesDecide, last_entry, initial_stamp, value_of, stamp_of}
use Rattle.partial_model.specs.History.{last_from}

-- an entry at the end is the last one for its component and changes nothing for another
pub last_from-push : (found : Option Applied) (j : ℕ) (h : List Applied) (e : Applied) → last_from found j (h ++ e ∷ []) ≡ (if e.component == j then Some e else last_from found j h)
unfolding last_from
last_from-push found j [] e = refl
last_from-push found j (x ∷ h) e = last_from-push (if x.component == j then Some x else found) j h e

-- the last entry of two histories
pub last_of_both : (found : Option Applied) (j : ℕ) (a b : List Applied) → last_from found j (a ++ b) ≡ last_from (last_from found j a) j b
unfolding last_from
last_of_both found j [] b = refl
last_of_both found j (e ∷ a) b = last_of_both (if e.component == j then Some e else found) j a b

-- what is said of the entry that was found last, or of none
module _ (f : Applied → ℕ) where
  abbrev In : Option Applied → ℕ → ℕ
  In found d = option_map_or f found d

  chosen : (c : Bool) (e : Applied) (found : Option Applied) (d : ℕ) → In (if c then Some e else found) d ≡ In (if c then Some e else None) (In found d)
  chosen true e found d = refl
  chosen false e found d = refl

  -- an entry found before counts where the history has none for the component
  pub found_before : (found : Option Applied) (j : ℕ) (h : List Applied) (d : ℕ) → In (last_from found j h) d ≡ In (last_from None j h) (In found d)
  unfolding last_from
  found_before found j [] d = refl
  found_before found j (e ∷ h) d = found_before (if e.component == j then Some e else found) j h d ∙ ap (In (last_from None j h)) (chosen (e.component == j) e found d)
      ∙ sym (found_before (if e.component == j then Some e else None) j h (In found d))

  -- what is said after two histories is what the second one says over what the first one does
  pub behind_both : (a b : List Applied) (j d : ℕ) → In (last_from None j (a ++ b)) d ≡ In (last_from None j b) (In (last_from None j a) d)
  behind_both a b j d = ap (λ (t : Option Applied). In t d) (last_of_both None j a b) ∙ found_before (last_from None j a) j b d

-- nothing is found in no history
pub last_entry-nil : (j : ℕ) → last_entry j [] ≡ None
unfolding last_from
last_entry-nil j = refl

-- the last of the first i entries is the one before place i where that is for the component
pub last_entry-take : (h : List Applied) (i j : ℕ) (d : Applied) → 0 < i → i ≤ length h → last_entry j (take i h) ≡ (if (slice_index_or h (i - 1) d).component == j then Some (slice_index_or h (i - 1) d)
    else last_entry j (take (i - 1) h))
last_entry-take h i j d some within =
    let e : i - 1 + 1 ≡ i = omega arith in
    ap (λ n. last_entry j (take n h)) (sym e) ∙ ap (last_entry j) (take_more h (i - 1) d (omega arith)) ∙ last_from-push None j (take (i - 1) h) (slice_index_or h (i - 1) d)

pub last_entry-found : (h : List Applied) (i j : ℕ) (d : Applied) → 0 < i → i ≤ length h → (slice_index_or h (i - 1) d).component ≡ j → last_entry j (take i h) ≡ Some (slice_index_or h (i - 1) d)
last_entry-found h i j d some within same =
    last_entry-take h i j d some within ∙ ap (λ b. if b then Some (slice_index_or h (i - 1) d) else last_entry j (take (i - 1) h)) (eq-eqb _ _ same)

pub last_entry-passed : (h : List Applied) (i j : ℕ) (d : Applied) → 0 < i → i ≤ length h → ((slice_index_or h (i - 1) d).component ≡ j → ⊥) → last_entry j (take i h) ≡ last_entry j (take (i - 1) h)
last_entry-passed h i j d some within other =
    last_entry-take h i j d some within ∙ ap (λ b. if b then Some (slice_index_or h (i - 1) d) else last_entry j (take (i - 1) h)) (ne_eqb _ _ other)

-- the value and the stamp after one entry more
pick : {A B : Type 0} (f : A → B) (b : Bool) (x : A) (found : Option A) (d : B) → option_map_or f (if b then Some x else found) d ≡ (if b then f x else option_map_or f found d)
pick f true x found d = refl
pick f false x found d = refl

pub value_of-push : (o : Opening) (h : List Applied) (e : Applied) (j : ℕ) → value_of o (h ++ e ∷ []) j ≡ (if e.component == j then e.value else value_of o h j)
value_of-push o h e j =
    ap (λ (found : Option Applied). option_map_or (λ (x : Applied). x.value) found (slice_index o.values j)) (last_from-push None j h e) ∙ pick (λ (x : Applied). x.value) (e.component == j) e
    (last_entry j h) (slice_index o.values j)

pub stamp_of-push : (o : Opening) (h : List Applied) (e : Applied) (j : ℕ) → stamp_of o (h ++ e ∷ []) j ≡ (if e.component == j then e.stamp else stamp_of o h j)
stamp_of-push o h e j =
    ap (λ (found : Option Applied). option_map_or (λ (x : Applied). x.stamp) found (initial_stamp o j)) (last_from-push None j h e) ∙ pick (λ (x : Applied). x.stamp) (e.component == j) e
    (last_entry j h) (initial_stamp o j)

no_value : (o : Opening) (j : ℕ) → value_of o [] j ≡ slice_index o.values j
no_value o j = ap (λ (found : Option Applied). option_map_or (λ (x : Applied). x.value) found (slice_index o.values j)) (last_entry-nil j)

no_stamp : (o : Opening) (j : ℕ) → stamp_of o [] j ≡ initial_stamp o j
no_stamp o j = ap (λ (found : Option Applied). option_map_or (λ (x : Applied). x.stamp) found (initial_stamp o j)) (last_entry-nil j)

pub last_entries_decide : LastEntriesDecide
last_entries_decide = record { value = value_of-push; stamp = stamp_of-push; no_value = no_value; no_stamp = no_stamp }

-- where the last entry for a component stands: from there on it is the last one, and without one there never was any
pub record LastAt (found : Option Applied) (j : ℕ) (h : List Applied) : Type 0 where
  pub place : ℕ
  pub entry : Applied
  pub stands : slice_get h place ≡ Some entry
  pub component : entry.component ≡ j
  pub from : (a : ℕ) → place < a → last_from found j (take a h) ≡ Some entry

last_at_none : (found : Option Applied) (j : ℕ) (a : ℕ) → last_from found j (take a []) ≡ found
unfolding last_from
last_at_none found j zero = refl
last_at_none found j (suc a) = refl

last_at_kept : (found : Option Applied) (j : ℕ) (x : Applied) (h : List Applied) → (if x.component == j then Some x else found) ≡ found →
    ((a : ℕ) → last_from (if x.component == j then Some x else found) j (take a h) ≡ (if x.component == j then Some x else found)) → (a : ℕ) → last_from found j (take a (x ∷ h)) ≡ found
unfolding last_from
last_at_kept found j x h same all zero = refl
last_at_kept found j x h same all (suc a) = all a ∙ same

last_at_first : (found : Option Applied) (j : ℕ) (x : Applied) (h : List Applied) → (if x.component == j then Some x else found) ≡ Some x →
    ((a : ℕ) → last_from (if x.component == j then Some x else found) j (take a h) ≡ (if x.component == j then Some x else found)) → (a : ℕ) → 0 < a → last_from found j (take a (x ∷ h)) ≡ Some x
unfolding last_from
last_at_first found j x h same all zero some = absurd (omega arith)
last_at_first found j x h same all (suc a) some = all a ∙ same

last_at_later : (found : Option Applied) (j : ℕ) (x : Applied) (h : List Applied) (k : ℕ) (e : Applied) →
    ((a : ℕ) → k < a → last_from (if x.component == j then Some x else found) j (take a h) ≡ Some e) → (a : ℕ) → suc k < a → last_from found j (take a (x ∷ h)) ≡ Some e
unfolding last_from
last_at_later found j x h k e from zero some = absurd (omega arith)
last_at_later found j x h k e from (suc a) some = from a (omega arith)

pub last_at : (found : Option Applied) (j : ℕ) (h : List Applied) → ((a : ℕ) → last_from found j (take a h) ≡ found) ⊎ LastAt found j h
last_at found j [] = inl (last_at_none found j)
last_at found j (x ∷ h) =
    elim (last_at (if x.component == j then Some x else found) j h) [
      | inr l ↦ inr (record { place = suc l.place; entry = l.entry; stands = l.stands; component = l.component; from = last_at_later found j x h l.place l.entry l.from })
      | inl all ↦ elim (eqb_tells x.component j) [
        | inl t ↦ inr (record { place = 0; entry = x; stands = refl; component = t.1; from = last_at_first found j x h (ap (λ b. if b then Some x else found) t.0) all })
        | inr t ↦ inl (last_at_kept found j x h (ap (λ b. if b then Some x else found) t.0) all)
      ]
    ]

-- where a component's stamp has changed since the first a entries, its last entry stands at place a or later
pub record OvertakenAt (o : Opening) (h : List Applied) (j a : ℕ) : Type 0 where
  pub place : ℕ
  pub entry : Applied
  pub stands : slice_get h place ≡ Some entry
  pub component : entry.component ≡ j
  pub stamp : entry.stamp ≡ stamp_of o h j
  pub behind : a ≤ place

stamp_found : (o : Opening) (j : ℕ) (h : List Applied) (found : Option Applied) → last_entry j h ≡ found → stamp_of o h j ≡ option_map_or (λ (x : Applied). x.stamp) found (initial_stamp o j)
stamp_found o j h found e = ap (λ (f : Option Applied). option_map_or (λ (x : Applied). x.stamp) f (initial_stamp o j)) e

pub place_below : {A : Type 0} (h : List A) (k : ℕ) (e : A) → slice_get h k ≡ Some e → k < length h
place_below [] k e s = let bad : None ≡ Some e = s in cc
place_below (x ∷ h) zero e s = omega arith
place_below (x ∷ h) (suc k) e s = let below = place_below h k e s in omega arith

pub overtaken_at : (o : Opening) (h : List Applied) (j a : ℕ) → (stamp_of o h j ≡ stamp_of o (take a h) j → ⊥) → OvertakenAt o h j a
overtaken_at o h j a changed =
    let whole : take (length h) h ≡ h = take_all (length h) h (omega arith) in
    elim (last_at None j h) [
      | inl all ↦ absurd (changed (stamp_found o j h None (ap (last_entry j) (sym whole) ∙ all (length h)) ∙ sym (stamp_found o j (take a h) None (all a))))
      | inr l ↦
          let last : last_entry j h ≡ Some (l.entry) = ap (last_entry j) (sym whole) ∙ l.from (length h) (place_below h l.place l.entry l.stands) in
          record {
            place = l.place;
            entry = l.entry;
            stands = l.stands;
            component = l.component;
            stamp = sym (stamp_found o j h (Some l.entry) last);
            behind = elim (cases_lt l.place a) [
              | inl before ↦ absurd (changed
                  (stamp_found o j h (Some l.entry) last ∙ sym (stamp_found o j (take a h) (Some l.entry) (l.from a before))))
              | inr after ↦ after
            ];
          }
    ]

-- what holds of each entry's stamp and of the initial one holds of a component's stamp
stamp_all_step : (P : ℕ → Type 0) (first : ℕ) (found : Option Applied) (x : Applied) (b : Bool) → P x.stamp → P (option_map_or (λ (e : Applied). e.stamp) found first) →
    P (option_map_or (λ (e : Applied). e.stamp) (if b then Some x else found) first)
stamp_all_step P first found x true p w = p
stamp_all_step P first found x false p w = w

stamp_all_from : (P : ℕ → Type 0) (first j : ℕ) (found : Option Applied) (h : List Applied) → AllByRecursion (λ (e : Applied). P e.stamp) h →
    P (option_map_or (λ (e : Applied). e.stamp) found first) → P (option_map_or (λ (e : Applied). e.stamp) (last_from found j h) first)
unfolding last_from
stamp_all_from P first j found [] all w = w
stamp_all_from P first j found (x ∷ h) all w = stamp_all_from P first j (if x.component == j then Some x else found) h all.1 (stamp_all_step P first found x (x.component == j) all.0 w)

pub stamp_all : (P : ℕ → Type 0) (o : Opening) (j : ℕ) (h : List Applied) → AllByRecursion (λ (e : Applied). P e.stamp) h → P (initial_stamp o j) → P (stamp_of o h j)
stamp_all P o j h all first = stamp_all_from P (initial_stamp o j) j None h all first

-- an opening is its values and its first stamp
pub opening_is : (o : Opening) (values : List ℕ) (first : ℕ) → o.values ≡ values → o.first ≡ first → o ≡ record { values = values; first = first }
opening_is o values first a b = ap (λ (l : List ℕ). record { values = l; first = o.first }) a ∙ ap (λ n. record { values = values; first = n }) b
