-- The search for the place of a scan: what is marked at each place, and that the least place is found.
use Rattle.partial_replay.proofs.Common.{ℕ, zero, suc, ◌≡◌, ◌≢◌, ◌+◌, ◌-◌, ◌<◌, ◌≤◌, ◌==◌, ◌++◌, ◌⊎◌, Bool, true, false, not, if◌then◌else◌, List, [], ◌∷◌, length, map, take, slice_index_or, slice_index, slice_set, count_by, Option, Some, None, slice_get, refl, sym, ◌∙◌, ap, subst, inl, inr, get_or-set_other, arith, AllByRecursion, option_map_or, false≢true, cases_eq, cases_lt, eq-eqb, eqb-true, length-set, get_or-set_same, get_or-map, length-map, sum_by-cons, get_or_from_slice_get, slice_get_within, Applied, Opening, last_entry, initial_stamp, stamp_of, last_entry-passed, stamp_all, AllByRecursion-get, position_below, Agrees, prev_of, record_value, values_after, values_now, is_other, marks_before, AreMarked, AllHave, AreWanted, HasRecord, HasRecords, IsLeast, ShowsValues, value_word, take-length, value_behind_stamp, prev_before_entry, AreWantedComponents}
use Rattle.std.proofs.lemmas.Grind.{same_number_lists}

-- the values in the words are those after the whole history
pub now_is_after : (o : Opening) (words : List ℕ) (h : List Applied) (j : ℕ) → Agrees o words h → j < length o.values → values_now words j ≡ values_after o h (length h) j
now_is_after o words h j agrees below =
    let whole : take (length h) h ≡ h = take-length h in
    ap (record_value words) ((agrees j below).0 ∙ ap (λ (l : List Applied). stamp_of o l j) (sym whole)) ∙ value_behind_stamp o words h j (length h) agrees below

-- after the stamp before an entry stands the value that its component had before it
pub value_before : (o : Opening) (words : List ℕ) (h : List Applied) (k : ℕ) (e : Applied) → Agrees o words h → e.component < length o.values → slice_get h k ≡ Some e →
    record_value words (prev_of words e.stamp) ≡ values_after o h k e.component
value_before o words h k e agrees below stands =
    ap (record_value words) (prev_before_entry o words h k e agrees below stands) ∙ value_behind_stamp o words h e.component k agrees below

-- an entry leaves the values of the other components
pub value_beside : (o : Opening) (h : List Applied) (k j : ℕ) (e : Applied) → slice_get h k ≡ Some e → j ≢ e.component → values_after o h (k + 1) j ≡ values_after o h k j
value_beside o h k j e stands other =
    let within : k < length h = slice_get_within h k e stands in
    let back : k + 1 - 1 ≡ k = omega arith in
    let at : slice_index_or h (k + 1 - 1) e ≡ e = ap (λ n. slice_index_or h n e) back ∙ get_or_from_slice_get h k e e stands in
    let passed = last_entry-passed h (k + 1) j e (omega arith) (omega (arith, within)) (λ same. other (sym same ∙ ap (λ (x : Applied). x.component) at)) in
    ap (λ (found : Option Applied). option_map_or (λ (x : Applied). x.value) found (slice_index o.values j)) (passed ∙ ap (λ n. last_entry j (take n h)) back)

-- the marks at one place less
marks_at : (w : Option ℕ) (wanted : List (Option ℕ)) (marks : List Bool) (c x : ℕ) (after before : ℕ → ℕ) → slice_index_or wanted c None ≡ w → c < length marks → ((v : ℕ) → w ≡ Some v → x ≡ before c) →
    ((j : ℕ) → j ≢ c → after j ≡ before j) → AreMarked wanted marks after → AreMarked wanted (marks_before w marks c x) before
marks_at None wanted marks c x after before is within own others marked = λ j. elim (cases_eq j c) [
  | inl here ↦
      let none : slice_index_or wanted j None ≡ None = ap (λ n. slice_index_or wanted n None) here ∙ is in
      marked j ∙ ap (λ (w : Option ℕ). is_other w (after j)) none ∙ sym (ap (λ (w : Option ℕ). is_other w (before j)) none)
  | inr other ↦ marked j ∙ ap (is_other (slice_index_or wanted j None)) (others j other)
]
marks_at (Some v) wanted marks c x after before is within own others marked = λ j. elim (cases_eq j c) [
  | inl here ↦
      let wants : slice_index_or wanted j None ≡ Some v = ap (λ n. slice_index_or wanted n None) here ∙ is in
      let value : x ≡ before j = own v refl ∙ ap before (sym here) in
      ap (λ n. slice_index_or (slice_set marks c (not (v == x))) n false) here ∙ get_or-set_same marks c (not (v == x)) false within ∙ ap (λ n. not (v == n)) value ∙
      sym (ap (λ (w : Option ℕ). is_other w (before j)) wants)
  | inr other ↦ get_or-set_other marks c j (not (v == x)) false other ∙ marked j ∙ ap (is_other (slice_index_or wanted j None)) (others j other)
]

-- where none is marked, each component has the value that it is to have, and the other way round
none_counted : (marks : List Bool) → count_by (λ b. b) marks ≡ 0 → (j : ℕ) → slice_index_or marks j false ≡ false
none_counted [] none j = refl
none_counted (true ∷ marks) none j = absurd (omega (arith, sum_by-cons (λ b. if b then 1 else 0) true marks, none))
none_counted (false ∷ marks) none zero = refl
none_counted (false ∷ marks) none (suc j) = none_counted marks (omega (arith, sum_by-cons (λ b. if b then 1 else 0) false marks, none)) j

counts_none : (marks : List Bool) → ((j : ℕ) → slice_index_or marks j false ≡ false) → count_by (λ b. b) marks ≡ 0
counts_none [] none = refl
counts_none (true ∷ marks) none = absurd (false≢true (sym (none 0)))
counts_none (false ∷ marks) none = omega (arith, sum_by-cons (λ b. if b then 1 else 0) false marks, counts_none marks (λ j. none (suc j)))

not_false : (b : Bool) → not b ≡ false → b ≡ true
not_false true n = refl
not_false false n = absurd (false≢true (sym n))

have_unmarked : (wanted : List (Option ℕ)) (marks : List Bool) (value : ℕ → ℕ) → AreMarked wanted marks value → count_by (λ b. b) marks ≡ 0 → AllHave wanted value
have_unmarked wanted marks value marked none j v wants =
    eqb-true v (value j) (not_false (v == value j) (sym (ap (λ (w : Option ℕ). is_other w (value j)) wants) ∙ sym (marked j) ∙ none_counted marks none j))

no_differing : (w : Option ℕ) (x : ℕ) → ((v : ℕ) → w ≡ Some v → v ≡ x) → is_other w x ≡ false
no_differing None x has = refl
no_differing (Some v) x has = ap not (eq-eqb v x (has v refl))

unmarked_have : (wanted : List (Option ℕ)) (marks : List Bool) (value : ℕ → ℕ) → AreMarked wanted marks value → AllHave wanted value → count_by (λ b. b) marks ≡ 0
unmarked_have wanted marks value marked all = counts_none marks (λ j. marked j ∙ no_differing (slice_index_or wanted j None) (value j) (all j))

-- what has been found when the places from one on have been looked at
pub record IsFoundFrom (Holds : ℕ → Type 0) (place end least : ℕ) : Type 0 where
  pub behind : place ≤ least
  pub within : least ≤ end
  pub found : (least ≡ end) ⊎ Holds least
  pub none : (i : ℕ) → place ≤ i → i < least → ¬ Holds i

found_at_end : (Holds : ℕ → Type 0) (place end : ℕ) → place ≡ end → IsFoundFrom Holds place end end
found_at_end Holds place end is = record { behind = omega (arith, is); within = omega arith; found = inl refl; none = λ i from below. absurd (omega (arith, is, from, below)) }

found_here : (Holds : ℕ → Type 0) (place end : ℕ) → place ≤ end → Holds place → IsFoundFrom Holds place end place
found_here Holds place end within holds = record { behind = omega arith; within = within; found = inr holds; none = λ i from below. absurd (omega (arith, from, below)) }

found_later : (Holds : ℕ → Type 0) (place end least : ℕ) → ¬ Holds place → IsFoundFrom Holds (place + 1) end least → IsFoundFrom Holds place end least
found_later Holds place end least not_here f = record {
  behind = omega (arith, f.behind);
  within = f.within;
  found = f.found;
  none = λ i from below. elim (cases_eq i place) [
    | inl here ↦ λ holds. not_here (subst Holds here holds)
    | inr other ↦ f.none i (omega (arith, from, other)) below
  ];
}

pub found_least : (Holds : ℕ → Type 0) (began end least shown : ℕ) → IsFoundFrom Holds began end least → began ≤ shown → shown ≤ end → Holds shown → IsLeast Holds began end least
found_least Holds began end least shown f from within holds = record {
  behind = f.behind;
  within = f.within;
  holds = elim (f.found) [
    | inl last ↦ elim (cases_lt shown least) [
      | inl before ↦ absurd (f.none shown from before holds)
      | inr after ↦ let same : shown ≡ least = omega (arith, after, within, last) in subst Holds same holds
    ]
    | inr here ↦ here
  ];
  least = f.none;
}

-- the least place, and the marks, after one entry less
pub record IsSearched (o : Opening) (wanted : List (Option ℕ)) (marks : List Bool) (h : List Applied) (place least : ℕ) : Type 0 where
  pub marked : AreMarked wanted marks (values_after o h place)
  pub found : IsFoundFrom (λ n. AllHave wanted (values_after o h n)) place (length h) least

searched_at_end : (o : Opening) (wanted : List (Option ℕ)) (marks : List Bool) (words : List ℕ) (h : List Applied) (place : ℕ) → Agrees o words h → AreWantedComponents o wanted →
    AreMarked wanted marks (values_now words) → place ≡ length h → IsSearched o wanted marks h place (length h)
searched_at_end o wanted marks words h place agrees below marked is = record {
  marked = λ j. marked j ∙ same (slice_index_or wanted j None) (values_now words j) (values_after o h place j)
      (λ v wants. now_is_after o words h j agrees (below j v wants) ∙ ap (λ n. values_after o h n j) (sym is));
  found = found_at_end (λ n. AllHave wanted (values_after o h n)) place (length h) is;
}
  where
    same : (w : Option ℕ) (x y : ℕ) → ((v : ℕ) → w ≡ Some v → x ≡ y) → is_other w x ≡ is_other w y
    same None x y is = refl
    same (Some v) x y is = ap (λ n. not (v == n)) (is v refl)

marked_back : (o : Opening) (wanted : List (Option ℕ)) (marks : List Bool) (words : List ℕ) (h : List Applied) (place least : ℕ) (e : Applied) → Agrees o words h → AreWantedComponents o wanted →
    slice_get h place ≡ Some e → e.component < length marks → IsSearched o wanted marks h (place + 1) least →
    AreMarked wanted (marks_before (slice_index_or wanted e.component None) marks e.component (record_value words (prev_of words e.stamp))) (values_after o h place)
marked_back o wanted marks words h place least e agrees below stands within s =
    marks_at (slice_index_or wanted e.component None) wanted marks e.component (record_value words (prev_of words e.stamp)) (values_after o h (place + 1)) (values_after o h place) refl within
    (λ v wants. value_before o words h place e agrees (below e.component v wants) stands) (λ j other. value_beside o h place j e stands other) s.marked

-- where all have their values, the place is the least so far
searched_here : (o : Opening) (wanted : List (Option ℕ)) (marks after : List Bool) (words : List ℕ) (h : List Applied) (place least : ℕ) (e : Applied) → Agrees o words h →
    AreWantedComponents o wanted →
    slice_get h place ≡ Some e → e.component < length marks → after ≡ marks_before (slice_index_or wanted e.component None) marks e.component (record_value words (prev_of words e.stamp)) →
    count_by (λ b. b) after ≡ 0 → IsSearched o wanted marks h (place + 1) least → IsSearched o wanted after h place place
searched_here o wanted marks after words h place least e agrees below stands within is none s =
    let marked = subst (λ ms. AreMarked wanted ms (values_after o h place)) (sym is) (marked_back o wanted marks words h place least e agrees below stands within s) in
    record {
      marked = marked;
      found = found_here (λ n. AllHave wanted (values_after o h n)) place (length h) (omega (arith, slice_get_within h place e stands))
          (have_unmarked wanted after (values_after o h place) marked none);
    }

-- where some differ, it isn't
searched_past : (o : Opening) (wanted : List (Option ℕ)) (marks after : List Bool) (words : List ℕ) (h : List Applied) (place least : ℕ) (e : Applied) → Agrees o words h →
    AreWantedComponents o wanted →
    slice_get h place ≡ Some e → e.component < length marks → after ≡ marks_before (slice_index_or wanted e.component None) marks e.component (record_value words (prev_of words e.stamp)) →
    count_by (λ b. b) after ≢ 0 → IsSearched o wanted marks h (place + 1) least → IsSearched o wanted after h place least
searched_past o wanted marks after words h place least e agrees below stands within is some s =
    let marked = subst (λ ms. AreMarked wanted ms (values_after o h place)) (sym is) (marked_back o wanted marks words h place least e agrees below stands within s) in
    record {
      marked = marked;
      found = found_later (λ n. AllHave wanted (values_after o h n)) place (length h) least
          (λ all. some (unmarked_have wanted after (values_after o h place) marked all)) s.found;
    }

-- an entry taken back leaves the room, and the marks of what isn't wanted
length_before : (w : Option ℕ) (marks : List Bool) (c x : ℕ) → length (marks_before w marks c x) ≡ length marks
length_before None marks c x = refl
length_before (Some v) marks c x = length-set marks c (not (v == x))

others_before : (w : Option ℕ) (wanted : List (Option ℕ)) (marks : List Bool) (c x j : ℕ) → slice_index_or wanted c None ≡ w → slice_index_or wanted j None ≡ None →
    slice_index_or (marks_before w marks c x) j false ≡ slice_index_or marks j false
others_before None wanted marks c x j is none = refl
others_before (Some v) wanted marks c x j is none =
    get_or-set_other marks c j (not (v == x)) false (λ same. let bad : None ≡ Some v = sym none ∙ ap (λ n. slice_index_or wanted n None) same ∙ is in cc)

-- what is known when the entries from a place on have been taken back, from the marks of the whole history
pub record IsWalked (wanted : List (Option ℕ)) (first marks : List Bool) (words : List ℕ) (h : List Applied) (began place least : ℕ) : Type 0 where
  pub room : length marks ≡ length first
  pub others : (j : ℕ) → slice_index_or wanted j None ≡ None → slice_index_or marks j false ≡ slice_index_or first j false
  pub behind : began ≤ length h → began ≤ place
  pub searched : (o : Opening) → began ≤ length h → Agrees o words h → AreWantedComponents o wanted → AreMarked wanted first (values_now words) → IsSearched o wanted marks h place least

pub walked_at_end : (wanted : List (Option ℕ)) (first : List Bool) (words : List ℕ) (h : List Applied) (began : ℕ) → IsWalked wanted first first words h began (length h) (length h)
walked_at_end wanted first words h began = record {
  room = refl;
  others = λ j is. refl;
  behind = λ is. is;
  searched = λ o behind agrees below marked. searched_at_end o wanted first words h (length h) agrees below marked refl;
}

-- one entry more is taken back, and the least place is its own where none differs now
pub walked_back : (wanted : List (Option ℕ)) (first marks after : List Bool) (words : List ℕ) (h : List Applied) (began place before least next : ℕ) (e : Applied) → slice_get h before ≡ Some e →
    place ≡ before + 1 → began ≤ before → length wanted ≡ length first → e.component < length wanted → after ≡ marks_before (slice_index_or wanted e.component None) marks e.component
    (record_value words (prev_of words e.stamp)) → ((count_by (λ b. b) after ≡ 0) × (next ≡ before)) ⊎ ((count_by (λ b. b) after ≢ 0) × (next ≡ least)) →
    IsWalked wanted first marks words h began place least → IsWalked wanted first after words h began before next
walked_back wanted first marks after words h began place before least next e stands at from rooms component taken which w = record {
  room = ap length taken ∙ length_before (slice_index_or wanted e.component None) marks e.component (record_value words (prev_of words e.stamp)) ∙ w.room;
  others = λ j is. ap (λ (ms : List Bool). slice_index_or ms j false) taken ∙ others_before (slice_index_or wanted e.component None) wanted marks e.component (record_value words (prev_of words e.stamp)) j
      refl is ∙ w.others j is;
  behind = λ _. from;
  searched = λ o behind agrees below marked.
      let within : e.component < length marks = omega (arith, component, rooms, w.room) in
      let later : IsSearched o wanted marks h (before + 1) least = subst (λ n. IsSearched o wanted marks h n least) at (w.searched o behind agrees below marked) in
      elim which [
        | inl here ↦ subst (IsSearched o wanted after h before) (sym here.1) (searched_here o wanted marks after words h before least e agrees below stands within taken here.0 later)
        | inr past ↦ subst (IsSearched o wanted after h before) (sym past.1) (searched_past o wanted marks after words h before least e agrees below stands within taken past.0 later)
      ];
}

-- one position more
pub wanted_more : (wanted : List (Option ℕ)) (components values : List ℕ) (k c v : ℕ) → slice_index components k ≡ c → slice_index values k ≡ v → c < length wanted → AreWanted wanted components values k →
    AreWanted (slice_set wanted c (Some v)) components values (k + 1)
wanted_more wanted components values k c v component value within w = record {
  each = λ i below. elim (cases_eq (slice_index components i) c) [
    | inl here ↦ (v, ap (λ n. slice_index_or (slice_set wanted c (Some v)) n None) here ∙ get_or-set_same wanted c (Some v) None within)
    | inr other ↦
        let before : i < k = elim (cases_eq i k) [ inl last ↦ absurd (other (ap (λ n. slice_index components n) last ∙ component)) | inr less ↦ omega (arith, below, less) ] in
        let was = w.each i before in (was.0, get_or-set_other wanted c (slice_index components i) (Some v) None other ∙ was.1)
  ];
  only = λ j x wants. elim (cases_eq j c) [
    | inl here ↦
        let one : Some v ≡ Some x = sym (ap (λ n. slice_index_or (slice_set wanted c (Some v)) n None) here ∙ get_or-set_same wanted c (Some v) None within) ∙ wants in
        let same : v ≡ x = cc in
        (k, omega arith, component ∙ sym here, value ∙ same)
    | inr other ↦
        let was = w.only j x (sym (get_or-set_other wanted c j (Some v) None other) ∙ wants) in
        (was.0, omega (arith, was.1), was.2, was.3)
  ];
}

marked_set : (wanted : List (Option ℕ)) (marks : List Bool) (value : ℕ → ℕ) (c v : ℕ) → c < length wanted → c < length marks → AreMarked wanted marks value →
    AreMarked (slice_set wanted c (Some v)) (slice_set marks c (not (v == value c))) value
marked_set wanted marks value c v within room marked = λ j. elim (cases_eq j c) [
  | inl here ↦
      ap (λ n. slice_index_or (slice_set marks c (not (v == value c))) n false) here ∙ get_or-set_same marks c (not (v == value c)) false room ∙ ap (λ n. not (v == value n)) (sym here)
      ∙ sym (ap (λ (w : Option ℕ). is_other w (value j)) (ap (λ n. slice_index_or (slice_set wanted c (Some v)) n None) here ∙ get_or-set_same wanted c (Some v) None within))
  | inr other ↦
      get_or-set_other marks c j (not (v == value c)) false other ∙ marked j ∙ ap (λ (w : Option ℕ). is_other w (value j)) (sym (get_or-set_other wanted c j (Some v) None other))
]

pub marked_more : (wanted : List (Option ℕ)) (marks after : List Bool) (value : ℕ → ℕ) (c v x : ℕ) → after ≡ slice_set marks c (not (v == x)) → x ≡ value c → c < length wanted → c < length marks →
    AreMarked wanted marks value → AreMarked (slice_set wanted c (Some v)) after value
marked_more wanted marks after value c v x is now within room marked =
    subst (λ (ms : List Bool). AreMarked (slice_set wanted c (Some v)) ms value) (sym (is ∙ ap (λ n. slice_set marks c (not (v == n))) now)) (marked_set wanted marks value c v within room marked)

-- where the values are shown, each component has the value that it is to have, and the other way round
pub have_shown : (wanted : List (Option ℕ)) (components values : List ℕ) (f : ℕ → ℕ) → AreWanted wanted components values (length components) → values ≡ map f components → AllHave wanted f
have_shown wanted components values f w shown j v wants =
    let at = w.only j v wants in
    sym at.3 ∙ ap (λ (l : List ℕ). slice_index l at.0) shown ∙ get_or-map f components at.0 0 0 at.1 ∙ ap f at.2

pub shown_have : (wanted : List (Option ℕ)) (components values : List ℕ) (f g : ℕ → ℕ) → AreWanted wanted components values (length components) → values ≡ map g components → AllHave wanted f →
    values ≡ map f components
shown_have wanted components values f g w shown all =
    same_number_lists values (map f components) (ap length shown ∙ length-map components g ∙ sym (length-map components f)) (λ k below.
    let within : k < length components = omega (arith, below, ap length shown, length-map components g) in
    let j = slice_index components k in
    let is = w.each k within in
    ap (λ (l : List ℕ). slice_index l k) shown ∙ get_or-map g components k 0 0 within ∙ sym (have_shown wanted components values g w shown j is.0 is.1) ∙ all j is.0 is.1 ∙
    sym (get_or-map f components k 0 0 within))

-- what the search for a scan's place finds is the least place that shows its values
pub least_shown : (o : Opening) (h : List Applied) (wanted : List (Option ℕ)) (components values : List ℕ) (began shown least : ℕ) → AreWanted wanted components values (length components) →
    ShowsValues o h components values shown → IsLeast (λ n. AllHave wanted (values_after o h n)) began (length h) least → IsLeast (ShowsValues o h components values) began (length h) least
least_shown o h wanted components values began shown least w shows l = record {
  behind = l.behind;
  within = l.within;
  holds = shown_have wanted components values (values_after o h least) (values_after o h shown) w shows l.holds;
  least = λ i from below is. l.least i from below (have_shown wanted components values (values_after o h i) w is);
}

-- the front of a list that is joined after it
pub take_front : {A : Type 0} (n : ℕ) (xs ys : List A) → length xs ≡ n → take n (xs ++ ys) ≡ xs
take_front n xs ys is = ap (λ k. take k (xs ++ ys)) (sym is) ∙ front xs ys
  where
    front : {A : Type 0} (xs ys : List A) → take (length xs) (xs ++ ys) ≡ xs
    front [] ys = refl
    front (x ∷ xs) ys = ap (λ l. x ∷ l) (front xs ys)

-- what is wanted are components
pub wanted_below : (o : Opening) (wanted : List (Option ℕ)) (components values : List ℕ) → AllByRecursion (λ j. j < length o.values) components → AreWanted wanted components values
    (length components) → AreWantedComponents o wanted
wanted_below o wanted components values below w j v wants =
    let at = w.only j v wants in
    subst (λ n. n < length o.values) at.2 (position_below components (length o.values) at.0 below at.1)

-- where the records of the history and the initial ones lie within the words, so does all that the search reads
pub has_records : (o : Opening) (words : List ℕ) (h : List Applied) → Agrees o words h → AllByRecursion (λ (e : Applied). value_word e.stamp < length words) h →
    ((j : ℕ) → j < length o.values → value_word (initial_stamp o j) < length words) → HasRecords words (length o.values)
has_records o words h agrees own first j below =
    let within = stamp_all (λ n. value_word n < length words) o j h own (first j below) in
    (omega (arith, first j below), omega (arith, (agrees j below).0, within))

pub has_record : (o : Opening) (words : List ℕ) (h : List Applied) → Agrees o words h → AllByRecursion (λ (e : Applied). value_word e.stamp < length words) h →
    AllByRecursion (λ (e : Applied). e.component < length o.values) h → ((j : ℕ) → j < length o.values → value_word (initial_stamp o j) < length words) → (k : ℕ) (e : Applied) → slice_get h k
    ≡ Some e →
    HasRecord words (length o.values) e
has_record o words h agrees own components first k e stands =
    let below : e.component < length o.values = AllByRecursion-get (λ (f : Applied). f.component < length o.values) h k e components stands in
    let at : value_word e.stamp < length words = AllByRecursion-get (λ (f : Applied). value_word f.stamp < length words) h k e own stands in
    let before = stamp_all (λ n. value_word n < length words) o e.component (take k h) (front h k own) (first e.component below) in
    record { component = below; own = omega (arith, at); before = omega (arith, prev_before_entry o words h k e agrees below stands, before) }
  where
    front : (l : List Applied) (n : ℕ) → AllByRecursion (λ (f : Applied). value_word f.stamp < length words) l → AllByRecursion (λ (f : Applied). value_word f.stamp < length words) (take n l)
    front l zero all = tt
    front [] (suc n) all = tt
    front (x ∷ l) (suc n) all = (all.0, front l n all.1)
