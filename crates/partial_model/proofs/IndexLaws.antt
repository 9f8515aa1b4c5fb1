-- An index of a history: what one entry more leaves of it, and what is looked up in it.
use Rattle.partial_model.proofs.{Common.{ℕ, zero, suc, ◌≡◌, ◌≢◌, ◌+◌, ◌-◌, ◌<◌, ◌≤◌, ◌⊎◌, inl, inr, ◌==◌, nat_eq, nat_le, nat_lt, true, false, if◌then◌else◌, ◌&&◌, List, [], ◌∷◌, ◌++◌, length, take, drop, slice_index_or, slice_index, slice_get, refl, sym, ap, ◌∙◌, subst, Contains, Option, Some, None, is_some, arith, list_any, le-leb, lt-leb, ltb-true, ltb-false, false_from_ne_true, cases_lt, cases_eq, eq-eqb, ne_eqb, Decides-and, Decides-like, same_from_decides, get_or_push, take_more, slice_get_within, slice_get-get_or, get_or_from_slice_get, Applied, HaveDistinctStamps, last_entry, are_distinct, shows_stamp, ArePlacesOf, AreStampsOf, AreListsOf, list_at, length-append}, AllLemmas.all_where, ListLemmas.some_same, CheckLaws.{Decides-are_distinct, Decides-contains_number, Decides-shows_stamp}, Decisions.Decides-nat_le, HistoryLemmas.{last_entry-nil, last_from-push}, NotesLemmas.AllByRecursion-get}
use Rattle.std.specs.Global.{Vec}
use Rattle.std.specs.{List.Sorted.IsPartitionPoint, Prelude.slice_set}
use Rattle.std.proofs.Math.ListN.{get_or-append}

-- ---- the places of a component's entries

pushed : (ls : List ℕ) (n a : ℕ) → a < length (ls ++ n ∷ []) → ((a < length ls) × (slice_index (ls ++ n ∷ []) a ≡ slice_index ls a)) ⊎ ((a ≡ length ls) × (slice_index (ls ++ n ∷ []) a ≡ n))
pushed ls n a w =
    let more : length (ls ++ n ∷ []) ≡ length ls + 1 = length-append ls (n ∷ []) in
    elim (cases_lt a (length ls)) [
      | inl lt ↦ inl (lt, get_or-append ls (n ∷ []) 0 a lt)
      | inr le ↦ let same : length ls ≡ a = omega arith in inr (sym same, get_or_push ls n 0 a same)
    ]

-- an entry for the component is one place more
pub places_more : (h : List Applied) (n j : ℕ) (ls : List ℕ) (e : Applied) → ArePlacesOf h n j ls → slice_get h n ≡ Some e → e.component ≡ j → ArePlacesOf h (n + 1) j (ls ++ n ∷ [])
places_more h n j ls e w s is =
    let more : length (ls ++ n ∷ []) ≡ length ls + 1 = length-append ls (n ∷ []) in
    record {
      within = λ a lt. elim (pushed ls n a lt) [
        | inl old ↦ let below = w.within a old.0 in let same = old.1 in omega arith
        | inr new ↦ let same = new.1 in omega arith
      ];
      stands = λ a lt. elim (pushed ls n a lt) [
        | inl old ↦ let at = w.stands a old.0 in (at.0, ap (slice_get h) old.1 ∙ at.1, at.2)
        | inr new ↦ (e, ap (slice_get h) new.1 ∙ s, is)
      ];
      whole = λ k f lt t for. elim (cases_lt k n) [
        | inl before ↦ let at = w.whole k f before t for in (at.0, (let below = at.1 in omega arith), get_or-append ls (n ∷ []) 0 at.0 at.1 ∙ at.2)
        | inr le ↦ let same : n ≡ k = omega arith in (length ls, omega arith, get_or_push ls n 0 (length ls) refl ∙ same)
      ];
      rises = λ a b le lt. elim (pushed ls n b lt) [
        | inl old ↦ let below : a < length ls = (let x = old.0 in omega arith) in
            let up = w.rises a b le old.0 in
            let first = get_or-append ls (n ∷ []) 0 a below in
            let second = old.1 in
            omega arith
        | inr new ↦ let second = new.1 in elim (pushed ls n a (omega (arith, new.0))) [
          | inl old ↦ let below = w.within a old.0 in let first = old.1 in omega arith
          | inr last ↦ let first = last.1 in omega arith
        ]
      ];
    }

-- an entry for another component is none
pub places_kept : (h : List Applied) (n j : ℕ) (ls : List ℕ) (e : Applied) → ArePlacesOf h n j ls → slice_get h n ≡ Some e → e.component ≢ j → ArePlacesOf h (n + 1) j ls
places_kept h n j ls e w s other = record {
  within = λ a lt. let below = w.within a lt in omega arith;
  stands = w.stands;
  whole = λ k f lt t for. elim (cases_lt k n) [
    | inl before ↦ w.whole k f before t for
    | inr le ↦
        let same : n ≡ k = omega arith in
        let entry : e ≡ f = some_same (sym s ∙ ap (slice_get h) same ∙ t) in
        absurd (other (ap (λ (x : Applied). x.component) entry ∙ for))
  ];
  rises = w.rises;
}

-- one entry more, for another component and for this one
passed : (h : List Applied) (j n : ℕ) (d : Applied) → n < length h → (slice_index_or h n d).component ≢ j → last_entry j (take (suc n) h) ≡ last_entry j (take n h)
passed h j n d within other =
    let e : Applied = slice_index_or h n d in
    let one : suc n ≡ n + 1 = omega arith in
    ap (λ k. last_entry j (take k h)) one ∙ ap (last_entry j) (take_more h n d within) ∙ last_from-push None j (take n h) e ∙
    ap (λ b. if b then Some e else last_entry j (take n h)) (ne_eqb e.component j other)

found : (h : List Applied) (j n : ℕ) (d : Applied) → n < length h → (slice_index_or h n d).component ≡ j → last_entry j (take (suc n) h) ≡ Some (slice_index_or h n d)
found h j n d within same =
    let e : Applied = slice_index_or h n d in
    let one : suc n ≡ n + 1 = omega arith in
    ap (λ k. last_entry j (take k h)) one ∙ ap (last_entry j) (take_more h n d within) ∙ last_from-push None j (take n h) e ∙
    ap (λ b. if b then Some e else last_entry j (take n h)) (eq-eqb e.component j same)

-- no entry of the first n is for the component
none_for : (h : List Applied) (j n : ℕ) → n ≤ length h → ((k : ℕ) (e : Applied) → k < n → slice_get h k ≡ Some e → e.component ≢ j) → last_entry j (take n h) ≡ None
none_for h j zero within none = last_entry-nil j
none_for [] j (suc n) within none = absurd (omega arith)
none_for (x ∷ h) j (suc n) within none =
    let e : Applied = slice_index_or (x ∷ h) n x in
    let at : slice_get (x ∷ h) n ≡ Some e = slice_get-get_or (x ∷ h) n x (omega arith) in
    passed (x ∷ h) j n x (omega arith) (none n e (omega arith) at) ∙ none_for (x ∷ h) j n (omega arith) (λ k f lt s. none k f (omega arith) s)

-- the entry at place p is for the component, and none after it among the first n
last_for : (h : List Applied) (j p : ℕ) (e : Applied) (n : ℕ) → n ≤ length h → p < n → slice_get h p ≡ Some e → e.component ≡ j →
    ((k : ℕ) (f : Applied) → p < k → k < n → slice_get h k ≡ Some f → f.component ≢ j) → last_entry j (take n h) ≡ Some e
last_for h j p e zero within below s is none = absurd (omega arith)
last_for h j p e (suc n) within below s is none =
    elim (cases_lt p n) [
      | inl before ↦
          let at : slice_get h n ≡ Some (slice_index_or h n e) = slice_get-get_or h n e (omega arith) in
          passed h j n e (omega arith) (none n (slice_index_or h n e) before (omega arith) at) ∙ last_for h j p e n (omega arith) before s is (λ k f up lt t. none k f up (omega arith) t)
      | inr le ↦
          let same : p ≡ n = omega arith in
          let entry : slice_index_or h n e ≡ e = get_or_from_slice_get h n e e (ap (slice_get h) (sym same) ∙ s) in
          found h j n e (omega arith) (ap (λ (x : Applied). x.component) entry ∙ is) ∙ ap (λ (x : Applied). Some x) entry
    ]

-- i of the places lie below n
pub record Parts (ls : List ℕ) (i n : ℕ) : Type 0 where
  pub below : (a : ℕ) → a < i → slice_index ls a < n
  pub behind : (a : ℕ) → i ≤ a → a < length ls → n ≤ slice_index ls a

-- what a binary search in the places answers
pub parts_at : (ls : List ℕ) (i n : ℕ) → IsPartitionPoint (λ y. nat_lt y n ≡ true) (λ y. nat_lt y n ≡ false) ls i → Parts ls i n
parts_at ls i n point = record {
  below = λ a lt. ltb-true (slice_index ls a) n (point.0 a 0 (omega arith) lt);
  behind = λ a le lt. ltb-false (slice_index ls a) n (point.1 a 0 le lt);
}

pub nothing_last : (h : List Applied) (j n : ℕ) (ls : List ℕ) → ArePlacesOf h (length h) j ls → Parts ls 0 n → n ≤ length h → last_entry j (take n h) ≡ None
nothing_last h j n ls w parts within =
    none_for h j n within (λ k e lt s is.
    let at = w.whole k e (omega arith) s is in
    let late = parts.behind at.0 (omega arith) at.1 in
    let same = at.2 in
    omega arith)

pub last_listed : (h : List Applied) (j n i : ℕ) (ls : List ℕ) (d : Applied) → ArePlacesOf h (length h) j ls → Parts ls i n → n ≤ length h → 0 < i → i ≤ length ls →
    last_entry j (take n h) ≡ Some (slice_index_or h (slice_index ls (i - 1)) d)
last_listed h j n i ls d w parts within some le =
    let p : ℕ = slice_index ls (i - 1) in
    let at = w.stands (i - 1) (omega arith) in
    let entry : slice_index_or h p d ≡ at.0 = get_or_from_slice_get h p (at.0) d at.1 in
    last_for h j p (at.0) n within (parts.below (i - 1) (omega arith)) at.1 at.2 (λ k f up lt s is.
    let there = w.whole k f (omega arith) s is in
    let same = there.2 in
    elim (cases_lt there.0 i) [
      | inl before ↦ let order = w.rises there.0 (i - 1) (omega arith) (omega arith) in omega arith
      | inr after ↦ let late = parts.behind there.0 after there.1 in omega arith
    ]) ∙ ap (λ (x : Applied). Some x) (sym entry)

-- ---- the places of stamps

-- what was there before, and that nothing was
pub some_of : (o : Option ℕ) → is_some o ≡ true → (k : ℕ) × (o ≡ Some k)
some_of None is = absurd cc
some_of (Some k) is = (k, refl)

pub none_of : (o : Option ℕ) → is_some o ≡ false → o ≡ None
none_of None is = refl
none_of (Some k) is = absurd cc

-- a new stamp is one more
pub stamps_more : (h : List Applied) (n : ℕ) (place more : ℕ → Option ℕ) (e : Applied) → AreStampsOf h n place → slice_get h n ≡ Some e → place e.stamp ≡ None →
    ((t : ℕ) → more t ≡ (if nat_eq e.stamp t then Some n else place t)) → AreStampsOf h (n + 1) more
stamps_more h n place more e w s new put = record {
  found = λ k f lt t. elim (cases_lt k n) [
    | inl before ↦ put f.stamp ∙ other e.stamp f.stamp (Some n) (place f.stamp) (λ same.
        let no : None ≡ Some k = sym new ∙ ap place same ∙ w.found k f before t in cc) ∙ w.found k f before t
    | inr le ↦
        let same : n ≡ k = omega arith in
        let entry : e ≡ f = some_same (sym s ∙ ap (slice_get h) same ∙ t) in
        put f.stamp ∙ own e.stamp f.stamp (Some n) (place f.stamp) (ap (λ (x : Applied). x.stamp) entry) ∙ ap (λ (x : ℕ). Some x) same
  ];
  stands = λ t k found. elim (cases_eq e.stamp t) [
    | inl same ↦
        let here : Some n ≡ Some k = sym (own e.stamp t (Some n) (place t) same) ∙ sym (put t) ∙ found in
        let at : n ≡ k = some_same here in
        (e, omega arith, ap (slice_get h) (sym at) ∙ s, same)
    | inr apart ↦
        let old = w.stands t k (sym (other e.stamp t (Some n) (place t) apart) ∙ sym (put t) ∙ found) in
        (old.0, (let below = old.1 in omega arith), old.2, old.3)
  ];
}
  where
    own : (a b : ℕ) (x y : Option ℕ) → a ≡ b → (if nat_eq a b then x else y) ≡ x
    own a b x y same = ap (λ c. if c then x else y) (eq-eqb a b same)

    other : (a b : ℕ) (x y : Option ℕ) → a ≢ b → (if nat_eq a b then x else y) ≡ y
    other a b x y apart = ap (λ c. if c then x else y) (ne_eqb a b apart)

-- each stamp stands at one place
abbrev AtOnePlace : List Applied → Type 0
AtOnePlace h = (i k : ℕ) (e f : Applied) → slice_get h i ≡ Some e → slice_get h k ≡ Some f → e.stamp ≡ f.stamp → i ≡ k

distinct_where : (h : List Applied) → AtOnePlace h → HaveDistinctStamps h
distinct_where [] at = tt
distinct_where (x ∷ h) at = (
  all_where (λ (f : Applied). x.stamp ≢ f.stamp) h (λ k f s same. let bad : 0 ≡ suc k = at 0 (suc k) x f refl s same in omega arith),
  distinct_where h (λ i k e f s t same. let up : suc i ≡ suc k = at (suc i) (suc k) e f s t same in omega arith),
)

one_place : (h : List Applied) → HaveDistinctStamps h → AtOnePlace h
one_place [] w i k e f s t same = let no : None ≡ Some e = s in absurd cc
one_place (x ∷ h) w zero zero e f s t same = refl
one_place (x ∷ h) w zero (suc k) e f s t same =
    let first : x ≡ e = some_same s in
    absurd (AllByRecursion-get (λ (y : Applied). x.stamp ≢ y.stamp) h k f w.0 t (ap (λ (y : Applied). y.stamp) first ∙ same))
one_place (x ∷ h) w (suc i) zero e f s t same =
    let first : x ≡ f = some_same t in
    absurd (AllByRecursion-get (λ (y : Applied). x.stamp ≢ y.stamp) h i e w.0 s (ap (λ (y : Applied). y.stamp) first ∙ sym same))
one_place (x ∷ h) w (suc i) (suc k) e f s t same = ap (λ n. suc n) (one_place h w.1 i k e f s t same)

-- a stamp that was there before is doubled
pub doubled : (h : List Applied) (n k : ℕ) (place : ℕ → Option ℕ) (e : Applied) → AreStampsOf h n place → slice_get h n ≡ Some e → place e.stamp ≡ Some k → are_distinct h ≡ false
doubled h n k place e w s before =
    let old = w.stands e.stamp k before in
    false_from_ne_true (are_distinct h) (λ yes.
    let same : k ≡ n = one_place h ((Decides-are_distinct h).0 yes) k n (old.0) e old.2 s old.3 in
    let below = old.1 in
    omega arith)

pub all_new : (h : List Applied) (place : ℕ → Option ℕ) → AreStampsOf h (length h) place → are_distinct h ≡ true
all_new h place w =
    (Decides-are_distinct h).1 (distinct_where h (λ i k e f s t same.
    some_same (sym (w.found i e (slice_get_within h i e s) s) ∙ ap place same ∙ w.found k f (slice_get_within h k f t) t)))

-- ---- a stamp after a prefix

pub shows_nothing : (h : List Applied) (n t : ℕ) (js : List ℕ) (place : ℕ → Option ℕ) → AreStampsOf h (length h) place → place t ≡ None → shows_stamp js t (drop n h) ≡ false
shows_nothing h n t js place w none =
    false_from_ne_true (shows_stamp js t (drop n h)) (λ yes.
    let shown = (Decides-shows_stamp h js n t).0 yes in
    let entry = shown.4 in
    let there : place t ≡ Some shown.0 = ap place (sym entry.3) ∙ w.found shown.0 entry.0 (slice_get_within h shown.0 entry.0 entry.1) entry.1 in
    let no : None ≡ Some shown.0 = sym none ∙ there in
    cc)

shows_there : (h : List Applied) (n t k : ℕ) (js : List ℕ) (place : ℕ → Option ℕ) (d : Applied) → AreStampsOf h (length h) place → place t ≡ Some k →
    shows_stamp js t (drop n h) ≡ (nat_le n k && list_any (λ j. j == (slice_index_or h k d).component) js)
shows_there h n t k js place d w there =
    let at = w.stands t k there in
    let e : Applied = slice_index_or h k d in
    let same : e ≡ at.0 = get_or_from_slice_get h k (at.0) d at.2 in
    let stands : slice_get h k ≡ Some e = at.2 ∙ ap (λ (x : Applied). Some x) (sym same) in
    let stamp : e.stamp ≡ t = ap (λ (x : Applied). x.stamp) same ∙ at.3 in
    same_from_decides (shows_stamp js t (drop n h)) (nat_le n k && list_any (λ j. j == e.component) js) (Decides-shows_stamp h js n t)
    (Decides-like (nat_le n k && list_any (λ j. j == e.component) js)
    (λ v. (k, e.component, v.0, v.1, (e, stands, refl, stamp)))
    (λ v.
    let late : n ≤ v.0 = v.2 in
    let entry = v.4 in
    let first : place t ≡ Some v.0 = ap place (sym entry.3) ∙ w.found v.0 entry.0 (slice_get_within h v.0 entry.0 entry.1) entry.1 in
    let here : k ≡ v.0 = some_same (sym there ∙ first) in
    let one : e ≡ entry.0 = some_same (sym stands ∙ ap (slice_get h) here ∙ entry.1) in
    (omega arith, subst (Contains js) (sym (ap (λ (x : Applied). x.component) one ∙ entry.2)) v.3))
    (Decides-and (nat_le n k) (list_any (λ j. j == e.component) js) (Decides-nat_le n k) (Decides-contains_number js e.component)))

pub shows_late : (h : List Applied) (n t k : ℕ) (js : List ℕ) (place : ℕ → Option ℕ) (d : Applied) → AreStampsOf h (length h) place → place t ≡ Some k → n ≤ k →
    shows_stamp js t (drop n h) ≡ list_any (λ j. j == (slice_index_or h k d).component) js
shows_late h n t k js place d w there late =
    shows_there h n t k js place d w there ∙ ap (λ b. b && list_any (λ j. j == (slice_index_or h k d).component) js) (le-leb n k late)

pub shows_early : (h : List Applied) (n t k : ℕ) (js : List ℕ) (place : ℕ → Option ℕ) (d : Applied) → AreStampsOf h (length h) place → place t ≡ Some k → k < n →
    shows_stamp js t (drop n h) ≡ false
shows_early h n t k js place d w there early =
    shows_there h n t k js place d w there ∙ ap (λ b. b && list_any (λ j. j == (slice_index_or h k d).component) js) (lt-leb n k early)

-- ---- the lists of all components

pub list_at_within : (ls : List (Vec ℕ)) (j : ℕ) (d : Vec ℕ) → j < length ls → (slice_index_or ls j d).items ≡ list_at ls j
list_at_within [] j d w = absurd (omega arith)
list_at_within (x ∷ ls) zero d w = refl
list_at_within (x ∷ ls) (suc j) d w = list_at_within ls j d (omega arith)

list_set_same : (ls : List (Vec ℕ)) (c : ℕ) (v : Vec ℕ) → c < length ls → list_at (slice_set ls c v) c ≡ v.items
list_set_same [] c v w = absurd (omega arith)
list_set_same (x ∷ ls) zero v w = refl
list_set_same (x ∷ ls) (suc c) v w = list_set_same ls c v (omega arith)

list_set_other : (ls : List (Vec ℕ)) (c j : ℕ) (v : Vec ℕ) → c ≢ j → list_at (slice_set ls c v) j ≡ list_at ls j
list_set_other [] c j v apart = refl
list_set_other (x ∷ ls) zero zero v apart = absurd (apart refl)
list_set_other (x ∷ ls) zero (suc j) v apart = refl
list_set_other (x ∷ ls) (suc c) zero v apart = refl
list_set_other (x ∷ ls) (suc c) (suc j) v apart = list_set_other ls c j v (λ same. apart (ap (λ n. suc n) same))

pub lists_more : (h : List Applied) (n : ℕ) (ls : List (Vec ℕ)) (e : Applied) (v : Vec ℕ) → AreListsOf h n ls → slice_get h n ≡ Some e → e.component < length ls →
    v.items ≡ list_at ls e.component ++ n ∷ [] → AreListsOf h (n + 1) (slice_set ls e.component v)
lists_more h n ls e v w s within is j =
    elim (cases_eq e.component j) [
      | inl same ↦
          subst (λ (i : ℕ). ArePlacesOf h (n + 1) i (list_at (slice_set ls e.component v) i)) same
          (subst (ArePlacesOf h (n + 1) e.component) (sym (list_set_same ls e.component v within ∙ is))
          (places_more h n e.component (list_at ls e.component) e (w e.component) s refl))
      | inr apart ↦
          subst (ArePlacesOf h (n + 1) j) (sym (list_set_other ls e.component j v apart))
          (places_kept h n j (list_at ls j) e (w j) s apart)
    ]
