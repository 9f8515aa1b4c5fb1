-- The least place that fits: where a call's note is legal, so is the one that is found from its begin on.
use Rattle.partial_replay.proofs.Common.{ℕ, zero, suc, ◌≡◌, ◌≢◌, ◌+◌, ◌<◌, ◌≤◌, List, [], ◌∷◌, length, take, slice_index, Option, Some, None, IfSome, Contains, slice_get, refl, sym, ◌∙◌, ap, inl, inr, arith, option_map, option_map_or, cases_lt, take-take, Applied, Opening, Call, Answer, Note, HaveDistinctStamps, IsHistory, last_entry, initial_stamp, stamp_of, Fits, IsTrueOf, IsEntryFor, place_of, shown_by, wrote, LastAt, last_at, place_below, AllByRecursion-get, Agrees, IsPlaceFrom, IsNoteFrom, IsLeastFrom, prefix_from}

-- the place that is found is one of the history
pub place_within : (h : List Applied) (began s : ℕ) (found : Option ℕ) → IsPlaceFrom h began s found → IfSome found (λ k. k < length h)
place_within h began s None place = tt
place_within h began s (Some k) place = place_below h k place.1.0 place.1.1

-- no two places have one stamp
pub one_place : (h : List Applied) (i k : ℕ) (a b : Applied) → HaveDistinctStamps h → slice_get h i ≡ Some a → slice_get h k ≡ Some b → a.stamp ≡ b.stamp → i ≡ k
one_place [] i k a b d x y same = let bad : None ≡ Some a = x in cc
one_place (e ∷ h) zero zero a b d x y same = refl
one_place (e ∷ h) zero (suc k) a b d x y same =
    let is : e ≡ a = cc in absurd (AllByRecursion-get (λ (f : Applied). e.stamp ≢ f.stamp) h k b d.0 y (ap (λ (f : Applied). f.stamp) is ∙ same))
one_place (e ∷ h) (suc i) zero a b d x y same =
    let is : e ≡ b = cc in absurd (AllByRecursion-get (λ (f : Applied). e.stamp ≢ f.stamp) h i a d.0 x (ap (λ (f : Applied). f.stamp) is ∙ sym same))
one_place (e ∷ h) (suc i) (suc k) a b d x y same = ap suc (one_place h i k a b d.1 x y same)

-- an entry of the first n is an entry at that place below n
front_place : {A : Type 0} (h : List A) (n k : ℕ) (e : A) → slice_get (take n h) k ≡ Some e → (k < n) × (slice_get h k ≡ Some e)
front_place h zero k e s = let bad : None ≡ Some e = s in cc
front_place [] (suc n) k e s = let bad : None ≡ Some e = s in cc
front_place (x ∷ h) (suc n) zero e s = (omega arith, s)
front_place (x ∷ h) (suc n) (suc k) e s = let both = front_place h n k e s in (omega (arith, both.0), both.1)

-- the least prefix that shows a stamp from the begin on shows the same last entry
pub record ShowsSame (h : List Applied) (j began n m : ℕ) : Type 0 where
  pub least : m ≤ n
  pub behind : began ≤ m
  pub same : last_entry j (take m h) ≡ last_entry j (take n h)

stamp_behind : (o : Opening) (j : ℕ) (h : List Applied) (found : Option Applied) (s : ℕ) → last_entry j h ≡ found → stamp_of o h j ≡ s → option_map_or (λ (e : Applied). e.stamp) found
    (initial_stamp o j) ≡ s
stamp_behind o j h found s is stamp = ap (λ (f : Option Applied). option_map_or (λ (e : Applied). e.stamp) f (initial_stamp o j)) (sym is) ∙ stamp

shows_initial : (o : Opening) (h : List Applied) (j began n s : ℕ) (found : Option ℕ) → IsHistory o h → began ≤ n → j < length o.values → s ≡ initial_stamp o j →
    ((a : ℕ) → last_entry j (take a (take n h)) ≡ None) → IsPlaceFrom h began s found → ShowsSame h j began n (prefix_from began found)
shows_initial o h j began n s None hist behind below first all place =
    let whole : take n (take n h) ≡ take n h = take-take n n h (omega arith) in
    let front : take began (take n h) ≡ take began h = take-take began n h behind in
    record { least = behind; behind = omega arith; same = ap (last_entry j) (sym front) ∙ all began ∙ sym (ap (last_entry j) (sym whole) ∙ all n) }
shows_initial o h j began n s (Some k) hist behind below first all place =
    let e = place.1.0 in
    absurd (AllByRecursion-get (λ (f : Applied). (i : ℕ) → i < length o.values → f.stamp ≢ initial_stamp o i) h k e hist.not_initial place.1.1 j below (place.1.2 ∙ first))

shows_entry : (o : Opening) (h : List Applied) (j began n s : ℕ) (found : Option ℕ) (l : LastAt None j (take n h)) → IsHistory o h → began ≤ n → (l.entry).stamp ≡ s → IsPlaceFrom h began s found →
    ShowsSame h j began n (prefix_from began found)
shows_entry o h j began n s None l hist behind stamp place =
    let both = front_place h n (l.place) (l.entry) (l.stands) in
    let whole : take n (take n h) ≡ take n h = take-take n n h (omega arith) in
    let front : take began (take n h) ≡ take began h = take-take began n h behind in
    elim (cases_lt (l.place) began) [
      | inl before ↦ record {
        least = behind;
        behind = omega arith;
        same = ap (last_entry j) (sym front) ∙ l.from began before ∙ sym (ap (last_entry j) (sym whole) ∙ l.from n (omega (arith, before, behind)));
      }
      | inr from ↦ absurd (place (l.place) (l.entry) from both.1 stamp)
    ]
shows_entry o h j began n s (Some k) l hist behind stamp place =
    let both = front_place h n (l.place) (l.entry) (l.stands) in
    let is : l.place ≡ k = one_place h (l.place) k (l.entry) (place.1.0) hist.distinct both.1 place.1.1 (stamp ∙ sym (place.1.2)) in
    let more : k + 1 ≤ n = omega (arith, is, both.0) in
    let whole : take n (take n h) ≡ take n h = take-take n n h (omega arith) in
    let front : take (k + 1) (take n h) ≡ take (k + 1) h = take-take (k + 1) n h more in
    record {
      least = more;
      behind = omega (arith, place.0);
      same = ap (last_entry j) (sym front) ∙ l.from (k + 1)
          (omega (arith, is)) ∙ sym (ap (last_entry j) (sym whole) ∙ l.from n (omega (arith, both.0)));
    }

pub shows_same : (o : Opening) (h : List Applied) (j began n s : ℕ) (found : Option ℕ) → IsHistory o h → began ≤ n → j < length o.values → stamp_of o (take n h) j ≡ s → IsPlaceFrom h began s found →
    ShowsSame h j began n (prefix_from began found)
shows_same o h j began n s found hist behind below stamp place =
    let whole : take n (take n h) ≡ take n h = take-take n n h (omega arith) in
    elim (last_at None j (take n h)) [
      | inl all ↦ shows_initial o h j began n s found hist behind below (sym (stamp_behind o j (take n h) None s (ap (last_entry j) (sym whole) ∙ all n) stamp)) all place
      | inr l ↦
          let both = front_place h n (l.place) (l.entry) (l.stands) in
          shows_entry o h j began n s found l hist behind (stamp_behind o j (take n h) (Some (l.entry)) s (ap (last_entry j) (sym whole) ∙ l.from n (both.0)) stamp) place
    ]

-- before the entry with a stamp no prefix shows that stamp
not_before : (o : Opening) (h : List Applied) (j k i s : ℕ) (e : Applied) → IsHistory o h → j < length o.values → slice_get h k ≡ Some e → e.stamp ≡ s → i ≤ k → stamp_of o (take i h) j ≡ s → ⊥
not_before o h j k i s e hist below stands stamp before shows =
    let whole : take i (take i h) ≡ take i h = take-take i i h (omega arith) in
    elim (last_at None j (take i h)) [
      | inl all ↦
          let first : initial_stamp o j ≡ s = stamp_behind o j (take i h) None s (ap (last_entry j) (sym whole) ∙ all i) shows in
          AllByRecursion-get (λ (f : Applied). (a : ℕ) → a < length o.values → f.stamp ≢ initial_stamp o a) h k e hist.not_initial stands j below (stamp ∙ sym first)
      | inr l ↦
          let both = front_place h i (l.place) (l.entry) (l.stands) in
          let last : (l.entry).stamp ≡ s = stamp_behind o j (take i h) (Some (l.entry)) s (ap (last_entry j) (sym whole) ∙ l.from i (both.0)) shows in
          let same : l.place ≡ k = one_place h (l.place) k (l.entry) e hist.distinct both.1 stands (last ∙ sym stamp) in
          omega (arith, same, both.0, before)
    ]

-- the prefix that is found is the least one
least_prefix : (o : Opening) (h : List Applied) (j began s : ℕ) (found : Option ℕ) → IsHistory o h → j < length o.values → IsPlaceFrom h began s found → (i : ℕ) → began ≤ i →
    i < prefix_from began found → stamp_of o (take i h) j ≡ s → ⊥
least_prefix o h j began s None hist below place i from within shows = omega (arith, from, within)
least_prefix o h j began s (Some k) hist below place i from within shows = not_before o h j k i s (place.1.0) hist below place.1.1 place.1.2 (omega (arith, within)) shows

-- what the note that is found says of a call whose note of some place is legal
pub record FindsPlace (o : Opening) (h : List Applied) (p began : ℕ) (c : Call) (a : Answer) (n : Note) (found : Option Note) : Type 0 where
  pub note : Note
  pub is : found ≡ Some note
  pub fits : Fits (length o.values) c a (Some note)
  pub true' : IsTrueOf o h p c a note
  pub behind : began ≤ place_of note
  pub within : shown_by note ≤ shown_by n
  pub wrote' : wrote (Some note) ≡ wrote (Some n)
  pub least : IsLeastFrom o h began c a note

-- the place of an entry is found where the entry stands from the begin on
found_at : (o : Opening) (h : List Applied) (began s k : ℕ) (e : Applied) (found : Option ℕ) → IsHistory o h → began ≤ k → slice_get h k ≡ Some e → e.stamp ≡ s →
    IsPlaceFrom h began s found → found ≡ Some k
found_at o h began s k e None hist behind stands stamp place = absurd (place k e behind stands stamp)
found_at o h began s k e (Some i) hist behind stands stamp place = ap Some (one_place h i k (place.1.0) e hist.distinct place.1.1 stands (place.1.2 ∙ sym stamp))

pub finds_place : (o : Opening) (h : List Applied) (p began : ℕ) (words : List ℕ) (c : Call) (a : Answer) (n : Note) (found : Option Note) → IsHistory o h → Agrees o words h →
    Fits (length o.values) c a (Some n) → IsTrueOf o h p c a n → began ≤ place_of n → IsNoteFrom words h began c a found → FindsPlace o h p began c a n found
finds_place o h p began words (Call.Update j v) (Answer.Applied s) (Note.Wrote k) found hist agrees fits w behind place =
    let is = found_at o h began s k (record { port = p; component = j; value = v; stamp = s }) (place.0) hist behind w refl place.1 in
    record { note = Note.Wrote k; is = place.2 ∙ ap (option_map Note.Wrote) is; fits = fits; true' = w; behind = behind; within = omega arith; wrote' = refl; least = tt }
finds_place o h p began words (Call.Update j v) (Answer.Lost by) (Note.Lost k) found hist agrees fits w behind place =
    let is = found_at o h began by k (w.0) (place.0) hist behind (w.1) (w.3) place.1 in
    record { note = Note.Lost k; is = place.2 ∙ ap (option_map Note.Lost) is; fits = fits; true' = w; behind = behind; within = omega arith; wrote' = refl; least = tt }
finds_place o h p began words (Call.Read j) (Answer.Read v s) (Note.Saw n) found hist agrees fits w behind place =
    let l = shows_same o h j began n s (place.0) hist behind fits (sym (w.2)) place.1 in
    let m = prefix_from began (place.0) in
    record {
      note = Note.Saw m;
      is = place.2;
      fits = fits;
      true' = (
        omega (arith, l.least, w.0),
        w.1 ∙ ap (λ (f : Option Applied). option_map_or (λ (e : Applied). e.value) f (slice_index o.values j)) (sym l.same),
        w.2 ∙ ap (λ (f : Option Applied). option_map_or (λ (e : Applied). e.stamp) f (initial_stamp o j)) (sym l.same),
      );
      behind = l.behind;
      within = l.least;
      wrote' = refl;
      least = λ i from below shows. least_prefix o h j began s (place.0) hist fits place.1 i from below (sym shows.1);
    }
finds_place o h p began words (Call.UpdateIf j x v) (Answer.Applied s) (Note.Wrote k) found hist agrees fits w behind place =
    let is = found_at o h began s k (record { port = p; component = j; value = v; stamp = s }) (place.0) hist behind (w.0) refl place.1 in
    record { note = Note.Wrote k; is = place.2 ∙ ap (option_map Note.Wrote) is; fits = fits; true' = w; behind = behind; within = omega arith; wrote' = refl; least = tt }
finds_place o h p began words (Call.UpdateIf j x v) (Answer.Changed t) (Note.Saw n) found hist agrees fits w behind place =
    let l = shows_same o h j began n t (place.0) hist behind fits (w.1) place.1 in
    let m = prefix_from began (place.0) in
    record {
      note = Note.Saw m;
      is = place.2;
      fits = fits;
      true' = (omega (arith, l.least, w.0), ap (λ (f : Option Applied). option_map_or (λ (e : Applied). e.stamp) f (initial_stamp o j)) l.same ∙ w.1, w.2);
      behind = l.behind;
      within = l.least;
      wrote' = refl;
      least = λ i from below shows. least_prefix o h j began t (place.0) hist fits place.1 i from below shows;
    }
finds_place o h p began words (Call.Scan js) (Answer.Scanned vs c b) (Note.Saw n) found hist agrees fits w behind place =
    let l = place.1 o n agrees fits behind w.within w.values in
    let m = place.0 in
    let less : m ≤ n = elim (cases_lt n m) [ inl before ↦ absurd (l.least n behind before w.values) | inr from ↦ from ] in
    record {
      note = Note.Saw m;
      is = place.2;
      fits = fits;
      true' = record { within = l.within; values = l.holds; collects = w.collects; borrowed = borrowed_from js m n b less w.borrowed };
      behind = l.behind;
      within = less;
      wrote' = refl;
      least = λ i from below shows. l.least i from below shows;
    }
  where
    borrowed_from : (is : List ℕ) (m n : ℕ) (s : Option ℕ) → m ≤ n → IfSome s (λ t. (k j : ℕ) × (n ≤ k) × Contains is j × IsEntryFor h k j t) →
        IfSome s (λ t. (k j : ℕ) × (m ≤ k) × Contains is j × IsEntryFor h k j t)
    borrowed_from is m n None less w = tt
    borrowed_from is m n (Some t) less w = (w.0, w.1, (let from = w.2 in omega (arith, less, from)), w.3, w.4)
finds_place o h p began words _ _ _ found hist agrees fits w behind place = absurd w
