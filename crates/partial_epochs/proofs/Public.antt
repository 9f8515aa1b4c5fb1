-- What is true of an epoch's history is true of the one history, with public stamps.
use Rattle.partial_epochs.proofs.{Common.{ℕ, zero, suc, ◌≡◌, ◌≢◌, ◌+◌, ◌*◌, ◌<◌, ◌≤◌, ◌⊎◌, ◌++◌, Bool, if◌then◌else◌, Option, Some, None, IfSome, IsSome, List, [], ◌∷◌, length, map, take, slice_get, Contains, refl, sym, ap, subst, ◌∙◌, inl, inr, arith, length-append, AllByRecursion, option_map, option_map_or, lt-ltb, length-map, Applied, Call, Note, initial_stamp, last_entry, stamp_of, value_of, AreCollects, Fits, IsEntryFor, IsTrueOf, all_take, first_free, Plan, stamp_after, history_of, opened_after, public_entry, public_log, public_stamp, stamp_limit, IsEpochPlan, ExpectedOne, IsEpochHistory, public_answer, public_call, public_note, public_of, not_below}, Continue.{epochs_continue, history_took, last_all, many}}
use Rattle.partial_model.specs.declared.call.Answer.{Answer}

-- the entry at a place after others
pub get_past : {A : Type 0} (a b : List A) (k : ℕ) → slice_get (a ++ b) (length a + k) ≡ slice_get b k
get_past [] b k = let is : 0 + k ≡ k = omega arith in ap (slice_get b) is
get_past (x ∷ a) b k = let is : suc (length a) + k ≡ suc (length a + k) = omega arith in ap (slice_get (x ∷ (a ++ b))) is ∙ get_past a b k

pub get_map : (g : Applied → Applied) (h : List Applied) (k : ℕ) (x : Applied) → slice_get h k ≡ Some x → slice_get (map g h) k ≡ Some (g x)
get_map g [] k x is = let bad : None ≡ Some x = is in cc
get_map g (y ∷ h) zero x is = ap (option_map g) is
get_map g (y ∷ h) (suc k) x is = get_map g h k x is

module _ (e : Plan) (plan : IsEpochPlan e) (before : List (List Applied)) (h : List Applied) (above : AllByRecursion (λ (a : Applied). first_free e.sizes ≤ a.stamp) h) where
  abbrev g : ℕ
  g = length before

  abbrev all : List Applied
  all = history_of (h ∷ before)

  first_is : (hs : List (List Applied)) → (opened_after e.opening hs).first ≡ e.opening.first
  first_is [] = refl
  first_is (x ∷ hs) = first_is hs

  pub initial_low : (j : ℕ) → j < e.sizes.m → initial_stamp (opened_after e.opening before) j < first_free e.sizes
  initial_low j low = let f = plan.first in let same = first_is before in omega (arith, low, f, same)

  public_low : (j s : ℕ) → s < first_free e.sizes → public_of e before j s ≡ stamp_after e.opening before j
  public_low j s low = ap (λ (c : Bool). if c then stamp_after e.opening before j else public_stamp (length before) s) (lt-ltb s (first_free e.sizes) low)

  public_high : (j s : ℕ) → first_free e.sizes ≤ s → public_of e before j s ≡ public_stamp (length before) s
  public_high j s from = ap (λ (c : Bool). if c then stamp_after e.opening before j else public_stamp (length before) s) (not_below s (first_free e.sizes) from)

  last_above : (n j : ℕ) → IfSome (last_entry j (take n h)) (λ (a : Applied). first_free e.sizes ≤ a.stamp)
  last_above n j = last_all (λ (a : Applied). first_free e.sizes ≤ a.stamp) None j (take n h) tt (all_take (λ (a : Applied). first_free e.sizes ≤ a.stamp) n h above)

  -- the public stamp of a stamp that the component had
  pub stamp_public : (n j : ℕ) → j < e.sizes.m → public_of e before j (stamp_of (opened_after e.opening before) (take n h) j)
      ≡ stamp_of e.opening (take (length (history_of before) + n) (history_of (h ∷ before))) j
  stamp_public n j low =
      let values = plan.values in
      by (last_entry j (take n h)) refl (last_above n j)
      ∙ sym (epochs_continue e.opening (take n h) before j (omega (arith, low, values))).stamp
      ∙ ap (λ (l : List Applied). stamp_of e.opening l j) (sym (history_took h before n))
    where
      by : (t : Option Applied) → last_entry j (take n h) ≡ t → IfSome t (λ (a : Applied). first_free e.sizes ≤ a.stamp) →
          public_of e before j (stamp_of (opened_after e.opening before) (take n h) j)
          ≡ option_map_or (λ (a : Applied). public_stamp (length before) a.stamp) (last_entry j (take n h)) (stamp_after e.opening before j)
      by None is none =
          ap (λ (t : Option Applied). public_of e before j (option_map_or (λ (a : Applied). a.stamp) t (initial_stamp (opened_after e.opening before) j))) is
          ∙ public_low j (initial_stamp (opened_after e.opening before) j) (initial_low j low)
          ∙ sym (ap (λ (t : Option Applied). option_map_or (λ (a : Applied). public_stamp (length before) a.stamp) t (stamp_after e.opening before j)) is)
      by (Some a) is from =
          ap (λ (t : Option Applied). public_of e before j (option_map_or (λ (a : Applied). a.stamp) t (initial_stamp (opened_after e.opening before) j))) is
          ∙ public_high j a.stamp from
          ∙ sym (ap (λ (t : Option Applied). option_map_or (λ (a : Applied). public_stamp (length before) a.stamp) t (stamp_after e.opening before j)) is)

  pub value_public : (n j : ℕ) → j < e.sizes.m → value_of (opened_after e.opening before) (take n h) j ≡ value_of e.opening (take (length (history_of before) + n) (history_of (h ∷ before))) j
  value_public n j low =
      let values = plan.values in
      sym (epochs_continue e.opening (take n h) before j (omega (arith, low, values))).value
      ∙ ap (λ (l : List Applied). value_of e.opening l j) (sym (history_took h before n))

  entry_public : (k : ℕ) (a : Applied) → slice_get h k ≡ Some a → slice_get (history_of (h ∷ before)) (length (history_of before) + k) ≡ Some (public_entry (length before) a)
  entry_public k a is = get_past (history_of before) (public_log (length before) h) k ∙ get_map (public_entry (length before)) h k a is

  entry_for : (k j t : ℕ) → IsEntryFor h k j t → IsEntryFor (history_of (h ∷ before)) (length (history_of before) + k) j (public_stamp (length before) t)
  entry_for k j t w = (public_entry (length before) w.0, entry_public k w.0 w.1, w.2, ap (public_stamp (length before)) w.3)

  pub longer : (n : ℕ) → n ≤ length h → length (history_of before) + n ≤ length (history_of (h ∷ before))
  longer n low = let both = length-append (history_of before) (public_log (length before) h) in let same = length-map h (public_entry (length before)) in omega (arith, both, same, low)

  values_public : (n : ℕ) (js : List ℕ) → AllByRecursion (λ j. j < length (opened_after e.opening before).values) js →
      map (λ j. value_of (opened_after e.opening before) (take n h) j) js ≡ map (λ j. value_of e.opening (take (length (history_of before) + n) (history_of (h ∷ before))) j) js
  values_public n [] names = refl
  values_public n (j ∷ js) names =
      let m = many e.opening before in
      let values = plan.values in
      let low = names.0 in
      ap (λ v. v ∷ map (λ j. value_of (opened_after e.opening before) (take n h) j) js) (value_public n j (omega (arith, m, values, low)))
      ∙ ap (λ l. value_of e.opening (take (length (history_of before) + n) (history_of (h ∷ before))) j ∷ l) (values_public n js names.1)

  borrowed_public : (n : ℕ) (js : List ℕ) (b : Option ℕ) → IfSome b (λ t. (k j : ℕ) × (n ≤ k) × Contains js j × IsEntryFor h k j t) →
      IfSome (option_map (public_stamp (length before)) b) (λ t. (k j : ℕ) × (length (history_of before) + n ≤ k) × Contains js j × IsEntryFor (history_of (h ∷ before)) k j t)
  borrowed_public n js None w = tt
  borrowed_public n js (Some t) w = let from = w.2 in (length (history_of before) + w.0, w.1, omega (arith, from), w.3, entry_for w.0 w.1 t w.4)

  some_public : (b : Option ℕ) → IsSome (option_map (public_stamp (length before)) b) → IsSome b
  some_public None is = is
  some_public (Some t) is = refl

  collects_public : (r c : ℕ) (b : Option ℕ) → AreCollects r c b → AreCollects r c (option_map (public_stamp (length before)) b)
  collects_public zero c b w = (w.0, ap (option_map (public_stamp (length before))) w.1)
  collects_public (suc r) c b w = (w.0, w.1, λ is. w.2 (some_public b is))

  -- stamps that a component had have public stamps of their own
  carried_step : (c j : ℕ) (n : ℕ) (t : Option Applied) → c < n * stamp_limit + first_free e.sizes → IfSome t (λ (a : Applied). a.stamp < stamp_limit) →
      option_map_or (λ (a : Applied). public_stamp n a.stamp) t c < suc n * stamp_limit + first_free e.sizes
  carried_step c j n None rest small = let more : suc n * stamp_limit ≡ n * stamp_limit + stamp_limit = omega arith in omega (arith, rest, more)
  carried_step c j n (Some a) rest small = let more : suc n * stamp_limit ≡ n * stamp_limit + stamp_limit = omega arith in omega (arith, small, more)

  carried_low : (hs : List (List Applied)) (j : ℕ) → AllByRecursion (IsEpochHistory e) hs → j < e.sizes.m → stamp_after e.opening hs j < length hs * stamp_limit + first_free e.sizes
  carried_low [] j all low = let f = plan.first in omega (arith, f, low)
  carried_low (x ∷ hs) j all low = carried_step (stamp_after e.opening hs j) j (length hs) (last_entry j x) (carried_low hs j all.1 low)
      (last_all (λ (a : Applied). a.stamp < stamp_limit) None j x tt all.0.below)

  abbrev IsStampOf : ℕ → ℕ → Type 0
  IsStampOf j s = (s ≡ initial_stamp (opened_after e.opening before) j) ⊎ (first_free e.sizes ≤ s)

  had : (n j : ℕ) → IsStampOf j (stamp_of (opened_after e.opening before) (take n h) j)
  had n j = by (last_entry j (take n h)) (last_above n j)
    where
      by : (t : Option Applied) → IfSome t (λ (a : Applied). first_free e.sizes ≤ a.stamp) →
          IsStampOf j (option_map_or (λ (a : Applied). a.stamp) t (initial_stamp (opened_after e.opening before) j))
      by None none = inl refl
      by (Some a) from = inr from

  module _ (earlier : AllByRecursion (IsEpochHistory e) before) where
    apart_public : (j s t : ℕ) → j < e.sizes.m → IsStampOf j s → IsStampOf j t → s ≢ t → public_of e before j s ≢ public_of e before j t
    apart_public j s t low (inl a) (inl c) ne same = ne (a ∙ sym c)
    apart_public j s t low (inl a) (inr from) ne same =
        let init = initial_low j low in
        let x = public_low j s (omega (arith, init, a)) in
        let y = public_high j t from in
        let c = carried_low before j earlier low in
        omega (arith, x, y, c, from, same)
    apart_public j s t low (inr from) (inl a) ne same =
        let init = initial_low j low in
        let x = public_low j t (omega (arith, init, a)) in
        let y = public_high j s from in
        let c = carried_low before j earlier low in
        omega (arith, x, y, c, from, same)
    apart_public j s t low (inr from) (inr up) ne same =
        let x = public_high j s from in
        let y = public_high j t up in
        ne (omega (arith, x, y, same))

    inside : (j : ℕ) → j < length (opened_after e.opening before).values → j < e.sizes.m
    inside j low = let m = many e.opening before in let values = plan.values in omega (arith, m, values, low)

    pub public_true : (p : ℕ) (c : Call) (a : Answer) (n : Note) → Fits (length (opened_after e.opening before).values) c a (Some n) → ExpectedOne (opened_after e.opening before) h c a →
        IsTrueOf (opened_after e.opening before) h p c a n →
        IsTrueOf e.opening (history_of (h ∷ before)) p (public_call e before c) (public_answer e before c a) (public_note (length (history_of before)) n)
    public_true p (Call.Update j v) (Answer.Applied s) (Note.Wrote k) f x w = entry_public k (record { port = p; component = j; value = v; stamp = s }) w
    public_true p (Call.Update j v) (Answer.Lost by) (Note.Lost k) f x w = entry_for k j by w
    public_true p (Call.Scan js) (Answer.Scanned vs c b) (Note.Saw n) f x w = record {
      within = longer n w.within;
      values = w.values ∙ values_public n js f;
      collects = collects_public (length js) c b w.collects;
      borrowed = borrowed_public n js b w.borrowed;
    }
    public_true p (Call.Read j) (Answer.Read v s) (Note.Saw n) f x w =
        (longer n w.0, w.1 ∙ value_public n j (inside j f), ap (public_of e before j) w.2 ∙ stamp_public n j (inside j f))
    public_true p (Call.UpdateIf j y v) (Answer.Applied s) (Note.Wrote k) f x w =
        (entry_public k (record { port = p; component = j; value = v; stamp = s }) w.0, sym (stamp_public k j (inside j f)) ∙ ap (public_of e before j) w.1)
    public_true p (Call.UpdateIf j y v) (Answer.Changed t) (Note.Saw n) f x w = (
      longer n w.0,
      sym (stamp_public n j (inside j f)) ∙ ap (public_of e before j) w.1,
      apart_public j t y (inside j f) (subst (IsStampOf j) w.1 (had n j)) (subst (IsStampOf j) (sym x.2) (had x.0 j)) w.2,
    )
    public_true p _ _ _ f x w = absurd w

    pub public_fits : (c : Call) (a : Answer) (n : Note) → Fits (length (opened_after e.opening before).values) c a (Some n) →
        Fits (length e.opening.values) (public_call e before c) (public_answer e before c a) (Some (public_note (length (history_of before)) n))
    public_fits (Call.Update j v) (Answer.Applied s) (Note.Wrote k) f = subst (λ m. j < m) (many e.opening before) f
    public_fits (Call.Update j v) (Answer.Lost by) (Note.Lost k) f = subst (λ m. j < m) (many e.opening before) f
    public_fits (Call.Scan js) (Answer.Scanned vs c b) (Note.Saw n) f = subst (λ m. AllByRecursion (λ j. j < m) js) (many e.opening before) f
    public_fits (Call.Read j) (Answer.Read v s) (Note.Saw n) f = subst (λ m. j < m) (many e.opening before) f
    public_fits (Call.UpdateIf j y v) (Answer.Applied s) (Note.Wrote k) f = subst (λ m. j < m) (many e.opening before) f
    public_fits (Call.UpdateIf j y v) (Answer.Changed t) (Note.Saw n) f = subst (λ m. j < m) (many e.opening before) f
    public_fits _ _ _ f = absurd f
