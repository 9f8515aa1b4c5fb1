-- Each test of the checker decides its clause of a legal outcome.
use Rattle.partial_model.proofs.{Common.{ℕ, zero, suc, ◌≡◌, ◌≢◌, ◌+◌, ◌-◌, ◌*◌, ◌/◌, ◌%◌, ◌<◌, ◌≤◌, inl, inr, ◌==◌, nat_le, nat_lt, Bool, true, false, not, ◌&&◌, ◌||◌, List, [], ◌∷◌, length, map, take, drop, slice_get, refl, sym, ap, ◌∙◌, subst, Decides, Contains, Option, Some, None, IfSome, IsSome, IsSomeAnd, arith, AllByRecursion, list_all, list_any, option_map_or, is_none, true≢false, or_cases, Decides-and, Decides-or, Decides-not, Decides-like, Decides-eqb, Decides-by_or, slice_get_past, Applied, Opening, Call, Answer, Note, Finish, Called, initial_stamp, value_of, stamp_of, HaveDistinctStamps, IsHistory, ClaimsPool, ClaimsSlot, MayBeRefused, Fits, IsEntryFor, AreCollects, SawTogether, IsTrueOf, IsLegal, indices_of, place_of, shown_by, Follows, IsInTime, RealTime, is_initial, are_distinct, is_history, names_components, claims_pool, claims_slot, may_be_refused, stands_at, is_entry_for, are_collects, hold, shows_stamp, saw_together, is_right, is_refusal, is_legal, follows, ends_in_time, is_in_time, are_in_time, Decides-contains, any_passes_from_place}, Decisions.{Decides-nat_le, Decides-nat_lt, Decides-and3, Decides-never, Decides-always, Decides-list_all, Decides-list_none, Decides-if_some}}
use Rattle.partial_model.specs.declared.call.Refused.{Refused}

-- ---- the history

-- s is the initial stamp of a component below m
abbrev pub IsInitial : Opening → ℕ → ℕ → Type 0
IsInitial o m s = (j : ℕ) × (j < m) × (s ≡ initial_stamp o j)

Decides-is_initial : (o : Opening) (m s : ℕ) → Decides (is_initial o m s) (IsInitial o m s)
Decides-is_initial o m s =
    Decides-like (is_initial o m s)
    (λ w. ((s - o.first) / 3, w.2, omega (arith, w.0, w.1)))
    (λ w. let j : ℕ = w.0 in let below : j < m = w.1 in let same : s ≡ o.first + 3 * j = w.2 in (omega arith, omega arith, omega arith))
    (Decides-and3 (nat_le o.first s) ((s - o.first) % 3 == 0) (nat_lt ((s - o.first) / 3) m) (Decides-nat_le o.first s) (Decides-eqb ((s - o.first) % 3) 0) (Decides-nat_lt ((s - o.first) / 3) m))

pub Decides-are_distinct : (h : List Applied) → Decides (are_distinct h) (HaveDistinctStamps h)
Decides-are_distinct [] = Decides-always tt
Decides-are_distinct (e ∷ h) =
    Decides-and (not (list_any (λ (f : Applied). e.stamp == f.stamp) h)) (are_distinct h)
    (Decides-list_none (λ (f : Applied). e.stamp == f.stamp) (λ f. e.stamp ≡ f.stamp) (λ f. Decides-eqb e.stamp f.stamp) h) (Decides-are_distinct h)

not_initial_all : (o : Opening) (m : ℕ) (h : List Applied) → AllByRecursion (λ (e : Applied). IsInitial o m e.stamp → ⊥) h →
    AllByRecursion (λ (e : Applied). (j : ℕ) → j < m → e.stamp ≢ initial_stamp o j) h
not_initial_all o m [] w = tt
not_initial_all o m (e ∷ h) w = (λ j lt same. w.0 (j, lt, same), not_initial_all o m h w.1)

all_not_initial : (o : Opening) (m : ℕ) (h : List Applied) → AllByRecursion (λ (e : Applied). (j : ℕ) → j < m → e.stamp ≢ initial_stamp o j) h →
    AllByRecursion (λ (e : Applied). IsInitial o m e.stamp → ⊥) h
all_not_initial o m [] w = tt
all_not_initial o m (e ∷ h) w = (λ i. w.0 i.0 i.1 i.2, all_not_initial o m h w.1)

pub Decides-is_history : (o : Opening) (h : List Applied) → Decides (is_history o h) (IsHistory o h)
Decides-is_history o h =
    let m : ℕ = length o.values in
    Decides-like (is_history o h)
    (λ w. record { components = w.0; distinct = w.1; not_initial = not_initial_all o m h w.2 })
    (λ w. (w.components, w.distinct, all_not_initial o m h w.not_initial))
    (Decides-and3 (list_all (λ (e : Applied). nat_lt e.component m) h) (are_distinct h) (not (list_any (λ (e : Applied). is_initial o m e.stamp) h))
    (Decides-list_all (λ (e : Applied). nat_lt e.component m) (λ e. e.component < m) (λ e. Decides-nat_lt e.component m) h)
    (Decides-are_distinct h)
    (Decides-list_none (λ (e : Applied). is_initial o m e.stamp) (λ e. IsInitial o m e.stamp) (λ e. Decides-is_initial o m e.stamp) h))

-- ---- one answer with its note

pub Decides-names_components : (m : ℕ) (js : List ℕ) → Decides (names_components m js) (AllByRecursion (λ j. j < m) js)
Decides-names_components m js = Decides-list_all (λ j. nat_lt j m) (λ j. j < m) (λ j. Decides-nat_lt j m) js

Decides-claims_pool : (c : Call) → Decides (claims_pool c) (ClaimsPool c)
Decides-claims_pool (Call.Update j v) = Decides-always tt
Decides-claims_pool (Call.Scan js) = Decides-nat_lt 0 (length js)
Decides-claims_pool (Call.Read j) = Decides-never (λ w. w)
Decides-claims_pool (Call.UpdateIf j s v) = Decides-always tt

Decides-claims_slot : (c : Call) → Decides (claims_slot c) (ClaimsSlot c)
Decides-claims_slot (Call.Update j v) = Decides-never (λ w. w)
Decides-claims_slot (Call.Scan js) = Decides-nat_lt 0 (length js)
Decides-claims_slot (Call.Read j) = Decides-never (λ w. w)
Decides-claims_slot (Call.UpdateIf j s v) = Decides-never (λ w. w)

Decides-may_be_refused : (m : ℕ) (c : Call) (cause : Refused) → Decides (may_be_refused m c cause) (MayBeRefused m c cause)
Decides-may_be_refused m c Refused.Component = Decides-not (names_components m (indices_of c)) (Decides-names_components m (indices_of c))
Decides-may_be_refused m c Refused.SlotsSpent = Decides-and (names_components m (indices_of c)) (claims_slot c) (Decides-names_components m (indices_of c)) (Decides-claims_slot c)
Decides-may_be_refused m c Refused.PoolSpent = Decides-and (names_components m (indices_of c)) (claims_pool c) (Decides-names_components m (indices_of c)) (Decides-claims_pool c)

same_entry : (e a : Applied) → (e.port ≡ a.port) × (e.component ≡ a.component) × (e.value ≡ a.value) × (e.stamp ≡ a.stamp) → e ≡ a
same_entry e a w =
    let made : ℕ → ℕ → ℕ → ℕ → Applied = λ p j v t. record { port = p; component = j; value = v; stamp = t } in
    let one : e ≡ made a.port e.component e.value e.stamp = ap (λ p. made p e.component e.value e.stamp) w.0 in
    let two : made a.port e.component e.value e.stamp ≡ made a.port a.component e.value e.stamp = ap (λ j. made a.port j e.value e.stamp) w.1 in
    let three : made a.port a.component e.value e.stamp ≡ made a.port a.component a.value e.stamp = ap (λ v. made a.port a.component v e.stamp) w.2 in
    one ∙ two ∙ three ∙ ap (made a.port a.component a.value) w.3

Decides-same_entry : (e a : Applied) → Decides ((e.port == a.port) && (e.component == a.component) && (e.value == a.value) && (e.stamp == a.stamp)) (e ≡ a)
Decides-same_entry e a =
    Decides-like ((e.port == a.port) && (e.component == a.component) && (e.value == a.value) && (e.stamp == a.stamp))
    (λ w. same_entry e a (w.0.0, w.0.1, w.0.2, w.1))
    (λ w. ((ap (λ (x : Applied). x.port) w, ap (λ (x : Applied). x.component) w, ap (λ (x : Applied). x.value) w), ap (λ (x : Applied). x.stamp) w))
    (Decides-and ((e.port == a.port) && (e.component == a.component) && (e.value == a.value)) (e.stamp == a.stamp)
    (Decides-and3 (e.port == a.port) (e.component == a.component) (e.value == a.value) (Decides-eqb e.port a.port) (Decides-eqb e.component a.component) (Decides-eqb e.value a.value))
    (Decides-eqb e.stamp a.stamp))

stands_at_found : (found : Option Applied) (a : Applied) → Decides (option_map_or (λ (e : Applied). (e.port == a.port) && (e.component == a.component) && (e.value == a.value) && (e.stamp == a.stamp))
    found false) (found ≡ Some a)
stands_at_found None a = Decides-never (λ w. cc)
stands_at_found (Some e) a =
    Decides-like ((e.port == a.port) && (e.component == a.component) && (e.value == a.value) && (e.stamp == a.stamp)) (λ w. ap (λ (x : Applied). Some x) w) (λ w. cc) (Decides-same_entry e a)

pub Decides-stands_at : (h : List Applied) (k : ℕ) (a : Applied) → Decides (stands_at h k a) (slice_get h k ≡ Some a)
Decides-stands_at h k a = stands_at_found (slice_get h k) a

is_entry_found : (found : Option Applied) (j t : ℕ) → Decides (option_map_or (λ (e : Applied). (e.component == j) && (e.stamp == t)) found false)
    ((e : Applied) × (found ≡ Some e) × (e.component ≡ j) × (e.stamp ≡ t))
is_entry_found None j t = Decides-never (λ w. let found : None ≡ Some w.0 = w.1 in cc)
is_entry_found (Some x) j t =
    Decides-like ((x.component == j) && (x.stamp == t))
    (λ w. (x, refl, w.0, w.1))
    (λ w. let found : Some x ≡ Some w.0 = w.1 in let same : x ≡ w.0 = cc in (ap (λ (y : Applied). y.component) same ∙ w.2, ap (λ (y : Applied). y.stamp) same ∙ w.3))
    (Decides-and (x.component == j) (x.stamp == t) (Decides-eqb x.component j) (Decides-eqb x.stamp t))

Decides-is_entry_for : (h : List Applied) (k j t : ℕ) → Decides (is_entry_for h k j t) (IsEntryFor h k j t)
Decides-is_entry_for h k j t = is_entry_found (slice_get h k) j t

Decides-is_none : {A : Type 0} (b : Option A) → Decides (is_none b) (b ≡ None)
Decides-is_none None = Decides-always refl
Decides-is_none (Some x) = Decides-never (λ w. cc)

borrows_late : (b : Option ℕ) (c : ℕ) → Decides (is_none b || nat_le 3 c) (IsSome b → 3 ≤ c)
borrows_late None c = Decides-always (λ w. let no : false ≡ true = w in absurd (true≢false (sym no)))
borrows_late (Some t) c = Decides-like (nat_le 3 c) (λ w x. w) (λ f. f refl) (Decides-nat_le 3 c)

Decides-are_collects : (n c : ℕ) (b : Option ℕ) → Decides (are_collects n c b) (AreCollects n c b)
Decides-are_collects zero c b = Decides-and (c == 0) (is_none b) (Decides-eqb c 0) (Decides-is_none b)
Decides-are_collects (suc r) c b = Decides-and3 (nat_le 2 c) (nat_le c (r + 3)) (is_none b || nat_le 3 c) (Decides-nat_le 2 c) (Decides-nat_le c (r + 3)) (borrows_late b c)

Decides-hold : (value : ℕ → ℕ) (js vs : List ℕ) → Decides (hold value js vs) (vs ≡ map value js)
Decides-hold value [] [] = Decides-always refl
Decides-hold value [] (v ∷ vs) = Decides-never (λ w. cc)
Decides-hold value (j ∷ js) [] = Decides-never (λ w. let no : [] ≡ value j ∷ map value js = w in cc)
Decides-hold value (j ∷ js) (v ∷ vs) =
    Decides-like ((value j == v) && hold value js vs)
    (λ w. let first : value j ≡ v = w.0 in let rest : vs ≡ map value js = w.1 in cc)
    (λ w. let all : v ∷ vs ≡ value j ∷ map value js = w in let first : value j ≡ v = cc in let rest : vs ≡ map value js = cc in (first, rest))
    (Decides-and (value j == v) (hold value js vs) (Decides-eqb (value j) v) (Decides-hold value js vs))

pub slice_get-drop : {A : Type 0} (h : List A) (n k : ℕ) → slice_get (drop n h) k ≡ slice_get h (n + k)
slice_get-drop h zero k = ap (slice_get h) (omega arith)
slice_get-drop [] (suc n) k = sym (slice_get_past [] (suc n + k) (omega arith))
slice_get-drop (x ∷ h) (suc n) k =
    let more : suc n + k ≡ suc (n + k) = omega arith in
    slice_get-drop h n k ∙ sym (ap (slice_get (x ∷ h)) more)

-- where a test of the elements passes, one of them stands that has the property
any_stands : {A : Type 0} (test : A → Bool) (P : A → Type 0) → ((x : A) → Decides (test x) (P x)) → (xs : List A) → list_any test xs ≡ true → (k : ℕ) × (x : A) × (slice_get xs k ≡ Some x) × P x
any_stands test P each [] w = absurd (true≢false (sym w))
any_stands test P each (x ∷ xs) w =
    elim (or_cases (test x) (list_any test xs) w) [
      | inl here ↦ (0, x, refl, (each x).0 here)
      | inr there ↦ let found = any_stands test P each xs there in (suc found.0, found.1, found.2, found.3)
    ]

pub Decides-contains_number : (js : List ℕ) (c : ℕ) → Decides (list_any (λ j. j == c) js) (Contains js c)
Decides-contains_number js c =
    Decides-contains js c (list_any (λ j. j == c) js) (Decides-by_or (λ j. j == c) (λ j. j ≡ c) (list_any (λ j. j == c)) (λ j. Decides-eqb j c) refl (λ _ _. refl) js)

abbrev ShowsStamp : List ℕ → ℕ → Applied → Type 0
ShowsStamp js t e = (e.stamp ≡ t) × Contains js e.component

Decides-shows : (js : List ℕ) (t : ℕ) (e : Applied) → Decides ((e.stamp == t) && list_any (λ j. j == e.component) js) (ShowsStamp js t e)
Decides-shows js t e = Decides-and (e.stamp == t) (list_any (λ j. j == e.component) js) (Decides-eqb e.stamp t) (Decides-contains_number js e.component)

pub Decides-shows_stamp : (h : List Applied) (js : List ℕ) (n t : ℕ) → Decides (shows_stamp js t (drop n h)) ((k j : ℕ) × (n ≤ k) × Contains js j × IsEntryFor h k j t)
Decides-shows_stamp h js n t =
    let test : Applied → Bool = λ e. (e.stamp == t) && list_any (λ j. j == e.component) js in (
      λ w.
          let found = any_stands test (ShowsStamp js t) (Decides-shows js t) (drop n h) w in
          (n + found.0, (found.1).component, omega arith, found.3.1, (found.1, sym (slice_get-drop h n found.0) ∙ found.2, refl, found.3.0)),
      λ w.
          let k : ℕ = w.0 in
          let late : n ≤ k = w.2 in
          let entry = w.4 in
          let place : n + (k - n) ≡ k = omega arith in
          any_passes_from_place test (drop n h) (k - n) entry.0 (slice_get-drop h n (k - n) ∙ ap (slice_get h) place ∙ entry.1)
          ((Decides-shows js t entry.0).1 (entry.3, subst (Contains js) (sym entry.2) w.3)),
    )

Decides-saw_together : (o : Opening) (h : List Applied) (js vs : List ℕ) (c : ℕ) (b : Option ℕ) (n : ℕ) → Decides (saw_together o h js vs c b n) (SawTogether o h js vs c b n)
Decides-saw_together o h js vs c b n =
    let borrowed : Bool = option_map_or (λ t. shows_stamp js t (drop n h)) b true in
    Decides-like (saw_together o h js vs c b n)
    (λ w. record { within = w.0.0; values = w.0.1; collects = w.0.2; borrowed = w.1 })
    (λ w. ((w.within, w.values, w.collects), w.borrowed))
    (Decides-and (nat_le n (length h) && hold (value_of o (take n h)) js vs && are_collects (length js) c b) borrowed
    (Decides-and3 (nat_le n (length h)) (hold (value_of o (take n h)) js vs) (are_collects (length js) c b) (Decides-nat_le n (length h)) (Decides-hold (value_of o (take n h)) js vs)
    (Decides-are_collects (length js) c b))
    (Decides-if_some (λ t. shows_stamp js t (drop n h)) (λ t. (k j : ℕ) × (n ≤ k) × Contains js j × IsEntryFor h k j t) (λ t. Decides-shows_stamp h js n t) b))

Decides-differ : (t x : ℕ) → Decides (not (t == x)) (t ≢ x)
Decides-differ t x = Decides-not (t == x) (Decides-eqb t x)

Decides-is_right : (o : Opening) (h : List Applied) (p : ℕ) (c : Call) (a : Answer) (n : Note) → Decides (is_right o h p c a n) (Fits (length o.values) c a (Some n) × IsTrueOf o h p c a n)
Decides-is_right o h p (Call.Update j v) (Answer.Applied s) (Note.Wrote k) =
    let e : Applied = record { port = p; component = j; value = v; stamp = s } in
    Decides-and (nat_lt j (length o.values)) (stands_at h k e) (Decides-nat_lt j (length o.values)) (Decides-stands_at h k e)
Decides-is_right o h p (Call.Update j v) (Answer.Lost by) (Note.Lost k) =
    Decides-and (nat_lt j (length o.values)) (is_entry_for h k j by) (Decides-nat_lt j (length o.values)) (Decides-is_entry_for h k j by)
Decides-is_right o h p (Call.Scan js) (Answer.Scanned vs c b) (Note.Saw n) =
    Decides-and (names_components (length o.values) js) (saw_together o h js vs c b n) (Decides-names_components (length o.values) js) (Decides-saw_together o h js vs c b n)
Decides-is_right o h p (Call.Read j) (Answer.Read v s) (Note.Saw n) =
    let value : ℕ = value_of o (take n h) j in
    let stamp : ℕ = stamp_of o (take n h) j in
    Decides-like (nat_lt j (length o.values) && nat_le n (length h) && (value == v) && (stamp == s))
    (λ w. (w.0.0, (w.0.1, sym w.0.2, sym w.1)))
    (λ w. ((w.0, w.1.0, sym w.1.1), sym w.1.2))
    (Decides-and (nat_lt j (length o.values) && nat_le n (length h) && (value == v)) (stamp == s)
    (Decides-and3 (nat_lt j (length o.values)) (nat_le n (length h)) (value == v) (Decides-nat_lt j (length o.values)) (Decides-nat_le n (length h)) (Decides-eqb value v))
    (Decides-eqb stamp s))
Decides-is_right o h p (Call.UpdateIf j x v) (Answer.Applied s) (Note.Wrote k) =
    let e : Applied = record { port = p; component = j; value = v; stamp = s } in
    let stamp : ℕ = stamp_of o (take k h) j in
    Decides-like (nat_lt j (length o.values) && stands_at h k e && (stamp == x))
    (λ w. (w.0, (w.1, w.2)))
    (λ w. (w.0, w.1.0, w.1.1))
    (Decides-and3 (nat_lt j (length o.values)) (stands_at h k e) (stamp == x) (Decides-nat_lt j (length o.values)) (Decides-stands_at h k e) (Decides-eqb stamp x))
Decides-is_right o h p (Call.UpdateIf j x v) (Answer.Changed t) (Note.Saw n) =
    let stamp : ℕ = stamp_of o (take n h) j in
    Decides-like (nat_lt j (length o.values) && nat_le n (length h) && (stamp == t) && not (t == x))
    (λ w. (w.0.0, (w.0.1, w.0.2, w.1)))
    (λ w. ((w.0, w.1.0, w.1.1), w.1.2))
    (Decides-and (nat_lt j (length o.values) && nat_le n (length h) && (stamp == t)) (not (t == x))
    (Decides-and3 (nat_lt j (length o.values)) (nat_le n (length h)) (stamp == t) (Decides-nat_lt j (length o.values)) (Decides-nat_le n (length h)) (Decides-eqb stamp t))
    (Decides-differ t x))
Decides-is_right o h p _ _ _ = Decides-never (λ w. w.0)

Decides-is_refusal : (m : ℕ) (c : Call) (a : Answer) → Decides (is_refusal m c a) (Fits m c a None)
Decides-is_refusal m c (Answer.Refused cause) = Decides-may_be_refused m c cause
Decides-is_refusal m (Call.Update j v) _ = Decides-never (λ w. w)
Decides-is_refusal m (Call.Scan js) _ = Decides-never (λ w. w)
Decides-is_refusal m (Call.Read j) _ = Decides-never (λ w. w)
Decides-is_refusal m (Call.UpdateIf j x v) _ = Decides-never (λ w. w)

pub Decides-is_legal : (o : Opening) (h : List Applied) (p seen : ℕ) (c : Call) (a : Answer) (n : Option Note) → Decides (is_legal o h p seen c a n)
    (IsLegal o h p seen (record { call = c; answer = a; note = n }))
Decides-is_legal o h p seen c a None =
    Decides-like (is_refusal (length o.values) c a) (λ w. (w, tt)) (λ w. w.0) (Decides-is_refusal (length o.values) c a)
Decides-is_legal o h p seen c a (Some n) =
    Decides-like (is_right o h p c a n && nat_le seen (place_of n))
    (λ w. (w.0.0, (w.0.1, w.1)))
    (λ w. ((w.0, w.1.0), w.1.1))
    (Decides-and (is_right o h p c a n) (nat_le seen (place_of n)) (Decides-is_right o h p c a n) (Decides-nat_le seen (place_of n)))

-- ---- the order of the calls, and their times

ended_before : (b : Option Finish) (began : ℕ) → Decides (option_map_or (λ (f : Finish). nat_le f.ended began) b false) (IsSomeAnd b (λ f. f.ended ≤ began))
ended_before None began = Decides-never (λ w. w)
ended_before (Some f) began = Decides-nat_le f.ended began

Decides-follows : (before : Option Called) (c : Called) → Decides (follows before c) (Follows before c)
Decides-follows None c = Decides-eqb c.number 0
Decides-follows (Some b) c =
    let ended : Bool = option_map_or (λ (f : Finish). nat_le f.ended c.began) b.finish false in
    Decides-or (nat_lt b.port c.port && (c.number == 0)) ((c.port == b.port) && (c.number == b.number + 1) && ended)
    (Decides-and (nat_lt b.port c.port) (c.number == 0) (Decides-nat_lt b.port c.port) (Decides-eqb c.number 0))
    (Decides-and3 (c.port == b.port) (c.number == b.number + 1) ended (Decides-eqb c.port b.port) (Decides-eqb c.number (b.number + 1)) (ended_before b.finish c.began))

Decides-ends_in_time : (n began : ℕ) (f : Finish) → Decides (ends_in_time n began f) ((began ≤ f.ended) × (f.ended ≤ n) × IfSome f.note (λ note. (began ≤ place_of note) × (shown_by note ≤ f.ended)))
Decides-ends_in_time n began f =
    let test : Note → Bool = λ note. nat_le began (place_of note) && nat_le (shown_by note) f.ended in
    Decides-and3 (nat_le began f.ended) (nat_le f.ended n) (option_map_or test f.note true) (Decides-nat_le began f.ended) (Decides-nat_le f.ended n)
    (Decides-if_some test (λ note. (began ≤ place_of note) × (shown_by note ≤ f.ended))
    (λ note. Decides-and (nat_le began (place_of note)) (nat_le (shown_by note) f.ended) (Decides-nat_le began (place_of note)) (Decides-nat_le (shown_by note) f.ended)) f.note)

Decides-is_in_time : (n : ℕ) (c : Called) → Decides (is_in_time n c) (IsInTime n c)
Decides-is_in_time n c =
    Decides-and (nat_le c.began n) (option_map_or (ends_in_time n c.began) c.finish true) (Decides-nat_le c.began n)
    (Decides-if_some (ends_in_time n c.began) (λ f. (c.began ≤ f.ended) × (f.ended ≤ n) × IfSome f.note (λ note. (c.began ≤ place_of note) × (shown_by note ≤ f.ended)))
    (Decides-ends_in_time n c.began) c.finish)

pub Decides-are_in_time : (n : ℕ) (before : Option Called) (cs : List Called) → Decides (are_in_time n before cs) (RealTime n before cs)
Decides-are_in_time n before [] = Decides-always tt
Decides-are_in_time n before (c ∷ cs) =
    Decides-and3 (follows before c) (is_in_time n c) (are_in_time n (Some c) cs) (Decides-follows before c) (Decides-is_in_time n c) (Decides-are_in_time n (Some c) cs)
