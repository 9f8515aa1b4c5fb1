-- The histories of all epochs, one after the other, are one history.
use Rattle.partial_epochs.proofs.Common.{ℕ, zero, suc, ◌≡◌, ◌≢◌, ◌+◌, ◌*◌, ◌<◌, ◌≤◌, ◌++◌, Some, List, [], ◌∷◌, length, map, slice_get, Contains, slice_index_or, refl, sym, ap, subst, ◌∙◌, inl, inr, arith, length-append, append_assoc, AllByRecursion, mul-le-mul_right, cases_lt, eqb_tells, length-map, Applied, HaveDistinctStamps, IsHistory, initial_stamp, all_append, all_map, all_weaker, distinct_at, first_free, total, IsEntry, Part, port_of, lawful_ports_fit, list_of, Plan, arena_words, epoch_limit, history_of, opened_after, public_entry, public_log, stamp_limit, Epoch, Port, Beside, IsEpochPlan, LawfulEpochs, EpochsFitOneHistory, IsEpochHistory, PublicStampsAreUnique, EpochReached, one_history, seen_of, plain_record_size}

-- two histories whose stamps lie apart
distinct_both : (n : ℕ) (a b : List Applied) → HaveDistinctStamps a → HaveDistinctStamps b → AllByRecursion (λ (x : Applied). x.stamp < n) a → AllByRecursion (λ (x : Applied). n ≤ x.stamp) b →
    HaveDistinctStamps (a ++ b)
distinct_both n [] b v w low high = w
distinct_both n (x ∷ a) b v w low high = (
  all_append (λ (y : Applied). x.stamp ≢ y.stamp) a b v.0
      (all_weaker (λ (y : Applied). n ≤ y.stamp) (λ (y : Applied). x.stamp ≢ y.stamp) (λ y h same. let l = low.0 in omega (arith, h, l, same)) b high),
  distinct_both n a b v.1 w low.1 high,
)

distinct_public : (g : ℕ) (h : List Applied) → HaveDistinctStamps h → HaveDistinctStamps (public_log g h)
distinct_public g [] w = tt
distinct_public g (x ∷ h) w = (
  all_map (λ (y : Applied). (public_entry g x).stamp ≢ y.stamp) (public_entry g) h
      (all_weaker (λ (y : Applied). x.stamp ≢ y.stamp) (λ (y : Applied). (public_entry g x).stamp ≢ (public_entry g y).stamp) (λ y ne same. ne (omega (arith, same))) h w.0),
  distinct_public g h w.1,
)

-- all public stamps of epochs below the number g lie below those of that epoch
pub below_all : (e : Plan) (hs : List (List Applied)) → AllByRecursion (IsEpochHistory e) hs → AllByRecursion (λ (x : Applied). x.stamp < length hs * stamp_limit) (history_of hs)
below_all e [] all = tt
below_all e (h ∷ hs) all =
    let more : (length hs + 1) * stamp_limit ≡ length hs * stamp_limit + stamp_limit = omega arith in
    all_append (λ (x : Applied). x.stamp < suc (length hs) * stamp_limit) (history_of hs) (public_log (length hs) h)
    (all_weaker (λ (x : Applied). x.stamp < length hs * stamp_limit) (λ (x : Applied). x.stamp < suc (length hs) * stamp_limit) (λ x low. omega (arith, low)) (history_of hs) (below_all e hs all.1))
    (all_map (λ (x : Applied). x.stamp < suc (length hs) * stamp_limit) (public_entry (length hs)) h
    (all_weaker (λ (x : Applied). x.stamp < stamp_limit) (λ (x : Applied). (public_entry (length hs) x).stamp < suc (length hs) * stamp_limit) (λ x low. omega (arith, low)) h all.0.below))

distinct_all : (e : Plan) (hs : List (List Applied)) → AllByRecursion (IsEpochHistory e) hs → HaveDistinctStamps (history_of hs)
distinct_all e [] all = tt
distinct_all e (h ∷ hs) all = distinct_both (length hs * stamp_limit) (history_of hs) (public_log (length hs) h) (distinct_all e hs all.1) (distinct_public (length hs) h all.0.distinct)
    (below_all e hs all.1)
    (all_map (λ (x : Applied). length hs * stamp_limit ≤ x.stamp) (public_entry (length hs)) h
    (all_weaker (λ (x : Applied). x.stamp < stamp_limit) (λ (x : Applied). length hs * stamp_limit ≤ (public_entry (length hs) x).stamp) (λ x low. omega arith) h all.0.below))

-- what holds of the entries of each epoch, whatever their stamps
pub each_entry : (e : Plan) (P : Applied → Type 0) → ((g : ℕ) (x : Applied) → P x → P (public_entry g x)) → (hs : List (List Applied)) → AllByRecursion (AllByRecursion P) hs →
    AllByRecursion P (history_of hs)
each_entry e P f [] all = tt
each_entry e P f (h ∷ hs) all = all_append P (history_of hs) (public_log (length hs) h) (each_entry e P f hs all.1)
    (all_map P (public_entry (length hs)) h (all_weaker P (λ x. P (public_entry (length hs) x)) (f (length hs)) h all.0))

above_all : (e : Plan) (hs : List (List Applied)) → AllByRecursion (IsEpochHistory e) hs → AllByRecursion (λ (x : Applied). first_free e.sizes ≤ x.stamp) (history_of hs)
above_all e hs all = each_entry e (λ (x : Applied). first_free e.sizes ≤ x.stamp) (λ g x h. omega (arith, h)) hs
    (all_weaker (IsEpochHistory e) (AllByRecursion (λ (x : Applied). first_free e.sizes ≤ x.stamp)) (λ h w. w.above) hs all)

pub all_epochs_are_history : (e : Plan) → IsEpochPlan e → (hs : List (List Applied)) → AllByRecursion (IsEpochHistory e) hs → IsHistory e.opening (history_of hs)
all_epochs_are_history e p hs all = record {
  components = each_entry e (λ (x : Applied). x.component < length e.opening.values) (λ g x h. h) hs
      (all_weaker (IsEpochHistory e) (AllByRecursion (λ (x : Applied). x.component < length e.opening.values))
      (λ h w. all_weaker (λ (x : Applied). x.component < e.sizes.m) (λ (x : Applied). x.component < length e.opening.values)
      (λ x low. let v = p.values in omega (arith, low, v)) h w.components) hs all);
  distinct = distinct_all e hs all;
  not_initial = all_weaker (λ (x : Applied). first_free e.sizes ≤ x.stamp) (λ (x : Applied). (j : ℕ) → j < length e.opening.values → x.stamp ≢ initial_stamp e.opening j)
      (λ x high j low same. let v = p.values in let f = p.first in omega (arith, high, low, same, v, f)) (history_of hs) (above_all e hs all);
}

-- the numbers of ports p and so on
contains_of : (part : ℕ → Part) (p n q : ℕ) → ((i : ℕ) → p ≤ i → i < p + n → port_of (part i) ≡ i) → Contains (map port_of (list_of part p n)) q → q < p + n
contains_of part p n q numbers c = by part p n q q numbers c.0 c.1 c.2
  where
    by : (part : ℕ → Part) (p n q d : ℕ) → ((i : ℕ) → p ≤ i → i < p + n → port_of (part i) ≡ i) → (i : ℕ) → i < length (map port_of (list_of part p n)) →
        slice_index_or (map port_of (list_of part p n)) i d ≡ q → q < p + n
    by part p zero q d numbers i low is = absurd (omega (arith, low))
    by part p (suc n) q d numbers zero low is = let here = numbers p (omega arith) (omega arith) in omega (arith, is, here)
    by part p (suc n) q d numbers (suc i) low is =
        let rest = by part (p + 1) n q d (λ i from to. numbers i (omega (arith, from)) (omega (arith, to))) i (omega (arith, low)) is in omega (arith, rest)

-- the history of the epoch that an arena holds
pub held_history : (e : Plan) (words : List ℕ) (ports : ℕ → Port) (b : Beside) → LawfulEpochs e words ports b → (x : ℕ) (r : Epoch) → b.holds x ≡ Some r → IsEpochHistory e r.log
held_history e words ports b w x r is =
    let arena = w.arenas x r is in
    let fit = lawful_ports_fit e.sizes (opened_after e.opening r.before) (arena_words e words x) (list_of r.part 0 e.ports) r.log arena.lawful in
    let memory = arena.lawful.memory in
    record {
      components = all_weaker (λ (a : Applied). a.component < length (opened_after e.opening r.before).values) (λ (a : Applied). a.component < e.sizes.m)
          (λ a low. let v = memory.values in omega (arith, low, v)) r.log memory.history.components;
      ports = all_weaker (λ (a : Applied). Contains (map port_of (list_of r.part 0 e.ports)) a.port) (λ (a : Applied). a.port < e.ports)
          (λ a c. let got = contains_of r.part 0 e.ports a.port (λ i from to. arena.numbers i (omega (arith, to))) c in omega (arith, got)) r.log fit.others;
      distinct = memory.history.distinct;
      above = all_weaker (IsEntry e.sizes (arena_words e words x)) (λ (a : Applied). first_free e.sizes ≤ a.stamp) (λ a h. h.above) r.log memory.entries;
      below = all_weaker (IsEntry e.sizes (arena_words e words x)) (λ (a : Applied). a.stamp < stamp_limit) (λ a h. small a.stamp h.within) r.log memory.entries;
    }
  where
    small : (s : ℕ) → s + plain_record_size ≤ total e.sizes → s < stamp_limit
    small s low =
        let z = w.plan.sizes in
        let m = z.components.1 in
        let slots = z.slots.1 in
        let lists = z.lists in
        let pool = z.pool.1 in
        omega (arith, low, m, slots, lists, pool)

pub present_history : (e : Plan) (words : List ℕ) (ports : ℕ → Port) (b : Beside) → LawfulEpochs e words ports b → IsEpochHistory e b.log
present_history e words ports b w = subst (IsEpochHistory e) w.now.2 (held_history e words ports b w b.arena w.now.0 w.now.1)

-- a part of the epochs, the last ones left out
pub history_grows : (later hs : List (List Applied)) → (rest : List Applied) × (history_of (later ++ hs) ≡ history_of hs ++ rest)
history_grows [] hs = ([], sym (nothing (history_of hs)))
  where
    nothing : (l : List Applied) → l ++ [] ≡ l
    nothing [] = refl
    nothing (x ∷ l) = ap (λ (t : List Applied). x ∷ t) (nothing l)
history_grows (h ∷ later) hs =
    let r = history_grows later hs in (
      r.0 ++ public_log (length (later ++ hs)) h,
      ap (λ (l : List Applied). l ++ public_log (length (later ++ hs)) h) r.1 ∙ append_assoc (history_of hs) r.0 (public_log (length (later ++ hs)) h),
    )

pub seen_within : (b : Beside) (p : Port) → EpochReached b p → seen_of p ≤ length (one_history b)
seen_within b p r =
    let g = history_grows r.later (r.log ∷ p.before) in
    let long = ap (λ (l : List (List Applied)). length (history_of l)) r.is ∙ ap (λ (l : List Applied). length l) g.1 in
    let split = length-append (history_of (r.log ∷ p.before)) g.0 in
    let own = length-append (history_of p.before) (public_log (length p.before) r.log) in
    let same = length-map r.log (public_entry (length p.before)) in
    let seen = r.seen in
    omega (arith, long, split, own, same, seen)

pub epochs_fit_one_history : EpochsFitOneHistory
epochs_fit_one_history e words ports b notes w =
    let all : AllByRecursion (IsEpochHistory e) (b.log ∷ b.before) = (present_history e words ports b w.epochs, w.noted.finished) in
    record {
      history = all_epochs_are_history e w.epochs.plan (b.log ∷ b.before) all;
      by_ports = each_entry e (λ (x : Applied). x.port < e.ports) (λ g x h. h) (b.log ∷ b.before)
          (all_weaker (IsEpochHistory e) (AllByRecursion (λ (x : Applied). x.port < e.ports)) (λ h w. w.ports) (b.log ∷ b.before) all);
      legal = w.noted.legal;
      shown = λ k low. let seen = seen_within b (ports k) (w.noted.reached k low) in let shown = w.noted.shown k low in omega (arith, seen, shown);
      once = w.noted.once;
    }

pub public_stamps_are_unique : PublicStampsAreUnique
public_stamps_are_unique e words ports b notes w =
    let all : AllByRecursion (IsEpochHistory e) (b.log ∷ b.before) = (present_history e words ports b w.epochs, w.noted.finished) in
    let h : IsHistory e.opening (one_history b) = all_epochs_are_history e w.epochs.plan (b.log ∷ b.before) all in
    record {
      one = λ i k a c at there same. one (one_history b) h.distinct i k a c at there same;
      fits = all_weaker (λ (x : Applied). x.stamp < length (b.log ∷ b.before) * stamp_limit) (λ (x : Applied). x.stamp < 18446744073709551616)
          (λ x low. fits x.stamp low) (one_history b) (below_all e (b.log ∷ b.before) all);
    }
  where
    fits : (s : ℕ) → s < length (b.log ∷ b.before) * stamp_limit → s < 18446744073709551616
    fits s low =
        let epoch : length b.before < epoch_limit = w.epochs.control.site.epoch in
        let up : length b.before + 1 ≤ epoch_limit = omega (arith, epoch) in
        let most : (length b.before + 1) * stamp_limit ≤ epoch_limit * stamp_limit = mul-le-mul_right stamp_limit up in
        let is : length (b.log ∷ b.before) ≡ length b.before + 1 = omega arith in
        omega (arith, low, most, is)

    one : (l : List Applied) → HaveDistinctStamps l → (i k : ℕ) (a c : Applied) → slice_get l i ≡ Some a → slice_get l k ≡ Some c → a.stamp ≡ c.stamp → i ≡ k
    one l d i k a c at there same = elim (eqb_tells i k) [
      | inl is ↦ is.1
      | inr ne ↦ elim (cases_lt i k) [
        | inl low ↦ absurd (distinct_at l i k a c d at there low same)
        | inr high ↦ let other = ne.1 in absurd (distinct_at l k i c a d there at (omega (arith, high, other)) (sym same))
      ]
    ]
