-- The history of all epochs goes on where an epoch ends.
use Rattle.partial_epochs.proofs.{Common.{ℕ, zero, suc, ◌≡◌, ◌+◌, ◌<◌, ◌≤◌, ◌==◌, ◌++◌, Bool, true, false, if◌then◌else◌, Option, Some, None, IfSome, List, [], ◌∷◌, length, take, map, slice_index, refl, sym, ap, subst, ◌∙◌, arith, option_map, option_map_or, AllByRecursion, lt-ltb, length-map, Applied, Opening, last_entry, initial_stamp, stamp_of, value_of, behind_both, some_same, all_weaker, first_free, list_of, Plan, arena_words, carried_word, carried_words, carried_after, stamp_after, history_of, opened_after, public_entry, public_log, public_stamp, EpochsContinue, Port, Epoch, Stands, IsSiteWord, Beside, IsStanding, LawfulEpochs, ReadsAnswerOverEpochs, read_stamp, IsEntry, not_below}, Lists.at_of}
use Rattle.partial_model.specs.History.{last_from}
use Rattle.partial_core.specs.Lawful as one

-- with public stamps
cond_map : (g : Applied → Applied) (c : Bool) (e : Applied) (found : Option Applied) → (if c then Some (g e) else option_map g found) ≡ option_map g (if c then Some e else found)
cond_map g true e found = refl
cond_map g false e found = refl

public_last : (epoch j : ℕ) (found : Option Applied) (h : List Applied) →
    last_from (option_map (public_entry epoch) found) j (map (public_entry epoch) h) ≡ option_map (public_entry epoch) (last_from found j h)
unfolding last_from
public_last epoch j found [] = refl
public_last epoch j found (e ∷ h) = ap (λ (t : Option Applied). last_from t j (map (public_entry epoch) h)) (cond_map (public_entry epoch) (e.component == j) e found)
    ∙ public_last epoch j (if e.component == j then Some e else found) h

value_public : (epoch : ℕ) (t : Option Applied) (d : ℕ) → option_map_or (λ (e : Applied). e.value) (option_map (public_entry epoch) t) d ≡ option_map_or (λ (e : Applied). e.value) t d
value_public epoch None d = refl
value_public epoch (Some e) d = refl

stamp_public : (epoch : ℕ) (t : Option Applied) (d : ℕ) → option_map_or (λ (e : Applied). e.stamp) (option_map (public_entry epoch) t) d
    ≡ option_map_or (λ (e : Applied). public_stamp epoch e.stamp) t d
stamp_public epoch None d = refl
stamp_public epoch (Some e) d = refl

pub many : (o : Opening) (before : List (List Applied)) → length (opened_after o before).values ≡ length o.values
many o [] = refl
many o (h ∷ before) = long (value_of (opened_after o before) h) 0 (length (opened_after o before).values) ∙ many o before
  where
    long : (f : ℕ → ℕ) (p n : ℕ) → length (list_of f p n) ≡ n
    long f p zero = refl
    long f p (suc n) = ap suc (long f (p + 1) n)

-- what an epoch opens with
opened_values : (o : Opening) (before : List (List Applied)) (j : ℕ) → j < length o.values → value_of o (history_of before) j ≡ slice_index (opened_after o before).values j
unfolding last_from
opened_values o [] j low = refl
opened_values o (h ∷ before) j low =
    behind_both (λ (e : Applied). e.value) (history_of before) (public_log (length before) h) j (slice_index o.values j)
    ∙ ap (λ (t : Option Applied). option_map_or (λ (e : Applied). e.value) t (value_of o (history_of before) j)) (public_last (length before) j None h)
    ∙ value_public (length before) (last_entry j h) (value_of o (history_of before) j)
    ∙ ap (option_map_or (λ (e : Applied). e.value) (last_entry j h)) (opened_values o before j low)
    ∙ sym (at_of (value_of (opened_after o before) h) 0 (length (opened_after o before).values) j (let long = many o before in omega (arith, long, low))
    ∙ ap (value_of (opened_after o before) h) (omega arith))

carried_stamps : (o : Opening) (before : List (List Applied)) (j : ℕ) → stamp_of o (history_of before) j ≡ stamp_after o before j
unfolding last_from
carried_stamps o [] j = refl
carried_stamps o (h ∷ before) j =
    behind_both (λ (e : Applied). e.stamp) (history_of before) (public_log (length before) h) j (initial_stamp o j)
    ∙ ap (λ (t : Option Applied). option_map_or (λ (e : Applied). e.stamp) t (stamp_of o (history_of before) j)) (public_last (length before) j None h)
    ∙ stamp_public (length before) (last_entry j h) (stamp_of o (history_of before) j)
    ∙ ap (option_map_or (λ (e : Applied). public_stamp (length before) e.stamp) (last_entry j h)) (carried_stamps o before j)

pub epochs_continue : EpochsContinue
epochs_continue o h before j low = record {
  value = behind_both (λ (e : Applied). e.value) (history_of before) (public_log (length before) h) j (slice_index o.values j)
      ∙ ap (λ (t : Option Applied). option_map_or (λ (e : Applied). e.value) t (value_of o (history_of before) j)) (public_last (length before) j None h)
      ∙ value_public (length before) (last_entry j h) (value_of o (history_of before) j)
      ∙ ap (option_map_or (λ (e : Applied). e.value) (last_entry j h)) (opened_values o before j low);
  stamp = carried_stamps o (h ∷ before) j;
}

-- a beginning of the history of all epochs that ends in the last one
take_past : {A : Type 0} (a b : List A) (n : ℕ) → take (length a + n) (a ++ b) ≡ a ++ take n b
take_past [] b n = let is : 0 + n ≡ n = omega arith in ap (λ m. take m b) is
take_past (x ∷ a) b n = let is : suc (length a) + n ≡ suc (length a + n) = omega arith in ap (λ m. take m (x ∷ (a ++ b))) is ∙ ap (λ l. x ∷ l) (take_past a b n)

take_map : (g : Applied → Applied) (h : List Applied) (n : ℕ) → take n (map g h) ≡ map g (take n h)
take_map g h zero = refl
take_map g [] (suc n) = refl
take_map g (e ∷ h) (suc n) = ap (λ (l : List Applied). g e ∷ l) (take_map g h n)

pub history_took : (h : List Applied) (before : List (List Applied)) (n : ℕ) → take (length (history_of before) + n) (history_of (h ∷ before)) ≡ history_of (take n h ∷ before)
history_took h before n = take_past (history_of before) (public_log (length before) h) n ∙ ap (λ (l : List Applied). history_of before ++ l) (take_map (public_entry (length before)) h n)

length_both : {A : Type 0} (a b : List A) → length (a ++ b) ≡ length a + length b
length_both [] b = omega arith
length_both (x ∷ a) b = let rest = length_both a b in omega (arith, rest)

-- what holds of all entries holds of the last one for a component
pub last_all : (P : Applied → Type 0) (found : Option Applied) (j : ℕ) (h : List Applied) → IfSome found P → AllByRecursion P h → IfSome (last_from found j h) P
unfolding last_from
last_all P found j [] f all = f
last_all P found j (e ∷ h) f all = last_all P (if e.component == j then Some e else found) j h (by (e.component == j)) all.1
  where
    by : (c : Bool) → IfSome (if c then Some e else found) P
    by true = all.0
    by false = f

-- what holds of all entries holds of those at the beginning
pub all_taken : (P : Applied → Type 0) (h : List Applied) (n : ℕ) → AllByRecursion P h → AllByRecursion P (take n h)
all_taken P h zero all = tt
all_taken P [] (suc n) all = tt
all_taken P (e ∷ h) (suc n) all = (all.0, all_taken P h n all.1)

-- what comes before the epoch where a port stands
module _ (e : Plan) (words : List ℕ) (ports : ℕ → Port) (b : Beside) (k : ℕ) (w : LawfulEpochs e words ports b) (s : IsStanding b k (ports k)) where
  pub before_is_epoch : k < e.ports → (ports k).control.entering ≡ Stands → length (ports k).before ≡ (ports k).control.here.epoch
  before_is_epoch below stands =
      let at = subst (IsSiteWord e _ k (ports k).control.here) stands (w.control.at k below) in
      let held = w.control.stands k (ports k).control.here below (w.control.sites k below) at in
      ap (λ (l : List (List Applied)). length l) (sym s.before) ∙ some_same (ap (option_map (λ (r : Epoch). length r.before)) (sym s.is) ∙ held)

  pub carried_there : (j : ℕ) → j < e.sizes.m → slice_index words (carried_word e (ports k).control.here.arena j) ≡ stamp_after e.opening (ports k).before j
  carried_there j inside =
      let x : ℕ = (ports k).control.here.arena in
      let at : slice_index (carried_words e words x) j ≡ slice_index words (carried_word e x j) = at_of (λ i. slice_index words (carried_word e x i)) 0 e.sizes.m j inside
      ∙ ap (λ i. slice_index words (carried_word e x i)) (omega arith) in
      sym at ∙ (w.arenas (ports k).control.here.arena s.epoch s.is).stamps j inside ∙ ap (λ (l : List (List Applied)). stamp_after e.opening l j) s.before

pub reads_answer_over_epochs : ReadsAnswerOverEpochs
reads_answer_over_epochs e words ports b k j n w below stands inside s few =
    let p : Port = ports k in
    let before : List (List Applied) = (ports k).before in
    let log : List Applied = s.epoch.log in
    let low : j < length e.opening.values = let values = w.plan.values in omega (arith, values, inside) in
    let went = epochs_continue e.opening (take n log) before j low in
    let took = history_took log before n in
    let long : length (history_of (log ∷ before)) ≡ length (history_of before) + length log =
    length_both (history_of before) (public_log (length before) log) ∙ ap (λ m. length (history_of before) + m) (length-map log (public_entry (length before))) in (
      omega (arith, long, few),
      sym went.value ∙ ap (λ (l : List Applied). value_of e.opening l j) (sym took),
      stamp_is (last_entry j (take n log)) refl ∙ sym went.stamp ∙ ap (λ (l : List Applied). stamp_of e.opening l j) (sym took),
    )
  where
    og : Opening
    og = opened_after e.opening (ports k).before

    lawful : one.Lawful e.sizes (opened_after e.opening s.epoch.before) (arena_words e words (ports k).control.here.arena) (list_of s.epoch.part 0 e.ports) s.epoch.log
    lawful = (w.arenas (ports k).control.here.arena s.epoch s.is).lawful

    entry_above : (t : Option Applied) → last_entry j (take n s.epoch.log) ≡ t → IfSome t (λ (x : Applied). first_free e.sizes ≤ x.stamp)
    entry_above t is = subst (λ (t : Option Applied). IfSome t (λ (x : Applied). first_free e.sizes ≤ x.stamp)) is
        (last_all (λ (x : Applied). first_free e.sizes ≤ x.stamp) None j (take n s.epoch.log) tt
        (all_taken (λ (x : Applied). first_free e.sizes ≤ x.stamp) s.epoch.log n
        (all_weaker (IsEntry e.sizes (arena_words e words (ports k).control.here.arena)) (λ (x : Applied). first_free e.sizes ≤ x.stamp) (λ x h. h.above) s.epoch.log lawful.memory.entries)))

    initial : initial_stamp (opened_after e.opening (ports k).before) j < first_free e.sizes
    initial =
        let first = lawful.memory.stamps in
        let same : (opened_after e.opening s.epoch.before).first ≡ (opened_after e.opening (ports k).before).first =
        ap (λ (l : List (List Applied)). (opened_after e.opening l).first) s.before in
        omega (arith, first, same, inside)

    stamp_is : (t : Option Applied) → last_entry j (take n s.epoch.log) ≡ t → read_stamp e words (ports k) j (stamp_of (opened_after e.opening (ports k).before) (take n s.epoch.log) j)
        ≡ carried_after (length (ports k).before) (stamp_after e.opening (ports k).before) (take n s.epoch.log) j
    stamp_is None is =
        let o : Opening = opened_after e.opening (ports k).before in
        ap (λ (t : Option Applied). read_stamp e words (ports k) j (option_map_or (λ (x : Applied). x.stamp) t (initial_stamp o j))) is
        ∙ ap (λ (c : Bool). if c then slice_index words (carried_word e (ports k).control.here.arena j) else public_stamp (ports k).control.here.epoch (initial_stamp o j))
        (lt-ltb (initial_stamp o j) (first_free e.sizes) initial)
        ∙ carried_there e words ports b k w s j inside
        ∙ sym (ap (λ (t : Option Applied). option_map_or (λ (x : Applied). public_stamp (length (ports k).before) x.stamp) t (stamp_after e.opening (ports k).before j)) is)
    stamp_is (Some x) is =
        let o : Opening = opened_after e.opening (ports k).before in
        ap (λ (t : Option Applied). read_stamp e words (ports k) j (option_map_or (λ (x : Applied). x.stamp) t (initial_stamp o j))) is
        ∙ ap (λ (c : Bool). if c then slice_index words (carried_word e (ports k).control.here.arena j) else public_stamp (ports k).control.here.epoch x.stamp)
        (not_below x.stamp (first_free e.sizes) (entry_above (Some x) is))
        ∙ ap (λ r. public_stamp r x.stamp) (sym (before_is_epoch e words ports b k w s below stands))
        ∙ sym (ap (λ (t : Option Applied). option_map_or (λ (x : Applied). public_stamp (length (ports k).before) x.stamp) t (stamp_after e.opening (ports k).before j)) is)
