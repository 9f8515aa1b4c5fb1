-- What the words of an epoch hold last, and that it stays.
use Rattle.partial_epochs.proofs.{Common.{ℕ, ◌≡◌, ◌≢◌, ◌+◌, ◌<◌, ◌≤◌, ◌==◌, ◌⊎◌, ◌++◌, Bool, true, false, if◌then◌else◌, Option, Some, None, List, [], ◌∷◌, length, take, slice_index, refl, sym, ap, subst, ◌∙◌, inl, inr, arith, AllByRecursion, option_map_or, eqb_tells, take_all, Applied, Opening, initial_stamp, stamp_of, value_of, stamp_all, total, lawful_records_are_within, list_of, Plan, IsSealed, arena_words, base, component_words, plain, unsealed, history_of, opened_after, Port, Stands, Beside, IsStanding, LawfulEpochs, ComponentsNameRecords, LastWordsAreFinal, NameTheLast, read_stamp, behind_both, value_word, view_word, records_within, value_behind_stamp}, Continue.{epochs_continue, history_took, reads_answer_over_epochs}, Offsets.below_whole, Worded.{plain_at, plain_component, plain_other}}
use Rattle.partial_model.specs.History.{last_from}
use Rattle.partial_core.specs.Lawful as one

-- entries for other components leave a component as it was
pub none_here : (j : ℕ) (h : List Applied) → AllByRecursion (λ (a : Applied). a.component ≢ j) h → last_from None j h ≡ None
unfolding last_from
none_here j [] all = refl
none_here j (a ∷ h) all = ap (λ (t : Option Applied). last_from t j h) (other (a.component == j) (eqb_tells a.component j)) ∙ none_here j h all.1
  where
    other : (c : Bool) → ((c ≡ true) × (a.component ≡ j)) ⊎ ((c ≡ false) × (a.component ≢ j)) → (if c then Some a else None) ≡ None
    other c (inl is) = absurd (all.0 is.1)
    other c (inr ne) = ap (λ (t : Bool). if t then Some a else None) ne.0

pub stays : (o : Opening) (log entries : List Applied) (j : ℕ) → AllByRecursion (λ (a : Applied). a.component ≢ j) entries →
    (value_of o (log ++ entries) j ≡ value_of o log j) × (stamp_of o (log ++ entries) j ≡ stamp_of o log j)
stays o log entries j all = (
  behind_both (λ (a : Applied). a.value) log entries j (slice_index o.values j) ∙ ap (λ (t : Option Applied). option_map_or (λ (a : Applied). a.value) t (value_of o log j)) (none_here j entries all),
  behind_both (λ (a : Applied). a.stamp) log entries j (initial_stamp o j) ∙ ap (λ (t : Option Applied). option_map_or (λ (a : Applied). a.stamp) t (stamp_of o log j)) (none_here j entries all),
)

others : (e : Plan) (words : List ℕ) (x j : ℕ) (h : List Applied) → IsSealed (slice_index (component_words e words x) j) →
    AllByRecursion (λ (a : Applied). ¬ IsSealed (slice_index (component_words e words x) a.component)) h → AllByRecursion (λ (a : Applied). a.component ≢ j) h
others e words x j [] sealed all = tt
others e words x j (a ∷ h) sealed all = (λ same. all.0 (subst (λ i. IsSealed (slice_index (component_words e words x) i)) (sym same) sealed), others e words x j h sealed all.1)

module _ (e : Plan) (words : List ℕ) (ports : ℕ → Port) (b : Beside) (k j : ℕ) (w : LawfulEpochs e words ports b) (below : k < e.ports) (stands : (ports k).control.entering ≡ Stands)
    (inside : j < e.sizes.m)
    (s : IsStanding b k (ports k)) where
  abbrev x : ℕ
  x = (ports k).control.here.arena

  abbrev log : List Applied
  log = s.epoch.log

  abbrev o : Opening
  o = opened_after e.opening (ports k).before

  abbrev bw : List ℕ
  bw = arena_words e words x

  lawful : one.Lawful e.sizes (opened_after e.opening (ports k).before) bw (list_of s.epoch.part 0 e.ports) s.epoch.log
  lawful = subst (λ (l : List (List Applied)). one.Lawful e.sizes (opened_after e.opening l) bw (list_of s.epoch.part 0 e.ports) s.epoch.log) s.before (w.arenas x s.epoch s.is).lawful

  long : length (opened_after e.opening (ports k).before).values ≡ e.sizes.m
  long = lawful.memory.values

  last : slice_index bw j ≡ stamp_of (opened_after e.opening (ports k).before) s.epoch.log j
  last = (lawful.memory.agrees j (let l = long in omega (arith, l, inside))).0

  abbrev raw : ℕ
  raw = slice_index words (base e x + j)

  low : j < total e.sizes
  low = omega (arith, inside)

  pub is_raw : slice_index bw j ≡ unsealed raw
  is_raw = plain_at e words x j low ∙ plain_component e words x j raw inside

  named : unsealed raw ≡ stamp_of (opened_after e.opening (ports k).before) s.epoch.log j
  named = sym is_raw ∙ last

  -- the record lies after the component words, and within the arena
  above : e.sizes.m ≤ stamp_of (opened_after e.opening (ports k).before) s.epoch.log j
  above =
      let r = lawful_records_are_within e.sizes (opened_after e.opening (ports k).before) bw (list_of s.epoch.part 0 e.ports) s.epoch.log lawful in
      stamp_all (λ n. e.sizes.m ≤ n) (opened_after e.opening (ports k).before) j s.epoch.log
      (weaker s.epoch.log r.entries) (r.initial j inside).0
    where
      weaker : (h : List Applied) → AllByRecursion (λ (a : Applied). (e.sizes.m ≤ a.stamp) × (view_word a.stamp < length bw)) h → AllByRecursion (λ (a : Applied). e.sizes.m ≤ a.stamp) h
      weaker [] all = tt
      weaker (a ∷ h) all = (all.0.0, weaker h all.1)

  pub within : view_word (slice_index bw j) < total e.sizes
  within =
      let l = long in
      let c = lawful.memory.count in
      let r = (records_within (opened_after e.opening (ports k).before) bw s.epoch.log lawful.memory.agrees).components j (omega (arith, l, inside)) in
      omega (arith, r, c)

  value : slice_index words (base e x + value_word (unsealed raw)) ≡ value_of e.opening (history_of (s.epoch.log ∷ (ports k).before)) j
  value =
      let l = long in
      let at = named in
      let from = above in
      let up = within in
      let is = is_raw in
      let v : ℕ = value_word (unsealed raw) in
      let there : slice_index bw (value_word (unsealed raw)) ≡ plain e (value_word (unsealed raw)) (slice_index words (base e x + value_word (unsealed raw))) =
      plain_at e words x (value_word (unsealed raw)) (omega (arith, up, is)) in
      let values = w.plan.values in
      sym (there ∙ plain_other e words x (value_word (unsealed raw)) (slice_index words (base e x + value_word (unsealed raw))) (omega (arith, at, from)))
      ∙ ap (λ n. slice_index bw (value_word n)) named
      ∙ ap (λ (h : List Applied). slice_index bw (value_word (stamp_of (opened_after e.opening (ports k).before) h j))) (sym (take_all (length s.epoch.log) s.epoch.log (omega arith)))
      ∙ value_behind_stamp (opened_after e.opening (ports k).before) bw s.epoch.log j (length s.epoch.log) lawful.memory.agrees (omega (arith, l, inside))
      ∙ ap (λ (h : List Applied). value_of (opened_after e.opening (ports k).before) h j) (take_all (length s.epoch.log) s.epoch.log (omega arith))
      ∙ sym (epochs_continue e.opening s.epoch.log (ports k).before j (omega (arith, values, inside))).value

  public : read_stamp e words (ports k) j (unsealed raw) ≡ stamp_of e.opening (history_of (s.epoch.log ∷ (ports k).before)) j
  public =
      let n : ℕ = length s.epoch.log in
      let all : take (length s.epoch.log) s.epoch.log ≡ s.epoch.log = take_all (length s.epoch.log) s.epoch.log (omega arith) in
      let told = reads_answer_over_epochs e words ports b k j (length s.epoch.log) w below stands inside s (omega arith) in
      ap (read_stamp e words (ports k) j) named
      ∙ ap (λ (h : List Applied). read_stamp e words (ports k) j (stamp_of (opened_after e.opening (ports k).before) h j)) (sym all)
      ∙ told.2
      ∙ ap (λ (h : List Applied). stamp_of e.opening h j) (history_took s.epoch.log (ports k).before (length s.epoch.log))
      ∙ ap (λ (h : List Applied). stamp_of e.opening (history_of (h ∷ (ports k).before)) j) all

  pub tell : NameTheLast e words (ports k) s.epoch.log j
  tell = record { stamp = named; value = value; public = public }

pub last_words_are_final : LastWordsAreFinal
last_words_are_final e words ports b k j w below stands inside s = (
  tell e words ports b k j w below stands inside s,
  λ q c step lead sealed o log. stays o log lead.entries j (others e words (ports q).control.here.arena j lead.entries sealed lead.free),
)

pub components_name_records : ComponentsNameRecords
components_name_records e words ports b k j w below stands inside s = record {
  there =
      let low = below_whole e (ports k).control.here.arena j (w.control.sites k below).arena (omega (arith, inside)) in
      let all = w.count in
      omega (arith, low, all);
  names = (tell e words ports b k j w below stands inside s).stamp;
}
