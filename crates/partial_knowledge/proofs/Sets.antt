-- What a getSet knows leads on, in lawful words.
use Rattle.partial_knowledge.proofs.{Common.{ℕ, ◌≡◌, ◌+◌, ◌<◌, ◌≤◌, ◌⊎◌, min, true, Option, Some, None, List, [], ◌∷◌, length, slice_index, IsSome, is_some, inl, inr, refl, sym, ap, subst, ◌∙◌, arith, false≢true, Applied, Opening, Load, Store, Exchange, Add, Layout, IsLayout, slot_counter, list_head, slot_word, list_base, StandsAt, length-pairs, JoinedAnnouncement, IsAnnounced, IsPublishedList, IsApartFrom, Block, Holding, unpublished, LawfulWords, KeptAnswer, IsLoaded, IsSlotAnswer, Joins, FindsIn, facts_of_words, IsReadable, IsKeptAnswer, GetSetsKnow}, Joined.{at_joined, shown, reference_above}}
use Rattle.partial_intervals.specs.Intervals.{Ranges}
use Rattle.partial_words.specs.declared.step.Step.{Step}
use Rattle.partial_words.specs.{VacatedList.{list_block, list_size, low_word, high_word}, Announcement.{announcement_block, announcement_size, announced_word}}
use Rattle.partial_active.specs.declared.get_set.Stage.{Stage}
use Rattle.partial_active.specs.declared.get_set.Stage.TheVariants.{Head, ListLen, ListLow, ListHigh, Counter, Slot, Len, Index, Claim, Write, Publish, Done}
use Rattle.partial_active.specs.{IndexSet.has_index, GetSet.{SetPair, set_step_at, set_step_due}, GetSetAnswers.{EndsBelow, is_possible_at, IsPossibleInSet, set_goes_at}, Knowledge.{Facts, HasReadSo, knows_by}}
use Rattle.partial_active.proofs.{Indices.{with_index_keeps, same_named}, Knowledge.{AreFacts, tells_at, ends_below, leads_at}}

module _ (z : Layout) (o : Opening) (words : List ℕ) (hs : List Holding) (log : List Applied) (low : ℕ) (w : LawfulWords z o words hs log) where
  -- a port joined in no slot whose word is EMPTY or VACATED
  not_joined : (indices : List ℕ) (slot at : ℕ) → at ≤ 1 → ((j : JoinedAnnouncement) → Joins hs slot j → j.since < low → j.at ≡ at) → FindsIn hs low indices slot
  not_joined indices slot at small here j joins since =
      let above = reference_above z words hs slot j (shown z o words hs log w slot j joins) in
      let is = here j joins since in
      absurd (omega (arith, above, is, small))

  -- the facts are those of the words
  facts_of_words_hold : AreFacts z words (facts_of_words z words hs low)
  facts_of_words_hold = record {
    vacated = λ x within vacated. vacated.1;
    list = λ at list there. there.whole;
    listed = λ at list there x holds. (there.whole.within x holds, there.whole.vacated x holds);
    announcement = λ slot at named within there. there.0.whole;
    gone = λ indices slot vacated. not_joined indices slot 1 (omega arith) (λ j joins since.
        let shows = (shown z o words hs log w slot j joins).shows in
        sym shows ∙ vacated.1);
    read = λ indices slot at named within there found j joins since k lt.
        let s = shown z o words hs log w slot j joins in
        let alike = same_named words at j.indices named (subst (λ n. StandsAt words n (announcement_block j.indices)) (there.1 j joins since) s.announced.whole.stands) there.0.whole.stands in
        let same = alike.0 in
        subst (λ n. has_index indices n ≡ true) (alike.1 k lt) (found k (omega (arith, lt, same)));
    kept = λ indices x slot complete j joins since k lt. with_index_keeps indices x (slice_index j.indices k) (complete j joins since k lt);
  }

  -- each word of a published list, and of a published announcement, may be loaded
  apart_word : (us : List Block) (at size i : ℕ) → i < size → IsApartFrom us (record { at = at; size = size }) → IsApartFrom us (record { at = at + i; size = 1 })
  apart_word [] at size i lt apart = tt
  apart_word (b ∷ us) at size i lt apart = (elim apart.0 [ inl before ↦ inl (omega (arith, lt, before)) | inr behind ↦ inr (omega (arith, behind)) ], apart_word us at size i lt apart.1)

  list_word : (from i : ℕ) (list : Ranges) → IsPublishedList z words (unpublished hs) from list → i < length (list_block list) → IsReadable z words hs (from + i)
  list_word from i list p lt =
      let to = p.whole.to in
      let start = p.whole.from in
      let below = p.below in
      let size : length (list_block list) ≡ list_size (length list) = let pairs = length-pairs list in omega (arith, pairs) in (
        omega (arith, lt, to, size),
        λ far. record {
          claimed = inl (omega (arith, lt, to, size), omega (arith, lt, below));
          apart = apart_word (unpublished hs) from (length (list_block list)) i lt p.apart;
        },
      )

  announced_readable : (at i : ℕ) (named : List ℕ) → IsAnnounced z words (unpublished hs) at named → i < announcement_size (length named) → IsReadable z words hs (at + i)
  announced_readable at i named p lt =
      let to = p.whole.to in
      let above = p.above in
      let below = p.below in
      (omega (arith, lt, to), λ far. record { claimed = inr (omega (arith, above), omega (arith, lt, below)); apart = apart_word (unpublished hs) at (announcement_size (length named)) i lt p.apart })

module _ (o : Opening) (words : List ℕ) (hs : List Holding) (log : List Applied) (low : ℕ) (p : SetPair) (w : LawfulWords p.0.sizes o words hs log) where
  layout : IsLayout p.0.sizes
  layout = w.sizes

  abbrev Here : Facts
  Here = facts_of_words p.0.sizes words hs low

  hold : AreFacts p.0.sizes words Here
  hold = facts_of_words_hold p.0.sizes o words hs log low w

  -- what is known of a block's word is what the load answered
  still : (n : ℕ) (k : KeptAnswer) → list_base p.0.sizes ≤ n → IsLoaded p.0.sizes o words hs log n k → k.answer ≡ slice_index words n
  still n k far l = (l.block far).0

  -- the answer is one of the load that is due at the stage
  abbrev IsLoadAt : Stage → KeptAnswer → Type 0
  IsLoadAt stage k = (n : ℕ) → set_step_at p.0.sizes p.0.head stage ≡ Some (Load n) → (low ≤ k.at) × IsLoaded p.0.sizes o words hs log n k

  told_counter : (k : KeptAnswer) → low ≤ k.at → IsLoaded p.0.sizes o words hs log (slot_counter p.0.sizes) k → (l : ℕ) → min k.answer p.0.sizes.slots ≤ l → FindsIn hs low p.1.indices l
  told_counter k after loaded l from j joins since =
      let slot = (shown p.0.sizes o words hs log w l j joins).slot in
      let less = at_joined (λ n i. i.since < k.at → n < k.answer) hs l j (loaded.counter refl) joins (omega (arith, since, after)) in
      absurd (omega (arith, slot, less, from))

  told_slot : (slot : ℕ) (k : KeptAnswer) → slot < p.0.sizes.slots → low ≤ k.at → IsLoaded p.0.sizes o words hs log (slot_word p.0.sizes slot) k → tells_at words Here (Slot slot) p k.answer
  told_slot slot k within after loaded = by_answer (loaded.slot slot within refl)
    where
      here : (j : JoinedAnnouncement) → Joins hs slot j → j.since < low → j.at ≡ k.answer
      here j joins since = sym (at_joined (λ n i. i.since < k.at → slot_word p.0.sizes slot ≡ slot_word p.0.sizes n → k.answer ≡ i.at) hs slot j loaded.joined joins (omega (arith, since, after)) refl)

      by_answer : IsSlotAnswer p.0.sizes words (unpublished hs) slot k.answer → tells_at words Here (Slot slot) p k.answer
      by_answer (inl empty) = inl (empty, not_joined p.0.sizes o words hs log low w p.1.indices slot k.answer (omega (arith, empty)) here)
      by_answer (inr (inl vacated)) = inr (inl (vacated.0, (within, vacated.1)))
      by_answer (inr (inr there)) = inr (inr (there.0, (there.1, here)))

  -- what a kept answer shows, where that of the slot counter and of a claim is a possible one
  told_at : (stage : Stage) (k : KeptAnswer) → set_goes_at stage p → knows_by Here stage p → IsSome (set_step_at p.0.sizes p.0.head stage) → IsLoadAt stage k →
      ((stage ≡ Counter) ⊎ ((count : ℕ) × (stage ≡ Claim count)) → is_possible_at stage p k.answer) → tells_at words Here stage p k.answer
  told_at Head k goes knows due f possible = (f (list_head p.0.sizes) refl).1.head refl
  told_at (ListLen at) k goes knows due f possible = still at k goes.2 (f at refl).1
  told_at (ListLow at left) k goes knows due f possible = let from = knows.2.stands.whole.from in let place = knows.3 in still at k (omega (arith, place, from)) (f at refl).1
  told_at (ListHigh at left lo) k goes knows due f possible = let from = knows.2.stands.whole.from in let place = knows.3 in still at k (omega (arith, place, from)) (f at refl).1
  told_at Counter k goes knows due f possible = let h = f (slot_counter p.0.sizes) refl in (possible (inl refl), told_counter k h.0 h.1)
  told_at (Slot slot) k goes knows due f possible =
      let h = f (slot_word p.0.sizes slot) refl in
      let less = goes.below in
      let bound = goes.walking.end_within in
      told_slot slot k (omega (arith, less, bound)) h.0 h.1
  told_at (Len slot at) k goes knows due f possible = let from = goes.1 in still at k (omega (arith, from)) (f at refl).1
  told_at (Index slot at left) k goes knows due f possible =
      let place = knows.1.3.place in
      let from = knows.1.3.shown.0.whole.from in
      still at k (omega (arith, place, from)) (f at refl).1
  told_at (Claim count) k goes knows due f possible = possible (inr (count, refl))
  told_at (Write at i count word) k goes knows due f possible = tt
  told_at (Publish at) k goes knows due f possible = tt
  told_at Done k goes knows due f possible = absurd (false≢true due)

  -- the next interval lies within the list that is being read
  unread : (from left : ℕ) (list : Ranges) → HasReadSo Here from list p.1.read left → 0 < left → high_word 0 (length p.1.read) < length (list_block list)
  unread from left list r some = let sum = r.sum in let pairs = length-pairs list in omega (arith, pairs, sum, some)

  -- the words that are to be loaded
  readable_at : (stage : Stage) (n : ℕ) → set_step_at p.0.sizes p.0.head stage ≡ Some (Load n) → set_goes_at stage p → knows_by Here stage p → IsReadable p.0.sizes words hs n
  readable_at Head n e goes knows = let is : list_head p.0.sizes ≡ n = cc in let some = layout.slots.0 in (omega (arith, is, some), λ far. absurd (omega (arith, is, some, far)))
  readable_at (ListLen at) n e goes knows = let is : at ≡ n = cc in subst (IsReadable p.0.sizes words hs) (omega (arith, is))
      (list_word p.0.sizes o words hs log low w at 0 knows.0 knows.1 (omega arith))
  readable_at (ListLow at left) n e goes knows =
      let is : at ≡ n = cc in
      subst (IsReadable p.0.sizes words hs) (let place = knows.3 in omega (arith, is, place))
      (list_word p.0.sizes o words hs log low w knows.0 (low_word 0 (length p.1.read)) knows.1 knows.2.stands
      (let far = unread knows.0 left knows.1 knows.2 goes.0.some in omega (arith, far)))
  readable_at (ListHigh at left lo) n e goes knows =
      let is : at ≡ n = cc in
      subst (IsReadable p.0.sizes words hs) (let place = knows.3 in omega (arith, is, place))
      (list_word p.0.sizes o words hs log low w knows.0 (high_word 0 (length p.1.read)) knows.1 knows.2.stands
      (unread knows.0 left knows.1 knows.2 goes.0.some))
  readable_at Counter n e goes knows = let is : slot_counter p.0.sizes ≡ n = cc in let some = layout.slots.0 in (omega (arith, is, some), λ far. absurd (omega (arith, is, some, far)))
  readable_at (Slot slot) n e goes knows = let is : slot_word p.0.sizes slot ≡ n = cc in let less = goes.below in let bound =
      goes.walking.end_within in (omega (arith, is, less, bound), λ far. absurd (omega (arith, is, less, bound, far)))
  readable_at (Len slot at) n e goes knows = let is : at ≡ n = cc in subst (IsReadable p.0.sizes words hs) (omega (arith, is))
      (announced_readable p.0.sizes o words hs log low w at 0 knows.1.0 knows.1.1.0 (omega arith))
  readable_at (Index slot at left) n e goes knows =
      let is : at ≡ n = cc in
      let r = knows.1.3 in
      let place = r.place in
      let sum = r.sum in
      let some = goes.1 in
      subst (IsReadable p.0.sizes words hs) (omega (arith, is, place))
      (announced_readable p.0.sizes o words hs log low w knows.1.0 (announced_word 0 knows.1.2) knows.1.1 r.shown.0 (omega (arith, sum, some)))
  readable_at stage n e goes knows = absurd cc

  -- what the words answer now is possible
  possible_now : (n : ℕ) → set_step_due p.0 ≡ Some (Load n) → set_goes_at p.0.stage p → knows_by Here p.0.stage p →
      IsLoaded p.0.sizes o words hs log n (record { answer = slice_index words n; at = length log }) → low ≤ length log → IsPossibleInSet p (slice_index words n)
  possible_now n e goes knows loaded after =
      let k : KeptAnswer = record { answer = slice_index words n; at = length log } in
      let f : IsLoadAt p.0.stage k = λ m is. let same : n ≡ m = cc in (after, subst (λ i. IsLoaded p.0.sizes o words hs log i k) same loaded) in
      (leads_at p layout words Here hold p.0.stage (slice_index words n) goes knows (told_at p.0.stage k goes knows (ap is_some e) f beside)).0
    where
      beside : (p.0.stage ≡ Counter) ⊎ ((count : ℕ) × (p.0.stage ≡ Claim count)) → IsPossibleInSet p (slice_index words n)
      beside (inl is) =
          let read = subst (λ st. set_goes_at st p) is goes in
          let vacated = subst (λ st. knows_by Here st p) is knows in
          let ends = ends_below p.0.sizes words Here hold p.1.read (slice_index words (slot_counter p.0.sizes)) read.0.normal read.0.within w.unclaimed vacated in
          let counter : slot_counter p.0.sizes ≡ n = cc in
          subst (λ st. is_possible_at st p (slice_index words n)) (sym is) (subst (λ m. EndsBelow p.1.read (slice_index words m)) counter ends)
      beside (inr claim) = let is = claim.1 in absurd cc

  -- what a kept answer says of a load
  kept_load : (f : Option Step) (k : KeptAnswer) → IsKeptAnswer p.0.sizes o words hs log low p f k → IsSome f × IsPossibleInSet p k.answer ×
      ((n : ℕ) → f ≡ Some (Load n) → (low ≤ k.at) × IsLoaded p.0.sizes o words hs log n k)
  kept_load None k h = absurd h
  kept_load (Some (Load m)) k h = (refl, h.0, λ n e. let is : m ≡ n = cc in (h.1, subst (λ i. IsLoaded p.0.sizes o words hs log i k) is h.2))
  kept_load (Some (Store m v)) k h = (refl, h, λ n e. absurd cc)
  kept_load (Some (Exchange m old new)) k h = (refl, h, λ n e. absurd cc)
  kept_load (Some (Add m i)) k h = (refl, h, λ n e. absurd cc)

pub getsets_know : GetSetsKnow
getsets_know o words hs log low p w together knows = record {
  readable = λ n e. readable_at o words hs log low p w p.0.stage n e together.stage knows;
  possible = λ n e l after. possible_now o words hs log low p w n e together.stage knows l after;
  on = λ k h.
      let both = kept_load o words hs log low p w (set_step_due p.0) k h in
      let told = told_at o words hs log low p w p.0.stage k together.stage knows both.0 both.2 (λ beside. both.1) in
      (leads_at p w.sizes words (facts_of_words p.0.sizes words hs low) (facts_of_words_hold p.0.sizes o words hs log low w) p.0.stage k.answer together.stage knows told).1;
}
