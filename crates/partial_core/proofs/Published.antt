-- The blocks that lawful words publish: none of their words changes after any step, and so each step is an orderly event.
use Rattle.partial_core.proofs.{Common.{ℕ, ◌≡◌, ◌+◌, ◌<◌, ◌≤◌, Some, List, [], ◌∷◌, length, inl, inr, sym, subst, ◌∙◌, arith, Ranges, Applied, Opening, Step, Layout, list_base, total, StandsAt, words_after, announcement_block, announcement_size, list_block, list_reads_back, length-pairs, IsAnnouncement, IsVacatedList, Publishes, slot_at, head_at, AtSome, IsOrderlyEvent, IsAnnounced, IsPublishedList, IsHead, Holding, unpublished, LawfulWords, IsSlotAnswer, IsPublished, announcement_claimed, list_claimed, block_published, CoreState, step_of, IsMachineOf, holdings, LeadsOn, StepsAreOrderly, PartAmong, LawfulAmong, all_parts, memory_after}, AllSteps.steps_stay_lawful, Ordered.{slot_now, lawful_is_orderly, steps_move_slots}}
use Rattle.partial_words.proofs.PlainLemmas.{same_long}
use Rattle.partial_active.proofs.Indices.{same_named}

-- so many words from that one on are published for ever
abbrev pub ArePublished : Layout → List ℕ → List Holding → ℕ → ℕ → Type 0
ArePublished z words hs at size = (k : ℕ) → k < size → (list_base z ≤ at + k) × (at + k < total z) × IsPublished z words (unpublished hs) (at + k)

module _ (z : Layout) (o : Opening) (words : List ℕ) (hs : List Holding) (log : List Applied) (w : LawfulWords z o words hs log) where
  -- an announcement of so many indices is published there, and a list of so many words
  abbrev AnnouncesSo : ℕ → List ℕ → Type 0
  AnnouncesSo at named = (indices : List ℕ) × (length indices ≡ length named) × IsAnnounced z words (unpublished hs) at indices

  abbrev ListsSo : ℕ → Ranges → Type 0
  ListsSo at list = (other : Ranges) × (length (list_block other) ≡ length (list_block list)) × IsPublishedList z words (unpublished hs) at other

  -- what the announcement in a slot is: a published block of the pool
  announced_in : (l : ℕ) (named : List ℕ) → l < z.slots → IsAnnouncement z words (slot_at z words l) named → AnnouncesSo (slot_at z words l) named
  announced_in l named below there = by_answer (slot_now z o words hs log w l below)
    where
      by_answer : IsSlotAnswer z words (unpublished hs) l (slot_at z words l) → AnnouncesSo (slot_at z words l) named
      by_answer (inl empty) = let from = there.from in absurd (omega (arith, from, empty))
      by_answer (inr (inl vacated)) = let from = there.from in let is = vacated.0 in absurd (omega (arith, from, is))
      by_answer (inr (inr a)) = (a.0, (same_named words (slot_at z words l) a.0 named a.1.whole.stands there.stands).0, a.1)

  -- and the list at the list head
  listed_at : (list : Ranges) → IsVacatedList z words (head_at z words) list → ListsSo (head_at z words) list
  listed_at list there = by_head w.head
    where
      by_head : IsHead z words (unpublished hs) (head_at z words) → ListsSo (head_at z words) list
      by_head (inl none) = let from = there.from in absurd (omega (arith, from, none))
      by_head (inr a) =
          let mine = (list_reads_back words (head_at z words) list there.stands).count in
          let theirs = (list_reads_back words (head_at z words) a.0 a.1.whole.stands).count in
          let one = length-pairs a.0 in
          let two = length-pairs list in
          (a.0, omega (arith, mine, theirs, one, two), a.1)

  -- each word of the two is published
  announced_words : (l : ℕ) (named : List ℕ) → l < z.slots → IsAnnouncement z words (slot_at z words l) named →
      ArePublished z words hs (slot_at z words l) (length (announcement_block named))
  announced_words l named below there k lt =
      let a = announced_in l named below there in
      let size = a.1 in
      let from = there.from in
      let to = there.to in (
        omega (arith, from),
        omega (arith, to, lt),
        block_published z words (unpublished hs) (record { at = slot_at z words l; size = announcement_size (length a.0) }) (slot_at z words l + k)
            (announcement_claimed z words (unpublished hs) (slot_at z words l) a.0 a.2) a.2.apart (omega arith) (omega (arith, lt, size)),
      )

  listed_words : (list : Ranges) → IsVacatedList z words (head_at z words) list → ArePublished z words hs (head_at z words) (length (list_block list))
  listed_words list there k lt =
      let a = listed_at list there in
      let size = a.1 in
      let from = there.from in
      let to = there.to in
      let pairs = length-pairs list in (
        omega (arith, from),
        omega (arith, to, lt, pairs),
        block_published z words (unpublished hs) (record { at = head_at z words; size = length (list_block a.0) }) (head_at z words + k)
            (list_claimed z words (unpublished hs) (head_at z words) a.0 a.2) a.2.apart (omega arith) (omega (arith, lt, size)),
      )

  pub published_now : (at : ℕ) (block : List ℕ) → Publishes z at block words → ArePublished z words hs at (length block)
  published_now at block (inl p) =
      let here : IsAnnouncement z words (slot_at z words p.0) p.1 = subst (λ a. IsAnnouncement z words a p.1) (sym p.3) p.4 in
      subst (λ (b : List ℕ). ArePublished z words hs at (length b)) (sym p.5)
      (subst (λ a. ArePublished z words hs a (length (announcement_block p.1))) p.3 (announced_words p.0 p.1 p.2 here))
  published_now at block (inr p) =
      let here : IsVacatedList z words (head_at z words) p.0 = subst (λ a. IsVacatedList z words a p.0) (sym p.1) p.2 in
      subst (λ (b : List ℕ). ArePublished z words hs at (length b)) (sym p.3)
      (subst (λ a. ArePublished z words hs a (length (list_block p.0))) p.1 (listed_words p.0 here))

-- what is published at some of the moments, in the words of the last one
abbrev pub KeepsPublished : Layout → List (List ℕ) → List ℕ → List Holding → Type 0
KeepsPublished z past words hs = (at : ℕ) (block : List ℕ) → AtSome (Publishes z at block) past → ArePublished z words hs at (length block)

-- with what these words publish
pub keeps_now : (z : Layout) (o : Opening) (words : List ℕ) (hs : List Holding) (log : List Applied) (past : List (List ℕ)) →
    LawfulWords z o words hs log → KeepsPublished z past words hs → KeepsPublished z (words ∷ past) words hs
keeps_now z o words hs log past w keeps at block some = elim some [ inl now ↦ published_now z o words hs log w at block now | inr before ↦ keeps at block before ]

module _ (z : Layout) (o : Opening) (m : PartAmong) (c : CoreState) (step : Step) (leads : LeadsOn z o m c step) where
  open m use {words}

  -- a published block stands yet, and goes on being published
  stands_yet : (at : ℕ) (block : List ℕ) → ArePublished z words (holdings (all_parts m)) at (length block) → StandsAt words at block → StandsAt (words_after words step) at block
  stands_yet at block published stands k lt =
      let p = published k lt in
      let s = stands k lt in
      let inside = s.0 in
      let long = same_long words step in
      (omega (arith, inside, long), (leads.keeps (at + k) p.0 p.1 p.2).0 ∙ s.1)

  pub keeps_on : (past : List (List ℕ)) → KeepsPublished z past words (holdings (all_parts m)) →
      KeepsPublished z past (words_after words step) (holdings (all_parts (memory_after z m step leads.y)))
  keeps_on past keeps at block some k lt = let p = keeps at block some k lt in (p.0, p.1, (leads.keeps (at + k) p.0 p.1 p.2).1)

  pub step_orderly : (past : List (List ℕ)) → LawfulAmong z o m → IsMachineOf c m.part → step_of c ≡ Some step → KeepsPublished z past words (holdings (all_parts m)) →
      IsOrderlyEvent z past words (words_after words step)
  step_orderly past w its due keeps =
      let later = lawful_is_orderly z o (words_after words step) (all_parts (memory_after z m step leads.y)) _ leads.lawful in
      record {
        orderly = later;
        slots = steps_move_slots z o m c step w its due later;
        blocks = λ at block some. stands_yet at block (keeps at block some);
      }

pub steps_are_orderly : StepsAreOrderly
steps_are_orderly z o m c step w its due =
    let none : KeepsPublished z [] m.words (holdings (all_parts m)) = λ at block some. absurd some in
    let keeps = keeps_now z o m.words (holdings (all_parts m)) m.log [] w.memory none in
    step_orderly z o m c step (steps_stay_lawful z o m c step w its due) (m.words ∷ []) w its due keeps
