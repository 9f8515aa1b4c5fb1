-- What stays true by the answer of a load.
use Rattle.std.specs.Prelude.{ℕ, ◌≡◌, ◌<◌, ◌≤◌, ◌⊎◌, List, length, take, slice_index}
use Rattle.std.specs.List.{AllByRecursion}
use Rattle.partial_model.specs.declared.history.Applied.{Applied}
use Rattle.partial_model.specs.declared.history.Opening.{Opening}
use Rattle.partial_model.specs.History.{stamp_of}
use Rattle.partial_words.specs.Layout.{Layout, slot_counter, list_head, pool_counter, list_counter, slot_word, list_base, list_end, pool_base}
use Rattle.partial_state.specs.Views.{Block, IsApartFrom, IsAnnounced, IsHead}
use Rattle.partial_state.specs.Holdings.{Holding, unpublished, IfJoined}

-- an answer that a port keeps, and how long the history was at that step
pub record KeptAnswer : Type 0 where
  pub answer : ℕ
  pub at : ℕ

-- a slot's answer: EMPTY, or VACATED and so for ever, or the reference of a published announcement
abbrev pub IsSlotAnswer : Layout → List ℕ → List Block → ℕ → ℕ → Type 0
IsSlotAnswer z words unpublished l x =
    (x ≡ 0) ⊎ ((x ≡ 1) × (slice_index words (slot_word z l) ≡ 1)) ⊎ ((indices : List ℕ) × IsAnnounced z words unpublished x indices)

-- a word of a list or of the pool that is claimed and belongs to no block that isn't published yet
pub record IsPublished (z : Layout) (words : List ℕ) (unpublished : List Block) (w : ℕ) : Type 0 where
  pub claimed : ((w < list_end z) × (w < slice_index words (list_counter z)))
      ⊎ ((pool_base z ≤ w) × (w < slice_index words (pool_counter z)))
  pub apart : IsApartFrom unpublished (record { at = w; size = 1 })

-- what stays true by a kept answer of a load of word w
pub record IsLoaded (z : Layout) (o : Opening) (words : List ℕ) (hs : List Holding) (log : List Applied) (w : ℕ) (k : KeptAnswer) :
    Type 0 where
  pub within : k.at ≤ length log
  -- a component's word was its stamp at that length of the history
  pub component : w < z.m → k.answer ≡ stamp_of o (take k.at log) w
  -- the list head was none or a published list, and a slot what a slot may hold
  pub head : w ≡ list_head z → IsHead z words (unpublished hs) k.answer
  pub slot : (l : ℕ) → l < z.slots → w ≡ slot_word z l → IsSlotAnswer z words (unpublished hs) l k.answer
  -- a word of a block is the word of a published block, which never changes
  pub block : list_base z ≤ w → (k.answer ≡ slice_index words w) × IsPublished z words (unpublished hs) w
  -- above the length at which a port joined, the slot counter is above its slot, and its slot shows its announcement
  pub counter : w ≡ slot_counter z → AllByRecursion (λ h. IfJoined h (λ l j. j.since < k.at → l < k.answer)) hs
  pub joined : AllByRecursion (λ h. IfJoined h (λ l j. j.since < k.at → w ≡ slot_word z l → k.answer ≡ j.at)) hs
