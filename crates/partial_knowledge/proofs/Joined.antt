-- What lawful words say of a port that is joined.
use Rattle.partial_knowledge.proofs.Common.{ℕ, ◌≡◌, ◌<◌, List, slice_index, Option, Some, IfSome, subst, arith, AllByRecursion, Applied, Opening, Layout, slot_word, slot_counter, JoinedAnnouncement, IsAnnounced, ClaimedSlot, Holding, IfJoined, unpublished, LawfulWords, IsClaim, Joins, AllByRecursion-get}

-- what holds of each announcement holds of this one
pub at_joined : (P : ℕ → JoinedAnnouncement → Type 0) (hs : List Holding) (l : ℕ) (j : JoinedAnnouncement) → AllByRecursion (λ h. IfJoined h P) hs → Joins hs l j → P l j
at_joined P hs l j w joins =
    let here : IfJoined joins.1 P = AllByRecursion-get (λ (h : Holding). IfJoined h P) hs joins.0 joins.1 w joins.2 in
    let some : IfSome (Some (record { slot = l; joined = Some j })) (λ (c : ClaimedSlot). IfSome c.joined (P c.slot)) =
    subst (λ (f : Option ClaimedSlot). IfSome f (λ (c : ClaimedSlot). IfSome c.joined (P c.slot))) joins.3 here in
    some

-- its slot is one of the slots that were claimed, and shows its announcement
pub record IsShown (z : Layout) (words : List ℕ) (hs : List Holding) (l : ℕ) (j : JoinedAnnouncement) : Type 0 where
  pub slot : l < z.slots
  pub below : l < slice_index words (slot_counter z)
  pub shows : slice_index words (slot_word z l) ≡ j.at
  pub announced : IsAnnounced z words (unpublished hs) j.at j.indices

pub shown : (z : Layout) (o : Opening) (words : List ℕ) (hs : List Holding) (log : List Applied) → LawfulWords z o words hs log → (l : ℕ) (j : JoinedAnnouncement) → Joins hs l j → IsShown z words hs l j
shown z o words hs log w l j joins =
    let here : IfSome joins.1.claimed (IsClaim z words hs log) = AllByRecursion-get (λ (h : Holding). IfSome h.claimed (IsClaim z words hs log)) hs joins.0 joins.1 w.claims joins.2 in
    let c : IsClaim z words hs log (record { slot = l; joined = Some j }) = subst (λ (f : Option ClaimedSlot). IfSome f (IsClaim z words hs log)) joins.3 here in
    let holds = c.holds in
    record { slot = c.slot; below = c.below; shows = holds.0; announced = holds.2 }

-- it is the reference of an announcement, above EMPTY and VACATED
pub reference_above : (z : Layout) (words : List ℕ) (hs : List Holding) (l : ℕ) (j : JoinedAnnouncement) → IsShown z words hs l j → 1 < j.at
reference_above z words hs l j s = let from = s.announced.above in omega (arith, from)
