-- What a load answers is true from then on.
use Rattle.partial_state.proofs.{Common.{ℕ, ◌≡◌, ◌<◌, ◌≤◌, List, [], ◌∷◌, length, slice_index, Option, Some, None, IfSome, MatchOption, refl, sym, ◌∙◌, ap, subst, inl, inr, arith, AllByRecursion, cases_lt, take_all, Applied, Opening, stamp_of, Layout, slot_counter, slot_word, JoinedAnnouncement, IsAnnounced, IsHead, ClaimedSlot, Holding, unpublished, IfJoined, LawfulWords, IsClaimedIn, IsClaim, IsSlotAnswer, LoadsAreTrue}, ListLemmas.all_weaker, Claimed.match_some, HoldingLemmas.{if_some, if_all, if_some_at, some_found}}

-- what holds of each claim holds of the slot's
pub claim_found : (P : ClaimedSlot → Type 0) (l : ℕ) (hs : List Holding) → IsClaimedIn l hs → AllByRecursion (λ h. IfSome h.claimed P) hs → (c : ClaimedSlot) × (c.slot ≡ l) × P c
claim_found P l [] k all = absurd k
claim_found P l (h ∷ hs) (inl k) all = let found = some_found (λ c. c.slot ≡ l) h.claimed k in (found.0, found.2, if_some_at P h.claimed found.0 found.1 all.0)
claim_found P l (h ∷ hs) (inr k) all = claim_found P l hs k all.1

-- a slot below the last holds what a slot may hold
slot_now : (z : Layout) (o : Opening) (words : List ℕ) (hs : List Holding) (log : List Applied) (l : ℕ) → LawfulWords z o words hs log → l < z.slots → IsSlotAnswer z words (unpublished hs) l
    (slice_index words (slot_word z l))
slot_now z o words hs log l w room =
    elim (cases_lt l (slice_index words (slot_counter z))) [
      | inr from ↦ inl (w.unclaimed l from room)
      | inl below ↦ elim (w.taken l below room) [
        | inl one ↦ inr (inl (one, one))
        | inr k ↦ let found = claim_found (IsClaim z words hs log) l hs k w.claims in held found.0.slot found.0.joined found.1 found.2.holds
      ]
    ]
  where
    held : (m : ℕ) (f : Option JoinedAnnouncement) → m ≡ l → MatchOption f (slice_index words (slot_word z m) ≡ 0)
        (λ j. (slice_index words (slot_word z m) ≡ j.at) × (j.since ≤ length log) × IsAnnounced z words (unpublished hs) j.at j.indices) → IsSlotAnswer z words (unpublished hs) l
        (slice_index words (slot_word z l))
    held m None is k = inl (ap (λ n. slice_index words (slot_word z n)) (sym is) ∙ k)
    held m (Some j) is k = let holds : slice_index words (slot_word z l) ≡ j.at = ap (λ n. slice_index words (slot_word z n)) (sym is) ∙ k.0 in inr
        (inr (j.indices, subst (λ n. IsAnnounced z words (unpublished hs) n j.indices) (sym holds) k.2))

-- what a joined port's claim says of its announcement
joined_all : (z : Layout) (o : Opening) (words : List ℕ) (hs : List Holding) (log : List Applied) (P : ℕ → JoinedAnnouncement → Type 0) → LawfulWords z o words hs log →
    ((c : ClaimedSlot) (j : JoinedAnnouncement) → IsClaim z words hs log c → slice_index words (slot_word z c.slot) ≡ j.at → P c.slot j) → AllByRecursion (λ h. IfJoined h P) hs
joined_all z o words hs log P w f =
    all_weaker (λ (h : Holding). IfSome h.claimed (IsClaim z words hs log)) (λ h. IfJoined h P)
    (λ h k. if_some (IsClaim z words hs log) (λ c. IfSome c.joined (P c.slot)) h.claimed
    (λ c e claim. if_all (P c.slot) c.joined (λ j is. f c j claim (match_some (slice_index words (slot_word z c.slot) ≡ 0)
    (λ j. (slice_index words (slot_word z c.slot) ≡ j.at) × (j.since ≤ length log) × IsAnnounced z words (unpublished hs) j.at j.indices) c.joined j is claim.holds).0)) k) hs w.claims

pub loads_are_true : LoadsAreTrue
loads_are_true z o words hs log n w below far =
    let values = w.values in
    record {
      within = omega arith;
      component = λ inside. (w.agrees n (omega (arith, values, inside))).0 ∙ ap (λ (l : List Applied). stamp_of o l n) (sym (take_all (length log) log (omega arith)));
      head = λ is. subst (λ t. IsHead z words (unpublished hs) (slice_index words t)) (sym is) w.head;
      slot = λ l room is. subst (λ t. IsSlotAnswer z words (unpublished hs) l (slice_index words t)) (sym is) (slot_now z o words hs log l w room);
      block = λ inside. (refl, far inside);
      counter = λ is. joined_all z o words hs log (λ l j. j.since < length log → l < slice_index words n) w (λ c j k at since. subst (λ t. c.slot < slice_index words t) (sym is) k.below);
      joined = joined_all z o words hs log (λ l j. j.since < length log → n ≡ slot_word z l → slice_index words n ≡ j.at) w (λ c j k at since is. ap (λ t. slice_index words t) is ∙ at);
    }
