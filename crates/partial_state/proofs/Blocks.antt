-- The blocks of the words, with one port's holding in the place of another.
use Rattle.partial_state.proofs.{Common.{ℕ, ◌≡◌, ◌++◌, List, [], ◌∷◌, length, map, Option, Some, None, refl, sym, ◌∙◌, ap, cons_option, option_map, Applied, Layout, pool_base, Block, JoinedAnnouncement, Own, Holding, block_of, block_at, announcements, unpublished, written, spares, blocks_in, joined_in, initial_words, announcement_size}, ListLemmas.{Adds, adds_behind, adds_before}, HoldingLemmas.{filter_split, map_split}}

-- the block of an announcement
abbrev pub announcement_of : JoinedAnnouncement → Block
announcement_of j = record { at = j.at; size = announcement_size (length j.indices) }

module _ (before : List Holding) (h : Holding) (after : List Holding) where
  pub written_is : (f : Option Block) → option_map block_of h.own ≡ f → written (before ++ h ∷ after) ≡ written before ++ cons_option f (written after)
  written_is f e =
      filter_split (λ (v : Holding). option_map block_of v.own) before h after ∙ ap (λ (f : Option Block). written before ++ cons_option f (written after)) e

  pub spares_are : (x : Block) → h.spare ≡ x → spares (before ++ h ∷ after) ≡ spares before ++ x ∷ spares after
  spares_are x e = map_split (λ (v : Holding). v.spare) before h after ∙ ap (λ (x : Block). spares before ++ x ∷ spares after) e

  -- the blocks that aren't published, but for the port's spare words
  pub unspared : List Block
  unspared = written (before ++ h ∷ after) ++ (spares before ++ spares after)

  pub spare_added : Adds h.spare unspared (unpublished (before ++ h ∷ after))
  unfolding unspared
  spare_added = adds_behind h.spare (written (before ++ h ∷ after)) (spares before ++ spares after) (spares (before ++ h ∷ after))
      (spares before, spares after, refl, spares_are h.spare refl)

  pub announcements_are : (f : Option JoinedAnnouncement) → joined_in h.claimed ≡ f → announcements (before ++ h ∷ after) ≡ announcements before ++ cons_option (option_map announcement_of f) (announcements after)
  announcements_are f e = filter_split (λ (v : Holding). option_map announcement_of (joined_in v.claimed)) before h after ∙ ap (λ (f : Option JoinedAnnouncement). announcements before ++
      cons_option (option_map announcement_of f) (announcements after)) e

module _ (before : List Holding) (h h' : Holding) (after : List Holding) where
  -- the port's own block is the same one
  pub written_same : option_map block_of h'.own ≡ option_map block_of h.own → written (before ++ h' ∷ after) ≡ written (before ++ h ∷ after)
  written_same e = written_is before h' after (option_map block_of h.own) e ∙ sym (written_is before h after (option_map block_of h.own) refl)

  pub spares_same : h'.spare ≡ h.spare → spares (before ++ h' ∷ after) ≡ spares (before ++ h ∷ after)
  spares_same e = spares_are before h' after h.spare e ∙ sym (spares_are before h after h.spare refl)

  pub unspared_same : option_map block_of h'.own ≡ option_map block_of h.own → unspared before h' after ≡ unspared before h after
  unfolding unspared
  unspared_same e = ap (λ (l : List Block). l ++ (spares before ++ spares after)) (written_same e)

  pub unpublished_like : option_map block_of h'.own ≡ option_map block_of h.own → h'.spare ≡ h.spare → unpublished (before ++ h' ∷ after) ≡ unpublished (before ++ h ∷ after)
  unpublished_like e s = ap (λ (l : List Block). l ++ spares (before ++ h' ∷ after)) (written_same e) ∙ ap (λ (l : List Block). written (before ++ h ∷ after) ++ l) (spares_same s)

  pub unpublished_same : h'.own ≡ h.own → h'.spare ≡ h.spare → unpublished (before ++ h' ∷ after) ≡ unpublished (before ++ h ∷ after)
  unpublished_same e s = unpublished_like (ap (λ (f : Option Own). option_map block_of f) e) s

  pub announced_same : joined_in h'.claimed ≡ joined_in h.claimed → announcements (before ++ h' ∷ after) ≡ announcements (before ++ h ∷ after)
  announced_same e = announcements_are before h' after (joined_in h.claimed) e ∙ sym (announcements_are before h after (joined_in h.claimed) refl)

  -- h has a block more than h'
  pub own_added : (b : Own) → h'.own ≡ None → h.own ≡ Some b → h'.spare ≡ h.spare → Adds (block_of b) (unpublished (before ++ h' ∷ after)) (unpublished (before ++ h ∷ after))
  own_added b none some same =
      let here : Adds (block_of b) (written (before ++ h' ∷ after)) (written (before ++ h ∷ after)) = (
        written before,
        written after,
        written_is before h' after None (ap (λ (f : Option Own). option_map block_of f) none),
        written_is before h after (Some (block_of b)) (ap (λ (f : Option Own). option_map block_of f) some),
      ) in
      let all : Adds (block_of b) (written (before ++ h' ∷ after) ++ spares (before ++ h ∷ after)) (unpublished (before ++ h ∷ after)) =
      adds_before (block_of b) (spares (before ++ h ∷ after)) (written (before ++ h' ∷ after)) (written (before ++ h ∷ after)) here in
      (all.0, all.1, ap (λ (l : List Block). written (before ++ h' ∷ after) ++ l) (spares_same same) ∙ all.2, all.3)

  pub announcement_added : (j : JoinedAnnouncement) → joined_in h'.claimed ≡ None → joined_in h.claimed ≡ Some j → Adds (announcement_of j) (announcements (before ++ h' ∷ after))
      (announcements (before ++ h ∷ after))
  announcement_added j none some = (announcements before, announcements after, announcements_are before h' after None none, announcements_are before h after (Some j) some)

-- the blocks, with these announcements, and with these blocks that aren't published
abbrev pub blocks_with : Layout → List ℕ → List Applied → List Block → List Block → List Block
blocks_with z words log announced us = record { at = pool_base z; size = initial_words z } ∷ (map (λ e. block_at words e.stamp) log ++ (announced ++ us))

pub block_added : (z : Layout) (words : List ℕ) (log : List Applied) (announced : List Block) (b : Block) (us' us : List Block) → Adds b us' us →
    Adds b (blocks_with z words log announced us') (blocks_with z words log announced us)
block_added z words log announced b us' us w =
    let initial : List Block = record { at = pool_base z; size = initial_words z } ∷ [] in
    let entries : List Block = map (λ e. block_at words e.stamp) log in
    adds_behind b initial (entries ++ (announced ++ us')) (entries ++ (announced ++ us))
    (adds_behind b entries (announced ++ us') (announced ++ us) (adds_behind b announced us' us w))

-- the blocks of both, where one has one more that isn't published, or one more announcement
module _ (z : Layout) (words : List ℕ) (hs hs' : List Holding) (log : List Applied) where
  abbrev initial : List Block
  initial = record { at = pool_base z; size = initial_words z } ∷ []

  abbrev entries : List Block
  entries = map (λ e. block_at words e.stamp) log

  pub blocks_same : announcements hs' ≡ announcements hs → unpublished hs' ≡ unpublished hs → blocks_in z words hs' log ≡ blocks_in z words hs log
  blocks_same a u = ap (λ (l : List Block). initial ++ (entries ++ (l ++ unpublished hs'))) a ∙ ap (λ (l : List Block). initial ++ (entries ++ (announcements hs ++ l))) u

  pub own_block_added : (b : Block) → announcements hs' ≡ announcements hs → Adds b (unpublished hs') (unpublished hs) → Adds b (blocks_in z words hs' log) (blocks_in z words hs log)
  own_block_added b a w =
      let here = block_added z words log (announcements hs) b (unpublished hs') (unpublished hs) w in
      (here.0, here.1, ap (λ (l : List Block). initial ++ (entries ++ (l ++ unpublished hs'))) a ∙ here.2, here.3)

  pub announced_block_added : (b : Block) → unpublished hs' ≡ unpublished hs → Adds b (announcements hs') (announcements hs) → Adds b (blocks_in z words hs' log) (blocks_in z words hs log)
  announced_block_added b u w =
      let here : Adds b (initial ++ (entries ++ (announcements hs' ++ unpublished hs))) (initial ++ (entries ++ (announcements hs ++ unpublished hs))) =
      adds_behind b initial (entries ++ (announcements hs' ++ unpublished hs)) (entries ++ (announcements hs ++ unpublished hs))
      (adds_behind b entries (announcements hs' ++ unpublished hs) (announcements hs ++ unpublished hs) (adds_before b (unpublished hs) (announcements hs') (announcements hs) w)) in
      (here.0, here.1, ap (λ (l : List Block). initial ++ (entries ++ (announcements hs' ++ l))) u ∙ here.2, here.3)
