-- The control words: which epoch is the current one, where each port stands, and who owns which arena.
use Rattle.std.specs.Prelude.{ℕ, ◌+◌, ◌<◌, ◌≤◌, List, slice_index, Option, ◌≡◌, ◌≢◌, ◌⊎◌, ⊤, true, Some, None, IfSome}
use Rattle.partial_epochs.specs.Layout.{Plan, Site, packed, entering_from, IsSite, current_word, at_word, own_word}
use Rattle.partial_epochs.specs.Ports.{Entering, OwnedArena, Control}
use Rattle.partial_epochs.specs.Ports.Entering.{Stands, StoredEntering, Loaded}

-- port k is entering, and its word is still its entering word
abbrev pub IsStillEntering : List ℕ → Control → ℕ → Type 0
IsStillEntering words c k = slice_index words (at_word k) ≡ entering_from c.here

-- the word where a port stands: while it is entering it is its entering word, or a later site that another port has put
abbrev pub IsSiteWord : Plan → List ℕ → ℕ → Site → Entering → Type 0
IsSiteWord e words k here Stands = slice_index words (at_word k) ≡ packed here
IsSiteWord e words k here _ = (slice_index words (at_word k) ≡ entering_from here)
    ⊎ ((c : Site) × IsSite e c × (slice_index words (at_word k) ≡ packed c) × (here.epoch < c.epoch))

-- how a port that is entering stands to the current epoch
abbrev pub IsOld : Plan → ℕ → Site → Entering → Type 0
IsOld e now here Stands = here.epoch ≤ now
IsOld e now here StoredEntering = here.epoch < now
IsOld e now here (Loaded c) = (here.epoch < c.epoch) × (c.epoch ≤ now) × IsSite e c

-- An entering word of a port that another port has loaded: it is of an earlier epoch than the one where that port stands, or no
-- later than the one from which it is entering
abbrev pub IsEarlier : Site → Site → Entering → Type 0
IsEarlier a here Stands = a.epoch < here.epoch
IsEarlier a here _ = a.epoch ≤ here.epoch

-- what has been loaded as the current site isn't in that arena
abbrev pub NotInto : ℕ → Entering → Type 0
NotInto x (Loaded c) = c.arena ≢ x
NotInto x _ = ⊤

-- port q may put port k, whose entering word it has loaded: it has seen since that its own epoch is the current one
pub record MayPut (q : Control) (k : ℕ) (a : Site) : Type 0 where
  -- it owns an arena
  pub owned : OwnedArena
  pub is : q.owned ≡ Some owned
  -- k is the port that it looks at next
  pub port : owned.clean ≡ k
  -- it holds that entering word of k
  pub entering_word : owned.entering_word ≡ Some a
  -- it has looked at the current word since it loaded the entering word
  pub again : owned.again ≡ true

-- port k is out of the arena x, and doesn't come into it
pub record IsOut (e : Plan) (words : List ℕ) (cs : ℕ → Control) (x k : ℕ) : Type 0 where
  -- its word names no site in that arena
  pub without_bit : (c : Site) → IsSite e c → slice_index words (at_word k) ≡ packed c → c.arena ≢ x
  -- it hasn't loaded such a site, or its exchange of the entering word will be lost
  pub loaded : IsStillEntering words (cs k) k → NotInto x (cs k).entering
  -- no port that may put it stands in that arena
  pub put : (q : ℕ) (a : Site) → q < e.ports → MayPut (cs q) k a → slice_index words (at_word k) ≡ entering_from a →
      (cs q).here.arena ≢ x

-- what is so of an arena that port k owns
pub record IsOwner (e : Plan) (words : List ℕ) (cs : ℕ → Control) (now : Site) (holds : ℕ → Option ℕ) (k : ℕ) (w : OwnedArena) :
    Type 0 where
  -- an owner isn't entering
  pub stands : (cs k).entering ≡ Stands
  -- the arena is one of those that there are
  pub arena : w.arena < e.arenas
  -- the owner doesn't stand in it
  pub apart : (cs k).here.arena ≢ w.arena
  -- the arena's owner word names the port, so that each arena has one owner at most
  pub word : slice_index words (own_word e w.arena) ≡ k + 1
  -- once the owner has looked, the arena isn't the current one
  pub looked : w.looked ≡ true → now.arena ≢ w.arena
  -- it is done with a port only once it has looked
  pub order : 0 < w.clean → w.looked ≡ true
  -- it is done with no more ports than there are
  pub few : w.clean ≤ e.ports
  -- each port with which it is done is out of the arena, but for itself
  pub out : (q : ℕ) → q < w.clean → q < e.ports → q ≢ k → IsOut e words cs w.arena q
  -- an entering word that it holds, and has looked since, is of an epoch before its own
  pub older : w.again ≡ true → IfSome w.entering_word (λ a. a.epoch < (cs k).here.epoch)
  -- an entering word that it holds never comes back, once its port has stored a later one
  pub held : IfSome w.entering_word (λ a. IsSite e a × IsEarlier a (cs w.clean).here (cs w.clean).entering)
  -- it sets words of the arena only once it is done with all ports
  pub all : 0 < w.set → w.clean ≡ e.ports
  -- while it sets words the arena holds no epoch
  pub none : 0 < w.set → holds w.arena ≡ None

-- The control words are lawful, with what each port does with them (`cs`), the current site (`now`), and the number of
-- the epoch that each arena holds (`holds`).
pub record LawfulControl (e : Plan) (words : List ℕ) (cs : ℕ → Control) (now : Site) (holds : ℕ → Option ℕ) : Type 0 where
  -- the current word names the current site
  pub current : slice_index words current_word ≡ packed now
  -- that site fits a word
  pub site : IsSite e now
  -- the arena of that site holds that epoch
  pub present : holds now.arena ≡ Some now.epoch
  -- each other arena holds an earlier epoch, or none
  pub earlier : (x g : ℕ) → holds x ≡ Some g → (g < now.epoch) ⊎ ((g ≡ now.epoch) × (x ≡ now.arena))
  -- an arena that holds an epoch is one of those that there are
  pub within : (x g : ℕ) → holds x ≡ Some g → x < e.arenas
  -- where a port stands, or from where it is entering, fits a word
  pub sites : (k : ℕ) → k < e.ports → IsSite e (cs k).here
  -- a port's word names where it stands; while it is entering, its entering word or a later site where another port put it
  pub at : (k : ℕ) → k < e.ports → IsSiteWord e words k (cs k).here (cs k).entering
  -- a port stands in no later epoch than the current one, and enters only from an earlier one
  pub old : (k : ℕ) → k < e.ports → IsOld e now.epoch (cs k).here (cs k).entering
  -- a port that has seen another current epoch stands in an earlier one
  pub past : (k : ℕ) → k < e.ports → (cs k).past ≡ true → (cs k).here.epoch < now.epoch
  -- the arena that a port's word names holds that epoch: nobody resets an arena where a port stands
  pub stands : (k : ℕ) (c : Site) → k < e.ports → IsSite e c → slice_index words (at_word k) ≡ packed c →
      holds c.arena ≡ Some c.epoch
  -- so does the arena into which an entering port is about to come
  pub comes : (k : ℕ) (c : Site) → k < e.ports → (cs k).entering ≡ Loaded c → IsStillEntering words (cs k) k →
      holds c.arena ≡ Some c.epoch
  -- each port that owns an arena is its owner
  pub owners : (k : ℕ) → k < e.ports → IfSome (cs k).owned (IsOwner e words cs now holds k)
