-- Why a search finds a free arena: while one epoch is the current one, arenas come free a bounded number of times.
use Rattle.std.specs.Prelude.{⊤, ℕ, zero, suc, ◌≡◌, ◌≢◌, ◌+◌, ◌*◌, ◌%◌, ◌<◌, ◌≤◌, ◌==◌, ◌⊎◌, nat_lt, Bool, true, false, List, slice_index, Option, Some, None, IfSome, if◌then◌else◌}
use Rattle.partial_model.specs.Notes.{Noted}
use Rattle.partial_epochs.specs.Lists.{put}
use Rattle.partial_epochs.specs.Layout.{Plan, Site, arena_limit, at_word, entering_bit, entering_from, own_word, unpacked}
use Rattle.partial_epochs.specs.Ports.{Control, Entering, OwnedArena, Port}
use Rattle.partial_epochs.specs.Ports.Entering.{Stands}
use Rattle.partial_epochs.specs.Epochs.{Beside, LawfulEpochs, site_now}
use Rattle.partial_epochs.specs.Opening.{OpensAll, first_ports}
use Rattle.partial_epochs.specs.Notes.{LawfulMemory}
use Rattle.partial_epochs.specs.Time.{KeepsTime}
use Rattle.partial_epochs.specs.EveryStep.{MayMove, Move, MoveLeads, moved_words, since_after}
use Rattle.partial_epochs.specs.EveryStep.Move.{Gives, Takes}

-- How often ports' words have changed to name other sites, and how often arenas may have come free, counted over all epochs (ghost state).
pub record Tally : Type 0 where
  -- how often the word of a port has changed to name another site
  pub arrivals : ℕ
  -- how often an arena may have come free
  pub freed : ℕ
  -- how many arrivals there had been as each port took the arena that it owns
  pub taken : ℕ → ℕ
  -- whether each port has met another one in that arena
  pub met : ℕ → Bool

-- as a memory opens, all counts are 0
abbrev pub first_tally : Tally
first_tally = record { arrivals = 0; freed = 0; taken = λ _. 0; met = λ _. false }

-- the word of a port names arena x, with the entering bit or without it
pub record IsNamed (e : Plan) (words : List ℕ) (x : ℕ) : Type 0 where
  pub port : ℕ
  pub inside : port < e.ports
  pub names : slice_index words (at_word port) % arena_limit ≡ x

-- arena x is in use by others than the port k: a port's word names it, or another port owns it
abbrev pub IsInUse : Plan → List ℕ → ℕ → ℕ → Type 0
IsInUse e words k x = IsNamed e words x
    ⊎ ((slice_index words (own_word e x) ≢ 0) × (slice_index words (own_word e x) ≢ k + 1))

-- a port owns arena x, whose owner word names it
pub record IsOwnedBySome (e : Plan) (words : List ℕ) (ports : ℕ → Port) (x : ℕ) : Type 0 where
  pub owner : ℕ
  pub inside : owner < e.ports
  pub word : slice_index words (own_word e x) ≡ owner + 1
  pub owned : OwnedArena
  pub is : (ports owner).control.owned ≡ Some owned
  pub arena : owned.arena ≡ x

-- since port k took its arena, a port has moved to another site
abbrev pub HasSeenArrival : Tally → ℕ → Type 0
HasSeenArrival t k = t.taken k < t.arrivals

-- a port has met another one in the arena that it owns: it has looked, and a port's word still names the arena, or a port has moved to
-- another site since the arena was taken
pub record HasMetPort (e : Plan) (words : List ℕ) (c : Control) (t : Tally) (k : ℕ) (o : OwnedArena) : Type 0 where
  pub looked : (c.past ≡ true) ⊎ (o.looked ≡ true)
  pub cause : IsNamed e words o.arena ⊎ HasSeenArrival t k

-- The tally is that of these words and ports.
pub record KeepsTally (e : Plan) (words : List ℕ) (ports : ℕ → Port) (t : Tally) : Type 0 where
  -- an arena whose owner word isn't 0 is owned by the port that the word names
  pub owners : (x : ℕ) → x < e.arenas → slice_index words (own_word e x) ≢ 0 → IsOwnedBySome e words ports x
  -- no arena was taken after more arrivals than there have been
  pub taken : (k : ℕ) → k < e.ports → t.taken k ≤ t.arrivals
  -- an entering word that an owner holds is still its port's word, unless a port has moved to another site since
  pub entering_words : (k : ℕ) → k < e.ports → IfSome (ports k).control.owned (λ o. IfSome o.entering_word (λ a.
      (slice_index words (at_word o.clean) ≡ entering_from a) ⊎ HasSeenArrival t k))
  -- a port that has met another one did so for a cause
  pub met : (k : ℕ) → k < e.ports → t.met k ≡ true → IfSome (ports k).control.owned (HasMetPort e words (ports k).control t k)

-- a memory as it opens keeps its tally
abbrev pub OpeningsKeepTally : Type 0
OpeningsKeepTally = (e : Plan) (words : List ℕ) → OpensAll e words → KeepsTally e words (first_ports e) first_tally

-- how often a port may give back an arena before it enters the current epoch, from another one: it looks after each take
abbrev pub gives_at : Entering → Bool → Option OwnedArena → ℕ
gives_at Stands true None = 0
gives_at Stands true (Some o) = 1
gives_at Stands false None = 1
gives_at Stands false (Some o) = if o.looked then 2 else 1
gives_at _ past owned = 1

-- the same of a port by its control
abbrev pub gives_left : Control → ℕ
gives_left c = gives_at c.entering c.past c.owned

-- how often a port that stands in the current epoch may give back the arena that it owns when no word names it
abbrev pub credit : Tally → ℕ → Option OwnedArena → ℕ
credit t k None = 0
credit t k (Some o) = if nat_lt (t.taken k) t.arrivals then 1 else 0

-- How often arenas may come free by port k, from now on and as long as the epoch of that number is the current one. An arrival counts
-- for itself, and once for each other port, which may give back an arena then.
abbrev pub weight : Plan → List ℕ → (ℕ → Port) → ℕ → (ℕ → ℕ) → Tally → ℕ → ℕ
weight e words ports now since t k =
    if nat_lt (slice_index words (at_word k)) entering_bit
    then (if (unpacked (slice_index words (at_word k))).epoch == now then credit t k (ports k).control.owned
    else (e.ports + 1) + gives_left (ports k).control)
    else (if nat_lt (since k) now then 2 * e.ports + 3 else e.ports + 1)

-- the sum of a function's values below n
abbrev pub sum_below : (ℕ → ℕ) → ℕ → ℕ
sum_below f zero = 0
sum_below f (suc n) = f n + sum_below f n

-- how often arenas may come free, from now on and as long as the epoch of that number is the current one
abbrev pub may_free : Plan → List ℕ → (ℕ → Port) → ℕ → (ℕ → ℕ) → Tally → ℕ
may_free e words ports now since t = sum_below (weight e words ports now since t) e.ports

-- the greatest number of times that this may be
abbrev pub most_freed : ℕ → ℕ
most_freed ports = ports * (2 * ports + 3)

-- arenas may come free at most that number of times, in any state
abbrev pub FewComeFree : Type 0
FewComeFree = (e : Plan) (words : List ℕ) (ports : ℕ → Port) (now : ℕ) (since : ℕ → ℕ) (t : Tally) →
    may_free e words ports now since t ≤ most_freed e.ports

-- what a port has to know: one that takes an arena hasn't seen its epoch's end; one that gives an arena back has, or has met another port
abbrev pub MayCount : Port → Tally → ℕ → Move → Type 0
MayCount p t k (Takes x) = p.control.past ≡ false
MayCount p t k (Gives o) = (p.control.past ≡ true) ⊎ (t.met k ≡ true)
MayCount p t k _ = ⊤

-- who has met another port after the move: a port that takes an arena hasn't yet
abbrev pub met_after : ℕ → Move → (ℕ → Bool) → ℕ → Bool
met_after k (Takes x) met = put k false met
met_after k _ met = met

-- an arena that is given back is still in use, unless one may have come free
abbrev pub LeavesInUse : Plan → List ℕ → Tally → Tally → Move → Type 0
LeavesInUse e words t there (Gives o) = there.freed ≡ t.freed → IsNamed e words o.arena
LeavesInUse e words t there _ = ⊤

-- What a move of port k makes of the tally.
pub record Counts (e : Plan) (words words' : List ℕ) (ports ports' : ℕ → Port) (now now' : Site) (since since' : ℕ → ℕ) (t : Tally)
    (k : ℕ) (m : Move) : Type 0 where
  pub there : Tally
  pub keeps : KeepsTally e words' ports' there
  pub grows : t.freed ≤ there.freed
  pub met : (q : ℕ) → there.met q ≡ met_after k m t.met q
  -- while the current epoch stays, each time that an arena may have come free leaves one less
  pub less : now'.epoch ≡ now.epoch →
      there.freed + may_free e words' ports' now'.epoch since' there ≤ t.freed + may_free e words ports now.epoch since t
  -- each arena that is in use stays so, unless one may have come free
  pub stays : there.freed ≡ t.freed → (q x : ℕ) → q < e.ports → x < e.arenas → IsInUse e words q x → IsInUse e words' q x
  pub leaves : LeavesInUse e words' t there m

-- every step keeps the tally
abbrev pub EveryStepCounts : Type 0
EveryStepCounts = (e : Plan) (words : List ℕ) (ports : ℕ → Port) (b : Beside) (notes : ℕ → List Noted) (k : ℕ) (m : Move)
    (since : ℕ → ℕ) (t : Tally) → LawfulMemory e words ports b notes → k < e.ports → MayMove e words ports b notes k m →
    MayCount (ports k) t k m → KeepsTime e words ports (site_now b) since → KeepsTally e words ports t →
    (l : MoveLeads e words (moved_words e words (ports k) k m) ports b notes k m) →
    Counts e words (moved_words e words (ports k) k m) ports (put k l.port ports) (site_now b) (site_now l.beside) since
    (since_after b k m since) t k m

-- an owner that has looked has met another port when it finds its arena named, or another word than the one that it holds
abbrev pub MeetingsKeepTally : Type 0
MeetingsKeepTally = (e : Plan) (words : List ℕ) (ports : ℕ → Port) (t : Tally) (k : ℕ) (o : OwnedArena) →
    KeepsTally e words ports t → (ports k).control.owned ≡ Some o → o.looked ≡ true →
    IsNamed e words o.arena ⊎ HasSeenArrival t k → KeepsTally e words ports (record t { met = put k true t.met })

-- an arena whose owner word a port finds another than 0, while it owns none, is in use
abbrev pub OwnedArenasAreInUse : Type 0
OwnedArenasAreInUse = (e : Plan) (words : List ℕ) (ports : ℕ → Port) (t : Tally) (k x : ℕ) → KeepsTally e words ports t →
    (ports k).control.owned ≡ None → x < e.arenas → slice_index words (own_word e x) ≢ 0 → IsInUse e words k x

-- so is the arena where a port stands
abbrev pub OwnSitesAreInUse : Type 0
OwnSitesAreInUse = (e : Plan) (words : List ℕ) (ports : ℕ → Port) (b : Beside) (k : ℕ) → LawfulEpochs e words ports b → k < e.ports →
    (ports k).control.entering ≡ Stands → IsInUse e words k (ports k).control.here.arena

-- with two arenas for each port, not all arenas are in use by others than one port
abbrev pub SomeArenaIsFree : Type 0
SomeArenaIsFree = (e : Plan) (words : List ℕ) (ports : ℕ → Port) (t : Tally) (k : ℕ) → KeepsTally e words ports t → k < e.ports →
    2 * e.ports ≤ e.arenas → ((x : ℕ) → x < e.arenas → IsInUse e words k x) → ⊥
