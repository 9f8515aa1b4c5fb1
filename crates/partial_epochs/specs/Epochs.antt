-- The lawful state of a memory over all epochs.
use Rattle.std.specs.Prelude.{ℕ, ◌+◌, ◌*◌, ◌<◌, ◌≤◌, nat_lt, Bool, true, ⊤, List, [], ◌∷◌, slice_index, if◌then◌else◌, ◌++◌, length, Option, ◌≡◌, ◌≢◌, None, Some, IfSome, ◌-◌, false}
use Rattle.partial_words.specs.Layout.{IsLayout, pool_base, pool_counter, pool_end, first_free, initial_record, most_ports, slot_counter, slot_word}
use Rattle.partial_words.specs.Record.{prev_word, view_word}
use Rattle.std.specs.Option.{option_map}
use Rattle.partial_model.specs.declared.history.Applied.{Applied}
use Rattle.partial_active.specs.declared.get_set.Stage.{Stage as SetStage}
use Rattle.partial_active.specs.declared.get_set.Stage.TheVariants.{Head, Slot, Len, Index}
use Rattle.partial_active.specs.declared.join.JoinStage.{JoinStage}
use Rattle.partial_active.specs.declared.join.JoinStage.TheVariants.{Claiming}
use Rattle.partial_machine.specs.declared.stage.Stage.{Stage}
use Rattle.partial_machine.specs.declared.stage.Stage.TheVariants.{GettingSet, Viewing, ClaimingRecord, StoringRecord, Exchanging, ScanBegun, StoringAnnouncement, Joining, Scanning, Leaving}
use Rattle.partial_machine.specs.Machine.{CoreState}
use Rattle.partial_core.specs.Part.{Part, core_of, port_of, fresh_part}
use Rattle.partial_words.specs.Chain.{opening_word}
use Rattle.partial_core.specs.Lawful.{Lawful}
use Rattle.partial_core.specs.Lawful as one
use Rattle.partial_epochs.specs.Lists.{list_of, count}
use Rattle.partial_epochs.specs.Layout.{arena_limit, greatest_claim_of, Plan, Site, packed, current_word, control_words, component_words, carried_words, whole, slot_limit, seals, IsSealed, IsToBeSet, arena_words, base, set_offset, set_word}
use Rattle.partial_epochs.specs.History.{opened_after, stamp_after}
use Rattle.partial_epochs.specs.Ports.{OwnedArena, Control, Port, Epoch}
use Rattle.partial_epochs.specs.Control.{LawfulControl}
use Rattle.partial_epochs.specs.Ports.Entering.{Stands}

-- the sizes of a plan: after the limit there is room for the greatest claim of each port
pub record IsEpochPlan (e : Plan) : Type 0 where
  -- an arena has the sizes of one memory
  pub sizes : IsLayout e.sizes
  -- there is a port, and no more than there may be
  pub some : 1 ≤ e.ports
  pub few : e.ports ≤ most_ports
  -- a site fits a word
  pub arenas : e.arenas ≤ arena_limit
  -- each component has an opening value, and the initial stamps are the initial records
  pub values : length e.opening.values ≡ e.sizes.m
  pub first : e.opening.first ≡ pool_base e.sizes
  -- the limit lies after the initial records
  pub opens : first_free e.sizes ≤ e.limit
  -- after the limit there is room for the greatest claim of each port
  pub limit : e.limit + greatest_claim_of e * e.ports ≤ pool_end e.sizes

-- What stands beside words and ports (ghost state).
pub record Beside : Type 0 where
  -- the history of the current epoch
  pub log : List Applied
  -- those of the finished epochs, the last one first
  pub before : List (List Applied)
  -- the arena of the current epoch
  pub arena : ℕ
  -- the epoch that each arena holds, or none while it is being set
  pub holds : ℕ → Option Epoch

-- the current site
abbrev pub site_now : Beside → Site
site_now b = record { epoch = length b.before; arena = b.arena }

-- the number of the epoch that each arena holds
abbrev pub numbers : Beside → ℕ → Option ℕ
numbers b x = option_map (λ r. length r.before) (b.holds x)

-- what each port does with the control words
abbrev pub controls : (ℕ → Port) → ℕ → Control
controls ports k = (ports k).control

-- the epoch is a finished one
abbrev pub IsFinished : Beside → Epoch → Type 0
IsFinished b r = (later : List (List Applied)) × (b.before ≡ later ++ r.log ∷ r.before)

-- the join has yet to claim its slot
abbrev pub is_claiming : JoinStage → Bool
is_claiming Claiming = true
is_claiming _ = false

-- whether a machine at this stage has claimed its announcement, and has yet to claim a slot for it
abbrev pub awaits_at : CoreState → Stage → Bool
awaits_at s (StoringAnnouncement at k) = true
awaits_at s Joining = is_claiming s.join.stage
awaits_at s _ = false

-- whether the machine of a part has yet to claim a slot
abbrev pub awaits_slot : Part → Bool
awaits_slot x = awaits_at (core_of x) (core_of x).stage

-- whether a port that is over has claimed its last slot too
abbrev pub claims_no_more : Bool → Part → Bool
claims_no_more over x = if awaits_slot x then false else over

-- where no scan announces itself: a getSet at this stage has found no index since it loaded the list head, and comes to no slot
abbrev pub FindsNoIndex : List ℕ → SetStage → Type 0
FindsNoIndex indices Head = ⊤
FindsNoIndex indices (Slot slot) = ⊥
FindsNoIndex indices (Len slot at) = ⊥
FindsNoIndex indices (Index slot at left) = ⊥
FindsNoIndex indices _ = indices ≡ []

-- there a machine at this stage is in no scan, and an update that has made its getSet has found no index, so that it takes no view
abbrev pub finds_none_at : CoreState → Stage → Type 0
finds_none_at s (GettingSet c old) = FindsNoIndex s.found.indices s.get_set.stage
finds_none_at s (Viewing c old) = ⊥
finds_none_at s (ClaimingRecord c old) = s.found.indices ≡ []
finds_none_at s (StoringRecord c old at k) = s.found.indices ≡ []
finds_none_at s (Exchanging c old at) = s.found.indices ≡ []
finds_none_at s ScanBegun = ⊥
finds_none_at s (StoringAnnouncement at k) = ⊥
finds_none_at s Joining = ⊥
finds_none_at s Scanning = ⊥
finds_none_at s Leaving = ⊥
finds_none_at s _ = ⊤

-- the machine finds no scan, and makes none
abbrev pub FindsNone : CoreState → Type 0
FindsNone s = finds_none_at s s.stage

-- what is so of the words and the parts of an arena where no scan announces itself
pub record IsSilent (e : Plan) (words : List ℕ) (part : ℕ → Part) : Type 0 where
  -- no slot is claimed
  pub unclaimed : slice_index words (slot_counter e.sizes) ≡ 0
  -- the machine of each port finds no scan, and makes none
  pub finds : (k : ℕ) → k < e.ports → FindsNone (core_of (part k))

-- What is so of an arena that holds the epoch r: of its words without the seals, its component words with them, and its
-- carried stamps.
pub record IsArena (e : Plan) (words components carried : List ℕ) (r : Epoch) (finished : Type 0) : Type 0 where
  -- its words without the seals are lawful, with a part for each port, over what the epochs before have left
  pub lawful : one.Lawful e.sizes (opened_after e.opening r.before) words (list_of r.part 0 e.ports) r.log
  -- part k is that of port k
  pub numbers : (k : ℕ) → k < e.ports → port_of (r.part k) ≡ k
  -- the carried stamps are the public stamps that the components have after the epochs before
  pub stamps : (j : ℕ) → j < e.sizes.m → slice_index carried j ≡ stamp_after e.opening r.before j
  -- a component has no more seals than ports have passed it, so that they fit above the reference
  pub few : (j : ℕ) → j < e.sizes.m → seals (slice_index components j) ≤ count (λ k. nat_lt j (r.passed k)) 0 e.ports
  -- a component that a port has passed is sealed
  pub passed : (k j : ℕ) → k < e.ports → j < r.passed k → j < e.sizes.m → IsSealed (slice_index components j)
  -- each component of a finished epoch is sealed
  pub sealed : finished → (j : ℕ) → j < e.sizes.m → IsSealed (slice_index components j)
  -- claims that end past the limit are those of ports that make no more
  pub reserve : slice_index words (pool_counter e.sizes) ≤ e.limit + greatest_claim_of e * count r.over 0 e.ports
  -- slots past the slot limit are those of ports that claim no more
  pub slots : slice_index words (slot_counter e.sizes) ≤ slot_limit e + count (λ k. claims_no_more (r.over k) (r.part k)) 0 e.ports
  -- where scans don't announce themselves, nobody scans there, and no update finds a scan
  pub silent : e.announces ≡ false → IsSilent e words r.part

-- a port that stands in an epoch has its own part there
pub record IsStanding (b : Beside) (k : ℕ) (p : Port) : Type 0 where
  -- its arena holds an epoch
  pub epoch : Epoch
  pub is : b.holds p.control.here.arena ≡ Some epoch
  -- that epoch follows those that the port has passed
  pub before : epoch.before ≡ p.before
  -- what the epoch has of the port is what the port has
  pub part : epoch.part k ≡ p.part
  pub passed : epoch.passed k ≡ p.passed
  pub over : epoch.over k ≡ p.over

-- a port has a new part in an epoch to which it hasn't come
pub record IsNewPart (e : Plan) (k : ℕ) (r : Epoch) : Type 0 where
  pub part : r.part k ≡ fresh_part e.sizes k
  pub passed : r.passed k ≡ 0
  pub over : r.over k ≡ false

-- the words of the next epoch are those of an opening, with the values and the stamps after all epochs
abbrev pub next_epoch_word : Plan → Beside → ℕ → ℕ
next_epoch_word e b i =
    if nat_lt i (first_free e.sizes) then opening_word e.sizes (opened_after e.opening (b.log ∷ b.before)).values (set_offset e.sizes i)
    else stamp_after e.opening (b.log ∷ b.before) (i - first_free e.sizes)

-- what the port p has set in the arena that it owns
pub record IsSetting (e : Plan) (words : List ℕ) (b : Beside) (p : Port) (w : OwnedArena) : Type 0 where
  -- it sets no more words than an opening has
  pub few : w.set ≤ first_free e.sizes + e.sizes.m
  -- it has passed each component of its own epoch before
  pub sealed : 0 < w.set → e.sizes.m ≤ p.passed
  -- while its epoch is the current one, the words that it has set are those of the next epoch
  pub each : slice_index words current_word ≡ packed p.control.here → (i : ℕ) → i < w.set → IsToBeSet e.sizes i →
      slice_index words (set_word e w.arena i) ≡ next_epoch_word e b i
  -- a slot that it has set is 0, whichever epoch is the current one
  pub cleared : (l : ℕ) → l < e.sizes.slots → e.sizes.slots ≤ l + w.set → slice_index words (base e w.arena + slot_word e.sizes l) ≡ 0

-- the slots of arena x that weren't claimed, as its counter says, are 0
abbrev pub HasClearSlots : Plan → List ℕ → ℕ → Type 0
HasClearSlots e words x = (l : ℕ) → slice_index words (base e x + slot_counter e.sizes) ≤ l → l < e.sizes.slots →
    slice_index words (base e x + slot_word e.sizes l) ≡ 0

-- in arena x the first word and the view of each initial record are 0
abbrev pub HasClearRecords : Plan → List ℕ → ℕ → Type 0
HasClearRecords e words x = (j : ℕ) → j < e.sizes.m → (slice_index words (base e x + prev_word (initial_record e.sizes j)) ≡ 0)
    × (slice_index words (base e x + view_word (initial_record e.sizes j)) ≡ 0)

-- The lawful state of a memory over all epochs.
pub record LawfulEpochs (e : Plan) (words : List ℕ) (ports : ℕ → Port) (b : Beside) : Type 0 where
  -- the sizes are in range
  pub plan : IsEpochPlan e
  -- there are so many words
  pub count : length words ≡ whole e
  -- the control words are lawful
  pub control : LawfulControl e (control_words e words) (controls ports) (site_now b) (numbers b)
  -- the current arena holds the current epoch, with its history
  pub now : (r : Epoch) × (b.holds b.arena ≡ Some r) × (r.log ≡ b.log) × (r.before ≡ b.before)
  -- each other arena that holds an epoch holds a finished one, with its final history
  pub finished : (x : ℕ) (r : Epoch) → b.holds x ≡ Some r → x ≢ b.arena → IsFinished b r
  -- the words of each arena that holds an epoch are lawful
  pub arenas : (x : ℕ) (r : Epoch) → b.holds x ≡ Some r →
      IsArena e (arena_words e words x) (component_words e words x) (carried_words e words x) r (x ≢ b.arena)
  -- a port's part in the epoch where it stands is its own
  pub standing : (k : ℕ) → k < e.ports → (ports k).control.entering ≡ Stands → IsStanding b k (ports k)
  -- a port's part in an epoch to which it hasn't come is a new one
  pub new : (k x : ℕ) (r : Epoch) → k < e.ports → b.holds x ≡ Some r →
      (ports k).control.here.epoch < length r.before → IsNewPart e k r
  -- what an owner has set in its arena is the beginning of the next epoch
  pub setting : (k : ℕ) → k < e.ports → IfSome (ports k).control.owned (IsSetting e words b (ports k))
  -- an arena that holds no epoch has clear slots and clear initial records too
  pub clear : (x : ℕ) → x < e.arenas → b.holds x ≡ None → HasClearSlots e words x
  pub records : (x : ℕ) → x < e.arenas → b.holds x ≡ None → HasClearRecords e words x

-- the port stands in the current epoch
pub record IsPresent (b : Beside) (k : ℕ) (p : Port) : Type 0 where
  -- it stands in the epoch of its arena
  pub standing : IsStanding b k p
  -- its site is the current one
  pub here : p.control.here ≡ site_now b
  -- its epoch has the current history, and the finished epochs before it
  pub log : standing.epoch.log ≡ b.log
  pub before : p.before ≡ b.before
