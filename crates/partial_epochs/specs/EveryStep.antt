-- Every step that a port of a long-lived memory makes, and the one law of them.
use Rattle.std.specs.Prelude.{⊤, ℕ, ◌≡◌, ◌≢◌, ◌+◌, ◌-◌, ◌<◌, ◌≤◌, ◌==◌, ◌⊎◌, ◌++◌, Bool, true, false, List, [], ◌∷◌, length, map, slice_index, Option, Some, None, if◌then◌else◌}
use Rattle.partial_model.specs.declared.history.Applied.{Applied}
use Rattle.partial_model.specs.Notes.{Noted}
use Rattle.partial_words.specs.Layout.{first_free, slot_counter}
use Rattle.partial_words.specs.Step.{answer_of, words_after}
use Rattle.partial_words.specs.declared.step.Step.{Step}
use Rattle.partial_words.specs.declared.step.Step.TheVariants.{Add, Exchange, Store}
use Rattle.partial_machine.specs.declared.stage.Reply.{Reply}
use Rattle.partial_machine.specs.Machine.{CoreState, advance, reply_of, step_of}
use Rattle.partial_core.specs.Part.{IsMachineOf}
use Rattle.partial_core.specs.Steps.{since_with}
use Rattle.partial_epochs.specs.Lists.{put}
use Rattle.partial_epochs.specs.Layout.{IsSite, IsSealed, IsToBeSet, Site, Plan, arena_words, at_word, base, component_words, current_word, entering_bit, entering_from, own_word, packed, based_step, seal, set_word, unpacked}
use Rattle.partial_epochs.specs.Ports.{OwnedArena, Port}
use Rattle.partial_epochs.specs.Ports.Entering.{Stands, StoredEntering, Loaded}
use Rattle.partial_epochs.specs.Entering.{Arrives, arrived_port, having_passed}
use Rattle.partial_epochs.specs.Owning.{having_given, having_loaded, having_looked, having_put, just_taken, owning_port}
use Rattle.partial_epochs.specs.Sealing.{IsBesideAs, passing_port}
use Rattle.partial_epochs.specs.Epochs.{Beside, HasClearRecords, IsStanding, next_epoch_word, site_now}
use Rattle.partial_epochs.specs.MachineSteps.{MachineLeads, MayClaim, MayScan, MeetsSeal}
use Rattle.partial_epochs.specs.Publishing.{ClearsSlots, IsWholeArena, having_published, having_set, next_beside, next_site}
use Rattle.partial_epochs.specs.Opening.{OpensAll, first_beside, first_ports}
use Rattle.partial_epochs.specs.Notes.{IsAside, IsSight, LawfulMemory, MayNote, having_seen, noting, one_history, public_noted}
use Rattle.partial_epochs.specs.Time.{KeepsTime}

-- what a port may do next
pub data Move : Type 0 where
  -- nothing: it loads what shows it nothing new, or loses an exchange
  Rests : Move
  -- the due step of its machine, in the arena where it stands; it notes what its machine then has it note, or nothing
  Makes : CoreState → Step → Bool → Move
  -- a seal on the next component, and the load of one that is sealed
  Seals : Move
  PassesSealed : Move
  -- a load of the current word, by a port that owns no arena, and by an owner
  Looks : Move
  LooksAsOwner : OwnedArena → Move
  -- the three steps of entering
  StoresEnteringWord : Move
  LoadsCurrent : Move
  ExchangesEnteringWord : Site → Move
  -- the won exchange of an owner word, and the store that gives the arena back
  Takes : ℕ → Move
  Gives : OwnedArena → Move
  -- an owner finds the next port elsewhere, loads its entering word, or puts it where it stands itself
  FindsElsewhere : OwnedArena → Site → Move
  LoadsEnteringWord : OwnedArena → Move
  Puts : OwnedArena → Site → Move
  -- an owner sets the next word, so that the words below that number count as set
  Sets : OwnedArena → ℕ → ℕ → Move
  -- an owner loads the slot counter of its arena, and the words below that number count as set
  FindsClear : OwnedArena → ℕ → Move
  -- an owner publishes
  Publishes : OwnedArena → Move
  -- a port looks at its epoch, which has that history by then, and notes nothing, or what it has seen there
  Sees : List Applied → Move
  Notes : Noted → ℕ → List Applied → Move

-- the words after the move
abbrev pub moved_words : Plan → List ℕ → Port → ℕ → Move → List ℕ
moved_words e words p k (Makes c step notes) = words_after words (based_step e p.control.here.arena step)
moved_words e words p k Seals = words_after words (Add (base e p.control.here.arena + p.passed) seal)
moved_words e words p k StoresEnteringWord = words_after words (Store (at_word k) (entering_from p.control.here))
moved_words e words p k (ExchangesEnteringWord c) = words_after words (Exchange (at_word k) (entering_from p.control.here) (packed c))
moved_words e words p k (Takes x) = words_after words (Exchange (own_word e x) 0 (k + 1))
moved_words e words p k (Gives o) = words_after words (Store (own_word e o.arena) 0)
moved_words e words p k (Puts o a) = words_after words (Exchange (at_word o.clean) (entering_from a) (packed p.control.here))
moved_words e words p k (Sets o v next) = words_after words (Store (set_word e o.arena o.set) v)
moved_words e words p k (Publishes o) = words_after words
    (Exchange current_word (packed p.control.here) (packed (next_site p.control.here o.arena)))
moved_words e words p k _ = words

-- the port after a move that isn't a step of its machine, nor the third step of entering
abbrev pub port_after : List ℕ → Port → Move → Port
port_after words p Seals = passing_port p
port_after words p PassesSealed = passing_port p
port_after words p Looks = if slice_index words current_word == packed p.control.here then p else having_passed p
port_after words p (LooksAsOwner o) = if slice_index words current_word == packed p.control.here then having_looked p o else having_passed p
port_after words p StoresEnteringWord = record p { control = record p.control { entering = StoredEntering } }
port_after words p LoadsCurrent = record p { control = record p.control { entering = Loaded (unpacked (slice_index words current_word)) } }
port_after words p (Takes x) = owning_port p (just_taken x)
port_after words p (Gives o) = having_given p
port_after words p (FindsElsewhere o d) = having_put p o
port_after words p (LoadsEnteringWord o) = owning_port p (having_loaded o (unpacked (slice_index words (at_word o.clean) - entering_bit)))
port_after words p (Puts o a) = having_put p o
port_after words p (Sets o v next) = having_set p o next
port_after words p (FindsClear o next) = having_set p o next
port_after words p (Publishes o) = having_published p o
port_after words p (Sees log) = having_seen p log
port_after words p (Notes n i log) = having_seen p log
port_after words p _ = p

-- what a port notes over all epochs of what its machine has noted
abbrev pub noted_after : Plan → Port → Bool → List Noted → List Noted
noted_after e p notes new = if notes then map (public_noted e p.before) new else []

-- what has to hold where a port makes the move: of the words, and of what the port itself knows
abbrev pub MayMove : Plan → List ℕ → (ℕ → Port) → Beside → (ℕ → List Noted) → ℕ → Move → Type 0
MayMove e words ports b notes k Rests = ⊤
MayMove e words ports b notes k (Makes c step noted) =
    ((ports k).control.entering ≡ Stands) × IsMachineOf c (ports k).part × (step_of c ≡ Some step) × MayClaim e (ports k).over step
    × MayScan e c × ((lead : MachineLeads e words ports b k c step) →
    MayNote e (ports k) (notes k) (since_with c (ports k).part) lead.port.part.seen lead.tells.new
    (noted_after e (ports k) noted lead.tells.new))
MayMove e words ports b notes k Seals = ((ports k).control.entering ≡ Stands) × ((ports k).passed < e.sizes.m)
MayMove e words ports b notes k PassesSealed = ((ports k).control.entering ≡ Stands) × ((ports k).passed < e.sizes.m)
    × IsSealed (slice_index (component_words e words (ports k).control.here.arena) (ports k).passed)
MayMove e words ports b notes k Looks = ((ports k).control.entering ≡ Stands) × ((ports k).control.owned ≡ None)
MayMove e words ports b notes k (LooksAsOwner o) = ((ports k).control.owned ≡ Some o) × ((o.entering_word ≡ None) ⊎ (o.clean < e.ports))
MayMove e words ports b notes k StoresEnteringWord = ((ports k).control.entering ≡ Stands) × ((ports k).control.past ≡ true)
    × ((ports k).control.owned ≡ None)
MayMove e words ports b notes k LoadsCurrent = (ports k).control.entering ≡ StoredEntering
MayMove e words ports b notes k (ExchangesEnteringWord c) = (ports k).control.entering ≡ Loaded c
MayMove e words ports b notes k (Takes x) = ((ports k).control.entering ≡ Stands) × ((ports k).control.owned ≡ None) × (x < e.arenas)
    × ((ports k).control.here.arena ≢ x) × (slice_index words (own_word e x) ≡ 0)
MayMove e words ports b notes k (Gives o) = (ports k).control.owned ≡ Some o
MayMove e words ports b notes k (FindsElsewhere o d) = ((ports k).control.owned ≡ Some o) × (o.looked ≡ true) × (o.set ≡ 0)
    × (o.clean < e.ports) × IsSite e d × (slice_index words (at_word o.clean) ≡ packed d) × (d.arena ≢ o.arena)
MayMove e words ports b notes k (LoadsEnteringWord o) =
    ((ports k).control.owned ≡ Some o) × (o.clean < e.ports) × (entering_bit ≤ slice_index words (at_word o.clean))
MayMove e words ports b notes k (Puts o a) = ((ports k).control.owned ≡ Some o) × (o.looked ≡ true) × (o.clean < e.ports) × (o.set ≡ 0)
    × (o.entering_word ≡ Some a) × (o.again ≡ true) × (slice_index words (at_word o.clean) ≡ entering_from a)
MayMove e words ports b notes k (Sets o v next) = ((ports k).control.owned ≡ Some o) × (o.clean ≡ e.ports) × (o.set < next)
    × (next ≤ first_free e.sizes + e.sizes.m) × (e.sizes.m ≤ (ports k).passed)
    × (slice_index words current_word ≡ packed (ports k).control.here → (i : ℕ) → o.set ≤ i → i < next → IsToBeSet e.sizes i →
    slice_index (words_after words (Store (set_word e o.arena o.set) v)) (set_word e o.arena i) ≡ next_epoch_word e b i)
    × ClearsSlots e o next (words_after words (Store (set_word e o.arena o.set) v))
    × HasClearRecords e (words_after words (Store (set_word e o.arena o.set) v)) o.arena
MayMove e words ports b notes k (FindsClear o next) = ((ports k).control.owned ≡ Some o) × (o.clean ≡ e.ports) × (o.set < next)
    × (slice_index words (base e o.arena + slot_counter e.sizes) + next ≤ e.sizes.slots) × (e.sizes.m ≤ (ports k).passed)
MayMove e words ports b notes k (Publishes o) = IsWholeArena e (ports k) o
MayMove e words ports b notes k (Sees log) = ((ports k).control.entering ≡ Stands)
    × ((s : IsStanding b k (ports k)) × (s.epoch.log ≡ log))
MayMove e words ports b notes k (Notes n i log) = ((ports k).control.entering ≡ Stands)
    × ((s : IsStanding b k (ports k)) × (s.epoch.log ≡ log) × IsSight e k (ports k) log (notes k) n i)

-- whether the reply is that of an applied update
abbrev pub is_applied : Option Reply → Bool
is_applied (Some (Reply.Applied stamp)) = true
is_applied _ = false

-- the move may add an entry to the one history: it is the step by which the machine of an update becomes applied, and meets no seal
abbrev pub MayAdd : Plan → List ℕ → Port → Move → Type 0
MayAdd e words p (Makes c step notes) = (¬ MeetsSeal e (component_words e words p.control.here.arena) step)
    × (is_applied (reply_of (advance c (answer_of (arena_words e words p.control.here.arena) step))) ≡ true)
MayAdd e words p _ = ⊥

-- where the port is after the move: the third step of entering brings it to a later epoch, and all others leave it where it is
abbrev pub IsSiteAfter : Move → Site → Site → Type 0
IsSiteAfter (ExchangesEnteringWord c) here there = here.epoch < there.epoch
IsSiteAfter _ here there = there ≡ here

-- for each port the number of the epoch that was the current one as it stored its last entering word, after the move
abbrev pub since_after : Beside → ℕ → Move → (ℕ → ℕ) → ℕ → ℕ
since_after b k StoresEnteringWord since = put k (length b.before) since
since_after b k _ since = since

-- What becomes of the port that makes the move, and of what stands beside the words, and what the port notes.
abbrev pub Becomes : Plan → List ℕ → (ℕ → Port) → Beside → ℕ → Move → Port → Beside → List Noted → Type 0
-- the step meets a seal, and the machine gets no answer; or its answer is what the words give without their seals
Becomes e words ports b k (Makes c step notes) p there added =
    (MeetsSeal e (component_words e words (ports k).control.here.arena) step
    × (moved_words e words (ports k) k (Makes c step notes) ≡ words) × (p ≡ ports k) × (there ≡ b) × (added ≡ []))
    ⊎ ((lead : MachineLeads e words ports b k c step) × (p ≡ lead.port) × (there ≡ lead.beside)
    × (added ≡ noted_after e (ports k) notes lead.tells.new))
-- the port enters a site that is no older than the epoch that was the current one as it stored its entering word, with a new part there
Becomes e words ports b k (ExchangesEnteringWord c) p there added =
    (a : Arrives e words ports b k c) × (p ≡ arrived_port e k a.site a.before) × (there ≡ b) × (added ≡ [])
    × ((since : ℕ → ℕ) → KeepsTime e words ports (site_now b) since → since k ≤ a.site.epoch)
-- the exchange opens the next epoch, where the port's epoch is the current one
Becomes e words ports b k (Publishes o) p there added = (p ≡ having_published (ports k) o) × (added ≡ [])
    × (((slice_index words current_word ≡ packed (ports k).control.here) × (there ≡ next_beside e b o.arena))
    ⊎ ((slice_index words current_word ≢ packed (ports k).control.here) × (there ≡ b)))
-- the port has seen its whole epoch
Becomes e words ports b k (Sees log) p there added = (p ≡ having_seen (ports k) log) × IsBesideAs b there × (added ≡ [])
Becomes e words ports b k (Notes n i log) p there added = (p ≡ having_seen (ports k) log) × IsBesideAs b there × (added ≡ n ∷ [])
-- all histories are as they were, and so is what the port has seen of its epoch
Becomes e words ports b k m p there added = (p ≡ port_after words (ports k) m) × IsAside b there (ports k) p × (added ≡ [])

-- what the move leads to: a lawful memory, in which all other ports and their notes are as they were
pub record MoveLeads (e : Plan) (words words' : List ℕ) (ports : ℕ → Port) (b : Beside) (notes : ℕ → List Noted) (k : ℕ) (m : Move) :
    Type 0 where
  pub port : Port
  pub beside : Beside
  pub added : List Noted
  pub lawful : LawfulMemory e words' (put k port ports) beside (noting k added notes)
  pub becomes : Becomes e words ports b k m port beside added
  -- where the port is then
  pub site : IsSiteAfter m (ports k).control.here port.control.here
  -- what the one history has gained
  pub entries : List Applied
  pub history : one_history beside ≡ one_history b ++ entries
  pub adds : (entries ≡ []) ⊎ MayAdd e words (ports k) m
  -- a memory that kept time keeps it
  pub time : (since : ℕ → ℕ) → KeepsTime e words ports (site_now b) since →
      KeepsTime e words' (put k port ports) (site_now beside) (since_after b k m since)

-- every step of every port keeps the memory lawful
abbrev pub EveryStepStaysLawful : Type 0
EveryStepStaysLawful = (e : Plan) (words : List ℕ) (ports : ℕ → Port) (b : Beside) (notes : ℕ → List Noted) (k : ℕ) (m : Move) →
    LawfulMemory e words ports b notes → k < e.ports → MayMove e words ports b notes k m →
    MoveLeads e words (moved_words e words (ports k) k m) ports b notes k m

-- a memory as it opens is lawful, and nobody has noted anything
abbrev pub MemoriesOpenLawful : Type 0
MemoriesOpenLawful = (e : Plan) (words : List ℕ) → OpensAll e words → LawfulMemory e words (first_ports e) (first_beside e) (λ _. [])
