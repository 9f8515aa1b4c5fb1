-- A port sets the words of its arena, and publishes it as that of the next epoch.
use Rattle.std.specs.Prelude.{ℕ, ◌+◌, ◌<◌, ◌≤◌, List, [], ◌∷◌, slice_index, ◌≡◌, ◌≢◌, ◌⊎◌, true, Some, None, false}
use Rattle.partial_words.specs.Layout.{first_free, slot_counter, slot_word}
use Rattle.partial_words.specs.declared.step.Step.TheVariants.{Store, Exchange}
use Rattle.partial_core.specs.Part.{fresh_part}
use Rattle.partial_words.specs.Step.{words_after}
use Rattle.partial_epochs.specs.Lists.{put}
use Rattle.partial_epochs.specs.Layout.{IsToBeSet, epoch_limit, Plan, Site, base, packed, current_word, set_word}
use Rattle.partial_epochs.specs.Ports.{OwnedArena, Port, Epoch}
use Rattle.partial_epochs.specs.Epochs.{Beside, HasClearRecords, next_epoch_word, LawfulEpochs, IsPresent}

-- a port that has set the words of its arena below that number
abbrev pub having_set : Port → OwnedArena → ℕ → Port
having_set p o next = record p { control = record p.control { owned = Some (record o { set = next }) } }

-- the arena x holds no epoch then
abbrev pub vacated : Beside → ℕ → Beside
vacated b x = record b { holds = put x None b.holds }

-- the slots that begin to count as set are 0 in these words
abbrev pub ClearsSlots : Plan → OwnedArena → ℕ → List ℕ → Type 0
ClearsSlots e o next words = (l : ℕ) → l + o.set < e.sizes.slots → e.sizes.slots ≤ l + next →
    slice_index words (base e o.arena + slot_word e.sizes l) ≡ 0

-- A port that is done with all others, and has found all components of its epoch sealed, sets the next word of its arena. The words from
-- it on that count as set after the store are those of the next epoch, if its own epoch is the current one yet; and slots that count as
-- set, and what initial records have beside their values, are 0 whichever epoch that is.
abbrev pub SetsStayLawful : Type 0
SetsStayLawful = (e : Plan) (words : List ℕ) (ports : ℕ → Port) (b : Beside) (k : ℕ) (o : OwnedArena) (v next : ℕ) →
    LawfulEpochs e words ports b → k < e.ports → (ports k).control.owned ≡ Some o → o.clean ≡ e.ports → o.set < next →
    next ≤ first_free e.sizes + e.sizes.m → e.sizes.m ≤ (ports k).passed →
    (slice_index words current_word ≡ packed (ports k).control.here → (i : ℕ) → o.set ≤ i → i < next → IsToBeSet e.sizes i →
    slice_index (words_after words (Store (set_word e o.arena o.set) v)) (set_word e o.arena i) ≡ next_epoch_word e b i) →
    ClearsSlots e o next (words_after words (Store (set_word e o.arena o.set) v)) →
    HasClearRecords e (words_after words (Store (set_word e o.arena o.set) v)) o.arena →
    LawfulEpochs e (words_after words (Store (set_word e o.arena o.set) v)) (put k (having_set (ports k) o next) ports) (vacated b o.arena)

-- Such a port that loads the slot counter of its arena knows that the slots from there on are 0: they count as set.
abbrev pub ClearSlotsCountAsSet : Type 0
ClearSlotsCountAsSet = (e : Plan) (words : List ℕ) (ports : ℕ → Port) (b : Beside) (k : ℕ) (o : OwnedArena) (next : ℕ) →
    LawfulEpochs e words ports b → k < e.ports → (ports k).control.owned ≡ Some o → o.clean ≡ e.ports → o.set < next →
    slice_index words (base e o.arena + slot_counter e.sizes) + next ≤ e.sizes.slots → e.sizes.m ≤ (ports k).passed →
    LawfulEpochs e words (put k (having_set (ports k) o next) ports) (vacated b o.arena)

-- an arena that a port owns, as it was when the port took it
abbrev pub resting_arena : OwnedArena → OwnedArena
resting_arena o = record o { looked = false; clean = 0; entering_word = None; again = false; set = 0 }

-- a port that has exchanged the current word: its epoch has passed, and it has yet to give back the arena
abbrev pub having_published : Port → OwnedArena → Port
having_published p o = record p { control = record p.control { past = true; owned = Some (resting_arena o) } }

-- the next epoch as it opens
abbrev pub next_epoch : Plan → Beside → Epoch
next_epoch e b = record { log = []; before = b.log ∷ b.before; part = fresh_part e.sizes; passed = λ _. 0; over = λ _. false }

-- what stands beside the words once the next epoch is open, in arena x
abbrev pub next_beside : Plan → Beside → ℕ → Beside
next_beside e b x = record { log = []; before = b.log ∷ b.before; arena = x; holds = put x (Some (next_epoch e b)) b.holds }

-- the site of the next epoch, in arena x
abbrev pub next_site : Site → ℕ → Site
next_site here x = record { epoch = here.epoch + 1; arena = x }

-- port k has set all words of the arena that it owns, and its epoch isn't the last one that a word can name
pub record IsWholeArena (e : Plan) (p : Port) (o : OwnedArena) : Type 0 where
  pub owned : p.control.owned ≡ Some o
  pub set : o.set ≡ first_free e.sizes + e.sizes.m
  pub room : p.control.here.epoch + 1 < epoch_limit

-- The exchange of the current word is won, and opens the next epoch, where the port's epoch is the current one; else the epoch has passed.
abbrev pub PublishesStayLawful : Type 0
PublishesStayLawful = (e : Plan) (words : List ℕ) (ports : ℕ → Port) (b : Beside) (k : ℕ) (o : OwnedArena) → LawfulEpochs e words ports b →
    k < e.ports → IsWholeArena e (ports k) o →
    ((slice_index words current_word ≡ packed (ports k).control.here) × IsPresent b k (ports k)
    × LawfulEpochs e (words_after words (Exchange current_word (packed (ports k).control.here)
    (packed (next_site (ports k).control.here o.arena))))
    (put k (having_published (ports k) o) ports) (next_beside e b o.arena))
    ⊎ ((slice_index words current_word ≢ packed (ports k).control.here)
    × LawfulEpochs e (words_after words (Exchange current_word (packed (ports k).control.here)
    (packed (next_site (ports k).control.here o.arena))))
    (put k (having_published (ports k) o) ports) b)
