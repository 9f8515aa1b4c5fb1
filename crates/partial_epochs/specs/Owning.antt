-- A port owns an arena: it looks, and is done with the other ports one after the other.
use Rattle.std.specs.Prelude.{ℕ, ◌+◌, ◌<◌, ◌≤◌, List, slice_index, ◌≡◌, ◌≢◌, ◌⊎◌, true, Some, None, false}
use Rattle.partial_words.specs.declared.step.Step.TheVariants.{Exchange, Store}
use Rattle.partial_words.specs.Step.{words_after}
use Rattle.partial_epochs.specs.Lists.{put}
use Rattle.partial_epochs.specs.Layout.{Plan, Site, IsSite, packed, entering_from, entering_bit, current_word, at_word, own_word}
use Rattle.partial_epochs.specs.Ports.{OwnedArena, Port}
use Rattle.partial_epochs.specs.Ports.Entering.{Stands}
use Rattle.partial_epochs.specs.Epochs.{Beside, LawfulEpochs, IsPresent}
use Rattle.partial_epochs.specs.Entering.{having_passed}

-- a port that owns an arena has seen that its epoch is the current one
abbrev pub having_looked : Port → OwnedArena → Port
having_looked p o = record p { control = record p.control { owned = Some (record o { looked = true; again = true }) } }

-- an owner loads its own site as the current one: its arena isn't the current one
abbrev pub OwnersLook : Type 0
OwnersLook = (e : Plan) (words : List ℕ) (ports : ℕ → Port) (b : Beside) (k : ℕ) (o : OwnedArena) → LawfulEpochs e words ports b →
    k < e.ports → (ports k).control.owned ≡ Some o → (o.entering_word ≡ None) ⊎ (o.clean < e.ports) →
    slice_index words current_word ≡ packed (ports k).control.here →
    IsPresent b k (ports k) × LawfulEpochs e words (put k (having_looked (ports k) o) ports) b

-- the arena of an owner that is done with the port `clean`, and goes to the next one
abbrev pub at_next_port : OwnedArena → OwnedArena
at_next_port o = record o { clean = o.clean + 1; entering_word = None; again = false }

-- the port once it is done with the port `clean`
abbrev pub having_put : Port → OwnedArena → Port
having_put p o = record p { control = record p.control { owned = Some (at_next_port o) } }

-- A port that has loaded the entering word of another, and has seen since that its own epoch is the current one, puts that port where
-- it stands itself, and is done with it, when the exchange of that word is won.
abbrev pub PutsStayLawful : Type 0
PutsStayLawful = (e : Plan) (words : List ℕ) (ports : ℕ → Port) (b : Beside) (k : ℕ) (o : OwnedArena) (a : Site) →
    LawfulEpochs e words ports b → k < e.ports → (ports k).control.owned ≡ Some o → o.looked ≡ true → o.clean < e.ports → o.set ≡ 0 →
    o.entering_word ≡ Some a → o.again ≡ true → slice_index words (at_word o.clean) ≡ entering_from a →
    LawfulEpochs e (words_after words (Exchange (at_word o.clean) (entering_from a) (packed (ports k).control.here)))
    (put k (having_put (ports k) o) ports) b

-- the port as the owner of that arena
abbrev pub owning_port : Port → OwnedArena → Port
owning_port p o = record p { control = record p.control { owned = Some o } }

-- an arena that a port just got for its own
abbrev pub just_taken : ℕ → OwnedArena
just_taken x = record { arena = x; looked = false; clean = 0; entering_word = None; again = false; set = 0 }

-- A port takes an arena, in which it doesn't stand itself, by an exchange of the owner word that is won.
abbrev pub TakesStayLawful : Type 0
TakesStayLawful = (e : Plan) (words : List ℕ) (ports : ℕ → Port) (b : Beside) (k x : ℕ) → LawfulEpochs e words ports b →
    k < e.ports → (ports k).control.entering ≡ Stands → (ports k).control.owned ≡ None →
    x < e.arenas → (ports k).control.here.arena ≢ x → slice_index words (own_word e x) ≡ 0 →
    LawfulEpochs e (words_after words (Exchange (own_word e x) 0 (k + 1))) (put k (owning_port (ports k) (just_taken x)) ports) b

-- a port that owns no arena any more
abbrev pub having_given : Port → Port
having_given p = record p { control = record p.control { owned = None } }

-- an owner gives its arena back, at any time
abbrev pub GivesStayLawful : Type 0
GivesStayLawful = (e : Plan) (words : List ℕ) (ports : ℕ → Port) (b : Beside) (k : ℕ) (o : OwnedArena) → LawfulEpochs e words ports b →
    k < e.ports → (ports k).control.owned ≡ Some o →
    LawfulEpochs e (words_after words (Store (own_word e o.arena) 0)) (put k (having_given (ports k)) ports) b

-- an owner that has looked finds the next port, or itself, in another arena, by a load or by an exchange that is lost
abbrev pub OthersAreElsewhere : Type 0
OthersAreElsewhere = (e : Plan) (words : List ℕ) (ports : ℕ → Port) (b : Beside) (k : ℕ) (o : OwnedArena) (d : Site) →
    LawfulEpochs e words ports b → k < e.ports → (ports k).control.owned ≡ Some o → o.looked ≡ true → o.set ≡ 0 →
    o.clean < e.ports → IsSite e d → slice_index words (at_word o.clean) ≡ packed d → d.arena ≢ o.arena →
    LawfulEpochs e words (put k (having_put (ports k) o) ports) b

-- an owner that holds the entering word of the next port, and hasn't looked since
abbrev pub having_loaded : OwnedArena → Site → OwnedArena
having_loaded o a = record o { entering_word = Some a; again = false }

-- an owner loads the entering word of the next port: it is that of the site which that port is entering from
abbrev pub EnteringWordsAreLoaded : Type 0
EnteringWordsAreLoaded = (e : Plan) (words : List ℕ) (ports : ℕ → Port) (b : Beside) (k : ℕ) (o : OwnedArena) → LawfulEpochs e words ports b →
    k < e.ports → (ports k).control.owned ≡ Some o → o.clean < e.ports → entering_bit ≤ slice_index words (at_word o.clean) →
    (slice_index words (at_word o.clean) ≡ entering_from (ports o.clean).control.here)
    × LawfulEpochs e words (put k (owning_port (ports k) (having_loaded o (ports o.clean).control.here)) ports) b

-- an owner that loads another current word knows that its epoch has ended
abbrev pub OwnersLookAway : Type 0
OwnersLookAway = (e : Plan) (words : List ℕ) (ports : ℕ → Port) (b : Beside) (k : ℕ) (o : OwnedArena) → LawfulEpochs e words ports b →
    k < e.ports → (ports k).control.owned ≡ Some o → slice_index words current_word ≢ packed (ports k).control.here →
    LawfulEpochs e words (put k (having_passed (ports k)) ports) b
