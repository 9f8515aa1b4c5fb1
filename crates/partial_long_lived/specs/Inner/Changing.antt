-- What the parts of a change of epoch leave of a port.
use Rattle.std.specs.Prelude.{⊤, ℕ, ◌≡◌, ◌≢◌, ◌+◌, ◌-◌, ◌%◌, ◌<◌, ◌≤◌, ◌==◌, ◌⊎◌, ◌&&◌, nat_lt, if◌then◌else◌, Bool, true, false, IfSome, List, [], Option, None, Some}
use Rattle.partial_model.specs.declared.history.Applied.{Applied}
use Rattle.partial_words.specs.Layout.{Layout, first_free, initial_record, list_base}
use Rattle.partial_words.specs.Chain.{opening_word}
use Rattle.partial_words.specs.Record.{value_word, plain_record_size}
use Rattle.partial_epochs.specs.Layout.{arena_limit, entering_bit, epoch_limit, set_offset, unpacked}
use Rattle.partial_epochs.specs.Ports.{OwnedArena}
use Rattle.partial_epochs.specs.Ports.Entering.{Stands}
use Rattle.partial_epochs.specs.Entering.{arrived_port}
use Rattle.partial_epochs.specs.Owning.{just_taken}
use Rattle.partial_epochs.specs.FreeArenas.{most_freed}
use Rattle.partial_long_lived.specs.declared.claim.Claimed.{Claimed}
use Rattle.partial_long_lived.specs.declared.claim.Claimed.TheVariants.{Clean, Taken, Ended}
use Rattle.partial_long_lived.specs.declared.error.Refused.{Refused}
use Rattle.partial_long_lived.specs.declared.error.Refused.TheVariants.{EpochsSpent}
use Rattle.partial_long_lived.specs.declared.stand.Stand.{Stand}
use Rattle.partial_long_lived.specs.Rule.{Began, Found, Contention, Search, SeatedPort, plan_of}
use Rattle.partial_long_lived.specs.Inner.Steps.{SeatGoes}
use Rattle.partial_long_lived.specs.Inner.Moves.{BeganBy, HasPassedArenas, PutsPort, SeatGives, Sets, Takes}
use Rattle.partial_long_lived.specs.Inner.Calls.{IsIdle}
use Rattle.partial_long_lived.specs.Inner.Loads.{stamp_seen, value_seen}
use Rattle.partial_long_lived.specs.Inner.Held.{port_at}

-- what a step does by the arena that the port owns
abbrev pub OfOwned : (OwnedArena → SeatedPort → ℕ → SeatedPort → Type 0) → SeatedPort → ℕ → SeatedPort → Type 0
OfOwned R x a y = IfSome x.port.control.owned (λ o. R o x a y)

-- the exchange of the owner word w
abbrev pub TakesBy : ℕ → SeatedPort → ℕ → SeatedPort → Type 0
TakesBy w x a y = Takes (w - (1 + x.about.ports)) x a y

-- the store that gives the owned arena back
abbrev pub GivesBack : SeatedPort → ℕ → SeatedPort → Type 0
GivesBack x a y = OfOwned SeatGives x a y

-- the exchange of the entering word w of a port
abbrev pub PutsBy : ℕ → SeatedPort → ℕ → SeatedPort → Type 0
PutsBy w x a y = OfOwned (λ o. PutsPort o (unpacked (w - entering_bit))) x a y

-- the number of the word that has to be set next after the values of the first n components: the next value, or the first carried stamp
abbrev pub after_values : Layout → ℕ → ℕ
after_values z n = if nat_lt n z.m then value_word (initial_record z n) else first_free z

-- and of the one after the value that is set as number i
abbrev pub after_value : Layout → ℕ → ℕ
after_value z i = if nat_lt (i + plain_record_size) (first_free z) then i + plain_record_size else first_free z

-- the store of the next word of the owned arena
abbrev pub SetsNext : SeatedPort → ℕ → SeatedPort → Type 0
SetsNext x a y = OfOwned (λ o. Sets o (o.set + 1)) x a y

-- that of the last one before the list words: what lies before the first value counts as set then
abbrev pub SetsLists : SeatedPort → ℕ → SeatedPort → Type 0
SetsLists x a y = OfOwned (λ o. Sets o (after_values x.about.sizes 0)) x a y

-- and that of a value: what lies before the next one counts as set then, or before the carried stamps
abbrev pub SetsValue : SeatedPort → ℕ → SeatedPort → Type 0
SetsValue x a y = OfOwned (λ o. Sets o (after_value x.about.sizes o.set)) x a y

-- The load of a word that is to be set to v. Where the word is v already, the load is the step R that sets it; otherwise it shows nothing.
abbrev pub FindsSet : ℕ → (SeatedPort → ℕ → SeatedPort → Type 0) → SeatedPort → ℕ → SeatedPort → Type 0
FindsSet v R x a y = ((a ≡ v) × R x a y) ⊎ ((a ≢ v) × (y ≡ x))

-- The port stands where it stood, in the same call, with the same notes; what it has seen, passed, found and owns may be another.
pub record Stays (s t : Stand) : Type 0 where
  pub shape : t.shape ≡ s.shape
  pub number : t.number ≡ s.number
  pub epoch : t.epoch ≡ s.epoch
  pub arena : t.arena ≡ s.arena
  pub base : t.base ≡ s.base
  pub goes : SeatGoes (port_at s) (port_at t)
  pub here : (port_at t).port.control.here ≡ (port_at s).port.control.here
  pub entering : (port_at t).port.control.entering ≡ (port_at s).port.control.entering
  pub notes : (port_at t).notes ≡ (port_at s).notes
  pub began : (port_at t).began ≡ (port_at s).began

-- its part in the epoch is as it was
pub record HasSamePart (s t : Stand) : Type 0 where
  pub part : (port_at t).port.part ≡ (port_at s).port.part
  pub before : (port_at t).port.before ≡ (port_at s).port.before
  pub over : (port_at t).port.over ≡ (port_at s).port.over

-- the port has passed as many components as before
abbrev pub HasPassed : Stand → Stand → Type 0
HasPassed s t = (port_at t).port.passed ≡ (port_at s).port.passed

-- the port stands where it stood, and nothing has become of it but what it owns, and that it may have seen its epoch's end
pub record Remains (s t : Stand) : Type 0 where
  pub stays : Stays s t
  pub same : HasSamePart s t
  pub passed : HasPassed s t

-- the port stands, and owns arena x
pub record Owns (s : Stand) (x : ℕ) : Type 0 where
  pub stands : (port_at s).port.control.entering ≡ Stands
  pub owned : OwnedArena
  pub is : (port_at s).port.control.owned ≡ Some owned
  pub arena : owned.arena ≡ x

-- it has looked, is done with the ports below q, and has set so many words
pub record HasSetWords (s : Stand) (x q n : ℕ) : Type 0 where
  pub stands : (port_at s).port.control.entering ≡ Stands
  pub owned : OwnedArena
  pub is : (port_at s).port.control.owned ≡ Some owned
  pub arena : owned.arena ≡ x
  pub looked : owned.looked ≡ true
  pub clean : owned.clean ≡ q
  pub entering_word : owned.entering_word ≡ None
  pub set : owned.set ≡ n

-- it has just taken the arena
pub record HasTaken (s : Stand) (x : ℕ) : Type 0 where
  pub stands : (port_at s).port.control.entering ≡ Stands
  pub is : (port_at s).port.control.owned ≡ Some (just_taken x)

-- whether it has, or owns none
abbrev pub Tried : ℕ → Bool → Stand → Type 0
Tried x true s = HasTaken s x
Tried x false s = IsIdle s

-- it has looked, is done with the ports below q, and has loaded the word a of port q, which is an entering word
pub record HoldsEnteringWord (s : Stand) (x q a : ℕ) : Type 0 where
  pub stands : (port_at s).port.control.entering ≡ Stands
  pub owned : OwnedArena
  pub is : (port_at s).port.control.owned ≡ Some owned
  pub arena : owned.arena ≡ x
  pub looked : owned.looked ≡ true
  pub clean : owned.clean ≡ q
  pub entering_word : owned.entering_word ≡ Some (unpacked (a - entering_bit))
  pub set : owned.set ≡ 0

-- it has looked since
pub record MayPutPort (s : Stand) (x q a : ℕ) : Type 0 where
  pub holds : HoldsEnteringWord s x q a
  pub again : holds.owned.again ≡ true

-- what it has loaded of port q
pub record HasLoadedPort (s : Stand) (x q a : ℕ) : Type 0 where
  pub away : a < entering_bit → a % arena_limit ≢ x → HasSetWords s x (q + 1) 0
  pub there : a < entering_bit → a % arena_limit ≡ x → HasSetWords s x q 0
  pub entering_from : entering_bit ≤ a → HoldsEnteringWord s x q a

-- the port has seen that its epoch has ended
abbrev pub IsPast : Stand → Type 0
IsPast s = (port_at s).port.control.past ≡ true

-- what has come of an arena, or of several: the port owns one of which it is done with all ports, or none
abbrev pub HasTried : Claimed → Stand → Type 0
HasTried (Clean x) s = (x < (port_at s).about.arenas) × HasSetWords s x (port_at s).about.ports 0
HasTried Taken s = IsIdle s
HasTried Ended s = IsIdle s × IsPast s

-- what has come of a search
abbrev pub HasClaimed : Option ℕ → Stand → Type 0
HasClaimed (Some x) s = HasTried (Clean x) s
HasClaimed None s = HasTried Ended s

-- what has come of the ports below n, of arena x
abbrev pub HasCleared : ℕ → ℕ → Claimed → Stand → Type 0
HasCleared x n (Clean y) s = (y ≡ x) × HasSetWords s x n 0
HasCleared x n Taken s = Owns s x
HasCleared x n Ended s = Owns s x × IsPast s

-- what the port's last search has found
abbrev pub search_at : Stand → Search
search_at s = (port_at s).contention.search

-- The port searches for a free arena in the epoch where it stands, whose end it hasn't seen. It has passed the arenas below n, and `met`
-- says whether it has met another port in the arena that it owns.
pub record Searches (met : Bool) (n : ℕ) (s : Stand) : Type 0 where
  pub epoch : (search_at s).epoch ≡ (port_at s).port.control.here.epoch
  pub past : (port_at s).port.control.past ≡ false
  pub met_is : (search_at s).met ≡ met
  pub passed : HasPassedArenas n (port_at s)

-- the search is in the same pass
pub record InSamePass (s t : Stand) : Type 0 where
  pub freed : (search_at t).freed ≡ (search_at s).freed
  pub most : (search_at t).most ≡ (search_at s).most

-- from the one stand to the other the search goes on in its pass, up to there
pub record SearchesOn (met : Bool) (n : ℕ) (s t : Stand) : Type 0 where
  pub searches : Searches met n t
  pub same : InSamePass s t

-- an arena that was found taken has been passed
abbrev pub PassesBy : Claimed → ℕ → Stand → Stand → Type 0
PassesBy Taken n s t = SearchesOn false n s t
PassesBy _ n s t = ⊤

-- a port is met in arena x where that is found taken
abbrev pub MeetsBy : Claimed → ℕ → Stand → Stand → Type 0
MeetsBy (Clean y) x s t = SearchesOn false x s t
MeetsBy Taken x s t = SearchesOn true x s t
MeetsBy Ended x s t = ⊤

-- whether the word a of a port shows that it stands in arena x
abbrev pub shows_met : ℕ → ℕ → Bool
shows_met x a = nat_lt a entering_bit && (a % arena_limit == x)

-- the load of that word goes on with the search
abbrev pub MeetsPort : ℕ → ℕ → Stand → Stand → Type 0
MeetsPort x a s t = SearchesOn (shows_met x a) x s t

-- A look has found the port's own site the current one, and a search has begun there; or its epoch has ended.
abbrev pub SearchBegun : Bool → Stand → Type 0
SearchBegun true t = Searches false 0 t × ((search_at t).most ≡ (search_at t).freed + most_freed (port_at t).about.ports)
SearchBegun false t = IsPast t

-- The same of another pass, if an arena has come free since the pass before began.
abbrev pub PassBegun : Bool → Stand → Stand → Type 0
PassBegun true s t = Searches false 0 t × ((search_at t).most ≡ (search_at s).most) × ((search_at s).freed < (search_at t).freed)
    × ((search_at t).freed ≤ (search_at t).most)
PassBegun false s t = IsPast t

-- v is what each opening has in the word that is set as number i, whatever its values are
pub record IsFixedWord (z : Layout) (v i : ℕ) : Type 0 where
  pub within : i < list_base z
  pub is : v ≡ opening_word z [] (set_offset z i)

-- v is the stamp that has been found, and i the number of the word of the stamp that is carried
pub record IsCarriedStamp (z : Layout) (found : Option Found) (v i : ℕ) : Type 0 where
  pub f : Found
  pub found_is : found ≡ Some f
  pub inside : f.component < z.m
  pub at : i ≡ first_free z + f.component
  pub is : v ≡ f.stamp

-- v is what the next epoch begins with in the word that is set as number i, which isn't that of a value
abbrev pub IsRight : SeatedPort → ℕ → ℕ → Type 0
IsRight x v i = IsFixedWord x.about.sizes v i ⊎ IsCarriedStamp x.about.sizes x.found v i

-- the port's control is as it was
abbrev pub HasControl : Stand → Stand → Type 0
HasControl s t = (port_at t).port.control ≡ (port_at s).port.control

-- the port has found the last value and the last stamp of component j, as after all that it has seen
abbrev pub HasFound : Stand → ℕ → Type 0
HasFound t j = (port_at t).found ≡ Some (record {
  component = j;
  value = value_seen (port_at t) (port_at t).port.part.seen j;
  stamp = stamp_seen (port_at t) (port_at t).port.part.seen j;
})

-- v is the value of component j that the port has found
pub record FoundValue (t : Stand) (j v : ℕ) : Type 0 where
  pub found : Found
  pub is : (port_at t).found ≡ Some found
  pub component : found.component ≡ j
  pub value : v ≡ found.value

-- v is the stamp of component j that the port has found
pub record FoundStamp (t : Stand) (j v : ℕ) : Type 0 where
  pub found : Found
  pub is : (port_at t).found ≡ Some found
  pub component : found.component ≡ j
  pub stamp : v ≡ found.stamp

-- The port has entered a later epoch, no older than the one that was the current one as its call began, with a new part there.
pub record EpochChanged (first : Bool) (s t : Stand) : Type 0 where
  pub shape : t.shape ≡ s.shape
  pub number : t.number ≡ s.number
  pub goes : SeatGoes (port_at s) (port_at t)
  pub n : Began
  pub began : BeganBy first (port_at s) n
  pub before : List (List Applied)
  pub contention : Contention
  pub is : port_at t ≡ record (port_at s) {
    port = arrived_port (plan_of (port_at s).about) (port_at s).number (record { epoch = t.epoch; arena = t.arena }) before;
    began = n;
    found = None;
    contention = contention;
  }
  pub later : (port_at s).port.control.here.epoch < t.epoch
  pub fresh : n.epoch ≤ t.epoch

-- why a change of epoch is refused: the port's epoch is the last one that a word can name
abbrev pub IsCause : Stand → Refused → Type 0
IsCause t EpochsSpent = t.epoch + 1 ≡ epoch_limit
IsCause t _ = ⊥

-- The change is refused: the port stands where it stood, with the part that it had, and owns no arena.
pub record NotChanged (first : Bool) (s t : Stand) : Type 0 where
  pub shape : t.shape ≡ s.shape
  pub number : t.number ≡ s.number
  pub epoch : t.epoch ≡ s.epoch
  pub arena : t.arena ≡ s.arena
  pub base : t.base ≡ s.base
  pub goes : SeatGoes (port_at s) (port_at t)
  pub began : BeganBy first (port_at s) (port_at t).began
  pub here : (port_at t).port.control.here ≡ (port_at s).port.control.here
  pub free : IsIdle t
  pub notes : (port_at t).notes ≡ (port_at s).notes
  pub same : HasSamePart s t
