-- What the steps of a change of epoch, and of entering one, do to a port, by what they find.
use Rattle.std.specs.Prelude.{ℕ, ◌≡◌, ◌+◌, ◌-◌, ◌<◌, ◌≤◌, ◌==◌, ◌⊎◌, nat_lt, Bool, true, false, List, length, None, if◌then◌else◌}
use Rattle.std.specs.Option.{option_map_or}
use Rattle.partial_model.specs.declared.history.Applied.{Applied}
use Rattle.partial_epochs.specs.Layout.{Site, IsSite, entering_bit, entering_from, packed, seal, unpacked}
use Rattle.partial_epochs.specs.Ports.{OwnedArena, Port}
use Rattle.partial_epochs.specs.Ports.Entering.{StoredEntering, Loaded}
use Rattle.partial_epochs.specs.Entering.{arrived_port, having_passed}
use Rattle.partial_epochs.specs.Sealing.{passing_port}
use Rattle.partial_epochs.specs.Owning.{at_next_port, having_given, having_loaded, having_looked, just_taken, owning_port}
use Rattle.partial_epochs.specs.Publishing.{having_published, having_set}
use Rattle.partial_epochs.specs.FreeArenas.{most_freed}
use Rattle.partial_long_lived.specs.Rule.{Began, Contention, SeatedPort, plan_of}
use Rattle.partial_long_lived.specs.Ports.{seen_in}

-- a port that has passed the arenas up to that one in its search
abbrev pub passing : ℕ → Contention → Contention
passing x m = record m { search = record m.search { below = x + 1; met = false } }

-- a port that has met another one in the arena that it owns
abbrev pub meeting : Contention → Contention
meeting m = record m { search = record m.search { met = true } }

-- a port that has found sealed the component that it was to update
abbrev pub finding_seal : SeatedPort → SeatedPort
finding_seal x = record x { contention = record x.contention { seals = x.contention.seals + 1 } }

-- the seat of the port once it is so, in a call that began then
abbrev pub becomes : SeatedPort → Began → Port → SeatedPort
becomes x n p = record x { port = p; began = n }

-- when the call of a step began: as it did before; or with this step, when all that had been seen lay in the history
abbrev pub BeganBy : Bool → SeatedPort → Began → Type 0
BeganBy true x n = length (seen_in x.port) ≤ n.length
BeganBy false x n = n ≡ x.began

-- a port that has found its own site as the current one
abbrev pub having_found : Port → Port
having_found p = option_map_or (having_looked p) p.control.owned p

-- a port that has loaded the current word a
abbrev pub looked_at : ℕ → Port → Port
looked_at a p = if a == packed p.control.here then having_found p else having_passed p

-- a look, perhaps as the first step of a call: where the port's own site is the current one, the call began in no later epoch
abbrev pub SeatLooks : Bool → SeatedPort → ℕ → SeatedPort → Type 0
SeatLooks first x a y = (n : Began) × BeganBy first x n × (y ≡ becomes x n (looked_at a x.port))
    × (a ≡ packed x.port.control.here → n.epoch ≤ x.port.control.here.epoch)

-- the arenas below n have been passed in the search of the seat's port, but for the one where it stands
abbrev pub HasPassedArenas : ℕ → SeatedPort → Type 0
HasPassedArenas n x = (i : ℕ) → i < n → (i < x.contention.search.below) ⊎ (i ≡ x.port.control.here.arena)

-- A look by which a port begins a search for a free arena, in the epoch where it stands.
pub record BeginsSearch (x : SeatedPort) (a : ℕ) (y : SeatedPort) : Type 0 where
  pub freed : ℕ
  pub is : y ≡ record (becomes x x.began (looked_at a x.port)) {
    contention = record x.contention {
      search = record { epoch = x.port.control.here.epoch; freed = freed; most = freed + most_freed x.about.ports; below = 0; met = false };
    };
  }
  -- where that epoch is the current one, the port hadn't seen its end before
  pub current : a ≡ packed x.port.control.here → x.port.control.past ≡ false

-- A look by which it begins another pass. Where its epoch is the current one, and it has passed all arenas, one has come free since the
-- pass before began, and no more have than may.
pub record BeginsPass (x : SeatedPort) (a : ℕ) (y : SeatedPort) : Type 0 where
  pub freed : ℕ
  pub is : y ≡ record (becomes x x.began (looked_at a x.port)) {
    contention = record x.contention {
      search = record x.contention.search { freed = freed; below = 0 };
    };
  }
  pub more : a ≡ packed x.port.control.here → x.contention.search.epoch ≡ x.port.control.here.epoch → HasPassedArenas x.about.arenas x →
      (x.contention.search.freed < freed) × (freed ≤ x.contention.search.most)

-- a port that has stored its entering word, with which entering begins
abbrev pub stored_entering : Port → Port
stored_entering p = record p { control = record p.control { entering = StoredEntering } }

-- the first: the store of the entering word
abbrev pub StoresEnteringWord : SeatedPort → ℕ → SeatedPort → Type 0
StoresEnteringWord x a y = y ≡ becomes x x.began (stored_entering x.port)

-- a port that has loaded the site c as the current one
abbrev pub loads : Site → Port → Port
loads c p = record p { control = record p.control { entering = Loaded c } }

-- the second: the load of the current word, which names a site
abbrev pub LoadsCurrent : SeatedPort → ℕ → SeatedPort → Type 0
LoadsCurrent x a y = (a ≡ packed (unpacked a)) × IsSite (plan_of x.about) (unpacked a)
    × (y ≡ becomes x x.began (loads (unpacked a) x.port))

-- the site that a port enters which has loaded c, when the exchange of its entering word finds a
abbrev pub site_found : Port → Site → ℕ → Site
site_found p c a = if a == entering_from p.control.here then c else unpacked a

-- the third: the port enters a later epoch, with a new part there
abbrev pub SeatArrives : Site → SeatedPort → ℕ → SeatedPort → Type 0
SeatArrives c x a y = (before : List (List Applied)) × (x.port.control.here.epoch < (site_found x.port c a).epoch)
    × (x.began.epoch ≤ (site_found x.port c a).epoch)
    × (y ≡ record x { port = arrived_port (plan_of x.about) x.number (site_found x.port c a) before; found = None })

-- a port in a change of epoch that has loaded a component word, which is a: it passes the component if that is sealed
abbrev pub passed_at : ℕ → Port → Port
passed_at a p = if nat_lt a seal then p else passing_port p

-- that load
abbrev pub PassesSealed : SeatedPort → ℕ → SeatedPort → Type 0
PassesSealed x a y = y ≡ becomes x x.began (passed_at a x.port)

-- a seal
abbrev pub Seals : SeatedPort → ℕ → SeatedPort → Type 0
Seals x a y = y ≡ becomes x x.began (passing_port x.port)

-- a port that has exchanged the owner word of arena i, and found a
abbrev pub taken_at : ℕ → ℕ → Port → Port
taken_at i a p = if a == 0 then owning_port p (just_taken i) else p

-- what it has found then: another owner, unless the arena was free
abbrev pub contention_taking : ℕ → ℕ → Contention → Contention
contention_taking i a m = if a == 0 then m else passing i m

-- that exchange
abbrev pub Takes : ℕ → SeatedPort → ℕ → SeatedPort → Type 0
Takes i x a y = y ≡ record (becomes x x.began (taken_at i a x.port)) { contention = contention_taking i a x.contention }

-- what a port has found that gives its arena back: it has passed that one, unless it has seen that its epoch has ended
abbrev pub contention_giving : Bool → OwnedArena → Contention → Contention
contention_giving past o m = if past then m else passing o.arena m

-- the store that gives the arena back, by the owner o
abbrev pub SeatGives : OwnedArena → SeatedPort → ℕ → SeatedPort → Type 0
SeatGives o x a y = y ≡ record (becomes x x.began (having_given x.port)) { contention = contention_giving x.port.control.past o x.contention }

-- what an owner does with the word a of the next port, which has no entering bit: it is done with that port if the port is in another arena
abbrev pub elsewhere : ℕ → OwnedArena → OwnedArena
elsewhere a o = if (unpacked a).arena == o.arena then o else at_next_port o

-- the same of a word that may have the entering bit: the owner has loaded it
abbrev pub port_loaded : ℕ → OwnedArena → OwnedArena
port_loaded a o = if nat_lt a entering_bit then elsewhere a o else having_loaded o (unpacked (a - entering_bit))

-- what an owner has met by the word a of a port, without the entering bit: that the port stands in the arena, unless it names another one
abbrev pub contention_there : ℕ → OwnedArena → Contention → Contention
contention_there a o m = if (unpacked a).arena == o.arena then meeting m else m

-- the same of a word that may have the entering bit
abbrev pub contention_loading : ℕ → OwnedArena → Contention → Contention
contention_loading a o m = if nat_lt a entering_bit then contention_there a o m else m

-- that load, by the owner o
abbrev pub LoadsPort : OwnedArena → SeatedPort → ℕ → SeatedPort → Type 0
LoadsPort o x a y = y ≡ record (becomes x x.began (owning_port x.port (port_loaded a o))) { contention = contention_loading a o x.contention }

-- an owner that has exchanged the entering word m of that port for its own site, and found a
abbrev pub port_put : Site → ℕ → OwnedArena → OwnedArena
port_put m a o = if a == entering_from m then at_next_port o else (if nat_lt a entering_bit then elsewhere a o else o)

-- what it has met then: a port that may enter the arena, unless it was put or is in another one
abbrev pub contention_putting : Site → ℕ → OwnedArena → Contention → Contention
contention_putting m a o w = if a == entering_from m then w else (if nat_lt a entering_bit then contention_there a o w else meeting w)

-- that exchange, by the owner o
abbrev pub PutsPort : OwnedArena → Site → SeatedPort → ℕ → SeatedPort → Type 0
PutsPort o m x a y = y ≡ record (becomes x x.began (owning_port x.port (port_put m a o))) { contention = contention_putting m a o x.contention }

-- a store by which the words of the owned arena below that number count as set
abbrev pub Sets : OwnedArena → ℕ → SeatedPort → ℕ → SeatedPort → Type 0
Sets o next x a y = y ≡ becomes x x.began (having_set x.port o next)

-- the load of the slot counter of the owned arena, by an owner that has set no word: the slots from there on count as set
abbrev pub FindsClear : OwnedArena → SeatedPort → ℕ → SeatedPort → Type 0
FindsClear o x a y = y ≡ becomes x x.began (having_set x.port o (x.about.sizes.slots - a))

-- the exchange of the current word
abbrev pub SeatPublishes : OwnedArena → SeatedPort → ℕ → SeatedPort → Type 0
SeatPublishes o x a y = y ≡ becomes x x.began (having_published x.port o)
