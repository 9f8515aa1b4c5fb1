-- The rule of the table: its words and what the ports know are those of a lawful memory over all epochs.
use Rattle.std.specs.Prelude.{⊤, ℕ, ◌≡◌, ◌+◌, ◌<◌, ◌≤◌, ◌==◌, Bool, true, false, List, [], ◌∷◌, ◌++◌, length, Option, None, IfSome, if◌then◌else◌}
use Rattle.std.specs.List.{AllByRecursion}
use Rattle.partial_table.specs.Seats.{flatten, numbered}
use Rattle.partial_table.specs.Table.{State}
use Rattle.partial_model.specs.declared.history.Applied.{Applied}
use Rattle.partial_model.specs.History.{value_of}
use Rattle.partial_model.specs.Notes.{Noted}
use Rattle.partial_epochs.specs.Layout.{Site, Plan}
use Rattle.partial_epochs.specs.History.{carried_after, stamp_after, history_of, opened_after}
use Rattle.partial_epochs.specs.Ports.{Entering, Port}
use Rattle.partial_epochs.specs.Ports.Entering.{Stands}
use Rattle.partial_epochs.specs.Epochs.{Beside, site_now}
use Rattle.partial_epochs.specs.Opening.{first_site}
use Rattle.partial_epochs.specs.Entering.{arrived_port}
use Rattle.partial_epochs.specs.Notes.{LawfulMemory}
use Rattle.partial_epochs.specs.Time.{KeepsTime}
use Rattle.partial_epochs.specs.FreeArenas.{IsInUse, KeepsTally, Tally, may_free, most_freed}
use Rattle.partial_long_lived.specs.declared.rule.About.{About}

-- the last value and the last public stamp of a component of a port's epoch, which the port has passed in a change of epoch
pub record Found : Type 0 where
  pub component : ℕ
  pub value : ℕ
  pub stamp : ℕ

-- When a call made its first step: in which epoch, and how long the one history was then.
pub record Began : Type 0 where
  pub epoch : ℕ
  pub length : ℕ

-- A port's search for a free arena in a change of epoch: it passes over the arenas again and again (ghost state).
pub record Search : Type 0 where
  -- the epoch in which it searches
  pub epoch : ℕ
  -- how often an arena may have come free before its pass began, and how often at most while that epoch is the current one
  pub freed : ℕ
  pub most : ℕ
  -- the arenas below this one were in use in the pass
  pub below : ℕ
  -- it has met another port in the arena that it owns
  pub met : Bool

-- What a port has met in its calls: how often it has found a component sealed that it was to update, and what its last search found.
pub record Contention : Type 0 where
  pub seals : ℕ
  pub search : Search

-- what a seat knows of a port: the memory that it belongs to, its number, what it does, its notes over all epochs, when its last
-- call began, what it has found, and what it has met
pub record SeatedPort : Type 0 where
  pub about : About
  pub number : ℕ
  pub port : Port
  pub notes : List Noted
  pub began : Began
  pub found : Option Found
  pub contention : Contention

-- the sizes and the opening of a memory, as the law of epochs has them
abbrev pub plan_of : About → Plan
plan_of a = record { sizes = a.sizes; ports = a.ports; arenas = a.arenas; opening = a.opening; limit = a.limit; announces = a.announces }

-- how many of these seats are of that port
abbrev pub seats_of : ℕ → List SeatedPort → ℕ
seats_of k [] = 0
seats_of k (x ∷ xs) = (if x.number == k then 1 else 0) + seats_of k xs

-- the component has that value and that public stamp after an epoch with this history, and after the epochs before it
pub record IsLast (e : Plan) (before : List (List Applied)) (log : List Applied) (f : Found) : Type 0 where
  pub value : value_of (opened_after e.opening before) log f.component ≡ f.value
  pub stamp : carried_after (length before) (stamp_after e.opening before) log f.component ≡ f.stamp

-- what the port has found is the last of a component that is sealed, and so it stays
pub record IsFinal (e : Plan) (b : Beside) (x : Port) (f : Found) : Type 0 where
  pub inside : f.component < e.sizes.m
  pub passed : f.component < x.passed
  pub last : (later : List (List Applied)) (log : List Applied) → b.log ∷ b.before ≡ later ++ log ∷ x.before → IsLast e x.before log f

-- what the port has seen is a beginning of its epoch's history
abbrev pub IsSeen : Beside → Port → Type 0
IsSeen b x = (later : List (List Applied)) (log : List Applied) → b.log ∷ b.before ≡ later ++ log ∷ x.before →
    (rest : List Applied) × (log ≡ x.part.seen ++ rest)

-- the call began in an epoch that has come, and not before the one history was so long
pub record BeganInTime (b : Beside) (g : Began) : Type 0 where
  pub come : g.epoch ≤ length b.before
  pub reached : (later before : List (List Applied)) (log : List Applied) → b.log ∷ b.before ≡ later ++ log ∷ before →
      length before ≡ g.epoch → g.length ≤ length (history_of (log ∷ before))

-- a port that is entering stored its entering word no earlier than its call began
abbrev pub IsSince : Began → Entering → ℕ → Type 0
IsSince g Stands since = ⊤
IsSince g _ since = g.epoch ≤ since

-- What is counted beside the words: the number of the epoch that was the current one as each port stored its last entering word, and how
-- often ports have changed their sites and arenas have become free.
pub record Reckoning : Type 0 where
  pub since : ℕ → ℕ
  pub tally : Tally

-- the ports keep time and tally
pub record Reckons (e : Plan) (words : List ℕ) (ports : ℕ → Port) (now : Site) (r : Reckoning) : Type 0 where
  pub time : KeepsTime e words ports now r.since
  pub tally : KeepsTally e words ports r.tally

-- What holds of a search of port k: while its epoch is the current one, arenas come free no more often than it says; and unless one may
-- have come free since its pass began, the arenas that it has passed are in use.
pub record IsSearching (e : Plan) (words : List ℕ) (ports : ℕ → Port) (now : Site) (r : Reckoning) (k : ℕ) (s : Search) : Type 0 where
  pub come : s.epoch ≤ now.epoch
  pub begun : s.freed ≤ r.tally.freed
  pub within : s.below ≤ e.arenas
  pub bound : s.epoch ≡ now.epoch → r.tally.freed + may_free e words ports now.epoch r.since r.tally ≤ s.most
  pub busy : s.epoch ≡ now.epoch → r.tally.freed ≡ s.freed → (x : ℕ) → x < s.below → IsInUse e words k x

-- the seat is of a port of the memory, and knows what the port does and has noted
pub record IsSeat (a : About) (words : List ℕ) (ports : ℕ → Port) (notes : ℕ → List Noted) (b : Beside) (r : Reckoning) (x : SeatedPort) :
    Type 0 where
  pub about : x.about ≡ a
  pub number : x.number < a.ports
  pub port : x.port ≡ ports x.number
  pub noted : x.notes ≡ notes x.number
  pub seen : IsSeen b x.port
  pub began : BeganInTime b x.began
  pub entering : IsSince x.began x.port.control.entering (r.since x.number)
  pub found : IfSome x.found (IsFinal (plan_of a) b x.port)
  pub search : IsSearching (plan_of a) words ports (site_now b) r x.number x.contention.search
  pub met : x.contention.search.met ≡ true → r.tally.met x.number ≡ true

-- The rule: the words are lawful over all epochs, with ports that keep time and tally, of which the seats know. No two seats are of one
-- port.
pub record IsRuleKept {S : Type 0} (about : About) (s : State S (List SeatedPort)) : Type 0 where
  pub ports : ℕ → Port
  pub notes : ℕ → List Noted
  pub beside : Beside
  pub reckoned : Reckoning
  pub lawful : LawfulMemory (plan_of about) s.words ports beside notes
  pub reckons : Reckons (plan_of about) s.words ports (site_now beside) reckoned
  pub seats : AllByRecursion (IsSeat about s.words ports notes beside reckoned) (flatten s.views)
  pub once : (k : ℕ) → seats_of k (flatten s.views) ≤ 1

-- a search that a port hasn't begun: in the first epoch arenas come free so often at most
abbrev pub first_search : ℕ → Search
first_search ports = record { epoch = 0; freed = 0; most = most_freed ports; below = 0; met = false }

-- the seat of a port that has made no call
abbrev pub newcomer : About → ℕ → SeatedPort
newcomer about k = record {
  about = about;
  number = k;
  port = arrived_port (plan_of about) k first_site [];
  notes = [];
  began = record { epoch = 0; length = 0 };
  found = None;
  contention = record { seals = 0; search = first_search about.ports };
}

-- n such seats from that number on
abbrev pub newcomers : About → ℕ → ℕ → List SeatedPort
newcomers about k n = numbered (newcomer about) k n

-- what is taken for a seat when a view has none
abbrev pub nobody : SeatedPort
nobody = newcomer (record {
  sizes = record { m = 1; slots = 1; lists = 0; pool = 3 };
  opening = record { values = []; first = 0 };
  ports = 0;
  arenas = 0;
  limit = 0;
  announces = true;
}) 0

-- the first seat of a view
abbrev pub one_of : List SeatedPort → SeatedPort
one_of [] = nobody
one_of (x ∷ xs) = x
