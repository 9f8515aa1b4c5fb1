-- The rule of the table: the parts of all views are those of one lawful state. And what a port learns by its steps.
use Rattle.std.specs.Prelude.{ℕ, ◌≡◌, ◌<◌, List, [], ◌∷◌, ◌++◌, length, map, take}
use Rattle.std.specs.List.{AllByRecursion}
use Rattle.partial_table.specs.Seats.{flatten, numbered}
use Rattle.partial_table.specs.Table.{State, Me}
use Rattle.partial_model.specs.declared.history.Applied.{Applied}
use Rattle.partial_machine.specs.Machine.{CoreState}
use Rattle.partial_machine.specs.Sound.{IsSound}
use Rattle.partial_core.specs.Part.{Part, core_of, port_of, fresh_part, with_seen}
use Rattle.partial_core.specs.Lawful.{Lawful}
use Rattle.partial_core.specs.Steps.{FitsHistory, StepShows}
use Rattle.partial_memory.specs.declared.rule.About.{About}

-- what a seat knows of a port: the memory that it belongs to, and the port's part of the lawful state
pub record SeatedPort : Type 0 where
  pub about : About
  pub part : Part

-- the parts of these ports
abbrev pub parts_of : List SeatedPort → List Part
parts_of xs = map (λ x. x.part) xs

-- each port is one of those that were opened
abbrev pub AreOpened : ℕ → List SeatedPort → Type 0
AreOpened n xs = AllByRecursion (λ x. port_of x.part < n) xs

-- the second list has the elements of the first, in any order
abbrev pub IsShuffle : {A : Type 0} → List A → List A → Type 0
IsShuffle [] ys = ys ≡ []
IsShuffle {A} (x ∷ xs) ys = (before : List A) × (after : List A) × (ys ≡ before ++ x ∷ after) × IsShuffle xs (before ++ after)

-- the rule: for one history and some order of the ports the words are lawful with the ports of all views
pub record IsRuleKept {S : Type 0} (about : About) (s : State S (List SeatedPort)) : Type 0 where
  pub log : List Applied
  pub all : List SeatedPort
  pub shuffle : IsShuffle (flatten s.views) all
  pub lawful : Lawful about.sizes about.opening s.words (parts_of all) log
  pub opened : AreOpened about.ports all

-- a port that has made no call
abbrev pub newcomer : About → ℕ → SeatedPort
newcomer about port = record { about = about; part = fresh_part about.sizes port }

-- n such ports from that number on
abbrev pub newcomers : About → ℕ → ℕ → List SeatedPort
newcomers about port n = numbered (newcomer about) port n

-- what is taken for a port when a view has none
abbrev pub nobody : SeatedPort
nobody =
    newcomer (record { sizes = record { m = 1; slots = 1; lists = 0; pool = 3 }; opening = record { values = []; first = 0 }; ports = 0 }) 0

-- the first port of a view
abbrev pub one_of : List SeatedPort → SeatedPort
one_of [] = nobody
one_of (x ∷ xs) = x

-- the first port of the first view
abbrev pub one_in : List (List SeatedPort) → SeatedPort
one_in [] = nobody
one_in (v ∷ vs) = one_of v

-- the seat is that of one port, and has no slot; the badge is the seat of one port
abbrev pub IsOne : {S : Type 0} → Me S (List SeatedPort) → Type 0
IsOne me = (me.0 ≡ one_of me.0 ∷ []) × (me.1 ≡ [])

-- a badge of one seat in which there is one port
abbrev pub IsBadgeOfOne : List (List SeatedPort) → Type 0
IsBadgeOfOne views = views ≡ (one_in views ∷ []) ∷ []

-- each entry is by one of the ports that were opened
abbrev pub AreByOpened : About → List Applied → Type 0
AreByOpened about h = AllByRecursion (λ e. e.port < about.ports) h

-- what a seat learns by a step of the machine c: what its port learns by the law of steps, and that each entry is by a port that was opened
pub record SeatShows (c : CoreState) (x : SeatedPort) (a : ℕ) (y : SeatedPort) : Type 0 where
  pub about : y.about ≡ x.about
  pub sound : IsSound c
  pub log : List Applied
  pub entries : List Applied
  pub tells : StepShows x.about.sizes x.about.opening log entries x.part c a y.part
  pub others : AreByOpened x.about y.part.seen

-- the seat is of one port, and learns this by the step
abbrev pub makes : {S : Type 0} → CoreState → Me S (List SeatedPort) → ℕ → Me S (List SeatedPort) → Type 0
makes c me a me' = IsOne me' × SeatShows c (one_of me.0) a (one_of me'.0)

-- a further step of the call of a seat: of the machine to which the port's kept answers lead
abbrev pub goes_on : {S : Type 0} → Me S (List SeatedPort) → ℕ → Me S (List SeatedPort) → Type 0
goes_on me = makes (core_of (one_of me.0).part) me

-- the port after it has observed that history in a meeting
abbrev pub having_met : List Applied → SeatedPort → SeatedPort
having_met log x = record { about = x.about; part = with_seen log x.part }

-- the port has seen a beginning of the history, and knows what a port knows of it
pub record IsIn (log : List Applied) (x : SeatedPort) : Type 0 where
  pub seen : x.part.seen ≡ take (length x.part.seen) log
  pub fits : FitsHistory x.about.opening log (with_seen log x.part)
  pub others : AreByOpened x.about log

-- the ports belong to that memory
abbrev pub AreSeatedOf : About → List SeatedPort → Type 0
AreSeatedOf about xs = AllByRecursion (λ x. x.about ≡ about) xs

-- a lawful state of a memory with that history: words, and the parts of all its ports in some order, these among them
pub record IsLawfulWith (about : About) (log : List Applied) (here : List SeatedPort) : Type 0 where
  pub words : List ℕ
  pub others : List SeatedPort
  pub all : List SeatedPort
  pub shuffle : IsShuffle (here ++ others) all
  pub opened : AreOpened about.ports all
  pub lawful : Lawful about.sizes about.opening words (parts_of all) log

-- what a look says of the ports of a seat: each had observed a beginning of the history, which all observe then, in a lawful state
pub record LooksAt {S : Type 0} (me me' : Me S (List SeatedPort)) : Type 0 where
  pub log : List Applied
  pub seen : me'.0 ≡ map (having_met log) me.0
  pub slots : me'.1 ≡ me.1
  pub each : AllByRecursion (IsIn log) me.0
  pub about : About
  pub own : AreSeatedOf about me.0
  pub lawful : IsLawfulWith about log me'.0

-- by a look in a meeting all ports of the seat observe the whole history
abbrev pub looks : {S : Type 0} → Me S (List SeatedPort) → ℕ → Me S (List SeatedPort) → Type 0
looks me a me' = LooksAt me me'
