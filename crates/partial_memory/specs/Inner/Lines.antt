-- Calls that are made in straight lines: the machine of the call is a ghost, to which the kept answers of the seat's port lead.
use Rattle.std.specs.Prelude.{ℕ, ◌≡◌, List}
use Rattle.partial_table.specs.Table.{Me}
use Rattle.partial_table.specs.Table.{TableId}
use Rattle.partial_words.specs.Layout.{total}
use Rattle.partial_machine.specs.Machine.{CoreState}
use Rattle.partial_core.specs.Part.{core_of}
use Rattle.partial_memory.specs.declared.rule.About.{About}
use Rattle.partial_memory.specs.Rule.{SeatedPort, IsOne, one_of}
use Rattle.partial_memory.specs.Inner.Steps.{Begins, CallMade, HasCounted}

-- the machine of the seat's port
abbrev pub machine_of : {S : Type 0} → Me S (List SeatedPort) → CoreState
machine_of me = core_of (one_of me.0).part

-- the port has begun a call and made some of its steps, or all
abbrev pub IsUnderWay : SeatedPort → Type 0
IsUnderWay x = (b : CoreState) × (h : SeatedPort) × Begins b h × CallMade b h (core_of x.part) x

-- each call that has reached the one port has reached the other
abbrev pub ComesTo : SeatedPort → SeatedPort → Type 0
ComesTo x y = (b : CoreState) (h : SeatedPort) → Begins b h → CallMade b h (core_of x.part) x → CallMade b h (core_of y.part) y

-- a seat that has counted the steps of a call up to the one port has counted them up to the other
abbrev pub CountsOn : ℕ → SeatedPort → ℕ → SeatedPort → Type 0
CountsOn n x m y = (k : ℕ) → HasCounted k x n → HasCounted k y m

-- the seat is one of the table, and is that of one port of that memory, whose call is under way
pub record IsGoing {S : Type 0} (table : TableId) (about : About) (here : TableId) (me : Me S (List SeatedPort)) : Type 0 where
  pub fits : here ≡ table
  pub words : table.words ≡ total about.sizes
  pub one : IsOne me
  pub own : (one_of me.0).about ≡ about
  pub under : IsUnderWay (one_of me.0)

-- by no step a call stays where it is
pub leads_itself : (x : SeatedPort) → ComesTo x x
leads_itself x b h begins m = m

-- steps follow on steps
pub leads_on : (x y z : SeatedPort) → ComesTo x y → ComesTo y z → ComesTo x z
leads_on x y z f g b h begins m = g b h begins (f b h begins m)
