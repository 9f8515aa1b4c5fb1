-- The steps that a call makes: how it begins, goes on and ends at its seat.
use Rattle.std.specs.Prelude.{ℕ, ◌≡◌, ◌+◌, ◌||◌, List, length, Some}
use Rattle.partial_table.specs.Table.{TableId}
use Rattle.partial_words.specs.Layout.{IsLayout, total}
use Rattle.partial_machine.specs.declared.stage.Reply.{Reply}
use Rattle.partial_machine.specs.declared.stage.Stage.TheVariants.{Idle}
use Rattle.partial_machine.specs.Lines.{scan_asked}
use Rattle.partial_machine.specs.Machine.{CoreState, reply_of}
use Rattle.partial_machine.specs.Sound.{IsSound}
use Rattle.partial_machine.specs.Behind.{refuses_pool, refuses_slots}
use Rattle.partial_core.specs.Part.{HasBegun, IsMarkedLike}
use Rattle.partial_core.specs.Calls.{Made}
use Rattle.partial_memory.specs.declared.rule.About.{About}
use Rattle.partial_memory.specs.Rule.{SeatedPort, AreByOpened}

-- between two calls: the port x is one of the table and of its memory, and the machine that it keeps is idle and sound
pub record IsAtRest (table : TableId) (about : About) (here : TableId) (x : SeatedPort) (core : CoreState) : Type 0 where
  pub fits : here ≡ table
  pub words : table.words ≡ total about.sizes
  pub own : x.about ≡ about
  pub idle : core.stage ≡ Idle
  pub sound : IsSound core

-- the machine b, which claims no words ahead, has begun a call at the port x
pub record Begins (b : CoreState) (x : SeatedPort) : Type 0 where
  pub begun : HasBegun b x.part
  pub ahead : b.ahead ≡ 0
  pub sound : IsSound b
  pub layout : IsLayout b.sizes
  pub sizes : b.sizes ≡ x.about.sizes

-- The call has made some steps, which have led to the machine c and the port y. The port becomes marked exactly where the call is
-- refused.
pub record CallMade (b : CoreState) (x : SeatedPort) (c : CoreState) (y : SeatedPort) : Type 0 where
  pub about : y.about ≡ x.about
  pub made : Made x.about.sizes x.about.opening b x.part c y.part
  pub others : AreByOpened x.about y.part.seen
  pub pool : c.pool_spent ≡ (refuses_pool (reply_of c) || b.pool_spent)
  pub slots : c.slots_spent ≡ (refuses_slots (reply_of c) || b.slots_spent)

-- the seat, which had made n steps before the call of the port y, has made m with those of the call
abbrev pub HasCounted : ℕ → SeatedPort → ℕ → Type 0
HasCounted n y m = m ≡ n + length y.part.kept

-- The call has ended with that reply. The port goes on with an idle machine that has the marks of the call's, and claims as many words
-- ahead.
pub record CallEnded (b : CoreState) (x : SeatedPort) (r : Reply) (core : CoreState) (y : SeatedPort) : Type 0 where
  pub machine : CoreState
  pub made : CallMade b x machine y
  pub replies : reply_of machine ≡ Some r
  pub like : IsMarkedLike machine core
  pub ahead : core.ahead ≡ machine.ahead
  pub idle : core.stage ≡ Idle
  pub sound : IsSound core

-- A scan of these positions has ended so, which the machine before had begun. The machine that goes on has its rows.
pub record ScanEnded (before : CoreState) (which : List ℕ) (x : SeatedPort) (r : Reply) (core : CoreState) (y : SeatedPort) : Type 0 where
  pub ended : CallEnded (scan_asked before which) x r core y
  pub asked : ended.machine.asked ≡ which
  pub rows : core.rows ≡ ended.machine.rows
