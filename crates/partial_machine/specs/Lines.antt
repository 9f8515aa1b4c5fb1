-- The parts of a port's machine, one by one, for calls whose steps are made in straight lines.
use Rattle.std.specs.Prelude.{ℕ, Bool, false, List, Option}
use Rattle.partial_words.specs.declared.step.Step.{Step}
use Rattle.partial_active.specs.declared.join.JoinStage.{JoinStage}
use Rattle.partial_active.specs.declared.join.JoinStage.TheVariants.{Joined, Spent}
use Rattle.partial_active.specs.GetSet as finding
use Rattle.partial_embedded.specs.Embedded as viewing
use Rattle.partial_machine.specs.declared.stage.Stage.TheVariants.{ScanBegun}
use Rattle.partial_machine.specs.Machine.{CoreState, scanning, slots_refused}

-- the machine with a getSet that has made no step
abbrev pub set_begun : CoreState → CoreState
set_begun s = record s { get_set = finding.fresh_set s.sizes s.get_set.lists_spent }

-- the step that is due in the getSet
abbrev pub set_step : CoreState → Option Step
set_step s = finding.set_step_due s.get_set

-- the machine with this getSet
abbrev pub with_set : CoreState → finding.GetSetState → CoreState
with_set s g = record s { get_set = g }

-- the machine with this embedded scan, whose caller keeps it while its steps are made
abbrev pub with_embedded : CoreState → viewing.EmbeddedState → CoreState
with_embedded s e = record s { embedded = e }

-- the machine with an embedded scan that has made no step
abbrev pub scan_begun : CoreState → Bool → CoreState
scan_begun s shares = with_embedded s (viewing.fresh_view s.sizes shares)

-- the step that is due in the embedded scan of those indices
abbrev pub scan_step : CoreState → List ℕ → Option Step
scan_step s indices = viewing.view_step_due indices (scanning s)

-- the machine with the positions of a scan
abbrev pub asking_machine : CoreState → List ℕ → CoreState
asking_machine s which = record s { asked = which }

-- the machine that has begun a scan of these positions
abbrev pub scan_asked : CoreState → List ℕ → CoreState
scan_asked s which = record s { asked = which; stage = ScanBegun }

-- the machine with a join of the announcement at that place, at that stage
abbrev pub join_at : CoreState → ℕ → JoinStage → CoreState
join_at s at stage = record s { join = record { sizes = s.sizes; announcement = at; stage = stage } }

-- the announcement stands in its slot
abbrev pub scan_joined : CoreState → ℕ → ℕ → CoreState
scan_joined s at slot = record (join_at s at (Joined slot)) { leave = record { sizes = s.sizes; slot = slot; left = false } }

-- there was no slot left for it, and the scan is refused
abbrev pub not_joined : CoreState → ℕ → CoreState
not_joined s at = slots_refused (join_at s at Spent)
