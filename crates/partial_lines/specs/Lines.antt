-- Calls in straight lines: the machine of the call is a ghost, to which the answers of its steps lead.
use Rattle.std.specs.Prelude.{ℕ, ⊤, ◌≡◌, ◌+◌, ◌==◌, true, Option, Some, None, IsSome, List, [], length, if◌then◌else◌}
use Rattle.std.specs.Option.{option_map_or}
use Rattle.std.proofs.Common.{refl, sym, ap, ◌∙◌}
use Rattle.partial_words.specs.declared.step.Step.{Step}
use Rattle.partial_words.specs.Announcement.{announcement_size}
use Rattle.partial_words.specs.Record.{plain_record_size}
use Rattle.partial_machine.specs.declared.stage.Change.{Change}
use Rattle.partial_machine.specs.declared.stage.Stage.{Stage}
use Rattle.partial_machine.specs.declared.stage.Stage.TheVariants.{Idle, GettingSet, Viewing, ClaimingRecord, StoringRecord, Exchanging, StoringAnnouncement, Scanning, Leaving}
use Rattle.partial_lines.specs.declared.update.PutBegun.{PutBegun}
use Rattle.partial_machine.specs.Lines.{scan_begun, scan_step, set_step}
use Rattle.partial_machine.specs.Machine.{CoreState, after_getting, at_stage, begin_joining, getting, record_size, scanning, with_getting, with_scanning}

-- the step that is due at that stage does not exchange a component word
abbrev pub IsQuiet : Stage → Type 0
IsQuiet (Exchanging c old at) = ⊥
IsQuiet _ = ⊤

-- The last word of a record without a view is to be stored, which refers to none.
pub record StoresNoView (s : CoreState) : Type 0 where
  pub none : s.found.indices ≡ []
  pub change : Change
  pub old : ℕ
  pub at : ℕ
  pub k : ℕ
  pub stage : s.stage ≡ StoringRecord change old at k
  pub last : k + 1 ≡ plain_record_size

-- whether and where the record of an update was written, unless its embedded scan is due
abbrev pub written_in : PutBegun → Option (Option ℕ)
written_in (PutBegun.Written at) = Some (Some at)
written_in PutBegun.Refused = Some None
written_in PutBegun.Found = None

-- The embedded scan of that update is due: its machine goes on from the one that the port keeps, with what the getSet has found.
pub record IsViewDue (machine core : CoreState) (c : Change) (old : ℕ) : Type 0 where
  pub idle : core.stage ≡ Idle
  pub viewing : machine ≡ at_stage (scan_begun core true) (Viewing c old)

-- where an update is that has stored so many words of its record
abbrev pub writing_stage : CoreState → Change → ℕ → ℕ → ℕ → Stage
writing_stage s c old at k = if k == record_size s then Exchanging c old at else StoringRecord c old at k

-- a scan that has stored so many words of its announcement
abbrev pub announcing_scan : CoreState → ℕ → ℕ → CoreState
announcing_scan s at k = if k == announcement_size (length s.asked) then begin_joining s at else at_stage s (StoringAnnouncement at k)

-- the machine whose getSet is under way, or over, and of which the caller keeps the stage
abbrev pub set_made : CoreState → Change → ℕ → CoreState
set_made s c old = after_getting (at_stage s (GettingSet c old)) c old

-- the call has reached the getSet of an update, which is under way or over
pub record HasReachedSet (s : CoreState) : Type 0 where
  pub change : Change
  pub old : ℕ
  pub made : s ≡ set_made s change old

-- from s the machine has reached t by steps of its getSet alone
abbrev pub GetsOn : CoreState → CoreState → Type 0
GetsOn s t = (c : Change) (old : ℕ) (u : CoreState) → s ≡ set_made u c old → t ≡ set_made (with_getting u (getting t)) c old

-- a machine made so has that getSet and what it has found
pub set_kept : (s : CoreState) (c : Change) (old : ℕ) → getting (set_made s c old) ≡ getting s
set_kept s c old = by_step (set_step s)
  where
    by_step : (o : Option Step) → getting (option_map_or (λ _. at_stage s (GettingSet c old)) o
        (at_stage (scan_begun s true) (if length s.found.indices == 0 then ClaimingRecord c old else Viewing c old))) ≡ getting s
    by_step (Some u) = refl
    by_step None = refl

-- by no step it stays where it is
pub gets_itself : (s : CoreState) → GetsOn s s
gets_itself s c old u is = is ∙ ap (λ p. set_made (with_getting u p) c old) (sym (ap getting is ∙ set_kept u c old))

-- steps follow on steps
pub gets_further : (s t v : CoreState) → GetsOn s t → GetsOn t v → GetsOn s v
gets_further s t v f g c old u is = g c old (with_getting u (getting t)) (f c old u is)

-- at that stage the embedded scan of an update is made
abbrev pub IsViewing : Stage → Type 0
IsViewing (Viewing c old) = ⊤
IsViewing _ = ⊥

-- the stage after that of an embedded scan
abbrev pub behind_scan : Stage → Stage
behind_scan (Viewing c old) = ClaimingRecord c old
behind_scan Scanning = Leaving
behind_scan t = t

-- the positions of the embedded scan that a stage makes, or that was made before it
abbrev pub positions_at : CoreState → Stage → List ℕ
positions_at s (Viewing c old) = s.found.indices
positions_at s (ClaimingRecord c old) = s.found.indices
positions_at s t = s.asked

-- the stage makes an embedded scan of which a step is due, or that scan is finished and the stage is the one after it
abbrev pub IsScanStage : CoreState → Stage → Type 0
IsScanStage s (Viewing c old) = IsSome (scan_step s s.found.indices)
IsScanStage s (ClaimingRecord c old) = scan_step s s.found.indices ≡ None
IsScanStage s Scanning = IsSome (scan_step s s.asked)
IsScanStage s Leaving = scan_step s s.asked ≡ None
IsScanStage s t = ⊥

-- from s the machine has reached t by loads of its embedded scan alone
pub record ScansOn (s t : CoreState) : Type 0 where
  pub rest : t ≡ at_stage (with_scanning s (scanning t)) t.stage
  pub stage : behind_scan t.stage ≡ behind_scan s.stage

-- by no step it stays where it is
pub scans_itself : (s : CoreState) → ScansOn s s
scans_itself s = record { rest = refl; stage = refl }

-- steps follow on steps
pub scans_further : (s t v : CoreState) → ScansOn s t → ScansOn t v → ScansOn s v
scans_further s t v f g = record {
  rest = g.rest ∙ ap (λ (u : CoreState). at_stage (with_scanning u (scanning v)) v.stage) f.rest;
  stage = g.stage ∙ f.stage;
}
