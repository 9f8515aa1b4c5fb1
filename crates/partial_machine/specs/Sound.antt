-- What is known of every port's machine, whatever was answered.
use Rattle.std.specs.Prelude.{ℕ, ◌≡◌, ◌+◌, ◌<◌, ◌≤◌, ⊤, false, List, length, slice_index, IsSome, IsTrue, nat_eq}
use Rattle.std.specs.List.{IsDistinct}
use Rattle.partial_words.specs.Layout.{Layout, IsLayout, pool_base, pool_end, most_ahead, most_ports}
use Rattle.partial_words.specs.Record.{own_view}
use Rattle.partial_words.specs.Announcement.{announcement_size}
use Rattle.partial_active.specs.Found.{AreFoundFor as AreBuffersFor}
use Rattle.partial_active.specs.Join.{fits_join, step_of_join}
use Rattle.partial_active.specs.GetSet as finding
use Rattle.partial_active.specs.GetSetAnswers as finding_answers
use Rattle.partial_embedded.specs.Embedded as viewing
use Rattle.partial_machine.specs.declared.stage.Change.{Change}
use Rattle.partial_machine.specs.declared.stage.Stage.{Stage}
use Rattle.partial_machine.specs.declared.stage.Stage.TheVariants.{Idle, ReadBegun, LoadingValue, UpdateBegun, GettingSet, Viewing, ClaimingRecord, StoringRecord, Exchanging, ScanBegun, StoringAnnouncement, Joining, Scanning, Leaving, Finished}
use Rattle.partial_machine.specs.Machine.{CoreState, getting, scanning, record_size}

-- the words of a record that begins at `at` are pool words
abbrev pub IsRecord : Layout → ℕ → Type 0
IsRecord z at = (pool_base z ≤ at) × (own_view at ≤ pool_end z)

-- the indices name components, and there are at most m
pub record AreComponentIndices (z : Layout) (indices : List ℕ) : Type 0 where
  pub few : length indices ≤ z.m
  pub each : (k : ℕ) → k < length indices → slice_index indices k < z.m

-- what an update has loaded and found: its component is there, `old` is a record
abbrev pub IsUpdating : CoreState → Change → ℕ → Type 0
IsUpdating s c old = (c.component < s.sizes.m) × IsRecord s.sizes old × (s.pool_spent ≡ false)

-- a block of so many words at `at` is within the pool
abbrev pub IsInPool : Layout → ℕ → ℕ → Type 0
IsInPool z at size = (pool_base z ≤ at) × (at + size ≤ pool_end z)

-- the scan's slot is one of the slots, and isn't left yet
abbrev pub IsLeaving : CoreState → Type 0
IsLeaving s = (s.leave.sizes ≡ s.sizes) × (s.leave.slot < s.sizes.slots) × (s.leave.left ≡ false)

-- what is known of a stage, whatever was answered
abbrev pub is_sound_at : CoreState → Stage → Type 0
is_sound_at s Idle = ⊤
is_sound_at s (ReadBegun j) = j < s.sizes.m
is_sound_at s (LoadingValue stamp) = IsRecord s.sizes stamp
is_sound_at s (UpdateBegun c) = (c.component < s.sizes.m) × (s.pool_spent ≡ false)
is_sound_at s (GettingSet c old) = IsUpdating s c old × finding_answers.SetGoesTogether (getting s) × (s.get_set.sizes ≡ s.sizes) ×
    IsSome (finding.set_step_due s.get_set)
is_sound_at s (Viewing c old) = IsUpdating s c old × viewing.ViewGoesTogether s.found.indices (scanning s) × (s.embedded.sizes ≡ s.sizes) ×
    IsSome (viewing.view_step_due s.found.indices (scanning s))
is_sound_at s (ClaimingRecord c old) = IsUpdating s c old
is_sound_at s (StoringRecord c old at k) = IsUpdating s c old × IsInPool s.sizes at (record_size s) × (k < record_size s)
is_sound_at s (Exchanging c old at) = IsUpdating s c old × IsInPool s.sizes at (record_size s)
is_sound_at s ScanBegun = (0 < length s.asked) × (s.pool_spent ≡ false) × (s.slots_spent ≡ false)
is_sound_at s (StoringAnnouncement at k) = (0 < length s.asked) × (s.slots_spent ≡ false) ×
    IsInPool s.sizes at (announcement_size (length s.asked)) × (k < announcement_size (length s.asked))
is_sound_at s Joining = (0 < length s.asked) × (s.slots_spent ≡ false) × (s.join.sizes ≡ s.sizes) × IsInPool s.sizes s.join.announcement
    (announcement_size (length s.asked)) × IsSome (step_of_join s.join) × IsTrue (fits_join s.join.sizes s.join.stage)
is_sound_at s Scanning = viewing.ViewGoesTogether s.asked (scanning s) × (s.embedded.sizes ≡ s.sizes) ×
    IsSome (viewing.view_step_due s.asked (scanning s)) × IsLeaving s
is_sound_at s Leaving = IsLeaving s
is_sound_at s (Finished r) = ⊤

-- what is always known of a port's machine
pub record IsSound (s : CoreState) : Type 0 where
  pub asked : AreComponentIndices s.sizes s.asked
  pub found : AreBuffersFor s.sizes s.found
  pub indices : AreComponentIndices s.sizes s.found.indices
  pub distinct : IsDistinct nat_eq s.found.indices
  pub rows : viewing.AreRowsFor s.sizes s.rows
  pub ahead : s.ahead ≤ most_ahead
  pub spare : IsInPool s.sizes s.spare.at s.spare.size
  pub stage : is_sound_at s s.stage

-- what holds of every port's machine, whose room for positions is given
pub record IsMachine (s : CoreState) (room : ℕ) : Type 0 where
  pub sizes : IsLayout s.sizes
  pub port : s.port < most_ports
  pub sound : IsSound s
  pub enough : s.sizes.m ≤ room
