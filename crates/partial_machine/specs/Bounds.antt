-- How many steps a call makes at most.
use Rattle.std.specs.Prelude.{ℕ, ◌+◌, ◌-◌, [], length}
use Rattle.partial_model.specs.declared.call.Call.{Call}
use Rattle.partial_words.specs.Layout.{Layout, greatest_record}
use Rattle.partial_words.specs.Announcement.{announcement_size}
use Rattle.partial_active.specs.Join.{join_left}
use Rattle.partial_active.specs.GetSet as finding
use Rattle.partial_embedded.specs.Embedded as viewing
use Rattle.partial_machine.specs.declared.stage.Stage.{Stage}
use Rattle.partial_machine.specs.declared.stage.Stage.TheVariants.{Idle, ReadBegun, LoadingValue, UpdateBegun, GettingSet, Viewing, ClaimingRecord, StoringRecord, Exchanging, ScanBegun, StoringAnnouncement, Joining, Scanning, Leaving, Finished}
use Rattle.partial_machine.specs.Machine.{CoreState, scanning, record_size}

-- an update: the load of its component, a getSet, an embedded scan of all components at most, a claim, the stores, an exchange
abbrev pub most_of_update : Layout → ℕ
most_of_update z = finding.most_set_steps z + viewing.most_view_steps z z.m + greatest_record z + 3

-- a call; a scan of no position makes none
abbrev pub most_steps : Layout → Call → ℕ
most_steps z (Call.Update j v) = most_of_update z
most_steps z (Call.Scan []) = 0
most_steps z (Call.Scan js) = viewing.most_view_steps z (length js) + length js + 5
most_steps z (Call.Read j) = 2
most_steps z (Call.UpdateIf j x v) = most_of_update z

-- the steps of an update after its getSet and its embedded scan at most: a claim, the stores, an exchange
abbrev pub write_left : Layout → ℕ
write_left z = greatest_record z + 2

-- how many steps a call makes at most from a stage on
abbrev pub left_at : CoreState → Stage → ℕ
left_at s Idle = 0
left_at s (ReadBegun j) = 2
left_at s (LoadingValue stamp) = 1
left_at s (UpdateBegun c) = 1 + finding.most_set_steps s.sizes + viewing.most_view_steps s.sizes s.sizes.m + write_left s.sizes
left_at s (GettingSet c old) = finding.set_left s.get_set + viewing.most_view_steps s.sizes s.sizes.m + write_left s.sizes
left_at s (Viewing c old) = viewing.view_left s.found.indices (scanning s) + write_left s.sizes
left_at s (ClaimingRecord c old) = record_size s + 2
left_at s (StoringRecord c old at k) = record_size s - k + 1
left_at s (Exchanging c old at) = 1
left_at s ScanBegun = length s.asked + 5 + viewing.most_view_steps s.sizes (length s.asked)
left_at s (StoringAnnouncement at k) = announcement_size (length s.asked) - k + 3 + viewing.most_view_steps s.sizes (length s.asked)
left_at s Joining = join_left s.join.stage + viewing.most_view_steps s.sizes (length s.asked) + 1
left_at s Scanning = viewing.view_left s.asked (scanning s) + 1
left_at s Leaving = 1
left_at s (Finished r) = 0

-- how many steps of the call are left at most
abbrev pub steps_left : CoreState → ℕ
steps_left s = left_at s s.stage
