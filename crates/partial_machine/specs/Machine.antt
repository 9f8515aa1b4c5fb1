-- A port's machine: the step that is due, what an answer makes of it, and the reply.
use Rattle.std.specs.Prelude.{ℕ, ◌+◌, ◌-◌, ◌/◌, ◌==◌, Bool, true, false, List, [], length, map, slice_index, nat_lt, Option, Some, None, replicate, if◌then◌else◌}
use Rattle.std.specs.Option.{option_map_or}
use Rattle.partial_model.specs.declared.call.Refused.{Refused}
use Rattle.partial_words.specs.declared.block.Block.{Block}
use Rattle.partial_words.specs.declared.step.Step.{Step}
use Rattle.partial_words.specs.declared.step.Step.TheVariants.{Load, Store, Exchange, Add}
use Rattle.partial_words.specs.Layout.{Layout, component_word, pool_counter, pool_end, no_spare}
use Rattle.partial_words.specs.Record.{record_block, plain_record_size, full_record_size, value_word, own_view}
use Rattle.partial_words.specs.Announcement.{announcement_block, announcement_size}
use Rattle.partial_active.specs.Found.{Buffers}
use Rattle.partial_active.specs.Join.{JoinState, step_of_join, advance_join}
use Rattle.partial_active.specs.declared.join.JoinStage.{JoinStage}
use Rattle.partial_active.specs.declared.join.JoinStage.TheVariants.{Claiming, Storing, Joined, Spent}
use Rattle.partial_active.specs.Leave.{LeaveState, step_of_leave, advance_leave}
use Rattle.partial_active.specs.GetSet as finding
use Rattle.partial_embedded.specs.Embedded as viewing
use Rattle.partial_machine.specs.declared.stage.Change.{Change}
use Rattle.partial_machine.specs.declared.stage.Reply.{Reply}
use Rattle.partial_machine.specs.declared.stage.Stage.{Stage}
use Rattle.partial_machine.specs.declared.stage.Stage.TheVariants.{Idle, ReadBegun, LoadingValue, UpdateBegun, GettingSet, Viewing, ClaimingRecord, StoringRecord, Exchanging, ScanBegun, StoringAnnouncement, Joining, Scanning, Leaving, Finished}

-- A port's machine: its marks for the pool and the slots (that for the list words is its getSet's), how many words more
-- than those of its record an update claims, the spare words that earlier claims left, the positions of its scan, the
-- machines of the active set and of an embedded scan with their buffers, and where it is in its call.
pub record CoreState : Type 0 where
  pub sizes : Layout
  pub port : ℕ
  pub pool_spent : Bool
  pub slots_spent : Bool
  pub ahead : ℕ
  pub spare : Block
  pub asked : List ℕ
  pub join : JoinState
  pub leave : LeaveState
  pub get_set : finding.GetSetState
  pub found : Buffers
  pub embedded : viewing.EmbeddedState
  pub rows : viewing.RowsState
  pub stage : Stage

-- whether the port is marked for the list words
abbrev pub lists_spent : CoreState → Bool
lists_spent s = s.get_set.lists_spent

-- buffers in which nothing was found
abbrev pub no_indices : Layout → Buffers
no_indices z = record { limit = z.m; room = (z.slots + 1) / 2 + 1; indices = []; read = []; next = [] }

-- the rows of a scan before its first collect
abbrev pub no_rows : Layout → viewing.RowsState
no_rows z = record { last = replicate z.m 0; changed = replicate z.m false; values = replicate z.m 0 }

-- a port that has made no call
abbrev pub fresh : Layout → ℕ → CoreState
fresh z port = record {
  sizes = z;
  port = port;
  pool_spent = false;
  slots_spent = false;
  ahead = 0;
  spare = no_spare z;
  asked = [];
  join = record { sizes = z; announcement = 0; stage = Claiming };
  leave = record { sizes = z; slot = 0; left = false };
  get_set = finding.fresh_set z false;
  found = no_indices z;
  embedded = viewing.fresh_view z false;
  rows = no_rows z;
  stage = Idle;
}

-- the machine at another stage
abbrev pub at_stage : CoreState → Stage → CoreState
at_stage s stage = record s { stage = stage }

-- the getSet with what it has found
abbrev pub getting : CoreState → finding.SetPair
getting s = (s.get_set, s.found)

-- the embedded scan with its rows
abbrev pub scanning : CoreState → viewing.ViewPair
scanning s = (s.embedded, s.rows)

-- the machine with this getSet and what it has found
abbrev pub with_getting : CoreState → finding.SetPair → CoreState
with_getting s p = record s { get_set = p.0; found = p.1 }

-- the machine with this embedded scan and its rows
abbrev pub with_scanning : CoreState → viewing.ViewPair → CoreState
with_scanning s p = record s { embedded = p.0; rows = p.1 }

-- The view of the record that an update writes: its own pairs are those of the indices found with the
-- values loaded, and none when a view is borrowed.
abbrev pub own_pairs : CoreState → List (ℕ × ℕ)
own_pairs s = option_map_or (λ _. []) s.embedded.borrowed (map (λ j. (j, slice_index s.rows.values j)) s.found.indices)

-- The reference of that view for a record at `at`: the borrowed one, none, or the words after the record.
abbrev pub view_at : CoreState → ℕ → ℕ
view_at s at = option_map_or (λ _. s.embedded.view) s.embedded.borrowed (if length s.found.indices == 0 then 0 else own_view at)

-- the words of the record that an update writes at `at`
abbrev pub record_words : CoreState → Change → ℕ → ℕ → List ℕ
record_words s c old at = record_block old c.value (view_at s at) (own_pairs s)

-- how many they are
abbrev pub record_size : CoreState → ℕ
record_size s = option_map_or (λ _. plain_record_size) s.embedded.borrowed
    (if length s.found.indices == 0 then plain_record_size else full_record_size (length s.found.indices))

-- whether the spare words have room for the record
abbrev pub has_spare : CoreState → Bool
has_spare s = nat_lt (record_size s) (s.spare.size + 1)

-- how many words a claim for the record takes: its own, and those ahead
abbrev pub claim_size : CoreState → ℕ
claim_size s = record_size s + s.ahead

-- The step that is due where the record needs words: the first store in spare words that have room for it, and else a claim.
abbrev pub record_step : CoreState → ℕ → Step
record_step s old = if has_spare s then Store s.spare.at old else Add (pool_counter s.sizes) (claim_size s)

-- the step that is due at a stage
abbrev pub step_at : CoreState → Stage → Option Step
step_at s Idle = None
step_at s (ReadBegun j) = Some (Load (component_word s.sizes j))
step_at s (LoadingValue stamp) = Some (Load (value_word stamp))
step_at s (UpdateBegun c) = Some (Load (component_word s.sizes c.component))
step_at s (GettingSet c old) = finding.set_step_due s.get_set
step_at s (Viewing c old) = viewing.view_step_due s.found.indices (scanning s)
step_at s (ClaimingRecord c old) = Some (record_step s old)
step_at s (StoringRecord c old at k) = Some (Store (at + k) (slice_index (record_words s c old at) k))
step_at s (Exchanging c old at) = Some (Exchange (component_word s.sizes c.component) old at)
step_at s ScanBegun = Some (Add (pool_counter s.sizes) (announcement_size (length s.asked)))
step_at s (StoringAnnouncement at k) = Some (Store (at + k) (slice_index (announcement_block s.asked) k))
step_at s Joining = step_of_join s.join
step_at s Scanning = viewing.view_step_due s.asked (scanning s)
step_at s Leaving = step_of_leave s.leave
step_at s (Finished r) = None

-- the step that is due
abbrev pub step_of : CoreState → Option Step
step_of s = step_at s s.stage

-- the update may go on when the component has this stamp
abbrev pub expects : Change → ℕ → Bool
expects c stamp = option_map_or (λ e. e == stamp) c.expected true

-- the reply to an update whose component has another stamp
abbrev pub overtaken_reply : Change → ℕ → Reply
overtaken_reply c by = option_map_or (λ _. Reply.Changed by) c.expected (Reply.Lost by)

-- a claim of so many words at `at` is within the pool
abbrev pub fits_pool : Layout → ℕ → ℕ → Bool
fits_pool z size at = nat_lt (at + size) (pool_end z + 1)

-- the port is marked for the pool, and the call is refused
abbrev pub pool_refused : CoreState → CoreState
pool_refused s = record s { pool_spent = true; stage = Finished (Reply.Refused Refused.PoolSpent) }

-- the port is marked for the slots, and the scan is refused
abbrev pub slots_refused : CoreState → CoreState
slots_refused s = record s { slots_spent = true; stage = Finished (Reply.Refused Refused.SlotsSpent) }

-- the machine with these spare words
abbrev pub with_spare : CoreState → ℕ → ℕ → CoreState
with_spare s at size = record s { spare = record { at = at; size = size } }

-- the first word of the record is stored in the spare words, which are shorter by the record then
abbrev pub into_spare : CoreState → Change → ℕ → CoreState
into_spare s c old =
    at_stage (with_spare s (s.spare.at + record_size s) (s.spare.size - record_size s)) (StoringRecord c old s.spare.at 1)

-- the words at x are claimed: the record stands first in them, and the others are the spare words
abbrev pub into_claim : CoreState → Change → ℕ → ℕ → CoreState
into_claim s c old x = at_stage (with_spare s (x + record_size s) s.ahead) (StoringRecord c old x 0)

-- a getSet begins
abbrev pub begin_getting : CoreState → Change → ℕ → CoreState
begin_getting s c old = record s { get_set = finding.fresh_set s.sizes s.get_set.lists_spent; stage = GettingSet c old }

-- the getSet goes on, or it is finished and what it found is scanned, if it found anything
abbrev pub after_getting : CoreState → Change → ℕ → CoreState
after_getting s c old = option_map_or (λ _. s) (finding.set_step_due s.get_set)
    (record s {
      embedded = viewing.fresh_view s.sizes true;
      stage = if length s.found.indices == 0 then ClaimingRecord c old else Viewing c old;
    })

-- the embedded scan goes on, or it is finished and the machine reaches the next stage
abbrev pub after_scanning : CoreState → List ℕ → Stage → CoreState
after_scanning s indices next = option_map_or (λ _. s) (viewing.view_step_due indices (scanning s)) (at_stage s next)

-- the announcement is written, and the join begins
abbrev pub begin_joining : CoreState → ℕ → CoreState
begin_joining s at = record s { join = record { sizes = s.sizes; announcement = at; stage = Claiming }; stage = Joining }

-- the join goes on; when the announcement stands in its slot, the embedded scan begins
abbrev pub after_joining : CoreState → JoinStage → CoreState
after_joining s Claiming = s
after_joining s (Storing slot) = s
after_joining s (Joined slot) = record s {
  embedded = viewing.fresh_view s.sizes false;
  leave = record { sizes = s.sizes; slot = slot; left = false };
  stage = Scanning;
}
after_joining s Spent = slots_refused s

-- the reply of a scan that is finished
abbrev pub scanned_reply : CoreState → Reply
scanned_reply s = Reply.Scanned s.embedded.collects s.embedded.borrowed

-- what an answer makes of the machine at a stage
abbrev pub advance_at : CoreState → Stage → ℕ → CoreState
advance_at s Idle x = s
advance_at s (ReadBegun j) x = at_stage s (LoadingValue x)
advance_at s (LoadingValue stamp) x = at_stage s (Finished (Reply.Read x stamp))
advance_at s (UpdateBegun c) x = if expects c x then begin_getting s c x else at_stage s (Finished (Reply.Changed x))
advance_at s (GettingSet c old) x = after_getting (with_getting s (finding.advance_set (getting s) x)) c old
advance_at s (Viewing c old) x = after_scanning (with_scanning s (viewing.advance_view s.found.indices (scanning s) x))
    s.found.indices (ClaimingRecord c old)
advance_at s (ClaimingRecord c old) x = if has_spare s then into_spare s c old
    else (if fits_pool s.sizes (claim_size s) x then into_claim s c old x else pool_refused s)
advance_at s (StoringRecord c old at k) x = at_stage s
    (if k + 1 == record_size s then Exchanging c old at else StoringRecord c old at (k + 1))
advance_at s (Exchanging c old at) x = at_stage s (Finished (if x == old then Reply.Applied at else overtaken_reply c x))
advance_at s ScanBegun x = if fits_pool s.sizes (announcement_size (length s.asked)) x then at_stage s
    (StoringAnnouncement x 0) else pool_refused s
advance_at s (StoringAnnouncement at k) x = if k == length s.asked then begin_joining s at else at_stage s (StoringAnnouncement at (k + 1))
advance_at s Joining x = let j = advance_join s.join x in after_joining (record s { join = j }) j.stage
advance_at s Scanning x = after_scanning (with_scanning s (viewing.advance_view s.asked (scanning s) x)) s.asked Leaving
advance_at s Leaving x = record s { leave = advance_leave s.leave; stage = Finished (scanned_reply s) }
advance_at s (Finished r) x = s

-- what the answer x makes of the machine
abbrev pub advance : CoreState → ℕ → CoreState
advance s x = advance_at s s.stage x

-- the reply of a finished call
abbrev pub reply_at : Stage → Option Reply
reply_at (Finished r) = Some r
reply_at _ = None

-- the reply of a call that has ended and isn't taken
abbrev pub reply_of : CoreState → Option Reply
reply_of s = reply_at s.stage

-- the values of the last scan that was answered, in the order of its positions
abbrev pub scanned_values : CoreState → List ℕ
scanned_values s = map (slice_index s.rows.values) s.asked
