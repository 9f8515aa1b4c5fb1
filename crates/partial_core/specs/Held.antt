-- What a port holds in the words, read off its machine.
use Rattle.std.specs.Prelude.{ℕ, Bool, true, false, List, [], ◌∷◌, length, map, Option, Some, None, if◌then◌else◌}
use Rattle.partial_words.specs.Announcement.{announcement_block, announcement_size}
use Rattle.partial_words.specs.VacatedList.{list_block}
use Rattle.partial_active.specs.declared.get_set.Stage.{Stage as SetStage}
use Rattle.partial_active.specs.declared.get_set.Stage.TheVariants.{Write, Publish}
use Rattle.partial_active.specs.declared.join.JoinStage.{JoinStage}
use Rattle.partial_active.specs.declared.join.JoinStage.TheVariants.{Storing}
use Rattle.partial_intervals.specs.Intervals.{Ranges}
use Rattle.partial_machine.specs.declared.stage.Stage.{Stage}
use Rattle.partial_machine.specs.declared.stage.Stage.TheVariants.{GettingSet, StoringRecord, Exchanging, StoringAnnouncement, Joining, Scanning, Leaving}
use Rattle.partial_machine.specs.Machine.{CoreState, advance, lists_spent, record_words}
use Rattle.partial_state.specs.Holdings.{ClaimedSlot, Own, Due, Holding}
use Rattle.partial_state.specs.Holdings.Space.{Pool, Lists}
use Rattle.partial_state.specs.Loads.{KeptAnswer}
use Rattle.partial_core.specs.Part.{Part, core_of}

-- the step that is due stores the announcement in its slot
abbrev pub is_storing : JoinStage → Bool
is_storing (Storing slot) = true
is_storing _ = false

-- whether a machine at this stage is about to store its announcement in its slot
abbrev pub joins_at : CoreState → Stage → Bool
joins_at s Joining = is_storing s.join.stage
joins_at s _ = false

-- how long the history was when the port joined in this call, if it did
abbrev pub joined_from : ℕ → CoreState → List KeptAnswer → ℕ
joined_from since s [] = since
joined_from since s (k ∷ ks) = joined_from (if joins_at s s.stage then k.at else since) (advance s k.answer) ks

-- the length of the history as the port joined
abbrev pub joined_since : Part → ℕ
joined_since x = joined_from 0 x.begun x.kept

-- the slot that a join has claimed
abbrev pub slot_claimed : JoinStage → Option ClaimedSlot
slot_claimed (Storing slot) = Some (record { slot = slot; joined = None })
slot_claimed _ = None

-- the slot that a scan has claimed, and its announcement once it has joined
abbrev pub scan_claimed : CoreState → ℕ → Option ClaimedSlot
scan_claimed s since = Some (record {
  slot = s.leave.slot;
  joined = Some (record { at = s.join.announcement; indices = s.asked; since = since });
})

-- the slot that a machine at this stage has claimed, with what stands there
abbrev pub claimed_at : CoreState → Stage → ℕ → Option ClaimedSlot
claimed_at s Joining since = slot_claimed s.join.stage
claimed_at s Scanning since = scan_claimed s since
claimed_at s Leaving since = scan_claimed s since
claimed_at s _ since = None

-- the list that a getSet writes
abbrev pub own_list : Ranges → SetStage → Option Own
own_list next (Write at k count word) = Some (record { space = Lists; at = at; words = list_block next; stored = k })
own_list next (Publish at) = Some (record { space = Lists; at = at; words = list_block next; stored = length (list_block next) })
own_list next _ = None

-- the block that a port writes and that isn't published yet
abbrev pub own_at : CoreState → Stage → Option Own
own_at s (GettingSet c old) = own_list s.found.next s.get_set.stage
own_at s (StoringRecord c old at k) = Some (record { space = Pool; at = at; words = record_words s c old at; stored = k })
own_at s (Exchanging c old at) = Some (record {
  space = Pool;
  at = at;
  words = record_words s c old at;
  stored = length (record_words s c old at);
})
own_at s (StoringAnnouncement at k) = Some (record { space = Pool; at = at; words = announcement_block s.asked; stored = k })
own_at s Joining = Some (record {
  space = Pool;
  at = s.join.announcement;
  words = announcement_block s.asked;
  stored = announcement_size (length s.asked);
})
own_at s _ = None

-- the exchange of a component that is due
abbrev pub due_at : Stage → Option Due
due_at (Exchanging c old at) = Some (record { component = c.component; old = old; value = c.value; at = at })
due_at _ = None

-- what a machine holds in the words, when its port joined at that length of the history
abbrev pub holding_at : CoreState → ℕ → Holding
holding_at s since = record {
  port = s.port;
  claimed = claimed_at s s.stage since;
  own = own_at s s.stage;
  due = due_at s.stage;
  spare = s.spare;
  pool_spent = s.pool_spent;
  slots_spent = s.slots_spent;
  lists_spent = lists_spent s;
}

-- what a port holds, read off its machine
abbrev pub holding_of : Part → Holding
holding_of x = holding_at (core_of x) (joined_since x)

-- what all ports hold
abbrev pub holdings : List Part → List Holding
holdings xs = map holding_of xs
