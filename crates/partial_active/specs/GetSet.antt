-- A getSet: it reads the list of vacated slots, walks the other slots for announcements, and publishes
-- the list with the slots that it found vacated.
use Rattle.std.specs.Prelude.{ℕ, ◌+◌, ◌-◌, ◌*◌, ◌==◌, Bool, true, false, not, ◌&&◌, Option, Some, None, nat_lt, min, [], ◌∷◌, ◌++◌, length, slice_index, if◌then◌else◌}
use Rattle.partial_intervals.specs.Intervals.{Ranges, lowest, highest}
use Rattle.partial_words.specs.declared.step.Step.{Step}
use Rattle.partial_words.specs.declared.step.Step.TheVariants.{Load, Store, Exchange, Add}
use Rattle.partial_words.specs.Layout.{Layout, slot_counter, list_head, list_counter, slot_word, list_end, greatest_list}
use Rattle.partial_words.specs.VacatedList.{list_block, list_size, intervals_word}
use Rattle.partial_words.specs.Record.{pairs_size, next_word}
use Rattle.partial_words.specs.Announcement.{announcement_size, indices_word}
use Rattle.partial_active.specs.declared.get_set.Stage.{Stage}
use Rattle.partial_active.specs.declared.get_set.Stage.TheVariants.{Head, ListLen, ListLow, ListHigh, Counter, Slot, Len, Index, Claim, Write, Publish, Done}
use Rattle.partial_active.specs.IndexSet.{with_index}
use Rattle.partial_active.specs.Found.{Buffers, begins_at, extended_list}

-- the sizes, whether the port is marked for lists, and of the walk: the list head as it was loaded,
-- the end of the slots, how many intervals lie after it, and whether it noted a slot
pub record GetSetState : Type 0 where
  pub sizes : Layout
  pub lists_spent : Bool
  pub head : ℕ
  pub end : ℕ
  pub passed : ℕ
  pub noted : Bool
  pub stage : Stage

-- a getSet that has made no step
abbrev pub fresh_set : Layout → Bool → GetSetState
fresh_set s spent = record { sizes = s; lists_spent = spent; head = 0; end = 0; passed = 0; noted = false; stage = Head }

-- a slot that is to be loaded is one of the slots, and a word that is to be written one of the list words
abbrev pub fits_stage : Layout → Stage → Bool
fits_stage s Head = true
fits_stage s (ListLen at) = true
fits_stage s (ListLow at left) = true
fits_stage s (ListHigh at left lo) = true
fits_stage s Counter = true
fits_stage s (Slot slot) = nat_lt slot s.slots
fits_stage s (Len slot at) = true
fits_stage s (Index slot at left) = true
fits_stage s (Claim words) = true
fits_stage s (Write at k words word) = nat_lt (at + k) (list_end s)
fits_stage s (Publish at) = true
fits_stage s Done = true

-- the machine and its buffers
abbrev pub SetPair : Type 0
SetPair = GetSetState × Buffers

-- how many words the block of the next list has
abbrev pub next_words : Buffers → ℕ
next_words f = list_size (length f.next)

-- the step that is due at a stage
abbrev pub set_step_at : Layout → ℕ → Stage → Option Step
set_step_at s head Head = Some (Load (list_head s))
set_step_at s head (ListLen at) = Some (Load at)
set_step_at s head (ListLow at left) = Some (Load at)
set_step_at s head (ListHigh at left lo) = Some (Load at)
set_step_at s head Counter = Some (Load (slot_counter s))
set_step_at s head (Slot slot) = Some (Load (slot_word s slot))
set_step_at s head (Len slot at) = Some (Load at)
set_step_at s head (Index slot at left) = Some (Load at)
set_step_at s head (Claim words) = Some (Add (list_counter s) words)
set_step_at s head (Write at k words word) = Some (Store (at + k) word)
set_step_at s head (Publish at) = Some (Exchange (list_head s) head at)
set_step_at s head Done = None

-- the step that is due
abbrev pub set_step_due : GetSetState → Option Step
set_step_due g = set_step_at g.sizes g.head g.stage

-- the walk is over: a list is published when a slot was noted and the port isn't marked for the list words
abbrev pub after_walk : SetPair → SetPair
after_walk p = (record p.0 { stage = if p.0.noted && not p.0.lists_spent then Claim (next_words p.1) else Done }, p.1)

-- the walk is at a slot that is in no interval of the list that was read
abbrev pub at_slot : SetPair → ℕ → SetPair
at_slot p slot = if nat_lt slot p.0.end then (record p.0 { stage = Slot slot }, p.1) else after_walk p

-- the interval of the list read that begins at the slot goes into the next list
abbrev pub pass_interval : SetPair → SetPair
pass_interval p =
    let next : Ranges = extended_list p.1.next (lowest p.1.read p.0.passed) (highest p.1.read p.0.passed) in
    (record p.0 { passed = p.0.passed + 1 }, record p.1 { next = next })

-- the walk reaches a slot, and skips an interval of the list that was read when one begins there
abbrev pub come_to : SetPair → ℕ → SetPair
come_to p slot = if begins_at p.1.read p.0.passed slot then at_slot (pass_interval p) (highest p.1.read p.0.passed + 1) else at_slot p slot

-- the slot is noted as newly vacated
abbrev pub note_slot : SetPair → ℕ → SetPair
note_slot p slot = (record p.0 { noted = true }, record p.1 { next = extended_list p.1.next slot slot })

-- the machine in another stage
abbrev pub in_stage : SetPair → Stage → SetPair
in_stage p stage = (record p.0 { stage = stage }, p.1)

-- the list head was loaded, and the buffers are emptied
abbrev pub after_head : SetPair → ℕ → SetPair
after_head p x = (record p.0 { head = x; stage = if x == 0 then Counter else ListLen x }, record p.1 { indices = []; read = []; next = [] })

-- the number of intervals was loaded
abbrev pub after_list_len : ℕ → ℕ → Stage
after_list_len at x = if x == 0 then Counter else ListLow (intervals_word at) x

-- the slot counter was loaded, and the walk begins
abbrev pub after_counter : SetPair → ℕ → SetPair
after_counter p x = come_to (record p.0 { end = min x p.0.sizes.slots; passed = 0 }, p.1) 0

-- the number of indices of an announcement was loaded
abbrev pub after_len : SetPair → ℕ → ℕ → ℕ → SetPair
after_len p slot at x = if x == 0 then come_to p (slot + 1) else in_stage p (Index slot (indices_word at) x)

-- one more interval of the list was read
abbrev pub after_interval : SetPair → ℕ → ℕ → ℕ → ℕ → SetPair
after_interval p at left lo x = (
  record p.0 { stage = if left == 1 then Counter else ListLow (next_word at) (left - 1) },
  record p.1 { read = p.1.read ++ (lo, x) ∷ [] },
)

-- one more index of the announcement was read
abbrev pub after_index : SetPair → ℕ → ℕ → ℕ → ℕ → SetPair
after_index p slot at left x =
    let q : SetPair = (p.0, record p.1 { indices = with_index p.1.indices x }) in
    if left == 1 then come_to q (slot + 1) else in_stage q (Index slot (next_word at) (left - 1))

-- a slot was loaded: EMPTY is skipped, VACATED is noted, and else there is an announcement
abbrev pub after_slot : SetPair → ℕ → ℕ → SetPair
after_slot p slot x =
    if x == 0 then come_to p (slot + 1) else (if x == 1 then come_to (note_slot p slot) (slot + 1) else in_stage p (Len slot x))

-- the claim of list words: past the end it marks the port and nothing more is done
abbrev pub after_claim : SetPair → ℕ → ℕ → SetPair
after_claim p words x =
    if nat_lt (list_end p.0.sizes) (x + words) then (record p.0 { lists_spent = true; stage = Done }, p.1)
    else in_stage p (Write x 0 words (length p.1.next))

-- one more word of the next list was written
abbrev pub after_write : SetPair → ℕ → ℕ → ℕ → SetPair
after_write p at k words =
    in_stage p (if k + 1 == words then Publish at else Write at (k + 1) words (slice_index (list_block p.1.next) (k + 1)))

-- what an answer makes of the machine and its buffers
abbrev pub advance_set_at : Stage → SetPair → ℕ → SetPair
advance_set_at Head p x = after_head p x
advance_set_at (ListLen at) p x = in_stage p (after_list_len at x)
advance_set_at (ListLow at left) p x = in_stage p (ListHigh (next_word at) left x)
advance_set_at (ListHigh at left lo) p x = after_interval p at left lo x
advance_set_at Counter p x = after_counter p x
advance_set_at (Slot slot) p x = after_slot p slot x
advance_set_at (Len slot at) p x = after_len p slot at x
advance_set_at (Index slot at left) p x = after_index p slot at left x
advance_set_at (Claim words) p x = after_claim p words x
advance_set_at (Write at k words word) p x = after_write p at k words
advance_set_at (Publish at) p x = in_stage p Done
advance_set_at Done p x = p

-- what the answer x makes of a getSet and of what it has found
abbrev pub advance_set : SetPair → ℕ → SetPair
advance_set p x = advance_set_at p.0.stage p x

-- the steps of a getSet at most
abbrev pub most_set_steps : Layout → ℕ
most_set_steps s = s.slots * (s.m + 3) + s.lists + 6

-- the steps that are left at most to publish a list
abbrev pub publish_left : Layout → ℕ
publish_left s = greatest_list s + 2

-- the steps that are left at most once the slots are walked from that one on
abbrev pub walk_left : Layout → ℕ → ℕ
walk_left s slot = (s.slots - slot) * (s.m + 2) + publish_left s

-- how many steps are left at most at a stage
abbrev pub set_left_at : Layout → Stage → ℕ
set_left_at s Head = most_set_steps s
set_left_at s (ListLen at) = list_end s - at + 1 + walk_left s 0
set_left_at s (ListLow at left) = pairs_size left + 1 + walk_left s 0
set_left_at s (ListHigh at left lo) = pairs_size left + walk_left s 0
set_left_at s Counter = 1 + walk_left s 0
set_left_at s (Slot slot) = walk_left s slot
set_left_at s (Len slot at) = announcement_size s.m + walk_left s (slot + 1)
set_left_at s (Index slot at left) = left + walk_left s (slot + 1)
set_left_at s (Claim words) = words + 2
set_left_at s (Write at k words word) = words - k + 1
set_left_at s (Publish at) = 1
set_left_at s Done = 0

-- how many steps are left at most
abbrev pub set_left : GetSetState → ℕ
set_left g = set_left_at g.sizes g.stage
