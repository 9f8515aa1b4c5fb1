-- What a load in the arena where a port stands shows it.
use Rattle.std.specs.Prelude.{⊤, ℕ, ◌≡◌, ◌+◌, ◌-◌, ◌<◌, ◌≤◌, ◌==◌, ◌&&◌, ◌++◌, nat_lt, Bool, not, List, [], ◌∷◌, length, take, Option, Some, if◌then◌else◌}
use Rattle.partial_table.specs.Table.{Me}
use Rattle.partial_model.specs.declared.history.Applied.{Applied}
use Rattle.partial_model.specs.declared.history.Opening.{Opening}
use Rattle.partial_model.specs.declared.call.Call.{Call}
use Rattle.partial_model.specs.declared.call.Answer.{Answer}
use Rattle.partial_model.specs.declared.call.Note.{Note}
use Rattle.partial_model.specs.History.{stamp_of, value_of}
use Rattle.partial_model.specs.Notes.{Noted}
use Rattle.partial_words.specs.Layout.{total}
use Rattle.partial_words.specs.Record.{value_word}
use Rattle.partial_epochs.specs.Layout.{base, carried_word, seal, unsealed}
use Rattle.partial_epochs.specs.History.{stamp_after, history_of, opened_after}
use Rattle.partial_epochs.specs.Notes.{having_seen, public_of}
use Rattle.partial_long_lived.specs.Rule.{Began, Found, Contention, SeatedPort, one_of, plan_of}
use Rattle.partial_long_lived.specs.Inner.Steps.{BeginsWith, tells}
use Rattle.partial_long_lived.specs.Inner.Moves.{BeganBy}

-- what a port wants of a component word: its record, to answer a read, to compare its stamp with the one that a conditional update with this
-- value expects, or what the next epoch begins with
pub data Wish : Type 0 where
  Glances : Wish
  Reads : Wish
  Expects : ℕ → ℕ → Wish
  Finds : Wish

-- it is what the next epoch begins with, of a component that has to be sealed
abbrev pub IsFinding : Wish → Type 0
IsFinding Finds = ⊤
IsFinding _ = ⊥

-- the opening of the port's epoch
abbrev pub opening_of : SeatedPort → Opening
opening_of x = opened_after x.about.opening x.port.before

-- the value of component j after that history of the port's epoch
abbrev pub value_seen : SeatedPort → List Applied → ℕ → ℕ
value_seen x log j = value_of (opening_of x) log j

-- and its public stamp
abbrev pub stamp_seen : SeatedPort → List Applied → ℕ → ℕ
stamp_seen x log j = public_of (plan_of x.about) x.port.before j (stamp_of (opening_of x) log j)

-- the place after that history
abbrev pub place_seen : SeatedPort → List Applied → ℕ
place_seen x log = length (history_of (log ∷ x.port.before))

-- what the port notes where its wish is answered
abbrev pub noted_by : Wish → SeatedPort → List Applied → ℕ → List Noted
noted_by Reads x log j =
    record {
      call = Call.Read j;
      answer = Answer.Read (value_seen x log j) (stamp_seen x log j);
      note = Some (Note.Saw (place_seen x log));
    } ∷ []
noted_by (Expects expected v) x log j =
    if stamp_seen x log j == expected then []
    else record {
      call = Call.UpdateIf j expected v;
      answer = Answer.Changed (stamp_seen x log j);
      note = Some (Note.Saw (place_seen x log));
    } ∷ []
noted_by _ x log j = []

-- what the port has found then
abbrev pub found_by : Wish → SeatedPort → List Applied → ℕ → Option Found
found_by Finds x log j = Some (record { component = j; value = value_seen x log j; stamp = stamp_seen x log j })
found_by _ x log j = x.found

-- what the port has met then: a seal on a component that it was to update
abbrev pub contention_by : Wish → ℕ → Contention → Contention
contention_by (Expects expected v) a m = if nat_lt a seal then m else record m { seals = m.seals + 1 }
contention_by _ a m = m

-- A load of the word of component j, by which the port sees its epoch's whole history. The first load of a call answers nothing where the
-- component is sealed, since the epoch may have passed before the call began.
pub record SeatSees (first : Bool) (wish : Wish) (j : ℕ) (x : SeatedPort) (a : ℕ) (y : SeatedPort) : Type 0 where
  pub n : Began
  pub began : BeganBy first x n
  pub log : List Applied
  -- what the port had seen begins that history
  pub begins : BeginsWith x.port.part.seen log
  pub is : y ≡ record x {
    port = having_seen x.port log;
    began = n;
    notes = x.notes ++ (if first && not (nat_lt a seal) then [] else noted_by wish x log j);
    found = found_by wish x log j;
    contention = contention_by wish a x.contention;
  }
  -- the word names the component's last record, which lies in the arena
  pub stamp : unsealed a ≡ stamp_of (opening_of x) log j
  pub within : value_word (unsealed a) < total x.about.sizes
  -- in the one history the component has the public stamp of that record
  pub public : stamp_of x.about.opening (history_of (log ∷ x.port.before)) j ≡ stamp_seen x log j
  -- a component that isn't sealed is one of the current epoch
  pub present : a < seal → n.epoch ≤ x.port.control.here.epoch
  -- what the port sees in an epoch that is no older than its call is no older either
  pub time : n.epoch ≤ x.port.control.here.epoch → n.length ≤ place_seen x log

-- A load of word i of the table shows what the port has seen: the value of a record, or a carried stamp.
pub record Recalls (i : ℕ) (x : SeatedPort) (a : ℕ) (y : SeatedPort) : Type 0 where
  pub same : y ≡ x
  pub value : (j n : ℕ) → j < x.about.sizes.m → n ≤ length x.port.part.seen →
      i ≡ base (plan_of x.about) x.port.control.here.arena + value_word (stamp_of (opening_of x) (take n x.port.part.seen) j) →
      a ≡ value_of (opening_of x) (take n x.port.part.seen) j
  pub carried : (j : ℕ) → j < x.about.sizes.m → i ≡ carried_word (plan_of x.about) x.port.control.here.arena j →
      a ≡ stamp_after x.about.opening x.port.before j

-- the component of that word of the table, where the seat's port stands
abbrev pub component_at : SeatedPort → ℕ → ℕ
component_at x i = i - base (plan_of x.about) x.port.control.here.arena

-- a load of that word of the table
abbrev pub sees : {S : Type 0} → Bool → Wish → ℕ → Me S (List SeatedPort) → ℕ → Me S (List SeatedPort) → Type 0
sees first wish i me = tells (SeatSees first wish (component_at (one_of me.0) i)) me
