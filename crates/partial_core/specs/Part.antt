-- What is known of a port: what it has seen and noted, and the answers of its last call that made a step.
use Rattle.std.specs.Prelude.{ℕ, zero, suc, ◌≡◌, ◌+◌, ◌⊎◌, Bool, true, false, List, [], ◌∷◌, ◌++◌, map}
use Rattle.partial_model.specs.declared.history.Applied.{Applied}
use Rattle.partial_model.specs.Notes.{Noted}
use Rattle.partial_words.specs.Layout.{Layout}
use Rattle.partial_machine.specs.declared.stage.Stage.{Stage}
use Rattle.partial_machine.specs.declared.stage.Stage.TheVariants.{Idle, ReadBegun, UpdateBegun, ScanBegun}
use Rattle.partial_machine.specs.Machine.{CoreState, advance, fresh, lists_spent}
use Rattle.partial_machine.specs.Calls.{is_begun, is_at_rest}
use Rattle.partial_machine.specs.Sound.{IsSound}
pub use Rattle.partial_state.specs.Loads.{KeptAnswer}

-- A port's part of the state. `since` and `past` are of the time at which its last call that made a step began.
pub record Part : Type 0 where
  -- the beginning of the history that it has seen
  pub seen : List Applied
  -- the notes of its finished calls, in their order
  pub notes : List Noted
  -- the machine as that call began, and the answers of the call
  pub begun : CoreState
  pub kept : List KeptAnswer
  -- how many entries it had seen, and how many notes it had, as that call began
  pub since : ℕ
  pub past : ℕ

-- A memory as one of its ports stands in it: the words, the port's part between those of the other ports, and the history.
pub record PartAmong : Type 0 where
  pub words : List ℕ
  pub before : List Part
  pub part : Part
  pub after : List Part
  pub log : List Applied

-- the parts of all ports
abbrev pub all_parts : PartAmong → List Part
all_parts m = m.before ++ m.part ∷ m.after

-- the machine after these answers
abbrev pub led_by : CoreState → List KeptAnswer → CoreState
led_by s [] = s
led_by s (k ∷ ks) = led_by (advance s k.answer) ks

-- a port's machine
abbrev pub core_of : Part → CoreState
core_of x = led_by x.begun x.kept

-- the number of the port
abbrev pub port_of : Part → ℕ
port_of x = x.begun.port

-- the answers alone
abbrev pub answers_of : List KeptAnswer → List ℕ
answers_of ks = map (λ k. k.answer) ks

-- a machine that has made no step since a call began, or since it was made
abbrev pub has_no_step : Stage → Bool
has_no_step Idle = true
has_no_step (ReadBegun j) = true
has_no_step (UpdateBegun c) = true
has_no_step ScanBegun = true
has_no_step _ = false

-- how long the history was at the first of the answers
abbrev pub first_at : List KeptAnswer → ℕ
first_at [] = 0
first_at (k ∷ ks) = k.at

-- The machine c has the sizes, the number, the marks and the spare words of the machine s. Nothing else of a machine at rest is asked for again: each call
-- sets anew what it uses.
pub record IsMarkedLike (s c : CoreState) : Type 0 where
  pub sizes : c.sizes ≡ s.sizes
  pub port : c.port ≡ s.port
  pub pool : c.pool_spent ≡ s.pool_spent
  pub slots : c.slots_spent ≡ s.slots_spent
  pub lists : lists_spent c ≡ lists_spent s
  pub spare : c.spare ≡ s.spare

-- the machine c has begun a call on the port's machine, which was at rest
pub record HasBegun (c : CoreState) (x : Part) : Type 0 where
  pub begun : is_begun c.stage ≡ true
  pub rest : is_at_rest (core_of x).stage ≡ true
  pub like : IsMarkedLike (core_of x) c
  pub sound : IsSound c

-- the machine c is where the kept answers lead
pub record IsLedTo (c : CoreState) (x : Part) : Type 0 where
  pub going : is_begun c.stage ≡ false
  pub is : c ≡ core_of x

-- the machine c is the port's
abbrev pub IsMachineOf : CoreState → Part → Type 0
IsMachineOf c x = HasBegun c x ⊎ IsLedTo c x

-- Between calls the machine is idle, with the marks and the spare words of the part's.
pub record IsBetween (x : Part) (core : CoreState) : Type 0 where
  pub rest : is_at_rest (core_of x).stage ≡ true
  pub like : IsMarkedLike (core_of x) core
  pub idle : core.stage ≡ Idle
  pub sound : IsSound core

-- the part after its port has observed that history
abbrev pub with_seen : List Applied → Part → Part
with_seen log x = record x { seen = log }

-- the part of a port that has made no call
abbrev pub fresh_part : Layout → ℕ → Part
fresh_part z port = record { seen = []; notes = []; begun = fresh z port; kept = []; since = 0; past = 0 }

-- the parts of n ports from that port on, none of which has made a call
abbrev pub fresh_parts : Layout → ℕ → ℕ → List Part
fresh_parts z port zero = []
fresh_parts z port (suc n) = fresh_part z port ∷ fresh_parts z (port + 1) n
