-- What is known of a port, and of an arena that holds an epoch.
use Rattle.std.specs.Prelude.{ℕ, Bool, List, Option}
use Rattle.partial_model.specs.declared.history.Applied.{Applied}
use Rattle.partial_core.specs.Part.{Part}
use Rattle.partial_epochs.specs.Layout.{Site}

-- whether a port is entering: it stands, it has stored the entering word, or it has loaded the current site since
pub data Entering : Type 0 where
  Stands : Entering
  StoredEntering : Entering
  Loaded : Site → Entering

-- an arena that a port owns
pub record OwnedArena : Type 0 where
  pub arena : ℕ
  -- it has seen that its epoch is the current one, since it owns the arena and hasn't published it
  pub looked : Bool
  -- it is done with the ports below this one
  pub clean : ℕ
  -- the entering word of port `clean` that it has loaded, and whether it has seen since that its epoch is the current one
  pub entering_word : Option Site
  pub again : Bool
  -- how many words it has set
  pub set : ℕ

-- what a port does with the control words
pub record Control : Type 0 where
  -- where it stands, or from where it is entering
  pub here : Site
  -- whether it is entering
  pub entering : Entering
  -- it has seen that another epoch is the current one
  pub past : Bool
  -- the arena that it owns
  pub owned : Option OwnedArena

-- A port, as its own steps alone change it.
pub record Port : Type 0 where
  -- what it does with the control words
  pub control : Control
  -- its part in the epoch where it stands, or where it stood last
  pub part : Part
  -- how many components it has passed there in a change of epoch: each of them is sealed
  pub passed : ℕ
  -- it has made a claim there that ends past its limit, of pool words or of a slot
  pub over : Bool
  -- the epochs before that one, the last one first
  pub before : List (List Applied)

-- An epoch that an arena holds, with a part for each port: its own where it stands there, that of a stopped port where
-- it has left, and that of a new one where it hasn't come yet.
pub record Epoch : Type 0 where
  -- its history
  pub log : List Applied
  -- the histories of the epochs before, the last one first
  pub before : List (List Applied)
  -- the part of each port
  pub part : ℕ → Part
  -- how many components each port has passed
  pub passed : ℕ → ℕ
  -- whether each port has made a claim past a limit
  pub over : ℕ → Bool
