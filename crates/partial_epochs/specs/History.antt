-- Each epoch has a history of its own; the one history is that of all epochs, one after the other, with public stamps.
use Rattle.std.specs.Prelude.{ℕ, ◌+◌, ◌*◌, ◌<◌, List, [], ◌∷◌, ◌++◌, length, map, ◌≡◌}
use Rattle.partial_model.specs.declared.history.Opening.{Opening}
use Rattle.std.specs.Option.{option_map_or}
use Rattle.partial_model.specs.declared.history.Applied.{Applied}
use Rattle.partial_model.specs.History.{last_entry, initial_stamp, value_of, stamp_of}
use Rattle.partial_epochs.specs.Lists.{list_of}

-- each word of an arena is below this one
abbrev pub stamp_limit : ℕ
stamp_limit = 8388608

-- the stamp of a record of that epoch as callers see it
abbrev pub public_stamp : ℕ → ℕ → ℕ
public_stamp epoch at = epoch * stamp_limit + at

-- the entries of that epoch with public stamps
abbrev pub public_entry : ℕ → Applied → Applied
public_entry epoch e = record e { stamp = public_stamp epoch e.stamp }

-- an epoch's history with public stamps
abbrev pub public_log : ℕ → List Applied → List Applied
public_log epoch h = map (public_entry epoch) h

-- the history of epochs, the last one first in the list
abbrev pub history_of : List (List Applied) → List Applied
history_of [] = []
history_of (h ∷ before) = history_of before ++ public_log (length before) h

-- with what an epoch opens, after an epoch that opened so and had that history
abbrev pub opening_after : Opening → List Applied → Opening
opening_after o h = record { values = list_of (value_of o h) 0 (length o.values); first = o.first }

-- with what the epoch after these opens
abbrev pub opened_after : Opening → List (List Applied) → Opening
opened_after o [] = o
opened_after o (h ∷ before) = opening_after (opened_after o before) h

-- the public stamp of component j after an epoch of that number, with that history, in which it was carried at first
abbrev pub carried_after : ℕ → (ℕ → ℕ) → List Applied → ℕ → ℕ
carried_after epoch carried h j = option_map_or (λ e. public_stamp epoch e.stamp) (last_entry j h) (carried j)

-- the public stamp that component j has after these epochs
abbrev pub stamp_after : Opening → List (List Applied) → ℕ → ℕ
stamp_after o [] = λ j. initial_stamp o j
stamp_after o (h ∷ before) = carried_after (length before) (stamp_after o before) h

-- the value and the stamp of component j after all epochs are those that the last one has, over what it opened with
pub record IsContinued (o : Opening) (h : List Applied) (before : List (List Applied)) (j : ℕ) : Type 0 where
  pub value : value_of o (history_of (h ∷ before)) j ≡ value_of (opened_after o before) h j
  pub stamp : stamp_of o (history_of (h ∷ before)) j ≡ carried_after (length before) (stamp_after o before) h j

-- in the one history each component has the value and the stamp that the last epoch gives it
abbrev pub EpochsContinue : Type 0
EpochsContinue = (o : Opening) (h : List Applied) (before : List (List Applied)) (j : ℕ) → j < length o.values → IsContinued o h before j
