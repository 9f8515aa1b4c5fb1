-- What a component holds after a history: its last entry decides, and the opening when there is none.
use Rattle.std.specs.Prelude.{ℕ, ◌≢◌, ◌+◌, ◌*◌, ◌<◌, ◌==◌, ⊤, List, [], ◌∷◌, length, slice_index, Option, Some, None, if◌then◌else◌}
use Rattle.std.specs.List.{AllByRecursion}
use Rattle.std.specs.Option.{option_map_or}
use Rattle.partial_model.specs.declared.history.Applied.{Applied}
use Rattle.partial_model.specs.declared.history.Opening.{Opening}

-- the last entry for component j, or the one found before when there is none
unfoldable pub last_from : Option Applied → ℕ → List Applied → Option Applied
last_from found j [] = found
last_from found j (e ∷ h) = last_from (if e.component == j then Some e else found) j h

-- the last entry for component j, if there is one
abbrev pub last_entry : ℕ → List Applied → Option Applied
last_entry j h = last_from None j h

-- the initial stamp of component j
abbrev pub initial_stamp : Opening → ℕ → ℕ
initial_stamp o j = o.first + 3 * j

-- the value of component j after h
abbrev pub value_of : Opening → List Applied → ℕ → ℕ
value_of o h j = option_map_or (λ e. e.value) (last_entry j h) (slice_index o.values j)

-- the stamp of component j after h
abbrev pub stamp_of : Opening → List Applied → ℕ → ℕ
stamp_of o h j = option_map_or (λ e. e.stamp) (last_entry j h) (initial_stamp o j)

-- no two entries have one stamp
abbrev pub HaveDistinctStamps : List Applied → Type 0
HaveDistinctStamps [] = ⊤
HaveDistinctStamps (e ∷ h) = AllByRecursion (λ f. e.stamp ≢ f.stamp) h × HaveDistinctStamps h

-- each entry is for a component that there is, and each stamp is of one entry and is no initial one
pub record IsHistory (o : Opening) (h : List Applied) : Type 0 where
  pub components : AllByRecursion (λ e. e.component < length o.values) h
  pub distinct : HaveDistinctStamps h
  pub not_initial : AllByRecursion (λ e. (j : ℕ) → j < length o.values → e.stamp ≢ initial_stamp o j) h
