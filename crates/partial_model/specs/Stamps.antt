-- What follows from equal stamps of a component: nothing was applied to it between them.
use Rattle.std.specs.Prelude.{ℕ, ◌≡◌, ◌<◌, ◌≤◌, List, length, map, take}
use Rattle.std.specs.List.{AllByRecursion}
use Rattle.partial_model.specs.declared.history.Applied.{Applied}
use Rattle.partial_model.specs.declared.history.Opening.{Opening}
use Rattle.partial_model.specs.History.{IsHistory, value_of, stamp_of}

-- the component has this stamp and this value after the first n entries
abbrev pub HasThen : Opening → List Applied → ℕ → ℕ → ℕ → ℕ → Type 0
HasThen o h j n stamp value = (stamp_of o (take n h) j ≡ stamp) × (value_of o (take n h) j ≡ value)

-- a component with one stamp at two lengths of a history has that stamp and that value at each length between
abbrev pub StampsNeverReturn : Type 0
StampsNeverReturn = (o : Opening) (h : List Applied) (j a b n : ℕ) → IsHistory o h → j < length o.values → a ≤ n → n ≤ b →
    stamp_of o (take a h) j ≡ stamp_of o (take b h) j → HasThen o h j n (stamp_of o (take a h) j) (value_of o (take a h) j)

-- two loads of a component at two lengths of the history, that both gave this stamp
pub record Twice : Type 0 where
  pub component : ℕ
  pub stamp : ℕ
  pub first : ℕ
  pub second : ℕ

-- the loads gave the component's stamp, one before and one after the first n entries
pub record IsRound (o : Opening) (h : List Applied) (n : ℕ) (l : Twice) : Type 0 where
  pub component : l.component < length o.values
  pub before : l.first ≤ n
  pub behind : n ≤ l.second
  pub first : stamp_of o (take l.first h) l.component ≡ l.stamp
  pub second : stamp_of o (take l.second h) l.component ≡ l.stamp

-- two equal collects, one before and one after a length of the history, gave the stamps that stood together then
abbrev pub EqualCollectsStandTogether : Type 0
EqualCollectsStandTogether = (o : Opening) (h : List Applied) (n : ℕ) (ls : List Twice) → IsHistory o h →
    AllByRecursion (IsRound o h n) ls → map (λ l. l.stamp) ls ≡ map (λ l. stamp_of o (take n h) l.component) ls
