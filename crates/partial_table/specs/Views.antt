-- Tables, seats and badges as contracts see them.
use Rattle.std.specs.Prelude.{ℕ, List, [], ◌∷◌, map}
use Rattle.atomic_table.specs.Seated.{TableId}
use Rattle.atomic_table.specs.Table.{Me}
use Rattle.partial_table.specs.declared.counted.Counted.{Counted}
use Rattle.partial_table.specs.Counting.{plain_view, uncounted_me}

-- a seat: of which table it is, its number, what it knows, and how many steps it has made
pub record SeatView (V : Type 0) : Type 0 where
  pub table_id : TableId
  pub id : ℕ
  pub me : Me (Unit {0}) V
  pub steps : ℕ

-- a seat of that table and number that knows this, and for which so much is counted
abbrev pub seat_view : {V : Type 0} → TableId → ℕ → Me (Unit {0}) (Counted V) → SeatView V
seat_view table id me = record { table_id = table; id = id; me = uncounted_me me; steps = me.0.steps }

-- a badge: of which table it is, what its seat knows, if there is one, and how many steps that has made
pub record BadgeView (V : Type 0) : Type 0 where
  pub table_id : TableId
  pub views : List V
  pub steps : ℕ

-- how many steps the first of these views counts
abbrev pub counted_steps : {V : Type 0} → List (Counted V) → ℕ
counted_steps [] = 0
counted_steps (c ∷ cs) = c.steps

-- a badge of a table, by the views of the seat that it has, if it has one
abbrev pub badge_view : {V : Type 0} → TableId → List (Counted V) → BadgeView V
badge_view table views = record { table_id = table; views = map plain_view views; steps = counted_steps views }

-- a table: which one it is, and what was said of it when it was made
pub record TableView (K : Type 0) : Type 0 where
  pub table_id : TableId
  pub key : K

-- a table with that identity and that key
abbrev pub table_view : {K : Type 0} → TableId → K → TableView K
table_view table key = record { table_id = table; key = key }
