-- The words with which a memory opens, and its first seat.
use Rattle.std.specs.Prelude.{ℕ, ◌≡◌, List, [], length}
use Rattle.partial_table.specs.Table.{Me, TableId}
use Rattle.partial_words.specs.Layout.{pool_base}
use Rattle.partial_epochs.specs.Opening.{OpensAll}
use Rattle.partial_long_lived.specs.declared.rule.About.{About}
use Rattle.partial_long_lived.specs.declared.shape.Shape.{Shape}
use Rattle.partial_long_lived.specs.Rule.{SeatedPort, newcomers, plan_of}
use Rattle.partial_long_lived.specs.Shape.{shape_plan}

-- the words of a memory of that shape with these initial values
abbrev pub OpensShape : Shape → List ℕ → List ℕ → Type 0
OpensShape s values words = OpensAll (shape_plan s (record { values = values; first = pool_base s.sizes })) words

-- what a memory of that shape with these initial values was opened with
abbrev pub opened : Shape → List ℕ → About
opened s values = record {
  sizes = s.sizes;
  opening = record { values = values; first = pool_base s.sizes };
  ports = s.ports;
  arenas = s.arenas;
  limit = s.limit;
  announces = s.announces;
}

-- The table has the words of an opening, and no slots. The seat is the one of all n ports, none of which has made a call.
pub record IsLaidOut (table : TableId) (about : About) (n : ℕ) (seat : TableId) (me : Me (Unit {0}) (List SeatedPort)) : Type 0 where
  pub words : List ℕ
  pub opens : OpensAll (plan_of about) words
  pub count : table.words ≡ length words
  pub slots : table.slots ≡ 0
  pub fits : seat ≡ table
  pub all : me ≡ (newcomers about 0 n, [])
