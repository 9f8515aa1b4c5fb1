-- What `atomic_table` says of tables, for the crates above, which do not list it.
pub use Rattle.atomic_table.specs.Seated.{TableId}
pub use Rattle.atomic_table.specs.Table.{Allows, Joins, Me, Splits, State, keeps, opening}
