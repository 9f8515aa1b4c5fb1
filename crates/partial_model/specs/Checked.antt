-- What a checker is made for.
use Rattle.std.specs.Prelude.{List}
use Rattle.partial_model.specs.declared.history.Applied.{Applied}
use Rattle.partial_model.specs.declared.history.Opening.{Opening}

-- the opening and the history that lists of calls are checked against
pub record CheckedHistory : Type 0 where
  pub opening : Opening
  pub history : List Applied
