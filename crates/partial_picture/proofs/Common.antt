-- The names that several proofs of this crate take from elsewhere.
pub use Rattle.std.proofs.Common.{◌++◌, ◌≡◌, string_bytes, ◌∷◌, [], rules, take, Err, IfOk, List, Ok, Option, Result, Some, ap, arith, codes, decimal, length, sym, ℕ, ◌-◌, ◌/◌, ◌<◌, ◌∙◌}
pub use Rattle.std.specs.List.{flat_map}
pub use Rattle.partial_text.specs.PlanText.{number_field, call_text}
