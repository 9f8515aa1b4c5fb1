-- The names that several proofs of this crate take from elsewhere.
pub use Rattle.std.proofs.Common.{IfSome, subst, ◌≡◌, sym, List, [], length, rules, ◌++◌, ◌∷◌, Global, None, Option, Some, Vec, ◌<◌, ◌≤◌}
pub use Rattle.std.specs.{List.AllByRecursion, Prelude.{All, Err, IfOk, Ok, Result}}
pub use Rattle.std.proofs.lemmas.List.Elements.{All-pop, All-push}
pub use Rattle.partial_model.proofs.AllLemmas.{all_front, all_back}
pub use Rattle.partial_memory.specs.{Ports.{IsOf, PortView, new_ports}, Rule.newcomers}
pub use Rattle.partial_memory.proofs.Laws.{opened_ports_are_all}
