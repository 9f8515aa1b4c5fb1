use Rattle.std.specs.Prelude.{◌+◌, ◌%◌, ◌^◌}
use mathlib.Core.Option.{none}
use Rattle.atomic_table.specs.Table.{step}
use Rattle.partial_table.proofs.Counting.{owed_counted, told_counted}
use Rattle.partial_table.proofs.table.Table.fetch_add.Goals as goal

pub fetch_add-requires : goal.fetch_add-requires
fetch_add-requires g c = owed_counted g.P.TableRule.holds _ _ _ _ _ _ _ c.self.view_is c.seat.view_is c.args.word (λ n. (n + c.args.k) % 2 ^ 64) (λ slots me. g.M.Play.then (step slots c.args.word c.args.k 0 none) me) c.requires

pub returns : goal.returns
returns g c = told_counted g.P.TableRule.holds _ _ _ _ _ _ _ c.self.view_is c.seat.view_is c.args.word (λ n. (n + c.args.k) % 2 ^ 64) (λ slots me. g.M.Play.then (step slots c.args.word c.args.k 0 none) me) _ _ _ _ c.fetch_add.ensures
