use Rattle.std.specs.Prelude.{◌==◌}
use mathlib.Core.Option.{none}
use prog.Atomic.{either}
use Rattle.atomic_table.specs.Table.{step}
use Rattle.partial_table.proofs.Counting.{owed_counted, told_counted}
use Rattle.partial_table.proofs.table.Table.compare_exchange.Goals as goal

pub compare_exchange-requires : goal.compare_exchange-requires
compare_exchange-requires g c = owed_counted g.P.TableRule.holds _ _ _ _ _ _ _ c.self.view_is c.seat.view_is c.args.word (λ n. either (n == c.args.old) c.args.new n) (λ slots me. g.M.Play.then (step slots c.args.word c.args.old c.args.new none) me) c.requires

pub returns : goal.returns
returns g c = told_counted g.P.TableRule.holds _ _ _ _ _ _ _ c.self.view_is c.seat.view_is c.args.word (λ n. either (n == c.args.old) c.args.new n) (λ slots me. g.M.Play.then (step slots c.args.word c.args.old c.args.new none) me) _ _ _ _ c.compare_exchange.ensures
