use mathlib.Core.Option.{none}
use Rattle.atomic_table.specs.Table.{step}
use Rattle.partial_table.proofs.Counting.{owed_counted, told_counted}
use Rattle.partial_table.proofs.table.Table.store.Goals as goal

pub store-requires : goal.store-requires
store-requires g c = owed_counted g.P.TableRule.holds _ _ _ _ _ _ _ c.self.view_is c.seat.view_is c.args.word (λ _. c.args.new) (λ slots me _. g.M.Play.then (step slots c.args.word c.args.new 0 none) me c.args.new) c.requires

pub returns : goal.returns
returns g c = told_counted g.P.TableRule.holds _ _ _ _ _ _ _ c.self.view_is c.seat.view_is c.args.word (λ _. c.args.new) (λ slots me _. g.M.Play.then (step slots c.args.word c.args.new 0 none) me c.args.new) _ _ _ c.args.new c.store.ensures
