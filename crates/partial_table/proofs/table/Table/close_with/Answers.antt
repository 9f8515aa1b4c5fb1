use Rattle.partial_table.proofs.Counting.{told_end}
use Rattle.partial_table.proofs.table.Table.close_with.Goals as goal

pub returns-clause-values : goal.returns-clause-values
returns-clause-values g c =
    let end = c.close_with.ensures.values in
    (end.0, end.1, told_end g.P.TableRule.holds _ _ _ _ _ _ _ c.self.view_is c.seat.view_is _ _ end.2)
