use Rattle.partial_table.proofs.Counting.{owed_join, told_join}
use Rattle.partial_table.proofs.table.Table.join_seat.Goals as goal

pub join_seat-requires : goal.join_seat-requires
join_seat-requires g c = owed_join g.P.TableRule.holds _ _ _ _ _ _ _ c.self.view_is c.seat.view_is _ _ _ _ c.other.view_is g.M.Join.both g.M.Join.spent c.requires

pub returns : goal.returns
returns g c = told_join g.P.TableRule.holds _ _ _ _ _ _ _ c.self.view_is c.seat.view_is _ _ _ _ c.other.view_is g.M.Join.both g.M.Join.spent _ _ _ c.join_seat.ensures
