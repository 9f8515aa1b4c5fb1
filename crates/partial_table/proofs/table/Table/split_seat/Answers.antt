use Rattle.partial_table.proofs.Counting.{owed_split, told_split}
use Rattle.partial_table.proofs.table.Table.split_seat.Goals as goal

pub split_seat-requires : goal.split_seat-requires
split_seat-requires g c = owed_split g.P.TableRule.holds _ _ _ _ _ _ _ c.self.view_is c.seat.view_is g.M.Split.left g.M.Split.right c.requires

pub returns : goal.returns
returns g c = told_split g.P.TableRule.holds _ _ _ _ _ _ _ c.self.view_is c.seat.view_is g.M.Split.left g.M.Split.right _ _ _ _ _ c.split_seat.ensures
