use Rattle.partial_table.proofs.Counting.{one_seat}
use Rattle.partial_table.proofs.badge.Badge.into_seat.Goals as goal

pub into_seat-requires : goal.into_seat-requires
into_seat-requires g c = one_seat _ _ _ c.self.view_is c.requires
