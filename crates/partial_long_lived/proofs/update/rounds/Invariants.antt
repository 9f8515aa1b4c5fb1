use Rattle.partial_long_lived.proofs.{Common.{◌+◌, ◌*◌, ◌≤◌, false, epoch_at, port_at, round_steps}, Rounds.RoundsOn}
use Rattle.partial_long_lived.proofs.update.rounds.Given as goal

-- the call has come so far, to a later epoch after each round
abbrev pub invariant-loop : goal.invariant-loop
invariant-loop l = RoundsOn l.words.table_id l.words.key false false l.fn.stand l.stand l.core × (epoch_at l.fn.stand + l.counter ≤ epoch_at l.stand)
    × ((port_at l.fn.stand).contention.seals + l.counter ≤ (port_at l.stand).contention.seals) × (l.stand.seat.steps ≤ l.fn.stand.seat.steps + l.counter * round_steps l.words.key)
