use Rattle.partial_long_lived.proofs.{Common.{◌≡◌, ◌+◌, ◌*◌, ◌<◌, ◌≤◌, false, epoch_at, port_at, round_if_steps}, ConditionalRounds.ComparesOn}
use Rattle.partial_long_lived.proofs.update_if.update_if.Given as goal

-- the call has come so far, to a later epoch after each round; after the first round its next step is not its first one, and the port is not spent
abbrev pub invariant-loop : goal.invariant-loop
invariant-loop l = ComparesOn l.words.table_id l.words.key l.first l.spent l.fn.stand l.stand l.core × (0 < l.counter → (l.first ≡ false) × (l.spent ≡ false)) × (epoch_at l.fn.stand + l.counter ≤ epoch_at l.stand)
    × ((port_at l.fn.stand).contention.seals + l.counter ≤ (port_at l.stand).contention.seals + 1) × (l.stand.seat.steps ≤ l.fn.stand.seat.steps + l.counter * round_if_steps l.words.key)
