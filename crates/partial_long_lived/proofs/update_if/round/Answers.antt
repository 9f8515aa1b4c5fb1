use Rattle.std.proofs.Common.{rules, tests}
use Rattle.partial_long_lived.proofs.{Common.{ap, arith, length, sym, take_all, ◌∙◌, Applied, List, opening_of, port_at}, Conditional.{ended_after, nothing_after}}
use Rattle.partial_model.specs.History.{stamp_of}
use Rattle.partial_long_lived.proofs.update_if.round.Goals as goal

pub attempt-attempted-requires-clause-expects : goal.attempt-attempted-requires-clause-expects
attempt-attempted-requires-clause-expects c =
    let found = rw c.in-Same.is at c.compare.ensures.found in
    let port = port_at c.compare.new.stand in
    let seen = port.port.part.seen in
    (length seen, omega arith, found.1.last ∙ ap (λ (l : List Applied). stamp_of (opening_of port) l c.args.asked.component) (sym (take_all (length seen) seen (omega arith))))

pub returns-in_default-clause-none : goal.returns-in_default-clause-none
returns-in_default-clause-none c =
    let found = rw c.in-Same.is at c.compare.ensures.found in
    nothing_after c.args.first c.args.stand.now c.compare.new.stand c.attempt-attempted.new.stand c.compare.ensures.looked found.0 (rw (sym c.exchanged.ensures ∙ c.in_default.is) at c.attempt-attempted.ensures.sealed)

pub returns-clause-ended : goal.returns-clause-ended
returns-clause-ended c =
    let found = rw c.in-Same.is at c.compare.ensures.found in
    let outcome = c.public_outcome-updated.ensures in
    ended_after c.args.first c.args.stand.now c.compare.new.stand c.attempt-attempted.new.stand c.compare.ensures.looked found.0 c.args.asked c.in-Same.at c.in-Some.exchanged found.1
    (rw (sym c.exchanged.ensures ∙ c.in-Some.is) at c.attempt-attempted.ensures.attempted) c.public_outcome-updated.new.stand outcome.kept outcome.same c.public_outcome-updated.result outcome.public

pub returns-in-Other-clause-spare : goal.returns-in-Other-clause-spare
returns-in-Other-clause-spare c = search (tests, rules)
