use Rattle.std.proofs.Common.{arith}
use Rattle.partial_long_lived.proofs.{Common.{rules, ◌∙◌, List, [], ◌∷◌, ap, SeatedPort, one_of}, Meeting.{may_observe, together}, Meets.{deals, gathers}}
use Rattle.partial_long_lived.proofs.meet.look_together.Goals as goal

pub join_seat-requires : goal.join_seat-requires
join_seat-requires c = let r = c.requires in (r.tables.0, r.tables.1, r.one.1.1, r.some, gathers _ _ _ _ _)

pub load-requires : goal.load-requires
load-requires c =
    let r = c.requires in
    let x : SeatedPort = one_of c.args.first.me.0 in
    let y : SeatedPort = one_of c.args.other.me.0 in
    let is = c.join_seat.ensures.2 ∙ ap (λ (v : List SeatedPort). (v, c.args.first.me.1)) (together c.args.first.me c.args.other.me r.one.0 r.one.1) ∙ ap (λ (l : List _). (x ∷ y ∷ [], l)) r.one.0.1 in
    (c.join_seat.ensures.0 ∙ r.tables.0, r.some, may_observe _ _ _ _ x y 0 is r.own r.known.0 r.known.1 r.stands)

pub split_seat-seat-requires : goal.split_seat-seat-requires
split_seat-seat-requires c = (search rules, search rules, deals _ _ _)

pub returns-clause-steps : goal.returns-clause-steps
returns-clause-steps c =
    let both = c.join_seat.ensures.3 in
    let look = c.load.ensures.3 in
    let other = c.split_seat-seat.ensures.5 in
    let first = c.split_seat-seat.ensures.6 in
    omega (arith, both, look, other, first)
