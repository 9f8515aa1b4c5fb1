use Rattle.partial_memory.proofs.Common.{◌≡◌, ◌+◌, ◌∙◌, length, refl, sym, ap, subst, ReadBegun, CoreState, at_stage, SeatedPort, one_in, one_of, CallMade, CallEnded, machine_of, RestsLike, Reply}
use Rattle.partial_memory.proofs.read.read.Goals as goal

pub returns-clause-ended : goal.returns-clause-ended
returns-clause-ended c =
    let core = c.args.core.now in
    let seat = c.begin_read-stamp.new.seat in
    let seated : one_of c.take_seat-seat.result.me.0 ≡ one_in c.args.badge.now.views = ap (λ m. one_of m.0) c.take_seat-seat.ensures.one in
    let made = subst (λ (x : SeatedPort). CallMade (at_stage core (ReadBegun c.args.component)) x (machine_of seat.me) (one_of seat.me.0)) seated c.begin_read-stamp.ensures.made in
    let begun : RestsLike (machine_of seat.me) core =
    subst (λ (d : CoreState). RestsLike d core) (sym c.begin_read-stamp.ensures.machine)
    (record { like = record { sizes = refl; port = refl; pool = refl; slots = refl; lists = refl; spare = refl }; ahead = refl; idle = c.requires.rest.idle; sound = c.requires.rest.sound }) in
    let rests = c.in-Ok.ensures.rests core begun in
    let me = c.read.new.lines.seat.me in
    let ended : CallEnded (at_stage core (ReadBegun c.args.component)) (one_in c.args.badge.now.views) (Reply.Read c.in-Ok.value c.begin_read-stamp.result) core (one_of me.0) = record {
      machine = machine_of me;
      made = c.in-Ok.ensures.leads.1 _ _ c.requires.begins made;
      replies = c.in-Ok.ensures.replies;
      like = rests.like;
      ahead = rests.ahead;
      idle = rests.idle;
      sound = rests.sound;
    } in
    subst (λ (x : SeatedPort). CallEnded (at_stage core (ReadBegun c.args.component)) (one_in c.args.badge.now.views) (Reply.Read c.in-Ok.value c.begin_read-stamp.result) core x)
    (sym (ap one_in c.into_badge.ensures.1)) ended

pub returns-clause-counted : goal.returns-clause-counted
returns-clause-counted c =
    let first = c.begin_read-stamp.ensures.counted in
    let before = c.take_seat-seat.ensures.steps in
    let all = c.in-Ok.ensures.leads.2 c.args.badge.now.steps (first ∙ ap (λ n. n + length (one_of c.begin_read-stamp.new.seat.me.0).part.kept) before) in
    c.into_badge.ensures.2 ∙ all ∙ ap (λ (x : SeatedPort). c.args.badge.now.steps + length x.part.kept) (sym (ap one_in c.into_badge.ensures.1))
