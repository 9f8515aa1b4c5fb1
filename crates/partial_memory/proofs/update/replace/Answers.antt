use Rattle.partial_memory.proofs.Common.{rules, ◌≡◌, Some, ap, subst, sym, ◌∙◌, Exchanging, CoreState, advance_at, reply_of, IsMarkedLike, machine_of, ending_reply, Refused, Reply}
use Rattle.partial_machine.specs.declared.stage.Stage.{Stage}
use Rattle.partial_memory.proofs.update.replace.Goals as goal

pub returns-in_default-clause-ended : goal.returns-in_default-clause-ended
returns-in_default-clause-ended c b x begins made =
    let rests = c.in-Ok.ensures.rests in
    let replies : reply_of (machine_of c.put.new.lines.seat.me) ≡ Some (Reply.Refused Refused.PoolSpent) = search rules in
    record {
      machine = machine_of c.put.new.lines.seat.me;
      made = c.in-Ok.ensures.leads.1 b x begins made;
      replies = replies;
      like = rests.like;
      ahead = rests.ahead;
      idle = rests.idle;
      sound = rests.sound;
    }

pub returns-clause-ended : goal.returns-clause-ended
returns-clause-ended c b x begins made =
    let s = machine_of c.put.new.lines.seat.me in
    let d = machine_of c.make-found.new.seat.me in
    let rests = c.in-Ok.ensures.rests in
    let stage : s.stage ≡ Exchanging c.args.change c.args.old c.in-Some.at = search rules in
    let is : d ≡ advance_at s (Exchanging c.args.change c.args.old c.in-Some.at) c.make-found.result =
    c.make-found.ensures.machine ∙ ap (λ (t : Stage). advance_at s t c.make-found.result) stage in
    let told = c.of-2.ensures c.args.change ∙ c.of.ensures c.args.change in
    let replies : reply_of d ≡ Some (ending_reply c.args.change c.of-2.result) = ap reply_of is ∙ ap Some (sym told) in
    record {
      machine = d;
      made = c.make-found.ensures.leads b x begins (c.in-Ok.ensures.leads.1 b x begins made);
      replies = replies;
      like = subst (λ (t : CoreState). IsMarkedLike t c.put.new.core) (sym is)
          (record { sizes = rests.like.sizes; port = rests.like.port; pool = rests.like.pool; slots = rests.like.slots; lists = rests.like.lists; spare = rests.like.spare });
      ahead = rests.ahead ∙ sym (ap (λ (t : CoreState). t.ahead) is);
      idle = rests.idle;
      sound = rests.sound;
    }

pub returns-in_default-clause-counted : goal.returns-in_default-clause-counted
returns-in_default-clause-counted c = c.in-Ok.ensures.leads.2

pub returns-clause-counted : goal.returns-clause-counted
returns-clause-counted c n before = c.make-found.ensures.counted n (c.in-Ok.ensures.leads.2 n before)
