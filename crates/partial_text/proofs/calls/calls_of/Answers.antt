use Rattle.partial_text.proofs.{Common.{[], calls_at, call_texts}, CallCuts.next_call}
use Rattle.partial_text.proofs.calls.calls_of.Goals as goal

pub loop-calls-preserved : goal.loop-calls-preserved
loop-calls-preserved c =
    next_call c.args.m c.args.line c.loop-calls.calls.items c.push.new.self.items c.loop-calls.first.now c.loop-calls.rest.now c.in_ok-call_of.field-0 c.split_call-in-loop-calls.result.0.now
    c.split_call-in-loop-calls.result.1.now (calls_at c.args.m c.args.line [] (call_texts c.args.text.now)) c.in_ok-call_of.ensures c.in-len2-up.len_at_least
    c.split_call-in-loop-calls.ensures.split c.in_ok-push.ensures.items c.loop-calls.invariant
