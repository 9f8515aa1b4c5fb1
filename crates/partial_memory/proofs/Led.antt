-- What follows from how a call was led to its reply, and why a call is refused at once.
use Rattle.partial_memory.proofs.{Common.{ℕ, ◌≡◌, ◌+◌, ◌<◌, ◌≤◌, Some, subst, ◌∙◌, Refused, Add, Layout, greatest_record, pool_counter, pool_end, slot_counter, CoreState, fresh, step_of, IsOldMark, IsRefusedBy, calls_are_refused_at_once, calls_claim_once, answers_of, PortView, HasMark, LateRefusalsArePastEnd, LedCallsClaimOnce, RefusalsAtOnceFit, run_sizes}, Ahead.{run_ahead, few_claimed}}

pub led_calls_claim_once : LedCallsClaimOnce
led_calls_claim_once p q c r w = calls_claim_once w.begun w.machine (answers_of q.kept) w.began.layout w.began.sound w.run

-- a claim that went past the end, in the sizes of the port's memory
past_pool : (z : Layout) (claims : CoreState) (last : ℕ) (cause : Refused) → claims.sizes ≡ z → claims.ahead ≡ 0 → IsRefusedBy claims last cause → cause ≡ Refused.PoolSpent →
    (size : ℕ) × (step_of claims ≡ Some (Add (pool_counter z) size)) × (size ≤ greatest_record z) × (pool_end z < last + size)
past_pool z claims last Refused.Component same none past is = absurd past
past_pool z claims last Refused.SlotsSpent same none past is = cc
past_pool z claims last Refused.PoolSpent same none past is =
    subst (λ (y : Layout). (size : ℕ) × (step_of claims ≡ Some (Add (pool_counter y) size)) × (size ≤ greatest_record y) × (pool_end y < last + size)) same
    (past.size, past.step, few_claimed claims last past none, past.past)

past_slots : (z : Layout) (claims : CoreState) (last : ℕ) (cause : Refused) → claims.sizes ≡ z → IsRefusedBy claims last cause → cause ≡ Refused.SlotsSpent →
    (step_of claims ≡ Some (Add (slot_counter z) 1)) × (z.slots ≤ last)
past_slots z claims last Refused.Component same past is = absurd past
past_slots z claims last Refused.PoolSpent same past is = cc
past_slots z claims last Refused.SlotsSpent same past is =
    subst (λ (y : Layout). (step_of claims ≡ Some (Add (slot_counter y) 1)) × (y.slots ≤ last)) same (past.step, past.past)

pub late_refusals_are_past_end : LateRefusalsArePastEnd
late_refusals_are_past_end p q c cause w =
    let l = w.last in
    let same : l.claims.sizes ≡ p.memory.about.sizes = run_sizes w.led.begun l.claims l.front w.led.began.layout w.led.began.sound l.led ∙ w.led.began.sizes in
    let none : l.claims.ahead ≡ 0 = run_ahead w.led.begun l.claims l.front w.led.began.layout w.led.began.sound l.led ∙ w.led.began.ahead in
    record {
      front = l.front;
      last = l.last;
      is = l.is;
      claims = l.claims;
      pool = past_pool p.memory.about.sizes l.claims l.last cause same none l.past;
      slots = past_slots p.memory.about.sizes l.claims l.last cause same l.past;
    }

-- a machine that has the port's sizes and marks
abbrev marked : PortView → CoreState
marked p = record (fresh p.memory.about.sizes 0) { pool_spent = p.pool_spent; slots_spent = p.slots_spent }

has_mark : (p : PortView) (cause : Refused) → IsOldMark (marked p) cause → HasMark p cause
has_mark p Refused.Component h = tt
has_mark p Refused.SlotsSpent h = h
has_mark p Refused.PoolSpent h = h

pub refusals_at_once_fit : RefusalsAtOnceFit
refusals_at_once_fit p c cause is = let w = calls_are_refused_at_once (marked p) c cause is in (w.0, has_mark p cause w.1)
