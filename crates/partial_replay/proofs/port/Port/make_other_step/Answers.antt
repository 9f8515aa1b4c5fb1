use Rattle.partial_replay.proofs.{Common.{◌≡◌, ◌<◌, ◌++◌, ◌∷◌, [], ℕ, List, length, Option, Some, None, MatchOption, slice_get, sym, ◌∙◌, ap, subst, arith, refl, option_to_list, append-nil, Applied, Call, answer_of, words_after, answer_for, CoreState, at_stage, reply_of, advance, steps_left, IsPossible, Reply, Step, Idle, Answer, Port, UnderWay, entry_at, one_step_more, core_behind, AreWithin, IsEndedCall, CallGoesOn, Ends, place_below, Memory, some_same}, PortLaws.{answer_idle, step_ended, call_at_place}}
use Rattle.partial_replay.proofs.port.Port.make_other_step.Goals as goal
use Rattle.partial_replay.proofs.port.Port.make_other_step.Goals.{After-take, in-Some+in_ok-push-2, in_default}

-- the words after the step
words_are : (c : After-take) → c.match-entry_of.memory.words ≡ c.perform-step.new.words
words_are c =
    elim c.match-entry_of.branch [
      | in-Some+in_ok-push-2 w ↦ ap (λ (v : Memory). v.words) w.memory-is
      | in_default w ↦ ap (λ (v : Memory). v.words) w.memory-is
    ]

-- the trace after the step
trace_is : (c : After-take) → c.match-entry_of.memory.trace ≡ c.args.memory.now.trace ++
    record { port = c.args.self.now.number; step = c.perform-step.result.0; answer = c.perform-step.result.1 } ∷ []
trace_is c =
    elim c.match-entry_of.branch [
      | in-Some+in_ok-push-2 w ↦ ap (λ (v : Memory). v.trace) w.memory-is ∙ c.in_ok-push.ensures.pushed
      | in_default w ↦ ap (λ (v : Memory). v.trace) w.memory-is ∙ c.in_ok-push.ensures.pushed
    ]

-- the history after the step
log_is : (c : After-take) → c.match-entry_of.memory.history.items ≡ c.args.memory.now.history.items ++
    entry_at c.args.self.now.core.sizes.m c.perform-step.new.words c.args.self.now.number c.perform-step.result.0 c.perform-step.result.1
log_is c =
    let port = c.args.self.now in
    let memory = c.args.memory.now in
    let entry : option_to_list c.entry_of.result ≡ entry_at port.core.sizes.m c.perform-step.new.words port.number c.perform-step.result.0 c.perform-step.result.1 =
    c.entry_of.ensures ∙ ap (λ m. entry_at m c.perform-step.new.words port.number c.perform-step.result.0 c.perform-step.result.1) c.requires.sizes in
    elim c.match-entry_of.branch [
      | in-Some+in_ok-push-2 w ↦ ap (λ (v : Memory). v.history.items) w.memory-is ∙ w.in_ok-push-2.ensures.items ∙ ap (λ (l : List Applied). memory.history.items ++ l)
          (sym (ap option_to_list w.in-Some.is) ∙ entry)
      | in_default w ↦ ap (λ (v : Memory). v.history.items) w.memory-is ∙ sym (append-nil memory.history.items) ∙ ap (λ (l : List Applied). memory.history.items ++ l)
          (sym (ap option_to_list w.in_default.is) ∙ entry)
    ]

-- the rest of the memory stays
rest_is : (c : After-take) → (c.match-entry_of.memory.sizes ≡ c.args.memory.now.sizes) × (c.match-entry_of.memory.places ≡ c.args.memory.now.places)
rest_is c =
    elim c.match-entry_of.branch [
      | in-Some+in_ok-push-2 w ↦ (ap (λ (v : Memory). v.sizes) w.memory-is, ap (λ (v : Memory). v.places) w.memory-is)
      | in_default w ↦ (ap (λ (v : Memory). v.sizes) w.memory-is, ap (λ (v : Memory). v.places) w.memory-is)
    ]

-- the due step is made
due_is : (c : After-take) → c.requires.may.step ≡ c.perform-step.result.0
due_is c = some_same (sym c.requires.may.due ∙ c.perform-step.ensures.due)

answer_is : (c : After-take) → c.perform-step.result.1 ≡ answer_of c.args.memory.now.words c.perform-step.result.0
answer_is c = c.perform-step.ensures.answer

made_words : (c : After-take) → c.perform-step.new.words ≡ words_after c.args.memory.now.words c.perform-step.result.0
made_words c = c.perform-step.ensures.words

-- a call goes on whose machine has no reply
goes_on : (calls : List Call) (old now : Memory) (port new : Port) (step : Step) (way : UnderWay) (behind core : CoreState) → behind ≡ core_behind old step port → reply_of behind ≡ None →
    core ≡ behind → new.core ≡ core → new.under_way ≡ Some (one_step_more way) → new.finished.items ≡ port.finished.items →
    MatchOption (reply_of (core_behind old step port)) (CallGoesOn port new way (core_behind old step port))
    (Ends calls now.words now.history.items port new way (core_behind old step port))
goes_on calls old now port new step way behind core moved none taken machine under finished =
    let goes : CallGoesOn port new way (core_behind old step port) = record { machine = machine ∙ taken ∙ moved; finished = finished; way' = under } in
    subst (λ (r : Option Reply). MatchOption r (CallGoesOn port new way (core_behind old step port)) (Ends calls now.words now.history.items port new way (core_behind old step port)))
    (sym none ∙ ap reply_of moved) goes

pub returns-in-None-clause-made : goal.returns-in-None-clause-made
returns-in-None-clause-made c =
    let d = (goal.at.returns-in-None-clause-made c).After-take in
    let port = c.args.self.now in
    let memory = c.args.memory.now in
    let mid : Memory = c.match-entry_of.memory in
    let step = c.perform-step.result.0 in
    let moved : c.perform-step.new.self ≡ core_behind memory step port = c.perform-step.ensures.state ∙ ap (advance port.core) (answer_is d) in
    record {
      step = step;
      way = c.unwrap-way.result;
      due = c.perform-step.ensures.due;
      was = c.unwrap-way.ensures;
      possible = subst (λ (s : Step). IsPossible port.core (answer_of memory.words s)) (due_is d) c.requires.may.possible;
      words_are = words_are d ∙ made_words d;
      trace_is = trace_is d ∙ ap (λ a. memory.trace ++ record { port = port.number; step = step; answer = a } ∷ []) (answer_is d);
      log_is = log_is d ∙ ap (λ (ws : List ℕ). memory.history.items ++ entry_at port.core.sizes.m ws port.number step c.perform-step.result.1) (sym (words_are d))
          ∙ ap (λ a. memory.history.items ++ entry_at port.core.sizes.m mid.words port.number step a) (answer_is d);
      number = refl;
      falls = subst (λ (s : CoreState). steps_left s < steps_left port.core) moved c.perform-step.ensures.falls;
      after = goes_on c.args.calls.now memory mid port _ step c.unwrap-way.result c.perform-step.new.self c.take.new.self moved (sym c.in-None.ensures.reply) c.in-None.ensures.state refl refl refl;
    }

pub returns-in-None-clause-same : goal.returns-in-None-clause-same
returns-in-None-clause-same c = rest_is (goal.at.returns-in-None-clause-same c).After-take

pub returns-in_ok-push-in-Some-take-clause-same : goal.returns-in_ok-push-in-Some-take-clause-same
returns-in_ok-push-in-Some-take-clause-same c =
    let rest = rest_is (goal.at.returns-in_ok-push-in-Some-take-clause-same c).After-take in
    let same = c.in_ok-called-in-Some-take.ensures.same in
    (ap (λ (v : Memory). v.sizes) same ∙ rest.0, ap (λ (v : Memory). v.places) same ∙ rest.1)

pub ended-requires-clause-within : goal.ended-requires-clause-within
ended-requires-clause-within c =
    let d = (goal.at.ended-requires-clause-within c).After-take in
    let port = c.args.self.now in
    let ws = c.args.memory.now.words in
    let log = c.args.memory.now.history.items in
    let m = port.core.sizes.m in
    let mid : Memory = c.match-entry_of.memory in
    let step = c.perform-step.result.0 in
    let due = subst (λ (s : Step). AreWithin m (words_after ws s) (log ++ entry_at m (words_after ws s) port.number s (answer_of ws s))) (due_is d) c.requires.may.places in
    let answer = subst (λ a. AreWithin m (words_after ws step) (log ++ entry_at m (words_after ws step) port.number step a)) (sym (answer_is d)) due in
    let made = subst (λ (vs : List ℕ). AreWithin m vs (log ++ entry_at m vs port.number step c.perform-step.result.1)) (sym (made_words d)) answer in
    let told = subst (AreWithin m c.perform-step.new.words) (sym (log_is d)) made in
    let now = subst (λ (vs : List ℕ). AreWithin m vs mid.history.items) (sym (words_are d)) told in
    subst (λ n. AreWithin n mid.words mid.history.items) (sym ((rest_is d).1 ∙ c.requires.room)) now

pub returns-in_ok-push-in-Some-take-clause-made : goal.returns-in_ok-push-in-Some-take-clause-made
returns-in_ok-push-in-Some-take-clause-made c =
    let d = (goal.at.returns-in_ok-push-in-Some-take-clause-made c).After-take in
    let port = c.args.self.now in
    let memory = c.args.memory.now in
    let call = c.index-calls-len.result in
    let calls = c.args.calls.now in
    let mid : Memory = c.match-entry_of.memory in
    let new : Memory = c.ended.new.memory in
    let same : new ≡ mid = c.in_ok-called-in-Some-take.ensures.same in
    let number : c.len.result ≡ length port.finished.items = omega (arith, port.finished.ok.0) in
    let below : c.len.result < length calls = (let n = place_below calls (length port.finished.items) c.requires.may.call c.requires.may.next in omega (arith, number, n)) in
    let next : slice_get calls (length port.finished.items) ≡ Some call = call_at_place calls port.finished.items c.len.result call number below c.index-calls-len.is in
    let possible = subst (λ (s : Step). IsPossible port.core (answer_of memory.words s)) (due_is d) c.requires.may.possible in
    let new_words : new.words ≡ c.perform-step.new.words = ap (λ (v : Memory). v.words) same ∙ words_are d in
    let a = answer_for c.perform-step.new.self c.in-Some-take.reply in
    let ended = c.in_ok-called-in-Some-take.ensures.called in
    let taken : c.take.new.self ≡ at_stage c.perform-step.new.self Idle = c.in-Some-take.ensures.state in
    let ended_is : IsEndedCall port.number (length port.finished.items) call (one_step_more c.unwrap-way.result) new.words new.history.items a c.in_ok-called-in-Some-take.called =
    subst (λ (v : Memory). IsEndedCall port.number (length port.finished.items) call (one_step_more c.unwrap-way.result) v.words v.history.items a c.in_ok-called-in-Some-take.called) (sym same)
    (subst (λ (v : Answer). IsEndedCall port.number (length port.finished.items) call (one_step_more c.unwrap-way.result) mid.words mid.history.items v c.in_ok-called-in-Some-take.called)
    (ap (λ (s : CoreState). answer_for s c.in-Some-take.reply) taken ∙ answer_idle c.perform-step.new.self c.in-Some-take.reply) ended) in
    step_ended calls memory new port _ c.perform-step.result.0 c.unwrap-way.result
    c.perform-step.result.1 c.perform-step.new.self c.take.new.self c.in-Some-take.reply call c.in_ok-called-in-Some-take.called
    c.perform-step.ensures.due c.unwrap-way.ensures possible (answer_is d) (new_words ∙ made_words d) (ap (λ (v : Memory). v.trace) same ∙ trace_is d)
    (ap (λ (v : Memory). v.history.items) same ∙ log_is d ∙ ap (λ (ws : List ℕ). memory.history.items ++
    entry_at port.core.sizes.m ws port.number c.perform-step.result.0 c.perform-step.result.1) (sym new_words))
    c.perform-step.ensures.state c.perform-step.ensures.falls (sym c.in-Some-take.ensures.reply) taken next ended_is refl refl refl c.in_ok-push-in-Some-take.ensures.items
