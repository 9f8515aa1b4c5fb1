use Rattle.partial_memory.proofs.{Common.{rules, ◌≡◌, ◌∙◌, ◌-◌, ◌≤◌, ◌++◌, length, take, replicate, vec_len, Result, Err, IfOk, Ok, extended_values}, Reopening.{closed_memories_continue, grown_is_extended}}
use Rattle.partial_memory.proofs.memory.Memory.reopen.Goals as goal

-- what follows from a fact about the value of a result
of_value : {A E : Type 0} (r : Result A E) (P Q : A → Type 0) → ((x : A) → P x → Q x) → IfOk r P → IfOk r Q
of_value (Ok x) P Q f p = f x p
of_value (Err e) P Q f p = tt

pub returns-clause-values : goal.returns-clause-values
returns-clause-values c =
    let copied : c.extend_from_slice.new.self.items ≡ c.args.closed.now.values.items = search rules in
    let count : vec_len c.extend_from_slice.new.self ≡ length c.args.closed.now.values.items = search rules in
    let grown : c.resize.new.self.items ≡ take c.args.sizes.m c.extend_from_slice.new.self.items ++ replicate (c.args.sizes.m - vec_len c.extend_from_slice.new.self) 0 = search rules in
    let fits : length c.args.closed.now.values.items ≤ c.args.sizes.m = search rules in
    let initial : c.deref-2.result.now ≡ extended_values c.args.sizes.m c.args.closed.now.values.items = c.deref-2.ensures.value ∙ grown_is_extended c.args.sizes.m _ _ _ _ grown copied count fits in
    of_value c.open.result _ _ (λ r opened. opened ∙ initial) c.open.ensures.values

pub returns-clause-continues : goal.returns-clause-continues
returns-clause-continues c =
    of_value c.open.result _ _ (λ r opened. closed_memories_continue c.args.closed.now.values.items c.args.sizes.m r.0.about.opening opened) (returns-clause-values c)
