use Rattle.partial_active.proofs.{Common.{subst, ap, sym, ◌∙◌, IsLayout, ListHigh, Counter, Slot, Len, Index, GetSetState}, Answered.{Keeps, kept}}
use Rattle.partial_active.proofs.get_set.GetSet.answer.Goals as goal

pub returns-in-ListHigh-clause-together : goal.returns-in-ListHigh-clause-together
returns-in-ListHigh-clause-together c =
    let stage = sym (ap (λ (g : GetSetState). g.stage) c.self.view_is) ∙ c.in-ListHigh.is in
    let layout = subst (λ (g : GetSetState). IsLayout g.sizes) c.self.view_is c.self.invariant.0 in
    let all : Keeps (c.after_interval.new.self, c.after_interval.new.found) _ = kept (c.args.self.now, c.args.found.now) _ c.args.x (ListHigh c.in-ListHigh.at c.in-ListHigh.left c.in-ListHigh.lo)
    stage c.after_interval.ensures layout c.requires.together c.requires.possible c.requires.due in
    all.together

pub returns-in-Counter-clause-together : goal.returns-in-Counter-clause-together
returns-in-Counter-clause-together c =
    let stage = sym (ap (λ (g : GetSetState). g.stage) c.self.view_is) ∙ c.in-Counter.is in
    let layout = subst (λ (g : GetSetState). IsLayout g.sizes) c.self.view_is c.self.invariant.0 in
    let all : Keeps (c.after_counter.new.self, c.after_counter.new.found) _ = kept (c.args.self.now, c.args.found.now) _ c.args.x Counter stage c.after_counter.ensures layout c.requires.together
    c.requires.possible c.requires.due in
    all.together

pub returns-in-Counter-clause-left : goal.returns-in-Counter-clause-left
returns-in-Counter-clause-left c =
    let stage = sym (ap (λ (g : GetSetState). g.stage) c.self.view_is) ∙ c.in-Counter.is in
    let layout = subst (λ (g : GetSetState). IsLayout g.sizes) c.self.view_is c.self.invariant.0 in
    let all : Keeps (c.after_counter.new.self, c.after_counter.new.found) _ = kept (c.args.self.now, c.args.found.now) _ c.args.x Counter stage c.after_counter.ensures layout c.requires.together
    c.requires.possible c.requires.due in
    all.fewer

pub returns-in-Slot-clause-together : goal.returns-in-Slot-clause-together
returns-in-Slot-clause-together c =
    let stage = sym (ap (λ (g : GetSetState). g.stage) c.self.view_is) ∙ c.in-Slot.is in
    let layout = subst (λ (g : GetSetState). IsLayout g.sizes) c.self.view_is c.self.invariant.0 in
    let all : Keeps (c.after_slot.new.self, c.after_slot.new.found) _ = kept (c.args.self.now, c.args.found.now) _ c.args.x (Slot c.in-Slot.slot) stage c.after_slot.ensures layout c.requires.together
    c.requires.possible c.requires.due in
    all.together

pub returns-in-Slot-clause-left : goal.returns-in-Slot-clause-left
returns-in-Slot-clause-left c =
    let stage = sym (ap (λ (g : GetSetState). g.stage) c.self.view_is) ∙ c.in-Slot.is in
    let layout = subst (λ (g : GetSetState). IsLayout g.sizes) c.self.view_is c.self.invariant.0 in
    let all : Keeps (c.after_slot.new.self, c.after_slot.new.found) _ = kept (c.args.self.now, c.args.found.now) _ c.args.x (Slot c.in-Slot.slot) stage c.after_slot.ensures layout c.requires.together
    c.requires.possible c.requires.due in
    all.fewer

pub returns-in-Len-clause-together : goal.returns-in-Len-clause-together
returns-in-Len-clause-together c =
    let stage = sym (ap (λ (g : GetSetState). g.stage) c.self.view_is) ∙ c.in-Len.is in
    let layout = subst (λ (g : GetSetState). IsLayout g.sizes) c.self.view_is c.self.invariant.0 in
    let all : Keeps (c.after_len.new.self, c.after_len.new.found) _ = kept (c.args.self.now, c.args.found.now) _ c.args.x (Len c.in-Len.slot c.in-Len.at) stage c.after_len.ensures layout
    c.requires.together c.requires.possible c.requires.due in
    all.together

pub returns-in-Len-clause-left : goal.returns-in-Len-clause-left
returns-in-Len-clause-left c =
    let stage = sym (ap (λ (g : GetSetState). g.stage) c.self.view_is) ∙ c.in-Len.is in
    let layout = subst (λ (g : GetSetState). IsLayout g.sizes) c.self.view_is c.self.invariant.0 in
    let all : Keeps (c.after_len.new.self, c.after_len.new.found) _ = kept (c.args.self.now, c.args.found.now) _ c.args.x (Len c.in-Len.slot c.in-Len.at) stage c.after_len.ensures layout
    c.requires.together c.requires.possible c.requires.due in
    all.fewer

pub returns-in-Index-clause-together : goal.returns-in-Index-clause-together
returns-in-Index-clause-together c =
    let stage = sym (ap (λ (g : GetSetState). g.stage) c.self.view_is) ∙ c.in-Index.is in
    let layout = subst (λ (g : GetSetState). IsLayout g.sizes) c.self.view_is c.self.invariant.0 in
    let all : Keeps (c.after_index.new.self, c.after_index.new.found) _ = kept (c.args.self.now, c.args.found.now) _ c.args.x (Index c.in-Index.slot c.in-Index.at c.in-Index.left) stage
    c.after_index.ensures layout c.requires.together c.requires.possible c.requires.due in
    all.together

pub returns-in-Index-clause-left : goal.returns-in-Index-clause-left
returns-in-Index-clause-left c =
    let stage = sym (ap (λ (g : GetSetState). g.stage) c.self.view_is) ∙ c.in-Index.is in
    let layout = subst (λ (g : GetSetState). IsLayout g.sizes) c.self.view_is c.self.invariant.0 in
    let all : Keeps (c.after_index.new.self, c.after_index.new.found) _ = kept (c.args.self.now, c.args.found.now) _ c.args.x (Index c.in-Index.slot c.in-Index.at c.in-Index.left) stage
    c.after_index.ensures layout c.requires.together c.requires.possible c.requires.due in
    all.fewer
