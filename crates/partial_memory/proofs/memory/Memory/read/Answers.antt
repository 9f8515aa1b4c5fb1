use Rattle.partial_memory.proofs.{Common.{rules, ◌≡◌, ◌<◌, refl, sym, subst, Layout, one_in}, Resting.{read_begins, rests, same_memory}, Replies.read_ended}
use Rattle.partial_memory.proofs.memory.Memory.read.Goals as goal

pub read-requires : goal.read-requires
read-requires c =
    let sizes : c.me.inside.core.sizes ≡ c.self.inside.sizes = search rules in
    let inside : c.args.component < c.self.inside.sizes.m = search rules in
    let below : c.args.component < c.me.inside.core.sizes.m = subst (λ (z : Layout). c.args.component < z.m) (sym sizes) inside in
    let begins = read_begins _ _ _ c.me.invariant c.me.inside.badge.table_id _ _ below refl in
    let between = c.me.invariant.between in
    record {
      one = c.me.invariant.one;
      rest = record { fits = search rules; words = search rules; own = search rules; idle = between.idle; sound = between.sound };
      begins = begins.begins;
    }

pub invariant_of-me : goal.invariant_of-me
invariant_of-me c =
    let sizes : c.me.inside.core.sizes ≡ c.self.inside.sizes = search rules in
    let inside : c.args.component < c.self.inside.sizes.m = search rules in
    let below : c.args.component < c.me.inside.core.sizes.m = subst (λ (z : Layout). c.args.component < z.m) (sym sizes) inside in
    let begins = read_begins _ _ _ c.me.invariant c.me.inside.badge.table_id _ _ below refl in
    rests _ _ _ _ _ _ c.read.ensures.one begins.begins c.read.ensures.ended c.me.invariant.number

pub returns-clause-answered : goal.returns-clause-answered
returns-clause-answered c =
    let sizes : c.me.inside.core.sizes ≡ c.self.inside.sizes = search rules in
    let inside : c.args.component < c.self.inside.sizes.m = search rules in
    let below : c.args.component < c.me.inside.core.sizes.m = subst (λ (z : Layout). c.args.component < z.m) (sym sizes) inside in
    (read_ended _ _ _ c.me.invariant _ _ c.read.ensures.table _ _ _ c.me.view_is _ _ _ _ c.read.ensures.ended c.read.ensures.counted c.args.component below refl _ refl).0

pub returns-clause-led : goal.returns-clause-led
returns-clause-led c =
    let sizes : c.me.inside.core.sizes ≡ c.self.inside.sizes = search rules in
    let inside : c.args.component < c.self.inside.sizes.m = search rules in
    let below : c.args.component < c.me.inside.core.sizes.m = subst (λ (z : Layout). c.args.component < z.m) (sym sizes) inside in
    (read_ended _ _ _ c.me.invariant _ _ c.read.ensures.table _ _ _ c.me.view_is _ _ _ _ c.read.ensures.ended c.read.ensures.counted c.args.component below refl _ refl).1

pub returns-clause-same : goal.returns-clause-same
returns-clause-same c = same_memory _ _ _ (one_in c.me.inside.badge.views) (one_in c.read.new.badge.views) _ _ c.me.view_is c.requires c.read.ensures.table c.read.ensures.ended.made.about
