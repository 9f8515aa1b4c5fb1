use Rattle.std.proofs.Common.{rules, tests}
use Rattle.partial_embedded.proofs.{Common.{◌≡◌, sym, ap, ◌∙◌, ViewPair, advance_view, advance_view_at, buffers, view_goes_at, subst, refl, arith, IsPastCollects}, Loaded.{loaded}, Past.{stay_past}}
use Rattle.partial_embedded.proofs.embedded.Embedded.load_values.Goals as goal

pub loop-position-preserved : goal.loop-position-preserved
loop-position-preserved g c =
    let loads = g.L.Loads in
    let here : ViewPair = (c.loop-position.self, buffers c.args.last.now c.args.changed.now c.loop-position.values) in
    let next : ViewPair = (c.after_value.new.self, buffers c.args.last.now c.args.changed.now c.after_value.new.values) in
    let x = c.in_ok-value.value in
    let is : next ≡ advance_view c.args.indices.now here x =
    c.after_value.ensures c.args.last.now c.args.changed.now ∙ sym (ap (λ t. advance_view_at c.args.indices.now here t x) c.in-Some.ensures.due) in
    let w = loaded loads.scan loads.positions c.args.self.now.sizes c.args.indices.now here next x c.loop-position.loads c.load.new.self
    c.loop-position.invariant.together c.loop-position.invariant.sizes c.loop-position.invariant.scan c.loop-position.invariant.positions
    c.in_ok-value.ensures.possible c.in_ok-value.ensures.scan is in
    record {
      goes = c.in_ok-value.ensures.goes;
      together = w.together;
      scan = w.there;
      positions = c.in_ok-value.ensures.positions ∙ c.loop-position.invariant.positions;
      follows = g.met.L.Loads.follows_on _ _ _ c.loop-position.invariant.follows c.in_ok-value.ensures.follows;
      sizes = w.sizes;
      past = subst (λ (q : ViewPair). IsPastCollects q.0.stage) (sym is) (stay_past c.args.indices.now here c.loop-position.self.stage x refl c.loop-position.invariant.past);
    }

pub loop-position-smaller : goal.loop-position-smaller
loop-position-smaller g c =
    let loads = g.L.Loads in
    let here : ViewPair = (c.loop-position.self, buffers c.args.last.now c.args.changed.now c.loop-position.values) in
    let next : ViewPair = (c.after_value.new.self, buffers c.args.last.now c.args.changed.now c.after_value.new.values) in
    let x = c.in_ok-value.value in
    let is : next ≡ advance_view c.args.indices.now here x =
    c.after_value.ensures c.args.last.now c.args.changed.now ∙ sym (ap (λ t. advance_view_at c.args.indices.now here t x) c.in-Some.ensures.due) in
    (loaded loads.scan loads.positions c.args.self.now.sizes c.args.indices.now here next x c.loop-position.loads c.load.new.self
    c.loop-position.invariant.together c.loop-position.invariant.sizes c.loop-position.invariant.scan c.loop-position.invariant.positions
    c.in_ok-value.ensures.possible c.in_ok-value.ensures.scan is).fewer

pub value_word-word-requires : goal.value_word-word-requires
value_word-word-requires g c =
    let here : ViewPair = (c.loop-position.self, buffers c.args.last.now c.args.changed.now c.loop-position.values) in
    let known = subst (view_goes_at c.args.indices.now here) c.in-Some.ensures.due c.loop-position.invariant.together.stage in
    let plain = known.1 c.in-Some.position known.0 in
    omega (arith, plain, c.valuing.ensures.sizes)

pub load-requires-clause-due : goal.load-requires-clause-due
load-requires-clause-due g c = search (tests, rules)

pub load-requires-clause-behind : goal.load-requires-clause-behind
load-requires-clause-behind g c =
    let here : ViewPair = (c.loop-position.self, buffers c.args.last.now c.args.changed.now c.loop-position.values) in
    let known = subst (view_goes_at c.args.indices.now here) c.in-Some.ensures.due c.loop-position.invariant.together.stage in
    let plain = known.1 c.in-Some.position known.0 in
    let is = c.value_word-word.ensures in
    let at : g.L.Loads.scan c.loop-position.loads ≡ here = c.loop-position.invariant.scan in
    let sizes = ap (λ (q : ViewPair). q.0.sizes.m) at in
    omega (arith, plain, is, sizes)
