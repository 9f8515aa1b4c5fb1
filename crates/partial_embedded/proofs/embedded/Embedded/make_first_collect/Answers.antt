use Rattle.partial_embedded.proofs.{Common.{◌≡◌, sym, ap, ◌∙◌, ViewPair, advance_view, advance_view_at, buffers}, Loaded.{loaded}}
use Rattle.partial_embedded.proofs.embedded.Embedded.make_first_collect.Goals as goal

pub loop-position-preserved : goal.loop-position-preserved
loop-position-preserved g c =
    let loads = g.L.Loads in
    let here : ViewPair = (c.loop-position.self, buffers c.loop-position.last c.loop-position.changed c.args.values.now) in
    let next : ViewPair = (c.after_first_load.new.self, buffers c.after_first_load.new.last c.after_first_load.new.changed c.args.values.now) in
    let x = c.in_ok-stamp.stamp in
    let is : next ≡ advance_view c.args.indices.now here x =
    c.after_first_load.ensures c.args.values.now ∙ sym (ap (λ t. advance_view_at c.args.indices.now here t x) c.in-Some.ensures.due) in
    let w = loaded loads.scan loads.positions c.args.self.now.sizes c.args.indices.now here next x c.loop-position.loads c.load_component.new.self
    c.loop-position.invariant.together c.loop-position.invariant.sizes c.loop-position.invariant.scan c.loop-position.invariant.positions
    c.in_ok-stamp.ensures.possible c.in_ok-stamp.ensures.scan is in
    record {
      goes = c.in_ok-stamp.ensures.goes;
      together = w.together;
      scan = w.there;
      positions = c.in_ok-stamp.ensures.positions ∙ c.loop-position.invariant.positions;
      follows = g.met.L.Loads.follows_on _ _ _ c.loop-position.invariant.follows c.in_ok-stamp.ensures.follows;
      sizes = w.sizes;
    }

pub loop-position-smaller : goal.loop-position-smaller
loop-position-smaller g c =
    let loads = g.L.Loads in
    let here : ViewPair = (c.loop-position.self, buffers c.loop-position.last c.loop-position.changed c.args.values.now) in
    let next : ViewPair = (c.after_first_load.new.self, buffers c.after_first_load.new.last c.after_first_load.new.changed c.args.values.now) in
    let x = c.in_ok-stamp.stamp in
    let is : next ≡ advance_view c.args.indices.now here x =
    c.after_first_load.ensures c.args.values.now ∙ sym (ap (λ t. advance_view_at c.args.indices.now here t x) c.in-Some.ensures.due) in
    (loaded loads.scan loads.positions c.args.self.now.sizes c.args.indices.now here next x c.loop-position.loads c.load_component.new.self
    c.loop-position.invariant.together c.loop-position.invariant.sizes c.loop-position.invariant.scan c.loop-position.invariant.positions
    c.in_ok-stamp.ensures.possible c.in_ok-stamp.ensures.scan is).fewer
