use Rattle.partial_embedded.proofs.{Common.{◌≡◌, ◌≤◌, ◌∙◌, ap, arith, sym, subst, refl, ViewPair, IsPastCollects, buffers}, Loaded.{loaded}, Past.{due_behind, stay_past}}
use Rattle.partial_embedded.proofs.embedded.Embedded.load_view.Goals as goal

pub loop-word-preserved : goal.loop-word-preserved
loop-word-preserved g c =
    let loads = g.L.Loads in
    let w = loaded loads.scan loads.positions c.args.self.now.sizes c.args.indices.now
    (c.loop-word.self, buffers c.loop-word.last c.loop-word.changed c.loop-word.values) (c.after_answer.new.self, buffers c.after_answer.new.last c.after_answer.new.changed c.after_answer.new.values)
    c.in_ok-answer.answer c.loop-word.loads c.load.new.self
    c.loop-word.invariant.together c.loop-word.invariant.sizes c.loop-word.invariant.scan c.loop-word.invariant.positions
    c.in_ok-answer.ensures.possible c.in_ok-answer.ensures.scan c.after_answer.ensures in
    record {
      goes = c.in_ok-answer.ensures.goes;
      together = w.together;
      scan = w.there;
      positions = c.in_ok-answer.ensures.positions ∙ c.loop-word.invariant.positions;
      follows = g.met.L.Loads.follows_on _ _ _ c.loop-word.invariant.follows c.in_ok-answer.ensures.follows;
      sizes = w.sizes;
      past = subst (λ (q : ViewPair). IsPastCollects q.0.stage) (sym c.after_answer.ensures)
          (stay_past c.args.indices.now (c.loop-word.self, buffers c.loop-word.last c.loop-word.changed c.loop-word.values) c.loop-word.self.stage c.in_ok-answer.answer refl c.loop-word.invariant.past);
    }

pub loop-word-smaller : goal.loop-word-smaller
loop-word-smaller g c =
    let loads = g.L.Loads in
    (loaded loads.scan loads.positions c.args.self.now.sizes c.args.indices.now
    (c.loop-word.self, buffers c.loop-word.last c.loop-word.changed c.loop-word.values) (c.after_answer.new.self, buffers c.after_answer.new.last c.after_answer.new.changed c.after_answer.new.values)
    c.in_ok-answer.answer c.loop-word.loads c.load.new.self
    c.loop-word.invariant.together c.loop-word.invariant.sizes c.loop-word.invariant.scan c.loop-word.invariant.positions
    c.in_ok-answer.ensures.possible c.in_ok-answer.ensures.scan c.after_answer.ensures).fewer

pub load-requires-clause-behind : goal.load-requires-clause-behind
load-requires-clause-behind g c =
    let here : ViewPair = (c.loop-word.self, buffers c.loop-word.last c.loop-word.changed c.loop-word.values) in
    let behind : c.loop-word.self.sizes.m ≤ c.in-Some.word = due_behind c.args.indices.now here c.loop-word.self.stage c.in-Some.word c.loop-word.invariant.together.stage c.loop-word.invariant.past c.in-Some.ensures.due in
    let at : g.L.Loads.scan c.loop-word.loads ≡ here = c.loop-word.invariant.scan in
    let sizes = ap (λ (q : ViewPair). q.0.sizes.m) at in
    omega (arith, behind, sizes)
