use Rattle.partial_long_lived.proofs.{Common.{◌≤◌, sym, ap, subst, ◌∙◌, Layout, Plan, not_below}, Straight.sound_there}
use Rattle.partial_long_lived.proofs.lines.ArenaLinesMakes.load.Goals as goal

pub make_load-requires-clause-component : goal.make_load-requires-clause-component
make_load-requires-clause-component g c =
    let same = ap (λ (z : Layout). z.m) (sound_there _ _ _ c.requires.goes _ c.requires.due).1 ∙ ap (λ (e : Plan). e.sizes.m) c.requires.goes.held.shape in
    sym (not_below c.args.word _ (subst (λ n. n ≤ c.args.word) same c.requires.behind))
