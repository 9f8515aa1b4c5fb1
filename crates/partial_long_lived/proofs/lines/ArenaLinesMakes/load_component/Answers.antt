use Rattle.partial_long_lived.proofs.{Common.{◌<◌, sym, ap, subst, ◌∙◌, Layout, Plan, lt-ltb}, Straight.sound_there}
use Rattle.partial_long_lived.proofs.lines.ArenaLinesMakes.load_component.Goals as goal

pub make_load-requires-clause-component : goal.make_load-requires-clause-component
make_load-requires-clause-component g c =
    let same = ap (λ (z : Layout). z.m) (sound_there _ _ _ c.requires.goes _ c.requires.due).1 ∙ ap (λ (e : Plan). e.sizes.m) c.requires.goes.held.shape in
    sym (lt-ltb c.args.component _ (subst (λ n. c.args.component < n) same c.requires.component))
