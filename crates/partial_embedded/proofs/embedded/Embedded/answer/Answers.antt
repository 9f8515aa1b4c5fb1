use Rattle.partial_embedded.proofs.{Common.{◌<◌, subst, sym, ViewPair, ViewGoesTogether, view_left}, Keeps.kept}
use Rattle.partial_embedded.proofs.embedded.Embedded.answer.Goals as goal

pub returns-clause-together : goal.returns-clause-together
returns-clause-together c = subst (ViewGoesTogether c.args.indices.now) (sym c.take_in.ensures)
    (kept c.args.indices.now (c.args.self.now, c.args.rows.now) c.args.x c.requires.together c.requires.possible).together

pub returns-clause-left : goal.returns-clause-left
returns-clause-left c = subst (λ (q : ViewPair). view_left c.args.indices.now q < view_left c.args.indices.now (c.args.self.now, c.args.rows.now)) (sym c.take_in.ensures)
    (kept c.args.indices.now (c.args.self.now, c.args.rows.now) c.args.x c.requires.together c.requires.possible).fewer
