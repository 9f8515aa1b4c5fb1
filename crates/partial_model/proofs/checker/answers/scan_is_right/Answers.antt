use Rattle.partial_model.proofs.{Common.{length, sym, ◌∙◌}, CheckLaws.Decides-names_components}
use Rattle.partial_model.proofs.checker.answers.scan_is_right.Goals as goal

pub saw_together-requires : goal.saw_together-requires
saw_together-requires c = (Decides-names_components (length c.args.opening.now.values) c.args.components.now).0 (sym c.are_components.ensures ∙ c.if-are_components.true)
