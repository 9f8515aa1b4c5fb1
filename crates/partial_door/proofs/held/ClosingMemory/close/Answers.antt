use Rattle.std.specs.Prelude.{◌∷◌}
use Rattle.partial_long_lived.specs.Closing.{ClosesLawfully}
use Rattle.partial_door.proofs.Common.{subst, sym, ◌∙◌}
use Rattle.partial_door.proofs.held.ClosingMemory.close.Goals as goal

pub returns-in-Ok-clause-ok : goal.returns-in-Ok-clause-ok
returns-in-Ok-clause-ok c =
    subst (ClosesLawfully c.args.self.memory (c.args.self.port ∷ c.args.self.rest.items)) (sym (c.copy_from_slice.ensures.after ∙ c.deref.ensures.value)) c.in-Ok.ensures.lawful
