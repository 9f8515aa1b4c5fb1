use Rattle.partial_memory.proofs.Common.{ap, ◌∙◌}
use Rattle.partial_memory.proofs.port.take_seat.Goals as goal

pub into_seat-requires : goal.into_seat-requires
into_seat-requires c = (_, ap (λ b. b.views) c.replace.ensures.value ∙ c.requires)
