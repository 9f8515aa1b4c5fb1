-- What judging gives, whatever memory holds it.
use Rattle.partial_text.specs.declared.lines.Tail.{Tail}
use Rattle.partial_text.specs.Judging as judging

-- the lines after the first two, as judging sees them
abbrev pub seen_tail : Tail → judging.Tail
seen_tail t = record { ports = t.ports.items; steps = t.steps.items; rest = t.rest }
