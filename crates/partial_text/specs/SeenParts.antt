-- What reading gives, whatever memory holds it.
use Rattle.partial_text.specs.declared.plan.Parts.{Parts}
use Rattle.partial_text.specs.PlanText.{PlanView}

-- the parts that were read, as the plan that they make
abbrev pub seen_parts : Parts → PlanView
seen_parts p = record { sizes = p.sizes; initial = p.initial.items; ports = p.ports.items; steps = p.steps.items; rest = p.rest }
