-- What a plan's text says of its calls.
use Rattle.partial_replay.proofs.Common.{ℕ, ◌<◌, ◌^◌, List, [], ◌∷◌, length, AllByRecursion, Call, PlanView, IsPlan, IsCall, IsServed, ArePlans}
use Rattle.partial_text.proofs.Laws.{plans_have_few_calls}

-- a plan's calls of a port are ones that the machine serves
pub served : (m : ℕ) (cs : List Call) → AllByRecursion (IsCall m) cs → AllByRecursion (IsServed m) cs
served m [] w = tt
served m (Call.Update j v ∷ cs) w = (tt, served m cs w.1)
served m (Call.Scan js ∷ cs) w = (w.0.0, served m cs w.1)
served m (Call.Read j ∷ cs) w = (tt, served m cs w.1)
served m (Call.UpdateIf j s v ∷ cs) w = (tt, served m cs w.1)

each_served : (m : ℕ) (ports : List (List Call)) → AllByRecursion (λ cs. AllByRecursion (IsCall m) cs) ports →
    AllByRecursion (λ cs. length cs < 2 ^ 32) ports → ArePlans m ports
each_served m [] calls few = tt
each_served m (cs ∷ ports) calls few = ((few.0, served m cs calls.0), each_served m ports calls.1 few.1)

-- a plan's calls are ones that the machine serves, and their numbers fit 32 bits
pub are_plans : (p : PlanView) → IsPlan p → ArePlans p.sizes.m p.ports
are_plans p w = each_served p.sizes.m p.ports w.calls (plans_have_few_calls p w)
