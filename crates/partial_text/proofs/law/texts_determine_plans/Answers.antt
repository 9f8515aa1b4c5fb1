use Rattle.partial_text.proofs.{Common.{sym, ◌∙◌}, PlanLaws.judged_ok, AgainLaws.judged_again}
use Rattle.partial_text.proofs.law.texts_determine_plans.Goals as goal

pub returns-clause-read : goal.returns-clause-read
returns-clause-read c = judged_again

pub returns-clause-text : goal.returns-clause-text
returns-clause-text c = judged_ok

pub returns-clause-one : goal.returns-clause-one
returns-clause-one c = λ a b p x y. (judged_ok a p x).1 ∙ sym (judged_ok b p y).1
