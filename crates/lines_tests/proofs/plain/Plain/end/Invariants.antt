use Rattle.lines_tests.proofs.Common.{IsPlain}
use Rattle.lines_tests.proofs.plain.Plain.end.Given as goal

abbrev pub invariant-loop-step : goal.invariant-loop-step
invariant-loop-step l = record { going : IsPlain l.self.words.items l.self.beside l.self.left l.self.right }
