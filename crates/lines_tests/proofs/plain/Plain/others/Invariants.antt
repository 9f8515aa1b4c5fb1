use Rattle.lines_tests.proofs.Common.{◌≡◌, IsPlain}
use Rattle.lines_tests.proofs.plain.Plain.others.Given as goal

abbrev pub invariant-loop-turn : goal.invariant-loop-turn
invariant-loop-turn l = record {
  going : IsPlain l.self.words.items l.self.beside l.self.left l.self.right;
  machine : l.self.beside ≡ l.fn.self.beside;
}
