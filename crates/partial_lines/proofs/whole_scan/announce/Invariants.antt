use Rattle.partial_lines.proofs.Common.{◌≡◌, announcing_scan}
use Rattle.partial_lines.proofs.whole_scan.announce.Given as goal

abbrev pub invariant-loop-k : goal.invariant-loop-k
invariant-loop-k g l = record {
  going : g.M.Makes.goes l.lines;
  leads : g.M.Makes.leads l.fn.lines l.lines;
  machine : g.M.Makes.machine l.lines ≡ announcing_scan (g.M.Makes.machine l.fn.lines) l.at l.k;
}
