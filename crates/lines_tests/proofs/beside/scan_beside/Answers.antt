use Rattle.lines_tests.proofs.{Common.{◌≤◌, length, sym, ap, subst, ◌∙◌, arith, scan_asked, CoreState, BeginsOn}, Turning.{scan_begins, scan_is}}
use Rattle.lines_tests.proofs.beside.scan_beside.Goals as goal

pub open-requires-clause-begins : goal.open-requires-clause-begins
open-requires-clause-begins c =
    let some = c.requires.some in
    let few = subst (λ (s : CoreState). length c.args.which.now ≤ s.sizes.m) (sym c.in_ok-beside.ensures) c.requires.few in
    let begins = scan_begins c.in_ok-beside.beside c.begin_scan.new.self c.args.which.now few (λ e. omega (arith, some, e)) c.in_default.ensures.ok.0 c.in_default.ensures.ok.1 in
    subst (λ (s : CoreState). BeginsOn s c.begin_scan.new.self) c.in_ok-beside.ensures begins

pub scan_begun-ending-requires-clause-begun : goal.scan_begun-ending-requires-clause-begun
scan_begun-ending-requires-clause-begun c =
    let some = c.requires.some in
    let begun = scan_is c.in_ok-beside.beside c.begin_scan.new.self c.args.which.now (λ e. omega (arith, some, e)) c.in_default.ensures.ok.1 in
    c.in_ok-lines.ensures.machine ∙ begun ∙ ap (λ (s : CoreState). scan_asked s c.args.which.now) c.in_ok-beside.ensures
