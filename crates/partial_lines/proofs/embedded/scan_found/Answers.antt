use Rattle.partial_lines.proofs.{Common.{◌≡◌, rules, refl, sym, ap, ◌∙◌, subst, CoreState, at_stage, scanning, with_scanning, behind_scan, ViewGoesTogether, ViewPair}, Parts.{at_found, scan_made, scan_over}}
use Rattle.partial_lines.proofs.embedded.scan_found.Goals as goal

pub scan_found-requires-clause-together : goal.scan_found-requires-clause-together
scan_found-requires-clause-together g c =
    let s = g.M.Makes.machine c.args.lines.now in
    let at = at_found s _ (g.met.M.Makes.sound c.args.lines.now c.requires.goes) refl c.requires.stage in
    let found = at.1 ∙ ap (λ (d : CoreState). d.found.indices) c.requires.machine in
    subst (λ p. ViewGoesTogether c.args.core.now.found.indices p) (ap scanning c.requires.machine ∙ ap (λ e. (e, c.args.core.now.rows)) (sym c.begin_scanning-begun.ensures))
    (subst (λ l. ViewGoesTogether l (scanning s)) found at.0.together)

pub scan_found-requires-clause-goes : goal.scan_found-requires-clause-goes
scan_found-requires-clause-goes g c =
    let at = at_found (g.M.Makes.machine c.args.lines.now) _ (g.met.M.Makes.sound c.args.lines.now c.requires.goes) refl c.requires.stage in
    (c.requires.goes, at.0.stage)

pub scan_found-requires-clause-scan : goal.scan_found-requires-clause-scan
scan_found-requires-clause-scan g c = ap scanning c.requires.machine ∙ ap (λ e. (e, c.args.core.now.rows)) (sym c.begin_scanning-begun.ensures)

pub scan_found-requires-clause-positions : goal.scan_found-requires-clause-positions
scan_found-requires-clause-positions g c =
    let at = at_found (g.M.Makes.machine c.args.lines.now) _ (g.met.M.Makes.sound c.args.lines.now c.requires.goes) refl c.requires.stage in
    at.1 ∙ ap (λ (d : CoreState). d.found.indices) c.requires.machine

pub returns-clause-machine : goal.returns-clause-machine
returns-clause-machine g c =
    let start = g.M.Makes.machine c.args.lines.now in
    let d = g.M.Makes.machine c.scan_found.new.loads.lines.now in
    let p : ViewPair = (c.in_ok-embedded.embedded, c.scan_found.new.self.rows) in
    let on = c.in_ok-embedded.ensures.follows.1 in
    let over = scan_over d _ refl c.in_ok-embedded.ensures.goes.1 (ap (λ q. q.0.stage) c.in_ok-embedded.ensures.scan ∙ c.in_ok-embedded.ensures.done) in
    let made : d ≡ at_stage c.keep_scan.new.self (behind_scan start.stage) =
    scan_made start d _ on.rest c.in_ok-embedded.ensures.scan over on.stage
    ∙ ap (λ (s : CoreState). at_stage (with_scanning s p) (behind_scan start.stage)) c.requires.machine
    ∙ sym (ap (λ (s : CoreState). at_stage s (behind_scan start.stage))
    (c.keep_scan.ensures ∙ ap (λ (s : CoreState). record s { embedded = c.in_ok-embedded.embedded }) c.in_ok-embedded.ensures.core)) in
    search rules

pub returns-clause-core : goal.returns-clause-core
returns-clause-core g c =
    let is = c.keep_scan.ensures ∙ ap (λ (s : CoreState). record s { embedded = c.in_ok-embedded.embedded }) c.in_ok-embedded.ensures.core in
    is ∙ ap (with_scanning c.args.core.now) (sym (ap scanning is))
