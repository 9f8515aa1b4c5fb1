use Rattle.partial_lines.proofs.{Common.{◌≡◌, rules, refl, Result, Ok, Err, IfOk, CoreState, EmbeddedState, sym, ap, ◌∙◌, subst, Stage, Leaving, at_stage, scanning, with_scanning, IsScanStage, behind_scan, positions_at, ViewGoesTogether}, Parts.{at_asked, scan_made, scan_over}}
use Rattle.partial_embedded.specs.declared.embedded.Stage.TheVariants.{Done}
use Rattle.partial_lines.proofs.embedded.scan_asked.Goals as goal

pub scan_positions-requires-clause-together : goal.scan_positions-requires-clause-together
scan_positions-requires-clause-together g c =
    let s = g.M.Makes.machine c.args.lines.now in
    let at = at_asked s (g.met.M.Makes.sound c.args.lines.now c.requires.goes) c.requires.stage in
    subst (λ p. ViewGoesTogether c.args.which.now p) (c.requires.scan ∙ ap (λ e. (e, c.args.core.now.rows)) (sym c.begin_scanning-begun.ensures))
    (subst (λ l. ViewGoesTogether l (scanning s)) c.requires.asked at.together)

pub scan_positions-requires-clause-goes : goal.scan_positions-requires-clause-goes
scan_positions-requires-clause-goes g c =
    let s = g.M.Makes.machine c.args.lines.now in
    let at = at_asked s (g.met.M.Makes.sound c.args.lines.now c.requires.goes) c.requires.stage in
    (c.requires.goes, subst (IsScanStage s) (sym c.requires.stage) at.stage)

pub scan_positions-requires-clause-scan : goal.scan_positions-requires-clause-scan
scan_positions-requires-clause-scan g c = c.requires.scan ∙ ap (λ e. (e, c.args.core.now.rows)) (sym c.begin_scanning-begun.ensures)

pub scan_positions-requires-clause-positions : goal.scan_positions-requires-clause-positions
scan_positions-requires-clause-positions g c = ap (positions_at (g.M.Makes.machine c.args.lines.now)) c.requires.stage ∙ c.requires.asked

pub returns-clause-machine : goal.returns-clause-machine
returns-clause-machine g c =
    let made : IfOk c.scan_positions.result (λ made. here ≡ at_stage (with_scanning start (made, c.scan_positions.new.self.rows)) Leaving) =
    by c.scan_positions.result c.scan_positions.ensures.scan c.scan_positions.ensures.done in
    search rules
  where
    start : CoreState
    start = g.M.Makes.machine c.args.lines.now

    here : CoreState
    here = g.M.Makes.machine c.scan_positions.new.loads.lines.now

    by : (r : Result EmbeddedState g.row.M-Break.Denot) → IfOk r (λ made. scanning here ≡ (made, c.scan_positions.new.self.rows)) → IfOk r (λ made. made.stage ≡ Done) →
        IfOk r (λ made. here ≡ at_stage (with_scanning start (made, c.scan_positions.new.self.rows)) Leaving)
    by (Ok made) scan done =
        let on = c.scan_positions.ensures.follows.1 in
        let over = scan_over here _ refl c.scan_positions.ensures.goes.1 (ap (λ p. p.0.stage) scan ∙ done) in
        scan_made start here _ on.rest scan over on.stage
        ∙ ap (λ (t : Stage). at_stage (with_scanning start (made, c.scan_positions.new.self.rows)) (behind_scan t)) c.requires.stage
    by (Err _) scan done = tt
