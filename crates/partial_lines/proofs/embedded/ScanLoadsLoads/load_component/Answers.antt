use Rattle.partial_lines.proofs.{Common.{refl, ap, arith, Layout, CoreState}, Loading.{may_answer, same_positions, scan_goes_on, scan_sizes, scan_stays, scans_forth, still_scans}, Parts.{scan_due}}
use Rattle.partial_lines.proofs.embedded.ScanLoadsLoads.load_component.Goals as goal

pub load_component-requires-clause-due : goal.load_component-requires-clause-due
load_component-requires-clause-due g c =
    let s : CoreState = g.M.Makes.machine c.args.self.now.lines.now in
    scan_due s s.stage _ refl c.requires.goes.1 c.requires.due

pub load_component-requires-clause-component : goal.load_component-requires-clause-component
load_component-requires-clause-component g c =
    let s : CoreState = g.M.Makes.machine c.args.self.now.lines.now in
    let sound = g.met.M.Makes.sound c.args.self.now.lines.now c.requires.goes.0 in
    let same = ap (λ (z : Layout). z.m) (scan_sizes s s.stage _ c.requires.goes.1 c.requires.due sound.stage) in
    omega (arith, same, c.requires.component)

pub returns-clause-goes : goal.returns-clause-goes
returns-clause-goes g c = (c.load_component.ensures.goes, still_scans (g.M.Makes.machine c.args.self.now.lines.now) (g.M.Makes.machine c.load_component.new.self) _ c.requires.goes.1 c.requires.due c.load_component.result c.load_component.ensures.machine c.load_component.ensures.stays)

pub returns-clause-possible : goal.returns-clause-possible
returns-clause-possible g c = may_answer (g.M.Makes.machine c.args.self.now.lines.now) (g.M.Makes.machine c.load_component.new.self) _ c.requires.goes.1 c.requires.due c.load_component.result c.load_component.ensures.possible

pub returns-clause-scan : goal.returns-clause-scan
returns-clause-scan g c = scan_goes_on (g.M.Makes.machine c.args.self.now.lines.now) (g.M.Makes.machine c.load_component.new.self) _ c.requires.goes.1 c.requires.due c.load_component.result c.load_component.ensures.machine

pub returns-clause-stays : goal.returns-clause-stays
returns-clause-stays g c = scan_stays (g.M.Makes.machine c.args.self.now.lines.now) (g.M.Makes.machine c.load_component.new.self) _ c.requires.goes.1 c.requires.due c.load_component.result c.load_component.ensures.stays

pub returns-clause-positions : goal.returns-clause-positions
returns-clause-positions g c = same_positions (g.M.Makes.machine c.args.self.now.lines.now) (g.M.Makes.machine c.load_component.new.self) _ c.requires.goes.1 c.requires.due c.load_component.result c.load_component.ensures.machine c.load_component.ensures.stays

pub returns-clause-follows : goal.returns-clause-follows
returns-clause-follows g c = ((refl, c.load_component.ensures.leads), scans_forth (g.M.Makes.machine c.args.self.now.lines.now) (g.M.Makes.machine c.load_component.new.self) _ c.requires.goes.1 c.requires.due c.load_component.result c.load_component.ensures.machine c.load_component.ensures.stays)
