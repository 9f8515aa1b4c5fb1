use Rattle.std.proofs.Common.{tests}
use Rattle.partial_long_lived.proofs.{Common.{arith, most_of_scans, About, ◌+◌, ◌≤◌, rules, ◌≡◌, ◌<◌, length, refl, sym, ◌∙◌, subst, IfOk, IfErr, AllByRecursion, IsRefused, Scans, port_view, port_at, Call, None}, Answering.{are_below, borrowed_fits, few_about, not_below, scan_answered, scan_refused}, DoubleCollect.{come_err, come_ok}}
use Rattle.partial_long_lived.proofs.long_lived.LongLived.scan.Goals.{in-Ok, in-Err}
use Rattle.partial_long_lived.proofs.long_lived.LongLived.scan.Goals as goal

pub returns-then-not-all_below-clause-refused : goal.returns-then-not-all_below-clause-refused
returns-then-not-all_below-clause-refused c =
    let same : c.m.result ≡ c.args.me.now.memory.about.sizes.m = search rules in
    let none = not_below _ c.args.which.now _ c.all_below.ensures c.if-not-all_below.true in
    ((λ all. none (subst (λ n. AllByRecursion (λ j. j < n) c.args.which.now) (sym same) all)), refl)

pub returns-then-scan_at_once-clause-answered : goal.returns-then-scan_at_once-clause-answered
returns-then-scan_at_once-clause-answered c =
    let own = c.requires.own ∙ sym c.self.view_is in
    let same : c.m.result ≡ c.self.inside.table.key.sizes.m = search rules in
    let below = subst (λ n. AllByRecursion (λ j. j < n) c.args.which.now) same (are_below _ c.args.which.now _ c.all_below.ensures c.if-not-all_below.false) in
    let some : 0 < length c.args.which.now = search rules fits 5000 in
    scan_answered _ c.me.inside.stand c.scan_at_once.new.stand _ c.me.view_is own c.scan_at_once.ensures.held c.args.which.now below
    c.scan_at_once.new.into _ None None (c.scan_at_once.ensures.scanned c.if-scan_at_once.true) refl some

pub public_borrowed-requires : goal.public_borrowed-requires
public_borrowed-requires c =
    let d = c.scan_at_once.ensures in
    let told = come_ok _ _ _ d.stayed.come (d.notes c.if-scan_at_once.false) _ _ _ c.scan_further-further.ensures.scanned in
    record { fits = borrowed_fits _ _ _ _ _ _ (rw c.in-Ok.is at told) }

pub returns-clause-answered : goal.returns-clause-answered
returns-clause-answered c =
    let own = c.requires.own ∙ sym c.self.view_is in
    let same : c.m.result ≡ c.self.inside.table.key.sizes.m = search rules in
    let below = subst (λ n. AllByRecursion (λ j. j < n) c.args.which.now) same (are_below _ c.args.which.now _ c.all_below.ensures c.if-not-all_below.false) in
    let some : 0 < length c.args.which.now = search rules fits 5000 in
    let d = c.scan_at_once.ensures in
    let new = c.scan_further-further.new.stand in
    let held = c.scan_further-further.ensures.held in
    let told = come_ok _ _ _ d.stayed.come (d.notes c.if-scan_at_once.false) _ _ _ c.scan_further-further.ensures.scanned in
    elim c.match-further.branch [
      | in-Ok w ↦
          let scanned = rw w.in-Ok.is at told in
          subst (λ r. IfOk r (λ q. Scans c.args.me.now c.args.which.now c.scan_further-further.new.into q (port_view new.seat.table_id new.seat.steps (port_at new)))) (sym w.result-is)
          (scan_answered _ c.me.inside.stand new _ c.me.view_is own held c.args.which.now below
          c.scan_further-further.new.into _ _ _ scanned w.public_borrowed.ensures some)
      | in-Err w ↦ subst (λ r. IfOk r (λ q. Scans c.args.me.now c.args.which.now c.scan_further-further.new.into q (port_view new.seat.table_id new.seat.steps (port_at new)))) (sym w.result-is) tt
    ]

pub returns-clause-refused : goal.returns-clause-refused
returns-clause-refused c =
    let own = c.requires.own ∙ sym c.self.view_is in
    let same : c.m.result ≡ c.self.inside.table.key.sizes.m = search rules in
    let below = subst (λ n. AllByRecursion (λ j. j < n) c.args.which.now) same (are_below _ c.args.which.now _ c.all_below.ensures c.if-not-all_below.false) in
    let d = c.scan_at_once.ensures in
    let new = c.scan_further-further.new.stand in
    let held = c.scan_further-further.ensures.held in
    let told = come_err _ _ _ d.stayed.come (d.notes c.if-scan_at_once.false) _ c.scan_further-further.ensures.refused in
    elim c.match-further.branch [
      | in-Ok w ↦ subst (λ r. IfErr r (λ cause. IsRefused c.args.me.now (Call.Scan c.args.which.now) cause (port_view new.seat.table_id new.seat.steps (port_at new)))) (sym w.result-is) tt
      | in-Err w ↦
          let not = rw w.in-Err.is at told in
          subst (λ r. IfErr r (λ cause. IsRefused c.args.me.now (Call.Scan c.args.which.now) cause (port_view new.seat.table_id new.seat.steps (port_at new)))) (sym w.result-is)
          (scan_refused _ c.me.inside.stand new _ c.me.view_is own held c.args.which.now below _ not)
    ]

pub scan_further-further-requires-clause-rests : goal.scan_further-further-requires-clause-rests
scan_further-further-requires-clause-rests c = search (tests, rules)

pub returns-then-scan_at_once-clause-steps : goal.returns-then-scan_at_once-clause-steps
returns-then-scan_at_once-clause-steps c =
    let few = c.scan_at_once.ensures.steps in
    let all : c.scan_at_once.new.stand.seat.steps ≤ c.me.inside.stand.seat.steps + most_of_scans c.self.inside.table.key (length c.args.which.now) = omega (arith, few) in
    few_about (λ (a : About). most_of_scans a (length c.args.which.now)) c.me.inside.stand c.scan_at_once.new.stand _ _ _ c.me.view_is c.self.view_is all

pub returns-clause-steps : goal.returns-clause-steps
returns-clause-steps c =
    let few = c.scan_at_once.ensures.steps in
    let later = c.scan_further-further.ensures.steps in
    let all : c.scan_further-further.new.stand.seat.steps ≤ c.me.inside.stand.seat.steps + most_of_scans c.self.inside.table.key (length c.args.which.now) = omega (arith, few, later) in
    few_about (λ (a : About). most_of_scans a (length c.args.which.now)) c.me.inside.stand c.scan_further-further.new.stand _ _ _ c.me.view_is c.self.view_is all
