use Rattle.std.proofs.Common.{tests}
use Rattle.partial_long_lived.proofs.{Common.{most_of_scans, About, ◌+◌, rules, ◌≡◌, ◌<◌, length, refl, sym, ◌∙◌, subst, is_some, true, IfOk, IfErr, AllByRecursion, IsRefused, port_view, port_at, ScansStamped, Call}, Answering.{are_below, borrowed_fits, borrowed_public, few_about, not_below, scan_refused, stamped_answered}}
use Rattle.partial_long_lived.proofs.long_lived.LongLived.scan_stamped.Goals.{in-Ok, in-Err}
use Rattle.partial_long_lived.proofs.long_lived.LongLived.scan_stamped.Goals as goal

pub returns-then-not-all_below-clause-refused : goal.returns-then-not-all_below-clause-refused
returns-then-not-all_below-clause-refused c =
    let same : c.m.result ≡ c.args.me.now.memory.about.sizes.m = search rules in
    let none = not_below _ c.args.which.now _ c.all_below.ensures c.if-not-all_below.true in
    ((λ all. none (subst (λ n. AllByRecursion (λ j. j < n) c.args.which.now) (sym same) all)), refl)

pub public_borrowed-requires : goal.public_borrowed-requires
public_borrowed-requires c = record { fits = borrowed_fits _ _ _ _ _ _ (rw c.in-Ok.is at c.scan_stamped-scanned.ensures.scanned).scanned }

pub returns-clause-scanned : goal.returns-clause-scanned
returns-clause-scanned c =
    let own = c.requires.own ∙ sym c.self.view_is in
    let same : c.m.result ≡ c.self.inside.table.key.sizes.m = search rules in
    let below = subst (λ n. AllByRecursion (λ j. j < n) c.args.which.now) same (are_below _ c.args.which.now _ c.all_below.ensures c.if-not-all_below.false) in
    let some : 0 < length c.args.which.now = search rules fits 5000 in
    let new = c.scan_stamped-scanned.new.stand in
    let into = c.scan_stamped-scanned.new.into in
    let stamps = c.scan_stamped-scanned.new.stamps in
    let held = c.scan_stamped-scanned.ensures.held in
    elim c.match-scanned.branch [
      | in-Ok w ↦
          let scanned = rw w.in-Ok.is at c.scan_stamped-scanned.ensures.scanned in
          subst (λ r. IfOk r (λ q. ScansStamped c.args.me.now c.args.which.now into stamps q (port_view new.seat.table_id new.seat.steps (port_at new)))) (sym w.result-is)
          (stamped_answered _ c.me.inside.stand new _ c.me.view_is own held c.args.which.now below
          into _ _ _ stamps scanned w.public_borrowed.ensures some)
      | in-Err w ↦ subst (λ r. IfOk r (λ q. ScansStamped c.args.me.now c.args.which.now into stamps q (port_view new.seat.table_id new.seat.steps (port_at new)))) (sym w.result-is) tt
    ]

pub returns-clause-helped : goal.returns-clause-helped
returns-clause-helped c = elim c.match-scanned.branch [
  | in-Ok w ↦
      let told = rw w.in-Ok.is at c.scan_stamped-scanned.ensures.helped in
      subst (λ r. IfOk r (λ q. is_some q.borrowed ≡ true → c.scan_stamped-scanned.new.stamps ≡ c.args.stamps.now)) (sym w.result-is)
      (λ some. told (sym (borrowed_public _ _ _ w.public_borrowed.ensures) ∙ some))
  | in-Err w ↦ subst (λ r. IfOk r (λ q. is_some q.borrowed ≡ true → c.scan_stamped-scanned.new.stamps ≡ c.args.stamps.now)) (sym w.result-is) tt
]

pub returns-clause-refused : goal.returns-clause-refused
returns-clause-refused c =
    let own = c.requires.own ∙ sym c.self.view_is in
    let same : c.m.result ≡ c.self.inside.table.key.sizes.m = search rules in
    let below = subst (λ n. AllByRecursion (λ j. j < n) c.args.which.now) same (are_below _ c.args.which.now _ c.all_below.ensures c.if-not-all_below.false) in
    let new = c.scan_stamped-scanned.new.stand in
    let held = c.scan_stamped-scanned.ensures.held in
    elim c.match-scanned.branch [
      | in-Ok w ↦ subst (λ r. IfErr r (λ cause. IsRefused c.args.me.now (Call.Scan c.args.which.now) cause (port_view new.seat.table_id new.seat.steps (port_at new)))) (sym w.result-is) tt
      | in-Err w ↦
          let not = rw w.in-Err.is at c.scan_stamped-scanned.ensures.refused in
          subst (λ r. IfErr r (λ cause. IsRefused c.args.me.now (Call.Scan c.args.which.now) cause (port_view new.seat.table_id new.seat.steps (port_at new)))) (sym w.result-is)
          (scan_refused _ c.me.inside.stand new _ c.me.view_is own held c.args.which.now below _ not)
    ]

pub scan_stamped-scanned-requires-clause-rests : goal.scan_stamped-scanned-requires-clause-rests
scan_stamped-scanned-requires-clause-rests c = search (tests, rules)

pub returns-clause-steps : goal.returns-clause-steps
returns-clause-steps c =
    few_about (λ (a : About). length c.args.which.now + most_of_scans a (length c.args.which.now)) c.me.inside.stand c.scan_stamped-scanned.new.stand _ _ _ c.me.view_is c.self.view_is
    c.scan_stamped-scanned.ensures.steps
