use Rattle.std.proofs.Common.{rules, tests}
use Rattle.partial_words.specs.Layout.{slot_counter}
use Rattle.partial_lines.proofs.{Common.{refl, ap, sym, ◌∙◌, arith, pool_end, scan_asked, begin_joining, CoreState}, Announcing.{fitting, not_fitting, slot_due}}
use Rattle.partial_machine.specs.Machine.{reply_of}
use Rattle.partial_lines.proofs.whole_scan.scan.Goals as goal

pub returns-then-at-size-clause-leads : goal.returns-then-at-size-clause-leads
returns-then-at-size-clause-leads g c = g.met.M.Makes.leads_itself _

pub returns-then-at-size-clause-replies : goal.returns-then-at-size-clause-replies
returns-then-at-size-clause-replies g c =
    let end = c.from.ensures ∙ c.pool_end.ensures ∙ ap pool_end c.sizes-sizes.ensures in
    let size = c.announcement_size-size.ensures in
    let past = c.if-at-size.true in
    let refused = not_fitting (scan_asked c.args.core.now c.args.which.now) (g.M.Makes.machine c.args.lines.now) c.args.at c.requires.machine refl (omega (arith, end, size, past)) in
    ap reply_of refused

pub returns-then-at-size-clause-asked : goal.returns-then-at-size-clause-asked
returns-then-at-size-clause-asked g c =
    let end = c.from.ensures ∙ c.pool_end.ensures ∙ ap pool_end c.sizes-sizes.ensures in
    let size = c.announcement_size-size.ensures in
    let past = c.if-at-size.true in
    let refused = not_fitting (scan_asked c.args.core.now c.args.which.now) (g.M.Makes.machine c.args.lines.now) c.args.at c.requires.machine refl (omega (arith, end, size, past)) in
    ap (λ (s : CoreState). s.asked) refused

pub returns-then-at-size-clause-rows : goal.returns-then-at-size-clause-rows
returns-then-at-size-clause-rows g c =
    let end = c.from.ensures ∙ c.pool_end.ensures ∙ ap pool_end c.sizes-sizes.ensures in
    let size = c.announcement_size-size.ensures in
    let past = c.if-at-size.true in
    let refused = not_fitting (scan_asked c.args.core.now c.args.which.now) (g.M.Makes.machine c.args.lines.now) c.args.at c.requires.machine refl (omega (arith, end, size, past)) in
    ap (λ (s : CoreState). s.rows) c.mark_pool.ensures ∙ sym (ap (λ (s : CoreState). s.rows) refused)

pub returns-then-at-size-clause-rests : goal.returns-then-at-size-clause-rests
returns-then-at-size-clause-rests g c = search (tests, rules)

pub announce-requires-clause-asked : goal.announce-requires-clause-asked
announce-requires-clause-asked g c =
    let end = c.from.ensures ∙ c.pool_end.ensures ∙ ap pool_end c.sizes-sizes.ensures in
    let size = c.announcement_size-size.ensures in
    let within = c.if-at-size.false in
    let begun = fitting (scan_asked c.args.core.now c.args.which.now) (g.M.Makes.machine c.args.lines.now) c.args.at c.requires.machine refl (omega (arith, end, size, within)) in
    ap (λ (s : CoreState). s.asked) begun

pub announce-requires-clause-stage : goal.announce-requires-clause-stage
announce-requires-clause-stage g c =
    let end = c.from.ensures ∙ c.pool_end.ensures ∙ ap pool_end c.sizes-sizes.ensures in
    let size = c.announcement_size-size.ensures in
    let within = c.if-at-size.false in
    let begun = fitting (scan_asked c.args.core.now c.args.which.now) (g.M.Makes.machine c.args.lines.now) c.args.at c.requires.machine refl (omega (arith, end, size, within)) in
    ap (λ (s : CoreState). s.stage) begun

pub returns-in_err-announce-clause-leads : goal.returns-in_err-announce-clause-leads
returns-in_err-announce-clause-leads g c = c.announce.ensures.leads

pub make-requires-clause-due : goal.make-requires-clause-due
make-requires-clause-due g c =
    let end = c.from.ensures ∙ c.pool_end.ensures ∙ ap pool_end c.sizes-sizes.ensures in
    let size = c.announcement_size-size.ensures in
    let within = c.if-at-size.false in
    let begun = fitting (scan_asked c.args.core.now c.args.which.now) (g.M.Makes.machine c.args.lines.now) c.args.at c.requires.machine refl (omega (arith, end, size, within)) in
    let joining = c.in_ok-announce.ensures.machine ∙ ap (λ (s : CoreState). begin_joining s c.args.at) begun in
    slot_due (scan_asked c.args.core.now c.args.which.now) _ c.args.at joining _ (c.slot_counter.ensures ∙ ap slot_counter c.sizes-sizes.ensures)
