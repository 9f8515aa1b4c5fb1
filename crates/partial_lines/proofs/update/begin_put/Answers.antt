use Rattle.partial_lines.proofs.{Common.{rules, true, if◌then◌else◌, refl, ap, sym, subst, ◌∙◌, ClaimingRecord, Viewing, scan_begun, with_set, CoreState, at_stage, with_getting, set_made, IsViewDue, IsMarkedLike, RestsLike}, Parts.set_ended, Resting.{update_rests}}
use Rattle.partial_active.specs.GetSet as finding
use Rattle.partial_lines.proofs.update.begin_put.Goals as goal

pub make_set-requires-clause-goes : goal.make_set-requires-clause-goes
make_set-requires-clause-goes g c = (
  c.requires.goes,
  record {
    change = c.args.change;
    old = c.args.old;
    made = c.requires.machine ∙ sym (ap (λ (t : CoreState). set_made t c.args.change c.args.old) c.requires.machine);
  },
)

pub write_plain-requires-clause-stage : goal.write_plain-requires-clause-stage
write_plain-requires-clause-stage g c =
    let set : finding.SetPair = (c.in_ok-set.set, c.make_set.new.self.found) in
    let got = set_ended c.args.core.now c.args.change c.args.old (g.M.Makes.machine c.args.lines.now) (g.M.Makes.machine c.make_set.new.steps.lines.now) set c.requires.machine
    c.in_ok-set.ensures.follows.1 c.in_ok-set.ensures.set c.in_ok-set.ensures.done in
    ap (λ (t : CoreState). t.stage) got ∙ ap (λ b. if b then ClaimingRecord c.args.change c.args.old else Viewing c.args.change c.args.old) (sym c.found_none.ensures ∙ c.if-found_none.true)

pub write_plain-requires-clause-like : goal.write_plain-requires-clause-like
write_plain-requires-clause-like g c =
    let set : finding.SetPair = (c.in_ok-set.set, c.make_set.new.self.found) in
    let got = set_ended c.args.core.now c.args.change c.args.old (g.M.Makes.machine c.args.lines.now) (g.M.Makes.machine c.make_set.new.steps.lines.now) set c.requires.machine
    c.in_ok-set.ensures.follows.1 c.in_ok-set.ensures.set c.in_ok-set.ensures.done in
    let core = c.keep_list_mark.ensures ∙ ap (λ (t : CoreState). with_set t (record t.get_set { lists_spent = set.0.lists_spent })) c.in_ok-set.ensures.core in
    subst (λ (t : CoreState). IsMarkedLike t c.keep_list_mark.new.self) (sym got)
    (subst (IsMarkedLike (at_stage (scan_begun (with_getting c.args.core.now set) true) _)) (sym core) (record { sizes = refl; port = refl; pool = refl; slots = refl; lists = refl; spare = refl }))

pub write_plain-requires-clause-ahead : goal.write_plain-requires-clause-ahead
write_plain-requires-clause-ahead g c =
    let set : finding.SetPair = (c.in_ok-set.set, c.make_set.new.self.found) in
    let got = set_ended c.args.core.now c.args.change c.args.old (g.M.Makes.machine c.args.lines.now) (g.M.Makes.machine c.make_set.new.steps.lines.now) set c.requires.machine
    c.in_ok-set.ensures.follows.1 c.in_ok-set.ensures.set c.in_ok-set.ensures.done in
    let core = c.keep_list_mark.ensures ∙ ap (λ (t : CoreState). with_set t (record t.get_set { lists_spent = set.0.lists_spent })) c.in_ok-set.ensures.core in
    ap (λ (t : CoreState). t.ahead) got ∙ sym (ap (λ (t : CoreState). t.ahead) core)

pub returns-then-found_none-clause-rests : goal.returns-then-found_none-clause-rests
returns-then-found_none-clause-rests g c =
    let pool = c.write_plain.new.core.pool_spent in
    let spare = c.write_plain.new.core.spare in
    let set : finding.SetPair = (c.in_ok-set.set, c.make_set.new.self.found) in
    let got = set_ended c.args.core.now c.args.change c.args.old (g.M.Makes.machine c.args.lines.now) (g.M.Makes.machine c.make_set.new.steps.lines.now) set c.requires.machine
    c.in_ok-set.ensures.follows.1 c.in_ok-set.ensures.set c.in_ok-set.ensures.done in
    let core =
    c.write_plain.ensures.core ∙ ap (λ (t : CoreState). record t { pool_spent = pool; spare = spare })
    (c.keep_list_mark.ensures ∙ ap (λ (t : CoreState). with_set t (record t.get_set { lists_spent = set.0.lists_spent })) c.in_ok-set.ensures.core) in
    let rests : RestsLike (g.M.Makes.machine c.write_plain.new.lines) c.write_plain.new.core =
    update_rests c.args.core.now (g.M.Makes.machine c.make_set.new.steps.lines.now) _ _ pool _ set.1 spare c.requires.sound c.requires.idle
    (g.met.M.Makes.sound _ c.in_ok-set.ensures.goes.0)
    (ap (λ (t : CoreState). t.sizes) got) (ap (λ (t : CoreState). t.found) got) c.in_ok-written.ensures.like c.in_ok-written.ensures.ahead c.write_plain.ensures.within core in
    search rules

pub returns-clause-found : goal.returns-clause-found
returns-clause-found g c =
    let set : finding.SetPair = (c.in_ok-set.set, c.make_set.new.self.found) in
    let got = set_ended c.args.core.now c.args.change c.args.old (g.M.Makes.machine c.args.lines.now) (g.M.Makes.machine c.make_set.new.steps.lines.now) set c.requires.machine
    c.in_ok-set.ensures.follows.1 c.in_ok-set.ensures.set c.in_ok-set.ensures.done in
    let kept = c.keep_set.ensures ∙ ap (λ (t : CoreState). with_set t set.0) c.in_ok-set.ensures.core in
    let none = sym c.found_none.ensures ∙ c.if-found_none.false in
    let due : IsViewDue (g.M.Makes.machine c.make_set.new.steps.lines.now) c.keep_set.new.self c.args.change c.args.old = record {
      idle = ap (λ (t : CoreState). t.stage) c.keep_set.ensures ∙ ap (λ (t : CoreState). t.stage) c.in_ok-set.ensures.core ∙ c.requires.idle;
      viewing = got ∙ ap (λ b. at_stage (scan_begun (with_getting c.args.core.now set) true) (if b then ClaimingRecord c.args.change c.args.old else Viewing c.args.change c.args.old)) none
          ∙ sym (ap (λ (t : CoreState). at_stage (scan_begun t true) (Viewing c.args.change c.args.old)) kept);
    } in
    search rules
