use Rattle.std.proofs.Common.{rules, tests}
use Rattle.partial_lines.proofs.{Common.{ℕ, ◌≡◌, refl, sym, subst, Result, Ok, Err, IfOk, IfErr, CoreState, advance, IsQuiet, GetsOn, HasReachedSet, gets_itself}, Parts.{set_follows, set_goes, set_now}}
use Rattle.partial_lines.proofs.get_set.SetStepsSteps.make.Goals as goal

pub returns-clause-goes : goal.returns-clause-goes
returns-clause-goes g c = (c.make.ensures.goes, by c.make.result c.make.ensures.machine c.make.ensures.stays)
  where
    here : CoreState
    here = g.M.Makes.machine c.args.self.now.lines.now

    there : CoreState
    there = g.M.Makes.machine c.make.new.self

    by : (r : Result ℕ g.row.M-Break.Denot) → IfOk r (λ answer. there ≡ advance here answer) → IfErr r (λ _. there ≡ here) → HasReachedSet there
    by (Ok answer) then stays =
        let at = c.requires.goes.1 in
        record {
          change = at.change;
          old = at.old;
          made = set_goes here here at.change at.old _ at.made c.requires.due there answer then;
        }
    by (Err _) then stays = subst HasReachedSet (sym stays) c.requires.goes.1

pub returns-clause-follows : goal.returns-clause-follows
returns-clause-follows g c = ((refl, c.make.ensures.leads), by c.make.result c.make.ensures.machine c.make.ensures.stays)
  where
    here : CoreState
    here = g.M.Makes.machine c.args.self.now.lines.now

    there : CoreState
    there = g.M.Makes.machine c.make.new.self

    by : (r : Result ℕ g.row.M-Break.Denot) → IfOk r (λ answer. there ≡ advance here answer) → IfErr r (λ _. there ≡ here) → GetsOn here there
    by (Ok answer) then stays = λ change old u from. set_follows here u change old _ from c.requires.due there answer then
    by (Err _) then stays = subst (GetsOn here) (sym stays) (gets_itself here)

pub make-requires-clause-quiet : goal.make-requires-clause-quiet
make-requires-clause-quiet g c =
    let s : CoreState = g.M.Makes.machine c.args.self.now.lines.now in
    let at = c.requires.goes.1 in
    subst (λ (t : CoreState). IsQuiet t.stage) (sym (set_now s s at.change at.old _ at.made c.requires.due)) tt

pub returns-clause-possible : goal.returns-clause-possible
returns-clause-possible g c = search (tests, rules)
