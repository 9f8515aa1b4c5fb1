use Rattle.partial_lines.proofs.{Common.{ℕ, ◌≡◌, rules, true, Result, Ok, Err, IfOk, OnOk, IfSome, IfNone, Option, Some, None, ap, sym, ◌∙◌, Exchanging, Idle, CoreState, at_stage, pool_refused, IsSound, RestsLike}, Resting.{rests_there}}
use Rattle.partial_lines.proofs.update.put_found.Goals as goal

pub returns-clause-rests : goal.returns-clause-rests
returns-clause-rests g c =
    let rests : OnOk c.write_record.result (RestsLike (g.M.Makes.machine c.write_record.new.lines) c.write_record.new.core) =
    by c.write_record.result c.write_record.ensures.due c.write_record.ensures.refused in
    search rules
  where
    behind : CoreState
    behind = c.scan_found.new.core

    known : IsSound (g.M.Makes.machine c.write_record.new.lines)
    known = g.met.M.Makes.sound _ c.write_record.ensures.goes

    idle : behind.stage ≡ Idle
    idle = ap (λ (t : CoreState). t.stage) c.scan_found.ensures.core ∙ c.requires.due.idle

    by : (r : Result (Option ℕ) g.row.M-Break.Denot) →
        IfOk r (λ put. IfSome put (λ at. g.M.Makes.machine c.write_record.new.lines ≡ at_stage c.write_record.new.core (Exchanging c.args.change c.args.old at))) →
        IfOk r (λ put. IfNone put ((g.M.Makes.machine c.write_record.new.lines ≡ pool_refused behind) × (c.write_record.new.core ≡ record behind { pool_spent = true }))) →
        OnOk r (RestsLike (g.M.Makes.machine c.write_record.new.lines) c.write_record.new.core)
    by (Ok (Some at)) due refused =
        let rest = ap (λ (t : CoreState). t.stage) c.write_record.ensures.core ∙ idle in
        rests_there _ c.write_record.new.core known (sym (ap (λ (t : CoreState). at_stage t Idle) due ∙ ap (at_stage c.write_record.new.core) (sym rest)))
    by (Ok None) due refused =
        rests_there _ c.write_record.new.core known (refused.1 ∙ ap (at_stage (record behind { pool_spent = true })) idle ∙ sym (ap (λ (t : CoreState). at_stage t Idle) refused.0))
    by (Err _) due refused = tt
