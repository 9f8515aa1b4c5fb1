use Rattle.partial_lines.proofs.{Common.{sym, ap, ◌∙◌, arith, at_stage, writing_stage}, Writing.{stored}}
use Rattle.partial_lines.proofs.update.fill_record.Goals as goal

pub loop-k-init : goal.loop-k-init
loop-k-init g c =
    record {
      going = c.store_word-2.ensures.goes;
      leads = g.met.M.Makes.leads_on _ _ _ c.store_word.ensures.leads c.store_word-2.ensures.leads;
      machine = c.in_ok-store_word-2.ensures.machine ∙ ap (λ k. at_stage c.args.core.now (writing_stage c.args.core.now c.args.change c.args.old c.args.at k)) (sym c.plain_record_size-k.ensures);
    }

pub loop-k-preserved : goal.loop-k-preserved
loop-k-preserved g c = record {
  going = c.store_word-in-loop-k.ensures.goes;
  leads = g.met.M.Makes.leads_on _ _ _ c.loop-k.invariant.leads c.store_word-in-loop-k.ensures.leads;
  machine = c.in_ok-store_word-3.ensures.machine;
}

pub returns-in_err-store_word-clause-leads : goal.returns-in_err-store_word-clause-leads
returns-in_err-store_word-clause-leads g c = c.store_word.ensures.leads

pub returns-in_err-store_word-2-clause-leads : goal.returns-in_err-store_word-2-clause-leads
returns-in_err-store_word-2-clause-leads g c = g.met.M.Makes.leads_on _ _ _ c.store_word.ensures.leads c.store_word-2.ensures.leads

pub returns-in_err-store_word-3-clause-leads : goal.returns-in_err-store_word-3-clause-leads
returns-in_err-store_word-3-clause-leads g c = g.met.M.Makes.leads_on _ _ _ c.loop-k.invariant.leads c.store_word-in-loop-k.ensures.leads

pub returns-clause-leads : goal.returns-clause-leads
returns-clause-leads g c = c.loop-k.invariant.leads

pub returns-clause-machine : goal.returns-clause-machine
returns-clause-machine g c =
    let value = c.record_size-k-end.ensures.value in
    let least = c.record_size-k-end.ensures.least in
    let plain = c.plain_record_size-k.ensures in
    let within = c.loop-k.auto.k-end (omega (arith, value, least, plain)) in
    let past = c.loop-k-test.false in
    stored c.args.core.now _ c.args.change c.args.old c.args.at c.loop-k.k c.loop-k.invariant.machine (omega (arith, value, within, past))
