use Rattle.partial_replay.proofs.{Common.{◌≡◌, ℕ, List, length, ap, ◌∙◌, subst, sym, AreOpeningWords}, Opens.{opens_run, fresh_started, fresh_turned, fresh_ending}}
use Rattle.partial_replay.proofs.run.Run.open.Goals as goal

pub returns-clause-between : goal.returns-clause-between
returns-clause-between c =
    let values : c.from.result ≡ c.args.initial.now = c.from.ensures ∙ c.in_ok-from_slice.ensures.items in
    let words = c.in_ok-opening_words.field-0 in
    record {
      replay = record {
        state = opens_run c.args.plans.now _ c.requires.sizes (ap length values ∙ c.requires.values) (c.from-first.ensures ∙ c.pool_base.ensures)
            (subst (λ (l : List ℕ). AreOpeningWords c.args.sizes l words) (sym values) c.in_ok-opening_words.ensures) c.new.ensures.items c.new-2.ensures c.requires.ports
            c.in_ok-fresh_ports.ensures;
        room = c.in_ok-new.ensures ∙ c.m.ensures.value;
        served = c.requires.plans;
      };
      started = fresh_started c.args.sizes c.in_ok-fresh_ports.field-0.items c.in_ok-fresh_ports.ensures.1;
    }

pub returns-clause-begun : goal.returns-clause-begun
returns-clause-begun c = λ q calls port at. fresh_turned c.args.sizes c.in_ok-fresh_ports.field-0.items c.in_ok-fresh_ports.ensures.1 q calls port at.is

pub returns-clause-ending : goal.returns-clause-ending
returns-clause-ending c = λ q none. fresh_ending c.args.sizes c.in_ok-fresh_ports.field-0.items c.in_ok-fresh_ports.ensures.1 q
