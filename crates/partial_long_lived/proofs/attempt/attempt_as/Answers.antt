use Rattle.partial_long_lived.proofs.{Common.{rules, ◌≡◌, ◌∙◌, false, nat_lt, IfSome, arith, inl, inr, refl, subst, sym, MayCall, MissesSeal, port_at, UpdateAttempted, asked_change}, Attempts.{attempt_between, attempt_ends, attempt_going, attempt_rests, attempt_over, attempt_steps, first_between, first_ends, first_spares, met_again, met_seal, update_begins}}
use Rattle.partial_long_lived.proofs.attempt.attempt_as.Goals.{else-found-ge-SEAL-via-then-found-ge-SEAL+else-found-old, else-found-ge-SEAL-via-else-found-ge-SEAL}
use Rattle.partial_long_lived.proofs.attempt.attempt_as.Goals as goal

pub begin-old-requires-clause-begins : goal.begin-old-requires-clause-begins
begin-old-requires-clause-begins g c =
    let r = c.requires in
    update_begins _ _ _ c.args.core.now (asked_change c.args.component c.args.expected c.args.value) r.held r.idle r.may.rests r.may.over r.inside r.expects

pub write-written-requires-clause-going : goal.write-written-requires-clause-going
write-written-requires-clause-going g c =
    let r = c.requires in
    let begins = update_begins _ _ _ c.args.core.now (asked_change c.args.component c.args.expected c.args.value) r.held r.idle r.may.rests r.may.over r.inside r.expects in
    let low = c.if-old-ge-SEAL.false in
    attempt_going _ _ _ r.held r.idle c.args.core.now (asked_change c.args.component c.args.expected c.args.value) begins g.F.When.first _ c.begin-old.ensures.held c.begin-old.ensures.kept _ c.begin-old.ensures.begun (omega (arith, low))

pub returns-then-found-old-clause-sealed : goal.returns-then-found-old-clause-sealed
returns-then-found-old-clause-sealed g c =
    let r = c.requires in
    let begins = update_begins _ _ _ c.args.core.now (asked_change c.args.component c.args.expected c.args.value) r.held r.idle r.may.rests r.may.over r.inside r.expects in
    let low = c.if-old-ge-SEAL.false in
    let high = c.if-found-ge-SEAL.true in
    let same = c.if-found-old.true in
    met_seal _ _ _ r.held r.idle c.args.core.now (asked_change c.args.component c.args.expected c.args.value) begins g.F.When.first _ c.begin-old.ensures.held c.begin-old.ensures.kept _ c.begin-old.ensures.begun (omega (arith, low))
    _ c.write-written.ensures.leads c.write-written.result.at c.exchange-found.result (search rules) _ c.exchange-found.ensures.kept c.exchange-found.ensures.exchanged (omega (arith, high)) same

pub returns-then-found-old-clause-met : goal.returns-then-found-old-clause-met
returns-then-found-old-clause-met g c =
    let r = c.requires in
    let begins = update_begins _ _ _ c.args.core.now (asked_change c.args.component c.args.expected c.args.value) r.held r.idle r.may.rests r.may.over r.inside r.expects in
    let low = c.if-old-ge-SEAL.false in
    let high = c.if-found-ge-SEAL.true in
    let same = c.if-found-old.true in
    met_again _ _ _ r.held r.idle c.args.core.now (asked_change c.args.component c.args.expected c.args.value) begins g.F.When.first _ c.begin-old.ensures.held c.begin-old.ensures.kept _ c.begin-old.ensures.begun (omega (arith, low))
    _ c.write-written.ensures.leads c.write-written.result.at c.exchange-found.result (search rules) _ c.exchange-found.ensures.kept c.exchange-found.ensures.exchanged (omega (arith, high)) same

pub returns-then-found-old-clause-rests : goal.returns-then-found-old-clause-rests
returns-then-found-old-clause-rests g c =
    let r = c.requires in
    let begins = update_begins _ _ _ c.args.core.now (asked_change c.args.component c.args.expected c.args.value) r.held r.idle r.may.rests r.may.over r.inside r.expects in
    let low = c.if-old-ge-SEAL.false in
    attempt_rests _ _ _ r.held r.idle c.args.core.now (asked_change c.args.component c.args.expected c.args.value) begins g.F.When.first _ c.begin-old.ensures.held c.begin-old.ensures.kept _ c.begin-old.ensures.begun (omega (arith, low))
    _ c.write-written.ensures.leads c.write-written.result.at c.exchange-found.result (search rules) _ c.exchange-found.ensures.kept _ r.may.rests c.write-written.ensures.rests

pub returns-clause-rests : goal.returns-clause-rests
returns-clause-rests g c =
    let r = c.requires in
    let begins = update_begins _ _ _ c.args.core.now (asked_change c.args.component c.args.expected c.args.value) r.held r.idle r.may.rests r.may.over r.inside r.expects in
    let low = c.if-old-ge-SEAL.false in
    attempt_rests _ _ _ r.held r.idle c.args.core.now (asked_change c.args.component c.args.expected c.args.value) begins g.F.When.first _ c.begin-old.ensures.held c.begin-old.ensures.kept _ c.begin-old.ensures.begun (omega (arith, low))
    _ c.write-written.ensures.leads c.write-written.result.at c.exchange-found.result (search rules) _ c.exchange-found.ensures.kept _ r.may.rests c.write-written.ensures.rests

pub returns-clause-attempted : goal.returns-clause-attempted
returns-clause-attempted g c =
    let r = c.requires in
    let begins = update_begins _ _ _ c.args.core.now (asked_change c.args.component c.args.expected c.args.value) r.held r.idle r.may.rests r.may.over r.inside r.expects in
    let low = c.if-old-ge-SEAL.false in
    let misses : MissesSeal c.begin-old.result c.exchange-found.result = (elim c.else-found-ge-SEAL.branch [
      | else-found-ge-SEAL-via-then-found-ge-SEAL+else-found-old w ↦ inr w.if-found-old.false
      | else-found-ge-SEAL-via-else-found-ge-SEAL w ↦ (let less = w.if-found-ge-SEAL.false in inl (omega (arith, less)))
    ]) in
    subst (λ q. IfSome q (λ r. UpdateAttempted g.F.When.first (asked_change c.args.component c.args.expected c.args.value) r c.args.stand.now c.exchange-found.new.stand)) (sym c.ended.ensures)
    (attempt_ends _ _ _ r.held r.idle c.args.core.now (asked_change c.args.component c.args.expected c.args.value) begins g.F.When.first _ c.begin-old.ensures.held c.begin-old.ensures.kept _ c.begin-old.ensures.begun (omega (arith, low))
    _ c.write-written.ensures.leads c.write-written.result.at c.exchange-found.result (search rules) _ c.exchange-found.ensures.kept c.exchange-found.ensures.exchanged misses _ c.of.ensures)

pub returns-clause-spare : goal.returns-clause-spare
returns-clause-spare g c =
    let r = c.requires in
    let begins = update_begins _ _ _ c.args.core.now (asked_change c.args.component c.args.expected c.args.value) r.held r.idle r.may.rests r.may.over r.inside r.expects in
    let low = c.if-old-ge-SEAL.false in
    let misses : MissesSeal c.begin-old.result c.exchange-found.result = (elim c.else-found-ge-SEAL.branch [
      | else-found-ge-SEAL-via-then-found-ge-SEAL+else-found-old w ↦ inr w.if-found-old.false
      | else-found-ge-SEAL-via-else-found-ge-SEAL w ↦ (let less = w.if-found-ge-SEAL.false in inl (omega (arith, less)))
    ]) in
    subst (λ q. IfSome q (λ _. nat_lt c.exchange-found.new.stand.shape.limit c.write-written.result.end ≡ false → MayCall (port_at c.exchange-found.new.stand) c.write-written.new.core)) (sym c.ended.ensures)
    (λ room. record {
      rests = attempt_between _ _ _ r.held r.idle c.args.core.now (asked_change c.args.component c.args.expected c.args.value) begins g.F.When.first _ c.begin-old.ensures.held c.begin-old.ensures.kept _ c.begin-old.ensures.begun (omega (arith, low))
          _ c.write-written.ensures.leads c.write-written.result.at c.exchange-found.result (search rules) _ c.exchange-found.ensures.kept c.exchange-found.ensures.exchanged misses _ c.of.ensures _ r.may.rests c.write-written.ensures.rests;
      over = sym (attempt_over _ _ _ r.held r.idle c.args.core.now (asked_change c.args.component c.args.expected c.args.value) begins g.F.When.first _ c.begin-old.ensures.held c.begin-old.ensures.kept _ c.begin-old.ensures.begun (omega (arith, low))
          _ c.write-written.ensures.leads c.write-written.result.at c.exchange-found.result (search rules) _ c.exchange-found.ensures.kept c.exchange-found.ensures.exchanged misses _ c.of.ensures _ _ refl c.write-written.ensures.end) ∙ room;
    })

pub returns-clause-over : goal.returns-clause-over
returns-clause-over g c =
    let r = c.requires in
    let begins = update_begins _ _ _ c.args.core.now (asked_change c.args.component c.args.expected c.args.value) r.held r.idle r.may.rests r.may.over r.inside r.expects in
    let low = c.if-old-ge-SEAL.false in
    let misses : MissesSeal c.begin-old.result c.exchange-found.result = (elim c.else-found-ge-SEAL.branch [
      | else-found-ge-SEAL-via-then-found-ge-SEAL+else-found-old w ↦ inr w.if-found-old.false
      | else-found-ge-SEAL-via-else-found-ge-SEAL w ↦ (let less = w.if-found-ge-SEAL.false in inl (omega (arith, less)))
    ]) in
    subst (λ q. IfSome q (λ _. nat_lt c.exchange-found.new.stand.shape.limit c.write-written.result.end ≡ (port_at c.exchange-found.new.stand).port.over)) (sym c.ended.ensures)
    (attempt_over _ _ _ r.held r.idle c.args.core.now (asked_change c.args.component c.args.expected c.args.value) begins g.F.When.first _ c.begin-old.ensures.held c.begin-old.ensures.kept _ c.begin-old.ensures.begun (omega (arith, low))
    _ c.write-written.ensures.leads c.write-written.result.at c.exchange-found.result (search rules) _ c.exchange-found.ensures.kept c.exchange-found.ensures.exchanged misses _ c.of.ensures _ _ refl c.write-written.ensures.end)

pub returns-then-expected-old-clause-attempted : goal.returns-then-expected-old-clause-attempted
returns-then-expected-old-clause-attempted g c =
    let r = c.requires in
    let begins = update_begins _ _ _ c.args.core.now (asked_change c.args.component c.args.expected c.args.value) r.held r.idle r.may.rests r.may.over r.inside r.expects in
    let low = c.if-old-ge-SEAL.false in
    first_ends _ _ _ r.held r.idle c.args.core.now (asked_change c.args.component c.args.expected c.args.value) begins g.F.When.first _ c.begin-old.ensures.held c.begin-old.ensures.kept _ c.begin-old.ensures.begun (omega (arith, low))
    c.in-Some.expected c.in-Some.is c.if-expected-old.true

pub returns-then-expected-old-clause-spare : goal.returns-then-expected-old-clause-spare
returns-then-expected-old-clause-spare g c =
    let r = c.requires in
    let begins = update_begins _ _ _ c.args.core.now (asked_change c.args.component c.args.expected c.args.value) r.held r.idle r.may.rests r.may.over r.inside r.expects in
    let low = c.if-old-ge-SEAL.false in
    λ _. record {
      rests = first_between _ _ _ r.held r.idle c.args.core.now (asked_change c.args.component c.args.expected c.args.value) begins g.F.When.first _ c.begin-old.ensures.held c.begin-old.ensures.kept _ c.begin-old.ensures.begun (omega (arith, low))
          c.in-Some.expected c.in-Some.is c.if-expected-old.true r.may.rests;
      over = first_spares _ _ _ r.held r.idle c.args.core.now (asked_change c.args.component c.args.expected c.args.value) begins g.F.When.first _ c.begin-old.ensures.held c.begin-old.ensures.kept _ c.begin-old.ensures.begun (omega (arith, low))
          c.in-Some.expected c.in-Some.is c.if-expected-old.true;
    }

pub returns-then-expected-old-clause-over : goal.returns-then-expected-old-clause-over
returns-then-expected-old-clause-over g c =
    let r = c.requires in
    let begins = update_begins _ _ _ c.args.core.now (asked_change c.args.component c.args.expected c.args.value) r.held r.idle r.may.rests r.may.over r.inside r.expects in
    let low = c.if-old-ge-SEAL.false in
    sym (first_spares _ _ _ r.held r.idle c.args.core.now (asked_change c.args.component c.args.expected c.args.value) begins g.F.When.first _ c.begin-old.ensures.held c.begin-old.ensures.kept _ c.begin-old.ensures.begun (omega (arith, low))
    c.in-Some.expected c.in-Some.is c.if-expected-old.true)

pub returns-then-found-old-clause-steps : goal.returns-then-found-old-clause-steps
returns-then-found-old-clause-steps g c =
    let r = c.requires in
    let begins = update_begins _ _ _ c.args.core.now (asked_change c.args.component c.args.expected c.args.value) r.held r.idle r.may.rests r.may.over r.inside r.expects in
    let low = c.if-old-ge-SEAL.false in
    attempt_steps _ _ _ r.held r.idle c.args.core.now (asked_change c.args.component c.args.expected c.args.value) begins g.F.When.first _ c.begin-old.ensures.held c.begin-old.ensures.kept _ c.begin-old.ensures.begun (omega (arith, low))
    _ c.write-written.ensures.leads c.write-written.result.at c.exchange-found.result (search rules) _ c.exchange-found.ensures.kept c.begin-old.ensures.steps c.exchange-found.ensures.steps

pub returns-clause-steps : goal.returns-clause-steps
returns-clause-steps g c =
    let r = c.requires in
    let begins = update_begins _ _ _ c.args.core.now (asked_change c.args.component c.args.expected c.args.value) r.held r.idle r.may.rests r.may.over r.inside r.expects in
    let low = c.if-old-ge-SEAL.false in
    attempt_steps _ _ _ r.held r.idle c.args.core.now (asked_change c.args.component c.args.expected c.args.value) begins g.F.When.first _ c.begin-old.ensures.held c.begin-old.ensures.kept _ c.begin-old.ensures.begun (omega (arith, low))
    _ c.write-written.ensures.leads c.write-written.result.at c.exchange-found.result (search rules) _ c.exchange-found.ensures.kept c.begin-old.ensures.steps c.exchange-found.ensures.steps
