use Rattle.partial_long_lived.proofs.{Common.{About, Add, Plan, announcement_size, arith, length, lt-ltb, nat_lt, not_below, ◌+◌, ◌-◌, ◌||◌, CoreState, Layout, Some, advance, ap, step_of, subst, sym, ◌∙◌}, Scans.{first_store, scan_begins, scan_named, scan_over, scan_rests, scan_steps}}
use Rattle.partial_words.specs.Layout.{slot_counter}
use Rattle.partial_lines.specs.Lines.{IsQuiet}
use Rattle.partial_long_lived.specs.Inner.Under.{leads_on}
use Rattle.partial_long_lived.proofs.scan.make_scan.Goals.{then-at-size, else-at-size}
use Rattle.partial_long_lived.proofs.scan.make_scan.Goals as goal

pub announce-requires-clause-sizes : goal.announce-requires-clause-sizes
announce-requires-clause-sizes g c = let r = c.requires in r.rests.sizes ∙ ap (λ (a : About). a.sizes) r.held.own

pub claim_slot-slot-requires-clause-due : goal.claim_slot-slot-requires-clause-due
claim_slot-slot-requires-clause-due g c =
    let r = c.requires in
    let sizes = r.rests.sizes ∙ ap (λ (a : About). a.sizes) r.held.own in
    ap step_of c.announce.ensures.machine ∙ ap (λ (z : Layout). Some (Add (slot_counter z) 1)) sizes

pub claim_slot-slot-requires-clause-quiet : goal.claim_slot-slot-requires-clause-quiet
claim_slot-slot-requires-clause-quiet g c = subst (λ (s : CoreState). IsQuiet s.stage) (sym c.announce.ensures.machine) tt

pub finish-requires-clause-machine : goal.finish-requires-clause-machine
finish-requires-clause-machine g c = c.claim_slot-slot.ensures.machine ∙ ap (λ (s : CoreState). advance s c.claim_slot-slot.result) c.announce.ensures.machine

pub returns-clause-scanned : goal.returns-clause-scanned
returns-clause-scanned g c =
    let r = c.requires in
    let end = c.finish.ensures in
    let leads = leads_on _ _ _ (leads_on _ _ _ c.announce.ensures.leads c.claim_slot-slot.ensures.leads) end.leads in
    let begins = scan_begins _ _ _ c.args.core.now c.args.which.now r.held r.idle r.rests r.spare r.asked r.some r.announces in
    scan_named _ _ _ _ _ r.held r.idle c.args.core.now c.args.which.now begins _ c.begin_scan-at.ensures.begun leads _ _ end.replies _ c.finish.new.core.rows end.copied end.asked end.rows r.fresh

pub returns-clause-rests : goal.returns-clause-rests
returns-clause-rests g c =
    let r = c.requires in
    let end = c.finish.ensures in
    let leads = leads_on _ _ _ (leads_on _ _ _ c.announce.ensures.leads c.claim_slot-slot.ensures.leads) end.leads in
    let begins = scan_begins _ _ _ c.args.core.now c.args.which.now r.held r.idle r.rests r.spare r.asked r.some r.announces in
    scan_rests _ _ _ _ _ r.held r.idle c.args.core.now c.args.which.now begins _ c.begin_scan-at.ensures.begun leads _ _ end.replies _ r.rests end.rests

pub returns-clause-steps : goal.returns-clause-steps
returns-clause-steps g c =
    let r = c.requires in
    let end = c.finish.ensures in
    let leads = leads_on _ _ _ (leads_on _ _ _ c.announce.ensures.leads c.claim_slot-slot.ensures.leads) end.leads in
    let begins = scan_begins _ _ _ c.args.core.now c.args.which.now r.held r.idle r.rests r.spare r.asked r.some r.announces in
    scan_steps _ _ _ _ _ r.held r.idle c.args.core.now c.args.which.now begins _ c.begin_scan-at.ensures.begun leads _ _ end.replies c.begin_scan-at.ensures.steps

pub returns-clause-spent : goal.returns-clause-spent
returns-clause-spent g c =
    let r = c.requires in
    let first = first_store _ _ _ c.begin_scan-at.ensures.going c.args.core.now c.args.which.now _ c.begin_scan-at.ensures.begun.machine in
    let over = scan_over _ _ _ _ _ _ _ c.args.core.now c.args.which.now _ _ r.held c.begin_scan-at.ensures.begun first c.announce.ensures.leads c.announce.ensures.machine
    c.claim_slot-slot.ensures.over c.claim_slot-slot.ensures.machine c.finish.ensures.leads in
    let shape = c.claim_slot-slot.ensures.going.held.shape in
    let limit = ap (λ (e : Plan). e.limit) shape in
    let size = c.announcement_size-size.ensures in
    elim c.if-at-size.branch [
      | then-at-size w ↦
          let past = w.if-at-size.true in
          over ∙ ap (λ b. b || nat_lt (c.args.words.now.key.sizes.slots - c.args.words.now.key.ports) (c.claim_slot-slot.result + 1))
          (lt-ltb c.args.words.now.key.limit (c.begin_scan-at.result + announcement_size (length c.args.which.now)) (omega (arith, past, limit, size)))
          ∙ sym (lt-ltb c.claim_slot-slot.new.stand.shape.limit (c.begin_scan-at.result + c.announcement_size-size.result) past) ∙ sym w.spent-is
      | else-at-size w ↦
          let within = w.if-at-size.false in
          over ∙ ap (λ b. b || nat_lt (c.args.words.now.key.sizes.slots - c.args.words.now.key.ports) (c.claim_slot-slot.result + 1))
          (not_below c.args.words.now.key.limit (c.begin_scan-at.result + announcement_size (length c.args.which.now)) (omega (arith, within, limit, size)))
          ∙ ap (λ (e : Plan). nat_lt (e.sizes.slots - e.ports) (c.claim_slot-slot.result + 1)) shape ∙ sym w.is_last_slot.ensures ∙ sym w.spent-is
    ]
