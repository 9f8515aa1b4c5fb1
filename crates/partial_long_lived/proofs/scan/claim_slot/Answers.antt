use Rattle.partial_long_lived.proofs.{Common.{Add, Plan, Some, ap, plan_of, port_at, refl, sym, ◌∙◌, ◌||◌}, Scans.slot_over, Straight.{add_asked, add_told, going_on, leads_there, over_there, step_there}}
use Rattle.partial_words.specs.Layout.{slot_counter}
use Rattle.partial_long_lived.proofs.scan.claim_slot.Goals as goal

pub fetch_add-requires : goal.fetch_add-requires
fetch_add-requires c =
    let w = c.requires.going in
    let at = c.from.ensures ∙ c.slot_counter.ensures ∙ ap (λ (e : Plan). slot_counter e.sizes) (sym w.held.shape) in
    let due = c.requires.due ∙ ap (λ v. Some (Add v 1)) (sym at) in
    (w.held.fits, step_there _ _ _ w (Add _ _) due, add_asked _ _ _ w c.requires.quiet _ _ due _ _)

pub returns-clause-going : goal.returns-clause-going
returns-clause-going c =
    let w = c.requires.going in
    let at = c.from.ensures ∙ c.slot_counter.ensures ∙ ap (λ (e : Plan). slot_counter e.sizes) (sym w.held.shape) in
    let due = c.requires.due ∙ ap (λ v. Some (Add v 1)) (sym at) in
    let told = c.fetch_add.ensures.2 in
    going_on _ _ _ w (Add _ _) due _ c.fetch_add.ensures.0 told.0 told.1 _ (add_told _ _ _ w c.requires.quiet _ _ due _ _ told.2) refl refl refl refl refl refl

pub returns-clause-leads : goal.returns-clause-leads
returns-clause-leads c =
    let w = c.requires.going in
    let at = c.from.ensures ∙ c.slot_counter.ensures ∙ ap (λ (e : Plan). slot_counter e.sizes) (sym w.held.shape) in
    let due = c.requires.due ∙ ap (λ v. Some (Add v 1)) (sym at) in
    let told = c.fetch_add.ensures.2 in
    leads_there _ _ _ w (Add _ _) due _ c.fetch_add.ensures.0 told.0 told.1 _ (add_told _ _ _ w c.requires.quiet _ _ due _ _ told.2) refl refl refl refl refl refl c.fetch_add.ensures.3

pub returns-clause-machine : goal.returns-clause-machine
returns-clause-machine c =
    let w = c.requires.going in
    let at = c.from.ensures ∙ c.slot_counter.ensures ∙ ap (λ (e : Plan). slot_counter e.sizes) (sym w.held.shape) in
    let due = c.requires.due ∙ ap (λ v. Some (Add v 1)) (sym at) in
    let told = c.fetch_add.ensures.2 in
    sym (add_told _ _ _ w c.requires.quiet _ _ due _ _ told.2).told.machine.is

pub returns-clause-over : goal.returns-clause-over
returns-clause-over c =
    let w = c.requires.going in
    let at = c.from.ensures ∙ c.slot_counter.ensures ∙ ap (λ (e : Plan). slot_counter e.sizes) (sym w.held.shape) in
    let due = c.requires.due ∙ ap (λ v. Some (Add v 1)) (sym at) in
    let told = c.fetch_add.ensures.2 in
    over_there _ _ _ w (Add _ _) due (record c.args.stand.now { seat = c.fetch_add.new.seat }) c.fetch_add.ensures.0 told.0 told.1 _ (add_told _ _ _ w c.requires.quiet _ _ due _ _ told.2) refl refl refl refl refl refl
    ∙ ap (λ b. (port_at c.args.stand.now).port.over || b) (slot_over (plan_of c.args.words.now.key) _ _ at)
