use Rattle.partial_memory.proofs.{Common.{◌<◌, Some, refl, sym, ap, subst, ◌∙◌, inl, Load, total, About}, Calls.runs_within, Steps.step_asked, Straight.{first_counts, first_leads}}
use Rattle.partial_memory.proofs.lines.begin_load.Goals as goal

pub load-requires : goal.load-requires
load-requires g c =
    let due = c.requires.due ∙ ap (λ w. Some (Load w)) (sym c.component_word-word.ensures) in
    let within = runs_within _ _ _ _ (Load c.component_word-word.result) c.requires.begins (inl (refl, refl)) due in
    let there = subst (λ n. c.component_word-word.result < n) (sym c.requires.rest.words) (subst (λ (o : About). c.component_word-word.result < total o.sizes) c.requires.rest.own within) in
    let r = step_asked _ _ _ _ _ _ _ _ (Load _) there c.requires.one c.requires.rest.own refl (inl c.requires.begins.begun, due) refl in
    (c.requires.rest.fits, r.0, r.1)

pub returns-clause-going : goal.returns-clause-going
returns-clause-going g c =
    let told = c.load.ensures.2.1 in
    let due = c.requires.due ∙ ap (λ w. Some (Load w)) (sym c.component_word-word.ensures) in
    record {
      fits = c.load.ensures.0 ∙ c.requires.rest.fits;
      words = c.requires.rest.words;
      one = c.load.ensures.2.0;
      own = told.about ∙ c.requires.rest.own;
      under = (_, _, c.requires.begins, first_leads _ _ c.requires.begins (Load _) due _ _ told);
    }

pub returns-clause-counted : goal.returns-clause-counted
returns-clause-counted g c =
    let due = c.requires.due ∙ ap (λ w. Some (Load w)) (sym c.component_word-word.ensures) in
    first_counts _ _ c.requires.begins (Load _) due _ _ c.load.ensures.2.1 _ _ c.load.ensures.3
