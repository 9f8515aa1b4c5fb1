use Rattle.partial_memory.proofs.{Common.{ℕ, ◌≡◌, ◌<◌, Option, Some, refl, sym, ap, subst, ◌∙◌, inl, Step, Add, Layout, pool_counter, total, step_of, About}, Calls.runs_within, Steps.step_asked, Straight.{first_counts, first_leads}}
use Rattle.partial_memory.proofs.lines.begin_scan.Goals as goal

claim_due : (due : Option Step) (z y : Layout) (word size n : ℕ) → due ≡ Some (Add (pool_counter z) n) → y ≡ z → word ≡ pool_counter y → size ≡ n → due ≡ Some (Add word size)
claim_due o z y word size n due same is many =
    due ∙ ap (λ (u : Layout). Some (Add (pool_counter u) n)) (sym same) ∙ ap (λ w. Some (Add w n)) (sym is) ∙ ap (λ k. Some (Add word k)) (sym many)

pub fetch_add-requires : goal.fetch_add-requires
fetch_add-requires g c =
    let due = claim_due _ _ _ _ _ _ (ap step_of c.requires.moment) c.sizes.ensures c.pool_counter-word.ensures c.announcement_size-size.ensures in
    let within = runs_within _ _ _ _ (Add c.pool_counter-word.result _) c.requires.begins (inl (refl, refl)) due in
    let there = subst (λ n. c.pool_counter-word.result < n) (sym c.requires.rest.words) (subst (λ (o : About). c.pool_counter-word.result < total o.sizes) c.requires.rest.own within) in
    let r = step_asked _ _ _ _ _ _ _ _ (Add _ _) there c.requires.one c.requires.rest.own refl (inl c.requires.begins.begun, due) refl in
    (c.requires.rest.fits, r.0, r.1)

pub returns-clause-going : goal.returns-clause-going
returns-clause-going g c =
    let told = c.fetch_add.ensures.2.1 in
    let due = claim_due _ _ _ _ _ _ (ap step_of c.requires.moment) c.sizes.ensures c.pool_counter-word.ensures c.announcement_size-size.ensures in
    record {
      fits = c.fetch_add.ensures.0 ∙ c.requires.rest.fits;
      words = c.requires.rest.words;
      one = c.fetch_add.ensures.2.0;
      own = told.about ∙ c.requires.rest.own;
      under = (_, _, c.requires.begins, first_leads _ _ c.requires.begins (Add _ _) due _ _ told);
    }

pub returns-clause-counted : goal.returns-clause-counted
returns-clause-counted g c =
    let due = claim_due _ _ _ _ _ _ (ap step_of c.requires.moment) c.sizes.ensures c.pool_counter-word.ensures c.announcement_size-size.ensures in
    first_counts _ _ c.requires.begins (Add _ _) due _ _ c.fetch_add.ensures.2.1 _ _ c.fetch_add.ensures.3
