-- An unsealed word is one of the present epoch.
use Rattle.partial_epochs.proofs.Common.{ℕ, ◌≡◌, ◌<◌, List, length, sym, ap, subst, ◌∙◌, inl, inr, slice_index, option_map, eqb_tells, some_same, Plan, Site, IsSealed, component_words, Port, Epoch, IsSiteWord, Beside, site_now, IsStanding, LawfulEpochs, IsPresent, UnsealedIsPresent, Stands, arena_limit, packed, unpacked, ◌≤◌, arith}

pub same_site : (p q : Site) → p.epoch ≡ q.epoch → p.arena ≡ q.arena → p ≡ q
same_site p q r s = ap (λ (n : ℕ). record p { epoch = n }) r ∙ ap (λ (n : ℕ). record q { arena = n }) s

-- a site is the one that its word names
pub unpacked_is : {n : ℕ} (c : Site) → n ≤ arena_limit → c.arena < n → unpacked (packed c) ≡ c
unpacked_is c few low =
    let epoch : (unpacked (packed c)).epoch ≡ c.epoch = omega (arith, few, low) in
    let arena : (unpacked (packed c)).arena ≡ c.arena = omega (arith, few, low) in
    same_site (unpacked (packed c)) c epoch arena

module _ (e : Plan) (words : List ℕ) (ports : ℕ → Port) (b : Beside) (k : ℕ) (w : LawfulEpochs e words ports b) (below : k < e.ports)
    (stands : (ports k).control.entering ≡ Stands) where
  abbrev here : Site
  here = (ports k).control.here

  abbrev pub standing : IsStanding b k (ports k)
  standing = w.standing k below stands

  -- the number of its epoch
  pub numbered : length standing.epoch.before ≡ here.epoch
  numbered =
      let at = subst (IsSiteWord e _ k here) stands (w.control.at k below) in
      let held = w.control.stands k here below (w.control.sites k below) at in
      some_same (ap (option_map (λ (r : Epoch). length r.before)) (sym standing.is) ∙ held)

  -- it is the present epoch where the arena is the present one
  pub present : here.arena ≡ b.arena → IsPresent b k (ports k)
  present same =
      let r : Epoch = w.now.0 in
      let is : standing.epoch ≡ r = some_same (sym standing.is ∙ ap b.holds same ∙ w.now.1) in
      let before : standing.epoch.before ≡ b.before = ap (λ (r : Epoch). r.before) is ∙ w.now.3 in
      record {
        standing = standing;
        here = same_site here (site_now b) (sym numbered ∙ ap length before) same;
        log = ap (λ (r : Epoch). r.log) is ∙ w.now.2;
        before = sym standing.before ∙ before;
      }

  pub by_seal : (j : ℕ) → j < e.sizes.m → ¬ IsSealed (slice_index (component_words e words here.arena) j) → IsPresent b k (ports k)
  by_seal j inside unsealed = elim (eqb_tells here.arena b.arena) [
    | inl same ↦ present same.1
    | inr other ↦ absurd (unsealed ((w.arenas here.arena standing.epoch standing.is).sealed other.1 j inside))
  ]

pub unsealed_is_present : UnsealedIsPresent
unsealed_is_present e words ports b k j w below stands inside unsealed = by_seal e words ports b k w below stands j inside unsealed
