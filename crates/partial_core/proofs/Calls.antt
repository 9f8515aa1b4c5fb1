-- A port's call under way: where its answers lead its machine, and what it knows then.
use Rattle.partial_core.proofs.{Common.{ℕ, true, ◌≡◌, ◌<◌, ◌≤◌, ◌++◌, if◌then◌else◌, List, [], ◌∷◌, length, refl, sym, ap, subst, ◌∙◌, arith, false≢true, cond_both, Applied, Opening, Layout, IsLayout, announcement_size, Stage, Idle, ReadBegun, UpdateBegun, ScanBegun, StoringAnnouncement, Finished, CoreState, at_stage, expects, fits_pool, pool_refused, begin_getting, advance_at, advance, step_at, IsSound, IsPossibleAt, Holding, LawfulWords, KeptAnswer, led_by, joins_at, joined_from, IsTrueYet, AreAnswersKept, has_no_step, is_sound_at, Reply}, MidCalls.{Knows, on_at}}
use Rattle.partial_machine.proofs.Sound.{Keeps, kept}

-- how long the history was at the last of the answers
pub last_at : ℕ → List KeptAnswer → ℕ
last_at high [] = high
last_at high (k ∷ ks) = last_at k.at ks

-- one answer more leads on from where the answers led
pub led_push : (s : CoreState) (ks : List KeptAnswer) (k : KeptAnswer) → led_by s (ks ++ k ∷ []) ≡ advance (led_by s ks) k.answer
led_push s [] k = refl
led_push s (x ∷ ks) k = led_push (advance s x.answer) ks k

pub joined_push : (since : ℕ) (s : CoreState) (ks : List KeptAnswer) (k : KeptAnswer) →
    joined_from since s (ks ++ k ∷ []) ≡ (if joins_at (led_by s ks) (led_by s ks).stage then k.at else joined_from since s ks)
joined_push since s [] k = refl
joined_push since s (x ∷ ks) k = joined_push (if joins_at s s.stage then x.at else since) (advance s x.answer) ks k

-- what is left of a machine by its answers
pub record IsLed (z : Layout) (s t : CoreState) : Type 0 where
  pub sound : IsSound t
  pub sizes : t.sizes ≡ z
  pub port : t.port ≡ s.port
  pub asked : t.asked ≡ s.asked

pub led : (z : Layout) (o : Opening) (words : List ℕ) (hs : List Holding) (log : List Applied) (low : ℕ) (s : CoreState) (ks : List KeptAnswer) → IsLayout z → s.sizes ≡ z → IsSound s →
    AreAnswersKept z o words hs log low s ks → IsLed z s (led_by s ks)
led z o words hs log low s [] layout sizes sound w = record { sound = sound; sizes = sizes; port = refl; asked = refl }
led z o words hs log low s (k ∷ ks) layout sizes sound w =
    let one : Keeps s (advance s k.answer) = kept s k.answer (subst IsLayout (sym sizes) layout) sound w.0.possible in
    let rest = led z o words hs log k.at (advance s k.answer) ks layout (one.sizes ∙ sizes) one.sound w.1 in
    record { sound = rest.sound; sizes = rest.sizes; port = rest.port ∙ one.port; asked = rest.asked ∙ one.positions }

module _ (z : Layout) (o : Opening) (words : List ℕ) (hs : List Holding) (log : List Applied) (w : LawfulWords z o words hs log) (begun : CoreState) where
  layout : IsLayout z
  layout = w.sizes

  -- after the first answer
  first_on : (since : ℕ) (s : CoreState) (k : KeptAnswer) (t : Stage) → s ≡ begun → s.sizes ≡ z → s.stage ≡ t → has_no_step t ≡ true → is_sound_at s t → IsPossibleAt s t k.answer →
      IsTrueYet z o words hs log (step_at s t) k → Knows z o words hs log begun k.at since k.at (advance_at s t k.answer)
  first_on since s k Idle is sizes e none may possible yet = absurd possible
  first_on since s k (ReadBegun j) is sizes e none may possible yet = (j, ap (λ (c : CoreState). c.stage) (sym is) ∙ e, yet.component (subst (λ (y : Layout). j < y.m) sizes may))
  first_on since s k (UpdateBegun c) is sizes e none may possible yet = cond_both (expects c k.answer) (begin_getting s c k.answer) (at_stage s (Finished (Reply.Changed k.answer)))
      (λ (t : CoreState). Knows z o words hs log begun k.at since k.at t)
      (λ expected. (record { called = ap (λ (d : CoreState). d.stage) (sym is) ∙ e; expected = expected; stamp = yet.component (subst (λ (y : Layout). c.component < y.m) sizes may.0) }, tt))
      (λ other. tt)
  first_on since s k ScanBegun is sizes e none may possible yet = cond_both (fits_pool s.sizes (announcement_size (length s.asked)) k.answer) (at_stage s (StoringAnnouncement k.answer 0))
      (pool_refused s)
      (λ (t : CoreState). Knows z o words hs log begun k.at since k.at t)
      (λ fits. record { called = ap (λ (d : CoreState). d.stage) (sym is) ∙ e; asked = ap (λ (d : CoreState). d.asked) is })
      (λ refused. tt)
  first_on since s k _ is sizes e none may possible yet = absurd (false≢true none)

  -- what a machine knows after further answers
  pub record HasGone (first since high : ℕ) (s : CoreState) : Type 0 where
    pub order : first ≤ high
    pub inside : high ≤ length log
    pub knows : Knows z o words hs log begun first since high s

  led_on : (first since high : ℕ) (s : CoreState) (ks : List KeptAnswer) → s.sizes ≡ z → IsSound s → HasGone first since high s → AreAnswersKept z o words hs log high s ks →
      HasGone first (joined_from since s ks)
      (last_at high ks) (led_by s ks)
  unfolding last_at
  led_on first since high s [] sizes sound g kept_all = g
  led_on first since high s (k ∷ ks) sizes sound g kept_all =
      let one : Keeps s (advance s k.answer) = kept s k.answer (subst IsLayout (sym sizes) layout) sound kept_all.0.possible in
      let order = g.order in
      let behind = kept_all.0.behind in
      let next : HasGone first (if joins_at s s.stage then k.at else since) k.at (advance s k.answer) = record {
        order = omega (arith, order, behind);
        inside = kept_all.0.within;
        knows = on_at z o words hs log w begun first since high order s sizes sound k behind kept_all.0.within s.stage refl g.knows kept_all.0.possible kept_all.0.true_yet;
      } in
      led_on first (if joins_at s s.stage then k.at else since) k.at (advance s k.answer) ks (one.sizes ∙ sizes) one.sound next kept_all.1

  -- a call that has made a step
  pub called_on : (low : ℕ) (k : KeptAnswer) (ks : List KeptAnswer) → begun.sizes ≡ z → IsSound begun → has_no_step begun.stage ≡ true → AreAnswersKept z o words hs log low begun (k ∷ ks) →
      HasGone k.at (joined_from 0 begun (k ∷ ks)) (last_at low (k ∷ ks)) (led_by begun (k ∷ ks))
  unfolding last_at
  called_on low k ks sizes sound may kept_all =
      let one : Keeps begun (advance begun k.answer) = kept begun k.answer (subst IsLayout (sym sizes) layout) sound kept_all.0.possible in
      led_on k.at (if joins_at begun begun.stage then k.at else 0) k.at (advance begun k.answer) ks (one.sizes ∙ sizes) one.sound (record {
        order = omega arith;
        inside = kept_all.0.within;
        knows = first_on (if joins_at begun begun.stage then k.at else 0) begun k begun.stage refl sizes refl may sound.stage kept_all.0.possible kept_all.0.true_yet;
      }) kept_all.1
