-- How many steps a call has made, over every run.
use Rattle.partial_machine.proofs.{Common.{ℕ, ◌≡◌, ◌+◌, ◌≤◌, Option, List, [], ◌∷◌, length, Some, None, refl, sym, ◌∙◌, ap, subst, arith, Call, IsLayout, update_call, call_at, Reply, Stage, ReadBegun, LoadingValue, UpdateBegun, ScanBegun, Finished, CoreState, at_stage, advance, advance_at, reply_of, reply_at, IsSound, is_sound_at, IsPossibleAt, most_steps, left_at, steps_left, Run, StaysSound, MakesFewSteps, ReadsInTwo}, Sound.kept}
use Rattle.partial_embedded.specs.Embedded as viewing

pub stays_sound : StaysSound
stays_sound s t [] layout w is = (subst IsSound (sym is) w, let same : steps_left t ≡ steps_left s = ap steps_left is in omega (arith, same))
stays_sound s t (x ∷ xs) layout w run =
    let k = kept s x layout w run.0 in
    let rest = stays_sound (advance s x) t xs (subst IsLayout (sym k.sizes) layout) k.sound run.1 in
    let fewer = k.fewer in
    let steps = rest.1 in
    (rest.0, omega (arith, fewer, steps))

-- a machine that has begun a call has no more steps left than such a call may make
begun_few : (s : CoreState) (t : Stage) (c : Call) → IsSound s → s.stage ≡ t → call_at s t ≡ Some c → left_at s t ≤ most_steps s.sizes c
begun_few s (ReadBegun j) c w e is = let same : Call.Read j ≡ c = cc in subst (λ (d : Call). 2 ≤ most_steps s.sizes d) same (omega arith)
begun_few s (UpdateBegun d) c w e is = let same : update_call d.component d.expected d.value ≡ c = cc in subst (λ (f : Call). left_at s (UpdateBegun d) ≤ most_steps s.sizes f) same (either d.expected)
  where
    either : (f : Option ℕ) → left_at s (UpdateBegun d) ≤ most_steps s.sizes (update_call d.component f d.value)
    either None = omega arith
    either (Some x) = omega arith
begun_few s ScanBegun c w e is =
    let same : Call.Scan s.asked ≡ c = cc in
    let some = (subst (is_sound_at s) e w.stage).0 in
    subst (λ (f : Call). left_at s ScanBegun ≤ most_steps s.sizes f) same (positions s.asked refl)
  where
    positions : (js : List ℕ) → s.asked ≡ js → length js + 5 + viewing.most_view_steps s.sizes (length js) ≤ most_steps s.sizes (Call.Scan js)
    positions [] is = let some = (subst (is_sound_at s) e w.stage).0 in let none : length s.asked ≡ 0 = ap length is in absurd (omega (arith, some, none))
    positions (j ∷ js) is = omega arith
begun_few s _ c w e is = absurd cc

pub makes_few_steps : MakesFewSteps
makes_few_steps s t c xs layout w made run =
    let steps = (stays_sound s t xs layout w run).1 in
    let most = begun_few s s.stage c w refl made in
    omega (arith, steps, most)

-- a machine at a stage without a reply has none
not_yet : {P : Type 0} (s t : CoreState) (u : Stage) (r : Reply) → s.stage ≡ u → reply_at u ≡ None → t ≡ s → reply_of t ≡ Some r → P
not_yet s t u r e none run done = let f : None ≡ Some r = sym none ∙ sym (ap reply_at e) ∙ ap reply_of (sym run) ∙ done in cc

pub reads_in_two : ReadsInTwo
reads_in_two s t i [] r e run done = not_yet s t (ReadBegun i) r e refl run done
reads_in_two s t i (x ∷ xs) r e run done = let n = loaded xs (ap (λ u. advance_at s u x) e) run.1 in omega (arith, n)
  where
    loaded : (ys : List ℕ) {q : CoreState} → q ≡ at_stage s (LoadingValue x) → Run q ys t → 1 + length ys ≡ 2
    loaded [] {q} is run = not_yet q t (LoadingValue x) r (ap (λ (v : CoreState). v.stage) is) refl run done
    loaded (y ∷ []) is run = refl
    loaded (y ∷ z ∷ zs) {q} is run =
        let next : (advance q y).stage ≡ Finished (Reply.Read y x) = ap (λ (v : CoreState). (advance v y).stage) is in
        absurd (subst (λ u. IsPossibleAt (advance q y) u z) next run.1.0)
