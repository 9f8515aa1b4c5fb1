-- The calls of a port and their events, cut at a call.
use Rattle.partial_replay.proofs.Common.{ℕ, ◌≡◌, ◌+◌, ◌++◌, List, [], ◌∷◌, length, take, drop, refl, sym, ◌∙◌, ap, subst, sum_by-cons, Called, CoreState, Moment, IsCallRun, AreStepsOf, steps_in, take-append_seam, take-append-add, drop-append_seam, drop-append-add}

-- the events of the calls in front of one, its own, and those after it
pub record IsCut (s : CoreState) (front : List Called) (c : Called) (behind : List Called) (xs : List Moment) (last : CoreState) : Type 0 where
  pub at : CoreState
  pub next : CoreState
  pub led : AreStepsOf s front (take (steps_in front) xs) at
  pub call' : IsCallRun at c (take c.steps (drop (steps_in front) xs)) next
  pub events : length (take c.steps (drop (steps_in front) xs)) ≡ c.steps
  pub rest : AreStepsOf next behind (drop c.steps (drop (steps_in front) xs)) last

take_front : (own xs : List Moment) (n : ℕ) → length own ≡ n → take n (own ++ xs) ≡ own
take_front own xs n long = ap (λ k. take k (own ++ xs)) (sym long) ∙ take-append_seam own xs

drop_front : (own xs : List Moment) (n : ℕ) → length own ≡ n → drop n (own ++ xs) ≡ xs
drop_front own xs n long = ap (λ k. drop k (own ++ xs)) (sym long) ∙ drop-append_seam own xs

pub steps_cut : (s last : CoreState) (front : List Called) (c : Called) (behind : List Called) (xs : List Moment) → AreStepsOf s (front ++ c ∷ behind) xs last → IsCut s front c behind xs last
steps_cut s last [] c behind xs w =
    let own = w.0 in
    let here : take c.steps xs ≡ own = ap (take c.steps) w.3 ∙ take_front own (w.1) c.steps w.4 in
    let past : drop c.steps xs ≡ w.1 = ap (drop c.steps) w.3 ∙ drop_front own (w.1) c.steps w.4 in
    record {
      at = s;
      next = w.2;
      led = (refl, refl);
      call' = subst (λ (l : List Moment). IsCallRun s c l (w.2)) (sym here) w.5;
      events = ap length here ∙ w.4;
      rest = subst (λ (l : List Moment). AreStepsOf (w.2) behind l last) (sym past) w.6;
    }
steps_cut s last (d ∷ front) c behind xs w =
    let own = w.0 in
    let cut = steps_cut (w.2) last front c behind (w.1) w.6 in
    let sum : steps_in (d ∷ front) ≡ length own + steps_in front = sum_by-cons (λ (e : Called). e.steps) d front ∙ ap (λ k. k + steps_in front) (sym w.4) in
    let front' : take (steps_in (d ∷ front)) xs ≡ own ++ take (steps_in front) (w.1) = ap (λ k. take k xs) sum ∙ ap (take (length own + steps_in front)) w.3 ∙ take-append-add own
    (w.1) (steps_in front) in
    let past : drop (steps_in front) (w.1) ≡ drop (steps_in (d ∷ front)) xs =
    sym (ap (λ k. drop k xs) sum ∙ ap (drop (length own + steps_in front)) w.3 ∙ drop-append-add own (w.1) (steps_in front)) in
    record {
      at = cut.at;
      next = cut.next;
      led = (own, take (steps_in front) (w.1), w.2, front', w.4, w.5, cut.led);
      call' = subst (λ (l : List Moment). IsCallRun cut.at c (take c.steps l) cut.next) past cut.call';
      events = subst (λ (l : List Moment). length (take c.steps l) ≡ c.steps) past cut.events;
      rest = subst (λ (l : List Moment). AreStepsOf cut.next behind (drop c.steps l) last) past cut.rest;
    }
