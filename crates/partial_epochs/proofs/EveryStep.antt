-- Every step of every port keeps the memory lawful.
use Rattle.partial_epochs.proofs.{Common.{ℕ, ◌≡◌, ◌+◌, ◌-◌, ◌<◌, ◌≤◌, ◌⊎◌, ◌++◌, List, [], ◌∷◌, length, slice_index, refl, sym, ap, subst, ◌∙◌, inl, inr, arith, append-nil, Applied, eqb_tells, Noted, Step, Add, CoreState, put, Site, Plan, at_word, current_word, packed, seal, Control, Port, history_of, public_log, StoredEntering, Loaded, Beside, LawfulEpochs, site_now, arrived_port, having_passed, MayPut, at_next_port, having_given, having_loaded, having_looked, having_put, just_taken, owning_port, having_published, having_set, next_beside, vacated, EveryStepStaysLawful, IsSiteAfter, MayAdd, MayMove, MemoriesOpenLawful, Move, MoveLeads, moved_words, since_after, Makes, Seals, PassesSealed, LooksAsOwner, StoresEnteringWord, LoadsCurrent, ExchangesEnteringWord, Takes, Gives, FindsElsewhere, LoadsEnteringWord, Puts, Sets, Notes, Sees, Rests, Becomes, IsBesideAs, IsSight, IsStanding, Bool, if◌then◌else◌, entering_bit, noted_after, unpacked, MachineLeads, IsAside, LawfulMemory, having_seen, noting, one_history, FindsClear, passing_port, KeepsTime}, Entering.{arrivals_stay_lawful, entries_load, looks_are_true, entering_words_stay_lawful}, Lists.put_all, MachineSteps.machine_steps_stay_lawful, NotesStay.{adds_of, history_is, notes_stay_lawful}, OpensAll.epochs_open_lawful, OwnerLooks.owners_look, Present.unpacked_is, Publishes.publishes_stay_lawful, Puts.puts_stay_lawful, Seals.{sealed_passes_stay_lawful, seals_stay_lawful}, Sets.{clear_slots_count_as_set, sets_stay_lawful}, Sights.{arrivals_keep_notes, asides_stay_lawful, glances_stay_lawful, publishes_keep_notes, sights_stay_lawful}, Taking.{gives_stay_lawful, entering_words_are_loaded, others_are_elsewhere, owners_look_away, takes_stay_lawful}, Time.{arrivals_keep_time, asides_keep_time, entries_keep_time, loaded_entering_words_keep_time, looks_keep_time, entering_words_keep_time, not_again, one_aside, publishes_keep_time, puts_keep_time, puts_nobody, set_puts, steps_keep_sites}}
use Rattle.partial_epochs.specs.EveryStep.Move.{Looks, Publishes}

module _ (e : Plan) (words : List ℕ) (ports : ℕ → Port) (b : Beside) (notes : ℕ → List Noted) (k : ℕ) (w : LawfulMemory e words ports b notes) (below : k < e.ports) where
  -- where the port is, by a move that isn't the third step of entering
  abbrev Stays : Move → Type 0
  Stays m = (there : Site) → there ≡ (ports k).control.here → IsSiteAfter m (ports k).control.here there

  -- the one history stays
  same_history : (c : Beside) → c.log ≡ b.log → c.before ≡ b.before → one_history c ≡ one_history b ++ []
  same_history c log before =
      ap (λ (l : List Applied). history_of (l ∷ c.before)) log ∙ ap (λ (l : List (List Applied)). history_of (b.log ∷ l)) before ∙ sym (append-nil (one_history b))

  -- time is kept
  abbrev Timed : Move → List ℕ → (ℕ → Port) → Beside → Type 0
  Timed m words' ports' c = (since : ℕ → ℕ) → KeepsTime e words ports (site_now b) since → KeepsTime e words' ports' (site_now c) (since_after b k m since)

  abbrev Keeps : List ℕ → (ℕ → Port) → Beside → Type 0
  Keeps words' ports' c = (since : ℕ → ℕ) → KeepsTime e words ports (site_now b) since → KeepsTime e words' ports' (site_now c) since

  -- where no port's word changes, and the port stays where it is
  keeps : (words' : List ℕ) (p : Port) (c : Beside) → ((q : ℕ) → q < e.ports → slice_index words' (at_word q) ≡ slice_index words (at_word q)) → p.control.here ≡ (ports k).control.here →
      p.control.entering ≡ (ports k).control.entering → ((j : ℕ) (a : Site) → MayPut p.control j a → MayPut (ports k).control j a) → length b.before ≤ length c.before → Keeps words' (put k p ports) c
  keeps words' p c at here entering puts later since t = asides_keep_time e words words' ports (put k p ports) (site_now b) (site_now c) since
      (one_aside e words words' ports k p (site_now b) (site_now c) at here entering puts later) t

  -- where no word changes
  keeps_words : (p : Port) → p.control.here ≡ (ports k).control.here → p.control.entering ≡ (ports k).control.entering → ((j : ℕ) (a : Site) → MayPut p.control j a → MayPut (ports k).control j a) →
      Keeps words (put k p ports) b
  keeps_words p here entering puts = keeps words p b (λ q low. refl) here entering puts (omega arith)

  -- a port that has seen another current epoch
  keeps_passed : Keeps words (put k (having_passed (ports k)) ports) b
  keeps_passed = keeps_words (having_passed (ports k)) refl refl (λ j a may. record { owned = may.owned; is = may.is; port = may.port; entering_word = may.entering_word; again = may.again })

  keeps_machine : (c : CoreState) (step : Step) (more : Bool) (lead : MachineLeads e words ports b k c step) → Keeps (moved_words e words (ports k) k (Makes c step more)) (put k lead.port ports) lead.beside
  keeps_machine c step more lead =
      let same = ap (λ (l : List (List Applied)). length l) lead.epochs in
      keeps (moved_words e words (ports k) k (Makes c step more)) lead.port lead.beside (λ q low. (steps_keep_sites e words q low).arena (ports k).control.here.arena step)
      (ap (λ (t : Control). t.here) lead.control) (ap (λ (t : Control). t.entering) lead.control)
      (λ j a. subst (λ (t : Control). MayPut t j a → MayPut (ports k).control j a) (sym lead.control) (λ may. may))
      (omega (arith, same))

  keeps_pass : (words' : List ℕ) (c : Beside) → ((q : ℕ) → q < e.ports → slice_index words' (at_word q) ≡ slice_index words (at_word q)) → c.before ≡ b.before →
      Keeps words' (put k (passing_port (ports k)) ports) c
  keeps_pass words' c at epochs = let same = ap (λ (l : List (List Applied)). length l) epochs in keeps words' (passing_port (ports k)) c at refl refl (λ j a may. may) (omega (arith, same))

  keeps_seen : (log : List Applied) (c : Beside) → c.before ≡ b.before → Keeps words (put k (having_seen (ports k) log) ports) c
  keeps_seen log c epochs = let same = ap (λ (l : List (List Applied)). length l) epochs in keeps words (having_seen (ports k) log) c (λ q low. refl) refl refl (λ j a may. may) (omega (arith, same))

  -- notes that grow by nothing
  nothing_noted : (q : ℕ) → notes q ≡ noting k [] notes q
  nothing_noted q = put_all (λ i (l : List Noted). notes i ≡ l) k (notes k ++ []) notes q (λ _. sym (append-nil (notes k))) (λ _. refl)

  -- a port that stays as it is
  same_ports : (q : ℕ) → ports q ≡ put k (ports k) ports q
  same_ports q = put_all (λ i (p : Port). ports i ≡ p) k (ports k) ports q (λ _. refl) (λ _. refl)

  -- only port k changes, and notes nothing
  goes : (m : Move) (words' : List ℕ) (p : Port) (c : Beside) → IsSiteAfter m (ports k).control.here p.control.here → one_history c ≡ one_history b ++ [] →
      Timed m words' (put k p ports) c → LawfulMemory e words' (put k p ports) c notes → Becomes e words ports b k m p c [] → MoveLeads e words words' ports b notes k m
  goes m words' p c site history time there becomes = record {
    port = p;
    beside = c;
    added = [];
    lawful = subst (λ (f : ℕ → List Noted). LawfulMemory e words' (put k p ports) c f) (λ i q. nothing_noted q i) there;
    becomes = becomes;
    site = site;
    entries = [];
    history = history;
    adds = inl refl;
    time = time;
  }

  aside : (m : Move) → Stays m → (words' : List ℕ) (p : Port) (c : Beside) → IsAside b c (ports k) p → Timed m words' (put k p ports) c →
      (IsAside b c (ports k) p → Becomes e words ports b k m p c []) → LawfulEpochs e words' (put k p ports) c → MoveLeads e words words' ports b notes k m
  aside m stays words' p c a time becomes there = goes m words' p c (stays p.control.here a.here) (same_history c a.log a.epochs) time
      (asides_stay_lawful e words words' ports b c notes k p w below a there) (becomes a)

  -- it changes, and notes so much
  noted : (m : Move) → Stays m → (words' : List ℕ) (p : Port) (c : Beside) (added : List Noted) (entries : List Applied) → p.control.here ≡ (ports k).control.here →
      one_history c ≡ one_history b ++ entries → (entries ≡ []) ⊎ MayAdd e words (ports k) m → Timed m words' (put k p ports) c →
      LawfulMemory e words' (put k p ports) c (noting k added notes) → Becomes e words ports b k m p c added → MoveLeads e words words' ports b notes k m
  noted m stays words' p c added entries same history adds time there becomes = record {
    port = p;
    beside = c;
    added = added;
    lawful = there;
    becomes = becomes;
    site = stays p.control.here same;
    entries = entries;
    history = history;
    adds = adds;
    time = time;
  }

  here : (p : Port) → p.part ≡ (ports k).part → p.before ≡ (ports k).before → p.control.here ≡ (ports k).control.here → IsAside b b (ports k) p
  here p part before site = record { log = refl; epochs = refl; part = part; before = before; here = site }

  -- nothing changes
  rests : (m : Move) → Stays m → ((since : ℕ → ℕ) → since_after b k m since ≡ since) → (IsAside b b (ports k) (ports k) → Becomes e words ports b k m (ports k) b []) → MoveLeads e words words ports b notes k m
  rests m stays untimed becomes =
      let itself : LawfulMemory e words (put k (ports k) ports) b notes = subst (λ (f : ℕ → Port). LawfulMemory e words f b notes) (λ i q. same_ports q i) w in
      goes m words (ports k) b (stays (ports k).control.here refl) (sym (append-nil (one_history b)))
      (λ since t. subst (λ (f : ℕ → ℕ). KeepsTime e words (put k (ports k) ports) (site_now b) f) (sym (untimed since))
      (subst (λ (f : ℕ → Port). KeepsTime e words f (site_now b) since) (λ i q. same_ports q i) t)) itself (becomes (here (ports k) refl refl refl))

  -- a port that has seen its epoch
  seen : (m : Move) → Stays m → (log : List Applied) (c : Beside) (added : List Noted) → IsBesideAs b c → Timed m words (put k (having_seen (ports k) log) ports) c →
      LawfulMemory e words (put k (having_seen (ports k) log) ports) c (noting k added notes) → Becomes e words ports b k m (having_seen (ports k) log) c added → MoveLeads e words words ports b notes k m
  seen m stays log c added same time there becomes = noted m stays words (having_seen (ports k) log) c added [] refl (same_history c same.log same.before) (inl refl) time there becomes

  pub every_step : (m : Move) → MayMove e words ports b notes k m → MoveLeads e words (moved_words e words (ports k) k m) ports b notes k m
  every_step Rests may = rests Rests (λ there is. is) (λ since. refl) (λ a. (refl, a, refl))
  every_step (Makes c step more) may = elim (machine_steps_stay_lawful e words ports b k c step w.epochs below may.0 may.1 may.2 may.3 may.4) [
    | inl met ↦ subst (λ (l : List ℕ). MoveLeads e words l ports b notes k (Makes c step more)) (sym met.1) (rests (Makes c step more) (λ there is. is) (λ since. refl) (λ a. inl (met.0, met.1, refl, refl, refl)))
    | inr lead ↦
        let added : List Noted = noted_after e (ports k) more lead.tells.new in
        let what = may.5 lead in
        noted (Makes c step more) (λ there is. is) (moved_words e words (ports k) k (Makes c step more)) lead.port lead.beside added (public_log (length b.before) lead.entries)
        (ap (λ (t : Control). t.here) lead.control) (history_is e words ports b notes k c step w below may.0 lead added what)
        (adds_of e words ports b notes k c step w below may.0 lead added what more) (keeps_machine c step more lead) (notes_stay_lawful e words ports b notes k c step w below may.0 lead added what)
        (inr (lead, refl, refl, refl))
  ]
  every_step Seals may =
      let l = seals_stay_lawful e words ports b k w.epochs below may.0 may.1 in
      aside Seals (λ there is. is) (moved_words e words (ports k) k Seals) (passing_port (ports k)) l.beside (record { log = l.same.log; epochs = l.same.before; part = refl; before = refl; here = refl })
      (keeps_pass (moved_words e words (ports k) k Seals) l.beside (λ q low. (steps_keep_sites e words q low).arena (ports k).control.here.arena (Add (ports k).passed seal)) l.same.before)
      (λ a. (refl, a, refl)) l.lawful
  every_step PassesSealed may =
      let l = sealed_passes_stay_lawful e words ports b k w.epochs below may.0 may.1 may.2 in
      aside PassesSealed (λ there is. is) words (passing_port (ports k)) l.beside (record { log = l.same.log; epochs = l.same.before; part = refl; before = refl; here = refl })
      (keeps_pass words l.beside (λ q low. refl) l.same.before) (λ a. (refl, a, refl)) l.lawful
  every_step Looks may =
      let after : Bool → Port = λ t. if t then ports k else having_passed (ports k) in
      (elim (eqb_tells (slice_index words current_word) (packed (ports k).control.here)) [
        | inl same ↦ rests Looks (λ there is. is) (λ since. refl) (λ a. (sym (ap after same.0), a, refl))
        | inr other ↦ (elim (looks_are_true e words ports b k w.epochs below may.0 may.1) [
          | inl now ↦ absurd (other.1 now.0)
          | inr past ↦ aside Looks (λ there is. is) words (having_passed (ports k)) b (here (having_passed (ports k)) refl refl refl) keeps_passed
              (λ a. (sym (ap after other.0), a, refl)) past.1
        ])
      ])
  every_step (LooksAsOwner o) may =
      let after : Bool → Port = λ t. if t then having_looked (ports k) o else having_passed (ports k) in
      (elim (eqb_tells (slice_index words current_word) (packed (ports k).control.here)) [
        | inl now ↦ aside (LooksAsOwner o) (λ there is. is) words (having_looked (ports k) o) b (here (having_looked (ports k) o) refl refl refl)
            (λ since t. looks_keep_time e words ports b k o since w.epochs below now.1 t) (λ a. (sym (ap after now.0), a, refl)) (owners_look e words ports b k o w.epochs below may.0 may.1 now.1).1
        | inr past ↦ aside (LooksAsOwner o) (λ there is. is) words (having_passed (ports k)) b (here (having_passed (ports k)) refl refl refl) keeps_passed
            (λ a. (sym (ap after past.0), a, refl)) (owners_look_away e words ports b k o w.epochs below may.0 past.1)
      ])
  every_step StoresEnteringWord may =
      let p : Port = record (ports k) { control = record (ports k).control { entering = StoredEntering } } in
      aside StoresEnteringWord (λ there is. is) (moved_words e words (ports k) k StoresEnteringWord) p b (here p refl refl refl)
      (λ since t. entering_words_keep_time e words ports b k since w.epochs below may.0 may.2 t) (λ a. (refl, a, refl)) (entering_words_stay_lawful e words ports b k w.epochs below may.0 may.1 may.2)
  every_step LoadsCurrent may =
      let p : Port = record (ports k) { control = record (ports k).control { entering = Loaded (site_now b) } } in
      let to = entries_load e words ports b k w.epochs below may in
      let site : unpacked (slice_index words current_word) ≡ site_now b = ap unpacked to.0 ∙ unpacked_is (site_now b) w.epochs.plan.arenas w.epochs.control.site.arena in
      aside LoadsCurrent (λ there is. is) words p b (here p refl refl refl) (λ since t. entries_keep_time e words ports b k since below t)
      (λ a. (ap (λ (c : Site). record (ports k) { control = record (ports k).control { entering = Loaded c } }) (sym site), a, refl)) to.1
  every_step (ExchangesEnteringWord c) may =
      let a = arrivals_stay_lawful e words ports b k c w.epochs below may in
      goes (ExchangesEnteringWord c) (moved_words e words (ports k) k (ExchangesEnteringWord c)) (arrived_port e k a.site a.before) b a.later (sym (append-nil (one_history b)))
      (λ since t. (arrivals_keep_time e words ports b k c since w.epochs below may t a).1) (arrivals_keep_notes e words ports b notes k c w below a)
      (a, refl, refl, refl, λ since t. (arrivals_keep_time e words ports b k c since w.epochs below may t a).0)
  every_step (Takes x) may =
      let p : Port = owning_port (ports k) (just_taken x) in
      aside (Takes x) (λ there is. is) (moved_words e words (ports k) k (Takes x)) p b (here p refl refl refl)
      (keeps (moved_words e words (ports k) k (Takes x)) p b (λ q low. (steps_keep_sites e words q low).taken x 0 (k + 1)) refl refl
      (λ j a may. absurd (not_again p.control (just_taken x) j a refl refl may)) (omega arith)) (λ a. (refl, a, refl))
      (takes_stay_lawful e words ports b k x w.epochs below may.0 may.1 may.2 may.3 may.4)
  every_step (Gives o) may =
      aside (Gives o) (λ there is. is) (moved_words e words (ports k) k (Gives o)) (having_given (ports k)) b (here (having_given (ports k)) refl refl refl)
      (keeps (moved_words e words (ports k) k (Gives o)) (having_given (ports k)) b (λ q low. (steps_keep_sites e words q low).given o.arena 0) refl refl
      (λ j a may. absurd (puts_nobody (having_given (ports k)).control j a refl may)) (omega arith)) (λ a. (refl, a, refl)) (gives_stay_lawful e words ports b k o w.epochs below may)
  every_step (FindsElsewhere o d) may =
      aside (FindsElsewhere o d) (λ there is. is) words (having_put (ports k) o) b (here (having_put (ports k) o) refl refl refl)
      (keeps_words (having_put (ports k) o) refl refl (λ j a may. absurd (not_again (having_put (ports k) o).control (at_next_port o) j a refl refl may))) (λ a. (refl, a, refl))
      (others_are_elsewhere e words ports b k o d w.epochs below may.0 may.1 may.2 may.3 may.4 may.5 may.6)
  every_step (LoadsEnteringWord o) may =
      let d : Site = (ports o.clean).control.here in
      let p : Port = owning_port (ports k) (having_loaded o d) in
      let to = entering_words_are_loaded e words ports b k o w.epochs below may.0 may.1 may.2 in
      let at = to.0 in
      let site : unpacked (slice_index words (at_word o.clean) - entering_bit) ≡ d =
      ap unpacked (omega (arith, at)) ∙ unpacked_is d w.epochs.plan.arenas (w.epochs.control.sites o.clean may.1).arena in
      aside (LoadsEnteringWord o) (λ there is. is) words p b (here p refl refl refl)
      (λ since t. loaded_entering_words_keep_time e words ports (site_now b) d k o since below t) (λ a. (ap (λ (c : Site). owning_port (ports k) (having_loaded o c)) (sym site), a, refl)) to.1
  every_step (Puts o a) may =
      aside (Puts o a) (λ there is. is) (moved_words e words (ports k) k (Puts o a)) (having_put (ports k) o) b (here (having_put (ports k) o) refl refl refl)
      (λ since t. puts_keep_time e words ports b k o a since w.epochs below may.0 may.2 may.4 may.5 may.6 t) (λ a. (refl, a, refl))
      (puts_stay_lawful e words ports b k o a w.epochs below may.0 may.1 may.2 may.3 may.4 may.5 may.6)
  every_step (Sets o v next) may =
      aside (Sets o v next) (λ there is. is) (moved_words e words (ports k) k (Sets o v next)) (having_set (ports k) o next) (vacated b o.arena)
      (record { log = refl; epochs = refl; part = refl; before = refl; here = refl })
      (keeps (moved_words e words (ports k) k (Sets o v next)) (having_set (ports k) o next) (vacated b o.arena) (λ q low. (steps_keep_sites e words q low).set o.arena o.set v) refl refl
      (λ j a may'. set_puts (ports k).control (having_set (ports k) o next).control o next j a may.0 refl may') (omega arith)) (λ a. (refl, a, refl))
      (sets_stay_lawful e words ports b k o v next w.epochs below may.0 may.1 may.2 may.3 may.4 may.5 may.6 may.7)
  every_step (FindsClear o next) may =
      aside (FindsClear o next) (λ there is. is) words (having_set (ports k) o next) (vacated b o.arena)
      (record { log = refl; epochs = refl; part = refl; before = refl; here = refl })
      (keeps words (having_set (ports k) o next) (vacated b o.arena) (λ q low. refl) refl refl
      (λ j a may'. set_puts (ports k).control (having_set (ports k) o next).control o next j a may.0 refl may') (omega arith)) (λ a. (refl, a, refl))
      (clear_slots_count_as_set e words ports b k o next w.epochs below may.0 may.1 may.2 may.3 may.4)
  every_step (Publishes o) may =
      let p : Port = having_published (ports k) o in
      (elim (publishes_stay_lawful e words ports b k o w.epochs below may) [
        | inl won ↦
            let kept = publishes_keep_notes e words (moved_words e words (ports k) k (Publishes o)) ports b notes k o w below won.2 in
            goes (Publishes o) (moved_words e words (ports k) k (Publishes o)) p (next_beside e b o.arena) refl
            (kept.1 ∙ sym (append-nil (one_history b)))
            (λ since t. publishes_keep_time e words ports (site_now b) (site_now (next_beside e b o.arena)) k o since below (omega arith) t) kept.0 (refl, refl, inl (won.0, refl))
        | inr lost ↦ aside (Publishes o) (λ there is. is) (moved_words e words (ports k) k (Publishes o)) p b (here p refl refl refl)
            (λ since t. publishes_keep_time e words ports (site_now b) (site_now b) k o since below (omega arith) t) (λ a. (refl, refl, inr (lost.0, refl))) lost.1
      ])
  every_step (Sees log) may =
      let s : IsStanding b k (ports k) = may.1.0 in
      let l = glances_stay_lawful e words ports b notes k w below may.0 s in
      let there : LawfulMemory e words (put k (having_seen (ports k) log) ports) l.beside (noting k [] notes) =
      subst (λ (f : ℕ → List Noted). LawfulMemory e words (put k (having_seen (ports k) log) ports) l.beside f) (λ i q. nothing_noted q i)
      (subst (λ (h : List Applied). LawfulMemory e words (put k (having_seen (ports k) h) ports) l.beside notes) may.1.1 l.lawful) in
      seen (Sees log) (λ there is. is) log l.beside [] l.same (keeps_seen log l.beside l.same.before) there (refl, l.same, refl)
  every_step (Notes n i log) may =
      let s : IsStanding b k (ports k) = may.1.0 in
      let l = sights_stay_lawful e words ports b notes k i n w below s may.0 (subst (λ (h : List Applied). IsSight e k (ports k) h (notes k) n i) (sym may.1.1) may.1.2) in
      seen (Notes n i log) (λ there is. is) log l.beside (n ∷ []) l.same (keeps_seen log l.beside l.same.before)
      (subst (λ (h : List Applied). LawfulMemory e words (put k (having_seen (ports k) h) ports) l.beside (noting k (n ∷ []) notes)) may.1.1 l.lawful) (refl, l.same, refl)

pub every_step_stays_lawful : EveryStepStaysLawful
every_step_stays_lawful e words ports b notes k m w below may = every_step e words ports b notes k w below m may

pub memories_open_lawful : MemoriesOpenLawful
memories_open_lawful e words opens = record {
  epochs = epochs_open_lawful e words opens;
  noted = record {
    finished = tt;
    reached = λ k low. record { later = []; log = []; is = refl; seen = omega arith; epoch = refl };
    legal = λ k low. tt;
    shown = λ k low. omega arith;
    once = λ k low. refl;
  };
}
