-- The search of a port for a free arena goes on.
use Rattle.partial_long_lived.proofs.{Common.{ℕ, ◌≡◌, ◌≢◌, ◌+◌, ◌*◌, ◌<◌, ◌≤◌, ◌==◌, ◌⊎◌, nat_lt, Bool, true, false, if◌then◌else◌, Option, Some, None, List, slice_index, slice_set, refl, sym, ap, subst, ◌∙◌, inl, inr, arith, eqb_tells, Me, Allows, Noted, put, Site, Plan, at_word, current_word, packed, OwnedArena, Port, Stands, Beside, LawfulEpochs, site_now, put_same, put_other, About, Began, Contention, Search, Reckoning, IsRuleKept, IsSearching, SeatedPort, one_of, plan_of, IsSeatKnown, IsOne, tells, looked_at, passing, meeting, BeginsPass, BeginsSearch, Tally, HasSeenArrival, IsInUse, IsNamed, may_free, most_freed, few_come_free, meetings_keep_tally, own_sites_are_in_use, some_arena_is_free, entering_bit, unpacked, length, Applied, IsOld}, Kept.{GoesOn, allowed}, Control.{MayLook, OwnSearch, Quietly, Still, by_look, load_same, looked_quiet, looked_stands, moved_searching}, Begins.here_is}
use Rattle.partial_epochs.specs.FreeArenas.{credit, gives_left, sum_below, weight}

-- how often arenas may come free has nothing to do with who has met another port
credit_same : (t : Tally) (met : ℕ → Bool) (k : ℕ) (o : Option OwnedArena) → credit (record t { met = met }) k o ≡ credit t k o
credit_same t met k None = refl
credit_same t met k (Some o) = refl

may_free_same : (e : Plan) (words : List ℕ) (ports : ℕ → Port) (now : ℕ) (since : ℕ → ℕ) (t : Tally) (met : ℕ → Bool) → may_free e words ports now since (record t { met = met }) ≡ may_free e words ports now since t
may_free_same e words ports now since t met = ap (λ (f : ℕ → ℕ). sum_below f e.ports) (λ i k. each k i)
  where
    each : (k : ℕ) → weight e words ports now since (record t { met = met }) k ≡ weight e words ports now since t k
    each k = ap (λ n. if nat_lt (slice_index words (at_word k)) entering_bit then (if (unpacked (slice_index words (at_word k))).epoch == now then n else (e.ports + 1) + gives_left (ports k).control)
        else (if nat_lt (since k) now then 2 * e.ports + 3 else e.ports + 1)) (credit_same t met k (ports k).control.owned)

-- after a step of port k
module _ (a : About) (words words' : List ℕ) (ports : ℕ → Port) (notes : ℕ → List Noted) (b : Beside) (reckoned : Reckoning) (k : ℕ) (below : k < a.ports) (g : Began) (p : Port) (u : Contention)
    (search : IsSearching (plan_of a) words ports (site_now b) reckoned k u.search) where
  abbrev e : Plan
  e = plan_of a

  -- a search that the port leaves as it is
  pub leaves_search : Still a words words' ports notes b reckoned k g p → (u.search.met ≡ true → reckoned.tally.met k ≡ true) → OwnSearch a words words' ports notes b reckoned k g p u
  leaves_search still met = record { to = still.to; search = ((still.to).time).searching k u.search below search; met = λ is. still.met (met is) }

  -- it has passed one arena more
  pub passes_to : (to : Quietly a words words' ports notes b reckoned k g p) → p.control.entering ≡ Stands → (i : ℕ) → i < a.arenas → ((y : ℕ) → y < i → (y < u.search.below) ⊎ (y ≡ p.control.here.arena)) →
      ((to.reckoned').tally.freed ≡ reckoned.tally.freed → IsInUse e words' k i) → OwnSearch a words words' ports notes b reckoned k g p (passing i u)
  passes_to to stands i inside passed in_use =
      let on = (to.time).searching k u.search below search in
      record {
        to = to;
        search = record {
          come = on.come;
          begun = on.begun;
          within = omega (arith, inside);
          bound = on.bound;
          busy = λ is none y low. elim (eqb_tells y i) [
            | inl same ↦ subst (IsInUse e words' k) (sym same.1) (in_use (let more = (to.time).freed in let begun = search.begun in omega (arith, none, more, begun)))
            | inr ne ↦
                let other = ne.1 in
                (elim (passed y (omega (arith, low, other))) [
                  | inl few ↦ on.busy is none y few
                  | inr own ↦ subst (IsInUse e words' k) (ap (λ (q : Port). q.control.here.arena) (put_same k p ports) ∙ sym own)
                      (own_sites_are_in_use e words' (put k p ports) to.beside k (to.lawful).epochs below (ap (λ (q : Port). q.control.entering) (put_same k p ports) ∙ stands))
                ])
          ];
        };
        met = λ is. let bad : false ≡ true = is in cc;
      }

  -- it has met another port in the arena that it owns
  pub meets_another : (to : Quietly a words words' ports notes b reckoned k g p) → (o : OwnedArena) → p.control.owned ≡ Some o → o.looked ≡ true → IsNamed e words' o.arena ⊎ HasSeenArrival (to.reckoned').tally k →
      OwnSearch a words words' ports notes b reckoned k g p (meeting u)
  meets_another to o owned looked cause = record {
    to = record { reckoned' = r; beside = to.beside; log = to.log; before = to.before; lawful = to.lawful; time = time; entering = to.entering };
    search = let on = time.searching k u.search below search in record { come = on.come; begun = on.begun; within = on.within; bound = on.bound; busy = on.busy };
    met = λ is. put_same k true (to.reckoned').tally.met;
  }
    where
      r : Reckoning
      r = record { since = (to.reckoned').since; tally = record (to.reckoned').tally { met = put k true (to.reckoned').tally.met } }

      there : (q : ℕ) (s : Search) → IsSearching e words' (put k p ports) (site_now to.beside) to.reckoned' q s → IsSearching e words' (put k p ports) (site_now to.beside) r q s
      there q s on = record {
        come = on.come;
        begun = on.begun;
        within = on.within;
        bound = λ is.
            let same = may_free_same e words' (put k p ports) (site_now to.beside).epoch (to.reckoned').since (to.reckoned').tally (put k true (to.reckoned').tally.met) in
            let was = on.bound is in
            omega (arith, same, was);
        busy = on.busy;
      }

      time : GoesOn a words words' ports (put k p ports) b to.beside reckoned r k
      time = record {
        reckons = record {
          time = ((to.time).reckons).time;
          tally = meetings_keep_tally e words' (put k p ports) (to.reckoned').tally k o ((to.time).reckons).tally (ap (λ (q : Port). q.control.owned) (put_same k p ports) ∙ owned) looked cause;
        };
        freed = (to.time).freed;
        searching = λ q s low on. there q s ((to.time).searching q s low on);
        since = (to.time).since;
        met = λ q ne. put_other k true (to.reckoned').tally.met q ne ∙ (to.time).met q ne;
      }

-- a look leaves a port in its arena
looked_arena : (n : ℕ) (p : Port) → (looked_at n p).control.here.arena ≡ p.control.here.arena
looked_arena n p = ap (λ (d : Site). d.arena) ((looked_quiet n).here p)

module _ {S : Type 0} (a : About) (slots id : ℕ) (me : Me S (List SeatedPort)) (one : IsOne me) (own : (one_of me.0).about ≡ a) (known : IsSeatKnown (one_of me.0)) where
  abbrev x : SeatedPort
  x = one_of me.0

  -- a port that finds its own site the current one hasn't seen another
  not_past : (words : List ℕ) (ports : ℕ → Port) (b : Beside) → LawfulEpochs (plan_of a) words ports b → x.number < a.ports → x.port ≡ ports x.number →
      slice_index words current_word ≡ packed x.port.control.here → x.port.control.past ≡ false
  not_past words ports b w below is at = by x.port.control.past refl
    where
      by : (c : Bool) → x.port.control.past ≡ c → x.port.control.past ≡ false
      by false none = none
      by true seen =
          let here = here_is a words ports b w x.number below (at ∙ ap (λ (p : Port). packed p.control.here) is) in
          let past = w.control.past x.number below (ap (λ (p : Port). p.control.past) (sym is) ∙ seen) in
          let same = ap (λ (d : Site). d.epoch) here in
          absurd (omega (arith, past, same))

  -- a port stands in no later epoch than the current one
  come_here : (words : List ℕ) (ports : ℕ → Port) (b : Beside) → LawfulEpochs (plan_of a) words ports b → x.number < a.ports → x.port ≡ ports x.number → x.port.control.entering ≡ Stands → x.port.control.here.epoch ≤ (site_now b).epoch
  come_here words ports b w below is stands =
      subst (λ (p : Port). p.control.here.epoch ≤ (site_now b).epoch) (sym is)
      (subst (IsOld (plan_of a) (site_now b).epoch (ports x.number).control.here) (ap (λ (p : Port). p.control.entering) (sym is) ∙ stands) (w.control.old x.number below))

  -- the look by which a search begins
  pub may_begin_search : MayLook a x.port → Allows (IsRuleKept a) slots id me current_word (λ n. n) (tells BeginsSearch me)
  may_begin_search may = allowed a slots id me current_word (λ n. n) BeginsSearch one own (λ words ports notes b reckoned w time s small.
      let e : Plan = plan_of a in
      let k : ℕ = x.number in
      let n : ℕ = slice_index words current_word in
      let words' : List ℕ = slice_set words current_word n in
      let still = subst (λ (l : List ℕ). Still a words l ports notes b reckoned k x.began (looked_at n (ports k))) (load_same words current_word)
      (by_look a words ports notes b reckoned w time k s.number x.began (subst (MayLook a) s.port may) tt) in
      let to = still.to in
      let freed : ℕ = (to.reckoned').tally.freed in
      let m : Contention = record x.contention { search = record { epoch = x.port.control.here.epoch; freed = freed; most = freed + most_freed x.about.ports; below = 0; met = false } } in
      let few = few_come_free e words' (put k (looked_at n (ports k)) ports) (site_now to.beside).epoch (to.reckoned').since (to.reckoned').tally in
      let ports_are = ap (λ (a : About). most_freed a.ports) own in
      moved_searching a words words' ports notes b reckoned x w s known (looked_at n) (looked_quiet n) x.began s.began m refl (record {
        to = to;
        search = record {
          come = let old = come_here words ports b w.epochs s.number s.port may.0 in let same = ap (λ (l : List (List Applied)). length l) to.before in omega (arith, old, same);
          begun = omega arith;
          within = omega arith;
          bound = λ is. omega (arith, few, ports_are);
          busy = λ is none y low. absurd (omega (arith, low));
        };
        met = λ is. let bad : false ≡ true = is in cc;
      }) (BeginsSearch x n) (record { freed = freed; is = refl; current = not_past words ports b w.epochs s.number s.port }))

  -- the look by which another pass begins
  pub may_begin_pass : MayLook a x.port → x.port.control.owned ≡ None → 2 * a.ports ≤ a.arenas → Allows (IsRuleKept a) slots id me current_word (λ n. n) (tells BeginsPass me)
  may_begin_pass may free twice = allowed a slots id me current_word (λ n. n) BeginsPass one own (λ words ports notes b reckoned w time s small.
      let e : Plan = plan_of a in
      let k : ℕ = x.number in
      let n : ℕ = slice_index words current_word in
      let words' : List ℕ = slice_set words current_word n in
      let still = subst (λ (l : List ℕ). Still a words l ports notes b reckoned k x.began (looked_at n (ports k))) (load_same words current_word)
      (by_look a words ports notes b reckoned w time k s.number x.began (subst (MayLook a) s.port may) tt) in
      let to = still.to in
      let freed : ℕ = (to.reckoned').tally.freed in
      let on = (to.time).searching k x.contention.search s.number s.search in
      let m : Contention = record x.contention { search = record x.contention.search { freed = freed; below = 0 } } in
      moved_searching a words words' ports notes b reckoned x w s known (looked_at n) (looked_quiet n) x.began s.began m refl (record {
        to = to;
        search = record { come = on.come; begun = omega arith; within = omega arith; bound = on.bound; busy = λ is none y low. absurd (omega (arith, low)) };
        met = λ is. still.met (s.met is);
      }) (BeginsPass x n) (record {
        freed = freed;
        is = refl;
        more = λ at epoch passed.
            let here = ap (λ (d : Site). d.epoch) (here_is a words ports b w.epochs k s.number (at ∙ ap (λ (p : Port). packed p.control.here) s.port)) in
            let stood = ap (λ (p : Port). p.control.here.epoch) s.port in
            let same = ap (λ (l : List (List Applied)). length l) to.before in
            let bound = on.bound (omega (arith, here, stood, same, epoch)) in
            let begun = on.begun in
            let one_more : (freed ≡ x.contention.search.freed) → ⊥ = λ none. some_arena_is_free e words' (put k (looked_at n (ports k)) ports) (to.reckoned').tally k (((to.time).reckons).tally) s.number twice
            (λ y low. elim (passed y (subst (λ (a : About). y < a.arenas) (sym own) low)) [
              | inl few ↦ on.busy (omega (arith, here, stood, same, epoch)) none y few
              | inr there ↦ subst (IsInUse e words' k) (ap (λ (p : Port). p.control.here.arena) (put_same k (looked_at n (ports k)) ports) ∙ looked_arena n (ports k) ∙ ap (λ (p : Port). p.control.here.arena) (sym s.port) ∙ sym there)
                  (own_sites_are_in_use e words' (put k (looked_at n (ports k)) ports) to.beside k (to.lawful).epochs s.number
                  (ap (λ (p : Port). p.control.entering) (put_same k (looked_at n (ports k)) ports) ∙ looked_stands n (ports k) (ap (λ (p : Port). p.control.entering) (sym s.port) ∙ may.0)))
            ]) in
            let ne : freed ≢ x.contention.search.freed = one_more in
            (omega (arith, begun, ne), omega (arith, bound));
      }))
