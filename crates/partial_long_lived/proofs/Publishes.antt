-- The exchange of the current word is allowed.
use Rattle.partial_long_lived.proofs.{Common.{ℕ, ◌≡◌, ◌<◌, ◌≤◌, ◌==◌, ◌++◌, if◌then◌else◌, List, [], ◌∷◌, length, slice_index, slice_set, refl, sym, ap, subst, ◌∙◌, inl, inr, arith, append-nil, length-append, either, Me, Allows, Applied, LegalNotes, Noted, put, Plan, current_word, packed, OwnedArena, Port, Beside, Reckoning, IsWholeArena, having_published, next_beside, next_site, LawfulMemory, put_other, put_same, About, IsRuleKept, IsSeat, SeatedPort, one_of, plan_of, seen_in, IsSeatKnown, IsOne, tells, SeatPublishes, becomes, every_step_stays_lawful, IsSince, true}, Kept.{GoesOn, Grows, HasGrown, HaveGrown, Moved, allowed, begun_grows, final_grows, seen_grows}, Asides.{IsQuiet, final_same}, Changes.either_cond, Control.{LedTo, led_to, moved_quietly, reckoned_after, unnoted}}
use Rattle.partial_epochs.specs.EveryStep.{Move as move}

-- once the next epoch is open, the epochs that had come have the histories that they had
next_grows : (P : ℕ → Type 0) (e : Plan) (b : Beside) (y : ℕ) (before later : List (List Applied)) (log : List Applied) → length before ≤ length b.before →
    [] ∷ b.log ∷ b.before ≡ later ++ log ∷ before → Grows P before b (next_beside e b y) later log
next_grows P e b y before [] log few is =
    let long = ap (λ (l : List (List Applied)). length l) is in
    absurd (omega (arith, few, long))
next_grows P e b y before (l ∷ later) log few is = record {
  later' = later;
  log' = log;
  entries = [];
  was = cc;
  is = sym (append-nil log);
  free = λ j low. tt;
}

published_quiet : (o : OwnedArena) → IsQuiet (λ p. having_published p o)
published_quiet o = record { part = λ p. refl; before = λ p. refl; here = λ p. refl; passed = λ p. omega arith }

won : (a : About) (words words' : List ℕ) (ports : ℕ → Port) (notes : ℕ → List Noted) (b : Beside) (reckoned : Reckoning) (x : SeatedPort) → LawfulMemory (plan_of a) words ports b notes →
    IsSeat a words ports notes b reckoned x → IsSeatKnown x → (o : OwnedArena) →
    LawfulMemory (plan_of a) words' (put x.number (having_published (ports x.number) o) ports) (next_beside (plan_of a) b o.arena) notes →
    (reckoned' : Reckoning) → ((k : ℕ) → reckoned'.since k ≡ reckoned.since k) → (reckoned.tally.met x.number ≡ true → reckoned'.tally.met x.number ≡ true) →
    GoesOn a words words' ports (put x.number (having_published (ports x.number) o) ports) b (next_beside (plan_of a) b o.arena) reckoned reckoned' x.number → (P : SeatedPort → Type 0) →
    P (becomes x x.began (having_published x.port o)) → Moved a words words' ports notes b reckoned x P
won a words words' ports notes b reckoned x w s known o thereafter reckoned' same_since met time P says =
    let e : Plan = plan_of a in
    let k : ℕ = x.number in
    let p : Port = having_published (ports k) o in
    let q : Port = having_published x.port o in
    let c : Beside = next_beside e b o.arena in
    let own : x.about ≡ a = s.about in
    let knows = known.knows in
    let come : (i : ℕ) → i < a.ports → length (ports i).before ≤ length b.before =
    λ i low. few b (ports i).before (w.noted.reached i low).later (w.noted.reached i low).log (w.noted.reached i low).is in
    let own_come : length x.port.before ≤ length b.before = subst (λ (r : Port). length r.before ≤ length b.before) (sym s.port) (come k s.number) in
    let grown : HasGrown q b c = λ later log is. next_grows (λ j. j < q.passed) e b o.arena q.before later log own_come is in
    let all : HaveGrown b c = λ before later log low is. next_grows (λ j. ⊥) e b o.arena before later log low is in
    let r = w.noted.reached k s.number in
    record {
      y = becomes x x.began q;
      ports' = put k p ports;
      notes' = notes;
      beside = c;
      reckoned' = reckoned';
      lawful = thereafter;
      time = time;
      others = λ i ne. (put_other k p ports i ne, refl);
      number = refl;
      epoch = omega arith;
      seals = omega arith;
      seat = record {
        about = own;
        number = s.number;
        port = ap (λ (r : Port). having_published r o) s.port ∙ sym (put_same k p ports);
        noted = s.noted;
        seen = seen_grows q b c grown s.seen;
        began = begun_grows b c x.began (omega arith) all s.began;
        entering = subst (IsSince x.began x.port.control.entering) (sym (same_since k)) s.entering;
        found = final_grows a q b c grown x.found (final_same a b (λ t. having_published t o) x.port (published_quiet o) x.found s.found);
        search = time.searching k x.contention.search s.number s.search;
        met = λ is. met (s.met is);
      };
      grown = λ i low ne later log is. next_grows (λ j. j < (ports i).passed) e b o.arena (ports i).before later log (come i low) is;
      all_grown = all;
      later = omega arith;
      reached = ([] ∷ r.later, r.log, ap (λ (l : List (List Applied)). [] ∷ l) (r.is ∙ ap (λ (t : Port). r.later ++ r.log ∷ t.before) (sym s.port)));
      seen = ([], sym (append-nil (seen_in x.port)));
      legal = subst (λ (z : About). LegalNotes z.opening (seen_in x.port) k 0 x.notes) own knows.legal;
      says = says;
    }
  where
    few : (b : Beside) (before later : List (List Applied)) (log : List Applied) → b.log ∷ b.before ≡ later ++ log ∷ before → length before ≤ length b.before
    few b before later log is =
        let long = ap (λ (l : List (List Applied)). length l) is in
        let both = length-append later (log ∷ before) in
        omega (arith, long, both)

module _ {S : Type 0} (a : About) (slots id : ℕ) (me : Me S (List SeatedPort)) (one : IsOne me) (own : (one_of me.0).about ≡ a) (known : IsSeatKnown (one_of me.0)) where
  abbrev x : SeatedPort
  x = one_of me.0

  pub may_publish : (o : OwnedArena) → IsWholeArena (plan_of a) x.port o →
      Allows (IsRuleKept a) slots id me current_word (λ n. either (n == packed x.port.control.here) (packed (next_site x.port.control.here o.arena)) n) (tells (SeatPublishes o) me)
  may_publish o whole = allowed a slots id me current_word (λ n. either (n == packed x.port.control.here) (packed (next_site x.port.control.here o.arena)) n) (SeatPublishes o) one own
      (λ words ports notes b reckoned w time s small.
      let e : Plan = plan_of a in
      let k : ℕ = x.number in
      let n : ℕ = slice_index words current_word in
      let p : Port = having_published (ports k) o in
      let v : ℕ = either (n == packed x.port.control.here) (packed (next_site x.port.control.here o.arena)) n in
      let word : (if n == packed (ports k).control.here then packed (next_site (ports k).control.here o.arena) else n) ≡ v =
      ap (λ (q : Port). if n == packed q.control.here then packed (next_site q.control.here o.arena) else n) (sym s.port)
      ∙ either_cond (n == packed x.port.control.here) (packed (next_site x.port.control.here o.arena)) n in
      let words' : List ℕ = slice_set words current_word v in
      let whole' : IsWholeArena e (ports k) o = subst (λ (q : Port). IsWholeArena e q o) s.port whole in
      let l = every_step_stays_lawful e words ports b notes k (move.Publishes o) w s.number whole' in
      let to : (c : Beside) → l.beside ≡ c → length b.before ≤ length c.before → LedTo a words ports notes b reckoned k (move.Publishes o) words' p c [] = λ c is later.
      led_to a words ports notes b reckoned w time k s.number (move.Publishes o) whole' tt (λ q ne. refl) l (let same = ap (λ (d : Beside). length d.before) is in omega (arith, same, later)) words' (ap (λ v. slice_set words current_word v) word)
      p l.becomes.0 c is [] l.becomes.1 in
      (elim l.becomes.2 [
        | inl opened ↦
            let c : Beside = next_beside e b o.arena in
            let led = to c opened.1 (omega arith) in
            won a words words' ports notes b reckoned x w s known o (unnoted a words ports notes b reckoned w time k s.number words' (put k p ports) c led.lawful) (reckoned_after b k (move.Publishes o) reckoned led.there) (λ q. refl)
            (λ is. led.met k ∙ is) led.time (SeatPublishes o x n) refl
        | inr lost ↦
            let led = to b lost.1 (omega arith) in
            moved_quietly a words words' ports notes b reckoned x w s known (λ q. having_published q o) (published_quiet o) x.began s.began (record {
              to = record {
                reckoned' = reckoned_after b k (move.Publishes o) reckoned led.there;
                beside = b;
                log = refl;
                before = refl;
                lawful = unnoted a words ports notes b reckoned w time k s.number words' (put k p ports) b led.lawful;
                time = led.time;
                entering = subst (λ (q : Port). IsSince x.began q.control.entering (reckoned.since k)) s.port s.entering;
              };
              met = λ is. led.met k ∙ is;
            }) (SeatPublishes o x n) refl
      ]))
