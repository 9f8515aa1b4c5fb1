-- Steps that change neither histories nor what their port has seen or noted.
use Rattle.partial_long_lived.proofs.{Common.{ℕ, ◌≡◌, ◌≤◌, ◌++◌, Option, Some, None, IfSome, List, [], ◌∷◌, length, refl, sym, ap, subst, ◌∙◌, arith, append-nil, Applied, LegalNotes, Noted, Part, put, history_of, Port, Beside, site_now, Reckoning, LawfulMemory, put_other, put_same, About, Began, Found, BeganInTime, IsFinal, IsLast, IsSeat, IsSeen, IsSince, SeatedPort, plan_of, seen_in, IsSeatKnown, becomes, Site, Contention, IsSearching, true}, Kept.{GoesOn, HasGrown, Moved, final_grows, none_grown, not_grown, seen_grows}}

-- a change of a port that leaves its site, its part and the epochs before its own, and passes no fewer components
pub record IsQuiet (g : Port → Port) : Type 0 where
  pub part : (p : Port) → (g p).part ≡ p.part
  pub before : (p : Port) → (g p).before ≡ p.before
  pub here : (p : Port) → (g p).control.here ≡ p.control.here
  pub passed : (p : Port) → p.passed ≤ (g p).passed

pub final_same : (a : About) (b : Beside) (g : Port → Port) (p : Port) → IsQuiet g → (f : Option Found) → IfSome f (IsFinal (plan_of a) b p) → IfSome f (IsFinal (plan_of a) b (g p))
final_same a b g p q None w = tt
final_same a b g p q (Some f) w = record {
  inside = w.inside;
  passed = let low = w.passed in let up = q.passed p in omega (arith, low, up);
  last = subst (λ (before : List (List Applied)). (later : List (List Applied)) (log : List Applied) → b.log ∷ b.before ≡ later ++ log ∷ before → IsLast (plan_of a) before log f)
      (sym (q.before p)) w.last;
}

seen_same : (b : Beside) (g : Port → Port) (p : Port) → IsQuiet g → IsSeen b p → IsSeen b (g p)
seen_same b g p q w later log is =
    let s = w later log (is ∙ ap (λ (l : List (List Applied)). later ++ log ∷ l) (q.before p)) in
    (s.0, s.1 ∙ ap (λ (x : Part). x.seen ++ s.0) (sym (q.part p)))

pub seen_quiet : (g : Port → Port) (p : Port) → IsQuiet g → seen_in (g p) ≡ seen_in p
seen_quiet g p q = ap (λ (x : Part). history_of (x.seen ∷ (g p).before)) (q.part p) ∙ ap (λ (l : List (List Applied)). history_of (p.part.seen ∷ l)) (q.before p)

pub aside : (a : About) (words words' : List ℕ) (ports : ℕ → Port) (notes : ℕ → List Noted) (b c : Beside) (reckoned reckoned' : Reckoning) (x : SeatedPort) → LawfulMemory (plan_of a) words ports b notes →
    IsSeat a words ports notes b reckoned x → IsSeatKnown x → (g : Port → Port) → IsQuiet g → (n : Began) → IsSince n (g x.port).control.entering (reckoned'.since x.number) → BeganInTime c n →
    GoesOn a words words' ports (put x.number (g (ports x.number)) ports) b c reckoned reckoned' x.number → c.log ≡ b.log → c.before ≡ b.before →
    LawfulMemory (plan_of a) words' (put x.number (g (ports x.number)) ports) c notes → (m : Contention) → m.seals ≡ x.contention.seals →
    IsSearching (plan_of a) words' (put x.number (g (ports x.number)) ports) (site_now c) reckoned' x.number m.search → (m.search.met ≡ true → reckoned'.tally.met x.number ≡ true) →
    (P : SeatedPort → Type 0) → P (record (becomes x n (g x.port)) { contention = m }) → Moved a words words' ports notes b reckoned x P
aside a words words' ports notes b c reckoned reckoned' x w s known g q n entering_from began time log before then m seals search met P says =
    let k : ℕ = x.number in
    let p : Port = ports k in
    let own : x.about ≡ a = s.about in
    let knows = known.knows in
    let still : seen_in (g x.port) ≡ seen_in x.port = seen_quiet g x.port q in
    let grown : HasGrown (g x.port) b c = not_grown (g x.port) b c log before in
    let r = w.noted.reached k s.number in
    record {
      y = record (becomes x n (g x.port)) { contention = m };
      ports' = put k (g p) ports;
      notes' = notes;
      beside = c;
      reckoned' = reckoned';
      time = time;
      lawful = then;
      others = λ i ne. (put_other k (g p) ports i ne, refl);
      number = refl;
      epoch = (let same = ap (λ (d : Site). d.epoch) (q.here x.port) in omega (arith, same));
      seals = omega (arith, seals);
      seat = record {
        about = s.about;
        number = s.number;
        port = ap g s.port ∙ sym (put_same k (g p) ports);
        noted = s.noted;
        began = began;
        entering = entering_from;
        seen = seen_grows (g x.port) b c grown (seen_same b g x.port q s.seen);
        found = final_grows a (g x.port) b c grown x.found (final_same a b g x.port q x.found s.found);
        search = search;
        met = met;
      };
      grown = λ i low ne. not_grown (ports i) b c log before;
      all_grown = none_grown b c log before;
      later = let same = ap (λ (l : List (List Applied)). length l) before in omega (arith, same);
      reached = (
        r.later,
        r.log,
        ap (λ (l : List Applied). l ∷ c.before) log ∙ ap (λ (l : List (List Applied)). b.log ∷ l) before ∙ r.is
            ∙ ap (λ (l : List (List Applied)). r.later ++ r.log ∷ l) (sym (q.before x.port ∙ ap (λ (t : Port). t.before) s.port)),
      );
      seen = ([], still ∙ sym (append-nil (seen_in x.port)));
      legal = subst (λ (l : List Applied). LegalNotes a.opening l k 0 x.notes) (sym still) (subst (λ (z : About). LegalNotes z.opening (seen_in x.port) k 0 x.notes) own knows.legal);
      says = says;
    }
