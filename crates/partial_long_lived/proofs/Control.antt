-- The steps of a change of epoch and of entering one are allowed.
use Rattle.partial_long_lived.proofs.{Common.{ℕ, ◌≡◌, ◌≢◌, ◌<◌, ◌≤◌, ◌==◌, ◌⊎◌, Bool, true, false, if◌then◌else◌, Option, Some, None, IfSome, List, length, slice_index, slice_set, refl, sym, ap, subst, ◌∙◌, arith, set-get_or, Me, Allows, Applied, Noted, put, IsSite, Site, Plan, at_word, current_word, entering_from, packed, Entering, OwnedArena, Port, Stands, StoredEntering, Beside, LawfulEpochs, site_now, having_passed, having_looked, LawfulMemory, put_all, put_same, put_other, option_map_or, Reckons, Reckoning, entries_load, About, Began, IsRuleKept, IsSince, SeatedPort, one_of, plan_of, IsSeatKnown, IsOne, tells, LoadsCurrent, SeatLooks, StoresEnteringWord, becomes, loads, looked_at, stored_entering, unpacked, Contention, [], ◌++◌, append-nil, MayMove, Move, MoveLeads, Becomes, port_after, since_after, moved_words, every_step_stays_lawful, IsAside, noting, IsSeat, BeganInTime, unpacked_is, IsSearching, Tally, Counts, LeavesInUse, MayCount, met_after, every_step_counts}, Asides.{IsQuiet, aside}, Contention.searching_on, Kept.{GoesOn, allowed, begun_grows, none_grown, Moved}, Begins.{began_by, here_is, seen_few}}
use Rattle.partial_epochs.specs.EveryStep.{Move as move}

-- a load leaves the words as they are
pub load_same : (words : List ℕ) (i : ℕ) → words ≡ slice_set words i (slice_index words i)
load_same words i = sym (set-get_or words i 0)

pub looked_quiet : (a : ℕ) → IsQuiet (looked_at a)
looked_quiet a = record {
  part = λ p. by_part p (a == packed p.control.here) p.control.owned;
  before = λ p. by_before p (a == packed p.control.here) p.control.owned;
  here = λ p. by_here p (a == packed p.control.here) p.control.owned;
  passed = λ p. by_passed p (a == packed p.control.here) p.control.owned;
}
  where
    thereafter : Port → Bool → Option OwnedArena → Port
    thereafter p c o = if c then option_map_or (having_looked p) o p else having_passed p

    by_part : (p : Port) (c : Bool) (o : Option OwnedArena) → (thereafter p c o).part ≡ p.part
    by_part p true None = refl
    by_part p true (Some o) = refl
    by_part p false o = refl

    by_before : (p : Port) (c : Bool) (o : Option OwnedArena) → (thereafter p c o).before ≡ p.before
    by_before p true None = refl
    by_before p true (Some o) = refl
    by_before p false o = refl

    by_here : (p : Port) (c : Bool) (o : Option OwnedArena) → (thereafter p c o).control.here ≡ p.control.here
    by_here p true None = refl
    by_here p true (Some o) = refl
    by_here p false o = refl

    by_passed : (p : Port) (c : Bool) (o : Option OwnedArena) → p.passed ≤ (thereafter p c o).passed
    by_passed p true None = omega arith
    by_passed p true (Some o) = omega arith
    by_passed p false o = omega arith

-- a port may look that owns no arena, or that owns one and has either no entering word or ports left to find
abbrev pub MayLook : About → Port → Type 0
MayLook a p = (p.control.entering ≡ Stands) × IfSome p.control.owned (λ o. (o.entering_word ≡ None) ⊎ (o.clean < a.ports))

pub looked_stands : (n : ℕ) (p : Port) → p.control.entering ≡ Stands → (looked_at n p).control.entering ≡ Stands
looked_stands n p is = by (n == packed p.control.here) p.control.owned
  where
    by : (c : Bool) (o : Option OwnedArena) → (if c then option_map_or (having_looked p) o p else having_passed p).control.entering ≡ Stands
    by true None = is
    by true (Some o) = is
    by false o = is

-- a port that isn't entering
pub stands_since : (g : Began) (t : Entering) (n : ℕ) → t ≡ Stands → IsSince g t n
stands_since g t n is = subst (λ (t : Entering). IsSince g t n) (sym is) tt

-- whether ports but the mover have met others stays
met_others : (k : ℕ) (m : Move) (met : ℕ → Bool) (q : ℕ) → q ≢ k → met_after k m met q ≡ met q
met_others k (move.Takes x) met q ne = put_other k false met q ne
met_others k move.Rests met q ne = refl
met_others k (move.Makes c step notes) met q ne = refl
met_others k move.Seals met q ne = refl
met_others k move.PassesSealed met q ne = refl
met_others k move.Looks met q ne = refl
met_others k (move.LooksAsOwner o) met q ne = refl
met_others k move.StoresEnteringWord met q ne = refl
met_others k move.LoadsCurrent met q ne = refl
met_others k (move.ExchangesEnteringWord c) met q ne = refl
met_others k (move.Gives o) met q ne = refl
met_others k (move.FindsElsewhere o d) met q ne = refl
met_others k (move.LoadsEnteringWord o) met q ne = refl
met_others k (move.Puts o a) met q ne = refl
met_others k (move.Sets o v next) met q ne = refl
met_others k (move.FindsClear o next) met q ne = refl
met_others k (move.Publishes o) met q ne = refl
met_others k (move.Sees log) met q ne = refl
met_others k (move.Notes n i log) met q ne = refl

-- what is counted beside the words after a move of port k, with that tally
abbrev pub reckoned_after : Beside → ℕ → Move → Reckoning → Tally → Reckoning
reckoned_after b k m r there = record { since = since_after b k m r.since; tally = there }

-- What a move of port k leads to, once it is known what the words, the port, the histories and what is noted are then.
pub record LedTo (a : About) (words : List ℕ) (ports : ℕ → Port) (notes : ℕ → List Noted) (b : Beside) (r : Reckoning) (k : ℕ) (m : Move) (words' : List ℕ) (p : Port) (c : Beside) (added : List Noted) : Type 0 where
  pub there : Tally
  pub lawful : LawfulMemory (plan_of a) words' (put k p ports) c (noting k added notes)
  pub time : GoesOn a words words' ports (put k p ports) b c r (reckoned_after b k m r there) k
  pub met : (q : ℕ) → there.met q ≡ met_after k m r.tally.met q
  pub leaves : LeavesInUse (plan_of a) words' r.tally there m

-- What a quiet step of a port leads to.
pub record Quietly (a : About) (words words' : List ℕ) (ports : ℕ → Port) (notes : ℕ → List Noted) (b : Beside) (reckoned : Reckoning) (k : ℕ) (g : Began) (p : Port) : Type 0 where
  pub reckoned' : Reckoning
  pub beside : Beside
  pub log : beside.log ≡ b.log
  pub before : beside.before ≡ b.before
  pub lawful : LawfulMemory (plan_of a) words' (put k p ports) beside notes
  pub time : GoesOn a words words' ports (put k p ports) b beside reckoned reckoned' k
  pub entering : IsSince g p.control.entering (reckoned'.since k)

-- One that leaves whether the port has met another one.
pub record Still (a : About) (words words' : List ℕ) (ports : ℕ → Port) (notes : ℕ → List Noted) (b : Beside) (reckoned : Reckoning) (k : ℕ) (g : Began) (p : Port) : Type 0 where
  pub to : Quietly a words words' ports notes b reckoned k g p
  pub met : reckoned.tally.met k ≡ true → (to.reckoned').tally.met k ≡ true

-- One that is that move.
pub record QuietlyBy (a : About) (words words' : List ℕ) (ports : ℕ → Port) (notes : ℕ → List Noted) (b : Beside) (reckoned : Reckoning) (k : ℕ) (g : Began) (p : Port) (m : Move) : Type 0 where
  pub to : Quietly a words words' ports notes b reckoned k g p
  pub met : (to.reckoned').tally.met k ≡ met_after k m reckoned.tally.met k
  pub leaves : LeavesInUse (plan_of a) words' reckoned.tally (to.reckoned').tally m

-- One after which the search of the port is that of what the port has met.
pub record OwnSearch (a : About) (words words' : List ℕ) (ports : ℕ → Port) (notes : ℕ → List Noted) (b : Beside) (reckoned : Reckoning) (k : ℕ) (g : Began) (p : Port) (m : Contention) : Type 0 where
  pub to : Quietly a words words' ports notes b reckoned k g p
  pub search : IsSearching (plan_of a) words' (put k p ports) (site_now to.beside) to.reckoned' k m.search
  pub met : m.search.met ≡ true → (to.reckoned').tally.met k ≡ true

-- a search that the port leaves as it is
pub own_search : (a : About) (words words' : List ℕ) (ports : ℕ → Port) (notes : ℕ → List Noted) (b : Beside) (reckoned : Reckoning) (x : SeatedPort) → IsSeat a words ports notes b reckoned x → (g : Began) (p : Port) →
    Still a words words' ports notes b reckoned x.number g p → OwnSearch a words words' ports notes b reckoned x.number g p x.contention
own_search a words words' ports notes b reckoned x s g p still = record {
  to = still.to;
  search = ((still.to).time).searching x.number x.contention.search s.number s.search;
  met = λ is. still.met (s.met is);
}

-- what a move of a port leads to, by the laws of all moves
module _ (a : About) (words : List ℕ) (ports : ℕ → Port) (notes : ℕ → List Noted) (b : Beside) (reckoned : Reckoning) (w : LawfulMemory (plan_of a) words ports b notes)
    (time : Reckons (plan_of a) words ports (site_now b) reckoned) (k : ℕ) (below : k < a.ports) where
  abbrev e : Plan
  e = plan_of a

  -- once it is known what it leads to
  pub led_to : (m : Move) → MayMove e words ports b notes k m → MayCount (ports k) reckoned.tally k m → ((q : ℕ) → q ≢ k → since_after b k m reckoned.since q ≡ reckoned.since q) →
      (l : MoveLeads e words (moved_words e words (ports k) k m) ports b notes k m) → length b.before ≤ length (l.beside).before → (words' : List ℕ) → moved_words e words (ports k) k m ≡ words' → (p : Port) → l.port ≡ p →
      (c : Beside) → l.beside ≡ c → (added : List Noted) → l.added ≡ added → LedTo a words ports notes b reckoned k m words' p c added
  led_to m may may_count others l later words' to p is c beside added noted =
      subst (λ (h : List ℕ). LedTo a words ports notes b reckoned k m h p c added) to
      (subst (λ (r : Port). LedTo a words ports notes b reckoned k m there r c added) is
      (subst (λ (d : Beside). LedTo a words ports notes b reckoned k m there l.port d added) beside
      (subst (λ (n : List Noted). LedTo a words ports notes b reckoned k m there l.port l.beside n) noted (record {
        there = counts.there;
        lawful = l.lawful;
        time = record {
          reckons = record { time = l.time reckoned.since time.time; tally = counts.keeps };
          freed = counts.grows;
          searching = searching_on e words there ports (put k l.port ports) (site_now b) (site_now l.beside) reckoned (since_after b k m reckoned.since) k m counts later;
          since = others;
          met = λ q ne. counts.met q ∙ met_others k m reckoned.tally.met q ne;
        };
        met = counts.met;
        leaves = counts.leaves;
      }))))
    where
      there : List ℕ
      there = moved_words e words (ports k) k m

      counts : Counts e words there ports (put k l.port ports) (site_now b) (site_now l.beside) reckoned.since (since_after b k m reckoned.since) reckoned.tally k m
      counts = every_step_counts e words ports b notes k m reckoned.since reckoned.tally w below may may_count time.time time.tally l

  nothing_noted : (q : ℕ) → noting k [] notes q ≡ notes q
  nothing_noted q = put_all (λ i (l : List Noted). l ≡ notes i) k (notes k ++ []) notes q (λ _. append-nil (notes k)) (λ _. refl)

  -- nothing noted leaves the notes as they were
  pub unnoted : (words' : List ℕ) (ports' : ℕ → Port) (c : Beside) → LawfulMemory e words' ports' c (noting k [] notes) → LawfulMemory e words' ports' c notes
  unnoted words' ports' c l = subst (λ (f : ℕ → List Noted). LawfulMemory e words' ports' c f) (λ i q. nothing_noted q i) l

  -- what a move that changes no history leads to, in a call that began then
  module _ (g : Began) where
    abbrev IsQuietMove : Move → Type 0
    IsQuietMove m = (p : Port) (c : Beside) (added : List Noted) → Becomes e words ports b k m p c added → (p ≡ port_after words (ports k) m) × IsAside b c (ports k) p × (added ≡ [])

    -- to these words and that port
    pub by_count : (m : Move) → MayMove e words ports b notes k m → MayCount (ports k) reckoned.tally k m → IsQuietMove m → ((q : ℕ) → q ≢ k → since_after b k m reckoned.since q ≡ reckoned.since q) → (words' : List ℕ) →
        moved_words e words (ports k) k m ≡ words' → (p : Port) → port_after words (ports k) m ≡ p → IsSince g p.control.entering (since_after b k m reckoned.since k) → QuietlyBy a words words' ports notes b reckoned k g p m
    by_count m may may_count quiet others words' to p there entering =
        let l = every_step_stays_lawful e words ports b notes k m w below may in
        let q = quiet l.port l.beside l.added l.becomes in
        let same = ap (λ (l : List (List Applied)). length l) q.1.epochs in
        let led = led_to m may may_count others l (omega (arith, same)) words' to p (q.0 ∙ there) l.beside refl [] q.2 in
        record {
          to = record {
            reckoned' = reckoned_after b k m reckoned led.there;
            beside = l.beside;
            log = q.1.log;
            before = q.1.epochs;
            lawful = unnoted words' (put k p ports) l.beside led.lawful;
            time = led.time;
            entering = entering;
          };
          met = led.met k;
          leaves = led.leaves;
        }

    -- where whether the port has met another one stays
    pub by_move : (m : Move) → MayMove e words ports b notes k m → MayCount (ports k) reckoned.tally k m → met_after k m reckoned.tally.met k ≡ reckoned.tally.met k → IsQuietMove m →
        ((q : ℕ) → q ≢ k → since_after b k m reckoned.since q ≡ reckoned.since q) → (words' : List ℕ) → moved_words e words (ports k) k m ≡ words' →
        (p : Port) → port_after words (ports k) m ≡ p → IsSince g p.control.entering (since_after b k m reckoned.since k) → Still a words words' ports notes b reckoned k g p
    by_move m may may_count still quiet others words' to p there entering =
        let by = by_count m may may_count quiet others words' to p there entering in
        record { to = by.to; met = λ is. by.met ∙ still ∙ is }

    -- nothing changes
    pub by_rest : (words' : List ℕ) → words ≡ words' → (p : Port) → ports k ≡ p → IsSince g p.control.entering (reckoned.since k) → Still a words words' ports notes b reckoned k g p
    by_rest words' to p there entering = by_move move.Rests tt tt refl (λ p c n is. is) (λ q ne. refl) words' to p there entering

    -- a look
    pub by_look : MayLook a (ports k) → IsSince g Stands (reckoned.since k) → Still a words words ports notes b reckoned k g (looked_at (slice_index words current_word) (ports k))
    by_look may since_then = by (ports k).control.owned refl may.1
      where
        at : ℕ
        at = slice_index words current_word

        after : Port → Port
        after p = if at == packed (ports k).control.here then p else having_passed (ports k)

        entering : IsSince g (looked_at at (ports k)).control.entering (reckoned.since k)
        entering = subst (λ (t : Entering). IsSince g t (reckoned.since k)) (sym (looked_stands at (ports k) may.0)) since_then

        by : (o : Option OwnedArena) → (ports k).control.owned ≡ o → IfSome o (λ o. (o.entering_word ≡ None) ⊎ (o.clean < a.ports)) → Still a words words ports notes b reckoned k g (looked_at at (ports k))
        by None none tt = by_move move.Looks (may.0, none) tt refl (λ p c n is. is) (λ q ne. refl) words refl (looked_at at (ports k))
            (ap after (sym (ap (λ (o : Option OwnedArena). option_map_or (having_looked (ports k)) o (ports k)) none))) entering
        by (Some o) is stored_entering = by_move (move.LooksAsOwner o) (is, stored_entering) tt refl (λ p c n is. is) (λ q ne. refl) words refl (looked_at at (ports k))
            (ap after (sym (ap (λ (o : Option OwnedArena). option_map_or (having_looked (ports k)) o (ports k)) is))) entering

-- such a step of a seat, in a call that began then
module _ (a : About) (words words' : List ℕ) (ports : ℕ → Port) (notes : ℕ → List Noted) (b : Beside) (reckoned : Reckoning) (x : SeatedPort) (w : LawfulMemory (plan_of a) words ports b notes)
    (s : IsSeat a words ports notes b reckoned x) (known : IsSeatKnown x) (g : Port → Port) (quiet : IsQuiet g) (n : Began) (began : BeganInTime b n) where
  -- by which it may have met others
  pub moved_searching : (m : Contention) → m.seals ≡ x.contention.seals → OwnSearch a words words' ports notes b reckoned x.number n (g (ports x.number)) m →
      (P : SeatedPort → Type 0) → P (record (becomes x n (g x.port)) { contention = m }) → Moved a words words' ports notes b reckoned x P
  moved_searching m seals own P says =
      let to = own.to in
      let same = ap (λ (l : List (List Applied)). length l) to.before in
      aside a words words' ports notes b to.beside reckoned to.reckoned' x w s known g quiet n (subst (λ (p : Port). IsSince n (g p).control.entering ((to.reckoned').since x.number)) (sym s.port) to.entering)
      (begun_grows b to.beside n (omega (arith, same)) (none_grown b to.beside to.log to.before) began) to.time to.log to.before to.lawful m seals own.search own.met P says

  -- by which it meets nobody
  pub moved_quietly : Still a words words' ports notes b reckoned x.number n (g (ports x.number)) → (P : SeatedPort → Type 0) → P (becomes x n (g x.port)) → Moved a words words' ports notes b reckoned x P
  moved_quietly still P says = moved_searching x.contention refl (own_search a words words' ports notes b reckoned x s n (g (ports x.number)) still) P says

-- a step of a seat that changes no history, where it keeps the lawful state and time
module _ {S : Type 0} (a : About) (slots id : ℕ) (me : Me S (List SeatedPort)) (one : IsOne me) (own : (one_of me.0).about ≡ a) (known : IsSeatKnown (one_of me.0)) where
  abbrev x : SeatedPort
  x = one_of me.0

  abbrev Leads : (List ℕ → List ℕ) → (List ℕ → Port → Port) → Type 0
  Leads f g = (words : List ℕ) (ports : ℕ → Port) (notes : ℕ → List Noted) (b : Beside) (reckoned : Reckoning) → LawfulMemory (plan_of a) words ports b notes →
      Reckons (plan_of a) words ports (site_now b) reckoned →
      x.number < a.ports → x.port ≡ ports x.number → IsSince x.began (ports x.number).control.entering (reckoned.since x.number) → x.began.epoch ≤ length b.before →
      Still a words (f words) ports notes b reckoned x.number x.began (g words (ports x.number))

  abbrev Searching : (List ℕ → List ℕ) → (List ℕ → Port → Port) → (List ℕ → Contention) → Type 0
  Searching f g h = (words : List ℕ) (ports : ℕ → Port) (notes : ℕ → List Noted) (b : Beside) (reckoned : Reckoning) → LawfulMemory (plan_of a) words ports b notes →
      Reckons (plan_of a) words ports (site_now b) reckoned → IsSeat a words ports notes b reckoned x →
      OwnSearch a words (f words) ports notes b reckoned x.number x.began (g words (ports x.number)) (h words)

  -- one by which its search goes on
  pub quietly_searching : (i : ℕ) (f : ℕ → ℕ) (g : ℕ → Port → Port) (h : ℕ → Contention → Contention) (R : SeatedPort → ℕ → SeatedPort → Type 0) → ((n : ℕ) → IsQuiet (g n)) →
      ((n : ℕ) (m : Contention) → (h n m).seals ≡ m.seals) → Searching (λ words. slice_set words i (f (slice_index words i))) (λ words. g (slice_index words i)) (λ words. h (slice_index words i) x.contention) →
      ((n : ℕ) → R x n (record (becomes x x.began (g n x.port)) { contention = h n x.contention })) →
      Allows (IsRuleKept a) slots id me i f (tells R me)
  quietly_searching i f g h R quiet seals leads says = allowed a slots id me i f R one own (λ words ports notes b reckoned w time s small.
      let n : ℕ = slice_index words i in
      moved_searching a words (slice_set words i (f n)) ports notes b reckoned x w s known (g n) (quiet n) x.began s.began (h n x.contention) (seals n x.contention) (leads words ports notes b reckoned w time s) (R x n) (says n))

  -- one by which it meets nobody
  pub quietly : (i : ℕ) (f : ℕ → ℕ) (g : ℕ → Port → Port) (R : SeatedPort → ℕ → SeatedPort → Type 0) → ((n : ℕ) → IsQuiet (g n)) →
      Leads (λ words. slice_set words i (f (slice_index words i))) (λ words. g (slice_index words i)) →
      ((words : List ℕ) (ports : ℕ → Port) (b : Beside) → LawfulEpochs (plan_of a) words ports b → x.number < a.ports → x.port ≡ ports x.number →
      R x (slice_index words i) (becomes x x.began (g (slice_index words i) x.port))) →
      Allows (IsRuleKept a) slots id me i f (tells R me)
  quietly i f g R quiet leads says = allowed a slots id me i f R one own (λ words ports notes b reckoned w time s small.
      let n : ℕ = slice_index words i in
      let to = leads words ports notes b reckoned w time s.number s.port (subst (λ (p : Port). IsSince x.began p.control.entering (reckoned.since x.number)) s.port s.entering) (s.began).come in
      moved_quietly a words (slice_set words i (f n)) ports notes b reckoned x w s known (g n) (quiet n) x.began s.began to (R x n) (says words ports b w.epochs s.number s.port))

  -- the first step of entering
  pub may_store_entering : x.port.control.entering ≡ Stands → x.port.control.past ≡ true → x.port.control.owned ≡ None →
      Allows (IsRuleKept a) slots id me (at_word x.number) (λ n. entering_from x.port.control.here) (tells StoresEnteringWord me)
  may_store_entering stands past none = quietly (at_word x.number) (λ n. entering_from x.port.control.here) (λ n. stored_entering) StoresEnteringWord
      (λ n. record { part = λ p. refl; before = λ p. refl; here = λ p. refl; passed = λ p. omega arith })
      (λ words ports notes b reckoned w time below is entering come.
      let k : ℕ = x.number in
      let may : MayMove (plan_of a) words ports b notes k move.StoresEnteringWord =
      (ap (λ (p : Port). p.control.entering) (sym is) ∙ stands, ap (λ (p : Port). p.control.past) (sym is) ∙ past, ap (λ (p : Port). p.control.owned) (sym is) ∙ none) in
      by_move a words ports notes b reckoned w time k below x.began move.StoresEnteringWord may tt refl (λ p c n is. is) (λ q ne. put_other k (length b.before) reckoned.since q ne)
      (slice_set words (at_word k) (entering_from x.port.control.here)) (ap (λ (p : Port). slice_set words (at_word k) (entering_from p.control.here)) (sym is)) (stored_entering (ports k)) refl
      (subst (λ n. x.began.epoch ≤ n) (sym (put_same k (length b.before) reckoned.since)) come))
      (λ words ports b w below is. refl)

  -- the second
  pub may_load : x.port.control.entering ≡ StoredEntering → Allows (IsRuleKept a) slots id me current_word (λ n. n) (tells LoadsCurrent me)
  may_load stores_it = quietly current_word (λ n. n) (λ n. loads (unpacked n)) LoadsCurrent (λ n. record { part = λ p. refl; before = λ p. refl; here = λ p. refl; passed = λ p. omega arith })
      (λ words ports notes b reckoned w time below is entering come.
      let k : ℕ = x.number in
      let n : ℕ = slice_index words current_word in
      let marks' = ap (λ (p : Port). p.control.entering) (sym is) ∙ stores_it in
      by_move a words ports notes b reckoned w time k below x.began move.LoadsCurrent marks' tt refl (λ p c n is. is) (λ q ne. refl) (slice_set words current_word n) (load_same words current_word)
      (loads (unpacked n) (ports k)) refl (subst (λ (t : Entering). IsSince x.began t (reckoned.since k)) marks' entering))
      (λ words ports b w below is.
      let to = entries_load (plan_of a) words ports b x.number w below (ap (λ (p : Port). p.control.entering) (sym is) ∙ stores_it) in
      let site : unpacked (slice_index words current_word) ≡ site_now b = ap unpacked to.0 ∙ unpacked_is (site_now b) w.plan.arenas w.control.site.arena in (
        to.0 ∙ ap packed (sym site),
        subst (λ (z : About). IsSite (plan_of z) (unpacked (slice_index words current_word))) (sym own) (subst (IsSite (plan_of a)) (sym site) w.control.site),
        refl,
      ))

  -- a look, perhaps as the first step of a call
  pub may_look : (first : Bool) → MayLook a x.port → Allows (IsRuleKept a) slots id me current_word (λ n. n) (tells (SeatLooks first) me)
  may_look first may = allowed a slots id me current_word (λ n. n) (SeatLooks first) one own (λ words ports notes b reckoned w time s small.
      let k : ℕ = x.number in
      let n : ℕ = slice_index words current_word in
      let g = began_by first x b (seen_few a words ports notes b reckoned x w s) s.began in
      let to = by_look a words ports notes b reckoned w time k s.number g.0 (subst (MayLook a) s.port may) tt in
      moved_quietly a words (slice_set words current_word n) ports notes b reckoned x w s known (looked_at n) (looked_quiet n) g.0 g.2
      (subst (λ (l : List ℕ). Still a words l ports notes b reckoned k g.0 (looked_at n (ports k))) (load_same words current_word) to) (SeatLooks first x n) (
        g.0,
        g.1,
        refl,
        λ at.
            let here = here_is a words ports b w.epochs k s.number (at ∙ ap (λ (p : Port). packed p.control.here) s.port) in
            let come = (g.2).come in
            let same = ap (λ (p : Port). p.control.here.epoch) s.port in
            let epoch = ap (λ (d : Site). d.epoch) here in
            omega (arith, come, same, epoch),
      ))
