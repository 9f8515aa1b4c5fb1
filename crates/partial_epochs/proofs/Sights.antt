-- The steps that aren't a machine's keep the notes lawful, and a port notes what it has seen by a look.
use Rattle.partial_epochs.proofs.{Common.{ℕ, ◌≡◌, ◌≢◌, ◌+◌, ◌<◌, ◌≤◌, ◌==◌, ◌⊎◌, ◌++◌, true, false, Option, IfSome, List, [], ◌∷◌, length, refl, sym, ap, subst, ◌∙◌, inl, inr, arith, length-append, AllByRecursion, eqb_tells, append-nil, length-map, Applied, Note, IsLegal, IsTrueOf, LegalNotes, Noted, place_of, seen_after, seen_by, EachOnce, places_by, places_written, wrote, some_same, words_after, Exchange, Part, PartAmong, core_of, port_of, with_seen, looks_stay_lawful, count, list_of, put, Site, Plan, arena_words, at_word, carried_words, component_words, entering_from, packed, history_of, opened_after, public_entry, public_log, Epoch, Port, Stands, Beside, FindsNone, IsArena, IsStanding, LawfulEpochs, awaits_slot, claims_no_more, arrived_port, having_published, next_beside, ArrivalsKeepNotes, AsidesStayLawful, GlanceLeads, GlancesStayLawful, IsEpochHistory, IsSight, LawfulMemory, LawfulNotes, PublishesKeepNotes, EpochReached, SightLeads, SightsStayLawful, having_seen, noting, one_history, seen_of, IsTrueOf-grows, LegalNotes-push, places_written-append, seen_by-push}, Change.{Changes, beside_then, change_kept}, Lists.{Around, around_of, count_same, put_all, put_other, put_same}, OneHistory.{history_grows, present_history}, Present.standing, Seats.{among, reached, reached_grows, seen_few}, Slots.done}
use Rattle.partial_core.specs.Lawful as one
use Rattle.partial_core.specs.Ports.{Looks}

-- one port sees more, and the one history is as before
module _ (e : Plan) (ports : ℕ → Port) (b c : Beside) (notes : ℕ → List Noted) (k : ℕ) (p : Port) (w : LawfulNotes e ports b notes) (below : k < e.ports) (same : one_history c ≡ one_history b)
    (finished : AllByRecursion (IsEpochHistory e) c.before) (others : (q : ℕ) → q < e.ports → EpochReached b (ports q) → EpochReached c (ports q)) (own : EpochReached c p)
    (more : seen_of (ports k) ≤ seen_of p) where
  pub notes_kept : LawfulNotes e (put k p ports) c notes
  notes_kept = record {
    finished = finished;
    reached = λ q low. put_all (λ i (r : Port). i < e.ports → EpochReached c r) k p ports q (λ _ _. own) (λ _ low. others q low (w.reached q low)) low;
    legal = λ q low. subst (λ (h : List Applied). LegalNotes e.opening h q 0 (notes q)) (sym same) (w.legal q low);
    shown = λ q low. put_all (λ i (r : Port). i < e.ports → seen_by 0 (notes i) ≤ seen_of r) k p ports q (λ _ _. let was = w.shown k below in omega (arith, was, more)) (λ _ low. w.shown q low) low;
    once = λ q low. subst (λ (h : List Applied). EachOnce h q (notes q)) (sym same) (w.once q low);
  }

same_reached : (b c : Beside) (p q : Port) → c.log ≡ b.log → c.before ≡ b.before → q.part ≡ p.part → q.before ≡ p.before → q.control.here ≡ p.control.here → EpochReached b p → EpochReached c q
same_reached b c p q log before part earlier here r = record {
  later = r.later;
  log = r.log;
  is = ap (λ (l : List Applied). l ∷ c.before) log ∙ ap (λ (l : List (List Applied)). b.log ∷ l) before ∙ r.is ∙ ap (λ (l : List (List Applied)). r.later ++ r.log ∷ l) (sym earlier);
  seen = let seen = r.seen in let same = ap (λ (x : Part). length x.seen) part in omega (arith, seen, same);
  epoch = ap (λ (l : List (List Applied)). length l) earlier ∙ r.epoch ∙ sym (ap (λ (c : Site). c.epoch) here);
}

pub asides_stay_lawful : AsidesStayLawful
asides_stay_lawful e words words' ports b c notes k p w below a then = record {
  epochs = then;
  noted = notes_kept e ports b c notes k p w.noted below
      (ap (λ (l : List Applied). history_of (l ∷ c.before)) a.log ∙ ap (λ (l : List (List Applied)). history_of (b.log ∷ l)) a.epochs)
      (subst (AllByRecursion (IsEpochHistory e)) (sym a.epochs) w.noted.finished)
      (λ q low. same_reached b c (ports q) (ports q) a.log a.epochs refl refl refl)
      (same_reached b c (ports k) p a.log a.epochs a.part a.before a.here (w.noted.reached k below))
      (let part = ap (λ (x : Part). length x.seen) a.part in let before = ap (λ (l : List (List Applied)). length (history_of l)) a.before in omega (arith, part, before));
}

-- of two ends of one list the longer one ends in the shorter one
pub ends : {A : Type 0} (l a m c : List A) → l ++ a ≡ m ++ c → length a ≤ length c → (mid : List A) × (c ≡ mid ++ a)
ends l a [] c is low = (l, sym is)
ends [] a (y ∷ m) c is low =
    let long = ap (λ (t : List _). length t) is in
    let both = length-append (y ∷ m) c in
    absurd (omega (arith, long, both, low))
ends (x ∷ l) a (y ∷ m) c is low = let rest : l ++ a ≡ m ++ c = cc in ends l a m c rest low

pub arrivals_keep_notes : ArrivalsKeepNotes
arrivals_keep_notes e words ports b notes k c w below a =
    let p : Port = arrived_port e k a.site a.before in
    let words' = words_after words (Exchange (at_word k) (entering_from (ports k).control.here) (packed c)) in
    let there : IsStanding b k p = subst (λ (q : Port). q.control.entering ≡ Stands → IsStanding b k q) (put_same k p ports) (a.lawful.standing k below) refl in
    let am = among e words' (put k p ports) b a.lawful k below p there in
    let old = w.noted.reached k below in
    let up = a.later in
    let n = a.epoch in
    let m = old.epoch in
    let mid = ends old.later (old.log ∷ (ports k).before) (am.0 ++ there.epoch.log ∷ []) a.before (sym old.is ∙ am.1 ∙ split am.0 there.epoch.log a.before) (omega (arith, up, n, m)) in
    let g = history_grows mid.0 (old.log ∷ (ports k).before) in
    let long = ap (λ (l : List (List Applied)). length (history_of l)) mid.1 ∙ ap (λ (l : List Applied). length l) g.1 in
    let both = length-append (history_of (old.log ∷ (ports k).before)) g.0 in
    let inner = length-append (history_of (ports k).before) (public_log (length (ports k).before) old.log) in
    let same = length-map old.log (public_entry (length (ports k).before)) in
    let seen = old.seen in
    record {
      epochs = a.lawful;
      noted = notes_kept e ports b b notes k p w.noted below refl w.noted.finished (λ q low r. r)
          (reached e words' (put k p ports) b a.lawful k below p there a.epoch)
          (omega (arith, long, both, inner, same, seen));
    }
  where
    split : (l : List (List Applied)) (x : List Applied) (t : List (List Applied)) → l ++ x ∷ t ≡ (l ++ x ∷ []) ++ t
    split [] x t = refl
    split (y ∷ l) x t = ap (λ (m : List (List Applied)). y ∷ m) (split l x t)

pub publishes_keep_notes : PublishesKeepNotes
publishes_keep_notes e words words' ports b notes k o w below then = (
  record {
    epochs = then;
    noted = notes_kept e ports b (next_beside e b o.arena) notes k (having_published (ports k) o) w.noted below (append-nil (one_history b))
        (present_history e words ports b w.epochs, w.noted.finished)
        (λ q low. next_reached (ports q))
        (let r = next_reached (ports k) (w.noted.reached k below) in record { later = r.later; log = r.log; is = r.is; seen = r.seen; epoch = r.epoch })
        (omega arith);
  },
  append-nil (one_history b),
)
  where
    next_reached : (p : Port) → EpochReached b p → EpochReached (next_beside e b o.arena) p
    next_reached p r = record {
      later = [] ∷ r.later;
      log = r.log;
      is = ap (λ (l : List (List Applied)). [] ∷ l) r.is;
      seen = r.seen;
      epoch = r.epoch;
    }

module _ (e : Plan) (words : List ℕ) (ports : ℕ → Port) (b : Beside) (k : ℕ) (w : LawfulEpochs e words ports b) (below : k < e.ports) (stands : (ports k).control.entering ≡ Stands) where
  abbrev s : IsStanding b k (ports k)
  s = standing e words ports b k w below stands

  abbrev x : ℕ
  x = (ports k).control.here.arena

  abbrev r : Epoch
  r = s.epoch

  abbrev y : Part
  y = with_seen r.log (r.part k)

  abbrev r' : Epoch
  r' = record r { part = put k y r.part }

  arena : IsArena e (arena_words e words x) (component_words e words x) (carried_words e words x) r (x ≢ b.arena)
  arena = w.arenas x r s.is

  around : Around r.part 0 e.ports k
  around = around_of r.part 0 e.ports k (omega arith) (omega (arith, below))

  -- the memory of that arena, as the port stands in it
  abbrev m : PartAmong
  m = record { words = arena_words e words x; before = around.before; part = r.part k; after = around.after; log = r.log }

  looks : Looks e.sizes (opened_after e.opening r.before) m
  looks = looks_stay_lawful e.sizes (opened_after e.opening r.before) m
      (subst (λ (l : List Part). one.Lawful e.sizes (opened_after e.opening r.before) (arena_words e words x) l r.log) around.is arena.lawful)

  arena_then : IsArena e (arena_words e words x) (component_words e words x) (carried_words e words x) r' (x ≢ b.arena)
  arena_then =
      let list : list_of (put k y r.part) 0 e.ports ≡ around.before ++ y ∷ around.after =
      around.renewed (put k y r.part) (λ i ne. put_other k y r.part i ne) ∙ ap (λ (z : Part). around.before ++ z ∷ around.after) (put_same k y r.part) in
      record {
        lawful = subst (λ (l : List Part). one.Lawful e.sizes (opened_after e.opening r.before) (arena_words e words x) l r.log) (sym list) looks.lawful;
        numbers = λ q inside. put_all (λ i (z : Part). i < e.ports → port_of z ≡ i) k y r.part q (λ _ _. arena.numbers k below) (λ _ inside. arena.numbers q inside) inside;
        stamps = arena.stamps;
        few = arena.few;
        passed = arena.passed;
        sealed = arena.sealed;
        reserve = arena.reserve;
        slots =
            let same : count (λ q. claims_no_more (r.over q) (put k y r.part q)) 0 e.ports ≡ count (λ q. claims_no_more (r.over q) (r.part q)) 0 e.ports =
            count_same (λ q. claims_no_more (r.over q) (put k y r.part q)) (λ q. claims_no_more (r.over q) (r.part q)) 0 e.ports
            (λ q low high. ap (done (r.over q))
            (put_all (λ i (z : Part). awaits_slot z ≡ awaits_slot (r.part i)) k y r.part q (λ _. refl) (λ _. refl))) in
            let slots = arena.slots in
            omega (arith, same, slots);
        silent = λ off. record {
          unclaimed = (arena.silent off).unclaimed;
          finds = λ q inside. put_all (λ i (z : Part). FindsNone (core_of z)) k y r.part q (λ _. (arena.silent off).finds k below) (λ _. (arena.silent off).finds q inside);
        };
      }

  changes : Changes e words b k x (ports k) r words (having_seen (ports k) r.log) r' []
  changes = record {
    count = refl;
    outside = λ i out. refl;
    log = sym (append-nil r.log);
    before = refl;
    parts = λ q ne. put_other k y r.part q ne;
    passes = λ q ne. refl;
    overs = λ q ne. refl;
    part = put_same k y r.part ∙ ap (with_seen r.log) s.part;
    passed = s.passed;
    over = s.over;
    more = omega arith;
    control = refl;
    earlier = refl;
    grows = inl refl;
    arena = arena_then;
  }

  pub sight_kept : LawfulEpochs e words (put k (having_seen (ports k) r.log) ports) (beside_then b x r' [])
  sight_kept = change_kept e words ports b k w below stands words (having_seen (ports k) r.log) r' [] changes

  abbrev pub beside_sighted : Beside
  beside_sighted = beside_then b x r' []

-- the port of a look has seen the whole history of its epoch
module _ (e : Plan) (words : List ℕ) (ports : ℕ → Port) (b : Beside) (notes : ℕ → List Noted) (k : ℕ) (w : LawfulMemory e words ports b notes) (below : k < e.ports)
    (st : IsStanding b k (ports k)) (c : Beside) (log : c.log ≡ b.log ++ []) (epochs : c.before ≡ b.before) where
  same_history : one_history c ≡ one_history b
  same_history = ap (λ (l : List Applied). history_of (l ∷ c.before)) (log ∙ append-nil b.log) ∙ ap (λ (l : List (List Applied)). history_of (b.log ∷ l)) epochs

  own_reached : EpochReached c (having_seen (ports k) st.epoch.log)
  own_reached =
      let am = among e words ports b w.epochs k below (ports k) st in
      record {
        later = am.0;
        log = st.epoch.log;
        is = ap (λ (l : List Applied). l ∷ c.before) (log ∙ append-nil b.log) ∙ ap (λ (l : List (List Applied)). b.log ∷ l) epochs ∙ am.1;
        seen = omega arith;
        epoch = (w.noted.reached k below).epoch;
      }

  pub glance_noted : LawfulNotes e (put k (having_seen (ports k) st.epoch.log) ports) c notes
  glance_noted =
      let seen : length (ports k).part.seen ≤ length st.epoch.log = seen_few e words ports b w.epochs k below (ports k) st in
      notes_kept e ports b c notes k (having_seen (ports k) st.epoch.log) w.noted below same_history
      (subst (AllByRecursion (IsEpochHistory e)) (sym epochs) w.noted.finished)
      (λ q low was. reached_grows b c (ports q) [] log epochs was)
      own_reached (omega (arith, seen))

  -- and it notes an answer that is true there
  module _ (i : ℕ) (n : Noted) (h : IsSight e k (ports k) st.epoch.log (notes k) n i) where
    one_legal : IsLegal e.opening (one_history b) k (seen_by 0 (notes k)) n
    one_legal =
        let am = among e words ports b w.epochs k below (ports k) st in
        let g = history_grows am.0 (st.epoch.log ∷ (ports k).before) in
        let all : one_history b ≡ history_of (st.epoch.log ∷ (ports k).before) ++ g.0 = ap history_of am.1 ∙ g.1 in
        let saw : Note = Note.Saw (length (history_of (ports k).before) + i) in (
          h.fits,
          subst (λ (t : Option Note). IfSome t (λ (u : Note). IsTrueOf e.opening (one_history b) k n.call n.answer u × (seen_by 0 (notes k) ≤ place_of u))) (sym h.noted) (
            subst (λ (l : List Applied). IsTrueOf e.opening l k n.call n.answer saw) (sym all)
                (IsTrueOf-grows e.opening (history_of (st.epoch.log ∷ (ports k).before)) g.0 k n.call n.answer saw h.is_true),
            h.behind,
          ),
        )

    shown_one : seen_by 0 (notes k ++ n ∷ []) ≤ seen_of (having_seen (ports k) st.epoch.log)
    shown_one =
        let pushed = seen_by-push 0 (notes k) n ∙ ap (seen_after (seen_by 0 (notes k))) h.noted in
        let within = h.within in
        omega (arith, pushed, within)

    nothing_written : places_written (notes k ++ n ∷ []) ≡ places_written (notes k)
    nothing_written = places_written-append (notes k) (n ∷ []) ∙ ap (λ (t : Option Note). places_written (notes k) ++ (wrote t ++ [])) h.noted ∙ append-nil (places_written (notes k))

    pub sight_noted : LawfulNotes e (put k (having_seen (ports k) st.epoch.log) ports) c (noting k (n ∷ []) notes)
    sight_noted = record {
      finished = subst (AllByRecursion (IsEpochHistory e)) (sym epochs) w.noted.finished;
      reached = λ q low. put_all (λ j (r : Port). j < e.ports → EpochReached c r) k (having_seen (ports k) st.epoch.log) ports q (λ _ _. own_reached)
          (λ _ low. reached_grows b c (ports q) [] log epochs (w.noted.reached q low)) low;
      legal = λ q low. put_all (λ j (ns : List Noted). j < e.ports → LegalNotes e.opening (one_history c) j 0 ns) k (notes k ++ n ∷ []) notes q
          (λ _ _. subst (λ (l : List Applied). LegalNotes e.opening l k 0 (notes k ++ n ∷ [])) (sym same_history)
          (LegalNotes-push e.opening (one_history b) k 0 (notes k) n (w.noted.legal k below) one_legal))
          (λ _ low. subst (λ (l : List Applied). LegalNotes e.opening l q 0 (notes q)) (sym same_history) (w.noted.legal q low)) low;
      shown = λ q low. shown_then q low (eqb_tells q k);
      once = λ q low. put_all (λ j (ns : List Noted). j < e.ports → EachOnce (one_history c) j ns) k (notes k ++ n ∷ []) notes q
          (λ _ _. ap (places_by k 0) same_history ∙ w.noted.once k below ∙ sym nothing_written)
          (λ _ low. ap (places_by q 0) same_history ∙ w.noted.once q low) low;
    }
      where
        shown_then : (q : ℕ) → q < e.ports → (((q == k) ≡ true) × (q ≡ k)) ⊎ (((q == k) ≡ false) × (q ≢ k)) →
            seen_by 0 (noting k (n ∷ []) notes q) ≤ seen_of (put k (having_seen (ports k) st.epoch.log) ports q)
        shown_then q low (inl same) =
            let ns : noting k (n ∷ []) notes q ≡ notes k ++ n ∷ [] = ap (noting k (n ∷ []) notes) same.1 ∙ put_same k (notes k ++ n ∷ []) notes in
            let there : put k (having_seen (ports k) st.epoch.log) ports q ≡ having_seen (ports k) st.epoch.log =
            ap (put k (having_seen (ports k) st.epoch.log) ports) same.1 ∙ put_same k (having_seen (ports k) st.epoch.log) ports in
            subst (λ (l : List Noted). seen_by 0 l ≤ seen_of (put k (having_seen (ports k) st.epoch.log) ports q)) (sym ns)
            (subst (λ (r : Port). seen_by 0 (notes k ++ n ∷ []) ≤ seen_of r) (sym there) shown_one)
        shown_then q low (inr ne) =
            subst (λ (l : List Noted). seen_by 0 l ≤ seen_of (put k (having_seen (ports k) st.epoch.log) ports q)) (sym (put_other k (notes k ++ n ∷ []) notes q ne.1))
            (subst (λ (r : Port). seen_by 0 (notes q) ≤ seen_of r) (sym (put_other k (having_seen (ports k) st.epoch.log) ports q ne.1)) (w.noted.shown q low))

pub sights_stay_lawful : SightsStayLawful
sights_stay_lawful e words ports b notes k i n w below s stands h =
    let st : IsStanding b k (ports k) = standing e words ports b k w.epochs below stands in
    let same : s.epoch.log ≡ st.epoch.log = ap (λ (r : Epoch). r.log) (some_same (sym s.is ∙ st.is)) in
    let c : Beside = beside_sighted e words ports b k w.epochs below stands in
    subst (λ (l : List Applied). SightLeads e words ports b notes k l n) (sym same) (record {
      beside = c;
      same = record { log = append-nil b.log; before = refl; arena = refl };
      lawful = record {
        epochs = sight_kept e words ports b k w.epochs below stands;
        noted = sight_noted e words ports b notes k w below st c refl refl i n (subst (λ (l : List Applied). IsSight e k (ports k) l (notes k) n i) same h);
      };
    })

pub glances_stay_lawful : GlancesStayLawful
glances_stay_lawful e words ports b notes k w below stands s =
    let st : IsStanding b k (ports k) = standing e words ports b k w.epochs below stands in
    let same : s.epoch.log ≡ st.epoch.log = ap (λ (r : Epoch). r.log) (some_same (sym s.is ∙ st.is)) in
    let c : Beside = beside_sighted e words ports b k w.epochs below stands in
    subst (λ (l : List Applied). GlanceLeads e words ports b notes k l) (sym same) (record {
      beside = c;
      same = record { log = append-nil b.log; before = refl; arena = refl };
      lawful = record {
        epochs = sight_kept e words ports b k w.epochs below stands;
        noted = glance_noted e words ports b notes k w below st c refl refl;
      };
    })
