-- What is known of a port that stands in an epoch, and what a port has seen of the one history.
use Rattle.partial_epochs.proofs.{Common.{ℕ, ◌≡◌, ◌≢◌, ◌<◌, ◌≤◌, ◌++◌, List, [], ◌∷◌, length, drop, sym, ap, subst, ◌∙◌, inl, inr, arith, length-append, append_assoc, AllByRecursion, eqb_tells, map-append, take-append-drop, Applied, all_at, all_back, some_same, Part, port_of, holdings, IsKnown, lawful_ports_fit, list_of, Plan, arena_words, carried_words, component_words, history_of, opened_after, public_entry, public_log, Epoch, Port, Beside, IsArena, IsStanding, LawfulEpochs, IsEpochHistory, EpochReached, one_history, FitsHistory}, Lists.{Around, around_of}, OneHistory.{history_grows, present_history}}
use Rattle.partial_core.proofs.Parts.{seen_within as no_longer}

-- an epoch with more entries
pub history_longer : (a c : List Applied) (before : List (List Applied)) → history_of ((a ++ c) ∷ before) ≡ history_of (a ∷ before) ++ public_log (length before) c
history_longer a c before = ap (λ (l : List Applied). history_of before ++ l) (map-append (public_entry (length before)) a c)
    ∙ sym (append_assoc (history_of before) (public_log (length before) a) (public_log (length before) c))

-- p is what port k is, where it stands
module _ (e : Plan) (words : List ℕ) (ports : ℕ → Port) (b : Beside) (w : LawfulEpochs e words ports b) (k : ℕ) (below : k < e.ports) (p : Port) (s : IsStanding b k p) where
  abbrev r : Epoch
  r = s.epoch

  abbrev x : ℕ
  x = p.control.here.arena

  arena : IsArena e (arena_words e words x) (component_words e words x) (carried_words e words x) s.epoch (x ≢ b.arena)
  arena = w.arenas x s.epoch s.is

  around : Around s.epoch.part 0 e.ports k
  around = around_of s.epoch.part 0 e.ports k (omega arith) (omega (arith, below))

  abbrev P : Part → Type 0
  P = IsKnown e.sizes (opened_after e.opening s.epoch.before) (arena_words e words x) (holdings (list_of s.epoch.part 0 e.ports)) s.epoch.log

  pub known : IsKnown e.sizes (opened_after e.opening s.epoch.before) (arena_words e words p.control.here.arena) (holdings (list_of s.epoch.part 0 e.ports)) s.epoch.log p.part
  known = subst P s.part (all_at P around.before (s.epoch.part k) around.after (subst (AllByRecursion P) around.is arena.lawful.known))

  pub number : port_of p.part ≡ k
  number = ap port_of (sym s.part) ∙ arena.numbers k below

  pub fits : FitsHistory (opened_after e.opening p.before) s.epoch.log p.part
  fits =
      let o = opened_after e.opening s.epoch.before in
      let f = (lawful_ports_fit e.sizes (opened_after e.opening s.epoch.before) (arena_words e words x) (list_of s.epoch.part 0 e.ports) s.epoch.log arena.lawful).each in
      subst (λ (l : List (List Applied)). FitsHistory (opened_after e.opening l) s.epoch.log p.part) s.before
      (subst (FitsHistory (opened_after e.opening s.epoch.before) s.epoch.log) s.part
      (all_at (FitsHistory (opened_after e.opening s.epoch.before) s.epoch.log) around.before (s.epoch.part k) around.after
      (subst (AllByRecursion (FitsHistory (opened_after e.opening s.epoch.before) s.epoch.log)) around.is f)))

  -- its epoch is the current one or a finished one
  pub among : (later : List (List Applied)) × (b.log ∷ b.before ≡ later ++ s.epoch.log ∷ p.before)
  among = elim (eqb_tells x b.arena) [
    | inl same ↦
        let is : s.epoch ≡ w.now.0 = some_same (sym s.is ∙ ap b.holds same.1 ∙ w.now.1) in (
          [],
          sym (ap (λ (l : List Applied). l ∷ p.before) (ap (λ (q : Epoch). q.log) is ∙ w.now.2)
              ∙ ap (λ (l : List (List Applied)). b.log ∷ l) (sym s.before ∙ ap (λ (q : Epoch). q.before) is ∙ w.now.3)),
        )
    | inr other ↦
        let f = w.finished x s.epoch s.is other.1 in
        (b.log ∷ f.0, ap (λ (l : List (List Applied)). b.log ∷ l) (f.1 ∙ ap (λ (l : List (List Applied)). f.0 ++ s.epoch.log ∷ l) s.before))
  ]

  -- it has seen no more of its epoch than there is
  pub seen_few : length p.part.seen ≤ length s.epoch.log
  seen_few = no_longer p.part.seen s.epoch.log known.seen

  pub reached : length p.before ≡ p.control.here.epoch → EpochReached b p
  reached n = record { later = among.0; log = s.epoch.log; is = among.1; seen = seen_few; epoch = n }

  -- the epochs before it are those of a lawful memory
  pub earlier : AllByRecursion (IsEpochHistory e) b.before → AllByRecursion (IsEpochHistory e) p.before
  earlier all =
      let both : AllByRecursion (IsEpochHistory e) (b.log ∷ b.before) = (present_history e words ports b w, all) in
      (all_back (IsEpochHistory e) among.0 (s.epoch.log ∷ p.before) (subst (AllByRecursion (IsEpochHistory e)) among.1 both)).1

  -- what it has seen is a beginning of the one history
  pub seen_begins : (rest : List Applied) × (one_history b ≡ history_of (p.part.seen ∷ p.before) ++ rest)
  seen_begins =
      let g = history_grows among.0 (s.epoch.log ∷ p.before) in
      let left = drop (length p.part.seen) s.epoch.log in
      let all : p.part.seen ++ drop (length p.part.seen) s.epoch.log ≡ s.epoch.log =
      ap (λ (l : List Applied). l ++ drop (length p.part.seen) s.epoch.log) known.seen ∙ take-append-drop (length p.part.seen) s.epoch.log in (
        public_log (length p.before) (drop (length p.part.seen) s.epoch.log) ++ g.0,
        ap history_of among.1 ∙ g.1
            ∙ ap (λ (l : List Applied). l ++ g.0) (ap (λ (l : List Applied). history_of (l ∷ p.before)) (sym all) ∙ history_longer p.part.seen (drop (length p.part.seen) s.epoch.log) p.before)
            ∙ append_assoc (history_of (p.part.seen ∷ p.before)) (public_log (length p.before) (drop (length p.part.seen) s.epoch.log)) g.0,
      )

-- what a port has seen stays in the one history as the current epoch grows
pub reached_grows : (b c : Beside) (p : Port) (entries : List Applied) → c.log ≡ b.log ++ entries → c.before ≡ b.before → EpochReached b p → EpochReached c p
reached_grows b c p entries log before r = by r.later r.is
  where
    by : (later : List (List Applied)) → b.log ∷ b.before ≡ later ++ r.log ∷ p.before → EpochReached c p
    by [] is =
        let first : b.log ≡ r.log = cc in
        let rest : b.before ≡ p.before = cc in
        let seen = r.seen in
        let long = length-append b.log entries in
        let same = ap (λ (l : List Applied). length l) first in
        let all = ap (λ (l : List Applied). length l) log in
        record {
          later = [];
          log = c.log;
          is = ap (λ (l : List (List Applied)). c.log ∷ l) (before ∙ rest);
          seen = omega (arith, seen, long, same, all);
          epoch = r.epoch;
        }
    by (l ∷ later) is =
        let rest : b.before ≡ later ++ r.log ∷ p.before = cc in
        record {
          later = c.log ∷ later;
          log = r.log;
          is = ap (λ (t : List (List Applied)). c.log ∷ t) (before ∙ rest);
          seen = r.seen;
          epoch = r.epoch;
        }
