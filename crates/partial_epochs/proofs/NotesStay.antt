-- Each step of a machine keeps the notes lawful, over all epochs.
use Rattle.partial_epochs.proofs.{Common.{ℕ, suc, ◌≡◌, ◌≢◌, ◌+◌, ◌<◌, ◌≤◌, ◌==◌, ◌⊎◌, ◌++◌, Bool, true, false, if◌then◌else◌, Option, Some, None, IfSome, List, [], ◌∷◌, length, map, refl, sym, ap, subst, ◌∙◌, inl, inr, arith, length-append, AllByRecursion, option_map, eqb_tells, append-nil, append_cancel_left, map-append, Applied, Opening, Note, Fits, IsLegal, IsTrueOf, LegalNotes, Noted, place_of, seen_by, shown_by, EachOnce, places_by, places_written, wrote, all_take, some_same, Step, Layout, first_free, answer_of, words_after, Reply, CoreState, advance, reply_of, answer_for, Holding, Part, core_of, first_at, port_of, holdings, AreAnswersKept, AreNotesOf, IsNoteOf, kept_with, since_with, list_of, put, Plan, arena_words, based_step, history_of, opened_after, public_log, Control, Epoch, Port, Stands, Beside, IsPresent, IsStanding, MachineLeads, MayAdd, is_applied, Makes, ExpectedOne, IsEpochHistory, LawfulMemory, LawfulNotes, MayNote, NotesStayLawful, EpochReached, noting, one_history, public_answer, public_call, public_note, public_noted, seen_of, LegalNotes-grows, LegalNotes-last, LegalNotes-push, IsTrueOf-grows, places_written-append, seen_by-push}, Lists.{put_all, put_other, put_same}, OneHistory.held_history, Public.{public_fits, public_true}, Written.{changed_none, lost_none, no_places, read_none, scanned_none}, Seats.{earlier, fits, history_longer, known, number, reached, reached_grows, seen_begins}}
use Rattle.partial_state.specs.Loads.{KeptAnswer}
use Rattle.partial_core.proofs.Parts.{seen_within as no_longer}

-- the places of a port's entries in two histories, one after the other
pub places_both : (p k : ℕ) (a b : List Applied) → places_by p k (a ++ b) ≡ places_by p k a ++ places_by p (k + length a) b
places_both p k [] b = let is : k + 0 ≡ k = omega arith in ap (λ n. places_by p n b) (sym is)
places_both p k (x ∷ a) b =
    let is : k + 1 + length a ≡ k + suc (length a) = omega arith in
    ap (λ (l : List ℕ). if x.port == p then k ∷ l else l) (places_both p (k + 1) a b ∙ ap (λ n. places_by p (k + 1) a ++ places_by p n b) is)
    ∙ turn (x.port == p) (places_by p (k + 1) a) (places_by p (k + suc (length a)) b)
  where
    turn : (c : Bool) (m l : List ℕ) → (if c then k ∷ (m ++ l) else m ++ l) ≡ (if c then k ∷ m else m) ++ l
    turn true m l = refl
    turn false m l = refl

-- in the one history they are so many places later
places_public : (p off n g : ℕ) (h : List Applied) → places_by p (off + n) (public_log g h) ≡ map (λ i. off + i) (places_by p n h)
places_public p off n g [] = refl
places_public p off n g (x ∷ h) =
    let is : off + n + 1 ≡ off + (n + 1) = omega arith in
    ap (λ (l : List ℕ). if x.port == p then (off + n) ∷ l else l) (ap (λ m. places_by p m (public_log g h)) is ∙ places_public p off (n + 1) g h)
    ∙ turn (x.port == p) (places_by p (n + 1) h)
  where
    turn : (c : Bool) (l : List ℕ) → (if c then (off + n) ∷ map (λ i. off + i) l else map (λ i. off + i) l) ≡ map (λ i. off + i) (if c then n ∷ l else l)
    turn true l = refl
    turn false l = refl

-- a port has no places among the entries of another one
places_none : (p q n g : ℕ) (h : List Applied) → q ≢ p → AllByRecursion (λ (a : Applied). a.port ≡ p) h → places_by q n (public_log g h) ≡ []
places_none p q n g [] ne own = refl
places_none p q n g (x ∷ h) ne own = by (x.port == q) (eqb_tells x.port q) (places_none p q (n + 1) g h ne own.1)
  where
    by : (c : Bool) → ((c ≡ true) × (x.port ≡ q)) ⊎ ((c ≡ false) × (x.port ≢ q)) → places_by q (n + 1) (public_log g h) ≡ [] →
        (if c then n ∷ places_by q (n + 1) (public_log g h) else places_by q (n + 1) (public_log g h)) ≡ []
    by c (inl is) rest = absurd (ne (sym is.1 ∙ own.0))
    by c (inr is) rest = ap (λ (t : Bool). if t then n ∷ places_by q (n + 1) (public_log g h) else places_by q (n + 1) (public_log g h)) is.0 ∙ rest

written_one : (off : ℕ) (t : Option Note) → wrote (option_map (public_note off) t) ≡ map (λ i. off + i) (wrote t)
written_one off None = refl
written_one off (Some (Note.Wrote k)) = refl
written_one off (Some (Note.Lost k)) = refl
written_one off (Some (Note.Saw k)) = refl

written_public : (e : Plan) (before : List (List Applied)) (ns : List Noted) → places_written (map (public_noted e before) ns) ≡ map (λ i. length (history_of before) + i) (places_written ns)
written_public e before [] = refl
written_public e before (n ∷ ns) =
    ap (λ (l : List ℕ). l ++ places_written (map (public_noted e before) ns)) (written_one (length (history_of before)) n.note)
    ∙ ap (λ (l : List ℕ). map (λ i. length (history_of before) + i) (wrote n.note) ++ l) (written_public e before ns)
    ∙ sym (map-append (λ i. length (history_of before) + i) (wrote n.note) (places_written ns))

-- what a machine's step notes is nothing, or one call
pub one_or_none : (o : Opening) (y : Part) (t : Option Reply) (new : List Noted) → AreNotesOf o y t new → (new ≡ []) ⊎ ((r : Reply) × IsNoteOf o y r new)
one_or_none o y None new w = inl w
one_or_none o y (Some (Reply.Applied s)) new w = inr (Reply.Applied s, w)
one_or_none o y (Some (Reply.Lost s)) new w = inr (Reply.Lost s, w)
one_or_none o y (Some (Reply.Scanned c b)) new w = inr (Reply.Scanned c b, w)
one_or_none o y (Some (Reply.Read v s)) new w = inr (Reply.Read v s, w)
one_or_none o y (Some (Reply.Refused cause)) new w = inl w.none
one_or_none o y (Some (Reply.Changed s)) new w = inr (Reply.Changed s, w)

place_public : (off : ℕ) (n : Note) → place_of (public_note off n) ≡ off + place_of n
place_public off (Note.Wrote k) = refl
place_public off (Note.Lost k) = refl
place_public off (Note.Saw k) = refl

shown_public : (off : ℕ) (n : Note) → shown_by (public_note off n) ≡ off + shown_by n
shown_public off (Note.Wrote k) = omega arith
shown_public off (Note.Lost k) = omega arith
shown_public off (Note.Saw k) = refl

first_after : (z : Layout) (o : Opening) (words : List ℕ) (hs : List Holding) (log : List Applied) (low : ℕ) (s : CoreState) (ks : List KeptAnswer) → AreAnswersKept z o words hs log low s ks →
    0 < length ks →
    low ≤ first_at ks
first_after z o words hs log low s [] w some = absurd (omega (arith, some))
first_after z o words hs log low s (k ∷ ks) w some = w.0.behind

-- a call that is legal in a beginning of the history is legal in the history
legal_longer : (o : Opening) (h es : List Applied) (p seen : ℕ) (n : Noted) → IsLegal o h p seen n → IsLegal o (h ++ es) p seen n
legal_longer o h es p seen n w = (w.0, by n.note w.1)
  where
    by : (t : Option Note) → IfSome t (λ (u : Note). IsTrueOf o h p n.call n.answer u × (seen ≤ place_of u)) → IfSome t (λ (u : Note). IsTrueOf o (h ++ es) p n.call n.answer u × (seen ≤ place_of u))
    by None is_true = tt
    by (Some u) is_true = (IsTrueOf-grows o h es p n.call n.answer u is_true.0, is_true.1)

module _ (e : Plan) (words : List ℕ) (ports : ℕ → Port) (b : Beside) (notes : ℕ → List Noted) (k : ℕ) (c : CoreState) (step : Step) (w : LawfulMemory e words ports b notes) (below : k < e.ports)
    (stands : (ports k).control.entering ≡ Stands) (lead : MachineLeads e words ports b k c step) (added : List Noted)
    (may : MayNote e (ports k) (notes k) (since_with c (ports k).part) lead.port.part.seen lead.tells.new added) where
  abbrev words' : List ℕ
  words' = words_after words (based_step e (ports k).control.here.arena step)

  abbrev ports' : ℕ → Port
  ports' = put k lead.port ports

  abbrev x : Part
  x = (ports k).part

  abbrev y : Part
  y = lead.port.part

  abbrev before : List (List Applied)
  before = (ports k).before

  abbrev off : ℕ
  off = length (history_of (ports k).before)

  abbrev o : Opening
  o = opened_after e.opening (ports k).before

  abbrev new : List Noted
  new = lead.tells.new

  -- the port where it stands then
  s' : IsStanding lead.beside k lead.port
  s' =
      let there = lead.lawful.standing k below in
      subst (λ (p : Port). p.control.entering ≡ Stands → IsStanding lead.beside k p) (put_same k lead.port ports) there (ap (λ (t : Control). t.entering) lead.control ∙ stands)

  port_is : port_of lead.port.part ≡ k
  port_is = number e words' ports' lead.beside lead.lawful k below lead.port s'

  port_was : port_of (ports k).part ≡ k
  port_was = number e words ports b w.epochs k below (ports k) lead.standing

  notes_are : lead.port.part.notes ≡ (ports k).part.notes ++ lead.tells.new
  notes_are = ap (λ (p : Part). p.notes) lead.tells.part

  seen_is : lead.port.part.seen ≡ lead.standing.epoch.log ++ lead.entries
  seen_is = ap (λ (p : Part). p.seen) lead.tells.part

  -- the one history grows by the entries, with public stamps
  pub history_is : one_history lead.beside ≡ one_history b ++ public_log (length b.before) lead.entries
  history_is = ap (λ (l : List Applied). history_of (l ∷ lead.beside.before)) lead.log ∙ ap (λ (l : List (List Applied)). history_of ((b.log ++ lead.entries) ∷ l)) lead.epochs
      ∙ history_longer b.log lead.entries b.before

  -- the entries are those of the notes
  own_places : places_by k (length lead.standing.epoch.log) lead.entries ≡ places_written lead.tells.new
  own_places =
      let was : places_by k 0 lead.standing.epoch.log ≡ places_written (ports k).part.notes =
      subst (λ n. places_by n 0 lead.standing.epoch.log ≡ places_written (ports k).part.notes) port_was (fits e words ports b w.epochs k below (ports k) lead.standing).once in
      let is : places_by k 0 lead.port.part.seen ≡ places_written lead.port.part.notes =
      subst (λ n. places_by n 0 lead.port.part.seen ≡ places_written lead.port.part.notes) port_is lead.tells.fits.once in
      let none : 0 + length lead.standing.epoch.log ≡ length lead.standing.epoch.log = omega arith in
      append_cancel_left (places_written (ports k).part.notes) (places_by k (length lead.standing.epoch.log) lead.entries) (places_written lead.tells.new)
      (ap (λ (l : List ℕ). l ++ places_by k (length lead.standing.epoch.log) lead.entries) (sym was)
      ∙ ap (λ n. places_by k 0 lead.standing.epoch.log ++ places_by k n lead.entries) (sym none)
      ∙ sym (places_both k 0 lead.standing.epoch.log lead.entries)
      ∙ ap (places_by k 0) (sym seen_is)
      ∙ is
      ∙ ap places_written notes_are
      ∙ places_written-append (ports k).part.notes lead.tells.new)

  -- a step adds an entry only where its machine has answered
  pub adds_of : (more : Bool) → (public_log (length b.before) lead.entries ≡ []) ⊎ MayAdd e words (ports k) (Makes c step more)
  adds_of more = by (reply_of (advance c (answer_of (arena_words e words (ports k).control.here.arena) step))) refl lead.tells.noted
    where
      none : places_written lead.tells.new ≡ [] → public_log (length b.before) lead.entries ≡ []
      none is = ap (public_log (length b.before)) (no_places k (length lead.standing.epoch.log) lead.entries lead.own (own_places ∙ is))

      by : (t : Option Reply) → reply_of (advance c (answer_of (arena_words e words (ports k).control.here.arena) step)) ≡ t → AreNotesOf (opened_after e.opening (ports k).before) lead.port.part t lead.tells.new →
          (public_log (length b.before) lead.entries ≡ []) ⊎ MayAdd e words (ports k) (Makes c step more)
      by None is h = inl (none (ap places_written h))
      by (Some (Reply.Refused cause)) is h = inl (none (ap places_written h.none))
      by (Some (Reply.Applied s)) is h = inr (lead.unmet, ap is_applied is)
      by (Some (Reply.Lost s)) is h = inl (none (ap places_written h.is ∙ lost_none s h.note (length lead.port.part.seen) h.placed))
      by (Some (Reply.Scanned n t)) is h = inl (none (ap places_written h.is ∙ scanned_none n t h.note (length lead.port.part.seen) h.placed))
      by (Some (Reply.Read v s)) is h = inl (none (ap places_written h.is ∙ read_none v s h.note (length lead.port.part.seen) h.placed))
      by (Some (Reply.Changed s)) is h = inl (none (ap places_written h.is ∙ changed_none s h.note (length lead.port.part.seen) h.placed))

  public_places : places_by k (0 + length (one_history b)) (public_log (length b.before) lead.entries) ≡ map (λ i. length (history_of (ports k).before) + i) (places_written lead.tells.new)
  public_places = elim lead.present [
    | inl none ↦
        let is : places_written lead.tells.new ≡ [] = sym own_places ∙ ap (places_by k (length lead.standing.epoch.log)) none in
        ap (λ (l : List Applied). places_by k (0 + length (one_history b)) (public_log (length b.before) l)) none ∙ sym (ap (map (λ i. length (history_of (ports k).before) + i)) is)
    | inr p ↦
        let long = length-append (history_of b.before) (public_log (length b.before) b.log) in
        let inner : length (public_log (length b.before) b.log) ≡ length b.log = long_public (length b.before) b.log in
        let same = ap (λ (l : List Applied). length l) p.log in
        let same' = ap (λ (l : List (List Applied)). length (history_of l)) p.before in
        let log : lead.standing.epoch.log ≡ b.log = log_is p in
        let all = ap (λ (l : List Applied). length l) log in
        let is : 0 + length (one_history b) ≡ length (history_of (ports k).before) + length lead.standing.epoch.log = omega (arith, long, inner, same', all) in
        ap (λ n. places_by k n (public_log (length b.before) lead.entries)) is
        ∙ places_public k (length (history_of (ports k).before)) (length lead.standing.epoch.log) (length b.before) lead.entries
        ∙ ap (map (λ i. length (history_of (ports k).before) + i)) own_places
  ]
    where
      long_public : (g : ℕ) (h : List Applied) → length (public_log g h) ≡ length h
      long_public g [] = refl
      long_public g (a ∷ h) = ap suc (long_public g h)

      log_is : IsPresent b k (ports k) → lead.standing.epoch.log ≡ b.log
      log_is p =
          let same : lead.standing.epoch ≡ p.standing.epoch = some_same (sym lead.standing.is ∙ p.standing.is) in
          ap (λ (r : Epoch). r.log) same ∙ p.log

  added_places : places_written added ≡ map (λ i. length (history_of (ports k).before) + i) (places_written lead.tells.new)
  added_places = elim may [
    | inl none ↦ ap places_written none.0 ∙ sym (ap (map (λ i. length (history_of (ports k).before) + i)) none.1)
    | inr all ↦ ap places_written all.0 ∙ written_public e (ports k).before lead.tells.new
  ]

  once_then : (q : ℕ) → q < e.ports → EachOnce (one_history lead.beside) q (noting k added notes q)
  once_then q low = put_all (λ i (ns : List Noted). i < e.ports → EachOnce (one_history lead.beside) i ns) k (notes k ++ added) notes q
      (λ _ _.
      ap (places_by k 0) history_is ∙ places_both k 0 (one_history b) (public_log (length b.before) lead.entries)
      ∙ ap (λ (l : List ℕ). l ++ places_by k (0 + length (one_history b)) (public_log (length b.before) lead.entries)) (w.noted.once k below)
      ∙ ap (λ (l : List ℕ). places_written (notes k) ++ l) (public_places ∙ sym added_places)
      ∙ sym (places_written-append (notes k) added))
      (λ ne low.
      ap (places_by q 0) history_is ∙ places_both q 0 (one_history b) (public_log (length b.before) lead.entries)
      ∙ ap (λ (l : List ℕ). places_by q 0 (one_history b) ++ l) (places_none k q (0 + length (one_history b)) (length b.before) lead.entries ne lead.own)
      ∙ append-nil (places_by q 0 (one_history b)) ∙ w.noted.once q low) low

  -- the new note
  legal_grown : (q : ℕ) → q < e.ports → LegalNotes e.opening (one_history lead.beside) q 0 (notes q)
  legal_grown q low = subst (λ (h : List Applied). LegalNotes e.opening h q 0 (notes q)) (sym history_is)
      (LegalNotes-grows e.opening (one_history b) (public_log (length b.before) lead.entries) q 0 (notes q) (w.noted.legal q low))

  since_is : lead.port.part.since ≡ since_with c (ports k).part
  since_is = ap (λ (p : Part). p.since) lead.tells.part

  since_low : since_with c (ports k).part ≤ first_at lead.port.part.kept
  since_low =
      let kn = known e words' ports' lead.beside lead.lawful k below lead.port s' in
      let last : List KeptAnswer = record { answer = answer_of (arena_words e words (ports k).control.here.arena) step; at = length (lead.standing.epoch.log ++ lead.entries) } ∷ [] in
      let kept : lead.port.part.kept ≡ kept_with c (ports k).part ++ last = ap (λ (p : Part). p.kept) lead.tells.part in
      let long = ap (λ (l : List KeptAnswer). length l) kept in
      let both = length-append (kept_with c (ports k).part) last in
      let one : length last ≡ 1 = refl in
      let low : lead.port.part.since ≤ first_at lead.port.part.kept =
      first_after e.sizes (opened_after e.opening s'.epoch.before) (arena_words e words' lead.port.control.here.arena) (holdings (list_of s'.epoch.part 0 e.ports)) s'.epoch.log
      lead.port.part.since lead.port.part.begun lead.port.part.kept kn.kept (omega (arith, long, both, one)) in
      let is = since_is in
      omega (arith, low, is)

  -- what the port has noted of its epoch is true
  legal_here : (n : Noted) → lead.tells.new ≡ n ∷ [] → IsLegal (opened_after e.opening (ports k).before) lead.port.part.seen k (seen_by 0 (ports k).part.notes) n
  legal_here n is =
      let all : LegalNotes (opened_after e.opening (ports k).before) lead.port.part.seen k 0 lead.port.part.notes =
      subst (λ i. LegalNotes (opened_after e.opening (ports k).before) lead.port.part.seen i 0 lead.port.part.notes) port_is lead.tells.fits.legal in
      LegalNotes-last (opened_after e.opening (ports k).before) lead.port.part.seen k 0 (ports k).part.notes n
      (subst (LegalNotes (opened_after e.opening (ports k).before) lead.port.part.seen k 0) (notes_are ∙ ap (λ (l : List Noted). (ports k).part.notes ++ l) is) all)

  above_seen : AllByRecursion (λ (a : Applied). first_free e.sizes ≤ a.stamp) lead.port.part.seen
  above_seen =
      let kn = known e words' ports' lead.beside lead.lawful k below lead.port s' in
      let h = held_history e words' ports' lead.beside lead.lawful lead.port.control.here.arena s'.epoch s'.is in
      subst (AllByRecursion (λ (a : Applied). first_free e.sizes ≤ a.stamp)) (sym kn.seen) (all_take (λ (a : Applied). first_free e.sizes ≤ a.stamp) (length lead.port.part.seen) s'.epoch.log h.above)

  before_is : AllByRecursion (IsEpochHistory e) (ports k).before
  before_is = earlier e words ports b w.epochs k below (ports k) lead.standing w.noted.finished

  -- and is legal in what the port has seen of the one history
  legal_seen : (n : Note) (call_is : Noted) → lead.tells.new ≡ call_is ∷ [] → call_is.note ≡ Some n → seen_by 0 (notes k) ≤ length (history_of (ports k).before) + since_with c (ports k).part →
      first_at lead.port.part.kept ≤ place_of n → ExpectedOne (opened_after e.opening (ports k).before) lead.port.part.seen call_is.call call_is.answer →
      IsLegal e.opening (history_of (lead.port.part.seen ∷ (ports k).before)) k (seen_by 0 (notes k)) (public_noted e (ports k).before call_is)
  legal_seen n m is noted seen behind expected =
      let l = legal_here m is in
      let fit = subst (λ (t : Option Note). Fits (length (opened_after e.opening (ports k).before).values) m.call m.answer t) noted l.0 in
      let true_here = (subst (λ (t : Option Note). IfSome t (λ (u : Note). IsTrueOf (opened_after e.opening (ports k).before) lead.port.part.seen k m.call m.answer u
      × (seen_by 0 (ports k).part.notes ≤ place_of u))) noted l.1).0 in
      let thereafter = public_true e w.epochs.plan (ports k).before lead.port.part.seen above_seen before_is k m.call m.answer n fit expected true_here in
      let low = since_low in
      let place = place_public (length (history_of (ports k).before)) n in
      subst (λ (t : Option Note). Fits (length e.opening.values) (public_call e (ports k).before m.call) (public_answer e (ports k).before m.call m.answer)
      (option_map (public_note (length (history_of (ports k).before))) t)
      × IfSome (option_map (public_note (length (history_of (ports k).before))) t)
      (λ (u : Note). IsTrueOf e.opening (history_of (lead.port.part.seen ∷ (ports k).before)) k (public_call e (ports k).before m.call)
      (public_answer e (ports k).before m.call m.answer) u × (seen_by 0 (notes k) ≤ place_of u))) (sym noted)
      (public_fits e w.epochs.plan (ports k).before lead.port.part.seen above_seen before_is m.call m.answer n fit, (thereafter, omega (arith, seen, behind, low, place)))

  -- so it is legal in the one history
  legal_public : (n : Note) (call_is : Noted) → lead.tells.new ≡ call_is ∷ [] → call_is.note ≡ Some n → seen_by 0 (notes k) ≤ length (history_of (ports k).before) + since_with c (ports k).part →
      first_at lead.port.part.kept ≤ place_of n → ExpectedOne (opened_after e.opening (ports k).before) lead.port.part.seen call_is.call call_is.answer →
      IsLegal e.opening (one_history lead.beside) k (seen_by 0 (notes k)) (public_noted e (ports k).before call_is)
  legal_public n m is noted seen behind expected =
      let g = seen_begins e words' ports' lead.beside lead.lawful k below lead.port s' in
      let history : one_history lead.beside ≡ history_of (lead.port.part.seen ∷ (ports k).before) ++ g.0 = g.1
      ∙ ap (λ (l : List (List Applied)). history_of (lead.port.part.seen ∷ l) ++ g.0) lead.before in
      subst (λ (h : List Applied). IsLegal e.opening h k (seen_by 0 (notes k)) (public_noted e (ports k).before m)) (sym history)
      (legal_longer e.opening (history_of (lead.port.part.seen ∷ (ports k).before)) g.0 k (seen_by 0 (notes k)) (public_noted e (ports k).before m) (legal_seen n m is noted seen behind expected))

  seen_more : seen_of (ports k) ≤ seen_of lead.port
  seen_more =
      let from = no_longer (ports k).part.seen lead.standing.epoch.log lead.tells.seen in
      let is = ap (λ (l : List Applied). length l) seen_is in
      let both = length-append lead.standing.epoch.log lead.entries in
      let same = ap (λ (l : List (List Applied)). length (history_of l)) lead.before in
      omega (arith, from, is, both, same)

  -- where nothing is noted, and where the call is
  pub record Noting (more : List Noted) : Type 0 where
    pub legal : LegalNotes e.opening (one_history lead.beside) k 0 (notes k ++ more)
    pub shown : seen_by 0 (notes k ++ more) ≤ seen_of lead.port

  quiet : Noting []
  quiet =
      let was = w.noted.shown k below in
      let up = seen_more in
      record {
        legal = subst (LegalNotes e.opening (one_history lead.beside) k 0) (sym (append-nil (notes k))) (legal_grown k below);
        shown = subst (λ (l : List Noted). seen_by 0 l ≤ seen_of lead.port) (sym (append-nil (notes k))) (omega (arith, was, up));
      }

  one_more : (r : Reply) (m : IsNoteOf (opened_after e.opening (ports k).before) lead.port.part r lead.tells.new) → seen_by 0 (notes k) ≤ length (history_of (ports k).before) + since_with c (ports k).part →
      AllByRecursion (λ (n : Noted). ExpectedOne (opened_after e.opening (ports k).before) lead.port.part.seen n.call n.answer) lead.tells.new →
      Noting (map (public_noted e (ports k).before) lead.tells.new)
  one_more r m seen expected =
      let n : Noted = record { call = m.call; answer = answer_for (core_of lead.port.part) r; note = Some m.note } in
      let is : lead.tells.new ≡ n ∷ [] = m.is in
      let one = (subst (AllByRecursion (λ (n : Noted). ExpectedOne (opened_after e.opening (ports k).before) lead.port.part.seen n.call n.answer)) is expected).0 in
      let within = m.within in
      let shown = shown_public (length (history_of (ports k).before)) m.note in
      let same = ap (λ (l : List (List Applied)). length (history_of l)) lead.before in
      let pushed : seen_by 0 (notes k ++ public_noted e (ports k).before n ∷ []) ≡ shown_by (public_note (length (history_of (ports k).before)) m.note) =
      seen_by-push 0 (notes k) (public_noted e (ports k).before n) in
      subst Noting (ap (map (public_noted e (ports k).before)) (sym is))
      (record {
        legal = LegalNotes-push e.opening (one_history lead.beside) k 0 (notes k) (public_noted e (ports k).before n) (legal_grown k below) (legal_public m.note n is refl seen m.behind one);
        shown = omega (arith, pushed, shown, within, same);
      })

  noting_here : Noting added
  noting_here = elim may [
    | inl none ↦ subst Noting (sym none.0) quiet
    | inr all ↦ subst Noting (sym all.0) (elim (one_or_none (opened_after e.opening (ports k).before) lead.port.part (reply_of (advance c (answer_of (arena_words e words (ports k).control.here.arena) step))) lead.tells.new lead.tells.noted) [
      | inl nothing ↦ subst (λ (l : List Noted). Noting (map (public_noted e (ports k).before) l)) (sym nothing) quiet
      | inr m ↦ one_more m.0 m.1 all.1 all.2
    ])
  ]

  -- in what the port has seen its notes stay legal
  pub legal_notes_seen : LegalNotes e.opening (history_of (lead.port.part.seen ∷ (ports k).before)) k 0 (notes k) →
      seen_by 0 (notes k) ≤ length (history_of (ports k).before) + since_with c (ports k).part →
      AllByRecursion (λ (n : Noted). ExpectedOne (opened_after e.opening (ports k).before) lead.port.part.seen n.call n.answer) lead.tells.new →
      LegalNotes e.opening (history_of (lead.port.part.seen ∷ (ports k).before)) k 0 (notes k ++ map (public_noted e (ports k).before) lead.tells.new)
  legal_notes_seen was seen expected = elim (one_or_none (opened_after e.opening (ports k).before) lead.port.part (reply_of (advance c (answer_of (arena_words e words (ports k).control.here.arena) step))) lead.tells.new lead.tells.noted) [
    | inl nothing ↦ subst (λ (l : List Noted). LegalNotes e.opening (history_of (lead.port.part.seen ∷ (ports k).before)) k 0 (notes k ++ map (public_noted e (ports k).before) l)) (sym nothing)
        (subst (LegalNotes e.opening (history_of (lead.port.part.seen ∷ (ports k).before)) k 0) (sym (append-nil (notes k))) was)
    | inr some ↦
        let m = some.1 in
        let n : Noted = record { call = m.call; answer = answer_for (core_of lead.port.part) some.0; note = Some m.note } in
        let is : lead.tells.new ≡ n ∷ [] = m.is in
        let one = (subst (AllByRecursion (λ (n : Noted). ExpectedOne (opened_after e.opening (ports k).before) lead.port.part.seen n.call n.answer)) is expected).0 in
        subst (λ (l : List Noted). LegalNotes e.opening (history_of (lead.port.part.seen ∷ (ports k).before)) k 0 (notes k ++ map (public_noted e (ports k).before) l)) (sym is)
        (LegalNotes-push e.opening (history_of (lead.port.part.seen ∷ (ports k).before)) k 0 (notes k) (public_noted e (ports k).before n) was (legal_seen m.note n is refl seen m.behind one))
  ]

  pub notes_then : LawfulNotes e ports' lead.beside (noting k added notes)
  notes_then = record {
    finished = subst (AllByRecursion (IsEpochHistory e)) (sym lead.epochs) w.noted.finished;
    reached = λ q low. put_all (λ i (p : Port). i < e.ports → EpochReached lead.beside p) k lead.port ports q
        (λ _ _. reached e words' ports' lead.beside lead.lawful k below lead.port s'
        (ap (λ (l : List (List Applied)). length l) lead.before ∙ (w.noted.reached k below).epoch ∙ sym (ap (λ (d : Control). d.here.epoch) lead.control)))
        (λ _ low. reached_grows b lead.beside (ports q) lead.entries lead.log lead.epochs (w.noted.reached q low)) low;
    legal = λ q low. put_all (λ i (ns : List Noted). i < e.ports → LegalNotes e.opening (one_history lead.beside) i 0 ns) k (notes k ++ added) notes q
        (λ _ _. noting_here.legal) (λ _ low. legal_grown q low) low;
    shown = λ q low. shown_then q low (eqb_tells q k);
    once = once_then;
  }
    where
      shown_then : (q : ℕ) → q < e.ports → (((q == k) ≡ true) × (q ≡ k)) ⊎ (((q == k) ≡ false) × (q ≢ k)) → seen_by 0 (noting k added notes q) ≤ seen_of (put k lead.port ports q)
      shown_then q low (inl same) =
          let ns : noting k added notes q ≡ notes k ++ added = ap (noting k added notes) same.1 ∙ put_same k (notes k ++ added) notes in
          let p : put k lead.port ports q ≡ lead.port = ap (put k lead.port ports) same.1 ∙ put_same k lead.port ports in
          subst (λ (l : List Noted). seen_by 0 l ≤ seen_of (put k lead.port ports q)) (sym ns) (subst (λ (p : Port). seen_by 0 (notes k ++ added) ≤ seen_of p) (sym p) noting_here.shown)
      shown_then q low (inr ne) =
          subst (λ (l : List Noted). seen_by 0 l ≤ seen_of (put k lead.port ports q)) (sym (put_other k (notes k ++ added) notes q ne.1))
          (subst (λ (p : Port). seen_by 0 (notes q) ≤ seen_of p) (sym (put_other k lead.port ports q ne.1)) (w.noted.shown q low))

pub notes_stay_lawful : NotesStayLawful
notes_stay_lawful e words ports b notes k c step w below stands lead added may = record {
  epochs = lead.lawful;
  noted = notes_then e words ports b notes k c step w below stands lead added may;
}
