-- Each step that is due is allowed: whatever the table is then, the words and the ports of all seats stay those of a lawful state.
use Rattle.partial_memory.proofs.{Common.{around, ℕ, zero, suc, ◌≡◌, ◌+◌, ◌<◌, ◌==◌, ◌%◌, ◌^◌, ◌++◌, Bool, true, false, if◌then◌else◌, Some, List, [], ◌∷◌, map, slice_index, slice_set, refl, sym, ap, subst, ◌∙◌, arith, AllByRecursion, some, get_elem?, Me, keeps, Allows, Applied, Step, Load, Store, Exchange, Add, word_of, answer_of, words_after, CoreState, step_of, all_at, all_join, all_before, all_after, Part, IsMachineOf, port_of, Lawful, LeadsOn, added_by, steps_stay_lawful, lawful_ports_fit, lawful_machines_are_ready, About, SeatedPort, AreOpened, AreByOpened, SeatShows, IsRuleKept, IsShuffle, IsOne, one_of, parts_of, makes, Contains, set-get_or}, Shuffles.find}
use prog.Atomic.{either}
use Rattle.partial_core.specs.{Lawful.LawfulAmong, Part.PartAmong}

-- what the word of a step becomes, and which answer a machine gets for the number found
abbrev pub change_of : Step → ℕ → ℕ
change_of (Load w) n = n
change_of (Store w v) n = v
change_of (Exchange w old new) n = either (n == old) new n
change_of (Add w k) n = (n + k) % 2 ^ 64

abbrev pub answer_found : Step → ℕ → ℕ
answer_found (Load w) n = n
answer_found (Store w v) n = 0
answer_found (Exchange w old new) n = n
answer_found (Add w k) n = n

-- the parts before, here and after
pub parts_split : (before : List SeatedPort) (x : SeatedPort) (after : List SeatedPort) → parts_of (before ++ x ∷ after) ≡ parts_of before ++ x.part ∷ parts_of after
parts_split [] x after = refl
parts_split (b ∷ before) x after = ap (λ l. b.part ∷ l) (parts_split before x after)

-- a memory as one of the ports stands in it
abbrev pub among : List ℕ → List SeatedPort → SeatedPort → List SeatedPort → List Applied → PartAmong
among words before x after log = record { words = words; before = parts_of before; part = x.part; after = parts_of after; log = log }

either_cond : (b : Bool) (x y : ℕ) → either b x y ≡ (if b then x else y)
either_cond true x y = refl
either_cond false x y = refl

-- a step does the same to the words of a table and to plain words
words_then : (words : List ℕ) (s : Step) → words_after words s ≡ slice_set words (word_of s) (change_of s (slice_index words (word_of s)))
words_then words (Load w) = sym (set-get_or words w 0)
words_then words (Store w v) = refl
words_then words (Exchange w old new) = ap (slice_set words w) (sym (either_cond (slice_index words w == old) new (slice_index words w)))
words_then words (Add w k) = refl

told_then : (words : List ℕ) (s : Step) → answer_of words s ≡ answer_found s (slice_index words (word_of s))
told_then words (Load w) = refl
told_then words (Store w v) = refl
told_then words (Exchange w old new) = refl
told_then words (Add w k) = refl

-- a port among those of the parts is one that was opened
contained_opened : (n p : ℕ) (xs : List SeatedPort) → AreOpened n xs → Contains (map port_of (parts_of xs)) p → p < n
contained_opened n p [] w (k, below, is) = absurd (omega (arith, below))
contained_opened n p (x ∷ xs) w (zero, below, is) = let here = w.0 in omega (arith, here, is)
contained_opened n p (x ∷ xs) w (suc k, below, is) = contained_opened n p xs w.1 (k, omega (arith, below), is)

-- so each entry is by a port that was opened
pub entries_opened : (about : About) (xs : List SeatedPort) (log : List Applied) → AreOpened about.ports xs →
    AllByRecursion (λ (e : Applied). Contains (map port_of (parts_of xs)) e.port) log → AreByOpened about log
entries_opened about xs [] w each = tt
entries_opened about xs (e ∷ log) w each = (contained_opened about.ports e.port xs w each.0, entries_opened about xs log w each.1)

module _ (words : List ℕ) (before : List SeatedPort) (x : SeatedPort) (after : List SeatedPort) (log : List Applied) (c : CoreState) (s : Step)
    (w : Lawful x.about.sizes x.about.opening words (parts_of (before ++ x ∷ after)) log) (opened : AreOpened x.about.ports (before ++ x ∷ after))
    (machine : IsMachineOf c x.part) (due : step_of c ≡ Some s) where
  lawful_here : LawfulAmong x.about.sizes x.about.opening (among words before x after log)
  lawful_here = subst (λ l. Lawful x.about.sizes x.about.opening words l log) (parts_split before x after) w

  pub leads : LeadsOn x.about.sizes x.about.opening (among words before x after log) c s
  leads = steps_stay_lawful x.about.sizes x.about.opening (among words before x after log) c s lawful_here machine due

  -- the port after the step, and the history
  abbrev pub next : SeatedPort
  next = record { about = x.about; part = leads.y }

  abbrev pub longer : List Applied
  longer = log ++ added_by x.about.sizes (port_of x.part) words s

  pub opened_then : AreOpened x.about.ports (before ++ next ∷ after)
  opened_then =
      let P : SeatedPort → Type 0 = λ h. port_of h.part < x.about.ports in
      let here = all_at P before x after opened in
      let same = leads.tells.port in
      all_join P before next after (all_before P before x after opened) (omega (arith, same, here)) (all_after P before x after opened)

  pub lawful_then : Lawful x.about.sizes x.about.opening (words_after words s) (parts_of (before ++ next ∷ after)) longer
  lawful_then = subst (λ l. Lawful x.about.sizes x.about.opening (words_after words s) l longer) (sym (parts_split before next after)) leads.lawful

  pub told_here : SeatShows c x (answer_of words s) next
  told_here =
      let ready = lawful_machines_are_ready x.about.sizes x.about.opening (among words before x after log) c lawful_here machine in
      let fit = lawful_ports_fit x.about.sizes x.about.opening (words_after words s) (parts_of (before ++ next ∷ after)) longer lawful_then in
      let seen : leads.y.seen ≡ longer = ap (λ (v : Part). v.seen) leads.tells.part in
      record {
        about = refl;
        sound = ready.sound;
        log = log;
        entries = added_by x.about.sizes (port_of x.part) words s;
        tells = leads.tells;
        others = subst (AreByOpened x.about) (sym seen) (entries_opened x.about (before ++ next ∷ after) longer opened_then fit.others);
      }

-- the step can be made, and keeps the rule
step_kept : {S : Type 0} (slots id : ℕ) (me : Me S (List SeatedPort)) (c : CoreState) (s : Step) → IsOne me → IsMachineOf c (one_of me.0).part →
    step_of c ≡ Some s → Allows (IsRuleKept (one_of me.0).about) slots id me (word_of s) (change_of s) (λ n. makes c me (answer_found s n))
step_kept {S} slots id me c s one machine due table kept homes at small =
    let x : SeatedPort = one_of me.0 in
    let r = around table.views id (x ∷ []) (subst (λ v. get_elem? table.views id ≡ some v) one.0 at) in
    let f = find r.before x r.behind kept.all (subst (λ l. IsShuffle l kept.all) r.now kept.shuffle) in
    let w : Lawful x.about.sizes x.about.opening table.words (parts_of (f.before ++ x ∷ f.after)) kept.log =
    subst (λ l. Lawful x.about.sizes x.about.opening table.words (parts_of l) kept.log) f.is kept.lawful in
    let opened : AreOpened x.about.ports (f.before ++ x ∷ f.after) = subst (AreOpened x.about.ports) f.is kept.opened in
    let y : SeatedPort = next table.words f.before x f.after kept.log c s w opened machine due in
    let log : List Applied = longer table.words f.before x f.after kept.log c s w opened machine due in (
      y ∷ [],
      keeps,
      tt,
      record {
        log = log;
        all = f.before ++ y ∷ f.after;
        shuffle = subst (λ l. IsShuffle l (f.before ++ y ∷ f.after)) (sym (r.renewed (y ∷ []))) (f.more y);
        lawful = subst (λ l. Lawful x.about.sizes x.about.opening l (parts_of (f.before ++ y ∷ f.after)) log) (words_then table.words s)
            (lawful_then table.words f.before x f.after kept.log c s w opened machine due);
        opened = opened_then table.words f.before x f.after kept.log c s w opened machine due;
      },
      ((refl, one.1), subst (λ a. SeatShows c x a y) (told_then table.words s) (told_here table.words f.before x f.after kept.log c s w opened machine due)),
    )

-- the same at a call, where the step is one of the four kinds
pub step_asked : {S : Type 0} (about : About) (slots count id : ℕ) (me : Me S (List SeatedPort)) (c d : CoreState) (t s : Step) →
    word_of t < count → IsOne me → (one_of me.0).about ≡ about → c ≡ d → IsMachineOf c (one_of me.0).part × (step_of c ≡ Some t) → t ≡ s →
    (word_of s < count) × Allows (IsRuleKept about) slots id me (word_of s) (change_of s) (λ n. makes d me (answer_found s n))
step_asked about slots count id me c d t s within one own same due is =
    let step : step_of c ≡ Some s = due.1 ∙ ap Some is in
    let due' : IsMachineOf d (one_of me.0).part × (step_of d ≡ Some s) = subst (λ (z : CoreState). IsMachineOf z (one_of me.0).part × (step_of z ≡ Some s)) same (due.0, step) in (
      subst (λ u. word_of u < count) is within,
      subst (λ (a : About). Allows (IsRuleKept a) slots id me (word_of s) (change_of s) (λ n. makes d me (answer_found s n))) own (step_kept slots id me d s one due'.0 due'.1),
    )
