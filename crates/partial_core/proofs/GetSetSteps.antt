-- The steps of a getSet under way in an update.
use Rattle.partial_core.proofs.{Common.{ℕ, ◌≡◌, ◌+◌, ◌-◌, ◌<◌, ◌≤◌, ◌==◌, ◌⊎◌, ◌&&◌, ◌++◌, not, nat_lt, Bool, true, false, if◌then◌else◌, Option, Some, None, List, [], ◌∷◌, length, slice_index, inl, inr, refl, sym, ap, subst, ◌∙◌, arith, min, cond_both, ltb-true, ltb-false, eqb-true, option_map_or, Opening, Ranges, highest, Step, Load, Store, Exchange, Add, Layout, list_counter, list_end, list_head, greatest_list, answer_of, words_after, word_of, list_block, list_size, intervals_word, length-pairs, next_word, indices_word, begins_at, with_index, Change, Reply, Stage, is_sound_at, Own, Holding, Lists, claims_are_kept, stores_are_kept, publishings_are_kept, loads_are_true, LawfulWords, getsets_know, core_of, first_at, holdings, holding_of, joined_since, own_list, holding_at, AreNotesOf, IsTrueYet, PartAmong, LawfulAmong, ListWords, counter_bound, refusals_are_kept}, Parts.{LawfulWith, IsKeptAmong, gone}, Steps.{LeadsAt, holding_in, sizes_here, sound_at, memory_at, going, quiet, load_quiet}}
use Rattle.partial_active.specs.GetSet as finding
use Rattle.partial_active.specs.GetSetAnswers as finding_answers
use Rattle.partial_active.specs.Knowledge.{knows_by}
use Rattle.partial_active.specs.declared.get_set.Stage.{Stage as SetStage}
use Rattle.partial_active.specs.declared.get_set.Stage.TheVariants.{Head, ListLen, ListLow, ListHigh, Counter, Slot, Len, Index, Claim, Write, Publish, Done}
use Rattle.partial_active.proofs.Extended.{length_normal}
use Rattle.partial_embedded.specs.Embedded as viewing
use Rattle.partial_machine.specs.declared.stage.Stage.TheVariants.{GettingSet, Viewing, ClaimingRecord}
use Rattle.partial_machine.specs.Machine.{CoreState, getting, with_getting, after_getting, advance_at, step_at, reply_of, reply_at}
use Rattle.partial_knowledge.specs.Sets as sets

-- what a port holds in a getSet
abbrev in_set : CoreState → Option Own → Bool → Holding
in_set s own spent = record {
  port = s.port;
  claimed = None;
  own = own;
  due = None;
  spare = s.spare;
  pool_spent = s.pool_spent;
  slots_spent = s.slots_spent;
  lists_spent = spent;
}

-- a getSet that is finished writes no list
done_owns : (y : Layout) (head : ℕ) (stage : SetStage) (next : Ranges) → finding.set_step_at y head stage ≡ None → own_list next stage ≡ None
done_owns y head Head next e = refl
done_owns y head (ListLen at) next e = refl
done_owns y head (ListLow at left) next e = refl
done_owns y head (ListHigh at left lo) next e = refl
done_owns y head Counter next e = refl
done_owns y head (Slot slot) next e = refl
done_owns y head (Len slot at) next e = refl
done_owns y head (Index slot at left) next e = refl
done_owns y head (Claim count) next e = refl
done_owns y head (Write at k count word) next e = absurd cc
done_owns y head (Publish at) next e = absurd cc
done_owns y head Done next e = refl

module _ (u : CoreState) (c : Change) (old : ℕ) (e : u.stage ≡ GettingSet c old) where
  -- the machine with a finished getSet, at the next stage
  abbrev pub past : Stage → CoreState
  past v = record u { embedded = viewing.fresh_view u.sizes true; stage = v }

  -- the machine after an answer to its getSet
  pub by_due : (P : CoreState → Type 0) → P u → ((v : Stage) → finding.set_step_due u.get_set ≡ None → (v ≡ ClaimingRecord c old) ⊎ (v ≡ Viewing c old) → P (past v)) → P (after_getting u c old)
  by_due P goes ended = by_step (finding.set_step_due u.get_set) refl
    where
      Case : Option Step → Type 0
      Case f = P (option_map_or (λ _. u) f (past (if length u.found.indices == 0 then ClaimingRecord c old else Viewing c old)))

      by_step : (f : Option Step) → finding.set_step_due u.get_set ≡ f → Case (finding.set_step_due u.get_set)
      by_step (Some step) is = subst Case (sym is) goes
      by_step None is = subst Case (sym is) (cond_both (length u.found.indices == 0) (ClaimingRecord c old) (Viewing c old) (λ (v : Stage). P (past v))
          (λ none. ended (ClaimingRecord c old) is (inl refl)) (λ some. ended (Viewing c old) is (inr refl)))

  -- after the getSet's own answer the port holds what the getSet holds
  after_holds : (n : ℕ) → holding_at (after_getting u c old) n ≡ in_set u (own_list u.found.next u.get_set.stage) u.get_set.lists_spent
  after_holds n = by_due (λ (t : CoreState). holding_at t n ≡ in_set u (own_list u.found.next u.get_set.stage) u.get_set.lists_spent)
      (ap (λ (v : Stage). holding_in u v n) e)
      (λ v done next. at_next v next ∙ ap (λ (own : Option Own). in_set u own u.get_set.lists_spent) (sym (done_owns u.get_set.sizes u.get_set.head u.get_set.stage u.found.next done)))
    where
      at_next : (v : Stage) → (v ≡ ClaimingRecord c old) ⊎ (v ≡ Viewing c old) → holding_at (past v) n ≡ in_set u None u.get_set.lists_spent
      at_next v (inl is) = ap (λ (r : Stage). holding_at (past r) n) is
      at_next v (inr is) = ap (λ (r : Stage). holding_at (past r) n) is

  -- the call goes on
  no_reply : reply_of (after_getting u c old) ≡ None
  no_reply = by_due (λ (t : CoreState). reply_of t ≡ None) (ap reply_at e) (λ v done next. at_next v next)
    where
      at_next : (v : Stage) → (v ≡ ClaimingRecord c old) ⊎ (v ≡ Viewing c old) → reply_at v ≡ None
      at_next v (inl is) = ap reply_at is
      at_next v (inr is) = ap reply_at is

-- a getSet that writes no list, with the mark
abbrev IsCalm : Bool → finding.SetPair → Type 0
IsCalm b p = (own_list p.1.next p.0.stage ≡ None) × (p.0.lists_spent ≡ b)

calm_at_slot : (p : finding.SetPair) (slot : ℕ) → IsCalm p.0.lists_spent (finding.at_slot p slot)
calm_at_slot p slot = cond_both (nat_lt slot p.0.end) (record p.0 { stage = Slot slot }, p.1) (finding.after_walk p) (IsCalm p.0.lists_spent) (λ f. (refl, refl))
    (λ f. cond_both (p.0.noted && not p.0.lists_spent) (Claim (finding.next_words p.1)) Done (λ stage. IsCalm p.0.lists_spent (record p.0 { stage = stage }, p.1))
    (λ g. (refl, refl)) (λ g. (refl, refl)))

calm_come : (p : finding.SetPair) (slot : ℕ) → IsCalm p.0.lists_spent (finding.come_to p slot)
calm_come p slot = cond_both (begins_at p.1.read p.0.passed slot) (finding.at_slot (finding.pass_interval p) (highest p.1.read p.0.passed + 1)) (finding.at_slot p slot) (IsCalm p.0.lists_spent)
    (λ f. calm_at_slot (finding.pass_interval p) (highest p.1.read p.0.passed + 1)) (λ f. calm_at_slot p slot)

-- a load leads to no list that is written, and marks nothing
calm_load : (y : Layout) (head n : ℕ) (stage : SetStage) (p : finding.SetPair) (a : ℕ) → finding.set_step_at y head stage ≡ Some (Load n) → (own_list p.1.next stage ≡ None) ×
    IsCalm p.0.lists_spent (finding.advance_set_at stage p a)
calm_load y head n Head p a e = (
  refl,
  cond_both (a == 0) Counter (ListLen a)
      (λ stage. IsCalm p.0.lists_spent (record p.0 { head = a; stage = stage }, record p.1 { indices = []; read = []; next = [] })) (λ f. (refl, refl)) (λ f. (refl, refl)),
)
calm_load y head n (ListLen at) p a e =
    (refl, cond_both (a == 0) Counter (ListLow (intervals_word at) a) (λ stage. IsCalm p.0.lists_spent (finding.in_stage p stage)) (λ f. (refl, refl)) (λ f. (refl, refl)))
calm_load y head n (ListLow at left) p a e = (refl, (refl, refl))
calm_load y head n (ListHigh at left lo) p a e = (
  refl,
  cond_both (left == 1) Counter (ListLow (next_word at) (left - 1))
      (λ stage. IsCalm p.0.lists_spent (record p.0 { stage = stage }, record p.1 { read = p.1.read ++ (lo, a) ∷ [] })) (λ f. (refl, refl)) (λ f. (refl, refl)),
)
calm_load y head n Counter p a e = (refl, calm_come (record p.0 { end = min a p.0.sizes.slots; passed = 0 }, p.1) 0)
calm_load y head n (Slot slot) p a e = (
  refl,
  cond_both (a == 0) (finding.come_to p (slot + 1)) (if a == 1 then finding.come_to (finding.note_slot p slot) (slot + 1) else finding.in_stage p (Len slot a)) (IsCalm p.0.lists_spent)
      (λ f. calm_come p (slot + 1))
      (λ f. cond_both (a == 1) (finding.come_to (finding.note_slot p slot) (slot + 1)) (finding.in_stage p (Len slot a)) (IsCalm p.0.lists_spent)
      (λ g. calm_come (finding.note_slot p slot) (slot + 1)) (λ g. (refl, refl))),
)
calm_load y head n (Len slot at) p a e = (
  refl,
  cond_both (a == 0) (finding.come_to p (slot + 1)) (finding.in_stage p (Index slot (indices_word at) a)) (IsCalm p.0.lists_spent)
      (λ f. calm_come p (slot + 1)) (λ f. (refl, refl)),
)
calm_load y head n (Index slot at left) p a e =
    let q : finding.SetPair = (p.0, record p.1 { indices = with_index p.1.indices a }) in
    (refl, cond_both (left == 1) (finding.come_to q (slot + 1)) (finding.in_stage q (Index slot (next_word at) (left - 1))) (IsCalm p.0.lists_spent) (λ f. calm_come q (slot + 1)) (λ f. (refl, refl)))
calm_load y head n (Claim count) p a e = absurd cc
calm_load y head n (Write at k count word) p a e = absurd cc
calm_load y head n (Publish at) p a e = absurd cc
calm_load y head n Done p a e = absurd cc

module _ (z : Layout) (o : Opening) (m : PartAmong) (w : LawfulAmong z o m) (c : Change) (old : ℕ)
    (e : (core_of m.part).stage ≡ GettingSet c old) where
  open m use {words, before, part as x, after, log}

  gets : is_sound_at (core_of x) (GettingSet c old)
  gets = sound_at z o m w (GettingSet c old) e

  same_sizes : (core_of x).get_set.sizes ≡ z
  same_sizes = let h = gets in h.2 ∙ sizes_here z o m w

  knows : sets.SetKnows z words (holdings (before ++ x ∷ after)) (first_at x.kept) (getting (core_of x))
  knows = let g = going z o m w (GettingSet c old) e refl refl in g.knows.1

  -- it leads on
  leads_on : sets.SetKnowsOn z o words (holdings (before ++ x ∷ after)) log (first_at x.kept) (getting (core_of x))
  leads_on =
      let h = gets in
      subst (λ (y : Layout). LawfulWords y o words (holdings (before ++ x ∷ after)) log → sets.SetKnows y words (holdings (before ++ x ∷ after)) (first_at x.kept) (getting (core_of x)) →
      sets.SetKnowsOn y o words (holdings (before ++ x ∷ after)) log (first_at x.kept) (getting (core_of x))) same_sizes
      (λ v k. getsets_know o words (holdings (before ++ x ∷ after)) log (first_at x.kept) (getting (core_of x)) v h.1 k) w.memory knows

  -- nothing is noted
  silent : (a : ℕ) → AreNotesOf o (gone x log a []) (reply_of (advance_at (core_of x) (GettingSet c old) a)) []
  silent a = subst (λ (r : Option Reply). AreNotesOf o (gone x log a []) r []) (sym (no_reply (with_getting (core_of x) (finding.advance_set (getting (core_of x)) a)) c old e)) refl

  -- what the port holds after an answer
  holds_then : (a : ℕ) (own : Option Own) (spent : Bool) → own_list (finding.advance_set (getting (core_of x)) a).1.next (finding.advance_set (getting (core_of x)) a).0.stage ≡ own →
      (finding.advance_set (getting (core_of x)) a).0.lists_spent ≡ spent → holding_at (advance_at (core_of x) (GettingSet c old) a) (joined_since x) ≡ in_set (core_of x) own spent
  holds_then a own spent owns marks =
      let q : finding.SetPair = finding.advance_set (getting (core_of x)) a in
      after_holds (with_getting (core_of x) q) c old e (joined_since x)
      ∙ ap (λ (f : Option Own). in_set (core_of x) f q.0.lists_spent) owns
      ∙ ap (λ (b : Bool). in_set (core_of x) own b) marks

  -- a load
  load_leads : (n : ℕ) → step_at (core_of x) (GettingSet c old) ≡ Some (Load n) → LeadsAt z o m (GettingSet c old) (Load n)
  load_leads n due =
      let s : CoreState = core_of x in
      let g = going z o m w (GettingSet c old) e refl refl in
      let order = g.order in
      let inside = g.inside in
      let leads = leads_on in
      let readable = leads.readable n due in
      let possible = leads.possible n due (loads_are_true z o words (holdings (before ++ x ∷ after)) log n w.memory readable.0 readable.1) (omega (arith, order, inside)) in
      let calm = calm_load s.get_set.sizes s.get_set.head n s.get_set.stage (getting (core_of x)) (slice_index words n) due in
      load_quiet z o m w (GettingSet c old) n (advance_at (core_of x) (GettingSet c old) (slice_index words n)) e due refl refl readable possible
      (holds_then (slice_index words n) (own_list s.found.next s.get_set.stage) s.get_set.lists_spent (calm.1.0 ∙ sym calm.0) calm.1.1)
      refl (silent (slice_index words n))

  -- what is known and what goes together at a stage of the getSet
  known_at : (stage : SetStage) → (core_of x).get_set.stage ≡ stage → knows_by (sets.facts_of_words z words (holdings (before ++ x ∷ after)) (first_at x.kept)) stage (getting (core_of x))
  known_at stage is = subst (λ (t : SetStage). knows_by (sets.facts_of_words z words (holdings (before ++ x ∷ after)) (first_at x.kept)) t (getting (core_of x))) is knows

  goes_at : (stage : SetStage) → (core_of x).get_set.stage ≡ stage → finding_answers.set_goes_at stage (getting (core_of x))
  goes_at stage is = let h = gets in let together = h.1.stage in subst (λ (t : SetStage). finding_answers.set_goes_at t (getting (core_of x))) is together

  -- the step that is due at a stage of the getSet
  due_at : (stage : SetStage) (step : Step) → (core_of x).get_set.stage ≡ stage → finding.set_step_at z (core_of x).get_set.head stage ≡ Some step → step_at (core_of x) (GettingSet c old) ≡ Some step
  due_at stage step is due = ap (λ (y : Layout). finding.set_step_at y (core_of x).get_set.head (core_of x).get_set.stage) same_sizes ∙ ap (finding.set_step_at z (core_of x).get_set.head) is ∙ due

  -- the words with what the port holds, as it is named
  memory_in : (own : Option Own) (spent : Bool) → own_list (core_of x).found.next (core_of x).get_set.stage ≡ own → (core_of x).get_set.lists_spent ≡ spent →
      LawfulWith z o m (in_set (core_of x) own spent)
  memory_in own spent owns marks =
      subst (λ (b : Bool). LawfulWith z o m (in_set (core_of x) own b)) marks
      (subst (λ (f : Option Own). LawfulWith z o m (in_set (core_of x) f (core_of x).get_set.lists_spent)) owns
      (memory_at z o m w (GettingSet c old) e))

  -- a step that isn't a load, from what it does to the words and to what the port holds
  made : (stage : SetStage) (step : Step) (own own' : Option Own) (spent spent' : Bool) → (core_of x).get_set.stage ≡ stage → finding.set_step_at z (core_of x).get_set.head stage ≡ Some step →
      word_of step < length words →
      own_list (core_of x).found.next stage ≡ own → (core_of x).get_set.lists_spent ≡ spent →
      finding_answers.is_possible_at stage (getting (core_of x)) (answer_of words step) →
      own_list (finding.advance_set_at stage (getting (core_of x)) (answer_of words step)).1.next (finding.advance_set_at stage (getting (core_of x)) (answer_of words step)).0.stage ≡ own' →
      (finding.advance_set_at stage (getting (core_of x)) (answer_of words step)).0.lists_spent ≡ spent' →
      (LawfulWith z o m (in_set (core_of x) own spent) → IsKeptAmong z o m (in_set (core_of x) own spent)
      (words_after words step) (in_set (core_of x) own' spent') log) →
      ((hs : List Holding) → IsTrueYet z o (words_after words step) hs log (Some step) (record { answer = answer_of words step; at = length log })) →
      LeadsAt z o m (GettingSet c old) step
  made stage step own own' spent spent' is due within owns marks possible owns' marks' kept yet =
      let a : ℕ = answer_of words step in
      let now : own_list (core_of x).found.next (core_of x).get_set.stage ≡ own = ap (own_list (core_of x).found.next) is ∙ owns in
      let keeps : IsKeptAmong z o m (in_set (core_of x) own spent) (words_after words step) (in_set (core_of x) own' spent') log =
      kept (memory_in own spent now marks) in
      let keeps_marked = subst (λ (b : Bool). IsKeptAmong z o m (in_set (core_of x) own b) (words_after words step)
      (in_set (core_of x) own' spent') log) (sym marks) keeps in
      let keeps_owned = subst (λ (f : Option Own). IsKeptAmong z o m (in_set (core_of x) f (core_of x).get_set.lists_spent) (words_after words step)
      (in_set (core_of x) own' spent') log) (sym now) keeps_marked in
      let keeps_here : IsKeptAmong z o m (holding_of x) (words_after words step) (in_set (core_of x) own' spent') log =
      subst (λ (v : Stage). IsKeptAmong z o m (holding_in (core_of x) v (joined_since x)) (words_after words step)
      (in_set (core_of x) own' spent') log) (sym e) keeps_owned in
      quiet z o m w (GettingSet c old) step (advance_at (core_of x) (GettingSet c old) (answer_of words step)) (in_set (core_of x) own' spent') e
      (due_at stage step is due) refl refl within
      (subst (λ (t : SetStage). finding_answers.is_possible_at t (getting (core_of x)) (answer_of words step)) (sym is) possible)
      (holds_then a own' spent' (ap (λ (t : SetStage). own_list (finding.advance_set_at t (getting (core_of x)) a).1.next (finding.advance_set_at t (getting (core_of x)) a).0.stage) is ∙ owns')
      (ap (λ (t : SetStage). (finding.advance_set_at t (getting (core_of x)) a).0.lists_spent) is ∙ marks'))
      keeps_here (λ hs same. yet hs) refl (silent a)

  -- how many words the next list has
  block_length : (next : Ranges) → length (list_block next) ≡ list_size (length next)
  block_length next = let pairs = length-pairs next in omega (arith, pairs)

  -- the list that the getSet writes, with so many of its words stored
  abbrev listed : ℕ → ℕ → Option Own
  listed at stored = Some (record { space = Lists; at = at; words = list_block (core_of x).found.next; stored = stored })

  -- the claim of the words of a list, within the list words or past their end
  claim_leads : (count : ℕ) → (core_of x).get_set.stage ≡ Claim count → LeadsAt z o m (GettingSet c old) (Add (list_counter z) count)
  claim_leads count is = by_room (nat_lt (list_end s.get_set.sizes) (n + count)) refl
    where
      s : CoreState
      s = core_of x

      n : ℕ
      n = slice_index words (list_counter z)

      has : finding_answers.HasNext (getting s) count
      has = goes_at (Claim count) is

      unmarked : s.get_set.lists_spent ≡ false
      unmarked = let k = known_at (Claim count) is in k.1

      end_is : list_end s.get_set.sizes ≡ list_end z
      end_is = ap list_end same_sizes

      within : word_of (Add (list_counter z) count) < length words
      within = let long = w.memory.count in let some = w.memory.sizes.slots.0 in omega (arith, long, some)

      possible : finding_answers.IsListClaim s.get_set.sizes n
      possible = subst (λ (y : Layout). finding_answers.IsListClaim y n) (sym same_sizes) ((w.memory.counters ListWords).low, counter_bound z o words (holdings (before ++ x ∷ after)) log w.memory ListWords)

      length_is : length (list_block s.found.next) ≡ count
      length_is = let long = block_length s.found.next in let counts = has.count in omega (arith, long, counts)

      few : count ≤ greatest_list z
      few =
          let counts = has.count in
          let most = length_normal s.found.next s.get_set.sizes.slots has.next has.within in
          let slots : s.get_set.sizes.slots ≡ z.slots = ap (λ (y : Layout). y.slots) same_sizes in
          omega (arith, counts, most, slots)

      by_room : (b : Bool) → nat_lt (list_end s.get_set.sizes) (n + count) ≡ b → LeadsAt z o m (GettingSet c old) (Add (list_counter z) count)
      by_room true over =
          let beyond = ltb-true (list_end s.get_set.sizes) (n + count) over in
          let p : finding.SetPair = getting s in
          let spent : Bool → finding.SetPair = λ b. (if b then (record p.0 { lists_spent = true; stage = Done }, p.1) else finding.in_stage p (Write n 0 count (length p.1.next))) in
          made (Claim count) (Add (list_counter z) count) None None false true is refl within refl unmarked possible
          (ap (λ (b : Bool). own_list (spent b).1.next (spent b).0.stage) over) (ap (λ (b : Bool). (spent b).0.lists_spent) over)
          (λ memory. refusals_are_kept z o words (holdings before) (in_set s None false) (holdings after) log ListWords count memory refl few (omega (arith, beyond, end_is)))
          (λ hs. tt)
      by_room false fits =
          let room = ltb-false (list_end s.get_set.sizes) (n + count) fits in
          let p : finding.SetPair = getting s in
          let claimed : Bool → finding.SetPair = λ b. (if b then (record p.0 { lists_spent = true; stage = Done }, p.1) else finding.in_stage p (Write n 0 count (length p.1.next))) in
          made (Claim count) (Add (list_counter z) count) None (listed n 0) false false is refl within refl unmarked possible
          (ap (λ (b : Bool). own_list (claimed b).1.next (claimed b).0.stage) fits) (ap (λ (b : Bool). (claimed b).0.lists_spent) fits ∙ unmarked)
          (λ memory. subst (λ i. IsKeptAmong z o m (in_set s None false) (words_after words (Add (list_counter z) i)) (in_set s (listed n 0) false) log) length_is
          (claims_are_kept z o words (holdings before) (in_set s None false) (holdings after) log Lists (list_block s.found.next) memory refl refl (omega (arith, room, end_is, length_is))))
          (λ hs. tt)

  -- the store of the next word of the list
  write_leads : (at k count word : ℕ) → (core_of x).get_set.stage ≡ Write at k count word → LeadsAt z o m (GettingSet c old) (Store (at + k) word)
  write_leads at k count word is =
      let s : CoreState = core_of x in
      let goes = goes_at (Write at k count word) is in
      let less = goes.1 in
      let room = goes.2 in
      let counts = goes.0.count in
      let long = w.memory.count in
      let end_is : list_end s.get_set.sizes ≡ list_end z = ap list_end same_sizes in
      let length_is : length (list_block s.found.next) ≡ count = (let blocks = block_length s.found.next in omega (arith, blocks, counts)) in
      made (Write at k count word) (Store (at + k) word) (listed at k) (listed at (k + 1)) s.get_set.lists_spent s.get_set.lists_spent is refl (omega (arith, less, room, long, end_is)) refl refl tt
      (cond_both ((k + 1) == count) (Publish at) (Write at (k + 1) count (slice_index (list_block s.found.next) (k + 1))) (λ (t : SetStage). own_list s.found.next t ≡ listed at (k + 1))
      (λ last. let whole = eqb-true (k + 1) count last in ap (listed at) (omega (arith, whole, length_is)))
      (λ more. refl))
      refl
      (λ memory. subst (λ v. IsKeptAmong z o m (in_set s (listed at k) s.get_set.lists_spent) (words_after words (Store (at + k) v))
      (in_set s (listed at (k + 1)) s.get_set.lists_spent) log) (sym goes.3)
      (stores_are_kept z o words (holdings before) (in_set s (listed at k) s.get_set.lists_spent) (holdings after) log (record { space = Lists; at = at; words = list_block s.found.next; stored = k })
      memory refl refl (omega (arith, less, length_is))))
      (λ hs. tt)

  -- the exchange of the list head
  publish_leads : (at : ℕ) → (core_of x).get_set.stage ≡ Publish at → LeadsAt z o m (GettingSet c old) (Exchange (list_head z) (core_of x).get_set.head at)
  publish_leads at is =
      let s : CoreState = core_of x in
      let goes = goes_at (Publish at) is in
      let known = known_at (Publish at) is in
      let long = w.memory.count in
      let some = w.memory.sizes.slots.0 in
      made (Publish at) (Exchange (list_head z) s.get_set.head at) (listed at (length (list_block s.found.next))) None s.get_set.lists_spent s.get_set.lists_spent is refl
      (omega (arith, long, some)) refl refl tt refl refl
      (λ memory. publishings_are_kept z o words (holdings before) (in_set s (listed at (length (list_block s.found.next))) s.get_set.lists_spent) (holdings after) log s.get_set.head at s.found.next memory
      refl refl goes.0 known.0)
      (λ hs. tt)

  -- the step that is due at a stage of the getSet
  stage_leads : (stage : SetStage) (step : Step) → (core_of x).get_set.stage ≡ stage → finding.set_step_at z (core_of x).get_set.head stage ≡ Some step →
      LeadsAt z o m
      (GettingSet c old) step
  stage_leads stage step is due = by_step stage step is due (due_at stage step is due)
    where
      Led : Step → Type 0
      Led t = LeadsAt z o m (GettingSet c old) t

      by_step : (u : SetStage) (t : Step) → (core_of x).get_set.stage ≡ u → finding.set_step_at z (core_of x).get_set.head u ≡ Some t → step_at (core_of x) (GettingSet c old) ≡ Some t → Led t
      by_step u (Load n) at due here = load_leads n here
      by_step (Claim count) t at due here = let same : Add (list_counter z) count ≡ t = cc in subst Led same (claim_leads count at)
      by_step (Write a k count word) t at due here = let same : Store (a + k) word ≡ t = cc in subst Led same (write_leads a k count word at)
      by_step (Publish a) t at due here = let same : Exchange (list_head z) (core_of x).get_set.head a ≡ t = cc in subst Led same (publish_leads a at)
      by_step Done t at due here = absurd cc
      by_step u t at due here = absurd cc

-- the due step of a getSet under way in an update
pub getting_leads : (z : Layout) (o : Opening) (m : PartAmong) (w : LawfulAmong z o m) (c : Change) (old : ℕ) (step : Step) → (core_of m.part).stage ≡ GettingSet c old →
    step_at (core_of m.part) (GettingSet c old) ≡ Some step → LeadsAt z o m (GettingSet c old) step
getting_leads z o m w c old step e due =
    stage_leads z o m w c old e (core_of m.part).get_set.stage step refl
    (ap (λ (y : Layout). finding.set_step_at y (core_of m.part).get_set.head (core_of m.part).get_set.stage) (sym (same_sizes z o m w c old e)) ∙ due)
