-- Turns of ports on plain words keep the state lawful.
use Rattle.lines_tests.proofs.Common.{ℕ, ◌≡◌, ◌<◌, ◌≤◌, ◌++◌, List, [], ◌∷◌, Option, Some, None, length, if◌then◌else◌, true, refl, sym, ap, subst, ◌∙◌, inl, inr, arith, Result, Ok, Err, OnOk, IfErr, AreOpeningWords, Layout, IsLayout, pool_base, answer_of, word_of, words_after, Idle, ReadBegun, UpdateBegun, ScanBegun, Finished, CoreState, advance, at_stage, fresh, reply_at, step_at, step_of, asking_machine, scan_asked, IsPossible, BeginsOn, Begun, IsOfPort, IsPlain, MayTurn, Turned, Stepped, Taken, Started, Stayed}
use Rattle.std.proofs.lemmas.{Bool.{false≢true, ne_eqb}, Option.none-some}
use Rattle.partial_model.specs.declared.history.{Applied.Applied, Opening.Opening}
use Rattle.partial_model.specs.declared.call.{Call.Call, Refused.Refused}
use Rattle.partial_words.specs.declared.step.Step.{Step}
use Rattle.partial_machine.specs.declared.stage.{Reply.Reply, Stage.Stage}
use Rattle.partial_machine.specs.Calls.{begin_scan, is_at_rest, is_begun, core_read_refusal, core_scan_refusal, core_update_refusal}
use Rattle.partial_machine.proofs.Laws.{rests_are_sound}
use Rattle.partial_core.specs.{Lawful.LawfulAmong, Part.{Part, PartAmong, fresh_part, port_of, HasBegun, IsBetween, IsLedTo, IsMachineOf, IsMarkedLike}, Steps.{added_by, memory_after}}
use Rattle.partial_core.proofs.Laws.{calls_begin_between, lawful_machines_are_ready, opens_lawful, ports_come_between, steps_stay_lawful}

-- a call that has begun is not at rest
begun_moves : (t : Stage) → is_begun t ≡ true → is_at_rest t ≡ true → ⊥
begun_moves (ReadBegun j) b r = false≢true r
begun_moves (UpdateBegun c) b r = false≢true r
begun_moves ScanBegun b r = false≢true r
begun_moves _ b r = false≢true b

-- a machine with a reply is at rest
replied_rests : (t : Stage) (r : _) → reply_at t ≡ Some r → is_at_rest t ≡ true
replied_rests (Finished r) s e = refl
replied_rests _ s e = absurd (none-some _ e)

module _ (n : Layout) (o : Opening) (m : PartAmong) (lawful : LawfulAmong n o m) (c : CoreState) where
  open m use {words, part as x, log}

  pub may_turn : IsOfPort c x → MayTurn c words
  may_turn (inl its) s due = let l = steps_stay_lawful n o m c s lawful its due in (l.answers.within, l.tells.possible)
  may_turn (inr w) s due = absurd (none-some _ (sym (ap (step_at c) w.idle) ∙ due))

  -- a machine at rest is between two calls once its reply is taken
  rested : IsMachineOf c x → is_at_rest c.stage ≡ true → IsBetween x (at_stage c Idle)
  rested (inl b) rest = absurd (begun_moves c.stage b.begun rest)
  rested (inr l) rest = record {
    rest = subst (λ (d : CoreState). is_at_rest d.stage ≡ true) l.is rest;
    like = subst (λ (d : CoreState). IsMarkedLike d (at_stage c Idle)) l.is (record { sizes = refl; port = refl; pool = refl; slots = refl; lists = refl; spare = refl });
    idle = refl;
    sound = rests_are_sound.idle c (lawful_machines_are_ready n o m c lawful (inr l)).sound;
  }

  idle_between : IsOfPort c x → c.stage ≡ Idle → IsBetween x c
  idle_between (inl its) idle = subst (IsBetween x) (ap (at_stage c) (sym idle)) (rested its (ap is_at_rest idle))
  idle_between (inr w) idle = w

  -- a turn leads to a lawful state
  abbrev Kept : CoreState → List ℕ → Type 0
  Kept d words' = (x' : Part) × (log' : List Applied) × LawfulAmong n o (record m { words = words'; part = x'; log = log' }) × IsOfPort d x'

  pub kept : (d : CoreState) (words' : List ℕ) → IsOfPort c x → Turned c words d words' → Kept d words'
  kept d words' (inl its) (Stepped s due is behind) =
      let l = steps_stay_lawful n o m c s lawful its due in
      let longer : List Applied = log ++ added_by n (port_of x) words s in
      let led = subst (λ (e : CoreState). IsLedTo e l.y) (sym is) l.tells.machine in
      (l.y, longer, subst (λ ws. LawfulAmong n o (record m { words = ws; part = l.y; log = longer })) (sym behind) l.lawful, inl (inr led))
  kept d words' (inr w) (Stepped s due is behind) = absurd (none-some _ (sym (ap (step_at c) w.idle) ∙ due))
  kept d words' (inl its) (Taken r replies is behind) =
      (x, log, subst (λ ws. LawfulAmong n o (record m { words = ws })) (sym behind) lawful, inr (subst (IsBetween x) (sym is) (rested its (replied_rests c.stage r replies))))
  kept d words' (inr w) (Taken r replies is behind) = absurd (none-some _ (sym (ap reply_at w.idle) ∙ replies))
  kept d words' w (Started idle b behind) =
      let begins = (calls_begin_between x c (idle_between w idle)).begins b.call b.served b.allowed b.steps in
      (x, log, subst (λ ws. LawfulAmong n o (record m { words = ws })) (sym behind) lawful, inl (inl (subst (λ (e : CoreState). HasBegun e x) (sym b.is) begins)))
  kept d words' w (Stayed is behind) = (x, log, subst (λ ws. LawfulAmong n o (record m { words = ws })) (sym behind) lawful, subst (λ (e : CoreState). IsOfPort e x) (sym is) w)

-- a step of the first port
pub record Stepping (words : List ℕ) (beside left right : CoreState) (s : Step) : Type 0 where
  pub within : word_of s < length words
  pub possible : IsPossible beside (answer_of words s)
  pub going : IsPlain (words_after words s) (advance beside (answer_of words s)) left right

pub stepped : (words : List ℕ) (beside left right : CoreState) (w : IsPlain words beside left right) (s : Step) → step_of beside ≡ Some s → Stepping words beside left right s
stepped words beside left right w s due =
    let m : PartAmong = record { words = words; before = []; part = w.x; after = w.y ∷ w.z ∷ []; log = w.log } in
    let l = steps_stay_lawful w.sizes w.opening m beside s w.lawful w.first due in
    record {
      within = l.answers.within;
      possible = l.tells.possible;
      going = record {
        sizes = w.sizes;
        opening = w.opening;
        log = w.log ++ added_by w.sizes (port_of w.x) words s;
        x = l.y;
        y = w.y;
        z = w.z;
        lawful = l.lawful;
        first = inr l.tells.machine;
        sound = (lawful_machines_are_ready w.sizes w.opening (memory_after w.sizes m s l.y) (advance beside (answer_of words s)) l.lawful (inr l.tells.machine)).sound;
        second = w.second;
        third = w.third;
      };
    }

-- a turn of the second or the third one
module _ (words words' : List ℕ) (beside left right d : CoreState) (w : IsPlain words beside left right) where
  abbrev at_second : PartAmong
  at_second = record { words = words; before = w.x ∷ []; part = w.y; after = w.z ∷ []; log = w.log }

  abbrev at_third : PartAmong
  at_third = record { words = words; before = w.x ∷ w.y ∷ []; part = w.z; after = []; log = w.log }

  pub left_may : MayTurn left words
  left_may = may_turn w.sizes w.opening at_second w.lawful left w.second

  pub right_may : MayTurn right words
  right_may = may_turn w.sizes w.opening at_third w.lawful right w.third

  pub left_turned : Turned left words d words' → IsPlain words' beside d right
  left_turned turned =
      let k = kept w.sizes w.opening at_second w.lawful left d words' w.second turned in
      record { sizes = w.sizes; opening = w.opening; log = k.1; x = w.x; y = k.0; z = w.z; lawful = k.2; first = w.first; sound = w.sound; second = k.3; third = w.third }

  pub right_turned : Turned right words d words' → IsPlain words' beside left d
  right_turned turned =
      let k = kept w.sizes w.opening at_third w.lawful right d words' w.third turned in
      record { sizes = w.sizes; opening = w.opening; log = k.1; x = w.x; y = w.y; z = k.0; lawful = k.2; first = w.first; sound = w.sound; second = w.second; third = k.3 }

-- words as they open, and a first call that is begun
pub opens : (sizes : Layout) (initial words : List ℕ) (beside left right : CoreState) → IsLayout sizes → length initial ≡ sizes.m → AreOpeningWords sizes initial words →
    BeginsOn (fresh sizes 0) beside → left ≡ fresh sizes 1 → right ≡ fresh sizes 2 → IsPlain words beside left right
opens sizes initial words beside left right layout values all b second third =
    let o : Opening = record { values = initial; first = pool_base sizes } in
    let lawful = opens_lawful sizes o words 3 (record { sizes = layout; values = values; stamps = refl; words = all }) (omega arith) in
    let between = λ (port : ℕ). ports_come_between.0 sizes port layout in
    let begun = (calls_begin_between (fresh_part sizes 0) (fresh sizes 0) (between 0)).begins b.call b.served b.allowed b.steps in
    let m : PartAmong = record { words = words; before = []; part = fresh_part sizes 0; after = fresh_part sizes 1 ∷ fresh_part sizes 2 ∷ []; log = [] } in
    let first : IsMachineOf beside (fresh_part sizes 0) = inl (subst (λ (d : CoreState). HasBegun d (fresh_part sizes 0)) (sym b.is) begun) in
    record {
      sizes = sizes;
      opening = o;
      log = [];
      x = fresh_part sizes 0;
      y = fresh_part sizes 1;
      z = fresh_part sizes 2;
      lawful = lawful;
      first = first;
      sound = (lawful_machines_are_ready sizes o m beside lawful first).sound;
      second = inr (subst (IsBetween (fresh_part sizes 1)) (sym second) (between 1));
      third = inr (subst (IsBetween (fresh_part sizes 2)) (sym third) (between 2));
    }

-- a machine that begins an update
pub update_begins : (c d : CoreState) (j : ℕ) (e : Option ℕ) (v : ℕ) → core_update_refusal c j ≡ None → d ≡ at_stage c (UpdateBegun (record { component = j; expected = e; value = v })) → BeginsOn c d
update_begins c d j None v none is = record { call = Call.Update j v; served = tt; allowed = none; steps = refl; is = is }
update_begins c d j (Some e) v none is = record { call = Call.UpdateIf j e v; served = tt; allowed = none; steps = refl; is = is }

-- a machine that begins a read
pub read_begins : (c d : CoreState) (j : ℕ) → core_read_refusal c j ≡ None → d ≡ at_stage c (ReadBegun j) → BeginsOn c d
read_begins c d j none is = record { call = Call.Read j; served = tt; allowed = none; steps = refl; is = is }

-- a machine that begins a scan of some positions
pub scan_begins : (c d : CoreState) (which : List ℕ) → length which ≤ c.sizes.m → (length which ≡ 0 → ⊥) → core_scan_refusal c which ≡ None → d ≡ begin_scan c which → BeginsOn c d
scan_begins c d [] few some none is = absurd (some refl)
scan_begins c d (j ∷ js) few some none is = record { call = Call.Scan (j ∷ js); served = few; allowed = none; steps = refl; is = is }

-- a machine that was asked to begin an update or a scan
pub asked_update : {A : Type 0} (c d : CoreState) (j v : ℕ) (r : Result A Refused) →
    OnOk r ((core_update_refusal c j ≡ None) × (d ≡ at_stage c (UpdateBegun (record { component = j; expected = None; value = v })))) →
    IfErr r (λ cause. (core_update_refusal c j ≡ Some cause) × (d ≡ c)) → Begun c d
asked_update {A} c d j v (Ok u) ok err = inr (update_begins c d j None v ok.0 ok.1)
asked_update {A} c d j v (Err e) ok err = inl err.1

pub asked_scan : {A : Type 0} (c d : CoreState) (which : List ℕ) (r : Result A Refused) → length which ≤ c.sizes.m → (length which ≡ 0 → ⊥) →
    OnOk r ((core_scan_refusal c which ≡ None) × (d ≡ begin_scan c which)) →
    IfErr r (λ cause. (core_scan_refusal c which ≡ Some cause) × (d ≡ c)) → Begun c d
asked_scan {A} c d which (Ok u) few some ok err = inr (scan_begins c d which few some ok.0 ok.1)
asked_scan {A} c d which (Err e) few some ok err = inl err.1

-- a scan of some positions that has begun
pub scan_is : (c d : CoreState) (which : List ℕ) → (length which ≡ 0 → ⊥) → d ≡ begin_scan c which → d ≡ scan_asked c which
scan_is c d which some is = is ∙ ap (λ b. at_stage (asking_machine c which) (if b then Finished (Reply.Scanned 0 None) else ScanBegun)) (ne_eqb (length which) 0 some)
