-- The loads of a read, the first load of an update, and those of embedded scans.
use Rattle.partial_core.proofs.{Common.{ℕ, ◌≡◌, ◌≢◌, ◌<◌, ◌≤◌, ◌==◌, ◌++◌, Bool, true, false, if◌then◌else◌, Option, Some, None, IsSome, List, [], ◌∷◌, length, slice_index, take, refl, sym, ap, subst, ◌∙◌, arith, option_map_or, take_all, Applied, Opening, stamp_of, value_of, Noted, Step, Load, Layout, value_word, Change, Stage, CoreState, at_stage, scanning, with_scanning, expects, begin_getting, after_scanning, step_at, reply_of, reply_at, is_sound_at, IsRecord, IsWithin, Holding, KeptAnswer, loads_are_true, IsReadable, stamp_within, standing, standing_word, core_of, led_by, first_at, holding_at, holdings, joined_since, is_begun, call_at, update_call, AreNotesOf, either, PartAmong, LawfulAmong, Reply}, MidCalls.{view_leads, view_loads}, Parts.gone, Steps.{LeadsAt, holding_in, known_here, sizes_here, sound_at, seen_here, going, load_quiet, load_ends, starting}}
use Rattle.std.proofs.lemmas.Bool.{false≢true, eqb-false}
use Rattle.partial_model.specs.declared.call.{Call.Call, Answer.Answer, Note.Note}
use Rattle.partial_words.proofs.ChainLemmas.{value_behind_stamp}
use Rattle.partial_embedded.specs.Embedded as viewing
use Rattle.partial_machine.specs.declared.stage.Stage.TheVariants.{ReadBegun, LoadingValue, UpdateBegun, Viewing, ClaimingRecord, Scanning, Leaving, Finished}
use Rattle.partial_knowledge.specs.Scans as scans

module _ (z : Layout) (o : Opening) (m : PartAmong) (w : LawfulAmong z o m) where
  open m use {words, before, part as x, after, log}

  -- what all ports hold
  abbrev hs : List Holding
  hs = holdings (before ++ x ∷ after)

  -- a component's word is the stamp after the whole history
  pub stamp_now : (j : ℕ) → j < z.m → slice_index words j ≡ stamp_of o log j
  stamp_now j below = let values = w.memory.values in (w.memory.agrees j (omega (arith, values, below))).0

  pub stamp_then : (j : ℕ) → j < z.m → slice_index words j ≡ stamp_of o (take (length log) log) j
  stamp_then j below = stamp_now j below ∙ ap (λ (l : List Applied). stamp_of o l j) (sym (take_all (length log) log (omega arith)))

  pub component_record : (j : ℕ) → j < z.m → IsRecord z (slice_index words j)
  component_record j below =
      let values = w.memory.values in
      let s = standing z o words hs log w.memory (length log) (slice_index words j)
      (subst (IsWithin o log (length log)) (sym (stamp_then j below)) (stamp_within o log (length log) j (omega (arith, values, below)))) in
      (s.above, s.within)

  component_readable : (j : ℕ) → j < z.m → IsReadable z words hs j
  component_readable j below = (omega (arith, below), λ far. absurd (omega (arith, below, far)))

  -- a machine's sizes are those of the memory
  at_sizes : (P : Layout → Type 0) → P z → P (core_of x).sizes
  at_sizes P p = subst P (sym (sizes_here z o m w)) p

  of_sizes : (P : Layout → Type 0) → P (core_of x).sizes → P z
  of_sizes P p = subst P (sizes_here z o m w) p

  -- what is sound of the machine as its call began
  begun_at : (t : Stage) → x.begun.stage ≡ t → (P : Layout → Type 0) → (is_sound_at x.begun t → P x.begun.sizes) → P z
  begun_at t is P f =
      let k = known_here z o m w in
      let sound = k.sound in
      subst P k.sizes (f (subst (is_sound_at x.begun) is sound.stage))

  pub read_begun : (j : ℕ) → (core_of x).stage ≡ ReadBegun j → LeadsAt z o m (ReadBegun j) (Load j)
  read_begun j e =
      let below : j < z.m = of_sizes (λ y. j < y.m) (sound_at z o m w (ReadBegun j) e) in
      load_quiet z o m w (ReadBegun j) j (at_stage (core_of x) (LoadingValue (slice_index words j))) e refl refl refl (component_readable j below)
      (at_sizes (λ y. IsRecord y (slice_index words j)) (component_record j below)) refl refl refl

  -- the value after the stamp that a read has loaded
  pub value_loaded : (stamp : ℕ) → (core_of x).stage ≡ LoadingValue stamp → LeadsAt z o m (LoadingValue stamp) (Load (value_word stamp))
  value_loaded stamp e =
      let g = going z o m w (LoadingValue stamp) e refl refl in
      let known = g.knows in
      let j = known.0 in
      let first = first_at x.kept in
      let order = g.order in
      let inside = g.inside in
      let begun_below : j < z.m = begun_at (ReadBegun j) known.1 (λ y. j < y.m) (λ h. h) in
      let values = w.memory.values in
      let below : j < length o.values = omega (arith, begun_below, values) in
      let a = slice_index words (value_word stamp) in
      let n : Noted = record { call = Call.Read j; answer = Answer.Read a stamp; note = Some (Note.Saw first) } in
      let s = standing z o words hs log w.memory first stamp (subst (IsWithin o log first) (sym known.2) (stamp_within o log first j below)) in
      let value : a ≡ value_of o (take first log) j = ap (λ m. slice_index words (value_word m)) known.2 ∙ value_behind_stamp o words log j first w.memory.agrees below in
      load_ends z o m w (LoadingValue stamp) (value_word stamp) (at_stage (core_of x) (Finished (Reply.Read a stamp))) e refl refl refl
      (subst (IsReadable z words hs) (omega arith) (standing_word z o words hs log w.memory stamp (value_word 0) (omega arith) s)) tt refl
      n refl (below, ((omega (arith, order, inside), value, known.2), g.low)) (omega (arith, order, inside)) refl
      (record {
        call = Call.Read j;
        note = Note.Saw first;
        is = refl;
        made = ap (call_at x.begun) known.1;
        behind = let more = g.more (record { answer = a; at = length log }) in omega (arith, more);
        within = omega (arith, order, inside);
        placed = omega (arith, order, inside);
        stamps = tt;
      })

  -- a call that has made no step keeps no answer, and its machine is the one that has begun it
  pub none_kept : (t : Stage) → (core_of x).stage ≡ t → is_begun t ≡ true → x.kept ≡ []
  none_kept t e begun = starting z o words hs log x w.memory (known_here z o m w) (ap is_begun e ∙ begun)

  pub begun_here : (t : Stage) → (core_of x).stage ≡ t → is_begun t ≡ true → core_of x ≡ x.begun
  begun_here t e begun = ap (led_by x.begun) (none_kept t e begun)

  -- the component has another stamp than the update expects
  stamp_changed : (c : Change) (found : Option ℕ) → c.expected ≡ found → (core_of x).stage ≡ UpdateBegun c → expects c (slice_index words c.component) ≡ false → LeadsAt z o m (UpdateBegun c) (Load c.component)
  stamp_changed c None is e other = absurd (false≢true (sym other ∙ ap (λ (f : Option ℕ). option_map_or (λ m. m == slice_index words c.component) f true) is))
  stamp_changed c (Some expected) is e other =
      let a = slice_index words c.component in
      let below : c.component < z.m = of_sizes (λ y. c.component < y.m) (sound_at z o m w (UpdateBegun c) e).0 in
      let values = w.memory.values in
      let n : Noted = record { call = Call.UpdateIf c.component expected c.value; answer = Answer.Changed a; note = Some (Note.Saw (length log)) } in
      let differs : a ≢ expected = λ same. eqb-false expected a (ap (λ (f : Option ℕ). option_map_or (λ m. m == a) f true) (sym is) ∙ other) (sym same) in
      let begun = begun_here (UpdateBegun c) e refl in
      let kept = none_kept (UpdateBegun c) e refl in
      load_ends z o m w (UpdateBegun c) c.component (at_stage (core_of x) (Finished (Reply.Changed a))) e refl
      (ap (λ b. if b then begin_getting (core_of x) c a else at_stage (core_of x) (Finished (Reply.Changed a))) other) refl
      (component_readable c.component below) (at_sizes (λ y. IsRecord y a) (component_record c.component below)) refl
      n refl (omega (arith, below, values), ((omega arith, sym (stamp_then c.component below), differs), seen_here z o m w)) (omega arith) refl
      (record {
        call = Call.UpdateIf c.component expected c.value;
        note = Note.Saw (length log);
        is = refl;
        made = ap (call_at x.begun) (sym (ap (λ (d : CoreState). d.stage) begun) ∙ e) ∙ ap (λ (f : Option ℕ). Some (update_call c.component f c.value)) is;
        behind = let first : first_at (x.kept ++ record { answer = a; at = length log } ∷ []) ≡ length log =
            ap (λ (l : List KeptAnswer). first_at (l ++ record { answer = a; at = length log } ∷ [])) kept
            in omega (arith, first);
        within = omega arith;
        placed = omega arith;
        stamps = tt;
      })

  -- an update goes on where the component has the stamp that it expects
  pub update_begun : (c : Change) → (core_of x).stage ≡ UpdateBegun c → LeadsAt z o m (UpdateBegun c) (Load c.component)
  update_begun c e = by_expected (expects c (slice_index words c.component)) refl
    where
      by_expected : (b : Bool) → expects c (slice_index words c.component) ≡ b → LeadsAt z o m (UpdateBegun c) (Load c.component)
      by_expected true is =
          let a = slice_index words c.component in
          let below : c.component < z.m = of_sizes (λ y. c.component < y.m) (sound_at z o m w (UpdateBegun c) e).0 in
          load_quiet z o m w (UpdateBegun c) c.component (begin_getting (core_of x) c a) e refl
          (ap (λ b. if b then begin_getting (core_of x) c a else at_stage (core_of x) (Finished (Reply.Changed a))) is) refl
          (component_readable c.component below) (at_sizes (λ y. IsRecord y a) (component_record c.component below)) refl refl refl
      by_expected false is = stamp_changed c c.expected refl e is

  -- what an embedded scan is to load may be loaded, and what it answers is possible
  view_now : (indices : List ℕ) (low high : ℕ) (step : Step) → (core_of x).embedded.sizes ≡ (core_of x).sizes → viewing.ViewGoesTogether indices (scanning (core_of x)) → low ≤ high →
      high ≤ length log →
      scans.ScanKnows z o words hs log indices low high (scanning (core_of x)) → viewing.view_step_due indices (scanning (core_of x)) ≡ Some step → (n : ℕ) × (step ≡ Load n) ×
      IsReadable z words hs n ×
      viewing.IsPossibleInView (scanning (core_of x)) (slice_index words n)
  view_now indices low high step same together order inside knows due =
      let s = core_of x in
      let load = view_loads s.embedded.sizes indices s.rows.last s.embedded.stage (subst (λ (f : Option Step). IsSome f) (sym due) refl) in
      let leads = view_leads z o words hs log indices low high (scanning s) (same ∙ sizes_here z o m w) w.memory together order inside knows in
      let readable = leads.readable load.0 load.1 in
      let is : step ≡ Load load.0 = cc in
      (load.0, is, readable, leads.possible load.0 load.1 (loads_are_true z o words hs log load.0 w.memory readable.0 readable.1))

  -- an embedded scan of the indices found
  pub viewing_leads : (c : Change) (old : ℕ) (step : Step) → (core_of x).stage ≡ Viewing c old → step_at (core_of x) (Viewing c old) ≡ Some step → LeadsAt z o m (Viewing c old) step
  viewing_leads c old step e due =
      let s = core_of x in
      let g = going z o m w (Viewing c old) e refl refl in
      let sound = sound_at z o m w (Viewing c old) e in
      let now = view_now s.found.indices (first_at x.kept) g.high step sound.2 sound.1 g.order g.inside g.knows.2 due in
      let n = now.0 in
      let t : CoreState = with_scanning s (viewing.advance_view s.found.indices (scanning s) (slice_index words n)) in
      let next = viewing.view_step_due s.found.indices (scanning t) in
      subst (λ (f : Step). LeadsAt z o m (Viewing c old) f) (sym now.1)
      (load_quiet z o m w (Viewing c old) n (after_scanning t s.found.indices (ClaimingRecord c old)) e (due ∙ ap (λ (f : Step). Some f) now.1) refl refl now.2 now.3
      (either next t (at_stage t (ClaimingRecord c old)) (λ u. holding_at u (joined_since x) ≡ holding_in s (Viewing c old) (joined_since x))
      (ap (λ (u : Stage). holding_in t u (joined_since x)) e) refl)
      refl
      (either next t (at_stage t (ClaimingRecord c old)) (λ u. AreNotesOf o (gone x log (slice_index words n) []) (reply_of u) [])
      (subst (λ (u : Stage). AreNotesOf o (gone x log (slice_index words n) []) (reply_at u) []) (sym e) refl) refl))

  -- an embedded scan of a scan's positions
  pub scanning_leads : (step : Step) → (core_of x).stage ≡ Scanning → step_at (core_of x) Scanning ≡ Some step → LeadsAt z o m Scanning step
  scanning_leads step e due =
      let s = core_of x in
      let g = going z o m w Scanning e refl refl in
      let sound = sound_at z o m w Scanning e in
      let now = view_now s.asked (joined_since x) g.high step sound.1 sound.0 g.knows.2 g.inside g.knows.4 due in
      let n = now.0 in
      let t : CoreState = with_scanning s (viewing.advance_view s.asked (scanning s) (slice_index words n)) in
      let next = viewing.view_step_due s.asked (scanning t) in
      subst (λ (f : Step). LeadsAt z o m Scanning f) (sym now.1)
      (load_quiet z o m w Scanning n (after_scanning t s.asked Leaving) e (due ∙ ap (λ (f : Step). Some f) now.1) refl refl now.2 now.3
      (either next t (at_stage t Leaving) (λ u. holding_at u (joined_since x) ≡ holding_in s Scanning (joined_since x)) (ap (λ (u : Stage). holding_in t u (joined_since x)) e) refl)
      refl
      (either next t (at_stage t Leaving) (λ u. AreNotesOf o (gone x log (slice_index words n) []) (reply_of u) [])
      (subst (λ (u : Stage). AreNotesOf o (gone x log (slice_index words n) []) (reply_at u) []) (sym e) refl) refl))
