-- The one law of steps, over all stages, and how a call begins.
use Rattle.partial_core.proofs.{Common.{ℕ, ◌≡◌, ◌<◌, ◌≤◌, ◌++◌, ◌⊎◌, Bool, true, false, if◌then◌else◌, Some, None, List, [], ◌∷◌, length, take, slice_index, refl, sym, ap, subst, ◌∙◌, inl, inr, arith, IfSome, false≢true, append-nil, take_all, Applied, Opening, LegalNotes, seen_by, places_by, Step, Add, Layout, IsLayout, pool_counter, list_base, pool_end, total, announcement_size, answer_of, words_after, Change, Stage, CoreState, lists_spent, advance, step_at, step_of, reply_of, is_begun, is_at_rest, IsPossible, IsAfterAnswer, size_few, answers_lead_on, Holding, unpublished, without_block, IsDue, IsLoaded, IsPublished, loads_are_true, Part, core_of, port_of, HasBegun, IsLedTo, IsMarkedLike, has_no_step, holding_of, holdings, joined_since, IsKnown, begun_with, kept_with, since_with, past_with, added_by, AreNotesOf, LeadsOn, StepsStayLawful, PartAmong, LawfulAmong, memory_after}, Added.{added_at, IsExchange, StepAdds, step_adds}, Parts.{IsKeptAmong, changed, gone, gone_core, all_at, holdings_split, once_same}, Ports.fits_here, Steps.{LeadsAt, holding_in, known_here, sizes_here, sound_here, sound_at, port_here, memory_here, memory_at}, Reading.{read_begun, value_loaded, update_begun, viewing_leads, scanning_leads}, GetSetSteps.getting_leads, Claims.{record_begun, announcement_claimed, announcement_stored}, Joins.{same_step, joining_leads}, Leaves.{leave_due, leaves}, Exchange.record_exchanged, Stored.record_stored}
use Rattle.partial_machine.specs.declared.stage.Stage.TheVariants.{Idle, ReadBegun, LoadingValue, UpdateBegun, GettingSet, Viewing, ClaimingRecord, StoringRecord, Exchanging, ScanBegun, StoringAnnouncement, Joining, Scanning, Leaving, Finished}

-- the part with its call begun
abbrev pub started : CoreState → Part → Part
started c x = record { seen = x.seen; notes = x.notes; begun = begun_with c x; kept = kept_with c x; since = since_with c x; past = past_with c x }

-- the part whose port has just begun the call of the machine c
abbrev pub fresh_call : CoreState → Part → Part
fresh_call c x = record { seen = x.seen; notes = x.notes; begun = c; kept = []; since = length x.seen; past = length x.notes }

pub started_fresh : (c : CoreState) (x : Part) → is_begun c.stage ≡ true → fresh_call c x ≡ started c x
started_fresh c x begun = ap (λ (b : Bool). record {
  seen = x.seen;
  notes = x.notes;
  begun = if b then c else x.begun;
  kept = if b then [] else x.kept;
  since = if b then length x.seen else x.since;
  past = if b then length x.notes else x.past;
}) (sym begun)

pub started_same : (c : CoreState) (x : Part) → is_begun c.stage ≡ false → x ≡ started c x
started_same c x begun = ap (λ (b : Bool). record {
  seen = x.seen;
  notes = x.notes;
  begun = if b then c else x.begun;
  kept = if b then [] else x.kept;
  since = if b then length x.seen else x.since;
  past = if b then length x.notes else x.past;
}) (sym begun)

-- what a machine holds that has no call under way, or one that has made no step
abbrev bare : CoreState → Holding
bare s = record { port = s.port; claimed = None; own = None; due = None; spare = s.spare; pool_spent = s.pool_spent; slots_spent = s.slots_spent; lists_spent = lists_spent s }

-- the same of a machine with the same marks
like_holds : (s c : CoreState) → IsMarkedLike s c → bare c ≡ bare s
like_holds s c like =
    ap (λ p. record (bare c) { port = p }) like.port
    ∙ ap (λ f. record (bare c) { port = s.port; pool_spent = f }) like.pool
    ∙ ap (λ f. record (bare c) { port = s.port; pool_spent = s.pool_spent; slots_spent = f }) like.slots
    ∙ ap (λ f. record (bare c) { port = s.port; pool_spent = s.pool_spent; slots_spent = s.slots_spent; lists_spent = f }) like.lists
    ∙ ap (λ b. record (bare s) { spare = b }) like.spare

begun_holds : (s : CoreState) (t : Stage) (n : ℕ) → is_begun t ≡ true → holding_in s t n ≡ bare s
begun_holds s (ReadBegun j) n is = refl
begun_holds s (UpdateBegun c) n is = refl
begun_holds s ScanBegun n is = refl
begun_holds s _ n is = absurd (false≢true is)

rest_holds : (s : CoreState) (t : Stage) (n : ℕ) → is_at_rest t ≡ true → holding_in s t n ≡ bare s
rest_holds s Idle n is = refl
rest_holds s (Finished r) n is = refl
rest_holds s _ n is = absurd (false≢true is)

-- a machine that has begun a call has made no step
unmoved : (t : Stage) → is_begun t ≡ true → has_no_step t ≡ true
unmoved (ReadBegun j) begun = refl
unmoved (UpdateBegun c) begun = refl
unmoved ScanBegun begun = refl
unmoved _ begun = absurd (false≢true begun)

module _ (z : Layout) (o : Opening) (m : PartAmong) (w : LawfulAmong z o m) where
  open m use {words, before, part as x, after, log}

  -- what the port holds stays as a call begins
  pub begin_holds : (c : CoreState) → HasBegun c x → holding_of (fresh_call c x) ≡ holding_of x
  begin_holds c h = begun_holds c c.stage 0 h.begun ∙ like_holds (core_of x) c h.like ∙ sym (rest_holds (core_of x) (core_of x).stage (joined_since x) h.rest)

  -- a call begins where the machine is at rest: nothing else changes
  pub begin_lawful : (c : CoreState) → HasBegun c x → LawfulAmong z o (record m { part = fresh_call c x })
  begin_lawful c h =
      let y : Part = fresh_call c x in
      let k = known_here z o m w in
      let port : c.port ≡ port_of x = h.like.port ∙ port_here z o m w in
      let below = k.port in
      let holds : holding_of y ≡ holding_of x = begin_holds c h in
      let all = holdings_split before y after ∙ ap (λ (h : Holding). holdings before ++ h ∷ holdings after) holds ∙ sym (holdings_split before x after) in
      let nil = append-nil log in
      let known : IsKnown z o words (holdings (before ++ y ∷ after)) log y = record {
        port = omega (arith, port, below);
        sizes = h.like.sizes ∙ sizes_here z o m w;
        seen = k.seen;
        notes = subst (λ p. LegalNotes o x.seen p 0 x.notes) (sym port) k.notes;
        shown = k.shown;
        sound = h.sound;
        begun = unmoved c.stage h.begun;
        since = omega arith;
        earlier = let shown = k.shown in let whole : seen_by 0 (take (length x.notes) x.notes) ≡ seen_by 0 x.notes =
            ap (seen_by 0) (take_all (length x.notes) x.notes (omega arith)) in omega (arith, shown, whole);
        past = omega arith;
        one = omega arith;
        going = λ _. refl;
        kept = tt;
      } in
      let memory = memory_here z o m w in
      let keeps : IsKeptAmong z o m (holding_of x) words (holding_of y) (log ++ []) =
      subst (λ (h : Holding). IsKeptAmong z o m (holding_of x) words h (log ++ [])) (sym holds)
      (subst (λ (l : List Applied). IsKeptAmong z o m (holding_of x) words (holding_of x) l) (sym nil) (record { lawful = memory; loads = λ n k l. l })) in
      subst (λ (l : List Applied). LawfulAmong z o (record m { part = y; log = l })) nil
      (changed z o m words y [] w keeps (λ p. ap (places_by p 0) nil ∙ w.once p ∙ sym (once_same p before x y after port refl))
      (subst (λ (l : List Applied). IsKnown z o words (holdings (before ++ y ∷ after)) l y) (sym nil) known))

  -- the step that is due at a stage
  leads_stage : (s : Stage) (step : Step) → (core_of x).stage ≡ s → step_at (core_of x) s ≡ Some step → LeadsAt z o m s step
  leads_stage Idle step e due = absurd cc
  leads_stage (ReadBegun j) step e due = subst (LeadsAt z o m (ReadBegun j)) (same_step due) (read_begun z o m w j e)
  leads_stage (LoadingValue stamp) step e due = subst (LeadsAt z o m (LoadingValue stamp)) (same_step due) (value_loaded z o m w stamp e)
  leads_stage (UpdateBegun c) step e due = subst (LeadsAt z o m (UpdateBegun c)) (same_step due) (update_begun z o m w c e)
  leads_stage (GettingSet c old) step e due = getting_leads z o m w c old step e due
  leads_stage (Viewing c old) step e due = viewing_leads z o m w c old step e due
  leads_stage (ClaimingRecord c old) step e due = subst (LeadsAt z o m (ClaimingRecord c old)) (same_step due) (record_begun z o m w c old e)
  leads_stage (StoringRecord c old at k) step e due = subst (LeadsAt z o m (StoringRecord c old at k)) (same_step due)
      (record_stored z o m w c old at k e)
  leads_stage (Exchanging c old at) step e due = subst (LeadsAt z o m (Exchanging c old at)) (same_step due)
      (record_exchanged z o m w c old at e)
  leads_stage ScanBegun step e due = subst (LeadsAt z o m ScanBegun)
      (same_step (ap (λ (y : Layout). Some (Add (pool_counter y) (announcement_size (length (core_of x).asked)))) (sym (sizes_here z o m w)) ∙ due))
      (announcement_claimed z o m w e)
  leads_stage (StoringAnnouncement at k) step e due = subst (LeadsAt z o m (StoringAnnouncement at k)) (same_step due)
      (announcement_stored z o m w at k e)
  leads_stage Joining step e due = joining_leads z o m w e step due
  leads_stage Scanning step e due = scanning_leads z o m w step e due
  leads_stage Leaving step e due = subst (LeadsAt z o m Leaving) (same_step (sym (leave_due z o m w e) ∙ due))
      (leaves z o m w e)
  leads_stage (Finished r) step e due = absurd cc

  -- the step of the part's own machine
  leads_core : (step : Step) → step_of (core_of x) ≡ Some step → LeadsAt z o m (core_of x).stage step
  leads_core step due = leads_stage (core_of x).stage step refl due

-- the step of a part with its call begun, stated of the part as it was before
module _ (z : Layout) (o : Opening) (m : PartAmong) (c : CoreState) (step : Step) (w : LawfulAmong z o (record m { part = started c m.part })) (mine : c ≡ core_of (started c m.part))
    (holds : holding_of (started c m.part) ≡ holding_of m.part) (port : port_of (started c m.part) ≡ port_of m.part) (due : step_of c ≡ Some step) where
  open m use {words, before, part as x, after, log}

  -- the memory with that part
  abbrev begun : PartAmong
  begun = record m { part = started c m.part }

  abbrev v : Part
  v = started c x

  abbrev s : CoreState
  s = core_of (started c x)

  due_here : step_of (core_of (started c x)) ≡ Some step
  due_here = ap step_of (sym mine) ∙ due

  leads : LeadsAt z o begun (core_of (started c x)).stage step
  leads = leads_core z o begun w step due_here

  number : (core_of (started c x)).port ≡ port_of x
  number = port_here z o begun w ∙ port

  -- the record of an exchange that is due
  exchange : (d : Change) (old at : ℕ) → (core_of (started c x)).stage ≡ Exchanging d old at → IsExchange z words d at
  exchange d old at e =
      let memory = memory_at z o begun w (Exchanging d old at) e in
      let held = holding_in (core_of (started c x)) (Exchanging d old at) (joined_since (started c x)) in
      let all = holdings before ++ held ∷ holdings after in
      let here = all_at (λ (h : Holding). IfSome h.due (IsDue z o words h (without_block h.port all) log)) (holdings before) held (holdings after) memory.due in
      let sound = sound_at z o begun w (Exchanging d old at) e in
      let whole = sound_here z o begun w in
      let size = (size_few (core_of (started c x)) whole.indices.few).0 in
      let end : pool_end (core_of (started c x)).sizes ≡ pool_end z = ap pool_end (sizes_here z o begun w) in
      let last = sound.1.1 in
      let count = w.memory.count in
      record { component = here.component; value = here.value; within = omega (arith, last, size, end, count) }

  adds : StepAdds z (port_of x) (core_of (started c x)).stage words step
  adds = let sound = sound_here z o begun w in
      step_adds z (port_of x) (core_of (started c x)) words (core_of (started c x)).stage step (sizes_here z o begun w) sound.stage due_here exchange

  grown : log ++ added_at (core_of (started c x)).port (core_of (started c x)).stage (answer_of words step) ≡ log ++ added_by z (port_of x) words step
  grown = ap (λ (l : List Applied). log ++ l) (ap (λ n. added_at n (core_of (started c x)).stage (answer_of words step)) number ∙ sym adds.entries)

  then_lawful : LawfulAmong z o (memory_after z m step (gone (started c x) (log ++ added_by z (port_of x) words step) (answer_of words step) leads.new))
  then_lawful = subst (λ (l : List Applied). LawfulAmong z o (record m { words = words_after words step; part = gone (started c x) l (answer_of words step) leads.new; log = l })) grown leads.lawful

  then_behind : IsAfterAnswer c (answer_of words step)
  then_behind =
      let sound = sound_here z o begun w in
      let layout : IsLayout (core_of (started c x)).sizes = subst IsLayout (sym (sizes_here z o begun w)) w.memory.sizes in
      subst (λ (d : CoreState). IsAfterAnswer d (answer_of words step)) (sym mine) (answers_lead_on (core_of (started c x)) (answer_of words step) layout sound leads.possible)

  -- a published word stays
  then_keeps : (n : ℕ) → list_base z ≤ n → n < total z → IsPublished z words (unpublished (holdings (before ++ x ∷ after))) n →
      (slice_index (words_after words step) n ≡ slice_index words n) × IsPublished z (words_after words step)
      (unpublished (holdings (before ++ gone (started c x) (log ++ added_by z (port_of x) words step) (answer_of words step) leads.new ∷ after))) n
  then_keeps n low high published =
      let same : holdings (before ++ x ∷ after) ≡ holdings (before ++ started c x ∷ after) = holdings_split before x after ∙ ap (λ (h : Holding). holdings before ++ h ∷ holdings after)
      (sym holds) ∙ sym (holdings_split before (started c x) after) in
      let here : IsPublished z words (unpublished (holdings (before ++ started c x ∷ after))) n = subst (λ (hs : List Holding). IsPublished z words (unpublished hs) n) same published in
      let loaded = leads.loads n (record { answer = slice_index words n; at = length log }) (loads_are_true z o words (holdings (before ++ started c x ∷ after)) log n w.memory high (λ _. here)) in
      let block = (subst (λ (l : List Applied). IsLoaded z o (words_after words step) (holdings (before ++ gone (started c x) l (answer_of words step) leads.new ∷ after)) l n
      (record { answer = slice_index words n; at = length log })) grown loaded).block low in
      (sym block.0, block.1)

  pub leads_on : LeadsOn z o m c step
  leads_on =
      let l = leads in
      let k = known_here z o begun w in
      let y = gone (started c x) (log ++ added_by z (port_of x) words step) (answer_of words step) l.new in
      let core : core_of y ≡ advance c (answer_of words step) = gone_core (started c x) (log ++ added_by z (port_of x) words step)
      (answer_of words step) l.new ∙ ap (λ (d : CoreState). advance d (answer_of words step)) (sym mine) in
      let behind = then_behind in
      let lawful = then_lawful in
      record {
        answers = l.answers;
        publishes = adds.within;
        y = y;
        tells = record {
          new = l.new;
          part = refl;
          seen = k.seen;
          possible = subst (λ (d : CoreState). IsPossible d (answer_of words step)) (sym mine) l.possible;
          behind = behind;
          machine = record { going = behind.begun; is = sym core };
          sizes = ap (λ (d : CoreState). d.sizes) mine ∙ sizes_here z o begun w;
          begun_sizes = k.sizes;
          number = ap (λ (d : CoreState). d.port) mine ∙ number;
          port = port;
          noted = subst (λ (d : CoreState). AreNotesOf o y (reply_of (advance d (answer_of words step))) l.new) (sym mine)
              (subst (λ (es : List Applied). AreNotesOf o (gone (started c x) es (answer_of words step) l.new) (reply_of (advance (core_of (started c x)) (answer_of words step))) l.new) grown l.noted);
          fits = fits_here z o (memory_after z m step y) lawful;
        };
        lawful = lawful;
        keeps = then_keeps;
      }

pub steps_stay_lawful : StepsStayLawful
steps_stay_lawful z o m c step w its due = by its
  where
    open m use {part as x}

    by : HasBegun c x ⊎ IsLedTo c x → LeadsOn z o m c step
    by (inl h) =
        let is : fresh_call c x ≡ started c x = started_fresh c x h.begun in
        leads_on z o m c step
        (subst (λ (v : Part). LawfulAmong z o (record m { part = v })) is (begin_lawful z o m w c h))
        (ap core_of is)
        (ap holding_of (sym is) ∙ begin_holds z o m w c h)
        (ap port_of (sym is) ∙ h.like.port ∙ port_here z o m w)
        due
    by (inr l) =
        let is : x ≡ started c x = started_same c x l.going in
        leads_on z o m c step
        (subst (λ (v : Part). LawfulAmong z o (record m { part = v })) is w)
        (l.is ∙ ap core_of is)
        (ap holding_of (sym is))
        (ap port_of (sym is))
        due
