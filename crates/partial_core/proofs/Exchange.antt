-- The exchange of a component word: won, it adds one entry to the history; lost, it changes nothing.
use Rattle.partial_core.proofs.{Common.{option_map_or, eqb-false, eqb-true, append-nil, set-get_or, take_at, length_push, Applied, Opening, stamp_of, Noted, IsLegal, seen_by, places_by, places_written, overtaken_at, place_below, seen_by-push, places_written-append, places_by-push, slice_get_last, Step, Exchange, Layout, words_after, Change, Reply, Stage, Exchanging, Finished, CoreState, at_stage, advance_at, step_at, step_of, overtaken_reply, IsRecord, IsPossible, IsPossibleAt, Holding, Due, IsLoaded, all_weaker, drops_are_kept, wins_are_kept, Part, core_of, port_of, first_at, IsKnown, notes_by, IsTrueYet, holding_of, holdings, joined_since, is_at_rest, call_at, update_call, AreNotesOf, PartAmong, LawfulAmong}, Added.added_at, MidCalls.KnowsOld, Parts.{IsKeptAmong, known_grows, known_end, gone, changed, holdings_split, once_own, once_other}, Steps.{LeadsAt, holding_in, known_here, sizes_here, sound_at, port_here, seen_here, memory_at, holding_gone, going, ends}, Ports.others, Reading.{stamp_now, stamp_then, component_record}}
use Rattle.std.proofs.Common.{ℕ, ◌≡◌, ◌≢◌, ◌+◌, ◌<◌, ◌==◌, ◌++◌, Bool, true, false, if◌then◌else◌, Option, Some, None, List, [], ◌∷◌, length, slice_index, slice_set, slice_get, take, refl, sym, ap, subst, ◌∙◌, arith}
use Rattle.partial_model.specs.declared.call.{Call.Call, Answer.Answer, Note.Note}

module _ (z : Layout) (o : Opening) (m : PartAmong) (w : LawfulAmong z o m) (c : Change)
    (old at : ℕ) (e : (core_of m.part).stage ≡ Exchanging c old at) where
  open m use {words, before, part as x, after, log}

  abbrev s : CoreState
  s = core_of x

  abbrev hs : List Holding
  hs = holdings (before ++ x ∷ after)

  abbrev held : Holding
  held = holding_in s (Exchanging c old at) (joined_since x)

  abbrev due : Due
  due = record { component = c.component; old = old; value = c.value; at = at }

  old_known : KnowsOld o log x.begun (first_at x.kept) c old
  old_known = let g = going z o m w (Exchanging c old at) e refl refl in let known = g.knows in known.0

  below : c.component < z.m
  below = subst (λ (y : Layout). c.component < y.m) (sizes_here z o m w) (sound_at z o m w (Exchanging c old at) e).0.0

  below_values : c.component < length o.values
  below_values = let b = below in let values = w.memory.values in omega (arith, values, b)

  -- what the update expects is what it loaded
  expected_old : (n : ℕ) → c.expected ≡ Some n → n ≡ old
  expected_old n is = let known = old_known in eqb-true n old (sym (ap (λ (f : Option ℕ). option_map_or (λ t. t == old) f true) is) ∙ known.expected)

  call_made : (f : Option ℕ) → c.expected ≡ f → call_at x.begun x.begun.stage ≡ Some (update_call c.component f c.value)
  call_made f is = let known = old_known in ap (call_at x.begun) known.called ∙ ap (λ (g : Option ℕ). Some (update_call c.component g c.value)) is

  possible : IsRecord s.sizes (slice_index words c.component)
  possible = subst (λ (y : Layout). IsRecord y (slice_index words c.component)) (sym (sizes_here z o m w)) (component_record z o m w c.component below)

  inside : c.component < length words
  inside = let count = w.memory.count in let b = below in omega (arith, count, b)

  -- what the part holds, with its stage named
  kept_here : (words' : List ℕ) (h : Holding) (log' : List Applied) → IsKeptAmong z o m held words' h log' → IsKeptAmong z o m (holding_of x) words' h log'
  kept_here words' h log' k = subst (λ (u : Stage). IsKeptAmong z o m (holding_in s u (joined_since x)) words' h log') (sym e) k

  abbrev step : Step
  step = Exchange c.component old at

  abbrev found : ℕ
  found = slice_index words c.component

  -- a lost exchange changes no word
  words_stay : (found == old) ≡ false → words_after words step ≡ words
  words_stay lost = ap (λ b. slice_set words c.component (if b then at else found)) lost ∙ set-get_or words c.component 0

  abbrev dropped : Holding
  dropped = record held { own = None; due = None }

  lost_keeps : (found == old) ≡ false → IsKeptAmong z o m (holding_of x) (words_after words step) dropped log
  lost_keeps lost = subst (λ (ws : List ℕ). IsKeptAmong z o m (holding_of x) ws dropped log) (sym (words_stay lost))
      (kept_here words dropped log (drops_are_kept z o words (holdings before) held (holdings after) log (memory_at z o m w (Exchanging c old at) e)))

  nothing_added : (found == old) ≡ false → added_at s.port (Exchanging c old at) found ≡ []
  nothing_added lost = ap (λ b. if b then record { port = s.port; component = c.component; value = c.value; stamp = at } ∷ [] else []) lost

  lost_at : (f : Option ℕ) → c.expected ≡ f → (found == old) ≡ false → LeadsAt z o m (Exchanging c old at) step
  lost_at None is lost =
      let g = going z o m w (Exchanging c old at) e refl refl in
      let now = stamp_now z o m w c.component below in
      let known = old_known in
      let over = overtaken_at o log c.component (first_at x.kept) (λ same. eqb-false found old lost (now ∙ same ∙ sym known.stamp)) in
      let n : Noted = record { call = Call.Update c.component c.value; answer = Answer.Lost found; note = Some (Note.Lost over.place) } in
      let reply_is : overtaken_reply c found ≡ Reply.Lost found = ap (λ (f : Option ℕ). option_map_or (λ _. Reply.Changed found) f (Reply.Lost found)) is in
      let leads : advance_at s (Exchanging c old at) found ≡ at_stage s (Finished (Reply.Lost found)) =
      ap (λ (b : Bool). at_stage s (Finished (if b then Reply.Applied at else overtaken_reply c found))) lost ∙
      ap (λ (r : Reply). at_stage s (Finished r)) reply_is in
      let within = place_below log over.place over.entry over.stands in
      let low = g.low in
      let behind = over.behind in
      ends z o m w (Exchanging c old at) step (at_stage s (Finished (Reply.Lost found))) dropped e refl leads (nothing_added lost) inside possible refl
      (lost_keeps lost) (λ ks is. tt)
      n refl (below_values, ((over.entry, over.stands, over.component, over.stamp ∙ sym now), omega (arith, low, behind))) (omega (arith, within)) refl
      (record {
        call = Call.Update c.component c.value;
        note = Note.Lost over.place;
        is = refl;
        made = call_made None is;
        behind = let more = g.more (record { answer = found; at = length log }) in omega (arith, more, behind);
        within = omega (arith, within);
        placed = within;
        stamps = tt;
      })
  lost_at (Some t) is lost =
      let g = going z o m w (Exchanging c old at) e refl refl in
      let n : Noted = record { call = Call.UpdateIf c.component t c.value; answer = Answer.Changed found; note = Some (Note.Saw (length log)) } in
      let reply_is : overtaken_reply c found ≡ Reply.Changed found = ap (λ (f : Option ℕ). option_map_or (λ _. Reply.Changed found) f (Reply.Lost found)) is in
      let leads : advance_at s (Exchanging c old at) found ≡ at_stage s (Finished (Reply.Changed found)) =
      ap (λ (b : Bool). at_stage s (Finished (if b then Reply.Applied at else overtaken_reply c found)))
      lost ∙ ap (λ (r : Reply). at_stage s (Finished r)) reply_is in
      let other : found ≢ t = λ same. eqb-false found old lost (same ∙ expected_old t is) in
      let order = g.order in
      let last = g.inside in
      ends z o m w (Exchanging c old at) step (at_stage s (Finished (Reply.Changed found))) dropped e refl leads (nothing_added lost) inside possible refl
      (lost_keeps lost) (λ ks is. tt)
      n refl (below_values, ((omega arith, sym (stamp_then z o m w c.component below), other), seen_here z o m w)) (omega arith) refl
      (record {
        call = Call.UpdateIf c.component t c.value;
        note = Note.Saw (length log);
        is = refl;
        made = call_made (Some t) is;
        behind = let more = g.more (record { answer = found; at = length log }) in omega (arith, more, order, last);
        within = omega arith;
        placed = omega arith;
        stamps = tt;
      })

  -- the exchange is won: the history gains the entry
  abbrev entry : Applied
  entry = record { port = s.port; component = c.component; value = c.value; stamp = at }

  abbrev won_log : List Applied
  won_log = log ++ entry ∷ []

  won_once : (p : ℕ) (y : Part) → port_of y ≡ port_of x → places_written y.notes ≡ places_written x.notes ++ length log ∷ [] → places_by p 0 won_log ≡ places_written (notes_by p (before ++ y ∷ after))
  won_once p y port more = either (s.port == p) refl
    where
      mine : s.port ≡ port_of x
      mine = port_here z o m w

      away : (v : Part) → port_of x ≢ port_of v → port_of y ≢ port_of v
      away v d same = d (sym port ∙ same)

      either : (b : Bool) → (s.port == p) ≡ b → places_by p 0 won_log ≡ places_written (notes_by p (before ++ y ∷ after))
      either true h =
          let is : port_of x ≡ p = sym mine ∙ eqb-true s.port p h in
          let own_x : places_written (notes_by p (before ++ x ∷ after)) ≡ places_written x.notes = ap (λ n. places_written (notes_by n (before ++ x ∷ after))) (sym is) ∙ once_own before x after
          (others z o m w).0 (others z o m w).1 in
          let own_y : places_written (notes_by p (before ++ y ∷ after)) ≡ places_written y.notes = ap (λ n. places_written (notes_by n (before ++ y ∷ after))) (sym (port ∙ is)) ∙ once_own before y
          after (all_weaker (λ (v : Part). port_of x ≢ port_of v) (λ (v : Part). port_of y ≢ port_of v) away before (others z o m w).0)
          (all_weaker (λ (v : Part). port_of x ≢ port_of v) (λ (v : Part). port_of y ≢ port_of v) away after (others z o m w).1) in
          places_by-push p 0 log entry ∙ ap (λ (b : Bool). places_by p 0 log ++ (if b then (0 + length log) ∷ [] else [])) h ∙ ap (λ n. places_by p 0 log ++ n ∷ [])
          (omega arith) ∙ ap (λ (l : List ℕ). l ++ length log ∷ []) (w.once p ∙ own_x) ∙ sym more ∙ sym own_y
      either false h =
          places_by-push p 0 log entry ∙ ap (λ (b : Bool). places_by p 0 log ++ (if b then (0 + length log) ∷ [] else [])) h ∙ append-nil
          (places_by p 0 log) ∙ w.once p ∙ sym (once_other p before x y after port (λ same. eqb-false s.port p h (mine ∙ same)))

  won_legal : (f : Option ℕ) → c.expected ≡ f → found ≡ old → IsLegal o won_log (port_of x) (seen_by 0 x.notes)
      (record { call = update_call c.component f c.value; answer = Answer.Applied at; note = Some (Note.Wrote (length log)) })
  won_legal f is won = legal f is
    where
      stands : slice_get won_log (length log) ≡ Some (record { port = port_of x; component = c.component; value = c.value; stamp = at })
      stands = slice_get_last log entry ∙ ap (λ n. Some (record { port = n; component = c.component; value = c.value; stamp = at })) (port_here z o m w)

      legal : (f : Option ℕ) → c.expected ≡ f → IsLegal o won_log (port_of x) (seen_by 0 x.notes)
          (record { call = update_call c.component f c.value; answer = Answer.Applied at; note = Some (Note.Wrote (length log)) })
      legal None is = (below_values, (stands, seen_here z o m w))
      legal (Some t) is =
          let front : take (length log) won_log ≡ log = take_at log (entry ∷ []) (length log) refl in
          let stamp : stamp_of o (take (length log) won_log) c.component ≡ t =
          ap (λ (l : List Applied). stamp_of o l c.component) front ∙ sym (stamp_now z o m w c.component below) ∙ won ∙ sym (expected_old t is) in
          (below_values, ((stands, stamp), seen_here z o m w))

  abbrev won_note : Noted
  won_note = record { call = update_call c.component c.expected c.value; answer = Answer.Applied at; note = Some (Note.Wrote (length log)) }

  won : (found == old) ≡ true → LeadsAt z o m (Exchanging c old at) step
  won same =
      let is : found ≡ old = eqb-true found old same in
      let y = gone x won_log found (won_note ∷ []) in
      let t : CoreState = at_stage s (Finished (Reply.Applied at)) in
      let leads : advance_at s (Exchanging c old at) found ≡ t = ap (λ (b : Bool). at_stage s (Finished (if b then Reply.Applied at else overtaken_reply c found))) same in
      let added : added_at s.port (Exchanging c old at) found ≡ entry ∷ [] = ap (λ b. if b then entry ∷ [] else []) same in
      let words' = words_after words step in
      let holds : holding_of y ≡ dropped = holding_gone z o m w (Exchanging c old at) t won_log found (won_note ∷ []) e leads in
      let keeps : IsKeptAmong z o m (holding_of x) words' (holding_of y) won_log =
      subst (λ (h : Holding). IsKeptAmong z o m (holding_of x) words' h won_log) (sym holds)
      (kept_here words' dropped won_log (wins_are_kept z o words (holdings before) held (holdings after) log due (memory_at z o m w (Exchanging c old at) e) refl is)) in
      let split = holdings_split before y after in
      let here : IsKnown z o words' (holdings (before ++ y ∷ after)) won_log x = known_grows z o words words' hs (holdings (before ++ y ∷ after)) log (entry ∷ [])
      (λ n k l. subst (λ (ks : List Holding). IsLoaded z o words' ks won_log n k) (sym split)
      (keeps.loads n k (subst (λ (ks : List Holding). IsLoaded z o words ks log n k) (holdings_split before x after) l))) x (known_here z o m w) in
      let longer : length won_log ≡ length log + 1 = length_push log entry in
      let pushed = seen_by-push 0 x.notes won_note in
      let due_step : step_of s ≡ Some step = ap (λ (u : Stage). step_at s u) e in
      let possible_here : IsPossible s found = subst (λ (u : Stage). IsPossibleAt s u found) (sym e) possible in
      let known : IsKnown z o words' (holdings (before ++ y ∷ after)) won_log y = known_end z o words' (holdings (before ++ y ∷ after)) won_log x found won_note here (ap is_at_rest e) possible_here
      (subst (λ (f : Option Step). IsTrueYet z o words' (holdings (before ++ y ∷ after)) won_log f (record { answer = found; at = length won_log })) (sym due_step) tt)
      (won_legal c.expected refl is) (omega (arith, pushed, longer)) (ap (λ (u : Stage). is_at_rest (advance_at s u found).stage) e ∙ ap (λ (d : CoreState). is_at_rest d.stage) leads) in
      let lawful : LawfulAmong z o (record m { words = words'; part = y; log = won_log }) = changed z o m words' y (entry ∷ []) w keeps
      (λ p. won_once p y refl (places_written-append x.notes (won_note ∷ []))) known in
      let g = going z o m w (Exchanging c old at) e refl refl in
      let order = g.order in
      let last = g.inside in
      record {
        answers = record { within = inside; gives = refl };
        possible = possible;
        new = won_note ∷ [];
        noted = subst (λ (b : Bool). AreNotesOf o (gone x (log ++ (if b then entry ∷ [] else [])) found (won_note ∷ [])) (Some (if b then Reply.Applied at else overtaken_reply c found))
            (won_note ∷ [])) (sym same) (record {
              call = update_call c.component c.expected c.value;
              note = Note.Wrote (length log);
              is = refl;
              made = call_made c.expected refl;
              behind = let more = g.more (record { answer = found; at = length won_log }) in omega (arith, more, order, last);
              within = omega (arith, longer);
              placed = omega (arith, longer);
              stamps = tt;
            });
        lawful = subst (λ (es : List Applied). LawfulAmong z o (record m { words = words'; part = gone x (log ++ es) found (won_note ∷ []); log = log ++ es })) (sym added) lawful;
        loads = λ n k l. subst (λ (es : List Applied). IsLoaded z o words' (holdings (before ++ gone x (log ++ es) found (won_note ∷ []) ∷ after)) (log ++ es) n k) (sym added)
            (subst (λ (ks : List Holding). IsLoaded z o words' ks won_log n k) (sym split)
            (keeps.loads n k (subst (λ (ks : List Holding). IsLoaded z o words ks log n k) (holdings_split before x after) l)));
      }

  pub record_exchanged : LeadsAt z o m (Exchanging c old at) step
  record_exchanged = either (found == old) refl
    where
      either : (b : Bool) → (found == old) ≡ b → LeadsAt z o m (Exchanging c old at) step
      either true is = won is
      either false is = lost_at c.expected refl is
