-- What the closed memory of a pipeline says of the monitor's scans.
use Rattle.partial_pipeline.proofs.{Common.{ℕ, zero, suc, inl, inr, ◌≡◌, ◌+◌, ◌<◌, ◌≤◌, ◌++◌, List, [], ◌∷◌, length, map, take, slice_index, refl, sym, ◌∙◌, ap, subst, Option, Some, None, slice_get, arith, AllByRecursion, ext_get_or, get_or-map, length-map, take_all, cases_lt, Applied, Opening, Call, Answer, Note, Noted, LegalNotes, IsLegal, seen_after, seen_by, EachOnce, places_written, wrote, AllByRecursion-get, LegalNotes-last, all_where, IsOf, MemoryView, PortView, AreFrom, AreOrdered, HaveEnded, HaveRisen, IsOrderly, IsPipeline, IsStageIn, NeverFall, last_of, EndEach, HasMetMonitor, IsEachStage, GoesOnNoting, Opens, Sees, StagesWatched, StageEnd, Finished, Global, Vec, noted_at, element_at}, Pipes.{counts_never_fall, counts_stay_ordered, stage_value}, Stages.{ends_many, watched_sees}}
use Rattle.std.specs.Prelude.{IfSome}
use Rattle.partial_model.specs.History.{value_of}
use Rattle.partial_long_lived.specs.Closing.{Closes, IsPortOf}

-- the counts of n stages after the first so many entries
pub record AreCounts (o : Opening) (h : List Applied) (n at : ℕ) (counts : List ℕ) : Type 0 where
  pub many : length counts ≡ n
  pub each : (k : ℕ) → k < n → slice_index counts k ≡ value_of o (take at h) k

-- each of these lists has the counts after some entries, no fewer than the list before it
abbrev pub Saw : Opening → List Applied → ℕ → ℕ → List (List ℕ) → Type 0
Saw o h n from [] = Unit {0}
Saw o h n from (s ∷ ss) = (at : ℕ) × (from ≤ at) × (at ≤ length h) × AreCounts o h n at s × Saw o h n at ss

saw_push : (o : Opening) (h : List Applied) (n from : ℕ) (ss : List (List ℕ)) (s : List ℕ) → from ≤ length h → Saw o h n from ss → AreCounts o h n (length h) s → Saw o h n from (ss ++ s ∷ [])
saw_push o h n from [] s within w is = (length h, within, omega arith, is, tt)
saw_push o h n from (x ∷ ss) s within w is = (w.0, w.1, w.2, w.3, saw_push o h n w.0 ss s w.2 w.4 is)

saw_many : (o : Opening) (h : List Applied) (n from : ℕ) (ss : List (List ℕ)) → Saw o h n from ss → AllByRecursion (λ (s : List ℕ). length s ≡ n) ss
saw_many o h n from [] w = tt
saw_many o h n from (s ∷ ss) w = (w.3.many, saw_many o h n w.0 ss w.4)

module _ (o : Opening) (h : List Applied) (stages : List (List Noted)) (p : IsPipeline o h stages) where
  counts_ordered : (at : ℕ) (s : List ℕ) → at ≤ length h → AreCounts o h (length stages) at s → AreOrdered s
  counts_ordered at s within is k below =
      let here : k + 1 < length stages = omega (arith, is.many) in
      let left = is.each (k + 1) here in
      let right = is.each k (omega arith) in
      let law = counts_stay_ordered o h stages p at k within here in
      omega arith

  saw_ordered : (from : ℕ) (ss : List (List ℕ)) → Saw o h (length stages) from ss → AllByRecursion AreOrdered ss
  saw_ordered from [] w = tt
  saw_ordered from (s ∷ ss) w = (counts_ordered w.0 s w.2 w.3, saw_ordered w.0 ss w.4)

  counts_risen : (a b : ℕ) (s t : List ℕ) → a ≤ b → b ≤ length h → AreCounts o h (length stages) a s → AreCounts o h (length stages) b t → HaveRisen s t
  counts_risen a b s t before within x y k below =
      let here : k < length stages = omega (arith, x.many) in
      let left = x.each k here in
      let right = y.each k here in
      let law = counts_never_fall o h stages p a b k before within here in
      omega arith

  saw_later : (a from : ℕ) (s : List ℕ) (ss : List (List ℕ)) → a ≤ from → AreCounts o h (length stages) a s → Saw o h (length stages) from ss → AllByRecursion (HaveRisen s) ss
  saw_later a from s [] before is w = tt
  saw_later a from s (t ∷ ss) before is w =
      let more : a ≤ w.0 = omega (arith, w.1) in
      (counts_risen a w.0 s t more w.2 is w.3, saw_later a w.0 s ss more is w.4)

  saw_rising : (from : ℕ) (ss : List (List ℕ)) → Saw o h (length stages) from ss → NeverFall ss
  saw_rising from [] w = tt
  saw_rising from (s ∷ ss) w = (saw_later w.0 w.0 s ss (omega arith) w.3 w.4, saw_rising w.0 ss w.4)

-- ---- the monitor's notes in the history

scan_counts : (o : Opening) (h : List Applied) (n at : ℕ) (stages s : List ℕ) → IsEachStage n stages → s ≡ map (λ j. value_of o (take at h) j) stages → AreCounts o h n at s
scan_counts o h n at stages s all is =
    record {
      many = ap length is ∙ length-map stages (λ j. value_of o (take at h) j) ∙ all.count;
      each = λ k below.
          let within : k < length stages = omega (arith, all.count) in
          ap (λ (l : List ℕ). slice_index l k) is ∙ get_or-map (λ j. value_of o (take at h) j) stages k 0 0 within ∙ ap (λ j. value_of o (take at h) j) (all.each k below);
    }

-- a scan that was noted saw the counts after some entries, at least as many as had been seen before
scan_saw : (o : Opening) (h : List Applied) (p n seen : ℕ) (stages s : List ℕ) (c : ℕ) (b : Option ℕ) (t : Option Note) → IsEachStage n stages →
    IsLegal o h p seen (record { call = Call.Scan stages; answer = Answer.Scanned s c b; note = t }) → (at : ℕ) × (seen ≤ at) × (at ≤ length h) × AreCounts o h n at s ×
    (seen_after seen t ≡ at) × (wrote t ≡ [])
scan_saw o h p n seen stages s c b (Some (Note.Saw at)) all w =
    (at, w.1.1, w.1.0.within, scan_counts o h n at stages s all w.1.0.values, refl, refl)
scan_saw o h p n seen stages s c b _ all w = absurd w.0

scan_legal : (o : Opening) (h : List Applied) (p seen : ℕ) (n : Noted) (stages s : List ℕ) (c : ℕ) (b : Option ℕ) → n.call ≡ Call.Scan stages → n.answer ≡ Answer.Scanned s c b →
    IsLegal o h p seen n → IsLegal o h p seen (record { call = Call.Scan stages; answer = Answer.Scanned s c b; note = n.note })
scan_legal o h p seen n stages s c b is ans w =
    subst (λ (y : Answer). IsLegal o h p seen (record { call = Call.Scan stages; answer = y; note = n.note })) ans
    (subst (λ (y : Call). IsLegal o h p seen (record { call = y; answer = n.answer; note = n.note })) is w)

watched_saw : (o : Opening) (h : List Applied) (p n seen : ℕ) (stages : List ℕ) (ns : List Noted) (ss : List (List ℕ)) → IsEachStage n stages → StagesWatched stages ns ss →
    LegalNotes o h p seen ns → Saw o h n seen ss
watched_saw o h p n seen stages [] [] all w legal = tt
watched_saw o h p n seen stages [] (s ∷ ss) all w legal = absurd w
watched_saw o h p n seen stages (x ∷ ns) [] all w legal = absurd w
watched_saw o h p n seen stages (x ∷ ns) (s ∷ ss) all w legal =
    let got = scan_saw o h p n seen stages s w.0 w.1 x.note all (scan_legal o h p seen x stages s w.0 w.1 w.2 w.3 legal.0) in
    (got.0, got.1, got.2, got.3, watched_saw o h p n got.0 stages ns ss all w.4 (subst (λ k. LegalNotes o h p k ns) got.4 legal.1))

-- scans write nothing
watched_none : (o : Opening) (h : List Applied) (p n seen : ℕ) (stages : List ℕ) (ns : List Noted) (ss : List (List ℕ)) → IsEachStage n stages → StagesWatched stages ns ss →
    LegalNotes o h p seen ns → places_written ns ≡ []
watched_none o h p n seen stages [] [] all w legal = refl
watched_none o h p n seen stages [] (s ∷ ss) all w legal = absurd w
watched_none o h p n seen stages (x ∷ ns) [] all w legal = absurd w
watched_none o h p n seen stages (x ∷ ns) (s ∷ ss) all w legal =
    let got = scan_saw o h p n seen stages s w.0 w.1 x.note all (scan_legal o h p seen x stages s w.0 w.1 w.2 w.3 legal.0) in
    ap (λ (l : List ℕ). l ++ places_written ns) got.5 ∙ watched_none o h p n (seen_after seen x.note) stages ns ss all w.4 legal.1

-- ---- the report

same_counts : (o : Opening) (h : List Applied) (n at : ℕ) (s t : List ℕ) → AreCounts o h n at s → AreCounts o h n at t → s ≡ t
same_counts o h n at s t x y =
    ext_get_or 0 s t (x.many ∙ sym y.many) (λ i below.
    let here : i < n = omega (arith, x.many) in
    x.each i here ∙ sym (y.each i here))

-- what the last scan says, when there is one: it was made after all that the monitor had seen when it had met all stages
abbrev pub LastSees : PortView → List ℕ → PortView → Option (Vec ℕ Global) → Type 0
LastSees p stages q None = GoesOnNoting p q []
LastSees p stages q (Some counts) = Sees p stages counts.items q

pub last_sees : (p q : PortView) (stages : List ℕ) (last : Option (Vec ℕ Global)) → IfSome last (λ (v : Vec ℕ Global). Sees p stages v.items q) → (last ≡ None → GoesOnNoting p q []) →
    LastSees p stages q last
last_sees p q stages None some none = none refl
last_sees p q stages (Some v) some none = some

pub last_number : (p q : PortView) (stages : List ℕ) (last : Option (Vec ℕ Global)) → LastSees p stages q last → q.number ≡ p.number
last_number p q stages None w = w.number
last_number p q stages (Some v) w = w.goes.number

-- the scans with the last one
last_watched : (p q : PortView) (stages : List ℕ) (ss : List (List ℕ)) (last : Option (Vec ℕ Global)) → StagesWatched stages p.notes ss → LastSees p stages q last →
    StagesWatched stages q.notes (ss ++ last_of last)
last_watched p q stages ss None w s =
    subst (StagesWatched stages q.notes) (sym (append_nil ss)) (subst (λ ns. StagesWatched stages ns ss) (sym (s.notes ∙ append_nil p.notes)) w)
  where
    append_nil : {A : Type 0} (xs : List A) → xs ++ [] ≡ xs
    append_nil [] = refl
    append_nil (x ∷ xs) = ap (λ l. x ∷ l) (append_nil xs)
last_watched p q stages ss (Some counts) w s = watched_sees p q stages counts.items ss w s

-- the port of a stage in the closed memory's history
stage_in : (m : MemoryView) (log : List Applied) (seen k : ℕ) (p : PortView) → HasMetMonitor m seen k p → IsPortOf log p → IsStageIn m.about.opening log k p.notes
stage_in m log seen k p met told =
    record {
      legal = subst (λ i. LegalNotes m.about.opening log i 0 p.notes) met.number (subst (λ (v : MemoryView). LegalNotes v.about.opening log p.number 0 p.notes) met.own told.legal);
      once = subst (λ i. EachOnce log i p.notes) met.number told.once;
      worked = met.worked;
    }

stages_in : (m : MemoryView) (log : List Applied) (seen k : ℕ) (ports : List PortView) → AreFrom (HasMetMonitor m seen) k ports → AllByRecursion (IsPortOf log) ports →
    AreFrom (IsStageIn m.about.opening log) k (map (λ (p : PortView). p.notes) ports)
stages_in m log seen k [] w told = tt
stages_in m log seen k (p ∷ ports) w told = (stage_in m log seen k p w.0 told.0, stages_in m log seen (k + 1) ports w.1 told.1)

-- each stage's entries lie within what the monitor had seen
stages_within : (m : MemoryView) (log : List Applied) (seen k : ℕ) (ports : List PortView) (i : ℕ) (e : Applied) → AreFrom (HasMetMonitor m seen) k ports → AllByRecursion (IsPortOf log) ports →
    slice_get log i ≡ Some e → k ≤ e.port → e.port < k + length ports → i < seen
stages_within m log seen k [] i e w told s from below = absurd (omega arith)
stages_within m log seen k (p ∷ ports) i e w told s from below = elim (cases_lt k e.port) [
  | inl later ↦ stages_within m log seen (k + 1) ports i e w.1 told.1 s (omega arith) (omega arith)
  | inr here ↦
      let same : e.port ≡ p.number = omega (arith, w.0.number) in
      noted_at (λ j. j < seen) log p.number p.notes i e told.0.once w.0.within s same
]

-- what is known of a closed pipeline
module _ (m : MemoryView) (p q : PortView) (ports : List PortView) (stages : List ℕ) (scans : Vec (Vec ℕ Global) Global) (last : Option (Vec ℕ Global)) (closed : Vec ℕ Global) (opens : Opens m)
    (met : AreFrom (HasMetMonitor m (length p.seen)) 0 ports) (count : length ports ≡ m.about.sizes.m) (own : IsOf m q) (number : q.number ≡ m.about.sizes.m) (all : IsEachStage m.about.sizes.m stages)
    (watched : StagesWatched stages p.notes (map (λ (v : Vec ℕ Global). v.items) scans.items)) (sees : LastSees p stages q last) (closes : Closes m (q ∷ ports) closed.items) where
  abbrev o : Opening
  o = m.about.opening

  abbrev log : List Applied
  log = closes.log

  abbrev ss : List (List ℕ)
  ss = map (λ (v : Vec ℕ Global). v.items) scans.items

  all_watched : StagesWatched stages q.notes (ss ++ last_of last)
  all_watched = last_watched p q stages ss last watched sees

  legal : LegalNotes o log m.about.sizes.m 0 q.notes
  legal = subst (λ k. LegalNotes o log k 0 q.notes) number (subst (λ (v : MemoryView). LegalNotes v.about.opening log q.number 0 q.notes) own closes.each.0.legal)

  -- the monitor made no entry
  none : places_written q.notes ≡ []
  none = watched_none o log m.about.sizes.m m.about.sizes.m 0 stages q.notes (ss ++ last_of last) all all_watched legal

  not_monitor : (i : ℕ) (e : Applied) → slice_get log i ≡ Some e → e.port ≡ m.about.sizes.m → ⊥
  not_monitor i e s by = noted_at (λ _. ⊥) log q.number q.notes i e closes.each.0.once (subst (AllByRecursion (λ _. ⊥)) (sym none) tt) s (by ∙ sym number)

  by_stage : (i : ℕ) (e : Applied) → slice_get log i ≡ Some e → e.port < m.about.sizes.m
  by_stage i e s =
      let opened = AllByRecursion-get (λ (x : Applied). x.port < m.about.ports) log i e closes.others s in
      elim (cases_lt e.port m.about.sizes.m) [
        | inl below ↦ below
        | inr past ↦ let at : e.port ≡ m.about.sizes.m = omega (arith, opens.count) in absurd (not_monitor i e s at)
      ]

  pipeline : IsPipeline o log (map (λ (x : PortView). x.notes) ports)
  pipeline =
      let many : length (map (λ (x : PortView). x.notes) ports) ≡ m.about.sizes.m = length-map ports (λ (x : PortView). x.notes) ∙ count in
      record {
        zero = opens.zero;
        each = stages_in m log (length p.seen) 0 ports met closes.each.1;
        below = subst (λ n. AllByRecursion (λ (e : Applied). e.port < n) log) (sym many) (all_where (λ (e : Applied). e.port < m.about.sizes.m) log by_stage);
      }

  -- once all stages have ended, no entry comes after what the monitor had seen
  ends_within : (at : ℕ) → length p.seen ≤ at → length log ≤ at
  ends_within at seen = elim (cases_lt at (length log)) [
    | inr past ↦ past
    | inl below ↦
        let e = element_at log at below in
        let by : e.0.port < 0 + length ports = omega (arith, by_stage at e.0 e.1, count) in
        let within = stages_within m log (length p.seen) 0 ports at e.0 met closes.each.1 e.1 (omega arith) by in
        absurd (omega arith)
  ]

  closed_counts : AreCounts o log m.about.sizes.m (length log) closed.items
  closed_counts =
      record {
        many = closes.last.count ∙ opens.values;
        each = λ k below. closes.last.each k (omega (arith, opens.values)) ∙ ap (λ (l : List Applied). value_of o l k) (sym (take_all (length log) log (omega arith)));
      }

  sees_closed : (counts : Vec ℕ Global) → Sees p stages counts.items q → counts.items ≡ closed.items
  sees_closed counts s =
      let n : Noted = record { call = Call.Scan stages; answer = Answer.Scanned counts.items s.collects s.borrowed; note = Some (Note.Saw s.place) } in
      let one : IsLegal o log m.about.sizes.m (seen_by 0 p.notes) n = LegalNotes-last o log m.about.sizes.m 0 p.notes n (subst (LegalNotes o log m.about.sizes.m 0) s.goes.notes legal) in
      let got = scan_saw o log m.about.sizes.m m.about.sizes.m (seen_by 0 p.notes) stages counts.items s.collects s.borrowed (Some (Note.Saw s.place)) all one in
      let place : s.place ≡ got.0 = got.4 in
      let end : got.0 ≡ length log = omega (arith, got.2, ends_within got.0 (omega (arith, place, s.first, s.behind))) in
      same_counts o log m.about.sizes.m (length log) counts.items closed.items (subst (λ i. AreCounts o log m.about.sizes.m i counts.items) end got.3) closed_counts

  saw : Saw o log m.about.sizes.m 0 ((ss ++ last_of last) ++ closed.items ∷ [])
  saw = saw_push o log m.about.sizes.m 0 (ss ++ last_of last) closed.items (omega arith)
      (watched_saw o log m.about.sizes.m m.about.sizes.m 0 stages q.notes (ss ++ last_of last) all all_watched legal) closed_counts

last_is : (p q : PortView) (stages counts : List ℕ) (last : Option (Vec ℕ Global)) → ((v : Vec ℕ Global) → Sees p stages v.items q → v.items ≡ counts) → LastSees p stages q last →
    IfSome last (λ v. v.items ≡ counts)
last_is p q stages counts None f w = tt
last_is p q stages counts (Some v) f w = f v w

pub orderly : (m : MemoryView) (p q : PortView) (ports : List PortView) (stages : List ℕ) (scans : Vec (Vec ℕ Global) Global) (last : Option (Vec ℕ Global)) (closed : Vec ℕ Global)
    (ends : Vec StageEnd Global) → Opens m → AreFrom (HasMetMonitor m (length p.seen)) 0 ports → length ports ≡ m.about.sizes.m → IsOf m q → q.number ≡ m.about.sizes.m →
    IsEachStage m.about.sizes.m stages →
    StagesWatched stages p.notes (map (λ (v : Vec ℕ Global). v.items) scans.items) → LastSees p stages q last → Closes m (q ∷ ports) closed.items →
    IsOrderly m.about.sizes.m (record { scans = scans; last = last; counts = closed; ends = ends })
orderly m p q ports stages scans last closed ends opens met count own number all watched sees closes =
    let o = m.about.opening in
    let log = closes.log in
    let seen : Saw o log m.about.sizes.m 0 ((map (λ (v : Vec ℕ Global). v.items) scans.items ++ last_of last) ++ closed.items ∷ []) =
    saw m p q ports stages scans last closed opens met count own number all watched sees closes in
    let line = pipeline m p q ports stages scans last closed opens met count own number all watched sees closes in
    let notes : List (List Noted) = map (λ (x : PortView). x.notes) ports in
    let many : m.about.sizes.m ≡ length notes = sym (length-map ports (λ (x : PortView). x.notes) ∙ count) in
    let here : Saw o log (length notes) 0 ((map (λ (v : Vec ℕ Global). v.items) scans.items ++ last_of last) ++ closed.items ∷ []) =
    subst (λ n. Saw o log n 0 ((map (λ (v : Vec ℕ Global). v.items) scans.items ++ last_of last) ++ closed.items ∷ [])) many seen in
    record {
      each = saw_many o log m.about.sizes.m 0 ((map (λ (v : Vec ℕ Global). v.items) scans.items ++ last_of last) ++ closed.items ∷ []) seen;
      ordered = saw_ordered o log notes line 0 ((map (λ (v : Vec ℕ Global). v.items) scans.items ++ last_of last) ++ closed.items ∷ []) here;
      rising = saw_rising o log notes line 0 ((map (λ (v : Vec ℕ Global). v.items) scans.items ++ last_of last) ++ closed.items ∷ []) here;
      last = last_is p q stages closed.items last (sees_closed m p q ports stages scans last closed opens met count own number all watched sees closes) sees;
    }

-- ---- the ends

ends_told : (o : Opening) (h : List Applied) (stages : List (List Noted)) (w : IsPipeline o h stages) (items k : ℕ) (ports : List PortView) (ends : List StageEnd) →
    AreFrom (IsStageIn o h) k (map (λ (p : PortView). p.notes) ports) → EndEach items k ports ends → (i : ℕ) → i < length ports →
    (value_of o h (k + i) ≤ items) × (slice_get ends i ≡ Some Finished → value_of o h (k + i) ≡ items)
ends_told o h stages w items k [] ends s e i below = absurd (omega arith)
ends_told o h stages w items k (p ∷ ps) [] s e i below = absurd e
ends_told o h stages w items k (p ∷ ps) (x ∷ xs) s e zero below =
    let is = stage_value o h stages w k p.notes s.0 in
    let same : k ≡ k + 0 = omega arith in
    subst (λ n. (value_of o h n ≤ items) × (slice_get (x ∷ xs) zero ≡ Some Finished → value_of o h n ≡ items)) same
    (omega (arith, is, e.0.most), λ f. let end : x ≡ Finished = cc in is ∙ e.0.finished end)
ends_told o h stages w items k (p ∷ ps) (x ∷ xs) s e (suc i) below =
    let same : k + 1 + i ≡ k + suc i = omega arith in
    let rest = ends_told o h stages w items (k + 1) ps xs s.1 e.1 i (omega arith) in
    subst (λ n. (value_of o h n ≤ items) × (slice_get xs i ≡ Some Finished → value_of o h n ≡ items)) same rest

pub ended : (m : MemoryView) (p q : PortView) (ports : List PortView) (stages : List ℕ) (scans : Vec (Vec ℕ Global) Global) (last : Option (Vec ℕ Global)) (closed : Vec ℕ Global)
    (ends : Vec StageEnd Global) (items : ℕ) → Opens m → AreFrom (HasMetMonitor m (length p.seen)) 0 ports → length ports ≡ m.about.sizes.m → IsOf m q → q.number ≡ m.about.sizes.m →
    IsEachStage m.about.sizes.m stages → StagesWatched stages p.notes (map (λ (v : Vec ℕ Global). v.items) scans.items) → LastSees p stages q last → Closes m (q ∷ ports) closed.items →
    EndEach items 0 ports ends.items → HaveEnded m.about.sizes.m items (record { scans = scans; last = last; counts = closed; ends = ends })
ended m p q ports stages scans last closed ends items opens met count own number all watched sees closes each =
    let o = m.about.opening in
    let log = closes.log in
    let line = pipeline m p q ports stages scans last closed opens met count own number all watched sees closes in
    let notes : List (List Noted) = map (λ (x : PortView). x.notes) ports in
    let told = ends_told o log notes line items 0 ports ends.items (stages_in m log (length p.seen) 0 ports met closes.each.1) each in
    let value : (k : ℕ) → k < m.about.sizes.m → slice_index closed.items k ≡ value_of o log k = λ k below. closes.last.each k (omega (arith, opens.values)) in
    record {
      many = ends_many items 0 ports ends.items each ∙ count;
      most = λ k below.
          let same : k ≡ 0 + k = omega arith in
          let is : slice_index closed.items k ≡ value_of o log (0 + k) = subst (λ n. slice_index closed.items k ≡ value_of o log n) same (value k below) in
          let most = (told k (omega (arith, count))).0 in
          omega (arith, is, most);
      finished = λ k below f.
          let same : k ≡ 0 + k = omega arith in
          let is : slice_index closed.items k ≡ value_of o log (0 + k) = subst (λ n. slice_index closed.items k ≡ value_of o log n) same (value k below) in
          is ∙ (told k (omega (arith, count))).1 f;
    }
