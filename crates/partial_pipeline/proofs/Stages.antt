-- One call more of a stage, of the monitor, and a meeting.
use Rattle.partial_pipeline.proofs.{Common.{ℕ, zero, suc, ◌≡◌, ◌+◌, ◌<◌, ◌≤◌, ◌++◌, List, [], ◌∷◌, length, take, slice_index_or, refl, sym, ◌∙◌, ap, subst, inl, inr, Option, Some, append-nil, append_assoc, length-take, arith, AllByRecursion, Applied, Opening, Call, Answer, Note, Noted, LegalNotes, seen_after, places_written, wrote, all_append, all_weaker, shown_within, Goes, IsRefused, Meets, Reads, Scanned, Scans, Updates, IsOf, Knows, MemoryView, PortView, AreFrom, HasWorked, Works, EndEach, EndsAt, HasMetMonitor, IsStageDone, IsWorking, GoesOnNoting, Sees, StagesWatched, last_value, published_count, StageEnd, Finished, applied_by, entry_of, Stage, Worked}, Pipes.read_makes_none}
use Rattle.partial_long_lived.specs.declared.answers.Updated.TheVariants.{Applied as IsApplied, Lost}
use Rattle.partial_long_lived.specs.declared.error.Refused.{Refused}

-- ---- what a call leaves of its port

begins_within : {A : Type 0} (xs ys : List A) → xs ≡ take (length xs) ys → length xs ≤ length ys
begins_within xs ys is =
    let short = ap length is ∙ length-take (length xs) ys in
    omega (arith, short)

pub goes_more : (p q : PortView) (new : List Noted) → Goes p q new → GoesOnNoting p q new
goes_more p q new w = record { memory = w.memory; number = w.number; seen = begins_within p.seen q.seen w.seen; notes = w.notes }

-- a call that left the port as it was
stays : (p q : PortView) → q ≡ p → GoesOnNoting p q []
stays p q is = subst (λ (x : PortView). GoesOnNoting p x []) (sym is) (record { memory = refl; number = refl; seen = omega arith; notes = sym (append-nil p.notes) })

-- an update that was refused
pub update_refused : (p q : PortView) (j v : ℕ) (cause : Refused) → IsRefused p (Call.Update j v) cause q → GoesOnNoting p q []
update_refused p q j v Refused.Component w = stays p q w.1
update_refused p q j v Refused.Overtaken w = goes_more p q [] w.1
update_refused p q j v Refused.EpochsSpent w = goes_more p q [] w.1

-- ---- the notes of a stage

-- a call that notes nothing
pub none_more : (P : List Noted → Type 0) (p q : PortView) → GoesOnNoting p q [] → P p.notes → P q.notes
none_more P p q n w = subst P (sym (n.notes ∙ append-nil p.notes)) w

works_read : (k r c : ℕ) (ns : List Noted) (r' c' j v s : ℕ) (n : Noted) → Works k r c ns r' c' → k ≡ j + 1 → n.call ≡ Call.Read j → n.answer ≡ Answer.Read v s → Works k r c (ns ++ n ∷ []) v c'
works_read k r c [] r' c' j v s n w is read ans = inl (j, v, s, is, read, ans, (refl, w.1))
works_read k r c (m ∷ ns) r' c' j v s n w is read ans =
    elim w [
      | inl t ↦ inl (t.0, t.1, t.2, t.3, t.4, t.5, works_read k t.1 c ns r' c' j v s n t.6 is read ans)
      | inr t ↦ inr (t.0, t.1, t.2, t.3, works_read k r t.0 ns r' c' j v s n t.4 is read ans)
    ]

works_set : (k r c : ℕ) (ns : List Noted) (r' c' v : ℕ) (n : Noted) → Works k r c ns r' c' → n.call ≡ Call.Update k v → c' ≤ v → v ≤ r' → Works k r c (ns ++ n ∷ []) r' v
works_set k r c [] r' c' v n w set more most = inr (v, set, subst (λ i. i ≤ v) (sym w.1) more, subst (λ i. v ≤ i) (sym w.0) most, (w.0, refl))
works_set k r c (m ∷ ns) r' c' v n w set more most =
    elim w [
      | inl t ↦ inl (t.0, t.1, t.2, t.3, t.4, t.5, works_set k t.1 c ns r' c' v n t.6 set more most)
      | inr t ↦ inr (t.0, t.1, t.2, t.3, works_set k r t.0 ns r' c' v n t.4 set more most)
    ]

-- ---- what a stage has published

last_append : (d : ℕ) (xs ys : List Applied) → last_value d (xs ++ ys) ≡ last_value (last_value d xs) ys
last_append d [] ys = refl
last_append d (x ∷ xs) ys = last_append x.value xs ys

applied_push : (k : ℕ) (ns : List Noted) (n : Noted) → applied_by k (ns ++ n ∷ []) ≡ applied_by k ns ++ entry_of k n.note n.call n.answer
applied_push k [] n = append-nil (entry_of k n.note n.call n.answer)
applied_push k (m ∷ ns) n =
    let first = entry_of k m.note m.call m.answer in
    ap (λ (l : List Applied). first ++ l) (applied_push k ns n) ∙ sym (append_assoc first (applied_by k ns) (entry_of k n.note n.call n.answer))

published_push : (k : ℕ) (ns : List Noted) (n : Noted) → published_count k (ns ++ n ∷ []) ≡ last_value (published_count k ns) (entry_of k n.note n.call n.answer)
published_push k ns n = ap (last_value 0) (applied_push k ns n) ∙ last_append 0 (applied_by k ns) (entry_of k n.note n.call n.answer)

-- ---- one call more of a stage

-- a stage whose call noted nothing
pub works_on : (m : MemoryView) (x : Stage) (q : PortView) → IsWorking m x → IsOf m q → GoesOnNoting x.port q [] →
    IsWorking m (record { port = q; items = x.items; seen = x.seen; count = x.count })
works_on m x q w own n =
    let number : x.port.number ≡ q.number = sym n.number in
    record {
      own = own;
      inside = subst (λ i. i < m.about.sizes.m) number w.inside;
      from = w.from;
      none = λ some. w.none (subst (λ i. 0 < i) n.number some);
      tried = w.tried;
      works = none_more (λ ns. Works q.number w.from 0 ns x.seen w.tried) x.port q n (subst (λ i. Works i w.from 0 x.port.notes x.seen w.tried) number w.works);
      next = w.next;
      held = none_more (λ ns. published_count q.number ns ≡ x.count) x.port q n (subst (λ i. published_count i x.port.notes ≡ x.count) number w.held);
      most = w.most;
      all = λ zero. w.all (number ∙ zero);
    }

-- a stage that has read the count of the stage before
pub works_look : (m : MemoryView) (x : Stage) (q : PortView) (j v s : ℕ) → IsWorking m x → IsOf m q → x.port.number ≡ j + 1 → Reads x.port j v s q →
    IsWorking m (record { port = q; items = x.items; seen = v; count = x.count })
works_look m x q j v s w own is reads =
    let goes = reads.1.goes in
    let place : Note = Note.Saw reads.0 in
    let number : x.port.number ≡ q.number = sym goes.number in
    let noted : Noted = record { call = Call.Read j; answer = Answer.Read v s; note = Some place } in
    let before : Works q.number w.from 0 x.port.notes x.seen w.tried = subst (λ i. Works i w.from 0 x.port.notes x.seen w.tried) number w.works in
    let none : published_count x.port.number (x.port.notes ++ noted ∷ []) ≡ published_count x.port.number x.port.notes =
    published_push x.port.number x.port.notes noted ∙ ap (last_value (published_count x.port.number x.port.notes)) (read_makes_none x.port.number j (Some place) (Answer.Read v s)) in
    let held : published_count x.port.number q.notes ≡ x.count = ap (published_count x.port.number) goes.notes ∙ none ∙ w.held in
    record {
      own = own;
      inside = subst (λ i. i < m.about.sizes.m) number w.inside;
      from = w.from;
      none = λ some. w.none (subst (λ i. 0 < i) goes.number some);
      tried = w.tried;
      works = subst (λ ns. Works q.number w.from 0 ns v w.tried) (sym goes.notes)
          (works_read q.number w.from 0 x.port.notes x.seen w.tried j v s noted before (goes.number ∙ is) refl refl);
      next = w.next;
      held = subst (λ i. published_count i q.notes ≡ x.count) number held;
      most = w.most;
      all = λ zero. absurd (omega (arith, is, number, zero));
    }

-- a stage that has tried to publish the next number, and has published `count` since
pub works_tried : (m : MemoryView) (x : Stage) (q : PortView) (v count : ℕ) (n : Noted) → IsWorking m x → IsOf m q → q.number ≡ x.port.number → q.notes ≡ x.port.notes ++ n ∷ [] →
    n.call ≡ Call.Update x.port.number v → v ≡ x.count + 1 → v ≤ x.seen → count ≤ x.items → v ≤ count + 1 →
    last_value x.count (entry_of x.port.number n.note n.call n.answer) ≡ count → IsWorking m (record { port = q; items = x.items; seen = x.seen; count = count })
works_tried m x q v count n w own number notes set next most all near gives =
    let before : x.port.number ≡ q.number = sym number in
    let more : w.tried ≤ v = omega (arith, w.next, next) in
    let works : Works x.port.number w.from 0 (x.port.notes ++ n ∷ []) x.seen v = works_set x.port.number w.from 0 x.port.notes x.seen w.tried v n w.works set more most in
    let held : published_count x.port.number q.notes ≡ count = ap (published_count x.port.number) notes ∙ published_push x.port.number x.port.notes n
    ∙ ap (λ d. last_value d (entry_of x.port.number n.note n.call n.answer)) w.held ∙ gives in
    record {
      own = own;
      inside = subst (λ i. i < m.about.sizes.m) before w.inside;
      from = w.from;
      none = λ some. w.none (subst (λ i. 0 < i) number some);
      tried = v;
      works = subst (λ ns. Works q.number w.from 0 ns x.seen v) (sym notes) (subst (λ i. Works i w.from 0 (x.port.notes ++ n ∷ []) x.seen v) before works);
      next = near;
      held = subst (λ i. published_count i q.notes ≡ count) before held;
      most = all;
      all = λ zero. w.all (before ∙ zero);
    }

-- an update that was applied is what the stage has published
pub works_applied : (m : MemoryView) (x : Stage) (q : PortView) (v s : ℕ) → IsWorking m x → IsOf m q → v ≡ x.count + 1 → v ≤ x.seen → v ≤ x.items →
    Updates x.port x.port.number v (IsApplied s) q → IsWorking m (record { port = q; items = x.items; seen = x.seen; count = v })
works_applied m x q v s w own next most all updates =
    let noted : Noted = record { call = Call.Update x.port.number v; answer = Answer.Applied s; note = Some (Note.Wrote updates.0) } in
    works_tried m x q v v noted w own updates.1.goes.number updates.1.goes.notes refl next most all (omega arith) refl

-- a lost one leaves what it has published
pub works_lost : (m : MemoryView) (x : Stage) (q : PortView) (v by : ℕ) → IsWorking m x → IsOf m q → v ≡ x.count + 1 → v ≤ x.seen →
    Updates x.port x.port.number v (Lost by) q → IsWorking m (record { port = q; items = x.items; seen = x.seen; count = x.count })
works_lost m x q v by w own next most updates =
    let noted : Noted = record { call = Call.Update x.port.number v; answer = Answer.Lost by; note = Some (Note.Lost updates.0) } in
    works_tried m x q v x.count noted w own updates.1.goes.number updates.1.goes.notes refl next most w.most (omega (arith, next)) refl

-- a stage that has ended
pub is_done : (m : MemoryView) (x : Stage) (k : ℕ) (w : Worked) → IsWorking m x → Knows x.port.memory.about x.port.number x.port.seen x.port.notes → x.port.number ≡ k → w.port ≡ x.port →
    (w.end ≡ Finished → x.count ≡ x.items) → IsStageDone m x.items k w
is_done m x k w working knows number same finished =
    let all : HasWorked x.port.number x.port.notes =
    record { from = working.from; read = x.seen; count = working.tried; none = working.none; works = working.works } in
    let worked : HasWorked k x.port.notes = subst (λ i. HasWorked i x.port.notes) number all in
    let held : published_count k x.port.notes ≡ x.count = subst (λ i. published_count i x.port.notes ≡ x.count) number working.held in
    let ended : EndsAt x.items k x.port.notes w.end = record { most = omega (arith, held, working.most); finished = λ is. held ∙ finished is } in
    record {
      own = subst (IsOf m) (sym same) working.own;
      knows = subst (λ (p : PortView). Knows p.memory.about p.number p.seen p.notes) (sym same) knows;
      number = ap (λ (p : PortView). p.number) same ∙ number;
      worked = subst (λ (p : PortView). HasWorked k p.notes) (sym same) worked;
      ended = subst (λ (p : PortView). EndsAt x.items k p.notes w.end) (sym same) ended;
    }

-- the same by other names
pub done_alike : (m v : MemoryView) (all items k i : ℕ) (w : Worked) → IsStageDone m all k w → v ≡ m → items ≡ all → i ≡ k → IsStageDone v items i w
done_alike m v all items k i w done memory same number =
    subst (λ (x : MemoryView). IsStageDone x items i w) (sym memory) (subst (λ a. IsStageDone m a i w) (sym same) (subst (λ j. IsStageDone m all j w) (sym number) done))

-- ---- the notes of the monitor

pub watched_push : (stages : List ℕ) (ns : List Noted) (ss : List (List ℕ)) (n : Noted) (counts : List ℕ) (c : ℕ) (b : Option ℕ) → StagesWatched stages ns ss → n.call ≡ Call.Scan stages →
    n.answer ≡ Answer.Scanned counts c b → StagesWatched stages (ns ++ n ∷ []) (ss ++ counts ∷ [])
watched_push stages [] [] n counts c b w is ans = (c, b, is, ans, tt)
watched_push stages [] (s ∷ ss) n counts c b w is ans = absurd w
watched_push stages (m ∷ ns) [] n counts c b w is ans = absurd w
watched_push stages (m ∷ ns) (s ∷ ss) n counts c b w is ans = (w.0, w.1, w.2, w.3, watched_push stages ns ss n counts c b w.4 is ans)

pub watched_sees : (p q : PortView) (stages counts : List ℕ) (ss : List (List ℕ)) → StagesWatched stages p.notes ss → Sees p stages counts q → StagesWatched stages q.notes (ss ++ counts ∷ [])
watched_sees p q stages counts ss w s =
    let n : Noted = record { call = Call.Scan stages; answer = Answer.Scanned counts s.collects s.borrowed; note = Some (Note.Saw s.place) } in
    subst (λ ns. StagesWatched stages ns (ss ++ counts ∷ [])) (sym s.goes.notes) (watched_push stages p.notes ss n counts s.collects s.borrowed w refl refl)

-- a scan of some stages that was answered
pub sees_scan : (p q : PortView) (stages counts : List ℕ) (s : Scanned) → 0 < length stages → length counts ≡ length stages → Scans p stages counts s q → Sees p stages counts q
sees_scan p q [] counts s some each w = absurd (omega arith)
sees_scan p q (j ∷ js) counts s some each w =
    record {
      place = w.0;
      collects = s.collects;
      borrowed = s.borrowed;
      goes = goes_more p q _ w.1.goes;
      first = w.1.first;
      behind = w.1.behind;
      each = each;
    }

-- ---- meetings

-- a port's entries lie within the history in which its notes are legal
note_within : (o : Opening) (h : List Applied) (p : ℕ) (c : Call) (a : Answer) (n : Option Note) (seen : ℕ) → LegalNotes o h p seen (record { call = c; answer = a; note = n } ∷ []) →
    AllByRecursion (λ i. i < length h) (wrote n)
note_within o h p c a (Some (Note.Wrote i)) seen w =
    let within = shown_within o h p c a (Note.Wrote i) w.0.1.0 in
    (omega (arith, within), tt)
note_within o h p c a _ seen w = tt

written_within : (o : Opening) (h : List Applied) (p seen : ℕ) (ns : List Noted) → LegalNotes o h p seen ns → AllByRecursion (λ i. i < length h) (places_written ns)
written_within o h p seen [] w = tt
written_within o h p seen (n ∷ ns) w =
    all_append (λ i. i < length h) (wrote n.note) (places_written ns) (note_within o h p n.call n.answer n.note seen (w.0, tt)) (written_within o h p (seen_after seen n.note) ns w.1)

pub seen_grows : (a b c d : PortView) → Meets a b c d → length a.seen ≤ length c.seen
seen_grows a b c d w = begins_within a.seen c.seen w.first.seen

-- a stage that has ended meets the monitor
pub has_met : (m : MemoryView) (k : ℕ) (a b c d : PortView) → IsOf m d → Knows b.memory.about b.number b.seen b.notes → b.number ≡ k → HasWorked k b.notes →
    Meets a b c d → HasMetMonitor m (length c.seen) k d
has_met m k a b c d own knows number worked w =
    let n = goes_more b d [] w.second in
    let more = begins_within b.seen c.seen w.first_all in
    let before = written_within b.memory.about.opening b.seen b.number 0 b.notes knows.legal in
    let within = all_weaker (λ i. i < length b.seen) (λ i. i < length c.seen) (λ i below. omega arith) (places_written b.notes) before in
    record {
      own = own;
      number = n.number ∙ number;
      worked = none_more (HasWorked k) b d n worked;
      within = none_more (λ ns. AllByRecursion (λ i. i < length c.seen) (places_written ns)) b d n within;
    }

met_still : (m : MemoryView) (s t k : ℕ) (p : PortView) → s ≤ t → HasMetMonitor m s k p → HasMetMonitor m t k p
met_still m s t k p more w =
    record {
      own = w.own;
      number = w.number;
      worked = w.worked;
      within = all_weaker (λ i. i < s) (λ i. i < t) (λ i below. omega arith) (places_written p.notes) w.within;
    }

-- ---- lists whose elements are numbered

pub from_weaker : {A : Type 0} (P Q : ℕ → A → Type 0) → ((i : ℕ) (x : A) → P i x → Q i x) → (k : ℕ) (xs : List A) → AreFrom P k xs → AreFrom Q k xs
from_weaker P Q f k [] w = tt
from_weaker P Q f k (x ∷ xs) w = (f k x w.0, from_weaker P Q f (k + 1) xs w.1)

pub from_push : {A : Type 0} (P : ℕ → A → Type 0) (k : ℕ) (xs : List A) (x : A) → AreFrom P k xs → P (k + length xs) x → AreFrom P k (xs ++ x ∷ [])
from_push P k [] x w p = let same : k + 0 ≡ k = omega arith in (subst (λ i. P i x) same p, tt)
from_push P k (y ∷ xs) x w p =
    let same : k + suc (length xs) ≡ k + 1 + length xs = omega arith in
    (w.0, from_push P (k + 1) xs x w.1 (subst (λ i. P i x) same p))

pub from_front : {A : Type 0} (P : ℕ → A → Type 0) (k : ℕ) (xs : List A) (x : A) → AreFrom P k (xs ++ x ∷ []) → AreFrom P k xs × P (k + length xs) x
from_front P k [] x w = let same : k ≡ k + 0 = omega arith in (tt, subst (λ i. P i x) same w.0)
from_front P k (y ∷ xs) x w =
    let rest = from_front P (k + 1) xs x w.1 in
    let same : k + 1 + length xs ≡ k + suc (length xs) = omega arith in
    ((w.0, rest.0), subst (λ i. P i x) same rest.1)

pub from_all : {A : Type 0} (P : ℕ → A → Type 0) (Q : A → Type 0) → ((i : ℕ) (x : A) → P i x → Q x) → (k : ℕ) (xs : List A) → AreFrom P k xs → AllByRecursion Q xs
from_all P Q f k [] w = tt
from_all P Q f k (x ∷ xs) w = (f k x w.0, from_all P Q f (k + 1) xs w.1)

-- the element at a place
pub from_get : {A : Type 0} (P : ℕ → A → Type 0) (k i : ℕ) (xs : List A) (x : A) → AreFrom P k xs → i < length xs → x ≡ slice_index_or xs i x → P (k + i) x
from_get P k i [] x w within is = absurd (omega arith)
from_get P k zero (y ∷ xs) x w within is =
    let same : k ≡ k + 0 = omega arith in
    subst (λ n. P n x) same (subst (P k) (sym is) w.0)
from_get P k (suc i) (y ∷ xs) x w within is =
    let same : k + 1 + i ≡ k + suc i = omega arith in
    subst (λ n. P n x) same (from_get P (k + 1) i xs x w.1 (omega arith) is)

-- one stage more has met the monitor, which has seen more since
pub met_more : (m : MemoryView) (s t : ℕ) (ports : List PortView) (p : PortView) → s ≤ t → AreFrom (HasMetMonitor m s) 0 ports → HasMetMonitor m t (length ports) p →
    AreFrom (HasMetMonitor m t) 0 (ports ++ p ∷ [])
met_more m s t ports p more w new =
    let same : length ports ≡ 0 + length ports = omega arith in
    from_push (HasMetMonitor m t) 0 ports p (from_weaker (HasMetMonitor m s) (HasMetMonitor m t) (λ k q. met_still m s t k q more) 0 ports w) (subst (λ i. HasMetMonitor m t i p) same new)

-- ---- the ends of stages

-- one stage more has ended
pub ends_more : (items k : ℕ) (ports : List PortView) (ends : List StageEnd) (p : PortView) (e : StageEnd) → EndEach items k ports ends → EndsAt items (k + length ports) p.notes e →
    EndEach items k (ports ++ p ∷ []) (ends ++ e ∷ [])
ends_more items k [] [] p e w new = let same : k + 0 ≡ k = omega arith in (subst (λ i. EndsAt items i p.notes e) same new, tt)
ends_more items k [] (x ∷ xs) p e w new = absurd w
ends_more items k (q ∷ ps) [] p e w new = absurd w
ends_more items k (q ∷ ps) (x ∷ xs) p e w new =
    let same : k + suc (length ps) ≡ k + 1 + length ps = omega arith in
    (w.0, ends_more items (k + 1) ps xs p e w.1 (subst (λ i. EndsAt items i p.notes e) same new))

-- there is one for each port
pub ends_many : (items k : ℕ) (ports : List PortView) (ends : List StageEnd) → EndEach items k ports ends → length ends ≡ length ports
ends_many items k [] [] w = refl
ends_many items k [] (x ∷ xs) w = absurd w
ends_many items k (p ∷ ps) [] w = absurd w
ends_many items k (p ∷ ps) (x ∷ xs) w = ap suc (ends_many items (k + 1) ps xs w.1)
