-- The answers of workers that have ended are right in the history of the memory that was closed with their ports.
use Rattle.partial_workers.proofs.{Common.{ℕ, ◌≡◌, ◌+◌, ◌<◌, ◌≤◌, ◌++◌, Option, Some, None, List, [], ◌∷◌, length, map, refl, sym, ap, subst, ◌∙◌, inl, inr, arith, AllByRecursion, length-map, Call, Answer, all_append, all_back, all_front, IsOf, MemoryView, PortView, new_ports, AreAnswered, AreEach, AreMakable, AreRight, Fills, HasNumber, HaveCome, IsWorkDone, IsNewWork, IsOpenedFor, IsUnnoted, WasClosedLawfully, WasEmpty, WasRefused, Note, Noted, LegalNotes, IsLegal, seen_after, Worked, Results}, Made.unnoted_seen, Pairs.each_length}
use Rattle.std.specs.declared.alloc.Global.{Global}
use Rattle.std.specs.declared.vec.Vec.{Vec}
use Rattle.partial_model.specs.declared.history.{Applied.Applied, Opening.Opening}
use Rattle.partial_model.specs.Outcome.{EachOnce, places_written, wrote}
use Rattle.partial_model.proofs.NotesLemmas.{note_within}
use Rattle.partial_memory.specs.{Rule.newcomers, Closing.{Closes, IsPortOf}, Lawfulness.ClosesLawfully}
use Rattle.partial_memory.specs.declared.closed.Closed.{Closed}

-- ---- calls that a port doesn't note are legal wherever they stand

refused_legal : (o : Opening) (h : List Applied) (p seen : ℕ) (n : Noted) → WasRefused (length o.values) n → IsLegal o h p seen n
refused_legal o h p seen n w =
    let is : n ≡ record { call = n.call; answer = Answer.Refused w.0; note = None } =
    ap (λ (a : Answer). record n { answer = a }) w.1 ∙ ap (λ (t : Option Note). record { call = n.call; answer = Answer.Refused w.0; note = t }) w.2 in
    subst (IsLegal o h p seen) (sym is) (w.3, tt)

empty_legal : (o : Opening) (h : List Applied) (p seen : ℕ) (n : Noted) → seen ≤ length h → WasEmpty seen n → IsLegal o h p seen n
empty_legal o h p seen n within w =
    let is : n ≡ record { call = Call.Scan []; answer = Answer.Scanned [] 0 None; note = Some (Note.Saw seen) } =
    ap (λ (c : Call). record n { call = c }) w.0 ∙ ap (λ (a : Answer). record { call = Call.Scan []; answer = a; note = n.note }) w.1 ∙
    ap (λ (t : Option Note). record { call = Call.Scan []; answer = Answer.Scanned [] 0 None; note = t }) w.2 in
    subst (IsLegal o h p seen) (sym is) (tt, (record { within = within; values = refl; collects = (refl, refl); borrowed = tt }, omega arith))

unnoted_legal : (o : Opening) (h : List Applied) (p seen : ℕ) (n : Noted) → seen ≤ length h → IsUnnoted (length o.values) seen n → IsLegal o h p seen n
unnoted_legal o h p seen n within (inl w) = refused_legal o h p seen n w
unnoted_legal o h p seen n within (inr w) = empty_legal o h p seen n within w

fills_legal : (o : Opening) (h : List Applied) (p seen : ℕ) (kept ns : List Noted) → seen ≤ length h → Fills (length o.values) seen kept ns → LegalNotes o h p seen kept → LegalNotes o h p seen ns
fills_legal o h p seen kept [] within f w = tt
fills_legal o h p seen kept (n ∷ ns) within (inl f) w =
    let same = unnoted_seen (length o.values) seen n f.0 in
    (unnoted_legal o h p seen n within f.0, fills_legal o h p (seen_after seen n.note) kept ns (subst (λ k. k ≤ length h) (sym same) within) f.1 (subst (λ k. LegalNotes o h p k kept) (sym same) w))
fills_legal o h p seen kept (n ∷ ns) within (inr f) w =
    let both : LegalNotes o h p seen (n ∷ f.0) = subst (LegalNotes o h p seen) f.1 w in
    (both.0, fills_legal o h p (seen_after seen n.note) f.0 ns (note_within o h p seen n.call n.answer n.note within both.0.1) f.2 both.1)

unnoted_writes : (m seen : ℕ) (n : Noted) → IsUnnoted m seen n → wrote n.note ≡ []
unnoted_writes m seen n (inl w) = ap wrote w.2
unnoted_writes m seen n (inr w) = ap wrote w.2

fills_written : (m seen : ℕ) (kept ns : List Noted) → Fills m seen kept ns → places_written ns ≡ places_written kept
fills_written m seen kept [] f = ap places_written (sym f)
fills_written m seen kept (n ∷ ns) (inl f) = ap (λ l. l ++ places_written ns) (unnoted_writes m seen n f.0) ∙ fills_written m (seen_after seen n.note) kept ns f.1
fills_written m seen kept (n ∷ ns) (inr f) = ap (λ l. wrote n.note ++ l) (fills_written m (seen_after seen n.note) f.0 ns f.2) ∙ ap places_written (sym f.1)

-- ---- the answers of all ports

-- what the history says of a port that has made its calls
answered_in : (m : MemoryView) (o : Opening) (log : List Applied) (port : ℕ) (calls : List Call) (w : Worked) → m.about.opening ≡ o → m.about.sizes.m ≡ length o.values →
    IsWorkDone m port calls w → IsPortOf log w.port → AreAnswered o log port calls w.answers
answered_in m o log port calls w opening sizes done told =
    let made = done.made in
    let from : w.port.memory.about.opening ≡ o = ap (λ (v : MemoryView). v.about.opening) done.own ∙ opening in
    let legal : LegalNotes o log port 0 w.port.notes = subst (λ k. LegalNotes o log k 0 w.port.notes) done.number
    (subst (λ (x : Opening). LegalNotes x log w.port.number 0 w.port.notes) from told.legal) in
    let fills : Fills (length o.values) 0 w.port.notes made.all = subst (λ k. Fills k 0 w.port.notes made.all) sizes made.fills in
    record {
      notes = made.all;
      calls = made.calls;
      answers = made.answers;
      legal = fills_legal o log port 0 w.port.notes made.all (omega arith) fills legal;
      once = subst (λ k. EachOnce log k w.port.notes) done.number told.once ∙ sym (fills_written (length o.values) 0 w.port.notes made.all fills);
    }

each_answered : (m : MemoryView) (o : Opening) (log : List Applied) (port : ℕ) (plan : List (List Call)) (done : List Worked) → m.about.opening ≡ o → m.about.sizes.m ≡ length o.values →
    AreEach (IsWorkDone m) port plan done → AllByRecursion (IsPortOf log) (map (λ (w : Worked). w.port) done) →
    AreEach (AreAnswered o log) port plan (map (λ (w : Worked). w.answers) done)
each_answered m o log port [] [] opening sizes each all = tt
each_answered m o log port [] (w ∷ done) opening sizes each all = absurd each
each_answered m o log port (calls ∷ plan) [] opening sizes each all = absurd each
each_answered m o log port (calls ∷ plan) (w ∷ done) opening sizes each all =
    (answered_in m o log port calls w opening sizes each.0 all.0, each_answered m o log (port + 1) plan done opening sizes each.1 all.1)

each_own : (m : MemoryView) (port : ℕ) (plan : List (List Call)) (done : List Worked) → AreEach (IsWorkDone m) port plan done → AllByRecursion (IsOf m) (map (λ (w : Worked). w.port) done)
each_own m port [] [] each = tt
each_own m port [] (w ∷ done) each = absurd each
each_own m port (calls ∷ plan) [] each = absurd each
each_own m port (calls ∷ plan) (w ∷ done) each = (each.0.own, each_own m (port + 1) plan done each.1)

pub come_own : (m : MemoryView) (plan : List (List Call)) (r : Results) → HaveCome m plan r → AllByRecursion (IsOf m) r.ports.items
come_own m plan r w = subst (AllByRecursion (IsOf m)) w.ports (each_own m 0 plan w.done w.each)

pub come_many : (m : MemoryView) (plan : List (List Call)) (r : Results) → HaveCome m plan r → length r.ports.items ≡ length plan
come_many m plan r w = ap length (sym w.ports) ∙ length-map w.done (λ (v : Worked). v.port) ∙ sym (each_length (IsWorkDone m) 0 plan w.done w.each)

pub last_own : (m : MemoryView) (plan : List (List Call)) (r : Results) (rest : List PortView) (last : PortView) → HaveCome m plan r → r.ports.items ≡ rest ++ last ∷ [] →
    AllByRecursion (IsOf m) rest × IsOf m last
last_own m plan r rest last w is =
    let all : AllByRecursion (IsOf m) (rest ++ last ∷ []) = subst (AllByRecursion (IsOf m)) is (come_own m plan r w) in
    let one = all_back (IsOf m) rest (last ∷ []) all in
    (all_front (IsOf m) rest (last ∷ []) all, one.0)

-- workers that have ended, and the memory that was closed with their ports
pub ran : (m : MemoryView) (plan : List (List Call)) (fresh : List PortView) (r : Results) (rest : List PortView) (last : PortView) (closed : Closed) → IsOpenedFor m plan fresh →
    HaveCome m plan r → r.ports.items ≡ rest ++ last ∷ [] → Closes m (last ∷ rest) closed → AreRight m.about.opening plan r.answers.items closed.values.items
ran m plan fresh r rest last closed opened come is w =
    let o = m.about.opening in
    let all : AllByRecursion (IsPortOf w.log) (rest ++ last ∷ []) = all_append (IsPortOf w.log) rest (last ∷ []) w.each.1 (w.each.0, tt) in
    let told : AllByRecursion (IsPortOf w.log) (map (λ (v : Worked). v.port) come.done) = subst (AllByRecursion (IsPortOf w.log)) (sym (come.ports ∙ is)) all in
    let right : AreRight o plan (map (λ (v : Worked). v.answers) come.done) closed.values.items = record {
      log = w.log;
      history = w.history;
      ports = each_answered m o w.log 0 plan come.done refl (sym opened.values) come.each told;
      others = subst (λ n. AllByRecursion (λ (e : Applied). e.port < n) w.log) opened.count w.others;
      values = w.values;
    } in
    subst (λ (l : List (Vec Answer Global)). AreRight o plan l closed.values.items) come.answers right

each_numbered : (m : MemoryView) (port : ℕ) (plan : List (List Call)) (done : List Worked) → AreEach (IsWorkDone m) port plan done → AreEach HasNumber port plan done
each_numbered m port [] [] each = tt
each_numbered m port [] (w ∷ done) each = absurd each
each_numbered m port (calls ∷ plan) [] each = absurd each
each_numbered m port (calls ∷ plan) (w ∷ done) each = (each.0.number, each_numbered m (port + 1) plan done each.1)

pub closed_lawfully : (m : MemoryView) (plan : List (List Call)) (r : Results) (rest : List PortView) (last : PortView) (closed : Closed) → HaveCome m plan r → r.ports.items ≡ rest ++ last ∷ [] →
    ClosesLawfully m (last ∷ rest) closed → WasClosedLawfully m plan r.answers.items closed
closed_lawfully m plan r rest last closed come is w =
    record {
      done = come.done;
      answers = come.answers;
      numbers = each_numbered m 0 plan come.done come.each;
      front = rest;
      last = last;
      ports = come.ports ∙ is;
      lawful = w;
    }

-- ---- the ports of a memory that was opened for calls

new_each : (m : MemoryView) (k : ℕ) (plan : List (List Call)) → AreMakable m.about.sizes.m plan → AreEach (IsNewWork m) k plan (new_ports m.table (newcomers m.about k (length plan)))
new_each m k [] w = tt
new_each m k (cs ∷ plan) w = (record { own = refl; number = refl; fresh = refl; within = w.0.1; few = w.0.0 }, new_each m (k + 1) plan w.1)

pub opened_new : (m : MemoryView) (plan : List (List Call)) (ports : List PortView) → IsOpenedFor m plan ports → AreMakable m.about.sizes.m plan → AreEach (IsNewWork m) 0 plan ports
opened_new m plan ports opened makable = subst (AreEach (IsNewWork m) 0 plan) (sym opened.ports) (new_each m 0 plan makable)
