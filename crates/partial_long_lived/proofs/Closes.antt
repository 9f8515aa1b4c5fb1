-- A memory that is closed: the ports that were handed in, and the last state.
use Rattle.partial_long_lived.proofs.{Common.{around, ℕ, ◌≡◌, ◌<◌, ◌++◌, List, [], ◌∷◌, length, sym, ap, subst, ◌∙◌, append_assoc, append-nil, arith, take, AllByRecursion, take-append_seam, nil_from_length, some, get_elem?, State, Me, TableId, Applied, IsHistory, value_of, LegalNotes, EachOnce, all_back, all_front, all_weaker, Port, one_history, epochs_fit_one_history, About, Shape, IsRuleKept, IsSeat, SeatedPort, plan_of, IsShapeOf, bare, shape_plan, AreByOpened, MemoryView, PortView, port_view, seen_in, HaveLast, ReadsLast, value_now, slice_index, Closes, IsPortOf, HasLawfulState, Noted, refl, ClosesLawfully}, Current.{have_last, value_last}, Seen.seen_begins}

-- the ports of these seats are ports of that history, as callers see them, whatever steps they have made
abbrev pub ArePortsOf : TableId → List Applied → List SeatedPort → Type 0
ArePortsOf t log v = AllByRecursion (λ x. (n : ℕ) → IsPortOf log (port_view t n x)) v

-- The ports taken in so far, of all that were handed in, are those of the seat: callers saw the first one and then these.
pub record Taken (t : TableId) (port : PortView) (all rest : List PortView) (v : List SeatedPort) : Type 0 where
  pub taken : List PortView
  pub is : all ≡ rest ++ taken
  pub each : (log : List Applied) → ArePortsOf t log v → IsPortOf log port × AllByRecursion (IsPortOf log) taken

pub taken_none : {S : Type 0} (me : Me S (List SeatedPort)) (t : TableId) (n : ℕ) (x : SeatedPort) (port : PortView) (all : List PortView) → me ≡ (x ∷ [], []) → port_view t n x ≡ port →
    Taken t port all all me.0
taken_none {S} me t n x port all is seen = record {
  taken = [];
  is = sym (append-nil all);
  each = λ log w. (subst (IsPortOf log) seen ((subst (λ (m : Me S (List SeatedPort)). ArePortsOf t log m.0) is w).0 n), tt);
}

pub taken_more : {S : Type 0} (me : Me S (List SeatedPort)) (t : TableId) (n : ℕ) (x : SeatedPort) (port p : PortView) (all rest less : List PortView) (v w : List SeatedPort) → Taken t port all rest v →
    rest ≡ less ++ p ∷ [] → me ≡ (x ∷ [], []) → port_view t n x ≡ p → w ≡ v ++ me.0 → Taken t port all less w
taken_more {S} me t n x port p all rest less v w had pop is seen join = record {
  taken = p ∷ had.taken;
  is = had.is ∙ ap (λ l. l ++ had.taken) pop ∙ append_assoc less (p ∷ []) had.taken;
  each = λ log looked.
      let both : ArePortsOf t log (v ++ me.0) = subst (ArePortsOf t log) join looked in
      let back = subst (λ (m : Me S (List SeatedPort)). ArePortsOf t log m.0) is (all_back (λ (y : SeatedPort). (k : ℕ) → IsPortOf log (port_view t k y)) v me.0 both) in
      let g = had.each log (all_front (λ (y : SeatedPort). (k : ℕ) → IsPortOf log (port_view t k y)) v me.0 both) in
      (g.0, (subst (IsPortOf log) seen (back.0 n), g.1));
}

-- the last state: one history, of which all ports of the seat are ports, and after which the words have these values
pub record Ends (about : About) (words : List ℕ) (v : List SeatedPort) : Type 0 where
  pub log : List Applied
  pub notes : ℕ → List Noted
  pub lawful : HasLawfulState about log notes
  pub history : IsHistory about.opening log
  pub others : AreByOpened about log
  pub each : (t : TableId) → ArePortsOf t log v
  pub many : length about.opening.values ≡ about.sizes.m
  pub have : HaveLast (plan_of about) words
  pub values : (j : ℕ) → j < about.sizes.m → slice_index words (value_now (plan_of about) words j) ≡ value_of about.opening log j

-- each seat is one of a port of the history
seat_of : {S : Type 0} (about : About) (s : State S (List SeatedPort)) (kept : IsRuleKept about s) (t : TableId) (x : SeatedPort) → IsSeat about s.words kept.ports kept.notes kept.beside kept.reckoned x →
    (n : ℕ) → IsPortOf (one_history kept.beside) (port_view t n x)
seat_of about s kept t x w n =
    let f = epochs_fit_one_history (plan_of about) s.words kept.ports kept.beside kept.notes kept.lawful in
    let r = kept.lawful.noted.reached x.number w.number in
    let g = seen_begins kept.beside x.port w.seen r.later r.log (r.is ∙ ap (λ (p : Port). r.later ++ r.log ∷ p.before) (sym w.port)) in
    record {
      seen = sym (take-append_seam (seen_in x.port) g.0) ∙ ap (λ (l : List Applied). take (length (seen_in x.port)) l) (sym g.1);
      legal = subst (λ (a : About). LegalNotes a.opening (one_history kept.beside) x.number 0 x.notes) (sym w.about)
          (subst (LegalNotes about.opening (one_history kept.beside) x.number 0) (sym w.noted) (f.legal x.number w.number));
      once = subst (EachOnce (one_history kept.beside) x.number) (sym w.noted) (f.once x.number w.number);
    }

pub ends : {S : Type 0} (about : About) (v : List SeatedPort) (id : ℕ) (words : List ℕ) (s : State S (List SeatedPort)) → IsRuleKept about s → get_elem? s.views id ≡ some v → s.words ≡ words →
    Ends about words v
ends about v id words s kept at same =
    let P : SeatedPort → Type 0 = IsSeat about s.words kept.ports kept.notes kept.beside kept.reckoned in
    let r = around s.views id v at in
    let here : AllByRecursion P v = all_front P v r.behind (all_back P r.before (v ++ r.behind) (subst (AllByRecursion P) r.now kept.seats)) in
    let f = epochs_fit_one_history (plan_of about) s.words kept.ports kept.beside kept.notes kept.lawful in
    subst (λ (l : List ℕ). Ends about l v) same (record {
      log = one_history kept.beside;
      notes = kept.notes;
      lawful = record { words = s.words; ports = kept.ports; beside = kept.beside; lawful = kept.lawful; history = refl };
      history = f.history;
      others = f.by_ports;
      each = λ t. all_weaker P (λ (x : SeatedPort). (n : ℕ) → IsPortOf (one_history kept.beside) (port_view t n x)) (seat_of about s kept t) v here;
      many = kept.lawful.epochs.plan.values;
      have = have_last (plan_of about) s.words kept.ports kept.beside kept.lawful.epochs;
      values = value_last (plan_of about) s.words kept.ports kept.beside kept.lawful.epochs;
    })

-- the words have the last values of the memory's shape
pub have_shape : (s : Shape) (about : About) (words : List ℕ) → IsShapeOf s about → HaveLast (plan_of about) words → HaveLast (shape_plan s bare) words
have_shape s about words is w = let t = subst (λ e. HaveLast e words) is w in record { some = t.some; arena = t.arena; components = t.components; values = t.values }

pub closes : (m : MemoryView) (s : Shape) (port : PortView) (all rest : List PortView) (v : List SeatedPort) (words values : List ℕ) → (e : Ends m.about words v) → Taken m.table port all rest v →
    length rest ≡ 0 → IsShapeOf s m.about → ReadsLast (shape_plan s bare) words values → Closes m (port ∷ all) values
closes m s port all rest v words values e had empty is read =
    let taken : all ≡ had.taken = had.is ∙ ap (λ l. l ++ had.taken) (nil_from_length rest empty) in
    let told = had.each e.log (e.each m.table) in
    let read' : ReadsLast (plan_of m.about) words values =
    subst (λ p. ReadsLast p words values) (sym is) (record { count = read.count; each = read.each }) in
    record {
      log = e.log;
      history = e.history;
      others = e.others;
      each = (told.0, subst (AllByRecursion (IsPortOf e.log)) (sym taken) told.1);
      last = record {
        count = read'.count ∙ sym e.many;
        each = λ j low. let many = e.many in let inside : j < m.about.sizes.m = omega (arith, many, low) in read'.each j inside ∙ e.values j inside;
      };
    }

-- and the state was lawful
pub closes_lawfully : (m : MemoryView) (s : Shape) (port : PortView) (all rest : List PortView) (v : List SeatedPort) (words values : List ℕ) → (e : Ends m.about words v) → Taken m.table port all rest v →
    length rest ≡ 0 → IsShapeOf s m.about → ReadsLast (shape_plan s bare) words values → ClosesLawfully m (port ∷ all) values
unfolding closes
closes_lawfully m s port all rest v words values e had empty is read = (closes m s port all rest v words values e had empty is read, e.notes, e.lawful)
