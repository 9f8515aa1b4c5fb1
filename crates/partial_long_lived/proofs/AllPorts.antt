-- A memory that is closed with all its ports: each entry is in the notes of exactly one.
use Rattle.partial_long_lived.proofs.{Common.{ℕ, zero, suc, ◌≡◌, ◌≢◌, ◌+◌, ◌<◌, ◌≤◌, ◌==◌, ◌⊎◌, Bool, true, false, if◌then◌else◌, List, [], ◌∷◌, ◌++◌, Contains, refl, sym, ◌∙◌, ap, subst, Some, slice_get, inl, inr, arith, AllByRecursion, eqb_tells, TableId, Applied, LegalNotes, places_written, all_after, all_append, all_at, all_back, all_before, all_front, AllByRecursion-get, About, newcomers, IsOf, MemoryView, PortView, new_ports, Closes, IsPortOf}, NewPorts.new_own}
use Rattle.partial_model.proofs.Entries.{entries_are_noted, written_at, written_by}
use Rattle.partial_long_lived.specs.AllPorts.{AreAllPorts, ClosedWithAllPorts, IsInOnePort, IsPortIn, OpenedPortsAreAll, port_count}

-- a new memory has one port of each number
new_none : (t : TableId) (a : About) (q k n : ℕ) → q < k → port_count q (new_ports t (newcomers a k n)) ≡ 0
new_none t a q k zero low = refl
new_none t a q k (suc n) low =
    let rest = new_none t a q (k + 1) n (omega (arith, low)) in
    elim (eqb_tells k q) [
      | inl same ↦ let is = same.1 in absurd (omega (arith, low, is))
      | inr other ↦ let same = ap (λ (b : Bool). (if b then 1 else 0) + port_count q (new_ports t (newcomers a (k + 1) n))) other.0 in omega (arith, same, rest)
    ]

new_one : (t : TableId) (a : About) (q k n : ℕ) → k ≤ q → q < k + n → port_count q (new_ports t (newcomers a k n)) ≡ 1
new_one t a q k zero from low = absurd (omega (arith, from, low))
new_one t a q k (suc n) from low = elim (eqb_tells k q) [
  | inl same ↦
      let is = same.1 in
      let rest = new_none t a q (k + 1) n (omega (arith, is)) in
      ap (λ (b : Bool). (if b then 1 else 0) + port_count q (new_ports t (newcomers a (k + 1) n))) same.0 ∙ ap (λ m. 1 + m) rest
  | inr other ↦
      let ne = other.1 in
      let same = ap (λ (b : Bool). (if b then 1 else 0) + port_count q (new_ports t (newcomers a (k + 1) n))) other.0 in
      let rest = new_one t a q (k + 1) n (omega (arith, from, ne)) (omega (arith, low)) in
      omega (arith, same, rest)
]

pub opened_ports_are_all : OpenedPortsAreAll
opened_ports_are_all m n is = record { own = new_own m.table m.about 0 n; one = λ k low. new_one m.table m.about k 0 n (omega arith) (omega (arith, low, is)) }

-- the one port of a number, and the others
record HasOne (k : ℕ) (ports : List PortView) : Type 0 where
  front : List PortView
  port : PortView
  back : List PortView
  is : ports ≡ front ++ port ∷ back
  number : port.number ≡ k
  others : AllByRecursion (λ (p : PortView). p.number ≢ k) (front ++ back)

none_left : (k : ℕ) (ps : List PortView) → port_count k ps ≡ 0 → AllByRecursion (λ (p : PortView). p.number ≢ k) ps
none_left k [] none = tt
none_left k (p ∷ ps) none = by (eqb_tells p.number k) (none_left k ps)
  where
    by : (((p.number == k) ≡ true) × (p.number ≡ k)) ⊎ (((p.number == k) ≡ false) × (p.number ≢ k)) → (port_count k ps ≡ 0 → AllByRecursion (λ (q : PortView). q.number ≢ k) ps) →
        AllByRecursion (λ (q : PortView). q.number ≢ k) (p ∷ ps)
    by (inl same) rest = let one = ap (λ (b : Bool). (if b then 1 else 0) + port_count k ps) same.0 in absurd (omega (arith, one, none))
    by (inr other) rest = let no_more = ap (λ (b : Bool). (if b then 1 else 0) + port_count k ps) other.0 in (other.1, rest (omega (arith, no_more, none)))

find_one : (k : ℕ) (ps : List PortView) → port_count k ps ≡ 1 → HasOne k ps
find_one k [] one = absurd (omega (arith, one))
find_one k (p ∷ ps) one = by (eqb_tells p.number k) (find_one k ps)
  where
    by : (((p.number == k) ≡ true) × (p.number ≡ k)) ⊎ (((p.number == k) ≡ false) × (p.number ≢ k)) → (port_count k ps ≡ 1 → HasOne k ps) → HasOne k (p ∷ ps)
    by (inl same) rest =
        let more = ap (λ (b : Bool). (if b then 1 else 0) + port_count k ps) same.0 in
        record { front = []; port = p; back = ps; is = refl; number = same.1; others = none_left k ps (omega (arith, more, one)) }
    by (inr other) rest =
        let same = ap (λ (b : Bool). (if b then 1 else 0) + port_count k ps) other.0 in
        let r = rest (omega (arith, same, one)) in
        record { front = p ∷ r.front; port = r.port; back = r.back; is = ap (λ (l : List PortView). p ∷ l) r.is; number = r.number; others = (other.1, r.others) }

module _ (m : MemoryView) (ports : List PortView) (values : List ℕ) (all : AreAllPorts m ports) (c : Closes m ports values) where
  port_in : (port : PortView) → IsOf m port → IsPortOf c.log port → IsPortIn m.about.opening c.log port
  port_in port own told =
      let legal = subst (λ (x : MemoryView). LegalNotes x.about.opening c.log port.number 0 port.notes) own told.legal in
      record { seen = told.seen; legal = legal; once = told.once; entries = entries_are_noted m.about.opening c.log port.number port.notes legal told.once }

  ports_in : (ps : List PortView) → AllByRecursion (IsOf m) ps → AllByRecursion (IsPortOf c.log) ps → AllByRecursion (IsPortIn m.about.opening c.log) ps
  ports_in [] own told = tt
  ports_in (p ∷ ps) own told = (port_in p own.0 told.0, ports_in ps own.1 told.1)

  -- a port of another number has not written the entry
  beside : (k : ℕ) (e : Applied) → slice_get c.log k ≡ Some e → (ps : List PortView) → AllByRecursion (IsPortOf c.log) ps → AllByRecursion (λ (p : PortView). p.number ≢ e.port) ps →
      AllByRecursion (λ (p : PortView). ¬ Contains (places_written p.notes) k) ps
  beside k e s [] told other = tt
  beside k e s (p ∷ ps) told other = (λ wrote. other.0 (sym (written_by c.log p.number p.notes k e told.0.once wrote s)), beside k e s ps told.1 other.1)

  in_one_port : (k : ℕ) (e : Applied) → slice_get c.log k ≡ Some e → IsInOnePort ports k e
  in_one_port k e s =
      let f = find_one e.port ports (all.one e.port (AllByRecursion-get (λ (x : Applied). x.port < m.about.ports) c.log k e c.others s)) in
      let each : AllByRecursion (IsPortOf c.log) (f.front ++ f.port ∷ f.back) = subst (AllByRecursion (IsPortOf c.log)) f.is c.each in
      let told = all_at (IsPortOf c.log) f.front f.port f.back each in
      let front = all_front (λ (p : PortView). p.number ≢ e.port) f.front f.back f.others in
      let back = all_back (λ (p : PortView). p.number ≢ e.port) f.front f.back f.others in
      record {
        front = f.front;
        port = f.port;
        back = f.back;
        is = f.is;
        number = f.number;
        wrote = written_at c.log f.port.number f.port.notes k e told.once s (sym f.number);
        alone = all_append (λ (p : PortView). ¬ Contains (places_written p.notes) k) f.front f.back
            (beside k e s f.front (all_before (IsPortOf c.log) f.front f.port f.back each) front) (beside k e s f.back (all_after (IsPortOf c.log) f.front f.port f.back each) back);
      }

pub closed_with_all_ports : ClosedWithAllPorts
closed_with_all_ports m ports values all c = record {
  log = c.log;
  history = c.history;
  below = c.others;
  each = ports_in m ports values all c ports all.own c.each;
  noted = in_one_port m ports values all c;
  last = c.last;
}
