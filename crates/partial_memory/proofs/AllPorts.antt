-- A memory that is closed with all its ports: each entry is in the notes of exactly one.
use Rattle.partial_memory.proofs.{Common.{ℕ, zero, suc, ◌≡◌, ◌≢◌, ◌+◌, ◌<◌, ◌≤◌, List, [], ◌∷◌, ◌++◌, map, Contains, refl, sym, ◌∙◌, ap, subst, Some, slice_get, inl, inr, arith, AllByRecursion, range_with_len, cases_lt, TableId, Applied, all_append, all_at, all_before, all_after, all_front, all_back, all_join, all_unmap, About, IsShuffle, newcomers, IsOf, MemoryView, PortView, new_ports, Closes, IsPortOf, LegalNotes, AllByRecursion-get, Closed}, Shuffles.{find, same_order}}
use Rattle.partial_model.specs.Outcome.{places_written}
use Rattle.partial_model.proofs.Entries.{entries_are_noted, written_at, written_by}
use Rattle.partial_memory.specs.AllPorts.{AreAllPorts, ClosedWithAllPorts, IsInOnePort, IsPortIn, OpenedPortsAreAll}

-- the ports of a new memory
new_own : (t : TableId) (about : About) (k n : ℕ) → AllByRecursion (IsOf (record { table = t; about = about })) (new_ports t (newcomers about k n))
new_own t about k zero = tt
new_own t about k (suc n) = (refl, new_own t about (k + 1) n)

new_numbers : (t : TableId) (about : About) (k n : ℕ) → range_with_len k n ≡ map (λ p. p.number) (new_ports t (newcomers about k n))
new_numbers t about k zero = refl
new_numbers t about k (suc n) = ap (λ l. k ∷ l) (new_numbers t about (k + 1) n)

pub opened_ports_are_all : OpenedPortsAreAll
opened_ports_are_all m n is =
    let new : List PortView = new_ports m.table (newcomers m.about 0 n) in
    record {
      own = new_own m.table m.about 0 n;
      numbers = subst (λ k. IsShuffle (range_with_len 0 k) (map (λ (p : PortView). p.number) new)) (sym is)
          (subst (IsShuffle (range_with_len 0 n)) (new_numbers m.table m.about 0 n) (same_order (range_with_len 0 n)));
    }

-- a number of a range, and those beside it, which are others
record InRange (k n j : ℕ) : Type 0 where
  before : List ℕ
  after : List ℕ
  is : range_with_len k n ≡ before ++ j ∷ after
  others : AllByRecursion (λ i. i ≢ j) (before ++ after)

above : (k n j : ℕ) → j < k → AllByRecursion (λ i. i ≢ j) (range_with_len k n)
above k zero j less = tt
above k (suc n) j less = (λ same. omega (arith, same, less), above (k + 1) n j (omega (arith, less)))

in_range : (k n j : ℕ) → k ≤ j → j < k + n → InRange k n j
in_range k zero j least less = absurd (omega (arith, least, less))
in_range k (suc n) j least less = elim (cases_lt k j) [
  | inl below ↦ let r = in_range (k + 1) n j (omega (arith, below)) (omega (arith, less)) in
      record { before = k ∷ r.before; after = r.after; is = ap (λ l. k ∷ l) r.is; others = (λ same. omega (arith, same, below), r.others) }
  | inr past ↦ let same : k ≡ j = omega (arith, least, past) in
      record { before = []; after = range_with_len (k + 1) n; is = ap (λ i. i ∷ range_with_len (k + 1) n) same; others = above (k + 1) n j (omega (arith, same)) }
]

-- what holds of all elements holds of them in any order
shuffled : {A : Type 0} (P : A → Type 0) (xs ys : List A) → IsShuffle xs ys → AllByRecursion P xs → AllByRecursion P ys
shuffled P [] ys s w = subst (AllByRecursion P) (sym s) tt
shuffled {A} P (x ∷ xs) ys s w =
    let before : List A = s.0 in
    let after : List A = s.1 in
    let rest : AllByRecursion P (before ++ after) = shuffled P xs (before ++ after) s.3 w.1 in
    subst (AllByRecursion P) (sym s.2) (all_join P before x after (all_front P before after rest) w.0 (all_back P before after rest))

-- a list of what a function gives, split
record Unmapped {A B : Type 0} (f : A → B) (xs : List A) (before : List B) (y : B) (after : List B) : Type 0 where
  front : List A
  at : A
  back : List A
  is : xs ≡ front ++ at ∷ back
  before_is : map f front ≡ before
  at_is : f at ≡ y
  after_is : map f back ≡ after

unmapped : {A B : Type 0} (f : A → B) (xs : List A) (before : List B) (y : B) (after : List B) → map f xs ≡ before ++ y ∷ after → Unmapped f xs before y after
unmapped f [] [] y after e = cc
unmapped f [] (b ∷ before) y after e = cc
unmapped {A} {B} f (x ∷ xs) [] y after e =
    let one : f x ≡ y = cc in
    let rest : map f xs ≡ after = cc in
    record { front = []; at = x; back = xs; is = refl; before_is = refl; at_is = one; after_is = rest }
unmapped {A} {B} f (x ∷ xs) (b ∷ before) y after e =
    let one : f x ≡ b = cc in
    let rest : map f xs ≡ before ++ y ∷ after = cc in
    let u = unmapped f xs before y after rest in
    record {
      front = x ∷ u.front;
      at = u.at;
      back = u.back;
      is = ap (λ l. x ∷ l) u.is;
      before_is = ap (λ z. z ∷ map f u.front) one ∙ ap (λ l. b ∷ l) u.before_is;
      at_is = u.at_is;
      after_is = u.after_is;
    }

module _ (m : MemoryView) (ports : List PortView) (closed : Closed) (all : AreAllPorts m ports) (c : Closes m ports closed) where
  port_in : (port : PortView) → IsOf m port → IsPortOf c.log port → IsPortIn m.about.opening c.log port
  port_in port own told =
      let legal = subst (λ (x : MemoryView). LegalNotes x.about.opening c.log port.number 0 port.notes) own told.legal in
      record { seen = told.seen; legal = legal; once = told.once; entries = entries_are_noted m.about.opening c.log port.number port.notes legal told.once }

  ports_in : (ps : List PortView) → AllByRecursion (IsOf m) ps → AllByRecursion (IsPortOf c.log) ps → AllByRecursion (IsPortIn m.about.opening c.log) ps
  ports_in [] own told = tt
  ports_in (p ∷ ps) own told = (port_in p own.0 told.0, ports_in ps own.1 told.1)

  -- a port of another number has not written the entry
  beside : (k : ℕ) (e : Applied) → slice_get c.log k ≡ Some e → (ps : List PortView) → AllByRecursion (IsPortOf c.log) ps → AllByRecursion (λ (p : PortView). p.number ≢ e.port) ps →
      AllByRecursion (λ (p : PortView). ¬ Contains (places_written p.notes) k) ps
  beside k e s [] told other = tt
  beside k e s (p ∷ ps) told other = (λ wrote. other.0 (sym (written_by c.log p.number p.notes k e told.0.once wrote s)), beside k e s ps told.1 other.1)

  in_one_port : (k : ℕ) (e : Applied) → slice_get c.log k ≡ Some e → IsInOnePort ports k e
  in_one_port k e s =
      let below : e.port < m.about.ports = AllByRecursion-get (λ (x : Applied). x.port < m.about.ports) c.log k e c.others s in
      let r = in_range 0 m.about.ports e.port (omega arith) (omega (arith, below)) in
      let f = find r.before e.port r.after (map (λ (p : PortView). p.number) ports) (subst (λ l. IsShuffle l (map (λ (p : PortView). p.number) ports)) r.is all.numbers) in
      let u = unmapped (λ (p : PortView). p.number) ports f.before e.port f.after f.is in
      let others : AllByRecursion (λ i. i ≢ e.port) (f.before ++ f.after) = shuffled (λ i. i ≢ e.port) (r.before ++ r.after) (f.before ++ f.after) f.less r.others in
      let front = all_unmap (λ i. i ≢ e.port) (λ (p : PortView). p.number) u.front
      (subst (AllByRecursion (λ i. i ≢ e.port)) (sym u.before_is) (all_front (λ i. i ≢ e.port) f.before f.after others)) in
      let back = all_unmap (λ i. i ≢ e.port) (λ (p : PortView). p.number) u.back
      (subst (AllByRecursion (λ i. i ≢ e.port)) (sym u.after_is) (all_back (λ i. i ≢ e.port) f.before f.after others)) in
      let each : AllByRecursion (IsPortOf c.log) (u.front ++ u.at ∷ u.back) = subst (AllByRecursion (IsPortOf c.log)) u.is c.each in
      let told = all_at (IsPortOf c.log) u.front u.at u.back each in
      record {
        front = u.front;
        port = u.at;
        back = u.back;
        is = u.is;
        number = u.at_is;
        wrote = written_at c.log u.at.number u.at.notes k e told.once s (sym u.at_is);
        alone = all_append (λ (p : PortView). ¬ Contains (places_written p.notes) k) u.front u.back
            (beside k e s u.front (all_before (IsPortOf c.log) u.front u.at u.back each) front) (beside k e s u.back (all_after (IsPortOf c.log) u.front u.at u.back each) back);
      }

pub closed_with_all_ports : ClosedWithAllPorts
closed_with_all_ports m ports closed all c = record {
  log = c.log;
  history = c.history;
  below = c.others;
  each = ports_in m ports closed all c ports all.own c.each;
  noted = in_one_port m ports closed all c;
  values = c.values;
  chains = c.chains;
}
