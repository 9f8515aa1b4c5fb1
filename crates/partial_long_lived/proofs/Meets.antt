-- A port gets a seat of its own, and seats are gathered.
use Rattle.partial_long_lived.proofs.{Common.{ℕ, zero, suc, ◌≡◌, ◌≢◌, ◌++◌, List, [], ◌∷◌, slice_set, refl, sym, ap, subst, ◌∙◌, arith, AllByRecursion, get_elem?, Joins, Splits, State, all_after, all_append, all_at, all_back, all_before, all_front, About, IsRuleKept, IsSeat, SeatedPort, first_port, flatten, further_ports, seats_of, around, dealt_first, dealt_none}, Views.seats_both}

-- the rule holds with the same seats in other views
regrouped : {S : Type 0} (about : About) (s : State S (List SeatedPort)) (views : List (List SeatedPort)) (kept : IsRuleKept about s) →
    AllByRecursion (IsSeat about s.words kept.ports kept.notes kept.beside kept.reckoned) (flatten views) → ((k : ℕ) → seats_of k (flatten views) ≡ seats_of k (flatten s.views)) →
    IsRuleKept about (record { words = s.words; homes = s.homes; views = views })
regrouped about s views kept seats same = record {
  ports = kept.ports;
  notes = kept.notes;
  beside = kept.beside;
  reckoned = kept.reckoned;
  lawful = kept.lawful;
  reckons = kept.reckons;
  seats = seats;
  once = λ k. let once = kept.once k in let is = same k in omega (arith, once, is);
}

-- the first port of a view may have a seat of its own
pub deals : {S : Type 0} (about : About) (id : ℕ) (v : List SeatedPort) → Splits {S = S} (IsRuleKept about) id v (further_ports v) (first_port v)
deals about id [] s kept at =
    let r = around s.views id [] at in
    let same = dealt_none s.views id r in
    regrouped about s (slice_set s.views id [] ++ [] ∷ []) kept (subst (AllByRecursion (IsSeat about s.words kept.ports kept.notes kept.beside kept.reckoned)) (sym same) kept.seats) (λ k. ap (seats_of k) same)
deals about id (x ∷ xs) s kept at =
    let P : SeatedPort → Type 0 = IsSeat about s.words kept.ports kept.notes kept.beside kept.reckoned in
    let r = around s.views id (x ∷ xs) at in
    let then = dealt_first s.views id x xs r in
    let all : AllByRecursion P (r.before ++ x ∷ (xs ++ r.behind)) = subst (AllByRecursion P) r.now kept.seats in
    regrouped about s (slice_set s.views id xs ++ (x ∷ []) ∷ []) kept
    (subst (AllByRecursion P) (sym then) (all_append P (r.before ++ (xs ++ r.behind)) (x ∷ [])
    (all_append P r.before (xs ++ r.behind) (all_before P r.before x (xs ++ r.behind) all) (all_after P r.before x (xs ++ r.behind) all)) (all_at P r.before x (xs ++ r.behind) all, tt)))
    (λ k.
    let now_is = ap (seats_of k) r.now in
    let then_is = ap (seats_of k) then in
    let front = seats_both k r.before (x ∷ (xs ++ r.behind)) in
    let rest = seats_both k r.before (xs ++ r.behind) in
    let last = seats_both k (r.before ++ (xs ++ r.behind)) (x ∷ []) in
    omega (arith, now_is, then_is, front, rest, last))

-- another view is as it was
elsewhere : (views : List (List SeatedPort)) (id other : ℕ) (u : List SeatedPort) → other ≢ id → get_elem? (slice_set views id u) other ≡ get_elem? views other
elsewhere [] id other u ne = refl
elsewhere (v ∷ views) zero zero u ne = absurd (ne refl)
elsewhere (v ∷ views) zero (suc other) u ne = refl
elsewhere (v ∷ views) (suc id) zero u ne = refl
elsewhere (v ∷ views) (suc id) (suc other) u ne = elsewhere views id other u (λ same. ne (ap suc same))

-- a seat may take in the ports of another
pub gathers : {S : Type 0} (about : About) (id : ℕ) (v : List SeatedPort) (other : ℕ) (w : List SeatedPort) → Joins {S = S} (IsRuleKept about) id v other w (v ++ w) []
gathers about id v other w s kept at ne there =
    let P : SeatedPort → Type 0 = IsSeat about s.words kept.ports kept.notes kept.beside kept.reckoned in
    let r = around s.views id v at in
    let q = around (slice_set s.views id (v ++ w)) other w there in
    let o = around s.views other w (sym (elsewhere s.views id other (v ++ w) ne) ∙ there) in
    let own : AllByRecursion P (r.before ++ (v ++ r.behind)) = subst (AllByRecursion P) r.now kept.seats in
    let theirs : AllByRecursion P w = all_front P w o.behind (all_back P o.before (w ++ o.behind) (subst (AllByRecursion P) o.now kept.seats)) in
    let behind : AllByRecursion P (v ++ r.behind) = all_back P r.before (v ++ r.behind) own in
    let both : AllByRecursion P (r.before ++ ((v ++ w) ++ r.behind)) = all_append P r.before ((v ++ w) ++ r.behind) (all_front P r.before (v ++ r.behind) own)
    (all_append P (v ++ w) r.behind (all_append P v w (all_front P v r.behind behind) theirs) (all_back P v r.behind behind)) in
    let with_both : r.before ++ ((v ++ w) ++ r.behind) ≡ q.before ++ (w ++ q.behind) = sym (r.renewed (v ++ w)) ∙ q.now in
    let all : AllByRecursion P (q.before ++ (w ++ q.behind)) = subst (AllByRecursion P) with_both both in
    regrouped about s (slice_set (slice_set s.views id (v ++ w)) other []) kept
    (subst (AllByRecursion P) (sym (q.renewed []))
    (all_append P q.before q.behind (all_front P q.before (w ++ q.behind) all) (all_back P w q.behind (all_back P q.before (w ++ q.behind) all))))
    (λ k.
    let now_is = ap (seats_of k) r.now in
    let then_is = ap (seats_of k) (q.renewed []) in
    let same = ap (seats_of k) with_both in
    let a = seats_both k r.before (v ++ r.behind) in
    let b = seats_both k v r.behind in
    let c = seats_both k r.before ((v ++ w) ++ r.behind) in
    let d = seats_both k (v ++ w) r.behind in
    let f = seats_both k v w in
    let g = seats_both k q.before (w ++ q.behind) in
    let h = seats_both k w q.behind in
    let i = seats_both k q.before q.behind in
    omega (arith, now_is, then_is, same, a, b, c, d, f, g, h, i))
