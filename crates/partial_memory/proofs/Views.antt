-- A port gets a seat of its own.
use Rattle.partial_memory.proofs.{Common.{◌≡◌, ℕ, List, [], ◌∷◌, ◌++◌, slice_set, sym, subst, append-nil, State, Splits, About, SeatedPort, flatten, IsRuleKept, IsShuffle, further_ports, first_port, around, dealt_first, dealt_none}, Shuffles.put_elsewhere}

-- a state with the parts in another order
pub reordered : {S : Type 0} (about : About) (s : State S (List SeatedPort)) (views : List (List SeatedPort)) → (kept : IsRuleKept about s) → IsShuffle (flatten views) kept.all →
    IsRuleKept about (record { words = s.words; homes = s.homes; views = views })
reordered about s views kept shuffle = record { log = kept.log; all = kept.all; shuffle = shuffle; lawful = kept.lawful; opened = kept.opened }

-- the first part may have a seat of its own
pub deals : {S : Type 0} (about : About) (id : ℕ) (v : List SeatedPort) → Splits {S = S} (IsRuleKept about) id v (further_ports v) (first_port v)
deals about id [] s kept at =
    let r = around s.views id [] at in
    let same = dealt_none s.views id r in
    reordered about s (slice_set s.views id [] ++ [] ∷ []) kept (subst (λ l. IsShuffle l kept.all) (sym same) kept.shuffle)
deals about id (x ∷ xs) s kept at =
    let r = around s.views id (x ∷ xs) at in
    let less : r.before ++ (xs ++ r.behind) ≡ (r.before ++ (xs ++ r.behind)) ++ [] = sym (append-nil (r.before ++ (xs ++ r.behind))) in
    let then = dealt_first s.views id x xs r in
    let now = subst (λ l. IsShuffle l kept.all) r.now kept.shuffle in
    let put = put_elsewhere r.before x (xs ++ r.behind) (r.before ++ (xs ++ r.behind)) [] kept.all less now in
    reordered about s (slice_set s.views id xs ++ (x ∷ []) ∷ []) kept (subst (λ l. IsShuffle l kept.all) (sym then) put)
