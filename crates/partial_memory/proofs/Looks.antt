-- A look at the whole history in a meeting, and the ports of two seats that come together.
use Rattle.partial_memory.proofs.{Common.{around, ℕ, zero, suc, ◌≡◌, ◌<◌, ◌++◌, List, [], ◌∷◌, map, slice_set, refl, sym, ap, subst, ◌∙◌, append_assoc, AllByRecursion, some, some-injective, some-ne-none, get_elem?, Me, keeps, Allows, Joins, Applied, all_at, all_join, all_before, all_after, port_of, with_seen, Lawful, FitsHistory, lawful_ports_fit, looks_stay_lawful, About, SeatedPort, AreByOpened, AreSeatedOf, AreOpened, IsIn, IsRuleKept, IsShuffle, parts_of, flatten, having_met, looks, set-get_or}, Shuffles.{find, put_elsewhere}, Views.reordered, Steps.{among, parts_split, entries_opened}}
use Rattle.partial_core.specs.Lawful.{LawfulAmong}

-- the state with the ports of a view that have seen all
pub record SeenAll (about : About) (words : List ℕ) (log : List Applied) (b v a : List SeatedPort) : Type 0 where
  pub all : List SeatedPort
  pub shuffle : IsShuffle (b ++ (map (having_met log) v ++ a)) all
  pub lawful : Lawful about.sizes about.opening words (parts_of all) log
  pub opened : AreOpened about.ports all
  pub each : AllByRecursion (IsIn log) v

pub see_all : (about : About) (words : List ℕ) (log : List Applied) (b v a all : List SeatedPort) → AreSeatedOf about v → IsShuffle (b ++ (v ++ a)) all →
    Lawful about.sizes about.opening words (parts_of all) log →
    AreOpened about.ports all → SeenAll about words log b v a
see_all about words log b [] a all own shuffle lawful opened = record { all = all; shuffle = shuffle; lawful = lawful; opened = opened; each = tt }
see_all about words log b (x ∷ xs) a all own shuffle lawful opened =
    let P : SeatedPort → Type 0 = λ h. port_of h.part < about.ports in
    let f = find b x (xs ++ a) all shuffle in
    let y : SeatedPort = having_met log x in
    let here : LawfulAmong about.sizes about.opening (among words f.before x f.after log) =
    subst (λ l. Lawful about.sizes about.opening words l log) (ap parts_of f.is ∙ parts_split f.before x f.after) lawful in
    let look = looks_stay_lawful about.sizes about.opening (among words f.before x f.after log) here in
    let fit = lawful_ports_fit about.sizes about.opening words (parts_of all) log lawful in
    let others = entries_opened about all log opened fit.others in
    let before : AllByRecursion P (f.before ++ x ∷ f.after) = subst (AllByRecursion P) f.is opened in
    let behind : AllByRecursion P (f.before ++ y ∷ f.after) =
    all_join P f.before y f.after (all_before P f.before x f.after before) (all_at P f.before x f.after before) (all_after P f.before x f.after before) in
    let rest = see_all about words log (b ++ y ∷ []) xs a (f.before ++ y ∷ f.after) own.1
    (subst (λ l. IsShuffle l (f.before ++ y ∷ f.after)) (sym (append_assoc b (y ∷ []) (xs ++ a))) (f.more y))
    (subst (λ l. Lawful about.sizes about.opening words l log) (sym (parts_split f.before y f.after)) look.lawful) behind in
    record {
      all = rest.all;
      shuffle = subst (λ l. IsShuffle l rest.all) (append_assoc b (y ∷ []) (map (having_met log) xs ++ a)) rest.shuffle;
      lawful = rest.lawful;
      opened = rest.opened;
      each = (
        record {
          seen = look.seen;
          fits = subst (λ (u : About). FitsHistory u.opening log (with_seen log x.part)) (sym own.0) look.fits;
          others = subst (λ (u : About). AreByOpened u log) (sym own.0) others;
        },
        rest.each,
      );
    }

-- the ports of a view move to the front
pub to_front : (b v a all : List SeatedPort) → IsShuffle (b ++ (v ++ a)) all → IsShuffle (v ++ (b ++ a)) all
to_front b [] a all s = s
to_front b (x ∷ v) a all s =
    let first : IsShuffle (x ∷ (b ++ (v ++ a))) all = put_elsewhere b x (v ++ a) [] (b ++ (v ++ a)) all refl s in
    (first.0, first.1, first.2, to_front b v a (first.0 ++ first.1) first.3)

-- a look is allowed
pub looks_on : {S : Type 0} (about : About) (slots id : ℕ) (me : Me S (List SeatedPort)) → AreSeatedOf about me.0 → Allows (IsRuleKept about) slots id me 0 (λ n. n) (looks me)
looks_on about slots id me own table kept homes at small =
    let r = around table.views id me.0 at in
    let s = see_all about table.words kept.log r.before me.0 r.behind kept.all own (subst (λ l. IsShuffle l kept.all) r.now kept.shuffle) kept.lawful kept.opened in (
      map (having_met kept.log) me.0,
      keeps,
      tt,
      record {
        log = kept.log;
        all = s.all;
        shuffle = subst (λ l. IsShuffle l s.all) (sym (r.renewed (map (having_met kept.log) me.0))) s.shuffle;
        lawful = subst (λ l. Lawful about.sizes about.opening l (parts_of s.all) kept.log) (sym (set-get_or table.words 0 0)) s.lawful;
        opened = s.opened;
      },
      record {
        log = kept.log;
        seen = refl;
        slots = refl;
        each = s.each;
        about = about;
        own = own;
        lawful = record {
          words = table.words;
          others = r.before ++ r.behind;
          all = s.all;
          shuffle = to_front r.before (map (having_met kept.log) me.0) r.behind s.all s.shuffle;
          opened = s.opened;
          lawful = s.lawful;
        };
      },
    )

-- A single port of another view comes after those of a view.
record Apart (views after : List (List SeatedPort)) (x : SeatedPort) : Type 0 where
  b : List SeatedPort
  a : List SeatedPort
  d : List SeatedPort
  e : List SeatedPort
  now : flatten views ≡ b ++ x ∷ a
  less : b ++ a ≡ d ++ e
  renewed : flatten after ≡ d ++ x ∷ e

apart : (views : List (List SeatedPort)) (id other : ℕ) (v : List SeatedPort) (x : SeatedPort) → get_elem? views id ≡ some v → (other ≡ id → ⊥) →
    get_elem? (slice_set views id (v ++ x ∷ [])) other ≡ some (x ∷ []) → Apart views (slice_set (slice_set views id (v ++ x ∷ [])) other []) x
apart [] id other v x e ne g = absurd (some-ne-none v (sym e))
apart (u ∷ us) zero zero v x e ne g = absurd (ne refl)
apart (u ∷ us) zero (suc other) v x e ne g =
    let r = around us other (x ∷ []) g in
    let is : u ≡ v = some-injective u v e in
    record {
      b = v ++ r.before;
      a = r.behind;
      d = v;
      e = r.before ++ r.behind;
      now = ap (λ w. w ++ flatten us) is ∙ ap (λ l. v ++ l) r.now ∙ sym (append_assoc v r.before (x ∷ r.behind));
      less = append_assoc v r.before r.behind;
      renewed = ap (λ l. (v ++ x ∷ []) ++ l) (r.renewed []) ∙ append_assoc v (x ∷ []) (r.before ++ r.behind);
    }
apart (u ∷ us) (suc id) zero v x e ne g =
    let r = around us id v e in
    let is : u ≡ x ∷ [] = some-injective u (x ∷ []) g in
    record {
      b = [];
      a = flatten us;
      d = r.before ++ v;
      e = r.behind;
      now = ap (λ w. w ++ flatten us) is;
      less = r.now ∙ sym (append_assoc r.before v r.behind);
      renewed = r.renewed (v ++ x ∷ []) ∙ ap (λ l. r.before ++ l) (append_assoc v (x ∷ []) r.behind) ∙ sym (append_assoc r.before v (x ∷ r.behind));
    }
apart (u ∷ us) (suc id) (suc other) v x e ne g =
    let r = apart us id other v x e (λ h. ne (ap suc h)) g in
    record {
      b = u ++ r.b;
      a = r.a;
      d = u ++ r.d;
      e = r.e;
      now = ap (λ l. u ++ l) r.now ∙ sym (append_assoc u r.b (x ∷ r.a));
      less = append_assoc u r.b r.a ∙ ap (λ l. u ++ l) r.less ∙ sym (append_assoc u r.d r.e);
      renewed = ap (λ l. u ++ l) r.renewed ∙ sym (append_assoc u r.d (x ∷ r.e));
    }

-- a seat may take in the one port of another
pub gathers : {S : Type 0} (about : About) (id : ℕ) (v : List SeatedPort) (other : ℕ) (w : List SeatedPort) (x : SeatedPort) → w ≡ x ∷ [] → Joins {S = S} (IsRuleKept about) id v other w (v ++ w) []
gathers {S} about id v other w x one = subst (λ u. Joins {S = S} (IsRuleKept about) id v other u (v ++ u) []) (sym one) (λ s kept at ne there.
    let r = apart s.views id other v x at ne there in
    let put = put_elsewhere r.b x r.a r.d r.e kept.all r.less (subst (λ l. IsShuffle l kept.all) r.now kept.shuffle) in
    reordered about s (slice_set (slice_set s.views id (v ++ x ∷ [])) other []) kept (subst (λ l. IsShuffle l kept.all) (sym r.renewed) put))
