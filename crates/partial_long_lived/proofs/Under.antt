-- The steps of a call of a port's machine, one after the other.
use Rattle.partial_long_lived.proofs.{Common.{ℕ, ◌≡◌, ◌≢◌, ◌+◌, ◌<◌, ◌≤◌, ◌==◌, ◌&&◌, ◌||◌, ◌++◌, Bool, true, false, if◌then◌else◌, Option, Some, None, List, [], ◌∷◌, length, map, take, refl, sym, ap, subst, ◌∙◌, inl, inr, arith, append-nil, nat_lt, eqb_tells, append_cancel_left, Applied, Opening, stamp_of, Noted, seen_by, Step, Load, Store, Exchange, Add, Layout, IsLayout, pool_counter, slot_counter, total, word_of, Reply, Change, Stage, Idle, ReadBegun, LoadingValue, UpdateBegun, GettingSet, Viewing, ClaimingRecord, StoringRecord, Exchanging, ScanBegun, StoringAnnouncement, Joining, Scanning, Leaving, Finished, some_same, CoreState, advance, advance_at, record_size, reply_of, step_at, step_of, call_of, is_begun, IsSound, Part, first_at, AreNotesOf, StepShows, begun_with, moved_part, take_within, first_steps_make_calls, further_steps_make_calls, history_of, opened_after, Control, MayClaim, public_noted, About, Began, SeatedPort, plan_of, SeatGoes, opening_of, SeatMakes, MayMake, over_by, slot_limit, CallMade, MayBegin, awaits, before_claim, has_claimed, neither, record_claim, IsAfterAnswer, refuses_pool, refuses_slots, due_is_unreplied, due_words_are_there, KeptAnswer, Call, record_cases, Block, claimed_end, claim_size, into_spare, into_claim, record_step}, Claims.{ClaimsSlot, claimed_from, pool_claims, slot_claims, unawaited, unclaimed_before, claims_on, spare_stays}, Coming.goes_on}
use Rattle.std.proofs.lemmas.Bool.{eq-eqb, ne_eqb, le-ltb, ltb-true, ltb-false}
use Rattle.partial_model.specs.declared.call.Refused.{Refused}
use Rattle.partial_core.specs.Calls.{Made}
use Rattle.partial_core.proofs.{Parts.seen_within as no_longer, WholeCalls.first_push}

-- what adds to neither counter is no claim
not_over : (a : About) (w k x : ℕ) → w ≢ pool_counter a.sizes → (w ≡ slot_counter a.sizes → ⊥) → over_by (plan_of a) (Add w k) x ≡ false
not_over a w k x pool slot =
    ap (λ (b : Bool). (b && nat_lt a.limit (x + k)) || ((w == slot_counter a.sizes) && nat_lt (slot_limit (plan_of a)) (x + k))) (ne_eqb w (pool_counter a.sizes) pool)
    ∙ ap (λ (b : Bool). b && nat_lt (slot_limit (plan_of a)) (x + k)) (ne_eqb w (slot_counter a.sizes) slot)

-- where a machine has yet to claim, its last step was no claim past the limit
spare_step : (a : About) (c : CoreState) (s : Step) (x : ℕ) → IsSound c → c.sizes ≡ a.sizes → step_of c ≡ Some s → before_claim (advance c x).stage ≡ true → over_by (plan_of a) s x ≡ false
spare_step a c (Load w) x sound sizes due yet = refl
spare_step a c (Store w v) x sound sizes due yet = refl
spare_step a c (Exchange w old new) x sound sizes due yet = refl
spare_step a c (Add w k) x sound sizes due yet = elim (eqb_tells w (pool_counter a.sizes)) [
  | inl same ↦
      let claims = pool_claims c a.sizes sound sizes w k due same.1 in
      let bad : true ≡ false = sym yet ∙ claims.after_claim x in
      cc
  | inr other ↦ not_over a w k x other.1 (λ is.
      let claims = slot_claims c a.sizes sound sizes w k due is in
      let bad : true ≡ false = sym (unclaimed_before c x yet) ∙ claims.behind in
      cc)
]

-- so a port that has yet to claim may claim
pub may_claim : (a : About) (c : CoreState) (s : Step) (over : Bool) → IsSound c → c.sizes ≡ a.sizes → step_of c ≡ Some s → (before_claim c.stage ≡ true → over ≡ false) → MayClaim (plan_of a) over s
may_claim a c (Load w) over sound sizes due spare = tt
may_claim a c (Store w v) over sound sizes due spare = tt
may_claim a c (Exchange w old new) over sound sizes due spare = tt
may_claim a c (Add w k) over sound sizes due spare = λ is. spare (pool_claims c a.sizes sound sizes w k due is).now

-- an update that has claimed its record makes no other claim
no_over : (a : About) (c : CoreState) (s : Step) (x : ℕ) (t : Stage) (at : ℕ) → record_claim t ≡ Some at → step_at c t ≡ Some s → over_by (plan_of a) s x ≡ false
no_over a c s x Idle at is due = cc
no_over a c s x (ReadBegun j) at is due = cc
no_over a c s x (LoadingValue stamp) at is due = cc
no_over a c s x (UpdateBegun d) at is due = cc
no_over a c s x (GettingSet d old) at is due = cc
no_over a c s x (Viewing d old) at is due = cc
no_over a c s x (ClaimingRecord d old) at is due = cc
no_over a c s x (StoringRecord d old at' k) at is due = subst (λ (t : Step). over_by (plan_of a) t x ≡ false) (some_same due) refl
no_over a c s x (Exchanging d old at') at is due = subst (λ (t : Step). over_by (plan_of a) t x ≡ false) (some_same due) refl
no_over a c s x ScanBegun at is due = cc
no_over a c s x (StoringAnnouncement at' k) at is due = cc
no_over a c s x Joining at is due = cc
no_over a c s x Scanning at is due = cc
no_over a c s x Leaving at is due = cc
no_over a c s x (Finished r) at is due = cc

-- a step after the claim of the pool, which claims no slot, is no claim
over_stays : (a : About) (c : CoreState) (s : Step) (x : ℕ) → IsSound c → c.sizes ≡ a.sizes → step_of c ≡ Some s → before_claim c.stage ≡ false →
    (ClaimsSlot c → ⊥) → over_by (plan_of a) s x ≡ false
over_stays a c (Load w) x sound sizes due behind none = refl
over_stays a c (Store w v) x sound sizes due behind none = refl
over_stays a c (Exchange w old new) x sound sizes due behind none = refl
over_stays a c (Add w k) x sound sizes due behind none = not_over a w k x
    (λ is. let claims = pool_claims c a.sizes sound sizes w k due is in let bad : true ≡ false = sym claims.now ∙ behind in cc)
    (λ is. none (slot_claims c a.sizes sound sizes w k due is))

-- what has claimed has neither claim to make
pub neither_is : (b d : Bool) → neither b d ≡ true → (b ≡ false) × (d ≡ false)
neither_is false false h = (refl, refl)
neither_is true d h = absurd cc
neither_is false true h = absurd cc

pub neither_so : (b d : Bool) → b ≡ false → d ≡ false → neither b d ≡ true
neither_so false false p q = refl
neither_so true d p q = absurd cc
neither_so false true p q = absurd cc

-- what awaits a slot then awaited it before
awaited : (c : CoreState) (x : ℕ) → before_claim c.stage ≡ false → awaits (advance c x) ≡ true → awaits c ≡ true
awaited c x behind on = by (awaits c) refl
  where
    by : (b : Bool) → awaits c ≡ b → awaits c ≡ true
    by true is = is
    by false is = let bad : true ≡ false = sym on ∙ unawaited c x behind is in absurd cc

-- what stays unclaimed was unclaimed
past_stays : (c : CoreState) (x : ℕ) → before_claim c.stage ≡ false → before_claim (advance c x).stage ≡ false
past_stays c x behind = by (before_claim (advance c x).stage) refl
  where
    by : (b : Bool) → before_claim (advance c x).stage ≡ b → before_claim (advance c x).stage ≡ false
    by true is = let bad : true ≡ false = sym (unclaimed_before c x is) ∙ behind in cc
    by false is = is

-- a machine that isn't refused doesn't become spent
stays_unmarked : (c : CoreState) (x : ℕ) → IsAfterAnswer c x → ((cause : Refused) → reply_of (advance c x) ≢ Some (Reply.Refused cause)) → (c.pool_spent ≡ false) × (c.slots_spent ≡ false) →
    ((advance c x).pool_spent ≡ false) × ((advance c x).slots_spent ≡ false)
stays_unmarked c x b none was = (
  b.pool ∙ ap (λ t. refuses_pool (reply_of (advance c x)) || t) was.0 ∙ ap (λ t. t || false) (no_pool (reply_of (advance c x)) none),
  b.slots ∙ ap (λ t. refuses_slots (reply_of (advance c x)) || t) was.1 ∙ ap (λ t. t || false) (no_slots (reply_of (advance c x)) none),
)
  where
    no_pool : (r : Option Reply) → ((cause : Refused) → r ≢ Some (Reply.Refused cause)) → refuses_pool r ≡ false
    no_pool None none = refl
    no_pool (Some (Reply.Refused cause)) none = absurd (none cause refl)
    no_pool (Some (Reply.Applied s)) none = refl
    no_pool (Some (Reply.Lost s)) none = refl
    no_pool (Some (Reply.Changed s)) none = refl
    no_pool (Some (Reply.Read v s)) none = refl
    no_pool (Some (Reply.Scanned n b)) none = refl

    no_slots : (r : Option Reply) → ((cause : Refused) → r ≢ Some (Reply.Refused cause)) → refuses_slots r ≡ false
    no_slots None none = refl
    no_slots (Some (Reply.Refused cause)) none = absurd (none cause refl)
    no_slots (Some (Reply.Applied s)) none = refl
    no_slots (Some (Reply.Lost s)) none = refl
    no_slots (Some (Reply.Changed s)) none = refl
    no_slots (Some (Reply.Read v s)) none = refl
    no_slots (Some (Reply.Scanned n b)) none = refl

-- a call that has only begun has claimed nothing
begun_unclaimed : (t : Stage) (at : ℕ) → is_begun t ≡ true → record_claim t ≡ Some at → ⊥
begun_unclaimed Idle at begun is = cc
begun_unclaimed (ReadBegun j) at begun is = cc
begun_unclaimed (LoadingValue stamp) at begun is = cc
begun_unclaimed (UpdateBegun d) at begun is = cc
begun_unclaimed (GettingSet d old) at begun is = cc
begun_unclaimed (Viewing d old) at begun is = cc
begun_unclaimed (ClaimingRecord d old) at begun is = cc
begun_unclaimed (StoringRecord d old at' k) at begun is = cc
begun_unclaimed (Exchanging d old at') at begun is = cc
begun_unclaimed ScanBegun at begun is = cc
begun_unclaimed (StoringAnnouncement at' k) at begun is = cc
begun_unclaimed Joining at begun is = cc
begun_unclaimed Scanning at begun is = cc
begun_unclaimed Leaving at begun is = cc
begun_unclaimed (Finished r) at begun is = cc

or_none : (b : Bool) → (b || false) ≡ b
or_none true = refl
or_none false = refl

neither_of : (b d : Bool) → (b || d) ≡ false → (b ≡ false) × (d ≡ false)
neither_of false d h = (refl, h)
neither_of true d h = absurd cc

-- what a claim of pool words says of being over
module _ (a : About) (c : CoreState) (x n : ℕ) (sizes : c.sizes ≡ a.sizes) where
  pub over_claim : over_by (plan_of a) (Add (pool_counter c.sizes) n) x ≡ nat_lt a.limit (x + n)
  over_claim =
      let apart_from : (pool_counter c.sizes == slot_counter a.sizes) ≡ false =
      ap (λ (z : Layout). pool_counter z == slot_counter a.sizes) sizes ∙ ne_eqb (pool_counter a.sizes) (slot_counter a.sizes) (λ bad. omega (arith, bad)) in
      let counter : (pool_counter c.sizes == pool_counter a.sizes) ≡ true = ap (λ (z : Layout). pool_counter z == pool_counter a.sizes) sizes ∙ eq-eqb (pool_counter a.sizes) (pool_counter a.sizes) refl in
      ap (λ t. (t && nat_lt a.limit (x + n)) || ((pool_counter c.sizes == slot_counter a.sizes) && nat_lt (slot_limit (plan_of a)) (x + n))) counter
      ∙ ap (λ t. nat_lt a.limit (x + n) || (t && nat_lt (slot_limit (plan_of a)) (x + n))) apart_from ∙ or_none (nat_lt a.limit (x + n))

-- where a port isn't over, what it has claimed for its records ends no later than the limit
kept_step : (a : About) (c : CoreState) (s : Step) (x : ℕ) (over : Bool) → c.sizes ≡ a.sizes → step_of c ≡ Some s → (over ≡ false → claimed_end c ≤ a.limit) →
    (over || over_by (plan_of a) s x) ≡ false → claimed_end (advance c x) ≤ a.limit
kept_step a c s x over sizes due was none =
    let both = neither_of over (over_by (plan_of a) s x) none in
    elim (claims_on c x) [
      | inl same ↦ let low = was both.0 in omega (arith, same, low)
      | inr claims ↦
          let n = claims.0 in
          let step : Add (pool_counter c.sizes) n ≡ s = some_same (sym claims.1 ∙ due) in
          let fits : nat_lt a.limit (x + n) ≡ false = sym (over_claim a c x n sizes) ∙ ap (λ (t : Step). over_by (plan_of a) t x) step ∙ both.1 in
          let low = ltb-false a.limit (x + n) fits in
          let end = claims.2 in
          omega (arith, low, end)
    ]

-- a machine whose record has words at that place is of a port that is over exactly where those that it has claimed end past the limit
abbrev ClaimEnds : About → ℕ → Bool → CoreState → Type 0
ClaimEnds a at over q = record_claim q.stage ≡ Some at → over ≡ nat_lt a.limit (claimed_end q)

-- it is so after each step
claim_step : (a : About) (c : CoreState) (s : Step) (x : ℕ) (over : Bool) → c.sizes ≡ a.sizes → step_of c ≡ Some s → (before_claim c.stage ≡ true → over ≡ false) → (over ≡ false → claimed_end c ≤ a.limit) →
    ((at : ℕ) → record_claim c.stage ≡ Some at → over ≡ nat_lt a.limit (claimed_end c)) → (at : ℕ) → record_claim (advance c x).stage ≡ Some at →
    (over || over_by (plan_of a) s x) ≡ nat_lt a.limit (claimed_end (advance c x))
claim_step a c s x over sizes due spare kept was at is = elim (claimed_from c x at is) [
  | inl new ↦ subst (λ (t : Stage). ClaimEnds a at (over || over_by (plan_of a) s x) (advance_at c t x)) (sym new.2) (placed new.0 new.1 new.2) is
  | inr before ↦
      let end : claimed_end (advance c x) ≡ claimed_end c = ap (λ (b : Block). b.at + b.size) (spare_stays c x c.stage (λ d old same. unlike d old c.stage same before)) in
      ap (λ t. over || t) (no_over a c s x c.stage at before due) ∙ or_none over ∙ was at before ∙ ap (nat_lt a.limit) (sym end)
]
  where
    unlike : (d : Change) (old : ℕ) (t : Stage) → t ≡ ClaimingRecord d old → record_claim t ≡ Some at → ⊥
    unlike d old t same before = let bad : None ≡ Some at = sym (ap record_claim same) ∙ before in cc

    placed : (d : Change) (old : ℕ) → c.stage ≡ ClaimingRecord d old → ClaimEnds a at (over || over_by (plan_of a) s x) (advance_at c (ClaimingRecord d old) x)
    placed d old stage =
        let free : over ≡ false = spare (ap before_claim stage) in
        let due_here : Some (record_step c old) ≡ Some s = sym (ap (step_at c) stage) ∙ due in
        let by : Bool → Option Step = λ b. Some (if b then Store c.spare.at old else Add (pool_counter c.sizes) (claim_size c)) in
        record_cases c d old x (ClaimEnds a at (over || over_by (plan_of a) s x))
        (λ some there.
        let step : Store c.spare.at old ≡ s = some_same (sym (ap by some) ∙ due_here) in
        let room = ltb-true (record_size c) (c.spare.size + 1) some in
        let low = kept free in
        ap (λ t. t || over_by (plan_of a) s x) free ∙ ap (λ (t : Step). over_by (plan_of a) t x) (sym step) ∙ sym (le-ltb a.limit (claimed_end (into_spare c d old)) (omega (arith, room, low))))
        (λ none fits there.
        let step : Add (pool_counter c.sizes) (claim_size c) ≡ s = some_same (sym (ap by none) ∙ due_here) in
        let end : x + claim_size c ≡ claimed_end (into_claim c d old x) = omega arith in
        ap (λ t. t || over_by (plan_of a) s x) free ∙ ap (λ (t : Step). over_by (plan_of a) t x) (sym step) ∙ over_claim a c x (claim_size c) sizes ∙ ap (nat_lt a.limit) end)
        (λ none past there. let bad : None ≡ Some at = there in cc)

-- the first step of a call is allowed
pub first_may : (b : CoreState) (x : SeatedPort) → MayBegin b x → (s : Step) → step_of b ≡ Some s → MayMake x b s
first_may b x begins s due = record {
  stands = begins.stands;
  machine = inl begins.begun;
  due = due;
  claim = may_claim x.about b s x.port.over begins.sound begins.sizes due (λ _. begins.spare);
  scan = begins.scan;
  shown = inl begins.begun.begun;
  expects = begins.expects;
}

-- the first step of a call
module _ (b : CoreState) (x : SeatedPort) (begins : MayBegin b x) (first : Bool) (s : Step) (due : step_of b ≡ Some s) (a : ℕ) (y : SeatedPort) (goes : SeatGoes x y)
    (m : SeatMakes first b s x a y) where
  part_is : y.port.part ≡ moved_part b a (m.log ++ m.entries) m.told.new x.port.part
  part_is = m.told.part

  begun_is : is_begun b.stage ≡ true
  begun_is = begins.begun.begun

  first_call : Made x.about.sizes (opening_of x) b x.port.part (advance b a) y.port.part
  first_call = first_steps_make_calls x.about.sizes (opening_of x) m.log m.entries b x.port.part a y.port.part begins.begun begins.sound m.told

  pub first_made : CallMade b x (advance b a) y
  first_made = record {
    goes = goes;
    control = ap (λ (z : SeatedPort). z.port.control) m.is;
    before = ap (λ (z : SeatedPort). z.port.before) m.is;
    passed = ap (λ (z : SeatedPort). z.port.passed) m.is;
    made = first_call;
    spare = λ yet. ap (λ (z : SeatedPort). z.port.over) m.is ∙ ap (λ t. t || over_by (plan_of x.about) s a) begins.spare ∙ spare_step x.about b s a begins.sound begins.sizes due yet;
    claimed = λ at is. ap (λ (z : SeatedPort). z.port.over) m.is
        ∙ claim_step x.about b s a x.port.over begins.sizes due (λ _. begins.spare) (λ _. begins.kept) (λ i is. absurd (begun_unclaimed b.stage i begun_is is)) at is;
    kept = λ free. kept_step x.about b s a x.port.over begins.sizes due (λ _. begins.kept) (sym (ap (λ (z : SeatedPort). z.port.over) m.is) ∙ free);
    unmarked = stays_unmarked b a m.told.behind m.unrefused begins.unmarked;
    unrefused = m.unrefused;
    notes = ap (λ (z : SeatedPort). z.notes) m.is ∙ ap (λ (l : List Noted). x.notes ++ map (public_noted (plan_of x.about) x.port.before) l)
        (append_cancel_left x.port.part.notes m.told.new first_call.new (sym (ap (λ (p : Part). p.notes) part_is) ∙ first_call.notes));
    shown =
        let shown = m.shown in
        let since = ap (λ (p : Part). p.since) part_is in
        let before = ap (λ (z : SeatedPort). length (history_of z.port.before)) m.is in
        omega (arith, shown, since, before);
    time = λ young.
        let n = ap (λ (z : SeatedPort). z.began) m.is in
        let early = m.time (let e = ap (λ (g : Began). g.epoch) n in let h = ap (λ (z : SeatedPort). z.port.control.here.epoch) m.is in omega (arith, young, e, h)) in
        let len = ap (λ (g : Began). g.length) n in
        let before = ap (λ (z : SeatedPort). length (history_of z.port.before)) m.is in
        let kept : y.port.part.kept ≡ record { answer = a; at = length (m.log ++ m.entries) } ∷ [] = ap (λ (p : Part). p.kept) part_is
        ∙ ap (λ t. (if t then [] else x.port.part.kept) ++ record { answer = a; at = length (m.log ++ m.entries) } ∷ []) begun_is in
        let at = ap first_at kept in
        omega (arith, early, len, before, at);
  }

-- a further step
module _ (b : CoreState) (x : SeatedPort) (begins : MayBegin b x) (c : CoreState) (y : SeatedPort) (had : CallMade b x c y) (s : Step) (due : step_of c ≡ Some s) where
  going : is_begun c.stage ≡ false
  going = had.made.machine.going

  -- nothing is noted yet
  none_yet : had.made.new ≡ []
  none_yet = subst (λ r. AreNotesOf (opening_of x) y.port.part r had.made.new) (due_is_unreplied c s due) had.made.noted

  pub notes_same : y.notes ≡ x.notes
  notes_same = had.notes ∙ ap (λ (l : List Noted). x.notes ++ map (public_noted (plan_of x.about) x.port.before) l) none_yet ∙ append-nil x.notes

  about_same : y.about ≡ x.about
  about_same = had.goes.about

  sizes_same : c.sizes ≡ y.about.sizes
  sizes_same = had.made.sizes ∙ sym (ap (λ (a : About). a.sizes) about_same)

  opening_same : opening_of y ≡ opening_of x
  opening_same = ap (λ (a : About). opened_after a.opening y.port.before) about_same ∙ ap (opened_after x.about.opening) had.before

  pub next_within : word_of s < total x.about.sizes
  next_within = subst (λ (z : Layout). word_of s < total z) had.made.sizes (due_words_are_there c s (subst IsLayout (begins.sizes ∙ sym had.made.sizes) begins.layout) had.made.sound due)

  pub next_may : MayMake y c s
  next_may = record {
    stands = ap (λ (t : Control). t.entering) had.control ∙ begins.stands;
    machine = inr had.made.machine;
    due = due;
    claim = may_claim y.about c s y.port.over had.made.sound sizes_same due had.spare;
    scan = λ _ is. (let bad : true ≡ false = sym (ap is_begun is) ∙ had.made.machine.going in absurd cc);
    shown = inr (let shown = had.shown in let same = ap (seen_by 0) notes_same in omega (arith, shown, same));
    expects = λ j t v is.
        let of_b : call_of (begun_with b x.port.part) ≡ Some (Call.UpdateIf j t v) =
        ap (λ f. call_of (if f then b else x.port.part.begun)) begins.begun.begun ∙ ap call_of (sym had.made.begun) ∙ ap (λ f. call_of (if f then c else y.port.part.begun)) (sym going) ∙ is in
        let n = begins.expects j t v of_b in
        let few = n.1 in
        (n.0, seen_more n.0 few, n.2 ∙ ap (λ (o : Opening). stamp_of o (take n.0 x.port.part.seen) j) (sym opening_same) ∙ ap (λ (l : List Applied). stamp_of (opening_of y) l j) (taken n.0 few));
  }
    where
      more : length x.port.part.seen ≤ length y.port.part.seen
      more = no_longer x.port.part.seen y.port.part.seen had.made.seen

      seen_more : (n : ℕ) → n ≤ length x.port.part.seen → n ≤ length y.port.part.seen
      seen_more n few = let up = more in omega (arith, few, up)

      taken : (n : ℕ) → n ≤ length x.port.part.seen → take n x.port.part.seen ≡ take n y.port.part.seen
      taken n few = ap (take n) had.made.seen ∙ take_within n (length x.port.part.seen) y.port.part.seen few

  module _ (a : ℕ) (z : SeatedPort) (goes : SeatGoes y z) (m : SeatMakes false c s y a z) where
    next_part : z.port.part ≡ moved_part c a (m.log ++ m.entries) m.told.new y.port.part
    next_part = m.told.part

    told_there : StepShows x.about.sizes (opening_of x) m.log m.entries y.port.part c a z.port.part
    told_there = subst (λ (o : Opening). StepShows x.about.sizes o m.log m.entries y.port.part c a z.port.part) opening_same
        (subst (λ (d : About). StepShows d.sizes (opening_of y) m.log m.entries y.port.part c a z.port.part) about_same m.told)

    next_call : Made x.about.sizes (opening_of x) b x.port.part (advance c a) z.port.part
    next_call = further_steps_make_calls x.about.sizes (opening_of x) m.log m.entries b x.port.part c y.port.part a z.port.part had.made told_there

    -- what is noted by the call is noted by this step
    new_same : m.told.new ≡ next_call.new
    new_same =
        let was : y.port.part.notes ≡ x.port.part.notes = had.made.notes ∙ ap (λ (l : List Noted). x.port.part.notes ++ l) none_yet ∙ append-nil x.port.part.notes in
        append_cancel_left x.port.part.notes m.told.new next_call.new (ap (λ (l : List Noted). l ++ m.told.new) (sym was) ∙ sym (ap (λ (p : Part). p.notes) next_part) ∙ next_call.notes)

    pub next_made : CallMade b x (advance c a) z
    next_made = record {
      goes = goes_on x y z had.goes goes;
      control = ap (λ (t : SeatedPort). t.port.control) m.is ∙ had.control;
      before = ap (λ (t : SeatedPort). t.port.before) m.is ∙ had.before;
      passed = ap (λ (t : SeatedPort). t.port.passed) m.is ∙ had.passed;
      made = next_call;
      spare = λ yet. ap (λ (t : SeatedPort). t.port.over) m.is ∙ ap (λ t. t || over_by (plan_of y.about) s a) (had.spare (unclaimed_before c a yet))
          ∙ spare_step y.about c s a had.made.sound sizes_same due yet;
      claimed = λ at is. ap (λ (t : SeatedPort). t.port.over) m.is
          ∙ subst (λ (d : About). (y.port.over || over_by (plan_of d) s a) ≡ nat_lt x.about.limit (claimed_end (advance c a))) (sym about_same)
          (claim_step x.about c s a y.port.over had.made.sizes due had.spare had.kept had.claimed at is);
      kept = λ free. kept_step x.about c s a y.port.over had.made.sizes due had.kept
          (subst (λ (d : About). (y.port.over || over_by (plan_of d) s a) ≡ false) about_same (sym (ap (λ (t : SeatedPort). t.port.over) m.is) ∙ free));
      unmarked = stays_unmarked c a m.told.behind m.unrefused had.unmarked;
      unrefused = m.unrefused;
      notes = ap (λ (t : SeatedPort). t.notes) m.is ∙ ap (λ (l : List Noted). l ++ map (public_noted (plan_of y.about) y.port.before) m.told.new) notes_same
          ∙ ap (λ (d : About). x.notes ++ map (public_noted (plan_of d) y.port.before) m.told.new) about_same
          ∙ ap (λ (l : List (List Applied)). x.notes ++ map (public_noted (plan_of x.about) l) m.told.new) had.before
          ∙ ap (λ (l : List Noted). x.notes ++ map (public_noted (plan_of x.about) x.port.before) l) new_same;
      shown =
          let shown = had.shown in
          let since = ap (λ (p : Part). p.since) next_part ∙ ap (λ t. if t then length y.port.part.seen else y.port.part.since) going in
          let before = ap (λ (t : SeatedPort). length (history_of t.port.before)) m.is in
          omega (arith, shown, since, before);
      time = λ young.
          let same : z.began ≡ y.began = ap (λ (t : SeatedPort). t.began) m.is ∙ m.began in
          let here = ap (λ (t : SeatedPort). t.port.control.here.epoch) m.is in
          let e = ap (λ (g : Began). g.epoch) same in
          let early = had.time (omega (arith, young, e, here)) in
          let len = ap (λ (g : Began). g.length) same in
          let before = ap (λ (t : SeatedPort). length (history_of t.port.before)) m.is in
          let last : KeptAnswer = record { answer = a; at = length (m.log ++ m.entries) } in
          let kept : z.port.part.kept ≡ y.port.part.kept ++ last ∷ [] = ap (λ (p : Part). p.kept) next_part ∙ ap (λ t. (if t then [] else y.port.part.kept) ++ last ∷ []) going in
          let at = ap first_at kept ∙ first_push y.port.part.kept last had.made.some in
          omega (arith, early, len, before, at);
    }

    or_false : (b : Bool) → (b || false) ≡ b
    or_false true = refl
    or_false false = refl

    over_same : before_claim c.stage ≡ false → (ClaimsSlot c → ⊥) → z.port.over ≡ y.port.over
    over_same behind none = ap (λ (t : SeatedPort). t.port.over) m.is ∙ ap (λ t. y.port.over || t) (over_stays y.about c s a had.made.sound sizes_same due behind none) ∙ or_false y.port.over

    -- after its claims it makes no other
    pub next_over : has_claimed c ≡ true → (has_claimed (advance c a) ≡ true) × (z.port.over ≡ y.port.over)
    next_over claimed =
        let is = neither_is (before_claim c.stage) (awaits c) claimed in (
          neither_so (before_claim (advance c a).stage) (awaits (advance c a)) (past_stays c a is.0) (unawaited c a is.0 is.1),
          over_same is.0 (λ claims. let bad : true ≡ false = sym claims.now ∙ is.1 in cc),
        )

    -- nor does a scan, between its two claims
    pub next_waits : before_claim c.stage ≡ false → (before_claim (advance c a).stage ≡ false)
        × (awaits (advance c a) ≡ true → (awaits c ≡ true) × (z.port.over ≡ y.port.over))
    next_waits behind = (
      past_stays c a behind,
      λ on. (awaited c a behind on, over_same behind (λ claims. let bad : true ≡ false = sym on ∙ claims.last a in cc)),
    )
