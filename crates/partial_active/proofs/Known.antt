-- What a getSet that is answered from orderly words knows by the moments before.
use Rattle.partial_active.proofs.{Common.{ℕ, ◌≡◌, ◌<◌, ◌≤◌, true, List, [], ◌∷◌, slice_index, inl, inr, sym, subst, ◌∙◌, arith, Ranges, Layout, StandsAt, announcement_block, list_block, has_index, SetPair, Facts, HasEach, HasReadSo, walks, has_found, knows_by, KnowsBy, Stage, Head, ListLen, ListLow, ListHigh, Counter, Slot, Len, Index, Claim, Write, Publish, Done, slot_at, head_at, IsAnnouncement, IsVacatedList, OnEach, AtSome}, Orders.{Past, ComesFrom}, Indices.{with_index_keeps, same_named}, Knowledge.AreFacts}

-- what some moment shows beside what each does
pub some_with : (P Q : List ℕ → Type 0) (G : Type 0) (past : Past) → ((w : List ℕ) → P w → Q w → G) → AtSome P past → OnEach Q past → G
some_with P Q G [] gives some each = absurd some
some_with P Q G (w ∷ ws) gives (inl here) each = gives w here each.0
some_with P Q G (w ∷ ws) gives (inr more) each = some_with P Q G ws gives more each.1

some_so : (P Q : List ℕ → Type 0) (past : Past) → ((w : List ℕ) → P w → Q w) → AtSome P past → AtSome Q past
some_so P Q [] so some = some
some_so P Q (w ∷ ws) so (inl here) = inl (so w here)
some_so P Q (w ∷ ws) so (inr more) = inr (some_so P Q ws so more)

-- the list at the list head at that moment
abbrev pub IsHeadList : Layout → ℕ → Ranges → List ℕ → Type 0
IsHeadList s at list w = (head_at s w ≡ at) × IsVacatedList s w at list

-- the announcement in the slot at that moment
abbrev pub IsLoaded : Layout → ℕ → ℕ → List ℕ → List ℕ → Type 0
IsLoaded s slot at named w = (slot_at s w slot ≡ at) × IsAnnouncement s w at named

-- the announcement that stood in the slot at all moments is found
abbrev pub CompleteAt : Layout → List ℕ → Past → List ℕ → ℕ → Type 0
CompleteAt s first past indices slot = (named : List ℕ) → slot < s.slots → IsAnnouncement s first (slot_at s first slot) named →
    OnEach (λ w. slot_at s w slot ≡ slot_at s first slot) past → HasEach indices named

-- what was so at some moment
abbrev pub facts_of_moments : Layout → List ℕ → Past → Facts
facts_of_moments s first past = record {
  vacated = λ x. AtSome (λ w. slot_at s w x ≡ 1) past;
  lists = λ at list. AtSome (IsHeadList s at list) past;
  announces = λ slot at named. AtSome (IsLoaded s slot at named) past;
  complete = λ indices slot. CompleteAt s first past indices slot;
}

-- it is so one moment later too
module _ (s : Layout) (first : List ℕ) (past : Past) (now : List ℕ) (p : SetPair) where
  abbrev Before : Facts
  Before = facts_of_moments s first past

  abbrev After : Facts
  After = facts_of_moments s first (now ∷ past)

  reads_later : (from left : ℕ) (list : Ranges) → HasReadSo Before from list p.1.read left → HasReadSo After from list p.1.read left
  reads_later from left list k = record { stands = inr k.stands; read_is = k.read_is; sum = k.sum }

  walks_later : (slot : ℕ) → walks Before p slot → walks After p slot
  walks_later slot k = record {
    listed = λ x holds. inr (k.listed x holds);
    noted = λ x holds. inr (k.noted x holds);
    below = λ l lt named within there each. k.below l lt named within there each.1;
    beyond = λ l from named within there each. k.beyond l from named within there each.1;
  }

  found_later : has_found Before p → has_found After p
  found_later k = (λ x holds. inr (k.0 x holds), λ l named within there each. k.1 l named within there each.1)

  pub knows_later : (stage : Stage) → knows_by Before stage p → knows_by After stage p
  knows_later Head k = tt
  knows_later (ListLen at) k = (k.0, inr k.1)
  knows_later (ListLow at left) k = (k.0, k.1, reads_later k.0 left k.1 k.2, k.3)
  knows_later (ListHigh at left lo) k = (k.0, k.1, reads_later k.0 left k.1 k.2, k.3, k.4)
  knows_later Counter k = λ x holds. inr (k x holds)
  knows_later (Slot slot) k = walks_later slot k
  knows_later (Len slot at) k = (walks_later slot k.0, (k.1.0, inr k.1.1))
  knows_later (Index slot at left) k = (
    walks_later slot k.0,
    (k.1.0, k.1.1, k.1.2, let r = k.1.3 in record { shown = inr r.shown; place = r.place; sum = r.sum; so_far = r.so_far }),
  )
  knows_later (Claim count) k = (found_later k.0, k.1)
  knows_later (Write at i count word) k = found_later k
  knows_later (Publish at) k = found_later k
  knows_later Done k = found_later k

-- what was so at some moment goes on to be so
module _ (s : Layout) (past : Past) (now : List ℕ) (comes : OnEach (λ v. ComesFrom s v now) past) where
  stays_vacated : (x : ℕ) (w : List ℕ) → x < s.slots → ComesFrom s w now → slot_at s w x ≡ 1 → slot_at s now x ≡ 1
  stays_vacated x w within c was = elim (c.slots x within) [
    | inl same ↦ same ∙ was
    | inr (inl empty) ↦ absurd (omega (arith, was, empty))
    | inr (inr vacated) ↦ vacated
  ]

  vacated_yet : (x : ℕ) → x < s.slots → AtSome (λ w. slot_at s w x ≡ 1) past → slot_at s now x ≡ 1
  vacated_yet x within was = some_with (λ w. slot_at s w x ≡ 1) (λ v. ComesFrom s v now) (slot_at s now x ≡ 1) past (λ w h c. stays_vacated x w within c h) was comes

  list_yet : (at : ℕ) (list : Ranges) → AtSome (IsHeadList s at list) past → IsVacatedList s now at list
  list_yet at list was = some_with (IsHeadList s at list) (λ v. ComesFrom s v now) (IsVacatedList s now at list) past
      (λ w h c. record {
        from = h.1.from;
        to = h.1.to;
        normal = h.1.normal;
        stands = subst (λ n. StandsAt now n (list_block list)) h.0 (c.lists list (subst (λ n. IsVacatedList s w n list) (sym h.0) h.1));
        within = h.1.within;
        vacated = λ x holds. stays_vacated x w (h.1.within x holds) c (h.1.vacated x holds);
      })
      was comes

  pub announced_yet : (slot at : ℕ) (named : List ℕ) → slot < s.slots → AtSome (IsLoaded s slot at named) past → IsAnnouncement s now at named
  announced_yet slot at named within was = some_with (IsLoaded s slot at named) (λ v. ComesFrom s v now) (IsAnnouncement s now at named) past
      (λ w h c. record {
        from = h.1.from;
        to = h.1.to;
        count = h.1.count;
        each = h.1.each;
        stands = subst (λ n. StandsAt now n (announcement_block named)) h.0 (c.announcements slot named within (subst (λ n. IsAnnouncement s w n named) (sym h.0) h.1));
      })
      was comes

-- a slot that was EMPTY or VACATED at a moment held no announcement at all of them
pub never_named : (s : Layout) (first : List ℕ) (past : Past) (indices : List ℕ) (slot a : ℕ) → a ≤ 1 → AtSome (λ w. slot_at s w slot ≡ a) past → CompleteAt s first past indices slot
never_named s first past indices slot a small was named within there each k lt = absurd (some_with (λ w. slot_at s w slot ≡ a) (λ w. slot_at s w slot ≡ slot_at s first slot) ⊥ past
    (λ w is same. let from = there.from in omega (arith, from, is, same, small)) was each)

-- what was so at some moment holds of the words of the last one
pub facts_of_moments_hold : (s : Layout) (first : List ℕ) (past : Past) (now : List ℕ) → OnEach (λ v. ComesFrom s v now) past → AtSome (λ w. w ≡ first) past →
    AreFacts s now (facts_of_moments s first past)
facts_of_moments_hold s first past now comes first_in = record {
  vacated = vacated_yet s past now comes;
  list = list_yet s past now comes;
  listed = λ at list was x holds. some_so (IsHeadList s at list) (λ w. slot_at s w x ≡ 1) past (λ w h. h.1.vacated x holds) was;
  announcement = announced_yet s past now comes;
  gone = λ indices slot vacated. never_named s first past indices slot 1 (omega arith) vacated;
  read = λ indices slot at named within shown found first_named inside there each k lt.
      let whole = announced_yet s past now comes slot at named within shown in
      let stands_yet : StandsAt now (slot_at s first slot) (announcement_block first_named) = some_with (λ w. w ≡ first) (λ v. ComesFrom s v now)
      (StandsAt now (slot_at s first slot) (announcement_block first_named)) past
      (λ w is c. let from_first : ComesFrom s first now = subst (λ v. ComesFrom s v now) is c in from_first.announcements slot first_named inside there) first_in comes in
      let same_at : slot_at s first slot ≡ at = some_with (IsLoaded s slot at named) (λ w. slot_at s w slot ≡ slot_at s first slot) (slot_at s first slot ≡ at) past
      (λ w h same. sym same ∙ h.0) shown each in
      let alike = same_named now at first_named named (subst (λ n. StandsAt now n (announcement_block first_named)) same_at stands_yet) whole.stands in
      let here : slice_index named k ≡ slice_index first_named k = alike.1 k lt in
      let same = alike.0 in
      subst (λ j. has_index indices j ≡ true) here (found k (omega (arith, same, lt)));
  kept = λ indices x slot complete named within there each k lt. with_index_keeps indices x (slice_index named k) (complete named within there each k lt);
}

-- what a getSet knows by the moments before
abbrev pub Knows : Layout → List ℕ → Past → SetPair → Type 0
Knows s first past p = KnowsBy (facts_of_moments s first past) p
