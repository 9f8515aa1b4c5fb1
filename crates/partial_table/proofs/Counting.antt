-- A rule that doesn't depend on what is counted allows each step with its count.
use Rattle.std.proofs.Common.{ℕ, zero, suc, ◌≡◌, ◌+◌, ◌<◌, List, [], ◌∷◌, ◌++◌, map, refl, sym, ap, subst, ◌∙◌}
use Rattle.std.specs.Prelude.{slice_index, slice_set}
use mathlib.Core.Option.{some}
use lib.ListN.{get_elem?}
use Rattle.atomic_table.specs.Table.{Allows, Final, Joins, Me, Seen, Splits, State, homes_after}
use Rattle.atomic_table.specs.Seated.{TableId}
use Rattle.atomic_table.proofs.Lists.{at_map}
use Rattle.partial_table.specs.declared.counted.Counted.{Counted}
use Rattle.partial_table.specs.Counting.{counted, counts, uncounted, uncounted_me, plain_view}
use Rattle.partial_table.specs.Views.{BadgeView, SeatView, TableView, badge_view, seat_view, table_view}

map_set : {A B : Type 0} (f : A → B) (l : List A) (i : ℕ) (a : A) → map f (slice_set l i a) ≡ slice_set (map f l) i (f a)
map_set f [] i a = refl
map_set f (x ∷ xs) zero a = refl
map_set f (x ∷ xs) (suc i) a = ap (λ l. f x ∷ l) (map_set f xs i a)

map_snoc : {A B : Type 0} (f : A → B) (l : List A) (a : A) → map f (l ++ a ∷ []) ≡ map f l ++ f a ∷ []
map_snoc f [] a = refl
map_snoc f (x ∷ xs) a = ap (λ l. f x ∷ l) (map_snoc f xs a)

module _ {S V : Type 0} (holds : State S V → Type 0) where
  abbrev pub holds_counted : State S (Counted V) → Type 0
  holds_counted s = holds (uncounted s)

  pub counts_allowed : (slots id i : ℕ) (f : ℕ → ℕ) (me : Me S (Counted V)) (then : Me S V → ℕ → Me S V → Type 0) → Allows holds slots id (uncounted_me me) i f (then (uncounted_me me)) →
      Allows holds_counted slots id me i f (counts then me)
  counts_allowed slots id i f me then may s kept homes at small =
      let r = may (uncounted s) kept homes (at_map plain_view s.views id me.0 at) small in (
        counted r.0 (me.0.steps + 1),
        r.1,
        r.2,
        subst (λ (l : List V). holds (record { words = slice_set s.words i (f (slice_index s.words i)); homes = homes_after s.homes me.1 r.1; views = l }))
            (sym (map_set plain_view s.views id (counted r.0 (me.0.steps + 1)))) r.3,
        (r.4, refl),
      )

  pub splits_counted : (id : ℕ) (v left right : Counted V) → Splits holds id v.view left.view right.view → Splits holds_counted id v left right
  splits_counted id v left right may s kept at =
      subst (λ (l : List V). holds (record { words = s.words; homes = s.homes; views = l }))
      (sym (map_snoc plain_view (slice_set s.views id left) right ∙ ap (λ l. l ++ right.view ∷ []) (map_set plain_view s.views id left)))
      (may (uncounted s) kept (at_map plain_view s.views id v at))

  pub joins_counted : (id other : ℕ) (v w both spent : Counted V) → Joins holds id v.view other w.view both.view spent.view → Joins holds_counted id v other w both spent
  joins_counted id other v w both spent may s kept at apart there =
      let first = map_set plain_view s.views id both in
      let then = map_set plain_view (slice_set s.views id both) other spent in
      subst (λ (l : List V). holds (record { words = s.words; homes = s.homes; views = l })) (sym (then ∙ ap (λ l. slice_set l other spent.view) first))
      (may (uncounted s) kept (at_map plain_view s.views id v at) apart
      (subst (λ (l : List V). get_elem? l other ≡ some w.view) first (at_map plain_view (slice_set s.views id both) other w there)))

  pub final_uncounted : (id : ℕ) (v : Counted V) (ws : List ℕ) (xs : List S) → Final (Seen holds_counted id v) ws xs → Final (Seen holds id v.view) ws xs
  final_uncounted id v ws xs end =
      (uncounted end.0, (end.1.0, at_map plain_view end.0.views id v end.1.1), end.2, end.3, end.4)

-- what the caller of a step owes by what contracts see of the table and the seat, and what the step of the table inside asks
module _ {V K : Type 0} (holds : K → State (Unit {0}) V → Type 0) (z y : TableId) (key : K) (id : ℕ) (me : Me (Unit {0}) (Counted V)) (t : TableView K) (s : SeatView V)
    (is_table : table_view z key ≡ t) (is_seat : seat_view y id me ≡ s) where
  module _ (word : ℕ) (f : ℕ → ℕ) (then : ℕ → Me (Unit {0}) V → ℕ → Me (Unit {0}) V → Type 0) where
    abbrev pub Owes : TableView K → SeatView V → Type 0
    Owes u v = (v.table_id ≡ u.table_id) × (word < u.table_id.words) × Allows (holds u.key) u.table_id.slots v.id v.me word f (then u.table_id.slots v.me)

    pub owed_counted : Owes t s → (y ≡ z) × (word < z.words) × Allows (holds_counted (holds key)) z.slots id me word f (counts (then z.slots) me)
    owed_counted owed =
        let here : Owes (table_view z key) (seat_view y id me) = subst (λ (u : TableView K). Owes u (seat_view y id me)) (sym is_table) (subst (λ (v : SeatView V). Owes t v) (sym is_seat) owed) in
        (here.0, here.1, counts_allowed (holds key) z.slots id word f me (then z.slots) here.2)

    abbrev pub Told : TableId → ℕ → Me (Unit {0}) (Counted V) → ℕ → TableView K → SeatView V → Type 0
    Told y' id' me' found u v = (y' ≡ v.table_id) × (id' ≡ v.id) × then u.table_id.slots v.me found (uncounted_me me') × (me'.0.steps ≡ v.steps + 1)

    pub told_counted : (y' : TableId) (id' : ℕ) (me' : Me (Unit {0}) (Counted V)) (found : ℕ) → (y' ≡ y) × (id' ≡ id) × counts (then z.slots) me found me' → Told y' id' me' found t s
    told_counted y' id' me' found told =
        subst (λ (u : TableView K). Told y' id' me' found u s) is_table (subst (λ (v : SeatView V). Told y' id' me' found (table_view z key) v) is_seat (told.0, told.1, told.2.0, told.2.1))

  -- a split
  module _ (left right : V → V) where
    abbrev pub OwesSplit : TableView K → SeatView V → Type 0
    OwesSplit u v = (v.table_id ≡ u.table_id) × (0 < u.table_id.words) × Splits (holds u.key) v.id v.me.0 (left v.me.0) (right v.me.0)

    pub owed_split : OwesSplit t s → (y ≡ z) × (0 < z.words) × Splits (holds_counted (holds key)) id me.0 (counted (left me.0.view) 0) (counted (right me.0.view) (me.0.steps + 1))
    owed_split owed =
        let here : OwesSplit (table_view z key) (seat_view y id me) = subst (λ (u : TableView K). OwesSplit u (seat_view y id me)) (sym is_table) (subst (λ (v : SeatView V). OwesSplit t v) (sym is_seat) owed) in
        (here.0, here.1, splits_counted (holds key) id me.0 _ _ here.2)

    abbrev pub ToldSplit : TableId → ℕ → Me (Unit {0}) (Counted V) → TableId → Me (Unit {0}) (Counted V) → SeatView V → Type 0
    ToldSplit y' id' new z' other v = (y' ≡ v.table_id) × (id' ≡ v.id) × (uncounted_me new ≡ (left v.me.0, v.me.1)) × (z' ≡ v.table_id) × (uncounted_me other ≡ (right v.me.0, []))
        × (new.0.steps ≡ 0) × (other.0.steps ≡ v.steps + 1)

    pub told_split : (y' z' : TableId) (id' : ℕ) (new other : Me (Unit {0}) (Counted V)) → (y' ≡ y) × (id' ≡ id) × (new ≡ (counted (left me.0.view) 0, me.1)) × (z' ≡ y) × (other ≡ (counted (right me.0.view) (me.0.steps + 1), [])) →
        ToldSplit y' id' new z' other s
    told_split y' z' id' new other told =
        let steps : Me (Unit {0}) (Counted V) → ℕ = λ m. m.0.steps in
        subst (ToldSplit y' id' new z' other) is_seat (told.0, told.1, ap uncounted_me told.2, told.3, ap uncounted_me told.4, ap steps told.2, ap steps told.4)

  -- a join with another seat
  module _ (y2 : TableId) (id2 : ℕ) (me2 : Me (Unit {0}) (Counted V)) (o : SeatView V) (is_other : seat_view y2 id2 me2 ≡ o) (both : V → V → V) (spent : V) where
    abbrev pub OwesJoin : TableView K → SeatView V → SeatView V → Type 0
    OwesJoin u v w = (v.table_id ≡ u.table_id) × (w.table_id ≡ u.table_id) × (w.me.1 ≡ []) × (0 < u.table_id.words) × Joins (holds u.key) v.id v.me.0 w.id w.me.0 (both v.me.0 w.me.0) spent

    pub owed_join : OwesJoin t s o → (y ≡ z) × (y2 ≡ z) × (me2.1 ≡ []) × (0 < z.words) ×
        Joins (holds_counted (holds key)) id me.0 id2 me2.0 (counted (both me.0.view me2.0.view) (me.0.steps + me2.0.steps + 1)) (counted spent 0)
    owed_join owed =
        let here : OwesJoin (table_view z key) (seat_view y id me) (seat_view y2 id2 me2) =
        subst (λ (u : TableView K). OwesJoin u (seat_view y id me) (seat_view y2 id2 me2)) (sym is_table)
        (subst (λ (v : SeatView V). OwesJoin t v (seat_view y2 id2 me2)) (sym is_seat) (subst (λ (w : SeatView V). OwesJoin t s w) (sym is_other) owed)) in
        (here.0, here.1, here.2, here.3, joins_counted (holds key) id id2 me.0 me2.0 _ _ here.4)

    abbrev pub ToldJoin : TableId → ℕ → Me (Unit {0}) (Counted V) → SeatView V → SeatView V → Type 0
    ToldJoin y' id' new v w = (y' ≡ v.table_id) × (id' ≡ v.id) × (uncounted_me new ≡ (both v.me.0 w.me.0, v.me.1)) × (new.0.steps ≡ v.steps + w.steps + 1)

    pub told_join : (y' : TableId) (id' : ℕ) (new : Me (Unit {0}) (Counted V)) → (y' ≡ y) × (id' ≡ id) × (new ≡ (counted (both me.0.view me2.0.view) (me.0.steps + me2.0.steps + 1), me.1)) → ToldJoin y' id' new s o
    told_join y' id' new told =
        let steps : Me (Unit {0}) (Counted V) → ℕ = λ m. m.0.steps in
        subst (λ (v : SeatView V). ToldJoin y' id' new v o) is_seat
        (subst (ToldJoin y' id' new (seat_view y id me)) is_other (told.0, told.1, ap uncounted_me told.2, ap steps told.2))

  -- what is known of a table that was closed with the seat
  pub told_end : (ws : List ℕ) (xs : List (Unit {0})) → Final (Seen (holds_counted (holds key)) id me.0) ws xs → Final (Seen (holds t.key) s.id s.me.0) ws xs
  told_end ws xs end =
      subst (λ (u : TableView K). Final (Seen (holds u.key) s.id s.me.0) ws xs) is_table
      (subst (λ (v : SeatView V). Final (Seen (holds key) v.id v.me.0) ws xs) is_seat (final_uncounted (holds key) id me.0 ws xs end))

-- a badge whose seat contracts see has that seat alone
one_view : {V : Type 0} (views : List (Counted V)) (v : V) → map plain_view views ≡ v ∷ [] → (c : Counted V) × (views ≡ c ∷ [])
one_view [] v is = cc
one_view (c ∷ []) v is = (c, refl)
one_view (c ∷ d ∷ cs) v is = cc

pub one_seat : {V : Type 0} (y : TableId) (views : List (Counted V)) (b : BadgeView V) → badge_view y views ≡ b → (v : V) × (b.views ≡ v ∷ []) → (c : Counted V) × (views ≡ c ∷ [])
one_seat {V} y views b is_badge one = one_view views one.0 (ap (λ (u : BadgeView V). u.views) is_badge ∙ one.1)
