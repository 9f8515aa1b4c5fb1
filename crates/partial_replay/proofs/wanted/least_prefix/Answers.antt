use Rattle.partial_replay.proofs.{Common.{ℕ, ◌≡◌, ◌≢◌, ◌-◌, ◌<◌, ◌≤◌, ◌⊎◌, List, Bool, Option, count_by, length, slice_index_or, None, Some, slice_get, refl, sym, ◌∙◌, subst, inl, inr, arith, eqb-true, eq-eqb, false≢true, slice_get-get_or, Applied, prev_of, record_value, AllHave, HasRecord, marks_before, values_after}, ScanPlaces.{IsFoundFrom, IsWalked, walked_at_end, walked_back, found_least}}
use Rattle.partial_replay.proofs.wanted.least_prefix.Goals as goal

-- the entry before a place
abbrev entry_before : List Applied → ℕ → Applied
entry_before h place = slice_index_or h (place - 1) (record { port = 0; component = 0; value = 0; stamp = 0 })

entry_stands : (h : List Applied) (began place : ℕ) → began < place → place ≤ length h → slice_get h (place - 1) ≡ Some (entry_before h place)
entry_stands h began place below within = slice_get-get_or h (place - 1) (record { port = 0; component = 0; value = 0; stamp = 0 }) (omega (arith, below, within))

-- one step of the loop, whichever place is the least then
stepped : (wanted : List (Option ℕ)) (first marks after : List Bool) (words : List ℕ) (h : List Applied) (began place least next : ℕ) → began < place → place ≤ length h →
    length wanted ≡ length first → ((k : ℕ) (e : Applied) → slice_get h k ≡ Some e → HasRecord words (length wanted) e) → after ≡ marks_before (slice_index_or wanted (entry_before h place).component None)
    marks (entry_before h place).component (record_value words (prev_of words (entry_before h place).stamp)) → ((count_by (λ b. b) after ≡ 0) × (next ≡ place - 1)) ⊎
    ((count_by (λ b. b) after ≢ 0) × (next ≡ least)) → IsWalked wanted first marks words h began place least → IsWalked wanted first after words h began (place - 1) next
stepped wanted first marks after words h began place least next below within rooms entries taken which walked =
    let stands = entry_stands h began place below within in
    walked_back wanted first marks after words h began place (place - 1) least next (entry_before h place) stands (omega (arith, below)) (omega (arith, below)) rooms
    (entries (place - 1) (entry_before h place) stands).component taken which walked

pub loop-place-init : goal.loop-place-init
loop-place-init c = walked_at_end c.args.wanted.now c.args.differing.now c.args.words.now c.args.history.now c.args.began

pub take_back-requires-clause-record : goal.take_back-requires-clause-record
take_back-requires-clause-record c =
    let h = c.args.history.now in
    c.requires.entries (c.loop-place.place - 1) (entry_before h c.loop-place.place) (entry_stands h c.args.began c.loop-place.place c.loop-place-test.true c.loop-place.auto.place)

pub loop-place-preserved-then-are_none : goal.loop-place-preserved-then-are_none
loop-place-preserved-then-are_none c =
    let none : count_by (λ b. b) c.take_back.new.differing ≡ 0 = eqb-true (count_by (λ b. b) c.take_back.new.differing) 0 (sym c.are_none.ensures ∙ c.if-are_none.true) in
    stepped c.args.wanted.now c.args.differing.now c.loop-place.differing c.take_back.new.differing c.args.words.now c.args.history.now c.args.began c.loop-place.place c.loop-place.least
    (c.loop-place.place - 1)
    c.loop-place-test.true c.loop-place.auto.place c.requires.room c.requires.entries c.take_back.ensures (inl (none, refl)) c.loop-place.invariant

pub loop-place-preserved : goal.loop-place-preserved
loop-place-preserved c =
    let some : count_by (λ b. b) c.take_back.new.differing ≢ 0 = λ is. absurd
    (false≢true (sym (sym c.are_none.ensures ∙ c.if-are_none.false) ∙ eq-eqb (count_by (λ b. b) c.take_back.new.differing) 0 is)) in
    stepped c.args.wanted.now c.args.differing.now c.loop-place.differing c.take_back.new.differing c.args.words.now c.args.history.now c.args.began c.loop-place.place
    c.loop-place.least c.loop-place.least
    c.loop-place-test.true c.loop-place.auto.place c.requires.room c.requires.entries c.take_back.ensures (inr (some, refl)) c.loop-place.invariant

pub returns-clause-least : goal.returns-clause-least
returns-clause-least c = λ o shown agrees below marked from within has.
    let whole : c.args.began ≤ length c.args.history.now = omega (arith, from, within) in
    let at : c.loop-place.place ≡ c.args.began = omega (arith, c.loop-place.invariant.behind whole, c.loop-place-test.false) in
    let s = c.loop-place.invariant.searched o whole agrees below marked in
    found_least (λ n. AllHave c.args.wanted.now (values_after o c.args.history.now n)) c.args.began (length c.args.history.now) c.loop-place.least shown
    (subst (λ n. IsFoundFrom (λ k. AllHave c.args.wanted.now (values_after o c.args.history.now k)) n (length c.args.history.now) c.loop-place.least) at s.found) from within has
