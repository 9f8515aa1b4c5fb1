use Rattle.partial_model.proofs.{Common.{ℕ, ◌≡◌, nat_eq, length, sym, subst, ◌∙◌, arith, slice_get-get_or, AreStampsOf}, IndexLaws.{some_of, none_of, stamps_more, doubled, all_new}}
use Rattle.std.specs.HashMap as hash
use Rattle.partial_model.proofs.checker.index.stamps_of.Goals as goal

pub returns-then-is_some : goal.returns-then-is_some
returns-then-is_some c =
    let before = some_of c.in_ok-before.before (sym c.if-is_some.ensures) in
    doubled c.args.history.now c.loop-place.place before.0 (hash.get nat_eq c.loop-place.stamps) _ c.loop-place.invariant
    (slice_get-get_or c.args.history.now c.loop-place.place _ c.loop-place-test.true) (sym c.in_ok-before.ensures.old ∙ before.1)

pub loop-place-preserved : goal.loop-place-preserved
loop-place-preserved c =
    stamps_more c.args.history.now c.loop-place.place (hash.get nat_eq c.loop-place.stamps) (hash.get nat_eq c.insert.new.self) _ c.loop-place.invariant
    (slice_get-get_or c.args.history.now c.loop-place.place _ c.loop-place-test.true)
    (sym c.in_ok-before.ensures.old ∙ none_of c.in_ok-before.before (sym c.if-is_some.ensures)) c.in_ok-before.ensures.updates.0

pub returns : goal.returns
returns c =
    let same : c.loop-place.place ≡ length c.args.history.now = omega arith in
    let all : AreStampsOf c.args.history.now (length c.args.history.now) (hash.get nat_eq c.loop-place.stamps) = subst (λ (n : ℕ). AreStampsOf c.args.history.now n
    (hash.get nat_eq c.loop-place.stamps)) same c.loop-place.invariant in
    (all_new c.args.history.now (hash.get nat_eq c.loop-place.stamps) all, all)
