use Rattle.lines_tests.proofs.{Common.{ℕ, List, length, sym, ap, subst, arith, with_items_is, IsPlain, MayTurn, Turned}, Turning.{left_may, left_turned, right_may, right_turned}}
use Rattle.lines_tests.specs.declared.plain.Plain.{Plain}
use Rattle.lines_tests.proofs.plain.Plain.turn.Goals as goal

pub turn-requires : goal.turn-requires
turn-requires c =
    let w = subst (λ (p : Plain). IsPlain p.words.items p.beside p.left p.right) (sym c.draw-pick.ensures) c.requires in
    let p = c.draw-pick.new.self in
    subst (MayTurn p.left) (sym c.deref_mut.ensures.value) (left_may p.words.items p.words.items p.beside p.left p.right p.left w)

pub turn-requires-else-pick-eq0 : goal.turn-requires-else-pick-eq0
turn-requires-else-pick-eq0 c =
    let w = subst (λ (p : Plain). IsPlain p.words.items p.beside p.left p.right) (sym c.draw-pick.ensures) c.requires in
    let p = c.draw-pick.new.self in
    subst (MayTurn p.right) (sym c.deref_mut-else-pick-eq0.ensures.value) (right_may p.words.items p.words.items p.beside p.left p.right p.right w)

pub returns-then-pick-eq0-clause-going : goal.returns-then-pick-eq0-clause-going
returns-then-pick-eq0-clause-going c =
    let w = subst (λ (p : Plain). IsPlain p.words.items p.beside p.left p.right) (sym c.draw-pick.ensures) c.requires in
    let p = c.draw-pick.new.self in
    let kept = with_items_is p.words c.turn.new.words (let long = c.turn.auto.words in let front = ap length c.deref_mut.ensures.value in omega (arith, long, front, p.words.ok.0)) in
    let turned = subst (λ (ws : List ℕ). Turned p.left ws c.turn.new.core c.turn.new.words) c.deref_mut.ensures.value c.turn.ensures in
    subst (λ (ws : List ℕ). IsPlain ws p.beside c.turn.new.core p.right) (sym kept) (left_turned p.words.items c.turn.new.words p.beside p.left p.right c.turn.new.core w turned)

pub returns-else-pick-eq0-clause-going : goal.returns-else-pick-eq0-clause-going
returns-else-pick-eq0-clause-going c =
    let w = subst (λ (p : Plain). IsPlain p.words.items p.beside p.left p.right) (sym c.draw-pick.ensures) c.requires in
    let p = c.draw-pick.new.self in
    let long = c.turn-else-pick-eq0.auto.words in
    let front = ap length c.deref_mut-else-pick-eq0.ensures.value in
    let kept = with_items_is p.words c.turn-else-pick-eq0.new.words (omega (arith, long, front, p.words.ok.0)) in
    let turned = subst (λ (ws : List ℕ). Turned p.right ws c.turn-else-pick-eq0.new.core c.turn-else-pick-eq0.new.words) c.deref_mut-else-pick-eq0.ensures.value c.turn-else-pick-eq0.ensures in
    let going = right_turned p.words.items c.turn-else-pick-eq0.new.words p.beside p.left p.right c.turn-else-pick-eq0.new.core w turned in
    subst (λ (ws : List ℕ). IsPlain ws p.beside p.left c.turn-else-pick-eq0.new.core) (sym kept) going
