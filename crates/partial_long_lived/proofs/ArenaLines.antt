-- The arenas begin two words before numbers of 16 words.
use Rattle.std.proofs.lemmas.Nat.{mul-mod}
use native.Mathlib.Nat.{mul-zero}
use Rattle.partial_long_lived.proofs.Common.{ℕ, ◌≡◌, ◌*◌, ◌%◌, ◌<◌, ap, ◌∙◌, arith, span, bare, shape_plan, Layout}
use Rattle.partial_long_lived.specs.Options.{IsShapeFor, most_slots}
use Rattle.partial_long_lived.specs.ArenaLines.{ArenasBeginLines}
use Rattle.partial_long_lived.specs.declared.options.Options.{Options}
use Rattle.partial_long_lived.specs.declared.shape.Shape.{Shape}

-- an arena has a multiple of 16 words
span_is_whole : (count ports : ℕ) (o : Options) (s : Shape) → IsShapeFor count ports o s → s.sizes.slots < most_slots → span (shape_plan s bare) % 16 ≡ 0
span_is_whole count ports o s is few =
    let m = ap (λ (z : Layout). z.m) is.sizes in
    let slots = ap (λ (z : Layout). z.slots) is.sizes in
    let lists = ap (λ (z : Layout). z.lists) is.sizes in
    let pool = ap (λ (z : Layout). z.pool) is.sizes in
    omega (arith, m, slots, lists, pool, few)

-- and so have any number of arenas
spans_are_whole : (x w : ℕ) → w % 16 ≡ 0 → x * w % 16 ≡ 0
spans_are_whole x w whole = mul-mod x w 16 ∙ ap (λ r. x % 16 * r % 16) whole ∙ ap (λ r. r % 16) (mul-zero (x % 16))

pub arenas_begin_lines : ArenasBeginLines
arenas_begin_lines count ports o s is few x =
    let arenas = spans_are_whole x (span (shape_plan s bare)) (span_is_whole count ports o s is few) in
    omega (arith, arenas)
