-- The most steps of calls, in numbers.
use native.Mathlib.Nat.{mul-add}
use Rattle.partial_long_lived.proofs.Common.{ℕ, ◌≡◌, ◌*◌, Bool, None, Option, ap, ◌∙◌, arith, About, Layout, most_of_change, most_of_scans, round_if_steps, round_steps}
use Rattle.partial_long_lived.specs.Options.{IsUsual, announces_for, layout_for}
use Rattle.partial_long_lived.specs.StepNumbers.{IsOpenedWith, MakesAtMost, MostStepsInNumbers, few_components, more_components}
use Rattle.partial_long_lived.specs.declared.options.Options.{Options}

abbrev usual : Options
usual = record { lists = 1024; pool = None; announce = None }

usual_is : (o : Options) → IsUsual o → o ≡ usual
usual_is o is =
    ap (λ (lists : ℕ). record o { lists = lists }) is.0 ∙ ap (λ (pool : Option ℕ). record usual { pool = pool; announce = o.announce }) is.1
    ∙ ap (λ (announce : Option Bool). record usual { announce = announce }) is.2

-- the parts of what a memory was opened with on which its bounds depend
abbrev with_sizes : About → Layout → ℕ → ℕ → Bool → About
with_sizes a z ports arenas announces = record a { sizes = z; ports = ports; arenas = arenas; announces = announces }

about_is : (count n : ℕ) (o : Options) (a : About) → IsUsual o → IsOpenedWith count n o a → a ≡ with_sizes a (layout_for count n usual) n (2 * n) (announces_for count n usual)
about_is count n o a is w =
    let sizes : a.sizes ≡ layout_for count n usual = w.sizes ∙ ap (layout_for count n) (usual_is o is) in
    let announces : a.announces ≡ announces_for count n usual = w.announces ∙ ap (announces_for count n) (usual_is o is) in
    ap (λ (z : Layout). with_sizes a z a.ports a.arenas a.announces) sizes ∙ ap (λ (p : ℕ). with_sizes a (layout_for count n usual) p a.arenas a.announces) w.ports
    ∙ ap (λ (k : ℕ). with_sizes a (layout_for count n usual) n k a.announces) w.arenas ∙ ap (with_sizes a (layout_for count n usual) n (2 * n)) announces

small : MakesAtMost 3 2 few_components
small o a is w =
    let same = about_is 3 2 o a is w in
    record {
      change = ap most_of_change same;
      update = ap (λ (b : About). 16 * round_steps b) same;
      update_if = ap (λ (b : About). 16 * round_if_steps b) same;
      whole_scan = ap (λ (b : About). most_of_scans b b.sizes.m) same;
      scan = λ r. let all = ap (λ (b : About). most_of_scans b r) same in let apart = mul-add r r 2 in let both = mul-add r r 6 in omega (arith, all, apart, both);
    }

larger : MakesAtMost 64 4 more_components
larger o a is w =
    let same = about_is 64 4 o a is w in
    record {
      change = ap most_of_change same;
      update = ap (λ (b : About). 16 * round_steps b) same;
      update_if = ap (λ (b : About). 16 * round_if_steps b) same;
      whole_scan = ap (λ (b : About). most_of_scans b b.sizes.m) same;
      scan = λ r. let all = ap (λ (b : About). most_of_scans b r) same in let apart = mul-add r r 2 in let both = mul-add r r 6 in omega (arith, all, apart, both);
    }

pub most_steps_in_numbers : MostStepsInNumbers
most_steps_in_numbers = (small, larger)
