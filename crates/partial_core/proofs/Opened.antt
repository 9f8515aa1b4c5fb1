-- A memory as it opens is lawful.
use Rattle.partial_core.proofs.Common.{ℕ, zero, suc, ◌≡◌, ◌+◌, ◌≤◌, ◌==◌, ◌++◌, Bool, true, false, if◌then◌else◌, List, [], ◌∷◌, refl, sym, ◌∙◌, ap, subst, arith, AllByRecursion, Opening, Noted, places_written, Layout, rests_are_sound, Holding, LawfulWords, idle_holdings, IsKnown, notes_by, holdings, fresh_parts, OpensLawful, idle_holding, most_ports, IsLayout}
use Rattle.partial_state.proofs.OpeningLaw.{opening_is_lawful}

-- a port that has made no call holds nothing
pub hold_nothing : (z : Layout) (p n : ℕ) → holdings (fresh_parts z p n) ≡ idle_holdings z p n
hold_nothing z p zero = refl
hold_nothing z p (suc n) = ap (λ (hs : List Holding). idle_holding z p ∷ hs)
    (hold_nothing z (p + 1) n)

pub fresh_known : (z : Layout) (o : Opening) (words : List ℕ) (hs : List Holding) (p n : ℕ) → IsLayout z → p + n ≤ most_ports → AllByRecursion (IsKnown z o words hs []) (fresh_parts z p n)
fresh_known z o words hs p zero layout few = tt
fresh_known z o words hs p (suc n) layout few = (
  record {
    port = omega (arith, few);
    sizes = refl;
    seen = refl;
    notes = tt;
    shown = omega arith;
    sound = rests_are_sound.fresh z p layout;
    begun = refl;
    since = omega arith;
    earlier = omega arith;
    past = omega arith;
    one = omega arith;
    going = λ rest. refl;
    kept = tt;
  },
  fresh_known z o words hs (p + 1) n layout (omega (arith, few)),
)

pub fresh_notes : (z : Layout) (q p n : ℕ) → notes_by q (fresh_parts z p n) ≡ []
fresh_notes z q p zero = refl
fresh_notes z q p (suc n) = nothing (p == q) (notes_by q (fresh_parts z (p + 1) n)) ∙ fresh_notes z q (p + 1) n
  where
    nothing : (b : Bool) (ns : List Noted) → (if b then [] else []) ++ ns ≡ ns
    nothing true ns = refl
    nothing false ns = refl

pub opens_lawful : OpensLawful
opens_lawful z o words n opens few = record {
  memory = subst (λ (hs : List Holding). LawfulWords z o words hs []) (sym (hold_nothing z 0 n)) (opening_is_lawful z o words n opens few);
  once = λ p. ap places_written (sym (fresh_notes z p 0 n));
  known = fresh_known z o words (holdings (fresh_parts z 0 n)) 0 n opens.sizes (omega (arith, few));
}
