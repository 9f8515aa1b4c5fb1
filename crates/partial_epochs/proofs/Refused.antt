-- What a broken variant of the steps leads to is no lawful state.
use Rattle.partial_epochs.proofs.{Common.{◌≡◌, Some, None, length, sym, ap, ◌∙◌, arith, option_map, at_word, Epoch, next_epoch}, Entering.cw_at, Lists.{put_other, put_same}}
use Rattle.partial_epochs.specs.Variants.{PublishingUnsealedIsUnlawful, PuttingIntoResetIsUnlawful, ResettingCurrentIsUnlawful, ResettingPinnedIsUnlawful, UnsealingIsUnlawful}

none_some : {A : Type 0} (x : A) → None ≡ Some x → ⊥
none_some x e = cc

pub unsealing_is_unlawful : UnsealingIsUnlawful
unsealing_is_unlawful e words ports b x j r is other low free w = free ((w.arenas x r is).sealed other j low)

pub publishing_unsealed_is_unlawful : PublishingUnsealedIsUnlawful
publishing_unsealed_is_unlawful e words ports b x j r is other low free w =
    free ((w.arenas b.arena r (put_other x (Some (next_epoch e b)) b.holds b.arena other ∙ is)).sealed other j low)

pub resetting_pinned_is_unlawful : ResettingPinnedIsUnlawful
resetting_pinned_is_unlawful e words ports b k low stands w =
    let s = w.standing k low stands in
    none_some s.epoch (sym (put_same (ports k).control.here.arena None b.holds) ∙ s.is)

pub resetting_current_is_unlawful : ResettingCurrentIsUnlawful
resetting_current_is_unlawful e words ports b w = none_some w.now.0 (sym (put_same b.arena None b.holds) ∙ w.now.1)

pub putting_into_reset_is_unlawful : PuttingIntoResetIsUnlawful
putting_into_reset_is_unlawful e words ports b k c low site none at w =
    let there = cw_at e words ports b k (ports k) 0 w low (at_word k) (omega (arith, low)) in
    let holds = w.control.stands k c low site (there ∙ at) in
    none_some c.epoch (sym (ap (option_map (λ (r : Epoch). length r.before)) none) ∙ holds)
