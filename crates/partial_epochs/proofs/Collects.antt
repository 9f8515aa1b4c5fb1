-- Equal collects of an epoch.
use Rattle.partial_epochs.proofs.Common.{ℕ, ◌≡◌, List, [], ◌∷◌, length, map, take, refl, ap, subst, ◌∙◌, Applied, IsHistory, stamp_of, value_of, stamps_never_return, opened_after}
use Rattle.partial_epochs.specs.Collects.{CollectsStandTogether, EpochsAreHistories, collected_stamps}

-- lists with equal heads and tails
heads : (x y : ℕ) (xs ys : List ℕ) → x ∷ xs ≡ y ∷ ys → (x ≡ y) × (xs ≡ ys)
heads x y xs ys is = (cc, cc)

pub collects_stand_together : CollectsStandTogether
collects_stand_together o h b [] [] [] history around same = record { stamps = refl; values = refl }
collects_stand_together o h b [] [] (c ∷ seconds) history around same = absurd around
collects_stand_together o h b [] (a ∷ firsts) seconds history around same = absurd around
collects_stand_together o h b (j ∷ js) [] seconds history around same = absurd around
collects_stand_together o h b (j ∷ js) (a ∷ firsts) [] history around same = absurd around
collects_stand_together o h b (j ∷ js) (a ∷ firsts) (c ∷ seconds) history around same =
    let both = heads (stamp_of o (take a h) j) (stamp_of o (take c h) j) (collected_stamps o h js firsts) (collected_stamps o h js seconds) same in
    let then = stamps_never_return o h j a c b history around.0 around.1 around.2 both.0 in
    let rest = collects_stand_together o h b js firsts seconds history around.3 both.1 in
    record {
      stamps = ap (λ s. s ∷ map (λ i. stamp_of o (take b h) i) js) then.0 ∙ ap (λ (l : List ℕ). stamp_of o (take a h) j ∷ l) rest.stamps;
      values = ap (λ v. v ∷ map (λ i. value_of o (take b h) i) js) then.1 ∙ ap (λ (l : List ℕ). value_of o (take a h) j ∷ l) rest.values;
    }

pub epochs_are_histories : EpochsAreHistories
epochs_are_histories e words ports b k w below stands s =
    let lawful = (w.arenas (ports k).control.here.arena s.epoch s.is).lawful in
    subst (λ (l : List (List Applied)). IsHistory (opened_after e.opening l) s.epoch.log × (length (opened_after e.opening l).values ≡ e.sizes.m)) s.before
    (lawful.memory.history, lawful.memory.values)
