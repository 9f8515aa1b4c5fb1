-- What the tests know of the ports with which a memory opens, and of the last one of several.
use Rattle.std.specs.Option.{option_to_list}
use Rattle.memory_tests.proofs.Common.{◌≡◌, List, [], ◌∷◌, ◌++◌, subst, Option, Some, None, IfSome, Result, Ok, Err, IfOk, AllByRecursion, all_front, all_back}

-- what follows from two facts about the value of a result
pub both : {A E : Type 0} (r : Result A E) (P Q R : A → Type 0) → ((x : A) → P x → Q x → R x) → IfOk r P → IfOk r Q → IfOk r R
both (Ok x) P Q R f p q = f x p q
both (Err e) P Q R f p q = tt

-- what holds of all elements holds of the last one, which is taken, and of those that are left
of_last : {A : Type 0} (P : A → Type 0) (all left : List A) (last : A) → AllByRecursion P all → all ≡ left ++ last ∷ [] → AllByRecursion P left × P last
of_last P all left last w is =
    let v = subst (AllByRecursion P) is w in
    (all_front P left (last ∷ []) v, (all_back P left (last ∷ []) v).0)

-- the same where there may be none
pub popped : {A : Type 0} (P : A → Type 0) (all left : List A) (r : Option A) → AllByRecursion P all → all ≡ left ++ option_to_list r → AllByRecursion P left × IfSome r P
popped P all left None w is = (all_front P left [] (subst (AllByRecursion P) is w), tt)
popped P all left (Some x) w is = of_last P all left x w is
