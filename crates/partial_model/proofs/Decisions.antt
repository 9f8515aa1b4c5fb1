-- What tests on numbers and lists decide.
use Rattle.partial_model.proofs.Common.{ℕ, ◌<◌, ◌≤◌, nat_le, nat_lt, Bool, true, false, not, ◌&&◌, ◌||◌, List, [], ◌∷◌, refl, sym, Decides, Option, Some, None, IfSome, AllByRecursion, list_all, list_any, option_map_or, true≢false, ltb-true, lt-ltb, leb-true, le-leb, Decides-and}

pub Decides-nat_le : (a b : ℕ) → Decides (nat_le a b) (a ≤ b)
Decides-nat_le a b = (leb-true a b, le-leb a b)

pub Decides-nat_lt : (a b : ℕ) → Decides (nat_lt a b) (a < b)
Decides-nat_lt a b = (ltb-true a b, lt-ltb a b)

pub Decides-and3 : {P Q R : Type 0} (x y z : Bool) → Decides x P → Decides y Q → Decides z R → Decides (x && y && z) (P × Q × R)
Decides-and3 true true z d k l = (λ e. (d.0 refl, k.0 refl, l.0 e), λ w. l.1 w.2)
Decides-and3 true false z d k l = (λ e. absurd (true≢false (sym e)), λ w. k.1 w.1)
Decides-and3 false y z d k l = (λ e. absurd (true≢false (sym e)), λ w. absurd (true≢false (sym (d.1 w.0))))

-- neither of two tests passes
pub Decides-nor : {P Q : Type 0} (x y : Bool) → Decides x P → Decides (not y) Q → Decides (not (x || y)) ((P → ⊥) × Q)
Decides-nor true y d k = (λ e. absurd (true≢false (sym e)), λ w. absurd (w.0 (d.0 refl)))
Decides-nor false y d k = (λ e. (λ p. true≢false (sym (d.1 p)), k.0 e), λ w. k.1 w.1)

-- a test that fails always decides what never holds
pub Decides-never : {P : Type 0} → (P → ⊥) → Decides false P
Decides-never n = (λ e. absurd (true≢false (sym e)), λ p. absurd (n p))

pub Decides-always : {P : Type 0} → P → Decides true P
Decides-always p = (λ e. p, λ w. refl)

pub Decides-list_all : {X : Type 0} (test : X → Bool) (P : X → Type 0) → ((x : X) → Decides (test x) (P x)) → (xs : List X) → Decides (list_all test xs) (AllByRecursion P xs)
Decides-list_all test P each [] = Decides-always tt
Decides-list_all test P each (x ∷ xs) = Decides-and (test x) (list_all test xs) (each x) (Decides-list_all test P each xs)

pub Decides-list_none : {X : Type 0} (test : X → Bool) (P : X → Type 0) → ((x : X) → Decides (test x) (P x)) → (xs : List X) → Decides (not (list_any test xs)) (AllByRecursion (λ x. P x → ⊥) xs)
Decides-list_none test P each [] = Decides-always tt
Decides-list_none test P each (x ∷ xs) = Decides-nor (test x) (list_any test xs) (each x) (Decides-list_none test P each xs)

-- what is in an option
pub Decides-if_some : {X : Type 0} (test : X → Bool) (P : X → Type 0) → ((x : X) → Decides (test x) (P x)) → (x : Option X) → Decides (option_map_or test x true) (IfSome x P)
Decides-if_some test P each None = Decides-always tt
Decides-if_some test P each (Some x) = each x
