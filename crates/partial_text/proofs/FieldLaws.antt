-- Fields that are read as numbers are the numbers' digits, and these are read as the numbers.
use Rattle.partial_text.proofs.{Common.{◌≡◌, ℕ, ◌^◌, ◌<◌, ◌≤◌, Bool, true, false, if◌then◌else◌, nat_eq, List, [], ◌∷◌, ◌++◌, map, Option, None, Some, Result, Ok, Err, refl, sym, ap, ◌∙◌, append_assoc, arith, decimal, ok_or, flat_map, AllByRecursion, bytes_eq, append-nil, flat_map-map, bytes_eq-Decides, PlanError, until, pieces_behind, number_of, ◌>>=◌, number_field, fields_of, exactly_one, exactly_two, exactly_three, exactly_four, number_at}, NumberLaws.{number_ok, number_again, HasNo, HasNo-append, HasNo-decimal, IsNoDigit}, PieceLaws.{behind_each, joined_is, until_joined, pieces_joined}}
use Rattle.partial_text.specs.declared.fault.Cause.{Cause}
use Rattle.partial_text.specs.Judging.{numbers_at}

-- the value of a step that did not fail
pub bind_ok : {A B : Type 0} (r : Result A PlanError) (f : A → Result B PlanError) (y : B) → (r >>= f) ≡ Ok y → (x : A) × (r ≡ Ok x) × (f x ≡ Ok y)
bind_ok (Ok x) f y e = (x, refl, e)
bind_ok (Err d) f y e = absurd cc

pub if_ok : {A : Type 0} (b : Bool) (r : Result A PlanError) (d : PlanError) (y : A) → (if b then r else Err d) ≡ Ok y → (b ≡ true) × (r ≡ Ok y)
if_ok true r d y e = (refl, e)
if_ok false r d y e = absurd cc

pub unless_ok : {A : Type 0} (b : Bool) (r : Result A PlanError) (d : PlanError) (y : A) → (if b then Err d else r) ≡ Ok y → (b ≡ false) × (r ≡ Ok y)
unless_ok true r d y e = absurd cc
unless_ok false r d y e = (refl, e)

abbrev done : {A : Type 0} → A → Result A PlanError
done x = Ok x

pub ok_is : {A : Type 0} (x y : A) → done x ≡ done y → x ≡ y
ok_is x y e = cc

pub found_ok : {A : Type 0} (o : Option A) (d : PlanError) (y : A) → ok_or o d ≡ Ok y → o ≡ Some y
found_ok None d y e = absurd cc
found_ok (Some x) d y e = ap Some (ok_is x y e)

pub number_at_ok : (line most : ℕ) (f : List ℕ) (n : ℕ) → most < 2 ^ 64 → number_at line most f ≡ Ok n → (f ≡ decimal n) × (n ≤ most)
number_at_ok line most f n small e = number_ok most f n small (found_ok (number_of most f) (PlanError.Line line Cause.Number) n e)

pub number_at_again : (line most n : ℕ) → most < 2 ^ 64 → n ≤ most → number_at line most (decimal n) ≡ Ok n
number_at_again line most n small le = rw (number_again most n small le) refl

pub numbers_ok : (line most : ℕ) (found : List ℕ) (fs : List (List ℕ)) (all : List ℕ) → most < 2 ^ 64 → numbers_at line most found fs ≡ Ok all
    → (ns : List ℕ) × (all ≡ found ++ ns) × (fs ≡ map decimal ns) × AllByRecursion (λ (n : ℕ). n ≤ most) ns
unfolding numbers_at
numbers_ok line most found [] all small e = ([], sym (append-nil found ∙ ok_is found all e), refl, tt)
numbers_ok line most found (f ∷ fs) all small e =
    let b = bind_ok (number_at line most f) (λ (n : ℕ). numbers_at line most (found ++ n ∷ []) fs) all e in
    let t = number_at_ok line most f b.0 small b.1 in
    let r = numbers_ok line most (found ++ b.0 ∷ []) fs all small b.2 in
    (b.0 ∷ r.0, r.1 ∙ append_assoc found (b.0 ∷ []) r.0, cc (t.0, r.2), (t.1, r.3))

pub numbers_again : (line most : ℕ) (found ns : List ℕ) → most < 2 ^ 64 → AllByRecursion (λ (n : ℕ). n ≤ most) ns → numbers_at line most found (map decimal ns) ≡ Ok (found ++ ns)
unfolding numbers_at
numbers_again line most found [] small le = ap Ok (sym (append-nil found))
numbers_again line most found (n ∷ ns) small le =
    rw (number_at_again line most n small le.0) (numbers_again line most (found ++ n ∷ []) ns small le.1 ∙ ap Ok (append_assoc found (n ∷ []) ns))

-- numbers after a space each, as fields
pub behind_numbers : (ns : List ℕ) → behind_each 32 (map decimal ns) ≡ flat_map number_field ns
behind_numbers ns = flat_map-map (λ (p : List ℕ). 32 ∷ p) decimal ns

pub space_no_digit : IsNoDigit 32
space_no_digit = record { apart = λ d lt same. omega arith }

pub newline_no_digit : IsNoDigit 10
newline_no_digit = record { apart = λ d lt same. omega arith }

pub star_no_digit : IsNoDigit 42
star_no_digit = record { apart = λ d lt same. omega arith }

pub semicolon_no_digit : IsNoDigit 59
semicolon_no_digit = record { apart = λ d lt same. omega arith }

pub HasNo-numbers : (c : ℕ) (ns : List ℕ) → IsNoDigit c → AllByRecursion (λ (n : ℕ). n < 2 ^ 64) ns → AllByRecursion (HasNo c) (map decimal ns)
HasNo-numbers c [] none small = tt
HasNo-numbers c (n ∷ ns) none small = (HasNo-decimal c n none small.0, HasNo-numbers c ns none small.1)

pub HasNo-fields : (c : ℕ) (ns : List ℕ) → IsNoDigit c → nat_eq 32 c ≡ false → AllByRecursion (λ (n : ℕ). n < 2 ^ 64) ns → HasNo c (flat_map number_field ns)
HasNo-fields c [] none apart small = tt
HasNo-fields c (n ∷ ns) none apart small = (apart, HasNo-append c (decimal n) (flat_map number_field ns) (HasNo-decimal c n none small.0) (HasNo-fields c ns none apart small.1))

-- a line or a call with this first field is the field and the others after a space each
pub with_word : (word text : List ℕ) → bytes_eq (until 32 text) word ≡ true → text ≡ word ++ behind_each 32 (fields_of text)
with_word word text same = joined_is 32 text ∙ ap (λ (w : List ℕ). w ++ behind_each 32 (fields_of text)) ((bytes_eq-Decides (until 32 text) word).0 same)

pub word_again : (word : List ℕ) (fs : List (List ℕ)) → HasNo 32 word → bytes_eq (until 32 (word ++ behind_each 32 fs)) word ≡ true
word_again word fs none = (bytes_eq-Decides (until 32 (word ++ behind_each 32 fs)) word).1 (until_joined 32 word fs none).0

pub fields_again : (word : List ℕ) (fs : List (List ℕ)) → HasNo 32 word → AllByRecursion (HasNo 32) fs → fields_of (word ++ behind_each 32 fs) ≡ fs
fields_again word fs none nones = ap (pieces_behind 32) (until_joined 32 word fs none).1 ∙ pieces_joined 32 fs nones

pub one_is : (fs : List (List ℕ)) (a : List ℕ) → exactly_one fs ≡ Some a → fs ≡ a ∷ []
one_is [] a e = absurd cc
one_is (x ∷ []) a e = cc
one_is (x ∷ y ∷ fs) a e = absurd cc

pub two_is : (fs : List (List ℕ)) (f : List ℕ × List ℕ) → exactly_two fs ≡ Some f → fs ≡ f.0 ∷ f.1 ∷ []
two_is [] f e = absurd cc
two_is (x ∷ []) f e = absurd cc
two_is (x ∷ y ∷ []) f e = two_from x y f e
  where
    two_from : (x y : List ℕ) (f : List ℕ × List ℕ) → Some (x, y) ≡ Some f → x ∷ y ∷ [] ≡ f.0 ∷ f.1 ∷ []
    two_from x y f e = cc
two_is (x ∷ y ∷ z ∷ fs) f e = absurd cc

three_from : (x y z : List ℕ) (f : List ℕ × List ℕ × List ℕ) → Some (x, y, z) ≡ Some f → x ∷ y ∷ z ∷ [] ≡ f.0 ∷ f.1 ∷ f.2 ∷ []
three_from x y z f e = cc

pub three_is : (fs : List (List ℕ)) (f : List ℕ × List ℕ × List ℕ) → exactly_three fs ≡ Some f → fs ≡ f.0 ∷ f.1 ∷ f.2 ∷ []
three_is [] f e = absurd cc
three_is (x ∷ []) f e = absurd cc
three_is (x ∷ y ∷ []) f e = absurd cc
three_is (x ∷ y ∷ z ∷ []) f e = three_from x y z f e
three_is (x ∷ y ∷ z ∷ w ∷ fs) f e = absurd cc

four_from : (x y z w : List ℕ) (f : List ℕ × List ℕ × List ℕ × List ℕ) → Some (x, y, z, w) ≡ Some f → x ∷ y ∷ z ∷ w ∷ [] ≡ f.0 ∷ f.1 ∷ f.2 ∷ f.3 ∷ []
four_from x y z w f e = cc

pub four_is : (fs : List (List ℕ)) (f : List ℕ × List ℕ × List ℕ × List ℕ) → exactly_four fs ≡ Some f → fs ≡ f.0 ∷ f.1 ∷ f.2 ∷ f.3 ∷ []
four_is [] f e = absurd cc
four_is (x ∷ []) f e = absurd cc
four_is (x ∷ y ∷ []) f e = absurd cc
four_is (x ∷ y ∷ z ∷ []) f e = absurd cc
four_is (x ∷ y ∷ z ∷ w ∷ []) f e = four_from x y z w f e
four_is (x ∷ y ∷ z ∷ w ∷ v ∷ fs) f e = absurd cc
