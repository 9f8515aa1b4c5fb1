-- Steps of rounds that each make at most so many.
use Rattle.std.proofs.Common.{ℕ, suc, ◌≡◌, ◌+◌, ◌*◌, ◌<◌, ◌≤◌, ap, ◌∙◌, arith}
use Rattle.std.proofs.Math.Nat.{mul-le-mul_right, suc-mul}
use Rattle.std.proofs.Math.Numerals.{add-one}

one_more : (i p : ℕ) → (i + 1) * p ≡ i * p + p
one_more i p = ap (λ (k : ℕ). k * p) (add-one i) ∙ suc-mul i p

-- one round more
pub round_more : (i p a b c : ℕ) → b ≤ a + i * p → c ≤ b + p → c ≤ a + (i + 1) * p
round_more i p a b c so_far one = let more = one_more i p in omega (arith, so_far, one, more)

-- the last one of n
pub rounds_within : (i n p a b c : ℕ) → i < n → b ≤ a + i * p → c ≤ b + p → c ≤ a + n * p
rounds_within i n p a b c low so_far one =
    let all : suc i * p ≤ n * p = mul-le-mul_right p low in
    let more = suc-mul i p in
    omega (arith, so_far, one, more, all)

-- no round more
pub rounds_all : (i n p a b : ℕ) → i ≤ n → b ≤ a + i * p → b ≤ a + n * p
rounds_all i n p a b few so_far = let all : i * p ≤ n * p = mul-le-mul_right p few in omega (arith, so_far, all)

-- So where each round makes three steps, after so many.
pub threes_more : (k i a b c : ℕ) → b ≤ a + (k + 3 * i) → c ≤ b + 3 → c ≤ a + (k + 3 * (i + 1))
threes_more k i a b c so_far one = omega (arith, so_far, one)

pub threes_within : (k i n a b c : ℕ) → i < n → b ≤ a + (k + 3 * i) → c ≤ b + 3 → c ≤ a + (k + 3 * n)
threes_within k i n a b c low so_far one = omega (arith, low, so_far, one)

pub threes_all : (k i n a b : ℕ) → i ≤ n → b ≤ a + (k + 3 * i) → b ≤ a + (k + 3 * n)
threes_all k i n a b few so_far = omega (arith, few, so_far)

-- and where each makes four
pub fours_more : (k i a b c : ℕ) → b ≤ a + (k + 4 * i) → c ≤ b + 4 → c ≤ a + (k + 4 * (i + 1))
fours_more k i a b c so_far one = omega (arith, so_far, one)

-- an arena that is taken, looked over and given back, and one that isn't taken
pub arena_within : (n a b c d : ℕ) → b ≤ a + 1 → c ≤ b + (1 + 3 * n) → d ≤ c + 1 → d ≤ a + (3 * n + 3)
arena_within n a b c d taken looked given = omega (arith, taken, looked, given)

pub arena_kept : (n a b c : ℕ) → b ≤ a + 1 → c ≤ b + (1 + 3 * n) → c ≤ a + (3 * n + 3)
arena_kept n a b c taken looked = omega (arith, taken, looked)

pub arena_missed : (n a b : ℕ) → b ≤ a + 1 → b ≤ a + (3 * n + 3)
arena_missed n a b tried = omega (arith, tried)

-- The parts of an opening: the seals and the claim, and then the words, the exchange of the current word and the store that gives an arena back.
pub sealed_only : (s k f a b c : ℕ) → b ≤ a + s → c ≤ b + k → c ≤ a + (s + k + f + 2)
sealed_only s k f a b c sealed claimed = omega (arith, sealed, claimed)

pub all_opened : (s k f a b c d e g : ℕ) → b ≤ a + s → c ≤ b + k → d ≤ c + f → e ≤ d + 1 → g ≤ e + 1 → g ≤ a + (s + k + f + 2)
all_opened s k f a b c d e g sealed claimed filled published given = omega (arith, sealed, claimed, filled, published, given)

-- Words that are set from one on, after one step.
pub steps_past : (k a b : ℕ) → b ≤ a + 1 → b + k ≤ a + (1 + k)
steps_past k a b one = omega (arith, one)

pub steps_to : (k i a b c : ℕ) → b + k ≤ a + (1 + i) → c ≤ b + 1 → c + k ≤ a + (1 + (i + 1))
steps_to k i a b c so_far one = omega (arith, so_far, one)

pub steps_all : (k i n a b : ℕ) → i ≡ n → b + k ≤ a + (1 + i) → b ≤ a + (1 + n)
steps_all k i n a b same so_far = omega (arith, same, so_far)

-- so of those before the list words
pub fronts_more : (k i a b c : ℕ) → b + k ≤ a + i → c ≤ b + 1 → c + k ≤ a + (i + 1)
fronts_more k i a b c so_far one = omega (arith, so_far, one)

-- the values of all components, and their stamps
pub values_set : (k i n a b : ℕ) → i ≤ n → b ≤ a + (k + 4 * i) → b ≤ a + (k + 4 * n + 4 * 0)
values_set k i n a b few so_far = omega (arith, few, so_far)

pub stamps_set : (k i n a b : ℕ) → i ≤ n → b ≤ a + (k + 4 * n + 4 * i) → b ≤ a + (k + 8 * n)
stamps_set k i n a b few so_far = omega (arith, few, so_far)

pub one_after : (a b : ℕ) → a + b + 1 ≡ a + (b + 1)
one_after a b = omega arith
