-- Claims above a limit. Assumes nothing.
use Rattle.std.specs.Prelude.{◌≡◌, ℕ, zero, suc, ◌+◌, ◌*◌, ◌<◌, ◌≤◌, true, false, List, [], ◌∷◌, length, sum, nat_lt, slice_index, refl}
use Rattle.std.proofs.Common.{⊎_elim, arith}
use Rattle.std.proofs.ByRecursion.{All-from_get_or, sum_by_le}
use Rattle.std.proofs.lemmas.List.Sums.{sum_by-cons}
use Rattle.std.proofs.lemmas.Bool.{ltb-true, ltb-false, or_parts, or_cases, both_ways}
use Rattle.sharing.specs.Questions.{any_above}

pub sum_cons : (x : ℕ) (xs : List ℕ) → sum (x ∷ xs) ≡ x + sum xs
sum_cons x xs = sum_by-cons (λ y. y) x xs

-- a claim above a limit brings the sum above it
pub above_sum : (m : ℕ) (xs : List ℕ) → any_above m xs ≡ true → m < sum xs
above_sum m [] h = absurd (both_ways false refl h)
above_sum m (x ∷ xs) h =
    ⊎_elim (λ e. omega (arith, ltb-true m x e, sum_cons x xs)) (λ e. omega (arith, above_sum m xs e, sum_cons x xs))
    (or_cases (nat_lt m x) (any_above m xs) h)

-- with no claim above a limit
pub each_under : (m : ℕ) (xs : List ℕ) → any_above m xs ≡ false → (i : ℕ) → slice_index xs i ≤ m
each_under m [] h i = omega arith
each_under m (x ∷ xs) h zero = ltb-false m x (or_parts (nat_lt m x) (any_above m xs) h).0
each_under m (x ∷ xs) h (suc i) = each_under m xs (or_parts (nat_lt m x) (any_above m xs) h).1 i

pub sum_under : (m : ℕ) (xs : List ℕ) → any_above m xs ≡ false → sum xs ≤ length xs * m
sum_under m xs h = sum_by_le (λ x. x) m xs (All-from_get_or (λ x. x ≤ m) xs 0 (λ i _. each_under m xs h i))

-- no number of a list is above its sum
pub get_d_le_sum : (xs : List ℕ) (i : ℕ) → slice_index xs i ≤ sum xs
get_d_le_sum [] i = omega arith
get_d_le_sum (x ∷ xs) zero = omega (arith, sum_cons x xs)
get_d_le_sum (x ∷ xs) (suc i) = omega (arith, sum_cons x xs, get_d_le_sum xs i)
