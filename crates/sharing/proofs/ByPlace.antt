-- What each part is, by its place. Assumes nothing.
use Rattle.std.proofs.Common.{◌≡◌, ℕ, zero, suc, ◌+◌, ◌-◌, ◌<◌, ◌≤◌, min, List, [], ◌∷◌, length, get_or, take, drop, sum, refl, ap, ◌∙◌, add-zero, zero-add, add-one, arith}
use Rattle.std.proofs.lemmas.List.Sums.{sum_by-take-drop, get_or-le-sum_by}
use Rattle.std.proofs.lemmas.Bool.Decides.{nat_tests}
use Rattle.sharing.specs.Places.{sum_of_first, RatioPlaces, OrderPlaces}
use Rattle.sharing.specs.Rules.{running_floor, turn_of, ratio_from, order_from, equal_ratio, in_order}
use Rattle.sharing.specs.Claims.{sum_cons}
use Rattle.sharing.specs.Floors.{floor_some, floor_none, floor_start, floor_mono}

ratio_at : (w t s : ℕ) (cs : List ℕ) (i : ℕ) → i < length cs → get_or (ratio_from w t s cs) i 0 ≡ running_floor w t (s + sum_of_first (suc i) cs) - running_floor w t (s + sum_of_first i cs)
ratio_at w t s [] i h = omega arith
ratio_at w t s (c ∷ cs) zero h =
    let one : running_floor w t (s + c) ≡ running_floor w t (s + sum_of_first 1 (c ∷ cs)) = ap (running_floor w t) (omega (arith, sum_cons c [])) in
    let none : running_floor w t s ≡ running_floor w t (s + sum_of_first 0 (c ∷ cs)) = ap (running_floor w t) (omega arith) in
    omega arith
ratio_at w t s (c ∷ cs) (suc i) h =
    let tail = ratio_at w t (s + c) cs i (omega arith) in
    let up : running_floor w t (s + c + sum_of_first (suc i) cs) ≡ running_floor w t (s + sum (c ∷ take (suc i) cs)) = ap (running_floor w t) (omega (arith, sum_cons c (take (suc i) cs))) in
    let low : running_floor w t (s + c + sum_of_first i cs) ≡ running_floor w t (s + sum (c ∷ take i cs)) = ap (running_floor w t) (omega (arith, sum_cons c (take i cs))) in
    omega arith

-- the first parts add up to a running floor
ratio_front : (w t s : ℕ) (cs : List ℕ) (i : ℕ) → sum_of_first i (ratio_from w t s cs) + running_floor w t s ≡ running_floor w t (s + sum_of_first i cs)
ratio_front w t s [] zero = rw (zero-add, add-zero)
ratio_front w t s [] (suc i) = rw (zero-add, add-zero)
ratio_front w t s (c ∷ cs) zero = rw (zero-add, add-zero)
ratio_front w t s (c ∷ cs) (suc i) =
    let tail = ratio_front w t (s + c) cs i in
    let head = sum_cons (running_floor w t (s + c) - running_floor w t s) (take i (ratio_from w t (s + c) cs)) in
    let all : running_floor w t (s + sum (c ∷ take i cs)) ≡ running_floor w t (s + c + sum_of_first i cs) = ap (running_floor w t) (omega (arith, sum_cons c (take i cs))) in
    omega (arith, floor_mono w t s c)

ratio_zero : (w t s : ℕ) (cs : List ℕ) → w ≡ 0 → (i : ℕ) → get_or (ratio_from w t s cs) i 0 ≡ 0
ratio_zero w t s [] e i = refl
ratio_zero w t s (c ∷ cs) e zero = omega (arith, floor_none w t (s + c) e)
ratio_zero w t s (c ∷ cs) e (suc i) = ratio_zero w t (s + c) cs e i

pub ratio_places : (claims : List ℕ) (total : ℕ) → RatioPlaces claims total (equal_ratio claims total)
ratio_places claims total =
    let w = sum claims in
    record {
      part =
          λ p i h. rw add-one (simp zero-add at (ratio_at w total 0 claims i h) ∙ omega (arith, floor_some w total (sum_of_first (suc i) claims) p, floor_some w total (sum_of_first i claims) p));
      front =
          λ p i. omega (arith, simp zero-add at (ratio_front w total 0 claims i), floor_start w total, floor_some w total (sum_of_first i claims) p);
      nothing = λ e i. ratio_zero w total 0 claims e i;
    }

turn_filled : (left c rest : ℕ) → left ≤ c + rest → (turn_of left c rest ≡ min left c) × (left - turn_of left c rest ≤ rest) × (left - turn_of left c rest ≡ left - c)
turn_filled left c rest h = (grind (arith, nat_tests), grind (arith, nat_tests), grind (arith, nat_tests))

order_at : (left : ℕ) (cs : List ℕ) (i : ℕ) → left ≤ sum cs → i < length cs → get_or (order_from left cs) i 0 ≡ min (left - sum_of_first i cs) (get_or cs i 0)
order_at left [] i h k = omega arith
order_at left (c ∷ cs) zero h k = (turn_filled left c (sum cs) (omega (arith, sum_cons c cs))).0 ∙ omega arith
order_at left (c ∷ cs) (suc i) h k =
    let turn = turn_filled left c (sum cs) (omega (arith, sum_cons c cs)) in
    let tail = order_at (left - turn_of left c (sum cs)) cs i turn.1 (omega arith) in
    tail ∙ omega (arith, turn.2, sum_cons c (take i cs))

turn_above : (left c rest : ℕ) → c + rest ≤ left → 0 < rest → turn_of left c rest ≡ c
turn_above left c rest h k = grind (arith, nat_tests)

turn_last : (left c rest : ℕ) → rest ≡ 0 → 0 < c → turn_of left c rest ≡ left
turn_last left c rest h k = grind (arith, nat_tests)

sum_drop : (cs : List ℕ) (i : ℕ) → sum (drop i cs) ≤ sum cs
sum_drop cs i = omega (arith, sum_by-take-drop (λ x. x) cs i)

order_before : (left : ℕ) (cs : List ℕ) (i : ℕ) → sum cs ≤ left → i < length cs → 0 < sum (drop (suc i) cs) → get_or (order_from left cs) i 0 ≡ get_or cs i 0
order_before left [] i h k p = omega arith
order_before left (c ∷ cs) zero h k p = turn_above left c (sum cs) (omega (arith, sum_cons c cs)) p
order_before left (c ∷ cs) (suc i) h k p =
    let here : turn_of left c (sum cs) ≡ c = turn_above left c (sum cs) (omega (arith, sum_cons c cs)) (omega (arith, sum_drop cs (suc i))) in
    order_before (left - turn_of left c (sum cs)) cs i (omega (arith, sum_cons c cs)) (omega arith) p

order_last : (left : ℕ) (cs : List ℕ) (i : ℕ) → sum cs ≤ left → i < length cs → 0 < get_or cs i 0 → sum (drop (suc i) cs) ≡ 0 → get_or (order_from left cs) i 0 ≡ get_or cs i 0 + (left - sum cs)
order_last left [] i h k p z = omega arith
order_last left (c ∷ cs) zero h k p z = turn_last left c (sum cs) z p ∙ omega (arith, sum_cons c cs)
order_last left (c ∷ cs) (suc i) h k p z =
    let some : 0 < sum cs = omega (arith, get_or-le-sum_by (λ x. x) cs i 0 (omega arith)) in
    let here : turn_of left c (sum cs) ≡ c = turn_above left c (sum cs) (omega (arith, sum_cons c cs)) some in
    order_last (left - turn_of left c (sum cs)) cs i (omega (arith, sum_cons c cs)) (omega arith) p z ∙ omega (arith, sum_cons c cs)

pub order_places : (claims : List ℕ) (total : ℕ) → OrderPlaces claims total (in_order claims total)
order_places claims total =
    record {
      filled = λ h i k. order_at total claims i h k;
      before = λ h i k p. order_before total claims i h k (rw add-one at p);
      last = λ h i k p z. order_last total claims i h k p (rw add-one at z);
    }
