-- The rule of equal ratio keeps the laws. Assumes nothing.
use Rattle.std.specs.Prelude.{◌≡◌, ℕ, zero, suc, ◌+◌, ◌-◌, ◌≤◌, List, [], ◌∷◌, length, sum, slice_index, refl}
use Rattle.std.proofs.Common.{ap, arith, add-zero, zero-add}
use Rattle.sharing.specs.Laws.{Fair}
use Rattle.sharing.specs.Questions.{Accepted, Asked}
use Rattle.sharing.specs.Rules.{running_floor, ratio_from, equal_ratio}
use Rattle.sharing.specs.Asked.{asked}
use Rattle.sharing.specs.Claims.{sum_cons}
use Rattle.sharing.specs.Floors.{floor_mono, floor_within, floor_start, floor_whole}

ratio_long : (w t s : ℕ) (cs : List ℕ) → length (ratio_from w t s cs) ≡ length cs
ratio_long w t s [] = refl
ratio_long w t s (c ∷ cs) = ap suc (ratio_long w t (s + c) cs)

ratio_sum : (w t s : ℕ) (cs : List ℕ) → sum (ratio_from w t s cs) + running_floor w t s ≡ running_floor w t (s + sum cs)
ratio_sum w t s [] = rw (zero-add, add-zero)
ratio_sum w t s (c ∷ cs) =
    let tail = ratio_sum w t (s + c) cs in
    let head = sum_cons (running_floor w t (s + c) - running_floor w t s) (ratio_from w t (s + c) cs) in
    let all : running_floor w t (s + sum (c ∷ cs)) ≡ running_floor w t (s + c + sum cs) = ap (running_floor w t) (omega (arith, sum_cons c cs)) in
    omega (arith, floor_mono w t s c)

ratio_none : (w t s : ℕ) (cs : List ℕ) (i : ℕ) → slice_index cs i ≡ 0 → slice_index (ratio_from w t s cs) i ≡ 0
ratio_none w t s [] i e = refl
ratio_none w t s (c ∷ cs) zero e = let same : running_floor w t (s + c) ≡ running_floor w t s = ap (running_floor w t) (omega arith) in omega arith
ratio_none w t s (c ∷ cs) (suc i) e = ratio_none w t (s + c) cs i e

ratio_within : (w t s : ℕ) (cs : List ℕ) → t ≤ w → (i : ℕ) → slice_index (ratio_from w t s cs) i ≤ slice_index cs i
ratio_within w t s [] h i = omega arith
ratio_within w t s (c ∷ cs) h zero = omega (arith, floor_within w t s c h)
ratio_within w t s (c ∷ cs) h (suc i) = ratio_within w t (s + c) cs h i

pub ratio_fair : (claims : List ℕ) (total : ℕ) → Accepted claims total → Fair claims total (equal_ratio claims total)
ratio_fair claims total h =
    let w = sum claims in
    let known : Asked claims total (length claims) = asked claims total (length claims) h in
    record {
      long = ratio_long w total 0 claims;
      adds =
          let end : running_floor w total (0 + w) ≡ total = rw zero-add (floor_whole w total known.zero) in
          omega (arith, ratio_sum w total 0 claims, floor_start w total);
      none = ratio_none w total 0 claims;
      within = ratio_within w total 0 claims;
    }
