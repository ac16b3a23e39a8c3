-- The running floor of equal ratio. Assumes nothing.
use Rattle.std.specs.Prelude.{◌≡◌, ℕ, ◌+◌, ◌*◌, ◌/◌, ◌<◌, ◌≤◌}
use Rattle.std.proofs.Common.{sym, ap, ◌∙◌, ⊎_elim, arith, mul-add, mul-zero, div-mul-le_self, mul-le-mul_right, mul-div_cancel}
use Rattle.std.proofs.Math.Nat.{zero-div, add-mul-div_left}
use Rattle.std.proofs.lemmas.Nat.{le-div}
use Rattle.std.proofs.lemmas.Bool.{cases_lt}
use Rattle.std.proofs.lemmas.Bool.Decides.{nat_tests}
use Rattle.sharing.specs.Rules.{running_floor}

pub floor_some : (w t s : ℕ) → 0 < w → running_floor w t s ≡ t * s / w
unfolding running_floor
floor_some w t s h = grind (arith, nat_tests)

pub floor_none : (w t s : ℕ) → w ≡ 0 → running_floor w t s ≡ 0
unfolding running_floor
floor_none w t s h = grind (arith, nat_tests)

quotient_mono : (m n w : ℕ) → 0 < w → m ≤ n → m / w ≤ n / w
quotient_mono m n w p h = le-div (m / w) n w p (omega (arith, div-mul-le_self m w))

-- the floor rises with the claims
pub floor_mono : (w t s c : ℕ) → running_floor w t s ≤ running_floor w t (s + c)
floor_mono w t s c =
    ⊎_elim
    (λ (p : 0 < w).
    omega (arith, floor_some w t s p, floor_some w t (s + c) p, quotient_mono (t * s) (t * (s + c)) w p (omega (arith, mul-add t s c))))
    (λ (z : w ≤ 0). omega (arith, floor_none w t s (omega arith)))
    (cases_lt 0 w)

-- and, where the total is within what is claimed, by no more than a claim
pub floor_within : (w t s c : ℕ) → t ≤ w → running_floor w t (s + c) ≤ running_floor w t s + c
floor_within w t s c h =
    ⊎_elim
    (λ (p : 0 < w).
    let more : t * c ≤ w * c = mul-le-mul_right c h in
    let up : t * (s + c) / w ≤ (t * s + w * c) / w = quotient_mono _ _ w p (omega (arith, mul-add t s c)) in
    omega (arith, add-mul-div_left (t * s) c p, floor_some w t s p, floor_some w t (s + c) p))
    (λ (z : w ≤ 0). omega (arith, floor_none w t (s + c) (omega arith)))
    (cases_lt 0 w)

pub floor_start : (w t : ℕ) → running_floor w t 0 ≡ 0
floor_start w t =
    ⊎_elim (λ (p : 0 < w). floor_some w t 0 p ∙ ap (λ n. n / w) (mul-zero t) ∙ zero-div w)
    (λ (z : w ≤ 0). floor_none w t 0 (omega arith))
    (cases_lt 0 w)

-- all claims together get the total
pub floor_whole : (w t : ℕ) → (w ≡ 0 → t ≡ 0) → running_floor w t w ≡ t
floor_whole w t h =
    ⊎_elim (λ (p : 0 < w). floor_some w t w p ∙ mul-div_cancel t p)
    (λ (z : w ≤ 0). let e : w ≡ 0 = omega arith in floor_none w t w e ∙ sym (h e))
    (cases_lt 0 w)
